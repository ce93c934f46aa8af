-- Which slots are in use, as columns come and go.
use Rattle.std.proofs.Common.{◌≡◌, ◌≢◌, ◌⊎◌, ℕ, ◌+◌, ◌<◌, ◌≤◌, List, length, get_or, set, sym, ap, ◌∙◌, subst, inl, inr, arith, length-set, get_or-set_same, get_or-set_other}
use Rattle.std.proofs.lemmas.Bool.{cases_eq}
use Rattle.row_elimination.specs.declared.columns.Column.{Column}
use Rattle.row_elimination.specs.declared.columns.Column.TheVariants.{Free, Piece, Row}
use Rattle.row_arena.specs.Rows.{Arena}
use Rattle.row_elimination.specs.HeldStorage.{Slots, IsStored}

row_same : (s t : ℕ) → Row s ≡ Row t → s ≡ t
row_same s t e = cc

piece_no_row : (s : ℕ) → Piece ≢ Row s
piece_no_row s e = cc

-- the column with something else in its place
set_cases : (os : List Column) (k c : ℕ) (x y : Column) → k < length os → get_or (set os k x) c Free ≡ y → ((c ≡ k) × (x ≡ y)) ⊎ ((c ≢ k) × (get_or os c Free ≡ y))
set_cases os k c x y lt e = elim (cases_eq c k) [
  | inl same ↦ inl (same, sym (get_or-set_same os k x Free lt) ∙ sym (ap (λ n. get_or (set os k x) n Free) same) ∙ e)
  | inr other ↦ inr (other, sym (get_or-set_other os k c x Free other) ∙ e)
]

-- a row in a spare slot
pub slots_pushed : (os : List Column) (spare : List ℕ) (rows count p : ℕ) → p < length os → count < rows → Slots os spare rows count → Slots (set os p (Row (get_or spare count 0))) spare rows (count + 1)
slots_pushed os spare rows count p lt more h =
    let s : ℕ = get_or spare count 0 in
    record {
      within = λ c t e. elim (set_cases os p c (Row s) (Row t) lt e) [
        | inl f ↦ subst (λ z. z < rows) (row_same s t f.1) (h.spare_within count (omega arith) more)
        | inr f ↦ h.within c t f.1
      ];
      alone = λ c d t e f. elim (set_cases os p c (Row s) (Row t) lt e) [
        | inl x ↦ elim (set_cases os p d (Row s) (Row t) lt f) [
          | inl y ↦ x.0 ∙ sym y.0
          | inr y ↦ absurd (h.spare_free count d (omega arith) more (y.1 ∙ ap Row (sym (row_same s t x.1))))
        ]
        | inr x ↦ elim (set_cases os p d (Row s) (Row t) lt f) [
          | inl y ↦ absurd (h.spare_free count c (omega arith) more (x.1 ∙ ap Row (sym (row_same s t y.1))))
          | inr y ↦ h.alone c d t x.1 y.1
        ]
      ];
      few = omega arith;
      spare_within = λ i le below. h.spare_within i (omega arith) below;
      spare_free = λ i c le below e. elim (set_cases os p c (Row s) (Row (get_or spare i 0)) lt e) [
        | inl x ↦ let same : count ≡ i = h.spare_alone count i (omega arith) more (omega arith) below (row_same s (get_or spare i 0) x.1) in absurd (omega arith)
        | inr x ↦ h.spare_free i c (omega arith) below x.1
      ];
      spare_alone = λ i j a b d f. h.spare_alone i j (omega arith) b (omega arith) f;
    }

-- a piece instead of whatever was there
pub slots_piece : (os : List Column) (spare : List ℕ) (rows count k : ℕ) → k < length os → Slots os spare rows count → Slots (set os k Piece) spare rows count
slots_piece os spare rows count k lt h = record {
  within = λ c t e. elim (set_cases os k c Piece (Row t) lt e) [ inl x ↦ absurd (piece_no_row t x.1) | inr x ↦ h.within c t x.1 ];
  alone = λ c d t e f. elim (set_cases os k c Piece (Row t) lt e) [
    | inl x ↦ absurd (piece_no_row t x.1)
    | inr x ↦ elim (set_cases os k d Piece (Row t) lt f) [ inl y ↦ absurd (piece_no_row t y.1) | inr y ↦ h.alone c d t x.1 y.1 ]
  ];
  few = h.few;
  spare_within = h.spare_within;
  spare_free = λ i c le below e. elim (set_cases os k c Piece (Row (get_or spare i 0)) lt e) [ inl x ↦ absurd (piece_no_row (get_or spare i 0) x.1) | inr x ↦ h.spare_free i c le below x.1 ];
  spare_alone = h.spare_alone;
}

-- after it the slot of the row that was there is used by no column
pub no_longer_used : (os : List Column) (spare : List ℕ) (rows count k slot c : ℕ) → k < length os → get_or os k Free ≡ Row slot → Slots os spare rows count → get_or (set os k Piece) c Free ≢ Row slot
no_longer_used os spare rows count k slot c lt is h e = elim (set_cases os k c Piece (Row slot) lt e) [
  | inl x ↦ piece_no_row slot x.1
  | inr x ↦ x.0 (h.alone c k slot x.1 is)
]

-- the same, of columns whose rows an arena has
pub no_longer_stored : (size : ℕ) (arena : Arena) (os : List Column) (k slot c : ℕ) → k < length os → get_or os k Free ≡ Row slot → IsStored size arena os → get_or (set os k Piece) c Free ≢ Row slot
no_longer_stored size arena os k slot c lt is h e = elim (set_cases os k c Piece (Row slot) lt e) [
  | inl x ↦ piece_no_row slot x.1
  | inr x ↦ x.0 (h.alone c k slot x.1 is)
]

-- another column takes over that slot
pub slots_moved : (os : List Column) (spare : List ℕ) (rows count k p slot : ℕ) → k < length os → p < length os → get_or os k Free ≡ Row slot → Slots os spare rows count
    → Slots (set (set os k Piece) p (Row slot)) spare rows count
slots_moved os spare rows count k p slot lt plt is h =
    let without : List Column = set os k Piece in
    let g = slots_piece os spare rows count k lt h in
    let plt' : p < length without = omega (arith, length-set os k Piece) in
    record {
      within = λ c t e. elim (set_cases without p c (Row slot) (Row t) plt' e) [
        | inl x ↦ subst (λ z. z < rows) (row_same slot t x.1) (h.within k slot is)
        | inr x ↦ g.within c t x.1
      ];
      alone = λ c d t e f. elim (set_cases without p c (Row slot) (Row t) plt' e) [
        | inl x ↦ elim (set_cases without p d (Row slot) (Row t) plt' f) [
          | inl y ↦ x.0 ∙ sym y.0
          | inr y ↦ absurd (no_longer_used os spare rows count k slot d lt is h (y.1 ∙ ap Row (sym (row_same slot t x.1))))
        ]
        | inr x ↦ elim (set_cases without p d (Row slot) (Row t) plt' f) [
          | inl y ↦ absurd (no_longer_used os spare rows count k slot c lt is h (x.1 ∙ ap Row (sym (row_same slot t y.1))))
          | inr y ↦ g.alone c d t x.1 y.1
        ]
      ];
      few = h.few;
      spare_within = h.spare_within;
      spare_free = λ i c le below e. elim (set_cases without p c (Row slot) (Row (get_or spare i 0)) plt' e) [
        | inl x ↦ h.spare_free i k le below (is ∙ x.1)
        | inr x ↦ g.spare_free i c le below x.1
      ];
      spare_alone = h.spare_alone;
    }

-- the slot of the row that was there becomes spare
pub slots_freed : (os : List Column) (spare : List ℕ) (rows count less k slot : ℕ) → k < length os → get_or os k Free ≡ Row slot → count ≡ less + 1 → less < length spare → Slots os spare rows count
    → Slots (set os k Piece) (set spare less slot) rows less
slots_freed os spare rows count less k slot lt is e slt h =
    let g = slots_piece os spare rows count k lt h in
    let new : List ℕ = set spare less slot in
    let here : get_or new less 0 ≡ slot = get_or-set_same spare less slot 0 slt in
    let there : (i : ℕ) → i ≢ less → get_or new i 0 ≡ get_or spare i 0 = λ i ne. get_or-set_other spare less i slot 0 ne in
    let unused : (i : ℕ) → count ≤ i → i < rows → get_or spare i 0 ≢ slot = λ i le below f. h.spare_free i k le below (is ∙ ap Row (sym f)) in
    record {
      within = g.within;
      alone = g.alone;
      few = omega (arith, h.few);
      spare_within = λ i le below. elim (cases_eq i less) [
        | inl same ↦ subst (λ z. z < rows) (sym (ap (λ n. get_or new n 0) same ∙ here)) (h.within k slot is)
        | inr other ↦ subst (λ z. z < rows) (sym (there i other)) (h.spare_within i (omega arith) below)
      ];
      spare_free = λ i c le below f. elim (cases_eq i less) [
        | inl same ↦ no_longer_used os spare rows count k slot c lt is h (f ∙ ap Row (ap (λ n. get_or new n 0) same ∙ here))
        | inr other ↦ g.spare_free i c (omega arith) below (f ∙ ap Row (there i other))
      ];
      spare_alone = λ i j a b d f s. elim (cases_eq i less) [
        | inl x ↦ elim (cases_eq j less) [
          | inl y ↦ x ∙ sym y
          | inr y ↦ absurd (unused j (omega arith) f (sym (there j y) ∙ sym s ∙ ap (λ n. get_or new n 0) x ∙ here))
        ]
        | inr x ↦ elim (cases_eq j less) [
          | inl y ↦ absurd (unused i (omega arith) b (sym (there i x) ∙ s ∙ ap (λ n. get_or new n 0) y ∙ here))
          | inr y ↦ h.spare_alone i j (omega arith) b (omega arith) f (sym (there i x) ∙ s ∙ there j y)
        ]
      ];
    }

-- at first all are spare
pub slots_none : (os : List Column) (spare : List ℕ) (rows : ℕ) → ((c : ℕ) → get_or os c Free ≡ Free) → ((i : ℕ) → i < rows → get_or spare i 0 ≡ i) → Slots os spare rows 0
slots_none os spare rows none each = record {
  within = λ c t e. absurd (let f : Free ≡ Row t = sym (none c) ∙ e in cc);
  alone = λ c d t e f. absurd (let f : Free ≡ Row t = sym (none c) ∙ e in cc);
  few = omega arith;
  spare_within = λ i le below. subst (λ z. z < rows) (sym (each i below)) below;
  spare_free = λ i c le below e. absurd (let f : Free ≡ Row (get_or spare i 0) = sym (none c) ∙ e in cc);
  spare_alone = λ i j a b d f s. sym (each i b) ∙ s ∙ each j f;
}
