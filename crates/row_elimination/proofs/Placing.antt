-- A piece or a row put where its column keeps it.
use Rattle.std.proofs.Common.{◌≡◌, ◌≢◌, ◌⊎◌, ℕ, ◌+◌, ◌<◌, ◌≤◌, List, length, get_or, set, refl, sym, ap, ◌∙◌, subst, inl, inr, arith, length-set, get_or-set_same, get_or-set_other}
use Rattle.std.proofs.lemmas.List.{ext_get_or, get_or_past}
use Rattle.std.proofs.lemmas.Bool.{cases_eq, cases_lt}
use Rattle.row_arena.specs.Rows.{Arena, Row as Line, row_at, with_row}
use Rattle.row_elimination.specs.declared.columns.Column.{Column}
use Rattle.row_elimination.specs.declared.columns.Column.TheVariants.{Free, Piece, Row}
use Rattle.row_elimination.specs.HeldPlaces.{Place, free, piece, row}
use Rattle.row_arena.specs.Stretch.{stretch}
use Rattle.row_elimination.specs.HeldStorage.{place_in, places_in, part_in}
use Rattle.row_elimination.proofs.Storing.{at_places, length-places, with_here, with_others}

-- the storage says the same of all columns but one
pub places_set : (size : ℕ) (area area' : List ℕ) (arena arena' : Arena) (os os' : List Column) (k : ℕ) (x : Place) → k < length os
    → length os' ≡ length os
    → place_in size area' arena' k (get_or os' k Free) ≡ x
    → ((c : ℕ) → c ≢ k → place_in size area' arena' c (get_or os' c Free) ≡ place_in size area arena c (get_or os c Free))
    → places_in size area' arena' os' ≡ set (places_in size area arena os) k x
places_set size area area' arena arena' os os' k x lt sized here others =
    let old : List Place = places_in size area arena os in
    let new : List Place = places_in size area' arena' os' in
    let long : length old ≡ length os = length-places size area arena os in
    ext_get_or free new (set old k x) (length-places size area' arena' os' ∙ sized ∙ sym (length-set old k x ∙ long)) (λ c clt.
    at_places size area' arena' c os' ∙ elim (cases_eq c k) [
      | inl same ↦
          ap (λ n. place_in size area' arena' n (get_or os' n Free)) same ∙ here
          ∙ sym (ap (λ n. get_or (set old k x) n free) same ∙ get_or-set_same old k x free (omega arith))
      | inr other ↦
          others c other ∙ sym (at_places size area arena c os)
          ∙ sym (get_or-set_other old k c x free other)
    ])

place_piece : (size : ℕ) (area area' : List ℕ) (arena : Arena) (c : ℕ) (o : Column) → stretch c size area' ≡ stretch c size area
    → place_in size area' arena c o ≡ place_in size area arena c o
unfolding place_in
place_piece size area area' arena c Free e = refl
place_piece size area area' arena c Piece e = ap piece e
place_piece size area area' arena c (Row slot) e = refl

is_piece_place : (size : ℕ) (area : List ℕ) (arena : Arena) (c : ℕ) (o : Column) (part : List ℕ) → o ≡ Piece → stretch c size area ≡ part → place_in size area arena c o ≡ piece part
unfolding place_in
is_piece_place size area arena c o part is e = ap (place_in size area arena c) is ∙ ap piece e

pub piece_put : (size : ℕ) (area area' : List ℕ) (arena : Arena) (os : List Column) (k : ℕ) (part : List ℕ) → k < length os
    → stretch k size area' ≡ part → ((j : ℕ) → j ≢ k → stretch j size area' ≡ stretch j size area)
    → places_in size area' arena (set os k Piece) ≡ set (places_in size area arena os) k (piece part)
piece_put size area area' arena os k part lt here others =
    places_set size area area' arena arena os (set os k Piece) k (piece part) lt (length-set os k Piece)
    (is_piece_place size area' arena k (get_or (set os k Piece) k Free) part (get_or-set_same os k Piece Free lt) here)
    (λ c ne. ap (place_in size area' arena c) (get_or-set_other os k c Piece Free ne) ∙ place_piece size area area' arena c (get_or os c Free) (others c ne))

place_row : (size : ℕ) (area : List ℕ) (arena arena' : Arena) (c slot : ℕ) (o : Column) → o ≢ Row slot
    → ((s : ℕ) → s ≢ slot → row_at arena' s ≡ row_at arena s) → place_in size area arena' c o ≡ place_in size area arena c o
unfolding place_in
place_row size area arena arena' c slot Free ne e = refl
place_row size area arena arena' c slot Piece ne e = refl
place_row size area arena arena' c slot (Row t) ne e =
    let other : t ≢ slot = λ s. ne (ap Row s) in
    ap (λ (r : Line). row r.line r.part) (e t other)

is_row_place : (size : ℕ) (area : List ℕ) (arena : Arena) (c slot : ℕ) (o : Column) (r : Line) → o ≡ Row slot → row_at arena slot ≡ r → place_in size area arena c o ≡ row r.line r.part
unfolding place_in
is_row_place size area arena c slot o r is e = ap (place_in size area arena c) is ∙ ap (λ (x : Line). row x.line x.part) e

pub row_put : (size : ℕ) (area : List ℕ) (arena arena' : Arena) (os : List Column) (slot p : ℕ) (r : Line) → p < length os → slot < length arena.rows
    → arena' ≡ with_row arena slot r → ((c : ℕ) → c ≢ p → get_or os c Free ≢ Row slot)
    → places_in size area arena' (set os p (Row slot)) ≡ set (places_in size area arena os) p (row r.line r.part)
row_put size area arena arena' os slot p r lt slt e alone =
    places_set size area area arena arena' os (set os p (Row slot)) p (row r.line r.part) lt (length-set os p (Row slot))
    (is_row_place size area arena' p slot (get_or (set os p (Row slot)) p Free) r (get_or-set_same os p (Row slot) Free lt) (with_here arena arena' slot r slt e))
    (λ c ne. ap (place_in size area arena' c) (get_or-set_other os p c (Row slot) Free ne)
    ∙ place_row size area arena arena' c slot (get_or os c Free) (alone c ne) (λ s other. with_others arena arena' slot s r other e))

-- ---- parts put where the pieces belong

pub part_stays : (size : ℕ) (area : List ℕ) (arena : Arena) (c : ℕ) (o : Column) → (o ≡ Free) ⊎ (o ≡ Piece) → stretch c size area ≡ part_in size area arena c o
unfolding part_in
part_stays size area arena c o (inl is) = sym (ap (part_in size area arena c) is)
part_stays size area arena c o (inr is) = sym (ap (part_in size area arena c) is)

pub part_is : (size : ℕ) (area : List ℕ) (arena : Arena) (now : List ℕ) (c slot : ℕ) (o : Column) → o ≡ Row slot → now ≡ (row_at arena slot).part → now ≡ part_in size area arena c o
unfolding part_in
part_is size area arena now c slot o is e = e ∙ sym (ap (part_in size area arena c) is)

pub record Putting (size : ℕ) (os : List Column) (area area' : List ℕ) (arena : Arena) (c : ℕ) : Type 0 where
  pub done : (d : ℕ) → d < c → stretch d size area' ≡ part_in size area arena d (get_or os d Free)
  pub left : (d : ℕ) → c ≤ d → stretch d size area' ≡ stretch d size area

part_of_same : (size : ℕ) (area area' : List ℕ) (arena : Arena) (c : ℕ) (o : Column) → stretch c size area' ≡ stretch c size area → part_in size area' arena c o ≡ part_in size area arena c o
unfolding part_in
part_of_same size area area' arena c Free e = e
part_of_same size area area' arena c Piece e = e
part_of_same size area area' arena c (Row slot) e = refl

pub putting_turn : (size : ℕ) (os : List Column) (area now area' : List ℕ) (arena : Arena) (c : ℕ) → stretch c size area' ≡ part_in size now arena c (get_or os c Free)
    → ((d : ℕ) → d ≢ c → stretch d size area' ≡ stretch d size now) → Putting size os area now arena c → Putting size os area area' arena (c + 1)
putting_turn size os area now area' arena c here others h = record {
  done = λ d lt. elim (cases_eq d c) [
    | inl same ↦
        let P : ℕ → Type 0 = λ n. stretch n size area' ≡ part_in size area arena n (get_or os n Free) in
        subst P (sym same) (here ∙ part_of_same size area now arena c (get_or os c Free) (h.left c (omega arith)))
    | inr other ↦ others d other ∙ h.done d (omega arith)
  ];
  left = λ d le. others d (let ne : d ≢ c = (omega arith) in ne) ∙ h.left d (omega arith);
}

pub putting_ends : (size : ℕ) (os : List Column) (area area' : List ℕ) (arena : Arena) (c : ℕ) → length os ≤ c → Putting size os area area' arena c
    → (d : ℕ) → stretch d size area' ≡ part_in size area arena d (get_or os d Free)
unfolding part_in
putting_ends size os area area' arena c past h d = elim (cases_lt d c) [
  | inl lt ↦ h.done d lt
  | inr le ↦ h.left d le ∙ sym (ap (part_in size area arena d) (get_or_past os d Free (omega arith)))
]
