-- What the storage says of the places, column by column, and what the passes make of it.
use Rattle.std.proofs.Common.{◌≡◌, ◌≢◌, ◌⊎◌, ℕ, zero, suc, ◌+◌, ◌*◌, ◌<◌, ◌≤◌, ◌^◌, true, false, cond, ◌==◌, List, [], ◌∷◌, ◌++◌, length, take, get_or, Some, bit_xor, true≢false, refl, sym, ap, ◌∙◌, subst, inl, inr, arith, length-take, length-set, get_or-set_same, get_or-set_other}
use Rattle.std.specs.Int.{bit_at}
use Rattle.std.specs.Simd.Lanes.{zip2}
use Rattle.std.proofs.lemmas.List.{ext_get_or, get_or_past, get_or-take}
use Rattle.std.proofs.lemmas.Bool.{cases_eq, cases_lt}
use Rattle.std.proofs.lemmas.Nat.Bits.{bit_at-lt, bit_at_xor, bit_at-pow_same, bit_at-pow_other}
use Rattle.frag_model.specs.Fragments.{Equation, IsPiece, xor_bytes}
use Rattle.row_arena.specs.Rows.{Arena, Row as Line, zero_row, row_at, with_row, row_sum, words_for, line_in}
use Rattle.row_arena.specs.Sums.{after_flips, after_pieces}
use Rattle.row_arena.proofs.Flips.{after_flips-more}
use Rattle.row_elimination.specs.declared.columns.Column.{Column}
use Rattle.row_elimination.specs.declared.columns.Column.TheVariants.{Free, Piece, Row}
use Rattle.row_elimination.specs.HeldPlaces.{Place, free, row, told, is_piece, cleared, all_cleared}
use Rattle.row_elimination.specs.Inside.{IsReduced, Marks}
use Rattle.row_elimination.specs.HeldStorage.{place_in, places_from, places_in, line_cleared, IsStored, IsRowOf, SameShape, Clears, ClearsAll}
use Rattle.row_elimination.specs.HeldSteps.{Tells, Taken, Reduced, TakesRow}
use Rattle.row_elimination.proofs.Lines.{sum_is}
use Rattle.row_elimination.proofs.Growing.{at_all_cleared, length-all_cleared}
use Rattle.row_arena.proofs.Stretched.{stretch_within}
use Rattle.row_elimination.proofs.Reducing.{taken_begins, taken_more, taken_picks, piece_at}

at_from : (size : ℕ) (area : List ℕ) (arena : Arena) (c k : ℕ) (os : List Column)
    → get_or (places_from size area arena c os) k free ≡ place_in size area arena (c + k) (get_or os k Free)
unfolding places_from place_in
at_from size area arena c k [] = refl
at_from size area arena c zero (o ∷ os) = ap (λ n. place_in size area arena n o) (let e : c ≡ c + 0 = omega arith in e)
at_from size area arena c (suc k) (o ∷ os) =
    at_from size area arena (suc c) k os ∙ ap (λ n. place_in size area arena n (get_or os k Free)) (let e : suc c + k ≡ c + suc k = omega arith in e)

pub at_places : (size : ℕ) (area : List ℕ) (arena : Arena) (k : ℕ) (os : List Column)
    → get_or (places_in size area arena os) k free ≡ place_in size area arena k (get_or os k Free)
unfolding places_in
at_places size area arena k os =
    at_from size area arena 0 k os ∙ ap (λ n. place_in size area arena n (get_or os k Free)) (let e : 0 + k ≡ k = omega arith in e)

length-from : (size : ℕ) (area : List ℕ) (arena : Arena) (c : ℕ) (os : List Column) → length (places_from size area arena c os) ≡ length os
unfolding places_from
length-from size area arena c [] = refl
length-from size area arena c (o ∷ os) = ap suc (length-from size area arena (suc c) os)

pub length-places : (size : ℕ) (area : List ℕ) (arena : Arena) (os : List Column) → length (places_in size area arena os) ≡ length os
unfolding places_in
length-places size area arena os = length-from size area arena 0 os

-- ---- what the kinds of the places say of the columns

row_same : (s t : ℕ) → Row s ≡ Row t → s ≡ t
row_same s t e = cc

pub piece_column : (size : ℕ) (area : List ℕ) (arena : Arena) (c : ℕ) (os : List Column) → is_piece (get_or (places_in size area arena os) c free) ≡ true → get_or os c Free ≡ Piece
unfolding place_in is_piece
piece_column size area arena c os is = by_column (get_or os c Free) (sym (ap is_piece (at_places size area arena c os)) ∙ is)
  where
    by_column : (o : Column) → is_piece (place_in size area arena c o) ≡ true → o ≡ Piece
    by_column Free e = absurd (true≢false (sym e))
    by_column Piece e = refl
    by_column (Row slot) e = absurd (true≢false (sym e))

pub column_piece : (size : ℕ) (area : List ℕ) (arena : Arena) (c : ℕ) (os : List Column) → get_or os c Free ≡ Piece → is_piece (get_or (places_in size area arena os) c free) ≡ true
unfolding place_in is_piece
column_piece size area arena c os is = ap is_piece (at_places size area arena c os ∙ ap (place_in size area arena c) is)

pub piece_told : (size : ℕ) (area : List ℕ) (arena : Arena) (c : ℕ) (os : List Column) → get_or os c Free ≡ Piece → Tells (places_in size area arena os) c (piece_at size area c)
unfolding place_in told
piece_told size area arena c os is = ap (told c) (at_places size area arena c os ∙ ap (place_in size area arena c) is)

pub row_told : (size : ℕ) (area : List ℕ) (arena : Arena) (c slot : ℕ) (os : List Column) → get_or os c Free ≡ Row slot
    → Tells (places_in size area arena os) c (record { line = (row_at arena slot).line; part = (row_at arena slot).part })
unfolding place_in told
row_told size area arena c slot os is = ap (told c) (at_places size area arena c os ∙ ap (place_in size area arena c) is)

pub free_column : (size : ℕ) (area : List ℕ) (arena : Arena) (c : ℕ) (os : List Column) (e : Equation) → get_or os c Free ≡ Free → Tells (places_in size area arena os) c e → ⊥
unfolding place_in told
free_column size area arena c os e is tells =
    let no_one : told c free ≡ Some e = sym (ap (told c) (at_places size area arena c os ∙ ap (place_in size area arena c) is)) ∙ tells in
    cc

pub column_within : (os : List Column) (c : ℕ) → get_or os c Free ≡ Piece → c < length os
column_within os c is = elim (cases_lt c (length os)) [
  | inl lt ↦ lt
  | inr past ↦ absurd (let no_one : Free ≡ Piece = sym (get_or_past os c Free past) ∙ is in cc)
]

-- ---- pieces taken out of an equation

-- the picks are columns of which a piece is kept
pub known_column : (size : ℕ) (area : List ℕ) (arena : Arena) (os : List Column) (known n count : ℕ) (picks : List ℕ) → Marks known (places_in size area arena os)
    → ((k : ℕ) → k < count → bit_at known (get_or picks k 0) ≡ 1) → n < length (take count picks) → get_or os (get_or (take count picks) n 0) Free ≡ Piece
known_column size area arena os known n count picks marks on lt =
    let below : n < count = omega (arith, length-take count picks) in
    ap (λ c. get_or os c Free) (get_or-take count picks n 0 below)
    ∙ piece_column size area arena (get_or picks n 0) os (marks.on (get_or picks n 0) (on n below))

pub known_room : (size : ℕ) (area : List ℕ) (arena : Arena) (os : List Column) (known n count : ℕ) (picks : List ℕ) → Marks known (places_in size area arena os)
    → ((k : ℕ) → k < count → bit_at known (get_or picks k 0) ≡ 1) → n < length (take count picks) → IsReduced (length os) size (places_in size area arena os)
    → get_or (take count picks) n 0 * size + size ≤ length area
known_room size area arena os known n count picks marks on lt reduced =
    let c : ℕ = get_or (take count picks) n 0 in
    stretch_within c size area (reduced.part c (piece_at size area c) (piece_told size area arena c os (known_column size area arena os known n count picks marks on lt))).sized

pub pieces_taken : (size : ℕ) (area : List ℕ) (arena : Arena) (os : List Column) (known line count : ℕ) (picks : List ℕ) (left : ℕ) (part rest : List ℕ)
    → IsReduced (length os) size (places_in size area arena os) → Marks known (places_in size area arena os) → IsPiece size part → line < 2 ^ length os
    → ((k : ℕ) → k < count → bit_at known (get_or picks k 0) ≡ 1) → left ≡ after_flips line (take count picks)
    → length rest ≡ size → ((i : ℕ) → i < size → get_or rest i 0 ≡ after_pieces size area i (get_or part i 0) (take count picks))
    → Taken (length os) size (places_in size area arena os) line part left rest
pieces_taken size area arena os known line count picks left part rest t marks whole within on is sized bytes =
    let cols : ℕ = length os in
    let ps : List Place = places_in size area arena os in
    let ks : List ℕ = take count picks in
    subst (λ l. Taken cols size ps line part l rest) (sym is)
    (taken_picks cols size ps line part line area part ks rest t
    (λ n lt. piece_told size area arena (get_or ks n 0) os (known_column size area arena os known n count picks marks on lt))
    sized bytes (taken_begins cols size ps line part within whole))

-- ---- rows taken out of an equation

pub takes_none : (arena : Arena) (o : Column) (l : ℕ) (q : List ℕ) → (o ≡ Free) ⊎ (o ≡ Piece) → TakesRow arena o l q l q
takes_none arena o l q (inl is) = record {
  none = λ ne. (refl, refl);
  row = λ slot e. absurd (let no_one : Free ≡ Row slot = sym is ∙ e in cc);
}
takes_none arena o l q (inr is) = record {
  none = λ ne. (refl, refl);
  row = λ slot e. absurd (let no_one : Piece ≡ Row slot = sym is ∙ e in cc);
}

pub takes_row : (arena : Arena) (o : Column) (slot l : ℕ) (q : List ℕ) (l' : ℕ) (q' : List ℕ) → o ≡ Row slot
    → l' ≡ bit_xor l (row_at arena slot).line → q' ≡ zip2 bit_xor q (row_at arena slot).part → TakesRow arena o l q l' q'
takes_row arena o slot l q l' q' is e f = record {
  none = λ ne. absurd (ne slot is);
  row = λ s here.
      let same : slot ≡ s = row_same slot s (sym is ∙ here) in
      (e ∙ ap (λ k. bit_xor l (row_at arena k).line) same, f ∙ ap (λ k. zip2 bit_xor q (row_at arena k).part) same);
}

-- the rows that these columns lead were added to an equation: of all columns that are held it has what it had after flipping them
pub record RowsTaken (size : ℕ) (arena : Arena) (os : List Column) (l : ℕ) (q ks : List ℕ) (l' : ℕ) (q' : List ℕ) : Type 0 where
  pub taken : (area : List ℕ) (y : ℕ) (part : List ℕ) → IsReduced (length os) size (places_in size area arena os)
      → Taken (length os) size (places_in size area arena os) y part l q → Taken (length os) size (places_in size area arena os) y part l' q'
  pub bits : (area : List ℕ) (d : ℕ) (e : Equation) → IsReduced (length os) size (places_in size area arena os) → Tells (places_in size area arena os) d e
      → bit_at l' d ≡ bit_at (after_flips l ks) d

pub rows_none : (size : ℕ) (arena : Arena) (os : List Column) (l : ℕ) (q ks : List ℕ) → RowsTaken size arena os l q (take 0 ks) l q
unfolding after_flips
rows_none size arena os l q ks = record { taken = λ area y part t h. h; bits = λ area d e t tells. refl }

pub rows_more : (size : ℕ) (arena : Arena) (os : List Column) (l : ℕ) (q ks : List ℕ) (c l1 : ℕ) (q1 : List ℕ) (l2 : ℕ) (q2 : List ℕ)
    → IsStored size arena os → get_or os c Free ≢ Piece → TakesRow arena (get_or os c Free) l1 q1 l2 q2 → RowsTaken size arena os l q ks l1 q1
    → RowsTaken size arena os l q (ks ++ c ∷ []) l2 q2
rows_more size arena os l q ks c l1 q1 l2 q2 stored no_piece takes h = by_column (get_or os c Free) refl
  where
    flips : (d : ℕ) → bit_at (after_flips l (ks ++ c ∷ [])) d ≡ bit_at (bit_xor (after_flips l ks) (2 ^ c)) d
    flips d = ap (λ n. bit_at n d) (after_flips-more l ks c)

    stay : ((slot : ℕ) → get_or os c Free ≢ Row slot) → get_or os c Free ≡ Free → RowsTaken size arena os l q (ks ++ c ∷ []) l2 q2
    stay none is =
        let same = takes.none none in
        record {
          taken = λ area y part t k.
              let P : ℕ → List ℕ → Type 0 = λ m n. Taken (length os) size (places_in size area arena os) y part m n in
              subst (λ m. P m q2) (sym same.0) (subst (λ n. P l1 n) (sym same.1) (h.taken area y part t k));
          bits = λ area d e t tells.
              let ne : d ≢ c = λ s. free_column size area arena c os e is (subst (λ n. Tells (places_in size area arena os) n e) s tells) in
              ap (λ n. bit_at n d) same.0 ∙ h.bits area d e t tells
              ∙ sym (flips d ∙ (omega (arith, bit_at_xor (after_flips l ks) (2 ^ c) d, bit_at-pow_other c d ne, bit_at-lt (after_flips l ks) d)));
        }

    adds : (slot : ℕ) → get_or os c Free ≡ Row slot → RowsTaken size arena os l q (ks ++ c ∷ []) l2 q2
    adds slot is =
        let next = takes.row slot is in
        let r : Line = row_at arena slot in
        let f : Equation = record { line = r.line; part = r.part } in
        record {
          taken = λ area y part t k.
              let before : Taken (length os) size (places_in size area arena os) y part l1 q1 = h.taken area y part t k in
              let sum : q2 ≡ xor_bytes q1 r.part = next.1 ∙ sum_is q1 r.part (before.piece.sized ∙ sym (stored.parts c slot is)) in
              let P : ℕ → List ℕ → Type 0 = λ m n. Taken (length os) size (places_in size area arena os) y part m n in
              subst (λ m. P m q2) (sym next.0) (subst (λ n. P (bit_xor l1 r.line) n) (sym sum)
              (taken_more (length os) size (places_in size area arena os) y part c l1 q1 f t (row_told size area arena c slot os is) before));
          bits = λ area d e t tells.
              let own : bit_at r.line c ≡ 1 = t.own c f (row_told size area arena c slot os is) in
              let was : bit_at l1 d ≡ bit_at (after_flips l ks) d = h.bits area d e t tells in
              let same : bit_at r.line d ≡ bit_at (2 ^ c) d = elim (cases_eq d c) [
                | inl here ↦ ap (λ n. bit_at r.line n) here ∙ own ∙ sym (ap (λ n. bit_at (2 ^ c) n) here ∙ bit_at-pow_same c)
                | inr other ↦ t.apart c d f e (λ s. other (sym s)) (row_told size area arena c slot os is) tells ∙ sym (bit_at-pow_other c d other)
              ] in
              ap (λ n. bit_at n d) next.0 ∙ (omega (arith, was, same, bit_at_xor l1 r.line d, bit_at_xor (after_flips l ks) (2 ^ c) d)) ∙ sym (flips d);
        }

    by_column : (o : Column) → get_or os c Free ≡ o → RowsTaken size arena os l q (ks ++ c ∷ []) l2 q2
    by_column Free is = stay (λ slot e. let no_one : Free ≡ Row slot = sym is ∙ e in cc) is
    by_column Piece is = absurd (no_piece is)
    by_column (Row slot) is = adds slot is

-- after the rows of all its columns the equation has no column that is held
pub rows_all : (size : ℕ) (area : List ℕ) (arena : Arena) (os : List Column) (l : ℕ) (q ks : List ℕ) (l' : ℕ) (q' : List ℕ) (y : ℕ) (part : List ℕ)
    → ((c : ℕ) → bit_at (after_flips l ks) c ≡ 0) → RowsTaken size arena os l q ks l' q' → IsReduced (length os) size (places_in size area arena os)
    → Taken (length os) size (places_in size area arena os) y part l q → Reduced (length os) size (places_in size area arena os) y part l' q'
rows_all size area arena os l q ks l' q' y part none h t k =
    let all : Taken (length os) size (places_in size area arena os) y part l' q' = h.taken area y part t k in
    record {
      agrees = all.agrees;
      sum = all.sum;
      clear = λ d e tells. h.bits area d e t tells ∙ none d;
      within = all.within;
      piece = all.piece;
    }

-- ---- a new row's column cleared

pub same_shape : (arena : Arena) → SameShape arena arena
same_shape arena = record { cols = refl; cell = refl; rows = refl }

pub shape_then : (a b c : Arena) → SameShape a b → SameShape b c → SameShape a c
shape_then a b c h k = record { cols = k.cols ∙ h.cols; cell = k.cell ∙ h.cell; rows = k.rows ∙ h.rows }

pub row_then : (a b : Arena) (line part : List ℕ) → SameShape a b → IsRowOf a line part → IsRowOf b line part
row_then a b line part h is = record {
  words = is.words ∙ ap words_for (sym h.cols);
  within = subst (λ (n : ℕ). line_in line < 2 ^ n) (sym h.cols) is.within;
  sized = is.sized ∙ sym h.cell;
}

pub with_shape : (arena now : Arena) (slot : ℕ) (r : Line) → now ≡ with_row arena slot r → SameShape arena now
with_shape arena now slot r is = record {
  cols = ap (λ (a : Arena). a.cols) is;
  cell = ap (λ (a : Arena). a.cell) is;
  rows = ap (λ (a : Arena). length a.rows) is ∙ length-set arena.rows slot r;
}

pub with_here : (arena now : Arena) (slot : ℕ) (r : Line) → slot < length arena.rows → now ≡ with_row arena slot r → row_at now slot ≡ r
unfolding row_at
with_here arena now slot r lt is = ap (λ (a : Arena). row_at a slot) is ∙ get_or-set_same arena.rows slot r (zero_row arena.cell) lt

pub with_others : (arena now : Arena) (slot s : ℕ) (r : Line) → s ≢ slot → now ≡ with_row arena slot r → row_at now s ≡ row_at arena s
unfolding row_at
with_others arena now slot s r ne is = ap (λ (a : Arena). row_at a s) is ∙ get_or-set_other arena.rows slot s r (zero_row arena.cell) ne

pub clears_row : (arena now : Arena) (slot p y : ℕ) (q : List ℕ) → slot < length arena.rows → (bit_at (row_at arena slot).line p == 1) ≡ true
    → now ≡ with_row arena slot (row_sum (row_at arena slot) (record { line = y; part = q })) → Clears slot p y q arena now
unfolding line_cleared
clears_row arena now slot p y q lt on is =
    let sum : Line = row_sum (row_at arena slot) (record { line = y; part = q }) in
    record {
      here = with_here arena now slot sum lt is ∙ sym (ap (λ t. cond t sum (row_at arena slot)) on);
      others = λ s ne. with_others arena now slot s sum ne is;
      shape = with_shape arena now slot sum is;
    }

pub clears_no_row : (arena : Arena) (slot p y : ℕ) (q : List ℕ) → (bit_at (row_at arena slot).line p == 1) ≡ false → Clears slot p y q arena arena
unfolding line_cleared
clears_no_row arena slot p y q off =
    let sum : Line = row_sum (row_at arena slot) (record { line = y; part = q }) in
    record {
      here = sym (ap (λ t. cond t sum (row_at arena slot)) off);
      others = λ s ne. refl;
      shape = same_shape arena;
    }

-- the first rows were cleared
pub record Clearing (p y : ℕ) (q : List ℕ) (old now : Arena) (n : ℕ) : Type 0 where
  pub done : (s : ℕ) → s < n → row_at now s ≡ line_cleared p y q (row_at old s)
  pub left : (s : ℕ) → n ≤ s → row_at now s ≡ row_at old s
  pub shape : SameShape old now

pub clearing_begins : (p y : ℕ) (q : List ℕ) (arena : Arena) → Clearing p y q arena arena 0
clearing_begins p y q arena = record { done = λ s lt. absurd (omega arith); left = λ s le. refl; shape = same_shape arena }

pub clearing_turn : (p y : ℕ) (q : List ℕ) (old now next : Arena) (n m : ℕ) → m ≡ n + 1 → Clears n p y q now next → Clearing p y q old now n → Clearing p y q old next m
clearing_turn p y q old now next n m is one h = record {
  done = λ s lt. elim (cases_eq s n) [
    | inl same ↦
        let P : ℕ → Type 0 = λ k. row_at next k ≡ line_cleared p y q (row_at old k) in
        subst P (sym same) (one.here ∙ ap (line_cleared p y q) (h.left n (omega arith)))
    | inr other ↦ one.others s other ∙ h.done s (omega arith)
  ];
  left = λ s le. one.others s (let ne : s ≢ n = omega arith in ne) ∙ h.left s (omega arith);
  shape = shape_then old now next h.shape one.shape;
}

pub clearing_ends : (p y : ℕ) (q : List ℕ) (old now : Arena) (n : ℕ) → length old.rows ≤ n → Clearing p y q old now n → ClearsAll p y q old now
clearing_ends p y q old now n past h = record { each = λ s lt. h.done s (omega arith); shape = h.shape }

row_cleared : (p y : ℕ) (q : List ℕ) (r : Line) → length r.part ≡ length q
    → row (line_cleared p y q r).line (line_cleared p y q r).part ≡ cleared p y q (row r.line r.part)
unfolding line_cleared cleared row_sum
row_cleared p y q r sized =
    let sum : Line = row_sum r (record { line = y; part = q }) in
    elim (bit_at r.line p == 1) as (λ t. row (cond t sum r).line (cond t sum r).part ≡ cond t (row (bit_xor r.line y) (xor_bytes r.part q)) (row r.line r.part)) [
      | true ↦ ap (row (bit_xor r.line y)) (sum_is r.part q sized)
      | false ↦ refl
    ]

pub cleared_places : (size : ℕ) (area : List ℕ) (old new : Arena) (os : List Column) (p y : ℕ) (q : List ℕ) → IsStored size old os → length q ≡ size → ClearsAll p y q old new
    → places_in size area new os ≡ all_cleared p y q (places_in size area old os)
unfolding place_in cleared
cleared_places size area old new os p y q stored sized h =
    let before : List Place = places_in size area old os in
    let after : List Place = places_in size area new os in
    let long : length after ≡ length os = length-places size area new os in
    ext_get_or free after (all_cleared p y q before) (long ∙ sym (length-all_cleared p y q before ∙ length-places size area old os)) (λ d lt.
    at_places size area new d os
    ∙ by_column d (get_or os d Free) refl
    ∙ ap (cleared p y q) (sym (at_places size area old d os))
    ∙ sym (at_all_cleared p y q before d))
  where
    by_column : (d : ℕ) (o : Column) → get_or os d Free ≡ o → place_in size area new d o ≡ cleared p y q (place_in size area old d o)
    by_column d Free is = refl
    by_column d Piece is = refl
    by_column d (Row slot) is =
        let r : Line = row_at old slot in
        ap (λ (x : Line). row x.line x.part) (h.each slot (stored.rows d slot is)) ∙ row_cleared p y q r (stored.parts d slot is ∙ sym sized)
