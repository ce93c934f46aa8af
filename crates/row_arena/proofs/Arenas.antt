-- The rows of an arena after one of them was written.
use Rattle.std.proofs.Common.{◌≡◌, ◌≢◌, ◌⊎◌, true, false, ℕ, ◌+◌, ◌*◌, ◌^◌, ◌<◌, ◌≤◌, List, [], length, drop, get_or, set, replicate, bit_xor, refl, sym, ap, ap₂, ◌∙◌, subst, inl, inr, arith, length-set, get_or-set_same, get_or-set_other}
use Rattle.std.specs.List.{refill}
use Rattle.std.proofs.lemmas.Bool.{cases_eq}
use Rattle.std.proofs.lemmas.Nat.{xor_lt, pow_pos}
use Rattle.std.proofs.lemmas.List.{take_at, ext_get_or, get_or-replicate, length-replicate}
use Rattle.std.proofs.lemmas.List.FromFn.{length-map-range_with_len, get_or-map-range_with_len}
use Rattle.std.proofs.lemmas.Bool.Decides.{nat_tests}
use lib.Lanes.{zip2}
use Rattle.row_arena.specs.Rows.{Row, Arena, zero_row, row_at, with_row, row_sum, words_for, line_in, has_room}
use Rattle.row_arena.specs.Stretch.{stretch}
use Rattle.row_arena.specs.ArenaInside.{row_in, rows_in, IsArena}
use Rattle.row_arena.proofs.Stretched.{before, length-stretch, get_or-stretch}
use Rattle.row_arena.proofs.Written.{Sums}
use Rattle.row_arena.proofs.Bits.{none_set}

pub refilled : (xs ys : List ℕ) → length ys ≡ length xs → refill (length xs) xs ys ≡ ys
refilled xs ys e = take_at ys (drop (length ys) xs) (length xs) e

pub length-rows_in : (rows width cell : ℕ) (words bytes : List ℕ) → length (rows_in rows width cell words bytes) ≡ rows
unfolding rows_in
length-rows_in rows width cell words bytes = length-map-range_with_len (λ r. row_in width cell words bytes r) 0 rows

pub get_or-rows_in : (rows width cell : ℕ) (words bytes : List ℕ) (i : ℕ) (d : Row) → i < rows → get_or (rows_in rows width cell words bytes) i d ≡ row_in width cell words bytes i
unfolding rows_in
get_or-rows_in rows width cell words bytes i d lt = get_or-map-range_with_len (λ r. row_in width cell words bytes r) 0 rows i i d lt (omega arith)

-- the view of an arena's fields
abbrev pub seen : ℕ → ℕ → ℕ → List ℕ → List ℕ → Arena
seen rows cols cell words bytes = record { cols = cols; cell = cell; rows = rows_in rows (words_for cols) cell words bytes }

pub row_seen : (a : Arena) (rows cols cell : ℕ) (words bytes : List ℕ) (r : ℕ) → seen rows cols cell words bytes ≡ a → r < rows → row_at a r ≡ row_in (words_for cols) cell words bytes r
unfolding row_at
row_seen a rows cols cell words bytes r is lt =
    ap (λ (b : Arena). row_at b r) (sym is) ∙ get_or-rows_in rows (words_for cols) cell words bytes r (zero_row cell) lt

pub rows_counted : (a : Arena) (rows cols cell : ℕ) (words bytes : List ℕ) → seen rows cols cell words bytes ≡ a → length a.rows ≡ rows
rows_counted a rows cols cell words bytes is = ap (λ (b : Arena). length b.rows) (sym is) ∙ length-rows_in rows (words_for cols) cell words bytes

-- row r is within the storage
pub in_room : (rows r size : ℕ) (xs : List ℕ) → length xs ≡ rows * size → r < rows → r * size + size ≤ length xs
in_room rows r size xs e lt = omega (arith, before r rows size lt, e)

-- one row was written
pub rows_written : (rows width cell i : ℕ) (words bytes words' bytes' : List ℕ) (row : Row) → i < rows → row_in width cell words' bytes' i ≡ row
    → ((j : ℕ) → j ≢ i → row_in width cell words' bytes' j ≡ row_in width cell words bytes j)
    → rows_in rows width cell words' bytes' ≡ set (rows_in rows width cell words bytes) i row
rows_written rows width cell i words bytes words' bytes' row lt is others =
    let d : Row = zero_row cell in
    let old : List Row = rows_in rows width cell words bytes in
    let new : List Row = rows_in rows width cell words' bytes' in
    let a : length old ≡ rows = length-rows_in rows width cell words bytes in
    let b : length new ≡ rows = length-rows_in rows width cell words' bytes' in
    let s : length (set old i row) ≡ length old = length-set old i row in
    ext_get_or d new (set old i row) (b ∙ sym (s ∙ a)) (λ k below.
    let klt : k < rows = omega arith in
    get_or-rows_in rows width cell words' bytes' k d klt ∙ elim (cases_eq k i) [
      | inl same ↦ ap (λ n. row_in width cell words' bytes' n) same ∙ is ∙ sym (get_or-set_same old i row d (omega arith)) ∙ ap (λ n. get_or (set old i row) n d) (sym same)
      | inr other ↦ others k other ∙ sym (get_or-rows_in rows width cell words bytes k d klt) ∙ sym (get_or-set_other old i k row d other)
    ])

row_is : (width cell : ℕ) (words bytes : List ℕ) (r : ℕ) (line : ℕ) (part : List ℕ) → line_in (stretch r width words) ≡ line → stretch r cell bytes ≡ part
    → row_in width cell words bytes r ≡ record { line = line; part = part }
unfolding row_in
row_is width cell words bytes r line part e f = ap₂ (λ (l : ℕ) (p : List ℕ). let row : Row = record { line = l; part = p } in row) e f

same_row : (width cell : ℕ) (words bytes words' bytes' : List ℕ) (r : ℕ) → stretch r width words' ≡ stretch r width words → stretch r cell bytes' ≡ stretch r cell bytes
    → row_in width cell words' bytes' r ≡ row_in width cell words bytes r
unfolding row_in
same_row width cell words bytes words' bytes' r e f =
    ap₂ (λ (l p : List ℕ). let row : Row = record { line = line_in l; part = p } in row) e f

-- ---- a row was added to another

pub record LineSums (into from size : ℕ) (old new : List ℕ) : Type 0 where
  pub line : line_in (stretch into size new) ≡ bit_xor (line_in (stretch into size old)) (line_in (stretch from size old))
  pub others : (j : ℕ) → j ≢ into → stretch j size new ≡ stretch j size old

pub sum_kept : (rows cols cell into from : ℕ) (words bytes words' bytes' : List ℕ) → into < rows → from < rows → IsArena rows cols cell words bytes
    → length words' ≡ length words → length bytes' ≡ length bytes → LineSums into from (words_for cols) words words'
    → IsArena rows cols cell words' bytes'
sum_kept rows cols cell into from words bytes words' bytes' a b h e f s = record {
  words_sized = e ∙ h.words_sized;
  bytes_sized = f ∙ h.bytes_sized;
  within = λ r lt. elim (cases_eq r into) [
    | inl same ↦
        subst (λ n. line_in (stretch n (words_for cols) words') < 2 ^ cols) (sym same)
        (subst (λ n. n < 2 ^ cols) (sym s.line) (xor_lt cols _ _ (h.within into a) (h.within from b)))
    | inr other ↦ subst (λ l. line_in l < 2 ^ cols) (sym (s.others r other)) (h.within r lt)
  ];
}

pub sum_seen : (rows cols cell into from : ℕ) (words bytes words' bytes' : List ℕ) → into < rows
    → LineSums into from (words_for cols) words words' → Sums into from cell bytes bytes'
    → seen rows cols cell words' bytes'
    ≡ with_row (seen rows cols cell words bytes) into (row_sum (row_in (words_for cols) cell words bytes into) (row_in (words_for cols) cell words bytes from))
unfolding row_sum row_in
sum_seen rows cols cell into from words bytes words' bytes' a s t =
    let w : ℕ = words_for cols in
    ap (λ (l : List Row). let v : Arena = record { cols = cols; cell = cell; rows = l } in v)
    (rows_written rows w cell into words bytes words' bytes' (row_sum (row_in w cell words bytes into) (row_in w cell words bytes from)) a
    (row_is w cell words' bytes' into _ _ s.line t.there)
    (λ j ne. same_row w cell words bytes words' bytes' j (s.others j ne) (t.others j ne)))

-- ---- a row was written

pub record Writes (k size : ℕ) (old new ys : List ℕ) : Type 0 where
  pub there : stretch k size new ≡ ys
  pub others : (j : ℕ) → j ≢ k → stretch j size new ≡ stretch j size old

pub put_kept : (rows cols cell k : ℕ) (words bytes words' bytes' line part : List ℕ) → line_in line < 2 ^ cols → IsArena rows cols cell words bytes
    → length words' ≡ length words → length bytes' ≡ length bytes → Writes k (words_for cols) words words' line
    → IsArena rows cols cell words' bytes'
put_kept rows cols cell k words bytes words' bytes' line part small h e f s = record {
  words_sized = e ∙ h.words_sized;
  bytes_sized = f ∙ h.bytes_sized;
  within = λ r lt. elim (cases_eq r k) [
    | inl same ↦ subst (λ n. line_in (stretch n (words_for cols) words') < 2 ^ cols) (sym same) (subst (λ l. line_in l < 2 ^ cols) (sym s.there) small)
    | inr other ↦ subst (λ l. line_in l < 2 ^ cols) (sym (s.others r other)) (h.within r lt)
  ];
}

pub put_seen : (rows cols cell k : ℕ) (words bytes words' bytes' line part : List ℕ) → k < rows
    → Writes k (words_for cols) words words' line → Writes k cell bytes bytes' part
    → seen rows cols cell words' bytes' ≡ with_row (seen rows cols cell words bytes) k (record { line = line_in line; part = part })
put_seen rows cols cell k words bytes words' bytes' line part lt s t =
    ap (λ (l : List Row). let v : Arena = record { cols = cols; cell = cell; rows = l } in v)
    (rows_written rows (words_for cols) cell k words bytes words' bytes' (record { line = line_in line; part = part }) lt
    (row_is (words_for cols) cell words' bytes' k _ _ (ap line_in s.there) t.there)
    (λ j ne. same_row (words_for cols) cell words bytes words' bytes' j (s.others j ne) (t.others j ne)))

-- ---- something was added to a row

pub record Adds (k size extra : ℕ) (old new : List ℕ) : Type 0 where
  pub line_sum : line_in (stretch k size new) ≡ bit_xor (line_in (stretch k size old)) extra
  pub others : (j : ℕ) → j ≢ k → stretch j size new ≡ stretch j size old

pub record AddsBytes (k size : ℕ) (part old new : List ℕ) : Type 0 where
  pub there : stretch k size new ≡ zip2 bit_xor (stretch k size old) part
  pub others : (j : ℕ) → j ≢ k → stretch j size new ≡ stretch j size old

pub added_kept : (rows cols cell k line : ℕ) (words bytes words' bytes' : List ℕ) → k < rows → line < 2 ^ cols → IsArena rows cols cell words bytes
    → length words' ≡ length words → length bytes' ≡ length bytes
    → line_in (stretch k (words_for cols) words') ≡ bit_xor (line_in (stretch k (words_for cols) words)) line
    → ((j : ℕ) → j ≢ k → stretch j (words_for cols) words' ≡ stretch j (words_for cols) words) → IsArena rows cols cell words' bytes'
added_kept rows cols cell k line words bytes words' bytes' lt small h e f sum others =
    let fits : line_in (stretch k (words_for cols) words') < 2 ^ cols = subst (λ n. n < 2 ^ cols) (sym sum) (xor_lt cols _ _ (h.within k lt) small) in
    put_kept rows cols cell k words bytes words' bytes' (stretch k (words_for cols) words') [] fits h e f (record { there = refl; others = others })

pub added_seen : (rows cols cell k line : ℕ) (part words bytes words' bytes' : List ℕ) → k < rows
    → line_in (stretch k (words_for cols) words') ≡ bit_xor (line_in (stretch k (words_for cols) words)) line
    → ((j : ℕ) → j ≢ k → stretch j (words_for cols) words' ≡ stretch j (words_for cols) words)
    → stretch k cell bytes' ≡ zip2 bit_xor (stretch k cell bytes) part
    → ((j : ℕ) → j ≢ k → stretch j cell bytes' ≡ stretch j cell bytes)
    → seen rows cols cell words' bytes' ≡ with_row (seen rows cols cell words bytes) k (row_sum (row_in (words_for cols) cell words bytes k) (record { line = line; part = part }))
unfolding row_sum row_in
added_seen rows cols cell k line part words bytes words' bytes' lt sum others sum' others' =
    put_seen rows cols cell k words bytes words' bytes' (stretch k (words_for cols) words') (stretch k cell bytes') lt
    (record { there = refl; others = others }) (record { there = refl; others = others' })
    ∙ ap₂ (λ (l : ℕ) (p : List ℕ). with_row (seen rows cols cell words bytes) k (record { line = l; part = p })) sum sum'

-- ---- all rows are zero

zeros_long : (n : ℕ) (xs : List ℕ) → xs ≡ replicate n 0 → length xs ≡ n
zeros_long n xs e = ap length e ∙ length-replicate n 0

zeros_stretch : (n k size : ℕ) → k * size + size ≤ n → stretch {A = ℕ} k size (replicate n 0) ≡ replicate size 0
zeros_stretch n k size room =
    let zeros : List ℕ = replicate n 0 in
    let many : List ℕ = replicate size 0 in
    let whole : length zeros ≡ n = zeros_long n zeros refl in
    let long : length (stretch k size zeros) ≡ size = length-stretch k size zeros (omega arith) in
    let long' : length many ≡ size = zeros_long size many refl in
    ext_get_or 0 (stretch k size zeros) many (long ∙ sym long') (λ i lt.
    let within : i < size = omega arith in
    get_or-stretch k size i zeros 0 within ∙ get_or-replicate n (k * size + i) 0 0 (omega arith) ∙ sym (get_or-replicate size i 0 0 within))

pub zero_line : (size : ℕ) → line_in (replicate size 0) ≡ 0
zero_line size = none_set (replicate size 0) (λ i lt.
    let many : List ℕ = replicate size 0 in
    let long : length many ≡ size = length-replicate size 0 in
    get_or-replicate size i 0 0 (omega arith))

pub zero_small : (size cols : ℕ) → line_in (replicate size 0) < 2 ^ cols
zero_small size cols = omega (arith, zero_line size, pow_pos cols)

zero_in : (rows cols cell r : ℕ) → r < rows
    → row_in (words_for cols) cell (replicate (rows * words_for cols) 0) (replicate (rows * cell) 0) r ≡ zero_row cell
zero_in rows cols cell r lt =
    let w : ℕ = words_for cols in
    row_is w cell (replicate (rows * w) 0) (replicate (rows * cell) 0) r 0 (replicate cell 0)
    (ap line_in (zeros_stretch (rows * w) r w (before r rows w lt)) ∙ zero_line w)
    (zeros_stretch (rows * cell) r cell (before r rows cell lt))

pub zero_kept : (rows cols cell : ℕ) (words bytes : List ℕ) → words ≡ replicate (rows * words_for cols) 0 → bytes ≡ replicate (rows * cell) 0 → IsArena rows cols cell words bytes
zero_kept rows cols cell words bytes e f = record {
  words_sized = ap length e ∙ length-replicate (rows * words_for cols) 0;
  bytes_sized = ap length f ∙ length-replicate (rows * cell) 0;
  within = λ r lt.
      let w : ℕ = words_for cols in
      let none : line_in (stretch r w words) ≡ 0 = ap (λ l. line_in (stretch r w l)) e ∙ ap line_in (zeros_stretch (rows * w) r w (before r rows w lt)) ∙ zero_line w in
      omega (arith, none, pow_pos cols);
}

pub zero_seen : (rows cols cell : ℕ) (words bytes : List ℕ) → words ≡ replicate (rows * words_for cols) 0 → bytes ≡ replicate (rows * cell) 0
    → seen rows cols cell words bytes ≡ record { cols = cols; cell = cell; rows = replicate rows (zero_row cell) }
zero_seen rows cols cell words bytes e f =
    let w : ℕ = words_for cols in
    let new : List Row = rows_in rows w cell words bytes in
    let a : length new ≡ rows = length-rows_in rows w cell words bytes in
    let b : length (replicate rows (zero_row cell)) ≡ rows = length-replicate rows (zero_row cell) in
    ap (λ (l : List Row). let v : Arena = record { cols = cols; cell = cell; rows = l } in v)
    (ext_get_or (zero_row cell) new (replicate rows (zero_row cell)) (a ∙ sym b) (λ i lt.
    let within : i < rows = omega arith in
    get_or-rows_in rows w cell words bytes i (zero_row cell) within
    ∙ ap₂ (λ x y. row_in w cell x y i) e f ∙ zero_in rows cols cell i within
    ∙ sym (get_or-replicate rows i (zero_row cell) (zero_row cell) within)))

-- ---- room

pub room_yes : (words bytes rows cols cell : ℕ) → rows * words_for cols ≤ words → rows * cell ≤ bytes → has_room words bytes rows cols cell ≡ true
unfolding has_room
room_yes words bytes rows cols cell a b = grind (arith, nat_tests)

pub room_no : (words bytes rows cols cell : ℕ) → (words < rows * words_for cols) ⊎ (bytes < rows * cell) → has_room words bytes rows cols cell ≡ false
unfolding has_room
room_no words bytes rows cols cell (inl a) = grind (arith, nat_tests)
room_no words bytes rows cols cell (inr b) = grind (arith, nat_tests)

pub ruleset arenas = (in_room, refilled, rows_counted, row_seen, put_kept, put_seen)
