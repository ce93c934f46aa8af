-- What the fields of a table keep true when it takes something in.
use Rattle.std.proofs.Common.{◌≡◌, ◌≢◌, ◌⊎◌, ℕ, suc, ◌+◌, ◌*◌, ◌<◌, ◌≤◌, ◌^◌, false, List, length, get_or, set, take, drop, replicate, ◌++◌, [], zero, Option, Some, None, Result, Ok, Err, is_ok, OnOk, true, true≢false, bit_xor, refl, sym, ap, ◌∙◌, subst, inl, inr, arith, length-take-le, length-set}
use Rattle.std.proofs.Math.Pow.{pow-lt}
use Rattle.std.proofs.lemmas.Nat.Bits.{bit_at-pow_same, bit_at-pow_other}
use Rattle.std.proofs.lemmas.Bool.{cases_eq, cases_lt}
use Rattle.std.proofs.lemmas.List.{take_at, set-set, set-get_or, get_or-take, get_or_past, get_or-replicate, length-replicate, ext_get_or}
use Rattle.frag_model.specs.Fragments.{Shape, Equation, IsPiece}
use Rattle.row_arena.specs.Rows.{Arena, Row as Line, zero_row, row_at, line_in, words_for}
use Rattle.row_elimination.specs.declared.columns.Column.{Column}
use Rattle.row_elimination.specs.declared.columns.Column.TheVariants.{Free, Piece, Row}
use Rattle.row_elimination.specs.HeldPlaces.{Place, free, piece, row, told, is_piece, is_row, pieces_held, rows_held, gained_held, grown, cleared}
use Rattle.row_elimination.specs.Inside.{IsReduced, Marks}
use Rattle.row_elimination.specs.Room.{Extent}
use Rattle.row_arena.specs.Stretch.{stretch}
use Rattle.row_elimination.specs.HeldStorage.{place_in, places_in, part_in, IsStored, IsRowOf, SameShape, Slots}
use Rattle.row_elimination.specs.HeldSteps.{IsNew, Knows, Tells}
use Rattle.row_elimination.specs.HeldTable.{Grid, IsGrid, IsTable, max_line_words}
use Rattle.frag_model.specs.Limits.{max_pieces}
use Rattle.row_arena.proofs.Stretched.{stretch_within, stretch_longer}
use Rattle.row_elimination.proofs.Reducing.{piece_at}
use Rattle.row_elimination.proofs.Storing.{piece_told, at_places, length-places, row_told, same_shape}
use Rattle.row_elimination.proofs.Packing.{read_there}
use Rattle.row_elimination.proofs.Growing.{at_old, new_at, length-grown, grown_reduced}
use Rattle.row_elimination.proofs.Lines.{none_in_first}
use Rattle.row_elimination.proofs.Marking.{kinds_grown, marks_grown, marks_set, marks_none}
use Rattle.row_elimination.proofs.Telling.{told-sum}
use Rattle.row_elimination.proofs.Saying.{lead_was_free}
use Rattle.row_elimination.proofs.Slotting.{slots_pushed, slots_piece, slots_freed, slots_none}
use Rattle.row_elimination.proofs.Settling.{unit_off, not_free, tells_piece, settled_rows, settled_reduced, settled_gained, learned_row}
use Rattle.row_elimination.proofs.Counting.{one, one_true, one_false, count-cons, gained-le, no_rows_cleared, rows_set, pieces_set, rows_grown, gained_more}

-- the same storage with other places
pub grid_next : (nb size rows count count' gained gained' : ℕ) (columns columns' : List Column) (spare spare' known known' area area' : List ℕ) (arena arena' : Arena) (ps : List Place)
    → IsGrid nb size rows count gained columns spare known area arena
    → length columns' ≡ length columns → length spare' ≡ length spare → length known' ≡ length known → SameShape arena arena'
    → Slots (take nb columns') spare' rows count' → places_in size area' arena' (take nb columns') ≡ ps → IsReduced nb size ps
    → Marks (line_in (take (words_for nb) known')) ps → count' ≡ rows_held ps → gained' ≡ gained_held ps
    → IsGrid nb size rows count' gained' columns' spare' known' area' arena'
grid_next nb size rows count count' gained gained' columns columns' spare spare' known known' area area' arena arena' ps h c s k shape slots is reduced marks rows_is gained_is = record {
  most = h.most;
  few = h.few;
  columns_sized = omega (arith, c, h.columns_sized);
  spare_sized = omega (arith, s, h.spare_sized);
  known_sized = omega (arith, k, h.known_sized);
  arena_cols = shape.cols ∙ h.arena_cols;
  arena_cell = shape.cell ∙ h.arena_cell;
  arena_rows = shape.rows ∙ h.arena_rows;
  slots = slots;
  reduced = subst (λ x. IsReduced nb size x) (sym is) reduced;
  marks = subst (λ x. Marks (line_in (take (words_for nb) known')) x) (sym is) marks;
  counted = rows_is ∙ sym (ap rows_held is);
  gained_all = gained_is ∙ sym (ap gained_held is);
}

-- a piece that is kept is within the area
pub piece_room : (nb size rows count gained k : ℕ) (columns : List Column) (spare known area : List ℕ) (arena : Arena) → IsGrid nb size rows count gained columns spare known area arena
    → get_or (take nb columns) k Free ≡ Piece → k * size + size ≤ length area
piece_room nb size rows count gained k columns spare known area arena h is =
    stretch_within k size area (h.reduced.part k (piece_at size area k) (piece_told size area arena k (take nb columns) is)).sized

pub stored : (nb size rows count gained : ℕ) (columns : List Column) (spare known area : List ℕ) (arena : Arena) → IsGrid nb size rows count gained columns spare known area arena
    → IsStored size arena (take nb columns)
stored nb size rows count gained columns spare known area arena h =
    let os : List Column = take nb columns in
    let long : length os ≡ nb = length-take-le nb columns (omega (arith, h.most, h.columns_sized)) in
    record {
      cols = h.arena_cols ∙ sym long;
      cell = h.arena_cell;
      rows = λ c slot e. omega (arith, h.slots.within c slot e, h.arena_rows);
      parts = λ c slot e. (h.reduced.part c (record { line = (row_at arena slot).line; part = (row_at arena slot).part }) (row_told size area arena c slot os e)).sized;
      alone = h.slots.alone;
    }

-- the same, by the number of columns of the arena
pub stored_at : (nb size cols len rows count gained : ℕ) (columns : List Column) (spare known area : List ℕ) (arena : Arena) → IsGrid nb size rows count gained columns spare known area arena
    → cols ≡ nb → len ≡ size → IsStored len arena (take cols columns)
stored_at nb size cols len rows count gained columns spare known area arena h e f =
    subst (λ (n : ℕ). IsStored n arena (take cols columns)) (sym f) (subst (λ (n : ℕ). IsStored size arena (take n columns)) (sym e) (stored nb size rows count gained columns spare known area arena h))

-- the words of a line are few
pub width_few : (nb : ℕ) → nb ≤ max_pieces → words_for nb ≤ max_line_words
unfolding words_for
width_few nb most = omega arith

pub no_words : words_for 0 ≡ 0
unfolding words_for
no_words = refl

-- and no fewer for more columns
pub more_words : (nb most : ℕ) → nb ≤ most → words_for nb ≤ words_for most
unfolding words_for
more_words nb most le = omega (arith, le)

-- and hold all its columns
pub width_holds : (nb : ℕ) → nb ≤ 64 * words_for nb
unfolding words_for
width_holds nb = omega arith

-- a line of the file and a part of its size are a row
pub file_row : (nb size rows count gained : ℕ) (columns : List Column) (spare known area : List ℕ) (arena : Arena) (line part : List ℕ) → IsGrid nb size rows count gained columns spare known area arena
    → length line ≡ words_for nb → line_in line < 2 ^ nb → length part ≡ size → IsRowOf arena line part
file_row nb size rows count gained columns spare known area arena line part h words within sized = record {
  words = words ∙ ap words_for (sym h.arena_cols);
  within = subst (λ n. line_in line < 2 ^ n) (sym h.arena_cols) within;
  sized = sized ∙ sym h.arena_cell;
}

-- what a vector holds after its slice was written
pub written : {A : Type 0} (n : ℕ) (new old : List A) → length new ≡ n → take n (new ++ drop (length new) old) ≡ new
written n new old e = take_at new (drop (length new) old) n e

-- the new row's column was free
pub lead_free : (nb size : ℕ) (area : List ℕ) (arena : Arena) (os : List Column) (p y : ℕ) (q : List ℕ) → IsNew nb size (places_in size area arena os) p y q → get_or os p Free ≡ Free
unfolding place_in
lead_free nb size area arena os p y q new = by_column (get_or os p Free) (sym (at_places size area arena p os) ∙ lead_was_free nb size (places_in size area arena os) p y q new)
  where
    by_column : (o : Column) → place_in size area arena p o ≡ free → o ≡ Free
    by_column Free e = refl
    by_column Piece e = cc
    by_column (Row slot) e = cc

pub pushed : (nb size rows count gained cols len slot p : ℕ) (columns columns' : List Column) (spare known area : List ℕ) (arena arena' : Arena) (l : ℕ) (part : List ℕ)
    → IsGrid nb size rows count gained columns spare known area arena → cols ≡ nb → len ≡ size → slot ≡ get_or spare count 0
    → IsNew nb size (places_in size area arena (take nb columns)) p l part → count < rows
    → length columns' ≡ length columns → SameShape arena arena'
    → take cols columns' ≡ set (take cols columns) p (Row slot)
    → places_in len area arena' (take cols columns') ≡ grown p l part (places_in len area arena (take cols columns))
    → IsGrid nb size rows (count + 1) (gained + 1) columns' spare known area arena'
pushed nb size rows count gained cols len slot p columns columns' spare known area arena arena' l part h cn sz is new more c shape os_are places =
    let ps : List Place = places_in size area arena (take nb columns) in
    let next : List Place = grown p l part ps in
    let os_sized : length (take nb columns) ≡ nb = length-take-le nb columns (omega (arith, h.most, h.columns_sized)) in
    let inside : p < length (take nb columns) = omega (arith, new.inside) in
    let was = lead_was_free nb size ps p l part new in
    let plt : p < length ps = omega (arith, h.reduced.sized, new.inside) in
    let cols_at : take nb columns' ≡ set (take nb columns) p (Row slot) = subst (λ n. take n columns' ≡ set (take n columns) p (Row slot)) cn os_are in
    let P : ℕ → ℕ → Type 0 = λ m n. places_in n area arena' (take m columns') ≡ grown p l part (places_in n area arena (take m columns)) in
    let places_at : P nb size = subst (λ m. P m size) cn (subst (λ n. P cols n) sz places) in
    let slots : Slots (take nb columns') spare rows (count + 1) =
    subst (λ os. Slots os spare rows (count + 1)) (sym (cols_at ∙ ap (λ s. set (take nb columns) p (Row s)) is)) (slots_pushed (take nb columns) spare rows count p inside more h.slots) in
    grid_next nb size rows count (count + 1) gained (gained + 1) columns columns' spare spare known known area area arena arena' next h c refl refl shape slots places_at
    (grown_reduced nb size ps p l part new)
    (marks_grown (line_in (take (words_for nb) known)) p l part ps plt was h.marks)
    (omega (arith, rows_grown p l part ps plt was, h.counted))
    (ap (λ x. x + 1) h.gained_all ∙ sym (gained_more p l part ps plt was))

-- a piece and a row that replaces the row that its column led
pub learned_kind : (shape : Shape) (area : List ℕ) (arena : Arena) (os : List Column) (k p y : ℕ) (q part : List ℕ)
    → IsNew shape.nb_frag shape.frag_size (places_in shape.frag_size area arena os) p y q
    → Knows shape (grown p y q (places_in shape.frag_size area arena os)) k part
    → is_piece (get_or (places_in shape.frag_size area arena os) k free) ≡ false
    → (k ≡ p) ⊎ ((k ≢ p) × ((slot : ℕ) × (get_or os k Free ≡ Row slot)))
unfolding place_in is_piece cleared
learned_kind shape area arena os k p y q part new known fresh = elim (cases_eq k p) [
  | inl same ↦ inl same
  | inr other ↦ inr (other, by_column (get_or os k Free) (at_places shape.frag_size area arena k os) (not_free shape (grown p y q ps) k part known) (at_old p y k q ps other))
]
  where
    ps : List Place
    ps = places_in shape.frag_size area arena os

    by_column : (o : Column) → get_or ps k free ≡ place_in shape.frag_size area arena k o → get_or (grown p y q ps) k free ≢ free → get_or (grown p y q ps) k free ≡ cleared p y q (get_or ps k free)
        → (slot : ℕ) × (o ≡ Row slot)
    by_column Free at ne old = absurd (ne (old ∙ ap (cleared p y q) at))
    by_column Piece at ne old = absurd (true≢false (sym (ap is_piece at) ∙ fresh))
    by_column (Row slot) at ne old = (slot, refl)

-- what leads none is no piece
fresh_grown : (ps : List Place) (k p y : ℕ) (q : List ℕ) → p < length ps → get_or ps p free ≡ free → is_piece (get_or ps k free) ≡ false → is_piece (get_or (grown p y q ps) k free) ≡ false
fresh_grown ps k p y q lt was fresh = kinds_grown p y k q ps lt was ∙ fresh

pub learned : (nb size rows count gained cols len k p : ℕ) (columns columns' : List Column) (spare known known' area area' : List ℕ) (arena arena' : Arena) (l : ℕ) (q part : List ℕ)
    → IsGrid nb size rows count gained columns spare known area arena → cols ≡ nb → len ≡ size
    → IsNew nb size (places_in size area arena (take nb columns)) p l q
    → Knows (record { nb_frag = nb; frag_size = size; rows = rows }) (grown p l q (places_in size area arena (take nb columns))) k part
    → is_piece (get_or (places_in size area arena (take nb columns)) k free) ≡ false
    → length columns' ≡ length columns → length known' ≡ length known → SameShape arena arena'
    → (Slots (take cols columns) spare rows count → Slots (take cols columns') spare rows count)
    → places_in len area' arena' (take cols columns') ≡ set (grown p l q (places_in len area arena (take cols columns))) k (piece part)
    → line_in (take (words_for nb) known') ≡ bit_xor (line_in (take (words_for nb) known)) (2 ^ k)
    → IsGrid nb size rows count (gained + 1) columns' spare known' area' arena'
learned nb size rows count gained cols len k p columns columns' spare known known' area area' arena arena' l q part h cn sz new known_is fresh c kn shape slots_kept places marked =
    let file : Shape = record { nb_frag = nb; frag_size = size; rows = rows } in
    let ps : List Place = places_in size area arena (take nb columns) in
    let next : List Place = grown p l q ps in
    let was = lead_was_free nb size ps p l q new in
    let plt : p < length ps = omega (arith, h.reduced.sized, new.inside) in
    let klt : k < length next = omega (arith, length-grown p l q ps, h.reduced.sized, known_is.inside) in
    let P : ℕ → ℕ → Type 0 = λ m n. places_in n area' arena' (take m columns') ≡ set (grown p l q (places_in n area arena (take m columns))) k (piece part) in
    let places_at : P nb size = subst (λ m. P m size) cn (subst (λ n. P cols n) sz places) in
    let slots : Slots (take nb columns') spare rows count =
    subst (λ n. Slots (take n columns') spare rows count) cn (slots_kept (subst (λ n. Slots (take n columns) spare rows count) (sym cn) h.slots)) in
    let more : rows_held next ≡ rows_held ps + 1 = rows_grown p l q ps plt was in
    let less : rows_held (set next k (piece part)) + one (is_row (get_or next k free)) ≡ rows_held next = settled_rows file next k part known_is in
    let row_there : one (is_row (get_or next k free)) ≡ 1 = learned_row file ps k p l q part new known_is fresh in
    grid_next nb size rows count count gained (gained + 1) columns columns' spare spare known known' area area' arena arena' (set next k (piece part)) h c refl kn shape slots places_at
    (settled_reduced file next k part known_is)
    (marks_set (line_in (take (words_for nb) known)) (line_in (take (words_for nb) known')) k part next klt (fresh_grown ps k p l q plt was fresh) marked
    (marks_grown (line_in (take (words_for nb) known)) p l q ps plt was h.marks))
    (omega (arith, more, less, row_there, h.counted))
    (ap (λ x. x + 1) h.gained_all ∙ sym (gained_more p l q ps plt was) ∙ sym (settled_gained file next k part known_is))

-- a piece instead of a row that says the same
pub settled_count : (shape : Shape) (area : List ℕ) (arena : Arena) (os : List Column) (k slot : ℕ) (part : List ℕ)
    → Knows shape (places_in shape.frag_size area arena os) k part → get_or os k Free ≡ Row slot
    → rows_held (set (places_in shape.frag_size area arena os) k (piece part)) + 1 ≡ rows_held (places_in shape.frag_size area arena os)
unfolding place_in is_row
settled_count shape area arena os k slot part known is =
    let nb : ℕ = shape.nb_frag in
    let size : ℕ = shape.frag_size in
    let ps : List Place = places_in size area arena os in
    let there : one (is_row (get_or ps k free)) ≡ 1 =
    one_true (is_row (get_or ps k free)) (ap is_row (at_places size area arena k os ∙ ap (place_in size area arena k) is)) in
    omega (arith, settled_rows shape ps k part known, there)

pub settled : (nb size rows count less gained k slot : ℕ) (columns columns' : List Column) (spare known known' area area' : List ℕ) (arena : Arena) (part : List ℕ)
    → IsGrid nb size rows count gained columns spare known area arena
    → Knows (record { nb_frag = nb; frag_size = size; rows = rows }) (places_in size area arena (take nb columns)) k part
    → get_or (take nb columns) k Free ≡ Row slot → count ≡ less + 1 → length columns' ≡ length columns → length known' ≡ length known
    → take nb columns' ≡ set (take nb columns) k Piece
    → places_in size area' arena (take nb columns') ≡ set (places_in size area arena (take nb columns)) k (piece part)
    → line_in (take (words_for nb) known') ≡ bit_xor (line_in (take (words_for nb) known)) (2 ^ k)
    → IsGrid nb size rows less gained columns' (set spare less slot) known' area' arena
unfolding place_in is_piece
settled nb size rows count less gained k slot columns columns' spare known known' area area' arena part h known_is is e c kn os_are places marked =
    let shape : Shape = record { nb_frag = nb; frag_size = size; rows = rows } in
    let ps : List Place = places_in size area arena (take nb columns) in
    let os_sized : length (take nb columns) ≡ nb = length-take-le nb columns (omega (arith, h.most, h.columns_sized)) in
    let klt : k < length (take nb columns) = omega (arith, known_is.inside) in
    let plt : k < length ps = omega (arith, h.reduced.sized, known_is.inside) in
    let slt : less < length spare = omega (arith, h.spare_sized, h.slots.few, e) in
    let slots : Slots (take nb columns') (set spare less slot) rows less =
    subst (λ os. Slots os (set spare less slot) rows less) (sym os_are) (slots_freed (take nb columns) spare rows count less k slot klt is e slt h.slots) in
    let fresh : is_piece (get_or ps k free) ≡ false = ap is_piece (at_places size area arena k (take nb columns) ∙ ap (place_in size area arena k) is) in
    grid_next nb size rows count less gained gained columns columns' spare (set spare less slot) known known' area area' arena arena (set ps k (piece part)) h c (length-set spare less slot) kn
    (same_shape arena) slots places
    (settled_reduced shape ps k part known_is)
    (marks_set (line_in (take (words_for nb) known)) (line_in (take (words_for nb) known')) k part ps plt fresh marked h.marks)
    (omega (arith, settled_count shape area arena (take nb columns) k slot part known_is is, h.counted))
    (h.gained_all ∙ sym (settled_gained shape ps k part known_is))

abbrev part_of : Option Equation → List ℕ
part_of None = []
part_of (Some e) = e.part

-- the column that code reads
pub column_read : (columns : List Column) (nb k : ℕ) (x : Column) → k < nb → nb ≤ length columns → x ≡ get_or columns k x → get_or (take nb columns) k Free ≡ x
column_read columns nb k x lt le is = get_or-take nb columns k Free lt ∙ sym (read_there columns k x (omega arith) is)

-- a table over other fields, whose area is as long
pub table_of : {words bytes nb size rows count gained count' gained' most room columns_cap spare_cap known_cap area_cap : ℕ}
    {columns columns' : List Column} {spare spare' known known' area area' : List ℕ} {arena arena' : Arena}
    → IsTable words bytes nb size rows count gained most room columns_cap spare_cap known_cap area_cap columns spare known area arena
    → length area' ≡ length area → IsGrid nb size rows count' gained' columns' spare' known' area' arena'
    → IsTable words bytes nb size rows count' gained' most room columns_cap spare_cap known_cap area_cap columns' spare' known' area' arena'
table_of table long grid = record {
  words_few = table.words_few;
  bytes_few = table.bytes_few;
  memory = table.memory;
  within = table.within;
  area_fits = omega (arith, long, table.area_fits);
  pieces_fit = table.pieces_fit;
  grid = grid;
}

-- a column that leads a row is one of those that are counted
pub leads_row : (nb size rows count gained k slot : ℕ) (columns : List Column) (spare known area : List ℕ) (arena : Arena) (part : List ℕ) (x : Column)
    → IsGrid nb size rows count gained columns spare known area arena
    → Knows (record { nb_frag = nb; frag_size = size; rows = rows }) (places_in size area arena (take nb columns)) k part
    → x ≡ get_or columns k x → Row slot ≡ x → 1 ≤ count
leads_row nb size rows count gained k slot columns spare known area arena part x h known_is read leads =
    let shape : Shape = record { nb_frag = nb; frag_size = size; rows = rows } in
    let at = column_read columns nb k x known_is.inside h.columns_sized read in
    omega (arith, h.counted, settled_count shape area arena (take nb columns) k slot part known_is (at ∙ sym leads))

-- no more was gained than the file has pieces
pub gained_few : (nb size rows count gained : ℕ) (columns : List Column) (spare known area : List ℕ) (arena : Arena) → IsGrid nb size rows count gained columns spare known area arena → gained ≤ nb
gained_few nb size rows count gained columns spare known area arena h =
    omega (arith, h.gained_all, h.reduced.sized, gained-le (places_in size area arena (take nb columns)))

-- what is held of a column, by what is kept of it
pub place_read : (nb size rows count gained : ℕ) (room : Extent) (k : ℕ) (columns : List Column) (spare known area : List ℕ) (arena : Arena) (g : Grid) (x kept : Column)
    → IsGrid nb size rows count gained columns spare known area arena
    → record {
      shape = record { nb_frag = nb; frag_size = size; rows = rows };
      places = places_in size area arena (take nb columns);
      area = area;
      room = room;
    } ≡ g
    → k < g.shape.nb_frag → x ≡ get_or columns k x → x ≡ kept → get_or g.places k free ≡ place_in size area arena k kept
place_read nb size rows count gained room k columns spare known area arena g x kept h view lt is at =
    let inside : k < nb = subst (λ (y : Grid). k < y.shape.nb_frag) (sym view) lt in
    ap (λ (y : Grid). get_or y.places k free) (sym view) ∙ at_places size area arena k (take nb columns)
    ∙ ap (place_in size area arena k) (column_read columns nb k x inside (omega (arith, h.most, h.columns_sized)) is ∙ at)

-- a piece of which nothing was known, where no row is held
pub put_places : (k y : ℕ) (q : List ℕ) (ps : List Place) (x : Place) → rows_held ps ≡ 0 → set (grown k y q ps) k x ≡ set ps k x
unfolding grown
put_places k y q ps x none = ap (λ l. set (set l k (row y q)) k x) (no_rows_cleared k y q ps none) ∙ set-set ps k (row y q) x

pub put_reduced : (shape : Shape) (k : ℕ) (ps : List Place) (part : List ℕ) → IsReduced shape.nb_frag shape.frag_size ps → k < shape.nb_frag → IsPiece shape.frag_size part → get_or ps k free ≡ free
    → rows_held ps ≡ 0 → IsReduced shape.nb_frag shape.frag_size (set ps k (piece part))
unfolding told
put_reduced shape k ps part reduced lt sized fresh none =
    let new : IsNew shape.nb_frag shape.frag_size ps k (2 ^ k) part = record {
      reduced = reduced;
      clear = λ d e t. bit_at-pow_other k d (unit_off k d ps e t fresh);
      within = pow-lt lt;
      part = sized;
      inside = lt;
      own = bit_at-pow_same k;
    } in
    let next : List Place = grown k (2 ^ k) part ps in
    let e : Equation = record { line = 2 ^ k; part = part } in
    let tells : Tells next k e = ap (told k) (new_at shape.nb_frag shape.frag_size ps k (2 ^ k) part new) in
    let known : Knows shape next k part = record {
      reduced = grown_reduced shape.nb_frag shape.frag_size ps k (2 ^ k) part new;
      inside = lt;
      sum = told-sum k next e tells;
      agrees = λ b all. all k e tells;
      piece = sized;
    } in
    subst (λ l. IsReduced shape.nb_frag shape.frag_size l) (put_places k (2 ^ k) part ps (piece part) none) (settled_reduced shape next k part known)

pub put_in : (nb size rows count gained k : ℕ) (columns columns' : List Column) (spare known known' area area' : List ℕ) (arena : Arena) (part : List ℕ)
    → IsGrid nb size rows count gained columns spare known area arena → k < nb → IsPiece size part
    → get_or (places_in size area arena (take nb columns)) k free ≡ free → rows_held (places_in size area arena (take nb columns)) ≡ 0
    → length columns' ≡ length columns → length known' ≡ length known → take nb columns' ≡ set (take nb columns) k Piece
    → places_in size area' arena (take nb columns') ≡ set (places_in size area arena (take nb columns)) k (piece part)
    → line_in (take (words_for nb) known') ≡ bit_xor (line_in (take (words_for nb) known)) (2 ^ k)
    → IsGrid nb size rows count (gained + 1) columns' spare known' area' arena
unfolding gained_held is_piece is_row
put_in nb size rows count gained k columns columns' spare known known' area area' arena part h lt sized fresh none c kn os_are places marked =
    let ps : List Place = places_in size area arena (take nb columns) in
    let shape : Shape = record { nb_frag = nb; frag_size = size; rows = rows } in
    let klt : k < length (take nb columns) = omega (arith, length-take-le nb columns (omega (arith, h.most, h.columns_sized))) in
    let plt : k < length ps = omega (arith, h.reduced.sized) in
    let slots : Slots (take nb columns') spare rows count = subst (λ os. Slots os spare rows count) (sym os_are) (slots_piece (take nb columns) spare rows count k klt h.slots) in
    let no_piece : one (is_piece (get_or ps k free)) ≡ 0 = one_false (is_piece (get_or ps k free)) (ap is_piece fresh) in
    let no_row : one (is_row (get_or ps k free)) ≡ 0 = one_false (is_row (get_or ps k free)) (ap is_row fresh) in
    let row_less : one (is_row (piece part)) ≡ 0 = one_false (is_row (piece part)) refl in
    let piece_more : one (is_piece (piece part)) ≡ 1 = one_true (is_piece (piece part)) refl in
    grid_next nb size rows count count gained (gained + 1) columns columns' spare spare known known' area area' arena arena (set ps k (piece part)) h c refl kn (same_shape arena) slots places
    (put_reduced shape k ps part h.reduced lt sized fresh none)
    (marks_set (line_in (take (words_for nb) known)) (line_in (take (words_for nb) known')) k part ps plt (ap is_piece fresh) marked h.marks)
    (omega (arith, h.counted, rows_set ps k (piece part) plt, no_row, row_less))
    (omega (arith, h.gained_all, rows_set ps k (piece part) plt, no_row, row_less, pieces_set ps k (piece part) plt, no_piece, piece_more))

-- where there is no row, the piece is there already
pub settled_already : (shape : Shape) (area : List ℕ) (arena : Arena) (os : List Column) (k : ℕ) (part : List ℕ)
    → Knows shape (places_in shape.frag_size area arena os) k part → ((slot : ℕ) → get_or os k Free ≢ Row slot)
    → places_in shape.frag_size area arena os ≡ set (places_in shape.frag_size area arena os) k (piece part)
unfolding place_in told
settled_already shape area arena os k part known none =
    let nb : ℕ = shape.nb_frag in
    let size : ℕ = shape.frag_size in
    let ps : List Place = places_in size area arena os in
    let at : get_or ps k free ≡ place_in size area arena k (get_or os k Free) = at_places size area arena k os in
    let here : get_or ps k free ≡ piece part = by_column (get_or os k Free) at none (not_free shape ps k part known) (tells_piece shape ps k part known) in
    sym (ap (λ x. set ps k x) (sym here) ∙ set-get_or ps k free)
  where
    by_column : (o : Column) → get_or (places_in shape.frag_size area arena os) k free ≡ place_in shape.frag_size area arena k o → ((slot : ℕ) → o ≢ Row slot)
        → get_or (places_in shape.frag_size area arena os) k free ≢ free → Tells (places_in shape.frag_size area arena os) k (record { line = 2 ^ k; part = part })
        → get_or (places_in shape.frag_size area arena os) k free ≡ piece part
    by_column Free at ne some tells = absurd (some at)
    by_column Piece at ne some tells =
        let t : told k (piece (stretch k shape.frag_size area)) ≡ Some (record { line = 2 ^ k; part = part }) = subst (λ s. told k s ≡ Some (record { line = 2 ^ k; part = part })) at tells in
        let same : stretch k shape.frag_size area ≡ part = ap part_of t in
        at ∙ ap piece same
    by_column (Row slot) at ne some tells = absurd (ne slot refl)

-- ---- all parts put where their pieces belong

part_told : (size : ℕ) (area : List ℕ) (arena : Arena) (c : ℕ) (o : Column) (e : Equation) → told c (place_in size area arena c o) ≡ Some e → part_in size area arena c o ≡ e.part
unfolding place_in told part_in
part_told size area arena c Free e h = absurd (cc)
part_told size area arena c Piece e h = ap part_of h
part_told size area arena c (Row slot) e h = ap part_of h

pub finished_parts : (size : ℕ) (area area' : List ℕ) (arena : Arena) (os : List Column) → ((c : ℕ) → stretch c size area' ≡ part_in size area arena c (get_or os c Free))
    → (c : ℕ) (e : Equation) → Tells (places_in size area arena os) c e → stretch c size area' ≡ e.part
finished_parts size area area' arena os put c e h =
    put c ∙ part_told size area arena c (get_or os c Free) e (subst (λ s. told c s ≡ Some e) (at_places size area arena c os) h)

same_place : (size : ℕ) (area area' : List ℕ) (arena : Arena) (c : ℕ) (o : Column) → stretch c size area' ≡ part_in size area arena c o → place_in size area' arena c o ≡ place_in size area arena c o
unfolding place_in part_in
same_place size area area' arena c Free h = refl
same_place size area area' arena c Piece h = ap piece h
same_place size area area' arena c (Row slot) h = refl

pub finished_places : (size : ℕ) (area area' : List ℕ) (arena : Arena) (os : List Column) → ((c : ℕ) → stretch c size area' ≡ part_in size area arena c (get_or os c Free))
    → places_in size area' arena os ≡ places_in size area arena os
finished_places size area area' arena os put =
    ext_get_or free (places_in size area' arena os) (places_in size area arena os)
    (length-places size area' arena os ∙ sym (length-places size area arena os)) (λ c lt.
    at_places size area' arena c os ∙ same_place size area area' arena c (get_or os c Free) (put c) ∙ sym (at_places size area arena c os))

pub finished : (nb size rows count gained : ℕ) (columns : List Column) (spare known area area' : List ℕ) (arena : Arena) → IsGrid nb size rows count gained columns spare known area arena
    → ((c : ℕ) → stretch c size area' ≡ part_in size area arena c (get_or (take nb columns) c Free))
    → IsGrid nb size rows count gained columns spare known area' arena
finished nb size rows count gained columns spare known area area' arena h put =
    grid_next nb size rows count count gained gained columns columns spare spare known known area area' arena arena (places_in size area arena (take nb columns)) h refl refl refl (same_shape arena)
    h.slots (finished_places size area area' arena (take nb columns) put) h.reduced h.marks h.counted h.gained_all

-- ---- an area that reaches further

pub longer_places : (nb size : ℕ) (area more : List ℕ) (arena : Arena) (os : List Column) → IsReduced nb size (places_in size area arena os)
    → places_in size (area ++ more) arena os ≡ places_in size area arena os
unfolding place_in
longer_places nb size area more arena os reduced =
    ext_get_or free (places_in size (area ++ more) arena os) (places_in size area arena os)
    (length-places size (area ++ more) arena os ∙ sym (length-places size area arena os)) (λ c lt.
    at_places size (area ++ more) arena c os ∙ by_column c (get_or os c Free) refl ∙ sym (at_places size area arena c os))
  where
    by_column : (c : ℕ) (o : Column) → get_or os c Free ≡ o → place_in size (area ++ more) arena c o ≡ place_in size area arena c o
    by_column c Free is = refl
    by_column c Piece is = ap piece (stretch_longer c size area more (reduced.part c (piece_at size area c) (piece_told size area arena c os is)).sized)
    by_column c (Row slot) is = refl

pub longer : (nb size rows count gained : ℕ) (columns : List Column) (spare known area more : List ℕ) (arena : Arena) → IsGrid nb size rows count gained columns spare known area arena
    → IsGrid nb size rows count gained columns spare known (area ++ more) arena
longer nb size rows count gained columns spare known area more arena h =
    grid_next nb size rows count count gained gained columns columns spare spare known known area (area ++ more) arena arena (places_in size area arena (take nb columns)) h refl refl refl (same_shape arena)
    h.slots (longer_places nb size area more arena (take nb columns) h.reduced) h.reduced h.marks h.counted h.gained_all

-- ---- a table with nothing in it

pub none_placed : (cols size : ℕ) (area : List ℕ) (arena : Arena) (os : List Column) → length os ≡ cols → ((c : ℕ) → get_or os c Free ≡ Free) → places_in size area arena os ≡ replicate cols free
unfolding place_in
none_placed cols size area arena os sized none =
    ext_get_or free (places_in size area arena os) (replicate cols free)
    (length-places size area arena os ∙ sized ∙ sym (length-replicate cols free)) (λ c lt.
    at_places size area arena c os ∙ ap (place_in size area arena c) (none c)
    ∙ sym (get_or-replicate cols c free free (omega (arith, length-places size area arena os))))

pub free_everywhere : (cols c : ℕ) → get_or (replicate cols free) c free ≡ free
free_everywhere cols c = elim (cases_lt c cols) [
  | inl lt ↦ get_or-replicate cols c free free lt
  | inr past ↦ get_or_past (replicate cols free) c free (omega (arith, length-replicate {A = Place} cols free))
]

tells_nothing : (cols c : ℕ) (e : Equation) → Tells (replicate cols free) c e → ⊥
unfolding told
tells_nothing cols c e h = let none : told c free ≡ Some e = subst (λ s. told c s ≡ Some e) (free_everywhere cols c) h in cc

pub none_reduced : (cols size : ℕ) → IsReduced cols size (replicate cols free)
none_reduced cols size = record {
  sized = length-replicate cols free;
  own = λ c e h. absurd (tells_nothing cols c e h);
  within = λ c e h. absurd (tells_nothing cols c e h);
  part = λ c e h. absurd (tells_nothing cols c e h);
  apart = λ c d e f ne h k. absurd (tells_nothing cols c e h);
}

pub rows_none : (n : ℕ) → rows_held (replicate n free) ≡ 0
unfolding rows_held is_row
rows_none zero = refl
rows_none (suc n) =
    let rest : rows_held (replicate n free) ≡ 0 = rows_none n in
    omega (arith, count-cons is_row free (replicate n free), one_false (is_row free) refl, rest)

pub gained_none : (n : ℕ) → gained_held (replicate n free) ≡ 0
unfolding gained_held pieces_held rows_held is_piece
gained_none zero = refl
gained_none (suc n) =
    let rest : pieces_held (replicate n free) + rows_held (replicate n free) ≡ 0 = gained_none n in
    omega (arith, count-cons is_piece free (replicate n free), one_false (is_piece free) refl, rows_none (suc n), rest)

-- the columns of a file that begins
none_there : (nb : ℕ) (columns : List Column) → nb ≤ length columns → ((c : ℕ) → get_or columns c Free ≡ Free) → (k : ℕ) → get_or (take nb columns) k Free ≡ Free
none_there nb columns le none k =
    let long : length (take nb columns) ≡ nb = length-take-le nb columns le in
    elim (cases_lt k nb) [ inl lt ↦ get_or-take nb columns k Free lt ∙ none k | inr past ↦ get_or_past (take nb columns) k Free (omega arith) ]

-- columns of which nothing is kept
pub all_free : (nb : ℕ) (columns : List Column) → columns ≡ replicate nb Free → (c : ℕ) → get_or columns c Free ≡ Free
all_free nb columns is c = elim (cases_lt c nb) [
  | inl lt ↦ ap (λ (l : List Column). get_or l c Free) is ∙ get_or-replicate nb c Free Free lt
  | inr past ↦ ap (λ (l : List Column). get_or l c Free) is ∙ get_or_past (replicate nb Free) c Free (omega (arith, length-replicate {A = Column} nb Free))
]

pub all_there : (nb : ℕ) (columns : List Column) → columns ≡ replicate nb Free → nb ≤ length columns
all_there nb columns is = omega (arith, ap length is, length-replicate {A = Column} nb Free)

pub begun_places : (nb size : ℕ) (columns : List Column) (area : List ℕ) (arena : Arena) → columns ≡ replicate nb Free → places_in size area arena (take nb columns) ≡ replicate nb free
begun_places nb size columns area arena is =
    let le : nb ≤ length columns = all_there nb columns is in
    none_placed nb size area arena (take nb columns) (length-take-le nb columns le) (none_there nb columns le (all_free nb columns is))

pub begun : (nb size rows : ℕ) (columns : List Column) (spare known area : List ℕ) (arena : Arena) → nb ≤ max_pieces → rows ≤ nb → columns ≡ replicate nb Free → rows ≤ length spare → words_for nb ≤ length known
    → arena ≡ record { cols = nb; cell = size; rows = replicate rows (zero_row size) }
    → ((i : ℕ) → i < rows → get_or spare i 0 ≡ i) → line_in known ≡ 0
    → IsGrid nb size rows 0 0 columns spare known area arena
begun nb size rows columns spare known area arena most few c s k shaped each unmarked =
    let os : List Column = take nb columns in
    let le : nb ≤ length columns = all_there nb columns c in
    let none : (i : ℕ) → get_or columns i Free ≡ Free = all_free nb columns c in
    let is : places_in size area arena os ≡ replicate nb free = begun_places nb size columns area arena c in
    record {
      most = most;
      few = few;
      columns_sized = le;
      spare_sized = s;
      known_sized = k;
      arena_cols = ap (λ (x : Arena). x.cols) shaped;
      arena_cell = ap (λ (x : Arena). x.cell) shaped;
      arena_rows = ap (λ (x : Arena). length x.rows) shaped ∙ length-replicate {A = Line} rows (zero_row size);
      slots = slots_none os spare rows (none_there nb columns le none) each;
      reduced = subst (λ x. IsReduced nb size x) (sym is) (none_reduced nb size);
      marks = marks_none (line_in (take (words_for nb) known)) (places_in size area arena os) (none_in_first (words_for nb) known unmarked)
          (λ d. ap (λ (l : List Place). get_or l d free) is ∙ free_everywhere nb d);
      counted = sym (ap rows_held is ∙ rows_none nb);
      gained_all = sym (ap gained_held is ∙ gained_none nb);
    }

-- a table for no file
pub no_file : (columns : List Column) (spare known area : List ℕ) (arena : Arena)
    → arena ≡ record { cols = 0; cell = 0; rows = [] } → IsGrid 0 0 0 0 0 columns spare known area arena
unfolding words_for line_in
no_file columns spare known area arena shaped =
    let none : (i : ℕ) → get_or {A = Column} [] i Free ≡ Free = λ i. get_or_past [] i Free (omega arith) in
    let is : places_in 0 area arena [] ≡ replicate 0 free = none_placed 0 0 area arena [] refl none in
    record {
      most = omega arith;
      few = omega arith;
      columns_sized = omega arith;
      spare_sized = omega arith;
      known_sized = omega arith;
      arena_cols = ap (λ (x : Arena). x.cols) shaped;
      arena_cell = ap (λ (x : Arena). x.cell) shaped;
      arena_rows = ap (λ (x : Arena). length x.rows) shaped;
      slots = slots_none [] spare 0 none (λ i lt. absurd (omega arith));
      reduced = subst (λ x. IsReduced 0 0 x) (sym is) (none_reduced 0 0);
      marks = marks_none 0 (places_in 0 area arena []) refl (λ d. ap (λ (l : List Place). get_or l d free) is ∙ free_everywhere 0 d);
      counted = sym (ap rows_held is ∙ rows_none 0);
      gained_all = sym (ap gained_held is ∙ gained_none 0);
    }

-- what the pass wrote, by the fields of the table
pub wrote_parts : (nb size cell : ℕ) (columns columns' : List Column) (area now area' : List ℕ) (arena arena' : Arena) → columns' ≡ columns → now ≡ area → arena' ≡ arena → cell ≡ size
    → ((c : ℕ) → stretch c cell area' ≡ part_in cell now arena' c (get_or (take nb columns') c Free)) → (c : ℕ) → stretch c size area' ≡ part_in size area arena c (get_or (take nb columns) c Free)
wrote_parts nb size cell columns columns' area now area' arena arena' e f g h put =
    let P : ℕ → List ℕ → Arena → List Column → Type 0 = λ n l a os. (c : ℕ) → stretch c n area' ≡ part_in n l a c (get_or (take nb os) c Free) in
    subst (λ os. P size area arena os) e (subst (λ a. P size area a columns') g (subst (λ l. P size l arena' columns') f (subst (λ n. P n now arena' columns') h put)))

-- what holds of a call that went well
pub ok_holds : {T E P : Type 0} (r : Result T E) → is_ok r ≡ true → OnOk r P → P
ok_holds (Ok x) e h = h
ok_holds (Err x) e h = absurd (true≢false (sym e))
