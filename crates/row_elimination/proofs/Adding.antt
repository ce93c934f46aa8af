-- A piece put instead of a row, and the row that is left put into its slot.
use Rattle.std.proofs.Common.{◌≡◌, ◌≢◌, ◌⊎◌, ℕ, ◌<◌, ◌≤◌, List, ◌++◌, take, drop, length, length-take-le, get_or, set, sym, ap, ◌∙◌, subst, inl, inr}
use Rattle.std.proofs.lemmas.List.{set-set, set_comm, take_at}
use Rattle.row_arena.specs.Rows.{Arena}
use Rattle.row_elimination.specs.declared.columns.Column.{Column}
use Rattle.row_elimination.specs.declared.columns.Column.TheVariants.{Free, Piece, Row}
use Rattle.row_elimination.specs.HeldPlaces.{Place, piece, row, all_cleared, grown}
use Rattle.row_elimination.specs.HeldStorage.{places_in, Slots, TakesOver}
use Rattle.row_elimination.proofs.Slotting.{slots_piece, slots_moved}

free_no_row : (s : ℕ) → Free ≢ Row s
free_no_row s e = cc

abbrev pub KindAt : List Column → ℕ → ℕ → Type 0
KindAt os k p = (k ≡ p) ⊎ ((k ≢ p) × ((slot : ℕ) × (get_or os k Free ≡ Row slot)))

none_kept : (os : List Column) (k p : ℕ) → k ≡ p → get_or os p Free ≡ Free → (slot : ℕ) → get_or os k Free ≢ Row slot
none_kept os k p same lead slot e = free_no_row slot (sym lead ∙ sym (ap (λ n. get_or os n Free) same) ∙ e)

pub swapped_slots : (os os' : List Column) (k p y : ℕ) (q : List ℕ) (arena arena' : Arena) (spare : List ℕ) (rows count : ℕ)
    → k < length os → p < length os → KindAt os k p → get_or os p Free ≡ Free
    → TakesOver (get_or os k Free) p y q arena arena' (set os k Piece) os'
    → Slots os spare rows count → Slots os' spare rows count
swapped_slots os os' k p y q arena arena' spare rows count klt plt (inl same) lead over h =
    subst (λ l. Slots l spare rows count) (sym (over.none (none_kept os k p same lead)).0) (slots_piece os spare rows count k klt h)
swapped_slots os os' k p y q arena arena' spare rows count klt plt (inr w) lead over h =
    let slot : ℕ = w.1.0 in
    let is : get_or os k Free ≡ Row slot = w.1.1 in
    subst (λ l. Slots l spare rows count) (sym (over.row slot is).0) (slots_moved os spare rows count k p slot klt plt is h)

pub swapped_places : (size : ℕ) (os os' : List Column) (k p y : ℕ) (q part : List ℕ) (area area' : List ℕ) (arena arena1 arena' : Arena)
    → KindAt os k p → get_or os p Free ≡ Free
    → places_in size area arena1 os ≡ all_cleared p y q (places_in size area arena os)
    → ((x : Arena) → places_in size area' x (set os k Piece) ≡ set (places_in size area x os) k (piece part))
    → TakesOver (get_or os k Free) p y q arena1 arena' (set os k Piece) os'
    → places_in size area' arena' os' ≡ set (grown p y q (places_in size area arena os)) k (piece part)
unfolding grown
swapped_places size os os' k p y q part area area' arena arena1 arena' (inl same) lead cl put over =
    let e = over.none (none_kept os k p same lead) in
    let old : List Place = places_in size area arena os in
    ap (λ l. places_in size area' arena' l) e.0
    ∙ ap (λ x. places_in size area' x (set os k Piece)) e.1
    ∙ put arena1
    ∙ ap (λ l. set l k (piece part)) cl
    ∙ sym (ap (λ n. set (set (all_cleared p y q old) n (row y q)) k (piece part)) (sym same) ∙ set-set (all_cleared p y q old) k (row y q) (piece part))
swapped_places size os os' k p y q part area area' arena arena1 arena' (inr w) lead cl put over =
    let slot : ℕ = w.1.0 in
    let e = over.row slot w.1.1 in
    let old : List Place = places_in size area arena os in
    e.1 size area'
    ∙ ap (λ l. set l p (row y q)) (put arena1 ∙ ap (λ l. set l k (piece part)) cl)
    ∙ set_comm (all_cleared p y q old) k p (piece part) (row y q) w.0

-- the same columns, by their number
pub over_at : (n m : ℕ) (columns os os' : List Column) (k p y : ℕ) (q : List ℕ) (arena arena' : Arena) (kept : Column) → m ≡ n → os ≡ set (take m columns) k Piece
    → kept ≡ get_or (take m columns) k Free → TakesOver kept p y q arena arena' os os' → TakesOver (get_or (take n columns) k Free) p y q arena arena' (set (take n columns) k Piece) os'
over_at n m columns os os' k p y q arena arena' kept e is was h =
    subst (λ (i : ℕ). TakesOver (get_or (take i columns) k Free) p y q arena arena' (set (take i columns) k Piece) os') e
    (subst (λ (l : List Column). TakesOver (get_or (take m columns) k Free) p y q arena arena' l os') is
    (subst (λ (o : Column). TakesOver o p y q arena arena' os os') was h))

-- what a slice holds after its first items were written
pub written_first : {A : Type 0} (n m : ℕ) (new old : List A) → m ≡ n → m ≤ length old → length new ≡ length (take m old) → take n (new ++ drop m old) ≡ new
written_first n m new old e le sized = take_at new (drop m old) n (sized ∙ length-take-le m old le ∙ e)
