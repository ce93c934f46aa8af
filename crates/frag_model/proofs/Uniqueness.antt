-- Where some block fits, only one does exactly at full gain.
use Rattle.std.proofs.Common.{◌≡◌, ◌≢◌, ℕ, ◌+◌, ◌<◌, ◌≤◌, ◌/◌, ◌%◌, ◌^◌, Bool, true, false, cond, not, ◌==◌, List, [], ◌∷◌, map, length, get_or, bit_xor, refl, sym, ap, ap₂, ◌∙◌, subst, inl, inr, arith, eq-eqb, ne_eqb}
use Rattle.std.specs.List.{AllByRecursion}
use Rattle.std.specs.Int.{bit_at}
use Rattle.std.specs.Int.Bits.{xor_self, xor_zero_l, xor_assoc}
use lib.Bits.{xor_shr}
use Rattle.std.proofs.lemmas.Nat.{xor_comm}
use Rattle.std.proofs.lemmas.Nat.Bits.{bit_at_xor, bit_at_lowest, bit_at-pow_same, bit_at-pow_other, bit_at_above, same_from_bits}
use Rattle.std.proofs.lemmas.List.{ext_get_or, length-map}
use Rattle.std.proofs.lemmas.List.Elements.{recursion_from_All, All-get_or}
use Rattle.std.proofs.lemmas.Bool.{cases_eq, cases_lt}
use Rattle.frag_model.specs.Fragments.{Fragment, Shape, IsPiece, Meets, equation_of, line_of, byte_at}
use Rattle.frag_model.specs.Gain.{gain_of_lines, gain_of, numbers_of, gain, IsSum}
use Rattle.frag_model.specs.Verdict.{FittingBlock}
use Rattle.frag_model.specs.Laws.{AreNumbered}
use Rattle.frag_model.specs.News.{lines_heard}
use Rattle.frag_model.proofs.Members.{In, In-map, In-map_from}
use Rattle.frag_model.proofs.Parts.{xor_swap, get_or-xor_all}
use Rattle.frag_model.proofs.Uncoded.{each-In, xor_all_piece}
use Rattle.frag_model.proofs.Sums.{xor_back}
use Rattle.frag_model.proofs.Tables.{IsSum-line, Row, lines_of, pivots_of, IsRow, Table, has_table}
use Rattle.frag_model.proofs.Dimension.{pivots_distinct, pivot_inside, row_of, rows_apart, all_there, lines_within}

-- ---- the bytes of pieces at a line's columns are linear in the line

either : Bool → Bool → Bool
either true b = not b
either false b = b

odd_xor : (l m : ℕ) → (bit_xor l m % 2 == 1) ≡ either (l % 2 == 1) (m % 2 == 1)
unfolding either
odd_xor l m =
    let sum : bit_xor l m % 2 ≡ (l % 2 + m % 2) % 2 =
    sym (bit_at_lowest (bit_xor l m)) ∙ bit_at_xor l m 0 ∙ ap₂ (λ a b. (a + b) % 2) (bit_at_lowest l) (bit_at_lowest m) in
    elim (cases_eq (l % 2) 1) [
      | inl a ↦ elim (cases_eq (m % 2) 1) [
        | inl b ↦ ne_eqb _ 1 (omega arith) ∙ sym (ap₂ either (eq-eqb _ 1 a) (eq-eqb _ 1 b))
        | inr b ↦ eq-eqb _ 1 (omega arith) ∙ sym (ap₂ either (eq-eqb _ 1 a) (ne_eqb _ 1 b))
      ]
      | inr a ↦ elim (cases_eq (m % 2) 1) [
        | inl b ↦ eq-eqb _ 1 (omega arith) ∙ sym (ap₂ either (ne_eqb _ 1 a) (eq-eqb _ 1 b))
        | inr b ↦ ne_eqb _ 1 (omega arith) ∙ sym (ap₂ either (ne_eqb _ 1 a) (ne_eqb _ 1 b))
      ]
    ]

add_cases : (t u : Bool) (q a b : ℕ) → cond (either t u) (bit_xor q (bit_xor a b)) (bit_xor a b) ≡ bit_xor (cond t (bit_xor q a) a) (cond u (bit_xor q b) b)
unfolding either
add_cases true true q a b = sym (xor_swap q a q b ∙ ap (λ z. bit_xor z (bit_xor a b)) (xor_self q) ∙ xor_zero_l (bit_xor a b))
add_cases true false q a b = sym (xor_assoc q a b)
add_cases false true q a b = sym (sym (xor_assoc a q b) ∙ ap (λ z. bit_xor z b) (xor_comm a q) ∙ xor_assoc q a b)
add_cases false false q a b = refl

pub byte_at-xor : (l m i : ℕ) (block : List (List ℕ)) → byte_at (bit_xor l m) i block ≡ bit_xor (byte_at l i block) (byte_at m i block)
unfolding byte_at
byte_at-xor l m i [] = refl
byte_at-xor l m i (p ∷ ps) =
    let rest : byte_at (bit_xor l m / 2) i ps ≡ bit_xor (byte_at (l / 2) i ps) (byte_at (m / 2) i ps) =
    ap (λ z. byte_at z i ps) (xor_shr l m 1) ∙ byte_at-xor (l / 2) (m / 2) i ps in
    let q : ℕ = get_or p i 0 in
    ap₂ (λ t r. cond t (bit_xor q r) r) (odd_xor l m) rest
    ∙ add_cases (l % 2 == 1) (m % 2 == 1) q (byte_at (l / 2) i ps) (byte_at (m / 2) i ps)

pub byte_at-none : (i : ℕ) (block : List (List ℕ)) → byte_at 0 i block ≡ 0
unfolding byte_at
byte_at-none i [] = refl
byte_at-none i (p ∷ ps) = byte_at-none i ps

-- blocks that agree at each line agree at each sum
pub same_at_sums : (i x : ℕ) (b c : List (List ℕ)) (ls : List ℕ) → ((l : ℕ) → In l ls → byte_at l i b ≡ byte_at l i c) → IsSum x ls → byte_at x i b ≡ byte_at x i c
same_at_sums i x b c [] h k = ap (λ z. byte_at z i b) k ∙ byte_at-none i b ∙ sym (ap (λ z. byte_at z i c) k ∙ byte_at-none i c)
same_at_sums i x b c (l ∷ ls) h (inl k) = same_at_sums i x b c ls (λ m j. h m (inr j)) k
same_at_sums i x b c (l ∷ ls) h (inr k) =
    let rest : byte_at (bit_xor l x) i b ≡ byte_at (bit_xor l x) i c = same_at_sums i (bit_xor l x) b c ls (λ m j. h m (inr j)) k in
    ap (λ z. byte_at z i b) (sym (xor_back l x)) ∙ byte_at-xor l (bit_xor l x) i b
    ∙ ap₂ bit_xor (h l (inl refl)) rest
    ∙ sym (ap (λ z. byte_at z i c) (sym (xor_back l x)) ∙ byte_at-xor l (bit_xor l x) i c)

-- ---- at full gain

-- a row of a full table has only its own column
full_row : (cols : ℕ) (rows : List Row) (r : Row) → Table cols rows → ((k : ℕ) → k < cols → In k (pivots_of rows)) → In r rows → r.line ≡ 2 ^ r.pivot
full_row cols rows r t all m =
    let k : IsRow cols r = row_of cols rows r t m in
    same_from_bits r.line (2 ^ r.pivot) (λ i. elim (cases_eq i r.pivot) [
      | inl e ↦ ap (λ j. bit_at r.line j) e ∙ k.own ∙ sym (ap (λ j. bit_at (2 ^ r.pivot) j) e ∙ bit_at-pow_same r.pivot)
      | inr ne ↦ elim (cases_lt i cols) [
        | inr out ↦ bit_at_above r.line cols i k.within out ∙ sym (bit_at-pow_other r.pivot i ne)
        | inl inside ↦
            let s = In-map_from (λ (q : Row). q.pivot) i rows (all i inside) in
            let apart : s.0.pivot ≢ r.pivot = λ e. ne (s.2 ∙ e) in
            ap (λ j. bit_at r.line j) s.2 ∙ rows_apart cols rows r s.0 t m s.1 apart ∙ sym (bit_at-pow_other r.pivot i ne)
      ]
    ])

-- each column is then a sum of the lines
unit_sum : (cols k : ℕ) (ls : List ℕ) → AllByRecursion (λ l. l < 2 ^ cols) ls → gain_of_lines ls ≡ cols → k < cols → IsSum (2 ^ k) ls
unit_sum cols k ls h full lt =
    let t = has_table cols ls h in
    let all : (j : ℕ) → j < cols → In j (pivots_of t.0) =
    all_there cols (pivots_of t.0) (pivots_distinct cols t.0 t.1.table) (λ p m. pivot_inside cols t.0 p t.1.table m)
    (omega (arith, length-map t.0 (λ (r : Row). r.pivot), t.1.gained)) in
    let r = In-map_from (λ (q : Row). q.pivot) k t.0 (all k lt) in
    let line : r.0.line ≡ 2 ^ k = full_row cols t.0 r.0 t.1.table all r.1 ∙ ap (λ j. 2 ^ j) (sym r.2) in
    t.1.to (2 ^ k) (subst (λ z. IsSum z (lines_of t.0)) line (IsSum-line r.0.line (lines_of t.0) (In-map (λ (q : Row). q.line) r.0 t.0 r.1)))

pub numbers_from_one : (heard : List Fragment) → AreNumbered heard → AllByRecursion (λ n. 1 ≤ n) (map (λ (f : Fragment). f.number) heard)
numbers_from_one [] h = tt
numbers_from_one (f ∷ heard) h = (h.0, numbers_from_one heard h.1)

-- what a block that fits has at each line that was heard
pub fits_line : (shape : Shape) (heard : List Fragment) (block : List (List ℕ)) (f : Fragment) (i : ℕ) → FittingBlock shape heard block → In f heard → byte_at (line_of shape.nb_frag f.number) i block ≡ get_or f.part i 0
unfolding Meets equation_of
fits_line shape heard block f i fb m =
    let meets : Meets shape.frag_size block (equation_of shape f) =
    each-In (λ (g : Fragment). Meets shape.frag_size block (equation_of shape g)) f heard (recursion_from_All (λ (g : Fragment). Meets shape.frag_size block (equation_of shape g)) heard fb.fitting) m in
    sym (get_or-xor_all shape.frag_size (line_of shape.nb_frag f.number) i block) ∙ ap (λ p. get_or p i 0) meets

pub same_line : (shape : Shape) (heard : List Fragment) (b c : List (List ℕ)) (i l : ℕ) → FittingBlock shape heard b → FittingBlock shape heard c → In l (lines_heard shape heard) → byte_at l i b ≡ byte_at l i c
unfolding numbers_of
same_line shape heard b c i l fb fc m =
    let n = In-map_from (λ j. line_of shape.nb_frag j) l (map (λ (f : Fragment). f.number) heard) m in
    let f = In-map_from (λ (g : Fragment). g.number) n.0 heard n.1 in
    let is : l ≡ line_of shape.nb_frag f.0.number = n.2 ∙ ap (λ j. line_of shape.nb_frag j) f.2 in
    ap (λ z. byte_at z i b) is ∙ fits_line shape heard b f.0 i fb f.1 ∙ sym (ap (λ z. byte_at z i c) is ∙ fits_line shape heard c f.0 i fc f.1)

piece_byte : (size k i : ℕ) (block : List (List ℕ)) → k < length block → AllByRecursion (IsPiece size) block → byte_at (2 ^ k) i block ≡ get_or (get_or block k []) i 0
piece_byte size k i block lt h = sym (get_or-xor_all size (2 ^ k) i block) ∙ ap (λ p. get_or p i 0) (xor_all_piece size k (2 ^ k) block refl lt h)

pub unique_at_full_gain : (shape : Shape) (heard : List Fragment) (b c : List (List ℕ)) → AreNumbered heard → gain shape heard ≡ shape.nb_frag → FittingBlock shape heard b → FittingBlock shape heard c → c ≡ b
unfolding gain gain_of numbers_of
unique_at_full_gain shape heard b c numbered full fb fc =
    let hb = recursion_from_All (IsPiece shape.frag_size) b fb.shaped.pieces in
    let hc = recursion_from_All (IsPiece shape.frag_size) c fc.shaped.pieces in
    let within = lines_within shape.nb_frag (map (λ (f : Fragment). f.number) heard) (numbers_from_one heard numbered) in
    ext_get_or [] c b (fc.shaped.counted ∙ sym fb.shaped.counted) (λ k lt.
    let inside : k < shape.nb_frag = omega (arith, fc.shaped.counted) in
    let ltb : k < length b = omega (arith, fb.shaped.counted) in
    let pc : IsPiece shape.frag_size (get_or c k []) = All-get_or (IsPiece shape.frag_size) c k [] lt fc.shaped.pieces in
    let pb : IsPiece shape.frag_size (get_or b k []) = All-get_or (IsPiece shape.frag_size) b k [] ltb fb.shaped.pieces in
    let unit : IsSum (2 ^ k) (lines_heard shape heard) = unit_sum shape.nb_frag k (lines_heard shape heard) within full inside in
    ext_get_or 0 (get_or c k []) (get_or b k []) (pc.sized ∙ sym pb.sized) (λ i ilt.
    sym (piece_byte shape.frag_size k i c lt hc)
    ∙ same_at_sums i (2 ^ k) c b (lines_heard shape heard) (λ l m. same_line shape heard c b i l fc fb m) unit
    ∙ piece_byte shape.frag_size k i b ltb hb))
