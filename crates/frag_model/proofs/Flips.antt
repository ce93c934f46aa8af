-- Below full gain a block that fits can be changed at a free column, and fits still.
use Rattle.std.proofs.Common.{◌≡◌, ◌≢◌, ℕ, zero, suc, ◌<◌, ◌/◌, ◌%◌, ◌^◌, true, false, cond, ◌==◌, List, [], ◌∷◌, map, length, get_or, set, bit_xor, refl, sym, ap, ap₂, ◌∙◌, subst, inl, inr, arith, eqb-true, pow-suc, length-set, get_or-set_same, get_or-set_other, suc-ne-zero}
use Rattle.std.specs.Prelude.{if◌then◌else◌}
use Rattle.std.specs.List.{AllByRecursion}
use Rattle.std.specs.Int.{bit_at}
use Rattle.std.specs.Int.Bits.{xor_zero_l, xor_zero_r}
use lib.Bits.{xor_mod, xor_shr}
use Rattle.std.proofs.lemmas.Nat.{xor_lt}
use Rattle.std.proofs.lemmas.Nat.Bits.{bit_at_xor, bit_at_lowest, bit_at-suc, bit_at-lt, bit_at-pow_same, bit_at-pow_other}
use Rattle.std.proofs.lemmas.List.{ext_get_or, length-map}
use Rattle.std.proofs.lemmas.List.Elements.{All-from_recursion, recursion_from_All, All-get_or, All-set}
use Rattle.std.proofs.lemmas.Bool.{cases_lt, cases_Bool, eqb-false}
use Rattle.frag_model.specs.Fragments.{Fragment, Shape, IsPiece, Meets, Equation, equation_of, line_of, xor_all, pieces_at, byte_at}
use Rattle.frag_model.specs.Gain.{gain_of, numbers_of, gain, IsSum}
use Rattle.frag_model.specs.Verdict.{FittingBlock, OneBlockFits}
use Rattle.frag_model.specs.Laws.{AreNumbered}
use Rattle.frag_model.proofs.Members.{In, In-map, In-map_from}
use Rattle.frag_model.proofs.Parts.{xor_swap, xor_kept, get_or-xor_all, length-xor_all}
use Rattle.frag_model.proofs.Uncoded.{each-In, each-from_In}
use Rattle.frag_model.proofs.Tables.{IsSum-line, Row, lines_of, pivots_of, Apart, Table, has_table}
use Rattle.frag_model.proofs.Dimension.{free_number, lines_within}
use Rattle.frag_model.proofs.Enough.{gain-most}
use Rattle.frag_model.specs.News.{lines_heard}
use Rattle.frag_model.proofs.Uniqueness.{same_at_sums, numbers_from_one}

-- ---- a set of columns against a line: the parity of what they share

-- the columns of v as pieces of one byte
shared_pieces : ℕ → ℕ → List (List ℕ)
shared_pieces zero v = []
shared_pieces (suc n) v = (v % 2 ∷ []) ∷ shared_pieces n (v / 2)

parity : ℕ → ℕ → ℕ → ℕ
parity n line v = byte_at line 0 (shared_pieces n v)

parity-none : (n line : ℕ) → parity n line 0 ≡ 0
unfolding parity shared_pieces byte_at
parity-none zero line = refl
parity-none (suc n) line =
    elim (line % 2 == 1) as (λ t. cond t (bit_xor 0 (parity n (line / 2) 0)) (parity n (line / 2) 0) ≡ 0) [ true ↦ parity-none n (line / 2) | false ↦ parity-none n (line / 2) ]

parity-xor : (n line v w : ℕ) → parity n line (bit_xor v w) ≡ bit_xor (parity n line v) (parity n line w)
unfolding parity shared_pieces byte_at
parity-xor zero line v w = refl
parity-xor (suc n) line v w =
    let l : ℕ = line / 2 in
    let rest : parity n l (bit_xor v w / 2) ≡ bit_xor (parity n l (v / 2)) (parity n l (w / 2)) =
    ap (λ z. parity n l z) (xor_shr v w 1) ∙ parity-xor n l (v / 2) (w / 2) in
    elim (line % 2 == 1) as (λ t. cond t (bit_xor (bit_xor v w % 2) (parity n l (bit_xor v w / 2))) (parity n l (bit_xor v w / 2))
    ≡ bit_xor (cond t (bit_xor (v % 2) (parity n l (v / 2))) (parity n l (v / 2))) (cond t (bit_xor (w % 2) (parity n l (w / 2))) (parity n l (w / 2)))) [
      | true ↦ ap₂ bit_xor (xor_mod v w 1) rest ∙ xor_swap (v % 2) (w % 2) (parity n l (v / 2)) (parity n l (w / 2))
      | false ↦ rest
    ]

-- one column shares what the line has there
parity-one : (n k line v : ℕ) → v ≡ 2 ^ k → k < n → parity n line v ≡ bit_at line k
unfolding parity shared_pieces byte_at
parity-one zero k line v e lt = absurd (omega arith)
parity-one (suc n) zero line v e lt =
    let one : v % 2 ≡ 1 = omega arith in
    let none : parity n (line / 2) (v / 2) ≡ 0 = ap (λ z. parity n (line / 2) z) (let h : v / 2 ≡ 0 = omega arith in h) ∙ parity-none n (line / 2) in
    let both : bit_xor (v % 2) (parity n (line / 2) (v / 2)) ≡ 1 = ap₂ bit_xor one none in
    elim (cases_Bool (line % 2 == 1)) [
      | inl at_true ↦ ap (λ t. cond t (bit_xor (v % 2) (parity n (line / 2) (v / 2))) (parity n (line / 2) (v / 2))) at_true ∙ both ∙ sym (bit_at_lowest line ∙ eqb-true _ _ at_true)
      | inr at_false ↦
          let ne = eqb-false _ _ at_false in
          ap (λ t. cond t (bit_xor (v % 2) (parity n (line / 2) (v / 2))) (parity n (line / 2) (v / 2))) at_false ∙ none ∙ sym (bit_at_lowest line ∙ (omega (arith, ne)))
    ]
parity-one (suc n) (suc k) line v e lt =
    let even : v % 2 ≡ 0 = omega (arith, pow-suc 2 k) in
    let half : v / 2 ≡ 2 ^ k = omega (arith, pow-suc 2 k) in
    let rest : parity n (line / 2) (v / 2) ≡ bit_at line (suc k) = parity-one n k (line / 2) (v / 2) half (omega arith) ∙ sym (bit_at-suc line k) in
    let both : bit_xor (v % 2) (parity n (line / 2) (v / 2)) ≡ bit_at line (suc k) = ap (λ z. bit_xor z (parity n (line / 2) (v / 2))) even ∙ xor_zero_l _ ∙ rest in
    elim (line % 2 == 1) as (λ t. cond t (bit_xor (v % 2) (parity n (line / 2) (v / 2))) (parity n (line / 2) (v / 2)) ≡ bit_at line (suc k)) [ true ↦ both | false ↦ rest ]

-- ---- the columns that a free column draws along: the pivots of the rows that have it

drawn : ℕ → List Row → ℕ
drawn f [] = 2 ^ f
drawn f (r ∷ rows) = if bit_at r.line f == 1 then bit_xor (2 ^ r.pivot) (drawn f rows) else drawn f rows

-- a line without the pivots shares with them what it has of the free column
parity-apart : (n f line : ℕ) (rows : List Row) → f < n → ((s : Row) → In s rows → s.pivot < n) → AllByRecursion (λ (s : Row). bit_at line s.pivot ≡ 0) rows → parity n line (drawn f rows) ≡ bit_at line f
unfolding drawn
parity-apart n f line [] lt inside h = parity-one n f line (2 ^ f) refl lt
parity-apart n f line (r ∷ rows) lt inside h =
    let rest : parity n line (drawn f rows) ≡ bit_at line f = parity-apart n f line rows lt (λ s m. inside s (inr m)) h.1 in
    let none : parity n line (2 ^ r.pivot) ≡ 0 = parity-one n r.pivot line (2 ^ r.pivot) refl (inside r (inl refl)) ∙ h.0 in
    let both : parity n line (bit_xor (2 ^ r.pivot) (drawn f rows)) ≡ bit_at line f =
    parity-xor n line (2 ^ r.pivot) (drawn f rows) ∙ ap₂ bit_xor none rest in
    elim (bit_at r.line f == 1) as (λ t. parity n line (cond t (bit_xor (2 ^ r.pivot) (drawn f rows)) (drawn f rows)) ≡ bit_at line f) [ true ↦ both | false ↦ rest ]

here_all : (r : Row) (rows : List Row) → AllByRecursion (Apart r) rows → AllByRecursion (λ (s : Row). bit_at r.line s.pivot ≡ 0) rows
here_all r [] h = tt
here_all r (s ∷ rows) h = (h.0.here, here_all r rows h.1)

pivots_within : (cols : ℕ) (rows : List Row) → Table cols rows → (s : Row) → In s rows → s.pivot < cols
pivots_within cols [] t s m = absurd m
pivots_within cols (r ∷ rows) t s (inl e) = ap_lt e t.0.inside
  where
    ap_lt : {a b : Row} {n : ℕ} → a ≡ b → b.pivot < n → a.pivot < n
    ap_lt {a} {b} {n} e lt = subst (λ (x : Row). x.pivot < n) (sym e) lt
pivots_within cols (r ∷ rows) t s (inr m) = pivots_within cols rows t.2 s m

-- each row shares an even number
parity-row : (cols f : ℕ) (rows : List Row) (s : Row) → f < cols → Table cols rows → In s rows → parity cols s.line (drawn f rows) ≡ 0
unfolding drawn
parity-row cols f [] s lt t m = absurd m
parity-row cols f (r ∷ rows) s lt t (inl e) =
    let own : parity cols r.line (drawn f rows) ≡ bit_at r.line f = parity-apart cols f r.line rows lt (λ q i. pivots_within cols rows t.2 q i) (here_all r rows t.1) in
    let pivot : parity cols r.line (2 ^ r.pivot) ≡ 1 = parity-one cols r.pivot r.line (2 ^ r.pivot) refl t.0.inside ∙ t.0.own in
    let first : parity cols r.line (if bit_at r.line f == 1 then bit_xor (2 ^ r.pivot) (drawn f rows) else drawn f rows) ≡ 0 =
    elim (cases_Bool (bit_at r.line f == 1)) [
      | inl at_true ↦
          ap (λ u. parity cols r.line (cond u (bit_xor (2 ^ r.pivot) (drawn f rows)) (drawn f rows))) at_true
          ∙ parity-xor cols r.line (2 ^ r.pivot) (drawn f rows) ∙ ap₂ bit_xor pivot (own ∙ eqb-true _ _ at_true)
      | inr at_false ↦
          let ne = eqb-false _ _ at_false in
          ap (λ u. parity cols r.line (cond u (bit_xor (2 ^ r.pivot) (drawn f rows)) (drawn f rows))) at_false
          ∙ own ∙ (omega (arith, bit_at-lt r.line f, ne))
    ] in
    ap (λ (q : Row). parity cols q.line (if bit_at r.line f == 1 then bit_xor (2 ^ r.pivot) (drawn f rows) else drawn f rows)) e ∙ first
parity-row cols f (r ∷ rows) s lt t (inr m) =
    let rest : parity cols s.line (drawn f rows) ≡ 0 = parity-row cols f rows s lt t.2 m in
    let none : parity cols s.line (2 ^ r.pivot) ≡ 0 = parity-one cols r.pivot s.line (2 ^ r.pivot) refl t.0.inside ∙ (each-In (Apart r) s rows t.1 m).there in
    let both : parity cols s.line (bit_xor (2 ^ r.pivot) (drawn f rows)) ≡ 0 = parity-xor cols s.line (2 ^ r.pivot) (drawn f rows) ∙ ap₂ bit_xor none rest in
    elim (bit_at r.line f == 1) as (λ u. parity cols s.line (cond u (bit_xor (2 ^ r.pivot) (drawn f rows)) (drawn f rows)) ≡ 0) [ true ↦ both | false ↦ rest ]

-- and so does each sum of the rows
parity-sum : (cols f x : ℕ) (rows : List Row) → f < cols → Table cols rows → IsSum x (lines_of rows) → parity cols x (drawn f rows) ≡ 0
unfolding parity
parity-sum cols f x rows lt t h =
    same_at_sums 0 x (shared_pieces cols (drawn f rows)) (shared_pieces cols 0) (lines_of rows) (λ l m.
    let r = In-map_from (λ (q : Row). q.line) l rows m in
    ap (λ z. parity cols z (drawn f rows)) r.2 ∙ parity-row cols f rows r.0 lt t r.1 ∙ sym (parity-none cols l)) h
    ∙ parity-none cols x

-- the free column is drawn itself
drawn-free : (f : ℕ) (rows : List Row) → (In f (pivots_of rows) → ⊥) → bit_at (drawn f rows) f ≡ 1
unfolding drawn
drawn-free f [] free = bit_at-pow_same f
drawn-free f (r ∷ rows) free =
    let rest : bit_at (drawn f rows) f ≡ 1 = drawn-free f rows (λ m. free (inr m)) in
    let other : bit_at (2 ^ r.pivot) f ≡ 0 = bit_at-pow_other r.pivot f (λ e. free (inl e)) in
    let both : bit_at (bit_xor (2 ^ r.pivot) (drawn f rows)) f ≡ 1 = omega (arith, bit_at_xor (2 ^ r.pivot) (drawn f rows) f, rest, other) in
    elim (bit_at r.line f == 1) as (λ u. bit_at (cond u (bit_xor (2 ^ r.pivot) (drawn f rows)) (drawn f rows)) f ≡ 1) [ true ↦ both | false ↦ rest ]

-- ---- a block with the lowest bit of some first bytes the other way

flipped : ℕ → List (List ℕ) → List (List ℕ)
flipped v [] = []
flipped v (p ∷ ps) = set p 0 (bit_xor (get_or p 0 0) (v % 2)) ∷ flipped (v / 2) ps

length-flipped : (v : ℕ) (block : List (List ℕ)) → length (flipped v block) ≡ length block
unfolding flipped
length-flipped v [] = refl
length-flipped v (p ∷ ps) = ap suc (length-flipped (v / 2) ps)

flipped_pieces : (size v : ℕ) (block : List (List ℕ)) → 0 < size → AllByRecursion (IsPiece size) block → AllByRecursion (IsPiece size) (flipped v block)
unfolding flipped
flipped_pieces size v [] pos h = tt
flipped_pieces size v (p ∷ ps) pos h =
    let Q : ℕ → Type 0 = λ x. x < 2 ^ 8 in
    let first : get_or p 0 0 < 2 ^ 8 = All-get_or Q p 0 0 (omega (arith, h.0.sized)) h.0.bytes in (
      record {
        sized = length-set p 0 (bit_xor (get_or p 0 0) (v % 2)) ∙ h.0.sized;
        bytes = All-set Q p 0 (bit_xor (get_or p 0 0) (v % 2)) (xor_lt 8 (get_or p 0 0) (v % 2) first (omega arith)) h.0.bytes;
      },
      flipped_pieces size (v / 2) ps pos h.1,
    )

byte_at-flipped_first : (size line v n : ℕ) (block : List (List ℕ)) → 0 < size → AllByRecursion (IsPiece size) block → length block ≡ n → byte_at line 0 (flipped v block) ≡ bit_xor (byte_at line 0 block) (parity n line v)
unfolding flipped parity shared_pieces byte_at
byte_at-flipped_first size line v zero [] pos h e = refl
byte_at-flipped_first size line v (suc n) [] pos h e = absurd (omega arith)
byte_at-flipped_first size line v zero (p ∷ ps) pos h e = absurd (omega arith)
byte_at-flipped_first size line v (suc n) (p ∷ ps) pos h e =
    let l : ℕ = line / 2 in
    let x : ℕ = bit_xor (get_or p 0 0) (v % 2) in
    let head : get_or (set p 0 x) 0 0 ≡ x = get_or-set_same p 0 x 0 (omega (arith, h.0.sized)) in
    let rest : byte_at l 0 (flipped (v / 2) ps) ≡ bit_xor (byte_at l 0 ps) (parity n l (v / 2)) = byte_at-flipped_first size l (v / 2) n ps pos h.1 (omega arith) in
    elim (line % 2 == 1) as (λ t. cond t (bit_xor (get_or (set p 0 x) 0 0) (byte_at l 0 (flipped (v / 2) ps))) (byte_at l 0 (flipped (v / 2) ps))
    ≡ bit_xor (cond t (bit_xor (get_or p 0 0) (byte_at l 0 ps)) (byte_at l 0 ps)) (cond t (bit_xor (v % 2) (parity n l (v / 2))) (parity n l (v / 2)))) [
      | true ↦ ap₂ bit_xor head rest ∙ xor_swap (get_or p 0 0) (v % 2) (byte_at l 0 ps) (parity n l (v / 2))
      | false ↦ rest
    ]

byte_at-flipped_other : (line v i : ℕ) (block : List (List ℕ)) → byte_at line (suc i) (flipped v block) ≡ byte_at line (suc i) block
unfolding flipped byte_at
byte_at-flipped_other line v i [] = refl
byte_at-flipped_other line v i (p ∷ ps) =
    let l : ℕ = line / 2 in
    let x : ℕ = bit_xor (get_or p 0 0) (v % 2) in
    let rest = byte_at-flipped_other l (v / 2) i ps in
    elim (line % 2 == 1) as (λ t. cond t (bit_xor (get_or (set p 0 x) (suc i) 0) (byte_at l (suc i) (flipped (v / 2) ps))) (byte_at l (suc i) (flipped (v / 2) ps))
    ≡ cond t (bit_xor (get_or p (suc i) 0) (byte_at l (suc i) ps)) (byte_at l (suc i) ps)) [
      | true ↦ ap₂ bit_xor (get_or-set_other p 0 (suc i) x 0 (suc-ne-zero i)) rest
      | false ↦ rest
    ]

flipped_at : (size v k : ℕ) (block : List (List ℕ)) → 0 < size → AllByRecursion (IsPiece size) block → k < length block → get_or (get_or (flipped v block) k []) 0 0 ≡ bit_xor (get_or (get_or block k []) 0 0) (bit_at v k)
unfolding flipped
flipped_at size v k [] pos h lt = absurd (omega arith)
flipped_at size v zero (p ∷ ps) pos h lt =
    get_or-set_same p 0 (bit_xor (get_or p 0 0) (v % 2)) 0 (omega (arith, h.0.sized)) ∙ ap (λ z. bit_xor (get_or p 0 0) z) (sym (bit_at_lowest v))
flipped_at size v (suc k) (p ∷ ps) pos h lt =
    flipped_at size (v / 2) k ps pos h.1 (omega arith) ∙ ap (λ z. bit_xor (get_or (get_or ps k []) 0 0) z) (sym (bit_at-suc v k))

flipped_meets : (size v n : ℕ) (block : List (List ℕ)) (e : Equation) → 0 < size → AllByRecursion (IsPiece size) block → length block ≡ n → parity n e.line v ≡ 0 → Meets size block e → Meets size (flipped v block) e
unfolding Meets
flipped_meets size v n block e pos h long even meets =
    let total : List (List ℕ) → List ℕ = λ b. xor_all size (pieces_at e.line b) in
    let sized : length (total (flipped v block)) ≡ length (total block) =
    length-xor_all size e.line (flipped v block) (flipped_pieces size v block pos h) ∙ sym (length-xor_all size e.line block h) in
    let first : byte_at e.line 0 (flipped v block) ≡ byte_at e.line 0 block =
    byte_at-flipped_first size e.line v n block pos h long ∙ ap (λ z. bit_xor (byte_at e.line 0 block) z) even ∙ xor_zero_r (byte_at e.line 0 block) in
    ext_get_or 0 (total (flipped v block)) (total block) sized
    (λ i k. get_or-xor_all size e.line i (flipped v block) ∙ each first i ∙ sym (get_or-xor_all size e.line i block))
    ∙ meets
  where
    each : byte_at e.line 0 (flipped v block) ≡ byte_at e.line 0 block → (i : ℕ) → byte_at e.line i (flipped v block) ≡ byte_at e.line i block
    each first zero = first
    each first (suc i) = byte_at-flipped_other e.line v i block

-- ---- below full gain

flipped_fits : (shape : Shape) (heard : List Fragment) (b : List (List ℕ)) (v : ℕ) → 0 < shape.frag_size → FittingBlock shape heard b
    → ((g : Fragment) → In g heard → parity shape.nb_frag (line_of shape.nb_frag g.number) v ≡ 0) → FittingBlock shape heard (flipped v b)
unfolding equation_of
flipped_fits shape heard b v pos fb even =
    let pieces = recursion_from_All (IsPiece shape.frag_size) b fb.shaped.pieces in
    let was = recursion_from_All (λ (x : Fragment). Meets shape.frag_size b (equation_of shape x)) heard fb.fitting in
    record {
      shaped = record {
        counted = length-flipped v b ∙ fb.shaped.counted;
        pieces = All-from_recursion (IsPiece shape.frag_size) (flipped v b) (flipped_pieces shape.frag_size v b pos pieces);
      };
      fitting = All-from_recursion (λ (g : Fragment). Meets shape.frag_size (flipped v b) (equation_of shape g)) heard
          (each-from_In (λ (g : Fragment). Meets shape.frag_size (flipped v b) (equation_of shape g)) heard (λ g m.
          flipped_meets shape.frag_size v shape.nb_frag b (equation_of shape g) pos pieces fb.shaped.counted (even g m)
          (each-In (λ (x : Fragment). Meets shape.frag_size b (equation_of shape x)) g heard was m)));
    }

flipped_differs : (size v k : ℕ) (b : List (List ℕ)) → 0 < size → AllByRecursion (IsPiece size) b → k < length b → bit_at v k ≡ 1 → flipped v b ≢ b
flipped_differs size v k b pos h lt set = λ e.
    let first : ℕ = get_or (get_or b k []) 0 0 in
    let same : bit_xor first (bit_at v k) ≡ first = sym (flipped_at size v k b pos h lt) ∙ ap (λ z. get_or (get_or z k []) 0 0) e in
    let none : bit_at v k ≡ 0 = xor_kept first (bit_at v k) same in
    omega arith

-- another block fits
pub another_fits : (shape : Shape) (heard : List Fragment) (b : List (List ℕ)) → AreNumbered heard → 0 < shape.frag_size → FittingBlock shape heard b → gain shape heard < shape.nb_frag
    → (c : List (List ℕ)) × FittingBlock shape heard c × (c ≢ b)
unfolding gain gain_of numbers_of
another_fits shape heard b numbered pos fb few =
    let cols : ℕ = shape.nb_frag in
    let ls : List ℕ = lines_heard shape heard in
    let t = has_table cols ls (lines_within cols (map (λ (f : Fragment). f.number) heard) (numbers_from_one heard numbered)) in
    let f = free_number cols (pivots_of t.0) (omega (arith, length-map t.0 (λ (r : Row). r.pivot), t.1.gained)) in (
      flipped (drawn f.0 t.0) b,
      flipped_fits shape heard b (drawn f.0 t.0) pos fb (λ g m.
          let line : IsSum (line_of cols g.number) ls =
          IsSum-line (line_of cols g.number) ls (In-map (λ j. line_of cols j) g.number (map (λ (x : Fragment). x.number) heard) (In-map (λ (x : Fragment). x.number) g heard m)) in
          parity-sum cols f.0 (line_of cols g.number) t.0 f.1 t.1.table (t.1.from (line_of cols g.number) line)),
      flipped_differs shape.frag_size (drawn f.0 t.0) f.0 b pos (recursion_from_All (IsPiece shape.frag_size) b fb.shaped.pieces)
          (omega (arith, f.1, fb.shaped.counted)) (drawn-free f.0 t.0 f.2),
    )

-- ---- where only one block fits, gain is full

pub full_gain : (shape : Shape) (heard : List Fragment) (b : List (List ℕ)) → AreNumbered heard → 0 < shape.frag_size → OneBlockFits shape heard b → gain shape heard ≡ shape.nb_frag
full_gain shape heard b numbered pos h = elim (cases_lt (gain shape heard) shape.nb_frag) [
  | inl few ↦ let other = another_fits shape heard b numbered pos h.fits few in absurd (other.2 (h.alone other.0 other.1))
  | inr le ↦ let most = gain-most shape heard numbered in omega arith
]
