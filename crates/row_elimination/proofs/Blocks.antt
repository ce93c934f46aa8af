-- Blocks that fit what is held: there is one for each choice of the free pieces, and only one where none is free.
use Rattle.std.proofs.Common.{◌≡◌, ◌≢◌, ◌⊎◌, ℕ, zero, suc, ◌<◌, ◌≤◌, ◌/◌, ◌%◌, ◌^◌, true, false, cond, ◌==◌, List, [], ◌∷◌, set, length, get_or, replicate, All, Option, Some, None, bit_xor, refl, sym, ap, ◌∙◌, subst, inl, inr, arith, length-set, get_or-set_other, eqb-true}
use Rattle.std.specs.List.{AllByRecursion}
use Rattle.std.specs.Int.{bit_at}
use Rattle.std.specs.Int.Bits.{xor_self, xor_zero_l, xor_assoc}
use Rattle.std.proofs.lemmas.Nat.{xor_comm}
use Rattle.std.proofs.lemmas.Nat.Bits.{bit_at_lowest, bit_at-suc, bit_at-pow_same, bit_at-pow_other, bit_at_above, same_from_bits}
use Rattle.std.proofs.lemmas.Bool.{cases_Bool, cases_eq, cases_lt, eqb-false}
use Rattle.std.proofs.lemmas.List.{length-replicate, get_or-replicate, ext_get_or}
use Rattle.std.proofs.lemmas.List.Elements.{All-set, All-get_or, All-from_get_or, recursion_from_All}
use Rattle.frag_model.specs.Fragments.{Shape, Equation, IsPiece, IsBlock, Meets, xor_bytes, xor_all, pieces_at, byte_at}
use Rattle.frag_model.proofs.Parts.{xor_swap, get_or-xor_all, get_or-xor_bytes}
use Rattle.frag_model.proofs.Sums.{xor_back}
use Rattle.frag_model.proofs.Uncoded.{xor_all_piece}
use Rattle.row_elimination.specs.HeldPlaces.{Place, free, told, gained_held, FitsHeld}
use Rattle.row_elimination.specs.Inside.{IsReduced}
use Rattle.row_elimination.proofs.Agreeing.{Agrees, meets_from_agrees}
use Rattle.row_elimination.proofs.Telling.{Tells, AgreesAll, told_within, agrees_from_fits}
use Rattle.row_elimination.proofs.Counting.{none_free}
use Rattle.row_elimination.proofs.Reducing.{piece_xor}

-- ---- one piece of a block changed

byte_at-set_other : (l i k : ℕ) (b : List (List ℕ)) (q : List ℕ) → bit_at l k ≡ 0 → byte_at l i (set b k q) ≡ byte_at l i b
unfolding byte_at
byte_at-set_other l i k [] q off = refl
byte_at-set_other l i zero (p ∷ b) q off =
    let even : (l % 2 == 1) ≡ false = elim (cases_Bool (l % 2 == 1)) [
      | inl at_true ↦ absurd (omega (arith, eqb-true _ _ at_true, bit_at_lowest l))
      | inr at_false ↦ at_false
    ] in
    ap (λ t. cond t (bit_xor (get_or q i 0) (byte_at (l / 2) i b)) (byte_at (l / 2) i b)) even
    ∙ sym (ap (λ t. cond t (bit_xor (get_or p i 0) (byte_at (l / 2) i b)) (byte_at (l / 2) i b)) even)
byte_at-set_other l i (suc k) (p ∷ b) q off =
    let rest : byte_at (l / 2) i (set b k q) ≡ byte_at (l / 2) i b = byte_at-set_other (l / 2) i k b q (sym (bit_at-suc l k) ∙ off) in
    ap (λ r. cond (l % 2 == 1) (bit_xor (get_or p i 0) r) r) rest

byte_at-set : (l i k : ℕ) (b : List (List ℕ)) (q : List ℕ) → k < length b → bit_at l k ≡ 1
    → byte_at l i (set b k q) ≡ bit_xor (byte_at l i b) (bit_xor (get_or (get_or b k []) i 0) (get_or q i 0))
unfolding byte_at
byte_at-set l i k [] q lt on = absurd (omega arith)
byte_at-set l i zero (p ∷ b) q lt on =
    let odd : (l % 2 == 1) ≡ true = elim (cases_Bool (l % 2 == 1)) [
      | inl at_true ↦ at_true
      | inr at_false ↦ absurd (omega (arith, eqb-false _ _ at_false, bit_at_lowest l))
    ] in
    let r : ℕ = byte_at (l / 2) i b in
    let a : ℕ = get_or p i 0 in
    let z : ℕ = get_or q i 0 in
    let whole : bit_xor z r ≡ bit_xor (bit_xor a r) (bit_xor a z) =
    sym (xor_swap a r a z ∙ ap (λ x. bit_xor x (bit_xor r z)) (xor_self a) ∙ xor_zero_l (bit_xor r z) ∙ xor_comm r z) in
    ap (λ t. cond t (bit_xor z r) r) odd
    ∙ whole
    ∙ sym (ap (λ t. bit_xor (cond t (bit_xor a r) r) (bit_xor a z)) odd)
byte_at-set l i (suc k) (p ∷ b) q lt on =
    let d : ℕ = bit_xor (get_or (get_or b k []) i 0) (get_or q i 0) in
    let rest : byte_at (l / 2) i (set b k q) ≡ bit_xor (byte_at (l / 2) i b) d = byte_at-set (l / 2) i k b q (omega arith) (sym (bit_at-suc l k) ∙ on) in
    ap (λ r. cond (l % 2 == 1) (bit_xor (get_or p i 0) r) r) rest
    ∙ elim (l % 2 == 1) as (λ t. cond t (bit_xor (get_or p i 0) (bit_xor (byte_at (l / 2) i b) d)) (bit_xor (byte_at (l / 2) i b) d)
    ≡ bit_xor (cond t (bit_xor (get_or p i 0) (byte_at (l / 2) i b)) (byte_at (l / 2) i b)) d) [
      | true ↦ sym (xor_assoc (get_or p i 0) (byte_at (l / 2) i b) d)
      | false ↦ refl
    ]

-- ---- a fitting block with given free pieces

-- the piece that makes the block agree with the equation that its column leads
mended : ℕ → List (List ℕ) → ℕ → Equation → List ℕ
mended size b c e = xor_bytes (get_or b c []) (xor_bytes e.part (xor_all size (pieces_at e.line b)))

mended_agrees : (size c : ℕ) (b : List (List ℕ)) (e : Equation) → c < length b → bit_at e.line c ≡ 1 → Agrees (set b c (mended size b c e)) e.line e.part
unfolding mended
mended_agrees size c b e lt on = λ i.
    let t : ℕ = byte_at e.line i b in
    let p : ℕ = get_or (get_or b c []) i 0 in
    let z : ℕ = get_or e.part i 0 in
    let total : List ℕ = xor_all size (pieces_at e.line b) in
    let new : get_or (mended size b c e) i 0 ≡ bit_xor p (bit_xor z t) =
    get_or-xor_bytes (get_or b c []) (xor_bytes e.part total) i
    ∙ ap (λ x. bit_xor p x) (get_or-xor_bytes e.part total i ∙ ap (λ x. bit_xor z x) (get_or-xor_all size e.line i b)) in
    byte_at-set e.line i c b (mended size b c e) lt on
    ∙ ap (λ x. bit_xor t (bit_xor p x)) new
    ∙ ap (λ x. bit_xor t x) (xor_back p (bit_xor z t))
    ∙ ap (λ x. bit_xor t x) (xor_comm z t) ∙ xor_back t z

total_piece : (size l : ℕ) (b : List (List ℕ)) → AllByRecursion (IsPiece size) b → IsPiece size (xor_all size (pieces_at l b))
unfolding xor_all pieces_at
total_piece size l [] h = record { sized = length-replicate {A = ℕ} size 0; bytes = zeros size }
  where
    zeros : (n : ℕ) → All (λ x. x < 2 ^ 8) (replicate n 0)
    zeros n = let Q : ℕ → Type 0 = λ x. x < 2 ^ 8 in All-from_get_or Q (replicate n 0) 0 (λ i lt. subst Q (sym (get_or-replicate n i 0 0 (omega (arith, length-replicate {A = ℕ} n 0)))) (omega arith))
total_piece size l (p ∷ b) h =
    let rest = total_piece size (l / 2) b h.1 in
    elim (l % 2 == 1) as (λ t. IsPiece size (xor_all size (cond t (p ∷ pieces_at (l / 2) b) (pieces_at (l / 2) b)))) [
      | true ↦ piece_xor size p (xor_all size (pieces_at (l / 2) b)) h.0 rest
      | false ↦ rest
    ]

-- the first columns were mended
record Mended (shape : Shape) (ps : List Place) (b : List (List ℕ)) (c : ℕ) (d : List (List ℕ)) : Type 0 where
  pub block : IsBlock shape d
  pub agrees : (k : ℕ) (e : Equation) → k < c → Tells ps k e → Agrees d e.line e.part
  pub kept : (k : ℕ) → get_or ps k free ≡ free → get_or d k [] ≡ get_or b k []

mend_one : (shape : Shape) (ps : List Place) (b : List (List ℕ)) (c : ℕ) (d : List (List ℕ)) (e : Equation) → IsReduced shape.nb_frag shape.frag_size ps → c < shape.nb_frag → Tells ps c e
    → Mended shape ps b c d → Mended shape ps b (suc c) (set d c (mended shape.frag_size d c e))
unfolding mended told
mend_one shape ps b c d e t lt here h =
    let size : ℕ = shape.frag_size in
    let new : List ℕ = mended size d c e in
    let inside : c < length d = omega (arith, h.block.counted) in
    let pieces = recursion_from_All (IsPiece size) d h.block.pieces in
    let is : IsPiece size new =
    piece_xor size (get_or d c []) (xor_bytes e.part (xor_all size (pieces_at e.line d))) (All-get_or (IsPiece size) d c [] inside h.block.pieces)
    (piece_xor size e.part (xor_all size (pieces_at e.line d)) (t.part c e here) (total_piece size e.line d pieces)) in
    record {
      block = record { counted = length-set d c new ∙ h.block.counted; pieces = All-set (IsPiece size) d c new is h.block.pieces };
      agrees = λ k f below tells. elim (cases_eq k c) [
        | inl same ↦
            let is_e : f ≡ e = let there : Tells ps c f = subst (λ n. Tells ps n f) same tells in (cc) in
            subst (λ (x : Equation). Agrees (set d c new) x.line x.part) (sym is_e) (mended_agrees size c d e inside (t.own c e here))
        | inr other ↦ λ i. byte_at-set_other f.line i c d new (t.apart k c f e other tells here) ∙ h.agrees k f (omega arith) tells i
      ];
      kept = λ k none. elim (cases_eq k c) [
        | inl same ↦ absurd (let no : told c free ≡ Some e = subst (λ p. told c p ≡ Some e) (ap (λ n. get_or ps n free) (sym same) ∙ none) here in cc)
        | inr other ↦ get_or-set_other d c k new [] other ∙ h.kept k none
      ];
    }

mend_none : (shape : Shape) (ps : List Place) (b : List (List ℕ)) (c : ℕ) (d : List (List ℕ)) → told c (get_or ps c free) ≡ None
    → Mended shape ps b c d → Mended shape ps b (suc c) d
mend_none shape ps b c d none h = record {
  block = h.block;
  agrees = λ k f below tells. elim (cases_eq k c) [
    | inl same ↦ absurd (let there : Tells ps c f = subst (λ n. Tells ps n f) same tells in cc)
    | inr other ↦ h.agrees k f (omega arith) tells
  ];
  kept = h.kept;
}

told_or_none : (o : Option Equation) → ((e : Equation) × (o ≡ Some e)) ⊎ (o ≡ None)
told_or_none None = inr refl
told_or_none (Some e) = inl (e, refl)

mend : (shape : Shape) (ps : List Place) (b : List (List ℕ)) (c : ℕ) → IsReduced shape.nb_frag shape.frag_size ps → IsBlock shape b → c ≤ shape.nb_frag → (d : List (List ℕ)) × Mended shape ps b c d
mend shape ps b zero t block le = (b, record { block = block; agrees = λ k e lt h. absurd (omega arith); kept = λ k none. refl })
mend shape ps b (suc c) t block le =
    let r = mend shape ps b c t block (omega arith) in
    elim (told_or_none (told c (get_or ps c free))) [
      | inl f ↦ (set r.0 c (mended shape.frag_size r.0 c f.0), mend_one shape ps b c r.0 f.0 t (omega arith) f.1 r.1)
      | inr none ↦ (r.0, mend_none shape ps b c r.0 none r.1)
    ]

-- for each block there is one that fits, with the same free pieces
pub fitting_with : (shape : Shape) (ps : List Place) (b : List (List ℕ)) → IsReduced shape.nb_frag shape.frag_size ps → IsBlock shape b
    → (d : List (List ℕ)) × IsBlock shape d × AgreesAll d ps × ((k : ℕ) → get_or ps k free ≡ free → get_or d k [] ≡ get_or b k [])
fitting_with shape ps b t block =
    let r = mend shape ps b shape.nb_frag t block (omega arith) in
    (r.0, r.1.block, (λ c e h. elim (cases_lt c shape.nb_frag) [ inl lt ↦ r.1.agrees c e lt h | inr past ↦ absurd (told_within ps c e h (omega (arith, t.sized))) ]), r.1.kept)

-- a block whose pieces are all one
same_pieces : Shape → ℕ → List (List ℕ)
same_pieces shape x = replicate shape.nb_frag (replicate shape.frag_size x)

same_pieces_block : (shape : Shape) (x : ℕ) → x < 2 ^ 8 → IsBlock shape (same_pieces shape x)
unfolding same_pieces
same_pieces_block shape x lt =
    let Q : ℕ → Type 0 = λ y. y < 2 ^ 8 in
    let P : List ℕ → Type 0 = IsPiece shape.frag_size in
    let one : IsPiece shape.frag_size (replicate shape.frag_size x) = record {
      sized = length-replicate shape.frag_size x;
      bytes = All-from_get_or Q (replicate shape.frag_size x) 0 (λ i k. subst Q (sym (get_or-replicate shape.frag_size i x 0 (omega (arith, length-replicate {A = ℕ} shape.frag_size x)))) lt);
    } in
    record {
      counted = length-replicate shape.nb_frag (replicate shape.frag_size x);
      pieces = All-from_get_or P (replicate shape.nb_frag (replicate shape.frag_size x)) []
          (λ i k. subst P (sym (get_or-replicate shape.nb_frag i (replicate shape.frag_size x) [] (omega (arith, length-replicate shape.nb_frag (replicate shape.frag_size x))))) one);
    }

pub some_fitting : (shape : Shape) (ps : List Place) → IsReduced shape.nb_frag shape.frag_size ps → (d : List (List ℕ)) × IsBlock shape d × AgreesAll d ps
some_fitting shape ps t =
    let r = fitting_with shape ps (same_pieces shape 0) t (same_pieces_block shape 0 (omega arith)) in
    (r.0, r.1, r.2)

-- where a column is free, two different blocks fit
pub two_fitting : (shape : Shape) (ps : List Place) (k : ℕ) → IsReduced shape.nb_frag shape.frag_size ps → 0 < shape.frag_size → k < shape.nb_frag → get_or ps k free ≡ free
    → (a : List (List ℕ)) × (b : List (List ℕ)) × IsBlock shape a × AgreesAll a ps × IsBlock shape b × AgreesAll b ps × (a ≢ b)
unfolding same_pieces
two_fitting shape ps k t pos lt none =
    let size : ℕ = shape.frag_size in
    let r = fitting_with shape ps (same_pieces shape 0) t (same_pieces_block shape 0 (omega arith)) in
    let s = fitting_with shape ps (same_pieces shape 1) t (same_pieces_block shape 1 (omega arith)) in
    let first : (x : ℕ) → get_or (get_or (same_pieces shape x) k []) 0 0 ≡ x = λ x.
    ap (λ p. get_or p 0 0) (get_or-replicate shape.nb_frag k (replicate size x) [] lt) ∙ get_or-replicate size 0 x 0 pos in (
      r.0,
      s.0,
      r.1,
      r.2,
      s.1,
      s.2,
      λ e.
          let zero_there : get_or (get_or r.0 k []) 0 0 ≡ 0 = ap (λ p. get_or p 0 0) (r.3 k none) ∙ first 0 in
          let one_there : get_or (get_or s.0 k []) 0 0 ≡ 1 = ap (λ p. get_or p 0 0) (s.3 k none) ∙ first 1 in
          let same : get_or (get_or r.0 k []) 0 0 ≡ get_or (get_or s.0 k []) 0 0 = ap (λ x. get_or (get_or x k []) 0 0) e in
          omega arith,
    )

-- ---- where no column is free

-- each equation then has only its own column
pub alone_line : (cols size : ℕ) (ps : List Place) (c : ℕ) (e : Equation) → IsReduced cols size ps → ((k : ℕ) → k < cols → (f : Equation) × Tells ps k f) → Tells ps c e → e.line ≡ 2 ^ c
alone_line cols size ps c e t all h = same_from_bits e.line (2 ^ c) (λ i. elim (cases_eq i c) [
  | inl same ↦ ap (λ n. bit_at e.line n) same ∙ t.own c e h ∙ sym (ap (λ n. bit_at (2 ^ c) n) same ∙ bit_at-pow_same c)
  | inr other ↦ elim (cases_lt i cols) [
    | inr past ↦ bit_at_above e.line cols i (t.within c e h) past ∙ sym (bit_at-pow_other c i other)
    | inl lt ↦ let f = all i lt in t.apart c i e f.0 (λ s. other (sym s)) h f.1 ∙ sym (bit_at-pow_other c i other)
  ]
])

-- and so its part is the piece
pub alone_piece : (shape : Shape) (ps : List Place) (b : List (List ℕ)) (c : ℕ) (e : Equation) → IsReduced shape.nb_frag shape.frag_size ps → IsBlock shape b → AgreesAll b ps
    → Tells ps c e → e.line ≡ 2 ^ c → get_or b c [] ≡ e.part
unfolding Meets
alone_piece shape ps b c e t block all h is =
    let pieces = recursion_from_All (IsPiece shape.frag_size) b block.pieces in
    let lt : c < length b = elim (cases_lt c (length b)) [ inl lt ↦ lt | inr past ↦ absurd (told_within ps c e h (omega (arith, t.sized, block.counted))) ] in
    sym (xor_all_piece shape.frag_size c e.line b is lt pieces)
    ∙ meets_from_agrees shape.frag_size b e pieces (t.part c e h).sized (all c e h)

-- so two blocks that fit are one
pub one_alone : (shape : Shape) (ps : List Place) (a b : List (List ℕ)) → IsReduced shape.nb_frag shape.frag_size ps → shape.nb_frag ≤ gained_held ps → FitsHeld shape ps a → FitsHeld shape ps b → a ≡ b
one_alone shape ps a b t full ha hb =
    let all : (k : ℕ) → k < shape.nb_frag → (e : Equation) × Tells ps k e = λ k lt. none_free ps k (omega (arith, t.sized)) (omega (arith, t.sized)) in
    let pieces : (x : List (List ℕ)) → FitsHeld shape ps x → (c : ℕ) (lt : c < shape.nb_frag) → get_or x c [] ≡ (all c lt).0.part = λ x h c lt.
    let e = all c lt in
    alone_piece shape ps x c e.0 t h.shaped (agrees_from_fits shape ps x h) e.1 (alone_line shape.nb_frag shape.frag_size ps c e.0 t all e.1) in
    ext_get_or [] a b (ha.shaped.counted ∙ sym hb.shaped.counted) (λ c lt.
    let inside : c < shape.nb_frag = omega (arith, ha.shaped.counted) in
    pieces a ha c inside ∙ sym (pieces b hb c inside))
