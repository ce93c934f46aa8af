-- When a block agrees with a line and a part, byte by byte.
use Rattle.std.proofs.Common.{◌≡◌, ℕ, List, length, get_or, bit_xor, sym, ap, ap₂, ◌∙◌}
use Rattle.std.specs.List.{AllByRecursion}
use Rattle.std.specs.Int.Bits.{xor_self, xor_zero_r, xor_assoc}
use Rattle.std.proofs.lemmas.Nat.{xor_comm}
use Rattle.std.proofs.lemmas.List.{ext_get_or}
use Rattle.frag_model.specs.Fragments.{Equation, IsPiece, Meets, xor_bytes, xor_all, pieces_at, byte_at}
use Rattle.frag_model.proofs.Parts.{get_or-xor_all, length-xor_all, get_or-xor_bytes}
use Rattle.frag_model.proofs.Uniqueness.{byte_at-xor}
pub use Rattle.row_elimination.specs.HeldSteps.{Agrees}

pub agrees_xor : (b : List (List ℕ)) (l m : ℕ) (p q : List ℕ) → Agrees b l p → Agrees b m q → Agrees b (bit_xor l m) (xor_bytes p q)
agrees_xor b l m p q h k = λ i. byte_at-xor l m i b ∙ ap₂ bit_xor (h i) (k i) ∙ sym (get_or-xor_bytes p q i)

xor_away : (a b : ℕ) → bit_xor (bit_xor a b) b ≡ a
xor_away a b = xor_assoc a b b ∙ ap (λ x. bit_xor a x) (xor_self b) ∙ xor_zero_r a

-- and back again
pub agrees_back : (b : List (List ℕ)) (l m : ℕ) (p q : List ℕ) → Agrees b (bit_xor l m) (xor_bytes p q) → Agrees b m q → Agrees b l p
agrees_back b l m p q h k = λ i.
    sym (xor_away (byte_at l i b) (byte_at m i b))
    ∙ ap (λ x. bit_xor x (byte_at m i b)) (sym (byte_at-xor l m i b) ∙ h i ∙ get_or-xor_bytes p q i)
    ∙ ap (λ x. bit_xor (bit_xor (get_or p i 0) (get_or q i 0)) x) (k i)
    ∙ xor_away (get_or p i 0) (get_or q i 0)

pub agrees_same : (b : List (List ℕ)) (l m : ℕ) (p q : List ℕ) → l ≡ m → ((i : ℕ) → get_or p i 0 ≡ get_or q i 0) → Agrees b l p → Agrees b m q
agrees_same b l m p q e f h = λ i. ap (λ x. byte_at x i b) (sym e) ∙ h i ∙ f i

-- an equation is met where the block agrees with it
pub agrees_from_meets : (size : ℕ) (b : List (List ℕ)) (e : Equation) → Meets size b e → Agrees b e.line e.part
unfolding Meets
agrees_from_meets size b e h = λ i. sym (get_or-xor_all size e.line i b) ∙ ap (λ p. get_or p i 0) h

pub meets_from_agrees : (size : ℕ) (b : List (List ℕ)) (e : Equation) → AllByRecursion (IsPiece size) b → length e.part ≡ size → Agrees b e.line e.part → Meets size b e
unfolding Meets
meets_from_agrees size b e h sized k =
    ext_get_or 0 (xor_all size (pieces_at e.line b)) e.part (length-xor_all size e.line b h ∙ sym sized)
    (λ i lt. get_or-xor_all size e.line i b ∙ k i)

-- two XORs in the other order
pub xor_right : (a b c : ℕ) → bit_xor (bit_xor a b) c ≡ bit_xor (bit_xor a c) b
xor_right a b c = xor_assoc a b c ∙ ap (λ x. bit_xor a x) (xor_comm b c) ∙ sym (xor_assoc a c b)
