-- The XOR of parts, byte by byte.
use Rattle.std.proofs.Common.{◌≡◌, ℕ, zero, suc, ◌/◌, ◌%◌, true, false, cond, ◌==◌, List, [], ◌∷◌, length, get_or, replicate, bit_xor, refl, sym, ap, ◌∙◌, arith}
use Rattle.std.proofs.lemmas.List.{length-replicate}
use Rattle.std.specs.Int.Bits.{xor_self, xor_zero_l, xor_zero_r, xor_assoc}
use Rattle.std.proofs.lemmas.Nat.{xor_comm}
use Rattle.std.specs.List.{AllByRecursion}
use Rattle.frag_model.specs.Fragments.{xor_bytes, xor_all, pieces_at, byte_at, IsPiece}

pub xor_swap : (a b c d : ℕ) → bit_xor (bit_xor a b) (bit_xor c d) ≡ bit_xor (bit_xor a c) (bit_xor b d)
xor_swap a b c d =
    xor_assoc a b (bit_xor c d)
    ∙ ap (λ x. bit_xor a x) (sym (xor_assoc b c d) ∙ ap (λ x. bit_xor x d) (xor_comm b c) ∙ xor_assoc c b d)
    ∙ sym (xor_assoc a c (bit_xor b d))

-- what leaves a number as it is was zero
pub xor_kept : (a x : ℕ) → bit_xor a x ≡ a → x ≡ 0
xor_kept a x e =
    sym (ap (λ y. bit_xor y x) (xor_self a) ∙ xor_zero_l x) ∙ xor_assoc a a x ∙ ap (λ y. bit_xor a y) e ∙ xor_self a

pub xor_same : (a b : ℕ) → bit_xor a b ≡ 0 → a ≡ b
xor_same a b e =
    sym (xor_zero_r a) ∙ ap (λ y. bit_xor a y) (sym (xor_self b)) ∙ sym (xor_assoc a b b) ∙ ap (λ y. bit_xor y b) e ∙ xor_zero_l b

-- each byte of the XOR is the XOR of the bytes
pub get_or-xor_bytes : (xs ys : List ℕ) (i : ℕ) → get_or (xor_bytes xs ys) i 0 ≡ bit_xor (get_or xs i 0) (get_or ys i 0)
unfolding xor_bytes
get_or-xor_bytes [] ys i = sym (xor_zero_l (get_or ys i 0))
get_or-xor_bytes (x ∷ xs) [] i = sym (xor_zero_r (get_or (x ∷ xs) i 0))
get_or-xor_bytes (x ∷ xs) (y ∷ ys) zero = refl
get_or-xor_bytes (x ∷ xs) (y ∷ ys) (suc i) = get_or-xor_bytes xs ys i

pub length-xor_bytes : (xs ys : List ℕ) → length xs ≡ length ys → length (xor_bytes xs ys) ≡ length xs
unfolding xor_bytes
length-xor_bytes [] ys e = sym e
length-xor_bytes (x ∷ xs) [] e = refl
length-xor_bytes (x ∷ xs) (y ∷ ys) e =
    let e' : length xs ≡ length ys = omega arith in
    let h = length-xor_bytes xs ys e' in
    omega arith

pub get_or-xor_all : (size line i : ℕ) (block : List (List ℕ)) → get_or (xor_all size (pieces_at line block)) i 0 ≡ byte_at line i block
unfolding xor_all pieces_at byte_at
get_or-xor_all size line i [] = zeros size i
  where
    zeros : (n i : ℕ) → ◌≡◌ {A = ℕ} (get_or (replicate n 0) i 0) 0
    zeros zero i = refl
    zeros (suc n) zero = refl
    zeros (suc n) (suc i) = zeros n i
get_or-xor_all size line i (p ∷ ps) =
    let rest = get_or-xor_all size (line / 2) i ps in
    elim (line % 2 == 1) as (λ b. get_or (xor_all size (cond b (p ∷ pieces_at (line / 2) ps) (pieces_at (line / 2) ps))) i 0 ≡ cond b (bit_xor (get_or p i 0) (byte_at (line / 2) i ps)) (byte_at (line / 2) i ps)) [
      | true ↦ get_or-xor_bytes p (xor_all size (pieces_at (line / 2) ps)) i ∙ ap (λ x. bit_xor (get_or p i 0) x) rest
      | false ↦ rest
    ]

pub length-xor_all : (size line : ℕ) (block : List (List ℕ)) → AllByRecursion (IsPiece size) block → length (xor_all size (pieces_at line block)) ≡ size
unfolding xor_all pieces_at
length-xor_all size line [] h = length-replicate size 0
length-xor_all size line (p ∷ ps) h =
    let rest = length-xor_all size (line / 2) ps h.1 in
    elim (line % 2 == 1) as (λ b. length (xor_all size (cond b (p ∷ pieces_at (line / 2) ps) (pieces_at (line / 2) ps))) ≡ size) [
      | true ↦ length-xor_bytes p (xor_all size (pieces_at (line / 2) ps)) (h.0.sized ∙ sym rest) ∙ h.0.sized
      | false ↦ rest
    ]
