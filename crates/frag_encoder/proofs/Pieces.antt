-- The pieces of a row of bytes, and the XOR of those at a line's columns.
use Rattle.std.proofs.Common.{◌≡◌, ℕ, zero, suc, ◌+◌, ◌-◌, ◌*◌, ◌/◌, ◌%◌, ◌^◌, ◌<◌, ◌≤◌, ◌==◌, Bool, true, false, cond, List, [], ◌∷◌, ◌++◌, length, get_or, take, drop, replicate, refl, sym, ap, ap₂, ◌∙◌, zero-mul, suc-mul, length-drop, length-take, arith}
use Rattle.std.specs.List.{AllByRecursion}
use Rattle.std.specs.Int.{bit_at}
use Rattle.std.specs.Int.Bits.{xor_zero_l, xor_zero_r, xor_assoc}
use lib.Bits.{block_half, block_odd}
use Rattle.std.proofs.lemmas.Nat.{shr-shr, pow_pos, div-mul-add}
use Rattle.std.proofs.lemmas.Nat.Bits.{bit_at_lowest, bit_at-suc, bit_at-pow_same, bit_at-pow_other}
use Rattle.std.proofs.lemmas.List.{drop-drop, drop_more, length-replicate}
use Rattle.frag_model.specs.Fragments.{xor_bytes, xor_all, pieces_at}
use Rattle.frag_model.proofs.Parts.{length-xor_bytes}
use Rattle.frag_encoder.specs.Encoding.{pieces_of}

-- ---- the XOR of bytes

pub xor_bytes_assoc : (xs ys zs : List ℕ) → xor_bytes (xor_bytes xs ys) zs ≡ xor_bytes xs (xor_bytes ys zs)
unfolding xor_bytes
xor_bytes_assoc [] ys zs = refl
xor_bytes_assoc (x ∷ xs) [] zs = refl
xor_bytes_assoc (x ∷ xs) (y ∷ ys) [] = refl
xor_bytes_assoc (x ∷ xs) (y ∷ ys) (z ∷ zs) = ap₂ (λ b bs. b ∷ bs) (xor_assoc x y z) (xor_bytes_assoc xs ys zs)

-- the XOR with zeros
pub xor_bytes_onto_zeros : (n : ℕ) (xs : List ℕ) → length xs ≡ n → xor_bytes (replicate n 0) xs ≡ xs
unfolding xor_bytes
xor_bytes_onto_zeros zero xs is = refl
xor_bytes_onto_zeros (suc n) [] is = absurd (omega arith)
xor_bytes_onto_zeros (suc n) (x ∷ xs) is =
    let rest : length xs ≡ n = omega arith in
    ap₂ (λ b bs. b ∷ bs) (xor_zero_l x) (xor_bytes_onto_zeros n xs rest)

pub xor_bytes_with_zeros : (n : ℕ) (xs : List ℕ) → length xs ≡ n → xor_bytes xs (replicate n 0) ≡ xs
unfolding xor_bytes
xor_bytes_with_zeros zero [] is = refl
xor_bytes_with_zeros zero (x ∷ xs) is = absurd (omega arith)
xor_bytes_with_zeros (suc n) [] is = absurd (omega arith)
xor_bytes_with_zeros (suc n) (x ∷ xs) is =
    let rest : length xs ≡ n = omega arith in
    ap₂ (λ b bs. b ∷ bs) (xor_zero_r x) (xor_bytes_with_zeros n xs rest)

-- ---- pieces of one size

pub AreSized : ℕ → List (List ℕ) → Type 0
AreSized size block = AllByRecursion (λ p. length p ≡ size) block

pub pieces_sized : (count size : ℕ) (bytes : List ℕ) → length bytes ≡ count * size → AreSized size (pieces_of count size bytes)
unfolding pieces_of AreSized
pieces_sized zero size bytes is = tt
pieces_sized (suc count) size bytes is =
    let first : length (take size bytes) ≡ size = omega (arith, length-take size bytes, suc-mul count size) in
    let rest : length (drop size bytes) ≡ count * size = omega (arith, length-drop size bytes, suc-mul count size) in
    (first, pieces_sized count size (drop size bytes) rest)

pub length-pieces : (count size : ℕ) (bytes : List ℕ) → length (pieces_of count size bytes) ≡ count
unfolding pieces_of
length-pieces zero size bytes = refl
length-pieces (suc count) size bytes = ap suc (length-pieces count size (drop size bytes))

pub drop-pieces : (k count size : ℕ) (bytes : List ℕ) → k ≤ count → drop k (pieces_of count size bytes) ≡ pieces_of (count - k) size (drop (k * size) bytes)
unfolding pieces_of
drop-pieces zero count size bytes le =
    let all : count ≡ count - 0 = omega arith in
    ap₂ (λ c n. pieces_of c size (drop n bytes)) all (sym (zero-mul size))
drop-pieces (suc k) zero size bytes le = absurd (omega arith)
drop-pieces (suc k) (suc count) size bytes le =
    let less : count - k ≡ suc count - suc k = omega arith in
    let place : size + k * size ≡ suc k * size = omega (arith, suc-mul k size) in
    drop-pieces k count size (drop size bytes) (omega arith)
    ∙ ap₂ (λ c bs. pieces_of c size bs) less (drop-drop (k * size) size bytes ∙ ap (λ n. drop n bytes) place)

pub get_or-pieces : (k count size : ℕ) (bytes : List ℕ) → k < count → get_or (pieces_of count size bytes) k [] ≡ take size (drop (k * size) bytes)
unfolding pieces_of
get_or-pieces k zero size bytes lt = absurd (omega arith)
get_or-pieces zero (suc count) size bytes lt = ap (λ n. take size (drop n bytes)) (sym (zero-mul size))
get_or-pieces (suc k) (suc count) size bytes lt =
    let place : size + k * size ≡ suc k * size = omega (arith, suc-mul k size) in
    get_or-pieces k count size (drop size bytes) (omega arith)
    ∙ ap (λ bs. take size bs) (drop-drop (k * size) size bytes ∙ ap (λ n. drop n bytes) place)

pub sized-drop : (size k : ℕ) (block : List (List ℕ)) → AreSized size block → AreSized size (drop k block)
unfolding AreSized
sized-drop size zero block h = h
sized-drop size (suc k) [] h = h
sized-drop size (suc k) (p ∷ ps) h = sized-drop size k ps h.1

-- ---- the pieces at a line's columns

pub sized_sum : (size line : ℕ) (block : List (List ℕ)) → AreSized size block → length (xor_all size (pieces_at line block)) ≡ size
unfolding AreSized xor_all pieces_at
sized_sum size line [] h = length-replicate size 0
sized_sum size line (p ∷ ps) h = elim (line % 2 == 1) as (λ b. length (xor_all size (cond b (p ∷ pieces_at (line / 2) ps) (pieces_at (line / 2) ps))) ≡ size) [
  | true ↦ length-xor_bytes p _ (h.0 ∙ sym (sized_sum size (line / 2) ps h.1)) ∙ h.0
  | false ↦ sized_sum size (line / 2) ps h.1
]

pub none_at_no_column : (block : List (List ℕ)) → pieces_at 0 block ≡ []
unfolding pieces_at
none_at_no_column [] = refl
none_at_no_column (p ∷ ps) = none_at_no_column ps

-- what stands below 2^k in a line are its first k columns
pieces_split : (k high low : ℕ) (block : List (List ℕ)) → low < 2 ^ k → pieces_at (high * 2 ^ k + low) block ≡ pieces_at low block ++ pieces_at high (drop k block)
unfolding pieces_at
pieces_split zero high low block lt =
    let none : low ≡ 0 = omega arith in
    let all : high * 2 ^ 0 + low ≡ high = omega arith in
    ap (λ l. pieces_at l block) all ∙ ap (λ ps. ps ++ pieces_at high block) (sym (ap (λ l. pieces_at l block) none ∙ none_at_no_column block))
pieces_split (suc k) high low [] lt = refl
pieces_split (suc k) high low (p ∷ ps) lt =
    let half : low / 2 < 2 ^ k = omega arith in
    ap₂ (λ r l. cond (r == 1) (p ∷ pieces_at l ps) (pieces_at l ps)) (block_odd high k low) (block_half high k low)
    ∙ go (low % 2 == 1) _ _ _ (pieces_split k high (low / 2) ps half)
  where
    go : (b : Bool) (xs ys zs : List (List ℕ)) → xs ≡ ys ++ zs → cond b (p ∷ xs) xs ≡ cond b (p ∷ ys) ys ++ zs
    go true xs ys zs e = ap (λ qs. p ∷ qs) e
    go false xs ys zs e = e

xor_all-append : (size : ℕ) (xs ys : List (List ℕ)) → length (xor_all size ys) ≡ size → xor_all size (xs ++ ys) ≡ xor_bytes (xor_all size xs) (xor_all size ys)
unfolding xor_all
xor_all-append size [] ys is = sym (xor_bytes_onto_zeros size (xor_all size ys) is)
xor_all-append size (x ∷ xs) ys is =
    ap (λ bs. xor_bytes x bs) (xor_all-append size xs ys is) ∙ sym (xor_bytes_assoc x (xor_all size xs) (xor_all size ys))

pub sum_split : (size k high low : ℕ) (block : List (List ℕ)) → AreSized size block → low < 2 ^ k
    → xor_all size (pieces_at (high * 2 ^ k + low) block) ≡ xor_bytes (xor_all size (pieces_at low block)) (xor_all size (pieces_at high (drop k block)))
sum_split size k high low block h lt =
    ap (λ ps. xor_all size ps) (pieces_split k high low block lt)
    ∙ xor_all-append size (pieces_at low block) (pieces_at high (drop k block)) (sized_sum size high (drop k block) (sized-drop size k block h))

-- a line with no column below t
skip_zeros : (t line : ℕ) (block : List (List ℕ)) → ((i : ℕ) → i < t → bit_at line i ≡ 0) → pieces_at line block ≡ pieces_at (line / 2 ^ t) (drop t block)
unfolding pieces_at
skip_zeros zero line block h = let whole : line ≡ line / 2 ^ 0 = omega arith in ap (λ l. pieces_at l block) whole
skip_zeros (suc t) line [] h = refl
skip_zeros (suc t) line (p ∷ ps) h =
    let even : line % 2 ≡ 0 = sym (bit_at_lowest line) ∙ h 0 (omega arith) in
    let rest = skip_zeros t (line / 2) ps (λ i lt. sym (bit_at-suc line i) ∙ h (suc i) (omega arith)) in
    ap (λ r. cond (r == 1) (p ∷ pieces_at (line / 2) ps) (pieces_at (line / 2) ps)) even
    ∙ rest
    ∙ ap (λ l. pieces_at l (drop t ps)) (shr-shr line 1 t ∙ ap (λ e. line / 2 ^ e) (let one : 1 + t ≡ suc t = omega arith in one))

-- the lowest column comes first
pub lowest_piece : (t line : ℕ) (block : List (List ℕ)) → bit_at line t ≡ 1 → ((i : ℕ) → i < t → bit_at line i ≡ 0) → t < length block
    → pieces_at line block ≡ get_or block t [] ∷ pieces_at (line / 2 ^ t / 2) (drop (t + 1) block)
unfolding pieces_at
lowest_piece t line block one zeros inside =
    skip_zeros t line block zeros
    ∙ ap (λ ps. pieces_at (line / 2 ^ t) ps) (drop_more block t [] inside)
    ∙ ap (λ r. cond (r == 1) (get_or block t [] ∷ pieces_at (line / 2 ^ t / 2) (drop (t + 1) block)) (pieces_at (line / 2 ^ t / 2) (drop (t + 1) block))) one

whole_once : (n : ℕ) → 0 < n → n / n ≡ 1
whole_once n some = ap (λ m. m / n) (let one : n ≡ 1 * n + 0 = omega arith in one) ∙ div-mul-add 1 n 0 some

-- a line of one column is its piece
pub one_piece : (size k line : ℕ) (block : List (List ℕ)) (piece : List ℕ) → line ≡ 2 ^ k → k < length block → get_or block k [] ≡ piece → length piece ≡ size
    → xor_all size (pieces_at line block) ≡ piece
unfolding xor_all
one_piece size k line block piece is inside is_piece sized =
    let zeros : (i : ℕ) → i < k → bit_at (2 ^ k) i ≡ 0 = λ i lt. bit_at-pow_other k i (λ same. absurd (omega (arith, same))) in
    let rest : 2 ^ k / 2 ^ k / 2 ≡ 0 = ap (λ q. q / 2) (whole_once (2 ^ k) (pow_pos k)) in
    let behind : List (List ℕ) = drop (k + 1) block in
    ap (λ l. xor_all size (pieces_at l block)) is
    ∙ ap (λ ps. xor_all size ps) (lowest_piece k (2 ^ k) block (bit_at-pow_same k) zeros inside)
    ∙ ap₂ (λ p ps. xor_bytes p (xor_all size ps)) is_piece (ap (λ l. pieces_at l behind) rest ∙ none_at_no_column behind)
    ∙ xor_bytes_with_zeros size piece sized

-- what is summed over zeros is the sum
pub summed_over_zeros : (size count line same : ℕ) (bytes start end : List ℕ) → start ≡ replicate size 0 → line ≡ same → length bytes ≡ count * size
    → end ≡ xor_bytes start (xor_all (length start) (pieces_at line (pieces_of count (length start) bytes)))
    → end ≡ xor_all size (pieces_at same (pieces_of count size bytes))
summed_over_zeros size count line same bytes start end is_start is_line is is_end =
    let block : List (List ℕ) = pieces_of count size bytes in
    let long : length start ≡ size = ap length is_start ∙ length-replicate size 0 in
    is_end
    ∙ ap₂ (λ s l. xor_bytes start (xor_all s (pieces_at l (pieces_of count s bytes)))) long is_line
    ∙ ap (λ s. xor_bytes s (xor_all size (pieces_at same block))) is_start
    ∙ xor_bytes_onto_zeros size _ (sized_sum size same block (pieces_sized count size bytes is))
