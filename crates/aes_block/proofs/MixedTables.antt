-- The two tables of words, entry by entry: what MixColumns makes of a byte alone, and what it makes a byte alone of.
use Rattle.std.proofs.Common.{◌≡◌, ℕ, zero, suc, ◌+◌, ◌-◌, ◌*◌, ◌/◌, ◌%◌, ◌<◌, true, cond, eqb, get_or, refl, sym, ap, ◌∙◌, arith}
use Rattle.std.specs.Prelude.{bit_xor}
use Rattle.std.specs.Int.{w32, rotate_right}
use Rattle.std.specs.Int.Bits.{xor_zero_l, xor_zero_r}
use Rattle.aes_block.specs.declared.tables.TheConstants.{SUB, SPREAD, UNMIXED}
use Rattle.aes_block.specs.Field.{xtime, sum_of_products, times, sub_byte}
use Rattle.aes_block.specs.Cipher.{mixed}
use Rattle.aes_block.specs.CipherInside.{byte_of, mixed_row, mixed_word}
use Rattle.aes_block.proofs.Agree.{all_agree, all_agree_at}
use Rattle.aes_block.proofs.Mixing.{AreBytes, turned, mixed-xor}
use Rattle.aes_block.proofs.Substitution.{substituted}
use Rattle.aes_block.proofs.WordBytes.{byte_of-lt, byte_of-xor, each_of_4}

-- ---- the entries

all_spread : all_agree (λ p x. byte_of (rotate_right w32 (get_or SPREAD x 0) (8 * (p / 4))) (p % 4)) (λ p x. mixed_row ((p % 4 + 4 - p / 4) % 4) (get_or SUB x 0) 0 0 0) 16 256 ≡ true
unfolding byte_of mixed times sum_of_products xtime
all_spread = refl

pub spread_at : (b row k : ℕ) → b < 256 → row < 4 → k < 4 → byte_of (rotate_right w32 (get_or SPREAD b 0) (8 * row)) k ≡ mixed_row ((k + 4 - row) % 4) (sub_byte b) 0 0 0
spread_at b row k fits row_lt k_lt =
    let high : (4 * row + k) / 4 ≡ row = omega arith in
    let low : (4 * row + k) % 4 ≡ k = omega arith in
    let entry = all_agree_at (λ p x. byte_of (rotate_right w32 (get_or SPREAD x 0) (8 * (p / 4))) (p % 4)) (λ p x. mixed_row ((p % 4 + 4 - p / 4) % 4) (get_or SUB x 0) 0 0 0) 16 256 (4 * row + k) b all_spread (omega arith) fits in
    rw (high, low, substituted b fits) at entry

all_unmixed : all_agree (λ p x. mixed_word (p % 4) (rotate_right w32 (get_or UNMIXED x 0) (8 * (p / 4)))) (λ p x. cond (eqb (p % 4) (p / 4)) x 0) 16 256 ≡ true
unfolding byte_of mixed times sum_of_products xtime
all_unmixed = refl

pub unmixed_at : (b row k : ℕ) → b < 256 → row < 4 → k < 4 → mixed_word k (rotate_right w32 (get_or UNMIXED b 0) (8 * row)) ≡ cond (eqb k row) b 0
unmixed_at b row k fits row_lt k_lt =
    let high : (4 * row + k) / 4 ≡ row = omega arith in
    let low : (4 * row + k) % 4 ≡ k = omega arith in
    let entry = all_agree_at (λ p x. mixed_word (p % 4) (rotate_right w32 (get_or UNMIXED x 0) (8 * (p / 4)))) (λ p x. cond (eqb (p % 4) (p / 4)) x 0) 16 256 (4 * row + k) b all_unmixed (omega arith) fits in
    rw (high, low) at entry

-- ---- sums of columns

pub mixed_row-xor : {a b c d p q r s : ℕ} (k : ℕ) → AreBytes a b c d → AreBytes p q r s → mixed_row k (bit_xor a p) (bit_xor b q) (bit_xor c r) (bit_xor d s) ≡ bit_xor (mixed_row k a b c d) (mixed_row k p q r s)
mixed_row-xor zero one two = mixed-xor one two
mixed_row-xor (suc k) one two = mixed_row-xor k (turned one) (turned two)

-- a column is the sum of its bytes alone
mixed_row-parts : {a b c d : ℕ} (k : ℕ) → AreBytes a b c d → mixed_row k a b c d ≡ bit_xor (bit_xor (bit_xor (mixed_row k a 0 0 0) (mixed_row k 0 b 0 0)) (mixed_row k 0 0 c 0)) (mixed_row k 0 0 0 d)
mixed_row-parts {a} {b} {c} {d} k bytes =
    let none : 0 < 256 = omega arith in
    let only_a : AreBytes a 0 0 0 = record { first = bytes.first; second = none; third = none; fourth = none } in
    let only_b : AreBytes 0 b 0 0 = record { first = none; second = bytes.second; third = none; fourth = none } in
    let only_c : AreBytes 0 0 c 0 = record { first = none; second = none; third = bytes.third; fourth = none } in
    let only_d : AreBytes 0 0 0 d = record { first = none; second = none; third = none; fourth = bytes.fourth } in
    let a_and_b : AreBytes a b 0 0 = record { first = bytes.first; second = bytes.second; third = none; fourth = none } in
    let a_to_c : AreBytes a b c 0 = record { first = bytes.first; second = bytes.second; third = bytes.third; fourth = none } in
    let three : mixed_row k a b c d ≡ bit_xor (mixed_row k a b c 0) (mixed_row k 0 0 0 d) = simp (xor_zero_l, xor_zero_r) at (mixed_row-xor k a_to_c only_d) in
    let two : mixed_row k a b c 0 ≡ bit_xor (mixed_row k a b 0 0) (mixed_row k 0 0 c 0) = simp (xor_zero_l, xor_zero_r) at (mixed_row-xor k a_and_b only_c) in
    let one : mixed_row k a b 0 0 ≡ bit_xor (mixed_row k a 0 0 0) (mixed_row k 0 b 0 0) = simp (xor_zero_l, xor_zero_r) at (mixed_row-xor k only_a only_b) in
    three ∙ rw (two, one) refl

byte_of-sum : (u v w x k : ℕ) → byte_of (bit_xor (bit_xor (bit_xor u v) w) x) k ≡ bit_xor (bit_xor (bit_xor (byte_of u k) (byte_of v k)) (byte_of w k)) (byte_of x k)
byte_of-sum u v w x k = rw (byte_of-xor (bit_xor (bit_xor u v) w) x k, byte_of-xor (bit_xor u v) w k, byte_of-xor u v k) refl

-- what a byte alone in a row makes
abbrev pub IsSpread : (word byte row : ℕ) → Type 0
IsSpread word byte row = (k : ℕ) → k < 4 → byte_of word k ≡ mixed_row ((k + 4 - row) % 4) byte 0 0 0

pub spread_sum : (a b c d u v w x : ℕ) → AreBytes a b c d → IsSpread u a 0 → IsSpread v b 1 → IsSpread w c 2 → IsSpread x d 3
    → (k : ℕ) → k < 4 → byte_of (bit_xor (bit_xor (bit_xor u v) w) x) k ≡ mixed_row k a b c d
spread_sum a b c d u v w x bytes first second third fourth = each_of_4 (λ k. byte_of (bit_xor (bit_xor (bit_xor u v) w) x) k ≡ mixed_row k a b c d)
    (byte_of-sum u v w x 0 ∙ rw (first 0 (omega arith), second 0 (omega arith), third 0 (omega arith), fourth 0 (omega arith)) (sym (mixed_row-parts 0 bytes)))
    (byte_of-sum u v w x 1 ∙ rw (first 1 (omega arith), second 1 (omega arith), third 1 (omega arith), fourth 1 (omega arith)) (sym (mixed_row-parts 1 bytes)))
    (byte_of-sum u v w x 2 ∙ rw (first 2 (omega arith), second 2 (omega arith), third 2 (omega arith), fourth 2 (omega arith)) (sym (mixed_row-parts 2 bytes)))
    (byte_of-sum u v w x 3 ∙ rw (first 3 (omega arith), second 3 (omega arith), third 3 (omega arith), fourth 3 (omega arith)) (sym (mixed_row-parts 3 bytes)))

pub bytes_of : (w : ℕ) → AreBytes (byte_of w 0) (byte_of w 1) (byte_of w 2) (byte_of w 3)
bytes_of w = record { first = byte_of-lt w 0; second = byte_of-lt w 1; third = byte_of-lt w 2; fourth = byte_of-lt w 3 }

mixed_word-xor : (k v w : ℕ) → mixed_word k (bit_xor v w) ≡ bit_xor (mixed_word k v) (mixed_word k w)
mixed_word-xor k v w = rw (byte_of-xor v w 0, byte_of-xor v w 1, byte_of-xor v w 2, byte_of-xor v w 3) (mixed_row-xor k (bytes_of v) (bytes_of w))

mixed_word-sum : (k u v w x : ℕ) → mixed_word k (bit_xor (bit_xor (bit_xor u v) w) x) ≡ bit_xor (bit_xor (bit_xor (mixed_word k u) (mixed_word k v)) (mixed_word k w)) (mixed_word k x)
mixed_word-sum k u v w x =
    mixed_word-xor k (bit_xor (bit_xor u v) w) x ∙ ap (λ (y : ℕ). bit_xor y (mixed_word k x))
    (mixed_word-xor k (bit_xor u v) w ∙ ap (λ (y : ℕ). bit_xor y (mixed_word k w)) (mixed_word-xor k u v))

-- what MixColumns takes to a byte alone in a row
abbrev pub IsUnmixed : (word byte row : ℕ) → Type 0
IsUnmixed word byte row = (k : ℕ) → k < 4 → mixed_word k word ≡ cond (eqb k row) byte 0

pub unmixed_sum : (b u v w x : ℕ) → IsUnmixed u (byte_of b 0) 0 → IsUnmixed v (byte_of b 1) 1 → IsUnmixed w (byte_of b 2) 2 → IsUnmixed x (byte_of b 3) 3
    → (k : ℕ) → k < 4 → mixed_word k (bit_xor (bit_xor (bit_xor u v) w) x) ≡ byte_of b k
unmixed_sum b u v w x first second third fourth = each_of_4 (λ k. mixed_word k (bit_xor (bit_xor (bit_xor u v) w) x) ≡ byte_of b k)
    (mixed_word-sum 0 u v w x ∙ rw (first 0 (omega arith), second 0 (omega arith), third 0 (omega arith), fourth 0 (omega arith)) (simp (xor_zero_l, xor_zero_r) refl))
    (mixed_word-sum 1 u v w x ∙ rw (first 1 (omega arith), second 1 (omega arith), third 1 (omega arith), fourth 1 (omega arith)) (simp (xor_zero_l, xor_zero_r) refl))
    (mixed_word-sum 2 u v w x ∙ rw (first 2 (omega arith), second 2 (omega arith), third 2 (omega arith), fourth 2 (omega arith)) (simp (xor_zero_l, xor_zero_r) refl))
    (mixed_word-sum 3 u v w x ∙ rw (first 3 (omega arith), second 3 (omega arith), third 3 (omega arith), fourth 3 (omega arith)) (xor_zero_l (byte_of b 3)))
