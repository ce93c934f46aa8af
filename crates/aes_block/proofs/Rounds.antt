-- The rounds one after another, forward and back.
use Rattle.std.proofs.Common.{◌≡◌, ℕ, zero, suc, ◌+◌, ◌-◌, ◌*◌, ◌/◌, ◌%◌, ◌<◌, ◌≤◌, Bool, true, false, cond, eqb, List, [], ◌∷◌, length, get_or, set, refl, sym, ap, subst, ◌∙◌, arith, inl, inr, length-set, get_or-set_same, get_or-set_other}
use Rattle.std.specs.Prelude.{bit_xor}
use Rattle.std.proofs.lemmas.Bool.{cases_eq}
use Rattle.std.proofs.lemmas.Nat.{xor_of_8}
use Rattle.aes_block.specs.Field.{sub_byte}
use Rattle.aes_block.specs.Cipher.{IsBlock, byte_at, sub_bytes, shift_rows, mix_columns, add_round_key, power_of_x, added, next_words, words_from, round_key, after_round, cipher}
use Rattle.aes_block.specs.CipherInside.{state_of_words, words_at, AreRoundKeys}
use Rattle.aes_block.proofs.FieldLaws.{xtime-lt}
use Rattle.aes_block.proofs.States.{state_of-block, sub_bytes-block, shift_rows-block, mix_columns-block, add_round_key-block, sub_bytes-same, shift_rows-same, mix_columns-same, add_round_key-same}
use Rattle.aes_block.proofs.Substitution.{sub_byte-lt}

-- ---- forward

pub first_round : (key : List ℕ) (keys : List (List ℕ)) (block : List ℕ) → AreRoundKeys key keys → add_round_key block (state_of_words (words_at keys 0)) ≡ after_round key block 0
unfolding after_round
first_round key keys block are = ap (λ (k : List ℕ). add_round_key block k) (are 0 (omega arith))

round_after : (key : List ℕ) (keys : List (List ℕ)) (block state : List ℕ) (m : ℕ) → AreRoundKeys key keys → m < 9 → state ≡ after_round key block m
    → add_round_key (mix_columns (shift_rows (sub_bytes state))) (state_of_words (words_at keys (suc m))) ≡ after_round key block (suc m)
unfolding after_round
round_after key keys block state m are high is = rw (is, are (suc m) (omega arith)) refl

pub next_round : (key : List ℕ) (keys : List (List ℕ)) (block state : List ℕ) (n : ℕ) → AreRoundKeys key keys → 1 ≤ n → n < 10 → state ≡ after_round key block (n - 1)
    → add_round_key (mix_columns (shift_rows (sub_bytes state))) (state_of_words (words_at keys n)) ≡ after_round key block (n + 1 - 1)
next_round key keys block state n are low high is =
    let this : suc (n - 1) ≡ n = omega arith in
    let next : suc (n - 1) ≡ n + 1 - 1 = omega arith in
    subst (λ (k : ℕ). add_round_key (mix_columns (shift_rows (sub_bytes state))) (state_of_words (words_at keys k)) ≡ after_round key block (n + 1 - 1)) this
    (round_after key keys block state (n - 1) are (omega arith) is ∙ ap (after_round key block) next)

pub last_round : (key : List ℕ) (keys : List (List ℕ)) (block state : List ℕ) (n : ℕ) → AreRoundKeys key keys → 10 ≤ n → n ≤ 10 → state ≡ after_round key block (n - 1)
    → add_round_key (shift_rows (sub_bytes state)) (state_of_words (words_at keys 10)) ≡ cipher key block
unfolding cipher
last_round key keys block state n are low high is =
    let end : n - 1 ≡ 9 = omega arith in
    rw (is, end, are 10 (omega arith)) refl

-- ---- back

-- what the last so many rounds and the one without MixColumns make of a state
unfoldable pub finished : (key : List ℕ) (rounds : ℕ) → List ℕ → List ℕ
finished key zero state = add_round_key (shift_rows (sub_bytes state)) (round_key key 10)
finished key (suc rounds) state = finished key rounds (add_round_key (mix_columns (shift_rows (sub_bytes state))) (round_key key (9 - rounds)))

finished-after_round : (key block : List ℕ) (n rounds : ℕ) → n + rounds ≡ 9 → finished key rounds (after_round key block n) ≡ cipher key block
unfolding finished after_round cipher
finished-after_round key block n zero nine =
    let end : n ≡ 9 = omega arith in
    rw end refl
finished-after_round key block n (suc rounds) nine =
    let next : 9 - rounds ≡ suc n = omega arith in
    rw next (finished-after_round key block (suc n) rounds (omega arith))

pub last_undone : (key : List ℕ) (keys : List (List ℕ)) (block last state : List ℕ) → AreRoundKeys key keys
    → add_round_key last (state_of_words (words_at keys 10)) ≡ block → shift_rows (sub_bytes state) ≡ last → finished key 0 state ≡ block
unfolding finished
last_undone key keys block last state are added_is substituted_is = rw (substituted_is, ← are 10 (omega arith)) added_is

pub round_undone : (key : List ℕ) (keys : List (List ℕ)) (block after mixed shifted state : List ℕ) (n : ℕ) → AreRoundKeys key keys → 1 ≤ n → n < 10
    → finished key (9 - n) after ≡ block → add_round_key mixed (state_of_words (words_at keys n)) ≡ after → mix_columns shifted ≡ mixed → shift_rows (sub_bytes state) ≡ shifted
    → finished key (10 - n) state ≡ block
unfolding finished
round_undone key keys block after mixed shifted state n are low high so_far added_is mixed_is substituted_is =
    let rounds : 10 - n ≡ suc (9 - n) = omega arith in
    let this : 9 - (9 - n) ≡ n = omega arith in
    let forward : add_round_key (mix_columns (shift_rows (sub_bytes state))) (round_key key n) ≡ after = rw (substituted_is, mixed_is, ← are n (omega arith)) added_is in
    let opened : finished key (suc (9 - n)) state ≡ finished key (9 - n) after = ap (λ (k : ℕ). finished key (9 - n) (add_round_key (mix_columns (shift_rows (sub_bytes state))) (round_key key k))) this ∙ ap (finished key (9 - n)) forward in
    ap (λ (k : ℕ). finished key k state) rounds ∙ opened ∙ so_far

pub all_undone : (key : List ℕ) (keys : List (List ℕ)) (block state x : List ℕ) → AreRoundKeys key keys → finished key 9 state ≡ block → add_round_key x (state_of_words (words_at keys 0)) ≡ state → cipher key x ≡ block
all_undone key keys block state x are so_far added_is =
    let start : state ≡ after_round key x 0 = sym added_is ∙ first_round key keys x are in
    sym (finished-after_round key x 0 9 refl) ∙ ap (finished key 9) (sym start) ∙ so_far

-- ---- the keys are blocks

power_of_x-lt : (n : ℕ) → power_of_x n < 256
power_of_x-lt zero = omega arith
power_of_x-lt (suc n) = xtime-lt (power_of_x n) (power_of_x-lt n)

cond-lt : (b : Bool) (x y : ℕ) → x < 256 → y < 256 → cond b x y < 256
cond-lt true x y x_fits y_fits = x_fits
cond-lt false x y x_fits y_fits = y_fits

pub added-lt : (i : ℕ) (words : List ℕ) (row : ℕ) → IsBlock words → added i words row < 256
added-lt i words row block =
    cond-lt (eqb (i % 4) 0) (bit_xor (sub_byte (byte_at words ((row + 1) % 4) 3)) (cond (eqb row 0) (power_of_x (i / 4 - 1)) 0)) (byte_at words row 3)
    (xor_of_8 (sub_byte (byte_at words ((row + 1) % 4) 3)) (cond (eqb row 0) (power_of_x (i / 4 - 1)) 0) (sub_byte-lt (byte_at words ((row + 1) % 4) 3) (block.bytes_fit _)) (cond-lt (eqb row 0) (power_of_x (i / 4 - 1)) 0 (power_of_x-lt (i / 4 - 1)) (omega arith)))
    (block.bytes_fit _)

pub next_words-block : (i : ℕ) (words : List ℕ) → IsBlock words → IsBlock (next_words i words)
unfolding next_words
next_words-block i words block = state_of-block (λ row column. cond (eqb column 3) (bit_xor (byte_at words row 0) (added i words row)) (byte_at words row (column + 1)))
    (λ row column r c. cond-lt (eqb column 3) (bit_xor (byte_at words row 0) (added i words row)) (byte_at words row (column + 1))
    (xor_of_8 (byte_at words row 0) (added i words row) (block.bytes_fit _) (added-lt i words row block)) (block.bytes_fit _))

pub words_from-block : (key : List ℕ) (n : ℕ) → IsBlock key → IsBlock (words_from key n)
unfolding words_from
words_from-block key zero block = block
words_from-block key (suc n) block = next_words-block (n + 4) (words_from key n) (words_from-block key n block)

-- ---- the cipher takes no two blocks to one

after_round-block : (key block : List ℕ) (n : ℕ) → IsBlock key → IsBlock block → IsBlock (after_round key block n)
unfolding after_round
after_round-block key block zero key_block is = add_round_key-block block (round_key key 0) is (words_from-block key 0 key_block)
after_round-block key block (suc n) key_block is =
    add_round_key-block (mix_columns (shift_rows (sub_bytes (after_round key block n)))) (round_key key (suc n))
    (mix_columns-block _ (shift_rows-block _ (sub_bytes-block _ (after_round-block key block n key_block is)))) (words_from-block key (4 * suc n) key_block)

after_round-same : (key x y : List ℕ) (n : ℕ) → IsBlock key → IsBlock x → IsBlock y → after_round key x n ≡ after_round key y n → x ≡ y
unfolding after_round
after_round-same key x y zero key_block x_block y_block same = add_round_key-same x y (round_key key 0) x_block y_block (words_from-block key 0 key_block) same
after_round-same key x y (suc n) key_block x_block y_block same =
    let xs = after_round-block key x n key_block x_block in
    let ys = after_round-block key y n key_block y_block in
    let xs1 = sub_bytes-block _ xs in
    let ys1 = sub_bytes-block _ ys in
    let xs2 = shift_rows-block _ xs1 in
    let ys2 = shift_rows-block _ ys1 in
    let e3 = add_round_key-same _ _ (round_key key (suc n)) (mix_columns-block _ xs2) (mix_columns-block _ ys2) (words_from-block key (4 * suc n) key_block) same in
    after_round-same key x y n key_block x_block y_block (sub_bytes-same _ _ xs ys (shift_rows-same _ _ xs1 ys1 (mix_columns-same _ _ xs2 ys2 e3)))

pub cipher-same : (key x y : List ℕ) → IsBlock key → IsBlock x → IsBlock y → cipher key x ≡ cipher key y → x ≡ y
unfolding cipher
cipher-same key x y key_block x_block y_block same =
    let xs = after_round-block key x 9 key_block x_block in
    let ys = after_round-block key y 9 key_block y_block in
    let xs1 = sub_bytes-block _ xs in
    let ys1 = sub_bytes-block _ ys in
    let e = add_round_key-same _ _ (round_key key 10) (shift_rows-block _ xs1) (shift_rows-block _ ys1) (words_from-block key 40 key_block) same in
    after_round-same key x y 9 key_block x_block y_block (sub_bytes-same _ _ xs ys (shift_rows-same _ _ xs1 ys1 e))

-- ---- the key expansion

-- what the expansion keeps before word i
pub record IsExpanding (key words : List ℕ) (keys : List (List ℕ)) (i : ℕ) : Type 0 where
  pub words_are : state_of_words words ≡ words_from key (i - 4)
  pub len : length keys ≡ 11
  pub done : (n : ℕ) → n < 11 → 4 * n + 4 ≤ i → state_of_words (get_or keys n []) ≡ round_key key n

pub none_expanded : (key words : List ℕ) (keys : List (List ℕ)) → length keys ≡ 11 → get_or keys 0 [] ≡ words → state_of_words words ≡ key → IsExpanding key words keys 4
unfolding words_from
none_expanded key words keys len first is = record {
  words_are = is;
  len = len;
  done = λ n within below. let none : n ≡ 0 = omega arith in rw none (ap state_of_words first ∙ is);
}

next_words_are : (key words : List ℕ) (i : ℕ) → 4 ≤ i → words ≡ words_from key (i - 4) → next_words i words ≡ words_from key (i + 1 - 4)
unfolding words_from
next_words_are key words i low are =
    let next : i + 1 - 4 ≡ suc (i - 4) = omega arith in
    let same : i - 4 + 4 ≡ i = omega arith in
    rw (next, are, same) refl

pub word_expanded : (key words after : List ℕ) (keys : List (List ℕ)) (i : ℕ) → 4 ≤ i → (i % 4 ≡ 3 → ⊥) → IsExpanding key words keys i → state_of_words after ≡ next_words i (state_of_words words) → IsExpanding key after keys (i + 1)
word_expanded key words after keys i low between is next = record {
  words_are = next ∙ next_words_are key (state_of_words words) i low is.words_are;
  len = is.len;
  done = λ n within below. is.done n within (omega arith);
}

pub key_expanded : (key words after : List ℕ) (keys : List (List ℕ)) (i : ℕ) → 4 ≤ i → i < 44 → i % 4 ≡ 3 → IsExpanding key words keys i → state_of_words after ≡ next_words i (state_of_words words) → IsExpanding key after (set keys (i / 4) after) (i + 1)
key_expanded key words after keys i low high end is next =
    let after_is : state_of_words after ≡ words_from key (i + 1 - 4) = next ∙ next_words_are key (state_of_words words) i low is.words_are in
    record {
      words_are = after_is;
      len = length-set keys (i / 4) after ∙ is.len;
      done = λ n within below. elim (cases_eq n (i / 4)) [
        | inl same ↦
            let place : i + 1 - 4 ≡ 4 * (i / 4) = omega arith in
            rw same (ap state_of_words (get_or-set_same keys (i / 4) after [] (omega (arith, is.len))) ∙ after_is ∙ ap (words_from key) place)
        | inr other ↦ ap state_of_words (get_or-set_other keys (i / 4) n after [] other) ∙ is.done n within (omega arith)
      ];
    }

-- a column's words are those of the keys
abbrev pub AreWordsOf : (keys : List (List ℕ)) (words : List ℕ) (column : ℕ) → Type 0
AreWordsOf keys words column = (n : ℕ) → n < 11 → get_or words n 0 ≡ get_or (get_or keys n []) column 0

pub all_expanded : (key words : List ℕ) (keys : List (List ℕ)) (i : ℕ) (a b c d : List ℕ) → 44 ≤ i → IsExpanding key words keys i → AreWordsOf keys a 0 → AreWordsOf keys b 1 → AreWordsOf keys c 2 → AreWordsOf keys d 3
    → AreRoundKeys key (a ∷ b ∷ c ∷ d ∷ [])
unfolding state_of_words
all_expanded key words keys i a b c d all is first second third fourth = λ n within. rw (first n within, second n within, third n within, fourth n within) (is.done n within (omega arith))
