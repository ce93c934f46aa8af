-- Every key is unwrapped from some block: AES takes some block to each.
use Rattle.std.proofs.Common.{◌≡◌, ℕ, zero, suc, ◌+◌, ◌*◌, ◌%◌, ◌<◌, List, ◌∷◌, replicate, get_or, length, refl, sym, ap, ◌∙◌, subst, arith}
use Rattle.aes_block.specs.Cipher.{IsBlock, byte_at, state_of, sub_bytes, shift_rows, mix_columns, add_round_key, round_key, after_round, cipher}
use Rattle.aes_block.specs.Field.{sub_byte}
use Rattle.aes_block.specs.declared.tables.TheConstants.{INVERSE_SUB}
use Rattle.aes_block.proofs.Substitution.{undone-lt, redone}
use Rattle.aes_block.proofs.States.{byte_at-state_of, state_of-block, same_block, sub_bytes-block, shift_rows-block, mix_columns-block, add_round_key-block, byte_of_sub_bytes, byte_of_shift_rows, add_round_key-twice, mix_columns-four_times}
use Rattle.aes_block.proofs.Rounds.{words_from-block, cipher-same}
use Rattle.mc_keys.specs.Keys.{mc_ke_key, mc_key}
use Rattle.mc_keys.specs.Roots.{root_of}
use Rattle.mc_keys.specs.declared.root_kind.RootKind.{RootKind}
use Rattle.mc_keys.specs.declared.root_kind.RootKind.TheVariants.{V10, V11}
use Rattle.campaign_server.specs.Wrapping.{wrapped_key}
use Rattle.campaign_server.proofs.Wrapping.{wrapped_is}

-- some block is taken to this one
abbrev IsReached : (List ℕ → List ℕ) → List ℕ → Type 0
IsReached step s = (t : List ℕ) × IsBlock t × (step t ≡ s)

-- ---- each step of a round

sub_reached : (s : List ℕ) → IsBlock s → IsReached sub_bytes s
sub_reached s is =
    let old = λ (row column : ℕ). get_or INVERSE_SUB (byte_at s row column) 0 in
    let block : IsBlock (state_of old) = state_of-block old (λ row column r c. undone-lt _ (is.bytes_fit _)) in (
      state_of old,
      block,
      same_block (sub_bytes (state_of old)) s (sub_bytes-block (state_of old) block) is
          (λ row column r c. byte_of_sub_bytes (state_of old) row column r c ∙ ap sub_byte (byte_at-state_of old row column r c)
          ∙ redone _ (is.bytes_fit _)),
    )

back : (row column : ℕ) → row < 4 → column < 4 → ((column + row) % 4 + 3 * row) % 4 ≡ column
back row column r c = omega (arith, r, c)

shift_reached : (s : List ℕ) → IsBlock s → IsReached shift_rows s
shift_reached s is =
    let old = λ (row column : ℕ). byte_at s row ((column + 3 * row) % 4) in
    let block : IsBlock (state_of old) = state_of-block old (λ row column r c. is.bytes_fit _) in (
      state_of old,
      block,
      same_block (shift_rows (state_of old)) s (shift_rows-block (state_of old) block) is
          (λ row column r c. byte_of_shift_rows (state_of old) row column r c
          ∙ byte_at-state_of old row ((column + row) % 4) r (omega arith)
          ∙ ap (λ (k : ℕ). byte_at s row k) (back row column r c)),
    )

mix_reached : (s : List ℕ) → IsBlock s → IsReached mix_columns s
mix_reached s is = (
  mix_columns (mix_columns (mix_columns s)),
  mix_columns-block _ (mix_columns-block _ (mix_columns-block s is)),
  mix_columns-four_times s is,
)

add_reached : (s key : List ℕ) → IsBlock s → IsBlock key → IsReached (λ t. add_round_key t key) s
add_reached s key is key_is = (add_round_key s key, add_round_key-block s key is key_is, add_round_key-twice s key is key_is)

-- ---- the rounds

round_reached : (key : List ℕ) (n : ℕ) (s : List ℕ) → IsBlock key → IsBlock s → IsReached (λ x. after_round key x n) s
unfolding after_round
round_reached key zero s key_is is = add_reached s (round_key key 0) is (words_from-block key 0 key_is)
round_reached key (suc n) s key_is is =
    let a = add_reached s (round_key key (suc n)) is (words_from-block key (4 * suc n) key_is) in
    let b = mix_reached a.0 a.1 in
    let c = shift_reached b.0 b.1 in
    let d = sub_reached c.0 c.1 in
    let e = round_reached key n d.0 key_is d.1 in (
      e.0,
      e.1,
      ap (λ (t : List ℕ). add_round_key (mix_columns (shift_rows (sub_bytes t))) (round_key key (suc n))) e.2
          ∙ ap (λ (t : List ℕ). add_round_key (mix_columns (shift_rows t)) (round_key key (suc n))) d.2
          ∙ ap (λ (t : List ℕ). add_round_key (mix_columns t) (round_key key (suc n))) c.2
          ∙ ap (λ (t : List ℕ). add_round_key t (round_key key (suc n))) b.2 ∙ a.2,
    )

cipher_reached : (key s : List ℕ) → IsBlock key → IsBlock s → IsReached (cipher key) s
unfolding cipher
cipher_reached key s key_is is =
    let a = add_reached s (round_key key 10) is (words_from-block key 40 key_is) in
    let c = shift_reached a.0 a.1 in
    let d = sub_reached c.0 c.1 in
    let e = round_reached key 9 d.0 key_is d.1 in (
      e.0,
      e.1,
      ap (λ (t : List ℕ). add_round_key (shift_rows (sub_bytes t)) (round_key key 10)) e.2
          ∙ ap (λ (t : List ℕ). add_round_key (shift_rows t) (round_key key 10)) d.2
          ∙ ap (λ (t : List ℕ). add_round_key t (round_key key 10)) c.2 ∙ a.2,
    )

-- ---- what AES makes is a block

round_block : (key x : List ℕ) (n : ℕ) → IsBlock key → IsBlock x → IsBlock (after_round key x n)
unfolding after_round
round_block key x zero key_is is = add_round_key-block x (round_key key 0) is (words_from-block key 0 key_is)
round_block key x (suc n) key_is is =
    add_round_key-block _ (round_key key (suc n))
    (mix_columns-block _ (shift_rows-block _ (sub_bytes-block _ (round_block key x n key_is is))))
    (words_from-block key (4 * suc n) key_is)

cipher_block : (key x : List ℕ) → IsBlock key → IsBlock x → IsBlock (cipher key x)
unfolding cipher
cipher_block key x key_is is =
    add_round_key-block _ (round_key key 10) (shift_rows-block _ (sub_bytes-block _ (round_block key x 9 key_is is)))
    (words_from-block key 40 key_is)

none_above : (n i : ℕ) → get_or (replicate n 0) i 0 < 256
none_above zero i = omega arith
none_above (suc n) zero = omega arith
none_above (suc n) (suc i) = none_above n i

zeros : IsBlock (replicate 16 0)
zeros = record { len = refl; bytes_fit = λ i. none_above 16 i }

root_block : IsBlock (0x20 ∷ replicate 15 0)
root_block = record { len = refl; bytes_fit = small }
  where
    small : (i : ℕ) → get_or (0x20 ∷ replicate 15 0) i 0 < 256
    small zero = omega arith
    small (suc i) = none_above 15 i

kek_block : (root : RootKind) (key : List ℕ) → IsBlock key → IsBlock (mc_ke_key (root_of root key))
kek_block V10 key is = cipher_block _ (replicate 16 0) (cipher_block key (replicate 16 0) is zeros) zeros
kek_block V11 key is = cipher_block _ (replicate 16 0) (cipher_block key (0x20 ∷ replicate 15 0) is root_block) zeros

-- ---- the wrapped key

record IsWrapped (kek group_key wrapped : List ℕ) : Type 0 where
  block : IsBlock wrapped
  unwraps : mc_key kek wrapped ≡ group_key

is_wrapped : (root : RootKind) (key group_key : List ℕ) → IsBlock key → IsBlock group_key
    → let kek = mc_ke_key (root_of root key) in IsWrapped kek group_key (wrapped_key kek group_key)
is_wrapped root key group_key key_is group_is =
    let kek = mc_ke_key (root_of root key) in
    let kek_is = kek_block root key key_is in
    let one = cipher_reached kek group_key kek_is group_is in
    let wrapped : wrapped_key kek group_key ≡ one.0 =
    wrapped_is kek group_key one.0 one.1 one.2 (λ x is takes. cipher-same kek x one.0 kek_is is one.1 (takes ∙ sym one.2)) in
    subst (IsWrapped kek group_key) (sym wrapped) (record { block = one.1; unwraps = one.2 })

pub unwraps : (root : RootKind) (key group_key : List ℕ) → IsBlock key → IsBlock group_key
    → let kek = mc_ke_key (root_of root key) in mc_key kek (wrapped_key kek group_key) ≡ group_key
unwraps root key group_key key_is group_is = (is_wrapped root key group_key key_is group_is).unwraps

pub wrapped_long : (root : RootKind) (key group_key : List ℕ) → IsBlock key → IsBlock group_key
    → length (wrapped_key (mc_ke_key (root_of root key)) group_key) ≡ 16
wrapped_long root key group_key key_is group_is = (is_wrapped root key group_key key_is group_is).block.len
