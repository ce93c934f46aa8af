-- The wrapped key is the one block that is unwrapped to the key.
use Rattle.std.proofs.Common.{◌≡◌, ℕ, ◌<◌, zero, suc, Bool, true, false, List, [], ◌∷◌, Option, Some, find, unwrap_or, slice_index, refl, sym, ap, ◌∙◌, arith, inl, inr}
use Rattle.std.specs.List.{range_with_len, AllByRecursion}
use Rattle.std.specs.Str.{bytes_eq}
use Rattle.std.proofs.lemmas.Slice.Eq.{bytes_eq-Decides}
use Rattle.frag_model.specs.Verdict.{all_lists}
use Rattle.frag_model.proofs.Members.{In, In-all_lists, In-all_lists_from, In-range, In-range_from}
use Rattle.aes_block.specs.Cipher.{IsBlock}
use Rattle.mc_keys.specs.Keys.{mc_key}
use Rattle.campaign_server.specs.Wrapping.{wrapped_key}

-- what a search finds, where a member passes
record Found {A : Type 0} (p : A → Bool) (xs : List A) : Type 0 where
  found : A
  is : find p xs ≡ Some found
  member : In found xs
  passes : p found ≡ true

search_finds : {A : Type 0} (p : A → Bool) (x : A) (xs : List A) → In x xs → p x ≡ true → Found p xs
search_finds p x [] member passes = absurd member
search_finds p x (y ∷ xs) member passes = by_first (λ behind. search_finds p x xs behind passes) (p y) refl member
  where
    by_first : (In x xs → Found p xs) → (b : Bool) → p y ≡ b → In x (y ∷ xs) → Found p (y ∷ xs)
    by_first later true is member = record { found = y; is = rw is refl; member = inl refl; passes = is }
    by_first later false is (inl same) = let no : true ≡ false = sym passes ∙ ap p same ∙ is in absurd cc
    by_first later false is (inr behind) =
        let rest = later behind in
        record { found = rest.found; is = rw is rest.is; member = inr rest.member; passes = rest.passes }

-- ---- blocks are the lists of 16 bytes

abbrev bytes : List ℕ
bytes = range_with_len 0 256

bytes_of : (xs : List ℕ) → ((i : ℕ) → slice_index xs i < 256) → AllByRecursion (λ x. In x bytes) xs
bytes_of [] fit = tt
bytes_of (x ∷ xs) fit = (In-range x 0 256 (omega arith) (omega (arith, fit 0)), bytes_of xs (λ i. fit (suc i)))

fit_of : (xs : List ℕ) → AllByRecursion (λ x. In x bytes) xs → (i : ℕ) → slice_index xs i < 256
fit_of [] all i = omega arith
fit_of (x ∷ xs) all zero = omega (arith, (In-range_from x 0 256 all.0).1)
fit_of (x ∷ xs) all (suc i) = fit_of xs all.1 i

block_in : (block : List ℕ) → IsBlock block → In block (all_lists bytes 16)
block_in block is = In-all_lists bytes block 16 is.len (bytes_of block is.bytes_fit)

block_from : (block : List ℕ) → In block (all_lists bytes 16) → IsBlock block
block_from block member =
    let parts = In-all_lists_from bytes block 16 member in
    record { len = parts.0; bytes_fit = fit_of block parts.1 }

-- ---- the one block that is unwrapped to a key is the wrapped key

pub wrapped_is : (kek key block : List ℕ) → IsBlock block → mc_key kek block ≡ key
    → ((x : List ℕ) → IsBlock x → mc_key kek x ≡ key → x ≡ block) → wrapped_key kek key ≡ block
unfolding wrapped_key
wrapped_is kek key block is unwraps only =
    let test = λ (x : List ℕ). bytes_eq (mc_key kek x) key in
    let one = search_finds test block (all_lists bytes 16) (block_in block is) ((bytes_eq-Decides _ _).1 unwraps) in
    ap (λ (o : Option (List ℕ)). unwrap_or o []) one.is ∙ only one.found (block_from one.found one.member) ((bytes_eq-Decides _ _).0 one.passes)
