-- What an image file has.
use Rattle.std.proofs.Common.{◌≡◌, ◌≢◌, ⊎_elim, ℕ, zero, suc, ◌+◌, ◌≤◌, ◌==◌, true, not, List, length, refl, arith, bytes_eq}
use Rattle.std.specs.Cmp.Derive.{both_true}
use Rattle.std.proofs.lemmas.Bool.{leb-true, le-leb, and_parts, or_left, or_right}
use Rattle.std.proofs.lemmas.Slice.Eq.{bytes_eq-Decides}
use Rattle.image_slots.specs.Image.{max_image, further, firmware_of, has_digest, is_image}
use Rattle.image_slots.specs.Parts.{HasParts}

-- an image file has the bytes before its body
pub image_long : (file : List ℕ) → is_image file ≡ true → 49 + further file ≤ length file
unfolding is_image
image_long file h = leb-true _ _ (and_parts _ _ (and_parts _ _ (and_parts _ _ (and_parts _ _ (and_parts _ _ (and_parts _ _ h).0).0).0).0).0).0

-- an image file has at least those of format 1
pub image_some : (file : List ℕ) → is_image file ≡ true → 49 ≤ length file
image_some file h = let long = image_long file h in omega arith

-- an image file is within its limit
pub image_short : (file : List ℕ) → is_image file ≡ true → length file ≤ max_image
unfolding is_image
image_short file h = leb-true _ _ (and_parts _ _ (and_parts _ _ (and_parts _ _ (and_parts _ _ (and_parts _ _ (and_parts _ _ h).0).0).0).0).0).1

-- bytes with these parts that are within the limit are an image file
pub image_of_parts : (file : List ℕ) → HasParts file → length file ≤ max_image → is_image file ≡ true
unfolding is_image has_digest
image_of_parts file h short =
    both_true (both_true (both_true (both_true (both_true (both_true (le-leb _ _ h.long) (le-leb _ _ short))
    (⊎_elim (λ one. or_left _ _ (same one)) (λ two. or_right _ _ (same two)) h.mark)) (le-leb _ _ h.hardware))
    (not_zero (firmware_of file) h.firmware)) (is_number _ _ h.body)) (same h.digest)
  where
    same : {xs ys : List ℕ} → xs ≡ ys → bytes_eq xs ys ≡ true
    same {xs} {ys} is = (bytes_eq-Decides xs ys).1 is

    not_zero : (n : ℕ) → n ≢ 0 → not (n == 0) ≡ true
    not_zero zero some = absurd (some refl)
    not_zero (suc n) some = grind arith

    is_number : (m n : ℕ) → m ≡ n → (m == n) ≡ true
    is_number m n is = grind (arith, is)

pub ruleset image_bounds = (image_long, image_some, image_short)
