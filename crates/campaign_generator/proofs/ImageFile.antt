-- The image of a seed is an image file: its parts are found again at their places.
use Rattle.std.proofs.Common.{◌≡◌, ℕ, zero, suc, ◌+◌, ◌-◌, ◌^◌, ◌<◌, ◌≤◌, ◌==◌, nat_le, true, false, List, [], ◌∷◌, ◌++◌, length, take, drop, refl, sym, ap, ◌∙◌, subst, lit<, append_assoc, arith}
use Rattle.std.proofs.lemmas.List.{length-append}
use Rattle.std.proofs.Math.Seq.{take-append_seam, drop-append_seam}
use Rattle.std.specs.Str.{bytes_eq}
use Rattle.sha2.specs.Sha256.{sha256}
use Rattle.sha2.proofs.Facts256.{length-sha256}
use Rattle.wire_base.specs.Numbers.{number_at, number_bytes}
use Rattle.wire_base.proofs.NumberLaws.{number_at-number_bytes}
use Rattle.image_slots.specs.Image.{max_image, is_image, image_start, format_of, further, lowest_of, highest_of, firmware_of, has_digest}
use Rattle.campaign_generator.specs.Draws.{stepped}
use Rattle.campaign_generator.specs.Firmware.{firmware_of_seed, body_of, size_of, bytes_from, file_of, image_of}
use Rattle.campaign_generator.specs.ImageFile.{AreImageFiles}

-- the bytes of a file, its body's length counted
abbrev built : ℕ → ℕ → List ℕ → List ℕ
built hw fw body = image_start 1 ++ (number_bytes 4 hw ++ (number_bytes 4 fw ++ (number_bytes 4 (length body) ++ (sha256 body ++ body))))

drop_front : (xs ys : List ℕ) (n : ℕ) → length xs ≡ n → drop n (xs ++ ys) ≡ ys
drop_front xs ys n is = subst (λ (k : ℕ). drop k (xs ++ ys) ≡ ys) is (drop-append_seam xs ys)

take_front : (xs ys : List ℕ) (n : ℕ) → length xs ≡ n → take n (xs ++ ys) ≡ xs
take_front xs ys n is = subst (λ (k : ℕ). take k (xs ++ ys) ≡ xs) is (take-append_seam xs ys)

start_length : length (image_start 1) ≡ 5
unfolding image_start
start_length = refl

-- the parts before each number
abbrev first_part : ℕ → List ℕ
first_part hw = image_start 1 ++ number_bytes 4 hw

abbrev second_part : ℕ → ℕ → List ℕ
second_part hw fw = first_part hw ++ number_bytes 4 fw

abbrev third_part : ℕ → ℕ → List ℕ → List ℕ
third_part hw fw body = second_part hw fw ++ number_bytes 4 (length body)

first_length : (hw : ℕ) → length (first_part hw) ≡ 9
first_length hw = rw (length-append, start_length) refl

second_length : (hw fw : ℕ) → length (second_part hw fw) ≡ 13
second_length hw fw = rw (length-append, first_length hw) refl

third_length : (hw fw : ℕ) (body : List ℕ) → length (third_part hw fw body) ≡ 17
third_length hw fw body = rw (length-append, second_length hw fw) refl

-- the file, parted at each place
at_first : (hw fw : ℕ) (body : List ℕ) → built hw fw body ≡ first_part hw ++ (number_bytes 4 fw ++ (number_bytes 4 (length body) ++ (sha256 body ++ body)))
at_first hw fw body = sym (append_assoc (image_start 1) (number_bytes 4 hw) _)

at_second : (hw fw : ℕ) (body : List ℕ) → built hw fw body ≡ second_part hw fw ++ (number_bytes 4 (length body) ++ (sha256 body ++ body))
at_second hw fw body = at_first hw fw body ∙ sym (append_assoc (first_part hw) (number_bytes 4 fw) _)

at_third : (hw fw : ℕ) (body : List ℕ) → built hw fw body ≡ third_part hw fw body ++ (sha256 body ++ body)
at_third hw fw body = at_second hw fw body ∙ sym (append_assoc (second_part hw fw) (number_bytes 4 (length body)) _)

built_length : (hw fw : ℕ) (body : List ℕ) → length (built hw fw body) ≡ 49 + length body
built_length hw fw body = ap (λ (bs : List ℕ). length bs) (at_third hw fw body) ∙ rw (length-append, third_length hw fw body, length-append, length-sha256 body) (omega arith)

built_format : (hw fw : ℕ) (body : List ℕ) → format_of (built hw fw body) ≡ 1
unfolding format_of image_start
built_format hw fw body = refl

-- no field comes later
built_further : (hw fw : ℕ) (body : List ℕ) → further (built hw fw body) ≡ 0
unfolding further
built_further hw fw body = rw (built_format hw fw body) refl

built_firmware : (hw fw : ℕ) (body : List ℕ) → fw < 2 ^ 32 → firmware_of (built hw fw body) ≡ fw
unfolding firmware_of
built_firmware hw fw body small =
    rw (built_further hw fw body, at_first) (subst (λ (k : ℕ). number_at (first_part hw ++ (number_bytes 4 fw ++ (number_bytes 4 (length body) ++ (sha256 body ++ body)))) k 4 ≡ fw) (first_length hw)
    (number_at-number_bytes 4 fw (first_part hw) (number_bytes 4 (length body) ++ (sha256 body ++ body)) small))

built_lowest : (hw fw : ℕ) (body : List ℕ) → hw < 2 ^ 32 → lowest_of (built hw fw body) ≡ hw
unfolding lowest_of
built_lowest hw fw body small =
    subst (λ (k : ℕ). number_at (built hw fw body) k 4 ≡ hw) start_length
    (number_at-number_bytes 4 hw (image_start 1) (number_bytes 4 fw ++ (number_bytes 4 (length body) ++ (sha256 body ++ body))) small)

built_highest : (hw fw : ℕ) (body : List ℕ) → hw < 2 ^ 32 → highest_of (built hw fw body) ≡ hw
unfolding highest_of lowest_of
built_highest hw fw body small = rw (built_further hw fw body) (built_lowest hw fw body small)

built_count : (hw fw : ℕ) (body : List ℕ) → length body < 2 ^ 32 → number_at (built hw fw body) 13 4 ≡ length body
built_count hw fw body small =
    rw at_second (subst (λ (k : ℕ). number_at (second_part hw fw ++ (number_bytes 4 (length body) ++ (sha256 body ++ body))) k 4 ≡ length body) (second_length hw fw)
    (number_at-number_bytes 4 (length body) (second_part hw fw) (sha256 body ++ body) small))

built_start : (hw fw : ℕ) (body : List ℕ) → take 5 (built hw fw body) ≡ image_start 1
built_start hw fw body = take_front (image_start 1) _ 5 start_length

built_digest : (hw fw : ℕ) (body : List ℕ) → take 32 (drop 17 (built hw fw body)) ≡ sha256 body
built_digest hw fw body = rw (at_third, drop_front (third_part hw fw body) (sha256 body ++ body) 17 (third_length hw fw body)) (take_front (sha256 body) body 32 (length-sha256 body))

built_body : (hw fw : ℕ) (body : List ℕ) → drop 49 (built hw fw body) ≡ body
built_body hw fw body =
    let whole : built hw fw body ≡ (third_part hw fw body ++ sha256 body) ++ body = at_third hw fw body ∙ sym (append_assoc (third_part hw fw body) (sha256 body) body) in
    rw whole (drop_front (third_part hw fw body ++ sha256 body) body 49 (rw (length-append, third_length hw fw body, length-sha256 body) refl))

same_bytes : (bytes : List ℕ) → bytes_eq bytes bytes ≡ true
same_bytes [] = refl
same_bytes (b ∷ bytes) = let same : (b == b) ≡ true = grind arith in rw (same, same_bytes bytes) refl

built_is_image : (hw fw : ℕ) (body : List ℕ) → hw < 2 ^ 32 → 0 < fw → fw < 2 ^ 32 → 49 + length body ≤ max_image → is_image (built hw fw body) ≡ true
unfolding is_image has_digest
built_is_image hw fw body hardware some small fits =
    let n = built_length hw fw body in
    let a : nat_le 49 (length (built hw fw body)) ≡ true = grind (arith, n) in
    let b : nat_le (length (built hw fw body)) max_image ≡ true = grind (arith, n, fits) in
    let c : (firmware_of (built hw fw body) == 0) ≡ false = grind (arith, built_firmware hw fw body small, some) in
    let d : (number_at (built hw fw body) 13 4 == length (built hw fw body) - 49) ≡ true = (let e = built_count hw fw body (omega (arith, fits)) in grind (arith, e, n)) in
    let e : nat_le (lowest_of (built hw fw body)) (highest_of (built hw fw body)) ≡ true = rw (built_lowest hw fw body hardware, built_highest hw fw body hardware) (grind arith) in
    rw (built_further hw fw body, a, b, built_start hw fw body, same_bytes (image_start 1), e, c, d, built_digest hw fw body, built_body hw fw body, same_bytes (sha256 body)) refl

-- so many bytes are drawn
bytes_long : (g left : ℕ) → length (bytes_from g left) ≡ left
unfolding bytes_from
bytes_long g zero = refl
bytes_long g (suc left) = ap suc (bytes_long (stepped g) left)

body_small : (seed : ℕ) → body_of seed < 8192
unfolding body_of
body_small seed = omega arith

firmware_some : (seed : ℕ) → 0 < firmware_of_seed seed
unfolding firmware_of_seed
firmware_some seed = omega arith

firmware_small : (seed : ℕ) → firmware_of_seed seed < 2 ^ 32
unfolding firmware_of_seed
firmware_small seed = omega arith

abbrev drawn_body : ℕ → List ℕ
drawn_body seed = bytes_from (stepped seed) (body_of seed)

image_is : (seed : ℕ) → image_of seed ≡ built 1 (firmware_of_seed seed) (drawn_body seed)
unfolding image_of file_of
image_is seed = rw (bytes_long (stepped seed) (body_of seed)) refl

pub image_files : AreImageFiles
unfolding size_of
image_files seed =
    let fits : 49 + length (drawn_body seed) ≤ max_image = omega (arith, bytes_long (stepped seed) (body_of seed), body_small seed) in
    record {
      file = rw (image_is seed) (built_is_image 1 (firmware_of_seed seed) (drawn_body seed) (lit< tt) (firmware_some seed) (firmware_small seed) fits);
      format = rw (image_is seed) (built_format 1 (firmware_of_seed seed) (drawn_body seed));
      lowest = rw (image_is seed) (built_lowest 1 (firmware_of_seed seed) (drawn_body seed) (lit< tt));
      highest = rw (image_is seed) (built_highest 1 (firmware_of_seed seed) (drawn_body seed) (lit< tt));
      firmware = rw (image_is seed) (built_firmware 1 (firmware_of_seed seed) (drawn_body seed) (firmware_small seed));
      size = rw (image_is seed) (built_length 1 (firmware_of_seed seed) (drawn_body seed) ∙ ap (λ (n : ℕ). 49 + n) (bytes_long (stepped seed) (body_of seed)));
    }
