-- The stretches of a list of which one was written, in two parts or whole.
use Rattle.std.proofs.Common.{◌≡◌, ◌≢◌, ℕ, suc, ◌+◌, ◌*◌, ◌<◌, ◌≤◌, List, ◌++◌, length, take, drop, get_or, bit_xor, refl, sym, ap, ap₂, ◌∙◌, inl, inr, arith, suc-mul, length-take-le, length-drop, append_assoc}
use Rattle.std.proofs.lemmas.List.{take_at, drop_at, drop-take, get_or-take, get_or-drop, take-append-le, drop-append-le, take-append-drop, take-take}
use Rattle.std.proofs.lemmas.Slice.{take-put_mid_below, drop-put_mid}
use Rattle.std.proofs.lemmas.Nat.{mul-le}
use Rattle.std.proofs.lemmas.Bool.{cases_lt}
use Rattle.std.proofs.lemmas.Simd.{length-zip2}
use lib.Lanes.{zip2}
use borrow.Rule.Slice.PartMut.{put_mid, post_of}
use Rattle.row_arena.specs.Rows.{line_in}
use Rattle.row_arena.specs.Stretch.{stretch}
use Rattle.row_arena.proofs.Stretched.{length-stretch, stretch_is, put_there, before, put_others}

-- a list that was cut in two, with a stretch of the first part written
pub cut_low : (a n mid : ℕ) (xs low high ys : List ℕ) → low ≡ take mid xs → high ≡ drop mid xs → a + n ≤ mid → mid ≤ length xs
    → put_mid a n low ys ++ high ≡ put_mid a n xs ys
cut_low a n mid xs low high ys is_low is_high le room =
    let whole : low ++ high ≡ xs = ap₂ (λ x y. x ++ y) is_low is_high ∙ take-append-drop mid xs in
    let long : length low ≡ mid = ap length is_low ∙ length-take-le mid xs room in
    let front : a ≤ length low = omega arith in
    let left : n ≤ length (drop a low) = omega (arith, length-drop a low) in
    let first : take a xs ≡ take a low = ap (λ l. take a l) (sym whole) ∙ take-append-le a low high front in
    let last : drop n (drop a xs) ≡ drop n (drop a low) ++ high =
    ap (λ l. drop n (drop a l)) (sym whole) ∙ ap (λ l. drop n l) (drop-append-le a low high front) ∙ drop-append-le n (drop a low) high left in
    append_assoc (take a low) (ys ++ drop n (drop a low)) high
    ∙ ap (λ l. take a low ++ l) (append_assoc ys (drop n (drop a low)) high)
    ∙ sym (ap₂ (λ x y. x ++ (ys ++ y)) first last)

-- and with the beginning of the second part written
pub cut_high : (a n : ℕ) (xs low high ys : List ℕ) → low ≡ take a xs → high ≡ drop a xs → low ++ (ys ++ drop n high) ≡ put_mid a n xs ys
cut_high a n xs low high ys is_low is_high = ap₂ (λ x y. x ++ (ys ++ drop n y)) is_low is_high

-- a stretch of either part
pub stretch_low : (k size n mid : ℕ) (xs low : List ℕ) → low ≡ take mid xs → n ≡ size → k * size + size ≤ mid → take n (drop (k * size) low) ≡ stretch k size xs
unfolding stretch
stretch_low k size n mid xs low is_low e le =
    ap₂ (λ m l. take m (drop (k * size) l)) e is_low
    ∙ sym (drop-take (k * size) size (take mid xs))
    ∙ ap (λ l. drop (k * size) l) (take-take (k * size + size) mid xs le)
    ∙ drop-take (k * size) size xs

pub stretch_high : (k size : ℕ) (xs high : List ℕ) → high ≡ drop (k * size) xs → take size high ≡ stretch k size xs
unfolding stretch
stretch_high k size xs high is_high = ap (λ l. take size l) is_high

-- what adding a stretch to another makes of a list
pub record Sums (into from size : ℕ) (old new : List ℕ) : Type 0 where
  pub there : stretch into size new ≡ zip2 bit_xor (stretch into size old) (stretch from size old)
  pub others : (j : ℕ) → j ≢ into → stretch j size new ≡ stretch j size old

-- the sum of two stretches, written over the first
sums : (into from size n : ℕ) (old new x y z : List ℕ) → into * size + size ≤ length old → from * size + size ≤ length old → n ≡ size
    → x ≡ stretch into size old → y ≡ stretch from size old → z ≡ zip2 bit_xor x y → new ≡ put_mid (into * size) n old z → Sums into from size old new
sums into from size n old new x y z room room' e is_x is_y is_z is =
    let a : length x ≡ size = ap length is_x ∙ length-stretch into size old room in
    let b : length y ≡ size = ap length is_y ∙ length-stretch from size old room' in
    let long : length z ≡ size = ap length is_z ∙ length-zip2 bit_xor x y (a ∙ sym b) ∙ a in
    record {
      there = ap (λ l. stretch into size l) is ∙ put_there into size n old z long room ∙ is_z ∙ ap₂ (λ s t. zip2 bit_xor s t) is_x is_y;
      others = λ j ne. ap (λ l. stretch j size l) is ∙ put_others j into size n old z long e room ne;
    }

pub sums_low : (into from size n : ℕ) (old low high z : List ℕ) → into < from → into * size + size ≤ length old → from * size + size ≤ length old → n ≡ size
    → low ≡ take (from * size) old → high ≡ drop (from * size) old → z ≡ zip2 bit_xor (take n (drop (into * size) low)) (take size high)
    → Sums into from size old (put_mid (into * size) n low z ++ high)
sums_low into from size n old low high z lt room room' e is_low is_high is_z =
    let le : into * size + size ≤ from * size = before into from size lt in
    sums into from size n old (put_mid (into * size) n low z ++ high) (take n (drop (into * size) low)) (take size high) z room room' e
    (stretch_low into size n (from * size) old low is_low e le) (stretch_high from size old high is_high) is_z
    (cut_low (into * size) n (from * size) old low high z is_low is_high (omega arith) (omega arith))

pub sums_high : (into from size n : ℕ) (old low high z : List ℕ) → from < into → into * size + size ≤ length old → from * size + size ≤ length old → n ≡ size
    → low ≡ take (into * size) old → high ≡ drop (into * size) old → z ≡ zip2 bit_xor (take size high) (take n (drop (from * size) low))
    → Sums into from size old (low ++ (z ++ drop size high))
sums_high into from size n old low high z lt room room' e is_low is_high is_z =
    let le : from * size + size ≤ into * size = before from into size lt in
    sums into from size size old (low ++ (z ++ drop size high)) (take size high) (take n (drop (from * size) low)) z room room' refl
    (stretch_high into size old high is_high) (stretch_low from size n (into * size) old low is_low e le) is_z
    (cut_high (into * size) size old low high z is_low is_high)

-- the line of a sum of stretches, as of the lists that were added
pub line_moved : (x y z a b s : List ℕ) → s ≡ zip2 bit_xor a b → x ≡ a → y ≡ b → z ≡ zip2 bit_xor x y → line_in z ≡ bit_xor (line_in x) (line_in y)
    → line_in s ≡ bit_xor (line_in a) (line_in b)
line_moved x y z a b s is_s is_x is_y is_z line =
    ap line_in (is_s ∙ sym (is_z ∙ ap₂ (λ p q. zip2 bit_xor p q) is_x is_y)) ∙ line ∙ ap₂ (λ p q. bit_xor (line_in p) (line_in q)) is_x is_y

pub low_others : (j into from size n : ℕ) (old low high z : List ℕ) → into < from → into * size + size ≤ length old → from * size + size ≤ length old → n ≡ size
    → low ≡ take (from * size) old → high ≡ drop (from * size) old → z ≡ zip2 bit_xor (take n (drop (into * size) low)) (take size high) → j ≢ into
    → stretch j size (put_mid (into * size) n low z ++ high) ≡ stretch j size old
low_others j into from size n old low high z lt a b e f g h ne = (sums_low into from size n old low high z lt a b e f g h).others j ne

pub high_others : (j into from size n : ℕ) (old low high z : List ℕ) → from < into → into * size + size ≤ length old → from * size + size ≤ length old → n ≡ size
    → low ≡ take (into * size) old → high ≡ drop (into * size) old → z ≡ zip2 bit_xor (take size high) (take n (drop (from * size) low)) → j ≢ into
    → stretch j size (low ++ (z ++ drop size high)) ≡ stretch j size old
high_others j into from size n old low high z lt a b e f g h ne = (sums_high into from size n old low high z lt a b e f g h).others j ne

pub ruleset summed = (sums_low, sums_high, low_others, high_others, before, stretch_low, stretch_high, line_moved)

-- what is written over a stretch is there, and the others stay
pub put_is : (k size n : ℕ) (xs ys from : List ℕ) → ys ≡ from → length from ≡ size → k * size + size ≤ length xs → stretch k size (put_mid (k * size) n xs ys) ≡ from
put_is k size n xs ys from is long room = put_there k size n xs ys (ap length is ∙ long) room ∙ is

pub put_beside : (j k size n : ℕ) (xs ys from : List ℕ) → ys ≡ from → length from ≡ size → n ≡ size → k * size + size ≤ length xs → j ≢ k → stretch j size (put_mid (k * size) n xs ys) ≡ stretch j size xs
put_beside j k size n xs ys from is long e room ne = put_others j k size n xs ys (ap length is ∙ long) e room ne

pub ruleset written = (put_is, put_beside, put_there, put_others, stretch_is, length-stretch)
