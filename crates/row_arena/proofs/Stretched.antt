-- The stretches of a list after one of them was written.
use Rattle.std.proofs.Common.{◌≡◌, ◌≢◌, ℕ, zero, suc, ◌+◌, ◌*◌, ◌<◌, ◌≤◌, List, ◌++◌, length, take, drop, get_or, sym, ap, ◌∙◌, inl, inr, arith, suc-mul, length-take-le}
use Rattle.std.proofs.lemmas.List.{take_at, drop_at, drop-take, take-append-le, drop-append-le, length-take, length-drop, get_or-take, get_or-drop}
use Rattle.std.proofs.lemmas.Slice.{take-put_mid_below, drop-put_mid}
use Rattle.std.proofs.lemmas.Nat.{mul-le}
use Rattle.std.proofs.lemmas.Bool.{cases_lt}
use borrow.Rule.Slice.PartMut.{put_mid, post_of}
use Rattle.row_arena.specs.Stretch.{stretch}

pub length-stretch : {A : Type 0} (k size : ℕ) (xs : List A) → k * size + size ≤ length xs → length (stretch k size xs) ≡ size
unfolding stretch
length-stretch k size xs room = length-take-le size (drop (k * size) xs) (omega (arith, length-drop (k * size) xs))

pub get_or-stretch : {A : Type 0} (k size i : ℕ) (xs : List A) (d : A) → i < size → get_or (stretch k size xs) i d ≡ get_or xs (k * size + i) d
unfolding stretch
get_or-stretch k size i xs d lt = get_or-take size (drop (k * size) xs) i d lt ∙ get_or-drop (k * size) xs i d

-- the stretch of a slice, as code takes it
pub stretch_is : {A : Type 0} (k size n : ℕ) (xs : List A) → n ≡ size → take n (drop (k * size) xs) ≡ stretch k size xs
unfolding stretch
stretch_is k size n xs e = ap (λ m. take m (drop (k * size) xs)) e

pub put_there : {A : Type 0} (k size n : ℕ) (xs ys : List A) → length ys ≡ size → k * size + size ≤ length xs → stretch k size (put_mid (k * size) n xs ys) ≡ ys
unfolding stretch
put_there k size n xs ys e room =
    let front : length (take (k * size) xs) ≡ k * size = length-take-le (k * size) xs (omega arith) in
    ap (λ l. take size l) (drop_at (take (k * size) xs) (ys ++ post_of (k * size) n xs) (k * size) front)
    ∙ take_at ys (post_of (k * size) n xs) size e

pub before : (j k size : ℕ) → j < k → j * size + size ≤ k * size
before j k size lt =
    let le : suc j * size ≤ k * size = mul-le (suc j) size k size (omega arith) (omega arith) in
    omega (arith, le, suc-mul j size)

pub put_others : {A : Type 0} (j k size n : ℕ) (xs ys : List A) → length ys ≡ size → n ≡ size → k * size + size ≤ length xs → j ≢ k → stretch j size (put_mid (k * size) n xs ys) ≡ stretch j size xs
unfolding stretch
put_others j k size n xs ys e f room ne = elim (cases_lt j k) [
  | inl lt ↦
      let le : j * size + size ≤ k * size = before j k size lt in
      sym (drop-take (j * size) size (put_mid (k * size) n xs ys))
      ∙ ap (λ l. drop (j * size) l) (take-put_mid_below (k * size) n xs ys (j * size + size) le (omega arith))
      ∙ drop-take (j * size) size xs
  | inr past ↦
      let le : k * size + size ≤ j * size = before k j size (omega arith) in
      ap (λ l. take size l) (drop-put_mid (k * size) n xs ys (j * size) (omega arith) (omega arith) (e ∙ sym f))
]

-- a stretch of full length is within
pub stretch_within : (k size : ℕ) (area : List ℕ) → length (stretch k size area) ≡ size → k * size + size ≤ length area
unfolding stretch
stretch_within k zero area e = omega arith
stretch_within k (suc size) area e = omega (arith, e, length-take (suc size) (drop (k * suc size) area), length-drop (k * suc size) area)

-- and stays where the list is longer
pub stretch_longer : (k size : ℕ) (area more : List ℕ) → length (stretch k size area) ≡ size → stretch k size (area ++ more) ≡ stretch k size area
unfolding stretch
stretch_longer k size area more e =
    let room : k * size + size ≤ length area = stretch_within k size area e in
    ap (λ l. take size l) (drop-append-le (k * size) area more (omega arith)) ∙ take-append-le size (drop (k * size) area) more (omega (arith, length-drop (k * size) area))
