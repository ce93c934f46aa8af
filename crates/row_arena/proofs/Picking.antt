-- The sum of after_pieces pieces, one after the other.
use Rattle.std.proofs.Common.{◌≡◌, ℕ, ◌+◌, ◌*◌, ◌<◌, ◌≤◌, List, [], ◌∷◌, ◌++◌, length, take, get_or, bit_xor, refl, sym, ap, ap₂, ◌∙◌, ◌-◌, ◌⊎◌, inl, inr, arith}
use Rattle.std.proofs.lemmas.List.{take_more, take_all}
use Rattle.std.proofs.lemmas.Simd.{length-zip2, get_or-zip2, length-chunk, get_or-chunk, get_or-put_chunk_below, get_or-put_chunk_at, get_or-put_chunk_above}
use lib.Lanes.{zip2, chunk, put_chunk}
use Rattle.row_arena.specs.Sums.{after_pieces}

after_pieces-more : (size : ℕ) (area : List ℕ) (i b : ℕ) (ks : List ℕ) (k : ℕ) → after_pieces size area i b (ks ++ k ∷ []) ≡ bit_xor (after_pieces size area i b ks) (get_or area (k * size + i) 0)
unfolding after_pieces
after_pieces-more size area i b [] k = refl
after_pieces-more size area i b (j ∷ ks) k = after_pieces-more size area i (bit_xor b (get_or area (j * size + i) 0)) ks k

pub picked_none : (size : ℕ) (area : List ℕ) (i b : ℕ) (ks : List ℕ) → after_pieces size area i b (take 0 ks) ≡ b
unfolding after_pieces
picked_none size area i b ks = refl

pub picked_all : (size : ℕ) (area : List ℕ) (i b n : ℕ) (ks : List ℕ) → length ks ≤ n → after_pieces size area i b (take n ks) ≡ after_pieces size area i b ks
picked_all size area i b n ks le = ap (after_pieces size area i b) (take_all n ks le)

-- some bytes of the sum of the first n picks
pub record Stripe (wide size at n : ℕ) (area part picks sum : List ℕ) : Type 0 where
  pub sized : length sum ≡ wide
  pub each : (j : ℕ) → j < wide → get_or sum j 0 ≡ after_pieces size area (at + j) (get_or part (at + j) 0) (take n picks)

pub stripe_none : (wide size at : ℕ) (area part picks : List ℕ) → at + wide ≤ length part → Stripe wide size at 0 area part picks (chunk at wide part)
stripe_none wide size at area part picks room = record {
  sized = length-chunk at wide part room;
  each = λ j lt. get_or-chunk at wide part j 0 lt ∙ sym (picked_none size area (at + j) (get_or part (at + j) 0) picks);
}

pub stripe_more : (wide size at n m k from : ℕ) (area part picks sum : List ℕ) → m ≡ n + 1 → k ≡ get_or picks n 0 → from ≡ k * size + at → n < length picks → from + wide ≤ length area
    → Stripe wide size at n area part picks sum → Stripe wide size at m area part picks (zip2 bit_xor sum (chunk from wide area))
stripe_more wide size at n m k from area part picks sum next is place lt room h =
    let long : length (chunk from wide area) ≡ wide = length-chunk from wide area room in
    record {
      sized = length-zip2 bit_xor sum (chunk from wide area) (h.sized ∙ sym long) ∙ h.sized;
      each = λ j below.
          let spot : from + j ≡ k * size + (at + j) = omega arith in
          get_or-zip2 bit_xor sum (chunk from wide area) j 0 0 0 (omega arith) (omega arith)
          ∙ ap₂ bit_xor (h.each j below) (get_or-chunk from wide area j 0 below ∙ ap (λ i. get_or area i 0) spot)
          ∙ sym (after_pieces-more size area (at + j) (get_or part (at + j) 0) (take n picks) k)
          ∙ ap (after_pieces size area (at + j) (get_or part (at + j) 0)) (ap (λ x. take n picks ++ x ∷ []) is ∙ sym (take_more picks n 0 lt) ∙ ap (λ t. take t picks) (sym next));
    }

-- the bytes of the sum of all picks, where they were written
pub stripe_here : (wide size at n : ℕ) (area part picks sum rest : List ℕ) → Stripe wide size at n area part picks sum → length picks ≤ n → at + wide ≤ length rest
    → (i : ℕ) → at ≤ i → i < at + wide → get_or (put_chunk at rest sum) i 0 ≡ after_pieces size area i (get_or part i 0) picks
stripe_here wide size at n area part picks sum rest h all room i low high =
    let long : length sum ≡ wide = h.sized in
    let j = i - at in
    let place : at + j ≡ i = omega arith in
    ap (λ x. get_or (put_chunk at rest sum) x 0) (sym place)
    ∙ get_or-put_chunk_at at rest sum j 0 (omega arith) (omega arith)
    ∙ h.each j (omega arith)
    ∙ ap (λ x. after_pieces size area x (get_or part x 0) (take n picks)) place
    ∙ picked_all size area i (get_or part i 0) n picks all

-- and those beside them
pub stripe_beside : (wide at : ℕ) (sum rest : List ℕ) → length sum ≡ wide
    → (i : ℕ) → (i < at) ⊎ (at + wide ≤ i) → get_or (put_chunk at rest sum) i 0 ≡ get_or rest i 0
stripe_beside wide at sum rest long i away = elim away [
  | inl low ↦ get_or-put_chunk_below at rest sum i 0 low
  | inr high ↦ get_or-put_chunk_above at rest sum i 0 (omega arith)
]

-- the sum of the first n picks in the first of so many lanes
pub record Summed (wide size n : ℕ) (area part picks sum : List ℕ) : Type 0 where
  pub sized : length sum ≡ wide
  pub each : (i : ℕ) → i < size → get_or sum i 0 ≡ after_pieces size area i (get_or part i 0) (take n picks)

pub summed_none : (wide size : ℕ) (area part picks sum : List ℕ) → length sum ≡ wide → ((i : ℕ) → i < size → get_or sum i 0 ≡ get_or part i 0)
    → Summed wide size 0 area part picks sum
summed_none wide size area part picks sum long same = record {
  sized = long;
  each = λ i lt. same i lt ∙ sym (picked_none size area i (get_or part i 0) picks);
}

pub summed_more : (wide size n m k : ℕ) (area part picks sum piece : List ℕ) → m ≡ n + 1 → k ≡ get_or picks n 0 → n < length picks → size ≤ wide → length piece ≡ wide
    → ((i : ℕ) → i < size → get_or piece i 0 ≡ get_or area (k * size + i) 0) → Summed wide size n area part picks sum
    → Summed wide size m area part picks (zip2 bit_xor sum piece)
summed_more wide size n m k area part picks sum piece is_m is lt fits long same h = record {
  sized = length-zip2 bit_xor sum piece (h.sized ∙ sym long) ∙ h.sized;
  each = λ i below.
      get_or-zip2 bit_xor sum piece i 0 0 0 (omega (arith, h.sized)) (omega arith)
      ∙ ap₂ bit_xor (h.each i below) (same i below)
      ∙ sym (after_pieces-more size area i (get_or part i 0) (take n picks) k)
      ∙ ap (after_pieces size area i (get_or part i 0)) (ap (λ x. take n picks ++ x ∷ []) is ∙ sym (take_more picks n 0 lt) ∙ ap (λ t. take t picks) (sym is_m));
}
