-- Adding in lanes, and plainly.
use Rattle.std.proofs.Common.{◌≡◌, ℕ, ◌+◌, ◌-◌, ◌<◌, ◌≤◌, List, length, get_or, set, bit_xor, refl, sym, ap, ap₂, ◌∙◌, inl, inr, arith, get_or-set_same, get_or-set_other, length-set}
use Rattle.std.proofs.lemmas.Bool.{cases_lt, cases_eq}
use Rattle.std.proofs.lemmas.List.{ext_get_or}
use Rattle.std.proofs.lemmas.Simd.{length-zip2, get_or-zip2, length-chunk, get_or-chunk, length-put_chunk, get_or-put_chunk_below, get_or-put_chunk_at, get_or-put_chunk_above}
use lib.Lanes.{zip2, chunk, put_chunk}
use Rattle.row_arena.specs.Steps.{AddedTo}

pub added_none : (old from : List ℕ) → AddedTo 0 old from old
added_none old from = record { sized = refl; done = λ k lt. absurd (omega arith); left = λ k le. refl }

-- n lanes more
pub added_lanes : (at n m : ℕ) (old from cur : List ℕ) → m ≡ at + n → length cur ≡ length from → m ≤ length from → AddedTo at old from cur
    → AddedTo m old from (put_chunk at cur (zip2 bit_xor (chunk at n cur) (chunk at n from)))
added_lanes at n m old from cur is same room h =
    let a : length (chunk at n cur) ≡ n = length-chunk at n cur (omega arith) in
    let b : length (chunk at n from) ≡ n = length-chunk at n from (omega arith) in
    let s : List ℕ = zip2 bit_xor (chunk at n cur) (chunk at n from) in
    let long : length s ≡ n = length-zip2 bit_xor (chunk at n cur) (chunk at n from) (a ∙ sym b) ∙ a in
    record {
      sized = length-put_chunk at cur s ∙ h.sized;
      done = λ k lt. elim (cases_lt k at) [
        | inl low ↦ get_or-put_chunk_below at cur s k 0 low ∙ h.done k low
        | inr high ↦
            let j : ℕ = k - at in
            let place : at + j ≡ k = omega arith in
            ap (λ i. get_or (put_chunk at cur s) i 0) (sym place)
            ∙ get_or-put_chunk_at at cur s j 0 (omega arith) (omega arith)
            ∙ get_or-zip2 bit_xor (chunk at n cur) (chunk at n from) j 0 0 0 (omega arith) (omega arith)
            ∙ ap₂ bit_xor (get_or-chunk at n cur j 0 (omega arith)) (get_or-chunk at n from j 0 (omega arith))
            ∙ ap (λ i. bit_xor (get_or cur i 0) (get_or from i 0)) place
            ∙ ap (λ x. bit_xor x (get_or from k 0)) (h.left k high)
      ];
      left = λ k le. get_or-put_chunk_above at cur s k 0 (omega arith) ∙ h.left k (omega arith);
    }

-- one place more
pub added_one : (i m : ℕ) (old from cur : List ℕ) → m ≡ i + 1 → i < length cur → AddedTo i old from cur
    → AddedTo m old from (set cur i (bit_xor (get_or cur i 0) (get_or from i 0)))
added_one i m old from cur is lt h =
    let v : ℕ = bit_xor (get_or cur i 0) (get_or from i 0) in
    record {
      sized = length-set cur i v ∙ h.sized;
      done = λ k below. elim (cases_eq k i) [
        | inl same ↦
            ap (λ j. get_or (set cur i v) j 0) same ∙ get_or-set_same cur i v 0 lt
            ∙ ap (λ x. bit_xor x (get_or from i 0)) (h.left i (omega arith))
            ∙ ap (λ j. bit_xor (get_or old j 0) (get_or from j 0)) (sym same)
        | inr other ↦ get_or-set_other cur i k v 0 other ∙ h.done k (omega arith)
      ];
      left = λ k le. get_or-set_other cur i k v 0 (λ e. absurd (omega arith)) ∙ h.left k (omega arith);
    }

-- all places
pub added_all : (n : ℕ) (old from new : List ℕ) → length old ≡ length from → length from ≤ n → AddedTo n old from new → new ≡ zip2 bit_xor old from
added_all n old from new same le h =
    let long : length (zip2 bit_xor old from) ≡ length old = length-zip2 bit_xor old from same in
    ext_get_or 0 new (zip2 bit_xor old from) (h.sized ∙ sym long) (λ i lt.
    h.done i (omega arith) ∙ sym (get_or-zip2 bit_xor old from i 0 0 0 (omega arith) (omega arith)))
