-- The columns of a word, listed lowest first, and the sum of their pieces.
use Rattle.std.proofs.Common.{◌≡◌, ◌≢◌, ℕ, zero, suc, ◌+◌, ◌-◌, ◌*◌, ◌/◌, ◌%◌, ◌^◌, ◌<◌, ◌≤◌, ◌==◌, cond, List, [], ◌∷◌, ◌++◌, length, get_or, set, take, drop, bit_and, bit_xor, refl, sym, ap, ap₂, ◌∙◌, subst, inl, inr, length-take, length-drop, length-set, get_or-set_same, get_or-set_other, lit<, arith}
use Rattle.std.specs.Int.{bit_at, trailing_zeros, w64}
use Rattle.std.specs.Int.Bits.{and_self}
use Rattle.std.specs.Int.Count.{ones, ones_step}
use Rattle.std.proofs.lemmas.Bool.{cases_eq, cases_lt}
use Rattle.std.proofs.lemmas.Nat.{and_block, and_le_r, mul-le, ones-le}
use Rattle.std.proofs.lemmas.Nat.Bits.{bit_at_lowest, bit_at-suc, bit_at-zero, bit_at_above, bit_at-trailing_zeros}
use Rattle.std.proofs.lemmas.List.{get_or-take, get_or-drop, take_more_set, ext_get_or}
use Rattle.row_arena.specs.Sums.{after_pieces}
use Rattle.frag_model.specs.Fragments.{xor_bytes, xor_all, pieces_at}
use Rattle.frag_model.proofs.Parts.{get_or-xor_bytes, length-xor_bytes}
use Rattle.frag_encoder.specs.Encoding.{pieces_of}
use Rattle.frag_encoder.proofs.Pieces.{xor_bytes_assoc, length-pieces, get_or-pieces, none_at_no_column, xor_bytes_with_zeros}

-- ---- a word without its lowest column

odd_less : (left : ℕ) → left % 2 ≡ 1 → bit_and left (left - 1) ≡ left / 2 * 2 ^ 1 + 0
odd_less left odd =
    let m : ℕ = left / 2 in
    let here : left ≡ m * 2 ^ 1 + 1 = omega arith in
    let less : left - 1 ≡ m * 2 ^ 1 + 0 = omega arith in
    ap₂ bit_and here less ∙ and_block 1 m m 1 0 (lit< tt) (lit< tt) ∙ ap (λ a. a * 2 ^ 1 + 0) (and_self m)

even_less : (left : ℕ) → left % 2 ≡ 0 → left / 2 ≢ 0 → bit_and left (left - 1) ≡ bit_and (left / 2) (left / 2 - 1) * 2 ^ 1 + 0
even_less left even some =
    let m : ℕ = left / 2 in
    let here : left ≡ m * 2 ^ 1 + 0 = omega arith in
    let less : left - 1 ≡ (m - 1) * 2 ^ 1 + 1 = omega arith in
    ap₂ bit_and here less ∙ and_block 1 m (m - 1) 0 1 (lit< tt) (lit< tt)

some_bit : (m t : ℕ) → bit_at m t ≡ 1 → m ≢ 0
some_bit m t on none = absurd (omega (arith, on, ap (λ n. bit_at n t) none, bit_at-zero t))

-- where the lowest bit is no unit, the number without it has the half without it for its half
record IsHigher (t left : ℕ) : Type 0 where
  even : left % 2 ≡ 0
  later : bit_at (left / 2) t ≡ 1
  none : bit_and left (left - 1) % 2 ≡ 0
  half : bit_and left (left - 1) / 2 ≡ bit_and (left / 2) (left / 2 - 1)

higher : (t left : ℕ) → bit_at left (suc t) ≡ 1 → ((i : ℕ) → i < suc t → bit_at left i ≡ 0) → IsHigher t left
higher t left on zeros =
    let even : left % 2 ≡ 0 = sym (bit_at_lowest left) ∙ zeros 0 (omega arith) in
    let later : bit_at (left / 2) t ≡ 1 = sym (bit_at-suc left t) ∙ on in
    let less = even_less left even (some_bit (left / 2) t later) in
    record { even = even; later = later; none = omega (arith, less); half = omega (arith, less) }

-- its piece stands before those of the others
lowest_first : (t left : ℕ) (block : List (List ℕ)) → bit_at left t ≡ 1 → ((i : ℕ) → i < t → bit_at left i ≡ 0) → t < length block
    → pieces_at left block ≡ get_or block t [] ∷ pieces_at (bit_and left (left - 1)) block
unfolding pieces_at
lowest_first t left [] on zeros lt = absurd (omega arith)
lowest_first zero left (p ∷ ps) on zeros lt =
    let odd : left % 2 ≡ 1 = sym (bit_at_lowest left) ∙ on in
    let next : ℕ = bit_and left (left - 1) in
    let even : next % 2 ≡ 0 = omega (arith, odd_less left odd) in
    let half : next / 2 ≡ left / 2 = omega (arith, odd_less left odd) in
    ap (λ r. cond (r == 1) (p ∷ pieces_at (left / 2) ps) (pieces_at (left / 2) ps)) odd
    ∙ ap (λ l. p ∷ l) (sym (ap₂ (λ r h. cond (r == 1) (p ∷ pieces_at h ps) (pieces_at h ps)) even half))
lowest_first (suc t) left (p ∷ ps) on zeros lt =
    let m : ℕ = left / 2 in
    let has = higher t left on zeros in
    ap (λ r. cond (r == 1) (p ∷ pieces_at m ps) (pieces_at m ps)) has.even
    ∙ lowest_first t m ps has.later (λ i below. sym (bit_at-suc left i) ∙ zeros (suc i) (omega arith)) (omega arith)
    ∙ ap (λ l. get_or ps t [] ∷ l) (sym (ap₂ (λ r h. cond (r == 1) (p ∷ pieces_at h ps) (pieces_at h ps)) has.none has.half))

one_out : (t left : ℕ) → bit_at left t ≡ 1 → ((i : ℕ) → i < t → bit_at left i ≡ 0) → ones left ≡ suc (ones (bit_and left (left - 1)))
one_out zero left on zeros =
    let odd : left % 2 ≡ 1 = sym (bit_at_lowest left) ∙ on in
    let next : ℕ = bit_and left (left - 1) in
    let even : next % 2 ≡ 0 = omega (arith, odd_less left odd) in
    let half : next / 2 ≡ left / 2 = omega (arith, odd_less left odd) in
    omega (arith, ones_step left, odd, ones_step next, even, ap ones half)
one_out (suc t) left on zeros =
    let has = higher t left on zeros in
    omega (
      arith,
      ones_step left,
      has.even,
      ones_step (bit_and left (left - 1)),
      has.none,
      ap ones has.half,
      one_out t (left / 2) has.later (λ i below. sym (bit_at-suc left i) ∙ zeros (suc i) (omega arith)),
    )

-- ---- a sum with pieces added, one after another

unfoldable pub summed : ℕ → List ℕ → List ℕ → List ℕ → List ℕ
summed size bytes sum [] = sum
summed size bytes sum (k ∷ ks) = summed size bytes (xor_bytes sum (take size (drop (k * size) bytes))) ks

get_or-summed : (size : ℕ) (bytes sum ks : List ℕ) (i : ℕ) → i < size → get_or (summed size bytes sum ks) i 0 ≡ after_pieces size bytes i (get_or sum i 0) ks
unfolding after_pieces summed
get_or-summed size bytes sum [] i lt = refl
get_or-summed size bytes sum (k ∷ ks) i lt =
    let piece : List ℕ = take size (drop (k * size) bytes) in
    let byte : get_or piece i 0 ≡ get_or bytes (k * size + i) 0 = get_or-take size (drop (k * size) bytes) i 0 lt ∙ get_or-drop (k * size) bytes i 0 in
    get_or-summed size bytes (xor_bytes sum piece) ks i lt
    ∙ ap (λ b. after_pieces size bytes i b ks) (get_or-xor_bytes sum piece i ∙ ap (bit_xor (get_or sum i 0)) byte)

summed_more : (size : ℕ) (bytes sum ks : List ℕ) (k : ℕ) → summed size bytes sum (ks ++ k ∷ []) ≡ xor_bytes (summed size bytes sum ks) (take size (drop (k * size) bytes))
unfolding summed
summed_more size bytes sum [] k = refl
summed_more size bytes sum (j ∷ ks) k = summed_more size bytes (xor_bytes sum (take size (drop (j * size) bytes))) ks k

summed_none : (size : ℕ) (bytes sum picks : List ℕ) → summed size bytes sum (take 0 picks) ≡ sum
unfolding summed
summed_none size bytes sum picks = refl

length-summed : (size : ℕ) (bytes sum ks : List ℕ) → length sum ≡ size → ((n : ℕ) → n < length ks → get_or ks n 0 * size + size ≤ length bytes)
    → length (summed size bytes sum ks) ≡ size
unfolding summed
length-summed size bytes sum [] sized inside = sized
length-summed size bytes sum (k ∷ ks) sized inside =
    let piece : List ℕ = take size (drop (k * size) bytes) in
    let room : k * size + size ≤ length bytes = inside 0 (omega arith) in
    let long : length piece ≡ size = omega (arith, length-take size (drop (k * size) bytes), length-drop (k * size) bytes, room) in
    length-summed size bytes (xor_bytes sum piece) ks (length-xor_bytes sum piece (sized ∙ sym long) ∙ sized) (λ n lt. inside (suc n) (omega arith))

-- ---- listing

-- the pieces that are listed, added, and those at the columns that are left make the total
pub record Listed (size word left count columns : ℕ) (bytes sum picks : List ℕ) : Type 0 where
  pub value : xor_bytes (summed size bytes sum (take count picks)) (xor_all size (pieces_at left (pieces_of columns size bytes)))
      ≡ xor_bytes sum (xor_all size (pieces_at word (pieces_of columns size bytes)))
  pub below : left < 2 ^ columns
  pub room : length picks ≡ 64
  pub inside : (n : ℕ) → n < count → get_or picks n 0 * size + size ≤ length bytes
  pub counted : count + ones left ≡ ones word

pub listing_begins : (size word columns : ℕ) (bytes sum picks : List ℕ) → word < 2 ^ columns → length picks ≡ 64 → Listed size word word 0 columns bytes sum picks
listing_begins size word columns bytes sum picks below room = record {
  value = ap (λ s. xor_bytes s (xor_all size (pieces_at word (pieces_of columns size bytes)))) (summed_none size bytes sum picks);
  below = below;
  room = room;
  inside = λ n lt. absurd (omega arith);
  counted = omega arith;
}

-- there is room for one more
pub listing_fits : (size word left count columns : ℕ) (bytes sum picks : List ℕ) → 0 < left → left < 2 ^ 64 → word < 2 ^ 64
    → Listed size word left count columns bytes sum picks → count < 64
listing_fits size word left count columns bytes sum picks some small most h =
    let lowest = bit_at-trailing_zeros w64 left some small in
    omega (arith, h.counted, one_out (trailing_zeros w64 left) left lowest.1 lowest.2, ones-le 64 word most)

one_more : (size : ℕ) (piece : List ℕ) (pieces : List (List ℕ)) → xor_all size (piece ∷ pieces) ≡ xor_bytes piece (xor_all size pieces)
unfolding xor_all
one_more size piece pieces = refl

pub listing_more : (size word left next t count m columns : ℕ) (bytes sum picks : List ℕ) → 0 < left → left < 2 ^ 64 → word < 2 ^ 64 → t ≡ trailing_zeros w64 left
    → next ≡ bit_and left (left - 1) → m ≡ count + 1 → length bytes ≡ columns * size → Listed size word left count columns bytes sum picks
    → Listed size word next m columns bytes sum (set picks count t)
listing_more size word left next t count m columns bytes sum picks some small most is_t is_next is_m whole h =
    let lowest = bit_at-trailing_zeros w64 left some small in
    let on : bit_at left t ≡ 1 = ap (λ i. bit_at left i) is_t ∙ lowest.1 in
    let zeros : (i : ℕ) → i < t → bit_at left i ≡ 0 = λ i lt. lowest.2 i (omega arith) in
    let all : List (List ℕ) = pieces_of columns size bytes in
    let piece : List ℕ = take size (drop (t * size) bytes) in
    let place : count < 64 = listing_fits size word left count columns bytes sum picks some small most h in
    let column : t < columns = elim (cases_lt t columns) [ inl lt ↦ lt | inr past ↦ absurd (omega (arith, on, bit_at_above left columns t h.below past)) ] in
    let there : t < length all = omega (arith, length-pieces columns size bytes) in
    let first : pieces_at left all ≡ piece ∷ pieces_at next all =
    lowest_first t left all on zeros there ∙ ap₂ (λ p l. p ∷ pieces_at l all) (get_or-pieces t columns size bytes column) (sym is_next) in
    let before : List ℕ = summed size bytes sum (take count picks) in
    let added : summed size bytes sum (take m (set picks count t)) ≡ xor_bytes before piece =
    ap (λ n. summed size bytes sum (take n (set picks count t))) is_m
    ∙ ap (λ ks. summed size bytes sum ks) (take_more_set picks count t (omega (arith, h.room)))
    ∙ summed_more size bytes sum (take count picks) t in
    record {
      value = ap (λ s. xor_bytes s (xor_all size (pieces_at next all))) added
          ∙ xor_bytes_assoc before piece (xor_all size (pieces_at next all))
          ∙ ap (λ bs. xor_bytes before bs) (sym (ap (λ ps. xor_all size ps) first ∙ one_more size piece (pieces_at next all)))
          ∙ h.value;
      below = omega (arith, h.below, is_next, and_le_r left (left - 1));
      room = length-set picks count t ∙ h.room;
      inside = λ n lt. elim (cases_eq n count) [
        | inl last ↦
            let here : get_or (set picks count t) n 0 ≡ t = ap (λ k. get_or (set picks count t) k 0) last ∙ get_or-set_same picks count t 0 (omega (arith, h.room)) in
            let ends : t * size + size ≤ length bytes = omega (arith, mul-le (t + 1) size columns size (omega arith) (omega arith), whole) in
            subst (λ k. k * size + size ≤ length bytes) (sym here) ends
        | inr other ↦ subst (λ k. k * size + size ≤ length bytes) (sym (get_or-set_other picks count n t 0 other)) (h.inside n (omega arith))
      ];
      counted = omega (arith, h.counted, is_m, one_out t left on zeros, ap ones is_next);
    }

-- what is listed when no column is left
pub listed_inside : (size word left count columns : ℕ) (bytes sum picks : List ℕ) → Listed size word left count columns bytes sum picks
    → (n : ℕ) → n < length (take count picks) → get_or (take count picks) n 0 * size + size ≤ length bytes
listed_inside size word left count columns bytes sum picks h n lt =
    let lower : n < count = omega (arith, length-take count picks) in
    subst (λ k. k * size + size ≤ length bytes) (sym (get_or-take count picks n 0 lower)) (h.inside n lower)

pub listing_done : (size word left count columns : ℕ) (bytes sum picks rest : List ℕ) → left ≡ 0 → length sum ≡ size → length rest ≡ size
    → ((i : ℕ) → i < size → get_or rest i 0 ≡ after_pieces size bytes i (get_or sum i 0) (take count picks)) → Listed size word left count columns bytes sum picks
    → rest ≡ xor_bytes sum (xor_all size (pieces_at word (pieces_of columns size bytes)))
unfolding xor_all
listing_done size word left count columns bytes sum picks rest none sized long is h =
    let ks : List ℕ = take count picks in
    let all : List (List ℕ) = pieces_of columns size bytes in
    let total : List ℕ = summed size bytes sum ks in
    let whole : length total ≡ size = length-summed size bytes sum ks sized (listed_inside size word left count columns bytes sum picks h) in
    let same : rest ≡ total = ext_get_or 0 rest total (long ∙ sym whole) (λ i lt.
    let inside : i < size = omega (arith, long) in
    is i inside ∙ sym (get_or-summed size bytes sum ks i inside)) in
    let empty : pieces_at left all ≡ [] = ap (λ l. pieces_at l all) none ∙ none_at_no_column all in
    same ∙ sym (ap (λ ps. xor_bytes total (xor_all size ps)) empty ∙ xor_bytes_with_zeros size total whole) ∙ h.value
