-- Taking known columns out of a line, word by word.
use Rattle.std.proofs.Common.{◌≡◌, ◌≢◌, ℕ, zero, suc, ◌+◌, ◌-◌, ◌*◌, ◌/◌, ◌%◌, ◌^◌, ◌<◌, ◌≤◌, List, [], ◌∷◌, ◌++◌, length, take, get_or, set, min, bit_xor, bit_and, refl, sym, ap, ap₂, ◌∙◌, subst, inl, inr, arith, w64, lit<, pow-suc, length-set, get_or-set_same, get_or-set_other}
use Rattle.std.specs.Int.{bit_at, trailing_zeros}
use Rattle.std.specs.Int.Bits.{and_self, xor_assoc, xor_self, xor_zero_r}
use Rattle.std.specs.Int.Count.{ones}
use Rattle.std.proofs.lemmas.Bool.{cases_lt, cases_eq}
use Rattle.std.proofs.lemmas.Nat.{xor_lt, pow_pos, pow_below, and_block, xor_block}
use Rattle.std.proofs.lemmas.Nat.Bits.{bit_at_lowest, bit_at-suc, bit_at-lt, bit_at-zero, bit_at_and, bit_at_xor, bit_at-pow_same, bit_at-pow_other, bit_at-trailing_zeros, same_from_bits}
use Rattle.std.proofs.lemmas.List.{take_more_set, get_or_past, set-set, set-get_or}
use Rattle.row_arena.specs.Rows.{line_in}
use Rattle.row_arena.specs.Sums.{after_flips}
use Rattle.row_arena.proofs.Bits.{AreWords, bit_of_word}
use Rattle.row_arena.proofs.Ones.{one_less}

pub after_flips-more : (l : ℕ) (cs : List ℕ) (c : ℕ) → after_flips l (cs ++ c ∷ []) ≡ bit_xor (after_flips l cs) (2 ^ c)
unfolding after_flips
after_flips-more l [] c = refl
after_flips-more l (d ∷ cs) c = after_flips-more (bit_xor l (2 ^ d)) cs c

pub after_flips_none : (l : ℕ) (cs : List ℕ) → l ≡ after_flips l (take 0 cs)
unfolding after_flips
after_flips_none l cs = refl

-- a word with one bit after_flips, in its list
pub words_set : (words : List ℕ) (i t : ℕ) → t < 64 → AreWords words → AreWords (set words i (bit_xor (get_or words i 0) (2 ^ t)))
words_set words i t lt small k = elim (cases_eq k i) [
  | inl same ↦ elim (cases_lt i (length words)) [
    | inl inside ↦
        subst (λ w. w < 2 ^ 64) (sym (ap (λ n. get_or (set words i (bit_xor (get_or words i 0) (2 ^ t))) n 0) same ∙ get_or-set_same words i (bit_xor (get_or words i 0) (2 ^ t)) 0 inside))
        (xor_lt 64 (get_or words i 0) (2 ^ t) (small i) (pow_below t 64 lt))
    | inr past ↦
        let none : get_or (set words i (bit_xor (get_or words i 0) (2 ^ t))) k 0 ≡ 0 =
        get_or_past (set words i (bit_xor (get_or words i 0) (2 ^ t))) k 0 (omega (arith, length-set words i (bit_xor (get_or words i 0) (2 ^ t)))) in
        subst (λ w. w < 2 ^ 64) (sym none) (pow_pos 64)
  ]
  | inr other ↦ subst (λ w. w < 2 ^ 64) (sym (get_or-set_other words i k (bit_xor (get_or words i 0) (2 ^ t)) 0 other)) (small k)
]

pub line_flipped : (words : List ℕ) (i t c : ℕ) → c ≡ 64 * i + t → t < 64 → i < length words → AreWords words
    → line_in (set words i (bit_xor (get_or words i 0) (2 ^ t))) ≡ bit_xor (line_in words) (2 ^ c)
line_flipped words i t c is lt inside small =
    let v : ℕ = bit_xor (get_or words i 0) (2 ^ t) in
    same_from_bits (line_in (set words i v)) (bit_xor (line_in words) (2 ^ c)) (λ k.
    let left : bit_at (line_in (set words i v)) k ≡ bit_at (get_or (set words i v) (k / 64) 0) (k % 64) = bit_of_word (set words i v) k (words_set words i t lt small) in
    let right : bit_at (bit_xor (line_in words) (2 ^ c)) k ≡ (bit_at (get_or words (k / 64) 0) (k % 64) + bit_at (2 ^ c) k) % 2 =
    bit_at_xor (line_in words) (2 ^ c) k ∙ ap (λ b. (b + bit_at (2 ^ c) k) % 2) (bit_of_word words k small) in
    left ∙ elim (cases_eq (k / 64) i) [
      | inl here ↦
          ap (λ n. bit_at (get_or (set words i v) n 0) (k % 64)) here ∙ ap (λ w. bit_at w (k % 64)) (get_or-set_same words i v 0 inside)
          ∙ bit_at_xor (get_or words i 0) (2 ^ t) (k % 64)
          ∙ ap₂ (λ n b. (bit_at (get_or words n 0) (k % 64) + b) % 2) (sym here) (elim (cases_eq (k % 64) t) [
            | inl spot ↦
                let whole : k ≡ c = omega arith in
                ap (λ n. bit_at (2 ^ t) n) spot ∙ bit_at-pow_same t ∙ sym (ap (λ n. bit_at (2 ^ c) n) whole ∙ bit_at-pow_same c)
            | inr apart ↦
                let ne : k ≢ c = λ e. apart (omega arith) in
                bit_at-pow_other t (k % 64) apart ∙ sym (bit_at-pow_other c k ne)
          ])
          ∙ sym right
      | inr away ↦
          let ne : k ≢ c = λ e. away (omega arith) in
          let none : bit_at (2 ^ c) k ≡ 0 = bit_at-pow_other c k ne in
          ap (λ w. bit_at w (k % 64)) (get_or-set_other words i (k / 64) v 0 away)
          ∙ sym (right ∙ (omega (arith, none, bit_at-lt (get_or words (k / 64) 0) (k % 64))))
    ])

-- a number and the one before it share all its bits but the lowest
lowest_out : (t left : ℕ) → bit_at left t ≡ 1 → ((i : ℕ) → i < t → bit_at left i ≡ 0) → bit_and left (left - 1) ≡ bit_xor left (2 ^ t)
lowest_out zero left on before =
    let m : ℕ = left / 2 in
    let odd : left % 2 ≡ 1 = sym (bit_at_lowest left) ∙ on in
    let here : left ≡ m * 2 ^ 1 + 1 = omega arith in
    let less : left - 1 ≡ m * 2 ^ 1 + 0 = omega arith in
    ap₂ bit_and here less ∙ and_block 1 m m 1 0 (lit< tt) (lit< tt)
    ∙ ap (λ a. a * 2 ^ 1 + 0) (and_self m ∙ sym (xor_zero_r m))
    ∙ sym (ap (λ n. bit_xor n 1) here ∙ xor_block 1 m 0 1 1 (lit< tt) (lit< tt))
lowest_out (suc t) left on before =
    let m : ℕ = left / 2 in
    let even : left % 2 ≡ 0 = sym (bit_at_lowest left) ∙ before 0 (omega arith) in
    let later : bit_at m t ≡ 1 = sym (bit_at-suc left t) ∙ on in
    let some : m ≢ 0 = λ none. absurd (omega (arith, later, ap (λ n. bit_at n t) none, bit_at-zero t)) in
    let here : left ≡ m * 2 ^ 1 + 0 = omega arith in
    let less : left - 1 ≡ (m - 1) * 2 ^ 1 + 1 = omega arith in
    let power : 2 ^ suc t ≡ 2 ^ t * 2 ^ 1 + 0 = omega (arith, pow-suc 2 t) in
    ap₂ bit_and here less ∙ and_block 1 m (m - 1) 0 1 (lit< tt) (lit< tt)
    ∙ ap (λ a. a * 2 ^ 1 + 0) (lowest_out t m later (λ i lt. sym (bit_at-suc left i) ∙ before (suc i) (omega arith)))
    ∙ sym (ap₂ bit_xor here power ∙ xor_block 1 m (2 ^ t) 0 0 (lit< tt) (lit< tt))

-- how far picking has come: words below i have no known column, and left has the columns of word i that are still there
pub record Picking (i left count : ℕ) (old line known picks : List ℕ) : Type 0 where
  pub sized : length line ≡ length old
  pub long : length known ≡ length old
  pub room : 64 * length old ≤ length picks
  pub small : AreWords line
  pub same : line_in line ≡ after_flips (line_in old) (take count picks)
  pub told : (n : ℕ) → n < count → bit_at (line_in known) (get_or picks n 0) ≡ 1
  pub counted : count + ones (line_in line) ≡ ones (line_in old)
  pub cleared : (w : ℕ) → w < i → bit_and (get_or line w 0) (get_or known w 0) ≡ 0
  pub here : left ≡ bit_and (get_or line i 0) (get_or known i 0)
  pub few : count ≤ 64 * (i + 1)
  pub later : (t : ℕ) → bit_at left t ≡ 1 → count ≤ 64 * i + t

and_flip : (a k t : ℕ) → bit_at (bit_and a k) t ≡ 1 → bit_and (bit_xor a (2 ^ t)) k ≡ bit_xor (bit_and a k) (2 ^ t)
and_flip a k t on = same_from_bits (bit_and (bit_xor a (2 ^ t)) k) (bit_xor (bit_and a k) (2 ^ t)) (λ j.
    let left : bit_at (bit_and (bit_xor a (2 ^ t)) k) j ≡ min ((bit_at a j + bit_at (2 ^ t) j) % 2) (bit_at k j) =
    bit_at_and (bit_xor a (2 ^ t)) k j ∙ ap (λ b. min b (bit_at k j)) (bit_at_xor a (2 ^ t) j) in
    let right : bit_at (bit_xor (bit_and a k) (2 ^ t)) j ≡ (min (bit_at a j) (bit_at k j) + bit_at (2 ^ t) j) % 2 =
    bit_at_xor (bit_and a k) (2 ^ t) j ∙ ap (λ b. (b + bit_at (2 ^ t) j) % 2) (bit_at_and a k j) in
    left ∙ elim (cases_eq j t) [
      | inl spot ↦
          let one : bit_at (2 ^ t) j ≡ 1 = ap (λ n. bit_at (2 ^ t) n) spot ∙ bit_at-pow_same t in
          let both : min (bit_at a j) (bit_at k j) ≡ 1 = sym (bit_at_and a k j) ∙ ap (λ n. bit_at (bit_and a k) n) spot ∙ on in
          omega (arith, one, both, bit_at-lt a j, bit_at-lt k j)
      | inr apart ↦
          let none : bit_at (2 ^ t) j ≡ 0 = bit_at-pow_other t j apart in
          omega (arith, none, bit_at-lt a j, bit_at-lt k j)
    ] ∙ sym right)

-- the words below i are done
pub record PickedTo (i count : ℕ) (old line known picks : List ℕ) : Type 0 where
  pub sized : length line ≡ length old
  pub long : length known ≡ length old
  pub room : 64 * length old ≤ length picks
  pub small : AreWords line
  pub same : line_in line ≡ after_flips (line_in old) (take count picks)
  pub told : (n : ℕ) → n < count → bit_at (line_in known) (get_or picks n 0) ≡ 1
  pub counted : count + ones (line_in line) ≡ ones (line_in old)
  pub cleared : (w : ℕ) → w < i → bit_and (get_or line w 0) (get_or known w 0) ≡ 0
  pub few : count ≤ 64 * i

pub pick_begin : (line known picks : List ℕ) → AreWords line → length line ≡ length known → 64 * length line ≤ length picks → PickedTo 0 0 line line known picks
pick_begin line known picks small same room = record {
  sized = refl;
  long = sym same;
  room = room;
  small = small;
  same = after_flips_none (line_in line) picks;
  told = λ n lt. absurd (omega arith);
  counted = omega arith;
  cleared = λ w lt. absurd (omega arith);
  few = omega arith;
}

pub pick_word : (i count : ℕ) (old line known picks : List ℕ) → PickedTo i count old line known picks
    → Picking i (bit_and (get_or line i 0) (get_or known i 0)) count old line known picks
pick_word i count old line known picks h = record {
  sized = h.sized;
  long = h.long;
  room = h.room;
  small = h.small;
  same = h.same;
  told = h.told;
  counted = h.counted;
  cleared = h.cleared;
  here = refl;
  few = let f = h.few in omega arith;
  later = λ t on. let f = h.few in omega arith;
}

pub pick_next : (i m left count : ℕ) (old line known picks : List ℕ) → m ≡ i + 1 → left ≡ 0 → Picking i left count old line known picks → PickedTo m count old line known picks
pick_next i m left count old line known picks next none h = record {
  sized = h.sized;
  long = h.long;
  room = h.room;
  small = h.small;
  same = h.same;
  told = h.told;
  counted = h.counted;
  cleared = λ w lt. elim (cases_eq w i) [
    | inl here ↦ ap (λ n. bit_and (get_or line n 0) (get_or known n 0)) here ∙ sym h.here ∙ none
    | inr other ↦ h.cleared w (omega arith)
  ];
  few = let f = h.few in omega arith;
}

pub pick_step : (i left t c b count m : ℕ) (old line known picks : List ℕ) → t ≡ trailing_zeros w64 left → c ≡ 64 * i + t → b ≡ 2 ^ t → m ≡ count + 1
    → left ≢ 0 → left < 2 ^ 64 → i < length old → AreWords known → Picking i left count old line known picks
    → Picking i (bit_xor left b) m old (set line i (bit_xor (get_or line i 0) b)) known (set picks count c)
pick_step i left t c b count m old line known picks is_t is_c is_b is_m some below inside words h =
    let tz = bit_at-trailing_zeros w64 left (omega arith) below in
    let lt : t < 64 = subst (λ n. n < 64) (sym is_t) tz.0 in
    let on : bit_at left t ≡ 1 = ap (λ n. bit_at left n) is_t ∙ tz.1 in
    let before : (k : ℕ) → k < t → bit_at left k ≡ 0 = λ k kt. tz.2 k (subst (λ n. k < n) is_t kt) in
    let v : ℕ = bit_xor (get_or line i 0) (2 ^ t) in
    let place : i < length line = omega (arith, h.sized) in
    let first : count ≤ 64 * i + t = h.later t on in
    let spare : count < length picks = omega (arith, h.room) in
    let both : bit_at (bit_and (get_or line i 0) (get_or known i 0)) t ≡ 1 = ap (λ n. bit_at n t) (sym h.here) ∙ on in
    subst (λ p. Picking i (bit_xor left p) m old (set line i (bit_xor (get_or line i 0) p)) known (set picks count c)) (sym is_b) (record {
      sized = length-set line i v ∙ h.sized;
      long = h.long;
      room = omega (arith, h.room, length-set picks count c);
      small = words_set line i t lt h.small;
      same =
          line_flipped line i t c is_c lt place h.small ∙ ap (λ l. bit_xor l (2 ^ c)) h.same
          ∙ sym (after_flips-more (line_in old) (take count picks) c)
          ∙ ap (after_flips (line_in old)) (sym (take_more_set picks count c spare) ∙ ap (λ n. take n (set picks count c)) (sym is_m));
      told = λ n below_m. elim (cases_eq n count) [
        | inl last ↦
            let word : c / 64 ≡ i = omega arith in
            let spot : c % 64 ≡ t = omega arith in
            let one : bit_at (get_or known i 0) t ≡ 1 = omega (arith, both, bit_at_and (get_or line i 0) (get_or known i 0) t, bit_at-lt (get_or known i 0) t) in
            ap (λ k. bit_at (line_in known) (get_or (set picks count c) k 0)) last
            ∙ ap (λ k. bit_at (line_in known) k) (get_or-set_same picks count c 0 spare)
            ∙ bit_of_word known c words ∙ ap₂ (λ w k. bit_at (get_or known w 0) k) word spot ∙ one
        | inr other ↦ ap (λ k. bit_at (line_in known) k) (get_or-set_other picks count n c 0 other) ∙ h.told n (omega arith)
      ];
      counted =
          let word : c / 64 ≡ i = omega arith in
          let spot : c % 64 ≡ t = omega arith in
          let one : bit_at (get_or line i 0) t ≡ 1 = omega (arith, both, bit_at_and (get_or line i 0) (get_or known i 0) t, bit_at-lt (get_or line i 0) t) in
          let has : bit_at (line_in line) c ≡ 1 = bit_of_word line c h.small ∙ ap₂ (λ w k. bit_at (get_or line w 0) k) word spot ∙ one in
          let less = one_less (line_in line) c has in
          let flipped = ap ones (line_flipped line i t c is_c lt place h.small) in
          omega (arith, h.counted, less, flipped);
      cleared = λ w lower.
          let ne : w ≢ i = omega arith in
          ap (λ n. bit_and n (get_or known w 0)) (get_or-set_other line i w v 0 ne) ∙ h.cleared w lower;
      here =
          ap (λ n. bit_xor n (2 ^ t)) h.here ∙ sym (and_flip (get_or line i 0) (get_or known i 0) t both)
          ∙ ap (λ n. bit_and n (get_or known i 0)) (sym (get_or-set_same line i v 0 place));
      few = omega arith;
      later = λ u set_u.
          let value = bit_at_xor left (2 ^ t) u in
          elim (cases_lt u t) [
            | inl low ↦
                let ne : u ≢ t = omega arith in
                absurd (omega (arith, set_u, value, before u low, bit_at-pow_other t u ne))
            | inr high ↦ elim (cases_eq u t) [
              | inl spot ↦ absurd (omega (arith, set_u, ap (λ n. bit_at (bit_xor left (2 ^ t)) n) spot, bit_at_xor left (2 ^ t) t, on, bit_at-pow_same t))
              | inr apart ↦ omega arith
            ]
          ];
    })

-- the line as it was before what is left of word i was taken out
abbrev pub with_left : (line : List ℕ) → (i left : ℕ) → List ℕ
with_left line i left = set line i (bit_xor (get_or line i 0) left)

left_taken : (line : List ℕ) (i left : ℕ) → i < length line → with_left (with_left line i left) i left ≡ line
left_taken line i left lt =
    let w : ℕ = get_or line i 0 in
    set-set line i (bit_xor w left) (bit_xor (get_or (with_left line i left) i 0) left)
    ∙ ap (λ x. set line i (bit_xor x left)) (get_or-set_same line i (bit_xor w left) 0 lt)
    ∙ ap (λ x. set line i x) (xor_assoc w left left ∙ ap (λ x. bit_xor w x) (xor_self left) ∙ xor_zero_r w) ∙ set-get_or line i 0

left_none : (line : List ℕ) (i left : ℕ) → left ≡ 0 → with_left line i left ≡ line
left_none line i left none = ap (λ x. set line i (bit_xor (get_or line i 0) x)) none ∙ ap (λ x. set line i x) (xor_zero_r (get_or line i 0)) ∙ set-get_or line i 0

left_less : (line : List ℕ) (i left b : ℕ) → i < length line → set (with_left line i left) i (bit_xor (get_or (with_left line i left) i 0) b) ≡ with_left line i (bit_xor left b)
left_less line i left b lt =
    let w : ℕ = get_or line i 0 in
    set-set line i (bit_xor w left) (bit_xor (get_or (with_left line i left) i 0) b)
    ∙ ap (λ x. set line i (bit_xor x b)) (get_or-set_same line i (bit_xor w left) 0 lt)
    ∙ ap (λ x. set line i x) (xor_assoc w left b)

-- picking in a word whose known columns were taken out at once
pub word_begin : (i count left : ℕ) (old line known picks : List ℕ) → left ≡ bit_and (get_or line i 0) (get_or known i 0) → i < length line → PickedTo i count old line known picks
    → Picking i left count old (with_left (with_left line i left) i left) known picks
word_begin i count left old line known picks is lt h =
    subst (λ l. Picking i left count old l known picks) (sym (left_taken line i left lt))
    (subst (λ x. Picking i x count old line known picks) (sym is) (pick_word i count old line known picks h))

pub word_step : (i left t c next count m : ℕ) (old line known picks : List ℕ) → t ≡ trailing_zeros w64 left → c ≡ 64 * i + t → next ≡ bit_and left (left - 1) → m ≡ count + 1
    → left ≢ 0 → left < 2 ^ 64 → i < length old → AreWords known → Picking i left count old (with_left line i left) known picks
    → Picking i next m old (with_left line i next) known (set picks count c)
word_step i left t c next count m old line known picks is_t is_c is_next is_m some below inside words h =
    let lt : i < length line = omega (arith, h.sized, length-set line i (bit_xor (get_or line i 0) left)) in
    let lowest = bit_at-trailing_zeros w64 left (omega arith) below in
    let flipped : bit_xor left (2 ^ t) ≡ next =
    ap (λ k. bit_xor left (2 ^ k)) is_t ∙ sym (lowest_out (trailing_zeros w64 left) left lowest.1 lowest.2) ∙ sym is_next in
    subst (λ n. Picking i n m old (with_left line i n) known (set picks count c)) flipped
    (subst (λ l. Picking i (bit_xor left (2 ^ t)) m old l known (set picks count c)) (left_less line i left (2 ^ t) lt)
    (pick_step i left t c (2 ^ t) count m old (with_left line i left) known picks is_t is_c refl is_m some below inside words h))

pub word_next : (i m left count : ℕ) (old line known picks : List ℕ) → m ≡ i + 1 → left ≡ 0 → Picking i left count old (with_left line i left) known picks → PickedTo m count old line known picks
word_next i m left count old line known picks next none h =
    subst (λ l. PickedTo m count old l known picks) (left_none line i left none) (pick_next i m left count old (with_left line i left) known picks next none h)

pub pick_none : (n count : ℕ) (old line known picks : List ℕ) → length old ≤ n → AreWords known → PickedTo n count old line known picks
    → (c : ℕ) → bit_at (line_in known) c ≡ 1 → bit_at (line_in line) c ≡ 0
pick_none n count old line known picks le words h c on =
    let word : bit_at (get_or known (c / 64) 0) (c % 64) ≡ 1 = sym (bit_of_word known c words) ∙ on in
    elim (cases_lt (c / 64) n) [
      | inl lower ↦
          let zero_bit : bit_at (bit_and (get_or line (c / 64) 0) (get_or known (c / 64) 0)) (c % 64) ≡ 0 =
          ap (λ x. bit_at x (c % 64)) (h.cleared (c / 64) lower) ∙ bit_at-zero (c % 64) in
          let none : bit_at (get_or line (c / 64) 0) (c % 64) ≡ 0 =
          omega (arith, zero_bit, bit_at_and (get_or line (c / 64) 0) (get_or known (c / 64) 0) (c % 64), word) in
          bit_of_word line c h.small ∙ none
      | inr past ↦
          let none : get_or line (c / 64) 0 ≡ 0 = get_or_past line (c / 64) 0 (omega (arith, h.sized)) in
          bit_of_word line c h.small ∙ ap (λ x. bit_at x (c % 64)) none ∙ bit_at-zero (c % 64)
    ]

-- a column of a line is in its words
pub bit_inside : (words : List ℕ) (c : ℕ) → AreWords words → bit_at (line_in words) c ≡ 1 → c < 64 * length words
bit_inside words c small on = elim (cases_lt (c / 64) (length words)) [
  | inl lt ↦ omega arith
  | inr past ↦
      let none : get_or words (c / 64) 0 ≡ 0 = get_or_past words (c / 64) 0 past in
      let off : bit_at (line_in words) c ≡ 0 = bit_of_word words c small ∙ ap (λ x. bit_at x (c % 64)) none ∙ bit_at-zero (c % 64) in
      absurd (omega (arith, on, off))
]
