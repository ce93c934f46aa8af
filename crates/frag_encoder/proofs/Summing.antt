-- The loop that XORs the pieces at a line's columns, word by word.
use Rattle.std.proofs.Common.{◌≡◌, ℕ, ◌+◌, ◌-◌, ◌*◌, ◌/◌, ◌^◌, ◌<◌, ◌≤◌, List, [], length, get_or, drop, refl, sym, ap, ap₂, ◌∙◌, subst, inl, inr, length-drop, arith}
use Rattle.std.proofs.Math.Nat.{add-mul}
use Rattle.std.proofs.lemmas.Bool.{cases_lt}
use Rattle.std.proofs.lemmas.Nat.{shr_below, shr_high, pow_below, pow_pos}
use Rattle.std.proofs.lemmas.List.{drop-drop, drop_more, drop_all}
use Rattle.frag_model.specs.Fragments.{xor_bytes, xor_all, pieces_at}
use Rattle.parity_lines.specs.Words.{words_number}
use Rattle.frag_encoder.specs.Encoding.{pieces_of}
use Rattle.frag_encoder.proofs.Pieces.{xor_bytes_assoc, none_at_no_column, xor_bytes_with_zeros, AreSized, pieces_sized, sized-drop, drop-pieces, sum_split}

pub record LineSummed (size k columns : ℕ) (line bytes sum total : List ℕ) : Type 0 where
  pub value : xor_bytes sum (xor_all size (pieces_at (words_number (drop k line)) (drop (64 * k) (pieces_of columns size bytes)))) ≡ total
  pub below : words_number (drop k line) < 2 ^ (columns - 64 * k)

pub line_begins : (size columns : ℕ) (line bytes sum : List ℕ) → words_number line < 2 ^ columns
    → LineSummed size 0 columns line bytes sum (xor_bytes sum (xor_all size (pieces_at (words_number line) (pieces_of columns size bytes))))
line_begins size columns line bytes sum lt =
    let all : columns ≡ columns - 64 * 0 = omega arith in
    record { value = refl; below = subst (λ w. words_number line < 2 ^ w) all lt }

first_word : (line : List ℕ) (k : ℕ) → k < length line → words_number (drop k line) ≡ words_number (drop (k + 1) line) * 2 ^ 64 + get_or line k 0
unfolding words_number
first_word line k lt = ap words_number (drop_more line k 0 lt)

pub word_below : (size k columns : ℕ) (line bytes sum total : List ℕ) → k < length line → LineSummed size k columns line bytes sum total
    → get_or line k 0 < 2 ^ (columns - 64 * k)
word_below size k columns line bytes sum total lt h = omega (arith, first_word line k lt, h.below)

pub bytes_left : (size column columns : ℕ) (bytes rest : List ℕ) → column ≤ columns → length bytes ≡ columns * size → rest ≡ drop (column * size) bytes
    → length rest ≡ (columns - column) * size
bytes_left size column columns bytes rest le is is_rest =
    let split : columns ≡ columns - column + column = omega arith in
    let product : columns * size ≡ (columns - column) * size + column * size = ap (λ c. c * size) split ∙ add-mul (columns - column) column size in
    ap length is_rest ∙ length-drop (column * size) bytes ∙ omega (arith, is, product)

rest_below : (n high low width : ℕ) → n ≡ high * 2 ^ 64 + low → n < 2 ^ width → low < 2 ^ 64 → high < 2 ^ (width - 64)
rest_below n high low width is lt small = elim (cases_lt width 64) [
  | inl narrow ↦
      let none : high ≡ 0 = omega (arith, is, lt, pow_below width 64 narrow) in
      omega (arith, none, pow_pos (width - 64))
  | inr wide ↦
      let parts : width ≡ width - 64 + 64 = omega arith in
      let half : n / 2 ^ 64 ≡ high = ap (λ m. m / 2 ^ 64) is ∙ shr_high high 64 low small in
      subst (λ h. h < 2 ^ (width - 64)) half (shr_below n (width - 64) 64 (subst (λ w. n < 2 ^ w) parts lt))
]

pub line_more : (size k columns : ℕ) (line bytes sum next rest total : List ℕ) → k < length line → 64 * length line < columns + 64 → get_or line k 0 < 2 ^ 64
    → length bytes ≡ columns * size → rest ≡ drop (64 * k * size) bytes
    → next ≡ xor_bytes sum (xor_all size (pieces_at (get_or line k 0) (pieces_of (columns - 64 * k) size rest)))
    → LineSummed size k columns line bytes sum total → LineSummed size (k + 1) columns line bytes next total
line_more size k columns line bytes sum next rest total lt words small is is_rest is_next h =
    let all : List (List ℕ) = pieces_of columns size bytes in
    let here : List (List ℕ) = drop (64 * k) all in
    let w : ℕ = get_or line k 0 in
    let more : ℕ = words_number (drop (k + 1) line) in
    let sized : AreSized size here = sized-drop size (64 * k) all (pieces_sized columns size bytes is) in
    let pieces : here ≡ pieces_of (columns - 64 * k) size rest =
    drop-pieces (64 * k) columns size bytes (omega arith) ∙ ap (λ bs. pieces_of (columns - 64 * k) size bs) (sym is_rest) in
    let place : 64 * k + 64 ≡ 64 * (k + 1) = omega arith in
    let behind : drop 64 here ≡ drop (64 * (k + 1)) all = drop-drop 64 (64 * k) all ∙ ap (λ n. drop n all) place in
    let parts : xor_all size (pieces_at (words_number (drop k line)) here)
    ≡ xor_bytes (xor_all size (pieces_at w (pieces_of (columns - 64 * k) size rest))) (xor_all size (pieces_at more (drop (64 * (k + 1)) all))) =
    ap (λ l. xor_all size (pieces_at l here)) (first_word line k lt)
    ∙ sum_split size 64 more w here sized small
    ∙ ap₂ (λ b c. xor_bytes (xor_all size (pieces_at w b)) (xor_all size (pieces_at more c))) pieces behind in
    let left : columns - 64 * k - 64 ≡ columns - 64 * (k + 1) = omega arith in
    record {
      value = ap (λ s. xor_bytes s (xor_all size (pieces_at more (drop (64 * (k + 1)) all)))) is_next
          ∙ xor_bytes_assoc sum _ _
          ∙ ap (λ bs. xor_bytes sum bs) (sym parts)
          ∙ h.value;
      below = subst (λ e. more < 2 ^ e) left (rest_below _ more w (columns - 64 * k) (first_word line k lt) h.below small);
    }

pub line_done : (size k columns : ℕ) (line bytes sum total : List ℕ) → length line ≤ k → length sum ≡ size → LineSummed size k columns line bytes sum total → sum ≡ total
unfolding xor_all words_number
line_done size k columns line bytes sum total le sized h =
    let rest : List (List ℕ) = drop (64 * k) (pieces_of columns size bytes) in
    let none : words_number (drop k line) ≡ 0 = ap words_number (drop_all k line le) in
    let empty : pieces_at (words_number (drop k line)) rest ≡ [] = ap (λ l. pieces_at l rest) none ∙ none_at_no_column rest in
    sym (ap (λ ps. xor_bytes sum (xor_all size ps)) empty ∙ xor_bytes_with_zeros size sum sized) ∙ h.value
