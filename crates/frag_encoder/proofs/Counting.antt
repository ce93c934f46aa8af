-- How many columns a line has, as it is gone through.
use Rattle.std.proofs.Common.{◌≡◌, ℕ, ◌+◌, ◌^◌, ◌<◌, ◌≤◌, cond, List, length, get_or, drop, ap, ◌∙◌, arith, le-leb}
use Rattle.std.specs.Int.Count.{ones}
use Rattle.std.proofs.lemmas.Bool.{lt-leb}
use Rattle.std.proofs.lemmas.List.{drop_more, drop_all}
use Rattle.std.proofs.lemmas.Nat.{ones-le, ones_cat}
use Rattle.frag_model.specs.Fragments.{line_of}
use Rattle.parity_lines.specs.Words.{words_number}
use Rattle.frag_encoder.specs.Encoding.{sums_of}

pub none_left : (left : ℕ) → left ≡ 0 → ones left ≡ 0
none_left left none = omega (arith, ap ones none, ones-le 0 0 (omega arith))

-- the columns of a line from word k on
pub word_counted : (line : List ℕ) (k : ℕ) → k < length line → get_or line k 0 < 2 ^ 64
    → ones (words_number (drop k line)) ≡ ones (words_number (drop (k + 1) line)) + ones (get_or line k 0)
unfolding words_number
word_counted line k lt small =
    ap (λ l. ones (words_number l)) (drop_more line k 0 lt) ∙ ones_cat 64 (words_number (drop (k + 1) line)) (get_or line k 0) small

pub line_counted : (line : List ℕ) (k : ℕ) → length line ≤ k → ones (words_number (drop k line)) ≡ 0
unfolding words_number
line_counted line k le = none_left (words_number (drop k line)) (ap words_number (drop_all k line le))

-- ---- a fragment

pub sums_of_piece : (nb_frag n : ℕ) → n ≤ nb_frag → sums_of nb_frag n ≡ 0
unfolding sums_of
sums_of_piece nb_frag n le = ap (λ t. cond {A = ℕ} t 0 (ones (line_of nb_frag n))) (le-leb n nb_frag le)

pub sums_of_coded : (nb_frag n : ℕ) → nb_frag < n → sums_of nb_frag n ≡ ones (line_of nb_frag n)
unfolding sums_of
sums_of_coded nb_frag n lt = ap (λ t. cond {A = ℕ} t 0 (ones (line_of nb_frag n))) (lt-leb n nb_frag lt)
