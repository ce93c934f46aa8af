-- Lines of a source, taken off its front.
use Rattle.std.proofs.Common.{◌≡◌, ℕ, ◌+◌, ◌<◌, ◌≤◌, Bool, true, false, not, cond, nat_lt, List, [], ◌∷◌, length, take, drop, None, Some, refl, ap, subst, ◌∙◌, arith}
use Rattle.std.specs.List.{slice_split, onto_first, position, position_or_len, prefix_len}
use Rattle.std.proofs.lemmas.Bool.{ltb-true, ltb-false}
use Rattle.std.proofs.lemmas.List.Splits.{slice_split_first}
use Rattle.script_lines.specs.Lines.{is_feed, lines_of, without_empty_last}
use Rattle.script_lines.proofs.Stretches.{a_stretch, not_last}

before_more : (x bytes : List ℕ) → without_empty_last (x ∷ slice_split is_feed bytes) ≡ x ∷ without_empty_last (slice_split is_feed bytes)
before_more x bytes = let part = a_stretch bytes in rw part.2 (not_last x part.0 part.1)

-- a line ends at the first line feed
found_by : (bytes : List ℕ) (t : Bool) (end : ℕ) → nat_lt (position_or_len is_feed bytes) (length bytes) ≡ t → cond t (Some (position_or_len is_feed bytes)) None ≡ Some end
    → slice_split is_feed bytes ≡ take end bytes ∷ slice_split is_feed (drop (end + 1) bytes)
found_by bytes true end within is =
    let here : position_or_len is_feed bytes ≡ end = cc in
    subst (λ (n : ℕ). slice_split is_feed bytes ≡ take n bytes ∷ slice_split is_feed (drop (n + 1) bytes)) here (slice_split_first is_feed bytes 0 (ltb-true _ _ within))
found_by bytes false end within is = absurd cc

pub line_found : (bytes : List ℕ) (end : ℕ) → position is_feed bytes ≡ Some end → lines_of bytes ≡ take end bytes ∷ lines_of (drop (end + 1) bytes)
unfolding lines_of
line_found bytes end is =
    ap without_empty_last (found_by bytes (nat_lt (position_or_len is_feed bytes) (length bytes)) end refl is) ∙ before_more (take end bytes) (drop (end + 1) bytes)

-- without a line feed all is one line
one_part : (bytes : List ℕ) → length bytes ≤ position_or_len is_feed bytes → slice_split is_feed bytes ≡ bytes ∷ []
one_part [] long = refl
one_part (b ∷ bs) long = by_test (is_feed b) (λ h. one_part bs h) long
  where
    by_test : (t : Bool) → (length bs ≤ position_or_len is_feed bs → slice_split is_feed bs ≡ bs ∷ []) → length (b ∷ bs) ≤ cond (not t) (1 + prefix_len (λ x. not (is_feed x)) bs) 0 → cond t ([] ∷ slice_split is_feed bs) (onto_first b (slice_split is_feed bs)) ≡ (b ∷ bs) ∷ []
    by_test true behind far = absurd (omega arith)
    by_test false behind far = ap (λ (ps : List (List ℕ)). onto_first b ps) (behind (omega arith))

none_by : (bytes : List ℕ) (t : Bool) → nat_lt (position_or_len is_feed bytes) (length bytes) ≡ t → cond t (Some (position_or_len is_feed bytes)) None ≡ None → length bytes ≤ position_or_len is_feed bytes
none_by bytes true within is = absurd cc
none_by bytes false within is = ltb-false _ _ within

whole_line : (bytes : List ℕ) → 0 < length bytes → without_empty_last (bytes ∷ []) ≡ bytes ∷ []
whole_line [] some = absurd (omega arith)
whole_line (b ∷ bs) some = refl

pub line_whole : (bytes : List ℕ) → 0 < length bytes → position is_feed bytes ≡ None → lines_of bytes ≡ bytes ∷ lines_of []
unfolding lines_of
line_whole bytes some is =
    ap without_empty_last (one_part bytes (none_by bytes (nat_lt (position_or_len is_feed bytes) (length bytes)) refl is)) ∙ whole_line bytes some
