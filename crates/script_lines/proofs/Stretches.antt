-- The stretches of a stream that goes on.
use Rattle.std.proofs.Common.{◌≡◌, ℕ, ◌<◌, Bool, true, false, cond, List, [], ◌∷◌, ◌++◌, length, refl, sym, ap, ◌∙◌, append_assoc, arith, ◌⊎◌, inl, inr}
use Rattle.std.specs.List.{slice_split, onto_first, All}
use Rattle.std.proofs.lemmas.List.Elements.{All-from_get_or}
use Rattle.std.proofs.lemmas.List.Splits.{slice_split_none, slice_split_at}
use Rattle.script_lines.specs.Lines.{is_feed, without_empty_last, lines_of}
use Rattle.script_lines.specs.Pieces.{front, last, ended_of, open_of}

-- two rows of stretches, the last of the one going on in the first of the other
abbrev joined : List (List ℕ) → List (List ℕ) → List (List ℕ)
joined [] others = others
joined (x ∷ []) [] = x ∷ []
joined (x ∷ []) (other ∷ others) = (x ++ other) ∷ others
joined (x ∷ y ∷ zs) others = x ∷ joined (y ∷ zs) others

-- there is always a stretch
pub a_stretch : (bytes : List ℕ) → (x : List ℕ) × (xs : List (List ℕ)) × (slice_split is_feed bytes ≡ x ∷ xs)
a_stretch [] = ([], [], refl)
a_stretch (b ∷ bs) = by_test (is_feed b) (a_stretch bs)
  where
    by_test : (t : Bool) → ((x : List ℕ) × (xs : List (List ℕ)) × (slice_split is_feed bs ≡ x ∷ xs))
        → (x : List ℕ) × (xs : List (List ℕ)) × (cond t ([] ∷ slice_split is_feed bs) (onto_first b (slice_split is_feed bs)) ≡ x ∷ xs)
    by_test true some = ([], slice_split is_feed bs, refl)
    by_test false some = (b ∷ some.0, some.1, ap (λ (xs : List (List ℕ)). onto_first b xs) some.2)

onto_joined : (b : ℕ) (x : List ℕ) (xs : List (List ℕ)) (other : List ℕ) (others : List (List ℕ))
    → onto_first b (joined (x ∷ xs) (other ∷ others)) ≡ joined (onto_first b (x ∷ xs)) (other ∷ others)
onto_joined b x [] other others = refl
onto_joined b x (y ∷ ys) other others = refl

split_on : (bytes more : List ℕ) → slice_split is_feed (bytes ++ more) ≡ joined (slice_split is_feed bytes) (slice_split is_feed more)
split_on [] more = let some = a_stretch more in rw some.2 refl
split_on (b ∷ bs) more = by_test (is_feed b) (split_on bs more) (a_stretch bs) (a_stretch more)
  where
    by_test : (t : Bool) → slice_split is_feed (bs ++ more) ≡ joined (slice_split is_feed bs) (slice_split is_feed more)
        → ((x : List ℕ) × (xs : List (List ℕ)) × (slice_split is_feed bs ≡ x ∷ xs)) → ((x : List ℕ) × (xs : List (List ℕ)) × (slice_split is_feed more ≡ x ∷ xs))
        → cond t ([] ∷ slice_split is_feed (bs ++ more)) (onto_first b (slice_split is_feed (bs ++ more)))
        ≡ joined (cond t ([] ∷ slice_split is_feed bs) (onto_first b (slice_split is_feed bs))) (slice_split is_feed more)
    by_test true on some other = rw (on, some.2, other.2) refl
    by_test false on some other = rw (on, some.2, other.2) (onto_joined b some.0 some.1 other.0 other.1)

-- ---- what a piece makes of a stream

joined_open : (x : List ℕ) (xs : List (List ℕ)) (more : List ℕ) → (front (joined (x ∷ xs) (more ∷ [])) ≡ front (x ∷ xs)) × (last (joined (x ∷ xs) (more ∷ [])) ≡ last (x ∷ xs) ++ more)
joined_open x [] more = (refl, refl)
joined_open x (y ∷ []) more = (refl, refl)
joined_open x (y ∷ z ∷ zs) more = let behind = joined_open y (z ∷ zs) more in (ap (λ (l : List (List ℕ)). x ∷ l) behind.0, behind.1)

joined_ended : (x : List ℕ) (xs : List (List ℕ)) (more : List ℕ)
    → (front (joined (x ∷ xs) (more ∷ [] ∷ [])) ≡ front (x ∷ xs) ++ (last (x ∷ xs) ++ more) ∷ []) × (last (joined (x ∷ xs) (more ∷ [] ∷ [])) ≡ [])
joined_ended x [] more = (refl, refl)
joined_ended x (y ∷ []) more = (refl, refl)
joined_ended x (y ∷ z ∷ zs) more = let behind = joined_ended y (z ∷ zs) more in (ap (λ (l : List (List ℕ)). x ∷ l) behind.0, behind.1)

-- bytes without a line feed make the open line longer
pub still_open : (stream bytes : List ℕ) → All (λ b. is_feed b ≡ false) bytes → (ended_of (stream ++ bytes) ≡ ended_of stream) × (open_of (stream ++ bytes) ≡ open_of stream ++ bytes)
unfolding ended_of open_of
still_open stream bytes none =
    let some = a_stretch stream in
    let open_bytes = joined_open some.0 some.1 bytes in
    rw (split_on stream bytes, slice_split_none is_feed bytes none, some.2) open_bytes

-- and with a line feed after them they end it
pub now_ended : (stream bytes : List ℕ) → All (λ b. is_feed b ≡ false) bytes
    → (ended_of (stream ++ (bytes ++ 10 ∷ [])) ≡ ended_of stream ++ (open_of stream ++ bytes) ∷ []) × (open_of (stream ++ (bytes ++ 10 ∷ [])) ≡ [])
unfolding ended_of open_of
now_ended stream bytes none =
    let some = a_stretch stream in
    let ended_bytes = joined_ended some.0 some.1 bytes in
    rw (split_on stream (bytes ++ 10 ∷ []), slice_split_at is_feed bytes 10 [] none refl, some.2) ended_bytes

-- whatever comes after, the lines that ended stay
stretch_on : (x : List ℕ) (xs : List (List ℕ)) (y : List ℕ) (ys : List (List ℕ)) → (a : List ℕ) × (others : List (List ℕ)) × (joined (x ∷ xs) (y ∷ ys) ≡ a ∷ others)
stretch_on x [] y ys = (x ++ y, ys, refl)
stretch_on x (z ∷ zs) y ys = (x, joined (z ∷ zs) (y ∷ ys), refl)

front_on : (x : List ℕ) (zs : List (List ℕ)) (a : List ℕ) (others : List (List ℕ)) → zs ≡ a ∷ others → front (x ∷ zs) ≡ x ∷ front zs
front_on x zs a others is = rw (is) refl

joined_front : (x : List ℕ) (xs : List (List ℕ)) (y : List ℕ) (ys : List (List ℕ)) → (more : List (List ℕ)) × (front (joined (x ∷ xs) (y ∷ ys)) ≡ front (x ∷ xs) ++ more)
joined_front x [] y ys = (front ((x ++ y) ∷ ys), refl)
joined_front x (z ∷ zs) y ys =
    let behind = joined_front z zs y ys in
    let some = stretch_on z zs y ys in
    (behind.0, front_on x (joined (z ∷ zs) (y ∷ ys)) some.0 some.1 some.2 ∙ ap (λ (l : List (List ℕ)). x ∷ l) behind.1)

pub ended_more : (stream bytes : List ℕ) → (more : List (List ℕ)) × (ended_of (stream ++ bytes) ≡ ended_of stream ++ more)
unfolding ended_of
ended_more stream bytes =
    let some = a_stretch stream in
    let other = a_stretch bytes in
    let on = joined_front some.0 some.1 other.0 other.1 in
    (on.0, rw (split_on stream bytes, some.2, other.2) on.1)

no_feed : All (λ b. is_feed b ≡ false) []
no_feed = All-from_get_or (λ b. is_feed b ≡ false) [] 0 (λ i below. absurd (omega (arith, below)))

-- after the last line feed a new line is open
pub open_behind : (stream before rest : List ℕ) → All (λ b. is_feed b ≡ false) rest → open_of (stream ++ (before ++ (10 ∷ rest))) ≡ rest
open_behind stream before rest none =
    let anew = (now_ended (stream ++ before) [] no_feed).1 in
    let whole : stream ++ (before ++ (10 ∷ rest)) ≡ ((stream ++ before) ++ (10 ∷ [])) ++ rest =
    sym (append_assoc stream before (10 ∷ rest)) ∙ sym (append_assoc (stream ++ before) (10 ∷ []) rest) in
    rw (whole) ((still_open ((stream ++ before) ++ (10 ∷ [])) rest none).1 ∙ ap (λ (l : List ℕ). l ++ rest) anew)

-- ---- the end of a stream

-- a stretch before another is no last one
pub not_last : (x y : List ℕ) (ys : List (List ℕ)) → without_empty_last (x ∷ y ∷ ys) ≡ x ∷ without_empty_last (y ∷ ys)
not_last [] y ys = refl
not_last (b ∷ bs) y ys = refl

last_line : (x : List ℕ) (xs : List (List ℕ)) → ((last (x ∷ xs) ≡ []) × (without_empty_last (x ∷ xs) ≡ front (x ∷ xs))) ⊎ ((0 < length (last (x ∷ xs))) × (without_empty_last (x ∷ xs) ≡ front (x ∷ xs) ++ last (x ∷ xs) ∷ []))
last_line [] [] = inl (refl, refl)
last_line (b ∷ bs) [] = inr (omega arith, refl)
last_line x (y ∷ ys) = elim (last_line y ys) [
  | inl none ↦ inl (none.0, not_last x y ys ∙ ap (λ (l : List (List ℕ)). x ∷ l) none.1)
  | inr one ↦ inr (one.0, not_last x y ys ∙ ap (λ (l : List (List ℕ)). x ∷ l) one.1)
]

-- the last line is the open one, unless that is empty
pub last_open : (stream : List ℕ) → ((open_of stream ≡ []) × (lines_of stream ≡ ended_of stream)) ⊎ ((0 < length (open_of stream)) × (lines_of stream ≡ ended_of stream ++ open_of stream ∷ []))
unfolding lines_of ended_of open_of
last_open stream = let some = a_stretch stream in rw some.2 (last_line some.0 some.1)
