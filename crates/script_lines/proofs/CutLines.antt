-- What a piece makes of the lines that are held.
use Rattle.std.proofs.Common.{◌≡◌, ◌≢◌, ℕ, zero, suc, ◌+◌, ◌-◌, ◌<◌, ◌≤◌, min, Bool, true, false, not, cond, ltb, eqb, List, [], ◌∷◌, ◌++◌, append_assoc, length, take, drop, Option, None, Some, Result, Ok, Err, IsOk, OnOk, refl, sym, ap, subst, ◌∙◌, inl, inr, ◌⊎◌, arith}
use Rattle.std.specs.List.{All, position, position_or_len}
use Rattle.std.proofs.Math.Seq.{take-append-add}
use Rattle.std.proofs.lemmas.Bool.{eqb-true, ltb-false}
use Rattle.std.proofs.lemmas.List.{take_all, take_more, take_min, take-append-drop, length-take, get_or-take}
use Rattle.std.proofs.lemmas.List.Elements.{All-from_get_or}
use Rattle.std.proofs.lemmas.List.Quantifiers.{position-Some}
use Rattle.std.proofs.lemmas.List.Sums.{fails_before_first}
use Rattle.script_lines.specs.declared.pieces.Cut.TheVariants.{More, Line}
use Rattle.script_lines.specs.Lines.{is_feed, lines_of}
use Rattle.script_lines.specs.Pieces.{ended_of, open_of, cut}
use Rattle.script_lines.specs.HeldLines.{HeldLines, LinesStand, IsLastFeed, open_in, held_as, GoesOn, Ends}
use Rattle.script_lines.proofs.Stretches.{still_open, now_ended, open_behind, last_open}

-- ---- cutting

-- a line that is cut and goes on is cut as if it had not been cut before
pub cut_on : (xs ys : List ℕ) → cut (cut xs ++ ys) ≡ cut (xs ++ ys)
cut_on xs ys = by_length 601 xs
  where
    by_length : (n : ℕ) (xs : List ℕ) → take n (take n xs ++ ys) ≡ take n (xs ++ ys)
    by_length zero xs = refl
    by_length (suc n) [] = refl
    by_length (suc n) (x ∷ xs) = ap (λ (l : List ℕ). x ∷ l) (by_length n xs)

-- as many bytes as there is room for
pub held_front : (xs ys : List ℕ) (n : ℕ) → length xs ≤ 601 → n ≡ min (601 - length xs) (length ys) → xs ++ take n ys ≡ cut (xs ++ ys)
held_front xs ys n fits is =
    let room : length xs + (601 - length xs) ≡ 601 = omega arith in
    let all = subst (λ (k : ℕ). take k (xs ++ ys) ≡ xs ++ take (601 - length xs) ys) room (take-append-add xs ys (601 - length xs)) in
    rw is (ap (λ (l : List ℕ). xs ++ l) (take_min (601 - length xs) ys) ∙ sym all)

pub length-cut : (xs : List ℕ) → length (cut xs) ≤ 601
length-cut xs = omega (arith, length-take 601 xs)

-- ---- where a piece has its first line feed

-- before the first line feed there is none
pub none_before : (piece : List ℕ) (end : ℕ) → position is_feed piece ≡ Some end → All (λ b. is_feed b ≡ false) (take end piece)
none_before piece end is =
    let found = position-Some is_feed piece end 0 is in
    All-from_get_or (λ b. is_feed b ≡ false) (take end piece) 0 (λ i below.
    let inside : i < end = omega (arith, length-take end piece) in rw (get_or-take end piece i 0 inside) (found.2 i inside))

-- and then it comes
pub feed_at : (piece : List ℕ) (end : ℕ) → position is_feed piece ≡ Some end → take (end + 1) piece ≡ take end piece ++ 10 ∷ []
feed_at piece end is =
    let found = position-Some is_feed piece end 0 is in
    take_more piece end 0 found.0 ∙ ap (λ (b : ℕ). take end piece ++ b ∷ []) (eqb-true _ _ found.1)

-- where none is found there is none
pub none_found : (piece : List ℕ) → position is_feed piece ≡ None → All (λ b. is_feed b ≡ false) piece
none_found piece is = by_test (ltb (position_or_len is_feed piece) (length piece)) refl is
  where
    by_test : (t : Bool) → ltb (position_or_len is_feed piece) (length piece) ≡ t → cond {A = Option ℕ} t (Some (position_or_len is_feed piece)) None ≡ None → All (λ b. is_feed b ≡ false) piece
    by_test true within same = absurd cc
    by_test false within same =
        All-from_get_or (λ b. is_feed b ≡ false) piece 0 (λ i below. fails_before_first is_feed piece i 0 (omega (arith, ltb-false _ _ within)))

-- ---- pieces

-- a piece without a line feed
pub goes_on : (old : HeldLines) (items kept piece : List ℕ) (ended : Bool) → old ≡ held_as items ended → kept ≡ cut (open_in items ended ++ piece) → position is_feed piece ≡ None
    → (stream : List ℕ) → LinesStand old stream → GoesOn old (held_as kept false) (take (length piece) piece) More stream
goes_on old items kept piece ended is hold none stream stands =
    let step = still_open stream piece (none_found piece none) in
    let here : open_in items ended ≡ cut (open_of stream) = ap (λ (h : HeldLines). h.open_line) (sym is) ∙ stands in
    rw (take_all (length piece) piece (omega arith)) (record {
      stands = hold ∙ ap (λ (l : List ℕ). cut (l ++ piece)) here ∙ cut_on (open_of stream) piece ∙ ap cut (sym step.1);
      lines = step.0;
    })

-- a piece with one
pub ends_line : (old : HeldLines) (items kept piece : List ℕ) (ended : Bool) (end : ℕ) → old ≡ held_as items ended → kept ≡ cut (open_in items ended ++ take end piece) → position is_feed piece ≡ Some end
    → (stream : List ℕ) → LinesStand old stream → GoesOn old (held_as kept true) (take (end + 1) piece) Line stream
ends_line old items kept piece ended end is hold found stream stands =
    let step = now_ended stream (take end piece) (none_before piece end found) in
    let here : open_in items ended ≡ cut (open_of stream) = ap (λ (h : HeldLines). h.open_line) (sym is) ∙ stands in
    rw (feed_at piece end found) (record {
      stands = ap cut (sym step.1);
      lines = (
        open_of stream ++ take end piece,
        step.0,
        ap (λ (l : List ℕ). Some l) (hold ∙ ap (λ (l : List ℕ). cut (l ++ take end piece)) here ∙ cut_on (open_of stream) (take end piece)),
      );
    })

-- a piece whose lines are not kept, without a line feed
pub passes_on : (old : HeldLines) (items kept piece : List ℕ) (ended : Bool) → old ≡ held_as items ended → kept ≡ cut (open_in items ended ++ piece)
    → All (λ b. is_feed b ≡ false) piece → (stream : List ℕ) → LinesStand old stream → kept ≡ cut (open_of (stream ++ piece))
passes_on old items kept piece ended is hold none stream stands =
    let here : open_in items ended ≡ cut (open_of stream) = ap (λ (h : HeldLines). h.open_line) (sym is) ∙ stands in
    hold ∙ ap (λ (l : List ℕ). cut (l ++ piece)) here ∙ cut_on (open_of stream) piece ∙ ap cut (sym (still_open stream piece none).1)

-- and with one
parted : (piece : List ℕ) (end : ℕ) → IsLastFeed piece end → piece ≡ take end piece ++ (10 ∷ drop (end + 1) piece)
parted piece end last =
    let front = take_more piece end 0 last.inside ∙ ap (λ (b : ℕ). take end piece ++ b ∷ []) (eqb-true _ _ last.feed) in
    sym (take-append-drop (end + 1) piece) ∙ ap (λ (l : List ℕ). l ++ drop (end + 1) piece) front ∙ append_assoc (take end piece) (10 ∷ []) (drop (end + 1) piece)

pub passes_behind : (kept piece : List ℕ) (end : ℕ) → kept ≡ cut (drop (end + 1) piece) → IsLastFeed piece end → (stream : List ℕ)
    → kept ≡ cut (open_of (stream ++ piece))
passes_behind kept piece end hold last stream =
    hold ∙ ap cut (sym (open_behind stream (take end piece) (drop (end + 1) piece) last.none))
    ∙ ap (λ (l : List ℕ). cut (open_of (stream ++ l))) (sym (parted piece end last))

-- the end
pub ends : (old : HeldLines) (items kept : List ℕ) (ended result : Bool) → old ≡ held_as items ended → kept ≡ open_in items ended
    → ((result ≡ true → kept ≢ []) × (kept ≢ [] → result ≡ true)) → (stream : List ℕ) → LinesStand old stream → Ends (held_as kept result) stream result
ends old items kept ended result is hold tells stream stands = by_last (last_open stream) result tells
  where
    here : kept ≡ cut (open_of stream)
    here = hold ∙ ap (λ (h : HeldLines). h.open_line) (sym is) ∙ stands

    by_last : ((open_of stream ≡ []) × (lines_of stream ≡ ended_of stream)) ⊎ ((0 < length (open_of stream)) × (lines_of stream ≡ ended_of stream ++ open_of stream ∷ [])) → (r : Bool)
        → ((r ≡ true → kept ≢ []) × (kept ≢ [] → r ≡ true)) → Ends (held_as kept r) stream r
    by_last (inl none) true tell = absurd (tell.0 refl (here ∙ ap cut none.0))
    by_last (inl none) false tell = none.1
    by_last (inr some) true tell = (open_of stream, some.1, ap (λ (l : List ℕ). Some l) here)
    by_last (inr some) false tell =
        absurd (let t = tell.1 (λ empty. omega (arith, ap length (sym here ∙ empty), length-take 601 (open_of stream), some.0)) in cc)

-- the length says whether bytes are held
pub told : (kept : List ℕ) (empty : Bool) → empty ≡ eqb (length kept) 0 → ((not empty ≡ true → kept ≢ []) × (kept ≢ [] → not empty ≡ true))
told [] empty tell = rw tell (λ is. absurd cc, λ some. absurd (some refl))
told (b ∷ bs) empty tell = let some : eqb (length (b ∷ bs)) 0 ≡ false = grind arith in rw (tell, some) (λ is none. absurd cc, λ some. refl)

pub open_fresh : open_of [] ≡ []
unfolding open_of
open_fresh = refl

-- the open line of a fresh stream
pub stands_fresh : (kept : List ℕ) (result : Bool) → (kept ≢ [] → result ≡ true) → LinesStand (held_as kept result) []
unfolding open_of
stands_fresh kept true tell = refl
stands_fresh [] false tell = refl
stands_fresh (b ∷ bs) false tell = absurd (let t = tell (λ none. cc) in cc)

pub on_ok : {T E P : Type 0} (r : Result T E) → IsOk r → OnOk r P → P
on_ok (Ok x) ok is = is
on_ok (Err e) ok is = absurd cc
