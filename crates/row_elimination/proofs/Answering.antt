-- What a fragment makes of a table is what its answer says.
use Rattle.std.proofs.Common.{◌≡◌, ◌≢◌, ◌⊎◌, ℕ, suc, ◌+◌, ◌-◌, ◌*◌, ◌<◌, ◌≤◌, ◌^◌, Bool, true, false, ◌&&◌, not, nat_le, List, [], ◌∷◌, ◌++◌, set, take, drop, length, get_or, Some, refl, sym, ap, ap₂, ◌∙◌, subst, inl, inr, arith, le-leb, get_or-set_same, get_or-set_other, true≢false, suc-mul, zero-mul}
use Rattle.std.specs.Prelude.{if◌then◌else◌, ◌↔◌}
use Rattle.std.specs.List.{concat}
use Rattle.std.specs.Int.{bit_at}
use Rattle.std.proofs.Math.Seq.{take-add}
use Rattle.std.proofs.lemmas.List.{ext_get_or, drop-drop}
use Rattle.std.proofs.lemmas.List.Elements.{recursion_from_All}
use Rattle.std.proofs.lemmas.Bool.{cases_eq, cases_Bool, and_left, and_right, and_from, lt-leb, false≢true}
use Rattle.frag_model.specs.Fragments.{Shape, Equation, IsPiece, IsBlock, line_of}
use Rattle.frag_model.specs.Gain.{is_sum, IsSum}
use Rattle.frag_model.proofs.Tables.{IsSum-from_test, test-from_IsSum}
use Rattle.frag_model.proofs.Uncoded.{line_of_piece}
use Rattle.row_elimination.specs.declared.stages.Stage.TheVariants as stage
use Rattle.row_elimination.specs.HeldPlaces.{Place, free, piece, row, told, is_piece, pieces_held, rows_held, gained_held, lines_held, grown, FitsHeld}
use Rattle.row_elimination.specs.Inside.{IsReduced}
use Rattle.row_arena.specs.Stretch.{stretch}
use Rattle.row_elimination.specs.HeldSteps.{IsNew, Knows, Tells, Agrees, AgreesAll, Reduced}
use Rattle.row_elimination.specs.HeldTable.{Grid, SameRoom}
use Rattle.row_elimination.specs.HeldSolver.{Held, IsMarked, line_for, equation_for, IsLeft, is_new_piece, Takes, Receives, Completes, Contradicts, Overflows}
use Rattle.row_elimination.specs.HeldTaking.{held_of, IsReady, IsZero, stage_after, FedAs, DecidedAs}
use Rattle.row_elimination.specs.declared.stages.Fed.{Fed}
use Rattle.row_elimination.specs.declared.stages.Fed.TheVariants as fed
use Rattle.row_elimination.proofs.Agreeing.{agrees_from_meets, meets_from_agrees}
use Rattle.row_elimination.proofs.Telling.{agrees_from_fits, fits_from_agrees, told-sum}
use Rattle.row_elimination.proofs.Saying.{Says, says_same, says_grown, says_settled, knows_piece, is_new_row, no_sum, lead_was_free, contradicts}
use Rattle.row_elimination.proofs.Growing.{at_old, new_at}
use Rattle.row_elimination.proofs.Blocks.{some_fitting, two_fitting, alone_line, alone_piece}
use Rattle.row_elimination.proofs.Counting.{one, one_true, one_false, rows_grown, pieces_grown, is_piece-cleared, some_free, none_free}
use Rattle.row_elimination.proofs.Settling.{settled_pieces, settled_rows, settled_reduced, settled_gained, learned_row}

-- ---- a fragment that was taken in

left_agrees : (old : Held) (n : ℕ) (part : List ℕ) (b : List (List ℕ)) → IsLeft old n part b → AgreesAll b old.places × Agrees b (line_for old n) part
unfolding equation_for
left_agrees old n part b h = (agrees_from_fits old.shape old.places b h.fits, agrees_from_meets old.shape.frag_size b (equation_for old n part) h.meets)

agrees_left : (old : Held) (n : ℕ) (part : List ℕ) (b : List (List ℕ)) → IsReduced old.shape.nb_frag old.shape.frag_size old.places → length part ≡ old.shape.frag_size → IsBlock old.shape b
    → AgreesAll b old.places → Agrees b (line_for old n) part → IsLeft old n part b
unfolding equation_for
agrees_left old n part b t sized block all here = record {
  fits = fits_from_agrees old.shape old.places b t block all;
  meets = meets_from_agrees old.shape.frag_size b (equation_for old n part) (recursion_from_All (IsPiece old.shape.frag_size) b block.pieces) sized here;
}

same_answer : (s t : Bool) → (s ≡ true → t ≡ true) → (t ≡ true → s ≡ true) → s ≡ t
same_answer true true f g = refl
same_answer true false f g = sym (f refl)
same_answer false true f g = g refl
same_answer false false f g = refl

-- places that say the equation, with what is marked and counted
takes : (old new : Held) (n : ℕ) (part : List ℕ) → IsReduced old.shape.nb_frag old.shape.frag_size old.places → length part ≡ old.shape.frag_size
    → new.shape ≡ old.shape → new.extent ≡ old.extent → Says old.shape old.places new.places (line_for old n) part
    → ((c : ℕ) → c < old.shape.nb_frag → IsMarked new c ↔ (IsMarked old c ⊎ (n ≡ suc c)))
    → pieces_held new.places ≡ pieces_held old.places + (if is_new_piece old n then 1 else 0)
    → rows_held new.places ≤ old.shape.rows → Takes old new n part
takes old new n part t sized e a says marked pieces room = record {
  shape = e;
  extent = a;
  fits = λ b.
      let P : Shape → Type 0 = λ s. FitsHeld s new.places b ↔ IsLeft old n part b in
      subst P (sym e) (
        (λ h. let r = says.agrees b (agrees_from_fits old.shape new.places b h) in agrees_left old n part b t sized h.shaped r.0 r.1),
        (λ h. let r = left_agrees old n part b h in fits_from_agrees old.shape new.places b says.reduced h.fits.shaped (says.from b r.0 r.1)),
      );
  sums = λ x.
      same_answer (is_sum x (lines_held new.places)) (is_sum x (line_for old n ∷ lines_held old.places))
      (λ h. test-from_IsSum x (line_for old n ∷ lines_held old.places) (says.to_sums x (IsSum-from_test x (lines_held new.places) h)))
      (λ h. test-from_IsSum x (lines_held new.places) (says.from_sums x (IsSum-from_test x (line_for old n ∷ lines_held old.places) h)));
  marked = marked;
  pieces = pieces;
  gained = says.gained;
  room = subst (λ (s : Shape). rows_held new.places ≤ s.rows) (sym e) room;
}

-- what is marked, where no piece came
marked_coded : (old new : Held) (n : ℕ) → old.shape.nb_frag < n → ((c : ℕ) → is_piece (get_or new.places c free) ≡ is_piece (get_or old.places c free))
    → (c : ℕ) → c < old.shape.nb_frag → IsMarked new c ↔ (IsMarked old c ⊎ (n ≡ suc c))
marked_coded old new n lt same c below = (λ h. inl (sym (same c) ∙ h), λ h. elim h [ inl m ↦ same c ∙ m | inr e ↦ absurd (omega arith) ])

-- and where one came
marked_piece : (old new : Held) (n k : ℕ) → n ≡ suc k → is_piece (get_or new.places k free) ≡ true → ((c : ℕ) → c ≢ k → is_piece (get_or new.places c free) ≡ is_piece (get_or old.places c free))
    → (c : ℕ) → c < old.shape.nb_frag → IsMarked new c ↔ (IsMarked old c ⊎ (n ≡ suc c))
marked_piece old new n k is here same c below = elim (cases_eq c k) [
  | inl e ↦ (λ h. inr (is ∙ ap suc (sym e)), λ h. ap (λ m. is_piece (get_or new.places m free)) e ∙ here)
  | inr other ↦ (λ h. inl (sym (same c other) ∙ h), λ h. elim h [ inl m ↦ same c other ∙ m | inr e ↦ absurd (other (omega arith)) ])
]

abbrev extra : Bool → ℕ
extra t = if t then 1 else 0

not_new_coded : (old : Held) (n : ℕ) → old.shape.nb_frag < n → extra (is_new_piece old n) ≡ 0
unfolding is_new_piece
not_new_coded old n lt = ap extra (and_left (nat_le n old.shape.nb_frag) (not (is_piece (get_or old.places (n - 1) free))) (lt-leb n old.shape.nb_frag lt))

new_or_not : (old : Held) (n k : ℕ) → n ≡ suc k → n ≤ old.shape.nb_frag → extra (is_new_piece old n) + one (is_piece (get_or old.places k free)) ≡ 1
unfolding is_new_piece
new_or_not old n k is le =
    let at : get_or old.places (n - 1) free ≡ get_or old.places k free = ap (λ m. get_or old.places m free) (let e : n - 1 ≡ k = omega arith in e) in
    elim (cases_Bool (is_piece (get_or old.places k free))) [
      | inl at_true ↦
          let no : extra (nat_le n old.shape.nb_frag && not (is_piece (get_or old.places (n - 1) free))) ≡ 0 =
          ap extra (and_right (nat_le n old.shape.nb_frag) (not (is_piece (get_or old.places (n - 1) free))) (ap not (ap is_piece at ∙ at_true))) in
          omega (arith, no, one_true (is_piece (get_or old.places k free)) at_true)
      | inr at_false ↦
          let yes : extra (nat_le n old.shape.nb_frag && not (is_piece (get_or old.places (n - 1) free))) ≡ 1 =
          ap extra (and_from (nat_le n old.shape.nb_frag) (not (is_piece (get_or old.places (n - 1) free))) (le-leb n old.shape.nb_frag le) (ap not (ap is_piece at ∙ at_false))) in
          omega (arith, yes, one_false (is_piece (get_or old.places k free)) at_false)
    ]

set_kind : (ps : List Place) (k c : ℕ) (part : List ℕ) → c ≢ k → is_piece (get_or (set ps k (piece part)) c free) ≡ is_piece (get_or ps c free)
set_kind ps k c part ne = ap is_piece (get_or-set_other ps k c (piece part) free ne)

set_here : (ps : List Place) (k : ℕ) (part : List ℕ) → k < length ps → is_piece (get_or (set ps k (piece part)) k free) ≡ true
unfolding is_piece
set_here ps k part lt = ap is_piece (get_or-set_same ps k (piece part) free lt)

grown_kind : (cols size : ℕ) (ps : List Place) (p y : ℕ) (q : List ℕ) → IsNew cols size ps p y q → (c : ℕ) → is_piece (get_or (grown p y q ps) c free) ≡ is_piece (get_or ps c free)
unfolding is_piece
grown_kind cols size ps p y q new c = elim (cases_eq c p) [
  | inl e ↦
      ap (λ n. is_piece (get_or (grown p y q ps) n free)) e ∙ ap is_piece (new_at cols size ps p y q new)
      ∙ sym (ap (λ n. is_piece (get_or ps n free)) e ∙ ap is_piece (lead_was_free cols size ps p y q new))
  | inr ne ↦ ap is_piece (at_old p y c q ps ne) ∙ is_piece-cleared p y q (get_or ps c free)
]

-- ---- the four ways of taking a fragment in

pub number_piece : (nb n k : ℕ) → n ≡ suc k → n ≤ nb → line_of nb n ≡ 2 ^ k
number_piece nb n k is le = line_of_piece nb n le ∙ ap (λ m. 2 ^ m) (let e : n - 1 ≡ k = omega arith in e)

pub takes_coded_sum : (g : Grid) (n : ℕ) (part q : List ℕ) → IsReady g n part 0 q → IsZero q → g.shape.nb_frag < n → Takes (held_of stage.Receiving g) (held_of stage.Receiving g) n part
takes_coded_sum g n part q h none lt =
    let old = held_of stage.Receiving g in
    takes old old n part h.held h.piece.sized refl refl (says_same g.shape g.places (line_of g.shape.nb_frag n) part q h.held h.left none)
    (marked_coded old old n lt (λ c. refl)) (omega (arith, not_new_coded old n lt)) h.room

pub knows_sum : (g : Grid) (n k : ℕ) (part q : List ℕ) → IsReady g n part 0 q → IsZero q → n ≡ suc k → n ≤ g.shape.nb_frag → Knows g.shape g.places k part
knows_sum g n k part q h none is le =
    knows_piece g.shape g.places g.places k part
    (subst (λ l. Says g.shape g.places g.places l part) (number_piece g.shape.nb_frag n k is le) (says_same g.shape g.places (line_of g.shape.nb_frag n) part q h.held h.left none))
    (omega arith) h.piece

pub takes_known_piece : (g new : Grid) (n k : ℕ) (part q : List ℕ) → IsReady g n part 0 q → IsZero q → n ≡ suc k → n ≤ g.shape.nb_frag → SameRoom g new → new.places ≡ set g.places k (piece part)
    → Takes (held_of stage.Receiving g) (held_of stage.Receiving new) n part
takes_known_piece g new n k part q h none is le room places =
    let old = held_of stage.Receiving g in
    let next = held_of stage.Receiving new in
    let known = knows_sum g n k part q h none is le in
    let says = says_settled g.shape g.places g.places k (line_of g.shape.nb_frag n) part (says_same g.shape g.places (line_of g.shape.nb_frag n) part q h.held h.left none) known in
    let klt : k < length g.places = omega (arith, h.held.sized) in
    takes old next n part h.held h.piece.sized room.shape room.room (subst (λ ps. Says g.shape g.places ps (line_of g.shape.nb_frag n) part) (sym places) says)
    (marked_piece old next n k is (ap (λ ps. is_piece (get_or ps k free)) places ∙ set_here g.places k part klt)
    (λ c ne. ap (λ ps. is_piece (get_or ps c free)) places ∙ set_kind g.places k c part ne))
    (omega (arith, ap pieces_held places, settled_pieces g.shape g.places k part known, new_or_not old n k is le))
    (omega (arith, ap rows_held places, settled_rows g.shape g.places k part known, h.room))

pub takes_coded_row : (g new : Grid) (n p l : ℕ) (part q : List ℕ) → IsReady g n part l q → g.shape.nb_frag < n → p < g.shape.nb_frag → bit_at l p ≡ 1 → rows_held g.places < g.shape.rows
    → new ≡ record g { places = grown p l q g.places } → Takes (held_of stage.Receiving g) (held_of stage.Receiving new) n part
takes_coded_row g new n p l part q h lt plt own more e =
    let old = held_of stage.Receiving g in
    let after : Grid = record g { places = grown p l q g.places } in
    let next = held_of stage.Receiving after in
    let row_new = is_new_row g.shape.nb_frag g.shape.frag_size g.places (line_of g.shape.nb_frag n) part p l q h.held h.left plt own in
    let was = lead_was_free g.shape.nb_frag g.shape.frag_size g.places p l q row_new in
    let inside : p < length g.places = omega (arith, h.held.sized) in
    subst (λ x. Takes old (held_of stage.Receiving x) n part) (sym e)
    (takes old next n part h.held h.piece.sized refl refl (says_grown g.shape g.places (line_of g.shape.nb_frag n) part p l q h.held h.left plt own)
    (marked_coded old next n lt (grown_kind g.shape.nb_frag g.shape.frag_size g.places p l q row_new))
    (omega (arith, pieces_grown p l q g.places inside was, not_new_coded old n lt))
    (omega (arith, rows_grown p l q g.places inside was)))

pub knows_grown : (g : Grid) (n k p l : ℕ) (part q : List ℕ) → IsReady g n part l q → n ≡ suc k → n ≤ g.shape.nb_frag → p < g.shape.nb_frag → bit_at l p ≡ 1 → Knows g.shape (grown p l q g.places) k part
knows_grown g n k p l part q h is le plt own =
    knows_piece g.shape g.places (grown p l q g.places) k part
    (subst (λ x. Says g.shape g.places (grown p l q g.places) x part) (number_piece g.shape.nb_frag n k is le)
    (says_grown g.shape g.places (line_of g.shape.nb_frag n) part p l q h.held h.left plt own))
    (omega arith) h.piece

piece_tells : (k : ℕ) (s : Place) → is_piece s ≡ true → (r : List ℕ) × (told k s ≡ Some (record { line = 2 ^ k; part = r }))
unfolding is_piece told
piece_tells k free e = absurd (true≢false (sym e))
piece_tells k (piece r) e = (r, refl)
piece_tells k (row line r) e = absurd (true≢false (sym e))

-- a piece whose line is no sum did not come before
pub is_fresh : (g : Grid) (n k p l : ℕ) (part q : List ℕ) → IsReady g n part l q → n ≡ suc k → n ≤ g.shape.nb_frag → bit_at l p ≡ 1 → is_piece (get_or g.places k free) ≡ false
is_fresh g n k p l part q h is le own = elim (cases_Bool (is_piece (get_or g.places k free))) [
  | inr at_false ↦ at_false
  | inl at_true ↦
      let t = piece_tells k (get_or g.places k free) at_true in
      let sum : IsSum (line_of g.shape.nb_frag n) (lines_held g.places) =
      subst (λ z. IsSum z (lines_held g.places)) (sym (number_piece g.shape.nb_frag n k is le)) (told-sum k g.places (record { line = 2 ^ k; part = t.0 }) t.1) in
      absurd (false≢true (sym (no_sum g.shape.nb_frag g.shape.frag_size g.places (line_of g.shape.nb_frag n) part p l q h.held h.left own)
      ∙ test-from_IsSum (line_of g.shape.nb_frag n) (lines_held g.places) sum))
]

pub takes_new_piece : (g new : Grid) (n k p l : ℕ) (part q : List ℕ) → IsReady g n part l q → n ≡ suc k → n ≤ g.shape.nb_frag → p < g.shape.nb_frag → bit_at l p ≡ 1 → SameRoom g new
    → new.places ≡ set (grown p l q g.places) k (piece part) → Takes (held_of stage.Receiving g) (held_of stage.Receiving new) n part
takes_new_piece g new n k p l part q h is le plt own room places =
    let old = held_of stage.Receiving g in
    let next = held_of stage.Receiving new in
    let line : ℕ = line_of g.shape.nb_frag n in
    let known = knows_grown g n k p l part q h is le plt own in
    let fresh = is_fresh g n k p l part q h is le own in
    let row_new = is_new_row g.shape.nb_frag g.shape.frag_size g.places line part p l q h.held h.left plt own in
    let was = lead_was_free g.shape.nb_frag g.shape.frag_size g.places p l q row_new in
    let inside : p < length g.places = omega (arith, h.held.sized) in
    let says = says_settled g.shape g.places (grown p l q g.places) k line part (says_grown g.shape g.places line part p l q h.held h.left plt own) known in
    let klt : k < length (grown p l q g.places) = omega (arith, known.reduced.sized) in
    let kind = grown_kind g.shape.nb_frag g.shape.frag_size g.places p l q row_new in
    takes old next n part h.held h.piece.sized room.shape room.room (subst (λ ps. Says g.shape g.places ps line part) (sym places) says)
    (marked_piece old next n k is (ap (λ ps. is_piece (get_or ps k free)) places ∙ set_here (grown p l q g.places) k part klt)
    (λ c ne. ap (λ ps. is_piece (get_or ps c free)) places ∙ set_kind (grown p l q g.places) k c part ne ∙ kind c))
    (omega (
      arith,
      ap pieces_held places,
      settled_pieces g.shape (grown p l q g.places) k part known,
      new_or_not old n k is le,
      pieces_grown p l q g.places inside was,
      one_false (is_piece (get_or g.places k free)) fresh,
      one_false (is_piece (get_or (grown p l q g.places) k free)) (kind k ∙ fresh),
    ))
    (omega (
      arith,
      ap rows_held places,
      settled_rows g.shape (grown p l q g.places) k part known,
      rows_grown p l q g.places inside was,
      learned_row g.shape g.places k p l q part row_new known fresh,
      h.room,
    ))

-- ---- the answers

pub contradicted : (g : Grid) (n i : ℕ) (part q : List ℕ) → IsReady g n part 0 q → get_or q i 0 ≢ 0 → Contradicts (held_of stage.Receiving g) (held_of stage.Ended g) n part
contradicted g n i part q h some = record {
  kept = refl;
  none = λ b left.
      let r = left_agrees (held_of stage.Receiving g) n part b left in
      contradicts g.shape.nb_frag g.shape.frag_size g.places (line_of g.shape.nb_frag n) part q i b h.left some r.0 r.1;
}

pub overflowed : (g : Grid) (n p l : ℕ) (part q : List ℕ) → IsReady g n part l q → g.shape.nb_frag < n → p < g.shape.nb_frag → bit_at l p ≡ 1 → rows_held g.places ≡ g.shape.rows
    → Overflows (held_of stage.Receiving g) (held_of stage.Ended g) n part
overflowed g n p l part q h lt plt own full =
    let line : ℕ = line_of g.shape.nb_frag n in
    let says = says_grown g.shape g.places line part p l q h.held h.left plt own in
    let b = some_fitting g.shape (grown p l q g.places) says.reduced in
    let r = says.agrees b.0 b.2 in
    record {
      kept = refl;
      coded = lt;
      no_sum = no_sum g.shape.nb_frag g.shape.frag_size g.places line part p l q h.held h.left own;
      rows = full;
      left = (b.0, agrees_left (held_of stage.Receiving g) n part b.0 h.held h.piece.sized b.1 r.0 r.1);
    }

pub receives : (g new : Grid) (n : ℕ) (part : List ℕ) → Takes (held_of stage.Receiving g) (held_of stage.Receiving new) n part → IsReduced new.shape.nb_frag new.shape.frag_size new.places
    → 1 ≤ new.shape.frag_size → gained_held new.places < new.shape.nb_frag → Receives (held_of stage.Receiving g) (held_of stage.Receiving new) n part
receives g new n part t reduced some more =
    let f = some_free new.places (omega (arith, reduced.sized)) in
    let r = two_fitting new.shape new.places f.0 reduced some (omega (arith, f.1, reduced.sized)) f.2 in
    record {
      takes = t;
      stage = refl;
      two = (r.0, r.1, fits_from_agrees new.shape new.places r.0 reduced r.2 r.3, fits_from_agrees new.shape new.places r.1 reduced r.4 r.5, r.6);
    }

stretch_next : (c size : ℕ) (xs : List ℕ) → stretch (suc c) size xs ≡ stretch c size (drop size xs)
unfolding stretch
stretch_next c size xs =
    ap (λ n. take size (drop n xs)) (let e : suc c * size ≡ size + c * size = omega (arith, suc-mul c size) in e)
    ∙ ap (λ l. take size l) (sym (drop-drop (c * size) size xs))

stretch_first : (size : ℕ) (xs : List ℕ) → stretch 0 size xs ≡ take size xs
unfolding stretch
stretch_first size xs = ap (λ n. take size (drop n xs)) (zero-mul size)

concat_stretches : (size : ℕ) (b : List (List ℕ)) (xs : List ℕ) → ((c : ℕ) → c < length b → get_or b c [] ≡ stretch c size xs) → concat b ≡ take (length b * size) xs
concat_stretches size [] xs h = sym (ap (λ n. take n xs) (zero-mul size))
concat_stretches size (p ∷ b) xs h =
    let rest : concat b ≡ take (length b * size) (drop size xs) = concat_stretches size b (drop size xs) (λ c lt. h (suc c) (omega arith) ∙ stretch_next c size xs) in
    ap₂ (λ x y. x ++ y) (h 0 (omega arith) ∙ stretch_first size xs) rest
    ∙ sym (take-add size (length b * size) xs)
    ∙ ap (λ n. take n xs) (let e : size + length b * size ≡ suc (length b) * size = omega (arith, suc-mul (length b) size) in e)

-- once nothing is free, and all parts are in the area
pub completes : (g now new : Grid) (n : ℕ) (part : List ℕ) → length part ≡ g.shape.frag_size → IsReduced g.shape.nb_frag g.shape.frag_size g.places
    → Takes (held_of stage.Receiving g) (held_of stage.Receiving now) n part → IsReduced now.shape.nb_frag now.shape.frag_size now.places → gained_held now.places ≡ now.shape.nb_frag
    → new.places ≡ now.places → SameRoom now new → ((c : ℕ) (e : Equation) → Tells now.places c e → stretch c now.shape.frag_size new.area ≡ e.part)
    → Completes (held_of stage.Receiving g) (held_of stage.Complete new) n part
completes g now new n part sized held t reduced full places room parts =
    let old = held_of stage.Receiving g in
    let nb : ℕ = now.shape.nb_frag in
    let size : ℕ = now.shape.frag_size in
    let all : (k : ℕ) → k < nb → (e : Equation) × Tells now.places k e = λ k lt. none_free now.places k (omega (arith, reduced.sized)) (omega (arith, reduced.sized)) in
    let b = some_fitting now.shape now.places reduced in
    let pieces : (x : List (List ℕ)) → IsBlock now.shape x → AgreesAll x now.places → (c : ℕ) → c < nb → get_or x c [] ≡ stretch c size new.area = λ x block agrees c lt.
    let e = all c lt in
    alone_piece now.shape now.places x c e.0 reduced block agrees e.1 (alone_line nb size now.places c e.0 reduced all e.1) ∙ sym (parts c e.0 e.1) in
    let long : (x : List (List ℕ)) → IsBlock now.shape x → length x ≡ nb = λ x block. block.counted in
    let fits = fits_from_agrees now.shape now.places b.0 reduced b.1 b.2 in
    let content : take (nb * size) new.area ≡ concat b.0 =
    ap (λ m. take (m * size) new.area) (sym b.1.counted) ∙ sym (concat_stretches size b.0 new.area (λ c lt. pieces b.0 b.1 b.2 c (omega (arith, b.1.counted)))) in
    let rows : rows_held new.places ≤ new.shape.rows =
    let u : new.shape.rows ≡ now.shape.rows = ap (λ (s : Shape). s.rows) room.shape in
    omega (arith, ap rows_held places, t.room, u) in
    record {
      takes = record {
        shape = room.shape ∙ t.shape;
        extent = room.room ∙ t.extent;
        fits = λ x.
            let P : Shape → Type 0 = λ s. FitsHeld s new.places x ↔ IsLeft old n part x in
            let Q : List Place → Type 0 = λ ps. FitsHeld now.shape ps x ↔ IsLeft old n part x in
            subst P (sym room.shape) (subst Q (sym places) (t.fits x));
        sums = λ x. ap (λ ps. is_sum x (lines_held ps)) places ∙ t.sums x;
        marked = λ c lt.
            let Q : List Place → Type 0 = λ ps. (is_piece (get_or ps c free) ≡ true) ↔ (IsMarked old c ⊎ (n ≡ suc c)) in
            subst Q (sym places) (t.marked c lt);
        pieces = ap pieces_held places ∙ t.pieces;
        gained = ap gained_held places ∙ t.gained;
        room = rows;
      };
      stage = refl;
      full = ap gained_held places ∙ full ∙ sym (ap (λ (s : Shape). s.nb_frag) room.shape);
      one = (
        b.0,
        (t.fits b.0).0 fits,
        (λ other left.
            let f = (t.fits other).1 left in
            ext_get_or [] other b.0 (long other f.shaped ∙ sym (long b.0 b.1)) (λ c lt.
            let inside : c < nb = omega (arith, f.shaped.counted) in
            pieces other f.shaped (agrees_from_fits now.shape now.places other f) c inside ∙ sym (pieces b.0 b.1 b.2 c inside))),
        ap (λ (s : Shape). take (s.nb_frag * s.frag_size) new.area) room.shape ∙ content,
      );
    }

-- ---- as the code goes

same_room : (a b c : Grid) → SameRoom a b → SameRoom b c → SameRoom a c
same_room a b c h k = record { shape = k.shape ∙ h.shape; room = k.room ∙ h.room }

-- what decides after a fragment was taken in
pub decided : (answer : Fed) (g now new : Grid) (n : ℕ) (part : List ℕ) → length part ≡ g.shape.frag_size → IsReduced g.shape.nb_frag g.shape.frag_size g.places → 1 ≤ g.shape.frag_size
    → Takes (held_of stage.Receiving g) (held_of stage.Receiving now) n part → IsReduced now.shape.nb_frag now.shape.frag_size now.places → SameRoom g now → DecidedAs answer now new
    → FedAs answer (held_of stage.Receiving g) (held_of (stage_after answer) new) n part
unfolding DecidedAs FedAs stage_after
decided fed.Receiving g now new n part sized held some t reduced room d =
    let size : now.shape.frag_size ≡ g.shape.frag_size = ap (λ (s : Shape). s.frag_size) room.shape in
    subst (λ x. Receives (held_of stage.Receiving g) (held_of stage.Receiving x) n part) (sym d.0) (receives g now n part t reduced (omega (arith, size)) d.1)
decided fed.Complete g now new n part sized held some t reduced room d = completes g now new n part sized held t reduced d.2 d.0 d.1 d.3
decided fed.NoRows g now new n part sized held some t reduced room d = absurd d
decided fed.Conflict g now new n part sized held some t reduced room d = absurd d

pub decided_room : (answer : Fed) (g now new : Grid) → SameRoom g now → DecidedAs answer now new → SameRoom g new
unfolding DecidedAs
decided_room fed.Receiving g now new room d = subst (λ x. SameRoom g x) (sym d.0) room
decided_room fed.Complete g now new room d = same_room g now new room d.1
decided_room fed.NoRows g now new room d = absurd d
decided_room fed.Conflict g now new room d = absurd d

pub decided_held : (answer : Fed) (now new : Grid) → IsReduced now.shape.nb_frag now.shape.frag_size now.places → DecidedAs answer now new → IsReduced new.shape.nb_frag new.shape.frag_size new.places
unfolding DecidedAs
decided_held fed.Receiving now new h d = subst (λ (x : Grid). IsReduced x.shape.nb_frag x.shape.frag_size x.places) (sym d.0) h
decided_held fed.Complete now new h d =
    subst (λ (s : Shape). IsReduced s.nb_frag s.frag_size new.places) (sym d.1.shape) (subst (λ ps. IsReduced now.shape.nb_frag now.shape.frag_size ps) (sym d.0) h)
decided_held fed.NoRows now new h d = absurd d
decided_held fed.Conflict now new h d = absurd d

-- the table after a piece, or after a row
pub reduced_in : (g now : Grid) (ps : List Place) → SameRoom g now → now.places ≡ ps → IsReduced g.shape.nb_frag g.shape.frag_size ps → IsReduced now.shape.nb_frag now.shape.frag_size now.places
reduced_in g now ps room e h =
    subst (λ (s : Shape). IsReduced s.nb_frag s.frag_size now.places) (sym room.shape) (subst (λ x. IsReduced g.shape.nb_frag g.shape.frag_size x) (sym e) h)

pub room_grown : (g now : Grid) (ps : List Place) → now ≡ record g { places = ps } → SameRoom g now
room_grown g now ps e = record {
  shape = ap (λ (x : Grid). x.shape) e;
  room = ap (λ (x : Grid). x.room) e;
}

pub conflict_is : (g : Grid) (n i : ℕ) (part q : List ℕ) (l : ℕ) → l ≡ 0 → IsReady g n part l q → get_or q i 0 ≢ 0 → FedAs fed.Conflict (held_of stage.Receiving g) (held_of (stage_after fed.Conflict) g) n part
unfolding FedAs stage_after
conflict_is g n i part q l e h some = contradicted g n i part q (subst (λ x. IsReady g n part x q) e h) some

pub no_rows_is : (g : Grid) (n p l : ℕ) (part q : List ℕ) → IsReady g n part l q → g.shape.nb_frag < n → p < g.shape.nb_frag → bit_at l p ≡ 1 → rows_held g.places ≡ g.shape.rows
    → FedAs fed.NoRows (held_of stage.Receiving g) (held_of (stage_after fed.NoRows) g) n part
unfolding FedAs stage_after
no_rows_is g n p l part q h lt plt own full = overflowed g n p l part q h lt plt own full

-- a sum that is no piece changes nothing
pub sum_is : (g : Grid) (n : ℕ) (part q : List ℕ) (l : ℕ) → l ≡ 0 → IsReady g n part l q → IsZero q → g.shape.nb_frag < n → FedAs fed.Receiving (held_of stage.Receiving g) (held_of (stage_after fed.Receiving) g) n part
unfolding FedAs stage_after
sum_is g n part q l e h none lt =
    let ready = subst (λ x. IsReady g n part x q) e h in
    receives g g n part (takes_coded_sum g n part q ready none lt) h.held h.some h.more

pub known_piece_is : (g now : Grid) (n : ℕ) (part q : List ℕ) (l : ℕ) → l ≡ 0 → IsReady g n part l q → IsZero q → n ≤ g.shape.nb_frag → SameRoom g now → now.places ≡ set g.places (n - 1) (piece part)
    → FedAs fed.Receiving (held_of stage.Receiving g) (held_of (stage_after fed.Receiving) now) n part × IsReduced now.shape.nb_frag now.shape.frag_size now.places
unfolding FedAs stage_after
known_piece_is g now n part q l e h none le room places =
    let ready = subst (λ x. IsReady g n part x q) e h in
    let is : n ≡ suc (n - 1) = omega (arith, h.first) in
    let known = knows_sum g n (n - 1) part q ready none is le in
    let held = reduced_in g now (set g.places (n - 1) (piece part)) room places (settled_reduced g.shape g.places (n - 1) part known) in
    let size : now.shape.frag_size ≡ g.shape.frag_size = ap (λ (s : Shape). s.frag_size) room.shape in
    let nb : now.shape.nb_frag ≡ g.shape.nb_frag = ap (λ (s : Shape). s.nb_frag) room.shape in
    let same : gained_held now.places ≡ gained_held g.places = ap gained_held places ∙ settled_gained g.shape g.places (n - 1) part known in
    (receives g now n part (takes_known_piece g now n (n - 1) part q ready none is le room places) held (omega (arith, size, h.some)) (omega (arith, same, nb, h.more)), held)

-- a table that receives, and what was left of a fragment
pub ready_reduced : (g : Grid) (n : ℕ) (part : List ℕ) (line l : ℕ) (q : List ℕ) → line ≡ line_of g.shape.nb_frag n → IsReduced g.shape.nb_frag g.shape.frag_size g.places
    → rows_held g.places ≤ g.shape.rows → gained_held g.places < g.shape.nb_frag → 1 ≤ g.shape.frag_size → 1 ≤ n → IsPiece g.shape.frag_size part
    → Reduced g.shape.nb_frag g.shape.frag_size g.places line part l q → IsReady g n part l q
ready_reduced g n part line l q is held room more some first sized left = record {
  held = held;
  room = room;
  more = more;
  some = some;
  first = first;
  piece = sized;
  left = subst (λ (m : ℕ). Reduced g.shape.nb_frag g.shape.frag_size g.places m part l q) is left;
}
