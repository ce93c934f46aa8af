-- Each call of a slot, on every history that it stands for.
use Rattle.std.proofs.Common.{◌≡◌, ◌≢◌, ℕ, ◌+◌, ◌-◌, ◌*◌, ◌<◌, ◌≤◌, Bool, true, false, cond, not, ◌==◌, nat_lt, nat_le, ◌||◌, List, [], length, take, Option, Some, None, is_none, is_some, option_map, refl, sym, ap, ap₂, ◌∙◌, subst, arith, true≢false, ltb-false, eqb-true, eq-eqb, ne_eqb}
use Rattle.std.specs.List.{concat}
use Rattle.std.proofs.lemmas.Bool.{or_parts, eqb-false, leb-false, not-false}
use Rattle.frag_model.specs.Fragments.{Shape, file_of}
use Rattle.frag_model.specs.Verdict.{verdict, missing}
use Rattle.row_elimination.specs.HeldSolver.{Held as Solved, IsBegun, missing_of}
use Rattle.row_elimination.specs.Room.{has_room}
use Rattle.row_elimination.proofs.Standing.{feed_stands}
use Rattle.frag_session.specs.declared.setups.SetupReq.{SetupReq}
use Rattle.frag_model.specs.Limits.{max_frag_size, max_parity_index, max_pieces}
use Rattle.frag_session.specs.declared.setups.Limits.{Limits}
use Rattle.frag_session.specs.declared.answers.Via.{Via}
use Rattle.frag_session.specs.declared.answers.Cause.{Cause}
use Rattle.frag_session.specs.declared.answers.Cause.TheVariants as cause
use Rattle.frag_session.specs.declared.answers.Verdict.{Verdict as Shown}
use Rattle.frag_session.specs.declared.answers.Verdict.TheVariants as shown
use Rattle.frag_session.specs.declared.answers.Heard.TheVariants as answer
use Rattle.frag_session.specs.Setup.{Room, rows_of, too_long, setup_bits, bit_where, wrong_coding, too_large, other_descriptor, same_setup, lives}
use Rattle.frag_session.specs.Session.{Session, Seen, shape_of, followed, received_count, new_session, renewed, after_setup, excludes, cause_of, drop_cause, news_in, answer_of, after_fragment, seen_of, view_of, shown_verdict, shown_file, status_in, status_of}
use Rattle.frag_session.specs.Held as kept
use Rattle.frag_session.specs.Held.{HeldSlot, Held}
use Rattle.frag_session.specs.HeldView.{receiving_seen, done_seen, failed_seen}
use Rattle.frag_session.specs.HeldSteps.{session_setup, slot_cause, slot_seen, CanHear, told_of, news_between}
use Rattle.frag_session.specs.HeldHistory.{IsSetUp, Holds, Stands}
use Rattle.frag_session.proofs.Standing.{setup_kept, no_setup_kept}
use Rattle.frag_session.proofs.Telling.{told_news}

-- ---- setups

bit_none : (t : Bool) (value : ℕ) → 0 < value → bit_where t value ≡ 0 → t ≡ false
bit_none true value pos e = absurd (omega arith)
bit_none false value pos e = refl

-- a request without refusal makes a file
pub accepted : (limits : Limits) (room : Room) (req : SetupReq) → setup_bits limits room req ≡ 0 → (wrong_coding req ≡ false) × (too_large room limits.rows req ≡ false)
unfolding setup_bits
accepted limits room req e =
    let a : ℕ = bit_where (wrong_coding req) 1 in
    let b : ℕ = bit_where (too_large room limits.rows req) 2 in
    let c : ℕ = bit_where (nat_le limits.sessions req.index) 4 in
    let d : ℕ = bit_where (other_descriptor limits.descriptor req.descriptor) 8 in
    let none : (a + b + c + d ≡ 0) → (a ≡ 0) × (b ≡ 0) = λ z. (omega arith, omega arith) in
    (bit_none (wrong_coding req) 1 (omega arith) (none e).0, bit_none (too_large room limits.rows req) 2 (omega arith) (none e).1)

pub set_up_fine : (req : SetupReq) → wrong_coding req ≡ false → IsSetUp req
unfolding wrong_coding
set_up_fine req e =
    let r = or_parts (not (req.algo == 0) || req.nb_frag == 0 || req.frag_size == 0) (nat_le req.frag_size req.padding) e in
    let q = or_parts (not (req.algo == 0) || req.nb_frag == 0) (req.frag_size == 0) r.0 in
    let p = or_parts (not (req.algo == 0)) (req.nb_frag == 0) q.0 in
    let count : req.nb_frag ≡ 0 → ⊥ = eqb-false req.nb_frag 0 p.1 in
    let size : req.frag_size ≡ 0 → ⊥ = eqb-false req.frag_size 0 q.1 in
    let pad : req.padding < req.frag_size = leb-false req.frag_size req.padding r.1 in
    record { some = omega arith; sized = omega arith; short = pad }

-- what is not too large has room
pub record HasRoom (room : Room) (rows : ℕ) (req : SetupReq) : Type 0 where
  pub long : too_long room.span req ≡ false
  pub most : req.nb_frag ≤ max_pieces
  pub small : req.frag_size ≤ max_frag_size
  pub room_is : has_room room.words room.bytes room.extent req.nb_frag req.frag_size (rows_of rows req) ≡ true

pub room_for : (room : Room) (rows : ℕ) (req : SetupReq) → too_large room rows req ≡ false → HasRoom room rows req
unfolding too_large
room_for room rows req e =
    let r = or_parts (too_long room.span req || nat_lt max_pieces req.nb_frag || nat_lt max_frag_size req.frag_size) (not (has_room room.words room.bytes room.extent req.nb_frag req.frag_size (rows_of rows req))) e in
    let q = or_parts (too_long room.span req || nat_lt max_pieces req.nb_frag) (nat_lt max_frag_size req.frag_size) r.0 in
    let p = or_parts (too_long room.span req) (nat_lt max_pieces req.nb_frag) q.0 in
    record { long = p.0; most = ltb-false max_pieces req.nb_frag p.1; small = ltb-false max_frag_size req.frag_size q.1; room_is = not-false _ r.1 }

-- a solver that has just begun stands for a session that heard nothing
pub begun_holds : (limits : Limits) (req : SetupReq) (solver : Solved) → wrong_coding req ≡ false → IsBegun solver
    → solver.shape ≡ record { nb_frag = req.nb_frag; frag_size = req.frag_size; rows = rows_of limits.rows req }
    → Holds (record { setup = req; received = 0; solver = solver }) (new_session limits req)
unfolding new_session shape_of
begun_holds limits req solver fine begun shape = record {
  setup = refl;
  fine = set_up_fine req fine;
  shape = shape;
  received = refl;
  stands = feed_stands.begun solver begun;
}

-- a setup that is accepted where no session lives that is made of an equal request
pub renews : (limits : Limits) (x new : HeldSlot) (s : Option Session) (room : Room) (req : SetupReq) → setup_bits limits room req ≡ 0 → lives (session_setup x) req ≡ false → Stands x s
    → Stands new (Some (new_session limits req)) → Stands new (after_setup limits room s req)
unfolding renewed lives after_setup
renews limits x new None room req e other k begun =
    subst (λ t. Stands new (cond t (Some (new_session limits req)) None)) (sym (eq-eqb _ _ e)) begun
renews limits x new (Some s) room req e other k begun =
    let apart : same_setup s.setup req ≡ false = sym (ap (λ o. lives o req) (setup_kept x s k)) ∙ other in
    subst (λ t. Stands new (cond t (Some (cond (same_setup s.setup req) s (new_session limits req))) (Some s))) (sym (eq-eqb _ _ e))
    (subst (λ t. Stands new (Some (cond t s (new_session limits req)))) (sym apart) begun)

-- one that is accepted where one does
pub keeps : (limits : Limits) (x : HeldSlot) (s : Option Session) (room : Room) (req : SetupReq) → setup_bits limits room req ≡ 0 → lives (session_setup x) req ≡ true → Stands x s
    → Stands x (after_setup limits room s req)
unfolding renewed lives after_setup
keeps limits x None room req e equal k = absurd (true≢false (sym equal ∙ ap (λ o. lives o req) (no_setup_kept x k)))
keeps limits x (Some s) room req e equal k =
    let same : same_setup s.setup req ≡ true = sym (ap (λ o. lives o req) (setup_kept x s k)) ∙ equal in
    subst (λ t. Stands x (cond t (Some (cond (same_setup s.setup req) s (new_session limits req))) (Some s))) (sym (eq-eqb _ _ e))
    (subst (λ t. Stands x (Some (cond t s (new_session limits req)))) (sym same) k)

-- one that is refused
pub refuses : (limits : Limits) (x : HeldSlot) (s : Option Session) (room : Room) (req : SetupReq) → setup_bits limits room req ≢ 0 → Stands x s → Stands x (after_setup limits room s req)
unfolding after_setup
refuses limits x s room req ne k = subst (λ t. Stands x (cond t (Some (renewed limits s req)) s)) (sym (ne_eqb _ _ ne)) k

-- ---- fragments

not_first : {A : Type 0} (t : Bool) (a : A) (rest : Option A) → cond t (Some a) rest ≡ None → (t ≡ false) × (rest ≡ None)
not_first true a rest e = let h : ⊥ = cc in absurd h
not_first false a rest e = (refl, e)

-- a fragment that is not dropped has a number and the size of the session's
pub can_hear : (setup : SetupReq) (way : Via) (n : ℕ) (part : List ℕ) → cause_of setup way n part ≡ None → (1 ≤ n) × (n ≤ setup.nb_frag + max_parity_index) × (length part ≡ setup.frag_size)
unfolding cause_of
can_hear setup way n part e =
    let a = not_first (excludes setup.mask way) cause.Group _ e in
    let b = not_first (n == 0 || nat_lt (setup.nb_frag + max_parity_index) n) cause.Index _ a.1 in
    let c = not_first (not (length part == setup.frag_size)) cause.Size _ b.1 in
    let r = or_parts (n == 0) (nat_lt (setup.nb_frag + max_parity_index) n) b.0 in
    let some : n ≡ 0 → ⊥ = eqb-false n 0 r.0 in
    (omega arith, ltb-false _ _ r.1, eqb-true _ _ (not-false _ c.0))

same_cause : (x : HeldSlot) (s : Option Session) (way : Via) (n : ℕ) (part : List ℕ) → Stands x s → slot_cause (session_setup x) way n part ≡ drop_cause s way n part
unfolding slot_cause drop_cause
same_cause x None way n part k = ap (λ o. slot_cause o way n part) (no_setup_kept x k)
same_cause x (Some s) way n part k = ap (λ o. slot_cause o way n part) (setup_kept x s k)

pub dropped_answer : (x : HeldSlot) (s : Option Session) (way : Via) (n : ℕ) (part : List ℕ) (mark : ℕ) (c : Cause) → Stands x s → Some c ≡ slot_cause (session_setup x) way n part
    → answer.Dropped c ≡ answer_of (drop_cause s way n part) (news_in s n part mark)
unfolding answer_of
dropped_answer x s way n part mark c k e = ap (λ (o : Option Cause). answer_of o (news_in s n part mark)) (e ∙ same_cause x s way n part k)

pub heard_answer : (x new : HeldSlot) (s : Option Session) (way : Via) (n : ℕ) (part : List ℕ) (mark : ℕ) → Stands x s → None ≡ slot_cause (session_setup x) way n part
    → ((y : Session) → Stands x (Some y) → Stands new (Some (followed y n part mark)))
    → answer.Fed (news_between (told_of x) (told_of new)) ≡ answer_of (drop_cause s way n part) (news_in s n part mark)
unfolding answer_of drop_cause
heard_answer x new None way n part mark k e heard =
    let is : Some cause.NoSession ≡ None = sym (same_cause x None way n part k) ∙ sym e in
    let h : ⊥ = cc in absurd h
heard_answer x new (Some s) way n part mark k e heard =
    ap answer.Fed (told_news x new s n part mark k (heard s k))
    ∙ ap (λ (o : Option Cause). answer_of o (news_in (Some s) n part mark)) (e ∙ same_cause x (Some s) way n part k)

-- a fragment that is dropped changes no history
pub dropped_stands : (x : HeldSlot) (s : Option Session) (way : Via) (n : ℕ) (part : List ℕ) (mark : ℕ) (c : Cause) → Stands x s → Some c ≡ slot_cause (session_setup x) way n part → Stands x (after_fragment s way n part mark)
unfolding after_fragment
dropped_stands x s way n part mark c k e =
    let is : drop_cause s way n part ≡ Some c = sym (same_cause x s way n part k) ∙ sym e in
    subst (λ o. Stands x (cond (is_none o) (option_map (λ y. followed y n part mark) s) s)) (sym is) k

-- one that is not follows each history
pub heard_stands : (x new : HeldSlot) (s : Option Session) (way : Via) (n : ℕ) (part : List ℕ) (mark : ℕ) → Stands x s → None ≡ slot_cause (session_setup x) way n part
    → ((y : Session) → Stands x (Some y) → Stands new (Some (followed y n part mark))) → Stands new (after_fragment s way n part mark)
unfolding after_fragment drop_cause
heard_stands x new None way n part mark k e heard =
    let is : Some cause.NoSession ≡ None = sym (same_cause x None way n part k) ∙ sym e in
    let h : ⊥ = cc in absurd h
heard_stands x new (Some s) way n part mark k e heard =
    let is : cause_of s.setup way n part ≡ None = sym (same_cause x (Some s) way n part k) ∙ sym e in
    subst (λ o. Stands new (cond (is_none o) (Some (followed s n part mark)) (Some s))) (sym is) (heard s k)

-- what is held can take it
pub can_hear_kept : (x : HeldSlot) (way : Via) (n : ℕ) (part : List ℕ) → None ≡ slot_cause (session_setup x) way n part → CanHear x n part
unfolding CanHear slot_cause session_setup
can_hear_kept (kept.idle extent) way n part e = tt
can_hear_kept (kept.receiving h) way n part e = can_hear h.setup way n part (sym e)
can_hear_kept (kept.complete d) way n part e = tt
can_hear_kept (kept.overflowed f) way n part e = tt
can_hear_kept (kept.conflicted f) way n part e = tt

-- ---- what is shown

seen_same : (r r' m m' : ℕ) (v v' : Shown) (f f' : List ℕ) → r ≡ r' → m ≡ m' → v ≡ v' → f ≡ f'
    → ◌≡◌ {A = Option Seen} (Some (record { received = r; missing = m; verdict = v; file = f })) (Some (record { received = r'; missing = m'; verdict = v'; file = f' }))
seen_same r r' m m' v v' f f' er em ev ef =
    ap₂ (λ a b. Some (record { received = a; missing = b; verdict = v; file = f })) er em
    ∙ ap₂ (λ a b. Some (record { received = r'; missing = m'; verdict = a; file = b })) ev ef

pub shows : (x : HeldSlot) (s : Option Session) → Stands x s → slot_seen x ≡ view_of s
unfolding Stands slot_seen view_of receiving_seen done_seen failed_seen seen_of shown_verdict shown_file file_of shape_of
shows (kept.idle extent) None k = refl
shows (kept.idle extent) (Some s) k = absurd k
shows (kept.receiving h) None k = absurd k
shows (kept.receiving h) (Some s) k =
    let lack : missing_of h.solver ≡ missing (shape_of s) s.heard = sym (feed_stands.lacks h.solver s.heard k.stands) ∙ ap (λ (x : Shape). missing x s.heard) k.shape in
    let undecided : verdict (shape_of s) s.heard ≡ _ = ap (λ (x : Shape). verdict x s.heard) (sym k.shape) ∙ k.stands.undecided in
    seen_same h.received (received_count (length s.heard)) (missing_of h.solver) (missing (shape_of s) s.heard)
    shown.Receiving (shown_verdict (verdict (shape_of s) s.heard)) [] (shown_file s.setup.padding (shape_of s) (verdict (shape_of s) s.heard))
    k.received lack (ap shown_verdict (sym undecided)) (ap (λ v. shown_file s.setup.padding (shape_of s) v) (sym undecided))
shows (kept.complete d) None k = absurd k
shows (kept.complete d) (Some s) k =
    let w = k.1 in
    let pad : d.setup.padding ≡ s.setup.padding = ap (λ (q : SetupReq). q.padding) (sym w.setup) in
    let file : take (length d.solver.content - d.setup.padding) d.solver.content ≡ take (s.setup.nb_frag * s.setup.frag_size - s.setup.padding) (concat k.0) =
    ap₂ (λ a b. take (length d.solver.content - a) b) pad (sym w.content) ∙ ap (λ a. take (a - s.setup.padding) (concat k.0)) w.sized in
    seen_same d.received (received_count (length s.heard)) 0 (missing (shape_of s) s.heard)
    (shown.Complete d.mark) (shown_verdict (verdict (shape_of s) s.heard)) (take (length d.solver.content - d.setup.padding) d.solver.content) (shown_file s.setup.padding (shape_of s) (verdict (shape_of s) s.heard))
    w.received (sym w.nothing)
    (ap shown_verdict (sym w.decided)) (file ∙ ap (λ v. shown_file s.setup.padding (shape_of s) v) (sym w.decided))
shows (kept.overflowed f) None k = absurd k
shows (kept.overflowed f) (Some s) k =
    seen_same f.received (received_count (length s.heard)) f.missing (missing (shape_of s) s.heard)
    (shown.NoRows f.mark) (shown_verdict (verdict (shape_of s) s.heard)) [] (shown_file s.setup.padding (shape_of s) (verdict (shape_of s) s.heard))
    k.received (sym k.kept)
    (ap shown_verdict (sym k.decided)) (ap (λ v. shown_file s.setup.padding (shape_of s) v) (sym k.decided))
shows (kept.conflicted f) None k = absurd k
shows (kept.conflicted f) (Some s) k =
    seen_same f.received (received_count (length s.heard)) f.missing (missing (shape_of s) s.heard)
    (shown.Conflict f.mark) (shown_verdict (verdict (shape_of s) s.heard)) [] (shown_file s.setup.padding (shape_of s) (verdict (shape_of s) s.heard))
    k.received (sym k.kept)
    (ap shown_verdict (sym k.decided)) (ap (λ v. shown_file s.setup.padding (shape_of s) v) (sym k.decided))

-- a session lives where one is kept
pub lived : (x : HeldSlot) (s : Option Session) → Stands x s → is_some (session_setup x) ≡ is_some s
lived x None k = ap is_some (no_setup_kept x k)
lived x (Some s) k = ap is_some (setup_kept x s k)

-- ---- the status

pub status_shown : (x : HeldSlot) (s : Option Session) (setup : SetupReq) (seen : Seen) (way : Via) (all : Bool) → Stands x s → slot_seen x ≡ Some seen → session_setup x ≡ Some setup
    → status_in setup seen way all ≡ status_of s way all
unfolding status_of view_of
status_shown x None setup seen way all k sees keeps = let none = no_setup_kept x k in absurd cc
status_shown x (Some s) setup seen way all k sees keeps =
    let same_setup : s.setup ≡ setup = let is = setup_kept x s k in cc in
    let same_seen : seen_of s ≡ seen = let is = shows x (Some s) k in cc in
    ap₂ (λ a b. status_in a b way all) (sym same_setup) (sym same_seen)

pub status_unseen : (x : HeldSlot) (s : Option Session) (way : Via) (all : Bool) → Stands x s → slot_seen x ≡ None → status_of s way all ≡ None
unfolding status_of view_of
status_unseen x None way all k sees = refl
status_unseen x (Some s) way all k sees = let is = shows x (Some s) k in absurd cc

pub status_unkept : (x : HeldSlot) (s : Option Session) (way : Via) (all : Bool) → Stands x s → session_setup x ≡ None → status_of s way all ≡ None
unfolding status_of
status_unkept x None way all k keeps = refl
status_unkept x (Some s) way all k keeps = let is = setup_kept x s k in absurd cc
