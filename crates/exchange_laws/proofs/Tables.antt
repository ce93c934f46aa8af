-- What a setup and a fragment of the server make of the facts of a session.
use Rattle.std.proofs.Common.{◌≡◌, ◌≢◌, ℕ, zero, suc, ◌<◌, ◌==◌, Bool, true, false, cond, List, [], ◌∷◌, length, Option, None, Some, IfSome, is_none, option_map, refl, sym, ap, ◌∙◌, subst, arith}
use Rattle.std.specs.List.{slice_set}
use Rattle.frag_model.specs.Verdict.{Verdict, receiving, complete, no_rows, conflict, verdict, first_verdict}
use Rattle.frag_session.specs.declared.answers.Verdict.{Verdict as Shown}
use Rattle.frag_session.specs.declared.answers.Verdict.TheVariants as shown
use Rattle.frag_session.specs.declared.answers.Via.{Via}
use Rattle.frag_session.specs.declared.setups.Limits.{Limits}
use Rattle.frag_session.specs.declared.setups.SetupReq.{SetupReq}
use Rattle.frag_session.specs.Setup.{Room, setup_bits, same_setup}
use Rattle.frag_session.specs.Session.{Session, shape_of, seen_of, view_of, shown_verdict, new_session, renewed, after_setup, followed, after_fragment, drop_cause}
use Rattle.mc_group.specs.declared.group.Group.{Group}
use Rattle.mc_group.specs.Groups.{group_at}
use Rattle.image_slots.specs.Slots.{Slots}
use Rattle.device_core.specs.Fragments.{is_complete, is_whole, whole_file}
use Rattle.device_core.specs.SessionTable.{SessionTable, session_at, with_session, table_after_setup, table_after_fragment}
use Rattle.campaign_laws.proofs.OwnSession.{at_own}
use Rattle.exchange_laws.proofs.Facts.{HasIt, HasVerdict, IsOffered, IsOfferedBy}

-- ---- verdicts

first_stays : (v next : Verdict) (x : Shown) → shown_verdict v ≡ x → x ≢ shown.Receiving → shown_verdict (first_verdict v next) ≡ x
unfolding first_verdict shown_verdict
first_stays receiving next x is decided = absurd (decided (sym is))
first_stays (complete mark block) next x is decided = is
first_stays (no_rows mark) next x is decided = is
first_stays (conflict mark) next x is decided = is

followed_stays : (s : Session) (n : ℕ) (part : List ℕ) (mark : ℕ) (x : Shown) → (seen_of s).verdict ≡ x → x ≢ shown.Receiving → (seen_of (followed s n part mark)).verdict ≡ x
unfolding seen_of followed shape_of verdict
followed_stays s n part mark x is decided = first_stays _ _ x is decided

-- what is there, and has this verdict
IsDecided : Option Session → Shown → Type 0
IsDecided o x = (s : Session) × (o ≡ Some s) × ((seen_of s).verdict ≡ x)

fragment_by : (o : Option Session) (n : ℕ) (part : List ℕ) (mark : ℕ) (b : Bool) (x : Shown) → IsDecided o x → x ≢ shown.Receiving
    → IsDecided (cond b (option_map (λ y. followed y n part mark) o) o) x
unfolding IsDecided
fragment_by None n part mark b x (s, none, is) decided = absurd cc
fragment_by (Some y) n part mark true x (s, there, is) decided =
    let same : s ≡ y = cc in
    (followed y n part mark, refl, followed_stays y n part mark x (subst (λ (z : Session). (seen_of z).verdict ≡ x) same is) decided)
fragment_by (Some y) n part mark false x (s, there, is) decided = (s, there, is)

decided_in : (index : ℕ) (table : SessionTable) (x : Shown) → HasVerdict index table x → IsDecided (session_at table index) x
unfolding IsDecided
decided_in index table x h = (h.session, h.there, h.is)

put_in : (index : ℕ) (table : SessionTable) (o : Option Session) (x : Shown) → IsDecided o x → HasVerdict index (with_session table index o) x
unfolding IsDecided
put_in index table o x (s, there, is) = record { session = s; there = at_own table index o ∙ there; is = is }

pub fragment_stays : (index : ℕ) (via : Via) (n : ℕ) (part : List ℕ) (mark : ℕ) (table : SessionTable) (x : Shown) → x ≢ shown.Receiving
    → HasVerdict index table x → HasVerdict index (table_after_fragment index via n part mark table) x
unfolding after_fragment
fragment_stays index via n part mark table x decided h =
    put_in index table _ x (fragment_by (session_at table index) n part mark (is_none (drop_cause (session_at table index) via n part)) x (decided_in index table x h) decided)

-- ---- what is whole

whole_by : (v : Shown) (file : List ℕ) → is_complete v ≡ true → (mark : ℕ) × (v ≡ shown.Complete mark)
whole_by shown.Receiving file is = absurd cc
whole_by (shown.Complete mark) file is = (mark, refl)
whole_by (shown.NoRows mark) file is = absurd cc
whole_by (shown.Conflict mark) file is = absurd cc

was_whole : (index : ℕ) (table : SessionTable) (o : Option Session) → session_at table index ≡ o → is_whole (view_of o) ≡ true → (mark : ℕ) × HasVerdict index table (shown.Complete mark)
unfolding view_of
was_whole index table None there is = absurd cc
was_whole index table (Some s) there is =
    let v = whole_by (seen_of s).verdict [] is in
    (v.0, record { session = s; there = there; is = v.1 })

file_there : (index mark : ℕ) (table : SessionTable) → HasVerdict index table (shown.Complete mark) → (file : List ℕ) × (whole_file (view_of (session_at table index)) ≡ Some file)
unfolding view_of
file_there index mark table h = ((seen_of h.session).file, rw (h.there, h.is) refl)

-- after a fragment the image is there where the session is whole
pub fragment_offers : (image : List ℕ) (index : ℕ) (via : Via) (n : ℕ) (part : List ℕ) (mark : ℕ) (table : SessionTable) (old new : Slots)
    → IsOffered image index table old
    → IsOfferedBy image (is_whole (view_of (session_at table index))) (whole_file (view_of (session_at (table_after_fragment index via n part mark table) index))) old new
    → IsOffered image index (table_after_fragment index via n part mark table) new
fragment_offers image index via n part mark table old new k o at h = by (is_whole (view_of (session_at table index))) refl
  where
    by : (b : Bool) → is_whole (view_of (session_at table index)) ≡ b → HasIt image new
    by true was =
        let before = was_whole index table (session_at table index) refl was in
        o.has (k before.0 before.1)
    by false not_yet =
        let file = file_there index at (table_after_fragment index via n part mark table) h in
        o.next not_yet file.0 file.1

-- ---- a setup that was there already

same_self : (r : SetupReq) → same_setup r r ≡ true
unfolding same_setup
same_self r =
    let a : (r.index == r.index) ≡ true = grind arith in
    let b : (r.mask == r.mask) ≡ true = grind arith in
    let c : (r.nb_frag == r.nb_frag) ≡ true = grind arith in
    let d : (r.frag_size == r.frag_size) ≡ true = grind arith in
    let e : (r.algo == r.algo) ≡ true = grind arith in
    let f : (r.delay == r.delay) ≡ true = grind arith in
    let g : (r.padding == r.padding) ≡ true = grind arith in
    let h : (r.descriptor == r.descriptor) ≡ true = grind arith in
    rw (a, b, c, d, e, f, g, h) refl

renewed_same : (limits : Limits) (s : Session) (req : SetupReq) → s.setup ≡ req → renewed limits (Some s) req ≡ s
unfolding renewed
renewed_same limits s req is =
    let same : same_setup s.setup req ≡ true = ap (λ (r : SetupReq). same_setup s.setup r) (sym is) ∙ same_self s.setup in
    rw same refl

-- it keeps its session
IsKept : Option Session → SetupReq → Type 0
IsKept o req = IfSome o (λ s. s.setup ≡ req)

setup_by : (limits : Limits) (o : Option Session) (req : SetupReq) (b : Bool) (x : Shown) → IsKept o req → IsDecided o x → IsDecided (cond b (Some (renewed limits o req)) o) x
unfolding IsKept IsDecided
setup_by limits None req b x kept (s, none, is) = absurd cc
setup_by limits (Some y) req true x kept (s, there, is) =
    let same : s ≡ y = cc in
    (y, ap (λ (z : Session). Some z) (renewed_same limits y req kept), subst (λ (z : Session). (seen_of z).verdict ≡ x) same is)
setup_by limits (Some y) req false x kept (s, there, is) = (s, there, is)

pub setup_stays : (limits : Limits) (room : Room) (req : SetupReq) (table : SessionTable) (x : Shown) → IfSome (session_at table req.index) (λ s. s.setup ≡ req)
    → HasVerdict req.index table x → HasVerdict req.index (table_after_setup limits room req table) x
unfolding after_setup IsKept
setup_stays limits room req table x kept h =
    put_in req.index table _ x (setup_by limits (session_at table req.index) req (setup_bits limits room req == 0) x kept (decided_in req.index table x h))

new_open : (limits : Limits) (req : SetupReq) (mark : ℕ) → (seen_of (new_session limits req)).verdict ≡ shown.Complete mark → ⊥
unfolding new_session seen_of verdict shown_verdict
new_open limits req mark is = cc

setup_was : (limits : Limits) (o : Option Session) (req : SetupReq) (b : Bool) (mark : ℕ) → IsKept o req
    → IsDecided (cond b (Some (renewed limits o req)) o) (shown.Complete mark) → IsDecided o (shown.Complete mark)
unfolding IsKept IsDecided renewed
setup_was limits None req true mark kept (s, there, is) =
    let same : new_session limits req ≡ s = cc in
    absurd (new_open limits req mark (subst (λ (z : Session). (seen_of z).verdict ≡ shown.Complete mark) (sym same) is))
setup_was limits None req false mark kept (s, there, is) = (s, there, is)
setup_was limits (Some y) req true mark kept (s, there, is) = (s, sym (ap (λ (z : Session). Some z) (renewed_same limits y req kept)) ∙ there, is)
setup_was limits (Some y) req false mark kept (s, there, is) = (s, there, is)

-- no session is whole that was not before
pub setup_offers : (image : List ℕ) (limits : Limits) (room : Room) (req : SetupReq) (table : SessionTable) (slots : Slots)
    → IfSome (session_at table req.index) (λ s. s.setup ≡ req) → IsOffered image req.index table slots
    → IsOffered image req.index (table_after_setup limits room req table) slots
unfolding after_setup IsDecided IsKept
setup_offers image limits room req table slots kept k mark h =
    let new : Option Session = after_setup limits room (session_at table req.index) req in
    let now : IsDecided new (shown.Complete mark) = (h.session, sym (at_own table req.index new) ∙ h.there, h.is) in
    let was = setup_was limits (session_at table req.index) req (setup_bits limits room req == 0) mark kept now in
    k mark (record { session = was.0; there = was.1; is = was.2 })

-- ---- groups

pub group_put : (table : List (Option Group)) (id : ℕ) (x : Option Group) → id < length table → group_at (slice_set table id x) id ≡ x
group_put [] id x few = absurd (omega (arith, few))
group_put (y ∷ ys) zero x few = refl
group_put (y ∷ ys) (suc id) x few = group_put ys id x (omega (arith, few))
