-- What a setup and a deletion make of a session that is held, and what it shows.
use Rattle.std.proofs.Common.{◌≡◌, ◌≢◌, ◌⊎◌, ℕ, ◌+◌, ◌*◌, ◌≤◌, ◌==◌, Bool, true, false, ◌||◌, List, [], length, min, Option, Some, None, is_some, option_map, refl, sym, ap, ap₂, ◌∙◌, subst, inl, inr, arith}
use Rattle.std.specs.Prelude.{if◌then◌else◌, nat_le, nat_lt, not, ◌/◌, ◌%◌}
use Rattle.frag_model.specs.Limits.{max_frag_size, max_pieces}
use Rattle.row_elimination.specs.Room.{has_room}
use Rattle.std.proofs.lemmas.Bool.{ne_eqb}
use Rattle.frag_model.specs.Fragments.{Fragment, Shape}
use Rattle.frag_model.specs.News.{news, MeanTheSame}
use Rattle.frag_model.proofs.News.{means_itself}
use Rattle.row_elimination.specs.Room.{Extent}
use Rattle.frag_session.specs.declared.answers.Via.{Via}
use Rattle.frag_session.specs.declared.answers.StatusAns.{StatusAns}
use Rattle.frag_session.specs.declared.setups.Limits.{Limits}
use Rattle.frag_session.specs.declared.setups.SetupReq.{SetupReq}
use Rattle.frag_session.specs.Held.{HeldSlot}
use Rattle.frag_session.specs.Session.{Session, Seen, shape_of, received_count, new_session, renewed, after_setup, seen_of, view_of, shown_verdict, shown_file, answers, status_by, status_in, status_of}
use Rattle.frag_session.specs.Setup.{Room, memory_room, rows_of, too_long, bit_where, wrong_coding, too_large, other_descriptor, setup_bits, lives}
use Rattle.frag_session.specs.HeldHistory.{Stands}
use Rattle.frag_session.specs.HeldSteps.{extent_of}
use Rattle.frag_session.proofs.Calls.{accepted}
use Rattle.flash_session.specs.Body.{setup_bytes, setup_from, IsBody, FieldsFit}
use Rattle.flash_session.specs.HeldSession.{HeldSession, room_in}
use Rattle.flash_session.specs.Lies.{Stored, Lies, LiesAs, Fits, NoSession, IsStoredAs, new_stored}
use Rattle.flash_session.specs.Moments.{LeavesOnly}
use Rattle.flash_session.specs.Sessions.{stored_of, stored_as, IsOpenable, LiesForAs, hearing, HeldStands, HeldStandsAs, IsCount, CountsAs, IsHeldAs}
use Rattle.flash_session.proofs.Moments.{stays, weaker}
use Rattle.flash_session.specs.HeldCalls.{OldOrNew, OldNoneOrNew}
use Rattle.flash_session.specs.Ranges.{WasOrIs, WasNoneOrIs, Beginning}
use Rattle.flash_session.specs.Seen.{FlashSeen}
use Rattle.flash_session.proofs.Openable.{openable_fits, lies_for}

-- ---- what the slot stands for

no_more : (s : Session) (heard : List Fragment) → (hearing s heard).setup ≡ s.setup
unfolding hearing
no_more s heard = refl

pub lives_as : (h : HeldSession) (o : Option Session) (b : Bool) → HeldStandsAs h o → ((s : Option Session) → Stands h.slot s → b ≡ is_some s) → b ≡ is_some o
lives_as h None b held is = is None held
lives_as h (Some s) b held is = is (Some (hearing s held.slot.fed)) held.slot.stands

pub stored_lives : (o : Option Session) (body : List ℕ) (t : ℕ) → is_some (stored_as o body t) ≡ is_some o
stored_lives None body t = refl
stored_lives (Some s) body t = refl

pub keeps_as : (h : HeldSession) (o : Option Session) (req : SetupReq) (b : Bool) → HeldStandsAs h o
    → ((s : Option Session) → Stands h.slot s → b ≡ lives (option_map (λ (y : Session). y.setup) s) req) → b ≡ lives (option_map (λ (y : Session). y.setup) o) req
keeps_as h None req b held is = is None held
keeps_as h (Some s) req b held is = is (Some (hearing s held.slot.fed)) held.slot.stands ∙ ap (λ (x : SetupReq). lives (Some x) req) (no_more s held.slot.fed)

pub none_held : (h : HeldSession) (o : Option Session) → HeldStandsAs h o → is_some o ≡ false → HeldStandsAs h None
none_held h None held e = held
none_held h (Some s) held e = let no : ⊥ = cc in absurd no

pub none_there : (h : HeldSession) (o : Option Session) (seen : FlashSeen) → IsHeldAs h o seen → is_some o ≡ false → IsHeldAs h None seen
none_there h None seen held e = held
none_there h (Some s) seen held e = let no : ⊥ = cc in absurd no

pub some_held : (h : HeldSession) (b : Bool) → b ≡ true → HeldStandsAs h None → ((o : Option Session) → HeldStandsAs h o → b ≡ is_some o) → ⊥
some_held h b e held is = let no : true ≡ false = sym e ∙ is None held in cc

-- ---- a setup

pub refused_setup : (limits : Limits) (room : Room) (o : Option Session) (req : SetupReq) → setup_bits limits room req ≢ 0 → after_setup limits room o req ≡ o
unfolding after_setup
refused_setup limits room o req some = ap (λ (t : Bool). if t then Some (renewed limits o req) else o) (ne_eqb (setup_bits limits room req) 0 some)

fine_setup : (limits : Limits) (room : Room) (o : Option Session) (req : SetupReq) → setup_bits limits room req ≡ 0 → after_setup limits room o req ≡ Some (renewed limits o req)
unfolding after_setup
fine_setup limits room o req none = ap (λ (z : ℕ). if z == 0 then Some (renewed limits o req) else o) none

pub kept_setup : (limits : Limits) (room : Room) (o : Option Session) (req : SetupReq) → setup_bits limits room req ≡ 0 → lives (option_map (λ (y : Session). y.setup) o) req ≡ true → after_setup limits room o req ≡ o
unfolding renewed lives
kept_setup limits room None req none e = let no : ⊥ = cc in absurd no
kept_setup limits room (Some s) req none e = fine_setup limits room (Some s) req none ∙ ap (λ (t : Bool). Some (if t then s else new_session limits req)) e

pub new_setup : (limits : Limits) (room : Room) (o : Option Session) (req : SetupReq) → setup_bits limits room req ≡ 0 → lives (option_map (λ (y : Session). y.setup) o) req ≡ false
    → after_setup limits room o req ≡ Some (new_session limits req)
unfolding renewed lives
new_setup limits room None req none e = fine_setup limits room None req none
new_setup limits room (Some s) req none e = fine_setup limits room (Some s) req none ∙ ap (λ (t : Bool). Some (if t then s else new_session limits req)) e

-- what is accepted with so much flash is accepted without
pub in_memory : (limits : Limits) (room : Room) (req : SetupReq) → setup_bits limits room req ≡ 0 → setup_bits limits (memory_room room.words room.bytes room.extent) req ≡ 0
unfolding setup_bits too_large
in_memory limits room req e =
    let fine = accepted limits room req e in
    let rest : too_large (memory_room room.words room.bytes room.extent) limits.rows req ≡ false = or_front (too_long room.span req) (nat_lt max_pieces req.nb_frag) (nat_lt max_frag_size req.frag_size) (not (has_room room.words room.bytes room.extent req.nb_frag req.frag_size (rows_of limits.rows req))) fine.1 in
    let others : bit_where (wrong_coding req) 1 + 0 + bit_where (nat_le limits.sessions req.index) 4 + bit_where (other_descriptor limits.descriptor req.descriptor) 8 ≡ 0 = omega (arith, e) in
    ap (λ (t : Bool). bit_where (wrong_coding req) 1 + bit_where t 2 + bit_where (nat_le limits.sessions req.index) 4 + bit_where (other_descriptor limits.descriptor req.descriptor) 8) rest ∙ others
  where
    or_front : (a b c d : Bool) → (a || b || c || d) ≡ false → (false || b || c || d) ≡ false
    or_front false b c d e = e
    or_front true b c d e = let no : ⊥ = cc in absurd no

-- the body that is written is the setup's
pub body_written : (req : SetupReq) → FieldsFit req → IsBody (setup_bytes req) req
unfolding setup_bytes setup_from
body_written req fit = record {
  sized = refl;
  reads = λ i. record {
    index = (let e : (16 * req.index + req.mask) / 16 % 4 ≡ req.index = omega (arith, fit.index, fit.mask) in e) i;
    mask = (let e : (16 * req.index + req.mask) % 16 ≡ req.mask = omega (arith, fit.mask) in e) i;
    nb_frag = (let e : req.nb_frag % 256 + 256 * (req.nb_frag / 256) ≡ req.nb_frag = omega arith in e) i;
    frag_size = req.frag_size;
    algo = (let e : (8 * req.algo + req.delay) / 8 % 8 ≡ req.algo = omega (arith, fit.algo, fit.delay) in e) i;
    delay = (let e : (8 * req.algo + req.delay) % 8 ≡ req.delay = omega (arith, fit.delay) in e) i;
    padding = req.padding;
    descriptor = (let e : req.descriptor % 256 + 256 * (req.descriptor / 256 % 256) + 65536 * (req.descriptor / 65536 % 256) + 16777216 * (req.descriptor / 16777216) ≡ req.descriptor = omega arith in e) i;
  };
}

-- what is there as it is stored is there for the session
pub old_lies : (h : HeldSession) (o : Option Session) (seen : FlashSeen) (held : IsHeldAs h o seen) (c : List ℕ) → LiesAs h.base (stored_as o held.body h.tallies) c → LiesForAs h o c
old_lies h None seen held c lies = lies
old_lies h (Some s) seen held c lies = record {
  openable = held.stands.openable;
  body = held.body;
  tallies = h.tallies;
  its_body = held.its_body;
  counted = held.counted;
  lies = lies;
}

module _ (h : HeldSession) (req : SetupReq) (fine : setup_bits h.limits (room_in h) req ≡ 0) where
  new_is : hearing (new_session h.limits req) [] ≡ new_session h.limits req
  unfolding hearing new_session
  new_is = refl

  -- a session that has just begun can be opened
  pub new_openable : IsOpenable h (new_session h.limits req)
  unfolding new_session news shape_of
  new_openable = record { taken = fine; rows = refl; hearable = tt; ranged = tt }

  pub new_stands : (slot : HeldSlot) → Stands slot (Some (new_session h.limits req)) → extent_of slot ≡ extent_of h.slot
      → HeldStands (record h { slot = slot; records = 0; tallies = 0 }) (new_session h.limits req)
  unfolding new_session news shape_of hearing
  new_stands slot stands area = record {
    slot = record { fed = []; stands = stands; means = means_itself (shape_of (new_session h.limits req)) [] };
    openable = record { taken = ap (λ (z : Extent). setup_bits h.limits (record { words = h.words; bytes = h.bytes; extent = z; span = Some h.span }) req) area ∙ fine; rows = refl; hearable = tt; ranged = tt };
    records = refl;
    few = omega arith;
  }

  new_stored_is : new_stored (setup_bytes req) (2 * req.nb_frag + 1) req.frag_size ≡ stored_of (new_session h.limits req) (setup_bytes req) 0
  unfolding stored_of new_session news shape_of
  new_stored_is = refl

  new_setup_is : (new_session h.limits req).setup ≡ req
  unfolding new_session
  new_setup_is = refl

  pub new_counted : min (length (news (shape_of (new_session h.limits req)) (new_session h.limits req).heard) + 0) 16383 ≡ received_count (length (new_session h.limits req).heard)
  unfolding new_session news shape_of
  new_counted = refl

  new_body : FieldsFit req → IsBody (setup_bytes req) (new_session h.limits req).setup
  new_body fit = subst (IsBody (setup_bytes req)) (sym new_setup_is) (body_written req fit)

  pub new_fits : FieldsFit req → Fits h.span (new_stored (setup_bytes req) (2 * req.nb_frag + 1) req.frag_size)
  new_fits fit = subst (Fits h.span) (sym new_stored_is) (openable_fits h (new_session h.limits req) (setup_bytes req) 0 (new_body fit).sized new_openable)

  pub new_held : FieldsFit req → (slot : HeldSlot) (seen : FlashSeen) → Stands slot (Some (new_session h.limits req)) → extent_of slot ≡ extent_of h.slot
      → IsStoredAs h.base h.span (Some (new_stored (setup_bytes req) (2 * req.nb_frag + 1) req.frag_size)) seen
      → IsHeldAs (record h { slot = slot; records = 0; tallies = 0 }) (Some (new_session h.limits req)) seen
  new_held fit slot seen stands area stored = record {
    stands = new_stands slot stands area;
    counted = new_counted;
    body = setup_bytes req;
    its_body = new_body fit;
    stored = subst (λ (x : Stored). IsStoredAs h.base h.span (Some x) seen) new_stored_is stored;
  }

  -- it begins with this body, instead of what is held
  abbrev pub beginning : FieldsFit req → (o : Option Session) {seen : FlashSeen} (held : IsHeldAs h o seen) (b : Bool) → ((s : Option Session) → Stands h.slot s → b ≡ is_some s) → Beginning h.span b (setup_bytes req)
  beginning fit o {seen} held b is = record {
    before = stored_as o held.body h.tallies;
    as_told = lives_as h o b held.stands is ∙ sym (stored_lives o held.body h.tallies);
    most = 2 * req.nb_frag + 1;
    size = req.frag_size;
    fits = new_fits fit;
  }

  pub new_moments : FieldsFit req → (o : Option Session) {old new : FlashSeen} (held : IsHeldAs h o old)
      → LeavesOnly (WasNoneOrIs h.base (stored_as o held.body h.tallies) (Some (new_stored (setup_bytes req) (2 * req.nb_frag + 1) req.frag_size))) old new
      → LeavesOnly (OldNoneOrNew h o (Some (new_session h.limits req))) old new
  new_moments fit o {old} {new} held leaves =
      weaker (WasNoneOrIs h.base (stored_as o held.body h.tallies) (Some (new_stored (setup_bytes req) (2 * req.nb_frag + 1) req.frag_size))) (OldNoneOrNew h o (Some (new_session h.limits req)))
      (λ c lies. elim lies [
        | inl was ↦ inl (old_lies h o old held c was)
        | inr others ↦ elim others [
          | inl none ↦ inr (inl none)
          | inr is ↦ inr (inr (record {
            openable = new_openable;
            body = setup_bytes req;
            tallies = 0;
            its_body = new_body fit;
            counted = new_counted;
            lies = subst (λ (x : Stored). Lies h.base x c) new_stored_is is;
          }))
        ]
      ])
      leaves

-- no flash was called
pub unmoved : (h : HeldSession) (o : Option Session) (Q : List ℕ → Type 0) {seen : FlashSeen} → 24640 ≤ h.span → IsHeldAs h o seen
    → LeavesOnly (λ c. LiesForAs h o c ⊎ Q c) seen seen
unmoved h o Q {seen} long held = stays (λ c. LiesForAs h o c ⊎ Q c) (λ c now. inl (lies_for h o seen (omega (arith, long)) held c now))

-- ---- a deletion

pub deleted_moments : (h : HeldSession) (o : Option Session) {old new : FlashSeen} (held : IsHeldAs h o old) (b : Bool) → b ≡ true → ((s : Option Session) → Stands h.slot s → b ≡ is_some s)
    → ((s : Stored) → IsStoredAs h.base h.span (Some s) old → LeavesOnly (WasOrIs h.base (Some s) None) old new)
    → LeavesOnly (OldOrNew h o None) old new
deleted_moments h None {old} {new} held b e is leaves = let no : true ≡ false = sym e ∙ is None held.stands in let z : ⊥ = cc in absurd z
deleted_moments h (Some s) {old} {new} held b e is leaves =
    weaker (WasOrIs h.base (Some (stored_of s held.body h.tallies)) None) (OldOrNew h (Some s) None)
    (λ c lies. elim lies [ inl was ↦ inl (old_lies h (Some s) old held c was) | inr none ↦ inr none ])
    (leaves (stored_of s held.body h.tallies) held.stored)

pub deleted_held : (h : HeldSession) (o : Option Session) (slot : HeldSlot) {old new : FlashSeen} (held : IsHeldAs h o old) (b : Bool) → b ≡ true
    → ((s : Option Session) → Stands h.slot s → b ≡ is_some s) → Stands slot None
    → ((s : Stored) → IsStoredAs h.base h.span (Some s) old → IsStoredAs h.base h.span None new)
    → IsHeldAs (record h { slot = slot; records = 0; tallies = 0 }) None new
deleted_held h None slot {old} {new} held b e is stands ended = let no : true ≡ false = sym e ∙ is None held.stands in let z : ⊥ = cc in absurd z
deleted_held h (Some s) slot {old} {new} held b e is stands ended = record {
  stands = stands;
  counted = tt;
  body = [];
  its_body = tt;
  stored = ended (stored_of s held.body h.tallies) held.stored;
}

-- ---- what is shown

-- with another count
abbrev pub counting : ℕ → Seen → Seen
counting n seen = record seen { received = n }

shows_count : (s : Session) (fed : List Fragment) (n : ℕ) → MeanTheSame (shape_of s) fed s.heard → n ≡ received_count (length s.heard) → counting n (seen_of (hearing s fed)) ≡ seen_of s
unfolding seen_of hearing shape_of
shows_count s fed n means e =
    let shape : Shape = shape_of s in
    λ i. record {
      received = e i;
      missing = means.lacks i;
      verdict = shown_verdict (means.judged i);
      file = shown_file s.setup.padding shape (means.judged i);
    }

pub count_is : (h : HeldSession) (s : Session) → HeldStands h s → IsCount s h.tallies → min (h.records + h.tallies) 16383 ≡ received_count (length s.heard)
count_is h s held counts = ap (λ (z : ℕ). min (z + h.tallies) 16383) held.records ∙ counts

pub shown_as : (h : HeldSession) (o : Option Session) (n : ℕ) (v : Option Seen) → HeldStandsAs h o → CountsAs h o → n ≡ min (h.records + h.tallies) 16383
    → ((s : Option Session) → Stands h.slot s → v ≡ view_of s) → option_map (counting n) v ≡ view_of o
unfolding view_of
shown_as h None n v held counts e shown = ap (option_map (counting n)) (shown None held)
shown_as h (Some s) n v held counts e shown =
    ap (option_map (counting n)) (shown (Some (hearing s held.slot.fed)) held.slot.stands)
    ∙ ap Some (shows_count s held.slot.fed n held.slot.means (e ∙ count_is h s held counts))

abbrev pub answering : ℕ → StatusAns → StatusAns
answering n a = record a { received = n }

counted_answer : (setup : SetupReq) (seen : Seen) (way : Via) (all : Bool) (n : ℕ) → option_map (answering n) (status_in setup seen way all) ≡ status_in setup (counting n seen) way all
unfolding status_in status_by
counted_answer setup seen way all n = by_cases (answers setup seen way all)
  where
    by_cases : (t : Bool) → option_map (answering n) (if t then Some (status_by seen setup.delay) else None) ≡ (if t then Some (status_by (counting n seen) setup.delay) else None)
    by_cases true = refl
    by_cases false = refl

pub answered_as : (h : HeldSession) (o : Option Session) (way : Via) (all : Bool) (n : ℕ) (a : Option StatusAns) → HeldStandsAs h o → CountsAs h o → n ≡ min (h.records + h.tallies) 16383
    → ((s : Option Session) → Stands h.slot s → a ≡ status_of s way all) → option_map (answering n) a ≡ status_of o way all
unfolding status_of
answered_as h None way all n a held counts e answered = ap (option_map (answering n)) (answered None held)
answered_as h (Some s) way all n a held counts e answered =
    ap (option_map (answering n)) (answered (Some (hearing s held.slot.fed)) held.slot.stands)
    ∙ counted_answer (hearing s held.slot.fed).setup (seen_of (hearing s held.slot.fed)) way all n
    ∙ ap₂ (λ (x : SetupReq) (y : Seen). status_in x y way all) (no_more s held.slot.fed) (shows_count s held.slot.fed n held.slot.means (e ∙ count_is h s held counts))

-- ---- one history instead of an equal one

pub stands_equal : (h : HeldSession) (o p : Option Session) → p ≡ o → HeldStandsAs h o → HeldStandsAs h p
stands_equal h o p e held = subst (HeldStandsAs h) (sym e) held

pub held_equal : (h : HeldSession) (o p : Option Session) (seen : FlashSeen) → p ≡ o → IsHeldAs h o seen → IsHeldAs h p seen
held_equal h o p seen e held = subst (λ (x : Option Session). IsHeldAs h x seen) (sym e) held

-- what the fields say is said of what is held
pub bits_of : (h k : HeldSession) (req : SetupReq) (b : ℕ) → h ≡ k → b ≡ setup_bits h.limits (room_in h) req → b ≡ setup_bits k.limits (room_in k) req
bits_of h k req b e is = is ∙ ap (λ (x : HeldSession). setup_bits x.limits (room_in x) req) e

pub keeps_of : (h k : HeldSession) (req : SetupReq) (b : Bool) → h ≡ k → ((s : Option Session) → Stands h.slot s → b ≡ lives (option_map (λ (y : Session). y.setup) s) req)
    → (o : Option Session) → HeldStandsAs k o → b ≡ lives (option_map (λ (y : Session). y.setup) o) req
keeps_of h k req b e is o held = keeps_as h o req b (subst (λ (x : HeldSession). HeldStandsAs x o) (sym e) held) is

pub moments_new : (h : HeldSession) (o p q : Option Session) {old new : FlashSeen} → p ≡ q → LeavesOnly (OldNoneOrNew h o q) old new → LeavesOnly (OldNoneOrNew h o p) old new
moments_new h o p q {old} {new} e leaves = subst (λ (x : Option Session). LeavesOnly (OldNoneOrNew h o x) old new) (sym e) leaves

pub unmoved_setup : (h k : HeldSession) (o p : Option Session) {seen : FlashSeen} → h ≡ k → 24640 ≤ h.span → IsHeldAs k o seen → LeavesOnly (OldNoneOrNew k o p) seen seen
unmoved_setup h k o p {seen} e long held = unmoved k o (λ c. NoSession k.base c ⊎ LiesForAs k p c) (subst (λ (x : HeldSession). 24640 ≤ x.span) e long) held

-- the slot's view and answer are those of what is held
pub at_view : (h k : HeldSession) (v : Option Seen) → h ≡ k → ((s : Option Session) → Stands h.slot s → v ≡ view_of s) → (s : Option Session) → Stands k.slot s → v ≡ view_of s
at_view h k v e shown = subst (λ (x : HeldSession). (s : Option Session) → Stands x.slot s → v ≡ view_of s) e shown

pub at_answer : (h k : HeldSession) (way : Via) (all : Bool) (a : Option StatusAns) → h ≡ k → ((s : Option Session) → Stands h.slot s → a ≡ status_of s way all) → (s : Option Session) → Stands k.slot s → a ≡ status_of s way all
at_answer h k way all a e answered = subst (λ (x : HeldSession). (s : Option Session) → Stands x.slot s → a ≡ status_of s way all) e answered

pub counts_equal : (h : HeldSession) (o p : Option Session) → p ≡ o → CountsAs h o → CountsAs h p
counts_equal h o p e counts = subst (CountsAs h) (sym e) counts
