-- What is opened stands for what is there.
use Rattle.std.proofs.Common.{◌≡◌, ℕ, ◌+◌, ◌*◌, Bool, true, false, List, [], ◌∷◌, length, Option, Some, None, refl, sym, ap, ap₂, ◌∙◌, subst, min}
use Rattle.std.specs.Prelude.{if◌then◌else◌}
use Rattle.frag_model.specs.Fragments.{Fragment, Shape}
use Rattle.frag_model.specs.News.{is_new, news, MeanTheSame}
use Rattle.frag_model.proofs.News.{again, same}
use Rattle.row_elimination.specs.Room.{Extent}
use Rattle.frag_session.specs.declared.answers.Via.TheVariants as via
use Rattle.frag_session.specs.declared.answers.Cause.{Cause}
use Rattle.frag_session.specs.declared.answers.News.TheVariants as told
use Rattle.frag_session.specs.declared.answers.Heard.TheVariants as answer
use Rattle.frag_session.specs.declared.setups.Limits.{Limits}
use Rattle.frag_session.specs.declared.setups.SetupReq.{SetupReq}
use Rattle.frag_session.specs.Held.{HeldSlot}
use Rattle.frag_session.specs.Session.{Session, shape_of, new_session, cause_of, drop_cause, news_in, answer_of}
use Rattle.frag_session.specs.Setup.{setup_bits}
use Rattle.frag_session.specs.HeldSteps.{extent_of}
use Rattle.flash_session.specs.Body.{IsBody}
use Rattle.flash_session.specs.Contents.{Same}
use Rattle.flash_session.specs.declared.fault.OpenFault.{OpenFault}
use Rattle.flash_session.specs.declared.fault.OpenFault.TheVariants as fault
use Rattle.flash_session.specs.HeldSession.{HeldSession, room_in}
use Rattle.flash_session.specs.InRange.{AllInRange}
use Rattle.flash_session.specs.Layout.{body_at, gates_at, tallies_at, most_tallies}
use Rattle.flash_session.specs.Lies.{SpelledAt, GatesOpen, RecordsLie, Lies, IsStoredAs}
use Rattle.flash_session.specs.Opening as foreign
use Rattle.flash_session.specs.Opening.{IsFed, IsForeign, IsFirstForeign, NothingForeign, setup_there}
use Rattle.flash_session.specs.Replayed.{AllFed, HasHeader, IsOpened, IsEmpty}
use Rattle.flash_session.specs.Sessions.{stored_of, AreHearable, IsOpenable, LiesFor, LiesForAs, hearing, HeldStands, HeldStandsAs, IsCount, IsHeldBut, IsHeldAs}
use Rattle.flash_session.specs.Seen.{FlashSeen, IsKept}
use Rattle.flash_session.proofs.Found.{setup_read, nothing_foreign}
use Rattle.flash_session.proofs.Fronts.{one_count}
use Rattle.flash_session.proofs.Headers.{kept_within}
use Rattle.flash_session.proofs.Openable.{openable_same, openable_fits, setup_places}
use Rattle.flash_session.proofs.Unique.{one_list}

pub spelled_same : (at : ℕ) (piece : List ℕ) (d b : List ℕ) → Same d b → SpelledAt d at piece → SpelledAt b at piece
spelled_same at piece d b same lies = record { bytes = λ i lt. same.all (at + i) ∙ lies.bytes i lt }

-- ---- records that each tell something new

fed_parts : (d : Option Cause) (b : Bool) → answer_of d (if b then told.New else told.Old) ≡ answer.Fed told.New → (d ≡ None) × (b ≡ true)
unfolding answer_of
fed_parts None true e = (refl, refl)
fed_parts None false e = let no : ⊥ = cc in absurd no
fed_parts (Some c) b e = let no : ⊥ = cc in absurd no

is_fed : (d : Option Cause) (b : Bool) → d ≡ None → b ≡ true → answer_of d (if b then told.New else told.Old) ≡ answer.Fed told.New
unfolding answer_of
is_fed d b none new = ap₂ (λ (x : Option Cause) (t : Bool). answer_of x (if t then told.New else told.Old)) none new

fed_new : (s : Session) (older : List Fragment) (f : Fragment) → IsFed s older f → (cause_of s.setup via.Unicast f.number f.part ≡ None) × (is_new (shape_of s) f older ≡ true)
unfolding hearing drop_cause news_in shape_of
fed_new s older f fed = fed_parts (cause_of s.setup via.Unicast f.number f.part) (is_new (shape_of s) f older) fed

new_fed : (s : Session) (older : List Fragment) (f : Fragment) → cause_of s.setup via.Unicast f.number f.part ≡ None → is_new (shape_of s) f older ≡ true → IsFed s older f
unfolding hearing drop_cause news_in shape_of
new_fed s older f none new = is_fed (cause_of s.setup via.Unicast f.number f.part) (is_new (shape_of s) f older) none new

fed_hearable : (s : Session) (xs : List Fragment) → AllFed s xs → AreHearable s.setup xs
fed_hearable s [] fed = tt
fed_hearable s (f ∷ older) fed = ((fed_new s older f fed.0).0, fed_hearable s older fed.1)

all_news : (s : Session) (xs : List Fragment) → AllFed s xs → news (shape_of s) xs ≡ xs
unfolding news
all_news s [] fed = refl
all_news s (f ∷ older) fed =
    ap (λ (t : Bool). if t then f ∷ news (shape_of s) older else news (shape_of s) older) (fed_new s older f fed.0).1
    ∙ ap (λ (l : List Fragment). f ∷ l) (all_news s older fed.1)

one_fed : (s : Session) (f : Fragment) (older : List Fragment) → cause_of s.setup via.Unicast f.number f.part ≡ None → (t : Bool) → is_new (shape_of s) f older ≡ t → AllFed s (news (shape_of s) older)
    → AllFed s (if t then f ∷ news (shape_of s) older else news (shape_of s) older)
one_fed s f older heard true new rest = (new_fed s (news (shape_of s) older) f heard (again (shape_of s) f older ∙ new), rest)
one_fed s f older heard false old rest = rest

-- what a session keeps as records tells something new, each after those before it
pub news_fed : (s : Session) (xs : List Fragment) → AreHearable s.setup xs → AllFed s (news (shape_of s) xs)
unfolding news
news_fed s [] h = tt
news_fed s (f ∷ older) h = one_fed s f older h.0 (is_new (shape_of s) f older) refl (news_fed s older h.1)

means_back : (shape : Shape) (xs ys : List Fragment) → MeanTheSame shape xs ys → MeanTheSame shape ys xs
means_back shape xs ys m = record {
  judged = sym m.judged;
  lacks = sym m.lacks;
  knows = λ e.
      let k = m.knows (m.judged ∙ e) in
      record {
        fits = λ b. ((k.fits b).1, (k.fits b).0);
        sums = λ x. sym (k.sums x);
        gained = sym k.gained;
        pieces = sym k.pieces;
        marked = λ n le. ((k.marked n le).1, (k.marked n le).0);
      };
}

-- ---- without a session

module _ (h : HeldSession) (seen : FlashSeen) (kept : IsKept seen) where
  module _ (empty : IsEmpty h h.slot seen.holds) where
    pub empty_held : IsHeldAs h None seen
    empty_held = record { stands = empty.stands; counted = tt; body = []; its_body = tt; stored = record { fits = tt; read = empty.none; kept = kept_within h.base h.span seen kept } }

    pub empty_opened : (o : Option Session) (b : List ℕ) → seen.holds b → LiesForAs h o b → IsHeldAs h o seen
    empty_opened None b now lies = empty_held
    empty_opened (Some s) b now lies = absurd (empty.none b now lies.lies.header)

    pub empty_but : (o : Option Session) × IsHeldBut h o seen
    empty_but = (None, record { stands = empty_held.stands; body = []; its_body = tt; stored = empty_held.stored })

    pub empty_fine : (b : List ℕ) → seen.holds b → NothingForeign h b
    empty_fine b now header = absurd (empty.none b now header)

  -- ---- with one

  module _ (opened : IsOpened h h.slot seen.holds (record { records = h.records; tallies = h.tallies })) where
    abbrev pub S : Session
    S = new_session h.limits opened.setup

    setup_is : opened.setup ≡ S.setup
    unfolding new_session
    setup_is = refl

    its_shape : (l : List Fragment) → shape_of (hearing S l) ≡ shape_of S
    unfolding hearing shape_of
    its_shape l = refl

    its_news : news (shape_of S) opened.found.replayed.records ≡ opened.found.replayed.records
    its_news = all_news S opened.found.replayed.records opened.found.replayed.fed

    -- what is there for a session of this setup that heard a list with these records
    lie_for : (heard : List Fragment) → news (shape_of S) heard ≡ opened.found.replayed.records → (b : List ℕ) → seen.holds b → Lies h.base (stored_of (hearing S heard) opened.body h.tallies) b
    unfolding stored_of hearing new_session shape_of
    lie_for heard is b now = record {
      header = opened.header b now;
      body = opened.spelled_there b now;
      gates = subst (λ (k : ℕ). GatesOpen b (gates_at h.base) k (2 * opened.setup.nb_frag + 1)) (sym (ap length is ∙ opened.found.replayed.count)) (opened.found.gates b now);
      tallies = opened.found.tallies b now;
      records = subst (RecordsLie b h.base opened.setup.frag_size) (sym is) (opened.found.replayed.lie b now);
    }

    stands_for : (heard : List Fragment) → news (shape_of S) heard ≡ opened.found.replayed.records → IsOpenable h (hearing S heard) → HeldStands h (hearing S heard)
    unfolding hearing shape_of new_session
    stands_for heard is openable = record {
      slot = record {
        fed = opened.found.replayed.records;
        stands = opened.found.replayed.stands;
        means = subst (λ (l : List Fragment). MeanTheSame (shape_of S) l heard) is (means_back (shape_of S) heard (news (shape_of S) heard) (same (shape_of S) heard));
      };
      openable = openable;
      records = sym (ap length is ∙ opened.found.replayed.count);
      few = opened.found.few;
    }

    stored_for : (heard : List Fragment) → news (shape_of S) heard ≡ opened.found.replayed.records → IsOpenable h (hearing S heard)
        → IsStoredAs h.base h.span (Some (stored_of (hearing S heard) opened.body h.tallies)) seen
    stored_for heard is openable = record {
      fits = openable_fits h (hearing S heard) opened.body h.tallies opened.its_body.sized openable;
      read = lie_for heard is;
      kept = kept_within h.base h.span seen kept;
    }

    body_for : (heard : List Fragment) → IsBody opened.body (hearing S heard).setup
    unfolding hearing new_session
    body_for heard = opened.its_body

    its_openable : IsOpenable h (hearing S opened.found.replayed.records)
    unfolding hearing new_session shape_of
    its_openable = record {
      taken = opened.fine;
      rows = refl;
      hearable = fed_hearable S opened.found.replayed.records opened.found.replayed.fed;
      ranged = subst AllInRange (sym its_news) opened.found.replayed.ranged;
    }

    pub opened_stands : HeldStandsAs h (Some (hearing S opened.found.replayed.records))
    opened_stands = stands_for opened.found.replayed.records its_news its_openable

    pub opened_but : (o : Option Session) × IsHeldBut h o seen
    opened_but = (
      Some (hearing S opened.found.replayed.records),
      record {
        stands = opened_stands;
        body = opened.body;
        its_body = body_for opened.found.replayed.records;
        stored = stored_for opened.found.replayed.records its_news its_openable;
      },
    )

    header_of : (b : List ℕ) → seen.holds b → HasHeader h opened.setup b
    header_of b now = record {
      header = opened.header b now;
      setup_is = setup_read b (body_at h.base) opened.body opened.its_body.sized (opened.spelled_there b now) ∙ opened.its_body.reads;
      fine = opened.fine;
    }

    pub opened_fine : (b : List ℕ) → seen.holds b → NothingForeign h b
    opened_fine b now header = nothing_foreign h opened.setup b (header_of b now) (setup_places h opened.setup opened.fine).most h.records (opened.found.gates b now)
        h.tallies (opened.found.tallies b now) opened.found.replayed.records opened.found.replayed.count (opened.found.replayed.lie b now) opened.found.replayed.ranged opened.found.replayed.fed

    -- what is there for a session, opened
    for_list : (heard : List Fragment) (b : List ℕ) → seen.holds b → LiesFor h (hearing S heard) b → IsHeldAs h (Some (hearing S heard)) seen
    unfolding stored_of hearing new_session shape_of
    for_list heard b now lies =
        let count : h.records ≡ length (news (shape_of S) heard) = one_count b (gates_at h.base) h.records (length (news (shape_of S) heard)) (2 * opened.setup.nb_frag + 1) (opened.found.gates b now) lies.lies.gates in
        let tallies : h.tallies ≡ lies.tallies = one_count b (tallies_at h.base) h.tallies lies.tallies most_tallies (opened.found.tallies b now) lies.lies.tallies in
        let is : news (shape_of S) heard ≡ opened.found.replayed.records =
        sym (one_list b h.base opened.setup.frag_size opened.found.replayed.records (news (shape_of S) heard) (opened.found.replayed.count ∙ count) opened.found.replayed.ranged lies.openable.ranged
        (opened.found.replayed.lie b now) lies.lies.records) in
        record {
          stands = stands_for heard is lies.openable;
          counted = subst (IsCount (hearing S heard)) (sym tallies) lies.counted;
          body = opened.body;
          its_body = body_for heard;
          stored = stored_for heard is lies.openable;
        }

    session_is : (s : Session) → opened.setup ≡ s.setup → s.rows ≡ min h.limits.rows s.setup.nb_frag → s ≡ hearing S s.heard
    unfolding hearing new_session
    session_is s e rows = λ i. record { setup = sym e i; rows = (rows ∙ ap (λ (x : SetupReq). min h.limits.rows x.nb_frag) (sym e)) i; heard = s.heard }

    pub opened_for : (o : Option Session) (b : List ℕ) → seen.holds b → LiesForAs h o b → IsHeldAs h o seen
    unfolding stored_of
    opened_for None b now lies = absurd (lies (opened.header b now))
    opened_for (Some s) b now lies =
        let setup : opened.setup ≡ s.setup = sym (header_of b now).setup_is ∙ setup_read b (body_at h.base) lies.body lies.its_body.sized lies.lies.body ∙ lies.its_body.reads in
        let it : s ≡ hearing S s.heard = session_is s setup lies.openable.rows in
        subst (λ (x : Session). IsHeldAs h (Some x) seen) (sym it) (for_list s.heard b now (subst (λ (x : Session). LiesFor h x b) it lies))

-- ---- what is there for a session is not foreign

new_is_fed : (limits : Limits) (s : Session) (older : List Fragment) (f : Fragment) → s.rows ≡ min limits.rows s.setup.nb_frag → IsFed s older f → IsFed (new_session limits s.setup) older f
unfolding new_session hearing
new_is_fed limits s older f rows fed = subst (λ (r : ℕ). IsFed (record { setup = s.setup; rows = r; heard = [] }) older f) rows fed

as_new : (limits : Limits) (s : Session) → s.rows ≡ min limits.rows s.setup.nb_frag → (xs : List Fragment) → AllFed s xs → AllFed (new_session limits s.setup) xs
as_new limits s rows [] fed = tt
as_new limits s rows (f ∷ older) fed = (new_is_fed limits s older f rows fed.0, as_new limits s rows older fed.1)

pub lies_fine : (h : HeldSession) (s : Session) (b : List ℕ) → LiesFor h s b → (place : ℕ) → IsForeign h b place → ⊥
unfolding stored_of shape_of
lies_fine h s b lies place there =
    let head : HasHeader h s.setup b = record {
      header = lies.lies.header;
      setup_is = setup_read b (body_at h.base) lies.body lies.its_body.sized lies.lies.body ∙ lies.its_body.reads;
      fine = lies.openable.taken;
    } in
    nothing_foreign h s.setup b head (setup_places h s.setup lies.openable.taken).most (length (news (shape_of s) s.heard)) lies.lies.gates lies.tallies lies.lies.tallies
    (news (shape_of s) s.heard) refl lies.lies.records lies.openable.ranged (as_new h.limits s lies.openable.rows (news (shape_of s) s.heard) (news_fed s s.heard lies.openable.hearable)) place there

pub not_foreign : (h : HeldSession) (e : OpenFault) (o : Option Session) (b : List ℕ) → LiesForAs h o b → ((p : ℕ) → e ≡ fault.Foreign p → IsFirstForeign h b p) → e ≡ fault.Flash
not_foreign h fault.Flash o b lies first = refl
not_foreign h (fault.Foreign p) None b lies first = absurd (lies (first p refl).header)
not_foreign h (fault.Foreign p) (Some s) b lies first = absurd (lies_fine h s b lies p (first p refl).there)

-- ---- the place, and what is held there

module _ (h : HeldSession) (x : HeldSlot) (r t : ℕ) (area : extent_of x ≡ extent_of h.slot) where
  abbrev pub there : HeldSession
  there = record h { slot = x; records = r; tallies = t }

  bits_there : (setup : SetupReq) → setup_bits h.limits (room_in there) setup ≡ setup_bits h.limits (room_in h) setup
  bits_there setup = ap (λ (z : Extent). setup_bits h.limits (record { words = h.words; bytes = h.bytes; extent = z; span = Some h.span }) setup) area

  pub opened_there : (holds : List ℕ → Type 0) → IsOpened h x holds (record { records = r; tallies = t }) → IsOpened there x holds (record { records = r; tallies = t })
  opened_there holds o = record {
    body = o.body;
    setup = o.setup;
    its_body = o.its_body;
    spelled_there = o.spelled_there;
    header = o.header;
    fine = bits_there o.setup ∙ o.fine;
    found = o.found;
  }

  pub empty_there : (holds : List ℕ → Type 0) → IsEmpty h x holds → IsEmpty there x holds
  empty_there holds e = record { none = e.none; stands = e.stands }

  pub lies_there : (o : Option Session) (b : List ℕ) → LiesForAs h o b → LiesForAs there o b
  lies_there None b lies = lies
  lies_there (Some s) b lies = record {
    openable = openable_same h there s refl area refl refl refl lies.openable;
    body = lies.body;
    tallies = lies.tallies;
    its_body = lies.its_body;
    counted = lies.counted;
    lies = lies.lies;
  }

  pub foreign_there : (b : List ℕ) (p : ℕ) → IsForeign h b p → IsForeign there b p
  foreign_there b p (foreign.setup e some) = foreign.setup e (λ none. some (sym (bits_there (setup_there h b)) ∙ none))
  foreign_there b p (foreign.gate k e stray) = foreign.gate k e stray
  foreign_there b p (foreign.tally k e stray) = foreign.tally k e stray
  foreign_there b p (foreign.written k e r) = foreign.written k e r
