-- What is foreign stays so where nothing was written.
use Rattle.std.proofs.Common.{◌≡◌, ℕ, ◌+◌, ◌*◌, List, [], ◌∷◌, length, refl, sym, subst, ◌∙◌}
use Rattle.std.specs.Prelude.{◌≢◌}
use Rattle.frag_model.specs.Fragments.{Fragment}
use Rattle.frag_session.specs.declared.setups.SetupReq.{SetupReq}
use Rattle.frag_session.specs.Session.{Session, new_session}
use Rattle.frag_session.specs.Setup.{setup_bits}
use Rattle.row_elimination.specs.Room.{Extent}
use Rattle.flash_session.specs.Body.{setup_at}
use Rattle.flash_session.specs.Contents.{Same, Follows}
use Rattle.flash_session.specs.HeldSession.{HeldSession, room_in}
use Rattle.flash_session.specs.Layout.{body_at, gates_at, tallies_at, most_tallies, spelled}
use Rattle.flash_session.specs.Lies.{RecordsLie, record_at}
use Rattle.flash_session.specs.Opening.{IsStray, IsForeignRecord, IsForeign, IsFirstForeign, NothingForeign, setup_there}
use Rattle.flash_session.specs.Opening as foreign
use Rattle.flash_session.specs.Replayed.{place_in}
use Rattle.flash_session.proofs.Opened.{spelled_same}
use Rattle.flash_session.proofs.StillHeld.{same_back}
use Rattle.session_store.specs.HeldPlaces.{place_at}
use Rattle.session_store.specs.Size.{SizedLayout, extent_in}

setup_same : (b c : List ℕ) (at : ℕ) → Same b c → setup_at b at ≡ setup_at c at
setup_same b c at same =
    rw (
      same.all (at + 0),
      same.all (at + 1),
      same.all (at + 2),
      same.all (at + 3),
      same.all (at + 4),
      same.all (at + 5),
      same.all (at + 6),
      same.all (at + 7),
      same.all (at + 8),
      same.all (at + 9),
    ) refl

stray_same : (b c : List ℕ) (at most k : ℕ) → Same b c → IsStray b at most k → IsStray c at most k
stray_same b c at most k same stray = record {
  within = stray.within;
  opened = same.all (at + k) ∙ stray.opened;
  closed = stray.closed;
  before = stray.before;
  shut = λ is. stray.shut (sym (same.all (at + stray.closed)) ∙ is);
}

records_same : (b c : List ℕ) (base size : ℕ) (older : List Fragment) → Same b c → RecordsLie b base size older → RecordsLie c base size older
records_same b c base size [] same lie = tt
records_same b c base size (f ∷ older) same lie =
    (lie.0, spelled_same (record_at base size (length older)) (spelled f) b c same lie.1, records_same b c base size older same lie.2)

record_same : (b c : List ℕ) (s : Session) (base most k : ℕ) → Same b c → IsForeignRecord s b base most k → IsForeignRecord s c base most k
record_same b c s base most k same r = record {
  within = r.within;
  used = λ j le. same.all (gates_at base + j) ∙ r.used j le;
  older = r.older;
  count = r.count;
  ranged = r.ranged;
  lie = records_same b c base s.setup.frag_size r.older same r.lie;
  next = r.next;
  in_range = r.in_range;
  sized = r.sized;
  there = spelled_same (record_at base s.setup.frag_size k) (spelled r.next) b c same r.there;
  foreign = r.foreign;
}

foreign_same : (h : HeldSession) (b c : List ℕ) (place : ℕ) → Same b c → IsForeign h b place → IsForeign h c place
foreign_same h b c place same (foreign.setup at bits) =
    foreign.setup at (subst (λ (x : SetupReq). setup_bits h.limits (room_in h) x ≢ 0) (setup_same b c (body_at h.base) same) bits)
foreign_same h b c place same (foreign.gate k at stray) =
    foreign.gate k at (subst (λ (x : SetupReq). IsStray c (gates_at h.base) (2 * x.nb_frag + 1) k) (setup_same b c (body_at h.base) same)
    (stray_same b c (gates_at h.base) (2 * (setup_there h b).nb_frag + 1) k same stray))
foreign_same h b c place same (foreign.tally k at stray) =
    foreign.tally k at (stray_same b c (tallies_at h.base) most_tallies k same stray)
foreign_same h b c place same (foreign.written k at r) =
    let is = setup_same b c (body_at h.base) same in
    foreign.written k (subst (λ (x : SetupReq). place ≡ 24640 + (10 + x.frag_size) * k) is at)
    (subst (λ (x : SetupReq). IsForeignRecord (new_session h.limits x) c h.base (2 * x.nb_frag + 1) k) is
    (record_same b c (new_session h.limits (setup_there h b)) h.base (2 * (setup_there h b).nb_frag + 1) k same r))

none_same : (h : HeldSession) (b c : List ℕ) → Same b c → NothingForeign h b → NothingForeign h c
none_same h b c same none = λ header place there.
    none (sym (same.all h.base) ∙ header) place (foreign_same h c b place (same_back b c same) there)

-- of a range that was opened nothing is foreign once the others are
pub none_still : (l : SizedLayout) (base : ℕ) (z : Extent) (holds0 holds : List ℕ → Type 0) → z ≡ extent_in l
    → ((b : List ℕ) → holds0 b → NothingForeign (place_in l.size.words l.size.bytes base l.span l.limits z) b)
    → Follows Same holds0 holds → (b : List ℕ) → holds b → NothingForeign (place_at l base) b
none_still l base z holds0 holds is none follows b now =
    let from = follows.from b now in
    none_same (place_at l base) from.0 b from.2
    (subst (λ (y : Extent). NothingForeign (place_in l.size.words l.size.bytes base l.span l.limits y) from.0) is (none from.0 from.1))

-- the last that was opened, and the one that was not
pub none_last : (l : SizedLayout) (base : ℕ) (z : Extent) (b : List ℕ) → z ≡ extent_in l
    → NothingForeign (place_in l.size.words l.size.bytes base l.span l.limits z) b → NothingForeign (place_at l base) b
none_last l base z b is none = subst (λ (y : Extent). NothingForeign (place_in l.size.words l.size.bytes base l.span l.limits y) b) is none

pub first_foreign : (l : SizedLayout) (base : ℕ) (z : Extent) (b : List ℕ) (place : ℕ) → z ≡ extent_in l
    → IsFirstForeign (place_in l.size.words l.size.bytes base l.span l.limits z) b place → IsFirstForeign (place_at l base) b place
first_foreign l base z b place is first =
    subst (λ (y : Extent). IsFirstForeign (place_in l.size.words l.size.bytes base l.span l.limits y) b place) is first
