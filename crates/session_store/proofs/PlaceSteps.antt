-- What a call for one session does to the four in a flash.
use Rattle.std.proofs.Common.{◌≡◌, ◌≢◌, ◌⊎◌, ℕ, ◌+◌, ◌*◌, ◌<◌, ◌≤◌, List, get_or, Option, None, Some, Result, Ok, Err, inl, inr, refl, sym, ap, ap₂, subst, ◌∙◌, arith, lit<, length-set}
use Rattle.std.proofs.lemmas.Bool.{cases_eq}
use Rattle.std.proofs.lemmas.List.{set-get_or}
use Rattle.std.proofs.Math.ListN.{set}
use Rattle.frag_session.specs.HeldSteps.{extent_of}
use Rattle.frag_session.specs.Session.{Session, after_setup}
use Rattle.frag_session.specs.Setup.{Room}
use Rattle.frag_session.specs.declared.setups.Limits.{Limits}
use Rattle.frag_session.specs.declared.setups.SetupReq.{SetupReq}
use Rattle.row_elimination.specs.Room.{Extent}
use Rattle.flash_session.specs.Apart.{AreApart}
use Rattle.flash_session.specs.Contents.{Same, SameOutside, SameWithin, Follows}
use Rattle.flash_session.specs.declared.flash.Failed.{Failed}
use Rattle.flash_session.specs.HeldCalls.{HeldServes, OldNoneOrNew}
use Rattle.flash_session.specs.HeldSession.{HeldSession, room_in}
use Rattle.flash_session.specs.Lies.{Lies, NoSession}
use Rattle.flash_session.specs.Moments.{Elapses, LeavesOnly}
use Rattle.flash_session.specs.Replayed.{place_in, IsPlaceOf}
use Rattle.flash_session.specs.Seen.{FlashSeen, left, IsKept}
use Rattle.flash_session.specs.Sessions.{stored_of, LiesForAs, IsHeldAs}
use Rattle.flash_session.proofs.Apart.{other_held, other_moments, both_moments}
use Rattle.flash_session.proofs.Moments.{weaker}
use Rattle.flash_session.proofs.Openable.{openable_same, lies_for}
use Rattle.flash_session.proofs.StillHeld.{same_back, lies_for_same, still_held, given_too}
use Rattle.session_store.specs.Size.{SizedLayout, extent_in}
use Rattle.session_store.specs.SessionTable.{SessionTable, session_at, with_session}
use Rattle.session_store.specs.HeldPlaces.{HeldPlaces, IsPlace, ArePlaces, Holding, base_at, place_at, room_at, Each, PlaceStands, PlacesStand, AreHeld, TableLies, TableOldOrNew, TableOldNoneOrNew, PlacesServe}
use Rattle.session_store.proofs.ByIndex.{each4, all_at, all_set, each_with, each_set}

-- ---- of what is held at an index

here : (P : HeldSession → Type 0) (o : Option HeldSession) (h : HeldSession) → o ≡ Some h → Holding P o → P h
here P o h is holding = subst (Holding P) is holding

both : (P Q : HeldSession → Type 0) (R : Type 0) (o : Option HeldSession) → Holding P o → Holding Q o → ((h : HeldSession) → P h → Q h → R) → R
both P Q R None p q to = absurd p
both P Q R (Some h) p q to = to h p q

holding : (P Q R : HeldSession → Type 0) (o : Option HeldSession) → ((h : HeldSession) → P h → Q h → R h) → Holding P o → Holding Q o → Holding R o
holding P Q R None to p q = p
holding P Q R (Some h) to p q = to h p q

-- ---- where they are

ranges_apart : (l : SizedLayout) (i : ℕ) → i < 4 → (j : ℕ) → j < 4 → i ≢ j → (base_at l i + l.span ≤ base_at l j) ⊎ (base_at l j + l.span ≤ base_at l i)
ranges_apart l =
    let Apart : ℕ → ℕ → Type 0 = λ i j. i ≢ j → (base_at l i + l.span ≤ base_at l j) ⊎ (base_at l j + l.span ≤ base_at l i) in
    each4 (λ i. (j : ℕ) → j < 4 → Apart i j)
    (each4 (Apart 0) (λ ne. absurd (ne (omega arith))) (λ ne. inl (omega arith)) (λ ne. inl (omega arith)) (λ ne. inl (omega arith)))
    (each4 (Apart 1) (λ ne. inr (omega arith)) (λ ne. absurd (ne (omega arith))) (λ ne. inl (omega arith)) (λ ne. inl (omega arith)))
    (each4 (Apart 2) (λ ne. inr (omega arith)) (λ ne. inr (omega arith)) (λ ne. absurd (ne (omega arith))) (λ ne. inl (omega arith)))
    (each4 (Apart 3) (λ ne. inr (omega arith)) (λ ne. inr (omega arith)) (λ ne. inr (omega arith)) (λ ne. absurd (ne (omega arith))))

apart : (l : SizedLayout) (i j : ℕ) (k h : HeldSession) → i < 4 → j < 4 → i ≢ j → IsPlace k l (base_at l i) → IsPlace h l (base_at l j) → AreApart h.base h.span k.base k.span
apart l i j k h li lj ne one two = elim (ranges_apart l i li j lj ne) [
  | inl before ↦ inr (omega (arith, before, one.base_is, one.span_is, two.base_is))
  | inr behind ↦ inl (omega (arith, behind, one.base_is, two.base_is, two.span_is))
]

-- what is held at a place is there still
place_again : (h k : HeldSession) (l : SizedLayout) (base : ℕ) → IsPlace h l base → IsPlaceOf k l.size.words l.size.bytes h.base h.span h.limits (extent_of h.slot) → IsPlace k l base
place_again h k l base was is = record {
  words_are = is.words_are;
  bytes_are = is.bytes_are;
  base_is = is.base_is ∙ was.base_is;
  span_is = is.span_is ∙ was.span_is;
  limits_are = is.limits_are ∙ was.limits_are;
  extent_is = is.extent_is ∙ was.extent_is;
}

-- ---- what is there does not depend on what is held

lies_placed : (h : HeldSession) (l : SizedLayout) (base : ℕ) (o : Option Session) (c : List ℕ) → IsPlace h l base → LiesForAs h o c → LiesForAs (place_at l base) o c
unfolding extent_of
lies_placed h l base None c is none = subst (λ (b : ℕ). NoSession b c) is.base_is none
lies_placed h l base (Some s) c is lies = record {
  openable = openable_same h (place_at l base) s is.limits_are (sym is.extent_is) is.span_is is.words_are is.bytes_are lies.openable;
  body = lies.body;
  tallies = lies.tallies;
  its_body = lies.its_body;
  counted = lies.counted;
  lies = subst (λ (b : ℕ). Lies b (stored_of s lies.body lies.tallies) c) is.base_is lies.lies;
}

abbrev LiesAt : SizedLayout → SessionTable → List ℕ → ℕ → Type 0
LiesAt l t c i = LiesForAs (place_at l (base_at l i)) (session_at t i) c

table_of : (l : SizedLayout) (t : SessionTable) (c : List ℕ) → ((i : ℕ) → i < 4 → LiesAt l t c i) → TableLies l t c
table_of l t c all = record { first = all 0 (lit< tt); second = all 1 (lit< tt); third = all 2 (lit< tt); fourth = all 3 (lit< tt) }

-- ---- a call for one of them

-- all four, with another one at an index
abbrev pub after_at : HeldPlaces → ℕ → HeldSession → HeldPlaces
after_at p j k = record { sessions = set p.sessions j (Some k); layout = p.layout }

-- put back as it was
pub put_back : (p : HeldPlaces) (j : ℕ) (h k : HeldSession) → get_or p.sessions j None ≡ Some h → k ≡ h → after_at p j k ≡ p
put_back p j h k at same =
    ap (λ (s : List (Option HeldSession)). record { sessions = s; layout = p.layout })
    (ap (λ (y : HeldSession). set p.sessions j (Some y)) same ∙ ap (λ (o : Option HeldSession). set p.sessions j o) (sym at) ∙ set-get_or p.sessions j None)

module _ (p : HeldPlaces) (j : ℕ) (h : HeldSession) (lj : j < 4) (at : get_or p.sessions j None ≡ Some h) (are : ArePlaces p) where
  is_place : IsPlace h p.layout (base_at p.layout j)
  is_place = here (λ k. IsPlace k p.layout (base_at p.layout j)) _ h at (are.each j lj)

  pub extent_held : extent_of h.slot ≡ extent_in p.layout
  extent_held = is_place.extent_is

  room_is : room_in h ≡ room_at p.layout
  room_is = λ i. record { words = is_place.words_are i; bytes = is_place.bytes_are i; extent = is_place.extent_is i; span = Some (is_place.span_is i) }

  -- what a setup makes of the session there
  pub after_is : (req : SetupReq) (o : Option Session) → after_setup h.limits (room_in h) o req ≡ after_setup p.layout.limits (room_at p.layout) o req
  after_is req o = ap₂ (λ (l : Limits) (r : Room). after_setup l r o req) is_place.limits_are room_is

  pub places_set : (k : HeldSession) → IsPlace k p.layout (base_at p.layout j) → ArePlaces (after_at p j k)
  places_set k is = record {
    four = length-set p.sessions j (Some k) ∙ are.four;
    each = all_set None (λ i o. Holding (λ y. IsPlace y p.layout (base_at p.layout i)) o) p.sessions j (Some k) are.four lj is (λ i lt ne. are.each i lt);
    long = are.long;
  }

  pub places_on : (k : HeldSession) → IsPlaceOf k p.layout.size.words p.layout.size.bytes h.base h.span h.limits (extent_of h.slot) → ArePlaces (after_at p j k)
  places_on k is = places_set k (place_again h k p.layout (base_at p.layout j) is_place is)

  pub it_has : (P : HeldSession → Option Session → Type 0) (t : SessionTable) → Each P p t → P h (session_at t j)
  it_has P t each = here (λ k. P k (session_at t j)) _ h at (each.each j lj)

  -- what is held in memory: the call says this one's, the others are as they were
  pub stands_on : (k : HeldSession) (t : SessionTable) (o : Option Session) → PlacesStand p t → PlaceStands k o → PlacesStand (after_at p j k) (with_session t j o)
  stands_on k t o each mine = record {
    each = each_set None (λ y q. Holding (λ z. PlaceStands z q) y) p.sessions t j (Some k) o are.four lj mine (λ i lt ne. each.each i lt);
  }

  -- what is stored
  pub stored_on : (k : HeldSession) (t : SessionTable) (o : Option Session) {old new : FlashSeen} → AreHeld p t old → IsHeldAs k o new
      → Follows (SameOutside h.base h.span) old.holds new.holds → ((place n : ℕ) → Follows (SameWithin place n) old.holds (left old) → Follows (SameWithin place n) new.holds (left new))
      → AreHeld (after_at p j k) (with_session t j o) new
  stored_on k t o {old} {new} each mine outside kept = record {
    each = each_set None (λ y q. Holding (λ z. IsHeldAs z q new) y) p.sessions t j (Some k) o are.four lj mine (λ i lt ne.
        holding (λ z. IsPlace z p.layout (base_at p.layout i)) (λ z. IsHeldAs z (session_at t i) old) (λ z. IsHeldAs z (session_at t i) new) (get_or p.sessions i None)
        (λ z is was. other_held z (session_at t i) h.base h.span (apart p.layout i j z h lt lj ne is is_place) (omega (arith, is.span_is, are.long)) old new was outside (kept z.base z.span))
        (are.each i lt) (each.each i lt));
  }

  -- what a stop leaves at any moment: that of this one, and for the others what was there
  module _ (t : SessionTable) {old new : FlashSeen} (Mine : List ℕ → Type 0) (each : AreHeld p t old) (call : Elapses (SameOutside h.base h.span) old new) (mine : LeavesOnly Mine old new) where
    beside : (i : ℕ) → i < 4 → LeavesOnly (λ c. i ≢ j → LiesAt p.layout t c i) old new
    beside i lt = elim (cases_eq i j) [
      | inl same ↦ weaker Mine (λ c. i ≢ j → LiesAt p.layout t c i) (λ c its ne. absurd (ne same)) mine
      | inr ne ↦ both (λ z. IsPlace z p.layout (base_at p.layout i)) (λ z. IsHeldAs z (session_at t i) old) (LeavesOnly (λ c. i ≢ j → LiesAt p.layout t c i) old new) (get_or p.sessions i None)
          (are.each i lt) (each.each i lt)
          (λ z is was. weaker (LiesForAs z (session_at t i)) (λ c. i ≢ j → LiesAt p.layout t c i)
          (λ c its other. lies_placed z p.layout (base_at p.layout i) (session_at t i) c is its)
          (other_moments z (session_at t i) h.base h.span (apart p.layout i j z h lt lj ne is is_place) (omega (arith, is.span_is, are.long)) old new was call))
    ]

    pub moments_on : (Out : List ℕ → Type 0)
        → ((c : List ℕ) → Mine c → ((o : Option Session) → LiesForAs h o c → TableLies p.layout (with_session t j o) c) → (LiesForAs h (session_at t j) c → TableLies p.layout t c) → Out c)
        → LeavesOnly Out old new
    moments_on Out out =
        let One : ℕ → List ℕ → Type 0 = λ i c. i ≢ j → LiesAt p.layout t c i in
        let last_two = both_moments (One 2) (One 3) old new (beside 2 (lit< tt)) (beside 3 (lit< tt)) in
        let last_three = both_moments (One 1) (λ c. One 2 c × One 3 c) old new (beside 1 (lit< tt)) last_two in
        let all_four = both_moments (One 0) (λ c. One 1 c × (One 2 c × One 3 c)) old new (beside 0 (lit< tt)) last_three in
        weaker (λ c. Mine c × (One 0 c × (One 1 c × (One 2 c × One 3 c)))) Out (λ c lies.
        let others : (i : ℕ) → i < 4 → i ≢ j → LiesAt p.layout t c i = each4 (λ i. i ≢ j → LiesAt p.layout t c i) lies.1.0 lies.1.1.0 lies.1.1.1.0 lies.1.1.1.1 in
        out c lies.0
        (λ o its. table_of p.layout (with_session t j o) c (each_with (λ i q. LiesForAs (place_at p.layout (base_at p.layout i)) q c) t j o lj (lies_placed h p.layout (base_at p.layout j) o c is_place its) others))
        (λ its. table_of p.layout t c (all_at (LiesAt p.layout t c) j (lies_placed h p.layout (base_at p.layout j) (session_at t j) c is_place its) others)))
        (both_moments Mine (λ c. One 0 c × (One 1 c × (One 2 c × One 3 c))) old new mine all_four)

-- ---- four are opened, one after another

-- a place with memory of this extent
pub placed : (h : HeldSession) (l : SizedLayout) (base : ℕ) (z : Extent) → z ≡ extent_in l → IsPlaceOf h l.size.words l.size.bytes base l.span l.limits z → IsPlace h l base
placed h l base z is place = subst (λ (y : Extent). IsPlaceOf h l.size.words l.size.bytes base l.span l.limits y) is place

-- one that was opened is held once all are
pub opened_still : (h : HeldSession) (l : SizedLayout) (base : ℕ) (o : Option Session) (old new : FlashSeen)
    → ((b : List ℕ) → old.holds b → LiesForAs (place_at l base) o b → IsHeldAs h o old) → IsPlace h l base → 24640 ≤ l.span
    → Follows Same old.holds new.holds → IsKept new → (b : List ℕ) → new.holds b → LiesForAs (place_at l base) o b → IsHeldAs h o new
opened_still h l base o old new opens is long follows kept b now lies =
    let from = follows.from b now in
    let held = opens from.0 from.1 (lies_for_same (place_at l base) o b from.0 (same_back from.0 b from.2) lies) in
    still_held h o old new (omega (arith, long, is.span_is)) held follows kept

-- the same where the memory was of this extent
pub opened_place : (h : HeldSession) (l : SizedLayout) (base : ℕ) (z : Extent) (o : Option Session) (old new : FlashSeen) → z ≡ extent_in l
    → ((p : Option Session) (b : List ℕ) → old.holds b → LiesForAs (place_in l.size.words l.size.bytes base l.span l.limits z) p b → IsHeldAs h p old)
    → IsPlaceOf h l.size.words l.size.bytes base l.span l.limits z → 24640 ≤ l.span
    → Follows Same old.holds new.holds → IsKept new → (b : List ℕ) → new.holds b → LiesForAs (place_at l base) o b → IsHeldAs h o new
opened_place h l base z o old new is opens place long follows kept b now lies =
    opened_still h l base o old new
    (λ d at its. opens o d at (subst (λ (y : Extent). LiesForAs (place_in l.size.words l.size.bytes base l.span l.limits y) o d) (sym is) its))
    (placed h l base z is place) long follows kept b now lies

-- the last that was opened
pub opened_for_last : (h : HeldSession) (l : SizedLayout) (base : ℕ) (z : Extent) (o : Option Session) (seen : FlashSeen) → z ≡ extent_in l
    → ((p : Option Session) (b : List ℕ) → seen.holds b → LiesForAs (place_in l.size.words l.size.bytes base l.span l.limits z) p b → IsHeldAs h p seen)
    → (b : List ℕ) → seen.holds b → LiesForAs (place_at l base) o b → IsHeldAs h o seen
opened_for_last h l base z o seen is opens b now lies =
    opens o b now (subst (λ (y : Extent). LiesForAs (place_in l.size.words l.size.bytes base l.span l.limits y) o b) (sym is) lies)

-- what is held is held in memory too
pub held_stands : (p : HeldPlaces) (t : SessionTable) (seen : FlashSeen) → AreHeld p t seen → PlacesStand p t
held_stands p t seen held = record {
  each = λ i lt. holding (λ k. IsHeldAs k (session_at t i) seen) (λ k. IsHeldAs k (session_at t i) seen) (λ k. PlaceStands k (session_at t i)) (get_or p.sessions i None)
      (λ k is same. record { stands = is.stands; counted = is.counted }) (held.each i lt) (held.each i lt);
}

-- ---- what is there for those that are held

lies_read : (h : HeldSession) (o : Option Session) (seen : FlashSeen) → IsHeldAs h o seen → (b : List ℕ) → seen.holds b → LiesForAs h o b
lies_read h None seen held b now = held.stored.read b now
lies_read h (Some s) seen held b now = record {
  openable = held.stands.openable;
  body = held.body;
  tallies = h.tallies;
  its_body = held.its_body;
  counted = held.counted;
  lies = held.stored.read b now;
}

-- each is there by what is known of it
all_lie : (p : HeldPlaces) (t : SessionTable) (c : List ℕ) (P : HeldSession → Option Session → Type 0) → ArePlaces p → Each P p t
    → ((k : HeldSession) (o : Option Session) → 24640 ≤ k.span → P k o → LiesForAs k o c) → TableLies p.layout t c
all_lie p t c P are each to = table_of p.layout t c (λ i lt. both (λ k. IsPlace k p.layout (base_at p.layout i)) (λ k. P k (session_at t i)) (LiesAt p.layout t c i) (get_or p.sessions i None) (are.each i lt) (each.each i lt)
    (λ k is its. lies_placed k p.layout (base_at p.layout i) (session_at t i) c is (to k (session_at t i) (omega (arith, is.span_is, are.long)) its)))

-- what a read gives
pub held_read : (p : HeldPlaces) (t : SessionTable) (seen : FlashSeen) → ArePlaces p → AreHeld p t seen → (b : List ℕ) → seen.holds b → TableLies p.layout t b
held_read p t seen are held b now = all_lie p t b (λ k o. IsHeldAs k o seen) are held (λ k o long its. lies_read k o seen its b now)

-- what a stop leaves between two calls
pub held_left : (p : HeldPlaces) (t : SessionTable) (seen : FlashSeen) → ArePlaces p → AreHeld p t seen → (c : List ℕ) → left seen c → TableLies p.layout t c
held_left p t seen are held c now = all_lie p t c (λ k o. IsHeldAs k o seen) are held (λ k o long its. lies_for k o seen (omega (arith, long)) its c now)

-- what was there is still there, where nothing was written
pub lies_still : (l : SizedLayout) (t : SessionTable) (b c : List ℕ) → Same b c → TableLies l t b → TableLies l t c
lies_still l t b c same lies = record {
  first = lies_for_same (place_at l 0) t.first b c same lies.first;
  second = lies_for_same (place_at l l.span) t.second b c same lies.second;
  third = lies_for_same (place_at l (2 * l.span)) t.third b c same lies.third;
  fourth = lies_for_same (place_at l (3 * l.span)) t.fourth b c same lies.fourth;
}

-- what a read gives after a failure is there for those that a stop might leave
pub same_old_new : (l : SizedLayout) (old new : SessionTable) (b c : List ℕ) → Same b c → TableOldOrNew l old new b → TableOldOrNew l old new c
same_old_new l old new b c same lies = elim lies [ inl was ↦ inl (lies_still l old b c same was) | inr is ↦ inr (lies_still l new b c same is) ]

pub same_old_none_new : (l : SizedLayout) (index : ℕ) (old new : SessionTable) (b c : List ℕ) → Same b c → TableOldNoneOrNew l index old new b → TableOldNoneOrNew l index old new c
same_old_none_new l index old new b c same lies = elim lies [
  | inl was ↦ inl (lies_still l old b c same was)
  | inr others ↦ elim others [ inl none ↦ inr (inl (lies_still l (with_session old index None) b c same none)) | inr is ↦ inr (inr (lies_still l new b c same is)) ]
]

-- ---- what a call of one makes of all four

module _ (p : HeldPlaces) (j : ℕ) (h : HeldSession) (lj : j < 4) (at : get_or p.sessions j None ≡ Some h) (are : ArePlaces p)
    (one : Option Session → Option Session) (mine : (old new : Option Session) → List ℕ → Type 0) (leaves : (old new : SessionTable) → List ℕ → Type 0)
    (out : (t : SessionTable) (c : List ℕ) → mine (session_at t j) (one (session_at t j)) c → ((o : Option Session) → LiesForAs h o c → TableLies p.layout (with_session t j o) c)
    → (LiesForAs h (session_at t j) c → TableLies p.layout t c) → leaves t (with_session t j (one (session_at t j))) c)
    (same : (s t : SessionTable) (b c : List ℕ) → Same b c → leaves s t b → leaves s t c) where
  abbrev After : SessionTable → SessionTable
  After t = with_session t j (one (session_at t j))

  its_moments : {A : Type 0} {old new : FlashSeen} (r : Result (HeldSession × A) Extent) → HeldServes p.layout.size.words p.layout.size.bytes h one mine old new r
      → (t : SessionTable) → AreHeld p t old → LeavesOnly (leaves t (After t)) old new
  its_moments {A} {old} {new} r serves t each =
      let o = session_at t j in
      let was = it_has p j h lj at are (λ k q. IsHeldAs k q old) t each in
      moments_on p j h lj at are t (mine o (one o)) each serves.serves.stops (serves.any_moment o was) (leaves t (After t)) (λ c its those again. out t c its those again)

  pub answered : {A : Type 0} {old new : FlashSeen} (k : HeldSession) (x : A) → HeldServes p.layout.size.words p.layout.size.bytes h one mine old new (Ok (k, x))
      → PlacesServe After leaves p (after_at p j k) old new (Ok x)
  answered {A} {old} {new} k x serves = record {
    stands = λ t each.
        let o = session_at t j in
        let was = it_has p j h lj at are PlaceStands t each in
        stands_on p j h lj at are k t (one o) each (record { stands = serves.stands o was.stands; counted = serves.counted o was.stands was.counted });
    stored = λ t each.
        let o = session_at t j in
        let was = it_has p j h lj at are (λ y q. IsHeldAs y q old) t each in
        stored_on p j h lj at are k t (one o) each (serves.acknowledged o was) serves.serves.held serves.others;
    any_moment = its_moments (Ok (k, x)) serves;
    again = λ t each. tt;
    layout = refl;
    size = serves.serves.size;
    cause = record { later = serves.serves.cause.later; failed = tt };
  }

  pub refused : {A B : Type 0} {old new : FlashSeen} (q : HeldPlaces) {z : Extent} {e : Failed} → q.layout ≡ p.layout → HeldServes {Answer = A} p.layout.size.words p.layout.size.bytes h one mine old new (Err z)
      → PlacesServe {Answer = B} After leaves p q old new (Err e)
  refused {A} {B} {old} {new} q {z} {e} laid serves = record {
    stands = λ t each. tt;
    stored = λ t each. tt;
    any_moment = its_moments (Err z) serves;
    again = λ t each. given_too (leaves t (After t)) (same t (After t)) (its_moments (Err z) serves t each) serves.serves.torn;
    layout = laid;
    size = serves.serves.size;
    cause = record { later = serves.serves.cause.later; failed = serves.serves.cause.failed };
  }

-- a setup, in the words of the layout
pub setup_placed : (p : HeldPlaces) (j : ℕ) (h : HeldSession) (lj : j < 4) (at : get_or p.sessions j None ≡ Some h) (are : ArePlaces p) (req : SetupReq) {A : Type 0} {old new : FlashSeen} {r : Result (HeldSession × A) Extent}
    → HeldServes p.layout.size.words p.layout.size.bytes h (λ o. after_setup h.limits (room_in h) o req) (OldNoneOrNew h) old new r
    → HeldServes p.layout.size.words p.layout.size.bytes h (λ o. after_setup p.layout.limits (room_at p.layout) o req) (OldNoneOrNew h) old new r
setup_placed p j h lj at are req {A} {old} {new} {r} serves =
    subst (λ (f : Option Session → Option Session). HeldServes p.layout.size.words p.layout.size.bytes h f (OldNoneOrNew h) old new r) (λ i o. after_is p j h lj at are req o i) serves
