-- What a fragment makes of a session that is held.
use Rattle.std.proofs.Common.{◌≡◌, ◌⊎◌, ℕ, ◌+◌, ◌*◌, ◌<◌, ◌≤◌, Bool, true, false, List, ◌∷◌, length, Option, Some, None, is_none, option_map, refl, sym, ap, ◌∙◌, subst, inl, inr, arith, ◌^◌}
use Rattle.std.specs.Prelude.{if◌then◌else◌}
use Rattle.std.proofs.lemmas.Nat.{mul-le}
use Rattle.frag_model.specs.Fragments.{Fragment}
use Rattle.frag_model.specs.Laws.{AreNumbered}
use Rattle.flash_session.specs.Moments.{LeavesOnly}
use Rattle.flash_session.specs.InRange.{AllInRange}
use Rattle.flash_session.specs.Lies.{Stored, Lies, IsStored, with_record, with_tally}
use Rattle.flash_session.proofs.Moments.{stays, weaker}
use Rattle.frag_model.specs.News.{is_new, news}
use Rattle.frag_model.proofs.News.{means_more, same_news, few}
use Rattle.frag_session.specs.declared.answers.Via.{Via}
use Rattle.frag_session.specs.declared.answers.Cause.{Cause}
use Rattle.frag_session.specs.declared.answers.Heard.{Heard}
use Rattle.frag_session.specs.declared.answers.Heard.TheVariants as answer
use Rattle.frag_session.specs.declared.answers.News.{News}
use Rattle.frag_session.specs.declared.answers.News.TheVariants as told
use Rattle.frag_session.specs.Session.{Session, shape_of, fragment, followed, cause_of, drop_cause, news_in, answer_of, after_fragment}
use Rattle.frag_session.specs.Held.{HeldSlot}
use Rattle.frag_session.specs.HeldHistory.{Stands}
use Rattle.frag_session.specs.HeldSteps.{extent_of}
use Rattle.frag_session.proofs.Calls.{can_hear}
use Rattle.flash_session.specs.Body.{IsBody}
use Rattle.flash_session.specs.HeldSession.{HeldSession}
use Rattle.flash_session.specs.Sessions.{stored_of, IsCount, IsOpenable, LiesFor, LiesForAs, hearing, StandsBut, HeldStands, HeldStandsAs, CountsAs, IsHeldAs}
use Rattle.flash_session.specs.HeldCalls.{OldOrNew}
use Rattle.flash_session.specs.Ranges.{WasOrIs, Growing, Tallied}
use Rattle.flash_session.specs.Seen.{FlashSeen}
use Rattle.flash_session.proofs.Openable.{openable_room, openable_same, numbered_in, cause_unicast, lies_for}

-- a slot gives one answer
pub fed_dropped : (P : Type 0) (heard : Heard) (t : News) (d : Cause) → heard ≡ answer.Fed t → heard ≡ answer.Dropped d → P
fed_dropped P heard t d fed dropped = let no : ⊥ = cc in absurd no

pub new_old : (P : Type 0) (heard : Heard) → heard ≡ answer.Fed told.New → heard ≡ answer.Fed told.Old → P
new_old P heard new old = let no : ⊥ = cc in absurd no

module _ (way : Via) (n : ℕ) (part : List ℕ) (mark : ℕ) where
  -- the answer of the slot, on each history that it stands for
  abbrev pub Answers : HeldSlot → Heard → Type 0
  Answers x heard = (o : Option Session) → Stands x o → heard ≡ answer_of (drop_cause o way n part) (news_in o n part mark)

  pub told_as : (x : HeldSlot) (was is : Heard) → was ≡ is → Answers x was → Answers x is
  told_as x was is e answers = λ o k. sym e ∙ answers o k

  -- it is that of the session
  pub slot_answer : (h : HeldSession) (o : Option Session) (heard : Heard) → HeldStandsAs h o → Answers h.slot heard
      → heard ≡ answer_of (drop_cause o way n part) (news_in o n part mark)
  unfolding hearing drop_cause news_in shape_of
  slot_answer h None heard held answers = answers None held
  slot_answer h (Some s) heard held answers =
      let f : Fragment = fragment n part mark in
      answers (Some (hearing s held.slot.fed)) held.slot.stands
      ∙ ap (λ (t : Bool). answer_of (cause_of s.setup way n part) (if t then told.New else told.Old)) (same_news (shape_of s) f held.slot.fed s.heard held.slot.means)

  -- ---- a fragment that is dropped

  answer_dropped : (d : Option Cause) (w : News) (c : Cause) → answer.Dropped c ≡ answer_of d w → is_none d ≡ false
  unfolding answer_of
  answer_dropped None w c e = let no : ⊥ = cc in absurd no
  answer_dropped (Some d) w c e = refl

  pub dropped_same : (o : Option Session) (c : Cause) → answer.Dropped c ≡ answer_of (drop_cause o way n part) (news_in o n part mark) → after_fragment o way n part mark ≡ o
  unfolding after_fragment
  dropped_same o c e = ap (λ (t : Bool). if t then option_map (λ x. followed x n part mark) o else o) (answer_dropped (drop_cause o way n part) (news_in o n part mark) c e)

  -- ---- one that is heard

  answer_fed : (d : Option Cause) (w t : News) → answer.Fed t ≡ answer_of d w → (d ≡ None) × (t ≡ w)
  unfolding answer_of
  answer_fed None w t e = let is : t ≡ w = cc in (refl, is)
  answer_fed (Some d) w t e = let no : ⊥ = cc in absurd no

  none_fed : (t w : News) → answer.Fed t ≡ answer_of (drop_cause None way n part) w → ⊥
  unfolding answer_of drop_cause
  none_fed t w e = cc

  pub after_heard : (s : Session) → cause_of s.setup way n part ≡ None → after_fragment (Some s) way n part mark ≡ Some (followed s n part mark)
  unfolding after_fragment drop_cause
  after_heard s e = ap (λ (o : Option Cause). if is_none o then Some (followed s n part mark) else Some s) e

  -- the slot, after it
  stands_more : (x new : HeldSlot) (s : Session) → cause_of s.setup way n part ≡ None → StandsBut x s → ((o : Option Session) → Stands x o → Stands new (after_fragment o way n part mark)) → StandsBut new (followed s n part mark)
  unfolding hearing followed shape_of
  stands_more x new s e k stands = record {
    fed = fragment n part mark ∷ k.fed;
    stands = subst (Stands new) (after_heard (hearing s k.fed) e) (stands (Some (hearing s k.fed)) k.stands);
    means = means_more (shape_of s) (fragment n part mark) k.fed s.heard k.means;
  }

  -- the records, after it
  news_new : (s : Session) → is_new (shape_of s) (fragment n part mark) s.heard ≡ true → news (shape_of s) (fragment n part mark ∷ s.heard) ≡ fragment n part mark ∷ news (shape_of s) s.heard
  unfolding news
  news_new s e = ap (λ (b : Bool). if b then fragment n part mark ∷ news (shape_of s) s.heard else news (shape_of s) s.heard) e

  news_old : (s : Session) → is_new (shape_of s) (fragment n part mark) s.heard ≡ false → news (shape_of s) (fragment n part mark ∷ s.heard) ≡ news (shape_of s) s.heard
  unfolding news
  news_old s e = ap (λ (b : Bool). if b then fragment n part mark ∷ news (shape_of s) s.heard else news (shape_of s) s.heard) e

  abbrev holding : Session → List ℕ → List Fragment → ℕ → Stored
  holding s b records t = record { body = b; most = 2 * s.setup.nb_frag + 1; size = s.setup.frag_size; records = records; tallies = t }

  followed_stored : (s : Session) (b : List ℕ) (t : ℕ) → stored_of (followed s n part mark) b t ≡ holding s b (news (shape_of s) (fragment n part mark ∷ s.heard)) t
  unfolding stored_of followed shape_of
  followed_stored s b t = refl

  record_stored : (s : Session) (b : List ℕ) (t : ℕ) → with_record (stored_of s b t) (fragment n part mark) ≡ holding s b (fragment n part mark ∷ news (shape_of s) s.heard) t
  unfolding stored_of with_record
  record_stored s b t = refl

  tally_stored : (s : Session) (b : List ℕ) (t : ℕ) → with_tally (stored_of s b t) ≡ holding s b (news (shape_of s) s.heard) (t + 1)
  unfolding stored_of with_tally
  tally_stored s b t = refl

  plain_stored : (s : Session) (b : List ℕ) (t : ℕ) → stored_of s b t ≡ holding s b (news (shape_of s) s.heard) t
  unfolding stored_of
  plain_stored s b t = refl

  new_stored_of : (s : Session) (b : List ℕ) (t : ℕ) → is_new (shape_of s) (fragment n part mark) s.heard ≡ true → with_record (stored_of s b t) (fragment n part mark) ≡ stored_of (followed s n part mark) b t
  new_stored_of s b t e = record_stored s b t ∙ ap (λ (l : List Fragment). holding s b l t) (sym (news_new s e)) ∙ sym (followed_stored s b t)

  old_stored_of : (s : Session) (b : List ℕ) (t : ℕ) → is_new (shape_of s) (fragment n part mark) s.heard ≡ false → stored_of s b t ≡ stored_of (followed s n part mark) b t
  old_stored_of s b t e = plain_stored s b t ∙ ap (λ (l : List Fragment). holding s b l t) (sym (news_old s e)) ∙ sym (followed_stored s b t)

  tallied_stored_of : (s : Session) (b : List ℕ) (t : ℕ) → is_new (shape_of s) (fragment n part mark) s.heard ≡ false → with_tally (stored_of s b t) ≡ stored_of (followed s n part mark) b (t + 1)
  tallied_stored_of s b t e = tally_stored s b t ∙ ap (λ (l : List Fragment). holding s b l (t + 1)) (sym (news_old s e)) ∙ sym (followed_stored s b (t + 1))

  heard_more : (s : Session) → (followed s n part mark).heard ≡ fragment n part mark ∷ s.heard
  unfolding followed
  heard_more s = refl

  news_more : (s : Session) → news (shape_of (followed s n part mark)) (followed s n part mark).heard ≡ news (shape_of s) (fragment n part mark ∷ s.heard)
  unfolding followed shape_of
  news_more s = refl

  count_new : (s : Session) (t : ℕ) → is_new (shape_of s) (fragment n part mark) s.heard ≡ true → IsCount s t → IsCount (followed s n part mark) t
  count_new s t e counted =
      let more : length (news (shape_of (followed s n part mark)) (followed s n part mark).heard) ≡ length (news (shape_of s) s.heard) + 1 = omega (arith, ap length (news_more s ∙ news_new s e)) in
      omega (arith, counted, more, ap length (heard_more s))

  count_old : (s : Session) (t u : ℕ) → is_new (shape_of s) (fragment n part mark) s.heard ≡ false → IsCount s t
      → (u ≡ t + 1) ⊎ ((u ≡ t) × (16383 ≤ length (news (shape_of s) s.heard) + t)) → IsCount (followed s n part mark) u
  count_old s t u e counted (inl one) =
      let same : length (news (shape_of (followed s n part mark)) (followed s n part mark).heard) ≡ length (news (shape_of s) s.heard) = omega (arith, ap length (news_more s ∙ news_old s e)) in
      omega (arith, counted, same, one, ap length (heard_more s))
  count_old s t u e counted (inr full) =
      let same : length (news (shape_of (followed s n part mark)) (followed s n part mark).heard) ≡ length (news (shape_of s) s.heard) = omega (arith, ap length (news_more s ∙ news_old s e)) in
      omega (arith, counted, same, full.0, full.1, ap length (heard_more s))

  ranged_new : (s : Session) → n < 2 ^ 16 → mark < 2 ^ 64 → is_new (shape_of s) (fragment n part mark) s.heard ≡ true → AllInRange (news (shape_of s) s.heard)
      → AllInRange (news (shape_of (followed s n part mark)) (followed s n part mark).heard)
  ranged_new s small fits e ranged = subst AllInRange (sym (news_more s ∙ news_new s e)) (record { number = small; mark = fits }, ranged)

  ranged_old : (s : Session) → is_new (shape_of s) (fragment n part mark) s.heard ≡ false → AllInRange (news (shape_of s) s.heard)
      → AllInRange (news (shape_of (followed s n part mark)) (followed s n part mark).heard)
  ranged_old s e ranged = subst AllInRange (sym (news_more s ∙ news_old s e)) ranged

  numbered_more : (s : Session) → 1 ≤ n → AreNumbered s.heard → AreNumbered (followed s n part mark).heard
  unfolding followed
  numbered_more s some h = (some, h)

  -- its body stays
  body_more : (s : Session) (b : List ℕ) → IsBody b s.setup → IsBody b (followed s n part mark).setup
  unfolding followed
  body_more s b is = is

  -- it can be opened too
  openable_more : (h : HeldSession) (s : Session) → cause_of s.setup way n part ≡ None → AllInRange (news (shape_of (followed s n part mark)) (followed s n part mark).heard) → IsOpenable h s → IsOpenable h (followed s n part mark)
  unfolding followed
  openable_more h s cause ranged o = record { taken = o.taken; rows = o.rows; hearable = (cause_unicast way s.setup n part cause, o.hearable); ranged = ranged }

  -- what holds for a fragment that is heard
  pub record Hears (s : Session) (whether : News) : Type 0 where
    pub cause : cause_of s.setup way n part ≡ None
    pub answered : whether ≡ (if is_new (shape_of s) (fragment n part mark) s.heard then told.New else told.Old)

  pub hears : (s : Session) (whether : News) → answer.Fed whether ≡ answer_of (drop_cause (Some s) way n part) (news_in (Some s) n part mark) → Hears s whether
  unfolding drop_cause news_in shape_of
  hears s whether e = let r = answer_fed (cause_of s.setup way n part) (if is_new (shape_of s) (fragment n part mark) s.heard then told.New else told.Old) whether e in record { cause = r.0; answered = r.1 }

  pub is_new_told : (b : Bool) → told.New ≡ (if b then told.New else told.Old) → b ≡ true
  is_new_told true e = refl
  is_new_told false e = let no : ⊥ = cc in absurd no

  is_old_told : (b : Bool) → told.Old ≡ (if b then told.New else told.Old) → b ≡ false
  is_old_told true e = let no : ⊥ = cc in absurd no
  is_old_told false e = refl

  -- there is room for the record
  pub record HasRoom (h : HeldSession) : Type 0 where
    pub small : length part ≤ 239
    pub gate : h.records < 8193
    pub room : 24640 + (10 + length part) * (h.records + 1) ≤ h.span

  columns_of : (s : Session) → (shape_of s).nb_frag ≡ s.setup.nb_frag
  unfolding shape_of
  columns_of s = refl

  room_new : (s : Session) → 1 ≤ n → AreNumbered s.heard → is_new (shape_of s) (fragment n part mark) s.heard ≡ true → length (news (shape_of s) s.heard) < 2 * s.setup.nb_frag + 1
  room_new s some numbered new =
      let most = few (shape_of s) (fragment n part mark ∷ s.heard) (some, numbered) in
      omega (arith, most, ap length (news_new s new), columns_of s)

  pub has_room : (h : HeldSession) (o : Option Session) → HeldStandsAs h o → Answers h.slot (answer.Fed told.New) → HasRoom h
  has_room h None held answers = absurd (none_fed told.New (news_in None n part mark) (answers None held))
  has_room h (Some s) held answers =
      let k = hears s told.New (slot_answer h (Some s) (answer.Fed told.New) held answers) in
      let can = can_hear s.setup way n part k.cause in
      let new = is_new_told (is_new (shape_of s) (fragment n part mark) s.heard) k.answered in
      let less = room_new s can.0 (numbered_in s held.openable) new in
      let parts = openable_room h s held.openable in
      let product : (10 + s.setup.frag_size) * (h.records + 1) ≤ (10 + s.setup.frag_size) * (2 * s.setup.nb_frag + 1) =
      mul-le (10 + s.setup.frag_size) (h.records + 1) (10 + s.setup.frag_size) (2 * s.setup.nb_frag + 1) (omega arith) (omega (arith, less, held.records)) in
      record {
        small = omega (arith, can.2, parts.small);
        gate = omega (arith, less, held.records, parts.most);
        room = subst (λ (z : ℕ). 24640 + (10 + z) * (h.records + 1) ≤ h.span) (sym can.2) (omega (arith, product, parts.room));
      }

  -- ---- what is held in memory, after it

  module _ (h : HeldSession) (slot : HeldSlot) (area : extent_of slot ≡ extent_of h.slot) (stands : (o : Option Session) → Stands h.slot o → Stands slot (after_fragment o way n part mark)) where
    pub stands_new : n < 2 ^ 16 → mark < 2 ^ 64 → (o : Option Session) → HeldStandsAs h o → Answers h.slot (answer.Fed told.New)
        → HeldStandsAs (record h { slot = slot; records = h.records + 1 }) (after_fragment o way n part mark)
    stands_new fits_n fits_mark None held answers = absurd (none_fed told.New (news_in None n part mark) (answers None held))
    stands_new fits_n fits_mark (Some s) held answers =
        let k = hears s told.New (slot_answer h (Some s) (answer.Fed told.New) held answers) in
        let can = can_hear s.setup way n part k.cause in
        let new = is_new_told (is_new (shape_of s) (fragment n part mark) s.heard) k.answered in
        subst (HeldStandsAs (record h { slot = slot; records = h.records + 1 })) (sym (after_heard s k.cause))
        (record {
          slot = stands_more h.slot slot s k.cause held.slot stands;
          openable = openable_same h (record h { slot = slot; records = h.records + 1 }) (followed s n part mark) refl area refl refl refl
              (openable_more h s k.cause (ranged_new s fits_n fits_mark new held.openable.ranged) held.openable);
          records = omega (arith, held.records, ap length (news_more s ∙ news_new s new));
          few = held.few;
        })

    old_stands : (u : ℕ) (s : Session) → HeldStands h s → Hears s told.Old → u ≤ 16383
        → HeldStands (record h { slot = slot; tallies = u }) (followed s n part mark)
    old_stands u s held k most =
        let can = can_hear s.setup way n part k.cause in
        let known = is_old_told (is_new (shape_of s) (fragment n part mark) s.heard) k.answered in
        record {
          slot = stands_more h.slot slot s k.cause held.slot stands;
          openable = openable_same h (record h { slot = slot; tallies = u }) (followed s n part mark) refl area refl refl refl
              (openable_more h s k.cause (ranged_old s known held.openable.ranged) held.openable);
          records = omega (arith, held.records, ap length (news_more s ∙ news_old s known));
          few = most;
        }

    pub stands_old : h.tallies < 16383 → (o : Option Session) → HeldStandsAs h o → Answers h.slot (answer.Fed told.Old)
        → HeldStandsAs (record h { slot = slot; tallies = h.tallies + 1 }) (after_fragment o way n part mark)
    stands_old less None held answers = absurd (none_fed told.Old (news_in None n part mark) (answers None held))
    stands_old less (Some s) held answers =
        let k = hears s told.Old (slot_answer h (Some s) (answer.Fed told.Old) held answers) in
        subst (HeldStandsAs (record h { slot = slot; tallies = h.tallies + 1 })) (sym (after_heard s k.cause))
        (old_stands (h.tallies + 1) s held k (omega (arith, less)))

    -- where the count is full it stays
    pub stands_full : 16383 ≤ h.records + h.tallies → (o : Option Session) → HeldStandsAs h o → Answers h.slot (answer.Fed told.Old)
        → HeldStandsAs (record h { slot = slot }) (after_fragment o way n part mark)
    stands_full full None held answers = absurd (none_fed told.Old (news_in None n part mark) (answers None held))
    stands_full full (Some s) held answers =
        let k = hears s told.Old (slot_answer h (Some s) (answer.Fed told.Old) held answers) in
        subst (HeldStandsAs (record h { slot = slot })) (sym (after_heard s k.cause))
        (old_stands h.tallies s held k held.few)

  -- and its count
  pub counts_new : (h : HeldSession) (slot : HeldSlot) (o : Option Session) → HeldStandsAs h o → CountsAs h o → Answers h.slot (answer.Fed told.New)
      → CountsAs (record h { slot = slot; records = h.records + 1 }) (after_fragment o way n part mark)
  counts_new h slot None held counts answers = absurd (none_fed told.New (news_in None n part mark) (answers None held))
  counts_new h slot (Some s) held counts answers =
      let k = hears s told.New (slot_answer h (Some s) (answer.Fed told.New) held answers) in
      let new = is_new_told (is_new (shape_of s) (fragment n part mark) s.heard) k.answered in
      subst (CountsAs (record h { slot = slot; records = h.records + 1 })) (sym (after_heard s k.cause)) (count_new s h.tallies new counts)

  pub counts_old : (h : HeldSession) (slot : HeldSlot) (u : ℕ) (o : Option Session) → HeldStandsAs h o → CountsAs h o → Answers h.slot (answer.Fed told.Old)
      → (u ≡ h.tallies + 1) ⊎ ((u ≡ h.tallies) × (16383 ≤ h.records + h.tallies)) → CountsAs (record h { slot = slot; tallies = u }) (after_fragment o way n part mark)
  counts_old h slot u None held counts answers now = absurd (none_fed told.Old (news_in None n part mark) (answers None held))
  counts_old h slot u (Some s) held counts answers now =
      let k = hears s told.Old (slot_answer h (Some s) (answer.Fed told.Old) held answers) in
      let known = is_old_told (is_new (shape_of s) (fragment n part mark) s.heard) k.answered in
      let now' : (u ≡ h.tallies + 1) ⊎ ((u ≡ h.tallies) × (16383 ≤ length (news (shape_of s) s.heard) + h.tallies)) =
      elim now [ inl one ↦ inl one | inr full ↦ inr (full.0, omega (arith, full.1, held.records)) ] in
      subst (CountsAs (record h { slot = slot; tallies = u })) (sym (after_heard s k.cause)) (count_old s h.tallies u known counts now')

  pub counts_dropped : (h : HeldSession) (slot : HeldSlot) (o : Option Session) (c : Cause) → HeldStandsAs h o → CountsAs h o → Answers h.slot (answer.Dropped c)
      → CountsAs (record h { slot = slot }) (after_fragment o way n part mark)
  counts_dropped h slot o c held counts answers =
      subst (CountsAs (record h { slot = slot })) (sym (dropped_same o c (slot_answer h o (answer.Dropped c) held answers))) (with_slot o counts)
    where
      with_slot : (o : Option Session) → CountsAs h o → CountsAs (record h { slot = slot }) o
      with_slot None counts = counts
      with_slot (Some s) counts = counts

  pub stands_dropped : (h : HeldSession) (slot : HeldSlot) (o : Option Session) (c : Cause) → slot ≡ h.slot → HeldStandsAs h o → Answers h.slot (answer.Dropped c)
      → HeldStandsAs (record h { slot = slot }) (after_fragment o way n part mark)
  stands_dropped h slot o c same held answers =
      subst (HeldStandsAs (record h { slot = slot })) (sym (dropped_same o c (slot_answer h o (answer.Dropped c) held answers)))
      (subst (λ (x : HeldSlot). HeldStandsAs (record h { slot = x }) o) (sym same) held)

  -- ---- what `store` says, for the session

  size_of : (s : Session) (b : List ℕ) (t : ℕ) → (stored_of s b t).size ≡ s.setup.frag_size
  unfolding stored_of
  size_of s b t = refl

  most_of : (s : Session) (b : List ℕ) (t : ℕ) → (stored_of s b t).most ≡ 2 * s.setup.nb_frag + 1
  unfolding stored_of
  most_of s b t = refl

  records_of : (s : Session) (b : List ℕ) (t : ℕ) → (stored_of s b t).records ≡ news (shape_of s) s.heard
  unfolding stored_of
  records_of s b t = refl

  tallies_of : (s : Session) (b : List ℕ) (t : ℕ) → (stored_of s b t).tallies ≡ t
  unfolding stored_of
  tallies_of s b t = refl

  pub record Stores (h : HeldSession) (s : Session) (b : List ℕ) (size : ℕ) : Type 0 where
    pub size_is : (stored_of s b h.tallies).size ≡ size
    pub count : length (stored_of s b h.tallies).records ≡ h.records
    pub room : h.records < (stored_of s b h.tallies).most

  stores : (h : HeldSession) (s : Session) (b : List ℕ) → HeldStands h s → Hears s told.New → Stores h s b (length part)
  stores h s b held k =
      let can = can_hear s.setup way n part k.cause in
      let new = is_new_told (is_new (shape_of s) (fragment n part mark) s.heard) k.answered in
      record {
        size_is = size_of s b h.tallies ∙ sym can.2;
        count = ap length (records_of s b h.tallies) ∙ sym held.records;
        room = omega (arith, room_new s can.0 (numbered_in s held.openable) new, held.records, most_of s b h.tallies);
      }

  abbrev pub After : Option Session → Option Session
  After o = after_fragment o way n part mark

  pub new_moments : n < 2 ^ 16 → mark < 2 ^ 64 → (h : HeldSession) (o : Option Session) {old new : FlashSeen} → IsHeldAs h o old → Answers h.slot (answer.Fed told.New)
      → ((x : Growing (length part) h.records) → IsStored h.base h.span x.session old → LeavesOnly (WasOrIs h.base (Some x.session) (Some (with_record x.session (fragment n part mark)))) old new)
      → LeavesOnly (OldOrNew h o (After o)) old new
  new_moments fits_n fits_mark h None {old} {new} held answers leaves = absurd (none_fed told.New (news_in None n part mark) (answers None held.stands))
  new_moments fits_n fits_mark h (Some s) {old} {new} held answers leaves =
      let stands = held.stands in
      let b = held.body in
      let k = hears s told.New (slot_answer h (Some s) (answer.Fed told.New) stands answers) in
      let can = can_hear s.setup way n part k.cause in
      let fresh = is_new_told (is_new (shape_of s) (fragment n part mark) s.heard) k.answered in
      let its = stores h s b stands k in
      let after_open = openable_more h s k.cause (ranged_new s fits_n fits_mark fresh stands.openable.ranged) stands.openable in
      let before : (c : List ℕ) → Lies h.base (stored_of s b h.tallies) c → LiesFor h s c = λ (c : List ℕ) (lies : Lies h.base (stored_of s b h.tallies) c).
      record { openable = stands.openable; body = b; tallies = h.tallies; its_body = held.its_body; counted = held.counted; lies = lies } in
      let after : (c : List ℕ) → Lies h.base (stored_of (followed s n part mark) b h.tallies) c → LiesFor h (followed s n part mark) c = λ (c : List ℕ) (lies : Lies h.base (stored_of (followed s n part mark) b h.tallies) c).
      record { openable = after_open; body = b; tallies = h.tallies; its_body = body_more s b held.its_body; counted = count_new s h.tallies fresh held.counted; lies = lies } in
      weaker (WasOrIs h.base (Some (stored_of s b h.tallies)) (Some (with_record (stored_of s b h.tallies) (fragment n part mark)))) (OldOrNew h (Some s) (After (Some s)))
      (λ c lies. elim lies [
        | inl was ↦ inl (before c was)
        | inr now ↦ inr (subst (λ (o : Option Session). LiesForAs h o c) (sym (after_heard s k.cause))
            (after c (subst (λ (x : Stored). Lies h.base x c) (new_stored_of s b h.tallies fresh) now)))
      ])
      (leaves (record { session = stored_of s b h.tallies; size_is = its.size_is; count = its.count; room = its.room }) held.stored)

  pub new_kept : n < 2 ^ 16 → mark < 2 ^ 64 → (h : HeldSession) (slot : HeldSlot) (o : Option Session) {old new : FlashSeen} → IsHeldAs h o old → Answers h.slot (answer.Fed told.New)
      → extent_of slot ≡ extent_of h.slot → ((o : Option Session) → Stands h.slot o → Stands slot (after_fragment o way n part mark))
      → ((x : Growing (length part) h.records) → IsStored h.base h.span x.session old → IsStored h.base h.span (with_record x.session (fragment n part mark)) new)
      → IsHeldAs (record h { slot = slot; records = h.records + 1 }) (after_fragment o way n part mark) new
  new_kept fits_n fits_mark h slot None {old} {new} held answers area stands acked = absurd (none_fed told.New (news_in None n part mark) (answers None held.stands))
  new_kept fits_n fits_mark h slot (Some s) {old} {new} held answers area stands acked =
      let b = held.body in
      let k = hears s told.New (slot_answer h (Some s) (answer.Fed told.New) held.stands answers) in
      let fresh = is_new_told (is_new (shape_of s) (fragment n part mark) s.heard) k.answered in
      let its = stores h s b held.stands k in
      let after : IsStored h.base h.span (stored_of (followed s n part mark) b h.tallies) new =
      subst (λ (x : Stored). IsStored h.base h.span x new) (new_stored_of s b h.tallies fresh)
      (acked (record { session = stored_of s b h.tallies; size_is = its.size_is; count = its.count; room = its.room }) held.stored) in
      let is = after_heard s k.cause in
      subst (λ (x : Option Session). IsHeldAs (record h { slot = slot; records = h.records + 1 }) x new) (sym is)
      (record {
        stands = subst (HeldStandsAs (record h { slot = slot; records = h.records + 1 })) is (stands_new h slot area stands fits_n fits_mark (Some s) held.stands answers);
        counted = count_new s h.tallies fresh held.counted;
        body = b;
        its_body = body_more s b held.its_body;
        stored = after;
      })

  -- ---- and what `tally` says

  pub old_moments : (h : HeldSession) (o : Option Session) {old new : FlashSeen} → IsHeldAs h o old → Answers h.slot (answer.Fed told.Old)
      → ((x : Tallied h.tallies) → IsStored h.base h.span x.session old → LeavesOnly (WasOrIs h.base (Some x.session) (Some (with_tally x.session))) old new)
      → LeavesOnly (OldOrNew h o (After o)) old new
  old_moments h None {old} {new} held answers leaves = absurd (none_fed told.Old (news_in None n part mark) (answers None held.stands))
  old_moments h (Some s) {old} {new} held answers leaves =
      let stands = held.stands in
      let b = held.body in
      let k = hears s told.Old (slot_answer h (Some s) (answer.Fed told.Old) stands answers) in
      let can = can_hear s.setup way n part k.cause in
      let known = is_old_told (is_new (shape_of s) (fragment n part mark) s.heard) k.answered in
      let after_open = openable_more h s k.cause (ranged_old s known stands.openable.ranged) stands.openable in
      let before : (c : List ℕ) → Lies h.base (stored_of s b h.tallies) c → LiesFor h s c = λ (c : List ℕ) (lies : Lies h.base (stored_of s b h.tallies) c).
      record { openable = stands.openable; body = b; tallies = h.tallies; its_body = held.its_body; counted = held.counted; lies = lies } in
      let after : (c : List ℕ) → Lies h.base (stored_of (followed s n part mark) b (h.tallies + 1)) c → LiesFor h (followed s n part mark) c = λ (c : List ℕ) (lies : Lies h.base (stored_of (followed s n part mark) b (h.tallies + 1)) c).
      record { openable = after_open; body = b; tallies = h.tallies + 1; its_body = body_more s b held.its_body; counted = count_old s h.tallies (h.tallies + 1) known held.counted (inl refl); lies = lies } in
      weaker (WasOrIs h.base (Some (stored_of s b h.tallies)) (Some (with_tally (stored_of s b h.tallies)))) (OldOrNew h (Some s) (After (Some s)))
      (λ c lies. elim lies [
        | inl was ↦ inl (before c was)
        | inr now ↦ inr (subst (λ (o : Option Session). LiesForAs h o c) (sym (after_heard s k.cause))
            (after c (subst (λ (x : Stored). Lies h.base x c) (tallied_stored_of s b h.tallies known) now)))
      ])
      (leaves (record { session = stored_of s b h.tallies; count = tallies_of s b h.tallies }) held.stored)

  pub old_kept : (h : HeldSession) (slot : HeldSlot) (o : Option Session) {old new : FlashSeen} → IsHeldAs h o old → Answers h.slot (answer.Fed told.Old) → h.tallies < 16383
      → extent_of slot ≡ extent_of h.slot → ((o : Option Session) → Stands h.slot o → Stands slot (after_fragment o way n part mark))
      → ((x : Tallied h.tallies) → IsStored h.base h.span x.session old → IsStored h.base h.span (with_tally x.session) new)
      → IsHeldAs (record h { slot = slot; tallies = h.tallies + 1 }) (after_fragment o way n part mark) new
  old_kept h slot None {old} {new} held answers less area stands acked = absurd (none_fed told.Old (news_in None n part mark) (answers None held.stands))
  old_kept h slot (Some s) {old} {new} held answers less area stands acked =
      let b = held.body in
      let k = hears s told.Old (slot_answer h (Some s) (answer.Fed told.Old) held.stands answers) in
      let known = is_old_told (is_new (shape_of s) (fragment n part mark) s.heard) k.answered in
      let after : IsStored h.base h.span (stored_of (followed s n part mark) b (h.tallies + 1)) new =
      subst (λ (x : Stored). IsStored h.base h.span x new) (tallied_stored_of s b h.tallies known)
      (acked (record { session = stored_of s b h.tallies; count = tallies_of s b h.tallies }) held.stored) in
      let is = after_heard s k.cause in
      subst (λ (x : Option Session). IsHeldAs (record h { slot = slot; tallies = h.tallies + 1 }) x new) (sym is)
      (record {
        stands = subst (HeldStandsAs (record h { slot = slot; tallies = h.tallies + 1 })) is (stands_old h slot area stands less (Some s) held.stands answers);
        counted = count_old s h.tallies (h.tallies + 1) known held.counted (inl refl);
        body = b;
        its_body = body_more s b held.its_body;
        stored = after;
      })

  -- where the count is full nothing is written
  pub full_kept : (h : HeldSession) (slot : HeldSlot) (o : Option Session) {seen : FlashSeen} → IsHeldAs h o seen → Answers h.slot (answer.Fed told.Old) → 16383 ≤ h.records + h.tallies
      → extent_of slot ≡ extent_of h.slot → ((o : Option Session) → Stands h.slot o → Stands slot (after_fragment o way n part mark))
      → IsHeldAs (record h { slot = slot }) (after_fragment o way n part mark) seen
  full_kept h slot None {seen} held answers full area stands = absurd (none_fed told.Old (news_in None n part mark) (answers None held.stands))
  full_kept h slot (Some s) {seen} held answers full area stands =
      let b = held.body in
      let k = hears s told.Old (slot_answer h (Some s) (answer.Fed told.Old) held.stands answers) in
      let known = is_old_told (is_new (shape_of s) (fragment n part mark) s.heard) k.answered in
      let is = after_heard s k.cause in
      subst (λ (x : Option Session). IsHeldAs (record h { slot = slot }) x seen) (sym is)
      (record {
        stands = subst (HeldStandsAs (record h { slot = slot })) is (stands_full h slot area stands full (Some s) held.stands answers);
        counted = count_old s h.tallies h.tallies known held.counted (inr (refl, omega (arith, full, held.stands.records)));
        body = b;
        its_body = body_more s b held.its_body;
        stored = subst (λ (x : Stored). IsStored h.base h.span x seen) (old_stored_of s b h.tallies known) held.stored;
      })

  -- no flash call was made
  pub no_call : (h : HeldSession) (o : Option Session) {seen : FlashSeen} → 0 < h.span → IsHeldAs h o seen → LeavesOnly (OldOrNew h o (After o)) seen seen
  no_call h o {seen} some held = stays (OldOrNew h o (After o)) (λ c now. inl (lies_for h o seen some held c now))

  -- nothing was heard
  pub dropped_kept : (h : HeldSession) (slot : HeldSlot) (o : Option Session) {seen : FlashSeen} (c : Cause) → IsHeldAs h o seen → slot ≡ h.slot
      → Answers h.slot (answer.Dropped c) → IsHeldAs (record h { slot = slot }) (after_fragment o way n part mark) seen
  dropped_kept h slot o {seen} c held same answers =
      subst (λ (x : Option Session). IsHeldAs (record h { slot = slot }) x seen) (sym (dropped_same o c (slot_answer h o (answer.Dropped c) held.stands answers)))
      (subst (λ (x : HeldSlot). IsHeldAs (record h { slot = x }) o seen) (sym same) held)
