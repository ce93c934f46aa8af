-- Several sessions on one flash, each in a range of its own.
use Rattle.std.proofs.Common.{◌≡◌, subst, ℕ, ◌<◌, ◌≤◌, List, Option, None, Some, inl, inr, sym, ◌∙◌, arith}
use Rattle.flash_session.specs.Apart.{AreApart}
use Rattle.flash_session.specs.Contents.{byte_at, SameOutside, SameWithin, Follows}
use Rattle.flash_session.specs.Moments.{Elapses, LeavesOnly}
use Rattle.flash_session.specs.Lies.{Stored, LiesAs, FitsAs, IsStoredAs}
use Rattle.flash_session.proofs.Places.{lies_apart, lies_within}
use Rattle.frag_session.specs.Session.{Session}
use Rattle.flash_session.specs.HeldSession.{HeldSession}
use Rattle.flash_session.specs.Sessions.{stored_as, LiesForAs, IsHeldAs}
use Rattle.flash_session.proofs.Moments.{weaker}
use Rattle.flash_session.proofs.Renewing.{old_lies}
use Rattle.flash_session.specs.Seen.{FlashSeen, left}

-- what a range stands for does not depend on another
pub lies_as_apart : (base span base2 span2 : ℕ) (o : Option Stored) → 0 < span2 → FitsAs span2 o → AreApart base span base2 span2 → (c d : List ℕ) → SameOutside base span c d → LiesAs base2 o c → LiesAs base2 o d
lies_as_apart base span base2 span2 None some fits (inl before) c d same none = λ is. none (sym (same.above base2 before) ∙ is)
lies_as_apart base span base2 span2 None some fits (inr behind) c d same none = λ is. none (sym (same.below base2 (omega (arith, some, behind))) ∙ is)
lies_as_apart base span base2 span2 (Some s) some fits (inl before) c d same lies = lies_apart base2 span2 s fits base span (inl before) c d same lies
lies_as_apart base span base2 span2 (Some s) some fits (inr behind) c d same lies = lies_apart base2 span2 s fits base span (inr behind) c d same lies

-- before a call a stop leaves what the other range stands for
left_as : (base2 span2 : ℕ) (o : Option Stored) → 0 < span2 → (seen : FlashSeen) → IsStoredAs base2 span2 o seen → ((b c : List ℕ) → SameWithin base2 span2 b c → LiesAs base2 o b → LiesAs base2 o c) → (c : List ℕ) → left seen c → LiesAs base2 o c
left_as base2 span2 o some seen stored within c now = let from = stored.kept.from c now in within from.0 c from.2 (stored.read from.0 from.1)

-- and so it does at any moment of a call on the first range
pub others_any_moment : (base span base2 span2 : ℕ) (o : Option Stored) → 0 < span2 → FitsAs span2 o → AreApart base span base2 span2
    → (old new : FlashSeen) → ((c : List ℕ) → left old c → LiesAs base2 o c) → Elapses (SameOutside base span) old new
    → LeavesOnly (LiesAs base2 o) old new
others_any_moment base span base2 span2 o some fits apart old new before call = record {
  later = call.later;
  each = λ c left. elim (call.each old.moment c (omega arith) left) [
    | inl was ↦ before c was
    | inr from ↦ lies_as_apart base span base2 span2 o some fits apart from.0 c from.2 (before from.0 from.1)
  ];
  earlier = λ t c le left. elim (call.each t c le left) [
    | inl was ↦ inl was
    | inr from ↦ inr (lies_as_apart base span base2 span2 o some fits apart from.0 c from.2 (before from.0 from.1))
  ];
  last = λ c now. let from = call.last c now in lies_as_apart base span base2 span2 o some fits apart from.0 c from.2 (before from.0 from.1);
}

-- after a call that ended with a sync the other session is stored as it was
pub others_stored : (base span base2 span2 : ℕ) (o : Option Stored) → 0 < span2 → AreApart base span base2 span2 → (seen0 seen : FlashSeen)
    → IsStoredAs base2 span2 o seen0 → Follows (SameOutside base span) seen0.holds seen.holds → Follows (SameWithin base2 span2) seen.holds (left seen) → IsStoredAs base2 span2 o seen
others_stored base span base2 span2 o some apart seen0 seen stored outside kept = record {
  fits = stored.fits;
  read = λ b now. let from = outside.from b now in lies_as_apart base span base2 span2 o some stored.fits apart from.0 b from.2 (stored.read from.0 from.1);
  kept = kept;
}

-- ---- sessions that are held

pub within_as : (k : HeldSession) (o : Option Session) (x : Option Stored) → FitsAs k.span x → 0 < k.span → (b c : List ℕ) → SameWithin k.base k.span b c → LiesAs k.base x b → LiesAs k.base x c
within_as k o None fits some b c same none = λ is. none (sym (subst (λ (j : ℕ). byte_at c j ≡ byte_at b j) (omega arith) (same.within 0 some)) ∙ is)
within_as k o (Some s) fits some b c same lies = lies_within k.base k.span s fits b c same lies

-- after a call on another range the session is held as it was
pub other_held : (k : HeldSession) (o : Option Session) (base span : ℕ) → AreApart base span k.base k.span → 24640 ≤ k.span → (seen0 seen : FlashSeen)
    → IsHeldAs k o seen0 → Follows (SameOutside base span) seen0.holds seen.holds → (Follows (SameWithin k.base k.span) seen0.holds (left seen0) → Follows (SameWithin k.base k.span) seen.holds (left seen))
    → IsHeldAs k o seen
other_held k o base span apart long seen0 seen held outside kept = record {
  stands = held.stands;
  counted = held.counted;
  body = held.body;
  its_body = held.its_body;
  stored = others_stored base span k.base k.span (stored_as o held.body k.tallies) (omega (arith, long)) apart seen0 seen held.stored outside (kept held.stored.kept);
}

-- and at any moment of it a stop leaves what opens for it
pub other_moments : (k : HeldSession) (o : Option Session) (base span : ℕ) → AreApart base span k.base k.span → 24640 ≤ k.span
    → (old new : FlashSeen) → IsHeldAs k o old → Elapses (SameOutside base span) old new → LeavesOnly (LiesForAs k o) old new
other_moments k o base span apart long old new held call =
    weaker (LiesAs k.base (stored_as o held.body k.tallies)) (LiesForAs k o) (λ c lies. old_lies k o old held c lies)
    (others_any_moment base span k.base k.span (stored_as o held.body k.tallies) (omega (arith, long)) held.stored.fits apart old new
    (λ c now. left_as k.base k.span (stored_as o held.body k.tallies) (omega (arith, long)) old held.stored (within_as k o (stored_as o held.body k.tallies) held.stored.fits (omega (arith, long))) c now) call)

-- two things that hold at any moment hold together
pub both_moments : (P Q : List ℕ → Type 0) (old new : FlashSeen) → LeavesOnly P old new → LeavesOnly Q old new → LeavesOnly (λ c. P c × Q c) old new
both_moments P Q old new one two = record {
  later = one.later;
  each = λ c left. (one.each c left, two.each c left);
  last = λ c now. (one.last c now, two.last c now);
  earlier = λ t c le left. elim (one.earlier t c le left) [
    | inl before ↦ inl before
    | inr p ↦ elim (two.earlier t c le left) [ inl before ↦ inl before | inr q ↦ inr (p, q) ]
  ];
}
