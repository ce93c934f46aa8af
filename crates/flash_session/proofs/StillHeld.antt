-- A session that is held, and what is stored for one, while others are read.
use Rattle.std.proofs.Common.{ℕ, ◌+◌, ◌≤◌, List, Option, None, Some, inl, inr, sym, ◌∙◌, arith}
use Rattle.frag_session.specs.Session.{Session}
use Rattle.flash_session.specs.Contents.{Same, SameWithin, Follows}
use Rattle.flash_session.specs.HeldSession.{HeldSession}
use Rattle.flash_session.specs.Sessions.{stored_of, stored_as, LiesForAs, IsHeldAs}
use Rattle.flash_session.proofs.Apart.{within_as}
use Rattle.flash_session.proofs.Headers.{kept_within}
use Rattle.flash_session.proofs.Openable.{openable_fits}
use Rattle.flash_session.proofs.Places.{lies_within}
use Rattle.flash_session.specs.Seen.{FlashSeen, left, IsKept}
use Rattle.flash_session.specs.HeldCalls.{OldOrNew, OldNoneOrNew}
use Rattle.flash_session.specs.Moments.{LeavesOnly}

same_within : (at n : ℕ) (b c : List ℕ) → Same b c → SameWithin at n b c
same_within at n b c same = record { within = λ i lt. same.all (at + i) }

pub same_back : (b c : List ℕ) → Same b c → Same c b
same_back b c same = record { all = λ i. sym (same.all i) }

-- what equal bytes stand for
pub lies_for_same : (h : HeldSession) (o : Option Session) (b c : List ℕ) → Same b c → LiesForAs h o b → LiesForAs h o c
lies_for_same h None b c same none = λ is. none (sym (same.all h.base) ∙ is)
lies_for_same h (Some s) b c same lies = record {
  openable = lies.openable;
  body = lies.body;
  tallies = lies.tallies;
  its_body = lies.its_body;
  counted = lies.counted;
  lies = lies_within h.base h.span (stored_of s lies.body lies.tallies)
      (openable_fits h s lies.body lies.tallies lies.its_body.sized lies.openable) b c (same_within h.base h.span b c same) lies.lies;
}

-- nothing was written, and all is synced
pub still_held : (h : HeldSession) (o : Option Session) (seen0 seen : FlashSeen) → 24640 ≤ h.span → IsHeldAs h o seen0
    → Follows Same seen0.holds seen.holds → IsKept seen → IsHeldAs h o seen
still_held h o seen0 seen long held follows kept = record {
  stands = held.stands;
  counted = held.counted;
  body = held.body;
  its_body = held.its_body;
  stored = record {
    fits = held.stored.fits;
    read = λ b now.
        let from = follows.from b now in
        within_as h o (stored_as o held.body h.tallies) held.stored.fits (omega (arith, long)) from.0 b (same_within h.base h.span from.0 b from.2) (held.stored.read from.0 from.1);
    kept = kept_within h.base h.span seen kept;
  };
}

-- ---- what a read gives after a failure

-- what a stop might leave is what a read gives then, byte for byte
pub given_too : (P : List ℕ → Type 0) {old new : FlashSeen} → ((b c : List ℕ) → Same b c → P b → P c) → LeavesOnly P old new → Follows Same (left new) new.holds → (b : List ℕ) → new.holds b → P b
given_too P {old} {new} same leaves torn b now = let from = torn.from b now in same from.0 b from.2 (leaves.last from.0 from.1)

pub same_old_new : (h : HeldSession) (old new : Option Session) (b c : List ℕ) → Same b c → OldOrNew h old new b → OldOrNew h old new c
same_old_new h old new b c same lies = elim lies [ inl was ↦ inl (lies_for_same h old b c same was) | inr is ↦ inr (lies_for_same h new b c same is) ]

pub same_old_none_new : (h : HeldSession) (old new : Option Session) (b c : List ℕ) → Same b c → OldNoneOrNew h old new b → OldNoneOrNew h old new c
same_old_none_new h old new b c same lies = elim lies [
  | inl was ↦ inl (lies_for_same h old b c same was)
  | inr others ↦ elim others [ inl none ↦ inr (inl (lies_for_same h None b c same none)) | inr is ↦ inr (inr (lies_for_same h new b c same is)) ]
]
