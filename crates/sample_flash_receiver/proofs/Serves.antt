-- What a call on a session says of a receiver.
use Rattle.std.proofs.Common.{◌≡◌, ℕ, List, Option, Result, Ok, Err, refl, subst, ◌∙◌}
use Rattle.frag_session.specs.Session.{Session, after_setup}
use Rattle.frag_session.specs.declared.setups.SetupReq.{SetupReq}
use Rattle.row_elimination.specs.Room.{Extent}
use Rattle.flash_session.specs.HeldCalls.{HeldServes, OldNoneOrNew}
use Rattle.flash_session.specs.HeldSession.{HeldSession, room_in}
use Rattle.flash_session.specs.Seen.{FlashSeen}
use Rattle.sample_receiver.specs.HeldReceiver.{extent, limits}
use Rattle.sample_flash_receiver.specs.HeldReceiver.{room, IsReceiver, ReceiverServes, ReceiverStays}
use Rattle.sample_flash_receiver.proofs.Rooms.{room_is, place_is}

module _ {A : Type 0} (h : HeldSession) {after : Option Session → Option Session} {leaves : (old new : Option Session) → List ℕ → Type 0} {old new : FlashSeen} where
  pub ok_serves : {T : Type 0} {of : T → HeldSession} {k : HeldSession} {x : A} (r : T) → of r ≡ k → HeldServes 64 768 h after leaves old new (Ok (k, x)) → ReceiverServes {T = T} {E = Extent} of h after leaves old new (Ok r)
  ok_serves {T} {of} {k} {x} r same serves = record {
    stands = λ s was. rw same (record { stands = serves.stands s was.stands; counted = serves.counted s was.stands was.counted });
    stored = λ s was. rw same (serves.acknowledged s was);
    any_moment = serves.any_moment;
    again = λ s was. tt;
  }

  pub failed_serves : {T E : Type 0} {of : T → HeldSession} {z : Extent} {e : E} → HeldServes {Answer = A} 64 768 h after leaves old new (Err z) → ReceiverServes of h after leaves old new (Err e)
  failed_serves {T} {E} {of} {z} {e} serves = record {
    stands = λ s was. tt;
    stored = λ s was. tt;
    any_moment = serves.any_moment;
    again = serves.again;
  }

  pub ok_stays : {T : Type 0} {of : T → HeldSession} {k : HeldSession} {x : A} (r : T) → of r ≡ k → IsReceiver h → HeldServes 64 768 h after leaves old new (Ok (k, x)) → ReceiverStays of old new (Ok r)
  ok_stays {T} {of} {k} {x} r same is serves = record {
    receiver = rw same (place_is h k is serves.place);
    arena = tt;
    size = serves.serves.size;
    cause = record { later = serves.serves.cause.later; failed = tt };
  }

  pub failed_stays : {T : Type 0} {of : T → HeldSession} {z : Extent} → IsReceiver h → HeldServes {Answer = A} 64 768 h after leaves old new (Err z) → ReceiverStays of old new (Err z)
  failed_stays {T} {of} {z} is serves = record {
    receiver = tt;
    arena = serves.extent ∙ is.extent_is;
    size = serves.serves.size;
    cause = record { later = serves.serves.cause.later; failed = serves.serves.cause.failed };
  }

  -- either way
  pub all_serves : (r : Result (HeldSession × A) Extent) → HeldServes 64 768 h after leaves old new r → ReceiverServes (λ x. x.0) h after leaves old new r
  all_serves (Ok k) serves = ok_serves k refl serves
  all_serves (Err z) serves = failed_serves serves

  pub all_stays : (r : Result (HeldSession × A) Extent) → IsReceiver h → HeldServes 64 768 h after leaves old new r → ReceiverStays (λ x. x.0) old new r
  all_stays (Ok k) is serves = ok_stays k refl is serves
  all_stays (Err z) is serves = failed_stays is serves

-- a setup, with the receiver's limits and room
pub as_receiver : {A : Type 0} (h : HeldSession) (is : IsReceiver h) (req : SetupReq) {old new : FlashSeen} {r : Result (HeldSession × A) Extent}
    → HeldServes 64 768 h (λ o. after_setup h.limits (room_in h) o req) (OldNoneOrNew h) old new r → HeldServes 64 768 h (λ o. after_setup limits room o req) (OldNoneOrNew h) old new r
as_receiver {A} h is req {old} {new} {r} serves =
    subst (λ (f : Option Session → Option Session). HeldServes 64 768 h f (OldNoneOrNew h) old new r) (λ i o. after_setup (is.limits_are i) (room_is h is i) o req) serves
