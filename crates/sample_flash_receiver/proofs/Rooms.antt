-- What a receiver has room for.
use Rattle.std.proofs.Common.{◌≡◌, refl, ◌∙◌}
use Rattle.frag_session.specs.HeldSteps.{extent_of}
use Rattle.flash_session.specs.Replayed.{IsPlaceOf}
use Rattle.flash_session.specs.HeldSession.{HeldSession, room_in}
use Rattle.sample_flash_receiver.specs.HeldReceiver.{room, IsReceiver}

pub room_is : (h : HeldSession) → IsReceiver h → room_in h ≡ room
room_is h is = rw (is.words_are, is.bytes_are, is.span_is, is.extent_is) refl

-- what a call leaves at its place is a receiver
pub place_is : (h k : HeldSession) → IsReceiver h → IsPlaceOf k 64 768 h.base h.span h.limits (extent_of h.slot) → IsReceiver k
place_is h k was is = record {
  words_are = is.words_are;
  bytes_are = is.bytes_are;
  base_is = is.base_is ∙ was.base_is;
  span_is = is.span_is ∙ was.span_is;
  limits_are = is.limits_are ∙ was.limits_are;
  extent_is = is.extent_is ∙ was.extent_is;
}
