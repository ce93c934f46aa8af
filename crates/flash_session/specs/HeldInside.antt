-- What the fields of a session in flash keep true.
use Rattle.std.specs.Prelude.{◌≤◌, Option}
use Rattle.frag_session.specs.Session.{Session}
use Rattle.flash_session.specs.HeldSession.{HeldSession}
use Rattle.flash_session.specs.Layout.{records_place}
use Rattle.flash_session.specs.Sessions.{HeldStandsAs}

-- its range is long enough for a setup and all gates, and it stands for some session, or for none
pub record IsHeldSession (h : HeldSession) : Type 0 where
  pub long : records_place ≤ h.span
  pub session : Option Session
  pub stands : HeldStandsAs h session
