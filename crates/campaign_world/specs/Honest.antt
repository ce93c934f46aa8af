-- Honest lines: all that reaches a device is what the server sent, or what another campaign's server sent to all of its own
-- devices (this project's profile).
use Rattle.std.specs.Prelude.{◌≡◌, ℕ, Bool, true, false, not, ◌&&◌, ◌==◌, nat_lt, List, [], ◌∷◌, Ok}
use Rattle.std.specs.List.{AllByRecursion}
use Rattle.wire_base.specs.declared.refusal.Direction.TheVariants.{Down as Downwards}
use Rattle.cast_wire.specs.declared.cmd.Cmd.TheVariants.{DataFragment, FragSessionStatusReq}
use Rattle.package_grammar.specs.declared.command.Command.{Command}
use Rattle.package_grammar.specs.declared.command.Command.TheVariants.{Cast}
use Rattle.package_grammar.specs.Reading.{Reading, reading_of}
use Rattle.script_lines.specs.declared.forms.Form.{Form}
use Rattle.script_lines.specs.declared.forms.Form.TheVariants.{Raw, RawAir}
use Rattle.campaign_world.specs.Said.{Own, Reached, Line}

-- the form brings a payload, or bytes, that the server need not have sent
abbrev pub is_raw : Form → Bool
is_raw (Raw device port payload word) = true
is_raw (RawAir device bytes word) = true
is_raw form = false

-- a fragment or a status request for a session of another index than the campaign's
abbrev pub is_for_others : (own : ℕ) → Command → Bool
is_for_others own (Cast (DataFragment index n part)) = nat_lt index 4 && not (index == own)
is_for_others own (Cast (FragSessionStatusReq index participants)) = nat_lt index 4 && not (index == own)
is_for_others own command = false

-- so is the payload's one command
abbrev pub are_for_others : (own : ℕ) → Reading → Bool
are_for_others own (Ok (command ∷ [])) = is_for_others own command
are_for_others own reading = false

-- what the line brings need not have been sent, by this campaign's server or to all of another's
abbrev pub has_raw : (index : ℕ) → Line → Bool
has_raw index (Ok (Own form)) = is_raw form
has_raw index (Ok (Reached device word down)) = not (are_for_others index (reading_of down.port Downwards down.payload))
has_raw index line = false

-- no line does
abbrev pub AreHonest : (index : ℕ) → (lines : List Line) → Type 0
AreHonest index lines = AllByRecursion (λ line. has_raw index line ≡ false) lines
