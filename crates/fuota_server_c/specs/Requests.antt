-- Requests to a device that no campaign makes by itself.
use Rattle.std.specs.Prelude.{◌≡◌, ℕ}
use Rattle.package_grammar.specs.declared.command.Command.{Command}
use Rattle.package_grammar.specs.Grammar.{IsValid}
use Rattle.campaign_server.specs.Sent.{unicast_of}
use Rattle.c_base.specs.Answer.{done, range}
use Rattle.fuota_server_c.specs.declared.sent.DownFields.{DownFields}
use Rattle.fuota_server_c.specs.Sent.{IsDownOut}

-- a request whose fields fit their bits is written by unicast, another is out of range
pub record IsRequestOut (command : Command) (old new : DownFields) (answer : ℕ) : Type 0 where
  pub out : IsValid command → (answer ≡ done) × IsDownOut (unicast_of command) old new
  pub beyond : (¬ IsValid command) → (answer ≡ range) × (new ≡ old)
