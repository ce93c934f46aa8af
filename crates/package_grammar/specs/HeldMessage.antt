-- What contracts see of a message on its way through a loop: the commands that are left of it.
use Rattle.std.specs.Prelude.{◌≡◌, ◌≢◌, ℕ, Bool, true, false, List, [], ◌∷◌, ◌++◌, Option, Some, None, Result, Ok, Err, IfOk, OnErr}
use Rattle.wire_base.specs.declared.refusal.Direction.{Direction}
use Rattle.wire_base.specs.declared.refusal.Refusal.{Refusal}
use Rattle.cast_wire.specs.declared.cmd.Cmd.TheVariants.{DataFragment}
use Rattle.cast_wire.specs.declared.fragment.Fragment.{Fragment}
use Rattle.package_grammar.specs.declared.command.Command.{Command}
use Rattle.package_grammar.specs.declared.command.Command.TheVariants.{Cast}
use Rattle.package_grammar.specs.Reading.{Reading}
use Rattle.package_grammar.specs.Texts.{text_of}

pub record HeldMessage : Type 0 where
  pub port : ℕ
  pub direction : Direction
  pub commands : List Command

-- what is read of a payload, as a message
abbrev pub message_of : ℕ → Direction → Reading → Result HeldMessage Refusal
message_of port direction (Ok commands) = Ok (record { port = port; direction = direction; commands = commands })
message_of port direction (Err refusal) = Err refusal

-- the first command that was left was taken; none where none was left
abbrev pub TakesCommand : HeldMessage → HeldMessage → Option Command → Type 0
TakesCommand old new None = (old.commands ≡ []) × (new ≡ old)
TakesCommand old new (Some command) = old ≡ record new { commands = command ∷ new.commands }

-- the first command that was left was taken and its text put at the end; nothing where none was left
abbrev pub ShowsCommand : HeldMessage → HeldMessage → (before after : List ℕ) → Bool → Type 0
ShowsCommand old new before after true =
    (command : Command) × TakesCommand old new (Some command) × (after ≡ before ++ text_of command)
ShowsCommand old new before after false = TakesCommand old new None × (after ≡ before)

-- where memory suffices it is so, and else nothing was put
pub record ShowsNext (old new : HeldMessage) (before after : List ℕ) {E : Type 0} (result : Result Bool E) : Type 0 where
  pub shown : IfOk result (λ more. ShowsCommand old new before after more)
  pub same : OnErr result (after ≡ before)

-- a DataFragment is all that is left; none exactly where the first command that is left is no DataFragment
abbrev pub LeavesFragment : HeldMessage → Option Fragment → Type 0
LeavesFragment message None =
    (index n : ℕ) (part : List ℕ) (rest : List Command) → message.commands ≢ Cast (DataFragment index n part) ∷ rest
LeavesFragment message (Some fragment) =
    message.commands ≡ Cast (DataFragment fragment.index fragment.n fragment.bytes.now) ∷ []
