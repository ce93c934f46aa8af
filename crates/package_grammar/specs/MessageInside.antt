-- What the fields of a message keep: a place of a payload from which on commands are spelled up to its end.
use Rattle.std.specs.Prelude.{◌≡◌, ℕ, ◌≤◌, List, [], ◌++◌, length, Ok, Err}
use Rattle.wire_base.specs.declared.refusal.Direction.{Direction}
use Rattle.package_grammar.specs.declared.command.Command.{Command}
use Rattle.package_grammar.specs.Grammar.{IsRead, Spells, SpellsTo}
use Rattle.package_grammar.specs.Reading.{Reading, read_from}
use Rattle.package_grammar.specs.Texts.{text_of}

abbrev pub commands_of : Reading → List Command
commands_of (Ok commands) = commands
commands_of (Err refusal) = []

-- the commands from a place on
unfoldable pub commands_left : ℕ → Direction → List ℕ → ℕ → List Command
commands_left port direction bytes at = commands_of (read_from (length bytes) port direction bytes at)

pub record IsAt (port : ℕ) (direction : Direction) (bytes : List ℕ) (at : ℕ) : Type 0 where
  pub read : IsRead port bytes
  pub inside : at ≤ length bytes
  pub spells : SpellsTo (commands_left port direction bytes at) port direction bytes at (length bytes)

-- a command is spelled from a place to the next, and its text was put at the end
abbrev pub IsPutAt : ℕ → Direction → List ℕ → ℕ → (before after : List ℕ) → (next : ℕ) → Type 0
IsPutAt port direction bytes at before after next =
    (command : Command) × Spells command port direction bytes at next × (after ≡ before ++ text_of command)
