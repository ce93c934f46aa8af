-- What is said of a place of a payload at which a DataFragment may stand.
use Rattle.std.specs.Prelude.{ℕ, List, length, Option, Some, None}
use Rattle.wire_base.specs.declared.refusal.Direction.TheVariants.{Down}
use Rattle.cast_wire.specs.declared.cmd.Cmd.TheVariants.{DataFragment}
use Rattle.cast_wire.specs.declared.fragment.Fragment.{Fragment}
use Rattle.cast_wire.specs.Table.{Spells}

-- its fields, where it takes all that is left of the payload; none exactly where none is spelled there
abbrev pub IsFragmentAt : List ℕ → (at : ℕ) → Option Fragment → Type 0
IsFragmentAt bytes at None = (index n next : ℕ) (part : List ℕ) → ¬ Spells (DataFragment index n part) 201 Down bytes at next
IsFragmentAt bytes at (Some fragment) = Spells (DataFragment fragment.index fragment.n fragment.bytes.now) 201 Down bytes at (length bytes)
