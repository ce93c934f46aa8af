-- The commands of the four packages (TS003, TS004, TS005 and TS006, 1.0.0), each with its row of the standard's tables;
-- what a payload of several says, and where reading it stops.
use Rattle.std.specs.Prelude.{◌≡◌, ◌<◌, ◌≤◌, ◌⊎◌, ℕ, List, [], ◌∷◌, length, Result, Ok, Err}
use Rattle.wire_base.specs.declared.refusal.Direction.{Direction}
use Rattle.wire_base.specs.declared.refusal.Refusal.{Refusal}
use Rattle.wire_base.specs.declared.refusal.Why.TheVariants.{Port, TooLong}
use Rattle.wire_base.specs.Payload.{max_payload}
use Rattle.wire_base.specs.Rows.{Row, spelling}
use Rattle.wire_base.specs.Tables as table
use Rattle.sync_wire.specs.Table as sync
use Rattle.cast_wire.specs.Table as cast
use Rattle.package_grammar.specs.declared.command.Command.{Command}
use Rattle.package_grammar.specs.declared.command.Command.TheVariants.{Sync, Cast}

-- the tables as one
abbrev pub row : Command → Row
row (Sync cmd) = sync.row cmd
row (Cast cmd) = cast.row cmd

-- what a command's fields must be together
abbrev pub IsWhole : Command → Type 0
IsWhole (Sync cmd) = sync.IsWhole cmd
IsWhole (Cast cmd) = cast.IsWhole cmd

-- a valid command
abbrev pub IsValid : Command → Type 0
IsValid c = table.IsValid row IsWhole c

-- the bytes of a payload from a place to the next spell the command
abbrev pub Spells : Command → ℕ → Direction → List ℕ → (at next : ℕ) → Type 0
Spells c port direction bytes at next = table.Spells row IsWhole c port direction bytes at next

-- the canonical spelling of a command: its bytes with reserved bits 0
abbrev pub canonical : Command → List ℕ
canonical c = spelling (row c)

-- ---- payloads of several commands

-- the ports of the packages
pub record IsPort (port : ℕ) : Type 0 where
  pub low : 200 ≤ port
  pub high : port ≤ 203

-- from a place to another the payload spells these commands, one after another
abbrev pub SpellsTo : List Command → ℕ → Direction → List ℕ → (at end : ℕ) → Type 0
SpellsTo [] port direction bytes at end = at ≡ end
SpellsTo (c ∷ cs) port direction bytes at end =
    (next : ℕ) × Spells c port direction bytes at next × SpellsTo cs port direction bytes next end

-- a payload on one of the ports is a message of these commands
pub record IsMessage (cs : List Command) (port : ℕ) (direction : Direction) (bytes : List ℕ) : Type 0 where
  pub port_is : IsPort port
  pub fits : length bytes ≤ max_payload
  pub all : SpellsTo cs port direction bytes 0 (length bytes)

-- ---- where reading stops

-- some command of the tables for that port and direction has this identifier
abbrev pub IsKnown : ℕ → Direction → ℕ → Type 0
IsKnown port direction cid = table.IsKnown row port direction cid

-- a payload on one of the ports that isn't too long
abbrev pub IsRead : ℕ → List ℕ → Type 0
IsRead port bytes = table.IsRead IsPort port bytes

-- the refusal of a place where no command is spelled
abbrev pub IsRefusal : ℕ → Direction → List ℕ → (at : ℕ) → Refusal → Type 0
IsRefusal port direction bytes at refusal = table.IsRefusal row IsPort port direction bytes at refusal

-- no command is spelled at the place
abbrev pub NoneSpelled : ℕ → Direction → List ℕ → ℕ → Type 0
NoneSpelled port direction bytes at = (c : Command) (next : ℕ) → Spells c port direction bytes at next → ⊥

-- after these commands there is a place before the end at which none is spelled, and that is why
pub record IsStopAt (port : ℕ) (direction : Direction) (bytes : List ℕ) (from : ℕ) (refusal : Refusal)
    (read : List Command) (at : ℕ) : Type 0 where
  pub reached : SpellsTo read port direction bytes from at
  pub inside : at < length bytes
  pub none : NoneSpelled port direction bytes at
  pub cause : IsRefusal port direction bytes at refusal

-- reading from a place on stops after some commands
abbrev pub StopsFrom : ℕ → Direction → List ℕ → (from : ℕ) → Refusal → Type 0
StopsFrom port direction bytes from refusal =
    (read : List Command) × (at : ℕ) × IsStopAt port direction bytes from refusal read at

-- a payload is no message for its port, or is too long, or reading it stops
abbrev pub IsStop : ℕ → Direction → List ℕ → Refusal → Type 0
IsStop port direction bytes refusal =
    ((¬ IsPort port) × (refusal.why ≡ Port) × (refusal.at ≡ 0))
    ⊎ ((IsPort port × (max_payload < length bytes) × (refusal.why ≡ TooLong) × (refusal.at ≡ max_payload))
    ⊎ (IsRead port bytes × StopsFrom port direction bytes 0 refusal))

-- what reading a payload answers: its commands, or where and why it stops
abbrev pub IsReading : ℕ → Direction → List ℕ → Result (List Command) Refusal → Type 0
IsReading port direction bytes (Ok cs) = IsMessage cs port direction bytes
IsReading port direction bytes (Err refusal) = IsStop port direction bytes refusal
