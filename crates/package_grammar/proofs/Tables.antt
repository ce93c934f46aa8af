-- Which table a port has, and what the refusals of the two crates say of both tables.
use Rattle.std.proofs.Common.{◌≡◌, ℕ, ◌<◌, ◌≤◌, List, length, inl, inr, arith}
use Rattle.std.proofs.lemmas.Bool.{cases_eq}
use Rattle.wire_base.specs.declared.refusal.Direction.{Direction}
use Rattle.wire_base.specs.declared.refusal.Refusal.{Refusal}
use Rattle.wire_base.specs.declared.refusal.Why.{Why}
use Rattle.wire_base.specs.declared.refusal.Why.TheVariants.{Port, UnknownCommand, Short, TooLong}
use Rattle.wire_base.specs.Rows.{IsListed}
use Rattle.wire_base.specs.Numbers.{number_at}
use Rattle.wire_base.specs.Tables as table
use Rattle.wire_base.proofs.RowLaws.{parts_before}
use Rattle.sync_wire.specs.declared.cmd.Cmd.{Cmd as SyncCmd}
use Rattle.sync_wire.specs.declared.cmd.Cmd.TheVariants as s
use Rattle.sync_wire.specs.Table as sync
use Rattle.cast_wire.specs.declared.cmd.Cmd.{Cmd as CastCmd}
use Rattle.cast_wire.specs.declared.cmd.Cmd.TheVariants as c
use Rattle.cast_wire.specs.Table as cast
use Rattle.package_grammar.specs.declared.command.Command.{Command}
use Rattle.package_grammar.specs.declared.command.Command.TheVariants.{Sync, Cast}
use Rattle.package_grammar.specs.Grammar.{row, Spells, IsPort, IsKnown, IsRefusal}

-- the ports of a command of the one table, and of the other
pub sync_port : (cmd : SyncCmd) (port : ℕ) (dir : Direction) → IsListed (sync.row cmd) port dir → (202 ≤ port) × (port ≤ 203)
sync_port s.PackageVersionReq port dir listed = elim listed.port_is [ inl is ↦ (omega (arith, is), omega (arith, is)) | inr is ↦ (omega (arith, is), omega (arith, is)) ]
sync_port (s.PackageVersionAns a b) port dir listed = elim listed.port_is [ inl is ↦ (omega (arith, is), omega (arith, is)) | inr is ↦ (omega (arith, is), omega (arith, is)) ]
sync_port _ port dir listed = (omega (arith, listed.port_is), omega (arith, listed.port_is))

pub cast_port : (cmd : CastCmd) (port : ℕ) (dir : Direction) → IsListed (cast.row cmd) port dir → (200 ≤ port) × (port ≤ 201)
cast_port c.PackageVersionReq port dir listed = elim listed.port_is [ inl is ↦ (omega (arith, is), omega (arith, is)) | inr is ↦ (omega (arith, is), omega (arith, is)) ]
cast_port (c.PackageVersionAns a b) port dir listed = elim listed.port_is [ inl is ↦ (omega (arith, is), omega (arith, is)) | inr is ↦ (omega (arith, is), omega (arith, is)) ]
cast_port _ port dir listed = (omega (arith, listed.port_is), omega (arith, listed.port_is))

-- a command that is spelled on one of the ports is of its table
pub not_cast : (cmd : CastCmd) (port : ℕ) (dir : Direction) (bytes : List ℕ) (at next : ℕ) → 202 ≤ port → Spells (Cast cmd) port dir bytes at next → ⊥
not_cast cmd port dir bytes at next high spells = omega (arith, (cast_port cmd port dir spells.listed).1)

pub not_sync : (cmd : SyncCmd) (port : ℕ) (dir : Direction) (bytes : List ℕ) (at next : ℕ) → (port ≡ 202 → ⊥) → (port ≡ 203 → ⊥) → Spells (Sync cmd) port dir bytes at next → ⊥
not_sync cmd port dir bytes at next first second spells =
    let p = sync_port cmd port dir spells.listed in omega (arith, p.0, p.1, first, second)

-- a command that is spelled ends within the payload
pub within : (c : Command) (port : ℕ) (dir : Direction) (bytes : List ℕ) (at next : ℕ) → Spells c port dir bytes at next → next ≤ length bytes
within c port dir bytes at next spells = (parts_before (row c).parts bytes at 1 next spells.lies.parts_lie).0

-- and after its place
pub moves : (c : Command) (port : ℕ) (dir : Direction) (bytes : List ℕ) (at next : ℕ) → Spells c port dir bytes at next → at < next
moves c port dir bytes at next spells = omega (arith, (parts_before (row c).parts bytes at 1 next spells.lies.parts_lie).1)

sync_is_port : (port : ℕ) → sync.IsPort port → IsPort port
sync_is_port port (inl is) = record { low = omega (arith, is); high = omega (arith, is) }
sync_is_port port (inr is) = record { low = omega (arith, is); high = omega (arith, is) }

cast_is_port : (port : ℕ) → cast.IsPort port → IsPort port
cast_is_port port (inl is) = record { low = omega (arith, is); high = omega (arith, is) }
cast_is_port port (inr is) = record { low = omega (arith, is); high = omega (arith, is) }

pub sync_known : (port : ℕ) (dir : Direction) (cid : ℕ) → sync.IsKnown port dir cid → IsKnown port dir cid
sync_known port dir cid known = record { command = Sync known.command; listed = known.listed; cid_is = known.cid_is }

pub cast_known : (port : ℕ) (dir : Direction) (cid : ℕ) → cast.IsKnown port dir cid → IsKnown port dir cid
cast_known port dir cid known = record { command = Cast known.command; listed = known.listed; cid_is = known.cid_is }

of_sync : (port : ℕ) (dir : Direction) (cid : ℕ) (command : Command) → 202 ≤ port → IsListed (row command) port dir → (row command).cid ≡ cid → sync.IsKnown port dir cid
of_sync port dir cid (Sync cmd) high listed cid_is = record { command = cmd; listed = listed; cid_is = cid_is }
of_sync port dir cid (Cast cmd) high listed cid_is = absurd (omega (arith, (cast_port cmd port dir listed).1))

of_cast : (port : ℕ) (dir : Direction) (cid : ℕ) (command : Command) → port ≤ 201 → IsListed (row command) port dir → (row command).cid ≡ cid → cast.IsKnown port dir cid
of_cast port dir cid (Cast cmd) low listed cid_is = record { command = cmd; listed = listed; cid_is = cid_is }
of_cast port dir cid (Sync cmd) low listed cid_is = absurd (omega (arith, (sync_port cmd port dir listed).0))

sync_refused : (port : ℕ) (dir : Direction) (bytes : List ℕ) (at : ℕ) (why : Why) → sync.IsPort port → table.IsRefused sync.row sync.IsPort port dir bytes at why → table.IsRefused row IsPort port dir bytes at why
sync_refused port dir bytes at Port is refused = absurd (refused is)
sync_refused port dir bytes at TooLong is refused = (sync_is_port port is, refused.1)
sync_refused port dir bytes at UnknownCommand is refused =
    let high : 202 ≤ port = elim is [ inl e ↦ omega (arith, e) | inr e ↦ omega (arith, e) ] in
    ((sync_is_port port is, refused.0.1), λ known. refused.1 (of_sync port dir (number_at bytes at 1) known.command high known.listed known.cid_is))
sync_refused port dir bytes at Short is refused = ((sync_is_port port is, refused.0.1), sync_known port dir (number_at bytes at 1) refused.1)

pub sync_cause : (port : ℕ) (dir : Direction) (bytes : List ℕ) (at : ℕ) (refusal : Refusal) → sync.IsPort port → sync.IsRefusal port dir bytes at refusal → IsRefusal port dir bytes at refusal
sync_cause port dir bytes at refusal is cause = record { why = sync_refused port dir bytes at refusal.why is cause.why; place = cause.place }

cast_refused : (port : ℕ) (dir : Direction) (bytes : List ℕ) (at : ℕ) (why : Why) → (sync.IsPort port → ⊥) → table.IsRefused cast.row cast.IsPort port dir bytes at why → table.IsRefused row IsPort port dir bytes at why
cast_refused port dir bytes at Port other refused = λ p. elim (cases_eq port 200) [
  | inl e ↦ refused (inl e)
  | inr n ↦ elim (cases_eq port 201) [
    | inl e ↦ refused (inr e)
    | inr m ↦ elim (cases_eq port 202) [
      | inl e ↦ other (inl e)
      | inr k ↦ other (inr (omega (arith, p.low, p.high, n, m, k)))
    ]
  ]
]
cast_refused port dir bytes at TooLong other refused = (cast_is_port port refused.0, refused.1)
cast_refused port dir bytes at UnknownCommand other refused =
    let low : port ≤ 201 = elim refused.0.0 [ inl e ↦ omega (arith, e) | inr e ↦ omega (arith, e) ] in
    ((cast_is_port port refused.0.0, refused.0.1), λ known. refused.1 (of_cast port dir (number_at bytes at 1) known.command low known.listed known.cid_is))
cast_refused port dir bytes at Short other refused = ((cast_is_port port refused.0.0, refused.0.1), cast_known port dir (number_at bytes at 1) refused.1)

pub cast_cause : (port : ℕ) (dir : Direction) (bytes : List ℕ) (at : ℕ) (refusal : Refusal) → (sync.IsPort port → ⊥) → cast.IsRefusal port dir bytes at refusal → IsRefusal port dir bytes at refusal
cast_cause port dir bytes at refusal other cause = record { why = cast_refused port dir bytes at refusal.why other cause.why; place = cause.place }

pub sync_within : (cmd : SyncCmd) (port : ℕ) (dir : Direction) (bytes : List ℕ) (at next : ℕ) → sync.Spells cmd port dir bytes at next → next ≤ length bytes
sync_within cmd port dir bytes at next spells = (parts_before (sync.row cmd).parts bytes at 1 next spells.lies.parts_lie).0

pub cast_within : (cmd : CastCmd) (port : ℕ) (dir : Direction) (bytes : List ℕ) (at next : ℕ) → cast.Spells cmd port dir bytes at next → next ≤ length bytes
cast_within cmd port dir bytes at next spells = (parts_before (cast.row cmd).parts bytes at 1 next spells.lies.parts_lie).0
