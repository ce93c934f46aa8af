-- What is spelled at a place is what its identifier names there: so a place has one spelling.
use Rattle.std.proofs.Common.{◌≡◌, ℕ, ◌+◌, List, Some, None, ap, ◌∙◌, inl, inr, to_z-of_z}
use Rattle.std.specs.Int.{w32, cast_signed}
use Rattle.wire_base.specs.declared.refusal.Direction.{Direction}
use Rattle.wire_base.specs.Numbers.{number_at}
use Rattle.wire_base.proofs.Spelled.{flag_of, has_bytes}
use Rattle.sync_wire.specs.declared.cmd.Cmd.{Cmd}
use Rattle.sync_wire.specs.declared.cmd.Cmd.TheVariants.{PackageVersionReq, PackageVersionAns, AppTimeReq, AppTimeAns, DeviceAppTimePeriodicityAns, DevVersionReq, DevVersionAns, DevUpgradeImageReq, DevUpgradeImageAns}
use Rattle.sync_wire.specs.Table.{Spells}
use Rattle.sync_wire.specs.Reading.{clock_down, clock_up, firmware_down, firmware_up, reading}

pub only : (c : Cmd) (port : ℕ) (dir : Direction) (bytes : List ℕ) (at end : ℕ) → Spells c port dir bytes at end → reading port dir bytes at ≡ Some (c, end)
unfolding clock_down clock_up firmware_down firmware_up
only PackageVersionReq port dir bytes at end s = elim s.listed.port_is [
  | inl on ↦ rw (on, s.listed.direction_is, s.lies.cid_is, has_bytes _ _ _ _ s.lies.parts_lie) cc
  | inr on ↦ rw (on, s.listed.direction_is, s.lies.cid_is, has_bytes _ _ _ _ s.lies.parts_lie) cc
]
only (PackageVersionAns identifier version) port dir bytes at end s = elim s.listed.port_is [
  | inl on ↦ rw (on, s.listed.direction_is, s.lies.cid_is, has_bytes _ _ _ _ s.lies.parts_lie.1.1) cc
  | inr on ↦ rw (on, s.listed.direction_is, s.lies.cid_is, has_bytes _ _ _ _ s.lies.parts_lie.1.1) cc
]
only (AppTimeReq time required token) port dir bytes at end s =
    let p = s.lies.parts_lie in
    let required_is = flag_of _ required p.1.0.0 in
    rw (s.listed.port_is, s.listed.direction_is, s.lies.cid_is, has_bytes _ _ _ _ p.1.1) cc
only (AppTimeAns correction token) port dir bytes at end s =
    let p = s.lies.parts_lie in
    let correction_is : cast_signed w32 (number_at bytes (at + 1) 4) ≡ correction = ap (cast_signed w32) p.0 ∙ to_z-of_z s.whole in
    rw (s.listed.port_is, s.listed.direction_is, s.lies.cid_is, has_bytes _ _ _ _ p.1.1) cc
only (DeviceAppTimePeriodicityAns unsupported time) port dir bytes at end s =
    let p = s.lies.parts_lie in
    let unsupported_is = flag_of _ unsupported p.0.0 in
    rw (s.listed.port_is, s.listed.direction_is, s.lies.cid_is, has_bytes _ _ _ _ p.1.1) cc
only DevVersionReq port dir bytes at end s = rw (s.listed.port_is, s.listed.direction_is, s.lies.cid_is, has_bytes _ _ _ _ s.lies.parts_lie) cc
only (DevVersionAns firmware hardware) port dir bytes at end s = rw (s.listed.port_is, s.listed.direction_is, s.lies.cid_is, has_bytes _ _ _ _ s.lies.parts_lie.1.1) cc
only DevUpgradeImageReq port dir bytes at end s = rw (s.listed.port_is, s.listed.direction_is, s.lies.cid_is, has_bytes _ _ _ _ s.lies.parts_lie) cc
only (DevUpgradeImageAns status None) port dir bytes at end s =
    let p = s.lies.parts_lie in rw (s.listed.port_is, s.listed.direction_is, s.lies.cid_is, p.0.0, ← s.whole, has_bytes _ _ _ _ p.1) cc
only (DevUpgradeImageAns status (Some next)) port dir bytes at end s =
    let p = s.lies.parts_lie in rw (s.listed.port_is, s.listed.direction_is, s.lies.cid_is, p.0.0, ← s.whole, has_bytes _ _ _ _ p.1.1) cc
only _ port dir bytes at end s = rw (s.listed.port_is, s.listed.direction_is, s.lies.cid_is, has_bytes _ _ _ _ s.lies.parts_lie.1) cc
