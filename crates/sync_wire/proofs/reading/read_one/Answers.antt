use Rattle.std.proofs.Common.{◌≡◌, arith}
use Rattle.wire_base.specs.declared.refusal.Direction.TheVariants.{Down, Up}
use Rattle.wire_base.proofs.Spelled as spelled
use Rattle.sync_wire.specs.Table.{row, IsWhole}
use Rattle.sync_wire.specs.Reading.{reading}
use Rattle.sync_wire.proofs.Only.{only}
use Rattle.sync_wire.proofs.reading.read_one.Goals as goal

pub returns-in-Down-clause-only : goal.returns-in-Down-clause-only
returns-in-Down-clause-only c = λ cmd next fits spells.
    spelled.only row IsWhole reading only _ _ _ _ _ (rw (c.if-port-eq-CLOCK_PORT.true, c.in-Down.is) c.read_clock_down.ensures.exact) cmd next spells

pub returns-in-Down-2-clause-only : goal.returns-in-Down-2-clause-only
returns-in-Down-2-clause-only c = λ cmd next fits spells.
    let on : c.args.port ≡ 203 = search arith in
    spelled.only row IsWhole reading only _ _ _ _ _ (rw (on, c.in-Down-2.is) c.read_firmware_down.ensures.exact) cmd next spells

pub returns-in-Up-clause-only : goal.returns-in-Up-clause-only
returns-in-Up-clause-only c = λ cmd next fits spells.
    spelled.only row IsWhole reading only _ _ _ _ _ (rw (c.if-port-eq-CLOCK_PORT-2.true, c.in-Up.is) c.read_clock_up.ensures.exact) cmd next spells

pub returns-in-Up-2-clause-only : goal.returns-in-Up-2-clause-only
returns-in-Up-2-clause-only c = λ cmd next fits spells.
    let on : c.args.port ≡ 203 = search arith in
    spelled.only row IsWhole reading only _ _ _ _ _ (rw (on, c.in-Up-2.is) c.read_firmware_up.ensures.exact) cmd next spells

pub returns-in-Down-2-clause-valid : goal.returns-in-Down-2-clause-valid
returns-in-Down-2-clause-valid c = spelled.valid row IsWhole 203 Down _ _ _ (λ i. omega (arith, c.type_inv.bytes i)) c.read_firmware_down.ensures.found

pub returns-in-Up-2-clause-valid : goal.returns-in-Up-2-clause-valid
returns-in-Up-2-clause-valid c = spelled.valid row IsWhole 203 Up _ _ _ (λ i. omega (arith, c.type_inv.bytes i)) c.read_firmware_up.ensures.found
