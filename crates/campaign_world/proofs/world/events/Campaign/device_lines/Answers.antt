use Rattle.std.proofs.Common.{◌≡◌, ◌≤◌, ◌<◌, ◌-◌, ℕ, List, length, IfOk, subst, ◌∙◌, arith}
use Rattle.std.specs.Prelude.{string_bytes}
use Rattle.campaign_world.specs.HeldLate.{DeviceRests}
use Rattle.campaign_world.proofs.Zips.{zip_get, zip_long}
use Rattle.campaign_world.proofs.Steps.{numbered_at}
use Rattle.campaign_world.proofs.Beside.{numbered_past, no_lines, its_lines}
use Rattle.campaign_world.proofs.world.events.Campaign.device_lines.Goals as goal

pub returns-then-number-len : goal.returns-then-number-len
returns-then-number-len c = rw (← c.self.view_is) (λ ds all.
    let long = zip_long DeviceRests c.self.inside.devices.items ds all in
    let many = c.if-number-len.true in let count = c.len.ensures in let held = c.self.inside.devices.ok.0 in
    c.new-then-number-len.ensures.bytes
    ∙ no_lines c.args.name.now c.args.number c.self.inside.server ds (numbered_past ds c.args.number (omega (arith, long, many, count, held))))

pub returns : goal.returns
returns c = rw (← c.self.view_is) (λ ds all.
    let few = c.if-number-len.false in let some = c.if-number-eq0.false in let count = c.len.ensures in let held = c.self.inside.devices.ok.0 in
    let first : 1 ≤ c.args.number = omega (arith, some) in
    let low : c.args.number - 1 < length c.self.inside.devices.items = omega (arith, few, first, count, held) in
    let one = zip_get DeviceRests c.self.inside.devices.items ds (c.args.number - 1) c.index-device.result.now all low c.index-device.ensures in
    subst (λ (l : List ℕ). IfOk c.device_part.result (λ text. string_bytes text ≡ l))
    (its_lines c.image.result.now c.args.name.now c.args.number c.self.inside.server ds c.ledger-stage.result one.0 c.image.ensures c.ledger-stage.ensures
    (numbered_at ds c.args.number one.0 first one.1))
    (c.device_part.ensures one.0 one.2))
