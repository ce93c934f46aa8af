use Rattle.std.proofs.Common.{◌≡◌, ℕ, ◌+◌, ◌≤◌, List, length, refl, sym, ap, ◌∙◌, arith}
use Rattle.package_grammar.specs.HeldMessage.{HeldMessage}
use Rattle.device_core.specs.declared.uplink.Uplink.{Uplink}
use Rattle.device_core.specs.HeldDevice.{HeldDevice}
use Rattle.device_core.specs.Step.{weights}
use Rattle.device_core.proofs.Messages.{acts_hears, stops_hears, full_hears}
use Rattle.device_core.proofs.device.Device.take.Goals as goal

-- the sum that the outbox is asked for
sum_is : (held weight : ℕ) (outbox : List Uplink) (message again : HeldMessage) → held ≡ length outbox → weight ≡ weights again.commands → again ≡ message
    → held + weight ≡ length outbox + weights message.commands
sum_is held weight outbox message again held_is weight_is same = rw (held_is, weight_is, same) refl

has_room : (held weight : ℕ) (outbox : List Uplink) (message again : HeldMessage) → held ≡ length outbox → weight ≡ weights again.commands → again ≡ message
    → held + weight ≤ 8 → length outbox + weights message.commands ≤ 8
has_room held weight outbox message again held_is weight_is same few =
    omega (arith, sum_is held weight outbox message again held_is weight_is same, few)

-- a fragment asks for none
few_at : (inside outbox : List Uplink) → inside ≡ outbox → length inside ≤ 8 → length outbox + 0 ≤ 8
few_at inside outbox is few = rw (sym is) (omega (arith, few))

-- ---- one fragment

pub returns-in-Ok : goal.returns-in-Ok
returns-in-Ok g c = rw c.in-Some.ensures.leaves
    (acts_hears g.F.Flash.seen c.args.self.now c.take_fragment.new.self c.args.here _
    (few_at _ _ (ap (λ (h : HeldDevice _). h.outbox) c.self.view_is) c.len-held.ensures.few) c.in-Ok.ensures)

pub returns-in-Err : goal.returns-in-Err
returns-in-Err g c = rw c.in-Some.ensures.leaves
    (stops_hears g.F.Flash.seen c.args.self.now c.take_fragment.new.self c.args.here _
    (few_at _ _ (ap (λ (h : HeldDevice _). h.outbox) c.self.view_is) c.len-held.ensures.few) c.in-Err.ensures)

-- ---- too many answers

pub returns-then-n-gt-OUTBOX : goal.returns-then-n-gt-OUTBOX
returns-then-n-gt-OUTBOX g c =
    full_hears g.F.Flash.seen c.args.self.now c.count_full.new.self c.args.here c.args.message.commands (c.len-held.result + c.weights.result)
    (sum_is _ _ _ _ _ (c.len-held.ensures.number ∙ ap (λ (h : HeldDevice _). length h.outbox) c.self.view_is) c.weights.ensures.weight c.again.ensures) c.if-n-gt-OUTBOX.true c.count_full.ensures c.requires.up

-- ---- commands

pub returns-in-Ok-act_on : goal.returns-in-Ok-act_on
returns-in-Ok-act_on g c =
    acts_hears g.F.Flash.seen c.args.self.now c.act_on.new.self c.args.here c.args.message.commands
    (has_room _ _ _ _ _ (c.len-held.ensures.number ∙ ap (λ (h : HeldDevice _). length h.outbox) c.self.view_is) c.weights.ensures.weight c.again.ensures c.if-n-gt-OUTBOX.false) c.in-Ok-act_on.ensures

pub returns-in-Err-act_on : goal.returns-in-Err-act_on
returns-in-Err-act_on g c =
    stops_hears g.F.Flash.seen c.args.self.now c.act_on.new.self c.args.here c.args.message.commands
    (has_room _ _ _ _ _ (c.len-held.ensures.number ∙ ap (λ (h : HeldDevice _). length h.outbox) c.self.view_is) c.weights.ensures.weight c.again.ensures c.if-n-gt-OUTBOX.false) c.in-Err-act_on.ensures
