use Rattle.std.proofs.Common.{sym, ◌∙◌}
use Rattle.campaign_world.proofs.Powering.{memory_rests, first_rests}
use Rattle.campaign_world.proofs.late.start.Goals as goal

pub returns-then-is_held : goal.returns-then-is_held
returns-then-is_held c = λ config n starts blank.
    first_rests config n c.args.device.now c.power-powered.new.self c.power-powered.result starts blank (sym c.is_held.ensures.held ∙ c.if-is_held.true)
    c.power-powered.ensures.opened c.power-powered.ensures.opens.held c.power-powered.ensures.opens.fault

pub returns-else-is_held : goal.returns-else-is_held
returns-else-is_held c = λ config n starts blank.
    memory_rests config c.args.device.now.sessions.flash c.args.device.now starts (sym c.is_held.ensures.held ∙ c.if-is_held.false)
    (c.is_held.ensures.in_memory c.if-is_held.false)
