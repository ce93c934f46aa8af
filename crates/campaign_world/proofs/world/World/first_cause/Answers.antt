use Rattle.campaign_world.proofs.CausesByForm as causes
use Rattle.campaign_world.proofs.world.World.first_cause.Goals as goal

pub returns-in-Planning : goal.returns-in-Planning
returns-in-Planning c = rw (← c.self.view_is) (λ devices count.
    causes.of_planned c.self.inside.lines c.self.inside.kept _ _ devices c.args.form.now _ c.in-Planning.is c.self.invariant.phase_is count c.first_cause.ensures)

pub returns-then-has_ended : goal.returns-then-has_ended
returns-then-has_ended c = rw (← c.self.view_is) (λ devices count.
    causes.of_ended c.self.inside.lines c.self.inside.kept _ _ _ devices c.args.form.now c.in-Playing.is c.if-has_ended.true)

pub returns-else-has_ended : goal.returns-else-has_ended
returns-else-has_ended c = rw (← c.self.view_is) (λ devices count.
    causes.of_played c.self.inside.lines c.self.inside.kept _ _ _ devices c.args.form.now _ c.in-Playing.is c.if-has_ended.false count c.first_cause-else-has_ended.ensures)
