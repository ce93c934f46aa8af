use Rattle.std.proofs.Common.{sym, subst}
use Rattle.campaign_world.specs.HeldWorld.{HeldWorld, IsFine}
use Rattle.campaign_world.specs.PhaseInside.{held_of, section_of}
use Rattle.campaign_world.proofs.FormCauses.{fine_of}
use Rattle.campaign_world.proofs.Steps.{one_more_stands}
use Rattle.campaign_world.proofs.world.World.take.Goals as goal

pub take-requires-clause-in_order : goal.take-requires-clause-in_order
take-requires-clause-in_order c =
    (fine_of c.self.inside.lines (section_of c.self.inside.phase) c.self.inside.kept (held_of c.self.inside.phase) c.args.form.now
    (subst (λ (h : HeldWorld). IsFine h c.args.form.now) (sym c.self.view_is) c.requires.fine)).0

pub take-requires-clause-tested : goal.take-requires-clause-tested
take-requires-clause-tested c =
    (fine_of c.self.inside.lines (section_of c.self.inside.phase) c.self.inside.kept (held_of c.self.inside.phase) c.args.form.now
    (subst (λ (h : HeldWorld). IsFine h c.args.form.now) (sym c.self.view_is) c.requires.fine)).1

pub returns-in-Ok-clause-taken : goal.returns-in-Ok-clause-taken
returns-in-Ok-clause-taken c = rw (← c.self.view_is) (λ world stands. one_more_stands _ _ (c.in-Ok.ensures.taken c.self.inside.kept world stands))
