use Rattle.std.specs.Prelude.{vec_capacity}
use Rattle.std.proofs.Common.{◌≡◌, List, ℕ, length, ap, ◌∙◌, subst}
use Rattle.row_elimination.specs.declared.stages.Stage.TheVariants as stage
use Rattle.row_elimination.specs.declared.solver.Kept.{Kept}
use Rattle.row_elimination.specs.HeldSolver.{Held}
use Rattle.row_elimination.specs.SolverInside.{IsSolver}
use Rattle.row_elimination.specs.Work.{CountsWork}
use Rattle.row_elimination.proofs.Gridding.{written}
use Rattle.row_elimination.proofs.Solving.{kept_still, held_still, still_solver, left_to_gain, fed_is, feeds}
use Rattle.row_elimination.proofs.solver.Solver.feed_counted.Goals as goal

pub invariant_of-self : goal.invariant_of-self
invariant_of-self g c =
    let k : Kept g.row.W g.row.B = c.deref_mut-kept.result.now in
    let inv = kept_still k c.self.inside.kept.value c.deref_mut-kept.ensures.value c.self.invariant in
    let view = held_still k c.self.inside.kept.value c.args.self.now c.deref_mut-kept.ensures.value c.self.view_is in
    let line : List ℕ = k.line.items in
    let picks : List ℕ = k.picks.items in
    let part : List ℕ = k.part.items in
    let at : k.stage ≡ stage.Receiving = ap (λ (h : Held). h.stage) view ∙ c.requires.receiving in
    let was : IsSolver k.table stage.Receiving (vec_capacity k.line) (vec_capacity k.picks) line picks part =
    subst (λ s. IsSolver k.table s (vec_capacity k.line) (vec_capacity k.picks) line picks part) at inv in
    rw (
      c.stage_after-kept.ensures,
      written k.line.len c.take-fed.new.line line (c.take-fed.auto.line ∙ c.deref_mut.ensures.len),
      written k.picks.len c.take-fed.new.picks picks (c.take-fed.auto.picks ∙ c.deref_mut-2.ensures.len),
      written k.part.len c.take-fed.new.rest part (c.take-fed.auto.rest ∙ c.deref_mut-3.ensures.len),
    )
    (still_solver k.table c.take-fed.new.table c.take-fed.result (vec_capacity k.line) (vec_capacity k.picks) line c.take-fed.new.line picks c.take-fed.new.picks part c.take-fed.new.rest was c.take-fed.ensures.fed.room
    (c.take-fed.auto.line ∙ ap length c.deref_mut.ensures.value) (c.take-fed.auto.picks ∙ ap length c.deref_mut-2.ensures.value) (c.take-fed.auto.rest ∙ ap length c.deref_mut-3.ensures.value)
    (left_to_gain c.take-fed.result k.table c.take-fed.new.table c.args.n c.args.part.now c.take-fed.ensures.fed.fed c.take-fed.ensures.fed.held))

pub returns-clause-fed : goal.returns-clause-fed
returns-clause-fed g c =
    let k : Kept g.row.W g.row.B = c.deref_mut-kept.result.now in
    let view = held_still k c.self.inside.kept.value c.args.self.now c.deref_mut-kept.ensures.value c.self.view_is in
    feeds c.take-fed.result c.args.self.now _ c.args.n c.args.part.now (c.take-fed.ensures.fed.room.room ∙ ap (λ (h : Held). h.extent) view)
    (fed_is c.take-fed.result k.table c.take-fed.new.table k.stage c.stage_after-kept.result c.args.self.now c.args.n c.args.part.now view c.requires.receiving
    c.stage_after-kept.ensures c.take-fed.ensures.fed.fed)

pub returns-clause-counted : goal.returns-clause-counted
returns-clause-counted g c =
    let k : Kept g.row.W g.row.B = c.deref_mut-kept.result.now in
    let view = held_still k c.self.inside.kept.value c.args.self.now c.deref_mut-kept.ensures.value c.self.view_is in
    subst (λ (h : Held). CountsWork h.shape c.args.n c.args.draws.now c.take-fed.new.draws c.args.sums.now c.take-fed.new.sums) view c.take-fed.ensures.counted
