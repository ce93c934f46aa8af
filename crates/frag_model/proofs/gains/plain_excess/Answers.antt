use Rattle.std.proofs.Common.{ℕ, ◌-◌, map, ap, ap₂, ◌∙◌}
use Rattle.std.proofs.lemmas.List.{take_all}
use Rattle.frag_model.specs.Fragments.{line_of}
use Rattle.frag_model.proofs.Sums.{gain_of_numbers}
use Rattle.frag_model.proofs.gains.plain_excess.Goals as goal

pub returns : goal.returns
returns c =
    let all = c.loop-n.invariant ∙ ap (λ ns. map (λ (n : ℕ). line_of c.args.nb_frag n) ns) (take_all c.loop-n.n-index c.args.numbers.now c.loop-n-test.false) in
    c.saturating_sub.ensures
    ∙ ap₂ ◌-◌
    (c.plain_gain.ensures.value ∙ gain_of_numbers c.args.nb_frag c.args.numbers.now _ (c.deref.ensures.value ∙ all))
    c.plain_direct.ensures.value
