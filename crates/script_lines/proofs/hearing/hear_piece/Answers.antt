use Rattle.std.proofs.Common.{List, ℕ, take, drop, ◌++◌, ◌≡◌, sym, ap, ◌∙◌, append_assoc}
use Rattle.std.proofs.lemmas.List.{take-append-drop}
use Rattle.script_lines.proofs.Heard.{hears_on, passes}
use Rattle.script_lines.proofs.hearing.hear_piece.Goals as goal

pub loop-rest-preserved : goal.loop-rest-preserved
loop-rest-preserved g c =
    let so_far = c.loop-rest.invariant in
    let more = take c.hear_next-used.result c.loop-rest.rest.now in
    let whole : more ++ drop c.hear_next-used.result c.loop-rest.rest.now ≡ c.loop-rest.rest.now = take-append-drop c.hear_next-used.result c.loop-rest.rest.now in (
      so_far.0 ++ more,
      rw c.split_at.ensures.back (so_far.1 ∙ ap (λ (xs : List ℕ). so_far.0 ++ xs) (sym whole) ∙ sym (append_assoc so_far.0 more (drop c.hear_next-used.result c.loop-rest.rest.now))),
      hears_on g.W.HearsLine.hears _ _ _ _ _ _ so_far.0 more so_far.2 c.hear_next-used.ensures.heard,
    )

pub returns-then-is_over : goal.returns-then-is_over
returns-then-is_over g c =
    let so_far = c.loop-rest.invariant in
    rw (so_far.1) (hears_on g.W.HearsLine.hears _ _ _ _ _ _ so_far.0 c.loop-rest.rest.now so_far.2
    (passes g.W.HearsLine.hears c.loop-rest.lines c.pass.new.self c.loop-rest.hearer c.loop-rest.rest.now c.pass.ensures (c.is_over.ensures c.if-is_over.true)))
