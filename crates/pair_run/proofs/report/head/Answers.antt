use Rattle.std.proofs.Common.{List, ℕ, ◌++◌, ap, ap₂, ◌∙◌}
use Rattle.std.specs.Prelude.{codes}
use Rattle.std.specs.Global.{Global}
use Rattle.std.specs.declared.vec.Vec.{Vec}
use Rattle.pair_run.proofs.report.head.Goals as goal

pub returns : goal.returns
returns c =
    ap (λ (v : Vec ℕ Global). v.items) c.into_bytes.ensures.value
    ∙ (c.in_ok-first_lines.ensures
    ∙ ap₂ (λ (x y : List ℕ). codes "fuota report 2\n" ++ (x ++ y)) (c.as_str.ensures.value ∙ c.in_ok-image_a.ensures) (c.as_str-2.ensures.value ∙ c.in_ok-image_b.ensures))
