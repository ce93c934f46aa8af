use Rattle.std.proofs.Common.{◌+◌, ◌∙◌, ap, drop, List, ℕ, subst, take}
use Rattle.std.proofs.lemmas.List.{drop-drop}
use Rattle.std.specs.Io.KnownBytes.{Appends}
use Rattle.fuota_run.proofs.Writing.{appends_on}
use Rattle.fuota_run.proofs.output.write_text.Goals as goal

pub loop-rest-preserved : goal.loop-rest-preserved
loop-rest-preserved g c =
    let n = c.loop-rest.invariant.0 in
    let k = c.in-Ok.taken in
    let text = c.args.text.now in
    let rest = c.loop-rest.invariant.1 in
    let behind = subst (λ (r : List ℕ). Appends (g.O.Sink.written c.loop-rest.out) (g.O.Sink.written c.write.new.self) (take k r)) rest c.in-Ok.ensures.bytes in
    (n + k, c.split_at.ensures.back ∙ ap (λ (r : List ℕ). drop k r) rest ∙ drop-drop k n text, appends_on _ _ _ n k text c.loop-rest.invariant.2 behind, c.in-Ok.ensures.cause.2 ∙ c.loop-rest.invariant.3)
