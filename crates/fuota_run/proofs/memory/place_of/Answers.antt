use Rattle.std.proofs.Common.{◌≡◌, true, get_or, string_bytes, ◌∙◌, sym, ap, Some}
use Rattle.std.specs.Str.{bytes_eq}
use Rattle.fuota_run.proofs.Named.{bytes_at-map, held_by-front}
use Rattle.fuota_run.proofs.memory.place_of.Goals as goal

pub returns-then-eq-clause-found : goal.returns-then-eq-clause-found
returns-then-eq-clause-found c =
    let d = c.index-files-i.result in
    let test : bytes_eq (string_bytes (get_or c.args.files.now c.loop-i.i d).0) c.args.name.now ≡ true = cc in
    c.loop-i.invariant
    ∙ held_by-front (λ f. string_bytes f.0) (λ f. f.1.items) c.args.files.now c.loop-i.i d c.args.name.now c.loop-i-test.true test
    ∙ ap Some (sym (bytes_at-map (λ f. string_bytes f.0) (λ f. f.1.items) c.args.files.now c.loop-i.i d c.loop-i-test.true))
