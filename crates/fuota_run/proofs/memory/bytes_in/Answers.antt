use Rattle.std.proofs.Common.{string_bytes, refl}
use Rattle.fuota_run.proofs.Named.{bytes_at-map}
use Rattle.fuota_run.proofs.memory.bytes_in.Goals as goal

pub returns-in-Some : goal.returns-in-Some
returns-in-Some c =
    rw (c.in-Some.is, c.as_slice.ensures.value, bytes_at-map (λ f. string_bytes f.0) (λ f. f.1.items) c.args.files.now c.in-Some.i c.index-files-i.result c.if-i-files.true) refl
