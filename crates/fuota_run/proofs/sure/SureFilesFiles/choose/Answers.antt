use Rattle.std.proofs.Common.{◌≡◌, map, string_bytes, refl}
use Rattle.fuota_run.proofs.Named.{place-there}
use Rattle.fuota_run.proofs.sure.SureFilesFiles.choose.Goals as goal

pub returns-clause-chosen : goal.returns-clause-chosen
returns-clause-chosen c =
    let files : map (λ f. (string_bytes f.0, f.1.items)) c.deref.result.now ≡ c.args.self.now.files =
    rw (c.deref.ensures.value, ← c.self.view_is) refl in
    place-there _ _ c.args.name.now c.place_of-self-inside.result files c.requires c.place_of-self-inside.ensures.none
