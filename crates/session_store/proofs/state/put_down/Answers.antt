use Rattle.std.proofs.Common.{◌≡◌, subst, rules, arith}
use Rattle.session_store.specs.HeldPlaces.{TableLies}
use Rattle.session_store.specs.HeldStore.{kept}
use Rattle.session_store.specs.Size.{SizedLayout}
use Rattle.session_store.specs.declared.state.State.TheVariants.{Flash}
use Rattle.session_store.proofs.state.put_down.Goals as goal

pub returns-in-Some-Flash-clause-lies : goal.returns-in-Some-Flash-clause-lies
returns-in-Some-Flash-clause-lies g c =
    let there : kept c.args.place ≡ Flash c.in-Some-Flash.slots = first_of (search rules, cc, grind arith) in
    let fits = rw (there) at c.requires.fits in
    rw (there) (λ table held b now. subst (λ (l : SizedLayout). TableLies l table b) fits.0 (c.lie.ensures.read table held b now))
