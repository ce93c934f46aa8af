use Rattle.std.proofs.Common.{◌≡◌, refl, ap, rules, arith}
use Rattle.session_store.specs.HeldPlaces.{TableOldOrNew}
use Rattle.session_store.specs.HeldStore.{kept, held_in}
use Rattle.session_store.specs.SessionTable.{table_after_fragment}
use Rattle.session_store.specs.declared.state.State.TheVariants.{Flash, Down}
use Rattle.session_store.proofs.StoreSteps.{still_laid, answered, failed}
use Rattle.session_store.proofs.store.SessionStore.fragment.Goals as goal

pub returns-in-Ok-clause-serves : goal.returns-in-Ok-clause-serves
returns-in-Ok-clause-serves g c = rw (← c.self.view_is)
    (let there : kept c.self.inside.state ≡ Flash c.in-Some-Flash.slots = first_of (search rules, cc, grind arith) in
    answered g.F.Flash.seen (λ l b. table_after_fragment c.args.index c.args.via c.args.n c.args.part.now c.args.mark) TableOldOrNew _ _ c.in-Some-Flash.slots c.fragment-in-Some-Flash.new.self
    there c.self.invariant.1 (still_laid c.self.inside.layout (Flash c.fragment-in-Some-Flash.new.self) c.in-Some-Flash.slots c.fragment-in-Some-Flash.new.self there refl refl c.in-Ok.ensures.serves.layout)
    (ap held_in there) refl refl c.in-Ok.ensures.serves)

pub returns-in-Err-clause-serves : goal.returns-in-Err-clause-serves
returns-in-Err-clause-serves g c = rw (← c.self.view_is)
    (let there : kept c.self.inside.state ≡ Flash c.in-Some-Flash.slots = first_of (search rules, cc, grind arith) in
    let down = c.go_down.ensures c.fragment-in-Some-Flash.new.self refl in
    failed g.F.Flash.seen (λ l b. table_after_fragment c.args.index c.args.via c.args.n c.args.part.now c.args.mark) TableOldOrNew _ _ c.in-Some-Flash.slots c.fragment-in-Some-Flash.new.self
    there c.self.invariant.1 (still_laid c.self.inside.layout (Down down.0 _) c.in-Some-Flash.slots c.fragment-in-Some-Flash.new.self there (ap kept down.1) down.3 c.in-Err.ensures.serves.layout)
    (ap held_in there) (ap held_in (ap kept down.1)) (down.0, _, ap kept down.1, c.flags-flags.ensures) c.in-Err.ensures.serves)
