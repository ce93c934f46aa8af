use Rattle.std.proofs.Common.{◌≡◌, None, Some, get_or, ◌∙◌, arith, rules, lit<}
use Rattle.std.proofs.lemmas.Grind.{common_steps}
use Rattle.session_store.proofs.PlaceSteps.{extent_held}
use Rattle.session_store.proofs.held_slots.HeldSlots.close.Goals as goal

pub returns-clause-idle : goal.returns-clause-idle
returns-clause-idle g c =
    let xs = c.self.inside.sessions in
    let one : get_or xs 0 None ≡ Some c.unwrap.result = first_of (search rules, cc, grind (arith, common_steps)) in
    let two : get_or xs 1 None ≡ Some c.unwrap-2.result = first_of (search rules, cc, grind (arith, common_steps)) in
    let three : get_or xs 2 None ≡ Some c.unwrap-3.result = first_of (search rules, cc, grind (arith, common_steps)) in
    let last : get_or xs 3 None ≡ Some c.unwrap-4.result = first_of (search rules, cc, grind (arith, common_steps)) in
    rw (← c.self.view_is) (record {
      first = c.close.ensures ∙ extent_held _ 0 _ (lit< tt) one c.self.invariant;
      second = c.close-2.ensures ∙ extent_held _ 1 _ (lit< tt) two c.self.invariant;
      third = c.close-3.ensures ∙ extent_held _ 2 _ (lit< tt) three c.self.invariant;
      fourth = c.close-4.ensures ∙ extent_held _ 3 _ (lit< tt) last c.self.invariant;
    })
