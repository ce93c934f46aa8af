use Rattle.std.proofs.Common.{◌≡◌, ap, ◌∙◌}
use Rattle.image_slots.specs.declared.view.ImageState.TheVariants.{Valid}
use Rattle.image_slots.specs.HeldSlots.{HeldSlots}
use Rattle.image_slots.proofs.Sound.{raised_slots, valid_again}
use Rattle.image_slots.proofs.slots.Slots.raise.Goals as goal

pub invariant_of-self : goal.invariant_of-self
invariant_of-self c =
    let s = c.self.inside in (
      c.self.invariant.0,
      c.self.invariant.1,
      rw (c.read_again-self-inside.ensures, c.deref.ensures.value)
          (raised_slots (λ version. Unit {0}) s.hw s.formats s.version s.running.items s.next s.next_file.items c.self.invariant.2),
      record { running = c.self.invariant.3.running; next_file = c.self.invariant.3.next_file },
    )

pub returns-clause-valid : goal.returns-clause-valid
returns-clause-valid c = λ version was.
    let s = c.self.inside in
    let held : s.next ≡ Valid version = ap (λ (x : HeldSlots). x.slots.next) c.self.view_is ∙ was in
    rw (c.read_again-self-inside.ensures, c.deref.ensures.value)
    (valid_again (λ version. Unit {0}) s.hw s.formats s.version version s.running.items s.next s.next_file.items c.self.invariant.2 held)
