use Rattle.std.proofs.Common.{◌^◌, None, Some, refl, arith}
use Rattle.std.proofs.lemmas.Bool.{leb-true, ltb-true}
use Rattle.device_core.specs.Events.{Migrates}
use Rattle.script_lines.specs.Ranges.{in_range}
use Rattle.campaign_world.specs.Making.{after_form}
use Rattle.campaign_world.proofs.FormCauses.{named_few, striking, time_within}
use Rattle.campaign_world.proofs.Steps.{power_step}
use Rattle.campaign_world.proofs.world.events.Campaign.event.Goals as goal

pub invariant_of-self : goal.invariant_of-self
invariant_of-self c = record {
  image_is = c.self.invariant.image_is;
  timed = time_within _ _ c.requires.tested.ranges c.in-At.is;
  few = c.self.invariant.few;
  numbers = c.self.invariant.numbers;
  made = c.self.invariant.made;
}

pub overflow_cast-device : goal.overflow_cast-device
overflow_cast-device c =
    omega (arith, named_few _ _ c.in-Wake.device c.self.view_is c.self.invariant.few (rw c.in-Wake.is at c.requires.tested.names))

pub overflow_cast-device-in-Migrate : goal.overflow_cast-device-in-Migrate
overflow_cast-device-in-Migrate c =
    omega (arith, named_few _ _ c.in-Migrate.device c.self.view_is c.self.invariant.few (rw c.in-Migrate.is at c.requires.tested.names))

pub overflow_cast-device-in-Power : goal.overflow_cast-device-in-Power
overflow_cast-device-in-Power c =
    omega (arith, named_few _ _ c.in-Power.device c.self.view_is c.self.invariant.few (rw c.in-Power.is at c.requires.tested.names))

pub overflow_cast-device-in-Ask : goal.overflow_cast-device-in-Ask
overflow_cast-device-in-Ask c =
    omega (arith, named_few _ _ c.in-Ask.device c.self.view_is c.self.invariant.few (rw c.in-Ask.is at c.requires.tested.names))

pub overflow_cast-device-in-Down : goal.overflow_cast-device-in-Down
overflow_cast-device-in-Down c =
    omega (arith, named_few _ _ c.in-Down.device c.self.view_is c.self.invariant.few (rw c.in-Down.is at c.requires.tested.names))

pub overflow_cast-device-in-Raw : goal.overflow_cast-device-in-Raw
overflow_cast-device-in-Raw c =
    omega (arith, named_few _ _ c.in-Raw.device c.self.view_is c.self.invariant.few (rw c.in-Raw.is at c.requires.tested.names))

pub overflow_cast-device-in-Air : goal.overflow_cast-device-in-Air
overflow_cast-device-in-Air c =
    omega (arith, named_few _ _ c.in-Air.device c.self.view_is c.self.invariant.few (rw c.in-Air.is at c.requires.tested.names))

pub overflow_cast-device-in-RawAir : goal.overflow_cast-device-in-RawAir
overflow_cast-device-in-RawAir c =
    omega (arith, named_few _ _ c.in-RawAir.device c.self.view_is c.self.invariant.few (rw c.in-RawAir.is at c.requires.tested.names))

pub overflow_cast-word : goal.overflow_cast-word
unfolding in_range
overflow_cast-word c = omega (arith, ltb-true c.in-Down.word (2 ^ 32) (rw c.in-Down.is at c.requires.tested.ranges))

pub overflow_cast-word-in-Air : goal.overflow_cast-word-in-Air
unfolding in_range
overflow_cast-word-in-Air c = omega (arith, ltb-true c.in-Air.word (2 ^ 32) (rw c.in-Air.is at c.requires.tested.ranges))

pub overflow_cast-word-in-RawAir : goal.overflow_cast-word-in-RawAir
unfolding in_range
overflow_cast-word-in-RawAir c = omega (arith, ltb-true c.in-RawAir.word (2 ^ 32) (rw c.in-RawAir.is at c.requires.tested.ranges))

pub overflow_cast-port : goal.overflow_cast-port
overflow_cast-port c = let fits = striking _ _ _ _ _ c.requires.tested.ranges c.in-Raw.is in omega (arith, fits.port_fits)

pub overflow_cast-word-in-Raw : goal.overflow_cast-word-in-Raw
overflow_cast-word-in-Raw c = let fits = striking _ _ _ _ _ c.requires.tested.ranges c.in-Raw.is in omega (arith, fits.word_fits)

pub raw_form-requires-clause-short : goal.raw_form-requires-clause-short
raw_form-requires-clause-short c = leb-true _ 242 (rw c.in-Raw.is at c.requires.tested.short)

pub returns-in-Migrate-clause-taken : goal.returns-in-Migrate-clause-taken
unfolding after_form
returns-in-Migrate-clause-taken c =
    rw (c.in-Migrate.is) (c.happen_rarely.ensures.taken c.args.lines (λ w. Some Migrates) (λ here kept devices. refl))

pub returns-in-Power-clause-taken : goal.returns-in-Power-clause-taken
unfolding after_form
returns-in-Power-clause-taken c =
    rw (c.in-Power.is) (power_step c.args.lines _ _ _ _ (c.happen_rarely-in-Power.ensures.taken c.args.lines (λ w. None) (λ here kept devices. refl)))

pub returns-in-Wake-clause-taken : goal.returns-in-Wake-clause-taken
unfolding after_form
returns-in-Wake-clause-taken c = rw (c.in-Wake.is) (c.wake.ensures.taken c.args.lines)

pub returns-in-Ask-clause-taken : goal.returns-in-Ask-clause-taken
unfolding after_form
returns-in-Ask-clause-taken c = rw (c.in-Ask.is) (c.ask.ensures.taken c.args.lines)

pub returns-in-Frag-clause-taken : goal.returns-in-Frag-clause-taken
unfolding after_form
returns-in-Frag-clause-taken c = rw (c.in-Frag.is) (c.frag.ensures.taken c.args.lines)

pub returns-in-Status-clause-taken : goal.returns-in-Status-clause-taken
unfolding after_form
returns-in-Status-clause-taken c = rw (c.in-Status.is) (c.status.ensures.taken c.args.lines)

pub returns-in-Down-clause-taken : goal.returns-in-Down-clause-taken
unfolding after_form
returns-in-Down-clause-taken c = rw (c.in-Down.is) c.down.ensures.taken

pub returns-in-Raw-clause-taken : goal.returns-in-Raw-clause-taken
unfolding after_form
returns-in-Raw-clause-taken c = rw (c.in-Raw.is) c.raw_form.ensures.taken

pub returns-in-Air-clause-taken : goal.returns-in-Air-clause-taken
unfolding after_form
returns-in-Air-clause-taken c = rw (c.in-Air.is) c.air.ensures.taken

pub returns-in-RawAir-clause-taken : goal.returns-in-RawAir-clause-taken
unfolding after_form
returns-in-RawAir-clause-taken c = rw (c.in-RawAir.is) c.raw_air.ensures.taken

pub returns-in-Up-clause-taken : goal.returns-in-Up-clause-taken
unfolding after_form
returns-in-Up-clause-taken c = rw (c.in-Up.is) (c.up.ensures.taken c.args.lines)
