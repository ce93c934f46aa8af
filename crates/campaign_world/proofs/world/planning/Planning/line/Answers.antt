use Rattle.std.proofs.Common.{◌≡◌, true, length, refl, sym, subst, arith}
use Rattle.std.proofs.lemmas.Bool.{le-leb}
use Rattle.device_core.specs.Configuration.{Configuration}
use Rattle.device_core.specs.Device.{is_config, max_rows}
use Rattle.campaign_world.specs.HeldLate.{HasSpan}
use Rattle.campaign_world.specs.Making.{after_form, with_joined}
use Rattle.campaign_world.specs.PhaseInside.{PlanTakes}
use Rattle.campaign_world.proofs.FormCauses as causes
use Rattle.campaign_world.proofs.world.planning.Planning.line.Goals as goal

pub overflow_cast-frag_size : goal.overflow_cast-frag_size
overflow_cast-frag_size c = let cuts = causes.cuts_well c.args.self.now.image.items (length c.args.self.now.devices.items) c.args.form.now c.in-Image.frag_size c.in-Image.parity c.in-Image.index c.in-Image.is c.requires.tested.ranges c.requires.tested.fits in omega (arith, cuts.1)

pub overflow_cast-parity : goal.overflow_cast-parity
overflow_cast-parity c = let cuts = causes.cuts_well c.args.self.now.image.items (length c.args.self.now.devices.items) c.args.form.now c.in-Image.frag_size c.in-Image.parity c.in-Image.index c.in-Image.is c.requires.tested.ranges c.requires.tested.fits in omega (arith, cuts.2)

pub cut-requires-clause-here : goal.cut-requires-clause-here
cut-requires-clause-here c = causes.image_at c.args.self.now.section c.args.form.now c.in-Image.frag_size c.in-Image.parity c.in-Image.index c.in-Image.is c.requires.in_order

pub cut-requires-clause-size : goal.cut-requires-clause-size
cut-requires-clause-size c = let cuts = causes.cuts_well c.args.self.now.image.items (length c.args.self.now.devices.items) c.args.form.now c.in-Image.frag_size c.in-Image.parity c.in-Image.index c.in-Image.is c.requires.tested.ranges c.requires.tested.fits in cuts.0

pub cut-requires-clause-few : goal.cut-requires-clause-few
cut-requires-clause-few c = let cuts = causes.cuts_well c.args.self.now.image.items (length c.args.self.now.devices.items) c.args.form.now c.in-Image.frag_size c.in-Image.parity c.in-Image.index c.in-Image.is c.requires.tested.ranges c.requires.tested.fits in cuts.2

pub overflow_cast-index : goal.overflow_cast-index
overflow_cast-index c = let cuts = causes.cuts_well c.args.self.now.image.items (length c.args.self.now.devices.items) c.args.form.now c.in-Image.frag_size c.in-Image.parity c.in-Image.index c.in-Image.is c.requires.tested.ranges c.requires.tested.fits in omega (arith, cuts.3)

pub cut-requires-clause-indexed : goal.cut-requires-clause-indexed
cut-requires-clause-indexed c = let cuts = causes.cuts_well c.args.self.now.image.items (length c.args.self.now.devices.items) c.args.form.now c.in-Image.frag_size c.in-Image.parity c.in-Image.index c.in-Image.is c.requires.tested.ranges c.requires.tested.fits in cuts.3

pub config_of-config-requires-clause-hw : goal.config_of-config-requires-clause-hw
config_of-config-requires-clause-hw c = let fit = causes.fitting (length c.args.self.now.image.items) (length c.args.self.now.devices.items) c.args.form.now c.in-Device.line c.in-Device.is c.requires.tested.ranges c.requires.tested.fits in fit.hw_fits

pub config_of-config-requires-clause-rows : goal.config_of-config-requires-clause-rows
config_of-config-requires-clause-rows c = let fit = causes.fitting (length c.args.self.now.image.items) (length c.args.self.now.devices.items) c.args.form.now c.in-Device.line c.in-Device.is c.requires.tested.ranges c.requires.tested.fits in fit.few

pub config_of-config-requires-clause-offset : goal.config_of-config-requires-clause-offset
config_of-config-requires-clause-offset c = let fit = causes.fitting (length c.args.self.now.image.items) (length c.args.self.now.devices.items) c.args.form.now c.in-Device.line c.in-Device.is c.requires.tested.ranges c.requires.tested.fits in fit.offset_fits

pub add_device-requires-clause-fine : goal.add_device-requires-clause-fine
add_device-requires-clause-fine c =
    let fit = causes.fitting (length c.args.self.now.image.items) (length c.args.self.now.devices.items) c.args.form.now c.in-Device.line c.in-Device.is c.requires.tested.ranges c.requires.tested.fits in
    subst (λ (k : Configuration). is_config k ≡ true) (sym c.config_of-config.ensures)
    (rw (le-leb c.in-Device.line.rows max_rows fit.few, causes.known_formats c.in-Device.line.v1) refl)

pub add_device-requires-clause-span : goal.add_device-requires-clause-span
add_device-requires-clause-span c = subst (λ (k : Configuration). HasSpan k) (sym c.config_of-config.ensures) (causes.spans c.in-Device.line.flash)

pub add_device-requires-clause-joins : goal.add_device-requires-clause-joins
add_device-requires-clause-joins c =
    let both = causes.joins_at c.args.self.now.image.items c.args.self.now.section c.args.self.now.plan c.args.self.now.devices.items c.args.form.now c.in-Device.line c.in-Device.is c.requires.in_order c.requires.planning.planned in
    let fit = causes.fitting (length c.args.self.now.image.items) (length c.args.self.now.devices.items) c.args.form.now c.in-Device.line c.in-Device.is c.requires.tested.ranges c.requires.tested.fits in
    record { sized = both.0; windowed = both.1; room = fit.next }

pub overflow_cast-min : goal.overflow_cast-min
overflow_cast-min c = let count = causes.counting c.args.form.now c.in-Group.id c.in-Group.addr c.in-Group.min c.in-Group.max c.in-Group.key c.in-Group.is c.requires.tested.ranges in omega (arith, count.first)

pub overflow_cast-max : goal.overflow_cast-max
overflow_cast-max c = let count = causes.counting c.args.form.now c.in-Group.id c.in-Group.addr c.in-Group.min c.in-Group.max c.in-Group.key c.in-Group.is c.requires.tested.ranges in omega (arith, count.last)

pub group-requires-clause-here : goal.group-requires-clause-here
group-requires-clause-here c = causes.group_at c.args.self.now.section c.args.form.now c.in-Group.id c.in-Group.addr c.in-Group.min c.in-Group.max c.in-Group.key c.in-Group.is c.requires.in_order

pub group-requires-clause-counts : goal.group-requires-clause-counts
group-requires-clause-counts c = let count = causes.counting c.args.form.now c.in-Group.id c.in-Group.addr c.in-Group.min c.in-Group.max c.in-Group.key c.in-Group.is c.requires.tested.ranges in count.some

pub overflow_cast-id : goal.overflow_cast-id
overflow_cast-id c = let count = causes.counting c.args.form.now c.in-Group.id c.in-Group.addr c.in-Group.min c.in-Group.max c.in-Group.key c.in-Group.is c.requires.tested.ranges in omega (arith, count.named)

pub group-requires-clause-id : goal.group-requires-clause-id
group-requires-clause-id c = let count = causes.counting c.args.form.now c.in-Group.id c.in-Group.addr c.in-Group.min c.in-Group.max c.in-Group.key c.in-Group.is c.requires.tested.ranges in count.named

pub window_of-requires : goal.window_of-requires
window_of-requires c = let opens = causes.opening_c c.args.form.now c.in-WindowC.start c.in-WindowC.timeout c.in-WindowC.freq c.in-WindowC.dr c.in-WindowC.is c.requires.tested.ranges in
    record { start = opens.start_fits; timeout = opens.timeout_fits; freq = opens.freq_fits; dr = opens.dr_fits }

pub window-requires-clause-here : goal.window-requires-clause-here
window-requires-clause-here c = causes.window_c_at c.args.self.now.section c.args.form.now c.in-WindowC.start c.in-WindowC.timeout c.in-WindowC.freq c.in-WindowC.dr c.in-WindowC.is c.requires.in_order

pub window-requires-clause-fits : goal.window-requires-clause-fits
window-requires-clause-fits c = let opens = causes.opening_c c.args.form.now c.in-WindowC.start c.in-WindowC.timeout c.in-WindowC.freq c.in-WindowC.dr c.in-WindowC.is c.requires.tested.ranges in rw (c.window_of.ensures) opens.test

pub overflow_cast-kind : goal.overflow_cast-kind
overflow_cast-kind c = let opens = causes.opening_b c.args.form.now c.in-WindowB.start c.in-WindowB.periodicity c.in-WindowB.timeout c.in-WindowB.freq c.in-WindowB.dr c.in-WindowB.is c.requires.tested.ranges in omega (arith, opens.1)

pub window_of-requires-in-WindowB : goal.window_of-requires-in-WindowB
window_of-requires-in-WindowB c = let opens = causes.opening_b c.args.form.now c.in-WindowB.start c.in-WindowB.periodicity c.in-WindowB.timeout c.in-WindowB.freq c.in-WindowB.dr c.in-WindowB.is c.requires.tested.ranges in
    record { start = opens.0.start_fits; timeout = opens.0.timeout_fits; freq = opens.0.freq_fits; dr = opens.0.dr_fits }

pub window-requires-in-WindowB-clause-here : goal.window-requires-in-WindowB-clause-here
window-requires-in-WindowB-clause-here c = causes.window_b_at c.args.self.now.section c.args.form.now c.in-WindowB.start c.in-WindowB.periodicity c.in-WindowB.timeout c.in-WindowB.freq c.in-WindowB.dr c.in-WindowB.is c.requires.in_order

pub window-requires-in-WindowB-clause-fits : goal.window-requires-in-WindowB-clause-fits
window-requires-in-WindowB-clause-fits c = let opens = causes.opening_b c.args.form.now c.in-WindowB.start c.in-WindowB.periodicity c.in-WindowB.timeout c.in-WindowB.freq c.in-WindowB.dr c.in-WindowB.is c.requires.tested.ranges in rw (c.window_of-in-WindowB.ensures, le-leb c.in-WindowB.periodicity 7 opens.1) opens.0.test

pub returns-in-Image-clause-taken : goal.returns-in-Image-clause-taken
unfolding after_form
returns-in-Image-clause-taken c = rw (c.in-Image.is) (c.cut.ensures.taken c.args.lines)

pub returns-in-Group-clause-taken : goal.returns-in-Group-clause-taken
unfolding after_form
returns-in-Group-clause-taken c = rw (c.in-Group.is) (c.group.ensures.taken c.args.lines)

pub returns-in-WindowC-clause-taken : goal.returns-in-WindowC-clause-taken
unfolding after_form
returns-in-WindowC-clause-taken c = rw (c.in-WindowC.is, ← c.window_of.ensures) (c.window.ensures.taken c.args.lines)

pub returns-in-WindowB-clause-taken : goal.returns-in-WindowB-clause-taken
unfolding after_form
returns-in-WindowB-clause-taken c = rw (c.in-WindowB.is, ← c.window_of-in-WindowB.ensures) (c.window-in-WindowB.ensures.taken c.args.lines)

pub returns-in-Device-clause-taken : goal.returns-in-Device-clause-taken
unfolding after_form
returns-in-Device-clause-taken c = rw (c.in-Device.is)
    (subst (λ (k : Configuration). PlanTakes c.args.lines c.args.self.now c.add_device.new.self c.add_device.result (λ world. with_joined world c.in-Device.line.id k))
    c.config_of-config.ensures (c.add_device.ensures.taken c.args.lines))
