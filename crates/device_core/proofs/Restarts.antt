-- A device that is saved and restored has the same record.
use Rattle.std.proofs.Common.{◌≡◌, ℕ, ◌^◌, ◌<◌, ◌≤◌, Bool, true, false, ◌&&◌, List, Option, None, inl, refl, sym, ap, ◌∙◌, arith}
use Rattle.std.proofs.lemmas.Bool.{leb-true}
use Rattle.std.proofs.lemmas.List.{length-replicate, get_or-replicate}
use Rattle.session_store.specs.declared.state.CompleteFlags.{CompleteFlags}
use Rattle.session_store.specs.CompleteFlags.{flags_of}
use Rattle.mc_group.specs.declared.group.Group.{Group}
use Rattle.mc_group.specs.Groups.{group_at}
use Rattle.device_core.specs.Configuration.{Configuration}
use Rattle.device_core.specs.Device.{DeviceState, first_device, is_config}
use Rattle.device_core.specs.Power.{after_power}
use Rattle.device_core.specs.Saving.{IsOver, IsSaved}
use Rattle.device_core.specs.SessionTable.{SessionTable, no_sessions}
use Rattle.device_core.specs.Restarts.{LastsThroughRestart}
use Rattle.device_core.proofs.Quiet.{power_is_quiet}
use Rattle.device_core.proofs.Saved.{read_back}

both : (a b : Bool) → a && b ≡ true → (a ≡ true) × (b ≡ true)
both true true is = (refl, refl)
both true false is = absurd cc
both false b is = absurd cc

pub few_places : (config : Configuration) → is_config config ≡ true → config.groups ≤ 4
few_places config is =
    let a = both _ _ is in
    let b = both _ _ a.0 in
    let c = both _ _ b.1 in
    leb-true config.groups 4 c.1

told_apart : (config : Configuration) (saved running next : List ℕ) (a b : DeviceState) (whole_a whole_b : CompleteFlags)
    → IsSaved config saved running next a whole_a → IsSaved config saved running next b whole_b
    → (record a { sessions = no_sessions } ≡ record b { sessions = no_sessions }) × (whole_a ≡ whole_b)
told_apart config saved running next a b whole_a whole_b is_a is_b =
    let of_a = read_back config saved running next a whole_a is_a in
    let of_b = read_back config saved running next b whole_b is_b in
    (sym of_a.told ∙ of_b.told, sym of_a.flags_are ∙ of_b.flags_are)

-- power reads nothing of the sessions that there were
no_matter : (whole : CompleteFlags) (table : SessionTable) (device : DeviceState)
    → after_power whole table device ≡ after_power whole table (record device { sessions = no_sessions })
unfolding after_power
no_matter whole table device = refl

same : (config : Configuration) (saved running next : List ℕ) (device again : DeviceState) (whole : CompleteFlags)
    → IsSaved config saved running next device (flags_of device.sessions) → IsSaved config saved running next again whole
    → after_power whole device.sessions again ≡ device
same config saved running next device again whole is is_again =
    let apart = told_apart config saved running next again device whole (flags_of device.sessions) is_again is in
    no_matter whole device.sessions again
    ∙ ap (λ (d : DeviceState). after_power whole device.sessions d) apart.0
    ∙ ap (λ (w : CompleteFlags). after_power w device.sessions (record device { sessions = no_sessions })) apart.1
    ∙ sym (no_matter (flags_of device.sessions) device.sessions device)
    ∙ power_is_quiet device

first_over : (config : Configuration) → is_config config ≡ true → config.offset < 2 ^ 32 → IsOver config (first_device config)
first_over config is offset = record {
  config_is = refl;
  offset = offset;
  token = omega arith;
  last_due = tt;
  places = length-replicate config.groups None;
  few_places = few_places config is;
  groups = λ id less.
      let within : id < config.groups = omega (arith, less, length-replicate {A = Option Group} config.groups None) in
      let none : group_at (first_device config).groups id ≡ None = get_or-replicate config.groups id None None within in
      rw none tt;
  class_session = tt;
  reboot = tt;
  counts = record { deaf = omega arith; refused = omega arith; full = omega arith; dropped = omega arith };
  slots = record {
    formats = inl refl;
    version = omega arith;
    sound = record { runs = inl (refl, tt); read = inl (refl, refl) };
    room = record { running = omega arith; next_file = omega arith };
  };
  few = omega arith;
  uplinks = tt;
}

pub lasts : LastsThroughRestart
lasts = record { apart = told_apart; same = same; first = first_over }
