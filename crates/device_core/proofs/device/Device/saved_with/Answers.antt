use Rattle.std.proofs.Common.{ℕ, refl, subst}
use Rattle.image_slots.specs.Slots.{AreSound, HaveRoom}
use Rattle.session_store.specs.Size.{size_with}
use Rattle.device_core.specs.Saving.{state_bytes, saved_of}
use Rattle.device_core.proofs.Saved.{session_is}
use Rattle.device_core.proofs.device.Device.saved_with.Goals as goal

pub returns-clause-bytes : goal.returns-clause-bytes
unfolding saved_of state_bytes
returns-clause-bytes g c = λ table.
    rw (
      c.put-2.ensures.bytes,
      c.digest_of-digest.ensures,
      c.as_slice.ensures.value,
      c.as_slice-2.ensures.value,
      c.config_bytes.ensures (size_with c.self.inside.size),
      c.running.ensures.file,
      c.next_file.ensures,
      c.put.ensures.bytes,
      c.put_flags.ensures.bytes,
      c.put_slots.ensures.bytes,
      c.put_counts.ensures.bytes,
      c.put_reboot.ensures.bytes,
      c.put_session.ensures.bytes,
      c.put_groups.ensures.bytes,
      c.put_moment.ensures.bytes,
      c.put_clock.ensures.bytes,
      ← c.self.view_is,
    ) refl

pub returns-clause-over : goal.returns-clause-over
returns-clause-over g c = λ table. rw (← c.self.view_is) (record {
  config_is = refl;
  offset = c.put_clock.ensures.offset;
  token = c.put_clock.ensures.token;
  last_due = c.put_moment.ensures.fits;
  places = c.self.invariant.places;
  few_places = c.self.invariant.few_places;
  groups = c.put_groups.ensures.fit;
  class_session = session_is c.self.inside.class_session c.self.invariant.session_fits c.put_session.ensures.time;
  reboot = c.put_reboot.ensures.fits;
  counts = c.put_counts.ensures.fit;
  slots = record {
    formats = c.self.invariant.formats;
    version = c.put_slots.ensures.version;
    sound = subst (λ (hw : ℕ). AreSound (λ version. Unit {0}) hw c.self.inside.slots.slots) c.self.invariant.hw c.put_slots.ensures.sound;
    room = subst (λ (area : ℕ). HaveRoom area c.self.inside.slots.slots) c.self.invariant.slots_area c.put_slots.ensures.room;
  };
  few = c.put.ensures.few;
  uplinks = c.put.ensures.fit;
})
