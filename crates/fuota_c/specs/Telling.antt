-- What a device shows C besides its sessions.
use Rattle.image_slots.specs.declared.view.ImageState.{ImageState}
use Rattle.device_core.specs.declared.counts.Counts.{Counts}
use Rattle.device_core.specs.Saving.{next_byte, next_version}
use Rattle.fuota_c.specs.declared.telling.CountsFields.{CountsFields}
use Rattle.fuota_c.specs.declared.telling.NextFields.{NextFields}

abbrev pub counts_of : Counts → CountsFields
counts_of counts = record {
  deaf = counts.deaf;
  refused = counts.refused;
  full = counts.full;
  dropped = counts.dropped;
}

-- what was received to run next, by the numbers that a saved device has for it
abbrev pub next_of : ImageState → NextFields
next_of state = record { version = next_version state; state = next_byte state }
