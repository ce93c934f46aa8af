-- What C hands over and is handed, worked out: each field in its place, and the numbers of the header.
use Rattle.std.specs.Prelude.{◌≡◌, true, false, [], ◌∷◌, map, replicate, Some, None, Ok, Err}
use Rattle.wire_base.specs.declared.refusal.Direction.TheVariants.{Up, Down}
use Rattle.wire_base.specs.declared.refusal.Refusal.{Refusal}
use Rattle.wire_base.specs.declared.refusal.Why.TheVariants as why
use Rattle.mc_keys.specs.declared.root_kind.RootKind.TheVariants.{V10, V11}
use Rattle.mc_frames.specs.declared.fault.FrameFault.TheVariants.{Mic}
use Rattle.package_grammar.specs.declared.downlink.To.TheVariants.{Unicast, Group}
use Rattle.frag_session.specs.declared.answers.Verdict.{Verdict}
use Rattle.frag_session.specs.declared.answers.Verdict.TheVariants as verdict
use Rattle.frag_session.specs.Session.{Seen}
use Rattle.image_slots.specs.declared.view.ImageState.TheVariants as image
use Rattle.flash_session.specs.Flashes.{Cells}
use Rattle.flash_session.specs.declared.fault.OpenFault.{OpenFault}
use Rattle.session_store.specs.declared.sizes.SessionSize.TheVariants as sessions
use Rattle.device_core.specs.declared.config.Class.TheVariants as class
use Rattle.device_core.specs.declared.config.ReserveError.TheVariants.{BadConfig, Memory}
use Rattle.device_core.specs.declared.delivered.Delivered.TheVariants as delivered
use Rattle.device_core.specs.declared.delivered.Aired.TheVariants.{Foreign, Heard}
use Rattle.device_core.specs.HeldDevice.{HeldDevice}
use Rattle.fuota_c.specs.declared.config.ConfigFields.{ConfigFields}
use Rattle.fuota_c.specs.declared.device.ArrivalFields.{ArrivalFields}
use Rattle.fuota_c.specs.declared.size.PartSize.TheVariants.{Small, Middle, Large}
use Rattle.fuota_c.specs.Config.{config_of, held_config_of}
use Rattle.fuota_c.specs.Decoded.{direction_of, why_number}
use Rattle.fuota_c.specs.Device.{downlink_of, unmade_number, delivered_number, woken_number, aired_number}
use Rattle.fuota_c.specs.Flash.{opened_number}
use Rattle.fuota_c.specs.Receiver.{shape_of}
use Rattle.fuota_c.specs.Saving.{slot_file}
use Rattle.fuota_c.specs.Shown.{fields_of}
use Rattle.fuota_c.specs.Size.{size_number, sessions_of}
use Rattle.fuota_c.specs.Telling.{counts_of, next_of}
use Rattle.fuota_c.specs.Version.{version}

-- ---- what is handed over

abbrev pub worked_config : ConfigFields
worked_config = record {
  hw = 1;
  offset = 2;
  area = 3;
  descriptor = 4;
  rows = 5;
  formats = 6;
  sessions = 7;
  groups = 8;
  has_descriptor = true;
  is_class_c = true;
  is_v11 = true;
  key = replicate 16 9;
}

-- the same without a descriptor, of class A and of LoRaWAN 1.0
abbrev pub plain_config : ConfigFields
plain_config = record worked_config { has_descriptor = false; is_class_c = false; is_v11 = false }

abbrev pub worked_arrival : ArrivalFields
worked_arrival = record { t = 1; mark = 2; word = 3; addr = 4; count = 5; is_group = true }

pub record AreTaken : Type 0 where
  pub config : config_of worked_config ≡ record {
    class = class.C;
    hw = 1;
    formats = 6;
    rows = 5;
    offset = 2;
    key = replicate 16 9;
    root = V11;
    descriptor = Some 4;
    sessions = 7;
    groups = 8;
    area = 3;
    held = false;
    span = 0;
  }
  pub plain : config_of plain_config ≡ record (config_of worked_config) { class = class.A; root = V10; descriptor = None }
  pub held : held_config_of worked_config 10 ≡ record (config_of worked_config) { held = true; span = 10 }
  pub to_group : downlink_of 201 (7 ∷ []) worked_arrival ≡ record { to = Group 4 5; port = 201; payload = 7 ∷ [] }
  pub to_device : downlink_of 202 [] (record worked_arrival { is_group = false }) ≡ record { to = Unicast; port = 202; payload = [] }
  pub up : direction_of true ≡ Up
  pub down : direction_of false ≡ Down
  -- pieces, bytes of a piece, and rows of a receiver; and the sizes of a device
  pub small : shape_of Small ≡ record { pieces = 256; piece = 48; rows = 16 }
  pub middle : shape_of Middle ≡ record { pieces = 1024; piece = 48; rows = 64 }
  pub large : shape_of Large ≡ record { pieces = 4096; piece = 64; rows = 256 }
  pub sizes : map size_number (Small ∷ Middle ∷ Large ∷ []) ≡ 0 ∷ 1 ∷ 2 ∷ []
  pub of_sessions : map sessions_of (Small ∷ Middle ∷ Large ∷ []) ≡ sessions.Small ∷ sessions.Middle ∷ sessions.Large ∷ []

-- ---- what is told

abbrev pub some_refusal : Refusal
some_refusal = record { at = 1; why = why.Short }

-- of four fragments two are heard, and a file of one byte
abbrev pub seen_with : Verdict → Seen
seen_with v = record { received = 2; missing = 3; verdict = v; file = 7 ∷ [] }

pub record AreTold : Type 0 where
  pub receiving : fields_of (seen_with verdict.Receiving) ≡ record { mark = 0; file_length = 1; received = 2; missing = 3; verdict = 0 }
  pub complete : fields_of (seen_with (verdict.Complete 9)) ≡ record { mark = 9; file_length = 1; received = 2; missing = 3; verdict = 1 }
  pub no_rows : fields_of (seen_with (verdict.NoRows 9)) ≡ record { mark = 9; file_length = 1; received = 2; missing = 3; verdict = 2 }
  pub conflict : fields_of (seen_with (verdict.Conflict 9)) ≡ record { mark = 9; file_length = 1; received = 2; missing = 3; verdict = 3 }
  -- DONE 0, NOTHING 1, NO_MEMORY 5, REFUSED 6, DEAF 7, FULL 8, FOREIGN 11, DOWN 12, FLASH 13, RANGE 3
  pub comes : map delivered_number (delivered.Done ∷ delivered.Deaf ∷ delivered.Refused some_refusal ∷ delivered.OutboxFull 9 ∷ delivered.Down ∷ delivered.FlashFault ∷ [])
      ≡ 0 ∷ 7 ∷ 6 ∷ 8 ∷ 12 ∷ 13 ∷ []
  pub woken : woken_number (Ok tt) ≡ 0
  pub not_woken : woken_number (Err (record {})) ≡ 8
  pub foreign : aired_number (Foreign Mic) ≡ 11
  pub aired : aired_number (Heard delivered.Deaf) ≡ 7
  pub opened : opened_number (Ok tt) ≡ 0
  pub not_opened : (fault : OpenFault) → opened_number (Err fault) ≡ 13
  pub wrong : unmade_number (Err BadConfig) ≡ 3
  pub no_memory : unmade_number (Err Memory) ≡ 5
  pub reasons : map why_number (why.Port ∷ why.UnknownCommand ∷ why.Short ∷ why.TooLong ∷ []) ≡ 0 ∷ 1 ∷ 2 ∷ 3 ∷ []
  pub counts : counts_of (record { deaf = 1; refused = 2; full = 3; dropped = 4 }) ≡ record { deaf = 1; refused = 2; full = 3; dropped = 4 }
  pub nothing_next : next_of image.None ≡ record { version = 0; state = 0 }
  pub corrupt_next : next_of image.Corrupt ≡ record { version = 0; state = 1 }
  pub other_next : next_of image.Incompatible ≡ record { version = 0; state = 2 }
  pub next : next_of (image.Valid 7) ≡ record { version = 7; state = 3 }
  pub file_next : (x : HeldDevice Cells) → slot_file x true ≡ x.slots.next_file
  pub file_running : (x : HeldDevice Cells) → slot_file x false ≡ x.slots.running
  -- 0.1.0
  pub library : version ≡ 0x000100
