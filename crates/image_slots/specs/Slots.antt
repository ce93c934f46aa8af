-- The two image slots of a device: what runs, and what was received to run next (this project's profile).
use Rattle.std.specs.Prelude.{◌≡◌, ◌⊎◌, ℕ, ◌≤◌, ◌==◌, if◌then◌else◌, List, [], length}
use Rattle.image_slots.specs.declared.view.ImageState.{ImageState}
use Rattle.image_slots.specs.declared.view.ImageState.TheVariants.{None as Empty, Valid}
use Rattle.image_slots.specs.Image.{image_state}

-- the formats that are known, only 1 (1) or both (2); the version that runs and its file's bytes; what next is to this device,
-- and its file's bytes
pub record Slots : Type 0 where
  pub formats : ℕ
  pub version : ℕ
  pub running : List ℕ
  pub next : ImageState
  pub next_file : List ℕ

-- at first version 0 runs, without a file, and next is none
abbrev pub first_slots : (formats : ℕ) → Slots
first_slots formats = record { formats = formats; version = 0; running = []; next = Empty; next_file = [] }

-- next is none
abbrev pub without_next : Slots → Slots
without_next slots = record slots { next = Empty; next_file = [] }

-- a file runs from now on, with this version
abbrev pub with_running : (version : ℕ) → (file : List ℕ) → Slots → Slots
with_running version file slots = record slots { version = version; running = file }

-- a whole file becomes next, whatever next was
unfoldable pub after_offer : (hw : ℕ) → List ℕ → Slots → Slots
after_offer hw file slots = record slots { next = image_state file hw slots.formats; next_file = file }

-- a valid next becomes what runs, and any other stays
unfoldable pub after_swap : Slots → Slots
after_swap slots = swapped slots slots.next
  where
    swapped : Slots → ImageState → Slots
    swapped slots (Valid version) = without_next (with_running version slots.next_file slots)
    swapped slots other = slots

-- the answer to the request to delete a version: bit 0 without a valid next, bit 1 where it has another version
abbrev pub delete_bits : ImageState → (version : ℕ) → ℕ
delete_bits (Valid held) version = if held == version then 0 else 2
delete_bits other version = 1

-- next is deleted exactly where no bit is answered
unfoldable pub after_delete : (version : ℕ) → Slots → Slots
after_delete version slots = if delete_bits slots.next version == 0 then without_next slots else slots

-- what next is where both formats are known: none, or what its bytes are then
abbrev pub read_again : (hw : ℕ) → ImageState → List ℕ → ImageState
read_again hw Empty file = Empty
read_again hw other file = image_state file hw 2

-- both formats are known from now on
unfoldable pub after_raise : (hw : ℕ) → Slots → Slots
after_raise hw slots = record slots { formats = 2; next = read_again hw slots.next slots.next_file }

-- ---- what is true of them

-- what runs is an image file for this hardware, of a format that is known, with its version; or no file is there, and of its
-- version this is true
abbrev pub RunsImageOr : (IsFirst : (version : ℕ) → Type 0) → (hw : ℕ) → Slots → Type 0
RunsImageOr IsFirst hw slots =
    ((slots.running ≡ []) × IsFirst slots.version) ⊎ (image_state slots.running hw slots.formats ≡ Valid slots.version)

-- where no file is there, it has any version: what runs came with the device
abbrev pub RunsImage : (hw : ℕ) → Slots → Type 0
RunsImage hw slots = RunsImageOr (λ version. Unit {0}) hw slots

-- next is none, and has no bytes, or what its bytes are
abbrev pub IsRead : (hw : ℕ) → Slots → Type 0
IsRead hw slots =
    ((slots.next ≡ Empty) × (slots.next_file ≡ [])) ⊎ (slots.next ≡ image_state slots.next_file hw slots.formats)

-- what each slot says of its file is true
pub record AreSound (IsFirst : (version : ℕ) → Type 0) (hw : ℕ) (slots : Slots) : Type 0 where
  pub runs : RunsImageOr IsFirst hw slots
  pub read : IsRead hw slots

-- each file has room
pub record HaveRoom (area : ℕ) (slots : Slots) : Type 0 where
  pub running : length slots.running ≤ area
  pub next_file : length slots.next_file ≤ area
