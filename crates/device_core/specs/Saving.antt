-- What a device knows, as bytes (this project's profile). They have neither its configuration nor its files: the digest says to
-- which they belong. Nor do they have its sessions: those that are held are in the flash. Numbers of several bytes have the
-- lowest first. An option is a byte 1 and its fields, or zeros.
--    0  FUSD, and the format, 1
--    5  the seconds that its clock is ahead, of 4 bytes, and the token of its next request
--   10  when the uplink that it made last is due: an option of 8 bytes
--   19  the groups of the ids 0 to 3: each an option of 28 bytes, McAddr, McKey, minMcFCount and maxMcFCount
--  135  the class session: an option of 8 bytes, its group, its class (0 is C, 1 is B), the periodicity of class B, else 0,
--       SessionTime of 4 bytes, and TimeOut
--  144  the moment of its reboot: an option of 4 bytes
--  149  the counters deaf, refused, full and dropped, 8 bytes each
--  181  the image formats that it knows
--  182  the version that runs, 4 bytes
--  186  next: 0 none, 1 corrupt, 2 incompatible, 3 valid; then the version of a valid one, else 0, of 4 bytes
--  191  the lengths of the file that runs and of next, 4 bytes each
--  199  a byte for each session: 1 where its file was whole when the device was last up, else 0
--  203  the number of uplinks
--  204  32 bytes for each uplink, the oldest first: its moment of 8 bytes, its port, the length of its payload, and 22 bytes
--       with the payload and zeros; after the last uplink zeros, as for 8 of them
--  460  SHA-256 of all before it, the configuration, the file that runs, and next, 32 bytes
use Rattle.std.specs.Prelude.{◌≡◌, ◌⊎◌, ℕ, ◌-◌, ◌*◌, ◌^◌, ◌<◌, ◌≤◌, Bool, if◌then◌else◌, List, [], ◌∷◌, ◌++◌, length, replicate, codes, Option, Some, None}
use Rattle.std.specs.List.{flat_map, AllByRecursion}
use Rattle.sha2.specs.Sha256.{sha256}
use Rattle.wire_base.specs.Numbers.{number_bytes}
use Rattle.clock_sync.specs.Clock.{Clock}
use Rattle.mc_keys.specs.declared.root_kind.RootKind.{RootKind}
use Rattle.mc_keys.specs.declared.root_kind.RootKind.TheVariants.{V10, V11}
use Rattle.mc_group.specs.declared.group.Group.{Group}
use Rattle.mc_group.specs.Groups.{max_groups, group_at}
use Rattle.image_slots.specs.declared.view.ImageState.{ImageState}
use Rattle.image_slots.specs.declared.view.ImageState.TheVariants as image
use Rattle.image_slots.specs.Slots.{Slots, AreSound, HaveRoom}
use Rattle.session_store.specs.declared.state.CompleteFlags.{CompleteFlags}
use Rattle.device_core.specs.declared.class_session.ClassSession.{ClassSession}
use Rattle.device_core.specs.declared.class_session.Kind.{Kind}
use Rattle.device_core.specs.declared.class_session.Kind.TheVariants.{ClassC, ClassB}
use Rattle.device_core.specs.declared.config.Class.{Class}
use Rattle.device_core.specs.declared.config.Class.TheVariants as class
use Rattle.device_core.specs.Configuration.{Configuration}
use Rattle.device_core.specs.declared.counts.Counts.{Counts}
use Rattle.device_core.specs.declared.uplink.Uplink.{Uplink}
use Rattle.device_core.specs.Device.{DeviceState, outbox_size}
use Rattle.device_core.specs.Sendable.{IsUplink}

-- ---- fields

-- a byte that says whether there is a value, and the value, or zeros in its place
abbrev pub option_bytes : {A : Type 0} → (width : ℕ) → (A → List ℕ) → Option A → List ℕ
option_bytes width fields None = 0 ∷ replicate width 0
option_bytes width fields (Some value) = 1 ∷ fields value

abbrev pub flag_byte : Bool → ℕ
flag_byte flag = if flag then 1 else 0

-- the mark FUSD, the form of the record, which is 1, and the clock
abbrev pub clock_bytes : Clock → List ℕ
clock_bytes clock = codes "FUSD" ++ 1 ∷ number_bytes 4 clock.offset ++ clock.token ∷ []

-- the moment of the last uplink
abbrev pub moment_bytes : Option ℕ → List ℕ
moment_bytes last_due = option_bytes 8 (λ due. number_bytes 8 due) last_due

abbrev pub group_fields : Group → List ℕ
group_fields group = number_bytes 4 group.addr ++ group.key ++ number_bytes 4 group.min ++ number_bytes 4 group.max

abbrev pub group_bytes : Option Group → List ℕ
group_bytes group = option_bytes 28 group_fields group

abbrev pub groups_bytes : List (Option Group) → List ℕ
groups_bytes groups =
    group_bytes (group_at groups 0) ++ group_bytes (group_at groups 1) ++ group_bytes (group_at groups 2)
    ++ group_bytes (group_at groups 3)

-- class C or class B
abbrev pub kind_byte : Kind → ℕ
kind_byte ClassC = 0
kind_byte (ClassB periodicity) = 1

abbrev pub periodicity_of : Kind → ℕ
periodicity_of ClassC = 0
periodicity_of (ClassB periodicity) = periodicity

-- a class session, its length by TimeOut
abbrev pub session_fields : ClassSession → List ℕ
session_fields session =
    session.id ∷ kind_byte session.kind ∷ periodicity_of session.kind ∷ number_bytes 4 session.time ++ session.timeout ∷ []

abbrev pub session_bytes : Option ClassSession → List ℕ
session_bytes session = option_bytes 8 session_fields session

-- the second of the device's clock at which it reboots
abbrev pub reboot_bytes : Option ℕ → List ℕ
reboot_bytes reboot = option_bytes 4 (λ moment. number_bytes 4 moment) reboot

abbrev pub counts_bytes : Counts → List ℕ
counts_bytes counts =
    number_bytes 8 counts.deaf ++ number_bytes 8 counts.refused ++ number_bytes 8 counts.full ++ number_bytes 8 counts.dropped

-- what is next, and after it the version, which is 0 where the byte is not 3
abbrev pub next_byte : ImageState → ℕ
next_byte image.None = 0
next_byte image.Corrupt = 1
next_byte image.Incompatible = 2
next_byte (image.Valid version) = 3

abbrev pub next_version : ImageState → ℕ
next_version (image.Valid version) = version
next_version other = 0

-- both slots, their files by their lengths alone
abbrev pub slots_bytes : Slots → List ℕ
slots_bytes slots =
    slots.formats ∷ number_bytes 4 slots.version ++ next_byte slots.next ∷ number_bytes 4 (next_version slots.next)
    ++ number_bytes 4 (length slots.running) ++ number_bytes 4 (length slots.next_file)

-- which sessions had their file whole
abbrev pub flags_bytes : CompleteFlags → List ℕ
flags_bytes flags =
    flag_byte flags.first ∷ flag_byte flags.second ∷ flag_byte flags.third ∷ flag_byte flags.fourth ∷ []

-- an uplink in 32 bytes, whatever its length
abbrev pub uplink_bytes : Uplink → List ℕ
uplink_bytes uplink =
    number_bytes 8 uplink.due ++ uplink.port ∷ length uplink.payload ∷ uplink.payload
    ++ replicate (22 - length uplink.payload) 0

-- how many uplinks wait, and room for eight
abbrev pub uplinks_bytes : List Uplink → List ℕ
uplinks_bytes uplinks =
    length uplinks ∷ flat_map uplink_bytes uplinks ++ replicate (256 - 32 * length uplinks) 0

-- ---- the configuration, only for the digest

abbrev pub class_byte : Class → ℕ
class_byte class.A = 0
class_byte class.C = 1

-- GenAppKey of LoRaWAN 1.0, or AppKey of LoRaWAN 1.1
abbrev pub root_byte : RootKind → ℕ
root_byte V10 = 10
root_byte V11 = 11

-- the configuration, which goes into the digest alone
unfoldable pub config_bytes : Configuration → List ℕ
config_bytes config =
    class_byte config.class ∷ number_bytes 4 config.hw ++ config.formats ∷ number_bytes 2 config.rows
    ++ number_bytes 4 config.offset ++ config.key
    ++ root_byte config.root ∷ option_bytes 4 (λ descriptor. number_bytes 4 descriptor) config.descriptor
    ++ config.sessions ∷ config.groups ∷ number_bytes 4 config.area ++ flag_byte config.held ∷ number_bytes 4 config.span

-- ---- all of it

-- all but the digest
unfoldable pub state_bytes : DeviceState → CompleteFlags → List ℕ
state_bytes device flags =
    clock_bytes device.clock ++ moment_bytes device.last_due ++ groups_bytes device.groups
    ++ session_bytes device.class_session ++ reboot_bytes device.reboot ++ counts_bytes device.counts
    ++ slots_bytes device.slots ++ flags_bytes flags ++ uplinks_bytes device.outbox

-- the digest is over the configuration and both files too
unfoldable pub saved_of : DeviceState → CompleteFlags → List ℕ
saved_of device flags =
    let state = state_bytes device flags in
    state ++ sha256 (state ++ config_bytes device.config ++ device.slots.running ++ device.slots.next_file)

-- ---- of which records

-- the number, where there is one, is below a limit
abbrev pub IsBelow : (limit : ℕ) → Option ℕ → Type 0
IsBelow limit None = Unit {0}
IsBelow limit (Some n) = n < limit

-- a group's numbers are of 4 bytes, and its key of 16
abbrev pub GroupFits : Option Group → Type 0
GroupFits None = Unit {0}
GroupFits (Some group) = (group.addr < 2 ^ 32) × (length group.key ≡ 16) × (group.min < 2 ^ 32) × (group.max < 2 ^ 32)

-- the fields of a class session are within their bits
abbrev pub IsSession : Option ClassSession → Type 0
IsSession None = Unit {0}
IsSession (Some session) =
    (session.id < max_groups) × (periodicity_of session.kind < 8) × (session.time < 2 ^ 32) × (session.timeout < 16)

pub record CountsFit (counts : Counts) : Type 0 where
  pub deaf : counts.deaf < 2 ^ 64
  pub refused : counts.refused < 2 ^ 64
  pub full : counts.full < 2 ^ 64
  pub dropped : counts.dropped < 2 ^ 64

-- the formats are those of the configuration, or both; what runs is an image, next is none, or what its bytes are, and both
-- files have room
pub record AreSlots (config : Configuration) (slots : Slots) : Type 0 where
  pub formats : (slots.formats ≡ config.formats) ⊎ (slots.formats ≡ 2)
  pub version : slots.version < 2 ^ 32
  pub sound : AreSound (λ version. Unit {0}) config.hw slots
  pub room : HaveRoom config.area slots

-- an uplink is a command of the device's, and its moment of 8 bytes
pub record UplinkFits (uplink : Uplink) : Type 0 where
  pub due : uplink.due < 2 ^ 64
  pub spelled : IsUplink uplink

-- a record that a device of this configuration can have, its sessions aside
pub record IsOver (config : Configuration) (device : DeviceState) : Type 0 where
  pub config_is : device.config ≡ config
  pub offset : device.clock.offset < 2 ^ 32
  pub token : device.clock.token < 16
  pub last_due : IsBelow (2 ^ 64) device.last_due
  pub places : length device.groups ≡ config.groups
  pub few_places : config.groups ≤ max_groups
  pub groups : (id : ℕ) → id < length device.groups → GroupFits (group_at device.groups id)
  pub class_session : IsSession device.class_session
  pub reboot : IsBelow (2 ^ 32) device.reboot
  pub counts : CountsFit device.counts
  pub slots : AreSlots config device.slots
  pub few : length device.outbox ≤ outbox_size
  pub uplinks : AllByRecursion UplinkFits device.outbox

-- and that has these files, and these bytes
pub record IsSaved (config : Configuration) (saved running next : List ℕ)
    (device : DeviceState) (flags : CompleteFlags) : Type 0 where
  pub over : IsOver config device
  pub running_is : device.slots.running ≡ running
  pub next_is : device.slots.next_file ≡ next
  pub saved_is : saved_of device flags ≡ saved
