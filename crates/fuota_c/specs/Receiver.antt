-- What the calls of a receiver do for C.
use Rattle.std.specs.Prelude.{◌≡◌, ◌⊎◌, ◌≤◌, ◌<◌, ℕ, ◌*◌, ◌/◌, Bool, Option, Some, None, IfSome, List, [], length}
use Rattle.wire_base.specs.Payload.{max_payload}
use Rattle.wire_base.specs.declared.refusal.Direction.TheVariants.{Down}
use Rattle.cast_wire.specs.declared.cmd.Cmd.TheVariants.{DataFragment, FragSessionStatusAns}
use Rattle.cast_wire.specs.Table.{Spells}
use Rattle.package_grammar.specs.declared.command.Command.TheVariants.{Cast}
use Rattle.package_grammar.specs.Grammar.{canonical}
use Rattle.frag_session.specs.declared.answers.Via.TheVariants.{Unicast}
use Rattle.frag_session.specs.declared.answers.StatusAns.{StatusAns}
use Rattle.frag_session.specs.declared.setups.SetupReq.{SetupReq}
use Rattle.frag_session.specs.Held.{HeldSlot}
use Rattle.frag_session.specs.Limits.{max_received}
use Rattle.frag_session.specs.declared.setups.Limits.{Limits}
use Rattle.frag_session.specs.HeldSteps.{extent_of}
use Rattle.frag_session.specs.HeldHistory.{Stands}
use Rattle.frag_session.specs.Setup.{Room, memory_room, setup_bits}
use Rattle.frag_session.specs.Session.{Session, Seen, after_setup, after_fragment, status_of}
use Rattle.row_elimination.specs.Room.{Extent}
use Rattle.c_base.specs.Answer.{done, range, no_memory}
use Rattle.c_base.specs.Bytes.{Whole, Copied}
use Rattle.fuota_c.specs.declared.receiver.SetupFields.{SetupFields}
use Rattle.fuota_c.specs.declared.size.PartSize.{PartSize}
use Rattle.fuota_c.specs.declared.size.PartSize.TheVariants as size
use Rattle.fuota_c.specs.declared.sized_receiver.Receiver.{Receiver}
use Rattle.fuota_c.specs.declared.sized_receiver.Receiver.TheVariants as of_size
use Rattle.fuota_c.specs.Shown.{file_or_none}
use Rattle.fuota_c.specs.Size.{size_number}

-- ---- its size

-- how many pieces of how many bytes it takes, and the rows that it keeps for coded fragments
pub record Shape : Type 0 where
  pub pieces : ℕ
  pub piece : ℕ
  pub rows : ℕ

abbrev pub shape_of : PartSize → Shape
shape_of size.Small = record { pieces = 256; piece = 48; rows = 16 }
shape_of size.Middle = record { pieces = 1024; piece = 48; rows = 64 }
shape_of size.Large = record { pieces = 4096; piece = 64; rows = 256 }

abbrev pub extent_for : Shape → Extent
extent_for shape = record { area = shape.pieces * shape.piece; pieces = shape.pieces }

-- a row is a word for each 64 pieces, and the bytes of a piece
abbrev pub room_for : Shape → Room
room_for shape = memory_room (shape.rows * (shape.pieces / 64)) (shape.rows * shape.piece) (extent_for shape)

-- only session 0, with any descriptor
abbrev pub limits_for : Shape → Limits
limits_for shape = record { sessions = 1; rows = shape.rows; descriptor = None }

-- ---- what it stands for

abbrev pub slot_of : Receiver → HeldSlot
slot_of (of_size.Small slot) = slot
slot_of (of_size.Middle slot) = slot
slot_of (of_size.Large slot) = slot

abbrev pub size_of : Receiver → PartSize
size_of (of_size.Small slot) = size.Small
size_of (of_size.Middle slot) = size.Middle
size_of (of_size.Large slot) = size.Large

-- it is of this size, with the room for it, and stands for the session, or for none
pub record ReceiverStands (size : PartSize) (x : Receiver) (s : Option Session) : Type 0 where
  pub size_is : size_of x ≡ size
  pub extent_is : extent_of (slot_of x) ≡ extent_for (shape_of size)
  pub stands : Stands (slot_of x) s

-- ---- what its calls do

-- a receiver of the size with this number, without a session; none where no size has it, or memory was missing
abbrev pub IsNewReceiver : (told : ℕ) → Option Receiver → (answer : ℕ) → Type 0
IsNewReceiver told None answer = ((answer ≡ range) × (2 < told)) ⊎ ((answer ≡ no_memory) × (told ≤ 2))
IsNewReceiver told (Some x) answer =
    (answer ≡ done) × (told ≡ size_number (size_of x)) × ReceiverStands (size_of x) x None

-- a setup is answered with all its refusal bits, and without one there is its session
abbrev pub SetsUp : (old new : Receiver) → SetupReq → (bits : ℕ) → Type 0
SetsUp old new req bits = (s : Option Session) → let shape = shape_of (size_of old) in
    ReceiverStands (size_of old) old s → (bits ≡ setup_bits (limits_for shape) (room_for shape) req)
    × ReceiverStands (size_of old) new (after_setup (limits_for shape) (room_for shape) s req)

-- the payload is this fragment of session 0, and nothing else
abbrev pub IsFragment : (payload : List ℕ) → (n : ℕ) → (part : List ℕ) → Type 0
IsFragment payload n part = Spells (DataFragment 0 n part) 201 Down payload 0 (length payload)

-- a payload that is a fragment of session 0 is heard, and any other changes nothing
pub record Hears (old new : Receiver) (payload : List ℕ) (mark : ℕ) : Type 0 where
  pub heard : (n : ℕ) (part : List ℕ) (s : Option Session) → IsFragment payload n part
      → ReceiverStands (size_of old) old s
      → ReceiverStands (size_of old) new (after_fragment s Unicast n part mark)
  pub other : ((n : ℕ) (part : List ℕ) → ¬ IsFragment payload n part) → new ≡ old

abbrev pub setup_of : SetupFields → SetupReq
setup_of fields = record {
  index = fields.index;
  mask = fields.mask;
  nb_frag = fields.nb_frag;
  frag_size = fields.frag_size;
  algo = fields.algo;
  delay = fields.delay;
  padding = fields.padding;
  descriptor = fields.descriptor;
}

-- what the session answers to a status request by unicast; the fragments heard are within their bits
pub record Answers (x : Receiver) (all : Bool) (answer : Option StatusAns) : Type 0 where
  pub is : (s : Option Session) → ReceiverStands (size_of x) x s → answer ≡ status_of s Unicast all
  pub few : IfSome answer (λ a. a.received ≤ max_received)

-- a payload that is too long for a radio changes nothing, and any other is heard
pub record HearsOrNot (old new : Receiver) (payload : List ℕ) (mark : ℕ) (answer : ℕ) : Type 0 where
  pub heard : length payload ≤ max_payload → (answer ≡ done) × Hears old new payload mark
  pub long : max_payload < length payload → (answer ≡ range) × (new ≡ old)

-- a window of the whole file
abbrev pub IsFileCopy : Option Seen → (offset : ℕ) → (old new : List ℕ) → (n : ℕ) → Type 0
IsFileCopy shown offset old new n = Copied (file_or_none shown) offset old new n

-- the bytes of FragSessionStatusAns, where the session answers
abbrev pub answer_bytes : Option StatusAns → List ℕ
answer_bytes None = []
answer_bytes (Some a) = canonical (Cast (FragSessionStatusAns 0 a.received a.missing a.norows))

abbrev pub IsStatus : Option Session → (all : Bool) → (old new : List ℕ) → (n : ℕ) → Type 0
IsStatus s all old new n = Whole (answer_bytes (status_of s Unicast all)) old new n
