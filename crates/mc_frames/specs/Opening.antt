-- Which frames are opened, and why others are not (this project's profile).
use Rattle.std.specs.Prelude.{◌≡◌, ℕ, ◌+◌, ◌-◌, ◌%◌, ◌<◌, ◌≤◌, ◌==◌, nat_lt, ◌⊎◌, Bool, ◌&&◌, ◌||◌, not, if◌then◌else◌, List, length, take, drop, slice_index, Option, Some, None, Result, Ok, Err, MatchResult}
use Rattle.std.specs.Str.{bytes_eq}
use Rattle.wire_base.specs.Numbers.{number_at}
use Rattle.wire_base.specs.Payload.{max_payload}
use Rattle.mc_frames.specs.declared.session.Keys.{Keys}
use Rattle.mc_frames.specs.declared.opening.Opened.{Opened}
use Rattle.mc_frames.specs.declared.fault.FrameFault.{FrameFault}
use Rattle.mc_frames.specs.declared.fault.FrameFault.TheVariants.{Short, Long, Header, Address, Port, Count, Mic}
use Rattle.mc_frames.specs.Limits.{min_frame, max_frame}
use Rattle.mc_frames.specs.Frames.{ciphered, mic, frame_of}

-- the bytes are the frame of a payload for the address, on a port that isn't 0, with a count below max of the 65,536 from
-- min on; FCtrl says nothing, or that more frames wait (10, FPending)
pub record Holds (keys : Keys) (addr min max : ℕ) (bytes : List ℕ) (count port : ℕ) (payload : List ℕ) : Type 0 where
  pub control : ℕ
  pub control_is : (control ≡ 0x00) ⊎ (control ≡ 0x10)
  pub bytes_are : bytes ≡ frame_of keys addr control count port payload
  pub payload_fits : length payload ≤ max_payload
  pub port_is : 0 < port
  pub from : min ≤ count
  pub near : count < min + 65536
  pub below : count < max

-- the one of the 65,536 counts from min on that has such low two bytes
abbrev pub count_near : (min low : ℕ) → ℕ
count_near min low = min + (low + (65536 - min % 65536)) % 65536

-- the count of a frame
abbrev pub count_in : (min : ℕ) → List ℕ → ℕ
count_in min bytes = count_near min (number_at bytes 6 2)

-- MHDR is 60, and FCtrl 00 or 10
abbrev pub has_header : List ℕ → Bool
has_header bytes = slice_index bytes 0 == 0x60 && (slice_index bytes 5 == 0x00 || slice_index bytes 5 == 0x10)

-- the last four bytes are the MIC of those before
abbrev pub has_mic : Keys → (addr count : ℕ) → List ℕ → Bool
has_mic keys addr count bytes = bytes_eq (drop (length bytes - 4) bytes) (mic keys addr count (take (length bytes - 4) bytes))

-- the first fault of the bytes, in the order of FrameFault
unfoldable pub fault_of : Keys → (addr min max : ℕ) → List ℕ → Option FrameFault
fault_of keys addr min max bytes =
    if nat_lt (length bytes) min_frame then Some Short
    else (if nat_lt max_frame (length bytes) then Some Long
    else (if not (has_header bytes) then Some Header
    else (if not (number_at bytes 1 4 == addr) then Some Address
    else (if slice_index bytes 8 == 0 then Some Port
    else (if not (nat_lt (count_in min bytes) max) then Some Count
    else (if not (has_mic keys addr (count_in min bytes) bytes) then Some Mic
    else None))))))

-- the count, the port and the payload of a frame
abbrev pub contents : Keys → (addr min : ℕ) → List ℕ → Opened
contents keys addr min bytes = record {
  count = count_in min bytes;
  port = slice_index bytes 8;
  payload = ciphered keys.app_s addr (count_in min bytes) (take (length bytes - 13) (drop 9 bytes));
}

-- what a frame without a fault holds, else its first fault; that this is what the bytes hold, Holds says
abbrev pub contents_or : Option FrameFault → Opened → Result Opened FrameFault
contents_or None opened = Ok opened
contents_or (Some fault) opened = Err fault

abbrev pub opening : Keys → (addr min max : ℕ) → List ℕ → Result Opened FrameFault
opening keys addr min max bytes = contents_or (fault_of keys addr min max bytes) (contents keys addr min bytes)

-- the first fault where no group is heard: then any address is another
unfoldable pub fault_without_group : List ℕ → FrameFault
fault_without_group bytes =
    if nat_lt (length bytes) min_frame then Short
    else (if nat_lt max_frame (length bytes) then Long
    else (if not (has_header bytes) then Header
    else Address))

-- what was opened is this
abbrev pub IsOpenedTo : Result Opened FrameFault → (count port : ℕ) → List ℕ → Type 0
IsOpenedTo result count port payload =
    MatchResult result (λ o. (o.count ≡ count) × (o.port ≡ port) × (o.payload ≡ payload)) (λ _. ⊥)

-- a frame is opened where there is no fault, else the fault is answered
abbrev pub IsAnswerTo : Option FrameFault → Result Opened FrameFault → Type 0
IsAnswerTo first result = MatchResult result (λ _. first ≡ None) (λ fault. first ≡ Some fault)
