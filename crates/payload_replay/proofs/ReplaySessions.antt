-- What holds of the sessions of a device that hears a file of payloads: each was set up so that there is a file, and
-- hears what the lines carry.
use Rattle.std.proofs.Common.{◌≡◌, ℕ, ◌+◌, List, [], ◌∷◌, drop, Some, Result, Ok, Err, refl, sym, subst, arith}
use Rattle.device_core.specs.Device.{DeviceState}
use Rattle.wire_base.specs.Numbered.{numbered}
use Rattle.report_lines.specs.declared.faults.LineWhy.{LineWhy}
use Rattle.report_lines.specs.declared.faults.LineFault.{LineFault}
use Rattle.payload_replay.specs.PayloadLines.{payload_of}
use Rattle.report_lines.specs.Lines.{BehindLine, TakesLines}
use Rattle.payload_replay.specs.Headed.{TakesFile}
use Rattle.payload_replay.specs.Replay.{header_rows, replay_device, captured, after_payload, Hears, ReachesBehind, Reaches}
use Rattle.payload_replay.specs.ReplayHeadline.{Carries}
use Rattle.device_core.specs.Events.{Receives}
use Rattle.device_core.proofs.HeardSessions.{AreFine, AreCarried, event_fine}
use Rattle.campaign_server.proofs.LineItems.{numbered_next}

-- ---- a payload

-- a line with this payload
record IsLine (all : List (List ℕ)) (lines : ℕ) (line payload : List ℕ) : Type 0 where
  pub line_is : numbered all (lines + 1) ≡ Some line
  pub payload_is : payload_of lines line ≡ Ok payload

carried_by : (all : List (List ℕ)) (lines : ℕ) (line payload : List ℕ) → IsLine all lines line payload
    → AreCarried (Carries all) (lines + 1) (captured payload)
carried_by all lines line payload its cs message c among = (
  line,
  payload,
  cs,
  record {
    line_is = its.line_is;
    payload_is = subst (λ k. payload_of k line ≡ Ok payload) (omega arith) its.payload_is;
    message = message;
    among = among;
  },
)

-- the device hears it, or not
hears_fine : (all : List (List ℕ)) (lines : ℕ) (line payload : List ℕ) (d : DeviceState) → IsLine all lines line payload
    → AreFine (Carries all) lines d → AreFine (Carries all) (lines + 1) (after_payload (lines + 1) payload d)
unfolding after_payload
hears_fine all lines line payload d its h =
    event_fine (Carries all) lines (lines + 1) d (Receives 0 0 (lines + 1) (captured payload)) (omega arith)
    (refl, carried_by all lines line payload its) h

-- ---- all lines

line_keeps : (all : List (List ℕ)) (lines : ℕ) (line : List ℕ) (d t : DeviceState) (r : Result (List ℕ) LineWhy)
    (goes_on : DeviceState → Result DeviceState LineFault → Type 0)
    → payload_of lines line ≡ r → numbered all (lines + 1) ≡ Some line → AreFine (Carries all) lines d
    → ((next : DeviceState) → AreFine (Carries all) (lines + 1) next → goes_on next (Ok t) → (last : ℕ) × AreFine (Carries all) last t)
    → BehindLine Hears lines d r goes_on (Ok t) → (last : ℕ) × AreFine (Carries all) last t
line_keeps all lines line d t (Err cause) goes_on payload_is line_is h more behind = absurd cc
line_keeps all lines line d t (Ok payload) goes_on payload_is line_is h more behind =
    let fine = hears_fine all lines line payload d (record { line_is = line_is; payload_is = payload_is }) h in
    more behind.0 (subst (AreFine (Carries all) (lines + 1)) (sym behind.1) fine) behind.2

lines_keep : (all : List (List ℕ)) (lines : ℕ) (d t : DeviceState) (rest : List (List ℕ)) → drop lines all ≡ rest
    → TakesLines payload_of Hears lines d rest (Ok t) → AreFine (Carries all) lines d
    → (last : ℕ) × AreFine (Carries all) last t
unfolding TakesLines
lines_keep all lines d t [] is taken h = let same : d ≡ t = cc in (lines, subst (AreFine (Carries all) lines) same h)
lines_keep all lines d t (line ∷ rest) is taken h =
    let next = numbered_next all lines line rest is in
    line_keeps all lines line d t (payload_of lines line) _ refl next.0 h
    (λ one fine behind. lines_keep all (lines + 1) one t rest next.1 behind fine) taken

behind_fine : (header : List ℕ) (rest : List (List ℕ)) (rows : Result ℕ LineWhy) (t : DeviceState)
    → ReachesBehind rows rest (Ok t) → (last : ℕ) × AreFine (Carries (header ∷ rest)) last t
behind_fine header rest (Err cause) t reaches = absurd cc
behind_fine header rest (Ok rows) t reaches =
    lines_keep (header ∷ rest) 1 (replay_device rows) t rest refl reaches (tt, tt, tt, tt)

pub reaches_fine : (lines : List (List ℕ)) (t : DeviceState) → Reaches lines (Ok t) → (last : ℕ) × AreFine (Carries lines) last t
unfolding TakesFile
reaches_fine [] t reaches = absurd cc
reaches_fine (header ∷ rest) t reaches = behind_fine header rest (header_rows header) t reaches
