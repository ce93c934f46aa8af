-- The items whose bytes follow one another, and what keeps them so.
use Rattle.std.specs.Prelude.{ℕ, ◌+◌, ◌≤◌, List, length, slice_range}
use Rattle.std.specs.List.{AllByRecursion}
use Rattle.wire_base.specs.Payload.{max_payload}
use Rattle.campaign_world.specs.declared.logs.SentHead.{SentHead}
use Rattle.campaign_world.specs.declared.logs.MadeHead.{MadeHead}
use Rattle.campaign_world.specs.declared.numbered.SentPayload.{SentPayload}
use Rattle.campaign_world.specs.declared.numbered.NumberedUplink.{NumberedUplink}

-- the payload with this head, and so among the bytes of all
abbrev pub sent_with : SentHead → (payload : List ℕ) → SentPayload
sent_with head payload = record { receiver = head.receiver; down = record { to = head.to; port = head.port; payload = payload } }

abbrev pub sent_at : (bytes : List ℕ) → SentHead → SentPayload
sent_at bytes head = sent_with head (slice_range bytes head.at (head.at + head.len))

-- the uplink with this head
abbrev pub made_with : MadeHead → (payload : List ℕ) → NumberedUplink
made_with head payload = record { device = head.device; uplink = record { due = head.due; port = head.port; payload = payload } }

abbrev pub made_at : (bytes : List ℕ) → MadeHead → NumberedUplink
made_at bytes head = made_with head (slice_range bytes head.at (head.at + head.len))

-- so many bytes come after so many others, and are no more than a payload's
pub record Lies (bytes : List ℕ) (at len : ℕ) : Type 0 where
  pub within : at + len ≤ length bytes
  pub few : len ≤ max_payload

-- the bytes of each sent payload lie in the log
abbrev pub SentLie : (bytes : List ℕ) → List SentHead → Type 0
SentLie bytes heads = AllByRecursion (λ (head : SentHead). Lies bytes head.at head.len) heads

-- so do those of each uplink
abbrev pub MadeLie : (bytes : List ℕ) → List MadeHead → Type 0
MadeLie bytes heads = AllByRecursion (λ (head : MadeHead). Lies bytes head.at head.len) heads
