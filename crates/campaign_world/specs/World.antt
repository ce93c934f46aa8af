-- A campaign as its script describes it (this project's profile): what it is at a moment, and at its start.
use Rattle.std.specs.Prelude.{ℕ, List, [], None}
use Rattle.device_core.specs.Device.{DeviceState}
use Rattle.campaign_world.specs.declared.numbered.SentPayload.{SentPayload}
use Rattle.campaign_world.specs.declared.numbered.NumberedUplink.{NumberedUplink}
use Rattle.campaign_server.specs.Plan.{Plan}
use Rattle.campaign_server.specs.Server.{ServerState, first_server}
use Rattle.campaign_world.specs.declared.section.Section.{Section}
use Rattle.campaign_world.specs.declared.section.Section.TheVariants as section

-- how many lines there were; what may come next; the time in ms; both ends, and which devices have a flash, by their IDs; the
-- payloads and uplinks, numbered from 1.
-- Until the first event the server is the first one of the plan so far
pub record WorldState : Type 0 where
  pub lines : ℕ
  pub section : Section
  pub time : ℕ
  pub server : ServerState
  pub devices : List DeviceState
  pub flash : List ℕ
  pub sent : List SentPayload
  pub uplinks : List NumberedUplink

-- nothing is planned
abbrev pub first_plan : Plan
first_plan = record { frag_size = 0; parity = 0; index = 0; group = None; window = None; devices = [] }

-- before any line
abbrev pub first_world : (image : List ℕ) → WorldState
first_world image = record {
  lines = 0;
  section = section.Header;
  time = 0;
  server = first_server image first_plan;
  devices = [];
  flash = [];
  sent = [];
  uplinks = [];
}
