-- A device that suits and answers what it is asked is updated (this project's profile).
use Rattle.std.specs.Prelude.{◌≡◌, ◌⊎◌, ℕ, zero, suc, ◌+◌, ◌^◌, ◌<◌, true, if◌then◌else◌, List, [], ◌∷◌, ◌++◌, length, All, Some, IfSome, is_some, Ok}
use Rattle.class_windows.specs.Sessions.{error_bits}
use Rattle.frag_session.specs.Setup.{setup_bits}
use Rattle.image_slots.specs.declared.view.ImageState.TheVariants.{Valid}
use Rattle.image_slots.specs.Image.{is_image, firmware_of, image_state}
use Rattle.package_grammar.specs.declared.downlink.To.TheVariants.{Unicast}
use Rattle.device_core.specs.ClassSessions.{hears}
use Rattle.device_core.specs.Configuration.{Configuration}
use Rattle.device_core.specs.Device.{DeviceState, limits_of, room_of}
use Rattle.campaign_server.specs.declared.stage.Request.{Request}
use Rattle.campaign_server.specs.declared.stage.Request.TheVariants.{Status}
use Rattle.campaign_server.specs.declared.stage.Stage.{Stage}
use Rattle.campaign_server.specs.declared.stage.Stage.TheVariants.{At, Updated}
use Rattle.campaign_server.specs.Asking.{request_rank, request_of}
use Rattle.campaign_server.specs.Plan.{Plan}
use Rattle.campaign_server.specs.Server.{ledger}
use Rattle.wire_base.specs.Numbered.{numbered}
use Rattle.script_lines.specs.declared.forms.Form.TheVariants.{Ask, Down, Up}
use Rattle.campaign_world.specs.World.{WorldState, first_world}
use Rattle.campaign_world.specs.Said.{Own, Line}
use Rattle.campaign_world.specs.Script.{read_lines, campaign_of}
use Rattle.campaign_world.specs.Honest.{AreHonest}
use Rattle.campaign_laws.specs.Fields.{AllFit}
use Rattle.campaign_laws.specs.Ledger.{Runs}
use Rattle.campaign_laws.specs.Once.{rank}
use Rattle.exchange_laws.specs.Suits.{setup_for, HasFile, stage_after_request}

-- ---- a device that suits, by its configuration alone

-- the image is for its hardware and of a format that it knows; it has the room, the coding and the descriptor for the session;
-- and the frequency and the data rate of the window are possible
pub record Fits (image : List ℕ) (plan : Plan) (config : Configuration) : Type 0 where
  pub valid : image_state image config.hw config.formats ≡ Valid (firmware_of image)
  pub takes : setup_bits (limits_of config) (room_of config) (setup_for plan image) ≡ 0
  pub window : IfSome plan.window (λ x. error_bits true x.freq x.dr ≡ 0)

-- ---- an exchange

-- the line that asks a device, the one that brings it what was then sent, and the one that brings what it then answers
abbrev pub asks : (id : ℕ) → Line
asks id = Ok (Own (Ask id))

abbrev pub brings : WorldState → (id word : ℕ) → Line
brings asked id word = Ok (Own (Down (length asked.sent + 1) id word))

abbrev pub returns : WorldState → Line
returns brought = Ok (Own (Up (length brought.uplinks + 1)))

-- in the campaign before these lines comes, at some line, a request to device id; later it reaches the device, which hears it; and
-- later again the uplink that the device then made comes to the server. Other lines may come before each of the three
pub record IsExchange (id : ℕ) (before : WorldState) (lines : List Line) (after : WorldState) (rest : List Line) : Type 0 where
  pub first : List Line
  pub second : List Line
  pub third : List Line
  pub word : ℕ
  -- the campaign before the request, before it reaches the device, and before the answer comes
  pub asked : WorldState
  pub brought : WorldState
  pub answered : WorldState
  pub lines_are : lines ≡ first ++ asks id ∷ (second ++ brings asked id word ∷ (third ++ returns brought ∷ rest))
  pub before_it : read_lines (Ok before) first ≡ Ok asked
  pub sent : read_lines (Ok asked) (asks id ∷ second) ≡ Ok brought
  pub reached : read_lines (Ok brought) (brings asked id word ∷ third) ≡ Ok answered
  pub came : read_lines (Ok answered) (returns brought ∷ []) ≡ Ok after
  pub something : is_some (request_of asked.server id) ≡ true
  pub device : DeviceState
  pub there : numbered brought.devices id ≡ Some device
  pub hears_it : hears device brought.time Unicast ≡ true
  -- where its status is asked for, it has its file whole
  pub whole : ledger asked.server id ≡ Some (At Status) → HasFile asked.server.plan.index device

-- so many exchanges one after another, as long as the device is not updated
abbrev pub HasExchanges : (id count : ℕ) → WorldState → List Line → Type 0
HasExchanges id zero before lines = Unit {0}
HasExchanges id (suc more) before lines =
    (ledger before.server id ≡ Some Updated)
    ⊎ ((after : WorldState) × (rest : List Line) × IsExchange id before lines after rest × HasExchanges id more after rest)

-- one for each request: with a group and a window eight, without them six
abbrev pub exchanges_for : Plan → ℕ
exchanges_for plan = if is_some plan.group then 8 else 6

-- ---- the laws

-- for any image and any accepted honest lines that an exchange ends: where the server asked at the stage of a request, a device
-- that suits is at a later one; and at the one that follows, where the answer found the same stage
pub record MovesOn (plan : Plan) (request : Request) (answered after : WorldState) (id : ℕ) : Type 0 where
  pub stage : Stage
  pub now : ledger after.server id ≡ Some stage
  pub later : request_rank request < rank stage
  pub follows : ledger answered.server id ≡ Some (At request) → stage ≡ stage_after_request plan request

abbrev pub ExchangesMoveOn : Type 0
ExchangesMoveOn = (image : List ℕ) (lines : List Line) (after : WorldState) (id : ℕ) (device : DeviceState) (request : Request) → All (λ b. b < 2 ^ 8) image
    → is_image image ≡ true → AllFit after.server.plan.index lines → AreHonest after.server.plan.index lines → read_lines (Ok (first_world image)) lines ≡ Ok after
    → numbered after.devices id ≡ Some device → Fits image after.server.plan device.config
    → (exchange : IsExchange id (first_world image) lines after []) → ledger exchange.asked.server id ≡ Some (At request)
    → MovesOn after.server.plan request exchange.answered after id

-- for any image and any accepted honest lines: a device that suits, and that answers as many requests as a campaign has, is
-- updated, and runs the image
abbrev pub AnswersUpdate : Type 0
AnswersUpdate = (image : List ℕ) (lines : List Line) (world : WorldState) (id : ℕ) (device : DeviceState) → All (λ b. b < 2 ^ 8) image
    → is_image image ≡ true → AllFit world.server.plan.index lines → AreHonest world.server.plan.index lines → campaign_of image lines ≡ Ok world
    → numbered world.devices id ≡ Some device → Fits image world.server.plan device.config
    → HasExchanges id (exchanges_for world.server.plan) (first_world image) lines
    → (ledger world.server id ≡ Some Updated) × Runs image world.devices id
