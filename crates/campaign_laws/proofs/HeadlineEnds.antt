-- What both ends of a campaign keep: a device has no session but the server's, and the server sends the image.
use Rattle.std.proofs.Common.{◌≡◌, inl, inr, ℕ, ◌+◌, ◌≤◌, Bool, true, false, cond, nat_lt, List, [], ◌∷◌, length, Option, None, Some, IfSome, is_ok, is_some, Result, Ok, Err, refl, sym, ap, ◌∙◌, subst, arith, ◌/◌, ltb-false, All, ◌⊎◌, ◌<◌, ◌^◌}
use Rattle.std.specs.Result.{result_ok}
use Rattle.std.specs.List.{AllByRecursion}
use Rattle.std.proofs.lemmas.Option.{IfSome_then}
use Rattle.frag_session.specs.declared.setups.Limits.{Limits}
use Rattle.frag_session.specs.declared.answers.Via.{Via}
use Rattle.frag_session.specs.Setup.{Room, rows_of}
use Rattle.frag_session.specs.Session.{Session, new_session, after_setup, followed, after_fragment, shape_of}
use Rattle.frag_session.specs.HeldHistory.{IsSetUp}
use Rattle.frag_encoder.specs.Encoding.{nb_frag_of, data_of, padding_of}
use Rattle.cast_wire.specs.declared.cmd.Cmd.TheVariants.{FragSessionStatusReq}
use Rattle.sync_wire.specs.declared.cmd.Cmd.TheVariants.{AppTimeReq, AppTimeAns, DevVersionReq}
use Rattle.clock_sync.specs.Clock.{correction_of, is_answer_needed}
use Rattle.package_grammar.specs.declared.command.Command.{Command}
use Rattle.package_grammar.specs.declared.command.Command.TheVariants.{Sync, Cast}
use Rattle.package_grammar.specs.declared.downlink.To.TheVariants.{Unicast}
use Rattle.device_core.specs.Configuration.{Configuration}
use Rattle.device_core.specs.SessionTable.{SessionTable, session_at}
use Rattle.device_core.specs.Device.{DeviceState, limits_of, max_area, max_rows, size_for}
use Rattle.campaign_server.specs.declared.plan.Kind.{Kind}
use Rattle.campaign_server.specs.declared.plan.Kind.TheVariants as kind
use Rattle.campaign_server.specs.declared.plan.PlanGroup.{PlanGroup}
use Rattle.campaign_server.specs.declared.plan.PlanWindow.{PlanWindow}
use Rattle.campaign_server.specs.declared.plan.PlanDevice.{PlanDevice}
use Rattle.campaign_server.specs.declared.stage.Stage.{Stage}
use Rattle.campaign_server.specs.declared.stage.Stage.TheVariants.{At, Updated, Refused}
use Rattle.campaign_server.specs.declared.stage.Request.TheVariants as request
use Rattle.campaign_server.specs.declared.fragments.Spent.{Spent}
use Rattle.campaign_server.specs.declared.fragments.Spent.TheVariants.{Fragments, Counts}
use Rattle.campaign_server.specs.Plan.{Plan, own_id}
use Rattle.campaign_server.specs.Server.{ServerState, DownlinkCommand, port_of, ledger}
use Rattle.wire_base.specs.Numbered.{numbered}
use Rattle.campaign_world.specs.Making.{span_of}
use Rattle.campaign_server.specs.Asking.{mask_of, window_request_of, window_request, group_request, cast_of, request_at, command_for, by_unicast, request_of}
use Rattle.campaign_server.specs.Fragments.{receivers, has_no_count, after_count, next_fragment, after_fragment as server_after_fragment, status_to_all, after_status_to_all}
use Rattle.campaign_server.specs.Time.{time_answer_to, first_answer, time_answer}
use Rattle.campaign_server.specs.Uplinks.{with_answers}
use Rattle.device_core.proofs.SessionSteps.{setup_keeps, fragment_keeps}
use Rattle.campaign_laws.proofs.HeadlineCommands.{Cut, cut_of, setup_req, fragment_command, IsNumber, IsSentOf, IsCut}
use Rattle.campaign_laws.proofs.OwnSession.{at_own, at_other}
use Rattle.device_core.proofs.Stays.{Moves, Stays}
use Rattle.campaign_laws.proofs.HeadlinePayloads.{Acts}
use Rattle.campaign_laws.specs.Headline.{HasNoOther, IsFragmentOf}
use Rattle.campaign_laws.proofs.HeadlineImage.{IsShapeFor}
use Rattle.frag_session.specs.declared.setups.SetupReq.{SetupReq}

-- ---- a session

-- a session that the server set up, and its fragments
pub record IsSetFor (image : List ℕ) (cut : Cut) (s : Session) : Type 0 where
  pub setup : s.setup ≡ setup_req image cut
  pub makes : IsSetUp (setup_req image cut)
  pub heard : AllByRecursion (IsFragmentOf image cut.size) s.heard

-- the session's shape is the image's
pub shape_for : (image : List ℕ) (whole : Cut) (s : Session) → All (λ b. b < 2 ^ 8) image → IsSetFor image whole s
    → IsShapeFor image (shape_of s) s.setup.padding × ((shape_of s).frag_size ≡ whole.size)
unfolding shape_of
shape_for image whole s bytes k =
    let size : ℕ = whole.size in
    let cut : s.setup.frag_size ≡ size = ap (λ (r : SetupReq). r.frag_size) k.setup in
    let count : s.setup.nb_frag ≡ nb_frag_of (length image) size = ap (λ (r : SetupReq). r.nb_frag) k.setup in
    let pad : s.setup.padding ≡ padding_of (length image) size = ap (λ (r : SetupReq). r.padding) k.setup in (
      record {
        count = count ∙ ap (nb_frag_of (length image)) (sym cut);
        padded = pad ∙ ap (padding_of (length image)) (sym cut);
        makes = record {
          some = subst (λ (n : ℕ). 0 < n) (sym count) k.makes.some;
          short = subst (λ (n : ℕ). s.setup.padding < n) (sym cut)
              (subst (λ (n : ℕ). n < size) (sym pad) k.makes.short);
        };
        bytes = bytes;
      },
      cut,
    )

fresh : (image : List ℕ) (cut : Cut) (limits : Limits) → IsSetUp (setup_req image cut)
    → IsSetFor image cut (new_session limits (setup_req image cut))
unfolding new_session
fresh image cut limits makes = record { setup = refl; makes = makes; heard = tt }

setup_set : (image : List ℕ) (cut : Cut) (limits : Limits) (here : Room) (s : Option Session)
    → IfSome s (IsSetFor image cut)
    → IfSome (after_setup limits here s (setup_req image cut)) (IsSetFor image cut)
setup_set image cut limits here s k =
    setup_keeps (IsSetFor image cut) limits here s (setup_req image cut) (λ makes. fresh image cut limits makes) k

followed_set : (image : List ℕ) (cut : Cut) (n : ℕ) (part : List ℕ) (mark : ℕ)
    → IsFragmentOf image cut.size (record { number = n; part = part; mark = mark })
    → (s : Session) → IsSetFor image cut s → IsSetFor image cut (followed s n part mark)
unfolding followed
followed_set image cut n part mark f s k = record { setup = k.setup; makes = k.makes; heard = (f, k.heard) }

pub fragment_set : (image : List ℕ) (cut : Cut) (s : Option Session) (way : Via) (n : ℕ) (part : List ℕ) (mark : ℕ)
    → IsFragmentOf image cut.size (record { number = n; part = part; mark = mark })
    → IfSome s (IsSetFor image cut) → IfSome (after_fragment s way n part mark) (IsSetFor image cut)
fragment_set image cut s way n part mark f k =
    fragment_keeps (IsSetFor image cut) s way n part mark (followed_set image cut n part mark f) k

-- ---- a device

-- what the lines of devices allow
pub record IsBounded (config : Configuration) : Type 0 where
  pub sessions : config.sessions ≡ 4
  pub area : config.area ≡ max_area
  pub rows : config.rows ≤ max_rows
  pub flash : config.span ≡ span_of config.held
  pub size : config.size ≡ size_for config.rows

-- the session has the rows that the device keeps, or a row a piece
abbrev pub HasRows : List ℕ → Cut → Configuration → Session → Type 0
HasRows image cut config s = s.rows ≡ rows_of config.rows (setup_req image cut)

-- it holds no uplink, and its session, if it has one, is the server's
pub record IsDeviceFor (image : List ℕ) (cut : Cut) (d : DeviceState) : Type 0 where
  pub empty : d.outbox ≡ []
  pub session : IfSome (session_at d.sessions cut.index) (IsSetFor image cut)
  pub rows : IfSome (session_at d.sessions cut.index) (HasRows image cut d.config)
  pub alone : HasNoOther cut.index d.sessions
  pub bounds : IsBounded d.config

setup_rows : (image : List ℕ) (cut : Cut) (config : Configuration) (here : Room) (s : Option Session)
    → IfSome s (HasRows image cut config)
    → IfSome (after_setup (limits_of config) here s (setup_req image cut)) (HasRows image cut config)
unfolding new_session
setup_rows image cut config here s k =
    setup_keeps (HasRows image cut config) (limits_of config) here s (setup_req image cut) (λ makes. refl) k

fragment_rows : (image : List ℕ) (cut : Cut) (config : Configuration) (s : Option Session) (way : Via) (n : ℕ)
    (part : List ℕ) (mark : ℕ) → IfSome s (HasRows image cut config)
    → IfSome (after_fragment s way n part mark) (HasRows image cut config)
unfolding followed
fragment_rows image cut config s way n part mark k =
    fragment_keeps (HasRows image cut config) s way n part mark (λ x r. r) k

moved : (image : List ℕ) (cut : Cut) (F : Configuration → Option Session → Option Session) (d e : DeviceState) → IsCut image cut
    → IsDeviceFor image cut d → Moves cut.index F d e → e.outbox ≡ []
    → IfSome (F d.config (session_at d.sessions cut.index)) (IsSetFor image cut)
    → IfSome (F d.config (session_at d.sessions cut.index)) (HasRows image cut d.config) → IsDeviceFor image cut e
moved image cut F d e is k m empty session rows =
    let new : Option Session = F d.config (session_at d.sessions cut.index) in
    let own : session_at e.sessions cut.index ≡ new =
    ap (λ (t : SessionTable). session_at t cut.index) m.sessions ∙ at_own d.sessions cut.index new in
    record {
      empty = empty;
      session = subst (λ (o : Option Session). IfSome o (IsSetFor image cut)) (sym own) session;
      rows = subst (λ (x : Configuration). IfSome (session_at e.sessions cut.index) (HasRows image cut x)) (sym m.config)
          (subst (λ (o : Option Session). IfSome o (HasRows image cut d.config)) (sym own) rows);
      bounds = subst IsBounded (sym m.config) k.bounds;
      alone = λ i low other. ap (λ (t : SessionTable). session_at t i) m.sessions
          ∙ at_other d.sessions cut.index i new (omega (arith, is.indexed)) low other ∙ k.alone i low other;
    }

pub stays_for : (image : List ℕ) (cut : Cut) (d e : DeviceState) → IsDeviceFor image cut d → Stays d e
    → e.outbox ≡ [] → IsDeviceFor image cut e
stays_for image cut d e k m empty = record {
  empty = empty;
  session = subst (λ (t : SessionTable). IfSome (session_at t cut.index) (IsSetFor image cut)) (sym m.sessions) k.session;
  rows = subst (λ (x : Configuration). IfSome (session_at e.sessions cut.index) (HasRows image cut x)) (sym m.config)
      (subst (λ (t : SessionTable). IfSome (session_at t cut.index) (HasRows image cut d.config)) (sym m.sessions) k.rows);
  bounds = subst IsBounded (sym m.config) k.bounds;
  alone = λ i low other. ap (λ (t : SessionTable). session_at t i) m.sessions ∙ k.alone i low other;
}

pub acts_keep : (image : List ℕ) (cut : Cut) (t mark : ℕ) (d e : DeviceState) (down : DownlinkCommand) → IsCut image cut
    → IsDeviceFor image cut d → Acts image cut t mark d e down → e.outbox ≡ [] → IsDeviceFor image cut e
acts_keep image cut t mark d e down is k (inl deaf) empty = stays_for image cut d e k deaf.1 empty
acts_keep image cut t mark d e down is k (inr (on, inl a)) empty =
    moved image cut _ d e is k a.2 empty (setup_set image cut _ _ (session_at d.sessions cut.index) k.session)
    (setup_rows image cut d.config _ (session_at d.sessions cut.index) k.rows)
acts_keep image cut t mark d e down is k (inr (on, inr (inl a))) empty =
    moved image cut _ d e is k a.3 empty
    (fragment_set image cut (session_at d.sessions cut.index) _ a.0 (data_of image cut.size a.0) mark
    (record { first = a.1.0; last = a.1.1; part = refl }) k.session)
    (fragment_rows image cut d.config (session_at d.sessions cut.index) _ a.0 (data_of image cut.size a.0) mark k.rows)
acts_keep image cut t mark d e down is k (inr (on, inr (inr a))) empty = stays_for image cut d e k a.1 empty

-- whatever is sent, the configuration stays
pub acts_config : (image : List ℕ) (cut : Cut) (t mark : ℕ) (d e : DeviceState) (down : DownlinkCommand)
    → Acts image cut t mark d e down → e.config ≡ d.config
acts_config image cut t mark d e down (inl deaf) = deaf.1.config
acts_config image cut t mark d e down (inr (on, inl a)) = a.2.config
acts_config image cut t mark d e down (inr (on, inr (inl a))) = a.3.config
acts_config image cut t mark d e down (inr (on, inr (inr a))) = a.1.config

-- ---- a server

-- the server sends the image
pub record IsServerOf (image : List ℕ) (s : ServerState) : Type 0 where
  pub image_is : s.image ≡ image
  pub next : 1 ≤ s.next
  pub few : s.plan.parity ≤ 512
  pub indexed : s.plan.index ≤ 3
  pub masked : mask_of s.plan.group ≤ 8

abbrev pub IsDown : List ℕ → Cut → DownlinkCommand → Type 0
IsDown image cut down = IsSentOf image cut down

-- a command to one device, by unicast
abbrev IsAsked : List ℕ → Cut → Command → Type 0
IsAsked image cut x = IsSentOf image cut (record { to = Unicast; command = x })

group_sent : (image : List ℕ) (cut : Cut) (device : PlanDevice) (group : Option PlanGroup)
    → IfSome (cast_of (λ g. group_request device g) group) (IsAsked image cut)
group_sent image cut device None = tt
group_sent image cut device (Some group) = inr (inr (inr (inl refl)))

window_port : (id : ℕ) (window : PlanWindow) (k : Kind) → port_of (Cast (window_request_of id window k)) ≡ 200
window_port id window kind.C = refl
window_port id window (kind.B periodicity) = refl

window_sent : (image : List ℕ) (cut : Cut) (id : ℕ) (window : Option PlanWindow)
    → IfSome (cast_of (λ w. window_request id w) window) (IsAsked image cut)
window_sent image cut id None = tt
window_sent image cut id (Some window) = inr (inr (inr (inl (window_port id window window.kind))))

request_sent : (plan : Plan) (image : List ℕ) (device : PlanDevice) (stage : Stage)
    → IfSome (request_at plan image device stage) (IsAsked image (cut_of plan))
unfolding request_at
request_sent plan image device (At request.Version) = inr (inr (inr (inr (DevVersionReq, refl))))
request_sent plan image device (At request.Group) = group_sent image (cut_of plan) device plan.group
request_sent plan image device (At request.Fragments) = inl (refl, refl)
request_sent plan image device (At request.Window) = window_sent image (cut_of plan) (own_id plan.group) plan.window
request_sent plan image device (At request.Status) = inr (inr (inl (true, refl)))
request_sent plan image device (At request.Image) = inr (inr (inr (inr (_, refl))))
request_sent plan image device (At request.Reboot) = inr (inr (inr (inr (_, refl))))
request_sent plan image device (At request.Check) = inr (inr (inr (inr (_, refl))))
request_sent plan image device Updated = tt
request_sent plan image device (Refused request bits) = tt

pub down_of : (image : List ℕ) (cut : Cut) (x : Option Command) → IfSome x (IsAsked image cut)
    → IfSome (by_unicast x) (IsDown image cut)
down_of image cut None k = tt
down_of image cut (Some x) k = k

command_sent : (plan : Plan) (image : List ℕ) (device : Option PlanDevice) (stage : Option Stage)
    → IfSome (command_for plan image device stage) (IsAsked image (cut_of plan))
command_sent plan image (Some device) (Some stage) = request_sent plan image device stage
command_sent plan image (Some device) None = tt
command_sent plan image None (Some stage) = tt
command_sent plan image None None = tt

pub ask_sent : (image : List ℕ) (s : ServerState) (dev : ℕ) → IsServerOf image s
    → IfSome (request_of s dev) (IsDown image (cut_of s.plan))
unfolding request_of
ask_sent image s dev k =
    subst (λ (i : List ℕ). IfSome (request_of s dev) (IsDown i (cut_of s.plan))) k.image_is
    (down_of s.image (cut_of s.plan) _ (command_sent s.plan s.image (numbered s.plan.devices dev) (ledger s dev)))

-- what goes to all is of a kind P where the next fragment is, and nothing is sent where none is left or no count
counted_by : (P : DownlinkCommand → Type 0) (b : Bool) (down : DownlinkCommand) → P down
    → IfSome (result_ok (cond {A = Result DownlinkCommand Spent} b (Err Counts) (Ok down))) P
counted_by P true down k = tt
counted_by P false down k = k

next_by : (P : DownlinkCommand → Type 0) (image : List ℕ) (cut : Cut) (parity next count : ℕ) (group : Option PlanGroup) (b : Bool)
    → nat_lt (nb_frag_of (length image) cut.size + parity) next ≡ b → 1 ≤ next → parity ≤ 512
    → (IsNumber image cut.size next → P (record { to = receivers group count; command = fragment_command image cut next }))
    → IfSome (result_ok (cond {A = Result DownlinkCommand Spent} b (Err Fragments)
    (cond {A = Result DownlinkCommand Spent} (has_no_count group count) (Err Counts)
    (Ok (record { to = receivers group count; command = fragment_command image cut next }))))) P
next_by P image cut parity next count group true is from few one = tt
next_by P image cut parity next count group false is from few one =
    let last = ltb-false _ _ is in
    counted_by P (has_no_count group count) _ (one (from, omega (arith, last, few)))

-- what it sends to all: a fragment of its image, or a status request, of its own index
abbrev pub IsToAll : (image : List ℕ) → Cut → DownlinkCommand → Type 0
IsToAll image cut down =
    ((n : ℕ) × IsNumber image cut.size n × (down.command ≡ fragment_command image cut n))
    ⊎ ((all : Bool) × (down.command ≡ Cast (FragSessionStatusReq cut.index all)))

goes_down : (image : List ℕ) (cut : Cut) (down : DownlinkCommand) → IsToAll image cut down → IsDown image cut down
goes_down image cut down (inl fragment) = inr (inl fragment)
goes_down image cut down (inr status) = inr (inr (inl status))

pub fragment_to_all : (image : List ℕ) (s : ServerState) → IsServerOf image s
    → IfSome (result_ok (next_fragment s)) (IsToAll image (cut_of s.plan))
unfolding next_fragment
fragment_to_all image s k =
    subst (λ (i : List ℕ). IfSome (result_ok (next_fragment s)) (IsToAll i (cut_of s.plan))) k.image_is
    (next_by (IsToAll s.image (cut_of s.plan)) s.image (cut_of s.plan) s.plan.parity s.next s.count s.plan.group _ refl k.next k.few
    (λ fine. inl (s.next, fine, refl)))

pub fragment_sent : (image : List ℕ) (s : ServerState) → IsServerOf image s
    → IfSome (result_ok (next_fragment s)) (IsDown image (cut_of s.plan))
fragment_sent image s k =
    IfSome_then (result_ok (next_fragment s)) {P = IsToAll image (cut_of s.plan)} {Q = IsDown image (cut_of s.plan)}
    (fragment_to_all image s k) (goes_down image (cut_of s.plan))

all_by : (P : DownlinkCommand → Type 0) (b : Bool) (down : DownlinkCommand) → P down → IfSome (cond b None (Some down)) P
all_by P true down k = tt
all_by P false down k = k

pub status_to_each : (image : List ℕ) (s : ServerState) → IfSome (status_to_all s) (IsToAll image (cut_of s.plan))
unfolding status_to_all
status_to_each image s = all_by (IsToAll image (cut_of s.plan)) (has_no_count s.plan.group s.count) _ (inr (false, refl))

pub status_sent : (image : List ℕ) (s : ServerState) → IfSome (status_to_all s) (IsDown image (cut_of s.plan))
status_sent image s =
    IfSome_then (status_to_all s) {P = IsToAll image (cut_of s.plan)} {Q = IsDown image (cut_of s.plan)}
    (status_to_each image s) (goes_down image (cut_of s.plan))

-- the server goes on, and cuts alike
pub record GoesOn (image : List ℕ) (s new : ServerState) : Type 0 where
  pub is : IsServerOf image new
  pub plan : new.plan ≡ s.plan

moved_by : (image : List ℕ) (s : ServerState) (b : Bool) → IsServerOf image s
    → GoesOn image s (cond b (after_count (record s { next = s.next + 1 })) s)
moved_by image s true k =
    record {
      is = record { image_is = k.image_is; next = omega arith; few = k.few; indexed = k.indexed; masked = k.masked };
      plan = refl;
    }
moved_by image s false k = record { is = k; plan = refl }

counts_by : (image : List ℕ) (s : ServerState) (b : Bool) → IsServerOf image s → GoesOn image s (cond b (after_count s) s)
counts_by image s true k =
    record { is = record { image_is = k.image_is; next = k.next; few = k.few; indexed = k.indexed; masked = k.masked }; plan = refl }
counts_by image s false k = record { is = k; plan = refl }

pub status_goes : (image : List ℕ) (s : ServerState) → IsServerOf image s → GoesOn image s (after_status_to_all s)
unfolding after_status_to_all
status_goes image s k = counts_by image s (is_some (status_to_all s)) k

pub fragment_goes : (image : List ℕ) (s : ServerState) → IsServerOf image s → GoesOn image s (server_after_fragment s)
unfolding server_after_fragment
fragment_goes image s k = moved_by image s (is_ok (next_fragment s)) k

pub answers_go : (image : List ℕ) (s : ServerState) (dev : ℕ) (cs : List Command) (stage : Option Stage)
    → IsServerOf image s → GoesOn image s (with_answers s dev cs stage)
answers_go image s dev cs None k = record { is = k; plan = refl }
answers_go image s dev cs (Some stage) k =
    record {
      is = record { image_is = k.image_is; next = k.next; few = k.few; indexed = k.indexed; masked = k.masked };
      plan = refl;
    }

-- an answer with the time
time_by : (image : List ℕ) (cut : Cut) (b : Bool) (x : Command) → IsAsked image cut x
    → IfSome (cond b (Some x) None) (IsAsked image cut)
time_by image cut true x k = k
time_by image cut false x k = tt

time_sent_to : (image : List ℕ) (cut : Cut) (t : ℕ) (x : Command) → IfSome (time_answer_to t x) (IsAsked image cut)
time_sent_to image cut t (Sync (AppTimeReq time required token)) =
    time_by image cut (is_answer_needed required (correction_of (t / 1000) time)) _
    (inr (inr (inr (inr (AppTimeAns (correction_of (t / 1000) time) token, refl)))))
time_sent_to image cut t x = tt

first_sent : (image : List ℕ) (cut : Cut) (one later : Option Command) → IfSome one (IsAsked image cut)
    → IfSome later (IsAsked image cut) → IfSome (first_answer one later) (IsAsked image cut)
first_sent image cut None later k l = l
first_sent image cut (Some x) later k l = k

answers_sent : (image : List ℕ) (cut : Cut) (t : ℕ) (cs : List Command) → IfSome (time_answer t cs) (IsAsked image cut)
unfolding time_answer
answers_sent image cut t [] = tt
answers_sent image cut t (x ∷ cs) =
    first_sent image cut (time_answer_to t x) (time_answer t cs) (time_sent_to image cut t x)
    (answers_sent image cut t cs)

pub time_sent : (image : List ℕ) (cut : Cut) (t : ℕ) (cs : List Command)
    → IfSome (by_unicast (time_answer t cs)) (IsDown image cut)
time_sent image cut t cs = down_of image cut (time_answer t cs) (answers_sent image cut t cs)
