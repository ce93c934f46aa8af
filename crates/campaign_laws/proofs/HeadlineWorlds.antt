-- What holds of each campaign: its devices hear nothing but what the server sends.
use Rattle.std.proofs.Common.{◌≡◌, ◌⊎◌, inl, inr, ℕ, ◌+◌, ◌-◌, ◌≤◌, Bool, true, false, List, [], ◌∷◌, ◌++◌, length, Option, Some, IfSome, refl, sym, ap, ◌∙◌, subst, arith}
use Rattle.std.specs.List.{AllByRecursion, slice_set}
use Rattle.device_core.specs.Configuration.{Configuration}
use Rattle.device_core.specs.Device.{DeviceState, first_device, max_rows}
use Rattle.frag_session.specs.Session.{Session}
use Rattle.campaign_laws.proofs.OwnSession.{none_at}
use Rattle.campaign_server.specs.Server.{DownlinkCommand, downlink_of}
use Rattle.wire_base.specs.Numbered.{numbered}
use Rattle.script_lines.specs.declared.forms.DeviceLine.{DeviceLine}
use Rattle.script_lines.specs.declared.forms.Form.TheVariants.{Device, Down}
use Rattle.campaign_world.specs.declared.section.Section.{Section}
use Rattle.campaign_world.specs.declared.section.Section.TheVariants as section
use Rattle.campaign_world.specs.declared.numbered.SentPayload.{SentPayload}
use Rattle.campaign_world.specs.World.{WorldState, first_world}
use Rattle.campaign_world.specs.Said.{Said, Own}
use Rattle.campaign_world.specs.Making.{config_of, device_of}
use Rattle.campaign_server.proofs.LineItems.{some_is, if_some, none_there, numbered_push, numbered_put, numbered_there}
use Rattle.campaign_laws.proofs.HeadlineCommands.{Cut, cut_of, IsSentOf, IsCut}
use Rattle.device_core.proofs.Stays.{Stays}
use Rattle.campaign_laws.proofs.HeadlinePayloads.{Acts}
use Rattle.campaign_laws.proofs.HeadlineEnds.{IsSetFor, HasRows, IsBounded, IsDeviceFor, stays_for, acts_keep, IsServerOf}

-- ---- a campaign

-- a payload is a command of the server
abbrev pub IsPayloadOf : List ℕ → Cut → SentPayload → Type 0
IsPayloadOf image cut p = (down : DownlinkCommand) × IsSentOf image cut down × (p.down ≡ downlink_of down)

-- until the group is known nothing is sent and there is no device; after the image's line the image is cut
abbrev pub StandsIn : List ℕ → WorldState → Section → Type 0
StandsIn image w section.Header = (w.sent ≡ []) × (w.devices ≡ [])
StandsIn image w section.Image = (w.sent ≡ []) × (w.devices ≡ [])
StandsIn image w section.Group = (w.sent ≡ []) × (w.devices ≡ []) × IsCut image (cut_of w.server.plan)
StandsIn image w section.Window = IsCut image (cut_of w.server.plan)
StandsIn image w section.Device = IsCut image (cut_of w.server.plan)
StandsIn image w section.Devices = IsCut image (cut_of w.server.plan)
StandsIn image w section.Events = IsCut image (cut_of w.server.plan)
StandsIn image w section.Ended = IsCut image (cut_of w.server.plan)

-- a device, if there is one with that number, is one of the campaign
abbrev pub DevicesAre : List ℕ → Cut → List DeviceState → Type 0
DevicesAre image cut ds = (id : ℕ) → IfSome (numbered ds id) (IsDeviceFor image cut)

-- what holds after each line
pub record Keeps (image : List ℕ) (w : WorldState) : Type 0 where
  pub server : IsServerOf image w.server
  pub stands : StandsIn image w w.section
  pub sent : AllByRecursion (IsPayloadOf image (cut_of w.server.plan)) w.sent
  pub devices : DevicesAre image (cut_of w.server.plan) w.devices

nobody : (image : List ℕ) (cut : Cut) (ds : List DeviceState) → ds ≡ [] → DevicesAre image cut ds
nobody image cut ds none =
    λ id. subst (λ (o : Option DeviceState). IfSome o (IsDeviceFor image cut)) (sym (none_there ds id none)) tt

pub first_keeps : (image : List ℕ) → Keeps image (first_world image)
first_keeps image = record {
  server = record { image_is = refl; next = omega arith; few = omega arith; indexed = omega arith; masked = omega arith };
  stands = (refl, refl);
  sent = tt;
  devices = nobody image _ [] refl;
}

-- ---- what a line makes of it

-- a payload reaches a device
abbrev pub is_down : Said → Bool
is_down (Own (Down number device word)) = true
is_down said = false

-- a device whose session stays
pub record HasStayed (old new : Option DeviceState) : Type 0 where
  pub d : DeviceState
  pub e : DeviceState
  pub was : old ≡ Some d
  pub is : new ≡ Some e
  pub moves : Stays d e
  pub empty : e.outbox ≡ []

-- nothing reaches a device, and some payloads may be sent
pub record IsQuiet (image : List ℕ) (said : Said) (w v : WorldState) : Type 0 where
  pub other : is_down said ≡ false
  pub cut : cut_of v.server.plan ≡ cut_of w.server.plan
  pub devices : (id : ℕ) → (numbered v.devices id ≡ numbered w.devices id) ⊎ HasStayed (numbered w.devices id) (numbered v.devices id)
  pub more : List SentPayload
  pub sent : v.sent ≡ w.sent ++ more
  pub fine : AllByRecursion (IsPayloadOf image (cut_of w.server.plan)) more

-- the image is cut or the group is known, before anything is sent
pub record IsBegun (said : Said) (w v : WorldState) : Type 0 where
  pub other : is_down said ≡ false
  pub before : w.devices ≡ []
  pub devices : v.devices ≡ []
  pub none : w.sent ≡ []
  pub sent : v.sent ≡ []

-- one device more is there
pub record IsJoined (said : Said) (w v : WorldState) : Type 0 where
  pub other : is_down said ≡ false
  pub cut : cut_of v.server.plan ≡ cut_of w.server.plan
  pub dev : DeviceLine
  pub said_is : said ≡ Own (Device (record dev { id = length w.devices + 1 }))
  pub few : dev.rows ≤ max_rows
  pub devices : v.devices ≡ w.devices ++ device_of dev ∷ []
  pub sent : v.sent ≡ w.sent

-- a payload reaches a device
pub record IsReached (image : List ℕ) (said : Said) (w v : WorldState) : Type 0 where
  pub number : ℕ
  pub id : ℕ
  pub word : ℕ
  pub said_is : said ≡ Own (Down number id word)
  pub first : 1 ≤ id
  pub cut : cut_of v.server.plan ≡ cut_of w.server.plan
  pub old : DeviceState
  pub new : DeviceState
  pub before : numbered w.devices id ≡ Some old
  pub devices : v.devices ≡ slice_set w.devices (id - 1) new
  pub payload : SentPayload
  pub got : numbered w.sent number ≡ Some payload
  pub down : DownlinkCommand
  pub is_sent : IsSentOf image (cut_of w.server.plan) down
  pub down_is : payload.down ≡ downlink_of down
  pub acts : Acts image (cut_of w.server.plan) w.time (w.lines + 1) old new down
  pub empty : new.outbox ≡ []
  pub sent : v.sent ≡ w.sent
  pub is_cut : IsCut image (cut_of w.server.plan)

pub record Turns (image : List ℕ) (said : Said) (w v : WorldState) : Type 0 where
  pub lines : v.lines ≡ w.lines
  pub server : IsServerOf image v.server
  pub stands : StandsIn image v v.section
  pub how : IsQuiet image said w v ⊎ (IsBegun said w v ⊎ (IsJoined said w v ⊎ IsReached image said w v))

-- ---- and it holds after each line

all_more : {X : Type 0} (P : X → Type 0) (xs ys : List X) → AllByRecursion P xs → AllByRecursion P ys
    → AllByRecursion P (xs ++ ys)
all_more P [] ys a b = b
all_more P (x ∷ xs) ys a b = (a.0, all_more P xs ys a.1 b)

quiet_devices : (image : List ℕ) (cut : Cut) (old new : Option DeviceState) → IfSome old (IsDeviceFor image cut)
    → (new ≡ old) ⊎ HasStayed old new → IfSome new (IsDeviceFor image cut)
quiet_devices image cut old new k (inl same) = subst (λ (o : Option DeviceState). IfSome o (IsDeviceFor image cut)) (sym same) k
quiet_devices image cut old new k (inr s) =
    some_is (IsDeviceFor image cut) new s.e s.is
    (stays_for image cut s.d s.e (if_some (IsDeviceFor image cut) old s.d s.was k) s.moves s.empty)

joined_devices : (image : List ℕ) (cut : Cut) (ds : List DeviceState) (config : Configuration) → IsBounded config
    → DevicesAre image cut ds → DevicesAre image cut (ds ++ first_device config ∷ [])
joined_devices image cut ds config bounds k id = elim (numbered_push ds (first_device config) id) [
  | inl same ↦ subst (λ (o : Option DeviceState). IfSome o (IsDeviceFor image cut)) (sym same) (k id)
  | inr new ↦ some_is (IsDeviceFor image cut) _ (first_device config) new.1 (record {
    empty = refl;
    session = subst (λ (o : Option Session). IfSome o (IsSetFor image cut)) (sym (none_at cut.index)) tt;
    rows = subst (λ (o : Option Session). IfSome o (HasRows image cut config)) (sym (none_at cut.index)) tt;
    alone = λ i low other. none_at i;
    bounds = bounds;
  })
]

reached_devices : (image : List ℕ) (cut : Cut) (ds : List DeviceState) (n : ℕ) (old new : DeviceState) → 1 ≤ n
    → numbered ds n ≡ Some old → IsDeviceFor image cut new → DevicesAre image cut ds
    → DevicesAre image cut (slice_set ds (n - 1) new)
reached_devices image cut ds n old new first before its k id = elim (numbered_put ds n id new first) [
  | inl same ↦ some_is (IsDeviceFor image cut) _ new
      (ap (λ (x : ℕ). numbered (slice_set ds (n - 1) new) x) same ∙ numbered_there ds n old new before) its
  | inr other ↦ subst (λ (o : Option DeviceState). IfSome o (IsDeviceFor image cut)) (sym other) (k id)
]

same_sent : (image : List ℕ) (w v : WorldState) → cut_of v.server.plan ≡ cut_of w.server.plan → v.sent ≡ w.sent
    → AllByRecursion (IsPayloadOf image (cut_of w.server.plan)) w.sent
    → AllByRecursion (IsPayloadOf image (cut_of v.server.plan)) v.sent
same_sent image w v cut sent k =
    subst (λ (x : Cut). AllByRecursion (IsPayloadOf image x) v.sent) (sym cut)
    (subst (AllByRecursion (IsPayloadOf image (cut_of w.server.plan))) (sym sent) k)

pub turn_keeps : (image : List ℕ) (said : Said) (w v : WorldState) → Keeps image w → Turns image said w v
    → Keeps image v
turn_keeps image said w v k turn = elim turn.how [
  | inl q ↦ record {
    server = turn.server;
    stands = turn.stands;
    sent = subst (λ (x : Cut). AllByRecursion (IsPayloadOf image x) v.sent) (sym q.cut)
        (subst (AllByRecursion (IsPayloadOf image (cut_of w.server.plan))) (sym q.sent)
        (all_more (IsPayloadOf image (cut_of w.server.plan)) w.sent q.more k.sent q.fine));
    devices = subst (λ (x : Cut). DevicesAre image x v.devices) (sym q.cut)
        (λ id. quiet_devices image (cut_of w.server.plan) (numbered w.devices id) (numbered v.devices id) (k.devices id)
        (q.devices id));
  }
  | inr other ↦ elim other [
    | inl b ↦ record {
      server = turn.server;
      stands = turn.stands;
      sent = subst (AllByRecursion (IsPayloadOf image (cut_of v.server.plan))) (sym b.sent) tt;
      devices = nobody image _ v.devices b.devices;
    }
    | inr another ↦ elim another [
      | inl j ↦ record {
        server = turn.server;
        stands = turn.stands;
        sent = same_sent image w v j.cut j.sent k.sent;
        devices = subst (λ (x : Cut). DevicesAre image x v.devices) (sym j.cut)
            (subst (DevicesAre image (cut_of w.server.plan)) (sym j.devices)
            (joined_devices image (cut_of w.server.plan) w.devices
            (config_of j.dev)
            (record { sessions = refl; area = refl; rows = j.few; flash = refl; size = refl }) k.devices));
      }
      | inr r ↦
          let its = if_some (IsDeviceFor image (cut_of w.server.plan)) (numbered w.devices r.id) r.old r.before
          (k.devices r.id) in
          record {
            server = turn.server;
            stands = turn.stands;
            sent = same_sent image w v r.cut r.sent k.sent;
            devices = subst (λ (x : Cut). DevicesAre image x v.devices) (sym r.cut)
                (subst (DevicesAre image (cut_of w.server.plan)) (sym r.devices)
                (reached_devices image (cut_of w.server.plan) w.devices r.id r.old r.new r.first r.before
                (acts_keep image (cut_of w.server.plan) w.time (w.lines + 1) r.old r.new r.down r.is_cut its r.acts r.empty)
                k.devices));
          }
    ]
  ]
]
