-- The groups of a device that hears only its server are the plan's.
use Rattle.std.proofs.Common.{◌≡◌, ◌⊎◌, inl, inr, ℕ, zero, suc, ◌≤◌, Bool, true, false, cond, List, [], ◌∷◌, length, Option, None, Some, Result, Ok, Err, refl, sym, ◌∙◌, subst, arith}
use Rattle.std.specs.List.{AllByRecursion, slice_set}
use Rattle.wire_base.specs.declared.refusal.Direction.TheVariants.{Down}
use Rattle.wire_base.specs.Rows.{IsListed}
use Rattle.cast_wire.specs.declared.cmd.Cmd.{Cmd as CastCmd}
use Rattle.cast_wire.specs.declared.cmd.Cmd.TheVariants as c
use Rattle.sync_wire.specs.declared.cmd.Cmd.TheVariants as s
use Rattle.package_grammar.specs.declared.command.Command.{Command}
use Rattle.package_grammar.specs.declared.command.Command.TheVariants.{Sync, Cast}
use Rattle.package_grammar.specs.declared.downlink.Downlink.{Downlink}
use Rattle.package_grammar.specs.Grammar.{row, canonical, IsValid, SpellsTo, IsReading}
use Rattle.package_grammar.specs.Reading.{Reading, reading_of}
use Rattle.package_grammar.proofs.Tables.{cast_port}
use Rattle.package_grammar.proofs.ReadingLaw.{reads, read_as}
use Rattle.package_grammar.proofs.Written.{message_of}
use Rattle.mc_group.specs.declared.group.Group.{Group}
use Rattle.mc_group.specs.Groups.{group_at, group_of}
use Rattle.device_core.specs.Configuration.{Configuration}
use Rattle.device_core.specs.declared.arrival.Arrival.{Arrival}
use Rattle.device_core.specs.declared.delivered.Delivered.{Delivered}
use Rattle.device_core.specs.declared.delivered.Delivered.TheVariants.{Deaf, OutboxFull, Done}
use Rattle.device_core.specs.declared.delivered.OutboxFull as outbox
use Rattle.device_core.specs.Device.{DeviceState, with_counts, after_deaf, after_full}
use Rattle.device_core.specs.Answers.{DeviceStep, no_answer, after_answers}
use Rattle.device_core.specs.Clock.{answer_step, periodicity_step, resync_step}
use Rattle.device_core.specs.ClassSessions.{class_session_step, hears}
use Rattle.device_core.specs.Groups.{groups_step, group_setup_step, group_delete_step}
use Rattle.device_core.specs.Firmware.{version_step, upgrade_step, delete_image_step, reboot_time_step, countdown_step, after_due_reboot, after_migration}
use Rattle.device_core.specs.Fragments.{setup_step, delete_step, status_step, heard_step, fragment_step}
use Rattle.device_core.specs.Step.{command_step, acts, step, after_commands}
use Rattle.device_core.specs.Deliver.{Outcome, message_delivery, read_delivery, arrival, heard_delivery, time_asking, delivery, waking}
use Rattle.campaign_server.specs.declared.plan.PlanGroup.{PlanGroup}

-- ---- a table of groups

-- the plan's group as a device holds it
abbrev pub held_group : PlanGroup → Group
held_group p = record { addr = p.addr; key = p.key; min = p.min; max = p.max }

abbrev pub IsOwn : Option PlanGroup → Group → Type 0
IsOwn None g = ⊥
IsOwn (Some p) g = g ≡ held_group p

-- there is no group but the plan's
abbrev pub HasOwn : Option PlanGroup → List (Option Group) → Type 0
HasOwn own table = (k : ℕ) (g : Group) → group_at table k ≡ Some g → IsOwn own g

set_cases : (table : List (Option Group)) (id k : ℕ) (x : Option Group)
    → (group_at (slice_set table id x) k ≡ x) ⊎ (group_at (slice_set table id x) k ≡ group_at table k)
set_cases [] id k x = inr refl
set_cases (y ∷ ys) zero zero x = inl refl
set_cases (y ∷ ys) zero (suc k) x = inr refl
set_cases (y ∷ ys) (suc id) zero x = inr refl
set_cases (y ∷ ys) (suc id) (suc k) x = set_cases ys id k x

set_own : (own : Option PlanGroup) (table : List (Option Group)) (id : ℕ) (x : Option Group)
    → ((g : Group) → x ≡ Some g → IsOwn own g) → HasOwn own table → HasOwn own (slice_set table id x)
set_own own table id x new h k g is = elim (set_cases table id k x) [
  | inl here ↦ new g (sym here ∙ is)
  | inr there ↦ h k g (sym there ∙ is)
]

none_own : (own : Option PlanGroup) (g : Group) → Path (Option Group) None (Some g) → IsOwn own g
none_own own g is = absurd cc

by_either : (own : Option PlanGroup) (b : Bool) (one other : DeviceStep) → HasOwn own one.device.groups
    → HasOwn own other.device.groups → HasOwn own (cond {A = DeviceStep} b one other).device.groups
by_either own true one other k l = k
by_either own false one other k l = l

device_either : (own : Option PlanGroup) (b : Bool) (one other : DeviceState) → HasOwn own one.groups
    → HasOwn own other.groups → HasOwn own (cond {A = DeviceState} b one other).groups
device_either own true one other k l = k
device_either own false one other k l = l

-- ---- commands

-- any command but a setup of another group
abbrev pub IsMild : Option PlanGroup → Configuration → Command → Type 0
IsMild own config (Cast (c.McGroupSetupReq id addr key min max)) = IsOwn own (group_of config.key config.root addr key min max)
IsMild own config x = Unit {0}

setup_mild : (own : Option PlanGroup) (at : Arrival) (m : DeviceState) (id : ℕ) (group : Group) → IsOwn own group
    → HasOwn own m.groups → HasOwn own (group_setup_step at m id group).device.groups
unfolding group_setup_step
setup_mild own at m id group is h =
    by_either own _ _ _ h
    (set_own own m.groups id (Some group) (λ g same. let here : group ≡ g = cc in subst (IsOwn own) here is) h)

delete_mild : (own : Option PlanGroup) (at : Arrival) (m : DeviceState) (id : ℕ) → HasOwn own m.groups
    → HasOwn own (group_delete_step at m id).device.groups
unfolding group_delete_step
delete_mild own at m id h = by_either own _ _ _ h (set_own own m.groups id None (none_own own) h)

command_mild : (own : Option PlanGroup) (at : Arrival) (m : DeviceState) (x : Command) → IsMild own m.config x → HasOwn own m.groups
    → HasOwn own (command_step at m x).device.groups
unfolding command_step answer_step periodicity_step resync_step status_step groups_step class_session_step version_step
    upgrade_step delete_image_step reboot_time_step countdown_step setup_step delete_step fragment_step heard_step
command_mild own at m (Cast (c.McGroupSetupReq id addr key min max)) mild h =
    setup_mild own at m id (group_of m.config.key m.config.root addr key min max) mild h
command_mild own at m (Cast (c.McGroupDeleteReq id)) mild h = delete_mild own at m id h
command_mild own at m (Cast (c.FragSessionSetupReq index mask nb_frag frag_size algo delay padding descriptor)) mild h = h
command_mild own at m (Cast (c.FragSessionDeleteReq index)) mild h = h
command_mild own at m (Cast (c.DataFragment index n part)) mild h = device_either own _ _ _ h h
command_mild own at m (Sync s.DevVersionReq) mild h = h
command_mild own at m x mild h = h

step_mild : (own : Option PlanGroup) (at : Arrival) (m : DeviceState) (x : Command) → IsMild own m.config x → HasOwn own m.groups
    → HasOwn own (after_answers (step at m x)).groups
unfolding after_answers step
step_mild own at m x mild h = by_either own (acts at.via x) (command_step at m x) (no_answer m) (command_mild own at m x mild h) h

-- a command that sets up no group at all
abbrev pub IsNoSetup : Command → Type 0
IsNoSetup (Cast (c.McGroupSetupReq id addr key min max)) = ⊥
IsNoSetup x = Unit {0}

no_setup_mild : (own : Option PlanGroup) (config : Configuration) (x : Command) → IsNoSetup x → IsMild own config x
no_setup_mild own config (Cast (c.McGroupSetupReq id addr key min max)) none = absurd none
no_setup_mild own config x none = tt

commands_own : (own : Option PlanGroup) (at : Arrival) (xs : List Command) (m : DeviceState) → AllByRecursion IsNoSetup xs
    → HasOwn own m.groups → HasOwn own (after_commands at m xs).groups
unfolding after_commands
commands_own own at [] m all h = h
commands_own own at (x ∷ xs) m all h =
    commands_own own at xs (after_answers (step at m x)) all.1 (step_mild own at m x (no_setup_mild own m.config x all.0) h)

-- ---- payloads

room_own : (own : Option PlanGroup) (m e : DeviceState) (n : ℕ) (b : Bool) → HasOwn own m.groups → HasOwn own e.groups
    → HasOwn own (cond {A = Outcome Delivered} b (record { device = with_counts after_full m; answer = OutboxFull n })
    (record { device = e; answer = Done })).device.groups
room_own own m e n true k l = k
room_own own m e n false k l = l

-- what is read of a payload
abbrev pub IsMildReading : Option PlanGroup → Configuration → Reading → Type 0
IsMildReading own config (Ok []) = Unit {0}
IsMildReading own config (Ok (x ∷ [])) = IsMild own config x
IsMildReading own config (Ok xs) = AllByRecursion IsNoSetup xs
IsMildReading own config (Err refusal) = Unit {0}

read_own : (own : Option PlanGroup) (at : Arrival) (m : DeviceState) (r : Reading) → IsMildReading own m.config r
    → HasOwn own m.groups → HasOwn own (read_delivery at m r).device.groups
unfolding read_delivery message_delivery after_commands
read_own own at m (Ok []) mild h = room_own own m _ _ _ h h
read_own own at m (Ok (x ∷ [])) mild h = room_own own m _ _ _ h (step_mild own at m x mild h)
read_own own at m (Ok (x ∷ y ∷ xs)) mild h = room_own own m _ _ _ h (commands_own own at (x ∷ y ∷ xs) m mild h)
read_own own at m (Err refusal) mild h = h

heard_either : (own : Option PlanGroup) (m : DeviceState) (b : Bool) (o : Outcome Delivered) → HasOwn own m.groups
    → HasOwn own o.device.groups
    → HasOwn own (cond {A = Outcome Delivered} b o (record { device = with_counts after_deaf m; answer = Deaf })).device.groups
heard_either own m true o k l = l
heard_either own m false o k l = k

pub same_by : {A : Type 0} (f : DeviceState → A) (b : Bool) (one other : DeviceState) → f one ≡ f other
    → f (cond b one other) ≡ f other
same_by f true one other same = same
same_by f false one other same = refl

-- a reboot that is due leaves groups, class session and configuration
pub reboot_groups : (t : ℕ) (d : DeviceState) → (after_due_reboot t d).groups ≡ d.groups
unfolding after_due_reboot
reboot_groups t d = same_by (λ (x : DeviceState). x.groups) _ _ d refl

reboot_config : (t : ℕ) (d : DeviceState) → (after_due_reboot t d).config ≡ d.config
unfolding after_due_reboot
reboot_config t d = same_by (λ (x : DeviceState). x.config) _ _ d refl

-- a payload of which nothing else is read
pub delivery_own : (own : Option PlanGroup) (t word mark : ℕ) (down : Downlink) (d : DeviceState)
    → IsMildReading own d.config (reading_of down.port Down down.payload) → HasOwn own d.groups
    → HasOwn own (delivery t word mark down d).device.groups
unfolding delivery heard_delivery
delivery_own own t word mark down d mild h =
    let m : DeviceState = after_due_reboot t d in
    let r : Reading = reading_of down.port Down down.payload in
    let before : HasOwn own m.groups = subst (HasOwn own) (sym (reboot_groups t d)) h in
    let read = read_own own (arrival t word mark down m) m r
    (subst (λ (x : Configuration). IsMildReading own x r) (sym (reboot_config t d)) mild) before in
    subst (HasOwn own) (sym (reboot_groups t (heard_delivery t word mark down m).device))
    (heard_either own m (hears m t down.to) (read_delivery (arrival t word mark down m) m r) before read)

-- the device wakes, or learns a format
asked_own : (own : Option PlanGroup) (m : DeviceState) (b : Bool) (one other : Outcome (Result (Unit {0}) outbox.OutboxFull))
    → HasOwn own one.device.groups → HasOwn own other.device.groups
    → HasOwn own (cond {A = Outcome (Result (Unit {0}) outbox.OutboxFull)} b one other).device.groups
asked_own own m true one other k l = k
asked_own own m false one other k l = l

pub waking_own : (own : Option PlanGroup) (t : ℕ) (d : DeviceState) → HasOwn own d.groups → HasOwn own (waking t d).device.groups
unfolding waking time_asking after_answers
waking_own own t d h =
    let m : DeviceState = after_due_reboot t d in
    let before : HasOwn own m.groups = subst (HasOwn own) (sym (reboot_groups t d)) h in
    subst (HasOwn own) (sym (reboot_groups t (time_asking t m).device)) (asked_own own m _ _ _ before before)

pub migration_own : (own : Option PlanGroup) (d : DeviceState) → HasOwn own d.groups → HasOwn own (after_migration d).groups
unfolding after_migration
migration_own own d h = h

-- ---- what is read of payloads of another port than that of groups

abbrev IsAway : ℕ → Type 0
IsAway port = (port ≡ 201) ⊎ (202 ≤ port)

away_cast : (x : CastCmd) (port : ℕ) → IsAway port → IsListed (row (Cast x)) port Down → IsNoSetup (Cast x)
away_cast (c.McGroupSetupReq id addr key min max) port (inl is) listed =
    let there : IsListed (row (Cast (c.McGroupSetupReq id addr key min max))) 201 Down =
    subst (λ (p : ℕ). IsListed (row (Cast (c.McGroupSetupReq id addr key min max))) p Down) is listed in
    absurd (omega (arith, there.port_is))
away_cast (c.McGroupSetupReq id addr key min max) port (inr high) listed =
    absurd (omega (arith, (cast_port (c.McGroupSetupReq id addr key min max) port Down listed).1, high))
away_cast x port away listed = tt

all_away : (xs : List Command) (port : ℕ) (bytes : List ℕ) (from end : ℕ) → IsAway port
    → SpellsTo xs port Down bytes from end → AllByRecursion IsNoSetup xs
all_away [] port bytes from end away all = tt
all_away (Sync x ∷ xs) port bytes from end away all = (tt, all_away xs port bytes all.0 end away all.2)
all_away (Cast x ∷ xs) port bytes from end away all =
    (away_cast x port away all.1.listed, all_away xs port bytes all.0 end away all.2)

mild_all : (own : Option PlanGroup) (config : Configuration) (xs : List Command) → AllByRecursion IsNoSetup xs
    → IsMildReading own config (Ok xs)
mild_all own config [] all = tt
mild_all own config (x ∷ []) all = no_setup_mild own config x all.0
mild_all own config (x ∷ y ∷ xs) all = all

away_by : (own : Option PlanGroup) (config : Configuration) (port : ℕ) (payload : List ℕ) (r : Reading) → IsAway port
    → IsReading port Down payload r → IsMildReading own config r
away_by own config port payload (Ok xs) away message =
    mild_all own config xs (all_away xs port payload 0 (length payload) away message.all)
away_by own config port payload (Err refusal) away stop = tt

pub away_mild : (own : Option PlanGroup) (config : Configuration) (port : ℕ) (payload : List ℕ) → IsAway port
    → IsMildReading own config (reading_of port Down payload)
away_mild own config port payload away = away_by own config port payload (reading_of port Down payload) away (reads port Down payload)

-- ---- and of a single command on the port of groups

pub single_mild : (own : Option PlanGroup) (config : Configuration) (x : Command) → IsValid x → IsListed (row x) 200 Down
    → IsMild own config x → IsMildReading own config (reading_of 200 Down (canonical x))
single_mild own config x valid listed mild =
    subst (IsMildReading own config) (sym (read_as 200 Down (canonical x) (Ok (x ∷ [])) (message_of x 200 Down valid listed))) mild
