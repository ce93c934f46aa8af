-- A device that is not asked to reboot runs on, also one that runs no file.
use Rattle.std.proofs.Common.{◌≡◌, ◌⊎◌, inl, inr, ℕ, ◌+◌, ◌==◌, nat_le, nat_lt, Bool, true, false, cond, List, [], ◌∷◌, length, Option, None, Some, is_none, Result, Ok, Err, refl, sym, ap, ◌∙◌, subst, arith}
use Rattle.std.specs.List.{AllByRecursion, slice_set}
use Rattle.wire_base.specs.declared.refusal.Direction.TheVariants.{Down}
use Rattle.wire_base.specs.Rows.{IsListed}
use Rattle.cast_wire.specs.declared.cmd.Cmd.{Cmd as CastCmd}
use Rattle.cast_wire.specs.declared.cmd.Cmd.TheVariants as c
use Rattle.sync_wire.specs.declared.cmd.Cmd.{Cmd as SyncCmd}
use Rattle.sync_wire.specs.declared.cmd.Cmd.TheVariants as s
use Rattle.package_grammar.specs.declared.command.Command.{Command}
use Rattle.package_grammar.specs.declared.command.Command.TheVariants.{Sync, Cast}
use Rattle.package_grammar.specs.declared.downlink.Downlink.{Downlink}
use Rattle.package_grammar.specs.Grammar.{row, canonical, SpellsTo, IsReading}
use Rattle.package_grammar.specs.Reading.{Reading, reading_of}
use Rattle.package_grammar.proofs.ReadingLaw.{reads}
use Rattle.mc_group.specs.Groups.{group_of, group_at}
use Rattle.mc_group.specs.declared.group.Group.{Group}
use Rattle.image_slots.specs.Slots.{Slots, without_next, after_offer, delete_bits, after_delete}
use Rattle.device_core.specs.declared.arrival.Arrival.{Arrival}
use Rattle.device_core.specs.declared.delivered.Delivered.{Delivered}
use Rattle.device_core.specs.declared.delivered.Delivered.TheVariants.{Deaf, OutboxFull, Done}
use Rattle.device_core.specs.declared.delivered.OutboxFull as outbox
use Rattle.device_core.specs.Device.{DeviceState, with_counts, after_deaf, after_full, after_dropped}
use Rattle.device_core.specs.Answers.{DeviceStep, no_answer, one_answer, after_answers}
use Rattle.device_core.specs.Clock.{answer_step, periodicity_step, resync_step}
use Rattle.device_core.specs.ClassSessions.{class_session_step, hears}
use Rattle.device_core.specs.Groups.{groups_step, group_setup_step, without_group, group_delete_step}
use Rattle.device_core.specs.Firmware.{version_step, upgrade_step, delete_image_step, after_due_reboot}
use Rattle.device_core.specs.Fragments.{setup_step, status_step, delete_step, slots_after, heard_step, fragment_step}
use Rattle.device_core.specs.Step.{command_step, acts, step, after_commands, weights}
use Rattle.device_core.specs.Deliver.{Outcome, asks_time, message_delivery, read_delivery, arrival, heard_delivery, time_asking, waking, delivery}
use Rattle.campaign_laws.proofs.Devices.{version_asked}

-- it runs the file of this version, and no reboot is set
pub record IsIdle (runs : ℕ) (d : DeviceState) : Type 0 where
  pub reboot : d.reboot ≡ None
  pub version : d.slots.version ≡ runs

-- it runs no file
abbrev pub IsUntouched : DeviceState → Type 0
IsUntouched d = IsIdle 0 d

-- a command that sets no reboot
abbrev pub is_calm : Command → Bool
is_calm (Sync (s.DevRebootTimeReq time)) = false
is_calm (Sync (s.DevRebootCountdownReq count)) = false
is_calm x = true

-- ---- slots

pub offered_version : (hw : ℕ) (was : Bool) (file : Option (List ℕ)) (slots : Slots) → (slots_after hw was file slots).version ≡ slots.version
unfolding after_offer
offered_version hw false (Some file) slots = refl
offered_version hw false None slots = refl
offered_version hw true (Some file) slots = refl
offered_version hw true None slots = refl

either_version : (b : Bool) (slots : Slots) → (cond b (without_next slots) slots).version ≡ slots.version
either_version true slots = refl
either_version false slots = refl

deleted_version : (version : ℕ) (slots : Slots) → (after_delete version slots).version ≡ slots.version
unfolding after_delete
deleted_version version slots = either_version (delete_bits slots.next version == 0) slots

-- ---- each command

either : {runs : ℕ} (b : Bool) (one other : DeviceStep) → IsIdle runs one.device → IsIdle runs other.device → IsIdle runs (cond b one other).device
either true one other k l = k
either false one other k l = l

sync_calm : {runs : ℕ} (at : Arrival) (d : DeviceState) (cmd : SyncCmd) → is_calm (Sync cmd) ≡ true → IsIdle runs d → IsIdle runs (command_step at d (Sync cmd)).device
unfolding command_step answer_step periodicity_step resync_step version_step upgrade_step delete_image_step
sync_calm at d (s.DevRebootTimeReq time) calm k = absurd cc
sync_calm at d (s.DevRebootCountdownReq count) calm k = absurd cc
sync_calm at d (s.DevDeleteImageReq version) calm k = record { reboot = k.reboot; version = deleted_version version d.slots ∙ k.version }
sync_calm at d cmd calm k = record { reboot = k.reboot; version = k.version }

fragment_calm : {runs : ℕ} (at : Arrival) (d : DeviceState) (index n : ℕ) (part : List ℕ) (b : Bool) → IsIdle runs d
    → IsIdle runs (cond b (heard_step at d index n part) (with_counts after_dropped d))
unfolding heard_step
fragment_calm at d index n part true k = record { reboot = k.reboot; version = offered_version d.config.hw _ _ d.slots ∙ k.version }
fragment_calm at d index n part false k = record { reboot = k.reboot; version = k.version }

group_calm : {runs : ℕ} (at : Arrival) (d : DeviceState) (id : ℕ) (group : Group) → IsIdle runs d → IsIdle runs (group_setup_step at d id group).device
unfolding group_setup_step
group_calm at d id group k =
    either (nat_le (length d.groups) id) (one_answer at d (Cast (c.McGroupSetupAns id true)))
    (one_answer at (record d { groups = slice_set d.groups id (Some group) }) (Cast (c.McGroupSetupAns id false))) k (record { reboot = k.reboot; version = k.version })

gone_calm : {runs : ℕ} (at : Arrival) (d : DeviceState) (id : ℕ) → IsIdle runs d → IsIdle runs (group_delete_step at d id).device
unfolding group_delete_step
gone_calm at d id k =
    either (is_none (group_at d.groups id)) (one_answer at d (Cast (c.McGroupDeleteAns id true)))
    (one_answer at (record d { groups = slice_set d.groups id None; class_session = without_group id d.class_session }) (Cast (c.McGroupDeleteAns id false)))
    k (record { reboot = k.reboot; version = k.version })

cast_calm : {runs : ℕ} (at : Arrival) (d : DeviceState) (cmd : CastCmd) → IsIdle runs d → IsIdle runs (command_step at d (Cast cmd)).device
unfolding command_step setup_step status_step delete_step fragment_step groups_step class_session_step
cast_calm at d (c.DataFragment index n part) k = fragment_calm at d index n part _ k
cast_calm at d (c.McGroupSetupReq id addr key min max) k = group_calm at d id (group_of d.config.key d.config.root addr key min max) k
cast_calm at d (c.McGroupDeleteReq id) k = gone_calm at d id k
cast_calm at d cmd k = record { reboot = k.reboot; version = k.version }

command_calm : {runs : ℕ} (at : Arrival) (d : DeviceState) (x : Command) → is_calm x ≡ true → IsIdle runs d → IsIdle runs (command_step at d x).device
command_calm at d (Sync cmd) calm k = sync_calm at d cmd calm k
command_calm at d (Cast cmd) calm k = cast_calm at d cmd k

step_calm : {runs : ℕ} (at : Arrival) (d : DeviceState) (x : Command) → is_calm x ≡ true → IsIdle runs d → IsIdle runs (after_answers (step at d x))
unfolding after_answers step
step_calm at d x calm k =
    let made = either (acts at.via x) (command_step at d x) (no_answer d) (command_calm at d x calm k) k in
    record { reboot = made.reboot; version = made.version }

pub commands_calm : {runs : ℕ} (at : Arrival) (d : DeviceState) (xs : List Command) → AllByRecursion (λ x. is_calm x ≡ true) xs → IsIdle runs d → IsIdle runs (after_commands at d xs)
unfolding after_commands
commands_calm at d [] calm k = k
commands_calm at d (x ∷ xs) calm k = commands_calm at (after_answers (step at d x)) xs calm.1 (step_calm at d x calm.0 k)

-- ---- a payload

-- it is no payload of firmware management, or asks for the version
abbrev pub IsCalm : Downlink → Type 0
IsCalm down = (down.port ≡ 203 → ⊥) ⊎ ((down.port ≡ 203) × (down.payload ≡ canonical (Sync s.DevVersionReq)))

far_calm : (x : Command) (port : ℕ) → (port ≡ 203 → ⊥) → IsListed (row x) port Down → is_calm x ≡ true
far_calm (Sync (s.DevRebootTimeReq time)) port far listed = absurd (far (omega (arith, listed.port_is)))
far_calm (Sync (s.DevRebootCountdownReq count)) port far listed = absurd (far (omega (arith, listed.port_is)))
far_calm (Sync cmd) port far listed = refl
far_calm (Cast cmd) port far listed = refl

all_far : (xs : List Command) (port : ℕ) (bytes : List ℕ) (from end : ℕ) → (port ≡ 203 → ⊥) → SpellsTo xs port Down bytes from end → AllByRecursion (λ x. is_calm x ≡ true) xs
all_far [] port bytes from end far all = tt
all_far (x ∷ xs) port bytes from end far all = (far_calm x port far all.1.listed, all_far xs port bytes all.0 end far all.2)

either_outcome : {A : Type 0} {runs : ℕ} (b : Bool) (one other : Outcome A) → IsIdle runs one.device → IsIdle runs other.device → IsIdle runs (cond {A = Outcome A} b one other).device
either_outcome true one other k l = k
either_outcome false one other k l = l

read_calm : {runs : ℕ} (at : Arrival) (d : DeviceState) (r : Reading) → ((xs : List Command) → r ≡ Ok xs → AllByRecursion (λ x. is_calm x ≡ true) xs) → IsIdle runs d → IsIdle runs (read_delivery at d r).device
unfolding read_delivery message_delivery
read_calm at d (Ok xs) calm k =
    let n : ℕ = length d.outbox + weights xs in
    either_outcome {A = Delivered} (nat_lt 8 n) (record { device = with_counts after_full d; answer = OutboxFull n }) (record { device = after_commands at d xs; answer = Done })
    (record { reboot = k.reboot; version = k.version }) (commands_calm at d xs (calm xs refl) k)
read_calm at d (Err refusal) calm k = record { reboot = k.reboot; version = k.version }

pub reading_calm : (down : Downlink) → IsCalm down → (xs : List Command) → reading_of down.port Down down.payload ≡ Ok xs → AllByRecursion (λ x. is_calm x ≡ true) xs
reading_calm down (inl far) xs is =
    let message : IsReading down.port Down down.payload (Ok xs) = subst (IsReading down.port Down down.payload) is (reads down.port Down down.payload) in
    all_far xs down.port down.payload 0 (length down.payload) far message.all
reading_calm down (inr (port, bytes)) xs is =
    let here : reading_of down.port Down down.payload ≡ Ok (Sync s.DevVersionReq ∷ []) =
    ap (λ (p : ℕ). reading_of p Down down.payload) port ∙ ap (λ (b : List ℕ). reading_of 203 Down b) bytes ∙ version_asked in
    let e : Ok (Sync s.DevVersionReq ∷ []) ≡ Ok xs = sym here ∙ is in
    let same : Sync s.DevVersionReq ∷ [] ≡ xs = cc in
    subst (AllByRecursion (λ x. is_calm x ≡ true)) same (refl, tt)

unmoved : {runs : ℕ} (t : ℕ) (d : DeviceState) → IsIdle runs d → after_due_reboot t d ≡ d
unfolding after_due_reboot
unmoved t d k = rw (k.reboot) refl

pub due_calm : {runs : ℕ} (t : ℕ) (d : DeviceState) → IsIdle runs d → IsIdle runs (after_due_reboot t d)
due_calm {runs} t d k = subst (IsIdle runs) (sym (unmoved t d k)) k

heard_calm : {runs : ℕ} (t word mark : ℕ) (down : Downlink) (d : DeviceState) → IsCalm down → IsIdle runs d → IsIdle runs (heard_delivery t word mark down d).device
unfolding heard_delivery
heard_calm t word mark down d calm k =
    either_outcome {A = Delivered} (hears d t down.to) (read_delivery (arrival t word mark down d) d (reading_of down.port Down down.payload)) (record { device = with_counts after_deaf d; answer = Deaf })
    (read_calm (arrival t word mark down d) d (reading_of down.port Down down.payload) (reading_calm down calm) k) (record { reboot = k.reboot; version = k.version })

pub delivery_calm : {runs : ℕ} (t word mark : ℕ) (down : Downlink) (d : DeviceState) → IsCalm down → IsIdle runs d → IsIdle runs (delivery t word mark down d).device
unfolding delivery
delivery_calm t word mark down d calm k = due_calm t _ (heard_calm t word mark down (after_due_reboot t d) calm (due_calm t d k))

asking_calm : {runs : ℕ} (t : ℕ) (d : DeviceState) → IsIdle runs d → IsIdle runs (time_asking t d).device
unfolding time_asking after_answers
asking_calm t d k =
    either_outcome {A = Result (Unit {0}) outbox.OutboxFull} (nat_le 8 (length d.outbox)) (record { device = d; answer = Err (record {}) })
    (record { device = after_answers (asks_time t d); answer = Ok tt }) (record { reboot = k.reboot; version = k.version }) (record { reboot = k.reboot; version = k.version })

pub waking_calm : {runs : ℕ} (t : ℕ) (d : DeviceState) → IsIdle runs d → IsIdle runs (waking t d).device
unfolding waking
waking_calm t d k = due_calm t _ (asking_calm t (after_due_reboot t d) (due_calm t d k))
