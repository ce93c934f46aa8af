-- A session of a replay is what the commands that its lines carry make of it, one after another.
use Rattle.std.proofs.Common.{◌≡◌, ℕ, zero, suc, ◌+◌, ◌<◌, Bool, true, false, cond, ◌==◌, nat_lt, List, [], ◌∷◌, ◌++◌, map, length, Option, None, is_none, Result, Ok, Err, refl, sym, ap, ◌∙◌, subst, arith}
use Rattle.wire_base.specs.declared.refusal.Direction.TheVariants.{Down}
use Rattle.wire_base.specs.Numbers.{bits_of}
use Rattle.cast_wire.specs.declared.cmd.Cmd.TheVariants.{FragSessionSetupReq, FragSessionDeleteReq, DataFragment, McGroupSetupReq, McGroupDeleteReq}
use Rattle.sync_wire.specs.declared.cmd.Cmd.TheVariants.{DevVersionReq}
use Rattle.package_grammar.specs.declared.command.Command.{Command}
use Rattle.package_grammar.specs.declared.command.Command.TheVariants.{Sync, Cast}
use Rattle.package_grammar.specs.Grammar.{Spells, SpellsTo, IsReading}
use Rattle.package_grammar.specs.Reading.{Reading, reading_of}
use Rattle.package_grammar.proofs.ReadingLaw.{reads}
use Rattle.frag_session.specs.declared.answers.Via.TheVariants.{Unicast}
use Rattle.frag_session.specs.declared.setups.SetupReq.{SetupReq}
use Rattle.frag_session.specs.Session.{Session, after_setup, after_fragment, drop_cause}
use Rattle.device_core.specs.declared.arrival.Arrival.{Arrival}
use Rattle.device_core.specs.Configuration.{Configuration}
use Rattle.device_core.specs.declared.config.Class.{Class}
use Rattle.device_core.specs.declared.config.Class.TheVariants as class
use Rattle.device_core.specs.declared.delivered.Delivered.{Delivered}
use Rattle.device_core.specs.declared.delivered.Delivered.TheVariants.{OutboxFull, Done}
use Rattle.device_core.specs.declared.uplink.Uplink.{Uplink}
use Rattle.device_core.specs.SessionTable.{SessionTable, session_at, with_session}
use Rattle.device_core.specs.Device.{DeviceState, outbox_size, after_full, with_counts, room_of, limits_of}
use Rattle.device_core.specs.Answers.{DeviceStep, after_answers}
use Rattle.device_core.specs.Clock.{answer_step, periodicity_step, resync_step}
use Rattle.device_core.specs.Groups.{groups_step, group_setup_step, group_delete_step}
use Rattle.device_core.specs.ClassSessions.{class_session_step, hears, hears_unicast}
use Rattle.device_core.specs.Firmware.{version_step, upgrade_step, delete_image_step, reboot_time_step, countdown_step, after_due_reboot}
use Rattle.device_core.specs.Fragments.{setup_of, setup_step, delete_step, status_step, heard_step, fragment_step}
use Rattle.device_core.specs.Step.{command_step, step, after_commands, weights}
use Rattle.device_core.specs.Deliver.{Outcome, message_delivery, read_delivery, heard_delivery, delivery}
use Rattle.report_lines.specs.declared.faults.LineWhy.{LineWhy}
use Rattle.device_core.proofs.HeardSessions.{OfEach}
use Rattle.payload_replay.specs.PayloadLines.{payload_of}
use Rattle.report_lines.specs.Lines.{BehindLine, TakesLines}
use Rattle.payload_replay.specs.Replay.{replay_device, captured, after_payload, Hears}
use Rattle.payload_replay.specs.Carried.{CarriedCommand, carried, carried_by, carried_in, carried_after, after_command, session_behind}

-- ---- four sessions, each as it is shown

-- what a session of an index is
abbrev Told : Type 0
Told = ℕ → Option Session

abbrev Are : Told → SessionTable → Type 0
Are told all = OfEach (λ index s. s ≡ told index) all

-- said in another way, and the same
as_well : (told other : Told) (all : SessionTable) → ((index : ℕ) → told index ≡ other index) → Are told all → Are other all
as_well told other all same h = (h.0 ∙ same 0, h.1 ∙ same 1, h.2 ∙ same 2, h.3 ∙ same 3)

-- one of them takes a step
moves : (all : SessionTable) (told : Told) (k : ℕ) (next : Option Session → Option Session) → k < 4 → Are told all
    → Are (λ index. cond (k == index) (next (told index)) (told index)) (with_session all k (next (session_at all k)))
moves all told zero next small h = (ap next h.0, h.1, h.2, h.3)
moves all told (suc zero) next small h = (h.0, ap next h.1, h.2, h.3)
moves all told (suc (suc zero)) next small h = (h.0, h.1, ap next h.2, h.3)
moves all told (suc (suc (suc zero))) next small h = (h.0, h.1, h.2, ap next h.3)
moves all told (suc (suc (suc (suc k)))) next small h = absurd (omega (arith, small))

-- a step that leaves it
stays : (all : SessionTable) (told : Told) (k : ℕ) (next : Option Session → Option Session) → k < 4
    → next (session_at all k) ≡ session_at all k → Are told all
    → Are (λ index. cond (k == index) (next (told index)) (told index)) all
stays all told zero next small same h = (sym same ∙ ap next h.0, h.1, h.2, h.3)
stays all told (suc zero) next small same h = (h.0, sym same ∙ ap next h.1, h.2, h.3)
stays all told (suc (suc zero)) next small same h = (h.0, h.1, sym same ∙ ap next h.2, h.3)
stays all told (suc (suc (suc zero))) next small same h = (h.0, h.1, h.2, sym same ∙ ap next h.3)
stays all told (suc (suc (suc (suc k)))) next small same h = absurd (omega (arith, small))

-- ---- a command

-- the index of a session that a command names
abbrev index_of : Command → ℕ
index_of (Cast (FragSessionSetupReq index mask nb_frag frag_size algo delay padding descriptor)) = index
index_of (Cast (FragSessionDeleteReq index)) = index
index_of (Cast (DataFragment index n part)) = index
index_of command = 0

two_bits : (n low index : ℕ) → bits_of n low 2 ≡ index → index < 4
two_bits n low index is = subst (λ i. i < 4) is (omega arith)

spelled_small : (c : Command) (bytes : List ℕ) (at next : ℕ) → Spells c 201 Down bytes at next → index_of c < 4
spelled_small (Cast (FragSessionSetupReq index mask nb_frag frag_size algo delay padding descriptor)) bytes at next spells =
    two_bits _ 4 index spells.lies.parts_lie.0.0
spelled_small (Cast (FragSessionDeleteReq index)) bytes at next spells = two_bits _ 0 index spells.lies.parts_lie.0.0
spelled_small (Cast (DataFragment index n part)) bytes at next spells = two_bits _ 14 index spells.lies.parts_lie.0.0
spelled_small c bytes at next spells = omega arith

AreSmall : List Command → Type 0
AreSmall [] = Unit {0}
AreSmall (c ∷ cs) = (index_of c < 4) × AreSmall cs

message_small : (cs : List Command) (bytes : List ℕ) (at end : ℕ) → SpellsTo cs 201 Down bytes at end → AreSmall cs
unfolding AreSmall
message_small [] bytes at end all = tt
message_small (c ∷ cs) bytes at end all =
    (spelled_small c bytes at all.0 all.1, message_small cs bytes all.0 end all.2)

-- the device is configured so, and its sessions are those
abbrev Holds : Configuration → Told → DeviceState → Type 0
Holds config told d = (d.config ≡ config) × Are told d.sessions

-- a payload on port 201 arrives at a line
abbrev at_line : ℕ → Arrival
at_line n = record { moment = record { t = 0; word = 0; mark = n }; via = Unicast; port = 201 }

either : (config : Configuration) (told : Told) (b : Bool) (one other : DeviceState) → Holds config told one
    → Holds config told other → Holds config told (cond b one other)
either config told true one other h k = h
either config told false one other h k = k

either_step : (config : Configuration) (told : Told) (b : Bool) (one other : DeviceStep) → Holds config told one.device
    → Holds config told other.device → Holds config told (cond b one other).device
either_step config told true one other h k = h
either_step config told false one other h k = k

set_up : (config : Configuration) (told : Told) (n : ℕ) (d : DeviceState) (req : SetupReq) → req.index < 4
    → Holds config told d
    → Holds config (λ index. cond (req.index == index) (after_setup (limits_of config) (room_of config) (told index) req) (told index))
    (setup_step (at_line n) d req).device
unfolding setup_step
set_up config told n d req small h =
    let next : Configuration → Option Session → Option Session = λ k s. after_setup (limits_of k) (room_of k) s req in (
      h.0,
      subst (λ (k : Configuration). Are (λ index. cond (req.index == index) (next config (told index)) (told index))
          (with_session d.sessions req.index (next k (session_at d.sessions req.index)))) (sym h.0)
          (moves d.sessions told req.index (next config) small h.1),
    )

-- a fragment that is dropped leaves the session
dropped : (s : Option Session) (n : ℕ) (part : List ℕ) (mark : ℕ) → is_none (drop_cause s Unicast n part) ≡ false
    → after_fragment s Unicast n part mark ≡ s
unfolding after_fragment
dropped s n part mark is = rw is refl

fragment : (config : Configuration) (told : Told) (line : ℕ) (d : DeviceState) (k n : ℕ) (part : List ℕ) → k < 4
    → Holds config told d
    → Holds config (λ index. cond (k == index) (after_fragment (told index) Unicast n part line) (told index))
    (fragment_step (at_line line) d k n part).device
unfolding fragment_step heard_step
fragment config told line d k n part small h = by_cause (is_none (drop_cause (session_at d.sessions k) Unicast n part)) refl
  where
    by_cause : (b : Bool) → is_none (drop_cause (session_at d.sessions k) Unicast n part) ≡ b
        → Holds config (λ index. cond (k == index) (after_fragment (told index) Unicast n part line) (told index))
        (fragment_step (at_line line) d k n part).device
    by_cause true is = rw is (h.0, moves d.sessions told k (λ s. after_fragment s Unicast n part line) small h.1)
    by_cause false is = rw is (h.0, stays d.sessions told k (λ s. after_fragment s Unicast n part line) small (dropped (session_at d.sessions k) n part line is) h.1)

after_one : Configuration → Told → ℕ → Command → Told
after_one config told line c = λ index. after_command config index line (told index) c

command_holds : (config : Configuration) (told : Told) (line : ℕ) (d : DeviceState) (c : Command) → index_of c < 4
    → Holds config told d → Holds config (after_one config told line c) (command_step (at_line line) d c).device
unfolding after_one after_command command_step answer_step periodicity_step resync_step status_step groups_step
    group_setup_step group_delete_step class_session_step version_step upgrade_step delete_image_step reboot_time_step
    countdown_step delete_step
command_holds config told line d
    (Cast (FragSessionSetupReq index mask nb_frag frag_size algo delay padding descriptor)) small h =
    set_up config told line d (setup_of index mask nb_frag frag_size algo delay padding descriptor) small h
command_holds config told line d (Cast (FragSessionDeleteReq index)) small h =
    (h.0, moves d.sessions told index (λ s. None) small h.1)
command_holds config told line d (Cast (DataFragment index n part)) small h =
    fragment config told line d index n part small h
command_holds config told line d (Cast (McGroupSetupReq id addr key min max)) small h = either_step config told _ _ _ h h
command_holds config told line d (Cast (McGroupDeleteReq id)) small h = either_step config told _ _ _ h h
command_holds config told line d (Sync DevVersionReq) small h = h
command_holds config told line d c small h = h

step_holds : (config : Configuration) (told : Told) (line : ℕ) (d : DeviceState) (c : Command) → index_of c < 4
    → Holds config told d → Holds config (after_one config told line c) (after_answers (step (at_line line) d c))
unfolding step after_answers
step_holds config told line d c small h = command_holds config told line d c small h

commands_hold : (config : Configuration) (told : Told) (line : ℕ) (d : DeviceState) (cs : List Command) → AreSmall cs
    → Holds config told d
    → Holds config (λ index. session_behind config index (told index) (map (carried line) cs)) (after_commands (at_line line) d cs)
unfolding AreSmall after_commands session_behind after_one
commands_hold config told line d [] small h = h
commands_hold config told line d (c ∷ cs) small h =
    commands_hold config (after_one config told line c) line (after_answers (step (at_line line) d c)) cs small.1
    (step_holds config told line d c small.0 h)

-- ---- a payload

message_holds : (config : Configuration) (told : Told) (line : ℕ) (cs : List Command) (b : Bool) (one other : Outcome Delivered)
    → Holds config told one.device
    → Holds config (λ index. session_behind config index (told index) (map (carried line) cs)) other.device
    → Holds config (λ index. session_behind config index (told index) (cond b [] (map (carried line) cs))) (cond b one other).device
unfolding session_behind
message_holds config told line cs true one other h k = h
message_holds config told line cs false one other h k = k

read_holds : (config : Configuration) (told : Told) (line : ℕ) (payload : List ℕ) (d : DeviceState) (r : Reading)
    → IsReading 201 Down payload r → d.outbox ≡ [] → Holds config told d
    → Holds config (λ index. session_behind config index (told index) (carried_by line r)) (read_delivery (at_line line) d r).device
unfolding read_delivery message_delivery session_behind
read_holds config told line payload d (Ok cs) reading empty h =
    let none : length d.outbox ≡ 0 = ap (λ (o : List Uplink). length o) empty in
    let count : length d.outbox + weights cs ≡ weights cs = omega (arith, none) in
    let full : Outcome Delivered = record { device = with_counts after_full d; answer = OutboxFull (length d.outbox + weights cs) } in
    let done : Outcome Delivered = record { device = after_commands (at_line line) d cs; answer = Done } in
    subst (λ n. Holds config (λ index. session_behind config index (told index)
    (cond (nat_lt outbox_size n) [] (map (carried line) cs)))
    (cond (nat_lt outbox_size (length d.outbox + weights cs)) full done).device) count
    (message_holds config told line cs (nat_lt outbox_size (length d.outbox + weights cs)) full done h
    (commands_hold config told line d cs (message_small cs payload 0 (length payload) reading.all) h))
read_holds config told line payload d (Err refusal) reading empty h = h

reboot_holds : (config : Configuration) (told : Told) (d : DeviceState) → Holds config told d
    → Holds config told (after_due_reboot 0 d)
unfolding after_due_reboot
reboot_holds config told d h = either config told _ _ d h h

outbox_by : (b : Bool) (one other : DeviceState) → one.outbox ≡ [] → other.outbox ≡ [] → (cond b one other).outbox ≡ []
outbox_by true one other h k = h
outbox_by false one other h k = k

reboot_outbox : (d : DeviceState) → d.outbox ≡ [] → (after_due_reboot 0 d).outbox ≡ []
unfolding after_due_reboot
reboot_outbox d empty = outbox_by _ _ d empty empty

-- its receiver is open
if_open : (config : Configuration) (told : Told) (b : Bool) (one other : Outcome Delivered) → b ≡ true
    → Holds config told one.device → Holds config told (cond b one other).device
if_open config told true one other is h = h
if_open config told false one other is h = absurd cc

heard_holds : (config : Configuration) (told : Told) (line : ℕ) (payload : List ℕ) (d : DeviceState)
    → config.class ≡ class.C → d.outbox ≡ [] → Holds config told d
    → Holds config (λ index. session_behind config index (told index) (carried_by line (reading_of 201 Down payload)))
    (heard_delivery 0 0 line (captured payload) d).device
unfolding heard_delivery hears
heard_holds config told line payload d c empty h =
    let hearing : hears_unicast d.config.class d.last_due 0 ≡ true =
    ap (λ (k : Configuration). hears_unicast k.class d.last_due 0) h.0
    ∙ ap (λ (k : Class). hears_unicast k d.last_due 0) c in
    if_open config (λ index. session_behind config index (told index) (carried_by line (reading_of 201 Down payload)))
    _ _ _ hearing (read_holds config told line payload d (reading_of 201 Down payload) (reads 201 Down payload) empty h)

payload_holds : (config : Configuration) (told : Told) (line : ℕ) (payload : List ℕ) (d : DeviceState)
    → config.class ≡ class.C → d.outbox ≡ [] → Holds config told d
    → Holds config (λ index. session_behind config index (told index) (carried_by line (reading_of 201 Down payload)))
    (after_payload line payload d)
unfolding after_payload delivery
payload_holds config told line payload d c empty h =
    reboot_holds config (λ index. session_behind config index (told index) (carried_by line (reading_of 201 Down payload)))
    (heard_delivery 0 0 line (captured payload) (after_due_reboot 0 d)).device
    (heard_holds config told line payload (after_due_reboot 0 d) c (reboot_outbox d empty) (reboot_holds config told d h))

-- ---- all lines

pub behind_more : (config : Configuration) (index : ℕ) (s : Option Session) (some more : List CarriedCommand)
    → session_behind config index (session_behind config index s some) more ≡ session_behind config index s (some ++ more)
unfolding session_behind
behind_more config index s [] more = refl
behind_more config index s (c ∷ cs) more = behind_more config index (after_command config index c.line s c.command) cs more

line_holds : (config : Configuration) (told : Told) (lines : ℕ) (d t : DeviceState) (rest : List (List ℕ))
    (r : Result (List ℕ) LineWhy) → config.class ≡ class.C → d.outbox ≡ [] → Holds config told d
    → ((next : DeviceState) (other : Told) → next.outbox ≡ [] → Holds config other next → TakesLines payload_of Hears (lines + 1) next rest (Ok t)
    → Holds config (λ index. session_behind config index (other index) (carried_after (lines + 1) rest)) t)
    → BehindLine Hears lines d r (λ next. TakesLines payload_of Hears (lines + 1) next rest) (Ok t)
    → Holds config (λ index. session_behind config index (told index) (carried_in (lines + 1) r ++ carried_after (lines + 1) rest)) t
unfolding after_payload
line_holds config told lines d t rest (Err cause) c empty h more behind = absurd cc
line_holds config told lines d t rest (Ok payload) c empty h more behind =
    let some : List CarriedCommand = carried_by (lines + 1) (reading_of 201 Down payload) in
    let other : Told = λ index. session_behind config index (told index) some in
    let here : Holds config other behind.0 =
    subst (Holds config other) (sym behind.1) (payload_holds config told (lines + 1) payload d c empty h) in
    let all = more behind.0 other (ap (λ (x : DeviceState). x.outbox) behind.1) here behind.2 in
    (all.0, as_well _ _ t.sessions (λ index. behind_more config index (told index) some (carried_after (lines + 1) rest)) all.1)

lines_hold : (config : Configuration) (told : Told) (lines : ℕ) (d t : DeviceState) (rest : List (List ℕ))
    → config.class ≡ class.C → d.outbox ≡ [] → Holds config told d → TakesLines payload_of Hears lines d rest (Ok t)
    → Holds config (λ index. session_behind config index (told index) (carried_after lines rest)) t
unfolding TakesLines carried_after session_behind
lines_hold config told lines d t [] c empty h taken = let same : d ≡ t = cc in subst (Holds config told) same h
lines_hold config told lines d t (line ∷ rest) c empty h taken =
    line_holds config told lines d t rest (payload_of lines line) c empty h
    (λ next other none holds behind. lines_hold config other (lines + 1) next t rest c none holds behind) taken

-- the sessions of a replay
pub replay_holds : (rows : ℕ) (t : DeviceState) (rest : List (List ℕ)) → TakesLines payload_of Hears 1 (replay_device rows) rest (Ok t)
    → OfEach (λ index s. s ≡ session_behind (replay_device rows).config index None (carried_after 1 rest)) t.sessions
replay_holds rows t rest taken =
    (lines_hold (replay_device rows).config (λ index. None) 1 (replay_device rows) t rest refl refl
    (refl, (refl, refl, refl, refl)) taken).1
