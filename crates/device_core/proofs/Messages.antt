-- What a message makes of a device that has room for its weights, and of one that has not.
use Rattle.std.proofs.Common.{◌≡◌, ℕ, ◌+◌, ◌<◌, ◌≤◌, true, List, length, Option, Result, Ok, Err, refl, sym, ap, subst, ◌∙◌, arith}
use Rattle.std.proofs.lemmas.Bool.{le-ltb, lt-ltb}
use Rattle.flash_session.specs.Seen.{FlashSeen}
use Rattle.session_store.specs.declared.store.FlashFault.{FlashFault}
use Rattle.wire_base.specs.declared.refusal.Direction.TheVariants.{Down}
use Rattle.wire_base.specs.declared.refusal.Refusal.{Refusal}
use Rattle.package_grammar.specs.declared.command.Command.{Command}
use Rattle.package_grammar.specs.HeldMessage.{HeldMessage, message_of}
use Rattle.frag_session.specs.declared.answers.Via.{Via}
use Rattle.package_grammar.specs.declared.downlink.Downlink.{Downlink}
use Rattle.package_grammar.specs.declared.downlink.To.{To}
use Rattle.package_grammar.specs.Reading.{Reading, reading_of}
use Rattle.device_core.specs.declared.arrival.Arrival.{Arrival}
use Rattle.device_core.specs.declared.class_session.ClassSession.{ClassSession}
use Rattle.device_core.specs.declared.moment.Moment.{Moment}
use Rattle.device_core.specs.declared.delivered.Delivered.{Delivered}
use Rattle.device_core.specs.declared.delivered.Delivered.TheVariants.{OutboxFull, Refused, Done}
use Rattle.device_core.specs.Device.{DeviceState, after_full, after_refused, with_counts}
use Rattle.device_core.specs.HeldDevice.{HeldDevice, DeviceStands, Becomes, Makes}
use Rattle.device_core.specs.ClassSessions.{hears}
use Rattle.device_core.specs.HeldCalls.{Keeps, FailsAt}
use Rattle.device_core.specs.HeldPayloads.{Hears, ActsOn}
use Rattle.device_core.specs.HeldSessions.{HeldStore, IsUp}
use Rattle.device_core.specs.Passed.{LiesOneOf, heard_tables, read_tables, message_tables, tables_of}
use Rattle.device_core.specs.SessionTable.{SessionTable}
use Rattle.device_core.specs.Step.{weights, after_commands}
use Rattle.device_core.specs.Deliver.{Outcome, arrival, via_of, message_delivery, read_delivery, heard_delivery}
use Rattle.device_core.proofs.Counted.{made_as, counted}
use Rattle.device_core.proofs.Keeping.{keeps_as, keeps_failed, keeps_untouched}

message_acts : (here : Arrival) (device : DeviceState) (cs : List Command) → length device.outbox + weights cs ≤ 8
    → message_delivery here device cs ≡ record { device = after_commands here device cs; answer = Done }
unfolding message_delivery
message_acts here device cs few = rw (le-ltb 8 (length device.outbox + weights cs) few) refl

message_full : (here : Arrival) (device : DeviceState) (cs : List Command) → 8 < length device.outbox + weights cs
    → message_delivery here device cs
    ≡ record { device = with_counts after_full device; answer = OutboxFull (length device.outbox + weights cs) }
unfolding message_delivery
message_full here device cs many = rw (lt-ltb 8 (length device.outbox + weights cs) many) refl

tables_act : (here : Arrival) (device : DeviceState) (cs : List Command) → length device.outbox + weights cs ≤ 8
    → message_tables here device cs ≡ tables_of here device cs
unfolding message_tables
tables_act here device cs few = rw (le-ltb 8 (length device.outbox + weights cs) few) refl

room_of : {F : Type 0} (old : HeldDevice F) (cs : List Command) → length old.outbox + weights cs ≤ 8
    → (device : DeviceState) → DeviceStands old device → length device.outbox + weights cs ≤ 8
room_of old cs few device stands = subst (λ (d : DeviceState). length d.outbox + weights cs ≤ 8) (sym stands.rest) few

-- ---- one that acts

pub acts_makes : {F : Type 0} (old new : HeldDevice F) (here : Arrival) (cs : List Command) → length old.outbox + weights cs ≤ 8
    → Becomes old new (λ device. after_commands here device cs) → Makes Delivered old new Done (λ device. message_delivery here device cs)
acts_makes old new here cs few becomes =
    made_as old new Done (λ device. message_delivery here device cs) (λ device. after_commands here device cs)
    (λ device stands. message_acts here device cs (room_of old cs few device stands)) becomes

acts_lies : {F : Type 0} (old : HeldDevice F) (here : Arrival) (cs : List Command) → length old.outbox + weights cs ≤ 8
    → (device : DeviceState) (c : List ℕ) → DeviceStands old device
    → LiesOneOf old.sessions.layout (tables_of here device cs) c → LiesOneOf old.sessions.layout (message_tables here device cs) c
acts_lies old here cs few device c stands lies =
    subst (λ (ts : List SessionTable). LiesOneOf old.sessions.layout ts c)
    (sym (tables_act here device cs (room_of old cs few device stands))) lies

pub acts_keeps : {F A B : Type 0} (seen : F → FlashSeen)
    (old : HeldDevice F) (new : HeldStore F) (x : A) (y : B) (here : Arrival) (cs : List Command) → length old.outbox + weights cs ≤ 8
    → Keeps seen old new (Ok x) (λ device. after_commands here device cs) (λ device. tables_of here device cs)
    → Keeps seen old new (Ok y) (λ device. (message_delivery here device cs).device) (λ device. message_tables here device cs)
acts_keeps seen old new x y here cs few keeps =
    keeps_as seen old new x y (λ device. after_commands here device cs) (λ device. (message_delivery here device cs).device)
    (λ device. tables_of here device cs) (λ device. message_tables here device cs)
    (λ device stands. ap (λ (o : Outcome Delivered). o.device.sessions) (message_acts here device cs (room_of old cs few device stands)))
    (acts_lies old here cs few) keeps

pub acts_erring : {F A B : Type 0} (seen : F → FlashSeen)
    (old : HeldDevice F) (new : HeldStore F) (e f : FlashFault) (here : Arrival) (cs : List Command) → length old.outbox + weights cs ≤ 8
    → Keeps {A = A} seen old new (Err e) (λ device. after_commands here device cs) (λ device. tables_of here device cs)
    → Keeps {A = B} seen old new (Err f) (λ device. (message_delivery here device cs).device) (λ device. message_tables here device cs)
acts_erring {F} {A} {B} seen old new e f here cs few keeps =
    keeps_failed {A = A} {B = B} seen old new e f (λ device. after_commands here device cs) (λ device. (message_delivery here device cs).device)
    (λ device. tables_of here device cs) (λ device. message_tables here device cs) (acts_lies old here cs few) keeps

pub acts_hears : {F : Type 0} (seen : F → FlashSeen)
    (old new : HeldDevice F) (here : Arrival) (cs : List Command) → length old.outbox + weights cs ≤ 8
    → ActsOn seen old new (Ok tt) here cs
    → Hears seen old new (Ok Done) (λ device. message_delivery here device cs) (λ device. here) (Ok cs)
    (λ device. message_tables here device cs)
acts_hears seen old new here cs few acts = record {
  makes = acts_makes old new here cs few acts.becomes;
  answers = tt;
  fails = tt;
  keeps = acts_keeps seen old new.sessions tt Done here cs few acts.keeps;
}

pub stops_hears : {F : Type 0} (seen : F → FlashSeen)
    (old new : HeldDevice F) (here : Arrival) (cs : List Command) → length old.outbox + weights cs ≤ 8
    → ActsOn seen old new (Err (record {})) here cs
    → Hears seen old new (Err (record {})) (λ device. message_delivery here device cs) (λ device. here) (Ok cs)
    (λ device. message_tables here device cs)
stops_hears seen old new here cs few acts = record {
  makes = tt;
  answers = tt;
  fails = λ device stands. record {
    commands = cs;
    read = refl;
    acts = ap (λ (o : Outcome Delivered). o.answer) (message_acts here device cs (room_of old cs few device stands));
    fails = acts.fails device stands;
  };
  keeps = acts_erring seen old new.sessions (record {}) (record {}) here cs few acts.keeps;
}

-- ---- one whose weights are too many

full_of : {F : Type 0} (old : HeldDevice F) (here : Arrival) (cs : List Command) → 8 < length old.outbox + weights cs
    → (device : DeviceState) → DeviceStands old device
    → message_delivery here device cs ≡ record { device = with_counts after_full device; answer = OutboxFull (length old.outbox + weights cs) }
full_of old here cs many device stands =
    message_full here device cs (subst (λ (d : DeviceState). 8 < length d.outbox + weights cs) (sym stands.rest) many)
    ∙ ap (λ (d : DeviceState). record { device = with_counts after_full device; answer = OutboxFull (length d.outbox + weights cs) }) stands.rest

pub full_makes : {F : Type 0} (old new : HeldDevice F) (here : Arrival) (cs : List Command) (n : ℕ) → n ≡ length old.outbox + weights cs → 8 < n
    → new ≡ record old { counts = after_full old.counts }
    → Makes Delivered old new (OutboxFull n) (λ device. message_delivery here device cs)
full_makes {F} old new here cs n is many counts =
    let more : 8 < length old.outbox + weights cs = omega (arith, is, many) in
    subst (λ (m : ℕ). Makes Delivered old new (OutboxFull m) (λ device. message_delivery here device cs)) (sym is)
    (made_as old new (OutboxFull (length old.outbox + weights cs)) (λ device. message_delivery here device cs) (with_counts after_full)
    (full_of old here cs more) (counted old new after_full counts))

pub full_keeps : {F : Type 0} (seen : F → FlashSeen)
    (old new : HeldDevice F) (here : Arrival) (cs : List Command) (n : ℕ) → n ≡ length old.outbox + weights cs → 8 < n
    → new ≡ record old { counts = after_full old.counts } → IsUp old.sessions.state → (d : Delivered)
    → Keeps seen old new.sessions (Ok d) (λ device. (message_delivery here device cs).device) (λ device. message_tables here device cs)
full_keeps {F} seen old new here cs n is many counts up d =
    let more : 8 < length old.outbox + weights cs = omega (arith, is, many) in
    keeps_untouched seen old new.sessions d (λ device. (message_delivery here device cs).device) (λ device. message_tables here device cs)
    (ap (λ (h : HeldDevice F). h.sessions) counts) up
    (λ device stands. ap (λ (o : Outcome Delivered). o.device.sessions) (full_of old here cs more device stands))

pub full_hears : {F : Type 0} (seen : F → FlashSeen)
    (old new : HeldDevice F) (here : Arrival) (cs : List Command) (n : ℕ) → n ≡ length old.outbox + weights cs → 8 < n
    → new ≡ record old { counts = after_full old.counts } → IsUp old.sessions.state
    → Hears seen old new (Ok (OutboxFull n)) (λ device. message_delivery here device cs) (λ device. here) (Ok cs)
    (λ device. message_tables here device cs)
full_hears seen old new here cs n is many counts up = record {
  makes = full_makes old new here cs n is many counts;
  answers = tt;
  fails = tt;
  keeps = full_keeps seen old new here cs n is many counts up (OutboxFull n);
}

-- ---- what is read of a payload

pub message_read : (port : ℕ) (reading : Reading) (m : HeldMessage) → Ok m ≡ message_of port Down reading → reading ≡ Ok m.commands
message_read port (Ok cs) m is = cc
message_read port (Err refusal) m is = absurd cc

pub refusal_read : (port : ℕ) (reading : Reading) (e : Refusal) → Err e ≡ message_of port Down reading → reading ≡ Err e
refusal_read port (Ok cs) e is = absurd cc
refusal_read port (Err refusal) e is = cc

pub refused_makes : {F : Type 0} (old new : HeldDevice F) (here : Arrival) (reading : Reading) (e : Refusal) → reading ≡ Err e
    → new ≡ record old { counts = after_refused old.counts }
    → Makes Delivered old new (Refused e) (λ device. read_delivery here device reading)
unfolding read_delivery
refused_makes old new here reading e is counts =
    made_as old new (Refused e) (λ device. read_delivery here device reading) (with_counts after_refused)
    (λ device stands. rw is refl) (counted old new after_refused counts)

pub refused_keeps : {F : Type 0} (seen : F → FlashSeen)
    (old new : HeldDevice F) (here : Arrival) (reading : Reading) (e : Refusal) → reading ≡ Err e
    → new ≡ record old { counts = after_refused old.counts } → IsUp old.sessions.state → (d : Delivered)
    → Keeps seen old new.sessions (Ok d) (λ device. (read_delivery here device reading).device) (λ device. read_tables here device reading)
unfolding read_delivery
refused_keeps {F} seen old new here reading e is counts up d =
    keeps_untouched seen old new.sessions d (λ device. (read_delivery here device reading).device) (λ device. read_tables here device reading)
    (ap (λ (h : HeldDevice F). h.sessions) counts) up (λ device stands. rw is refl)

pub refused_hears : {F : Type 0} (seen : F → FlashSeen)
    (old new : HeldDevice F) (here : Arrival) (reading : Reading) (e : Refusal) → reading ≡ Err e
    → new ≡ record old { counts = after_refused old.counts } → IsUp old.sessions.state
    → Hears seen old new (Ok (Refused e)) (λ device. read_delivery here device reading) (λ device. here) reading
    (λ device. read_tables here device reading)
refused_hears seen old new here reading e is counts up = record {
  makes = refused_makes old new here reading e is counts;
  answers = tt;
  fails = tt;
  keeps = refused_keeps seen old new here reading e is counts up (Refused e);
}

-- what is read of a payload that is heard
heard_is : (t word mark : ℕ) (down : Downlink) (device : DeviceState) → hears device t down.to ≡ true
    → heard_delivery t word mark down device
    ≡ read_delivery (arrival t word mark down device) device (reading_of down.port Down down.payload)
unfolding heard_delivery
heard_is t word mark down device is = rw is refl

tables_heard : (t word mark : ℕ) (down : Downlink) (device : DeviceState) → hears device t down.to ≡ true
    → heard_tables t word mark down device
    ≡ read_tables (arrival t word mark down device) device (reading_of down.port Down down.payload)
unfolding heard_tables
tables_heard t word mark down device is = rw is refl

-- what is said of a call holds of one that makes the same
hears_like : {F : Type 0} (seen : F → FlashSeen)
    (old new : HeldDevice F) (r : Result Delivered FlashFault) (call then : DeviceState → Outcome Delivered)
    (here there : DeviceState → Arrival) (reading : Reading) (tables those : DeviceState → List SessionTable)
    → ((device : DeviceState) → DeviceStands old device → then device ≡ call device)
    → ((device : DeviceState) → DeviceStands old device → there device ≡ here device)
    → ((device : DeviceState) → DeviceStands old device → those device ≡ tables device)
    → Hears seen old new r call here reading tables
    → Hears seen old new r then there reading those
hears_like seen old new (Ok d) call then here there reading tables those is at passes hears = record {
  makes = record {
    stands = λ device stands. subst (λ (o : Outcome Delivered). DeviceStands new o.device) (sym (is device stands)) (hears.makes.stands device stands);
    answers = λ device stands. hears.makes.answers device stands ∙ sym (ap (λ (o : Outcome Delivered). o.answer) (is device stands));
  };
  answers = hears.answers;
  fails = tt;
  keeps = keeps_as seen old new.sessions d d _ _ _ _
      (λ device stands. ap (λ (o : Outcome Delivered). o.device.sessions) (is device stands))
      (λ device c stands lies. subst (λ (ts : List SessionTable). LiesOneOf old.sessions.layout ts c) (sym (passes device stands)) lies) hears.keeps;
}
hears_like seen old new (Err e) call then here there reading tables those is at passes hears = record {
  makes = tt;
  answers = tt;
  fails = λ device stands.
      let fails = hears.fails device stands in
      record {
        commands = fails.commands;
        read = fails.read;
        acts = ap (λ (o : Outcome Delivered). o.answer) (is device stands) ∙ fails.acts;
        fails = subst (λ (a : Arrival). FailsAt a device fails.commands new) (sym (at device stands)) fails.fails;
      };
  keeps = keeps_failed seen old new.sessions e e _ _ _ _
      (λ device c stands lies. subst (λ (ts : List SessionTable). LiesOneOf old.sessions.layout ts c) (sym (passes device stands)) lies) hears.keeps;
}

pub read_hears : {F : Type 0} (seen : F → FlashSeen)
    (old new : HeldDevice F) (r : Result Delivered FlashFault) (t word mark : ℕ) (down : Downlink) (here : Arrival)
    (port : ℕ) (payload : List ℕ) → port ≡ down.port → payload ≡ down.payload
    → ((device : DeviceState) → DeviceStands old device → hears device t down.to ≡ true)
    → ((device : DeviceState) → DeviceStands old device → arrival t word mark down device ≡ here)
    → Hears seen old new r (λ device. read_delivery here device (reading_of port Down payload)) (λ device. here)
    (reading_of port Down payload) (λ device. read_tables here device (reading_of port Down payload))
    → Hears seen old new r (heard_delivery t word mark down) (arrival t word mark down)
    (reading_of down.port Down down.payload) (heard_tables t word mark down)
read_hears seen old new r t word mark down here port payload port_is payload_is hears_it at hears =
    let same : reading_of port Down payload ≡ reading_of down.port Down down.payload =
    ap (λ (p : ℕ). reading_of p Down payload) port_is ∙ ap (λ (bytes : List ℕ). reading_of down.port Down bytes) payload_is in
    hears_like seen old new r _ _ _ _ _ _ _
    (λ device stands. heard_is t word mark down device (hears_it device stands)
    ∙ ap (λ (a : Arrival). read_delivery a device (reading_of down.port Down down.payload)) (at device stands))
    at
    (λ device stands. tables_heard t word mark down device (hears_it device stands)
    ∙ ap (λ (a : Arrival). read_tables a device (reading_of down.port Down down.payload)) (at device stands))
    (subst (λ (reading : Reading). Hears seen old new r (λ device. read_delivery here device reading) (λ device. here)
    reading (λ device. read_tables here device reading)) same hears)

-- how it comes, as the device sees it
pub arrives : {F : Type 0} (held : HeldDevice F) (moment : Moment) (down : Downlink) (session : Option ClassSession) (to : To) (way : Via) (port : ℕ)
    → session ≡ held.class_session → to ≡ down.to → way ≡ via_of session to → port ≡ down.port
    → (device : DeviceState) → DeviceStands held device
    → arrival moment.t moment.word moment.mark down device ≡ record { moment = moment; via = way; port = port }
arrives held moment down session to way port session_is to_is way_is port_is device stands =
    let own : device.class_session ≡ session = ap (λ (d : DeviceState). d.class_session) stands.rest ∙ sym session_is in
    let via_is : via_of device.class_session down.to ≡ way =
    ap (λ (s : Option ClassSession). via_of s down.to) own ∙ ap (λ (x : To). via_of session x) (sym to_is) ∙ sym way_is in
    rw (via_is, sym port_is) refl
