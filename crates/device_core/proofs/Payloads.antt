-- What calls that bring a payload promise, put together of what their parts do.
use Rattle.std.proofs.Common.{◌≡◌, ◌≢◌, ◌⊎◌, ℕ, true, false, List, Ok, Err, inl, inr, refl, sym, ap, subst, ◌∙◌, arith}
use Rattle.package_grammar.specs.declared.downlink.Downlink.{Downlink}
use Rattle.mc_frames.specs.declared.fault.FrameFault.{FrameFault}
use Rattle.flash_session.specs.Contents.{HasRisen}
use Rattle.flash_session.specs.Moments.{LeavesOnly}
use Rattle.flash_session.specs.Seen.{FlashSeen, left}
use Rattle.session_store.specs.HeldPlaces.{TableLies}
use Rattle.wire_base.specs.declared.refusal.Direction.TheVariants as direction
use Rattle.package_grammar.specs.Reading.{reading_of}
use Rattle.device_core.specs.declared.delivered.Aired.TheVariants.{Heard, Foreign}
use Rattle.device_core.specs.declared.delivered.Delivered.{Delivered}
use Rattle.device_core.specs.declared.delivered.Delivered.TheVariants.{FlashFault, Down}
use Rattle.device_core.specs.Deliver.{Outcome, arrival, heard_delivery}
use Rattle.device_core.specs.Device.{DeviceState, after_deaf, with_counts}
use Rattle.device_core.specs.Firmware.{after_due_reboot}
use Rattle.device_core.specs.HeldCalls.{IsPlain}
use Rattle.device_core.specs.HeldDevice.{HeldDevice, device_of, Becomes}
use Rattle.device_core.specs.HeldPayloads.{Serves, Delivers, Airs, Hears}
use Rattle.device_core.specs.HeldSessions.{HeldStore, IsDown, IsUp, StateIsHeld, IsLaidOut}
use Rattle.device_core.specs.Passed.{heard_tables, tables_aired, LiesOneOf}
use Rattle.device_core.specs.Radio.{brought}
use Rattle.device_core.specs.SessionTable.{SessionTable}
use Rattle.device_core.proofs.Downs.{makes_down, down_stored, down_moments, delivered_makes, delivered_stored, delivered_moments, delivered_again, failed_within, same_heard, aired_makes, aired_fails, aired_stored, aired_moments, aired_again, foreign_makes, foreign_stored}
use Rattle.device_core.proofs.Stored.{keeps_at}

-- at a device that is down
pub serves_down : {F A : Type 0} (seen : F → FlashSeen)
    (held : HeldDevice F) (is_down has_failed : A) (call : DeviceState → Outcome A) (stopped : DeviceState → HeldDevice F → Type 0)
    (tables : DeviceState → List SessionTable) → is_down ≢ has_failed → IsDown held.sessions.state
    → Serves seen held held is_down is_down has_failed call stopped tables
serves_down seen held is_down has_failed call stopped tables differs down = record {
  makes = λ plain. makes_down held held is_down call down;
  down = λ is. down;
  up = λ is. absurd (is refl);
  still = λ is. refl;
  fails = λ is. absurd (differs is);
  fault = λ is. absurd (differs is);
  quiet = λ memory. (differs, refl);
  stored = λ plain. down_stored seen held held (λ device. (call device).device) down;
  any_moment = down_moments seen held held tables down;
  again = λ is. absurd (differs is);
  laid = record { layout = refl; held = refl };
}

pub down_no_fault : Down ≢ FlashFault
down_no_fault is = cc

pub heard_no_fault : Heard Down ≢ Heard FlashFault
heard_no_fault is = down_no_fault (same_heard Down FlashFault is)

plain_up : (d : Delivered) → IsPlain d → d ≢ Down
plain_up d plain is = subst IsPlain is plain

plain_fine : (d : Delivered) → IsPlain d → d ≢ FlashFault
plain_fine d plain is = subst IsPlain is plain

-- a payload between two reboots that are due
pub delivers_ok : {F : Type 0} (seen : F → FlashSeen)
    (old mid then new : HeldDevice F) (d : Delivered) (t word mark : ℕ) (down : Downlink)
    → mid.sessions ≡ old.sessions → new.sessions ≡ then.sessions → IsUp old.sessions.state
    → ((table : SessionTable) → StateIsHeld old.sessions.state table (seen old.sessions.flash)
    → (c : List ℕ) → left (seen old.sessions.flash) c → TableLies old.sessions.layout table c)
    → Becomes old mid (after_due_reboot t)
    → Hears seen mid then (Ok d) (heard_delivery t word mark down) (arrival t word mark down)
    (reading_of down.port direction.Down down.payload) (heard_tables t word mark down)
    → Becomes then new (after_due_reboot t)
    → Delivers seen old new d t word mark down
delivers_ok {F} seen old mid then new d t word mark down same last up between first hears third =
    let fine = plain_fine d hears.answers in
    let on = keeps_at seen mid then.sessions new.sessions _ _ _ last hears.keeps in
    record {
      makes = λ plain. delivered_makes old mid then new t word mark down d first hears.makes third;
      down = λ is. absurd (plain_up d hears.answers is);
      up = λ is. up;
      still = λ is. absurd (plain_up d hears.answers is);
      fails = λ is. absurd (fine is);
      fault = λ is. absurd (fine is);
      quiet = λ memory. (fine, (on.quiet (ap (λ (s : HeldStore F). s.held) same ∙ memory)).1 ∙ ap (λ (s : HeldStore F). s.flash) same);
      stored = λ plain device stands stored.
          delivered_stored seen old mid then new _ t word mark down _ same last first hears.keeps device stands stored;
      any_moment = λ device stands held.
          delivered_moments seen old mid new.sessions _ t word mark down _ same first on device stands
          (between device.sessions held) held;
      again = λ is. absurd (fine is);
      laid = subst (λ (s : HeldStore F). IsLaidOut s new.sessions) same on.laid;
    }

-- one at which the flash failed
pub delivers_err : {F : Type 0} (seen : F → FlashSeen)
    (old mid new : HeldDevice F) (t word mark : ℕ) (down : Downlink)
    → mid.sessions ≡ old.sessions → IsUp old.sessions.state
    → ((table : SessionTable) → StateIsHeld old.sessions.state table (seen old.sessions.flash)
    → (c : List ℕ) → left (seen old.sessions.flash) c → TableLies old.sessions.layout table c)
    → Becomes old mid (after_due_reboot t)
    → Hears seen mid new (Err (record {})) (heard_delivery t word mark down) (arrival t word mark down)
    (reading_of down.port direction.Down down.payload) (heard_tables t word mark down)
    → Delivers seen old new FlashFault t word mark down
delivers_err {F} seen old mid new t word mark down same up between first hears = record {
  makes = λ plain. absurd (plain refl);
  down = λ is. absurd cc;
  up = λ is. up;
  still = λ is. absurd cc;
  fails = λ is device stands. failed_within t word mark down device new (hears.fails _ (first device stands));
  fault = λ is. subst (λ (s : HeldStore F). HasRisen (seen s.flash).faults (seen new.sessions.flash).faults) same hears.keeps.cause.failed;
  quiet = λ memory. let no : false ≡ true = (hears.keeps.quiet (ap (λ (s : HeldStore F). s.held) same ∙ memory)).0 in absurd cc;
  stored = λ plain. absurd (plain refl);
  any_moment = λ device stands held.
      delivered_moments seen old mid new.sessions _ t word mark down _ same first hears.keeps device stands
      (between device.sessions held) held;
  again = λ is device stands held b now.
      inr (delivered_again {A = Delivered} seen old mid new.sessions (record {}) t word mark down _ same first hears.keeps device stands held b now);
  laid = subst (λ (s : HeldStore F). IsLaidOut s new.sessions) same hears.keeps.laid;
}

-- ---- bytes that the radio heard

-- a payload that they brought, as it is delivered
pub airs_heard : {F : Type 0} (seen : F → FlashSeen)
    (old new : HeldDevice F) (d : Delivered) (t word mark : ℕ) (bytes : List ℕ) (down : Downlink)
    → ((table : SessionTable) → Ok down ≡ brought (device_of old table) bytes)
    → Delivers seen old new d t word mark down
    → Airs seen old new (Heard d) t word mark bytes
airs_heard seen old new d t word mark bytes down is delivers = record {
  makes = aired_makes old new d t word mark bytes down is delivers.makes;
  down = λ heard. delivers.down (same_heard d Down heard);
  up = λ other. delivers.up (λ e. other (ap Heard e));
  still = λ heard. delivers.still (same_heard d Down heard);
  fails = aired_fails old new d t word mark bytes down is delivers.fails;
  fault = λ heard. delivers.fault (same_heard d FlashFault heard);
  quiet = λ memory. ((λ heard. (delivers.quiet memory).0 (same_heard d FlashFault heard)), (delivers.quiet memory).1);
  stored = aired_stored seen old new d t word mark bytes down is delivers.stored;
  any_moment = aired_moments seen old new t word mark bytes down is delivers.any_moment;
  again = λ heard. aired_again seen old new t word mark bytes down is (delivers.again (same_heard d FlashFault heard));
  laid = delivers.laid;
}

-- bytes that are foreign are counted
pub airs_foreign : {F : Type 0} (seen : F → FlashSeen)
    (old new : HeldDevice F) (t word mark : ℕ) (bytes : List ℕ) (fault : FrameFault)
    → new.sessions ≡ old.sessions → IsUp old.sessions.state
    → ((table : SessionTable) → StateIsHeld old.sessions.state table (seen old.sessions.flash)
    → (c : List ℕ) → left (seen old.sessions.flash) c → TableLies old.sessions.layout table c)
    → ((table : SessionTable) → Err fault ≡ brought (device_of old table) bytes)
    → Becomes old new (λ device. with_counts after_deaf (after_due_reboot t device))
    → Airs seen old new (Foreign fault) t word mark bytes
airs_foreign {F} seen old new t word mark bytes fault same up between is becomes = record {
  makes = λ plain. foreign_makes old new t word mark bytes fault is becomes;
  down = λ heard. absurd cc;
  up = λ other. up;
  still = λ heard. absurd cc;
  fails = λ heard. absurd cc;
  fault = λ heard. absurd cc;
  quiet = λ memory. ((λ heard. cc), ap (λ (s : HeldStore F). s.flash) same);
  stored = λ plain. foreign_stored seen old new t word mark bytes fault same is;
  any_moment = λ device stands held.
      subst (λ (s : HeldStore F). LeavesOnly
      (λ c. TableLies old.sessions.layout device.sessions c ⊎ LiesOneOf old.sessions.layout (tables_aired t word mark bytes device) c)
      (seen old.sessions.flash) (seen s.flash)) (sym same)
      (record {
        later = omega arith;
        each = λ c l. inl (between device.sessions held c l);
        earlier = λ u c le l. inl l;
        last = λ c l. inl (between device.sessions held c l);
      });
  again = λ heard. absurd cc;
  laid = record { layout = ap (λ (s : HeldStore F). s.layout) same; held = ap (λ (s : HeldStore F). s.held) same };
}
