-- Power comes to a device over a flash of cells for the first time.
use Rattle.std.proofs.Common.{◌≡◌, ℕ, ◌*◌, zero, suc, true, false, List, get_or, replicate, Result, Ok, Err, IfErr, MatchResult, refl, sym, ap, subst, ◌∙◌, arith}
use Rattle.frag_session.specs.Session.{view_of}
use Rattle.flash_session.specs.declared.fault.OpenFault.{OpenFault}
use Rattle.flash_session.specs.declared.fault.OpenFault.TheVariants as fault
use Rattle.flash_session.specs.Contents.{byte_at, Same, Follows, HasRisen}
use Rattle.flash_session.specs.Flashes.{Cells, cells_seen}
use Rattle.flash_session.specs.Seen.{FlashSeen}
use Rattle.session_store.specs.Size.{SizedLayout}
use Rattle.session_store.specs.declared.state.State.{State}
use Rattle.session_store.specs.declared.state.State.TheVariants.{Memory, Flash, Down}
use Rattle.session_store.specs.declared.state.CompleteFlags.{CompleteFlags}
use Rattle.session_store.specs.HeldPlaces.{TableLies}
use Rattle.session_store.specs.CompleteFlags.{none_complete, flags_of}
use Rattle.device_core.specs.Configuration.{Configuration}
use Rattle.device_core.specs.Device.{DeviceState, first_device}
use Rattle.device_core.specs.HeldPower.{HadWhole}
use Rattle.device_core.specs.HeldDevice.{HeldDevice, device_of, DeviceStands, Starts}
use Rattle.device_core.specs.HeldSessions.{IsInFlash, StateIsStored}
use Rattle.device_core.specs.Power.{after_power}
use Rattle.device_core.specs.SessionTable.{SessionTable, no_sessions}
use Rattle.device_core.proofs.Keeping.{no_rise}
use Rattle.device_core.proofs.Outboxes.{outbox_is}
use Rattle.device_core.proofs.Quiet.{power_is_quiet}
use Rattle.campaign_world.specs.HeldLate.{IsAtRest}

zeros : (n i : ℕ) → ◌≡◌ {A = ℕ} (get_or {A = ℕ} (replicate {A = ℕ} n 0) i 0) 0
zeros zero i = refl
zeros (suc n) zero = refl
zeros (suc n) (suc i) = zeros n i

-- there is no session in cells that are 0
blank_at : (n : ℕ) (b : List ℕ) (base : ℕ) → Same (replicate n 0) b → byte_at b base ≡ 0xa5 → ⊥
blank_at n b base same is = let none : byte_at b base ≡ 0 = same.all base ∙ zeros n base in omega (arith, none, is)

pub nothing_lies : (l : SizedLayout) (n : ℕ) (b : List ℕ) → Same (replicate n 0) b → TableLies l no_sessions b
nothing_lies l n b same = record {
  first = blank_at n b 0 same;
  second = blank_at n b l.span same;
  third = blank_at n b (2 * l.span) same;
  fourth = blank_at n b (3 * l.span) same;
}

-- what is not in flash is in memory, where nothing is stored
stored_memory : (s : State) (t : SessionTable) (flash : FlashSeen) → (IsInFlash s → ⊥) → StateIsStored s t flash
stored_memory (Memory slots) t flash not = tt
stored_memory (Flash slots) t flash not = absurd (not tt)
stored_memory (Down idles whole) t flash not = absurd (not tt)

-- a device that is not held is up from its start
pub memory_rests : (config : Configuration) (flash : Cells) (held : HeldDevice Cells) → Starts config flash held → held.sessions.held ≡ false
    → (IsInFlash held.sessions.state → ⊥) → IsAtRest held (first_device config)
memory_rests config flash held starts memory not =
    let stands = starts.up (sym starts.held_is ∙ memory) in record {
      stands = stands;
      stored = stored_memory held.sessions.state no_sessions _ not;
      empty = sym (outbox_is held (first_device config) stands);
    }

-- ---- power

-- cells do not fail
pub no_fault : {P Q : Type 0} (r : Result (Unit {0}) OpenFault) → MatchResult r (λ ok. P × Q) (λ e. e ≡ fault.Flash) → IfErr r (λ e. e ≡ fault.Flash → HasRisen 0 0) → P × Q
no_fault (Ok ok) either rises = either
no_fault (Err e) either rises = absurd (no_rise (rises either))

-- at first no file is whole
none_are_whole : flags_of no_sessions ≡ none_complete
unfolding view_of
none_are_whole = refl

first_quiet : (config : Configuration) → after_power none_complete no_sessions (first_device config) ≡ first_device config
first_quiet config =
    ap (λ (w : CompleteFlags). after_power w no_sessions (first_device config)) (sym none_are_whole) ∙ power_is_quiet (first_device config)

pub first_rests : (config : Configuration) (n : ℕ) (old new : HeldDevice Cells) (r : Result (Unit {0}) OpenFault) → Starts config old.sessions.flash old
    → old.sessions.flash.bytes ≡ replicate n 0 → old.sessions.held ≡ true
    → ((whole : CompleteFlags) → HadWhole old.sessions.state whole → (table : SessionTable) (b : List ℕ) → b ≡ new.sessions.flash.bytes
    → TableLies old.sessions.layout table b
    → MatchResult r
    (λ ok. DeviceStands new (after_power whole table (device_of old table))
    × StateIsStored new.sessions.state table (cells_seen new.sessions.flash.bytes)) (λ e. e ≡ fault.Flash))
    → Follows Same (λ c. c ≡ old.sessions.flash.bytes) (λ c. c ≡ new.sessions.flash.bytes)
    → IfErr r (λ e. e ≡ fault.Flash → HasRisen 0 0)
    → IsAtRest new (first_device config)
first_rests config n old new r starts blank is_held opened follows rises =
    let down = starts.down (sym starts.held_is ∙ is_held) in
    let had : HadWhole old.sessions.state none_complete = subst (λ (s : State). HadWhole s none_complete) (sym down.1) refl in
    let from = follows.from new.sessions.flash.bytes refl in
    let same : Same (replicate n 0) new.sessions.flash.bytes = subst (λ (b : List ℕ). Same b new.sessions.flash.bytes) (from.1 ∙ blank) from.2 in
    let both = no_fault r (opened none_complete had no_sessions new.sessions.flash.bytes refl (nothing_lies old.sessions.layout n new.sessions.flash.bytes same)) rises in
    let stands : DeviceStands new (first_device config) =
    subst (λ (d : DeviceState). DeviceStands new d)
    (ap (λ (d : DeviceState). after_power none_complete no_sessions d) starts.rest ∙ first_quiet config) both.0 in
    record { stands = stands; stored = both.1; empty = sym (outbox_is new (first_device config) stands) }
