-- What the flash of a device holds and may be left with, call by call.
use Rattle.std.proofs.Common.{◌≡◌, ◌⊎◌, ℕ, ◌≤◌, true, false, List, [], ◌∷◌, ◌++◌, Result, Ok, Err, OnOk, OnErr, IsErr, inl, inr, refl, sym, ap, subst, ◌∙◌, arith}
use Rattle.flash_session.specs.Contents.{HasRisen}
use Rattle.flash_session.specs.Moments.{LeavesOnly}
use Rattle.flash_session.specs.Seen.{FlashSeen, left}
use Rattle.session_store.specs.Size.{SizedLayout}
use Rattle.session_store.specs.declared.store.FlashFault.{FlashFault}
use Rattle.session_store.specs.declared.state.State.{State}
use Rattle.session_store.specs.declared.state.State.TheVariants.{Memory, Flash, Down}
use Rattle.device_core.specs.Device.{DeviceState}
use Rattle.device_core.specs.HeldCalls.{LeavesBesides, Keeps}
use Rattle.device_core.specs.HeldDevice.{HeldDevice, DeviceStands}
use Rattle.session_store.specs.HeldStore.{StoreServes}
use Rattle.device_core.specs.HeldSessions.{HeldStore, IsUp, IsInFlash, StateIsStored, StateIsHeld, IsLaidOut}
use Rattle.device_core.specs.Passed.{LiesOneOf}
use Rattle.device_core.specs.SessionTable.{SessionTable}

-- ---- what a stop leaves

-- nothing was called
pub besides_none : (P : List ℕ → Type 0) (flash : FlashSeen) → LeavesBesides P flash flash
besides_none P flash = record { later = omega arith; earlier = λ t c le now. inl now; last = λ c now. inl now }

-- one run after another
pub besides_more : (P Q R : List ℕ → Type 0) (old mid new : FlashSeen) → ((c : List ℕ) → P c → R c) → ((c : List ℕ) → Q c → R c)
    → LeavesBesides P old mid → LeavesBesides Q mid new → LeavesBesides R old new
besides_more P Q R old mid new first second run more = record {
  later = omega (arith, run.later, more.later);
  earlier = λ t c le now. elim (more.earlier t c (omega (arith, le, run.later)) now) [
    | inl before ↦ elim (run.earlier t c le before) [
      | inl long_before ↦ inl long_before
      | inr then ↦ inr (first c then)
    ]
    | inr then ↦ inr (second c then)
  ];
  last = λ c now. elim (more.last c now) [
    | inl before ↦ elim (run.last c before) [
      | inl long_before ↦ inl long_before
      | inr then ↦ inr (first c then)
    ]
    | inr then ↦ inr (second c then)
  ];
}

besides_as : (P Q : List ℕ → Type 0) (old new : FlashSeen) → ((c : List ℕ) → P c → Q c) → LeavesBesides P old new → LeavesBesides Q old new
besides_as P Q old new to run = record {
  later = run.later;
  earlier = λ t c le now. elim (run.earlier t c le now) [ inl before ↦ inl before | inr then ↦ inr (to c then) ];
  last = λ c now. elim (run.last c now) [ inl before ↦ inl before | inr then ↦ inr (to c then) ];
}

besides_of : (P Q : List ℕ → Type 0) (old new : FlashSeen) → ((c : List ℕ) → P c → Q c) → LeavesOnly P old new → LeavesBesides Q old new
besides_of P Q old new to run = record {
  later = run.later;
  earlier = λ t c le now. elim (run.earlier t c le now) [ inl before ↦ inl before | inr then ↦ inr (to c then) ];
  last = λ c now. inr (to c (run.last c now));
}

-- where what it might leave before is known
pub leaves_only : (P Q : List ℕ → Type 0) (old new : FlashSeen) → ((c : List ℕ) → left old c → Q c) → LeavesBesides P old new
    → LeavesOnly (λ c. Q c ⊎ P c) old new
leaves_only P Q old new here run = record {
  later = run.later;
  each = λ c now. elim (run.earlier old.moment c (omega arith) now) [ inl before ↦ inl (here c before) | inr then ↦ inr then ];
  earlier = λ t c le now. elim (run.earlier t c le now) [ inl before ↦ inl before | inr then ↦ inr (inr then) ];
  last = λ c now. elim (run.last c now) [ inl before ↦ inl (here c before) | inr then ↦ inr then ];
}

-- ---- tables

pub lies_left : (l : SizedLayout) (some more : List SessionTable) (c : List ℕ) → LiesOneOf l some c → LiesOneOf l (some ++ more) c
lies_left l [] more c lies = absurd lies
lies_left l (t ∷ some) more c (inl lies) = inl lies
lies_left l (t ∷ some) more c (inr lies) = inr (lies_left l some more c lies)

pub lies_right : (l : SizedLayout) (some more : List SessionTable) (c : List ℕ) → LiesOneOf l more c → LiesOneOf l (some ++ more) c
lies_right l [] more c lies = lies
lies_right l (t ∷ some) more c lies = inr (lies_right l some more c lies)

-- ---- where they are

pub held_of : (s : State) (t : SessionTable) (flash : FlashSeen) → IsInFlash s → StateIsStored s t flash → StateIsHeld s t flash
held_of (Memory slots) t flash up stored = absurd up
held_of (Flash slots) t flash up stored = stored
held_of (Down idles whole) t flash up stored = absurd stored

pub stored_of : (s : State) (t : SessionTable) (flash : FlashSeen) → StateIsHeld s t flash → StateIsStored s t flash
stored_of (Memory slots) t flash held = absurd held
stored_of (Flash slots) t flash held = held
stored_of (Down idles whole) t flash held = absurd held

pub in_flash_of : (s : State) (t : SessionTable) (flash : FlashSeen) → StateIsHeld s t flash → IsInFlash s
in_flash_of (Memory slots) t flash held = absurd held
in_flash_of (Flash slots) t flash held = tt
in_flash_of (Down idles whole) t flash held = absurd held

-- ---- calls

-- no session was touched
pub keeps_untouched : {F A : Type 0} (seen : F → FlashSeen)
    (old : HeldDevice F) (new : HeldStore F) (x : A) (after : DeviceState → DeviceState) (tables : DeviceState → List SessionTable)
    → new ≡ old.sessions → IsUp old.sessions.state
    → ((device : DeviceState) → DeviceStands old device → (after device).sessions ≡ device.sessions)
    → Keeps seen old new (Ok x) after tables
keeps_untouched {F} {A} seen old new x after tables is up stays =
    subst (λ (s : HeldStore F). Keeps {A = A} seen old s (Ok x) after tables) (sym is) (record {
      up = up;
      in_flash = λ flash. flash;
      stored = λ device stands was.
          subst (λ (t : SessionTable). StateIsStored old.sessions.state t (seen old.sessions.flash))
          (sym (stays device stands)) was;
      moments = λ device stands was. besides_none _ _;
      again = λ device stands was. tt;
      laid = record { layout = refl; held = refl };
      quiet = λ memory. (refl, refl);
      cause = record { later = omega arith; failed = tt };
    })

-- the store of sessions was called, and answered
pub keeps_ok : {F A B : Type 0} (seen : F → FlashSeen)
    (old : HeldDevice F) (store new : HeldStore F) (x : A) (y : B) (after : DeviceState → DeviceState) (tables : DeviceState → List SessionTable)
    (goes : SessionTable → SessionTable) (leaves : (old new : SessionTable) → List ℕ → Type 0) → old.sessions ≡ store
    → ((device : DeviceState) → DeviceStands old device → (after device).sessions ≡ goes device.sessions)
    → ((device : DeviceState) (c : List ℕ) → DeviceStands old device → leaves device.sessions (goes device.sessions) c
    → LiesOneOf store.layout (tables device) c)
    → StoreServes seen goes leaves store new (Ok y) → Keeps seen old new (Ok x) after tables
keeps_ok {F} seen old store new x y after tables goes leaves same is those serves = record {
  up = serves.up;
  in_flash = λ was. serves.in_flash (subst (λ (s : HeldStore F). IsInFlash s.state) same was);
  stored = λ device stands was.
      subst (λ (t : SessionTable). StateIsStored new.state t (seen new.flash))
      (sym (is device stands)) (serves.stored device.sessions
      (subst (λ (s : HeldStore F). StateIsStored s.state device.sessions (seen s.flash)) same was));
  moments = λ device stands was.
      subst (λ (s : HeldStore F). LeavesBesides (LiesOneOf s.layout (tables device)) (seen s.flash) (seen new.flash)) (sym same)
      (besides_of _ _ _ _ (λ c lies. those device c stands lies) (serves.any_moment device.sessions
      (subst (λ (s : HeldStore F). StateIsHeld s.state device.sessions (seen s.flash)) same was)));
  again = λ device stands was. tt;
  laid = subst (λ (s : HeldStore F). IsLaidOut s new) (sym same) serves.laid;
  quiet = λ memory. (refl, (serves.quiet (sym (ap (λ (s : HeldStore F). s.held) same) ∙ memory)).1 ∙ sym (ap (λ (s : HeldStore F). s.flash) same));
  cause = record { later = subst (λ (s : HeldStore F). (seen s.flash).faults ≤ (seen new.flash).faults) (sym same) serves.cause.later; failed = tt };
}

-- its flash failed
pub keeps_err : {F A B : Type 0} (seen : F → FlashSeen)
    (old : HeldDevice F) (store new : HeldStore F) (e f : FlashFault) (after : DeviceState → DeviceState) (tables : DeviceState → List SessionTable)
    (goes : SessionTable → SessionTable) (leaves : (old new : SessionTable) → List ℕ → Type 0) → old.sessions ≡ store
    → ((device : DeviceState) (c : List ℕ) → DeviceStands old device → leaves device.sessions (goes device.sessions) c
    → LiesOneOf store.layout (tables device) c)
    → StoreServes {Answer = B} seen goes leaves store new (Err f) → Keeps {A = A} seen old new (Err e) after tables
keeps_err {F} seen old store new e f after tables goes leaves same those serves = record {
  up = tt;
  in_flash = λ flash. tt;
  stored = λ device stands was. tt;
  moments = λ device stands was.
      subst (λ (s : HeldStore F). LeavesBesides (LiesOneOf s.layout (tables device)) (seen s.flash) (seen new.flash)) (sym same)
      (besides_of _ _ _ _ (λ c lies. those device c stands lies) (serves.any_moment device.sessions
      (subst (λ (s : HeldStore F). StateIsHeld s.state device.sessions (seen s.flash)) same was)));
  again = λ device stands was b now.
      subst (λ (s : HeldStore F). LiesOneOf s.layout (tables device) b) (sym same)
      (those device b stands (serves.again device.sessions
      (subst (λ (s : HeldStore F). StateIsHeld s.state device.sessions (seen s.flash)) same was) b now));
  laid = subst (λ (s : HeldStore F). IsLaidOut s new) (sym same) serves.laid;
  quiet = λ memory. let no : false ≡ true = (serves.quiet (sym (ap (λ (s : HeldStore F). s.held) same) ∙ memory)).0 in absurd cc;
  cause = record {
    later = subst (λ (s : HeldStore F). (seen s.flash).faults ≤ (seen new.flash).faults) (sym same) serves.cause.later;
    failed = subst (λ (s : HeldStore F). HasRisen (seen s.flash).faults (seen new.flash).faults) (sym same) serves.cause.failed;
  };
}

-- the same of what is as much
pub keeps_as : {F A B : Type 0} (seen : F → FlashSeen)
    (old : HeldDevice F) (new : HeldStore F) (x : A) (y : B) (after then : DeviceState → DeviceState) (tables those : DeviceState → List SessionTable)
    → ((device : DeviceState) → DeviceStands old device → (then device).sessions ≡ (after device).sessions)
    → ((device : DeviceState) (c : List ℕ) → DeviceStands old device → LiesOneOf old.sessions.layout (tables device) c → LiesOneOf old.sessions.layout (those device) c)
    → Keeps seen old new (Ok x) after tables → Keeps seen old new (Ok y) then those
keeps_as seen old new x y after then tables those is more keeps = record {
  up = keeps.up;
  in_flash = keeps.in_flash;
  stored = λ device stands was.
      subst (λ (t : SessionTable). StateIsStored new.state t (seen new.flash))
      (sym (is device stands)) (keeps.stored device stands was);
  moments = λ device stands was. besides_as _ _ _ _ (λ c lies. more device c stands lies) (keeps.moments device stands was);
  again = λ device stands was. tt;
  laid = keeps.laid;
  quiet = λ memory. (refl, (keeps.quiet memory).1);
  cause = record { later = keeps.cause.later; failed = tt };
}

pub keeps_failed : {F A B : Type 0} (seen : F → FlashSeen)
    (old : HeldDevice F) (new : HeldStore F) (e f : FlashFault) (after then : DeviceState → DeviceState) (tables those : DeviceState → List SessionTable)
    → ((device : DeviceState) (c : List ℕ) → DeviceStands old device → LiesOneOf old.sessions.layout (tables device) c → LiesOneOf old.sessions.layout (those device) c)
    → Keeps {A = A} seen old new (Err e) after tables → Keeps {A = B} seen old new (Err f) then those
keeps_failed seen old new e f after then tables those more keeps = record {
  up = tt;
  in_flash = λ flash. tt;
  stored = λ device stands was. tt;
  moments = λ device stands was. besides_as _ _ _ _ (λ c lies. more device c stands lies) (keeps.moments device stands was);
  again = λ device stands was b now. more device b stands (keeps.again device stands was b now);
  laid = keeps.laid;
  quiet = λ memory. let no : false ≡ true = (keeps.quiet memory).0 in absurd cc;
  cause = record { later = keeps.cause.later; failed = keeps.cause.failed };
}

-- a fault that is handed on
pub keeps_erring : {F A B : Type 0} (seen : F → FlashSeen)
    (old : HeldDevice F) (new : HeldStore F) (e : FlashFault) (r : Result B FlashFault) (after : DeviceState → DeviceState) (tables : DeviceState → List SessionTable)
    → IsErr r → Keeps {A = A} seen old new (Err e) after tables → Keeps {A = B} seen old new r after tables
keeps_erring seen old new e (Ok x) after tables err keeps = absurd cc
keeps_erring seen old new e (Err f) after tables err keeps =
    keeps_failed seen old new e f after after tables tables (λ device c stands lies. lies) keeps

pub on_err : {T E P : Type 0} (r : Result T E) → P → OnErr r P
on_err (Ok x) holds = tt
on_err (Err e) holds = holds

pub not_ok : {T E : Type 0} (P : Type 0) (r : Result T E) → IsErr r → OnOk r P
not_ok P (Ok x) err = absurd cc
not_ok P (Err e) err = tt

-- ---- a flash that never fails

pub no_rise : HasRisen 0 0 → ⊥
no_rise risen = omega (arith, risen)
