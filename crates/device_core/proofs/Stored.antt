-- What a setup, a deletion and a fragment leave of the sessions that are stored.
use Rattle.std.proofs.Common.{◌≡◌, ℕ, ◌==◌, Bool, true, false, cond, List, [], ◌∷◌, None, Result, inl, inr, refl, sym, ap, subst, ◌∙◌}
use Rattle.std.specs.Prelude.{is_none}
use Rattle.frag_session.specs.declared.setups.SetupReq.{SetupReq}
use Rattle.frag_session.specs.Session.{after_fragment, drop_cause}
use Rattle.flash_session.specs.Seen.{FlashSeen}
use Rattle.session_store.specs.HeldPlaces.{TableLies, TableOldOrNew, TableOldNoneOrNew}
use Rattle.session_store.specs.declared.store.FlashFault.{FlashFault}
use Rattle.device_core.specs.declared.arrival.Arrival.{Arrival}
use Rattle.device_core.specs.Configuration.{Configuration}
use Rattle.device_core.specs.declared.uplink.Answer.{Answer}
use Rattle.device_core.specs.Answers.{after_answers}
use Rattle.device_core.specs.Device.{DeviceState, layout_of}
use Rattle.device_core.specs.Fragments.{setup_step, delete_step, heard_step, fragment_step}
use Rattle.device_core.specs.HeldCalls.{Keeps}
use Rattle.device_core.specs.HeldDevice.{HeldDevice, DeviceStands, held_with_answers}
use Rattle.device_core.specs.HeldSessions.{HeldStore, store_room}
use Rattle.device_core.specs.Passed.{LiesOneOf}
use Rattle.device_core.specs.SessionTable.{SessionTable, session_at, with_session, table_after_setup, table_after_fragment}
use Rattle.device_core.proofs.Heard.{setup_table_is}

-- the store, after what was sent
pub sent_sessions : {F : Type 0} (mid new : HeldDevice F) (answers : List Answer) → new ≡ held_with_answers mid answers → new.sessions ≡ mid.sessions
sent_sessions {F} mid new answers is = ap (λ (h : HeldDevice F). h.sessions) is

pub keeps_at : {F A : Type 0} (seen : F → FlashSeen)
    (old : HeldDevice F) (store new : HeldStore F) (r : Result A FlashFault) (after : DeviceState → DeviceState) (tables : DeviceState → List SessionTable)
    → new ≡ store → Keeps seen old store r after tables → Keeps seen old new r after tables
keeps_at {F} seen old store new r after tables is keeps =
    subst (λ (s : HeldStore F). Keeps seen old s r after tables) (sym is) keeps

-- ---- a setup

abbrev pub setup_table : {F : Type 0} → HeldStore F → SetupReq → SessionTable → SessionTable
setup_table store req t = table_after_setup store.layout.limits (store_room store.layout store.held) req t

config_is : {F : Type 0} (old : HeldDevice F) (config : Configuration) (device : DeviceState) → old.config ≡ config → DeviceStands old device → config ≡ device.config
config_is old config device is stands = sym (ap (λ (d : DeviceState). d.config) stands.rest ∙ is)

setup_sessions : {F : Type 0} (here : Arrival) (old : HeldDevice F) (store : HeldStore F) (config : Configuration) (req : SetupReq) (device : DeviceState)
    → old.config ≡ config → store.layout ≡ layout_of config → store.held ≡ config.held → DeviceStands old device
    → (setup_step here device req).device.sessions ≡ setup_table store req device.sessions
unfolding setup_step
setup_sessions here old store config req device is laid held stands =
    sym (setup_table_is store.layout store.held device.config req device.sessions
    (laid ∙ ap (λ (k : Configuration). layout_of k) (config_is old config device is stands))
    (held ∙ ap (λ (k : Configuration). k.held) (config_is old config device is stands)))

pub setup_goes : {F : Type 0} (here : Arrival) (old : HeldDevice F) (store : HeldStore F) (config : Configuration) (req : SetupReq) (device : DeviceState)
    → old.config ≡ config → store.layout ≡ layout_of config → store.held ≡ config.held → DeviceStands old device
    → (after_answers (setup_step here device req)).sessions ≡ setup_table store req device.sessions
unfolding after_answers
setup_goes here old store config req device is laid held stands = setup_sessions here old store config req device is laid held stands

pub setup_passes : {F : Type 0} (here : Arrival) (old : HeldDevice F) (store : HeldStore F) (config : Configuration) (req : SetupReq) (device : DeviceState) (b : List ℕ)
    → old.config ≡ config → store.layout ≡ layout_of config → store.held ≡ config.held → DeviceStands old device → TableOldNoneOrNew store.layout req.index device.sessions (setup_table store req device.sessions) b
    → LiesOneOf store.layout (device.sessions ∷ with_session device.sessions req.index None ∷ (setup_step here device req).device.sessions ∷ []) b
setup_passes here old store config req device b is laid held stands (inl before) = inl before
setup_passes here old store config req device b is laid held stands (inr (inl between)) = inr (inl between)
setup_passes here old store config req device b is laid held stands (inr (inr behind)) =
    inr (inr (inl (subst (λ (t : SessionTable). TableLies store.layout t b) (sym (setup_sessions here old store config req device is laid held stands)) behind)))

-- ---- a deletion

pub delete_goes : (here : Arrival) (index : ℕ) (device : DeviceState)
    → (after_answers (delete_step here device index)).sessions ≡ with_session device.sessions index None
unfolding after_answers delete_step
delete_goes here index device = refl

pub delete_passes : {F : Type 0} (here : Arrival) (store : HeldStore F) (index : ℕ) (device : DeviceState) (b : List ℕ)
    → TableOldOrNew store.layout device.sessions (with_session device.sessions index None) b
    → LiesOneOf store.layout (device.sessions ∷ with_session device.sessions index None ∷ (delete_step here device index).device.sessions ∷ []) b
delete_passes here store index device b (inl before) = inl before
delete_passes here store index device b (inr between) = inr (inl between)

-- ---- a fragment

-- with the session that was there
put_back : (t : SessionTable) (index : ℕ) → with_session t index (session_at t index) ≡ t
put_back t index = by_index (index == 0) (index == 1) (index == 2)
  where
    by_index : (x y z : Bool)
        → (let s = cond x t.first (cond y t.second (cond z t.third t.fourth)) in
        cond x (record t { first = s }) (cond y (record t { second = s }) (cond z (record t { third = s }) (record t { fourth = s })))) ≡ t
    by_index true y z = refl
    by_index false true z = refl
    by_index false false true = refl
    by_index false false false = refl

fragment_sessions : (here : Arrival) (index n : ℕ) (part : List ℕ) (device : DeviceState)
    → (fragment_step here device index n part).device.sessions ≡ table_after_fragment index here.via n part here.moment.mark device.sessions
unfolding fragment_step heard_step after_fragment
fragment_sessions here index n part device = by_cause (is_none (drop_cause (session_at device.sessions index) here.via n part)) refl
  where
    by_cause : (c : Bool) → is_none (drop_cause (session_at device.sessions index) here.via n part) ≡ c
        → (fragment_step here device index n part).device.sessions ≡ table_after_fragment index here.via n part here.moment.mark device.sessions
    by_cause true is = rw is refl
    by_cause false is = rw is (sym (put_back device.sessions index))

pub fragment_goes : (here : Arrival) (index n : ℕ) (part : List ℕ) (device : DeviceState)
    → (after_answers (fragment_step here device index n part)).sessions ≡ table_after_fragment index here.via n part here.moment.mark device.sessions
unfolding after_answers
fragment_goes here index n part device = fragment_sessions here index n part device

pub fragment_passes : {F : Type 0} (here : Arrival) (store : HeldStore F) (index n : ℕ) (part : List ℕ) (device : DeviceState) (b : List ℕ)
    → TableOldOrNew store.layout device.sessions (table_after_fragment index here.via n part here.moment.mark device.sessions) b
    → LiesOneOf store.layout (device.sessions ∷ (fragment_step here device index n part).device.sessions ∷ []) b
fragment_passes here store index n part device b (inl before) = inl before
fragment_passes here store index n part device b (inr behind) =
    inr (inl (subst (λ (t : SessionTable). TableLies store.layout t b) (sym (fragment_sessions here index n part device)) behind))
