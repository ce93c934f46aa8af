-- What sessions make of a setup, of a deletion, and of a fragment that is heard, or dropped.
use Rattle.std.proofs.Common.{◌≡◌, ℕ, ◌+◌, ◌≤◌, Bool, true, false, List, [], ◌∷◌, ◌++◌, length, Option, Some, None, append-nil, length-append, refl, ap, subst, ◌∙◌, arith}
use Rattle.std.specs.Prelude.{is_none, is_some, not}
use Rattle.frag_session.specs.Setup.{setup_bits}
use Rattle.frag_session.specs.declared.setups.SetupReq.{SetupReq}
use Rattle.session_store.specs.Size.{SizedLayout}
use Rattle.cast_wire.specs.SetupRefusal.{setup_answer}
use Rattle.cast_wire.specs.declared.cmd.Cmd.TheVariants.{FragSessionDeleteAns}
use Rattle.package_grammar.specs.declared.command.Command.{Command}
use Rattle.package_grammar.specs.declared.command.Command.TheVariants.{Cast}
use Rattle.device_core.specs.Configuration.{Configuration}
use Rattle.device_core.specs.declared.uplink.Uplink.{Uplink}
use Rattle.frag_session.specs.declared.answers.Cause.{Cause}
use Rattle.frag_session.specs.declared.answers.Heard.TheVariants as answer
use Rattle.frag_session.specs.declared.answers.News.{News}
use Rattle.frag_session.specs.Session.{answer_of, drop_cause, news_in, view_of}
use Rattle.image_slots.specs.Slots.{Slots}
use Rattle.device_core.specs.declared.arrival.Arrival.{Arrival}
use Rattle.device_core.specs.SessionTable.{SessionTable, session_at, with_session, table_after_setup, table_after_fragment}
use Rattle.device_core.specs.Device.{after_dropped, limits_of, layout_of, room_of}
use Rattle.device_core.specs.Answers.{after_answers, answer_at_once}
use Rattle.device_core.specs.Fragments.{setup_step, delete_step, is_whole, whole_file, slots_after, heard_step, fragment_step}
use Rattle.device_core.specs.HeldSessions.{HeldStore, StateStands, store_room}
use Rattle.device_core.specs.HeldDevice.{HeldDevice, Steps, held_with_answers}

pub some_there : {A : Type 0} (o : Option A) → (o ≡ None → ⊥) → is_none o ≡ false
some_there None none = absurd (none refl)
some_there (Some x) none = refl

pub no_cause : (cause : Option Cause) (its_news whether : News) → answer.Fed its_news ≡ answer_of cause whether → is_none cause ≡ true
unfolding answer_of
no_cause None its_news whether is = refl
no_cause (Some c) its_news whether is = absurd cc

pub a_cause : (cause : Option Cause) (c : Cause) (whether : News) → answer.Dropped c ≡ answer_of cause whether → is_none cause ≡ false
unfolding answer_of
a_cause None c whether is = absurd cc
a_cause (Some d) c whether is = refl

-- ---- steps

-- a fragment that a session heard
pub heard_steps : {F : Type 0} (here : Arrival) (old : HeldDevice F) (sessions : HeldStore F) (slots : Slots) (hw index n : ℕ)
    (part : List ℕ) (was_whole : Bool) (its_news : News) → hw ≡ old.config.hw
    → ((table : SessionTable) → StateStands old.sessions.state table → was_whole ≡ is_whole (view_of (session_at table index)))
    → ((table : SessionTable) → StateStands old.sessions.state table
    → answer.Fed its_news ≡ answer_of (drop_cause (session_at table index) here.via n part)
    (news_in (session_at table index) n part here.moment.mark))
    → ((table : SessionTable) → StateStands old.sessions.state table
    → StateStands sessions.state (table_after_fragment index here.via n part here.moment.mark table))
    → ((table : SessionTable) → StateStands sessions.state table
    → slots ≡ slots_after hw was_whole (whole_file (view_of (session_at table index))) old.slots)
    → Steps old (record old { sessions = sessions; slots = slots }) 0 (λ device. fragment_step here device index n part)
unfolding after_answers fragment_step heard_step
heard_steps here old sessions slots hw index n part was_whole its_news hw_is was fed stand offers = record {
  stands = λ device stands.
      let table = device.sessions in
      let after = table_after_fragment index here.via n part here.moment.mark table in
      let file = whole_file (view_of (session_at after index)) in
      let heard = stand table stands.sessions in
      let slots_are : slots ≡ slots_after old.config.hw (is_whole (view_of (session_at table index))) file old.slots =
      offers after heard
      ∙ ap (λ b. slots_after hw b file old.slots) (was table stands.sessions)
      ∙ ap (λ h. slots_after h (is_whole (view_of (session_at table index))) file old.slots) hw_is in
      rw (stands.rest, no_cause _ its_news _ (fed table stands.sessions)) (record {
        sessions = heard;
        rest = rw (append-nil old.outbox, ← slots_are) refl;
      });
  few = omega arith;
}

-- a fragment that was dropped
pub dropped_steps : {F : Type 0} (here : Arrival) (old new : HeldDevice F) (index n : ℕ) (part : List ℕ) (cause : Cause)
    → new ≡ record old { counts = after_dropped old.counts }
    → ((table : SessionTable) → StateStands old.sessions.state table
    → answer.Dropped cause ≡ answer_of (drop_cause (session_at table index) here.via n part)
    (news_in (session_at table index) n part here.moment.mark))
    → Steps old new 0 (λ device. fragment_step here device index n part)
unfolding after_answers fragment_step
dropped_steps here old new index n part cause is dropped = rw is (record {
  stands = λ device stands. rw (stands.rest, a_cause _ cause _ (dropped device.sessions stands.sessions)) (record {
    sessions = stands.sessions;
    rest = rw (append-nil old.outbox) refl;
  });
  few = omega arith;
})

-- ---- a setup and a deletion

-- with the limits and the room of the configuration
pub setup_bits_are : (l : SizedLayout) (held : Bool) (config : Configuration) (req : SetupReq) → l ≡ layout_of config → held ≡ config.held
    → setup_bits l.limits (store_room l held) req ≡ setup_bits (limits_of config) (room_of config) req
setup_bits_are l held config req laid is =
    ap (λ (k : SizedLayout). setup_bits k.limits (store_room k held) req) laid
    ∙ ap (λ (b : Bool). setup_bits (limits_of config) (store_room (layout_of config) b) req) is

pub setup_table_is : (l : SizedLayout) (held : Bool) (config : Configuration) (req : SetupReq) (t : SessionTable) → l ≡ layout_of config → held ≡ config.held
    → table_after_setup l.limits (store_room l held) req t ≡ table_after_setup (limits_of config) (room_of config) req t
setup_table_is l held config req t laid is =
    ap (λ (k : SizedLayout). table_after_setup k.limits (store_room k held) req t) laid
    ∙ ap (λ (b : Bool). table_after_setup (limits_of config) (store_room (layout_of config) b) req t) is

one_more : (old : List Uplink) (u : Uplink) → length (old ++ u ∷ []) ≤ length old + 1
one_more old u = omega (arith, length-append old (u ∷ []))

pub setup_steps : {F : Type 0} (here : Arrival) (old new : HeldDevice F) (store : HeldStore F) (req : SetupReq) (bits : ℕ) (refusal : Command)
    → old.sessions.layout ≡ layout_of old.config → old.sessions.held ≡ old.config.held
    → bits ≡ setup_bits old.sessions.layout.limits (store_room old.sessions.layout old.sessions.held) req
    → ((t : SessionTable) → StateStands old.sessions.state t
    → StateStands store.state (table_after_setup old.sessions.layout.limits (store_room old.sessions.layout old.sessions.held) req t))
    → refusal ≡ Cast (setup_answer req.index bits)
    → new ≡ held_with_answers (record old { sessions = store }) (answer_at_once here refusal ∷ [])
    → Steps old new 1 (λ device. setup_step here device req)
unfolding after_answers setup_step
setup_steps here old new store req bits refusal laid held bits_are stand refusal_is is =
    let bits_is = bits_are ∙ setup_bits_are old.sessions.layout old.sessions.held old.config req laid held in
    rw (is, refusal_is, bits_is) (record {
      stands = λ device stands. rw (stands.rest) (record {
        sessions = subst (λ (t : SessionTable). StateStands store.state t)
            (setup_table_is old.sessions.layout old.sessions.held old.config req device.sessions laid held) (stand device.sessions stands.sessions);
        rest = refl;
      });
      few = one_more old.outbox _;
    })

pub delete_steps : {F : Type 0} (here : Arrival) (old new : HeldDevice F) (store : HeldStore F) (index : ℕ) (missing : Bool) (answer : Command)
    → ((t : SessionTable) → StateStands old.sessions.state t → missing ≡ is_none (session_at t index))
    → ((t : SessionTable) → StateStands old.sessions.state t → StateStands store.state (with_session t index None))
    → answer ≡ Cast (FragSessionDeleteAns index missing)
    → new ≡ held_with_answers (record old { sessions = store }) (answer_at_once here answer ∷ [])
    → Steps old new 1 (λ device. delete_step here device index)
unfolding after_answers delete_step
delete_steps here old new store index missing answer lived stand answer_is is = rw (is, answer_is) (record {
  stands = λ device stands. rw (stands.rest, ← lived device.sessions stands.sessions) (record {
    sessions = stand device.sessions stands.sessions;
    rest = refl;
  });
  few = one_more old.outbox _;
})

-- where there was none
pub not_some : {A : Type 0} (o : Option A) (lived : Bool) → lived ≡ is_some o → not lived ≡ is_none o
not_some None lived is = rw is refl
not_some (Some x) lived is = rw is refl
