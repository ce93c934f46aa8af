-- Commands that act, one after another.
use Rattle.std.proofs.Common.{◌≡◌, ◌≤◌, ◌+◌, ℕ, Bool, true, false, ltb, List, [], ◌∷◌, ◌++◌, length, append-nil, append_assoc, Result, Ok, Err, OnOk, OnErr, refl, sym, ap, subst, ◌∙◌, arith}
use Rattle.std.proofs.lemmas.Bool.{le-ltb}
use Rattle.cast_wire.specs.declared.cmd.Cmd.{Cmd}
use Rattle.cast_wire.specs.declared.cmd.Cmd.TheVariants as c
use Rattle.package_grammar.specs.declared.command.Command.{Command}
use Rattle.package_grammar.specs.declared.command.Command.TheVariants.{Cast}
use Rattle.frag_session.specs.declared.answers.Via.{Via}
use Rattle.frag_session.specs.declared.answers.Via.TheVariants as via
use Rattle.device_core.specs.declared.arrival.Arrival.{Arrival}
use Rattle.device_core.specs.Fragments.{status_step, fragment_step}
use Rattle.device_core.specs.Device.{DeviceState}
use Rattle.device_core.specs.Answers.{no_answer, after_answers}
use Rattle.device_core.specs.Step.{weight, acts, command_step, step, after_commands}
use Rattle.device_core.specs.declared.delivered.Delivered.{Delivered}
use Rattle.device_core.specs.declared.delivered.Delivered.TheVariants.{Done}
use Rattle.device_core.specs.Deliver.{message_delivery}
use Rattle.flash_session.specs.Seen.{FlashSeen}
use Rattle.session_store.specs.Size.{SizedLayout}
use Rattle.session_store.specs.declared.store.FlashFault.{FlashFault}
use Rattle.session_store.specs.declared.state.State.TheVariants.{Down}
use Rattle.session_store.specs.CompleteFlags.{flags_of}
use Rattle.device_core.specs.Aside.{IsAside}
use Rattle.device_core.specs.HeldCalls.{LeavesBesides, Fails, Keeps, FailsAt}
use Rattle.device_core.specs.HeldDevice.{HeldDevice, DeviceStands, Becomes, Makes, Steps, StepsAside}
use Rattle.device_core.specs.HeldSessions.{HeldStore, IsUp, IsInFlash, StateIsStored, StateIsHeld, IsLaidOut}
use Rattle.device_core.specs.Passed.{step_tables, command_tables, tables_of, LiesOneOf}
use Rattle.device_core.specs.SessionTable.{SessionTable}
use Rattle.device_core.proofs.Keeping.{besides_none, besides_more, lies_left, lies_right, held_of, stored_of, in_flash_of, keeps_as, keeps_failed}

-- a command that makes nothing
pub no_steps : {F : Type 0} (held : HeldDevice F) (weight : ℕ) → StepsAside held held weight no_answer
unfolding after_answers
no_steps held weight = record {
  goes = record { untouched = refl; rest = λ table. rw (append-nil held.outbox) refl };
  few = omega arith;
}

-- a command of TS005 that is no request, or one of TS004
pub record IsNoRequest (cmd : Cmd) : Type 0 where
  pub version : cmd ≡ c.PackageVersionReq → ⊥
  pub groups : (mask : ℕ) → cmd ≡ c.McGroupStatusReq mask → ⊥
  pub group_setup : (id addr : ℕ) (key : List ℕ) (min max : ℕ) → cmd ≡ c.McGroupSetupReq id addr key min max → ⊥
  pub group_delete : (id : ℕ) → cmd ≡ c.McGroupDeleteReq id → ⊥
  pub class_c : (id time timeout freq dr : ℕ) → cmd ≡ c.McClassCSessionReq id time timeout freq dr → ⊥
  pub class_b : (id time periodicity timeout freq dr : ℕ)
      → cmd ≡ c.McClassBSessionReq id time periodicity timeout freq dr → ⊥

-- it makes nothing, if it is of no session
pub cast_stays : {F : Type 0} (here : Arrival) (held : HeldDevice F) (cmd : Cmd) → IsAside cmd → IsNoRequest cmd
    → StepsAside held held (weight (Cast cmd)) (λ device. command_step here device (Cast cmd))
unfolding command_step
cast_stays here held c.PackageVersionReq aside none = absurd (none.version refl)
cast_stays here held (c.FragSessionStatusReq index all) aside none = absurd aside
cast_stays here held (c.FragSessionSetupReq index mask nb_frag frag_size algo delay padding descriptor) aside none = absurd aside
cast_stays here held (c.FragSessionDeleteReq index) aside none = absurd aside
cast_stays here held (c.DataFragment index n part) aside none = absurd aside
cast_stays here held (c.McGroupStatusReq mask) aside none = absurd (none.groups mask refl)
cast_stays here held (c.McGroupSetupReq id addr key min max) aside none = absurd (none.group_setup id addr key min max refl)
cast_stays here held (c.McGroupDeleteReq id) aside none = absurd (none.group_delete id refl)
cast_stays here held (c.McClassCSessionReq id time timeout freq dr) aside none = absurd (none.class_c id time timeout freq dr refl)
cast_stays here held (c.McClassBSessionReq id time periodicity timeout freq dr) aside none =
    absurd (none.class_b id time periodicity timeout freq dr refl)
cast_stays here held cmd aside none = no_steps held (weight (Cast cmd))

-- no command of a session
pub record IsOfNone (cmd : Cmd) : Type 0 where
  pub status : (index : ℕ) (all : Bool) → cmd ≡ c.FragSessionStatusReq index all → ⊥
  pub setup : (index mask nb_frag frag_size algo delay padding descriptor : ℕ)
      → cmd ≡ c.FragSessionSetupReq index mask nb_frag frag_size algo delay padding descriptor → ⊥
  pub delete : (index : ℕ) → cmd ≡ c.FragSessionDeleteReq index → ⊥
  pub fragment : (index n : ℕ) (part : List ℕ) → cmd ≡ c.DataFragment index n part → ⊥

pub is_aside : (cmd : Cmd) → IsOfNone cmd → IsAside cmd
is_aside (c.FragSessionStatusReq index all) none = none.status index all refl
is_aside (c.FragSessionSetupReq index mask nb_frag frag_size algo delay padding descriptor) none =
    none.setup index mask nb_frag frag_size algo delay padding descriptor refl
is_aside (c.FragSessionDeleteReq index) none = none.delete index refl
is_aside (c.DataFragment index n part) none = none.fragment index n part refl
is_aside cmd none = tt

-- a status request, and a command that does not act, leave the sessions
pub status_goes : (here : Arrival) (device : DeviceState) (index : ℕ) (all : Bool) → (after_answers (status_step here device index all)).sessions ≡ device.sessions
unfolding after_answers status_step
status_goes here device index all = refl

pub skipped_goes : (here : Arrival) (device : DeviceState) (command : Command) → acts here.via command ≡ false
    → (after_answers (step here device command)).sessions ≡ device.sessions
unfolding after_answers step
skipped_goes here device command is = rw is refl

-- one that acts is its own step
pub keeps_acting : {F A : Type 0} (seen : F → FlashSeen)
    (here : Arrival) (old : HeldDevice F) (new : HeldStore F) (r : Result A FlashFault) (command : Command) → acts here.via command ≡ true
    → Keeps seen old new r (λ d. after_answers (command_step here d command)) (λ d. command_tables here d command)
    → Keeps seen old new r (λ d. after_answers (step here d command)) (λ d. step_tables here d command)
unfolding step step_tables
keeps_acting seen here old new r command is keeps = rw is keeps

-- ---- a message

-- one command after others
after_one_more : (here : Arrival) (device : DeviceState) (front : List Command) (c : Command)
    → after_commands here device (front ++ c ∷ []) ≡ after_answers (step here (after_commands here device front) c)
unfolding after_commands
after_one_more here device [] c = refl
after_one_more here device (d ∷ front) c = after_one_more here (after_answers (step here device d)) front c

-- it has acted on the commands before those that are left: the steps of what is left from here are the steps of all; and its
-- flash holds, and was left with, what these passed
pub record HasActed {F : Type 0} (seen : F → FlashSeen)
    (here : Arrival) (first held : HeldDevice F) (device : DeviceState) (all left : List Command) : Type 0 where
  pub now : DeviceState
  pub stands : DeviceStands held now
  pub steps : after_commands here device all ≡ after_commands here now left
  pub front : List Command
  pub parted : all ≡ front ++ left
  pub now_is : now ≡ after_commands here device front
  pub stored : StateIsStored first.sessions.state device.sessions (seen first.sessions.flash)
      → StateIsStored held.sessions.state now.sessions (seen held.sessions.flash)
  pub passes : (c : List ℕ) → LiesOneOf first.sessions.layout (tables_of here now left) c
      → LiesOneOf first.sessions.layout (tables_of here device all) c
  pub moments : StateIsHeld first.sessions.state device.sessions (seen first.sessions.flash)
      → LeavesBesides (LiesOneOf first.sessions.layout (tables_of here device all)) (seen first.sessions.flash)
      (seen held.sessions.flash)

pub acted_none : {F : Type 0} (seen : F → FlashSeen)
    (here : Arrival) (held : HeldDevice F) (device : DeviceState) (all : List Command)
    → DeviceStands held device → HasActed seen here held held device all all
unfolding after_commands
acted_none seen here held device all stands = record {
  now = device;
  stands = stands;
  steps = refl;
  front = [];
  parted = refl;
  now_is = refl;
  stored = λ was. was;
  passes = λ c lies. lies;
  moments = λ was. besides_none _ _;
}

-- what a command passes, among all
some_of : (here : Arrival) (l m : SizedLayout) (now : DeviceState) (c : Command) (cs : List Command) (b : List ℕ) → m ≡ l
    → LiesOneOf m (step_tables here now c) b → LiesOneOf l (tables_of here now (c ∷ cs)) b
unfolding tables_of
some_of here l m now c cs b same lies =
    lies_left l (step_tables here now c) (tables_of here (after_answers (step here now c)) cs) b
    (subst (λ (k : SizedLayout). LiesOneOf k (step_tables here now c) b) same lies)

rest_of : (here : Arrival) (l : SizedLayout) (now : DeviceState) (c : Command) (cs : List Command) (b : List ℕ)
    → LiesOneOf l (tables_of here (after_answers (step here now c)) cs) b → LiesOneOf l (tables_of here now (c ∷ cs)) b
unfolding tables_of
rest_of here l now c cs b lies = lies_right l (step_tables here now c) (tables_of here (after_answers (step here now c)) cs) b lies

-- the run so far and that of one command
moments_more : {F A : Type 0} (seen : F → FlashSeen)
    (here : Arrival) (first mid : HeldDevice F) (new : HeldStore F) (r : Result A FlashFault) (device : DeviceState) (all : List Command) (c : Command) (cs : List Command)
    → (IsInFlash first.sessions.state → IsInFlash mid.sessions.state) → IsLaidOut first.sessions mid.sessions
    → HasActed seen here first mid device all (c ∷ cs)
    → Keeps seen mid new r (λ d. after_answers (step here d c)) (λ d. step_tables here d c)
    → StateIsHeld first.sessions.state device.sessions (seen first.sessions.flash)
    → LeavesBesides (LiesOneOf first.sessions.layout (tables_of here device all)) (seen first.sessions.flash)
    (seen new.flash)
moments_more seen here first mid new r device all c cs flash laid so_far keeps was =
    let stored = so_far.stored (stored_of first.sessions.state device.sessions _ was) in
    let up = flash (in_flash_of first.sessions.state device.sessions _ was) in
    let held = held_of mid.sessions.state so_far.now.sessions _ up stored in
    let All : List ℕ → Type 0 = LiesOneOf first.sessions.layout (tables_of here device all) in
    let One : List ℕ → Type 0 = LiesOneOf mid.sessions.layout (step_tables here so_far.now c) in
    besides_more All One All _ _ _ (λ b lies. lies)
    (λ b lies. so_far.passes b (some_of here first.sessions.layout mid.sessions.layout so_far.now c cs b laid.layout lies))
    (so_far.moments was) (keeps.moments so_far.now so_far.stands held)

pub acted_more : {F A : Type 0} (seen : F → FlashSeen)
    (here : Arrival) (first mid new : HeldDevice F) (x : A) (device : DeviceState) (all : List Command) (c : Command) (cs : List Command)
    → (IsInFlash first.sessions.state → IsInFlash mid.sessions.state) → IsLaidOut first.sessions mid.sessions
    → HasActed seen here first mid device all (c ∷ cs)
    → Becomes mid new (λ d. after_answers (step here d c))
    → Keeps seen mid new.sessions (Ok x) (λ d. after_answers (step here d c)) (λ d. step_tables here d c)
    → HasActed seen here first new device all cs
unfolding after_commands
acted_more seen here first mid new x device all c cs flash laid so_far goes keeps = record {
  now = after_answers (step here so_far.now c);
  stands = goes so_far.now so_far.stands;
  steps = so_far.steps;
  front = so_far.front ++ c ∷ [];
  parted = so_far.parted ∙ sym (append_assoc so_far.front (c ∷ []) cs);
  now_is = ap (λ (d : DeviceState). after_answers (step here d c)) so_far.now_is ∙ sym (after_one_more here device so_far.front c);
  stored = λ was. keeps.stored so_far.now so_far.stands (so_far.stored was);
  passes = λ b lies. so_far.passes b (rest_of here first.sessions.layout so_far.now c cs b lies);
  moments = moments_more seen here first mid new.sessions (Ok x) device all c cs flash laid so_far keeps;
}

pub acted_all : {F : Type 0} (seen : F → FlashSeen)
    (here : Arrival) (first held : HeldDevice F) (device : DeviceState) (all : List Command)
    → HasActed seen here first held device all [] → DeviceStands held (after_commands here device all)
unfolding after_commands
acted_all seen here first held device all acted = rw acted.steps acted.stands

-- all of it: what the flash holds
pub keeps_all : {F A : Type 0} (seen : F → FlashSeen)
    (here : Arrival) (first held : HeldDevice F) (x : A) (all : List Command)
    → IsUp held.sessions.state → (IsInFlash first.sessions.state → IsInFlash held.sessions.state) → IsLaidOut first.sessions held.sessions
    → (first.sessions.held ≡ false → held.sessions.flash ≡ first.sessions.flash)
    → (seen first.sessions.flash).faults ≤ (seen held.sessions.flash).faults
    → ((device : DeviceState) → DeviceStands first device → HasActed seen here first held device all [])
    → Keeps seen first held.sessions (Ok x) (λ d. after_commands here d all) (λ d. tables_of here d all)
unfolding after_commands
keeps_all seen here first held x all up flash laid quiet later acted = record {
  up = up;
  in_flash = flash;
  stored = λ device stands was. let a = acted device stands in rw a.steps (a.stored was);
  moments = λ device stands was. (acted device stands).moments was;
  again = λ device stands was. tt;
  laid = laid;
  quiet = λ memory. (refl, quiet memory);
  cause = record { later = later; failed = tt };
}

-- the flash failed at a command
pub failed_at : {F : Type 0} (seen : F → FlashSeen)
    (here : Arrival) (first mid new : HeldDevice F) (device : DeviceState) (all : List Command) (c : Command) (cs : List Command)
    → HasActed seen here first mid device all (c ∷ cs) → Fails mid new → FailsAt here device all new
failed_at seen here first mid new device all c cs so_far fails = record {
  front = so_far.front;
  failing = c;
  behind = cs;
  parted = so_far.parted;
  rest = λ table. fails.rest table ∙ ap (λ (d : DeviceState). record d { sessions = table }) (sym so_far.stands.rest)
      ∙ ap (λ (d : DeviceState). record d { sessions = table }) so_far.now_is;
  down =
      let down = fails.down so_far.now.sessions so_far.stands.sessions in
      (down.0, down.1 ∙ ap (λ (d : DeviceState). Down down.0 (flags_of d.sessions)) so_far.now_is);
}

-- what it was left with until then
pub keeps_until : {F A B : Type 0} (seen : F → FlashSeen)
    (here : Arrival) (first mid : HeldDevice F) (new : HeldStore F) (e f : FlashFault) (all : List Command) (c : Command) (cs : List Command)
    → (IsInFlash first.sessions.state → IsInFlash mid.sessions.state) → IsLaidOut first.sessions mid.sessions
    → (seen first.sessions.flash).faults ≤ (seen mid.sessions.flash).faults
    → ((device : DeviceState) → DeviceStands first device → HasActed seen here first mid device all (c ∷ cs))
    → Keeps {A = A} seen mid new (Err e) (λ d. after_answers (step here d c)) (λ d. step_tables here d c)
    → Keeps {A = B} seen first new (Err f) (λ d. after_commands here d all) (λ d. tables_of here d all)
keeps_until seen here first mid new e f all c cs flash laid later acted keeps = record {
  up = tt;
  in_flash = λ _. tt;
  stored = λ device stands was. tt;
  moments = λ device stands was. moments_more seen here first mid new (Err e) device all c cs flash laid (acted device stands) keeps was;
  again = λ device stands was b now.
      let so_far = acted device stands in
      let stored = so_far.stored (stored_of first.sessions.state device.sessions _ was) in
      let up = flash (in_flash_of first.sessions.state device.sessions _ was) in
      let held = held_of mid.sessions.state so_far.now.sessions _ up stored in
      so_far.passes b (some_of here first.sessions.layout mid.sessions.layout so_far.now c cs b laid.layout (keeps.again so_far.now so_far.stands held b now));
  laid = record { layout = keeps.laid.layout ∙ laid.layout; held = keeps.laid.held ∙ laid.held };
  quiet = λ memory. let no : false ≡ true = (keeps.quiet (laid.held ∙ memory)).0 in absurd cc;
  cause = record { later = omega (arith, later, keeps.cause.later); failed = omega (arith, later, keeps.cause.failed) };
}

-- ---- a fragment that is a message by itself

pub fragment_acts : (way : Via) (index n : ℕ) (part : List ℕ) → acts way (Cast (c.DataFragment index n part)) ≡ true
fragment_acts via.Unicast index n part = refl
fragment_acts (via.Group g) index n part = refl

pub fragment_alone : {F : Type 0} (here : Arrival) (old new : HeldDevice F) (index n : ℕ) (part : List ℕ)
    → Steps old new 0 (λ device. fragment_step here device index n part)
    → Becomes old new (λ device. after_commands here device (Cast (c.DataFragment index n part) ∷ []))
unfolding after_commands step command_step
fragment_alone here old new index n part steps = rw (fragment_acts here.via index n part) steps.stands

-- its step and what it passes
alone_is : (here : Arrival) (device : DeviceState) (index n : ℕ) (part : List ℕ)
    → after_commands here device (Cast (c.DataFragment index n part) ∷ []) ≡ after_answers (fragment_step here device index n part)
unfolding after_commands step command_step
alone_is here device index n part = rw (fragment_acts here.via index n part) refl

alone_passes : (here : Arrival) (device : DeviceState) (index n : ℕ) (part : List ℕ)
    → tables_of here device (Cast (c.DataFragment index n part) ∷ []) ≡ device.sessions ∷ (fragment_step here device index n part).device.sessions ∷ []
unfolding tables_of step_tables command_tables command_step
alone_passes here device index n part = rw (fragment_acts here.via index n part) refl

pub keeps_alone : {F A : Type 0} (seen : F → FlashSeen)
    (here : Arrival) (old : HeldDevice F) (new : HeldStore F) (x : A) (index n : ℕ) (part : List ℕ)
    → Keeps seen old new (Ok x) (λ d. after_answers (fragment_step here d index n part))
    (λ d. d.sessions ∷ (fragment_step here d index n part).device.sessions ∷ [])
    → Keeps seen old new (Ok x) (λ d. after_commands here d (Cast (c.DataFragment index n part) ∷ []))
    (λ d. tables_of here d (Cast (c.DataFragment index n part) ∷ []))
keeps_alone seen here old new x index n part keeps =
    keeps_as seen old new x x _ _ _ _
    (λ device stands. ap (λ (d : DeviceState). d.sessions) (alone_is here device index n part))
    (λ device b stands lies. subst (λ (ts : List SessionTable). LiesOneOf old.sessions.layout ts b) (sym (alone_passes here device index n part)) lies) keeps

pub failed_alone : {F A : Type 0} (seen : F → FlashSeen)
    (here : Arrival) (old : HeldDevice F) (new : HeldStore F) (e : FlashFault) (index n : ℕ) (part : List ℕ)
    → Keeps {A = A} seen old new (Err e) (λ d. after_answers (fragment_step here d index n part))
    (λ d. d.sessions ∷ (fragment_step here d index n part).device.sessions ∷ [])
    → Keeps {A = A} seen old new (Err e) (λ d. after_commands here d (Cast (c.DataFragment index n part) ∷ []))
    (λ d. tables_of here d (Cast (c.DataFragment index n part) ∷ []))
failed_alone seen here old new e index n part keeps =
    keeps_failed seen old new e e _ _ _ _
    (λ device b stands lies. subst (λ (ts : List SessionTable). LiesOneOf old.sessions.layout ts b) (sym (alone_passes here device index n part)) lies) keeps

pub fails_alone : {F : Type 0} (here : Arrival) (old new : HeldDevice F) (device : DeviceState) (cmd : Command) → DeviceStands old device → Fails old new
    → FailsAt here device (cmd ∷ []) new
unfolding after_commands
fails_alone here old new device cmd stands fails = record {
  front = [];
  failing = cmd;
  behind = [];
  parted = refl;
  rest = λ table. fails.rest table ∙ ap (λ (d : DeviceState). record d { sessions = table }) (sym stands.rest);
  down = fails.down device.sessions stands.sessions;
}

-- a message of one fragment always has room, since it weighs nothing
pub alone_roomy : {F : Type 0} (old : HeldDevice F) (device : DeviceState) → length old.outbox ≤ 8 → DeviceStands old device → ltb 8 (length device.outbox + 0) ≡ false
alone_roomy old device few stands = le-ltb _ _ (omega (arith, few, ap (λ (d : DeviceState). length d.outbox) stands.rest))

pub alone_delivered : {F : Type 0} (here : Arrival) (old new : HeldDevice F) (index n : ℕ) (part : List ℕ) (cs : List Command)
    → cs ≡ Cast (c.DataFragment index n part) ∷ [] → length old.outbox ≤ 8
    → Becomes old new (λ device. after_commands here device (Cast (c.DataFragment index n part) ∷ []))
    → Makes Delivered old new Done (λ device. message_delivery here device cs)
unfolding message_delivery
alone_delivered here old new index n part cs is few goes = record {
  stands = λ device stands. rw (is, alone_roomy old device few stands) (goes device stands);
  answers = λ device stands. rw (is, alone_roomy old device few stands) refl;
}

pub ok_as : {T E P Q : Type 0} (r : Result T E) → (P → Q) → OnOk r P → OnOk r Q
ok_as (Ok x) to holds = to holds
ok_as (Err e) to holds = tt

pub err_as : {T E P Q : Type 0} (r : Result T E) → (P → Q) → OnErr r P → OnErr r Q
err_as (Ok x) to holds = tt
err_as (Err e) to holds = to holds

pub keeps_single : {F A : Type 0} (seen : F → FlashSeen)
    (here : Arrival) (old : HeldDevice F) (new : HeldStore F) (r : Result A FlashFault) (index n : ℕ) (part : List ℕ)
    → Keeps seen old new r (λ d. after_answers (fragment_step here d index n part))
    (λ d. d.sessions ∷ (fragment_step here d index n part).device.sessions ∷ [])
    → Keeps seen old new r (λ d. after_commands here d (Cast (c.DataFragment index n part) ∷ []))
    (λ d. tables_of here d (Cast (c.DataFragment index n part) ∷ []))
keeps_single seen here old new (Ok x) index n part keeps = keeps_alone seen here old new x index n part keeps
keeps_single seen here old new (Err e) index n part keeps = failed_alone seen here old new e index n part keeps
