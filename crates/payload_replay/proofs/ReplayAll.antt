-- What the commands that lines carry make of a session: since it was set up it hears each fragment that it does not drop.
use Rattle.std.proofs.Common.{◌≡◌, ℕ, Bool, true, false, cond, not, ◌==◌, List, [], ◌∷◌, ◌++◌, Option, None, Some, is_none, refl, sym, ap, ◌∙◌, subst, inl, inr, eq-eqb, true≢false}
use Rattle.std.specs.List.{AllByRecursion}
use Rattle.frag_model.specs.Fragments.{Fragment}
use Rattle.frag_model.specs.Members.{In}
use Rattle.frag_session.specs.declared.answers.Cause.{Cause}
use Rattle.frag_session.specs.declared.answers.Via.TheVariants.{Unicast}
use Rattle.frag_session.specs.declared.setups.SetupReq.{SetupReq}
use Rattle.frag_session.specs.Session.{Session, cause_of, drop_cause, followed, after_fragment}
use Rattle.cast_wire.specs.declared.cmd.Cmd.TheVariants.{FragSessionSetupReq, FragSessionDeleteReq, DataFragment}
use Rattle.package_grammar.specs.declared.command.Command.{Command}
use Rattle.package_grammar.specs.declared.command.Command.TheVariants.{Cast}
use Rattle.device_core.specs.Configuration.{Configuration}
use Rattle.payload_replay.specs.Carried.{CarriedCommand, carried, after_command, session_behind, leaves}
use Rattle.payload_replay.proofs.ReplayExact.{behind_more}

-- a session was there, set up the same, and what it heard is still heard
record Precedes (s : Option Session) (t : Session) : Type 0 where
  pub it : Session
  pub is : s ≡ Some it
  pub setup : it.setup ≡ t.setup
  pub kept : (f : Fragment) → In f it.heard → In f t.heard

itself : (s : Option Session) (t : Session) → s ≡ Some t → Precedes s t
itself s t is = record { it = t; is = is; setup = refl; kept = λ f among. among }

-- ---- a command

heard_by : (y t : Session) (n : ℕ) (part : List ℕ) (line : ℕ) (b : Bool)
    → cond b (Some (followed y n part line)) (Some y) ≡ Some t → Precedes (Some y) t
unfolding followed
heard_by y t n part line true is =
    let same : record y { heard = record { number = n; part = part; mark = line } ∷ y.heard } ≡ t = cc in
    record {
      it = y;
      is = refl;
      setup = ap (λ (x : Session). x.setup) same;
      kept = λ f among. subst (λ (x : Session). In f x.heard) same (inr among);
    }
heard_by y t n part line false is = itself (Some y) t is

fragment_leaves : (s : Option Session) (t : Session) (n : ℕ) (part : List ℕ) (line : ℕ)
    → after_fragment s Unicast n part line ≡ Some t → Precedes s t
unfolding after_fragment drop_cause
fragment_leaves None t n part line is = absurd cc
fragment_leaves (Some y) t n part line is = heard_by y t n part line (is_none (cause_of y.setup Unicast n part)) is

unless : (s other : Option Session) (t : Session) (b : Bool) → (not b) ≡ true → cond b other s ≡ Some t → Precedes s t
unless s other t true left is = absurd cc
unless s other t false left is = itself s t is

either : (s other : Option Session) (t : Session) (b : Bool) → (other ≡ Some t → Precedes s t) → cond b other s ≡ Some t
    → Precedes s t
either s other t true step is = step is
either s other t false step is = itself s t is

command_leaves : (config : Configuration) (index line : ℕ) (s : Option Session) (t : Session) (c : Command)
    → leaves index c ≡ true → after_command config index line s c ≡ Some t → Precedes s t
unfolding after_command
command_leaves config index line s t
    (Cast (FragSessionSetupReq i mask nb_frag frag_size algo delay padding descriptor)) left is =
    unless s _ t (i == index) left is
command_leaves config index line s t (Cast (FragSessionDeleteReq i)) left is = unless s _ t (i == index) left is
command_leaves config index line s t (Cast (DataFragment i n part)) left is =
    either s (after_fragment s Unicast n part line) t (i == index) (fragment_leaves s t n part line) is
command_leaves config index line s t c left is = itself s t is

-- ---- commands

commands_leave : (config : Configuration) (index : ℕ) (s : Option Session) (t : Session) (cs : List CarriedCommand)
    → AllByRecursion (λ c. leaves index c.command ≡ true) cs → session_behind config index s cs ≡ Some t → Precedes s t
unfolding session_behind
commands_leave config index s t [] left is = itself s t is
commands_leave config index s t (c ∷ cs) left is =
    let later = commands_leave config index (after_command config index c.line s c.command) t cs left.1 is in
    let here = command_leaves config index c.line s later.it c.command left.0 later.is in
    record {
      it = here.it;
      is = here.is;
      setup = here.setup ∙ later.setup;
      kept = λ f among. later.kept f (here.kept f among);
    }

-- ---- a fragment

fed_by : (y x : Session) (f : Fragment) (b : Bool) → is_none (cause_of y.setup Unicast f.number f.part) ≡ b
    → cause_of x.setup Unicast f.number f.part ≡ None
    → cond b (Some (followed y f.number f.part f.mark)) (Some y) ≡ Some x → In f x.heard
unfolding followed
fed_by y x f true test none is =
    let same : record y { heard = record { number = f.number; part = f.part; mark = f.mark } ∷ y.heard } ≡ x = cc in
    subst (λ (s : Session). In f s.heard) same (inl refl)
fed_by y x f false test none is =
    let same : y ≡ x = cc in
    let its : cause_of y.setup Unicast f.number f.part ≡ None =
    subst (λ (s : Session). cause_of s.setup Unicast f.number f.part ≡ None) (sym same) none in
    let both : true ≡ false = ap (λ (o : Option Cause). is_none o) (sym its) ∙ test in
    absurd (true≢false both)

fed : (s : Option Session) (x : Session) (f : Fragment) → cause_of x.setup Unicast f.number f.part ≡ None
    → after_fragment s Unicast f.number f.part f.mark ≡ Some x → In f x.heard
unfolding after_fragment drop_cause
fed None x f none is = absurd cc
fed (Some y) x f none is = fed_by y x f (is_none (cause_of y.setup Unicast f.number f.part)) refl none is

fed_there : (config : Configuration) (index : ℕ) (s : Option Session) (x : Session) (f : Fragment)
    → cause_of x.setup Unicast f.number f.part ≡ None
    → after_command config index f.mark s (Cast (DataFragment index f.number f.part)) ≡ Some x → In f x.heard
unfolding after_command
fed_there config index s x f none is =
    fed s x f none
    (subst (λ (b : Bool). cond b (after_fragment s Unicast f.number f.part f.mark) s ≡ Some x) (eq-eqb index index refl) is)

-- a session that is there after all commands heard it
pub all_heard : (config : Configuration) (index : ℕ) (t : Session) (f : Fragment) (before behind : List CarriedCommand)
    → AllByRecursion (λ c. leaves index c.command ≡ true) behind → cause_of t.setup Unicast f.number f.part ≡ None
    → session_behind config index None (before ++ carried f.mark (Cast (DataFragment index f.number f.part)) ∷ behind) ≡ Some t
    → In f t.heard
unfolding session_behind
all_heard config index t f before behind left none is =
    let s : Option Session = session_behind config index None before in
    let its : CarriedCommand = carried f.mark (Cast (DataFragment index f.number f.part)) in
    let split : session_behind config index s (its ∷ behind) ≡ Some t =
    behind_more config index None before (its ∷ behind) ∙ is in
    let p = commands_leave config index
    (after_command config index f.mark s (Cast (DataFragment index f.number f.part))) t behind left split in
    p.kept f (fed_there config index s p.it f
    (subst (λ (x : SetupReq). cause_of x Unicast f.number f.part ≡ None) (sym p.setup) none) p.is)
