-- Campaigns that go on form by form.
use Rattle.std.proofs.Common.{◌≡◌, ℕ, ◌+◌, ◌≤◌, List, [], ◌∷◌, ◌++◌, map, length, Option, None, Some, Result, Ok, refl, sym, ap, ◌∙◌, subst, arith, true}
use Rattle.std.specs.List.{AllByRecursion}
use Rattle.device_core.specs.Device.{DeviceState}
use Rattle.device_core.specs.Events.{Event}
use Rattle.campaign_server.specs.Server.{DownlinkCommand, ledger, ServerState}
use Rattle.wire_base.specs.Numbered.{numbered}
use Rattle.campaign_server.specs.Asking.{by_unicast}
use Rattle.campaign_server.specs.Time.{time_answer}
use Rattle.campaign_server.specs.Uplinks.{with_answers}
use Rattle.script_lines.specs.declared.forms.Form.{Form}
use Rattle.script_lines.specs.declared.forms.Form.TheVariants.{Header, Image, Group, WindowC, WindowB, Device}
use Rattle.script_lines.specs.Forms.{form_of}
use Rattle.report_lines.specs.declared.faults.LineWhy.{LineWhy}
use Rattle.report_lines.specs.declared.faults.LineFault.{LineFault}
use Rattle.campaign_world.specs.World.{WorldState}
use Rattle.campaign_world.specs.Said.{Line, line_of}
use Rattle.campaign_world.specs.Causes.{form_cause, cause_of, is_event_or_end}
use Rattle.campaign_world.specs.Making.{with_sent, with_device, event_of, after_event_at, after_form, at_events}
use Rattle.campaign_world.specs.Script.{one_line_more, after_line, line_result, read_line, read_lines}
use Rattle.campaign_world.proofs.FormCauses.{of_form}
use Rattle.campaign_world.proofs.Lines.{said_form}
use Rattle.package_grammar.specs.declared.command.Command.{Command}
use Rattle.campaign_laws.proofs.Events.{by_event}
use Rattle.campaign_server.specs.declared.stage.Stage.{Stage}

-- none of the forms is refused, and they lead here
abbrev pub Plays : WorldState → List Form → WorldState → Type 0
Plays w [] end = w ≡ end
Plays w (form ∷ forms) end = (form_cause w form ≡ None) × Plays (one_line_more (after_form w form)) forms end

plays_on : (w v end : WorldState) (xs ys : List Form) → Plays w xs v → Plays v ys end → Plays w (xs ++ ys) end
plays_on w v end [] ys one more = subst (λ (x : WorldState). Plays x ys end) (sym one) more
plays_on w v end (form ∷ xs) ys one more = (one.0, plays_on (one_line_more (after_form w form)) v end xs ys one.1 more)

-- the forms are played, and then it holds
abbrev pub To : WorldState → List Form → (WorldState → Type 0) → Type 0
To w forms P = (end : WorldState) × Plays w forms end × P end

pub none : (w : WorldState) (P : WorldState → Type 0) → P w → To w [] P
none w P p = (w, refl, p)

pub one : (w : WorldState) (form : Form) (P : WorldState → Type 0) → form_cause w form ≡ None → P (one_line_more (after_form w form)) → To w (form ∷ []) P
one w form P fine p = (one_line_more (after_form w form), (fine, refl), p)

-- one part after another
pub both : (w : WorldState) (xs ys : List Form) (P Q : WorldState → Type 0) → To w xs P → ((v : WorldState) → P v → To v ys Q) → To w (xs ++ ys) Q
both w xs ys P Q (v, plays, p) then = let t = then v p in (t.0, plays_on w v t.0 xs ys plays t.1, t.2)

pub weaker : (w : WorldState) (xs : List Form) (P Q : WorldState → Type 0) → ((v : WorldState) → P v → Q v) → To w xs P → To w xs Q
weaker w xs P Q f (v, plays, p) = (v, plays, f v p)

-- ---- the lines of forms

-- the count of lines is not the forms' affair, and the image stays
pub record HasKept (w v : WorldState) : Type 0 where
  pub lines : v.lines ≡ w.lines
  pub image : v.server.image ≡ w.server.image

sent_keeps : (w : WorldState) (s : ServerState) (to : Option ℕ) (down : Option DownlinkCommand) → s.image ≡ w.server.image
    → HasKept w (at_events (with_sent (record w { server = s }) to down))
sent_keeps w s to None is = record { lines = refl; image = is }
sent_keeps w s to (Some down) is = record { lines = refl; image = is }

pub event_keeps : (w : WorldState) (n : ℕ) (d : Option DeviceState) (o : Option Event) → HasKept w (at_events (after_event_at w n d o))
unfolding with_device
event_keeps w n None o = record { lines = refl; image = refl }
event_keeps w n (Some d) None = record { lines = refl; image = refl }
event_keeps w n (Some d) (Some e) = record { lines = refl; image = refl }

answers_image : (s : ServerState) (dev : ℕ) (cs : List Command) (stage : Option Stage) → (with_answers s dev cs stage).image ≡ s.image
answers_image s dev cs None = refl
answers_image s dev cs (Some stage) = refl

made_keeps : (w : WorldState) (form : Form) → is_event_or_end form ≡ true → HasKept w (after_form w form)
made_keeps w =
    by_event (HasKept w) w (λ time here late. record { lines = refl; image = refl })
    (λ n form. event_keeps w n (numbered w.devices n) (event_of w.server.plan.group w.sent w.time (w.lines + 1) form))
    (λ s to down sends. sent_keeps w s to down sends.image)
    (λ dev cs. sent_keeps w (with_answers w.server dev cs (ledger w.server dev)) (Some dev) (by_unicast (time_answer w.time cs))
    (answers_image w.server dev cs (ledger w.server dev)))

pub form_keeps : (w : WorldState) (form : Form) → HasKept w (after_form w form)
unfolding after_form
form_keeps w Header = record { lines = refl; image = refl }
form_keeps w (Image frag_size parity index) = record { lines = refl; image = refl }
form_keeps w (Group id addr key min max) = record { lines = refl; image = refl }
form_keeps w (WindowC start timeout freq dr) = record { lines = refl; image = refl }
form_keeps w (WindowB start periodicity timeout freq dr) = record { lines = refl; image = refl }
form_keeps w (Device dev) = record { lines = refl; image = refl }
form_keeps w form = made_keeps w form refl

line_read : (w : WorldState) (line : List ℕ) (form : Form) → form_of line ≡ Some form → cause_of w (line_of line) ≡ None
    → read_line w (line_of line) ≡ Ok (one_line_more (after_form w form))
unfolding read_line
line_read w line form is fine =
    ap (λ (c : Option LineWhy). line_result w (line_of line) c) fine
    ∙ ap (λ (l : Line). let read : Result WorldState LineFault = Ok (after_line w l) in read) (said_form w line form is fine)

-- few and short lines are read to where their forms lead
pub lines_read : (lines : List (List ℕ)) (forms : List Form) (w end : WorldState) → map form_of lines ≡ map Some forms
    → AllByRecursion (λ line. length line ≤ 60) lines → w.lines + length lines ≤ 20000 → Plays w forms end
    → read_lines (Ok w) (map line_of lines) ≡ Ok end
unfolding read_lines
lines_read [] [] w end spelled short few plays = ap (λ (x : WorldState). let read : Result WorldState LineFault = Ok x in read) plays
lines_read [] (form ∷ forms) w end spelled short few plays = absurd cc
lines_read (line ∷ lines) [] w end spelled short few plays = absurd cc
lines_read (line ∷ lines) (form ∷ forms) w end spelled short few plays =
    let is : form_of line ≡ Some form = cc in
    let others : map form_of lines ≡ map Some forms = cc in
    let fine : cause_of w (line_of line) ≡ None =
    of_form w line (Some form) None (omega (arith, few)) (omega (arith, short.0)) (sym is) plays.0 in
    let kept = (form_keeps w form).lines in
    ap (λ (r : Result WorldState LineFault). read_lines r (map line_of lines)) (line_read w line form is fine)
    ∙ lines_read lines forms (one_line_more (after_form w form)) end others short.1 (omega (arith, few, kept)) plays.1
