-- An uplink that has moved a stage moves none when it comes again.
use Rattle.std.proofs.Common.{◌≡◌, ◌≢◌, ⊎_elim, ℕ, ◌+◌, ◌-◌, ◌≤◌, ◌==◌, ◌&&◌, Bool, true, false, cond, List, [], ◌∷◌, ◌++◌, map, slice_get, append-nil, append_assoc, Option, None, Some, Ok, Err, refl, sym, ap, ◌∙◌, subst, arith, not}
use Rattle.std.specs.List.{slice_set}
use Rattle.wire_base.specs.declared.refusal.Direction.TheVariants.{Up as Upwards}
use Rattle.image_slots.specs.Image.{is_image, firmware_of}
use Rattle.sync_wire.specs.declared.cmd.Cmd.TheVariants as s
use Rattle.package_grammar.specs.declared.command.Command.{Command}
use Rattle.package_grammar.specs.declared.command.Command.TheVariants.{Sync}
use Rattle.package_grammar.specs.Reading.{Reading, reading_of}
use Rattle.device_core.specs.declared.uplink.Uplink.{Uplink}
use Rattle.device_core.specs.Device.{DeviceState}
use Rattle.device_core.specs.Events.{Event, Receives, event_step}
use Rattle.campaign_server.specs.declared.stage.Stage.{Stage}
use Rattle.campaign_server.specs.declared.stage.Stage.TheVariants.{At}
use Rattle.campaign_server.specs.declared.stage.Request.TheVariants as request
use Rattle.campaign_server.specs.Server.{ServerState, DownlinkCommand, ledger}
use Rattle.wire_base.specs.Numbered.{numbered}
use Rattle.campaign_server.specs.Asking.{by_unicast}
use Rattle.campaign_server.specs.Answers.{stage_after, stage_after_all}
use Rattle.campaign_server.specs.Time.{time_answer}
use Rattle.campaign_server.specs.Uplinks.{with_answers, read_uplink, uplink_step}
use Rattle.script_lines.specs.declared.forms.Form.{Form}
use Rattle.script_lines.specs.declared.forms.Form.TheVariants.{Up}
use Rattle.campaign_world.specs.declared.numbered.NumberedUplink.{NumberedUplink}
use Rattle.campaign_world.specs.World.{WorldState, first_world}
use Rattle.campaign_world.specs.Said.{Said, Own, Elsewhere, Reached, Line}
use Rattle.campaign_world.specs.Causes.{said_cause, line_cause, is_event_or_end}
use Rattle.campaign_laws.specs.Ledger.{Runs}
use Rattle.campaign_world.specs.Making.{with_sent, made_by, with_device, event_of, after_event_at, with_event_of, after_answer, after_up, at_events, after_form, after_said}
use Rattle.campaign_world.specs.Script.{one_line_more, after_line, read_lines}
use Rattle.campaign_server.proofs.LineItems.{numbered_more, numbered_there}
use Rattle.campaign_laws.proofs.Independence.{read_first, line_fine}
use Rattle.campaign_laws.proofs.Ledger.{MadeTruly, uplinks_are_true}
use Rattle.campaign_laws.specs.Once.{rank, MovesOnce}
use Rattle.campaign_laws.proofs.Stands.{put_cases}
use Rattle.campaign_laws.proofs.Ranks.{ranks_up, moves_once}
use Rattle.campaign_laws.proofs.PlanGroups.{is_planning, event_over}
use Rattle.campaign_laws.proofs.Untouched.{Waits, waits_behind}
use Rattle.campaign_laws.proofs.Items.{number_first, all_numbered}
use Rattle.campaign_world.proofs.Zips.{set_there}
use Rattle.campaign_laws.proofs.Plays.{form_keeps, event_keeps}
use Rattle.campaign_laws.proofs.Events.{by_event}

-- ---- campaigns go on

-- stages go on, uplinks stay, and the plan is over
pub record Goes (w end : WorldState) : Type 0 where
  pub ranks : (id : ℕ) (stage : Stage) → numbered w.server.stages id ≡ Some stage → (later : Stage) × (numbered end.server.stages id ≡ Some later) × (rank stage ≤ rank later)
  pub uplinks : (more : List NumberedUplink) × (end.uplinks ≡ w.uplinks ++ more)
  pub image : end.server.image ≡ w.server.image
  pub over : is_planning end.section ≡ false

-- with these stages, as far on, and the same image
record IsOn (old new : ServerState) : Type 0 where
  ranks : (id : ℕ) (stage : Stage) → numbered old.stages id ≡ Some stage → (later : Stage) × (numbered new.stages id ≡ Some later) × (rank stage ≤ rank later)
  image : new.image ≡ old.image

same_on : (old new : ServerState) → new.stages ≡ old.stages → new.image ≡ old.image → IsOn old new
same_on old new same image = record {
  ranks = λ id stage there. (stage, ap (λ (xs : List Stage). numbered xs id) same ∙ there, omega arith);
  image = image;
}

goes_by : (w end : WorldState) → IsOn w.server end.server → (more : List NumberedUplink) → end.uplinks ≡ w.uplinks ++ more → is_planning end.section ≡ false → Goes w end
goes_by w end on more uplinks over = record { ranks = on.ranks; uplinks = (more, uplinks); image = on.image; over = over }

still : (w end : WorldState) → end.server ≡ w.server → end.uplinks ≡ w.uplinks → is_planning end.section ≡ false → Goes w end
still w end server uplinks over =
    goes_by w end (same_on w.server end.server (ap (λ (x : ServerState). x.stages) server) (ap (λ (x : ServerState). x.image) server)) [] (uplinks ∙ sym (append-nil w.uplinks)) over

sends_go : (w : WorldState) (server : ServerState) (to : Option ℕ) (down : Option DownlinkCommand) → IsOn w.server server → Goes w (at_events (with_sent (record w { server = server }) to down))
sends_go w server to None on = goes_by w _ on [] (sym (append-nil w.uplinks)) refl
sends_go w server to (Some down) on = goes_by w _ on [] (sym (append-nil w.uplinks)) refl

-- an uplink
answers_on : (server : ServerState) (dev : ℕ) (cs : List Command) (old : Option Stage) → numbered server.stages dev ≡ old → IsOn server (with_answers server dev cs old)
answers_on server dev cs None there = same_on server server refl refl
answers_on server dev cs (Some old) there = record { ranks = ranks; image = refl }
  where
    new : Stage
    new = stage_after_all server.plan server.image old cs

    ranks : (id : ℕ) (stage : Stage) → numbered server.stages id ≡ Some stage → (later : Stage) × (numbered (slice_set server.stages (dev - 1) new) id ≡ Some later) × (rank stage ≤ rank later)
    ranks id stage at = ⊎_elim
        (λ here.
        let same : old ≡ stage = (let e : Some old ≡ Some stage = sym there ∙ subst (λ (i : ℕ). numbered server.stages i ≡ Some stage) (sym here.0) at in cc) in
        (new, here.1, subst (λ (x : Stage). rank x ≤ rank new) same (ranks_up server.plan server.image old cs)))
        (λ other. (stage, other.1 ∙ at, omega arith))
        (put_cases server.stages dev id old new (number_first server.stages dev old there) there)

device_goes : (w : WorldState) (n : ℕ) (e : DeviceState) → Goes w (at_events (with_device w n e))
unfolding with_device
device_goes w n e = goes_by w _ (same_on w.server w.server refl refl) (map (λ (u : Uplink). made_by n u) e.outbox) refl refl

event_go : (w : WorldState) (n : ℕ) (d : Option DeviceState) (o : Option Event) → Goes w (at_events (after_event_at w n d o))
event_go w n None o = still w _ refl refl refl
event_go w n (Some d) None = still w _ refl refl refl
event_go w n (Some d) (Some e) = device_goes w n (event_step d e)

-- what a form lets happen at a device
form_event_goes : (w : WorldState) (n : ℕ) (form : Form) → Goes w (with_event_of w n form)
form_event_goes w n form =
    event_go w n (numbered w.devices n) (event_of w.server.plan.group w.sent w.time (w.lines + 1) form)

made_goes : (w : WorldState) (form : Form) → is_event_or_end form ≡ true → Goes w (after_form w form)
made_goes w =
    by_event (Goes w) w (λ time here late. still w _ refl refl (ap not late)) (λ n form. form_event_goes w n form)
    (λ s to down sends. sends_go w s to down (same_on w.server s sends.stages sends.image))
    (λ dev cs. sends_go w (with_answers w.server dev cs (ledger w.server dev)) (Some dev) (by_unicast (time_answer w.time cs))
    (answers_on w.server dev cs (ledger w.server dev) refl))

-- what a line says
said_goes : (w : WorldState) (said : Said) → said_cause w said ≡ None → is_planning w.section ≡ false → Goes w (after_said w said)
said_goes w (Own form) fine over = made_goes w form (event_over w form fine over)
said_goes w Elsewhere fine over = still w w refl refl over
said_goes w (Reached n word down) fine over = event_go w n (numbered w.devices n) (Some (Receives w.time word (w.lines + 1) down))

line_goes : (w : WorldState) (line : Line) → line_cause w line ≡ None → is_planning w.section ≡ false → Goes w (after_line w line)
line_goes w (Err cause) fine over = absurd cc
line_goes w (Ok said) fine over =
    let g = said_goes w said fine over in
    record { ranks = g.ranks; uplinks = g.uplinks; image = g.image; over = g.over }

pub all_go : (w end : WorldState) (lines : List Line) → is_planning w.section ≡ false → read_lines (Ok w) lines ≡ Ok end → Goes w end
unfolding read_lines
all_go w end [] over read = let same : w ≡ end = cc in subst (Goes w) same (still w w refl refl over)
all_go w end (line ∷ lines) over read =
    let first = read_first w end line lines read in
    let here = line_goes w line (line_fine w line first.0) over in
    let rest = all_go (after_line w line) end lines here.over first.1 in
    record {
      ranks = λ id stage at. (let one = here.ranks id stage at in let more = rest.ranks id one.0 one.1 in (more.0, more.1, omega (arith, one.2, more.2)));
      uplinks = (here.uplinks.0 ++ rest.uplinks.0, rest.uplinks.1 ∙ ap (λ (us : List NumberedUplink). us ++ rest.uplinks.0) here.uplinks.1 ∙ append_assoc w.uplinks here.uplinks.0 rest.uplinks.0);
      image = rest.image ∙ here.image;
      over = rest.over;
    }

-- ---- an uplink of one command

-- the stages after it
stages_by : (w : WorldState) (dev : ℕ) (x : Command) (r : Reading) → r ≡ Ok (x ∷ [])
    → (after_answer w dev (read_uplink w.server dev w.time r)).server.stages ≡ (with_answers w.server dev (x ∷ []) (ledger w.server dev)).stages
unfolding read_uplink
stages_by w dev x r is = rw is (sent (record w { server = with_answers w.server dev (x ∷ []) (ledger w.server dev) }) (Some dev) (by_unicast (time_answer w.time (x ∷ []))))
  where
    sent : (v : WorldState) (to : Option ℕ) (o : Option DownlinkCommand) → (with_sent v to o).server.stages ≡ v.server.stages
    sent v to None = refl
    sent v to (Some down) = refl

stages_are : (w : WorldState) (made : NumberedUplink) (x : Command) → reading_of made.uplink.port Upwards made.uplink.payload ≡ Ok (x ∷ [])
    → (after_up w (Some made)).server.stages ≡ (with_answers w.server made.device (x ∷ []) (ledger w.server made.device)).stages
unfolding uplink_step
stages_are w made x read = stages_by w made.device x (reading_of made.uplink.port Upwards made.uplink.payload) read

put_same : {A : Type 0} (xs : List A) (n : ℕ) (x : A) → numbered xs n ≡ Some x → slice_set xs (n - 1) x ≡ xs
put_same {A = A} xs n x is = by (n == 0) is
  where
    by : (b : Bool) → cond b None (slice_get xs (n - 1)) ≡ Some x → slice_set xs (n - 1) x ≡ xs
    by true h = absurd cc
    by false h = set_there xs (n - 1) x h

-- where the answer leaves the stage, it leaves them all
stays_by : (server : ServerState) (dev : ℕ) (x : Command) (o : Option Stage) → numbered server.stages dev ≡ o
    → ((stage : Stage) → o ≡ Some stage → stage_after server.plan server.image stage x ≡ stage) → (with_answers server dev (x ∷ []) o).stages ≡ server.stages
unfolding stage_after_all
stays_by server dev x None there stays = refl
stays_by server dev x (Some stage) there stays = rw (stays stage refl) (put_same server.stages dev stage there)

-- ---- the image stays

said_image : (w : WorldState) (said : Said) → (after_said w said).server.image ≡ w.server.image
said_image w (Own form) = (form_keeps w form).image
said_image w Elsewhere = refl
said_image w (Reached n word down) = (event_keeps w n (numbered w.devices n) (Some (Receives w.time word (w.lines + 1) down))).image

line_image : (w : WorldState) (line : Line) → (after_line w line).server.image ≡ w.server.image
line_image w (Err cause) = refl
line_image w (Ok said) = said_image w said

lines_image : (w end : WorldState) (lines : List Line) → read_lines (Ok w) lines ≡ Ok end → end.server.image ≡ w.server.image
unfolding read_lines
lines_image w end [] read = let same : w ≡ end = cc in ap (λ (v : WorldState). v.server.image) (sym same)
lines_image w end (line ∷ lines) read =
    let first = read_first w end line lines read in
    lines_image (after_line w line) end lines first.1 ∙ line_image w line

-- ---- the law

no_version : (x d e : Bool) → (x && false && d && e) ≡ true → ⊥
no_version true d e is = cc
no_version false d e is = cc

no_image : (image : List ℕ) → is_image image ≡ true → firmware_of image ≡ 0 → ⊥
unfolding is_image
no_image image is none = no_version _ _ _ (rw none at is)

-- an uplink that tells the image's version comes from a device that runs it, and so that was asked for more than its version
told_later : (image : List ℕ) (w : WorldState) (made : NumberedUplink) (x : Command) (stage : Stage) → is_image image ≡ true → Waits w → MadeTruly image w.devices made
    → reading_of made.uplink.port Upwards made.uplink.payload ≡ Ok (x ∷ []) → numbered w.server.stages made.device ≡ Some stage
    → (hardware : ℕ) → x ≡ Sync (s.DevVersionAns (firmware_of image) hardware) → 1 ≤ rank stage
told_later image w made x stage file k truly read there hardware tells =
    let runs : Runs image w.devices made.device = (truly (x ∷ []) read).0 hardware tells in
    first stage there runs
  where
    some_version : (firmware_of image ≡ 0) → ⊥
    some_version none = no_image image file none

    first : (here : Stage) → numbered w.server.stages made.device ≡ Some here → Runs image w.devices made.device → 1 ≤ rank here
    first (At request.Version) at runs =
        let calm = k.devices made.device runs.0 runs.1 at in
        absurd (some_version (sym runs.2.version ∙ calm.version))
    first stage at runs = omega arith

later_by : (image : List ℕ) (world later : WorldState) (made : NumberedUplink) (x : Command) (o : Option Stage) → is_image image ≡ true → Waits world → MadeTruly image world.devices made
    → world.server.image ≡ image → later.server.image ≡ image → reading_of made.uplink.port Upwards made.uplink.payload ≡ Ok (x ∷ []) → numbered world.server.stages made.device ≡ o
    → ((id : ℕ) (stage : Stage) → numbered (with_answers world.server made.device (x ∷ []) o).stages id ≡ Some stage → (t : Stage) × (numbered later.server.stages id ≡ Some t) × (rank stage ≤ rank t))
    → (with_answers world.server made.device (x ∷ []) o).stages ≢ world.server.stages → (after_up later (Some made)).server.stages ≡ later.server.stages
unfolding stage_after_all
later_by image world later made x None file k truly wi li read at ranks moved = absurd (moved refl)
later_by image world later made x (Some stage) file k truly wi li read at ranks moved =
    let new : Stage = stage_after world.server.plan world.server.image stage x in
    let placed : numbered (slice_set world.server.stages (made.device - 1) new) made.device ≡ Some new = numbered_there world.server.stages made.device stage new at in
    let now = ranks made.device new placed in
    let moves : new ≢ stage = λ same. moved (stays_by world.server made.device x (Some stage) at (λ y is. (let e : stage ≡ y = cc in subst (λ (z : Stage). stage_after world.server.plan world.server.image z x ≡ z) e same))) in
    let rest : stage_after later.server.plan image now.0 x ≡ now.0 =
    moves_once world.server.plan later.server.plan image stage now.0 x
    (subst (λ (i : List ℕ). stage_after world.server.plan i stage x ≢ stage) wi moves)
    (subst (λ (i : List ℕ). rank (stage_after world.server.plan i stage x) ≤ rank now.0) wi now.2)
    (told_later image world made x stage file k truly read at) in
    stages_are later made x read
    ∙ ap (λ (o : Option Stage). (with_answers later.server made.device (x ∷ []) o).stages) now.1
    ∙ stays_by later.server made.device x (Some now.0) now.1
    (λ y is. (let e : now.0 ≡ y = cc in subst (λ (z : Stage). stage_after later.server.plan later.server.image z x ≡ z) e (subst (λ (i : List ℕ). stage_after later.server.plan i now.0 x ≡ now.0) (sym li) rest)))

pub an_uplink_moves_once : MovesOnce
unfolding after_form
an_uplink_moves_once image line before between number world later made x bytes file fits honest read says more there single moved =
    let first = read_first world later line between more in
    let next : WorldState = one_line_more (at_events (after_up world (numbered world.uplinks number))) in
    let rest : read_lines (Ok next) between ≡ Ok later = subst (λ (l : Line). read_lines (Ok (after_line world l)) between ≡ Ok later) says first.1 in
    let here = made_goes world (Up number) refl in
    let on = all_go next later between refl rest in
    let still : numbered later.uplinks number ≡ Some made =
    ap (λ (us : List NumberedUplink). numbered us number) (on.uplinks.1 ∙ ap (λ (us : List NumberedUplink). us ++ on.uplinks.0) here.uplinks.1)
    ∙ numbered_more (world.uplinks ++ here.uplinks.0) on.uplinks.0 number made (numbered_more world.uplinks here.uplinks.0 number made there) in
    let wi : world.server.image ≡ image = lines_image (first_world image) world before read in
    let li : later.server.image ≡ image = on.image ∙ here.image ∙ wi in
    let truly = all_numbered (MadeTruly image world.devices) world.uplinks number made (uplinks_are_true image world.server.plan.index world before bytes file fits honest read) there in
    let is : (after_up world (numbered world.uplinks number)).server.stages ≡ (with_answers world.server made.device (x ∷ []) (ledger world.server made.device)).stages =
    ap (λ (o : Option NumberedUplink). (after_up world o).server.stages) there ∙ stages_are world made x single in
    ap (λ (o : Option NumberedUplink). (after_up later o).server.stages) still
    ∙ later_by image world later made x (ledger world.server made.device) file (waits_behind image world.server.plan.index world before bytes fits honest read) truly wi li single refl
    (subst (λ (xs : List Stage). (id : ℕ) (stage : Stage) → numbered xs id ≡ Some stage → (t : Stage) × (numbered later.server.stages id ≡ Some t) × (rank stage ≤ rank t)) is (λ id stage at. on.ranks id stage at))
    (subst (λ (xs : List Stage). xs ≢ world.server.stages) is moved)
