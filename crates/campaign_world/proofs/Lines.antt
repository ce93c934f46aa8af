-- What a line is answered, and what a report says, of a world that stands for a campaign.
use Rattle.std.proofs.Common.{◌≡◌, ℕ, ◌≤◌, ◌+◌, ◌-◌, zero, suc, Bool, true, false, cond, nat_lt, nat_le, ◌==◌, List, [], ◌∷◌, ◌++◌, length, drop, slice_get, Option, Some, None, Result, Ok, Err, OnOk, IfErr, refl, sym, ap, ◌∙◌, subst, arith, append_assoc, append-nil}
use Rattle.std.proofs.lemmas.Bool.Decides.{nat_tests}
use Rattle.device_core.specs.Device.{DeviceState}
use Rattle.campaign_server.specs.declared.stage.Stage.{Stage}
use Rattle.campaign_server.specs.Server.{ServerState}
use Rattle.wire_base.specs.Numbered.{numbered}
use Rattle.script_lines.specs.declared.forms.Form.{Form}
use Rattle.script_lines.specs.Forms.{form_of}
use Rattle.script_lines.specs.Limits.{max_lines, max_line}
use Rattle.report_lines.specs.declared.faults.LineError.{LineError}
use Rattle.report_lines.specs.declared.faults.LineError.TheVariants as error
use Rattle.report_lines.specs.declared.faults.LineWhy.{LineWhy}
use Rattle.report_lines.specs.declared.faults.LineWhy.TheVariants as why
use Rattle.campaign_world.specs.declared.section.Section.{Section}
use Rattle.campaign_world.specs.declared.section.Section.TheVariants as section
use Rattle.campaign_world.specs.World.{WorldState}
use Rattle.campaign_world.specs.Said.{Own, own, line_of}
use Rattle.campaign_world.specs.Causes.{line_cause, cause_of, has_ended}
use Rattle.campaign_world.specs.Making.{after_form}
use Rattle.campaign_world.specs.Script.{one_line_more, after_line, end_result_at}
use Rattle.campaign_world.specs.Report.{device_part, device_parts, report_with, report_of}
use Rattle.campaign_world.specs.HeldWorld.{HeldWorld, WorldStands, WorldBecomes, IsLineAnswer, world_of}
use Rattle.campaign_world.specs.HeldLate.{DeviceRests}
use Rattle.campaign_world.proofs.Zips.{zip_long}
use Rattle.campaign_world.proofs.Sections.{by_section, never}

-- ---- a line

-- the cause of what is held is the campaign's
pub cause_stands : (held : HeldWorld) (world : WorldState) (line : List ℕ) (cause : Option LineWhy) → WorldStands held world
    → ((devices : List DeviceState) → length devices ≡ length held.devices → cause_of (world_of held devices) (line_of line) ≡ cause)
    → cause_of world (line_of line) ≡ cause
cause_stands held world line cause stands is =
    subst (λ (w : WorldState). cause_of w (line_of line) ≡ cause) (sym stands.rest) (is world.devices (zip_long DeviceRests held.devices world.devices stands.devices))

pub lines_stand : (held : HeldWorld) (world : WorldState) → WorldStands held world → held.lines + 1 ≡ world.lines + 1
lines_stand held world stands = ap (λ (w : WorldState). w.lines + 1) (sym stands.rest)

-- a line of which no cause holds says the form that it spells
said_by : (world : WorldState) (full long : Bool) (form : Option Form) (taken : Form) → form ≡ Some taken
    → cond full (Some why.Limit) (line_cause world (cond long (Err why.Limit) (own form))) ≡ None
    → cond long (Err why.Limit) (own form) ≡ Ok (Own taken)
said_by world true long form taken is fine = absurd cc
said_by world false true form taken is fine = absurd cc
said_by world false false form taken is fine = ap own is

pub said_form : (world : WorldState) (line : List ℕ) (form : Form) → form_of line ≡ Some form → cause_of world (line_of line) ≡ None
    → line_of line ≡ Ok (Own form)
unfolding cause_of
said_form world line form is fine =
    said_by world (nat_le max_lines world.lines) (nat_lt max_line (length line)) (form_of line) form is fine

-- a line that is taken
pub line_taken : (old new : HeldWorld) (world : WorldState) (line : List ℕ) (form : Form) → WorldStands old world → form_of line ≡ Some form
    → cause_of world (line_of line) ≡ None
    → WorldBecomes old new (λ world. one_line_more (after_form world form)) → WorldStands new (after_line world (line_of line))
line_taken old new world line form stands is fine becomes = rw (said_form world line form is fine) (becomes world stands)

pub line_answer : (world : WorldState) (line : List ℕ) (new : HeldWorld) (result : Result (Unit {0}) LineError)
    → OnOk result ((cause_of world (line_of line) ≡ None) × WorldStands new (after_line world (line_of line)) × (new.kept ≡ None))
    → IfErr result (λ e. e ≡ error.Memory) → IsLineAnswer world line new result
line_answer world line new (Ok done) taken memory = taken
line_answer world line new (Err error.Memory) taken memory = tt
line_answer world line new (Err (error.Line fault)) taken memory = absurd cc

-- a line that is refused
pub line_refused : (old new : HeldWorld) (world : WorldState) (line : List ℕ) (why : LineWhy) (result : Result (Unit {0}) LineError)
    → WorldStands old world → cause_of world (line_of line) ≡ Some why
    → result ≡ Err (error.Line (record { line = old.lines + 1; why = why }))
    → new ≡ record old { kept = Some (error.Line (record { line = old.lines + 1; why = why })) }
    → IsLineAnswer world line new result
line_refused old new world line why result stands cause is kept =
    rw (is, kept) (cause, lines_stand old world stands, record { devices = stands.devices; rest = stands.rest })

-- ---- a report

pub ended : (world : WorldState) → world.section ≡ section.Ended → end_result_at world.section world ≡ Ok world
ended world is = rw (is) refl

pub section_stands : (held : HeldWorld) (world : WorldState) → WorldStands held world → world.section ≡ held.section
section_stands held world stands = ap (λ (w : WorldState). w.section) stands.rest

told_of_held : (held : HeldWorld) (ds : List DeviceState) (server : ServerState) (text : List ℕ) → server ≡ held.server
    → text ≡ report_with server ds → text ≡ report_of (world_of held ds)
unfolding report_of
told_of_held held ds server text same is = rw (← same) is

pub told : (held : HeldWorld) (world : WorldState) (server : ServerState) (text : List ℕ) → WorldStands held world → server ≡ held.server
    → text ≡ report_with server world.devices → text ≡ report_of world
told held world server text stands same is = subst (λ (w : WorldState). text ≡ report_of w) (sym stands.rest) (told_of_held held world.devices server text same is)

-- ---- the parts of its devices

pub drop_at : {A : Type 0} (xs : List A) (i j : ℕ) (x : A) → j ≡ i + 1 → slice_get xs i ≡ Some x → drop i xs ≡ x ∷ drop j xs
drop_at [] i j x next there = absurd cc
drop_at (a ∷ xs) zero j x next there = let same : a ≡ x = cc in rw (same, next) refl
drop_at (a ∷ xs) (suc i) zero x next there = absurd (omega (arith, next))
drop_at (a ∷ xs) (suc i) (suc j) x next there = drop_at xs i j x (omega (arith, next)) there

pub drop_all : {A : Type 0} (xs : List A) (i : ℕ) → length xs ≤ i → drop i xs ≡ []
drop_all [] zero past = refl
drop_all [] (suc i) past = refl
drop_all (a ∷ xs) zero past = absurd (omega (arith, past))
drop_all (a ∷ xs) (suc i) past = drop_all xs i (omega (arith, past))

no_parts : (image : List ℕ) (id : ℕ) (stages : List Stage) → device_parts image id stages [] ≡ []
unfolding device_parts
no_parts image id [] = refl
no_parts image id (stage ∷ stages) = refl

pub all_told : (image text all : List ℕ) (id i : ℕ) (stages : List Stage) (ds : List DeviceState) → length ds ≤ i → text ++ device_parts image id stages (drop i ds) ≡ all → text ≡ all
all_told image text all id i stages ds past so_far =
    let none = drop_all ds i past in
    let empty : text ++ [] ≡ all = rw (none, no_parts image id stages) at so_far in
    sym (append-nil text) ∙ empty

pub got_at : {A : Type 0} (items : List A) (n i : ℕ) (x : A) → n ≡ i + 1 → numbered items n ≡ Some x → slice_get items i ≡ Some x
got_at items n i x is there =
    let first : n - 1 ≡ i = omega (arith, is) in
    let some : (n == 0) ≡ false = grind (arith, nat_tests, is) in
    subst (λ (k : ℕ). slice_get items k ≡ Some x) first (rw some at there)

pub part_told : (image text part new all : List ℕ) (id i : ℕ) (stages : List Stage) (ds : List DeviceState) (stage : Stage) (d : DeviceState)
    → id ≡ i + 1 → numbered stages id ≡ Some stage → slice_get ds i ≡ Some d → new ≡ text ++ part → part ≡ device_part image id stage d
    → text ++ device_parts image id (drop i stages) (drop i ds) ≡ all → new ++ device_parts image (id + 1) (drop (i + 1) stages) (drop (i + 1) ds) ≡ all
unfolding device_parts
part_told image text part new all id i stages ds stage d id_is staged there new_is part_is so_far =
    let cut_stages = drop_at stages i (i + 1) stage refl (got_at stages id i stage id_is staged) in
    let cut_devices = drop_at ds i (i + 1) d refl there in
    rw (new_is, append_assoc, part_is) (rw (cut_stages, cut_devices) at so_far)

-- ---- whether the script has ended

pub is_ended : (s : Section) → has_ended s ≡ true → s ≡ section.Ended
is_ended = by_section (λ (s : Section). has_ended s ≡ true → s ≡ section.Ended) never never never never never never never (λ is. refl)

not_ended_at : (s : Section) (world : WorldState) → has_ended s ≡ false → end_result_at s world ≡ Err (record { line = world.lines + 1; why = why.Syntax })
not_ended_at s world =
    by_section (λ (x : Section). has_ended x ≡ false → end_result_at x world ≡ Err (record { line = world.lines + 1; why = why.Syntax })) (λ is. refl) (λ is. refl)
    (λ is. refl) (λ is. refl) (λ is. refl) (λ is. refl) (λ is. refl) (λ is. absurd cc) s

-- a script that has not ended lacks its next line
pub not_ended : (held : HeldWorld) (world : WorldState) → WorldStands held world → has_ended held.section ≡ false
    → end_result_at world.section world ≡ Err (record { line = held.lines + 1; why = why.Syntax })
not_ended held world stands is =
    let here : has_ended world.section ≡ false = rw (section_stands held world stands) is in
    rw (lines_stand held world stands) (not_ended_at world.section world here)
