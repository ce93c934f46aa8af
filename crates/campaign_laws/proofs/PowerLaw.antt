-- `at` the time now instead of `power` leaves a campaign unchanged.
use Rattle.std.proofs.Common.{◌≡◌, inl, inr, ℕ, ◌≤◌, true, List, [], ◌∷◌, None, Result, Ok, Err, refl, sym, ap, ◌∙◌, subst, arith}
use Rattle.std.proofs.lemmas.Bool.{le-leb, and_parts}
use Rattle.script_lines.specs.declared.forms.Form.TheVariants.{At, Power}
use Rattle.script_lines.specs.Limits.{max_time}
use Rattle.script_lines.specs.Ranges.{in_range}
use Rattle.report_lines.specs.declared.faults.LineFault.{LineFault}
use Rattle.campaign_world.specs.declared.section.Section.{Section}
use Rattle.campaign_world.specs.World.{WorldState, first_world}
use Rattle.campaign_world.specs.Said.{Said, Own, Line}
use Rattle.campaign_world.specs.Causes.{is_in_order, form_cause, line_cause, said_cause, cause_of}
use Rattle.campaign_world.specs.Making.{after_form}
use Rattle.campaign_world.specs.Script.{after_line, read_line, read_lines, end_result, campaign_of}
use Rattle.campaign_world.proofs.FormCauses.{time_within, of_line}
use Rattle.campaign_laws.specs.Independence.{time_after}
use Rattle.campaign_laws.specs.Power.{SaysAt, SayAt, PowerIsAt}
use Rattle.campaign_laws.proofs.HeadlineForms.{passes}
use Rattle.campaign_laws.proofs.HeadlineLines.{end_is}
use Rattle.campaign_laws.proofs.HonestLines.{few_lines}
use Rattle.campaign_laws.proofs.Independence.{said_told, read_first, line_fine}
use Rattle.campaign_laws.proofs.AirLaw.{read_same}
use Rattle.campaign_world.proofs.Sections.{by_section}

-- ---- where the one may come, the other may

may_alike : (here : Section) (device time : ℕ) → is_in_order here (At time) ≡ is_in_order here (Power device)
may_alike here device time =
    by_section (λ (x : Section). is_in_order x (At time) ≡ is_in_order x (Power device)) refl refl refl refl refl refl refl refl here

at_fine : (w : WorldState) → w.time ≤ max_time → is_in_order w.section (At w.time) ≡ true → form_cause w (At w.time) ≡ None
unfolding form_cause in_range
at_fine w low may = rw (may, le-leb w.time max_time low, le-leb w.time w.time (omega arith)) refl

-- and both make the same
same_made : (w : WorldState) (device : ℕ) → after_line w (Ok (Own (At w.time))) ≡ after_line w (Ok (Own (Power device)))
unfolding after_form
same_made w device = refl

other_read : (w : WorldState) (line other : Line) → w.time ≤ max_time → cause_of w line ≡ None → SaysAt w.time line other
    → read_line w other ≡ Ok (after_line w line)
other_read w line other low fine (inl same) = ap (read_line w) same ∙ read_same w line fine
other_read w line other low fine (inr p) =
    let power : form_cause w (Power p.0) ≡ None = ap (line_cause w) (sym p.1) ∙ line_fine w line fine in
    let may : is_in_order w.section (At w.time) ≡ true = may_alike w.section p.0 w.time ∙ (passes w (Power p.0) power).may in
    let now : Line = Ok (Own (At w.time)) in
    ap (read_line w) p.2
    ∙ read_same w now (of_line w now None (few_lines w line fine) (at_fine w low may))
    ∙ ap (λ (v : WorldState). let r : Result WorldState LineFault = Ok v in r)
    (same_made w p.0 ∙ sym (ap (after_line w) p.1))

-- ---- the time after a line

time_fits : (w : WorldState) (said : Said) → said_cause w said ≡ None → w.time ≤ max_time → time_after w.time (Ok said) ≤ max_time
time_fits w (Own (At time)) fine low =
    time_within (At time) time (and_parts (in_range (At time)) true (passes w (At time) fine).ranged).0 refl
time_fits w said fine low = low

next_time : (w : WorldState) (line : Line) → line_cause w line ≡ None → w.time ≤ max_time
    → ((after_line w line).time ≡ time_after w.time line) × (time_after w.time line ≤ max_time)
next_time w (Err why) fine low = absurd cc
next_time w (Ok said) fine low = ((said_told 0 None [] w said fine).time, time_fits w said fine low)

-- ---- all lines

lines_same : (w end : WorldState) (lines others : List Line) → w.time ≤ max_time → read_lines (Ok w) lines ≡ Ok end
    → SayAt w.time lines others → read_lines (Ok w) others ≡ Ok end
unfolding read_lines
lines_same w end [] [] low read all = read
lines_same w end [] (x ∷ xs) low read all = absurd all
lines_same w end (line ∷ lines) [] low read all = absurd all
lines_same w end (line ∷ lines) (other ∷ others) low read all =
    let first = read_first w end line lines read in
    let next = next_time w line (line_fine w line first.0) low in
    ap (λ (r : Result WorldState LineFault). read_lines r others) (other_read w line other low first.0 all.0)
    ∙ lines_same (after_line w line) end lines others
    (subst (λ (t : ℕ). t ≤ max_time) (sym next.0) next.1) first.1
    (subst (λ (t : ℕ). SayAt t lines others) (sym next.0) all.1)

pub power_is_at : PowerIsAt
unfolding campaign_of
power_is_at image lines others world accepted all =
    let read = end_is (read_lines (Ok (first_world image)) lines) world accepted in
    ap end_result (lines_same (first_world image) world lines others (omega arith) read all ∙ sym read)
