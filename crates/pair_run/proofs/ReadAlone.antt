-- Each campaign of a pair is what its own image, and what the lines say to it, define.
use Rattle.std.proofs.Common.{◌≡◌, ℕ, Bool, true, false, cond, List, [], ◌∷◌, Option, Some, None, Result, Ok, Err, refl, sym, ap, ◌∙◌, subst}
use Rattle.std.proofs.lemmas.Bool.{and_parts}
use Rattle.script_lines.specs.declared.forms.Campaign.{Campaign}
use Rattle.script_lines.specs.declared.forms.Campaign.TheVariants as campaign
use Rattle.report_lines.specs.declared.faults.LineWhy.{LineWhy}
use Rattle.report_lines.specs.declared.faults.LineFault.{LineFault}
use Rattle.campaign_world.specs.World.{WorldState}
use Rattle.campaign_world.specs.Said.{Line}
use Rattle.campaign_world.specs.Causes.{has_ended, cause_of}
use Rattle.campaign_world.specs.Script.{after_line, line_result, read_line, read_lines, campaign_of}
use Rattle.campaign_world.proofs.Lines.{ended, is_ended}
use Rattle.pair_run.specs.Pair.{PairState, first_pair, side}
use Rattle.pair_run.specs.PairCauses.{pair_cause_of, target_in}
use Rattle.pair_run.specs.PairMaking.{said_to}
use Rattle.pair_run.specs.PairScript.{after_pair_line, pair_line_result, read_pair_line, read_pair_lines, pair_has_ended, pair_end, campaigns_of}
use Rattle.pair_run.specs.PairLines.{line_to, lines_to, EachReadsItsLines}
use Rattle.pair_run.proofs.Unrefused.{unrefused, cause_is, after_is, said_by, side_after}

-- ---- a line is read as the campaign by itself reads what it says to it

read_is : (world : WorldState) (line : Line) → cause_of world line ≡ None → read_line world line ≡ Ok (after_line world line)
unfolding read_line
read_is world line none = ap (λ (c : Option LineWhy). line_result world line c) none

one_read : (x : Campaign) (pair : PairState) (line : List ℕ) → pair_cause_of pair line ≡ None
    → read_line (side pair x) (line_to x pair line) ≡ Ok (side (after_pair_line pair line) x)
one_read x pair line none =
    let u = unrefused pair line none in
    let says = said_by x pair line u.pair_form u.spells in
    read_is (side pair x) (line_to x pair line)
    (subst (λ (l : Line). cause_of (side pair x) l ≡ None) (sym says)
    (cause_is (side pair x) (said_to x pair (target_in pair u.pair_form)) (u.few x) (u.fine x)))
    ∙ ap (λ (w : WorldState). let o : Result WorldState LineFault = Ok w in o)
    (ap (λ (l : Line). after_line (side pair x) l) says
    ∙ (sym (side_after x pair (target_in pair u.pair_form))
    ∙ ap (λ (p : PairState). side p x) (sym (after_is pair line u.pair_form u.spells))))

-- ---- line by line

all_read : (x : Campaign) (lines : List (List ℕ)) (pair last : PairState) → read_pair_lines (Ok pair) lines ≡ Ok last
    → read_lines (Ok (side pair x)) (lines_to x pair lines) ≡ Ok (side last x)
unfolding read_pair_lines read_pair_line read_lines lines_to
all_read x [] pair last is =
    let same : pair ≡ last = cc in ap (λ (p : PairState). let o : Result WorldState LineFault = Ok (side p x) in o) same
all_read x (line ∷ lines) pair last is =
    by_cause (λ behind read. all_read x lines behind last read) (pair_cause_of pair line) refl is
  where
    by_cause : ((behind : PairState) → read_pair_lines (Ok behind) lines ≡ Ok last
        → read_lines (Ok (side behind x)) (lines_to x behind lines) ≡ Ok (side last x))
        → (cause : Option LineWhy) → pair_cause_of pair line ≡ cause → read_pair_lines (pair_line_result pair line cause) lines ≡ Ok last
        → read_lines (read_line (side pair x) (line_to x pair line)) (lines_to x (after_pair_line pair line) lines) ≡ Ok (side last x)
    by_cause others (Some cause) none is = absurd cc
    by_cause others None none is = rw (one_read x pair line none) (others (after_pair_line pair line) is)

-- ---- to its end

ended_side : (x : Campaign) (pair : PairState) → pair_has_ended pair ≡ true → has_ended (side pair x).section ≡ true
ended_side campaign.A pair is = (and_parts (has_ended pair.a.section) (has_ended pair.b.section) is).0
ended_side campaign.B pair is = (and_parts (has_ended pair.a.section) (has_ended pair.b.section) is).1

record Ended (read : Result PairState LineFault) (pair : PairState) : Type 0 where
  is : read ≡ Ok pair
  ends : pair_has_ended pair ≡ true

by_end : (b : Bool) (read pair : PairState) (fault : LineFault) → pair_has_ended read ≡ b
    → cond b (let o : Result PairState LineFault = Ok read in o) (Err fault) ≡ Ok pair → (read ≡ pair) × (pair_has_ended read ≡ true)
by_end true read pair fault ends is = let same : read ≡ pair = cc in (same, ends)
by_end false read pair fault ends is = absurd cc

ended_well : (read : Result PairState LineFault) (pair : PairState) → pair_end read ≡ Ok pair → Ended read pair
ended_well (Err fault) pair is = absurd cc
ended_well (Ok last) pair is =
    let both = by_end (pair_has_ended last) last pair _ refl is in
    record {
      is = ap (λ (p : PairState). let o : Result PairState LineFault = Ok p in o) both.0;
      ends = subst (λ (p : PairState). pair_has_ended p ≡ true) both.0 both.1;
    }

pub reads_alone : EachReadsItsLines
unfolding campaigns_of campaign_of
reads_alone campaign.A image_a image_b lines pair is =
    let ends = ended_well (read_pair_lines (Ok (first_pair image_a image_b)) lines) pair is in
    rw (all_read campaign.A lines (first_pair image_a image_b) pair ends.is)
    (ended pair.a (is_ended pair.a.section (ended_side campaign.A pair ends.ends)))
reads_alone campaign.B image_a image_b lines pair is =
    let ends = ended_well (read_pair_lines (Ok (first_pair image_a image_b)) lines) pair is in
    rw (all_read campaign.B lines (first_pair image_a image_b) pair ends.is)
    (ended pair.b (is_ended pair.b.section (ended_side campaign.B pair ends.ends)))
