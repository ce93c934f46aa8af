-- `air` instead of `down` leaves a campaign unchanged.
use Rattle.std.proofs.Common.{◌≡◌, inl, inr, ℕ, ◌^◌, ◌<◌, ◌≤◌, ◌&&◌, nat_lt, Bool, true, false, List, [], ◌∷◌, ◌++◌, length, map, All, codes, Option, None, Some, Result, Ok, Err, refl, sym, ap, ◌∙◌, subst, arith}
use Rattle.std.proofs.lemmas.Bool.{cases_lt, lt-ltb}
use Rattle.std.specs.List.{AllZip}
use Rattle.wire_base.specs.Numbered.{numbered}
use Rattle.script_lines.specs.declared.forms.Form.{Form}
use Rattle.script_lines.specs.declared.forms.Form.TheVariants.{Down, Air}
use Rattle.script_lines.specs.Lines.{lines_of, words_of, word}
use Rattle.script_lines.specs.Limits.{max_line}
use Rattle.script_lines.specs.Ranges.{in_range}
use Rattle.script_lines.specs.Forms.{in_the_air, form_of}
use Rattle.report_lines.specs.declared.faults.LineFault.{LineFault}
use Rattle.report_lines.specs.declared.faults.LineWhy.{LineWhy}
use Rattle.report_lines.specs.declared.faults.LineWhy.TheVariants as why
use Rattle.campaign_server.proofs.LineItems.{numbered_more}
use Rattle.campaign_world.specs.declared.numbered.SentPayload.{SentPayload}
use Rattle.campaign_world.specs.World.{WorldState, first_world}
use Rattle.campaign_world.specs.Said.{Said, Own, Line, line_of, said_in}
use Rattle.campaign_world.specs.Causes.{is_in_order, names_device, may_reach, goes_out, form_cause, line_cause, cause_of}
use Rattle.campaign_world.specs.Honest.{AreHonest}
use Rattle.campaign_world.specs.Script.{one_line_more, after_line, line_result, read_line, read_lines, end_result, campaign_of}
use Rattle.campaign_laws.specs.Airing.{HasAir, IsAired, AirIsDown}
use Rattle.campaign_laws.proofs.HeadlineForms.{passes, payload_there}
use Rattle.campaign_laws.proofs.HeadlineLines.{end_is}
use Rattle.campaign_laws.proofs.Independence.{Grows, read_first, line_fine, sent_grows}
use Rattle.campaign_laws.proofs.Airing.{up_to_sent, may_alike, air_same}
use Rattle.campaign_laws.proofs.HonestLines.{few_lines, Stands, first_stands, line_stands}
use Rattle.campaign_laws.specs.Fields.{AllFit}
use Rattle.campaign_laws.proofs.FormBytes.{script_fits}
use Rattle.script_lines.proofs.FastForms.{words_after_down, words_after_air}
use Rattle.campaign_world.proofs.FormCauses.{short_line, of_form}
use Rattle.campaign_world.proofs.Lines.{said_form}

-- ---- the form of the line with air

form_by : (line other : List ℕ) (ws : List (List ℕ)) → words_of line ≡ codes "down" ∷ ws → words_of other ≡ codes "air" ∷ ws
    → form_of other ≡ in_the_air (form_of line)
unfolding form_of word
form_by line other ws one more = rw (one, more) refl

air_form_is : (rest : List ℕ) (number device word : ℕ) → form_of (codes "down " ++ rest) ≡ Some (Down number device word)
    → form_of (codes "air " ++ rest) ≡ Some (Air number device word)
air_form_is rest number device word is =
    form_by (codes "down " ++ rest) (codes "air " ++ rest) (words_of rest) (words_after_down rest) (words_after_air rest) ∙ ap in_the_air is

-- ---- it is taken too

more_sent : (may ranged names one more : Bool) → up_to_sent may ranged names one ≡ None → more ≡ true
    → up_to_sent may ranged names (one && more) ≡ None
more_sent true true true true more is goes = rw (goes) refl
more_sent true true true false more is goes = absurd cc
more_sent true true false one more is goes = absurd cc
more_sent true false names one more is goes = absurd cc
more_sent false ranged names one more is goes = absurd cc

air_fine : (w : WorldState) (number n word : ℕ) → form_cause w (Down number n word) ≡ None
    → goes_out (numbered w.sent number) ≡ true → form_cause w (Air number n word) ≡ None
unfolding form_cause in_range
air_fine w number n word fine goes =
    let ranged : Bool = in_range (Air number n word) && true in
    let names : Bool = names_device (length w.devices) (Air number n word) && true in
    let one : Bool = may_reach n (numbered w.sent number) in
    let more : Bool = goes_out (numbered w.sent number) in
    more_sent (is_in_order w.section (Air number n word)) ranged names one more
    (subst (λ (may : Bool). up_to_sent may ranged names one ≡ None) (sym (may_alike w.section number n word)) fine) goes

-- a line that says something is no longer than a line may be
too_long : (line : List ℕ) → nat_lt max_line (length line) ≡ true → line_of line ≡ Err why.Limit
too_long line long = rw (long) refl

short_by : (line : List ℕ) (said : Said) → line_of line ≡ Ok said → length line ≤ max_line
short_by line said is = elim (cases_lt max_line (length line)) [
  | inl long ↦ absurd (let both : Err why.Limit ≡ Ok said = sym (too_long line (lt-ltb max_line (length line) long)) ∙ is in cc)
  | inr short ↦ short
]

-- ---- and makes the same

-- what was sent of a number that was sent stays
went_out : (sent end : List SentPayload) (number : ℕ) (p : SentPayload) → Grows sent end → numbered sent number ≡ Some p
    → goes_out (numbered end number) ≡ true → goes_out (numbered sent number) ≡ true
went_out sent end number p grows got goes =
    let late : numbered end number ≡ Some p = rw (grows.1) (numbered_more sent grows.0 number p got) in
    ap goes_out (got ∙ sym late) ∙ goes

pub read_same : (w : WorldState) (line : Line) → cause_of w line ≡ None → read_line w line ≡ Ok (after_line w line)
unfolding read_line
read_same w line fine = ap (λ (c : Option LineWhy). line_result w line c) fine

longer : (rest : List ℕ) → length (codes "air " ++ rest) ≤ length (codes "down " ++ rest)
longer rest = omega arith

other_read : (image : List ℕ) (w end : WorldState) (line other : List ℕ) → All (λ b. b < 2 ^ 8) image → Stands image 0 w
    → cause_of w (line_of line) ≡ None → Grows w.sent end.sent → IsAired end.sent line other
    → read_line w (line_of other) ≡ Ok (after_line w (line_of line))
other_read image w end line other bytes stands fine grows (inl same) =
    ap (λ (l : List ℕ). read_line w (line_of l)) same ∙ read_same w (line_of line) fine
other_read image w end line other bytes stands fine grows (inr a) =
    let rest : List ℕ = a.0 in
    let its : HasAir end.sent line other rest a.1 a.2 a.3 = a.4 in
    let down : Form = Down a.1 a.2 a.3 in
    let air : Form = Air a.1 a.2 a.3 in
    let says_down : line_of line ≡ Ok (Own down) = said_form w line down its.form fine in
    let fine_down : form_cause w down ≡ None = ap (line_cause w) (sym says_down) ∙ line_fine w (line_of line) fine in
    let got = payload_there a.2 (numbered w.sent a.1) (passes w down fine_down).come in
    let goes = went_out w.sent end.sent a.1 got.0 grows got.1 its.to_group in
    let fine_air : form_cause w air ≡ None = air_fine w a.1 a.2 a.3 fine_down goes in
    let is : form_of other ≡ Some air =
    ap form_of its.air ∙ air_form_is rest a.1 a.2 a.3 (ap form_of (sym its.down) ∙ its.form) in
    let longest : length other ≤ length line =
    subst (λ (l : List ℕ). length l ≤ length line) (sym its.air)
    (subst (λ (l : List ℕ). length (codes "air " ++ rest) ≤ length l) (sym its.down) (longer rest)) in
    let line_short : length line ≤ max_line = short_by line (Own down) says_down in
    let short : length other ≤ max_line = omega (arith, longest, line_short) in
    let says_air : line_of other ≡ Ok (Own air) = short_line other (Some air) short (sym is) in
    read_same w (line_of other) (of_form w other (Some air) None (few_lines w (line_of line) fine) short (sym is) fine_air)
    ∙ ap (λ (v : WorldState). let r : Result WorldState LineFault = Ok v in r)
    (ap (after_line w) says_air
    ∙ ap one_line_more (air_same image w a.1 a.2 a.3 bytes stands.keeps stands.keyed fine_air)
    ∙ sym (ap (after_line w) says_down))

-- ---- all lines

lines_same : (image : List ℕ) (w end : WorldState) (lines others : List (List ℕ)) → All (λ b. b < 2 ^ 8) image → Stands image 0 w
    → AllFit 0 (map line_of lines) → AreHonest 0 (map line_of lines) → read_lines (Ok w) (map line_of lines) ≡ Ok end
    → AllZip (IsAired end.sent) lines others → read_lines (Ok w) (map line_of others) ≡ Ok end
unfolding read_lines
lines_same image w end [] [] bytes stands fits honest read all = read
lines_same image w end [] (x ∷ xs) bytes stands fits honest read all = absurd all
lines_same image w end (line ∷ lines) [] bytes stands fits honest read all = absurd all
lines_same image w end (line ∷ lines) (other ∷ others) bytes stands fits honest read all =
    let said : Line = line_of line in
    let first = read_first w end said (map line_of lines) read in
    let grows = sent_grows w end (said ∷ map line_of lines) read in
    let next = line_stands image 0 w said bytes stands first.0 fits.0 (line_fine w said first.0) honest.0 in
    ap (λ (r : Result WorldState LineFault). read_lines r (map line_of others))
    (other_read image w end line other bytes stands first.0 grows all.0)
    ∙ lines_same image (after_line w said) end lines others bytes next fits.1 honest.1 first.1 all.1

pub air_is_down : AirIsDown
unfolding campaign_of
air_is_down image script other world bytes honest accepted all =
    let read = end_is (read_lines (Ok (first_world image)) (said_in script)) world accepted in
    ap end_result (lines_same image (first_world image) world (lines_of script) (lines_of other) bytes (first_stands image 0)
    (script_fits script) honest read all
    ∙ sym read)
