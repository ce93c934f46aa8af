-- What holds of each honest campaign after each line, and what its lines are heard as.
use Rattle.std.proofs.Common.{◌≡◌, ◌⊎◌, inl, inr, ℕ, ◌+◌, ◌^◌, ◌<◌, nat_le, Bool, true, false, cond, List, All, Option, None, Some, Ok, Err, refl, sym, ap, ◌∙◌, subst, true≢false}
use Rattle.std.proofs.lemmas.Bool.{le-leb, cases_lt}
use Rattle.script_lines.specs.declared.forms.Form.{Form}
use Rattle.script_lines.specs.declared.forms.Form.TheVariants.{Air, Down}
use Rattle.script_lines.specs.Limits.{max_lines}
use Rattle.report_lines.specs.declared.faults.LineWhy.{LineWhy}
use Rattle.report_lines.specs.declared.faults.LineWhy.TheVariants as why
use Rattle.campaign_world.specs.World.{WorldState, first_world}
use Rattle.campaign_world.specs.Said.{Said, Own, Elsewhere, Reached, Line}
use Rattle.campaign_world.specs.Honest.{has_raw}
use Rattle.campaign_world.specs.Causes.{said_cause, line_cause, cause_of}
use Rattle.campaign_world.specs.Making.{after_said}
use Rattle.campaign_world.specs.Script.{one_line_more, after_line}
use Rattle.campaign_laws.specs.Headline.{HasNoOther, HandsOver}
use Rattle.campaign_laws.specs.Fields.{HasFields, LineFits}
use Rattle.campaign_laws.proofs.HeadlineForms.{is_strange, is_odd, said_turn}
use Rattle.campaign_laws.proofs.Indexed.{IsIndexed, said_indexed, odd_here}
use Rattle.campaign_server.proofs.LineItems.{if_some}
use Rattle.campaign_laws.proofs.HeadlineCommands.{cut_of}
use Rattle.campaign_laws.proofs.HeadlineEnds.{IsDeviceFor}
use Rattle.device_core.specs.Device.{DeviceState}
use Rattle.wire_base.specs.Numbered.{numbered}
use Rattle.campaign_laws.proofs.HeadlineWorlds.{Keeps, Turns, first_keeps, turn_keeps}
use Rattle.campaign_laws.proofs.Keyed.{IsKeyed}
use Rattle.campaign_laws.proofs.KeyedLines.{Keyed, said_keyed, first_keyed}
use Rattle.campaign_laws.proofs.Airing.{heard_as, is_heard}

-- ---- what a line says

-- it brings a frame
abbrev pub brings_frame : Said → Bool
brings_frame (Own form) = is_strange form
brings_frame said = false

-- a frame is heard as its payload
abbrev pub heard_said : Said → Said
heard_said (Own form) = Own (heard_as form)
heard_said said = said

-- what the line says, or the payload of its frame
abbrev pub Says : Line → Said → Type 0
Says line said = (brings_frame said ≡ false)
    × ((line ≡ Ok said) ⊎ ((n : ℕ) × (d : ℕ) × (word : ℕ) × (said ≡ Own (Down n d word)) × (line ≡ Ok (Own (Air n d word)))))

says_own : (line : Line) (form : Form) → is_strange (heard_as form) ≡ false → line ≡ Ok (Own form) → Says line (Own (heard_as form))
says_own line (Air n d word) plain is = (plain, inr (n, d, word, refl, is))
says_own line form plain is = (plain, inl is)

says_of : (line : Line) (said : Said) → brings_frame (heard_said said) ≡ false → line ≡ Ok said → Says line (heard_said said)
says_of line (Own form) plain is = says_own line form plain is
says_of line Elsewhere plain is = (plain, inl is)
says_of line (Reached n word down) plain is = (plain, inl is)

pub hands_over_is : (line : Line) (said : Said) (n id word : ℕ) → HandsOver line n id word → Says line said → said ≡ Own (Down n id word)
hands_over_is line said n id word (inl a) (plain, inl b) =
    let both : Ok said ≡ Ok (Own (Down n id word)) = sym b ∙ a in cc
hands_over_is line said n id word (inl a) (plain, inr x) =
    let both : Ok (Own (Down n id word)) ≡ Ok (Own (Air x.0 x.1 x.2)) = sym a ∙ x.4 in absurd cc
hands_over_is line said n id word (inr a) (plain, inl b) =
    let both : Ok (Own (Air n id word)) ≡ Ok said = sym a ∙ b in
    let is : Own (Air n id word) ≡ said = cc in
    absurd (true≢false (ap brings_frame is ∙ plain))
hands_over_is line said n id word (inr a) (plain, inr x) =
    let both : Ok (Own (Air x.0 x.1 x.2)) ≡ Ok (Own (Air n id word)) = sym x.4 ∙ a in
    let number : x.0 ≡ n = cc in
    let device : x.1 ≡ id = cc in
    let random : x.2 ≡ word = cc in
    x.3 ∙ ap (λ (k : ℕ). Own (Down k x.1 x.2)) number ∙ ap (λ (k : ℕ). Own (Down n k x.2)) device
    ∙ ap (λ (k : ℕ). Own (Down n id k)) random

pub says_down : (line : Line) (said : Said) (n id word : ℕ) → Says line said → said ≡ Own (Down n id word) → HandsOver line n id word
says_down line said n id word (plain, inl b) is = inl (b ∙ ap (λ (x : Said). let l : Line = Ok x in l) is)
says_down line said n id word (plain, inr x) is =
    let both : Own (Down x.0 x.1 x.2) ≡ Own (Down n id word) = sym x.3 ∙ is in
    let number : x.0 ≡ n = cc in
    let device : x.1 ≡ id = cc in
    let random : x.2 ≡ word = cc in
    inr (x.4 ∙ ap (λ (k : ℕ). let l : Line = Ok (Own (Air k x.1 x.2)) in l) number
    ∙ ap (λ (k : ℕ). let l : Line = Ok (Own (Air n k x.2)) in l) device
    ∙ ap (λ (k : ℕ). let l : Line = Ok (Own (Air n id k)) in l) random)

-- ---- what holds

pub record Stands (image : List ℕ) (index : ℕ) (w : WorldState) : Type 0 where
  pub keeps : Keeps image w
  pub keyed : Keyed w.lines w
  pub indexed : IsIndexed index w.section w.server.plan

pub first_stands : (image : List ℕ) (index : ℕ) → Stands image index (first_world image)
first_stands image index = record { keeps = first_keeps image; keyed = first_keyed image; indexed = tt }

-- what a line says that is not a stranger's is heard as what is no frame either, and makes the same
pub record IsHeardSo (w : WorldState) (said : Said) : Type 0 where
  pub plain : is_odd w.server.plan.index (heard_said said) ≡ false
  pub fine : said_cause w (heard_said said) ≡ None
  pub same : after_said w said ≡ after_said w (heard_said said)

-- a line that comes next: what it is heard as, what that makes, and that all still holds then
pub record GoesOnBy (image : List ℕ) (index : ℕ) (w : WorldState) (line : Line) (said : Said) : Type 0 where
  pub heard : IsHeardSo w said
  pub says : Says line (heard_said said)
  pub turn : Turns image (heard_said said) w (after_said w (heard_said said))
  pub stands : Stands image index (one_line_more (after_said w (heard_said said)))

heard_fields : (index : ℕ) (form : Form) → HasFields index form → HasFields index (heard_as form)
heard_fields index (Air n d word) fits = tt
heard_fields index form fits = fits

said_fits : (index : ℕ) (said : Said) → LineFits index (Ok said) → LineFits index (Ok (heard_said said))
said_fits index (Own form) fits = heard_fields index form fits
said_fits index Elsewhere fits = tt
said_fits index (Reached n word down) fits = tt

frameless : (index : ℕ) (said : Said) → is_odd index (heard_said said) ≡ false → brings_frame (heard_said said) ≡ false
frameless index (Own form) plain = plain
frameless index Elsewhere plain = refl
frameless index (Reached n word down) plain = refl

heard_so : (image : List ℕ) (index : ℕ) (w : WorldState) (said : Said) → All (λ b. b < 2 ^ 8) image → Stands image index w
    → said_cause w said ≡ None → has_raw index (Ok said) ≡ false → IsHeardSo w said
heard_so image index w (Own form) bytes stands fine honest =
    let heard = is_heard image w form bytes stands.keeps stands.keyed fine honest in
    record { plain = heard.plain; fine = heard.fine; same = heard.same }
heard_so image index w Elsewhere bytes stands fine honest = record { plain = refl; fine = fine; same = refl }
heard_so image index w (Reached n word down) bytes stands fine honest =
    record { plain = odd_here index w (Reached n word down) fine stands.indexed honest; fine = fine; same = refl }

few_by : (full : Bool) (rest : Option LineWhy) → cond full (Some why.Limit) rest ≡ None → full ≡ false
few_by true rest fine = absurd cc
few_by false rest fine = refl

pub few_lines : (w : WorldState) (line : Line) → cause_of w line ≡ None → w.lines < max_lines
unfolding cause_of
few_lines w line fine = elim (cases_lt w.lines max_lines) [
  | inl lt ↦ lt
  | inr ge ↦ absurd (true≢false (sym (le-leb max_lines w.lines ge) ∙ few_by (nat_le max_lines w.lines) _ fine))
]

-- a device of the campaign has no session but that of index 0
pub alone_at : (image : List ℕ) (w : WorldState) → Keeps image w → (id : ℕ) (d : DeviceState) → numbered w.devices id ≡ Some d
    → HasNoOther w.server.plan.index d.sessions
alone_at image w k id d there =
    (if_some (IsDeviceFor image (cut_of w.server.plan)) (numbered w.devices id) d there (k.devices id)).alone

pub goes_on_by : (image : List ℕ) (index : ℕ) (w : WorldState) (line : Line) (said : Said) → All (λ b. b < 2 ^ 8) image
    → Stands image index w → line ≡ Ok said → cause_of w line ≡ None → LineFits index (Ok said) → said_cause w said ≡ None
    → has_raw index (Ok said) ≡ false → GoesOnBy image index w line said
goes_on_by image index w line said bytes stands is fine fits none honest =
    let heard = heard_so image index w said bytes stands none honest in
    let turn = said_turn image w (heard_said said) bytes stands.keeps heard.fine heard.plain in
    let keeps = turn_keeps image (heard_said said) w (after_said w (heard_said said)) stands.keeps turn in
    let keyed = said_keyed index w (heard_said said) heard.fine (said_fits index said fits) heard.plain (few_lines w line fine)
    (alone_at image w stands.keeps) stands.keyed in
    record {
      heard = heard;
      says = says_of line said (frameless w.server.plan.index said heard.plain) is;
      turn = turn;
      stands = record {
        keeps = record { server = keeps.server; stands = keeps.stands; sent = keeps.sent; devices = keeps.devices };
        keyed = lines_on (after_said w (heard_said said)) (w.lines + 1) (ap (λ (n : ℕ). n + 1) (sym turn.lines)) keyed;
        indexed = said_indexed index w (heard_said said) heard.fine (said_fits index said fits) stands.indexed;
      };
    }
  where
    lines_on : (v : WorldState) (n : ℕ) → n ≡ v.lines + 1 → Keyed n v → Keyed (v.lines + 1) (one_line_more v)
    lines_on v n same k =
        subst (λ (m : ℕ). IsKeyed m v.section v.server v.devices v.sent) same k

-- so it is after the line itself
pub stands_behind : (image : List ℕ) (index : ℕ) (w : WorldState) (said : Said) → after_said w said ≡ after_said w (heard_said said)
    → Stands image index (one_line_more (after_said w (heard_said said))) → Stands image index (after_line w (Ok said))
stands_behind image index w said same stands =
    subst (λ (v : WorldState). Stands image index (one_line_more v)) (sym same) stands

-- a line that is taken
pub line_stands : (image : List ℕ) (index : ℕ) (w : WorldState) (line : Line) → All (λ b. b < 2 ^ 8) image → Stands image index w
    → cause_of w line ≡ None → LineFits index line → line_cause w line ≡ None → has_raw index line ≡ false
    → Stands image index (after_line w line)
line_stands image index w (Err cause) bytes stands fine fits none honest = absurd cc
line_stands image index w (Ok said) bytes stands fine fits none honest =
    let on = goes_on_by image index w (Ok said) said bytes stands refl fine fits none honest in
    stands_behind image index w said on.heard.same on.stands
