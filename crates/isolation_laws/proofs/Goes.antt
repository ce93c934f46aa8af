-- Line by line: what holds of each of two campaigns of a script that is accepted.
use Rattle.std.proofs.Common.{◌≡◌, ℕ, ◌^◌, ◌<◌, Bool, true, false, not, cond, List, [], ◌∷◌, All, Option, None, Some, Result, Ok, Err, refl, sym, ap, ◌∙◌, subst, true≢false}
use Rattle.std.specs.List.{AllByRecursion}
use Rattle.std.proofs.lemmas.Bool.{and_parts}
use Rattle.wire_base.specs.declared.refusal.Direction.TheVariants.{Down as Downwards}
use Rattle.package_grammar.specs.declared.downlink.Downlink.{Downlink}
use Rattle.package_grammar.specs.Reading.{reading_of}
use Rattle.script_lines.specs.declared.forms.Campaign.{Campaign}
use Rattle.script_lines.specs.declared.forms.Campaign.TheVariants as campaign
use Rattle.script_lines.specs.declared.forms.Form.{Form}
use Rattle.script_lines.specs.declared.forms.Form.TheVariants.{Header, Image, Raw, RawAir}
use Rattle.report_lines.specs.declared.faults.LineWhy.{LineWhy}
use Rattle.report_lines.specs.declared.faults.LineFault.{LineFault}
use Rattle.campaign_world.specs.declared.numbered.SentPayload.{SentPayload}
use Rattle.campaign_world.specs.declared.section.Section.{Section}
use Rattle.campaign_world.specs.World.{WorldState}
use Rattle.campaign_world.specs.Said.{Said, Own, Elsewhere, Reached}
use Rattle.campaign_world.specs.Causes.{has_ended, takes_events, is_in_order, form_cause, said_cause}
use Rattle.campaign_world.specs.Making.{after_form, after_said}
use Rattle.campaign_world.specs.Honest.{is_raw, are_for_others, has_raw, AreHonest}
use Rattle.campaign_laws.specs.Fields.{LineFits, AllFit}
use Rattle.campaign_laws.proofs.HeadlineForms.{passes, is_early, not_header, not_image, reached_passes}
use Rattle.campaign_laws.proofs.HonestLines.{Stands, first_stands, line_stands}
use Rattle.campaign_laws.proofs.Items.{all_numbered}
use Rattle.pair_run.specs.Pair.{PairState, first_pair, side, other}
use Rattle.pair_run.specs.PairCauses.{pair_cause_of}
use Rattle.pair_run.specs.PairScript.{after_pair_line, pair_line_result, read_pair_line, read_pair_lines, pair_has_ended, pair_end, campaigns_of}
use Rattle.pair_run.specs.PairLines.{lines_to, image_of}
use Rattle.isolation_laws.proofs.PairFields.{Has}
use Rattle.isolation_laws.proofs.Taken.{SaysFit, IsSentToAll, IsApartFrom, is_late, IsTaken, AreTaken, taken}
use Rattle.isolation_laws.proofs.Indexes.{said_late, index_stays, then_fits}
use Rattle.isolation_laws.proofs.Tame.{IsTame}
use Rattle.isolation_laws.proofs.Rested.{Rested, said_rested}
use Rattle.campaign_world.proofs.Sections.{by_section, never}

-- ---- a script that is accepted

pair_by : (pair last : PairState) (line : List ℕ) (lines : List (List ℕ)) (cause : Option LineWhy)
    → read_pair_lines (pair_line_result pair line cause) lines ≡ Ok last → (cause ≡ None) × (read_pair_lines (Ok (after_pair_line pair line)) lines ≡ Ok last)
unfolding read_pair_lines
pair_by pair last line lines None is = (refl, is)
pair_by pair last line lines (Some cause) is = absurd cc

pub pair_first : (pair last : PairState) (line : List ℕ) (lines : List (List ℕ)) → read_pair_lines (Ok pair) (line ∷ lines) ≡ Ok last
    → (pair_cause_of pair line ≡ None) × (read_pair_lines (Ok (after_pair_line pair line)) lines ≡ Ok last)
unfolding read_pair_lines read_pair_line
pair_first pair last line lines is = pair_by pair last line lines (pair_cause_of pair line) is

pub pair_last : (pair last : PairState) → read_pair_lines (Ok pair) [] ≡ Ok last → pair ≡ last
unfolding read_pair_lines
pair_last pair last is = cc

by_end : (b : Bool) (read pair : PairState) (fault : LineFault) → pair_has_ended read ≡ b
    → cond b (let o : Result PairState LineFault = Ok read in o) (Err fault) ≡ Ok pair → (read ≡ pair) × (pair_has_ended read ≡ true)
by_end true read pair fault ends is = let same : read ≡ pair = cc in (same, ends)
by_end false read pair fault ends is = absurd cc

ended_well : (read : Result PairState LineFault) (pair : PairState) → pair_end read ≡ Ok pair → (read ≡ Ok pair) × (pair_has_ended pair ≡ true)
ended_well (Err fault) pair is = absurd cc
ended_well (Ok last) pair is =
    let both = by_end (pair_has_ended last) last pair _ refl is in (
      ap (λ (p : PairState). let o : Result PairState LineFault = Ok p in o) both.0,
      subst (λ (p : PairState). pair_has_ended p ≡ true) both.0 both.1,
    )

pub pair_read : (image_a image_b : List ℕ) (lines : List (List ℕ)) (pair : PairState) → campaigns_of image_a image_b lines ≡ Ok pair
    → (read_pair_lines (Ok (first_pair image_a image_b)) lines ≡ Ok pair) × (pair_has_ended pair ≡ true)
unfolding campaigns_of
pair_read image_a image_b lines pair is = ended_well (read_pair_lines (Ok (first_pair image_a image_b)) lines) pair is

ended_late : (here : Section) → has_ended here ≡ true → is_late here ≡ true
ended_late = by_section (λ (here : Section). has_ended here ≡ true → is_late here ≡ true) never never never never never never never (λ is. refl)

-- ---- one campaign's part of a line

pub of : (x : Campaign) (pair : PairState) (line : List ℕ) → AreTaken pair line → (said : Said) × IsTaken x pair line said
of campaign.A pair line t = (t.a, t.by_a)
of campaign.B pair line t = (t.b, t.by_b)

behind_late : (x : Campaign) (pair : PairState) (line : List ℕ) (said : Said) → IsTaken x pair line said → is_late (side pair x).section ≡ true
    → is_late (side (after_pair_line pair line) x).section ≡ true
behind_late x pair line said t late =
    subst (λ (w : WorldState). is_late w.section ≡ true) (sym t.behind) (said_late (side pair x) said t.fine late)

behind_index : (x : Campaign) (pair : PairState) (line : List ℕ) (said : Said) → IsTaken x pair line said → is_late (side pair x).section ≡ true
    → (side (after_pair_line pair line) x).server.plan.index ≡ (side pair x).server.plan.index
behind_index x pair line said t late =
    ap (λ (w : WorldState). w.server.plan.index) t.behind ∙ index_stays (side pair x) said t.fine t.fits late

-- ---- the index to the end

pub ends_with : (x : Campaign) (lines : List (List ℕ)) (pair last : PairState) → read_pair_lines (Ok pair) lines ≡ Ok last
    → is_late (side pair x).section ≡ true → (side pair x).server.plan.index ≡ (side last x).server.plan.index
ends_with x [] pair last is late = ap (λ (p : PairState). (side p x).server.plan.index) (pair_last pair last is)
ends_with x (line ∷ lines) pair last is late =
    let first = pair_first pair last line lines is in
    let t = of x pair line (taken pair line first.0) in
    sym (behind_index x pair line t.0 t.1 late)
    ∙ ends_with x lines (after_pair_line pair line) last first.1 (behind_late x pair line t.0 t.1 late)

line_fits : (x : Campaign) (pair last : PairState) (line : List ℕ) (lines : List (List ℕ)) (said : Said) → IsTaken x pair line said
    → read_pair_lines (Ok (after_pair_line pair line)) lines ≡ Ok last → LineFits (side last x).server.plan.index (Ok said)
line_fits x pair last line lines said t read =
    then_fits (side pair x) said (side last x).server.plan.index t.fits
    (λ late. sym (ap (λ (w : WorldState). w.server.plan.index) t.behind)
    ∙ ends_with x lines (after_pair_line pair line) last read (subst (λ (w : WorldState). is_late w.section ≡ true) (sym t.behind) late))

-- ---- different indexes

abbrev Apart : PairState → Type 0
Apart pair = is_late pair.b.section ≡ true → (is_late pair.a.section ≡ true) × (pair.a.server.plan.index ≡ pair.b.server.plan.index → ⊥)

early_only : (here : Section) (form : Form) → is_late here ≡ false → is_early form ≡ false → is_in_order here form ≡ true → ⊥
early_only here form =
    by_section (λ (x : Section). is_late x ≡ false → is_early form ≡ false → is_in_order x form ≡ true → ⊥) (λ early late may. not_header form late may)
    (λ early late may. not_image form late may) (λ early. absurd (true≢false early)) (λ early. absurd (true≢false early)) (λ early. absurd (true≢false early)) (λ early. absurd (true≢false early))
    (λ early. absurd (true≢false early)) (λ early. absurd (true≢false early)) here

events_late : (here : Section) → takes_events here ≡ true → is_late here ≡ true
events_late =
    by_section (λ (here : Section). takes_events here ≡ true → is_late here ≡ true) never never never never never (λ takes. refl) (λ takes. refl) never

-- the line after which it has its index is that of its image
grown_form : (w : WorldState) (form : Form) → form_cause w form ≡ None → is_late w.section ≡ false → is_late (after_form w form).section ≡ true
    → (a : WorldState) → IsApartFrom a (Own form) → (is_late a.section ≡ true) × (a.server.plan.index ≡ (after_form w form).server.plan.index → ⊥)
unfolding after_form
grown_form w Header fine early late a apart = absurd (true≢false (sym late))
grown_form w (Image size parity index) fine early late a apart = apart
grown_form w form fine early late a apart = absurd (early_only w.section form early refl (passes w form fine).may)

grown : (w : WorldState) (said : Said) → said_cause w said ≡ None → is_late w.section ≡ false → is_late (after_said w said).section ≡ true
    → (a : WorldState) → IsApartFrom a said → (is_late a.section ≡ true) × (a.server.plan.index ≡ (after_said w said).server.plan.index → ⊥)
grown w (Own form) fine early late a apart = grown_form w form fine early late a apart
grown w Elsewhere fine early late a apart = absurd (true≢false (sym late ∙ early))
grown w (Reached n word down) fine early late a apart =
    absurd (true≢false (sym (events_late w.section (reached_passes w n word down fine).0) ∙ early))

apart_behind : (pair : PairState) (line : List ℕ) → AreTaken pair line → Apart pair → Apart (after_pair_line pair line)
apart_behind pair line t k late = by (is_late pair.b.section) refl
  where
    by : (b : Bool) → is_late pair.b.section ≡ b
        → (is_late (after_pair_line pair line).a.section ≡ true) × ((after_pair_line pair line).a.server.plan.index ≡ (after_pair_line pair line).b.server.plan.index → ⊥)
    by true was =
        let before = k was in (
          behind_late campaign.A pair line t.a t.by_a before.0,
          λ same. before.1 (sym (behind_index campaign.A pair line t.a t.by_a before.0) ∙ same ∙ behind_index campaign.B pair line t.b t.by_b was),
        )
    by false was =
        let now : is_late (after_said pair.b t.b).section ≡ true = subst (λ (w : WorldState). is_late w.section ≡ true) t.by_b.behind late in
        let new = grown pair.b t.b t.by_b.fine was now pair.a t.apart in (
          behind_late campaign.A pair line t.a t.by_a new.0,
          λ same. new.1 (sym (behind_index campaign.A pair line t.a t.by_a new.0) ∙ same
              ∙ ap (λ (w : WorldState). w.server.plan.index) t.by_b.behind),
        )

all_apart : (lines : List (List ℕ)) (pair last : PairState) → read_pair_lines (Ok pair) lines ≡ Ok last → Apart pair → Apart last
all_apart [] pair last is k = subst Apart (pair_last pair last is) k
all_apart (line ∷ lines) pair last is k =
    let first = pair_first pair last line lines is in
    all_apart lines (after_pair_line pair line) last first.1 (apart_behind pair line (taken pair line first.0) k)

pub indexes_apart : (image_a image_b : List ℕ) (lines : List (List ℕ)) (pair : PairState) → campaigns_of image_a image_b lines ≡ Ok pair
    → pair.a.server.plan.index ≡ pair.b.server.plan.index → ⊥
indexes_apart image_a image_b lines pair is =
    let read = pair_read image_a image_b lines pair is in
    let ended = and_parts (has_ended pair.a.section) (has_ended pair.b.section) read.1 in
    (all_apart lines (first_pair image_a image_b) pair read.0 (λ late. absurd (true≢false (sym late))) (ended_late pair.b.section ended.1)).1

-- ---- an honest line

own_honest : (form : Form) → Has form → is_raw form ≡ false
own_honest (Raw n port payload word) has = absurd has
own_honest (RawAir n bytes word) has = absurd has
own_honest form has = refl

said_honest : (index its : ℕ) (sent : List SentPayload) (said : Said) → SaysFit said → IsSentToAll sent said → AllByRecursion (IsTame its) sent
    → (index ≡ its → ⊥) → has_raw index (Ok said) ≡ false
said_honest index its sent (Own form) fits from tame apart = own_honest form fits
said_honest index its sent Elsewhere fits from tame apart = refl
said_honest index its sent (Reached n word down) fits from tame apart =
    let its_own = all_numbered (IsTame its) sent from.0 from.1 tame from.2 in
    ap not (subst (λ (d : Downlink). are_for_others index (reading_of d.port Downwards d.payload) ≡ true) from.4 (its_own.all from.3 index apart))

-- ---- all lines

-- what holds of a campaign before a line, and of the line
pub record Goes (x : Campaign) (image : List ℕ) (index : ℕ) (pair : PairState) (line : List ℕ) : Type 0 where
  pub said : Said
  pub taken : IsTaken x pair line said
  pub stands : Stands image index (side pair x)
  pub rested : Rested index (side pair x)
  pub fits : LineFits index (Ok said)
  pub honest : has_raw index (Ok said) ≡ false

abbrev pub AllGo : (x : Campaign) → (image : List ℕ) → (index : ℕ) → PairState → (lines : List (List ℕ)) → Type 0
AllGo x image index pair [] = Unit {0}
AllGo x image index pair (line ∷ lines) = Goes x image index pair line × AllGo x image index (after_pair_line pair line) lines

record Holds (x : Campaign) (image : List ℕ) (index : ℕ) (pair : PairState) : Type 0 where
  stands : Stands image index (side pair x)
  rested : Rested index (side pair x)

holds_behind : (x : Campaign) (image : List ℕ) (index : ℕ) (pair : PairState) (line : List ℕ) → All (λ b. b < 2 ^ 8) image → Goes x image index pair line
    → Holds x image index (after_pair_line pair line)
holds_behind x image index pair line bytes g =
    let t = g.taken in
    let rested = said_rested image index (side pair x) g.said bytes g.stands t.fine g.honest g.rested in
    record {
      stands = subst (Stands image index) (sym t.behind) (line_stands image index (side pair x) (Ok g.said) bytes g.stands t.cause g.fits t.fine g.honest);
      rested = subst (Rested index) (sym t.behind) (record { devices = rested.devices; sent = rested.sent });
    }

-- a line goes well at a campaign whose index is not that of the other
goes : (x : Campaign) (image : List ℕ) (pair last : PairState) (line : List ℕ) (lines : List (List ℕ)) (said : Said) (its : ℕ) → IsTaken x pair line said
    → read_pair_lines (Ok (after_pair_line pair line)) lines ≡ Ok last → Holds x image (side last x).server.plan.index pair
    → AllByRecursion (IsTame its) (side pair (other x)).sent → ((side last x).server.plan.index ≡ its → ⊥)
    → Goes x image (side last x).server.plan.index pair line
goes x image pair last line lines said its taken is holds tame apart = record {
  said = said;
  taken = taken;
  stands = holds.stands;
  rested = holds.rested;
  fits = line_fits x pair last line lines said taken is;
  honest = said_honest (side last x).server.plan.index its (side pair (other x)).sent said taken.fits taken.sent tame apart;
}

both_go : (image_a image_b : List ℕ) (lines : List (List ℕ)) (pair last : PairState) → All (λ b. b < 2 ^ 8) image_a → All (λ b. b < 2 ^ 8) image_b
    → (last.a.server.plan.index ≡ last.b.server.plan.index → ⊥) → read_pair_lines (Ok pair) lines ≡ Ok last
    → Holds campaign.A image_a last.a.server.plan.index pair → Holds campaign.B image_b last.b.server.plan.index pair
    → AllGo campaign.A image_a last.a.server.plan.index pair lines × AllGo campaign.B image_b last.b.server.plan.index pair lines
both_go image_a image_b [] pair last bytes_a bytes_b apart is a b = (tt, tt)
both_go image_a image_b (line ∷ lines) pair last bytes_a bytes_b apart is a b =
    let first = pair_first pair last line lines is in
    let t = taken pair line first.0 in
    let ia : ℕ = last.a.server.plan.index in
    let ib : ℕ = last.b.server.plan.index in
    let go_a = goes campaign.A image_a pair last line lines t.a ib t.by_a first.1 a b.rested.sent apart in
    let go_b = goes campaign.B image_b pair last line lines t.b ia t.by_b first.1 b a.rested.sent (λ same. apart (sym same)) in
    let more = both_go image_a image_b lines (after_pair_line pair line) last bytes_a bytes_b apart first.1
    (holds_behind campaign.A image_a ia pair line bytes_a go_a) (holds_behind campaign.B image_b ib pair line bytes_b go_b) in
    ((go_a, more.0), (go_b, more.1))

-- of each campaign
pub all_go : (x : Campaign) (image_a image_b : List ℕ) (lines : List (List ℕ)) (pair : PairState) → All (λ b. b < 2 ^ 8) image_a → All (λ b. b < 2 ^ 8) image_b
    → campaigns_of image_a image_b lines ≡ Ok pair
    → AllGo x (image_of x image_a image_b) (side pair x).server.plan.index (first_pair image_a image_b) lines
all_go x image_a image_b lines pair bytes_a bytes_b is =
    let both = both_go image_a image_b lines (first_pair image_a image_b) pair bytes_a bytes_b (indexes_apart image_a image_b lines pair is)
    (pair_read image_a image_b lines pair is).0
    (record { stands = first_stands image_a _; rested = record { devices = tt; sent = tt } })
    (record { stands = first_stands image_b _; rested = record { devices = tt; sent = tt } }) in
    one x both.0 both.1
  where
    one : (y : Campaign) → AllGo campaign.A image_a pair.a.server.plan.index (first_pair image_a image_b) lines
        → AllGo campaign.B image_b pair.b.server.plan.index (first_pair image_a image_b) lines
        → AllGo y (image_of y image_a image_b) (side pair y).server.plan.index (first_pair image_a image_b) lines
    one campaign.A a b = a
    one campaign.B a b = b

-- ---- so its lines are honest, and fit

pub lines_honest : (x : Campaign) (image : List ℕ) (index : ℕ) (pair : PairState) (lines : List (List ℕ)) → AllGo x image index pair lines
    → AreHonest index (lines_to x pair lines)
unfolding lines_to
lines_honest x image index pair [] k = tt
lines_honest x image index pair (line ∷ lines) k = (
  ap (has_raw index) k.0.taken.says ∙ k.0.honest,
  lines_honest x image index (after_pair_line pair line) lines k.1,
)

pub lines_fit : (x : Campaign) (image : List ℕ) (index : ℕ) (pair : PairState) (lines : List (List ℕ)) → AllGo x image index pair lines
    → AllFit index (lines_to x pair lines)
unfolding lines_to
lines_fit x image index pair [] k = tt
lines_fit x image index pair (line ∷ lines) k = (
  subst (LineFits index) (sym k.0.taken.says) k.0.fits,
  lines_fit x image index (after_pair_line pair line) lines k.1,
)
