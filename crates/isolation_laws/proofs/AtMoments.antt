-- Where each event of the other campaign is written as `at` its moment, a campaign is the same except for its devices' counters.
use Rattle.std.proofs.Common.{◌≡◌, ◌⊎◌, inl, inr, ℕ, ◌≤◌, ◌<◌, ◌^◌, Bool, true, false, cond, ◌&&◌, ◌||◌, nat_le, nat_lt, List, [], ◌∷◌, ◌++◌, length, codes, Option, Some, None, Ok, refl, sym, ap, ◌∙◌, subst, arith}
use Rattle.std.proofs.lemmas.Bool.Decides.{nat_tests}
use Rattle.std.specs.List.{AllZip}
use Rattle.std.specs.Fmt.{decimal}
use Rattle.std.proofs.lemmas.Fmt.{length-decimal-le}
use Rattle.wire_base.specs.Numbered.{numbered}
use Rattle.device_core.specs.Device.{DeviceState}
use Rattle.campaign_server.specs.declared.stage.Stage.{Stage}
use Rattle.campaign_server.specs.Server.{ServerState, ledger}
use Rattle.script_lines.specs.declared.forms.Campaign.{Campaign}
use Rattle.script_lines.specs.declared.forms.Campaign.TheVariants as campaign
use Rattle.script_lines.specs.declared.forms.Form.TheVariants as form
use Rattle.script_lines.specs.declared.forms.PairForm.{PairForm}
use Rattle.script_lines.specs.Lines.{words_of, word}
use Rattle.script_lines.specs.Numbers.{decimal_of}
use Rattle.script_lines.specs.PairForms.{pair_form_of}
use Rattle.script_lines.proofs.CutWords.{last_word}
use Rattle.campaign_generator.proofs.Decimals.{decimal_is_read}
use Rattle.script_lines.specs.Limits.{max_lines, max_line}
use Rattle.report_lines.specs.declared.faults.LineWhy.{LineWhy}
use Rattle.campaign_world.specs.declared.section.Section.{Section}
use Rattle.campaign_world.specs.World.{WorldState}
use Rattle.campaign_world.specs.Causes.{is_event_or_end, has_ended, takes_events}
use Rattle.campaign_world.specs.Honest.{has_raw}
use Rattle.campaign_world.specs.Report.{numbered_lines}
use Rattle.campaign_world.proofs.Zips.{numbered_found}
use Rattle.campaign_laws.proofs.HonestLines.{Stands}
use Rattle.pair_run.specs.Counting.{IsAlike}
use Rattle.pair_run.specs.Targets.{Target, At, target_of}
use Rattle.pair_run.specs.Pair.{PairState, first_pair, side, other}
use Rattle.pair_run.specs.PairCauses.{pair_cause_of, target_cause, target_in}
use Rattle.pair_run.specs.PairMaking.{said_to, after_target}
use Rattle.pair_run.specs.PairReport.{pair_name}
use Rattle.pair_run.specs.PairScript.{after_pair_line, pair_line_result, read_pair_line, read_pair_lines, pair_has_ended, pair_end, campaigns_of}
use Rattle.pair_run.specs.PairLines.{image_of}
use Rattle.isolation_laws.specs.Isolation.{DifferInCounters}
use Rattle.isolation_laws.specs.AtMoments.{names_it, names_one_of, is_event_of, IsAtMoment, StandsFor, AreMoments, at_text, with_moments, AreBothTold, IsOneBeside, OthersEventsAreMoments, ScriptsAreIsolated}
use Rattle.isolation_laws.proofs.Rested.{Rested}
use Rattle.isolation_laws.proofs.Goes.{pair_read, pair_first, pair_last, Goes, AllGo, all_go}
use Rattle.pair_run.proofs.Unrefused.{Unrefused, unrefused, said_by, after_is}
use Rattle.isolation_laws.proofs.Alone.{ended_side, told_by}
use Rattle.isolation_laws.proofs.PairFields.{form_spelt}
use Rattle.isolation_laws.proofs.Whose.{IsOf, IsOfOther, of_it, of_other, same_target, timeless}
use Rattle.isolation_laws.proofs.Close.{IsNear, Passed, near_takes}
use Rattle.isolation_laws.proofs.Beside.{Beside, beside_self, each_passed, of_taken, Moment, other_taken, Clock, clock_behind, HasBegun, of_event, other_event, begun_behind, plan_over, both_take, common_too, now_common, no_cause}
use Rattle.campaign_world.proofs.Sections.{by_section, never}

-- ---- a line of this campaign, or of both

record TakesLine (x : Campaign) (p q : PairState) (line other_line : List ℕ) : Type 0 where
  fine : pair_cause_of q other_line ≡ None
  beside : Beside x (after_pair_line p line) (after_pair_line q other_line)

few_too : (p q : WorldState) → Passed p q → nat_le max_lines p.lines ≡ false → nat_le max_lines q.lines ≡ false
few_too p q passed few = ap (λ (n : ℕ). nat_le max_lines n) passed.lines ∙ few

target_too : (p q : PairState) (pair_form : PairForm) → q.owners ≡ p.owners → is_event_or_end pair_form.form ≡ true
    → target_in q pair_form ≡ target_in p pair_form
unfolding target_of
target_too p q pair_form owners event =
    rw owners (same_target p.owners (length q.a.devices) (length q.b.devices) (length p.a.devices) (length p.b.devices) pair_form.campaign pair_form.form event)

its_own : (x : Campaign) (p : PairState) (pair_form : PairForm) → is_event_or_end pair_form.form ≡ true
    → names_it (other x) pair_form.campaign || names_one_of (other x) p.owners pair_form.form ≡ false → IsOf x (target_in p pair_form)
unfolding target_of
its_own x p pair_form event is =
    of_it x p.owners (length p.a.devices) (length p.b.devices) pair_form.campaign pair_form.form event is

the_others : (x : Campaign) (p : PairState) (line : List ℕ) (pair_form : PairForm) → pair_form_of line ≡ Some pair_form → is_event_or_end pair_form.form ≡ true
    → names_it (other x) pair_form.campaign || names_one_of (other x) p.owners pair_form.form ≡ true → IsOfOther x (target_in p pair_form)
unfolding target_of
the_others x p line pair_form spells event is =
    of_other x p.owners (length p.a.devices) (length p.b.devices) pair_form.campaign pair_form.form event (form_spelt line pair_form spells).1 is

both_behind_lines : (x : Campaign) (p q : PairState) (line other_line : List ℕ) (f g : PairForm) → pair_form_of line ≡ Some f → pair_form_of other_line ≡ Some g
    → Beside x (after_target p (target_in p f)) (after_target q (target_in q g)) → Beside x (after_pair_line p line) (after_pair_line q other_line)
both_behind_lines x p q line other_line f g spells reads b =
    subst (λ (r : PairState). Beside x r (after_pair_line q other_line)) (sym (after_is p line f spells))
    (subst (λ (r : PairState). Beside x (after_target p (target_in p f)) r) (sym (after_is q other_line g reads)) b)

own_line : (x : Campaign) (p q : PairState) (line : List ℕ) (s : Unrefused p line) → Beside x p q → is_event_or_end s.pair_form.form ≡ true
    → names_it (other x) s.pair_form.campaign || names_one_of (other x) p.owners s.pair_form.form ≡ false → TakesLine x p q line line
own_line x p q line s b event is =
    let a = each_passed x campaign.A p q b in
    let c = each_passed x campaign.B p q b in
    let take = both_take p s.pair_form s.common event in
    let both = of_taken x p q (target_in p s.pair_form) b (its_own x p s.pair_form event is) s.target in
    let same = target_too p q s.pair_form b.owners event in
    record {
      fine = no_cause q line s.pair_form (few_too p.a q.a a (s.few campaign.A)) (few_too p.b q.b c (s.few campaign.B)) s.short s.spells
          (common_too p q s.pair_form event s.common (near_takes p.a.section q.a.section a.place take.0) (near_takes p.b.section q.b.section c.place take.1) b.owners)
          (subst (λ (t : Target). target_cause q t ≡ None) (sym same) both.fine);
      beside = both_behind_lines x p q line line s.pair_form s.pair_form s.spells s.spells
          (subst (λ (t : Target). Beside x (after_target p (target_in p s.pair_form)) (after_target q t)) (sym same) both.beside);
    }

-- ---- an event of the other

target_now : (q : PairState) (now : ℕ) → target_in q (record { campaign = None; form = form.At now }) ≡ At now
unfolding target_of
target_now q now = refl

short_line : (line : List ℕ) → length line ≤ max_line → nat_lt max_line (length line) ≡ false
short_line line short = grind (arith, nat_tests)

others_line : (x : Campaign) (image : List ℕ) (index : ℕ) (p q : PairState) (line other_line : List ℕ) (s : Unrefused p line) → Beside x p q → Clock p
    → Stands image index (side p x) → Rested index (side p x) → has_raw index (Ok (said_to x p (target_in p s.pair_form))) ≡ false
    → is_event_or_end s.pair_form.form ≡ true
    → names_it (other x) s.pair_form.campaign || names_one_of (other x) p.owners s.pair_form.form ≡ true
    → IsAtMoment p other_line → TakesLine x p q line other_line
others_line x image index p q line other_line s b clock stands rested honest event is moment =
    let a = each_passed x campaign.A p q b in
    let c = each_passed x campaign.B p q b in
    let take = both_take p s.pair_form s.common event in
    let now : ℕ = p.a.time in
    let at : Moment p now = record { a_takes = take.0; b_takes = take.1; a_time = refl; b_time = clock.same; low = clock.low } in
    let both = other_taken x image index now p q (target_in p s.pair_form) b (the_others x p line s.pair_form s.spells event is) at stands rested s.fine honest in
    let same = target_now q now in
    record {
      fine = no_cause q other_line (record { campaign = None; form = form.At now }) (few_too p.a q.a a (s.few campaign.A)) (few_too p.b q.b c (s.few campaign.B))
          (short_line other_line moment.short) moment.reads
          (now_common q now (near_takes p.a.section q.a.section a.place take.0) (near_takes p.b.section q.b.section c.place take.1) clock.low)
          (subst (λ (t : Target). target_cause q t ≡ None) (sym same) both.fine);
      beside = both_behind_lines x p q line other_line s.pair_form (record { campaign = None; form = form.At now }) s.spells moment.reads
          (subst (λ (t : Target). Beside x (after_target p (target_in p s.pair_form)) (after_target q t)) (sym same) both.beside);
    }

-- ---- any line

-- before the first event both are the same
abbrev SoFar : (x : Campaign) (p q : PairState) → Type 0
SoFar x p q = (q ≡ p) ⊎ (HasBegun p × Beside x p q)

so_beside : (x : Campaign) (p q : PairState) → SoFar x p q → Beside x p q
so_beside x p q (inl same) = subst (λ (r : PairState). Beside x p r) (sym same) (beside_self x p)
so_beside x p q (inr far) = far.1

record Next (x : Campaign) (p q : PairState) (line other_line : List ℕ) : Type 0 where
  fine : pair_cause_of q other_line ≡ None
  so_far : SoFar x (after_pair_line p line) (after_pair_line q other_line)

-- a line of the plan
plan_line : (x : Campaign) (p q : PairState) (line : List ℕ) (s : Unrefused p line) → pair_cause_of p line ≡ None → SoFar x p q
    → is_event_or_end s.pair_form.form ≡ false → Next x p q line line
plan_line x p q line s none (inl same) plan = record {
  fine = ap (λ (r : PairState). pair_cause_of r line) same ∙ none;
  so_far = inl (ap (λ (r : PairState). after_pair_line r line) same);
}
plan_line x p q line s none (inr far) plan = absurd (plan_over p s.pair_form far.0 s.common plan)

begun_line : (p : PairState) (line : List ℕ) (s : Unrefused p line) → HasBegun (after_target p (target_in p s.pair_form)) → HasBegun (after_pair_line p line)
begun_line p line s begun = subst HasBegun (sym (after_is p line s.pair_form s.spells)) begun

said_honest : (x : Campaign) (image : List ℕ) (index : ℕ) (p : PairState) (line : List ℕ) (s : Unrefused p line) → Goes x image index p line
    → has_raw index (Ok (said_to x p (target_in p s.pair_form))) ≡ false
said_honest x image index p line s g =
    ap (has_raw index) (sym (said_by x p line s.pair_form s.spells) ∙ g.taken.says) ∙ g.honest

by_kind : (x : Campaign) (image : List ℕ) (index : ℕ) (p q : PairState) (line other_line : List ℕ) (s : Unrefused p line) (event its : Bool)
    → pair_cause_of p line ≡ None → Goes x image index p line → Clock p → SoFar x p q
    → is_event_or_end s.pair_form.form ≡ event
    → names_it (other x) s.pair_form.campaign || names_one_of (other x) p.owners s.pair_form.form ≡ its
    → StandsFor (event && its) p line other_line → Next x p q line other_line
by_kind x image index p q line other_line s false its none g clock far event is stands =
    subst (λ (l : List ℕ). Next x p q line l) (sym stands) (plan_line x p q line s none far event)
by_kind x image index p q line other_line s true false none g clock far event is stands =
    let goes = own_line x p q line s (so_beside x p q far) event is in
    let begun = begun_line p line s (begun_behind p (target_in p s.pair_form) (of_event x (target_in p s.pair_form) (its_own x p s.pair_form event is)) s.target) in
    subst (λ (l : List ℕ). Next x p q line l) (sym stands) (record { fine = goes.fine; so_far = inr (begun, goes.beside) })
by_kind x image index p q line other_line s true true none g clock far event is stands =
    let goes = others_line x image index p q line other_line s (so_beside x p q far) clock g.stands g.rested (said_honest x image index p line s g) event is stands in
    let begun = begun_line p line s (begun_behind p (target_in p s.pair_form) (other_event x (target_in p s.pair_form) (the_others x p line s.pair_form s.spells event is)) s.target) in
    record { fine = goes.fine; so_far = inr (begun, goes.beside) }

next_line : (x : Campaign) (image : List ℕ) (index : ℕ) (p q : PairState) (line other_line : List ℕ) → pair_cause_of p line ≡ None
    → Goes x image index p line → Clock p → SoFar x p q → StandsFor (is_event_of (other x) p.owners (pair_form_of line)) p line other_line
    → Next x p q line other_line
next_line x image index p q line other_line none g clock far stands =
    let s = unrefused p line none in
    by_kind x image index p q line other_line s (is_event_or_end s.pair_form.form)
    (names_it (other x) s.pair_form.campaign || names_one_of (other x) p.owners s.pair_form.form) none g clock far refl refl
    (subst (λ (f : Option PairForm). StandsFor (is_event_of (other x) p.owners f) p line other_line) s.spells stands)

clock_line : (p : PairState) (line : List ℕ) → pair_cause_of p line ≡ None → Clock p → Clock (after_pair_line p line)
unfolding target_of
clock_line p line none clock =
    let s = unrefused p line none in
    subst Clock (sym (after_is p line s.pair_form s.spells))
    (clock_behind p (target_in p s.pair_form)
    (timeless p.owners (length p.a.devices) (length p.b.devices) s.pair_form.campaign s.pair_form.form (form_spelt line s.pair_form s.spells).1) s.fine clock)

-- ---- all lines

read_on : (q : PairState) (line : List ℕ) (lines : List (List ℕ)) → pair_cause_of q line ≡ None
    → read_pair_lines (Ok q) (line ∷ lines) ≡ read_pair_lines (Ok (after_pair_line q line)) lines
unfolding read_pair_lines read_pair_line
read_on q line lines none = ap (λ (c : Option LineWhy). read_pair_lines (pair_line_result q line c) lines) none

read_none : (q : PairState) → read_pair_lines (Ok q) [] ≡ Ok q
unfolding read_pair_lines
read_none q = refl

record Ends (x : Campaign) (p q : PairState) (others : List (List ℕ)) : Type 0 where
  last : PairState
  is : read_pair_lines (Ok q) others ≡ Ok last
  beside : Beside x p last

all_lines : (x : Campaign) (image : List ℕ) (index : ℕ) (lines others : List (List ℕ)) (p q last : PairState) → AllGo x image index p lines
    → read_pair_lines (Ok p) lines ≡ Ok last → Clock p → SoFar x p q → AreMoments (other x) p lines others → Ends x last q others
all_lines x image index [] [] p q last k is clock far all = record {
  last = q;
  is = read_none q;
  beside = subst (λ (r : PairState). Beside x r q) (pair_last p last is) (so_beside x p q far);
}
all_lines x image index [] (l ∷ others) p q last k is clock far all = absurd all
all_lines x image index (line ∷ lines) [] p q last k is clock far all = absurd all
all_lines x image index (line ∷ lines) (l ∷ others) p q last k is clock far all =
    let first = pair_first p last line lines is in
    let next = next_line x image index p q line l first.0 k.0 clock far all.0 in
    let more = all_lines x image index lines others (after_pair_line p line) (after_pair_line q l) last k.1 first.1
    (clock_line p line first.0 clock) next.so_far all.1 in
    record { last = more.last; is = read_on q l others next.fine ∙ more.is; beside = more.beside }

-- ---- to its end

near_ended : (here there : Section) → IsNear here there → has_ended here ≡ true → there ≡ here
near_ended here there (inl same) is = same
near_ended here there (inr both) is =
    by_section (λ (x : Section). takes_events x ≡ true → has_ended x ≡ true → there ≡ x) never never never never never (λ takes. never) (λ takes. never)
    never here both.0 is

ended_too : (x z : Campaign) (p q : PairState) → Beside x p q → pair_has_ended p ≡ true → has_ended (side q z).section ≡ true
ended_too x z p q b is =
    let ends = ended_side z p is in
    ap has_ended (near_ended (side p z).section (side q z).section (each_passed x z p q b).place ends) ∙ ends

both_ended : (q : PairState) → has_ended q.a.section ≡ true → has_ended q.b.section ≡ true → pair_end (Ok q) ≡ Ok q
both_ended q a b = rw (a, b) refl

whole : (image_a image_b : List ℕ) (others : List (List ℕ)) (q : PairState) → read_pair_lines (Ok (first_pair image_a image_b)) others ≡ Ok q
    → has_ended q.a.section ≡ true → has_ended q.b.section ≡ true → campaigns_of image_a image_b others ≡ Ok q
unfolding campaigns_of
whole image_a image_b others q is a b = ap pair_end is ∙ both_ended q a b

differ : (x : Campaign) (p q : PairState) → Beside x p q → pair_has_ended p ≡ true → DifferInCounters (side p x) (side q x)
differ x p q b is = record {
  rest = b.own.rest ∙ ap (λ (s : Section). record (side p x) { devices = (side q x).devices; section = s })
      (near_ended (side p x).section (side q x).section b.own.place (ended_side x p is));
  devices = b.own.devices;
}

-- ---- what the report says

both_told : (x : Campaign) (p q : PairState) (id number : ℕ) (stage : Stage) (d one : DeviceState) → (side q x).server ≡ (side p x).server → IsAlike d one
    → numbered (side p x).devices number ≡ Some d → numbered (side q x).devices number ≡ Some one → ledger (side p x).server number ≡ Some stage
    → AreBothTold x p q id number stage d one
both_told x p q id number stage d one server alike there found stage_is = record {
  told = told_by (side p x) number (pair_name id x) stage d one alike stage_is there;
  told_beside = ap (λ (s : ServerState). numbered_lines (pair_name id x) number s (side q x).devices) server ∙ rw (stage_is, found) refl;
}

each_beside : (x : Campaign) (p q : PairState) → (side q x).server ≡ (side p x).server → AllZip IsAlike (side p x).devices (side q x).devices
    → (number : ℕ) (d : DeviceState) → numbered (side p x).devices number ≡ Some d → (one : DeviceState) × IsOneBeside x p q number d one
each_beside x p q server zip number d there =
    let found = numbered_found IsAlike (side p x).devices (side q x).devices number d zip there in (
      found.0,
      record {
        there = found.1;
        alike = found.2;
        told = λ id stage stage_is. both_told x p q id number stage d found.0 server found.2 there found.1 stage_is;
      },
    )

pub moments : OthersEventsAreMoments
moments x image_a image_b lines others pair script all =
    let read = pair_read image_a image_b lines pair script.accepted in
    let first : PairState = first_pair image_a image_b in
    let clock : Clock first = record { same = refl; low = omega arith } in
    let ends = all_lines x (image_of x image_a image_b) (side pair x).server.plan.index lines others first first pair
    (all_go x image_a image_b lines pair script.bytes_a script.bytes_b script.accepted) read.0 clock (inl refl) all in
    let b = ends.beside in (
      ends.last,
      record {
        accepted = whole image_a image_b others ends.last ends.is (ended_too x campaign.A pair ends.last b read.1) (ended_too x campaign.B pair ends.last b read.1);
        owners = b.owners;
        differ = differ x pair ends.last b read.1;
        each = each_beside x pair ends.last (ap (λ (w : WorldState). w.server) b.own.rest) b.own.devices;
      },
    )

-- ---- a plain line for each moment

at_words : (rest : List ℕ) → words_of (codes "at " ++ rest) ≡ codes "at" ∷ words_of rest
unfolding words_of
at_words rest = refl

at_spelt : (line rest : List ℕ) (n : ℕ) → words_of line ≡ codes "at" ∷ rest ∷ [] → decimal_of rest ≡ Some n
    → pair_form_of line ≡ Some (record { campaign = None; form = form.At n })
unfolding pair_form_of word
at_spelt line rest n words is = rw (words, is) refl

at_moment : (p : PairState) → Clock p → IsAtMoment p (at_text p.a.time)
at_moment p clock =
    let now : ℕ = p.a.time in
    let wide : now < 2 ^ 64 = omega (arith, clock.low) in
    let few = length-decimal-le 13 now (omega arith) (omega (arith, clock.low)) wide in
    let read = decimal_is_read now wide in
    record {
      short = omega (arith, few);
      reads = at_spelt (at_text now) (decimal now) now
          (at_words (decimal now) ∙ ap (λ (ws : List (List ℕ)). codes "at" ∷ ws) (last_word (decimal now) now read)) read;
    }

stands_by : (is_its : Bool) (p : PairState) (line : List ℕ) → Clock p → StandsFor is_its p line (cond is_its (at_text p.a.time) line)
stands_by true p line clock = at_moment p clock
stands_by false p line clock = refl

written : (y : Campaign) (lines : List (List ℕ)) (p last : PairState) → read_pair_lines (Ok p) lines ≡ Ok last → Clock p
    → AreMoments y p lines (with_moments y p lines)
written y [] p last is clock = tt
written y (line ∷ lines) p last is clock =
    let first = pair_first p last line lines is in (
      stands_by (is_event_of y p.owners (pair_form_of line)) p line clock,
      written y lines (after_pair_line p line) last first.1 (clock_line p line first.0 clock),
    )

pub scripts : ScriptsAreIsolated
scripts x image_a image_b lines pair script =
    moments x image_a image_b lines (with_moments (other x) (first_pair image_a image_b) lines) pair script
    (written (other x) lines (first_pair image_a image_b) pair (pair_read image_a image_b lines pair script.accepted).0
    (record { same = refl; low = omega arith }))
