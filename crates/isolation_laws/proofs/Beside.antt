-- Two pairs: one campaign is the same except for its devices' counters, and the other's events are moments in the second.
use Rattle.std.proofs.Common.{◌≡◌, ◌⊎◌, inl, inr, ℕ, ◌+◌, ◌≤◌, Bool, true, false, cond, ◌&&◌, nat_le, nat_lt, List, [], ◌∷◌, ◌++◌, length, Option, Some, None, Ok, refl, sym, ap, ◌∙◌, subst, true≢false}
use Rattle.std.specs.List.{AllZip}
use Rattle.std.proofs.lemmas.Bool.{le-leb, and_parts}
use Rattle.wire_base.specs.Numbered.{numbered}
use Rattle.device_core.specs.Device.{DeviceState}
use Rattle.script_lines.specs.declared.forms.Campaign.{Campaign}
use Rattle.script_lines.specs.declared.forms.Campaign.TheVariants as campaign
use Rattle.script_lines.specs.declared.forms.Form.{Form}
use Rattle.script_lines.specs.declared.forms.Form.TheVariants as form
use Rattle.script_lines.specs.declared.forms.PairForm.{PairForm}
use Rattle.script_lines.specs.PairForms.{pair_form_of}
use Rattle.script_lines.specs.Limits.{max_lines, max_line, max_time}
use Rattle.script_lines.specs.Ranges.{in_range}
use Rattle.report_lines.specs.declared.faults.LineWhy.{LineWhy}
use Rattle.report_lines.specs.declared.faults.LineWhy.TheVariants as why
use Rattle.campaign_server.specs.Plan.{Plan}
use Rattle.campaign_world.specs.declared.numbered.SentPayload.{SentPayload}
use Rattle.campaign_world.specs.declared.section.Section.{Section}
use Rattle.campaign_world.specs.World.{WorldState}
use Rattle.campaign_world.specs.Said.{Said, Own, Elsewhere, Reached}
use Rattle.campaign_world.specs.Causes.{is_event_or_end, is_in_order, takes_events, has_begun, is_device, names_device, fits_flash, form_cause, said_cause}
use Rattle.campaign_world.specs.Making.{after_form, after_said}
use Rattle.campaign_world.specs.Script.{after_line}
use Rattle.campaign_world.specs.Honest.{has_raw}
use Rattle.campaign_world.proofs.FormCauses.{time_within}
use Rattle.campaign_laws.proofs.HeadlineForms.{passes}
use Rattle.campaign_laws.proofs.HonestLines.{Stands}
use Rattle.campaign_laws.proofs.Independence.{said_told}
use Rattle.campaign_laws.specs.Independence.{time_after}
use Rattle.pair_run.specs.Counting.{IsAlike}
use Rattle.pair_run.specs.Sides.{is_quiet}
use Rattle.pair_run.specs.declared.owners.Owner.{Owner}
use Rattle.pair_run.specs.declared.targets.Way.{Way}
use Rattle.pair_run.specs.Targets.{Target, Header, At, End, One, Across, Nobody}
use Rattle.pair_run.specs.Pair.{PairState, side, other}
use Rattle.pair_run.specs.PairCauses.{pair_cause_of, common_cause, both_cause, crossing_cause, may_cross, target_cause, target_in, first_of, pair_may_come, plan_may_come, is_planned, is_unplanned, is_next, is_apart}
use Rattle.pair_run.specs.PairMaking.{said_to, reached_by, joined, newcomers, after_target}
use Rattle.pair_run.proofs.Accepts.{neither, cut_cause, sent_there}
use Rattle.isolation_laws.proofs.Rested.{Rested}
use Rattle.pair_run.proofs.Unrefused.{side_after}
use Rattle.isolation_laws.proofs.Whose.{IsOf, IsOfOther, IsLone, IsTimeless}
use Rattle.isolation_laws.proofs.Close.{Close, Passed, IsCalm, near_takes, close_form, close_more, close_fine, close_reached, now_fine, close_now, close_passed, quiet_fine, passed_quiet, passed_more, passed_calm, event_begins}
use Rattle.campaign_world.proofs.Sections.{by_section, never}

pub record Beside (x : Campaign) (p q : PairState) : Type 0 where
  pub own : Close (side p x) (side q x)
  pub its : Passed (side p (other x)) (side q (other x))
  pub owners : q.owners ≡ p.owners

all_same : (ds : List DeviceState) → AllZip IsAlike ds ds
all_same [] = tt
all_same (d ∷ ds) = (refl, all_same ds)

pub beside_self : (x : Campaign) (p : PairState) → Beside x p p
beside_self x p = record {
  own = record { devices = all_same (side p x).devices; rest = refl; place = inl refl };
  its = record { time = refl; lines = refl; place = inl refl };
  owners = refl;
}

-- of both campaigns
pub each_passed : (x z : Campaign) (p q : PairState) → Beside x p q → Passed (side p z) (side q z)
each_passed campaign.A campaign.A p q b = close_passed p.a q.a b.own
each_passed campaign.A campaign.B p q b = b.its
each_passed campaign.B campaign.A p q b = b.its
each_passed campaign.B campaign.B p q b = close_passed p.b q.b b.own

both_behind : (x : Campaign) (p q : PairState) (t u : Target)
    → Close (after_line (side p x) (Ok (said_to x p t))) (after_line (side q x) (Ok (said_to x q u)))
    → Passed (after_line (side p (other x)) (Ok (said_to (other x) p t))) (after_line (side q (other x)) (Ok (said_to (other x) q u)))
    → q.owners ++ newcomers u ≡ p.owners ++ newcomers t → Beside x (after_target p t) (after_target q u)
unfolding after_target
both_behind campaign.A p q t u own its owners = record { own = own; its = its; owners = owners }
both_behind campaign.B p q t u own its owners = record { own = own; its = its; owners = owners }

-- ---- a line of this campaign, or of both

first_none : (one two : Option LineWhy) → one ≡ None → two ≡ None → first_of one two ≡ None
first_none one two a b = rw (a, b) refl

both_fine : (x : Campaign) (p q : PairState) (f : Form) → is_quiet f ≡ true → is_event_or_end f ≡ true → Beside x p q → both_cause p f ≡ None
    → both_cause q f ≡ None
both_fine x p q f quiet event b none =
    let parts = neither (form_cause p.a f) (form_cause p.b f) none in
    first_none (form_cause q.a f) (form_cause q.b f)
    (quiet_fine p.a q.a f quiet event (each_passed x campaign.A p q b) parts.0)
    (quiet_fine p.b q.b f quiet event (each_passed x campaign.B p q b) parts.1)

own_behind : (w v : WorldState) (f : Form) → Close w v → Close (after_line w (Ok (Own f))) (after_line v (Ok (Own f)))
own_behind w v f close = close_more (after_form w f) (after_form v f) (close_form w v f close)

quiet_behind : (w v : WorldState) (f : Form) → is_quiet f ≡ true → is_event_or_end f ≡ true → Passed w v
    → Passed (after_line w (Ok (Own f))) (after_line v (Ok (Own f)))
quiet_behind w v f quiet event passed = passed_more (after_form w f) (after_form v f) (passed_quiet w v f quiet event passed)

pub record TakesToo (x : Campaign) (p q : PairState) (t u : Target) : Type 0 where
  pub fine : target_cause q u ≡ None
  pub beside : Beside x (after_target p t) (after_target q u)

same_newcomers : (p q : PairState) (t : Target) → q.owners ≡ p.owners → q.owners ++ newcomers t ≡ p.owners ++ newcomers t
same_newcomers p q t same = ap (λ (os : List Owner). os ++ newcomers t) same

pub of_taken : (x : Campaign) (p q : PairState) (t : Target) → Beside x p q → IsOf x t → target_cause p t ≡ None → TakesToo x p q t t
of_taken x p q Header b is none = absurd is
of_taken x p q (At time) b is none = record {
  fine = both_fine x p q (form.At time) refl refl b none;
  beside = both_behind x p q (At time) (At time) (own_behind (side p x) (side q x) (form.At time) b.own)
      (quiet_behind (side p (other x)) (side q (other x)) (form.At time) refl refl b.its) (same_newcomers p q (At time) b.owners);
}
of_taken x p q End b is none = record {
  fine = both_fine x p q form.End refl refl b none;
  beside = both_behind x p q End End (own_behind (side p x) (side q x) form.End b.own)
      (quiet_behind (side p (other x)) (side q (other x)) form.End refl refl b.its) (same_newcomers p q End b.owners);
}
of_taken campaign.A p q (One campaign.A f) b is none = record {
  fine = close_fine p.a q.a f b.own is.1 none;
  beside = both_behind campaign.A p q (One campaign.A f) (One campaign.A f) (own_behind p.a q.a f b.own) (passed_more p.b q.b b.its)
      (same_newcomers p q (One campaign.A f) b.owners);
}
of_taken campaign.B p q (One campaign.B f) b is none = record {
  fine = close_fine p.b q.b f b.own is.1 none;
  beside = both_behind campaign.B p q (One campaign.B f) (One campaign.B f) (own_behind p.b q.b f b.own) (passed_more p.a q.a b.its)
      (same_newcomers p q (One campaign.B f) b.owners);
}
of_taken campaign.A p q (One campaign.B f) b is none = let no : campaign.B ≡ campaign.A = is.0 in absurd cc
of_taken campaign.B p q (One campaign.A f) b is none = let no : campaign.A ≡ campaign.B = is.0 in absurd cc
of_taken x p q (Across y by number device word) b is none = absurd is
of_taken x p q Nobody b is none = absurd cc

-- ---- an event of the other

abbrev IsPassing : Said → Type 0
IsPassing (Own f) = ⊥
IsPassing said = Unit {0}

reached_passing : (device word : ℕ) (o : Option SentPayload) → IsPassing (reached_by device word o)
reached_passing device word None = tt
reached_passing device word (Some sent) = tt

reached_calm : (device word : ℕ) (o : Option SentPayload) → IsCalm (reached_by device word o)
reached_calm device word None = tt
reached_calm device word (Some sent) = tt

passing : (x : Campaign) (p : PairState) (t : Target) → IsOfOther x t → IsPassing (said_to x p t)
passing x p Header is = absurd is
passing x p (At time) is = absurd is
passing x p End is = absurd is
passing campaign.A p (One campaign.B f) is = tt
passing campaign.B p (One campaign.A f) is = tt
passing campaign.A p (One campaign.A f) is = let no : campaign.A ≡ campaign.B = is.0 in absurd cc
passing campaign.B p (One campaign.B f) is = let no : campaign.B ≡ campaign.A = is.0 in absurd cc
passing campaign.A p (Across campaign.A by number device word) is = tt
passing campaign.A p (Across campaign.B by number device word) is = reached_passing device word (numbered p.b.sent number)
passing campaign.B p (Across campaign.A by number device word) is = reached_passing device word (numbered p.a.sent number)
passing campaign.B p (Across campaign.B by number device word) is = tt
passing x p Nobody is = tt

calm : (x : Campaign) (p : PairState) (t : Target) → IsOfOther x t → IsCalm (said_to (other x) p t)
calm x p Header is = absurd is
calm x p (At time) is = absurd is
calm x p End is = absurd is
calm campaign.A p (One campaign.B f) is = is.1
calm campaign.B p (One campaign.A f) is = is.1
calm campaign.A p (One campaign.A f) is = let no : campaign.A ≡ campaign.B = is.0 in absurd cc
calm campaign.B p (One campaign.B f) is = let no : campaign.B ≡ campaign.A = is.0 in absurd cc
calm campaign.A p (Across campaign.A by number device word) is = reached_calm device word (numbered p.a.sent number)
calm campaign.A p (Across campaign.B by number device word) is = tt
calm campaign.B p (Across campaign.A by number device word) is = tt
calm campaign.B p (Across campaign.B by number device word) is = reached_calm device word (numbered p.b.sent number)
calm x p Nobody is = tt

lone_joined : (y : Campaign) (f : Form) → IsLone f → joined y f ≡ []
lone_joined y (form.Device dev) lone = absurd (true≢false (sym lone.0))
lone_joined y f lone = refl

none_join : (x : Campaign) (t : Target) → IsOfOther x t → newcomers t ≡ []
none_join x Header is = refl
none_join x (At time) is = refl
none_join x End is = refl
none_join x (One y f) is = lone_joined y f is.1
none_join x (Across y by number device word) is = refl
none_join x Nobody is = refl

passing_behind : (image : List ℕ) (index : ℕ) (w v : WorldState) (said : Said) (now : ℕ) → IsPassing said → Stands image index w → Rested index w
    → said_cause w said ≡ None → has_raw index (Ok said) ≡ false → takes_events w.section ≡ true → w.time ≡ now → Close w v
    → Close (after_line w (Ok said)) (after_line v (Ok (Own (form.At now))))
passing_behind image index w v (Own f) now pass stands rested fine honest takes is close = absurd pass
passing_behind image index w v Elsewhere now pass stands rested fine honest takes is close =
    close_more w (after_form v (form.At now)) (close_now w v now is takes close)
passing_behind image index w v (Reached n word down) now pass stands rested fine honest takes is close =
    let told = said_told 0 None [] w (Reached n word down) fine in
    close_more (after_said w (Reached n word down)) (after_form v (form.At now))
    (close_now (after_said w (Reached n word down)) v now (told.time ∙ is) refl
    (close_reached image index w v n word down stands rested fine honest takes close))

-- what is there so far
pub record Moment (p : PairState) (now : ℕ) : Type 0 where
  pub a_takes : takes_events p.a.section ≡ true
  pub b_takes : takes_events p.b.section ≡ true
  pub a_time : p.a.time ≡ now
  pub b_time : p.b.time ≡ now
  pub low : now ≤ max_time

side_takes : (z : Campaign) (p : PairState) (now : ℕ) → Moment p now → takes_events (side p z).section ≡ true
side_takes campaign.A p now m = m.a_takes
side_takes campaign.B p now m = m.b_takes

side_time : (z : Campaign) (p : PairState) (now : ℕ) → Moment p now → (side p z).time ≡ now
side_time campaign.A p now m = m.a_time
side_time campaign.B p now m = m.b_time

one_now : (w v : WorldState) (now : ℕ) → takes_events w.section ≡ true → w.time ≡ now → now ≤ max_time → Passed w v → form_cause v (form.At now) ≡ None
one_now w v now takes is low passed =
    now_fine v now (passed.time ∙ is) low (near_takes w.section v.section passed.place takes)

both_now : (x : Campaign) (p q : PairState) (now : ℕ) → Beside x p q → Moment p now → both_cause q (form.At now) ≡ None
both_now x p q now b m =
    first_none (form_cause q.a (form.At now)) (form_cause q.b (form.At now))
    (one_now p.a q.a now m.a_takes m.a_time m.low (each_passed x campaign.A p q b))
    (one_now p.b q.b now m.b_takes m.b_time m.low (each_passed x campaign.B p q b))

pub other_taken : (x : Campaign) (image : List ℕ) (index now : ℕ) (p q : PairState) (t : Target) → Beside x p q → IsOfOther x t → Moment p now
    → Stands image index (side p x) → Rested index (side p x) → ((z : Campaign) → said_cause (side p z) (said_to z p t) ≡ None)
    → has_raw index (Ok (said_to x p t)) ≡ false → TakesToo x p q t (At now)
other_taken x image index now p q t b is m stands rested fine honest = record {
  fine = both_now x p q now b m;
  beside = both_behind x p q t (At now)
      (passing_behind image index (side p x) (side q x) (said_to x p t) now (passing x p t is) stands rested (fine x) honest
      (side_takes x p now m) (side_time x p now m) b.own)
      (passed_more (after_said (side p (other x)) (said_to (other x) p t)) (after_form (side q (other x)) (form.At now))
      (passed_calm (side p (other x)) (side q (other x)) (said_to (other x) p t) now (calm x p t is) (fine (other x))
      (side_takes (other x) p now m) (side_time (other x) p now m) b.its))
      (ap (λ (os : List Owner). os ++ []) b.owners ∙ ap (λ (os : List Owner). p.owners ++ os) (sym (none_join x t is)));
}

-- ---- the time of both

pub record Clock (p : PairState) : Type 0 where
  pub same : p.b.time ≡ p.a.time
  pub low : p.a.time ≤ max_time

loud_time : (now : ℕ) (f : Form) → is_quiet f ≡ false → time_after now (Ok (Own f)) ≡ now
loud_time now (form.At time) loud = absurd (true≢false loud)
loud_time now f loud = refl

reached_time : (now device word : ℕ) (o : Option SentPayload) → time_after now (Ok (reached_by device word o)) ≡ now
reached_time now device word None = refl
reached_time now device word (Some sent) = refl

both_time : (now : ℕ) (p : PairState) (t : Target) → IsTimeless t
    → time_after now (Ok (said_to campaign.B p t)) ≡ time_after now (Ok (said_to campaign.A p t))
both_time now p Header is = refl
both_time now p (At time) is = refl
both_time now p End is = refl
both_time now p (One campaign.A f) is = sym (loud_time now f is)
both_time now p (One campaign.B f) is = loud_time now f is
both_time now p (Across campaign.A by number device word) is = reached_time now device word (numbered p.a.sent number)
both_time now p (Across campaign.B by number device word) is = sym (reached_time now device word (numbered p.b.sent number))
both_time now p Nobody is = refl

time_fits : (w : WorldState) (said : Said) → said_cause w said ≡ None → w.time ≤ max_time → time_after w.time (Ok said) ≤ max_time
time_fits w (Own (form.At time)) fine low =
    time_within (form.At time) time (and_parts (in_range (form.At time)) true (passes w (form.At time) fine).ranged).0 refl
time_fits w said fine low = low

pub clock_behind : (p : PairState) (t : Target) → IsTimeless t → ((z : Campaign) → said_cause (side p z) (said_to z p t) ≡ None) → Clock p
    → Clock (after_target p t)
clock_behind p t is fine clock =
    let a = ap (λ (w : WorldState). w.time) (side_after campaign.A p t) ∙ (said_told 0 None [] p.a (said_to campaign.A p t) (fine campaign.A)).time in
    let b = ap (λ (w : WorldState). w.time) (side_after campaign.B p t) ∙ (said_told 0 None [] p.b (said_to campaign.B p t) (fine campaign.B)).time in
    record {
      same = b ∙ ap (λ (n : ℕ). time_after n (Ok (said_to campaign.B p t))) clock.same ∙ both_time p.a.time p t is ∙ sym a;
      low = subst (λ (n : ℕ). n ≤ max_time) (sym a) (time_fits p.a (said_to campaign.A p t) (fine campaign.A) clock.low);
    }

-- ---- after the plan

abbrev pub HasBegun : PairState → Type 0
HasBegun p = (has_begun p.a.section ≡ true) ⊎ (has_begun p.b.section ≡ true)

abbrev pub IsEvent : Target → Type 0
IsEvent Header = ⊥
IsEvent (One y f) = is_event_or_end f ≡ true
IsEvent t = Unit {0}

pub of_event : (x : Campaign) (t : Target) → IsOf x t → IsEvent t
of_event x Header is = is
of_event x (One y f) is = is.1
of_event x t is = tt

pub other_event : (x : Campaign) (t : Target) → IsOfOther x t → IsEvent t
other_event x Header is = is
other_event x (One y f) is = is.1.0
other_event x t is = tt

crossing_begins : (by : Way) (from to : WorldState) (number device word : ℕ) → crossing_cause by from to number device ≡ None
    → has_begun (after_said to (reached_by device word (numbered from.sent number))).section ≡ true
crossing_begins by from to number device word none =
    let one = cut_cause (is_device (length to.devices) device) why.Device _ none in
    let two = cut_cause (may_cross by (numbered from.sent number)) why.Unsent None one.1 in
    let there = sent_there by (numbered from.sent number) two.0 in
    rw there.1 refl

pub begun_behind : (p : PairState) (t : Target) → IsEvent t → target_cause p t ≡ None → HasBegun (after_target p t)
unfolding after_target after_form
begun_behind p Header is none = absurd is
begun_behind p (At time) is none = inl refl
begun_behind p End is none = inl refl
begun_behind p (One campaign.A f) is none = inl (event_begins p.a f is)
begun_behind p (One campaign.B f) is none = inr (event_begins p.b f is)
begun_behind p (Across campaign.A by number device word) is none = inr (crossing_begins by p.a p.b number device word none)
begun_behind p (Across campaign.B by number device word) is none = inl (crossing_begins by p.b p.a number device word none)
begun_behind p Nobody is none = absurd cc

no_more : (here : Section) (f : Form) → has_begun here ≡ true → is_event_or_end f ≡ false → is_in_order here f ≡ true → ⊥
no_more here f =
    by_section (λ (x : Section). has_begun x ≡ true → is_event_or_end f ≡ false → is_in_order x f ≡ true → ⊥) never never never never never never
    (λ begun plan may. true≢false (sym may ∙ plan)) (λ begun plan. never) here

never_unplanned : (here : Section) → has_begun here ≡ true → is_unplanned here ≡ true → ⊥
never_unplanned =
    by_section (λ (here : Section). has_begun here ≡ true → is_unplanned here ≡ true → ⊥) never never never never never never (λ begun. never) (λ begun. never)

never_planned : (here : Section) → has_begun here ≡ true → is_planned here ≡ true → ⊥
never_planned =
    by_section (λ (here : Section). has_begun here ≡ true → is_planned here ≡ true → ⊥) never never never never never never (λ begun. never) (λ begun. never)

abbrev EitherBegun : (a b : Section) → Type 0
EitherBegun a b = (has_begun a ≡ true) ⊎ (has_begun b ≡ true)

both_no_more : (a b : Section) (f : Form) → is_event_or_end f ≡ false → EitherBegun a b → is_in_order a f && is_in_order b f ≡ true → ⊥
both_no_more a b f plan (inl begun) may = no_more a f begun plan (and_parts (is_in_order a f) (is_in_order b f) may).0
both_no_more a b f plan (inr begun) may = no_more b f begun plan (and_parts (is_in_order a f) (is_in_order b f) may).1

a_no_more : (a b : Section) (f : Form) → is_event_or_end f ≡ false → EitherBegun a b → is_in_order a f && is_unplanned b ≡ true → ⊥
a_no_more a b f plan (inl begun) may = no_more a f begun plan (and_parts (is_in_order a f) (is_unplanned b) may).0
a_no_more a b f plan (inr begun) may = never_unplanned b begun (and_parts (is_in_order a f) (is_unplanned b) may).1

b_no_more : (a b : Section) (f : Form) → is_event_or_end f ≡ false → EitherBegun a b → is_in_order b f && is_planned a ≡ true → ⊥
b_no_more a b f plan (inl begun) may = never_planned a begun (and_parts (is_in_order b f) (is_planned a) may).1
b_no_more a b f plan (inr begun) may = no_more b f begun plan (and_parts (is_in_order b f) (is_planned a) may).0

no_plan_more : (a b : Section) (named : Option Campaign) (f : Form) → is_event_or_end f ≡ false → EitherBegun a b → plan_may_come a b named f ≡ true → ⊥
no_plan_more a b named (form.Device dev) plan begun may =
    both_no_more a b (form.Device dev) refl begun may
no_plan_more a b None f plan begun may = both_no_more a b f plan begun may
no_plan_more a b (Some campaign.A) f plan begun may = a_no_more a b f plan begun may
no_plan_more a b (Some campaign.B) f plan begun may = b_no_more a b f plan begun may

by_kind : (b : Bool) (events plan : Bool) → b ≡ false → cond b events plan ≡ true → plan ≡ true
by_kind true events plan is may = absurd (true≢false is)
by_kind false events plan is may = may

-- then the plan stays
pub plan_over : (p : PairState) (pair_form : PairForm) → HasBegun p → common_cause p pair_form ≡ None → is_event_or_end pair_form.form ≡ false → ⊥
unfolding common_cause
plan_over p pair_form begun none plan =
    let one = cut_cause (pair_may_come p.a.section p.b.section pair_form.campaign pair_form.form) why.Order _ none in
    no_plan_more p.a.section p.b.section pair_form.campaign pair_form.form plan begun
    (by_kind (is_event_or_end pair_form.form) _ _ plan one.0)

-- ---- what concerns both

event_next : (n : ℕ) (f : Form) → is_event_or_end f ≡ true → is_next n f ≡ true
event_next n (form.Device dev) event = absurd (true≢false (sym event))
event_next n f event = refl

event_apart : (plan : Plan) (named : Option Campaign) (f : Form) → is_event_or_end f ≡ true → is_apart plan named f ≡ true
event_apart plan (Some campaign.B) (form.Image frag_size parity index) event = absurd (true≢false (sym event))
event_apart plan (Some campaign.B) (form.Group id addr key min max) event = absurd (true≢false (sym event))
event_apart plan (Some campaign.B) f event = refl
event_apart plan (Some campaign.A) f event = refl
event_apart plan None f event = refl

event_flash : (n : ℕ) (f : Form) → is_event_or_end f ≡ true → fits_flash n f ≡ true
event_flash n (form.Device dev) event = absurd (true≢false (sym event))
event_flash n f event = refl

by_events : (b : Bool) (events plan : Bool) → b ≡ true → cond b events plan ≡ true → events ≡ true
by_events true events plan is may = may
by_events false events plan is may = absurd (true≢false (sym is))

-- where an event may come
pub both_take : (p : PairState) (pair_form : PairForm) → common_cause p pair_form ≡ None → is_event_or_end pair_form.form ≡ true
    → (takes_events p.a.section ≡ true) × (takes_events p.b.section ≡ true)
unfolding common_cause
both_take p pair_form none event =
    let one = cut_cause (pair_may_come p.a.section p.b.section pair_form.campaign pair_form.form) why.Order _ none in
    and_parts (takes_events p.a.section) (takes_events p.b.section) (by_events (is_event_or_end pair_form.form) _ _ event one.0)

events_come : (a b : Section) (named : Option Campaign) (f : Form) → is_event_or_end f ≡ true → takes_events a ≡ true → takes_events b ≡ true
    → pair_may_come a b named f ≡ true
events_come a b named f event takes_a takes_b = rw (event, takes_a, takes_b) refl

pub common_too : (p q : PairState) (pair_form : PairForm) → is_event_or_end pair_form.form ≡ true → common_cause p pair_form ≡ None
    → takes_events q.a.section ≡ true → takes_events q.b.section ≡ true → q.owners ≡ p.owners → common_cause q pair_form ≡ None
unfolding common_cause
common_too p q pair_form event none takes_a takes_b owners =
    let f = pair_form.form in
    let named = pair_form.campaign in
    let one = cut_cause (pair_may_come p.a.section p.b.section named f) why.Order _ none in
    let two = cut_cause (in_range f && is_next (length p.owners) f && is_apart p.a.server.plan named f) why.Range _ one.1 in
    let three = cut_cause (names_device (length p.owners) f) why.Device _ two.1 in
    let both = and_parts (in_range f && is_next (length p.owners) f) (is_apart p.a.server.plan named f) two.0 in
    let ranged : in_range f ≡ true = (and_parts (in_range f) (is_next (length p.owners) f) both.0).0 in
    rw (
      events_come q.a.section q.b.section named f event takes_a takes_b,
      ranged,
      event_next (length q.owners) f event,
      event_apart q.a.server.plan named f event,
      owners,
      three.0,
      event_flash (length q.a.flash + length q.b.flash) f event,
    ) refl

pub now_common : (q : PairState) (now : ℕ) → takes_events q.a.section ≡ true → takes_events q.b.section ≡ true → now ≤ max_time
    → common_cause q (record { campaign = None; form = form.At now }) ≡ None
unfolding common_cause in_range
now_common q now takes_a takes_b low = rw (takes_a, takes_b, le-leb now max_time low) refl

-- ---- so no cause refuses it

pub no_cause : (q : PairState) (line : List ℕ) (pair_form : PairForm) → nat_le max_lines q.a.lines ≡ false → nat_le max_lines q.b.lines ≡ false
    → nat_lt max_line (length line) ≡ false → pair_form_of line ≡ Some pair_form → common_cause q pair_form ≡ None
    → target_cause q (target_in q pair_form) ≡ None → pair_cause_of q line ≡ None
unfolding pair_cause_of
no_cause q line pair_form few_a few_b short spells common target =
    rw (few_a, few_b, short, spells) (first_none (common_cause q pair_form) (target_cause q (target_in q pair_form)) common target)
