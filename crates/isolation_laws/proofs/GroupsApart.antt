-- The groups of two campaigns have different addresses, so that a device hears no frame of the other's.
use Rattle.std.proofs.Common.{◌≡◌, ℕ, ◌+◌, ◌&&◌, ◌==◌, not, Bool, true, false, List, [], ◌∷◌, ◌++◌, length, Option, Some, None, is_none, IfSome, Ok, refl, sym, ap, ◌∙◌, subst, true≢false, ◌^◌, ◌<◌}
use Rattle.std.proofs.lemmas.Bool.{and_parts, eqb-false}
use Rattle.wire_base.specs.Numbered.{numbered}
use Rattle.mc_group.specs.declared.group.Group.{Group}
use Rattle.package_grammar.specs.declared.downlink.Downlink.{Downlink}
use Rattle.package_grammar.specs.declared.downlink.To.{To}
use Rattle.package_grammar.specs.declared.downlink.To.TheVariants as to
use Rattle.device_core.specs.declared.class_session.ClassSession.{ClassSession}
use Rattle.device_core.specs.Device.{DeviceState}
use Rattle.device_core.specs.Events.{Receives, HearsBytes, event_step}
use Rattle.device_core.specs.Radio.{heard_group}
use Rattle.campaign_server.specs.declared.plan.PlanGroup.{PlanGroup}
use Rattle.campaign_server.specs.Framing.{frame_for}
use Rattle.script_lines.specs.declared.forms.Campaign.{Campaign}
use Rattle.script_lines.specs.declared.forms.Campaign.TheVariants as campaign
use Rattle.script_lines.specs.declared.forms.Form.{Form}
use Rattle.script_lines.specs.declared.forms.Form.TheVariants as form
use Rattle.script_lines.specs.declared.forms.PairForm.{PairForm}
use Rattle.script_lines.specs.PairForms.{pair_form_of}
use Rattle.report_lines.specs.declared.faults.LineWhy.TheVariants as why
use Rattle.campaign_world.specs.declared.numbered.SentPayload.{SentPayload}
use Rattle.campaign_world.specs.declared.section.Section.{Section}
use Rattle.campaign_world.specs.World.{WorldState}
use Rattle.campaign_world.specs.Said.{Said, Own, Elsewhere, Reached}
use Rattle.campaign_world.specs.Causes.{is_device, is_to_group, said_cause}
use Rattle.campaign_world.specs.Making.{after_form, after_said}
use Rattle.campaign_laws.proofs.Items.{all_numbered}
use Rattle.campaign_laws.proofs.Keyed.{FitsGroup, IsDueOf, IsKept}
use Rattle.campaign_laws.proofs.OwnGroups.{IsOwn, HasOwn}
use Rattle.campaign_laws.proofs.PlanGroups.{given_settled, made_settled}
use Rattle.pair_run.specs.declared.targets.Way.TheVariants as way
use Rattle.pair_run.specs.Targets.{Target, One, Across, named_target, target_for, target_of}
use Rattle.pair_run.specs.Pair.{PairState, first_pair, side, other}
use Rattle.pair_run.specs.PairCauses.{is_unplanned, pair_may_come, is_other_group, is_apart, may_cross, target_cause, target_in, pair_cause_of}
use Rattle.pair_run.specs.PairMaking.{said_to, after_target}
use Rattle.pair_run.specs.PairScript.{after_pair_line, read_pair_lines}
use Rattle.pair_run.proofs.Accepts.{cut_cause}
use Rattle.pair_run.proofs.EachTarget.{is_at_device, IfOne, common_if, named_if, IfOwn, said_if}
use Rattle.pair_run.proofs.Frames.{frames_cross}
use Rattle.pair_run.specs.Crossing.{IsOtherAddress}
use Rattle.isolation_laws.specs.CrossingFrames.{FramesCrossInScripts}
use Rattle.isolation_laws.proofs.Goes.{Goes, AllGo, all_go, pair_read, pair_first, pair_last}
use Rattle.isolation_laws.proofs.Indexes.{said_late}
use Rattle.pair_run.proofs.Unrefused.{unrefused, after_is}
use Rattle.isolation_laws.proofs.Taken.{is_late, Common, common_passed}
use Rattle.campaign_world.proofs.Sections.{by_section, never}

-- ---- what a line makes of the group of a plan

abbrev IsNoGroup : Form → Type 0
IsNoGroup (form.Group id addr key min max) = ⊥
IsNoGroup f = Unit {0}

form_group : (w : WorldState) (f : Form) → IsNoGroup f → (after_form w f).server.plan.group ≡ w.server.plan.group
unfolding after_form
form_group w form.Header plain = refl
form_group w (form.Image frag_size parity index) plain = refl
form_group w (form.Group id addr key min max) plain = absurd plain
form_group w (form.WindowC start timeout freq dr) plain = refl
form_group w (form.WindowB start periodicity timeout freq dr) plain = refl
form_group w (form.Device dev) plain = refl
form_group w f plain = ap (λ p. p.group) (made_settled w f refl).plan

said_group : (w : WorldState) (said : Said) → IfOwn IsNoGroup said → (after_said w said).server.plan.group ≡ w.server.plan.group
said_group w (Own f) plain = form_group w f plain
said_group w Elsewhere plain = refl
said_group w (Reached n word down) plain =
    ap (λ p. p.group) (given_settled w n (Some (Receives w.time word (w.lines + 1) down))).plan

-- ---- what a line tells of a group

abbrev IsPlain : Target → Type 0
IsPlain t = IfOne (λ x f. IsNoGroup f) t

says_plain : (x : Campaign) (pair : PairState) (t : Target) → IsPlain t → IfOwn IsNoGroup (said_to x pair t)
says_plain x pair t plain = said_if (λ y f. IsNoGroup f) x tt (λ time. tt) tt pair t plain

-- a line tells of no group, or of that of a before b's plan, or of another than a's
data Tells (pair : PairState) (t : Target) : Type 0 where
  none : IsPlain t → Tells pair t
  of_a : (id addr : ℕ) (key : List ℕ) (min max : ℕ) → t ≡ One campaign.A (form.Group id addr key min max)
      → is_unplanned pair.b.section ≡ true → Tells pair t
  of_b : (id addr : ℕ) (key : List ℕ) (min max : ℕ) → t ≡ One campaign.B (form.Group id addr key min max)
      → is_other_group pair.a.server.plan.group id addr ≡ true → Tells pair t

plain_at : (x : Campaign) (f : Form) → is_at_device f ≡ true → IsNoGroup f
plain_at x (form.Group id addr key min max) is = absurd cc
plain_at x f is = tt

named_tells : (pair : PairState) (count : ℕ) (x : Campaign) (f : Form) → pair_may_come pair.a.section pair.b.section (Some x) f ≡ true
    → is_apart pair.a.server.plan (Some x) f ≡ true → Tells pair (named_target pair.owners count x f)
named_tells pair count campaign.A (form.Group id addr key min max) may apart =
    of_a id addr key min max refl (and_parts _ (is_unplanned pair.b.section) may).1
named_tells pair count campaign.B (form.Group id addr key min max) may apart = of_b id addr key min max refl apart
named_tells pair count x f may apart = none (named_if (λ y g. IsNoGroup g) plain_at pair.owners count x f tt)

tells_by : (pair : PairState) (named : Option Campaign) (f : Form) → pair_may_come pair.a.section pair.b.section named f ≡ true
    → is_apart pair.a.server.plan named f ≡ true
    → Tells pair (target_for pair.owners (length pair.a.devices) (length pair.b.devices) named f)
tells_by pair None f may apart = none (common_if (λ y g. IsNoGroup g) plain_at pair.owners f)
tells_by pair (Some x) f may apart = named_tells pair _ x f may apart

tells : (pair : PairState) (pair_form : PairForm) → Common pair pair_form → Tells pair (target_in pair pair_form)
unfolding target_of
tells pair pair_form c = tells_by pair pair_form.campaign pair_form.form c.comes c.apart

-- ---- the addresses stay apart

record GroupsApart (pair : PairState) : Type 0 where
  apart : (one its : PlanGroup) → pair.a.server.plan.group ≡ Some one → pair.b.server.plan.group ≡ Some its → one.addr ≡ its.addr → ⊥
  early : is_late pair.b.section ≡ false → pair.b.server.plan.group ≡ None

-- both are as they were
same_apart : (p q : PairState) → q.a.server.plan.group ≡ p.a.server.plan.group → q.b.server.plan.group ≡ p.b.server.plan.group
    → (is_late q.b.section ≡ false → is_late p.b.section ≡ false) → GroupsApart p → GroupsApart q
same_apart p q a b late k = record {
  apart = λ one its a_is b_is same. k.apart one its (sym a ∙ a_is) (sym b ∙ b_is) same;
  early = λ is. b ∙ k.early (late is);
}

unplanned_early : (here : Section) → is_unplanned here ≡ true → is_late here ≡ false
unplanned_early =
    by_section (λ (here : Section). is_unplanned here ≡ true → is_late here ≡ false) (λ is. refl) (λ is. refl) never never never never never never

not_none : {X : Type 0} (o : Option PlanGroup) (g : PlanGroup) → o ≡ None → o ≡ Some g → X
not_none o g empty full = absurd (let both : None ≡ Some g = sym empty ∙ full in cc)

other_addr : (group : Option PlanGroup) (id addr : ℕ) (one : PlanGroup) → is_other_group group id addr ≡ true → group ≡ Some one → one.addr ≡ addr → ⊥
other_addr None id addr one is there same = cc
other_addr (Some g) id addr one is there same =
    let it : g ≡ one = cc in
    let parts = and_parts (not (id == g.id)) (not (addr == g.addr)) is in
    by (addr == g.addr) refl parts.1 (sym same ∙ ap (λ (p : PlanGroup). p.addr) (sym it))
  where
    by : (b : Bool) → (addr == g.addr) ≡ b → not b ≡ true → addr ≡ g.addr → ⊥
    by true is_it plain here = true≢false (sym plain)
    by false is_it plain here = eqb-false addr g.addr is_it here

new_addr : (o : Option PlanGroup) (g its : PlanGroup) → o ≡ Some g → o ≡ Some its → g ≡ its
new_addr o g its one two = let both : Some g ≡ Some its = sym one ∙ two in cc

-- a group of b is another than a's
b_apart : (p q : PairState) (id addr : ℕ) (group : PlanGroup) → group.addr ≡ addr → q.a.server.plan.group ≡ p.a.server.plan.group
    → q.b.server.plan.group ≡ Some group → is_late q.b.section ≡ true → is_other_group p.a.server.plan.group id addr ≡ true → GroupsApart q
b_apart p q id addr group addr_is a b late is = record {
  apart = λ one its a_is b_is same.
      let here : group ≡ its = new_addr q.b.server.plan.group group its b b_is in
      other_addr p.a.server.plan.group id addr one is (sym a ∙ a_is) (same ∙ ap (λ (g : PlanGroup). g.addr) (sym here) ∙ addr_is);
  early = λ early. absurd (true≢false (sym late ∙ early));
}

-- a group of a comes before b has one
a_apart : (p q : PairState) → q.b.server.plan.group ≡ p.b.server.plan.group → q.b.section ≡ p.b.section → is_unplanned p.b.section ≡ true
    → GroupsApart p → GroupsApart q
a_apart p q b section_is unplanned k =
    let none_there = k.early (unplanned_early p.b.section unplanned) in
    record {
      apart = λ one its a_is b_is same. not_none q.b.server.plan.group its (b ∙ none_there) b_is;
      early = λ early. b ∙ none_there;
    }

late_before : (w : WorldState) (said : Said) → said_cause w said ≡ None → is_late (after_said w said).section ≡ false → is_late w.section ≡ false
late_before w said fine early = by (is_late w.section) refl
  where
    by : (b : Bool) → is_late w.section ≡ b → b ≡ false
    by true is = absurd (true≢false (sym (said_late w said fine is) ∙ early))
    by false is = refl

target_apart : (pair : PairState) (t : Target) → Tells pair t → said_cause pair.b (said_to campaign.B pair t) ≡ None
    → GroupsApart pair → GroupsApart (after_target pair t)
unfolding after_target after_form
target_apart pair t (none plain) fine k =
    same_apart pair (after_target pair t)
    (said_group pair.a (said_to campaign.A pair t) (says_plain campaign.A pair t plain))
    (said_group pair.b (said_to campaign.B pair t) (says_plain campaign.B pair t plain))
    (λ early. late_before pair.b (said_to campaign.B pair t) fine early) k
target_apart pair t (of_a id addr key min max is unplanned) fine k =
    subst (λ (u : Target). GroupsApart (after_target pair u)) (sym is)
    (a_apart pair (after_target pair (One campaign.A (form.Group id addr key min max))) refl refl unplanned k)
target_apart pair t (of_b id addr key min max is another) fine k =
    subst (λ (u : Target). GroupsApart (after_target pair u)) (sym is)
    (b_apart pair (after_target pair (One campaign.B (form.Group id addr key min max))) id addr _ refl refl refl refl another)

line_apart : (pair : PairState) (line : List ℕ) → pair_cause_of pair line ≡ None → GroupsApart pair → GroupsApart (after_pair_line pair line)
line_apart pair line fine k =
    let u = unrefused pair line fine in
    let t = target_in pair u.pair_form in
    subst GroupsApart (sym (after_is pair line u.pair_form u.spells))
    (target_apart pair t (tells pair u.pair_form (common_passed pair u.pair_form u.common)) (u.fine campaign.B) k)

lines_apart : (lines : List (List ℕ)) (pair last : PairState) → read_pair_lines (Ok pair) lines ≡ Ok last → GroupsApart pair → GroupsApart last
lines_apart [] pair last is k = subst GroupsApart (pair_last pair last is) k
lines_apart (line ∷ lines) pair last is k =
    let first = pair_first pair last line lines is in
    lines_apart lines (after_pair_line pair line) last first.1 (line_apart pair line first.0 k)

first_apart : (image_a image_b : List ℕ) → GroupsApart (first_pair image_a image_b)
first_apart image_a image_b = record {
  apart = λ one its a_is b_is same. not_none None one refl a_is;
  early = λ early. refl;
}

-- of each of the two
sides_apart : (x : Campaign) (pair : PairState) → GroupsApart pair → (one its : PlanGroup) → (side pair x).server.plan.group ≡ Some one
    → (side pair (other x)).server.plan.group ≡ Some its → one.addr ≡ its.addr → ⊥
sides_apart campaign.A pair k one its one_is its_is same = k.apart one its one_is its_is same
sides_apart campaign.B pair k one its one_is its_is same = k.apart its one its_is one_is (sym same)

-- ---- a device of the other hears no such address

own_addr : (own : Option PlanGroup) (g : Group) → IsOwn own g → (p : PlanGroup) × (own ≡ Some p) × (g.addr ≡ p.addr)
own_addr None g is = absurd is
own_addr (Some p) g is = (p, refl, ap (λ (x : Group). x.addr) is)

heard_own : (own : Option PlanGroup) (d : DeviceState) (session : Option ClassSession) (g : Group) → HasOwn own d.groups
    → heard_group d.groups session ≡ Some g → IsOwn own g
heard_own own d None g has is = absurd cc
heard_own own d (Some session) g has is = has session.id g is

others_address : (x : Campaign) (pair : PairState) (one : PlanGroup) (d : DeviceState) → GroupsApart pair → (side pair x).server.plan.group ≡ Some one
    → HasOwn (side pair (other x)).server.plan.group d.groups → IsOtherAddress d one.addr
others_address x pair one d k one_is has g heard same =
    let own = own_addr (side pair (other x)).server.plan.group g (heard_own (side pair (other x)).server.plan.group d d.class_session g has heard) in
    sides_apart x pair k one own.0 one_is own.1 (sym same ∙ own.2)

-- ---- a payload on the air

to_some : (by : Bool) (receiver : Option ℕ) (goes : Bool) → by ≡ goes → (is_none receiver && goes) ≡ true → goes ≡ true
to_some by receiver goes same is = (and_parts (is_none receiver) goes is).1

-- it is to a group
group_to : (o : Option SentPayload) (sent : SentPayload) → may_cross way.Air o ≡ true → o ≡ Some sent
    → (addr : ℕ) × (count : ℕ) × (sent.down.to ≡ to.Group addr count)
group_to None sent may is = absurd cc
group_to (Some s) sent may is =
    let it : s ≡ sent = cc in
    let found = by s.down.to ((and_parts (is_none s.receiver) _ may).1) in
    (found.0, found.1, ap (λ (p : SentPayload). p.down.to) (sym it) ∙ found.2)
  where
    by : (t : To) → is_to_group t ≡ true → (addr : ℕ) × (count : ℕ) × (t ≡ to.Group addr count)
    by to.Unicast is = absurd cc
    by (to.Group addr count) is = (addr, count, refl)

framed : (group : Option PlanGroup) (down : Downlink) (addr count : ℕ) (t word mark : ℕ) (d : DeviceState) → down.to ≡ to.Group addr count
    → IsDueOf group addr count → ((one : PlanGroup) → group ≡ Some one → (one.addr < 2 ^ 32) × IsOtherAddress d one.addr)
    → event_step d (HearsBytes t word mark (frame_for group down)) ≡ event_step d (Receives t word mark down)
framed None down addr count t word mark d far due fits = absurd due
framed (Some g) down addr count t word mark d far due fits =
    let of = fits g refl in
    let there : down.to ≡ to.Group g.addr count = far ∙ ap (λ (a : ℕ). to.Group a count) due.addr_is in
    let whole : down ≡ record { to = to.Group g.addr count; port = down.port; payload = down.payload } =
    ap (λ (x : To). let y : Downlink = record { to = x; port = down.port; payload = down.payload } in y) there in
    subst (λ (x : Downlink). event_step d (HearsBytes t word mark (frame_for (Some g) x)) ≡ event_step d (Receives t word mark x)) (sym whole)
    (frames_cross t word mark count down.port down.payload g d of.0 of.1)

-- ---- the law

goes_at : (x : Campaign) (image : List ℕ) (index : ℕ) (before after : List (List ℕ)) (line : List ℕ) (pair so_far : PairState)
    → AllGo x image index pair (before ++ line ∷ after) → read_pair_lines (Ok pair) before ≡ Ok so_far → Goes x image index so_far line
goes_at x image index [] after line pair so_far all read =
    subst (λ (p : PairState). Goes x image index p line) (pair_last pair so_far read) all.0
goes_at x image index (first ∷ before) after line pair so_far all read =
    goes_at x image index before after line (after_pair_line pair first) so_far all.1 (pair_first pair so_far first before read).1

crossing_at : (x : Campaign) (pair : PairState) (line : List ℕ) (form : PairForm) (number id word : ℕ) → pair_cause_of pair line ≡ None
    → pair_form_of line ≡ Some form → target_in pair form ≡ Across x way.Air number id word
    → may_cross way.Air (numbered (side pair x).sent number) ≡ true
crossing_at x pair line form number id word fine spells says =
    let u = unrefused pair line fine in
    let same : u.pair_form ≡ form = (let both : Some u.pair_form ≡ Some form = sym u.spells ∙ spells in cc) in
    let none_left : target_cause pair (Across x way.Air number id word) ≡ None =
    ap (target_cause pair) (sym says) ∙ ap (λ (f : PairForm). target_cause pair (target_in pair f)) (sym same) ∙ u.target in
    let one = cut_cause (is_device (length (side pair (other x)).devices) id) why.Device _ none_left in
    (cut_cause (may_cross way.Air (numbered (side pair x).sent number)) why.Unsent None one.1).0

turned : (x : Campaign) → other (other x) ≡ x
turned campaign.A = refl
turned campaign.B = refl

pub cross_in_scripts : FramesCrossInScripts
cross_in_scripts x image_a image_b before after line pair so_far sent device c t word mark =
    let s = c.script in
    let from = goes_at x _ _ before after line (first_pair image_a image_b) so_far
    (all_go x image_a image_b (before ++ line ∷ after) pair s.bytes_a s.bytes_b s.accepted) c.read in
    let far = goes_at (other x) _ _ before after line (first_pair image_a image_b) so_far
    (all_go (other x) image_a image_b (before ++ line ∷ after) pair s.bytes_a s.bytes_b s.accepted) c.read in
    let k = lines_apart before (first_pair image_a image_b) so_far c.read (first_apart image_a image_b) in
    let fine = fine_at before after line (first_pair image_a image_b) pair so_far (pair_read image_a image_b (before ++ line ∷ after) pair s.accepted).0 c.read in
    let may = crossing_at x so_far line c.pair_form c.number c.id c.word fine c.spells c.says in
    let to_it = group_to (numbered (side so_far x).sent c.number) sent may c.sent_is in
    let kept = all_numbered (IsKept (side so_far x).server.plan) (side so_far x).sent c.number sent from.stands.keyed.kept c.sent_is in
    framed (side so_far x).server.plan.group sent.down to_it.0 to_it.1 t word mark device to_it.2 (kept.framed to_it.0 to_it.1 to_it.2).0
    (λ one one_is. (
      fits_addr (side so_far x).server.plan.group one from.stands.keyed.fit.group one_is,
      others_address x so_far one device k one_is (far.stands.keyed.own c.id device c.device_is),
    ))
  where
    fine_at : (before after : List (List ℕ)) (line : List ℕ) (first last so_far : PairState) → read_pair_lines (Ok first) (before ++ line ∷ after) ≡ Ok last
        → read_pair_lines (Ok first) before ≡ Ok so_far → pair_cause_of so_far line ≡ None
    fine_at [] after line first last so_far all read =
        subst (λ (p : PairState). pair_cause_of p line ≡ None) (pair_last first so_far read) (pair_first first last line after all).0
    fine_at (x ∷ xs) after line first last so_far all read =
        fine_at xs after line (after_pair_line first x) last so_far (pair_first first last x (xs ++ line ∷ after) all).1 (pair_first first so_far x xs read).1

    fits_addr : (group : Option PlanGroup) (one : PlanGroup) → IfSome group FitsGroup → group ≡ Some one → one.addr < 2 ^ 32
    fits_addr None one fits is = absurd cc
    fits_addr (Some g) one fits is = let it : g ≡ one = cc in subst (λ (p : PlanGroup). p.addr < 2 ^ 32) it fits.addr
