-- After its image's line a campaign has the index that the line says.
use Rattle.std.proofs.Common.{◌≡◌, ℕ, ◌+◌, true, false, None, Some, Ok, refl, ap, ◌∙◌}
use Rattle.device_core.specs.Events.{Receives}
use Rattle.campaign_server.specs.Plan.{Plan}
use Rattle.script_lines.specs.declared.forms.Form.{Form}
use Rattle.script_lines.specs.declared.forms.Form.TheVariants.{Header, Image, Group, WindowC, WindowB, Device}
use Rattle.campaign_world.specs.declared.section.Section.{Section}
use Rattle.campaign_world.specs.declared.section.Section.TheVariants as section
use Rattle.campaign_world.specs.World.{WorldState}
use Rattle.campaign_world.specs.Said.{Said, Own, Elsewhere, Reached}
use Rattle.campaign_world.specs.Causes.{is_in_order, takes_events, form_cause, said_cause}
use Rattle.campaign_world.specs.Making.{after_form, after_said}
use Rattle.campaign_laws.specs.Fields.{HasFields, LineFits}
use Rattle.campaign_laws.proofs.HeadlineForms.{passes, is_early, not_header, not_image, reached_passes, is_odd}
use Rattle.campaign_laws.proofs.PlanGroups.{IsSettled, given_settled, made_settled}
use Rattle.campaign_world.proofs.Sections.{by_section, never}

-- until then it has none yet
abbrev pub IsIndexed : (index : ℕ) → Section → Plan → Type 0
IsIndexed index section.Header plan = Unit {0}
IsIndexed index section.Image plan = Unit {0}
IsIndexed index here plan = plan.index ≡ index

-- where this form may come, it has
pub late_index : (index : ℕ) (plan : Plan) (form : Form) (here : Section) → is_early form ≡ false → is_in_order here form ≡ true
    → IsIndexed index here plan → plan.index ≡ index
late_index index plan form here late =
    by_section (λ (x : Section). is_in_order x form ≡ true → IsIndexed index x plan → plan.index ≡ index) (λ may k. absurd (not_header form late may))
    (λ may k. absurd (not_image form late may)) (λ may k. k) (λ may k. k) (λ may k. k) (λ may k. k) (λ may k. k) (λ may k. k) here

-- and where events may
pub events_index : (index : ℕ) (plan : Plan) (here : Section) → takes_events here ≡ true → IsIndexed index here plan → plan.index ≡ index
events_index index plan =
    by_section (λ (x : Section). takes_events x ≡ true → IsIndexed index x plan → plan.index ≡ index) never never never never never (λ takes k. k)
    (λ takes k. k) never

same_index : (w v : WorldState) → IsSettled w v → v.server.plan.index ≡ w.server.plan.index
same_index w v s = ap (λ (p : Plan). p.index) s.plan

form_indexed : (index : ℕ) (w : WorldState) (form : Form) → form_cause w form ≡ None → HasFields index form
    → IsIndexed index w.section w.server.plan → IsIndexed index (after_form w form).section (after_form w form).server.plan
unfolding after_form
form_indexed index w Header fine fits k = tt
form_indexed index w (Image frag_size parity its) fine fits k = fits
form_indexed index w (Group id addr key min max) fine fits k =
    let form : Form = Group id addr key min max in
    late_index index w.server.plan form w.section refl (passes w form fine).may k
form_indexed index w (WindowC start timeout freq dr) fine fits k =
    let form : Form = WindowC start timeout freq dr in
    late_index index w.server.plan form w.section refl (passes w form fine).may k
form_indexed index w (WindowB start periodicity timeout freq dr) fine fits k =
    let form : Form = WindowB start periodicity timeout freq dr in
    late_index index w.server.plan form w.section refl (passes w form fine).may k
form_indexed index w (Device dev) fine fits k =
    let form : Form = Device dev in
    late_index index w.server.plan form w.section refl (passes w form fine).may k
form_indexed index w form fine fits k =
    same_index w _ (made_settled w form refl) ∙ late_index index w.server.plan form w.section refl (passes w form fine).may k

-- so it is after what a line says
pub said_indexed : (index : ℕ) (w : WorldState) (said : Said) → said_cause w said ≡ None → LineFits index (Ok said)
    → IsIndexed index w.section w.server.plan → IsIndexed index (after_said w said).section (after_said w said).server.plan
said_indexed index w (Own form) fine fits k = form_indexed index w form fine fits k
said_indexed index w Elsewhere fine fits k = k
said_indexed index w (Reached n word down) fine fits k =
    same_index w _ (given_settled w n (Some (Receives w.time word (w.lines + 1) down)))
    ∙ events_index index w.server.plan w.section (reached_passes w n word down fine).0 k

-- what a line brings from elsewhere is for another index than the plan's
pub odd_here : (index : ℕ) (w : WorldState) (said : Said) → said_cause w said ≡ None → IsIndexed index w.section w.server.plan
    → is_odd index said ≡ false → is_odd w.server.plan.index said ≡ false
odd_here index w (Own form) fine k plain = plain
odd_here index w Elsewhere fine k plain = plain
odd_here index w (Reached n word down) fine k plain =
    let own : w.server.plan.index ≡ index = events_index index w.server.plan w.section (reached_passes w n word down fine).0 k in
    ap (λ (i : ℕ). is_odd i (Reached n word down)) own ∙ plain
