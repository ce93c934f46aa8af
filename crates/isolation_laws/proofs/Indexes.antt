-- After its image's line a campaign has one index to the end, and fields that fit.
use Rattle.std.proofs.Common.{◌≡◌, ℕ, true, None, Ok, refl, subst}
use Rattle.script_lines.specs.declared.forms.Form.{Form}
use Rattle.script_lines.specs.declared.forms.Form.TheVariants.{Header, Image, Group, Device, Raw, RawAir}
use Rattle.campaign_server.specs.Plan.{Plan}
use Rattle.campaign_world.specs.declared.section.Section.{Section}
use Rattle.campaign_world.specs.World.{WorldState}
use Rattle.campaign_world.specs.Said.{Said, Own, Elsewhere, Reached}
use Rattle.campaign_world.specs.Causes.{is_in_order, form_cause, said_cause}
use Rattle.campaign_world.specs.Making.{after_form, after_said}
use Rattle.campaign_laws.specs.Fields.{HasFields, LineFits}
use Rattle.campaign_laws.proofs.HeadlineForms.{passes}
use Rattle.campaign_laws.proofs.Indexed.{IsIndexed, said_indexed}
use Rattle.isolation_laws.proofs.PairFields.{Has}
use Rattle.isolation_laws.proofs.Taken.{SaysFit, is_late}
use Rattle.campaign_world.proofs.Sections.{by_section, never}

-- late is indexed
pub late_indexed : (index : ℕ) (plan : Plan) (here : Section) → plan.index ≡ index → IsIndexed index here plan
late_indexed index plan here is =
    by_section (λ (x : Section). IsIndexed index x plan) tt tt is is is is is is here

pub indexed_late : (index : ℕ) (plan : Plan) (here : Section) → is_late here ≡ true → IsIndexed index here plan → plan.index ≡ index
indexed_late index plan =
    by_section (λ (x : Section). is_late x ≡ true → IsIndexed index x plan → plan.index ≡ index) never never (λ late k. k) (λ late k. k) (λ late k. k)
    (λ late k. k) (λ late k. k) (λ late k. k)

-- ---- once late, always late

at_header : (here : Section) → is_late here ≡ true → is_in_order here Header ≡ true → ⊥
at_header =
    by_section (λ (here : Section). is_late here ≡ true → is_in_order here Header ≡ true → ⊥) never never (λ late. never) (λ late. never) (λ late. never)
    (λ late. never) (λ late. never) (λ late. never)

at_image : (here : Section) (size parity index : ℕ) → is_late here ≡ true → is_in_order here (Image size parity index) ≡ true → ⊥
at_image here size parity index =
    by_section (λ (x : Section). is_late x ≡ true → is_in_order x (Image size parity index) ≡ true → ⊥) never never (λ late. never) (λ late. never)
    (λ late. never) (λ late. never) (λ late. never) (λ late. never) here

form_late : (w : WorldState) (form : Form) → form_cause w form ≡ None → is_late w.section ≡ true → is_late (after_form w form).section ≡ true
unfolding after_form
form_late w Header fine late = absurd (at_header w.section late (passes w Header fine).may)
form_late w form fine late = refl

pub said_late : (w : WorldState) (said : Said) → said_cause w said ≡ None → is_late w.section ≡ true → is_late (after_said w said).section ≡ true
said_late w (Own form) fine late = form_late w form fine late
said_late w Elsewhere fine late = late
said_late w (Reached n word down) fine late = refl

-- ---- fields

not_image_fits : (index : ℕ) (form : Form) → ((size parity its : ℕ) → form ≡ Image size parity its → its ≡ index) → Has form → HasFields index form
not_image_fits index (Image size parity its) same has = same size parity its refl
not_image_fits index (Group id addr key min max) same has = has
not_image_fits index (Device dev) same has = has
not_image_fits index (Raw n port payload word) same has = absurd has
not_image_fits index (RawAir n bytes word) same has = absurd has
not_image_fits index form same has = tt

-- a line that is late, where its campaign has this index
pub late_fits : (w : WorldState) (said : Said) → said_cause w said ≡ None → SaysFit said → is_late w.section ≡ true
    → LineFits w.server.plan.index (Ok said)
late_fits w (Own form) fine fits late =
    not_image_fits w.server.plan.index form (λ size parity its is. absurd (at_image w.section size parity its late
    (passes w (Image size parity its) (subst (λ (f : Form). form_cause w f ≡ None) is fine)).may)) fits
late_fits w Elsewhere fine fits late = tt
late_fits w (Reached n word down) fine fits late = tt

-- its index stays
pub index_stays : (w : WorldState) (said : Said) → said_cause w said ≡ None → SaysFit said → is_late w.section ≡ true
    → (after_said w said).server.plan.index ≡ w.server.plan.index
index_stays w said fine fits late =
    let index = w.server.plan.index in
    indexed_late index (after_said w said).server.plan (after_said w said).section (said_late w said fine late)
    (said_indexed index w said fine (late_fits w said fine fits late) (late_indexed index w.server.plan w.section refl))

-- a line fits where the index that it leaves is the campaign's to the end
pub then_fits : (w : WorldState) (said : Said) (index : ℕ) → SaysFit said
    → (is_late (after_said w said).section ≡ true → (after_said w said).server.plan.index ≡ index)
    → LineFits index (Ok said)
unfolding after_form
then_fits w (Own (Image size parity its)) index fits then = then refl
then_fits w (Own form) index fits then = not_image_fits index form (λ size parity its is. image_then size parity its is) fits
  where
    image_then : (size parity its : ℕ) → form ≡ Image size parity its → its ≡ index
    image_then size parity its is =
        let own : is_late (after_form w (Image size parity its)).section ≡ true → (after_form w (Image size parity its)).server.plan.index ≡ index =
        subst (λ (f : Form). is_late (after_form w f).section ≡ true → (after_form w f).server.plan.index ≡ index) is then in
        own refl
then_fits w Elsewhere index fits then = tt
then_fits w (Reached n word down) index fits then = tt
