-- A device of a campaign is configured as its line says, whatever reached it.
use Rattle.std.proofs.Common.{◌≡◌, inl, inr, ℕ, ◌+◌, ◌==◌, List, [], ◌∷◌, ◌++◌, length, drop, fold, append-nil, Option, None, Some, IfSome, Ok, Err, refl, sym, ap, ◌∙◌, subst, eqb-true}
use Rattle.std.proofs.lemmas.Bool.{and_parts}
use Rattle.std.specs.Prelude.{filter_map, option_to_list}
use Rattle.device_core.specs.Device.{DeviceState}
use Rattle.wire_base.specs.Numbered.{numbered}
use Rattle.script_lines.specs.declared.forms.Class.{Class}
use Rattle.script_lines.specs.declared.forms.Class.TheVariants as class
use Rattle.script_lines.specs.declared.forms.Form.TheVariants.{Device}
use Rattle.script_lines.specs.Ranges.{in_range}
use Rattle.campaign_world.specs.World.{WorldState, first_world}
use Rattle.campaign_world.specs.Said.{Said, Own, Line}
use Rattle.campaign_world.specs.Causes.{said_cause, line_cause}
use Rattle.campaign_world.specs.Making.{class_of, device_of, after_said}
use Rattle.campaign_world.specs.Script.{after_line, read_lines, campaign_of}
use Rattle.campaign_laws.specs.Headline.{IsClass, IsOfItsLine}
use Rattle.device_core.specs.Events.{Event, after_event}
use Rattle.campaign_laws.specs.Independence.{device_in, event_in}
use Rattle.campaign_server.proofs.LineItems.{if_some, some_is, none_there, numbered_push, numbered_next}
use Rattle.campaign_laws.proofs.HeadlineForms.{passes}
use Rattle.campaign_laws.proofs.HeadlineLines.{end_is}
use Rattle.campaign_laws.proofs.Independence.{read_first, line_fine, same_sent, unchanged, folded, said_told}
use Rattle.device_core.proofs.HeardSessions.{event_config}

-- a device that is there is configured as its line says
abbrev AllConfigured : List Line → List DeviceState → Type 0
AllConfigured lines ds = (id : ℕ) → IfSome (numbered ds id) (λ d. IsOfItsLine lines id d.config)

class_same : (k : Class) → IsClass k (class_of k)
class_same class.A = refl
class_same class.C = refl

events_config : (d : DeviceState) (events : List Event) → (fold after_event d events).config ≡ d.config
events_config d [] = refl
events_config d (e ∷ events) = events_config (after_event d e) events ∙ event_config d e

-- a device after some events is configured as before
still_configured : (lines : List Line) (id : ℕ) (o : Option DeviceState) (events : List Event)
    → IfSome o (λ d. IsOfItsLine lines id d.config) → IfSome (folded events o) (λ d. IsOfItsLine lines id d.config)
still_configured lines id None events h = tt
still_configured lines id (Some d) events h = subst (IsOfItsLine lines id) (sym (events_config d events)) h

-- the devices with the one that a line gives
with_line : (lines : List Line) (w : WorldState) (said : Said) → said_cause w said ≡ None
    → numbered lines (w.lines + 1) ≡ Some (Ok said) → AllConfigured lines w.devices
    → AllConfigured lines (w.devices ++ filter_map device_in (Ok said ∷ []))
unfolding in_range
with_line lines w (Own (Device dev)) fine line_is h id =
    elim (numbered_push w.devices (device_of dev) id) [
      | inl same ↦ subst (λ (o : Option DeviceState). IfSome o (λ d. IsOfItsLine lines id d.config)) (sym same) (h id)
      | inr new ↦
          let both = and_parts _ (dev.id == length w.devices + 1)
          (passes w (Device dev) fine).ranged in
          let next : dev.id ≡ length w.devices + 1 = eqb-true _ _ both.1 in
          some_is (λ (d : DeviceState). IsOfItsLine lines id d.config) _ (device_of dev) new.1
          (w.lines + 1, Ok (Own (Device dev)), dev, assumption (line_is, next ∙ sym new.2, class_same dev.class))
    ]
with_line lines w said fine line_is h id =
    subst (λ (ds : List DeviceState). IfSome (numbered ds id) (λ d. IsOfItsLine lines id d.config))
    (sym (append-nil w.devices)) (h id)

said_configured : (lines : List Line) (w : WorldState) (said : Said) → said_cause w said ≡ None
    → numbered lines (w.lines + 1) ≡ Some (Ok said) → AllConfigured lines w.devices
    → AllConfigured lines (after_said w said).devices
said_configured lines w said fine line_is h id =
    let v : WorldState = after_said w said in
    let t = said_told id w.server.plan.group w.sent w said fine in
    let is : numbered v.devices id
    ≡ folded (option_to_list (event_in id w.server.plan.group w.sent w.time (w.lines + 1) (Ok said)) ++ [])
    (numbered (w.devices ++ filter_map device_in (Ok said ∷ [])) id) =
    ap (λ (ds : List DeviceState). numbered ds id) (sym (append-nil v.devices))
    ∙ sym (unchanged (numbered (v.devices ++ []) id)) ∙ t.record_is (same_sent w) (λ airs. refl) [] [] in
    subst (λ (o : Option DeviceState). IfSome o (λ d. IsOfItsLine lines id d.config)) (sym is)
    (still_configured lines id (numbered (w.devices ++ filter_map device_in (Ok said ∷ [])) id)
    (option_to_list (event_in id w.server.plan.group w.sent w.time (w.lines + 1) (Ok said)) ++ [])
    (with_line lines w said fine line_is h id))

line_configured : (lines : List Line) (w : WorldState) (line : Line)
    → line_cause w line ≡ None → numbered lines (w.lines + 1) ≡ Some line
    → AllConfigured lines w.devices
    → AllConfigured lines (after_line w line).devices × ((after_line w line).lines ≡ w.lines + 1)
line_configured lines w (Err cause) fine line_is h = absurd cc
line_configured lines w (Ok said) fine line_is h =
    (said_configured lines w said fine line_is h, ap (λ (n : ℕ). n + 1) (said_told 0 None w.sent w said fine).lines)

all_configured : (lines : List Line) (w end : WorldState) (rest : List Line) → drop w.lines lines ≡ rest
    → read_lines (Ok w) rest ≡ Ok end → AllConfigured lines w.devices → AllConfigured lines end.devices
unfolding read_lines
all_configured lines w end [] left read h =
    let same : w ≡ end = cc in subst (λ (x : WorldState). AllConfigured lines x.devices) same h
all_configured lines w end (line ∷ rest) left read h =
    let first = read_first w end line rest read in
    let next = numbered_next lines w.lines line rest left in
    let here = line_configured lines w line (line_fine w line first.0) next.0 h in
    all_configured lines (after_line w line) end rest
    (ap (λ (n : ℕ). drop n lines) here.1 ∙ next.1) first.1 here.0

pub is_configured : (image : List ℕ) (lines : List Line) (world : WorldState) (id : ℕ) (device : DeviceState)
    → campaign_of image lines ≡ Ok world → numbered world.devices id ≡ Some device
    → IsOfItsLine lines id device.config
unfolding campaign_of
is_configured image lines world id device is there =
    if_some (λ (d : DeviceState). IsOfItsLine lines id d.config) (numbered world.devices id) device there
    (all_configured lines (first_world image) world lines refl
    (end_is (read_lines (Ok (first_world image)) lines) world is)
    (λ n. subst (λ (o : Option DeviceState). IfSome o (λ d. IsOfItsLine lines n d.config))
    (sym (none_there [] n refl)) tt) id)
