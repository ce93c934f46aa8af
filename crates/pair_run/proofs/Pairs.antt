-- What a line is answered of a pair that stands for two campaigns.
use Rattle.std.proofs.Common.{◌≡◌, ℕ, ◌+◌, List, None, Some, Result, Ok, Err, OnOk, IfErr, sym, ap, ◌∙◌, subst}
use Rattle.script_lines.specs.declared.forms.PairForm.{PairForm}
use Rattle.script_lines.specs.PairForms.{pair_form_of}
use Rattle.report_lines.specs.declared.faults.LineWhy.{LineWhy}
use Rattle.report_lines.specs.declared.faults.LineError.{LineError}
use Rattle.report_lines.specs.declared.faults.LineError.TheVariants as error
use Rattle.campaign_world.specs.World.{WorldState}
use Rattle.campaign_world.specs.HeldLate.{DeviceRests}
use Rattle.campaign_world.specs.HeldWorld.{world_of}
use Rattle.campaign_world.proofs.Zips.{zip_long}
use Rattle.pair_run.specs.declared.owners.Owner.{Owner}
use Rattle.pair_run.specs.Pair.{PairState}
use Rattle.pair_run.specs.Targets.{Target}
use Rattle.pair_run.specs.PairCauses.{pair_cause_of, pair_form_cause, target_in}
use Rattle.pair_run.specs.PairMaking.{after_target}
use Rattle.pair_run.specs.HeldPair.{HeldPair, PairStands, PairBecomes, IsPairAnswer, IsAccepted, OfBoth, pair_of}
use Rattle.pair_run.proofs.Accepts.{makes}

-- it is the pair of these devices
pub pair_is : (held : HeldPair) (pair : PairState) → PairStands held pair → pair ≡ pair_of held pair.a.devices pair.b.devices
pair_is held pair stands =
    ap (λ (w : WorldState). record { a = w; b = pair.b; owners = pair.owners }) stands.a.rest
    ∙ ap (λ (w : WorldState). record { a = world_of held.a pair.a.devices; b = w; owners = pair.owners }) stands.b.rest
    ∙ ap (λ (o : List Owner). record { a = world_of held.a pair.a.devices; b = world_of held.b pair.b.devices; owners = o }) stands.owners

-- what holds whatever devices it stands for holds of the two that it stands for
pub of_both : (held : HeldPair) (pair : PairState) (fact : PairState → Type 0) → PairStands held pair → OfBoth held fact → fact pair
of_both held pair fact stands all =
    subst fact (sym (pair_is held pair stands))
    (all pair.a.devices pair.b.devices (zip_long DeviceRests held.a.devices pair.a.devices stands.a.devices)
    (zip_long DeviceRests held.b.devices pair.b.devices stands.b.devices))

pub lines_stand : (held : HeldPair) (pair : PairState) → PairStands held pair → held.a.lines + 1 ≡ pair.a.lines + 1
lines_stand held pair stands = sym (ap (λ (w : WorldState). w.lines + 1) stands.a.rest)

-- a refused line
pub refused_answer : (old new : HeldPair) (pair : PairState) (line : List ℕ) (why : LineWhy) (result : Result (Unit {0}) LineError)
    → PairStands old pair → pair_cause_of pair line ≡ Some why
    → result ≡ Err (error.Line (record { line = old.a.lines + 1; why = why }))
    → new ≡ record old { kept = Some (error.Line (record { line = old.a.lines + 1; why = why })) } → IsPairAnswer pair line new result
refused_answer old new pair line why result stands cause is after = rw (is, after) (
  cause,
  lines_stand old pair stands,
  record { a = stands.a; b = stands.b; owners = stands.owners },
)

-- one that was read is accepted, and taken
pub pair_answer : (old new : HeldPair) (pair : PairState) (line : List ℕ) (pair_form : PairForm) (target : Target)
    (result : Result (Unit {0}) LineError) → PairStands old pair → old.kept ≡ None
    → pair_cause_of pair line ≡ pair_form_cause pair pair_form → pair_form_of line ≡ Some pair_form → IsAccepted old pair_form target
    → OnOk result (PairBecomes old new (λ p. after_target p target)) → OnOk result (new.kept ≡ old.kept)
    → IfErr result (λ e. e ≡ error.Memory) → IsPairAnswer pair line new result
pair_answer old new pair line pair_form target (Ok done) stands unkept cause read accepted becomes kept memory = (
  cause ∙ of_both old pair (λ p. pair_form_cause p pair_form ≡ None) stands accepted.unrefused,
  subst (PairStands new)
      (sym (makes pair line pair_form target read (of_both old pair (λ p. target ≡ target_in p pair_form) stands accepted.says)))
      (becomes pair stands),
  kept ∙ unkept,
)
pair_answer old new pair line pair_form target (Err error.Memory) stands unkept cause read accepted becomes kept memory = tt
pair_answer old new pair line pair_form target (Err (error.Line fault)) stands unkept cause read accepted becomes kept memory = absurd cc
