-- A campaign next to another one: a payload that reaches one of its devices, and its devices' lines in a report.
use Rattle.std.proofs.Common.{◌≡◌, ℕ, ◌≤◌, ◌<◌, ◌-◌, zero, suc, Bool, true, false, ◌==◌, List, [], ◌∷◌, length, slice_get, Option, Some, None, Result, refl, sym, ap, subst, arith}
use Rattle.std.proofs.lemmas.Bool.Decides.{nat_tests}
use Rattle.std.specs.declared.alloc.AllocError.{AllocError}
use Rattle.device_core.specs.Device.{DeviceState}
use Rattle.campaign_server.specs.declared.stage.Stage.{Stage}
use Rattle.campaign_server.specs.Server.{ServerState, ledger}
use Rattle.wire_base.specs.Numbered.{numbered}
use Rattle.campaign_world.specs.declared.section.Section.TheVariants as section
use Rattle.campaign_world.specs.World.{WorldState}
use Rattle.campaign_world.specs.Causes.{takes_events}
use Rattle.campaign_world.specs.Report.{named_part, found_lines, numbered_lines}
use Rattle.campaign_world.specs.HeldWorld.{HeldCampaign, Becomes, Plays}
use Rattle.campaign_world.specs.PhaseInside.{section_by}

-- where events may come, more of them come after one
pub plays_on : (lines : ℕ) (has_ended : Bool) (old new : HeldCampaign) (r : Result (Unit {0}) AllocError) (after : WorldState → WorldState)
    → takes_events (section_by has_ended) ≡ true → Plays lines old new r after
    → Becomes lines (section_by has_ended) (section_by has_ended) old new r after
plays_on lines false old new r after comes plays = plays section.Events
plays_on lines true old new r after comes plays = absurd cc

-- ---- a device's lines

get_past : {A : Type 0} (xs : List A) (i : ℕ) → length xs ≤ i → slice_get xs i ≡ None
get_past [] i past = refl
get_past (x ∷ xs) zero past = absurd (omega (arith, past))
get_past (x ∷ xs) (suc i) past = get_past xs i (omega (arith, past))

pub numbered_past : {A : Type 0} (xs : List A) (n : ℕ) → length xs < n → numbered xs n ≡ None
numbered_past xs n past =
    let some : (n == 0) ≡ false = grind (arith, nat_tests, past) in
    rw some (get_past xs (n - 1) (omega (arith, past)))

-- there is no such device
pub no_lines : (name : List ℕ) (n : ℕ) (server : ServerState) (ds : List DeviceState) → numbered ds n ≡ None
    → [] ≡ numbered_lines name n server ds
no_lines name n server ds none =
    subst (λ (d : Option DeviceState). [] ≡ found_lines server.image name (ledger server n) d) (sym none) (by_stage (ledger server n))
  where
    by_stage : (stage : Option Stage) → [] ≡ found_lines server.image name stage None
    by_stage None = refl
    by_stage (Some stage) = refl

-- there is one
pub its_lines : (image name : List ℕ) (n : ℕ) (server : ServerState) (ds : List DeviceState) (stage : Stage) (d : DeviceState)
    → image ≡ server.image → Some stage ≡ ledger server n → numbered ds n ≡ Some d
    → named_part image name stage d ≡ numbered_lines name n server ds
its_lines image name n server ds stage d same staged there =
    subst (λ (o : Option Stage). named_part image name stage d ≡ found_lines server.image name o (numbered ds n)) staged
    (subst (λ (o : Option DeviceState). named_part image name stage d ≡ found_lines server.image name (Some stage) o) (sym there)
    (ap (λ (l : List ℕ). named_part l name stage d) same))
