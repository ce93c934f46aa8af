use Rattle.std.proofs.Common.{◌≡◌, ℕ, true, false, is_some, Option, None, Some, Result, OnOk, inr, sym, ◌∙◌, arith}
use Rattle.flash_session.specs.Lies.{Stored, IsStoredAs}
use Rattle.flash_session.specs.Moments.{LeavesOnly}
use Rattle.flash_session.specs.Ranges.{RangeServes, WasOrIs}
use Rattle.flash_session.specs.Seen.{FlashSeen}
use Rattle.flash_session.proofs.Headers.{none_left}
use Rattle.flash_session.proofs.Moments.{stays}
use Rattle.flash_session.proofs.Runs.{outside_stays}
use Rattle.flash_session.proofs.Serves.{serves_none}
use Rattle.flash_session.proofs.beginning.end_if.Goals as goal

-- what holds for some session holds for the one that is there
ends : {T E : Type 0} (base span : ℕ) {old new : FlashSeen} {r : Result T E} (o : Option Stored) → is_some o ≡ true
    → RangeServes base span (WasOrIs base) (λ (s : Stored). Some s) (λ s. None) old new r
    → IsStoredAs base span o old → OnOk r (IsStoredAs base span None new) × LeavesOnly (WasOrIs base o None) old new
ends base span None e ended stored = let no : ⊥ = cc in absurd no
ends base span (Some s) e ended stored = (ended.acknowledged s stored, ended.any_moment s stored)

none_lives : (base span : ℕ) {seen : FlashSeen} (o : Option Stored) → is_some o ≡ false → IsStoredAs base span o seen → IsStoredAs base span None seen
none_lives base span None e stored = stored
none_lives base span (Some s) e stored = let no : ⊥ = cc in absurd no

pub returns-then-lives : goal.returns-then-lives
returns-then-lives g c = record {
  ended = record {
    acknowledged = λ x stored. (ends c.args.base c.args.span x.before (sym x.as_told ∙ c.if-lives.true) c.end.ensures.ended stored).0;
    any_moment = λ x stored. (ends c.args.base c.args.span x.before (sym x.as_told ∙ c.if-lives.true) c.end.ensures.ended stored).1;
    serves = c.end.ensures.ended.serves;
  };
}

pub returns-else-lives : goal.returns-else-lives
returns-else-lives g c = record {
  ended = record {
    acknowledged = λ x stored. none_lives c.args.base c.args.span x.before (sym x.as_told ∙ c.if-lives.false) stored;
    any_moment = λ x stored. stays (WasOrIs c.args.base x.before None)
        (λ b left. inr (none_left c.args.base c.args.span _ (omega arith) (none_lives c.args.base c.args.span x.before (sym x.as_told ∙ c.if-lives.false) stored) b left));
    serves = serves_none (outside_stays _ _);
  };
}
