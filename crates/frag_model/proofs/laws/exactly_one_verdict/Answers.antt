use Rattle.std.proofs.Common.{sym, subst}
use Rattle.frag_model.specs.Verdict.{Verdict, verdict, verdict_now, IsVerdict, IsVerdictNow}
use Rattle.frag_model.proofs.Verdicts.{verdict_now-right, IsVerdictNow-same, verdict-right, IsVerdict-same}
use Rattle.frag_model.proofs.laws.exactly_one_verdict.Goals as goal

pub returns : goal.returns
returns c = record {
  now = λ shape heard mark v. (
    λ h. IsVerdictNow-same shape heard mark v (verdict_now shape heard mark) h (verdict_now-right shape heard mark),
    λ e. subst (λ (w : Verdict). IsVerdictNow shape heard mark w) (sym e) (verdict_now-right shape heard mark),
  );
  first = λ shape heard v. (
    λ h. IsVerdict-same shape heard v (verdict shape heard) h (verdict-right shape heard),
    λ e. subst (λ (w : Verdict). IsVerdict shape heard w) (sym e) (verdict-right shape heard),
  );
}
