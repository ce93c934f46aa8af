-- How what a stop may leave goes on, call by call.
use Rattle.std.proofs.Common.{ℕ, List, inl, inr, arith}
use Rattle.flash_session.specs.Moments.{Elapses, LeavesOnly}
use Rattle.flash_session.specs.Seen.{FlashSeen, left}

-- a first call
pub begins : (P : List ℕ → Type 0) {step : List ℕ → List ℕ → Type 0} {old new : FlashSeen}
    → ((c : List ℕ) → left old c → P c) → ((d c : List ℕ) → left old d → step d c → P c) → Elapses step old new → LeavesOnly P old new
begins P {step} {old} {new} here after call = record {
  later = call.later;
  each = λ c since. elim (call.each old.moment c (omega arith) since) [
    | inl before ↦ here c before
    | inr from ↦ after from.0 c from.1 from.2
  ];
  earlier = λ t c le since. elim (call.each t c le since) [
    | inl before ↦ inl before
    | inr from ↦ inr (after from.0 c from.1 from.2)
  ];
  last = λ c now. let from = call.last c now in after from.0 c from.1 from.2;
}

-- one call more
pub goes_on : (P : List ℕ → Type 0) {step : List ℕ → List ℕ → Type 0} {old mid new : FlashSeen}
    → LeavesOnly P old mid → ((d c : List ℕ) → left mid d → step d c → P c) → Elapses step mid new → LeavesOnly P old new
goes_on P {step} {old} {mid} {new} run after call = record {
  later = omega (arith, run.later, call.later);
  each = λ c since. elim (call.each old.moment c run.later since) [
    | inl before ↦ run.each c before
    | inr from ↦ after from.0 c from.1 from.2
  ];
  earlier = λ t c le since. elim (call.each t c (omega (arith, le, run.later)) since) [
    | inl before ↦ run.earlier t c le before
    | inr from ↦ inr (after from.0 c from.1 from.2)
  ];
  last = λ c now. let from = call.last c now in after from.0 c from.1 from.2;
}

-- nothing was called
pub stays : (P : List ℕ → Type 0) {seen : FlashSeen} → ((c : List ℕ) → left seen c → P c) → LeavesOnly P seen seen
stays P {seen} here = record { later = omega arith; each = here; earlier = λ t c le now. inl now; last = here }

-- one run after another
pub joined : (P Q R : List ℕ → Type 0) {old mid new : FlashSeen} → ((c : List ℕ) → P c → R c) → ((c : List ℕ) → Q c → R c)
    → LeavesOnly P old mid → LeavesOnly Q mid new → LeavesOnly R old new
joined P Q R {old} {mid} {new} first second run more = record {
  later = omega (arith, run.later, more.later);
  each = λ c since. elim (more.earlier old.moment c run.later since) [
    | inl before ↦ first c (run.each c before)
    | inr now ↦ second c now
  ];
  earlier = λ t c le since. elim (more.earlier t c (omega (arith, le, run.later)) since) [
    | inl before ↦ elim (run.earlier t c le before) [
      | inl long_before ↦ inl long_before
      | inr then ↦ inr (first c then)
    ]
    | inr now ↦ inr (second c now)
  ];
  last = λ c now. second c (more.last c now);
}

-- it leaves less
pub weaker : (P Q : List ℕ → Type 0) {old new : FlashSeen} → ((c : List ℕ) → P c → Q c) → LeavesOnly P old new → LeavesOnly Q old new
weaker P Q {old} {new} to run = record {
  later = run.later;
  each = λ c since. to c (run.each c since);
  earlier = λ t c le since. elim (run.earlier t c le since) [ inl before ↦ inl before | inr now ↦ inr (to c now) ];
  last = λ c now. to c (run.last c now);
}
