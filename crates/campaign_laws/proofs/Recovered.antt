-- What is recovered of a device is its own.
use Rattle.std.proofs.Common.{◌≡◌, ◌+◌, ◌-◌, ◌==◌, false, List, [], ◌∷◌, ◌++◌, length, slice_get, Some, refl, ap, arith}
use Rattle.wire_base.specs.Numbered.{numbered}
use Rattle.campaign_world.specs.Recovery.{recovery_by, recovery}
use Rattle.campaign_laws.specs.Recovers.{RecoversItsOwn}

there : {A : Type 0} (before behind : List A) (x : A) → slice_get (before ++ x ∷ behind) (length before) ≡ Some x
there [] behind x = refl
there (y ∷ before) behind x = there before behind x

placed : {A : Type 0} (before behind : List A) (x : A) → numbered (before ++ x ∷ behind) (length before + 1) ≡ Some x
placed before behind x =
    let behind_first : ((length before + 1) == 0) ≡ false = grind arith in
    let place : length before + 1 - 1 ≡ length before = omega arith in
    rw (behind_first, place) (there before behind x)

pub recovers_own : RecoversItsOwn
unfolding recovery
recovers_own = record {
  own = λ world before behind device is. rw is (ap recovery_by (placed before behind device));
  nothing = λ world id none. ap recovery_by none;
}
