-- How runs of calls go on, one after the other.
use Rattle.std.proofs.Common.{ℕ, ◌+◌, ◌≤◌, List, length, inl, inr, refl, ◌∙◌, arith}
use Rattle.flash_session.specs.Contents.{SameOutside, Same, Put, Follows}
use Rattle.flash_session.specs.Moments.{Elapses}
use Rattle.flash_session.specs.Seen.{FlashSeen, left}

-- nothing was called
pub no_call : {step : List ℕ → List ℕ → Type 0} {seen : FlashSeen} → ((c : List ℕ) → step c c) → Elapses step seen seen
no_call {step} {seen} stays = record {
  later = omega arith;
  each = λ t c le now. inl now;
  last = λ c now. (c, now, stays c);
}

-- one run after another
pub one_more : {first second both : List ℕ → List ℕ → Type 0} {old mid new : FlashSeen}
    → ((c d : List ℕ) → first c d → both c d) → ((c d e : List ℕ) → first c d → second d e → both c e)
    → Elapses first old mid → Elapses second mid new → Elapses both old new
one_more {first} {second} {both} {old} {mid} {new} alone joined run call =
    let later : old.moment ≤ new.moment = omega (arith, run.later, call.later) in
    let behind : (d e : List ℕ) → left mid d → second d e → (c : List ℕ) × left old c × both c e =
    λ (d : List ℕ) (e : List ℕ) (now : left mid d) (goes : second d e). let from = run.last d now in (from.0, from.1, joined from.0 d e from.2 goes) in
    record {
      later = later;
      each = λ t c le now. elim (call.each t c (omega (arith, le, run.later)) now) [
        | inl before ↦ elim (run.each t c le before) [
          | inl earlier ↦ inl earlier
          | inr from ↦ inr (from.0, from.1, alone from.0 c from.2)
        ]
        | inr from ↦ inr (behind from.0 c from.1 from.2)
      ];
      last = λ c now. let from = call.last c now in behind from.0 c from.1 from.2;
    }

pub follows_joined : {first second both : List ℕ → List ℕ → Type 0} {a b c : List ℕ → Type 0} → ((x y z : List ℕ) → first x y → second y z → both x z)
    → Follows first a b → Follows second b c → Follows both a c
follows_joined {first} {second} {both} {a} {b} {c} joined one two = record {
  from = λ z now.
      let y = two.from z now in
      let x = one.from y.0 y.1 in
      (x.0, x.1, joined x.0 y.0 z x.2 y.2);
}

-- ---- places

pub outside_stays : (at n : ℕ) (c : List ℕ) → SameOutside at n c c
outside_stays at n c = record { below = λ i lt. refl; above = λ i le. refl }

-- less is changed
pub outside_wider : (at n at2 n2 : ℕ) (c d : List ℕ) → at2 ≤ at → at + n ≤ at2 + n2 → SameOutside at n c d → SameOutside at2 n2 c d
outside_wider at n at2 n2 c d le within same = record {
  below = λ i lt. same.below i (omega (arith, lt, le));
  above = λ i past. same.above i (omega (arith, past, within));
}

pub outside_joined : (at n : ℕ) (c d e : List ℕ) → SameOutside at n c d → SameOutside at n d e → SameOutside at n c e
outside_joined at n c d e one two = record {
  below = λ i lt. two.below i lt ∙ one.below i lt;
  above = λ i le. two.above i le ∙ one.above i le;
}

pub same_after : (c d e : List ℕ) → Same c d → Same d e → Same c e
same_after c d e one two = record { all = λ i. two.all i ∙ one.all i }

pub same_stays : (c : List ℕ) → Same c c
same_stays c = record { all = λ i. refl }

pub same_outside : (at n : ℕ) (c d : List ℕ) → Same c d → SameOutside at n c d
same_outside at n c d same = record { below = λ i lt. same.all i; above = λ i le. same.all i }

pub put_same : (at : ℕ) (piece c d e : List ℕ) → Put at piece c d → Same d e → Put at piece c e
put_same at piece c d e put same = record {
  outside = outside_joined at (length piece) c d e put.outside (same_outside at (length piece) d e same);
  inside = λ i lt. same.all (at + i) ∙ put.inside i lt;
}
