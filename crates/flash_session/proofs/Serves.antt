-- What calls keep of a flash, one after the other, and with another answer.
use Rattle.std.proofs.Common.{◌≡◌, ℕ, List, Result, Ok, Err, OnOk, IfOk, IfErr, ◌+◌, ◌≤◌, refl, inl, inr, ◌∙◌, arith}
use Rattle.flash_session.specs.Contents.{Same, SameOutside, Follows, HasRisen}
use Rattle.flash_session.specs.declared.fault.OpenFault.{OpenFault}
use Rattle.flash_session.specs.declared.fault.OpenFault.TheVariants as why
use Rattle.flash_session.specs.Moments.{Elapses}
use Rattle.flash_session.specs.Seen.{FlashSeen, IsKept}
use Rattle.flash_session.specs.Serving.{FlashServes, FlashOpens}
use Rattle.flash_session.proofs.Runs.{no_call, one_more, follows_joined, same_after, outside_joined, outside_wider}
use Rattle.flash_session.proofs.Still.{cause_behind, on_err_any, same_joined, elapsed}

-- ---- another answer

pub serves_ok : {T E Other OtherError : Type 0} {step : List ℕ → List ℕ → Type 0} {old new : FlashSeen} {r : Result T E} {x : Other} → FlashServes step old new r → FlashServes {T = Other} {E = OtherError} step old new (Ok x)
serves_ok {T} {E} {Other} {OtherError} {step} {old} {new} {r} {x} s = record {
  held = s.held;
  stops = s.stops;
  size = s.size;
  cause = record { later = s.cause.later; failed = tt };
  torn = tt;
}

pub serves_failed : {T E Other OtherError : Type 0} {step : List ℕ → List ℕ → Type 0} {old new : FlashSeen} {e : E} (q : Result Other OtherError) → FlashServes {T = T} {E = E} step old new (Err e) → FlashServes step old new q
serves_failed {T} {E} {Other} {OtherError} {step} {old} {new} {e} q s = record {
  held = s.held;
  stops = s.stops;
  size = s.size;
  cause = record { later = s.cause.later; failed = on_err_any s.cause.failed q };
  torn = on_err_any s.torn q;
}

-- ---- none, and one after the other

pub serves_none : {T E : Type 0} {step : List ℕ → List ℕ → Type 0} {seen : FlashSeen} {x : T} → ((c : List ℕ) → step c c) → FlashServes {T = T} {E = E} step seen seen (Ok x)
serves_none {T} {E} {step} {seen} {x} stays = record {
  held = record { from = λ c now. (c, now, stays c) };
  stops = no_call stays;
  size = refl;
  cause = record { later = omega arith; failed = tt };
  torn = tt;
}

pub serves_joined : {T E Next NextError : Type 0} {step : List ℕ → List ℕ → Type 0} {old mid new : FlashSeen} {r : Result T E} {q : Result Next NextError} → ((c d e : List ℕ) → step c d → step d e → step c e)
    → FlashServes step old mid r → FlashServes step mid new q → FlashServes step old new q
serves_joined {T} {E} {Next} {NextError} {step} {old} {mid} {new} {r} {q} joined one two = record {
  held = follows_joined joined one.held two.held;
  stops = one_more (λ c d s. s) joined one.stops two.stops;
  size = two.size ∙ one.size;
  cause = cause_behind q one.cause.later two.cause;
  torn = two.torn;
}

pub serves_wider : {T E : Type 0} {first both : List ℕ → List ℕ → Type 0} {old new : FlashSeen} {r : Result T E} → ((c d : List ℕ) → first c d → both c d) → FlashServes first old new r → FlashServes both old new r
serves_wider {T} {E} {first} {both} {old} {new} {r} wider s = record {
  held = record { from = λ c now. let from = s.held.from c now in (from.0, from.1, wider from.0 c from.2) };
  stops = record {
    later = s.stops.later;
    each = λ t c le now. elim (s.stops.each t c le now) [ inl before ↦ inl before | inr from ↦ inr (from.0, from.1, wider from.0 c from.2) ];
    last = λ c now. let from = s.stops.last c now in (from.0, from.1, wider from.0 c from.2);
  };
  size = s.size;
  cause = s.cause;
  torn = s.torn;
}

-- in a range
pub in_range : {T E : Type 0} {old new : FlashSeen} {r : Result T E} (at n at2 n2 : ℕ) → at2 ≤ at → at + n ≤ at2 + n2 → FlashServes (SameOutside at n) old new r → FlashServes (SameOutside at2 n2) old new r
in_range {T} {E} {old} {new} {r} at n at2 n2 le within s = serves_wider (λ c d. outside_wider at n at2 n2 c d le within) s

pub range_joined : {T E Next NextError : Type 0} {old mid new : FlashSeen} {r : Result T E} {q : Result Next NextError} (at n : ℕ)
    → FlashServes (SameOutside at n) old mid r → FlashServes (SameOutside at n) mid new q → FlashServes (SameOutside at n) old new q
range_joined {T} {E} {Next} {NextError} {old} {mid} {new} {r} {q} at n one two = serves_joined (λ c d e. outside_joined at n c d e) one two

pub reads_joined : {T E Next NextError : Type 0} {old mid new : FlashSeen} {r : Result T E} {q : Result Next NextError} → FlashServes Same old mid r → FlashServes Same mid new q → FlashServes Same old new q
reads_joined {T} {E} {Next} {NextError} {old} {mid} {new} {r} {q} one two = serves_joined same_after one two

-- ---- what is opened

-- a run of reads
pub record IsRead (old new : FlashSeen) : Type 0 where
  pub held : Follows Same old.holds new.holds
  pub stops : Elapses Same old new
  pub size : new.room ≡ old.room
  pub later : old.faults ≤ new.faults

pub is_read : {T E : Type 0} {old new : FlashSeen} {r : Result T E} → FlashServes Same old new r → IsRead old new
is_read {T} {E} {old} {new} {r} serves = record { held = serves.held; stops = serves.stops; size = serves.size; later = serves.cause.later }

pub is_opened : {T E : Type 0} {f : E → OpenFault} {finds : T → FlashSeen → Type 0} {names : List ℕ → ℕ → Type 0} {old new : FlashSeen} {r : Result T E} → FlashOpens f finds names old new r → IsRead old new
is_opened {T} {E} {f} {finds} {names} {old} {new} {r} opens = record { held = opens.held; stops = opens.stops; size = opens.size; later = opens.later }

pub read_joined : {old mid new : FlashSeen} → IsRead old mid → IsRead mid new → IsRead old new
read_joined {old} {mid} {new} one two = record {
  held = same_joined one.held two.held;
  stops = elapsed one.stops two.stops;
  size = two.size ∙ one.size;
  later = omega (arith, one.later, two.later);
}

pub opens_from : {T E : Type 0} {f : E → OpenFault} {finds : T → FlashSeen → Type 0} {names : List ℕ → ℕ → Type 0} {old new : FlashSeen} {r : Result T E}
    → IsRead old new → IfOk r (λ x. finds x new) → IfErr r (λ e. (p : ℕ) → f e ≡ why.Foreign p → (b : List ℕ) → new.holds b → names b p)
    → IfErr r (λ e. f e ≡ why.Flash → HasRisen old.faults new.faults) → (IsKept old → OnOk r (IsKept new)) → FlashOpens f finds names old new r
opens_from {T} {E} {f} {finds} {names} {old} {new} {r} read found foreign fault kept = record {
  found = found;
  foreign = foreign;
  kept = kept;
  held = read.held;
  stops = read.stops;
  size = read.size;
  later = read.later;
  fault = fault;
}

pub opens_at : {T E Outer OuterError : Type 0} {f : OuterError → OpenFault} {finds : Outer → FlashSeen → Type 0} {names : List ℕ → ℕ → Type 0} {old new : FlashSeen} {r : Result T E} {q : Result Outer OuterError}
    → FlashServes Same old new r → IfOk q (λ x. finds x new) → IfErr q (λ e. (p : ℕ) → f e ≡ why.Foreign p → (b : List ℕ) → new.holds b → names b p)
    → IfErr q (λ e. f e ≡ why.Flash → HasRisen old.faults new.faults) → (IsKept old → OnOk q (IsKept new)) → FlashOpens f finds names old new q
opens_at {T} {E} {Outer} {OuterError} {f} {finds} {names} {old} {new} {r} {q} serves = opens_from (is_read serves)

pub opens_by : {T E Inner InnerError Outer OuterError : Type 0} {g : InnerError → OpenFault} {f : OuterError → OpenFault} {goes : Inner → FlashSeen → Type 0} {says : List ℕ → ℕ → Type 0} {finds : Outer → FlashSeen → Type 0} {names : List ℕ → ℕ → Type 0}
    {old mid new : FlashSeen} {r : Result T E} {p : Result Inner InnerError} {q : Result Outer OuterError}
    → FlashServes Same old mid r → FlashOpens g goes says mid new p → IfOk q (λ x. finds x new) → IfErr q (λ e. (p : ℕ) → f e ≡ why.Foreign p → (b : List ℕ) → new.holds b → names b p)
    → IfErr q (λ e. f e ≡ why.Flash → HasRisen old.faults new.faults) → (IsKept old → OnOk q (IsKept new)) → FlashOpens f finds names old new q
opens_by {T} {E} {Inner} {InnerError} {Outer} {OuterError} {g} {f} {goes} {says} {finds} {names} {old} {mid} {new} {r} {p} {q} serves opens = opens_from (read_joined (is_read serves) (is_opened opens))
