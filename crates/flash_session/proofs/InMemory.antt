-- A flash in memory after a call.
use Rattle.std.proofs.Common.{◌≡◌, ℕ, ◌+◌, ◌≤◌, List, length, Result, Ok, Err, refl, sym, ap, subst, ◌∙◌, arith}
use Rattle.std.proofs.lemmas.List.{drop_all}
use Rattle.flash_session.specs.declared.log.Step.{Step}
use Rattle.flash_session.specs.Contents.{byte_at, Same, Follows, HasRisen, HasCause}
use Rattle.flash_session.specs.Moments.{Elapses}
use Rattle.flash_session.specs.Log.{was, seen_in}
use Rattle.flash_session.specs.Seen.{left}
use Rattle.flash_session.specs.Serving.{FlashServes}
use Rattle.flash_session.proofs.Runs.{no_call, same_stays}

-- what holds for stops holds for any count of faults
pub whatever_faults : {step : List ℕ → List ℕ → Type 0} {log later : List Step} {old new : List ℕ} {f g : ℕ} → Elapses step (seen_in log old 0) (seen_in later new 0) → Elapses step (seen_in log old f) (seen_in later new g)
whatever_faults {step} {log} {later} {old} {new} {f} {g} e = record { later = e.later; each = e.each; last = e.last }

pub holds_after : {step : List ℕ → List ℕ → Type 0} {old before after new : List ℕ} → before ≡ old → new ≡ after → step before after → Follows step (λ c. c ≡ old) (λ c. c ≡ new)
holds_after {step} {old} {before} {after} {new} was is call = record {
  from = λ c now. (old, refl, subst (λ (b : List ℕ). step b c) was (subst (step before) (sym (now ∙ is)) call));
}

-- a call wrote a list of bytes over its own
pub wrote : {T E : Type 0} {x : T} {step : List ℕ → List ℕ → Type 0} {log later : List Step} {old before after new : List ℕ} {f g : ℕ} → before ≡ old → new ≡ after → step before after
    → length new ≡ length old → f ≤ g → Elapses step (seen_in log before 0) (seen_in later after 0)
    → FlashServes {T = T} {E = E} step (seen_in log old f) (seen_in later new g) (Ok x)
wrote {T} {E} {x} {step} {log} {later} {old} {before} {after} {new} {f} {g} was is call sized count stops = record {
  held = holds_after was is call;
  stops = whatever_faults (subst (λ (b : List ℕ). Elapses step (seen_in log b 0) (seen_in later new 0)) was
      (subst (λ (a : List ℕ). Elapses step (seen_in log before 0) (seen_in later a 0)) (sym is) stops));
  size = sized;
  cause = record { later = count; failed = tt };
  torn = tt;
}

-- a stop now might leave what a read gives
pub read_is_left : (log : List Step) (bytes : List ℕ) (f : ℕ) → Follows Same (left (seen_in log bytes f)) (λ c. c ≡ bytes)
read_is_left log bytes f = record {
  from = λ c now. (
    bytes,
    record {
      moment = length log;
      since = omega arith;
      until = omega arith;
      left = record { sized = refl; firm = λ i firm. sym (ap (λ (l : List Step). was l i (byte_at bytes i)) (drop_all (length log) log (omega arith))) };
    },
    record { all = λ i. ap (λ (l : List ℕ). byte_at l i) now },
  );
}

-- a call failed
pub refused : {T E : Type 0} {e : E} {step : List ℕ → List ℕ → Type 0} {log : List Step} {bytes : List ℕ} {f g : ℕ} → ((c : List ℕ) → step c c) → f ≤ g → HasRisen f g
    → FlashServes {T = T} {E = E} step (seen_in log bytes f) (seen_in log bytes g) (Err e)
refused {T} {E} {e} {step} {log} {bytes} {f} {g} stays count risen = record {
  held = record { from = λ c now. (c, now, stays c) };
  stops = whatever_faults (no_call stays);
  size = refl;
  cause = record { later = count; failed = risen };
  torn = read_is_left log bytes g;
}

-- a call wrote nothing
pub read_on : {T E : Type 0} {x : T} {log : List Step} {bytes : List ℕ} {f g : ℕ} → f ≤ g → FlashServes {T = T} {E = E} Same (seen_in log bytes f) (seen_in log bytes g) (Ok x)
read_on {T} {E} {x} {log} {bytes} {f} {g} count = record {
  held = record { from = λ c now. (c, now, same_stays c) };
  stops = whatever_faults (no_call same_stays);
  size = refl;
  cause = record { later = count; failed = tt };
  torn = tt;
}

-- the same where other calls failed too
pub beside : {T E : Type 0} {r : Result T E} {step : List ℕ → List ℕ → Type 0} {log later : List Step} {old new : List ℕ} {f g n m : ℕ} → m ≡ n
    → FlashServes step (seen_in log old f) (seen_in later new g) r → FlashServes step (seen_in log old (f + n)) (seen_in later new (g + m)) r
beside {T} {E} {r} {step} {log} {later} {old} {new} {f} {g} {n} {m} same s = record {
  held = s.held;
  stops = record { later = s.stops.later; each = s.stops.each; last = s.stops.last };
  size = s.size;
  cause = more r s.cause;
  torn = s.torn;
}
  where
    more : (r : Result T E) → HasCause f g r → HasCause (f + n) (g + m) r
    more (Ok x) cause = record { later = omega (arith, same, cause.later); failed = tt }
    more (Err e) cause = record { later = omega (arith, same, cause.later); failed = omega (arith, same, cause.failed) }

-- all was synced
pub synced : {T E : Type 0} {x : T} {log later : List Step} {bytes : List ℕ} {f g : ℕ} → f ≤ g → Elapses Same (seen_in log bytes 0) (seen_in later bytes 0)
    → FlashServes {T = T} {E = E} Same (seen_in log bytes f) (seen_in later bytes g) (Ok x)
synced {T} {E} {x} {log} {later} {bytes} {f} {g} count stops = record {
  held = record { from = λ c now. (c, now, same_stays c) };
  stops = whatever_faults stops;
  size = refl;
  cause = record { later = count; failed = tt };
  torn = tt;
}
