-- What a stop leaves while a header's gate is closed or opened, and what is cleared in between.
use Rattle.std.proofs.Common.{◌≡◌, ◌⊎◌, ℕ, ◌+◌, ◌-◌, ◌<◌, ◌≤◌, List, [], ◌∷◌, length, replicate, None, Some, sym, ap, ◌∙◌, subst, inl, inr, arith}
use Rattle.std.proofs.lemmas.Bool.{cases_eq}
use Rattle.std.proofs.lemmas.List.{get_or-replicate, length-replicate}
use Rattle.flash_session.specs.Contents.{byte_at, SameOutside, SameWithin, Put, Follows}
use Rattle.flash_session.specs.Layout.{open_gate, body_at, gates_at, tallies_at}
use Rattle.flash_session.specs.Lies.{Stored, Lies, Fits, NoSession, IsStoredAs, IsCleared, new_stored}
use Rattle.flash_session.proofs.Places.{lies_kept, lies_within, spelled_kept}
use Rattle.flash_session.specs.Seen.{FlashSeen, left, IsKept}

-- a stop that leaves what a read gives leaves it in the range
pub kept_within : (base span : ℕ) (seen : FlashSeen) → IsKept seen → Follows (SameWithin base span) seen.holds (left seen)
kept_within base span seen kept = record { from = λ c now. let from = kept.from c now in (from.0, from.1, record { within = λ i lt. from.2.all (base + i) }) }

-- without a session
pub none_stored : (base span : ℕ) (seen : FlashSeen) → ((b : List ℕ) → seen.holds b → NoSession base b) → IsKept seen → IsStoredAs base span None seen
none_stored base span seen read kept = record { fits = tt; read = read; kept = kept_within base span seen kept }

pub none_left : (base span : ℕ) (seen : FlashSeen) → 0 < span → IsStoredAs base span None seen → (c : List ℕ) → left seen c → NoSession base c
none_left base span seen some stored c now is =
    let from = stored.kept.from c now in
    let same : byte_at c base ≡ byte_at from.0 base = subst (λ (j : ℕ). byte_at c j ≡ byte_at from.0 j) (omega arith) (from.2.within 0 some) in
    stored.read from.0 from.1 (sym same ∙ is)

pub none_behind : (base at n : ℕ) → base < at → (d c : List ℕ) → SameOutside at n d c → NoSession base d → NoSession base c
none_behind base at n behind d c same none is = none (sym (same.below base behind) ∙ is)

-- ---- closing

pub lives_left : (base span : ℕ) (s : Stored) (seen : FlashSeen) → IsStoredAs base span (Some s) seen → (c : List ℕ) → left seen c → Lies base s c
lives_left base span s seen stored c now =
    let from = stored.kept.from c now in
    lies_within base span s stored.fits from.0 c from.2 (stored.read from.0 from.1)

pub closing : (base span : ℕ) (s : Stored) (seen : FlashSeen) → IsStoredAs base span (Some s) seen → (d c : List ℕ) → left seen d → SameOutside base 1 d c → Lies base s c ⊎ NoSession base c
closing base span s seen stored d c now same =
    let before : Lies base s d = lives_left base span s seen stored d now in
    elim (cases_eq (byte_at c base) open_gate) [
      | inr shut ↦ inr shut
      | inl opened ↦ inl (lies_kept base span s stored.fits d c (λ i le lt. elim (cases_eq i base) [
        | inl here ↦ subst (λ (j : ℕ). byte_at c j ≡ byte_at d j) (sym here) (opened ∙ sym before.header)
        | inr other ↦ same.above i (omega (arith, le, other))
      ]) before)
    ]

pub closed_read : (base : ℕ) (holds0 holds : List ℕ → Type 0) → Follows (Put base (0 ∷ [])) holds0 holds → (b : List ℕ) → holds b → NoSession base b
closed_read base holds0 holds written b now is =
    let from = written.from b now in
    let zero_there : byte_at b base ≡ 0 = ap (λ (j : ℕ). byte_at b j) (omega arith) ∙ from.2.inside 0 (omega arith) in
    absurd (omega (arith, zero_there, is))

-- ---- clearing

pub cleared_read : (base n : ℕ) (body : List ℕ) (holds0 holds1 holds : List ℕ → Type 0) → length body ≡ 10 → n ≡ 24576
    → Follows (Put (base + 64) (replicate n 0)) holds0 holds1 → Follows (Put (base + 1) body) holds1 holds → (b : List ℕ) → holds b → IsCleared base body b
cleared_read base n body holds0 holds1 holds sized count filled written b now =
    let from = written.from b now in
    let before = filled.from from.0 from.1 in
    record {
      body_is = record { bytes = from.2.inside };
      gates = λ k lt.
          from.2.outside.above (gates_at base + k) (omega (arith, sized))
          ∙ before.2.inside k (omega (arith, lt, count, length-replicate {A = ℕ} n 0)) ∙ get_or-replicate {A = ℕ} n k 0 0 (omega (arith, lt, count));
    }

-- ---- opening

cleared_lies : (base span : ℕ) (body : List ℕ) (most size : ℕ) → Fits span (new_stored body most size) → (c : List ℕ) → byte_at c base ≡ open_gate → IsCleared base body c → Lies base (new_stored body most size) c
cleared_lies base span body most size fits c header cleared = record {
  header = header;
  body = cleared.body_is;
  gates = record {
    few = omega arith;
    opened = λ k lt. absurd (omega (arith, lt));
    shut = λ k le lt is. absurd (omega (arith, is, cleared.gates k (omega (arith, lt, fits.most))));
  };
  tallies = record {
    few = omega arith;
    opened = λ k lt. absurd (omega (arith, lt));
    shut = λ k le lt is.
        let there : byte_at c (tallies_at base + k) ≡ 0 = ap (λ (j : ℕ). byte_at c j) (omega arith) ∙ cleared.gates (8193 + k) (omega (arith, lt)) in
        absurd (omega (arith, is, there));
  };
  records = tt;
}

-- it does not depend on the header's gate
cleared_kept : (base span : ℕ) (body : List ℕ) → length body ≡ 10 → 24640 ≤ span → (b c : List ℕ) → ((i : ℕ) → base < i → i < base + span → byte_at c i ≡ byte_at b i) → IsCleared base body b → IsCleared base body c
cleared_kept base span body sized long b c same cleared = record {
  body_is = spelled_kept b c (body_at base) body (λ i lt. same (body_at base + i) (omega arith) (omega (arith, lt, sized, long))) cleared.body_is;
  gates = λ k lt. same (gates_at base + k) (omega arith) (omega (arith, lt, long)) ∙ cleared.gates k lt;
}

pub opening : (base span : ℕ) (body : List ℕ) (most size : ℕ) → Fits span (new_stored body most size) → 24640 ≤ span → (seen : FlashSeen)
    → ((b : List ℕ) → seen.holds b → IsCleared base body b) → IsStoredAs base span None seen → (d c : List ℕ) → left seen d → SameOutside base 1 d c
    → NoSession base c ⊎ Lies base (new_stored body most size) c
opening base span body most size fits long seen cleared stored d c now same =
    let from = stored.kept.from d now in
    elim (cases_eq (byte_at c base) open_gate) [
      | inr shut ↦ inl shut
      | inl opened ↦ inr (cleared_lies base span body most size fits c opened
          (cleared_kept base span body fits.body long from.0 c (λ i after lt.
          same.above i (omega (arith, after))
          ∙ subst (λ (j : ℕ). byte_at d j ≡ byte_at from.0 j) (omega (arith, after)) (from.2.within (i - base) (omega (arith, after, lt))))
          (cleared from.0 from.1)))
    ]

pub opened_read : (base span : ℕ) (body : List ℕ) (most size : ℕ) → Fits span (new_stored body most size) → 24640 ≤ span → (holds0 holds : List ℕ → Type 0)
    → ((b : List ℕ) → holds0 b → IsCleared base body b) → Follows (Put base (open_gate ∷ [])) holds0 holds → (c : List ℕ) → holds c → Lies base (new_stored body most size) c
opened_read base span body most size fits long holds0 holds cleared written c now =
    let from = written.from c now in
    let header : byte_at c base ≡ open_gate = ap (λ (j : ℕ). byte_at c j) (omega arith) ∙ from.2.inside 0 (omega arith) in
    cleared_lies base span body most size fits c header
    (cleared_kept base span body fits.body long from.0 c (λ i after lt. from.2.outside.above i (omega (arith, after))) (cleared from.0 from.1))
