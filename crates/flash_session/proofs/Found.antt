-- The records after open gates: which of them is foreign.
use Rattle.std.proofs.Common.{◌≡◌, ◌≢◌, ℕ, ◌+◌, ◌*◌, ◌<◌, ◌≤◌, List, [], ◌∷◌, length, get_or, refl, sym, ap, ◌∙◌, subst, inl, inr, arith}
use Rattle.std.proofs.lemmas.Bool.{cases_lt, cases_eq}
use Rattle.std.proofs.lemmas.Nat.{mul-le}
use Rattle.frag_model.specs.Fragments.{Fragment}
use Rattle.frag_session.specs.declared.setups.SetupReq.{SetupReq}
use Rattle.frag_session.specs.declared.setups.Limits.{Limits}
use Rattle.frag_session.specs.Session.{Session, new_session}
use Rattle.frag_session.specs.Setup.{setup_bits}
use Rattle.flash_session.specs.Contents.{byte_at}
use Rattle.flash_session.specs.Body.{setup_at, setup_in, setup_from}
use Rattle.flash_session.specs.Fronts.{IsFirstStray}
use Rattle.flash_session.specs.HeldSession.{HeldSession, room_in}
use Rattle.flash_session.specs.InRange.{InRange, AllInRange}
use Rattle.flash_session.specs.Layout.{open_gate, gates_at, tallies_at, most_tallies, spelled}
use Rattle.flash_session.specs.Lies.{SpelledAt, RecordsLie, GatesOpen, record_at}
use Rattle.flash_session.specs.Opening as foreign
use Rattle.flash_session.specs.Opening.{IsStray, IsFed, IsForeignRecord, IsForeign, IsFirstForeign, session_there, setup_there, records_of}
use Rattle.flash_session.specs.Replayed.{AllFed, StopsAt, HasHeader}
use Rattle.flash_session.proofs.Fronts.{no_stray, stray_least, stray_is}
use Rattle.flash_session.proofs.Places.{length-spelled}
use Rattle.flash_session.proofs.Unique.{spelled_same, same_spelled, one_list}

-- ---- one record among those that are there

pub record IsAt (s : Session) (c : List ℕ) (base size k : ℕ) : Type 0 where
  pub it : Fragment
  pub older : List Fragment
  pub count : length older ≡ k
  pub lie : RecordsLie c base size older
  pub ranged : AllInRange older
  pub in_range : InRange it
  pub sized : length it.part ≡ size
  pub there : SpelledAt c (record_at base size k) (spelled it)
  pub fed : IsFed s older it

pub at : (s : Session) (c : List ℕ) (base size k : ℕ) (xs : List Fragment) → k < length xs → RecordsLie c base size xs → AllInRange xs → AllFed s xs → IsAt s c base size k
at s c base size k [] lt lie ranged fed = absurd (omega (arith, lt))
at s c base size k (f ∷ older) lt lie ranged fed = elim (cases_eq k (length older)) [
  | inl here ↦ record {
    it = f;
    older = older;
    count = sym here;
    lie = lie.2;
    ranged = ranged.1;
    in_range = ranged.0;
    sized = lie.0;
    there = subst (λ (j : ℕ). SpelledAt c (record_at base size j) (spelled f)) (sym here) lie.1;
    fed = fed.0;
  }
  | inr other ↦ at s c base size k older (omega (arith, lt, other)) lie.2 ranged.1 fed.1
]

-- a record that tells something new is not foreign
pub no_foreign_record : (s : Session) (c : List ℕ) (base most k : ℕ) (xs : List Fragment) → k < length xs → RecordsLie c base s.setup.frag_size xs → AllInRange xs → AllFed s xs
    → IsForeignRecord s c base most k → ⊥
no_foreign_record s c base most k xs lt lie ranged fed r =
    let size : ℕ = s.setup.frag_size in
    let a = at s c base size k xs lt lie ranged fed in
    let older : a.older ≡ r.older = one_list c base size a.older r.older (a.count ∙ sym r.count) a.ranged r.ranged a.lie r.lie in
    let it : a.it ≡ r.next = spelled_same a.it r.next a.in_range r.in_range
    (same_spelled c (record_at base size k) (spelled a.it) (spelled r.next) (omega (arith, length-spelled a.it, length-spelled r.next, a.sized, r.sized)) a.there r.there) in
    r.foreign (subst (λ (f : Fragment). IsFed s r.older f) it (subst (λ (l : List Fragment). IsFed s l a.it) older a.fed))

-- ---- the lowest place

new_size : (limits : Limits) (x : SetupReq) → x.frag_size ≡ (new_session limits x).setup.frag_size
unfolding new_session
new_size limits x = refl

module _ (h : HeldSession) (setup : SetupReq) (c : List ℕ) (head : HasHeader h setup c) (most : 2 * setup.nb_frag + 1 ≤ 8193) where
  abbrev pub M : ℕ
  M = 2 * setup.nb_frag + 1

  most_is : records_of h c ≡ M
  most_is = ap (λ (x : SetupReq). 2 * x.nb_frag + 1) head.setup_is

  no_setup : setup_bits h.limits (room_in h) (setup_there h c) ≢ 0 → ⊥
  no_setup some = some (ap (λ (x : SetupReq). setup_bits h.limits (room_in h) x) head.setup_is ∙ head.fine)

  its_stray : (k : ℕ) → IsStray c (gates_at h.base) (records_of h c) k → IsStray c (gates_at h.base) M k
  its_stray k stray = subst (λ (m : ℕ). IsStray c (gates_at h.base) m k) most_is stray

  its_record : (k : ℕ) → IsForeignRecord (session_there h c) c h.base (records_of h c) k → IsForeignRecord (new_session h.limits setup) c h.base M k
  its_record k r = subst (λ (m : ℕ). IsForeignRecord (new_session h.limits setup) c h.base m k) most_is
      (subst (λ (x : SetupReq). IsForeignRecord (new_session h.limits x) c h.base (records_of h c) k) head.setup_is r)

  size_is : (setup_there h c).frag_size ≡ setup.frag_size
  size_is = ap (λ (x : SetupReq). x.frag_size) head.setup_is

  gate_lowest : (n k : ℕ) → IsFirstStray c (gates_at h.base) M n k → (other : ℕ) → IsForeign h c other → 64 + k ≤ other
  gate_lowest n k first other (foreign.setup e some) = absurd (no_setup some)
  gate_lowest n k first other (foreign.gate j e stray) = omega (arith, e, stray_least c (gates_at h.base) n M k j first (its_stray j stray))
  gate_lowest n k first other (foreign.tally j e stray) = omega (arith, e, first.within, most)
  gate_lowest n k first other (foreign.written j e r) = omega (arith, e, first.within, most)

  pub first_gate : (n k : ℕ) → IsFirstStray c (gates_at h.base) M n k → IsFirstForeign h c (64 + k)
  first_gate n k first = record {
    header = head.header;
    there = foreign.gate k refl (subst (λ (m : ℕ). IsStray c (gates_at h.base) m k) (sym most_is) (stray_is c (gates_at h.base) n M k first));
    lowest = gate_lowest n k first;
  }

  module _ (records : ℕ) (gates : GatesOpen c (gates_at h.base) records M) where
    no_gate : (k : ℕ) → IsStray c (gates_at h.base) (records_of h c) k → ⊥
    no_gate k stray = no_stray c (gates_at h.base) records M k gates (its_stray k stray)

    tally_lowest : (n k : ℕ) → IsFirstStray c (tallies_at h.base) most_tallies n k → (other : ℕ) → IsForeign h c other → 8257 + k ≤ other
    tally_lowest n k first other (foreign.setup e some) = absurd (no_setup some)
    tally_lowest n k first other (foreign.gate j e stray) = absurd (no_gate j stray)
    tally_lowest n k first other (foreign.tally j e stray) = omega (arith, e, stray_least c (tallies_at h.base) n most_tallies k j first stray)
    tally_lowest n k first other (foreign.written j e r) = omega (arith, e, first.within)

    pub first_tally : (n k : ℕ) → IsFirstStray c (tallies_at h.base) most_tallies n k → IsFirstForeign h c (8257 + k)
    first_tally n k first = record {
      header = head.header;
      there = foreign.tally k refl (stray_is c (tallies_at h.base) n most_tallies k first);
      lowest = tally_lowest n k first;
    }

    module _ (t : ℕ) (tallies : GatesOpen c (tallies_at h.base) t most_tallies) where
      -- a foreign record is none of those that tell something new
      not_among : (xs : List Fragment) (j : ℕ) → RecordsLie c h.base setup.frag_size xs → AllInRange xs → AllFed (new_session h.limits setup) xs
          → IsForeignRecord (session_there h c) c h.base (records_of h c) j → length xs ≤ j
      not_among xs j lie ranged fed r = elim (cases_lt j (length xs)) [
        | inr le ↦ le
        | inl lt ↦ absurd (no_foreign_record (new_session h.limits setup) c h.base M j xs lt (subst (λ (z : ℕ). RecordsLie c h.base z xs) (new_size h.limits setup) lie) ranged fed (its_record j r))
      ]

      record_lowest : (k : ℕ) (xs : List Fragment) → length xs ≡ k → RecordsLie c h.base setup.frag_size xs → AllInRange xs → AllFed (new_session h.limits setup) xs
          → (other : ℕ) → IsForeign h c other → 24640 + (10 + setup.frag_size) * k ≤ other
      record_lowest k xs count lie ranged fed other (foreign.setup e some) = absurd (no_setup some)
      record_lowest k xs count lie ranged fed other (foreign.gate j e stray) = absurd (no_gate j stray)
      record_lowest k xs count lie ranged fed other (foreign.tally j e stray) = absurd (no_stray c (tallies_at h.base) t most_tallies j tallies stray)
      record_lowest k xs count lie ranged fed other (foreign.written j e r) =
          let le : k ≤ j = omega (arith, count, not_among xs j lie ranged fed r) in
          let product : (10 + setup.frag_size) * k ≤ (10 + setup.frag_size) * j = mul-le (10 + setup.frag_size) k (10 + setup.frag_size) j (omega arith) le in
          let at_j : other ≡ 24640 + (10 + setup.frag_size) * j = e ∙ ap (λ (z : ℕ). 24640 + (10 + z) * j) size_is in
          omega (arith, product, at_j)

      foreign_there : (holds : List ℕ → Type 0) (k : ℕ) → holds c → k + 1 ≤ records → StopsAt (new_session h.limits setup) holds h.base setup.frag_size k → IsForeignRecord (new_session h.limits setup) c h.base M k
      foreign_there holds k now few stops = record {
        within = omega (arith, few, gates.few);
        used = λ j le. gates.opened j (omega (arith, le, few));
        older = stops.records;
        count = stops.count;
        ranged = stops.ranged;
        lie = subst (λ (z : ℕ). RecordsLie c h.base z stops.records) (new_size h.limits setup) (stops.lie c now);
        next = stops.next;
        in_range = stops.in_range;
        sized = stops.sized ∙ new_size h.limits setup;
        there = subst (λ (z : ℕ). SpelledAt c (record_at h.base z k) (spelled stops.next)) (new_size h.limits setup) (stops.there c now);
        foreign = stops.foreign;
      }

      pub first_record : (holds : List ℕ → Type 0) (k : ℕ) → holds c → k + 1 ≤ records → StopsAt (new_session h.limits setup) holds h.base setup.frag_size k
          → IsFirstForeign h c (24640 + (10 + setup.frag_size) * k)
      first_record holds k now few stops = record {
        header = head.header;
        there = foreign.written k (ap (λ (z : ℕ). 24640 + (10 + z) * k) (sym size_is))
            (subst (λ (m : ℕ). IsForeignRecord (session_there h c) c h.base m k) (sym most_is)
            (subst (λ (x : SetupReq). IsForeignRecord (new_session h.limits x) c h.base M k) (sym head.setup_is) (foreign_there holds k now few stops)));
        lowest = record_lowest k stops.records stops.count (stops.lie c now) stops.ranged stops.fed;
      }

      -- where all records tell something new, nothing is foreign
      pub nothing_foreign : (xs : List Fragment) → length xs ≡ records → RecordsLie c h.base setup.frag_size xs → AllInRange xs → AllFed (new_session h.limits setup) xs
          → (other : ℕ) → IsForeign h c other → ⊥
      nothing_foreign xs count lie ranged fed other (foreign.setup e some) = no_setup some
      nothing_foreign xs count lie ranged fed other (foreign.gate j e stray) = no_gate j stray
      nothing_foreign xs count lie ranged fed other (foreign.tally j e stray) = no_stray c (tallies_at h.base) t most_tallies j tallies stray
      nothing_foreign xs count lie ranged fed other (foreign.written j e r) =
          let le : records ≤ j = omega (arith, count, not_among xs j lie ranged fed r) in
          let its = its_record j r in
          gates.shut j le its.within (its.used j (omega arith))

-- ---- for the calls that find it

pub no_heard : (limits : Limits) (x : SetupReq) → (new_session limits x).heard ≡ []
unfolding new_session
no_heard limits x = refl

-- the setup is what its body is read as
pub setup_read : (c : List ℕ) (at : ℕ) (body : List ℕ) → length body ≡ 10 → SpelledAt c at body → setup_at c at ≡ setup_in body
setup_read c at body sized lies =
    let b : (i : ℕ) → i < 10 → byte_at c (at + i) ≡ get_or body i 0 = λ (i : ℕ) (lt : i < 10). lies.bytes i (omega (arith, lt, sized)) in
    λ i. setup_from (b 0 (omega arith) i) (b 1 (omega arith) i) (b 2 (omega arith) i) (b 3 (omega arith) i) (b 4 (omega arith) i)
    (b 5 (omega arith) i) (b 6 (omega arith) i) (b 7 (omega arith) i) (b 8 (omega arith) i) (b 9 (omega arith) i)

-- a setup that is refused is the lowest foreign place
pub first_setup : (h : HeldSession) (c : List ℕ) → byte_at c h.base ≡ open_gate → setup_bits h.limits (room_in h) (setup_there h c) ≢ 0 → IsFirstForeign h c 1
first_setup h c header some = record {
  header = header;
  there = foreign.setup refl some;
  lowest = λ other f. least other f;
}
  where
    least : (other : ℕ) → IsForeign h c other → 1 ≤ other
    least other (foreign.setup e some) = omega (arith, e)
    least other (foreign.gate k e stray) = omega (arith, e)
    least other (foreign.tally k e stray) = omega (arith, e)
    least other (foreign.written k e r) = omega (arith, e)
