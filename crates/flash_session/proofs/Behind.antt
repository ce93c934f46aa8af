-- A record and then its gate, each written and synced.
use Rattle.std.proofs.Common.{◌⊎◌, inl, inr, ◌≡◌, ℕ, ◌+◌, ◌<◌, List, [], ◌∷◌, length, ap, ◌∙◌, subst, arith}
use Rattle.frag_model.specs.Fragments.{Fragment}
use Rattle.flash_session.specs.Contents.{byte_at, SameOutside, Same, Put, Follows}
use Rattle.flash_session.specs.Layout.{open_gate, gates_at, tallies_at, most_tallies, spelled}
use Rattle.flash_session.specs.Lies.{Stored, SpelledAt, record_at, Lies, Fits, with_record, with_tally, IsStored}
use Rattle.flash_session.proofs.Places.{lies_within, lies_behind, gate_torn, tally_torn}
use Rattle.flash_session.specs.Seen.{FlashSeen, left, IsKept}

-- the same everywhere, and then outside of some places
pub outside_same : (at n : ℕ) (b d c : List ℕ) → Same b d → SameOutside at n d c → SameOutside at n b c
outside_same at n b d c same out = record {
  below = λ i lt. out.below i lt ∙ same.all i;
  above = λ i le. out.above i le ∙ same.all i;
}

module _ (base span : ℕ) (s : Stored) (f : Fragment) (piece : List ℕ) (is : piece ≡ spelled f) (room : length s.records < s.most) (sized : length f.part ≡ s.size)
    (seen0 : FlashSeen) (stored : IsStored base span s seen0) where
  at : ℕ
  at = record_at base s.size (length s.records)

  -- what a stop leaves before the call
  pub lies_before : (c : List ℕ) → left seen0 c → Lies base s c
  lies_before c left =
      let from = stored.kept.from c left in
      lies_within base span s stored.fits from.0 c from.2 (stored.read from.0 from.1)

  -- and while the record is written
  pub lies_during : (place : ℕ) → place ≡ record_at base s.size (length s.records) → (d c : List ℕ) → left seen0 d → SameOutside place (length piece) d c → Lies base s c
  lies_during place here d c left out =
      lies_behind base span s stored.fits d c (length piece) (subst (λ (j : ℕ). SameOutside j (length piece) d c) here out) (lies_before d left)

  module _ (seen1 : FlashSeen) (place : ℕ) (here : place ≡ record_at base s.size (length s.records)) (written : Follows (Put place piece) seen0.holds seen1.holds) where
    -- a read gives the session and, after it, the record
    pub record_read : (b : List ℕ) → seen1.holds b → Lies base s b × SpelledAt b (record_at base s.size (length s.records)) (spelled f)
    record_read b holds =
        let from = written.from b holds in
        let put : Put (record_at base s.size (length s.records)) piece from.0 b = subst (λ (j : ℕ). Put j piece from.0 b) here from.2 in (
          lies_behind base span s stored.fits from.0 b (length piece) put.outside (stored.read from.0 from.1),
          subst (λ (l : List ℕ). SpelledAt b (record_at base s.size (length s.records)) l) is (record { bytes = put.inside }),
        )

    -- while the gate is written
    pub gate_during : IsKept seen1 → (gate : ℕ) → gate ≡ gates_at base + length s.records
        → (d c : List ℕ) → left seen1 d → SameOutside gate 1 d c → Lies base s c ⊎ Lies base (with_record s f) c
    gate_during kept gate there d c left out =
        let from = kept.from d left in
        let lies = record_read from.0 from.1 in
        gate_torn base span s stored.fits f from.0 c room sized lies.0 lies.1
        (subst (λ (j : ℕ). SameOutside j 1 from.0 c) there (outside_same gate 1 from.0 d c from.2 out))

    -- and when it is open
    pub gate_read : (holds2 : List ℕ → Type 0) (gate : ℕ) → gate ≡ gates_at base + length s.records → Follows (Put gate (open_gate ∷ [])) seen1.holds holds2
        → (c : List ℕ) → holds2 c → Lies base (with_record s f) c
    gate_read holds2 gate there opened c holds =
        let from = opened.from c holds in
        let put : Put (gates_at base + length s.records) (open_gate ∷ []) from.0 c = subst (λ (j : ℕ). Put j (open_gate ∷ []) from.0 c) there from.2 in
        let lies = record_read from.0 from.1 in
        let is_open : byte_at c (gates_at base + length s.records) ≡ open_gate =
        ap (λ (j : ℕ). byte_at c j) (omega arith) ∙ put.inside 0 (omega arith) in
        elim (gate_torn base span s stored.fits f from.0 c room sized lies.0 lies.1 put.outside) [
          | inl shut ↦ absurd (shut.gates.shut (length s.records) (omega arith) room is_open)
          | inr after ↦ after
        ]

-- the session with the record is stored
pub stored_after : (base span : ℕ) (s : Stored) (f : Fragment) (seen : FlashSeen) → Fits span s → ((c : List ℕ) → seen.holds c → Lies base (with_record s f) c) → IsKept seen
    → IsStored base span (with_record s f) seen
unfolding with_record
stored_after base span s f seen fits read kept = record {
  fits = record { body = fits.body; most = fits.most; room = fits.room };
  read = read;
  kept = record { from = λ c left_now. let from = kept.from c left_now in (from.0, from.1, record { within = λ i lt. from.2.all (base + i) }) };
}

-- ---- a tally

module _ (base span : ℕ) (s : Stored) (room : s.tallies < most_tallies) (seen0 : FlashSeen) (stored : IsStored base span s seen0) where
  tally_before : (c : List ℕ) → left seen0 c → Lies base s c
  tally_before c left =
      let from = stored.kept.from c left in
      lies_within base span s stored.fits from.0 c from.2 (stored.read from.0 from.1)

  pub tally_left : (c : List ℕ) → left seen0 c → Lies base s c ⊎ Lies base (with_tally s) c
  tally_left c left = inl (tally_before c left)

  pub tally_during : (gate : ℕ) → gate ≡ tallies_at base + s.tallies → (d c : List ℕ) → left seen0 d → SameOutside gate 1 d c → Lies base s c ⊎ Lies base (with_tally s) c
  tally_during gate there d c left out =
      tally_torn base span s stored.fits d c room (tally_before d left) (subst (λ (j : ℕ). SameOutside j 1 d c) there out)

  pub tally_read : (holds : List ℕ → Type 0) (gate : ℕ) → gate ≡ tallies_at base + s.tallies → Follows (Put gate (open_gate ∷ [])) seen0.holds holds → (c : List ℕ) → holds c → Lies base (with_tally s) c
  tally_read holds gate there opened c now =
      let from = opened.from c now in
      let put : Put (tallies_at base + s.tallies) (open_gate ∷ []) from.0 c = subst (λ (j : ℕ). Put j (open_gate ∷ []) from.0 c) there from.2 in
      let is_open : byte_at c (tallies_at base + s.tallies) ≡ open_gate =
      ap (λ (j : ℕ). byte_at c j) (omega arith) ∙ put.inside 0 (omega arith) in
      elim (tally_torn base span s stored.fits from.0 c room (stored.read from.0 from.1) put.outside) [
        | inl shut ↦ absurd (shut.tallies.shut s.tallies (omega arith) room is_open)
        | inr after ↦ after
      ]

pub tallied_after : (base span : ℕ) (s : Stored) (seen : FlashSeen) → Fits span s → ((c : List ℕ) → seen.holds c → Lies base (with_tally s) c) → IsKept seen
    → IsStored base span (with_tally s) seen
unfolding with_tally
tallied_after base span s seen fits read kept = record {
  fits = record { body = fits.body; most = fits.most; room = fits.room };
  read = read;
  kept = record { from = λ c left_now. let from = kept.from c left_now in (from.0, from.1, record { within = λ i lt. from.2.all (base + i) }) };
}
