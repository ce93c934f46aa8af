-- What a change of some places leaves of the session in a range.
use Rattle.std.proofs.Common.{◌≡◌, ◌≢◌, ◌⊎◌, ℕ, suc, ◌+◌, ◌-◌, ◌*◌, ◌<◌, ◌≤◌, List, [], ◌∷◌, ◌++◌, length, sym, ◌∙◌, subst, inl, inr, arith, length-append, w16, w64}
use Rattle.std.proofs.lemmas.Bool.{cases_eq, cases_lt}
use Rattle.std.proofs.lemmas.Nat.{mul-le}
use Rattle.std.specs.Int.{to_le_bytes}
use Rattle.frag_model.specs.Fragments.{Fragment}
use Rattle.flash_session.specs.Contents.{byte_at, SameOutside, SameWithin}
use Rattle.flash_session.specs.Layout.{open_gate, body_at, gates_at, tallies_at, most_tallies, records_at, spelled}
use Rattle.flash_session.specs.Lies.{Stored, SpelledAt, GatesOpen, record_at, RecordsLie, Lies, Fits, with_record, with_tally}

-- bytes that stay are still there
pub spelled_kept : (c d : List ℕ) (at : ℕ) (piece : List ℕ) → ((i : ℕ) → i < length piece → byte_at d (at + i) ≡ byte_at c (at + i)) → SpelledAt c at piece → SpelledAt d at piece
spelled_kept c d at piece same lies = record { bytes = λ i lt. same i lt ∙ lies.bytes i lt }

pub gates_kept : (c d : List ℕ) (at n most : ℕ) → ((i : ℕ) → i < most → byte_at d (at + i) ≡ byte_at c (at + i)) → GatesOpen c at n most → GatesOpen d at n most
gates_kept c d at n most same gates = record {
  few = gates.few;
  opened = λ k lt. same k (omega (arith, lt, gates.few)) ∙ gates.opened k lt;
  shut = λ k le lt is. gates.shut k le lt (sym (same k lt) ∙ is);
}

-- the gate after those that are open has any byte: as many are open as before, or one more
gates_torn : (c d : List ℕ) (at n most more : ℕ) → more ≡ n + 1 → n < most → SameOutside (at + n) 1 c d → GatesOpen c at n most → GatesOpen d at n most ⊎ GatesOpen d at more most
gates_torn c d at n most more is room same gates =
    let others : (k : ℕ) → k ≢ n → byte_at d (at + k) ≡ byte_at c (at + k) = λ (k : ℕ) (other : k ≢ n).
    elim (cases_lt k n) [
      | inl lt ↦ same.below (at + k) (omega (arith, lt))
      | inr le ↦ same.above (at + k) (omega (arith, le, other))
    ] in
    elim (cases_eq (byte_at d (at + n)) open_gate) [
      | inl opened ↦ inr (record {
        few = omega (arith, is, room);
        opened = λ k lt. elim (cases_eq k n) [
          | inl here ↦ subst (λ (j : ℕ). byte_at d (at + j) ≡ open_gate) (sym here) opened
          | inr other ↦ others k other ∙ gates.opened k (omega (arith, is, lt, other))
        ];
        shut = λ k le lt stray. gates.shut k (omega (arith, is, le)) lt (sym (others k (λ here. omega (arith, is, here, le))) ∙ stray);
      })
      | inr shut ↦ inl (record {
        few = gates.few;
        opened = λ k lt. others k (λ here. omega (arith, here, lt)) ∙ gates.opened k lt;
        shut = λ k le lt. elim (cases_eq k n) [
          | inl here ↦ subst (λ (j : ℕ). byte_at d (at + j) ≢ open_gate) (sym here) shut
          | inr other ↦ λ stray. gates.shut k le lt (sym (others k other) ∙ stray)
        ];
      })
    ]

pub length-spelled : (f : Fragment) → length (spelled f) ≡ 10 + length f.part
unfolding spelled
length-spelled f = omega (arith, length-append (to_le_bytes w16 f.number ++ to_le_bytes w64 f.mark) f.part, length-append (to_le_bytes w16 f.number) (to_le_bytes w64 f.mark))

-- the records end before the place of the next
pub records_kept : (c d : List ℕ) (base size : ℕ) (fs : List Fragment)
    → ((i : ℕ) → records_at base ≤ i → i < record_at base size (length fs) → byte_at d i ≡ byte_at c i)
    → RecordsLie c base size fs → RecordsLie d base size fs
records_kept c d base size [] same lie = tt
records_kept c d base size (f ∷ older) same lie =
    let sized : length f.part ≡ size = lie.0 in
    let next : (10 + size) * suc (length older) ≡ (10 + size) * length older + (10 + size) = omega arith in (
      sized,
      spelled_kept c d (record_at base size (length older)) (spelled f)
          (λ i lt. same (record_at base size (length older) + i) (omega arith) (omega (arith, lt, length-spelled f, sized, next))) lie.1,
      records_kept c d base size older (λ i le lt. same i le (omega (arith, lt, next))) lie.2,
    )

module _ (base span : ℕ) (s : Stored) (fits : Fits span s) where
  -- all that is read of a session ends where the next record would begin
  in_room : length s.records ≤ s.most → record_at base s.size (length s.records) ≤ base + span
  in_room few =
      let most : (10 + s.size) * length s.records ≤ (10 + s.size) * s.most = mul-le (10 + s.size) (length s.records) (10 + s.size) s.most (omega arith) few in
      omega (arith, most, fits.room)

  -- the session depends only on the places that it reads
  pub lies_kept : (c d : List ℕ)
      → ((i : ℕ) → base ≤ i → i < record_at base s.size (length s.records) → byte_at d i ≡ byte_at c i) → Lies base s c → Lies base s d
  lies_kept c d same lies =
      let far : base + 24640 ≤ record_at base s.size (length s.records) = omega arith in
      record {
        header = same base (omega arith) (omega (arith, far)) ∙ lies.header;
        body = spelled_kept c d (body_at base) s.body (λ i lt. same (body_at base + i) (omega arith) (omega (arith, far, lt, fits.body))) lies.body;
        gates = gates_kept c d (gates_at base) (length s.records) s.most (λ i lt. same (gates_at base + i) (omega arith) (omega (arith, far, lt, fits.most))) lies.gates;
        tallies = gates_kept c d (tallies_at base) s.tallies most_tallies (λ i lt. same (tallies_at base + i) (omega arith) (omega (arith, far, lt))) lies.tallies;
        records = records_kept c d base s.size s.records (λ i le lt. same i (omega (arith, le)) lt) lies.records;
      }

  -- a range that is the same holds the same session
  pub lies_within : (c d : List ℕ) → SameWithin base span c d → Lies base s c → Lies base s d
  lies_within c d same lies =
      lies_kept c d (λ i le lt.
      let inside : record_at base s.size (length s.records) ≤ base + span = in_room lies.gates.few in
      let back : base + (i - base) ≡ i = omega (arith, le) in
      subst (λ (j : ℕ). byte_at d j ≡ byte_at c j) back (same.within (i - base) (omega (arith, lt, le, inside)))) lies

  -- a record after the last is not read
  pub lies_behind : (c d : List ℕ) (n : ℕ) → SameOutside (record_at base s.size (length s.records)) n c d → Lies base s c → Lies base s d
  lies_behind c d n same lies = lies_kept c d (λ i le lt. same.below i lt) lies

  -- what is outside the range is not read
  pub lies_apart : (at n : ℕ) → (at + n ≤ base) ⊎ (base + span ≤ at) → (c d : List ℕ) → SameOutside at n c d → Lies base s c → Lies base s d
  lies_apart at n apart c d same lies =
      lies_kept c d (λ i le lt. elim apart [
        | inl before ↦ same.above i (omega (arith, before, le))
        | inr behind ↦
            let inside : record_at base s.size (length s.records) ≤ base + span = in_room lies.gates.few in
            same.below i (omega (arith, behind, lt, inside))
      ]) lies

  -- the record is written, and its gate has any byte: the session as it was, or with the record
  pub gate_torn : (f : Fragment) (c d : List ℕ) → length s.records < s.most → length f.part ≡ s.size → Lies base s c
      → SpelledAt c (record_at base s.size (length s.records)) (spelled f) → SameOutside (gates_at base + length s.records) 1 c d → Lies base s d ⊎ Lies base (with_record s f) d
  unfolding with_record
  gate_torn f c d room sized lies written same =
      let n : ℕ = length s.records in
      let low : gates_at base + n < base + 8257 = omega (arith, room, fits.most) in
      let header : byte_at d base ≡ open_gate = same.below base (omega arith) ∙ lies.header in
      let body : SpelledAt d (body_at base) s.body = spelled_kept c d (body_at base) s.body (λ i lt. same.below (body_at base + i) (omega (arith, lt, fits.body))) lies.body in
      let tallies : GatesOpen d (tallies_at base) s.tallies most_tallies = gates_kept c d (tallies_at base) s.tallies most_tallies (λ i lt. same.above (tallies_at base + i) (omega (arith, low))) lies.tallies in
      let records : RecordsLie d base s.size s.records = records_kept c d base s.size s.records (λ i le lt. same.above i (omega (arith, low, le))) lies.records in
      elim (gates_torn c d (gates_at base) n s.most (suc n) (omega arith) room same lies.gates) [
        | inl gates ↦ inl (record { header = header; body = body; gates = gates; tallies = tallies; records = records })
        | inr gates ↦ inr (record {
          header = header;
          body = body;
          gates = gates;
          tallies = tallies;
          records = (sized, spelled_kept c d (record_at base s.size n) (spelled f) (λ i lt. same.above (record_at base s.size n + i) (omega (arith, low))) written, records);
        })
      ]

  -- a tally's gate has any byte: the session as it was, or with the tally
  pub tally_torn : (c d : List ℕ) → s.tallies < most_tallies → Lies base s c → SameOutside (tallies_at base + s.tallies) 1 c d → Lies base s d ⊎ Lies base (with_tally s) d
  unfolding with_tally
  tally_torn c d room lies same =
      let header : byte_at d base ≡ open_gate = same.below base (omega arith) ∙ lies.header in
      let body : SpelledAt d (body_at base) s.body = spelled_kept c d (body_at base) s.body (λ i lt. same.below (body_at base + i) (omega (arith, lt, fits.body))) lies.body in
      let gates : GatesOpen d (gates_at base) (length s.records) s.most = gates_kept c d (gates_at base) (length s.records) s.most (λ i lt. same.below (gates_at base + i) (omega (arith, lt, fits.most))) lies.gates in
      let records : RecordsLie d base s.size s.records = records_kept c d base s.size s.records (λ i le lt. same.above i (omega (arith, room, le))) lies.records in
      elim (gates_torn c d (tallies_at base) s.tallies most_tallies (with_tally s).tallies (omega arith) room same lies.tallies) [
        | inl tallies ↦ inl (record { header = header; body = body; gates = gates; tallies = tallies; records = records })
        | inr tallies ↦ inr (record { header = header; body = body; gates = gates; tallies = tallies; records = records })
      ]
