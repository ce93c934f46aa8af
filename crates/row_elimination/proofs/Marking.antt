-- The columns whose pieces came uncoded, as they become more.
use Rattle.std.proofs.Common.{◌≡◌, ◌≢◌, ℕ, ◌<◌, ◌^◌, true, false, List, length, get_or, set, bit_xor, true≢false, sym, ap, ◌∙◌, inl, inr, arith, get_or-set_same, get_or-set_other}
use Rattle.std.specs.Int.{bit_at}
use Rattle.std.proofs.lemmas.Nat.Bits.{bit_at-lt, bit_at-zero, bit_at_xor, bit_at-pow_same, bit_at-pow_other}
use Rattle.std.proofs.lemmas.Bool.{cases_eq}
use Rattle.row_elimination.specs.HeldPlaces.{Place, free, piece, is_piece, grown}
use Rattle.row_elimination.specs.Inside.{Marks}
use Rattle.row_elimination.proofs.Counting.{is_piece-cleared}
use Rattle.row_elimination.proofs.Growing.{at_new, at_old}

-- a new row is no piece, and no piece ends with it
pub kinds_grown : (p y c : ℕ) (q : List ℕ) (ps : List Place) → p < length ps → get_or ps p free ≡ free → is_piece (get_or (grown p y q ps) c free) ≡ is_piece (get_or ps c free)
unfolding is_piece
kinds_grown p y c q ps lt was = elim (cases_eq c p) [
  | inl same ↦
      ap (λ n. is_piece (get_or (grown p y q ps) n free)) same ∙ ap is_piece (at_new p y q ps lt)
      ∙ sym (ap (λ n. is_piece (get_or ps n free)) same ∙ ap is_piece was)
  | inr other ↦ ap is_piece (at_old p y c q ps other) ∙ is_piece-cleared p y q (get_or ps c free)
]

pub marks_grown : (l p y : ℕ) (q : List ℕ) (ps : List Place) → p < length ps → get_or ps p free ≡ free → Marks l ps → Marks l (grown p y q ps)
marks_grown l p y q ps lt was h = record {
  on = λ c e. kinds_grown p y c q ps lt was ∙ h.on c e;
  all = λ c e. h.all c (sym (kinds_grown p y c q ps lt was) ∙ e);
}

-- one more piece
pub marks_set : (l l' k : ℕ) (part : List ℕ) (ps : List Place) → k < length ps → is_piece (get_or ps k free) ≡ false → l' ≡ bit_xor l (2 ^ k) → Marks l ps → Marks l' (set ps k (piece part))
unfolding is_piece
marks_set l l' k part ps lt fresh is h = record {
  on = λ c e. elim (cases_eq c k) [
    | inl same ↦ here c same
    | inr other ↦ ap is_piece (get_or-set_other ps k c (piece part) free other) ∙ h.on c (sym (away c other) ∙ e)
  ];
  all = λ c e. elim (cases_eq c k) [
    | inl same ↦ ap (λ n. bit_at l' n) same ∙ now
    | inr other ↦ away c other ∙ h.all c (sym (ap is_piece (get_or-set_other ps k c (piece part) free other)) ∙ e)
  ];
}
  where
    here : (c : ℕ) → c ≡ k → is_piece (get_or (set ps k (piece part)) c free) ≡ true
    here c same = ap (λ n. is_piece (get_or (set ps k (piece part)) n free)) same ∙ ap is_piece (get_or-set_same ps k (piece part) free lt)

    away : (c : ℕ) → c ≢ k → bit_at l' c ≡ bit_at l c
    away c other = ap (λ n. bit_at n c) is ∙ (omega (arith, bit_at_xor l (2 ^ k) c, bit_at-pow_other k c other, bit_at-lt l c))

    was : bit_at l k ≢ 1
    was e = true≢false (sym (h.on k e) ∙ fresh)

    now : bit_at l' k ≡ 1
    now = ap (λ n. bit_at n k) is ∙ (omega (arith, was, bit_at_xor l (2 ^ k) k, bit_at-pow_same k, bit_at-lt l k))

-- none at all
pub marks_none : (l : ℕ) (ps : List Place) → l ≡ 0 → ((c : ℕ) → get_or ps c free ≡ free) → Marks l ps
unfolding is_piece
marks_none l ps is none = record {
  on = λ c e. absurd (omega (arith, e, ap (λ n. bit_at n c) is, bit_at-zero c));
  all = λ c e. absurd (true≢false (sym e ∙ ap is_piece (none c)));
}
