-- A range holds one list of records at most: what is spelled is spelled of one fragment.
use Rattle.std.proofs.Common.{◌≡◌, inl, inr, ℕ, ◌+◌, ◌-◌, List, [], ◌∷◌, ◌++◌, length, get_or, take, drop, refl, sym, ap, ap₂, ◌∙◌, subst, arith, length-append, w16, w64}
use Rattle.std.proofs.lemmas.List.{ext_get_or, take_at, drop_at, get_or_append_left, get_or-append_right}
use Rattle.std.proofs.lemmas.Bool.{cases_lt}
use Rattle.std.specs.Int.{from_le_bytes, to_le_bytes}
use Rattle.std.proofs.lemmas.Nat.{from_le_bytes-to_le_bytes_2, from_le_bytes-to_le_bytes_8}
use Rattle.frag_model.specs.Fragments.{Fragment}
use Rattle.flash_session.specs.InRange.{InRange, AllInRange}
use Rattle.flash_session.specs.Layout.{spelled}
use Rattle.flash_session.specs.Lies.{SpelledAt, RecordsLie, record_at}
use Rattle.flash_session.proofs.Places.{length-spelled}

front : (xs ys us vs : List ℕ) → length xs ≡ length us → xs ++ ys ≡ us ++ vs → (xs ≡ us) × (ys ≡ vs)
front xs ys us vs same e = (
  sym (take_at xs ys (length xs) refl) ∙ ap (take (length xs)) e ∙ take_at us vs (length xs) (sym same),
  sym (drop_at xs ys (length xs) refl) ∙ ap (drop (length xs)) e ∙ drop_at us vs (length xs) (sym same),
)

pub spelled_same : (f g : Fragment) → InRange f → InRange g → spelled f ≡ spelled g → f ≡ g
unfolding spelled
spelled_same f g rf rg e =
    let heads = front (to_le_bytes w16 f.number ++ to_le_bytes w64 f.mark) f.part (to_le_bytes w16 g.number ++ to_le_bytes w64 g.mark) g.part refl e in
    let numbers = front (to_le_bytes w16 f.number) (to_le_bytes w64 f.mark) (to_le_bytes w16 g.number) (to_le_bytes w64 g.mark) refl heads.0 in
    let number : f.number ≡ g.number = sym (from_le_bytes-to_le_bytes_2 f.number rf.number) ∙ ap (from_le_bytes w16) numbers.0 ∙ from_le_bytes-to_le_bytes_2 g.number rg.number in
    let mark : f.mark ≡ g.mark = sym (from_le_bytes-to_le_bytes_8 f.mark rf.mark) ∙ ap (from_le_bytes w64) numbers.1 ∙ from_le_bytes-to_le_bytes_8 g.mark rg.mark in
    let part : f.part ≡ g.part = heads.1 in
    λ i. record { number = number i; part = part i; mark = mark i }

pub same_spelled : (c : List ℕ) (at : ℕ) (xs ys : List ℕ) → length xs ≡ length ys → SpelledAt c at xs → SpelledAt c at ys → xs ≡ ys
same_spelled c at xs ys same one two = ext_get_or 0 xs ys same (λ i lt. sym (one.bytes i lt) ∙ two.bytes i (omega (arith, lt, same)))

pub one_list : (c : List ℕ) (base size : ℕ) (xs ys : List Fragment) → length xs ≡ length ys → AllInRange xs → AllInRange ys → RecordsLie c base size xs → RecordsLie c base size ys → xs ≡ ys
one_list c base size [] [] same rx ry lx ly = refl
one_list c base size [] (y ∷ ys) same rx ry lx ly = absurd (omega (arith, same))
one_list c base size (x ∷ xs) [] same rx ry lx ly = absurd (omega (arith, same))
one_list c base size (x ∷ xs) (y ∷ ys) same rx ry lx ly =
    let count : length xs ≡ length ys = omega (arith, same) in
    let rest : xs ≡ ys = one_list c base size xs ys count rx.1 ry.1 lx.2 ly.2 in
    let here : SpelledAt c (record_at base size (length xs)) (spelled y) = subst (λ (k : ℕ). SpelledAt c (record_at base size k) (spelled y)) (sym count) ly.1 in
    let first : x ≡ y = spelled_same x y rx.0 ry.0
    (same_spelled c (record_at base size (length xs)) (spelled x) (spelled y) (omega (arith, length-spelled x, length-spelled y, lx.0, ly.0)) lx.1 here) in
    ap₂ (λ (f : Fragment) (fs : List Fragment). f ∷ fs) first rest

-- what comes after what is there
pub spelled_joined : (c : List ℕ) (at : ℕ) (xs ys : List ℕ) → SpelledAt c at xs → SpelledAt c (at + length xs) ys → SpelledAt c at (xs ++ ys)
spelled_joined c at xs ys one two = record {
  bytes = λ i lt. elim (cases_lt i (length xs)) [
    | inl before ↦ one.bytes i before ∙ sym (get_or_append_left xs ys 0 i before)
    | inr past ↦
        let j : ℕ = i - length xs in
        ap (λ (k : ℕ). get_or c k 0) (omega (arith, past)) ∙ two.bytes j (omega (arith, lt, past, length-append xs ys)) ∙ sym (get_or-append_right xs ys (length xs) i 0 refl past)
  ];
}
