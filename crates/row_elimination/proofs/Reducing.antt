-- Taking equations that are held out of an equation.
use Rattle.std.proofs.Common.{◌≡◌, ℕ, suc, ◌<◌, ◌^◌, List, [], ◌∷◌, length, get_or, bit_xor, refl, sym, ap, ◌∙◌, subst, arith}
use Rattle.std.proofs.lemmas.List.{ext_get_or}
use Rattle.std.specs.Int.Bits.{xor_self}
use Rattle.std.proofs.lemmas.Nat.{xor_lt}
use Rattle.std.proofs.lemmas.List.Elements.{All-get_or, All-from_get_or}
use Rattle.frag_model.specs.Fragments.{Equation, IsPiece, xor_bytes, byte_at}
use Rattle.frag_model.proofs.Parts.{get_or-xor_bytes, length-xor_bytes}
use Rattle.frag_model.proofs.Uniqueness.{byte_at-xor}
use Rattle.frag_model.specs.Gain.{IsSum}
use Rattle.frag_model.proofs.Tables.{IsSum-zero, IsSum-xor}
use Rattle.row_elimination.specs.HeldPlaces.{Place, told, lines_held}
use Rattle.row_elimination.specs.Inside.{IsReduced}
use Rattle.row_elimination.proofs.Agreeing.{agrees_xor, agrees_same, xor_right}
use Rattle.row_elimination.proofs.Telling.{Tells, told-sum}
pub use Rattle.row_elimination.specs.HeldSteps.{Reduced, Taken}
use Rattle.row_arena.specs.Stretch.{stretch}
use Rattle.row_arena.proofs.Stretched.{get_or-stretch}
use Rattle.row_arena.specs.Sums.{after_pieces, after_flips}

pub piece_xor : (size : ℕ) (p q : List ℕ) → IsPiece size p → IsPiece size q → IsPiece size (xor_bytes p q)
piece_xor size p q h k =
    let sized : length (xor_bytes p q) ≡ length p = length-xor_bytes p q (h.sized ∙ sym k.sized) in
    let Q : ℕ → Type 0 = λ x. x < 2 ^ 8 in
    record {
      sized = sized ∙ h.sized;
      bytes = All-from_get_or Q (xor_bytes p q) 0 (λ i lt.
          let left : get_or p i 0 < 2 ^ 8 = All-get_or Q p i 0 (omega arith) h.bytes in
          let right : get_or q i 0 < 2 ^ 8 = All-get_or Q q i 0 (omega (arith, h.sized, k.sized)) k.bytes in
          subst Q (sym (get_or-xor_bytes p q i)) (xor_lt 8 (get_or p i 0) (get_or q i 0) left right));
    }

-- nothing was taken out yet
pub taken_begins : (cols size : ℕ) (ps : List Place) (line : ℕ) (part : List ℕ) → line < 2 ^ cols → IsPiece size part → Taken cols size ps line part line part
taken_begins cols size ps line part within piece = record {
  agrees = λ b h i. byte_at-xor line line i b ∙ xor_self (byte_at line i b) ∙ sym (get_or-xor_bytes part part i ∙ xor_self (get_or part i 0));
  sum = subst (λ x. IsSum x (lines_held ps)) (sym (xor_self line)) (IsSum-zero (lines_held ps));
  within = within;
  piece = piece;
}

-- one more; whether the line had its column does not matter
pub taken_more : (cols size : ℕ) (ps : List Place) (line : ℕ) (part : List ℕ) (c l : ℕ) (q : List ℕ) (e : Equation)
    → IsReduced cols size ps → Tells ps c e → Taken cols size ps line part l q → Taken cols size ps line part (bit_xor l e.line) (xor_bytes q e.part)
taken_more cols size ps line part c l q e t here h = record {
  agrees = λ b k.
      agrees_same b (bit_xor (bit_xor l line) e.line) (bit_xor (bit_xor l e.line) line) (xor_bytes (xor_bytes q part) e.part) (xor_bytes (xor_bytes q e.part) part)
      (xor_right l line e.line)
      (λ i. get_or-xor_bytes (xor_bytes q part) e.part i ∙ ap (λ x. bit_xor x (get_or e.part i 0)) (get_or-xor_bytes q part i)
      ∙ xor_right (get_or q i 0) (get_or part i 0) (get_or e.part i 0)
      ∙ sym (get_or-xor_bytes (xor_bytes q e.part) part i ∙ ap (λ x. bit_xor x (get_or part i 0)) (get_or-xor_bytes q e.part i)))
      (agrees_xor b (bit_xor l line) e.line (xor_bytes q part) e.part (h.agrees b k) (k c e here));
  sum = subst (λ x. IsSum x (lines_held ps)) (xor_right l line e.line) (IsSum-xor (bit_xor l line) e.line (lines_held ps) h.sum (told-sum c ps e here));
  within = xor_lt cols l e.line h.within (t.within c e here);
  piece = piece_xor size q e.part h.piece (t.part c e here);
}

-- the part with the picked pieces added
summed : ℕ → List ℕ → List ℕ → List ℕ → List ℕ
summed size area q [] = q
summed size area q (k ∷ ks) = summed size area (xor_bytes q (stretch k size area)) ks

get_or-summed : (size : ℕ) (area q ks : List ℕ) (i : ℕ) → i < size → get_or (summed size area q ks) i 0 ≡ after_pieces size area i (get_or q i 0) ks
unfolding after_pieces summed
get_or-summed size area q [] i lt = refl
get_or-summed size area q (k ∷ ks) i lt =
    get_or-summed size area (xor_bytes q (stretch k size area)) ks i lt
    ∙ ap (λ b. after_pieces size area i b ks) (get_or-xor_bytes q (stretch k size area) i ∙ ap (bit_xor (get_or q i 0)) (get_or-stretch k size i area 0 lt))

-- the piece of the area that a column tells
abbrev pub piece_at : ℕ → List ℕ → ℕ → Equation
piece_at size area k = record { line = 2 ^ k; part = stretch k size area }

taken_list : (cols size : ℕ) (ps : List Place) (line : ℕ) (part : List ℕ) (l : ℕ) (area q ks : List ℕ) → IsReduced cols size ps
    → ((n : ℕ) → n < length ks → Tells ps (get_or ks n 0) (piece_at size area (get_or ks n 0)))
    → Taken cols size ps line part l q → Taken cols size ps line part (after_flips l ks) (summed size area q ks)
unfolding after_flips summed
taken_list cols size ps line part l area q [] t told h = h
taken_list cols size ps line part l area q (k ∷ ks) t told h =
    taken_list cols size ps line part (bit_xor l (2 ^ k)) area (xor_bytes q (stretch k size area)) ks t (λ n lt. told (suc n) (omega arith))
    (taken_more cols size ps line part k l q (piece_at size area k) t (told 0 (omega arith)) h)

-- the picked pieces were taken out: the bytes that are left are their sum with the part
pub taken_picks : (cols size : ℕ) (ps : List Place) (line : ℕ) (part : List ℕ) (l : ℕ) (area q ks rest : List ℕ) → IsReduced cols size ps
    → ((n : ℕ) → n < length ks → Tells ps (get_or ks n 0) (piece_at size area (get_or ks n 0)))
    → length rest ≡ size → ((i : ℕ) → i < size → get_or rest i 0 ≡ after_pieces size area i (get_or q i 0) ks)
    → Taken cols size ps line part l q → Taken cols size ps line part (after_flips l ks) rest
taken_picks cols size ps line part l area q ks rest t told sized bytes h =
    let all : Taken cols size ps line part (after_flips l ks) (summed size area q ks) = taken_list cols size ps line part l area q ks t told h in
    let same : rest ≡ summed size area q ks = ext_get_or 0 rest (summed size area q ks) (sized ∙ sym all.piece.sized) (λ i lt.
    let inside : i < size = omega (arith, sized) in
    bytes i inside ∙ sym (get_or-summed size area q ks i inside)) in
    subst (λ p. Taken cols size ps line part (after_flips l ks) p) (sym same) all
