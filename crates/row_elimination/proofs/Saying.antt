-- Places that say what other places and one equation say.
use Rattle.std.proofs.Common.{◌≡◌, ◌≢◌, ℕ, ◌+◌, ◌<◌, ◌^◌, false, cond, List, ◌∷◌, set, length, get_or, Some, bit_xor, refl, sym, ap, ◌∙◌, subst, inl, inr, arith}
use Rattle.std.specs.Prelude.{if◌then◌else◌}
use Rattle.std.specs.Int.{bit_at}
use Rattle.std.specs.Int.Bits.{xor_self, xor_zero_l}
use Rattle.std.proofs.lemmas.Nat.{xor_comm}
use Rattle.std.proofs.lemmas.Nat.Bits.{bit_at-zero}
use Rattle.std.proofs.lemmas.Bool.{cases_Bool}
use Rattle.frag_model.specs.Fragments.{Shape, Equation, IsPiece, xor_bytes, byte_at}
use Rattle.frag_model.specs.Gain.{is_sum, IsSum}
use Rattle.frag_model.proofs.Parts.{xor_swap, get_or-xor_bytes}
use Rattle.frag_model.proofs.Sums.{xor_back}
use Rattle.frag_model.proofs.Tables.{IsSum-zero, IsSum-xor, IsSum-from_test, test-from_IsSum}
use Rattle.row_elimination.specs.HeldPlaces.{Place, free, piece, row, told, lines_held, grown, gained_held}
use Rattle.row_elimination.specs.Inside.{IsReduced}
use Rattle.row_elimination.proofs.Agreeing.{Agrees, agrees_back, agrees_same}
use Rattle.row_elimination.proofs.Telling.{AgreesAll, no_lead}
use Rattle.row_elimination.proofs.Reducing.{Reduced}
use Rattle.row_elimination.proofs.Growing.{IsNew, grown_reduced, grown_agrees, agrees_grown, grown_sums, sums_grown, not_led}
use Rattle.row_elimination.proofs.Settling.{Knows, settled_reduced, settled_agrees, agrees_settled, settled_sums, sums_settled, settled_gained}
use Rattle.row_elimination.proofs.Counting.{rows_grown, pieces_grown}

-- the new places say what the old ones say, and the equation
pub record Says (shape : Shape) (old new : List Place) (line : ℕ) (part : List ℕ) : Type 0 where
  pub reduced : IsReduced shape.nb_frag shape.frag_size new
  pub agrees : (b : List (List ℕ)) → AgreesAll b new → AgreesAll b old × Agrees b line part
  pub from : (b : List (List ℕ)) → AgreesAll b old → Agrees b line part → AgreesAll b new
  pub to_sums : (x : ℕ) → IsSum x (lines_held new) → IsSum x (line ∷ lines_held old)
  pub from_sums : (x : ℕ) → IsSum x (line ∷ lines_held old) → IsSum x (lines_held new)
  pub gained : gained_held new ≡ gained_held old + (if is_sum line (lines_held old) then 0 else 1)

-- the bytes are all zero
abbrev pub IsZero : List ℕ → Type 0
IsZero q = (i : ℕ) → get_or q i 0 ≡ 0

-- ---- an equation that reduces to nothing

line_is_sum : (cols size : ℕ) (ps : List Place) (line : ℕ) (part : List ℕ) (q : List ℕ) → Reduced cols size ps line part 0 q → IsSum line (lines_held ps)
line_is_sum cols size ps line part q h = subst (λ z. IsSum z (lines_held ps)) (xor_zero_l line) h.sum

zero_agrees : (cols size : ℕ) (ps : List Place) (line : ℕ) (part : List ℕ) (q : List ℕ) (b : List (List ℕ)) → Reduced cols size ps line part 0 q → IsZero q → AgreesAll b ps → Agrees b line part
zero_agrees cols size ps line part q b h none all =
    agrees_same b (bit_xor 0 line) line (xor_bytes q part) part (xor_zero_l line)
    (λ i. get_or-xor_bytes q part i ∙ ap (λ x. bit_xor x (get_or part i 0)) (none i) ∙ xor_zero_l (get_or part i 0))
    (h.agrees b all)

test_false : (x : ℕ) (ls : List ℕ) → (IsSum x ls → ⊥) → is_sum x ls ≡ false
test_false x ls h = elim (cases_Bool (is_sum x ls)) [ inl at_true ↦ absurd (h (IsSum-from_test x ls at_true)) | inr at_false ↦ at_false ]

pub says_same : (shape : Shape) (ps : List Place) (line : ℕ) (part : List ℕ) (q : List ℕ) → IsReduced shape.nb_frag shape.frag_size ps
    → Reduced shape.nb_frag shape.frag_size ps line part 0 q → IsZero q → Says shape ps ps line part
says_same shape ps line part q t h none =
    let sum = line_is_sum shape.nb_frag shape.frag_size ps line part q h in
    let zero_more : ◌≡◌ {A = ℕ} (if is_sum line (lines_held ps) then 0 else 1) 0 = ap (λ u. cond {A = ℕ} u 0 1) (test-from_IsSum line (lines_held ps) sum) in
    record {
      reduced = t;
      agrees = λ b all. (all, zero_agrees shape.nb_frag shape.frag_size ps line part q b h none all);
      from = λ b all k. all;
      to_sums = λ x k. inl k;
      from_sums = λ x k. elim k [
        | inl j ↦ j
        | inr j ↦ subst (λ z. IsSum z (lines_held ps)) (xor_back line x) (IsSum-xor line (bit_xor line x) (lines_held ps) sum j)
      ];
      gained = omega (arith, zero_more);
    }

-- where the part does not vanish with the line, no block is left
pub contradicts : (cols size : ℕ) (ps : List Place) (line : ℕ) (part q : List ℕ) (i : ℕ) (b : List (List ℕ)) → Reduced cols size ps line part 0 q → get_or q i 0 ≢ 0
    → AgreesAll b ps → Agrees b line part → ⊥
contradicts cols size ps line part q i b h some all k = some (
    let whole : bit_xor (get_or q i 0) (get_or part i 0) ≡ get_or part i 0 =
    sym (get_or-xor_bytes q part i) ∙ sym (h.agrees b all i) ∙ ap (λ x. byte_at x i b) (xor_zero_l line) ∙ k i in
    sym (xor_back (get_or part i 0) (get_or q i 0))
    ∙ ap (λ x. bit_xor (get_or part i 0) x) (xor_comm (get_or part i 0) (get_or q i 0) ∙ whole)
    ∙ xor_self (get_or part i 0))

-- ---- an equation that leaves a row

pub is_new_row : (cols size : ℕ) (ps : List Place) (line : ℕ) (part : List ℕ) (p l : ℕ) (q : List ℕ) → IsReduced cols size ps → Reduced cols size ps line part l q → p < cols → bit_at l p ≡ 1
    → IsNew cols size ps p l q
is_new_row cols size ps line part p l q t h lt own = record { reduced = t; clear = h.clear; within = h.within; part = h.piece; inside = lt; own = own }

pub no_sum : (cols size : ℕ) (ps : List Place) (line : ℕ) (part : List ℕ) (p l : ℕ) (q : List ℕ) → IsReduced cols size ps → Reduced cols size ps line part l q → bit_at l p ≡ 1
    → is_sum line (lines_held ps) ≡ false
no_sum cols size ps line part p l q t h own = test_false line (lines_held ps) (λ k.
    let sum : IsSum l (lines_held ps) =
    subst (λ z. IsSum z (lines_held ps)) (ap (λ z. bit_xor line z) (xor_comm l line) ∙ xor_back line l) (IsSum-xor line (bit_xor l line) (lines_held ps) k h.sum) in
    let none : l ≡ 0 = no_lead cols size l ps t h.clear sum in
    let off : bit_at l p ≡ 0 = ap (λ z. bit_at z p) none ∙ bit_at-zero p in
    omega arith)

told_piece : (c : ℕ) (part : List ℕ) → told c (piece part) ≡ Some (record { line = 2 ^ c; part = part })
unfolding told
told_piece c part = refl

told_row : (c line : ℕ) (part : List ℕ) → told c (row line part) ≡ Some (record { line = line; part = part })
unfolding told
told_row c line part = refl

pub lead_was_free : (cols size : ℕ) (ps : List Place) (p y : ℕ) (q : List ℕ) → IsNew cols size ps p y q → get_or ps p free ≡ free
lead_was_free cols size ps p y q h = by_place (get_or ps p free) (λ e k. not_led cols size ps p y p q e h k refl)
  where
    by_place : (s : Place) → ((e : Equation) → told p s ≡ Some e → ⊥) → s ≡ free
    by_place free none = refl
    by_place (piece part) none = absurd (none (record { line = 2 ^ p; part = part }) (told_piece p part))
    by_place (row line part) none = absurd (none (record { line = line; part = part }) (told_row p line part))

pub says_grown : (shape : Shape) (ps : List Place) (line : ℕ) (part : List ℕ) (p l : ℕ) (q : List ℕ) → IsReduced shape.nb_frag shape.frag_size ps
    → Reduced shape.nb_frag shape.frag_size ps line part l q → p < shape.nb_frag → bit_at l p ≡ 1 → Says shape ps (grown p l q ps) line part
unfolding gained_held
says_grown shape ps line part p l q t h lt own =
    let cols : ℕ = shape.nb_frag in
    let size : ℕ = shape.frag_size in
    let new = is_new_row cols size ps line part p l q t h lt own in
    let was = lead_was_free cols size ps p l q new in
    let inside : p < length ps = omega (arith, t.sized) in
    let one_more : ◌≡◌ {A = ℕ} (if is_sum line (lines_held ps) then 0 else 1) 1 = ap (λ u. cond {A = ℕ} u 0 1) (no_sum cols size ps line part p l q t h own) in
    let between : (x y z : ℕ) → bit_xor (bit_xor x y) (bit_xor x z) ≡ bit_xor y z = λ x y z.
    xor_swap x y x z ∙ ap (λ w. bit_xor w (bit_xor y z)) (xor_self x) ∙ xor_zero_l (bit_xor y z) in
    record {
      reduced = grown_reduced cols size ps p l q new;
      agrees = λ b all.
          let r = agrees_grown cols size ps p l q b new all in (
            r.0,
            agrees_back b line l part q (agrees_same b (bit_xor l line) (bit_xor line l) (xor_bytes q part) (xor_bytes part q) (xor_comm l line)
                (λ i. get_or-xor_bytes q part i ∙ xor_comm (get_or q i 0) (get_or part i 0) ∙ sym (get_or-xor_bytes part q i)) (h.agrees b r.0)) r.1,
          );
      from = λ b all k. grown_agrees cols size ps p l q b new all (agrees_back b l line q part (h.agrees b all) k);
      to_sums = λ x k. elim (grown_sums cols size ps p l q x new k) [
        | inl j ↦ inl j
        | inr j ↦ inr (subst (λ z. IsSum z (lines_held ps)) (between l line x) (IsSum-xor (bit_xor l line) (bit_xor l x) (lines_held ps) h.sum j))
      ];
      from_sums = λ x k. sums_grown cols size ps p l q x new (elim k [
        | inl j ↦ inl j
        | inr j ↦ inr (subst (λ z. IsSum z (lines_held ps)) (ap (λ z. bit_xor z (bit_xor line x)) (xor_comm l line) ∙ between line l x) (IsSum-xor (bit_xor l line) (bit_xor line x) (lines_held ps) h.sum j))
      ]);
      gained = omega (arith, one_more, rows_grown p l q ps inside was, pieces_grown p l q ps inside was);
    }

-- ---- a piece that is known becomes its place

pub knows_piece : (shape : Shape) (ps new : List Place) (k : ℕ) (part : List ℕ) → Says shape ps new (2 ^ k) part → k < shape.nb_frag → IsPiece shape.frag_size part → Knows shape new k part
knows_piece shape ps new k part h lt is = record {
  reduced = h.reduced;
  inside = lt;
  sum = h.from_sums (2 ^ k) (inr (subst (λ z. IsSum z (lines_held ps)) (sym (xor_self (2 ^ k))) (IsSum-zero (lines_held ps))));
  agrees = λ b all. (h.agrees b all).1;
  piece = is;
}

pub says_settled : (shape : Shape) (ps new : List Place) (k : ℕ) (line : ℕ) (part : List ℕ) → Says shape ps new line part → Knows shape new k part → Says shape ps (set new k (piece part)) line part
says_settled shape ps new k line part h known = record {
  reduced = settled_reduced shape new k part known;
  agrees = λ b all. h.agrees b (agrees_settled shape new k part b known all);
  from = λ b all j. settled_agrees shape new k part b known (h.from b all j);
  to_sums = λ x j. h.to_sums x (settled_sums shape new k part x known j);
  from_sums = λ x j. sums_settled shape new k part x known (h.from_sums x j);
  gained = settled_gained shape new k part known ∙ h.gained;
}
