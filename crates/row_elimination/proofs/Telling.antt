-- The equations held, column by column.
use Rattle.std.proofs.Common.{◌≡◌, ◌≢◌, ℕ, zero, suc, ◌+◌, ◌≤◌, ◌^◌, List, [], ◌∷◌, ◌++◌, map, length, get_or, Option, Some, None, bit_xor, refl, sym, ap, ◌∙◌, subst, inl, inr, arith}
use Rattle.std.specs.Int.{bit_at}
use Rattle.std.specs.List.{AllByRecursion}
use Rattle.std.specs.Option.{option_to_list}
use Rattle.std.proofs.lemmas.Nat.Bits.{bit_at_xor}
use Rattle.std.proofs.lemmas.List.Elements.{All-from_recursion, recursion_from_All}
use Rattle.std.proofs.lemmas.List.{get_or_past}
use Rattle.frag_model.specs.Fragments.{Shape, Equation, IsPiece, IsBlock, Meets}
use Rattle.frag_model.proofs.Members.{In, In-append_left, In-append_right, In-append_cases, In-map, In-map_from}
use Rattle.frag_model.proofs.Uncoded.{each-In, each-from_In}
use Rattle.frag_model.specs.Gain.{IsSum}
use Rattle.frag_model.proofs.Tables.{IsSum-line, IsSum-without}
use Rattle.row_elimination.specs.HeldPlaces.{Place, free, piece, row, told, equations_from, equations_held, lines_held, FitsHeld}
use Rattle.row_elimination.specs.Inside.{IsReduced}
use Rattle.row_elimination.proofs.Agreeing.{agrees_from_meets, meets_from_agrees}
pub use Rattle.row_elimination.specs.HeldSteps.{Tells, AgreesAll}

-- ---- membership

shifted : (c k : ℕ) (p : Place) (e : Equation) → told (c + suc k) p ≡ Some e → told (suc c + k) p ≡ Some e
shifted c k p e h = let same : c + suc k ≡ suc c + k = omega arith in subst (λ n. told n p ≡ Some e) same h

In-told : (c : ℕ) (p : Place) (e : Equation) → told c p ≡ Some e → In e (option_to_list (told c p))
In-told c p e h = subst (λ o. In e (option_to_list o)) (sym h) (inl refl)

told-In : (o : Option Equation) (e : Equation) → In e (option_to_list o) → o ≡ Some e
told-In None e m = absurd m
told-In (Some f) e (inl h) = ap Some (sym h)
told-In (Some f) e (inr h) = absurd h

In-equations_from : (c k : ℕ) (ps : List Place) (e : Equation) → told (c + k) (get_or ps k free) ≡ Some e → In e (equations_from c ps)
unfolding equations_from told
In-equations_from c k [] e h = absurd (cc)
In-equations_from c zero (p ∷ ps) e h =
    let here : told c p ≡ Some e = let same : c + 0 ≡ c = omega arith in subst (λ n. told n p ≡ Some e) same h in
    In-append_left e (option_to_list (told c p)) (equations_from (suc c) ps) (In-told c p e here)
In-equations_from c (suc k) (p ∷ ps) e h =
    In-append_right e (option_to_list (told c p)) (equations_from (suc c) ps) (In-equations_from (suc c) k ps e (shifted c k (get_or ps k free) e h))

equations_from-In : (c : ℕ) (ps : List Place) (e : Equation) → In e (equations_from c ps) → (k : ℕ) × (told (c + k) (get_or ps k free) ≡ Some e)
unfolding equations_from
equations_from-In c [] e m = absurd m
equations_from-In c (p ∷ ps) e m = elim (In-append_cases e (option_to_list (told c p)) (equations_from (suc c) ps) m) [
  | inl i ↦ (0, let same : c ≡ c + 0 = omega arith in subst (λ n. told n p ≡ Some e) same (told-In (told c p) e i))
  | inr i ↦
      let r = equations_from-In (suc c) ps e i in
      (suc r.0, let same : suc c + r.0 ≡ c + suc r.0 = omega arith in subst (λ n. told n (get_or ps r.0 free) ≡ Some e) same r.1)
]

pub In-equations : (c : ℕ) (ps : List Place) (e : Equation) → Tells ps c e → In e (equations_held ps)
unfolding equations_held
In-equations c ps e h = In-equations_from 0 c ps e (let same : c ≡ 0 + c = omega arith in subst (λ n. told n (get_or ps c free) ≡ Some e) same h)

pub equations-In : (ps : List Place) (e : Equation) → In e (equations_held ps) → (c : ℕ) × Tells ps c e
unfolding equations_held
equations-In ps e m =
    let r = equations_from-In 0 ps e m in
    (r.0, let same : 0 + r.0 ≡ r.0 = omega arith in subst (λ n. told n (get_or ps r.0 free) ≡ Some e) same r.1)

pub In-lines : (c : ℕ) (ps : List Place) (e : Equation) → Tells ps c e → In e.line (lines_held ps)
unfolding lines_held
In-lines c ps e h = In-map (λ (f : Equation). f.line) e (equations_held ps) (In-equations c ps e h)

pub lines-In : (ps : List Place) (l : ℕ) → In l (lines_held ps) → (c : ℕ) × (e : Equation) × Tells ps c e × (l ≡ e.line)
unfolding lines_held
lines-In ps l m =
    let r = In-map_from (λ (f : Equation). f.line) l (equations_held ps) m in
    let q = equations-In ps r.0 r.1 in
    (q.0, r.0, q.1, r.2)

-- each equation's line is a sum
pub told-sum : (c : ℕ) (ps : List Place) (e : Equation) → Tells ps c e → IsSum e.line (lines_held ps)
told-sum c ps e h = IsSum-line e.line (lines_held ps) (In-lines c ps e h)

-- ---- fitting

pub agrees_from_fits : (shape : Shape) (ps : List Place) (b : List (List ℕ)) → FitsHeld shape ps b → AgreesAll b ps
agrees_from_fits shape ps b h = λ c e k.
    agrees_from_meets shape.frag_size b e
    (each-In (Meets shape.frag_size b) e (equations_held ps) (recursion_from_All (Meets shape.frag_size b) (equations_held ps) h.fitting) (In-equations c ps e k))

pub fits_from_agrees : (shape : Shape) (ps : List Place) (b : List (List ℕ)) → IsReduced shape.nb_frag shape.frag_size ps → IsBlock shape b → AgreesAll b ps → FitsHeld shape ps b
fits_from_agrees shape ps b t block h = record {
  shaped = block;
  fitting = All-from_recursion (Meets shape.frag_size b) (equations_held ps) (each-from_In (Meets shape.frag_size b) (equations_held ps) (λ e m.
      let r = equations-In ps e m in
      meets_from_agrees shape.frag_size b e (recursion_from_All (IsPiece shape.frag_size) b block.pieces) (t.part r.0 e r.1).sized (h r.0 e r.1)));
}

-- ---- a sum without the columns that lead is zero

lines_from : ℕ → List Place → List ℕ
lines_from c ps = map (λ (f : Equation). f.line) (equations_from c ps)

no_lead_from : (x c : ℕ) (ps : List Place)
    → ((k : ℕ) (e : Equation) → told (c + k) (get_or ps k free) ≡ Some e → bit_at e.line (c + k) ≡ 1)
    → ((k j : ℕ) (e f : Equation) → k ≢ j → told (c + k) (get_or ps k free) ≡ Some e → told (c + j) (get_or ps j free) ≡ Some f → bit_at e.line (c + j) ≡ 0)
    → ((k : ℕ) (e : Equation) → told (c + k) (get_or ps k free) ≡ Some e → bit_at x (c + k) ≡ 0)
    → IsSum x (lines_from c ps) → x ≡ 0
unfolding lines_from equations_from told
no_lead_from x c [] own apart none h = h
no_lead_from x c (p ∷ ps) own apart none h =
    let back : (k : ℕ) (e : Equation) → told (suc c + k) (get_or ps k free) ≡ Some e → told (c + suc k) (get_or ps k free) ≡ Some e =
    λ k e t. let same : suc c + k ≡ c + suc k = omega arith in subst (λ n. told n (get_or ps k free) ≡ Some e) same t in
    let move : (y k : ℕ) → bit_at y (suc c + k) ≡ bit_at y (c + suc k) = λ y k. ap (λ n. bit_at y n) (let same : suc c + k ≡ c + suc k = omega arith in same) in
    let zero_c : c + 0 ≡ c = omega arith in
    let own' : (k : ℕ) (e : Equation) → told (suc c + k) (get_or ps k free) ≡ Some e → bit_at e.line (suc c + k) ≡ 1 =
    λ k e t. move e.line k ∙ own (suc k) e (back k e t) in
    let apart' : (k j : ℕ) (e f : Equation) → k ≢ j → told (suc c + k) (get_or ps k free) ≡ Some e → told (suc c + j) (get_or ps j free) ≡ Some f → bit_at e.line (suc c + j) ≡ 0 =
    λ k j e f ne t u. move e.line j ∙ apart (suc k) (suc j) e f (λ s. ne (omega arith)) (back k e t) (back j f u) in
    let none' : (k : ℕ) (e : Equation) → told (suc c + k) (get_or ps k free) ≡ Some e → bit_at x (suc c + k) ≡ 0 =
    λ k e t. move x k ∙ none (suc k) e (back k e t) in
    let rest : IsSum x (lines_from (suc c) ps) → x ≡ 0 = no_lead_from x (suc c) ps own' apart' none' in
    let first : (e : Equation) → told c p ≡ Some e → IsSum (bit_xor e.line x) (lines_from (suc c) ps) → x ≡ 0 = λ e t s.
    let here : told (c + 0) p ≡ Some e = subst (λ n. told n p ≡ Some e) (sym zero_c) t in
    let lead : bit_at e.line c ≡ 1 = ap (λ n. bit_at e.line n) (sym zero_c) ∙ own 0 e here in
    let off : bit_at x c ≡ 0 = ap (λ n. bit_at x n) (sym zero_c) ∙ none 0 e here in
    let lacks : AllByRecursion (λ l. bit_at l c ≡ 0) (lines_from (suc c) ps) =
    each-from_In (λ l. bit_at l c ≡ 0) (lines_from (suc c) ps) (λ l m.
    let r = In-map_from (λ (f : Equation). f.line) l (equations_from (suc c) ps) m in
    let q = equations_from-In (suc c) ps r.0 r.1 in
    ap (λ y. bit_at y c) r.2 ∙ ap (λ n. bit_at r.0.line n) (sym zero_c) ∙ apart (suc q.0) 0 r.0 e (λ s. absurd (omega arith)) (back q.0 r.0 q.1) here) in
    let clear : bit_at (bit_xor e.line x) c ≡ 0 = IsSum-without c (bit_xor e.line x) (lines_from (suc c) ps) lacks s in
    absurd (omega (arith, bit_at_xor e.line x c, lead, off, clear)) in
    by_place p rest first h
  where
    by_place : (p : Place) → (IsSum x (lines_from (suc c) ps) → x ≡ 0)
        → ((e : Equation) → told c p ≡ Some e → IsSum (bit_xor e.line x) (lines_from (suc c) ps) → x ≡ 0)
        → IsSum x (map (λ (f : Equation). f.line) (option_to_list (told c p) ++ equations_from (suc c) ps)) → x ≡ 0
    by_place free rest first h = rest h
    by_place (piece part) rest first (inl h) = rest h
    by_place (piece part) rest first (inr h) = first (record { line = 2 ^ c; part = part }) refl h
    by_place (row line part) rest first (inl h) = rest h
    by_place (row line part) rest first (inr h) = first (record { line = line; part = part }) refl h

pub no_lead : (cols size x : ℕ) (ps : List Place) → IsReduced cols size ps → ((c : ℕ) (e : Equation) → Tells ps c e → bit_at x c ≡ 0) → IsSum x (lines_held ps) → x ≡ 0
unfolding lines_from lines_held equations_held
no_lead cols size x ps t none h =
    let at : (k : ℕ) (e : Equation) → told (0 + k) (get_or ps k free) ≡ Some e → Tells ps k e =
    λ k e u. let same : 0 + k ≡ k = omega arith in subst (λ n. told n (get_or ps k free) ≡ Some e) same u in
    let move : (y k : ℕ) → bit_at y (0 + k) ≡ bit_at y k = λ y k. ap (λ n. bit_at y n) (let same : 0 + k ≡ k = omega arith in same) in
    no_lead_from x 0 ps
    (λ k e u. move e.line k ∙ t.own k e (at k e u))
    (λ k j e f ne u v. move e.line j ∙ t.apart k j e f ne (at k e u) (at j f v))
    (λ k e u. move x k ∙ none k e (at k e u))
    h

-- there is no equation past the places
pub told_within : (ps : List Place) (d : ℕ) (e : Equation) → Tells ps d e → length ps ≤ d → ⊥
unfolding told
told_within ps d e h past = let none : told d free ≡ Some e = subst (λ p. told d p ≡ Some e) (get_or_past ps d free past) h in cc
