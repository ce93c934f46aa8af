-- What a new row makes of the places: the equations say what they said, and the new one.
use Rattle.std.proofs.Common.{◌≡◌, ◌≢◌, ◌⊎◌, ℕ, ◌<◌, ◌^◌, cond, ◌==◌, List, ◌∷◌, map, length, get_or, Some, bit_xor, refl, sym, ap, ap₂, ◌∙◌, subst, inl, inr, arith, eqb-true, length-set}
use Rattle.std.specs.Int.{bit_at}
use Rattle.std.proofs.lemmas.Nat.{xor_lt, xor_comm}
use Rattle.std.proofs.lemmas.Nat.Bits.{bit_at_xor, bit_at-lt, bit_at-pow_other}
use Rattle.std.proofs.lemmas.Bool.{cases_Bool, cases_eq, cases_lt, eqb-false}
use Rattle.std.proofs.lemmas.List.{length-map, get_or-map, get_or_past, get_or-set_same, get_or-set_other}
use Rattle.frag_model.specs.Fragments.{Equation, IsPiece, xor_bytes}
use Rattle.frag_model.proofs.Sums.{xor_back}
use Rattle.frag_model.specs.Gain.{IsSum}
use Rattle.frag_model.proofs.Tables.{IsSum-line, IsSum-xor, IsSum-within}
use Rattle.row_elimination.specs.HeldPlaces.{Place, free, piece, row, told, lines_held, cleared, all_cleared, grown}
use Rattle.row_elimination.specs.Inside.{IsReduced}
use Rattle.row_elimination.proofs.Agreeing.{Agrees, agrees_xor, agrees_back}
use Rattle.row_elimination.proofs.Telling.{Tells, AgreesAll, told-sum, lines-In}
use Rattle.row_elimination.proofs.Reducing.{piece_xor}
pub use Rattle.row_elimination.specs.HeldSteps.{IsNew}

-- the equation at a place is as it was, or it was changed by the new one
Changed : ℕ → ℕ → List ℕ → Equation → Equation → Type 0
Changed p y q e f =
    ((bit_at e.line p ≡ 0) × (f ≡ e)) ⊎ ((bit_at e.line p ≡ 1) × (f ≡ record { line = bit_xor e.line y; part = xor_bytes e.part q }))

pub free_is_cleared : (p y : ℕ) (q : List ℕ) → cleared p y q free ≡ free
unfolding cleared
free_is_cleared p y q = refl

pub at_all_cleared : (p y : ℕ) (q : List ℕ) (ps : List Place) (c : ℕ) → get_or (all_cleared p y q ps) c free ≡ cleared p y q (get_or ps c free)
unfolding all_cleared
at_all_cleared p y q ps c = elim (cases_lt c (length ps)) [
  | inl lt ↦ get_or-map (cleared p y q) ps c free free lt
  | inr past ↦
      get_or_past (map (cleared p y q) ps) c free (omega (arith, length-map ps (cleared p y q)))
      ∙ sym (ap (cleared p y q) (get_or_past ps c free past) ∙ free_is_cleared p y q)
]

told_cleared : (p y c : ℕ) (q : List ℕ) (s : Place) (f : Equation) → c ≢ p → told c (cleared p y q s) ≡ Some f → (e : Equation) × (told c s ≡ Some e) × Changed p y q e f
unfolding told cleared Changed
told_cleared p y c q free f ne h = absurd (cc)
told_cleared p y c q (piece part) f ne h = (record { line = 2 ^ c; part = part }, refl, inl (bit_at-pow_other c p (λ e. ne (sym e)), (cc)))
told_cleared p y c q (row line part) f ne h = elim (cases_Bool (bit_at line p == 1)) [
  | inl at_true ↦
      let is : told c (row (bit_xor line y) (xor_bytes part q)) ≡ Some f =
      subst (λ t. told c (cond t (row (bit_xor line y) (xor_bytes part q)) (row line part)) ≡ Some f) at_true h in
      (record { line = line; part = part }, refl, inr (eqb-true _ _ at_true, (cc)))
  | inr at_false ↦
      let is : told c (row line part) ≡ Some f =
      subst (λ t. told c (cond t (row (bit_xor line y) (xor_bytes part q)) (row line part)) ≡ Some f) at_false h in
      let off : bit_at line p ≡ 0 = omega (arith, bit_at-lt line p, eqb-false _ _ at_false) in
      (record { line = line; part = part }, refl, inl (off, (cc)))
]

cleared_told : (p y c : ℕ) (q : List ℕ) (s : Place) (e : Equation) → c ≢ p → told c s ≡ Some e → (f : Equation) × (told c (cleared p y q s) ≡ Some f) × Changed p y q e f
unfolding told cleared Changed
cleared_told p y c q free e ne h = absurd (cc)
cleared_told p y c q (piece part) e ne h =
    let is : e ≡ record { line = 2 ^ c; part = part } = (cc) in
    (record { line = 2 ^ c; part = part }, refl, inl (ap (λ (x : Equation). bit_at x.line p) is ∙ bit_at-pow_other c p (λ s. ne (sym s)), sym is))
cleared_told p y c q (row line part) e ne h =
    let is : e ≡ record { line = line; part = part } = (cc) in
    let at : (x : Equation) → x ≡ e → bit_at x.line p ≡ bit_at e.line p = λ (x : Equation) s. ap (λ (z : Equation). bit_at z.line p) s in
    let new : Equation = record { line = bit_xor line y; part = xor_bytes part q } in
    elim (cases_Bool (bit_at line p == 1)) [
      | inl at_true ↦ (
        new,
        ap (λ t. told c (cond t (row (bit_xor line y) (xor_bytes part q)) (row line part))) at_true,
        inr (ap (λ (x : Equation). bit_at x.line p) is ∙ eqb-true _ _ at_true, sym (ap (λ (x : Equation). record { line = bit_xor x.line y; part = xor_bytes x.part q }) is)),
      )
      | inr at_false ↦ (
        record { line = line; part = part },
        ap (λ t. told c (cond t (row (bit_xor line y) (xor_bytes part q)) (row line part))) at_false,
        inl (ap (λ (x : Equation). bit_at x.line p) is ∙ (omega (arith, bit_at-lt line p, eqb-false _ _ at_false)), sym is),
      )
    ]

-- what is at each column
pub at_new : (p y : ℕ) (q : List ℕ) (ps : List Place) → p < length ps → get_or (grown p y q ps) p free ≡ row y q
unfolding grown all_cleared
at_new p y q ps lt = get_or-set_same (all_cleared p y q ps) p (row y q) free (omega (arith, length-map ps (cleared p y q)))

pub at_old : (p y c : ℕ) (q : List ℕ) (ps : List Place) → c ≢ p → get_or (grown p y q ps) c free ≡ cleared p y q (get_or ps c free)
unfolding grown
at_old p y c q ps ne = get_or-set_other (all_cleared p y q ps) p c (row y q) free ne ∙ at_all_cleared p y q ps c

pub length-all_cleared : (p y : ℕ) (q : List ℕ) (ps : List Place) → length (all_cleared p y q ps) ≡ length ps
unfolding all_cleared
length-all_cleared p y q ps = length-map ps (cleared p y q)

pub length-grown : (p y : ℕ) (q : List ℕ) (ps : List Place) → length (grown p y q ps) ≡ length ps
unfolding grown
length-grown p y q ps = length-set (all_cleared p y q ps) p (row y q) ∙ length-all_cleared p y q ps

pub not_led : (cols size : ℕ) (ps : List Place) (p y c : ℕ) (q : List ℕ) (e : Equation) → IsNew cols size ps p y q → Tells ps c e → c ≢ p
not_led cols size ps p y c q e h k = λ same.
    let off : bit_at y p ≡ 0 = ap (λ n. bit_at y n) (sym same) ∙ h.clear c e k in
    omega (arith, h.own)

pub new_at : (cols size : ℕ) (ps : List Place) (p y : ℕ) (q : List ℕ) → IsNew cols size ps p y q → get_or (grown p y q ps) p free ≡ row y q
new_at cols size ps p y q h = at_new p y q ps (omega (arith, h.reduced.sized, h.inside))

pub new_tells : (cols size : ℕ) (ps : List Place) (p y : ℕ) (q : List ℕ) → IsNew cols size ps p y q → Tells (grown p y q ps) p (record { line = y; part = q })
unfolding told
new_tells cols size ps p y q h = ap (told p) (new_at cols size ps p y q h)

is_new : (cols size : ℕ) (ps : List Place) (p y : ℕ) (q : List ℕ) (f : Equation) → IsNew cols size ps p y q → Tells (grown p y q ps) p f → f ≡ record { line = y; part = q }
is_new cols size ps p y q f h k = let was = new_tells cols size ps p y q h in cc

old_tells : (cols size : ℕ) (ps : List Place) (p y c : ℕ) (q : List ℕ) (f : Equation) → c ≢ p → Tells (grown p y q ps) c f → (e : Equation) × Tells ps c e × Changed p y q e f
old_tells cols size ps p y c q f ne k = told_cleared p y c q (get_or ps c free) f ne (subst (λ s. told c s ≡ Some f) (at_old p y c q ps ne) k)

tells_old : (cols size : ℕ) (ps : List Place) (p y c : ℕ) (q : List ℕ) (e : Equation) → c ≢ p → Tells ps c e → (f : Equation) × Tells (grown p y q ps) c f × Changed p y q e f
tells_old cols size ps p y c q e ne k =
    let r = cleared_told p y c q (get_or ps c free) e ne k in
    (r.0, subst (λ s. told c s ≡ Some r.0) (sym (at_old p y c q ps ne)) r.1, r.2)

-- what a changed equation has at a column that leads another
changed_bit : (p y d : ℕ) (q : List ℕ) (e f : Equation) → Changed p y q e f → bit_at y d ≡ 0 → bit_at f.line d ≡ bit_at e.line d
unfolding Changed
changed_bit p y d q e f (inl h) off = ap (λ (x : Equation). bit_at x.line d) h.1
changed_bit p y d q e f (inr h) off = ap (λ (x : Equation). bit_at x.line d) h.1 ∙ (omega (arith, bit_at_xor e.line y d, off, bit_at-lt e.line d))

changed_off : (p y : ℕ) (q : List ℕ) (e f : Equation) → Changed p y q e f → bit_at y p ≡ 1 → bit_at f.line p ≡ 0
unfolding Changed
changed_off p y q e f (inl h) on = ap (λ (x : Equation). bit_at x.line p) h.1 ∙ h.0
changed_off p y q e f (inr h) on = ap (λ (x : Equation). bit_at x.line p) h.1 ∙ (omega (arith, bit_at_xor e.line y p, on, h.0))

changed_within : (cols p y : ℕ) (q : List ℕ) (e f : Equation) → Changed p y q e f → y < 2 ^ cols → e.line < 2 ^ cols → f.line < 2 ^ cols
unfolding Changed
changed_within cols p y q e f (inl h) lt k = subst (λ (x : Equation). x.line < 2 ^ cols) (sym h.1) k
changed_within cols p y q e f (inr h) lt k = subst (λ (x : Equation). x.line < 2 ^ cols) (sym h.1) (xor_lt cols e.line y k lt)

changed_part : (size p y : ℕ) (q : List ℕ) (e f : Equation) → Changed p y q e f → IsPiece size q → IsPiece size e.part → IsPiece size f.part
unfolding Changed
changed_part size p y q e f (inl h) k l = subst (λ (x : Equation). IsPiece size x.part) (sym h.1) l
changed_part size p y q e f (inr h) k l = subst (λ (x : Equation). IsPiece size x.part) (sym h.1) (piece_xor size e.part q l k)

-- the places stay fully reduced
pub grown_reduced : (cols size : ℕ) (ps : List Place) (p y : ℕ) (q : List ℕ) → IsNew cols size ps p y q → IsReduced cols size (grown p y q ps)
grown_reduced cols size ps p y q h =
    let t = h.reduced in
    let new : Equation = record { line = y; part = q } in
    record {
      sized = length-grown p y q ps ∙ t.sized;
      own = λ c f k. elim (cases_eq c p) [
        | inl same ↦
            let is = is_new cols size ps p y q f h (subst (λ n. Tells (grown p y q ps) n f) same k) in
            ap₂ (λ (x : Equation) n. bit_at x.line n) is same ∙ h.own
        | inr other ↦
            let r = old_tells cols size ps p y c q f other k in
            changed_bit p y c q r.0 f r.2 (h.clear c r.0 r.1) ∙ t.own c r.0 r.1
      ];
      within = λ c f k. elim (cases_eq c p) [
        | inl same ↦ subst (λ (x : Equation). x.line < 2 ^ cols) (sym (is_new cols size ps p y q f h (subst (λ n. Tells (grown p y q ps) n f) same k))) h.within
        | inr other ↦ let r = old_tells cols size ps p y c q f other k in changed_within cols p y q r.0 f r.2 h.within (t.within c r.0 r.1)
      ];
      part = λ c f k. elim (cases_eq c p) [
        | inl same ↦ subst (λ (x : Equation). IsPiece size x.part) (sym (is_new cols size ps p y q f h (subst (λ n. Tells (grown p y q ps) n f) same k))) h.part
        | inr other ↦ let r = old_tells cols size ps p y c q f other k in changed_part size p y q r.0 f r.2 h.part (t.part c r.0 r.1)
      ];
      apart = λ c d f g ne k l. elim (cases_eq c p) [
        | inl same ↦
            let is = is_new cols size ps p y q f h (subst (λ n. Tells (grown p y q ps) n f) same k) in
            let s = old_tells cols size ps p y d q g (λ e. ne (same ∙ sym e)) l in
            ap (λ (x : Equation). bit_at x.line d) is ∙ h.clear d s.0 s.1
        | inr other ↦
            let r = old_tells cols size ps p y c q f other k in
            elim (cases_eq d p) [
              | inl there ↦ ap (λ n. bit_at f.line n) there ∙ changed_off p y q r.0 f r.2 h.own
              | inr away ↦
                  let s = old_tells cols size ps p y d q g away l in
                  changed_bit p y d q r.0 f r.2 (h.clear d s.0 s.1) ∙ t.apart c d r.0 s.0 ne r.1 s.1
            ]
      ];
    }

-- ---- which blocks agree

changed_agrees : (b : List (List ℕ)) (p y : ℕ) (q : List ℕ) (e f : Equation) → Changed p y q e f → Agrees b y q → Agrees b e.line e.part → Agrees b f.line f.part
unfolding Changed
changed_agrees b p y q e f (inl h) k l = subst (λ (x : Equation). Agrees b x.line x.part) (sym h.1) l
changed_agrees b p y q e f (inr h) k l = subst (λ (x : Equation). Agrees b x.line x.part) (sym h.1) (agrees_xor b e.line y e.part q l k)

agrees_changed : (b : List (List ℕ)) (p y : ℕ) (q : List ℕ) (e f : Equation) → Changed p y q e f → Agrees b y q → Agrees b f.line f.part → Agrees b e.line e.part
unfolding Changed
agrees_changed b p y q e f (inl h) k l = subst (λ (x : Equation). Agrees b x.line x.part) h.1 l
agrees_changed b p y q e f (inr h) k l = agrees_back b e.line y e.part q (subst (λ (x : Equation). Agrees b x.line x.part) h.1 l) k

pub grown_agrees : (cols size : ℕ) (ps : List Place) (p y : ℕ) (q : List ℕ) (b : List (List ℕ)) → IsNew cols size ps p y q → AgreesAll b ps → Agrees b y q → AgreesAll b (grown p y q ps)
grown_agrees cols size ps p y q b h all new = λ c f k. elim (cases_eq c p) [
  | inl same ↦ subst (λ (x : Equation). Agrees b x.line x.part) (sym (is_new cols size ps p y q f h (subst (λ n. Tells (grown p y q ps) n f) same k))) new
  | inr other ↦ let r = old_tells cols size ps p y c q f other k in changed_agrees b p y q r.0 f r.2 new (all c r.0 r.1)
]

pub agrees_grown : (cols size : ℕ) (ps : List Place) (p y : ℕ) (q : List ℕ) (b : List (List ℕ)) → IsNew cols size ps p y q → AgreesAll b (grown p y q ps) → AgreesAll b ps × Agrees b y q
agrees_grown cols size ps p y q b h all =
    let new : Agrees b y q = all p (record { line = y; part = q }) (new_tells cols size ps p y q h) in (
      λ c e k.
          let r = tells_old cols size ps p y c q e (not_led cols size ps p y c q e h k) k in
          agrees_changed b p y q e r.0 r.2 new (all c r.0 r.1),
      new,
    )

-- ---- which lines are sums

changed_sum : (p y : ℕ) (q : List ℕ) (e f : Equation) (ls : List ℕ) → Changed p y q e f → IsSum y ls → IsSum e.line ls → IsSum f.line ls
unfolding Changed
changed_sum p y q e f ls (inl h) k l = subst (λ (x : Equation). IsSum x.line ls) (sym h.1) l
changed_sum p y q e f ls (inr h) k l = subst (λ (x : Equation). IsSum x.line ls) (sym h.1) (IsSum-xor e.line y ls l k)

xor_away : (a b : ℕ) → bit_xor b (bit_xor a b) ≡ a
xor_away a b = ap (λ x. bit_xor b x) (xor_comm a b) ∙ xor_back b a

sum_changed : (p y : ℕ) (q : List ℕ) (e f : Equation) (ls : List ℕ) → Changed p y q e f → IsSum y ls → IsSum f.line ls → IsSum e.line ls
unfolding Changed
sum_changed p y q e f ls (inl h) k l = subst (λ (x : Equation). IsSum x.line ls) h.1 l
sum_changed p y q e f ls (inr h) k l =
    subst (λ z. IsSum z ls) (xor_away e.line y) (IsSum-xor y (bit_xor e.line y) ls k (subst (λ (x : Equation). IsSum x.line ls) h.1 l))

pub grown_sums : (cols size : ℕ) (ps : List Place) (p y : ℕ) (q : List ℕ) (x : ℕ) → IsNew cols size ps p y q → IsSum x (lines_held (grown p y q ps)) → IsSum x (y ∷ lines_held ps)
grown_sums cols size ps p y q x h = IsSum-within x (lines_held (grown p y q ps)) (y ∷ lines_held ps) (λ l m.
    let r = lines-In (grown p y q ps) l m in
    let new : IsSum y (y ∷ lines_held ps) = IsSum-line y (y ∷ lines_held ps) (inl refl) in
    subst (λ z. IsSum z (y ∷ lines_held ps)) (sym r.3) (elim (cases_eq r.0 p) [
      | inl same ↦ subst (λ (z : Equation). IsSum z.line (y ∷ lines_held ps)) (sym (is_new cols size ps p y q r.1 h (subst (λ n. Tells (grown p y q ps) n r.1) same r.2))) new
      | inr other ↦
          let s = old_tells cols size ps p y r.0 q r.1 other r.2 in
          changed_sum p y q s.0 r.1 (y ∷ lines_held ps) s.2 new (inl (told-sum r.0 ps s.0 s.1))
    ]))

pub sums_grown : (cols size : ℕ) (ps : List Place) (p y : ℕ) (q : List ℕ) (x : ℕ) → IsNew cols size ps p y q → IsSum x (y ∷ lines_held ps) → IsSum x (lines_held (grown p y q ps))
sums_grown cols size ps p y q x h = IsSum-within x (y ∷ lines_held ps) (lines_held (grown p y q ps)) (λ l m.
    let ls : List ℕ = lines_held (grown p y q ps) in
    let new : IsSum y ls = told-sum p (grown p y q ps) (record { line = y; part = q }) (new_tells cols size ps p y q h) in
    elim m [
      | inl e ↦ subst (λ z. IsSum z ls) (sym e) new
      | inr i ↦
          let r = lines-In ps l i in
          let s = tells_old cols size ps p y r.0 q r.1 (not_led cols size ps p y r.0 q r.1 h r.2) r.2 in
          subst (λ z. IsSum z ls) (sym r.3) (sum_changed p y q r.1 s.0 ls s.2 new (told-sum r.0 (grown p y q ps) s.0 s.1))
    ])
