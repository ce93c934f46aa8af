-- Where a piece's own column leads an equation that says the piece, the place becomes the piece and says the same.
use Rattle.std.proofs.Common.{◌≡◌, ◌≢◌, ℕ, ◌+◌, ◌<◌, ◌^◌, false, List, set, length, get_or, Some, bit_xor, refl, sym, ap, ap₂, ◌∙◌, subst, inl, inr, arith, length-set, get_or-set_same, get_or-set_other}
use Rattle.std.specs.Int.{bit_at}
use Rattle.std.proofs.lemmas.Nat.{pow_pos}
use Rattle.std.proofs.lemmas.Nat.Bits.{bit_at_xor, bit_at-pow_same, bit_at-pow_other}
use Rattle.std.proofs.lemmas.Bool.{cases_eq}
use Rattle.std.proofs.lemmas.List.{ext_get_or}
use Rattle.frag_model.specs.Fragments.{Shape, Equation, byte_at}
use Rattle.frag_model.proofs.Parts.{xor_same}
use Rattle.frag_model.specs.Gain.{IsSum}
use Rattle.frag_model.proofs.Tables.{IsSum-xor, IsSum-within}
use Rattle.row_elimination.specs.HeldPlaces.{Place, free, piece, row, told, lines_held, is_piece, is_row, rows_held, pieces_held, gained_held, cleared, grown}
use Rattle.row_elimination.specs.Inside.{IsReduced}
use Rattle.row_elimination.proofs.Telling.{Tells, AgreesAll, told-sum, lines-In, no_lead}
use Rattle.row_elimination.proofs.Blocks.{some_fitting}
use Rattle.row_elimination.proofs.Counting.{one, one_true, one_false, rows_set, pieces_set, held_kind, is_piece-cleared}
use Rattle.row_elimination.proofs.Growing.{IsNew, at_old, new_at}
pub use Rattle.row_elimination.specs.HeldSteps.{Knows}

-- its column then leads an equation
pub unit_off : (k d : ℕ) (ps : List Place) (e : Equation) → Tells ps d e → get_or ps k free ≡ free → d ≢ k
unfolding told
unit_off k d ps e h none = λ same.
    let no : told d free ≡ Some e = subst (λ p. told d p ≡ Some e) (ap (λ n. get_or ps n free) same ∙ none) h in
    cc

pub not_free : (shape : Shape) (ps : List Place) (k : ℕ) (part : List ℕ) → Knows shape ps k part → get_or ps k free ≢ free
not_free shape ps k part h none =
    let zero_there : 2 ^ k ≡ 0 = no_lead shape.nb_frag shape.frag_size (2 ^ k) ps h.reduced (λ c e t. bit_at-pow_other k c (unit_off k c ps e t none)) h.sum in
    omega (arith, pow_pos k)

leads : (shape : Shape) (ps : List Place) (k : ℕ) (part : List ℕ) (e : Equation) → Knows shape ps k part → Tells ps k e → e ≡ record { line = 2 ^ k; part = part }
leads shape ps k part e h t =
    let cols : ℕ = shape.nb_frag in
    let size : ℕ = shape.frag_size in
    let rest : bit_xor e.line (2 ^ k) ≡ 0 = no_lead cols size (bit_xor e.line (2 ^ k)) ps h.reduced (λ c f u. elim (cases_eq c k) [
      | inl same ↦ ap (λ n. bit_at (bit_xor e.line (2 ^ k)) n) same ∙ (omega (arith, bit_at_xor e.line (2 ^ k) k, h.reduced.own k e t, bit_at-pow_same k))
      | inr other ↦ omega (arith, bit_at_xor e.line (2 ^ k) c, h.reduced.apart k c e f (λ s. other (sym s)) t u, bit_at-pow_other k c other)
    ]) (IsSum-xor e.line (2 ^ k) (lines_held ps) (told-sum k ps e t) h.sum) in
    let line : e.line ≡ 2 ^ k = xor_same e.line (2 ^ k) rest in
    let b = some_fitting shape ps h.reduced in
    let part_is : e.part ≡ part = ext_get_or 0 e.part part ((h.reduced.part k e t).sized ∙ sym h.piece.sized)
    (λ i lt. sym (b.2 k e t i) ∙ ap (λ l. byte_at l i b.0) line ∙ h.agrees b.0 b.2 i) in
    ap₂ (λ l p. record { line = l; part = p }) line part_is

some_told : (c : ℕ) (x : Place) → x ≢ free → (e : Equation) × (told c x ≡ Some e)
unfolding told
some_told c free ne = absurd (ne refl)
some_told c (piece part) ne = (record { line = 2 ^ c; part = part }, refl)
some_told c (row line part) ne = (record { line = line; part = part }, refl)

pub tells_piece : (shape : Shape) (ps : List Place) (k : ℕ) (part : List ℕ) → Knows shape ps k part → Tells ps k (record { line = 2 ^ k; part = part })
tells_piece shape ps k part h =
    let r = some_told k (get_or ps k free) (not_free shape ps k part h) in
    r.1 ∙ ap Some (leads shape ps k part r.0 h r.1)

-- ---- the place becomes the piece

told_set : (shape : Shape) (ps : List Place) (k : ℕ) (part : List ℕ) → Knows shape ps k part → (c : ℕ) → told c (get_or (set ps k (piece part)) c free) ≡ told c (get_or ps c free)
unfolding told
told_set shape ps k part h c = elim (cases_eq c k) [
  | inl same ↦
      ap (λ n. told n (get_or (set ps k (piece part)) n free)) same
      ∙ ap (told k) (get_or-set_same ps k (piece part) free (omega (arith, h.reduced.sized, h.inside)))
      ∙ sym (tells_piece shape ps k part h)
      ∙ sym (ap (λ n. told n (get_or ps n free)) same)
  | inr other ↦ ap (told c) (get_or-set_other ps k c (piece part) free other)
]

pub set_tells : (shape : Shape) (ps : List Place) (k : ℕ) (part : List ℕ) (c : ℕ) (e : Equation) → Knows shape ps k part → Tells ps c e → Tells (set ps k (piece part)) c e
set_tells shape ps k part c e h t = told_set shape ps k part h c ∙ t

pub tells_set : (shape : Shape) (ps : List Place) (k : ℕ) (part : List ℕ) (c : ℕ) (e : Equation) → Knows shape ps k part → Tells (set ps k (piece part)) c e → Tells ps c e
tells_set shape ps k part c e h t = sym (told_set shape ps k part h c) ∙ t

pub settled_reduced : (shape : Shape) (ps : List Place) (k : ℕ) (part : List ℕ) → Knows shape ps k part → IsReduced shape.nb_frag shape.frag_size (set ps k (piece part))
settled_reduced shape ps k part h =
    let t = h.reduced in
    record {
      sized = length-set ps k (piece part) ∙ t.sized;
      own = λ c e u. t.own c e (tells_set shape ps k part c e h u);
      within = λ c e u. t.within c e (tells_set shape ps k part c e h u);
      part = λ c e u. t.part c e (tells_set shape ps k part c e h u);
      apart = λ c d e f ne u v. t.apart c d e f ne (tells_set shape ps k part c e h u) (tells_set shape ps k part d f h v);
    }

pub settled_agrees : (shape : Shape) (ps : List Place) (k : ℕ) (part : List ℕ) (b : List (List ℕ)) → Knows shape ps k part → AgreesAll b ps → AgreesAll b (set ps k (piece part))
settled_agrees shape ps k part b h all = λ c e u. all c e (tells_set shape ps k part c e h u)

pub agrees_settled : (shape : Shape) (ps : List Place) (k : ℕ) (part : List ℕ) (b : List (List ℕ)) → Knows shape ps k part → AgreesAll b (set ps k (piece part)) → AgreesAll b ps
agrees_settled shape ps k part b h all = λ c e u. all c e (set_tells shape ps k part c e h u)

pub settled_sums : (shape : Shape) (ps : List Place) (k : ℕ) (part : List ℕ) (x : ℕ) → Knows shape ps k part → IsSum x (lines_held (set ps k (piece part))) → IsSum x (lines_held ps)
settled_sums shape ps k part x h = IsSum-within x (lines_held (set ps k (piece part))) (lines_held ps) (λ l m.
    let r = lines-In (set ps k (piece part)) l m in
    subst (λ z. IsSum z (lines_held ps)) (sym r.3) (told-sum r.0 ps r.1 (tells_set shape ps k part r.0 r.1 h r.2)))

pub sums_settled : (shape : Shape) (ps : List Place) (k : ℕ) (part : List ℕ) (x : ℕ) → Knows shape ps k part → IsSum x (lines_held ps) → IsSum x (lines_held (set ps k (piece part)))
sums_settled shape ps k part x h = IsSum-within x (lines_held ps) (lines_held (set ps k (piece part))) (λ l m.
    let r = lines-In ps l m in
    subst (λ z. IsSum z (lines_held (set ps k (piece part)))) (sym r.3) (told-sum r.0 (set ps k (piece part)) r.1 (set_tells shape ps k part r.0 r.1 h r.2)))

-- nothing more is gained; where it led a row there is one row less and one piece more
pub settled_gained : (shape : Shape) (ps : List Place) (k : ℕ) (part : List ℕ) → Knows shape ps k part → gained_held (set ps k (piece part)) ≡ gained_held ps
unfolding gained_held is_piece is_row
settled_gained shape ps k part h =
    let lt : k < length ps = omega (arith, h.reduced.sized, h.inside) in
    let kind : one (is_piece (get_or ps k free)) + one (is_row (get_or ps k free)) ≡ 1 = held_kind k (get_or ps k free) _ (tells_piece shape ps k part h) in
    omega (arith, pieces_set ps k (piece part) lt, rows_set ps k (piece part) lt, kind, one_true (is_piece (piece part)) refl, one_false (is_row (piece part)) refl)

pub settled_pieces : (shape : Shape) (ps : List Place) (k : ℕ) (part : List ℕ) → Knows shape ps k part → pieces_held (set ps k (piece part)) + one (is_piece (get_or ps k free)) ≡ pieces_held ps + 1
unfolding is_piece
settled_pieces shape ps k part h =
    let lt : k < length ps = omega (arith, h.reduced.sized, h.inside) in
    omega (arith, pieces_set ps k (piece part) lt, one_true (is_piece (piece part)) refl)

pub settled_rows : (shape : Shape) (ps : List Place) (k : ℕ) (part : List ℕ) → Knows shape ps k part → rows_held (set ps k (piece part)) + one (is_row (get_or ps k free)) ≡ rows_held ps
unfolding is_row
settled_rows shape ps k part h =
    let lt : k < length ps = omega (arith, h.reduced.sized, h.inside) in
    omega (arith, rows_set ps k (piece part) lt, one_false (is_row (piece part)) refl)

-- a place with an equation that is no piece is a row, also after a new row
pub learned_row : (shape : Shape) (ps : List Place) (k p y : ℕ) (q part : List ℕ) → IsNew shape.nb_frag shape.frag_size ps p y q → Knows shape (grown p y q ps) k part
    → is_piece (get_or ps k free) ≡ false → one (is_row (get_or (grown p y q ps) k free)) ≡ 1
unfolding is_piece is_row cleared
learned_row shape ps k p y q part new known fresh = elim (cases_eq k p) [
  | inl same ↦ one_true _ (ap (λ n. is_row (get_or (grown p y q ps) n free)) same ∙ ap is_row (new_at shape.nb_frag shape.frag_size ps p y q new))
  | inr other ↦
      let kind : one (is_piece (get_or (grown p y q ps) k free)) + one (is_row (get_or (grown p y q ps) k free)) ≡ 1 = held_kind k (get_or (grown p y q ps) k free) _ (tells_piece shape (grown p y q ps) k part known) in
      let none : one (is_piece (get_or (grown p y q ps) k free)) ≡ 0 =
      one_false _ (ap is_piece (at_old p y k q ps other) ∙ is_piece-cleared p y q (get_or ps k free) ∙ fresh) in
      omega arith
]
