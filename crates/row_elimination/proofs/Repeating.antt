-- Pieces that need no pass over the columns: those whose column is free, and those that came before.
use Rattle.std.proofs.Common.{◌≡◌, ◌≢◌, ℕ, suc, ◌-◌, ◌<◌, ◌≤◌, ◌^◌, List, [], ◌∷◌, set, length, get_or, bit_xor, refl, sym, ap, ap₂, ◌∙◌, subst, inl, inr, arith}
use Rattle.std.specs.Int.{bit_at}
use Rattle.std.specs.Int.Bits.{xor_self}
use Rattle.std.proofs.Math.Pow.{pow-lt}
use Rattle.std.proofs.lemmas.Nat.Bits.{bit_at-zero, bit_at-pow_same, bit_at-pow_other}
use Rattle.std.proofs.lemmas.Bool.{cases_eq}
use Rattle.std.proofs.lemmas.List.{set-get_or}
use Rattle.frag_model.specs.Fragments.{Equation, IsPiece, xor_bytes}
use Rattle.frag_model.proofs.Parts.{xor_same, get_or-xor_bytes}
use Rattle.row_elimination.specs.declared.stages.Stage.TheVariants as stage
use Rattle.row_elimination.specs.declared.stages.Fed.{Fed}
use Rattle.row_elimination.specs.declared.stages.Fed.TheVariants as fed
use Rattle.row_elimination.specs.HeldPlaces.{Place, free, piece, told, rows_held, gained_held, grown}
use Rattle.row_elimination.specs.Inside.{IsReduced}
use Rattle.row_elimination.specs.HeldSteps.{Reduced, Tells}
use Rattle.row_elimination.specs.HeldTable.{Grid, SameRoom}
use Rattle.row_elimination.specs.HeldTaking.{held_of, IsReady, stage_after, FedAs, DecidedAs}
use Rattle.row_elimination.proofs.Reducing.{taken_begins, taken_more}
use Rattle.row_elimination.proofs.Settling.{unit_off}
use Rattle.row_elimination.proofs.Gridding.{put_places, put_reduced}
use Rattle.row_elimination.proofs.Answering.{number_piece, takes_new_piece, reduced_in, decided, conflict_is, known_piece_is}

-- nothing leads a free column: the line of its piece stays as it is
reduced_free : (cols size k : ℕ) (ps : List Place) (part : List ℕ) → k < cols → get_or ps k free ≡ free → IsPiece size part → Reduced cols size ps (2 ^ k) part (2 ^ k) part
reduced_free cols size k ps part lt none sized =
    let begun = taken_begins cols size ps (2 ^ k) part (pow-lt lt) sized in
    record {
      agrees = begun.agrees;
      sum = begun.sum;
      clear = λ d e t. bit_at-pow_other k d (unit_off k d ps e t none);
      within = begun.within;
      piece = begun.piece;
    }

-- a piece that is held takes the line away, and leaves of the part what differs
reduced_again : (cols size k : ℕ) (ps : List Place) (part held : List ℕ) → IsReduced cols size ps → k < cols → get_or ps k free ≡ piece held → IsPiece size part
    → Reduced cols size ps (2 ^ k) part 0 (xor_bytes part held)
unfolding told
reduced_again cols size k ps part held t lt is sized =
    let e : Equation = record { line = 2 ^ k; part = held } in
    let tells : Tells ps k e = ap (told k) is in
    let after = taken_more cols size ps (2 ^ k) part k (2 ^ k) part e t tells (taken_begins cols size ps (2 ^ k) part (pow-lt lt) sized) in
    let none : bit_xor (2 ^ k) (2 ^ k) ≡ 0 = xor_self (2 ^ k) in
    let P : ℕ → Type 0 = λ l. Reduced cols size ps (2 ^ k) part l (xor_bytes part held) in
    subst P none (record {
      agrees = after.agrees;
      sum = after.sum;
      clear = λ d f u. ap (λ l. bit_at l d) none ∙ bit_at-zero d;
      within = after.within;
      piece = after.piece;
    })

-- ---- a table that receives such a piece

-- what is left of the line is left of a piece's number
ready : (g : Grid) (n k line : ℕ) (part rest : List ℕ) → IsReduced g.shape.nb_frag g.shape.frag_size g.places → rows_held g.places ≤ g.shape.rows → gained_held g.places < g.shape.nb_frag
    → 1 ≤ g.shape.frag_size → n ≡ suc k → n ≤ g.shape.nb_frag → IsPiece g.shape.frag_size part → Reduced g.shape.nb_frag g.shape.frag_size g.places (2 ^ k) part line rest → IsReady g n part line rest
ready g n k line part rest held room more some is le sized left = record {
  held = held;
  room = room;
  more = more;
  some = some;
  first = omega arith;
  piece = sized;
  left = subst (λ (l : ℕ). Reduced g.shape.nb_frag g.shape.frag_size g.places l part line rest) (sym (number_piece g.shape.nb_frag n k is le)) left;
}

pub ready_free : (g : Grid) (n k : ℕ) (part : List ℕ) → IsReduced g.shape.nb_frag g.shape.frag_size g.places → rows_held g.places ≤ g.shape.rows → gained_held g.places < g.shape.nb_frag
    → 1 ≤ g.shape.frag_size → n ≡ suc k → n ≤ g.shape.nb_frag → IsPiece g.shape.frag_size part → get_or g.places k free ≡ free → IsReady g n part (2 ^ k) part
ready_free g n k part held room more some is le sized none =
    ready g n k (2 ^ k) part part held room more some is le sized (reduced_free g.shape.nb_frag g.shape.frag_size k g.places part (omega arith) none sized)

pub ready_again : (g : Grid) (n k : ℕ) (part held : List ℕ) → IsReduced g.shape.nb_frag g.shape.frag_size g.places → rows_held g.places ≤ g.shape.rows → gained_held g.places < g.shape.nb_frag
    → 1 ≤ g.shape.frag_size → n ≡ suc k → n ≤ g.shape.nb_frag → IsPiece g.shape.frag_size part → get_or g.places k free ≡ piece held → IsReady g n part 0 (xor_bytes part held)
ready_again g n k part held t room more some is le sized before =
    ready g n k 0 part (xor_bytes part held) t room more some is le sized (reduced_again g.shape.nb_frag g.shape.frag_size k g.places part held t (omega arith) before sized)

-- ---- what comes of a piece that came before

pub again_is : (g : Grid) (n : ℕ) (part held : List ℕ) → IsReady g n part 0 (xor_bytes part held) → n ≤ g.shape.nb_frag → get_or g.places (n - 1) free ≡ piece held → held ≡ part
    → FedAs fed.Receiving (held_of stage.Receiving g) (held_of (stage_after fed.Receiving) g) n part
again_is g n part held ready le before same =
    (known_piece_is g g n part (xor_bytes part held) 0 refl ready
    (λ i. get_or-xor_bytes part held i ∙ ap (λ (x : List ℕ). bit_xor (get_or part i 0) (get_or x i 0)) same ∙ xor_self (get_or part i 0))
    le (record { shape = refl; room = refl })
    (sym (ap (λ p. set g.places (n - 1) p) (ap piece (sym same) ∙ sym before) ∙ set-get_or g.places (n - 1) free))).0

-- two lists of one length that are not the same differ somewhere
differs : (xs ys : List ℕ) → length xs ≡ length ys → xs ≢ ys → (i : ℕ) × (get_or xs i 0 ≢ get_or ys i 0)
differs [] [] e other = absurd (other refl)
differs [] (y ∷ ys) e other = absurd (omega arith)
differs (x ∷ xs) [] e other = absurd (omega arith)
differs (x ∷ xs) (y ∷ ys) e other = elim (cases_eq x y) [
  | inl same ↦
      let r = differs xs ys (omega arith) (λ s. other (ap₂ (λ a l. a ∷ l) same s)) in
      (suc r.0, r.1)
  | inr ne ↦ (0, ne)
]

pub other_is : (g : Grid) (n : ℕ) (part held : List ℕ) → IsReady g n part 0 (xor_bytes part held) → get_or g.places (n - 1) free ≡ piece held → held ≢ part
    → FedAs fed.Conflict (held_of stage.Receiving g) (held_of (stage_after fed.Conflict) g) n part
unfolding told
other_is g n part held ready before other =
    let e : Equation = record { line = 2 ^ (n - 1); part = held } in
    let sized = (ready.held.part (n - 1) e (ap (told (n - 1)) before)).sized in
    let r = differs part held (ready.piece.sized ∙ sym sized) (λ same. other (sym same)) in
    conflict_is g n r.0 part (xor_bytes part held) 0 refl ready (λ none. r.1 (xor_same (get_or part r.0 0) (get_or held r.0 0) (sym (get_or-xor_bytes part held r.0) ∙ none)))

-- ---- what comes of one that did not, where no row is held

pub first_held : (g now : Grid) (n : ℕ) (part : List ℕ) → IsReady g n part (2 ^ (n - 1)) part → n ≤ g.shape.nb_frag → get_or g.places (n - 1) free ≡ free → rows_held g.places ≡ 0 → SameRoom g now
    → now.places ≡ set g.places (n - 1) (piece part) → IsReduced now.shape.nb_frag now.shape.frag_size now.places
first_held g now n part ready le fresh none room places =
    reduced_in g now (set g.places (n - 1) (piece part)) room places (put_reduced g.shape (n - 1) g.places part ready.held (omega (arith, ready.first)) ready.piece fresh none)

pub first_is : (answer : Fed) (g now new : Grid) (n : ℕ) (part : List ℕ) → IsReady g n part (2 ^ (n - 1)) part → n ≤ g.shape.nb_frag → rows_held g.places ≡ 0 → SameRoom g now
    → now.places ≡ set g.places (n - 1) (piece part) → IsReduced now.shape.nb_frag now.shape.frag_size now.places → DecidedAs answer now new
    → FedAs answer (held_of stage.Receiving g) (held_of (stage_after answer) new) n part
first_is answer g now new n part ready le none room places reduced d =
    let k : ℕ = n - 1 in
    let places_grown : now.places ≡ set (grown k (2 ^ k) part g.places) k (piece part) = places ∙ sym (put_places k (2 ^ k) part g.places (piece part) none) in
    decided answer g now new n part ready.piece.sized ready.held ready.some
    (takes_new_piece g now n k k (2 ^ k) part part ready (omega (arith, ready.first)) le (omega (arith, ready.first)) (bit_at-pow_same k) room places_grown)
    reduced room d
