-- A solver that stands for a list stands for it with one fragment more, or the verdict is the one that it answers.
use Rattle.std.proofs.Common.{◌≡◌, ℕ, zero, suc, ◌+◌, ◌-◌, ◌<◌, ◌≤◌, Bool, true, false, ◌||◌, ◌&&◌, not, nat_le, All, List, [], ◌∷◌, ◌++◌, map, get_or, replicate, bit_xor, refl, sym, ap, ap₂, ◌∙◌, subst, inl, inr, arith, le-leb}
use Rattle.std.specs.Prelude.{if◌then◌else◌, ◌↔◌}
use Rattle.std.specs.List.{concat, AllByRecursion}
use Rattle.std.proofs.lemmas.Bool.{cases_lt, and_left, and_right, and_from, lt-leb, false≢true}
use Rattle.std.proofs.lemmas.List.Elements.{All-nil, All-from_recursion, recursion_from_All}
use Rattle.frag_model.specs.Fragments.{Fragment, Shape, Equation, IsUncoded, Meets, equation_of, line_of}
use Rattle.frag_model.specs.Gain.{is_sum, gain_of_lines, gain_of, direct_of, numbers_of, gain, direct, excess}
use Rattle.frag_model.specs.Verdict.{Verdict, receiving, complete, no_rows, conflict, verdict, verdict_now, first_verdict, lacking, missing, missing_now, missing_next, FittingBlock, IsVerdictNow}
use Rattle.frag_model.specs.Laws.{AreNumbered}
use Rattle.frag_model.proofs.Members.{In}
use Rattle.frag_model.proofs.Sums.{is_sum-cons}
use Rattle.frag_model.proofs.Uncoded.{heard_or_new, direct_of-heard, direct_of-new}
use Rattle.frag_model.proofs.Dimension.{direct_of-coded}
use Rattle.frag_model.proofs.Enough.{enough_after}
use Rattle.frag_model.proofs.Verdicts.{verdict_now-right, IsVerdictNow-same}
use Rattle.row_elimination.specs.declared.stages.Stage.TheVariants as stage
use Rattle.row_elimination.specs.HeldPlaces.{Place, free, told, equations_from, equations_held, lines_held, is_piece, pieces_held, rows_held, gained_held, FitsHeld}
use Rattle.row_elimination.specs.HeldSolver.{Held, missing_of, line_for, equation_for, IsLeft, is_new_piece, Takes, Receives, Completes, Contradicts, Overflows, IsBegun}
use Rattle.row_elimination.specs.HeldHistory.{StandsFor, FeedStands}
use Rattle.row_elimination.proofs.Gridding.{free_everywhere, rows_none, gained_none}

-- ---- one fragment more

fits_more : (shape : Shape) (f : Fragment) (older : List Fragment) (b : List (List ℕ)) → FittingBlock shape (f ∷ older) b → FittingBlock shape older b × Meets shape.frag_size b (equation_of shape f)
fits_more shape f older b h =
    let P : Fragment → Type 0 = λ g. Meets shape.frag_size b (equation_of shape g) in
    let r = recursion_from_All P (f ∷ older) h.fitting in
    (record { shaped = h.shaped; fitting = All-from_recursion P older r.1 }, r.0)

more_fits : (shape : Shape) (f : Fragment) (older : List Fragment) (b : List (List ℕ)) → FittingBlock shape older b → Meets shape.frag_size b (equation_of shape f) → FittingBlock shape (f ∷ older) b
more_fits shape f older b h m =
    let P : Fragment → Type 0 = λ g. Meets shape.frag_size b (equation_of shape g) in
    record { shaped = h.shaped; fitting = All-from_recursion P (f ∷ older) (m, recursion_from_All P older h.fitting) }

-- the blocks left over are those that fit one fragment more
left_fits : (old : Held) (f : Fragment) (older : List Fragment) (b : List (List ℕ)) → StandsFor old older → IsLeft old f.number f.part b → FittingBlock old.shape (f ∷ older) b
unfolding equation_of equation_for
left_fits old f older b s h = more_fits old.shape f older b ((s.fits b).1 h.fits) h.meets

fits_left : (old : Held) (f : Fragment) (older : List Fragment) (b : List (List ℕ)) → StandsFor old older → FittingBlock old.shape (f ∷ older) b → IsLeft old f.number f.part b
unfolding equation_of equation_for
fits_left old f older b s h = let r = fits_more old.shape f older b h in record { fits = (s.fits b).0 r.0; meets = r.1 }

more_lines : (shape : Shape) (f : Fragment) (older : List Fragment) → map (λ n. line_of shape.nb_frag n) (numbers_of (f ∷ older)) ≡ line_of shape.nb_frag f.number ∷ map (λ n. line_of shape.nb_frag n) (numbers_of older)
unfolding numbers_of
more_lines shape f older = refl

gain_more : (shape : Shape) (f : Fragment) (older : List Fragment)
    → gain shape (f ∷ older) ≡ gain shape older + (if is_sum (line_of shape.nb_frag f.number) (map (λ n. line_of shape.nb_frag n) (numbers_of older)) then 0 else 1)
unfolding gain gain_of gain_of_lines numbers_of
gain_more shape f older = refl

-- ---- direct, by what is marked

direct_heard : (shape : Shape) (f : Fragment) (older : List Fragment) → In f.number (numbers_of older) → direct shape (f ∷ older) ≡ direct shape older
unfolding direct numbers_of
direct_heard shape f older m = direct_of-heard shape.nb_frag f.number (map (λ (g : Fragment). g.number) older) m

direct_new : (shape : Shape) (f : Fragment) (older : List Fragment) → f.number ≤ shape.nb_frag → (In f.number (numbers_of older) → ⊥) → direct shape (f ∷ older) ≡ direct shape older + 1
unfolding direct numbers_of
direct_new shape f older le new = direct_of-new shape.nb_frag f.number (map (λ (g : Fragment). g.number) older) le new

direct_coded : (shape : Shape) (f : Fragment) (older : List Fragment) → shape.nb_frag < f.number → direct shape (f ∷ older) ≡ direct shape older
unfolding direct numbers_of
direct_coded shape f older lt = direct_of-coded shape.nb_frag f.number (map (λ (g : Fragment). g.number) older) lt

is_false : (t : Bool) → (t ≡ true → ⊥) → t ≡ false
is_false true h = absurd (h refl)
is_false false h = refl

direct_more : (old : Held) (f : Fragment) (older : List Fragment) → 1 ≤ f.number → StandsFor old older → direct old.shape (f ∷ older) ≡ direct old.shape older + (if is_new_piece old f.number then 1 else 0)
unfolding is_new_piece
direct_more old f older some s =
    let n : ℕ = f.number in
    let c : ℕ = n - 1 in
    let at : Bool = is_piece (get_or old.places c free) in
    let extra : Bool → ℕ = λ t. if t then 1 else 0 in
    let back : suc c ≡ n = omega arith in
    elim (cases_lt old.shape.nb_frag n) [
      | inl lt ↦
          let none : extra (nat_le n old.shape.nb_frag && not at) ≡ 0 = ap extra (and_left (nat_le n old.shape.nb_frag) (not at) (lt-leb n old.shape.nb_frag lt)) in
          omega (arith, direct_coded old.shape f older lt, none)
      | inr le ↦
          let iff = s.marked c (omega arith) in
          elim (heard_or_new n (numbers_of older)) [
            | inl m ↦
                let mark : at ≡ true = iff.1 (subst (λ k. In k (numbers_of older)) (sym back) m) in
                let none : extra (nat_le n old.shape.nb_frag && not at) ≡ 0 = ap extra (and_right (nat_le n old.shape.nb_frag) (not at) (ap not mark)) in
                omega (arith, direct_heard old.shape f older m, none)
            | inr new ↦
                let mark : at ≡ false = is_false at (λ e. new (subst (λ k. In k (numbers_of older)) back (iff.0 e))) in
                let one : extra (nat_le n old.shape.nb_frag && not at) ≡ 1 = ap extra (and_from (nat_le n old.shape.nb_frag) (not at) (le-leb n old.shape.nb_frag le) (ap not mark)) in
                omega (arith, direct_new old.shape f older le new, one)
          ]
    ]

-- ---- what is gained

gained_more : (old new : Held) (f : Fragment) (older : List Fragment) → StandsFor old older → Takes old new f.number f.part → gained_held new.places ≡ gain old.shape (f ∷ older)
gained_more old new f older s t =
    let extra : Bool → ℕ = λ u. if u then 0 else 1 in
    let same : extra (is_sum (line_of old.shape.nb_frag f.number) (map (λ n. line_of old.shape.nb_frag n) (numbers_of older))) ≡ extra (is_sum (line_for old f.number) (lines_held old.places)) =
    ap extra (s.sums (line_of old.shape.nb_frag f.number)) in
    omega (arith, t.gained, gain_more old.shape f older, s.gained, same)

pieces_more : (old new : Held) (f : Fragment) (older : List Fragment) → 1 ≤ f.number → StandsFor old older → Takes old new f.number f.part → pieces_held new.places ≡ direct old.shape (f ∷ older)
pieces_more old new f older some s t = omega (arith, t.pieces, direct_more old f older some s, s.direct)

rows_more : (old new : Held) (f : Fragment) (older : List Fragment) → 1 ≤ f.number → StandsFor old older → Takes old new f.number f.part → rows_held new.places ≡ excess old.shape (f ∷ older)
unfolding excess gained_held
rows_more old new f older some s t =
    let all : pieces_held new.places + rows_held new.places ≡ gain old.shape (f ∷ older) = gained_more old new f older s t in
    omega (arith, all, pieces_more old new f older some s t)

room_more : (old new : Held) (f : Fragment) (older : List Fragment) → 1 ≤ f.number → StandsFor old older → Takes old new f.number f.part → excess old.shape (f ∷ older) ≤ old.shape.rows
room_more old new f older some s t =
    let rows : new.shape.rows ≡ old.shape.rows = ap (λ (x : Shape). x.rows) t.shape in
    omega (arith, rows_more old new f older some s t, t.room, rows)

-- ---- the verdict

now_is : (shape : Shape) (f : Fragment) (older : List Fragment) (v : Verdict) → verdict shape older ≡ receiving → IsVerdictNow shape (f ∷ older) f.mark v → verdict shape (f ∷ older) ≡ v
unfolding verdict first_verdict
now_is shape f older v was right =
    ap (λ u. first_verdict u (verdict_now shape (f ∷ older) f.mark)) was
    ∙ IsVerdictNow-same shape (f ∷ older) f.mark (verdict_now shape (f ∷ older) f.mark) v (verdict_now-right shape (f ∷ older) f.mark) right

missing_lacks : (shape : Shape) (heard : List Fragment) → verdict shape heard ≡ receiving → missing shape heard ≡ lacking shape heard
unfolding missing verdict first_verdict missing_next missing_now lacking gain gain_of gain_of_lines numbers_of
missing_lacks shape [] e = omega arith
missing_lacks shape (f ∷ older) e = by_older (verdict shape older) refl e
  where
    by_older : (v : Verdict) → v ≡ verdict shape older → first_verdict v (verdict_now shape (f ∷ older) f.mark) ≡ receiving
        → missing_next v (missing shape older) (missing_now (first_verdict v (verdict_now shape (f ∷ older) f.mark)) (lacking shape (f ∷ older)) (lacking shape older)) ≡ lacking shape (f ∷ older)
    by_older receiving is k = ap (λ w. missing_now w (lacking shape (f ∷ older)) (lacking shape older)) k
    by_older (complete at b) is k = absurd (cc)
    by_older (no_rows at) is k = absurd (cc)
    by_older (conflict at) is k = absurd (cc)

missing_decides : (shape : Shape) (f : Fragment) (older : List Fragment) (v : Verdict) → verdict shape older ≡ receiving → verdict shape (f ∷ older) ≡ v
    → missing shape (f ∷ older) ≡ missing_now v (lacking shape (f ∷ older)) (lacking shape older)
unfolding missing missing_next
missing_decides shape f older v was is =
    ap (λ u. missing_next u (missing shape older) (missing_now (verdict shape (f ∷ older)) (lacking shape (f ∷ older)) (lacking shape older))) was
    ∙ ap (λ u. missing_now u (lacking shape (f ∷ older)) (lacking shape older)) is

lacks : (held : Held) (heard : List Fragment) → StandsFor held heard → missing held.shape heard ≡ missing_of held
unfolding lacking missing_of
lacks held heard s = missing_lacks held.shape heard s.undecided ∙ ap (λ g. held.shape.nb_frag - g) (sym s.gained)

-- ---- each answer

receives_verdict : (old new : Held) (f : Fragment) (older : List Fragment) → 1 ≤ f.number → StandsFor old older → Receives old new f.number f.part → verdict old.shape (f ∷ older) ≡ receiving
unfolding IsVerdictNow
receives_verdict old new f older some s r =
    let two = r.two in
    let fit : (b : List (List ℕ)) → FitsHeld new.shape new.places b → FittingBlock old.shape (f ∷ older) b = λ b h. left_fits old f older b s ((r.takes.fits b).0 h) in
    now_is old.shape f older receiving s.undecided
    (room_more old new f older some s r.takes, (two.0, two.1, record { one = fit two.0 two.2; other = fit two.1 two.3; differ = two.4 }))

receives : (old new : Held) (f : Fragment) (older : List Fragment) → 1 ≤ f.number → StandsFor old older → Receives old new f.number f.part → StandsFor new (f ∷ older)
unfolding numbers_of
receives old new f older some s r =
    let t = r.takes in
    let e : new.shape ≡ old.shape = t.shape in
    let g : Shape → ℕ = λ x. x.nb_frag in
    let nb : new.shape.nb_frag ≡ old.shape.nb_frag = ap g e in
    record {
      numbered = (some, s.numbered);
      fits = λ b.
          let P : Shape → Type 0 = λ x. FittingBlock x (f ∷ older) b ↔ FitsHeld new.shape new.places b in
          subst P (sym e) ((λ h. (t.fits b).1 (fits_left old f older b s h)), (λ h. left_fits old f older b s ((t.fits b).0 h)));
      sums = λ x.
          let l : ℕ = line_for old f.number in
          let ls : List ℕ = map (λ n. line_of old.shape.nb_frag n) (numbers_of older) in
          let P : ℕ → Type 0 = λ m. is_sum x (map (λ n. line_of m n) (numbers_of (f ∷ older))) ≡ is_sum x (lines_held new.places) in
          subst P (sym nb) (
          is_sum-cons x l ls
          ∙ ap₂ ◌||◌ (s.sums x) (s.sums (bit_xor l x))
          ∙ sym (is_sum-cons x l (lines_held old.places))
          ∙ sym (t.sums x));
      rows = rows_more old new f older some s t ∙ ap (λ x. excess x (f ∷ older)) (sym e);
      marked = λ c lt.
          let old_lt : c < old.shape.nb_frag = omega (arith, nb) in
          let iff = t.marked c old_lt in
          let before = s.marked c old_lt in (
            λ h. elim (iff.0 h) [ inl m ↦ inr (before.0 m) | inr is ↦ inl (sym is) ],
            λ m. iff.1 (elim m [ inl is ↦ inr (sym is) | inr i ↦ inl (before.1 i) ]),
          );
      direct = pieces_more old new f older some s t ∙ ap (λ x. direct x (f ∷ older)) (sym e);
      gained = gained_more old new f older s t ∙ ap (λ x. gain x (f ∷ older)) (sym e);
      undecided = ap (λ x. verdict x (f ∷ older)) e ∙ receives_verdict old new f older some s r;
    }

completes : (old new : Held) (f : Fragment) (older : List Fragment) → 1 ≤ f.number → StandsFor old older → Completes old new f.number f.part
    → (block : List (List ℕ)) × (verdict old.shape (f ∷ older) ≡ complete f.mark block) × (new.content ≡ concat block) × (missing old.shape (f ∷ older) ≡ 0)
unfolding IsVerdictNow missing_now
completes old new f older some s r =
    let one = r.one in
    let is : verdict old.shape (f ∷ older) ≡ complete f.mark one.0 = now_is old.shape f older (complete f.mark one.0) s.undecided (
      refl,
      room_more old new f older some s r.takes,
      record { fits = left_fits old f older one.0 s one.1; alone = λ other h. one.2 other (fits_left old f older other s h) },
    ) in
    (one.0, is, one.3, missing_decides old.shape f older (complete f.mark one.0) s.undecided is)

kept_missing : (old new : Held) (older : List Fragment) → StandsFor old older → new ≡ record old { stage = stage.Ended } → lacking old.shape older ≡ missing_of new
unfolding lacking missing_of
kept_missing old new older s e = ap (λ g. old.shape.nb_frag - g) (sym s.gained) ∙ sym (ap missing_of e)

contradicts : (old new : Held) (f : Fragment) (older : List Fragment) → 1 ≤ f.number → StandsFor old older → Contradicts old new f.number f.part
    → (verdict old.shape (f ∷ older) ≡ conflict f.mark) × (missing old.shape (f ∷ older) ≡ missing_of new)
unfolding IsVerdictNow missing_now
contradicts old new f older some s r =
    let is : verdict old.shape (f ∷ older) ≡ conflict f.mark =
    now_is old.shape f older (conflict f.mark) s.undecided (refl, λ b h. r.none b (fits_left old f older b s h)) in
    (is, missing_decides old.shape f older (conflict f.mark) s.undecided is ∙ kept_missing old new older s r.kept)

overflows_excess : (old new : Held) (f : Fragment) (older : List Fragment) → StandsFor old older → Overflows old new f.number f.part → excess old.shape (f ∷ older) ≡ old.shape.rows + 1
unfolding excess gained_held
overflows_excess old new f older s r =
    let extra : Bool → ℕ = λ u. if u then 0 else 1 in
    let more : extra (is_sum (line_of old.shape.nb_frag f.number) (map (λ n. line_of old.shape.nb_frag n) (numbers_of older))) ≡ 1 =
    ap extra (s.sums (line_of old.shape.nb_frag f.number) ∙ r.no_sum) in
    let all : pieces_held old.places + rows_held old.places ≡ gain old.shape older = s.gained in
    omega (arith, more, gain_more old.shape f older, direct_coded old.shape f older r.coded, all, s.direct, r.rows)

overflows : (old new : Held) (f : Fragment) (older : List Fragment) → 1 ≤ f.number → StandsFor old older → Overflows old new f.number f.part
    → (verdict old.shape (f ∷ older) ≡ no_rows f.mark) × (missing old.shape (f ∷ older) ≡ missing_of new) × (excess old.shape (f ∷ older) ≡ old.shape.rows + 1)
unfolding IsVerdictNow missing_now
overflows old new f older some s r =
    let over = overflows_excess old new f older s r in
    let left = r.left in
    let is : verdict old.shape (f ∷ older) ≡ no_rows f.mark =
    now_is old.shape f older (no_rows f.mark) s.undecided (refl, omega arith, (left.0, left_fits old f older left.0 s left.1)) in
    (is, missing_decides old.shape f older (no_rows f.mark) s.undecided is ∙ kept_missing old new older s r.kept, over)

-- ---- at first

nothing_told : (c n : ℕ) → equations_from c (replicate n free) ≡ []
unfolding equations_from told
nothing_told c zero = refl
nothing_told c (suc n) = nothing_told (suc c) n

nothing_held : (n : ℕ) → lines_held (replicate n free) ≡ []
unfolding lines_held equations_held
nothing_held n = ap (λ es. map (λ (e : Equation). e.line) es) (nothing_told 0 n)

nothing_marked : (n c : ℕ) → is_piece (get_or (replicate n free) c free) ≡ true → ⊥
unfolding is_piece
nothing_marked n c h = false≢true (sym (ap is_piece (free_everywhere n c)) ∙ h)

fits_nothing : (shape : Shape) (n : ℕ) (b : List (List ℕ)) → FittingBlock shape [] b → FitsHeld shape (replicate n free) b
unfolding equations_held
fits_nothing shape n b h = record {
  shaped = h.shaped;
  fitting = subst (λ es. All (Meets shape.frag_size b) es) (sym (nothing_told 0 n)) (All-nil (Meets shape.frag_size b));
}

none_gained : (shape : Shape) → gain shape [] ≡ 0
unfolding gain gain_of gain_of_lines numbers_of
none_gained shape = refl

none_direct : (shape : Shape) → direct shape [] ≡ 0
unfolding direct direct_of numbers_of
none_direct shape = refl

pieces_zero : (ps : List Place) → gained_held ps ≡ 0 → pieces_held ps ≡ 0
unfolding gained_held
pieces_zero ps e = omega arith

whole_lacks : (held : Held) → gained_held held.places ≡ held.shape.nb_frag → missing_of held ≡ 0
unfolding missing_of
whole_lacks held e = omega (arith, e)

begun : (held : Held) → IsBegun held → StandsFor held []
unfolding numbers_of verdict excess
begun held h =
    let nb : ℕ = held.shape.nb_frag in
    let none : gained_held held.places ≡ 0 = ap gained_held h.places ∙ gained_none nb in
    let rows : rows_held held.places ≡ 0 = ap rows_held h.places ∙ rows_none nb in
    let pieces : pieces_held held.places ≡ 0 = pieces_zero held.places none in
    record {
      numbered = tt;
      fits = λ b.
          let P : List Place → Type 0 = λ ps. FittingBlock held.shape [] b ↔ FitsHeld held.shape ps b in
          subst P (sym h.places) (fits_nothing held.shape nb b, λ k. record { shaped = k.shaped; fitting = All-nil _ });
      sums = λ x. ap (is_sum x) (sym (ap lines_held h.places ∙ nothing_held nb));
      rows = omega (arith, rows, none_gained held.shape, none_direct held.shape);
      marked = λ c lt.
          let P : List Place → Type 0 = λ ps. (is_piece (get_or ps c free) ≡ true) ↔ ⊥ in
          subst P (sym h.places) (nothing_marked nb c, λ m. absurd m);
      direct = pieces ∙ sym (none_direct held.shape);
      gained = none ∙ sym (none_gained held.shape);
      undecided = refl;
    }

-- ---- as many rows as there are pieces unheard are enough

enough : (old new : Held) (f : Fragment) (newer older : List Fragment) → AllByRecursion (IsUncoded old.shape) older → old.shape.nb_frag ≤ direct old.shape older + old.shape.rows → AreNumbered (f ∷ newer)
    → StandsFor old (newer ++ older) → Overflows old new f.number f.part → ⊥
enough old new f newer older uncoded room numbered s r =
    let most : excess old.shape (f ∷ (newer ++ older)) ≤ old.shape.rows = enough_after old.shape (f ∷ newer) older uncoded room numbered in
    let over : excess old.shape (f ∷ (newer ++ older)) ≡ old.shape.rows + 1 = overflows_excess old new f (newer ++ older) s r in
    omega (arith, most, over)

-- ---- the law

pub feed_stands : FeedStands
feed_stands = record {
  begun = begun;
  lacks = lacks;
  receives = receives;
  completes = λ old new f older some s r.
      let d = completes old new f older some s r in
      (d.0, d.1, d.2, d.3, whole_lacks new r.full);
  contradicts = contradicts;
  overflows = overflows;
  enough = enough;
}
