-- Lists that know the same: one fragment more, and one that adds nothing.
use Rattle.std.proofs.Common.{◌≡◌, ◌⊎◌, ℕ, ◌+◌, ◌-◌, ◌<◌, ◌≤◌, Bool, true, false, ◌||◌, List, ◌∷◌, map, bit_xor, refl, sym, ap, ap₂, ◌∙◌, subst, inl, inr, arith}
use Rattle.std.specs.Prelude.{if◌then◌else◌}
use Rattle.std.proofs.lemmas.Bool.{cases_lt, cases_Bool, or_left, or_cases}
use Rattle.std.proofs.lemmas.List.{ext_get_or}
use Rattle.std.proofs.lemmas.List.Elements.{All-from_recursion, recursion_from_All}
use Rattle.frag_model.specs.Fragments.{Fragment, Shape, IsPiece, Meets, equation_of, line_of, xor_all, pieces_at}
use Rattle.frag_model.specs.Gain.{is_sum, gain_of_lines, gain_of, numbers_of, gain, direct, excess}
use Rattle.frag_model.specs.Verdict.{Verdict, receiving, complete, no_rows, conflict, verdict_now, FittingBlock, IsVerdictNow}
use Rattle.frag_model.proofs.Members.{In}
use Rattle.frag_model.proofs.Parts.{get_or-xor_all, length-xor_all}
use Rattle.frag_model.proofs.Sums.{is_sum-cons, xor_back}
use Rattle.frag_model.proofs.Tables.{IsSum-from_test, test-from_IsSum, IsSum-xor}
use Rattle.frag_model.proofs.Uncoded.{heard_or_new, direct_of-heard, direct_of-new}
use Rattle.frag_model.proofs.Dimension.{direct_of-coded}
use Rattle.frag_model.proofs.Uniqueness.{same_at_sums, same_line}
use Rattle.frag_model.proofs.Verdicts.{verdict_now-right, IsVerdictNow-same}
use Rattle.frag_model.specs.News.{lines_heard, KnowTheSame}

-- ---- one fragment more

pub fits_more : (shape : Shape) (f : Fragment) (older : List Fragment) (b : List (List ℕ)) → FittingBlock shape (f ∷ older) b → FittingBlock shape older b × Meets shape.frag_size b (equation_of shape f)
fits_more shape f older b h =
    let P : Fragment → Type 0 = λ g. Meets shape.frag_size b (equation_of shape g) in
    let r = recursion_from_All P (f ∷ older) h.fitting in
    (record { shaped = h.shaped; fitting = All-from_recursion P older r.1 }, r.0)

pub more_fits : (shape : Shape) (f : Fragment) (older : List Fragment) (b : List (List ℕ)) → FittingBlock shape older b → Meets shape.frag_size b (equation_of shape f) → FittingBlock shape (f ∷ older) b
more_fits shape f older b h m =
    let P : Fragment → Type 0 = λ g. Meets shape.frag_size b (equation_of shape g) in
    record { shaped = h.shaped; fitting = All-from_recursion P (f ∷ older) (m, recursion_from_All P older h.fitting) }

pub more_lines : (shape : Shape) (f : Fragment) (older : List Fragment) → lines_heard shape (f ∷ older) ≡ line_of shape.nb_frag f.number ∷ lines_heard shape older
unfolding numbers_of
more_lines shape f older = refl

pub gain_more : (shape : Shape) (f : Fragment) (older : List Fragment)
    → gain shape (f ∷ older) ≡ gain shape older + (if is_sum (line_of shape.nb_frag f.number) (lines_heard shape older) then 0 else 1)
unfolding gain gain_of gain_of_lines numbers_of
gain_more shape f older = refl

pub direct_heard : (shape : Shape) (f : Fragment) (older : List Fragment) → In f.number (numbers_of older) → direct shape (f ∷ older) ≡ direct shape older
unfolding direct numbers_of
direct_heard shape f older m = direct_of-heard shape.nb_frag f.number (map (λ (g : Fragment). g.number) older) m

pub direct_new : (shape : Shape) (f : Fragment) (older : List Fragment) → f.number ≤ shape.nb_frag → (In f.number (numbers_of older) → ⊥) → direct shape (f ∷ older) ≡ direct shape older + 1
unfolding direct numbers_of
direct_new shape f older le new = direct_of-new shape.nb_frag f.number (map (λ (g : Fragment). g.number) older) le new

pub direct_coded : (shape : Shape) (f : Fragment) (older : List Fragment) → shape.nb_frag < f.number → direct shape (f ∷ older) ≡ direct shape older
unfolding direct numbers_of
direct_coded shape f older lt = direct_of-coded shape.nb_frag f.number (map (λ (g : Fragment). g.number) older) lt

more_numbers : (f : Fragment) (older : List Fragment) → numbers_of (f ∷ older) ≡ f.number ∷ numbers_of older
unfolding numbers_of
more_numbers f older = refl

sum_of_more : (x : ℕ) (shape : Shape) (f : Fragment) (older : List Fragment) → is_sum x (lines_heard shape (f ∷ older)) ≡ (is_sum x (lines_heard shape older) || is_sum (bit_xor (line_of shape.nb_frag f.number) x) (lines_heard shape older))
sum_of_more x shape f older = ap (is_sum x) (more_lines shape f older) ∙ is_sum-cons x (line_of shape.nb_frag f.number) (lines_heard shape older)

In_more : (n : ℕ) (f : Fragment) (xs : List Fragment) → In n (numbers_of (f ∷ xs)) → (n ≡ f.number) ⊎ In n (numbers_of xs)
unfolding numbers_of
In_more n f xs m = m

more_In : (n : ℕ) (f : Fragment) (xs : List Fragment) → (n ≡ f.number) ⊎ In n (numbers_of xs) → In n (numbers_of (f ∷ xs))
unfolding numbers_of
more_In n f xs m = m

-- the same fragment after both
pub knows_more : (shape : Shape) (f : Fragment) (xs ys : List Fragment) → KnowTheSame shape xs ys → KnowTheSame shape (f ∷ xs) (f ∷ ys)
knows_more shape f xs ys k = record {
  fits = λ b. (
    λ h. let r = fits_more shape f xs b h in more_fits shape f ys b ((k.fits b).0 r.0) r.1,
    λ h. let r = fits_more shape f ys b h in more_fits shape f xs b ((k.fits b).1 r.0) r.1,
  );
  sums = λ x. sum_of_more x shape f xs
      ∙ ap₂ (λ (p q : Bool). p || q) (k.sums x) (k.sums (bit_xor (line_of shape.nb_frag f.number) x))
      ∙ sym (sum_of_more x shape f ys);
  gained = gain_more shape f xs
      ∙ ap₂ (λ (g : ℕ) (t : Bool). g + (if t then 0 else 1)) k.gained (k.sums (line_of shape.nb_frag f.number))
      ∙ sym (gain_more shape f ys);
  pieces = elim (cases_lt shape.nb_frag f.number) [
    | inl coded ↦ direct_coded shape f xs coded ∙ k.pieces ∙ sym (direct_coded shape f ys coded)
    | inr le ↦ elim (heard_or_new f.number (numbers_of xs)) [
      | inl heard ↦ direct_heard shape f xs heard ∙ k.pieces ∙ sym (direct_heard shape f ys ((k.marked f.number le).0 heard))
      | inr new ↦ direct_new shape f xs le new ∙ ap (λ (d : ℕ). d + 1) k.pieces ∙ sym (direct_new shape f ys le (λ m. new ((k.marked f.number le).1 m)))
    ]
  ];
  marked = λ n le. (
    λ m. more_In n f ys (elim (In_more n f xs m) [ inl here ↦ inl here | inr there ↦ inr ((k.marked n le).0 there) ]),
    λ m. more_In n f xs (elim (In_more n f ys m) [ inl here ↦ inl here | inr there ↦ inr ((k.marked n le).1 there) ]),
  );
}

-- ---- a fragment that adds nothing

line_is_sum : (shape : Shape) (f : Fragment) (older : List Fragment) → gain shape (f ∷ older) ≡ gain shape older → is_sum (line_of shape.nb_frag f.number) (lines_heard shape older) ≡ true
line_is_sum shape f older same = elim (cases_Bool (is_sum (line_of shape.nb_frag f.number) (lines_heard shape older))) [
  | inl is ↦ is
  | inr is_not ↦
      let more : gain shape (f ∷ older) ≡ gain shape older + 1 = gain_more shape f older ∙ ap (λ (t : Bool). gain shape older + (if t then 0 else 1)) is_not in
      absurd (omega (arith, same, more))
]

-- a block that fits those before meets it, where some block does and its line is a sum of theirs
meets_old : (shape : Shape) (f : Fragment) (older : List Fragment) (b c : List (List ℕ)) → is_sum (line_of shape.nb_frag f.number) (lines_heard shape older) ≡ true
    → FittingBlock shape (f ∷ older) c → FittingBlock shape older b → Meets shape.frag_size b (equation_of shape f)
unfolding Meets equation_of
meets_old shape f older b c sum fits_c fits_b =
    let line : ℕ = line_of shape.nb_frag f.number in
    let r = fits_more shape f older c fits_c in
    let told : xor_all shape.frag_size (pieces_at line c) ≡ f.part = r.1 in
    let pieces_b = recursion_from_All (IsPiece shape.frag_size) b fits_b.shaped.pieces in
    let pieces_c = recursion_from_All (IsPiece shape.frag_size) c fits_c.shaped.pieces in
    ext_get_or 0 (xor_all shape.frag_size (pieces_at line b)) (xor_all shape.frag_size (pieces_at line c))
    (length-xor_all shape.frag_size line b pieces_b ∙ sym (length-xor_all shape.frag_size line c pieces_c))
    (λ i lt. get_or-xor_all shape.frag_size line i b
    ∙ same_at_sums i line b c (lines_heard shape older) (λ l m. same_line shape older b c i l fits_b r.0 m) (IsSum-from_test line (lines_heard shape older) sum)
    ∙ sym (get_or-xor_all shape.frag_size line i c))
    ∙ told

same_test : (p q : Bool) → (p ≡ true → q ≡ true) → (q ≡ true → p ≡ true) → p ≡ q
same_test true q to from = sym (to refl)
same_test false true to from = from refl
same_test false false to from = refl

pub knows_old : (shape : Shape) (f : Fragment) (older : List Fragment) (c : List (List ℕ)) → FittingBlock shape (f ∷ older) c
    → gain shape (f ∷ older) ≡ gain shape older → direct shape (f ∷ older) ≡ direct shape older → KnowTheSame shape (f ∷ older) older
knows_old shape f older c fits same_gain same_direct =
    let line : ℕ = line_of shape.nb_frag f.number in
    let lines : List ℕ = lines_heard shape older in
    let sum : is_sum line lines ≡ true = line_is_sum shape f older same_gain in
    record {
      fits = λ b. (
        λ h. (fits_more shape f older b h).0,
        λ h. more_fits shape f older b h (meets_old shape f older b c sum fits h),
      );
      sums = λ x. sum_of_more x shape f older ∙ same_test (is_sum x lines || is_sum (bit_xor line x) lines) (is_sum x lines)
          (λ h. elim (or_cases (is_sum x lines) (is_sum (bit_xor line x) lines) h) [
            | inl is ↦ is
            | inr is ↦ subst (λ (z : ℕ). is_sum z lines ≡ true) (xor_back line x)
                (test-from_IsSum (bit_xor line (bit_xor line x)) lines (IsSum-xor line (bit_xor line x) lines (IsSum-from_test line lines sum) (IsSum-from_test (bit_xor line x) lines is)))
          ])
          (λ h. or_left (is_sum x lines) (is_sum (bit_xor line x) lines) h);
      gained = same_gain;
      pieces = same_direct;
      marked = λ n le. (
        λ m. elim (In_more n f older m) [
          | inr there ↦ there
          | inl here ↦ elim (heard_or_new f.number (numbers_of older)) [
            | inl heard ↦ subst (λ (j : ℕ). In j (numbers_of older)) (sym here) heard
            | inr new ↦ absurd (omega (arith, same_direct, direct_new shape f older (omega (arith, here, le)) new))
          ]
        ],
        λ m. more_In n f older (inr m),
      );
    }

-- ---- and the verdict now

two_of : (shape : Shape) (xs ys : List Fragment) → ((b : List (List ℕ)) → FittingBlock shape xs b → FittingBlock shape ys b) → ((b : List (List ℕ)) → FittingBlock shape ys b → FittingBlock shape xs b)
    → excess shape xs ≡ excess shape ys → (mark : ℕ) (v : Verdict) → IsVerdictNow shape xs mark v → IsVerdictNow shape ys mark v
unfolding IsVerdictNow
two_of shape xs ys to from same mark (conflict at) h = (h.0, λ b fits. h.1 b (from b fits))
two_of shape xs ys to from same mark (no_rows at) h = (h.0, omega (arith, same, h.1), (h.2.0, to h.2.0 h.2.1))
two_of shape xs ys to from same mark (complete at b) h = (h.0, omega (arith, same, h.1), record { fits = to b h.2.fits; alone = λ c fits. h.2.alone c (from c fits) })
two_of shape xs ys to from same mark receiving h = (omega (arith, same, h.0), (h.1.0, h.1.1, record { one = to h.1.0 h.1.2.one; other = to h.1.1 h.1.2.other; differ = h.1.2.differ }))

pub same_excess : (shape : Shape) (xs ys : List Fragment) → KnowTheSame shape xs ys → excess shape xs ≡ excess shape ys
unfolding excess
same_excess shape xs ys k = ap₂ (λ (g d : ℕ). g - d) k.gained k.pieces

pub same_verdict_now : (shape : Shape) (xs ys : List Fragment) (mark : ℕ) → KnowTheSame shape xs ys → verdict_now shape xs mark ≡ verdict_now shape ys mark
same_verdict_now shape xs ys mark k =
    IsVerdictNow-same shape ys mark (verdict_now shape xs mark) (verdict_now shape ys mark)
    (two_of shape xs ys (λ b. (k.fits b).0) (λ b. (k.fits b).1) (same_excess shape xs ys k) mark (verdict_now shape xs mark) (verdict_now-right shape xs mark))
    (verdict_now-right shape ys mark)

-- while nothing is decided some block fits
pub some_fits : (shape : Shape) (heard : List Fragment) (mark : ℕ) → IsVerdictNow shape heard mark receiving → (b : List (List ℕ)) × FittingBlock shape heard b
unfolding IsVerdictNow
some_fits shape heard mark h = (h.1.0, h.1.2.one)
