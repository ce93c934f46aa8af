-- Only uncoded fragments: each gives one piece, and gains where that piece is new.
use Rattle.std.proofs.Common.{◌≡◌, ◌≢◌, ◌⊎◌, ℕ, zero, suc, ◌+◌, ◌-◌, ◌*◌, ◌<◌, ◌≤◌, ◌/◌, ◌%◌, ◌^◌, Bool, true, false, cond, ◌&&◌, not, ◌==◌, nat_le, List, [], ◌∷◌, map, length, get_or, replicate, bit_xor, refl, sym, ap, ap₂, ◌∙◌, subst, inl, inr, arith, true≢false, eq-eqb, ne_eqb, le-leb, pow-suc}
use Rattle.std.specs.Prelude.{if◌then◌else◌}
use Rattle.std.specs.List.{list_any, AllByRecursion}
use Rattle.std.specs.Int.{bit_at}
use Rattle.std.specs.Int.Bits.{xor_zero_r}
use Rattle.std.proofs.lemmas.Bool.{or_left, or_right, or_from, or_cases, cases_eq, and_right, and_from}
use Rattle.std.proofs.lemmas.Nat.Bits.{bit_at_xor, bit_at-pow_same, bit_at-pow_other, bit_at-zero}
use Rattle.std.proofs.lemmas.List.Elements.{All-from_recursion, recursion_from_All}
use Rattle.frag_model.specs.Fragments.{Fragment, Shape, IsUncoded, IsPiece, IsBlock, Meets, equation_of, line_of, xor_bytes, xor_all, pieces_at}
use Rattle.frag_model.specs.Parity.{line}
use Rattle.frag_model.specs.Gain.{sums, is_sum, gain_of_lines, gain_of, direct_of, numbers_of, gain, direct, excess}
use Rattle.frag_model.specs.Verdict.{FittingBlock}
use Rattle.frag_model.proofs.Members.{In, In-append_left, In-append_right, In-append_cases, In-map, In-map_from}

-- ---- tests on members

pub list_any-In : {A : Type 0} (p : A → Bool) (x : A) (xs : List A) → In x xs → p x ≡ true → list_any p xs ≡ true
list_any-In p x [] m h = absurd m
list_any-In p x (z ∷ xs) (inl e) h = or_left (p z) (list_any p xs) (sym (ap p e) ∙ h)
list_any-In p x (z ∷ xs) (inr m) h = or_right (p z) (list_any p xs) (list_any-In p x xs m h)

pub list_any-no_In : {A : Type 0} (p : A → Bool) (xs : List A) → ((x : A) → In x xs → p x ≡ false) → list_any p xs ≡ false
list_any-no_In p [] h = refl
list_any-no_In p (z ∷ xs) h = or_from (p z) (list_any p xs) (h z (inl refl)) (list_any-no_In p xs (λ x m. h x (inr m)))

pub list_any-from : {A : Type 0} (p : A → Bool) (xs : List A) → list_any p xs ≡ true → (x : A) × In x xs × (p x ≡ true)
list_any-from p [] h = absurd (true≢false (sym h))
list_any-from p (z ∷ xs) h = elim (or_cases (p z) (list_any p xs) h) [
  | inl e ↦ (z, inl refl, e)
  | inr e ↦ let r = list_any-from p xs e in (r.0, inr r.1, r.2)
]

pub each-In : {A : Type 0} (P : A → Type 0) (x : A) (xs : List A) → AllByRecursion P xs → In x xs → P x
each-In P x [] h m = absurd m
each-In {A} P x (z ∷ xs) h (inl e) = subst P (sym e) h.0
each-In P x (z ∷ xs) h (inr m) = each-In P x xs h.1 m

pub each-from_In : {A : Type 0} (P : A → Type 0) (xs : List A) → ((x : A) → In x xs → P x) → AllByRecursion P xs
each-from_In P [] h = tt
each-from_In P (z ∷ xs) h = (h z (inl refl), each-from_In P xs (λ x m. h x (inr m)))

-- ---- sums of lines

In-sums_none : (lines : List ℕ) → In 0 (sums lines)
unfolding sums
In-sums_none [] = inl refl
In-sums_none (l ∷ lines) = In-append_left 0 (sums lines) (map (λ s. bit_xor l s) (sums lines)) (In-sums_none lines)

-- a line is a sum of lines that it is among
In-sums : (l : ℕ) (lines : List ℕ) → In l lines → In l (sums lines)
unfolding sums
In-sums l [] m = absurd m
In-sums l (z ∷ lines) (inl e) =
    let one : In (bit_xor z 0) (map (λ s. bit_xor z s) (sums lines)) = In-map (λ s. bit_xor z s) 0 (sums lines) (In-sums_none lines) in
    let same : bit_xor z 0 ≡ l = xor_zero_r z ∙ sym e in
    In-append_right l (sums lines) (map (λ s. bit_xor z s) (sums lines)) (subst (λ x. In x (map (λ s. bit_xor z s) (sums lines))) same one)
In-sums l (z ∷ lines) (inr m) = In-append_left l (sums lines) (map (λ s. bit_xor z s) (sums lines)) (In-sums l lines m)

-- a column that is in no line is in no sum of them
sums_without : (c s : ℕ) (lines : List ℕ) → ((l : ℕ) → In l lines → bit_at l c ≡ 0) → In s (sums lines) → bit_at s c ≡ 0
unfolding sums
sums_without c s [] none (inl e) = ap (λ x. bit_at x c) e ∙ bit_at-zero c
sums_without c s [] none (inr m) = absurd m
sums_without c s (z ∷ lines) none m =
    let rest : (l : ℕ) → In l lines → bit_at l c ≡ 0 = λ l i. none l (inr i) in
    elim (In-append_cases s (sums lines) (map (λ t. bit_xor z t) (sums lines)) m) [
      | inl i ↦ sums_without c s lines rest i
      | inr i ↦
          let r = In-map_from (λ t. bit_xor z t) s (sums lines) i in
          let here : bit_at z c ≡ 0 = none z (inl refl) in
          let there : bit_at r.0 c ≡ 0 = sums_without c r.0 lines rest r.1 in
          ap (λ x. bit_at x c) r.2 ∙ bit_at_xor z r.0 c ∙ ap₂ (λ a b. (a + b) % 2) here there
    ]

-- ---- gain and direct over the numbers of pieces

pub line_of_piece : (nb_frag n : ℕ) → n ≤ nb_frag → line_of nb_frag n ≡ 2 ^ (n - 1)
unfolding line_of
line_of_piece nb_frag n le = ap (λ t. cond t (2 ^ (n - 1)) (line (n - nb_frag) nb_frag)) (le-leb n nb_frag le)

abbrev pub IsPieceNumber : ℕ → ℕ → Type 0
IsPieceNumber nb_frag n = (1 ≤ n) × (n ≤ nb_frag)

is_sum_heard : (nb_frag n : ℕ) (older : List ℕ) → In n older → is_sum (line_of nb_frag n) (map (λ m. line_of nb_frag m) older) ≡ true
unfolding is_sum
is_sum_heard nb_frag n older m =
    list_any-In (λ s. s == line_of nb_frag n) (line_of nb_frag n) (sums (map (λ m. line_of nb_frag m) older))
    (In-sums (line_of nb_frag n) (map (λ m. line_of nb_frag m) older) (In-map (λ m. line_of nb_frag m) n older m))
    (eq-eqb (line_of nb_frag n) (line_of nb_frag n) refl)

is_sum_new : (nb_frag n : ℕ) (older : List ℕ) → IsPieceNumber nb_frag n → AllByRecursion (IsPieceNumber nb_frag) older → (In n older → ⊥) → is_sum (line_of nb_frag n) (map (λ m. line_of nb_frag m) older) ≡ false
unfolding is_sum
is_sum_new nb_frag n older here others new =
    let f : ℕ → ℕ = λ m. line_of nb_frag m in
    let none : (l : ℕ) → In l (map f older) → bit_at l (n - 1) ≡ 0 = λ l i.
    let r = In-map_from f l older i in
    let p : IsPieceNumber nb_frag r.0 = each-In (IsPieceNumber nb_frag) r.0 older others r.1 in
    let other : n - 1 ≢ r.0 - 1 = λ e. new (let same : r.0 ≡ n = omega (arith, p.0, p.1) in subst (λ x. In x older) same r.1) in
    ap (λ x. bit_at x (n - 1)) (r.2 ∙ line_of_piece nb_frag r.0 p.1) ∙ bit_at-pow_other (r.0 - 1) (n - 1) other in
    list_any-no_In (λ s. s == f n) (sums (map f older)) (λ s m.
    ne_eqb s (f n) (λ e.
    let off : bit_at s (n - 1) ≡ 0 = sums_without (n - 1) s (map f older) none m in
    let on : bit_at s (n - 1) ≡ 1 = ap (λ x. bit_at x (n - 1)) (e ∙ line_of_piece nb_frag n here.1) ∙ bit_at-pow_same (n - 1) in
    omega arith))

gain_of-heard : (nb_frag n : ℕ) (older : List ℕ) → In n older → gain_of nb_frag (n ∷ older) ≡ gain_of nb_frag older
unfolding gain_of gain_of_lines
gain_of-heard nb_frag n older m =
    let ls : List ℕ = map (λ k. line_of nb_frag k) older in
    let e : ◌≡◌ {A = ℕ} (if is_sum (line_of nb_frag n) ls then 0 else 1) 0 = ap (λ t. cond {A = ℕ} t 0 1) (is_sum_heard nb_frag n older m) in
    omega (arith, e)

gain_of-new : (nb_frag n : ℕ) (older : List ℕ) → IsPieceNumber nb_frag n → AllByRecursion (IsPieceNumber nb_frag) older → (In n older → ⊥) → gain_of nb_frag (n ∷ older) ≡ gain_of nb_frag older + 1
unfolding gain_of gain_of_lines
gain_of-new nb_frag n older here others new =
    let ls : List ℕ = map (λ k. line_of nb_frag k) older in
    let e : ◌≡◌ {A = ℕ} (if is_sum (line_of nb_frag n) ls then 0 else 1) 1 = ap (λ t. cond {A = ℕ} t 0 1) (is_sum_new nb_frag n older here others new) in
    omega (arith, e)

-- a number is heard or not
pub heard_or_new : (n : ℕ) (older : List ℕ) → In n older ⊎ (In n older → ⊥)
heard_or_new n [] = inr (λ m. m)
heard_or_new n (z ∷ older) = elim (cases_eq n z) [
  | inl e ↦ inl (inl e)
  | inr ne ↦ elim (heard_or_new n older) [
    | inl m ↦ inl (inr m)
    | inr new ↦ inr (λ m. elim m [ inl e ↦ ne e | inr i ↦ new i ])
  ]
]

pub direct_of-heard : (nb_frag n : ℕ) (older : List ℕ) → In n older → direct_of nb_frag (n ∷ older) ≡ direct_of nb_frag older
unfolding direct_of
direct_of-heard nb_frag n older m =
    let among : list_any (λ k. k == n) older ≡ true = list_any-In (λ k. k == n) n older m (eq-eqb n n refl) in
    let test : (nat_le n nb_frag && not (list_any (λ k. k == n) older)) ≡ false = and_right (nat_le n nb_frag) (not (list_any (λ k. k == n) older)) (ap not among) in
    let e : ◌≡◌ {A = ℕ} (if nat_le n nb_frag && not (list_any (λ k. k == n) older) then 1 else 0) 0 = ap (λ t. cond {A = ℕ} t 1 0) test in
    omega (arith, e)

pub direct_of-new : (nb_frag n : ℕ) (older : List ℕ) → n ≤ nb_frag → (In n older → ⊥) → direct_of nb_frag (n ∷ older) ≡ direct_of nb_frag older + 1
unfolding direct_of
direct_of-new nb_frag n older le new =
    let among : list_any (λ k. k == n) older ≡ false =
    list_any-no_In (λ k. k == n) older (λ k m. ne_eqb k n (λ e. new (subst (λ x. In x older) e m))) in
    let test : (nat_le n nb_frag && not (list_any (λ k. k == n) older)) ≡ true = and_from (nat_le n nb_frag) (not (list_any (λ k. k == n) older)) (le-leb n nb_frag le) (ap not among) in
    let e : ◌≡◌ {A = ℕ} (if nat_le n nb_frag && not (list_any (λ k. k == n) older) then 1 else 0) 1 = ap (λ t. cond {A = ℕ} t 1 0) test in
    omega (arith, e)

no_numbers : (nb_frag : ℕ) → gain_of nb_frag [] ≡ direct_of nb_frag []
unfolding gain_of gain_of_lines direct_of
no_numbers nb_frag = refl

gain_is_direct : (nb_frag : ℕ) (numbers : List ℕ) → AllByRecursion (IsPieceNumber nb_frag) numbers → gain_of nb_frag numbers ≡ direct_of nb_frag numbers
gain_is_direct nb_frag [] h = no_numbers nb_frag
gain_is_direct nb_frag (n ∷ older) h =
    let rest = gain_is_direct nb_frag older h.1 in
    elim (heard_or_new n older) [
      | inl m ↦ gain_of-heard nb_frag n older m ∙ rest ∙ sym (direct_of-heard nb_frag n older m)
      | inr new ↦ gain_of-new nb_frag n older h.0 h.1 new ∙ ap (λ x. x + 1) rest ∙ sym (direct_of-new nb_frag n older h.0.1 new)
    ]

-- ---- the same over heard fragments

numbers_of_pieces : (shape : Shape) (heard : List Fragment) → AllByRecursion (IsUncoded shape) heard → AllByRecursion (IsPieceNumber shape.nb_frag) (numbers_of heard)
unfolding numbers_of
numbers_of_pieces shape [] h = tt
numbers_of_pieces shape (f ∷ heard) h = ((h.0.first, h.0.last), numbers_of_pieces shape heard h.1)

-- a piece that came before gains nothing
pub gain-heard : (shape : Shape) (f g : Fragment) (older : List Fragment) → In g older → g.number ≡ f.number → gain shape (f ∷ older) ≡ gain shape older
unfolding gain numbers_of
gain-heard shape f g older m e =
    gain_of-heard shape.nb_frag f.number (map (λ (x : Fragment). x.number) older)
    (subst (λ x. In x (map (λ (y : Fragment). y.number) older)) e (In-map (λ (x : Fragment). x.number) g older m))

-- a piece that did not gains one
pub gain-new : (shape : Shape) (f : Fragment) (older : List Fragment) → IsUncoded shape f → AllByRecursion (IsUncoded shape) older
    → ((g : Fragment) → In g older → g.number ≡ f.number → ⊥) → gain shape (f ∷ older) ≡ gain shape older + 1
unfolding gain numbers_of
gain-new shape f older here others new =
    gain_of-new shape.nb_frag f.number (map (λ (x : Fragment). x.number) older) (here.first, here.last) (numbers_of_pieces shape older others)
    (λ m. let r = In-map_from (λ (x : Fragment). x.number) f.number older m in new r.0 r.1 (sym r.2))

pub gain-none : (shape : Shape) → gain shape [] ≡ 0
unfolding gain numbers_of gain_of gain_of_lines
gain-none shape = refl

-- uncoded fragments have no excess
pub excess-uncoded : (shape : Shape) (heard : List Fragment) → AllByRecursion (IsUncoded shape) heard → excess shape heard ≡ 0
unfolding excess gain direct
excess-uncoded shape heard h =
    let e : gain_of shape.nb_frag (numbers_of heard) ≡ direct_of shape.nb_frag (numbers_of heard) = gain_is_direct shape.nb_frag (numbers_of heard) (numbers_of_pieces shape heard h) in
    omega (arith, e)

-- ---- what an uncoded fragment says of a block

pieces_at_none : (block : List (List ℕ)) → pieces_at 0 block ≡ []
unfolding pieces_at
pieces_at_none [] = refl
pieces_at_none (p ∷ block) = pieces_at_none block

xor_bytes_zeros : (p : List ℕ) (n : ℕ) → length p ≡ n → xor_bytes p (replicate n 0) ≡ p
unfolding xor_bytes
xor_bytes_zeros [] zero e = refl
xor_bytes_zeros [] (suc n) e = absurd (omega arith)
xor_bytes_zeros (x ∷ p) zero e = absurd (omega arith)
xor_bytes_zeros (x ∷ p) (suc n) e = ap₂ (λ a b. a ∷ b) (xor_zero_r x) (xor_bytes_zeros p n (omega arith))

-- the XOR at only one column is the piece there
pub xor_all_piece : (size k line : ℕ) (block : List (List ℕ)) → line ≡ 2 ^ k → k < length block → AllByRecursion (IsPiece size) block → xor_all size (pieces_at line block) ≡ get_or block k []
unfolding xor_all pieces_at
xor_all_piece size k line [] e lt h = absurd (omega arith)
xor_all_piece size zero line (p ∷ block) e lt h =
    ap (λ l. xor_all size (cond (l % 2 == 1) (p ∷ pieces_at (l / 2) block) (pieces_at (l / 2) block))) e
    ∙ ap (λ l. xor_bytes p (xor_all size l)) (pieces_at_none block)
    ∙ xor_bytes_zeros p size h.0.sized
xor_all_piece size (suc k) line (p ∷ block) e lt h =
    let double : line ≡ 2 * 2 ^ k = omega (arith, e, pow-suc 2 k) in
    let even : (line % 2 == 1) ≡ false = ne_eqb (line % 2) 1 (omega arith) in
    let half : line / 2 ≡ 2 ^ k = omega arith in
    ap (λ t. xor_all size (cond t (p ∷ pieces_at (line / 2) block) (pieces_at (line / 2) block))) even
    ∙ xor_all_piece size k (line / 2) block half (omega arith) h.1

-- a block that fits has the bytes of each uncoded fragment
pub piece_from_fits : (shape : Shape) (heard : List Fragment) (block : List (List ℕ)) (f : Fragment) → FittingBlock shape heard block → In f heard → IsUncoded shape f
    → get_or block (f.number - 1) [] ≡ f.part
unfolding Meets equation_of
piece_from_fits shape heard block f fb m u =
    let meets : Meets shape.frag_size block (equation_of shape f) =
    each-In (λ (g : Fragment). Meets shape.frag_size block (equation_of shape g)) f heard (recursion_from_All (λ (g : Fragment). Meets shape.frag_size block (equation_of shape g)) heard fb.fitting) m in
    sym (xor_all_piece shape.frag_size (f.number - 1) (line_of shape.nb_frag f.number) block (line_of_piece shape.nb_frag f.number u.last)
    (omega (arith, fb.shaped.counted, u.first, u.last)) (recursion_from_All (IsPiece shape.frag_size) block fb.shaped.pieces))
    ∙ meets

-- a block that has the bytes of each fits
pub fits_from_pieces : (shape : Shape) (heard : List Fragment) (block : List (List ℕ)) → IsBlock shape block → AllByRecursion (IsUncoded shape) heard
    → ((f : Fragment) → In f heard → get_or block (f.number - 1) [] ≡ f.part) → FittingBlock shape heard block
unfolding Meets equation_of
fits_from_pieces shape heard block shaped uncoded told = record {
  shaped = shaped;
  fitting = All-from_recursion (λ (g : Fragment). Meets shape.frag_size block (equation_of shape g)) heard
      (each-from_In (λ (g : Fragment). Meets shape.frag_size block (equation_of shape g)) heard (λ f m.
      let u : IsUncoded shape f = each-In (IsUncoded shape) f heard uncoded m in
      xor_all_piece shape.frag_size (f.number - 1) (line_of shape.nb_frag f.number) block (line_of_piece shape.nb_frag f.number u.last)
      (omega (arith, shaped.counted, u.first, u.last)) (recursion_from_All (IsPiece shape.frag_size) block shaped.pieces)
      ∙ told f m));
}
