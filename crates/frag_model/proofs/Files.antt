-- Only one block fits exactly where only one file fits.
use Rattle.std.proofs.Common.{◌≡◌, ℕ, zero, suc, ◌+◌, ◌-◌, ◌*◌, ◌<◌, ◌≤◌, ◌/◌, ◌%◌, ◌^◌, true, false, cond, ◌==◌, List, [], ◌∷◌, ◌++◌, length, get_or, take, drop, set, bit_xor, refl, sym, ap, ap₂, ◌∙◌, arith, length-append, length-drop, length-set, get_or-set_same, get_or-set_other, suc-mul, zero-mul, suc-ne-zero}
use Rattle.std.proofs.lemmas.List.{ext_get_or, take-append-drop, get_or-take, drop_at, take_at}
use Rattle.std.proofs.Math.ListN.{get_or-append}
use Rattle.std.proofs.lemmas.List.Elements.{All-from_recursion, recursion_from_All, All-set, All-get_or}
use Rattle.std.proofs.lemmas.Nat.{xor_lt}
use Rattle.std.specs.Int.Bits.{xor_self, xor_zero_r}
use Rattle.std.specs.List.{AllByRecursion, concat}
use Rattle.frag_model.specs.Fragments.{Fragment, Shape, IsPiece, IsBlock, Meets, Equation, equation_of, xor_all, pieces_at, file_of, byte_at}
use Rattle.frag_model.specs.Verdict.{FittingBlock, OneBlockFits}
use Rattle.frag_model.specs.File.{FileFits, OneFileFits}
use Rattle.frag_model.proofs.Parts.{xor_swap, xor_kept, xor_same, get_or-xor_all, length-xor_all}

-- ---- a block between two others: the first one, with what they differ by at one place added to each first byte

mixed_piece : ℕ → List ℕ → List ℕ → List ℕ
mixed_piece j b c = set b 0 (bit_xor (get_or b 0 0) (bit_xor (get_or b j 0) (get_or c j 0)))

mixed : ℕ → List (List ℕ) → List (List ℕ) → List (List ℕ)
mixed j [] cs = []
mixed j (b ∷ bs) [] = []
mixed j (b ∷ bs) (c ∷ cs) = mixed_piece j b c ∷ mixed j bs cs

length-mixed : (j : ℕ) (bs cs : List (List ℕ)) → length bs ≡ length cs → length (mixed j bs cs) ≡ length bs
unfolding mixed
length-mixed j [] cs e = refl
length-mixed j (b ∷ bs) [] e = absurd (omega arith)
length-mixed j (b ∷ bs) (c ∷ cs) e =
    let e' : length bs ≡ length cs = omega arith in
    let h = length-mixed j bs cs e' in
    omega arith

mixed_pieces : (size j : ℕ) (bs cs : List (List ℕ)) → j < size → AllByRecursion (IsPiece size) bs → AllByRecursion (IsPiece size) cs → AllByRecursion (IsPiece size) (mixed j bs cs)
unfolding mixed mixed_piece
mixed_pieces size j [] cs lt hb hc = tt
mixed_pieces size j (b ∷ bs) [] lt hb hc = tt
mixed_pieces size j (b ∷ bs) (c ∷ cs) lt hb hc =
    let Q : ℕ → Type 0 = λ x. x < 2 ^ 8 in
    let b0 : get_or b 0 0 < 2 ^ 8 = All-get_or Q b 0 0 (omega (arith, hb.0.sized)) hb.0.bytes in
    let bj : get_or b j 0 < 2 ^ 8 = All-get_or Q b j 0 (omega (arith, hb.0.sized)) hb.0.bytes in
    let cj : get_or c j 0 < 2 ^ 8 = All-get_or Q c j 0 (omega (arith, hc.0.sized)) hc.0.bytes in (
      record {
        sized = length-set b 0 (bit_xor (get_or b 0 0) (bit_xor (get_or b j 0) (get_or c j 0))) ∙ hb.0.sized;
        bytes = All-set Q b 0 (bit_xor (get_or b 0 0) (bit_xor (get_or b j 0) (get_or c j 0)))
            (xor_lt 8 (get_or b 0 0) (bit_xor (get_or b j 0) (get_or c j 0)) b0 (xor_lt 8 (get_or b j 0) (get_or c j 0) bj cj)) hb.0.bytes;
      },
      mixed_pieces size j bs cs lt hb.1 hc.1,
    )

-- at its first bytes it is the sum of three, elsewhere the first block
byte_at_first : (size line j : ℕ) (bs cs : List (List ℕ)) → 0 < size → AllByRecursion (IsPiece size) bs → length bs ≡ length cs
    → byte_at line 0 (mixed j bs cs) ≡ bit_xor (byte_at line 0 bs) (bit_xor (byte_at line j bs) (byte_at line j cs))
unfolding mixed mixed_piece byte_at
byte_at_first size line j [] [] pos h e = refl
byte_at_first size line j [] (c ∷ cs) pos h e = absurd (omega arith)
byte_at_first size line j (b ∷ bs) [] pos h e = absurd (omega arith)
byte_at_first size line j (b ∷ bs) (c ∷ cs) pos h e =
    let e' : length bs ≡ length cs = omega arith in
    let rest = byte_at_first size (line / 2) j bs cs pos h.1 e' in
    let x : ℕ = bit_xor (get_or b 0 0) (bit_xor (get_or b j 0) (get_or c j 0)) in
    let lt : 0 < length b = omega (arith, h.0.sized) in
    let head : get_or (set b 0 x) 0 0 ≡ x = get_or-set_same b 0 x 0 lt in
    let l = line / 2 in
    elim (line % 2 == 1) as (λ t. cond t (bit_xor (get_or (set b 0 x) 0 0) (byte_at l 0 (mixed j bs cs))) (byte_at l 0 (mixed j bs cs))
    ≡ bit_xor (cond t (bit_xor (get_or b 0 0) (byte_at l 0 bs)) (byte_at l 0 bs))
    (bit_xor (cond t (bit_xor (get_or b j 0) (byte_at l j bs)) (byte_at l j bs)) (cond t (bit_xor (get_or c j 0) (byte_at l j cs)) (byte_at l j cs)))) [
      | true ↦ ap₂ bit_xor head rest
          ∙ xor_swap (get_or b 0 0) (bit_xor (get_or b j 0) (get_or c j 0)) (byte_at l 0 bs) (bit_xor (byte_at l j bs) (byte_at l j cs))
          ∙ ap (λ y. bit_xor (bit_xor (get_or b 0 0) (byte_at l 0 bs)) y) (xor_swap (get_or b j 0) (get_or c j 0) (byte_at l j bs) (byte_at l j cs))
      | false ↦ rest
    ]

byte_at_other : (line i j : ℕ) (bs cs : List (List ℕ)) → length bs ≡ length cs → byte_at line (suc i) (mixed j bs cs) ≡ byte_at line (suc i) bs
unfolding mixed mixed_piece byte_at
byte_at_other line i j [] cs e = refl
byte_at_other line i j (b ∷ bs) [] e = absurd (omega arith)
byte_at_other line i j (b ∷ bs) (c ∷ cs) e =
    let e' : length bs ≡ length cs = omega arith in
    let rest = byte_at_other (line / 2) i j bs cs e' in
    let x : ℕ = bit_xor (get_or b 0 0) (bit_xor (get_or b j 0) (get_or c j 0)) in
    let l = line / 2 in
    elim (line % 2 == 1) as (λ t. cond t (bit_xor (get_or (set b 0 x) (suc i) 0) (byte_at l (suc i) (mixed j bs cs))) (byte_at l (suc i) (mixed j bs cs))
    ≡ cond t (bit_xor (get_or b (suc i) 0) (byte_at l (suc i) bs)) (byte_at l (suc i) bs)) [
      | true ↦ ap₂ bit_xor (get_or-set_other b 0 (suc i) x 0 (suc-ne-zero i)) rest
      | false ↦ rest
    ]

-- it fits where both fit
mixed_meets : (size j : ℕ) (bs cs : List (List ℕ)) (e : Equation) → j < size
    → AllByRecursion (IsPiece size) bs → AllByRecursion (IsPiece size) cs → length bs ≡ length cs
    → Meets size bs e → Meets size cs e → Meets size (mixed j bs cs) e
unfolding Meets
mixed_meets size j bs cs e lt hb hc same mb mc =
    let total : List (List ℕ) → List ℕ = λ block. xor_all size (pieces_at e.line block) in
    let sized : length (total (mixed j bs cs)) ≡ length (total bs) =
    length-xor_all size e.line (mixed j bs cs) (mixed_pieces size j bs cs lt hb hc) ∙ sym (length-xor_all size e.line bs hb) in
    let both : total bs ≡ total cs = mb ∙ sym mc in
    let at : (i : ℕ) → byte_at e.line i bs ≡ byte_at e.line i cs =
    λ i. sym (get_or-xor_all size e.line i bs) ∙ ap (λ p. get_or p i 0) both ∙ get_or-xor_all size e.line i cs in
    let pos : 0 < size = omega arith in
    let first : byte_at e.line 0 (mixed j bs cs) ≡ byte_at e.line 0 bs =
    byte_at_first size e.line j bs cs pos hb same
    ∙ ap (λ y. bit_xor (byte_at e.line 0 bs) (bit_xor y (byte_at e.line j cs))) (at j)
    ∙ ap (λ y. bit_xor (byte_at e.line 0 bs) y) (xor_self (byte_at e.line j cs))
    ∙ xor_zero_r (byte_at e.line 0 bs) in
    let each : (i : ℕ) → byte_at e.line i (mixed j bs cs) ≡ byte_at e.line i bs = each_byte first in
    ext_get_or 0 (total (mixed j bs cs)) (total bs) sized
    (λ i k. get_or-xor_all size e.line i (mixed j bs cs) ∙ each i ∙ sym (get_or-xor_all size e.line i bs))
    ∙ mb
  where
    each_byte : byte_at e.line 0 (mixed j bs cs) ≡ byte_at e.line 0 bs → (i : ℕ) → byte_at e.line i (mixed j bs cs) ≡ byte_at e.line i bs
    each_byte first zero = first
    each_byte first (suc i) = byte_at_other e.line i j bs cs same

mixed_fits : (shape : Shape) (heard : List Fragment) (j : ℕ) (bs cs : List (List ℕ)) → j < shape.frag_size
    → FittingBlock shape heard bs → FittingBlock shape heard cs → FittingBlock shape heard (mixed j bs cs)
mixed_fits shape heard j bs cs lt fb fc =
    let hb = recursion_from_All (IsPiece shape.frag_size) bs fb.shaped.pieces in
    let hc = recursion_from_All (IsPiece shape.frag_size) cs fc.shaped.pieces in
    let same : length bs ≡ length cs = fb.shaped.counted ∙ sym fc.shaped.counted in
    record {
      shaped = record {
        counted = length-mixed j bs cs same ∙ fb.shaped.counted;
        pieces = All-from_recursion (IsPiece shape.frag_size) (mixed j bs cs) (mixed_pieces shape.frag_size j bs cs lt hb hc);
      };
      fitting = λ k d inside. mixed_meets shape.frag_size j bs cs (equation_of shape (get_or heard k d)) lt hb hc same (fb.fitting k d inside) (fc.fitting k d inside);
    }

-- ---- files of blocks

length-concat : (size : ℕ) (bs : List (List ℕ)) → AllByRecursion (IsPiece size) bs → length (concat bs) ≡ length bs * size
length-concat size [] h = sym (zero-mul size)
length-concat size (b ∷ bs) h =
    let rest = length-concat size bs h.1 in
    omega (arith, length-append b (concat bs), h.0.sized, suc-mul (length bs) size)

take-nil : {A : Type 0} (n : ℕ) → take {A = A} n [] ≡ []
take-nil zero = refl
take-nil (suc n) = refl

drop_of_take : (k n : ℕ) (xs : List ℕ) → drop k (take n xs) ≡ take (n - k) (drop k xs)
drop_of_take zero n xs = ap (λ i. take i xs) (let e : n ≡ n - 0 = omega arith in e)
drop_of_take (suc k) zero xs = ap (λ i. take i (drop (suc k) xs)) (let e : 0 ≡ 0 - suc k = omega arith in e)
drop_of_take (suc k) (suc n) [] = sym (take-nil (suc n - suc k))
drop_of_take (suc k) (suc n) (x ∷ xs) = drop_of_take k n xs ∙ ap (λ i. take i (drop k xs)) (let e : n - k ≡ suc n - suc k = omega arith in e)

-- the pieces of two blocks have the same byte at one place
SameAt : ℕ → List (List ℕ) → List (List ℕ) → Type 0
SameAt j [] cs = Unit {0}
SameAt j (b ∷ bs) [] = Unit {0}
SameAt j (b ∷ bs) (c ∷ cs) = (get_or b j 0 ≡ get_or c j 0) × SameAt j bs cs

-- where the file doesn't change by the mixing, the blocks agree there: each piece's first byte is in the file
same_at : (size j : ℕ) (bs cs : List (List ℕ)) → j < size → AllByRecursion (IsPiece size) bs → AllByRecursion (IsPiece size) cs → length bs ≡ length cs
    → (n : ℕ) → length bs * size < n + size → take n (concat (mixed j bs cs)) ≡ take n (concat bs) → SameAt j bs cs
unfolding SameAt mixed mixed_piece
same_at size j [] cs lt hb hc same n long e = tt
same_at size j (b ∷ bs) [] lt hb hc same n long e = tt
same_at size j (b ∷ bs) (c ∷ cs) lt hb hc same n long e =
    let same' : length bs ≡ length cs = omega arith in
    let x : ℕ = bit_xor (get_or b 0 0) (bit_xor (get_or b j 0) (get_or c j 0)) in
    let m : List ℕ = set b 0 x in
    let ms : List (List ℕ) = mixed j bs cs in
    let sized_b : length b ≡ size = hb.0.sized in
    let sized_m : length m ≡ size = length-set b 0 x ∙ sized_b in
    let more : length bs * size < n = omega (arith, suc-mul (length bs) size) in
    let lt_m : 0 < length m = omega arith in
    let lt_b : 0 < length b = omega arith in
    let front : get_or m 0 0 ≡ get_or b 0 0 =
    sym (get_or-take n (m ++ concat ms) 0 0 (omega arith) ∙ get_or-append m (concat ms) 0 0 lt_m)
    ∙ ap (λ l. get_or l 0 0) e
    ∙ (get_or-take n (b ++ concat bs) 0 0 (omega arith) ∙ get_or-append b (concat bs) 0 0 lt_b) in
    let head : get_or b j 0 ≡ get_or c j 0 =
    xor_same (get_or b j 0) (get_or c j 0) (xor_kept (get_or b 0 0) (bit_xor (get_or b j 0) (get_or c j 0)) (sym (get_or-set_same b 0 x 0 lt_b) ∙ front)) in
    let rest : take (n - size) (concat ms) ≡ take (n - size) (concat bs) =
    ap (take (n - size)) (sym (drop_at m (concat ms) size sized_m))
    ∙ sym (drop_of_take size n (m ++ concat ms))
    ∙ ap (drop size) e
    ∙ drop_of_take size n (b ++ concat bs)
    ∙ ap (take (n - size)) (drop_at b (concat bs) size sized_b) in
    (head, same_at size j bs cs lt hb.1 hc.1 same' (n - size) (omega arith) rest)

-- blocks that agree everywhere are one
equal_blocks : (size : ℕ) (bs cs : List (List ℕ)) → AllByRecursion (IsPiece size) bs → AllByRecursion (IsPiece size) cs → length bs ≡ length cs
    → ((j : ℕ) → j < size → SameAt j bs cs) → bs ≡ cs
unfolding SameAt
equal_blocks size [] [] hb hc same h = refl
equal_blocks size [] (c ∷ cs) hb hc same h = absurd (omega arith)
equal_blocks size (b ∷ bs) [] hb hc same h = absurd (omega arith)
equal_blocks size (b ∷ bs) (c ∷ cs) hb hc same h =
    let same' : length bs ≡ length cs = omega arith in
    let head : b ≡ c = ext_get_or 0 b c (hb.0.sized ∙ sym hc.0.sized) (λ i lt. (h i (omega (arith, hb.0.sized))).0) in
    let tail : bs ≡ cs = equal_blocks size bs cs hb.1 hc.1 same' (λ j lt. (h j lt).1) in
    ap₂ (λ x xs. x ∷ xs) head tail

size_within : (count size : ℕ) → 0 < count → size ≤ count * size
size_within zero size pos = absurd (omega arith)
size_within (suc n) size pos = omega (arith, suc-mul n size)

-- how long all the pieces are together
pub length-block : (shape : Shape) (block : List (List ℕ)) → IsBlock shape block → length (concat block) ≡ shape.nb_frag * shape.frag_size
length-block shape block h =
    length-concat shape.frag_size block (recursion_from_All (IsPiece shape.frag_size) block h.pieces)
    ∙ ap (λ n. n * shape.frag_size) h.counted

-- the file of a block that fits, fits
file_fits : (shape : Shape) (padding : ℕ) (heard : List Fragment) (block : List (List ℕ)) → 0 < shape.nb_frag → padding < shape.frag_size
    → FittingBlock shape heard block → FileFits shape padding heard (file_of padding shape block)
unfolding file_of
file_fits shape padding heard block some short fb =
    let n : ℕ = shape.nb_frag * shape.frag_size - padding in (
      drop n (concat block),
      block,
      record {
        padded = omega (arith, length-drop n (concat block), length-block shape block fb.shaped, size_within shape.nb_frag shape.frag_size some);
        joined = sym (take-append-drop n (concat block));
        fits = fb;
      },
    )

pub one_file : (shape : Shape) (padding : ℕ) (heard : List Fragment) (block : List (List ℕ)) → 0 < shape.nb_frag → padding < shape.frag_size
    → OneBlockFits shape heard block → OneFileFits shape padding heard (file_of padding shape block)
unfolding file_of
one_file shape padding heard block some short h =
    let n : ℕ = shape.nb_frag * shape.frag_size - padding in
    record {
      fits = file_fits shape padding heard block some short h.fits;
      alone = λ other f.
          let same : f.1 ≡ block = h.alone f.1 f.2.fits in
          let joined : concat block ≡ other ++ f.0 = sym (ap concat same) ∙ f.2.joined in
          let long : length other ≡ n = omega (arith, ap length joined, length-append other f.0, f.2.padded, length-block shape block h.fits.shaped) in
          sym (take_at other f.0 n long) ∙ sym (ap (take n) joined);
    }

pub one_block : (shape : Shape) (padding : ℕ) (heard : List Fragment) (file : List ℕ) → 0 < shape.nb_frag → padding < shape.frag_size
    → OneFileFits shape padding heard file → (block : List (List ℕ)) × OneBlockFits shape heard block × (file ≡ file_of padding shape block)
unfolding file_of
one_block shape padding heard file some short h =
    let n : ℕ = shape.nb_frag * shape.frag_size - padding in
    let b : List (List ℕ) = h.fits.1 in
    let fb : FittingBlock shape heard b = h.fits.2.fits in
    let its : take n (concat b) ≡ file = h.alone (take n (concat b)) (file_fits shape padding heard b some short fb) in (
      b,
      record {
        fits = fb;
        alone = λ c fc.
            let hb = recursion_from_All (IsPiece shape.frag_size) b fb.shaped.pieces in
            let hc = recursion_from_All (IsPiece shape.frag_size) c fc.shaped.pieces in
            let same : length b ≡ length c = fb.shaped.counted ∙ sym fc.shaped.counted in
            let total : length b * shape.frag_size ≡ shape.nb_frag * shape.frag_size = ap (λ k. k * shape.frag_size) fb.shaped.counted in
            sym (equal_blocks shape.frag_size b c hb hc same
            (λ j lt. same_at shape.frag_size j b c lt hb hc same n (omega arith)
            (h.alone (take n (concat (mixed j b c))) (file_fits shape padding heard (mixed j b c) some short (mixed_fits shape heard j b c lt fb fc)) ∙ sym its)));
      },
      sym its,
    )
