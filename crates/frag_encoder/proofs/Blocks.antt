-- The block of a file: its shape, its file, and what it fits.
use Rattle.std.proofs.Common.{◌≡◌, ℕ, zero, suc, ◌+◌, ◌-◌, ◌*◌, ◌^◌, ◌<◌, ◌≤◌, List, [], ◌∷◌, ◌++◌, length, take, drop, replicate, All, refl, sym, ap, ap₂, ◌∙◌, zero-mul, suc-mul, length-append, length-take, length-drop, lit<, arith}
use Rattle.std.specs.List.{concat, AllByRecursion}
use Rattle.std.proofs.lemmas.Grind.{div_ceil_times}
use Rattle.std.proofs.lemmas.List.{take-append-drop, take_at, length-replicate}
use Rattle.std.proofs.lemmas.List.Elements.{All-from_recursion, All-take, All-drop, All-append, All-replicate}
use Rattle.frag_model.specs.Fragments.{Fragment, IsPiece, IsBlock, Meets, Fits, equation_of, file_of}
use Rattle.frag_encoder.specs.Encoding.{nb_frag_of, padding_of, filled, pieces_of, block_of, data_of}
use Rattle.frag_encoder.specs.Laws.{shape_of}
use Rattle.frag_encoder.proofs.Pieces.{length-pieces}

behind_first : (count size : ℕ) (bytes : List ℕ) → length bytes ≡ suc count * size → (size ≤ length bytes) × (length (drop size bytes) ≡ count * size)
behind_first count size bytes is = (omega (arith, suc-mul count size), omega (arith, length-drop size bytes, suc-mul count size))

pub concat-pieces : (count size : ℕ) (bytes : List ℕ) → length bytes ≡ count * size → concat (pieces_of count size bytes) ≡ bytes
unfolding pieces_of
concat-pieces zero size [] is = refl
concat-pieces zero size (b ∷ bytes) is = absurd (omega (arith, zero-mul size))
concat-pieces (suc count) size bytes is =
    ap (λ (bs : List ℕ). take size bytes ++ bs) (concat-pieces count size (drop size bytes) (behind_first count size bytes is).1) ∙ take-append-drop size bytes

pub pieces_are_pieces : (count size : ℕ) (bytes : List ℕ) → length bytes ≡ count * size → All (λ b. b < 2 ^ 8) bytes
    → AllByRecursion (IsPiece size) (pieces_of count size bytes)
unfolding pieces_of
pieces_are_pieces zero size bytes is small = tt
pieces_are_pieces (suc count) size bytes is small =
    let behind = behind_first count size bytes is in (
      record { sized = omega (arith, length-take size bytes, behind.0); bytes = All-take (λ b. b < 2 ^ 8) size bytes small },
      pieces_are_pieces count size (drop size bytes) behind.1 (All-drop (λ b. b < 2 ^ 8) size bytes small),
    )

lacking : (file : List ℕ) (frag_size : ℕ) → 0 < frag_size → length file + padding_of (length file) frag_size ≡ nb_frag_of (length file) frag_size * frag_size
lacking file frag_size some =
    let bound : length file ≤ nb_frag_of (length file) frag_size * frag_size = (div_ceil_times (length file) frag_size some).0 in
    omega (arith, bound)

pub filled_whole : (file : List ℕ) (frag_size : ℕ) → 0 < frag_size → length (filled file frag_size) ≡ nb_frag_of (length file) frag_size * frag_size
filled_whole file frag_size some =
    let zeros : List ℕ = replicate (padding_of (length file) frag_size) 0 in
    length-append file zeros ∙ ap (λ n. length file + n) (length-replicate {A = ℕ} (padding_of (length file) frag_size) 0) ∙ lacking file frag_size some

pub block_shaped : (file : List ℕ) (frag_size rows : ℕ) → 0 < frag_size → All (λ b. b < 2 ^ 8) file → IsBlock (shape_of file frag_size rows) (block_of file frag_size)
block_shaped file frag_size rows some small =
    let zeros : List ℕ = replicate (padding_of (length file) frag_size) 0 in
    let bytes : All (λ b. b < 2 ^ 8) (filled file frag_size) = All-append (λ b. b < 2 ^ 8) file zeros small (All-replicate (λ b. b < 2 ^ 8) (padding_of (length file) frag_size) 0 (lit< tt)) in
    record {
      counted = length-pieces (nb_frag_of (length file) frag_size) frag_size (filled file frag_size);
      pieces = All-from_recursion (IsPiece frag_size) _ (pieces_are_pieces (nb_frag_of (length file) frag_size) frag_size (filled file frag_size) (filled_whole file frag_size some) bytes);
    }

pub block_recovered : (file : List ℕ) (frag_size rows : ℕ) → 0 < frag_size
    → file_of (padding_of (length file) frag_size) (shape_of file frag_size rows) (block_of file frag_size) ≡ file
unfolding file_of
block_recovered file frag_size rows some =
    let whole : ℕ = nb_frag_of (length file) frag_size * frag_size in
    let padding : ℕ = padding_of (length file) frag_size in
    let len : whole - padding ≡ length file = omega (arith, lacking file frag_size some) in
    ap₂ (λ n (bs : List ℕ). take n bs) len (concat-pieces (nb_frag_of (length file) frag_size) frag_size (filled file frag_size) (filled_whole file frag_size some))
    ∙ take_at file (replicate padding 0) (length file) refl

pub block_fits : (file : List ℕ) (frag_size rows : ℕ) (heard : List Fragment) → All (λ (f : Fragment). f.part ≡ data_of file frag_size f.number) heard
    → Fits (shape_of file frag_size rows) heard (block_of file frag_size)
unfolding Meets equation_of data_of
block_fits file frag_size rows heard h = λ k d lt. sym (h k d lt)
