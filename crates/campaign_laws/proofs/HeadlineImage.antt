-- The image's own block fits all that its server sends; so it is the block, where only one fits.
use Rattle.std.proofs.Common.{◌≡◌, ℕ, ◌<◌, ◌^◌, List, [], ◌∷◌, ◌++◌, length, replicate, All, sym, ap, ◌∙◌, subst, arith}
use Rattle.std.specs.List.{AllByRecursion}
use Rattle.std.proofs.lemmas.List.{length-replicate}
use Rattle.std.proofs.lemmas.List.Elements.{All-from_recursion}
use Rattle.frag_model.specs.Fragments.{Fragment, Shape, IsBlock, Fits}
use Rattle.frag_model.specs.File.{FileFits, OneFileFits}
use Rattle.frag_encoder.specs.Encoding.{nb_frag_of, padding_of, data_of, filled, block_of}
use Rattle.frag_encoder.specs.Laws.{shape_of}
use Rattle.frag_encoder.proofs.Blocks.{concat-pieces, filled_whole, block_shaped, block_fits}
use Rattle.frag_session.specs.FirstMoment.{MakesFile}
use Rattle.campaign_laws.specs.Headline.{IsFragmentOf}

-- a shape in which the server's fragments of the image are heard
pub record IsShapeFor (image : List ℕ) (shape : Shape) (padding : ℕ) : Type 0 where
  pub count : shape.nb_frag ≡ nb_frag_of (length image) shape.frag_size
  pub padded : padding ≡ padding_of (length image) shape.frag_size
  pub makes : MakesFile shape padding
  pub bytes : All (λ b. b < 2 ^ 8) image

sized : (image : List ℕ) (shape : Shape) (padding : ℕ) → IsShapeFor image shape padding → 0 < shape.frag_size
sized image shape padding h = omega (arith, h.makes.short)

-- it is the encoder's
encoders : (image : List ℕ) (shape : Shape) (padding : ℕ) → IsShapeFor image shape padding
    → shape_of image shape.frag_size shape.rows ≡ shape
encoders image shape padding h =
    ap (λ (n : ℕ). let s : Shape = record { nb_frag = n; frag_size = shape.frag_size; rows = shape.rows } in s)
    (sym h.count)

-- each fragment's part is the encoder's
abbrev HasPart : List ℕ → ℕ → Fragment → Type 0
HasPart image size f = f.part ≡ data_of image size f.number

parts : (image : List ℕ) (size : ℕ) (heard : List Fragment) → AllByRecursion (IsFragmentOf image size) heard
    → AllByRecursion (HasPart image size) heard
parts image size [] all = tt
parts image size (f ∷ heard) all = (all.0.part, parts image size heard all.1)

-- the image fits
pub image_fits : (image : List ℕ) (shape : Shape) (padding : ℕ) (heard : List Fragment) → IsShapeFor image shape padding
    → AllByRecursion (IsFragmentOf image shape.frag_size) heard → FileFits shape padding heard image
image_fits image shape padding heard h all =
    let size : ℕ = shape.frag_size in
    let some : 0 < size = sized image shape padding h in
    let same = encoders image shape padding h in (
      replicate (padding_of (length image) size) 0,
      block_of image size,
      record {
        padded = length-replicate {A = ℕ} (padding_of (length image) size) 0 ∙ sym h.padded;
        joined = concat-pieces (nb_frag_of (length image) size) size (filled image size) (filled_whole image size some);
        fits = record {
          shaped = subst (λ (s : Shape). IsBlock s (block_of image size)) same
              (block_shaped image size shape.rows some h.bytes);
          fitting = subst (λ (s : Shape). Fits s heard (block_of image size)) same
              (block_fits image size shape.rows heard
              (All-from_recursion (HasPart image size) heard (parts image size heard all)));
        };
      },
    )

-- a file that is the only one to fit is the image
pub alone_is_image : (image : List ℕ) (shape : Shape) (padding : ℕ) (heard : List Fragment) (file : List ℕ)
    → IsShapeFor image shape padding → AllByRecursion (IsFragmentOf image shape.frag_size) heard
    → OneFileFits shape padding heard file → file ≡ image
alone_is_image image shape padding heard file h all one =
    sym (one.alone image (image_fits image shape padding heard h all))

-- what holds of all holds of those after some
pub behind : (P : Fragment → Type 0) (newer older : List Fragment) → AllByRecursion P (newer ++ older)
    → AllByRecursion P older
behind P [] older all = all
behind P (f ∷ newer) older all = behind P newer older all.1
