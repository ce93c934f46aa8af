-- Which files fit what was heard: the view of someone who knows the padding, and nothing of blocks.
use Rattle.std.specs.Prelude.{◌≡◌, ℕ, List, ◌++◌, length}
use Rattle.std.specs.List.{concat}
use Rattle.frag_model.specs.Fragments.{Fragment, Shape}
use Rattle.frag_model.specs.Verdict.{FittingBlock}

-- some padding bytes complete the file to this block, and it fits
pub record CompletesTo (shape : Shape) (padding : ℕ) (heard : List Fragment) (file pad : List ℕ) (block : List (List ℕ)) : Type 0 where
  pub padded : length pad ≡ padding
  pub joined : concat block ≡ file ++ pad
  pub fits : FittingBlock shape heard block

-- the file fits: some padding completes it to a block that fits
abbrev pub FileFits : Shape → ℕ → List Fragment → List ℕ → Type 0
FileFits shape padding heard file = (pad : List ℕ) × (block : List (List ℕ)) × CompletesTo shape padding heard file pad block

-- this file fits, and each that fits is it
pub record OneFileFits (shape : Shape) (padding : ℕ) (heard : List Fragment) (file : List ℕ) : Type 0 where
  pub fits : FileFits shape padding heard file
  pub alone : (other : List ℕ) → FileFits shape padding heard other → other ≡ file
