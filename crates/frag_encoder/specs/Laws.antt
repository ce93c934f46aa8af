-- A law about the fragments of a file. A function with an empty body has it as its contract.
use Rattle.std.specs.Prelude.{◌≡◌, ℕ, ◌^◌, ◌<◌, List, length, All}
use Rattle.frag_model.specs.Fragments.{Fragment, Shape, IsBlock, Fits, file_of}
use Rattle.frag_encoder.specs.Encoding.{nb_frag_of, padding_of, block_of, data_of}

-- what the setup for a file fixes, with so many rows on the device
abbrev pub shape_of : List ℕ → ℕ → ℕ → Shape
shape_of file frag_size rows = record { nb_frag = nb_frag_of (length file) frag_size; frag_size = frag_size; rows = rows }

-- the fragments of a file are those of one block, and the block's file is the file
pub record FragmentsAreTheFiles : Type 0 where
  -- the pieces are a block of the shape
  pub shaped : (file : List ℕ) (frag_size rows : ℕ) → 0 < frag_size → All (λ b. b < 2 ^ 8) file
      → IsBlock (shape_of file frag_size rows) (block_of file frag_size)
  -- what is recovered from it is the file
  pub recovered : (file : List ℕ) (frag_size rows : ℕ) → 0 < frag_size
      → file_of (padding_of (length file) frag_size) (shape_of file frag_size rows) (block_of file frag_size) ≡ file
  -- and it fits whatever was heard of the file's fragments
  pub fits : (file : List ℕ) (frag_size rows : ℕ) (heard : List Fragment) → All (λ (f : Fragment). f.part ≡ data_of file frag_size f.number) heard
      → Fits (shape_of file frag_size rows) heard (block_of file frag_size)
