-- What asking an encoder for a fragment makes, and what it counts.
use Rattle.std.specs.Prelude.{◌≡◌, ◌↔◌, ℕ, ◌+◌, ◌-◌, ◌*◌, ◌≤◌, List, length, take, drop, Result, IsOk, OnOk, OnErr}
use Rattle.arrayvec.specs.ArrayVec.{ArrayVec as Items}
use Rattle.frag_model.specs.Fragments.{draws_of, line_of, pieces_at, xor_all}
use Rattle.frag_model.specs.Limits.{max_frag_size, max_parity_index, max_pieces}
use Rattle.frag_encoder.specs.Encoding.{nb_frag_of, filled, pieces_of, data_of, sums_of}

-- fragment n of a file was asked for, and its bytes replaced what was held before
pub record GivesFragment {E : Type 0} (file : List ℕ) (frag_size n : ℕ) (old new : Items ℕ) (result : Result (Unit {0}) E) : Type 0 where
  -- Ok comes exactly for the numbers that fragments have
  pub within : IsOk result ↔ ((1 ≤ n) × (n ≤ nb_frag_of (length file) frag_size + max_parity_index))
  pub part : OnOk result (new.items ≡ data_of file frag_size n)
  pub size : OnOk result (length new.items ≡ frag_size)
  -- up to the number of pieces it is the piece itself, the last one filled up
  pub piece : n ≤ nb_frag_of (length file) frag_size
      → OnOk result (new.items ≡ take frag_size (drop ((n - 1) * frag_size) (filled file frag_size)))
  -- what was held stays where there is no such fragment
  pub beyond : OnErr result (new ≡ old)

-- fragment n was made, between these two counts of states drawn and of pieces summed
pub record CountsWork (nb_frag n drawn drawn_now summed summed_now : ℕ) : Type 0 where
  pub draws : drawn_now ≡ drawn + draws_of nb_frag n
  pub sums : summed_now ≡ summed + sums_of nb_frag n

-- fragment n of so many pieces of a size may be written over a part
pub record MayWrite (n nb_frag frag_size : ℕ) (bytes part : List ℕ) : Type 0 where
  pub some : 1 ≤ nb_frag
  pub most : nb_frag ≤ max_pieces
  pub first : 1 ≤ n
  pub last : n ≤ nb_frag + max_parity_index
  pub size : length part ≡ frag_size
  pub fits : frag_size ≤ max_frag_size
  pub whole : length bytes ≡ nb_frag * frag_size

-- its data was written, which is the piece itself up to the number of pieces
pub record IsWritten (n nb_frag frag_size : ℕ) (bytes part : List ℕ) : Type 0 where
  pub whole : part ≡ xor_all frag_size (pieces_at (line_of nb_frag n) (pieces_of nb_frag frag_size bytes))
  pub piece : n ≤ nb_frag → part ≡ take frag_size (drop ((n - 1) * frag_size) bytes)
