-- How much a list of heard fragments tells: gain, direct and excess, over the numbers heard, newest first.
use Rattle.std.specs.Prelude.{◌≡◌, ◌⊎◌, ℕ, ◌+◌, ◌-◌, Bool, ◌&&◌, not, ◌==◌, nat_le, List, [], ◌∷◌, ◌++◌, map, bit_xor, if◌then◌else◌}
use Rattle.std.specs.List.{list_any}
use Rattle.frag_model.specs.Fragments.{Fragment, Shape, line_of}

-- the XORs of all sublists of the lines, the empty one included
unfoldable pub sums : List ℕ → List ℕ
sums [] = 0 ∷ []
sums (line ∷ lines) = sums lines ++ map (λ s. bit_xor line s) (sums lines)

-- x is one of them
unfoldable pub is_sum : ℕ → List ℕ → Bool
is_sum x lines = list_any (λ s. s == x) (sums lines)

-- the same by cases on the list: the first line is left out of the XOR, or it is in it
abbrev pub IsSum : ℕ → List ℕ → Type 0
IsSum x [] = x ≡ 0
IsSum x (line ∷ lines) = IsSum x lines ⊎ IsSum (bit_xor line x) lines

-- how many lines are no sum of those after them
unfoldable pub gain_of_lines : List ℕ → ℕ
gain_of_lines [] = 0
gain_of_lines (line ∷ older) = gain_of_lines older + (if is_sum line older then 0 else 1)

-- how many of the numbers gained something: their line is no sum of the lines heard before
unfoldable pub gain_of : ℕ → List ℕ → ℕ
gain_of nb_frag numbers = gain_of_lines (map (λ n. line_of nb_frag n) numbers)

-- how many different pieces came uncoded
unfoldable pub direct_of : ℕ → List ℕ → ℕ
direct_of nb_frag [] = 0
direct_of nb_frag (n ∷ older) = direct_of nb_frag older + (if nat_le n nb_frag && not (list_any (λ m. m == n) older) then 1 else 0)

-- the numbers that were heard
unfoldable pub numbers_of : List Fragment → List ℕ
numbers_of heard = map (λ (f : Fragment). f.number) heard

-- gain of a list of heard fragments
unfoldable pub gain : Shape → List Fragment → ℕ
gain shape heard = gain_of shape.nb_frag (numbers_of heard)

-- the different pieces among them
unfoldable pub direct : Shape → List Fragment → ℕ
direct shape heard = direct_of shape.nb_frag (numbers_of heard)

-- how many independent coded fragments must be kept
unfoldable pub excess : Shape → List Fragment → ℕ
excess shape heard = gain shape heard - direct shape heard
