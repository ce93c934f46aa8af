-- Parity lines: which columns the coded fragment n over so many columns is the XOR of.
-- (TS004-1.0.0, the forward error correction code: parity matrix generation and its PRBS23 function.)
-- A line is a number: column c is in it where bit c is set.
use Rattle.std.specs.Prelude.{ℕ, zero, suc, Bool, ◌+◌, ◌*◌, ◌/◌, ◌^◌, ◌%◌, List, [], ◌∷◌, map, filter, take, nat_lt, bit_or, bit_xor, if◌then◌else◌}
use Rattle.std.specs.Int.{bit_at, is_power_of_two}

-- one step of the 23-bit register: all bits move down by one, and bit 0 and bit 5 make the new top bit
abbrev pub prbs23 : ℕ → ℕ
prbs23 x = x / 2 + bit_xor (bit_at x 0) (bit_at x 5) * 2 ^ 22

-- the next so many states of the register after x
unfoldable pub states_after : ℕ → ℕ → List ℕ
states_after x zero = []
states_after x (suc count) = prbs23 x ∷ states_after (prbs23 x) count

-- the first so many parity states of coded fragment n
unfoldable pub parity_states : ℕ → ℕ → List ℕ
parity_states n count = states_after (1 + 1001 * n) count

-- what states are divided by: the number of columns, and one more where that is a power of two
unfoldable pub modulus : ℕ → ℕ
modulus cols = if is_power_of_two cols then cols + 1 else cols

-- the residues of the 25 * floor(cols / 2) first parity states, among which a line's columns are found
unfoldable pub residues : ℕ → ℕ → List ℕ
residues n cols = map (λ x. x % modulus cols) (parity_states n (25 * (cols / 2)))

-- the columns drawn: the first floor(cols / 2) residues that are columns, a column drawn twice standing twice
unfoldable pub columns_drawn : ℕ → ℕ → List ℕ
columns_drawn n cols = take (cols / 2) (filter (λ r. nat_lt r cols) (residues n cols))

-- the line that has these columns and no other
unfoldable pub line_with : List ℕ → ℕ
line_with [] = 0
line_with (c ∷ cs) = bit_or (2 ^ c) (line_with cs)

-- the line of coded fragment n over so many columns
unfoldable pub line : ℕ → ℕ → ℕ
line n cols = line_with (columns_drawn n cols)

-- the place, counted from 1, of the last of so many members below the bound; 0 for none
unfoldable pub place_of : ℕ → ℕ → List ℕ → ℕ
place_of bound zero rs = 0
place_of bound (suc wanted) [] = 0
place_of bound (suc wanted) (r ∷ rs) = 1 + (if nat_lt r bound then place_of bound wanted rs else place_of bound (suc wanted) rs)

-- how many states are drawn for the line: the place of the last residue that is used
unfoldable pub draws : ℕ → ℕ → ℕ
draws n cols = place_of cols (cols / 2) (residues n cols)

-- the line that is given column by column
unfoldable pub number_of : List Bool → ℕ
number_of [] = 0
number_of (b ∷ bs) = number_of bs * 2 + (if b then 1 else 0)
