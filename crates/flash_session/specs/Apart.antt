-- Ranges side by side on one flash.
use Rattle.std.specs.Prelude.{◌⊎◌, ℕ, ◌+◌, ◌≤◌}

-- they do not meet
abbrev pub AreApart : (base span base2 span2 : ℕ) → Type 0
AreApart base span base2 span2 = (base + span ≤ base2) ⊎ (base2 + span2 ≤ base)
