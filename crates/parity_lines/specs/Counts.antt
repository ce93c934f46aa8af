-- What a count of steps is opened with.
use Rattle.std.specs.Prelude.{◌≡◌, ℕ, ◌<◌}

-- a blank ledger of this name and so many parts may become the ledger of that name and so many
pub record IsBlankOf (ledger ledger_parts blank blank_parts : ℕ) : Type 0 where
  pub name : blank ≡ ledger
  pub parts : blank_parts ≡ ledger_parts
  -- there is a part to count with
  pub counted : 0 < blank_parts
