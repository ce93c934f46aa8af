-- The sizes that C names.
use Rattle.std.specs.Prelude.{ℕ}
use Rattle.session_store.specs.declared.sizes.SessionSize.{SessionSize}
use Rattle.session_store.specs.declared.sizes.SessionSize.TheVariants as sessions
use Rattle.fuota_c.specs.declared.size.PartSize.{PartSize}
use Rattle.fuota_c.specs.declared.size.PartSize.TheVariants.{Small, Middle, Large}

-- the numbers of the header
abbrev pub size_number : PartSize → ℕ
size_number Small = 0
size_number Middle = 1
size_number Large = 2

-- the sizes of a device's sessions
abbrev pub sessions_of : PartSize → SessionSize
sessions_of Small = sessions.Small
sessions_of Middle = sessions.Middle
sessions_of Large = sessions.Large
