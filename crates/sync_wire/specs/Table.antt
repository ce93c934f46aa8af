-- The commands of TS003-1.0.0 (port 202) and TS006-1.0.0 (port 203): one row for each, as the standard's tables have
-- them.
use Rattle.std.specs.Prelude.{◌≡◌, ℕ, ◌⊎◌, ◌==◌, List, [], ◌∷◌, Option, Some, None, is_some, FitsSigned}
use Rattle.std.specs.Int.{w32, cast_unsigned}
use Rattle.wire_base.specs.declared.refusal.Direction.{Direction}
use Rattle.wire_base.specs.declared.refusal.Refusal.{Refusal}
use Rattle.wire_base.specs.Rows.{Row, Part, down, up, bits, flag, number, packed, spelling}
use Rattle.wire_base.specs.Tables as table
use Rattle.sync_wire.specs.declared.cmd.Cmd.{Cmd}
use Rattle.sync_wire.specs.declared.cmd.Cmd.TheVariants.{PackageVersionReq, PackageVersionAns, AppTimeReq, AppTimeAns, DeviceAppTimePeriodicityReq, DeviceAppTimePeriodicityAns, ForceDeviceResyncReq, DevVersionReq, DevVersionAns, DevRebootTimeReq, DevRebootTimeAns, DevRebootCountdownReq, DevRebootCountdownAns, DevUpgradeImageReq, DevUpgradeImageAns, DevDeleteImageReq, DevDeleteImageAns}

-- the next version, where it is there
abbrev pub next_parts : Option ℕ → List Part
next_parts None = []
next_parts (Some version) = number 4 version ∷ []

-- the table; the correction is signed, in two's complement
abbrev pub row : Cmd → Row
row PackageVersionReq = down (202 ∷ 203 ∷ []) 0x00 []
row (PackageVersionAns identifier version) = up (202 ∷ 203 ∷ []) 0x00 (number 1 identifier ∷ number 1 version ∷ [])
row (AppTimeReq time required token) = up (202 ∷ []) 0x01
    (number 4 time ∷ packed 1 (flag 4 required ∷ bits 3 0 token ∷ []) ∷ [])
row (AppTimeAns correction token) = down (202 ∷ []) 0x01
    (number 4 (cast_unsigned w32 correction) ∷ packed 1 (bits 3 0 token ∷ []) ∷ [])
row (DeviceAppTimePeriodicityReq period) = down (202 ∷ []) 0x02 (packed 1 (bits 3 0 period ∷ []) ∷ [])
row (DeviceAppTimePeriodicityAns unsupported time) = up (202 ∷ []) 0x02
    (packed 1 (flag 0 unsupported ∷ []) ∷ number 4 time ∷ [])
row (ForceDeviceResyncReq count) = down (202 ∷ []) 0x03 (packed 1 (bits 2 0 count ∷ []) ∷ [])
row DevVersionReq = down (203 ∷ []) 0x01 []
row (DevVersionAns firmware hardware) = up (203 ∷ []) 0x01 (number 4 firmware ∷ number 4 hardware ∷ [])
row (DevRebootTimeReq time) = down (203 ∷ []) 0x02 (number 4 time ∷ [])
row (DevRebootTimeAns time) = up (203 ∷ []) 0x02 (number 4 time ∷ [])
row (DevRebootCountdownReq count) = down (203 ∷ []) 0x03 (number 3 count ∷ [])
row (DevRebootCountdownAns count) = up (203 ∷ []) 0x03 (number 3 count ∷ [])
row DevUpgradeImageReq = down (203 ∷ []) 0x04 []
row (DevUpgradeImageAns status next) = up (203 ∷ []) 0x04 (packed 1 (bits 1 0 status ∷ []) ∷ next_parts next)
row (DevDeleteImageReq version) = down (203 ∷ []) 0x05 (number 4 version ∷ [])
row (DevDeleteImageAns errors) = up (203 ∷ []) 0x05 (packed 1 (bits 1 0 errors ∷ []) ∷ [])

-- what a command's fields must be together: the correction has 32 bits with its sign, and the next version is there
-- exactly where the status is 3
abbrev pub IsWhole : Cmd → Type 0
IsWhole (AppTimeAns correction token) = FitsSigned w32 correction
IsWhole (DevUpgradeImageAns status next) = is_some next ≡ (status == 3)
IsWhole _ = Unit {0}

-- ---- what every table says, of this one

-- a valid command
abbrev pub IsValid : Cmd → Type 0
IsValid c = table.IsValid row IsWhole c

-- the bytes of a payload from a place to the next spell the command
abbrev pub Spells : Cmd → ℕ → Direction → List ℕ → (at next : ℕ) → Type 0
Spells c port direction bytes at next = table.Spells row IsWhole c port direction bytes at next

-- the canonical spelling of a command: its bytes with reserved bits 0
abbrev pub canonical : Cmd → List ℕ
canonical c = spelling (row c)

-- the ports of the two packages
abbrev pub IsPort : ℕ → Type 0
IsPort port = (port ≡ 202) ⊎ (port ≡ 203)

-- some command of the table for that port and direction has this identifier
abbrev pub IsKnown : ℕ → Direction → ℕ → Type 0
IsKnown port direction cid = table.IsKnown row port direction cid

-- the refusal of a place where no command is spelled
abbrev pub IsRefusal : ℕ → Direction → List ℕ → (at : ℕ) → Refusal → Type 0
IsRefusal port direction bytes at refusal = table.IsRefusal row IsPort port direction bytes at refusal
