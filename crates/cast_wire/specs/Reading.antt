-- Between the table and the code: for each port and direction the command that a place's identifier names, and its end.
-- The table alone says what commands are. The reading of a payload computes with these functions, and a law holds it to the
-- table.
use Rattle.std.specs.Prelude.{ℕ, zero, suc, ◌+◌, ◌*◌, ◌||◌, ◌==◌, nat_le, if◌then◌else◌, List, [], ◌∷◌, length, drop, slice_range, count_ones, Option, Some, None}
use Rattle.wire_base.specs.declared.refusal.Direction.{Direction}
use Rattle.wire_base.specs.declared.refusal.Direction.TheVariants.{Down, Up}
use Rattle.wire_base.specs.Numbers.{number_at}
use Rattle.wire_base.specs.Found.{Found, within, field, is_set}
use Rattle.cast_wire.specs.declared.cmd.Cmd.{Cmd}
use Rattle.cast_wire.specs.declared.cmd.Cmd.TheVariants.{PackageVersionReq, PackageVersionAns, FragSessionStatusReq, FragSessionStatusAns, FragSessionSetupReq, FragSessionSetupAns, FragSessionDeleteReq, FragSessionDeleteAns, DataFragment, McGroupStatusReq, McGroupStatusAns, McGroupSetupReq, McGroupSetupAns, McGroupDeleteReq, McGroupDeleteAns, McClassCSessionReq, McClassCSessionAns, McClassBSessionReq, McClassBSessionAns}
use Rattle.cast_wire.specs.declared.group_list.GroupAddress.{GroupAddress}

unfoldable pub fragment_down : List ℕ → ℕ → Found Cmd
fragment_down bytes at =
    if number_at bytes at 1 == 0x00 then within bytes at 1 PackageVersionReq
    else if number_at bytes at 1 == 0x01 then within bytes at 2
    (FragSessionStatusReq (field bytes (at + 1) 1 1 2) (is_set bytes (at + 1) 0))
    else if number_at bytes at 1 == 0x02 then within bytes at 11
    (FragSessionSetupReq (field bytes (at + 1) 1 4 2) (field bytes (at + 1) 1 0 4) (number_at bytes (at + 2) 2)
    (number_at bytes (at + 4) 1) (field bytes (at + 5) 1 3 3) (field bytes (at + 5) 1 0 3)
    (number_at bytes (at + 6) 1) (number_at bytes (at + 7) 4))
    else if number_at bytes at 1 == 0x03 then within bytes at 2 (FragSessionDeleteReq (field bytes (at + 1) 1 0 2))
    else if number_at bytes at 1 == 0x08 then
    (if nat_le (at + 4) (length bytes)
    then Some
    (DataFragment (field bytes (at + 1) 2 14 2) (field bytes (at + 1) 2 0 14) (drop (at + 3) bytes), length bytes)
    else None)
    else None

unfoldable pub fragment_up : List ℕ → ℕ → Found Cmd
fragment_up bytes at =
    if number_at bytes at 1 == 0x00 then within bytes at 3
    (PackageVersionAns (number_at bytes (at + 1) 1) (number_at bytes (at + 2) 1))
    else if number_at bytes at 1 == 0x01 then within bytes at 5
    (FragSessionStatusAns (field bytes (at + 1) 2 14 2) (field bytes (at + 1) 2 0 14) (number_at bytes (at + 3) 1)
    (is_set bytes (at + 4) 0))
    else if number_at bytes at 1 == 0x02 then within bytes at 2
    (FragSessionSetupAns (field bytes (at + 1) 1 6 2) (is_set bytes (at + 1) 3) (is_set bytes (at + 1) 2)
    (is_set bytes (at + 1) 1) (is_set bytes (at + 1) 0))
    else if number_at bytes at 1 == 0x03 then within bytes at 2
    (FragSessionDeleteAns (field bytes (at + 1) 1 0 2) (is_set bytes (at + 1) 2))
    else None

unfoldable pub group_down : List ℕ → ℕ → Found Cmd
group_down bytes at =
    if number_at bytes at 1 == 0x00 then within bytes at 1 PackageVersionReq
    else if number_at bytes at 1 == 0x01 then within bytes at 2 (McGroupStatusReq (field bytes (at + 1) 1 0 4))
    else if number_at bytes at 1 == 0x02 then within bytes at 30
    (McGroupSetupReq (field bytes (at + 1) 1 0 2) (number_at bytes (at + 2) 4)
    (slice_range bytes (at + 6) (at + 22)) (number_at bytes (at + 22) 4) (number_at bytes (at + 26) 4))
    else if number_at bytes at 1 == 0x03 then within bytes at 2 (McGroupDeleteReq (field bytes (at + 1) 1 0 2))
    else if number_at bytes at 1 == 0x04 then within bytes at 11
    (McClassCSessionReq (field bytes (at + 1) 1 0 2) (number_at bytes (at + 2) 4) (field bytes (at + 6) 1 0 4)
    (number_at bytes (at + 7) 3) (number_at bytes (at + 10) 1))
    else if number_at bytes at 1 == 0x05 then within bytes at 11
    (McClassBSessionReq (field bytes (at + 1) 1 0 2) (number_at bytes (at + 2) 4) (field bytes (at + 6) 1 4 3)
    (field bytes (at + 6) 1 0 4) (number_at bytes (at + 7) 3) (number_at bytes (at + 10) 1))
    else None

-- so many groups from a place on
unfoldable pub groups_at : List ℕ → (at count : ℕ) → List GroupAddress
groups_at bytes at zero = []
groups_at bytes at (suc count) = record { id = field bytes at 1 0 2; addr = number_at bytes (at + 1) 4 }
    ∷ groups_at bytes (at + 5) count

-- an answer with an error bit, or with TimeToStart
abbrev pub with_start : List ℕ → ℕ → (Option ℕ → Cmd) → Found Cmd
with_start bytes at cmd =
    if is_set bytes (at + 1) 4 || is_set bytes (at + 1) 3 || is_set bytes (at + 1) 2
    then within bytes at 2 (cmd None)
    else within bytes at 5 (cmd (Some (number_at bytes (at + 2) 3)))

unfoldable pub group_up : List ℕ → ℕ → Found Cmd
group_up bytes at =
    if number_at bytes at 1 == 0x00 then within bytes at 3
    (PackageVersionAns (number_at bytes (at + 1) 1) (number_at bytes (at + 2) 1))
    else if number_at bytes at 1 == 0x01 then (if nat_le (at + 2) (length bytes)
    then within bytes at (2 + 5 * count_ones (field bytes (at + 1) 1 0 4))
    (McGroupStatusAns (field bytes (at + 1) 1 4 3) (field bytes (at + 1) 1 0 4)
    (groups_at bytes (at + 2) (count_ones (field bytes (at + 1) 1 0 4))))
    else None)
    else if number_at bytes at 1 == 0x02 then within bytes at 2
    (McGroupSetupAns (field bytes (at + 1) 1 0 2) (is_set bytes (at + 1) 2))
    else if number_at bytes at 1 == 0x03 then within bytes at 2
    (McGroupDeleteAns (field bytes (at + 1) 1 0 2) (is_set bytes (at + 1) 2))
    else if number_at bytes at 1 == 0x04 then with_start bytes at
    (McClassCSessionAns (field bytes (at + 1) 1 0 2) (is_set bytes (at + 1) 4) (is_set bytes (at + 1) 3)
    (is_set bytes (at + 1) 2))
    else if number_at bytes at 1 == 0x05 then with_start bytes at
    (McClassBSessionAns (field bytes (at + 1) 1 0 2) (is_set bytes (at + 1) 4) (is_set bytes (at + 1) 3)
    (is_set bytes (at + 1) 2))
    else None

-- the same for each port and direction
abbrev pub reading : ℕ → Direction → List ℕ → ℕ → Found Cmd
reading port Down bytes at =
    if port == 200 then group_down bytes at else if port == 201 then fragment_down bytes at else None
reading port Up bytes at = if port == 200 then group_up bytes at else if port == 201 then fragment_up bytes at else None
