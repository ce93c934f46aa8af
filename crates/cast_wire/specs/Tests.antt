-- What a command's fields must be together, as a test; and one command of each row, which shows the known identifiers.
-- The table alone says what commands are. The reading of a payload computes with these tests, and a law holds it to the table.
use Rattle.std.specs.Prelude.{ℕ, Bool, true, false, ◌&&◌, ◌||◌, ◌==◌, nat_le, List, [], ◌∷◌, length, None, is_none, count_ones}
use Rattle.std.specs.Bool.{beq}
use Rattle.wire_base.specs.declared.refusal.Direction.{Direction}
use Rattle.wire_base.specs.Tests.{has_cid}
use Rattle.cast_wire.specs.declared.cmd.Cmd.{Cmd}
use Rattle.cast_wire.specs.declared.cmd.Cmd.TheVariants.{PackageVersionReq, PackageVersionAns, FragSessionStatusReq, FragSessionStatusAns, FragSessionSetupReq, FragSessionSetupAns, FragSessionDeleteReq, FragSessionDeleteAns, DataFragment, McGroupStatusReq, McGroupStatusAns, McGroupSetupReq, McGroupSetupAns, McGroupDeleteReq, McGroupDeleteAns, McClassCSessionReq, McClassCSessionAns, McClassBSessionReq, McClassBSessionAns}
use Rattle.cast_wire.specs.Limits.{max_fragment}
use Rattle.cast_wire.specs.Table.{row}

abbrev pub is_whole : Cmd → Bool
is_whole (DataFragment index n bytes) = nat_le 1 (length bytes) && nat_le (length bytes) max_fragment
is_whole (McGroupStatusAns total mask groups) = length groups == count_ones mask
is_whole (McGroupSetupReq id addr key min max) = length key == 16
is_whole (McClassCSessionAns id undefined freq_error dr_error start) =
    beq (is_none start) (undefined || freq_error || dr_error)
is_whole (McClassBSessionAns id undefined freq_error dr_error start) =
    beq (is_none start) (undefined || freq_error || dr_error)
is_whole _ = true

unfoldable pub samples : List Cmd
samples =
    PackageVersionReq ∷ PackageVersionAns 0 0 ∷ FragSessionStatusReq 0 false ∷ FragSessionStatusAns 0 0 0 false
    ∷ FragSessionSetupReq 0 0 0 0 0 0 0 0 ∷ FragSessionSetupAns 0 false false false false ∷ FragSessionDeleteReq 0
    ∷ FragSessionDeleteAns 0 false ∷ DataFragment 0 0 [] ∷ McGroupStatusReq 0 ∷ McGroupStatusAns 0 0 []
    ∷ McGroupSetupReq 0 0 [] 0 0 ∷ McGroupSetupAns 0 false ∷ McGroupDeleteReq 0 ∷ McGroupDeleteAns 0 false
    ∷ McClassCSessionReq 0 0 0 0 0 ∷ McClassCSessionAns 0 false false false None
    ∷ McClassBSessionReq 0 0 0 0 0 0 ∷ McClassBSessionAns 0 false false false None ∷ []

-- the table has this identifier for that port and direction
unfoldable pub is_known : ℕ → Direction → (cid : ℕ) → Bool
is_known port direction cid = has_cid row port direction cid samples
