-- The commands of TS004-1.0.0 (port 201) and TS005-1.0.0 (port 200), a row for each as in the standard's tables.
use Rattle.std.specs.Prelude.{◌≡◌, ℕ, ◌≤◌, ◌⊎◌, ◌||◌, List, [], ◌∷◌, length, Option, Some, None, is_none, count_ones}
use Rattle.wire_base.specs.declared.refusal.Direction.{Direction}
use Rattle.wire_base.specs.declared.refusal.Refusal.{Refusal}
use Rattle.wire_base.specs.Rows.{Row, Part, down, up, bits, flag, number, packed, block, rest, spelling}
use Rattle.wire_base.specs.Tables as table
use Rattle.cast_wire.specs.declared.cmd.Cmd.{Cmd}
use Rattle.cast_wire.specs.declared.group_list.GroupAddress.{GroupAddress}
use Rattle.cast_wire.specs.Limits.{max_fragment}
use Rattle.cast_wire.specs.declared.cmd.Cmd.TheVariants.{PackageVersionReq, PackageVersionAns, FragSessionStatusReq, FragSessionStatusAns, FragSessionSetupReq, FragSessionSetupAns, FragSessionDeleteReq, FragSessionDeleteAns, DataFragment, McGroupStatusReq, McGroupStatusAns, McGroupSetupReq, McGroupSetupAns, McGroupDeleteReq, McGroupDeleteAns, McClassCSessionReq, McClassCSessionAns, McClassBSessionReq, McClassBSessionAns}

-- the groups of a McGroupStatusAns: McGroupID and McAddr of each
abbrev pub group_parts : List GroupAddress → List Part
group_parts [] = []
group_parts (g ∷ gs) = packed 1 (bits 1 0 g.id ∷ []) ∷ number 4 g.addr ∷ group_parts gs

-- TimeToStart, where it is there
abbrev pub start_parts : Option ℕ → List Part
start_parts None = []
start_parts (Some start) = number 3 start ∷ []

-- the table
abbrev pub row : Cmd → Row
row PackageVersionReq = down (200 ∷ 201 ∷ []) 0x00 []
row (PackageVersionAns identifier version) = up (200 ∷ 201 ∷ []) 0x00 (number 1 identifier ∷ number 1 version ∷ [])
row (FragSessionStatusReq index all) = down (201 ∷ []) 0x01 (packed 1 (bits 2 1 index ∷ flag 0 all ∷ []) ∷ [])
row (FragSessionStatusAns index received missing norows) = up (201 ∷ []) 0x01
    (packed 2 (bits 15 14 index ∷ bits 13 0 received ∷ []) ∷ number 1 missing ∷ packed 1 (flag 0 norows ∷ []) ∷ [])
row (FragSessionSetupReq index mask nb_frag frag_size algo delay padding descriptor) = down (201 ∷ []) 0x02
    (packed 1 (bits 5 4 index ∷ bits 3 0 mask ∷ []) ∷ number 2 nb_frag ∷ number 1 frag_size
    ∷ packed 1 (bits 5 3 algo ∷ bits 2 0 delay ∷ []) ∷ number 1 padding ∷ number 4 descriptor ∷ [])
row (FragSessionSetupAns index wrong_descriptor index_unsupported no_memory encoding_unsupported) = up (201 ∷ []) 0x02
    (packed 1 (bits 7 6 index ∷ flag 3 wrong_descriptor ∷ flag 2 index_unsupported ∷ flag 1 no_memory
    ∷ flag 0 encoding_unsupported ∷ []) ∷ [])
row (FragSessionDeleteReq index) = down (201 ∷ []) 0x03 (packed 1 (bits 1 0 index ∷ []) ∷ [])
row (FragSessionDeleteAns index missing) = up (201 ∷ []) 0x03 (packed 1 (flag 2 missing ∷ bits 1 0 index ∷ []) ∷ [])
row (DataFragment index n bytes) = down (201 ∷ []) 0x08
    (packed 2 (bits 15 14 index ∷ bits 13 0 n ∷ []) ∷ rest bytes ∷ [])
row (McGroupStatusReq mask) = down (200 ∷ []) 0x01 (packed 1 (bits 3 0 mask ∷ []) ∷ [])
row (McGroupStatusAns total mask groups) = up (200 ∷ []) 0x01
    (packed 1 (bits 6 4 total ∷ bits 3 0 mask ∷ []) ∷ group_parts groups)
row (McGroupSetupReq id addr key min max) = down (200 ∷ []) 0x02
    (packed 1 (bits 1 0 id ∷ []) ∷ number 4 addr ∷ block key ∷ number 4 min ∷ number 4 max ∷ [])
row (McGroupSetupAns id error) = up (200 ∷ []) 0x02 (packed 1 (flag 2 error ∷ bits 1 0 id ∷ []) ∷ [])
row (McGroupDeleteReq id) = down (200 ∷ []) 0x03 (packed 1 (bits 1 0 id ∷ []) ∷ [])
row (McGroupDeleteAns id undefined) = up (200 ∷ []) 0x03 (packed 1 (flag 2 undefined ∷ bits 1 0 id ∷ []) ∷ [])
row (McClassCSessionReq id time timeout freq dr) = down (200 ∷ []) 0x04
    (packed 1 (bits 1 0 id ∷ []) ∷ number 4 time ∷ packed 1 (bits 3 0 timeout ∷ []) ∷ number 3 freq ∷ number 1 dr ∷ [])
row (McClassCSessionAns id undefined freq_error dr_error start) = up (200 ∷ []) 0x04
    (packed 1 (flag 4 undefined ∷ flag 3 freq_error ∷ flag 2 dr_error ∷ bits 1 0 id ∷ []) ∷ start_parts start)
row (McClassBSessionReq id time periodicity timeout freq dr) = down (200 ∷ []) 0x05
    (packed 1 (bits 1 0 id ∷ []) ∷ number 4 time ∷ packed 1 (bits 6 4 periodicity ∷ bits 3 0 timeout ∷ [])
    ∷ number 3 freq ∷ number 1 dr ∷ [])
row (McClassBSessionAns id undefined freq_error dr_error start) = up (200 ∷ []) 0x05
    (packed 1 (flag 4 undefined ∷ flag 3 freq_error ∷ flag 2 dr_error ∷ bits 1 0 id ∷ []) ∷ start_parts start)

-- what a command's fields must be together: a fragment has 1 to 239 bytes, there are as many groups as bits of the
-- mask, a key has 16 bytes, and TimeToStart is there exactly where there is no error
abbrev pub IsWhole : Cmd → Type 0
IsWhole (DataFragment index n bytes) = (1 ≤ length bytes) × (length bytes ≤ max_fragment)
IsWhole (McGroupStatusAns total mask groups) = length groups ≡ count_ones mask
IsWhole (McGroupSetupReq id addr key min max) = length key ≡ 16
IsWhole (McClassCSessionAns id undefined freq_error dr_error start) =
    is_none start ≡ (undefined || freq_error || dr_error)
IsWhole (McClassBSessionAns id undefined freq_error dr_error start) =
    is_none start ≡ (undefined || freq_error || dr_error)
IsWhole _ = Unit {0}

-- ---- what every table says, of this one

-- a valid command
abbrev pub IsValid : Cmd → Type 0
IsValid c = table.IsValid row IsWhole c

-- the bytes of a payload from a place to the next spell the command
abbrev pub Spells : Cmd → ℕ → Direction → List ℕ → (at next : ℕ) → Type 0
Spells c port direction bytes at next = table.Spells row IsWhole c port direction bytes at next

-- the canonical spelling of a command: its bytes with reserved bits 0
abbrev pub canonical : Cmd → List ℕ
canonical c = spelling (row c)

-- the ports of the two packages
abbrev pub IsPort : ℕ → Type 0
IsPort port = (port ≡ 200) ⊎ (port ≡ 201)

-- a command of only TS005, by its one port
abbrev pub IsOfGroups : Cmd → Type 0
IsOfGroups c = (row c).ports ≡ 200 ∷ []

-- some command of the table for that port and direction has this identifier
abbrev pub IsKnown : ℕ → Direction → ℕ → Type 0
IsKnown port direction cid = table.IsKnown row port direction cid

-- the refusal of a place where no command is spelled
abbrev pub IsRefusal : ℕ → Direction → List ℕ → (at : ℕ) → Refusal → Type 0
IsRefusal port direction bytes at refusal = table.IsRefusal row IsPort port direction bytes at refusal
