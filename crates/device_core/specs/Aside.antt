-- Commands that belong to no session.
use Rattle.cast_wire.specs.declared.cmd.Cmd.{Cmd}
use Rattle.cast_wire.specs.declared.cmd.Cmd.TheVariants as c

-- TS005, and PackageVersionReq of TS004 and TS005
abbrev pub IsAside : Cmd → Type 0
IsAside (c.FragSessionStatusReq index all) = ⊥
IsAside (c.FragSessionSetupReq index mask nb_frag frag_size algo delay padding descriptor) = ⊥
IsAside (c.FragSessionDeleteReq index) = ⊥
IsAside (c.DataFragment index n part) = ⊥
IsAside cmd = Unit {0}
