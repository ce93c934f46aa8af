-- The texts of commands: a word for the command and one for each of its fields, several error flags together as one.
-- (This project's profile.)
use Rattle.std.specs.Prelude.{ℕ, ◌+◌, Bool, List, [], ◌∷◌, ◌++◌, codes, Option, Some, None}
use Rattle.std.specs.Int.{to_be_bytes, w32}
use Rattle.std.specs.Fmt.{decimal, signed_decimal}
use Rattle.hex.specs.Hex.{encode_lower}
use Rattle.wire_base.specs.Numbers.{flag_value}
use Rattle.sync_wire.specs.declared.cmd.Cmd.{Cmd as SyncCmd}
use Rattle.sync_wire.specs.declared.cmd.Cmd.TheVariants as s
use Rattle.cast_wire.specs.declared.cmd.Cmd.{Cmd as CastCmd}
use Rattle.cast_wire.specs.declared.cmd.Cmd.TheVariants as c
use Rattle.cast_wire.specs.declared.group_list.GroupAddress.{GroupAddress}
use Rattle.cast_wire.specs.SetupRefusal.{refusal_bits}
use Rattle.package_grammar.specs.declared.command.Command.{Command}
use Rattle.package_grammar.specs.declared.command.Command.TheVariants.{Sync, Cast}

-- a truth value is 0 or 1
abbrev pub truth : Bool → List ℕ
truth b = decimal (flag_value b 1)

-- addresses and descriptors: 8 hex digits, the most significant first
abbrev pub number_hex : ℕ → List ℕ
number_hex n = encode_lower (to_be_bytes w32 n)

-- a number that may be absent
abbrev pub there : Option ℕ → List ℕ
there None = codes "-"
there (Some n) = decimal n

abbrev pub group_text : (id addr : ℕ) → List ℕ
group_text id addr = decimal id ++ (codes ":" ++ number_hex addr)

-- groups after the first
abbrev pub other_groups : List GroupAddress → List ℕ
other_groups [] = []
other_groups (g ∷ gs) = codes "," ++ (group_text g.id g.addr ++ other_groups gs)

abbrev pub groups_text : List GroupAddress → List ℕ
groups_text [] = codes "-"
groups_text (g ∷ gs) = group_text g.id g.addr ++ other_groups gs

-- the commands of TS003 and TS006
abbrev pub sync_text : SyncCmd → List ℕ
sync_text s.PackageVersionReq = codes "PackageVersionReq"
sync_text (s.PackageVersionAns identifier version) =
    codes "PackageVersionAns id=" ++ decimal identifier ++ (codes " version=" ++ decimal version)
sync_text (s.AppTimeReq time required token) =
    codes "AppTimeReq time=" ++ decimal time ++ (codes " required=" ++ truth required
    ++ (codes " token=" ++ decimal token))
sync_text (s.AppTimeAns correction token) =
    codes "AppTimeAns correction=" ++ signed_decimal correction ++ (codes " token=" ++ decimal token)
sync_text (s.DeviceAppTimePeriodicityReq period) = codes "DeviceAppTimePeriodicityReq period=" ++ decimal period
sync_text (s.DeviceAppTimePeriodicityAns unsupported time) =
    codes "DeviceAppTimePeriodicityAns unsupported=" ++ truth unsupported ++ (codes " time=" ++ decimal time)
sync_text (s.ForceDeviceResyncReq count) = codes "ForceDeviceResyncReq count=" ++ decimal count
sync_text s.DevVersionReq = codes "DevVersionReq"
sync_text (s.DevVersionAns firmware hardware) =
    codes "DevVersionAns fw=" ++ decimal firmware ++ (codes " hw=" ++ decimal hardware)
sync_text (s.DevRebootTimeReq time) = codes "DevRebootTimeReq time=" ++ decimal time
sync_text (s.DevRebootTimeAns time) = codes "DevRebootTimeAns time=" ++ decimal time
sync_text (s.DevRebootCountdownReq count) = codes "DevRebootCountdownReq count=" ++ decimal count
sync_text (s.DevRebootCountdownAns count) = codes "DevRebootCountdownAns count=" ++ decimal count
sync_text s.DevUpgradeImageReq = codes "DevUpgradeImageReq"
sync_text (s.DevUpgradeImageAns status next) =
    codes "DevUpgradeImageAns status=" ++ decimal status ++ (codes " next=" ++ there next)
sync_text (s.DevDeleteImageReq version) = codes "DevDeleteImageReq version=" ++ decimal version
sync_text (s.DevDeleteImageAns errors) = codes "DevDeleteImageAns bits=" ++ decimal errors

-- a FragSessionSetupReq: its session and pieces, and then its coding and what the file is
abbrev pub pieces_text : (index mask nb_frag frag_size : ℕ) → List ℕ
pieces_text index mask nb_frag frag_size =
    codes "FragSessionSetupReq index=" ++ decimal index
    ++ (codes " mask=" ++ decimal mask ++ (codes " nbfrag=" ++ decimal nb_frag
    ++ (codes " fragsize=" ++ decimal frag_size)))

abbrev pub coding_text : (algo delay padding descriptor : ℕ) → List ℕ
coding_text algo delay padding descriptor =
    codes " algo=" ++ decimal algo
    ++ (codes " delay=" ++ decimal delay ++ (codes " padding=" ++ decimal padding
    ++ (codes " descriptor=" ++ number_hex descriptor)))

-- a McGroupSetupReq: its group with the wrapped key, and then the frame counts that are heard
abbrev pub group_words : (id : ℕ) (addr key : List ℕ) → List ℕ
group_words id addr key =
    codes "McGroupSetupReq id=" ++ decimal id ++ (codes " addr=" ++ addr ++ (codes " key=" ++ key))

abbrev pub group_key_text : (id addr : ℕ) (key : List ℕ) → List ℕ
group_key_text id addr key = group_words id (number_hex addr) (encode_lower key)

abbrev pub frames_text : (min max : ℕ) → List ℕ
frames_text min max = codes " min=" ++ decimal min ++ (codes " max=" ++ decimal max)

-- a DataFragment
abbrev pub fragment_text : (index n : ℕ) (bytes : List ℕ) → List ℕ
fragment_text index n bytes =
    codes "DataFragment index=" ++ decimal index
    ++ (codes " n=" ++ decimal n ++ (codes " bytes=" ++ encode_lower bytes))

-- a McGroupStatusAns
abbrev pub status_text : (total mask : ℕ) → List GroupAddress → List ℕ
status_text total mask groups =
    codes "McGroupStatusAns total=" ++ decimal total ++ (codes " mask=" ++ decimal mask
    ++ (codes " groups=" ++ groups_text groups))

-- the commands of TS004 and TS005
abbrev pub cast_text : CastCmd → List ℕ
cast_text c.PackageVersionReq = codes "PackageVersionReq"
cast_text (c.PackageVersionAns identifier version) =
    codes "PackageVersionAns id=" ++ decimal identifier ++ (codes " version=" ++ decimal version)
cast_text (c.FragSessionStatusReq index all) =
    codes "FragSessionStatusReq index=" ++ decimal index ++ (codes " all=" ++ truth all)
cast_text (c.FragSessionStatusAns index received missing norows) =
    codes "FragSessionStatusAns index=" ++ decimal index ++ (codes " received=" ++ decimal received
    ++ (codes " missing=" ++ decimal missing ++ (codes " norows=" ++ truth norows)))
cast_text (c.FragSessionSetupReq index mask nb_frag frag_size algo delay padding descriptor) =
    pieces_text index mask nb_frag frag_size ++ coding_text algo delay padding descriptor
cast_text (c.FragSessionSetupAns index wrong_descriptor index_unsupported no_memory encoding_unsupported) =
    codes "FragSessionSetupAns index=" ++ decimal index
    ++ (codes " bits=" ++ decimal (refusal_bits wrong_descriptor index_unsupported no_memory encoding_unsupported))
cast_text (c.FragSessionDeleteReq index) = codes "FragSessionDeleteReq index=" ++ decimal index
cast_text (c.FragSessionDeleteAns index missing) =
    codes "FragSessionDeleteAns index=" ++ decimal index ++ (codes " missing=" ++ truth missing)
cast_text (c.DataFragment index n bytes) = fragment_text index n bytes
cast_text (c.McGroupStatusReq mask) = codes "McGroupStatusReq mask=" ++ decimal mask
cast_text (c.McGroupStatusAns total mask groups) = status_text total mask groups
cast_text (c.McGroupSetupReq id addr key min max) = group_key_text id addr key ++ frames_text min max
cast_text (c.McGroupSetupAns id error) = codes "McGroupSetupAns id=" ++ decimal id ++ (codes " error=" ++ truth error)
cast_text (c.McGroupDeleteReq id) = codes "McGroupDeleteReq id=" ++ decimal id
cast_text (c.McGroupDeleteAns id undefined) =
    codes "McGroupDeleteAns id=" ++ decimal id ++ (codes " undefined=" ++ truth undefined)
cast_text (c.McClassCSessionReq id time timeout freq dr) =
    codes "McClassCSessionReq id=" ++ decimal id ++ (codes " time=" ++ decimal time
    ++ (codes " timeout=" ++ decimal timeout ++ (codes " freq=" ++ decimal freq ++ (codes " dr=" ++ decimal dr))))
cast_text (c.McClassCSessionAns id undefined freq_error dr_error start) =
    codes "McClassCSessionAns id=" ++ decimal id
    ++ (codes " bits=" ++ decimal (flag_value undefined 16 + flag_value freq_error 8 + flag_value dr_error 4)
    ++ (codes " start=" ++ there start))
cast_text (c.McClassBSessionReq id time periodicity timeout freq dr) =
    codes "McClassBSessionReq id=" ++ decimal id ++ (codes " time=" ++ decimal time
    ++ (codes " periodicity=" ++ decimal periodicity ++ (codes " timeout=" ++ decimal timeout
    ++ (codes " freq=" ++ decimal freq ++ (codes " dr=" ++ decimal dr)))))
cast_text (c.McClassBSessionAns id undefined freq_error dr_error start) =
    codes "McClassBSessionAns id=" ++ decimal id
    ++ (codes " bits=" ++ decimal (flag_value undefined 16 + flag_value freq_error 8 + flag_value dr_error 4)
    ++ (codes " start=" ++ there start))

-- the text of a command
abbrev pub text_of : Command → List ℕ
text_of (Sync cmd) = sync_text cmd
text_of (Cast cmd) = cast_text cmd
