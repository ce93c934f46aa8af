-- The identifiers that the table has, each shown by a command that has it.
use Rattle.std.proofs.Common.{◌≡◌, ℕ, [], false, None, refl, inl, inr}
use Rattle.std.proofs.lemmas.Bool.{lt-leb}
use Rattle.wire_base.specs.declared.refusal.Direction.TheVariants.{Down, Up}
use Rattle.cast_wire.specs.declared.cmd.Cmd.TheVariants.{PackageVersionReq, PackageVersionAns, FragSessionStatusReq, FragSessionStatusAns, FragSessionSetupReq, FragSessionSetupAns, FragSessionDeleteReq, FragSessionDeleteAns, DataFragment, McGroupStatusReq, McGroupStatusAns, McGroupSetupReq, McGroupSetupAns, McGroupDeleteReq, McGroupDeleteAns, McClassCSessionReq, McClassCSessionAns, McClassBSessionReq, McClassBSessionAns}
use Rattle.cast_wire.specs.Table.{IsKnown}
use Rattle.cast_wire.proofs.Fields.{low_at, field_at, flag_at, lowest_at, session_bits, class_c_short, class_b_short}

pub package_version_req_200_known : (cid : ℕ) → 0x00 ≡ cid → IsKnown 200 Down cid
package_version_req_200_known cid is = record { command = PackageVersionReq; listed = record { port_is = inl refl; direction_is = refl }; cid_is = is }

pub package_version_req_201_known : (cid : ℕ) → 0x00 ≡ cid → IsKnown 201 Down cid
package_version_req_201_known cid is = record { command = PackageVersionReq; listed = record { port_is = inr refl; direction_is = refl }; cid_is = is }

pub package_version_ans_200_known : (cid : ℕ) → 0x00 ≡ cid → IsKnown 200 Up cid
package_version_ans_200_known cid is = record { command = PackageVersionAns 0 0; listed = record { port_is = inl refl; direction_is = refl }; cid_is = is }

pub package_version_ans_201_known : (cid : ℕ) → 0x00 ≡ cid → IsKnown 201 Up cid
package_version_ans_201_known cid is = record { command = PackageVersionAns 0 0; listed = record { port_is = inr refl; direction_is = refl }; cid_is = is }

pub frag_session_status_req_201_known : (cid : ℕ) → 0x01 ≡ cid → IsKnown 201 Down cid
frag_session_status_req_201_known cid is = record { command = FragSessionStatusReq 0 false; listed = record { port_is = refl; direction_is = refl }; cid_is = is }

pub frag_session_status_ans_201_known : (cid : ℕ) → 0x01 ≡ cid → IsKnown 201 Up cid
frag_session_status_ans_201_known cid is = record { command = FragSessionStatusAns 0 0 0 false; listed = record { port_is = refl; direction_is = refl }; cid_is = is }

pub frag_session_setup_req_201_known : (cid : ℕ) → 0x02 ≡ cid → IsKnown 201 Down cid
frag_session_setup_req_201_known cid is = record { command = FragSessionSetupReq 0 0 0 0 0 0 0 0; listed = record { port_is = refl; direction_is = refl }; cid_is = is }

pub frag_session_setup_ans_201_known : (cid : ℕ) → 0x02 ≡ cid → IsKnown 201 Up cid
frag_session_setup_ans_201_known cid is = record { command = FragSessionSetupAns 0 false false false false; listed = record { port_is = refl; direction_is = refl }; cid_is = is }

pub frag_session_delete_req_201_known : (cid : ℕ) → 0x03 ≡ cid → IsKnown 201 Down cid
frag_session_delete_req_201_known cid is = record { command = FragSessionDeleteReq 0; listed = record { port_is = refl; direction_is = refl }; cid_is = is }

pub frag_session_delete_ans_201_known : (cid : ℕ) → 0x03 ≡ cid → IsKnown 201 Up cid
frag_session_delete_ans_201_known cid is = record { command = FragSessionDeleteAns 0 false; listed = record { port_is = refl; direction_is = refl }; cid_is = is }

pub data_fragment_201_known : (cid : ℕ) → 0x08 ≡ cid → IsKnown 201 Down cid
data_fragment_201_known cid is = record { command = DataFragment 0 0 []; listed = record { port_is = refl; direction_is = refl }; cid_is = is }

pub mc_group_status_req_200_known : (cid : ℕ) → 0x01 ≡ cid → IsKnown 200 Down cid
mc_group_status_req_200_known cid is = record { command = McGroupStatusReq 0; listed = record { port_is = refl; direction_is = refl }; cid_is = is }

pub mc_group_status_ans_200_known : (cid : ℕ) → 0x01 ≡ cid → IsKnown 200 Up cid
mc_group_status_ans_200_known cid is = record { command = McGroupStatusAns 0 0 []; listed = record { port_is = refl; direction_is = refl }; cid_is = is }

pub mc_group_setup_req_200_known : (cid : ℕ) → 0x02 ≡ cid → IsKnown 200 Down cid
mc_group_setup_req_200_known cid is = record { command = McGroupSetupReq 0 0 [] 0 0; listed = record { port_is = refl; direction_is = refl }; cid_is = is }

pub mc_group_setup_ans_200_known : (cid : ℕ) → 0x02 ≡ cid → IsKnown 200 Up cid
mc_group_setup_ans_200_known cid is = record { command = McGroupSetupAns 0 false; listed = record { port_is = refl; direction_is = refl }; cid_is = is }

pub mc_group_delete_req_200_known : (cid : ℕ) → 0x03 ≡ cid → IsKnown 200 Down cid
mc_group_delete_req_200_known cid is = record { command = McGroupDeleteReq 0; listed = record { port_is = refl; direction_is = refl }; cid_is = is }

pub mc_group_delete_ans_200_known : (cid : ℕ) → 0x03 ≡ cid → IsKnown 200 Up cid
mc_group_delete_ans_200_known cid is = record { command = McGroupDeleteAns 0 false; listed = record { port_is = refl; direction_is = refl }; cid_is = is }

pub mc_class_c_session_req_200_known : (cid : ℕ) → 0x04 ≡ cid → IsKnown 200 Down cid
mc_class_c_session_req_200_known cid is = record { command = McClassCSessionReq 0 0 0 0 0; listed = record { port_is = refl; direction_is = refl }; cid_is = is }

pub mc_class_c_session_ans_200_known : (cid : ℕ) → 0x04 ≡ cid → IsKnown 200 Up cid
mc_class_c_session_ans_200_known cid is = record { command = McClassCSessionAns 0 false false false None; listed = record { port_is = refl; direction_is = refl }; cid_is = is }

pub mc_class_b_session_req_200_known : (cid : ℕ) → 0x05 ≡ cid → IsKnown 200 Down cid
mc_class_b_session_req_200_known cid is = record { command = McClassBSessionReq 0 0 0 0 0 0; listed = record { port_is = refl; direction_is = refl }; cid_is = is }

pub mc_class_b_session_ans_200_known : (cid : ℕ) → 0x05 ≡ cid → IsKnown 200 Up cid
mc_class_b_session_ans_200_known cid is = record { command = McClassBSessionAns 0 false false false None; listed = record { port_is = refl; direction_is = refl }; cid_is = is }

pub ruleset group_down_known = (lt-leb, low_at, field_at, package_version_req_200_known, mc_group_status_req_200_known, mc_group_setup_req_200_known, mc_group_delete_req_200_known, mc_class_c_session_req_200_known, mc_class_b_session_req_200_known)

pub ruleset group_up_known = (lt-leb, low_at, flag_at, session_bits, class_c_short, class_b_short, package_version_ans_200_known, mc_group_status_ans_200_known, mc_group_setup_ans_200_known, mc_group_delete_ans_200_known, mc_class_c_session_ans_200_known, mc_class_b_session_ans_200_known)

pub ruleset fragment_down_known = (lt-leb, low_at, field_at, lowest_at, package_version_req_201_known, frag_session_status_req_201_known, frag_session_setup_req_201_known, frag_session_delete_req_201_known, data_fragment_201_known)

pub ruleset fragment_up_known = (lt-leb, low_at, flag_at, lowest_at, package_version_ans_201_known, frag_session_status_ans_201_known, frag_session_setup_ans_201_known, frag_session_delete_ans_201_known)
