-- Where each command of TS004-1.0.0 and TS005-1.0.0 is sent, and its bytes, worked out.
use Rattle.std.specs.Prelude.{◌≡◌, ℕ, true, false, List, [], ◌∷◌, Some, None}
use Rattle.wire_base.specs.declared.refusal.Direction.{Direction}
use Rattle.wire_base.specs.declared.refusal.Direction.TheVariants.{Down, Up}
use Rattle.cast_wire.specs.declared.cmd.Cmd.{Cmd}
use Rattle.cast_wire.specs.declared.cmd.Cmd.TheVariants.{PackageVersionReq, PackageVersionAns, FragSessionStatusReq, FragSessionStatusAns, FragSessionSetupReq, FragSessionSetupAns, FragSessionDeleteReq, FragSessionDeleteAns, DataFragment, McGroupStatusReq, McGroupStatusAns, McGroupSetupReq, McGroupSetupAns, McGroupDeleteReq, McGroupDeleteAns, McClassCSessionReq, McClassCSessionAns, McClassBSessionReq, McClassBSessionAns}
use Rattle.cast_wire.specs.declared.group_list.GroupAddress.{GroupAddress}
use Rattle.cast_wire.specs.Limits.{max_fragment, max_groups}
use Rattle.cast_wire.specs.SetupRefusal.{refusal_bits, setup_answer}
use Rattle.cast_wire.specs.Table.{row, canonical}

-- where a command is sent, and the bytes that are written for it
pub record Sent : Type 0 where
  pub ports : List ℕ
  pub direction : Direction
  pub bytes : List ℕ

abbrev pub sent : Cmd → Sent
sent c = record { ports = (row c).ports; direction = (row c).direction; bytes = canonical c }

abbrev pub from_server : (ports bytes : List ℕ) → Sent
from_server ports bytes = record { ports = ports; direction = Down; bytes = bytes }

abbrev pub from_device : (ports bytes : List ℕ) → Sent
from_device ports bytes = record { ports = ports; direction = Up; bytes = bytes }

-- a wrapped key, and groups with their addresses
abbrev pub key : List ℕ
key = 0 ∷ 1 ∷ 2 ∷ 3 ∷ 4 ∷ 5 ∷ 6 ∷ 7 ∷ 8 ∷ 9 ∷ 10 ∷ 11 ∷ 12 ∷ 13 ∷ 14 ∷ 255 ∷ []

abbrev pub at_0 : GroupAddress
at_0 = record { id = 0; addr = 0x11223344 }

abbrev pub at_3 : GroupAddress
at_3 = record { id = 3; addr = 0x0a }

pub record WorkedSpellings : Type 0 where
  pub version_req : sent PackageVersionReq ≡ from_server (200 ∷ 201 ∷ []) (0x00 ∷ [])
  pub version_ans : sent (PackageVersionAns 2 1)
      ≡ from_device (200 ∷ 201 ∷ []) (0x00 ∷ 0x02 ∷ 0x01 ∷ [])
  pub status_req : sent (FragSessionStatusReq 2 true) ≡ from_server (201 ∷ []) (0x01 ∷ 0x05 ∷ [])
  pub status_req_of_some : sent (FragSessionStatusReq 1 false)
      ≡ from_server (201 ∷ []) (0x01 ∷ 0x02 ∷ [])
  pub status_ans : sent (FragSessionStatusAns 2 0x0102 3 true)
      ≡ from_device (201 ∷ []) (0x01 ∷ 0x02 ∷ 0x81 ∷ 0x03 ∷ 0x01 ∷ [])
  pub status_ans_with_rows : sent (FragSessionStatusAns 1 0x3fff 255 false)
      ≡ from_device (201 ∷ []) (0x01 ∷ 0xff ∷ 0x7f ∷ 0xff ∷ 0x00 ∷ [])
  pub setup_req : sent (FragSessionSetupReq 1 2 0x0102 13 3 5 6 0x11223344)
      ≡ from_server (201 ∷ []) (0x02 ∷ 0x12 ∷ 0x02 ∷ 0x01 ∷ 0x0d ∷ 0x1d ∷ 0x06 ∷ 0x44 ∷ 0x33 ∷ 0x22 ∷ 0x11 ∷ [])
  pub setup_ans : sent (FragSessionSetupAns 2 false false false false)
      ≡ from_device (201 ∷ []) (0x02 ∷ 0x80 ∷ [])
  pub wrong_descriptor : sent (FragSessionSetupAns 3 true false false false)
      ≡ from_device (201 ∷ []) (0x02 ∷ 0xc8 ∷ [])
  pub index_unsupported : sent (FragSessionSetupAns 0 false true false false)
      ≡ from_device (201 ∷ []) (0x02 ∷ 0x04 ∷ [])
  pub no_memory : sent (FragSessionSetupAns 0 false false true false)
      ≡ from_device (201 ∷ []) (0x02 ∷ 0x02 ∷ [])
  pub encoding_unsupported : sent (FragSessionSetupAns 1 false false false true)
      ≡ from_device (201 ∷ []) (0x02 ∷ 0x41 ∷ [])
  pub all_refused : sent (FragSessionSetupAns 1 true true true true)
      ≡ from_device (201 ∷ []) (0x02 ∷ 0x4f ∷ [])
  pub delete_req : sent (FragSessionDeleteReq 2) ≡ from_server (201 ∷ []) (0x03 ∷ 0x02 ∷ [])
  pub delete_ans : sent (FragSessionDeleteAns 2 true) ≡ from_device (201 ∷ []) (0x03 ∷ 0x06 ∷ [])
  pub deleted : sent (FragSessionDeleteAns 1 false) ≡ from_device (201 ∷ []) (0x03 ∷ 0x01 ∷ [])
  pub fragment : sent (DataFragment 2 0x0102 (0xaa ∷ 0xbb ∷ []))
      ≡ from_server (201 ∷ []) (0x08 ∷ 0x02 ∷ 0x81 ∷ 0xaa ∷ 0xbb ∷ [])
  pub group_status_req : sent (McGroupStatusReq 9) ≡ from_server (200 ∷ []) (0x01 ∷ 0x09 ∷ [])
  pub group_status_ans : sent (McGroupStatusAns 4 9 (at_0 ∷ at_3 ∷ []))
      ≡ from_device (200 ∷ []) (0x01 ∷ 0x49 ∷ 0x00 ∷ 0x44 ∷ 0x33 ∷ 0x22 ∷ 0x11 ∷ 0x03 ∷ 0x0a ∷ 0x00 ∷ 0x00 ∷ 0x00 ∷ [])
  pub no_group : sent (McGroupStatusAns 7 0 []) ≡ from_device (200 ∷ []) (0x01 ∷ 0x70 ∷ [])
  pub third_group : sent (McGroupStatusAns 4 4 (record { id = 2; addr = 0x04030201 } ∷ []))
      ≡ from_device (200 ∷ []) (0x01 ∷ 0x44 ∷ 0x02 ∷ 0x01 ∷ 0x02 ∷ 0x03 ∷ 0x04 ∷ [])
  pub group_setup_req : sent (McGroupSetupReq 2 0x11223344 key 5 0x01020304)
      ≡ from_server (200 ∷ []) (0x02 ∷ 0x02 ∷ 0x44 ∷ 0x33 ∷ 0x22 ∷ 0x11 ∷ 0x00 ∷ 0x01 ∷ 0x02 ∷ 0x03 ∷ 0x04 ∷ 0x05
      ∷ 0x06 ∷ 0x07 ∷ 0x08 ∷ 0x09 ∷ 0x0a ∷ 0x0b ∷ 0x0c ∷ 0x0d ∷ 0x0e ∷ 0xff ∷ 0x05 ∷ 0x00
      ∷ 0x00 ∷ 0x00 ∷ 0x04 ∷ 0x03 ∷ 0x02 ∷ 0x01 ∷ [])
  pub group_setup_ans : sent (McGroupSetupAns 3 true) ≡ from_device (200 ∷ []) (0x02 ∷ 0x07 ∷ [])
  pub group_set_up : sent (McGroupSetupAns 2 false) ≡ from_device (200 ∷ []) (0x02 ∷ 0x02 ∷ [])
  pub group_delete_req : sent (McGroupDeleteReq 1) ≡ from_server (200 ∷ []) (0x03 ∷ 0x01 ∷ [])
  pub group_delete_ans : sent (McGroupDeleteAns 1 true) ≡ from_device (200 ∷ []) (0x03 ∷ 0x05 ∷ [])
  pub group_deleted : sent (McGroupDeleteAns 2 false) ≡ from_device (200 ∷ []) (0x03 ∷ 0x02 ∷ [])
  pub c_req : sent (McClassCSessionReq 1 0x11223344 4 0x84add2 5)
      ≡ from_server (200 ∷ []) (0x04 ∷ 0x01 ∷ 0x44 ∷ 0x33 ∷ 0x22 ∷ 0x11 ∷ 0x04 ∷ 0xd2 ∷ 0xad ∷ 0x84 ∷ 0x05 ∷ [])
  pub c_ans : sent (McClassCSessionAns 1 false false false (Some 0x010203))
      ≡ from_device (200 ∷ []) (0x04 ∷ 0x01 ∷ 0x03 ∷ 0x02 ∷ 0x01 ∷ [])
  pub c_undefined : sent (McClassCSessionAns 2 true false false None)
      ≡ from_device (200 ∷ []) (0x04 ∷ 0x12 ∷ [])
  pub c_freq : sent (McClassCSessionAns 2 false true false None)
      ≡ from_device (200 ∷ []) (0x04 ∷ 0x0a ∷ [])
  pub c_dr : sent (McClassCSessionAns 3 false false true None)
      ≡ from_device (200 ∷ []) (0x04 ∷ 0x07 ∷ [])
  pub c_all : sent (McClassCSessionAns 3 true true true None)
      ≡ from_device (200 ∷ []) (0x04 ∷ 0x1f ∷ [])
  pub b_req : sent (McClassBSessionReq 1 0x11223344 3 4 0x84add2 5)
      ≡ from_server (200 ∷ []) (0x05 ∷ 0x01 ∷ 0x44 ∷ 0x33 ∷ 0x22 ∷ 0x11 ∷ 0x34 ∷ 0xd2 ∷ 0xad ∷ 0x84 ∷ 0x05 ∷ [])
  pub b_ans : sent (McClassBSessionAns 1 false false false (Some 0x010203))
      ≡ from_device (200 ∷ []) (0x05 ∷ 0x01 ∷ 0x03 ∷ 0x02 ∷ 0x01 ∷ [])
  pub b_undefined : sent (McClassBSessionAns 2 true false false None)
      ≡ from_device (200 ∷ []) (0x05 ∷ 0x12 ∷ [])
  pub b_freq : sent (McClassBSessionAns 2 false true false None)
      ≡ from_device (200 ∷ []) (0x05 ∷ 0x0a ∷ [])
  pub b_dr : sent (McClassBSessionAns 3 false false true None)
      ≡ from_device (200 ∷ []) (0x05 ∷ 0x07 ∷ [])
  pub b_all : sent (McClassBSessionAns 3 true true true None)
      ≡ from_device (200 ∷ []) (0x05 ∷ 0x1f ∷ [])
  -- the bits of a FragSessionSetupAns as a number, and the answer that has them
  pub bits_none : refusal_bits false false false false ≡ 0
  pub bits_of_descriptor : refusal_bits true false false false ≡ 8
  pub bits_of_index : refusal_bits false true false false ≡ 4
  pub bits_of_memory : refusal_bits false false true false ≡ 2
  pub bits_of_encoding : refusal_bits false false false true ≡ 1
  pub bits_all : refusal_bits true true true true ≡ 15
  pub answer_10 : setup_answer 2 10 ≡ FragSessionSetupAns 2 true false true false
  pub answer_5 : setup_answer 3 5 ≡ FragSessionSetupAns 3 false true false true
  -- limits
  pub most_bytes : max_fragment ≡ 239
  pub most_groups : max_groups ≡ 4
