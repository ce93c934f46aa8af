-- Codes, a frame and its faults, worked out with another AES and CMAC.
use Rattle.std.specs.Prelude.{◌≡◌, ℕ, List, [], ◌∷◌, ◌++◌, ◌*◌, take, drop, map, replicate, Some, None}
use Rattle.std.specs.List.{range_with_len}
use Rattle.mc_frames.specs.declared.session.Keys.{Keys}
use Rattle.mc_frames.specs.declared.fault.FrameFault.TheVariants.{Short, Long, Header, Address, Port, Count, Mic}
use Rattle.mc_frames.specs.Cmac.{subkey, cmac}
use Rattle.mc_frames.specs.Frames.{stream_byte, mic, frame_of}
use Rattle.mc_frames.specs.Opening.{fault_of, fault_without_group}

-- the key of the examples of RFC 4493
abbrev pub example_key : List ℕ
example_key = 0x2b ∷ 0x7e ∷ 0x15 ∷ 0x16 ∷ 0x28 ∷ 0xae ∷ 0xd2 ∷ 0xa6 ∷ 0xab ∷ 0xf7 ∷ 0x15 ∷ 0x88 ∷ 0x09 ∷ 0xcf ∷ 0x4f ∷ 0x3c ∷ []

-- the first block of the messages of these examples
abbrev pub example_block : List ℕ
example_block = 0x6b ∷ 0xc1 ∷ 0xbe ∷ 0xe2 ∷ 0x2e ∷ 0x40 ∷ 0x9f ∷ 0x96 ∷ 0xe9 ∷ 0x3d ∷ 0x7e ∷ 0x11 ∷ 0x73 ∷ 0x93 ∷ 0x17 ∷ 0x2a ∷ []

-- and what comes after it, of 40 bytes in all and of 64
abbrev pub example_40 : List ℕ
example_40 = example_block ++ 0xae ∷ 0x2d ∷ 0x8a ∷ 0x57 ∷ 0x1e ∷ 0x03 ∷ 0xac ∷ 0x9c ∷ 0x9e ∷ 0xb7 ∷ 0x6f ∷ 0xac ∷ 0x45 ∷ 0xaf ∷ 0x8e ∷ 0x51 ∷ 0x30 ∷ 0xc8 ∷ 0x1c ∷ 0x46 ∷ 0xa3 ∷ 0x5c ∷ 0xe4 ∷ 0x11 ∷ []

abbrev pub example_64 : List ℕ
example_64 = example_40 ++ 0xe5 ∷ 0xfb ∷ 0xc1 ∷ 0x19 ∷ 0x1a ∷ 0x0a ∷ 0x52 ∷ 0xef ∷ 0xf6 ∷ 0x9f ∷ 0x24 ∷ 0x45 ∷ 0xdf ∷ 0x4f ∷ 0x9b ∷ 0x17 ∷ 0xad ∷ 0x2b ∷ 0x41 ∷ 0x7b ∷ 0xe6 ∷ 0x6c ∷ 0x37 ∷ 0x10 ∷ []

-- of an empty message, of a whole block, of two and a half, and of four (4, examples 1 to 4)
pub record WorkedCodes : Type 0 where
  pub empty : cmac example_key [] ≡ 0xbb ∷ 0x1d ∷ 0x69 ∷ 0x29 ∷ 0xe9 ∷ 0x59 ∷ 0x37 ∷ 0x28 ∷ 0x7f ∷ 0xa3 ∷ 0x7d ∷ 0x12 ∷ 0x9b ∷ 0x75 ∷ 0x67 ∷ 0x46 ∷ []
  pub block : cmac example_key example_block ≡ 0x07 ∷ 0x0a ∷ 0x16 ∷ 0xb4 ∷ 0x6b ∷ 0x4d ∷ 0x41 ∷ 0x44 ∷ 0xf7 ∷ 0x9b ∷ 0xdd ∷ 0x9d ∷ 0xd0 ∷ 0x4a ∷ 0x28 ∷ 0x7c ∷ []
  pub part : cmac example_key example_40 ≡ 0xdf ∷ 0xa6 ∷ 0x67 ∷ 0x47 ∷ 0xde ∷ 0x9a ∷ 0xe6 ∷ 0x30 ∷ 0x30 ∷ 0xca ∷ 0x32 ∷ 0x61 ∷ 0x14 ∷ 0x97 ∷ 0xc8 ∷ 0x27 ∷ []
  pub four : cmac example_key example_64 ≡ 0x51 ∷ 0xf0 ∷ 0xbe ∷ 0xbf ∷ 0x7e ∷ 0x3b ∷ 0x9d ∷ 0x92 ∷ 0xfc ∷ 0x49 ∷ 0x74 ∷ 0x17 ∷ 0x79 ∷ 0x36 ∷ 0x3c ∷ 0xfe ∷ []
  -- a subkey of a block whose first byte is 80, and of 7f
  pub carried : subkey (0x80 ∷ replicate 15 0) ≡ replicate 15 0 ++ 0x87 ∷ []
  pub not_carried : subkey (0x7f ∷ replicate 15 0) ≡ 0xfe ∷ replicate 15 0

-- two session keys
abbrev pub worked_keys : Keys
worked_keys = record {
  app_s = 0x00 ∷ 0x01 ∷ 0x02 ∷ 0x03 ∷ 0x04 ∷ 0x05 ∷ 0x06 ∷ 0x07 ∷ 0x08 ∷ 0x09 ∷ 0x0a ∷ 0x0b ∷ 0x0c ∷ 0x0d ∷ 0x0e ∷ 0x0f ∷ [];
  net_s = 0x10 ∷ 0x11 ∷ 0x12 ∷ 0x13 ∷ 0x14 ∷ 0x15 ∷ 0x16 ∷ 0x17 ∷ 0x18 ∷ 0x19 ∷ 0x1a ∷ 0x1b ∷ 0x1c ∷ 0x1d ∷ 0x1e ∷ 0x1f ∷ [];
}

-- a frame whose last byte, that of its MIC, is as given
abbrev pub worked_frame : (last : ℕ) → List ℕ
worked_frame last = 0x60 ∷ 0x44 ∷ 0x33 ∷ 0x22 ∷ 0x11 ∷ 0x00 ∷ 0x01 ∷ 0x00 ∷ 0xc9 ∷ 0x06 ∷ 0x5a ∷ 0xa8 ∷ 0xb9 ∷ 0x4b ∷ last ∷ []

-- the same with FCtrl 10
abbrev pub pending_frame : List ℕ
pending_frame = 0x60 ∷ 0x44 ∷ 0x33 ∷ 0x22 ∷ 0x11 ∷ 0x10 ∷ 0x01 ∷ 0x00 ∷ 0xc9 ∷ 0x06 ∷ 0x5a ∷ 0xf8 ∷ 0xaf ∷ 0xbc ∷ 0x81 ∷ []

-- the first of these frames with port 0
abbrev pub portless_frame : List ℕ
portless_frame = take 8 (worked_frame 0xec) ++ 0 ∷ drop 9 (worked_frame 0xec)

-- one with another FCtrl, whose MIC is that of the first
abbrev pub frame_with : (control : ℕ) → List ℕ
frame_with control = take 5 (worked_frame 0xec) ++ control ∷ drop 6 (worked_frame 0xec)

-- a payload of 33 bytes, which are three blocks, encrypted, and its frame
abbrev pub long_payload : List ℕ
long_payload = 0x00 ∷ 0x01 ∷ 0x02 ∷ 0x03 ∷ 0x04 ∷ 0x05 ∷ 0x06 ∷ 0x07 ∷ 0x08 ∷ 0x09 ∷ 0x0a ∷ 0x0b ∷ 0x0c ∷ 0x0d ∷ 0x0e ∷ 0x0f ∷ 0x10 ∷ 0x11 ∷ 0x12 ∷ 0x13 ∷ 0x14 ∷ 0x15 ∷ 0x16 ∷ 0x17 ∷ 0x18 ∷ 0x19 ∷ 0x1a ∷ 0x1b ∷ 0x1c ∷ 0x1d ∷ 0x1e ∷ 0x1f ∷ 0x20 ∷ []

abbrev pub long_ciphered : List ℕ
long_ciphered = 0xad ∷ 0x96 ∷ 0x94 ∷ 0xe4 ∷ 0xc0 ∷ 0xc0 ∷ 0x38 ∷ 0xde ∷ 0xcb ∷ 0x56 ∷ 0x61 ∷ 0x39 ∷ 0xd5 ∷ 0xa7 ∷ 0x9c ∷ 0x95 ∷ 0xf8 ∷ 0x04 ∷ 0x81 ∷ 0xcc ∷ 0x12 ∷ 0x13 ∷ 0x3d ∷ 0x3c ∷ 0xa3 ∷ 0x90 ∷ 0x02 ∷ 0x23 ∷ 0xe7 ∷ 0x97 ∷ 0xba ∷ 0x6d ∷ 0x8d ∷ []

abbrev pub long_frame : List ℕ
long_frame = take 9 (worked_frame 0xec) ++ long_ciphered ++ 0xe0 ∷ 0xe5 ∷ 0x56 ∷ 0xd8 ∷ []

-- address 11223344, count 65,537, port 201, payload abcd; the same with FCtrl 10; a payload of three blocks; with which byte the
-- first of each block of the longest payload is encrypted, and the MIC of the longest message, of bytes 0 to 250; and of count
-- 01020304 the byte with which the 17th of a payload is encrypted
pub record WorkedFrames : Type 0 where
  pub frame : frame_of worked_keys 0x11223344 0x00 65537 201 (0xab ∷ 0xcd ∷ []) ≡ worked_frame 0xec
  pub pending : frame_of worked_keys 0x11223344 0x10 65537 201 (0xab ∷ 0xcd ∷ []) ≡ pending_frame
  pub long : frame_of worked_keys 0x11223344 0x00 65537 201 long_payload ≡ long_frame
  pub blocks : map (λ b. stream_byte worked_keys.app_s 0x11223344 65537 (16 * b)) (range_with_len 0 16) ≡ 0xad ∷ 0xe8 ∷ 0xad ∷ 0xde ∷ 0x65 ∷ 0x68 ∷ 0x35 ∷ 0x7b ∷ 0x0f ∷ 0x9f ∷ 0x37 ∷ 0x4d ∷ 0xec ∷ 0xc1 ∷ 0xc2 ∷ 0x37 ∷ []
  pub longest : mic worked_keys 0x11223344 65537 (range_with_len 0 251) ≡ 0x6e ∷ 0x8f ∷ 0x95 ∷ 0x73 ∷ []
  pub second_block : stream_byte worked_keys.app_s 0x11223344 0x01020304 16 ≡ 0xd3

-- heard with counts from 2 to below 70,000, or others
pub record WorkedFaults : Type 0 where
  pub none : fault_of worked_keys 0x11223344 2 70000 (worked_frame 0xec) ≡ None
  pub pending : fault_of worked_keys 0x11223344 2 70000 pending_frame ≡ None
  pub bit_turned : fault_of worked_keys 0x11223344 2 70000 (worked_frame 0xed) ≡ Some Mic
  pub at_max : fault_of worked_keys 0x11223344 2 65537 (worked_frame 0xec) ≡ Some Count
  pub next_round : fault_of worked_keys 0x11223344 65538 131073 (worked_frame 0xec) ≡ Some Count
  pub next_round_is_due : fault_of worked_keys 0x11223344 65538 131074 (worked_frame 0xec) ≡ Some Mic

-- where several faults hold, the first
pub record WorkedOrder : Type 0 where
  pub short : fault_of worked_keys 0x11223344 2 70000 (take 12 (worked_frame 0xec)) ≡ Some Short
  pub shortest : fault_of worked_keys 0x11223344 2 70000 (replicate 13 0) ≡ Some Header
  pub long : fault_of worked_keys 0x11223344 2 70000 (replicate 256 0) ≡ Some Long
  pub longest : fault_of worked_keys 0x11223344 2 70000 (replicate 255 0) ≡ Some Header
  pub options : fault_of worked_keys 0x11223344 2 70000 (frame_with 0x01) ≡ Some Header
  pub most_options : fault_of worked_keys 0x11223344 2 70000 (frame_with 0x0f) ≡ Some Header
  pub pending_options : fault_of worked_keys 0x11223344 2 70000 (frame_with 0x11) ≡ Some Header
  pub ack : fault_of worked_keys 0x11223344 2 70000 (frame_with 0x20) ≡ Some Header
  pub reserved : fault_of worked_keys 0x11223344 2 70000 (frame_with 0x40) ≡ Some Header
  pub adr : fault_of worked_keys 0x11223344 2 70000 (frame_with 0x80) ≡ Some Header
  pub header : fault_of worked_keys 0x11223344 2 70000 (0x40 ∷ drop 1 (worked_frame 0xec)) ≡ Some Header
  pub address : fault_of worked_keys 0x11223345 2 70000 portless_frame ≡ Some Address
  pub port : fault_of worked_keys 0x11223344 2 65537 portless_frame ≡ Some Port
  pub count : fault_of worked_keys 0x11223344 2 65537 (worked_frame 0xed) ≡ Some Count
  pub short_alone : fault_without_group (take 12 (worked_frame 0xec)) ≡ Short
  pub long_alone : fault_without_group (replicate 256 0) ≡ Long
  pub longest_alone : fault_without_group (replicate 255 0) ≡ Header
  pub pending_alone : fault_without_group pending_frame ≡ Address
  pub header_alone : fault_without_group (replicate 13 0) ≡ Header
  pub alone : fault_without_group (worked_frame 0xec) ≡ Address
