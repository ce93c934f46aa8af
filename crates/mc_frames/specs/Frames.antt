-- Multicast downlink frames of LoRaWAN 1.0.x (section 4): unconfirmed, without MAC commands.
use Rattle.std.specs.Prelude.{ℕ, ◌+◌, ◌/◌, ◌%◌, List, [], ◌∷◌, ◌++◌, length, take, map, slice_index, bit_xor}
use Rattle.std.specs.List.{range_with_len}
use Rattle.aes_block.specs.Cipher.{cipher}
use Rattle.wire_base.specs.Numbers.{number_bytes}
use Rattle.mc_frames.specs.declared.session.Keys.{Keys}
use Rattle.mc_frames.specs.Cmac.{cmac}

-- a block that says which frame it serves: A_i (4.3.3) from 01, B_0 (4.4) from 49; the 01 in it is for downlinks
abbrev pub frame_block : (first addr count last : ℕ) → List ℕ
frame_block first addr count last =
    first ∷ 0 ∷ 0 ∷ 0 ∷ 0 ∷ 0x01 ∷ number_bytes 4 addr ++ number_bytes 4 count ++ 0 ∷ last ∷ []

-- byte k of the blocks S_1, S_2, .. (4.3.3)
abbrev pub stream_byte : (key : List ℕ) (addr count k : ℕ) → ℕ
stream_byte key addr count k = slice_index (cipher key (frame_block 0x01 addr count (k / 16 + 1))) (k % 16)

-- a payload encrypted; encrypted twice it is as before (4.3.3)
unfoldable pub ciphered : (key : List ℕ) (addr count : ℕ) → List ℕ → List ℕ
ciphered key addr count bytes =
    map (λ k. bit_xor (slice_index bytes k) (stream_byte key addr count k)) (range_with_len 0 (length bytes))

-- all of the frame but its MIC: MHDR, DevAddr, FCtrl, the low two bytes of the count, FPort and the encrypted payload
-- (4)
unfoldable pub message_of : Keys → (addr control count port : ℕ) → List ℕ → List ℕ
message_of keys addr control count port payload =
    0x60 ∷ number_bytes 4 addr ++ control ∷ number_bytes 2 count ++ port ∷ ciphered keys.app_s addr count payload

-- the MIC of a message (4.4)
unfoldable pub mic : Keys → (addr count : ℕ) → List ℕ → List ℕ
mic keys addr count message =
    take 4 (cmac keys.net_s (frame_block 0x49 addr count (length message) ++ message))

-- the frame
unfoldable pub frame_of : Keys → (addr control count port : ℕ) → List ℕ → List ℕ
frame_of keys addr control count port payload =
    let message = message_of keys addr control count port payload in
    message ++ mic keys addr count message
