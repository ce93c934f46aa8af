-- The keys of a multicast group (TS005-1.0.0, Multicast security, for devices of LoRaWAN 1.0 and 1.1).
use Rattle.std.specs.Prelude.{ℕ, List, ◌∷◌, ◌++◌, replicate}
use Rattle.std.specs.Int.{w32, to_le_bytes}
use Rattle.aes_block.specs.Cipher.{cipher}

-- McRootKey = aes128_encrypt(GenAppKey, 16 zero bytes), of LoRaWAN 1.0
abbrev pub mc_root_key : List ℕ → List ℕ
mc_root_key gen_app_key = cipher gen_app_key (replicate 16 0)

-- McRootKey = aes128_encrypt(AppKey, 0x20 | zeros), of LoRaWAN 1.1
abbrev pub mc_root_key_1_1 : List ℕ → List ℕ
mc_root_key_1_1 app_key = cipher app_key (0x20 ∷ replicate 15 0)

-- McKEKey = aes128_encrypt(McRootKey, 16 zero bytes)
abbrev pub mc_ke_key : List ℕ → List ℕ
mc_ke_key root = cipher root (replicate 16 0)

-- McKey = aes128_encrypt(McKEKey, McKey_encrypted)
abbrev pub mc_key : (kek wrapped : List ℕ) → List ℕ
mc_key kek wrapped = cipher kek wrapped

-- a byte, McAddr, and zeros up to 16 bytes
abbrev pub session_block : (first addr : ℕ) → List ℕ
session_block first addr = first ∷ to_le_bytes w32 addr ++ replicate 11 0

-- McAppSKey = aes128_encrypt(McKey, 0x01 | McAddr | zeros)
abbrev pub mc_app_s_key : List ℕ → (addr : ℕ) → List ℕ
mc_app_s_key key addr = cipher key (session_block 0x01 addr)

-- McNetSKey = aes128_encrypt(McKey, 0x02 | McAddr | zeros)
abbrev pub mc_net_s_key : List ℕ → (addr : ℕ) → List ℕ
mc_net_s_key key addr = cipher key (session_block 0x02 addr)
