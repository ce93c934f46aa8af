-- AES-CMAC (RFC 4493).
use Rattle.std.specs.Prelude.{ℕ, zero, suc, ◌+◌, ◌-◌, ◌*◌, ◌/◌, ◌%◌, ◌==◌, nat_lt, if◌then◌else◌, List, [], ◌∷◌, ◌++◌, length, drop, map, replicate, slice_index, bit_xor}
use Rattle.std.specs.List.{range_with_len}
use Rattle.aes_block.specs.Cipher.{cipher}

-- the sum of two blocks, byte by byte; of longer strings their first 16 bytes
unfoldable pub xor_blocks : (a b : List ℕ) → List ℕ
xor_blocks a b = map (λ i. bit_xor (slice_index a i) (slice_index b i)) (range_with_len 0 16)

-- a block shifted left by one bit, its first byte the highest
unfoldable pub shifted : List ℕ → List ℕ
shifted block =
    map (λ i. 2 * slice_index block i % 256 + slice_index block (i + 1) / 128) (range_with_len 0 16)

-- what K1 is of L, and K2 of K1: the block shifted, and 87 added to its last byte where its top bit was 1 (2.3)
unfoldable pub subkey : List ℕ → List ℕ
subkey block =
    if nat_lt (slice_index block 0) 0x80 then shifted block
    else xor_blocks (shifted block) (replicate 15 0 ++ 0x87 ∷ [])

-- the first subkey (2.3)
abbrev pub k1 : List ℕ → List ℕ
k1 key = subkey (cipher key (replicate 16 0))

-- the second subkey (2.3)
abbrev pub k2 : List ℕ → List ℕ
k2 key = subkey (k1 key)

-- how many blocks come before the last, which an empty message has too (2.4, steps 2 and 3)
abbrev pub blocks_before : List ℕ → ℕ
blocks_before message = (length message - 1) / 16

-- the last block, whole or padded, with a subkey added (2.4, step 4)
unfoldable pub last_block : (key rest : List ℕ) → List ℕ
last_block key rest =
    if length rest == 16
    then xor_blocks rest (k1 key)
    else xor_blocks (rest ++ 0x80 ∷ replicate (15 - length rest) 0) (k2 key)

-- X after the first n blocks (2.4, steps 5 and 6)
unfoldable pub chained : (key message : List ℕ) → (n : ℕ) → List ℕ
chained key message zero = replicate 16 0
chained key message (suc n) = cipher key (xor_blocks (chained key message n) (drop (16 * n) message))

-- T (2.4, step 6)
unfoldable pub cmac : (key message : List ℕ) → List ℕ
cmac key message =
    let before = blocks_before message in
    cipher key (xor_blocks (last_block key (drop (16 * before) message)) (chained key message before))
