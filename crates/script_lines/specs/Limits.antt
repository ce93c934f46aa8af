-- What a script never exceeds, each number once (this project's profile).
use Rattle.std.specs.Prelude.{ℕ}

-- lines of a script or of a file of payloads
abbrev pub max_lines : ℕ
max_lines = 20000

-- bytes of a line, its line feed not counted
abbrev pub max_line : ℕ
max_line = 600

-- bytes that a word of a line spells in hex
abbrev pub max_hex_bytes : ℕ
max_hex_bytes = 300

-- the last millisecond of the GPS second 2^32 - 1
abbrev pub max_time : ℕ
max_time = 4294967295999

-- bytes of a fragment
abbrev pub max_frag_size : ℕ
max_frag_size = 239

-- coded fragments
abbrev pub max_parity : ℕ
max_parity = 512

-- rows of a device for coded fragments
abbrev pub max_rows : ℕ
max_rows = 256

-- devices
abbrev pub max_devices : ℕ
max_devices = 64

-- devices whose sessions are held in flash
abbrev pub max_flash_devices : ℕ
max_flash_devices = 4

-- the index of a session, and the id of a group
abbrev pub max_index : ℕ
max_index = 3
