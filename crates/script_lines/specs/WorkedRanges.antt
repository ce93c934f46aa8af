-- Numbers of each form, the last within its range and the first outside; and the limits of a line.
use Rattle.std.specs.Prelude.{◌≡◌, ℕ, ◌+◌, ◌-◌, ◌^◌, true, false, [], length, replicate, Some, None}
use Rattle.script_lines.specs.declared.forms.Class.TheVariants as class
use Rattle.script_lines.specs.declared.forms.Form.{Form}
use Rattle.script_lines.specs.declared.forms.Form.TheVariants.{Header, Image, Group, WindowC, WindowB, At, Wake, Migrate, Power, Ask, Frag, Status, Down, Raw, Air, RawAir, Up, End}
use Rattle.script_lines.specs.Limits.{max_lines, max_flash_devices}
use Rattle.script_lines.specs.Numbers.{hex_bytes_of}
use Rattle.script_lines.specs.Pieces.{cut}
use Rattle.script_lines.specs.Ranges.{in_range}
use Rattle.script_lines.specs.WorkedLines.{device_says}

abbrev pub group : (min max : ℕ) → Form
group min max = Group 0 0 (replicate 16 0) min max

abbrev pub device : (id hw rows offset : ℕ) → Form
device id hw rows offset = device_says id class.A hw rows offset (replicate 16 0) None false false false

pub record AreRanges : Type 0 where
  -- image: FRAGSIZE 1 to 239, PARITY to 512
  pub no_bytes : in_range (Image 0 4 0) ≡ false
  pub one_byte : in_range (Image 1 4 0) ≡ true
  pub most_bytes : in_range (Image 239 4 0) ≡ true
  pub too_many_bytes : in_range (Image 240 4 0) ≡ false
  pub no_parity : in_range (Image 13 0 0) ≡ true
  pub most_parity : in_range (Image 13 512 0) ≡ true
  pub too_much_parity : in_range (Image 13 513 0) ≡ false
  pub last_index : in_range (Image 13 4 3) ≡ true
  pub no_index : in_range (Image 13 4 4) ≡ false
  pub last_id : in_range (Group 3 0 (replicate 16 0) 0 10) ≡ true
  pub no_id : in_range (Group 4 0 (replicate 16 0) 0 10) ≡ false
  -- group: MIN below MAX, both below 2^32
  pub first_counts : in_range (group 0 1) ≡ true
  pub last_counts : in_range (group (2 ^ 32 - 2) (2 ^ 32 - 1)) ≡ true
  pub max_beyond : in_range (group 0 (2 ^ 32)) ≡ false
  pub both_beyond : in_range (group (2 ^ 32) (2 ^ 32 + 1)) ≡ false
  pub no_counts : in_range (group 7 7) ≡ false
  pub min_above : in_range (group 8 7) ≡ false
  -- window c: START below 2^32, TIMEOUT to 15, FREQ below 2^24, DR to 255
  pub c_lowest : in_range (WindowC 0 0 0 0) ≡ true
  pub c_last_start : in_range (WindowC (2 ^ 32 - 1) 0 0 0) ≡ true
  pub c_start_beyond : in_range (WindowC (2 ^ 32) 0 0 0) ≡ false
  pub c_last_timeout : in_range (WindowC 0 15 0 0) ≡ true
  pub c_timeout_beyond : in_range (WindowC 0 16 0 0) ≡ false
  pub c_last_freq : in_range (WindowC 0 0 (2 ^ 24 - 1) 0) ≡ true
  pub c_freq_beyond : in_range (WindowC 0 0 (2 ^ 24) 0) ≡ false
  pub c_last_dr : in_range (WindowC 0 0 0 255) ≡ true
  pub c_dr_beyond : in_range (WindowC 0 0 0 256) ≡ false
  -- window b: the same, and PERIODICITY to 7
  pub b_lowest : in_range (WindowB 0 0 0 0 0) ≡ true
  pub b_last_start : in_range (WindowB (2 ^ 32 - 1) 0 0 0 0) ≡ true
  pub b_start_beyond : in_range (WindowB (2 ^ 32) 0 0 0 0) ≡ false
  pub b_last_periodicity : in_range (WindowB 0 7 0 0 0) ≡ true
  pub b_periodicity_beyond : in_range (WindowB 0 8 0 0 0) ≡ false
  pub b_last_timeout : in_range (WindowB 0 0 15 0 0) ≡ true
  pub b_timeout_beyond : in_range (WindowB 0 0 16 0 0) ≡ false
  pub b_last_freq : in_range (WindowB 0 0 0 (2 ^ 24 - 1) 0) ≡ true
  pub b_freq_beyond : in_range (WindowB 0 0 0 (2 ^ 24) 0) ≡ false
  pub b_last_dr : in_range (WindowB 0 0 0 0 255) ≡ true
  pub b_dr_beyond : in_range (WindowB 0 0 0 0 256) ≡ false
  -- device: ID 1 to 64, HW and OFFSET below 2^32, ROWS to 256
  pub no_device : in_range (device 0 0 0 0) ≡ false
  pub first_device : in_range (device 1 0 0 0) ≡ true
  pub last_device : in_range (device 64 0 0 0) ≡ true
  pub device_beyond : in_range (device 65 0 0 0) ≡ false
  pub last_hw : in_range (device 1 (2 ^ 32 - 1) 0 0) ≡ true
  pub hw_beyond : in_range (device 1 (2 ^ 32) 0 0) ≡ false
  pub most_rows : in_range (device 1 0 256 0) ≡ true
  pub too_many_rows : in_range (device 1 0 257 0) ≡ false
  pub last_offset : in_range (device 1 0 0 (2 ^ 32 - 1)) ≡ true
  pub offset_beyond : in_range (device 1 0 0 (2 ^ 32)) ≡ false
  -- at: to the last millisecond of the second 2^32 - 1
  pub first_time : in_range (At 0) ≡ true
  pub last_time : in_range (At 4294967295999) ≡ true
  pub time_beyond : in_range (At 4294967296000) ≡ false
  -- down: WORD below 2^32
  pub last_word : in_range (Down 1 1 (2 ^ 32 - 1)) ≡ true
  pub word_beyond : in_range (Down 1 1 (2 ^ 32)) ≡ false
  -- raw: PORT to 255, WORD below 2^32
  pub last_port : in_range (Raw 1 255 [] 0) ≡ true
  pub port_beyond : in_range (Raw 1 256 [] 0) ≡ false
  pub last_raw_word : in_range (Raw 1 0 [] (2 ^ 32 - 1)) ≡ true
  pub raw_word_beyond : in_range (Raw 1 0 [] (2 ^ 32)) ≡ false
  pub last_air_word : in_range (Air 1 1 (2 ^ 32 - 1)) ≡ true
  pub air_word_beyond : in_range (Air 1 1 (2 ^ 32)) ≡ false
  pub last_raw_air_word : in_range (RawAir 1 [] (2 ^ 32 - 1)) ≡ true
  pub raw_air_word_beyond : in_range (RawAir 1 [] (2 ^ 32)) ≡ false
  -- which device, payload or uplink a line names is looked at elsewhere, and a keyword by itself has no number
  pub header : in_range Header ≡ true
  pub any_wake : in_range (Wake (2 ^ 64 - 1)) ≡ true
  pub any_migrate : in_range (Migrate (2 ^ 64 - 1)) ≡ true
  pub any_power : in_range (Power (2 ^ 64 - 1)) ≡ true
  pub any_ask : in_range (Ask (2 ^ 64 - 1)) ≡ true
  pub frag : in_range Frag ≡ true
  pub status : in_range Status ≡ true
  pub any_down : in_range (Down (2 ^ 64 - 1) (2 ^ 64 - 1) 0) ≡ true
  pub any_raw : in_range (Raw (2 ^ 64 - 1) 0 [] 0) ≡ true
  pub any_air : in_range (Air (2 ^ 64 - 1) (2 ^ 64 - 1) 0) ≡ true
  pub any_raw_air : in_range (RawAir (2 ^ 64 - 1) [] 0) ≡ true
  pub any_up : in_range (Up (2 ^ 64 - 1)) ≡ true
  pub end : in_range End ≡ true

pub record AreLimits : Type 0 where
  -- lines of a script, and devices in flash
  pub lines : max_lines ≡ 20000
  pub flash_devices : max_flash_devices ≡ 4
  -- a line of 600 bytes is given whole, of a longer one 601 bytes
  pub longest : length (cut (replicate 600 65)) ≡ 600
  pub longer : length (cut (replicate 602 65)) ≡ 601
  -- a word spells at most 300 bytes in hex
  pub most_hex : hex_bytes_of (replicate 600 48) ≡ Some (replicate 300 0)
  pub more_hex : hex_bytes_of (replicate 602 48) ≡ None
