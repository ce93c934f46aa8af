-- The ranges of a form's numbers, except for what depends on the image or on the lines before (this project's profile).
use Rattle.std.specs.Prelude.{ℕ, ◌^◌, Bool, true, ◌&&◌, nat_le, nat_lt}
use Rattle.script_lines.specs.declared.forms.Form.{Form}
use Rattle.script_lines.specs.declared.forms.Form.TheVariants.{Image, Group, WindowC, WindowB, Device, At, Down, Raw, Air, RawAir}
use Rattle.script_lines.specs.Limits.{max_time, max_frag_size, max_parity, max_rows, max_devices, max_index}

-- a number below 2^32
abbrev pub is_u32 : ℕ → Bool
is_u32 n = nat_lt n (2 ^ 32)

-- TIMEOUT to 15, FREQ below 2^24, DR to 255
abbrev pub is_window : (start timeout freq dr : ℕ) → Bool
is_window start timeout freq dr = is_u32 start && nat_le timeout 15 && nat_lt freq (2 ^ 24) && nat_le dr 255

abbrev pub is_device : (id hw rows offset : ℕ) → Bool
is_device id hw rows offset = nat_le 1 id && nat_le id max_devices && is_u32 hw && nat_le rows max_rows && is_u32 offset

unfoldable pub in_range : Form → Bool
in_range (Image frag_size parity index) =
    nat_le 1 frag_size && nat_le frag_size max_frag_size && nat_le parity max_parity && nat_le index max_index
in_range (Group id addr key min max) = is_u32 min && is_u32 max && nat_lt min max && nat_le id max_index
in_range (WindowC start timeout freq dr) = is_window start timeout freq dr
in_range (WindowB start periodicity timeout freq dr) = is_window start timeout freq dr && nat_le periodicity 7
in_range (Device dev) = is_device dev.id dev.hw dev.rows dev.offset
in_range (At time) = nat_le time max_time
in_range (Down number device word) = is_u32 word
in_range (Raw device port payload word) = nat_le port 255 && is_u32 word
in_range (Air number device word) = is_u32 word
in_range (RawAir device bytes word) = is_u32 word
in_range form = true
