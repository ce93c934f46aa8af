-- The keys and the addresses in the lines fit their fields, and their image has this index, as it is with the lines of a script.
use Rattle.std.specs.Prelude.{◌≡◌, ℕ, ◌^◌, ◌<◌, List, Ok}
use Rattle.std.specs.List.{AllByRecursion}
use Rattle.aes_block.specs.Cipher.{IsBlock}
use Rattle.script_lines.specs.declared.forms.Form.{Form}
use Rattle.script_lines.specs.declared.forms.Form.TheVariants.{Image, Group, Device}
use Rattle.campaign_world.specs.Said.{Own, Line}

-- a group's address has 32 bits, its key and a device's are 16 bytes
abbrev pub HasFields : (index : ℕ) → Form → Type 0
HasFields index (Image frag_size parity its) = its ≡ index
HasFields index (Group id addr key min max) = (addr < 2 ^ 32) × IsBlock key
HasFields index (Device dev) = IsBlock dev.key
HasFields index form = Unit {0}

abbrev pub LineFits : (index : ℕ) → Line → Type 0
LineFits index (Ok (Own form)) = HasFields index form
LineFits index line = Unit {0}

abbrev pub AllFit : (index : ℕ) → List Line → Type 0
AllFit index lines = AllByRecursion (LineFits index) lines
