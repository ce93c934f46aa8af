-- What the program never takes, each number once (this project's profile).
use Rattle.std.specs.Prelude.{ℕ}

-- bytes of an image source
abbrev pub image_limit : ℕ
image_limit = 262144

-- bytes of a script, and of a file of payloads
abbrev pub script_limit : ℕ
script_limit = 1048576
