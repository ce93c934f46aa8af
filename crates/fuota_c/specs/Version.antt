-- The version of the library, 0.1.0: major, minor and patch, a byte each.
use Rattle.std.specs.Prelude.{ℕ, ◌+◌, ◌*◌}

abbrev pub version : ℕ
version = 0 * 65536 + 1 * 256 + 0
