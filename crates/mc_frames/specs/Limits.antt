-- How long a frame is.
use Rattle.std.specs.Prelude.{ℕ}

-- the fewest bytes of a frame with a port: nine of headers and four of the MIC (LoRaWAN 1.0.x, 4)
abbrev pub min_frame : ℕ
min_frame = 13

-- the most bytes of a frame that LoRa carries; it is min_frame and a payload of the most bytes
abbrev pub max_frame : ℕ
max_frame = 255
