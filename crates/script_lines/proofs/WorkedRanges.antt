-- The worked ranges and limits, by computing.
use Rattle.hex.specs.Hex.{decode_pairs}
use Rattle.script_lines.specs.Numbers.{hex_bytes_of}
use Rattle.script_lines.specs.Ranges.{in_range}
use Rattle.script_lines.specs.WorkedRanges.{AreRanges, AreLimits}

pub ranges : AreRanges
unfolding in_range
ranges = search

pub limits : AreLimits
unfolding hex_bytes_of decode_pairs
limits = search
