-- The answer of a call to C, besides what it writes: the numbers of the header.
use Rattle.std.specs.Prelude.{ℕ}

abbrev pub done : ℕ
done = 0

-- there is nothing to show, to take or to send
abbrev pub nothing : ℕ
nothing = 1

-- the handle has no object
abbrev pub no_object : ℕ
no_object = 2

-- an argument is out of its range
abbrev pub range : ℕ
range = 3

-- bytes have no room
abbrev pub no_room : ℕ
no_room = 4

abbrev pub no_memory : ℕ
no_memory = 5

-- a payload spells no commands, or an image is no image file
abbrev pub refused : ℕ
refused = 6

-- a device did not hear it
abbrev pub deaf : ℕ
deaf = 7

-- a device holds too many uplinks
abbrev pub full : ℕ
full = 8

-- the frame counts of a group are used up
abbrev pub spent : ℕ
spent = 9

-- saved bytes are not those of such an object
abbrev pub corrupt : ℕ
corrupt = 10

-- bytes are no frame of the group that a device hears
abbrev pub foreign : ℕ
foreign = 11

-- the sessions of a device are down until it gets power
abbrev pub down : ℕ
down = 12

-- a flash has something at a session's place that is no session's
abbrev pub flash : ℕ
flash = 13

-- where a call answers bits of a refusal, and there is no receiver
abbrev pub no_receiver : ℕ
no_receiver = 255
