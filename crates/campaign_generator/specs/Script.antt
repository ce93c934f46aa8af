-- The script of a seed: eight devices ask for the image, hear its fragments, and start it. (This project's profile.)
use Rattle.std.specs.Prelude.{ℕ, zero, suc, ◌+◌, ◌%◌, Bool, true, false, ◌==◌, ◌&&◌, ◌||◌, nat_lt, nat_le, if◌then◌else◌, List, [], ◌++◌, codes}
use Rattle.std.specs.Fmt.{decimal}
use Rattle.campaign_generator.specs.Draws.{stepped, drawn, after_draws}
use Rattle.campaign_generator.specs.Firmware.{after_image, fragments_of}

-- texts joined to the right
infixr 5 ◌⧺◌
abbrev pub ◌⧺◌ : List ℕ → List ℕ → List ℕ
a ⧺ b = a ++ b

-- ---- lines

abbrev pub device_line : (device offset : ℕ) → List ℕ
device_line device offset =
    codes "device " ⧺ decimal device ⧺ codes " c 1 64 " ⧺ decimal offset ⧺ codes " 00000000000000000000000000000000\n"

abbrev pub ask_line : (device : ℕ) → List ℕ
ask_line device = codes "ask " ⧺ decimal device ⧺ codes "\n"

abbrev pub down_line : (sent device : ℕ) → List ℕ
down_line sent device = codes "down " ⧺ decimal sent ⧺ codes " " ⧺ decimal device ⧺ codes "\n"

abbrev pub up_line : (uplink : ℕ) → List ℕ
up_line uplink = codes "up " ⧺ decimal uplink ⧺ codes "\n"

-- ---- devices, and their turns

-- so many devices from a number on, the offset of each drawn
unfoldable pub devices_from : (g device left : ℕ) → List ℕ
devices_from g device zero = []
devices_from g device (suc left) = device_line device (drawn g) ++ devices_from (stepped g) (device + 1) left

-- the server asks a device, which takes the payload, and its answer reaches the server
abbrev pub turn : (device sent uplink : ℕ) → List ℕ
turn device sent uplink = ask_line device ⧺ down_line sent device ⧺ up_line uplink

-- so many turns of a device, the payloads and uplinks numbered from here on
unfoldable pub turns : (device sent uplink left : ℕ) → List ℕ
turns device sent uplink zero = []
turns device sent uplink (suc left) = turn device sent uplink ++ turns device (sent + 1) (uplink + 1) left

-- so many turns of each of so many devices
unfoldable pub rounds : (each device sent uplink left : ℕ) → List ℕ
rounds each device sent uplink zero = []
rounds each device sent uplink (suc left) =
    turns device sent uplink each ++ rounds each (device + 1) (sent + each) (uplink + each) left

-- ---- fragments

-- so many fragments are sent
unfoldable pub frags : (left : ℕ) → List ℕ
frags zero = []
frags (suc left) = codes "frag\n" ++ frags left

-- fragment n is skipped where 0 was drawn; of the pieces themselves 60 at the most
abbrev pub is_skipped : (v pieces n skipped : ℕ) → Bool
is_skipped v pieces n skipped = (v == 0) && (nat_lt pieces n || nat_lt skipped 60)

-- how many of the pieces are skipped after it
abbrev pub skips : Bool → (pieces n skipped : ℕ) → ℕ
skips true pieces n skipped = if nat_le n pieces then skipped + 1 else skipped
skips false pieces n skipped = skipped

-- fragment n comes to a device, once or twice where it is not skipped: it was sent as number 16 + n
abbrev pub downs : (skip twice : Bool) (device n : ℕ) → List ℕ
downs true twice device n = []
downs false true device n = down_line (16 + n) device ++ down_line (16 + n) device
downs false false device n = down_line (16 + n) device

-- so many fragments from n on come to a device, of which so many pieces were skipped before
unfoldable pub downs_from : (device pieces g n skipped left : ℕ) → List ℕ
downs_from device pieces g n skipped zero = []
downs_from device pieces g n skipped (suc left) =
    downs (is_skipped (drawn g % 10) pieces n skipped) (drawn g % 10 == 1) device n
    ++ downs_from device pieces (stepped g) (n + 1) (skips (is_skipped (drawn g % 10) pieces n skipped) pieces n skipped) left

-- all fragments come to so many devices from a number on
unfoldable pub deliveries : (pieces g device left : ℕ) → List ℕ
deliveries pieces g device zero = []
deliveries pieces g device (suc left) =
    downs_from device pieces g 1 0 (pieces + 128) ++ deliveries pieces (after_draws g (pieces + 128)) (device + 1) left

-- ---- the whole

-- the script of an image of so many pieces, its numbers drawn from a state on
unfoldable pub script_from : (g pieces : ℕ) → List ℕ
script_from g pieces =
    codes "fuota 1\nimage 64 128\n"
    ⧺ devices_from g 1 8
    ⧺ rounds 2 1 1 1 8
    ⧺ frags (pieces + 128)
    ⧺ deliveries pieces (after_draws g 8) 1 8
    ⧺ rounds 4 1 (16 + (pieces + 128) + 1) 17 8
    ⧺ codes "end\n"

-- the script of a seed
unfoldable pub script_of : ℕ → List ℕ
script_of seed = script_from (after_image seed) (fragments_of seed)

-- how many payloads the script of a seed sends
unfoldable pub sent_of : ℕ → ℕ
sent_of seed = 16 + (fragments_of seed + 128) + 32
