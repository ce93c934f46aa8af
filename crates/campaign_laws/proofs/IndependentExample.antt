-- What some lines let happen at a device, worked out.
use Rattle.std.proofs.Common.{◌≡◌, List, [], ◌∷◌, ◌++◌, map, Option, Ok, codes, refl}
use Rattle.hex.specs.Hex.{decode_pairs}
use Rattle.package_grammar.specs.declared.downlink.Downlink.{Downlink}
use Rattle.script_lines.specs.Lines.{words_of, word}
use Rattle.script_lines.specs.Numbers.{decimal_of, hex_bytes_of}
use Rattle.script_lines.specs.Forms.{form_of}
use Rattle.campaign_server.specs.declared.plan.PlanGroup.{PlanGroup}
use Rattle.campaign_world.specs.declared.numbered.SentPayload.{SentPayload}
use Rattle.campaign_world.specs.Said.{Elsewhere, Reached, Line, line_of}
use Rattle.campaign_world.specs.Making.{raw_down}
use Rattle.device_core.specs.Events.{Wakes, Receives, HearsBytes}
use Rattle.campaign_laws.specs.Independence.{history_of}

-- the last two are of another campaign: one concerns only that, and by the other a payload of its server reaches device 2
abbrev pub lines : Downlink → List Line
lines down = map line_of
    (codes "at 5" ∷ codes "wake 2" ∷ codes "wake 1" ∷ codes "frag" ∷ codes "down 1 2 9" ∷ codes "at 6" ∷ codes "down 1 1"
    ∷ codes "wake 2" ∷ codes "raw 1 201 00 7" ∷ codes "rawair 2 60 8" ∷ [])
    ++ Ok Elsewhere ∷ Ok (Reached 2 10 down) ∷ []

-- device 2 wakes, hears the first payload at line 5 with the word 9, wakes again, hears anybody's bytes, and then the other
-- campaign's payload; device 1 hears the payload without a word, and then anybody's payload
pub second_device : (group : Option PlanGroup) (first : SentPayload) (down : Downlink) → history_of 2 group (first ∷ []) 0 1 (lines down)
    ≡ Wakes 5 ∷ Receives 5 9 5 first.down ∷ Wakes 6 ∷ HearsBytes 6 8 10 (0x60 ∷ []) ∷ Receives 6 10 12 down ∷ []
unfolding history_of form_of word words_of decimal_of hex_bytes_of decode_pairs
second_device group first down = refl

pub first_device : (group : Option PlanGroup) (first : SentPayload) (down : Downlink) → history_of 1 group (first ∷ []) 0 1 (lines down)
    ≡ Wakes 5 ∷ Receives 6 0 7 first.down ∷ Receives 6 7 9 (raw_down 201 (0 ∷ [])) ∷ []
unfolding history_of form_of word words_of decimal_of hex_bytes_of decode_pairs
first_device group first down = refl
