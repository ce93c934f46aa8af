-- One step more of each recursion, and none.
use Rattle.std.proofs.Common.{◌≡◌, ℕ, suc, ◌+◌, ◌%◌, ◌≤◌, ◌==◌, nat_le, Bool, true, false, cond, List, [], ◌∷◌, ◌++◌, codes, append_assoc, append-nil, refl, sym, ap, ◌∙◌, arith}
use Rattle.campaign_generator.specs.Draws.{stepped, drawn, after_draws}
use Rattle.campaign_generator.specs.Firmware.{bytes_from}
use Rattle.campaign_generator.specs.Script.{device_line, devices_from, turn, turns, rounds, frags, is_skipped, skips, downs, downs_from, deliveries}

pub draws_more : (g left rest : ℕ) → left ≡ rest + 1 → after_draws g left ≡ after_draws (stepped g) rest
unfolding after_draws
draws_more g left rest is = let more : left ≡ suc rest = omega arith in rw more refl

pub draws_end : (g left : ℕ) → left ≡ 0 → after_draws g left ≡ g
unfolding after_draws
draws_end g left is = rw is refl

pub bytes_more : (g left rest : ℕ) → left ≡ rest + 1 → bytes_from g left ≡ drawn g % 256 ∷ bytes_from (stepped g) rest
unfolding bytes_from
bytes_more g left rest is = let more : left ≡ suc rest = omega arith in rw more refl

pub bytes_end : (g left : ℕ) → left ≡ 0 → bytes_from g left ≡ []
unfolding bytes_from
bytes_end g left is = rw is refl

pub devices_more : (g device left rest : ℕ) → left ≡ rest + 1 → devices_from g device left ≡ device_line device (drawn g) ++ devices_from (stepped g) (device + 1) rest
unfolding devices_from
devices_more g device left rest is = let more : left ≡ suc rest = omega arith in rw more refl

pub devices_end : (g device left : ℕ) → left ≡ 0 → devices_from g device left ≡ []
unfolding devices_from
devices_end g device left is = rw is refl

pub turns_more : (device sent uplink left rest : ℕ) → left ≡ rest + 1 → turns device sent uplink left ≡ turn device sent uplink ++ turns device (sent + 1) (uplink + 1) rest
unfolding turns
turns_more device sent uplink left rest is = let more : left ≡ suc rest = omega arith in rw more refl

pub turns_end : (device sent uplink left : ℕ) → left ≡ 0 → turns device sent uplink left ≡ []
unfolding turns
turns_end device sent uplink left is = rw is refl

pub rounds_more : (each device sent uplink left rest : ℕ) → left ≡ rest + 1 → rounds each device sent uplink left ≡ turns device sent uplink each ++ rounds each (device + 1) (sent + each) (uplink + each) rest
unfolding rounds
rounds_more each device sent uplink left rest is = let more : left ≡ suc rest = omega arith in rw more refl

pub rounds_end : (each device sent uplink left : ℕ) → left ≡ 0 → rounds each device sent uplink left ≡ []
unfolding rounds
rounds_end each device sent uplink left is = rw is refl

pub frags_more : (left rest : ℕ) → left ≡ rest + 1 → frags left ≡ codes "frag\n" ++ frags rest
unfolding frags
frags_more left rest is = let more : left ≡ suc rest = omega arith in rw more refl

pub frags_end : (left : ℕ) → left ≡ 0 → frags left ≡ []
unfolding frags
frags_end left is = rw is refl

pub downs_more : (device pieces g n skipped left rest : ℕ) → left ≡ rest + 1 → downs_from device pieces g n skipped left
    ≡ downs (is_skipped (drawn g % 10) pieces n skipped) (drawn g % 10 == 1) device n
    ++ downs_from device pieces (stepped g) (n + 1) (skips (is_skipped (drawn g % 10) pieces n skipped) pieces n skipped) rest
unfolding downs_from
downs_more device pieces g n skipped left rest is = let more : left ≡ suc rest = omega arith in rw more refl

pub downs_end : (device pieces g n skipped left : ℕ) → left ≡ 0 → downs_from device pieces g n skipped left ≡ []
unfolding downs_from
downs_end device pieces g n skipped left is = rw is refl

pub deliveries_more : (pieces g device left rest : ℕ) → left ≡ rest + 1 → deliveries pieces g device left
    ≡ downs_from device pieces g 1 0 (pieces + 128) ++ deliveries pieces (after_draws g (pieces + 128)) (device + 1) rest
unfolding deliveries
deliveries_more pieces g device left rest is = let more : left ≡ suc rest = omega arith in rw more refl

pub deliveries_end : (pieces g device left : ℕ) → left ≡ 0 → deliveries pieces g device left ≡ []
unfolding deliveries
deliveries_end pieces g device left is = rw is refl

pub skips_few : (skip : Bool) (pieces n skipped : ℕ) → skips skip pieces n skipped ≤ skipped + 1
skips_few false pieces n skipped = omega arith
skips_few true pieces n skipped = by (nat_le n pieces)
  where
    by : (b : Bool) → cond b (skipped + 1) skipped ≤ skipped + 1
    by true = omega arith
    by false = omega arith

-- a step: what is put at the end is what the rest began with
pub goes_on : (text new line rest left whole : List ℕ) → new ≡ text ++ line → rest ≡ line ++ left → text ++ rest ≡ whole → new ++ left ≡ whole
goes_on text new line rest left whole put begins so = rw (put, append_assoc text line left, ← begins) so

-- and at the end nothing is left
pub ends_so : (text rest whole : List ℕ) → rest ≡ [] → text ++ rest ≡ whole → text ≡ whole
ends_so text rest whole none so = sym (append-nil text) ∙ ap (λ (t : List ℕ). text ++ t) (sym none) ∙ so
