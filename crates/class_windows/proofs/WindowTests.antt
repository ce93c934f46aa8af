-- The tests of windows are true exactly where their intervals have the moment.
use Rattle.std.proofs.Common.{◌≡◌, ℕ, ◌+◌, ◌-◌, ◌*◌, ◌/◌, ◌%◌, ◌^◌, ◌<◌, ◌≤◌, ◌⊎◌, inl, inr, leb, ltb, refl, subst, arith}
use Rattle.std.specs.Bool.{Decides}
use Rattle.std.specs.Prelude.{◌↔◌, IsTrue}
use Rattle.std.proofs.lemmas.Bool.{leb-true, le-leb, ltb-true, lt-ltb}
use Rattle.std.proofs.lemmas.Bool.Decides.{Decides-and, Decides-or, Decides-eqb}
use Rattle.std.proofs.lemmas.Nat.{div-add-mod', mod-mul-add, pow_below, pow_pos}
use Rattle.class_windows.specs.Windows.{IsReceiveDelay, IsAfterUplink, IsRunning, IsInSlot, IsPinged, beacon_at, ping_offset, ping_period}
use Rattle.class_windows.specs.Open.{is_after_uplink, is_running, is_in_slot, is_ping_slot, is_open_b, is_open_c}

le_test : (a b : ℕ) → Decides (leb a b) (a ≤ b)
le_test a b = (λ is. leb-true a b is, λ le. le-leb a b le)

lt_test : (a b : ℕ) → Decides (ltb a b) (a < b)
lt_test a b = (λ is. ltb-true a b is, λ lt. lt-ltb a b lt)

-- ---- class A

abbrev InWindows : (due t : ℕ) → Type 0
InWindows due t = ((due + 1000 ≤ t) × (t ≤ due + 1099)) ⊎ ((due + 2000 ≤ t) × (t ≤ due + 2099))

windows_test : (due t : ℕ) → Decides (is_after_uplink due t) (InWindows due t)
unfolding is_after_uplink
windows_test due t = Decides-or _ _ (Decides-and _ _ (le_test _ _) (le_test _ _)) (Decides-and _ _ (le_test _ _) (le_test _ _))

delayed : (due t : ℕ) → InWindows due t → IsAfterUplink due t
delayed due t (inl h) = record { delay = t - due; in_window = inl (omega (arith, h), omega (arith, h)); moment = omega (arith, h) }
delayed due t (inr h) = record { delay = t - due; in_window = inr (omega (arith, h), omega (arith, h)); moment = omega (arith, h) }

windowed : (due t delay : ℕ) → IsReceiveDelay delay → t ≡ due + delay → InWindows due t
windowed due t delay (inl h) is = inl (omega (arith, h), omega (arith, h))
windowed due t delay (inr h) is = inr (omega (arith, h), omega (arith, h))

pub after_uplink_tests : (due t : ℕ) → IsTrue (is_after_uplink due t) ↔ IsAfterUplink due t
after_uplink_tests due t =
    (λ is. delayed due t ((windows_test due t).0 is), λ h. (windows_test due t).1 (windowed due t h.delay h.in_window h.moment))

-- ---- sessions

-- the ms since the start of a session, modulo the clock's round
abbrev Since : (start duration ms : ℕ) → Type 0
Since start duration ms = (ms + (4294967296000 - 1000 * start)) % 4294967296000 < 1000 * duration

since_running : (start duration ms : ℕ) → start < 2 ^ 32 → Since start duration ms → IsRunning start duration ms
since_running start duration ms fits below = record {
  ms = (ms + (4294967296000 - 1000 * start)) % 4294967296000;
  within = below;
  congruent = omega arith;
}

running_since : (start duration ms : ℕ) → start < 2 ^ 32 → duration < 2 ^ 32 → IsRunning start duration ms → Since start duration ms
running_since start duration ms s d h = omega (arith, h.within, h.congruent)

pub running_tests : (start duration ms : ℕ) → start < 2 ^ 32 → duration < 2 ^ 32 → IsTrue (is_running start duration ms) ↔ IsRunning start duration ms
unfolding is_running
running_tests start duration ms s d =
    (λ is. since_running start duration ms s (ltb-true _ _ is), λ h. lt-ltb _ _ (running_since start duration ms s d h))

-- ---- slots

abbrev InSlot : (offset period ms : ℕ) → Type 0
InSlot offset period ms = (((2120 ≤ ms) × ((ms - 2120) / 30 < 4096)) × (offset ≤ (ms - 2120) / 30)) × (((ms - 2120) / 30 - offset) % period ≡ 0)

slot_test : (offset period ms : ℕ) → Decides (is_in_slot offset period ms) (InSlot offset period ms)
unfolding is_in_slot
slot_test offset period ms =
    Decides-and _ _ (Decides-and _ _ (Decides-and _ _ (le_test _ _) (lt_test _ _)) (le_test _ _)) (Decides-eqb _ _)

slotted : (offset period ms : ℕ) → InSlot offset period ms → IsInSlot offset period ms
slotted offset period ms h =
    let from_first : 2120 ≤ ms = h.0.0.0 in
    let below : (ms - 2120) / 30 < 4096 = h.0.0.1 in
    let from_offset : offset ≤ (ms - 2120) / 30 = h.0.1 in
    let whole : ((ms - 2120) / 30 - offset) % period ≡ 0 = h.1 in
    let place : offset + ((ms - 2120) / 30 - offset) / period * period ≡ (ms - 2120) / 30 = omega (arith, div-add-mod' ((ms - 2120) / 30 - offset) period) in
    record { k = ((ms - 2120) / 30 - offset) / period; below = omega arith; from_begin = omega arith; before_end = omega arith }

in_slot : (offset period ms : ℕ) → 0 < period → IsInSlot offset period ms → InSlot offset period ms
in_slot offset period ms some h =
    let q : (ms - 2120) / 30 ≡ offset + h.k * period = omega (arith, h.from_begin, h.before_end) in
    let rest : (ms - 2120) / 30 - offset ≡ h.k * period + 0 = omega arith in
    (((omega (arith, h.from_begin), omega (arith, h.below)), omega arith), rw rest (mod-mul-add h.k period 0 some))

pub in_slot_tests : (offset period ms : ℕ) → 0 < period → IsTrue (is_in_slot offset period ms) ↔ IsInSlot offset period ms
in_slot_tests offset period ms some =
    (λ is. slotted offset period ms ((slot_test offset period ms).0 is), λ h. (slot_test offset period ms).1 (in_slot offset period ms some h))

-- ---- the classes

pub class_c_tests : (time timeout ms : ℕ) → time < 2 ^ 32 → timeout < 16 → IsTrue (is_open_c time timeout ms) ↔ IsRunning time (2 ^ timeout) ms
class_c_tests time timeout ms s few = running_tests time (2 ^ timeout) ms s (pow_below timeout 32 (omega (arith, few)))

pub class_b_tests : (time periodicity timeout ms addr : ℕ) → time < 2 ^ 32 → timeout < 16
    → IsTrue (is_open_b time periodicity timeout ms addr) ↔ IsPinged time periodicity timeout ms addr
unfolding is_ping_slot
class_b_tests time periodicity timeout ms addr s few =
    let short : 2 ^ timeout < 2 ^ 16 = pow_below timeout 16 few in
    let beacon = beacon_at (ms / 1000) in
    let running = running_tests (beacon_at time) (128 * 2 ^ timeout) ms (omega (arith, s)) (omega (arith, short)) in
    let slot = in_slot_tests (ping_offset beacon addr periodicity) (ping_period periodicity) (ms - 1000 * beacon) (pow_pos (5 + periodicity)) in
    let both = Decides-and _ _ running slot in (
      λ is. record { beacon = beacon; from_beacon = refl; running = (both.0 is).0; in_slot = (both.0 is).1 },
      λ h. both.1 (h.running, subst (λ (b : ℕ). IsInSlot (ping_offset b addr periodicity) (ping_period periodicity) (ms - 1000 * b)) h.from_beacon h.in_slot),
    )
