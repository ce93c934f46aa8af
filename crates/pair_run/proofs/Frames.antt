-- A frame for a group that a device does not hear makes of it what its payload makes.
use Rattle.std.proofs.Common.{◌≡◌, ℕ, ◌^◌, ◌<◌, Bool, true, false, not, cond, ◌==◌, List, length, nat_lt, Option, Some, None, Err, refl, sym, ◌∙◌, arith}
use Rattle.std.proofs.lemmas.Bool.Decides.{nat_tests}
use Rattle.wire_base.specs.Numbers.{number_at}
use Rattle.image_slots.specs.Slots.{after_swap}
use Rattle.package_grammar.specs.declared.downlink.To.TheVariants as to
use Rattle.package_grammar.specs.declared.downlink.Downlink.{Downlink}
use Rattle.mc_group.specs.declared.group.Group.{Group}
use Rattle.mc_group.specs.Groups.{group_at, is_for}
use Rattle.mc_frames.specs.declared.session.Keys.{Keys}
use Rattle.mc_frames.specs.declared.fault.FrameFault.{FrameFault}
use Rattle.mc_frames.specs.declared.fault.FrameFault.TheVariants.{Short, Long, Header, Address}
use Rattle.mc_frames.specs.Limits.{min_frame, max_frame}
use Rattle.mc_frames.specs.Frames.{message_of, frame_of}
use Rattle.mc_frames.specs.Opening.{has_header, fault_of, opening, fault_without_group}
use Rattle.device_core.specs.declared.class_session.ClassSession.{ClassSession}
use Rattle.device_core.specs.declared.delivered.Delivered.TheVariants.{Deaf}
use Rattle.device_core.specs.Device.{DeviceState, after_deaf, with_counts}
use Rattle.device_core.specs.ClassSessions.{hears, hears_group}
use Rattle.clock_sync.specs.Clock.{device_time}
use Rattle.device_core.specs.Firmware.{after_due_reboot, is_due}
use Rattle.device_core.specs.Deliver.{delivery, heard_delivery}
use Rattle.device_core.specs.Radio.{heard_group, session_keys, payload_to, brought_to, brought, radio}
use Rattle.device_core.proofs.Deliveries.{counted}
use Rattle.pair_run.specs.Crossing.{IsOtherAddress, FramesCrossAsPayloads}

-- ---- the frame

address_in : (keys : Keys) (addr control count port : ℕ) (payload : List ℕ) → addr < 2 ^ 32
    → number_at (frame_of keys addr control count port payload) 1 4 ≡ addr
unfolding frame_of message_of number_at
address_in keys addr control count port payload fits = omega arith

-- a frame with another address has a fault
by_tests : (short long header : Bool)
    → (fault : FrameFault) × (cond short (Some Short) (cond long (Some Long) (cond (not header) (Some Header) (Some Address))) ≡ Some fault)
by_tests true long header = (Short, refl)
by_tests false true header = (Long, refl)
by_tests false false false = (Header, refl)
by_tests false false true = (Address, refl)

faulty : (keys : Keys) (addr min max : ℕ) (bytes : List ℕ) → (number_at bytes 1 4 == addr) ≡ false
    → (fault : FrameFault) × (fault_of keys addr min max bytes ≡ Some fault)
unfolding fault_of
faulty keys addr min max bytes other =
    rw other (by_tests (nat_lt (length bytes) min_frame) (nat_lt max_frame (length bytes)) (has_header bytes))

unopened : (keys : Keys) (addr min max : ℕ) (bytes : List ℕ) (fault : FrameFault) → fault_of keys addr min max bytes ≡ Some fault
    → payload_to addr (opening keys addr min max bytes) ≡ Err fault
unopened keys addr min max bytes fault is = rw is refl

differs : (a b : ℕ) → (a ≡ b → ⊥) → (b == a) ≡ false
differs a b other = grind (arith, nat_tests, other)

unbrought_to : (found : Option Group) (bytes : List ℕ) (addr : ℕ) → number_at bytes 1 4 ≡ addr
    → ((group : Group) → found ≡ Some group → group.addr ≡ addr → ⊥)
    → (fault : FrameFault) × (brought_to found bytes ≡ Err fault)
unbrought_to None bytes addr is other = (fault_without_group bytes, refl)
unbrought_to (Some group) bytes addr is other =
    let apart : (number_at bytes 1 4 == group.addr) ≡ false = rw (is) (differs group.addr addr (other group refl)) in
    let one = faulty (session_keys group) group.addr group.min group.max bytes apart in
    (one.0, unopened (session_keys group) group.addr group.min group.max bytes one.0 one.1)

unheard : (t word line : ℕ) (bytes : List ℕ) (device : DeviceState) (fault : FrameFault) → brought device bytes ≡ Err fault
    → (radio t word line bytes device).device ≡ with_counts after_deaf (after_due_reboot t device)
unfolding radio
unheard t word line bytes device fault is = rw is refl

framed : (t word line : ℕ) (bytes : List ℕ) (device : DeviceState) (addr : ℕ) → number_at bytes 1 4 ≡ addr → IsOtherAddress device addr
    → (radio t word line bytes device).device ≡ with_counts after_deaf (after_due_reboot t device)
unfolding brought
framed t word line bytes device addr is other =
    let one = unbrought_to (heard_group device.groups device.class_session) bytes addr is other in
    unheard t word line bytes device one.0 one.1

-- ---- the payload

for_other : (found : Option Group) (addr count : ℕ) → ((group : Group) → found ≡ Some group → group.addr ≡ addr → ⊥)
    → is_for found addr count ≡ false
for_other None addr count other = refl
for_other (Some group) addr count other = rw (differs addr group.addr (λ same. other group refl (sym same))) refl

group_unheard : (device : DeviceState) (session : Option ClassSession) (t addr count : ℕ)
    → ((group : Group) → heard_group device.groups session ≡ Some group → group.addr ≡ addr → ⊥)
    → hears_group device session t addr count ≡ false
group_unheard device None t addr count other = refl
group_unheard device (Some session) t addr count other = rw (for_other (group_at device.groups session.id) addr count other) refl

same_groups : (t : ℕ) (device : DeviceState) (addr : ℕ) → IsOtherAddress device addr → IsOtherAddress (after_due_reboot t device) addr
unfolding after_due_reboot
same_groups t device addr other = by_due (is_due (device_time device.clock t) device.reboot)
  where
    by_due : (b : Bool) → IsOtherAddress (cond {A = DeviceState} b (record device { reboot = None; slots = after_swap device.slots }) device) addr
    by_due true = other
    by_due false = other

payload_unheard : (t word line count port : ℕ) (payload : List ℕ) (addr : ℕ) (device : DeviceState) → IsOtherAddress device addr
    → let down : Downlink = record { to = to.Group addr count; port = port; payload = payload } in
    (delivery t word line down device).answer ≡ Deaf
unfolding delivery heard_delivery hears
payload_unheard t word line count port payload addr device other =
    let start = after_due_reboot t device in
    rw (group_unheard start start.class_session t addr count (same_groups t device addr other)) refl

pub frames_cross : FramesCrossAsPayloads
frames_cross t word line count port payload group device fits other =
    framed t word line _ device group.addr (address_in _ group.addr 0x00 count port payload fits) other
    ∙ sym ((counted t word line (record { to = to.Group group.addr count; port = port; payload = payload }) device).deaf
    (payload_unheard t word line count port payload group.addr device other))
