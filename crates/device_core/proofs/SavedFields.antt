-- The fields of a saved device are read as what they were written of.
use Rattle.std.proofs.Common.{◌≡◌, ℕ, zero, suc, ◌+◌, ◌-◌, ◌*◌, ◌%◌, ◌^◌, ◌<◌, ◌≤◌, min, Bool, true, false, List, [], ◌∷◌, ◌++◌, length, get_or, replicate, Option, Some, None, refl, sym, ap, subst, length-append, append_assoc, arith}
use Rattle.std.specs.List.{flat_map, AllByRecursion}
use Rattle.std.proofs.lemmas.List.{length-replicate}
use Rattle.std.proofs.lemmas.List.FromFn.{fill_by_all}
use Rattle.wire_base.specs.Numbers.{number_at, number_bytes}
use Rattle.clock_sync.specs.Clock.{Clock}
use Rattle.mc_group.specs.declared.group.Group.{Group}
use Rattle.mc_group.specs.Groups.{group_at}
use Rattle.image_slots.specs.Slots.{Slots}
use Rattle.session_store.specs.declared.state.CompleteFlags.{CompleteFlags}
use Rattle.device_core.specs.declared.class_session.ClassSession.{ClassSession}
use Rattle.device_core.specs.declared.class_session.Kind.{Kind}
use Rattle.device_core.specs.declared.class_session.Kind.TheVariants.{ClassC, ClassB}
use Rattle.device_core.specs.declared.counts.Counts.{Counts}
use Rattle.device_core.specs.declared.uplink.Uplink.{Uplink}
use Rattle.device_core.specs.Sendable.{IsUplink}
use Rattle.device_core.specs.Saving.{option_bytes, flag_byte, clock_bytes, moment_bytes, group_fields, group_bytes, groups_bytes, kind_byte, periodicity_of, session_fields, session_bytes, reboot_bytes, counts_bytes, next_byte, next_version, slots_bytes, flags_bytes, uplink_bytes, uplinks_bytes, IsBelow, GroupFits, IsSession, CountsFit, UplinkFits}
use Rattle.device_core.specs.SavingInside.{option_at, clock_in, moment_in, group_in, place_in, groups_in, kind_of, session_fields_in, session_in, reboot_in, counts_in, flag_of, flags_in, uplink_at, uplinks_in}
use Rattle.device_core.proofs.Lengths.{short}
use Rattle.device_core.proofs.Lying.{Lies, lies_first, lies_rest, lies_four, lies_number, lies_byte, lies_head, lies_tail, lies_range}

-- ---- options

option_lies : {A : Type 0} (width : ℕ) (fields : A → List ℕ) (read : List ℕ → ℕ → A) (bytes : List ℕ) (place : ℕ) (value : Option A)
    → ((a : A) → value ≡ Some a → Lies (fields a) bytes (place + 1) → read bytes (place + 1) ≡ a)
    → Lies (option_bytes width fields value) bytes place → option_at read bytes place ≡ value
option_lies width fields read bytes place None back lies = rw (lies_head 0 (replicate width 0) bytes place lies) refl
option_lies {A} width fields read bytes place (Some a) back lies =
    let more = back a refl (lies_tail 1 (fields a) bytes place (place + 1) refl lies) in
    rw (lies_head 1 (fields a) bytes place lies) (ap (λ (x : A). Some x) more)

below_of : (limit : ℕ) (value : Option ℕ) (n : ℕ) → IsBelow limit value → value ≡ Some n → n < limit
below_of limit value n fits is = subst (λ (o : Option ℕ). IsBelow limit o) is fits

-- ---- one field after another

pub clock_back : (clock : Clock) (bytes : List ℕ) → clock.offset < 2 ^ 32 → clock.token < 16 → Lies (clock_bytes clock) bytes 0 → clock_in bytes ≡ clock
clock_back clock bytes offset token lies =
    let numbers : Lies (number_bytes 4 clock.offset ++ clock.token ∷ []) bytes 5 =
    lies_rest (0x46 ∷ 0x55 ∷ 0x53 ∷ 0x44 ∷ 1 ∷ []) (number_bytes 4 clock.offset ++ clock.token ∷ []) bytes 0 5 refl lies in
    let first = lies_number 4 clock.offset bytes 5 offset (lies_first (number_bytes 4 clock.offset) (clock.token ∷ []) bytes 5 numbers) in
    let second = lies_byte clock.token bytes 9 (lies_rest (number_bytes 4 clock.offset) (clock.token ∷ []) bytes 5 9 refl numbers) in
    let low : clock.token % 16 ≡ clock.token = omega (arith, token) in
    rw (first, second, low) refl

pub moment_back : (last_due : Option ℕ) (bytes : List ℕ) → IsBelow (2 ^ 64) last_due → Lies (moment_bytes last_due) bytes 10 → moment_in bytes ≡ last_due
moment_back last_due bytes fits lies =
    option_lies 8 (λ due. number_bytes 8 due) (λ b at. number_at b at 8) bytes 10 last_due
    (λ due is there. lies_number 8 due bytes 11 (below_of (2 ^ 64) last_due due fits is) there) lies

group_back : (group : Group) (bytes : List ℕ) (at : ℕ) → GroupFits (Some group) → Lies (group_fields group) bytes at → group_in bytes at ≡ group
group_back group bytes at fits lies =
    let four = lies_four (number_bytes 4 group.addr) group.key (number_bytes 4 group.min) (number_bytes 4 group.max) bytes at (at + 4) (at + 20) (at + 24)
    refl (omega (arith, fits.1)) (omega arith) lies in
    let addr = lies_number 4 group.addr bytes at fits.0 four.first in
    let key = lies_range group.key bytes (at + 4) (at + 20) (omega (arith, fits.1)) four.second in
    let low = lies_number 4 group.min bytes (at + 20) fits.2 four.third in
    let high = lies_number 4 group.max bytes (at + 24) fits.3 four.fourth in
    rw (addr, key, low, high) refl

place_back : (group : Option Group) (bytes : List ℕ) (place : ℕ) → GroupFits group → Lies (group_bytes group) bytes place → option_at group_in bytes place ≡ group
place_back group bytes place fits lies =
    option_lies 28 group_fields group_in bytes place group
    (λ g is there. group_back g bytes (place + 1) (subst (λ (o : Option Group). GroupFits o) is fits) there) lies

pub length-group_bytes : (group : Option Group) → GroupFits group → length (group_bytes group) ≡ 29
length-group_bytes None fits = refl
length-group_bytes (Some group) fits =
    omega (
      arith,
      length-append (number_bytes 4 group.addr ++ group.key ++ number_bytes 4 group.min) (number_bytes 4 group.max),
      length-append (number_bytes 4 group.addr ++ group.key) (number_bytes 4 group.min),
      length-append (number_bytes 4 group.addr) group.key,
      fits.1,
    )

-- a place beyond the table's has none
pub fits_at : (groups : List (Option Group)) (id : ℕ) → ((k : ℕ) → k < length groups → GroupFits (group_at groups k)) → GroupFits (group_at groups id)
fits_at [] id all = tt
fits_at (group ∷ groups) zero all = all 0 (omega arith)
fits_at (group ∷ groups) (suc id) all = fits_at groups id (λ k less. all (suc k) (omega (arith, less)))

by_four : (P : ℕ → Type 0) → P 0 → P 1 → P 2 → P 3 → (k : ℕ) → k < 4 → P k
by_four P a b c d zero less = a
by_four P a b c d (suc zero) less = b
by_four P a b c d (suc (suc zero)) less = c
by_four P a b c d (suc (suc (suc zero))) less = d
by_four P a b c d (suc (suc (suc (suc k)))) less = absurd (omega (arith, less))

pub groups_back : (groups : List (Option Group)) (number : ℕ) (bytes : List ℕ) → length groups ≡ number → number ≤ 4
    → ((k : ℕ) → k < length groups → GroupFits (group_at groups k)) → Lies (groups_bytes groups) bytes 19 → groups_in bytes number ≡ groups
groups_back groups number bytes many few fits lies =
    let g = λ (id : ℕ). group_bytes (group_at groups id) in
    let w = λ (id : ℕ). length-group_bytes (group_at groups id) (fits_at groups id fits) in
    let four = lies_four (g 0) (g 1) (g 2) (g 3) bytes 19 48 77 106 (omega (arith, w 0)) (omega (arith, w 1)) (omega (arith, w 2)) lies in
    let back = λ (id place : ℕ) (there : Lies (g id) bytes place). sym (place_back (group_at groups id) bytes place (fits_at groups id fits) there) in
    sym (fill_by_all (λ id. place_in bytes id) groups number None many
    (λ k less. by_four (λ (id : ℕ). get_or groups id None ≡ place_in bytes id)
    (back 0 19 four.first) (back 1 48 four.second) (back 2 77 four.third) (back 3 106 four.fourth) k (omega (arith, less, few))))

kind_back : (kind : Kind) → periodicity_of kind < 8 → kind_of (kind_byte kind) (periodicity_of kind) ≡ kind
kind_back ClassC fits = refl
kind_back (ClassB periodicity) fits = let low : periodicity % 8 ≡ periodicity = omega (arith, fits) in rw low refl

session_fields_back : (session : ClassSession) (bytes : List ℕ) → IsSession (Some session) → Lies (session_fields session) bytes 136 → session_fields_in bytes 136 ≡ session
session_fields_back session bytes fits lies =
    let after_id : Lies (kind_byte session.kind ∷ periodicity_of session.kind ∷ number_bytes 4 session.time ++ session.timeout ∷ []) bytes 137 =
    lies_tail session.id _ bytes 136 137 refl lies in
    let after_kind : Lies (periodicity_of session.kind ∷ number_bytes 4 session.time ++ session.timeout ∷ []) bytes 138 =
    lies_tail (kind_byte session.kind) _ bytes 137 138 refl after_id in
    let numbers : Lies (number_bytes 4 session.time ++ session.timeout ∷ []) bytes 139 =
    lies_tail (periodicity_of session.kind) _ bytes 138 139 refl after_kind in
    let id = lies_head session.id _ bytes 136 lies in
    let kind = lies_head (kind_byte session.kind) _ bytes 137 after_id in
    let periodicity = lies_head (periodicity_of session.kind) _ bytes 138 after_kind in
    let time = lies_number 4 session.time bytes 139 fits.2 (lies_first (number_bytes 4 session.time) (session.timeout ∷ []) bytes 139 numbers) in
    let timeout = lies_byte session.timeout bytes 143 (lies_rest (number_bytes 4 session.time) (session.timeout ∷ []) bytes 139 143 refl numbers) in
    let few : session.id % 4 ≡ session.id = omega (arith, fits.0) in
    let low : session.timeout % 16 ≡ session.timeout = omega (arith, fits.3) in
    rw (id, few, kind, periodicity, time, timeout, low, kind_back session.kind fits.1) refl

pub session_back : (session : Option ClassSession) (bytes : List ℕ) → IsSession session → Lies (session_bytes session) bytes 135 → session_in bytes ≡ session
session_back session bytes fits lies =
    option_lies 8 session_fields session_fields_in bytes 135 session
    (λ s is there. session_fields_back s bytes (subst (λ (o : Option ClassSession). IsSession o) is fits) there) lies

pub reboot_back : (reboot : Option ℕ) (bytes : List ℕ) → IsBelow (2 ^ 32) reboot → Lies (reboot_bytes reboot) bytes 144 → reboot_in bytes ≡ reboot
reboot_back reboot bytes fits lies =
    option_lies 4 (λ moment. number_bytes 4 moment) (λ b at. number_at b at 4) bytes 144 reboot
    (λ moment is there. lies_number 4 moment bytes 145 (below_of (2 ^ 32) reboot moment fits is) there) lies

pub counts_back : (counts : Counts) (bytes : List ℕ) → CountsFit counts → Lies (counts_bytes counts) bytes 149 → counts_in bytes ≡ counts
counts_back counts bytes fits lies =
    let four = lies_four (number_bytes 8 counts.deaf) (number_bytes 8 counts.refused) (number_bytes 8 counts.full) (number_bytes 8 counts.dropped)
    bytes 149 157 165 173 refl refl refl lies in
    rw (
      lies_number 8 counts.deaf bytes 149 fits.deaf four.first,
      lies_number 8 counts.refused bytes 157 fits.refused four.second,
      lies_number 8 counts.full bytes 165 fits.full four.third,
      lies_number 8 counts.dropped bytes 173 fits.dropped four.fourth,
    ) refl

-- ---- slots and flags

pub record SlotsLie (slots : Slots) (bytes : List ℕ) : Type 0 where
  pub formats : get_or bytes 181 0 ≡ slots.formats
  pub version : number_at bytes 182 4 ≡ slots.version
  pub next : get_or bytes 186 0 ≡ next_byte slots.next

pub slots_back : (slots : Slots) (bytes : List ℕ) → slots.version < 2 ^ 32 → Lies (slots_bytes slots) bytes 181 → SlotsLie slots bytes
slots_back slots bytes fits lies =
    let four = lies_four (slots.formats ∷ number_bytes 4 slots.version) (next_byte slots.next ∷ number_bytes 4 (next_version slots.next))
    (number_bytes 4 (length slots.running)) (number_bytes 4 (length slots.next_file)) bytes 181 186 191 195 refl refl refl lies in
    record {
      formats = lies_head slots.formats (number_bytes 4 slots.version) bytes 181 four.first;
      version = lies_number 4 slots.version bytes 182 fits (lies_tail slots.formats (number_bytes 4 slots.version) bytes 181 182 refl four.first);
      next = lies_head (next_byte slots.next) (number_bytes 4 (next_version slots.next)) bytes 186 four.second;
    }

flag_back : (flag : Bool) → flag_of (flag_byte flag) ≡ flag
flag_back true = refl
flag_back false = refl

pub flags_back : (flags : CompleteFlags) (bytes : List ℕ) → Lies (flags_bytes flags) bytes 199 → flags_in bytes ≡ flags
flags_back flags bytes lies =
    let second = lies_tail (flag_byte flags.first) (flag_byte flags.second ∷ flag_byte flags.third ∷ flag_byte flags.fourth ∷ []) bytes 199 200 refl lies in
    let third = lies_tail (flag_byte flags.second) (flag_byte flags.third ∷ flag_byte flags.fourth ∷ []) bytes 200 201 refl second in
    let fourth = lies_tail (flag_byte flags.third) (flag_byte flags.fourth ∷ []) bytes 201 202 refl third in
    rw (
      lies_head (flag_byte flags.first) _ bytes 199 lies,
      lies_head (flag_byte flags.second) _ bytes 200 second,
      lies_head (flag_byte flags.third) _ bytes 201 third,
      lies_byte (flag_byte flags.fourth) bytes 202 fourth,
      flag_back flags.first,
      flag_back flags.second,
      flag_back flags.third,
      flag_back flags.fourth,
    ) refl

-- ---- uplinks

pub short_uplink : (uplink : Uplink) → IsUplink uplink → length uplink.payload ≤ 22
short_uplink uplink is = omega (arith, ap length is.bytes, short uplink.port is.command is.sendable)

length-uplink_bytes : (uplink : Uplink) → UplinkFits uplink → length (uplink_bytes uplink) ≡ 32
length-uplink_bytes uplink fits =
    let few = short_uplink uplink fits.spelled in
    let zeros = length-replicate {A = ℕ} (22 - length uplink.payload) 0 in
    omega (
      arith,
      length-append (number_bytes 8 uplink.due ++ uplink.port ∷ length uplink.payload ∷ uplink.payload) (replicate (22 - length uplink.payload) 0),
      length-append (number_bytes 8 uplink.due) (uplink.port ∷ length uplink.payload ∷ uplink.payload),
      zeros,
      few,
    )

length-items : (uplinks : List Uplink) → AllByRecursion UplinkFits uplinks → length (flat_map uplink_bytes uplinks) ≡ 32 * length uplinks
length-items [] all = refl
length-items (uplink ∷ uplinks) all =
    omega (
      arith,
      length-append (uplink_bytes uplink) (flat_map uplink_bytes uplinks),
      length-uplink_bytes uplink all.0,
      length-items uplinks all.1,
    )

pub length-uplinks : (uplinks : List Uplink) → length uplinks ≤ 8 → AllByRecursion UplinkFits uplinks → length (uplinks_bytes uplinks) ≡ 257
length-uplinks uplinks few all =
    omega (
      arith,
      length-append (flat_map uplink_bytes uplinks) (replicate (256 - 32 * length uplinks) 0),
      length-items uplinks all,
      length-replicate {A = ℕ} (256 - 32 * length uplinks) 0,
      few,
    )

uplink_back : (uplink : Uplink) (bytes : List ℕ) (at : ℕ) → UplinkFits uplink → Lies (uplink_bytes uplink) bytes at → uplink_at bytes at ≡ uplink
uplink_back uplink bytes at fits lies =
    let few = short_uplink uplink fits.spelled in
    let whole = lies_first (number_bytes 8 uplink.due ++ uplink.port ∷ length uplink.payload ∷ uplink.payload) (replicate (22 - length uplink.payload) 0) bytes at lies in
    let due = lies_number 8 uplink.due bytes at fits.due (lies_first (number_bytes 8 uplink.due) _ bytes at whole) in
    let ports = lies_rest (number_bytes 8 uplink.due) (uplink.port ∷ length uplink.payload ∷ uplink.payload) bytes at (at + 8) refl whole in
    let lengths = lies_tail uplink.port (length uplink.payload ∷ uplink.payload) bytes (at + 8) (at + 9) (omega arith) ports in
    let payloads = lies_tail (length uplink.payload) uplink.payload bytes (at + 9) (at + 10) (omega arith) lengths in
    let port = lies_head uplink.port _ bytes (at + 8) ports in
    let size = lies_head (length uplink.payload) _ bytes (at + 9) lengths in
    let low : min (length uplink.payload) 22 ≡ length uplink.payload = omega (arith, few) in
    let payload = lies_range uplink.payload bytes (at + 10) (at + 10 + length uplink.payload) refl payloads in
    rw (due, port, size, low, payload) refl

item_lies : (uplinks : List Uplink) (more bytes : List ℕ) (place k : ℕ) (d : Uplink) → AllByRecursion UplinkFits uplinks → k < length uplinks
    → Lies (flat_map uplink_bytes uplinks ++ more) bytes place → Lies (uplink_bytes (get_or uplinks k d)) bytes (place + 32 * k)
item_lies [] more bytes place k d all less lies = absurd (omega (arith, less))
item_lies (uplink ∷ uplinks) more bytes place zero d all less lies =
    let here : place ≡ place + 32 * 0 = omega arith in
    subst (λ (p : ℕ). Lies (uplink_bytes uplink) bytes p) here
    (lies_first (uplink_bytes uplink) (flat_map uplink_bytes uplinks) bytes place
    (lies_first (uplink_bytes uplink ++ flat_map uplink_bytes uplinks) more bytes place lies))
item_lies (uplink ∷ uplinks) more bytes place (suc k) d all less lies =
    let on : place + 32 + 32 * k ≡ place + 32 * suc k = omega arith in
    let apart : Lies (uplink_bytes uplink ++ (flat_map uplink_bytes uplinks ++ more)) bytes place =
    subst (λ (x : List ℕ). Lies x bytes place) (append_assoc (uplink_bytes uplink) (flat_map uplink_bytes uplinks) more) lies in
    let rest = lies_rest (uplink_bytes uplink) (flat_map uplink_bytes uplinks ++ more) bytes place (place + 32) (omega (arith, length-uplink_bytes uplink all.0)) apart in
    subst (λ (p : ℕ). Lies (uplink_bytes (get_or uplinks k d)) bytes p) on
    (item_lies uplinks more bytes (place + 32) k d all.1 (omega (arith, less)) rest)

fits_in : (uplinks : List Uplink) (k : ℕ) (d : Uplink) → AllByRecursion UplinkFits uplinks → k < length uplinks → UplinkFits (get_or uplinks k d)
fits_in [] k d all less = absurd (omega (arith, less))
fits_in (uplink ∷ uplinks) zero d all less = all.0
fits_in (uplink ∷ uplinks) (suc k) d all less = fits_in uplinks k d all.1 (omega (arith, less))

pub uplinks_back : (uplinks : List Uplink) (bytes : List ℕ) → length uplinks ≤ 8 → AllByRecursion UplinkFits uplinks
    → Lies (uplinks_bytes uplinks) bytes 203 → uplinks_in bytes ≡ uplinks
uplinks_back uplinks bytes few all lies =
    let zeros : List ℕ = replicate (256 - 32 * length uplinks) 0 in
    let number = lies_head (length uplinks) (flat_map uplink_bytes uplinks ++ zeros) bytes 203 lies in
    let items = lies_tail (length uplinks) (flat_map uplink_bytes uplinks ++ zeros) bytes 203 204 refl lies in
    let d : Uplink = record { due = 0; port = 0; payload = [] } in
    let many : length uplinks ≡ min (get_or bytes 203 0) 8 = omega (arith, number, few) in
    sym (fill_by_all (λ k. uplink_at bytes (204 + 32 * k)) uplinks (min (get_or bytes 203 0) 8) d many
    (λ k less.
    let within : k < length uplinks = omega (arith, less, many) in
    sym (uplink_back (get_or uplinks k d) bytes (204 + 32 * k) (fits_in uplinks k d all within) (item_lies uplinks zeros bytes 204 k d all within items))))
