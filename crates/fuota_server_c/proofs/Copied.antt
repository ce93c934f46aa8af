-- A plan of the first of C's devices is that of all of them, or both have too many.
use Rattle.std.proofs.Common.{◌≡◌, ℕ, ◌<◌, Bool, true, false, ◌&&◌, nat_le, nat_lt, not, if◌then◌else◌, List, length, map, take, min, Option, Some, None, refl, sym, ap, ◌∙◌, arith, take_all}
use Rattle.std.proofs.lemmas.Bool.{leb-true, leb-false, lt-leb}
use Rattle.std.proofs.lemmas.List.{length-map, length-take, take_min}
use Rattle.std.proofs.Math.Bool.{and-false}
use Rattle.std.proofs.Math.Nat.{min_comm, min-eq_left, min-eq_right}
use Rattle.campaign_server.specs.declared.plan.Field.{Field}
use Rattle.campaign_server.specs.declared.plan.Field.TheVariants.{FragSize, Parity, Index, Group, Window, Devices}
use Rattle.campaign_server.specs.Plan.{bad_field, is_frag_size, is_group, is_window, max_parity, max_index, max_devices}
use Rattle.campaign_server.proofs.Plans.{plan_of_fine}
use Rattle.fuota_server_c.specs.declared.plan.PlanDeviceFields.{PlanDeviceFields}
use Rattle.fuota_server_c.specs.declared.plan.PlanFields.{PlanFields}
use Rattle.fuota_server_c.specs.Plan.{plan_of, group_of, window_of, device_of, most_copied}

-- so many devices are some, and no more than a plan may have
abbrev is_count : ℕ → Bool
is_count n = nat_le 1 n && nat_le n max_devices

-- of more than are copied there are too many, as of those that are
counted : (n : ℕ) (few : Bool) → nat_le n most_copied ≡ few → is_count (min most_copied n) ≡ is_count n
counted n true is = ap is_count (min-eq_right (leb-true n most_copied is))
counted n false is =
    let over : most_copied < n = leb-false n most_copied is in
    ap is_count (min-eq_left {n = most_copied} {m = n} (omega (arith, over)))
    ∙ sym (ap (λ (b : Bool). nat_le 1 n && b) (lt-leb n max_devices (omega (arith, over))) ∙ and-false (nat_le 1 n))

-- how many devices a plan of the first of them has
taken : (devices : List PlanDeviceFields) → length (map device_of (take most_copied devices)) ≡ min most_copied (length devices)
taken devices = length-map (take most_copied devices) device_of ∙ length-take most_copied devices

-- the first field that is wrong, where this says whether the devices are as many as they may be
abbrev wrong_of : (len : ℕ) → PlanFields → Bool → Option Field
wrong_of len fields count =
    if not (is_frag_size len fields.frag_size) then Some FragSize
    else if nat_lt max_parity fields.parity then Some Parity
    else if nat_lt max_index fields.index then Some Index
    else if not (is_group (group_of fields)) then Some Group
    else if not (is_window (group_of fields) (window_of fields)) then Some Window
    else if not count then Some Devices
    else None

wrong_is : (len : ℕ) (fields : PlanFields) (devices : List PlanDeviceFields)
    → bad_field len (plan_of fields devices) ≡ wrong_of len fields (is_count (length (map device_of devices)))
unfolding bad_field
wrong_is len fields devices = refl

-- the first of them, as they are copied
pub first_of : (n : ℕ) (devices : List PlanDeviceFields) → take (min (length devices) n) devices ≡ take n devices
first_of n devices = ap (λ k. take k devices) (min_comm (length devices) n) ∙ take_min n devices

-- the first field that is wrong is the same
pub same_field : (len : ℕ) (fields : PlanFields) (devices : List PlanDeviceFields)
    → bad_field len (plan_of fields (take most_copied devices)) ≡ bad_field len (plan_of fields devices)
same_field len fields devices =
    wrong_is len fields (take most_copied devices)
    ∙ ap (wrong_of len fields) (ap is_count (taken devices) ∙ counted (length devices) (nat_le (length devices) most_copied) refl
    ∙ sym (ap is_count (length-map devices device_of)))
    ∙ sym (wrong_is len fields devices)

-- and where there is none all were copied
pub all_copied : (len : ℕ) (fields : PlanFields) (devices : List PlanDeviceFields)
    → bad_field len (plan_of fields (take most_copied devices)) ≡ None → take most_copied devices ≡ devices
all_copied len fields devices none =
    let fine = plan_of_fine len (plan_of fields devices) (sym (same_field len fields devices) ∙ none) in
    take_all most_copied devices (omega (arith, fine.devices, length-map devices device_of))
