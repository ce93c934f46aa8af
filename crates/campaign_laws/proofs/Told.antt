-- The report, parted at the lines of one device's sessions.
use Rattle.std.proofs.Common.{◌≡◌, ℕ, zero, suc, ◌+◌, ◌-◌, ◌≤◌, ◌<◌, Bool, true, false, cond, ◌==◌, List, [], ◌∷◌, ◌++◌, take, drop, slice_get, codes, None, Some, arith, refl, sym, ap, ◌∙◌, append_assoc}
use Rattle.std.specs.Fmt.{decimal}
use Rattle.device_core.specs.Device.{DeviceState}
use Rattle.device_core.specs.SessionTable.{session_at}
use Rattle.frag_session.specs.Session.{Session, view_of}
use Rattle.campaign_server.specs.declared.stage.Stage.{Stage}
use Rattle.campaign_server.specs.Server.{ledger}
use Rattle.wire_base.specs.Numbered.{numbered}
use Rattle.report_lines.specs.Devices.{device_line, counts_line}
use Rattle.report_lines.specs.Sessions.{same, session_line, session_lines, lines_below, lines_above}
use Rattle.report_lines.proofs.Places.{line_by_index}
use Rattle.campaign_world.specs.World.{WorldState}
use Rattle.campaign_world.specs.Report.{image_line, device_part, device_parts, report_of}
use Rattle.campaign_laws.specs.Told.{report_over, report_with_line}

-- the parts of devices are those before one, its own and those after it
parts_split : (image : List ℕ) (k from id : ℕ) (stages : List Stage) (devices : List DeviceState) (stage : Stage)
    (device : DeviceState) → slice_get stages k ≡ Some stage → slice_get devices k ≡ Some device → from + k ≡ id
    → device_parts image from stages devices
    ≡ device_parts image from (take k stages) (take k devices)
    ++ (device_part image id stage device ++ device_parts image (id + 1) (drop (suc k) stages) (drop (suc k) devices))
unfolding device_parts
parts_split image k from id [] devices stage device s d is = absurd cc
parts_split image k from id (x ∷ xs) [] stage device s d is = absurd cc
parts_split image zero from id (x ∷ xs) (y ∷ ys) stage device s d is =
    let one : x ≡ stage = cc in
    let two : y ≡ device = cc in
    let same : from ≡ id = omega (arith, is) in
    ap (λ (a : Stage). device_part image from a y ++ device_parts image (from + 1) xs ys) one
    ∙ ap (λ (b : DeviceState). device_part image from stage b ++ device_parts image (from + 1) xs ys) two
    ∙ ap (λ (n : ℕ). device_part image n stage device ++ device_parts image (n + 1) xs ys) same
parts_split image (suc k) from id (x ∷ xs) (y ∷ ys) stage device s d is =
    ap (λ (t : List ℕ). device_part image from x y ++ t)
    (parts_split image k (from + 1) id xs ys stage device s d (omega (arith, is)))
    ∙ sym (append_assoc (device_part image from x y) (device_parts image (from + 1) (take k xs) (take k ys))
    (device_part image id stage device ++ device_parts image (id + 1) (drop (suc k) xs) (drop (suc k) ys)))

-- texts, one after another
parts_on : (a b p x y z q end : List ℕ)
    → a ++ (b ++ ((p ++ ((x ++ (y ++ z)) ++ q)) ++ end)) ≡ (a ++ (b ++ p)) ++ (x ++ (y ++ (z ++ (q ++ end))))
parts_on a b p x y z q end =
    let inner : ((x ++ (y ++ z)) ++ q) ++ end ≡ x ++ (y ++ (z ++ (q ++ end))) =
    append_assoc (x ++ (y ++ z)) q end ∙ append_assoc x (y ++ z) (q ++ end)
    ∙ ap (λ (t : List ℕ). x ++ t) (append_assoc y z (q ++ end)) in
    let whole : (p ++ ((x ++ (y ++ z)) ++ q)) ++ end ≡ p ++ (x ++ (y ++ (z ++ (q ++ end)))) =
    append_assoc p ((x ++ (y ++ z)) ++ q) end ∙ ap (λ (t : List ℕ). p ++ t) inner in
    ap (λ (t : List ℕ). a ++ (b ++ t)) whole
    ∙ ap (λ (t : List ℕ). a ++ t) (sym (append_assoc b p (x ++ (y ++ (z ++ (q ++ end))))))
    ∙ sym (append_assoc a (b ++ p) (x ++ (y ++ (z ++ (q ++ end)))))

item_by : {A : Type 0} (xs : List A) (id : ℕ) (x : A) (b : Bool) → (id == 0) ≡ b
    → cond b None (slice_get xs (id - 1)) ≡ Some x → (slice_get xs (id - 1) ≡ Some x) × (1 ≤ id)
item_by xs id x true is there = absurd cc
item_by xs zero x false is there = absurd cc
item_by xs (suc id) x false is there = (there, omega arith)

-- the lines of its sessions stand after those of the device and of its counts
pub report_parted : (world : WorldState) (id : ℕ) (stage : Stage) (device : DeviceState)
    → ledger world.server id ≡ Some stage → numbered world.devices id ≡ Some device
    → report_of world ≡ report_over world id stage device (session_lines (same world.server.image) device.sessions)
unfolding report_of
report_parted world id stage device s d =
    let image : List ℕ = world.server.image in
    let stages : List Stage = world.server.stages in
    let there = item_by stages id stage (id == 0) refl s in
    let here = item_by world.devices id device (id == 0) refl d in
    let at : suc (id - 1) ≡ id = omega (arith, there.1) in
    let split = parts_split image (id - 1) 1 id stages world.devices stage device there.0 here.0 (omega (arith, there.1)) in
    let moved : device_parts image 1 stages world.devices
    ≡ device_parts image 1 (take (id - 1) stages) (take (id - 1) world.devices)
    ++ (device_part image id stage device ++ device_parts image (id + 1) (drop id stages) (drop id world.devices)) =
    split ∙ ap (λ (k : ℕ). device_parts image 1 (take (id - 1) stages) (take (id - 1) world.devices)
    ++ (device_part image id stage device ++ device_parts image (id + 1) (drop k stages) (drop k world.devices))) at in
    ap (λ (t : List ℕ). codes "fuota report 1\n" ++ (image_line world.server ++ (t ++ codes "end\n"))) moved
    ∙ parts_on (codes "fuota report 1\n") (image_line world.server)
    (device_parts image 1 (take (id - 1) stages) (take (id - 1) world.devices))
    (device_line (decimal id) stage device) (counts_line device.counts) (session_lines (same image) device.sessions)
    (device_parts image (id + 1) (drop id stages) (drop id world.devices)) (codes "end\n")

-- the line of one session stands between those of the others
pub line_parted : (world : WorldState) (id : ℕ) (stage : Stage) (device : DeviceState) (index : ℕ) (s : Session) (line : List ℕ)
    → ledger world.server id ≡ Some stage → numbered world.devices id ≡ Some device → index < 4
    → session_line (same world.server.image) index (view_of (session_at device.sessions index)) ≡ line
    → report_of world ≡ report_with_line world id stage device index line
line_parted world id stage device index s line stage_is device_is small is =
    let told = same world.server.image in
    report_parted world id stage device stage_is device_is
    ∙ ap (report_over world id stage device) (line_by_index index told device.sessions small
    ∙ ap (λ (l : List ℕ). lines_below told device.sessions index ++ (l ++ lines_above told device.sessions index)) is)
