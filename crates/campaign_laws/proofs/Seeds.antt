-- The image of a seed, its whole script, and what the devices come to.
use Rattle.std.proofs.Common.{◌≡◌, ◌≢◌, ◌⊎◌, inl, inr, ℕ, zero, suc, ◌+◌, ◌-◌, ◌*◌, ◌/◌, ◌%◌, ◌^◌, ◌<◌, ◌≤◌, ◌==◌, ◌&&◌, nat_lt, nat_le, Bool, true, false, cond, List, [], ◌∷◌, ◌++◌, length, replicate, slice_get, None, Some, Ok, refl, sym, ap, ◌∙◌, subst, ⊎_elim, lit<, arith}
use Rattle.std.specs.List.{AllByRecursion}
use Rattle.std.specs.Int.{w32, to_be_bytes}
use Rattle.std.proofs.lemmas.List.{length-append}
use Rattle.std.proofs.lemmas.List.Elements.{All-from_recursion}
use Rattle.std.proofs.lemmas.Grind.{div_ceil_times}
use Rattle.sha2.specs.Sha256.{sha256, digest_bytes}
use Rattle.wire_base.specs.Numbers.{number_bytes}
use Rattle.frag_model.specs.Fragments.{Fragment, IsUncoded}
use Rattle.frag_model.specs.Gain.{direct, direct_of, numbers_of}
use Rattle.frag_session.specs.declared.setups.SetupReq.{SetupReq}
use Rattle.frag_session.specs.declared.answers.Verdict.{Verdict as Shown}
use Rattle.frag_session.specs.declared.answers.Verdict.TheVariants as shown
use Rattle.frag_session.specs.Session.{Session, seen_of, view_of, shape_of}
use Rattle.image_slots.specs.Image.{image_start}
use Rattle.device_core.specs.Device.{DeviceState}
use Rattle.frag_model.specs.Limits.{max_pieces}
use Rattle.mc_keys.specs.declared.root_kind.RootKind.TheVariants.{V10}
use Rattle.campaign_server.specs.declared.stage.Stage.{Stage}
use Rattle.campaign_server.specs.declared.stage.Stage.TheVariants.{At}
use Rattle.campaign_server.specs.declared.stage.Request.TheVariants as request
use Rattle.campaign_server.specs.Plan.{Plan}
use Rattle.campaign_server.specs.Server.{ServerState, first_server}
use Rattle.wire_base.specs.Numbered.{numbered}
use Rattle.script_lines.specs.declared.forms.DeviceLine.{DeviceLine}
use Rattle.script_lines.specs.declared.forms.Form.{Form}
use Rattle.script_lines.specs.declared.forms.Form.TheVariants.{Header, Image, Device, End}
use Rattle.script_lines.specs.Lines.{lines_of}
use Rattle.script_lines.specs.Ranges.{in_range}
use Rattle.campaign_generator.specs.Draws.{stepped, drawn, after_draws}
use Rattle.campaign_generator.specs.Firmware.{body_of, firmware_of_seed, bytes_from, file_of, image_of, size_of, after_image, fragments_of_size, fragments_of}
use Rattle.campaign_generator.specs.Script.{script_of, sent_of}
use Rattle.campaign_generator.specs.Forms.{seed_device, device_form, forms_of_devices, forms_of_rounds, forms_of_frags, forms_of_deliveries, forms_from, forms_of}
use Rattle.campaign_generator.proofs.ImageFile.{image_files}
use Rattle.campaign_generator.proofs.ScriptForms.{lines_spell_forms}
use Rattle.campaign_world.specs.declared.summary.Totals.{Totals}
use Rattle.campaign_world.specs.declared.section.Section.{Section}
use Rattle.campaign_world.specs.declared.section.Section.TheVariants as section
use Rattle.campaign_world.specs.declared.numbered.SentPayload.{SentPayload}
use Rattle.campaign_world.specs.declared.numbered.NumberedUplink.{NumberedUplink}
use Rattle.campaign_world.specs.World.{WorldState, first_world}
use Rattle.campaign_world.specs.Said.{said_in}
use Rattle.campaign_world.specs.Causes.{is_in_order}
use Rattle.campaign_world.specs.Making.{device_of, after_form}
use Rattle.campaign_world.specs.Script.{one_line_more, read_lines, end_result, campaign_of}
use Rattle.campaign_world.specs.Summary.{has_file, is_updated, with_device, totals_from, nothing_counted}
use Rattle.campaign_laws.specs.Headline.{IsFragmentOf}
use Rattle.campaign_laws.proofs.HeadlineImage.{behind}
use Rattle.campaign_world.proofs.FormCauses.{none as no_cause}
use Rattle.campaign_server.proofs.LineItems.{numbered_more, within}
use Rattle.campaign_laws.specs.Accepted.{AllSeedsHaveCampaigns}
use Rattle.campaign_laws.proofs.Plays.{To, Plays, none, one, both, lines_read}
use Rattle.campaign_laws.proofs.Stands.{Stand, IsOne, IsPlan, Takes, takes_first_event, stand_within, numbered_last}
use Rattle.campaign_laws.proofs.Rounds.{had, AtTurn, rounds_to}
use Rattle.campaign_laws.proofs.Sessions.{cut, IsOurs, rows_suffice, no_conflict, uncoded_is}
use Rattle.campaign_laws.proofs.Orders.{pieces_in}
use Rattle.campaign_laws.proofs.Hearing.{IsMade, IsNew, IsHearing, count_of}
use Rattle.campaign_laws.proofs.Turns.{Early, early_turns, AtStage, Late, late_turns}
use Rattle.campaign_laws.proofs.Deliveries.{HeardAll, Between, frags_to, deliveries_to}
use Rattle.campaign_laws.proofs.Items.{numbered_up_to}

-- ---- the image

abbrev AreBytes : List ℕ → Type 0
AreBytes = AllByRecursion (λ b. b < 2 ^ 8)

bytes_both : (xs ys : List ℕ) → AreBytes xs → AreBytes ys → AreBytes (xs ++ ys)
bytes_both [] ys one more = more
bytes_both (x ∷ xs) ys one more = (one.0, bytes_both xs ys one.1 more)

number_is_bytes : (width n : ℕ) → AreBytes (number_bytes width n)
number_is_bytes zero n = tt
number_is_bytes (suc width) n = (omega arith, number_is_bytes width (n / 256))

word_is_bytes : (n : ℕ) → AreBytes (to_be_bytes w32 n)
word_is_bytes n = (omega arith, (omega arith, (omega arith, (omega arith, tt))))

digest_is_bytes : (h : List ℕ) (n : ℕ) → AreBytes (digest_bytes h n)
unfolding digest_bytes
digest_is_bytes h zero = tt
digest_is_bytes h (suc n) = bytes_both (digest_bytes h n) _ (digest_is_bytes h n) (word_is_bytes _)

sha_is_bytes : (body : List ℕ) → AreBytes (sha256 body)
unfolding sha256
sha_is_bytes body = digest_is_bytes _ 8

drawn_are_bytes : (g left : ℕ) → AreBytes (bytes_from g left)
unfolding bytes_from
drawn_are_bytes g zero = tt
drawn_are_bytes g (suc left) = (omega arith, drawn_are_bytes (stepped g) left)

start_is_bytes : AreBytes (image_start 1)
unfolding image_start
start_is_bytes = (lit< tt, (lit< tt, (lit< tt, (lit< tt, (lit< tt, tt)))))

file_is_bytes : (hardware firmware size : ℕ) (body : List ℕ) → AreBytes body → AreBytes (file_of hardware firmware size body)
unfolding file_of
file_is_bytes hardware firmware size body are =
    let rest_1 : List ℕ = sha256 body ++ body in
    let rest_2 : List ℕ = number_bytes 4 size ++ rest_1 in
    let rest_3 : List ℕ = number_bytes 4 firmware ++ rest_2 in
    bytes_both (image_start 1) (number_bytes 4 hardware ++ rest_3) start_is_bytes (bytes_both (number_bytes 4 hardware) rest_3 (number_is_bytes 4 hardware)
    (bytes_both (number_bytes 4 firmware) rest_2 (number_is_bytes 4 firmware) (bytes_both (number_bytes 4 size) rest_1 (number_is_bytes 4 size)
    (bytes_both (sha256 body) body (sha_is_bytes body) are))))

image_is_bytes : (seed : ℕ) → AreBytes (image_of seed)
unfolding image_of
image_is_bytes seed = file_is_bytes 1 (firmware_of_seed seed) (body_of seed) (bytes_from (stepped seed) (body_of seed)) (drawn_are_bytes (stepped seed) (body_of seed))

small_firmware : (seed : ℕ) → firmware_of_seed seed < 2 ^ 32
unfolding firmware_of_seed
small_firmware seed = omega arith

sized : (seed : ℕ) → (4145 ≤ size_of seed) × (size_of seed ≤ 8240)
unfolding size_of body_of
sized seed = (omega arith, omega arith)

image_made : (seed : ℕ) → IsMade (image_of seed)
image_made seed =
    let file = image_files seed in
    let fits = sized seed in
    record {
      bytes = All-from_recursion (λ b. b < 2 ^ 8) (image_of seed) (image_is_bytes seed);
      format = file.format;
      lowest = file.lowest;
      highest = file.highest;
      firmware = rw file.firmware (small_firmware seed);
      image_is = file.file;
      low = omega (arith, fits.0, file.size);
      high = omega (arith, fits.1, file.size);
    }

-- both count its fragments alike
count_is : (seed : ℕ) → count_of (image_of seed) ≡ fragments_of seed
unfolding fragments_of fragments_of_size
count_is seed =
    let file = image_files seed in
    let t = div_ceil_times (length (image_of seed)) 64 (omega arith) in
    omega (arith, t.0, t.1, file.size)

-- ---- the first lines

get_replicate : {A : Type 0} (count i : ℕ) (x : A) → i < count → slice_get (replicate count x) i ≡ Some x
get_replicate zero i x low = absurd (omega (arith, low))
get_replicate (suc count) zero x low = refl
get_replicate (suc count) (suc i) x low = get_replicate count i x (omega (arith, low))

numbered_replicate : {A : Type 0} (count n : ℕ) (x : A) → 1 ≤ n → n ≤ count → numbered (replicate count x) n ≡ Some x
numbered_replicate count n x low high =
    let some : (n == 0) ≡ false = grind (arith, low) in
    rw some (get_replicate count (n - 1) x (omega (arith, low, high)))

-- another device may come
abbrev pub TakesDevice : Section → Type 0
TakesDevice here = (dev : DeviceLine) → is_in_order here (Device dev) ≡ true

-- so many devices have joined
pub record Joined (image : List ℕ) (devices : ℕ) (w : WorldState) : Type 0 where
  pub server : w.server ≡ first_server image w.server.plan
  pub plan : IsPlan w.server.plan
  pub time : w.time ≡ 0
  pub takes : TakesDevice w.section
  pub events : 1 ≤ devices → Takes w.section
  pub keys : length w.server.plan.devices ≡ devices
  pub count : length w.devices ≡ devices
  pub sent : w.sent ≡ []
  pub ups : w.uplinks ≡ []
  pub each : (n : ℕ) → 1 ≤ n → n ≤ devices → (d : DeviceState) × (numbered w.devices n ≡ Some d) × IsNew d

start : (image : List ℕ) → count_of image ≤ 129 → To (first_world image) (Header ∷ Image 64 128 0 ∷ []) (Joined image 0)
unfolding after_form in_range
start image few =
    both (first_world image) (Header ∷ []) (Image 64 128 0 ∷ []) (λ v. v ≡ one_line_more (after_form (first_world image) Header)) (Joined image 0)
    (one (first_world image) Header _ (no_cause (first_world image) Header (record { comes = refl; ranges = refl; fits = refl }) refl refl refl refl refl refl refl) refl)
    (λ v is. subst (λ (w : WorldState). To w (Image 64 128 0 ∷ []) (Joined image 0)) (sym is)
    (one (one_line_more (after_form (first_world image) Header)) (Image 64 128 0) (Joined image 0)
    (no_cause (one_line_more (after_form (first_world image) Header)) (Image 64 128 0) (record { comes = refl; ranges = refl; fits = fits }) refl refl refl refl refl refl refl)
    (record {
      server = refl;
      plan = record { size = refl; parity = refl; index = refl; group = refl };
      time = refl;
      takes = λ dev. refl;
      events = λ some. absurd (omega (arith, some));
      keys = refl;
      count = refl;
      sent = refl;
      ups = refl;
      each = λ n low high. absurd (omega (arith, low, high));
    })))
  where
    fits : nat_le (count_of image) max_pieces ≡ true
    fits = grind (arith, few)

drawn_small : (g : ℕ) → nat_lt (drawn g) (2 ^ 32) ≡ true
unfolding drawn stepped
drawn_small g = let small : (1664525 * g + 1013904223) % 2 ^ 32 / 65536 < 2 ^ 32 = omega arith in grind (arith, small)

device_to : (image : List ℕ) (k g : ℕ) (w : WorldState) → k < 8 → Joined image k w → To w (device_form (k + 1) (drawn g) ∷ []) (Joined image (k + 1))
unfolding after_form in_range
device_to image k g w few j =
    one w (device_form (k + 1) (drawn g)) (Joined image (k + 1))
    (no_cause w (device_form (k + 1) (drawn g)) (record { comes = j.takes _; ranges = ranged; fits = rw j.count same }) refl refl refl refl refl refl refl)
    (record {
      server = ap (λ (s : ServerState). first_server s.image plan') j.server;
      plan = record { size = j.plan.size; parity = j.plan.parity; index = j.plan.index; group = j.plan.group };
      time = j.time;
      takes = λ dev. refl;
      events = λ some. takes_first_event;
      keys = rw length-append (ap (λ (i : ℕ). i + 1) j.keys);
      count = rw length-append (ap (λ (i : ℕ). i + 1) j.count);
      sent = j.sent;
      ups = j.ups;
      each = each;
    })
  where
    plan' : Plan
    plan' = record w.server.plan { devices = w.server.plan.devices ++ record { key = replicate 16 0; root = V10 } ∷ [] }

    low : nat_le 1 (k + 1) ≡ true
    low = grind arith

    high : nat_le (k + 1) 64 ≡ true
    high = grind (arith, few)

    ranged : (nat_le 1 (k + 1) && nat_le (k + 1) 64 && nat_lt 1 (2 ^ 32) && nat_le 64 64 && nat_lt (drawn g) (2 ^ 32)) ≡ true
    ranged = rw (low, high, drawn_small g) refl

    same : (k + 1 == k + 1) ≡ true
    same = grind arith

    new : DeviceState
    new = device_of (seed_device (k + 1) (drawn g))

    each : (n : ℕ) → 1 ≤ n → n ≤ k + 1 → (d : DeviceState) × (numbered (w.devices ++ new ∷ []) n ≡ Some d) × IsNew d
    each n l h = by (n == k + 1) refl
      where
        by : (b : Bool) → (n == k + 1) ≡ b → (d : DeviceState) × (numbered (w.devices ++ new ∷ []) n ≡ Some d) × IsNew d
        by true is = (
          new,
          numbered_last w.devices new n (grind (arith, is, j.count)),
          record {
            plain = record {
              config = record { class = refl; hw = refl; rows = refl; descriptor = refl; sessions = refl; area = refl; memory = refl; size = refl };
              reboot = refl;
              outbox = refl;
            };
            session = refl;
            version = refl;
          },
        )
        by false is = let o = j.each n l (grind (arith, is, h)) in (o.0, numbered_more w.devices (new ∷ []) n o.0 o.1, o.2)

devices_to : (image : List ℕ) (k left g : ℕ) (w : WorldState) → k + left ≡ 8 → Joined image k w → To w (forms_of_devices g (k + 1) left) (Joined image 8)
unfolding forms_of_devices
devices_to image k zero g w sum j = let all : k ≡ 8 = omega (arith, sum) in none w (Joined image 8) (subst (λ (i : ℕ). Joined image i w) all j)
devices_to image k (suc left) g w sum j =
    both w (device_form (k + 1) (drawn g) ∷ []) (forms_of_devices (stepped g) (k + 1 + 1) left) (Joined image (k + 1)) (Joined image 8)
    (device_to image k g w (omega (arith, sum)) j) (λ v j'. devices_to image (k + 1) left (stepped g) v (omega (arith, sum)) j')

had_none : (each n : ℕ) → 1 ≤ n → had each 0 0 n ≡ 0
had_none each n low = let past : nat_le n 0 ≡ false = grind (arith, low) in rw past (by (n == 0 + 1))
  where
    by : (b : Bool) → cond b zero zero ≡ zero
    by true = refl
    by false = refl

had_all : (each n : ℕ) → n ≤ 8 → had each 8 0 n ≡ each
had_all each n high = let inside : nat_le n 8 ≡ true = grind (arith, high) in rw inside refl

joined_stand : (image : List ℕ) (w : WorldState) → Joined image 8 w → Stand image 0 0 1 (AtTurn (Early image) 2 0 0) w
joined_stand image w j = record {
  seed = record { image_is = ap (λ (s : ServerState). s.image) j.server; plan_is = j.plan; time_is = j.time };
  count = j.count;
  stages = ap (λ (s : ServerState). length s.stages) j.server ∙ all_there;
  takes = j.events (omega arith);
  sent = ap (λ (ss : List SentPayload). length ss) j.sent;
  ups = ap (λ (us : List NumberedUplink). length us) j.ups;
  next = ap (λ (s : ServerState). s.next) j.server;
  frags = λ n l h. absurd (omega (arith, l, h));
  each = λ n l h. (let o = j.each n l h in (
    o.0,
    At request.Version,
    record {
      device = o.1;
      stage = ap (λ (s : ServerState). numbered s.stages n) j.server ∙ numbered_replicate (length w.server.plan.devices) n (At request.Version) l (omega (arith, h, j.keys));
      key = numbered_up_to w.server.plan.devices n l (omega (arith, h, j.keys));
      holds = subst (λ (i : ℕ). Early image i o.0 (At request.Version)) (sym (had_none 2 n l)) (refl, o.2);
    },
  ));
}
  where
    long : {A : Type 0} (count : ℕ) (x : A) → length (replicate count x) ≡ count
    long zero x = refl
    long (suc count) x = let more = long count x in cc

    all_there : length (replicate (length w.server.plan.devices) (At request.Version)) ≡ 8
    all_there = long (length w.server.plan.devices) (At request.Version) ∙ j.keys

-- ---- a device that was given all fragments

-- uncoded fragments among those that it heard
all_uncoded : (image : List ℕ) (x : Session) (fs : List Fragment) → IsMade image → IsOurs image x → AllByRecursion (IsFragmentOf image 64) fs
    → AllByRecursion (λ (f : Fragment). f.number ≤ count_of image) fs → AllByRecursion (IsUncoded (shape_of x)) fs
all_uncoded image x [] made ours are low = tt
all_uncoded image x (f ∷ fs) made ours are low = (uncoded_is image x f made.bytes ours are.0 low.0, all_uncoded image x fs made ours are.1 low.1)

enough_rows : (image : List ℕ) (x : Session) (newer older : List Fragment) (mark : ℕ) → IsMade image → IsOurs image x → x.heard ≡ newer ++ older
    → AllByRecursion (λ (f : Fragment). f.number ≤ count_of image) older → count_of image ≤ pieces_in (count_of image) older + 64 → (seen_of x).verdict ≢ shown.NoRows mark
unfolding shape_of direct
enough_rows image x newer older mark made ours parted low known =
    let count : x.setup.nb_frag ≡ count_of image = ap (λ (r : SetupReq). r.nb_frag) ours.set.setup in
    let are = behind (IsFragmentOf image 64) newer older (subst (AllByRecursion (IsFragmentOf image 64)) parted ours.set.heard) in
    rows_suffice image x newer older mark made.bytes ours parted (all_uncoded image x older made ours are low)
    (subst (λ (m : ℕ). m ≤ direct_of m (numbers_of older) + 64) (sym count) known)

-- it heard enough for its rows
late_by : (image : List ℕ) (d : DeviceState) (x : Session) (v : Shown) → IsMade image → IsHearing image x d → (seen_of x).verdict ≡ v
    → ((mark : ℕ) → (seen_of x).verdict ≡ shown.NoRows mark → ⊥) → Late image 0 d (At request.Status)
late_by image d x shown.Receiving made h is rows = (x, record { plain = h.plain; session = h.session; ours = h.ours; how = inl (is, refl) })
late_by image d x (shown.Complete mark) made h is rows =
    (x, record { plain = h.plain; session = h.session; ours = h.ours; how = inr (mark, is, (refl, h.next mark is)) })
late_by image d x (shown.NoRows mark) made h is rows = absurd (rows mark is)
late_by image d x (shown.Conflict mark) made h is rows = absurd (no_conflict image cut x mark made.bytes h.ours.set is)

all_late : (image : List ℕ) (d : DeviceState) (s : Stage) → IsMade image → HeardAll image d s → Late image 0 d s
all_late image d s made (skipped, (at, (x, h, (newer, older, order)))) =
    subst (Late image 0 d) (sym at) (late_by image d x (seen_of x).verdict made h refl rows)
  where
    known : count_of image ≤ pieces_in (count_of image) older + 64
    known = ⊎_elim (λ e. omega (arith, e, order.few)) (λ e. omega (arith, e, order.few)) order.enough

    rows : (mark : ℕ) → (seen_of x).verdict ≡ shown.NoRows mark → ⊥
    rows mark over = enough_rows image x newer older mark made h.ours order.parted order.uncoded known over

-- ---- the end

pub record Done (image : List ℕ) (w : WorldState) : Type 0 where
  pub section : w.section ≡ section.Ended
  pub sent : length w.sent ≡ 16 + (count_of image + 128) + 32
  pub ups : length w.uplinks ≡ 48
  pub count : length w.devices ≡ 8
  pub each : (n : ℕ) → 1 ≤ n → n ≤ 8 → (d : DeviceState) × (s : Stage) × IsOne (AtTurn (Late image) 4 8 0) w n d s

end_to : (image : List ℕ) (from : ℕ) (w : WorldState) → Stand image (16 + (count_of image + 128) + 32) 48 from (AtTurn (Late image) 4 8 0) w → To w (End ∷ []) (Done image)
unfolding after_form in_range
end_to image from w k =
    one w End (Done image) (no_cause w End (record { comes = k.takes.end; ranges = refl; fits = refl }) refl refl refl refl refl refl refl)
    (record {
      section = refl;
      sent = k.sent;
      ups = k.ups;
      count = k.count;
      each = λ n l h. (let o = k.each n l h in (o.0, o.1, record { device = o.2.device; stage = o.2.stage; key = o.2.key; holds = o.2.holds }));
    })

all_to : (image : List ℕ) (g : ℕ) → IsMade image → count_of image ≤ 129 → To (first_world image) (forms_from g (count_of image)) (Done image)
unfolding forms_from
all_to image g made few =
    let m : ℕ = count_of image in
    let rest_5 : List Form = forms_of_rounds 4 1 (16 + (m + 128) + 1) 17 8 ++ End ∷ [] in
    let rest_4 : List Form = forms_of_deliveries m (after_draws g 8) 1 8 ++ rest_5 in
    let rest_3 : List Form = forms_of_frags (m + 128) ++ rest_4 in
    let rest_2 : List Form = forms_of_rounds 2 1 1 1 8 ++ rest_3 in
    let rest_1 : List Form = forms_of_devices g 1 8 ++ rest_2 in
    both (first_world image) (Header ∷ Image 64 128 0 ∷ []) rest_1 (Joined image 0) (Done image) (start image few)
    (λ a joined. both a (forms_of_devices g 1 8) rest_2 (Joined image 8) (Done image) (devices_to image 0 8 g a refl joined)
    (λ b all. both b (forms_of_rounds 2 1 1 1 8) rest_3 (Stand image 16 16 1 (AtTurn (Early image) 2 8 0)) (Done image)
    (rounds_to image 2 (Early image) 0 8 0 0 1 16 16 b (early_turns image made) refl refl refl (joined_stand image b all))
    (λ c set. both c (forms_of_frags (m + 128)) rest_4 (Stand image (16 + (m + 128)) 16 (m + 129) (AtTurn (Early image) 2 8 0)) (Done image)
    (frags_to image 16 (AtTurn (Early image) 2 8 0) 16 1 (m + 128) (16 + (m + 128)) (m + 129) c refl (omega arith) (omega arith) refl (omega arith) set)
    (λ d sent. both d (forms_of_deliveries m (after_draws g 8) 1 8) rest_5 (Stand image (16 + (m + 128)) 16 (m + 129) (Between image 8)) (Done image)
    (deliveries_to image made (16 + (m + 128)) 16 0 8 (after_draws g 8) d refl
    (stand_within image (16 + (m + 128)) 16 (m + 129) (AtTurn (Early image) 2 8 0) (Between image 0) d
    (λ n x s low high e. record { done = λ none. absurd (omega (arith, low, none)); rest = λ past. subst (λ (i : ℕ). Early image i x s) (had_all 2 n high) e }) sent))
    (λ e heard. both e (forms_of_rounds 4 1 (16 + (m + 128) + 1) 17 8) (End ∷ []) (Stand image (16 + (m + 128) + 32) 48 (m + 129) (AtTurn (Late image) 4 8 0)) (Done image)
    (rounds_to image 4 (Late image) 0 8 (16 + (m + 128)) 16 (m + 129) (16 + (m + 128) + 32) 48 e (late_turns image made) refl refl refl
    (stand_within image (16 + (m + 128)) 16 (m + 129) (Between image 8) (AtTurn (Late image) 4 0 0) e
    (λ n x s low high b. subst (λ (i : ℕ). Late image i x s) (sym (had_none 4 n low)) (all_late image x s made (b.done high))) heard))
    (λ f late. end_to image (m + 129) f late))))))

-- ---- what the devices come to

stage_tells : (image : List ℕ) (d : DeviceState) (s : Stage) → Late image 4 d s → is_updated s ≡ has_file (view_of d.sessions.first)
unfolding view_of
stage_tells image d s (x, h) = by h.how
  where
    by : (((seen_of x).verdict ≡ shown.Receiving) × (s ≡ At request.Status)) ⊎ ((mark : ℕ) × ((seen_of x).verdict ≡ shown.Complete mark) × AtStage image 4 d s)
        → is_updated s ≡ has_file (view_of d.sessions.first)
    by (inl (receives, is)) = rw (h.session, is, receives) refl
    by (inr (mark, whole, is)) = rw (h.session, is, whole) refl

first_number : {A : Type 0} (xs : List A) (n : ℕ) (x : A) → numbered xs n ≡ Some x → 1 ≤ n
first_number xs n x is = by (n == 0) refl is
  where
    by : (b : Bool) → (n == 0) ≡ b → cond b None (slice_get xs (n - 1)) ≡ Some x → 1 ≤ n
    by true empty there = absurd cc
    by false other there = grind (arith, other)

updated_at : (image : List ℕ) (w : WorldState) → Done image w → (id : ℕ) (s : Stage) (d : DeviceState) → numbered w.server.stages id ≡ Some s → numbered w.devices id ≡ Some d
    → is_updated s ≡ has_file (view_of d.sessions.first)
updated_at image w done id s d stage device =
    let low = first_number w.devices id d device in
    let high : id ≤ 8 = (let inside = within w.devices id d device in omega (arith, inside, done.count)) in
    let o = done.each id low high in
    let same_device : o.0 ≡ d = (let e : Some o.0 ≡ Some d = sym o.2.device ∙ device in cc) in
    let same_stage : o.1 ≡ s = (let e : Some o.1 ≡ Some s = sym o.2.stage ∙ stage in cc) in
    let late : Late image 4 o.0 o.1 = subst (λ (i : ℕ). Late image i o.0 o.1) (had_all 4 id high) o.2.holds in
    stage_tells image d s (subst (λ (x : DeviceState). Late image 4 x s) same_device (subst (λ (y : Stage). Late image 4 o.0 y) same_stage late))

-- an item by its number
numbered_at : {A : Type 0} (xs : List A) (i : ℕ) (x : A) → slice_get xs i ≡ Some x → numbered xs (i + 1) ≡ Some x
numbered_at xs i x there =
    let some : (i + 1 == 0) ≡ false = grind arith in
    let back : i + 1 - 1 ≡ i = omega arith in
    rw (some, back) there

-- as many are counted
abbrev Agree : List Stage → List DeviceState → Type 0
Agree stages ds = (i : ℕ) (s : Stage) (d : DeviceState) → slice_get stages i ≡ Some s → slice_get ds i ≡ Some d → is_updated s ≡ has_file (view_of d.sessions.first)

counted_alike : (totals : Totals) (stages : List Stage) (ds : List DeviceState) → totals.updated ≡ totals.complete → Agree stages ds
    → (totals_from totals stages ds).updated ≡ (totals_from totals stages ds).complete
unfolding totals_from with_device
counted_alike totals [] ds is agree = is
counted_alike totals (s ∷ stages) [] is agree = is
counted_alike totals (s ∷ stages) (d ∷ ds) is agree =
    counted_alike (with_device totals s d) stages ds (rw (is, agree 0 s d refl refl) refl) (λ i x y. agree (suc i) x y)

pub generated : AllSeedsHaveCampaigns
unfolding forms_of campaign_of sent_of
generated seed =
    let image : List ℕ = image_of seed in
    let few : count_of image ≤ 129 = (let t = div_ceil_times (length image) 64 (omega arith) in omega (arith, t.1, (image_made seed).high)) in
    let t = all_to image (after_image seed) (image_made seed) few in
    let plays : Plays (first_world image) (forms_of seed) t.0 = subst (λ (m : ℕ). Plays (first_world image) (forms_from (after_image seed) m) t.0) (count_is seed) t.1 in
    let spelled = lines_spell_forms seed in
    let read : read_lines (Ok (first_world image)) (said_in (script_of seed)) ≡ Ok t.0 =
    lines_read (lines_of (script_of seed)) (forms_of seed) (first_world image) t.0 spelled.spelled spelled.short (omega (arith, spelled.few)) plays in (
      t.0,
      record {
        accepted = ap end_result read ∙ rw (t.2.section) refl;
        sent = t.2.sent ∙ ap (λ (m : ℕ). 16 + (m + 128) + 32) (count_is seed);
        uplinks = t.2.ups;
        devices = t.2.count;
        updated = updated_at image t.0 t.2;
        as_many = counted_alike nothing_counted t.0.server.stages t.0.devices refl (λ i s d stage device. updated_at image t.0 t.2 (i + 1) s d (numbered_at t.0.server.stages i s stage) (numbered_at t.0.devices i d device));
      },
    )
