-- A device that is set up, and hears fragments of the image.
use Rattle.std.proofs.Common.{◌≡◌, ◌⊎◌, ℕ, ◌+◌, ◌*◌, ◌/◌, ◌^◌, ◌<◌, ◌≤◌, ◌==◌, nat_lt, nat_le, min, Bool, true, false, cond, List, [], ◌∷◌, length, All, None, Some, refl, sym, ap, ◌∙◌, subst, arith}
use Rattle.std.proofs.lemmas.Grind.{div_ceil_times}
use Rattle.frag_model.specs.Fragments.{Fragment}
use Rattle.frag_encoder.specs.Encoding.{nb_frag_of, padding_of, data_of}
use Rattle.row_elimination.specs.Room.{has_room, words_for}
use Rattle.frag_session.specs.declared.answers.Via.TheVariants as via
use Rattle.frag_session.specs.declared.answers.Verdict.{Verdict as Shown}
use Rattle.frag_session.specs.declared.answers.Verdict.TheVariants as shown
use Rattle.frag_session.specs.Setup.{setup_bits, wrong_coding, too_large, other_descriptor}
use Rattle.frag_session.specs.Session.{Session, new_session, followed, after_fragment, excludes, cause_of, drop_cause, seen_of, view_of, shown_verdict}
use Rattle.frag_session.specs.HeldHistory.{IsSetUp}
use Rattle.frag_model.specs.Verdict.{verdict}
use Rattle.image_slots.specs.declared.view.ImageState.TheVariants as state
use Rattle.image_slots.specs.Image.{is_image, format_of, lowest_of, highest_of, is_for, is_unknown, firmware_of, image_state}
use Rattle.image_slots.specs.Slots.{Slots, after_offer}
use Rattle.device_core.specs.Answers.{after_answers}
use Rattle.device_core.specs.Device.{DeviceState, room_of, limits_of, max_area, size_for}
use Rattle.frag_model.specs.Limits.{max_pieces}
use Rattle.device_core.specs.Firmware.{after_due_reboot}
use Rattle.device_core.specs.Fragments.{is_complete, slots_after, heard_step, fragment_step}
use Rattle.device_core.specs.Step.{command_step}
use Rattle.campaign_server.specs.declared.stage.Stage.{Stage}
use Rattle.campaign_server.specs.declared.stage.Stage.TheVariants.{At}
use Rattle.campaign_server.specs.declared.stage.Request.TheVariants as request
use Rattle.campaign_laws.proofs.HeadlineCommands.{setup_req, IsCut, fragment_sized, fragment_good, good_read}
use Rattle.campaign_laws.proofs.Stands.{fragment_command, behind}
use Rattle.campaign_laws.proofs.Devices.{IsPlain, at_of, delivered_is}
use Rattle.campaign_laws.proofs.Sessions.{cut, IsOurs, complete_is_image}
use Rattle.campaign_laws.proofs.Orders.{OrderOf, nothing_heard, order_skipped}

-- ---- the image of a seed

abbrev pub count_of : (image : List ℕ) → ℕ
count_of image = nb_frag_of (length image) 64

pub record IsMade (image : List ℕ) : Type 0 where
  pub bytes : All (λ b. b < 2 ^ 8) image
  pub format : format_of image ≡ 1
  pub lowest : lowest_of image ≡ 1
  pub highest : highest_of image ≡ 1
  pub firmware : firmware_of image < 2 ^ 32
  pub image_is : is_image image ≡ true
  pub low : 4145 ≤ length image
  pub high : length image ≤ 8240

pub record HasPieces (image : List ℕ) : Type 0 where
  pub low : 64 < count_of image
  pub high : count_of image ≤ 129
  pub whole : length image ≤ count_of image * 64
  pub last : count_of image * 64 < length image + 64

pub pieces : (image : List ℕ) → IsMade image → HasPieces image
pieces image made =
    let t = div_ceil_times (length image) 64 (omega arith) in
    record { low = omega (arith, t.0, made.low); high = omega (arith, t.1, made.high); whole = t.0; last = t.1 }

pub is_cut : (image : List ℕ) → IsMade image → IsCut image cut
is_cut image made = let h = pieces image made in record { some = omega arith; small = omega arith; few = omega (arith, h.high); indexed = omega arith; groups = omega arith }

-- ---- the setup

-- it is not refused
pub no_bits : (image : List ℕ) (d : DeviceState) → IsMade image → IsPlain d → setup_bits (limits_of d.config) (room_of d.config) (setup_req image cut) ≡ 0
unfolding setup_bits wrong_coding too_large other_descriptor has_room words_for
no_bits image d made plain =
    let h = pieces image made in
    let m : ℕ = count_of image in
    let a : (m == 0) ≡ false = grind (arith, h.low) in
    let b : nat_le 64 (padding_of (length image) 64) ≡ false = grind (arith, h.last) in
    let c : nat_lt max_pieces m ≡ false = grind (arith, h.high) in
    let e : min 64 m ≡ 64 = omega (arith, h.low) in
    let f : nat_le (64 * ((m + 63) / 64)) (size_for 64).words ≡ true = (let small : (m + 63) / 64 ≤ 3 = omega (arith, h.high) in grind (arith, small)) in
    let g : nat_le (m * 64) max_area ≡ true = grind (arith, h.high) in
    let n : nat_le m max_pieces ≡ true = grind (arith, h.high) in
    rw (plain.config.size, plain.config.sessions, plain.config.rows, plain.config.descriptor, plain.config.area, plain.config.memory, a, b, c, e, f, g, n) refl

pub record IsNew (d : DeviceState) : Type 0 where
  pub plain : IsPlain d
  pub session : d.sessions.first ≡ None
  pub version : d.slots.version ≡ 0

-- its session is set up, and heard nothing
pub record IsReady (image : List ℕ) (d : DeviceState) : Type 0 where
  pub plain : IsPlain d
  pub session : d.sessions.first ≡ Some (new_session (limits_of d.config) (setup_req image cut))

set_up : (image : List ℕ) → IsMade image → IsSetUp (setup_req image cut)
set_up image made = let h = pieces image made in record { some = omega (arith, h.low); sized = omega arith; short = omega (arith, h.last) }

new_is_ours : (image : List ℕ) (d : DeviceState) → IsMade image → IsPlain d → IsOurs image (new_session (limits_of d.config) (setup_req image cut))
unfolding new_session
new_is_ours image d made plain =
    let rows : min d.config.rows (count_of image) ≡ 64 = omega (arith, plain.config.rows, (pieces image made).low) in
    record { set = record { setup = refl; makes = set_up image made; heard = tt }; rows = rows }

-- ---- a device that hears

-- of its session the fragments that it heard are the image's, and with the whole file its next slot has the image
pub record IsHearing (image : List ℕ) (x : Session) (d : DeviceState) : Type 0 where
  pub plain : IsPlain d
  pub session : d.sessions.first ≡ Some x
  pub ours : IsOurs image x
  pub next : (mark : ℕ) → (seen_of x).verdict ≡ shown.Complete mark → d.slots.next ≡ state.Valid (firmware_of image)

-- it hears in order, and waits for the request of its status
abbrev pub Hears : (image : List ℕ) (m skipped : ℕ) → DeviceState → Stage → Type 0
Hears image m skipped d s = (s ≡ At request.Status) × ((x : Session) × IsHearing image x d × OrderOf (count_of image) m skipped x.heard)

-- nothing was heard yet
pub ready_hears : (image : List ℕ) (d : DeviceState) (s : Stage) → IsMade image → s ≡ At request.Status → IsReady image d → Hears image 1 0 d s
unfolding new_session seen_of verdict shown_verdict
ready_hears image d s made at ready = (
  at,
  (
    new_session (limits_of d.config) (setup_req image cut),
    record { plain = ready.plain; session = ready.session; ours = new_is_ours image d made ready.plain; next = λ mark whole. absurd cc },
    nothing_heard (count_of image),
  ),
)

pub skip_hears : (image : List ℕ) (m skipped : ℕ) (d : DeviceState) (s : Stage) → 1 ≤ m → (count_of image < m) ⊎ (skipped < 60) → Hears image m skipped d s
    → Hears image (m + 1) (cond (nat_le m (count_of image)) (skipped + 1) skipped) d s
skip_hears image m skipped d s low may (at, (x, h, order)) = (at, (x, h, order_skipped (count_of image) m skipped x.heard low order may))

-- ---- a fragment

-- what its fragments make of a device
abbrev pub heard_by : (image : List ℕ) (x : Session) (n mark : ℕ) → DeviceState → DeviceState
heard_by image x n mark d =
    let y = followed x n (data_of image 64 n) mark in
    record d {
      sessions = record d.sessions { first = Some y };
      slots = slots_after d.config.hw (is_complete (seen_of x).verdict) (cond (is_complete (seen_of y).verdict) (Some (seen_of y).file) None) d.slots;
      outbox = [];
    }

not_dropped : (image : List ℕ) (x : Session) (n : ℕ) → IsMade image → IsOurs image x → 1 ≤ n → n ≤ count_of image + 128
    → drop_cause (Some x) via.Unicast n (data_of image 64 n) ≡ None
unfolding drop_cause cause_of excludes
not_dropped image x n made ours low high =
    let some : (n == 0) ≡ false = grind (arith, low) in
    let few : nat_lt (count_of image + 8380) n ≡ false = grind (arith, high) in
    let sized : (length (data_of image 64 n) == 64) ≡ true = grind (arith, fragment_sized image 64 n (omega arith)) in
    rw (ours.set.setup, some, few, sized) refl

-- a session that is not dropped follows
fragment_made : (image : List ℕ) (d : DeviceState) (x : Session) (n mark : ℕ) → d.sessions.first ≡ Some x
    → drop_cause (Some x) via.Unicast n (data_of image 64 n) ≡ None → d.outbox ≡ []
    → after_answers (command_step (at_of mark (fragment_command image n)) d (fragment_command image n)) ≡ heard_by image x n mark d
unfolding command_step fragment_step heard_step after_answers after_fragment view_of
fragment_made image d x n mark session kept empty = rw (session, kept, empty) refl

no_reboot : (d : DeviceState) → d.reboot ≡ None → after_due_reboot 0 d ≡ d
unfolding after_due_reboot
no_reboot d unset = rw unset refl

pub fragment_behind : (image : List ℕ) (d : DeviceState) (x : Session) (n mark : ℕ) → IsMade image → IsHearing image x d → 1 ≤ n → n ≤ count_of image + 128
    → behind mark (fragment_command image n) d ≡ heard_by image x n mark d
fragment_behind image d x n mark made h low high =
    let good = fragment_good image cut n (is_cut image made) (low, omega (arith, high)) in
    delivered_is (fragment_command image n) d mark h.plain (good_read (fragment_command image n) good) (omega arith)
    ∙ ap (after_due_reboot 0) (fragment_made image d x n mark h.session (not_dropped image x n made h.ours low high) h.plain.outbox)
    ∙ no_reboot (heard_by image x n mark d) h.plain.reboot

-- the file that is offered is the image
valid_next : (image : List ℕ) (formats : ℕ) → IsMade image → image_state image 1 formats ≡ state.Valid (firmware_of image)
unfolding image_state is_unknown is_for
valid_next image formats made = rw (made.image_is, made.format, made.lowest, made.highest) refl

complete_by : (v : Shown) → is_complete v ≡ true → (mark : ℕ) × (v ≡ shown.Complete mark)
complete_by shown.Receiving is = absurd cc
complete_by (shown.Complete mark) is = (mark, refl)
complete_by (shown.NoRows mark) is = absurd cc
complete_by (shown.Conflict mark) is = absurd cc

next_by : (image file : List ℕ) (slots : Slots) (hw : ℕ) (was : Bool) → IsMade image → hw ≡ 1 → file ≡ image
    → (was ≡ true → slots.next ≡ state.Valid (firmware_of image)) → (slots_after hw was (Some file) slots).next ≡ state.Valid (firmware_of image)
unfolding after_offer
next_by image file slots hw true made one is before = before refl
next_by image file slots hw false made one is before = rw (one, is) (valid_next image slots.formats made)

pub hears_fragment : (image : List ℕ) (n m m' skipped : ℕ) (d : DeviceState) (s : Stage) → IsMade image → 1 ≤ n → n ≤ count_of image + 128
    → ((heard : List Fragment) (f : Fragment) → f.number ≡ n → OrderOf (count_of image) m skipped heard → OrderOf (count_of image) m' skipped (f ∷ heard))
    → Hears image m skipped d s → (mark : ℕ) → ((behind mark (fragment_command image n) d).outbox ≡ []) × Hears image m' skipped (behind mark (fragment_command image n) d) s
unfolding followed
hears_fragment image n m m' skipped d s made low high go (at, (x, h, order)) mark =
    let is = fragment_behind image d x n mark made h low high in
    (ap (λ (z : DeviceState). z.outbox) is, (at, (y, subst (IsHearing image y) (sym is) hearing, go x.heard f refl order)))
  where
    f : Fragment
    f = record { number = n; part = data_of image 64 n; mark = mark }

    y : Session
    y = followed x n (data_of image 64 n) mark

    ours : IsOurs image y
    ours = record {
      set = record {
        setup = h.ours.set.setup;
        makes = h.ours.set.makes;
        heard = (record { first = low; last = omega (arith, high); part = refl }, h.ours.set.heard);
      };
      rows = h.ours.rows;
    }

    hearing : IsHearing image y (heard_by image x n mark d)
    hearing = record {
      plain = record {
        config = h.plain.config;
        reboot = h.plain.reboot;
        outbox = refl;
      };
      session = refl;
      ours = ours;
      next = λ at whole.
          rw whole (next_by image (seen_of y).file d.slots d.config.hw (is_complete (seen_of x).verdict) made h.plain.config.hw (complete_is_image image y at made.bytes ours whole)
          (λ was. let r = complete_by (seen_of x).verdict was in h.next r.0 r.1));
    }
