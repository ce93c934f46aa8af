-- What a plan without a wrong field is.
use Rattle.std.proofs.Common.{◌≡◌, ℕ, zero, suc, ◌≤◌, ◌<◌, Bool, true, false, not, cond, ◌&&◌, nat_le, nat_lt, ◌^◌, Option, Some, None, Ok, List, length, replicate, slice_set, ◌-◌, inl, inr, refl, sym, ap, ◌∙◌, arith}
use Rattle.std.proofs.lemmas.List.{length-replicate}
use Rattle.std.proofs.lemmas.Bool.{leb-true, ltb-true, ltb-false}
use Rattle.std.proofs.lemmas.Bool.Decides.{nat_tests}
use Rattle.frag_encoder.specs.Encoding.{Encoding, IsBadSize, nb_frag_of}
use Rattle.image_slots.specs.Image.{is_image}
use Rattle.campaign_server.specs.declared.plan.Kind.{Kind}
use Rattle.campaign_server.specs.declared.plan.Kind.TheVariants as kind
use Rattle.campaign_server.specs.declared.plan.PlanGroup.{PlanGroup}
use Rattle.campaign_server.specs.declared.plan.PlanWindow.{PlanWindow}
use Rattle.campaign_server.specs.declared.plan.Field.{Field}
use Rattle.campaign_server.specs.declared.plan.Field.TheVariants.{FragSize, Parity, Index, Group, Window, Devices}
use Rattle.package_grammar.specs.declared.command.Command.{Command}
use Rattle.campaign_server.specs.declared.plan.PlanDevice.{PlanDevice}
use Rattle.campaign_server.specs.declared.stage.LastStatus.{LastStatus}
use Rattle.campaign_server.specs.declared.stage.Stage.{Stage}
use Rattle.campaign_server.specs.declared.stage.Stage.TheVariants.{At}
use Rattle.campaign_server.specs.declared.stage.Request.TheVariants.{Version}
use Rattle.campaign_server.specs.Server.{ServerState, IsCount, ledger, last_status, first_count}
use Rattle.wire_base.specs.Numbered.{numbered}
use Rattle.campaign_server.specs.Asking.{request_at, request_of, by_unicast}
use Rattle.campaign_server.specs.Answers.{stage_after_all}
use Rattle.campaign_server.specs.Statuses.{status_after_all}
use Rattle.campaign_server.specs.Time.{time_answer}
use Rattle.campaign_server.specs.Uplinks.{read_uplink}
use Rattle.frag_model.specs.Limits.{max_frag_size, max_pieces}
use Rattle.campaign_server.specs.Plan.{Plan, bad_field, is_frag_size, is_group, is_kind, fits_bits, is_window, max_parity, max_devices, max_index}
use Rattle.campaign_server.specs.ServerInside.{KindFits, WindowFits, GroupFits, IsPlan, IsServer}

-- a test that fails names no field
passed : (test : Bool) (field : Field) (rest : Option Field) → cond test (Some field) rest ≡ None → (test ≡ false) × (rest ≡ None)
passed true field rest is = absurd cc
passed false field rest is = (refl, is)

holds : (test : Bool) → not test ≡ false → test ≡ true
holds true is = refl
holds false is = absurd cc

pub both : (a b : Bool) → (a && b) ≡ true → (a ≡ true) × (b ≡ true)
both true b is = (refl, is)
both false b is = absurd cc

group_fits : (group : Option PlanGroup) → is_group group ≡ true → GroupFits group
group_fits None is = tt
group_fits (Some group) is =
    let parts = both (nat_lt group.min group.max) (nat_le group.id max_index) is in
    (ltb-true group.min group.max parts.0, leb-true group.id max_index parts.1)

kind_fits : (k : Kind) → is_kind k ≡ true → KindFits k
kind_fits kind.C is = tt
kind_fits (kind.B periodicity) is = grind (arith, nat_tests)

window_of : (window : PlanWindow) → fits_bits window ≡ true → WindowFits (Some window)
window_of window is =
    let a = both _ _ is in
    let b = both _ _ a.0 in
    let c = both _ _ b.0 in
    let d = both _ _ c.0 in
    let timeout : window.timeout < 16 = omega (arith, leb-true window.timeout 15 c.1) in
    (timeout, ltb-true window.freq (2 ^ 24) b.1, kind_fits window.kind d.0)

window_fits : (group : Option PlanGroup) (window : Option PlanWindow) → is_window group window ≡ true → WindowFits window
window_fits None None is = tt
window_fits None (Some window) is = absurd cc
window_fits (Some group) None is = absurd cc
window_fits (Some group) (Some window) is = window_of window is

pub plan_of_fine : (len : ℕ) (plan : Plan) → bad_field len plan ≡ None → IsPlan len plan
unfolding bad_field
plan_of_fine len plan is =
    let a = passed (not (is_frag_size len plan.frag_size)) FragSize _ is in
    let b = passed (nat_lt max_parity plan.parity) Parity _ a.1 in
    let i = passed (nat_lt max_index plan.index) Index _ b.1 in
    let c = passed (not (is_group plan.group)) Group _ i.1 in
    let d = passed (not (is_window plan.group plan.window)) Window _ c.1 in
    let e = passed (not (nat_le 1 (length plan.devices) && nat_le (length plan.devices) max_devices)) Devices _ d.1 in
    let size = both _ _ (holds _ a.0) in
    let low = both _ _ size.0 in
    let count = both _ _ (holds _ e.0) in
    record {
      some = leb-true 1 plan.frag_size low.0;
      fits = leb-true plan.frag_size max_frag_size low.1;
      number = leb-true (nb_frag_of len plan.frag_size) max_pieces size.1;
      few = ltb-false max_parity plan.parity b.0;
      indexed = ltb-false max_index plan.index i.0;
      group_fits = group_fits plan.group (holds _ c.0);
      window_fits = window_fits plan.group plan.window (holds _ d.0);
      devices = leb-true (length plan.devices) max_devices count.1;
    }

pub plan_of_none : (len : ℕ) (plan : Plan) (field : Option Field) → field ≡ bad_field len plan → field ≡ None → IsPlan len plan
plan_of_none len plan field is none = plan_of_fine len plan (sym is ∙ none)

-- the sizes of a fine plan are none that an encoder refuses
pub cuts_well : (len : ℕ) (plan : Plan) → IsPlan len plan → 49 ≤ len → IsBadSize len plan.frag_size → ⊥
cuts_well len plan fine long (inl none) = omega (arith, none, long)
cuts_well len plan fine long (inr (inl none)) = omega (arith, none, fine.some)
cuts_well len plan fine long (inr (inr (inl large))) = omega (arith, large, fine.fits)
cuts_well len plan fine long (inr (inr (inr many))) = omega (arith, many, fine.number)

pub count_fits : (group : Option PlanGroup) → GroupFits group → IsCount group (first_count group)
count_fits None fits = refl
count_fits (Some group) fits = (omega arith, omega (arith, fits.0))

-- what a server keeps is true at its start
pub starts : (plan : Plan) (encoder : Encoding) (stages : List Stage) (statuses : List (Option LastStatus)) (count : ℕ) → is_image encoder.file ≡ true → IsPlan (length encoder.file) plan → encoder.frag_size ≡ plan.frag_size
    → stages ≡ replicate (length plan.devices) (At Version) → statuses ≡ replicate (length plan.devices) None
    → count ≡ first_count plan.group → IsServer plan encoder stages statuses 1 count
starts plan encoder stages statuses count image fine cuts are none is = record {
  cut = record { image_is = image; fine = fine; cuts = cuts };
  staged = ap length are ∙ length-replicate (length plan.devices) (At Version);
  told = ap length none ∙ length-replicate (length plan.devices) None;
  low = omega arith;
  high = omega arith;
  counted = rw is (count_fits plan.group fine.group_fits);
}

-- ---- calls

-- what is asked of a device that is numbered
pub asked_of : (server : ServerState) (dev : ℕ) (device : PlanDevice) (stage : Stage) → numbered server.plan.devices dev ≡ Some device → ledger server dev ≡ Some stage
    → request_of server dev ≡ by_unicast (request_at server.plan server.image device stage)
unfolding request_of
asked_of server dev device stage numbers stands = rw (numbers, stands) refl

-- the server after a message of a device that is numbered
pub moved_by : (server : ServerState) (dev t : ℕ) (cs : List Command) (stage : Stage) (told : Option LastStatus)
    → ledger server dev ≡ Some stage → last_status server dev ≡ Some told
    → (read_uplink server dev t (Ok cs)).server ≡ record server {
      stages = slice_set server.stages (dev - 1) (stage_after_all server.plan server.image stage cs);
      statuses = slice_set server.statuses (dev - 1) (status_after_all server.plan told cs);
    }
unfolding read_uplink
moved_by server dev t cs stage told stands tells = rw (stands, tells) refl

pub answered_by : (server : ServerState) (dev t : ℕ) (cs : List Command) → (read_uplink server dev t (Ok cs)).answer ≡ Ok (by_unicast (time_answer t cs))
unfolding read_uplink
answered_by server dev t cs = refl

-- a mask has four bits
pub few_masks : (id : ℕ) → id ≤ 3 → 2 ^ id ≤ 8
few_masks zero few = omega arith
few_masks (suc zero) few = omega arith
few_masks (suc (suc zero)) few = omega arith
few_masks (suc (suc (suc zero))) few = omega arith
few_masks (suc (suc (suc (suc id)))) few = absurd (omega (arith, few))
