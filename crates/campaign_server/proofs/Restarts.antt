-- What holds of a server holds after each of its calls, and through restarts.
use Rattle.std.proofs.Common.{◌≡◌, ℕ, ◌+◌, ◌^◌, ◌<◌, ◌≤◌, Bool, true, false, nat_lt, List, [], ◌∷◌, length, ◌-◌, Option, Some, None, Ok, Err, refl, ap, ◌∙◌, subst, arith}
use Rattle.std.proofs.lemmas.Bool.{eqb-false, ltb-false}
use Rattle.std.proofs.lemmas.List.{length-set, length-replicate}
use Rattle.package_grammar.specs.declared.command.Command.{Command}
use Rattle.package_grammar.specs.Reading.{Reading, reading_of}
use Rattle.wire_base.specs.declared.refusal.Direction.TheVariants.{Up}
use Rattle.campaign_server.specs.declared.plan.PlanGroup.{PlanGroup}
use Rattle.campaign_server.specs.declared.stage.Stage.{Stage}
use Rattle.campaign_server.specs.declared.stage.Stage.TheVariants.{At}
use Rattle.campaign_server.specs.declared.stage.Request.TheVariants.{Version}
use Rattle.campaign_server.specs.Answers.{stage_after_all}
use Rattle.campaign_server.specs.Statuses.{status_after_all}
use Rattle.campaign_server.specs.Plan.{Plan, bad_field}
use Rattle.campaign_server.specs.Server.{ServerState, IsCount, ledger, last_status, first_server, first_count}
use Rattle.campaign_server.specs.Fragments.{has_no_count, last_fragment, next_count, next_fragment, after_fragment, status_to_all, after_status_to_all}
use Rattle.campaign_server.specs.Uplinks.{told_or_none, with_answers, read_uplink, uplink_step}
use Rattle.campaign_server.specs.Counts.{Call, NextFragment, StatusAll, Uplink, after_call}
use Rattle.campaign_server.specs.Saving.{IsOver}
use Rattle.campaign_server.specs.Restarts.{Told, told_by, all_told, after_calls, Step, Calls, Restarts, calls_of, IsRestored, Leads, HasWidth, LastsThroughRestarts}
use Rattle.campaign_server.proofs.Plans.{plan_of_fine, count_fits}
use Rattle.campaign_server.proofs.SavedBytes.{told_apart}

-- ---- a count

narrow : (group : Option PlanGroup) (count : ℕ) → HasWidth group → IsCount group count → count < 2 ^ 32
narrow None count wide is = omega (arith, is)
narrow (Some group) count wide is = omega (arith, wide, is.1)

counts_on : (group : Option PlanGroup) (count : ℕ) → IsCount group count → has_no_count group count ≡ false
    → IsCount group (next_count group count)
counts_on None count is free = is
counts_on (Some group) count is free = (omega (arith, is.0), omega (arith, is.1, eqb-false count group.max free))

-- ---- a call

starts_over : (plan : Plan) (image : List ℕ) → bad_field (length image) plan ≡ None → HasWidth plan.group
    → IsOver plan image (first_server image plan)
starts_over plan image fine wide =
    let is = count_fits plan.group (plan_of_fine (length image) plan fine).group_fits in
    record {
      plan_is = refl;
      image_is = refl;
      fine = fine;
      staged = length-replicate (length plan.devices) (At Version);
      told = length-replicate (length plan.devices) None;
      low = omega arith;
      high = omega arith;
      counted = is;
      four_bytes = narrow plan.group (first_count plan.group) wide is;
    }

-- with another next fragment that is one of those, and its next count
sends_on : (plan : Plan) (image : List ℕ) (server : ServerState) (next : ℕ) → HasWidth plan.group → IsOver plan image server
    → 1 ≤ next → next ≤ last_fragment server + 1 → has_no_count server.plan.group server.count ≡ false
    → IsOver plan image (record server { next = next; count = next_count server.plan.group server.count })
sends_on plan image server next wide over low high free =
    let is : IsCount plan.group (next_count server.plan.group server.count) =
    rw over.plan_is (counts_on plan.group server.count over.counted (rw over.plan_is at free)) in
    record {
      plan_is = over.plan_is;
      image_is = over.image_is;
      fine = over.fine;
      staged = over.staged;
      told = over.told;
      low = low;
      high = high;
      counted = is;
      four_bytes = narrow plan.group _ wide is;
    }

over_fragment : (plan : Plan) (image : List ℕ) (server : ServerState) (spent used : Bool) → HasWidth plan.group → IsOver plan image server
    → nat_lt (last_fragment server) server.next ≡ spent → has_no_count server.plan.group server.count ≡ used
    → IsOver plan image (after_fragment server)
unfolding next_fragment after_fragment
over_fragment plan image server true used wide over spent_is used_is = rw spent_is over
over_fragment plan image server false true wide over spent_is used_is = rw (spent_is, used_is) over
over_fragment plan image server false false wide over spent_is used_is =
    rw (spent_is, used_is)
    (sends_on plan image server (server.next + 1) wide over (omega arith)
    (omega (arith, ltb-false (last_fragment server) server.next spent_is)) used_is)

over_status : (plan : Plan) (image : List ℕ) (server : ServerState) (used : Bool) → HasWidth plan.group → IsOver plan image server
    → has_no_count server.plan.group server.count ≡ used → IsOver plan image (after_status_to_all server)
unfolding status_to_all after_status_to_all
over_status plan image server true wide over used_is = rw used_is over
over_status plan image server false wide over used_is =
    rw used_is (sends_on plan image server server.next wide over over.low over.high used_is)

over_answers : (plan : Plan) (image : List ℕ) (server : ServerState) (dev : ℕ) (cs : List Command) (stage : Option Stage)
    → IsOver plan image server → IsOver plan image (with_answers server dev cs stage)
over_answers plan image server dev cs None over = over
over_answers plan image server dev cs (Some stage) over = record {
  plan_is = over.plan_is;
  image_is = over.image_is;
  fine = over.fine;
  staged = length-set server.stages (dev - 1) (stage_after_all server.plan server.image stage cs) ∙ over.staged;
  told = length-set server.statuses (dev - 1) (status_after_all server.plan (told_or_none (last_status server dev)) cs) ∙ over.told;
  low = over.low;
  high = over.high;
  counted = over.counted;
  four_bytes = over.four_bytes;
}

over_read : (plan : Plan) (image : List ℕ) (server : ServerState) (dev t : ℕ) (reading : Reading) → IsOver plan image server
    → IsOver plan image (read_uplink server dev t reading).server
unfolding read_uplink
over_read plan image server dev t (Ok cs) over = over_answers plan image server dev cs (ledger server dev) over
over_read plan image server dev t (Err refusal) over = over

over_uplink : (plan : Plan) (image : List ℕ) (server : ServerState) (dev port : ℕ) (payload : List ℕ) (t : ℕ) → IsOver plan image server
    → IsOver plan image (uplink_step server dev port payload t).server
unfolding uplink_step
over_uplink plan image server dev port payload t over = over_read plan image server dev t (reading_of port Up payload) over

over_call : (plan : Plan) (image : List ℕ) (server : ServerState) (call : Call) → HasWidth plan.group → IsOver plan image server
    → IsOver plan image (after_call server call)
over_call plan image server NextFragment wide over = over_fragment plan image server _ _ wide over refl refl
over_call plan image server StatusAll wide over = over_status plan image server _ wide over refl
over_call plan image server (Uplink dev port payload t) wide over = over_uplink plan image server dev port payload t over

over_calls : (plan : Plan) (image : List ℕ) (server : ServerState) (calls : List Call) → HasWidth plan.group → IsOver plan image server
    → IsOver plan image (after_calls server calls)
over_calls plan image server [] wide over = over
over_calls plan image server (call ∷ calls) wide over =
    over_calls plan image (after_call server call) calls wide (over_call plan image server call wide over)

-- ---- steps

-- a restored server stands for the same record
restored : (plan : Plan) (image : List ℕ) (server again : ServerState) → IsOver plan image server → IsRestored server again
    → again ≡ server
restored plan image server again over is =
    told_apart plan image again server (rw (over.plan_is, over.image_is) at is.0) over is.1

pub record Same (server : ServerState) (calls : List Call) (told : List Told) (last : ServerState) : Type 0 where
  told_is : told ≡ all_told server calls
  last_is : last ≡ after_calls server calls

leads_same : (plan : Plan) (image : List ℕ) (server : ServerState) (steps : List Step) (told : List Told) (last : ServerState)
    → HasWidth plan.group → IsOver plan image server → Leads server steps told last → Same server (calls_of steps) told last
leads_same plan image server [] told last wide over leads = record { told_is = leads.0; last_is = leads.1 }
leads_same plan image server (Calls call ∷ steps) told last wide over leads =
    let rest = leads_same plan image (after_call server call) steps leads.0 last wide (over_call plan image server call wide over) leads.2 in
    record {
      told_is = leads.1 ∙ ap (λ (more : List Told). told_by server call ∷ more) rest.told_is;
      last_is = rest.last_is;
    }
leads_same plan image server (Restarts ∷ steps) told last wide over leads =
    let is = restored plan image server leads.0 over leads.1 in
    leads_same plan image server steps told last wide over
    (subst (λ (s : ServerState). Leads s steps told last) is leads.2)

pub lasts : LastsThroughRestarts
lasts = record {
  apart = told_apart;
  same = λ plan image steps told last fine wide leads.
      let is = leads_same plan image (first_server image plan) steps told last wide (starts_over plan image fine wide) leads in
      (is.told_is, is.last_is);
  restorable = λ plan image calls fine wide.
      over_calls plan image (first_server image plan) calls wide (starts_over plan image fine wide);
}
