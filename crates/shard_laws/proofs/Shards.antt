-- Shards send alike: what goes to all is made of what they have the same, and an uplink changes none of it.
use Rattle.std.proofs.Common.{◌≡◌, ℕ, Bool, true, false, List, [], ◌∷◌, length, Option, Some, None, Ok, Err, refl, sym, ap, ◌∙◌, subst}
use Rattle.std.specs.Prelude.{nat_lt, is_ok, is_some}
use Rattle.package_grammar.specs.declared.command.Command.{Command}
use Rattle.package_grammar.specs.Reading.{Reading, reading_of}
use Rattle.wire_base.specs.declared.refusal.Direction.TheVariants.{Up}
use Rattle.campaign_server.specs.declared.stage.Stage.{Stage}
use Rattle.campaign_server.specs.Plan.{Plan, bad_field}
use Rattle.campaign_server.specs.Server.{ServerState, ledger, first_server}
use Rattle.campaign_server.specs.Fragments.{last_fragment, has_no_count, next_fragment, after_fragment, status_to_all, after_status_to_all}
use Rattle.campaign_server.specs.Uplinks.{with_answers, read_uplink, uplink_step}
use Rattle.campaign_server.specs.Counts.{Call, NextFragment, StatusAll, Uplink, after_call}
use Rattle.campaign_server.specs.Restarts.{Told, Fragment, ToAll, Answer, told_by, all_told, after_calls, Step, calls_of, HasWidth, Leads}
use Rattle.campaign_server.proofs.Restarts.{lasts}
use Rattle.shard_laws.specs.Shards.{but_devices, for_all, calls_to_all, told_to_all, ShardsSendAlike}

-- ---- a call to all

same_fragment : (server : ServerState) → next_fragment server ≡ next_fragment (for_all server)
unfolding next_fragment
same_fragment server = refl

fragment_by : (server : ServerState) (goes : Bool) → is_ok (next_fragment server) ≡ goes
    → for_all (after_fragment server) ≡ for_all (after_fragment (for_all server))
unfolding after_fragment
fragment_by server true is = rw (is, sym (same_fragment server), is) refl
fragment_by server false is = rw (is, sym (same_fragment server), is) refl

same_status : (server : ServerState) → status_to_all server ≡ status_to_all (for_all server)
unfolding status_to_all
same_status server = refl

status_by : (server : ServerState) (goes : Bool) → is_some (status_to_all server) ≡ goes
    → for_all (after_status_to_all server) ≡ for_all (after_status_to_all (for_all server))
unfolding after_status_to_all
status_by server true is = rw (is, sym (same_status server), is) refl
status_by server false is = rw (is, sym (same_status server), is) refl

-- ---- an uplink

answers_quiet : (server : ServerState) (dev : ℕ) (cs : List Command) (stage : Option Stage)
    → for_all (with_answers server dev cs stage) ≡ for_all server
answers_quiet server dev cs None = refl
answers_quiet server dev cs (Some stage) = refl

read_quiet : (server : ServerState) (dev t : ℕ) (reading : Reading) → for_all (read_uplink server dev t reading).server ≡ for_all server
unfolding read_uplink
read_quiet server dev t (Ok cs) = answers_quiet server dev cs (ledger server dev)
read_quiet server dev t (Err refusal) = refl

uplink_quiet : (server : ServerState) (dev port : ℕ) (payload : List ℕ) (t : ℕ)
    → for_all (uplink_step server dev port payload t).server ≡ for_all server
unfolding uplink_step
uplink_quiet server dev port payload t = read_quiet server dev t (reading_of port Up payload)

-- ---- any calls

-- what a server sends to all is what its part for all sends
record IsSentFor (server : ServerState) (calls : List Call) (part : ServerState) : Type 0 where
  told : told_to_all (all_told server calls) ≡ told_to_all (all_told part (calls_to_all calls))
  last : for_all (after_calls server calls) ≡ for_all (after_calls part (calls_to_all calls))

sent_for : (server part : ServerState) (calls : List Call) → for_all server ≡ for_all part → IsSentFor server calls part
sent_for server part [] is = record { told = refl; last = is }
sent_for server part (NextFragment ∷ calls) is =
    let one = same_fragment server ∙ ap next_fragment is ∙ sym (same_fragment part) in
    let after = fragment_by server _ refl ∙ ap (λ s. for_all (after_fragment s)) is ∙ sym (fragment_by part _ refl) in
    let rest = sent_for (after_fragment server) (after_fragment part) calls after in
    record {
      told = ap (λ sent. Fragment sent ∷ told_to_all (all_told (after_fragment server) calls)) one
          ∙ ap (λ told. Fragment (next_fragment part) ∷ told) rest.told;
      last = rest.last;
    }
sent_for server part (StatusAll ∷ calls) is =
    let one = same_status server ∙ ap status_to_all is ∙ sym (same_status part) in
    let after = status_by server _ refl ∙ ap (λ s. for_all (after_status_to_all s)) is ∙ sym (status_by part _ refl) in
    let rest = sent_for (after_status_to_all server) (after_status_to_all part) calls after in
    record {
      told = ap (λ sent. ToAll sent ∷ told_to_all (all_told (after_status_to_all server) calls)) one
          ∙ ap (λ told. ToAll (status_to_all part) ∷ told) rest.told;
      last = rest.last;
    }
sent_for server part (Uplink dev port payload t ∷ calls) is =
    let rest = sent_for (uplink_step server dev port payload t).server part calls (uplink_quiet server dev port payload t ∙ is) in
    record { told = rest.told; last = rest.last }

alike : (a b : ServerState) (calls others : List Call) → for_all a ≡ for_all b → calls_to_all calls ≡ calls_to_all others
    → (told_to_all (all_told a calls) ≡ told_to_all (all_told b others))
    × (for_all (after_calls a calls) ≡ for_all (after_calls b others))
alike a b calls others is same =
    let one = sent_for a b calls is in
    let other = sent_for b b others refl in (
      one.told ∙ ap (λ cs. told_to_all (all_told b cs)) same ∙ sym other.told,
      one.last ∙ ap (λ cs. for_all (after_calls b cs)) same ∙ sym other.last,
    )

-- ---- with restarts

same_start : (image : List ℕ) (p q : Plan) → but_devices p ≡ but_devices q
    → for_all (first_server image p) ≡ for_all (first_server image q)
same_start image p q is = ap (λ (plan : Plan). for_all (first_server image plan)) is

restarted : (image : List ℕ) (p q : Plan) (steps others : List Step) (told said : List Told) (last end : ServerState)
    → bad_field (length image) p ≡ None → bad_field (length image) q ≡ None → HasWidth p.group → but_devices p ≡ but_devices q
    → Leads (first_server image p) steps told last → Leads (first_server image q) others said end
    → calls_to_all (calls_of steps) ≡ calls_to_all (calls_of others)
    → (told_to_all told ≡ told_to_all said) × (for_all last ≡ for_all end)
restarted image p q steps others told said last end good right width is leads goes same =
    let one = lasts.same p image steps told last good width leads in
    let other = lasts.same q image others said end right (subst (λ (plan : Plan). HasWidth plan.group) is width) goes in
    let both = alike (first_server image p) (first_server image q) (calls_of steps) (calls_of others) (same_start image p q is) same in
    (ap told_to_all one.0 ∙ both.0 ∙ sym (ap told_to_all other.0), ap for_all one.1 ∙ both.1 ∙ sym (ap for_all other.1))

pub shards_send_alike : ShardsSendAlike
shards_send_alike = record { alike = alike; restarted = restarted }
