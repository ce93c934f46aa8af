-- The counts of a run, call by call: each that is sent is the server's next one.
use Rattle.std.proofs.Common.{◌≡◌, ◌⊎◌, inl, inr, ℕ, ◌+◌, ◌<◌, ◌≤◌, Bool, true, false, List, [], ◌∷◌, ◌++◌, length, Option, Some, None, Ok, Err, refl, sym, ap, ◌∙◌, subst, arith}
use Rattle.std.specs.Prelude.{◌==◌, nat_lt}
use Rattle.std.specs.List.{range_with_len, AllPairs, AllByRecursion, slice_index_or}
use Rattle.std.proofs.lemmas.Bool.{eqb-false}
use Rattle.std.proofs.lemmas.List.Elements.{All-from_recursion}
use Rattle.std.proofs.lemmas.List.FromFn.{get_or-range_with_len}
use Rattle.package_grammar.specs.declared.command.Command.{Command}
use Rattle.package_grammar.specs.Reading.{Reading, reading_of}
use Rattle.wire_base.specs.declared.refusal.Direction.TheVariants.{Up}
use Rattle.campaign_server.specs.declared.plan.PlanGroup.{PlanGroup}
use Rattle.campaign_server.specs.declared.stage.Stage.{Stage}
use Rattle.campaign_server.specs.Plan.{Plan}
use Rattle.campaign_server.specs.Server.{ServerState, ledger, first_server, first_count}
use Rattle.campaign_server.specs.Fragments.{receivers, has_no_count, last_fragment, next_count, next_fragment, after_fragment, status_to_all, after_status_to_all}
use Rattle.campaign_server.specs.Uplinks.{with_answers, read_uplink, uplink_step}
use Rattle.campaign_server.specs.Counts.{Call, NextFragment, StatusAll, Uplink, after_call, counts_to, counts_of_sent, counts_of_status, counts_of, counts_sent, CountsOnce}

-- ---- a call

-- it goes with no count
record IsQuiet (server next : ServerState) (counts : List ℕ) : Type 0 where
  none : counts ≡ []
  count : next.count ≡ server.count

-- it goes with the server's next count, which is not the group's MAX
record IsCounted (server next : ServerState) (counts : List ℕ) : Type 0 where
  one : counts ≡ server.count ∷ []
  count : next.count ≡ server.count + 1
  free : has_no_count server.plan.group server.count ≡ false

record Turn (server next : ServerState) (counts : List ℕ) : Type 0 where
  plan : next.plan ≡ server.plan
  goes : IsQuiet server next counts ⊎ IsCounted server next counts

quiet : (server : ServerState) → Turn server server []
quiet server = record { plan = refl; goes = inl (record { none = refl; count = refl }) }

sent_by : (server next : ServerState) (group : Option PlanGroup) → server.plan.group ≡ group
    → has_no_count server.plan.group server.count ≡ false → next.plan ≡ server.plan
    → next.count ≡ next_count group server.count → Turn server next (counts_to (receivers group server.count))
sent_by server next None is free plan count = record {
  plan = plan;
  goes = inl (record { none = refl; count = count });
}
sent_by server next (Some group) is free plan count = record {
  plan = plan;
  goes = inr (record { one = refl; count = count; free = free });
}

fragment_by : (server : ServerState) (spent used : Bool) → nat_lt (last_fragment server) server.next ≡ spent
    → has_no_count server.plan.group server.count ≡ used
    → Turn server (after_fragment server) (counts_of_sent (next_fragment server))
unfolding next_fragment after_fragment
fragment_by server true used spent_is used_is = rw spent_is (quiet server)
fragment_by server false true spent_is used_is = rw (spent_is, used_is) (quiet server)
fragment_by server false false spent_is used_is =
    rw (spent_is, used_is) (sent_by server _ server.plan.group refl used_is refl refl)

status_by : (server : ServerState) (used : Bool) → has_no_count server.plan.group server.count ≡ used
    → Turn server (after_status_to_all server) (counts_of_status (status_to_all server))
unfolding status_to_all after_status_to_all
status_by server true used_is = rw used_is (quiet server)
status_by server false used_is = rw used_is (sent_by server _ server.plan.group refl used_is refl refl)

answers_turn : (server : ServerState) (dev : ℕ) (cs : List Command) (stage : Option Stage)
    → Turn server (with_answers server dev cs stage) []
answers_turn server dev cs None = quiet server
answers_turn server dev cs (Some stage) = record {
  plan = refl;
  goes = inl (record { none = refl; count = refl });
}

read_turn : (server : ServerState) (dev t : ℕ) (reading : Reading) → Turn server (read_uplink server dev t reading).server []
unfolding read_uplink
read_turn server dev t (Ok cs) = answers_turn server dev cs (ledger server dev)
read_turn server dev t (Err refusal) = quiet server

uplink_turn : (server : ServerState) (dev port : ℕ) (payload : List ℕ) (t : ℕ)
    → Turn server (uplink_step server dev port payload t).server []
unfolding uplink_step
uplink_turn server dev port payload t = read_turn server dev t (reading_of port Up payload)

turn : (server : ServerState) (call : Call) → Turn server (after_call server call) (counts_of server call)
turn server NextFragment = fragment_by server _ _ refl refl
turn server StatusAll = status_by server _ refl
turn server (Uplink dev port payload t) = uplink_turn server dev port payload t

-- ---- a run

range_on : (server next : ServerState) (counts rest : List ℕ)
    → IsQuiet server next counts ⊎ IsCounted server next counts → rest ≡ range_with_len next.count (length rest)
    → counts ++ rest ≡ range_with_len server.count (length (counts ++ rest))
range_on server next counts rest (inl k) is = rw k.none (subst (λ n. rest ≡ range_with_len n (length rest)) k.count is)
range_on server next counts rest (inr k) is =
    rw k.one (ap (λ ns. server.count ∷ ns) (subst (λ n. rest ≡ range_with_len n (length rest)) k.count is))

in_order_from : (server : ServerState) (calls : List Call)
    → counts_sent server calls ≡ range_with_len server.count (length (counts_sent server calls))
in_order_from server [] = refl
in_order_from server (call ∷ calls) =
    range_on server (after_call server call) (counts_of server call) (counts_sent (after_call server call) calls)
    (turn server call).goes (in_order_from (after_call server call) calls)

-- a range rises
range_rises : (from : ℕ) (counts : List ℕ) → counts ≡ range_with_len from (length counts)
    → AllPairs (λ earlier later. earlier < later) counts
range_rises from counts is i j d low high =
    let one : slice_index_or counts i d ≡ from + i =
    ap (λ (xs : List ℕ). slice_index_or xs i d) is ∙ get_or-range_with_len from (length counts) i d (omega (arith, low, high)) in
    let other : slice_index_or counts j d ≡ from + j =
    ap (λ (xs : List ℕ). slice_index_or xs j d) is ∙ get_or-range_with_len from (length counts) j d high in
    rw (one, other) (omega (arith, low))

-- ---- below MAX

free_below : (group : Option PlanGroup) (g : PlanGroup) (count : ℕ) → group ≡ Some g → has_no_count group count ≡ false
    → count ≤ g.max → count < g.max
free_below None g count is free most = absurd cc
free_below (Some group) g count is free most =
    let same : group ≡ g = cc in
    let free_g : (count == g.max) ≡ false = ap (λ (x : PlanGroup). count == x.max) (sym same) ∙ free in
    omega (arith, most, eqb-false count g.max free_g)

below_on : (server next : ServerState) (group : PlanGroup) (counts rest : List ℕ) → server.plan.group ≡ Some group
    → server.count ≤ group.max → IsQuiet server next counts ⊎ IsCounted server next counts
    → (next.count ≤ group.max → AllByRecursion (λ (count : ℕ). count < group.max) rest)
    → AllByRecursion (λ (count : ℕ). count < group.max) (counts ++ rest)
below_on server next group counts rest is most (inl k) behind = rw k.none (behind (rw k.count most))
below_on server next group counts rest is most (inr k) behind =
    let less = free_below server.plan.group group server.count is k.free most in
    rw k.one (less, behind (rw k.count (omega (arith, less))))

below_from : (server : ServerState) (group : PlanGroup) (calls : List Call) → server.plan.group ≡ Some group
    → server.count ≤ group.max → AllByRecursion (λ (count : ℕ). count < group.max) (counts_sent server calls)
below_from server group [] is most = tt
below_from server group (call ∷ calls) is most =
    below_on server (after_call server call) group (counts_of server call) (counts_sent (after_call server call) calls)
    is most (turn server call).goes
    (below_from (after_call server call) group calls (ap (λ (p : Plan). p.group) (turn server call).plan ∙ is))

-- ---- from the start

pub counts_once : CountsOnce
counts_once = record {
  in_order = λ image plan calls. in_order_from (first_server image plan) calls;
  once = λ image plan calls.
      range_rises (first_count plan.group) _ (in_order_from (first_server image plan) calls);
  below = λ image plan group calls is fine.
      All-from_recursion (λ (count : ℕ). count < group.max) _
      (below_from (first_server image plan) group calls is (rw is fine));
}
