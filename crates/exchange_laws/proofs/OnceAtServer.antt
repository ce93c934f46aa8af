-- An uplink that has moved a device's stage at a server moves none there when it comes again.
use Rattle.std.proofs.Common.{◌≡◌, ◌≢◌, ℕ, ◌-◌, ◌≤◌, ◌==◌, Bool, true, false, cond, List, [], ◌∷◌, slice_get, Option, None, Some, Ok, Err, refl, sym, ap, ◌∙◌, subst, arith}
use Rattle.std.specs.List.{slice_set}
use Rattle.wire_base.specs.declared.refusal.Direction.TheVariants.{Up as Upward}
use Rattle.wire_base.specs.Numbered.{numbered}
use Rattle.image_slots.specs.Image.{firmware_of}
use Rattle.sync_wire.specs.declared.cmd.Cmd.TheVariants.{DevVersionAns}
use Rattle.package_grammar.specs.declared.command.Command.{Command}
use Rattle.package_grammar.specs.declared.command.Command.TheVariants.{Sync}
use Rattle.package_grammar.specs.Reading.{Reading, reading_of}
use Rattle.device_core.specs.declared.uplink.Uplink.{Uplink as Made}
use Rattle.device_core.specs.Sendable.{IsUplink}
use Rattle.campaign_server.specs.declared.stage.Request.TheVariants.{Version}
use Rattle.campaign_server.specs.declared.stage.Stage.{Stage}
use Rattle.campaign_server.specs.declared.stage.Stage.TheVariants.{At}
use Rattle.campaign_server.specs.Answers.{stage_after, stage_after_all}
use Rattle.campaign_server.specs.Counts.{Call, NextFragment, StatusAll, Uplink, after_call}
use Rattle.campaign_server.specs.Restarts.{after_calls}
use Rattle.campaign_server.specs.Server.{ServerState, ledger}
use Rattle.campaign_server.specs.Uplinks.{with_answers, read_uplink, uplink_step}
use Rattle.campaign_server.proofs.LineItems.{numbered_there}
use Rattle.campaign_world.proofs.Zips.{set_there}
use Rattle.campaign_laws.specs.Once.{rank}
use Rattle.campaign_laws.proofs.Events.{fragment_sends, status_sends}
use Rattle.campaign_laws.proofs.Ranks.{moves_once}
use Rattle.exchange_laws.specs.Exchange.{after_uplink}
use Rattle.exchange_laws.specs.OnceAtServer.{TellsAnother, MovesOnceAtServer}
use Rattle.exchange_laws.proofs.Bringing.{read_back}
use Rattle.exchange_laws.proofs.Framing.{IsServer, same_server, later_on, answers_on}

-- ---- calls

read_on : (server : ServerState) (dev t : ℕ) (r : Reading) → IsServer server (read_uplink server dev t r).server
unfolding read_uplink
read_on server dev t (Ok cs) = answers_on server dev cs (ledger server dev) refl
read_on server dev t (Err refusal) = same_server server server refl refl refl

call_on : (server : ServerState) (call : Call) → IsServer server (after_call server call)
unfolding uplink_step
call_on server NextFragment = let k = fragment_sends server in same_server server _ k.plan k.image k.stages
call_on server StatusAll = let k = status_sends server in same_server server _ k.plan k.image k.stages
call_on server (Uplink dev port payload t) = read_on server dev t (reading_of port Upward payload)

on_and_on : (a b c : ServerState) → IsServer a b → IsServer b c → IsServer a c
on_and_on a b c one more = record {
  plan = more.plan ∙ one.plan;
  image = more.image ∙ one.image;
  stages = λ id stage at. (let first = one.stages id stage at in let then = more.stages id first.0 first.1 in (then.0, then.1, later_on stage first.0 then.0 first.2 then.2));
}

calls_on : (server : ServerState) (calls : List Call) → IsServer server (after_calls server calls)
calls_on server [] = same_server server server refl refl refl
calls_on server (call ∷ calls) = on_and_on server (after_call server call) _ (call_on server call) (calls_on (after_call server call) calls)

-- ---- an uplink of one command

upped : (server : ServerState) (dev t : ℕ) (u : Made) (is : IsUplink u) → (after_uplink server dev t u).stages ≡ (with_answers server dev (is.command ∷ []) (ledger server dev)).stages
unfolding uplink_step read_uplink
upped server dev t u is =
    let read : reading_of u.port Upward u.payload ≡ Ok (is.command ∷ []) =
    ap (λ (bytes : List ℕ). reading_of u.port Upward bytes) is.bytes ∙ read_back is.command u.port Upward is.sendable.valid is.sendable.listed in
    ap (λ (r : Reading). (read_uplink server dev t r).server.stages) read

upped_image : (server : ServerState) (dev t : ℕ) (u : Made) → (after_uplink server dev t u).image ≡ server.image
unfolding uplink_step
upped_image server dev t u = (read_on server dev t (reading_of u.port Upward u.payload)).image

put_same : {A : Type 0} (xs : List A) (n : ℕ) (x : A) → numbered xs n ≡ Some x → slice_set xs (n - 1) x ≡ xs
put_same {A = A} xs n x is = by (n == 0) is
  where
    by : (b : Bool) → cond b None (slice_get xs (n - 1)) ≡ Some x → slice_set xs (n - 1) x ≡ xs
    by true h = absurd cc
    by false h = set_there xs (n - 1) x h

stays_by : (server : ServerState) (dev : ℕ) (x : Command) (o : Option Stage) → numbered server.stages dev ≡ o
    → ((stage : Stage) → o ≡ Some stage → stage_after server.plan server.image stage x ≡ stage) → (with_answers server dev (x ∷ []) o).stages ≡ server.stages
unfolding stage_after_all
stays_by server dev x None there stays = refl
stays_by server dev x (Some stage) there stays = rw (stays stage refl) (put_same server.stages dev stage there)

-- ---- the law

rank_some : (server : ServerState) (dev : ℕ) (stage : Stage) (x : Command) → numbered server.stages dev ≡ Some stage
    → (ledger server dev ≡ Some (At Version) → (hardware : ℕ) → x ≡ Sync (DevVersionAns (firmware_of server.image) hardware) → ⊥)
    → (hardware : ℕ) → x ≡ Sync (DevVersionAns (firmware_of server.image) hardware) → 1 ≤ rank stage
rank_some server dev (At Version) x at tells hardware is = absurd (tells at hardware is)
rank_some server dev stage x at tells hardware is = omega arith

once_by : (server : ServerState) (dev came again : ℕ) (u : Made) (calls : List Call) (is : IsUplink u) (o : Option Stage) → numbered server.stages dev ≡ o → TellsAnother server dev u is
    → (after_uplink server dev came u).stages ≢ server.stages
    → (after_uplink (after_calls (after_uplink server dev came u) calls) dev again u).stages ≡ (after_calls (after_uplink server dev came u) calls).stages
unfolding stage_after_all
once_by server dev came again u calls is None there tells moved =
    absurd (moved (upped server dev came u is ∙ ap (λ (o : Option Stage). (with_answers server dev (is.command ∷ []) o).stages) there))
once_by server dev came again u calls is (Some stage) there tells moved =
    let x : Command = is.command in
    let new : Stage = stage_after server.plan server.image stage x in
    let next : ServerState = after_uplink server dev came u in
    let later : ServerState = after_calls next calls in
    let stages : next.stages ≡ slice_set server.stages (dev - 1) new = upped server dev came u is ∙ ap (λ (o : Option Stage). (with_answers server dev (x ∷ []) o).stages) there in
    let placed : numbered next.stages dev ≡ Some new = ap (λ (xs : List Stage). numbered xs dev) stages ∙ numbered_there server.stages dev stage new there in
    let on = calls_on next calls in
    let now = on.stages dev new placed in
    let image : later.image ≡ server.image = on.image ∙ upped_image server dev came u in
    let moves : new ≢ stage = λ same. moved (stages ∙ ap (λ (y : Stage). slice_set server.stages (dev - 1) y) same ∙ put_same server.stages dev stage there) in
    let rest : stage_after later.plan server.image now.0 x ≡ now.0 =
    moves_once server.plan later.plan server.image stage now.0 x moves now.2.up (rank_some server dev stage x there tells) in
    upped later dev again u is ∙ ap (λ (o : Option Stage). (with_answers later dev (x ∷ []) o).stages) now.1
    ∙ stays_by later dev x (Some now.0) now.1 (λ y same.
    (let e : now.0 ≡ y = cc in subst (λ (z : Stage). stage_after later.plan later.image z x ≡ z) e (subst (λ (i : List ℕ). stage_after later.plan i now.0 x ≡ now.0) (sym image) rest)))

pub moves_once_at_server : MovesOnceAtServer
moves_once_at_server server dev came again u calls is tells moved =
    once_by server dev came again u calls is (numbered server.stages dev) refl tells moved
