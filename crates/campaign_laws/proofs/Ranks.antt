-- How the server's stages go on: never back, and each answer moves its own.
use Rattle.std.proofs.Common.{◌≡◌, ◌≢◌, ◌⊎◌, inl, inr, ⊎_elim, ℕ, ◌+◌, ◌<◌, ◌≤◌, ◌==◌, Bool, true, false, cond, List, [], ◌∷◌, Option, None, Some, is_some, refl, sym, ap, ◌∙◌, subst, lit≤, lit<, arith}
use Rattle.image_slots.specs.Image.{is_for, firmware_of}
use Rattle.cast_wire.specs.declared.cmd.Cmd.TheVariants as c
use Rattle.sync_wire.specs.declared.cmd.Cmd.TheVariants as s
use Rattle.package_grammar.specs.declared.command.Command.{Command}
use Rattle.package_grammar.specs.declared.command.Command.TheVariants.{Sync, Cast}
use Rattle.campaign_server.specs.declared.stage.Stage.{Stage}
use Rattle.campaign_server.specs.declared.stage.Stage.TheVariants.{At, Updated, Refused}
use Rattle.campaign_server.specs.declared.stage.Request.TheVariants.{Version, Group, Fragments, Window, Status, Image, Reboot, Check}
use Rattle.campaign_server.specs.Plan.{Plan, own_id}
use Rattle.wire_base.specs.Numbers.{flag_value}
use Rattle.campaign_server.specs.Answers.{is_class_b, is_class_c, stage_after, stage_after_all}
use Rattle.campaign_laws.specs.Once.{rank, last_moved, PastMovesNone}

-- the first answer of all: it may come again where the version is checked
abbrev pub IsFirst : Stage → Command → Type 0
IsFirst stage x = (stage ≡ At Version) × ((firmware : ℕ) × (hardware : ℕ) × (x ≡ Sync (s.DevVersionAns firmware hardware)))

-- a stage goes on by an answer of its own, which is then past
pub record GoesOn (from : Stage) (x : Command) (to : Stage) : Type 0 where
  pub up : rank from < rank to
  pub own : rank from ≤ last_moved x
  pub past : (last_moved x < rank to) ⊎ IsFirst from x

abbrev pub Leads : (from : Stage) → Command → (to : Stage) → Type 0
Leads from x to = (to ≡ from) ⊎ GoesOn from x to

either : (from : Stage) (x : Command) (b : Bool) (one other : Stage) → Leads from x one → Leads from x other → Leads from x (cond b one other)
either from x true one other k l = k
either from x false one other k l = l

on : (from : Stage) (x : Command) (to : Stage) → rank from < rank to → rank from ≤ last_moved x → last_moved x < rank to → Leads from x to
on from x to up own past = inr (record { up = up; own = own; past = inl past })

version_leads : (plan : Plan) (image : List ℕ) (firmware hardware : ℕ)
    → Leads (At Version) (Sync (s.DevVersionAns firmware hardware)) (stage_after plan image (At Version) (Sync (s.DevVersionAns firmware hardware)))
unfolding stage_after
version_leads plan image firmware hardware = by (cond (is_for image hardware) 0 1 == 0) (is_some plan.group)
  where
    first : IsFirst (At Version) (Sync (s.DevVersionAns firmware hardware))
    first = (refl, (firmware, hardware, refl))

    by : (b g : Bool) → Leads (At Version) (Sync (s.DevVersionAns firmware hardware)) (cond b (At (cond g Group Fragments)) (Refused Version (cond (is_for image hardware) 0 1)))
    by true true = inr (record { up = lit< tt; own = lit≤ tt; past = inr first })
    by true false = inr (record { up = lit< tt; own = lit≤ tt; past = inr first })
    by false g = inr (record { up = lit< tt; own = lit≤ tt; past = inr first })

group_leads : (plan : Plan) (image : List ℕ) (id : ℕ) (error : Bool) → Leads (At Group) (Cast (c.McGroupSetupAns id error)) (stage_after plan image (At Group) (Cast (c.McGroupSetupAns id error)))
unfolding stage_after
group_leads plan image id error =
    let x : Command = Cast (c.McGroupSetupAns id error) in
    either (At Group) x (id == own_id plan.group) _ (At Group)
    (either (At Group) x (flag_value error 4 == 0) (At Fragments) (Refused Group (flag_value error 4)) (on (At Group) x (At Fragments) (lit< tt) (lit≤ tt) (lit< tt)) (on (At Group) x (Refused Group (flag_value error 4)) (lit< tt) (lit≤ tt) (lit< tt)))
    (inl refl)

setup_leads : (plan : Plan) (image : List ℕ) (index : ℕ) (d u m e : Bool)
    → Leads (At Fragments) (Cast (c.FragSessionSetupAns index d u m e)) (stage_after plan image (At Fragments) (Cast (c.FragSessionSetupAns index d u m e)))
unfolding stage_after
setup_leads plan image index d u m e =
    let x : Command = Cast (c.FragSessionSetupAns index d u m e) in
    let bits : ℕ = flag_value d 8 + flag_value u 4 + flag_value m 2 + flag_value e 1 in
    either (At Fragments) x (index == plan.index) _ (At Fragments)
    (either (At Fragments) x (bits == 0) (At (cond (is_some plan.group) Window Status)) (Refused Fragments bits) (next (is_some plan.group)) (on (At Fragments) x (Refused Fragments bits) (lit< tt) (lit≤ tt) (lit< tt)))
    (inl refl)
  where
    next : (g : Bool) → Leads (At Fragments) (Cast (c.FragSessionSetupAns index d u m e)) (At (cond g Window Status))
    next true = on (At Fragments) (Cast (c.FragSessionSetupAns index d u m e)) (At Window) (lit< tt) (lit≤ tt) (lit< tt)
    next false = on (At Fragments) (Cast (c.FragSessionSetupAns index d u m e)) (At Status) (lit< tt) (lit≤ tt) (lit< tt)

-- both classes alike
window_leads : (x : Command) (own : Bool) (ours id bits : ℕ) → last_moved x ≡ 3
    → Leads (At Window) x (cond own (cond (id == ours) (cond (bits == 0) (At Status) (Refused Window bits)) (At Window)) (At Window))
window_leads x own ours id bits is =
    either (At Window) x own _ (At Window)
    (either (At Window) x (id == ours) _ (At Window)
    (either (At Window) x (bits == 0) (At Status) (Refused Window bits) (on (At Window) x (At Status) (lit< tt) (omega (arith, is)) (omega (arith, is))) (on (At Window) x (Refused Window bits) (lit< tt) (omega (arith, is)) (omega (arith, is))))
    (inl refl))
    (inl refl)

status_leads : (plan : Plan) (image : List ℕ) (index received missing : ℕ) (norows : Bool)
    → Leads (At Status) (Cast (c.FragSessionStatusAns index received missing norows)) (stage_after plan image (At Status) (Cast (c.FragSessionStatusAns index received missing norows)))
unfolding stage_after
status_leads plan image index received missing norows =
    let x : Command = Cast (c.FragSessionStatusAns index received missing norows) in
    either (At Status) x (index == plan.index) _ (At Status)
    (either (At Status) x (flag_value norows 1 == 0) (At (cond (missing == 0) Image Status)) (Refused Status (flag_value norows 1)) (next (missing == 0)) (on (At Status) x (Refused Status (flag_value norows 1)) (lit< tt) (lit≤ tt) (lit< tt)))
    (inl refl)
  where
    next : (b : Bool) → Leads (At Status) (Cast (c.FragSessionStatusAns index received missing norows)) (At (cond b Image Status))
    next true = on (At Status) (Cast (c.FragSessionStatusAns index received missing norows)) (At Image) (lit< tt) (lit≤ tt) (lit< tt)
    next false = inl refl

upgrade_leads : (plan : Plan) (image : List ℕ) (status : ℕ) (next : Option ℕ)
    → Leads (At Image) (Sync (s.DevUpgradeImageAns status next)) (stage_after plan image (At Image) (Sync (s.DevUpgradeImageAns status next)))
unfolding stage_after
upgrade_leads plan image status None =
    let x : Command = Sync (s.DevUpgradeImageAns status None) in
    either (At Image) x (status == 0) (At Image) (Refused Image status) (inl refl) (on (At Image) x (Refused Image status) (lit< tt) (lit≤ tt) (lit< tt))
upgrade_leads plan image status (Some version) =
    let x : Command = Sync (s.DevUpgradeImageAns status (Some version)) in
    either (At Image) x (version == firmware_of image) (At Reboot) (Refused Image status) (on (At Image) x (At Reboot) (lit< tt) (lit≤ tt) (lit< tt)) (on (At Image) x (Refused Image status) (lit< tt) (lit≤ tt) (lit< tt))

check_leads : (plan : Plan) (image : List ℕ) (firmware hardware : ℕ)
    → Leads (At Check) (Sync (s.DevVersionAns firmware hardware)) (stage_after plan image (At Check) (Sync (s.DevVersionAns firmware hardware)))
unfolding stage_after
check_leads plan image firmware hardware =
    let x : Command = Sync (s.DevVersionAns firmware hardware) in
    either (At Check) x (firmware == firmware_of image) Updated (At Check) (on (At Check) x Updated (lit< tt) (lit≤ tt) (lit< tt)) (inl refl)

-- each command at each stage
pub leads : (plan : Plan) (image : List ℕ) (stage : Stage) (x : Command) → Leads stage x (stage_after plan image stage x)
unfolding stage_after
leads plan image (At Version) (Sync (s.DevVersionAns firmware hardware)) = version_leads plan image firmware hardware
leads plan image (At Group) (Cast (c.McGroupSetupAns id error)) = group_leads plan image id error
leads plan image (At Fragments) (Cast (c.FragSessionSetupAns index d u m e)) = setup_leads plan image index d u m e
leads plan image (At Window) (Cast (c.McClassCSessionAns id undefined freq dr start)) =
    window_leads (Cast (c.McClassCSessionAns id undefined freq dr start)) (is_class_c plan.window) (own_id plan.group) id (flag_value undefined 16 + flag_value freq 8 + flag_value dr 4) refl
leads plan image (At Window) (Cast (c.McClassBSessionAns id undefined freq dr start)) =
    window_leads (Cast (c.McClassBSessionAns id undefined freq dr start)) (is_class_b plan.window) (own_id plan.group) id (flag_value undefined 16 + flag_value freq 8 + flag_value dr 4) refl
leads plan image (At Status) (Cast (c.FragSessionStatusAns index received missing norows)) = status_leads plan image index received missing norows
leads plan image (At Image) (Sync (s.DevUpgradeImageAns status next)) = upgrade_leads plan image status next
leads plan image (At Reboot) (Sync (s.DevRebootCountdownAns count)) =
    on (At Reboot) (Sync (s.DevRebootCountdownAns count)) (At Check) (lit< tt) (lit≤ tt) (lit< tt)
leads plan image (At Check) (Sync (s.DevVersionAns firmware hardware)) = check_leads plan image firmware hardware
leads plan image stage x = inl refl

-- what is past moves none
pub past_moves_none : PastMovesNone
past_moves_none plan image stage x past = ⊎_elim (λ same. same) (λ goes. absurd (omega (arith, past, goes.own))) (leads plan image stage x)

-- never back
pub rank_up : (plan : Plan) (image : List ℕ) (stage : Stage) (x : Command) → rank stage ≤ rank (stage_after plan image stage x)
rank_up plan image stage x = ⊎_elim (λ same. rw same (omega arith)) (λ goes. omega (arith, goes.up)) (leads plan image stage x)

pub ranks_up : (plan : Plan) (image : List ℕ) (stage : Stage) (xs : List Command) → rank stage ≤ rank (stage_after_all plan image stage xs)
unfolding stage_after_all
ranks_up plan image stage [] = omega arith
ranks_up plan image stage (x ∷ xs) = let one = rank_up plan image stage x in let more = ranks_up plan image (stage_after plan image stage x) xs in omega (arith, one, more)

-- an answer with another version moves no stage but the first
other_version : (plan : Plan) (image : List ℕ) (stage : Stage) (firmware hardware : ℕ) → (firmware ≡ firmware_of image → ⊥) → 1 ≤ rank stage
    → stage_after plan image stage (Sync (s.DevVersionAns firmware hardware)) ≡ stage
unfolding stage_after
other_version plan image (At Version) firmware hardware other up = absurd (omega (arith, up))
other_version plan image (At Check) firmware hardware other up = let e : (firmware == firmware_of image) ≡ false = grind (arith, other) in rw e refl
other_version plan image stage firmware hardware other up = refl

-- an answer that has moved a stage moves none later
pub moves_once : (plan later : Plan) (image : List ℕ) (stage now : Stage) (x : Command) → stage_after plan image stage x ≢ stage
    → rank (stage_after plan image stage x) ≤ rank now → ((hardware : ℕ) → x ≡ Sync (s.DevVersionAns (firmware_of image) hardware) → 1 ≤ rank stage)
    → stage_after later image now x ≡ now
moves_once plan later image stage now x moved up told = ⊎_elim (λ same. absurd (moved same)) by (leads plan image stage x)
  where
    by : GoesOn stage x (stage_after plan image stage x) → stage_after later image now x ≡ now
    by goes = ⊎_elim (λ past. past_moves_none later image now x (omega (arith, past, up))) first goes.past
      where
        first : IsFirst stage x → stage_after later image now x ≡ now
        first (is, (firmware, hardware, version)) =
            let other : firmware ≡ firmware_of image → ⊥ = λ same. (
            let some : 1 ≤ rank stage = told hardware (version ∙ ap (λ (v : ℕ). let y : Command = Sync (s.DevVersionAns v hardware) in y) same) in
            let none : 1 ≤ rank (At Version) = subst (λ (y : Stage). 1 ≤ rank y) is some in
            omega (arith, none)) in
            let far : 1 ≤ rank now = omega (arith, goes.up, up) in
            subst (λ (y : Command). stage_after later image now y ≡ now) (sym version) (other_version later image now firmware hardware other far)
