-- What backs a stage and an answer: facts of the device that stay, each a proposition here. An answer that is true leads to a
-- stage that is backed.
use Rattle.std.proofs.Common.{◌≡◌, ◌⊎◌, inl, inr, ⊎_elim, ℕ, ◌+◌, ◌≤◌, ◌==◌, Bool, true, false, cond, List, [], ◌∷◌, Option, None, Some, is_some, refl, arith, eqb-true}
use Rattle.std.specs.List.{AllByRecursion}
use Rattle.image_slots.specs.Image.{is_for, firmware_of}
use Rattle.cast_wire.specs.SetupRefusal.{refusal_bits}
use Rattle.cast_wire.specs.declared.cmd.Cmd.TheVariants as c
use Rattle.sync_wire.specs.declared.cmd.Cmd.TheVariants as s
use Rattle.package_grammar.specs.declared.command.Command.{Command}
use Rattle.package_grammar.specs.declared.command.Command.TheVariants.{Sync, Cast}
use Rattle.campaign_server.specs.declared.plan.PlanGroup.{PlanGroup}
use Rattle.campaign_server.specs.declared.stage.Request.{Request}
use Rattle.campaign_server.specs.declared.stage.Request.TheVariants.{Version, Group, Fragments, Window, Status, Image, Reboot, Check}
use Rattle.campaign_server.specs.declared.stage.Stage.{Stage}
use Rattle.campaign_server.specs.declared.stage.Stage.TheVariants.{At, Updated, Refused}
use Rattle.campaign_server.specs.Plan.{Plan, own_id}
use Rattle.wire_base.specs.Numbers.{flag_value}
use Rattle.campaign_server.specs.Answers.{is_class_b, is_class_c, window_bits, unless_refused, where_own, stage_after, stage_after_all}
use Rattle.campaign_laws.specs.Once.{rank}
use Rattle.campaign_laws.proofs.Ranks.{rank_up}

-- facts of a device that stay true: it has the group, or the plan has none; it has the image, as next or as what runs; it runs
-- the image; its rows were exceeded
pub record Facts : Type 1 where
  pub Grouped : Type 0
  pub HasImage : Type 0
  pub Runs : Type 0
  pub IsOver : Type 0

-- a stage that a plan without a group leaves out
abbrev pub IsOfGroup : Stage → Type 0
IsOfGroup stage = (stage ≡ At Group) ⊎ (stage ≡ At Window)

-- what is true of a device at a stage
pub record StandsAt (f : Facts) (plan : Plan) (stage : Stage) : Type 0 where
  pub grouped : 2 ≤ rank stage → f.Grouped
  pub has : 5 ≤ rank stage → f.HasImage
  pub runs : 7 ≤ rank stage → f.Runs
  pub planned : IsOfGroup stage → is_some plan.group ≡ true

-- and where it was refused, its rows were exceeded
abbrev pub Backs : Facts → Plan → Stage → Type 0
Backs f plan (Refused request bits) = f.IsOver
Backs f plan stage = StandsAt f plan stage

-- what is true of a device that made this answer
abbrev pub IsTrue : Facts → (image : List ℕ) → (index : ℕ) → Command → Type 0
IsTrue f image index (Sync (s.DevVersionAns firmware hardware)) = (is_for image hardware ≡ true) × (firmware ≡ firmware_of image → f.Runs)
IsTrue f image index (Cast (c.McGroupSetupAns id error)) = (error ≡ false) × f.Grouped
IsTrue f image index (Cast (c.FragSessionSetupAns at descriptor unsupported memory encoding)) = refusal_bits descriptor unsupported memory encoding ≡ 0
IsTrue f image index (Cast (c.McClassCSessionAns id undefined freq dr start)) = window_bits undefined freq dr ≡ 0
IsTrue f image index (Cast (c.McClassBSessionAns id undefined freq dr start)) = window_bits undefined freq dr ≡ 0
IsTrue f image index (Cast (c.FragSessionStatusAns at received missing norows)) =
    (at ≡ index → norows ≡ true → f.IsOver) × (at ≡ index → norows ≡ false → missing ≡ 0 → f.HasImage)
IsTrue f image index (Sync (s.DevUpgradeImageAns status next)) = (next ≡ Some (firmware_of image)) ⊎ f.Runs
IsTrue f image index (Sync (s.DevRebootCountdownAns count)) = f.Runs
IsTrue f image index command = Unit {0}

-- at a stage that is none of these
stand : (f : Facts) (plan : Plan) (stage : Stage) → (stage ≡ At Group → ⊥) → (stage ≡ At Window → ⊥) → (2 ≤ rank stage → f.Grouped) → (5 ≤ rank stage → f.HasImage)
    → (7 ≤ rank stage → f.Runs) → StandsAt f plan stage
stand f plan stage one other grouped has runs = record { grouped = grouped; has = has; runs = runs; planned = λ at. ⊎_elim (λ is. absurd (one is)) (λ is. absurd (other is)) at }

either : (f : Facts) (plan : Plan) (b : Bool) (one other : Stage) → (b ≡ true → Backs f plan one) → (b ≡ false → Backs f plan other) → Backs f plan (cond b one other)
either f plan true one other k l = k refl
either f plan false one other k l = l refl

-- an answer without bits leads on, where it is for the own id or index
led : (f : Facts) (plan : Plan) (own told bits : ℕ) (r : Request) (next : Stage) → bits ≡ 0 → Backs f plan (At r) → Backs f plan next
    → Backs f plan (where_own own told r (unless_refused r bits next))
led f plan own told bits r next none stays leads =
    let zero : (bits == 0) ≡ true = grind (arith, none) in
    either f plan (told == own) (unless_refused r bits next) (At r) (λ own. rw zero leads) (λ other. stays)

version_backed : (f : Facts) (plan : Plan) (image : List ℕ) (firmware hardware : ℕ) → (plan.group ≡ None → f.Grouped) → is_for image hardware ≡ true
    → Backs f plan (stage_after plan image (At Version) (Sync (s.DevVersionAns firmware hardware)))
unfolding stage_after
version_backed f plan image firmware hardware ungrouped is = rw is (by plan.group refl)
  where
    by : (o : Option PlanGroup) → plan.group ≡ o → Backs f plan (At (cond (is_some o) Group Fragments))
    by None none = stand f plan (At Fragments) (λ e. cc) (λ e. cc) (λ far. ungrouped none) (λ far. absurd (omega (arith, far))) (λ far. absurd (omega (arith, far)))
    by (Some group) there = record {
      grouped = λ far. absurd (omega (arith, far));
      has = λ far. absurd (omega (arith, far));
      runs = λ far. absurd (omega (arith, far));
      planned = λ at. rw there refl;
    }

group_backed : (f : Facts) (plan : Plan) (image : List ℕ) (id : ℕ) (error : Bool) → StandsAt f plan (At Group) → error ≡ false → f.Grouped
    → Backs f plan (stage_after plan image (At Group) (Cast (c.McGroupSetupAns id error)))
unfolding stage_after
group_backed f plan image id error k none grouped =
    led f plan (own_id plan.group) id (flag_value error 4) Group (At Fragments) (rw none refl) k
    (stand f plan (At Fragments) (λ e. cc) (λ e. cc) (λ far. grouped) (λ far. absurd (omega (arith, far))) (λ far. absurd (omega (arith, far))))

setup_backed : (f : Facts) (plan : Plan) (image : List ℕ) (index : ℕ) (d u m e : Bool) → StandsAt f plan (At Fragments)
    → flag_value d 8 + flag_value u 4 + flag_value m 2 + flag_value e 1 ≡ 0
    → Backs f plan (stage_after plan image (At Fragments) (Cast (c.FragSessionSetupAns index d u m e)))
unfolding stage_after
setup_backed f plan image index d u m e k none =
    led f plan plan.index index (flag_value d 8 + flag_value u 4 + flag_value m 2 + flag_value e 1) Fragments (At (cond (is_some plan.group) Window Status)) none k
    (by (is_some plan.group) refl)
  where
    by : (b : Bool) → is_some plan.group ≡ b → Backs f plan (At (cond b Window Status))
    by true is = record {
      grouped = λ far. k.grouped (omega arith);
      has = λ far. absurd (omega (arith, far));
      runs = λ far. absurd (omega (arith, far));
      planned = λ at. is;
    }
    by false is = stand f plan (At Status) (λ e. cc) (λ e. cc) (λ far. k.grouped (omega arith)) (λ far. absurd (omega (arith, far))) (λ far. absurd (omega (arith, far)))

-- both classes alike
window_backed : (f : Facts) (plan : Plan) (own : Bool) (ours id bits : ℕ) → StandsAt f plan (At Window) → bits ≡ 0
    → Backs f plan (cond own (where_own ours id Window (unless_refused Window bits (At Status))) (At Window))
window_backed f plan own ours id bits k none =
    either f plan own _ (At Window)
    (λ is. led f plan ours id bits Window (At Status) none k
    (stand f plan (At Status) (λ e. cc) (λ e. cc) (λ far. k.grouped (omega arith)) (λ far. absurd (omega (arith, far))) (λ far. absurd (omega (arith, far)))))
    (λ other. k)

status_backed : (f : Facts) (plan : Plan) (image : List ℕ) (index received missing : ℕ) (norows : Bool) → StandsAt f plan (At Status)
    → (index ≡ plan.index → norows ≡ true → f.IsOver) → (index ≡ plan.index → norows ≡ false → missing ≡ 0 → f.HasImage)
    → Backs f plan (stage_after plan image (At Status) (Cast (c.FragSessionStatusAns index received missing norows)))
unfolding stage_after
status_backed f plan image index received missing norows k over has =
    either f plan (index == plan.index) _ (At Status) (λ own. by norows refl (eqb-true _ _ own)) (λ other. k)
  where
    by : (b : Bool) → norows ≡ b → index ≡ plan.index → Backs f plan (unless_refused Status (flag_value norows 1) (At (cond (missing == 0) Image Status)))
    by true is own = rw is (over own is)
    by false is own = rw is (none_by (missing == 0) refl)
      where
        none_by : (b : Bool) → (missing == 0) ≡ b → Backs f plan (At (cond b Image Status))
        none_by true none =
            stand f plan (At Image) (λ e. cc) (λ e. cc) (λ far. k.grouped (omega arith)) (λ far. has own is (eqb-true _ _ none)) (λ far. absurd (omega (arith, far)))
        none_by false some = k

upgrade_backed : (f : Facts) (plan : Plan) (image : List ℕ) (status : ℕ) (next : Option ℕ) → (f.Runs → 6 ≤ rank (At Image)) → StandsAt f plan (At Image)
    → (next ≡ Some (firmware_of image)) ⊎ f.Runs → Backs f plan (stage_after plan image (At Image) (Sync (s.DevUpgradeImageAns status next)))
unfolding stage_after
upgrade_backed f plan image status next late k (inr runs) = absurd (let far = late runs in omega (arith, far))
upgrade_backed f plan image status None late k (inl is) = absurd cc
upgrade_backed f plan image status (Some version) late k (inl is) =
    let told : version ≡ firmware_of image = cc in
    let same : (version == firmware_of image) ≡ true = grind (arith, told) in
    rw same (stand f plan (At Reboot) (λ e. cc) (λ e. cc) (λ far. k.grouped (omega arith)) (λ far. k.has (omega arith)) (λ far. absurd (omega (arith, far))))

check_backed : (f : Facts) (plan : Plan) (image : List ℕ) (firmware hardware : ℕ) → StandsAt f plan (At Check)
    → Backs f plan (stage_after plan image (At Check) (Sync (s.DevVersionAns firmware hardware)))
unfolding stage_after
check_backed f plan image firmware hardware k =
    either f plan (firmware == firmware_of image) Updated (At Check)
    (λ same. stand f plan Updated (λ e. cc) (λ e. cc) (λ far. k.grouped (omega arith)) (λ far. k.has (omega arith)) (λ far. k.runs (omega arith)))
    (λ other. k)

-- each command at each stage
backed_on : (f : Facts) (plan : Plan) (image : List ℕ) (stage : Stage) (command : Command) → (plan.group ≡ None → f.Grouped)
    → (f.Runs → 6 ≤ rank stage) → Backs f plan stage → IsTrue f image plan.index command → Backs f plan (stage_after plan image stage command)
unfolding stage_after
backed_on f plan image (At Version) (Sync (s.DevVersionAns firmware hardware)) ungrouped late k is = version_backed f plan image firmware hardware ungrouped is.0
backed_on f plan image (At Group) (Cast (c.McGroupSetupAns id error)) ungrouped late k is = group_backed f plan image id error k is.0 is.1
backed_on f plan image (At Fragments) (Cast (c.FragSessionSetupAns index d u m e)) ungrouped late k is = setup_backed f plan image index d u m e k is
backed_on f plan image (At Window) (Cast (c.McClassCSessionAns id undefined freq dr start)) ungrouped late k is =
    window_backed f plan (is_class_c plan.window) (own_id plan.group) id (window_bits undefined freq dr) k is
backed_on f plan image (At Window) (Cast (c.McClassBSessionAns id undefined freq dr start)) ungrouped late k is =
    window_backed f plan (is_class_b plan.window) (own_id plan.group) id (window_bits undefined freq dr) k is
backed_on f plan image (At Status) (Cast (c.FragSessionStatusAns index received missing norows)) ungrouped late k is =
    status_backed f plan image index received missing norows k is.0 is.1
backed_on f plan image (At Image) (Sync (s.DevUpgradeImageAns status next)) ungrouped late k is = upgrade_backed f plan image status next late k is
backed_on f plan image (At Reboot) (Sync (s.DevRebootCountdownAns count)) ungrouped late k is =
    stand f plan (At Check) (λ e. cc) (λ e. cc) (λ far. k.grouped (omega arith)) (λ far. k.has (omega arith)) (λ far. is)
backed_on f plan image (At Check) (Sync (s.DevVersionAns firmware hardware)) ungrouped late k is = check_backed f plan image firmware hardware k
backed_on f plan image stage command ungrouped late k is = k

-- and the commands of an uplink, one after another
pub all_backed : (f : Facts) (plan : Plan) (image : List ℕ) (stage : Stage) (cs : List Command) → (plan.group ≡ None → f.Grouped)
    → (f.Runs → 6 ≤ rank stage) → Backs f plan stage → AllByRecursion (IsTrue f image plan.index) cs → Backs f plan (stage_after_all plan image stage cs)
unfolding stage_after_all
all_backed f plan image stage [] ungrouped late k all = k
all_backed f plan image stage (x ∷ cs) ungrouped late k all =
    all_backed f plan image (stage_after plan image stage x) cs ungrouped
    (λ runs. let far = late runs in let up = rank_up plan image stage x in omega (arith, far, up))
    (backed_on f plan image stage x ungrouped late k all.0) all.1
