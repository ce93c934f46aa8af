-- Why there is no server.
use Rattle.std.proofs.Common.{◌≡◌, ◌⊎◌, inl, inr, ℕ, true, List, length, take, Option, Some, None, Result, Ok, Err, refl, sym, ap, subst, ◌∙◌}
use Rattle.image_slots.specs.Image.{is_image}
use Rattle.campaign_server.specs.declared.plan.Field.{Field}
use Rattle.campaign_server.specs.declared.saving.RestoreError.{RestoreError}
use Rattle.campaign_server.specs.declared.saving.RestoreError.TheVariants.{Memory, BadPlan, Corrupt}
use Rattle.campaign_server.specs.Plan.{Plan, bad_field}
use Rattle.campaign_server.specs.Server.{ServerState}
use Rattle.c_base.specs.Answer.{range}
use Rattle.fuota_server_c.specs.declared.plan.PlanDeviceFields.{PlanDeviceFields}
use Rattle.fuota_server_c.specs.declared.plan.PlanFields.{PlanFields}
use Rattle.fuota_server_c.specs.Plan.{IsNewServer, IsNoServer, field_number, plan_of, most_copied}
use Rattle.fuota_server_c.specs.Saving.{AreCorrupt, IsBack, IsServerBack}
use Rattle.fuota_server_c.proofs.Copied.{same_field, all_copied}

-- a field of the plan is wrong
pub wrong_field : (image : List ℕ) (fields : PlanFields) (devices : List PlanDeviceFields) (plan : Plan) (field : Field) (old new : ℕ)
    → plan ≡ plan_of fields (take most_copied devices) → is_image image ≡ true → bad_field (length image) plan ≡ Some field
    → new ≡ field_number field → IsNoServer image (plan_of fields devices) old new range
wrong_field image fields devices plan field old new same is first number =
    let told = sym (same_field (length image) fields devices) ∙ ap (bad_field (length image)) (sym same) ∙ first in
    inr (inl (refl, is, record { field = field; first = told; told = number }))

-- no field is: it is the plan of all devices
pub whole_plan : (image : List ℕ) (fields : PlanFields) (devices : List PlanDeviceFields) (plan : Plan)
    → plan ≡ plan_of fields (take most_copied devices) → bad_field (length image) plan ≡ None → plan ≡ plan_of fields devices
whole_plan image fields devices plan same none =
    same ∙ ap (plan_of fields) (all_copied (length image) fields devices (ap (bad_field (length image)) (sym same) ∙ none))

-- the bytes were refused: no field of the plan is wrong
fine : (r : Result ServerState RestoreError) (first : Option Field) → r ≡ Err Corrupt
    → ((field : Field) → first ≡ Some field → r ≡ Err (BadPlan field)) → first ≡ None
fine r None is wrong = refl
fine r (Some field) is wrong = let bad = wrong field refl in absurd cc

-- and no server has them
of_none : (r : Result ServerState RestoreError) (x : ServerState) → r ≡ Err Corrupt → (r ≡ Ok x) ⊎ (r ≡ Err Memory) → ⊥
of_none r x is (inl ok) = cc
of_none r x is (inr memory) = cc

pub corrupt_bytes : (image : List ℕ) (fields : PlanFields) (devices : List PlanDeviceFields) (plan : Plan) (bytes : List ℕ) (r : Result ServerState RestoreError)
    → plan ≡ plan_of fields (take most_copied devices)
    → r ≡ Err Corrupt → ((field : Field) → bad_field (length image) plan ≡ Some field → r ≡ Err (BadPlan field))
    → ((x : ServerState) → IsBack image plan bytes x → (r ≡ Ok x) ⊎ (r ≡ Err Memory)) → AreCorrupt image (plan_of fields devices) bytes
corrupt_bytes image fields devices plan bytes r same is wrong restored =
    let none = fine r (bad_field (length image) plan) is wrong in
    subst (λ (p : Plan). AreCorrupt image p bytes) (whole_plan image fields devices plan same none)
    (record { fine = none; of_none = λ x back. of_none r x is (restored x back) })

-- and then a handle has none
pub new_none : (image : List ℕ) (plan : Plan) (held : Option ServerState) (old new answer : ℕ) → held ≡ None
    → IsNoServer image plan old new answer → IsNewServer image plan held old new answer
new_none image plan None old new answer none why = why
new_none image plan (Some x) old new answer none why = absurd cc

pub back_none : (image : List ℕ) (plan : Plan) (bytes : List ℕ) (held : Option ServerState) (old new answer : ℕ) → held ≡ None
    → IsServerBack image plan bytes None old new answer → IsServerBack image plan bytes held old new answer
back_none image plan bytes None old new answer none why = why
back_none image plan bytes (Some x) old new answer none why = absurd cc
