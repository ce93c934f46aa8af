-- What a server saves for C, and the server that is restored from such bytes.
use Rattle.std.specs.Prelude.{◌≡◌, ◌⊎◌, ℕ, true, List, length, Option, Some, None}
use Rattle.image_slots.specs.Image.{is_image}
use Rattle.campaign_server.specs.Plan.{Plan, bad_field}
use Rattle.campaign_server.specs.Saving.{IsOver, saved_of}
use Rattle.campaign_server.specs.Server.{ServerState}
use Rattle.c_base.specs.Answer.{done, corrupt}
use Rattle.fuota_server_c.specs.Plan.{IsNoServer}

-- the server of this plan and image that saved the bytes
abbrev pub IsBack : (image : List ℕ) → Plan → (bytes : List ℕ) → ServerState → Type 0
IsBack image plan bytes x = IsOver plan image x × (saved_of x ≡ bytes)

-- no field of the plan is wrong, and no server of this plan and image saved the bytes
pub record AreCorrupt (image : List ℕ) (plan : Plan) (bytes : List ℕ) : Type 0 where
  pub fine : bad_field (length image) plan ≡ None
  pub of_none : (x : ServerState) → IsBack image plan bytes x → ⊥

-- there is none, as at a new one, or the bytes are of none
abbrev pub IsServerBack : (image : List ℕ) → Plan → (bytes : List ℕ) → Option ServerState → (old new answer : ℕ) → Type 0
IsServerBack image plan bytes (Some x) old new answer =
    (answer ≡ done) × (is_image image ≡ true) × IsBack image plan bytes x × (new ≡ old)
IsServerBack image plan bytes None old new answer =
    IsNoServer image plan old new answer
    ⊎ ((answer ≡ corrupt) × (is_image image ≡ true) × AreCorrupt image plan bytes × (new ≡ old))
