-- Each uplink that a world holds is of one command, so once it has moved a stage it moves none.
use Rattle.std.proofs.Common.{◌≡◌, ◌≢◌, ◌∙◌, ℕ, [], ◌∷◌, Option, None, Some, Ok, IfSome, option_map, refl, ap, subst}
use Rattle.wire_base.specs.declared.refusal.Direction.TheVariants.{Up as Upwards}
use Rattle.wire_base.specs.Numbered.{numbered}
use Rattle.package_grammar.specs.Grammar.{canonical}
use Rattle.package_grammar.specs.Reading.{reading_of}
use Rattle.package_grammar.proofs.Written.{message_of}
use Rattle.package_grammar.proofs.ReadingLaw.{read_as}
use Rattle.device_core.specs.Sendable.{IsUplink}
use Rattle.device_core.specs.declared.uplink.Uplink.{Uplink}
use Rattle.campaign_world.specs.declared.numbered.NumberedUplink.{NumberedUplink}
use Rattle.campaign_world.specs.World.{WorldState}
use Rattle.campaign_world.specs.HeldWorld.{HeldWorld}
use Rattle.campaign_world.specs.Making.{after_up}
use Rattle.campaign_laws.specs.OnceInWorld.{MovesOnceIn}
use Rattle.campaign_laws.proofs.Once.{an_uplink_moves_once}

-- what was found is of one command
pub single_at : (result : Option Uplink) (found : Option NumberedUplink) (made : NumberedUplink)
    → result ≡ option_map (λ (m : NumberedUplink). m.uplink) found → IfSome result (λ u. IsUplink u) → found ≡ Some made
    → IsUplink made.uplink
single_at result found made is single there =
    let some : result ≡ Some made.uplink = is ∙ ap (option_map (λ (m : NumberedUplink). m.uplink)) there in
    subst (λ (o : Option Uplink). IfSome o (λ u. IsUplink u)) some single

-- and is read as that command
pub reads_alone : (uplink : Uplink) (is : IsUplink uplink) → reading_of uplink.port Upwards uplink.payload ≡ Ok (is.command ∷ [])
reads_alone uplink is =
    rw (is.bytes) (read_as uplink.port Upwards (canonical is.command) (Ok (is.command ∷ [])) (message_of is.command uplink.port Upwards is.sendable.valid is.sendable.listed))

held_alike : (held : HeldWorld) (number : ℕ) → ((made : NumberedUplink) → numbered held.uplinks number ≡ Some made → IsUplink made.uplink)
    → (found : Option NumberedUplink) → (world : WorldState) → world.uplinks ≡ held.uplinks → numbered world.uplinks number ≡ found
    → (after_up world (numbered world.uplinks number)).server.stages ≢ world.server.stages
    → (made : NumberedUplink) × (numbered world.uplinks number ≡ Some made) × IsUplink made.uplink
held_alike held number single None world same is moved = absurd (moved (ap (λ (o : Option NumberedUplink). (after_up world o).server.stages) is))
held_alike held number single (Some made) world same is moved = (made, is, single made (rw (same) at is))

pub moves_once_in : (held : HeldWorld) (number : ℕ) → ((made : NumberedUplink) → numbered held.uplinks number ≡ Some made → IsUplink made.uplink)
    → MovesOnceIn held number
moves_once_in held number single image line before between world later stands bytes file fits honest read says more moved =
    let one = held_alike held number single (numbered world.uplinks number) world (ap (λ (w : WorldState). w.uplinks) stands.rest) refl moved in
    an_uplink_moves_once image line before between number world later one.0 one.2.command bytes file fits honest read says more one.1 (reads_alone one.0.uplink one.2) moved
