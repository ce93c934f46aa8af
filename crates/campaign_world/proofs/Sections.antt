-- What is shown section by section.
use Rattle.std.proofs.Common.{◌≡◌, Bool, true, false, sym, ◌∙◌, true≢false}
use Rattle.campaign_world.specs.declared.section.Section.{Section}
use Rattle.campaign_world.specs.declared.section.Section.TheVariants.{Header, Image, Group, Window, Device, Devices, Events, Ended}

-- a case for each, in their order
pub by_section : (P : Section → Type 0) → P Header → P Image → P Group → P Window → P Device → P Devices → P Events → P Ended
    → (here : Section) → P here
by_section P header image group window device devices events ended Header = header
by_section P header image group window device devices events ended Image = image
by_section P header image group window device devices events ended Group = group
by_section P header image group window device devices events ended Window = window
by_section P header image group window device devices events ended Device = device
by_section P header image group window device devices events ended Devices = devices
by_section P header image group window device devices events ended Events = events
by_section P header image group window device devices events ended Ended = ended

-- a test that no such section passes
pub never : {X : Type 0} → false ≡ true → X
never is = absurd cc

pub clash : {X : Type 0} (b : Bool) → b ≡ false → b ≡ true → X
clash b not is = absurd (true≢false (sym is ∙ not))
