use Rattle.std.proofs.Common.{List, ℕ, ◌++◌, sym, ap, ◌∙◌}
use Rattle.std.specs.Prelude.{codes}
use Rattle.script_lines.specs.declared.forms.Campaign.TheVariants as campaign
use Rattle.campaign_server.specs.Server.{ServerState}
use Rattle.campaign_world.specs.World.{WorldState}
use Rattle.pair_run.specs.PairReport.{pair_image_line}
use Rattle.pair_run.proofs.Parts.{report_told}
use Rattle.pair_run.proofs.report.report.Goals as goal

pub returns : goal.returns
returns c = λ pair sa sb own.
    report_told pair _ _ c.deref.result.now _ _
    (c.in_ok-extend_from_slice-2.ensures.items ∙ ap (λ (l : List ℕ). l ++ codes "end\n") c.in_ok-extend_from_slice.ensures.items)
    c.in_ok-text.ensures
    (ap (λ (s : ServerState). pair_image_line campaign.A s) (c.in-Some-Some.ensures.found ∙ sym (ap (λ (w : WorldState). w.server) sa.rest)))
    (ap (λ (s : ServerState). pair_image_line campaign.B s) (c.in-Some-Some.ensures'.found ∙ sym (ap (λ (w : WorldState). w.server) sb.rest)))
    (c.deref.ensures.value ∙ c.in_ok-parts.ensures pair sa sb own)
