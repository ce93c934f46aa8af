use Rattle.std.proofs.Common.{◌≡◌, ℕ, List, [], IfOk, ap, subst, ◌∙◌}
use Rattle.std.specs.Prelude.{string_bytes}
use Rattle.device_core.specs.Device.{first_device}
use Rattle.device_core.specs.Configuration.{Configuration}
use Rattle.report_lines.specs.declared.devices.Standing.{Standing}
use Rattle.report_lines.specs.Devices.{◌⧺◌, standing_of, standing_line, counts_line}
use Rattle.campaign_world.proofs.Lateness.{first_lines}
use Rattle.campaign_world.proofs.Steps.{none_now}
use Rattle.campaign_world.proofs.report.device_part.Goals as goal

pub returns-in-None : goal.returns-in-None
returns-in-None c = λ d rests.
    let stands = c.first_standing.ensures ∙ ap (λ (x : Configuration). standing_of (first_device x)) c.config.ensures in
    let shown = ap (λ (s : Standing). standing_line c.args.name.now c.args.stage s
    ⧺ counts_line (record { deaf = 0; refused = 0; full = 0; dropped = 0 }) ⧺ []) stands in
    let lines = first_lines c.args.image.now c.args.name.now c.args.stage c.args.late.now d (none_now _ _ _ c.device.ensures c.in-None.is) rests in
    subst (λ (l : List ℕ). IfOk c.all_lines-in-None.result (λ text. string_bytes text ≡ l)) (shown ∙ lines) c.all_lines-in-None.ensures
