use Rattle.std.proofs.Common.{◌≡◌, List, ℕ, ◌++◌, IfOk, codes, string_bytes, sym, ap, ◌∙◌, subst}
use Rattle.device_core.specs.declared.counts.Counts.{Counts}
use Rattle.device_core.specs.Device.{DeviceState}
use Rattle.report_lines.specs.Devices.{counts_line}
use Rattle.report_lines.specs.Sessions.{whole, session_lines}
use Rattle.payload_replay.proofs.hearer.closing_text.Goals as goal

pub returns : goal.returns
returns c = λ d stands.
    let held : c.counts.result ≡ d.counts = c.counts.ensures ∙ sym (ap (λ (x : DeviceState). x.counts) stands.rest) in
    let counts : c.as_str.result.now ≡ counts_line d.counts =
    c.as_str.ensures.value ∙ c.in_ok-counts.ensures ∙ ap (λ (k : Counts). counts_line k) held in
    let sessions : c.as_str-2.result.now ≡ session_lines whole d.sessions =
    c.as_str-2.ensures.value ∙ c.in_ok-sessions.ensures d stands in
    subst (λ (s : List ℕ). IfOk c.closing_lines.result (λ text. string_bytes text ≡ counts_line d.counts ++ (s ++ codes "end\n"))) sessions
    (subst (λ (k : List ℕ). IfOk c.closing_lines.result (λ text. string_bytes text ≡ k ++ (c.as_str-2.result.now ++ codes "end\n"))) counts
    c.closing_lines.ensures)
