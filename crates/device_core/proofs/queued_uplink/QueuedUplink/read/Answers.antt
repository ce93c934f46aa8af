use Rattle.std.proofs.Common.{◌≡◌, true, false, ap, sym, ◌∙◌}
use Rattle.std.proofs.lemmas.Slice.Eq.{bytes_eq-Decides}
use Rattle.package_grammar.specs.Grammar.{canonical}
use Rattle.device_core.specs.declared.uplink.Uplink.{Uplink}
use Rattle.device_core.proofs.SavedUplinks.{not_refused, not_empty, same_payload, if_none}
use Rattle.device_core.proofs.queued_uplink.QueuedUplink.read.Goals as goal

pub returns-in_default-clause-none : goal.returns-in_default-clause-none
returns-in_default-clause-none c = not_refused _ c.in_default.field-0 (rw c.in_default.is at c.read.ensures.reading)

pub returns-in_err-command-clause-none : goal.returns-in_err-command-clause-none
returns-in_err-command-clause-none c =
    if_none c.from_residual.result (not_empty _ c.in-Ok.message c.in-Ok.ensures.reading c.in_err-command.ensures.takes.0)

pub returns-else-eq-clause-none : goal.returns-else-eq-clause-none
returns-else-eq-clause-none c = λ is.
    let spelled = same_payload (record { due = c.args.due; port = c.args.port; payload = c.args.payload.now }) c.in-Ok.message c.next.new.self
    c.in_ok-command.command c.in-Ok.ensures.reading c.in_ok-command.ensures.takes is in
    let held : c.of-uplink.result.payload ≡ canonical c.in_ok-command.command = ap (λ (u : Uplink). u.payload) c.of-uplink.ensures.uplink in
    let inside : c.uplink.inside.bytes.items ≡ c.of-uplink.result.payload = ap (λ (u : Uplink). u.payload) c.uplink.view_is in
    let same : c.as_slice.result.now ≡ c.args.payload.now = c.as_slice.ensures.value ∙ inside ∙ held ∙ spelled in
    let equal : c.eq.result ≡ true = c.eq.ensures ∙ (bytes_eq-Decides c.as_slice.result.now c.args.payload.now).1 same in
    let no : true ≡ false = sym equal ∙ c.if-eq.false in
    absurd cc
