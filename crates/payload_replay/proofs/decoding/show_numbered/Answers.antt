use Rattle.std.proofs.Common.{List, ℕ, ◌++◌, ap, ◌∙◌}
use Rattle.package_grammar.specs.Reading.{reading_of}
use Rattle.payload_replay.specs.Decode.{payload_text}
use Rattle.report_lines.proofs.Outcomes.{on_ok, on_ok_then}
use Rattle.payload_replay.proofs.Payloads.{numbered_on}
use Rattle.payload_replay.proofs.decoding.show_numbered.Goals as goal

pub returns : goal.returns
returns c = on_ok c.show_payload.result (λ ok.
    let shown = payload_text (reading_of c.args.port c.args.dir c.args.payload.now) in
    on_ok_then c.show_payload.result ok c.show_payload.ensures
    ∙ ap (λ (w : List ℕ). w ++ shown) (c.in_ok-extend_from_slice.ensures.items
    ∙ ap (λ (w : List ℕ). c.args.text.now.items ++ w) c.as_bytes.ensures.value)
    ∙ numbered_on c.args.text.now.items _ shown c.args.number c.in_ok-set_line_head.ensures)
