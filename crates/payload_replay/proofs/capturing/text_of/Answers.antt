use Rattle.std.proofs.Common.{List, ℕ, ◌++◌, sym, ap, ◌∙◌, subst}
use Rattle.payload_replay.specs.HeldCapturing.{HeldCaught, CaughtStands}
use Rattle.payload_replay.proofs.CaptureLines.{text_behind}
use Rattle.payload_replay.proofs.capturing.text_of.Goals as goal

pub returns : goal.returns
returns c = λ all stands.
    let inside : HeldCaught = record { text = c.caught.inside.text.items; device = c.caught.inside.device } in
    let here : CaughtStands inside all = subst (λ (h : HeldCaught). CaughtStands h all) (sym c.caught.view_is) stands in
    c.in_ok-extend_from_slice.ensures.items
    ∙ ap (λ (t : List ℕ). inside.text ++ t) (c.as_bytes.ensures.value ∙ c.in_ok-closing.ensures all.device here.device)
    ∙ text_behind inside all here
