use Rattle.std.proofs.Common.{◌≡◌, None, Some, sym, ap, ◌∙◌}
use Rattle.payload_replay.specs.HeldDecoding.{HeldDecoding}
use Rattle.payload_replay.proofs.Payloads.{decoded_told, decoded_error}
use Rattle.payload_replay.proofs.decoding.Decoding.text.Goals as goal

pub returns-in-Some : goal.returns-in-Some
returns-in-Some c = λ port dir file stands.
    let kept : c.args.self.kept ≡ Some c.in-Some.error = ap (λ (h : HeldDecoding). h.kept) (sym c.self.view_is) ∙ c.in-Some.is in
    decoded_error c.args.self port dir file c.in-Some.error kept stands

pub returns-in-None : goal.returns-in-None
returns-in-None c = λ port dir file stands.
    let none : c.args.self.kept ≡ None = ap (λ (h : HeldDecoding). h.kept) (sym c.self.view_is) ∙ c.in-None.is in
    let text : c.self.inside.text.items ≡ c.args.self.text = ap (λ (h : HeldDecoding). h.text) c.self.view_is in
    decoded_told c.args.self port dir file c.self.inside.text.items c.ended.result none text c.ended.ensures.text c.ended.ensures.memory stands
