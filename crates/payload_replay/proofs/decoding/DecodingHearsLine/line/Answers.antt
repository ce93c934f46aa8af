use Rattle.std.proofs.Common.{◌≡◌, ◌+◌, ◌∙◌, Some, sym, ap, subst}
use Rattle.payload_replay.specs.HeldDecoding.{HeldDecoding, HearsDecoded}
use Rattle.payload_replay.proofs.Payloads.{decoded_taken, decoded_refused, decoded_kept}
use Rattle.payload_replay.proofs.decoding.DecodingHearsLine.line.Goals as goal

pub returns-in-Some : goal.returns-in-Some
returns-in-Some c =
    let kept : c.args.self.now.kept ≡ Some c.in-Some.field-0 = ap (λ (h : HeldDecoding). h.kept) (sym c.self.view_is) ∙ c.in-Some.is in
    decoded_kept c.args.self.now c.args.line.now c.in-Some.field-0 kept

pub returns-in-Ok : goal.returns-in-Ok
returns-in-Ok c =
    let old : HeldDecoding = record {
      port = c.self.inside.port;
      direction = c.self.inside.dir;
      lines = c.self.inside.lines;
      text = c.self.inside.text.items;
      kept = c.self.inside.kept;
    } in
    let made = c.in-Ok.ensures.shown in
    let text = c.decode_line.new.text.items in
    subst (λ (h : HeldDecoding). HearsDecoded h c.args.line.now (record old { lines = old.lines + 1; text = text })) c.self.view_is
    (decoded_taken old text c.args.line.now made.0 c.in-None.is made.1 made.2)

pub returns-in-Err : goal.returns-in-Err
returns-in-Err c =
    let old : HeldDecoding = record {
      port = c.self.inside.port;
      direction = c.self.inside.dir;
      lines = c.self.inside.lines;
      text = c.self.inside.text.items;
      kept = c.self.inside.kept;
    } in
    let text = c.decode_line.new.text.items in
    subst (λ (h : HeldDecoding). HearsDecoded h c.args.line.now (record old { text = text; kept = Some c.in-Err.error })) c.self.view_is
    (decoded_refused old text c.args.line.now c.in-Err.error c.in-None.is c.in-Err.ensures.refused)
