use Rattle.std.proofs.Common.{refl, sym, ◌∙◌}
use Rattle.script_lines.proofs.HexWords.{digits_long, sized}
use Rattle.script_lines.proofs.hex_bytes.spell.Goals as goal

pub unwrap-requires : goal.unwrap-requires
unwrap-requires c =
    let digits = sym c.is_dash.ensures ∙ c.if-is_dash.false in
    let long = digits_long c.args.word.now digits c.requires.spells ∙ sym c.requires.room in
    let done = rw (sized c.args.word.now _ digits c.requires.spells long) at c.decode_to_slice.ensures.value in
    rw (done.0) refl
