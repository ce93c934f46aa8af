use Rattle.std.proofs.Common.{◌≡◌, ℕ, ◌-◌, ap, min, length, ◌∙◌, arith}
use Rattle.std.proofs.lemmas.List.{length-take}
use Rattle.script_lines.proofs.CutLines.{held_front, on_ok}
use Rattle.script_lines.proofs.pieces.hold.Goals as goal

pub returns-clause-held : goal.returns-clause-held
returns-clause-held c =
    let room : c.min.result ≡ min (601 - length c.args.held.now.items) (length c.args.bytes.now) =
    c.min.ensures ∙ ap (λ (n : ℕ). min (601 - n) (length c.args.bytes.now)) c.len-room.ensures.value in
    on_ok c.try_extend_from_slice-fits.result (c.try_extend_from_slice-fits.ensures.variant.1 (omega (arith, room, length-take c.min.result c.args.bytes.now))) c.try_extend_from_slice-fits.ensures.ok
    ∙ held_front c.args.held.now.items c.args.bytes.now c.min.result c.requires room
