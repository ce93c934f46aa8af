use Rattle.std.proofs.Common.{◌≡◌, ℕ, suc, ◌+◌, ◌-◌, ◌*◌, ◌/◌, false, replicate, arith, ap, ◌∙◌}
use Rattle.frag_model.proofs.Drawing.{turn_finds, turn_passes, turn_stops, turn_begins, turn_ends}
use Rattle.frag_model.proofs.lines.plain_line.Goals as goal
use Rattle.frag_model.proofs.lines.plain_line.Goals.{then-found-half+then-residue-cols, then-found-half+else-residue-cols, else-found-half}

pub loop-turn-preserved : goal.loop-turn-preserved
loop-turn-preserved c =
    let total : ℕ = 25 * (c.args.cols / 2) in
    let next : ℕ = total - (c.loop-turn.turn + 1) in
    let one : total - c.loop-turn.turn ≡ suc next = omega arith in
    let h = c.loop-turn.invariant.drawing in
    elim c.if-found-half.branch [
      | then-found-half+then-residue-cols w ↦ rw (w.out-is, w.x-is, w.found-is, w.draws-is) (record {
        drawing = turn_finds c.args.n c.args.cols (total - c.loop-turn.turn) next c.loop-turn.x c.loop-turn.found c.loop-turn.draws _ _ c.loop-turn.out one
            w.plain_prbs23-x.ensures c.plain_modulus-modulus.ensures.value w.if-found-half.true w.if-residue-cols.true h;
        few = omega arith;
      })
      | then-found-half+else-residue-cols w ↦ rw (w.out-is, w.x-is, w.found-is, w.draws-is) (record {
        drawing = turn_passes c.args.n c.args.cols (total - c.loop-turn.turn) next c.loop-turn.x c.loop-turn.found c.loop-turn.draws _ _ c.loop-turn.out one
            w.plain_prbs23-x.ensures c.plain_modulus-modulus.ensures.value w.if-found-half.true w.if-residue-cols.false h;
        few = omega arith;
      })
      | else-found-half w ↦ rw (w.out-is, w.x-is, w.found-is, w.draws-is) (record {
        drawing = turn_stops c.args.n c.args.cols (total - c.loop-turn.turn) next c.loop-turn.x c.loop-turn.found c.loop-turn.draws c.loop-turn.out one
            w.if-found-half.false h;
        few = omega arith;
      })
    ]

pub loop-turn-init : goal.loop-turn-init
loop-turn-init c =
    let all : c.fill.new.self ≡ replicate c.args.cols false =
    c.fill.ensures.after (λ y e. e) ∙ ap (λ n. replicate n false) c.requires.room in
    record {
      drawing = turn_begins c.args.n c.args.cols (25 * (c.args.cols / 2) - 0) c.fill.new.self c.requires.last (omega arith) all;
      few = omega arith;
    }

pub returns-clause-line : goal.returns-clause-line
returns-clause-line c =
    (turn_ends c.args.n c.args.cols (25 * (c.args.cols / 2) - c.loop-turn.turn) c.loop-turn.x c.loop-turn.found c.loop-turn.draws c.loop-turn.out (omega arith) c.loop-turn.invariant.drawing).0

pub returns-clause-draws : goal.returns-clause-draws
returns-clause-draws c =
    (turn_ends c.args.n c.args.cols (25 * (c.args.cols / 2) - c.loop-turn.turn) c.loop-turn.x c.loop-turn.found c.loop-turn.draws c.loop-turn.out (omega arith) c.loop-turn.invariant.drawing).1
