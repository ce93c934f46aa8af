use Rattle.std.proofs.Common.{◌≡◌, ℕ, suc, ◌+◌, ◌-◌, ◌*◌, ◌/◌, ◌%◌, ◌^◌, ◌<◌, ◌≤◌, length, ap, sym, subst, ◌∙◌, arith}
use Rattle.std.proofs.lemmas.Nat.{and_mask}
use Rattle.frag_model.specs.Parity.{prbs23}
use Rattle.parity_lines.proofs.Ahead.{first_ahead, rest_ahead}
use Rattle.parity_lines.proofs.Drawn.{InWords, words_begin, words_find, words_pass, words_done, words_end}
use Rattle.parity_lines.proofs.lines.line.Goals as goal
use Rattle.parity_lines.proofs.lines.line.Goals.{then-column-cols, else-column-cols}

pub loop-drawn-init : goal.loop-drawn-init
loop-drawn-init g c = record {
  drawing = words_begin c.args.n c.args.cols (25 * (c.args.cols / 2) - 0) (length c.args.out.now) c.fill.new.self c.requires.last (omega arith) (c.fill.ensures.after (λ y e. e));
  counted = omega arith;
  few = omega arith;
  most = omega arith;
}

pub loop-turn-init : goal.loop-turn-init
loop-turn-init g c = record {
  drawing = subst (λ y. InWords c.args.n c.args.cols (25 * (c.args.cols / 2) - c.loop-drawn.drawn) y c.loop-drawn.found c.loop-drawn.drawn c.loop-drawn.out)
      (sym c.ahead-states.ensures.first) c.loop-drawn.invariant.drawing;
  ahead = λ k lt. c.ahead-states.ensures.each k (omega arith);
  counted = omega arith;
  few = omega arith;
}

pub loop-turn-preserved : goal.loop-turn-preserved
loop-turn-preserved g c =
    let turn : ℕ = c.loop-turn.turn in
    let states : ℕ = c.loop-turn.states in
    let left : ℕ = 25 * (c.args.cols / 2) - turn in
    let next : ℕ = 25 * (c.args.cols / 2) - (turn + 1) in
    let one : left ≡ suc next = omega arith in
    let more : c.loop-turn.found < c.args.cols / 2 = omega arith in
    let room : c.args.cols ≤ 64 * length c.loop-turn.out = omega (arith, c.loop-turn.auto.out, c.loop-drawn.auto.out, c.fill.ensures.len) in
    let some : 0 < c.loop-drawn.drawn + 18 - turn = omega arith in
    let rest : c.loop-drawn.drawn + 18 - (turn + 1) < c.loop-drawn.drawn + 18 - turn = omega arith in
    let state : states / 2 % 2 ^ 23 ≡ prbs23 (states % 2 ^ 23) = first_ahead states _ some c.loop-turn.invariant.ahead in
    let column : c.residue-column.result ≡ states / 2 % 2 ^ 23 % c.plain_modulus-modulus.result =
    c.residue-column.ensures ∙ ap (λ s. s % c.plain_modulus-modulus.result) (and_mask (states / 2) 23) in
    elim c.if-column-cols.branch [
      | then-column-cols w ↦ rw (w.out-is, w.found-is) (record {
        drawing = words_find c.args.n c.args.cols left next (states % 2 ^ 23) c.loop-turn.found turn _ _ c.residue-column.result c.loop-turn.out one
            state c.plain_modulus-modulus.ensures.value column more w.if-column-cols.true room c.loop-turn.invariant.drawing;
        ahead = rest_ahead states _ _ rest c.loop-turn.invariant.ahead;
        counted = omega arith;
        few = omega arith;
      })
      | else-column-cols w ↦ rw (w.out-is, w.found-is) (record {
        drawing = words_pass c.args.n c.args.cols left next (states % 2 ^ 23) c.loop-turn.found turn _ _ c.residue-column.result c.loop-turn.out one
            state c.plain_modulus-modulus.ensures.value column more w.if-column-cols.false c.loop-turn.invariant.drawing;
        ahead = rest_ahead states _ _ rest c.loop-turn.invariant.ahead;
        counted = omega arith;
        few = omega arith;
      })
    ]

pub loop-drawn-preserved : goal.loop-drawn-preserved
loop-drawn-preserved g c =
    let end : ℕ = c.loop-drawn.drawn + c.min-count.result in
    let last : c.loop-turn.turn ≡ end = omega arith in
    record {
      drawing = subst (λ y. InWords c.args.n c.args.cols (25 * (c.args.cols / 2) - end) y c.loop-turn.found end c.loop-turn.out) (sym (and_mask c.loop-turn.states 23))
          (subst (λ d. InWords c.args.n c.args.cols (25 * (c.args.cols / 2) - d) (c.loop-turn.states % 2 ^ 23) c.loop-turn.found d c.loop-turn.out) last c.loop-turn.invariant.drawing);
      counted = omega arith;
      few = omega arith;
      most = omega arith;
    }

pub returns-then-found-half : goal.returns-then-found-half
returns-then-found-half g c =
    let whole = words_done c.args.n c.args.cols _ _ _ _ _ (omega arith) c.loop-drawn.invariant.drawing in
    record {
      line = record { line = whole.line; columns = whole.columns; words = whole.small };
      drawn = record {
        draws = c.loop-drawn.invariant.counted ∙ ap (λ d. c.args.steps.now + d) whole.draws;
        few = omega arith;
      };
    }

pub returns : goal.returns
returns g c =
    let whole = words_end c.args.n c.args.cols _ _ _ _ _ (omega arith) c.loop-drawn.invariant.drawing in
    record {
      line = record { line = whole.line; columns = whole.columns; words = whole.small };
      drawn = record {
        draws = c.loop-drawn.invariant.counted ∙ ap (λ d. c.args.steps.now + d) whole.draws;
        few = omega arith;
      };
    }
