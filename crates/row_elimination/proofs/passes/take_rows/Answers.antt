use Rattle.std.proofs.Common.{◌≡◌, ◌<◌, ℕ, List, length, take, get_or, refl, sym, ap, ◌∙◌, subst, arith}
use Rattle.std.specs.Int.{bit_at}
use Rattle.std.proofs.lemmas.List.{take_more}
use Rattle.row_arena.specs.Sums.{after_flips}
use Rattle.row_arena.specs.Rows.{line_in, words_for}
use Rattle.row_elimination.specs.declared.columns.Column.{Column}
use Rattle.row_elimination.specs.HeldSteps.{TakesRow}
use Rattle.row_elimination.proofs.Packing.{read_there}
use Rattle.row_elimination.proofs.Lines.{column_inside}
use Rattle.row_elimination.proofs.Storing.{RowsTaken, rows_none, rows_more, rows_all}
use Rattle.row_elimination.proofs.passes.take_rows.Goals as goal

pub bounds-columns-picks : goal.bounds-columns-picks
bounds-columns-picks g c =
    column_inside (length c.args.columns.now) (line_in c.args.line.now) (get_or c.list_bits-count.new.picks c.loop-n.n 0) c.requires.within (c.list_bits-count.ensures.columns c.loop-n.n c.loop-n-test.true)

pub loop-n-init : goal.loop-n-init
loop-n-init g c = record {
  taken = rows_none (length c.args.rest.now) c.args.arena.now c.args.columns.now (line_in c.args.line.now) c.args.rest.now c.list_bits-count.new.picks;
  line_sized = refl;
  rest_sized = refl;
  counted = omega arith;
}

pub loop-n-preserved : goal.loop-n-preserved
loop-n-preserved g c =
    let size = length c.args.rest.now in
    let arena = c.args.arena.now in
    let os = c.args.columns.now in
    let picks = c.list_bits-count.new.picks in
    let n = c.loop-n.n in
    let k = get_or picks n 0 in
    let l = line_in c.args.line.now in
    let q = c.args.rest.now in
    let on : bit_at l k ≡ 1 = c.list_bits-count.ensures.columns n c.loop-n-test.true in
    let lt : n < length picks = omega (arith, c.list_bits-count.ensures.few, c.loop-n-test.true) in
    let inside : k < length os = column_inside (length os) l k c.requires.within on in
    record {
      taken =
          subst (λ (ks : List ℕ). RowsTaken size arena os l q ks (line_in c.take_row.new.line) c.take_row.new.rest) (sym (take_more picks n 0 lt))
          (rows_more size arena os l q (take n picks) k (line_in c.loop-n.line) c.loop-n.rest (line_in c.take_row.new.line) c.take_row.new.rest c.requires.stored
          (λ e. absurd (omega (arith, on, c.requires.none k e))) (subst (λ (o : Column). TakesRow arena o (line_in c.loop-n.line) c.loop-n.rest (line_in c.take_row.new.line) c.take_row.new.rest) (c.column.ensures.same ∙ read_there os k c.index-columns-picks.result inside c.index-columns-picks.is) c.take_row.ensures.taken) c.loop-n.invariant.taken);
      line_sized = c.take_row.auto.line ∙ c.loop-n.invariant.line_sized;
      rest_sized = c.take_row.auto.rest ∙ c.loop-n.invariant.rest_sized;
      counted = omega (arith, c.take_row.ensures.few, c.loop-n.invariant.counted);
    }

pub returns-clause-taken : goal.returns-clause-taken
returns-clause-taken g c =
    let picks = c.list_bits-count.new.picks in
    let l = line_in c.args.line.now in
    let all : c.list_bits-count.result ≡ c.loop-n.n = omega (arith, c.loop-n-test.false, c.loop-n.auto.n-end) in
    record {
      reduces = λ area y part t k.
          rows_all (length c.args.rest.now) area c.args.arena.now c.args.columns.now l c.args.rest.now (take c.loop-n.n picks) (line_in c.loop-n.line) c.loop-n.rest y part
          (subst (λ (n : ℕ). (d : ℕ) → bit_at (after_flips l (take n picks)) d ≡ 0) all c.list_bits-count.ensures.listed) c.loop-n.invariant.taken t k;
    }

pub returns-clause-few : goal.returns-clause-few
returns-clause-few g c =
    omega (arith, c.loop-n-test.false, c.loop-n.auto.n-end, c.loop-n.invariant.counted, c.list_bits-count.ensures.each)

pub take_row-requires : goal.take_row-requires
take_row-requires g c =
    let os = c.args.columns.now in
    let k = get_or c.list_bits-count.new.picks c.loop-n.n 0 in
    let inside : k < length os = column_inside (length os) (line_in c.args.line.now) k c.requires.within (c.list_bits-count.ensures.columns c.loop-n.n c.loop-n-test.true) in
    let there = c.column.ensures.same ∙ read_there os k c.index-columns-picks.result inside c.index-columns-picks.is in (
      omega arith,
      (
        λ slot e. c.requires.stored.rows k slot (sym there ∙ e),
        (
          c.loop-n.invariant.line_sized ∙ c.requires.words ∙ ap words_for (sym c.requires.stored.cols),
          c.loop-n.invariant.rest_sized ∙ sym c.requires.stored.cell,
        ),
      ),
    )
