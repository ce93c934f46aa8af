use Rattle.std.proofs.Common.{◌≡◌, ◌+◌, ◌-◌, ◌<◌, ◌^◌, ℕ, length, take, get_or, sym, ap, ◌∙◌, arith, eqb-true, length-take-le}
use Rattle.std.proofs.lemmas.List.Elements.{All-from_get_or}
use Rattle.std.specs.Int.Count.{ones}
use Rattle.frag_model.specs.Fragments.{draws_of, line_of}
use Rattle.row_arena.specs.Rows.{words_for}
use Rattle.row_elimination.specs.HeldPlaces.{free, rows_held}
use Rattle.row_elimination.proofs.Counting.{no_rows_free}
use Rattle.row_elimination.proofs.Gridding.{width_holds}
use Rattle.row_elimination.proofs.Repeating.{ready_free, ready_again}
use Rattle.row_elimination.proofs.Working.{work_of_line, work_of_piece}
use Rattle.row_elimination.proofs.taking.take.Goals as goal

pub take_again-requires : goal.take_again-requires
take_again-requires g c =
    let t = c.args.table.now in (
      omega arith,
      record {
        ready = ready_again t c.args.n (c.args.n - 1) c.args.part.now c.in-Some.piece.now c.piece.ensures.held c.piece.ensures.room c.requires.more c.requires.some (omega (arith, c.requires.first)) (omega arith)
            (record { sized = c.requires.sized; bytes = All-from_get_or (λ b. b < 2 ^ 8) c.args.part.now 0 (λ i lt. omega (arith, c.type_inv.part i)) }) c.in-Some.ensures.value;
        uncoded = omega arith;
        held = c.in-Some.ensures.value;
      },
    )

pub take_first-requires : goal.take_first-requires
take_first-requires g c =
    let t = c.args.table.now in
    let none : rows_held t.places ≡ 0 = eqb-true (rows_held t.places) 0 (sym c.has_no_rows.ensures ∙ c.if-has_no_rows.true) in
    let fresh : get_or t.places (c.args.n - 1) free ≡ free = no_rows_free t.places (c.args.n - 1) none c.in_default.ensures.value in (
      omega arith,
      record {
        ready = ready_free t c.args.n (c.args.n - 1) c.args.part.now c.piece.ensures.held c.piece.ensures.room c.requires.more c.requires.some (omega (arith, c.requires.first)) (omega arith)
            (record { sized = c.requires.sized; bytes = All-from_get_or (λ b. b < 2 ^ 8) c.args.part.now 0 (λ i lt. omega (arith, c.type_inv.part i)) }) fresh;
        uncoded = omega arith;
        fresh = fresh;
        none = none;
      },
    )

pub draw-requires-clause-room : goal.draw-requires-clause-room
draw-requires-clause-room g c =
    let nb : ℕ = c.args.table.now.shape.nb_frag in
    let long : length (take c.width.result c.args.line.now) ≡ c.width.result = length-take-le c.width.result c.args.line.now (omega (arith, c.width.ensures.value, c.requires.words)) in
    omega (arith, c.nb_frag-2.ensures, long, c.width.ensures.value, width_holds nb)

pub take_in-requires : goal.take_in-requires
take_in-requires g c =
    let t = c.args.table.now in
    let long : length (take c.width.result c.args.line.now) ≡ c.width.result = length-take-le c.width.result c.args.line.now (omega (arith, c.width.ensures.value, c.requires.words)) in
    let words : length c.draw.new.line ≡ words_for t.shape.nb_frag = c.draw.auto.line ∙ long ∙ c.width.ensures.value in (
      omega arith,
      record {
        words = words;
        few = omega (arith, c.draw.auto.line, long, c.width.ensures.few);
        drawn = c.draw.ensures.line ∙ ap (λ (m : ℕ). line_of m c.args.n) c.nb_frag-2.ensures;
        picks = omega (arith, words, c.requires.picks);
        sized = length-take-le (length c.args.part.now) c.args.rest.now c.requires.bytes;
        piece = record { sized = c.requires.sized; bytes = All-from_get_or (λ b. b < 2 ^ 8) c.args.part.now 0 (λ i lt. omega (arith, c.type_inv.part i)) };
        some = c.requires.some;
        first = c.requires.first;
        more = c.requires.more;
      },
    )

pub returns-in-Some-clause-counted : goal.returns-in-Some-clause-counted
returns-in-Some-clause-counted g c = work_of_piece c.args.table.now.shape c.args.n c.args.draws.now c.args.sums.now (omega arith)

pub returns-then-has_no_rows-clause-counted : goal.returns-then-has_no_rows-clause-counted
returns-then-has_no_rows-clause-counted g c = work_of_piece c.args.table.now.shape c.args.n c.args.draws.now c.args.sums.now (omega arith)

pub returns-clause-counted : goal.returns-clause-counted
returns-clause-counted g c =
    let t = c.args.table.now in
    let drawn = c.draw.ensures.line ∙ ap (λ (m : ℕ). line_of m c.args.n) c.nb_frag-2.ensures in
    work_of_line t.shape c.args.n c.args.draws.now c.draw.new.draws c.args.sums.now c.take_in.new.sums
    (c.draw.ensures.draws ∙ ap (λ (m : ℕ). c.args.draws.now + draws_of m c.args.n) c.nb_frag-2.ensures)
    (omega (arith, c.draw.ensures.few, c.nb_frag-2.ensures)) (omega (arith, c.take_in.ensures.sums, ap ones drawn))
