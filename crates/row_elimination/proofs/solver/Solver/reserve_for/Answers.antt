use Rattle.std.proofs.Common.{ap, arith}
use Rattle.frag_model.specs.Fragments.{Shape}
use Rattle.row_arena.specs.Rows.{words_for}
use Rattle.row_elimination.specs.Room.{Extent}
use Rattle.row_elimination.proofs.Gridding.{no_words}
use Rattle.row_elimination.proofs.solver.Solver.reserve_for.Goals as goal

pub invariant_of-result : goal.invariant_of-result
invariant_of-result g c = rw c.in-Ok-new-2.ensures.ok
    (
    let none = ap (λ (s : Shape). s.nb_frag) c.in-Ok-new.ensures.shape in
    let most = ap (λ (e : Extent). e.pieces) c.in-Ok-new.ensures.room in
    record {
      line_held = omega (arith, ap words_for most, c.words_for.ensures.value, c.in-Ok.ensures.capacity);
      picks_held = omega (arith, ap words_for most, c.words_for-2.ensures.value, c.in-Ok-with_capacity.ensures.capacity);
      line_sized = omega (arith, ap words_for none, no_words);
      picks_sized = omega (arith, ap words_for none, no_words);
      part_sized = omega (arith, c.in-Ok-vec.part.ok.0, c.in-Ok-vec.ensures.len);
      most = omega (arith, none);
      small = omega (arith, ap (λ (s : Shape). s.frag_size) c.in-Ok-new.ensures.shape);
      some = λ e. cc;
      more = λ e. cc;
    }
    )
