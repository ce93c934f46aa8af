use Rattle.std.proofs.Common.{length, ap, ◌∙◌, arith}
use Rattle.row_elimination.proofs.Gridding.{no_file}
use Rattle.row_elimination.proofs.tables.Table.new.Goals as goal

pub invariant_of-result : goal.invariant_of-result
invariant_of-result g c = record {
  words_few = c.requires.words;
  bytes_few = c.requires.bytes;
  memory = record {
    few = c.requires.few;
    columns_held = omega (arith, c.in_ok-columns.ensures.capacity);
    spare_held = omega (arith, c.in_ok-spare.ensures.capacity);
    known_held = omega (arith, c.words_for.ensures.value, c.in_ok-known.ensures.capacity);
    area_held = omega (arith, c.in_ok-bytes.ensures.capacity);
  };
  within = omega arith;
  area_fits = omega (arith, ap length c.in_ok-bytes.ensures.items);
  pieces_fit = omega arith;
  grid = no_file c.in_ok-columns.columns.items c.in_ok-spare.spare.items c.in_ok-known.known.items
      c.in_ok-bytes.bytes.items c.in_ok-arena.arena.value (c.in_ok-arena.ensures.ok ∙ c.new.ensures);
}
