use Rattle.std.proofs.Common.{◌<◌, ◌-◌, ℕ, List, length, replicate, ap, sym, ◌∙◌, arith}
use Rattle.frag_model.proofs.Dimension.{line-lt}
use Rattle.frag_model.proofs.Uncoded.{line_of_piece}
use Rattle.frag_model.proofs.Sums.{line_of_coded}
use Rattle.frag_model.proofs.Work.{draws_of_piece, draws_of_coded, coded_columns}
use Rattle.std.specs.Int.Count.{ones}
use Rattle.frag_encoder.specs.Encoding.{pieces_of}
use Rattle.frag_encoder.proofs.Counting.{sums_of_piece, sums_of_coded}
use Rattle.frag_encoder.proofs.Pieces.{one_piece, get_or-pieces, length-pieces, summed_over_zeros}
use Rattle.frag_encoder.proofs.encoder.write_data.Goals as goal

pub xor_line-requires-clause-line : goal.xor_line-requires-clause-line
xor_line-requires-clause-line g c = rw c.line.ensures.line.line (line-lt (c.args.n - c.args.nb_frag) c.args.nb_frag)

pub returns-then-n-nb_frag-clause-written : goal.returns-then-n-nb_frag-clause-written
returns-then-n-nb_frag-clause-written g c =
    let k : ℕ = c.args.n - 1 in
    let block : List (List ℕ) = pieces_of c.args.nb_frag c.args.size c.args.bytes.now in
    let inside : k < c.args.nb_frag = omega arith in
    let there : k < length block = omega (arith, inside, length-pieces c.args.nb_frag c.args.size c.args.bytes.now) in
    let piece = get_or-pieces k c.args.nb_frag c.args.size c.args.bytes.now inside ∙ sym c.piece_at.ensures.piece in
    record {
      whole =
          c.copy_from_slice.ensures.after
          ∙ sym (one_piece c.args.size k _ block c.piece_at.result.now (line_of_piece c.args.nb_frag c.args.n c.if-n-nb_frag.true) there piece c.piece_at.ensures.size);
      piece = λ le. c.copy_from_slice.ensures.after ∙ c.piece_at.ensures.piece;
    }

pub returns-else-n-nb_frag-clause-written : goal.returns-else-n-nb_frag-clause-written
returns-else-n-nb_frag-clause-written g c = record {
  whole =
      summed_over_zeros c.args.size c.args.nb_frag _ _ c.args.bytes.now c.fill.new.self c.xor_line.new.sum (c.fill.ensures.after (λ y e. e) ∙ ap (λ n. replicate n 0) c.requires.size)
      (c.line.ensures.line.line ∙ sym (line_of_coded c.args.nb_frag c.args.n c.if-n-nb_frag.false)) c.requires.whole c.xor_line.ensures.sum;
  piece = λ le. absurd (omega (arith, c.if-n-nb_frag.false));
}

pub returns-then-n-nb_frag-clause-counted : goal.returns-then-n-nb_frag-clause-counted
returns-then-n-nb_frag-clause-counted g c = record {
  draws = omega (arith, draws_of_piece c.args.nb_frag c.args.n c.if-n-nb_frag.true);
  sums = omega (arith, sums_of_piece c.args.nb_frag c.args.n c.if-n-nb_frag.true);
}

pub returns-else-n-nb_frag-clause-counted : goal.returns-else-n-nb_frag-clause-counted
returns-else-n-nb_frag-clause-counted g c =
    let line = c.line.ensures.line.line ∙ sym (line_of_coded c.args.nb_frag c.args.n c.if-n-nb_frag.false) in
    record {
      draws = omega (arith, c.line.ensures.drawn.draws, draws_of_coded c.args.nb_frag c.args.n c.if-n-nb_frag.false);
      sums = omega (arith, c.xor_line.ensures.count, ap ones line, sums_of_coded c.args.nb_frag c.args.n c.if-n-nb_frag.false);
    }

pub returns-else-n-nb_frag-clause-few_sums : goal.returns-else-n-nb_frag-clause-few_sums
returns-else-n-nb_frag-clause-few_sums g c =
    let line = c.line.ensures.line.line ∙ sym (line_of_coded c.args.nb_frag c.args.n c.if-n-nb_frag.false) in
    omega (arith, c.xor_line.ensures.count, ap ones line, coded_columns c.args.nb_frag c.args.n c.if-n-nb_frag.false)
