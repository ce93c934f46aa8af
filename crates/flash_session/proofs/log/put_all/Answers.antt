use Rattle.std.proofs.Common.{◌≡◌, ℕ, ◌+◌, ◌<◌, List, [], ◌∷◌, ◌++◌, length, take, get_or, set, sym, subst, arith}
use Rattle.std.proofs.lemmas.List.{take_more, length-take-le}
use Rattle.flash_session.specs.Contents.{Put}
use Rattle.flash_session.proofs.Steps.{put_one_more, stops_one_more}
use Rattle.flash_session.proofs.log.put_all.Goals as goal

pub loop-i-preserved : goal.loop-i-preserved
loop-i-preserved c =
    let old = c.loop-i.bytes in
    let piece = c.args.piece.now in
    let i = c.loop-i.i in
    let counted : length (take i piece) ≡ i = length-take-le i piece (omega arith) in
    let within : c.args.at + i < length old = omega arith in
    let is : c.put.new.bytes ≡ set old (c.args.at + length (take i piece)) (get_or piece i 0) =
    subst (λ (k : ℕ). c.put.new.bytes ≡ set old (c.args.at + k) (get_or piece i 0)) (sym counted) c.put.ensures.bytes in
    let longer : Put c.args.at (take i piece ++ get_or piece i 0 ∷ []) c.args.bytes.now c.put.new.bytes =
    put_one_more c.args.at (get_or piece i 0) (take i piece) c.args.bytes.now old c.put.new.bytes (omega (arith, counted, within)) is c.loop-i.invariant.put in
    record {
      put = subst (λ (l : List ℕ). Put c.args.at l c.args.bytes.now c.put.new.bytes) (sym (take_more piece i 0 c.loop-i-test.true)) longer;
      stops = stops_one_more c.args.at i (get_or piece i 0) _ c.loop-i.log.items c.put.new.log.items old c.put.new.bytes within c.put.ensures.bytes c.put.ensures.log c.loop-i.invariant.stops;
      len = omega (arith, c.put.ensures.takes.len);
      capacity = omega (arith, c.put.ensures.takes.capacity);
    }
