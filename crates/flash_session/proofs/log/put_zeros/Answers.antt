use Rattle.std.proofs.Common.{◌≡◌, ℕ, ◌+◌, ◌<◌, List, [], ◌∷◌, ◌++◌, length, replicate, set, sym, subst, arith}
use Rattle.std.proofs.lemmas.List.{length-replicate}
use Rattle.flash_session.specs.Contents.{Put}
use Rattle.flash_session.proofs.Steps.{put_one_more, stops_one_more, zeros_more}
use Rattle.flash_session.proofs.log.put_zeros.Goals as goal

pub loop-i-preserved : goal.loop-i-preserved
loop-i-preserved c =
    let old = c.loop-i.bytes in
    let i = c.loop-i.i in
    let zeros : List ℕ = replicate {A = ℕ} i 0 in
    let counted : length zeros ≡ i = length-replicate i 0 in
    let within : c.args.at + i < length old = omega arith in
    let is : c.put.new.bytes ≡ set old (c.args.at + length zeros) 0 =
    subst (λ (k : ℕ). c.put.new.bytes ≡ set old (c.args.at + k) 0) (sym counted) c.put.ensures.bytes in
    let longer : Put c.args.at (zeros ++ 0 ∷ []) c.args.bytes.now c.put.new.bytes =
    put_one_more c.args.at 0 zeros c.args.bytes.now old c.put.new.bytes (omega (arith, counted, within)) is c.loop-i.invariant.put in
    record {
      put = subst (λ (l : List ℕ). Put c.args.at l c.args.bytes.now c.put.new.bytes) (sym (zeros_more i)) longer;
      stops = stops_one_more c.args.at i 0 _ c.loop-i.log.items c.put.new.log.items old c.put.new.bytes within c.put.ensures.bytes c.put.ensures.log c.loop-i.invariant.stops;
      len = omega (arith, c.put.ensures.takes.len);
      capacity = omega (arith, c.put.ensures.takes.capacity);
    }
