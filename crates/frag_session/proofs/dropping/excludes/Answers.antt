use Rattle.std.proofs.Common.{sym, ◌∙◌, le-leb, eq-eqb, arith}
use Rattle.std.specs.Int.{bit_at}
use Rattle.std.proofs.lemmas.Nat.Bits.{bit_at_above}
use Rattle.frag_session.specs.Session.{excludes}
use Rattle.frag_session.proofs.dropping.excludes.Goals as goal

pub returns-then-group-ge8 : goal.returns-then-group-ge8
unfolding excludes
returns-then-group-ge8 c =
    rw c.in-Group.is (le-leb 8 c.in-Group.group c.if-group-ge8.true
    ∙ sym (eq-eqb (bit_at c.args.mask c.in-Group.group) 0 (bit_at_above c.args.mask 8 c.in-Group.group (omega arith) c.if-group-ge8.true)))
