use Rattle.std.proofs.Common.{◌*◌, ap, arith}
use Rattle.std.proofs.lemmas.Nat.{div-add-mod'}
use Rattle.parity_lines.proofs.Reciprocal.{quotient}
use Rattle.parity_lines.proofs.residues.residue.Goals as goal

pub returns : goal.returns
returns c = omega (arith, div-add-mod' c.args.x c.args.modulus, ap (λ q. q * c.args.modulus) (quotient c.args.x c.args.modulus c.args.reciprocal c.requires.state c.requires.some c.requires.most c.requires.reciprocal))
