use Rattle.std.proofs.Common.{sym}
use Rattle.frag_encoder.proofs.Filling.{kept}
use Rattle.frag_encoder.proofs.encoder.Encoder.padding.Goals as goal

pub returns-clause-value : goal.returns-clause-value
returns-clause-value c =
    sym (kept c.args.self.now c.self.inside.bytes.items c.self.inside.frag_size c.self.inside.nb_frag c.self.inside.padding c.self.view_is c.self.invariant).lacking
