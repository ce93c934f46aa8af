use Rattle.std.proofs.Common.{ℕ, ◌-◌, ◌*◌, take, drop, ap, ◌∙◌, arith, rules}
use Rattle.frag_model.specs.Fragments.{line_of, pieces_at, xor_all}
use Rattle.frag_encoder.specs.Encoding.{pieces_of}
use Rattle.frag_encoder.proofs.Filling.{kept, data_kept, piece_kept}
use Rattle.frag_encoder.proofs.encoder.Encoder.fragment_counted.Goals as goal

pub returns-clause-fragment : goal.returns-clause-fragment
returns-clause-fragment g c =
    let size : ℕ = c.self.inside.frag_size in
    let same = kept c.args.self.now c.self.inside.bytes.items size c.self.inside.nb_frag c.self.inside.padding c.self.view_is c.self.invariant in
    record {
      within = search rules;
      part =
          c.replace.ensures ∙ c.write_data.ensures.written.whole
          ∙ ap (λ bs. xor_all size (pieces_at (line_of c.self.inside.nb_frag c.args.n) (pieces_of c.self.inside.nb_frag size bs))) c.deref.ensures.value
          ∙ data_kept c.args.self.now c.self.inside.bytes.items size c.self.inside.nb_frag c.self.inside.padding c.args.n c.self.view_is c.self.invariant;
      size = search rules;
      piece = λ le.
          c.replace.ensures ∙ c.write_data.ensures.written.piece (omega (arith, le, same.number))
          ∙ ap (λ bs. take size (drop ((c.args.n - 1) * size) bs)) c.deref.ensures.value
          ∙ piece_kept c.args.self.now c.self.inside.bytes.items size c.self.inside.nb_frag c.self.inside.padding c.args.n c.self.view_is c.self.invariant;
      beyond = tt;
    }

pub returns-clause-counted : goal.returns-clause-counted
returns-clause-counted g c =
    let same = kept c.args.self.now c.self.inside.bytes.items c.self.inside.frag_size c.self.inside.nb_frag c.self.inside.padding c.self.view_is c.self.invariant in
    rw same.number c.write_data.ensures.counted

pub returns-clause-few_draws : goal.returns-clause-few_draws
returns-clause-few_draws g c =
    let same = kept c.args.self.now c.self.inside.bytes.items c.self.inside.frag_size c.self.inside.nb_frag c.self.inside.padding c.self.view_is c.self.invariant in
    rw same.number c.write_data.ensures.few_draws

pub returns-clause-few_sums : goal.returns-clause-few_sums
returns-clause-few_sums g c =
    let same = kept c.args.self.now c.self.inside.bytes.items c.self.inside.frag_size c.self.inside.nb_frag c.self.inside.padding c.self.view_is c.self.invariant in
    rw same.number c.write_data.ensures.few_sums
