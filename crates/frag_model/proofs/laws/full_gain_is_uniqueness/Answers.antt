use Rattle.frag_model.proofs.Uniqueness.{unique_at_full_gain}
use Rattle.frag_model.proofs.Flips.{full_gain}
use Rattle.frag_model.proofs.laws.full_gain_is_uniqueness.Goals as goal

pub returns : goal.returns
returns c = record {
  unique = λ shape heard block numbered full fits. record { fits = fits; alone = λ other h. unique_at_full_gain shape heard block other numbered full fits h };
  full = full_gain;
}
