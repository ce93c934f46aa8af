use Rattle.std.proofs.Common.{inl, inr, refl, rules}
use Rattle.fuota_run_c.specs.Ran.{answer_in}
use Rattle.fuota_run_c.proofs.run.fuota_run.Goals as goal

pub returns-then-len-text : goal.returns-then-len-text
returns-then-len-text c = inl (
  answer_in c.in-Ok.ran,
  c.in-Ok.ensures,
  inr (record {
    answered = refl;
    over = search rules;
    stays = refl;
    told = record { status = search rules; count = search rules };
  }),
)

pub returns : goal.returns
returns c = inl (
  answer_in c.in-Ok.ran,
  c.in-Ok.ensures,
  inl (record {
    answered = refl;
    fits = search rules;
    put = search rules;
    told = record { status = search rules; count = search rules };
  }),
)
