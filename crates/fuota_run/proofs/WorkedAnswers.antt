-- Answers worked out.
use Rattle.std.proofs.Common.{refl, subst}
use Rattle.std.specs.Fmt.{digits}
use Rattle.script_lines.specs.Numbers.{decimal_of}
use Rattle.fuota_run.specs.Answer.{script_answer, pair_script_answer, campaign_answer, campaigns_answer, file_text, IsFileAnswer, IsReadAnswer}
use Rattle.fuota_run.specs.WorkedAnswers.{AreAnswers, AreInOrder}

pub answers_are : AreAnswers
unfolding digits decimal_of
answers_are = search

pub in_order : AreInOrder
unfolding script_answer pair_script_answer campaign_answer campaigns_answer IsFileAnswer
in_order = record {
  first_missing = λ b script. refl;
  first_refused = λ a b script fits bad. rw (fits, bad) refl;
  second_missing = λ a script fits good. rw (fits, good) refl;
  second_refused = λ a b script fits good its bad. rw (fits, good, its, bad) refl;
  first_long = λ a b script long. rw long refl;
  second_long = λ a b script fits good long. rw (fits, good, long) refl;
  missing = λ what script. refl;
  long = λ what image script long. rw long refl;
  bad = λ what image script fits bad. rw (fits, bad) refl;
  script_missing = λ what image fits good. rw (fits, good) refl;
  script_long = λ what image script fits good long. rw (fits, good, long) refl;
  decoded = λ file a said. said;
  decoded_down = λ file a said. said;
  file_missing = λ what a said. said;
  file_long = λ what file a long said. subst (λ b. IsReadAnswer (file_text what) b file a) long said;
}
