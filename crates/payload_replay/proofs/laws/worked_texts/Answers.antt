use Rattle.payload_replay.proofs.WorkedTexts.{texts_are, captures_are}
use Rattle.payload_replay.proofs.laws.worked_texts.Goals as goal

pub returns-clause-texts : goal.returns-clause-texts
returns-clause-texts c = texts_are

pub returns-clause-captures : goal.returns-clause-captures
returns-clause-captures c = captures_are
