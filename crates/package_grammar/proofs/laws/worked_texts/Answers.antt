use Rattle.package_grammar.proofs.WorkedTexts.{sync_texts, fragment_texts, group_texts}
use Rattle.package_grammar.proofs.laws.worked_texts.Goals as goal

pub returns-clause-sync : goal.returns-clause-sync
returns-clause-sync c = sync_texts

pub returns-clause-fragments : goal.returns-clause-fragments
returns-clause-fragments c = fragment_texts

pub returns-clause-groups : goal.returns-clause-groups
returns-clause-groups c = group_texts
