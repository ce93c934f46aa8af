use Rattle.campaign_generator.proofs.ScriptForms.{lines_spell_forms}
use Rattle.campaign_generator.proofs.laws.lines_are_forms.Goals as goal

pub returns : goal.returns
returns c = lines_spell_forms
