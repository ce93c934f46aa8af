use Rattle.std.proofs.Common.{◌∙◌, sym, ap, length, List, ℕ}
use Rattle.script_lines.proofs.HexWords.{dash_long, digits_long, few_bytes}
use Rattle.script_lines.proofs.hex_bytes.HexBytes.len.Goals as goal

pub returns-then-is_dash-clause-count : goal.returns-then-is_dash-clause-count
returns-then-is_dash-clause-count c =
    dash_long c.self.inside.word.now (sym c.is_dash.ensures ∙ c.if-is_dash.true)
    ∙ ap (λ (bytes : List ℕ). length bytes) c.self.view_is

pub returns-else-is_dash-clause-count : goal.returns-else-is_dash-clause-count
returns-else-is_dash-clause-count c =
    digits_long c.self.inside.word.now (sym c.is_dash.ensures ∙ c.if-is_dash.false) c.self.invariant
    ∙ ap (λ (bytes : List ℕ). length bytes) c.self.view_is

pub returns-else-is_dash-clause-few : goal.returns-else-is_dash-clause-few
returns-else-is_dash-clause-few c = few_bytes c.self.inside.word.now (sym c.is_dash.ensures ∙ c.if-is_dash.false) c.self.invariant
