use Rattle.report_lines.proofs.Texts.{four_behind}
use Rattle.report_lines.proofs.sessions.session_lines.Goals as goal

pub returns : goal.returns
returns g c = λ d stands.
    four_behind _ _ _ _ _ _ _ _ (c.in_ok-text.ensures d stands) (c.in_ok-put_line.ensures d stands) (c.in_ok-put_line-2.ensures d stands) (c.in_ok-put_line-3.ensures d stands)
