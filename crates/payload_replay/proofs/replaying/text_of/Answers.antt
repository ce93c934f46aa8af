use Rattle.std.proofs.Common.{◌≡◌, List, ℕ, ◌++◌, IfOk, codes, string_bytes, ◌∙◌, subst}
use Rattle.payload_replay.specs.Replay.{closing_text, replay_text}
use Rattle.payload_replay.proofs.replaying.text_of.Goals as goal

pub returns : goal.returns
unfolding replay_text
returns c = λ d stands.
    let closing : c.as_str.result.now ≡ closing_text d = c.as_str.ensures.value ∙ c.in_ok-closing.ensures d stands in
    subst (λ (k : List ℕ). IfOk c.whole_text.result (λ text. string_bytes text ≡ codes "fuota replay 1\n" ++ k)) closing c.whole_text.ensures
