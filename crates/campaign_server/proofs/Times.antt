-- The answer to an uplink that asks for the time, command by command.
use Rattle.std.proofs.Common.{◌≡◌, ℕ, List, [], ◌∷◌, Option, Some, None, refl, sym, ap, ◌∙◌}
use Rattle.package_grammar.specs.declared.command.Command.{Command}
use Rattle.package_grammar.specs.declared.downlink.Downlink.{Downlink}
use Rattle.package_grammar.specs.HeldMessage.{HeldMessage}
use Rattle.campaign_server.specs.Asking.{by_unicast}
use Rattle.campaign_server.specs.Sent.{down_of}
use Rattle.campaign_server.specs.Time.{time_answer_to, first_answer, time_answer}

abbrev sent : Option Command → Option Downlink
sent answer = down_of (by_unicast answer)

-- of a first command that is answered it is the answer
one_first : (t : ℕ) (c : Command) (cs : List Command) (answer : Downlink) → Some answer ≡ sent (time_answer_to t c) → sent (time_answer t (c ∷ cs)) ≡ Some answer
unfolding time_answer
one_first t c cs answer is = by_answer (time_answer_to t c) is
  where
    by_answer : (a : Option Command) → Some answer ≡ sent a → sent (first_answer a (time_answer t cs)) ≡ Some answer
    by_answer None is = absurd cc
    by_answer (Some a) is = sym is

-- and of one that is not answered it is that of the others
one_later : (t : ℕ) (c : Command) (cs : List Command) → None ≡ sent (time_answer_to t c) → time_answer t (c ∷ cs) ≡ time_answer t cs
unfolding time_answer
one_later t c cs is = by_answer (time_answer_to t c) is
  where
    by_answer : (a : Option Command) → None ≡ sent a → first_answer a (time_answer t cs) ≡ time_answer t cs
    by_answer None is = refl
    by_answer (Some a) is = absurd cc

commands_are : (old new : HeldMessage) (c : Command) → old ≡ record new { commands = c ∷ new.commands } → old.commands ≡ c ∷ new.commands
commands_are old new c takes = ap (λ (m : HeldMessage). m.commands) takes

pub answers_first : (t : ℕ) (old new : HeldMessage) (all : List Command) (c : Command) (answer : Downlink) → old ≡ record new { commands = c ∷ new.commands }
    → time_answer t old.commands ≡ time_answer t all → Some answer ≡ sent (time_answer_to t c) → Some answer ≡ sent (time_answer t all)
answers_first t old new all c answer takes so_far is =
    sym (one_first t c new.commands answer is) ∙ ap sent (ap (λ (cs : List Command). time_answer t cs) (sym (commands_are old new c takes)) ∙ so_far)

pub answers_later : (t : ℕ) (old new : HeldMessage) (all : List Command) (c : Command) → old ≡ record new { commands = c ∷ new.commands }
    → time_answer t old.commands ≡ time_answer t all → None ≡ sent (time_answer_to t c) → time_answer t new.commands ≡ time_answer t all
answers_later t old new all c takes so_far is =
    sym (one_later t c new.commands is) ∙ ap (λ (cs : List Command). time_answer t cs) (sym (commands_are old new c takes)) ∙ so_far

pub answers_none : (t : ℕ) (left all : List Command) → left ≡ [] → time_answer t left ≡ time_answer t all → None ≡ sent (time_answer t all)
unfolding time_answer
answers_none t left all none so_far = ap sent (ap (λ (cs : List Command). time_answer t cs) (sym none) ∙ so_far)
