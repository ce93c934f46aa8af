use Rattle.std.proofs.Common.{◌≡◌, ◌≢◌, ℕ, ◌+◌, ◌-◌, ◌<◌, ◌≤◌, List, length, take, drop, get_or, eqb, eqb-true, sym, ap, ◌∙◌, arith, length-drop}
use Rattle.std.proofs.lemmas.List.{get_or-drop, take_all}
use Rattle.memchr.specs.Find.{Nowhere, Passes, is_byte}
use Rattle.flash_session.specs.Layout.{open_gate}
use Rattle.flash_session.proofs.reading.next_open.Goals as goal

-- after the first `from`, a byte stands so much further on
further : (gates : List ℕ) (from k : ℕ) → from ≤ k → get_or (drop from gates) (k - from) 0 ≡ get_or gates k 0
further gates from k le =
    let there : from + (k - from) ≡ k = omega arith in
    get_or-drop from gates (k - from) 0 ∙ ap (λ i. get_or gates i 0) there

-- where none of the rest up to a place is open, none is there
none_up_to : (gates : List ℕ) (from end : ℕ) → Nowhere (Passes (is_byte open_gate) (drop from gates)) 0 end
    → (k : ℕ) → from ≤ k → k < from + end → get_or gates k 0 ≢ open_gate
none_up_to gates from end none k le lt is =
    none (k - from) (omega arith) (omega arith) (ap (λ x. eqb x open_gate) (further gates from k le ∙ is))

-- what is looked through is all after the first `from`
rest_is : (gates : List ℕ) (from : ℕ) → take (length gates - from) (drop from gates) ≡ drop from gates
rest_is gates from = take_all (length gates - from) (drop from gates) (omega (arith, length-drop from gates))

pub returns-in-Some : goal.returns-in-Some
returns-in-Some c =
    let gates : List ℕ = c.args.gates.now in
    let from : ℕ = c.args.from in
    let k : ℕ = c.in-Some.k in
    let first = rw (rest_is gates from) at c.in-Some.ensures in
    let here : get_or (drop from gates) k 0 ≡ open_gate = eqb-true _ _ first.1 in
    (omega arith, omega (arith, first.0.high, length-drop from gates), sym (get_or-drop from gates k 0) ∙ here, none_up_to gates from k first.0.before)

pub returns-in-None : goal.returns-in-None
returns-in-None c = λ k le lt.
    let gates : List ℕ = c.args.gates.now in
    let from : ℕ = c.args.from in
    let none = rw (rest_is gates from) at c.in-None.ensures in
    none_up_to gates from (length (drop from gates)) none k le (omega (arith, length-drop from gates))
