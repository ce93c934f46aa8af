-- A text that is written piece after piece.
use Rattle.std.proofs.Common.{ℕ, ◌+◌, List, ◌++◌, take, drop, Option, None, Some, sym, ◌∙◌, ap, append_assoc}
use Rattle.std.proofs.Math.Seq.{take-add}
use Rattle.std.specs.Io.KnownBytes.{Appends}

-- what is appended after a front makes a longer front
pub appends_on : (a b c : Option (List ℕ)) (n k : ℕ) (text : List ℕ) → Appends a b (take n text) → Appends b c (take k (drop n text)) → Appends a c (take (n + k) text)
appends_on None b c n k text first then = tt
appends_on (Some xs) None c n k text first then = absurd first
appends_on (Some xs) (Some ys) None n k text first then = absurd then
appends_on (Some xs) (Some ys) (Some zs) n k text first then = then ∙ ap (λ w. w ++ take k (drop n text)) first ∙ append_assoc xs (take n text) (take k (drop n text)) ∙ ap (λ w. xs ++ w) (sym (take-add n k text))
