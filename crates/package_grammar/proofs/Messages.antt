-- Messages of several commands, read one at a time.
use Rattle.std.proofs.Common.{◌≡◌, ◌≢◌, ℕ, List, [], ◌∷◌, length, Result, Ok, Err, refl, ap, subst, arith}
use Rattle.wire_base.specs.declared.refusal.Direction.{Direction}
use Rattle.wire_base.specs.declared.refusal.Refusal.{Refusal}
use Rattle.package_grammar.specs.declared.command.Command.{Command}
use Rattle.package_grammar.specs.Grammar.{Spells, SpellsTo, NoneSpelled}
use Rattle.package_grammar.proofs.Tables.{within, moves}

-- after the end nothing is spelled
pub none_left : (cs : List Command) (port : ℕ) (dir : Direction) (bytes : List ℕ) (at : ℕ) → at ≡ length bytes → SpellsTo cs port dir bytes at (length bytes) → cs ≡ []
none_left [] port dir bytes at ends all = refl
none_left (c ∷ cs) port dir bytes at ends all =
    absurd (omega (arith, within c port dir bytes at all.0 all.1, moves c port dir bytes at all.0 all.1))

-- before the end the command that is read is the first
pub first_read : (port : ℕ) (dir : Direction) (bytes : List ℕ) (at : ℕ) (r : Result (Command × ℕ) Refusal) (c : Command) (next : ℕ) (cs : List Command) → at ≢ length bytes
    → ((d : Command) (end : ℕ) → Spells d port dir bytes at end → r ≡ Ok (d, end)) → r ≡ Ok (c, next) → SpellsTo cs port dir bytes at (length bytes)
    → (rest : List Command) × (cs ≡ c ∷ rest) × SpellsTo rest port dir bytes next (length bytes)
first_read port dir bytes at r c next [] inside only is all = absurd (inside all)
first_read port dir bytes at r c next (d ∷ ds) inside only is all =
    let found = only d all.0 all.1 in
    let pair : Path (Command × ℕ) (d, all.0) (c, next) = cc in
    let first : d ≡ c = ap (λ (x : Command × ℕ). x.0) pair in
    let place : all.0 ≡ next = ap (λ (x : Command × ℕ). x.1) pair in
    (ds, ap (λ (x : Command). x ∷ ds) first, subst (λ (n : ℕ). SpellsTo ds port dir bytes n (length bytes)) place all.2)

-- where nothing is read, nothing is spelled
pub none_spelled : (port : ℕ) (dir : Direction) (bytes : List ℕ) (at : ℕ) (r : Result (Command × ℕ) Refusal) (e : Refusal)
    → ((d : Command) (end : ℕ) → Spells d port dir bytes at end → r ≡ Ok (d, end)) → r ≡ Err e → NoneSpelled port dir bytes at
none_spelled port dir bytes at r e only is = λ c next spells. let s = only c next spells in cc

-- and no message goes on
pub none_read : (port : ℕ) (dir : Direction) (bytes : List ℕ) (at : ℕ) (cs : List Command) → at ≢ length bytes → NoneSpelled port dir bytes at
    → SpellsTo cs port dir bytes at (length bytes) → ⊥
none_read port dir bytes at [] inside none all = inside all
none_read port dir bytes at (d ∷ ds) inside none all = none d all.0 all.1
