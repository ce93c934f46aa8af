-- The commands of one byte, and that a place is spelled in one way.
use Rattle.std.proofs.Common.{◌≡◌, ◌≢◌, ℕ, ◌+◌, ◌<◌, ◌≤◌, List, ◌∷◌, length, Result, Ok, refl, ap, ◌∙◌, inl, inr, codes, arith}
use Rattle.std.proofs.lemmas.Bool.{cases_eq}
use Rattle.wire_base.specs.declared.refusal.Direction.{Direction}
use Rattle.wire_base.specs.declared.refusal.Direction.TheVariants.{Down}
use Rattle.wire_base.specs.declared.refusal.Refusal.{Refusal}
use Rattle.wire_base.specs.Numbers.{number_at}
use Rattle.sync_wire.specs.declared.cmd.Cmd.TheVariants as s
use Rattle.cast_wire.specs.declared.cmd.Cmd.TheVariants as c
use Rattle.package_grammar.specs.declared.command.Command.{Command}
use Rattle.package_grammar.specs.declared.command.Command.TheVariants.{Sync, Cast}
use Rattle.package_grammar.specs.Grammar.{Spells, IsPort}
use Rattle.package_grammar.specs.Texts.{text_of}
use Rattle.package_grammar.specs.MessageInside.{commands_left, IsAt}
use Rattle.package_grammar.proofs.Answers.{one_spelled}
use Rattle.package_grammar.proofs.Cursor.{first_left}

-- the text of a command of one byte that is spelled at a place
abbrev pub IsNamed : ℕ → Direction → List ℕ → ℕ → List ℕ → Type 0
IsNamed port dir bytes at text = (c : Command) × Spells c port dir bytes at (at + 1) × (text_of c ≡ text)

pub version_named : (port : ℕ) (dir : Direction) (bytes : List ℕ) (at : ℕ) → dir ≡ Down → IsPort port → at < length bytes → number_at bytes at 1 ≡ 0
    → IsNamed port dir bytes at (codes "PackageVersionReq")
version_named port dir bytes at down on before is = elim (cases_eq port 200) [
  | inl first ↦ (Cast c.PackageVersionReq, record { listed = record { port_is = inl first; direction_is = down }; lies = record { cid_is = is; parts_lie = (refl, omega arith) }; whole = tt }, refl)
  | inr not_200 ↦ elim (cases_eq port 201) [
    | inl second ↦ (Cast c.PackageVersionReq, record { listed = record { port_is = inr second; direction_is = down }; lies = record { cid_is = is; parts_lie = (refl, omega arith) }; whole = tt }, refl)
    | inr not_201 ↦ elim (cases_eq port 202) [
      | inl third ↦ (Sync s.PackageVersionReq, record { listed = record { port_is = inl third; direction_is = down }; lies = record { cid_is = is; parts_lie = (refl, omega arith) }; whole = tt }, refl)
      | inr not_202 ↦ (Sync s.PackageVersionReq, record { listed = record { port_is = inr (omega (arith, on.low, on.high, not_200, not_201, not_202)); direction_is = down }; lies = record { cid_is = is; parts_lie = (refl, omega arith) }; whole = tt }, refl)
    ]
  ]
]

pub device_version_named : (port : ℕ) (dir : Direction) (bytes : List ℕ) (at : ℕ) → dir ≡ Down → port ≡ 203 → at < length bytes → number_at bytes at 1 ≡ 1 → IsNamed port dir bytes at (codes "DevVersionReq")
device_version_named port dir bytes at down there before is =
    (Sync s.DevVersionReq, record { listed = record { port_is = there; direction_is = down }; lies = record { cid_is = is; parts_lie = (refl, omega arith) }; whole = tt }, refl)

pub upgrade_named : (port : ℕ) (dir : Direction) (bytes : List ℕ) (at : ℕ) → dir ≡ Down → port ≡ 203 → at < length bytes → number_at bytes at 1 ≡ 4 → IsNamed port dir bytes at (codes "DevUpgradeImageReq")
upgrade_named port dir bytes at down there before is =
    (Sync s.DevUpgradeImageReq, record { listed = record { port_is = there; direction_is = down }; lies = record { cid_is = is; parts_lie = (refl, omega arith) }; whole = tt }, refl)

-- a command that is spelled at the place of a message is the first that is left
pub spelled_left : (port : ℕ) (dir : Direction) (bytes : List ℕ) (at : ℕ) (c : Command) (next : ℕ) → IsAt port dir bytes at → at ≢ length bytes
    → Spells c port dir bytes at next → next ≤ length bytes
    → (commands_left port dir bytes at ≡ c ∷ commands_left port dir bytes next) × IsAt port dir bytes next
spelled_left port dir bytes at c next stands before spells inside =
    let only : (d : Command) (end : ℕ) → length bytes ≤ 242 → Spells d port dir bytes at end → (let r : Result (Command × ℕ) Refusal = Ok (c, next) in r) ≡ Ok (d, end) = λ d end fits other.
    let same = one_spelled c d port dir bytes at next end spells other in
    ap (λ (x : Command). Ok (x, next)) same.0 ∙ ap (λ (n : ℕ). Ok (d, n)) same.1 in
    first_left port dir bytes at (Ok (c, next)) c next stands before only refl inside
