-- What the function answers is what the relations say.
use Rattle.std.proofs.Common.{◌≡◌, ℕ, zero, suc, ◌+◌, ◌<◌, ◌≤◌, Bool, true, false, cond, leb, ltb, List, [], ◌∷◌, length, Some, None, Ok, Err, refl, ap, subst, ◌⊎◌, inl, inr, arith, not}
use Rattle.std.specs.Bool.{Decides}
use Rattle.std.proofs.lemmas.Bool.Decides.{Decides-or, Decides-like}
use Rattle.std.proofs.lemmas.Bool.{leb-true, leb-false, le-leb, ltb-true, ltb-false}
use Rattle.wire_base.specs.declared.refusal.Direction.{Direction}
use Rattle.wire_base.specs.declared.refusal.Refusal.{Refusal}
use Rattle.wire_base.specs.declared.refusal.Why.TheVariants.{Port, UnknownCommand, Short, TooLong}
use Rattle.wire_base.specs.Numbers.{number_at}
use Rattle.wire_base.specs.Rows.{IsListed}
use Rattle.wire_base.specs.Found.{Found}
use Rattle.wire_base.specs.Tests.{is_spelled, where_spelled}
use Rattle.wire_base.proofs.Decided as base
use Rattle.sync_wire.specs.Table as sync_table
use Rattle.sync_wire.proofs.Only as sync
use Rattle.sync_wire.proofs.Decided as sync_decided
use Rattle.cast_wire.specs.Table as cast_table
use Rattle.cast_wire.proofs.Only as cast
use Rattle.cast_wire.proofs.Decided as cast_decided
use Rattle.package_grammar.specs.declared.command.Command.{Command}
use Rattle.package_grammar.specs.declared.command.Command.TheVariants.{Sync, Cast}
use Rattle.package_grammar.specs.Grammar.{row, IsWhole, Spells, SpellsTo, IsPort, IsRead, IsKnown, IsRefusal, NoneSpelled, StopsFrom, IsReading}
use Rattle.package_grammar.proofs.Tables.{sync_port, cast_port, sync_known, cast_known, within, moves}
use Rattle.package_grammar.proofs.Answers.{one_answer}
use Rattle.package_grammar.specs.Reading.{Reading, sync_found, cast_found, named_at, is_whole, command_at, is_known, stop_at, with_first, goes_on, read_from, is_port, reading_of}

-- ---- the tests of one command

whole_tells : (command : Command) → Decides (is_whole command) (IsWhole command)
whole_tells (Sync cmd) = sync_decided.whole_tells cmd
whole_tells (Cast cmd) = cast_decided.whole_tells cmd

spelled_tells : (command : Command) (port : ℕ) (dir : Direction) (bytes : List ℕ) (at next : ℕ)
    → Decides (is_spelled row is_whole command port dir bytes at next) (Spells command port dir bytes at next)
spelled_tells command port dir bytes at next = base.spelled_tells row IsWhole is_whole whole_tells command port dir bytes at next

-- an identifier is known where either table has it
either_known : (port : ℕ) (dir : Direction) (cid : ℕ) → sync_table.IsKnown port dir cid ⊎ cast_table.IsKnown port dir cid → IsKnown port dir cid
either_known port dir cid (inl known) = sync_known port dir cid known
either_known port dir cid (inr known) = cast_known port dir cid known

known_in : (port : ℕ) (dir : Direction) (cid : ℕ) (command : Command) → IsListed (row command) port dir → (row command).cid ≡ cid
    → sync_table.IsKnown port dir cid ⊎ cast_table.IsKnown port dir cid
known_in port dir cid (Sync cmd) listed cid_is = inl (record { command = cmd; listed = listed; cid_is = cid_is })
known_in port dir cid (Cast cmd) listed cid_is = inr (record { command = cmd; listed = listed; cid_is = cid_is })

known_tells : (port : ℕ) (dir : Direction) (cid : ℕ) → Decides (is_known port dir cid) (IsKnown port dir cid)
unfolding is_known
known_tells port dir cid =
    Decides-like _ (either_known port dir cid) (λ known. known_in port dir cid known.command known.listed known.cid_is)
    (Decides-or _ _ (sync_decided.known_tells port dir cid) (cast_decided.known_tells port dir cid))

-- ---- one command

-- what is spelled is what is named
named : (command : Command) (port : ℕ) (dir : Direction) (bytes : List ℕ) (at next : ℕ) → Spells command port dir bytes at next → named_at port dir bytes at ≡ Some (command, next)
unfolding named_at
named (Sync cmd) port dir bytes at next spells =
    let high : leb port 201 ≡ false = grind (arith, (sync_port cmd port dir spells.listed).0) in
    rw high (ap sync_found (sync.only cmd port dir bytes at next (record { listed = spells.listed; lies = spells.lies; whole = spells.whole })))
named (Cast cmd) port dir bytes at next spells =
    let low : leb port 201 ≡ true = le-leb _ _ (cast_port cmd port dir spells.listed).1 in
    rw low (ap cast_found (cast.only cmd port dir bytes at next (record { listed = spells.listed; lies = spells.lies; whole = spells.whole })))

-- what is spelled is found
pub found : (command : Command) (port : ℕ) (dir : Direction) (bytes : List ℕ) (at next : ℕ) → Spells command port dir bytes at next → command_at port dir bytes at ≡ Some (command, next)
unfolding command_at
found command port dir bytes at next spells =
    rw (named command port dir bytes at next spells, (spelled_tells command port dir bytes at next).1 spells) refl

-- and what is found is spelled
pub spelled : (command : Command) (port : ℕ) (dir : Direction) (bytes : List ℕ) (at next : ℕ) → command_at port dir bytes at ≡ Some (command, next) → Spells command port dir bytes at next
unfolding command_at
spelled command port dir bytes at next is = by_name (named_at port dir bytes at) is
  where
    by_test : (d : Command) (end : ℕ) (b : Bool) → is_spelled row is_whole d port dir bytes at end ≡ b → cond {A = Found Command} b (Some (d, end)) None ≡ Some (command, next) → Spells command port dir bytes at next
    by_test d end true test same =
        let pair : Path (Command × ℕ) (d, end) (command, next) = cc in
        subst (λ (x : Command × ℕ). Spells x.0 port dir bytes at x.1) pair ((spelled_tells d port dir bytes at end).0 test)
    by_test d end false test same = absurd cc

    by_name : (f : Found Command) → where_spelled row is_whole port dir bytes at f ≡ Some (command, next) → Spells command port dir bytes at next
    by_name None same = absurd cc
    by_name (Some (d, end)) same = by_test d end (is_spelled row is_whole d port dir bytes at end) refl same

-- ---- from a place on

-- what reading from a place on answers
abbrev IsReadFrom : ℕ → Direction → List ℕ → ℕ → Reading → Type 0
IsReadFrom port dir bytes at (Ok commands) = SpellsTo commands port dir bytes at (length bytes)
IsReadFrom port dir bytes at (Err refusal) = StopsFrom port dir bytes at refusal

-- the refusal of a place has its cause
cause : (port : ℕ) (dir : Direction) (bytes : List ℕ) (at : ℕ) → IsRead port bytes → IsRefusal port dir bytes at (stop_at port dir bytes at)
unfolding stop_at
cause port dir bytes at read = by_test (is_known port dir (number_at bytes at 1)) (known_tells port dir (number_at bytes at 1))
  where
    by_test : (b : Bool) → Decides b (IsKnown port dir (number_at bytes at 1))
        → IsRefusal port dir bytes at (cond {A = Refusal} b (record { at = length bytes; why = Short }) (record { at = at; why = UnknownCommand }))
    by_test true known = record { why = (read, known.0 refl); place = refl }
    by_test false known = record { why = (read, λ k. absurd (let t = known.1 k in cc)); place = refl }

-- a command in front of what is read after it
in_front : (command : Command) (port : ℕ) (dir : Direction) (bytes : List ℕ) (at next : ℕ) (r : Reading) → Spells command port dir bytes at next
    → IsReadFrom port dir bytes next r → IsReadFrom port dir bytes at (with_first command r)
in_front command port dir bytes at next (Ok commands) spells behind = (next, spells, behind)
in_front command port dir bytes at next (Err refusal) spells behind =
    let stop = behind.2 in
    (command ∷ behind.0, behind.1, record { reached = (next, spells, stop.reached); inside = stop.inside; none = stop.none; cause = stop.cause })

-- the same after a place, in so many steps
abbrev IsReadBehind : (steps : ℕ) → ℕ → Direction → List ℕ → (at : ℕ) → Type 0
IsReadBehind steps port dir bytes at = (next : ℕ) → at < next → next ≤ length bytes → IsReadFrom port dir bytes next (read_from steps port dir bytes next)

pub reads_from : (steps : ℕ) (port : ℕ) (dir : Direction) (bytes : List ℕ) (at : ℕ) → IsRead port bytes → at ≤ length bytes → length bytes ≤ at + steps
    → IsReadFrom port dir bytes at (read_from steps port dir bytes at)
unfolding read_from
reads_from zero port dir bytes at read inside enough = let ends : at ≡ length bytes = omega arith in ends
reads_from (suc steps) port dir bytes at read inside enough =
    by_end (leb (length bytes) at) refl (λ next more still. reads_from steps port dir bytes next read still (omega (arith, more, enough)))
  where
    by_found : (f : Found Command) → command_at port dir bytes at ≡ f → at < length bytes → IsReadBehind steps port dir bytes at
        → IsReadFrom port dir bytes at (goes_on (stop_at port dir bytes at) (λ next. read_from steps port dir bytes next) f)
    by_found None is before behind =
        let none : NoneSpelled port dir bytes at = λ command next spells. absurd (let there = found command port dir bytes at next spells in cc) in
        ([], at, record { reached = refl; inside = before; none = none; cause = cause port dir bytes at read })
    by_found (Some (command, next)) is before behind =
        let spells = spelled command port dir bytes at next is in
        in_front command port dir bytes at next (read_from steps port dir bytes next) spells
        (behind next (moves command port dir bytes at next spells) (within command port dir bytes at next spells))

    by_end : (b : Bool) → leb (length bytes) at ≡ b → IsReadBehind steps port dir bytes at
        → IsReadFrom port dir bytes at (cond {A = Reading} b (Ok []) (goes_on (stop_at port dir bytes at) (λ next. read_from steps port dir bytes next) (command_at port dir bytes at)))
    by_end true is behind = let past = leb-true _ _ is in let ends : at ≡ length bytes = omega arith in ends
    by_end false is behind = by_found (command_at port dir bytes at) refl (leb-false _ _ is) behind

-- ---- a payload

port_tells : (port : ℕ) → Decides (is_port port) (IsPort port)
port_tells port =
    (λ is. record { low = grind (arith, is); high = grind (arith, is) }, λ p. grind (arith, p.low, p.high))

whole_reading : (port : ℕ) (dir : Direction) (bytes : List ℕ) (r : Reading) → IsRead port bytes → IsReadFrom port dir bytes 0 r → IsReading port dir bytes r
whole_reading port dir bytes (Ok commands) read all = record { port_is = read.0; fits = read.1; all = all }
whole_reading port dir bytes (Err refusal) read stops = inr (inr (read, stops))

pub reads : (port : ℕ) (dir : Direction) (bytes : List ℕ) → IsReading port dir bytes (reading_of port dir bytes)
unfolding reading_of
reads port dir bytes = by_port (is_port port) (port_tells port)
  where
    by_length : IsPort port → (b : Bool) → ltb 242 (length bytes) ≡ b → IsReading port dir bytes (cond {A = Reading} b (Err (record { at = 242; why = TooLong })) (read_from (length bytes) port dir bytes 0))
    by_length on true is = inr (inl (on, ltb-true _ _ is, refl, refl))
    by_length on false is =
        let read : IsRead port bytes = (on, ltb-false _ _ is) in
        whole_reading port dir bytes _ read (reads_from (length bytes) port dir bytes 0 read (omega arith) (omega arith))

    by_port : (b : Bool) → Decides b (IsPort port)
        → IsReading port dir bytes (cond {A = Reading} (not b) (Err (record { at = 0; why = Port })) (cond {A = Reading} (ltb 242 (length bytes)) (Err (record { at = 242; why = TooLong })) (read_from (length bytes) port dir bytes 0)))
    by_port true on = by_length (on.0 refl) (ltb 242 (length bytes)) refl
    by_port false off = inl (λ on. absurd (let t = off.1 on in cc), refl, refl)

-- what the relations say is what it answers
pub read_as : (port : ℕ) (dir : Direction) (bytes : List ℕ) (r : Reading) → IsReading port dir bytes r → reading_of port dir bytes ≡ r
read_as port dir bytes r is = one_answer port dir bytes (reading_of port dir bytes) r (reads port dir bytes) is

pub answered : (port : ℕ) (dir : Direction) (bytes : List ℕ) (r : Reading) → reading_of port dir bytes ≡ r → IsReading port dir bytes r
answered port dir bytes r is = subst (λ (x : Reading). IsReading port dir bytes x) is (reads port dir bytes)
