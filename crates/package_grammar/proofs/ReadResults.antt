-- What a message and a count tell of the reading that they come from.
use Rattle.std.proofs.Common.{◌≡◌, ℕ, List, Ok, Err, sym, ap, subst}
use Rattle.wire_base.specs.declared.refusal.Direction.{Direction}
use Rattle.wire_base.specs.declared.refusal.Refusal.{Refusal}
use Rattle.package_grammar.specs.declared.command.Command.{Command}
use Rattle.package_grammar.specs.Grammar.{IsMessage, IsStop, IsReading}
use Rattle.package_grammar.specs.Reading.{Reading, reading_of, counted}
use Rattle.package_grammar.specs.HeldMessage.{HeldMessage, message_of}
use Rattle.package_grammar.proofs.ReadingLaw.{reads}

pub refusal_read : (port : ℕ) (dir : Direction) (r : Reading) (e : Refusal) → Err e ≡ message_of port dir r → r ≡ Err e
refusal_read port dir (Ok cs) e is = absurd cc
refusal_read port dir (Err f) e is = cc

pub commands_read : (port : ℕ) (dir : Direction) (r : Reading) (m : HeldMessage) → Ok m ≡ message_of port dir r → r ≡ Ok m.commands
commands_read port dir (Ok cs) m is =
    let same : Path HeldMessage m (record { port = port; direction = dir; commands = cs }) = cc in
    ap (λ (x : HeldMessage). let y : Reading = Ok x.commands in y) (sym same)
commands_read port dir (Err f) m is = absurd cc

-- where a count is answered the payload is a message, and else reading it stops
pub message_counted : (port : ℕ) (dir : Direction) (bytes : List ℕ) (n : ℕ) → Ok n ≡ counted (reading_of port dir bytes) → (cs : List Command) × IsMessage cs port dir bytes
message_counted port dir bytes n is = by_reading (reading_of port dir bytes) (reads port dir bytes) is
  where
    by_reading : (r : Reading) → IsReading port dir bytes r → Ok n ≡ counted r → (cs : List Command) × IsMessage cs port dir bytes
    by_reading (Ok cs) message same = (cs, message)
    by_reading (Err refusal) stops same = absurd cc

pub stop_counted : (port : ℕ) (dir : Direction) (bytes : List ℕ) (e : Refusal) → Err e ≡ counted (reading_of port dir bytes) → IsStop port dir bytes e
stop_counted port dir bytes e is = by_reading (reading_of port dir bytes) (reads port dir bytes) is
  where
    by_reading : (r : Reading) → IsReading port dir bytes r → Err e ≡ counted r → IsStop port dir bytes e
    by_reading (Ok cs) message same = absurd cc
    by_reading (Err refusal) stops same = let refusal_is : Path Refusal refusal e = cc in subst (λ (x : Refusal). IsStop port dir bytes x) refusal_is stops
