use Rattle.std.proofs.Common.{inl, inr}
use Rattle.sync_wire.specs.Table as sync
use Rattle.package_grammar.proofs.Tables.{sync_cause, cast_cause, cast_within}
use Rattle.package_grammar.proofs.reading.read_one.Goals as goal
use Rattle.package_grammar.proofs.reading.read_one.Goals.{then-port-eq-CLOCK_PORT-via-then-port-eq-CLOCK_PORT, then-port-eq-CLOCK_PORT-via-else-port-eq-CLOCK_PORT+then-port-eq-FIRMWARE_PORT}

pub returns-in-Err-clause-stops : goal.returns-in-Err-clause-stops
returns-in-Err-clause-stops c =
    let is : sync.IsPort c.args.port = elim c.then-port-eq-CLOCK_PORT.branch [
      | then-port-eq-CLOCK_PORT-via-then-port-eq-CLOCK_PORT w ↦ inl w.if-port-eq-CLOCK_PORT.true
      | then-port-eq-CLOCK_PORT-via-else-port-eq-CLOCK_PORT+then-port-eq-FIRMWARE_PORT w ↦ inr w.if-port-eq-FIRMWARE_PORT.true
    ] in
    sync_cause _ _ _ _ _ is c.in-Err.ensures.stops

pub returns-in-Ok-read_one-clause-within : goal.returns-in-Ok-read_one-clause-within
returns-in-Ok-read_one-clause-within c = cast_within _ _ _ _ _ _ c.in-Ok-read_one.ensures.found

pub returns-in-Err-read_one-clause-stops : goal.returns-in-Err-read_one-clause-stops
returns-in-Err-read_one-clause-stops c =
    let other : sync.IsPort c.args.port → ⊥ = λ is. elim is [ inl e ↦ c.if-port-eq-CLOCK_PORT.false e | inr e ↦ c.if-port-eq-FIRMWARE_PORT.false e ] in
    cast_cause _ _ _ _ _ other c.in-Err-read_one.ensures.stops
