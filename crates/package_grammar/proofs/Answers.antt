-- Reading a payload has one answer: at most one command is spelled at a place, so one list of commands is read, up to one place.
use Rattle.std.proofs.Common.{◌≡◌, ℕ, ◌<◌, List, [], ◌∷◌, length, Result, Ok, Err, refl, sym, ap, subst, ◌∙◌, inl, inr, arith}
use Rattle.wire_base.specs.declared.refusal.Direction.{Direction}
use Rattle.wire_base.specs.declared.refusal.Refusal.{Refusal}
use Rattle.wire_base.specs.declared.refusal.Why.{Why}
use Rattle.wire_base.specs.declared.refusal.Why.TheVariants.{Port, UnknownCommand, Short, TooLong}
use Rattle.wire_base.specs.Tables.{IsRefused, place_of}
use Rattle.sync_wire.specs.declared.cmd.Cmd.{Cmd as SyncCmd}
use Rattle.sync_wire.proofs.Spellings as sync_spellings
use Rattle.cast_wire.specs.declared.cmd.Cmd.{Cmd as CastCmd}
use Rattle.cast_wire.proofs.Spellings as cast_spellings
use Rattle.package_grammar.specs.declared.command.Command.{Command}
use Rattle.package_grammar.specs.declared.command.Command.TheVariants.{Sync, Cast}
use Rattle.package_grammar.specs.Grammar.{Spells, SpellsTo, IsMessage, IsPort, row, IsRefusal, NoneSpelled, StopsFrom, IsStop, IsReading}
use Rattle.package_grammar.proofs.Tables.{sync_port, cast_port, within, moves}
use Rattle.package_grammar.proofs.Messages.{none_left}

-- at most one command is spelled at a place, with one end
pub one_spelled : (c d : Command) (port : ℕ) (dir : Direction) (bytes : List ℕ) (at next end : ℕ) → Spells c port dir bytes at next → Spells d port dir bytes at end → (c ≡ d) × (next ≡ end)
one_spelled (Sync c) (Sync d) port dir bytes at next end first second =
    let same = sync_spellings.one c d port dir bytes at next end (record { listed = first.listed; lies = first.lies; whole = first.whole }) (record { listed = second.listed; lies = second.lies; whole = second.whole }) in
    (ap (λ (x : SyncCmd). Sync x) same.0, same.1)
one_spelled (Cast c) (Cast d) port dir bytes at next end first second =
    let same = cast_spellings.one c d port dir bytes at next end (record { listed = first.listed; lies = first.lies; whole = first.whole }) (record { listed = second.listed; lies = second.lies; whole = second.whole }) in
    (ap (λ (x : CastCmd). Cast x) same.0, same.1)
one_spelled (Sync c) (Cast d) port dir bytes at next end first second = absurd (omega (arith, (sync_port c port dir first.listed).0, (cast_port d port dir second.listed).1))
one_spelled (Cast c) (Sync d) port dir bytes at next end first second = absurd (omega (arith, (cast_port c port dir first.listed).1, (sync_port d port dir second.listed).0))

-- from a place to the end at most one list of commands is spelled
pub one_list : (cs ds : List Command) (port : ℕ) (dir : Direction) (bytes : List ℕ) (at : ℕ) → SpellsTo cs port dir bytes at (length bytes) → SpellsTo ds port dir bytes at (length bytes) → cs ≡ ds
one_list [] ds port dir bytes at all other = sym (none_left ds port dir bytes at all other)
one_list (c ∷ cs) [] port dir bytes at all other = none_left (c ∷ cs) port dir bytes at other all
one_list (c ∷ cs) (d ∷ ds) port dir bytes at all other =
    let same = one_spelled c d port dir bytes at all.0 other.0 all.1 other.1 in
    let behind = one_list cs ds port dir bytes other.0 (subst (λ (n : ℕ). SpellsTo cs port dir bytes n (length bytes)) same.1 all.2) other.2 in
    ap (λ (x : Command). x ∷ cs) same.0 ∙ ap (λ (xs : List Command). d ∷ xs) behind

-- reading reaches at most one place at which none is spelled
one_place : (cs ds : List Command) (port : ℕ) (dir : Direction) (bytes : List ℕ) (from at end : ℕ) → SpellsTo cs port dir bytes from at → SpellsTo ds port dir bytes from end
    → NoneSpelled port dir bytes at → NoneSpelled port dir bytes end → at ≡ end
one_place [] [] port dir bytes from at end reached other none another = sym reached ∙ other
one_place [] (d ∷ ds) port dir bytes from at end reached other none another =
    absurd (none d other.0 (subst (λ (n : ℕ). Spells d port dir bytes n other.0) reached other.1))
one_place (c ∷ cs) [] port dir bytes from at end reached other none another =
    absurd (another c reached.0 (subst (λ (n : ℕ). Spells c port dir bytes n reached.0) other reached.1))
one_place (c ∷ cs) (d ∷ ds) port dir bytes from at end reached other none another =
    let same = one_spelled c d port dir bytes from reached.0 other.0 reached.1 other.1 in
    one_place cs ds port dir bytes other.0 at end (subst (λ (n : ℕ). SpellsTo cs port dir bytes n at) same.1 reached.2) other.2 none another

-- and none before the end, where commands are spelled up to the end
no_place : (cs read : List Command) (port : ℕ) (dir : Direction) (bytes : List ℕ) (from at : ℕ) → SpellsTo cs port dir bytes from (length bytes) → SpellsTo read port dir bytes from at
    → at < length bytes → NoneSpelled port dir bytes at → ⊥
no_place [] [] port dir bytes from at all reached inside none = omega (arith, all, reached, inside)
no_place [] (d ∷ ds) port dir bytes from at all reached inside none =
    omega (arith, all, within d port dir bytes from reached.0 reached.1, moves d port dir bytes from reached.0 reached.1)
no_place (c ∷ cs) [] port dir bytes from at all reached inside none = none c all.0 (subst (λ (n : ℕ). Spells c port dir bytes n all.0) reached all.1)
no_place (c ∷ cs) (d ∷ ds) port dir bytes from at all reached inside none =
    let same = one_spelled c d port dir bytes from all.0 reached.0 all.1 reached.1 in
    no_place cs ds port dir bytes reached.0 at (subst (λ (n : ℕ). SpellsTo cs port dir bytes n (length bytes)) same.1 all.2) reached.2 inside none

-- a place is refused for one reason
one_reason : (port : ℕ) (dir : Direction) (bytes : List ℕ) (at : ℕ) (one other : Why) → IsRefused row IsPort port dir bytes at one → IsRefused row IsPort port dir bytes at other → one ≡ other
one_reason port dir bytes at Port Port first second = refl
one_reason port dir bytes at Port TooLong first second = absurd (first second.0)
one_reason port dir bytes at Port UnknownCommand first second = absurd (first second.0.0)
one_reason port dir bytes at Port Short first second = absurd (first second.0.0)
one_reason port dir bytes at TooLong Port first second = absurd (second first.0)
one_reason port dir bytes at TooLong TooLong first second = refl
one_reason port dir bytes at TooLong UnknownCommand first second = absurd (omega (arith, first.1, second.0.1))
one_reason port dir bytes at TooLong Short first second = absurd (omega (arith, first.1, second.0.1))
one_reason port dir bytes at UnknownCommand Port first second = absurd (second first.0.0)
one_reason port dir bytes at UnknownCommand TooLong first second = absurd (omega (arith, first.0.1, second.1))
one_reason port dir bytes at UnknownCommand UnknownCommand first second = refl
one_reason port dir bytes at UnknownCommand Short first second = absurd (first.1 second.1)
one_reason port dir bytes at Short Port first second = absurd (second first.0.0)
one_reason port dir bytes at Short TooLong first second = absurd (omega (arith, first.0.1, second.1))
one_reason port dir bytes at Short UnknownCommand first second = absurd (second.1 first.1)
one_reason port dir bytes at Short Short first second = refl

same_refusal : (one other : Refusal) → one.why ≡ other.why → one.at ≡ other.at → one ≡ other
same_refusal one other why place =
    let placed : Path Refusal one (record { at = other.at; why = one.why }) = ap (λ (n : ℕ). let r : Refusal = record { at = n; why = one.why } in r) place in
    placed ∙ ap (λ (w : Why). let r : Refusal = record { at = other.at; why = w } in r) why

one_cause : (port : ℕ) (dir : Direction) (bytes : List ℕ) (at : ℕ) (one other : Refusal) → IsRefusal port dir bytes at one → IsRefusal port dir bytes at other → one ≡ other
one_cause port dir bytes at one other first second =
    let why = one_reason port dir bytes at one.why other.why first.why second.why in
    same_refusal one other why (first.place ∙ ap (λ (w : Why). place_of bytes at w) why ∙ sym second.place)

one_stop_from : (port : ℕ) (dir : Direction) (bytes : List ℕ) (one other : Refusal) → StopsFrom port dir bytes 0 one → StopsFrom port dir bytes 0 other → one ≡ other
one_stop_from port dir bytes one other first second =
    let same = one_place first.0 second.0 port dir bytes 0 first.1 second.1 first.2.reached second.2.reached first.2.none second.2.none in
    one_cause port dir bytes second.1 one other (subst (λ (n : ℕ). IsRefusal port dir bytes n one) same first.2.cause) second.2.cause

-- reading stops in one way at most
pub one_stop : (port : ℕ) (dir : Direction) (bytes : List ℕ) (one other : Refusal) → IsStop port dir bytes one → IsStop port dir bytes other → one ≡ other
one_stop port dir bytes one other (inl a) (inl b) = same_refusal one other (a.1 ∙ sym b.1) (a.2 ∙ sym b.2)
one_stop port dir bytes one other (inl a) (inr (inl b)) = absurd (a.0 b.0)
one_stop port dir bytes one other (inl a) (inr (inr b)) = absurd (a.0 b.0.0)
one_stop port dir bytes one other (inr (inl a)) (inl b) = absurd (b.0 a.0)
one_stop port dir bytes one other (inr (inl a)) (inr (inl b)) = same_refusal one other (a.2 ∙ sym b.2) (a.3 ∙ sym b.3)
one_stop port dir bytes one other (inr (inl a)) (inr (inr b)) = absurd (omega (arith, a.1, b.0.1))
one_stop port dir bytes one other (inr (inr a)) (inl b) = absurd (b.0 a.0.0)
one_stop port dir bytes one other (inr (inr a)) (inr (inl b)) = absurd (omega (arith, b.1, a.0.1))
one_stop port dir bytes one other (inr (inr a)) (inr (inr b)) = one_stop_from port dir bytes one other a.1 b.1

-- and in none where the payload is a message
pub no_stop : (cs : List Command) (port : ℕ) (dir : Direction) (bytes : List ℕ) (refusal : Refusal) → IsMessage cs port dir bytes → IsStop port dir bytes refusal → ⊥
no_stop cs port dir bytes refusal message (inl a) = a.0 message.port_is
no_stop cs port dir bytes refusal message (inr (inl a)) = omega (arith, a.1, message.fits)
no_stop cs port dir bytes refusal message (inr (inr a)) =
    let stops : StopsFrom port dir bytes 0 refusal = a.1 in
    no_place cs stops.0 port dir bytes 0 stops.1 message.all stops.2.reached stops.2.inside stops.2.none

pub one_message : (cs ds : List Command) (port : ℕ) (dir : Direction) (bytes : List ℕ) → IsMessage cs port dir bytes → IsMessage ds port dir bytes → cs ≡ ds
one_message cs ds port dir bytes first second = one_list cs ds port dir bytes 0 first.all second.all

pub one_answer : (port : ℕ) (dir : Direction) (bytes : List ℕ) (one other : Result (List Command) Refusal) → IsReading port dir bytes one → IsReading port dir bytes other → one ≡ other
one_answer port dir bytes (Ok cs) (Ok ds) first second = ap (λ (xs : List Command). let r : Result (List Command) Refusal = Ok xs in r) (one_message cs ds port dir bytes first second)
one_answer port dir bytes (Ok cs) (Err stop) first second = absurd (no_stop cs port dir bytes stop first second)
one_answer port dir bytes (Err stop) (Ok ds) first second = absurd (no_stop ds port dir bytes stop second first)
one_answer port dir bytes (Err stop) (Err again) first second = ap (λ (x : Refusal). let r : Result (List Command) Refusal = Err x in r) (one_stop port dir bytes stop again first second)
