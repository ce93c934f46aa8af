-- Uplinks that are read of saved bytes.
use Rattle.std.proofs.Common.{◌≡◌, ℕ, zero, suc, ◌+◌, ◌*◌, ◌<◌, List, [], ◌∷◌, ◌++◌, length, get_or, map, take, Option, Some, None, Ok, Err, sym, ap, subst, ◌∙◌, arith}
use Rattle.std.specs.Prelude.{IfNone}
use Rattle.std.specs.List.{flat_map, AllByRecursion, range_with_len}
use Rattle.std.proofs.lemmas.List.{flat_map_more, take_more}
use Rattle.std.proofs.lemmas.List.FromFn.{length-map-range_with_len, get_or-map-range_with_len, map-range_with_len_more}
use Rattle.wire_base.specs.declared.refusal.Direction.TheVariants.{Up}
use Rattle.wire_base.specs.declared.refusal.Refusal.{Refusal}
use Rattle.package_grammar.specs.declared.command.Command.{Command}
use Rattle.package_grammar.specs.Grammar.{canonical}
use Rattle.package_grammar.specs.HeldMessage.{HeldMessage, message_of as told_message}
use Rattle.package_grammar.proofs.ReadResults.{refusal_read, commands_read}
use Rattle.package_grammar.specs.Reading.{reading_of}
use Rattle.package_grammar.proofs.Written.{message_of}
use Rattle.package_grammar.proofs.ReadingLaw.{read_as}
use Rattle.device_core.specs.declared.uplink.Uplink.{Uplink}
use Rattle.device_core.specs.Sendable.{IsUplink}
use Rattle.device_core.specs.Saving.{uplink_bytes, UplinkFits}
use Rattle.device_core.specs.SavingInside.{uplink_at}

-- an uplink's payload is read as its one command
pub read_uplink : (uplink : Uplink) (is : IsUplink uplink) → reading_of uplink.port Up uplink.payload ≡ Ok (is.command ∷ [])
read_uplink uplink is =
    ap (λ (bytes : List ℕ). reading_of uplink.port Up bytes) is.bytes
    ∙ read_as uplink.port Up (canonical is.command) (Ok (is.command ∷ []))
    (message_of is.command uplink.port Up is.sendable.valid is.sendable.listed)

-- no uplink is refused
pub not_refused : (uplink : Uplink) (refusal : Refusal) → Err refusal ≡ told_message uplink.port Up (reading_of uplink.port Up uplink.payload) → IsUplink uplink → ⊥
not_refused uplink refusal told is =
    let read = read_uplink uplink is in
    let stops = refusal_read uplink.port Up (reading_of uplink.port Up uplink.payload) refusal told in
    absurd cc

-- nor without a command
pub not_empty : (uplink : Uplink) (message : HeldMessage) → Ok message ≡ told_message uplink.port Up (reading_of uplink.port Up uplink.payload) → message.commands ≡ []
    → IsUplink uplink → ⊥
not_empty uplink message told none is =
    let read = read_uplink uplink is in
    let reads = commands_read uplink.port Up (reading_of uplink.port Up uplink.payload) message told in
    absurd cc

-- and its first command spells it
pub same_payload : (uplink : Uplink) (message new : HeldMessage) (command : Command) → Ok message ≡ told_message uplink.port Up (reading_of uplink.port Up uplink.payload)
    → message ≡ record new { commands = command ∷ new.commands } → IsUplink uplink → canonical command ≡ uplink.payload
same_payload uplink message new command told takes is =
    let read = read_uplink uplink is in
    let reads = commands_read uplink.port Up (reading_of uplink.port Up uplink.payload) message told in
    let front : message.commands ≡ command ∷ new.commands = ap (λ (m : HeldMessage). m.commands) takes in
    let same : command ≡ is.command = cc in
    ap canonical same ∙ sym is.bytes

pub if_none : {A : Type 0} (o : Option A) {P : Type 0} → P → IfNone o P
if_none None p = p
if_none (Some x) p = tt

-- one more
pub fit_more : (uplinks : List Uplink) (uplink : Uplink) → AllByRecursion UplinkFits uplinks → UplinkFits uplink → AllByRecursion UplinkFits (uplinks ++ uplink ∷ [])
fit_more [] uplink all is = (is, tt)
fit_more (first ∷ uplinks) uplink all is = (all.0, fit_more uplinks uplink all.1 is)

-- each of them
pub spelled_all : (uplinks : List Uplink) → AllByRecursion UplinkFits uplinks → AllByRecursion IsUplink uplinks
spelled_all [] all = tt
spelled_all (uplink ∷ uplinks) all = (all.0.spelled, spelled_all uplinks all.1)

spelled_at : (uplinks : List Uplink) (k : ℕ) (d : Uplink) → k < length uplinks → AllByRecursion IsUplink uplinks → IsUplink (get_or uplinks k d)
spelled_at [] k d less all = absurd (omega (arith, less))
spelled_at (uplink ∷ uplinks) zero d less all = all.0
spelled_at (uplink ∷ uplinks) (suc k) d less all = spelled_at uplinks k d (omega (arith, less)) all.1

pub spelled_of : (f : ℕ → Uplink) (number k : ℕ) → k < number → AllByRecursion IsUplink (map f (range_with_len 0 number)) → IsUplink (f k)
spelled_of f number k less all =
    let many = length-map-range_with_len f 0 number in
    let is = get_or-map-range_with_len f 0 number k k (f k) less (omega arith) in
    subst (λ (u : Uplink). IsUplink u) is (spelled_at (map f (range_with_len 0 number)) k (f k) (omega (arith, less, many)) all)

-- what is put of one more
pub uplinks_more : (o : List ℕ) (uplinks : List Uplink) (i : ℕ) (uplink : Uplink) → i < length uplinks → uplink ≡ get_or uplinks i uplink
    → o ++ flat_map uplink_bytes (take i uplinks) ++ uplink_bytes uplink ≡ o ++ flat_map uplink_bytes (take (i + 1) uplinks)
uplinks_more o uplinks i uplink less is =
    flat_map_more uplink_bytes o (take i uplinks) uplink
    ∙ ap (λ (xs : List Uplink). o ++ flat_map uplink_bytes xs)
    (ap (λ (x : Uplink). take i uplinks ++ x ∷ []) is ∙ sym (take_more uplinks i uplink less))

-- what is read of one more
pub read_more : (bytes : List ℕ) (k : ℕ) (old new : List Uplink) (uplink : Uplink) → new ≡ old ++ uplink ∷ [] → uplink ≡ uplink_at bytes (204 + 32 * k)
    → old ≡ map (λ (j : ℕ). uplink_at bytes (204 + 32 * j)) (range_with_len 0 k) → new ≡ map (λ (j : ℕ). uplink_at bytes (204 + 32 * j)) (range_with_len 0 (k + 1))
read_more bytes k old new uplink pushed is before =
    let more = map-range_with_len_more (λ (j : ℕ). uplink_at bytes (204 + 32 * j)) 0 k k (omega arith) in
    pushed ∙ ap (λ (xs : List Uplink). xs ++ uplink ∷ []) before
    ∙ ap (λ (u : Uplink). map (λ (j : ℕ). uplink_at bytes (204 + 32 * j)) (range_with_len 0 k) ++ u ∷ []) is
    ∙ sym more
