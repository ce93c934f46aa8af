-- A place of a payload, and the commands from there on.
use Rattle.std.proofs.Common.{◌≡◌, ◌≢◌, ℕ, zero, suc, ◌+◌, ◌<◌, ◌≤◌, true, false, leb, List, [], ◌∷◌, ◌++◌, length, Option, None, Some, Result, Ok, Err, refl, sym, ap, subst, ◌∙◌, arith, inl, inr}
use Rattle.std.proofs.lemmas.Bool.{le-leb, lt-leb}
use Rattle.wire_base.specs.declared.refusal.Direction.{Direction}
use Rattle.wire_base.specs.declared.refusal.Refusal.{Refusal}
use Rattle.wire_base.specs.declared.refusal.Why.TheVariants.{Port, TooLong}
use Rattle.wire_base.specs.declared.refusal.Direction.TheVariants.{Down}
use Rattle.cast_wire.specs.declared.cmd.Cmd.TheVariants.{DataFragment}
use Rattle.cast_wire.specs.declared.fragment.Fragment.{Fragment}
use Rattle.cast_wire.specs.Table.{Spells as CastSpells}
use Rattle.cast_wire.specs.Fragment.{IsFragmentAt}
use Rattle.package_grammar.specs.HeldMessage.{HeldMessage, LeavesFragment}
use Rattle.package_grammar.specs.declared.command.Command.{Command}
use Rattle.package_grammar.specs.declared.command.Command.TheVariants.{Cast}
use Rattle.package_grammar.specs.Grammar.{Spells, SpellsTo, IsPort, IsRead, IsRefusal}
use Rattle.package_grammar.proofs.Tables.{within, moves}
use Rattle.package_grammar.proofs.Messages.{first_read, none_spelled, none_read}
use Rattle.package_grammar.specs.Reading.{Reading, with_first, read_from, reading_of}
use Rattle.package_grammar.specs.MessageInside.{commands_of, commands_left, IsAt}
use Rattle.package_grammar.proofs.ReadingLaw.{found, read_as}

-- commands that are spelled up to the end are read, in steps enough
read_up : (steps : ℕ) (cs : List Command) (port : ℕ) (dir : Direction) (bytes : List ℕ) (at : ℕ) → length bytes ≤ at + steps
    → SpellsTo cs port dir bytes at (length bytes) → read_from steps port dir bytes at ≡ Ok cs
unfolding read_from
read_up zero [] port dir bytes at enough all = refl
read_up zero (c ∷ cs) port dir bytes at enough all =
    absurd (omega (arith, enough, moves c port dir bytes at all.0 all.1, within c port dir bytes at all.0 all.1))
read_up (suc steps) [] port dir bytes at enough all = let past : leb (length bytes) at ≡ true = le-leb _ _ (omega (arith, all)) in rw past refl
read_up (suc steps) (c ∷ cs) port dir bytes at enough all =
    let more = moves c port dir bytes at all.0 all.1 in
    let before : leb (length bytes) at ≡ false = lt-leb _ _ (omega (arith, more, within c port dir bytes at all.0 all.1)) in
    rw (before, found c port dir bytes at all.0 all.1)
    (ap (λ (r : Reading). with_first c r) (read_up steps cs port dir bytes all.0 (omega (arith, more, enough)) all.2))

pub left_is : (cs : List Command) (port : ℕ) (dir : Direction) (bytes : List ℕ) (at : ℕ) → SpellsTo cs port dir bytes at (length bytes) → commands_left port dir bytes at ≡ cs
unfolding commands_left
left_is cs port dir bytes at all = ap commands_of (read_up (length bytes) cs port dir bytes at (omega arith) all)

pub none_left : (port : ℕ) (dir : Direction) (bytes : List ℕ) (at : ℕ) → at ≡ length bytes → commands_left port dir bytes at ≡ []
none_left port dir bytes at ends = left_is [] port dir bytes at ends

-- where commands are spelled up to the end, a cursor may stand
pub stands_at : (cs : List Command) (port : ℕ) (dir : Direction) (bytes : List ℕ) (at : ℕ) → IsRead port bytes → at ≤ length bytes
    → SpellsTo cs port dir bytes at (length bytes) → IsAt port dir bytes at
stands_at cs port dir bytes at read inside all = record {
  read = read;
  inside = inside;
  spells = subst (λ (xs : List Command). SpellsTo xs port dir bytes at (length bytes)) (sym (left_is cs port dir bytes at all)) all;
}

-- a command that was read is the first that was left, and the cursor may stand after it
pub first_left : (port : ℕ) (dir : Direction) (bytes : List ℕ) (at : ℕ) (r : Result (Command × ℕ) Refusal) (c : Command) (next : ℕ) → IsAt port dir bytes at → at ≢ length bytes
    → ((d : Command) (end : ℕ) → length bytes ≤ 242 → Spells d port dir bytes at end → r ≡ Ok (d, end)) → r ≡ Ok (c, next) → next ≤ length bytes
    → (commands_left port dir bytes at ≡ c ∷ commands_left port dir bytes next) × IsAt port dir bytes next
first_left port dir bytes at r c next stands before only is inside =
    let first = first_read port dir bytes at r c next (commands_left port dir bytes at) before (λ d end. only d end stands.read.1) is stands.spells in
    (first.1 ∙ ap (λ (xs : List Command). c ∷ xs) (sym (left_is first.0 port dir bytes next first.2)), stands_at first.0 port dir bytes next stands.read inside first.2)

-- before the end one is read
pub some_left : {A : Type 0} (port : ℕ) (dir : Direction) (bytes : List ℕ) (at : ℕ) (r : Result (Command × ℕ) Refusal) (e : Refusal) → IsAt port dir bytes at → at ≢ length bytes
    → ((d : Command) (end : ℕ) → length bytes ≤ 242 → Spells d port dir bytes at end → r ≡ Ok (d, end)) → r ≡ Err e → A
some_left port dir bytes at r e stands before only is =
    absurd (none_read port dir bytes at (commands_left port dir bytes at) before (none_spelled port dir bytes at r e (λ d end. only d end stands.read.1) is) stands.spells)

-- a DataFragment that is spelled up to the end is all that is left
pub fragment_left : (bytes : List ℕ) (at index n : ℕ) (part : List ℕ) → CastSpells (DataFragment index n part) 201 Down bytes at (length bytes)
    → commands_left 201 Down bytes at ≡ Cast (DataFragment index n part) ∷ []
fragment_left bytes at index n part spells =
    left_is (Cast (DataFragment index n part) ∷ []) 201 Down bytes at
    (length bytes, record { listed = spells.listed; lies = spells.lies; whole = spells.whole }, refl)

-- a DataFragment that comes first is spelled in a payload from the server on port 201
pub first_fragment : (port : ℕ) (dir : Direction) (bytes : List ℕ) (at index n : ℕ) (part : List ℕ) (rest : List Command) → IsAt port dir bytes at
    → commands_left port dir bytes at ≡ Cast (DataFragment index n part) ∷ rest
    → (port ≡ 201) × (dir ≡ Down) × ((next : ℕ) × CastSpells (DataFragment index n part) port dir bytes at next)
first_fragment port dir bytes at index n part rest stands is =
    let all = subst (λ (cs : List Command). SpellsTo cs port dir bytes at (length bytes)) is stands.spells in
    (all.1.listed.port_is, all.1.listed.direction_is, (all.0, record { listed = all.1.listed; lies = all.1.lies; whole = all.1.whole }))

-- ---- reading on, from the first byte

-- commands were read up to a place
pub record IsReadTo (port : ℕ) (dir : Direction) (bytes : List ℕ) (at : ℕ) : Type 0 where
  pub inside : at ≤ length bytes
  pub front : List Command
  pub reached : SpellsTo front port dir bytes 0 at

behind : (front : List Command) (c : Command) (port : ℕ) (dir : Direction) (bytes : List ℕ) (from at next : ℕ) → SpellsTo front port dir bytes from at → Spells c port dir bytes at next
    → SpellsTo (front ++ c ∷ []) port dir bytes from next
behind [] c port dir bytes from at next reached spells = (next, subst (λ (n : ℕ). Spells c port dir bytes n next) (sym reached) spells, refl)
behind (d ∷ ds) c port dir bytes from at next reached spells = (reached.0, reached.1, behind ds c port dir bytes reached.0 at next reached.2 spells)

pub none_yet : (port : ℕ) (dir : Direction) (bytes : List ℕ) → IsReadTo port dir bytes 0
none_yet port dir bytes = record { inside = omega arith; front = []; reached = refl }

pub one_more : (port : ℕ) (dir : Direction) (bytes : List ℕ) (at next : ℕ) (c : Command) → IsReadTo port dir bytes at → Spells c port dir bytes at next → IsReadTo port dir bytes next
one_more port dir bytes at next c so_far spells = record {
  inside = within c port dir bytes at next spells;
  front = so_far.front ++ c ∷ [];
  reached = behind so_far.front c port dir bytes 0 at next so_far.reached spells;
}

-- at the end it is a message
pub read_whole : (port : ℕ) (dir : Direction) (bytes : List ℕ) (at : ℕ) → IsRead port bytes → length bytes ≤ at → IsReadTo port dir bytes at
    → (reading_of port dir bytes ≡ Ok (commands_left port dir bytes 0)) × IsAt port dir bytes 0
read_whole port dir bytes at read ends so_far =
    let end : at ≡ length bytes = omega (arith, so_far.inside) in
    let all = subst (λ (n : ℕ). SpellsTo so_far.front port dir bytes 0 n) end so_far.reached in
    let stands = stands_at so_far.front port dir bytes 0 read (omega arith) all in
    (read_as port dir bytes (Ok (commands_left port dir bytes 0)) (record { port_is = read.0; fits = read.1; all = stands.spells }), stands)

-- where none is read, reading stops
pub stopped : (port : ℕ) (dir : Direction) (bytes : List ℕ) (at : ℕ) (r : Result (Command × ℕ) Refusal) (e : Refusal) → IsRead port bytes → at < length bytes → IsReadTo port dir bytes at
    → ((d : Command) (end : ℕ) → length bytes ≤ 242 → Spells d port dir bytes at end → r ≡ Ok (d, end)) → r ≡ Err e → IsRefusal port dir bytes at e → reading_of port dir bytes ≡ Err e
stopped port dir bytes at r e read before so_far only is cause = read_as port dir bytes (Err e) (inr (inr (
  read,
  (
    so_far.front,
    at,
    record {
      reached = so_far.reached;
      inside = before;
      none = none_spelled port dir bytes at r e (λ d end. only d end read.1) is;
      cause = cause;
    },
  ),
)))

-- as many commands as bytes at most
many : (cs : List Command) (port : ℕ) (dir : Direction) (bytes : List ℕ) (at end : ℕ) → SpellsTo cs port dir bytes at end → length cs + at ≤ end
many [] port dir bytes at end all = omega (arith, all)
many (c ∷ cs) port dir bytes at end all = omega (arith, many cs port dir bytes all.0 end all.2, moves c port dir bytes at all.0 all.1)

pub few_left : (port : ℕ) (dir : Direction) (bytes : List ℕ) (at : ℕ) → IsAt port dir bytes at → length (commands_left port dir bytes at) ≤ 242
few_left port dir bytes at stands = omega (arith, many (commands_left port dir bytes at) port dir bytes at (length bytes) stands.spells, stands.read.1)

-- ---- a payload that is not read

pub foreign : (port : ℕ) (dir : Direction) (bytes : List ℕ) → (IsPort port → ⊥) → reading_of port dir bytes ≡ Err (record { at = 0; why = Port })
foreign port dir bytes off = read_as port dir bytes (Err (record { at = 0; why = Port })) (inl (off, refl, refl))

pub too_long : (port : ℕ) (dir : Direction) (bytes : List ℕ) → IsPort port → 242 < length bytes → reading_of port dir bytes ≡ Err (record { at = 242; why = TooLong })
too_long port dir bytes on long = read_as port dir bytes (Err (record { at = 242; why = TooLong })) (inr (inl (on, long, refl, refl)))

-- ---- the fragment that comes next

-- what is found at the place of a message from the server on port 201
pub fragment_next : (m : HeldMessage) (bytes : List ℕ) (at : ℕ) (r : Option Fragment) → IsAt 201 Down bytes at
    → record { port = 201; direction = Down; commands = commands_left 201 Down bytes at } ≡ m
    → IsFragmentAt bytes at r → LeavesFragment m r
fragment_next m bytes at None stands view none = λ index n part rest is.
    let first = first_fragment 201 Down bytes at index n part rest stands (ap (λ (x : HeldMessage). x.commands) view ∙ is) in
    none index n first.2.0 part first.2.1
fragment_next m bytes at (Some f) stands view spells =
    sym (ap (λ (x : HeldMessage). x.commands) view) ∙ fragment_left bytes at f.index f.n f.bytes.now spells
