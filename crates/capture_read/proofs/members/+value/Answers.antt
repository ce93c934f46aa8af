use Rattle.std.proofs.Common.{◌≡◌, ◌-◌, ◌<◌, [], ◌∷◌, length, Some, None, refl, ap, ap₂, ◌∙◌, arith}
use Rattle.json.specs.Token.{Token}
use Rattle.json.specs.Json.{parse_map, after_end_array, read_key, value}
use Rattle.json.specs.Reads.{token_of}
use Rattle.json.proofs.Grammar.{value_is, read_key-shorter}
use Rattle.serde_json.specs.Data.{null, boolean, string, array, object, no_items, item, no_members, put}
use Rattle.serde_json.specs.Read.{of_json, converted}
use Rattle.capture_read.proofs.Turns.{item_read, item_refused, items_over, member_read, member_refused, key_refused, members_over}
use Rattle.capture_read.specs.Members.{value_at}
use Rattle.capture_read.proofs.MembersRead.{none_before, one_more}
use Rattle.capture_read.proofs.TokensRead.{value_at-end, value_at-array, value_at-object, number_seen, number_refused}
use Rattle.capture_read.proofs.members.+value.Goals as goal

pub value-returns-in_err-token-clause-value : goal.value-returns-in_err-token-clause-value
value-returns-in_err-token-clause-value t c =
    let empty : c.args.reader.now ≡ [] = grind arith in
    let none = ap (value_at c.args.depth) empty ∙ value_at-end c.args.depth in
    grind (arith, none)

pub value-returns-then-depth-eq0-clause-value : goal.value-returns-then-depth-eq0-clause-value
unfolding value
value-returns-then-depth-eq0-clause-value t c =
    let first : c.args.reader.now ≡ token_of c.in_ok-token.token ∷ c.next.new.self = grind arith in
    let none : c.args.depth ≡ 0 = omega arith in
    ap₂ value_at none (first ∙ ap (λ k. token_of k ∷ c.next.new.self) c.in-BeginArray.is)

pub value-returns-then-depth-eq0-2-clause-value : goal.value-returns-then-depth-eq0-2-clause-value
unfolding value
value-returns-then-depth-eq0-2-clause-value t c =
    let first : c.args.reader.now ≡ token_of c.in_ok-token.token ∷ c.next.new.self = grind arith in
    let none : c.args.depth ≡ 0 = omega arith in
    ap₂ value_at none (first ∙ ap (λ k. token_of k ∷ c.next.new.self) c.in-BeginObject.is)

pub value-returns-in_err-items-in-BeginArray-clause-value : goal.value-returns-in_err-items-in-BeginArray-clause-value
value-returns-in_err-items-in-BeginArray-clause-value t c =
    let first : c.args.reader.now ≡ token_of c.in_ok-token.token ∷ c.next.new.self = grind arith in
    let opened = ap (value_at c.args.depth) (first ∙ ap (λ k. token_of k ∷ c.next.new.self) c.in-BeginArray.is) ∙ value_at-array c.args.depth c.next.new.self (omega arith) in
    let none = opened ∙ ap (parse_map array) c.in_err-items-in-BeginArray.ensures.value in
    grind (arith, none)

pub value-returns-in_err-members-in-BeginObject-clause-value : goal.value-returns-in_err-members-in-BeginObject-clause-value
value-returns-in_err-members-in-BeginObject-clause-value t c =
    let first : c.args.reader.now ≡ token_of c.in_ok-token.token ∷ c.next.new.self = grind arith in
    let opened = ap (value_at c.args.depth) (first ∙ ap (λ k. token_of k ∷ c.next.new.self) c.in-BeginObject.is) ∙ value_at-object c.args.depth c.next.new.self (omega arith) in
    let none = opened ∙ ap (parse_map object) c.in_err-members-in-BeginObject.ensures.value in
    grind (arith, none)

pub value-returns-in_ok-items-in-BeginArray-clause-value : goal.value-returns-in_ok-items-in-BeginArray-clause-value
value-returns-in_ok-items-in-BeginArray-clause-value t c =
    let first : c.args.reader.now ≡ token_of c.in_ok-token.token ∷ c.next.new.self = grind arith in
    let opened = ap (value_at c.args.depth) (first ∙ ap (λ k. token_of k ∷ c.next.new.self) c.in-BeginArray.is) ∙ value_at-array c.args.depth c.next.new.self (omega arith) in
    let done = c.in_ok-items-in-BeginArray.ensures.value in
    (array done.0, opened ∙ ap (parse_map array) done.1, record { text = refl; whole = refl })

pub value-returns-in_ok-members-in-BeginObject-clause-value : goal.value-returns-in_ok-members-in-BeginObject-clause-value
value-returns-in_ok-members-in-BeginObject-clause-value t c =
    let first : c.args.reader.now ≡ token_of c.in_ok-token.token ∷ c.next.new.self = grind arith in
    let opened = ap (value_at c.args.depth) (first ∙ ap (λ k. token_of k ∷ c.next.new.self) c.in-BeginObject.is) ∙ value_at-object c.args.depth c.next.new.self (omega arith) in
    let done = c.in_ok-members-in-BeginObject.ensures.value in
    (object done.0, opened ∙ ap (parse_map object) done.1, record { text = refl; whole = refl })

pub value-returns-in-String-clause-value : goal.value-returns-in-String-clause-value
value-returns-in-String-clause-value t c =
    let first : c.args.reader.now ≡ token_of c.in_ok-token.token ∷ c.next.new.self = grind arith in
    let is : c.args.reader.now ≡ Token.string c.in-String.text.now ∷ c.next.new.self = grind (arith, first) in
    (string c.in-String.text.now, ap (value_at c.args.depth) is ∙ ap (converted of_json) (value_is c.args.depth _), record { text = refl; whole = refl })

pub value-returns-in-Bool-clause-value : goal.value-returns-in-Bool-clause-value
value-returns-in-Bool-clause-value t c =
    let first : c.args.reader.now ≡ token_of c.in_ok-token.token ∷ c.next.new.self = grind arith in
    let is : c.args.reader.now ≡ Token.boolean c.in-Bool.field-0 ∷ c.next.new.self = grind (arith, first) in
    (boolean c.in-Bool.field-0, ap (value_at c.args.depth) is ∙ ap (converted of_json) (value_is c.args.depth _), record { text = refl; whole = refl })

pub value-returns-in-Null-clause-value : goal.value-returns-in-Null-clause-value
value-returns-in-Null-clause-value t c =
    let first : c.args.reader.now ≡ token_of c.in_ok-token.token ∷ c.next.new.self = grind arith in
    let is : c.args.reader.now ≡ Token.null ∷ c.next.new.self = grind (arith, first) in
    (null, ap (value_at c.args.depth) is ∙ ap (converted of_json) (value_is c.args.depth _), record { text = refl; whole = refl })

pub value-returns-in-Some-clause-value : goal.value-returns-in-Some-clause-value
value-returns-in-Some-clause-value t c =
    let first : c.args.reader.now ≡ token_of c.in_ok-token.token ∷ c.next.new.self = grind arith in
    let is : c.args.reader.now ≡ Token.number c.in-Number.text.now ∷ c.next.new.self = grind (arith, first) in
    rw is (number_seen c.args.depth c.in-Number.text.now c.next.new.self c.in-Some.whole c.in-Some.ensures)

pub value-returns-in-None-clause-value : goal.value-returns-in-None-clause-value
value-returns-in-None-clause-value t c =
    let first : c.args.reader.now ≡ token_of c.in_ok-token.token ∷ c.next.new.self = grind arith in
    let is : c.args.reader.now ≡ Token.number c.in-Number.text.now ∷ c.next.new.self = grind (arith, first) in
    rw is (number_refused c.args.depth c.in-Number.text.now c.next.new.self c.in-None.ensures)

pub value-returns-in-EndObject-clause-value : goal.value-returns-in-EndObject-clause-value
value-returns-in-EndObject-clause-value t c =
    let first : c.args.reader.now ≡ token_of c.in_ok-token.token ∷ c.next.new.self = grind arith in
    let none : value c.args.depth c.args.reader.now ≡ None = rw (value_is c.args.depth c.args.reader.now, first) (grind arith) in
    ap (converted of_json) none

pub items-items-init : goal.items-items-init
items-items-init t c = (length c.args.reader.now, omega arith, ((λ js. js), none_before _), omega arith)

pub items-items-preserved : goal.items-items-preserved
items-items-preserved t c =
    let p = value c.args.depth in
    let l = c.items in
    let n = l.invariant.0 in
    let before = l.invariant.2 in
    let going : (after_end_array l.reader ≡ None) × (c.take_end_array.new.self ≡ l.reader) = grind arith in
    let done = c.in_ok-value.ensures in
    let d = done.value.0 in
    let r = c.value.new.reader in
    let less : length r < length l.reader = rw (← going.1) done.shorter in
    let turn = item_read p n l.reader r d (omega (arith, l.invariant.1)) going.0 (rw (← going.1) done.value.1) in (
      n - 1,
      omega (arith, l.invariant.1),
      ((λ js. before.0 (item d js)), before.1 ∙ ap (parse_map before.0) turn ∙ one_more d before.0 _),
      omega (arith, l.invariant.3),
    )

pub items-returns-in_err-value-clause-value : goal.items-returns-in_err-value-clause-value
items-returns-in_err-value-clause-value t c =
    let p = value c.args.depth in
    let l = c.items in
    let before = l.invariant.2 in
    let going : (after_end_array l.reader ≡ None) × (c.take_end_array.new.self ≡ l.reader) = grind arith in
    let none = before.1 ∙ ap (parse_map before.0) (item_refused p l.invariant.0 l.reader going.0 (rw (← going.1) c.in_err-value.ensures.value)) in
    grind (arith, none)

pub items-returns-clause-value : goal.items-returns-clause-value
items-returns-clause-value t c =
    let l = c.items in
    let before = l.invariant.2 in
    let over = items_over (value c.args.depth) l.invariant.0 l.reader c.take_end_array.new.self l.invariant.1 (grind arith) in
    (before.0 no_items, before.1 ∙ ap (parse_map before.0) over, tt)

pub members-members-init : goal.members-members-init
members-members-init t c = (length c.args.reader.now, no_members, omega arith, refl, record { port = refl; dir = refl; hex = refl }, omega arith)

pub members-returns-in_err-name-clause-value : goal.members-returns-in_err-name-clause-value
members-returns-in_err-name-clause-value t c =
    let l = c.members in
    let none = l.invariant.3 ∙ key_refused (value c.args.depth) l.invariant.1 l.invariant.0 l.reader c.in_err-name.ensures.value in
    grind (arith, none)

pub members-returns-in_err-seen-clause-value : goal.members-returns-in_err-seen-clause-value
members-returns-in_err-seen-clause-value t c =
    let l = c.members in
    let k = c.in-Some.name.now in
    let s = c.next_key.new.self in
    let named : read_key l.reader ≡ Some (Some k, s) = grind arith in
    let none = l.invariant.3 ∙ member_refused (value c.args.depth) l.invariant.1 l.invariant.0 l.reader k s named c.in_err-seen.ensures.value in
    grind (arith, none)

pub members-members-preserved : goal.members-members-preserved
members-members-preserved t c =
    let l = c.members in
    let n = l.invariant.0 in
    let old = l.invariant.1 in
    let k = c.in-Some.name.now in
    let s = c.next_key.new.self in
    let named : read_key l.reader ≡ Some (Some k, s) = grind arith in
    let done = c.in_ok-seen.ensures in
    let d = done.value.0 in
    let less = read_key-shorter l.reader (Some k) s named in
    let lesser = done.shorter in (
      n - 1,
      put k d old,
      omega (arith, l.invariant.2),
      l.invariant.3 ∙ member_read (value c.args.depth) old n l.reader k s c.value.new.reader d (omega (arith, l.invariant.2)) named done.value.1,
      c.with_member-said.ensures old d l.invariant.4 done.value.2,
      omega (arith, l.invariant.5),
    )

pub members-returns-clause-value : goal.members-returns-clause-value
members-returns-clause-value t c =
    let l = c.members in
    let over = members_over (value c.args.depth) l.invariant.1 l.invariant.0 l.reader c.next_key.new.self l.invariant.2 (grind arith) in
    (l.invariant.1, l.invariant.3 ∙ over, l.invariant.4)
