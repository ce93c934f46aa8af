-- The value that tokens begin with, and lines that are no object.
use Rattle.std.proofs.Common.{◌≡◌, ℕ, ◌-◌, ◌<◌, ℤ, List, [], ◌∷◌, length, Option, Some, None, Err, IfSome, option_map, option_and_then, refl, sym, ap, ◌∙◌, subst}
use Rattle.std.specs.Prelude.{⊤}
use Rattle.json.specs.Token.{Token}
use Rattle.json.specs.declared.token.Token as declared
use Rattle.json.specs.declared.token.Token.TheVariants as given
use Rattle.json.specs.Reads.{token_of}
use Rattle.json.specs.Json as json
use Rattle.json.specs.Json.{Json, Parse, parse_map, if_last, items, members, value, value_with}
use Rattle.json.proofs.Grammar.{value_is, value-begin_array, value-begin_object}
use Rattle.serde_json.specs.Data.{Num, Data, Items, number, array, object}
use Rattle.serde_json.specs.Find.{as_integer}
use Rattle.serde_json.specs.Read.{number_of, of_json, of_items, converted, max_depth}
use Rattle.capture_read.proofs.Turns.{converted-array, converted-object}
use Rattle.capture_read.specs.declared.answers.EntryFault.TheVariants.{Syntax}
use Rattle.capture_read.specs.declared.members.Seen.TheVariants.{Number}
use Rattle.capture_read.specs.Entries.{port_of, entry_in}
use Rattle.capture_read.specs.Members.{value_at, items_at, members_at, value_of, IsSeen}

module _ (depth : ℕ) where
  pub value_at-end : value_at depth [] ≡ None
  value_at-end = ap (converted of_json) (value_is depth [])

  pub value_at-array : (ts : List Token) → 0 < depth → value_at depth (Token.begin_array ∷ ts) ≡ parse_map array (items_at (depth - 1) ts)
  value_at-array ts some = ap (converted of_json) (value-begin_array depth ts some) ∙ converted-array (items (value (depth - 1)) (length ts) ts)

  pub value_at-object : (ts : List Token) → 0 < depth → value_at depth (Token.begin_object ∷ ts) ≡ parse_map object (members_at (depth - 1) ts)
  value_at-object ts some = ap (converted of_json) (value-begin_object depth ts some) ∙ converted-object (members (value (depth - 1)) (length ts) ts)

-- ---- numbers

mapped : (o : Option Num) (x : Option ℤ) → Some x ≡ option_map as_integer o → (n : Num) × (o ≡ Some n) × (as_integer n ≡ x)
mapped None x is = absurd (cc)
mapped (Some n) x is = let same : x ≡ as_integer n = cc in (n, refl, sym same)

unmapped : (o : Option Num) → None ≡ option_map as_integer o → o ≡ None
unmapped None is = refl
unmapped (Some n) is = absurd (cc)

module _ (depth : ℕ) (s : List ℕ) (ts : List Token) where
  at_number : (o : Option Num) → number_of s ≡ o → value_at depth (Token.number s ∷ ts) ≡ option_map (λ n. (number n, ts)) o
  at_number None is = ap (converted of_json) (value_is depth _) ∙ rw is
  at_number (Some n) is = ap (converted of_json) (value_is depth _) ∙ rw is

  pub number_seen : (whole : Option ℤ) → Some whole ≡ option_map as_integer (number_of s) → (d : Data) × (value_at depth (Token.number s ∷ ts) ≡ Some (d, ts)) × IsSeen (Number whole) d
  number_seen whole is =
      let n = mapped (number_of s) whole is in
      (number n.0, at_number (Some n.0) n.1, record { text = refl; whole = sym n.2 })

  pub number_refused : None ≡ option_map as_integer (number_of s) → value_at depth (Token.number s ∷ ts) ≡ None
  number_refused is = at_number None (unmapped (number_of s) is)

-- ---- no object

abbrev NoObject : Json → Type 0
NoObject json.null = ⊤
NoObject (json.boolean b) = ⊤
NoObject (json.number s) = ⊤
NoObject (json.string s) = ⊤
NoObject (json.array js) = ⊤
NoObject (json.object ms) = ⊥

no_entry_number : (o : Option Num) → entry_in (option_map number o) ≡ Err Syntax
unfolding port_of
no_entry_number None = refl
no_entry_number (Some n) = refl

no_entry_array : (o : Option Items) → entry_in (option_map array o) ≡ Err Syntax
unfolding port_of
no_entry_array None = refl
no_entry_array (Some ds) = refl

no_entry : (j : Json) → NoObject j → entry_in (of_json j) ≡ Err Syntax
unfolding port_of
no_entry json.null h = refl
no_entry (json.boolean b) h = refl
no_entry (json.number s) h = no_entry_number (number_of s)
no_entry (json.string s) h = refl
no_entry (json.array js) h = no_entry_array (of_items js)
no_entry (json.object ms) h = absurd h

no_entry_read : (o : Option (Json × List Token)) → IfSome o (λ p. NoObject p.0)
    → entry_in (option_and_then of_json (option_and_then (λ p. if_last p.0 p.1) o)) ≡ Err Syntax
no_entry_read None h = refl
no_entry_read (Some (j, [])) h = no_entry j h
no_entry_read (Some (j, t ∷ ts)) h = refl

of_array : (o : Option (json.Items × List Token)) → IfSome (parse_map json.array o) (λ p. NoObject p.0)
of_array None = tt
of_array (Some p) = tt

begins_else : (t : declared.Token) (ts : List Token) (a : Parse json.Items) (o : Parse json.Members) → (t ≡ given.BeginObject → ⊥)
    → IfSome (value_with a o (token_of t ∷ ts)) (λ p. NoObject p.0)
begins_else given.BeginObject ts a o other = absurd (other refl)
begins_else given.EndObject ts a o other = tt
begins_else given.BeginArray ts a o other = of_array (a ts)
begins_else given.EndArray ts a o other = tt
begins_else (given.Key s) ts a o other = tt
begins_else (given.String s) ts a o other = tt
begins_else (given.Number s) ts a o other = tt
begins_else (given.Bool b) ts a o other = tt
begins_else given.Null ts a o other = tt
begins_else given.Bad ts a o other = tt

-- tokens that do not begin an object, or none
pub no_tokens : entry_in (value_of []) ≡ Err Syntax
no_tokens = ap (λ o. entry_in (option_and_then of_json (option_and_then (λ p. if_last p.0 p.1) o))) (value_is max_depth [])

pub no_object : (t : declared.Token) (ts : List Token) → (t ≡ given.BeginObject → ⊥) → entry_in (value_of (token_of t ∷ ts)) ≡ Err Syntax
no_object t ts other = no_entry_read (value max_depth (token_of t ∷ ts)) (subst (λ o. IfSome o (λ p. NoObject p.0)) (sym (value_is max_depth (token_of t ∷ ts))) (begins_else t ts _ _ other))
