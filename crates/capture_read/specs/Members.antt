-- What is read of a line token by token, and what is kept of it; for private clauses.
use Rattle.std.specs.Prelude.{◌≡◌, ℕ, ℤ, List, length, codes, Option, Some, None, option_map, option_and_then, Result, MatchResult}
use Rattle.json.specs.Token.{Token}
use Rattle.json.specs.Json.{value, items, members, if_last}
use Rattle.json.specs.declared.reader.Invalid.{Invalid}
use Rattle.serde_json.specs.Data as made
use Rattle.serde_json.specs.Data.{Data, Items, Members}
use Rattle.serde_json.specs.Find.{as_str, as_number, as_integer, get_member}
use Rattle.serde_json.specs.Read.{of_json, of_items, of_members, converted, max_depth}
use Rattle.capture_read.specs.declared.members.Seen.{Seen}
use Rattle.capture_read.specs.declared.members.Seen.TheVariants.{Text, Number, Other}
use Rattle.capture_read.specs.declared.members.Said.{Said}

-- the value that tokens begin with, nested at most so deep, and the tokens that follow
abbrev pub value_at : ℕ → List Token → Option (Data × List Token)
value_at depth ts = converted of_json (value depth ts)

-- the items of an array to its end
abbrev pub items_at : ℕ → List Token → Option (Items × List Token)
items_at depth ts = converted of_items (items (value depth) (length ts) ts)

-- the members of an object to its end
abbrev pub members_at : ℕ → List Token → Option (Members × List Token)
members_at depth ts = converted (λ ms. of_members ms made.no_members) (members (value depth) (length ts) ts)

-- the value that tokens are
abbrev pub value_of : List Token → Option Data
value_of ts = option_and_then of_json (option_and_then (λ p. if_last p.0 p.1) (value max_depth ts))

-- Ok where something is read, of which this holds, and these tokens follow
abbrev pub Takes : {A B : Type 0} → (B → A → Type 0) → Option (A × List Token) → Result B Invalid → List Token → Type 0
Takes {A} Says read result after = MatchResult result (λ b. (a : A) × (read ≡ Some (a, after)) × Says b a) (λ _. read ≡ None)

-- the text, where it is one
abbrev pub text_of : Seen → Option (List ℕ)
text_of (Text text) = Some text.now
text_of (Number n) = None
text_of Other = None

-- the whole number, where it is one
abbrev pub whole_of : Seen → Option ℤ
whole_of (Text text) = None
whole_of (Number n) = n
whole_of Other = None

-- this is what the value says
pub record IsSeen (seen : Seen) (d : Data) : Type 0 where
  pub text : text_of seen ≡ as_str d
  pub whole : whole_of seen ≡ option_and_then as_integer (as_number d)

-- this is what the members say
pub record IsSaid (said : Said) (ms : Members) : Type 0 where
  pub port : said.port ≡ option_and_then as_integer (option_and_then as_number (get_member (codes "port") ms))
  pub dir : option_map (λ text. text.now) said.dir ≡ option_and_then as_str (get_member (codes "dir") ms)
  pub hex : option_map (λ text. text.now) said.hex ≡ option_and_then as_str (get_member (codes "hex") ms)
