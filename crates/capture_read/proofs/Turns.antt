-- The grammar's loops a turn at a time, and a whole text, where each value is read as data.
use Rattle.std.proofs.Common.{◌≡◌, ℕ, zero, suc, ◌-◌, ◌<◌, ◌≤◌, List, [], ◌∷◌, length, Option, Some, None, option_map, option_and_then, refl, ap, ◌∙◌}
use Rattle.json.specs.Token.{Token}
use Rattle.json.specs.Json as json
use Rattle.json.specs.Json.{Json, Parse, parse_map, after_end_array, read_key, items_step, items, members, if_last}
use Rattle.json.proofs.Grammar.{items_end, items_more, members_end, members_no_key, members_more}
use Rattle.serde_json.specs.Data.{Data, array, object, no_items, item, Members, no_members, put}
use Rattle.serde_json.specs.Read.{of_json, of_items, of_members, converted}

abbrev pick : {A : Type 0} → A → Option A → A
pick a None = a
pick a (Some b) = b

-- ---- what is read of a value and of what follows it

paired : {B : Type 0} (r s : List Token) (o : Option B) (b : B) → option_map {U = B × List Token} (λ y. (y, r)) o ≡ Some (b, s) → (r ≡ s) × (o ≡ Some b)
paired r s None b is = absurd (cc)
paired r s (Some y) b is = let same = ap (pick (y, r)) is in (ap (λ p. p.1) same, ap (λ p. Some p.0) same)

unpaired : {B : Type 0} (r : List Token) (o : Option B) → option_map {U = B × List Token} (λ y. (y, r)) o ≡ None → o ≡ None
unpaired r None is = refl
unpaired r (Some y) is = absurd (cc)

of_read : {A B : Type 0} (f : A → Option B) (o : Option (A × List Token)) (b : B) (r : List Token) → converted f o ≡ Some (b, r) → (a : A) × (o ≡ Some (a, r)) × (f a ≡ Some b)
of_read f None b r is = absurd (cc)
of_read f (Some p) b r is = let both = paired p.1 r (f p.0) b is in (p.0, ap (λ s. Some (p.0, s)) both.0, both.1)

mapped : {A B : Type 0} (g : A → B) (r : List Token) (o : Option A) → option_map (λ b. (b, r)) (option_map g o) ≡ parse_map g (option_map (λ a. (a, r)) o)
mapped g r None = refl
mapped g r (Some a) = refl

pub converted-array : (o : Option (json.Items × List Token)) → converted of_json (parse_map json.array o) ≡ parse_map array (converted of_items o)
converted-array None = refl
converted-array (Some p) = mapped array p.1 (of_items p.0)

pub converted-object : (o : Option (json.Members × List Token)) → converted of_json (parse_map json.object o) ≡ parse_map object (converted (λ ms. of_members ms no_members) o)
converted-object None = refl
converted-object (Some p) = mapped object p.1 (of_members p.0 no_members)

-- ---- the items of an array

with_item : (j : Json) (d : Data) → of_json j ≡ Some d → (o : Option (json.Items × List Token)) → converted of_items (parse_map (json.item j) o) ≡ parse_map (item d) (converted of_items o)
with_item j d is None = refl
with_item j d is (Some p) = rw is (mapped (item d) p.1 (of_items p.0))

bad_item : (j : Json) → of_json j ≡ None → (o : Option (json.Items × List Token)) → converted of_items (parse_map (json.item j) o) ≡ None
bad_item j is None = refl
bad_item j is (Some p) = rw is

module _ (p : Parse Json) (n : ℕ) (ts : List Token) where
  pub item_read : (r : List Token) (d : Data) → 0 < n → after_end_array ts ≡ None → converted of_json (p ts) ≡ Some (d, r)
      → converted of_items (items p n ts) ≡ parse_map (item d) (converted of_items (items p (n - 1) r))
  item_read r d some going is = let j = of_read of_json (p ts) d r is in ap (converted of_items) (items_more p n ts r j.0 some going j.1) ∙ with_item j.0 d j.2 _

  pub items_over : (r : List Token) → length ts ≤ n → after_end_array ts ≡ Some r → converted of_items (items p n ts) ≡ Some (no_items, r)
  items_over r enough over = ap (converted of_items) (items_end p n ts r enough over)

no_item : (more : Parse json.Items) (o : Option (Json × List Token)) → converted of_json o ≡ None → converted of_items (option_and_then (λ q. parse_map (json.item q.0) (more q.1)) o) ≡ None
no_item more None is = refl
no_item more (Some q) is = bad_item q.0 (unpaired q.1 (of_json q.0) is) (more q.1)

pub item_refused : (p : Parse Json) (n : ℕ) (ts : List Token) → after_end_array ts ≡ None → converted of_json (p ts) ≡ None → converted of_items (items p n ts) ≡ None
unfolding items
item_refused p zero ts going is = refl
item_refused p (suc n) ts going is = ap (λ o. converted of_items (items_step p (items p n) ts o)) going ∙ no_item (items p n) (p ts) is

-- ---- the members of an object, which go into those before them

abbrev into : Members → Option (json.Members × List Token) → Option (Members × List Token)
into before = converted (λ ms. of_members ms before)

with_member : (before : Members) (k : List ℕ) (j : Json) (d : Data) → of_json j ≡ Some d → (o : Option (json.Members × List Token)) → into before (parse_map (json.member k j) o) ≡ into (put k d before) o
with_member before k j d is None = refl
with_member before k j d is (Some p) = rw is

bad_member : (before : Members) (k : List ℕ) (j : Json) → of_json j ≡ None → (o : Option (json.Members × List Token)) → into before (parse_map (json.member k j) o) ≡ None
bad_member before k j is None = refl
bad_member before k j is (Some p) = rw is

module _ (p : Parse Json) (before : Members) (n : ℕ) (ts : List Token) where
  pub member_read : (k : List ℕ) (s r : List Token) (d : Data) → 0 < n → read_key ts ≡ Some (Some k, s) → converted of_json (p s) ≡ Some (d, r)
      → into before (members p n ts) ≡ into (put k d before) (members p (n - 1) r)
  member_read k s r d some key is = let j = of_read of_json (p s) d r is in ap (into before) (members_more p n k ts s r j.0 some key j.1) ∙ with_member before k j.0 d j.2 _

  pub key_refused : read_key ts ≡ None → into before (members p n ts) ≡ None
  key_refused is = ap (into before) (members_no_key p n ts is)

  pub members_over : (r : List Token) → length ts ≤ n → read_key ts ≡ Some (None, r) → into before (members p n ts) ≡ Some (before, r)
  members_over r enough over = ap (into before) (members_end p n ts r enough over)

no_member : (before : Members) (k : List ℕ) (more : Parse json.Members) (o : Option (Json × List Token)) → converted of_json o ≡ None
    → into before (option_and_then (λ q. parse_map (json.member k q.0) (more q.1)) o) ≡ None
no_member before k more None is = refl
no_member before k more (Some q) is = bad_member before k q.0 (unpaired q.1 (of_json q.0) is) (more q.1)

pub member_refused : (p : Parse Json) (before : Members) (n : ℕ) (ts : List Token) (k : List ℕ) (s : List Token) → read_key ts ≡ Some (Some k, s) → converted of_json (p s) ≡ None
    → into before (members p n ts) ≡ None
unfolding members
member_refused p before zero ts k s key is = refl
member_refused p before (suc n) ts k s key is = rw key (no_member before k (members p n) (p s) is)

-- ---- a whole text

abbrev whole : Option (Json × List Token) → Option Data
whole o = option_and_then of_json (option_and_then (λ p. if_last p.0 p.1) o)

pub whole_read : (o : Option (Json × List Token)) (d : Data) → converted of_json o ≡ Some (d, []) → whole o ≡ Some d
whole_read o d is = let j = of_read of_json o d [] is in ap whole j.1 ∙ j.2

pub whole_and_more : (o : Option (Json × List Token)) (d : Data) (t : Token) (r : List Token) → converted of_json o ≡ Some (d, t ∷ r) → whole o ≡ None
whole_and_more o d t r is = ap whole (of_read of_json o d (t ∷ r) is).1

pub whole_refused : (o : Option (Json × List Token)) → converted of_json o ≡ None → whole o ≡ None
whole_refused None is = refl
whole_refused (Some (j, [])) is = unpaired [] (of_json j) is
whole_refused (Some (j, t ∷ r)) is = refl
