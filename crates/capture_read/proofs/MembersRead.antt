-- What is read of items, and of members that are put in one after another.
use Rattle.std.proofs.Common.{◌≡◌, ℕ, List, codes, get_or, Option, Some, None, option_and_then, refl, sym, ap, ◌∙◌, arith}
use Rattle.json.specs.Token.{Token}
use Rattle.json.specs.Json.{parse_map}
use Rattle.serde_json.specs.Data.{Data, Items, item, Members, put}
use Rattle.serde_json.specs.Find.{get_member, as_str, as_number, as_integer}
use Rattle.serde_json.proofs.Views.{get_member-put, get_member-put_other}

-- some items go before those that are read of the rest
abbrev pub Before : Option (Items × List Token) → Option (Items × List Token) → Type 0
Before all rest = (f : Items → Items) × (all ≡ parse_map f rest)

pub none_before : (all : Option (Items × List Token)) → all ≡ parse_map (λ js. js) all
none_before None = refl
none_before (Some p) = refl

pub one_more : (d : Data) (f : Items → Items) (rest : Option (Items × List Token)) → parse_map f (parse_map (item d) rest) ≡ parse_map (λ js. f (item d js)) rest
one_more d f None = refl
one_more d f (Some p) = refl

-- ---- a member that is put in

pub dir_is_not_hex : codes "hex" ≡ codes "dir" → ⊥
dir_is_not_hex same = let first : 104 ≡ 100 = ap (λ s. get_or s 0 0) same in omega (arith, first)

module _ (k q : List ℕ) (d : Data) (ms : Members) where
  pub text_of_other : (q ≡ k → ⊥) → option_and_then as_str (get_member q (put k d ms)) ≡ option_and_then as_str (get_member q ms)
  text_of_other other = ap (option_and_then as_str) (get_member-put_other q k d ms other)

  pub whole_of_other : (q ≡ k → ⊥) → option_and_then as_integer (option_and_then as_number (get_member q (put k d ms))) ≡ option_and_then as_integer (option_and_then as_number (get_member q ms))
  whole_of_other other = ap (λ o. option_and_then as_integer (option_and_then as_number o)) (get_member-put_other q k d ms other)

  put_read : k ≡ q → get_member q (put k d ms) ≡ Some d
  put_read same = ap (λ l. get_member l (put k d ms)) (sym same) ∙ get_member-put k d ms

  pub text_of_put : k ≡ q → option_and_then as_str (get_member q (put k d ms)) ≡ as_str d
  text_of_put same = ap (option_and_then as_str) (put_read same)

  pub whole_of_put : k ≡ q → option_and_then as_integer (option_and_then as_number (get_member q (put k d ms))) ≡ option_and_then as_integer (as_number d)
  whole_of_put same = ap (λ o. option_and_then as_integer (option_and_then as_number o)) (put_read same)
