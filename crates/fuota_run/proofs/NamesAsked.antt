-- The names that are asked for are among the words: each value that a walk over the words holds is one of them.
use Rattle.std.proofs.Common.{◌≡◌, ◌⊎◌, inl, inr, ℕ, zero, suc, ◌&&◌, ◌||◌, not, is_some, length, Bool, true, false, cond, if◌then◌else◌, List, [], ◌∷◌, ◌++◌, codes, drop, fold, Option, Some, None, IsSome, option_map, option_and_then, slice_get, refl, sym, ap, ◌∙◌, subst, append_assoc, arith}
use Rattle.std.specs.Prelude.{⊤, encode_utf8}
use Rattle.std.specs.List.{AllByRecursion, Contains, find, list_all}
use Rattle.std.specs.Str.{bytes_eq, chars}
use Rattle.std.proofs.lemmas.Bool.{eqb-true}
use Rattle.std.proofs.lemmas.List.Elements.{Contains-append_right}
use Rattle.clap.specs.declared.builder.action.ArgAction.{ArgAction}
use Rattle.clap.specs.declared.builder.action.ArgAction.TheVariants as action
use Rattle.clap.specs.declared.builder.value_parser.Reading.{Reading}
use Rattle.clap.specs.declared.parser.matches.ValueSource.{ValueSource}
use Rattle.clap.specs.declared.parser.matches.ValueSource.TheVariants.{CommandLine}
use Rattle.clap.specs.Lexer.{long_of, short_of}
use Rattle.clap.specs.Kinds.{Kinds}
use Rattle.clap.specs.Walk.{Held, Names, Outcome, Row, Rule, Step, Text, Waiting, Walk, done, waits, plain, refused, next, trailing, subcommand, value, idle, option, positional, action_of, after_flag, after_step, answers_to, arg_by_id, arg_by_index, arg_by_long, arg_by_short, at_row, attached_value, bundle_met, bundle_step, default_rows, first_of, flag_met, has_long, has_row, has_short, is_empty, is_pending, long_met, long_or_other, more_values, nothing_held, option_met, option_word, plain_word, pushed, reacted, reading_by, rows_after, settled, settled_rows, short_met, short_or_plain, started, stop_after, takes_several, takes_values, to_positional, used, used_as, used_by_id, values_or_missing, walk_from, walked, walked_from, with_default, with_values, without, word_met}
use Rattle.clap.specs.Simple.{App, Shape, built, entered, label_of, names_of, rows_at, subcommand_of}
use Rattle.clap.specs.Faults.{fault_of}
use Rattle.clap.proofs.WalkLemmas.{both}
use Rattle.script_lines.specs.Numbers.{◌>>=◌}
use Rattle.fuota_run.specs.Outside.{Held as Contents}
use Rattle.fuota_run.specs.Words.{Invocation, plays, payloads, generates, plays_two, asked, asked_by, names_asked, campaign_asked, recover_asked, replay_asked, decode_asked, generate_asked, capture_asked, campaigns_asked, device_of_word, direction_of_word, fuota, parsed, port_of_word, seed_of_word, where_none}
use Rattle.fuota_run.specs.Ending.{HoldsInvocation}
use Rattle.fuota_run.specs.Forms.{NamesAreWords}

-- ---- lists

all_append : {X : Type 0} (Q : X → Type 0) (xs ys : List X) → AllByRecursion Q xs → AllByRecursion Q ys → AllByRecursion Q (xs ++ ys)
all_append Q [] ys first second = second
all_append Q (x ∷ xs) ys first second = (first.0, all_append Q xs ys first.1 second)

found_by : {X : Type 0} (b : Bool) (y x : X) (rest : Option X) → cond b (Some y) rest ≡ Some x → ((b ≡ true) × (y ≡ x)) ⊎ (rest ≡ Some x)
found_by true y x rest is = inl (refl, cc)
found_by false y x rest is = inr is

-- what is found passes the test, and is as all are
found : {X : Type 0} (test every : X → Bool) (xs : List X) (x : X) → list_all every xs ≡ true → find test xs ≡ Some x → (test x ≡ true) × (every x ≡ true)
found test every [] x all is = absurd cc
found test every (y ∷ ys) x all is =
    let parts = both (every y) (list_all every ys) all in
    elim (found_by (test y) y x (find test ys) is) [
      | inl here ↦ (sym (ap test here.1) ∙ here.0, sym (ap every here.1) ∙ parts.0)
      | inr later ↦ found test every ys x parts.1 later
    ]

-- ---- arguments that read nothing but words

abbrev is_count : ArgAction → Bool
is_count action.Count = true
is_count _ = false

-- a flag of it has no value, nothing stands for a value that is not given, and its uses are not counted
abbrev is_tame : Rule → Bool
is_tame a = (is_some a.index || not (takes_values a)) && (is_empty a.missing && (is_empty a.defaults && not (is_count (action_of a))))

abbrev are_tame : List Rule → Bool
are_tame = list_all is_tame

record IsTame (a : Rule) : Type 0 where
  flag : (is_some a.index || not (takes_values a)) ≡ true
  missing : a.missing ≡ []
  defaults : a.defaults ≡ []
  uncounted : is_count (action_of a) ≡ false

is_nothing : {X : Type 0} (xs : List X) → is_empty xs ≡ true → xs ≡ []
is_nothing [] none = refl
is_nothing (x ∷ xs) none = absurd (let zero_long = eqb-true _ _ none in omega (arith, zero_long))

not_true : (b : Bool) → not b ≡ true → b ≡ false
not_true true h = sym h
not_true false h = refl

tame : (a : Rule) → is_tame a ≡ true → IsTame a
tame a h =
    let one = both (is_some a.index || not (takes_values a)) _ h in
    let two = both (is_empty a.missing) _ one.1 in
    let three = both (is_empty a.defaults) _ two.1 in
    record { flag = one.0; missing = is_nothing a.missing two.0; defaults = is_nothing a.defaults three.0; uncounted = not_true _ three.1 }

tame_by_id : (c : List Rule) (id : Text) (a : Rule) → are_tame c ≡ true → arg_by_id c id ≡ Some a → IsTame a
tame_by_id c id a all is = tame a (found (λ r. bytes_eq r.id id) is_tame c a all is).1

-- a flag takes no value
flag_tame : (a : Rule) (b : Bool) → is_tame a ≡ true → (not (is_some a.index) && b) ≡ true → takes_values a ≡ false
flag_tame a b all met = of_index (is_some a.index) (tame a all).flag (both (not (is_some a.index)) b met).0
  where
    of_index : (i : Bool) → (i || not (takes_values a)) ≡ true → not i ≡ true → takes_values a ≡ false
    of_index true h n = absurd cc
    of_index false h n = not_true (takes_values a) h

-- ---- what is held: each value is such a word

abbrev AreRows : (Text → Type 0) → List Row → Type 0
AreRows Is rows = AllByRecursion (λ r. AllByRecursion Is r.values) rows

abbrev ArePending : (Text → Type 0) → Option (Text × List Text) → Type 0
ArePending Is None = ⊤
ArePending Is (Some p) = AllByRecursion Is p.1

record AreHeld (Is : Text → Type 0) (h : Held) : Type 0 where
  rows : AreRows Is h.rows
  pending : ArePending Is h.pending

of_test : (Is : Text → Type 0) (b : Bool) (x y : List Row) → AreRows Is x → AreRows Is y → AreRows Is (if b then x else y)
of_test Is true x y first second = first
of_test Is false x y first second = second

at_row_kept : (Is : Text → Type 0) (id : Text) (change : Row → List Row) (missing rows : List Row) → ((r : Row) → AllByRecursion Is r.values → AreRows Is (change r))
    → AreRows Is missing → AreRows Is rows → AreRows Is (at_row id change missing rows)
at_row_kept Is id change missing [] changed none all = none
at_row_kept Is id change missing (r ∷ rs) changed none all =
    of_test Is (bytes_eq r.id id) (change r ++ rs) (r ∷ at_row id change missing rs) (all_append (λ x. AllByRecursion Is x.values) (change r) rs (changed r all.0) all.1)
    (all.0, at_row_kept Is id change missing rs changed none all.1)

with_kept : (Is : Text → Type 0) (id : Text) (how : Reading) (s : ValueSource) (values : List Text) (rows : List Row) → AllByRecursion Is values → AreRows Is rows → AreRows Is (with_values id how s values rows)
with_kept Is id how s values rows given all = at_row_kept Is id (more_values s values) _ rows (λ r old. (all_append Is r.values values old given, tt)) (given, tt) all

without_kept : (Is : Text → Type 0) (id : Text) (rows : List Row) → AreRows Is rows → AreRows Is (without id rows)
without_kept Is id rows all = at_row_kept Is id (λ _. []) [] rows (λ r old. tt) tt all

used_as_kept : (Is : Text → Type 0) (x : ArgAction) (id : Text) (how : Reading) (values : List Text) (rows : List Row) → is_count x ≡ false → AllByRecursion Is values → AreRows Is rows → AreRows Is (used_as x id how values rows)
used_as_kept Is action.Set id how values rows uncounted given all = with_kept Is id how CommandLine values _ given (without_kept Is id rows all)
used_as_kept Is action.SetTrue id how values rows uncounted given all = with_kept Is id how CommandLine values _ given (without_kept Is id rows all)
used_as_kept Is action.SetFalse id how values rows uncounted given all = with_kept Is id how CommandLine values _ given (without_kept Is id rows all)
used_as_kept Is action.Append id how values rows uncounted given all = with_kept Is id how CommandLine values rows given all
used_as_kept Is action.Count id how values rows uncounted given all = absurd cc
used_as_kept Is action.Help id how values rows uncounted given all = all
used_as_kept Is action.HelpShort id how values rows uncounted given all = all
used_as_kept Is action.HelpLong id how values rows uncounted given all = all
used_as_kept Is action.Version id how values rows uncounted given all = all

given_kept : (Is : Text → Type 0) (a : Rule) (values : List Text) → a.missing ≡ [] → AllByRecursion Is values → AllByRecursion Is (values_or_missing a values)
given_kept Is a [] none given = subst (AllByRecursion Is) (sym none) tt
given_kept Is a (v ∷ vs) none given = given

used_kept : (Is : Text → Type 0) (a : Rule) (values : List Text) (rows : List Row) → IsTame a → AllByRecursion Is values → AreRows Is rows → AreRows Is (used a values rows)
used_kept Is a values rows t given all = used_as_kept Is (action_of a) a.id (reading_by a) (values_or_missing a values) rows t.uncounted (given_kept Is a values t.missing given) all

by_id_kept : (Is : Text → Type 0) (o : Option Rule) (values : List Text) (rows : List Row) → ((a : Rule) → o ≡ Some a → IsTame a) → AllByRecursion Is values → AreRows Is rows → AreRows Is (used_by_id o values rows)
by_id_kept Is None values rows tames given all = all
by_id_kept Is (Some a) values rows tames given all = used_kept Is a values rows (tames a refl) given all

settled_rows_kept : (Is : Text → Type 0) (c : List Rule) (p : Option (Text × List Text)) (rows : List Row) → are_tame c ≡ true → ArePending Is p → AreRows Is rows → AreRows Is (settled_rows c p rows)
settled_rows_kept Is c None rows tames waiting all = all
settled_rows_kept Is c (Some p) rows tames waiting all = by_id_kept Is (arg_by_id c p.0) p.1 rows (λ a is. tame_by_id c p.0 a tames is) waiting all

settled_kept : (Is : Text → Type 0) (c : List Rule) (h : Held) → are_tame c ≡ true → AreHeld Is h → AreHeld Is (settled c h)
settled_kept Is c h tames all = record { rows = settled_rows_kept Is c h.pending h.rows tames all.pending all.rows; pending = tt }

reacted_kept : (Is : Text → Type 0) (c : List Rule) (a : Rule) (h : Held) → are_tame c ≡ true → IsTame a → AreHeld Is h → AreHeld Is (reacted c a [] h)
reacted_kept Is c a h tames t all = record { rows = used_kept Is a [] (settled c h).rows t tt (settled_kept Is c h tames all).rows; pending = tt }

started_kept : (Is : Text → Type 0) (id word : Text) (p : Option (Text × List Text)) → Is word → ArePending Is p → AllByRecursion Is ((started id p).1 ++ word ∷ [])
started_kept Is id word None one all = (one, tt)
started_kept Is id word (Some p) one all = all_append Is p.1 (word ∷ []) all (one, tt)

pushed_kept : (Is : Text → Type 0) (id word : Text) (h : Held) → Is word → AreHeld Is h → AreHeld Is (pushed id word h)
pushed_kept Is id word h one all = record { rows = all.rows; pending = started_kept Is id word h.pending one all.pending }

-- ---- a word

option_kept : (Is : Text → Type 0) (o : Option Rule) (id word : Text) (h : Held) → Is word → AreHeld Is h → AreHeld Is (option_word o id word h).0
option_kept Is None id word h one all = all
option_kept Is (Some a) id word h one all = pushed_kept Is id word h one all

plain_kept : (Is : Text → Type 0) (c : List Rule) (w : Waiting) (word : Text) (h : Held) → Is word → AreHeld Is h → AreHeld Is (plain_word c w word h).0
plain_kept Is c (option id) word h one all = option_kept Is (arg_by_id c id) id word h one all
plain_kept Is c idle word h one all = all
plain_kept Is c positional word h one all = all

after_flag_kept : (Is : Text → Type 0) (c : List Rule) (w : Waiting) (word : Text) (h : Held) (o : Outcome) → Is word → AreHeld Is h → AreHeld Is (after_flag c w word h o).0
after_flag_kept Is c w word h done one all = all
after_flag_kept Is c w word h (waits id) one all = all
after_flag_kept Is c w word h plain one all = plain_kept Is c w word h one all
after_flag_kept Is c w word h refused one all = plain_kept Is c w word h one all

flag_kept : (Is : Text → Type 0) (c : List Rule) (a : Rule) (v : Option Text) (h : Held) → are_tame c ≡ true → IsTame a → AreHeld Is h → AreHeld Is (flag_met c a v h).0
flag_kept Is c a None h tames t all = reacted_kept Is c a h tames t all
flag_kept Is c a (Some v) h tames t all = all

long_kept : (Is : Text → Type 0) (c : List Rule) (o : Option Rule) (v : Option Text) (h : Held) → are_tame c ≡ true → ((a : Rule) → o ≡ Some a → IsTame a × (takes_values a ≡ false)) → AreHeld Is h → AreHeld Is (long_met c o v h).0
long_kept Is c None v h tames flags all = all
long_kept Is c (Some a) v h tames flags all =
    subst (λ (b : Bool). AreHeld Is (if b then option_met c a v h else flag_met c a v h).0) (sym (flags a refl).1) (flag_kept Is c a v h tames (flags a refl).0 all)

short_kept : (Is : Text → Type 0) (c : List Rule) (o : Option Rule) (rest : Text) (h : Held) (go : Held → Held × Outcome) → are_tame c ≡ true → ((a : Rule) → o ≡ Some a → IsTame a × (takes_values a ≡ false))
    → ((g : Held) → AreHeld Is g → AreHeld Is (go g).0) → AreHeld Is h → AreHeld Is (short_met c o rest h go).0
short_kept Is c None rest h go tames flags goes all = all
short_kept Is c (Some a) rest h go tames flags goes all =
    subst (λ (b : Bool). AreHeld Is (if b then option_met c a (attached_value rest) h else go (reacted c a [] h)).0) (sym (flags a refl).1) (goes _ (reacted_kept Is c a h tames (flags a refl).0 all))

long_tame : (c : List Rule) (name : Text) (a : Rule) → are_tame c ≡ true → arg_by_long c name ≡ Some a → IsTame a × (takes_values a ≡ false)
long_tame c name a tames is =
    let here = found (λ r. not (is_some r.index) && has_long r name) is_tame c a tames is in
    (tame a here.1, flag_tame a (has_long a name) here.1 here.0)

short_tame : (c : List Rule) (x : ℕ) (a : Rule) → are_tame c ≡ true → arg_by_short c x ≡ Some a → IsTame a × (takes_values a ≡ false)
short_tame c x a tames is =
    let here = found (λ r. not (is_some r.index) && has_short r x) is_tame c a tames is in
    (tame a here.1, flag_tame a (has_short a x) here.1 here.0)

bundle_step_kept : (Is : Text → Type 0) (c : List Rule) (o : Option ℕ) (flags : Text) (skip : ℕ) (so_far : Outcome) (h : Held) (go : Text → ℕ → Outcome → Held → Held × Outcome) → are_tame c ≡ true
    → ((f : Text) (s : ℕ) (x : Outcome) (g : Held) → AreHeld Is g → AreHeld Is (go f s x g).0) → AreHeld Is h → AreHeld Is (bundle_step c o flags skip so_far h go).0
bundle_step_kept Is c None flags skip so_far h go tames goes all = all
bundle_step_kept Is c (Some x) flags zero so_far h go tames goes all =
    short_kept Is c (arg_by_short c x) _ h (go (drop (length (encode_utf8 x)) flags) 0 done) tames (λ a is. short_tame c x a tames is) (goes _ 0 done) all
bundle_step_kept Is c (Some x) flags (suc skip) so_far h go tames goes all = goes _ skip so_far h all

bundle_kept : (Is : Text → Type 0) (c : List Rule) (k : ℕ) (flags : Text) (skip : ℕ) (so_far : Outcome) (h : Held) → are_tame c ≡ true → AreHeld Is h → AreHeld Is (bundle_met c k flags skip so_far h).0
unfolding bundle_met
bundle_kept Is c zero flags skip so_far h tames all = all
bundle_kept Is c (suc k) flags skip so_far h tames all =
    bundle_step_kept Is c (slice_get (chars flags) 0) flags skip so_far h (bundle_met c k) tames (λ f s x g held. bundle_kept Is c k f s x g tames held) all

short_or_kept : (Is : Text → Type 0) (c : List Rule) (w : Waiting) (word : Text) (o : Option Text) (h : Held) → are_tame c ≡ true → Is word → AreHeld Is h → AreHeld Is (short_or_plain c w word o h).0
short_or_kept Is c w word None h tames one all = plain_kept Is c w word h one all
short_or_kept Is c w word (Some flags) h tames one all =
    after_flag_kept Is c w word _ _ one (bundle_kept Is c (length flags) flags h.skip plain (record h { skip = 0 }) tames (record { rows = all.rows; pending = all.pending }))

long_or_kept : (Is : Text → Type 0) (c : List Rule) (w : Waiting) (word : Text) (o : Option (Text × Option Text)) (h : Held) → are_tame c ≡ true → Is word → AreHeld Is h → AreHeld Is (long_or_other c w word o h).0
long_or_kept Is c w word None h tames one all = short_or_kept Is c w word (short_of word) h tames one all
long_or_kept Is c w word (Some p) h tames one all =
    after_flag_kept Is c w word _ _ one (long_kept Is c (arg_by_long c p.0) p.1 h tames (λ a is. long_tame c p.0 a tames is) all)

other_kept : (Is : Text → Type 0) (c : List Rule) (w : Waiting) (position : ℕ) (word : Text) (h : Held) (b : Bool) → are_tame c ≡ true → Is word → AreHeld Is h
    → AreHeld Is (if b then (h, trailing position) else long_or_other c w word (long_of word) h).0
other_kept Is c w position word h true tames one all = all
other_kept Is c w position word h false tames one all = long_or_kept Is c w word (long_of word) h tames one all

met_kept : (Is : Text → Type 0) (c : List Rule) (is_trailing : Bool) (w : Waiting) (position : ℕ) (word : Text) (h : Held) → are_tame c ≡ true → Is word → AreHeld Is h → AreHeld Is (word_met c [] is_trailing w position word h).0
met_kept Is c true w position word h tames one all = all
met_kept Is c false idle position word h tames one all = other_kept Is c idle position word h (bytes_eq word (45 ∷ 45 ∷ [])) tames one all
met_kept Is c false (option id) position word h tames one all = other_kept Is c (option id) position word h (bytes_eq word (45 ∷ 45 ∷ [])) tames one all
met_kept Is c false positional position word h tames one all = other_kept Is c positional position word h (bytes_eq word (45 ∷ 45 ∷ [])) tames one all

held_test : (Is : Text → Type 0) (b : Bool) (g h : Held) → AreHeld Is g → AreHeld Is h → AreHeld Is (if b then g else h)
held_test Is true g h first second = first
held_test Is false g h first second = second

to_positional_kept : (Is : Text → Type 0) (c : List Rule) (o : Option Rule) (word : Text) (w : Walk) (h : Held) → are_tame c ≡ true → Is word → AreHeld Is h → AreHeld Is (to_positional c o word w h).held
to_positional_kept Is c None word w h tames one all = all
to_positional_kept Is c (Some a) word w h tames one all = pushed_kept Is a.id word _ one (held_test Is (is_pending a h.pending && takes_several a) h (settled c h) all (settled_kept Is c h tames all))

step_kept : (Is : Text → Type 0) (c : List Rule) (word : Text) (w : Walk) (h : Held) (s : Step) → are_tame c ≡ true → Is word → AreHeld Is h → AreHeld Is (after_step c word w h s).held
step_kept Is c word w h (next x) tames one all = all
step_kept Is c word w h (trailing position) tames one all = all
step_kept Is c word w h (subcommand name) tames one all = all
step_kept Is c word w h value tames one all = to_positional_kept Is c (arg_by_index c w.position) word w h tames one all

walked_from_kept : (Is : Text → Type 0) (c : List Rule) (o : Option (Text × List Text)) (w : Walk) (word : Text) → are_tame c ≡ true → Is word → AreHeld Is w.held → AreHeld Is (walked_from c [] o w word).held
walked_from_kept Is c None w word tames one all =
    step_kept Is c word w (word_met c [] w.is_trailing w.waiting w.position word w.held).0 (word_met c [] w.is_trailing w.waiting w.position word w.held).1 tames one
    (met_kept Is c w.is_trailing w.waiting w.position word w.held tames one all)
walked_from_kept Is c (Some p) w word tames one all = all

walk_kept : (Is : Text → Type 0) (c : List Rule) (w : Walk) (words : List Text) → are_tame c ≡ true → AllByRecursion Is words → AreHeld Is w.held → AreHeld Is (fold (walked c []) w words).held
unfolding walked
walk_kept Is c w [] tames are all = all
walk_kept Is c w (word ∷ words) tames are all = walk_kept Is c (walked c [] w word) words tames are.1 (walked_from_kept Is c w.stopped w word tames are.0 all)

-- ---- the rows of a form

default_kept : (Is : Text → Type 0) (rows : List Row) (a : Rule) → a.defaults ≡ [] → AreRows Is rows → AreRows Is (with_default rows a)
default_kept Is rows a none all =
    of_test Is (has_row a.id rows) rows (default_rows a.id (reading_by a) a.defaults rows) all
    (subst (λ (ds : List Text). AreRows Is (default_rows a.id (reading_by a) ds rows)) (sym none) all)

defaults_kept : (Is : Text → Type 0) (c : List Rule) (rows : List Row) → are_tame c ≡ true → AreRows Is rows → AreRows Is (fold with_default rows c)
defaults_kept Is [] rows tames all = all
defaults_kept Is (a ∷ c) rows tames all =
    let parts = both (is_tame a) (are_tame c) tames in
    defaults_kept Is c (with_default rows a) parts.1 (default_kept Is rows a (tame a parts.0).defaults all)

rows_kept : (Is : Text → Type 0) (c : List Rule) (words : List Text) → are_tame c ≡ true → AllByRecursion Is words → AreRows Is (rows_after c [] words)
rows_kept Is c words tames are =
    defaults_kept Is c _ tames (settled_kept Is c (fold (walked c []) (walk_from nothing_held) words).held tames
    (walk_kept Is c (walk_from nothing_held) words tames are (record { rows = tt; pending = tt }))).rows

value_at : (Is : Text → Type 0) (values : List Text) (v : Text) → AllByRecursion Is values → slice_get values 0 ≡ Some v → Is v
value_at Is [] v all is = absurd cc
value_at Is (x ∷ xs) v all is = let same : x ≡ v = cc in subst Is same all.0

row_at : (Is : Text → Type 0) (id : Text) (rows : List Row) (r : Row) → AreRows Is rows → find (λ x. bytes_eq x.id id) rows ≡ Some r → AllByRecursion Is r.values
row_at Is id [] r all is = absurd cc
row_at Is id (x ∷ xs) r all is =
    elim (found_by (bytes_eq x.id id) x r (find (λ y. bytes_eq y.id id) xs) is) [
      | inl here ↦ subst (λ (y : Row). AllByRecursion Is y.values) here.1 all.0
      | inr later ↦ row_at Is id xs r all.1 later
    ]

first_kept : (Is : Text → Type 0) (id : Text) (rows : List Row) (v : Text) → AreRows Is rows → first_of id rows ≡ Some v → Is v
first_kept Is id rows v all is = of_row (find (λ r. bytes_eq r.id id) rows) refl is
  where
    of_row : (o : Option Row) → find (λ r. bytes_eq r.id id) rows ≡ o → option_and_then (λ r. slice_get r.values 0) o ≡ Some v → Is v
    of_row None e is = absurd cc
    of_row (Some r) e is = value_at Is r.values v (row_at Is id rows r all e) is

-- ---- the program's words

stop_kept : (Is : Text → Type 0) (c : List Rule) (names : Names) (word : Text) (w : Walk) (h : Held) (s : Step) → ArePending Is w.stopped → ArePending Is (after_step c word w h s).stopped
stop_kept Is c names word w h (next x) all = all
stop_kept Is c names word w h (trailing position) all = all
stop_kept Is c names word w h (subcommand name) all = tt
stop_kept Is c names word w h value all = of_rule (arg_by_index c w.position)
  where
    of_rule : (o : Option Rule) → ArePending Is (to_positional c o word w h).stopped
    of_rule None = all
    of_rule (Some a) = tt

stop_from_kept : (Is : Text → Type 0) (c : List Rule) (names : Names) (o : Option (Text × List Text)) (w : Walk) (word : Text) → Is word → ArePending Is o → ArePending Is w.stopped → ArePending Is (walked_from c names o w word).stopped
stop_from_kept Is c names None w word one met all = stop_kept Is c names word w _ (word_met c names w.is_trailing w.waiting w.position word w.held).1 all
stop_from_kept Is c names (Some p) w word one met all = all_append Is p.1 (word ∷ []) met (one, tt)

stops_kept : (Is : Text → Type 0) (c : List Rule) (names : Names) (w : Walk) (words : List Text) → AllByRecursion Is words → ArePending Is w.stopped → ArePending Is (fold (walked c names) w words).stopped
unfolding walked
stops_kept Is c names w [] are all = all
stops_kept Is c names w (word ∷ words) are all = stops_kept Is c names (walked c names w word) words are.1 (stop_from_kept Is c names w.stopped w word are.0 all all)

abbrev top : App
top = built fuota

forms_tame : list_all (λ s. are_tame s.rules) top.subs ≡ true
unfolding fuota
forms_tame = refl

entered_kept : (Is : Text → Type 0) (stop : Option (Text × List Text)) (x : Text × List Row) → ArePending Is stop → entered top stop ≡ Some x → AreRows Is x.1
entered_kept Is None x all is = absurd cc
entered_kept Is (Some p) x all is = of_form (find (λ s. answers_to p.0 (label_of s)) top.subs) refl is
  where
    of_form : (o : Option Shape) → find (λ s. answers_to p.0 (label_of s)) top.subs ≡ o → option_map (λ s. rows_at s p.1) o ≡ Some x → AreRows Is x.1
    of_form None e is = absurd cc
    of_form (Some s) e is =
        let same : rows_at s p.1 ≡ x = cc in
        subst (λ (y : Text × List Row). AreRows Is y.1) same
        (rows_kept Is s.rules p.1 (found (λ f. answers_to p.0 (label_of f)) (λ f. are_tame f.rules) top.subs s forms_tame e).1 all)

drop_kept : (Is : Text → Type 0) (words : List Text) → AllByRecursion Is words → AllByRecursion Is (drop 1 words)
drop_kept Is [] all = tt
drop_kept Is (word ∷ words) all = all.1

subcommand_kept : (Is : Text → Type 0) (words : List Text) (x : Text × List Row) → AllByRecursion Is words → subcommand_of fuota words ≡ Some x → AreRows Is x.1
unfolding fuota
subcommand_kept Is words x are is =
    entered_kept Is (stop_after top.top.rules (names_of top) (drop 1 words)) x
    (stops_kept Is top.top.rules (names_of top) (walk_from nothing_held) (drop 1 words) (drop_kept Is words are) tt) is

found_unless : (kinds : Kinds) (o : Option (Text × List Row)) (x : Text × List Row) → where_none kinds o ≡ Some x → o ≡ Some x
found_unless [] o x is = is
found_unless (k ∷ ks) o x is = absurd cc

-- ---- what is asked for

abbrev AreAsked : (Text → Type 0) → Option Invocation → Type 0
AreAsked Is o = AllByRecursion Is (names_asked o)

asked_test : (Is : Text → Type 0) (b : Bool) (x y : Option Invocation) → AreAsked Is x → AreAsked Is y → AreAsked Is (if b then x else y)
asked_test Is true x y first second = first
asked_test Is false x y first second = second

asked_then : {X : Type 0} (Is : Text → Type 0) (o : Option X) (f : X → Option Invocation) → ((x : X) → o ≡ Some x → AreAsked Is (f x)) → AreAsked Is (o >>= f)
asked_then Is None f all = tt
asked_then Is (Some x) f all = all x refl

campaign_kept : (Is : Text → Type 0) (rows : List Row) → AreRows Is rows → AreAsked Is (campaign_asked rows)
campaign_kept Is rows all =
    asked_then Is (first_of (codes "IMAGE") rows) _ (λ image i. asked_then Is (first_of (codes "SCRIPT") rows) _ (λ script s.
    (first_kept Is _ rows image all i, (first_kept Is _ rows script all s, tt))))

recover_kept : (Is : Text → Type 0) (rows : List Row) → AreRows Is rows → AreAsked Is (recover_asked rows)
recover_kept Is rows all =
    asked_then Is (first_of (codes "IMAGE") rows) _ (λ image i. asked_then Is (first_of (codes "SCRIPT") rows) _ (λ script s.
    asked_then Is (first_of (codes "DEVICE") rows) _ (λ word w. asked_then Is (device_of_word word) _ (λ device d.
    (first_kept Is _ rows image all i, (first_kept Is _ rows script all s, tt))))))

replay_kept : (Is : Text → Type 0) (rows : List Row) → AreRows Is rows → AreAsked Is (replay_asked rows)
replay_kept Is rows all = asked_then Is (first_of (codes "FILE") rows) _ (λ file f. (first_kept Is _ rows file all f, tt))

decode_kept : (Is : Text → Type 0) (rows : List Row) → AreRows Is rows → AreAsked Is (decode_asked rows)
decode_kept Is rows all =
    asked_then Is (first_of (codes "PORT") rows) _ (λ word w. asked_then Is (port_of_word word) _ (λ port p.
    asked_then Is (first_of (codes "DIR") rows) _ (λ way y. asked_then Is (direction_of_word way) _ (λ direction d.
    asked_then Is (first_of (codes "FILE") rows) _ (λ file f. (first_kept Is _ rows file all f, tt))))))

generate_kept : (Is : Text → Type 0) (rows : List Row) → AreAsked Is (generate_asked rows)
generate_kept Is rows = asked_then Is (first_of (codes "SEED") rows) _ (λ word w. asked_then Is (seed_of_word word) _ (λ seed s. tt))

capture_kept : (Is : Text → Type 0) (rows : List Row) → AreRows Is rows → AreAsked Is (capture_asked rows)
capture_kept Is rows all = asked_then Is (first_of (codes "FILE") rows) _ (λ file f. (first_kept Is _ rows file all f, tt))

campaigns_kept : (Is : Text → Type 0) (rows : List Row) → AreRows Is rows → AreAsked Is (campaigns_asked rows)
campaigns_kept Is rows all =
    asked_then Is (first_of (codes "IMAGE_A") rows) _ (λ image_a a. asked_then Is (first_of (codes "IMAGE_B") rows) _ (λ image_b b.
    asked_then Is (first_of (codes "SCRIPT") rows) _ (λ script s.
    (first_kept Is _ rows image_a all a, (first_kept Is _ rows image_b all b, (first_kept Is _ rows script all s, tt))))))

by_keyword_kept : (Is : Text → Type 0) (keyword : Text) (rows : List Row) → AreRows Is rows → AreAsked Is (asked_by keyword rows)
unfolding asked_by
by_keyword_kept Is keyword rows all =
    asked_test Is (bytes_eq keyword (codes "campaign")) _ _ (campaign_kept Is rows all)
    (asked_test Is (bytes_eq keyword (codes "recover")) _ _ (recover_kept Is rows all)
    (asked_test Is (bytes_eq keyword (codes "replay")) _ _ (replay_kept Is rows all)
    (asked_test Is (bytes_eq keyword (codes "decode")) _ _ (decode_kept Is rows all)
    (asked_test Is (bytes_eq keyword (codes "generate")) _ _ (generate_kept Is rows)
    (asked_test Is (bytes_eq keyword (codes "capture")) _ _ (capture_kept Is rows all)
    (asked_test Is (bytes_eq keyword (codes "campaigns")) _ None (campaigns_kept Is rows all) tt))))))

found_kept : (Is : Text → Type 0) (o : Option (Text × List Row)) → ((x : Text × List Row) → o ≡ Some x → AreRows Is x.1) → AreAsked Is (option_and_then (λ x. asked_by x.0 x.1) o)
found_kept Is None all = tt
found_kept Is (Some x) all = by_keyword_kept Is x.0 x.1 (all x refl)

asked_kept : (Is : Text → Type 0) (words : List Text) → AllByRecursion Is words → AreAsked Is (asked words)
unfolding asked parsed
asked_kept Is words are =
    found_kept Is (where_none (fault_of fuota words) (subcommand_of fuota words))
    (λ x is. subcommand_kept Is words x are (found_unless (fault_of fuota words) (subcommand_of fuota words) x is))

-- each word is among the words
among_all : (before words : List Text) → AllByRecursion (Contains (before ++ words)) words
among_all before [] = tt
among_all before (word ∷ words) = (
  Contains-append_right before (word ∷ words) word (0, omega arith, refl),
  subst (λ (all : List Text). AllByRecursion (Contains all) words) (append_assoc before (word ∷ []) words) (among_all (before ++ word ∷ []) words),
)

holds_by : (held : Contents) (o : Option Invocation) → AllByRecursion (λ name. IsSome (held name)) (names_asked o) → HoldsInvocation (Some held) o
holds_by held None all = tt
holds_by held (Some (plays what image script)) all = (all.0, all.1.0)
holds_by held (Some (payloads what file)) all = all.0
holds_by held (Some (generates seed)) all = tt
holds_by held (Some (plays_two image_a image_b script)) all = (all.0, all.1.0, all.1.1.0)

pub names_are_words : NamesAreWords
names_are_words = record {
  among = λ words. asked_kept (Contains words) words (among_all [] words);
  enough = λ held words all. holds_by held (asked words) all;
}
