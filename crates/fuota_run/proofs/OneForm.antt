-- The words of one form, as its command reads them by itself.
use Rattle.std.proofs.Common.{ap₂, ◌≡◌, ◌≢◌, ◌≤◌, ◌-◌, Bool, true, false, suc, length, take, drop, arith, List, [], ◌∷◌, codes, map, slice_get, get_or, inl, inr, is_some, Option, Some, None, option_and_then, unwrap_or, if◌then◌else◌, refl, sym, ap, subst, ◌∙◌}
use Rattle.std.specs.Str.{bytes_eq}
use Rattle.std.proofs.lemmas.List.{take_all}
use Rattle.std.proofs.lemmas.Slice.Eq.{bytes_eq-Decides}
use Rattle.clap.specs.declared.error.Error.{Error}
use Rattle.clap.specs.declared.error.kind.ErrorKind.TheVariants as kind
use Rattle.clap.specs.Kinds.{Kinds, HasKind}
use Rattle.clap.specs.Walk.{Held, Row, Text, finished, nothing_held, walk}
use Rattle.clap.specs.Simple.{App, Shape, entered, matches_of}
use Rattle.clap.specs.Faults.{built_fault, entered_fault, fault_of, level_fault}
use Rattle.clap.specs.declared.parser.matches.ArgMatches.{ArgMatches}
use Rattle.clap.specs.Words.{HasMatchesOf, found_of, is_simple, is_simple_and_free, kind_of, rows_of}
use Rattle.clap.proofs.OnLiterals.{clap_on_literals}
use Rattle.fuota_run.specs.Words.{Invocation, asked, asked_by, campaign_app, recover_app, replay_app, decode_app, generate_app, capture_app, campaigns_app, form_named, where_none}
use Rattle.fuota_run.proofs.FormWords.{shape, Reads, reads_campaign, reads_recover, reads_replay, reads_decode, reads_generate, reads_capture, reads_campaigns}
use Rattle.fuota_run.proofs.CommandLine.{refused_by}

abbrev then_asked : Option (Text × List Row) → Option Invocation
then_asked = option_and_then (λ found. asked_by found.0 found.1)

-- a command without forms of its own, as it is built
abbrev alone : Shape → App
alone s = record { top = s; subs = [] }

alone_fault : (s : Shape) (h : Held) (words : List Text) → built_fault (alone s) h words ≡ level_fault s [] h words false []
alone_fault s h words = of_stop (walk s.rules [] h words).stopped
  where
    of_stop : (stop : Option (Text × List Text)) → level_fault s [] h words (is_some (entered (alone s) stop)) (entered_fault (alone s) stop) ≡ level_fault s [] h words false []
    of_stop None = refl
    of_stop (Some p) = refl

-- what a form asks for, by its own command
abbrev AsksAlone : Text → App → Type 0
AsksAlone keyword app = (is_simple app ≡ true) × (is_simple_and_free app ≡ true) × ((program : Text) (words : List Text) → asked (program ∷ keyword ∷ words)
    ≡ then_asked (where_none (fault_of app (keyword ∷ words)) (Some (keyword, matches_of app (keyword ∷ words)))))

-- it asks the same as the program, whose form it is
alone_of : (keyword : Text) (app : App) → is_simple app ≡ true → is_simple_and_free app ≡ true → Reads keyword app
    → ((words : List Text) → fault_of app (keyword ∷ words) ≡ level_fault (shape app) [] nothing_held words false [])
    → ((words : List Text) → matches_of app (keyword ∷ words) ≡ finished (shape app).rules (walk (shape app).rules [] nothing_held words).held)
    → AsksAlone keyword app
alone_of keyword app simple free reads fault found = (
  simple,
  free,
  λ program words. reads program words
      ∙ sym (ap₂ (λ (k : Kinds) (rows : List Row). then_asked (where_none k (Some (keyword, rows)))) (fault words) (found words)),
)

-- one keyword more is tried
tried : (keyword lit : Text) (one app : App) (other : Option App) → AsksAlone lit one → (other ≡ Some app → AsksAlone keyword app)
    → (if bytes_eq keyword lit then Some one else other) ≡ Some app → AsksAlone keyword app
tried keyword lit one app other alone next named = of_test (bytes_eq keyword lit) refl named
  where
    of_test : (b : Bool) → bytes_eq keyword lit ≡ b → (if b then Some one else other) ≡ Some app → AsksAlone keyword app
    of_test true e is = subst (λ (k : Text). AsksAlone k app) (sym ((bytes_eq-Decides keyword lit).0 e)) (subst (AsksAlone lit) (ap (λ (o : Option App). unwrap_or o one) is) alone)
    of_test false e is = next is

form_alone : (keyword : Text) (app : App) → form_named keyword ≡ Some app → AsksAlone keyword app
unfolding form_named clap_on_literals
form_alone keyword app named =
    (tried keyword _ _ app _ (alone_of (codes "campaign") campaign_app refl refl reads_campaign (alone_fault (shape campaign_app) nothing_held) (λ words. refl))
    (tried keyword _ _ app _ (alone_of (codes "recover") recover_app refl refl reads_recover (alone_fault (shape recover_app) nothing_held) (λ words. refl))
    (tried keyword _ _ app _ (alone_of (codes "replay") replay_app refl refl reads_replay (alone_fault (shape replay_app) nothing_held) (λ words. refl))
    (tried keyword _ _ app _ (alone_of (codes "decode") decode_app refl refl reads_decode (alone_fault (shape decode_app) nothing_held) (λ words. refl))
    (tried keyword _ _ app _ (alone_of (codes "generate") generate_app refl refl reads_generate (alone_fault (shape generate_app) nothing_held) (λ words. refl))
    (tried keyword _ _ app _ (alone_of (codes "capture") capture_app refl refl reads_capture (alone_fault (shape capture_app) nothing_held) (λ words. refl))
    (tried keyword _ _ app _ (alone_of (codes "campaigns") campaigns_app refl refl reads_campaigns (alone_fault (shape campaigns_app) nothing_held) (λ words. refl)) (λ none. absurd cc)))))))) named

-- the first of the words names a form, whose command reads them
pub asked_alone : {X : Type 0} (text : X → Text) (app : App) (program : Text) (xs : List X) (m : ArgMatches) (x : X)
    → option_and_then form_named (slice_get (map text xs) 0) ≡ Some app → get_or xs 0 x ≡ x
    → (is_simple_and_free app ≡ true → fault_of app (map text xs) ≡ []) → HasMatchesOf app (map text xs) m
    → asked (program ∷ map text xs) ≡ asked_by (text x) (rows_of (found_of m))
asked_alone text app program [] m x named first kinds matches = absurd cc
asked_alone {X = X} text app program (y ∷ ys) m x named first kinds matches =
    let alone = form_alone (text y) app named in
    alone.2 program (map text ys)
    ∙ ap (λ (k : Kinds). then_asked (where_none k (Some (text y, matches_of app (text y ∷ map text ys))))) (kinds alone.1)
    ∙ ap (asked_by (text y)) (sym (matches alone.0).0)
    ∙ ap (λ (z : X). asked_by (text z) (rows_of (found_of m))) first

pub asked_none_alone : {X : Type 0} (text : X → Text) (app : App) (program : Text) (xs : List X) (e : Error)
    → option_and_then form_named (slice_get (map text xs) 0) ≡ Some app
    → (is_simple_and_free app ≡ true → HasKind (fault_of app (map text xs)) e) → kind_of e ≢ kind.OutOfMemory
    → asked (program ∷ map text xs) ≡ None
asked_none_alone text app program [] e named kinds apart = absurd cc
asked_none_alone text app program (y ∷ ys) e named kinds apart =
    let alone = form_alone (text y) app named in
    alone.2 program (map text ys) ∙ of_kind (kinds alone.1)
  where
    of_kind : HasKind (fault_of app (map text (y ∷ ys))) e → then_asked (where_none (fault_of app (map text (y ∷ ys))) (Some (text y, matches_of app (map text (y ∷ ys))))) ≡ None
    of_kind (inl same) = absurd (apart same)
    of_kind (inr among) = ap then_asked (refused_by _ (kind_of e) _ among)

-- ---- the words after the program's name

behind_first : {X : Type 0} (xs : List X) → take (length xs - 1) (drop 1 xs) ≡ drop 1 xs
behind_first [] = refl
behind_first (x ∷ xs) = take_all (suc (length xs) - 1) xs (omega arith)

pub named_behind : {X : Type 0} (text : X → Text) (xs : List X) (x : X) (found : Option App) → 2 ≤ length xs → get_or xs 1 x ≡ x → form_named (text x) ≡ found
    → option_and_then form_named (slice_get (map text (take (length xs - 1) (drop 1 xs))) 0) ≡ found
named_behind {X = X} text xs x found long at is = ap (λ (ys : List X). option_and_then form_named (slice_get (map text ys) 0)) (behind_first xs) ∙ of_second xs long at
  where
    of_second : (ys : List X) → 2 ≤ length ys → get_or ys 1 x ≡ x → option_and_then form_named (slice_get (map text (drop 1 ys)) 0) ≡ found
    of_second [] two second = absurd (omega (arith, two))
    of_second (a ∷ []) two second = absurd (omega (arith, two))
    of_second (a ∷ b ∷ more) two second = ap (λ (y : X). form_named (text y)) second ∙ is

pub all_words : {X : Type 0} (text : X → Text) (xs : List X) → 2 ≤ length xs
    → (program : Text) × (program ∷ map text (take (length xs - 1) (drop 1 xs)) ≡ map text xs)
all_words text [] long = absurd (omega (arith, long))
all_words {X = X} text (a ∷ more) long = (text a, ap (λ (ys : List X). text a ∷ map text ys) (behind_first (a ∷ more)))
