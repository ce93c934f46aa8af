-- The words of the command line: what clap's answer says of them.
use Rattle.std.proofs.Common.{◌≡◌, ◌≢◌, inl, inr, true, List, [], ◌∷◌, Option, None, option_and_then, refl, sym, ap, subst, ◌∙◌}
use Rattle.clap.specs.declared.error.Error.{Error}
use Rattle.clap.specs.declared.error.kind.ErrorKind.{ErrorKind}
use Rattle.clap.specs.declared.error.kind.ErrorKind.TheVariants as kind
use Rattle.clap.specs.declared.parser.matches.ArgMatches.{ArgMatches}
use Rattle.clap.specs.Words.{App, HasKind, HasMatchesOf, Row, Text, IsAmong, Kinds, fault_of, is_simple, is_simple_and_free, kind_of, subcommand_of, subcommand_rows_of}
use Rattle.clap.proofs.OnLiterals.{clap_on_literals}
use Rattle.fuota_run.specs.Words.{Invocation, asked, asked_by, fuota, parsed, where_none}

fuota_simple : is_simple fuota ≡ true
unfolding fuota clap_on_literals
fuota_simple = refl

fuota_free : is_simple_and_free fuota ≡ true
unfolding fuota clap_on_literals
fuota_free = refl

abbrev then_asked : Option (Text × List Row) → Option Invocation
then_asked = option_and_then (λ found. asked_by found.0 found.1)

-- no fault: what clap found is what is asked for
found_by : (kinds : Kinds) (found : Option (Text × List Row)) → kinds ≡ [] → where_none kinds found ≡ found
found_by [] found none = refl
found_by (k ∷ ks) found none = absurd cc

asked_found : (words : List Text) → fault_of fuota words ≡ [] → asked words ≡ then_asked (subcommand_of fuota words)
unfolding asked parsed
asked_found words none = ap then_asked (found_by (fault_of fuota words) (subcommand_of fuota words) none)

-- a fault: the words are no form
pub refused_by : (kinds : Kinds) (kind : ErrorKind) (found : Option (Text × List Row)) → IsAmong kind kinds → where_none kinds found ≡ None
refused_by [] kind found among = absurd among
refused_by (k ∷ ks) kind found among = refl

asked_nothing : (words : List Text) (e : Error) → kind_of e ≢ kind.OutOfMemory → HasKind (fault_of fuota words) e → asked words ≡ None
unfolding asked parsed
asked_nothing words e apart (inl same) = absurd (apart same)
asked_nothing words e apart (inr among) = ap then_asked (refused_by (fault_of fuota words) (kind_of e) (subcommand_of fuota words) among)

-- the same of a command that was built as the program's
pub asked_ok : (app : App) (words : List Text) (m : ArgMatches) → app ≡ fuota → (is_simple_and_free app ≡ true → fault_of app words ≡ []) → HasMatchesOf app words m
    → asked words ≡ then_asked (subcommand_rows_of m)
asked_ok app words m is kinds matches =
    subst (λ (a : App). (is_simple_and_free a ≡ true → fault_of a words ≡ []) → HasMatchesOf a words m → asked words ≡ then_asked (subcommand_rows_of m)) (sym is)
    (λ none found. asked_found words (none fuota_free) ∙ sym (ap then_asked (found fuota_simple).1)) kinds matches

pub asked_err : (app : App) (words : List Text) (e : Error) → app ≡ fuota → (is_simple_and_free app ≡ true → HasKind (fault_of app words) e) → kind_of e ≢ kind.OutOfMemory → asked words ≡ None
asked_err app words e is kinds apart =
    subst (λ (a : App). (is_simple_and_free a ≡ true → HasKind (fault_of a words) e) → asked words ≡ None) (sym is)
    (λ has. asked_nothing words e apart (has fuota_free)) kinds
