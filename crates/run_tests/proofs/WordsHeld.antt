-- Where all words are names of files, those that are asked for are among them.
use Rattle.std.proofs.Common.{◌≡◌, Bool, true, false, ◌&&◌, List, [], ◌∷◌, map, Some, IsSome, is_some, IsTrue, refl}
use Rattle.std.specs.List.{All, AllByRecursion, Contains, list_all}
use Rattle.std.proofs.lemmas.List.Elements.{All-contains, All-from_recursion}
use Rattle.clap.specs.Words.{Text}
use Rattle.fuota_run.specs.Outside.{Held}
use Rattle.fuota_run.specs.Words.{asked, names_asked}
use Rattle.fuota_run.specs.Ending.{HoldsForm}
use Rattle.fuota_run.specs.Forms.{NamesAreWords}

both : (a b : Bool) → IsTrue (a && b) → (a ≡ true) × IsTrue b
both true b is = (refl, is)
both false b is = absurd cc

held_all : {X : Type 0} (text : X → Text) (held : Held) (words : List X)
    → IsTrue (list_all (λ word. is_some (held (text word))) words) → AllByRecursion (λ word. IsSome (held word)) (map text words)
held_all text held [] is = tt
held_all text held (word ∷ words) is =
    let parts = both (is_some (held (text word))) (list_all (λ w. is_some (held (text w))) words) is in
    (parts.0, held_all text held words parts.1)

are_held : (held : Held) (words names : List Text) → All (λ word. IsSome (held word)) words → AllByRecursion (Contains words) names
    → AllByRecursion (λ name. IsSome (held name)) names
are_held held words [] all among = tt
are_held held words (name ∷ names) all among =
    (All-contains (λ word. IsSome (held word)) words name all among.0, are_held held words names all among.1)

pub holds_words : {X : Type 0} (text : X → Text) (held : Held) (words : List X) → NamesAreWords
    → IsTrue (list_all (λ word. is_some (held (text word))) words) → HoldsForm (Some held) (map text words)
holds_words text held words law is =
    let all = All-from_recursion (λ word. IsSome (held word)) (map text words) (held_all text held words is) in
    law.enough held (map text words)
    (are_held held (map text words) (names_asked (asked (map text words))) all (law.among (map text words)))
