-- A list of named files, seen through what gives a name and its bytes.
use Rattle.std.proofs.Common.{◌≡◌, ℕ, ◌<◌, List, [], map, get_or, drop, length, Option, None, Some, is_some, IsSome, IfNone, true, sym, ap, ◌∙◌, refl}
use Rattle.std.proofs.lemmas.List.{get_or-map, length-map}
use Rattle.std.proofs.Math.Seq.{drop-cons}
use Rattle.std.specs.Str.{bytes_eq}
use Rattle.fuota_run.specs.Memory.{Named, held_by, bytes_at}

-- the bytes at a place are those of the file there
pub bytes_at-map : {X : Type 0} (name bytes : X → List ℕ) (files : List X) (i : ℕ) (d : X) → i < length files → bytes_at (map (λ f. (name f, bytes f)) files) (Some i) ≡ bytes (get_or files i d)
bytes_at-map {X} name bytes files i d h =
    let g : X → Named = λ f. (name f, bytes f) in
    let within : i < length (map g files) = rw length-map h in
    get_or-map (λ (f : Named). f.1) (map g files) i (g d) [] within ∙ ap (λ (f : Named). f.1) (get_or-map g files i d (g d) h)

-- a file of that name in front is the one that is held
pub held_by-front : {X : Type 0} (name bytes : X → List ℕ) (files : List X) (i : ℕ) (d : X) (n : List ℕ) → i < length files → bytes_eq (name (get_or files i d)) n ≡ true → held_by (map (λ f. (name f, bytes f)) (drop i files)) n ≡ Some (bytes (get_or files i d))
held_by-front name bytes files i d n h test = rw (drop-cons files i d h) (rw test refl)

-- where something is held under the name, its place is found
pub place-there : (found held : List Named) (n : List ℕ) (place : Option ℕ) → found ≡ held → IsSome (held_by held n) → IfNone place (held_by found n ≡ None) → is_some place ≡ true
place-there found held n None same there none =
    ap is_some (sym none) ∙ ap (λ (files : List Named). is_some (held_by files n)) same ∙ there
place-there found held n (Some i) same there none = refl
