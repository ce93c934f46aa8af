-- Items whose bytes follow one another: those of each stay where they are when others follow.
use Rattle.std.proofs.Common.{◌≡◌, ◌≤◌, ◌+◌, ◌-◌, ℕ, List, [], ◌∷◌, ◌++◌, length, map, take, drop, refl, ap, sym, ◌∙◌, arith}
use Rattle.std.specs.Prelude.{slice_range}
use Rattle.std.specs.List.{AllByRecursion}
use Rattle.std.proofs.lemmas.List.{drop-append-le, take-append-le, length-drop, drop_at, take_all, map-append}
use Rattle.campaign_world.specs.LogsInside.{Lies}

part_still : (bytes more : List ℕ) (at len : ℕ) → at + len ≤ length bytes
    → slice_range (bytes ++ more) at (at + len) ≡ slice_range bytes at (at + len)
part_still bytes more at len within =
    let behind : at + len - at ≤ length (drop at bytes) = omega (arith, within, length-drop at bytes) in
    ap (λ (rest : List ℕ). take (at + len - at) rest) (drop-append-le at bytes more (omega (arith, within)))
    ∙ take-append-le (at + len - at) (drop at bytes) more behind

part_last : (bytes more : List ℕ) (at len : ℕ) → at ≡ length bytes → len ≡ length more
    → slice_range (bytes ++ more) at (at + len) ≡ more
part_last bytes more at len here many =
    ap (λ (rest : List ℕ). take (at + len - at) rest) (drop_at bytes more at (sym here))
    ∙ take_all (at + len - at) more (omega (arith, many))

-- the items with these heads
abbrev items_of : {H I : Type 0} (at len : H → ℕ) (item : H → List ℕ → I) (bytes : List ℕ) → List H → List I
items_of at len item bytes heads = map (λ h. item h (slice_range bytes (at h) (at h + len h))) heads

items_still : {H I : Type 0} (at len : H → ℕ) (item : H → List ℕ → I) (bytes more : List ℕ) (heads : List H)
    → AllByRecursion (λ h. Lies bytes (at h) (len h)) heads → items_of at len item (bytes ++ more) heads ≡ items_of at len item bytes heads
items_still at len item bytes more [] lie = refl
items_still {H} {I} at len item bytes more (h ∷ hs) lie =
    ap (λ (x : I). x ∷ items_of at len item (bytes ++ more) hs) (ap (λ (p : List ℕ). item h p) (part_still bytes more (at h) (len h) lie.0.within))
    ∙ ap (λ (xs : List I). item h (slice_range bytes (at h) (at h + len h)) ∷ xs) (items_still at len item bytes more hs lie.1)

-- one more is after them
pub one_more : {H I : Type 0} (at len : H → ℕ) (item : H → List ℕ → I) (bytes more now : List ℕ) (old new : List H) (head : H)
    → AllByRecursion (λ h. Lies bytes (at h) (len h)) old → now ≡ bytes ++ more → new ≡ old ++ head ∷ []
    → at head ≡ length bytes → len head ≡ length more
    → items_of at len item now new ≡ items_of at len item bytes old ++ item head more ∷ []
one_more {H} {I} at len item bytes more now old new head lie bytes_are are here many =
    ap (λ (bs : List ℕ). items_of at len item bs new) bytes_are
    ∙ ap (λ (hs : List H). items_of at len item (bytes ++ more) hs) are
    ∙ map-append (λ (h : H). item h (slice_range (bytes ++ more) (at h) (at h + len h))) old (head ∷ [])
    ∙ ap (λ (xs : List I). xs ++ item head (slice_range (bytes ++ more) (at head) (at head + len head)) ∷ []) (items_still at len item bytes more old lie)
    ∙ ap (λ (p : List ℕ). items_of at len item bytes old ++ item head p ∷ []) (part_last bytes more (at head) (len head) here many)
