-- A consumer that goes after each line of a stream is after all of them.
use Rattle.std.proofs.Common.{ℕ, List, [], ◌∷◌, ◌++◌, refl, sym, subst, append-nil, append_assoc}
use Rattle.script_lines.specs.Lines.{lines_of}
use Rattle.script_lines.specs.Pieces.{cut, cut_lines}
use Rattle.script_lines.specs.Hearing.{HearsAll, HearsLines}
use Rattle.report_lines.specs.After.{GoesBehind}

goes_behind : {W : Type 0} (Step : W → List ℕ → W → Type 0) (Stands : W → List (List ℕ) → Type 0) (lines so_far : List (List ℕ)) (old new : W)
    → ((before : W) (line : List ℕ) (now : W) → Step before line now → GoesBehind Stands before line now)
    → HearsAll Step old (cut_lines lines) new → Stands old so_far → Stands new (so_far ++ lines)
unfolding HearsAll
goes_behind {W} Step Stands [] so_far old new goes same is =
    subst (λ (ls : List (List ℕ)). Stands new ls) (sym (append-nil so_far)) (subst (λ (w : W). Stands w so_far) (sym same) is)
goes_behind Step Stands (line ∷ lines) so_far old new goes heard is =
    subst (λ (ls : List (List ℕ)). Stands new ls) (append_assoc so_far (line ∷ []) lines)
    (goes_behind Step Stands lines (so_far ++ line ∷ []) heard.0 new goes heard.2 (goes old (cut line) heard.0 heard.1 so_far line refl is))

-- one that has heard all lines of a stream, each cut, and stood after none
pub behind_all : {W : Type 0} (Step : W → List ℕ → W → Type 0) (Stands : W → List (List ℕ) → Type 0) (first now : W) (stream : List ℕ)
    → ((before : W) (line : List ℕ) (after : W) → Step before line after → GoesBehind Stands before line after)
    → HearsLines Step first now stream → Stands first [] → Stands now (lines_of stream)
behind_all Step Stands first now stream goes heard is = goes_behind Step Stands (lines_of stream) [] first now goes heard is
