-- A consumer that has heard the lines so far hears one more.
use Rattle.std.proofs.Common.{◌≡◌, ℕ, ◌+◌, List, [], ◌∷◌, ◌++◌, take, Option, Some, refl, sym, ap, subst, ◌∙◌, append-nil, append_assoc, true, false, arith}
use Rattle.std.proofs.lemmas.List.{take_all, length-take}
use Rattle.script_lines.specs.declared.pieces.Cut.TheVariants.{More, Line}
use Rattle.script_lines.specs.Lines.{lines_of}
use Rattle.script_lines.specs.Pieces.{ended_of, cut, cut_lines}
use Rattle.script_lines.specs.HeldLines.{HeldLines, LinesStand, GoesOn, Ends, IsWholeLine, held_as}
use Rattle.script_lines.specs.Hearing.{HearsAll, HasHeard, HearsLines, Hears}
use Rattle.script_lines.proofs.CutLines.{ends_line}
use Rattle.script_lines.proofs.Stretches.{ended_more}

hears_more : {W : Type 0} (Step : W → List ℕ → W → Type 0) (lines : List (List ℕ)) (line : List ℕ) (old now new : W) → HearsAll Step old lines now → Step now line new → HearsAll Step old (lines ++ line ∷ []) new
unfolding HearsAll
hears_more {W} Step [] line old now new heard step = (new, subst (λ (w : W). Step w line new) heard step, refl)
hears_more Step (l ∷ lines) line old now new heard step = (heard.0, heard.1, hears_more Step lines line heard.0 now new heard.2 step)

cut_more : (lines : List (List ℕ)) (line : List ℕ) → cut_lines (lines ++ line ∷ []) ≡ cut_lines lines ++ cut line ∷ []
cut_more [] line = refl
cut_more (l ∷ lines) line = ap (λ (ls : List (List ℕ)). cut l ∷ ls) (cut_more lines line)

same_line : (o : Option (List ℕ)) (one other : List ℕ) → o ≡ Some one → o ≡ Some other → one ≡ other
same_line o one other first second = cc

-- a line that was handed out and heard stands after those heard before
hears_line : {W : Type 0} (Step : W → List ℕ → W → Type 0) (before all : List (List ℕ)) (line heard : List ℕ) (o : Option (List ℕ)) (first now next : W)
    → HearsAll Step first (cut_lines before) now → all ≡ before ++ line ∷ [] → o ≡ Some (cut line) → o ≡ Some heard → Step now heard next → HearsAll Step first (cut_lines all) next
hears_line Step before all line heard o first now next so_far are handed told step =
    rw (are, cut_more before line) (hears_more Step (cut_lines before) (cut line) first now next so_far (subst (λ (l : List ℕ). Step now l next) (same_line o heard (cut line) told handed) step))

pub heard_line : {W : Type 0} (Step : W → List ℕ → W → Type 0) (first now next : W) (old new : HeldLines) (stream bytes line : List ℕ)
    → HasHeard Step first old now stream → GoesOn old new bytes Line stream → new.line ≡ Some line → Step now line next → HasHeard Step first new next (stream ++ bytes)
heard_line Step first now next old new stream bytes line so_far on told step = record {
  stands = on.stands;
  heard = hears_line Step (ended_of stream) (ended_of (stream ++ bytes)) on.lines.0 line new.line first now next so_far.heard on.lines.1 on.lines.2 told step;
}

-- a line that is given without a copy
pub heard_whole : {W : Type 0} (Step : W → List ℕ → W → Type 0) (first now next : W) (held : HeldLines) (stream piece : List ℕ) (end : ℕ)
    → HasHeard Step first held now stream → IsWholeLine held piece end → Step now (take end piece) next → HasHeard Step first held next (stream ++ take (end + 1) piece)
heard_whole Step first now next held stream piece end so_far whole step =
    let line = take end piece in
    let fresh = held_as [] false in
    let before : HasHeard Step first fresh now stream = record { stands = sym whole.fresh ∙ so_far.stands; heard = so_far.heard } in
    let on = ends_line fresh [] line piece false end refl (sym (take_all 601 line (omega (arith, whole.fits, length-take end piece)))) whole.feed stream before.stands in
    let behind = heard_line Step first now next fresh (held_as line true) stream (take (end + 1) piece) line before on refl step in
    record { stands = whole.fresh ∙ behind.stands; heard = behind.heard }

pub heard_more : {W : Type 0} (Step : W → List ℕ → W → Type 0) (first now : W) (old new : HeldLines) (stream bytes : List ℕ)
    → HasHeard Step first old now stream → GoesOn old new bytes More stream → HasHeard Step first new now (stream ++ bytes)
heard_more Step first now old new stream bytes so_far on = record { stands = on.stands; heard = rw on.lines so_far.heard }

pub heard_last : {W : Type 0} (Step : W → List ℕ → W → Type 0) (first now next : W) (old new : HeldLines) (stream line : List ℕ)
    → HasHeard Step first old now stream → Ends new stream true → new.line ≡ Some line → Step now line next → HearsLines Step first next stream
heard_last Step first now next old new stream line so_far end told step =
    hears_line Step (ended_of stream) (lines_of stream) end.0 line new.line first now next so_far.heard end.1 end.2 told step

-- nothing was heard yet
pub heard_none : {W : Type 0} (Step : W → List ℕ → W → Type 0) (first : W) → HearsAll Step first (cut_lines (ended_of [])) first
unfolding HearsAll ended_of
heard_none Step first = refl

-- one piece after another
pub hears_on : {W : Type 0} (Step : W → List ℕ → W → Type 0) (old mid new : HeldLines) (before between now : W) (xs ys : List ℕ)
    → Hears Step old mid before between xs → Hears Step mid new between now ys → Hears Step old new before now (xs ++ ys)
hears_on Step old mid new before between now xs ys one other first stream so_far =
    subst (λ (s : List ℕ). HasHeard Step first new now s) (append_assoc stream xs ys) (other first (stream ++ xs) (one first stream so_far))

pub hears_none : {W : Type 0} (Step : W → List ℕ → W → Type 0) (held : HeldLines) (now : W) → Hears Step held held now now []
hears_none Step held now first stream so_far = subst (λ (s : List ℕ). HasHeard Step first held now s) (sym (append-nil stream)) so_far

-- ---- a consumer that no line changes any more

stays_still : {W : Type 0} (Step : W → List ℕ → W → Type 0) (now : W) (lines : List (List ℕ)) → ((line : List ℕ) → Step now line now) → HearsAll Step now lines now
unfolding HearsAll
stays_still Step now [] over = refl
stays_still Step now (l ∷ ls) over = (now, over l, stays_still Step now ls over)

hears_both : {W : Type 0} (Step : W → List ℕ → W → Type 0) (xs ys : List (List ℕ)) (old now new : W) → HearsAll Step old xs now → HearsAll Step now ys new → HearsAll Step old (xs ++ ys) new
unfolding HearsAll
hears_both {W} Step [] ys old now new heard more = subst (λ (w : W). HearsAll Step w ys new) heard more
hears_both Step (x ∷ xs) ys old now new heard more = (heard.0, heard.1, hears_both Step xs ys heard.0 now new heard.2 more)

cut_both : (xs ys : List (List ℕ)) → cut_lines (xs ++ ys) ≡ cut_lines xs ++ cut_lines ys
cut_both [] ys = refl
cut_both (x ∷ xs) ys = ap (λ (ls : List (List ℕ)). cut x ∷ ls) (cut_both xs ys)

still_heard : {W : Type 0} (Step : W → List ℕ → W → Type 0) (first now : W) (before all : List (List ℕ)) (more : List (List ℕ)) → all ≡ before ++ more
    → HearsAll Step first (cut_lines before) now → ((line : List ℕ) → Step now line now) → HearsAll Step first (cut_lines all) now
still_heard Step first now before all more are heard over =
    rw (are, cut_both before more) (hears_both Step (cut_lines before) (cut_lines more) first now now heard (stays_still Step now (cut_lines more) over))

-- has heard whatever comes
pub passes : {W : Type 0} (Step : W → List ℕ → W → Type 0) (old new : HeldLines) (now : W) (bytes : List ℕ)
    → ((stream : List ℕ) → LinesStand old stream → LinesStand new (stream ++ bytes)) → ((line : List ℕ) → Step now line now) → Hears Step old new now now bytes
passes Step old new now bytes stand over first stream so_far =
    let on = ended_more stream bytes in
    record { stands = stand stream so_far.stands; heard = still_heard Step first now (ended_of stream) (ended_of (stream ++ bytes)) on.0 on.1 so_far.heard over }
