-- What a solver keeps true, and what its calls are given.
use Rattle.std.proofs.Common.{◌≡◌, ℕ, ◌*◌, ◌<◌, ◌≤◌, true, ◌&&◌, nat_le, List, length, get_or, replicate, refl, sym, ap, ◌∙◌, subst, inl, inr, arith}
use Rattle.std.proofs.lemmas.Bool.{and_parts, leb-true, cases_lt}
use Rattle.frag_model.specs.Fragments.{Shape}
use Rattle.row_elimination.specs.declared.stages.Stage.{Stage}
use Rattle.row_elimination.specs.declared.stages.Stage.TheVariants as stage
use Rattle.row_elimination.specs.declared.stages.Fed.{Fed}
use Rattle.row_elimination.specs.declared.stages.Fed.TheVariants as fed
use Rattle.row_elimination.specs.HeldPlaces.{free, gained_held}
use Rattle.row_elimination.specs.Inside.{IsReduced}
use Rattle.row_elimination.specs.HeldTable.{Grid, SameRoom}
use Rattle.row_elimination.specs.HeldSolver.{Held, TwoFit, Receives, Feeds}
use Rattle.row_elimination.specs.HeldTaking.{held_of, stage_after, FedAs}
use Rattle.row_arena.specs.Rows.{words_for, has_room as has_arena_room}
use Rattle.row_elimination.specs.Room.{Extent, has_room}
use Rattle.row_elimination.specs.SolverInside.{IsSolver}
use Rattle.row_elimination.specs.declared.solver.Kept.{Kept}
use Rattle.std.specs.Prelude.{vec_capacity}
use Rattle.row_elimination.proofs.Telling.{fits_from_agrees}
use Rattle.row_elimination.proofs.Blocks.{two_fitting, one_alone}
use Rattle.row_elimination.proofs.Gridding.{more_words, none_reduced, free_everywhere, gained_none}

-- ---- room

pub record Roomy (words bytes : ℕ) (extent : Extent) (nb size rows : ℕ) : Type 0 where
  pub arena : has_arena_room words bytes rows nb size ≡ true
  pub pieces : nb * size ≤ extent.area
  pub few : nb ≤ extent.pieces

pub roomy : (words bytes : ℕ) (extent : Extent) (nb size rows : ℕ) → has_room words bytes extent nb size rows ≡ true → Roomy words bytes extent nb size rows
unfolding has_room has_arena_room
roomy words bytes extent nb size rows h =
    let a = and_parts (nat_le (rows * words_for nb) words && nat_le (rows * size) bytes && nat_le (nb * size) extent.area) (nat_le nb extent.pieces) h in
    let b = and_parts (nat_le (rows * words_for nb) words && nat_le (rows * size) bytes) (nat_le (nb * size) extent.area) a.0 in
    record { arena = b.0; pieces = leb-true (nb * size) extent.area b.1; few = leb-true nb extent.pieces a.1 }

-- ---- what is in the box

abbrev pub IsKept : {W B : ℕ} → Kept W B → Type 0
IsKept k = IsSolver k.table k.stage (vec_capacity k.line) (vec_capacity k.picks) k.line.items k.picks.items k.part.items

pub kept_still : {W B : ℕ} (k now : Kept W B) → k ≡ now → IsKept now → IsKept k
kept_still {W} {B} k now same inside = subst (λ (x : Kept W B). IsKept x) (sym same) inside

pub held_still : {W B : ℕ} (k now : Kept W B) (h : Held) → k ≡ now → held_of now.stage now.table ≡ h → held_of k.stage k.table ≡ h
held_still {W} {B} k now h same is = ap (λ (x : Kept W B). held_of x.stage x.table) same ∙ is

-- the words of the file's lines are no more than there is memory for
pub line_fits : {W B : ℕ} (k now : Kept W B) (h : Held) (nb size rows : ℕ) → k ≡ now → held_of now.stage now.table ≡ h → has_room W B h.extent nb size rows ≡ true
    → words_for nb ≤ words_for k.table.room.pieces
line_fits {W} {B} k now h nb size rows same is room =
    let pieces : k.table.room.pieces ≡ h.extent.pieces = ap (λ (x : Held). x.extent.pieces) (held_still k now h same is) in
    more_words nb k.table.room.pieces (omega (arith, (roomy W B h.extent nb size rows room).few, pieces))

-- ---- a solver that has just begun

pub two_at_first : (g : Grid) (at : Stage) → 1 ≤ g.shape.nb_frag → 1 ≤ g.shape.frag_size → g.places ≡ replicate g.shape.nb_frag free → TwoFit (held_of at g)
two_at_first g at some size e =
    let reduced : IsReduced g.shape.nb_frag g.shape.frag_size g.places = subst (λ ps. IsReduced g.shape.nb_frag g.shape.frag_size ps) (sym e) (none_reduced g.shape.nb_frag g.shape.frag_size) in
    let r = two_fitting g.shape g.places 0 reduced size some (ap (λ ps. get_or ps 0 free) e ∙ free_everywhere g.shape.nb_frag 0) in
    (r.0, r.1, fits_from_agrees g.shape g.places r.0 reduced r.2 r.3, fits_from_agrees g.shape g.places r.1 reduced r.4 r.5, r.6)

pub more_at_first : (nb : ℕ) → 1 ≤ nb → gained_held (replicate nb free) < nb
more_at_first nb some = omega (arith, gained_none nb)

-- ---- after a fragment

pub receiving_only : (answer : Fed) → stage_after answer ≡ stage.Receiving → answer ≡ fed.Receiving
unfolding stage_after
receiving_only fed.Receiving e = refl
receiving_only fed.Complete e = cc
receiving_only fed.NoRows e = cc
receiving_only fed.Conflict e = cc

pub fed_as : (answer other : Fed) (old new : Held) (n : ℕ) (part : List ℕ) → FedAs answer old new n part → answer ≡ other → FedAs other old new n part
fed_as answer other old new n part h e = subst (λ (a : Fed). FedAs a old new n part) e h

-- what each answer means, one by one
pub feeds : (answer : Fed) (old new : Held) (n : ℕ) (part : List ℕ) → new.extent ≡ old.extent → FedAs answer old new n part → Feeds old new n part answer
unfolding FedAs
feeds answer old new n part extent h = record {
  receiving = fed_as answer fed.Receiving old new n part h;
  complete = fed_as answer fed.Complete old new n part h;
  no_rows = fed_as answer fed.NoRows old new n part h;
  conflict = fed_as answer fed.Conflict old new n part h;
  extent = extent;
}

-- the fields afterwards
pub still_solver : (g new : Grid) (answer : Fed) (line_cap picks_cap : ℕ) (line line' picks picks' part part' : List ℕ)
    → IsSolver g stage.Receiving line_cap picks_cap line picks part → SameRoom g new
    → length line' ≡ length line → length picks' ≡ length picks → length part' ≡ length part → (answer ≡ fed.Receiving → gained_held new.places < new.shape.nb_frag)
    → IsSolver new (stage_after answer) line_cap picks_cap line' picks' part'
still_solver g new answer line_cap picks_cap line line' picks picks' part part' h room l k p more =
    let held : words_for new.room.pieces ≡ words_for g.room.pieces = ap (λ (e : Extent). words_for e.pieces) room.room in
    let width : words_for new.shape.nb_frag ≡ words_for g.shape.nb_frag = ap (λ (s : Shape). words_for s.nb_frag) room.shape in
    let nb : new.shape.nb_frag ≡ g.shape.nb_frag = ap (λ (s : Shape). s.nb_frag) room.shape in
    let size : new.shape.frag_size ≡ g.shape.frag_size = ap (λ (s : Shape). s.frag_size) room.shape in
    record {
      line_held = omega (arith, held, h.line_held);
      picks_held = omega (arith, held, h.picks_held);
      line_sized = omega (arith, width, l, h.line_sized);
      picks_sized = omega (arith, width, k, h.picks_sized);
      part_sized = p ∙ h.part_sized;
      most = omega (arith, nb, h.most);
      small = omega (arith, size, h.small);
      some = λ e. omega (arith, size, h.some refl);
      more = λ e. more (receiving_only answer e);
    }

-- the answer, as the solver's values have it
pub fed_is : (answer : Fed) (g new : Grid) (before after : Stage) (old : Held) (n : ℕ) (part : List ℕ) → held_of before g ≡ old → old.stage ≡ stage.Receiving → after ≡ stage_after answer
    → FedAs answer (held_of stage.Receiving g) (held_of (stage_after answer) new) n part → FedAs answer old (held_of after new) n part
fed_is answer g new before after old n part is at e h =
    let same : before ≡ stage.Receiving = ap (λ (x : Held). x.stage) is ∙ at in
    let was : held_of stage.Receiving g ≡ old = ap (λ s. held_of s g) (sym same) ∙ is in
    subst (λ s. FedAs answer old (held_of s new) n part) (sym e) (subst (λ x. FedAs answer x (held_of (stage_after answer) new) n part) was h)

-- while it receives, something is left to be gained
pub left_to_gain : (answer : Fed) (g new : Grid) (n : ℕ) (part : List ℕ) → FedAs answer (held_of stage.Receiving g) (held_of (stage_after answer) new) n part → IsReduced new.shape.nb_frag new.shape.frag_size new.places
    → answer ≡ fed.Receiving → gained_held new.places < new.shape.nb_frag
unfolding FedAs
left_to_gain answer g new n part h reduced e =
    let r : Receives (held_of stage.Receiving g) (held_of (stage_after answer) new) n part = fed_as answer fed.Receiving (held_of stage.Receiving g) (held_of (stage_after answer) new) n part h e in
    let two = r.two in
    elim (cases_lt (gained_held new.places) new.shape.nb_frag) [
      | inl lt ↦ lt
      | inr le ↦ absurd (two.4 (one_alone new.shape new.places two.0 two.1 reduced le two.2 two.3))
    ]
