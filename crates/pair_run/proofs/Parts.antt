-- The lines of the devices of two campaigns, one after another.
use Rattle.std.proofs.Common.{◌≡◌, ℕ, ◌+◌, ◌<◌, ◌≤◌, zero, suc, List, [], ◌∷◌, ◌++◌, length, drop, slice_get, Some, refl, sym, ap, ◌∙◌, append_assoc, append-nil, arith}
use Rattle.std.specs.Prelude.{codes}
use Rattle.std.specs.List.{slice_index_or}
use Rattle.script_lines.specs.declared.forms.Campaign.TheVariants as campaign
use Rattle.campaign_world.proofs.Lines.{drop_at, drop_all}
use Rattle.pair_run.specs.declared.owners.Owner.{Owner}
use Rattle.pair_run.specs.Pair.{PairState}
use Rattle.pair_run.specs.PairReport.{pair_image_line, part_of, pair_parts, pair_report_of}

get_at : {A : Type 0} (xs : List A) (i : ℕ) (d : A) → i < length xs → slice_get xs i ≡ Some (slice_index_or xs i d)
get_at [] i d low = absurd (omega (arith, low))
get_at (a ∷ xs) zero d low = refl
get_at (a ∷ xs) (suc i) d low = get_at xs i d (omega (arith, low))

-- one more is told
pub part_told : (pair : PairState) (text part new all : List ℕ) (id i : ℕ) (owners : List Owner) (d : Owner)
    → i < length owners → new ≡ text ++ part → part ≡ part_of pair id (slice_index_or owners i d)
    → text ++ pair_parts pair id (drop i owners) ≡ all → new ++ pair_parts pair (id + 1) (drop (i + 1) owners) ≡ all
unfolding pair_parts
part_told pair text part new all id i owners d low new_is part_is so_far =
    let rest = drop_at owners i (i + 1) (slice_index_or owners i d) refl (get_at owners i d low) in
    rw (new_is, append_assoc, part_is) (rw rest at so_far)

no_parts : (pair : PairState) (id : ℕ) → pair_parts pair id [] ≡ []
unfolding pair_parts
no_parts pair id = refl

-- all are
pub all_told : (pair : PairState) (text all : List ℕ) (id i : ℕ) (owners : List Owner) → length owners ≤ i
    → text ++ pair_parts pair id (drop i owners) ≡ all → text ≡ all
all_told pair text all id i owners past so_far =
    let none = drop_all owners i past in
    let empty : text ++ [] ≡ all = rw (none, no_parts pair id) at so_far in
    sym (append-nil text) ∙ empty

-- ---- the whole report

joined_on : (c a b p e : List ℕ) → ((c ++ (a ++ b)) ++ p) ++ e ≡ c ++ (a ++ (b ++ (p ++ e)))
joined_on c a b p e =
    append_assoc (c ++ (a ++ b)) p e
    ∙ (append_assoc c (a ++ b) (p ++ e) ∙ ap (λ (l : List ℕ). c ++ l) (append_assoc a b (p ++ e)))

pub report_told : (pair : PairState) (text first parts image_a image_b : List ℕ)
    → text ≡ (first ++ parts) ++ codes "end\n" → first ≡ codes "fuota report 2\n" ++ (image_a ++ image_b)
    → image_a ≡ pair_image_line campaign.A pair.a.server → image_b ≡ pair_image_line campaign.B pair.b.server
    → parts ≡ pair_parts pair 1 pair.owners → text ≡ pair_report_of pair
unfolding pair_report_of
report_told pair text first parts image_a image_b is first_is a_is b_is parts_is =
    is ∙ (ap (λ (l : List ℕ). (l ++ parts) ++ codes "end\n") first_is
    ∙ (joined_on (codes "fuota report 2\n") image_a image_b parts (codes "end\n")
    ∙ (ap (λ (l : List ℕ). codes "fuota report 2\n" ++ (l ++ (image_b ++ (parts ++ codes "end\n")))) a_is
    ∙ (ap (λ (l : List ℕ). codes "fuota report 2\n" ++ (pair_image_line campaign.A pair.a.server ++ (l ++ (parts ++ codes "end\n")))) b_is
    ∙ ap (λ (l : List ℕ). codes "fuota report 2\n" ++ (pair_image_line campaign.A pair.a.server
    ++ (pair_image_line campaign.B pair.b.server ++ (l ++ codes "end\n")))) parts_is))))
