-- Slots that take what saved bytes say, and which formats they know after each change.
use Rattle.std.proofs.Common.{◌≡◌, ℕ, Bool, true, false, cond, ◌==◌, [], refl, ap, sym, ◌∙◌}
use Rattle.image_slots.specs.declared.view.ImageState.{ImageState}
use Rattle.image_slots.specs.declared.view.ImageState.TheVariants as image
use Rattle.image_slots.specs.Slots.{Slots, after_swap, delete_bits, after_delete, after_raise}

raised_none : (hw : ℕ) (slots : Slots) → after_raise hw (record slots { next = image.None }) ≡ record slots { formats = 2; next = image.None }
unfolding after_raise
raised_none hw slots = refl

-- slots without a next know both formats
pub raised : (hw : ℕ) (slots : Slots) → slots.next ≡ image.None → after_raise hw slots ≡ record slots { formats = 2 }
raised hw slots none =
    ap (λ (n : ImageState). after_raise hw (record slots { next = n })) none
    ∙ raised_none hw slots
    ∙ ap (λ (n : ImageState). record slots { formats = 2; next = n }) (sym none)

-- ---- the formats stay, but where both are known from now on

formats_by : (slots : Slots) (next : ImageState) → slots.next ≡ next → (after_swap slots).formats ≡ slots.formats
unfolding after_swap
formats_by slots image.None is = rw is refl
formats_by slots image.Corrupt is = rw is refl
formats_by slots image.Incompatible is = rw is refl
formats_by slots (image.Valid version) is = rw is refl

pub swap_keeps_formats : (slots : Slots) → (after_swap slots).formats ≡ slots.formats
swap_keeps_formats slots = formats_by slots slots.next refl

deleted_by : (slots : Slots) (b : Bool) → (cond {A = Slots} b (record slots { next = image.None; next_file = [] }) slots).formats ≡ slots.formats
deleted_by slots true = refl
deleted_by slots false = refl

pub delete_keeps_formats : (version : ℕ) (slots : Slots) → (after_delete version slots).formats ≡ slots.formats
unfolding after_delete
delete_keeps_formats version slots = deleted_by slots (delete_bits slots.next version == 0)

pub raise_knows_both : (hw : ℕ) (slots : Slots) → (after_raise hw slots).formats ≡ 2
unfolding after_raise
raise_knows_both hw slots = refl
