-- What the slots say of their files stays true: next is what its bytes are, and only a valid next comes to run.
use Rattle.std.proofs.Common.{◌≡◌, ◌⊎◌, inl, inr, ℕ, Bool, true, false, cond, ◌==◌, List, [], refl, sym, ◌∙◌}
use Rattle.std.specs.Prelude.{◌&&◌, not}
use Rattle.image_slots.specs.declared.view.ImageState.{ImageState}
use Rattle.image_slots.specs.declared.view.ImageState.TheVariants as image
use Rattle.image_slots.specs.Image.{format_of, is_image, is_for, is_unknown, firmware_of, image_state}
use Rattle.image_slots.specs.Slots.{Slots, RunsImageOr, IsRead, AreSound, after_offer, after_swap, delete_bits, after_delete, read_again, after_raise}

-- ---- a file becomes next

pub offered : (P : (version : ℕ) → Type 0) (hw : ℕ) (file : List ℕ) (slots : Slots) → AreSound P hw slots → AreSound P hw (after_offer hw file slots)
unfolding after_offer
offered P hw file slots k = record { runs = k.runs; read = inr refl }

-- ---- a valid next comes to run

swap_of : (P : (version : ℕ) → Type 0) (hw formats version : ℕ) (running : List ℕ) (next : ImageState) (next_file : List ℕ)
    → let slots : Slots = record {
      formats = formats;
      version = version;
      running = running;
      next = next;
      next_file = next_file;
    } in
    AreSound P hw slots → AreSound P hw (after_swap slots)
unfolding after_swap
swap_of P hw formats version running (image.Valid held) next_file k = record {
  runs = inr (is_valid k.read);
  read = inl (refl, refl);
}
  where
    is_valid : ((image.Valid held ≡ image.None) × (next_file ≡ [])) ⊎ (image.Valid held ≡ image_state next_file hw formats)
        → image_state next_file hw formats ≡ image.Valid held
    is_valid (inl none) = let no = none.0 in absurd cc
    is_valid (inr read) = sym read
swap_of P hw formats version running image.None next_file k = k
swap_of P hw formats version running image.Corrupt next_file k = k
swap_of P hw formats version running image.Incompatible next_file k = k

pub swapped : (P : (version : ℕ) → Type 0) (hw : ℕ) (slots : Slots) → AreSound P hw slots → AreSound P hw (after_swap slots)
swapped P hw slots k = swap_of P hw slots.formats slots.version slots.running slots.next slots.next_file k

-- ---- next is deleted

delete_by : (P : (version : ℕ) → Type 0) (hw : ℕ) (slots : Slots) (b : Bool) → AreSound P hw slots
    → AreSound P hw (cond b (record slots { next = image.None; next_file = [] }) slots)
delete_by P hw slots true k = record {
  runs = k.runs;
  read = inl (refl, refl);
}
delete_by P hw slots false k = k

pub deleted : (P : (version : ℕ) → Type 0) (hw version : ℕ) (slots : Slots) → AreSound P hw slots → AreSound P hw (after_delete version slots)
unfolding after_delete
deleted P hw version slots k = delete_by P hw slots (delete_bits slots.next version == 0) k

-- ---- both formats are known

-- what is valid to a device stays so where it knows both formats
still_by : (file : List ℕ) (hw v : ℕ) (two one known : Bool)
    → cond {A = ImageState} (known && not (two && one)) (cond {A = ImageState} (is_for file hw) (image.Valid (firmware_of file)) image.Incompatible) image.Corrupt ≡ image.Valid v
    → cond {A = ImageState} (known && not (two && false)) (cond {A = ImageState} (is_for file hw) (image.Valid (firmware_of file)) image.Incompatible) image.Corrupt ≡ image.Valid v
still_by file hw v true true true is = absurd cc
still_by file hw v true false true is = is
still_by file hw v false one true is = is
still_by file hw v two one false is = absurd cc

still_valid : (file : List ℕ) (hw formats v : ℕ) → image_state file hw formats ≡ image.Valid v
    → image_state file hw 2 ≡ image.Valid v
unfolding image_state is_unknown
still_valid file hw formats v is = still_by file hw v (format_of file == 2) (formats == 1) (is_image file) is

there_by : (a b : Bool) (version : ℕ)
    → cond {A = ImageState} a (cond {A = ImageState} b (image.Valid version) image.Incompatible) image.Corrupt ≡ image.None → ⊥
there_by true true version is = absurd cc
there_by true false version is = absurd cc
there_by false b version is = absurd cc

-- what bytes are is not none
pub is_there : (file : List ℕ) (hw formats : ℕ) → image_state file hw formats ≡ image.None → ⊥
unfolding image_state
is_there file hw formats is = there_by _ _ _ is

raise_by : (hw : ℕ) (slots : Slots) (next : ImageState) → slots.next ≡ next → IsRead hw slots
    → IsRead hw (record slots { formats = 2; next = read_again hw next slots.next_file })
raise_by hw slots image.None is (inl none) = inl (refl, none.1)
raise_by hw slots image.None is (inr read) = absurd (is_there slots.next_file hw slots.formats (sym read ∙ is))
raise_by hw slots image.Corrupt is read = inr refl
raise_by hw slots image.Incompatible is read = inr refl
raise_by hw slots (image.Valid version) is read = inr refl

pub raised_slots : (P : (version : ℕ) → Type 0) (hw formats version : ℕ) (running : List ℕ) (next : ImageState) (next_file : List ℕ)
    → AreSound P hw (record { formats = formats; version = version; running = running; next = next; next_file = next_file })
    → AreSound P hw (record { formats = 2; version = version; running = running; next = read_again hw next next_file; next_file = next_file })
raised_slots P hw formats version running next next_file k = record {
  runs = runs_still k.runs;
  read = raise_by hw (record { formats = formats; version = version; running = running; next = next; next_file = next_file }) next refl k.read;
}
  where
    runs_still : RunsImageOr P hw (record { formats = formats; version = version; running = running; next = next; next_file = next_file })
        → RunsImageOr P hw (record { formats = 2; version = version; running = running; next = read_again hw next next_file; next_file = next_file })
    runs_still (inl none) = inl none
    runs_still (inr valid) = inr (still_valid running hw formats version valid)

pub raised : (P : (version : ℕ) → Type 0) (hw : ℕ) (slots : Slots) → AreSound P hw slots → AreSound P hw (after_raise hw slots)
unfolding after_raise
raised P hw slots k = raised_slots P hw slots.formats slots.version slots.running slots.next slots.next_file k

-- a valid next keeps its version
pub valid_again : (P : (version : ℕ) → Type 0) (hw formats version held : ℕ) (running : List ℕ) (next : ImageState) (next_file : List ℕ)
    → AreSound P hw (record { formats = formats; version = version; running = running; next = next; next_file = next_file })
    → next ≡ image.Valid held → read_again hw next next_file ≡ image.Valid held
valid_again P hw formats version held running next next_file k is = rw is (by_read k.read)
  where
    by_read : IsRead hw (record { formats = formats; version = version; running = running; next = next; next_file = next_file })
        → image_state next_file hw 2 ≡ image.Valid held
    by_read (inl none) = let no = sym is ∙ none.0 in absurd cc
    by_read (inr read) = still_valid next_file hw formats held (sym read ∙ is)
