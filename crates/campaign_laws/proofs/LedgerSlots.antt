-- The slots of a device that receives an image, and an uplink that tells a version truly.
use Rattle.std.proofs.Common.{◌≡◌, ◌⊎◌, inl, inr, ⊎_elim, ℕ, ◌^◌, ◌<◌, Bool, true, false, cond, ◌&&◌, not, List, [], ◌∷◌, length, All, Option, None, Some, IfSome, Ok, refl, sym, ap, ◌∙◌, subst}
use Rattle.std.specs.List.{AllByRecursion}
use Rattle.wire_base.specs.declared.refusal.Direction.TheVariants.{Up}
use Rattle.wire_base.specs.Rows.{IsListed}
use Rattle.frag_session.specs.declared.answers.Verdict.{Verdict}
use Rattle.frag_session.specs.declared.answers.Verdict.TheVariants as verdict
use Rattle.frag_session.specs.Session.{Session, shape_of, seen_of, view_of}
use Rattle.frag_session.specs.FirstMoment.{IsDecidedAtFirst}
use Rattle.frag_session.proofs.FirstMoments.{decided_at_first}
use Rattle.image_slots.specs.declared.view.ImageState.{ImageState}
use Rattle.image_slots.specs.declared.view.ImageState.TheVariants as state
use Rattle.image_slots.specs.Image.{is_image, is_unknown, is_for, firmware_of, image_state}
use Rattle.image_slots.specs.Slots.{Slots, without_next, after_offer, after_swap, after_delete, after_raise}
use Rattle.sync_wire.specs.declared.cmd.Cmd.TheVariants as s
use Rattle.package_grammar.specs.declared.command.Command.{Command}
use Rattle.package_grammar.specs.declared.command.Command.TheVariants.{Sync}
use Rattle.package_grammar.specs.Grammar.{row, canonical, IsValid, SpellsTo}
use Rattle.package_grammar.specs.Reading.{reading_of}
use Rattle.package_grammar.proofs.Written.{message_of}
use Rattle.package_grammar.proofs.ReadingLaw.{read_as, answered}
use Rattle.device_core.specs.declared.uplink.Uplink.{Uplink}
use Rattle.device_core.specs.Fragments.{is_complete, whole_file, slots_after}
use Rattle.campaign_laws.specs.Headline.{IsFragmentOf}
use Rattle.campaign_laws.specs.Ledger.{IsRunning}
use Rattle.campaign_laws.proofs.HeadlineCommands.{Cut}
use Rattle.campaign_laws.proofs.HeadlineEnds.{IsSetFor, shape_for}
use Rattle.campaign_laws.proofs.HeadlineImage.{alone_is_image, behind}

-- ---- a file that is whole

-- a session of the server's that is complete has the image
complete_is : (image : List ℕ) (cut : Cut) (s : Session) (mark : ℕ) → All (λ b. b < 2 ^ 8) image
    → IsSetFor image cut s → (seen_of s).verdict ≡ verdict.Complete mark → (seen_of s).file ≡ image
complete_is image cut s mark bytes k is =
    let h = shape_for image cut s bytes k in
    let heard = subst (λ (n : ℕ). AllByRecursion (IsFragmentOf image n) s.heard) (sym h.1) k.heard in
    let decided : IsDecidedAtFirst s = decided_at_first s h.0.makes in
    let at = (decided.complete mark).0 is in
    let from = behind (IsFragmentOf image (shape_of s).frag_size) at.1.0 (at.1.1 ∷ at.1.2)
    (subst (AllByRecursion (IsFragmentOf image (shape_of s).frag_size)) at.1.3.parted heard) in
    decided.file mark at.0 at.1 ∙ alone_is_image image (shape_of s) s.setup.padding (at.1.1 ∷ at.1.2) at.0 h.0 from
    at.1.3.now.alone

file_by : (v : Verdict) (file x : List ℕ) → cond (is_complete v) (Some file) None ≡ Some x
    → ((mark : ℕ) × (v ≡ verdict.Complete mark)) × (file ≡ x)
file_by verdict.Receiving file x is = absurd cc
file_by (verdict.Complete mark) file x is = ((mark, refl), cc)
file_by (verdict.NoRows mark) file x is = absurd cc
file_by (verdict.Conflict mark) file x is = absurd cc

-- so is the file that it shows
pub whole_is : (image : List ℕ) (cut : Cut) (s : Option Session) (file : List ℕ) → All (λ b. b < 2 ^ 8) image
    → IfSome s (IsSetFor image cut) → whole_file (view_of s) ≡ Some file → file ≡ image
unfolding view_of
whole_is image cut None file bytes k is = absurd cc
whole_is image cut (Some s) file bytes k is =
    let r = file_by (seen_of s).verdict (seen_of s).file file is in
    sym r.1 ∙ complete_is image cut s r.0.0 bytes k r.0.1

-- ---- slots

-- next is the image; where it is valid, so is its version
pub record IsNext (image : List ℕ) (slots : Slots) : Type 0 where
  pub version : (version : ℕ) → slots.next ≡ state.Valid version → version ≡ firmware_of image
  pub bytes : slots.next_file ≡ image

-- what runs is nothing or the image, and so is next
pub record HasSlots (image : List ℕ) (slots : Slots) : Type 0 where
  pub running : (slots.version ≡ 0) ⊎ IsRunning image slots
  pub next : (slots.next ≡ state.None) ⊎ IsNext image slots

-- slots go on: what runs the image runs it
pub record SlotsGo (image : List ℕ) (old new : Slots) : Type 0 where
  pub has : HasSlots image new
  pub runs : IsRunning image old → IsRunning image new

valid_by : (a b : Bool) (firmware version : ℕ)
    → cond a (cond b (state.Valid firmware) state.Incompatible) state.Corrupt ≡ state.Valid version
    → version ≡ firmware
valid_by true true firmware version is = cc
valid_by true false firmware version is = absurd cc
valid_by false b firmware version is = absurd cc

valid_is : (file : List ℕ) (hw formats version : ℕ) → image_state file hw formats ≡ state.Valid version → version ≡ firmware_of file
unfolding image_state
valid_is file hw formats version is = valid_by (is_image file && not (is_unknown file formats)) (is_for file hw) (firmware_of file) version is

pub same_slots : (image : List ℕ) (slots : Slots) → HasSlots image slots → SlotsGo image slots slots
same_slots image slots k = record { has = k; runs = λ r. r }

emptied_slots : (image : List ℕ) (slots : Slots) → HasSlots image slots → SlotsGo image slots (without_next slots)
emptied_slots image slots k = record {
  has = record {
    running = ⊎_elim (λ none. inl none) (λ r. inr (record { version = r.version; bytes = r.bytes })) k.running;
    next = inl refl;
  };
  runs = λ r. record { version = r.version; bytes = r.bytes };
}

swap_by : (image : List ℕ) (formats version : ℕ) (running : List ℕ) (next : ImageState) (file : List ℕ)
    → HasSlots image (record { formats = formats; version = version; running = running; next = next; next_file = file })
    → SlotsGo image (record { formats = formats; version = version; running = running; next = next; next_file = file })
    (after_swap (record { formats = formats; version = version; running = running; next = next; next_file = file }))
unfolding after_swap
swap_by image formats version running state.None file k = same_slots image _ k
swap_by image formats version running state.Corrupt file k = same_slots image _ k
swap_by image formats version running state.Incompatible file k = same_slots image _ k
swap_by image formats version running (state.Valid held) file k = elim k.next [
  | inl none ↦ absurd cc
  | inr is ↦
      let now : IsRunning image (record { formats = formats; version = held; running = file; next = state.None; next_file = [] }) =
      record { version = is.version held refl; bytes = is.bytes } in
      record {
        has = record { running = inr now; next = inl refl };
        runs = λ r. now;
      }
]

pub swapped_slots : (image : List ℕ) (slots : Slots) → HasSlots image slots → SlotsGo image slots (after_swap slots)
swapped_slots image slots k = swap_by image slots.formats slots.version slots.running slots.next slots.next_file k

deleted_by : (image : List ℕ) (slots : Slots) (b : Bool) → HasSlots image slots
    → SlotsGo image slots (cond b (without_next slots) slots)
deleted_by image slots true k = emptied_slots image slots k
deleted_by image slots false k = same_slots image slots k

pub deleted_slots : (image : List ℕ) (version : ℕ) (slots : Slots) → HasSlots image slots
    → SlotsGo image slots (after_delete version slots)
unfolding after_delete
deleted_slots image version slots k = deleted_by image slots _ k

pub offered_slots : (image : List ℕ) (hw : ℕ) (was_whole : Bool) (file : Option (List ℕ)) (slots : Slots)
    → ((x : List ℕ) → file ≡ Some x → x ≡ image) → HasSlots image slots
    → SlotsGo image slots (slots_after hw was_whole file slots)
unfolding after_offer
offered_slots image hw true file slots is k = same_slots image slots k
offered_slots image hw false None slots is k = same_slots image slots k
offered_slots image hw false (Some file) slots is k = record {
  has = record {
    running = ⊎_elim (λ none. inl none) (λ r. inr (record { version = r.version; bytes = r.bytes })) k.running;
    next = inr (record {
      version = λ version valid. valid_is file hw slots.formats version valid ∙ ap firmware_of (is file refl);
      bytes = is file refl;
    });
  };
  runs = λ r. record { version = r.version; bytes = r.bytes };
}

raised_by : (image : List ℕ) (hw formats version : ℕ) (running : List ℕ) (next : ImageState) (file : List ℕ)
    → HasSlots image (record { formats = formats; version = version; running = running; next = next; next_file = file })
    → (next ≡ state.None → ⊥) → IsNext image (record { formats = 2; version = version; running = running; next = image_state file hw 2; next_file = file })
raised_by image hw formats version running next file k some = elim k.next [
  | inl none ↦ absurd (some none)
  | inr is ↦ record {
    version = λ v valid. valid_is file hw 2 v valid ∙ ap firmware_of is.bytes;
    bytes = is.bytes;
  }
]

again : (image : List ℕ) (hw formats version : ℕ) (running : List ℕ) (next : ImageState) (file : List ℕ)
    → HasSlots image (record { formats = formats; version = version; running = running; next = next; next_file = file })
    → SlotsGo image (record { formats = formats; version = version; running = running; next = next; next_file = file })
    (after_raise hw (record { formats = formats; version = version; running = running; next = next; next_file = file }))
unfolding after_raise
again image hw formats version running state.None file k = record {
  has = record { running = ⊎_elim (λ none. inl none) (λ r. inr (record { version = r.version; bytes = r.bytes })) k.running; next = inl refl };
  runs = λ r. record { version = r.version; bytes = r.bytes };
}
again image hw formats version running next file k = record {
  has = record {
    running = ⊎_elim (λ none. inl none) (λ r. inr (record { version = r.version; bytes = r.bytes })) k.running;
    next = inr (raised_by image hw formats version running next file k (λ none. cc));
  };
  runs = λ r. record { version = r.version; bytes = r.bytes };
}

pub raised_slots : (image : List ℕ) (hw : ℕ) (slots : Slots) → HasSlots image slots → SlotsGo image slots (after_raise hw slots)
raised_slots image hw slots k = again image hw slots.formats slots.version slots.running slots.next slots.next_file k

-- ---- what is answered of a version

-- where a command tells the image's version, this holds
abbrev pub Tells : (image : List ℕ) → Type 0 → Command → Type 0
Tells image R command = (hardware : ℕ) → command ≡ Sync (s.DevVersionAns (firmware_of image) hardware) → R

-- and so where one of an uplink does
abbrev pub TellsTruly : (image : List ℕ) → Type 0 → Uplink → Type 0
TellsTruly image R uplink =
    (cs : List Command) → reading_of uplink.port Up uplink.payload ≡ Ok cs → AllByRecursion (Tells image R) cs

pub tells_on : (image : List ℕ) (R S : Type 0) → (R → S) → (us : List Uplink) → AllByRecursion (TellsTruly image R) us
    → AllByRecursion (TellsTruly image S) us
tells_on image R S on [] all = tt
tells_on image R S on (u ∷ us) all = (λ cs is. tell cs (all.0 cs is), tells_on image R S on us all.1)
  where
    tell : (cs : List Command) → AllByRecursion (Tells image R) cs → AllByRecursion (Tells image S) cs
    tell [] told = tt
    tell (x ∷ xs) told = (λ hardware is. on (told.0 hardware is), tell xs told.1)

-- versions come only on port 203
far_tells : (image : List ℕ) (R : Type 0) (cs : List Command) (port : ℕ) (bytes : List ℕ) (from end : ℕ)
    → (port ≡ 203 → ⊥) → SpellsTo cs port Up bytes from end → AllByRecursion (Tells image R) cs
far_tells image R [] port bytes from end far all = tt
far_tells image R (x ∷ cs) port bytes from end far all = (
  λ hardware is.
      let listed : IsListed (row (Sync (s.DevVersionAns (firmware_of image) hardware))) port Up =
      subst (λ (y : Command). IsListed (row y) port Up) is all.1.listed in
      absurd (far listed.port_is),
  far_tells image R cs port bytes all.0 end far all.2,
)

pub other_port : (image : List ℕ) (R : Type 0) (u : Uplink) → (u.port ≡ 203 → ⊥) → TellsTruly image R u
other_port image R u far cs is =
    far_tells image R cs u.port u.payload 0 (length u.payload) far (answered u.port Up u.payload (Ok cs) is).all

-- a valid command of port 203 is read as it is
pub one_told : (image : List ℕ) (R : Type 0) (due : ℕ) (x : Command) → IsValid x → IsListed (row x) 203 Up
    → Tells image R x
    → TellsTruly image R (record { due = due; port = 203; payload = canonical x })
one_told image R due x valid listed tells cs is =
    let read = read_as 203 Up (canonical x) (Ok (x ∷ [])) (message_of x 203 Up valid listed) in
    let same : x ∷ [] ≡ cs = cc in
    subst (AllByRecursion (Tells image R)) same (tells, tt)
