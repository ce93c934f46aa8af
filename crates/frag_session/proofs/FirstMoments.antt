-- What is seen of a session, in terms of the files that fit.
use Rattle.std.proofs.Common.{◌≡◌, ◌≢◌, ℕ, ◌-◌, ◌*◌, ◌<◌, ◌≤◌, Bool, true, false, List, [], ◌∷◌, ◌++◌, length, take, drop, bytes_eq, refl, sym, ap, ◌∙◌, subst, inl, inr, arith, length-append, length-drop, suc-mul, zero, suc}
use Rattle.std.specs.List.{concat, list_all}
use Rattle.std.proofs.lemmas.Bool.{false≢true}
use Rattle.std.proofs.lemmas.List.{take-append-drop, take_at}
use Rattle.std.proofs.lemmas.Slice.Eq.{bytes_eq-Decides}
use Rattle.frag_model.specs.Fragments.{Fragment, Shape, file_of}
use Rattle.frag_model.specs.Verdict.{Verdict, receiving, complete, no_rows, conflict, verdict, fitting_blocks, FittingBlock, TwoBlocksFit, IsVerdictNow, IsVerdict}
use Rattle.frag_model.specs.File.{FileFits, OneFileFits}
use Rattle.frag_model.proofs.Members.{list_all-In, list_all-fails}
use Rattle.frag_model.proofs.Verdicts.{In-fitting_blocks, In-fitting_blocks_from, verdict-right, IsVerdict-same}
use Rattle.frag_model.proofs.Files.{length-block, one_file, one_block}
use Rattle.frag_session.specs.declared.answers.Verdict.TheVariants as shown
use Rattle.frag_session.specs.Session.{Session, shape_of, seen_of, shown_verdict, shown_file}
use Rattle.frag_session.specs.FirstMoment.{AfterEach, TwoFilesFit, NoFileFits, IsOpen, IsWhole, Overflows, FirstAt, MakesFile, IsDecidedAtFirst}

-- ---- files and blocks

size_within : (count size : ℕ) → 0 < count → size ≤ count * size
size_within zero size pos = absurd (omega arith)
size_within (suc n) size pos = omega (arith, suc-mul n size)

-- the file of a block that fits, fits
pub file_fits : (shape : Shape) (padding : ℕ) (heard : List Fragment) (block : List (List ℕ)) → MakesFile shape padding → FittingBlock shape heard block → FileFits shape padding heard (file_of padding shape block)
unfolding file_of
file_fits shape padding heard block makes fits =
    let n : ℕ = shape.nb_frag * shape.frag_size - padding in (
      drop n (concat block),
      block,
      record {
        padded = omega (arith, length-drop n (concat block), length-block shape block fits.shaped, size_within shape.nb_frag shape.frag_size makes.some, makes.short);
        joined = sym (take-append-drop n (concat block));
        fits = fits;
      },
    )

-- a file that fits is that of its block
pub file_of_fit : (shape : Shape) (padding : ℕ) (heard : List Fragment) (file : List ℕ) (fit : FileFits shape padding heard file) → file ≡ file_of padding shape fit.1
unfolding file_of
file_of_fit shape padding heard file fit =
    let n : ℕ = shape.nb_frag * shape.frag_size - padding in
    let long : length file ≡ n = omega (arith, ap length fit.2.joined, length-append file fit.0, fit.2.padded, length-block shape fit.1 fit.2.fits.shaped) in
    sym (take_at file fit.0 n long) ∙ sym (ap (take n) fit.2.joined)

two_by_test : (shape : Shape) (padding : ℕ) (heard : List Fragment) (a b : List (List ℕ)) → MakesFile shape padding → TwoBlocksFit shape heard a b
    → (same : Bool) → list_all (λ c. bytes_eq (file_of padding shape a) (file_of padding shape c)) (fitting_blocks shape heard) ≡ same
    → (first : List ℕ) × (second : List ℕ) × TwoFilesFit shape padding heard first second
two_by_test shape padding heard a b makes two true is =
    let p : List (List ℕ) → Bool = λ c. bytes_eq (file_of padding shape a) (file_of padding shape c) in
    let one : OneFileFits shape padding heard (file_of padding shape a) = record {
      fits = file_fits shape padding heard a makes two.one;
      alone = λ other fit.
          file_of_fit shape padding heard other fit
          ∙ sym ((bytes_eq-Decides (file_of padding shape a) (file_of padding shape fit.1)).0
          (list_all-In p fit.1 (fitting_blocks shape heard) is (In-fitting_blocks shape heard fit.1 fit.2.fits)));
    } in
    let block = one_block shape padding heard (file_of padding shape a) makes.some makes.short one in
    absurd (two.differ (block.1.alone a two.one ∙ sym (block.1.alone b two.other)))
two_by_test shape padding heard a b makes two false is =
    let p : List (List ℕ) → Bool = λ c. bytes_eq (file_of padding shape a) (file_of padding shape c) in
    let r = list_all-fails p (fitting_blocks shape heard) is in (
      file_of padding shape a,
      file_of padding shape r.0,
      record {
        one = file_fits shape padding heard a makes two.one;
        other = file_fits shape padding heard r.0 makes (In-fitting_blocks_from shape heard r.0 r.1);
        differ = λ e. false≢true (sym r.2 ∙ (bytes_eq-Decides (file_of padding shape a) (file_of padding shape r.0)).1 e);
      },
    )

-- where two blocks fit, two files do
two_files : (shape : Shape) (padding : ℕ) (heard : List Fragment) (a b : List (List ℕ)) → MakesFile shape padding → TwoBlocksFit shape heard a b
    → (first : List ℕ) × (second : List ℕ) × TwoFilesFit shape padding heard first second
two_files shape padding heard a b makes two = two_by_test shape padding heard a b makes two _ refl

-- ---- what was heard, taken for itself

pub open_now : (shape : Shape) (padding : ℕ) (heard : List Fragment) (mark : ℕ) → MakesFile shape padding → IsVerdictNow shape heard mark receiving → IsOpen shape padding heard
unfolding IsVerdictNow
open_now shape padding heard mark makes now = record { room = now.0; files = two_files shape padding heard now.1.0 now.1.1 makes now.1.2 }

open_now_from : (shape : Shape) (padding : ℕ) (heard : List Fragment) (mark : ℕ) → IsOpen shape padding heard → IsVerdictNow shape heard mark receiving
unfolding IsVerdictNow
open_now_from shape padding heard mark open_ =
    let first = open_.files.2.one in
    let second = open_.files.2.other in (
      open_.room,
      (
        first.1,
        second.1,
        record {
          one = first.2.fits;
          other = second.2.fits;
          differ = λ e. open_.files.2.differ
              (file_of_fit shape padding heard open_.files.0 first ∙ ap (file_of padding shape) e ∙ sym (file_of_fit shape padding heard open_.files.1 second));
        },
      ),
    )

-- ---- the first moment

-- a verdict other than receiving came with one fragment, before which there was none
came : (shape : Shape) (heard : List Fragment) (v : Verdict) → v ≢ receiving → IsVerdict shape heard v
    → (newer : List Fragment) × (f : Fragment) × (older : List Fragment) × (heard ≡ newer ++ f ∷ older) × IsVerdict shape older receiving × IsVerdictNow shape (f ∷ older) f.mark v
unfolding IsVerdict
came shape [] v some h = absurd (some h)
came shape (g ∷ heard) v some (inl h) =
    let r = came shape heard v some h.0 in (g ∷ r.0, r.1, r.2, ap (λ (xs : List Fragment). g ∷ xs) r.3, r.4, r.5)
came shape (g ∷ heard) v some (inr h) = ([], g, heard, refl, h.0, h.1)

-- and it stays
stays : (shape : Shape) (newer older : List Fragment) (v : Verdict) → v ≢ receiving → IsVerdict shape older v → IsVerdict shape (newer ++ older) v
unfolding IsVerdict
stays shape [] older v some h = h
stays shape (f ∷ newer) older v some h = inl (stays shape newer older v some h, some)

-- no verdict means that the file is open after each fragment
open_each : (shape : Shape) (padding : ℕ) (heard : List Fragment) → MakesFile shape padding → IsVerdict shape heard receiving → AfterEach (IsOpen shape padding) heard
unfolding IsVerdict
open_each shape padding [] makes h = tt
open_each shape padding (f ∷ older) makes (inl h) = absurd (h.1 refl)
open_each shape padding (f ∷ older) makes (inr h) = (open_now shape padding (f ∷ older) f.mark makes h.1, open_each shape padding older makes h.0)

open_each_from : (shape : Shape) (padding : ℕ) (heard : List Fragment) → AfterEach (IsOpen shape padding) heard → IsVerdict shape heard receiving
unfolding IsVerdict
open_each_from shape padding [] h = refl
open_each_from shape padding (f ∷ older) h = inr (open_each_from shape padding older h.1, open_now_from shape padding (f ∷ older) f.mark h.0)

-- the verdict of a first moment
verdict_at : (shape : Shape) (padding : ℕ) (Holds : List Fragment → Type 0) (heard : List Fragment) (mark : ℕ) (v : Verdict) → v ≢ receiving
    → ((h : List Fragment) → Holds h → IsVerdictNow shape h mark v) → FirstAt shape padding Holds heard mark → verdict shape heard ≡ v
unfolding IsVerdict
verdict_at shape padding Holds heard mark v some means at =
    let m = at.3 in
    let now : IsVerdictNow shape (at.1 ∷ at.2) at.1.mark v = subst (λ (n : ℕ). IsVerdictNow shape (at.1 ∷ at.2) n v) (sym m.marked) (means (at.1 ∷ at.2) m.now) in
    let here : IsVerdict shape (at.1 ∷ at.2) v = inr (open_each_from shape padding at.2 m.before, now) in
    let all : IsVerdict shape heard v = subst (λ (h : List Fragment). IsVerdict shape h v) (sym m.parted) (stays shape at.0 (at.1 ∷ at.2) v some here) in
    IsVerdict-same shape heard (verdict shape heard) v (verdict-right shape heard) all

-- the first moment of a verdict
moment_of : (shape : Shape) (padding : ℕ) (Holds : List Fragment → Type 0) (heard : List Fragment) (mark : ℕ) (v : Verdict) → MakesFile shape padding → v ≢ receiving
    → ((h : List Fragment) (at : ℕ) → IsVerdictNow shape h at v → (mark ≡ at) × Holds h) → verdict shape heard ≡ v → FirstAt shape padding Holds heard mark
moment_of shape padding Holds heard mark v makes some means is =
    let r = came shape heard v some (subst (λ (w : Verdict). IsVerdict shape heard w) is (verdict-right shape heard)) in
    let now = means (r.1 ∷ r.2) r.1.mark r.5 in (
      r.0,
      r.1,
      r.2,
      record { parted = r.3; marked = sym now.0; before = open_each shape padding r.2 makes r.4; now = now.1 },
    )

-- ---- what is shown

pub shown_complete : (v : Verdict) (mark : ℕ) → shown_verdict v ≡ shown.Complete mark → (block : List (List ℕ)) × (v ≡ complete mark block)
unfolding shown_verdict
shown_complete receiving mark is = absurd cc
shown_complete (complete at block) mark is = let same : at ≡ mark = cc in (block, ap (λ (n : ℕ). complete n block) same)
shown_complete (no_rows at) mark is = absurd cc
shown_complete (conflict at) mark is = absurd cc

shown_no_rows : (v : Verdict) (mark : ℕ) → shown_verdict v ≡ shown.NoRows mark → v ≡ no_rows mark
unfolding shown_verdict
shown_no_rows receiving mark is = absurd cc
shown_no_rows (complete at block) mark is = absurd cc
shown_no_rows (no_rows at) mark is = let same : at ≡ mark = cc in ap no_rows same
shown_no_rows (conflict at) mark is = absurd cc

shown_conflict : (v : Verdict) (mark : ℕ) → shown_verdict v ≡ shown.Conflict mark → v ≡ conflict mark
unfolding shown_verdict
shown_conflict receiving mark is = absurd cc
shown_conflict (complete at block) mark is = absurd cc
shown_conflict (no_rows at) mark is = absurd cc
shown_conflict (conflict at) mark is = let same : at ≡ mark = cc in ap conflict same

pub shown_receiving : (v : Verdict) → shown_verdict v ≡ shown.Receiving → v ≡ receiving
unfolding shown_verdict
shown_receiving receiving is = refl
shown_receiving (complete at block) is = absurd cc
shown_receiving (no_rows at) is = absurd cc
shown_receiving (conflict at) is = absurd cc

-- the block of the only file that fits
whole_verdict : (shape : Shape) (padding : ℕ) (heard : List Fragment) (mark : ℕ) (file : List ℕ) → MakesFile shape padding
    → FirstAt shape padding (IsWhole shape padding file) heard mark → (block : List (List ℕ)) × (verdict shape heard ≡ complete mark block) × (file ≡ file_of padding shape block)
unfolding IsVerdictNow
whole_verdict shape padding heard mark file makes at =
    let whole = at.3.now in
    let one = one_block shape padding (at.1 ∷ at.2) file makes.some makes.short whole.alone in (
      one.0,
      verdict_at shape padding (λ h. IsVerdictNow shape h mark (complete mark one.0)) heard mark (complete mark one.0) (λ e. cc) (λ h now. now)
          (at.0, at.1, at.2, record { parted = at.3.parted; marked = at.3.marked; before = at.3.before; now = (refl, whole.room, one.1) }),
      one.2,
    )

complete_moment : (shape : Shape) (padding : ℕ) (heard : List Fragment) (mark : ℕ) (block : List (List ℕ)) → MakesFile shape padding → verdict shape heard ≡ complete mark block
    → FirstAt shape padding (IsWhole shape padding (file_of padding shape block)) heard mark
unfolding IsVerdictNow
complete_moment shape padding heard mark block makes is =
    moment_of shape padding (IsWhole shape padding (file_of padding shape block)) heard mark (complete mark block) makes (λ e. cc)
    (λ h at now. (now.0, record { room = now.1; alone = one_file shape padding h block makes.some makes.short now.2 })) is

overflow_moment : (shape : Shape) (padding : ℕ) (heard : List Fragment) (mark : ℕ) → MakesFile shape padding → verdict shape heard ≡ no_rows mark
    → FirstAt shape padding (Overflows shape padding) heard mark
unfolding IsVerdictNow
overflow_moment shape padding heard mark makes is =
    moment_of shape padding (Overflows shape padding) heard mark (no_rows mark) makes (λ e. cc)
    (λ h at now. (now.0, record { over = now.1; file = (file_of padding shape now.2.0, file_fits shape padding h now.2.0 makes now.2.1) })) is

overflow_verdict : (shape : Shape) (padding : ℕ) (heard : List Fragment) (mark : ℕ) → FirstAt shape padding (Overflows shape padding) heard mark → verdict shape heard ≡ no_rows mark
unfolding IsVerdictNow
overflow_verdict shape padding heard mark at =
    verdict_at shape padding (Overflows shape padding) heard mark (no_rows mark) (λ e. cc) (λ h over. (refl, over.over, (over.file.1.1, over.file.1.2.fits))) at

conflict_moment : (shape : Shape) (padding : ℕ) (heard : List Fragment) (mark : ℕ) → MakesFile shape padding → verdict shape heard ≡ conflict mark
    → FirstAt shape padding (NoFileFits shape padding) heard mark
unfolding IsVerdictNow
conflict_moment shape padding heard mark makes is =
    moment_of shape padding (NoFileFits shape padding) heard mark (conflict mark) makes (λ e. cc)
    (λ h at now. (now.0, λ file fit. now.1 fit.1 fit.2.fits)) is

conflict_verdict : (shape : Shape) (padding : ℕ) (heard : List Fragment) (mark : ℕ) → MakesFile shape padding → FirstAt shape padding (NoFileFits shape padding) heard mark → verdict shape heard ≡ conflict mark
unfolding IsVerdictNow
conflict_verdict shape padding heard mark makes at =
    verdict_at shape padding (NoFileFits shape padding) heard mark (conflict mark) (λ e. cc)
    (λ h none. (refl, λ block fits. none (file_of padding shape block) (file_fits shape padding h block makes fits))) at

-- the same of what a session shows
pub decided_at_first : (s : Session) → MakesFile (shape_of s) s.setup.padding → IsDecidedAtFirst s
unfolding seen_of shown_verdict shown_file
decided_at_first s makes =
    let shape : Shape = shape_of s in
    let padding : ℕ = s.setup.padding in
    record {
      complete = λ mark. (
        λ is. let r = shown_complete (verdict shape s.heard) mark is in (file_of padding shape r.0, complete_moment shape padding s.heard mark r.0 makes r.1),
        λ at. ap shown_verdict (whole_verdict shape padding s.heard mark at.0 makes at.1).1,
      );
      file = λ mark file at.
          let r = whole_verdict shape padding s.heard mark file makes at in
          ap (shown_file padding shape) r.1 ∙ sym r.2;
      no_rows = λ mark. (
        λ is. overflow_moment shape padding s.heard mark makes (shown_no_rows _ mark is),
        λ at. ap shown_verdict (overflow_verdict shape padding s.heard mark at),
      );
      conflict = λ mark. (
        λ is. conflict_moment shape padding s.heard mark makes (shown_conflict _ mark is),
        λ at. ap shown_verdict (conflict_verdict shape padding s.heard mark makes at),
      );
      receiving = (
        λ is. open_each shape padding s.heard makes (subst (λ (v : Verdict). IsVerdict shape s.heard v) (shown_receiving _ is) (verdict-right shape s.heard)),
        λ h. ap shown_verdict (IsVerdict-same shape s.heard (verdict shape s.heard) receiving (verdict-right shape s.heard) (open_each_from shape padding s.heard h)),
      );
    }
