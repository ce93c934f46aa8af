-- What the program answers over two campaigns: to an image of the two, to their script, and after its lines.
use Rattle.std.proofs.Common.{◌≡◌, inl, inr, ℕ, ◌<◌, ◌≤◌, false, List, [], length, Option, Some, None, Result, Ok, Err, sym, ap, subst, ◌∙◌}
use Rattle.image_slots.specs.Image.{is_image}
use Rattle.script_lines.specs.Lines.{lines_of}
use Rattle.report_lines.specs.declared.faults.LineFault.{LineFault}
use Rattle.report_lines.specs.declared.faults.LineError.{LineError}
use Rattle.report_lines.specs.declared.faults.LineError.TheVariants as error
use Rattle.pair_run.specs.Pair.{PairState, first_pair}
use Rattle.pair_run.specs.PairScript.{campaigns_of, campaigns_in, pair_end, read_pair_lines}
use Rattle.pair_run.specs.HeldPair.{HeldPair, PairStands, IsPairReport}
use Rattle.pair_run.specs.HeardPair.{PairIsIf}
use Rattle.fuota_run.specs.declared.status.Status.TheVariants as status
use Rattle.fuota_run.specs.Limits.{image_limit}
use Rattle.fuota_run.specs.Outside.{Held, HoldsName}
use Rattle.fuota_run.specs.Source.{IsSource, IsTooLong}
use Rattle.fuota_run.specs.Words.{plays_two}
use Rattle.fuota_run.specs.Answer.{Answer, answer, image_refused, too_long, pair_answer, played, behind_image, pair_script_answer, campaigns_answer}
use Rattle.fuota_run.specs.Ending.{Gives, IsImageRead}
use Rattle.fuota_run.specs.HeldAnswer.{IsTextAnswer}
use Rattle.fuota_run.proofs.AnswerLemmas.{IsMade, image_long, image_given_refused, image_given, script_long, script_given, long_source, text_made}

-- for the first image, whatever the second one and the script
by_first : (held : Option Held) (name_a name_b script_name image_a : List ℕ) (a : Answer) → IsSource held name_a image_limit image_a
    → ((image_b script : Option (List ℕ)) → a ≡ campaigns_answer (Some image_a) image_b script) → Gives held (Some (plays_two name_a name_b script_name)) a
by_first None name_a name_b script_name image_a a source is = (image_a, [], [], is (Some []) (Some []))
by_first (Some h) name_a name_b script_name image_a a source is =
    is (h name_b) (h script_name) ∙ ap (λ (i : Option (List ℕ)). campaigns_answer i (h name_b) (h script_name)) (sym source)

-- for both images, whatever the script
by_second : (held : Option Held) (name_a name_b script_name image_a image_b : List ℕ) (a : Answer) → IsSource held name_a image_limit image_a
    → IsSource held name_b image_limit image_b → ((script : Option (List ℕ)) → a ≡ campaigns_answer (Some image_a) (Some image_b) script)
    → Gives held (Some (plays_two name_a name_b script_name)) a
by_second None name_a name_b script_name image_a image_b a first second is = (image_a, image_b, [], is (Some []))
by_second (Some h) name_a name_b script_name image_a image_b a first second is =
    is (h script_name) ∙ ap (λ (i : Option (List ℕ)). campaigns_answer (Some image_a) i (h script_name)) (sym second)
    ∙ ap (λ (i : Option (List ℕ)). campaigns_answer i (h name_b) (h script_name)) (sym first)

-- of all three
by_third : (held : Option Held) (name_a name_b script_name image_a image_b script : List ℕ) (a : Answer) → IsSource held name_a image_limit image_a
    → IsSource held name_b image_limit image_b → IsSource held script_name 1048576 script → a ≡ campaigns_answer (Some image_a) (Some image_b) (Some script)
    → Gives held (Some (plays_two name_a name_b script_name)) a
by_third None name_a name_b script_name image_a image_b script a first second third is = (image_a, image_b, script, is)
by_third (Some h) name_a name_b script_name image_a image_b script a first second third is =
    is ∙ ap (λ (s : Option (List ℕ)). campaigns_answer (Some image_a) (Some image_b) s) (sym third)
    ∙ ap (λ (i : Option (List ℕ)). campaigns_answer (Some image_a) i (h script_name)) (sym second)
    ∙ ap (λ (i : Option (List ℕ)). campaigns_answer i (h name_b) (h script_name)) (sym first)

-- after the first image: the answer of the second one, and of the script
abbrev behind_first : (image_b script : Option (List ℕ)) → List ℕ → Answer
behind_first image_b script a = behind_image image_b (λ b. pair_script_answer a b script)

-- a first image that is too long, and one that is no image file
pub gives_first_long : (held : Option Held) (name_a name_b script_name : List ℕ) → HoldsName held name_a
    → IsTooLong held name_a image_limit → Gives held (Some (plays_two name_a name_b script_name)) (too_long image_limit)
unfolding campaigns_answer
gives_first_long held name_a name_b script_name holds long =
    let is = long_source held name_a image_limit holds long in
    by_first held name_a name_b script_name is.0 (too_long image_limit) is.2 (λ image_b script. image_long is.0 (behind_first image_b script) is.1)

pub gives_first_refused : (held : Option Held) (name_a name_b script_name image_a : List ℕ) → IsSource held name_a image_limit image_a
    → length image_a ≤ image_limit → is_image image_a ≡ false → Gives held (Some (plays_two name_a name_b script_name)) image_refused
unfolding campaigns_answer
gives_first_refused held name_a name_b script_name image_a source within bad =
    by_first held name_a name_b script_name image_a image_refused source
    (λ image_b script. image_given_refused image_a (behind_first image_b script) within bad)

-- after a first image file
first_given : (held : Option Held) (name_a image_a : List ℕ) (image_b script : Option (List ℕ)) → IsImageRead held name_a image_a
    → behind_image image_b (λ b. pair_script_answer image_a b script) ≡ campaigns_answer (Some image_a) image_b script
unfolding campaigns_answer
first_given held name_a image_a image_b script read = image_given held name_a image_a (behind_first image_b script) read

-- a second image that is too long, and one that is no image file
pub gives_second_long : (held : Option Held) (name_a name_b script_name image_a : List ℕ) → IsImageRead held name_a image_a → HoldsName held name_b
    → IsTooLong held name_b image_limit → Gives held (Some (plays_two name_a name_b script_name)) (too_long image_limit)
gives_second_long held name_a name_b script_name image_a read holds long =
    let is = long_source held name_b image_limit holds long in
    by_second held name_a name_b script_name image_a is.0 (too_long image_limit) read.source is.2
    (λ script. image_long is.0 (λ b. pair_script_answer image_a b script) is.1 ∙ first_given held name_a image_a (Some is.0) script read)

pub gives_second_refused : (held : Option Held) (name_a name_b script_name image_a image_b : List ℕ) → IsImageRead held name_a image_a
    → IsSource held name_b image_limit image_b → length image_b ≤ image_limit → is_image image_b ≡ false
    → Gives held (Some (plays_two name_a name_b script_name)) image_refused
gives_second_refused held name_a name_b script_name image_a image_b read source within bad =
    by_second held name_a name_b script_name image_a image_b image_refused read.source source
    (λ script. image_given_refused image_b (λ b. pair_script_answer image_a b script) within bad ∙ first_given held name_a image_a (Some image_b) script read)

-- after both image files
both_given : (held : Option Held) (name_a name_b image_a image_b : List ℕ) (script : Option (List ℕ)) → IsImageRead held name_a image_a
    → IsImageRead held name_b image_b → pair_script_answer image_a image_b script ≡ campaigns_answer (Some image_a) (Some image_b) script
both_given held name_a name_b image_a image_b script first second =
    image_given held name_b image_b (λ b. pair_script_answer image_a b script) second ∙ first_given held name_a image_a (Some image_b) script first

long_pair : (image_a image_b script : List ℕ) → 1048576 < length script → too_long 1048576 ≡ pair_script_answer image_a image_b (Some script)
unfolding pair_script_answer
long_pair image_a image_b script long = script_long script (λ bytes. played pair_answer (campaigns_in image_a image_b bytes)) long

short_pair : (image_a image_b script : List ℕ) → length script ≤ 1048576
    → played pair_answer (campaigns_in image_a image_b script) ≡ pair_script_answer image_a image_b (Some script)
unfolding pair_script_answer
short_pair image_a image_b script within = script_given script (λ bytes. played pair_answer (campaigns_in image_a image_b bytes)) within

-- a script of two that is too long, and one that was read
pub gives_pair_long : (held : Option Held) (name_a name_b script_name image_a image_b : List ℕ) → IsImageRead held name_a image_a
    → IsImageRead held name_b image_b → HoldsName held script_name → IsTooLong held script_name 1048576
    → Gives held (Some (plays_two name_a name_b script_name)) (too_long 1048576)
gives_pair_long held name_a name_b script_name image_a image_b first second holds long =
    let is = long_source held script_name 1048576 holds long in
    by_third held name_a name_b script_name image_a image_b is.0 (too_long 1048576) first.source second.source is.2
    (long_pair image_a image_b is.0 is.1 ∙ both_given held name_a name_b image_a image_b (Some is.0) first second)

pub gives_pair : (held : Option Held) (name_a name_b script_name image_a image_b script : List ℕ) (a : Answer) → IsImageRead held name_a image_a
    → IsImageRead held name_b image_b → IsSource held script_name 1048576 script → length script ≤ 1048576
    → a ≡ played pair_answer (campaigns_in image_a image_b script) → Gives held (Some (plays_two name_a name_b script_name)) a
gives_pair held name_a name_b script_name image_a image_b script a first second source within is =
    by_third held name_a name_b script_name image_a image_b script a first.source second.source source
    (is ∙ short_pair image_a image_b script within ∙ both_given held name_a name_b image_a image_b (Some script) first second)

-- ---- after the script

-- the answer for two campaigns that were all read
told_of : (pair : PairState) (r : Result (List ℕ) LineError) (a : Answer) → IsPairReport pair r → IsTextAnswer r a
    → a ≡ played pair_answer (pair_end (Ok pair))
told_of pair (Ok text) a report said =
    said ∙ ap (λ (t : List ℕ). answer status.Done t) report.1 ∙ sym (ap (played pair_answer) report.0)
told_of pair (Err (error.Line fault)) a report said = said ∙ sym (ap (played pair_answer) report)
told_of pair (Err error.Memory) a report said = absurd said

-- the answer after the lines that a pair has heard: its report, or the first refused line
told_behind : (held : HeldPair) (r : Result (List ℕ) LineError) (so_far : Result PairState LineFault) (a : Answer)
    → ((pair : PairState) → PairStands held pair → held.kept ≡ None → IsPairReport pair r)
    → ((e : LineError) → held.kept ≡ Some e → r ≡ Err e) → PairIsIf held so_far → IsTextAnswer r a
    → a ≡ played pair_answer (pair_end so_far)
told_behind held r so_far a reports same (inl memory) said =
    absurd (subst (λ (x : Result (List ℕ) LineError). IsTextAnswer x a) (same error.Memory memory) said)
told_behind held r (Err fault) a reports same (inr kept) said =
    subst (λ (x : Result (List ℕ) LineError). IsTextAnswer x a) (same (error.Line fault) kept) said
told_behind held r (Ok pair) a reports same (inr stands) said = told_of pair r a (reports pair stands.1 stands.0) said

pub pair_told : (held : HeldPair) (image_a image_b script : List ℕ) (r : Result (List ℕ) LineError) (a : Answer)
    → ((pair : PairState) → PairStands held pair → held.kept ≡ None → IsPairReport pair r)
    → ((e : LineError) → held.kept ≡ Some e → r ≡ Err e)
    → PairIsIf held (read_pair_lines (Ok (first_pair image_a image_b)) (lines_of script)) → IsTextAnswer r a
    → (a ≡ played pair_answer (campaigns_in image_a image_b script)) × IsMade a
unfolding campaigns_of
pair_told held image_a image_b script r a reports same behind said = (
  told_behind held r (read_pair_lines (Ok (first_pair image_a image_b)) (lines_of script)) a reports same behind said,
  text_made r a said,
)
