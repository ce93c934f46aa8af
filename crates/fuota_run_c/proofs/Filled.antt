-- The answer over the files alone, from answers where each name holds something: first more than any source may have, then nothing.
use Rattle.std.proofs.Common.{◌≡◌, ℕ, nat_lt, Bool, true, false, if◌then◌else◌, List, [], length, Option, None, Some, unwrap_or, Result, Ok, Err, refl, sym, ap, ◌∙◌}
use Rattle.fuota_run.specs.Answer.{Answer, IsAnswer, IsAnswerTo, IsFileAnswer, IsReadAnswer, behind_image, behind_script, campaign_answer, campaigns_answer, file_text, image_refused, pair_answer, pair_script_answer, played, read_fault, recovered, script_answer, text_answer, too_long, world_answer}
use Rattle.fuota_run.specs.Limits.{image_limit, script_limit}
use Rattle.fuota_run.specs.Memory.{Named, held_by}
use Rattle.fuota_run.specs.Words.{Invocation, plays, payloads, generates, plays_two, asked}
use Rattle.image_slots.specs.Image.{is_image, further, format_of}
use Rattle.fuota_run.specs.declared.forms.ScriptForm.{ScriptForm}
use Rattle.fuota_run.specs.declared.forms.ScriptForm.TheVariants.{Campaign, Recover}
use Rattle.campaign_world.specs.World.{WorldState}
use Rattle.campaign_world.specs.declared.recovery.NoFile.{NoFile}
use Rattle.campaign_world.specs.Recovery.{recovery}
use Rattle.campaign_world.specs.Said.{said_in}
use Rattle.campaign_world.specs.Script.{campaign_of}
use Rattle.report_lines.specs.declared.faults.LineFault.{LineFault}
use Rattle.report_lines.specs.Lines.{FileText}
use Rattle.fuota_run_c.specs.Given.{filled, is_too_long}

-- one byte more than any source may have
abbrev IsBeyond : List ℕ → Type 0
IsBeyond long = length long ≡ 1048577

beyond_script : (long : List ℕ) → IsBeyond long → nat_lt script_limit (length long) ≡ true
beyond_script long is = rw (is) refl

beyond_image : (long : List ℕ) → IsBeyond long → nat_lt image_limit (length long) ≡ true
beyond_image long is = rw (is) refl

no_image : is_image [] ≡ false
unfolding is_image further format_of
no_image = refl

-- x is the answer over the files alone, l and e those where other names hold more than any source may have, and nothing
record Settles (x l e : Answer) : Type 0 where
  short : is_too_long l.status ≡ false → x ≡ l
  long : is_too_long e.status ≡ true → x ≡ e
  absent : is_too_long l.status ≡ true → is_too_long e.status ≡ false → x ≡ read_fault

same : (a : Answer) → Settles a a a
same a = record { short = λ _. refl; long = λ _. refl; absent = λ is fits. absurd cc }

missing : (e : Answer) (limit : ℕ) → is_too_long e.status ≡ false → Settles read_fault (too_long limit) e
missing e limit fits = record { short = λ h. absurd cc; long = λ h. absurd cc; absent = λ _ _. refl }

either : (b : Bool) (x l e x' l' e' : Answer) → Settles x l e → Settles x' l' e' → Settles (if b then x else x') (if b then l else l') (if b then e else e')
either true x l e x' l' e' one other = one
either false x l e x' l' e' one other = other

image : (o : Option (List ℕ)) (long : List ℕ) (x l e : List ℕ → Answer) → IsBeyond long → ((b : List ℕ) → Settles (x b) (l b) (e b))
    → Settles (behind_image o x) (behind_image (Some (unwrap_or o long)) l) (behind_image (Some (unwrap_or o [])) e)
image None long x l e is each = rw (beyond_image long is, no_image) (missing image_refused image_limit refl)
image (Some b) long x l e is each =
    either (nat_lt image_limit (length b)) _ _ _ _ _ _ (same (too_long image_limit)) (either (is_image b) _ _ _ _ _ _ (each b) (same image_refused))

script : (o : Option (List ℕ)) (long : List ℕ) (x l e : List ℕ → Answer) → IsBeyond long → is_too_long (e []).status ≡ false → ((b : List ℕ) → Settles (x b) (l b) (e b))
    → Settles (behind_script o x) (behind_script (Some (unwrap_or o long)) l) (behind_script (Some (unwrap_or o [])) e)
script None long x l e is fits each = rw (beyond_script long is) (missing (e []) script_limit fits)
script (Some b) long x l e is fits each = either (nat_lt script_limit (length b)) _ _ _ _ _ _ (same (too_long script_limit)) (each b)

-- no campaign's answer is that a source is too long
recovered_short : (device : ℕ) (file : Result (List ℕ) NoFile) → is_too_long (recovered device file).status ≡ false
recovered_short device (Ok file) = refl
recovered_short device (Err why) = refl

world_short : (what : ScriptForm) (world : WorldState) → is_too_long (world_answer what world).status ≡ false
world_short Campaign world = refl
world_short (Recover device) world = recovered_short device (recovery world device)

played_short : {W : Type 0} (tell : W → Answer) → ((w : W) → is_too_long (tell w).status ≡ false) → (r : Result W LineFault) → is_too_long (played tell r).status ≡ false
played_short tell each (Ok w) = each w
played_short tell each (Err fault) = refl

of_script : (what : ScriptForm) (b : List ℕ) (o : Option (List ℕ)) (long : List ℕ) → IsBeyond long
    → Settles (script_answer what b o) (script_answer what b (Some (unwrap_or o long))) (script_answer what b (Some (unwrap_or o [])))
unfolding script_answer
of_script what b o long is =
    script o long _ _ _ is (played_short (world_answer what) (world_short what) (campaign_of b (said_in []))) (λ s. same _)

of_campaign : (what : ScriptForm) (i s : Option (List ℕ)) (long : List ℕ) → IsBeyond long
    → Settles (campaign_answer what i s) (campaign_answer what (Some (unwrap_or i long)) (Some (unwrap_or s long)))
    (campaign_answer what (Some (unwrap_or i [])) (Some (unwrap_or s [])))
unfolding campaign_answer
of_campaign what i s long is = image i long _ _ _ is (λ b. of_script what b s long is)

of_pair_script : (a b : List ℕ) (o : Option (List ℕ)) (long : List ℕ) → IsBeyond long
    → Settles (pair_script_answer a b o) (pair_script_answer a b (Some (unwrap_or o long))) (pair_script_answer a b (Some (unwrap_or o [])))
unfolding pair_script_answer
of_pair_script a b o long is = script o long _ _ _ is (played_short pair_answer (λ _. refl) _) (λ s. same _)

of_pair : (a b s : Option (List ℕ)) (long : List ℕ) → IsBeyond long
    → Settles (campaigns_answer a b s) (campaigns_answer (Some (unwrap_or a long)) (Some (unwrap_or b long)) (Some (unwrap_or s long)))
    (campaigns_answer (Some (unwrap_or a [])) (Some (unwrap_or b [])) (Some (unwrap_or s [])))
unfolding campaigns_answer
of_pair a b s long is = image a long _ _ _ is (λ x. image b long _ _ _ is (λ y. of_pair_script x y s long is))

-- the same of a file of payloads, whose answer is a relation
text_short : (said : Result (List ℕ) LineFault) → is_too_long (text_answer said).status ≡ false
text_short (Ok text) = refl
text_short (Err fault) = refl

read_short : (Tells : FileText) (b : Bool) (file : List ℕ) (a : Answer) → b ≡ false → IsReadAnswer Tells b file a → is_too_long a.status ≡ false
read_short Tells true file a fits is = absurd cc
read_short Tells false file a fits is = ap (λ (t : Answer). is_too_long t.status) is.2 ∙ text_short is.0

read_long : (Tells : FileText) (b : Bool) (file : List ℕ) (a : Answer) → b ≡ true → IsReadAnswer Tells b file a → is_too_long a.status ≡ true
read_long Tells true file a over is = ap (λ (t : Answer). is_too_long t.status) is
read_long Tells false file a over is = absurd cc

file_short : (Tells : FileText) (o : Option (List ℕ)) (long : List ℕ) (l : Answer) → IsBeyond long → IsFileAnswer Tells (Some (unwrap_or o long)) l
    → is_too_long l.status ≡ false → IsFileAnswer Tells o l
unfolding IsFileAnswer
file_short Tells None long l is answers fits = absurd (let over = read_long Tells _ long l (beyond_script long is) answers in cc)
file_short Tells (Some b) long l is answers fits = answers

file_long : (Tells : FileText) (o : Option (List ℕ)) (e : Answer) → IsFileAnswer Tells (Some (unwrap_or o [])) e → is_too_long e.status ≡ true → IsFileAnswer Tells o e
unfolding IsFileAnswer
file_long Tells None e answers over = absurd (let fits = read_short Tells _ [] e refl answers in cc)
file_long Tells (Some b) e answers over = answers

file_absent : (Tells : FileText) (o : Option (List ℕ)) (long : List ℕ) (l e : Answer) → IsFileAnswer Tells (Some (unwrap_or o long)) l → IsFileAnswer Tells (Some (unwrap_or o [])) e
    → is_too_long l.status ≡ true → is_too_long e.status ≡ false → IsFileAnswer Tells o read_fault
unfolding IsFileAnswer
file_absent Tells None long l e first second over fits = refl
file_absent Tells (Some b) long l e first second over fits = of_length (nat_lt script_limit (length b)) refl
  where
    of_length : (t : Bool) → nat_lt script_limit (length b) ≡ t → IsFileAnswer Tells (Some b) read_fault
    of_length true is = absurd (let other = read_long Tells _ b e is second in cc)
    of_length false is = absurd (let other = read_short Tells _ b l is first in cc)

-- ---- the answers to words

same_status : (a b : Answer) → a ≡ b → is_too_long a.status ≡ is_too_long b.status
same_status a b is = ap (λ (t : Answer). is_too_long t.status) is

to_short : (what : Option Invocation) (files : List Named) (long : List ℕ) (l : Answer) → IsBeyond long → IsAnswerTo what (filled files long) l
    → is_too_long l.status ≡ false → IsAnswerTo what (held_by files) l
to_short None files long l is answers fits = answers
to_short (Some (plays what i s)) files long l is answers fits =
    answers ∙ sym ((of_campaign what (held_by files i) (held_by files s) long is).short (sym (same_status _ _ answers) ∙ fits))
to_short (Some (payloads what f)) files long l is answers fits = file_short (file_text what) (held_by files f) long l is answers fits
to_short (Some (generates seed)) files long l is answers fits = answers
to_short (Some (plays_two a b s)) files long l is answers fits =
    answers ∙ sym ((of_pair (held_by files a) (held_by files b) (held_by files s) long is).short (sym (same_status _ _ answers) ∙ fits))

to_long : (what : Option Invocation) (files : List Named) (long : List ℕ) (e : Answer) → IsBeyond long → IsAnswerTo what (filled files []) e
    → is_too_long e.status ≡ true → IsAnswerTo what (held_by files) e
to_long None files long e is answers over = answers
to_long (Some (plays what i s)) files long e is answers over =
    answers ∙ sym ((of_campaign what (held_by files i) (held_by files s) long is).long (sym (same_status _ _ answers) ∙ over))
to_long (Some (payloads what f)) files long e is answers over = file_long (file_text what) (held_by files f) e answers over
to_long (Some (generates seed)) files long e is answers over = answers
to_long (Some (plays_two a b s)) files long e is answers over =
    answers ∙ sym ((of_pair (held_by files a) (held_by files b) (held_by files s) long is).long (sym (same_status _ _ answers) ∙ over))

to_absent : (what : Option Invocation) (files : List Named) (long : List ℕ) (l e : Answer) → IsBeyond long → IsAnswerTo what (filled files long) l
    → IsAnswerTo what (filled files []) e → is_too_long l.status ≡ true → is_too_long e.status ≡ false → IsAnswerTo what (held_by files) read_fault
to_absent None files long l e is first second over fits = absurd (let one = same_status _ _ first in cc)
to_absent (Some (plays what i s)) files long l e is first second over fits =
    sym ((of_campaign what (held_by files i) (held_by files s) long is).absent (sym (same_status _ _ first) ∙ over) (sym (same_status _ _ second) ∙ fits))
to_absent (Some (payloads what f)) files long l e is first second over fits =
    file_absent (file_text what) (held_by files f) long l e first second over fits
to_absent (Some (generates seed)) files long l e is first second over fits = absurd (let one = same_status _ _ first in let two = same_status _ _ second in cc)
to_absent (Some (plays_two a b s)) files long l e is first second over fits =
    sym ((of_pair (held_by files a) (held_by files b) (held_by files s) long is).absent (sym (same_status _ _ first) ∙ over) (sym (same_status _ _ second) ∙ fits))

pub answer_short : (words : List (List ℕ)) (files : List Named) (long : List ℕ) (l : Answer) → length long ≡ 1048577 → IsAnswer words (filled files long) l
    → is_too_long l.status ≡ false → IsAnswer words (held_by files) l
unfolding IsAnswer
answer_short words files long l is = to_short (asked words) files long l is

pub answer_long : (words : List (List ℕ)) (files : List Named) (long : List ℕ) (e : Answer) → length long ≡ 1048577 → IsAnswer words (filled files []) e
    → is_too_long e.status ≡ true → IsAnswer words (held_by files) e
unfolding IsAnswer
answer_long words files long e is = to_long (asked words) files long e is

pub answer_absent : (words : List (List ℕ)) (files : List Named) (long : List ℕ) (l e : Answer) → length long ≡ 1048577 → IsAnswer words (filled files long) l
    → IsAnswer words (filled files []) e → is_too_long l.status ≡ true → is_too_long e.status ≡ false → IsAnswer words (held_by files) read_fault
unfolding IsAnswer
answer_absent words files long l e is = to_absent (asked words) files long l e is
