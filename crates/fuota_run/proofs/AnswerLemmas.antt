-- What the program answers to a source that was read, or was not.
use Rattle.std.proofs.Common.{◌≡◌, ◌≢◌, ◌⊎◌, inl, inr, ℕ, ◌+◌, ◌<◌, ◌≤◌, Bool, true, false, nat_lt, List, [], length, replicate, Option, None, Some, IsSome, IfSome, Result, Ok, Err, IfOk, refl, sym, ap, subst, ◌∙◌, arith}
use Rattle.std.proofs.lemmas.Bool.{lt-ltb, le-ltb}
use Rattle.std.proofs.lemmas.List.{length-replicate}
use Rattle.std.specs.Io.KnownBytes.{IsAtEnd, Appends}
use Rattle.fuota_run.specs.declared.images.ImageError.{ImageError}
use Rattle.fuota_run.specs.declared.images.ImageError.TheVariants.{Unread, Refused}
use Rattle.fuota_run.specs.declared.source.SourceError.{SourceError}
use Rattle.fuota_run.specs.declared.source.SourceError.TheVariants as error
use Rattle.fuota_run.specs.declared.status.Status.{Status}
use Rattle.fuota_run.specs.declared.status.Status.TheVariants as status
use Rattle.fuota_run.specs.Outside.{Held, HoldsName, HasRisen, AppendsFront}
use Rattle.fuota_run.specs.Source.{IsSource, IsTaken, IsTooLong, IsTakenOf}
use Rattle.image_slots.specs.Image.{is_image}
use Rattle.fuota_run.specs.Limits.{image_limit}
use Rattle.campaign_world.specs.Script.{campaign_of}
use Rattle.report_lines.specs.declared.faults.LineFault.{LineFault}
use Rattle.report_lines.specs.declared.faults.LineError.{LineError}
use Rattle.report_lines.specs.declared.faults.LineError.TheVariants as world
use Rattle.campaign_world.specs.World.{WorldState}
use Rattle.campaign_world.specs.Said.{said_in}
use Rattle.campaign_world.specs.declared.recovery.NoFile.{NoFile}
use Rattle.campaign_world.specs.Recovery.{recovery}
use Rattle.fuota_run.specs.declared.forms.ScriptForm.{ScriptForm}
use Rattle.fuota_run.specs.declared.forms.ScriptForm.TheVariants.{Campaign, Recover}
use Rattle.fuota_run.specs.declared.forms.FileForm.{FileForm}
use Rattle.fuota_run.specs.Words.{Invocation, plays, payloads, generates, plays_two, asked, asks_files}
use Rattle.report_lines.specs.Lines.{FileText, IsFileText}
use Rattle.fuota_run.specs.Answer.{Answer, answer, read_fault, usage, image_refused, too_long, taken_text, recovered, world_answer, summary_answer, played, file_text, text_answer, behind_image, behind_script, script_answer, campaign_answer, generate_answer, IsFileAnswer, IsAnswer}
use Rattle.fuota_run.specs.Ending.{OutsideFiles, HoldsInvocation, HoldsForm, Gives, Effects, Ends, AppendsAnswer, AppendsAnswerFront, IsPlayed, HasText, IsCaused, IsReadUp, IsImageRead, IsSoundAnswer, IsSoundOver, ends_source}
use Rattle.fuota_run.specs.HeldAnswer.{IsUnreadAnswer, IsMadeOf, IsTextAnswer, IsImageFault, IsImageAnswer}

-- where nothing is known of the files, nothing is asked of their names
none_asked : (what : Option Invocation) → HoldsInvocation None what
none_asked None = tt
none_asked (Some (plays what image script)) = (tt, tt)
none_asked (Some (payloads what file)) = tt
none_asked (Some (generates seed)) = tt
none_asked (Some (plays_two image_a image_b script)) = (tt, tt, tt)

pub holds_asked : (held : Option Held) (words : List (List ℕ)) → HoldsForm held words → HoldsInvocation held (asked words)
holds_asked None words holds = none_asked (asked words)
holds_asked (Some h) words holds = holds

-- a script that is too long
pub script_long : (script : List ℕ) (told : List ℕ → Answer) → 1048576 < length script → too_long 1048576 ≡ behind_script (Some script) told
script_long script told long = let t : nat_lt 1048576 (length script) ≡ true = lt-ltb _ _ long in rw t refl

-- one within its limit
pub script_given : (script : List ℕ) (told : List ℕ → Answer) → length script ≤ 1048576 → told script ≡ behind_script (Some script) told
script_given script told within = let t : nat_lt 1048576 (length script) ≡ false = le-ltb _ _ within in rw t refl

-- an image that is too long
pub image_long : (image : List ℕ) (behind : List ℕ → Answer) → image_limit < length image → too_long image_limit ≡ behind_image (Some image) behind
image_long image behind long = let t : nat_lt image_limit (length image) ≡ true = lt-ltb _ _ long in rw t refl

-- one that is no image file
pub image_given_refused : (image : List ℕ) (behind : List ℕ → Answer) → length image ≤ image_limit → is_image image ≡ false → image_refused ≡ behind_image (Some image) behind
image_given_refused image behind within bad = let t : nat_lt image_limit (length image) ≡ false = le-ltb _ _ within in rw (t, bad) refl

-- and one that is
pub image_given : (held : Option Held) (name image : List ℕ) (behind : List ℕ → Answer) → IsImageRead held name image → behind image ≡ behind_image (Some image) behind
image_given held name image behind read =
    let t : nat_lt image_limit (length image) ≡ false = le-ltb _ _ read.within in
    rw (t, read.file) refl

-- an answer that holds of every Ok
pub if_ok_map : {T E : Type 0} {P Q : T → Type 0} (r : Result T E) → ((x : T) → P x → Q x) → IfOk r P → IfOk r Q
if_ok_map (Ok x) turns holds = turns x holds
if_ok_map (Err e) turns holds = tt

-- an answer that whole files made, or a seed
pub record IsMade (a : Answer) : Type 0 where
  pub has_text : HasText a.status
  pub sound : a.status ≢ status.ReadFault
  pub used : a.status ≢ status.Usage
  pub short : (taken : ℕ) → a.status ≢ status.TooLong taken

-- the answer with what a script made
recovered_made : (device : ℕ) (r : Result (List ℕ) NoFile) → IsMade (recovered device r)
recovered_made device (Ok file) = record { has_text = tt; sound = λ e. cc; used = λ e. cc; short = λ taken e. cc }
recovered_made device (Err why) = record { has_text = tt; sound = λ e. cc; used = λ e. cc; short = λ taken e. cc }

pub world_made : (what : ScriptForm) (w : WorldState) → IsMade (world_answer what w)
world_made Campaign w = record { has_text = tt; sound = λ e. cc; used = λ e. cc; short = λ taken e. cc }
world_made (Recover device) w = recovered_made device (recovery w device)

pub summed_made : (seed : ℕ) (w : WorldState) → IsMade (summary_answer seed w)
summed_made seed w = record { has_text = tt; sound = λ e. cc; used = λ e. cc; short = λ taken e. cc }

pub says_played : (tell : WorldState → Answer) (outcome : Result WorldState LineFault) (r : Result Answer LineError) (a : Answer)
    → ((w : WorldState) → IsMade (tell w)) → IsPlayed tell outcome r → IsMadeOf r a → (a ≡ played tell outcome) × IsMade a
says_played tell outcome (Ok x) a each made said =
    let is : a ≡ tell made.0 = said ∙ made.2 in (
      is ∙ sym (ap (played tell) made.1),
      subst IsMade (sym is) (each made.0),
    )
says_played tell outcome (Err (world.Line fault)) a each made said = (
  said ∙ sym (ap (played tell) made),
  subst IsMade (sym said) (record { has_text = tt; sound = λ e. cc; used = λ e. cc; short = λ taken e. cc }),
)
says_played tell outcome (Err world.Memory) a each made said = absurd said

-- and with what a file made
pub text_made : (r : Result (List ℕ) LineError) (a : Answer) → IsTextAnswer r a → IsMade a
text_made (Ok text) a said = subst IsMade (sym said) (record { has_text = tt; sound = λ e. cc; used = λ e. cc; short = λ taken e. cc })
text_made (Err (world.Line fault)) a said = subst IsMade (sym said) (record { has_text = tt; sound = λ e. cc; used = λ e. cc; short = λ taken e. cc })
text_made (Err world.Memory) a said = absurd said

pub says_text : (Tells : FileText) (file : List ℕ) (r : Result (List ℕ) LineError) (a : Answer) → IsFileText Tells file r → IsTextAnswer r a
    → ((said : Result (List ℕ) LineFault) × Tells file said × (a ≡ text_answer said)) × IsMade a
says_text Tells file (Ok text) a made said = ((Ok text, made, said), text_made (Ok text) a said)
says_text Tells file (Err (world.Line fault)) a made said = ((Err fault, made, said), text_made (Err (world.Line fault)) a said)
says_text Tells file (Err world.Memory) a made said = absurd said

-- a file of payloads that is too long
pub file_long : (Tells : FileText) (file : List ℕ) → 1048576 < length file → IsFileAnswer Tells (Some file) (too_long 1048576)
unfolding IsFileAnswer
file_long Tells file long = let t : nat_lt 1048576 (length file) ≡ true = lt-ltb _ _ long in rw t refl

-- one within its limit
pub file_given : (Tells : FileText) (file : List ℕ) (a : Answer) → length file ≤ 1048576 → ((said : Result (List ℕ) LineFault) × Tells file said × (a ≡ text_answer said))
    → IsFileAnswer Tells (Some file) a
unfolding IsFileAnswer
file_given Tells file a within said = let t : nat_lt 1048576 (length file) ≡ false = le-ltb _ _ within in rw t said

pub refused_made : IsMade image_refused
refused_made = record { has_text = tt; sound = λ e. cc; used = λ e. cc; short = λ taken e. cc }

-- ---- answers to a form

-- a form with files is one
no_files : (what : Option Invocation) → asks_files what ≡ true → what ≢ None
no_files None asks none = absurd cc
no_files (Some what) asks none = absurd cc

-- what is said where a source was not read
pub sound_unread : (what : Option Invocation) (files : OutsideFiles) (limit : ℕ) (e : SourceError) (a : Answer) → asks_files what ≡ true
    → ((n : ℕ) → e ≡ error.TooLong n → Gives files.held what (too_long limit)) → ((n : ℕ) → e ≡ error.TooLong n → n ≡ limit + 1)
    → ((n : ℕ) → e ≡ error.TooLong n → IsTakenOf files.held what n files.left)
    → (e ≡ error.Failed → HasRisen files.before files.after) → (e ≢ error.Failed → files.after ≡ files.before)
    → IsUnreadAnswer e a → IsSoundAnswer what files a
sound_unread what files limit error.Memory a asks gives count took failed quiet is = absurd is
sound_unread what files limit error.Failed a asks gives count took failed quiet is =
    let s : a.status ≡ status.ReadFault = ap (λ (x : Answer). x.status) is in
    record {
      answered = inr (is, failed refl);
      has_text = subst (λ (x : Answer). HasText x.status) (sym is) tt;
      caused = λ _. (failed refl, is);
      quiet = λ other. absurd (other s);
      read_up = subst (λ (b : Bool). IsReadUp b a.status files.left) (sym asks) (λ ends. absurd (let t = ap ends_source s in cc));
      usage = (λ used. absurd cc, λ none. absurd (no_files what asks none));
      taken = λ n long. absurd cc;
    }
sound_unread what files limit (error.TooLong n) a asks gives count took failed quiet is =
    let here : a ≡ too_long limit = is ∙ ap (λ m. answer (status.TooLong m) (taken_text m)) (count n refl) in
    let s : a.status ≡ status.TooLong (limit + 1) = ap (λ (x : Answer). x.status) here in
    record {
      answered = inl (subst (λ (x : Answer). Gives files.held what x) (sym here) (gives n refl));
      has_text = subst (λ (x : Answer). HasText x.status) (sym here) tt;
      caused = λ fault. absurd cc;
      quiet = λ other. quiet (λ e. cc);
      read_up = subst (λ (b : Bool). IsReadUp b a.status files.left) (sym asks) (λ ends. absurd (let t = ap ends_source s in cc));
      usage = (λ used. absurd cc, λ none. absurd (no_files what asks none));
      taken = λ m long.
          let t : a.status ≡ status.TooLong n = ap (λ (x : Answer). x.status) is in
          let same : n ≡ m = cc in
          subst (λ k. IsTakenOf files.held what k files.left) same (took n refl);
    }

-- and where all were read to their end
pub sound_read : (what : Option Invocation) (files : OutsideFiles) (a : Answer) → asks_files what ≡ true → Gives files.held what a → IsMade a
    → IsAtEnd files.left → files.after ≡ files.before → IsSoundAnswer what files a
sound_read what files a asks gives made ends quiet = record {
  answered = inl gives;
  has_text = made.has_text;
  caused = λ fault. absurd (made.sound fault);
  quiet = λ other. quiet;
  read_up = subst (λ (b : Bool). IsReadUp b a.status files.left) (sym asks) (λ _. ends);
  usage = (λ used. absurd (made.used used), λ none. absurd (no_files what asks none));
  taken = λ n long. absurd (made.short n long);
}

-- where an image was not taken
pub sound_image : (what : Option Invocation) (files : OutsideFiles) (name : List ℕ) (e : ImageError) (a : Answer) → asks_files what ≡ true
    → (IsTooLong files.held name image_limit → Gives files.held what (too_long image_limit))
    → ((image : List ℕ) → IsSource files.held name image_limit image → length image ≤ image_limit → is_image image ≡ false → Gives files.held what image_refused)
    → ((n : ℕ) → IsTaken files.held name n files.left → IsTakenOf files.held what n files.left)
    → IsImageFault files name e → IsImageAnswer e a → IsSoundAnswer what files a
sound_image what files name (Unread e) a asks long refused took fault is =
    sound_unread what files image_limit e a asks (λ n t. long (fault.long n t)) fault.count (λ n t. took n (fault.taken n t)) fault.failed fault.quiet is
sound_image what files name Refused a asks long refused took fault is =
    sound_read what files a asks
    (subst (λ (x : Answer). Gives files.held what x) (sym is) (refused fault.bytes fault.source fault.within fault.other))
    (subst IsMade (sym is) refused_made) fault.end fault.quiet

-- an answer after a call that left the files as they were, and their count
pub sound_behind : (what : Option Invocation) (held now : Option Held) (before then after : ℕ) (left : Option (List ℕ)) (a : Answer)
    → now ≡ held → then ≡ before → IsSoundOver now then after left what a → IsSoundOver held before after left what a
sound_behind what held now before then after left a same quiet sound =
    subst (λ (h : Option Held). IsSoundOver h before after left what a) same
    (subst (λ (n : ℕ). IsSoundOver now n after left what a) quiet sound)

pub image_behind : (held now : Option Held) (name image : List ℕ) → now ≡ held → IsImageRead held name image → IsImageRead now name image
image_behind held now name image same read = subst (λ (h : Option Held). IsImageRead h name image) (sym same) read

-- where nothing is asked for
pub sound_usage : (files : OutsideFiles) (a : Answer) → files.after ≡ files.before → a ≡ usage → IsSoundAnswer None files a
sound_usage files a quiet is =
    let s : a.status ≡ status.Usage = ap (λ (x : Answer). x.status) is in
    record {
      answered = inl (given files.held);
      has_text = subst (λ (x : Answer). HasText x.status) (sym is) tt;
      caused = λ fault. absurd cc;
      quiet = λ other. quiet;
      read_up = tt;
      usage = (λ used. refl, λ none. s);
      taken = λ n long. absurd cc;
    }
  where
    given : (h : Option Held) → Gives h None a
    given None = is
    given (Some h) = is

-- and for a seed
pub sound_generated : (seed : ℕ) (files : OutsideFiles) (a : Answer) → files.after ≡ files.before
    → (a ≡ generate_answer seed) × IsMade a → IsSoundAnswer (Some (generates seed)) files a
sound_generated seed files a quiet made = record {
  answered = inl (given files.held);
  has_text = made.1.has_text;
  caused = λ fault. absurd (made.1.sound fault);
  quiet = λ other. quiet;
  read_up = tt;
  usage = (λ used. absurd (made.1.used used), λ none. absurd cc);
  taken = λ n long. absurd (made.1.short n long);
}
  where
    given : (h : Option Held) → Gives h (Some (generates seed)) a
    given None = made.0
    given (Some h) = made.0

-- ---- the answers that they give

-- a source that is too long holds so many bytes, or nothing is known of it
pub long_source : (held : Option Held) (name : List ℕ) (limit : ℕ) → HoldsName held name → IsTooLong held name limit
    → (bytes : List ℕ) × (limit < length bytes) × IsSource held name limit bytes
long_source None name limit holds long =
    let more : limit < length (replicate {A = ℕ} (limit + 1) 0) = omega (arith, length-replicate {A = ℕ} (limit + 1) 0) in
    (replicate (limit + 1) 0, more, tt)
long_source (Some h) name limit holds long = by_file (h name) refl holds long
  where
    by_file : (file : Option (List ℕ)) → h name ≡ file → IsSome file → IfSome file (λ bytes. limit < length bytes)
        → (bytes : List ℕ) × (limit < length bytes) × (h name ≡ Some bytes)
    by_file None is some long = absurd cc
    by_file (Some bytes) is some long = (bytes, long, is)

long_campaign : (what : ScriptForm) (image : List ℕ) (script : Option (List ℕ)) → image_limit < length image → too_long image_limit ≡ campaign_answer what (Some image) script
unfolding campaign_answer
long_campaign what image script long = image_long image (λ bytes. script_answer what bytes script) long

refused_campaign : (what : ScriptForm) (image : List ℕ) (script : Option (List ℕ)) → length image ≤ image_limit → is_image image ≡ false
    → image_refused ≡ campaign_answer what (Some image) script
unfolding campaign_answer
refused_campaign what image script within bad = image_given_refused image (λ bytes. script_answer what bytes script) within bad

image_campaign : (held : Option Held) (what : ScriptForm) (name image : List ℕ) (script : Option (List ℕ)) → IsImageRead held name image
    → script_answer what image script ≡ campaign_answer what (Some image) script
unfolding campaign_answer
image_campaign held what name image script read = image_given held name image (λ bytes. script_answer what bytes script) read

long_script : (what : ScriptForm) (image script : List ℕ) → 1048576 < length script → too_long 1048576 ≡ script_answer what image (Some script)
unfolding script_answer
long_script what image script long = script_long script (λ bytes. played (world_answer what) (campaign_of image (said_in bytes))) long

short_script : (what : ScriptForm) (image script : List ℕ) → length script ≤ 1048576
    → played (world_answer what) (campaign_of image (said_in script)) ≡ script_answer what image (Some script)
unfolding script_answer
short_script what image script within = script_given script (λ bytes. played (world_answer what) (campaign_of image (said_in bytes))) within

-- for an image, whatever the script
by_image : (held : Option Held) (what : ScriptForm) (image_name script_name image : List ℕ) (limit : ℕ) (a : Answer)
    → IsSource held image_name limit image → ((script : Option (List ℕ)) → a ≡ campaign_answer what (Some image) script)
    → Gives held (Some (plays what image_name script_name)) a
by_image None what image_name script_name image limit a source is = (image, [], is (Some []))
by_image (Some h) what image_name script_name image limit a source is =
    is (h script_name) ∙ ap (λ (i : Option (List ℕ)). campaign_answer what i (h script_name)) (sym source)

-- of both
by_both : (held : Option Held) (what : ScriptForm) (image_name script_name image script : List ℕ) (limit : ℕ) (a : Answer)
    → IsSource held image_name image_limit image → IsSource held script_name limit script
    → a ≡ campaign_answer what (Some image) (Some script) → Gives held (Some (plays what image_name script_name)) a
by_both None what image_name script_name image script limit a image_is script_is is = (image, script, is)
by_both (Some h) what image_name script_name image script limit a image_is script_is is =
    is ∙ ap (λ (i : Option (List ℕ)). campaign_answer what i (Some script)) (sym image_is)
    ∙ ap (λ (s : Option (List ℕ)). campaign_answer what (h image_name) s) (sym script_is)

-- an image that is too long, and one that is no image file
pub gives_image_long : (held : Option Held) (what : ScriptForm) (image_name script_name : List ℕ) → HoldsName held image_name
    → IsTooLong held image_name image_limit → Gives held (Some (plays what image_name script_name)) (too_long image_limit)
gives_image_long held what image_name script_name holds long =
    let is = long_source held image_name image_limit holds long in
    by_image held what image_name script_name is.0 image_limit (too_long image_limit) is.2 (λ script. long_campaign what is.0 script is.1)

pub gives_image_refused : (held : Option Held) (what : ScriptForm) (image_name script_name image : List ℕ)
    → IsSource held image_name image_limit image → length image ≤ image_limit → is_image image ≡ false
    → Gives held (Some (plays what image_name script_name)) image_refused
gives_image_refused held what image_name script_name image source within bad =
    by_image held what image_name script_name image image_limit image_refused source (λ script. refused_campaign what image script within bad)

-- after an image file: a script that is too long, and one that was read
pub gives_script_long : (held : Option Held) (what : ScriptForm) (image_name script_name image : List ℕ) → IsImageRead held image_name image
    → HoldsName held script_name → IsTooLong held script_name 1048576
    → Gives held (Some (plays what image_name script_name)) (too_long 1048576)
gives_script_long held what image_name script_name image read holds long =
    let is = long_source held script_name 1048576 holds long in
    by_both held what image_name script_name image is.0 1048576 (too_long 1048576) read.source is.2
    (long_script what image is.0 is.1 ∙ image_campaign held what image_name image (Some is.0) read)

pub gives_script : (held : Option Held) (what : ScriptForm) (image_name script_name image script : List ℕ) (a : Answer)
    → IsImageRead held image_name image → IsSource held script_name 1048576 script → length script ≤ 1048576
    → a ≡ played (world_answer what) (campaign_of image (said_in script)) → Gives held (Some (plays what image_name script_name)) a
gives_script held what image_name script_name image script a read source within is =
    by_both held what image_name script_name image script 1048576 a read.source source
    (is ∙ short_script what image script within ∙ image_campaign held what image_name image (Some script) read)

-- a file of payloads that is too long, and one that was read
gives_file : (held : Option Held) (form : FileForm) (name file : List ℕ) (a : Answer) → IsSource held name 1048576 file
    → IsFileAnswer (file_text form) (Some file) a → Gives held (Some (payloads form name)) a
gives_file None form name file a source is = (file, is)
gives_file (Some h) form name file a source is = subst (λ (f : Option (List ℕ)). IsFileAnswer (file_text form) f a) (sym source) is

pub gives_file_long : (held : Option Held) (form : FileForm) (name : List ℕ) → HoldsName held name → IsTooLong held name 1048576
    → Gives held (Some (payloads form name)) (too_long 1048576)
gives_file_long held form name holds long =
    let is = long_source held name 1048576 holds long in
    gives_file held form name is.0 (too_long 1048576) is.2 (file_long (file_text form) is.0 is.1)

-- what is said after the lines of a file of payloads
pub sound_text : (form : FileForm) (files : OutsideFiles) (name file : List ℕ) (r : Result (List ℕ) LineError) (a : Answer)
    → IsSource files.held name 1048576 file → length file ≤ 1048576 → IsAtEnd files.left → files.after ≡ files.before
    → IsFileText (file_text form) file r → IsTextAnswer r a → IsSoundAnswer (Some (payloads form name)) files a
sound_text form files name file r a source within ends quiet made said =
    let told = says_text (file_text form) file r a made said in
    sound_read (Some (payloads form name)) files a refl
    (gives_file files.held form name file a source (file_given (file_text form) file a within told.0)) told.1 ends quiet

-- ---- a run that says it

-- what is written of an answer
appends_answer : (held : Option Held) (words : List (List ℕ)) (s : Status) (text : List ℕ) (old new : Option (List ℕ)) → Gives held (asked words) (answer s text) → HasText s → Appends old new text → AppendsAnswer held words s old new
unfolding IsAnswer
appends_answer None words s text old new gives told appends = (text, gives, appends)
appends_answer (Some h) words s text old new gives told appends = (answer s text, gives, refl, appends)

ends_by : (held : Option Held) (words : List (List ℕ)) (e : Effects) (s : Status) (text : List ℕ) → Gives held (asked words) (answer s text) → HasText s
    → IsCaused e.files_before e.files_after (answer s text) → Appends e.old e.new text → Ends held words e s
ends_by held words e status.Done text gives told caused appends = appends_answer held words status.Done text e.old e.new gives told appends
ends_by held words e status.Usage text gives told caused appends = appends_answer held words status.Usage text e.old e.new gives told appends
ends_by held words e status.ImageRefused text gives told caused appends = appends_answer held words status.ImageRefused text e.old e.new gives told appends
ends_by held words e status.ScriptRefused text gives told caused appends = appends_answer held words status.ScriptRefused text e.old e.new gives told appends
ends_by held words e status.NotComplete text gives told caused appends = appends_answer held words status.NotComplete text e.old e.new gives told appends
ends_by held words e (status.TooLong taken) text gives told caused appends = appends_answer held words (status.TooLong taken) text e.old e.new gives told appends
ends_by held words e status.ReadFault text gives told caused appends =
    let fault = caused refl in (fault.0, subst (λ (x : Answer). Appends e.old e.new x.text) fault.1 appends)
ends_by held words e status.WriteFault text gives told caused appends = absurd told
ends_by held words e status.Memory text gives told caused appends = absurd told

-- how a run ends whose text was written
pub ends_written : (held : Option Held) (words : List (List ℕ)) (e : Effects) (left : Option (List ℕ)) (a : Answer) → IsSoundAnswer (asked words) (record { held = held; before = e.files_before; after = e.files_after; left = left }) a → Appends e.old e.new a.text → Ends held words e a.status
ends_written held words e left a says appends =
    elim says.answered [
      | inl gives ↦ ends_by held words e a.status a.text gives says.has_text says.caused appends
      | inr fault ↦ subst (λ (x : Answer). Ends held words e x.status) (sym fault.0) (fault.1, subst (λ (x : Answer). Appends e.old e.new x.text) fault.0 appends)
    ]

-- where no call failed and memory sufficed, what was written is an answer
pub exact_of : (X Y : Type 0) (held : Option Held) (words : List (List ℕ)) (before now : ℕ) (left : Option (List ℕ)) (a : Answer) (old new : Option (List ℕ)) → IsSoundAnswer (asked words) (record { held = held; before = before; after = now; left = left }) a → Appends old new a.text
    → IfSome held (λ h. ¬ HasRisen before now → X → Y → AppendsAnswer (Some h) words a.status old new)
unfolding IsAnswer
exact_of X Y None words before now left a old new says appends = tt
exact_of X Y (Some h) words before now left a old new says appends = λ quiet sound enough.
    elim says.answered [
      | inl gives ↦ (a, gives, refl, appends)
      | inr fault ↦ absurd (quiet fault.1)
    ]

-- where writing failed, a front of it was
pub front_of : (held : Option Held) (words : List (List ℕ)) (before now : ℕ) (left : Option (List ℕ)) (a : Answer) (old new : Option (List ℕ)) → IsSoundAnswer (asked words) (record { held = held; before = before; after = now; left = left }) a → AppendsFront old new a.text
    → AppendsAnswerFront held words old new ⊎ (HasRisen before now × AppendsFront old new read_fault.text)
unfolding IsAnswer
front_of None words before now left a old new says front =
    elim says.answered [
      | inl gives ↦ inl (a, gives, front)
      | inr fault ↦ inr (fault.1, subst (λ (x : Answer). AppendsFront old new x.text) fault.0 front)
    ]
front_of (Some h) words before now left a old new says front =
    elim says.answered [
      | inl gives ↦ inl (a, gives, front)
      | inr fault ↦ inr (fault.1, subst (λ (x : Answer). AppendsFront old new x.text) fault.0 front)
    ]
