-- What a campaign says of each session, whoever sent what reached its device.
use Rattle.std.proofs.Common.{◌≡◌, inl, inr, ◌<◌, ◌≤◌, ℕ, zero, suc, ◌+◌, ◌-◌, slice_get, Bool, true, false, cond, ◌==◌, min, List, [], ◌∷◌, ◌++◌, length, fold, drop, codes, Option, None, Some, IfSome, Ok, refl, sym, ap, ◌∙◌, subst, arith, bytes_eq}
use Rattle.std.proofs.lemmas.List.{length-take-le, append-nil, append_assoc}
use Rattle.std.specs.Prelude.{filter_map, option_to_list, take}
use Rattle.std.specs.Fmt.{decimal}
use Rattle.frag_model.specs.Fragments.{Fragment}
use Rattle.frag_session.specs.declared.answers.Verdict.{Verdict}
use Rattle.frag_session.specs.declared.answers.Verdict.TheVariants as verdict
use Rattle.frag_session.specs.Session.{Session, Seen, shape_of, seen_of, view_of}
use Rattle.frag_session.specs.HeldHistory.{IsSetUp}
use Rattle.frag_session.specs.FirstMoment.{MakesFile, IsWhole, FirstAt, IsDecidedAtFirst}
use Rattle.frag_session.proofs.FirstMoments.{decided_at_first}
use Rattle.cast_wire.specs.declared.cmd.Cmd.TheVariants.{DataFragment}
use Rattle.package_grammar.specs.declared.command.Command.{Command}
use Rattle.package_grammar.specs.declared.command.Command.TheVariants.{Cast}
use Rattle.package_grammar.specs.declared.downlink.Downlink.{Downlink}
use Rattle.device_core.specs.SessionTable.{session_at}
use Rattle.device_core.specs.Device.{DeviceState}
use Rattle.wire_base.specs.Numbered.{numbered}
use Rattle.script_lines.specs.declared.forms.Form.TheVariants.{Device, Wake, Migrate, Down, Raw, Air, RawAir}
use Rattle.campaign_world.specs.declared.numbered.SentPayload.{SentPayload}
use Rattle.campaign_world.specs.World.{WorldState}
use Rattle.campaign_world.specs.Said.{Own, Reached, Line}
use Rattle.campaign_server.specs.declared.plan.PlanGroup.{PlanGroup}
use Rattle.campaign_world.specs.Making.{raw_down, reception, sent_frame, hearing, device_of}
use Rattle.campaign_world.specs.Script.{campaign_of}
use Rattle.campaign_server.specs.declared.stage.Stage.{Stage}
use Rattle.campaign_server.specs.Server.{ledger}
use Rattle.report_lines.specs.Sessions.{same, same_word, verdict_text, session_text, session_line}
use Rattle.campaign_world.specs.Report.{report_of}
use Rattle.campaign_laws.specs.Told.{report_with_line}
use Rattle.campaign_laws.proofs.Told.{line_parted}
use Rattle.campaign_world.specs.Recovery.{file_by, file_of, recovery_by, recovery}
use Rattle.device_core.specs.Events.{Event, Wakes, Receives, HearsBytes, Migrates, after_event}
use Rattle.device_core.specs.Radio.{brought}
use Rattle.campaign_laws.specs.Independence.{device_in, first_devices, time_after, event_in, history_of, record_behind}
use Rattle.device_core.specs.Events.{CameInTurn}
use Rattle.campaign_laws.specs.Verdicts.{Carries, IsToldOf, IsSessionOf, Verdicts}
use Rattle.report_lines.specs.Sessions.{saying}
use Rattle.campaign_server.proofs.LineItems.{if_some, numbered_next, take_next, within}
use Rattle.campaign_laws.proofs.Independence.{devices_are_independent, folded}
use Rattle.device_core.proofs.HeardSessions.{IsFine, of_one, AreFine, AreCarried, ComesAt, fine_later, event_fine}

-- ---- what lines let happen

-- a payload, or bytes, come at their line, and at the time then
abbrev IsAt : (time n t line : ℕ) → Type 0
IsAt time n t line = (t ≡ time) × (line ≡ n)

-- when the event comes, and at which line; one that brings nothing, at any
abbrev ComesThen : (time n : ℕ) → Event → Type 0
ComesThen time n (Receives t v l down) = IsAt time n t l
ComesThen time n (HearsBytes t v l bytes) = IsAt time n t l
ComesThen time n event = Unit {0}

sent_then : (time word n : ℕ) (e : Event) (o : Option SentPayload) → reception time word n o ≡ Some e → ComesThen time n e
sent_then time word n e None is = absurd cc
sent_then time word n e (Some p) is =
    let same : Receives time word n p.down ≡ e = cc in subst (ComesThen time n) same (refl, refl)

frame_then : (time word n : ℕ) (e : Event) (o : Option (List ℕ)) → hearing time word n o ≡ Some e → ComesThen time n e
frame_then time word n e None is = absurd cc
frame_then time word n e (Some bytes) is =
    let same : HearsBytes time word n bytes ≡ e = cc in subst (ComesThen time n) same (refl, refl)

by_test : (time n : ℕ) (e : Event) (o : Option Event) (b : Bool) → (o ≡ Some e → ComesThen time n e) → cond b o None ≡ Some e
    → ComesThen time n e
by_test time n e o true here is = here is
by_test time n e o false here is = absurd cc

this_then : (time n : ℕ) (e one : Event) → ComesThen time n one → Some one ≡ Some e → ComesThen time n e
this_then time n e one then is = let same : one ≡ e = cc in subst (ComesThen time n) same then

at_its_line : (id : ℕ) (group : Option PlanGroup) (sent : List SentPayload) (time n : ℕ) (e : Event) (line : Line)
    → event_in id group sent time n line ≡ Some e → ComesThen time n e
at_its_line id group sent time n e (Ok (Own (Wake device))) is =
    by_test time n e (Some (Wakes time)) (device == id) (this_then time n e (Wakes time) tt) is
at_its_line id group sent time n e (Ok (Own (Migrate device))) is =
    by_test time n e (Some Migrates) (device == id) (this_then time n e Migrates tt) is
at_its_line id group sent time n e (Ok (Own (Down number device word))) is =
    by_test time n e (reception time word n (numbered sent number)) (device == id)
    (sent_then time word n e (numbered sent number)) is
at_its_line id group sent time n e (Ok (Own (Raw device port payload word))) is =
    let one : Event = Receives time word n (raw_down port payload) in
    by_test time n e (Some one) (device == id) (this_then time n e one (refl, refl)) is
at_its_line id group sent time n e (Ok (Own (Air number device word))) is =
    let frame : Option (List ℕ) = sent_frame group (numbered sent number) in
    by_test time n e (hearing time word n frame) (device == id) (frame_then time word n e frame) is
at_its_line id group sent time n e (Ok (Own (RawAir device bytes word))) is =
    let one : Event = HearsBytes time word n bytes in
    by_test time n e (Some one) (device == id) (this_then time n e one (refl, refl)) is
at_its_line id group sent time n e (Ok (Reached device word down)) is =
    let one : Event = Receives time word n down in
    by_test time n e (Some one) (device == id) (this_then time n e one (refl, refl)) is
at_its_line id group sent time n e line is = absurd cc

-- so its commands are carried by the line
carried_by : (lines : List Line) (group : Option PlanGroup) (sent : List SentPayload) (id time n t v l : ℕ) (down : Downlink)
    (line : Line) → numbered lines n ≡ Some line
    → event_in id group sent time n line ≡ Some (Receives t v l down) → IsAt time n t l
    → AreCarried (Carries lines group sent id) n down
carried_by lines group sent id time n t v l down line line_is is at cs message c among =
    let event = is ∙ ap (λ (x : ℕ). Some (Receives x v l down)) at.0 ∙ ap (λ (x : ℕ). Some (Receives time v x down)) at.1 in
    inl (line, time, v, down, cs, assumption (line_is, event, message, among))

-- and what is opened of its bytes
opened_by : (lines : List Line) (group : Option PlanGroup) (sent : List SentPayload) (id time n t v l : ℕ) (bytes : List ℕ)
    (line : Line) (d : DeviceState) → numbered lines n ≡ Some line
    → event_in id group sent time n line ≡ Some (HearsBytes t v l bytes) → IsAt time n t l
    → record_behind lines (take (n - 1) lines) group sent id ≡ Some d
    → (down : Downlink) → brought d bytes ≡ Ok down → AreCarried (Carries lines group sent id) n down
opened_by lines group sent id time n t v l bytes line d line_is is at here down opened cs message c among =
    let event = is ∙ ap (λ (x : ℕ). Some (HearsBytes x v l bytes)) at.0 ∙ ap (λ (x : ℕ). Some (HearsBytes time v x bytes)) at.1 in
    inr (line, time, v, bytes, d, down, cs, assumption (line_is, event, here, opened, message, among))

-- ---- a device after its lines

comes : (lines : List Line) (group : Option PlanGroup) (sent : List SentPayload) (id time n : ℕ) (line : Line)
    (d : DeviceState) (e : Event) → numbered lines n ≡ Some line → event_in id group sent time n line ≡ Some e
    → record_behind lines (take (n - 1) lines) group sent id ≡ Some d → ComesAt (Carries lines group sent id) n d e
comes lines group sent id time n line d (Wakes t) line_is is here = tt
comes lines group sent id time n line d Migrates line_is is here = tt
comes lines group sent id time n line d (Receives t v l down) line_is is here =
    let at = at_its_line id group sent time n (Receives t v l down) line is in
    (at.1, carried_by lines group sent id time n t v l down line line_is is at)
comes lines group sent id time n line d (HearsBytes t v l bytes) line_is is here =
    let at = at_its_line id group sent time n (HearsBytes t v l bytes) line is in
    (at.1, opened_by lines group sent id time n t v l bytes line d line_is is at here)

happens : (lines : List Line) (group : Option PlanGroup) (sent : List SentPayload) (id time k : ℕ) (line : Line)
    (d : DeviceState) (e : Event) → numbered lines (k + 1) ≡ Some line
    → event_in id group sent time (k + 1) line ≡ Some e
    → record_behind lines (take (k + 1 - 1) lines) group sent id ≡ Some d → AreFine (Carries lines group sent id) k d
    → AreFine (Carries lines group sent id) (k + 1) (after_event d e)
happens lines group sent id time k line d e line_is is here h =
    event_fine (Carries lines group sent id) k (k + 1) d e (omega arith)
    (comes lines group sent id time (k + 1) line d e line_is is here) h

-- ---- what lines let happen, one line more

-- the time after lines
times : (time : ℕ) → (lines : List Line) → ℕ
times time [] = time
times time (line ∷ lines) = times (time_after time line) lines

history_on : (id : ℕ) (group : Option PlanGroup) (sent : List SentPayload) (time n m : ℕ) (lines : List Line) (line : Line)
    → n + length lines ≡ m
    → history_of id group sent time n (lines ++ line ∷ [])
    ≡ history_of id group sent time n lines ++ option_to_list (event_in id group sent (times time lines) m line)
unfolding history_of times
history_on id group sent time n m [] line is =
    let same : n ≡ m = omega (arith, is) in
    append-nil _ ∙ ap (λ (k : ℕ). option_to_list (event_in id group sent time k line)) same
history_on id group sent time n m (x ∷ xs) line is =
    let rest = history_on id group sent (time_after time x) (n + 1) m xs line (omega (arith, is)) in
    ap (λ (events : List Event). option_to_list (event_in id group sent time n x) ++ events) rest
    ∙ sym (append_assoc (option_to_list (event_in id group sent time n x))
    (history_of id group sent (time_after time x) (n + 1) xs) _)

times_on : (time : ℕ) (lines : List Line) (line : Line)
    → times time (lines ++ line ∷ []) ≡ time_after (times time lines) line
unfolding times
times_on time [] line = refl
times_on time (x ∷ xs) line = times_on (time_after time x) xs line

-- a device after so many lines
record IsBehind (lines : List Line) (group : Option PlanGroup) (sent : List SentPayload) (id time k : ℕ) (d : DeviceState) : Type 0 where
  inside : k ≤ length lines
  time_is : time ≡ times 0 (take k lines)
  device_is : record_behind lines (take k lines) group sent id ≡ Some d
  fine : AreFine (Carries lines group sent id) k d

folds_on : (xs ys : List Event) (o : Option DeviceState) (d : DeviceState) → folded xs o ≡ Some d
    → folded (xs ++ ys) o ≡ Some (fold after_event d ys)
folds_on xs ys None d is = absurd cc
folds_on xs ys (Some x) d is =
    let here : fold after_event x xs ≡ d = cc in
    ap (λ (e : DeviceState). Some e) (fold_append xs ys x ∙ ap (λ (e : DeviceState). fold after_event e ys) here)
  where
    fold_append : (xs ys : List Event) (x : DeviceState)
        → fold after_event x (xs ++ ys) ≡ fold after_event (fold after_event x xs) ys
    fold_append [] ys x = refl
    fold_append (e ∷ xs) ys x = fold_append xs ys (after_event x e)

-- what comes of a line
line_fine_on : (lines : List Line) (group : Option PlanGroup) (sent : List SentPayload) (id time k : ℕ) (line : Line)
    (rest : List Line) (d : DeviceState) (o : Option Event) → drop k lines ≡ line ∷ rest
    → event_in id group sent time (k + 1) line ≡ o → IsBehind lines group sent id time k d
    → IsBehind lines group sent id (time_after time line) (k + 1) (fold after_event d (option_to_list o))
line_fine_on lines group sent id time k line rest d o left is b =
    let next = numbered_next lines k line rest left in
    let more : take (k + 1) lines ≡ take k lines ++ line ∷ [] =
    ap (λ (j : ℕ). take j lines) (let one : k + 1 ≡ suc k = omega arith in one) ∙ take_next lines k line rest left in
    let long : 1 + length (take k lines) ≡ k + 1 = taken_long lines k b.inside in
    let grown : history_of id group sent 0 1 (take (k + 1) lines)
    ≡ history_of id group sent 0 1 (take k lines) ++ option_to_list o =
    ap (λ (ls : List Line). history_of id group sent 0 1 ls) more
    ∙ history_on id group sent 0 1 (k + 1) (take k lines) line long
    ∙ ap (λ (t : ℕ). history_of id group sent 0 1 (take k lines) ++ option_to_list (event_in id group sent t (k + 1) line)) (sym b.time_is)
    ∙ ap (λ (x : Option Event). history_of id group sent 0 1 (take k lines) ++ option_to_list x) is in
    record {
      inside = within lines (k + 1) line next.0;
      time_is = ap (λ (t : ℕ). time_after t line) b.time_is ∙ sym (times_on 0 (take k lines) line)
          ∙ ap (λ (ls : List Line). times 0 ls) (sym more);
      device_is = ap (λ (events : List Event). folded events (numbered (first_devices lines) id)) grown
          ∙ folds_on (history_of id group sent 0 1 (take k lines)) (option_to_list o) (numbered (first_devices lines) id) d b.device_is;
      fine = event_by o is;
    }
  where
    taken_long : (ls : List Line) (j : ℕ) → j ≤ length ls → 1 + length (take j ls) ≡ j + 1
    taken_long ls j le = let is = length-take-le j ls le in omega (arith, is)

    event_by : (o : Option Event) → event_in id group sent time (k + 1) line ≡ o
        → AreFine (Carries lines group sent id) (k + 1) (fold after_event d (option_to_list o))
    event_by None none = fine_later (Carries lines group sent id) k (k + 1) d (omega arith) b.fine
    event_by (Some e) some =
        happens lines group sent id time k line d e (numbered_next lines k line rest left).0 some
        (ap (λ (j : ℕ). record_behind lines (take j lines) group sent id) (let one : k + 1 - 1 ≡ k = omega arith in one) ∙ b.device_is)
        b.fine

history_fine : (lines : List Line) (group : Option PlanGroup) (sent : List SentPayload) (id time k : ℕ)
    (rest : List Line) (d : DeviceState) → drop k lines ≡ rest → IsBehind lines group sent id time k d
    → (last : ℕ) × AreFine (Carries lines group sent id) last (fold after_event d (history_of id group sent time (k + 1) rest))
unfolding history_of
history_fine lines group sent id time k [] d left b = (k, b.fine)
history_fine lines group sent id time k (line ∷ rest) d left b =
    let o : Option Event = event_in id group sent time (k + 1) line in
    let next = numbered_next lines k line rest left in
    let later : List Event = history_of id group sent (time_after time line) (k + 1 + 1) rest in
    let e : DeviceState = fold after_event d (option_to_list o) in
    let all = history_fine lines group sent id (time_after time line) (k + 1) rest e next.1
    (line_fine_on lines group sent id time k line rest d o left refl b) in
    (all.0, subst (AreFine (Carries lines group sent id) all.0) (sym (fold_on o later)) all.1)
  where
    fold_on : (o : Option Event) (later : List Event)
        → fold after_event d (option_to_list o ++ later) ≡ fold after_event (fold after_event d (option_to_list o)) later
    fold_on None later = refl
    fold_on (Some e) later = refl

-- a device at its start has no session
fresh_by : (carries : ℕ → Command → Type 0) (lines : List Line) (n : ℕ) (d : DeviceState)
    → slice_get (filter_map device_in lines) n ≡ Some d → AreFine carries 0 d
fresh_by carries [] n d is = absurd cc
fresh_by carries (Ok (Own (Device dev)) ∷ lines) zero d is =
    let same : device_of dev ≡ d = cc in subst (AreFine carries 0) same (tt, tt, tt, tt)
fresh_by carries (Ok (Own (Device dev)) ∷ lines) (suc n) d is = fresh_by carries lines n d is
fresh_by carries (line ∷ lines) n d is = fresh_by carries lines n d is

fresh_at : (carries : ℕ → Command → Type 0) (lines : List Line) (n : ℕ) (d : DeviceState) (b : Bool)
    → cond b None (slice_get (filter_map device_in lines) n) ≡ Some d → AreFine carries 0 d
fresh_at carries lines n d true is = absurd cc
fresh_at carries lines n d false is = fresh_by carries lines n d is

own_fine : (lines : List Line) (group : Option PlanGroup) (sent : List SentPayload) (id : ℕ) (o : Option DeviceState)
    (device : DeviceState) → numbered (first_devices lines) id ≡ o
    → ((d : DeviceState) → o ≡ Some d → AreFine (Carries lines group sent id) 0 d)
    → folded (history_of id group sent 0 1 lines) o ≡ Some device
    → (last : ℕ) × AreFine (Carries lines group sent id) last device
unfolding history_of times
own_fine lines group sent id None device there first is = absurd cc
own_fine lines group sent id (Some d) device there first is =
    let all = history_fine lines group sent id 0 0 lines d refl (record {
      inside = omega arith;
      time_is = refl;
      device_is = ap (λ (x : Option DeviceState). folded [] x) there;
      fine = first d refl;
    }) in
    let same : fold after_event d (history_of id group sent 0 1 lines) ≡ device = cc in
    (all.0, subst (AreFine (Carries lines group sent id) all.0) same all.1)

-- what lines of a campaign carry to a device
abbrev CarriesIn : (lines : List Line) → WorldState → (id : ℕ) → (ℕ → Command → Type 0)
CarriesIn lines world id = Carries lines world.server.plan.group world.sent id

device_fine : (image : List ℕ) (lines : List Line) (world : WorldState) (id : ℕ) (device : DeviceState)
    → campaign_of image lines ≡ Ok world → numbered world.devices id ≡ Some device
    → (last : ℕ) × AreFine (CarriesIn lines world id) last device
device_fine image lines world id device accepted there =
    own_fine lines world.server.plan.group world.sent id (numbered (first_devices lines) id) device refl
    (λ d is. fresh_at (CarriesIn lines world id) lines (id - 1) d (id == 0) is)
    (sym (devices_are_independent image lines world id accepted) ∙ there)

session_fine : (image : List ℕ) (lines : List Line) (world : WorldState) (id : ℕ) (device : DeviceState) (index : ℕ) (s : Session)
    → IsSessionOf image lines world id device index s
    → (last : ℕ) × IsFine (CarriesIn lines world id) last index s
session_fine image lines world id device index s r =
    let carries : ℕ → Command → Type 0 = CarriesIn lines world id in
    let fine = device_fine image lines world id device r.accepted r.device_is in
    let here : min index 3 ≡ index = omega (arith, r.index_is) in
    let its : IfSome (session_at device.sessions index) (IsFine carries fine.0 (min index 3)) =
    of_one (λ i o. IfSome o (IsFine carries fine.0 i)) device.sessions index fine.1 in (
      fine.0,
      subst (λ i. IsFine carries fine.0 i s) here
          (if_some (IsFine carries fine.0 (min index 3)) (session_at device.sessions index) s r.session_is its),
    )

-- a line that carries something is one of the script
carried_within : (lines : List Line) (group : Option PlanGroup) (sent : List SentPayload) (id n : ℕ) (c : Command)
    → Carries lines group sent id n c → n ≤ length lines
carried_within lines group sent id n c (inl came) = within lines n came.0 came.5.line_is
carried_within lines group sent id n c (inr came) = within lines n came.0 came.7.line_is

-- the last fragment came with one of the lines
in_the_script : (lines : List Line) (group : Option PlanGroup) (sent : List SentPayload) (id index last : ℕ)
    (heard : List Fragment) → CameInTurn (Carries lines group sent id) index last heard
    → CameInTurn (Carries lines group sent id) index (length lines) heard
in_the_script lines group sent id index last [] came = tt
in_the_script lines group sent id index last (f ∷ older) came =
    (carried_within lines group sent id f.mark (Cast (DataFragment index f.number f.part)) came.1, came.1, came.2)

makes_file : (s : Session) → IsSetUp s.setup → MakesFile (shape_of s) s.setup.padding
unfolding shape_of
makes_file s set = record { some = set.some; short = set.short }

decided : (image : List ℕ) (lines : List Line) (world : WorldState) (id : ℕ) (device : DeviceState) (index : ℕ) (s : Session)
    → IsSessionOf image lines world id device index s → IsDecidedAtFirst s
decided image lines world id device index s r =
    decided_at_first s (makes_file s (session_fine image lines world id device index s r).1.set)

-- ---- its line

-- the report by its verdict
by_verdict : (world : WorldState) (id : ℕ) (stage : Stage) (device : DeviceState) (index : ℕ) (s : Session) (v : Verdict)
    → ledger world.server id ≡ Some stage → numbered world.devices id ≡ Some device → index < 4
    → session_at device.sessions index ≡ Some s → (seen_of s).verdict ≡ v
    → report_of world ≡ report_with_line world id stage device index
    (saying index s (verdict_text v (same_word (bytes_eq (seen_of s).file world.server.image))))
unfolding view_of
by_verdict world id stage device index s v stage_is device_is small here is =
    let image : List ℕ = world.server.image in
    let seen : Seen = seen_of s in
    line_parted world id stage device index s
    (saying index s (verdict_text v (same_word (bytes_eq seen.file image)))) stage_is device_is small
    (ap (λ (o : Option Session). session_line (same image) index (view_of o)) here
    ∙ ap (λ (x : Verdict). session_text index seen.received seen.missing (verdict_text x (same_word (bytes_eq seen.file image)))) is)

told_of : (world : WorldState) (id : ℕ) (stage : Stage) (device : DeviceState) (index : ℕ) (s : Session)
    → ledger world.server id ≡ Some stage → numbered world.devices id ≡ Some device → index < 4
    → session_at device.sessions index ≡ Some s → IsDecidedAtFirst s → IsToldOf world id stage device index s
told_of world id stage device index s stage_is device_is small here d =
    let image : List ℕ = world.server.image in
    let by = λ (v : Verdict). by_verdict world id stage device index s v stage_is device_is small here in
    record {
      complete = λ line file at.
          by (verdict.Complete line) ((d.complete line).1 (file, at))
          ∙ ap (λ (f : List ℕ). report_with_line world id stage device index
          (saying index s (codes "complete at " ++ (decimal line ++ same_word (bytes_eq f image)))))
          (d.file line file at);
      no_rows = λ line at. by (verdict.NoRows line) ((d.no_rows line).1 at);
      conflict = λ line at. by (verdict.Conflict line) ((d.conflict line).1 at);
      receiving = λ stays. by verdict.Receiving (d.receiving.1 stays);
    }

-- ---- the file that is recovered

file_first : (s : Session) (v : Verdict) (file : List ℕ) → (seen_of s).verdict ≡ v → IsDecidedAtFirst s
    → file_by v (seen_of s).file ≡ Ok file
    → (line : ℕ) × FirstAt (shape_of s) s.setup.padding (IsWhole (shape_of s) s.setup.padding file) s.heard line
file_first s verdict.Receiving file is d given = absurd cc
file_first s (verdict.Complete line) file is d given =
    let at = (d.complete line).0 is in
    let same : (seen_of s).file ≡ file = cc in
    let whole : at.0 ≡ file = sym (d.file line at.0 at.1) ∙ same in (
      line,
      subst (λ (f : List ℕ). FirstAt (shape_of s) s.setup.padding (IsWhole (shape_of s) s.setup.padding f) s.heard line)
          whole at.1,
    )
file_first s (verdict.NoRows line) file is d given = absurd cc
file_first s (verdict.Conflict line) file is d given = absurd cc

seen_file : (o : Option Session) (s : Session) (file : List ℕ) → o ≡ Some s → file_of (view_of o) ≡ Ok file
    → file_by (seen_of s).verdict (seen_of s).file ≡ Ok file
unfolding view_of
seen_file None s file is given = absurd cc
seen_file (Some x) s file is given = let same : x ≡ s = cc in
    subst (λ (y : Session). file_by (seen_of y).verdict (seen_of y).file ≡ Ok file) same given

recovered : (image : List ℕ) (lines : List Line) (world : WorldState) (id : ℕ) (device : DeviceState) (s : Session) (file : List ℕ)
    → IsSessionOf image lines world id device 0 s → recovery world id ≡ Ok file
    → (line : ℕ) × FirstAt (shape_of s) s.setup.padding (IsWhole (shape_of s) s.setup.padding file) s.heard line
unfolding recovery
recovered image lines world id device s file r given =
    file_first s (seen_of s).verdict file refl (decided image lines world id device 0 s r)
    (seen_file device.sessions.first s file r.session_is (ap recovery_by (sym r.device_is) ∙ given))

pub verdicts : Verdicts
verdicts = record {
  heard = λ image lines world id device index s r.
      let fine = session_fine image lines world id device index s r in
      in_the_script lines world.server.plan.group world.sent id index fine.0 s.heard fine.1.came;
  decided = decided;
  told = λ image lines world id stage device index s r stage_is.
      told_of world id stage device index s stage_is r.device_is r.index_is r.session_is (decided image lines world id device index s r);
  recovered = recovered;
}
