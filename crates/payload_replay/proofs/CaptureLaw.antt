-- A capture whose payloads all go down on port 201 ends as the replay of them.
use Rattle.std.proofs.Common.{◌≡◌, ℕ, ◌+◌, ◌*◌, ◌≤◌, Bool, true, false, ◌&&◌, ◌||◌, ◌==◌, nat_lt, nat_le, if◌then◌else◌, List, [], ◌∷◌, ◌++◌, length, codes, Result, Ok, Err, refl, sym, ap, subst, ◌∙◌, le-ltb, append-nil, append_assoc, arith}
use Rattle.hex.specs.Hex.{decode_of}
use Rattle.hex.specs.declared.error.FromHexError.{FromHexError}
use Rattle.hex.proofs.HexLemmas.{decode_of-ok}
use Rattle.wire_base.specs.declared.refusal.Direction.{Direction}
use Rattle.wire_base.specs.declared.refusal.Direction.TheVariants.{Down}
use Rattle.capture_read.specs.declared.answers.Entry.{Entry}
use Rattle.capture_read.specs.declared.answers.EntryFault.{EntryFault}
use Rattle.capture_read.specs.Entries.{entry_of}
use Rattle.capture_read.proofs.Within.{entry_within}
use Rattle.script_lines.specs.Lines.{lines_of}
use Rattle.device_core.specs.Device.{DeviceState}
use Rattle.report_lines.specs.declared.faults.LineWhy.{LineWhy}
use Rattle.report_lines.specs.declared.faults.LineWhy.TheVariants as why
use Rattle.report_lines.specs.declared.faults.LineFault.{LineFault}
use Rattle.report_lines.specs.Lines.{BehindLine, TakesLines, text_at_end}
use Rattle.payload_replay.specs.PayloadLines.{is_beyond, payload_of, payload_by}
use Rattle.payload_replay.specs.Headed.{rows_of, TakesBehind, TakesFile}
use Rattle.payload_replay.specs.Replay.{replay_device, Hears, Reaches, after_payload, closing_text, replay_text, Replays}
use Rattle.payload_replay.specs.Capture.{entry_by, line_entry, entry_text, is_down, is_heard, Caught, after_entry, caught_next, Catches, first_caught, CatchesAll, capture_text, Captures}
use Rattle.payload_replay.specs.CaptureReplay.{IsHexOf, AreHexOf, IsReplayOf, entries_text, EndsAsReplay}

-- ---- an entry that goes down on port 201 is heard

heard_there : (item : Entry) → item.port ≡ 201 → item.dir ≡ Down → is_heard item ≡ true
heard_there item port dir = rw (port, dir) refl

after_there : (number : ℕ) (item : Entry) (device : DeviceState) → item.port ≡ 201 → item.dir ≡ Down
    → after_entry number item device ≡ after_payload number item.payload device
unfolding after_entry
after_there number item device port dir =
    ap (λ (b : Bool). if b then after_payload number item.payload device else device) (heard_there item port dir)

-- ---- a line that has an entry is no further than the last, and its hex digits are a payload

entry_accepted : (many long : Bool) (item e : Entry)
    → Path (Result Entry LineWhy) (if many || long then Err why.Limit else Ok item) (Ok e) → (many ≡ false) × (item ≡ e)
entry_accepted true long item e said = absurd cc
entry_accepted false true item e said = absurd cc
entry_accepted false false item e said = (refl, cc)

line_accepted : (lines : ℕ) (line : List ℕ) (item e : Entry) → entry_of line ≡ Ok item → line_entry lines line ≡ Ok e
    → (nat_le 20000 lines ≡ false) × (item ≡ e)
unfolding line_entry
line_accepted lines line item e is said =
    entry_accepted (nat_le 20000 lines) (nat_lt 600 (length line)) item e
    (subst (λ (r : Result Entry EntryFault). Path (Result Entry LineWhy) (if is_beyond lines line then Err why.Limit else entry_by r) (Ok e)) is said)

digits_fit : (digits payload : List ℕ) → decode_of digits ≡ Ok payload → length payload ≤ 242 → length digits ≤ 600
digits_fit digits payload is within = let twice = (decode_of-ok digits payload is).2 in omega (arith, twice)

payload_accepted : (lines : ℕ) (digits payload : List ℕ) → nat_le 20000 lines ≡ false → decode_of digits ≡ Ok payload
    → length payload ≤ 242 → payload_of lines digits ≡ Ok payload
unfolding payload_of payload_by
payload_accepted lines digits payload few is within =
    rw (few, le-ltb 600 (length digits) (digits_fit digits payload is within), is, le-ltb 242 (length payload) within) refl

-- ---- line by line

-- what a line says that is taken
said_of : {P S : Type 0} (Takes : (n : ℕ) → P → S → S → Type 0) (n : ℕ) (now end : S) (said : Result P LineWhy)
    (goes_on : S → Result S LineFault → Type 0) → BehindLine Takes n now said goes_on (Ok end)
    → (item : P) × (said ≡ Ok item) × ((next : S) × Takes (n + 1) item now next × goes_on next (Ok end))
said_of Takes n now end (Err cause) goes_on behind = absurd cc
said_of Takes n now end (Ok item) goes_on behind = (item, refl, behind)

-- a line whose payload is heard
line_heard : (lines : ℕ) (device next : DeviceState) (line payload : List ℕ) (rest : List (List ℕ)) (outcome : Result DeviceState LineFault)
    → payload_of lines line ≡ Ok payload → Hears (lines + 1) payload device next
    → TakesLines payload_of Hears (lines + 1) next rest outcome → TakesLines payload_of Hears lines device (line ∷ rest) outcome
unfolding TakesLines
line_heard lines device next line payload rest outcome is hears behind =
    subst (λ (r : Result (List ℕ) LineWhy). BehindLine Hears lines device r
    (λ more. TakesLines payload_of Hears (lines + 1) more rest) outcome) (sym is) (next, hears, behind)

-- the texts of entries go after what was written
texts_on : (text one rest : List ℕ) → (text ++ one) ++ rest ≡ text ++ (one ++ rest)
texts_on text one rest = append_assoc text one rest

-- the device after the entries is that after their payloads, and the text has the entries one after another
record EndsSo (n : ℕ) (items : List Entry) (digits : List (List ℕ)) (now end : Caught) : Type 0 where
  device : TakesLines payload_of Hears n now.device digits (Ok end.device)
  text : end.text ≡ now.text ++ entries_text n items

ends_now : (n : ℕ) (now end : Caught) → Path (Result Caught LineFault) (Ok end) (Ok now) → EndsSo n [] [] now end
unfolding TakesLines
ends_now n now end is =
    let same : end ≡ now = cc in record {
      device = ap (λ (c : Caught). let r : Result DeviceState LineFault = Ok c.device in r) same;
      text = ap (λ (c : Caught). c.text) same ∙ sym (append-nil now.text);
    }

ends_so : (n : ℕ) (items : List Entry) (lines digits : List (List ℕ)) (now end : Caught) → AreHexOf items lines digits
    → TakesLines line_entry Catches n now lines (Ok end) → EndsSo n items digits now end
unfolding TakesLines
ends_so n [] [] [] now end are taken = ends_now n now end taken
ends_so n (item ∷ items) (line ∷ lines) (one ∷ digits) now end are taken =
    let its = are.0 in
    let said = said_of Catches n now end (line_entry n line) (λ next. TakesLines line_entry Catches (n + 1) next lines) taken in
    let accepted = line_accepted n line item said.0 its.entry said.1 in
    let next : Caught = caught_next (n + 1) item now in
    let takes : said.2.0 ≡ next = said.2.1 ∙ ap (λ (e : Entry). caught_next (n + 1) e now) (sym accepted.1) in
    let behind : TakesLines line_entry Catches (n + 1) next lines (Ok end) =
    subst (λ (c : Caught). TakesLines line_entry Catches (n + 1) c lines (Ok end)) takes said.2.2 in
    let rest = ends_so (n + 1) items lines digits next end are.1 behind in record {
      device = line_heard n now.device next.device one item.payload digits (Ok end.device)
          (payload_accepted n one item.payload accepted.0 its.payload (entry_within line item its.entry))
          (after_there (n + 1) item now.device its.port its.dir) rest.device;
      text = rest.text ∙ texts_on now.text (entry_text (n + 1) item) (entries_text (n + 1) items);
    }
ends_so n [] (line ∷ lines) digits now end are taken = absurd are
ends_so n [] [] (one ∷ digits) now end are taken = absurd are
ends_so n (item ∷ items) [] digits now end are taken = absurd are
ends_so n (item ∷ items) (line ∷ lines) [] now end are taken = absurd are

-- ---- the whole file

of_told : (outcome : Result Caught LineFault) (text : List ℕ)
    → Path (Result (List ℕ) LineFault) (Ok text) (text_at_end (λ all. capture_text all) outcome)
    → (all : Caught) × (outcome ≡ Ok all) × (text ≡ capture_text all)
of_told (Ok all) text is = (all, refl, cc)
of_told (Err fault) text is = absurd cc

text_is : (all : Caught) (shown : List ℕ) → all.text ≡ [] ++ shown
    → capture_text all ≡ codes "fuota capture 1\n" ++ (shown ++ closing_text all.device)
unfolding capture_text
text_is all shown is = ap (λ (t : List ℕ). codes "fuota capture 1\n" ++ (t ++ closing_text all.device)) is

catches_rows : (header : List ℕ) (lines : List (List ℕ)) (rows : ℕ) (outcome : Result Caught LineFault)
    → rows_of (codes "capture") header ≡ Ok rows → CatchesAll (header ∷ lines) outcome
    → TakesLines line_entry Catches 1 (first_caught rows) lines outcome
unfolding TakesFile
catches_rows header lines rows outcome is catches =
    subst (λ (r : Result ℕ LineWhy). TakesBehind line_entry Catches (λ rows. first_caught rows) r lines outcome) is catches

replays : (replay header : List ℕ) (lines : List (List ℕ)) (rows : ℕ) (device : DeviceState) → lines_of replay ≡ header ∷ lines
    → rows_of (codes "replay") header ≡ Ok rows → TakesLines payload_of Hears 1 (replay_device rows) lines (Ok device)
    → Replays replay (Ok (codes "fuota replay 1\n" ++ closing_text device))
unfolding Replays TakesFile replay_text
replays replay header lines rows device is fine heard = (
  Ok device,
  subst (λ (ls : List (List ℕ)). Reaches ls (Ok device)) (sym is)
      (subst (λ (r : Result ℕ LineWhy). TakesBehind payload_of Hears (λ rows. replay_device rows) r lines (Ok device)) (sym fine) heard),
  refl,
)

pub ends_as_replay : EndsAsReplay
unfolding Captures
ends_as_replay capture replay text items r told =
    let known = of_told told.0 text told.2 in
    let all = known.0 in
    let takes = catches_rows r.header r.lines r.rows told.0 r.capture_rows
    (subst (λ (ls : List (List ℕ)). CatchesAll ls told.0) r.capture_is told.1) in
    let taken = subst (λ (o : Result Caught LineFault). TakesLines line_entry Catches 1 (first_caught r.rows) r.lines o) known.1 takes in
    let ends = ends_so 1 items r.lines r.hex_lines (first_caught r.rows) all r.hex taken in (
      all.device,
      known.2 ∙ text_is all (entries_text 1 items) ends.text,
      replays replay r.replay_header r.hex_lines r.rows all.device r.replay_is r.replay_rows ends.device,
    )
