-- A file of payloads that is decoded.
use Rattle.std.proofs.Common.{◌≡◌, ℕ, ◌+◌, List, [], ◌∷◌, ◌++◌, codes, Option, Some, None, Result, Ok, Err, IfOk, IfErr, refl, sym, ap, subst, ◌∙◌, append_assoc, length-append, arith}
use Rattle.std.specs.Fmt.{decimal}
use Rattle.std.specs.Global.{Global}
use Rattle.std.specs.declared.vec.Vec.{Vec}
use Rattle.wire_base.specs.declared.refusal.Direction.{Direction}
use Rattle.package_grammar.specs.Reading.{reading_of}
use Rattle.report_lines.specs.declared.faults.LineFault.{LineFault}
use Rattle.report_lines.specs.declared.faults.LineError.{LineError}
use Rattle.report_lines.specs.declared.faults.LineError.TheVariants as error
use Rattle.report_lines.specs.Texts.{seen_text}
use Rattle.script_lines.specs.Lines.{lines_of}
use Rattle.payload_replay.specs.PayloadLines.{payload_of}
use Rattle.report_lines.specs.Lines.{TakesLines, text_at_end, IsLineRefused, IsFileText}
use Rattle.payload_replay.specs.Decode.{payload_text, numbered_text, Writes, Decodes, HasOneAnswer, HasAnAnswer}
use Rattle.payload_replay.specs.HeldDecoding.{HeldDecoding, IsDecodedBy, DecodingStands, HearsDecoded}
use Rattle.payload_replay.proofs.PayloadLines.{payload_cut}
use Rattle.report_lines.proofs.Lines.{line_behind, refused_behind, lines_stop, lines_once, lines_lead}

-- texts that were written one after another
pub three_on : (text one two rest : List ℕ) → ((text ++ one) ++ two) ++ rest ≡ text ++ (one ++ (two ++ rest))
three_on text one two rest = append_assoc (text ++ one) two rest ∙ append_assoc text one (two ++ rest)

pub numbered_on : (text head shown : List ℕ) (n : ℕ) → head ≡ codes "line " ++ (decimal n ++ codes "\n")
    → (text ++ head) ++ shown ≡ text ++ numbered_text n shown
numbered_on text head shown n is =
    append_assoc text head shown
    ∙ ap (λ (h : List ℕ). text ++ (h ++ shown)) is
    ∙ ap (λ (h : List ℕ). text ++ (codes "line " ++ h)) (append_assoc (decimal n) (codes "\n") shown)

-- ---- a decoding hears a line

-- it has heard none
pub decoded_none : (port : ℕ) (direction : Direction) (text : List ℕ) → text ≡ []
    → DecodingStands port direction (record { port = port; direction = direction; lines = 0; text = text; kept = None }) []
unfolding TakesLines
decoded_none port direction text empty = record { port_is = refl; direction_is = refl; behind = (refl, ap (λ (t : List ℕ). let r : Result (List ℕ) LineFault = Ok t in r) empty) }

-- whose payload is written
pub decoded_taken : (old : HeldDecoding) (text line payload : List ℕ) → old.kept ≡ None → payload_of old.lines line ≡ Ok payload
    → Writes old.port old.direction (old.lines + 1) payload old.text text
    → HearsDecoded old line (record old { lines = old.lines + 1; text = text })
decoded_taken old text line payload none is writes port direction lines whole same stands =
    let so_far = subst (λ (k : Option LineError). IsDecodedBy old lines k) none stands.behind in
    let new : HeldDecoding = record old { lines = old.lines + 1; text = text } in
    let its = sym (payload_cut old.lines whole) ∙ ap (λ (l : List ℕ). payload_of old.lines l) (sym same) ∙ is in
    record {
      port_is = stands.port_is;
      direction_is = stands.direction_is;
      behind = subst (λ (k : Option LineError). IsDecodedBy new (lines ++ whole ∷ []) k) (sym none) (
        omega (arith, length-append lines (whole ∷ []), so_far.0),
        line_behind payload_of (Writes old.port old.direction) 0 old.lines [] old.text text lines whole payload (omega (arith, so_far.0)) so_far.1 its writes,
      );
    }

-- that is refused, or there is no memory
pub decoded_refused : (old : HeldDecoding) (text line : List ℕ) (e : LineError) → old.kept ≡ None → IsLineRefused payload_of old.lines line e
    → HearsDecoded old line (record old { text = text; kept = Some e })
decoded_refused old text line (error.Line fault) none refused port direction lines whole same stands =
    let so_far = subst (λ (k : Option LineError). IsDecodedBy old lines k) none stands.behind in
    let its = sym (payload_cut old.lines whole) ∙ ap (λ (l : List ℕ). payload_of old.lines l) (sym same) ∙ refused.0 in
    record {
      port_is = stands.port_is;
      direction_is = stands.direction_is;
      behind = refused_behind payload_of (Writes old.port old.direction) 0 old.lines [] old.text lines whole fault (omega (arith, so_far.0)) so_far.1 its refused.1;
    }
decoded_refused old text line error.Memory none refused port direction lines whole same stands =
    record { port_is = stands.port_is; direction_is = stands.direction_is; behind = tt }

-- after a refused line, or missing memory
pub decoded_kept : (old : HeldDecoding) (line : List ℕ) (e : LineError) → old.kept ≡ Some e → HearsDecoded old line old
decoded_kept old line e kept port direction lines whole same stands =
    record {
      port_is = stands.port_is;
      direction_is = stands.direction_is;
      behind = subst (λ (k : Option LineError). IsDecodedBy old (lines ++ whole ∷ []) k) (sym kept)
          (stays e (subst (λ (k : Option LineError). IsDecodedBy old lines k) kept stands.behind));
    }
  where
    stays : (e : LineError) → IsDecodedBy old lines (Some e) → IsDecodedBy old (lines ++ whole ∷ []) (Some e)
    stays (error.Line fault) refused = lines_stop payload_of (Writes old.port old.direction) (whole ∷ []) fault 0 [] lines refused
    stays error.Memory refused = tt

-- ---- what it tells after all lines

pub decoded_told : (held : HeldDecoding) (port : ℕ) (direction : Direction) (file text : List ℕ) (r : Result (Vec ℕ Global) LineError)
    → held.kept ≡ None → text ≡ held.text → IfOk r (λ all. all.items ≡ text ++ codes "end\n") → IfErr r (λ e. e ≡ error.Memory)
    → DecodingStands port direction held (lines_of file) → IsFileText (Decodes port direction) file (seen_text r)
unfolding Decodes
decoded_told held port direction file text (Ok all) none text_is is memory stands =
    let taken = subst (λ (k : Option LineError). IsDecodedBy held (lines_of file) k) none stands.behind in
    let here = subst (λ (p : ℕ). TakesLines payload_of (Writes p held.direction) 0 [] (lines_of file) (Ok held.text)) stands.port_is taken.1 in (
      Ok held.text,
      subst (λ (d : Direction). TakesLines payload_of (Writes port d) 0 [] (lines_of file) (Ok held.text)) stands.direction_is here,
      ap (λ (t : List ℕ). let r : Result (List ℕ) LineFault = Ok t in r) (is ∙ ap (λ (t : List ℕ). t ++ codes "end\n") text_is),
    )
decoded_told held port direction file text (Err e) none text_is is memory stands =
    subst (λ (x : LineError). IsFileText (Decodes port direction) file (Err x)) (sym memory) tt

pub decoded_error : (held : HeldDecoding) (port : ℕ) (direction : Direction) (file : List ℕ) (e : LineError) → held.kept ≡ Some e
    → DecodingStands port direction held (lines_of file) → IsFileText (Decodes port direction) file (Err e)
unfolding Decodes
decoded_error held port direction file (error.Line fault) kept stands =
    let refused = subst (λ (k : Option LineError). IsDecodedBy held (lines_of file) k) kept stands.behind in
    let here = subst (λ (p : ℕ). TakesLines payload_of (Writes p held.direction) 0 [] (lines_of file) (Err fault)) stands.port_is refused in
    (Err fault, subst (λ (d : Direction). TakesLines payload_of (Writes port d) 0 [] (lines_of file) (Err fault)) stands.direction_is here, refl)
decoded_error held port direction file error.Memory kept stands = tt

-- ---- answers

-- no file is decoded in two ways, since each step leads to one text
pub decode_one : HasOneAnswer
unfolding Decodes
decode_one port dir file one other first second =
    first.2
    ∙ ap (text_at_end (λ text. text ++ codes "end\n")) (lines_once payload_of (Writes port dir) 0 [] (lines_of file) first.0 second.0
    (λ n payload text one other written again. written ∙ sym again) first.1 second.1)
    ∙ sym second.2

-- and each step leads on
pub decode_always : HasAnAnswer
unfolding Decodes
decode_always port dir file =
    let t = lines_lead payload_of (Writes port dir) 0 [] (lines_of file)
    (λ n payload text. (text ++ numbered_text n (payload_text (reading_of port dir payload)), refl)) in
    (text_at_end (λ text. text ++ codes "end\n") t.0, (t.0, t.1, refl))
