-- Where the line of a session stands.
use Rattle.std.proofs.Common.{◌≡◌, ℕ, ◌<◌, zero, suc, List, [], ◌++◌, refl, sym, ap, ◌∙◌, append_assoc, append-nil, arith}
use Rattle.device_core.specs.SessionTable.{SessionTable, session_at}
use Rattle.frag_session.specs.Session.{view_of}
use Rattle.report_lines.specs.Devices.{◌⧺◌}
use Rattle.report_lines.specs.Sessions.{ToldFile, session_line, session_lines, lines_below, lines_above}

-- after those below its index, and before those above it
pub line_by_index : (index : ℕ) (tail : ToldFile) (table : SessionTable) → index < 4
    → session_lines tail table
    ≡ lines_below tail table index ⧺ session_line tail index (view_of (session_at table index)) ⧺ lines_above tail table index
line_by_index zero tail table small = refl
line_by_index (suc zero) tail table small =
    let line = λ (i : ℕ). session_line tail i (view_of (session_at table i)) in
    ap (λ (t : List ℕ). t ++ (line 1 ++ (line 2 ++ line 3))) (sym (append-nil (line 0)))
line_by_index (suc (suc zero)) tail table small =
    let line = λ (i : ℕ). session_line tail i (view_of (session_at table i)) in
    sym (append_assoc (line 0) (line 1) (line 2 ++ line 3))
    ∙ ap (λ (t : List ℕ). (line 0 ++ t) ++ (line 2 ++ line 3)) (sym (append-nil (line 1)))
line_by_index (suc (suc (suc zero))) tail table small =
    let line = λ (i : ℕ). session_line tail i (view_of (session_at table i)) in
    ap (λ (t : List ℕ). line 0 ++ t) (sym (append_assoc (line 1) (line 2) (line 3)))
    ∙ sym (append_assoc (line 0) (line 1 ++ line 2) (line 3))
    ∙ ap (λ (t : List ℕ). (line 0 ++ (line 1 ++ line 2)) ++ t) (sym (append-nil (line 3)))
line_by_index (suc (suc (suc (suc index)))) tail table small = absurd (omega (arith, small))
