-- The script of a seed, part by part: its lines spell its forms.
use Rattle.std.proofs.Common.{◌≡◌, ℕ, zero, suc, ◌+◌, ◌*◌, ◌%◌, ◌^◌, ◌<◌, ◌≤◌, ◌==◌, Bool, true, false, List, [], ◌∷◌, ◌++◌, length, map, codes, Some, refl, sym, ap, ◌∙◌, subst, lit≤, arith}
use Rattle.std.specs.List.{AllByRecursion}
use Rattle.std.proofs.lemmas.List.{length-append, length-map}
use Rattle.script_lines.specs.declared.forms.Form.{Form}
use Rattle.script_lines.specs.declared.forms.Form.TheVariants.{Ask, Frag, Up}
use Rattle.script_lines.specs.Forms.{form_of}
use Rattle.campaign_generator.specs.Draws.{stepped, drawn, after_draws}
use Rattle.campaign_generator.specs.Firmware.{body_of, size_of, fragments_of_size, fragments_of, after_image}
use Rattle.campaign_generator.specs.Script.{device_line, ask_line, down_line, up_line, devices_from, turn, turns, rounds, frags, is_skipped, skips, downs, downs_from, deliveries, script_from, script_of}
use Rattle.campaign_generator.specs.Forms.{device_form, down_form, forms_of_devices, forms_of_turn, forms_of_turns, forms_of_rounds, forms_of_frags, forms_of_fragment, forms_of_downs, forms_of_deliveries, forms_from, forms_of, AllLinesSpellForms}
use Rattle.campaign_generator.proofs.LineForms.{Reads, reads_none, reads_both, lines_are, reads_header, reads_image, reads_device, reads_ask, reads_frag, reads_down, reads_up, reads_end}

-- ---- how large the numbers are

drawn_small : (g : ℕ) → drawn g < 2 ^ 16
unfolding drawn stepped
drawn_small g = omega arith

pieces_few : (seed : ℕ) → fragments_of seed ≤ 129
unfolding fragments_of fragments_of_size size_of body_of
pieces_few seed = omega arith

-- ---- the parts

reads_devices : (g device left : ℕ) → device + left ≤ 2 ^ 16 → Reads (devices_from g device left) (forms_of_devices g device left)
unfolding devices_from forms_of_devices
reads_devices g device zero low = reads_none
reads_devices g device (suc left) low =
    reads_both (device_line device (drawn g)) (devices_from (stepped g) (device + 1) left) (device_form device (drawn g) ∷ []) (forms_of_devices (stepped g) (device + 1) left)
    (reads_device device (drawn g) (omega (arith, low)) (drawn_small g)) (reads_devices (stepped g) (device + 1) left (omega (arith, low)))

reads_turn : (device sent uplink : ℕ) → device < 2 ^ 16 → sent < 2 ^ 16 → uplink < 2 ^ 16 → Reads (turn device sent uplink) (forms_of_turn device sent uplink)
reads_turn device sent uplink low small up =
    reads_both (ask_line device) (down_line sent device ++ up_line uplink) (Ask device ∷ []) (down_form sent device ∷ Up uplink ∷ []) (reads_ask device low)
    (reads_both (down_line sent device) (up_line uplink) (down_form sent device ∷ []) (Up uplink ∷ []) (reads_down sent device small low) (reads_up uplink up))

reads_turns : (device sent uplink left : ℕ) → device < 2 ^ 16 → sent + left ≤ 2 ^ 16 → uplink + left ≤ 2 ^ 16 → Reads (turns device sent uplink left) (forms_of_turns device sent uplink left)
unfolding turns forms_of_turns
reads_turns device sent uplink zero low small up = reads_none
reads_turns device sent uplink (suc left) low small up =
    reads_both (turn device sent uplink) (turns device (sent + 1) (uplink + 1) left) (forms_of_turn device sent uplink) (forms_of_turns device (sent + 1) (uplink + 1) left)
    (reads_turn device sent uplink low (omega (arith, small)) (omega (arith, up))) (reads_turns device (sent + 1) (uplink + 1) left low (omega (arith, small)) (omega (arith, up)))

reads_rounds : (each device sent uplink left : ℕ) → each ≤ 4 → device + left ≤ 2 ^ 16 → sent + 4 * left ≤ 2 ^ 16 → uplink + 4 * left ≤ 2 ^ 16
    → Reads (rounds each device sent uplink left) (forms_of_rounds each device sent uplink left)
unfolding rounds forms_of_rounds
reads_rounds each device sent uplink zero four low small up = reads_none
reads_rounds each device sent uplink (suc left) four low small up =
    reads_both (turns device sent uplink each) (rounds each (device + 1) (sent + each) (uplink + each) left)
    (forms_of_turns device sent uplink each) (forms_of_rounds each (device + 1) (sent + each) (uplink + each) left)
    (reads_turns device sent uplink each (omega (arith, low)) (omega (arith, small, four)) (omega (arith, up, four)))
    (reads_rounds each (device + 1) (sent + each) (uplink + each) left four (omega (arith, low)) (omega (arith, small, four)) (omega (arith, up, four)))

reads_frags : (left : ℕ) → Reads (frags left) (forms_of_frags left)
unfolding frags forms_of_frags
reads_frags zero = reads_none
reads_frags (suc left) = reads_both (codes "frag\n") (frags left) (Frag ∷ []) (forms_of_frags left) reads_frag (reads_frags left)

reads_fragment : (skip twice : Bool) (device n : ℕ) → device < 2 ^ 16 → 16 + n < 2 ^ 16 → Reads (downs skip twice device n) (forms_of_fragment skip twice device n)
reads_fragment true twice device n low small = reads_none
reads_fragment false true device n low small =
    reads_both (down_line (16 + n) device) (down_line (16 + n) device) (down_form (16 + n) device ∷ []) (down_form (16 + n) device ∷ [])
    (reads_down (16 + n) device small low) (reads_down (16 + n) device small low)
reads_fragment false false device n low small = reads_down (16 + n) device small low

reads_downs : (device pieces g n skipped left : ℕ) → device < 2 ^ 16 → 16 + (n + left) ≤ 2 ^ 16
    → Reads (downs_from device pieces g n skipped left) (forms_of_downs device pieces g n skipped left)
unfolding downs_from forms_of_downs
reads_downs device pieces g n skipped zero low small = reads_none
reads_downs device pieces g n skipped (suc left) low small =
    let skip = is_skipped (drawn g % 10) pieces n skipped in
    reads_both (downs skip (drawn g % 10 == 1) device n) (downs_from device pieces (stepped g) (n + 1) (skips skip pieces n skipped) left)
    (forms_of_fragment skip (drawn g % 10 == 1) device n) (forms_of_downs device pieces (stepped g) (n + 1) (skips skip pieces n skipped) left)
    (reads_fragment skip (drawn g % 10 == 1) device n low (omega (arith, small)))
    (reads_downs device pieces (stepped g) (n + 1) (skips skip pieces n skipped) left low (omega (arith, small)))

reads_deliveries : (pieces g device left : ℕ) → pieces ≤ 129 → device + left ≤ 2 ^ 16 → Reads (deliveries pieces g device left) (forms_of_deliveries pieces g device left)
unfolding deliveries forms_of_deliveries
reads_deliveries pieces g device zero few low = reads_none
reads_deliveries pieces g device (suc left) few low =
    reads_both (downs_from device pieces g 1 0 (pieces + 128)) (deliveries pieces (after_draws g (pieces + 128)) (device + 1) left)
    (forms_of_downs device pieces g 1 0 (pieces + 128)) (forms_of_deliveries pieces (after_draws g (pieces + 128)) (device + 1) left)
    (reads_downs device pieces g 1 0 (pieces + 128) (omega (arith, low)) (omega (arith, few)))
    (reads_deliveries pieces (after_draws g (pieces + 128)) (device + 1) left few (omega (arith, low)))

-- ---- the whole

reads_script : (g pieces : ℕ) → pieces ≤ 129 → Reads (script_from g pieces) (forms_from g pieces)
unfolding script_from forms_from
reads_script g pieces few =
    reads_both _ _ _ _ (reads_both _ _ _ _ reads_header reads_image)
    (reads_both _ _ _ _ (reads_devices g 1 8 (lit≤ tt))
    (reads_both _ _ _ _ (reads_rounds 2 1 1 1 8 (lit≤ tt) (lit≤ tt) (lit≤ tt) (lit≤ tt))
    (reads_both _ _ _ _ (reads_frags (pieces + 128))
    (reads_both _ _ _ _ (reads_deliveries pieces (after_draws g 8) 1 8 few (lit≤ tt))
    (reads_both _ _ _ _ (reads_rounds 4 1 (16 + (pieces + 128) + 1) 17 8 (lit≤ tt) (lit≤ tt) (omega (arith, few)) (lit≤ tt)) reads_end)))))

-- ---- how many there are

count_devices : (g device left : ℕ) → length (forms_of_devices g device left) ≡ left
unfolding forms_of_devices
count_devices g device zero = refl
count_devices g device (suc left) = ap suc (count_devices (stepped g) (device + 1) left)

count_turns : (device sent uplink left : ℕ) → length (forms_of_turns device sent uplink left) ≡ 3 * left
unfolding forms_of_turns
count_turns device sent uplink zero = refl
count_turns device sent uplink (suc left) = let rest = count_turns device (sent + 1) (uplink + 1) left in omega (arith, rest)

count_rounds : (each device sent uplink left : ℕ) → length (forms_of_rounds each device sent uplink left) ≡ left * (3 * each)
unfolding forms_of_rounds
count_rounds each device sent uplink zero = omega arith
count_rounds each device sent uplink (suc left) =
    let one = count_turns device sent uplink each in
    let rest = count_rounds each (device + 1) (sent + each) (uplink + each) left in
    let both = length-append (forms_of_turns device sent uplink each) (forms_of_rounds each (device + 1) (sent + each) (uplink + each) left) in
    omega (arith, one, rest, both)

count_frags : (left : ℕ) → length (forms_of_frags left) ≡ left
unfolding forms_of_frags
count_frags zero = refl
count_frags (suc left) = ap suc (count_frags left)

count_fragment : (skip twice : Bool) (device n : ℕ) → length (forms_of_fragment skip twice device n) ≤ 2
count_fragment true twice device n = lit≤ tt
count_fragment false true device n = lit≤ tt
count_fragment false false device n = lit≤ tt

count_downs : (device pieces g n skipped left : ℕ) → length (forms_of_downs device pieces g n skipped left) ≤ 2 * left
unfolding forms_of_downs
count_downs device pieces g n skipped zero = lit≤ tt
count_downs device pieces g n skipped (suc left) =
    let skip = is_skipped (drawn g % 10) pieces n skipped in
    let one = count_fragment skip (drawn g % 10 == 1) device n in
    let rest = count_downs device pieces (stepped g) (n + 1) (skips skip pieces n skipped) left in
    let both = length-append (forms_of_fragment skip (drawn g % 10 == 1) device n) (forms_of_downs device pieces (stepped g) (n + 1) (skips skip pieces n skipped) left) in
    omega (arith, one, rest, both)

count_deliveries : (pieces g device left : ℕ) → pieces ≤ 129 → length (forms_of_deliveries pieces g device left) ≤ 514 * left
unfolding forms_of_deliveries
count_deliveries pieces g device zero few = lit≤ tt
count_deliveries pieces g device (suc left) few =
    let one = count_downs device pieces g 1 0 (pieces + 128) in
    let rest = count_deliveries pieces (after_draws g (pieces + 128)) (device + 1) left few in
    let both = length-append (forms_of_downs device pieces g 1 0 (pieces + 128)) (forms_of_deliveries pieces (after_draws g (pieces + 128)) (device + 1) left) in
    omega (arith, one, rest, both, few)

count_forms : (g pieces : ℕ) → pieces ≤ 129 → length (forms_from g pieces) ≤ 4524
unfolding forms_from
count_forms g pieces few =
    let a = count_devices g 1 8 in
    let b = count_rounds 2 1 1 1 8 in
    let c = count_frags (pieces + 128) in
    let d = count_deliveries pieces (after_draws g 8) 1 8 few in
    let e = count_rounds 4 1 (16 + (pieces + 128) + 1) 17 8 in
    simp length-append (omega (arith, a, b, c, d, e, few))

same_count : (lines : List (List ℕ)) (forms : List Form) → map form_of lines ≡ map Some forms → length lines ≡ length forms
same_count lines forms same = sym (length-map lines form_of) ∙ ap length same ∙ length-map forms Some

pub lines_spell_forms : AllLinesSpellForms
unfolding script_of forms_of
lines_spell_forms seed =
    let reads = reads_script (after_image seed) (fragments_of seed) (pieces_few seed) in
    let are = lines_are (script_from (after_image seed) (fragments_of seed)) (forms_from (after_image seed) (fragments_of seed)) reads in
    record {
      spelled = ap (map form_of) are ∙ reads.spelled;
      short = subst (λ (lines : List (List ℕ)). AllByRecursion (λ line. length line ≤ 60) lines) (sym are) reads.short;
      few = omega (arith, ap (λ (lines : List (List ℕ)). length lines) are, same_count reads.lines (forms_from (after_image seed) (fragments_of seed)) reads.spelled, count_forms (after_image seed) (fragments_of seed) (pieces_few seed));
    }
