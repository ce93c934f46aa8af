-- A campaign whose lines have been read has the index that its image's line says.
use Rattle.std.proofs.Common.{◌≡◌, ℕ, List, [], ◌∷◌, None, Ok, Err, subst}
use Rattle.campaign_world.specs.declared.section.Section.{Section}
use Rattle.campaign_world.specs.World.{WorldState, first_world}
use Rattle.campaign_world.specs.Said.{Line}
use Rattle.campaign_world.specs.Causes.{line_cause}
use Rattle.campaign_world.specs.Script.{after_line, read_lines, campaign_of}
use Rattle.campaign_laws.specs.Fields.{LineFits, AllFit}
use Rattle.campaign_laws.proofs.Indexed.{IsIndexed, said_indexed}
use Rattle.campaign_laws.proofs.HeadlineLines.{end_is, ended}
use Rattle.campaign_laws.proofs.Independence.{read_first, line_fine}

line_indexed : (index : ℕ) (w : WorldState) (line : Line) → line_cause w line ≡ None → LineFits index line
    → IsIndexed index w.section w.server.plan → IsIndexed index (after_line w line).section (after_line w line).server.plan
line_indexed index w (Err cause) fine fits k = absurd cc
line_indexed index w (Ok said) fine fits k = said_indexed index w said fine fits k

all_indexed : (index : ℕ) (w end : WorldState) (lines : List Line) → AllFit index lines → read_lines (Ok w) lines ≡ Ok end
    → IsIndexed index w.section w.server.plan → IsIndexed index end.section end.server.plan
unfolding read_lines
all_indexed index w end [] fits read k =
    let same : w ≡ end = cc in subst (λ (x : WorldState). IsIndexed index x.section x.server.plan) same k
all_indexed index w end (line ∷ lines) fits read k =
    let first = read_first w end line lines read in
    all_indexed index (after_line w line) end lines fits.1 first.1
    (line_indexed index w line (line_fine w line first.0) fits.0 k)

-- at its end
pub index_is : (image : List ℕ) (index : ℕ) (lines : List Line) (world : WorldState) → AllFit index lines
    → campaign_of image lines ≡ Ok world → world.server.plan.index ≡ index
unfolding campaign_of
index_is image index lines world fits is =
    subst (λ (s : Section). IsIndexed index s world.server.plan) (ended (read_lines (Ok (first_world image)) lines) world is)
    (all_indexed index (first_world image) world lines fits (end_is (read_lines (Ok (first_world image)) lines) world is) tt)
