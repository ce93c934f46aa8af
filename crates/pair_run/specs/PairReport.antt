-- The report of two campaigns (this project's profile).
use Rattle.std.specs.Prelude.{ℕ, ◌+◌, List, [], ◌∷◌, length, codes}
use Rattle.std.specs.Fmt.{decimal}
use Rattle.frag_encoder.specs.Encoding.{nb_frag_of, padding_of}
use Rattle.script_lines.specs.declared.forms.Campaign.{Campaign}
use Rattle.script_lines.specs.declared.forms.Campaign.TheVariants as campaign
use Rattle.campaign_server.specs.Server.{ServerState}
use Rattle.report_lines.specs.Devices.{◌⧺◌}
use Rattle.campaign_world.specs.Report.{lines_under}
use Rattle.pair_run.specs.declared.owners.Owner.{Owner}
use Rattle.pair_run.specs.Pair.{PairState, side}

abbrev pub letter : Campaign → List ℕ
letter campaign.A = codes "a"
letter campaign.B = codes "b"

-- image X SIZE fragments M size FRAGSIZE padding PAD parity P index I
abbrev pub cut_text : (letter : List ℕ) → (size fragments frag_size : ℕ) → List ℕ
cut_text letter size fragments frag_size =
    codes "image " ⧺ letter ⧺ codes " " ⧺ decimal size ⧺ codes " fragments " ⧺ decimal fragments
    ⧺ codes " size " ⧺ decimal frag_size

abbrev pub pair_image_text : (cut : List ℕ) → (padding parity index : ℕ) → List ℕ
pair_image_text cut padding parity index =
    cut ⧺ codes " padding " ⧺ decimal padding ⧺ codes " parity " ⧺ decimal parity ⧺ codes " index " ⧺ decimal index ⧺ codes "\n"

-- of each campaign its image and how it is cut, with its index
abbrev pub pair_image_line : Campaign → ServerState → List ℕ
pair_image_line x server =
    let size = length server.image in
    let frag_size = server.plan.frag_size in
    let cut = cut_text (letter x) size (nb_frag_of size frag_size) frag_size in
    pair_image_text cut (padding_of size frag_size) server.plan.parity server.plan.index

-- a device's name: its ID, and its campaign
abbrev pub pair_name : (id : ℕ) → Campaign → List ℕ
pair_name id x = decimal id ⧺ codes " " ⧺ letter x

-- the lines of a device, its files compared with its own campaign's image
abbrev pub part_of : PairState → (id : ℕ) → Owner → List ℕ
part_of pair id owner = lines_under (pair_name id owner.campaign) owner.number (side pair owner.campaign)

-- the lines of all, in the order of their IDs, from one on
unfoldable pub pair_parts : PairState → (id : ℕ) → List Owner → List ℕ
pair_parts pair id [] = []
pair_parts pair id (owner ∷ owners) = part_of pair id owner ⧺ pair_parts pair (id + 1) owners

-- the report: both images, and all devices by their IDs
unfoldable pub pair_report_of : PairState → List ℕ
pair_report_of pair =
    codes "fuota report 2\n" ⧺ pair_image_line campaign.A pair.a.server ⧺ pair_image_line campaign.B pair.b.server
    ⧺ pair_parts pair 1 pair.owners ⧺ codes "end\n"
