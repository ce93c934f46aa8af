-- A device to which the setup was brought, and that takes its descriptor, has its session.
use Rattle.std.proofs.Common.{◌≡◌, ℕ, zero, suc, ◌*◌, ◌^◌, ◌<◌, ◌≤◌, ◌+◌, Bool, true, false, nat_le, List, length, min, drop, All, Option, None, Some, is_some, Ok, refl, ap, ◌∙◌, subst, arith, ne_eqb, le-ltb, length-drop}
use Rattle.std.proofs.lemmas.Bool.{le-leb}
use Rattle.std.proofs.lemmas.Bool.Decides.{nat_tests}
use Rattle.std.proofs.lemmas.Grind.{div_ceil_times}
use Rattle.frag_encoder.specs.Encoding.{nb_frag_of, padding_of}
use Rattle.row_elimination.specs.Room.{has_room}
use Rattle.frag_session.specs.declared.setups.SetupReq.{SetupReq}
use Rattle.frag_session.specs.Setup.{flash_for, too_long, wrong_coding, too_large, other_descriptor, setup_bits}
use Rattle.frag_session.specs.Session.{Session}
use Rattle.image_slots.specs.Image.{is_image, firmware_of}
use Rattle.image_slots.proofs.ImageLemmas.{image_long, image_short}
use Rattle.package_grammar.specs.declared.command.Command.{Command}
use Rattle.device_core.specs.Configuration.{Configuration}
use Rattle.device_core.specs.Device.{limits_of, room_of, max_area, size_for, session_extent}
use Rattle.frag_model.specs.Limits.{max_frag_size, max_pieces}
use Rattle.campaign_world.specs.Making.{flash_span, span_of}
use Rattle.campaign_world.specs.World.{WorldState, first_world}
use Rattle.campaign_world.specs.Said.{Line}
use Rattle.device_core.specs.SessionTable.{session_at}
use Rattle.campaign_world.specs.Script.{read_lines, campaign_of}
use Rattle.campaign_world.specs.Honest.{AreHonest}
use Rattle.campaign_laws.specs.Fields.{AllFit}
use Rattle.campaign_laws.specs.Headline.{Brings}
use Rattle.campaign_laws.specs.Lives.{SessionsLive}
use Rattle.campaign_server.proofs.LineItems.{within}
use Rattle.campaign_laws.proofs.HeadlineCommands.{Cut, cut_of, setup_req, setup_request, IsCut}
use Rattle.session_store.proofs.SizedRooms.{size_is_for, room_for}
use Rattle.campaign_laws.proofs.HeadlineEnds.{IsBounded}
use Rattle.campaign_laws.proofs.HeadlineWorlds.{StandsIn}
use Rattle.campaign_laws.proofs.HeadlineLines.{ended, campaign_reads, campaign_device}
use Rattle.campaign_laws.proofs.HeadlineSessions.{SessionHears}
use Rattle.campaign_laws.proofs.HeadlineHeard.{campaign_full_at}
use Rattle.campaign_laws.proofs.HeadlineLaw.{setup_is}

-- ---- the setup of an image has room

not_le : (a b : ℕ) → b < a → nat_le a b ≡ false
not_le a b lt = grind (arith, nat_tests)

some_piece : (len size n : ℕ) → 1 ≤ len → len ≤ n * size → 1 ≤ n
some_piece len size zero some fits = absurd (omega (arith, some, fits))
some_piece len size (suc n) some fits = omega arith

room_there : (config : Configuration) (pieces size : ℕ) → IsBounded config → pieces ≤ max_pieces → size ≤ max_frag_size
    → pieces * size ≤ max_area → has_room config.size.words config.size.bytes (session_extent config.size config.area) pieces size (min config.rows pieces) ≡ true
unfolding has_room
room_there config pieces size k few small fits =
    let is = size_is_for config.rows k.rows in
    let area : pieces * size ≤ config.area = omega (arith, fits, k.area) in
    rw (
      k.size,
      room_for config.rows pieces size (size_for config.rows) (session_extent (size_for config.rows) config.area) is few small,
      le-leb (pieces * size) config.area area,
      is.pieces,
      le-leb pieces max_pieces few,
    ) refl

-- so has its flash, where it is held there
flash_there : (pieces size : ℕ) → pieces ≤ max_pieces → size ≤ max_frag_size → pieces * size ≤ max_area
    → 24640 + (2 * pieces + 1) * (10 + size) ≤ flash_span
flash_there pieces size few small fits =
    let product : (2 * pieces + 1) * (10 + size) ≡ 20 * pieces + 2 * (pieces * size) + 10 + size = grind arith in
    omega (arith, product, few, small, fits)

enough_flash : (config : Configuration) (req : SetupReq) (held : Bool) → config.held ≡ held → config.span ≡ span_of config.held
    → flash_for req ≤ flash_span → too_long (room_of config).span req ≡ false
enough_flash config req false is span fits = rw (is) refl
enough_flash config req true is span fits =
    let long : config.span ≡ flash_span = span ∙ ap span_of is in
    rw (is) (le-ltb config.span (flash_for req) (omega (arith, fits, long)))

pub takes_setup : (image : List ℕ) (cut : Cut) (config : Configuration) → is_image image ≡ true → IsCut image cut
    → IsBounded config → other_descriptor config.descriptor (firmware_of image) ≡ false
    → setup_bits (limits_of config) (room_of config) (setup_req image cut) ≡ 0
unfolding setup_bits wrong_coding too_large
takes_setup image cut config fine is k takes =
    let ceil = div_ceil_times (length image) cut.size is.some in
    let some : 1 ≤ nb_frag_of (length image) cut.size =
    some_piece (length image) cut.size (nb_frag_of (length image) cut.size) (omega (arith, image_long image fine)) ceil.0 in
    let short : padding_of (length image) cut.size < cut.size = omega (arith, ceil.1, is.some) in
    let fits : nb_frag_of (length image) cut.size * cut.size ≤ max_area =
    omega (arith, ceil.1, image_short image fine, is.small) in
    let room = room_there config (nb_frag_of (length image) cut.size) cut.size k is.few is.small fits in
    rw (
      ne_eqb (nb_frag_of (length image) cut.size) 0 (omega (arith, some)),
      ne_eqb cut.size 0 (omega (arith, is.some)),
      not_le cut.size (padding_of (length image) cut.size) short,
      le-ltb max_pieces (nb_frag_of (length image) cut.size) is.few,
      le-ltb max_frag_size cut.size is.small,
      room,
      enough_flash config (setup_req image cut) config.held refl k.flash (flash_there _ cut.size is.few is.small fits),
      k.sessions,
      not_le 4 cut.index (omega (arith, is.indexed)),
      takes,
    ) refl

-- ---- the image is cut where the script has ended

campaign_cut : (image : List ℕ) (index : ℕ) (lines : List Line) (world : WorldState) → All (λ b. b < 2 ^ 8) image
    → AllFit index lines → AreHonest index lines → campaign_of image lines ≡ Ok world → IsCut image (cut_of world.server.plan)
unfolding campaign_of
campaign_cut image index lines world bytes fits honest is =
    subst (StandsIn image world) (ended (read_lines (Ok (first_world image)) lines) world is)
    (campaign_reads image index lines world bytes fits honest is).stands.keeps.stands

-- ---- a session

lives_by : (image : List ℕ) (cut : Cut) (brings : ℕ → Command → Type 0) (last n : ℕ) (config : Configuration)
    (o : Option Session) → setup_bits (limits_of config) (room_of config) (setup_req image cut) ≡ 0
    → SessionHears image cut brings last config o → n ≤ last → brings n (setup_request image cut) → is_some o ≡ true
lives_by image cut brings last n config None takes h le b = absurd (h takes n le b)
lives_by image cut brings last n config (Some s) takes h le b = refl

pub live : SessionsLive
live image lines world id device n bytes fine fits honest is there takes b =
    let cut : Cut = cut_of world.server.plan in
    let brings : ℕ → Command → Type 0 = Brings image lines world.sent id in
    let reads = campaign_reads image cut.index lines world bytes fits honest is in
    let all : SessionHears image cut brings world.lines device.config (session_at device.sessions cut.index) =
    campaign_full_at image cut.index lines world id device bytes fits honest is there in
    let left : length (drop world.lines lines) ≡ 0 = ap length reads.left in
    let inside : n ≤ length lines = within lines n b.3.0 b.3.4.line_is in
    lives_by image cut brings world.lines n device.config (session_at device.sessions cut.index)
    (takes_setup image cut device.config fine (campaign_cut image cut.index lines world bytes fits honest is)
    (campaign_device image cut.index lines world id device bytes fits honest is there).bounds takes)
    all (omega (arith, left, inside, length-drop world.lines lines))
    (subst (λ (x : Command). brings n x) (setup_is image world.server reads.stands.keeps.server) b)
