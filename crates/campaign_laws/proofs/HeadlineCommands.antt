-- The commands that a server of an image sends, each distinguished from the others by its bytes.
use Rattle.std.proofs.Common.{◌≡◌, ◌⊎◌, inl, inr, ℕ, ◌+◌, ◌^◌, ◌<◌, ◌≤◌, Bool, true, false, List, [], ◌∷◌, length, get_or, All, Ok, refl, sym, ap, ◌∙◌, subst, arith}
use Rattle.std.proofs.lemmas.Bool.{cases_lt}
use Rattle.std.proofs.lemmas.List.{get_or_past}
use Rattle.std.proofs.lemmas.Grind.{div_ceil_times}
use Rattle.wire_base.specs.declared.refusal.Direction.TheVariants.{Down}
use Rattle.wire_base.specs.Numbers.{number_at}
use Rattle.wire_base.specs.Rows.{IsListed}
use Rattle.frag_model.specs.Limits.{max_frag_size, max_parity_index, max_pieces}
use Rattle.frag_model.specs.Fragments.{line_of}
use Rattle.frag_encoder.specs.Encoding.{nb_frag_of, padding_of, data_of, block_of, filled}
use Rattle.frag_encoder.proofs.Pieces.{pieces_sized, sized_sum}
use Rattle.frag_encoder.proofs.Blocks.{filled_whole}
use Rattle.frag_session.specs.declared.setups.SetupReq.{SetupReq}
use Rattle.image_slots.specs.Image.{further, firmware_of}
use Rattle.cast_wire.specs.declared.cmd.Cmd.TheVariants.{FragSessionSetupReq, FragSessionStatusReq, DataFragment}
use Rattle.sync_wire.specs.declared.cmd.Cmd.{Cmd as SyncCmd}
use Rattle.sync_wire.specs.declared.cmd.Cmd.TheVariants as s
use Rattle.package_grammar.specs.declared.command.Command.{Command}
use Rattle.package_grammar.specs.declared.command.Command.TheVariants.{Sync, Cast}
use Rattle.package_grammar.specs.declared.downlink.Downlink.{Downlink}
use Rattle.package_grammar.specs.declared.downlink.To.{To}
use Rattle.package_grammar.specs.declared.downlink.To.TheVariants.{Unicast}
use Rattle.package_grammar.specs.Grammar.{row, canonical, IsValid}
use Rattle.package_grammar.specs.Reading.{reading_of}
use Rattle.package_grammar.proofs.Written.{message_of}
use Rattle.package_grammar.proofs.ReadingLaw.{read_as}
use Rattle.campaign_server.specs.Plan.{Plan}
use Rattle.campaign_server.specs.Server.{DownlinkCommand, port_of, downlink_of}
use Rattle.campaign_server.specs.Asking.{mask_of}

-- ---- what the server sends

-- how the image is cut, the index of its session, and the groups that may feed it
pub record Cut : Type 0 where
  pub size : ℕ
  pub index : ℕ
  pub mask : ℕ

abbrev pub cut_of : Plan → Cut
cut_of plan = record { size = plan.frag_size; index = plan.index; mask = mask_of plan.group }

-- the setup as the session holds it
abbrev pub setup_req : (image : List ℕ) → Cut → SetupReq
setup_req image cut = record {
  index = cut.index;
  mask = cut.mask;
  nb_frag = nb_frag_of (length image) cut.size;
  frag_size = cut.size;
  algo = 0;
  delay = 0;
  padding = padding_of (length image) cut.size;
  descriptor = firmware_of image;
}

-- the request that a setup comes by
abbrev pub command_of : SetupReq → Command
command_of r = Cast (FragSessionSetupReq r.index r.mask r.nb_frag r.frag_size r.algo r.delay r.padding r.descriptor)

abbrev pub setup_request : (image : List ℕ) → Cut → Command
setup_request image cut = command_of (setup_req image cut)

abbrev pub fragment_command : (image : List ℕ) → Cut → (n : ℕ) → Command
fragment_command image cut n = Cast (DataFragment cut.index n (data_of image cut.size n))

-- a command of another port than that of fragments
abbrev pub IsElsewhere : Command → Type 0
IsElsewhere c = (port_of c ≡ 200) ⊎ ((cmd : SyncCmd) × (c ≡ Sync cmd))

-- a command that leaves the sessions as they are
abbrev pub IsOther : Cut → Command → Type 0
IsOther cut c = ((all : Bool) × (c ≡ Cast (FragSessionStatusReq cut.index all))) ⊎ IsElsewhere c

-- the number of an uncoded or of a coded fragment
abbrev pub IsNumber : (image : List ℕ) → (size n : ℕ) → Type 0
IsNumber image size n = (1 ≤ n) × (n ≤ nb_frag_of (length image) size + max_parity_index)

-- a command that the server of the image sends; the setup by unicast
abbrev pub IsSentOf : (image : List ℕ) → Cut → DownlinkCommand → Type 0
IsSentOf image cut down =
    ((down.command ≡ setup_request image cut) × (down.to ≡ Unicast))
    ⊎ (((n : ℕ) × IsNumber image cut.size n × (down.command ≡ fragment_command image cut n))
    ⊎ IsOther cut down.command)

-- ---- the server's commands are valid

-- the image is cut within the limits
pub record IsCut (image : List ℕ) (cut : Cut) : Type 0 where
  pub some : 1 ≤ cut.size
  pub small : cut.size ≤ max_frag_size
  pub few : nb_frag_of (length image) cut.size ≤ max_pieces
  pub indexed : cut.index ≤ 3
  pub groups : cut.mask ≤ 8

byte_at : (image : List ℕ) (at : ℕ) → All (λ b. b < 2 ^ 8) image → get_or image at 0 < 256
byte_at image at bytes = elim (cases_lt at (length image)) [
  | inl lt ↦ bytes at 0 lt
  | inr ge ↦ let none : get_or image at 0 ≡ 0 = get_or_past image at 0 ge in omega (arith, none)
]

pub firmware_small : (image : List ℕ) → All (λ b. b < 2 ^ 8) image → firmware_of image < 2 ^ 32
unfolding firmware_of number_at
firmware_small image bytes =
    let at : ℕ = 9 + further image in
    omega (arith, byte_at image at bytes, byte_at image (at + 1) bytes, byte_at image (at + 1 + 1) bytes, byte_at image (at + 1 + 1 + 1) bytes)

padding_small : (image : List ℕ) (size : ℕ) → 1 ≤ size → padding_of (length image) size < size
padding_small image size some = omega (arith, (div_ceil_times (length image) size some).1)

-- a fragment of the image has its size
pub fragment_sized : (image : List ℕ) (size n : ℕ) → 0 < size → length (data_of image size n) ≡ size
unfolding data_of
fragment_sized image size n some =
    sized_sum size (line_of (nb_frag_of (length image) size) n) (block_of image size)
    (pieces_sized (nb_frag_of (length image) size) size (filled image size) (filled_whole image size some))

-- a valid command of port 201
pub record IsGood (c : Command) : Type 0 where
  pub valid : IsValid c
  pub listed : IsListed (row c) 201 Down
  pub port : port_of c ≡ 201

pub setup_good : (image : List ℕ) (cut : Cut) → All (λ b. b < 2 ^ 8) image → IsCut image cut
    → IsGood (setup_request image cut)
setup_good image cut bytes is =
    let number : nb_frag_of (length image) cut.size < 2 ^ 16 = omega (arith, is.few) in
    let short : padding_of (length image) cut.size < 2 ^ 8 =
    omega (arith, padding_small image cut.size is.some, is.small) in
    record {
      valid = record {
        fields = (
          (omega (arith, is.groups, is.indexed), (omega (arith, is.groups, is.indexed), tt)),
          (
            number,
            (
              omega (arith, is.small),
              (
                (omega arith, (omega arith, tt)),
                (short, (firmware_small image bytes, tt)),
              ),
            ),
          ),
        );
        whole = tt;
      };
      listed = record { port_is = refl; direction_is = refl };
      port = refl;
    }

pub fragment_good : (image : List ℕ) (cut : Cut) (n : ℕ) → IsCut image cut → IsNumber image cut.size n
    → IsGood (fragment_command image cut n)
fragment_good image cut n is number =
    let sized = fragment_sized image cut.size n is.some in
    let fits : n < 2 ^ 14 = omega (arith, number.1, is.few) in
    record {
      valid = record {
        fields = ((omega (arith, is.indexed), (fits, tt)), (tt, tt));
        whole = (omega (arith, sized, is.some), omega (arith, sized, is.small));
      };
      listed = record { port_is = refl; direction_is = refl };
      port = refl;
    }

pub status_good : (index : ℕ) (all : Bool) → index ≤ 3 → IsGood (Cast (FragSessionStatusReq index all))
status_good index true low = record {
  valid = record { fields = ((omega (arith, low), (omega arith, tt)), tt); whole = tt };
  listed =
      record { port_is = refl; direction_is = refl };
  port = refl;
}
status_good index false low = record {
  valid = record { fields = ((omega (arith, low), (omega arith, tt)), tt); whole = tt };
  listed =
      record { port_is = refl; direction_is = refl };
  port = refl;
}

pub sync_high : (cmd : SyncCmd) → 202 ≤ port_of (Sync cmd)
sync_high s.PackageVersionReq = omega arith
sync_high (s.PackageVersionAns identifier version) = omega arith
sync_high cmd = omega arith

pub good_read : (c : Command) → IsGood c → reading_of 201 Down (canonical c) ≡ Ok (c ∷ [])
good_read c good = read_as 201 Down (canonical c) (Ok (c ∷ [])) (message_of c 201 Down good.valid good.listed)

-- equal bytes are the same command
good_same : (c d : Command) (one other : To) → IsGood c → IsGood d
    → downlink_of (record { to = one; command = c }) ≡ downlink_of (record { to = other; command = d }) → c ≡ d
good_same c d one other this that same =
    let bytes : canonical c ≡ canonical d = ap (λ (x : Downlink). x.payload) same in
    let e : Ok (c ∷ []) ≡ Ok (d ∷ []) = sym (good_read c this) ∙ ap (λ (b : List ℕ). reading_of 201 Down b) bytes
    ∙ good_read d that in
    cc

elsewhere : (c d : Command) (one other : To) → IsGood c → IsElsewhere d
    → downlink_of (record { to = one; command = c }) ≡ downlink_of (record { to = other; command = d }) → c ≡ d
elsewhere c d one other good (inl is) same =
    let port : port_of c ≡ port_of d = ap (λ (x : Downlink). x.port) same in
    absurd (omega (arith, port, good.port, is))
elsewhere c d one other good (inr is) same =
    let port : port_of c ≡ port_of (Sync is.0) = ap (λ (x : Downlink). x.port) same ∙ ap port_of is.1 in
    absurd (omega (arith, port, good.port, sync_high is.0))

-- a valid command of port 201 that has the bytes of a sent one is that one
pub sent_same : (image : List ℕ) (cut : Cut) (to : To) (c : Command) (d : DownlinkCommand) → All (λ b. b < 2 ^ 8) image
    → IsCut image cut → IsGood c → IsSentOf image cut d
    → downlink_of (record { to = to; command = c }) ≡ downlink_of d → c ≡ d.command
sent_same image cut to c d bytes is good (inl setup) same =
    good_same c d.command to d.to good (subst IsGood (sym setup.0) (setup_good image cut bytes is)) same
sent_same image cut to c d bytes is good (inr (inl f)) same =
    good_same c d.command to d.to good (subst IsGood (sym f.2) (fragment_good image cut f.0 is f.1)) same
sent_same image cut to c d bytes is good (inr (inr (inl o))) same =
    good_same c d.command to d.to good (subst IsGood (sym o.1) (status_good cut.index o.0 is.indexed)) same
sent_same image cut to c d bytes is good (inr (inr (inr o))) same = elsewhere c d.command to d.to good o same
