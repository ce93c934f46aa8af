-- The stored setup of a session: the ten bytes of FragSessionSetupReq after its CID (TS004-1.0.0). Reserved bits are written 0,
-- and ignored.
use Rattle.std.specs.Prelude.{◌≡◌, ℕ, ◌+◌, ◌*◌, ◌/◌, ◌%◌, ◌<◌, List, [], ◌∷◌, length, get_or}
use Rattle.frag_session.specs.declared.setups.SetupReq.{SetupReq}
use Rattle.flash_session.specs.Contents.{byte_at}

-- the ten bytes of a setup, as FragSessionSetupReq has them
unfoldable pub setup_bytes : SetupReq → List ℕ
setup_bytes req =
    (16 * req.index + req.mask)
    ∷ req.nb_frag % 256 ∷ req.nb_frag / 256
    ∷ req.frag_size
    ∷ (8 * req.algo + req.delay)
    ∷ req.padding
    ∷ req.descriptor % 256 ∷ req.descriptor / 256 % 256 ∷ req.descriptor / 65536 % 256 ∷ req.descriptor / 16777216
    ∷ []

-- what ten bytes are read as
unfoldable pub setup_from : (a b c d e f g h i j : ℕ) → SetupReq
setup_from a b c d e f g h i j = record {
  index = a / 16 % 4;
  mask = a % 16;
  nb_frag = b + 256 * c;
  frag_size = d;
  algo = e / 8 % 8;
  delay = e % 8;
  padding = f;
  descriptor = g + 256 * h + 65536 * i + 16777216 * j;
}

-- those of a list, and those from a place on
abbrev pub setup_in : List ℕ → SetupReq
setup_in body = setup_from (get_or body 0 0) (get_or body 1 0) (get_or body 2 0) (get_or body 3 0) (get_or body 4 0)
    (get_or body 5 0) (get_or body 6 0) (get_or body 7 0) (get_or body 8 0) (get_or body 9 0)

abbrev pub setup_at : List ℕ → ℕ → SetupReq
setup_at c at = setup_from (byte_at c (at + 0)) (byte_at c (at + 1)) (byte_at c (at + 2)) (byte_at c (at + 3)) (byte_at c (at + 4))
    (byte_at c (at + 5)) (byte_at c (at + 6)) (byte_at c (at + 7)) (byte_at c (at + 8)) (byte_at c (at + 9))

-- these bytes are a setup's
pub record IsBody (body : List ℕ) (setup : SetupReq) : Type 0 where
  pub sized : length body ≡ 10
  pub reads : setup_in body ≡ setup

-- each field is within its bits
pub record FieldsFit (req : SetupReq) : Type 0 where
  pub index : req.index < 4
  pub mask : req.mask < 16
  pub algo : req.algo < 8
  pub delay : req.delay < 8
