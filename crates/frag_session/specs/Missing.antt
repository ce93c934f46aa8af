-- How many fragments a session says are missing (TS004-1.0.0, MissingFrag; where it ends without a file, this project's profile).
use Rattle.std.specs.Prelude.{◌≡◌, ◌≢◌, ℕ, ◌-◌, ◌∷◌}
use Rattle.frag_model.specs.Fragments.{Fragment}
use Rattle.frag_model.specs.Gain.{gain}
use Rattle.frag_session.specs.declared.answers.Verdict.TheVariants.{Receiving, Complete}
use Rattle.frag_session.specs.Session.{Session, shape_of, seen_of}

-- the session after one fragment more
abbrev pub behind : Session → Fragment → Session
behind s f = record s { heard = f ∷ s.heard }

pub record MissingPieces : Type 0 where
  -- while the file is open, those that are still to be gained
  pub receiving : (s : Session) → (seen_of s).verdict ≡ Receiving → (seen_of s).missing ≡ s.setup.nb_frag - gain (shape_of s) s.heard
  -- none of a whole file
  pub complete : (s : Session) (mark : ℕ) → (seen_of s).verdict ≡ Complete mark → (seen_of s).missing ≡ 0
  -- a fragment that ends it without a file leaves them, and so does each that comes later
  pub without_file : (s : Session) (f : Fragment) → (seen_of s).verdict ≡ Receiving → (seen_of (behind s f)).verdict ≢ Receiving
      → ((mark : ℕ) → (seen_of (behind s f)).verdict ≢ Complete mark) → (seen_of (behind s f)).missing ≡ (seen_of s).missing
  pub later : (s : Session) (f : Fragment) → (seen_of s).verdict ≢ Receiving → (seen_of (behind s f)).missing ≡ (seen_of s).missing
