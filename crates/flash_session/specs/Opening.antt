-- When the bytes of a range are no session's, and where.
use Rattle.std.specs.Prelude.{◌≡◌, ◌≢◌, ℕ, ◌+◌, ◌*◌, ◌<◌, ◌≤◌, List, length, Some}
use Rattle.frag_model.specs.Fragments.{Fragment}
use Rattle.frag_session.specs.declared.answers.Via.TheVariants as via
use Rattle.frag_session.specs.declared.answers.News.TheVariants as news
use Rattle.frag_session.specs.declared.answers.Heard.TheVariants as answer
use Rattle.frag_session.specs.declared.setups.SetupReq.{SetupReq}
use Rattle.frag_session.specs.Session.{Session, new_session, drop_cause, news_in, answer_of}
use Rattle.frag_session.specs.Setup.{setup_bits}
use Rattle.flash_session.specs.Body.{setup_at}
use Rattle.flash_session.specs.Contents.{byte_at}
use Rattle.flash_session.specs.HeldSession.{HeldSession, room_in}
use Rattle.flash_session.specs.InRange.{InRange, AllInRange}
use Rattle.flash_session.specs.Layout.{open_gate, body_place, gates_place, tallies_place, records_place}
use Rattle.flash_session.specs.Layout.{body_at, gates_at, tallies_at, most_tallies, spelled}
use Rattle.flash_session.specs.Lies.{SpelledAt, RecordsLie, record_at}
use Rattle.flash_session.specs.Sessions.{hearing}

-- the setup that is read there, and a session that it made
abbrev pub setup_there : HeldSession → List ℕ → SetupReq
setup_there h c = setup_at c (body_at h.base)

abbrev pub session_there : HeldSession → List ℕ → Session
session_there h c = new_session h.limits (setup_there h c)

abbrev pub records_of : HeldSession → List ℕ → ℕ
records_of h c = 2 * (setup_there h c).nb_frag + 1

-- of the gates from a place on, fewer than `most`, the one of number k is open after one that is closed
pub record IsStray (c : List ℕ) (at most k : ℕ) : Type 0 where
  pub within : k < most
  pub opened : byte_at c (at + k) ≡ open_gate
  pub closed : ℕ
  pub before : closed < k
  pub shut : byte_at c (at + closed) ≢ open_gate

-- after these the session hears the fragment, and it is new
abbrev pub IsFed : Session → List Fragment → Fragment → Type 0
IsFed s older f = answer_of (drop_cause (Some (hearing s older)) via.Unicast f.number f.part)
    (news_in (Some (hearing s older)) f.number f.part f.mark) ≡ answer.Fed news.New

-- the gates of record k and of all before it are open, and it is no fragment that is new to the session after them: its number is
-- out of range, or it changes nothing
pub record IsForeignRecord (s : Session) (c : List ℕ) (base most k : ℕ) : Type 0 where
  pub within : k < most
  pub used : (j : ℕ) → j ≤ k → byte_at c (gates_at base + j) ≡ open_gate
  pub older : List Fragment
  pub count : length older ≡ k
  pub ranged : AllInRange older
  pub lie : RecordsLie c base s.setup.frag_size older
  pub next : Fragment
  pub in_range : InRange next
  pub sized : length next.part ≡ s.setup.frag_size
  pub there : SpelledAt c (record_at base s.setup.frag_size k) (spelled next)
  pub foreign : IsFed s older next → ⊥

-- what is foreign at a place, counted from the range's first byte
pub data IsForeign (h : HeldSession) (c : List ℕ) (place : ℕ) : Type 0 where
  setup : place ≡ body_place → setup_bits h.limits (room_in h) (setup_there h c) ≢ 0 → IsForeign h c place
  gate : (k : ℕ) → place ≡ gates_place + k → IsStray c (gates_at h.base) (records_of h c) k → IsForeign h c place
  tally : (k : ℕ) → place ≡ tallies_place + k → IsStray c (tallies_at h.base) most_tallies k → IsForeign h c place
  written : (k : ℕ) → place ≡ records_place + (10 + (setup_there h c).frag_size) * k
      → IsForeignRecord (session_there h c) c h.base (records_of h c) k → IsForeign h c place

-- the header's gate is open, and the lowest foreign place is this
pub record IsFirstForeign (h : HeldSession) (c : List ℕ) (place : ℕ) : Type 0 where
  pub header : byte_at c h.base ≡ open_gate
  pub there : IsForeign h c place
  pub lowest : (other : ℕ) → IsForeign h c other → place ≤ other

-- no place is foreign, or there is no session
abbrev pub NothingForeign : HeldSession → List ℕ → Type 0
NothingForeign h c = byte_at c h.base ≡ open_gate → (place : ℕ) → IsForeign h c place → ⊥
