-- What a payload that is no fragment does to a receiver, and which file a view shows.
use Rattle.std.proofs.Common.{◌≡◌, ◌≢◌, ℕ, List, length, Option, Some, None, refl, sym, subst}
use Rattle.wire_base.specs.declared.refusal.Direction.TheVariants.{Down}
use Rattle.cast_wire.specs.declared.cmd.Cmd.TheVariants.{DataFragment}
use Rattle.cast_wire.specs.Table.{Spells}
use Rattle.frag_session.specs.declared.answers.View.{View}
use Rattle.frag_session.specs.declared.answers.Verdict.{Verdict}
use Rattle.frag_session.specs.declared.answers.Verdict.TheVariants as verdict
use Rattle.frag_session.specs.Held.{HeldSlot}
use Rattle.frag_session.specs.Session.{Seen}
use Rattle.frag_session.specs.HeldView.{seen}
use Rattle.sample_receiver.specs.HeldReceiver.{Hears, file_by, whole_file}

-- nothing is heard of a payload in which no fragment is spelled
pub hears_none : (slot : HeldSlot) (payload : List ℕ) (mark : ℕ)
    → ((index n next : ℕ) (part : List ℕ) → ¬ Spells (DataFragment index n part) 201 Down payload 0 next)
    → Hears slot slot payload mark
hears_none slot payload mark none = record {
  heard = λ n part s is stands. absurd (none 0 n (length payload) part is);
  other = λ no. refl;
}

-- the file of a view is whole where its verdict says so
pub whole_of : (v : View) (mark : ℕ) (shown : Option Seen) → v.verdict ≡ verdict.Complete mark → Some (seen v) ≡ shown
    → Some v.file.now ≡ whole_file shown
unfolding seen
whole_of v mark shown complete is =
    subst (λ (o : Option Seen). Some v.file.now ≡ whole_file o) is
    (subst (λ (k : Verdict). Some v.file.now ≡ file_by k v.file.now) (sym complete) refl)

none_by : (k : Verdict) (file : List ℕ) → ((mark : ℕ) → k ≢ verdict.Complete mark) → None ≡ file_by k file
none_by verdict.Receiving file not = refl
none_by (verdict.Complete mark) file not = absurd (not mark refl)
none_by (verdict.NoRows mark) file not = refl
none_by (verdict.Conflict mark) file not = refl

-- and is none where it says another
pub none_of : (v : View) (shown : Option Seen) → ((mark : ℕ) → v.verdict ≢ verdict.Complete mark) → Some (seen v) ≡ shown
    → None ≡ whole_file shown
unfolding seen
none_of v shown not is =
    subst (λ (o : Option Seen). None ≡ whole_file o) is (none_by v.verdict v.file.now not)
