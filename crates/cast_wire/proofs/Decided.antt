-- Each test is true exactly where its fact holds, and the samples have every identifier of the table.
use Rattle.std.proofs.Common.{◌≡◌, ℕ, true, refl, inl, inr}
use Rattle.std.specs.Bool.{Decides}
use Rattle.std.specs.Cmp.{booleans_Decides}
use Rattle.std.proofs.lemmas.Bool.Decides.{Decides-eqb, Decides-and}
use Rattle.wire_base.specs.declared.refusal.Direction.{Direction}
use Rattle.wire_base.specs.Rows.{IsListed}
use Rattle.wire_base.specs.Tests.{has_cid}
use Rattle.wire_base.proofs.Decided as base
use Rattle.wire_base.proofs.Decided.{leb_tells}
use Rattle.cast_wire.specs.declared.cmd.Cmd.{Cmd}
use Rattle.cast_wire.specs.declared.cmd.Cmd.TheVariants.{PackageVersionReq, PackageVersionAns, DataFragment, McGroupStatusAns, McGroupSetupReq, McClassCSessionAns, McClassBSessionAns}
use Rattle.cast_wire.specs.Table.{row, IsWhole, IsKnown}
use Rattle.cast_wire.specs.Tests.{is_whole, samples, is_known}

pub whole_tells : (c : Cmd) → Decides (is_whole c) (IsWhole c)
whole_tells (DataFragment index n bytes) = Decides-and _ _ (leb_tells _ _) (leb_tells _ _)
whole_tells (McGroupStatusAns total mask groups) = Decides-eqb _ _
whole_tells (McGroupSetupReq id addr key min max) = Decides-eqb _ _
whole_tells (McClassCSessionAns id undefined freq_error dr_error start) = booleans_Decides _ _
whole_tells (McClassBSessionAns id undefined freq_error dr_error start) = booleans_Decides _ _
whole_tells _ = (λ _. tt, λ _. refl)

-- each row has its sample
sampled : (cmd : Cmd) (port : ℕ) (dir : Direction) → IsListed (row cmd) port dir → has_cid row port dir (row cmd).cid samples ≡ true
unfolding samples
sampled PackageVersionReq port dir l = elim l.port_is [ inl on ↦ rw (on, l.direction_is) refl | inr on ↦ rw (on, l.direction_is) refl ]
sampled (PackageVersionAns a b) port dir l = elim l.port_is [ inl on ↦ rw (on, l.direction_is) refl | inr on ↦ rw (on, l.direction_is) refl ]
sampled _ port dir l = rw (l.port_is, l.direction_is) refl

pub known_tells : (port : ℕ) (dir : Direction) (cid : ℕ) → Decides (is_known port dir cid) (IsKnown port dir cid)
unfolding is_known
known_tells port dir cid = base.known_tells row samples sampled port dir cid
