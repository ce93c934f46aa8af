-- What a handle owns: nothing where it is null, and else an object in a block of its own.
use Rattle.std.specs.Prelude.{Option, None, Some}
use Rattle.std.specs.declared.alloc.Global.{Global}
use Rattle.std.specs.contracts.impls.GlobalAllocator.TheImpl.{ghosts}
use Rattle.std.specs.Box.Ownership.{box_owns}
use base.Fml.{Fml, feq}
use denote.RattleType.{RattleType}
use denote.RawPtr.{Ptr, null_ptr}

abbrev pub held_at : (R : RattleType) → Global → Ptr → Option R.Denot → Fml
held_at R a p None = feq Ptr p null_ptr
held_at R a p (Some x) = box_owns (ghosts.dealloc_token a) R p x
