-- The machine values of a struct of a handle's form, as a handle and the structs for C are, and what one owns. Assumes `Logic`.
use Rattle.std.proofs.Common.{◌≡◌, ℕ, List, [], ◌∷◌, ◌++◌, refl, subst, lit<}
use seplogic.Ra.Ura.{Ura}
use mir.Syntax.{impl, tnil, dnil, ty_ptr}
use mir.Raw.{raw as bare}
use mir.Val.{Val, vstruct, of_list}
use base.Fml.{Fml}
use base.Fraction.{full_share}
use base.Logic.{never, fst∗, via, snd∗, guard_i}
use types.Logic.{Logic, sem}
use types.Kit.{Item, Goal, Seq, Step, step, ‵, given, ◌$◌, move, drop, fsplit, fjoin, fpick, fpack, feq_i, feq_l, use1, learn}
use contract.Monad.{fact_use}
use denote.Exit.{under, hidden}
use denote.RattleType.{RattleType, Valss}
use denote.Builtin.{RawPtr}
use denote.Memory.{lone}
use denote.RawPtr.{Ptr, block_ptr, null_ptr, ptr_val, in_a_block, lies_at, Testable}
use denote.Steps.{nothing}
use denote.Param.{layout}
use denote.Struct.Field.{Field, RawPtr-field, rows}
use denote.Struct.Struct.{within, exits_of}
use denote.Struct.Values.{Values, intos}
use denote.Struct.Owning.{Owning, row, shape, to}
use Rattle.core.proofs.alloc.Calls.{Al, handle_tells}
use Rattle.core.proofs.cell.Inside.{Good}
use Rattle.std.specs.declared.option.Option.{Option}
use Rattle.std.specs.declared.option.Option.TheVariants.{None, Some}
use Rattle.std.specs.declared.alloc.Global.{Global}
use Rattle.std.specs.contracts.alloc.Global as heap
use Rattle.std.proofs.alloc.Global.TheLaws as heap_laws
use Rattle.std.specs.contracts.impls.GlobalAllocator.TheImpl.{ghosts}
use Rattle.std.proofs.GlobalToken.{dealloc_token-Testable}
use Rattle.std_alloc.specs.Box.Ownership.{box_owns}
use Rattle.c_base.specs.Held.{held_at}
use Rattle.c_base.specs.contracts.handle.Handle as handle
use Rattle.c_base.proofs.Values.{both, both_tt}

abbrev pub Heap : RattleType
Heap = heap.the_row

abbrev al : Al
al = record { row = Heap; laws = heap_laws.the_row_laws; g = ghosts; d = impl [] tnil dnil; drops = impl [] tnil dnil }

abbrev pub boxed : (R : RattleType) → Global → Ptr → R.Denot → Fml
boxed R a = box_owns (ghosts.dealloc_token a) R

pub ptr_good : (p : Ptr) → Good ty_ptr (ptr_val p)
ptr_good (block_ptr b o) = (tt, tt)
ptr_good null_ptr = (tt, record { fits = lit< tt })

-- what a handle of an R is made of
pub record Parts (R : RattleType) : Type 0 where
  pub at : Ptr
  pub alloc : Global
  pub held : Option R.Denot

abbrev pub owned : {R : RattleType} → Parts R → Fml
owned {R} q = held_at R q.alloc q.at q.held

-- a struct that is made of them
pub record Form (R : RattleType) : Type 2 where
  pub type : Owning
  pub parts : type.D → Parts R
  pub of : Parts R → type.D
  pub same : (q : Parts R) → parts (of q) ≡ q

module _ {R : RattleType} (F : Form R) where
  abbrev pub D : Type 0
  D = F.type.D

  abbrev fields : List Field
  fields = RawPtr-field ∷ heap.the_field ∷ []

  abbrev values : D → Values fields
  values d = ((F.parts d).at, ((F.parts d).alloc, tt))

  abbrev pub whole : Owning
  whole = record {
    name = F.type.name;
    args = [];
    types = F.type.types;
    parts = fields;
    D = D;
    as_values = values;
    coded = F.type.coded;
    heap = λ d. owned (F.parts d);
    exit = λ k. hidden (under (λ d. intos fields (values d)) (exits_of k (rows fields)));
    shr_at = F.type.shr_at;
  }

  abbrev pub Row : RattleType
  Row = row whole

  pub form_good : (p : Ptr) (h : Val) → Good (layout Heap) h → Good (layout Row) (both (ptr_val p) h)
  form_good p h fits = (both_tt _ _ (ptr_good p).0 fits.0, ((ptr_good p).1, (fits.1, tt)))

  module _ {M : Type 1} {𝓤 : Ura M} {𝓛 : Logic 𝓤} {K : Type 0} {Γ : List (Item 𝓤)} {G : Goal 𝓤 𝓛.H} where
    pub handle_out : K → (d : D) (vs : List Val) → let q = F.parts d in
        ((h : Val) → vs ≡ both (ptr_val q.at) h ∷ [] → Good (layout Heap) h → Seq K 𝓛 (‵ (owned q) ∷ ‵ (Heap.own_val q.alloc (h ∷ [])) ∷ Γ) G)
        → Seq K 𝓛 (‵ (Row.own_val d vs) ∷ Γ) G
    handle_out t d vs k =
        let q = F.parts d in
        fsplit t $ fpick t (λ vss. fsplit t $ feq_l t (λ ev. fsplit t $ feq_l t (λ ep. fsplit t $ handle_tells al t q.alloc vss.1.0 (λ h ea fits. move t (1 ∷ []) $ drop t $ move t (1 ∷ []) $
        k h (subst (λ (ws : List Val). vs ≡ vstruct (of_list (ptr_val q.at ∷ (ws ++ []))) ∷ []) ea
        (subst (λ (ps : List Val). vs ≡ vstruct (of_list (ps ++ (vss.1.0 ++ []))) ∷ []) ep ev)) fits))))

    pub handle_in : K → (d : D) (h : Val) → let q = F.parts d in
        Step K 𝓛 (‵ (Row.own_val d (both (ptr_val q.at) h ∷ [])) ∷ Γ) G (‵ (owned q) ∷ ‵ (Heap.own_val q.alloc (h ∷ [])) ∷ Γ) G
    handle_in t d h = step (λ s. let p = (F.parts d).at in let v : Val = both (ptr_val p) h in
        nothing t $ move t (2 ∷ 0 ∷ []) $ fjoin t $ feq_i t (List Val) (ptr_val p ∷ []) (ptr_val p ∷ []) refl $ fjoin t $ feq_i t (List Val) (v ∷ []) (v ∷ []) refl $ fjoin t $
        fpack t (Valss (RawPtr ∷ Heap ∷ [])) (within (shape whole) (to whole d) (v ∷ [])) (ptr_val p ∷ [], (h ∷ [], tt)) $ fjoin t $ s)

module _ (R : RattleType) where
  abbrev pub handles : Form R
  handles = record {
    type = handle.the_type R;
    parts = λ d. record { at = d.at; alloc = d.alloc; held = d.held };
    of = λ q. record { at = q.at; alloc = q.alloc; held = q.held };
    same = λ q. refl;
  }

  module _ {M : Type 1} {𝓤 : Ura M} {𝓛 : Logic 𝓤} {K : Type 0} {Γ : List (Item 𝓤)} {G : Goal 𝓤 𝓛.H} where
    pub held_either : K → (a : Global) (p : Ptr) (x : Option R.Denot)
        → (x ≡ None → p ≡ null_ptr → Seq K 𝓛 Γ G)
        → ((b o : ℕ) (s : R.Denot) → x ≡ Some s → p ≡ block_ptr b o → Testable (block_ptr b o) → Seq K 𝓛 (‵ (boxed R a (block_ptr b o) s) ∷ Γ) G)
        → Seq K 𝓛 (‵ (held_at R a p x) ∷ Γ) G
    held_either t a p None none one = feq_l t (λ e. none refl e)
    held_either t a p (Some s) none one =
        use1 𝓛 (given (Testable p) (‵ (boxed R a p s)))
        (fact_use 𝓤 (Testable p) (via 𝓤 _ (snd∗ 𝓤 (sem 𝓛 (lies_at R full_share p s)) (sem 𝓛 (ghosts.dealloc_token a (bare (lone R.mir)) p))) (dealloc_token-Testable 𝓛 a (bare (lone R.mir)) p)) (guard_i 𝓤 (Testable p) (sem 𝓛 (boxed R a p s)))) $
        learn t (λ k. in_a_block t p (λ q. boxed R a q s) (fst∗ 𝓤 (never 𝓤) (sem 𝓛 (ghosts.dealloc_token a (bare (lone R.mir)) null_ptr))) (λ b o e. one b o s refl e (subst Testable e k)))
