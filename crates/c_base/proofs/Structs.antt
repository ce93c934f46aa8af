-- The two functions of a struct for C, which is of a handle's form: one lends what it holds, and the struct follows it; the other puts what a handle has in its place, and returns what was there.
-- Assumes `Logic`.
use Rattle.std.proofs.Common.{◌≡◌, ℕ, List, [], ◌∷◌, refl, sym, lit<, ◌++◌, subst}
use Rattle.std.specs.Prelude.{map, option_map}
use seplogic.Ra.Ura.{Ura}
use mir.Syntax.{Fn, Callee, Body, Ty, named, erased, local, value_local, ty_ptr, ty_bool, w8, w64, int, place, deref, field, copy, rv_opd, op2, ptr_eq, addr_of, aggregate, assign, seq, block, cond, skip, return}
use mir.Raw.{raw as bare}
use mir.Val.{Val, vptr, vnull, vcons, vnil}
use base.Fml.{Fml, Lft, GName, Share, ftrue, flft, fobs, fres, fsep}
use base.Fraction.{full_share}
use base.Logic.{SProp, ent, sep, emp, id⊢}
use prog.Model.{Model}
use prog.Wp.{Closed, WpFn}
use types.Logic.{Logic, sem}
use types.Kit.{‵, raw, ◌⊛◌, some, later, at_ret, ◌$◌, ◌∵◌, !, qed, done, by, move, keep, drop, split, join, fsplit, fsplit3, fjoin, fpack, pick, await, suffices, use0, use1, rewrite, frame, group, feq_i, feq_l}
use types.Run.{stop, fld, load, addr, lit, of_opd, bin, no_more, and_then, first, blocks, branches, skips, exec, returns, returns_within, enter, assigns}
use types.ByLocal.{alloc_all, pass_all, free_all, look_at, get, through, sets, sets_last, env, get_in}
use types.Part.{agg, look_in, sub, whole, store_in}
use types.Match.{live}
use contract.Monad.{fact, fact_i}
use contract.Running.{Running, MachineTables, tables}
use denote.Exit.{no, yes}
use denote.RattleType.{RattleType, owns}
use denote.Follow.{follows, follows_if, follows_by, Part, lends_Part}
use denote.Memory.{cell_at, mem, part_at, part_of, lone}
use denote.Param.{layout}
use denote.Ref.{MutRef, MutBor, mut_vals, mut_Tells}
use denote.RawPtr.{Ptr, block_ptr, null_ptr, ptr_val, tests_null}
use denote.Signature.{Slot, Signature, plain, mut_ref_to, types_at}
use denote.Steps.{nothing, opens, closes}
use denote.Triple.Clauses.{Ended, Clauses, closing}
use denote.Triple.Spec.{Meets}
use denote.Triple.Walked.{Stays, stay_dropped, walk_of, ends_at, says, Goes-spent_ref, stay_ref, Goes-dropped, Goes-ref}
use Rattle.core.specs.Option.{ghost_name_of}
use Rattle.core.specs.contracts.option.Option as OP
use Rattle.core.proofs.alloc.Shapes.{after}
use Rattle.core.proofs.cell.Inside.{Good}
use Rattle.core.proofs.option.Made.{Some-of, none_of}
use Rattle.std.specs.declared.option.Option.{Option}
use Rattle.std.specs.declared.option.Option.TheVariants.{None, Some}
use Rattle.std.specs.contracts.impls.GlobalAllocator.TheImpl.{ghosts}
use Rattle.std.proofs.raw_atomic.Walks.{proved, proved_at, leaves}
use Rattle.c_base.specs.Held.{held_at}
use Rattle.c_base.proofs.Values.{both}
use Rattle.c_base.proofs.Handles.{Heap, Parts, owned, boxed, Form, D, Row, ptr_good, handle_out, handle_in, held_either, handles, form_good}
use Rattle.std.specs.declared.alloc.Global.{Global}

-- a block may be freed by any value of the allocator
any_alloc : (R : RattleType) (a b : Global) (p : Ptr) (x : Option R.Denot) → held_at R a p x ≡ held_at R b p x
any_alloc R a b p None = refl
any_alloc R a b p (Some x) = refl

module _ {R : RattleType} (F : Form R) where
  -- such a function takes a `&mut` to the struct first
  abbrev self : Slot 1
  self = mut_ref_to (0 ∷ []) tt (plain (λ _. Row F))

  abbrev fn_of : (params : ℕ) → List Ty → Body → Fn
  fn_of params types body = record { lifetimes = 1; outlives = []; ty_params = []; givens = 0; params = params; locals = map (λ τ. local τ value_local) types; body = body }

  -- the code that lends
  abbrev lend_code : Body
  lend_code =
      seq (assign (place 3 []) (rv_opd (copy (place 1 (deref (layout (Row F)) ∷ field 0 ∷ [])))))
      (seq (assign (place 2 []) (rv_opd (copy (place 3 []))))
      (seq (assign (place 4 []) (rv_opd (copy (place 2 []))))
      (seq (assign (place 5 []) (op2 ptr_eq (copy (place 4 [])) (int w64 0)))
      (seq (cond (copy (place 5 [])) (seq (assign (place 0 []) (aggregate (int w8 0 ∷ []))) return) skip)
      (seq (block (assign (place 7 []) (addr_of (place 2 (deref (layout R) ∷ [])))))
      (seq (assign (place 6 []) (rv_opd (copy (place 7 []))))
      (seq (assign (place 0 []) (aggregate (int w8 1 ∷ copy (place 6 []) ∷ []))) return)))))))

  abbrev pub lender : Fn
  lender = fn_of 1 (layout (OP.the_row (MutRef (named 0) [] R)) ∷ layout (MutRef (named 0) [] (Row F)) ∷ ty_ptr ∷ ty_ptr ∷ ty_ptr ∷ ty_bool ∷ layout (MutRef erased [] R) ∷ layout (MutRef erased [] R) ∷ []) lend_code

  abbrev pub lend_signature : Signature
  lend_signature = record { lifetimes = 1; outlives = []; params = self ∷ []; result = plain (λ κs. OP.the_row (MutRef (named 0) κs.0 R)) }

  abbrev lend_ended : Ended
  lend_ended = record { signature = lend_signature; kept = (no, tt) }

  -- the struct at another value of what it holds
  abbrev pub with_held : D F → R.Denot → D F
  with_held d w = F.of (record (F.parts d) { held = Some w })

  -- the code that puts another in its place
  abbrev swap_code : Body
  swap_code =
      seq (assign (place 3 []) (rv_opd (copy (place 2 (field 0 ∷ [])))))
      (seq (assign (place 4 []) (rv_opd (copy (place 2 (field 1 ∷ [])))))
      (seq (assign (place 6 []) (rv_opd (copy (place 1 (deref (layout (Row F)) ∷ field 0 ∷ [])))))
      (seq (assign (place 5 []) (rv_opd (copy (place 6 []))))
      (seq (assign (place 6 []) (rv_opd (copy (place 3 []))))
      (seq (assign (place 1 (deref (layout (Row F)) ∷ field 0 ∷ [])) (rv_opd (copy (place 6 []))))
      (seq (assign (place 0 []) (aggregate (copy (place 5 []) ∷ copy (place 4 []) ∷ []))) return))))))

  abbrev pub swapper : Fn
  swapper = fn_of 2 (layout (Row (handles R)) ∷ layout (MutRef (named 0) [] (Row F)) ∷ layout (Row (handles R)) ∷ ty_ptr ∷ layout Heap ∷ ty_ptr ∷ ty_ptr ∷ []) swap_code

  abbrev pub swap_signature : Signature
  swap_signature = record { lifetimes = 1; outlives = []; params = self ∷ plain (λ _. Row (handles R)) ∷ []; result = plain (λ _. Row (handles R)) }

  abbrev swap_ended : Ended
  swap_ended = record { signature = swap_signature; kept = (yes, (yes, tt)) }

  module _ {M : Type 1} (𝓤 : Ura M) (𝓛 : Logic 𝓤) (𝓜 : Model 𝓤 𝓛.H) (𝓡 : Running 𝓤 𝓛.H 𝓜) where
    abbrev 𝓣 : MachineTables 𝓤 𝓛.H 𝓜
    𝓣 = tables 𝓤 𝓛.H 𝓜 𝓡 𝓡.env

    abbrev lend_stayed : Stays lend_signature.params lend_ended.kept
    lend_stayed = (stay_dropped self no, tt)

    abbrev lend_clauses : Clauses 𝓤 lend_ended
    lend_clauses κs a = record {
      ghost = Unit {0};
      requires = λ g. emp 𝓤;
      ensures = λ g r e. sep 𝓤 (sem 𝓛 (follows_if (Row F) R a.0.ghost_name (ghost_name_of r) (with_held a.0.now) a.0.now)) (fact 𝓤 (option_map (λ x. x.now) r ≡ (F.parts a.0.now).held));
    }

    module _ (κ : Lft) (q : Share) (rb ro : ℕ) (γ : GName) (d : D F) where
      abbrev bound : (walk_of 𝓛 lend_ended lend_stayed lend_clauses).Ghost
      bound = (((κ, tt), (q, tt), tt, (record { ref_ptr = (rb, ro); ghost_name = γ; now = d }, tt), (vptr rb ro ∷ [], tt)), tt)

      abbrev Post : Val → SProp 𝓤
      Post = (walk_of 𝓛 lend_ended lend_stayed lend_clauses).post bound

      abbrev p : Parts R
      p = F.parts d

      abbrev Lent : RattleType
      Lent = MutRef (named 0) κ R

      none : p.held ≡ None → ent 𝓤 (sep 𝓤 (𝓛.A.obs γ ((Row F).coded.code d)) (𝓛.A.lft κ q)) (Post (live 0 vnil))
      unfolding follows_by
      none is =
          let c = (Row F).coded.code d in let v : Val = live 0 vnil in
          qed 𝓛 (‵ (fobs γ c) ∷ ‵ (flft κ q) ∷ []) ∵ use1 𝓛 (‵ (fres γ c)) (𝓛.names.obs-res γ c) $ move ! (1 ∷ []) $
          use0 𝓛 (‵ ((OP.the_row Lent).own_val None (v ∷ []))) (none_of 𝓛 Lent) $ suffices ! _ (ends_at 𝓛 lend_ended lend_stayed lend_clauses bound v None (tt, tt) (tt, tt)) $
          nothing ! $ nothing ! $ fjoin ! $ join ! $ nothing ! $ move ! (2 ∷ 0 ∷ []) $ join ! $ join ! $ frame ! $ says ! (sym is) $ done !

      some_at : (b o : ℕ) (x : R.Denot) → p.held ≡ Some x → (γ' : GName)
          → ent 𝓤 (sep 𝓤 (sem 𝓛 (Lent.own_val (record { ref_ptr = (b, o); ghost_name = γ'; now = x }) (vptr b o ∷ []))) (sep 𝓤 (𝓛.A.lft κ q) (sem 𝓛 (follows (Row F) R γ γ' (with_held d))))) (Post (live 1 (vcons (vptr b o) vnil)))
      unfolding follows_by
      some_at b o x is γ' =
          let r : MutBor R.Denot = record { ref_ptr = (b, o); ghost_name = γ'; now = x } in let v : Val = live 1 (vcons (vptr b o) vnil) in
          qed 𝓛 (‵ (Lent.own_val r (vptr b o ∷ [])) ∷ ‵ (flft κ q) ∷ ‵ (follows (Row F) R γ γ' (with_held d)) ∷ []) ∵
          use1 𝓛 (‵ ((OP.the_row Lent).own_val (Some r) (v ∷ []))) (Some-of 𝓛 Lent r (vptr b o)) $ suffices ! _ (ends_at 𝓛 lend_ended lend_stayed lend_clauses bound v (Some r) (tt, tt) (tt, tt)) $
          nothing ! $ nothing ! $ fjoin ! $ join ! $ nothing ! $ move ! (2 ∷ 0 ∷ []) $ join ! $ join ! $ frame ! $ says ! (sym is) $ done !

      module _ (h : Val) where
        abbrev cell : Ptr → Fml
        cell at = cell_at full_share (Row F).mir (both (ptr_val at) h ∷ []) rb ro

        module _ (b o : ℕ) (at_b : p.at ≡ block_ptr b o) where
          -- all of the struct but what it holds
          abbrev Rest : Fml
          Rest = fsep (ghosts.dealloc_token p.alloc (bare (lone R.mir)) (block_ptr b o)) (fsep (Heap.own_val p.alloc (h ∷ [])) (cell (block_ptr b o)))

          back : (w : R.Denot) → ent 𝓤 (sep 𝓤 (sem 𝓛 ((mem R).own_at w b o)) (sem 𝓛 Rest)) (sem 𝓛 ((mem (Row F)).own_at (with_held d w) rb ro))
          unfolding part_of
          back w =
              let s : Parts R = record p { held = Some w } in let same = F.same s in let x = with_held d w in
              qed 𝓛 (‵ (part_at R full_share w b o) ∷ ‵ Rest ∷ []) ∵ move ! (1 ∷ []) $ fsplit ! $ move ! (1 ∷ []) $ fsplit ! $ move ! (3 ∷ 2 ∷ []) $ fjoin ! $
              rewrite ! 0 (λ (at : Ptr). ‵ (boxed R p.alloc at w)) (sym at_b) refl $ rewrite ! 2 (λ (at : Ptr). ‵ (cell at)) (sym at_b) refl $
              rewrite ! 0 (λ (t : Parts R). ‵ (owned t)) (sym same) refl $ rewrite ! 1 (λ (t : Parts R). ‵ (Heap.own_val t.alloc (h ∷ []))) (sym same) refl $
              handle_in F ! x h $ rewrite ! 0 (λ (t : Parts R). ‵ ((Row F).own_val x (both (ptr_val t.at) h ∷ []))) same refl $ move ! (1 ∷ 0 ∷ []) $ fjoin ! $
              fpack ! (List Val) (λ us. fsep (cell_at full_share (Row F).mir us rb ro) ((Row F).own_val x us)) (both (ptr_val p.at) h ∷ []) $ done !

    pub lends : (k : Callee) → Closed 𝓤 𝓛.H 𝓣.C 𝓣.Λ k lender → Meets 𝓛 lend_signature (𝓣.C k) (closing 𝓛 lend_ended lend_clauses)
    lends k closed =
        proved 𝓛 lend_ended lend_stayed lend_clauses 𝓜 𝓡 (Goes-spent_ref 𝓛 1 (0 ∷ []) tt (plain (λ _. Row F)), tt) k lender closed (λ κs. (mut_vals, tt)) (λ κs. (mut_Tells (named 0) κs.0 (Row F), tt)) (λ κs qs bounds a g are.
        let κ = κs.0 in let q = qs.0 in let rb = a.0.ref_ptr.0 in let ro = a.0.ref_ptr.1 in let γ = a.0.ghost_name in let d : D F = a.0.now in let s : Parts R = F.parts d in let P : Val → SProp 𝓤 = Post κ q rb ro γ d in
        qed 𝓛 (((‵ (flft κ q) ⊛ ‵ ftrue) ⊛ ‵ (owns (MutRef (named 0) κ (Row F) ∷ []) a (mut_vals a.0, tt))) ∷ ‵ ftrue ∷ []) ∵ split ! $ split ! $ move ! (2 ∷ []) $ fsplit ! $ fsplit3 ! $ drop ! $ move ! (0 ∷ 1 ∷ 3 ∷ []) $
        enter ! 𝓣.C 𝓣.Λ lender (mut_vals a.0) _ $ alloc_all ! (λ l. pass_all ! refl ((tt, tt), tt) $ let Ev = env lender.locals l in opens ! tt (Row F) {h = d} rb ro (λ vs. move ! (1 ∷ []) $
        handle_out F ! d vs (λ h ws fits. rewrite ! 2 (λ (us : List Val). ‵ (cell_at full_share (Row F).mir us rb ro)) ws refl $ let Cell = λ (at : Ptr). ‵ (cell κ q rb ro γ d h at) in
        -- [what it owns; the allocator; the struct's cell; the open borrow, in three entries]
        held_either R ! s.alloc s.at s.held
        (λ is_none is_null. let good : Good ty_ptr vnull = ptr_good null_ptr in rewrite ! 1 Cell is_null refl $
        sets ! (of_opd ! (load ! (through ! refl (fld ! refl (stop !))) (look_in ! 1 (sub ! 0 refl (whole !))))) refl good $ sets ! (of_opd ! (get ! refl)) refl good $ sets ! (of_opd ! (get ! refl)) refl good $
        sets ! (bin ! (get ! refl) (lit ! tt) tt) refl (tt, tt) $ first ! $ branches ! (get ! refl)
        (λ _. sets ! (agg ! (and_then ! (lit ! tt) (no_more !))) refl (tt, (record { fits = lit< tt }, tt)) $ rewrite ! 1 Cell (sym is_null) refl $
        feq_i ! Ptr null_ptr null_ptr refl $ rewrite ! 0 (λ (at : Ptr). ‵ (held_at R s.alloc at None)) (sym is_null) refl $ rewrite ! 0 (λ (x : Option R.Denot). ‵ (held_at R s.alloc s.at x)) (sym is_none) refl $
        handle_in F ! d h $ move ! (1 ∷ 0 ∷ []) $ closes ! tt (Row F) d (both (ptr_val s.at) h ∷ []) rb ro $
        returns_within ! P refl (look_at ! 0 refl) $ free_all ! refl $ keep ! (0 ∷ 2 ∷ []) $ by ! (none κ q rb ro γ d is_none)) (λ wrong. absurd wrong))
        (λ b o x is_some at_b t. let rest : Fml = Rest κ q rb ro γ d h b o at_b in let put = back κ q rb ro γ d h b o at_b in rewrite ! 2 Cell at_b refl $
        sets ! (of_opd ! (load ! (through ! refl (fld ! refl (stop !))) (look_in ! 2 (sub ! 0 refl (whole !))))) refl (tt, tt) $ sets ! (of_opd ! (get ! refl)) refl (tt, tt) $ sets ! (of_opd ! (get ! refl)) refl (tt, tt) $
        sets ! (bin ! (get ! refl) (lit ! tt) (tests_null (block_ptr b o) t)) refl (tt, tt) $ first ! $ branches ! (get ! refl) (λ wrong. absurd wrong) (λ _.
        skips ! $ exec ! 𝓣.C 𝓣.Λ Ev (after 5 lend_code) (at_ret Ev P) $ first ! $ blocks ! $ sets_last ! (addr ! (through ! refl (stop !))) refl (tt, tt) $ exec ! 𝓣.C 𝓣.Λ Ev (after 6 lend_code) (at_ret Ev P) $
        sets ! (of_opd ! (get ! refl)) refl (tt, tt) $ sets ! (agg ! (and_then ! (lit ! tt) (and_then ! (get ! refl) (no_more !)))) refl (tt, (record { fits = lit< tt }, (tt, tt))) $
        fsplit ! $ move ! (2 ∷ 3 ∷ []) $ fjoin ! $ move ! (2 ∷ 0 ∷ []) $ fjoin ! $ move ! (2 ∷ 3 ∷ 4 ∷ 1 ∷ 0 ∷ []) $ group ! 5 $
        use1 𝓛 (later (some (λ (γ' : GName). raw (Part 𝓛 (Row F) R (with_held d) (named 0) κ q rb ro b o γ (sem 𝓛 rest) put x γ'))))
        (lends_Part 𝓛 (Row F) R (with_held d) (named 0) κ q rb ro b o γ (sem 𝓛 rest) put ((Row F).coded.code d) ((Row F).coded.code d) x) $ await ! tt $ pick ! (λ γ'.
        returns ! (look_at ! 0 refl) $ free_all ! refl $ keep ! (0 ∷ []) $ by ! (some_at κ q rb ro γ d b o x is_some γ'))))))))

    abbrev swap_stayed : Stays swap_signature.params swap_ended.kept
    swap_stayed = (stay_ref (0 ∷ []) tt (plain (λ _. Row F)), (stay_dropped (plain (λ _. Row (handles R))) yes, tt))

    -- the two hold each what the other held
    abbrev swap_clauses : Clauses 𝓤 swap_ended
    swap_clauses κs a = record {
      ghost = Unit {0};
      requires = λ g. emp 𝓤;
      ensures = λ g r e. sep 𝓤 (fact 𝓤 (r.held ≡ (F.parts a.0.now).held)) (fact 𝓤 ((F.parts e.0.now).held ≡ a.1.0.held));
    }

    pub swaps : (k : Callee) → Closed 𝓤 𝓛.H 𝓣.C 𝓣.Λ k swapper → Meets 𝓛 swap_signature (𝓣.C k) (closing 𝓛 swap_ended swap_clauses)
    swaps k closed =
        proved_at 𝓛 swap_ended swap_stayed swap_clauses 𝓜 𝓡 (Goes-ref 𝓛 1 0 tt (plain (λ _. Row F)), (Goes-dropped 𝓛 1 (plain (λ _. Row (handles R))) yes (λ κs x f. refl), tt)) k swapper closed (λ z are.
        let κs = z.0.0 in let κ = κs.0 in let q = z.0.1.0 in let s = z.0.3.0 in let rb = s.ref_ptr.0 in let ro = s.ref_ptr.1 in let d : D F = s.now in let p : Parts R = F.parts d in let x : D (handles R) = z.0.3.1.0 in let y : Parts R = (handles R).parts x in
        let p' : Parts R = record p { at = y.at; held = y.held } in let d' : D F = F.of p' in let same = F.same p' in let r : D (handles R) = record { at = p.at; alloc = y.alloc; held = p.held } in
        let Post : Val → SProp 𝓤 = (walk_of 𝓛 swap_ended swap_stayed swap_clauses).post z in let Run : List Val → SProp 𝓤 = λ ws. WpFn 𝓤 𝓛.H 𝓣.C 𝓣.Λ swapper ws Post in
        qed 𝓛 (((‵ (flft κ q) ⊛ ‵ ftrue) ⊛ ‵ (owns (types_at swap_signature.params κs) z.0.3 z.0.4)) ∷ ‵ ftrue ∷ []) ∵ split ! $ split ! $ move ! (2 ∷ []) $ fsplit ! $ fsplit3 ! $ feq_l ! (λ is_ref.
        move ! (2 ∷ []) $ fsplit ! $ handle_out (handles R) ! x z.0.4.1.0 (λ h' ws' fits'. let w' : Val = both (ptr_val y.at) h' in
        suffices ! (Run (vptr rb ro ∷ w' ∷ [])) (subst (λ (us : List Val). ent 𝓤 (Run (vptr rb ro ∷ w' ∷ [])) (Run us)) (sym (λ i. is_ref i ++ (ws' i ++ []))) (id⊢ 𝓤 (Run (vptr rb ro ∷ w' ∷ [])))) $
        enter ! 𝓣.C 𝓣.Λ swapper (vptr rb ro ∷ w' ∷ []) Post $ alloc_all ! (λ l. pass_all ! refl ((tt, tt), (form_good (handles R) y.at h' fits', tt)) $
        move ! (3 ∷ 4 ∷ 5 ∷ []) $ opens ! tt (Row F) {h = d} rb ro (λ vs. move ! (1 ∷ []) $ handle_out F ! d vs (λ h ws fits. rewrite ! 2 (λ (us : List Val). ‵ (cell_at full_share (Row F).mir us rb ro)) ws refl $
        -- [what the struct owns; its allocator; its cell; the open borrow, in three entries; what the handle owns; its allocator]
        sets ! (of_opd ! (get_in ! (fld ! refl (stop !)) (sub ! 0 refl (whole !)))) refl (ptr_good y.at) $ sets ! (of_opd ! (get_in ! (fld ! refl (stop !)) (sub ! 1 refl (whole !)))) refl fits' $
        sets ! (of_opd ! (load ! (through ! refl (fld ! refl (stop !))) (look_in ! 2 (sub ! 0 refl (whole !))))) refl (ptr_good p.at) $
        sets ! (of_opd ! (get ! refl)) refl (ptr_good p.at) $ sets ! (of_opd ! (get ! refl)) refl (ptr_good y.at) $
        assigns ! (of_opd ! (get ! refl)) (through ! refl (fld ! refl (stop !))) (store_in ! 2 (sub ! 0 refl (whole !)) (ptr_good y.at)) $
        sets ! (agg ! (and_then ! (get ! refl) (and_then ! (get ! refl) (no_more !)))) refl (form_good (handles R) p.at h' fits') $
        move ! (0 ∷ 7 ∷ []) $ rewrite ! 0 (λ (f : Fml). ‵ f) (any_alloc R p.alloc y.alloc p.at p.held) refl $ handle_in (handles R) ! r h' $
        move ! (6 ∷ 1 ∷ []) $ rewrite ! 0 (λ (f : Fml). ‵ f) (any_alloc R y.alloc p.alloc y.at y.held) refl $
        rewrite ! 0 (λ (t : Parts R). ‵ (owned t)) (sym same) refl $ rewrite ! 1 (λ (t : Parts R). ‵ (Heap.own_val t.alloc (h ∷ []))) (sym same) refl $
        handle_in F ! d' h $ rewrite ! 0 (λ (t : Parts R). ‵ ((Row F).own_val d' (both (ptr_val t.at) h ∷ []))) same refl $
        move ! (2 ∷ 0 ∷ 3 ∷ 4 ∷ 5 ∷ []) $ closes ! tt (Row F) d' (both (ptr_val y.at) h ∷ []) rb ro $
        -- [the struct's borrow, in two entries; the token; the result]
        fjoin ! $ feq_i ! (List Val) z.0.4.0 (mut_vals s) is_ref $ fjoin ! $ nothing ! $ nothing ! $ fjoin ! $ move ! (1 ∷ 0 ∷ []) $ fjoin ! $ move ! (1 ∷ []) $ nothing ! $ move ! (1 ∷ 0 ∷ []) $ join ! $
        use0 𝓛 (raw (fact 𝓤 ((F.parts d').held ≡ x.held))) (fact_i 𝓤 ((F.parts d').held ≡ x.held) (emp 𝓤) (λ i. (same i).held)) $ use0 𝓛 (raw (fact 𝓤 (r.held ≡ p.held))) (fact_i 𝓤 (r.held ≡ p.held) (emp 𝓤) refl) $ join ! $
        returns ! (look_at ! 0 refl) $ free_all ! refl $ keep ! (1 ∷ 2 ∷ 3 ∷ 0 ∷ []) $ by ! (leaves 𝓛 swap_ended swap_stayed swap_clauses z (both (ptr_val p.at) h') r (d', (_, tt)) (tt, (tt, tt)))))))))
