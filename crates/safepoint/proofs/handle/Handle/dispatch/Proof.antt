-- `dispatch` borrows the party in place, at the name of a board and a row, and gives it back.
use Rattle.std.proofs.Common.{◌≡◌, ℕ, List, [], ◌∷◌, ◌++◌, refl, sym, ap, subst}
use Rattle.std.specs.Prelude.{Option, Some, is_some, true}
use seplogic.Ra.Ura.{Ura}
use mir.Raw.{raw as bare}
use mir.Syntax.{named}
use mir.Val.{Val, vptr}
use base.Fraction.{full_share}
use base.Logic.{SProp, ent, emp, never, id⊢, fst∗}
use base.Fml.{ftrue, fsep, flft, flent}
use prog.Wp.{WpFn, Tables}
use prog.Model.{Model}
use prog.Wired.{Wired}
use types.Logic.{Logic, sem}
use types.Kit.{‵, raw, ◌⊛◌, some, later, at_ret, ◌$◌, ◌∵◌, !, qed, move, keep, use0, use1, use3, join, group, split, fsplit, fsplit3, fjoin, pick, suffices, rewrite, await, feq_i, feq_l, done}
use types.SemTy.{Body}
use types.Tokens.{lft_new, lft_end}
use types.Part.{whole, sub, look_in}
use types.Run.{stop, fld, load, addr, no_more, and_then, of_opd, returns, enter, first, blocks, exec}
use types.ByLocal.{alloc_all, pass_all, free_all, look_at, get, through, sets, sets_last, lands_as, env}
use contract.Monad.{fact, fact_i}
use contract.BorrowLft.{◌⊑◌, ⊑_static}
use contract.Running.{Running, MachineTables, tables, tables_of}
use sound.WpLaws.{WpFn-mono}
use denote.RattleType.{RattleType}
use denote.RawPtr.{Ptr, ptr_val, null_ptr, in_a_block}
use denote.Memory.{lone, part_at, part_of, mem, cell_at}
use denote.Ref.{MutRef}
use denote.Lend.{lends_ref, ref_back}
use denote.Exit.{yes}
use denote.Builtin.{u64}
use denote.Steps.{nothing, heard, only, opens, closes}
use denote.Triple.Spec.{triple_of}
use denote.Triple.Table.{entered}
use denote.Triple.Clauses.{Lasts, lasts}
use denote.Triple.Call.{calls_at}
use denote.Triple.Walked.{says, Stays, stay_ref, stay_dropped, walk_of, ends_at, Goes-ref, Goes-dropped, walk_Meets}
use denote.Struct.Field.{u64-field}
use denote.Struct.Laws.{u64-laws, u64-copy}
use denote.Param.Laws.{Laws, of_field}
use denote.Param.Shared.{copy_shared}
use denote.Signature.{Slot, plain}
use Rattle.core.proofs.atomic.Steps.{fm}
use Rattle.core.specs.contracts.result.Result as Result
use Rattle.core.proofs.result.Result.TheLaws.{the_row_laws as result_laws}
use Rattle.std.proofs.raw_atomic.Calls.{marker, marker_laws, dict}
use Rattle.std_heap.specs.contracts.Global as Heap
use Rattle.std_heap.specs.contracts.GlobalAllocator.TheImpl.{ghosts}
use Rattle.std_heap.proofs.Global.TheLaws as heap
use Rattle.std_alloc.specs.Box.Ownership.{box_owns}
use Rattle.bodies.specs.declared.name.Name as Name
use Rattle.parties.specs.Acted.{Acts}
use Rattle.parties.specs.contracts.acts.Act as Act
use Rattle.parties.specs.contracts.acts.Fault as Fault
use Rattle.parties.proofs.acts.Act.TheLaws as act_laws
use Rattle.parties.proofs.acts.Fault.TheLaws as fault_laws
use Rattle.parties.specs.contracts.party.Party.act as callee
use Rattle.parties.proofs.party.Party.act.Met.{met}
use Rattle.safepoint.proofs.Values.{both, RawBox, loose_out, loose_in, value_out, the_some}
use Rattle.safepoint.specs.Boxed.{maybe_owns}
use Rattle.safepoint.specs.Held.{party_of}
use Rattle.safepoint.specs.Told.{Obeys}
use Rattle.safepoint.specs.contracts.handle.{Handle.the_row as H-row}
use Rattle.safepoint.specs.contracts.handle.Handle.dispatch as F
use Rattle.safepoint.specs.contracts.handle.Handle.dispatch.Key.{name as #self}
use Rattle.safepoint.proofs.handle.Handle.dispatch.Statement as stated
use Rattle.safepoint.proofs.handle.Handle.dispatch.Code as code

abbrev From : Slot 1
From = plain (λ _. H-row)

abbrev FromAct : Slot 1
FromAct = plain (λ _. Act.the_row)

abbrev Said : RattleType
Said = Result.the_row u64 Fault.the_row

said_laws : Laws Said
said_laws = result_laws u64-field.row Fault.the_row (of_field u64-field u64-laws refl (copy_shared u64-field u64-copy)) fault_laws.the_row_laws

abbrev stayed : Stays (F.ended).signature.params (F.ended).kept
stayed = (stay_ref (0 ∷ []) tt From, (stay_dropped FromAct yes, tt))

module _ {M : Type 1} {𝓤 : Ura M} (𝓛 : Logic 𝓤) (R : RattleType) (x : R.Denot) (b o : ℕ) where
  open 𝓛 use {H}

  in_mem : ent 𝓤 (sem 𝓛 (part_at R full_share x b o)) (sem 𝓛 ((mem R).own_at x b o))
  unfolding part_of
  in_mem = id⊢ 𝓤 (sem 𝓛 ((mem R).own_at x b o))

  of_mem : ent 𝓤 (sem 𝓛 ((mem R).own_at x b o)) (sem 𝓛 (part_at R full_share x b o))
  unfolding part_of
  of_mem = id⊢ 𝓤 (sem 𝓛 ((mem R).own_at x b o))

module _ {M : Type 1} {𝓤 : Ura M} (𝓛 : Logic 𝓤) (𝓜 : Model 𝓤 𝓛.H) (𝓡 : Running 𝓤 𝓛.H 𝓜) (wired : Wired 𝓡.env code.code) where
  open 𝓛 use {H}

  abbrev 𝓣 : MachineTables 𝓤 𝓛.H 𝓜
  𝓣 = tables 𝓤 𝓛.H 𝓜 𝓡 𝓡.env

  walk : (z : (walk_of 𝓛 F.ended stayed (F.clauses 𝓛 𝓜.mem 𝓡.returns)).Ghost)
      → ent 𝓤 ((walk_of 𝓛 F.ended stayed (F.clauses 𝓛 𝓜.mem 𝓡.returns)).pre z) (WpFn 𝓤 H 𝓣.C 𝓣.Λ code.function (z.0.4.0 ++ (z.0.4.1.0 ++ [])) ((walk_of 𝓛 F.ended stayed (F.clauses 𝓛 𝓜.mem 𝓡.returns)).post z))
  walk z =
      let Post = (walk_of 𝓛 F.ended stayed (F.clauses 𝓛 𝓜.mem 𝓡.returns)).post z in
      let κ = z.0.0.0 in let q = z.0.1.0 in
      let r = z.0.3.0 in let act = z.0.3.1.0 in
      let h = r.now in let rb = r.ref_ptr.0 in let ro = r.ref_ptr.1 in
      let R : RattleType = party_of h.board h.row in
      let Z : RattleType = Heap.the_row in
      let LZ = heap.the_row_laws in
      let g = ghosts in
      let v : (RawBox R Z LZ g).Denot = record { at = h.at; alloc = h.alloc; value = h.value } in
      let gn : Name.Ghosts marker.Denot = record { board = h.board; poll_row = h.row } in
      let k = triple_of 𝓛 (callee.signature marker gn dict) (callee.spec marker gn dict 𝓛 𝓜.mem 𝓡.returns) in
      let Run : List Val → SProp 𝓤 = λ us. WpFn 𝓤 H 𝓣.C 𝓣.Λ code.function us Post in
      qed 𝓛 (((‵ (flft κ q) ⊛ ‵ ftrue) ⊛ ‵ (fsep ((MutRef (named 0) κ H-row).own_val r z.0.4.0) (fsep (Act.the_row.own_val act z.0.4.1.0) ftrue))) ∷ raw (fact 𝓤 (is_some h.value ≡ true)) ∷ []) ∵
      split ! $ split ! $ move ! (2 ∷ []) $ fsplit ! $ move ! (1 ∷ []) $ fsplit ! $
      value_out Act.the_row act_laws.the_row_laws ! act z.0.4.1.0 (λ wa ga wsa. move ! (5 ∷ []) $ heard ! (is_some h.value ≡ true) (λ there.
      let found = the_some h.value there in let x = found.0 in
      keep ! (2 ∷ 3 ∷ 0 ∷ []) $ fsplit3 ! $ feq_l ! (λ ws.
      -- [obs; the borrow; the token; the act]
      suffices ! (Run (vptr rb ro ∷ wa ∷ [])) (subst (λ (us : List Val). ent 𝓤 (Run (vptr rb ro ∷ wa ∷ [])) (Run us)) (sym (λ i. ws i ++ (wsa i ++ []))) (id⊢ 𝓤 (Run (vptr rb ro ∷ wa ∷ [])))) $
      enter ! 𝓣.C 𝓣.Λ code.function (vptr rb ro ∷ wa ∷ []) Post $ alloc_all ! (λ l. pass_all ! refl ((tt, tt), (ga, tt)) $ let Ev = env code.function.locals l in
      opens ! tt H-row rb ro (λ us. move ! (1 ∷ []) $ use1 𝓛 (‵ ((RawBox R Z LZ g).own_val v us)) (id⊢ 𝓤 _) $
      loose_out R Z LZ g ! v us (λ hv wsh fits. rewrite ! 2 (λ (xs : List Val). ‵ (cell_at full_share H-row.mir xs rb ro)) wsh refl $
      rewrite ! 0 (λ (p : Option R.Denot). ‵ (maybe_owns (g.dealloc_token h.alloc) R h.at p)) found.1 refl $
      in_a_block ! h.at (λ p. box_owns (g.dealloc_token h.alloc) R p x) (fst∗ 𝓤 (never 𝓤) (sem 𝓛 (g.dealloc_token h.alloc (bare (lone R.mir)) null_ptr))) (λ b o e.
      let Cell = λ (p : Ptr). ‵ (cell_at full_share H-row.mir (both (ptr_val p) hv ∷ []) rb ro) in
      rewrite ! 2 Cell e refl $ fsplit ! $
      -- [the party; the right to free it; the allocator; the handle's cell; the open borrow, in three entries; the act]
      sets ! (of_opd ! (load ! (through ! refl (fld ! refl (stop !))) (look_in ! 3 (sub ! 0 refl (whole !))))) refl (tt, tt) $
      sets ! (of_opd ! (get ! refl)) refl (tt, tt) $
      first ! $ blocks ! $ sets_last ! (addr ! (through ! refl (stop !))) refl (tt, tt) $ exec ! 𝓣.C 𝓣.Λ Ev code.Mir.t-4 (at_ret Ev Post) $
      sets ! (of_opd ! (get ! refl)) refl (tt, tt) $ sets ! (addr ! (through ! refl (stop !))) refl (tt, tt) $
      lft_new ! tt (λ α. let Ref = λ (δ : ℕ). (MutRef (named 0) (α ∷ []) R).own_val (record { ref_ptr = (b, o); ghost_name = δ; now = x }) (vptr b o ∷ []) in
      move ! (1 ∷ []) $ use1 𝓛 (‵ ((mem R).own_at x b o)) (in_mem 𝓛 R x b o) $
      use1 𝓛 (later (some (λ (δ : ℕ). ‵ (Ref δ) ⊛ ‵ (flent (α ∷ []) (Body (mem R) b o δ))))) (lends_ref 𝓛 R (named 0) (α ∷ []) x b o) $ await ! tt $ pick ! (λ δ. split ! $
      -- [the loan; the lender's part; the token of α; the right to free; the allocator; the cell; the open borrow; the act]
      let y : k.Ghost = (((α ∷ [], ([], tt)), (full_share, (full_share, tt)), (⊑_static (α ∷ []), tt), (record { ref_ptr = (b, o); ghost_name = δ; now = x }, (act, tt)), (vptr b o ∷ [], (wa ∷ [], tt))), tt) in
      nothing ! $ move ! (10 ∷ 0 ∷ []) $ fjoin ! $ move ! (1 ∷ 0 ∷ []) $ fjoin ! $
      nothing ! $ use0 𝓛 (‵ (flft [] full_share)) (𝓛.lfts.lft-nil full_share) $ join ! $ move ! (3 ∷ 0 ∷ []) $ join ! $ join ! $
      nothing ! $ use0 𝓛 (raw (fact 𝓤 ([] ⊑ []))) (fact_i 𝓤 ([] ⊑ []) (emp 𝓤) (⊑_static [])) $ join ! $ move ! (1 ∷ 0 ∷ []) $ join ! $
      use1 𝓛 (raw (k.pre y)) (id⊢ 𝓤 _) $
      calls_at ! (fm 𝓛 𝓜 𝓡) k (met 𝓤 𝓛 𝓜 𝓡 (code.calls-parties::party::Party::act 𝓡.env wired) marker marker_laws gn dict (record {})) y (and_then ! (get ! refl) (and_then ! (get ! refl) (no_more !))) (λ u.
      use1 𝓛 (later (some (λ (said : Said.Denot). ((‵ (flft (α ∷ []) full_share) ⊛ (‵ (flft [] full_share) ⊛ ‵ ftrue)) ⊛ ‵ (Said.own_val said (u ∷ []))) ⊛ some (λ (ls : Lasts (callee.ended marker gn dict) y.0.0 y.0.3). ‵ (lasts (callee.ended marker gn dict) y.0.0 y.0.3 ls) ⊛ raw (fact 𝓤 (Acts h.board.places x act said ls.0)))))) (id⊢ 𝓤 (k.post y u)) $
      await ! tt $ pick ! (λ said. split ! $ split ! $ move ! (2 ∷ []) $ pick ! (λ ls. split ! $ move ! (1 ∷ []) $ heard ! (Acts h.board.places x act said ls.0) (λ acts.
      -- [the last values; the tokens; what was said; the lender's part; the right to free; the allocator; the cell; the open borrow]
      fsplit ! $ fsplit ! $ move ! (3 ∷ []) $ split ! $ lft_end ! tt $ move ! (0 ∷ 6 ∷ 2 ∷ []) $
      use3 𝓛 (later (‵ ((mem R).own_at ls.0 b o))) (ref_back 𝓛 R (α ∷ []) δ ls.0 b o) $ await ! tt $ use1 𝓛 (‵ (part_at R full_share ls.0 b o)) (of_mem 𝓛 R ls.0 b o) $
      -- [the party; the other token; two entries of the loan; what was said; the right to free; the allocator; the cell; the open borrow]
      move ! (0 ∷ 5 ∷ []) $ fjoin ! $ rewrite ! 0 (λ (p : Ptr). ‵ (maybe_owns (g.dealloc_token h.alloc) R p (Some ls.0))) (sym e) refl $
      move ! (0 ∷ 5 ∷ []) $ loose_in R Z LZ g ! h.at hv h.alloc (Some ls.0) $
      let hr : H-row.Denot = record { at = h.at; alloc = h.alloc; board = h.board; row = h.row; value = Some ls.0 } in
      use1 𝓛 (‵ (H-row.own_val hr (both (ptr_val h.at) hv ∷ []))) (id⊢ 𝓤 _) $ rewrite ! 5 Cell (sym e) refl $
      move ! (5 ∷ 0 ∷ 6 ∷ 7 ∷ 8 ∷ []) $ closes ! tt H-row hr (both (ptr_val h.at) hv ∷ []) rb ro $
      -- [obs; the borrow; the token; the other token; two entries of the loan; what was said]
      move ! (6 ∷ []) $ value_out Said said_laws ! said (u ∷ []) (λ n gsaid eu. lands_as ! (ap only eu) refl gsaid $
      returns ! (look_at ! 0 refl) $ free_all ! refl $ keep ! (1 ∷ 2 ∷ 3 ∷ 0 ∷ []) $
      feq_i ! (List Val) z.0.4.0 (vptr rb ro ∷ []) ws $
      suffices ! _ (ends_at 𝓛 F.ended stayed (F.clauses 𝓛 𝓜.mem 𝓡.returns) z n said (hr, (tt, tt)) (tt, (tt, tt))) $
      says ! (subst (λ (p : Option R.Denot). Obeys h.board.places p act said (Some ls.0)) (sym found.1) acts, refl, refl) $
      group ! 3 $ nothing ! $ nothing ! $ join ! $ move ! (1 ∷ 0 ∷ []) $ join ! $ nothing ! $ move ! (2 ∷ 0 ∷ []) $ join ! $ done !))))))))))))))

pub dispatch_spec : {M : Type 1} → stated.statement M
unfolding tables_of
dispatch_spec 𝓤 𝓛 𝓜 𝓡 wired =
    let 𝓣 : Tables 𝓤 𝓛.H = tables_of 𝓤 𝓛.H 𝓜 (tables 𝓤 𝓛.H 𝓜 𝓡 𝓡.env) in
    entered 𝓤 𝓛.H (triple_of 𝓛 F.signature (F.spec 𝓛 𝓜.mem 𝓡.returns)) 𝓣.C 𝓣.Λ #self code.function (code.unfolded 𝓤 𝓛.H 𝓜 𝓡 wired)
    (walk_Meets 𝓛 F.ended stayed (Goes-ref 𝓛 1 0 tt From, (Goes-dropped 𝓛 1 FromAct yes (λ κs x f. refl), tt)) (F.clauses 𝓛 𝓜.mem 𝓡.returns) (WpFn 𝓤 𝓛.H 𝓣.C 𝓣.Λ code.function) (WpFn-mono 𝓤 𝓛.H 𝓛.laws 𝓣 code.function)
    (walk 𝓛 𝓜 𝓡 wired))
