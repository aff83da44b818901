-- `make` is the generic function at the name of a board and a row.
use denote.Param.{layout}
use Rattle.std.proofs.Common.{◌∙◌, ◌≡◌, List, [], ◌∷◌, ◌++◌, refl, sym, ap, subst}
use seplogic.Ra.Ura.{Ura}
use mir.Val.{Val, has_ty}
use base.Fraction.{full_share}
use base.Logic.{SProp, ent, emp, id⊢}
use base.Fml.{ftrue, fsep, flft}
use prog.Wp.{WpFn, Tables}
use prog.Model.{Model}
use prog.Wired.{Wired}
use types.Logic.{Logic}
use types.Kit.{‵, raw, ◌⊛◌, some, later, ◌$◌, ◌∵◌, !, qed, move, drop, use0, use1, join, split, fsplit, fjoin, pick, suffices, await, done}
use types.Part.{whole, sub, agg}
use types.Run.{stop, fld, no_more, and_then, of_opd, returns, enter}
use types.ByLocal.{alloc_all, pass_all, free_all, look_at, get, get_in, sets, lands_as, env}
use contract.Monad.{fact, fact_i}
use contract.BorrowLft.{◌⊑◌, ⊑_static}
use contract.Running.{Running, MachineTables, tables, tables_of}
use sound.WpLaws.{WpFn-mono}
use denote.RattleType.{RattleType}
use denote.RawPtr.{ptr_val}
use Rattle.bodies.specs.declared.name.Name as Name
use denote.Exit.{yes}
use denote.Builtin.{bool}
use denote.Struct.Tuple.{Tuple}
use denote.Steps.{nothing, heard, only}
use denote.Triple.Spec.{triple_of}
use denote.Triple.Table.{entered}
use denote.Triple.Clauses.{Lasts, lasts}
use denote.Triple.Call.{calls_at}
use denote.Triple.Walked.{says, Stays, stay_dropped, walk_of, ends_at, Goes-dropped, walk_Meets}
use Rattle.core.proofs.atomic.Steps.{fm}
use Rattle.core.proofs.cell.Inside.{Good}
use Rattle.std.proofs.raw_atomic.Calls.{marker, marker_laws, dict}
use Rattle.std_heap.specs.contracts.Global as Heap
use Rattle.std_heap.specs.contracts.GlobalAllocator.TheImpl.{ghosts}
use Rattle.std_heap.proofs.Global.TheLaws as heap
use Rattle.safepoint.proofs.Values.{both, RawBox, loose_good, loose_out, loose_in, pair_in, two_out, value_out, ptr_good, both_tt}
use Rattle.safepoint.specs.Held.{party_of}
use Rattle.safepoint.specs.Told.{Begins}
use Rattle.thread_list.specs.contracts.parts.Parts as PartsRow
use Rattle.thread_list.proofs.parts.Parts.TheLaws as parts_laws
use Rattle.parties.specs.contracts.acts.Act as Act
use Rattle.parties.specs.contracts.acts.Fault as Fault
use Rattle.parties.proofs.acts.Act.TheLaws as act_laws
use Rattle.parties.proofs.acts.Fault.TheLaws as fault_laws
use Rattle.parties.proofs.party.Party.TheLaws as party_laws
use Rattle.core.specs.contracts.result.Result as Result
use Rattle.safepoint.proofs.raw_box.RawBox.TheLaws.{the_row_laws as loose_laws}
use denote.Struct.Field.{bool-field}
use denote.Struct.Laws.{bool-laws, bool-copy}
use denote.Param.Laws.{Laws, of_field, param_laws}
use denote.Param.Shared.{copy_shared}
use denote.Signature.{Slot, plain}
use Rattle.safepoint.specs.contracts.handle.Handle as HandleRow
use Rattle.safepoint.specs.contracts.handle.{Handle.the_row as H-row}
use Rattle.safepoint.specs.contracts.handle.make as callee
use Rattle.safepoint.proofs.handle.make.Met.{met}
use Rattle.safepoint.specs.contracts.handle.Handle.make as F
use Rattle.safepoint.specs.contracts.handle.Handle.make.Key.{name as #self}
use Rattle.safepoint.proofs.handle.Handle.make.Statement as stated
use Rattle.safepoint.proofs.handle.Handle.make.Code as code

abbrev From : Slot 0
From = plain (λ _. Heap.the_row)

yes_laws : Laws bool
yes_laws = of_field bool-field bool-laws refl (copy_shared bool-field bool-copy)

abbrev FromParts : Slot 0
FromParts = plain (λ _. PartsRow.the_row)

abbrev stayed : Stays (F.ended).signature.params (F.ended).kept
stayed = (stay_dropped From yes, (stay_dropped FromParts yes, tt))

module _ {M : Type 1} {𝓤 : Ura M} (𝓛 : Logic 𝓤) (𝓜 : Model 𝓤 𝓛.H) (𝓡 : Running 𝓤 𝓛.H 𝓜) (wired : Wired 𝓡.env code.code) where
  open 𝓛 use {H}

  abbrev 𝓣 : MachineTables 𝓤 𝓛.H 𝓜
  𝓣 = tables 𝓤 𝓛.H 𝓜 𝓡 𝓡.env

  walk : (z : (walk_of 𝓛 F.ended stayed (F.clauses 𝓛 𝓜.mem 𝓡.returns)).Ghost)
      → ent 𝓤 ((walk_of 𝓛 F.ended stayed (F.clauses 𝓛 𝓜.mem 𝓡.returns)).pre z) (WpFn 𝓤 H 𝓣.C 𝓣.Λ code.function (z.0.4.0 ++ (z.0.4.1.0 ++ [])) ((walk_of 𝓛 F.ended stayed (F.clauses 𝓛 𝓜.mem 𝓡.returns)).post z))
  walk z =
      let Post = (walk_of 𝓛 F.ended stayed (F.clauses 𝓛 𝓜.mem 𝓡.returns)).post z in
      let Run : List Val → SProp 𝓤 = λ us. WpFn 𝓤 H 𝓣.C 𝓣.Λ code.function us Post in
      let a = z.0.3.0 in let parts = z.0.3.1.0 in
      let R : RattleType = party_of parts.board parts.row in
      let Z : RattleType = Heap.the_row in
      let LZ = heap.the_row_laws in
      let g = ghosts in
      let gn : Name.Ghosts marker.Denot = record { board = parts.board; poll_row = parts.row } in
      let L₁ : Laws (RawBox R Z LZ g) = loose_laws R Z g (party_laws.the_row_laws (denote.Param.param 0 marker) gn (param_laws 0 marker marker_laws)) LZ in
      let k = triple_of 𝓛 (callee.signature marker gn dict) (callee.spec marker gn dict 𝓛 𝓜.mem 𝓡.returns) in
      qed 𝓛 ((‵ ftrue ⊛ ‵ (fsep (Z.own_val a z.0.4.0) (fsep (PartsRow.the_row.own_val parts z.0.4.1.0) ftrue))) ∷ raw (emp 𝓤) ∷ []) ∵
      split ! $ drop ! $ fsplit ! $ value_out Z LZ ! a z.0.4.0 (λ wa ga wsa. move ! (1 ∷ []) $ fsplit ! $ value_out PartsRow.the_row parts_laws.the_row_laws ! parts z.0.4.1.0 (λ wp gp wsp.
      -- [the parts; nothing; the allocator; nothing]
      let y : k.Ghost = ((([], tt), (full_share, tt), tt, (a, (parts, tt)), (wa ∷ [], (wp ∷ [], tt))), tt) in
      let Tables : Type 0 = (parts.board ≡ gn.board) × (parts.row ≡ gn.poll_row) in
      fjoin ! $ move ! (1 ∷ 0 ∷ []) $ fjoin ! $ nothing ! $ use0 𝓛 (‵ (flft [] full_share)) (𝓛.lfts.lft-nil full_share) $ join ! $ join ! $ move ! (1 ∷ []) $ drop ! $
      use0 𝓛 (raw (fact 𝓤 Tables)) (fact_i 𝓤 Tables (emp 𝓤) (refl, refl)) $
      use0 𝓛 (raw (fact 𝓤 ([] ⊑ []))) (fact_i 𝓤 ([] ⊑ []) (emp 𝓤) (⊑_static [])) $ join ! $ move ! (1 ∷ 0 ∷ []) $ join ! $
      use1 𝓛 (raw (k.pre y)) (id⊢ 𝓤 _) $
      suffices ! (Run (wa ∷ wp ∷ [])) (subst (λ (us : List Val). ent 𝓤 (Run (wa ∷ wp ∷ [])) (Run us)) (sym (λ i. wsa i ++ (wsp i ++ []))) (id⊢ 𝓤 (Run (wa ∷ wp ∷ [])))) $
      enter ! 𝓣.C 𝓣.Λ code.function (wa ∷ wp ∷ []) Post $ alloc_all ! (λ l. pass_all ! refl (ga, (gp, tt)) $
      sets ! (of_opd ! (get ! refl)) refl gp $
      calls_at ! (fm 𝓛 𝓜 𝓡) k (met 𝓤 𝓛 𝓜 𝓡 (code.calls-safepoint::handle::make 𝓡.env wired) marker marker_laws gn dict (record {})) y (and_then ! (get ! refl) (and_then ! (get ! refl) (no_more !))) (λ u.
      use1 𝓛 (later (some (λ (r : (RawBox R Z LZ g).Denot × bool.Denot). ((‵ (flft [] full_share) ⊛ ‵ ftrue) ⊛ ‵ ((Tuple (RawBox R Z LZ g ∷ bool ∷ [])).own_val r (u ∷ []))) ⊛ some (λ (ls : Lasts (callee.ended marker gn dict) ([], tt) y.0.3). ‵ (lasts (callee.ended marker gn dict) ([], tt) y.0.3 ls) ⊛ raw (fact 𝓤 (Begins gn.board gn.poll_row r.0.value r.1)))))) (id⊢ 𝓤 (k.post y u)) $
      await ! tt $ pick ! (λ r. split ! $ move ! (1 ∷ []) $ pick ! (λ _. split ! $ drop ! $ heard ! (Begins gn.board gn.poll_row r.0.value r.1) (λ er. split ! $ drop ! $
      two_out (RawBox R Z LZ g) bool r.0 r.1 ! L₁.one yes_laws.one (L₁.lawful 𝓛) (yes_laws.lawful 𝓛) (u ∷ []) (λ v₁ n g₁ gn' eu.
      loose_out R Z LZ g ! r.0 (v₁ ∷ []) (λ hv₂ ws₂ fits₂.
      let l₂ = loose_good R Z LZ g r.0.at hv₂ fits₂ in let w₂ : Val = both (ptr_val r.0.at) hv₂ in
      let hr : H-row.Denot = record { at = r.0.at; alloc = r.0.alloc; board = parts.board; row = parts.row; value = r.0.value } in
      let outer : Good (layout (Tuple (RawBox R Z LZ g ∷ bool ∷ []))) (both w₂ n) = (both_tt (has_ty (layout (RawBox R Z LZ g)) w₂) (has_ty (layout bool) n) l₂.0 gn'.0, (l₂.1, (gn'.1, tt))) in
      lands_as ! (ap only (eu ∙ (λ j. both (only (ws₂ j)) n ∷ []))) refl outer $
      sets ! (of_opd ! (get_in ! (fld ! refl (stop !)) (sub ! 0 refl (whole !)))) refl l₂ $ sets ! (of_opd ! (get_in ! (fld ! refl (stop !)) (sub ! 1 refl (whole !)))) refl gn' $
      sets ! (of_opd ! (get_in ! (fld ! refl (stop !)) (sub ! 0 refl (whole !)))) refl (ptr_good r.0.at) $ sets ! (of_opd ! (get_in ! (fld ! refl (stop !)) (sub ! 1 refl (whole !)))) refl fits₂ $
      sets ! (of_opd ! (get ! refl)) refl (ptr_good r.0.at) $ sets ! (agg ! (and_then ! (get ! refl) (and_then ! (get ! refl) (no_more !)))) refl l₂ $
      sets ! (agg ! (and_then ! (get ! refl) (and_then ! (get ! refl) (no_more !)))) refl outer $ returns ! (look_at ! 0 refl) $ free_all ! refl $
      loose_in R Z LZ g ! r.0.at hv₂ r.0.alloc r.0.value $ use1 𝓛 (‵ (H-row.own_val hr (w₂ ∷ []))) (id⊢ 𝓤 _) $
      pair_in H-row bool ! hr r.1 w₂ n $
      suffices ! _ (ends_at 𝓛 F.ended stayed (F.clauses 𝓛 𝓜.mem 𝓡.returns) z (both w₂ n) (hr, r.1) (tt, (tt, tt)) (tt, (tt, tt))) $ says ! (er, refl) $
      nothing ! $ nothing ! $ join ! $ nothing ! $ join ! $ nothing ! $ done !)))))))))

pub make_spec : {M : Type 1} → stated.statement M
unfolding tables_of
make_spec 𝓤 𝓛 𝓜 𝓡 wired =
    let 𝓣 : Tables 𝓤 𝓛.H = tables_of 𝓤 𝓛.H 𝓜 (tables 𝓤 𝓛.H 𝓜 𝓡 𝓡.env) in
    entered 𝓤 𝓛.H (triple_of 𝓛 F.signature (F.spec 𝓛 𝓜.mem 𝓡.returns)) 𝓣.C 𝓣.Λ #self code.function (code.unfolded 𝓤 𝓛.H 𝓜 𝓡 wired)
    (walk_Meets 𝓛 F.ended stayed (Goes-dropped 𝓛 0 From yes (λ κs x f. refl), (Goes-dropped 𝓛 0 FromParts yes (λ κs x f. refl), tt)) (F.clauses 𝓛 𝓜.mem 𝓡.returns) (WpFn 𝓤 𝓛.H 𝓣.C 𝓣.Λ code.function) (WpFn-mono 𝓤 𝓛.H 𝓛.laws 𝓣 code.function)
    (walk 𝓛 𝓜 𝓡 wired))
