-- `none` is the generic function at the name of a board and a row.
use Rattle.std.proofs.Common.{List, [], ◌∷◌, ◌++◌, refl, sym, subst}
use Rattle.std.specs.Prelude.{None}
use seplogic.Ra.Ura.{Ura}
use mir.Val.{Val}
use base.Logic.{SProp, ent, emp, id⊢}
use base.Fml.{ftrue, fsep}
use prog.Wp.{WpFn, Tables}
use prog.Model.{Model}
use prog.Wired.{Wired}
use types.Logic.{Logic}
use types.Kit.{‵, raw, ◌⊛◌, ◌$◌, ◌∵◌, !, qed, move, drop, use1, join, split, fsplit, fjoin, suffices, done}
use types.Part.{agg}
use types.Run.{lit, no_more, and_then, returns, enter}
use types.ByLocal.{alloc_all, pass_all, free_all, look_at, get, sets, env}
use contract.Running.{Running, MachineTables, tables, tables_of}
use sound.WpLaws.{WpFn-mono}
use denote.RattleType.{RattleType}
use denote.RawPtr.{ptr_val, null_ptr}
use Rattle.bodies.specs.declared.name.Name as Name
use denote.Exit.{yes}
use denote.Builtin.{bool}
use denote.Steps.{nothing}
use denote.Triple.Spec.{triple_of}
use denote.Triple.Table.{entered}
use denote.Triple.Walked.{says, Stays, stay_dropped, walk_of, ends_at, Goes-dropped, walk_Meets}
use Rattle.std_heap.specs.contracts.Global as Heap
use Rattle.std_heap.specs.contracts.GlobalAllocator.TheImpl.{ghosts}
use Rattle.std_heap.proofs.Global.TheLaws as heap
use Rattle.safepoint.proofs.Values.{both, loose_good, loose_in, value_out}
use Rattle.safepoint.specs.Held.{party_of, no_board, no_row}
use Rattle.parties.specs.contracts.acts.Act as Act
use Rattle.parties.specs.contracts.acts.Fault as Fault
use Rattle.parties.proofs.acts.Act.TheLaws as act_laws
use Rattle.parties.proofs.acts.Fault.TheLaws as fault_laws
use Rattle.parties.proofs.party.Party.TheLaws as party_laws
use Rattle.core.specs.contracts.result.Result as Result
use denote.Struct.Field.{bool-field}
use denote.Struct.Laws.{bool-laws, bool-copy}
use denote.Param.Laws.{Laws, of_field}
use denote.Param.Shared.{copy_shared}
use denote.Signature.{Slot, plain}
use Rattle.safepoint.specs.contracts.handle.Handle as HandleRow
use Rattle.safepoint.specs.contracts.handle.{Handle.the_row as H-row}
use Rattle.safepoint.specs.contracts.handle.Handle.none as F
use Rattle.safepoint.specs.contracts.handle.Handle.none.Key.{name as #self}
use Rattle.safepoint.proofs.handle.Handle.none.Statement as stated
use Rattle.safepoint.proofs.handle.Handle.none.Code as code

abbrev From : Slot 0
From = plain (λ _. Heap.the_row)

yes_laws : Laws bool
yes_laws = of_field bool-field bool-laws refl (copy_shared bool-field bool-copy)

abbrev stayed : Stays (F.ended).signature.params (F.ended).kept
stayed = (stay_dropped From yes, tt)

module _ {M : Type 1} {𝓤 : Ura M} (𝓛 : Logic 𝓤) (𝓜 : Model 𝓤 𝓛.H) (𝓡 : Running 𝓤 𝓛.H 𝓜) (wired : Wired 𝓡.env code.code) where
  open 𝓛 use {H}

  abbrev 𝓣 : MachineTables 𝓤 𝓛.H 𝓜
  𝓣 = tables 𝓤 𝓛.H 𝓜 𝓡 𝓡.env

  walk : (z : (walk_of 𝓛 F.ended stayed (F.clauses 𝓛 𝓜.mem 𝓡.returns)).Ghost)
      → ent 𝓤 ((walk_of 𝓛 F.ended stayed (F.clauses 𝓛 𝓜.mem 𝓡.returns)).pre z) (WpFn 𝓤 H 𝓣.C 𝓣.Λ code.function (z.0.4.0 ++ []) ((walk_of 𝓛 F.ended stayed (F.clauses 𝓛 𝓜.mem 𝓡.returns)).post z))
  walk z =
      let Post = (walk_of 𝓛 F.ended stayed (F.clauses 𝓛 𝓜.mem 𝓡.returns)).post z in
      let Run : List Val → SProp 𝓤 = λ us. WpFn 𝓤 H 𝓣.C 𝓣.Λ code.function us Post in
      let a = z.0.3.0 in
      let R : RattleType = party_of no_board no_row in
      let Z : RattleType = Heap.the_row in
      let LZ = heap.the_row_laws in
      let g = ghosts in
      let hr : H-row.Denot = record { at = null_ptr; alloc = a; board = no_board; row = no_row; value = None } in
      qed 𝓛 ((‵ ftrue ⊛ ‵ (fsep (Z.own_val a z.0.4.0) ftrue)) ∷ raw (emp 𝓤) ∷ []) ∵ split ! $ drop ! $ fsplit ! $
      value_out Z LZ ! a z.0.4.0 (λ hv ga ws. move ! (1 ∷ 2 ∷ []) $ drop ! $ drop ! $
      let w : Val = both (ptr_val null_ptr) hv in
      nothing ! $ loose_in R Z LZ g ! null_ptr hv a None $ use1 𝓛 (‵ (H-row.own_val hr (w ∷ []))) (id⊢ 𝓤 _) $
      suffices ! (Run (hv ∷ [])) (subst (λ (us : List Val). ent 𝓤 (Run (hv ∷ [])) (Run us)) (sym (λ i. ws i ++ [])) (id⊢ 𝓤 (Run (hv ∷ [])))) $
      enter ! 𝓣.C 𝓣.Λ code.function (hv ∷ []) Post $ alloc_all ! (λ l. pass_all ! refl (ga, tt) $
      sets ! (agg ! (and_then ! (lit ! tt) (and_then ! (get ! refl) (no_more !)))) refl (loose_good R Z LZ g null_ptr hv ga) $ returns ! (look_at ! 0 refl) $ free_all ! refl $
      suffices ! _ (ends_at 𝓛 F.ended stayed (F.clauses 𝓛 𝓜.mem 𝓡.returns) z w hr (tt, tt) (tt, tt)) $ says ! refl $
      nothing ! $ nothing ! $ fjoin ! $ join ! $ nothing ! $ join ! $ done !))

pub none_spec : {M : Type 1} → stated.statement M
unfolding tables_of
none_spec 𝓤 𝓛 𝓜 𝓡 wired =
    let 𝓣 : Tables 𝓤 𝓛.H = tables_of 𝓤 𝓛.H 𝓜 (tables 𝓤 𝓛.H 𝓜 𝓡 𝓡.env) in
    entered 𝓤 𝓛.H (triple_of 𝓛 F.signature (F.spec 𝓛 𝓜.mem 𝓡.returns)) 𝓣.C 𝓣.Λ #self code.function (code.unfolded 𝓤 𝓛.H 𝓜 𝓡 wired)
    (walk_Meets 𝓛 F.ended stayed (Goes-dropped 𝓛 0 From yes (λ κs x f. refl), tt) (F.clauses 𝓛 𝓜.mem 𝓡.returns) (WpFn 𝓤 𝓛.H 𝓣.C 𝓣.Λ code.function) (WpFn-mono 𝓤 𝓛.H 𝓛.laws 𝓣 code.function)
    (walk 𝓛 𝓜 𝓡 wired))
