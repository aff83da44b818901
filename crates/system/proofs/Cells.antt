-- The index stays right if the codes and their counts are unchanged.
use Rattle.std.proofs.Common.{◌≡◌, ◌∙◌, ◌<◌, sym, ap, refl, subst, ℕ, zero, suc, true, eqb, List, Option, Some, None, arith}
use Rattle.std.specs.Prelude.{slice_get, replicate}
use Rattle.std.proofs.lemmas.List.{length-replicate}
use Rattle.std.proofs.lemmas.Bool.Decides.{nat_tests}
use Rattle.activation_index.specs.declared.Entry.{Entry}
use Rattle.activation_index.specs.Cells.{count_if, count_at, cell_of}
use Rattle.method_table.specs.declared.Code.{Code}
use Rattle.method_table.specs.Codes.{code_of, unfreed, id_of, next_serial}
use Rattle.system.specs.World.{World, part_at, walk, start_world}
use Rattle.system.specs.Facts.{TableIsSound}
use Rattle.system.specs.Stands.{SameCells, walk_of}
use Rattle.system.proofs.Table.{unfreed_code, unfreed_takes}

pub cells_over : (cells : List Entry) (w v : World) → v.codes ≡ w.codes → v.slots ≡ w.slots → ((o : Option Code) → walk_of v o ≡ walk_of w o) → SameCells cells w → SameCells cells v
cells_over cells w v codes slots walks h = record {
  lengths = h.lengths ∙ sym slots;
  here = λ serial code found takes. h.here serial code (ap (λ cs. code_of cs serial) (sym codes) ∙ found) takes ∙ ap (λ n. Some (cell_of serial n)) (sym (walks (Some code)));
  own = λ slot cell at_slot some. (let o = h.own slot cell at_slot some in (o.0, ap (λ cs. code_of cs cell.serial) codes ∙ o.1, o.2, o.3));
  low = λ slot cell at_slot. subst (λ cs. cell.serial < next_serial cs) (sym codes) (h.low slot cell at_slot);
}

walks_stay : (w v : World) → v.places ≡ w.places → (o : Option Code) → walk_of v o ≡ walk_of w o
walks_stay w v places None = refl
walks_stay w v places (Some code) = ap (λ ps. Rattle.std.specs.Prelude.sum_by (part_at (id_of code)) ps) places

-- no place changes
pub cells_stay : (cells : List Entry) (w v : World) → v.codes ≡ w.codes → v.slots ≡ w.slots → v.places ≡ w.places → SameCells cells w → SameCells cells v
cells_stay cells w v codes slots places h = cells_over cells w v codes slots (walks_stay w v places) h

-- the cell of an unfreed code has its count
pub count_here : (cells : List Entry) (w : World) → SameCells cells w → TableIsSound w.slots w.methods w.codes → (serial : ℕ) (code : Code) → unfreed w.codes serial ≡ Some code → count_at cells code.slot serial ≡ walk w (id_of code)
count_here cells w h table serial code found =
    let self : eqb serial serial ≡ true = grind (arith, nat_tests) in
    ap (count_if serial) (h.here serial code (unfreed_code w.slots w.methods w.codes table serial code found) (unfreed_takes w.codes serial code found)) ∙ rw self refl

-- cells without a code
replicate_at : (n i : ℕ) (x y : Entry) → slice_get (replicate n x) i ≡ Some y → x ≡ y
replicate_at zero i x y h = cc
replicate_at (suc n) zero x y h = cc
replicate_at (suc n) (suc i) x y h = replicate_at n i x y h

pub no_cells : (places slots methods : ℕ) → SameCells (replicate slots (cell_of 0 0)) (start_world places slots methods)
no_cells places slots methods = record {
  lengths = length-replicate slots (cell_of 0 0);
  here = λ serial code found takes. (let bad : None ≡ Some code = found in cc);
  own = λ slot cell at_slot some. (let is = ap (λ (e : Entry). e.count) (replicate_at slots slot (cell_of 0 0) cell at_slot) in absurd (omega (arith, is, some)));
  low = λ slot cell at_slot. (let is = ap (λ (e : Entry). e.serial) (replicate_at slots slot (cell_of 0 0) cell at_slot) in omega (arith, is));
}
