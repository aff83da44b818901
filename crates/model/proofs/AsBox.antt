-- A handle and its parts own what a box at the same types owns.
use mir.Syntax.{impl, tnil, dnil}
use mathlib.Core.List.{[]}
use Rattle.std.proofs.Common.{◌≡◌, refl}
use Rattle.std.proofs.lemmas.Bool.{false≢true}
use Rattle.std.specs.Prelude.{Option, Some, None, is_some, true}
use denote.Signature.{Slot, plain}
use Rattle.std_alloc.proofs.BoxSteps.Form.{Bx}
use Rattle.std_heap.specs.contracts.Global as Heap
use Rattle.std_heap.specs.contracts.GlobalAllocator.TheImpl.{ghosts, dict}
use Rattle.std_heap.proofs.Global.TheLaws as heap
use Rattle.model.specs.contracts.line_model.LineModel as LineModel
use Rattle.model.proofs.line_model.LineModel.TheLaws as line_model
use Rattle.model.specs.contracts.raw_box.RawBox as RawBox
use Rattle.model.specs.contracts.handle.Handle as Handle

abbrev pub E : Bx
E = record { row = LineModel.the_row; laws = line_model.the_row_laws; al = record { row = Heap.the_row; laws = heap.the_row_laws; g = ghosts; d = dict; drops = impl [] tnil dnil } }

abbrev pub FromParts : Slot 0
FromParts = plain (λ _. RawBox.the_row LineModel.the_row Heap.the_row ghosts)

abbrev pub FromHeap : Slot 0
FromHeap = plain (λ _. Heap.the_row)

abbrev pub FromHandle : Slot 0
FromHandle = plain (λ _. Handle.the_row)

pub the_some : {X : Type 0} (found : Option X) → is_some found ≡ true → (x : X) × (found ≡ Some x)
the_some None e = absurd (false≢true e)
the_some (Some x) e = (x, refl)
