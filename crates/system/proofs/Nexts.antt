-- The next change of an open publication.
use Rattle.std.proofs.Common.{◌≡◌, ◌∙◌, sym, ap, refl, true, Option, Some, None, Ok, subst}
use Rattle.std.specs.Prelude.{option_map, IfSome, IfNone}
use Rattle.frames.specs.declared.CodeId.{CodeId}
use Rattle.frames.specs.declared.Change.{Change}
use Rattle.frames.specs.ImageView.{ImageView, next_code, Counts}
use Rattle.system.specs.declared.thread.Thread.{Thread as Kept}
use Rattle.system.specs.declared.answers.Answer.TheVariants.{Changed}
use Rattle.system.specs.Threads.{Thread, next_change}
use Rattle.system.specs.Places.{changes}
use Rattle.system.specs.Marking.{SameThread}
use Rattle.system.specs.Kept.Acts.{DidNext}
use Rattle.system.proofs.Images.{next_is_left, counted_is_changed, counted_by_difference}

none_next : (old : Kept) (image : ImageView) (t : Thread) (result : Option Change) → SameThread old t → option_map (λ change. change.code) result ≡ None → IfNone result (image ≡ old.image) → DidNext (changes t None) old (record old { image = image }) t (Ok result)
none_next old image t None same e none =
    let with_image : ImageView → Kept = λ i. record old { image = i } in
    let is : record old { image = image } ≡ old = ap with_image none in
    (None, refl, refl, subst (λ (k : Kept). SameThread k t) (sym is) same, is)
none_next old image t (Some change) same e none = cc

some_next : (old : Kept) (image : ImageView) (t : Thread) (code : CodeId) (result : Option Change) → SameThread old t → old.image.publishing ≡ true → next_change t ≡ Some code → option_map (λ change. change.code) result ≡ Some code → IfSome result (λ change. Counts old.image image change) → DidNext (changes t (Some code)) old (record old { image = image }) t (Ok result)
some_next old image t code None same open_ next e counts = cc
some_next old image t code (Some change) same open_ next e counts =
    let code_is : change.code ≡ code = cc in
    let P : CodeId → Type 0 = λ c. next_change t ≡ Some c → DidNext (changes t (Some c)) old (record old { image = image }) t (Ok (Some change)) in
    subst P code_is (λ next'. (
      Some change,
      refl,
      ap (λ by. Changed change.code.serial by) (sym (counted_by_difference old.image image t change same.image next' counts)),
      record {
        name = same.name;
        state = same.state;
        held = same.held;
        published = same.published;
        image = counted_is_changed old.image image t change same.image open_ counts;
      },
      (counts, refl),
    )) next

by_next : (old : Kept) (image : ImageView) (t : Thread) (left : Option CodeId) (result : Option Change) → SameThread old t → old.image.publishing ≡ true → next_change t ≡ left → option_map (λ change. change.code) result ≡ left → IfSome result (λ change. Counts old.image image change) → IfNone result (image ≡ old.image) → DidNext (changes t left) old (record old { image = image }) t (Ok result)
by_next old image t None result same open_ next e counts none = none_next old image t result same e none
by_next old image t (Some code) result same open_ next e counts none = some_next old image t code result same open_ next e counts

pub did_next : (old : Kept) (image : ImageView) (t : Thread) (result : Option Change) → SameThread old t → old.image.publishing ≡ true → option_map (λ change. change.code) result ≡ next_code old.image → IfSome result (λ change. Counts old.image image change) → IfNone result (image ≡ old.image) → DidNext (changes t (next_change t)) old (record old { image = image }) t (Ok result)
did_next old image t result same open_ e counts none = by_next old image t (next_change t) result same open_ refl (e ∙ next_is_left old.image t same.image) counts none
