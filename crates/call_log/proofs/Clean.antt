-- Calls without a fault, with one more behind them.
use Rattle.std.specs.List.{All}
use Rattle.std.proofs.Common.{◌≡◌, ◌∙◌, ℕ, sym, ap, append_assoc, List, [], ◌∷◌, ◌++◌, None}
use Rattle.std.proofs.lemmas.List.Elements.{All-push}
use Rattle.std.proofs.lemmas.Grind.{flat_map-append}
use Rattle.std.proofs.lemmas.List.{append-nil}
use Rattle.call_log.specs.declared.entry.Entry.{Entry}
use Rattle.call_log.specs.Spelled.{line_text, calls_text, ended_text}
use Rattle.call_log.specs.Reading.{IsCall, fault_of}

pub clean_push : (calls : List Entry) (call : Entry) (line : List ℕ) → line ≡ line_text call → fault_of line ≡ None → All IsCall calls → All IsCall (calls ++ call ∷ [])
clean_push calls call line is clean all = All-push IsCall calls call all (sym (ap fault_of is) ∙ clean)

pub text_push : (text : List ℕ) (calls : List Entry) (call : Entry) (rest line behind : List ℕ)
    → text ≡ calls_text calls ++ rest → rest ≡ line ++ 10 ∷ behind → line ≡ line_text call → text ≡ calls_text (calls ++ call ∷ []) ++ behind
text_push text calls call rest line behind is parts spelled =
    is ∙ ap (λ z. calls_text calls ++ z) (parts ∙ ap (λ z. z ++ 10 ∷ behind) spelled ∙ sym (append_assoc (line_text call) (10 ∷ []) behind))
    ∙ sym (ap (λ z. z ++ behind) (flat_map-append ended_text calls (call ∷ [])) ∙ append_assoc (calls_text calls) (ended_text call ++ []) behind ∙ ap (λ z. calls_text calls ++ (z ++ behind)) (append-nil (ended_text call)))
