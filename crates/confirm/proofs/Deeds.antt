-- What a line of an order spells.
use Rattle.std.proofs.Common.{◌≡◌, ◌∙◌, ℕ, List, Option, Some, None, ap, cond, decimal}
use Rattle.std.specs.Prelude.{bytes_eq}
use Rattle.std.proofs.lemmas.Option.{cond_some, option_and_then_some}
use Rattle.std.proofs.lemmas.Slice.Eq.{bytes_eq-Decides}
use Rattle.call_log.specs.declared.word.Word.{Word}
use Rattle.call_log.specs.declared.tokens.Token.TheVariants.{Number}
use Rattle.call_log.specs.Tokens.{value, number, token_by, token_of}
use Rattle.call_log.specs.Words.{word_of}
use Rattle.confirm.specs.Orders.{owner_in}

by_word : (word : Option Word) (found : Option ℕ) (n : ℕ) → token_by word found ≡ Number n → found ≡ Some n
by_word (Some word) found n e = absurd (let no : None ≡ Some n = ap owner_in e in cc)
by_word None None n e = absurd (let no : None ≡ Some n = ap owner_in e in cc)
by_word None (Some m) n e = ap owner_in e

number_spelled : (bytes : List ℕ) (n : ℕ) → number bytes ≡ Some n → bytes ≡ decimal n
number_spelled bytes n e =
    option_and_then_some (λ m. cond (bytes_eq bytes (decimal m)) (Some m) None) (value 0 bytes) n e (λ m at h.
    let found = cond_some (bytes_eq bytes (decimal m)) m n h in
    (bytes_eq-Decides bytes (decimal m)).0 found.0 ∙ ap decimal found.1)

pub owner_spelled : (bytes : List ℕ) (n : ℕ) → token_of bytes ≡ Number n → bytes ≡ decimal n
owner_spelled bytes n e = number_spelled bytes n (by_word (word_of bytes) (number bytes) n e)
