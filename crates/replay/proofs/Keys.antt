-- The keyword of a line.
use Rattle.std.proofs.Common.{◌≡◌, ℕ, ◌<◌, ◌≤◌, ◌∙◌, zero, suc, sym, Bool, true, false, List, [], ◌∷◌, length, take, drop, Option, Some, None, refl, ap, cond, arith}
use Rattle.std.specs.Prelude.{◌==◌, nat_le, slice_index, bytes_eq, find, option_map, option_and_then}
use Rattle.std.proofs.lemmas.Option.{same_Some}
use Rattle.std.proofs.lemmas.Slice.Eq.{bytes_eq-Decides}
use Rattle.system.specs.declared.events.Act.{Act}
use Rattle.system.specs.declared.events.Act.TheVariants as act
use Rattle.replay.specs.declared.keywords.Word.{Word}
use Rattle.replay.specs.declared.keywords.Word.TheVariants.{Size, Start, At, Enter, Install, Invalidate, Round, Look, Weigh, Free, Ask, Open, Tell, Operate, Close, Count, State, Resolve}
use Rattle.replay.specs.declared.grammar.Command.{Command}
use Rattle.replay.specs.Words.{words, words_after}
use Rattle.replay.specs.Scanned.{first_at}
use Rattle.replay.specs.Keywords.{word_text, keywords, word_of, begun, act_text}
use Rattle.replay.specs.Grammar.{of_word, of_words, command_of}
use Rattle.replay.proofs.Cuts.{words_cut}
use Rattle.replay.proofs.Spellings.{IsWord}

-- What is found passes the test.
pub find_passes : {A : Type 0} (p : A → Bool) (xs : List A) (x : A) → find p xs ≡ Some x → p x ≡ true
find_passes p [] x h = absurd (cc h)
find_passes {A = A} p (y ∷ ys) x h = by_test (p y) refl h (find_passes p ys x)
  where
    by_test : (b : Bool) → p y ≡ b → cond b (Some y) (find p ys) ≡ Some x → (find p ys ≡ Some x → p x ≡ true) → p x ≡ true
    by_test true e k more = ap p (sym (same_Some y x k)) ∙ e
    by_test false e k more = more k

pub keyword_is : (text : List ℕ) (word : Word) → word_of text ≡ Some word → text ≡ word_text word
keyword_is text word found = (bytes_eq-Decides text (word_text word)).0 (find_passes (λ w. bytes_eq text (word_text w)) keywords word found)

pub act_word : (deed : Act) → IsWord (act_text deed)
act_word deed = elim deed as (λ k. IsWord (act_text k)) [ act.Begin ↦ refl | act.Change ↦ refl | act.End ↦ refl | act.Wake ↦ refl | act.Cross ↦ refl | act.Enter m c ↦ refl | act.Leave ↦ refl | act.Edge ↦ refl | act.ToVm ↦ refl | act.FromVm ↦ refl | act.ToNative ↦ refl | act.Block ↦ refl | act.Exit ↦ refl | act.Take ↦ refl | act.Finish ↦ refl | act.Clear ↦ refl | act.Hold ↦ refl | act.Release ↦ refl | act.Stack ↦ refl ]

-- No space stands in a keyword.
word_word : (word : Word) → IsWord (word_text word)
word_word Size = refl
word_word Start = refl
word_word (At deed) = act_word deed
word_word Enter = refl
word_word Install = refl
word_word Invalidate = refl
word_word Round = refl
word_word Look = refl
word_word Weigh = refl
word_word Free = refl
word_word Ask = refl
word_word Open = refl
word_word Tell = refl
word_word Operate = refl
word_word Close = refl
word_word Count = refl
word_word State = refl
word_word Resolve = refl

-- A space behind bytes without one is the first.
first_in : (n : ℕ) (line : List ℕ) → n < length line → first_at 32 (take n line) ≡ length (take n line) → slice_index line n ≡ 32 → first_at 32 line ≡ n
first_in n [] below none space = absurd (omega (arith, below))
first_in zero (b ∷ line) below none space = let is : (b == 32) ≡ true = grind (arith, space) in ap (λ t. cond t 0 (suc (first_at 32 line))) is
first_in (suc n) (b ∷ line) below none space = by_test (b == 32) none (λ left. first_in n line (omega (arith, below)) left space)
  where
    by_test : (t : Bool) → cond t 0 (suc (first_at 32 (take n line))) ≡ suc (length (take n line)) → (first_at 32 (take n line) ≡ length (take n line) → first_at 32 line ≡ n) → cond t 0 (suc (first_at 32 line)) ≡ suc n
    by_test true left more = absurd (omega (arith, left))
    by_test false left more = ap suc (more (omega (arith, left)))

abbrev with_args : List (List ℕ) → Word → Word × List (List ℕ)
with_args args word = (word, args)

-- The line begins with the keyword that stands before its first space, if any.
pub cut_at : (n : ℕ) (line : List ℕ) (o : Option Word) → n ≡ first_at 32 line → o ≡ word_of (take n line) → option_map (with_args (words_after (drop n line))) o ≡ begun (words line)
cut_at n line o first read =
    ap (option_map (with_args (words_after (drop n line)))) read
    ∙ ap (λ k. begun (take k line ∷ words_after (drop k line))) first
    ∙ ap begun (sym (words_cut line))

-- A keyword with a space behind it.
pub spaced_at : (n : ℕ) (line : List ℕ) (word : Word) → n < length line → slice_index line n ≡ 32 → Some word ≡ word_of (take n line) → Some (with_args (words_after (drop n line)) word) ≡ begun (words line)
spaced_at n line word below space found =
    let text = keyword_is (take n line) word (sym found) in
    let none : first_at 32 (take n line) ≡ length (take n line) = ap (first_at 32) text ∙ word_word word ∙ ap length (sym text) in
    cut_at n line (Some word) (sym (first_in n line below none space)) found

abbrev ends_at : List ℕ → Word × ℕ → Word × List (List ℕ)
ends_at line it = (it.0, words_after (drop it.1 line))

of_begun : (ws : List (List ℕ)) → of_words ws ≡ option_and_then (λ it. of_word it.0 it.1) (begun ws)
of_begun [] = refl
of_begun (first ∷ args) = by_word (word_of first)
  where
    by_word : (o : Option Word) → option_and_then (λ word. of_word word args) o ≡ option_and_then (λ it. of_word it.0 it.1) (option_map (with_args args) o)
    by_word None = refl
    by_word (Some word) = refl

-- The command of a line, by its keyword and the words after that.
pub command_begun : (line tail : List ℕ) (word : Word) (n : ℕ) (r : Option Command) → length line ≤ 1024 → tail ≡ drop n line → Some (ends_at line (word, n)) ≡ begun (words line) → r ≡ of_word word (words_after tail) → r ≡ command_of line
command_begun line tail word n r short back some read =
    let fits : nat_le (length line) 1024 ≡ true = grind (arith, short) in
    read
    ∙ ap (λ z. of_word word (words_after z)) back
    ∙ sym (of_begun (words line) ∙ ap (option_and_then (λ it. of_word it.0 it.1)) (sym some))
    ∙ ap (λ b. cond b (of_words (words line)) None) (sym fits)
