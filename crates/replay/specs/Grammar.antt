-- The grammar of a line.
use Rattle.std.specs.Prelude.{ℕ, nat_le, length, List, [], ◌∷◌, Option, Some, None, option_map, option_and_then, if◌then◌else◌}
use Rattle.operations.specs.declared.Ask.{Ask as AskKind}
use Rattle.operations.specs.declared.Ask.TheVariants.{Depth, CountOf, Top}
use Rattle.operations.specs.declared.Request.TheVariants.{Handshake, Census}
use Rattle.system.specs.declared.events.Act.TheVariants as act
use Rattle.system.specs.declared.events.Event.{Event}
use Rattle.system.specs.declared.events.Event.TheVariants as event
use Rattle.replay.specs.declared.keywords.Word.{Word}
use Rattle.replay.specs.declared.keywords.Word.TheVariants.{Size, Start, At, Enter, Install, Invalidate, Round, Look, Weigh, Free, Ask, Open, Tell, Operate, Close, Count, State, Resolve}
use Rattle.replay.specs.declared.keywords.AskWord.{AskWord}
use Rattle.replay.specs.declared.keywords.AskWord.TheVariants as ask
use Rattle.replay.specs.declared.grammar.Command.{Command}
use Rattle.replay.specs.declared.grammar.Command.TheVariants as command
use Rattle.replay.specs.Words.{words, number, is_nil}
use Rattle.replay.specs.Keywords.{word_of, ask_of}

-- The first of the words as a number, and the others.
abbrev pub took : List (List ℕ) → Option (ℕ × List (List ℕ))
took [] = None
took (first ∷ others) = option_map (λ n. (n, others)) (number first)

-- No word is left.
abbrev pub none_after : {T : Type 0} → T → List (List ℕ) → Option T
none_after x args = if is_nil args then Some x else None

-- The one word as a number.
abbrev pub last_number : List (List ℕ) → Option ℕ
last_number args = option_and_then (λ taken. none_after taken.0 taken.1) (took args)

-- All words as numbers.
abbrev pub numbers : List (List ℕ) → Option (List ℕ)
numbers [] = Some []
numbers (first ∷ others) = option_and_then (λ n. option_map (λ ns. n ∷ ns) (numbers others)) (number first)

-- An event without an argument.
abbrev pub alone : Event → List (List ℕ) → Option Command
alone event args = none_after (command.Do event) args

-- An event of one number.
abbrev pub of_one : (ℕ → Event) → List (List ℕ) → Option Command
of_one make args = option_map (λ n. command.Do (make n)) (last_number args)

-- An event of two numbers.
abbrev pub of_two : (ℕ → ℕ → Event) → List (List ℕ) → Option Command
of_two make args = option_and_then (λ first. option_map (λ n. command.Do (make first.0 n)) (last_number first.1)) (took args)

-- A method is entered without a code, or with one.
abbrev pub entered : ℕ → ℕ → List (List ℕ) → Option Command
entered place method args =
    if is_nil args then Some (command.Do (event.At place (act.Enter method None)))
    else option_map (λ serial. command.Do (event.At place (act.Enter method (Some serial)))) (last_number args)

abbrev pub enter_of : List (List ℕ) → Option Command
enter_of args = option_and_then (λ place. option_and_then (λ method. entered place.0 method.0 method.1) (took place.1)) (took args)

-- The oldest open operation is closed, or that of a number.
abbrev pub close_of : List (List ℕ) → Option Command
close_of args =
    if is_nil args then Some (command.Do (event.Close None))
    else option_map (λ number. command.Do (event.Close (Some number))) (last_number args)

abbrev pub size_of : List (List ℕ) → Option Command
size_of args = option_and_then (λ x. option_and_then (λ y. option_map (λ z. command.Size x.0 y.0 z) (last_number y.1)) (took x.1)) (took args)

-- A handshake of the threads of these names, which may be none.
abbrev pub handshake : AskKind → List (List ℕ) → Option Command
handshake kind names = option_map (λ targets. command.Do (event.Ask (Handshake targets kind))) (numbers names)

abbrev pub asked : AskWord → List (List ℕ) → Option Command
asked ask.Depth args = handshake Depth args
asked ask.Top args = handshake Top args
asked ask.Count args = option_and_then (λ serial. handshake (CountOf serial.0) serial.1) (took args)
asked ask.Census args = alone (event.Ask Census) args

abbrev pub asking : List (List ℕ) → Option Command
asking [] = None
asking (first ∷ args) = option_and_then (λ word. asked word args) (ask_of first)

-- What a keyword and the words after it spell.
abbrev pub of_word : Word → List (List ℕ) → Option Command
of_word Size args = size_of args
of_word Start args = alone event.Start args
of_word (At act) args = of_one (λ place. event.At place act) args
of_word Enter args = enter_of args
of_word Install args = of_one event.Install args
of_word Invalidate args = of_one event.Invalidate args
of_word Round args = alone event.Round args
of_word Look args = of_two event.Look args
of_word Weigh args = of_one event.Weigh args
of_word Free args = of_one event.Free args
of_word Ask args = asking args
of_word Open args = alone event.Open args
of_word Tell args = of_one event.Tell args
of_word Operate args = alone event.Operate args
of_word Close args = close_of args
of_word Count args = of_one event.Count args
of_word State args = of_one event.CodeState args
of_word Resolve args = of_one event.Resolve args

abbrev pub of_words : List (List ℕ) → Option Command
of_words [] = None
of_words (first ∷ args) = option_and_then (λ word. of_word word args) (word_of first)

-- The command that the line spells. A line of more than 1024 bytes spells none.
abbrev pub command_of : List ℕ → Option Command
command_of line = if nat_le (length line) 1024 then of_words (words line) else None
