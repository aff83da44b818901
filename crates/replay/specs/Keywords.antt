-- The keywords.
use Rattle.std.specs.Prelude.{ℕ, codes, bytes_eq, find, List, [], ◌∷◌, Option, None, option_map}
use Rattle.system.specs.declared.events.Act.{Act}
use Rattle.system.specs.declared.events.Act.TheVariants as act
use Rattle.replay.specs.declared.keywords.Word.{Word}
use Rattle.replay.specs.declared.keywords.Word.TheVariants.{Size, Start, At, Enter, Install, Invalidate, Round, Look, Weigh, Free, Ask, Open, Tell, Operate, Close, Count, State, Resolve}
use Rattle.replay.specs.declared.keywords.AskWord.{AskWord}
use Rattle.replay.specs.declared.keywords.AskWord.TheVariants as ask

-- How an act is spelled.
abbrev pub act_text : Act → List ℕ
act_text act.Begin = codes "begin"
act_text act.Change = codes "change"
act_text act.End = codes "end"
act_text act.Wake = codes "wake"
act_text act.Cross = codes "cross"
act_text (act.Enter method code) = codes "enter"
act_text act.Leave = codes "leave"
act_text act.Edge = codes "edge"
act_text act.ToVm = codes "tovm"
act_text act.FromVm = codes "fromvm"
act_text act.ToNative = codes "tonative"
act_text act.Block = codes "block"
act_text act.Exit = codes "exit"
act_text act.Take = codes "take"
act_text act.Finish = codes "finish"
act_text act.Clear = codes "clear"
act_text act.Hold = codes "hold"
act_text act.Release = codes "release"
act_text act.Stack = codes "stack"

-- How a keyword is spelled.
abbrev pub word_text : Word → List ℕ
word_text Size = codes "size"
word_text Start = codes "start"
word_text (At act) = act_text act
word_text Enter = codes "enter"
word_text Install = codes "install"
word_text Invalidate = codes "invalidate"
word_text Round = codes "round"
word_text Look = codes "look"
word_text Weigh = codes "weigh"
word_text Free = codes "free"
word_text Ask = codes "ask"
word_text Open = codes "open"
word_text Tell = codes "tell"
word_text Operate = codes "operate"
word_text Close = codes "close"
word_text Count = codes "count"
word_text State = codes "state"
word_text Resolve = codes "resolve"

-- All keywords that a line may begin with, by their length.
abbrev pub keywords : List Word
keywords =
    At act.End ∷ Ask ∷ At act.Edge ∷ At act.Wake ∷ At act.Take ∷ Tell ∷ At act.Hold ∷ At act.ToVm ∷ Open ∷ Look ∷ Free
    ∷ At act.Exit ∷ Size ∷ Enter ∷ At act.Leave ∷ At act.Begin ∷ At act.Cross ∷ At act.Clear ∷ Close ∷ At act.Block
    ∷ Count ∷ At act.Stack ∷ Start ∷ State ∷ Round ∷ Weigh ∷ At act.Change ∷ At act.Finish ∷ At act.FromVm
    ∷ At act.Release ∷ Operate ∷ Install ∷ Resolve ∷ At act.ToNative ∷ Invalidate ∷ []

-- The keyword of the text.
abbrev pub word_of : List ℕ → Option Word
word_of text = find (λ word. bytes_eq text (word_text word)) keywords

-- The keyword that words begin with, and the words after it.
abbrev pub begun : List (List ℕ) → Option (Word × List (List ℕ))
begun [] = None
begun (first ∷ args) = option_map (λ word. (word, args)) (word_of first)

-- The words that may follow `ask`.
abbrev pub ask_text : AskWord → List ℕ
ask_text ask.Depth = codes "depth"
ask_text ask.Top = codes "top"
ask_text ask.Count = codes "count"
ask_text ask.Census = codes "census"

abbrev pub ask_of : List ℕ → Option AskWord
ask_of text = find (λ word. bytes_eq text (ask_text word)) (ask.Depth ∷ ask.Top ∷ ask.Count ∷ ask.Census ∷ [])
