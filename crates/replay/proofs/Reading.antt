-- A line spells a command exactly where it is its spelling.
use Rattle.std.proofs.Common.{◌≡◌, ℕ, ◌^◌, ◌<◌, ◌∙◌, sym, Bool, true, false, List, [], ◌∷◌, ◌++◌, length, Option, Some, None, refl, ap, subst, cond, arith, map}
use Rattle.std.specs.Prelude.{nat_le, decimal, codes, bytes_eq, option_map, option_and_then}
use Rattle.std.specs.List.{AllByRecursion}
use Rattle.std.proofs.lemmas.Option.{same_Some, option_and_then_some}
use Rattle.std.proofs.lemmas.Slice.Eq.{bytes_eq-Decides}
use Rattle.operations.specs.declared.Ask.{Ask as AskKind}
use Rattle.operations.specs.declared.Ask.TheVariants.{Depth, CountOf, Top}
use Rattle.operations.specs.declared.Request.{Request}
use Rattle.operations.specs.declared.Request.TheVariants.{Handshake, Census}
use Rattle.system.specs.declared.events.Act.{Act}
use Rattle.system.specs.declared.events.Act.TheVariants as act
use Rattle.system.specs.declared.events.Event.{Event}
use Rattle.system.specs.declared.events.Event.TheVariants as event
use Rattle.replay.specs.declared.grammar.Command.{Command}
use Rattle.replay.specs.declared.grammar.Command.TheVariants as command
use Rattle.replay.specs.declared.keywords.Word.{Word}
use Rattle.replay.specs.declared.keywords.Word.TheVariants.{Size, Start, At, Enter, Install, Invalidate, Round, Look, Weigh, Free, Ask, Open, Tell, Operate, Close, Count, State, Resolve}
use Rattle.replay.specs.declared.keywords.AskWord.{AskWord}
use Rattle.replay.specs.declared.keywords.AskWord.TheVariants as ask
use Rattle.replay.specs.Words.{words, spaced, number}
use Rattle.replay.specs.Keywords.{word_text, word_of, ask_text, ask_of, act_text}
use Rattle.replay.specs.Grammar.{took, none_after, last_number, numbers, alone, of_one, of_two, entered, enter_of, close_of, size_of, handshake, asked, asking, of_word, of_words, command_of}
use Rattle.replay.specs.Spelling.{act_numbers, ask_words, request_words, event_words, command_words, request_numbers, event_numbers, command_numbers, AreSmall, IsSpelledBy}
use Rattle.replay.proofs.Keys.{find_passes, keyword_is, act_word}
use Rattle.replay.proofs.Spellings.{IsWord, decimal_word, number_of_decimal, decimal_of_number, spaced_words, words_spaced, decimals_words}

-- The words are those of the command, and its numbers are small.
record Spells (ws : List (List ℕ)) (c : Command) : Type 0 where
  words : ws ≡ command_words c
  small : AreSmall (command_numbers c)

abbrev tuple : ℕ → List (List ℕ) → ℕ × List (List ℕ)
tuple n ws = (n, ws)

-- Numbers and the words behind them.
took_reads : (args : List (List ℕ)) (t : ℕ × List (List ℕ)) → took args ≡ Some t → (args ≡ decimal t.0 ∷ t.1) × (t.0 < 2 ^ 40)
took_reads [] t h = absurd (cc h)
took_reads (w ∷ ws) t h = by_number (number w) refl h
  where
    by_number : (o : Option ℕ) → number w ≡ o → option_map (λ n. tuple n ws) o ≡ Some t → (w ∷ ws ≡ decimal t.0 ∷ t.1) × (t.0 < 2 ^ 40)
    by_number None e k = absurd (cc k)
    by_number (Some n) e k =
        let same : tuple n ws ≡ t = same_Some (tuple n ws) t k in
        let read = decimal_of_number w n e in
        let first : n ≡ t.0 = ap (λ p. p.0) same in
        let rest : ws ≡ t.1 = ap (λ p. p.1) same in
        (ap (λ z. z ∷ ws) (read.0 ∙ ap decimal first) ∙ ap (λ z. decimal t.0 ∷ z) rest, subst (λ (k : ℕ). k < 2 ^ 40) first read.1)

none_reads : {T : Type 0} (x y : T) (args : List (List ℕ)) → none_after x args ≡ Some y → (args ≡ []) × (x ≡ y)
none_reads x y [] h = (refl, same_Some x y h)
none_reads x y (w ∷ ws) h = absurd (cc h)

last_reads : (args : List (List ℕ)) (n : ℕ) → last_number args ≡ Some n → (args ≡ decimal n ∷ []) × (n < 2 ^ 40)
last_reads args n h = option_and_then_some (λ t. none_after t.0 t.1) (took args) n h (λ t e f.
    let read = took_reads args t e in
    let none = none_reads t.0 n t.1 f in
    (read.0 ∙ ap (λ z. decimal t.0 ∷ z) none.0 ∙ ap (λ k. decimal k ∷ []) none.1, subst (λ (k : ℕ). k < 2 ^ 40) none.1 read.1))

map_some : {A B : Type 0} (f : A → B) (o : Option A) (y : B) → option_map f o ≡ Some y → (x : A) × (o ≡ Some x) × (f x ≡ y)
map_some f None y h = absurd (cc h)
map_some f (Some x) y h = (x, refl, same_Some (f x) y h)

numbers_read : (args : List (List ℕ)) (ns : List ℕ) → numbers args ≡ Some ns → (args ≡ map decimal ns) × AreSmall ns
numbers_read [] ns h = let e : [] ≡ ns = same_Some [] ns h in subst (λ (z : List ℕ). ([] ≡ map decimal z) × AreSmall z) e (refl, tt)
numbers_read (w ∷ ws) ns h = option_and_then_some (λ n. option_map (λ ms. n ∷ ms) (numbers ws)) (number w) ns h (λ n e f.
    let m = map_some (λ ms. n ∷ ms) (numbers ws) ns f in
    let rest = numbers_read ws m.0 m.1 in
    let first = decimal_of_number w n e in
    subst (λ (z : List ℕ). (w ∷ ws ≡ map decimal z) × AreSmall z) m.2 (ap (λ z. z ∷ ws) first.0 ∙ ap (λ z. decimal n ∷ z) rest.0, (first.1, rest.1)))

alone_reads : (e : Event) (key : List ℕ) (args : List (List ℕ)) (c : Command) → event_words e ≡ key ∷ [] → event_numbers e ≡ [] → alone e args ≡ Some c → Spells (key ∷ args) c
alone_reads e key args c ws ns h =
    let none = none_reads (command.Do e) c args h in
    subst (λ (z : Command). Spells (key ∷ args) z) none.1 (record { words = ap (λ z. key ∷ z) none.0 ∙ sym ws; small = subst (λ (z : List ℕ). AreSmall z) (sym ns) tt })

one_reads : (make : ℕ → Event) (key : List ℕ) (args : List (List ℕ)) (c : Command) → ((n : ℕ) → event_words (make n) ≡ key ∷ decimal n ∷ []) → ((n : ℕ) → event_numbers (make n) ≡ n ∷ []) → of_one make args ≡ Some c → Spells (key ∷ args) c
one_reads make key args c ws ns h =
    let m = map_some (λ n. command.Do (make n)) (last_number args) c h in
    let read = last_reads args m.0 m.1 in
    subst (λ (z : Command). Spells (key ∷ args) z) m.2 (record { words = ap (λ z. key ∷ z) read.0 ∙ sym (ws m.0); small = subst (λ (z : List ℕ). AreSmall z) (sym (ns m.0)) (read.1, tt) })

two_read : (args : List (List ℕ)) (c : Command) → of_two event.Look args ≡ Some c → Spells (codes "look" ∷ args) c
two_read args c h = option_and_then_some (λ first. option_map (λ n. command.Do (event.Look first.0 n)) (last_number first.1)) (took args) c h (λ t e f.
    let first = took_reads args t e in
    let m = map_some (λ n. command.Do (event.Look t.0 n)) (last_number t.1) c f in
    let last = last_reads t.1 m.0 m.1 in
    subst (λ (z : Command). Spells (codes "look" ∷ args) z) m.2 (record { words = ap (λ z. codes "look" ∷ z) (first.0 ∙ ap (λ z. decimal t.0 ∷ z) last.0); small = (first.1, (last.1, tt)) }))

size_reads : (args : List (List ℕ)) (c : Command) → size_of args ≡ Some c → Spells (codes "size" ∷ args) c
size_reads args c h = option_and_then_some (λ x. option_and_then (λ y. option_map (λ z. command.Size x.0 y.0 z) (last_number y.1)) (took x.1)) (took args) c h (λ x e f.
    option_and_then_some (λ y. option_map (λ z. command.Size x.0 y.0 z) (last_number y.1)) (took x.1) c f (λ y e2 f2.
    let first = took_reads args x e in
    let second = took_reads x.1 y e2 in
    let m = map_some (λ z. command.Size x.0 y.0 z) (last_number y.1) c f2 in
    let last = last_reads y.1 m.0 m.1 in
    subst (λ (z : Command). Spells (codes "size" ∷ args) z) m.2 (record {
      words = ap (λ z. codes "size" ∷ z) (first.0 ∙ ap (λ z. decimal x.0 ∷ z) (second.0 ∙ ap (λ z. decimal y.0 ∷ z) last.0));
      small = (first.1, (second.1, (last.1, tt)));
    })))

entered_reads : (place method : ℕ) (args : List (List ℕ)) (c : Command) → place < 2 ^ 40 → method < 2 ^ 40 → entered place method args ≡ Some c → Spells (codes "enter" ∷ decimal place ∷ decimal method ∷ args) c
entered_reads place method [] c p m h =
    let e = same_Some (command.Do (event.At place (act.Enter method None))) c h in
    subst (λ (z : Command). Spells (codes "enter" ∷ decimal place ∷ decimal method ∷ []) z) e (record { words = refl; small = (p, (m, tt)) })
entered_reads place method (w ∷ ws) c p m h =
    let s = map_some (λ serial. command.Do (event.At place (act.Enter method (Some serial)))) (last_number (w ∷ ws)) c h in
    let last = last_reads (w ∷ ws) s.0 s.1 in
    subst (λ (z : Command). Spells (codes "enter" ∷ decimal place ∷ decimal method ∷ w ∷ ws) z) s.2 (record {
      words = ap (λ z. codes "enter" ∷ decimal place ∷ decimal method ∷ z) last.0;
      small = (p, (m, (last.1, tt)));
    })

enter_reads : (args : List (List ℕ)) (c : Command) → enter_of args ≡ Some c → Spells (codes "enter" ∷ args) c
enter_reads args c h = option_and_then_some (λ place. option_and_then (λ method. entered place.0 method.0 method.1) (took place.1)) (took args) c h (λ x e f.
    option_and_then_some (λ method. entered x.0 method.0 method.1) (took x.1) c f (λ y e2 f2.
    let first = took_reads args x e in
    let second = took_reads x.1 y e2 in
    let spells = entered_reads x.0 y.0 y.1 c first.1 second.1 f2 in
    subst (λ (z : List (List ℕ)). Spells (codes "enter" ∷ z) c) (sym (first.0 ∙ ap (λ z. decimal x.0 ∷ z) second.0)) spells))

close_reads : (args : List (List ℕ)) (c : Command) → close_of args ≡ Some c → Spells (codes "close" ∷ args) c
close_reads [] c h =
    let e = same_Some (command.Do (event.Close None)) c h in
    subst (λ (z : Command). Spells (codes "close" ∷ []) z) e (record { words = refl; small = tt })
close_reads (w ∷ ws) c h =
    let m = map_some (λ n. command.Do (event.Close (Some n))) (last_number (w ∷ ws)) c h in
    let last = last_reads (w ∷ ws) m.0 m.1 in
    subst (λ (z : Command). Spells (codes "close" ∷ w ∷ ws) z) m.2 (record { words = ap (λ z. codes "close" ∷ z) last.0; small = (last.1, tt) })

small_both : (ms ns : List ℕ) → AreSmall ms → AreSmall ns → AreSmall (ms ++ ns)
small_both [] ns h k = k
small_both (m ∷ ms) ns h k = (h.0, small_both ms ns h.1 k)

plain_asks : (kind : AskKind) (head : List (List ℕ)) (args : List (List ℕ)) (c : Command) → ask_words kind ≡ head → AreSmall (request_numbers (Handshake [] kind)) → handshake kind args ≡ Some c → Spells (codes "ask" ∷ (head ++ args)) c
plain_asks kind head args c ws small h =
    let m = map_some (λ targets. command.Do (event.Ask (Handshake targets kind))) (numbers args) c h in
    let read = numbers_read args m.0 m.1 in
    subst (λ (z : Command). Spells (codes "ask" ∷ (head ++ args)) z) m.2 (record {
      words = ap (λ z. codes "ask" ∷ (z ++ args)) (sym ws) ∙ ap (λ z. codes "ask" ∷ (ask_words kind ++ z)) read.0;
      small = all kind m.0 small read.1;
    })
  where
    all : (kind : AskKind) (targets : List ℕ) → AreSmall (request_numbers (Handshake [] kind)) → AreSmall targets → AreSmall (request_numbers (Handshake targets kind))
    all Depth targets s k = k
    all (CountOf serial) targets s k = (s.0, k)
    all Top targets s k = k

asked_reads : (word : AskWord) (args : List (List ℕ)) (c : Command) → asked word args ≡ Some c → Spells (codes "ask" ∷ ask_text word ∷ args) c
asked_reads ask.Depth args c h = plain_asks Depth (codes "depth" ∷ []) args c refl tt h
asked_reads ask.Top args c h = plain_asks Top (codes "top" ∷ []) args c refl tt h
asked_reads ask.Count args c h = option_and_then_some (λ serial. handshake (CountOf serial.0) serial.1) (took args) c h (λ t e f.
    let first = took_reads args t e in
    subst (λ (z : List (List ℕ)). Spells (codes "ask" ∷ codes "count" ∷ z) c) (sym first.0) (plain_asks (CountOf t.0) (codes "count" ∷ decimal t.0 ∷ []) t.1 c refl (first.1, tt) f))
asked_reads ask.Census args c h =
    let none = none_reads (command.Do (event.Ask Census)) c args h in
    subst (λ (z : Command). Spells (codes "ask" ∷ codes "census" ∷ args) z) none.1 (record { words = ap (λ z. codes "ask" ∷ codes "census" ∷ z) none.0; small = tt })

asking_reads : (args : List (List ℕ)) (c : Command) → asking args ≡ Some c → Spells (codes "ask" ∷ args) c
asking_reads [] c h = absurd (cc h)
asking_reads (first ∷ args) c h = option_and_then_some (λ word. asked word args) (ask_of first) c h (λ word e f.
    let is : first ≡ ask_text word = (bytes_eq-Decides first (ask_text word)).0 (find_passes (λ w. bytes_eq first (ask_text w)) (ask.Depth ∷ ask.Top ∷ ask.Count ∷ ask.Census ∷ []) word e) in
    subst (λ (z : List ℕ). Spells (codes "ask" ∷ z ∷ args) c) (sym is) (asked_reads word args c f))

act_reads : (deed : Act) (args : List (List ℕ)) (c : Command) → word_of (act_text deed) ≡ Some (At deed) → of_one (λ place. event.At place deed) args ≡ Some c → Spells (act_text deed ∷ args) c
act_reads (act.Enter method code) args c listed h = absurd (cc listed)
act_reads other args c listed h = one_reads (λ place. event.At place other) (act_text other) args c (λ n. refl) (λ n. refl) h

word_reads : (word : Word) (args : List (List ℕ)) (c : Command) → word_of (word_text word) ≡ Some word → of_word word args ≡ Some c → Spells (word_text word ∷ args) c
word_reads Size args c listed h = size_reads args c h
word_reads Start args c listed h = alone_reads event.Start (codes "start") args c refl refl h
word_reads (At deed) args c listed h = act_reads deed args c listed h
word_reads Enter args c listed h = enter_reads args c h
word_reads Install args c listed h = one_reads event.Install (codes "install") args c (λ n. refl) (λ n. refl) h
word_reads Invalidate args c listed h = one_reads event.Invalidate (codes "invalidate") args c (λ n. refl) (λ n. refl) h
word_reads Round args c listed h = alone_reads event.Round (codes "round") args c refl refl h
word_reads Look args c listed h = two_read args c h
word_reads Weigh args c listed h = one_reads event.Weigh (codes "weigh") args c (λ n. refl) (λ n. refl) h
word_reads Free args c listed h = one_reads event.Free (codes "free") args c (λ n. refl) (λ n. refl) h
word_reads Ask args c listed h = asking_reads args c h
word_reads Open args c listed h = alone_reads event.Open (codes "open") args c refl refl h
word_reads Tell args c listed h = one_reads event.Tell (codes "tell") args c (λ n. refl) (λ n. refl) h
word_reads Operate args c listed h = alone_reads event.Operate (codes "operate") args c refl refl h
word_reads Close args c listed h = close_reads args c h
word_reads Count args c listed h = one_reads event.Count (codes "count") args c (λ n. refl) (λ n. refl) h
word_reads State args c listed h = one_reads event.CodeState (codes "state") args c (λ n. refl) (λ n. refl) h
word_reads Resolve args c listed h = one_reads event.Resolve (codes "resolve") args c (λ n. refl) (λ n. refl) h

words_read : (ws : List (List ℕ)) (c : Command) → of_words ws ≡ Some c → Spells ws c
words_read [] c h = absurd (cc h)
words_read (first ∷ args) c h = option_and_then_some (λ word. of_word word args) (word_of first) c h (λ word e f.
    let is = keyword_is first word e in
    subst (λ (z : List ℕ). Spells (z ∷ args) c) (sym is) (word_reads word args c (ap word_of (sym is) ∙ e) f))

pub spelled : (line : List ℕ) (c : Command) → command_of line ≡ Some c → IsSpelledBy line c
spelled line c h = by_length (nat_le (length line) 1024) refl h
  where
    by_length : (b : Bool) → nat_le (length line) 1024 ≡ b → cond b (of_words (words line)) None ≡ Some c → IsSpelledBy line c
    by_length false e k = absurd (cc k)
    by_length true e k =
        let s = words_read (words line) c k in
        record { spelled = sym (spaced_words line) ∙ ap spaced s.words; short = grind (arith, e); small = s.small }

-- Back: the words of a command are read.
one_read : (make : ℕ → Event) (n : ℕ) → n < 2 ^ 40 → of_one make (decimal n ∷ []) ≡ Some (command.Do (make n))
one_read make n h = ap (λ o. option_map (λ k. command.Do (make k)) (option_and_then (λ t. none_after t.0 t.1) (option_map (λ k. tuple k []) o))) (number_of_decimal n h)

took_back : (n : ℕ) (ws : List (List ℕ)) → n < 2 ^ 40 → took (decimal n ∷ ws) ≡ Some (tuple n ws)
took_back n ws h = ap (option_map (λ k. tuple k ws)) (number_of_decimal n h)

last_back : (n : ℕ) → n < 2 ^ 40 → last_number (decimal n ∷ []) ≡ Some n
last_back n h = ap (option_and_then (λ t. none_after t.0 t.1)) (took_back n [] h)

numbers_back : (ns : List ℕ) → AreSmall ns → numbers (map decimal ns) ≡ Some ns
numbers_back [] h = refl
numbers_back (n ∷ ns) h =
    ap (option_and_then (λ k. option_map (λ ks. k ∷ ks) (numbers (map decimal ns)))) (number_of_decimal n h.0)
    ∙ ap (option_map (λ ks. n ∷ ks)) (numbers_back ns h.1)

size_back : (x y z : ℕ) → x < 2 ^ 40 → y < 2 ^ 40 → z < 2 ^ 40 → size_of (decimal x ∷ decimal y ∷ decimal z ∷ []) ≡ Some (command.Size x y z)
size_back x y z h k l =
    ap (option_and_then (λ a. option_and_then (λ b. option_map (λ c. command.Size a.0 b.0 c) (last_number b.1)) (took a.1))) (took_back x (decimal y ∷ decimal z ∷ []) h)
    ∙ ap (option_and_then (λ b. option_map (λ c. command.Size x b.0 c) (last_number b.1))) (took_back y (decimal z ∷ []) k)
    ∙ ap (option_map (λ c. command.Size x y c)) (last_back z l)

look_back : (serial place : ℕ) → serial < 2 ^ 40 → place < 2 ^ 40 → of_two event.Look (decimal serial ∷ decimal place ∷ []) ≡ Some (command.Do (event.Look serial place))
look_back serial place h k =
    ap (option_and_then (λ a. option_map (λ n. command.Do (event.Look a.0 n)) (last_number a.1))) (took_back serial (decimal place ∷ []) h)
    ∙ ap (option_map (λ n. command.Do (event.Look serial n))) (last_back place k)

enter_back : (place method : ℕ) (ws : List (List ℕ)) → place < 2 ^ 40 → method < 2 ^ 40 → enter_of (decimal place ∷ decimal method ∷ ws) ≡ entered place method ws
enter_back place method ws h k =
    ap (option_and_then (λ a. option_and_then (λ b. entered a.0 b.0 b.1) (took a.1))) (took_back place (decimal method ∷ ws) h)
    ∙ ap (option_and_then (λ b. entered place b.0 b.1)) (took_back method ws k)

act_back : (place : ℕ) (deed : Act) → AreSmall (place ∷ act_numbers deed) → of_words (act_text deed ∷ decimal place ∷ map decimal (act_numbers deed)) ≡ Some (command.Do (event.At place deed))
act_back place (act.Enter method None) h = enter_back place method [] h.0 h.1.0
act_back place (act.Enter method (Some serial)) h =
    enter_back place method (decimal serial ∷ []) h.0 h.1.0
    ∙ ap (option_map (λ s. command.Do (event.At place (act.Enter method (Some s))))) (last_back serial h.1.1.0)
act_back place other h = one_read (λ p. event.At p other) place h.0

handshake_back : (kind : AskKind) (targets : List ℕ) → AreSmall targets → handshake kind (map decimal targets) ≡ Some (command.Do (event.Ask (Handshake targets kind)))
handshake_back kind targets h = ap (option_map (λ ts. command.Do (event.Ask (Handshake ts kind)))) (numbers_back targets h)

ask_back : (request : Request) → AreSmall (request_numbers request) → asking (request_words request) ≡ Some (command.Do (event.Ask request))
ask_back Census h = refl
ask_back (Handshake targets Depth) h = handshake_back Depth targets h
ask_back (Handshake targets (CountOf serial)) h =
    ap (option_and_then (λ s. handshake (CountOf s.0) s.1)) (took_back serial (map decimal targets) h.0)
    ∙ handshake_back (CountOf serial) targets h.1
ask_back (Handshake targets Top) h = handshake_back Top targets h

event_back : (e : Event) → AreSmall (event_numbers e) → of_words (event_words e) ≡ Some (command.Do e)
event_back (event.At place deed) h = act_back place deed h
event_back event.Start h = refl
event_back (event.Install n) h = one_read event.Install n h.0
event_back (event.Invalidate n) h = one_read event.Invalidate n h.0
event_back event.Round h = refl
event_back (event.Look serial place) h = look_back serial place h.0 h.1.0
event_back (event.Weigh n) h = one_read event.Weigh n h.0
event_back (event.Free n) h = one_read event.Free n h.0
event_back (event.Ask request) h = ask_back request h
event_back event.Open h = refl
event_back (event.Tell n) h = one_read event.Tell n h.0
event_back event.Operate h = refl
event_back (event.Close None) h = refl
event_back (event.Close (Some n)) h = ap (option_map (λ k. command.Do (event.Close (Some k)))) (last_back n h.0)
event_back (event.Count n) h = one_read event.Count n h.0
event_back (event.CodeState n) h = one_read event.CodeState n h.0
event_back (event.Resolve n) h = one_read event.Resolve n h.0

command_back : (c : Command) → AreSmall (command_numbers c) → of_words (command_words c) ≡ Some c
command_back (command.Size x y z) h = size_back x y z h.0 h.1.0 h.1.1.0
command_back (command.Do e) h = event_back e h

request_are_words : (request : Request) → AreSmall (request_numbers request) → AllByRecursion IsWord (request_words request)
request_are_words Census h = (refl, tt)
request_are_words (Handshake targets Depth) h = (refl, decimals_words targets h)
request_are_words (Handshake targets (CountOf serial)) h = (refl, (decimal_word serial h.0, decimals_words targets h.1))
request_are_words (Handshake targets Top) h = (refl, decimals_words targets h)

one_word : (key : List ℕ) (n : ℕ) → IsWord key → n < 2 ^ 40 → words (spaced (key ∷ decimal n ∷ [])) ≡ key ∷ decimal n ∷ []
one_word key n w h = words_spaced key (decimal n ∷ []) w (decimal_word n h, tt)

event_cut : (e : Event) → AreSmall (event_numbers e) → words (spaced (event_words e)) ≡ event_words e
event_cut (event.At place deed) h = words_spaced (act_text deed) (decimal place ∷ map decimal (act_numbers deed)) (act_word deed) (decimal_word place h.0, decimals_words (act_numbers deed) h.1)
event_cut event.Start h = refl
event_cut (event.Install n) h = one_word (codes "install") n refl h.0
event_cut (event.Invalidate n) h = one_word (codes "invalidate") n refl h.0
event_cut event.Round h = refl
event_cut (event.Look serial place) h = words_spaced (codes "look") (decimal serial ∷ decimal place ∷ []) refl (decimal_word serial h.0, (decimal_word place h.1.0, tt))
event_cut (event.Weigh n) h = one_word (codes "weigh") n refl h.0
event_cut (event.Free n) h = one_word (codes "free") n refl h.0
event_cut (event.Ask request) h = words_spaced (codes "ask") (request_words request) refl (request_are_words request h)
event_cut event.Open h = refl
event_cut (event.Tell n) h = one_word (codes "tell") n refl h.0
event_cut event.Operate h = refl
event_cut (event.Close None) h = refl
event_cut (event.Close (Some n)) h = one_word (codes "close") n refl h.0
event_cut (event.Count n) h = one_word (codes "count") n refl h.0
event_cut (event.CodeState n) h = one_word (codes "state") n refl h.0
event_cut (event.Resolve n) h = one_word (codes "resolve") n refl h.0

command_cut : (c : Command) → AreSmall (command_numbers c) → words (spaced (command_words c)) ≡ command_words c
command_cut (command.Size x y z) h = words_spaced (codes "size") (decimal x ∷ decimal y ∷ decimal z ∷ []) refl (decimal_word x h.0, (decimal_word y h.1.0, (decimal_word z h.1.1.0, tt)))
command_cut (command.Do e) h = event_cut e h

pub read : (line : List ℕ) (c : Command) → IsSpelledBy line c → command_of line ≡ Some c
read line c s =
    let short = s.short in
    let fits : nat_le (length line) 1024 ≡ true = grind (arith, short) in
    ap (λ b. cond b (of_words (words line)) None) fits
    ∙ ap of_words (ap words s.spelled ∙ command_cut c s.small)
    ∙ command_back c s.small
