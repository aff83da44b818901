-- A reply that finds no room comes from a line that takes memory.
use Rattle.std.proofs.Common.{◌≡◌, ◌∙◌, sym, ap, subst, refl, ℕ, Bool, true, false, cond, List, Option, Some, None, ⊎_elim, inr}
use Rattle.std.proofs.lemmas.Bool.{false≢true, false_from_ne_true}
use Rattle.std.specs.Prelude.{OnErr, Result, Ok, Err, nat_lt, nat_le}
use Rattle.system.specs.declared.events.Event.{Event}
use Rattle.system.specs.declared.events.Event.TheVariants as event
use Rattle.system.specs.declared.events.Act.{Act}
use Rattle.system.specs.declared.answers.Answer.{Answer}
use Rattle.system.specs.declared.answers.Answer.TheVariants.{Done}
use Rattle.system.specs.declared.answers.Answer.TheVariants as answer
use Rattle.system.specs.declared.answers.Refusal.TheVariants as refusal
use Rattle.thread_state.specs.declared.State.{State}
use Rattle.method_table.specs.declared.Code.{Code}
use Rattle.method_table.specs.Numbers.{last_number}
use Rattle.method_table.specs.Codes.{in_use_for, free_slot, next_serial, with_code, without_use}
use Rattle.system.specs.Operations.{poll_of}
use Rattle.system.specs.Memory.{NeedsMemory}
use Rattle.system.specs.Places.{go_or_stop}
use Rattle.system.specs.Runs.{answer_of, answer_to}
use Rattle.system.specs.Safepoints.{is_accepted}
use Rattle.system.specs.Stands.{StandsFor, takes_no_memory, world_by, are_sizes}
use Rattle.system.specs.Step.{code_or_none, install_in}
use Rattle.system.specs.Verdict.{accepted, unless◌refuse◌then◌}
use Rattle.system.specs.Threads.{Thread}
use Rattle.system.specs.World.{World}
use Rattle.system.proofs.CaseOfEvent.{by_cases, each_kind}
use Rattle.system.proofs.EventCases.{Cases}
use Rattle.system.proofs.Outcomes.{Moves, ByMove, ByPoll}
use Rattle.replay.specs.declared.engine.Reply.{Reply}
use Rattle.replay.specs.declared.engine.Reply.TheVariants.{BadSize, Answered}
use Rattle.replay.specs.declared.grammar.Command.{Command}
use Rattle.replay.specs.declared.grammar.Command.TheVariants.{Size, Do}
use Rattle.replay.specs.Grammar.{command_of}
use Rattle.replay.specs.Room.{is_short, is_short_reply, TakesIn, CommandTakes, LineTakes}
use Rattle.replay.specs.Text.{SystemView, IsAt, Replied, reply_to}

pub on_err : {A E P : Type 0} (result : Result A E) → P → OnErr result P
on_err (Ok x) p = tt
on_err (Err e) p = p

pub on_full : {A E P Q : Type 0} (result : Result A E) → OnErr result P → (P → Q) → OnErr result Q
on_full (Ok x) h f = tt
on_full (Err e) h f = f h

-- An answer that is a list.
abbrev Lists : Event → Answer → Type 0
Lists e a = is_short a ≡ false → (takes_no_memory e ≡ false) × (is_accepted a ≡ true)

short : true ≡ false → ⊥
short long = false≢true (sym long)

go_short : (o : Option ℕ) → is_short (go_or_stop o) ≡ true
go_short None = refl
go_short (Some n) = refl

code_short : (o : Option Code) → is_short (code_or_none o) ≡ true
code_short None = refl
code_short (Some code) = refl

move_short : (w : World) (p : ℕ) (t : Thread) (a : Act) (state : State) (given : Answer) → Moves w p t a state given → is_short given ≡ true
move_short w p t a state given i = ⊎_elim (λ (by : ByMove w a t state given). ap is_short by.done) (λ (by : ByPoll w t state given). ap is_short by.says ∙ go_short (poll_of w.requests t.name)) i.way

list_cases : (w : World) → Cases w (λ e a v. Lists e a)
list_cases w = record {
  refuses = λ e r. λ long. absurd (short long);
  begins = λ p t i. λ long. absurd (short long);
  changes = λ p t code i. λ long. absurd (short long);
  rests = λ p t i. λ long. absurd (short long);
  ends = λ p t i. λ long. absurd (short long);
  moves = λ p t a state given i. λ long. absurd (short (sym (move_short w p t a state given i) ∙ long));
  interprets = λ p t method i. λ long. absurd (short long);
  enters = λ p t method serial code i. λ long. absurd (short long);
  misses = λ p t method serial code i. λ long. absurd (short long);
  leaves = λ p t state i. λ long. absurd (short (sym (go_short (poll_of w.requests t.name)) ∙ long));
  exits = λ p t i. λ long. absurd (short long);
  finishes = λ p t opened i. λ long. absurd (short long);
  clears = λ p t opened i. λ long. absurd (short long);
  holds = λ p t opened i. λ long. absurd (short long);
  releases = λ p t i. λ long. absurd (short long);
  shows = λ p t i. λ long. (refl, refl);
  starts = λ p i. λ long. absurd (short long);
  installs = λ method slot i. λ long. absurd (short long);
  invalidates = λ serial code i. λ long. absurd (short long);
  goes_round = λ i. λ long. absurd (short long);
  looks_clear = λ serial p code i. λ long. absurd (short long);
  looks_late = λ serial p code i. λ long. absurd (short long);
  finds_unlooked = λ serial code p i. λ long. absurd (short long);
  finds_used = λ serial code i. λ long. absurd (short long);
  retires = λ serial code i. λ long. absurd (short long);
  frees = λ serial code i. λ long. absurd (short long);
  asks = λ request i. λ long. absurd (short long);
  opens = λ oldest others i. λ long. absurd (short long);
  tells = λ name opened i. λ long. absurd (short long);
  finds_gone = λ name i. λ long. absurd (short long);
  operates = λ opened others i. λ long. (refl, refl);
  closes = λ number opened i. λ long. absurd (short long);
  counts = λ serial code i. λ long. absurd (short long);
  says_state = λ serial code i. λ long. absurd (short long);
  resolves = λ method i. λ long. absurd (short (sym (code_short (in_use_for w.codes method)) ∙ long));
}

install_short : (w : World) (method : ℕ) → is_short (answer_to w (event.Install method)) ≡ true
install_short w method = by (nat_lt method w.methods) (free_slot w.codes w.slots)
  where
    room : (slot : ℕ) (b : Bool) → is_short (answer_of (unless b refuse refusal.SerialsSpent then accepted (record w { codes = with_code (without_use w.codes (in_use_for w.codes method)) method slot }) (answer.Code (next_serial w.codes)))) ≡ true
    room slot true = refl
    room slot false = refl

    by : (b : Bool) (o : Option ℕ) → is_short (answer_of (unless b refuse refusal.NoSuchMethod then install_in w method o)) ≡ true
    by false o = refl
    by true None = refl
    by true (Some slot) = room slot (nat_le (next_serial w.codes) last_number)

long_event : (w : World) (e : Event) → is_short (answer_to w e) ≡ false → NeedsMemory w e
long_event w e = each_kind w (λ e. is_short (answer_to w e) ≡ false → NeedsMemory w e) (λ method long. absurd (false≢true (sym long ∙ install_short w method)))
    (λ e simple long. (let of = by_cases w (λ e a v. Lists e a) (list_cases w) e simple long in record { takes = of.0; accepted = of.1 })) e

sized : (b : Bool) → is_short_reply (cond b (Answered Done) BadSize) ≡ true
sized true = refl
sized false = refl

long_reply : (world : Option World) (command : Option Command) → is_short_reply (reply_to world command) ≡ false → TakesIn world command
long_reply world None long = absurd (false≢true (sym long))
long_reply None (Some (Size x y z)) long = absurd (false≢true (sym long ∙ sized (are_sizes x y z)))
long_reply None (Some (Do e)) long = absurd (false≢true (sym long))
long_reply (Some w) (Some (Size x y z)) long = absurd (false≢true (sym long))
long_reply (Some w) (Some (Do e)) long = long_event w e long

pub long_line : (old new : Option SystemView) (command : Option Command) (said : Reply) (line : List ℕ) → command ≡ command_of line → Replied old command said new → (is_short_reply said ≡ true → ⊥) → (world : Option World) → IsAt old world → LineTakes world line
long_line old new command said line is replied long world at =
    let takes : TakesIn world command = long_reply world command (ap is_short_reply (sym (replied.reply world at)) ∙ false_from_ne_true (is_short_reply said) long) in
    subst (λ (k : Option Command). CommandTakes world k) is (inr takes)

-- A line that spells what another does takes memory as that one.
pub takes_as : (world : Option World) (line whole : List ℕ) → command_of line ≡ command_of whole → LineTakes world line → LineTakes world whole
takes_as world line whole same takes = subst (λ (k : Option Command). CommandTakes world k) same takes

-- An event of a system that stands for the events before it.
pub event_takes : (s : SystemView) (e : Event) → ((before : List Event) → StandsFor s before → NeedsMemory (world_by s before) e) → (world : Option World) → IsAt (Some s) world → TakesIn world (Some (Do e))
event_takes s e needs None at = absurd at
event_takes s e needs (Some w) at = subst (λ (v : World). NeedsMemory v e) (sym at.2) (needs at.0 at.1)
