-- Answers are read off the words that events load.
use Rattle.std.proofs.Common.{◌≡◌, ◌≢◌, ℕ, Bool, true, false, cond, length, Some, None, sym, refl, ap, ◌∙◌, subst, arith}
use Rattle.std.specs.Prelude.{not, nat_lt}
use Rattle.std.proofs.lemmas.Bool.{eq-eqb, ne_eqb, not-true, not-false}
use Rattle.frames.specs.declared.board_rule.EntryState.TheVariants as entry
use Rattle.method_table.specs.declared.Code.{Code}
use Rattle.method_table.specs.declared.CodeState.TheVariants.{NotEntrant}
use Rattle.system.specs.declared.events.Act.{Act}
use Rattle.system.specs.declared.events.Act.TheVariants as act
use Rattle.system.specs.declared.events.Event.{Event}
use Rattle.system.specs.declared.events.Event.TheVariants as event
use Rattle.system.specs.declared.answers.Answer.{Answer}
use Rattle.system.specs.declared.answers.Answer.TheVariants as answer
use Rattle.system.specs.declared.answers.Refusal.{Refusal}
use Rattle.system.specs.declared.answers.Refusal.TheVariants.{Spent}
use Rattle.frames.specs.BoardWords.{entry_of, count_of, place_of, pack, says_in_use}
use Rattle.frames.specs.BoardRule.{SlotState}
use Rattle.frames.specs.BoardStep.{is_past}
use Rattle.method_table.specs.Codes.{id_of, code_of}
use Rattle.method_table.proofs.Searches.{below_found}
use Rattle.system.specs.Threads.{Thread}
use Rattle.method_table.specs.Numbers.{last_number}
use Rattle.system.specs.Log.{is_looked, moment}
use Rattle.system.specs.Verdict.{accepted, unless◌refuse◌then◌}
use Rattle.system.specs.World.{World, start_world, walk}
use Rattle.system.specs.Runs.{answer_of, answer_to, world_after}
use Rattle.system.proofs.Outcomes.{is_move, Enters, Misses, Looks, FindsUnlooked, FindsUsed, Retires}
use Rattle.system.proofs.EventCases.{Cases}
use Rattle.system.proofs.CaseOfEvent.{by_cases, each_kind}
use Rattle.tie.specs.BoardOf.{word_by, slot_at}
use Rattle.tie.specs.Answers.{IsLeastUnlooked, IsReadOff, AnswersAreReadOff, RoundsReadTheMoment}
use Rattle.tie.proofs.Tied.{IsReached, reached}
use Rattle.tie.proofs.Quiet.{each_move}
use Rattle.tie.proofs.Covered.{by_words}
use Rattle.tie.proofs.EntrySteps.{word_is, word_more}
use Rattle.tie.proofs.KeeperSteps.{code_here, slot_is}
use Rattle.tie.proofs.WeighSteps.{sum_is}

-- The code of a serial is one.
same_found : (w : World) (s : ℕ) (j k : Code) → code_of w.codes s ≡ Some j → code_of w.codes s ≡ Some k → j ≡ k
same_found w s j k x y = let both : Some j ≡ Some k = sym x ∙ y in cc

entry_used : (w : World) (p : ℕ) (t : Thread) (method serial : ℕ) (j : Code) → IsReached w → Enters w p t method serial j → (k : Code) → code_of w.codes serial ≡ Some k → says_in_use (word_by w (entry_of k.slot)) (id_of k) ≡ true
entry_used w p t method serial j h i k is = subst (λ (x : Code). says_in_use (word_by w (entry_of x.slot)) (id_of x) ≡ true) (same_found w serial j k i.code_is is)
    (eq-eqb (word_by w (entry_of j.slot)) (pack j.serial entry.InUse) (word_is w p t method serial j h i))

entry_gone : (w : World) (p : ℕ) (t : Thread) (method serial : ℕ) (j : Code) → IsReached w → Misses w p t method serial j → (k : Code) → code_of w.codes serial ≡ Some k → says_in_use (word_by w (entry_of k.slot)) (id_of k) ≡ false
entry_gone w p t method serial j h i k is = subst (λ (x : Code). says_in_use (word_by w (entry_of x.slot)) (id_of x) ≡ false) (same_found w serial j k i.code_is is)
    (ne_eqb (word_by w (entry_of j.slot)) (pack j.serial entry.InUse) (λ e. (let more = word_more w p t method serial j h i in omega arith)))

place_says : (w : World) (serial p : ℕ) (j : Code) (b : Bool) → IsReached w → Looks w serial p j b → (k : Code) → code_of w.codes serial ≡ Some k → is_past (slot_at w k.slot).left (word_by w (place_of p)) ≡ b
place_says w serial p j b h i k is = sym (by_words w h serial p k is (ap (λ (x : Code). x.state) (same_found w serial k j is (code_here w serial j NotEntrant h i.code_is)) ∙ i.code_is.state_is)) ∙ i.covered_is

count_used : (w : World) (serial : ℕ) (j : Code) → IsReached w → FindsUsed w serial j → (k : Code) → code_of w.codes serial ≡ Some k → (word_by w (count_of k.slot) ≡ walk w (id_of j)) × (walk w (id_of j) ≢ 0)
count_used w serial j h i k is = (ap (λ (x : Code). word_by w (count_of x.slot)) (same_found w serial k j is (code_here w serial j NotEntrant h i.code_is)) ∙ sum_is w serial j h i.code_is i.all_looked, i.used)

count_none : (w : World) (serial : ℕ) (j : Code) → IsReached w → Retires w serial j → (k : Code) → code_of w.codes serial ≡ Some k → word_by w (count_of k.slot) ≡ 0
count_none w serial j h i k is = ap (λ (x : Code). word_by w (count_of x.slot)) (same_found w serial k j is (code_here w serial j NotEntrant h i.code_is)) ∙ (sum_is w serial j h i.code_is i.all_looked ∙ i.unused)

least_unlooked : (w : World) (serial p : ℕ) (j : Code) → IsReached w → FindsUnlooked w serial j p → (k : Code) → code_of w.codes serial ≡ Some k → IsLeastUnlooked (slot_at w k.slot).looked p
least_unlooked w serial p j h i k is =
    let found = below_found (λ place. not (is_looked w.log serial place)) (length w.places) p i.least in record {
      unlooked = there p ∙ not-true (is_looked w.log serial p) found.passes;
      least = λ q low. there q ∙ not-false (is_looked w.log serial q) (found.least q low);
    }
  where
    there : (q : ℕ) → (slot_at w k.slot).looked q ≡ is_looked w.log serial q
    there q = ap (λ (x : Code). (slot_at w x.slot).looked q) (same_found w serial k j is (code_here w serial j NotEntrant h i.code_is))
        ∙ (ap (λ (x : SlotState). x.looked q) (slot_is w serial j NotEntrant h i.code_is) ∙ ap (λ n. is_looked w.log n q) i.code_is.serial_is)

-- Refusals and moves are read off none.
refused_tells : (w : World) (e : Event) (r : Refusal) → IsReadOff w e (answer.Refused r)
refused_tells w (event.At place act.Begin) r = tt
refused_tells w (event.At place act.Change) r = tt
refused_tells w (event.At place act.End) r = tt
refused_tells w (event.At place act.Wake) r = tt
refused_tells w (event.At place act.Cross) r = tt
refused_tells w (event.At place (act.Enter method None)) r = tt
refused_tells w (event.At place (act.Enter method (Some serial))) r = tt
refused_tells w (event.At place act.Leave) r = tt
refused_tells w (event.At place act.Edge) r = tt
refused_tells w (event.At place act.ToVm) r = tt
refused_tells w (event.At place act.FromVm) r = tt
refused_tells w (event.At place act.ToNative) r = tt
refused_tells w (event.At place act.Block) r = tt
refused_tells w (event.At place act.Exit) r = tt
refused_tells w (event.At place act.Take) r = tt
refused_tells w (event.At place act.Finish) r = tt
refused_tells w (event.At place act.Clear) r = tt
refused_tells w (event.At place act.Hold) r = tt
refused_tells w (event.At place act.Release) r = tt
refused_tells w (event.At place act.Stack) r = tt
refused_tells w event.Start r = tt
refused_tells w (event.Install method) r = tt
refused_tells w (event.Invalidate serial) r = tt
refused_tells w event.Round r = tt
refused_tells w (event.Look serial place) r = tt
refused_tells w (event.Weigh serial) r = tt
refused_tells w (event.Free serial) r = tt
refused_tells w (event.Ask request) r = tt
refused_tells w event.Open r = tt
refused_tells w (event.Tell name) r = tt
refused_tells w event.Operate r = tt
refused_tells w (event.Close number) r = tt
refused_tells w (event.Count serial) r = tt
refused_tells w (event.CodeState serial) r = tt
refused_tells w (event.Resolve method) r = tt

move_tells : (w : World) (p : ℕ) (a : Act) (given : Answer) → is_move a ≡ true → IsReadOff w (event.At p a) given
move_tells w p a given h = each_move (λ b. IsReadOff w (event.At p b) given) tt tt tt tt tt tt tt tt a h

all_read_off : (w : World) → IsReached w → Cases w (λ e a v. IsReadOff w e a)
all_read_off w h = record {
  refuses = λ e r. refused_tells w e r;
  begins = λ p t i. tt;
  changes = λ p t code i. tt;
  rests = λ p t i. tt;
  ends = λ p t i. tt;
  moves = λ p t a state given i. move_tells w p a given i.is;
  interprets = λ p t method i. tt;
  enters = λ p t method serial code i. λ k is. entry_used w p t method serial code h i k is;
  misses = λ p t method serial code i. λ k is. entry_gone w p t method serial code h i k is;
  leaves = λ p t state i. tt;
  exits = λ p t i. tt;
  finishes = λ p t opened i. tt;
  clears = λ p t opened i. tt;
  holds = λ p t opened i. tt;
  releases = λ p t i. tt;
  shows = λ p t i. tt;
  starts = λ p i. tt;
  installs = λ method slot i. tt;
  invalidates = λ serial code i. tt;
  goes_round = λ i. tt;
  looks_clear = λ serial p code i. λ k is. place_says w serial p code true h i k is;
  looks_late = λ serial p code i. λ k is. place_says w serial p code false h i k is;
  finds_unlooked = λ serial code p i. λ k is. least_unlooked w serial p code h i k is;
  finds_used = λ serial code i. λ k is. count_used w serial code h i k is;
  retires = λ serial code i. λ k is. count_none w serial code h i k is;
  frees = λ serial code i. tt;
  asks = λ request i. tt;
  opens = λ oldest others i. tt;
  tells = λ name opened i. tt;
  finds_gone = λ name i. tt;
  operates = λ opened others i. tt;
  closes = λ number opened i. tt;
  counts = λ serial code i. tt;
  says_state = λ serial code i. tt;
  resolves = λ method i. tt;
}

pub answers_are_read_off : AnswersAreReadOff
answers_are_read_off places slots methods events e =
    let w : World = world_after (start_world places slots methods) events in
    each_kind w (λ e. IsReadOff w e (answer_to w e)) (λ method. tt) (by_cases w (λ e a v. IsReadOff w e a) (all_read_off w (reached places slots methods events))) e

-- A Round tests the moment alone.
pub rounds_read_the_moment : RoundsReadTheMoment
rounds_read_the_moment places slots methods events =
    let w : World = world_after (start_world places slots methods) events in by w (nat_lt (moment w.log) last_number)
  where
    by : (w : World) (b : Bool) → answer_of (unless b refuse Spent then accepted w answer.Done) ≡ cond b answer.Done (answer.Refused Spent)
    by w true = refl
    by w false = refl
