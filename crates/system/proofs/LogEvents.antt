-- Events that change only the log, and a round.
use Rattle.std.proofs.Common.{◌≡◌, ◌∙◌, ◌<◌, ◌∷◌, sym, ap, refl, ℕ, ◌+◌, true, Option, Some, None, arith}
use Rattle.std.specs.Prelude.{nat_lt, option_map}
use Rattle.std.proofs.lemmas.Bool.Decides.{nat_tests}
use Rattle.method_table.specs.declared.Code.{Code}
use Rattle.method_table.specs.Numbers.{last_number}
use Rattle.method_table.specs.Codes.{code_of, id_of, in_use_for}
use Rattle.method_table.specs.declared.CodeState.{CodeState}
use Rattle.frames.specs.declared.CodeId.{CodeId}
use Rattle.system.specs.declared.events.Event.TheVariants as event
use Rattle.system.specs.declared.answers.Answer.{Answer}
use Rattle.system.specs.declared.answers.Answer.TheVariants as answer
use Rattle.system.specs.declared.keeping.Core.{Core}
use Rattle.system.specs.Verdict.{accepted}
use Rattle.system.specs.Log.{names_given, operations_given, moment}
use Rattle.system.specs.World.{World, thread_at}
use Rattle.system.specs.Step.{outcome, of_code, code_or_none}
use Rattle.system.specs.Stands.{Matches, Does, kept_at}
use Rattle.system.proofs.Outcomes.{noted}
use Rattle.system.proofs.Logs.{IsElsewhere, names_next, operations_next, moment_next, moments_next, place_over, opened_over, noted_matches}
use Rattle.system.proofs.Cells.{cells_stay}
use Rattle.system.proofs.CodeEvents.{accepted_in, answered_as, none_some, record_next, same_some}

pub said_state : (s : Core) (serial : ℕ) (code : Code) → code_of s.table.codes serial ≡ Some code → Does (event.CodeState serial) s (answer.State code.state) s
said_state s serial code is = record {
  each = λ w sound m. (
      let found : code_of w.codes serial ≡ Some code = ap (λ cs. code_of cs serial) (sym m.codes) ∙ is in
      let said : outcome w (event.CodeState serial) ≡ accepted w (answer.State code.state) = ap (λ o. of_code o (λ (c : Code). accepted w (answer.State c.state))) found in
      accepted_in s w w (event.CodeState serial) (answer.State code.state) said
      (noted_matches s w (event.CodeState serial) (answer.State code.state)
      (record { starts_none = refl; asks_none = refl; rounds_none = refl; invalidates_none = λ r. refl; looks_none = λ r place. refl }) (λ place. record { starts_not = refl; begins_not = refl; ends_not = refl }) m));
  sizes = record { places = refl; slots = refl; methods = refl };
}

pub state_of : (s : Core) (serial : ℕ) (state : CodeState) → option_map (λ (c : Code). c.state) (code_of s.table.codes serial) ≡ Some state → Does (event.CodeState serial) s (answer.State state) s
state_of s serial state is = by (code_of s.table.codes serial) refl is
  where
    by : (o : Option Code) → code_of s.table.codes serial ≡ o → option_map (λ (c : Code). c.state) o ≡ Some state → Does (event.CodeState serial) s (answer.State state) s
    by None found e = absurd (none_some e)
    by (Some code) found e = answered_as s s (event.CodeState serial) (answer.State code.state) (answer.State state) (ap answer.State (same_some e)) (said_state s serial code found)

resolved : (s : Core) (method : ℕ) (o : Option Code) → nat_lt method s.table.methods ≡ true → in_use_for s.table.codes method ≡ o → Does (event.Resolve method) s (code_or_none o) s
resolved s method o low is = record {
  each = λ w sound m. (
      let found : in_use_for w.codes method ≡ o = ap (λ cs. in_use_for cs method) (sym m.codes) ∙ is in
      let known : nat_lt method w.methods ≡ true = ap (λ n. nat_lt method n) (sym m.methods) ∙ low in
      let said : outcome w (event.Resolve method) ≡ accepted w (code_or_none o) = rw (known, found) refl in
      accepted_in s w w (event.Resolve method) (code_or_none o) said
      (noted_matches s w (event.Resolve method) (code_or_none o)
      (record { starts_none = refl; asks_none = refl; rounds_none = refl; invalidates_none = λ r. refl; looks_none = λ r place. refl }) (λ place. record { starts_not = refl; begins_not = refl; ends_not = refl }) m));
  sizes = record { places = refl; slots = refl; methods = refl };
}

abbrev pub serial_or_none : Option CodeId → Answer
serial_or_none None = answer.NoCode
serial_or_none (Some id) = answer.Code id.serial

pub resolved_as : (s : Core) (method : ℕ) (o : Option CodeId) → nat_lt method s.table.methods ≡ true → o ≡ option_map id_of (in_use_for s.table.codes method) → Does (event.Resolve method) s (serial_or_none o) s
resolved_as s method o low is = rw is (by (in_use_for s.table.codes method) refl)
  where
    by : (x : Option Code) → in_use_for s.table.codes method ≡ x → Does (event.Resolve method) s (serial_or_none (option_map id_of x)) s
    by None found = resolved s method None low found
    by (Some code) found = resolved s method (Some code) low found

elsewhere : (place : ℕ) → IsElsewhere place (record { event = event.Round; answer = answer.Done })
elsewhere place = record { starts_not = refl; begins_not = refl; ends_not = refl }

round_matches : (s t : Core) (w : World) → t ≡ record s { moment = s.moment + 1 } → Matches s w → Matches t (noted w event.Round answer.Done)
round_matches s t w is m = rw is (record {
  slots = m.slots;
  methods = m.methods;
  codes = m.codes;
  places = record {
    lengths = m.places.lengths;
    each = λ place. place_over w (noted w event.Round answer.Done) place (kept_at s.places.items place) (thread_at w place)
        (λ kept t there same. record { thread = same.thread; marks = same.marks; moments = moments_next place (record { event = event.Round; answer = answer.Done }) w.log kept.moments (elsewhere place) same.moments }) (m.places.each place);
  };
  records = record { lengths = m.records.lengths; each = λ serial code r found state at_slot. record_next r w w.codes event.Round answer.Done code refl (λ place. refl) (m.records.each serial code r found state at_slot) };
  names = m.names ∙ sym names;
  moment_is = (let now : moment (record { event = event.Round; answer = answer.Done } ∷ w.log) ≡ 1 + moment w.log = moment_next (record { event = event.Round; answer = answer.Done }) w.log in let same = m.moment_is in omega (arith, now, same));
  numbers = m.numbers ∙ sym numbers;
  waiting = m.waiting;
  opened = opened_over s.requests.opens w.requests.opened w (noted w event.Round answer.Done) (omega (arith, names)) (λ name lives. lives) m.opened;
  index = cells_stay s.index w (noted w event.Round answer.Done) refl refl refl m.index;
})
  where
    names : names_given (record { event = event.Round; answer = answer.Done } ∷ w.log) ≡ names_given w.log
    names = (let n : names_given (record { event = event.Round; answer = answer.Done } ∷ w.log) ≡ 0 + names_given w.log = names_next (record { event = event.Round; answer = answer.Done }) w.log in omega (arith, n))

    numbers : operations_given (record { event = event.Round; answer = answer.Done } ∷ w.log) ≡ operations_given w.log
    numbers = (let n : operations_given (record { event = event.Round; answer = answer.Done } ∷ w.log) ≡ 0 + operations_given w.log = operations_next (record { event = event.Round; answer = answer.Done }) w.log in omega (arith, n))

pub went_round : (s t : Core) → s.moment < last_number → t ≡ record s { moment = s.moment + 1 } → Does event.Round s answer.Done t
went_round s t room is = record {
  each = λ w sound m. (
      let low : nat_lt (moment w.log) last_number ≡ true = ap (λ n. nat_lt n last_number) (sym m.moment_is) ∙ test s.moment room in
      let said : outcome w event.Round ≡ accepted w answer.Done = rw low refl in
      accepted_in t w w event.Round answer.Done said (round_matches s t w is m));
  sizes = rw is (record { places = refl; slots = refl; methods = refl });
}
  where
    test : (n : ℕ) → n < last_number → nat_lt n last_number ≡ true
    test n h = grind (arith, nat_tests)
