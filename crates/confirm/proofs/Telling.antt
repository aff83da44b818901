-- What is told of a text, by what its parts are.
use Rattle.std.proofs.Common.{◌≡◌, ◌∙◌, ℕ, List, ◌++◌, Bool, true, false, ap, sym}
use Rattle.std.specs.Prelude.{codes}
use Rattle.std.specs.List.{flat_map}
use Rattle.system.specs.declared.events.Event.{Event}
use Rattle.call_log.specs.declared.entry.Entry.{Entry}
use Rattle.call_log.specs.declared.log.Log.{Log}
use Rattle.call_log.specs.Reading.{log_text}
use Rattle.witness_check.specs.Streams.{all_rise}
use Rattle.witness_check.specs.Walk.{is_explained}
use Rattle.confirm.specs.declared.fault.Fault.{Fault}
use Rattle.confirm.specs.declared.fault.Fault.TheVariants as fault
use Rattle.confirm.specs.Parts.{IsParted}
use Rattle.confirm.specs.Orders.{order_text, event_line, size_line, IsOrder, IsOrderFault}
use Rattle.confirm.specs.Told.{whole_text, IsLog, HasBadTickets, Explains, Fails, IsFaultOf}

pub tells_bad_tickets : (text : List ℕ) (log : Log) (calls : List Entry) (risen : Bool) → text ≡ log_text log → calls ≡ log.calls.items → risen ≡ all_rise calls → risen ≡ false → HasBadTickets text
tells_bad_tickets text log calls risen spelled are told fallen = record { log = log; spelled = spelled; fallen = ap all_rise (sym are) ∙ sym told ∙ fallen }

spelled_whole : (text before behind : List ℕ) (log : Log) (owners : List ℕ) (events : List Event) → IsParted text before behind → IsLog before log → behind ≡ order_text owners events → text ≡ whole_text log owners events
spelled_whole text before behind log owners events parted is order =
    parted.text_is ∙ ap (λ z. z ++ (codes "order\n" ++ behind)) is.spelled ∙ ap (λ z. log_text log ++ (codes "order\n" ++ z)) order

-- What the checker said of the events, which it was given as these.
asked : (log : Log) (owners : List ℕ) (events : List Event) (all_owners : List ℕ) (all : List Event) (answer said : Bool) → all ≡ events → all_owners ≡ owners → answer ≡ is_explained log all all_owners → answer ≡ said → is_explained log events owners ≡ said
asked log owners events all_owners all answer said same same_owners told holds =
    ap (λ e. is_explained log e owners) (sym same) ∙ ap (λ o. is_explained log all o) (sym same_owners) ∙ sym told ∙ holds

pub tells_lines : (text before behind : List ℕ) (log : Log) (head owners : List ℕ) (events : List Event) (lines all_owners : List ℕ) (all : List Event) (answer : Bool) → IsParted text before behind → IsLog before log → head ≡ size_line log → IsOrder behind head owners events lines → all ≡ events → all_owners ≡ owners → answer ≡ is_explained log all all_owners → answer ≡ true → Explains text lines
tells_lines text before behind log head owners events lines all_owners all answer parted is sized order same same_owners told holds =
    record {
      log = log;
      owners = owners;
      events = events;
      spelled = spelled_whole text before behind log owners events parted is order.spelled;
      explained = asked log owners events all_owners all answer true same same_owners told holds;
      printed = order.printed ∙ ap (λ z. z ++ flat_map event_line events) sized;
      read = order.read;
    }

pub tells_none : (text before behind : List ℕ) (log : Log) (head owners : List ℕ) (events : List Event) (lines all_owners : List ℕ) (all : List Event) (answer : Bool) → IsParted text before behind → IsLog before log → IsOrder behind head owners events lines → all ≡ events → all_owners ≡ owners → answer ≡ is_explained log all all_owners → answer ≡ false → Fails text
tells_none text before behind log head owners events lines all_owners all answer parted is order same same_owners told holds =
    record {
      log = log;
      owners = owners;
      events = events;
      spelled = spelled_whole text before behind log owners events parted is order.spelled;
      unexplained = asked log owners events all_owners all answer false same same_owners told holds;
    }

pub tells_bad_order : (text before behind : List ℕ) (log : Log) (wrong : Fault) → IsParted text before behind → IsLog before log → IsOrderFault behind wrong → IsFaultOf text wrong
tells_bad_order text before behind log fault.BadWords parted is bad = absurd bad
tells_bad_order text before behind log fault.ReadFailed parted is bad = absurd bad
tells_bad_order text before behind log fault.TooLong parted is bad = absurd bad
tells_bad_order text before behind log fault.NoOrder parted is bad = absurd bad
tells_bad_order text before behind log (fault.BadLog why) parted is bad = absurd bad
tells_bad_order text before behind log fault.Tickets parted is bad = absurd bad
tells_bad_order text before behind log (fault.BadOrder number) parted is bad = record { before = before; behind = behind; log = log; parted = parted; log_is = is; bad = bad }
tells_bad_order text before behind log fault.WriteFailed parted is bad = absurd bad
tells_bad_order text before behind log fault.NoMemory parted is bad = tt
