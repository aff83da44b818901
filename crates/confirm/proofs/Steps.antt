-- An order, line after line.
use Rattle.std.proofs.Common.{◌≡◌, ℕ, ◌∙◌, List, [], ◌∷◌, ◌++◌, length, refl, sym, ap, arith, append_assoc, length-append}
use Rattle.std.specs.List.{flat_map, AllByRecursion}
use Rattle.std.proofs.lemmas.List.{append-nil, flat_map_more}
use Rattle.system.specs.declared.events.Event.{Event}
use Rattle.replay.specs.declared.grammar.Command.TheVariants.{Do}
use Rattle.replay.specs.Spelling.{spelling}
use Rattle.confirm.specs.Orders.{deed_text, order_text, event_line, IsRead}

-- So much of an order was read, and this is left.
pub record Got (text head : List ℕ) (owners : List ℕ) (events : List Event) (lines rest : List ℕ) : Type 0 where
  pub paired : length owners ≡ length events
  pub text_is : text ≡ order_text owners events ++ rest
  pub printed : lines ≡ head ++ flat_map event_line events
  pub read : AllByRecursion IsRead events

pub reads_first : (text head : List ℕ) → Got text head [] [] head text
reads_first text head = record { paired = refl; text_is = refl; printed = sym (append-nil head); read = tt }

order_more : (owners : List ℕ) (events : List Event) (owner : ℕ) (event : Event) → length owners ≡ length events → order_text (owners ++ owner ∷ []) (events ++ event ∷ []) ≡ order_text owners events ++ (deed_text owner event ++ 10 ∷ [])
order_more [] [] owner event same = append-nil (deed_text owner event ++ 10 ∷ [])
order_more [] (e ∷ events) owner event same = absurd (omega (arith, same))
order_more (o ∷ owners) [] owner event same = absurd (omega (arith, same))
order_more (o ∷ owners) (e ∷ events) owner event same =
    ap (λ z. (deed_text o e ++ 10 ∷ []) ++ z) (order_more owners events owner event (omega (arith, same)))
    ∙ sym (append_assoc (deed_text o e ++ 10 ∷ []) (order_text owners events) (deed_text owner event ++ 10 ∷ []))

read_more : (events : List Event) (event : Event) → AllByRecursion IsRead events → IsRead event → AllByRecursion IsRead (events ++ event ∷ [])
read_more [] event read is = (is, tt)
read_more (e ∷ events) event read is = (read.0, read_more events event read.1 is)

pub reads_more : (text head owners : List ℕ) (events : List Event) (lines rest line behind spelled : List ℕ) (owner : ℕ) (event : Event) → Got text head owners events lines rest → rest ≡ line ++ 10 ∷ behind → line ≡ deed_text owner event → spelled ≡ spelling (Do event) → IsRead event → Got text head (owners ++ owner ∷ []) (events ++ event ∷ []) (lines ++ (spelled ++ 10 ∷ [])) behind
reads_more text head owners events lines rest line behind spelled owner event reads e deed spelt is =
    let over : rest ≡ (deed_text owner event ++ 10 ∷ []) ++ behind
    = e ∙ ap (λ z. z ++ 10 ∷ behind) deed ∙ sym (append_assoc (deed_text owner event) (10 ∷ []) behind) in
    record {
      paired = omega (arith, length-append owners (owner ∷ []), length-append events (event ∷ []), reads.paired);
      text_is = reads.text_is
          ∙ ap (λ z. order_text owners events ++ z) over
          ∙ sym (append_assoc (order_text owners events) (deed_text owner event ++ 10 ∷ []) behind)
          ∙ ap (λ z. z ++ behind) (sym (order_more owners events owner event reads.paired));
      printed = ap (λ z. lines ++ (z ++ 10 ∷ [])) spelt ∙ ap (λ z. z ++ event_line event) reads.printed ∙ flat_map_more event_line head events event;
      read = read_more events event reads.read is;
    }
