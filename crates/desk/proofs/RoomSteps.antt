-- The room that is reserved for replies, through each change of the desk's fields.
use Rattle.std.proofs.Common.{◌≡◌, ℕ, ◌+◌, ◌-◌, ◌<◌, ◌≤◌, List, [], ◌∷◌, ◌++◌, true, length, map, ap, ◌∙◌, subst, arith}
use Rattle.std.specs.List.{remove}
use Rattle.std.proofs.lemmas.List.{map-append}
use Rattle.operations.specs.declared.queue.Waiting.{Waiting}
use Rattle.operations.specs.Names.{among}
use Rattle.desk.specs.declared.entries.Carried.{Carried}
use Rattle.desk.specs.declared.entries.Opened.{Opened}
use Rattle.desk.specs.Machine.{is_live, live_of, targets_of, finished, as_operated}
use Rattle.desk.specs.Fields.{Fields, Inside, IsDesk, asked_of, current_of, IsCarried, AreCarried}
use Rattle.desk.specs.Replies.{Said, of_number, HasLess, HaveRoom, owed_waiting, owed_opened}
use Rattle.desk.proofs.Fewer.{filter_le}
use Rattle.desk.proofs.OpenLists.{removed_at}
use Rattle.desk.proofs.Keeping.{Found, found_is, Changed, changed_is}
use Rattle.desk.proofs.RoomKept.{ask_room, open_room, due_room, finish_room, operate_room, close_room}

abbrev HasRoom : {J : Type 0} → Fields J → List Said → Type 0
HasRoom d lists = HaveRoom d.book.gone d.next_number (map asked_of d.queue) (map current_of d.opened) lists

pub new_has_room : {J : Type 0} (d : Fields J) (lists : List Said) → d.next_number ≡ 1 → d.queue ≡ [] → d.opened ≡ [] → lists ≡ [] → d.book.gone.operations ≡ 0 → HasRoom d lists
new_has_room d lists first none none_open no_list at_first = record {
  count = (let n = ap (λ (l : List Said). length l) no_list in omega arith);
  enough = λ n. (let a = ap (λ (l : List (Waiting (Carried _))). owed_waiting n (map asked_of l)) none in
      let b = ap (λ (l : List (Opened _)). owed_opened n (map current_of l)) none_open in omega arith);
}

pub ask_has_room : {J : Type 0} {whom : J → ℕ} {places : ℕ} {d : Inside J} (queue : List (Waiting (Carried J))) (w : Waiting (Carried J)) (lists : List Said) (x : Said) → IsDesk whom places d
    → queue ≡ d.fields.queue ++ w ∷ [] → w.number ≡ d.fields.next_number → length (targets_of w.request) ≤ x.room → lists ≡ d.lists ++ x ∷ []
    → HasRoom (record d.fields { next_number = d.fields.next_number + 1; queue = queue }) lists
ask_has_room {d = d} queue w lists x m is number enough lists_is =
    let f = d.fields in
    ask_room f.next_number (map asked_of f.queue) (map asked_of queue) (map current_of f.opened) (asked_of w) d.lists lists x m.replies (ap (map asked_of) is ∙ map-append asked_of f.queue (w ∷ [])) number enough lists_is

pub open_has_room : {J : Type 0} {whom : J → ℕ} {places : ℕ} {d : Inside J} (queue : List (Waiting (Carried J))) (opened : List (Opened J)) (w : Waiting (Carried J)) (o : Opened J) → IsDesk whom places d
    → d.fields.queue ≡ w ∷ queue → opened ≡ d.fields.opened ++ o ∷ [] → o.number ≡ w.number → o.due.items ≡ live_of d.fields.live (targets_of w.request)
    → HasRoom (record d.fields { queue = queue; opened = opened }) d.lists
open_has_room {whom = whom} {d = d} queue opened w o m is there number due =
    let f = d.fields in
    let less = filter_le (λ (t : ℕ). is_live t f.live) (targets_of w.request) in
    let a = ap (λ (l : List ℕ). length l) due in
    open_room f.next_number (map asked_of f.queue) (map asked_of queue) (map current_of f.opened) (map current_of opened) (asked_of w) (current_of o) d.lists m.replies (ap (map asked_of) is) (ap (map current_of) there ∙ map-append current_of f.opened (o ∷ [])) number (omega arith)

pub due_has_room : {J : Type 0} {whom : J → ℕ} {places : ℕ} {d : Inside J} {n : ℕ} {o : Opened J} (name : ℕ) → IsDesk whom places d
    → Found d.fields.opened n o → among name o.due.items ≡ true → 0 < (of_number (n - d.fields.book.gone.operations) d.lists).room
due_has_room {d = d} {n = n} {o = o} name m found due =
    let f = d.fields in due_room f.next_number n name (map asked_of f.queue) (map current_of f.opened) (current_of o) d.lists m.replies (found_is found) due

pub finish_has_room : {J : Type 0} {whom : J → ℕ} {places : ℕ} {d : Inside J} {n : ℕ} {o : Opened J} (name : ℕ) (opened : List (Opened J)) (lists : List Said) → IsDesk whom places d
    → Changed (finished name) n d.fields.opened opened o → among name o.due.items ≡ true
    → length lists ≡ length d.lists → HasLess (n - d.fields.book.gone.operations) d.lists lists → HasRoom (record d.fields { opened = opened }) lists
finish_has_room {d = d} {n = n} {o = o} name opened lists m c due same less =
    let f = d.fields in
    finish_room f.next_number n name (map asked_of f.queue) (map current_of f.opened) (map current_of opened) (current_of o) d.lists lists m.replies (found_is c.found) due (changed_is c) same less

pub operate_has_room : {J : Type 0} {whom : J → ℕ} {places : ℕ} {d : Inside J} {n : ℕ} {o : Opened J} (opened : List (Opened J)) → IsDesk whom places d
    → Changed as_operated n d.fields.opened opened o → HasRoom (record d.fields { opened = opened }) d.lists
operate_has_room {d = d} {n = n} {o = o} opened m c =
    let f = d.fields in
    operate_room f.next_number n (map asked_of f.queue) (map current_of f.opened) (map current_of opened) (current_of o) d.lists m.replies (found_is c.found) (changed_is c)

pub close_has_room : {J : Type 0} {whom : J → ℕ} {places : ℕ} {d : Inside J} {n : ℕ} {o : Opened J} (opened : List (Opened J)) → IsDesk whom places d
    → (found : Found d.fields.opened n o) → opened ≡ remove d.fields.opened found.place → HasRoom (record d.fields { opened = opened }) d.lists
close_has_room {d = d} {n = n} opened m found is =
    let f = d.fields in
    close_room f.next_number n (map asked_of f.queue) (map current_of f.opened) (map current_of opened) d.lists m.replies (ap (map current_of) is ∙ removed_at n found.place f.opened found.index)
