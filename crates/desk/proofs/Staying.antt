-- An entry of a thread or of codes leaves the requests unchanged, and with them most of a desk's invariant.
use Rattle.std.proofs.Common.{◌≡◌, ℕ, ◌<◌, List, ◌++◌}
use Rattle.method_table.specs.TableView.{TableView}
use Rattle.desk.specs.declared.entries.Entry.{Entry}
use Rattle.desk.specs.declared.entries.Live.{Live}
use Rattle.desk.specs.Machine.{Book}
use Rattle.desk.specs.Fields.{Inside, IsKept, IsDesk}
use Rattle.desk.specs.Replies.{Said}
use Rattle.desk.proofs.Pending.{later_stays}
use Rattle.desk.proofs.RoomKept.{same_room}

pub requests_stay : {J : Type 0} {whom : J → ℕ} {places : ℕ} {d : Inside J} {b : Book} {name : ℕ} {live : List Live} {t : TableView} {lists : List Said} (es : List Entry)
    → IsDesk whom places d → IsKept (record d.fields { book = b; next_name = name; live = live; table = t })
    → t.slots ≡ d.fields.table.slots → t.methods ≡ d.fields.table.methods → b.history ≡ d.fields.book.history ++ es → b.gone ≡ d.fields.book.gone → lists ≡ d.lists → 0 < name
    → IsDesk whom places (record d { fields = record d.fields { book = b; next_name = name; live = live; table = t }; lists = lists })
requests_stay es m k slots methods history gone lists low = record {
  kept = k;
  carried = m.carried;
  few = m.few;
  capacity = m.capacity;
  places = m.places;
  named = low;
  replies = same_room m.replies lists gone;
  pending = later_stays es m.kept k slots methods history gone m.pending;
}
