-- A handle owns a box of a party of a system over this board and row, or nothing.
use Rattle.std.specs.Prelude.{Option}
use Rattle.std.specs.Coded.{coded_option}
use Rattle.std.specs.Global.{Global}
use mathlib.Core.List.{[]}
use base.Fml.{Fml}
use base.Stored.{Coded}
use denote.RawPtr.{Ptr}
use denote.RattleType.{RattleType}
use Rattle.std_heap.specs.contracts.GlobalAllocator.TheImpl.{ghosts}
use Rattle.core.specs.contracts.marker.Brand as Brand
use Rattle.board.specs.Boards.{BoardId}
use Rattle.poll.specs.Rows.{RowId}
use Rattle.board.specs.contracts.board.Board as board_row
use Rattle.poll.specs.contracts.row.PollRow as poll_row
use Rattle.parties.specs.contracts.party.Party as party
use Rattle.safepoint.specs.Boxed.{maybe_owns}

-- the marker as a parameter
abbrev pub marked : RattleType
marked = denote.Param.param 0 (denote.Param.arg (mir.Syntax.ty_struct [] mir.Syntax.tnil) denote.Exit.no Brand.the_row)

abbrev pub no_row : RowId
no_row = record { words = 0; slots = 0; views_name = 0; atom = 0; block = 0; offset = 0; slot_names = [] }

abbrev pub no_board : BoardId
no_board = record { table = no_row; slots = 0; places = 0 }

-- parties of a system over this board and row
abbrev pub party_of : BoardId → RowId → RattleType
party_of board row = party.the_row marked (record { board = board; poll_row = row })

-- such a party as contracts see it
abbrev pub Seen : Type 0
Seen = (party_of no_board no_row).Denot

abbrev pub held_owns : Global → Ptr → BoardId → RowId → Option Seen → Fml
held_owns alloc at board row value = maybe_owns (ghosts.dealloc_token alloc) (party_of board row) at value

abbrev pub board_coded : Coded BoardId
board_coded = board_row.the_row.coded

abbrev pub row_coded : Coded RowId
row_coded = poll_row.the_row.coded

abbrev pub held_coded : Coded (Option Seen)
held_coded = coded_option (party_of no_board no_row).coded
