-- The keeper's view between the two stores of a replacement, and after them.
use Rattle.frames.specs.declared.CodeId.{CodeId}
use Rattle.frames.specs.declared.board_rule.KeeperView.{KeeperView}
use Rattle.frames.specs.BoardViews.{entry_stored, in_use, not_entrant}

-- After the first store: the old code is not entrant.
abbrev pub left_by : KeeperView → CodeId → KeeperView
left_by k old = entry_stored k old (not_entrant old k.moment)

-- After the second store: in addition, the new code is in use.
abbrev pub replaced : KeeperView → CodeId → CodeId → KeeperView
replaced k old code = entry_stored (left_by k old) code (in_use code)
