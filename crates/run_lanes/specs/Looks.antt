-- The colours of states.
use Rattle.std.specs.Prelude.{Option, Some, None}
use Rattle.thread_state.specs.declared.State.{State}
use Rattle.thread_state.specs.declared.State.TheVariants as state
use Rattle.run_lanes.specs.declared.looks.Paint.{Paint}
use Rattle.run_lanes.specs.declared.looks.Paint.TheVariants as paint

-- The colour of a thread's state: one colour for all ways into a stop, and none for a vacant place.
abbrev pub paint_of : State → Option Paint
paint_of state.Vacant = None
paint_of state.New = Some paint.New
paint_of state.InJava = Some paint.Java
paint_of state.InVm = Some paint.Vm
paint_of (state.InNative back) = Some paint.Native
paint_of state.Blocked = Some paint.Blocked
paint_of state.NewTrans = Some paint.Transition
paint_of (state.NativeTrans back) = Some paint.Transition
paint_of state.BlockedTrans = Some paint.Transition
paint_of (state.AtPoll back) = Some paint.AtPoll
paint_of (state.Serving back) = Some paint.Serving
