-- Small runs of the core, with the steps of their events and the words of the board at the end.
use Rattle.std.specs.Prelude.{◌≡◌, ℕ, Bool, List, [], ◌∷◌, ◌++◌, map, Some}
use Rattle.frames.specs.declared.CodeId.{CodeId}
use Rattle.frames.specs.declared.board_rule.EntryState.TheVariants.{InUse, NotEntrant, Zombie, Vacant}
use Rattle.frames.specs.declared.board_rule.StepMade.TheVariants.{LoadEntry, StoreEntry, LoadMoment, AddMoment, StorePlace, AddCount, SubCount, LoadPlace, LoadCount}
use Rattle.method_table.specs.Numbers.{below}
use Rattle.frames.specs.BoardWords.{entry_of, count_of, place_of, the_moment}
use Rattle.frames.specs.BoardRule.{SeatState, code}
use Rattle.frames.specs.BoardStep.{keeper, thread}
use Rattle.system.specs.declared.events.Act.TheVariants as act
use Rattle.system.specs.declared.events.Event.{Event}
use Rattle.system.specs.declared.events.Event.TheVariants as event
use Rattle.system.specs.World.{World, start_world}
use Rattle.system.specs.Runs.{world_after}
use Rattle.tie.specs.BoardOf.{word_by}
use Rattle.tie.specs.Steps.{Made}
use Rattle.tie.specs.Followed.{steps_of_run}

-- The board's words: the entries, the counts, the places, and the moment.
abbrev pub words_of : World → List ℕ
words_of w =
    map (λ k. word_by w (entry_of k)) (below w.slots) ++ map (λ k. word_by w (count_of k)) (below w.slots)
    ++ map (λ p. word_by w (place_of p)) (below 2) ++ word_by w the_moment ∷ []

-- A core of two places, one slot and two methods, after the events.
abbrev pub core_after : List Event → World
core_after events = world_after (start_world 2 1 2) events

-- In this core the events make these steps and leave these words.
abbrev pub Makes : List Event → List Made → List ℕ → Type 0
Makes events steps words = (steps_of_run (start_world 2 1 2) events ≡ steps) × (words_of (core_after events) ≡ words)

-- The two codes that occupy the slot, one after the other.
abbrev pub first_code : CodeId
first_code = code 0 1

abbrev pub second_code : CodeId
second_code = code 0 2

-- Acts of the thread at place 0.
abbrev pub begin : Event
begin = event.At 0 act.Begin

abbrev pub change : Event
change = event.At 0 act.Change

abbrev pub end : Event
end = event.At 0 act.End

abbrev pub enter : ℕ → Event
enter serial = event.At 0 (act.Enter 0 (Some serial))

abbrev pub leave : Event
leave = event.At 0 act.Leave

-- A thread starts at place 0, publishes and goes into Java. Then a code is installed.
abbrev pub started : List Event
started = event.Start ∷ begin ∷ end ∷ event.At 0 act.Wake ∷ event.At 0 act.Cross ∷ event.Install 0 ∷ []

-- A code is entered twice, invalidated, looked for at both places, counted, left, weighed and freed, and its slot is used again. This run
-- makes each kind of step.
abbrev pub life_of_a_code : List Event
life_of_a_code =
    started ++ enter 1 ∷ enter 1 ∷ event.Invalidate 1 ∷ event.Weigh 1 ∷ event.Look 1 0 ∷ event.Look 1 1 ∷ event.Round
    ∷ begin ∷ change ∷ change ∷ end ∷ event.Look 1 0 ∷ event.Weigh 1 ∷ leave ∷ leave ∷ begin ∷ change ∷ end ∷ event.Weigh 1
    ∷ event.Free 1 ∷ event.Install 0 ∷ enter 1 ∷ enter 2 ∷ []

-- 4 and 8 are the entry words of the codes in use: four times the serial.
abbrev pub steps_of_a_life : List Made
steps_of_a_life =
    record { actor = thread 0; step = LoadMoment 1 }
    ∷ record { actor = thread 0; step = StorePlace 1 }
    ∷ record { actor = keeper; step = StoreEntry first_code InUse }
    ∷ record { actor = thread 0; step = LoadEntry first_code 4 }
    ∷ record { actor = thread 0; step = LoadEntry first_code 4 }
    ∷ record { actor = keeper; step = StoreEntry first_code NotEntrant }
    ∷ record { actor = keeper; step = LoadPlace first_code 0 1 }
    ∷ record { actor = keeper; step = LoadPlace first_code 1 0 }
    ∷ record { actor = keeper; step = AddMoment 1 }
    ∷ record { actor = thread 0; step = LoadMoment 2 }
    ∷ record { actor = thread 0; step = AddCount first_code 2 0 }
    ∷ record { actor = thread 0; step = StorePlace 2 }
    ∷ record { actor = keeper; step = LoadPlace first_code 0 2 }
    ∷ record { actor = keeper; step = LoadCount first_code 2 }
    ∷ record { actor = thread 0; step = LoadMoment 2 }
    ∷ record { actor = thread 0; step = SubCount first_code 2 2 }
    ∷ record { actor = thread 0; step = StorePlace 2 }
    ∷ record { actor = keeper; step = LoadCount first_code 0 }
    ∷ record { actor = keeper; step = StoreEntry first_code Zombie }
    ∷ record { actor = keeper; step = StoreEntry first_code Vacant }
    ∷ record { actor = keeper; step = StoreEntry second_code InUse }
    ∷ record { actor = thread 0; step = LoadEntry first_code 8 }
    ∷ record { actor = thread 0; step = LoadEntry second_code 8 }
    ∷ []

-- The second code is in use and no frame of it is counted. Place 0 has the moment 2, place 1 is vacant, and the moment is 2.
abbrev pub words_after_a_life : List ℕ
words_after_a_life = 8 ∷ 0 ∷ 2 ∷ 0 ∷ 2 ∷ []

-- One frame is counted at the moment 2, and the code is invalidated then.
abbrev pub one_frame_counted : List Event
one_frame_counted = started ++ enter 1 ∷ event.Round ∷ begin ∷ change ∷ end ∷ event.Invalidate 1 ∷ []

-- A thread that exits gives up its place: no word is stored, and the place passes a look.
abbrev pub place_given_up : List Event
place_given_up = started ++ event.Invalidate 1 ∷ event.Look 1 0 ∷ event.At 0 act.Exit ∷ event.Look 1 0 ∷ event.Look 1 1 ∷ event.Weigh 1 ∷ []

-- A code is invalidated while an unpublished frame of it is on a stack, and a look follows before any round.
abbrev pub look_before_a_round : List Event
look_before_a_round = started ++ enter 1 ∷ event.Invalidate 1 ∷ event.Weigh 1 ∷ event.Look 1 0 ∷ []

-- A publication that began before the round doesn't let the place pass a look; the next publication does.
abbrev pub publication_begun_before_the_round : List Event
publication_begun_before_the_round =
    started ++ begin ∷ event.Invalidate 1 ∷ event.Round ∷ end ∷ event.Look 1 0 ∷ begin ∷ end ∷ event.Look 1 0 ∷ event.Look 1 1 ∷ event.Weigh 1 ∷ []

-- Two threads count one code: two frames at place 0, one at place 1.
abbrev pub two_threads : List Event
two_threads =
    started ++ event.Start ∷ event.At 1 act.Begin ∷ event.At 1 act.End ∷ event.At 1 act.Wake ∷ event.At 1 act.Cross
    ∷ enter 1 ∷ enter 1 ∷ event.At 1 (act.Enter 0 (Some 1)) ∷ begin ∷ change ∷ end ∷ event.At 1 act.Begin ∷ event.At 1 act.Change ∷ event.At 1 act.End ∷ []

-- What a seat and the keeper know during a publication. The code is invalidated, and one Enter of it was answered WrongMethod. The seat's
-- open publication has the moment 2, its last ended one the moment 1, and it counts two frames. A look at the place answered Late.
abbrev pub amid_a_publication : List Event
amid_a_publication = started ++ enter 1 ∷ enter 1 ∷ event.Invalidate 1 ∷ enter 1 ∷ event.Look 1 0 ∷ event.Round ∷ begin ∷ change ∷ []

-- What the seat knows of the first code and of its own publications.
abbrev pub Knows : SeatState → ℕ → Bool → ℕ → ℕ → Bool → Type 0
Knows t counted fresh moment stored gone =
    (t.counted first_code ≡ counted) × (t.fresh first_code ≡ fresh) × (t.moment ≡ moment) × (t.stored ≡ stored) × (t.gone first_code ≡ gone)
