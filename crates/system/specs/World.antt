-- The world of the definitions: places with whole stacks, codes, requests, and the log.
use Rattle.std.specs.Prelude.{ℕ, ◌+◌, Bool, true, not, ◌||◌, ◌&&◌, ◌==◌, List, [], ◌∷◌, replicate, map, filter, slice_get, option_map, Option, Some, None, sum_by}
use Rattle.std.specs.List.{list_any}
use Rattle.frames.specs.declared.CodeId.{CodeId}
use Rattle.method_table.specs.declared.Code.{Code}
use Rattle.system.specs.declared.answers.CodeCount.{CodeCount}
use Rattle.operations.specs.Names.{among}
use Rattle.frames.specs.Stack.{act}
use Rattle.method_table.specs.Codes.{id_of}
use Rattle.system.specs.Threads.{Thread, part}
use Rattle.system.specs.Operations.{Requests, Opened, no_requests}
use Rattle.system.specs.Log.{Entry, is_published_since}

-- The sizes, the places, all codes, the requests and the log.
pub record World : Type 0 where
  pub slots : ℕ
  pub methods : ℕ
  pub places : List (Option Thread)
  pub codes : List Code
  pub requests : Requests
  pub log : List Entry

-- The start world has vacant places, no code, no request and an empty log.
abbrev pub start_world : ℕ → ℕ → ℕ → World
start_world places slots methods =
    record { slots = slots; methods = methods; places = replicate places None; codes = []; requests = no_requests; log = [] }

-- The live threads, by place.
abbrev pub threads : List (Option Thread) → List Thread
threads [] = []
threads (None ∷ places) = threads places
threads (Some t ∷ places) = t ∷ threads places

-- The names of the live threads.
abbrev pub live_names : World → List ℕ
live_names w = map (λ t. t.name) (threads w.places)

-- A live thread has this name.
abbrev pub is_live : World → ℕ → Bool
is_live w name = list_any (λ t. t.name == name) (threads w.places)

-- A target that was live when the operation was opened and still lives.
abbrev pub is_live_target : World → Opened → ℕ → Bool
is_live_target w opened name = among name opened.live && is_live w name

-- The least vacant place.
abbrev pub vacant_place : {A : Type 0} → List (Option A) → Option ℕ
vacant_place [] = None
vacant_place (None ∷ places) = Some 0
vacant_place (Some t ∷ places) = option_map (λ place. 1 + place) (vacant_place places)

-- A place's published count of the code; a vacant place counts nothing.
abbrev pub part_at : CodeId → Option Thread → ℕ
part_at code None = 0
part_at code (Some t) = part code t

-- The index of a code: the sum of its published counts over all places.
abbrev pub walk : World → CodeId → ℕ
walk w code = sum_by (part_at code) w.places

-- The frames of a code on all stacks.
abbrev pub frames_of : World → CodeId → ℕ
frames_of w code = sum_by (λ t. act code t.stack) (threads w.places)

-- The number of frames of each code on all stacks, in rising serial, without zeros. (HotSpot's runtime overview: at a
-- safepoint stacks can be examined)
abbrev pub census : World → List CodeCount
census w = filter (λ counted. not (counted.count == 0)) (map (λ code. record { serial = code.serial; count = frames_of w (id_of code) }) w.codes)

-- Every frame of the code at the place is published: the place is vacant, or its thread ended no publication yet, or
-- its thread began and ended a publication after a round after the code's invalidation.
abbrev pub is_covered_at : List Entry → ℕ → ℕ → Option Thread → Bool
is_covered_at log serial place None = true
is_covered_at log serial place (Some t) = not t.published || is_published_since log serial place t.name

-- The thread at a place, if any.
abbrev pub found : Option (Option Thread) → Option Thread
found None = None
found (Some t) = t

abbrev pub thread_at : World → ℕ → Option Thread
thread_at w place = found (slice_get w.places place)

-- The place is covered for the code.
abbrev pub covered : World → ℕ → ℕ → Bool
covered w place serial = is_covered_at w.log serial place (thread_at w place)
