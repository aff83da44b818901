-- The words of a log.
use Rattle.std.specs.Prelude.{ℕ, codes, bytes_eq, find, List, [], ◌∷◌, Option}
use Rattle.call_log.specs.declared.word.Word.{Word}
use Rattle.call_log.specs.declared.word.Word.TheVariants as word

-- How a word is spelled.
abbrev pub word_text : Word → List ℕ
word_text word.Witness = codes "witness"
word_text word.Size = codes "size"
word_text word.Jobs = codes "jobs"
word_text word.Colon = codes ":"
word_text word.Semicolon = codes ";"
word_text word.Minus = codes "-"
word_text word.Question = codes "?"
word_text word.Start = codes "start"
word_text word.Call = codes "call"
word_text word.Ret = codes "ret"
word_text word.Edge = codes "edge"
word_text word.ToVm = codes "tovm"
word_text word.FromVm = codes "fromvm"
word_text word.ToNative = codes "tonative"
word_text word.FromNative = codes "fromnative"
word_text word.Block = codes "block"
word_text word.Unblock = codes "unblock"
word_text word.Publish = codes "publish"
word_text word.Stop = codes "stop"
word_text word.Exit = codes "exit"
word_text word.Install = codes "install"
word_text word.Invalidate = codes "invalidate"
word_text word.Live = codes "live"
word_text word.Replies = codes "replies"
word_text word.SubmitDepth = codes "submit-depth"
word_text word.SubmitTop = codes "submit-top"
word_text word.SubmitCount = codes "submit-count"
word_text word.SubmitCensus = codes "submit-census"
word_text word.Open = codes "open"
word_text word.Tell = codes "tell"
word_text word.Hold = codes "hold"
word_text word.Serve = codes "serve"
word_text word.Release = codes "release"
word_text word.Operate = codes "operate"
word_text word.Close = codes "close"
word_text word.Drive = codes "drive"
word_text word.DriveFour = codes "drivefour"
word_text word.Reclaim = codes "reclaim"
word_text word.ReclaimDepth = codes "reclaim-depth"
word_text word.ReclaimTop = codes "reclaim-top"
word_text word.ReclaimCount = codes "reclaim-count"
word_text word.Ok = codes "ok"
word_text word.Thread = codes "thread"
word_text word.Compiled = codes "compiled"
word_text word.Interpreted = codes "interpreted"
word_text word.Go = codes "go"
word_text word.Served = codes "served"
word_text word.Exited = codes "exited"
word_text word.ServedExited = codes "servedexited"
word_text word.Code = codes "code"
word_text word.Names = codes "names"
word_text word.Asked = codes "asked"
word_text word.Told = codes "told"
word_text word.Gone = codes "gone"
word_text word.Census = codes "census"
word_text word.Handshake = codes "handshake"
word_text word.Closed = codes "closed"
word_text word.Freed = codes "freed"
word_text word.Used = codes "used"
word_text word.Late = codes "late"
word_text word.NoSuchPlace = codes "NoSuchPlace"
word_text word.Illegal = codes "Illegal"
word_text word.Vacant = codes "Vacant"
word_text word.Publishing = codes "Publishing"
word_text word.Held = codes "Held"
word_text word.NoSuchMethod = codes "NoSuchMethod"
word_text word.Unknown = codes "Unknown"
word_text word.Unpublished = codes "Unpublished"
word_text word.DepthFull = codes "DepthFull"
word_text word.NotOf = codes "NotOf"
word_text word.EmptyStack = codes "EmptyStack"
word_text word.StackNotEmpty = codes "StackNotEmpty"
word_text word.OperationPending = codes "OperationPending"
word_text word.NotDone = codes "NotDone"
word_text word.NothingOpen = codes "NothingOpen"
word_text word.NotTold = codes "NotTold"
word_text word.AlreadyDone = codes "AlreadyDone"
word_text word.NotSafe = codes "NotSafe"
word_text word.NotHeld = codes "NotHeld"
word_text word.SafepointOpen = codes "SafepointOpen"
word_text word.PlacesFull = codes "PlacesFull"
word_text word.Spent = codes "Spent"
word_text word.TableFull = codes "TableFull"
word_text word.SerialsSpent = codes "SerialsSpent"
word_text word.NotInUse = codes "NotInUse"
word_text word.NotNotEntrant = codes "NotNotEntrant"
word_text word.QueueFull = codes "QueueFull"
word_text word.NoTargets = codes "NoTargets"
word_text word.BadTargets = codes "BadTargets"
word_text word.AlreadyOpen = codes "AlreadyOpen"
word_text word.QueueEmpty = codes "QueueEmpty"
word_text word.AlreadyTold = codes "AlreadyTold"
word_text word.NotAllHeld = codes "NotAllHeld"
word_text word.NotBegun = codes "NotBegun"
word_text word.ChangesLeft = codes "ChangesLeft"
word_text word.NotZombie = codes "NotZombie"

-- All words.
abbrev pub all_words : List Word
all_words =
    word.Witness ∷ word.Size ∷ word.Jobs ∷ word.Colon ∷ word.Semicolon ∷ word.Minus ∷
    word.Question ∷ word.Start ∷ word.Call ∷ word.Ret ∷ word.Edge ∷ word.ToVm ∷ word.FromVm ∷
    word.ToNative ∷ word.FromNative ∷ word.Block ∷ word.Unblock ∷ word.Publish ∷ word.Stop ∷
    word.Exit ∷ word.Install ∷ word.Invalidate ∷ word.Live ∷ word.Replies ∷ word.SubmitDepth ∷
    word.SubmitTop ∷ word.SubmitCount ∷ word.SubmitCensus ∷ word.Open ∷ word.Tell ∷ word.Hold ∷
    word.Serve ∷ word.Release ∷ word.Operate ∷ word.Close ∷ word.Drive ∷ word.DriveFour ∷
    word.Reclaim ∷ word.ReclaimDepth ∷ word.ReclaimTop ∷ word.ReclaimCount ∷ word.Ok ∷
    word.Thread ∷ word.Compiled ∷ word.Interpreted ∷ word.Go ∷ word.Served ∷ word.Exited ∷
    word.ServedExited ∷ word.Code ∷ word.Names ∷ word.Asked ∷ word.Told ∷ word.Gone ∷
    word.Census ∷ word.Handshake ∷ word.Closed ∷ word.Freed ∷ word.Used ∷ word.Late ∷
    word.NoSuchPlace ∷ word.Illegal ∷ word.Vacant ∷ word.Publishing ∷ word.Held ∷
    word.NoSuchMethod ∷ word.Unknown ∷ word.Unpublished ∷ word.DepthFull ∷ word.NotOf ∷
    word.EmptyStack ∷ word.StackNotEmpty ∷ word.OperationPending ∷ word.NotDone ∷
    word.NothingOpen ∷ word.NotTold ∷ word.AlreadyDone ∷ word.NotSafe ∷ word.NotHeld ∷
    word.SafepointOpen ∷ word.PlacesFull ∷ word.Spent ∷ word.TableFull ∷ word.SerialsSpent ∷
    word.NotInUse ∷ word.NotNotEntrant ∷ word.QueueFull ∷ word.NoTargets ∷ word.BadTargets ∷
    word.AlreadyOpen ∷ word.QueueEmpty ∷ word.AlreadyTold ∷ word.NotAllHeld ∷ word.NotBegun ∷
    word.ChangesLeft ∷ word.NotZombie ∷ []

-- The word with this spelling.
abbrev pub word_of : List ℕ → Option Word
word_of text = find (λ word. bytes_eq text (word_text word)) all_words
