-- How often a history finishes an operation for a name.
use Rattle.std.specs.Prelude.{◌≡◌, ◌≤◌, ℕ, ◌+◌, List, [], ◌∷◌, Bool, true, false, ◌&&◌, ◌==◌, if◌then◌else◌, Option, Some, None}
use Rattle.desk.specs.declared.entries.Entry.{Entry}
use Rattle.desk.specs.declared.entries.Entry.TheVariants.{Start, Exit, Ask, Open, Finish, Operate, Close, Install, Invalidate, Retire, Free}
use Rattle.desk.specs.Machine.{is_legal}

-- the entry is the Finish of this operation and name
abbrev pub is_finish : ℕ → ℕ → Entry → Bool
is_finish n name (Start a b) = false
is_finish n name (Exit a) = false
is_finish n name (Ask a b) = false
is_finish n name (Open a) = false
is_finish n name (Finish m who reply) = (m == n) && (who == name)
is_finish n name (Operate a) = false
is_finish n name (Close a) = false
is_finish n name (Install a b) = false
is_finish n name (Invalidate a) = false
is_finish n name (Retire a) = false
is_finish n name (Free a) = false

abbrev pub finishes : ℕ → ℕ → List Entry → ℕ
finishes n name [] = 0
finishes n name (e ∷ es) = (if is_finish n name e then 1 else 0) + finishes n name es

-- the name and the reply, if the entry is a Finish of this operation
abbrev pub reply_in : ℕ → Entry → Option (ℕ × ℕ)
reply_in n (Start a b) = None
reply_in n (Exit a) = None
reply_in n (Ask a b) = None
reply_in n (Open a) = None
reply_in n (Finish m who reply) = if m == n then Some (who, reply) else None
reply_in n (Operate a) = None
reply_in n (Close a) = None
reply_in n (Install a b) = None
reply_in n (Invalidate a) = None
reply_in n (Retire a) = None
reply_in n (Free a) = None

abbrev pub with_reply : Option (ℕ × ℕ) → List (ℕ × ℕ) → List (ℕ × ℕ)
with_reply None rest = rest
with_reply (Some reply) rest = reply ∷ rest

-- the replies to an operation with their names, by its Finish entries in order
abbrev pub replies_of : ℕ → List Entry → List (ℕ × ℕ)
replies_of n [] = []
replies_of n (e ∷ es) = with_reply (reply_in n e) (replies_of n es)

-- in a legal history each operation and name has at most one Finish
abbrev pub AtMostOnce : Type 0
AtMostOnce = (slots methods : ℕ) (history : List Entry) (n name : ℕ) → is_legal slots methods history ≡ true → finishes n name history ≤ 1
