-- Requests to threads. (JEP 312: a handshake runs a callback once for each chosen thread)
use Rattle.std.specs.Prelude.{ℕ, Bool, true, false, not, ◌&&◌, nat_le, length, List}
use Rattle.frames.specs.declared.Frame.{Frame}
use Rattle.operations.specs.declared.Request.{Request}
use Rattle.operations.specs.declared.Request.TheVariants.{Handshake, Census}
use Rattle.operations.specs.declared.Kind.{Kind}
use Rattle.operations.specs.declared.Kind.TheVariants as kind
use Rattle.operations.specs.Names.{among, is_distinct, is_empty}
use Rattle.operations.specs.Asks.{reply}

abbrev pub is_census : Request → Bool
is_census Census = true
is_census (Handshake targets ask) = false

abbrev pub kind_of : Request → Kind
kind_of Census = kind.Census
kind_of (Handshake targets ask) = kind.Handshake

-- A handshake lists the name.
abbrev pub lists : Request → ℕ → Bool
lists Census name = false
lists (Handshake targets ask) name = among name targets

-- The thread of this name is a target: a handshake lists it, or the request is a census.
abbrev pub is_target : Request → ℕ → Bool
is_target Census name = true
is_target (Handshake targets ask) name = among name targets

-- A handshake needs a target.
abbrev pub has_targets : Request → Bool
has_targets Census = true
has_targets (Handshake targets ask) = not (is_empty targets)

-- A handshake has at most 64 targets, each once. (our own limit)
abbrev pub are_targets : Request → Bool
are_targets Census = true
are_targets (Handshake targets ask) = nat_le (length targets) 64 && is_distinct targets

-- The reply of a stack to a request; 0 to a census, which has no reply.
abbrev pub reply_to : Request → List Frame → ℕ
reply_to Census stack = 0
reply_to (Handshake targets ask) stack = reply ask stack
