-- Tickets that rise, and jobs of a thread.
use Rattle.std.proofs.Common.{◌≡◌, ℕ, ◌<◌, Bool, true, false, List, [], ◌∷◌, ◌++◌, refl, arith}
use Rattle.std.specs.Prelude.{◌&&◌, nat_lt, nat_le}
use Rattle.std.proofs.lemmas.Bool.{and_parts}
use Rattle.call_log.specs.declared.word.Word.{Word}
use Rattle.call_log.specs.declared.lists.Job.{Job}
use Rattle.call_log.specs.declared.entry.Entry.{Entry}
use Rattle.recorder.specs.Streams.{rise, jobs_rise, after_of, logged}

both : (a : Bool) (b : Bool) → a ≡ true → b ≡ true → (a && b) ≡ true
both true true h k = refl
both true false h k = cc
both false b h k = cc

-- One call more rises behind those that rise.
pub rise_behind : (from : ℕ) (calls : List Entry) (last : ℕ) (stream before after : ℕ) (call : Word) (args : List ℕ) (answer : Word) (values : List ℕ) (jobs : List Job) → rise from calls last ≡ true → last < before → jobs_rise before jobs after ≡ true → rise from (calls ++ logged stream before after call args answer values jobs ∷ []) after ≡ true
rise_behind from [] last stream before after what args answer values jobs h above between =
    let first : nat_lt from before ≡ true = grind arith in
    let third : nat_le after after ≡ true = grind arith in
    both (nat_lt from before) (jobs_rise before jobs after && nat_le after after) first (both (jobs_rise before jobs after) (nat_le after after) between third)
rise_behind from (c ∷ cs) last stream before after what args answer values jobs h above between =
    let p = and_parts (nat_lt from c.before) (jobs_rise c.before c.jobs (after_of c.after) && rise (after_of c.after) cs last) h in
    let q = and_parts (jobs_rise c.before c.jobs (after_of c.after)) (rise (after_of c.after) cs last) p.1 in
    let more = rise_behind (after_of c.after) cs last stream before after what args answer values jobs q.1 above between in
    both (nat_lt from c.before) (jobs_rise c.before c.jobs (after_of c.after) && rise (after_of c.after) (cs ++ logged stream before after what args answer values jobs ∷ []) after) p.0 (both (jobs_rise c.before c.jobs (after_of c.after)) (rise (after_of c.after) (cs ++ logged stream before after what args answer values jobs ∷ []) after) q.0 more)
