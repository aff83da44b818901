-- Jobs that are made for all names fit them; jobs that fit don't change the refusal; and the handshake of reclaiming
-- waits as asked.
use Rattle.std.proofs.Common.{◌≡◌, ◌≢◌, ◌<◌, ◌++◌, ◌∙◌, ℕ, Bool, true, List, [], ◌∷◌, length, Option, Some, None, IfSome, IfNone, refl, sym, ap, subst, arith}
use Rattle.std.proofs.lemmas.List.{append-nil}
use Rattle.operations.specs.declared.Ask.{Ask}
use Rattle.operations.specs.declared.Request.{Request}
use Rattle.desk.specs.JobsFit.{are_for, jobs_fit}
use Rattle.desk.specs.declared.entries.Entry.{Entry}
use Rattle.desk.specs.Fields.{DeskSeen, Enters}
use Rattle.desk.specs.Machine.{State, Book, Stands}
use Rattle.desk.specs.Refusals.{ask_refused, ask_refused_if, reclaim_refused}
use Rattle.desk.specs.declared.faults.AskFault.{AskFault}
use Rattle.desk.specs.declared.faults.ReclaimFault.{ReclaimFault}
use Rattle.desk.specs.declared.faults.ReclaimFault.TheVariants as reclaim
use Rattle.parties.specs.Asked.{Waits}

-- If no name is left, each name has its job.
pub all_made : {J : Type 0} (whom : J → ℕ) (asks : J → Ask) (names rest : List ℕ) (ask : Ask) (jobs : List J) → length rest < 1
    → ((more : List J) → are_for whom asks rest ask more ≡ true → are_for whom asks names ask (jobs ++ more) ≡ true) → are_for whom asks names ask jobs ≡ true
all_made whom asks names [] ask jobs below each = subst (λ js. are_for whom asks names ask js ≡ true) (append-nil jobs) (each [] refl)
all_made whom asks names (t ∷ ts) ask jobs below each = absurd (omega arith)

asked_fits : (s : State) (r : Option Request) (fits : Request → Bool) (b : Book) (f : AskFault) → ((asked : Request) → r ≡ Some asked → fits asked ≡ true)
    → ask_refused_if s r fits b f → ask_refused_if s r (λ _. true) b f
asked_fits s None fits b f each refused = refused
asked_fits s (Some r) fits b f each refused = subst (λ (ok : Bool). ask_refused s r ok b f) (each r refl) refused

pub reclaim_fits : (s : State) (serial : ℕ) (r : Option Request) (fits : Request → Bool) (b : Book) (moment : ℕ) (f : ReclaimFault) → ((asked : Request) → r ≡ Some asked → fits asked ≡ true)
    → reclaim_refused s serial r fits b moment f → reclaim_refused s serial r (λ _. true) b moment f
reclaim_fits s serial r fits b moment (reclaim.Code f) each refused = refused
reclaim_fits s serial r fits b moment reclaim.AlreadyOpen each refused = refused
reclaim_fits s serial r fits b moment reclaim.Spent each refused = refused
reclaim_fits s serial r fits b moment (reclaim.Ask f) each refused = (refused.0, refused.1, refused.2, asked_fits s r fits b f each refused.3)

pub refused_fits : {J : Type 0} (whom : J → ℕ) (asks : J → Ask) (s : State) (r r' r'' : Request) (jobs : List J) (b : Book) (f : AskFault) → r ≡ r' → r' ≡ r''
    → jobs_fit whom asks r' jobs ≡ true → ask_refused s r (jobs_fit whom asks r jobs) b f → ask_refused s r'' true b f
refused_fits whom asks s r r' r'' jobs b f is more fits refused =
    subst (λ (q : Request). ask_refused s q true b f) (is ∙ more)
    (subst (λ (t : Bool). ask_refused s r t b f) (ap (λ (q : Request). jobs_fit whom asks q jobs) is ∙ fits) refused)

waits_of : (r : Option Request) (n : ℕ) (receipt : Stands) (old new : DeskSeen) → IfSome r (λ asked. Enters old new (Entry.Ask n asked) receipt) → r ≢ None
    → Waits r n (Some receipt) old new
waits_of None n receipt old new enters some = absurd (some refl)
waits_of (Some r) n receipt old new enters some = enters

pub waits_some : (r r' : Option Request) (a : Option (ℕ × Stands)) (n : ℕ) (receipt : Stands) (old new : DeskSeen) → r ≡ r' → a ≡ Some (n, receipt)
    → IfSome a (λ it. IfSome r (λ asked. Enters old new (Entry.Ask it.0 asked) it.1)) → IfSome a (λ it. r ≢ None) → Waits r' n (Some receipt) old new
waits_some r r' a n receipt old new same is asked wanted =
    subst (λ (o : Option Request). Waits o n (Some receipt) old new) same
    (waits_of r n receipt old new
    (subst (λ (o : Option (ℕ × Stands)). IfSome o (λ it. IfSome r (λ asked. Enters old new (Entry.Ask it.0 asked) it.1))) is asked)
    (subst (λ (o : Option (ℕ × Stands)). IfSome o (λ it. r ≢ None)) is wanted))

pub waits_none : (r r' : Option Request) (a : Option (ℕ × Stands)) (old new : DeskSeen) → r ≡ r' → a ≡ None → IfNone a ((r ≡ None) × (new.book ≡ old.book))
    → Waits r' 0 None old new
waits_none r r' a old new same is quiet =
    let q = subst (λ (o : Option (ℕ × Stands)). IfNone o ((r ≡ None) × (new.book ≡ old.book))) is quiet in
    subst (λ (o : Option Request). Waits o 0 None old new) (sym q.0 ∙ same) (refl, refl, q.1)
