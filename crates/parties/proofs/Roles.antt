-- An exit that gives up its place and then enters its Exit, and the result of a weighing.
use Rattle.std.proofs.Common.{◌≡◌, ℕ, Ok, Err, inl, inr, refl, sym, subst}
use Rattle.berths.specs.Berths.{Moved}
use Rattle.thread_list.specs.Moves.{Running}
use Rattle.stopped_threads.specs.Holding.{Holding}
use Rattle.stopped_threads.specs.declared.faults.Reclaimed.{Reclaimed}
use Rattle.stopped_threads.specs.declared.faults.Reclaimed.TheVariants as became
use Rattle.parties.specs.Asked.{Told}
use Rattle.parties.specs.Coordinated.{Weighs as WeighsTold, IsWeighed}
use Rattle.parties.specs.Weighed.{told_of}
use Rattle.parties.specs.Acted.{PartySeen, ActsAs, OfCoordinator, Weighs, Exits, GivesUp}
use Rattle.parties.specs.declared.party.Role.{Role}
use Rattle.parties.specs.declared.party.Role.TheVariants as role

pub exits_on : {N : Type 0} (r : Running) (m : Moved) (said : Told) (new : Role N) → GivesUp r m → Exits (role.Leaves m) said new → Exits (role.Runs r) said new
exits_on r m (Ok n) role.Shares gives did = (did.0, (m, gives, did.1))
exits_on r m (Ok n) (role.Starts e) gives did = absurd did
exits_on r m (Ok n) (role.Runs x) gives did = absurd did
exits_on r m (Ok n) (role.Leaves m') gives did = absurd did
exits_on r m (Ok n) (role.Coordinates h) gives did = absurd did
exits_on r m (Err f) role.Shares gives did = absurd did
exits_on r m (Err f) (role.Starts e) gives did = absurd did
exits_on r m (Err f) (role.Runs x) gives did = absurd did
exits_on r m (Err f) (role.Leaves m') gives did = (did.0, subst (GivesUp r) (sym did.1) gives)
exits_on r m (Err f) (role.Coordinates h) gives did = absurd did

pub exit_on : {N : Type 0} (old mid new : PartySeen N) (r : Running) (m : Moved) (said : Told) → old.role ≡ role.Runs r → mid ≡ record old { role = role.Leaves m }
    → GivesUp r m → ActsAs Exits mid said new → ActsAs Exits old said new
exit_on {N} old mid new r m said runs is gives did =
    let d = subst (λ (p : PartySeen N). ActsAs Exits p said new) is did in
    (subst (λ (o : Role N). Exits o said new.role) (sym runs) (exits_on r m said new.role gives d.0), d.1)

weighs_told : {N : Type 0} (places serial : ℕ) (r : Reclaimed N) → IsWeighed places serial r → WeighsTold N places serial (told_of r)
weighs_told places serial (became.Freed receipt) w = inl (receipt, refl, w)
weighs_told places serial (became.Used n weighing) w = inr (weighing, w)
weighs_told places serial (became.Late place weighing) w = (weighing, w)

pub weighs_on : {N : Type 0} (places serial : ℕ) (old : PartySeen N) (h : Holding) (r : Reclaimed N) (said : Told) → old.role ≡ role.Coordinates h → said ≡ told_of r
    → IsWeighed places serial r → ActsAs (OfCoordinator (Weighs N places serial)) old said old
weighs_on {N} places serial old h r said is told w =
    let did = subst (λ (s : Told). WeighsTold N places serial s) (sym told) (weighs_told places serial r w) in
    (subst (λ (o : Role N). OfCoordinator (Weighs N places serial) o said o) (sym is) (did, refl), (refl, refl, refl, refl))
