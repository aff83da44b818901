use Rattle.std.proofs.Common.{◌≡◌, ◌<◌, ℕ, List, [], ◌∷◌, Bool, true, length, map, refl, sym, arith}
use Rattle.std.specs.Prelude.{◌&&◌, IfSome}
use Rattle.operations.specs.declared.Ask.{Ask}
use Rattle.operations.specs.declared.Request.{Request}
use Rattle.operations.specs.declared.Request.TheVariants.{Handshake}
use Rattle.operations.specs.Requests.{are_targets, has_targets}
use Rattle.desk.specs.declared.faults.AskFault.{AskFault}
use Rattle.desk.specs.Machine.{State, Book}
use Rattle.desk.specs.Fields.{at}
use Rattle.desk.specs.Refusals.{ask_refused, ask_refused_if}
use Rattle.desk.specs.JobsFit.{jobs_fit, request_of}
use Rattle.desk.proofs.desk.Desk.ask_fault.Goals as goal

-- a refusal of every request of this kind also refuses that of the jobs
refused_of : {J : Type 0} (whom : J → ℕ) (asks : J → Ask) (jobs : List J) (s : State) (b : Book) (fault : AskFault) (good : Bool)
    → 0 < length jobs
    → IfSome (request_of whom asks jobs) (λ asked. good ≡ (are_targets asked && jobs_fit whom asks asked jobs))
    → ((r : Request) (fits : Bool) (b : Book) → has_targets r ≡ true → (are_targets r && fits) ≡ good → ask_refused s r fits b fault)
    → ask_refused_if s (request_of whom asks jobs) (λ asked. jobs_fit whom asks asked jobs) b fault
refused_of whom asks [] s b fault good low fits refused = absurd (omega arith)
refused_of whom asks (j ∷ js) s b fault good low fits refused = refused (Handshake (map whom (j ∷ js)) (asks j)) _ b refl (sym fits)

pub returns-in-Some : goal.returns-in-Some
returns-in-Some g c =
    refused_of g.J.HandshakeOp.whom g.J.HandshakeOp.asks c.args.jobs.now (at c.args.self.now) c.args.self.now.book c.in-Some.fault c.fit_their_request.result c.requires.jobs c.fit_their_request.ensures.fits c.in-Some.ensures.some
