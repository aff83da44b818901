-- The texts of faults.
use Rattle.std.specs.Prelude.{ℕ, codes, List}
use Rattle.replay.specs.declared.stream.ReplayFault.TheVariants as replay_fault
use Rattle.run_picture.specs.declared.fault.Fault.{Fault}
use Rattle.run_picture.specs.declared.fault.Fault.TheVariants.{BadWords, Failed}

abbrev pub fault_text : Fault → List ℕ
fault_text BadWords = codes "bad words"
fault_text (Failed replay_fault.ReadFailed) = codes "read failed"
fault_text (Failed replay_fault.WriteFailed) = codes "write failed"
fault_text (Failed replay_fault.NoMemory) = codes "no memory"

abbrev pub status_of : Fault → ℕ
status_of BadWords = 2
status_of (Failed fault) = 1
