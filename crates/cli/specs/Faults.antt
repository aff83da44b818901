-- The texts and exit statuses of faults.
use Rattle.std.specs.Prelude.{ℕ, codes, List}
use Rattle.std.specs.declared.io.ErrorKind.{ErrorKind}
use Rattle.std.specs.declared.io.ErrorKind.TheVariants.{OutOfMemory}
use Rattle.replay.specs.declared.stream.ReplayFault.{ReplayFault}
use Rattle.replay.specs.declared.stream.ReplayFault.TheVariants as replay_fault
use Rattle.script.specs.declared.fault.ScriptFault.{ScriptFault}
use Rattle.script.specs.declared.fault.ScriptFault.TheVariants as script_fault
use Rattle.script.specs.Texts.{script_fault_text}
use Rattle.workers.specs.declared.fault.RunFault.{RunFault}
use Rattle.workers.specs.declared.fault.RunFault.TheVariants as run_fault
use Rattle.cli.specs.declared.fault.Fault.{Fault}
use Rattle.cli.specs.declared.fault.Fault.TheVariants.{BadWords, FileNotRead, BadScript, ReadFailed, WriteFailed, NoMemory, NoThread, Refused}

abbrev pub fault_text : Fault → List ℕ
fault_text BadWords = codes "bad words"
fault_text FileNotRead = codes "file not read"
fault_text (BadScript flaw place) = script_fault_text (script_fault.Refused flaw place)
fault_text ReadFailed = codes "read failed"
fault_text WriteFailed = codes "write failed"
fault_text NoMemory = codes "no memory"
fault_text NoThread = codes "no thread"
fault_text Refused = codes "refused"

abbrev pub status_of : Fault → ℕ
status_of BadWords = 2
status_of FileNotRead = 1
status_of (BadScript flaw place) = 1
status_of ReadFailed = 1
status_of WriteFailed = 1
status_of NoMemory = 1
status_of NoThread = 1
status_of Refused = 1

abbrev pub of_replay : ReplayFault → Fault
of_replay replay_fault.ReadFailed = ReadFailed
of_replay replay_fault.WriteFailed = WriteFailed
of_replay replay_fault.NoMemory = NoMemory

abbrev pub of_script : ScriptFault → Fault
of_script (script_fault.Refused flaw place) = BadScript flaw place
of_script script_fault.NoMemory = NoMemory

abbrev pub of_run : RunFault → Fault
of_run run_fault.NoMemory = NoMemory
of_run run_fault.NoThread = NoThread
of_run run_fault.Refused = Refused

-- The fault if the arguments can't be read.
abbrev pub of_words : ErrorKind → Fault
of_words OutOfMemory = NoMemory
of_words _ = BadWords
