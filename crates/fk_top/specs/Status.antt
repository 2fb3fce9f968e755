-- The exit codes of statuses.
use Rattle.std.specs.Prelude.{ℕ}
use Rattle.fk_top.specs.declared.status.Status.{Status}
use Rattle.fk_top.specs.declared.status.Status.TheVariants.{Done, Refused, Usage, ReadFault}
use Rattle.fk_top.specs.declared.status.Status.TheVariants.{WriteFault, Memory, SourceFault}
use Rattle.fk_top.specs.declared.status.Status.TheVariants.{CycleBound, Trap, ImageRefused}
use Rattle.fk_top.specs.declared.status.Status.TheVariants.{InputRefused, TraceRefused, ElfRefused}

abbrev pub code_of : Status → ℕ
code_of Done = 0
code_of Refused = 1
code_of Usage = 2
code_of ReadFault = 3
code_of WriteFault = 4
code_of Memory = 5
code_of SourceFault = 6
code_of CycleBound = 7
code_of Trap = 8
code_of ImageRefused = 9
code_of InputRefused = 10
code_of TraceRefused = 11
code_of ElfRefused = 12
