-- Laws of where groups split.
use Rattle.std.specs.Prelude.{ℕ}
use Rattle.fk_syntax.specs.Program.{ProgramTree}
use Rattle.fk_regions.specs.Broken.{IsSynchronous}
use Rattle.fk_sharing.specs.Broken.{SplitsAt}

-- a group splits only at a token in a synchronous region
abbrev pub SplitsInLockstep : Type 0
SplitsInLockstep = (program : ProgramTree) (index : ℕ) → SplitsAt program index
    → IsSynchronous program index
