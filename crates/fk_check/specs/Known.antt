-- The facts of a program that keeps all rules.
use Rattle.fk_syntax.specs.declared.facts.Facts.{Facts}
use Rattle.fk_syntax.specs.Program.{ProgramTree}
use Rattle.fk_types_rules.specs.Facts.{AreFacts}
use Rattle.fk_regions.specs.Broken.{AreRegions}
use Rattle.fk_sharing.specs.Broken.{AreShared}

-- the facts of its types and names, then with its regions, and then with its classes and splits
pub record AreAllFacts (program : ProgramTree) (facts : Facts) : Type 0 where
  pub typed : Facts
  pub placed : Facts
  pub types : AreFacts program typed
  pub regions : AreRegions program typed placed
  pub sharing : AreShared program placed facts
