-- The commit table of an image tells the events of a text's operations.
use Rattle.std.specs.Prelude.{ℕ, List}
use Rattle.fk_syntax.specs.declared.facts.Facts.{Facts}
use Rattle.fk_syntax.specs.Program.{ProgramTree}
use Rattle.fk_layout.specs.Layout.{tables_by}
use Rattle.fk_core.specs.declared.op.CoreOp.{CoreOp}
use Rattle.fk_image.specs.declared.Image.{Image}
use Rattle.fk_sim_block.specs.Stands.{Places}
use Rattle.fk_core_liveness.specs.declared.set.Set.{Set}
use Rattle.fk_gen.specs.declared.placed.Levels.{Levels}
use Rattle.fk_gen_list.specs.Events.{TellEvents}
use Rattle.fk_gen_list.specs.Generable.{HasWholeCode}
use Rattle.fk_compile_text.specs.Text.{IsChecked}
use Rattle.fk_compile.specs.Faithful.{firsts_by}
use Rattle.fk_compile.specs.Lists.{HasListOf}

-- The image has the code of the program's flat list: each block at its place, and the code that
-- blocks share at its labels. Each entry of the commit table is of a word in the code of an
-- operation, and has the event of that operation.
pub record TellsEventsOf (program : ProgramTree) (facts : Facts) (image : Image) : Type 0 where
  pub core : List CoreOp
  pub main : ℕ
  pub list : HasListOf (tables_by program facts) program core main
  pub kept : List Set
  pub saved : List Levels
  pub bound : (label : ℕ) → ℕ
  pub places : Places
  pub code : HasWholeCode core kept saved image bound places (firsts_by program facts) main
  pub events : TellEvents core image bound places

-- The text keeps all rules, and the image's commit table tells the events of its operations.
pub record TellsEvents (source : List ℕ) (image : Image) : Type 0 where
  pub program : ProgramTree
  pub facts : Facts
  pub checked : IsChecked source program facts
  pub told : TellsEventsOf program facts image
