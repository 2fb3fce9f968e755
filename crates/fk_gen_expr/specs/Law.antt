-- The law of expressions.
use Rattle.std.specs.Prelude.{ℕ, ◌≤◌, List, length}
use Rattle.fk_meaning_operation.specs.declared.operation.Operation.{Operation}
use Rattle.fk_meaning.specs.Processor.{Setting}
use Rattle.fk_core.specs.declared.op.CoreOp.{CoreOp}
use Rattle.fk_image.specs.declared.Image.{Image}
use Rattle.fk_machine.specs.Hart.{Hart, Setting as MachineSetting}
use Rattle.fk_sim_block.specs.Owner.{Owner}
use Rattle.fk_sim_block.specs.Stands.{Places}
use Rattle.fk_sim_block.specs.Next.{OpAt}
use Rattle.fk_sim_block.specs.Suits.{Fits, writes}
use Rattle.fk_sim_block.specs.Block.{Enters, Does}
use Rattle.fk_gen.specs.InPlace.{HasBlock}
use Rattle.fk_gen.specs.declared.placed.Levels.{Levels}
use Rattle.fk_gen.specs.Keeps.{DoesAnd, Keeps, peak, past_first}
use Rattle.fk_gen.specs.Parts.{FindsPart}
use Rattle.fk_gen_expr.specs.Expressions.{IsExpression, expression_block}

-- The block of an operation of expressions, in place, does the operation, where frames suit the
-- operation, and its hart finds the frame of which it gets a word.
abbrev pub ExpressionsDo : Type 0
ExpressionsDo =
    (core : List CoreOp) (image : Image) (places : Places) (bound : ℕ → ℕ) (i : ℕ) (op : CoreOp)
    (levels : Levels) (operation : Operation)
    → OpAt core i op operation
    → IsExpression (length image.globals.items) levels op.depth operation
    → HasBlock image bound places i
    (expression_block (length image.globals.items) levels op.depth operation)
    → places.frames.of_file ≤ 56
    → Fits core places.frames i op operation
    → (setting : Setting) (t : MachineSetting) (p : Owner) (h : Hart)
    → Enters core image places setting t i op operation p h
    → FindsPart places levels operation p h → Does core image places setting t 1 p h

-- The block of an operation of expressions commits with its first instruction, has as many cycles
-- after it as lines, and keeps what such a block keeps.
abbrev pub ExpressionsKeep : Type 0
ExpressionsKeep =
    (core : List CoreOp) (image : Image) (places : Places) (bound : ℕ → ℕ) (i : ℕ) (op : CoreOp)
    (levels : Levels) (operation : Operation)
    → OpAt core i op operation
    → IsExpression (length image.globals.items) levels op.depth operation
    → HasBlock image bound places i
    (expression_block (length image.globals.items) levels op.depth operation)
    → places.frames.of_file ≤ 56
    → Fits core places.frames i op operation
    → (setting : Setting) (t : MachineSetting) (p : Owner) (h : Hart)
    → Enters core image places setting t i op operation p h
    → FindsPart places levels operation p h
    → DoesAnd core image places setting t 1 p h 0
    (past_first (expression_block (length image.globals.items) levels op.depth operation))
    (Keeps places (length p.runner.has.callers) (peak operation op.depth) (writes operation) h)
