-- The commits of steps of groups tell the events of their operations.
use Rattle.std.specs.Prelude.{ℕ, Some}
use Rattle.fk_meaning_operation.specs.declared.operation.Operation.{Operation}
use Rattle.fk_image.specs.declared.event.Event.TheVariants as events
use Rattle.fk_gen.specs.Events.{event_of, AreMarked}
use Rattle.fk_gen.specs.declared.placed.Levels.{Levels}
use Rattle.fk_gen_group.specs.Blocks.{block_by, start_lines}
use Rattle.fk_gen_group.specs.Splits.{one_part_lines, two_parts_lines, fork_lines}

-- Each commit in the block of an operation is the event of that operation. In the code that all
-- beginnings of `start` share, and in that of splits, it is a split.
pub record BlocksAreMarked : Type 0 where
  pub blocks : (operation : Operation) (levels : Levels) (depth target site : ℕ)
      → AreMarked (event_of operation) (block_by (Some operation) levels depth target site)
  pub start : (globals : ℕ) → AreMarked (Some events.Split) (start_lines globals)
  pub one_part : AreMarked (Some events.Split) one_part_lines
  pub two_parts : AreMarked (Some events.Split) two_parts_lines
  pub fork : AreMarked (Some events.Split) fork_lines
