-- The tokens that may not be where they are.
use Rattle.std.specs.Prelude.{◌≡◌, ◌≢◌, true, false, List}
use Rattle.fk_syntax.specs.declared.program.Mode.{Mode}
use Rattle.fk_syntax.specs.declared.program.Mode.TheVariants.{Sync, Async, Straight}
use Rattle.fk_check_rules.specs.declared.rule.Rule.{Rule}
use Rattle.fk_check_rules.specs.declared.rule.Rule.TheVariants as r
use Rattle.fk_regions.specs.declared.around.Holder.{Holder}
use Rattle.fk_regions.specs.declared.around.Region.TheVariants.{Synchronous}
use Rattle.fk_regions.specs.declared.around.Loops.TheVariants.{Outside, Beyond}
use Rattle.fk_regions.specs.declared.token.Word.{Word}
use Rattle.fk_regions.specs.declared.token.Word.TheVariants as w
use Rattle.fk_regions.specs.declared.token.Spelling.{Spelling}
use Rattle.fk_regions.specs.declared.token.Spelling.TheVariants.{Shalloc}
use Rattle.fk_regions.specs.declared.callee.Callee.{Callee}
use Rattle.fk_regions.specs.declared.callee.Callee.TheVariants as c
use Rattle.fk_regions.specs.Around.{region, loops, is_in_main, is_in_body}

-- a token breaks a rule, by its surroundings and, if it is a name, by what it calls
pub data Misplaced (around : List Holder) (calls : Callee → Type 0) : Word → Rule → Type 0 where
  start_elsewhere : is_in_main around ≡ false → Misplaced around calls w.Start r.StartNotInMain
  farm_outside : region around ≢ Synchronous → Misplaced around calls w.Farm r.FarmOutside
  seq_outside : region around ≢ Synchronous → Misplaced around calls w.Seq r.SeqOutside
  fork_outside : region around ≢ Synchronous → Misplaced around calls w.Fork r.ForkOutside
  barrier_inside : region around ≡ Synchronous → Misplaced around calls w.Barrier r.BarrierInside
  sync_called_outside : (spelling : Spelling) → calls (c.Function Sync)
      → region around ≢ Synchronous → Misplaced around calls (w.Name spelling) r.SyncCalledOutside
  async_called_inside : (spelling : Spelling) → calls (c.Function Async)
      → region around ≡ Synchronous → Misplaced around calls (w.Name spelling) r.AsyncCalledInside
  shalloc_outside : calls c.Predeclared → region around ≢ Synchronous
      → Misplaced around calls (w.Name Shalloc) r.ShallocOutside
  break_outside : loops around ≡ Outside → Misplaced around calls w.Break r.NoLoop
  continue_outside : loops around ≡ Outside → Misplaced around calls w.Continue r.NoLoop
  return_inside : is_in_body around ≡ true → Misplaced around calls w.Return r.ReturnFromBody
  break_leaves : loops around ≡ Beyond → Misplaced around calls w.Break r.LoopLeavesBody
  continue_leaves : loops around ≡ Beyond → Misplaced around calls w.Continue r.LoopLeavesBody

-- a token may not be in a straight function, because it decides what is run next, waits, or calls a
-- function that may do so
pub data Decides (calls : Callee → Type 0) : Word → Type 0 where
  if_decides : Decides calls w.If
  loop_decides : Decides calls w.Loop
  sign_decides : Decides calls w.Branching
  barrier_waits : Decides calls w.Barrier
  call_decides : (spelling : Spelling) (mode : Mode) → calls (c.Function mode) → mode ≢ Straight
      → Decides calls (w.Name spelling)
