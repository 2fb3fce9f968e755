-- Where the group frames of parts begin.
use Rattle.std.specs.Prelude.{◌≡◌, ℕ, suc, ◌+◌, ◌-◌, ◌^◌, ◌≤◌, List, ◌∷◌, drop}
use Rattle.fk_meaning_operation.specs.declared.operation.OwnValue.TheVariants.{FrameAddress}
use Rattle.fk_meaning_operation.specs.declared.operation.Operation.{Operation}
use Rattle.fk_meaning_operation.specs.declared.operation.Operation.TheVariants.{Get}
use Rattle.fk_meaning.specs.Processor.{Level, Processor}
use Rattle.fk_meaning.specs.Round.{Runner}
use Rattle.fk_core.specs.Next.{Position}
use Rattle.fk_sim_block.specs.Node.{Nestings}

-- So many levels outward from a processor's own one there is that of a group, and the frame with
-- this number begins right after the header of its space.
pub record FrameBegins (out number : ℕ) (p : Processor) : Type 0 where
  pub level : Level
  pub around : Level
  pub further : List Level
  pub there : drop out (p.level ∷ p.outer) ≡ level ∷ around ∷ further
  pub first : p.call.frames number ≡ level.space.low + 8
  pub within : level.space.low + 8 ≤ 2 ^ 20

-- A processor that is about to get the address of a word in the frame of a part is in that part.
abbrev pub FindsFrame : Nestings → Operation → Runner Position → Type 0
FindsFrame nestings (Get (FrameAddress (suc part) word)) r =
    (suc part ≤ nestings.nest r.left.at)
    × FrameBegins (nestings.nest r.left.at - suc part) (suc part) r.has
FindsFrame nestings operation r = Unit {0}
