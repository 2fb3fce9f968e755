-- Laws of faithful images.
use Rattle.std.specs.Prelude.{ℕ, ◌^◌, ◌<◌, ◌≤◌, List}
use Rattle.fk_image.specs.declared.Image.{Image}
use Rattle.fk_machine.specs.declared.stand.Stand.{Stand}
use Rattle.fk_machine.specs.declared.stand.Stand.TheVariants.{Trapped}
use Rattle.fk_machine.specs.Run.{machine}
use Rattle.fk_sim_rounds.specs.Follows.{IsInput}
use Rattle.fk_compile.specs.Faithful.{IsFaithful}

-- The status is no trap.
abbrev pub IsUntrapped : Stand → Type 0
IsUntrapped (Trapped hart pc kind) = ⊥
IsUntrapped stand = Unit {0}

-- A machine that runs an image of a text has no trap after any number of cycles.
abbrev pub NeverTraps : Type 0
NeverTraps =
    (source : List ℕ) (image : Image) (input : List ℕ) (p n : ℕ) → IsFaithful source image
    → IsInput image input → 1 ≤ p → p ≤ 1024
    → n < 2 ^ 32 → IsUntrapped (machine image input p n).stand
