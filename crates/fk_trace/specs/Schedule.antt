-- A trace tells the schedule of the machine's run.
use Rattle.std.specs.Prelude.{◌≡◌, ℕ, List, map}
use Rattle.fk_image.specs.declared.Image.{Image}
use Rattle.fk_machine.specs.Cycle.{machine_opening}
use Rattle.fk_machine.specs.Run.{committed_in, rounds}
use Rattle.fk_trace.specs.declared.column.Column.TheVariants.{Counts}
use Rattle.fk_trace.specs.Text.{number_in}

-- The counts that the harts commit in each cycle are the rounds of the schedule that is read off
-- the run.
abbrev pub CountsAreTheSchedule : Type 0
CountsAreTheSchedule =
    (image : Image) (input : List ℕ) (p n : ℕ)
    → map (map (number_in Counts)) (committed_in n (machine_opening image input p))
    ≡ rounds image input p n
