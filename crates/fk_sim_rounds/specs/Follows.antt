-- A machine follows runs, whatever the form of what a processor has left to do.
use Rattle.std.specs.Prelude.{◌≡◌, ℕ, ◌+◌, ◌^◌, ◌<◌, ◌≤◌, List, All, Option, length}
use Rattle.fk_meaning.specs.Processor.{Setting, setting_of}
use Rattle.fk_meaning.specs.Round.{Step, State}
use Rattle.fk_meaning.specs.Schedule.{run, stand_of, IsLawful, SourceStand, SourceRunning}
use Rattle.fk_meaning.specs.Schedule.{SourceFinished, SourceFaulted}
use Rattle.fk_image.specs.declared.Image.{Image}
use Rattle.fk_machine.specs.declared.stand.Stand.{Stand}
use Rattle.fk_machine.specs.declared.stand.Stand.TheVariants.{Running, Finished, Faulted}
use Rattle.fk_machine.specs.Run.{machine, output_of, rounds}

-- The status of a machine agrees with that of a run. A trap agrees with none.
abbrev pub StandsAgree : Stand → SourceStand → Type 0
StandsAgree Running SourceRunning = Unit {0}
StandsAgree Finished SourceFinished = Unit {0}
StandsAgree (Faulted site hart) (SourceFaulted fault) = (site ≡ fault.site)
    × (hart ≡ fault.processor)
StandsAgree stand source = ⊥

-- The input numbers that a machine of the image takes: words, 65,536 at most, with room for them
-- and the globals in one half of shared data.
pub record IsInput (image : Image) (input : List ℕ) : Type 0 where
  pub few : length input ≤ 65536
  pub room : length image.globals.items + length input ≤ 2 ^ 19
  pub words : All (λ w. w < 2 ^ 32) input

module _ {W : Type 0} (next : W → Option (Step W)) (image : Image) (input : List ℕ) (p n : ℕ) where
  abbrev pub setting : Setting
  setting = setting_of p image.globals.items input

  -- After n cycles the machine agrees with a state: in its output, in all of shared data, and in
  -- its status.
  pub record Agrees (s : State W) : Type 0 where
    pub output : output_of image input p n ≡ s.store.output
    pub words : (i : ℕ) → i < 2 ^ 20 → (machine image input p n).shared.words i ≡ s.store.words i
    pub stand : StandsAgree (machine image input p n).stand (stand_of next setting s)

  -- The schedule read off n cycles is lawful from a first state, and the machine agrees with the
  -- run by that schedule.
  pub record Follows (first : State W) : Type 0 where
    pub lawful : IsLawful next setting (rounds image input p n) first
    pub agrees : Agrees (run next setting (rounds image input p n) first)
