-- The beginning of the group of `start`: all processors meet in the root and agree on the last
-- value of the highest processor, and those with numbers below it go into the group.
use Rattle.std.specs.Prelude.{◌≡◌, ℕ, ◌+◌, ◌≤◌, min, List, [], ◌∷◌, map, Bool, Option, Some, None}
use Rattle.std.specs.Prelude.{if◌then◌else◌}
use Rattle.fk_num.specs.Word.{Memory}
use Rattle.fk_meaning_operation.specs.declared.operation.Operation.TheVariants.{Begin}
use Rattle.fk_meaning.specs.Processor.{Setting, group_space}
use Rattle.fk_meaning.specs.Group.{not_negative, is_taken}
use Rattle.fk_core.specs.declared.op.CoreOp.{CoreOp}
use Rattle.fk_image.specs.declared.Image.{Image}
use Rattle.fk_machine.specs.Hart.{Hart, Setting as MachineSetting}
use Rattle.fk_sim_nodes.specs.Node.{Member, Words}
use Rattle.fk_sim_nodes.specs.Alone.{Holds, later, in_cycles}
use Rattle.fk_sim_nodes.specs.Together.{Together}
use Rattle.fk_sim_nodes.specs.Phase.{Phase, Coming}
use Rattle.fk_sim_block.specs.Owner.{Owner, number_of, core_source}
use Rattle.fk_sim_block.specs.Stands.{Places}
use Rattle.fk_sim_block.specs.Block.{IsRunning, Enters}
use Rattle.fk_sim_block.specs.Node.{Polling, Nestings, IsRoot, OwnsHeader, root_words}
use Rattle.fk_sim_block.specs.Node.{closing_word, agreed_word}
use Rattle.fk_sim_block.specs.Lockstep.{IsMember, NoneSaved, highest_value, is_due, AllComeByWay}
use Rattle.fk_sim_block.specs.Joint.{Polls, KeepsPolling, IsInPhaseBy}

-- A processor in the root, whose group space is whole.
pub record IsInRoot (nestings : Nestings) (setting : Setting) (p : Owner) : Type 0 where
  pub outer : p.runner.has.outer ≡ []
  pub level : IsRoot setting.processors (number_of p) p.runner.has.level
  pub space : p.runner.has.level.space ≡ group_space setting
  pub none : NoneSaved nestings (p.runner.left.at ∷ p.runner.left.callers)

-- The number of cycles from where all leave to their common commit is less than this.
abbrev pub most_united : ℕ
most_united = 40

-- The most steps that a member takes to its arrival. It is `most_united` less than where leaving is
-- the commit (`most_to_meet`).
abbrev pub most_to_start : ℕ
most_to_start = 27

-- How many processors go into the group of `start`, given the last value of the highest processor.
abbrev pub size_of_start : Setting → (highest : ℕ) → ℕ
size_of_start setting highest = min (not_negative highest) setting.processors

-- How many run a body together with a processor after the beginning of `start`: a processor that
-- goes into the group runs none, and one that stays in the root runs the root's, as all do.
abbrev pub runs_behind_start : Setting → (goes : Bool) → Option ℕ
runs_behind_start setting goes = if goes then None else Some setting.processors

-- One of n members that meet at a word is in a phase. It leaves by an instruction of this count,
-- and then `Left` holds of its hart.
pub record MeetsUntil (image : Image) (word n count : ℕ) (Left : Hart → Type 0) (t : MachineSetting)
    (f : Phase) (m : Member) : Type 0 where
  pub polling : Polling
  pub first : Hart
  pub code : Holds image t
  pub polls : KeepsPolling image word m.number polling first n Left count
  pub stands : IsInPhaseBy image word m.number polling first n Left count t f m.hart

module _ (core : List CoreOp) (image : Image) (places : Places) (nestings : Nestings) (i : ℕ)
    (op : CoreOp) where
  -- A member that came to the block in some cycle, and has met all others. Its hart polls with what
  -- `coming` made of the hart that came.
  pub record HasMet (there : Polling) (coming : Hart → Hart) (setting : Setting) (m : Member)
      (p : Owner) : Type 0 where
    pub cycle : MachineSetting
    pub first : Hart
    pub enters : Enters core image places setting cycle i op Begin p first
    pub member : IsMember places nestings setting (Some setting.processors) root_words
        (record m { hart = first }) p
    pub root : IsInRoot nestings setting p
    pub met : Polls there (coming first) m.hart

  abbrev pub AllHaveMet : (there : Polling) (coming : Hart → Hart) → Setting → List Member
      → List Owner → Type 0
  AllHaveMet there coming setting [] [] = Unit {0}
  AllHaveMet there coming setting (m ∷ ms) (p ∷ ps) = HasMet there coming setting m p
      × AllHaveMet there coming setting ms ps
  AllHaveMet there coming setting ms ps = ⊥

  -- Each member comes to the body in the group of `start`, or to where those wait who are not in
  -- the group, and no word of the root has changed except the agreed value's.
  pub record HaveStarted (setting : Setting) (t : MachineSetting) (behind : (onward : Bool) → ℕ)
      (lowest : ℕ) (ps : List Owner) (before : Memory) (ms : List Member)
      (own : Memory) : Type 0 where
    pub parts : AllComeByWay core image places nestings i op Begin setting t behind
        (λ p. runs_behind_start setting (is_taken (highest_value ps) p.runner.has))
        (highest_value ps) lowest (λ p. size_of_start setting (highest_value ps)) ms ps
    pub others : (j : ℕ) → (j ≡ root_words + agreed_word → ⊥) → own j ≡ before j

  -- The block of the beginning of `start`. Each member comes to the root's closing word after at
  -- most `most` private steps, and meets all others there. Those who have met in one cycle commit
  -- together `before` cycles later, and then each goes to its part.
  pub record BlockStarts (there : Polling) (coming : Hart → Hart) (most before : ℕ)
      (behind : (onward : Bool) → ℕ) : Type 0 where
    pub meets : (setting : Setting) (t : MachineSetting) (mine : Words) (m : Member) (p : Owner)
        → OwnsHeader mine root_words → Enters core image places setting t i op Begin p m.hart
        → IsMember places nestings setting (Some setting.processors) root_words m p
        → IsInRoot nestings setting p
        → (d : ℕ) × (d ≤ most) × MeetsUntil image (root_words + closing_word) setting.processors 0
        (λ h. Polls there (coming m.hart) h) t (Coming d) m
    pub starts : (setting : Setting) (t : MachineSetting) (mine : Words) (lowest : ℕ)
        (ms : List Member) (ps : List Owner) (own : Memory)
        → OwnsHeader mine root_words → IsRunning image setting t
        → AllHaveMet there coming setting ms ps
        → Together (core_source core setting) image mine t 1 before ms ps own
        (λ ms' ds own'. (ds ≡ map (is_due core i op Begin) ps)
        × HaveStarted setting (later (in_cycles before t)) behind lowest ps own ms' own')
