-- Processors.
use Rattle.std.specs.Prelude.{ℕ, zero, suc, ◌+◌, List, [], ◌∷◌, length}
use Rattle.fk_num.specs.Word.{Memory}
use Rattle.fk_space.specs.Space.{Space}
use Rattle.fk_meaning_store.specs.Store as store

-- what a run doesn't change: the numbers of processors, of words of globals and of input numbers
pub record Setting : Type 0 where
  pub processors : ℕ
  pub globals : ℕ
  pub inputs : ℕ

abbrev pub setting_of : (processors : ℕ) → (globals input : List ℕ) → Setting
setting_of processors globals input =
    record { processors = processors; globals = length globals; inputs = length input }

abbrev pub group_space : Setting → Space
group_space set = store.group_space (set.globals + set.inputs)

-- the data of a member about its group: `@`, its own `$`, the value of `groupsize()`, and the
-- group's space
pub record Level : Type 0 where
  pub number : ℕ
  pub rank : ℕ
  pub size : ℕ
  pub space : Space

-- a call: its value list, the last value first; its private words; and the first word of the frame
-- that was taken at each nesting, 0 for that of the function
pub record Call : Type 0 where
  pub values : List ℕ
  pub privates : Memory
  pub frames : Memory

-- a processor: its number, its level in the innermost group and those in the groups around it, the
-- running call and those that wait for it, its private variables of file scope, and the number of
-- words of its private heap that it has taken
pub record Processor : Type 0 where
  pub number : ℕ
  pub level : Level
  pub outer : List Level
  pub call : Call
  pub callers : List Call
  pub own : Memory
  pub top : ℕ

abbrev pub values : Processor → List ℕ
values p = p.call.values

-- the last value, and the values before the last `count` ones
abbrev pub last : List ℕ → ℕ
last [] = 0
last (v ∷ vs) = v

abbrev pub before : (count : ℕ) → List ℕ → List ℕ
before zero vs = vs
before (suc n) [] = []
before (suc n) (v ∷ vs) = before n vs

abbrev pub with_values : Processor → List ℕ → Processor
with_values p vs = record p { call = record (p.call) { values = vs } }

abbrev pub push : ℕ → Processor → Processor
push v p = with_values p (v ∷ values p)

abbrev pub drop_last : (count : ℕ) → Processor → Processor
drop_last n p = with_values p (before n (values p))

-- the last value is replaced by another one
abbrev pub in_place : ℕ → Processor → Processor
in_place v p = with_values p (v ∷ before 1 (values p))

abbrev pub with_space : Processor → Space → Processor
with_space p s = record p { level = record (p.level) { space = s } }

-- a processor enters a part, and leaves it for the group around it, whose level is as before
abbrev pub enter_level : Level → Processor → Processor
enter_level l p = record p { level = l; outer = p.level ∷ p.outer }

abbrev pub to_outer : Processor → List Level → Processor
to_outer p [] = p
to_outer p (l ∷ ls) = record p { level = l; outer = ls }

abbrev pub leave_level : Processor → Processor
leave_level p = to_outer p p.outer
