-- The levels in the frames of calls, one entry for each index of a list.
use Rattle.std.specs.Prelude.{◌≡◌, ℕ, zero, suc, ◌+◌, ◌-◌, ◌<◌, ◌≤◌, nat_lt, Bool, List}
use Rattle.std.specs.Prelude.{[], ◌∷◌, map, length, slice_get, Some, if◌then◌else◌, None}
use Rattle.fk_core.specs.declared.op.CoreOp.{CoreOp}
use Rattle.fk_gen.specs.declared.placed.Levels.{Levels}
use Rattle.fk_gen.specs.Levels.{levels_in}
use Rattle.fk_core_levels.specs.Count.{read, here, after, inside, opens, counts, nests}
use Rattle.fk_core_levels.specs.Forks.{Parts, come_to, fork_of, leave, forks}
use Rattle.fk_core_levels.specs.Behind.{named, leads, IsBound, IsLeast}

-- The words after which the levels of the frame begin, at each index.
abbrev pub behind_in : List Levels → (index : ℕ) → ℕ
behind_in saved index = (levels_in saved index).behind

-- The levels of a list: as many as parts are open, after the fewest words that are above all words
-- that their calls name; and whether a `fork` left the last of them.
pub record AreLevels (core : List CoreOp) (saved : List Levels) : Type 0 where
  pub long : length saved ≡ length core
  pub count : map (λ (l : Levels). l.count) saved ≡ counts core
  pub nest : map (λ (l : Levels). l.nest) saved ≡ nests core
  pub fork : map (λ (l : Levels). l.fork) saved ≡ forks core
  pub bound : IsBound core (behind_in saved)
  pub least : IsLeast core (behind_in saved)

-- ---- how they are found

-- What is told of each operation by itself.
abbrev pub told_from : (parts around : ℕ) → Parts → (opening : Bool) → List CoreOp → List Levels
told_from parts around held opening [] = []
told_from parts around held opening (op ∷ ops) =
    let count = here parts (read op) in
    let nest = here around (read op) in
    let there = come_to (read op) held in
    record {
      count = if opening then 0 else count;
      behind = named (read op);
      nest = if opening then 0 else nest;
      fork = if opening then None else fork_of there.parts;
    }
    ∷ told_from (after count (read op)) (inside nest (read op)) (leave (read op) there)
    (opens opening op) ops

-- The levels at an index begin after as many words at least.
abbrev pub raised_one : Levels → (words : ℕ) → Levels
raised_one l words = if nat_lt l.behind words then record l { behind = words } else l

abbrev pub raised : List Levels → (index words : ℕ) → List Levels
raised [] i words = []
raised (l ∷ saved) zero words = raised_one l words ∷ saved
raised (l ∷ saved) (suc i) words = l ∷ raised saved i words

-- The levels at two indices begin after as many words as those at the other at least.
abbrev pub joined : List Levels → (i j : ℕ) → List Levels
joined saved i j = raised (raised saved i (behind_in saved j)) j (behind_in saved i)

-- A number that falls where levels begin later.
abbrev pub left_over : List Levels → ℕ
left_over [] = 0
left_over (l ∷ saved) = (64 - l.behind) + left_over saved

-- The levels of a list, as far as they are found: they begin after no more words than they have to.
pub record IsSettling (core : List CoreOp) (saved : List Levels) : Type 0 where
  pub long : length saved ≡ length core
  pub count : map (λ (l : Levels). l.count) saved ≡ counts core
  pub nest : map (λ (l : Levels). l.nest) saved ≡ nests core
  pub fork : map (λ (l : Levels). l.fork) saved ≡ forks core
  pub holds : (i : ℕ) (op : CoreOp) → slice_get core i ≡ Some op
      → named (read op) ≤ behind_in saved i
  pub least : IsLeast core (behind_in saved)

-- At an index they begin where they do after it, on one of two ways.
abbrev pub StaysAt : List CoreOp → List Levels → (i : ℕ) → (onward : Bool) → Type 0
StaysAt core saved i onward = leads core i onward < length core
    → behind_in saved (leads core i onward) ≡ behind_in saved i

abbrev pub StaysThere : List CoreOp → List Levels → (i : ℕ) → Type 0
StaysThere core saved i = (onward : Bool) → StaysAt core saved i onward
