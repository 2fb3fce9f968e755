-- The processors of a round, and their counts.
use Rattle.std.specs.Prelude.{◌≡◌, ℕ, zero, suc, ◌<◌, List, [], ◌∷◌, length, map, slice_index}
use Rattle.std.specs.Prelude.{Some, slice_get}
use Rattle.fk_tree.specs.Tree as t
use Rattle.fk_meaning.specs.Round.{Round, lowest, highest}
use Rattle.fk_replay_phases.specs.declared.acting.Acting.{Acting}

-- no processor is in the round
pub record AreNone (processors : ℕ) (round : Round) : Type 0 where
  pub many : length round ≡ processors
  pub none : (h : ℕ) → slice_index round h ≡ 0

-- the numbers of those who are in a round, in ascending order
abbrev pub present : (first : ℕ) → Round → List ℕ
present first [] = []
present first (zero ∷ round) = present (suc first) round
present first (suc c ∷ round) = first ∷ present (suc first) round

-- numbers of processors
pub record AreBelow (processors : ℕ) (members : List ℕ) : Type 0 where
  pub each : (i : ℕ) → i < length members → slice_index members i < processors

-- a processor in a round, by the tree before the round
abbrev pub acting_at : t.Tree → ℕ → Acting
acting_at tree h = let n = tree.places h in
    record {
      number = h;
      node = n;
      lowest = lowest (t.members tree n);
      highest = highest (t.members tree n);
    }

abbrev pub all_acting : t.Tree → List ℕ → List Acting
all_acting tree numbers = map (acting_at tree) numbers

abbrev pub numbers_of : List Acting → List ℕ
numbers_of acting = map (λ a. a.number) acting

-- the highest members are processors
pub record AreHighBelow (processors : ℕ) (acting : List Acting) : Type 0 where
  pub each : (i : ℕ) (x : Acting) → slice_get acting i ≡ Some x → x.highest < processors
