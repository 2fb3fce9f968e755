-- Which processors of a round fit together, if those above a last one act wherever they are needed.
use Rattle.std.specs.Prelude.{◌≡◌, ℕ, zero, suc, ◌==◌, nat_lt, Bool, true, false, ◌&&◌, ◌||◌}
use Rattle.std.specs.Prelude.{◌<◌, ◌≤◌, List, [], ◌∷◌, Option, Some, slice_index}
use Rattle.std.specs.Prelude.{if◌then◌else◌}
use Rattle.std.specs.List.{list_all}
use Rattle.fk_tree.specs.Tree as t
use Rattle.fk_tree.specs.Sound.{IsSound}
use Rattle.fk_tree.specs.declared.node.Kind.{Kind}
use Rattle.fk_tree.specs.declared.node.Kind.TheVariants.{Lockstep, Waiting}
use Rattle.fk_meaning_operation.specs.declared.kinds.Joint.{Joint}
use Rattle.fk_meaning_operation.specs.declared.kinds.Joint.TheVariants.{Alone, Starting, AtBarrier}
use Rattle.fk_meaning_operation.specs.declared.kinds.Joint.TheVariants.{Closing, Resuming}
use Rattle.fk_meaning.specs.Round.{Round, same_joint, body_of, lowest}
use Rattle.fk_replay_rounds.specs.declared.mode.Mode.{Mode}
use Rattle.fk_replay_rounds.specs.declared.mode.Mode.TheVariants as mode
use Rattle.fk_replay_rounds.specs.Modes.{mode_of}

abbrev pub all_have : Round → (last count : ℕ) → List ℕ → Bool
all_have round last count members =
    list_all (λ m. nat_lt last m || (slice_index round m == count)) members

module _ (round : Round) (last : ℕ) (joint : ℕ → Joint) where
  abbrev pub one_joins : Joint → (h : ℕ) → Bool
  one_joins j h = (nat_lt last h || (slice_index round h == 1)) && same_joint j (joint h)

  abbrev pub all_join : Joint → List ℕ → Bool
  all_join j members = list_all (one_joins j) members

module _ (round : Round) (last : ℕ) (joint : ℕ → Joint) (tree : t.Tree) where
  abbrev pub joins_below : (n : ℕ) → Joint → Bool
  joins_below n Alone = true
  joins_below n Starting = all_join round last joint Starting (t.members tree n)
  joins_below n AtBarrier = all_join round last joint AtBarrier (body_of (t.kind tree n) (t.members tree n))
  joins_below n Closing = all_join round last joint Closing (t.members tree n)
  joins_below n Resuming = t.ready tree n && all_join round last joint Resuming (t.members tree n)

  abbrev pub fits_kind_below : (h n : ℕ) → Option Kind → Bool
  fits_kind_below h n (Some Lockstep) = all_have round last (slice_index round h) (t.members tree n)
  fits_kind_below h n kind = joins_below n (joint h)

  abbrev pub fits_below : (h count : ℕ) → Bool
  fits_below h zero = true
  fits_below h (suc c) = let n = tree.places h in fits_kind_below h n (t.kind tree n)

  abbrev pub all_fit_below : (h : ℕ) → (counts : List ℕ) → Bool
  all_fit_below h [] = true
  all_fit_below h (c ∷ counts) = fits_below h c && all_fit_below (suc h) counts

  -- a processor compares itself with the lowest member of its node alone, and the lowest member with
  -- all
  abbrev pub joins_lowest : (h n : ℕ) → Joint → Bool
  joins_lowest h n j = let members = t.members tree n in
      if h == lowest members then all_join round last joint j members else one_joins round last joint j (lowest members)

  abbrev pub joins_by : (h n : ℕ) → (is_alone : Bool) → Joint → Bool
  joins_by h n is_alone Alone = true
  joins_by h n is_alone Resuming = t.ready tree n && joins_lowest h n Resuming
  joins_by h n true AtBarrier = one_joins round last joint AtBarrier (lowest (t.members tree n))
  joins_by h n is_alone j = joins_lowest h n j

  abbrev pub fits_by : (h n : ℕ) → Mode → Bool
  fits_by h n mode.Group = let members = t.members tree n in
      if h == lowest members then all_have round last (slice_index round h) members
      else slice_index round (lowest members) == slice_index round h
  fits_by h n mode.Alone = joins_by h n true (joint h)
  fits_by h n mode.Apart = joins_by h n false (joint h)

  -- those who are in the round are processors of the tree, none above the last one, and who waits
  -- for parts can only resume
  pub record AreThere (processors : ℕ) : Type 0 where
    pub sound : IsSound processors tree
    pub within : (h : ℕ) → 0 < slice_index round h → h < processors
    pub low : (h : ℕ) → 0 < slice_index round h → h ≤ last
    pub waits : (h first parts : ℕ) → 0 < slice_index round h
        → t.kind tree (tree.places h) ≡ Some (Waiting first parts) → joint h ≡ Resuming

  -- each processor of the round fits to the lowest member of its node, and that one to all
  pub record FitByLowest : Type 0 where
    pub each : (h : ℕ) → 0 < slice_index round h
        → fits_by h (tree.places h) (mode_of (t.kind tree (tree.places h))) ≡ true

  -- then all of them fit together, and only then
  pub record IsFitByLowest : Type 0 where
    pub there : FitByLowest → all_fit_below 0 round ≡ true
    pub back : all_fit_below 0 round ≡ true → FitByLowest

abbrev pub LowestMembersTell : Type 0
LowestMembersTell =
    (round : Round) (last : ℕ) (joint : ℕ → Joint) (tree : t.Tree) (processors : ℕ)
    → AreThere round last joint tree processors → IsFitByLowest round last joint tree
