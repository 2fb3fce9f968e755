-- Where the tree has the processors of a program.
use Rattle.std.specs.Prelude.{◌≡◌, ◌≢◌, ℕ, zero, suc, ◌<◌, ◌≤◌, Bool, true, false, List, [], ◌∷◌}
use Rattle.std.specs.Prelude.{length, Option, Some, None, slice_get}
use Rattle.fk_num.specs.Word.{Memory}
use Rattle.fk_space.specs.Space.{Space}
use Rattle.fk_tree.specs.declared.node.Kind.{Kind}
use Rattle.fk_tree.specs.declared.node.Kind.TheVariants.{Lockstep, Waiting, Asynchronous}
use Rattle.fk_meaning_operation.specs.declared.operation.Operation.TheVariants.{Resume}
use Rattle.fk_tree.specs.Tree as t
use Rattle.fk_tree.specs.Tree.{Tree, is_member}
use Rattle.fk_meaning.specs.Processor.{Level, Setting, setting_of}
use Rattle.fk_meaning.specs.Round.{Step, Runner, State, body_of}
use Rattle.fk_meaning.specs.Schedule.{first_level, opening}
use Rattle.fk_lockstep_tree.specs.Where.{Where, InRoot, Waits, InGroup, InBody, BehindBody, Goes}
use Rattle.fk_lockstep_tree.specs.Ranges.{range_of, ranges_of, HaveRanges}

-- the place of the members at a node with so many nodes above it; `runs` tells whether they run its
-- body. The root has none above
abbrev pub where_in : (above : ℕ) → Option Kind → (runs : Bool) → Option Where
where_in zero (Some (Asynchronous false)) runs = Some InRoot
where_in zero (Some (Waiting first parts)) runs = Some (Waits 0)
where_in (suc n) (Some Lockstep) runs = Some (InGroup n)
where_in (suc n) (Some (Waiting first parts)) runs = Some (Waits (suc n))
where_in (suc n) (Some (Asynchronous alone)) true = Some (InBody n)
where_in (suc n) (Some (Asynchronous alone)) false = Some (BehindBody n)
where_in above kind runs = None

abbrev pub where_at : Tree → (h above : ℕ) → Option Where
where_at tree h above = let g = tree.places h in
    where_in above (t.kind tree g) (is_member h (body_of (t.kind tree g) (t.members tree g)))

-- a level is that of a node: it has the words of the node's space, and the size is the number of
-- members
pub record IsOfNode (tree : Tree) (spaces : ℕ → Space) (n : ℕ) (l : Level) : Type 0 where
  pub range : range_of l.space ≡ spaces n
  pub size : l.size ≡ length (t.members tree n)

-- a processor's level is that of a node, and the levels around it are those of the nodes above, up
-- to the root, whose level is the first one
abbrev pub AreLevels : Setting → Tree → (spaces : ℕ → Space) → (h n : ℕ) → Level
    → (outer : List Level) → Type 0
AreLevels set tree spaces h n l [] = (n ≡ 0) × (l ≡ first_level set h)
AreLevels set tree spaces h n l (o ∷ outer) =
    (n ≢ 0) × IsOfNode tree spaces n l × AreLevels set tree spaces h (t.parent tree n) o outer

module _ {W : Type 0} (next : W → Option (Step W)) (set : Setting) where
  -- a processor is at one place by the tree, by the work that it has left, and by its levels
  pub record IsPlaced (spaces : ℕ → Space) (tree : Tree) (h : ℕ) (r : Runner W) : Type 0 where
    pub number_is : r.has.number ≡ h
    pub place : Where
    pub there : where_at tree h (length r.has.outer) ≡ Some place
    pub goes : Goes next place r.left
    pub levels : AreLevels set tree spaces h (tree.places h) r.has.level r.has.outer

  -- every processor is at a place, each node has a higher number than the node above it, and the
  -- words of their spaces are nested
  pub record IsInTree (spaces : ℕ → Space) (s : State W) : Type 0 where
    pub many : length s.runners ≡ set.processors
    pub upward : (n : ℕ) → n ≢ 0 → s.tree.nodes n ≢ None → t.parent s.tree n < n
    pub placed : (h : ℕ) (r : Runner W) → slice_get s.runners h ≡ Some r
        → IsPlaced spaces s.tree h r
    pub ranges : HaveRanges set s.tree spaces

  -- a state is in the tree with the words that the lowest members tell
  abbrev pub HasTree : State W → Type 0
  HasTree s = IsInTree (ranges_of s) s

abbrev pub OpeningsAreInRoot : (W : Type 0) → Type 0
OpeningsAreInRoot W =
    (next : W → Option (Step W)) (program : W) (processors : ℕ) (globals input : List ℕ)
    (firsts : Memory) → 1 ≤ processors → Goes next InRoot program
    → HasTree next (setting_of processors globals input)
    (opening processors globals input firsts program)

-- the next operation of a processor that waits for parts is a resume
abbrev pub WaitersResume : (W : Type 0) → Type 0
WaitersResume W =
    (next : W → Option (Step W)) (set : Setting) (spaces : ℕ → Space) (s : State W)
    (h first parts : ℕ) (r : Runner W) (step : Step W) → IsInTree next set spaces s
    → t.kind s.tree (s.tree.places h) ≡ Some (Waiting first parts) → slice_get s.runners h ≡ Some r
    → next r.left ≡ Some step → step.operation ≡ Resume
