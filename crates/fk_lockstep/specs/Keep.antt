-- A group whose members don't change the tree.
use Rattle.std.specs.Prelude.{◌≡◌, ◌≢◌, ℕ, ◌<◌, Bool, true, false, Some, None, slice_get}
use Rattle.fk_meaning_operation.specs.declared.operation.Operation.TheVariants as o
use Rattle.fk_tree.specs.Tree as t
use Rattle.fk_tree.specs.Tree.{is_member}
use Rattle.fk_meaning.specs.Processor.{Setting}
use Rattle.fk_meaning.specs.Round.{Step, Runner, State, Round, Acting, result}
use Rattle.fk_meaning_forms.specs.Code.{Code}
use Rattle.fk_meaning.specs.Next.{Work, next}
use Rattle.fk_lockstep.specs.InStep.{InStep}
use Rattle.fk_lockstep.specs.Together.{DoesStep, Together}
use Rattle.fk_lockstep.specs.Untouched.{changes_tree, StepsAt, tree_after}

module _ (bodies : (binding : ℕ) → Code ℕ) (setting : Setting) (round : Round)
    (s : State Work) where
  -- a processor isn't a member of a node at which the tree is changed, and there is no `start`
  abbrev pub IsApart : (h : ℕ) → Type 0
  IsApart h =
      (n : ℕ) (at : StepsAt (next bodies) setting round s n)
      → (at.step.operation ≢ o.Begin) × (n < s.tree.given)
      × (is_member h (t.members s.tree n) ≡ false)

  -- two processors at one node act in a round without a fault with the same count, and don't change
  -- the tree
  pub record ActQuietly (g h : ℕ) (r q : Runner Work) : Type 0 where
    pub no_fault : (result (next bodies) setting round s).fault ≡ None
    pub first : slice_get s.runners g ≡ Some r
    pub second : slice_get s.runners h ≡ Some q
    pub count : ℕ
    pub first_count : slice_get round g ≡ Some count
    pub second_count : slice_get round h ≡ Some count
    pub one_node : s.tree.places r.has.number ≡ s.tree.places q.has.number
    pub quiet : (a : Acting Work) (step : Step Work)
        → DoesStep (next bodies) setting round s g a step → changes_tree step.operation ≡ false
    pub first_apart : IsApart r.has.number
    pub second_apart : IsApart q.has.number

  -- after the round they are together, and at the same node
  pub record StayTogether (may_call : (function : ℕ) → Bool) (g h : ℕ)
      (r q : Runner Work) : Type 0 where
    pub first : Runner Work
    pub second : Runner Work
    pub first_is : slice_get (result (next bodies) setting round s).runners g ≡ Some first
    pub second_is : slice_get (result (next bodies) setting round s).runners h ≡ Some second
    pub agreed : Bool
    pub together : Together may_call agreed first second
    pub first_place : (tree_after (next bodies) setting round s).places r.has.number
        ≡ s.tree.places r.has.number
    pub second_place : (tree_after (next bodies) setting round s).places q.has.number
        ≡ s.tree.places q.has.number

abbrev pub GroupsStayTogether : Type 0
GroupsStayTogether =
    (may_call : (function : ℕ) → Bool) (bodies : (binding : ℕ) → Code ℕ)
    → ((function : ℕ) → may_call function ≡ true → InStep may_call false (bodies function))
    → (setting : Setting) (round : Round) (s : State Work) (g h : ℕ) (r q : Runner Work)
    → ActQuietly bodies setting round s g h r q
    → (agreed : Bool) → Together may_call agreed r q
    → StayTogether bodies setting round s may_call g h r q
