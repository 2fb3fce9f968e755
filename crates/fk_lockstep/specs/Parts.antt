-- How a processor of a program goes through parts and bodies in a round.
use Rattle.std.specs.Prelude.{◌≡◌, ℕ, Bool, List, [], length, Option, Some, None, false, slice_get}
use Rattle.fk_tree.specs.Tree as t
use Rattle.fk_meaning.specs.Processor.{Setting}
use Rattle.fk_meaning.specs.Group.{does, goes_onward}
use Rattle.fk_meaning.specs.Round.{Step, Runner, State, Round, Acting, lowest, agreed, result}
use Rattle.fk_meaning_forms.specs.Code.{Code}
use Rattle.fk_meaning.specs.Next.{Work, going, next}
use Rattle.fk_meaning.specs.Sites.{after_ways}
use Rattle.fk_meaning.specs.Behind.{outs, GoesOnFrom}
use Rattle.fk_meaning.specs.Shape.{of_function, Shape}
use Rattle.fk_lockstep.specs.Together.{stepping, group_of}

-- work to which a run of a program can lead
pub record IsReached (bodies : (binding : ℕ) → Code ℕ) (main : ℕ) (work : Work) : Type 0 where
  pub ways : List Bool
  pub is : work ≡ after_ways (next bodies) ways (going (bodies main) [])

module _ (bodies : (binding : ℕ) → Code ℕ) (main : ℕ) (setting : Setting) (round : Round)
    (s : State Work) where
  -- the state of a processor after its step of the tree, if it takes one
  abbrev pub stepped_by : Option (Step Work) → Runner Work → Runner Work
  stepped_by None r = r
  stepped_by (Some step) r =
      let highest = agreed (stepping (next bodies) setting round s)
      (group_of (next bodies) setting round s r.has) in
      let tree = (result (next bodies) setting round s).tree in
      record {
        left = step.rest (goes_onward step.operation highest
            (lowest (group_of (next bodies) setting round s r.has)) r.has);
        has =
            does step.operation highest (length (t.members tree (tree.places r.has.number))) r.has;
      }

  -- in a round without a fault the local operations and the request of a processor don't change its
  -- parts and bodies, or the levels around its own. Then it takes at most one step of the tree,
  -- which follows the nesting of parts and bodies
  pub record GoesThrough (h : ℕ) (r : Runner Work) : Type 0 where
    pub acting : Acting Work
    pub stands : slice_get (stepping (next bodies) setting round s) h ≡ Some acting
    pub number : acting.runner.has.number ≡ r.has.number
    pub outer : acting.runner.has.outer ≡ r.has.outer
    pub outs : outs acting.runner.left ≡ outs r.left
    pub reached : IsReached bodies main acting.runner.left
    pub step : (step : Step Work) → acting.due ≡ Some step → GoesOnFrom acting.runner.left step
    pub after : slice_get (result (next bodies) setting round s).runners h
        ≡ Some (stepped_by acting.due acting.runner)
    pub reached_after : IsReached bodies main (stepped_by acting.due acting.runner).left

abbrev pub RoundsGoThroughParts : Type 0
RoundsGoThroughParts =
    (bodies : (binding : ℕ) → Code ℕ)
    → ((binding : ℕ) → Shape false false of_function (bodies binding))
    → (main : ℕ) (setting : Setting) (round : Round) (s : State Work) (h count : ℕ)
    (r : Runner Work)
    → (result (next bodies) setting round s).fault ≡ None
    → slice_get s.runners h ≡ Some r → slice_get round h ≡ Some count → IsReached bodies main r.left
    → GoesThrough bodies main setting round s h r
