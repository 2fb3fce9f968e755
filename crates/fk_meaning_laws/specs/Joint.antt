-- What the processors of an allowed round do together.
use Rattle.std.specs.Prelude.{◌≡◌, ◌≢◌, ℕ, true, false, List, [], slice_get, slice_index}
use Rattle.std.specs.Prelude.{Option, Some}
use Rattle.fk_tree.specs.Tree as t
use Rattle.fk_tree.specs.Tree.{is_member}
use Rattle.fk_tree.specs.declared.node.Kind.TheVariants.{Lockstep}
use Rattle.fk_meaning_operation.specs.declared.operation.Operation.{Operation}
use Rattle.fk_meaning_operation.specs.declared.operation.Operation.TheVariants.{Begin, Meet, Resume}
use Rattle.fk_meaning.specs.Processor.{Setting}
use Rattle.fk_meaning.specs.Round.{Step, State, Round, Acting, begin_all, body_of, is_allowed}
use Rattle.fk_meaning.specs.Schedule.{IsIn}
use Rattle.fk_meaning.specs.Touch.{operation_due}

module _ {W : Type 0} (next : W → Option (Step W)) (setting : Setting) (round : Round)
    (s : State W) where
  -- a processor is in the round, and stands at a node
  pub record ActsAt (n h : ℕ) : Type 0 where
    pub is_in : IsIn h round
    pub place : s.tree.places h ≡ n

  -- it comes to this operation, after local ones if its count is above 1
  pub record ComesTo (operation : Operation) (h : ℕ) : Type 0 where
    pub acting : Acting W
    pub is : slice_get (begin_all next setting round s.runners) h ≡ Some acting
    pub due : operation_due acting.due ≡ Some operation

  -- whom a joint operation at a node needs: all members, or those that run the body
  abbrev pub needed_by : Operation → (n : ℕ) → List ℕ
  needed_by Begin n = t.members s.tree n
  needed_by (Meet true) n = t.members s.tree n
  needed_by (Meet false) n = body_of (t.kind s.tree n) (t.members s.tree n)
  needed_by Resume n = t.members s.tree n
  needed_by operation n = []

  -- the operation is all that a processor does in the round
  pub record DoesOnly (operation : Operation) (h : ℕ) : Type 0 where
    pub count : slice_index round h ≡ 1
    pub comes_to : ComesTo operation h

  pub record IsJoint : Type 0 where
    -- A group in lockstep acts as a whole.
    pub lockstep : (n h m : ℕ) → ActsAt n h → t.kind s.tree n ≡ Some Lockstep
        → is_member m (t.members s.tree n) ≡ true → slice_index round m ≡ slice_index round h
    -- Elsewhere each member acts by itself, except in joint operations.
    pub joint : (n h m : ℕ) (operation : Operation) → ActsAt n h
        → t.kind s.tree n ≢ Some Lockstep → ComesTo operation h
        → is_member m (needed_by operation n) ≡ true → DoesOnly operation m
    -- A node goes on only after all its parts have ended.
    pub ready : (n h : ℕ) → ActsAt n h → t.kind s.tree n ≢ Some Lockstep → ComesTo Resume h
        → t.ready s.tree n ≡ true

abbrev pub RoundsAreJoint : Type 0 → Type 0
RoundsAreJoint W =
    (next : W → Option (Step W)) (setting : Setting) (round : Round) (s : State W)
    → is_allowed next setting round s ≡ true → IsJoint next setting round s
