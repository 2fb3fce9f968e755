-- Members of a group that have one program are about to do one operation, and take the same branch.
use Rattle.std.specs.Prelude.{◌≡◌, ℕ, suc, ◌≤◌, List, [], ◌∷◌, length, true, Some, ◌⊎◌}
use Rattle.fk_space.specs.Space.{IsSpace}
use Rattle.fk_tree.specs.declared.node.Kind.TheVariants.{Lockstep}
use Rattle.fk_tree.specs.Tree as trees
use Rattle.fk_tree.specs.Sound.{IsSound}
use Rattle.fk_meaning_operation.specs.declared.operation.Operation.{Operation}
use Rattle.fk_meaning_operation.specs.declared.operation.Operation.TheVariants.{End, Split}
use Rattle.fk_meaning_operation.specs.declared.operation.Operation.TheVariants.{Shrink}
use Rattle.fk_meaning.specs.Round.{State}
use Rattle.fk_core.specs.declared.op.CoreOp.{CoreOp}
use Rattle.fk_core.specs.Next.{Position, next}
use Rattle.fk_sim_nodes.specs.Node.{of_node}
use Rattle.fk_lockstep.specs.OneProgram.{HaveOneProgram}
use Rattle.fk_lockstep.specs.OneSpace.{MembersHaveOneSpace}
use Rattle.fk_sim_block.specs.Owner.{Owner, number_of}
use Rattle.fk_sim_block.specs.Next.{OpAt}
use Rattle.fk_sim_block.specs.Ready.{IsReady}
use Rattle.fk_sim_block.specs.Node.{Nestings}
use Rattle.fk_sim_block.specs.Lockstep.{IsInStart, IsInGroup}
use Rattle.fk_sim_block.specs.Parts.{IsAskedToSplit, IsInPart}
use Rattle.fk_sim_block.specs.Law.{is_shared_step}
use Rattle.fk_sim_rounds.specs.Next.{landed, MayAlone, HaveNext}
use Rattle.fk_sim_rounds.specs.After.{ArePlaces, runners_of}

-- What a member of a group in lockstep may do by which it comes to another node, or others do.
abbrev pub MayMoveInStep : Nestings → Operation → Owner → Type 0
MayMoveInStep nestings (Split by) p =
    IsSpace p.runner.has.level.space × IsAskedToSplit by nestings p
MayMoveInStep nestings Shrink p = IsInPart nestings p
MayMoveInStep nestings End p = IsInStart nestings p ⊎ IsInPart nestings p
MayMoveInStep nestings operation p = ⊥

-- What a member of a group in lockstep may do.
abbrev pub MayInStep : Nestings → Operation → Owner → Type 0
MayInStep nestings operation p = MayAlone nestings operation p
    ⊎ ((is_shared_step operation ≡ true) ⊎ MayMoveInStep nestings operation p)

-- A member of a group in lockstep is about to do an operation that it may do.
pub record IsInStep (core : List CoreOp) (nestings : Nestings) (number : ℕ)
    (p : Owner) : Type 0 where
  pub number_is : number_of p ≡ number
  pub op : CoreOp
  pub operation : Operation
  pub stands : OpAt core p.runner.left.at op operation
  pub ready : IsReady op operation p.runner
  pub may : MayInStep nestings operation p
  pub group : IsInGroup p

-- Each processor of node g, from a number on, is about to do an operation that it may do, once
-- jumps have led it there.
abbrev pub AllInStep : List CoreOp → Nestings → (g number : ℕ) → (nodes : List ℕ)
    → List Owner → Type 0
AllInStep core nestings g number [] [] = Unit {0}
AllInStep core nestings g number (n ∷ nodes) (p ∷ ps) =
    (n ≡ g → IsInStep core nestings number (landed core p))
    × AllInStep core nestings g (suc number) nodes ps
AllInStep core nestings g number nodes ps = ⊥

abbrev pub GroupsHaveNext : Type 0
GroupsHaveNext =
    (core : List CoreOp) (nestings : Nestings) (processors : ℕ) (s : State Position)
    (nodes : List ℕ) (ps : List Owner) (g : ℕ)
    → processors ≤ 1024 → IsSound processors s.tree → ArePlaces s.tree 0 nodes
    → length nodes ≡ processors → s.runners ≡ runners_of ps
    → HaveOneProgram (next core) s → MembersHaveOneSpace s → trees.kind s.tree g ≡ Some Lockstep
    → AllInStep core nestings g 0 nodes ps → HaveNext core nestings (of_node g nodes ps)
