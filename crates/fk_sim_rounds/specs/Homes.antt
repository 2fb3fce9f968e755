-- What processors have of their groups is what the tree has of their nodes, and of the nodes around
-- these.
use Rattle.std.specs.Prelude.{◌≡◌, ◌≢◌, ℕ, suc, ◌<◌, List, [], ◌∷◌, length, map, Bool, Option, Some}
use Rattle.std.specs.Prelude.{None, true, false, is_some}
use Rattle.fk_space.specs.Space.{Space}
use Rattle.fk_tree.specs.declared.node.Kind.TheVariants.{Asynchronous}
use Rattle.fk_tree.specs.Tree as trees
use Rattle.fk_tree.specs.Tree.{Tree}
use Rattle.fk_tree.specs.Sound.{IsSound}
use Rattle.fk_meaning_operation.specs.declared.operation.Operation.{Operation}
use Rattle.fk_meaning_operation.specs.declared.operation.Operation.TheVariants.{Begin, Split}
use Rattle.fk_meaning.specs.Processor.{Level, Processor, Setting, values}
use Rattle.fk_meaning.specs.Group.{part}
use Rattle.fk_meaning.specs.Round.{Step}
use Rattle.fk_core.specs.declared.op.CoreOp.{CoreOp}
use Rattle.fk_core.specs.Next.{Position}
use Rattle.fk_sim_nodes.specs.Source.{AllPass}
use Rattle.fk_sim_match.specs.Stage.{Stage, counts_for, AllDoOne}
use Rattle.fk_sim_block.specs.Owner.{Commons, Owner, Doing, number_of, core_source}
use Rattle.fk_sim_block.specs.Node.{Nestings}
use Rattle.fk_sim_block.specs.Lockstep.{is_due}
use Rattle.fk_sim_rounds.specs.Next.{landed, HasRange, HasNext}
use Rattle.fk_sim_rounds.specs.Comes.{AllHave}
use Rattle.fk_sim_rounds.specs.After.{tree_after, owners_after, halts, AllGoOn}
use Rattle.fk_sim_rounds.specs.Rounds.{IsKnownRound}

-- A level is that of a node, and the levels around it are those of the node's parents, up to the
-- root's.
abbrev pub IsLevelOf : Tree → (spaces : ℕ → Space) → (n : ℕ) → Level → (outer : List Level) → Type 0
IsLevelOf tree spaces n l [] = (n ≡ 0) × (l.size ≡ length (trees.members tree n))
IsLevelOf tree spaces n l (o ∷ outer) =
    (n ≢ 0) × HasRange (spaces n) l.space × (l.size ≡ length (trees.members tree n))
    × IsLevelOf tree spaces (trees.parent tree n) o outer

-- All processors, from a number on, have the levels that the tree has at their nodes.
abbrev pub AllHome : Tree → (spaces : ℕ → Space) → (number : ℕ) → List Owner → Type 0
AllHome tree spaces number [] = Unit {0}
AllHome tree spaces number (p ∷ ps) =
    (number_of p ≡ number) × IsLevelOf tree spaces
    (tree.places number) p.runner.has.level p.runner.has.outer × AllHome tree spaces (suc number) ps

-- A processor that has committed anything but a halt is about to do another operation.
abbrev pub AllNext : List CoreOp → Nestings → Setting → Tree → (number : ℕ)
    → (afters : List (Option Stage)) → List Doing → List Owner → Type 0
AllNext core nestings setting tree number [] [] [] = Unit {0}
AllNext core nestings setting tree number (a ∷ afters) (d ∷ ds) (p ∷ ps) = (a ≡ None
    → halts d.acting.due ≡ false → HasNext core nestings setting tree number (landed core p))
    × AllNext core nestings setting tree (suc number) afters ds ps
AllNext core nestings setting tree number afters ds ps = ⊥

-- Of processors that have the levels of the tree and go on, only their next operations have to be
-- known.
abbrev pub HomesGoOn : Type 0
HomesGoOn =
    (core : List CoreOp) (nestings : Nestings) (setting : Setting) (tree : Tree)
    (spaces : ℕ → Space) (afters : List (Option Stage)) (ds : List Doing) (ps : List Owner)
    → AllHome tree spaces 0 ps → AllNext core nestings setting tree 0 afters ds ps
    → AllGoOn core nestings setting tree spaces 0 afters ds ps

-- A processor is about to enter a part of a split.
abbrev pub enters_part : Operation → Processor → Bool
enters_part (Split by) p = is_some (part by (values p))
enters_part operation p = false

abbrev pub enters_by : Option (Step Position) → Processor → Bool
enters_by None p = false
enters_by (Some step) p = enters_part step.operation p

-- Who enters a part has a space of these words there.
abbrev pub PartsAreTold : Tree → (spaces : ℕ → Space) → (number : ℕ) → List Doing → List Owner
    → Type 0
PartsAreTold tree spaces number [] [] = Unit {0}
PartsAreTold tree spaces number (d ∷ ds) (p ∷ ps) =
    (enters_by d.acting.due d.acting.runner.has ≡ true
    → HasRange (spaces (tree.places number)) p.runner.has.level.space)
    × PartsAreTold tree spaces (suc number) ds ps
PartsAreTold tree spaces number ds ps = ⊥

-- After a known round all processors have the levels of the tree, if they had them before.
abbrev pub HomesStay : Type 0
HomesStay =
    (core : List CoreOp) (setting : Setting) (tree : Tree) (spaces : ℕ → Space)
    (stages : List Stage) (ps : List Owner) (did : List Doing) (shared shared' : Commons)
    → IsSound setting.processors tree → length did ≡ setting.processors → AllHome tree spaces 0 ps
    → AllDoOne stages → AllPass (core_source core setting) (counts_for stages) ps shared did shared'
    → IsKnownRound tree did
    → PartsAreTold (tree_after tree did) spaces 0 did (owners_after tree (tree_after tree did) did)
    → AllHome (tree_after tree did) spaces 0 (owners_after tree (tree_after tree did) did)

-- After the beginning of the group of `start`, which has the root's space, all processors have the
-- levels of the tree, if they had them before.
abbrev pub HomesBegin : Type 0
HomesBegin =
    (core : List CoreOp) (setting : Setting) (tree : Tree) (spaces : ℕ → Space) (alone : Bool)
    (i : ℕ) (op : CoreOp) (ps : List Owner) (did : List Doing)
    → IsSound setting.processors tree → trees.kind tree 0 ≡ Some (Asynchronous alone)
    → ((h : ℕ) → h < setting.processors → tree.places h ≡ 0) → length ps ≡ setting.processors
    → AllHome tree spaces 0 ps → AllHave (spaces tree.given) ps
    → did ≡ map (is_due core i op Begin) ps → IsSound setting.processors (tree_after tree did)
    → AllHome (tree_after tree did) spaces 0 (owners_after tree (tree_after tree did) did)
