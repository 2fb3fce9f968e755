-- Which operations stand where, and where they go on in the list.
use Rattle.std.proofs.Common.{◌≡◌, ◌≢◌, ◌⊎◌, inl, inr, ℕ, zero, suc, ◌<◌, Bool, true, false, List, [], ◌∷◌, length, Option, Some, None, refl, ap, ◌∙◌, subst, arith}
use Rattle.std.specs.Prelude.{All}
use Rattle.std.proofs.lemmas.List.Elements.{All-cons, All-head, All-tail}
use Rattle.fk_meaning_operation.specs.Kinds.{class_of}
use Rattle.fk_meaning_operation.specs.declared.kinds.Class.{Class}
use Rattle.fk_meaning_operation.specs.declared.kinds.Class.TheVariants as class
use Rattle.fk_meaning_operation.specs.declared.operation.Operation.{Operation}
use Rattle.fk_meaning_operation.specs.declared.operation.Operation.TheVariants as o
use Rattle.fk_tree.specs.declared.node.Kind.{Kind}
use Rattle.fk_tree.specs.declared.node.Kind.TheVariants.{Lockstep, Waiting, Asynchronous}
use Rattle.fk_meaning.specs.Round.{Runner}
use Rattle.fk_core.specs.declared.op.CoreOp.{CoreOp}
use Rattle.fk_core.specs.Next.{Position, position, behind_jump, landing, returned, follows, step_by, step_of, next}
use Rattle.fk_core.specs.WellFormed.{LeadsOn}
use Rattle.fk_lockstep.proofs.Round.{first_is}
use Rattle.fk_sim_block.specs.Next.{OpAt, step_at}
use Rattle.fk_sim_block.specs.Ready.{is_no_step, MayDo}
use Rattle.fk_sim_block.specs.Lists.{StaysInList}
use Rattle.fk_sim_block.specs.Node.{Nestings}
use Rattle.fk_sim_block.specs.Law.{is_shared_step}
use Rattle.fk_sim_rounds.proofs.Way.{no_jump}
use Rattle.fk_lockstep_tree.specs.Where.{Where, InRoot, Waits, InGroup, InBody, BehindBody, stays, shrinks, goes}
use Rattle.fk_lockstep_tree.specs.Placed.{where_in}
use Rattle.fk_sim_runs.specs.Lists.{IsOfTree}
use Rattle.fk_sim_runs.specs.Reached.{the_end}

-- ---- which steps of the tree stand where

-- the steps by which members of a group come to other nodes
abbrev pub MovesAt : (depth : ℕ) → Operation → Type 0
MovesAt n (o.Split by) = Unit {0}
MovesAt n o.Shrink = n ≢ 0
MovesAt n o.End = Unit {0}
MovesAt n op = ⊥

abbrev pub StepOf : Where → Operation → Type 0
StepOf InRoot op = (op ≡ o.Begin) ⊎ ((op ≡ o.Meet false) ⊎ (op ≡ o.Halt))
StepOf (Waits n) op = op ≡ o.Resume
StepOf (InGroup n) op = (is_shared_step op ≡ true) ⊎ MovesAt n op
StepOf (InBody n) op = (op ≡ o.Meet true) ⊎ (op ≡ o.Meet false)
StepOf (BehindBody n) op = op ≡ o.Meet true

stays_plain : (c : Class) (place to : Where) → stays c place ≡ Some to → is_no_step c ≡ true
stays_plain class.Local place to e = refl
stays_plain class.Request place to e = refl
stays_plain class.Tree place to e = absurd (cc)

not_start : (n : ℕ) (onward : Bool) (to : Where) → shrinks n onward ≡ Some to → n ≢ 0
not_start zero onward to e = absurd (cc)
not_start (suc n) onward to e = λ zero_is. omega (arith, zero_is)

pub step_of_place : (place : Where) (op : Operation) (onward : Bool) (to : Where) → goes place op onward ≡ Some to → (is_no_step (class_of op) ≡ true) ⊎ StepOf place op
step_of_place InRoot (o.Leave gives true) onward to e = absurd (cc)
step_of_place InRoot o.Begin onward to e = inr (inl refl)
step_of_place InRoot (o.Meet false) onward to e = inr (inr (inl refl))
step_of_place InRoot o.Halt onward to e = inr (inr (inr refl))
step_of_place InRoot op onward to e = inl (stays_plain (class_of op) InRoot to e)
step_of_place (Waits n) o.Resume onward to e = inr refl
step_of_place (Waits n) op onward to e = absurd (cc)
step_of_place (InGroup n) o.Agree onward to e = inr (inl refl)
step_of_place (InGroup n) (o.Frame nesting words) onward to e = inr (inl refl)
step_of_place (InGroup n) o.Block onward to e = inr (inl refl)
step_of_place (InGroup n) (o.Split by) onward to e = inr (inr tt)
step_of_place (InGroup n) o.Shrink onward to e = inr (inr (not_start n onward to e))
step_of_place (InGroup n) o.Farm onward to e = inr (inl refl)
step_of_place (InGroup n) o.Seq onward to e = inr (inl refl)
step_of_place (InGroup n) o.End onward to e = inr (inr tt)
step_of_place (InGroup n) op onward to e = inl (stays_plain (class_of op) (InGroup n) to e)
step_of_place (InBody n) (o.Leave gives true) onward to e = absurd (cc)
step_of_place (InBody n) (o.Meet true) onward to e = inr (inl refl)
step_of_place (InBody n) (o.Meet false) onward to e = inr (inr refl)
step_of_place (InBody n) op onward to e = inl (stays_plain (class_of op) (InBody n) to e)
step_of_place (BehindBody n) (o.Meet true) onward to e = inr refl
step_of_place (BehindBody n) op onward to e = absurd (cc)

-- ---- nodes, by where their members stand

-- the number of levels around the members' own, and the kind of the node. Who is in a body runs it
abbrev pub NodeOf : Where → (above : ℕ) → Option Kind → (runs : Bool) → Type 0
NodeOf InRoot above k runs = (above ≡ 0) × (k ≡ Some (Asynchronous false))
NodeOf (Waits n) above k runs = (above ≡ n) × ((first : ℕ) × (parts : ℕ) × (k ≡ Some (Waiting first parts)))
NodeOf (InGroup n) above k runs = (above ≡ suc n) × (k ≡ Some Lockstep)
NodeOf (InBody n) above k runs = (above ≡ suc n) × (runs ≡ true) × ((alone : Bool) × (k ≡ Some (Asynchronous alone)))
NodeOf (BehindBody n) above k runs = (above ≡ suc n) × ((alone : Bool) × (k ≡ Some (Asynchronous alone)))

pub node_of : (above : ℕ) (k : Option Kind) (runs : Bool) (place : Where) → where_in above k runs ≡ Some place → NodeOf place above k runs
node_of zero None runs place e = absurd (cc)
node_of zero (Some Lockstep) runs place e = absurd (cc)
node_of zero (Some (Waiting first parts)) runs place e = subst (λ (q : Where). NodeOf q 0 (Some (Waiting first parts)) runs) (first_is (Waits 0) place e) (refl, (first, parts, refl))
node_of zero (Some (Asynchronous false)) runs place e = subst (λ (q : Where). NodeOf q 0 (Some (Asynchronous false)) runs) (first_is InRoot place e) (refl, refl)
node_of zero (Some (Asynchronous true)) runs place e = absurd (cc)
node_of (suc n) None runs place e = absurd (cc)
node_of (suc n) (Some Lockstep) runs place e = subst (λ (q : Where). NodeOf q (suc n) (Some Lockstep) runs) (first_is (InGroup n) place e) (refl, refl)
node_of (suc n) (Some (Waiting first parts)) runs place e =
    subst (λ (q : Where). NodeOf q (suc n) (Some (Waiting first parts)) runs) (first_is (Waits (suc n)) place e) (refl, (first, parts, refl))
node_of (suc n) (Some (Asynchronous alone)) true place e =
    subst (λ (q : Where). NodeOf q (suc n) (Some (Asynchronous alone)) true) (first_is (InBody n) place e) (refl, refl, (alone, refl))
node_of (suc n) (Some (Asynchronous alone)) false place e =
    subst (λ (q : Where). NodeOf q (suc n) (Some (Asynchronous alone)) false) (first_is (BehindBody n) place e) (refl, (alone, refl))

-- ---- the operation that a position leads to

pub record Leading (core : List CoreOp) (w : Position) : Type 0 where
  pub op : CoreOp
  pub operation : Operation
  pub at : OpAt core (landing core w.at) op operation
  pub is_next : next core w ≡ Some (step_at core (landing core w.at) op operation w.callers)

pub next_at : (core : List CoreOp) (w : Position) (op : CoreOp) (operation : Operation) → OpAt core (landing core w.at) op operation → next core w ≡ Some (step_at core (landing core w.at) op operation w.callers)
next_at core w op operation at = ap (step_of core (landing core w.at) w.callers) at.stands ∙ ap (step_by core (landing core w.at) w.callers op) at.is_read

pub leading : (core : List CoreOp) → LeadsOn core → (w : Position) → w.at < length core → Leading core w
leading core leads w lt =
    let is = leads w.at lt in
    let at : OpAt core (landing core w.at) is.op is.operation = record { stands = is.stands; no_jump = no_jump is.op is.operation is.is_read; is_read = is.is_read } in
    record { op = is.op; operation = is.operation; at = at; is_next = next_at core w is.op is.operation at }

-- ---- where it goes on

abbrev Below : List CoreOp → List ℕ → Type 0
Below core callers = All (λ i. i < length core) callers

returned_within : (core : List CoreOp) (callers : List ℕ) → StaysInList core (returned core []) → Below core callers → StaysInList core (returned core callers)
returned_within core [] w all = w
returned_within core (i ∷ callers) w all = record { at = All-head (λ j. j < length core) i callers all; callers = All-tail (λ j. j < length core) i callers all }

entered_within : (core : List CoreOp) (i : ℕ) (callers : List ℕ) → StaysInList core (position (suc i) (behind_jump core (suc i) ∷ [])) → Below core callers
    → StaysInList core (position (suc i) (behind_jump core (suc i) ∷ callers))
entered_within core i callers w all =
    record { at = w.at; callers = All-cons (λ j. j < length core) (behind_jump core (suc i)) callers (All-head (λ j. j < length core) (behind_jump core (suc i)) [] w.callers) all }

within_callers : (core : List CoreOp) (operation : Operation) (i target : ℕ) (callers : List ℕ) (onward : Bool)
    → StaysInList core (follows core operation i target [] onward) → Below core callers → StaysInList core (follows core operation i target callers onward)
within_callers core (o.Leave gives framed) i target callers onward w all = returned_within core callers w all
within_callers core o.Halt i target callers onward w all = returned_within core callers w all
within_callers core (o.Enter n) i target callers true w all = entered_within core i callers w all
within_callers core (o.Enter n) i target callers false w all = entered_within core i callers w all
within_callers core operation i target callers true w all = record { at = w.at; callers = all }
within_callers core operation i target callers false w all = record { at = w.at; callers = all }

within_return : (core : List CoreOp) (callers : List ℕ) → 0 < length callers → Below core callers → StaysInList core (returned core callers)
within_return core [] lt all = absurd (omega (arith, lt))
within_return core (i ∷ callers) lt all = record { at = All-head (λ j. j < length core) i callers all; callers = All-tail (λ j. j < length core) i callers all }

-- in the list, but behind a halt
pub stays_within : (core : List CoreOp) (nestings : Nestings) (main : ℕ) → IsOfTree core nestings main → (i : ℕ) (op : CoreOp) (operation : Operation) (r : Runner Position) (onward : Bool)
    → OpAt core i op operation → MayDo operation r → Below core r.left.callers → operation ≢ o.Halt → StaysInList core (follows core operation i op.target r.left.callers onward)
stays_within core nestings main list i op (o.Leave gives framed) r onward at may all ne = within_return core r.left.callers may all
stays_within core nestings main list i op o.Halt r onward at may all ne = absurd (ne refl)
stays_within core nestings main list i op operation r onward at may all ne =
    within_callers core operation i op.target r.left.callers onward (list.within i op operation at refl onward) all

-- or at the end behind that
pub goes_within : (core : List CoreOp) (nestings : Nestings) (main : ℕ) → IsOfTree core nestings main → (i : ℕ) (op : CoreOp) (operation : Operation) (r : Runner Position) (onward : Bool)
    → OpAt core i op operation → MayDo operation r → Below core r.left.callers
    → StaysInList core (follows core operation i op.target r.left.callers onward) ⊎ (follows core operation i op.target r.left.callers onward ≡ the_end core)
goes_within core nestings main list i op o.Halt r onward at may all = inr (ap (returned core) may)
goes_within core nestings main list i op operation r onward at may all = inl (stays_within core nestings main list i op operation r onward at may all (λ e. cc))
