-- What each processor does next, in a state that a run has come to.
use Rattle.std.proofs.Common.{◌≡◌, ◌≢◌, ◌⊎◌, inl, inr, ⊎_elim, ℕ, zero, suc, ◌<◌, Bool, true, false, List, length, Option, Some, refl, sym, ap, ◌∙◌, subst, arith}
use Rattle.std.specs.Prelude.{slice_get}
use Rattle.std.proofs.lemmas.Bool.{false≢true}
use Rattle.fk_meaning_operation.specs.Kinds.{class_of, joint_of}
use Rattle.fk_meaning_operation.specs.declared.operation.Operation.{Operation}
use Rattle.fk_meaning_operation.specs.declared.operation.Operation.TheVariants as o
use Rattle.fk_tree.specs.declared.node.Kind.{Kind}
use Rattle.fk_tree.specs.declared.node.Kind.TheVariants.{Waiting, Asynchronous}
use Rattle.fk_tree.specs.Tree as trees
use Rattle.fk_tree.specs.Tree.{Tree, is_member}
use Rattle.fk_tree.specs.Sound.{Has}
use Rattle.fk_meaning.specs.Processor.{Setting}
use Rattle.fk_meaning.specs.Round.{Runner, State, body_of}
use Rattle.fk_core.specs.declared.op.CoreOp.{CoreOp}
use Rattle.fk_core.specs.Next.{Position, position, landing, next}
use Rattle.fk_lockstep.proofs.Round.{at_below}
use Rattle.fk_lockstep_tree.specs.Where.{Where, InRoot, Waits, InGroup, InBody, BehindBody, goes, Goes}
use Rattle.fk_lockstep_tree.specs.Ranges.{ranges_of}
use Rattle.fk_lockstep_tree.specs.Placed.{IsPlaced}
use Rattle.fk_lockstep_tree.proofs.Moves.{goes_on}
use Rattle.fk_lockstep_tree.proofs.Paths.{at_root, below_root}
use Rattle.fk_sim_block.specs.Owner.{Heaps, Owner}
use Rattle.fk_sim_block.specs.Next.{step_at}
use Rattle.fk_sim_block.specs.Ready.{is_no_step, MayDo, IsReady}
use Rattle.fk_sim_block.specs.Node.{Nestings}
use Rattle.fk_sim_block.specs.Joint.{word_of}
use Rattle.fk_sim_match.specs.Nodes.{is_lockstep, body_at}
use Rattle.fk_sim_match.specs.Rounds.{joint_at_word}
use Rattle.fk_sim_rounds.specs.Next.{landed, MayAlone, MayMeet, MayByItself, HasNext}
use Rattle.fk_sim_runs.specs.Lists.{IsOfTree}
use Rattle.fk_sim_runs.specs.Reached.{the_end, IsReached}
use Rattle.fk_sim_runs.specs.Facts.{ReachedProcessorsHaveNext}
use Rattle.fk_sim_runs.proofs.Ways.{StepOf, step_of_place, NodeOf, node_of, Leading, leading}
use Rattle.fk_sim_runs.proofs.Root.{in_root}

-- ---- meetings

closes_body : (g : ℕ) (alone : Bool) → g ≢ 0 → joint_of (o.Meet true) ≡ joint_at_word g (Some (Asynchronous alone)) (word_of (o.Meet true))
closes_body zero alone ne = absurd (ne refl)
closes_body (suc g) alone ne = refl

pub meets_at_end : (tree : Tree) (number : ℕ) (alone : Bool) → tree.places number ≢ 0 → trees.kind tree (tree.places number) ≡ Some (Asynchronous alone) → Has tree (tree.places number) number
    → MayMeet tree (tree.places number) number (o.Meet true)
meets_at_end tree number alone ne kind has = record {
  meeting = refl;
  joint = subst (λ (k : Option Kind). joint_of (o.Meet true) ≡ joint_at_word (tree.places number) k (word_of (o.Meet true))) (sym kind) (closes_body (tree.places number) alone ne);
  member = has;
}

pub meets_at_barrier : (tree : Tree) (number : ℕ) (alone : Bool) → trees.kind tree (tree.places number) ≡ Some (Asynchronous alone)
    → is_member number (body_of (trees.kind tree (tree.places number)) (trees.members tree (tree.places number))) ≡ true → MayMeet tree (tree.places number) number (o.Meet false)
meets_at_barrier tree number alone kind runs =
    let g = tree.places number in
    let ms = trees.members tree g in
    record {
      meeting = refl;
      joint = refl;
      member = subst (λ (k : Option Kind). is_member number (body_at k g ms) ≡ true) (sym kind) (subst (λ (k : Option Kind). is_member number (body_of k ms) ≡ true) kind runs);
    }

resumes_at : (g first parts : ℕ) → joint_of o.Resume ≡ joint_at_word g (Some (Waiting first parts)) (word_of o.Resume)
resumes_at zero first parts = refl
resumes_at (suc g) first parts = refl

pub meets_to_resume : (tree : Tree) (number first parts : ℕ) → trees.kind tree (tree.places number) ≡ Some (Waiting first parts) → Has tree (tree.places number) number
    → MayMeet tree (tree.places number) number o.Resume
meets_to_resume tree number first parts kind has = record {
  meeting = refl;
  joint = subst (λ (k : Option Kind). joint_of o.Resume ≡ joint_at_word (tree.places number) k (word_of o.Resume)) (sym kind) (resumes_at (tree.places number) first parts);
  member = has;
}

-- a processor at its operation may do what it may before
pub may_same : (operation : Operation) (r : Runner Position) (i : ℕ) → MayDo operation r → MayDo operation (record r { left = position i r.left.callers })
may_same o.Read r i x = x
may_same operation r i x = x

module _ (core : List CoreOp) (nestings : Nestings) (main : ℕ) (setting : Setting) (s : State Position) (list : IsOfTree core nestings main) (is : IsReached core nestings setting s) where
  pub below : (h : ℕ) (r : Runner Position) → slice_get s.runners h ≡ Some r → h < setting.processors
  below h r at = let lt = at_below s.runners h r at in let many = is.stands.tree.many in omega (arith, lt, many)

  pub leads_to : (h : ℕ) (r : Runner Position) → slice_get s.runners h ≡ Some r → r.left ≢ the_end core → Leading core r.left
  leads_to h r at going = ⊎_elim (λ w. leading core list.well_formed.leads_on r.left w.at) (λ e. absurd (going e)) (is.within h r at)

  module _ (h : ℕ) (r : Runner Position) (heap : Heaps) (at : slice_get s.runners h ≡ Some r) (leads : Leading core r.left) where
    abbrev p : Owner
    p = record { runner = r; heap = heap }

    abbrev g : ℕ
    g = s.tree.places h

    abbrev operation : Operation
    operation = leads.operation

    abbrev pub placed : IsPlaced (next core) setting (ranges_of s) s.tree h r
    placed = is.stands.tree.placed h r at

    pub ready : IsReady leads.op operation (landed core p).runner
    ready = record {
      depth = is.depth h r leads.op at leads.at.stands;
      may = may_same operation r (landing core r.left.at) (is.may h r leads.op operation at leads.at.stands leads.at.is_read);
      in_range = is.in_range h r at;
    }

    -- it may do an operation alone
    pub may_alone : is_no_step (class_of operation) ≡ true → MayAlone nestings operation (landed core p)
    may_alone plain = record { alone = plain; frame = is.finds h r leads.op operation at leads.at.stands leads.at.is_read }

    has : Has s.tree g h
    has = (is.stands.sound.placed h (below h r at)).member

    abbrev runs : Bool
    runs = is_member h (body_of (trees.kind s.tree g) (trees.members s.tree g))

    way : (to : Where) × (goes placed.place operation true ≡ Some to) × Goes (next core) to ((step_at core (landing core r.left.at) leads.op operation r.left.callers).rest true)
    way = goes_on (next core) placed.place r.left (step_at core (landing core r.left.at) leads.op operation r.left.callers) placed.goes leads.is_next true

    pub does : (is_no_step (class_of operation) ≡ true) ⊎ StepOf placed.place operation
    does = step_of_place placed.place operation true way.0 way.1

    abbrev Next : Type 0
    Next = HasNext core nestings setting s.tree h (landed core p)

    by_itself : MayByItself nestings setting s.tree g h operation (landed core p) → Next
    by_itself may = record { op = leads.op; operation = operation; stands = leads.at; ready = ready; may = λ unlocked. may }

    meets : (op : Operation) → operation ≡ op → MayMeet s.tree g h op → Next
    meets op e may = by_itself (inr (inr (inl (subst (MayMeet s.tree g h) (sym e) may))))

    -- about to begin the group of a `start`, in the root
    at_start : operation ≡ o.Begin → g ≡ 0 → trees.kind s.tree g ≡ Some (Asynchronous false) → Next
    at_start e none kind =
        by_itself (inr (inr (inr (record {
          begins = e;
          root = none;
          kind = subst (λ (n : ℕ). trees.kind s.tree n ≡ Some (Asynchronous false)) none kind;
          member = subst (λ (n : ℕ). Has s.tree n h) none has;
          in_root = in_root core nestings setting s h p is at leads.op operation leads.at none;
        }))))

    abbrev above : ℕ
    above = length r.has.outer

    abbrev NodeAt : Where → Type 0
    NodeAt place = NodeOf place (length r.has.outer) (trees.kind s.tree g) runs

    apart : (n : ℕ) → above ≡ suc n → g ≢ 0
    apart n e = below_root setting s.tree (ranges_of s) h g r.has.level r.has.outer n placed.levels e

    by_place : (place : Where) → NodeAt place → StepOf place operation → Next
    by_place InRoot node step =
        let none = at_root setting s.tree (ranges_of s) h g r.has.level r.has.outer placed.levels node.0 in
        ⊎_elim
        (λ e. at_start e none node.1)
        (λ more. ⊎_elim
        (λ e.
        let runs_is : runs ≡ true = ap (λ (k : Option Kind). is_member h (body_of k (trees.members s.tree g))) node.1 ∙ has in
        meets (o.Meet false) e (meets_at_barrier s.tree h false node.1 runs_is))
        (λ e. by_itself (inr (inl e))) more)
        step
    by_place (Waits n) node step = meets o.Resume step (meets_to_resume s.tree h node.1.0 node.1.1 node.1.2 has)
    by_place (InGroup n) node step = record {
      op = leads.op;
      operation = operation;
      stands = leads.at;
      ready = ready;
      may = λ unlocked. absurd (false≢true (sym unlocked ∙ ap is_lockstep node.1));
    }
    by_place (InBody n) node step =
        ⊎_elim (λ e. meets (o.Meet true) e (meets_at_end s.tree h node.2.0 (apart n node.0) node.2.1 has)) (λ e. meets (o.Meet false) e (meets_at_barrier s.tree h node.2.0 node.2.1 node.1)) step
    by_place (BehindBody n) node step = meets (o.Meet true) step (meets_at_end s.tree h node.1.0 (apart n node.0) node.1.1 has)

    pub next_is : Next
    next_is =
        ⊎_elim (λ plain. by_itself (inl (may_alone plain))) (λ step. by_place placed.place (node_of above (trees.kind s.tree g) runs placed.place placed.there) step) does

pub reached_processors_have_next : ReachedProcessorsHaveNext
reached_processors_have_next core nestings main setting s h r heap list is at going =
    next_is core nestings main setting s list is h r heap at (leads_to core nestings main setting s list is h r at going)
