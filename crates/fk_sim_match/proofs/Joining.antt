-- What is so whether anybody unites with others or not: who binds whom, and what a cycle leaves in which nobody does.
use Rattle.std.proofs.Common.{◌≡◌, ℕ, zero, suc, List, [], ◌∷◌, Option, Some, None, Bool, true, false, sym, ap, ◌∙◌, refl, ◌⊎◌, inl, inr, ⊎_elim}
use Rattle.std.specs.Prelude.{◌==◌}
use Rattle.std.proofs.lemmas.Bool.{cases_Bool, false≢true}
use Rattle.fk_num.specs.Word.{Memory}
use Rattle.fk_meaning.specs.Processor.{Setting}
use Rattle.fk_core.specs.declared.op.CoreOp.{CoreOp}
use Rattle.fk_image.specs.declared.Image.{Image}
use Rattle.fk_machine.specs.Hart.{Hart, Setting as MachineSetting}
use Rattle.fk_sim_nodes.specs.Node.{Member, numbered, add, of_node}
use Rattle.fk_sim_nodes.specs.Source.{Source}
use Rattle.fk_sim_nodes.specs.Alone.{later}
use Rattle.fk_sim_nodes.specs.Phase.{Outside, Away, Coming, Waiting, Leaving}
use Rattle.fk_sim_match.specs.Stage.{Commits, Unites, Stage, Ended, Acts, Meets, Pairwise, IsOver, Remains}
use Rattle.fk_sim_match.specs.Plan.{Plan, Blocks, StandsAt, AllStandAt, AllAct, Binds, IsBound}
use Rattle.fk_sim_match.specs.Cycle.{Went, Leaves, AllLeave, AllAreLeft, NodeIsLeft, IsLeft}
use Rattle.fk_sim_block.specs.Owner.{Owner, core_source}
use Rattle.fk_sim_block.specs.Stands.{Places}
use Rattle.fk_sim_block.specs.Node.{Nestings}
use Rattle.fk_sim_match.specs.Behind.{blocks_of, joining_blocks_of}
use Rattle.fk_sim_match.specs.Uniting.{unites_now, NobodyUnites, SomebodyUnites, CyclesLeaveApart}

-- ---- lists of a node

pairs_add : (R : Stage → Option Stage → Type 0) (b : Bool) (s : Stage) (stages : List Stage) (a : Option Stage) (afters : List (Option Stage)) → R s a → Pairwise R stages afters
    → Pairwise R (add b s stages) (add b a afters)
pairs_add R true s stages a afters one more = (one, more)
pairs_add R false s stages a afters one more = more

pairs_of : (R : Stage → Option Stage → Type 0) (g : ℕ) (ns : List ℕ) (stages : List Stage) (afters : List (Option Stage)) → Pairwise R stages afters
    → Pairwise R (of_node g ns stages) (of_node g ns afters)
pairs_of R g [] stages afters pairs = tt
pairs_of R g (n ∷ ns) [] [] pairs = tt
pairs_of R g (n ∷ ns) (s ∷ stages) (a ∷ afters) pairs = pairs_add R (n == g) s (of_node g ns stages) a (of_node g ns afters) pairs.0 (pairs_of R g ns stages afters pairs.1)
pairs_of R g (n ∷ ns) stages afters pairs = absurd (assumption pairs)

nobody_add : (b : Bool) (s : Stage) (stages : List Stage) → unites_now s ≡ false → NobodyUnites stages → NobodyUnites (add b s stages)
nobody_add true s stages one more = (one, more)
nobody_add false s stages one more = more

pub nobody_of : (g : ℕ) (ns : List ℕ) (stages : List Stage) → NobodyUnites stages → NobodyUnites (of_node g ns stages)
nobody_of g [] stages nobody = tt
nobody_of g (n ∷ ns) [] nobody = tt
nobody_of g (n ∷ ns) (s ∷ stages) nobody = nobody_add (n == g) s (of_node g ns stages) nobody.0 (nobody_of g ns stages nobody.1)

pub nobody_or_somebody : (stages : List Stage) → NobodyUnites stages ⊎ SomebodyUnites stages
nobody_or_somebody [] = inl tt
nobody_or_somebody (s ∷ stages) =
    ⊎_elim (λ is. inr (inl is)) (λ no. ⊎_elim (λ nobody. inl (no, nobody)) (λ more. inr (inr more)) (nobody_or_somebody stages)) (cases_Bool (unites_now s))

-- ---- blocks behind which others may join

module _ {S P D : Type 0} (source : Source S P D) (image : Image) (plan : Plan) (blocks : Blocks P D) (Joins : MachineSetting → (g : ℕ) → Member → P → Type 0) where
  abbrev pub joining : Blocks P D
  joining = record blocks { Joins = Joins }

  stand_one : (t : MachineSetting) (g : ℕ) (s : Stage) (m : Member) (p : P) → StandsAt source image plan blocks t g s m p → StandsAt source image plan joining t g s m p
  stand_one t g Ended m p x = x
  stand_one t g (Acts d inner) m p x = x
  stand_one t g (Meets e w f) m p x = x

  all_stand : (t : MachineSetting) (g : ℕ) (stages : List Stage) (ms : List Member) (ps : List P) → AllStandAt source image plan blocks t g stages ms ps
      → AllStandAt source image plan joining t g stages ms ps
  all_stand t g [] [] [] x = tt
  all_stand t g (s ∷ stages) (m ∷ ms) (p ∷ ps) x = (stand_one t g s m p x.0, all_stand t g stages ms ps x.1)
  all_stand t g stages ms ps x = absurd (assumption x)

  all_act : (d inner : ℕ) (stages : List Stage) (ms : List Member) (ps : List P) → AllAct source image plan blocks d inner stages ms ps → AllAct source image plan joining d inner stages ms ps
  all_act d inner [] [] [] x = tt
  all_act d inner (s ∷ stages) (m ∷ ms) (p ∷ ps) x = (x.0, all_act d inner stages ms ps x.1)
  all_act d inner stages ms ps x = absurd (assumption x)

  binds : (b : Bool) (t : MachineSetting) (g : ℕ) (stages : List Stage) (ms : List Member) (ps : List P) (own : Memory) → Binds source image plan blocks b t g stages ms ps own
      → Binds source image plan joining b t g stages ms ps own
  binds true t g stages ms ps own x = record { distance = x.distance; inner = x.inner; alike = all_act x.distance x.inner stages ms ps x.alike; together = x.together }
  binds false t g stages ms ps own x = all_stand t g stages ms ps x

  -- they bind harts alike
  pub is_bound : (t : MachineSetting) (stages : List Stage) (hs : List Hart) (ps : List P) (own : ℕ → Memory) → IsBound source image plan blocks t stages hs ps own
      → IsBound source image plan joining t stages hs ps own
  is_bound t stages hs ps own x = record {
    as_many = x.as_many;
    stages_as_many = x.stages_as_many;
    binds = λ g.
        binds (plan.in_lockstep g) t g (of_node g plan.nodes stages) (of_node g plan.nodes (numbered 0 hs)) (of_node g plan.nodes ps) (own g) (x.binds g);
    counts = λ g w. x.counts g w;
  }

  -- ---- what is left

  went_over : (t : MachineSetting) (g : ℕ) (s : Stage) (m : Member) (p : P) (d : D) → IsOver s → unites_now s ≡ false → Leaves source image plan blocks t g s m p d
      → Went source image plan joining t g None m p d
  went_over t g Ended m p d over nobody leaves = absurd (cc)
  went_over t g (Acts zero inner) m p d over nobody leaves = inl leaves
  went_over t g (Acts (suc k) inner) m p d over nobody leaves = absurd (cc)
  went_over t g (Meets Commits w Outside) m p d over nobody leaves = absurd (cc)
  went_over t g (Meets Commits w Away) m p d over nobody leaves = absurd (cc)
  went_over t g (Meets Commits w (Coming k)) m p d over nobody leaves = absurd (cc)
  went_over t g (Meets Commits w Waiting) m p d over nobody leaves = absurd (cc)
  went_over t g (Meets Commits w (Leaving zero)) m p d over nobody leaves = inl leaves
  went_over t g (Meets Commits w (Leaving (suc k))) m p d over nobody leaves = absurd (cc)
  went_over t g (Meets Unites w f) m p d over nobody leaves = absurd (false≢true (sym nobody ∙ ap (λ x. unites_now (Meets Unites w x)) over))

  went_apart : (t : MachineSetting) (g : ℕ) (s : Stage) (a : Option Stage) (m : Member) (p : P) (d : D) → Remains s a → unites_now s ≡ false → Leaves source image plan blocks t g s m p d
      → Went source image plan blocks t g a m p d → Went source image plan joining t g a m p d
  went_apart t g s None m p d remains nobody leaves went = went_over t g s m p d remains nobody leaves
  went_apart t g s (Some s') m p d remains nobody leaves went = (went.0, stand_one t g s' m p went.1)

  leaves_apart : (t : MachineSetting) (g : ℕ) (s : Stage) (m : Member) (p : P) (d : D) → unites_now s ≡ false → Leaves source image plan blocks t g s m p d
      → Leaves source image plan joining t g s m p d
  leaves_apart t g Ended m p d nobody leaves = tt
  leaves_apart t g (Acts zero inner) m p d nobody leaves = leaves
  leaves_apart t g (Acts (suc k) inner) m p d nobody leaves = tt
  leaves_apart t g (Meets e w Outside) m p d nobody leaves = tt
  leaves_apart t g (Meets e w Away) m p d nobody leaves = tt
  leaves_apart t g (Meets e w (Coming k)) m p d nobody leaves = tt
  leaves_apart t g (Meets e w Waiting) m p d nobody leaves = tt
  leaves_apart t g (Meets Commits w (Leaving zero)) m p d nobody leaves = leaves
  leaves_apart t g (Meets Unites w (Leaving zero)) m p d nobody leaves = absurd (cc)
  leaves_apart t g (Meets e w (Leaving (suc k))) m p d nobody leaves = tt

  left_apart : (t : MachineSetting) (g : ℕ) (stages : List Stage) (afters : List (Option Stage)) (ms : List Member) (ps : List P) (ds : List D) → Pairwise Remains stages afters → NobodyUnites stages
      → AllLeave source image plan blocks t g stages ms ps ds → AllAreLeft source image plan blocks t g afters ms ps ds → AllAreLeft source image plan joining t g afters ms ps ds
  left_apart t g [] [] [] [] [] remains nobody leave left = tt
  left_apart t g (s ∷ stages) (a ∷ afters) (m ∷ ms) (p ∷ ps) (d ∷ ds) remains nobody leave left =
      (went_apart t g s a m p d remains.0 nobody.0 leave.0 left.0, left_apart t g stages afters ms ps ds remains.1 nobody.1 leave.1 left.1)
  left_apart t g stages afters ms ps ds remains nobody leave left = absurd (assumption (remains, leave, left))

  leave_apart : (t : MachineSetting) (g : ℕ) (stages : List Stage) (ms : List Member) (ps : List P) (ds : List D) → NobodyUnites stages → AllLeave source image plan blocks t g stages ms ps ds
      → AllLeave source image plan joining t g stages ms ps ds
  leave_apart t g [] [] [] [] nobody leave = tt
  leave_apart t g (s ∷ stages) (m ∷ ms) (p ∷ ps) (d ∷ ds) nobody leave = (leaves_apart t g s m p d nobody.0 leave.0, leave_apart t g stages ms ps ds nobody.1 leave.1)
  leave_apart t g stages ms ps ds nobody leave = absurd (assumption leave)

  node_apart : (b : Bool) (t : MachineSetting) (g : ℕ) (stages : List Stage) (afters : List (Option Stage)) (ms : List Member) (ps : List P) (ds : List D) (own : Memory) → Pairwise Remains stages afters
      → NobodyUnites stages → (b ≡ false → AllLeave source image plan blocks t g stages ms ps ds) → NodeIsLeft source image plan blocks b t g afters ms ps ds own
      → NodeIsLeft source image plan joining b t g afters ms ps ds own
  node_apart true t g stages afters ms ps ds own remains nobody leave left = left
  node_apart false t g stages afters ms ps ds own remains nobody leave left = left_apart t g stages afters ms ps ds remains nobody (leave refl) left

  pub is_left_apart : (t : MachineSetting) (stages : List Stage) (hs : List Hart) (ps : List P) (ds : List D) (own own' : ℕ → Memory) → NobodyUnites stages
      → IsLeft source image plan blocks t stages hs ps ds own own' → IsLeft source image plan joining t stages hs ps ds own own'
  is_left_apart t stages hs ps ds own own' nobody left = record {
    afters = left.afters;
    as_many = left.as_many;
    done_as_many = left.done_as_many;
    stay = left.stay;
    nodes = λ g.
        node_apart (plan.in_lockstep g) (later t) g (of_node g plan.nodes stages) (of_node g plan.nodes left.afters) (of_node g plan.nodes (numbered 0 hs)) (of_node g plan.nodes ps)
        (of_node g plan.nodes ds) (own' g) (pairs_of Remains g plan.nodes stages left.afters left.stay) (nobody_of g plan.nodes stages nobody) (left.leave g) (left.nodes g);
    leave = λ g free.
        leave_apart (later t) g (of_node g plan.nodes stages) (of_node g plan.nodes (numbered 0 hs)) (of_node g plan.nodes ps) (of_node g plan.nodes ds) (nobody_of g plan.nodes stages nobody)
        (left.leave g free);
    moved = λ g w free is_open. left.moved g w free is_open;
    others = left.others;
  }

-- ---- those of core runs

pub joins_bound : (core : List CoreOp) (image : Image) (places : Places) (nestings : Nestings) (setting : Setting) (plan : Plan) (first : ℕ → ℕ) (t : MachineSetting) (stages : List Stage) (hs : List Hart)
    (ps : List Owner) (own : ℕ → Memory) → IsBound (core_source core setting) image plan (blocks_of core image places nestings setting plan first) t stages hs ps own
    → IsBound (core_source core setting) image plan (joining_blocks_of core image places nestings setting plan first) t stages hs ps own
joins_bound core image places nestings setting plan first t stages hs ps own bound =
    is_bound (core_source core setting) image plan (blocks_of core image places nestings setting plan first) ((joining_blocks_of core image places nestings setting plan first).Joins) t stages hs ps own bound

pub cycles_leave_apart : CyclesLeaveApart
cycles_leave_apart core image places nestings setting plan first t stages hs ps ds own own' nobody left =
    is_left_apart (core_source core setting) image plan (joining_blocks_of core image places nestings setting plan first) ((blocks_of core image places nestings setting plan first).Joins) t stages hs ps ds own own'
    nobody left
