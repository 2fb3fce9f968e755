-- The rounds before the group of `start` begins are allowed: nobody is in one, or all are.
use Rattle.std.proofs.Common.{◌≡◌, ℕ, zero, suc, ◌+◌, ◌<◌, List, [], ◌∷◌, length, Bool, true, Some, sym, ap, subst, ◌∙◌, refl, arith, eq-eqb}
use Rattle.std.specs.Prelude.{◌==◌, ◌&&◌, is_some, nat_lt, slice_index}
use Rattle.std.proofs.lemmas.Bool.{and_from}
use Rattle.fk_tree.specs.declared.node.Kind.TheVariants.{Asynchronous}
use Rattle.fk_tree.specs.Tree as trees
use Rattle.fk_tree.specs.Tree.{Tree}
use Rattle.fk_tree.specs.Sound.{IsSound}
use Rattle.fk_meaning_operation.specs.declared.kinds.Joint.{Joint}
use Rattle.fk_meaning_operation.specs.declared.kinds.Joint.TheVariants.{Starting}
use Rattle.fk_meaning_operation.specs.declared.operation.Operation.TheVariants.{Begin}
use Rattle.fk_meaning.specs.Processor.{Setting}
use Rattle.fk_meaning.specs.Round.{Round, joint_due, joint_at, same_joint, all_do, joins, fits_kind, fits, all_fit, may_act, all_may_act, begin, begin_all}
use Rattle.fk_core.specs.declared.op.CoreOp.{CoreOp}
use Rattle.fk_core.specs.Next.{position, next}
use Rattle.fk_image.specs.declared.Image.{Image}
use Rattle.fk_sim_nodes.specs.Node.{Member}
use Rattle.fk_sim_match.specs.Stage.{Stage, Acts, count_of_stage, counts_for}
use Rattle.fk_sim_match.specs.Plan.{Plan, Blocks, AllAct}
use Rattle.fk_sim_block.specs.Owner.{Owner, Doing, core_source}
use Rattle.fk_sim_block.specs.Next.{OpAt, step_at}
use Rattle.fk_sim_block.proofs.Standing.{next_here}
use Rattle.fk_sim_match.proofs.Rounds.{all_true, all_fit_by}
use Rattle.fk_sim_rounds.specs.Next.{AllAbout}
use Rattle.fk_sim_rounds.specs.After.{runners_of}

module _ (core : List CoreOp) (image : Image) (setting : Setting) (plan : Plan) (blocks : Blocks Owner Doing) (i : ℕ) (op : CoreOp) (stands : OpAt core i op Begin) where
  abbrev All : (d : ℕ) → List Stage → List Member → List Owner → Type 0
  All d stages ms ps = AllAct (core_source core setting) image plan blocks d 0 stages ms ps

  pub is_next : (p : Owner) → p.runner.left.at ≡ i → next core p.runner.left ≡ Some (step_at core i op Begin p.runner.left.callers)
  is_next p at =
      subst (λ j. next core (position j p.runner.left.callers) ≡ Some (step_at core i op Begin p.runner.left.callers)) (sym at) (next_here core i op Begin p.runner.left.callers stands)

  may_one : (d : ℕ) (p : Owner) → p.runner.left.at ≡ i → may_act (next core) setting (count_of_stage (Acts d 0)) p.runner ≡ true
  may_one zero p at = ap (λ n. nat_lt 0 255 && true && is_some n) (is_next p at)
  may_one (suc d) p at = refl

  may_all : (d : ℕ) (stages : List Stage) (ms : List Member) (ps : List Owner) → All d stages ms ps → AllAbout i op Begin ps → all_may_act (next core) setting (counts_for stages) (runners_of ps) ≡ true
  may_all d [] [] [] all about = refl
  may_all d (s ∷ stages) (m ∷ ms) (p ∷ ps) all about =
      and_from (may_act (next core) setting (count_of_stage s) p.runner) (all_may_act (next core) setting (counts_for stages) (runners_of ps))
      (ap (λ x. may_act (next core) setting (count_of_stage x) p.runner) all.0 ∙ may_one d p about.0) (may_all d stages ms ps all.1 about.2)
  may_all d stages ms ps all about = absurd (assumption all)

  -- nobody
  none_fit : (d : ℕ) (round : Round) (does : ℕ → Joint) (tree : Tree) (h : ℕ) (stages : List Stage) (ms : List Member) (ps : List Owner) → All (suc d) stages ms ps
      → all_fit round does tree h (counts_for stages) ≡ true
  none_fit d round does tree h [] [] [] all = refl
  none_fit d round does tree h (s ∷ stages) (m ∷ ms) (p ∷ ps) all =
      and_from (fits round does tree h (count_of_stage s)) (all_fit round does tree (suc h) (counts_for stages)) (ap (λ x. fits round does tree h (count_of_stage x)) all.0)
      (none_fit d round does tree (suc h) stages ms ps all.1)
  none_fit d round does tree h stages ms ps all = absurd (assumption all)

  -- all
  count_at : (stages : List Stage) (ms : List Member) (ps : List Owner) (h : ℕ) → h < length ps → All 0 stages ms ps → slice_index (counts_for stages) h ≡ 1
  count_at [] [] [] h lt all = absurd (omega (arith, lt))
  count_at (s ∷ stages) (m ∷ ms) (p ∷ ps) zero lt all = ap count_of_stage all.0
  count_at (s ∷ stages) (m ∷ ms) (p ∷ ps) (suc h) lt all = count_at stages ms ps h (omega (arith, lt)) all.1
  count_at stages ms ps h lt all = absurd (assumption all)

  joint_of_one : (stages : List Stage) (ms : List Member) (ps : List Owner) (h : ℕ) → h < length ps → All 0 stages ms ps → AllAbout i op Begin ps
      → joint_at (begin_all (next core) setting (counts_for stages) (runners_of ps)) h ≡ Starting
  joint_of_one [] [] [] h lt all about = absurd (omega (arith, lt))
  joint_of_one (s ∷ stages) (m ∷ ms) (p ∷ ps) zero lt all about =
      ap (λ x. joint_due (begin (next core) setting (count_of_stage x) p.runner).due) all.0 ∙ ap joint_due (is_next p about.0)
  joint_of_one (s ∷ stages) (m ∷ ms) (p ∷ ps) (suc h) lt all about = joint_of_one stages ms ps h (omega (arith, lt)) all.1 about.2
  joint_of_one stages ms ps h lt all about = absurd (assumption all)

  counts_length : (d : ℕ) (stages : List Stage) (ms : List Member) (ps : List Owner) → All d stages ms ps → length (counts_for stages) ≡ length ps
  counts_length d [] [] [] all = refl
  counts_length d (s ∷ stages) (m ∷ ms) (p ∷ ps) all = ap suc (counts_length d stages ms ps all.1)
  counts_length d stages ms ps all = absurd (assumption all)

  module _ (tree : Tree) (alone : Bool) (kind : trees.kind tree 0 ≡ Some (Asynchronous alone)) (sound : IsSound setting.processors tree)
      (in_root : (h : ℕ) → h < setting.processors → tree.places h ≡ 0) (stages : List Stage) (ms : List Member) (ps : List Owner) (many : length ps ≡ setting.processors)
      (about : AllAbout i op Begin ps) where
    abbrev round : Round
    round = counts_for stages

    abbrev does : ℕ → Joint
    does h = joint_at (begin_all (next core) setting (counts_for stages) (runners_of ps)) h

    all_do_so : All 0 stages ms ps → all_do round does Starting (trees.members tree 0) ≡ true
    all_do_so all =
        all_true (λ h. slice_index round h == 1 && same_joint Starting (does h)) (trees.members tree 0)
        (λ h member.
        let lt : h < length ps = let below = sound.within 0 h member in omega (arith, below, many) in
        and_from (slice_index round h == 1) (same_joint Starting (does h)) (eq-eqb (slice_index round h) 1 (count_at stages ms ps h lt all))
        (ap (same_joint Starting) (joint_of_one stages ms ps h lt all about)))

    one_fits : All 0 stages ms ps → (h : ℕ) → h < length ps → fits round does tree h (slice_index round h) ≡ true
    one_fits all h lt =
        let place : tree.places h ≡ 0 = in_root h (omega (arith, lt, many)) in
        subst (λ c. fits round does tree h c ≡ true) (sym (count_at stages ms ps h lt all))
        (subst (λ n. fits_kind round does tree h n (trees.kind tree n) ≡ true) (sym place)
        (subst (λ k. fits_kind round does tree h 0 k ≡ true) (sym kind) (ap (λ j. joins round does tree 0 j) (joint_of_one stages ms ps h lt all about) ∙ all_do_so all)))

    fit : (d : ℕ) → All d stages ms ps → all_fit round does tree 0 round ≡ true
    fit (suc d) all = none_fit d round does tree 0 stages ms ps all
    fit zero all =
        let size = counts_length 0 stages ms ps all in
        all_fit_by round does tree 0 round
        (λ h lt. let e : h ≡ 0 + h = omega arith in subst (λ k. fits round does tree k (slice_index round h) ≡ true) e (one_fits all h (omega (arith, lt, size))))

    pub allowed : (d : ℕ) → All d stages ms ps → (all_may_act (next core) setting round (runners_of ps) && all_fit round does tree 0 round) ≡ true
    allowed d all = and_from (all_may_act (next core) setting round (runners_of ps)) (all_fit round does tree 0 round) (may_all d stages ms ps all about) (fit d all)
