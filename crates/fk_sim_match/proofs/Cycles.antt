-- One cycle of all nodes, where all are bound by a plan.
use Rattle.std.proofs.Common.{◌≡◌, ℕ, zero, suc, List, [], ◌∷◌, length, Bool, true, false, sym, ap, subst, ◌∙◌, refl, eq-eqb}
use Rattle.std.specs.Prelude.{◌==◌}
use Rattle.fk_num.specs.Word.{Memory}
use Rattle.fk_image.specs.declared.Image.{Image}
use Rattle.fk_machine.specs.Hart.{Hart, Shared, Setting}
use Rattle.fk_machine.specs.Run.{count_of}
use Rattle.fk_sim_nodes.specs.Node.{Member, numbered, add, of_node, AreAsMany, Has, AreApart, OwnApart}
use Rattle.fk_sim_nodes.specs.Source.{Source, Shows}
use Rattle.fk_sim_nodes.specs.Chain.{runs, Chain}
use Rattle.fk_sim_nodes.specs.Alone.{later, in_cycles}
use Rattle.fk_sim_nodes.specs.Together.{AllCount, Together}
use Rattle.fk_sim_nodes.specs.Whole.{planned}
use Rattle.fk_sim_nodes.proofs.Members.{nearer, chain_map}
use Rattle.fk_sim_nodes.proofs.Chains.{projected}
use Rattle.fk_sim_match.specs.Stage.{Stage, Acts, count_of_stage, counts_for}
use Rattle.fk_sim_match.specs.Plan.{Plan, Blocks, told_by, IsIdle, AllStandAt, AllAct, Binds, IsBound, JointBlocksTurn}
use Rattle.fk_sim_match.specs.Cycle.{HaveMoved, GroupDone, AllActIn, Done, DoneIn, IsPlanned, CyclesArePlanned}
use Rattle.fk_sim_match.proofs.Stages.{stages_chain, stage_count}

-- members run the counts of their stages
abbrev AllCounted : Image → List Stage → List Member → Type 0
AllCounted image [] [] = Unit {0}
AllCounted image (s ∷ stages) (m ∷ ms) = (count_of image (runs m.hart) ≡ count_of_stage s) × AllCounted image stages ms
AllCounted image stages ms = ⊥

module _ {S P D : Type 0} (source : Source S P D) (image : Image) (plan : Plan) (blocks : Blocks P D) where
  -- ---- a group in lockstep

  act_in : (d inner : ℕ) (stages : List Stage) (ms : List Member) (ps : List P) → AllAct source image plan blocks d inner stages ms ps → AllActIn source image plan blocks d inner stages
  act_in d inner [] [] [] all = tt
  act_in d inner (s ∷ stages) (m ∷ ms) (p ∷ ps) all = (all.0, act_in d inner stages ms ps all.1)
  act_in d inner stages ms ps all = absurd (assumption all)

  act_many : (d inner : ℕ) (stages : List Stage) (ms : List Member) (ps : List P) → AllAct source image plan blocks d inner stages ms ps → length ms ≡ length ps
  act_many d inner [] [] [] all = refl
  act_many d inner (s ∷ stages) (m ∷ ms) (p ∷ ps) all = ap suc (act_many d inner stages ms ps all.1)
  act_many d inner stages ms ps all = absurd (assumption all)

  act_counted : (d inner : ℕ) (stages : List Stage) (ms : List Member) (ps : List P) → AllAct source image plan blocks d inner stages ms ps → AllCount image (count_of_stage (Acts d inner)) ms
      → AllCounted image stages ms
  act_counted d inner [] [] [] all counted = tt
  act_counted d inner (s ∷ stages) (m ∷ ms) (p ∷ ps) all counted =
      (counted.0 ∙ ap count_of_stage (sym all.0), act_counted d inner stages ms ps all.1 counted.1)
  act_counted d inner stages ms ps all counted = absurd (assumption all)

  group_chain : (t : Setting) (g d inner : ℕ) (stages : List Stage) (ms : List Member) (ps : List P) (own : Memory) → IsIdle source blocks.idle → AreApart (plan.words g) source.common
      → AllAct source image plan blocks d inner stages ms ps → Together source image (plan.words g) t (suc inner) d ms ps own (blocks.AfterAll (later (in_cycles d t)) g)
      → Chain source image (plan.words g) t ms ps own (Done source image plan blocks true t g stages ps own)
  group_chain t g zero inner stages ms ps own idle apart all x =
      chain_map source image (plan.words g) t ms ps own (blocks.AfterAll (later t) g) (Done source image plan blocks true t g stages ps own)
      (λ ms' ds own' y. (0, inner, act_in 0 inner stages ms ps all, y)) x.chain
  group_chain t g (suc d) inner stages ms ps own idle apart all x =
      chain_map source image (plan.words g) t ms ps own (GroupDone source image plan blocks (later t) g inner (suc d) ps) (Done source image plan blocks true t g stages ps own)
      (λ ms' ds own' y. (suc d, inner, act_in (suc d) inner stages ms ps all, y))
      (nearer source image (plan.words g) t (suc inner) d blocks.idle ms ps own (blocks.AfterAll (later (in_cycles (suc d) t)) g) apart idle (act_many (suc d) inner stages ms ps all) x).chain

  group_counted : (t : Setting) (g d inner : ℕ) (stages : List Stage) (ms : List Member) (ps : List P) (own : Memory) → IsIdle source blocks.idle → AreApart (plan.words g) source.common
      → AllAct source image plan blocks d inner stages ms ps → Together source image (plan.words g) t (suc inner) d ms ps own (blocks.AfterAll (later (in_cycles d t)) g) → AllCounted image stages ms
  group_counted t g zero inner stages ms ps own idle apart all x = act_counted 0 inner stages ms ps all x.counted
  group_counted t g (suc d) inner stages ms ps own idle apart all x =
      act_counted (suc d) inner stages ms ps all
      (nearer source image (plan.words g) t (suc inner) d blocks.idle ms ps own (blocks.AfterAll (later (in_cycles (suc d) t)) g) apart idle (act_many (suc d) inner stages ms ps all) x).counted

  -- ---- members by themselves

  stages_counted : (t : Setting) (g : ℕ) (stages : List Stage) (ms : List Member) (ps : List P) → JointBlocksTurn source image plan blocks
      → AllStandAt source image plan blocks t g stages ms ps → AllCounted image stages ms
  stages_counted t g [] [] [] joint all = tt
  stages_counted t g (s ∷ stages) (m ∷ ms) (p ∷ ps) joint all =
      (stage_count source image plan blocks t g s m p joint all.0, stages_counted t g stages ms ps joint all.1)
  stages_counted t g stages ms ps joint all = absurd (assumption all)

  -- ---- any node

  pub node_chain : (b : Bool) (t : Setting) (g : ℕ) (stages : List Stage) (ms : List Member) (ps : List P) (own : Memory) → IsIdle source blocks.idle → JointBlocksTurn source image plan blocks
      → AreApart (plan.words g) source.common → Binds source image plan blocks b t g stages ms ps own
      → Chain source image (plan.words g) t ms ps own (Done source image plan blocks b t g stages ps own)
  node_chain true t g stages ms ps own idle joint apart x = group_chain t g x.distance x.inner stages ms ps own idle apart x.alike x.together
  node_chain false t g stages ms ps own idle joint apart x =
      stages_chain source image plan blocks t g stages ms ps own (HaveMoved source image plan blocks t g stages ps own) idle joint apart x (λ ms' ds own' moved. moved)

  node_counted : (b : Bool) (t : Setting) (g : ℕ) (stages : List Stage) (ms : List Member) (ps : List P) (own : Memory) → IsIdle source blocks.idle → JointBlocksTurn source image plan blocks
      → AreApart (plan.words g) source.common → Binds source image plan blocks b t g stages ms ps own → AllCounted image stages ms
  node_counted true t g stages ms ps own idle joint apart x = group_counted t g x.distance x.inner stages ms ps own idle apart x.alike x.together
  node_counted false t g stages ms ps own idle joint apart x = stages_counted t g stages ms ps joint x

  -- ---- all nodes

  tail_counted : (b : Bool) (s : Stage) (stages : List Stage) (m : Member) (ms : List Member) → AllCounted image (add b s stages) (add b m ms) → AllCounted image stages ms
  tail_counted true s stages m ms x = x.1
  tail_counted false s stages m ms x = x

  planned_counts : (number : ℕ) (ns : List ℕ) (stages : List Stage) (hs : List Hart) → AreAsMany ns hs stages
      → ((g : ℕ) → AllCounted image (of_node g ns stages) (of_node g ns (numbered number hs))) → planned image hs ≡ counts_for stages
  planned_counts number [] [] [] many counted = refl
  planned_counts number (n ∷ ns) (s ∷ stages) (h ∷ hs) many counted =
      let m : Member = record { number = number; hart = h } in
      let here = subst (λ b. AllCounted image (add b s (of_node n ns stages)) (add b m (of_node n ns (numbered (suc number) hs)))) (eq-eqb n n refl) (counted n) in
      ap (λ c. c ∷ planned image hs) here.0
      ∙ ap (λ round. count_of_stage s ∷ round)
      (planned_counts (suc number) ns stages hs many (λ g. tail_counted (n == g) s (of_node g ns stages) m (of_node g ns (numbered (suc number) hs)) (counted g)))
  planned_counts number ns stages [] many counted = absurd (assumption many)
  planned_counts number ns stages (h ∷ hs) many counted = absurd (assumption many)

  pub cycle_is_planned : (t : Setting) (earlier : List ℕ) (stages : List Stage) (hs : List Hart) (ps : List P) (own : ℕ → Memory) (sh : Shared) (s : S)
      → IsIdle source blocks.idle → JointBlocksTurn source image plan blocks → OwnApart plan.words source.common
      → Shows source earlier sh s → ((g : ℕ) → Has (plan.words g) sh.control (own g)) → IsBound source image plan blocks t stages hs ps own
      → IsPlanned source image plan blocks t earlier stages hs ps own sh s
  cycle_is_planned t earlier stages hs ps own sh s idle joint apart shows has bound = record {
    counts = planned_counts 0 plan.nodes stages hs bound.stages_as_many
        (λ g. node_counted (plan.in_lockstep g) t g (of_node g plan.nodes stages) (of_node g plan.nodes (numbered 0 hs)) (of_node g plan.nodes ps) (own g) idle joint (apart.from_common g) (bound.binds g));
    round = projected source image plan.words t (DoneIn source image plan blocks t stages ps own) earlier 0 plan.nodes hs ps own sh s apart bound.as_many shows has
        (λ g. node_chain (plan.in_lockstep g) t g (of_node g plan.nodes stages) (of_node g plan.nodes (numbered 0 hs)) (of_node g plan.nodes ps) (own g) idle joint (apart.from_common g) (bound.binds g));
  }

pub cycles_are_planned : (S P D : Type 0) → CyclesArePlanned S P D
cycles_are_planned S P D source image plan tests t earlier stages hs ps own sh s idle joint apart shows has bound =
    cycle_is_planned source image plan (told_by tests) t earlier stages hs ps own sh s idle joint apart shows has bound
