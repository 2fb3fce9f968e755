-- All harts behind a round.
use Rattle.std.proofs.Common.{◌≡◌, ℕ, suc, ◌+◌, ◌≤◌, ◌<◌, List, [], ◌∷◌, length, Option, Some, None, Bool, true, false, sym, ap, subst, ◌∙◌, refl, arith, ◌⊎◌, inl, inr, ⊎_elim, eq-eqb}
use Rattle.std.specs.Prelude.{◌==◌, map}
use Rattle.std.proofs.lemmas.Bool.{cases_Bool, eqb-true, false≢true}
use Rattle.fk_space.specs.Space.{Space}
use Rattle.fk_tree.specs.Tree as trees
use Rattle.fk_tree.specs.Tree.{Tree}
use Rattle.fk_tree.specs.Sound.{IsSound}
use Rattle.fk_meaning.specs.Processor.{Setting}
use Rattle.fk_meaning.specs.Round.{Runner, Acting}
use Rattle.fk_core.specs.declared.op.CoreOp.{CoreOp}
use Rattle.fk_core.specs.Next.{Position, landing}
use Rattle.fk_image.specs.declared.Image.{Image}
use Rattle.fk_machine.specs.Hart.{Hart, Setting as MachineSetting}
use Rattle.fk_sim_nodes.specs.Node.{Member, numbered, add, of_node, AreAsMany}
use Rattle.fk_sim_nodes.specs.Alone.{RunsPrivately}
use Rattle.fk_sim_match.specs.Stage.{Stage, Ended, Acts, Meets, Pairwise, SameKind, Remains}
use Rattle.fk_sim_match.specs.Plan.{Plan, Blocks, IsInside, StandsAt, AllAct}
use Rattle.fk_sim_match.specs.Cycle.{AllHaveCommitted, AllKeep as AllStay, Went, AllAreLeft}
use Rattle.fk_sim_match.specs.Change.{StaysMember, StaysOpen, Changes, AllChange}
use Rattle.fk_sim_match.proofs.Changes.{left_first, left_rest}
use Rattle.fk_sim_block.specs.Owner.{Owner, Doing, idle, core_source}
use Rattle.fk_sim_block.specs.Stands as law
use Rattle.fk_sim_block.specs.Stands.{Places}
use Rattle.fk_sim_block.specs.Block.{most_behind, IsRunning, gone_to}
use Rattle.fk_sim_block.specs.Next.{step_at}
use Rattle.fk_sim_block.proofs.Standing.{next_here}
use Rattle.fk_sim_block.specs.Node.{Nestings, StandsInNode}
use Rattle.fk_sim_block.specs.Law.{Cycles, GroupLaw}
use Rattle.fk_sim_match.specs.Nodes.{first_of, HaveSpaces, is_lockstep, plan_of}
use Rattle.fk_sim_match.specs.Behind.{runs_of, StandsByEnding, IsBehind, blocks_of}
use Rattle.fk_sim_match.specs.Rounds.{joint_at_word, ending_of, IsDue, IsDueAt, AllDue}
use Rattle.fk_sim_rounds.specs.Next.{JumpsLead, landed, all_landed, IsHome, HasNext}
use Rattle.fk_sim_rounds.specs.Comes.{most_between, IsSoon}
use Rattle.fk_sim_rounds.specs.After.{runners_of, owner_after, halts, ArePlaces, AllLanded, AllGoOn, AllSoon}
use Rattle.fk_sim_rounds.proofs.Lists.{committed_parts}
use Rattle.fk_sim_rounds.proofs.Same.{SameNode, runs_same, opens_still, member_still, size_still}
use Rattle.fk_sim_rounds.proofs.Comes.{comes}
use Rattle.fk_sim_rounds.proofs.Keep.{AllOn, node_is_there, member_comes}

-- something is so of each hart and its doing
abbrev pub AllAre : (Fact : Member → Doing → Type 0) → (number : ℕ) → List Hart → List Doing → Type 0
AllAre Fact number (h ∷ hs) (d ∷ ds) = Fact (record { number = number; hart = h }) d × AllAre Fact (suc number) hs ds
AllAre Fact number hs ds = Unit {0}

abbrev head_or : {A : Type 0} → A → List A → A
head_or other [] = other
head_or other (x ∷ xs) = x

abbrev tail_of : {A : Type 0} → List A → List A
tail_of [] = []
tail_of (x ∷ xs) = xs

-- members of a group in lockstep: all have kept a stage and done nothing, or all have committed
abbrev pub LockLeft : List (Option Stage) → List Owner → List Doing → Type 0
LockLeft afters ps ds = ((e : ℕ) × (inner : ℕ) × AllStay (Acts e inner) afters × (ds ≡ map idle ps)) ⊎ (AllHaveCommitted afters × AllOn ds)

abbrev pub OneLeft : Option Stage → Owner → Doing → Type 0
OneLeft a p d = ((e : ℕ) × (inner : ℕ) × (a ≡ Some (Acts e inner)) × (d ≡ idle p)) ⊎ ((a ≡ None) × (halts d.acting.due ≡ false))

lock_first : (b : Bool) (a : Option Stage) (afters : List (Option Stage)) (p : Owner) (ps : List Owner) (d : Doing) (ds : List Doing) → b ≡ true
    → LockLeft (add b a afters) (add b p ps) (add b d ds) → OneLeft a p d
lock_first true a afters p ps d ds e (inl x) = inl (x.0, x.1, x.2.0, ap (head_or d) x.3)
lock_first true a afters p ps d ds e (inr x) = inr (x.0.0, x.1.0)
lock_first false a afters p ps d ds e x = absurd (false≢true e)

lock_rest : (b : Bool) (a : Option Stage) (afters : List (Option Stage)) (p : Owner) (ps : List Owner) (d : Doing) (ds : List Doing)
    → LockLeft (add b a afters) (add b p ps) (add b d ds) → LockLeft afters ps ds
lock_rest true a afters p ps d ds (inl x) = inl (x.0, x.1, x.2.1, ap tail_of x.3)
lock_rest true a afters p ps d ds (inr x) = inr (x.0.1, x.1.1)
lock_rest false a afters p ps d ds x = x

-- what stages say of phases
abbrev Inside : Stage → Type 0
Inside (Meets e w f) = IsInside f
Inside s = Unit {0}

module _ (core : List CoreOp) (tree : Tree) (spaces : ℕ → Space) where
  due_keeps : (g : ℕ) (s0 s : Stage) (r : Runner Position) → IsDueAt core tree spaces g s0 r → SameKind s0 s → Inside s → IsDueAt core tree spaces g s r
  due_keeps g Ended Ended r due same inside = due
  due_keeps g (Acts d inner) (Acts d' inner') r due same inside = subst (λ i. IsDue core tree spaces g i r) (sym same) due
  due_keeps g (Meets e w f) (Meets e' v f') r due same inside = (
    inside,
    record {
      offset = due.1.offset;
      step = due.1.step;
      next_is = due.1.next_is;
      word_is = same.1 ∙ due.1.word_is;
      arrival = due.1.arrival;
      joint = due.1.joint;
      ends = same.0 ∙ due.1.ends;
    },
  )
  due_keeps g s0 s r due same inside = absurd (assumption same)

module _ (core : List CoreOp) (image : Image) (places : Places) (nestings : Nestings) (cycles : Cycles) (firsts : List ℕ) (main : ℕ) (setting : Setting) (old tree : Tree) (spaces : ℕ → Space) (nodes nodes' : List ℕ)
    (the_law : GroupLaw core image places nestings cycles firsts main) (leads : JumpsLead core) (spaced : HaveSpaces tree spaces) (sound : IsSound setting.processors tree)
    (t : MachineSetting) (running : IsRunning image setting t) (acting : List (Acting Position)) (distances : ℕ → ℕ) (near : (g : ℕ) → distances g ≤ most_between) where
  abbrev plan : Plan
  plan = plan_of old spaces nodes

  abbrev blocks : Blocks Owner Doing
  blocks = blocks_of core image places nestings setting (plan_of old spaces nodes) (first_of spaces)

  abbrev plan' : Plan
  plan' = plan_of tree spaces nodes'

  abbrev blocks' : Blocks Owner Doing
  blocks' = blocks_of core image places nestings setting (plan_of tree spaces nodes') (first_of spaces)

  abbrev settle : Doing → Owner
  settle d = owner_after acting old tree d

  abbrev becomes : Doing → Owner
  becomes d = landed core (owner_after acting old tree d)

  -- ---- one hart

  pub record HartGoes (m : Member) (a : Option Stage) (p : Owner) (d : Doing) : Type 0 where
    pub stage : Stage
    pub changes : Changes (core_source core setting) image plan blocks plan' blocks' t m (old.places m.number) (tree.places m.number) a stage p (becomes d)
    pub due : IsDueAt core tree spaces (tree.places m.number) stage (becomes d).runner
    pub soon : a ≡ None → IsSoon stage
    pub alike : plan'.in_lockstep (tree.places m.number) ≡ true → a ≡ None → stage ≡ Acts (distances (tree.places m.number)) 0

  -- who does nothing stays where it is
  idle_stays : (p : Owner) (d : Doing) → landing core p.runner.left.at ≡ p.runner.left.at → d ≡ idle p → becomes d ≡ p
  idle_stays p d there e = ap becomes e ∙ ap (λ j. gone_to j p) there

  stays_member : (g : ℕ) (s : Stage) (m : Member) (p : Owner) → SameNode old tree spaces g → StandsAt (core_source core setting) image plan blocks t g s m p
      → StaysMember plan' g m.number s × Inside s
  stays_member g Ended m p same stands = (tt, tt)
  stays_member g (Acts d inner) m p same stands = (tt, tt)
  stays_member g (Meets e w f) m p same stands =
      ((opens_still old tree spaces nodes nodes' g same.words w stands.1, member_still old tree spaces nodes nodes' g same.words w m.number stands.1 ∙ stands.2), stands.0)

  -- to those in it that do nothing a node is what it was
  stays_open : (g : ℕ) → plan'.in_lockstep g ≡ false → SameNode old tree spaces g → StaysOpen (core_source core setting) image plan blocks plan' blocks' g
  stays_open g free same = record {
    alone = ap is_lockstep (sym same.kind) ∙ free;
    after = λ behind m p d x. subst (λ r. IsBehind core image places nestings setting r behind m p d) (runs_same old tree spaces nodes nodes' g same.words m.number) x;
    stands = λ u e w f m p is_open x.
        subst (λ r. StandsByEnding core image places nestings setting e r w (plan'.size w) u f m p) (runs_same old tree spaces nodes nodes' g same.words m.number)
        (subst (λ n. StandsByEnding core image places nestings setting e (runs_of plan (first_of spaces g) m.number) w n u f m p) (size_still old tree spaces nodes nodes' g same.words w is_open) x);
  }

  due_still : (g : ℕ) (s : Stage) (r : Runner Position) → trees.kind tree g ≡ trees.kind old g → IsDueAt core old spaces g s r → IsDueAt core tree spaces g s r
  due_still g Ended r same due = due
  due_still g (Acts d inner) r same due = record { single = due.single; step = due.step; next_is = due.next_is; joint = λ free. due.joint (ap is_lockstep (sym same) ∙ free) }
  due_still g (Meets e w f) r same due = (
    due.0,
    record {
      offset = due.1.offset;
      step = due.1.step;
      next_is = due.1.next_is;
      word_is = due.1.word_is;
      arrival = due.1.arrival;
      joint = due.1.joint ∙ ap (λ k. joint_at_word g k due.1.offset) (sym same);
      ends = due.1.ends ∙ ap (λ k. ending_of (joint_at_word g k due.1.offset)) (sym same);
    },
  )

  module _ (m : Member) (p : Owner) (d : Doing) (lt : m.number < setting.processors) (there : landing core p.runner.left.at ≡ p.runner.left.at)
      (home : IsHome tree spaces m.number (settle d)) (place : tree.places m.number ≡ old.places m.number) (same : SameNode old tree spaces (old.places m.number)) where
    abbrev g : ℕ
    g = old.places m.number

    lock_same : plan'.in_lockstep (tree.places m.number) ≡ plan.in_lockstep (old.places m.number)
    lock_same = ap (λ k. is_lockstep (trees.kind tree k)) place ∙ ap is_lockstep same.kind

    kept : (s0 s : Stage) → d ≡ idle p → IsDueAt core old spaces g s0 p.runner → SameKind s0 s → StaysMember plan' g m.number s → Inside s → HartGoes m (Some s) p d
    kept s0 s e due same_kind member inside =
        let stays = idle_stays p d there e in
        record {
          stage = s;
          changes = (
            place,
            refl,
            stays,
            subst (λ k. StaysMember plan' k m.number s) (sym place) member,
            λ free.
                subst (λ k. StaysOpen (core_source core setting) image plan blocks plan' blocks' k) (sym place) (stays_open g (ap (λ k. plan'.in_lockstep k) (sym place) ∙ free) same),
          );
          due = subst (λ k. IsDueAt core tree spaces k s (becomes d).runner) (sym place)
              (subst (λ q. IsDueAt core tree spaces g s q.runner) (sym stays) (due_still g s p.runner same.kind (due_keeps core old spaces g s0 s p.runner due same_kind inside)));
          soon = λ none. absurd (cc);
          alike = λ lock none. absurd (cc);
        }

    in_group : (s0 : Stage) (a : Option Stage) → plan.in_lockstep g ≡ true → OneLeft a p d → IsDueAt core old spaces g s0 p.runner → Remains s0 a
        → (a ≡ None → halts d.acting.due ≡ false → HasNext core nestings setting tree m.number (becomes d)) → HartGoes m a p d
    in_group s0 a lock (inl x) due remains has =
        subst (λ b. HartGoes m b p d) (sym x.2) (kept s0 (Acts x.0 x.1) x.3 due (subst (λ b. Remains s0 b) x.2 remains).2 tt tt)
    in_group s0 a lock (inr x) due remains has =
        let next = has x.0 x.1 in
        let q = becomes d in
        subst (λ b. HartGoes m b p d) (sym x.0)
        (record {
          stage = Acts (distances (tree.places m.number)) 0;
          changes = (tt, λ free. absurd (false≢true (sym free ∙ lock_same ∙ lock)));
          due = record {
            single = refl;
            step = step_at core q.runner.left.at next.op next.operation q.runner.left.callers;
            next_is = next_here core q.runner.left.at next.op next.operation q.runner.left.callers next.stands;
            joint = λ free. absurd (false≢true (sym free ∙ lock_same ∙ lock));
          };
          soon = λ none. near (tree.places m.number);
          alike = λ lock' none. refl;
        })

    by_itself : (s0 : Stage) (a : Option Stage) → plan.in_lockstep g ≡ false → Went (core_source core setting) image plan blocks t g a m p d → IsDueAt core old spaces g s0 p.runner → Remains s0 a
        → (a ≡ None → halts d.acting.due ≡ false → HasNext core nestings setting tree m.number (becomes d)) → HartGoes m a p d
    by_itself s0 None free went due remains has =
        let free' = lock_same ∙ free in
        let comes = member_comes core image places nestings cycles firsts main setting old tree spaces nodes nodes' the_law leads spaced sound t running acting m p d free' lt
        (runs_same old tree spaces nodes nodes' g same.words m.number ∙ ap (λ k. runs_of (plan_of tree spaces nodes') (first_of spaces k) m.number) (sym place)) home (has refl) went in
        record {
          stage = comes.stage;
          changes = (comes.fresh, λ free''. comes.stands);
          due = comes.due;
          soon = λ none. comes.soon;
          alike = λ lock none. absurd (false≢true (sym free' ∙ lock));
        }
    by_itself s0 (Some s) free went due remains has =
        let stays = stays_member g s m p same went.1 in
        kept s0 s went.0 due remains.2 stays.0 stays.1

    -- at a node that stays as it was
    pub hart_goes : (s0 : Stage) (a : Option Stage) → (plan.in_lockstep g ≡ true → OneLeft a p d)
        → (plan.in_lockstep g ≡ false → Went (core_source core setting) image plan blocks t g a m p d) → IsDueAt core old spaces g s0 p.runner → Remains s0 a
        → (a ≡ None → halts d.acting.due ≡ false → HasNext core nestings setting tree m.number (becomes d)) → HartGoes m a p d
    hart_goes s0 a lock alone due remains has =
        ⊎_elim (λ e. in_group s0 a e (lock e) due remains has) (λ e. by_itself s0 a e (alone e) due remains has) (cases_Bool (plan.in_lockstep g))

  -- ---- at a node that changes

  -- who was by itself and has done something, is by itself
  pub steps_alone : (m : Member) (p : Owner) (d : Doing) → m.number < setting.processors → IsHome tree spaces m.number (settle d) → (d ≡ idle p → ⊥) → (a : Option Stage)
      → plan'.in_lockstep (tree.places m.number) ≡ false
      → runs_of (plan_of old spaces nodes) (first_of spaces (old.places m.number)) m.number ≡ runs_of (plan_of tree spaces nodes') (first_of spaces (tree.places m.number)) m.number
      → Went (core_source core setting) image plan blocks t (old.places m.number) a m p d
      → (a ≡ None → halts d.acting.due ≡ false → HasNext core nestings setting tree m.number (becomes d)) → HartGoes m a p d
  steps_alone m p d lt home busy None free runs went has =
      let comes = member_comes core image places nestings cycles firsts main setting old tree spaces nodes nodes' the_law leads spaced sound t running acting m p d free lt runs home (has refl) went in
      record {
        stage = comes.stage;
        changes = (comes.fresh, λ free'. comes.stands);
        due = comes.due;
        soon = λ none. comes.soon;
        alike = λ lock none. absurd (false≢true (sym free ∙ lock));
      }
  steps_alone m p d lt home busy (Some s) free runs went has = absurd (busy went.0)

  -- or in a group
  pub steps_into_group : (m : Member) (p : Owner) (d : Doing) → (d ≡ idle p → ⊥) → (a : Option Stage) → plan'.in_lockstep (tree.places m.number) ≡ true
      → Went (core_source core setting) image plan blocks t (old.places m.number) a m p d → (a ≡ None → HasNext core nestings setting tree m.number (becomes d)) → HartGoes m a p d
  steps_into_group m p d busy None lock went has =
      let next = has refl in
      let q = becomes d in
      record {
        stage = Acts (distances (tree.places m.number)) 0;
        changes = (tt, λ free. absurd (false≢true (sym free ∙ lock)));
        due = record {
          single = refl;
          step = step_at core q.runner.left.at next.op next.operation q.runner.left.callers;
          next_is = next_here core q.runner.left.at next.op next.operation q.runner.left.callers next.stands;
          joint = λ free. absurd (false≢true (sym free ∙ lock));
        };
        soon = λ none. near (tree.places m.number);
        alike = λ lock' none. refl;
      }
  steps_into_group m p d busy (Some s) lock went has = absurd (busy went.0)

  -- or who was in a group is by itself: so many private instructions lead it to where its processor goes on
  pub steps_apart : (m : Member) (p : Owner) (d : Doing) → m.number < setting.processors → IsHome tree spaces m.number (settle d) → (d ≡ idle p → ⊥) → (a : Option Stage)
      → plan'.in_lockstep (tree.places m.number) ≡ false → OneLeft a p d → (b : ℕ) (hart : Hart) → b ≤ most_behind → RunsPrivately image t m.number b m.hart hart
      → law.StandsAt places (settle d) hart
      → StandsInNode places nestings setting (runs_of (plan_of tree spaces nodes') (first_of spaces (tree.places m.number)) m.number) (settle d) hart
      → (a ≡ None → halts d.acting.due ≡ false → HasNext core nestings setting tree m.number (becomes d)) → HartGoes m a p d
  steps_apart m p d lt home busy a free (inl x) b hart few private at node has = absurd (busy x.3)
  steps_apart m p d lt home busy a free (inr x) b hart few private at node has =
      let come = comes core image places nestings cycles firsts main setting tree spaces nodes' the_law leads t b m hart (settle d) (node_is_there core image places nestings cycles firsts main setting old tree spaces nodes nodes' the_law leads spaced sound t running acting m.number lt) free running lt few private at node home
      (has x.0 x.1) in
      subst (λ c. HartGoes m c p d) (sym x.0)
      (record {
        stage = come.stage;
        changes = (come.fresh, λ free'. come.stands);
        due = come.due;
        soon = λ none. come.soon;
        alike = λ lock none. absurd (false≢true (sym free ∙ lock));
      })

  -- or is in a group still, or in another one
  pub steps_to_group : (m : Member) (p : Owner) (d : Doing) → (d ≡ idle p → ⊥) → (a : Option Stage) → plan'.in_lockstep (tree.places m.number) ≡ true → OneLeft a p d
      → (a ≡ None → halts d.acting.due ≡ false → HasNext core nestings setting tree m.number (becomes d)) → HartGoes m a p d
  steps_to_group m p d busy a lock (inl x) has = absurd (busy x.3)
  steps_to_group m p d busy a lock (inr x) has =
      let next = has x.0 x.1 in
      let q = becomes d in
      subst (λ c. HartGoes m c p d) (sym x.0)
      (record {
        stage = Acts (distances (tree.places m.number)) 0;
        changes = (tt, λ free. absurd (false≢true (sym free ∙ lock)));
        due = record {
          single = refl;
          step = step_at core q.runner.left.at next.op next.operation q.runner.left.callers;
          next_is = next_here core q.runner.left.at next.op next.operation q.runner.left.callers next.stands;
          joint = λ free. absurd (false≢true (sym free ∙ lock));
        };
        soon = λ none. near (tree.places m.number);
        alike = λ lock' none. refl;
      })

  -- ---- all of them

  abbrev all_become : List Doing → List Owner
  all_become ds = all_landed core (map settle ds)

  pub record HartsGo (number : ℕ) (ns ns' : List ℕ) (afters : List (Option Stage)) (hs : List Hart) (ps : List Owner) (ds : List Doing) : Type 0 where
    pub stages : List Stage
    pub many : AreAsMany ns' hs stages
    pub changes : AllChange (core_source core setting) image plan blocks plan' blocks' t (numbered number hs) ns ns' afters stages ps (all_become ds)
    pub due : AllDue core tree spaces number stages (runners_of (all_become ds))
    pub soon : AllSoon afters stages
    pub alike : (g : ℕ) → plan'.in_lockstep g ≡ true → AllHaveCommitted (of_node g ns' afters)
        → AllAct (core_source core setting) image plan' blocks' (distances g) 0 (of_node g ns' stages) (of_node g ns' (numbered number hs)) (of_node g ns' (all_become ds))

  act_first : (d : ℕ) (b : Bool) (s : Stage) (stages : List Stage) (m : Member) (ms : List Member) (p : Owner) (ps : List Owner) → (b ≡ true → s ≡ Acts d 0)
      → AllAct (core_source core setting) image plan' blocks' d 0 stages ms ps → AllAct (core_source core setting) image plan' blocks' d 0 (add b s stages) (add b m ms) (add b p ps)
  act_first d true s stages m ms p ps one all = (one refl, all)
  act_first d false s stages m ms p ps one all = all

  -- what is known of one hart, beside this, and how it goes on
  abbrev pub EachGoes : (Fact : Member → Doing → Type 0) → Type 0
  EachGoes Fact =
      (m : Member) (p : Owner) (d : Doing) → Fact m d → m.number < setting.processors → landing core p.runner.left.at ≡ p.runner.left.at → IsHome tree spaces m.number (settle d)
      → (s0 : Stage) (a : Option Stage) → (plan.in_lockstep (old.places m.number) ≡ true → OneLeft a p d)
      → (plan.in_lockstep (old.places m.number) ≡ false → Went (core_source core setting) image plan blocks t (old.places m.number) a m p d)
      → IsDueAt core old spaces (old.places m.number) s0 p.runner → Remains s0 a
      → (a ≡ None → halts d.acting.due ≡ false → HasNext core nestings setting tree m.number (becomes d)) → HartGoes m a p d

  pub harts_go : (Fact : Member → Doing → Type 0) → EachGoes Fact → (number : ℕ) (ns : List ℕ) (hs : List Hart) (ns' : List ℕ) (afters : List (Option Stage)) (stages : List Stage) (ps : List Owner) (ds : List Doing)
      → AllAre Fact number hs ds → ArePlaces old number ns → ArePlaces tree number ns' → number + length ns ≡ setting.processors
      → AreAsMany ns hs afters → AreAsMany ns hs ps → AreAsMany ns hs ds → AreAsMany ns hs ns'
      → Pairwise Remains stages afters → AllDue core old spaces number stages (runners_of ps) → AllLanded core ps
      → AllGoOn core nestings setting tree spaces number afters ds (map settle ds)
      → ((g : ℕ) → plan.in_lockstep g ≡ true → LockLeft (of_node g ns afters) (of_node g ns ps) (of_node g ns ds))
      → ((g : ℕ) → plan.in_lockstep g ≡ false
      → AllAreLeft (core_source core setting) image plan blocks t g (of_node g ns afters) (of_node g ns (numbered number hs)) (of_node g ns ps) (of_node g ns ds))
      → HartsGo number ns ns' afters hs ps ds
  harts_go Fact each number [] [] [] [] [] [] [] facts places places' many as_a as_p as_d as_n remains due there on lock alone =
      record { stages = []; many = tt; changes = tt; due = tt; soon = tt; alike = λ g is all. tt }
  harts_go Fact each number (n ∷ ns) (h ∷ hs) (n' ∷ ns') (a ∷ afters) (s ∷ stages) (p ∷ ps) (d ∷ ds) facts places places' many as_a as_p as_d as_n remains due there on lock alone =
      let m : Member = record { number = number; hart = h } in
      let g = old.places number in
      let here : n ≡ g = places.0 in
      let here' : n' ≡ tree.places number = places'.0 in
      let one : HartGoes m a p d = each m p d facts.0 (omega (arith, many)) there.0 on.0 s a
      (λ e. lock_first (n == g) a (of_node g ns afters) p (of_node g ns ps) d (of_node g ns ds) (eq-eqb n g here) (lock g e))
      (λ e.
      left_first (core_source core setting) image plan blocks plan blocks t g (n == g) a (of_node g ns afters) m (of_node g ns (numbered (suc number) hs)) p (of_node g ns ps) d (of_node g ns ds)
      (eq-eqb n g here) (alone g e))
      due.1 remains.0 on.1 in
      let rest = harts_go Fact each (suc number) ns hs ns' afters stages ps ds facts.1 places.1 places'.1 (omega (arith, many)) as_a as_p as_d as_n remains.1 due.2 there.1 on.2
      (λ k e. lock_rest (n == k) a (of_node k ns afters) p (of_node k ns ps) d (of_node k ns ds) (lock k e))
      (λ k e.
      left_rest (core_source core setting) image plan blocks plan blocks t k (n == k) a (of_node k ns afters) m (of_node k ns (numbered (suc number) hs)) p (of_node k ns ps) d (of_node k ns ds)
      (alone k e)) in
      record {
        stages = one.stage ∷ rest.stages;
        many = rest.many;
        changes = (
          subst (λ k. Changes (core_source core setting) image plan blocks plan' blocks' t m k n' a one.stage p (becomes d)) (sym here)
              (subst (λ k. Changes (core_source core setting) image plan blocks plan' blocks' t m g k a one.stage p (becomes d)) (sym here') one.changes),
          rest.changes,
        );
        due = (on.0.number_is, one.due, rest.due);
        soon = (one.soon, rest.soon);
        alike = λ k is all.
            let parts = committed_parts (n' == k) a (of_node k ns' afters) all in
            act_first (distances k) (n' == k) one.stage (of_node k ns' rest.stages) m (of_node k ns' (numbered (suc number) hs)) (becomes d) (of_node k ns' (all_become ds))
            (λ e.
            let same : tree.places number ≡ k = sym here' ∙ eqb-true n' k e in
            one.alike (subst (λ j. plan'.in_lockstep j ≡ true) (sym same) is) (parts.0 e) ∙ ap (λ j. Acts (distances j) 0) same)
            (rest.alike k is parts.1);
      }
  harts_go Fact each number ns hs ns' afters stages ps ds facts places places' many as_a as_p as_d as_n remains due there on lock alone = absurd (assumption (as_a, as_p, as_d, as_n, remains))
