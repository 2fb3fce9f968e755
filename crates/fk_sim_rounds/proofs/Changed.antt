-- After a round in which the members of some nodes do steps all are bound again.
use Rattle.std.proofs.Common.{◌≡◌, ℕ, suc, ◌≤◌, ◌<◌, List, [], ◌∷◌, Option, Some, None, Bool, true, false, sym, ap, subst, ◌∙◌, refl, arith, ◌⊎◌, inl, inr, ⊎_elim}
use Rattle.std.specs.Prelude.{◌==◌, is_some}
use Rattle.std.proofs.lemmas.Bool.{cases_Bool, eqb-true, false≢true}
use Rattle.fk_num.specs.Word.{Memory}
use Rattle.fk_space.specs.Space.{Space}
use Rattle.fk_tree.specs.Tree as trees
use Rattle.fk_tree.specs.Tree.{Tree}
use Rattle.fk_tree.specs.Sound.{IsSound}
use Rattle.fk_tree.proofs.Shapes.{has_some, some-given}
use Rattle.fk_meaning_operation.specs.declared.operation.Operation.{Operation}
use Rattle.fk_meaning.specs.Processor.{Setting}
use Rattle.fk_core.specs.declared.op.CoreOp.{CoreOp}
use Rattle.fk_image.specs.declared.Image.{Image}
use Rattle.fk_machine.specs.Hart.{Hart, Setting as MachineSetting}
use Rattle.fk_sim_nodes.specs.Node.{Member, numbered, add, of_node, Has}
use Rattle.fk_sim_nodes.specs.Alone.{later}
use Rattle.fk_sim_match.specs.Stage.{Stage}
use Rattle.fk_sim_match.specs.Plan.{Plan, Blocks, IsOpen, AllAct, InLockstep}
use Rattle.fk_sim_match.specs.Cycle.{IsLeft}
use Rattle.fk_sim_match.specs.Change.{MeetingStays, MeetingOpens}
use Rattle.fk_sim_match.proofs.Changes.{left_alone}
use Rattle.fk_sim_block.specs.Owner.{Owner, Doing, core_source}
use Rattle.fk_sim_block.specs.Stands.{Places}
use Rattle.fk_sim_block.specs.Block.{IsRunning}
use Rattle.fk_sim_block.specs.Node.{Nestings}
use Rattle.fk_sim_block.specs.Law.{Cycles, GroupLaw}
use Rattle.fk_sim_match.specs.Nodes.{first_of, HaveSpaces, is_lockstep, plan_of}
use Rattle.fk_sim_match.specs.Behind.{blocks_of}
use Rattle.fk_sim_match.proofs.Rounds.{not_none, lockstep_kind}
use Rattle.fk_sim_rounds.specs.Next.{JumpsLead, all_landed}
use Rattle.fk_sim_rounds.specs.Comes.{most_between}
use Rattle.fk_sim_rounds.specs.After.{actings, owner_after, owners_after, Keeps, AllKeep, DoesStep, ArePlaces, AllGoOn, GroupsGoOn, BindsAgain}
use Rattle.fk_lockstep_nodes.specs.Steps.{KeepsOrDoes, StepsBy}
use Rattle.fk_sim_rounds.specs.Rounds.{IsBefore}
use Rattle.fk_sim_rounds.proofs.Cycles.{runs_later}
use Rattle.fk_sim_rounds.proofs.Same.{SameNode, same_node, own_there, opened_before, member_still, size_still}
use Rattle.fk_sim_rounds.proofs.Harts.{AllAre, LockLeft, HartsGo, EachGoes, hart_goes, harts_go}
use Rattle.fk_sim_rounds.proofs.Groups.{GroupAt, group_at, lock_left}
use Rattle.fk_sim_rounds.proofs.Trees.{many_become, many_landed, some_kind, some_there}
use Rattle.fk_sim_rounds.proofs.Moved.{TreeMoves, many_moved, many_nodes}
use Rattle.fk_sim_rounds.proofs.TreeAfter.{none_or_some}

-- who does not stand at the node keeps the tree
keep_add : (b : Bool) (d : Doing) (ds : List Doing) → (b ≡ true → Keeps d.acting.due) → AllKeep ds → AllKeep (add b d ds)
keep_add true d ds one rest = (one refl, rest)
keep_add false d ds one rest = rest

pub keep_elsewhere : (old : Tree) (does : ℕ → Option Operation) (k number : ℕ) (ns : List ℕ) (ds : List Doing) → does k ≡ None → ArePlaces old number ns → StepsBy old does number (actings ds)
    → AllKeep (of_node k ns ds)
keep_elsewhere old does k number [] ds none places steps = tt
keep_elsewhere old does k number (n ∷ ns) [] none places steps = tt
keep_elsewhere old does k number (n ∷ ns) (d ∷ ds) none places steps =
    keep_add (n == k) d (of_node k ns ds) (λ e. subst (λ x. KeepsOrDoes x d.acting.due) (ap does (sym places.0 ∙ eqb-true n k e) ∙ none) steps.1)
    (keep_elsewhere old does k (suc number) ns ds none places.1 steps.2)

-- what is so of each hart at a node that steps
abbrev pub Here : (old : Tree) (does : ℕ → Option Operation) (Own : Member → Doing → Type 0) → Member → Doing → Type 0
Here old does Own m d = (operation : Operation) → does (old.places m.number) ≡ Some operation → Own m d

-- what is known of one hart
abbrev pub Fact : (old : Tree) (does : ℕ → Option Operation) (Own : Member → Doing → Type 0) → Member → Doing → Type 0
Fact old does Own m d = KeepsOrDoes (does (old.places m.number)) d.acting.due × Here old does Own m d

facts : (old : Tree) (does : ℕ → Option Operation) (number : ℕ) (Own : Member → Doing → Type 0) (hs : List Hart) (ds : List Doing) → StepsBy old does number (actings ds)
    → AllAre (Here old does Own) number hs ds → AllAre (Fact old does Own) number hs ds
facts old does number Own [] [] steps own = tt
facts old does number Own [] (d ∷ ds) steps own = tt
facts old does number Own (h ∷ hs) [] steps own = tt
facts old does number Own (h ∷ hs) (d ∷ ds) steps own = ((steps.1, own.0), facts old does (suc number) Own hs ds steps.2 own.1)

-- at a node that steps
abbrev pub Steps : (old : Tree) (does : ℕ → Option Operation) (Own : Member → Doing → Type 0) → Member → Doing → Type 0
Steps old does Own m d = (operation : Operation) × (does (old.places m.number) ≡ Some operation) × DoesStep operation d.acting.due × Own m d

-- nothing more is known there
abbrev pub Nothing : Member → Doing → Type 0
Nothing m d = Unit {0}

module _ (core : List CoreOp) (image : Image) (places : Places) (nestings : Nestings) (cycles : Cycles) (firsts : List ℕ) (main : ℕ) (setting : Setting) (old tree : Tree) (spaces : ℕ → Space) (nodes nodes' : List ℕ)
    (t : MachineSetting) (stages : List Stage) (hs : List Hart) (ps : List Owner) (ds : List Doing) (own own' : ℕ → Memory) (control : Memory)
    (the_law : GroupLaw core image places nestings cycles firsts main) (leads : JumpsLead core) (before : IsBefore core image setting old spaces nodes t stages hs ps)
    (left : IsLeft (core_source core setting) image (plan_of old spaces nodes) (blocks_of core image places nestings setting (plan_of old spaces nodes) (first_of spaces)) t stages hs ps ds own own')
    (has : (g : ℕ) → Has ((plan_of old spaces nodes).words g) control (own' g)) (sound : IsSound setting.processors tree) (spaced : HaveSpaces tree spaces)
    (does : ℕ → Option Operation) (steps : StepsBy old does 0 (actings ds)) (changed : ℕ → Bool) (move : TreeMoves old tree setting.processors does nodes nodes' changed)
    (on : AllGoOn core nestings setting tree spaces 0 left.afters ds (owners_after old tree ds)) (next : GroupsGoOn core nestings tree nodes' left.afters (owners_after old tree ds)) where
  abbrev plan : Plan
  plan = plan_of old spaces nodes

  abbrev blocks : Blocks Owner Doing
  blocks = blocks_of core image places nestings setting (plan_of old spaces nodes) (first_of spaces)

  abbrev plan' : Plan
  plan' = plan_of tree spaces nodes'

  abbrev blocks' : Blocks Owner Doing
  blocks' = blocks_of core image places nestings setting (plan_of tree spaces nodes') (first_of spaces)

  pub running : IsRunning image setting (later t)
  running = runs_later image setting 1 t before.running

  -- nor does it step
  keeps : (k : ℕ) → changed k ≡ false → does k ≡ None
  keeps k off = ⊎_elim (λ none. none) (λ some. absurd (false≢true (sym off ∙ move.here k some.0 some.1))) (none_or_some (does k))

  -- a node that doesn't change
  same_at : (g : ℕ) → changed g ≡ false → is_some (old.nodes g) ≡ true → SameNode old tree spaces g
  same_at g off is =
      let node = move.others g off in
      same_node old tree spaces g before.spaced spaced is (some-given setting.processors old before.sound g (not_none (old.nodes g) is))
      (some-given setting.processors tree sound g (not_none (tree.nodes g) (ap is_some node ∙ is))) node

  lock_same : (g : ℕ) → changed g ≡ false → plan'.in_lockstep g ≡ true → SameNode old tree spaces g
  lock_same g off lock = same_at g off (sym (ap is_some (move.others g off)) ∙ some_kind (tree.nodes g) (lockstep_kind (trees.kind tree g) lock))

  lock_old : (g : ℕ) → changed g ≡ false → plan.in_lockstep g ≡ true → SameNode old tree spaces g
  lock_old g off lock = same_at g off (some_kind (old.nodes g) (lockstep_kind (trees.kind old g) lock))

  -- its members stay there
  stay : (g : ℕ) → changed g ≡ false → (h : ℕ) → h < setting.processors → old.places h ≡ g → tree.places h ≡ g
  stay g off h lt at = move.places h lt (ap does at ∙ keeps g off) ∙ at

  abbrev pub At : ℕ → Type 0
  At g =
      GroupAt core image places nestings cycles firsts main setting old tree spaces nodes nodes' the_law leads spaced sound (later t) running ds hs ps left.afters own' control before.stand
      before.many left.as_many left.done_as_many on has before.sound left.nodes g

  group : (g : ℕ) → changed g ≡ false → plan'.in_lockstep g ≡ true → At g
  group g off lock =
      let same = lock_same g off lock in
      let was = ap is_lockstep (sym same.kind) ∙ lock in
      group_at core image places nestings cycles firsts main setting old tree spaces nodes nodes' the_law leads spaced sound (later t) running ds hs ps left.afters own' control before.stand
      before.many left.as_many left.done_as_many on has before.sound left.nodes g same was
      (keep_elsewhere old does g 0 nodes ds (keeps g off) before.stand steps) (stay g off) (move.alike g off was) (next g lock)

  module _ (at_changed : (k : ℕ) → changed k ≡ true → plan'.in_lockstep k ≡ true → At k)
      (lock_changed : (k : ℕ) → changed k ≡ true → plan.in_lockstep k ≡ true → LockLeft (of_node k nodes left.afters) (of_node k nodes ps) (of_node k nodes ds)) where
    group_any : (g : ℕ) → plan'.in_lockstep g ≡ true → At g
    group_any g lock = ⊎_elim (λ yes. at_changed g yes lock) (λ off. group g off lock) (cases_Bool (changed g))

    pub record Near (g : ℕ) : Type 0 where
      pub distance : ℕ
      pub soon : distance ≤ most_between
      pub at : (lock : plan'.in_lockstep g ≡ true) → (x : At g) × (x.distance ≡ distance)

    near_by : (g : ℕ) → ((plan'.in_lockstep g ≡ true) ⊎ (plan'.in_lockstep g ≡ false)) → Near g
    near_by g (inl lock) = let x = group_any g lock in record { distance = x.distance; soon = x.soon; at = λ lock'. (x, refl) }
    near_by g (inr free) = record { distance = 0; soon = omega arith; at = λ lock. absurd (false≢true (sym free ∙ lock)) }

    pub near : (g : ℕ) → Near g
    near g = near_by g (cases_Bool (plan'.in_lockstep g))

    abbrev pub distances : ℕ → ℕ
    distances g = (near g).distance

    abbrev pub AnyGoes : (Member → Doing → Type 0) → Type 0
    AnyGoes Known =
        EachGoes core image places nestings cycles firsts main setting old tree spaces nodes nodes' the_law leads spaced sound (later t) running (actings ds) distances (λ g. (near g).soon) Known

    -- how those go on who stood at one node, and did its step
    abbrev pub AtNode : (g : ℕ) → Operation → (Member → Doing → Type 0) → Type 0
    AtNode g operation Own = AnyGoes (λ m d. (old.places m.number ≡ g) × DoesStep operation d.acting.due × Own m d)

    module _ (Own : Member → Doing → Type 0) (own_here : AllAre (Here old does Own) 0 hs ds) (each_here : AnyGoes (Steps old does Own)) where
      each : AnyGoes (Fact old does Own)
      each m p d fact lt land home s0 a lock alone due remains on' =
          ⊎_elim
          (λ none.
          hart_goes core image places nestings cycles firsts main setting old tree spaces nodes nodes' the_law leads spaced sound (later t) running (actings ds) distances (λ g. (near g).soon)
          m p d lt land home (move.places m.number lt none)
          (same_at (old.places m.number) (move.elsewhere m.number lt none) (some_there (old.nodes (old.places m.number)) (has_some old (old.places m.number) m.number (before.sound.placed m.number lt).member))) s0 a lock alone due
          remains on')
          (λ some. each_here m p d (some.0, some.1, subst (λ x. KeepsOrDoes x d.acting.due) some.1 fact.0, fact.1 some.0 some.1) lt land home s0 a lock alone due remains on')
          (none_or_some (does (old.places m.number)))

      lock_any : (g : ℕ) → plan.in_lockstep g ≡ true → LockLeft (of_node g nodes left.afters) (of_node g nodes ps) (of_node g nodes ds)
      lock_any g lock =
          ⊎_elim (λ yes. lock_changed g yes lock)
          (λ off.
          lock_left core image places nestings cycles firsts main setting old tree spaces nodes nodes' the_law leads spaced sound (later t) running ds hs ps left.afters own' control
          before.stand before.many left.as_many left.done_as_many on has before.sound left.nodes g (lock_old g off lock) lock
          (keep_elsewhere old does g 0 nodes ds (keeps g off) before.stand steps) (stay g off) (move.alike g off lock))
          (cases_Bool (changed g))

      pub all : HartsGo core image places nestings cycles firsts main setting old tree spaces nodes nodes' the_law leads spaced sound (later t) running (actings ds) distances (λ g. (near g).soon)
          0 nodes nodes' left.afters hs ps ds
      all =
          harts_go core image places nestings cycles firsts main setting old tree spaces nodes nodes' the_law leads spaced sound (later t) running (actings ds) distances (λ g. (near g).soon)
          (Fact old does Own) each 0 nodes hs nodes' left.afters stages ps ds (facts old does 0 Own hs ds steps own_here) before.stand move.there (let many = before.many in omega (arith, many)) left.as_many
          before.as_many left.done_as_many (many_nodes nodes nodes' hs ps move.many before.as_many) left.stay before.due before.landed on lock_any
          (λ g free. left_alone (core_source core setting) image plan blocks plan blocks (plan.in_lockstep g) (later t) g (of_node g nodes left.afters) (of_node g nodes (numbered 0 hs))
          (of_node g nodes ps) (of_node g nodes ds) (own' g) free (left.nodes g))

      abbrev Begins : ℕ → Type 0
      Begins g =
          InLockstep (core_source core setting) image plan' blocks' (later t) g (of_node g nodes' all.stages) (of_node g nodes' (numbered 0 hs)) (of_node g nodes' (all_landed core (owners_after old tree ds)))
          control

      abbrev Meetings : ℕ → ℕ → Type 0
      Meetings g w =
          MeetingStays (core_source core setting) image plan blocks plan' blocks' g w ⊎ MeetingOpens (core_source core setting) image plan blocks plan' blocks' g w left.afters all.stages control

      meetings_stay : (g w : ℕ) → changed g ≡ false → plan'.in_lockstep g ≡ false → IsOpen plan' g w → Meetings g w
      meetings_stay g w off free is_open =
          let here = own_there tree spaces g w is_open.0 in
          let same = same_at g off (sym (ap is_some (move.others g off)) ∙ here) in
          let was = opened_before old tree spaces nodes nodes' g same.words w is_open in
          inl (record {
            alone = ap is_lockstep (sym same.kind) ∙ free;
            was = was;
            size = sym (size_still old tree spaces nodes nodes' g same.words w is_open);
            same = λ number. member_still old tree spaces nodes nodes' g same.words w number was;
          })

      pub bound : ((k : ℕ) → changed k ≡ true → (w : ℕ) → plan'.in_lockstep k ≡ false → IsOpen plan' k w → Meetings k w)
          → BindsAgain core image places nestings setting old spaces nodes tree spaces nodes' t hs left.afters ps (all_landed core (owners_after old tree ds)) control
      bound meets = record {
        stages = all.stages;
        changes = record {
          as_many = many_moved nodes nodes' hs (all_landed core (owners_after old tree ds)) move.many
              (many_landed core nodes hs (owners_after old tree ds) (many_become (owner_after (actings ds) old tree) nodes hs ds left.done_as_many));
          stages_as_many = all.many;
          harts = all.changes;
          groups = λ g lock.
              let x = (near g).at lock in
              ⊎_elim (λ stays. inl stays)
              (λ y.
              let here : Begins g = record {
                distance = x.0.distance;
                inner = 0;
                alike =
                    subst
                    (λ k. AllAct (core_source core setting) image plan' blocks' k 0 (of_node g nodes' all.stages) (of_node g nodes' (numbered 0 hs)) (of_node g nodes' (all_landed core (owners_after old tree ds))))
                    (sym x.1) (all.alike g lock y.0);
                together = y.1;
              } in
              inr here) x.0.goes;
          meetings = λ g w free is_open. ⊎_elim (λ yes. meets g yes w free is_open) (λ off. meetings_stay g w off free is_open) (cases_Bool (changed g));
        };
        due = all.due;
        soon = all.soon;
      }
