-- Those who meet at the end of a body, or come back from their parts, are in lockstep behind the round.
use Rattle.std.proofs.Common.{◌≡◌, ℕ, suc, ◌+◌, ◌^◌, ◌<◌, List, [], ◌∷◌, length, Option, Some, None, Bool, true, false, sym, ap, subst, ◌∙◌, refl, arith, ◌⊎◌, inl, inr, ⊎_elim}
use Rattle.std.specs.Prelude.{◌==◌, map, is_some}
use Rattle.std.proofs.lemmas.Bool.{eqb-true, false≢true}
use Rattle.fk_num.specs.Word.{Memory}
use Rattle.fk_space.specs.Space.{Space}
use Rattle.fk_tree.specs.declared.node.Kind.TheVariants.{Lockstep}
use Rattle.fk_tree.specs.Tree as trees
use Rattle.fk_tree.specs.Tree.{Tree, kind_of, turned}
use Rattle.fk_tree.proofs.Shapes.{kind-turned, some-given}
use Rattle.fk_meaning_operation.specs.declared.operation.Operation.{Operation}
use Rattle.fk_meaning_operation.specs.declared.operation.Operation.TheVariants.{Halt}
use Rattle.fk_meaning.specs.Processor.{Setting}
use Rattle.fk_meaning.specs.Round.{Step}
use Rattle.fk_core.specs.declared.op.CoreOp.{CoreOp}
use Rattle.fk_core.specs.Next.{Position}
use Rattle.fk_image.specs.declared.Image.{Image}
use Rattle.fk_machine.specs.Hart.{Hart, Setting as MachineSetting}
use Rattle.fk_sim_nodes.specs.Node.{Member, numbered, add, of_node, Has}
use Rattle.fk_sim_nodes.specs.Alone.{later, in_cycles, RunsPrivately}
use Rattle.fk_sim_nodes.specs.Together.{Together}
use Rattle.fk_sim_nodes.specs.Phase.{arrived, and_arrived}
use Rattle.fk_sim_match.specs.Stage.{Stage, absent, phase_of}
use Rattle.fk_sim_match.specs.Plan.{Plan, Blocks, phase_at, phases_from, HasCommitted, HasUnited, IsBound}
use Rattle.fk_sim_match.specs.Cycle.{AllHaveCommitted, AllAreLeft, IsLeft}
use Rattle.fk_sim_match.proofs.Left.{meeting_is_kept}
use Rattle.fk_sim_match.specs.Change.{HasSame}
use Rattle.fk_sim_match.proofs.Changes.{left_alone, same_of}
use Rattle.fk_sim_block.specs.Owner.{Owner, Doing, core_source}
use Rattle.fk_sim_block.specs.Stands as law
use Rattle.fk_sim_block.specs.Stands.{Places}
use Rattle.fk_sim_block.specs.Block.{IsRunning, gone_to}
use Rattle.fk_sim_block.specs.Node.{Nestings, StandsInNode, IsAtRest}
use Rattle.fk_sim_block.specs.Lockstep.{AreMembers, IsMember}
use Rattle.fk_sim_block.specs.Law.{Cycles, GroupLaw}
use Rattle.fk_sim_match.specs.Nodes.{first_of, is_arrival, is_lockstep, plan_of}
use Rattle.fk_sim_match.specs.Behind.{blocks_of}
use Rattle.fk_sim_match.proofs.Nodes.{tells}
use Rattle.fk_sim_match.proofs.Rounds.{not_none}
use Rattle.fk_sim_rounds.specs.Next.{JumpsLead, landed, all_landed, IsHome, HaveNext}
use Rattle.fk_sim_rounds.specs.Comes.{IsNode}
use Rattle.fk_lockstep_nodes.specs.Steps.{KeepsOrDoes, StepsBy}
use Rattle.fk_sim_rounds.specs.After.{actings, owner_after, owners_after, is_halt, halts, DoesStep, ArePlaces, AllGoOn, GroupsGoOn}
use Rattle.fk_sim_rounds.specs.Rounds.{IsBefore, IsTree}
use Rattle.fk_sim_rounds.proofs.Lists.{of_map, committed_parts}
use Rattle.fk_sim_rounds.proofs.Comes.{groups_come_to_commits}
use Rattle.fk_sim_rounds.proofs.Keep.{AllAtHome, settled_below, settled_have, met_settles}
use Rattle.fk_sim_rounds.proofs.Harts.{LockLeft, steps_into_group}
use Rattle.fk_sim_rounds.proofs.Groups.{at_home}
use Rattle.fk_sim_rounds.proofs.Changed.{Nothing, running, At, near, AtNode}
use Rattle.fk_sim_rounds.proofs.Moved.{kind_there, is_busy, TreeMoves}

-- all of them do this
abbrev pub AllDo : Operation → List Doing → Type 0
AllDo operation [] = Unit {0}
AllDo operation (d ∷ ds) = DoesStep operation d.acting.due × AllDo operation ds

do_add : (operation : Operation) (b : Bool) (d : Doing) (ds : List Doing) → (b ≡ true → DoesStep operation d.acting.due) → AllDo operation ds → AllDo operation (add b d ds)
do_add operation true d ds one rest = (one refl, rest)
do_add operation false d ds one rest = rest

-- all who stand at a node that steps
pub all_do : (old : Tree) (does : ℕ → Option Operation) (g number : ℕ) (operation : Operation) (ns : List ℕ) (ds : List Doing) → does g ≡ Some operation → ArePlaces old number ns
    → StepsBy old does number (actings ds) → AllDo operation (of_node g ns ds)
all_do old does g number operation [] ds is places steps = tt
all_do old does g number operation (n ∷ ns) [] is places steps = tt
all_do old does g number operation (n ∷ ns) (d ∷ ds) is places steps =
    do_add operation (n == g) d (of_node g ns ds) (λ e. subst (λ x. KeepsOrDoes x d.acting.due) (ap does (sym places.0 ∙ eqb-true n g e) ∙ is) steps.1)
    (all_do old does g (suc number) operation ns ds is places.1 steps.2)

-- ---- nobody is at a word of those who have all committed

absent_arrived : (b : Bool) (k : ℕ) → and_arrived (absent b) k ≡ k
absent_arrived true k = refl
absent_arrived false k = refl

none_at : (here member : Bool) (w : ℕ) (a : Option Stage) (k : ℕ) → (here ≡ true → a ≡ None) → and_arrived (phase_at here member (phase_of w member a)) k ≡ k
none_at true member w a k none = ap (λ x. and_arrived (phase_of w member x) k) (none refl) ∙ absent_arrived member k
none_at false member w a k none = absent_arrived member k

pub none_arrived : (plan : Plan) (g w number : ℕ) (ns : List ℕ) (afters : List (Option Stage)) → AllHaveCommitted (of_node g ns afters) → arrived (phases_from plan g w number ns afters) ≡ 0
none_arrived plan g w number [] afters all = refl
none_arrived plan g w number (n ∷ ns) [] all = refl
none_arrived plan g w number (n ∷ ns) (a ∷ afters) all =
    let parts = committed_parts (n == g) a (of_node g ns afters) all in
    none_at (n == g) (plan.member w number) w a (arrived (phases_from plan g w (suc number) ns afters)) parts.0 ∙ none_arrived plan g w (suc number) ns afters parts.1

no_halt : (x operation : Operation) → is_halt operation ≡ false → x ≡ Halt → x ≡ operation → ⊥
no_halt x operation other a b = false≢true (sym other ∙ ap is_halt (sym b ∙ a))

module _ (core : List CoreOp) (image : Image) (places : Places) (nestings : Nestings) (cycles : Cycles) (firsts : List ℕ) (main : ℕ) (setting : Setting) (old new : Tree) (spaces : ℕ → Space) (nodes nodes' : List ℕ)
    (t : MachineSetting) (stages : List Stage) (earlier hs : List Hart) (ps : List Owner) (ds : List Doing) (own own' : ℕ → Memory) (control : Memory)
    (the_law : GroupLaw core image places nestings cycles firsts main) (leads : JumpsLead core) (before : IsBefore core image setting old spaces nodes t stages hs ps)
    (few : length earlier < 2 ^ 31)
    (binds : IsBound (core_source core setting) image (plan_of old spaces nodes) (blocks_of core image places nestings setting (plan_of old spaces nodes) (first_of spaces)) t stages earlier ps own)
    (left : IsLeft (core_source core setting) image (plan_of old spaces nodes) (blocks_of core image places nestings setting (plan_of old spaces nodes) (first_of spaces)) t stages hs ps ds own own')
    (has : (g : ℕ) → Has ((plan_of old spaces nodes).words g) control (own' g)) (behind : IsTree setting new spaces)
    (does : ℕ → Option Operation) (steps : StepsBy old does 0 (actings ds)) (changed : ℕ → Bool) (move : TreeMoves old new setting.processors does nodes nodes' changed)
    (on : AllGoOn core nestings setting new spaces 0 left.afters ds (owners_after old new ds)) (next : GroupsGoOn core nestings new nodes' left.afters (owners_after old new ds))
    (g : ℕ) (operation : Operation) (is : does g ≡ Some operation) (goes_on : is_halt operation ≡ false) (there : is_some (old.nodes g) ≡ true) (free : is_lockstep (trees.kind old g) ≡ false)
    (turns : new.nodes g ≡ turned Lockstep (old.nodes g)) (stay : (h : ℕ) → h < setting.processors → old.places h ≡ g → new.places h ≡ g) (alike : HasSame g nodes nodes') where
  abbrev plan : Plan
  plan = plan_of old spaces nodes

  abbrev blocks : Blocks Owner Doing
  blocks = blocks_of core image places nestings setting (plan_of old spaces nodes) (first_of spaces)

  abbrev plan' : Plan
  plan' = plan_of new spaces nodes'

  abbrev settle : Doing → Owner
  settle d = owner_after (actings ds) old new d

  kind' : trees.kind new g ≡ Some Lockstep
  kind' = ap kind_of turns ∙ kind-turned Lockstep (old.nodes g) (not_none (old.nodes g) there)

  there' : is_some (new.nodes g) ≡ true
  there' = kind_there (new.nodes g) Lockstep kind'

  lock : plan'.in_lockstep g ≡ true
  lock = ap is_lockstep kind'

  -- ---- its members

  abbrev run : IsRunning image setting (later t)
  run =
      running core image places nestings cycles firsts main setting old new spaces nodes nodes' t stages hs ps ds own own' control the_law leads before left has behind.sound behind.spaced does steps changed move on next

  abbrev Home : List Member → List Doing → Type 0
  Home ms xs =
      AllAtHome core image places nestings cycles firsts main setting old new spaces nodes nodes' the_law leads behind.spaced behind.sound (later t) run (actings ds) g ms xs

  all_left : AllAreLeft (core_source core setting) image plan blocks (later t) g (of_node g nodes left.afters) (of_node g nodes (numbered 0 hs)) (of_node g nodes ps) (of_node g nodes ds)
  all_left =
      left_alone (core_source core setting) image plan blocks plan blocks (plan.in_lockstep g) (later t) g (of_node g nodes left.afters) (of_node g nodes (numbered 0 hs)) (of_node g nodes ps)
      (of_node g nodes ds) (own' g) free (left.nodes g)

  all_none : (afters : List (Option Stage)) (ms : List Member) (qs : List Owner) (xs : List Doing) → AllAreLeft (core_source core setting) image plan blocks (later t) g afters ms qs xs
      → AllDo operation xs → AllHaveCommitted afters
  all_none [] [] [] [] left' do' = tt
  all_none (None ∷ afters) (m ∷ ms) (q ∷ qs) (x ∷ xs) left' do' = (refl, all_none afters ms qs xs left'.1 do'.1)
  all_none (Some s ∷ afters) (m ∷ ms) (q ∷ qs) (x ∷ xs) left' do' = absurd (is_busy operation x q do'.0 left'.0.0)
  all_none afters ms qs xs left' do' = absurd (assumption left')

  -- one that has left those it met
  met_member : (m : Member) (q : Owner) (d : Doing) → old.places m.number ≡ g → new.places m.number ≡ g → IsHome new spaces m.number (settle d) → DoesStep operation d.acting.due
      → HasCommitted (core_source core setting) image plan blocks (later t) g m q d → IsMember places nestings setting None (first_of spaces g) m (settle d)
  met_member m q d at at' home does x =
      ⊎_elim
      (λ gone. absurd (subst (DoesStep operation) gone.1.done.done.done does))
      (λ other.
      ⊎_elim
      (λ ended. absurd (no_halt ended.step.operation operation goes_on ended.halts (subst (DoesStep operation) ended.due does)))
      (λ met.
      let here : m.hart ≡ x.1 = subst (λ k. RunsPrivately image (later t) m.number k m.hart x.1) other.0 x.2 in
      let e : settle d ≡ gone_to (suc met.i) q
      = ap settle met.due
      ∙ met_settles core image places nestings cycles firsts main setting old new spaces nodes nodes' the_law leads behind.spaced behind.sound (later t) run (actings ds) met.i met.op met.operation
      q met.meeting in
      let node = met.left.1 in
      record {
        number = sym home.number_is;
        at = subst (λ h. law.StandsAt places (settle d) h) (sym here) (subst (λ p. law.StandsAt places p x.1) (sym e) met.left.0);
        node = subst (λ h. StandsInNode places nestings setting None (settle d) h) (sym here)
            (subst (λ p. StandsInNode places nestings setting None p x.1) (sym e) (record { node = node.node; body = tt; space = node.space; outer = node.outer }));
        words = home.words ∙ ap (first_of spaces) at';
      })
      other.1)
      x.3

  -- nobody has united with others
  committed : (m : Member) (q : Owner) (d : Doing)
      → HasCommitted (core_source core setting) image plan blocks (later t) g m q d ⊎ HasUnited (core_source core setting) image plan blocks (later t) g m q d
      → HasCommitted (core_source core setting) image plan blocks (later t) g m q d
  committed m q d (inl x) = x
  committed m q d (inr x) = absurd x.1

  met_members : (afters : List (Option Stage)) (ms : List Member) (qs : List Owner) (xs : List Doing) → AllAreLeft (core_source core setting) image plan blocks (later t) g afters ms qs xs
      → AllDo operation xs → Home ms xs → AreMembers places nestings setting (λ p. None) (first_of spaces g) ms (map settle xs)
  met_members [] [] [] [] left' do' home = tt
  met_members (None ∷ afters) (m ∷ ms) (q ∷ qs) (x ∷ xs) left' do' home =
      (met_member m q x home.0.0 home.0.1 home.0.3 do'.0 (committed m q x left'.0), met_members afters ms qs xs left'.1 do'.1 home.1)
  met_members (Some s ∷ afters) (m ∷ ms) (q ∷ qs) (x ∷ xs) left' do' home = absurd (is_busy operation x q do'.0 left'.0.0)
  met_members afters ms qs xs left' do' home = absurd (assumption left')

  done : AllDo operation (of_node g nodes ds)
  done = all_do old does g 0 operation nodes ds is before.stand steps

  all_gone : AllHaveCommitted (of_node g nodes left.afters)
  all_gone = all_none (of_node g nodes left.afters) (of_node g nodes (numbered 0 hs)) (of_node g nodes ps) (of_node g nodes ds) all_left done

  -- ---- its words

  given : g < old.given
  given = some-given setting.processors old before.sound g (not_none (old.nodes g) there)

  word_is_zero : (offset : ℕ) → offset < 8 → is_arrival offset ≡ true → control (first_of spaces g + offset) ≡ 0
  word_is_zero offset lt arrival =
      let w = first_of spaces g + offset in
      let tell = tells old spaces before.spaced nodes g offset there given lt in
      let kept = meeting_is_kept (core_source core setting) image plan blocks t stages earlier hs ps ds own own' few binds left g w free (tell.own, tell.arrival ∙ arrival) in
      has g w tell.own ∙ sym kept.settled.count ∙ none_arrived plan g w 0 nodes left.afters all_gone

  at_rest : IsAtRest (first_of spaces g) control
  at_rest = record { barrier = word_is_zero 0 (omega arith) refl; closing = word_is_zero 1 (omega arith) refl }

  home : Home (of_node g nodes (numbered 0 hs)) (of_node g nodes ds)
  home =
      let many = before.many in
      at_home core image places nestings cycles firsts main setting old new spaces nodes nodes' the_law leads behind.spaced behind.sound (later t) run ds g 0 nodes hs left.afters ds before.stand stay (omega (arith, many)) left.as_many left.done_as_many on

  abbrev AtGroup : Type 0
  AtGroup =
      At core image places nestings cycles firsts main setting old new spaces nodes nodes' t stages hs ps ds own own' control the_law leads before left has behind.sound behind.spaced
      does steps changed move on next g

  -- its members are the same in both trees
  now : {A : Type 0} (xs : List A) → of_node g nodes xs ≡ of_node g nodes' xs
  now xs = sym (same_of g nodes nodes' xs alike)

  pub at_group : plan'.in_lockstep g ≡ true → AtGroup
  at_group locked =
      let are = of_map settle g nodes ds in
      let node : IsNode new spaces g
      = record { spaced = behind.spaced; there = there'; given = some-given setting.processors new behind.sound g (not_none (new.nodes g) there') } in
      let come = groups_come_to_commits core image places nestings cycles firsts main setting new spaces nodes' (later t) 0 g (of_node g nodes (numbered 0 hs))
      (map settle (of_node g nodes ds)) control the_law leads node
      (record {
        kind = kind';
        space =
            settled_have core image places nestings cycles firsts main setting old new spaces nodes nodes' the_law leads behind.spaced behind.sound (later t) run (actings ds) g
            (of_node g nodes (numbered 0 hs)) (of_node g nodes ds) kind' home;
      })
      run
      (settled_below core image places nestings cycles firsts main setting old new spaces nodes nodes' the_law leads behind.spaced behind.sound (later t) run (actings ds) g
      (of_node g nodes (numbered 0 hs)) (of_node g nodes ds) home)
      (omega arith)
      (at_rest, met_members (of_node g nodes left.afters) (of_node g nodes (numbered 0 hs)) (of_node g nodes ps) (of_node g nodes ds) all_left done home)
      (subst (HaveNext core nestings) (sym (now (map settle ds)) ∙ are) (next g locked (subst AllHaveCommitted (now left.afters) all_gone))) in
      let qs = all_landed core (map settle ds) in
      record {
        distance = come.distance;
        soon = come.soon;
        goes = inr (
          subst AllHaveCommitted (now left.afters) all_gone,
          subst
              (λ l.
              Together (core_source core setting) image (plan'.words g) (later t) 1 come.distance l (of_node g nodes' qs) control
              ((blocks_of core image places nestings setting (plan_of new spaces nodes') (first_of spaces)).AfterAll (later (in_cycles come.distance (later t))) g))
              (now (numbered 0 hs))
              (subst
              (λ l.
              Together (core_source core setting) image (plan'.words g) (later t) 1 come.distance (of_node g nodes (numbered 0 hs)) l control
              ((blocks_of core image places nestings setting (plan_of new spaces nodes') (first_of spaces)).AfterAll (later (in_cycles come.distance (later t))) g))
              (sym (of_map (landed core) g nodes (map settle ds) ∙ ap (all_landed core) are) ∙ now qs) come.together),
        );
      }

  goes_by : (due : Option (Step Position)) → DoesStep operation due → halts due ≡ false
  goes_by None does' = absurd does'
  goes_by (Some step) does' = ap is_halt does' ∙ goes_on

  module _ (at_changed : (k : ℕ) → changed k ≡ true → plan'.in_lockstep k ≡ true
      → At core image places nestings cycles firsts main setting old new spaces nodes nodes' t stages hs ps ds own own' control the_law leads before left has behind.sound behind.spaced does steps changed move on next k)
      (lock_changed : (k : ℕ) → changed k ≡ true → plan.in_lockstep k ≡ true → LockLeft (of_node k nodes left.afters) (of_node k nodes ps) (of_node k nodes ds)) where
    pub closes_each : AtNode core image places nestings cycles firsts main setting old new spaces nodes nodes' t stages hs ps ds own own' control the_law leads before left has behind.sound
        behind.spaced does steps changed move on next at_changed lock_changed g operation Nothing
    closes_each m p d known lt land home' s0 a locks alone' due remains on' =
        steps_into_group core image places nestings cycles firsts main setting old new spaces nodes nodes' the_law leads behind.spaced behind.sound (later t) run (actings ds)
        (λ k. (near core image places nestings cycles firsts main setting old new spaces nodes nodes' t stages hs ps ds own own' control the_law leads before left has behind.sound behind.spaced
        does steps changed move on next at_changed lock_changed k).distance)
        (λ k. (near core image places nestings cycles firsts main setting old new spaces nodes nodes' t stages hs ps ds own own' control the_law leads before left has behind.sound behind.spaced
        does steps changed move on next at_changed lock_changed k).soon)
        m p d (is_busy operation d p known.1) a (ap (λ k. plan'.in_lockstep k) (stay m.number lt known.0) ∙ lock) (alone' (ap (λ k. plan.in_lockstep k) known.0 ∙ free))
        (λ none. on' none (goes_by d.acting.due known.1))
