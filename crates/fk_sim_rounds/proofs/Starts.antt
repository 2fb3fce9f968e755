-- After the round in which the group of `start` begins all are bound again.
use Rattle.std.proofs.Common.{◌≡◌, ◌≢◌, ℕ, zero, suc, ◌+◌, ◌-◌, ◌^◌, ◌≤◌, ◌<◌, List, [], ◌∷◌, length, Option, Some, None, Bool, true, false, sym, ap, subst, ◌∙◌, refl, arith, ◌⊎◌, inl, inr, ⊎_elim, eq-eqb, filter}
use Rattle.std.specs.Prelude.{◌==◌, ◌||◌, map, min, is_some, nat_lt, if◌then◌else◌}
use Rattle.std.proofs.Math.Nat.{min-le_right}
use Rattle.std.proofs.lemmas.Bool.{cases_Bool, cases_eq, ne_eqb, eqb-true, lt-ltb, le-ltb, false≢true}
use Rattle.fk_num.specs.Word.{Memory}
use Rattle.fk_space.specs.Space.{Space}
use Rattle.fk_tree.specs.declared.node.Kind.TheVariants.{Lockstep, Waiting, Asynchronous}
use Rattle.fk_tree.specs.Tree as trees
use Rattle.fk_tree.specs.Tree.{Tree, kind_of, members_of, node_of, below, is_member, is_in, first_part}
use Rattle.fk_tree.specs.Sound.{is_ascending, IsSound}
use Rattle.fk_tree.proofs.Lists.{length-below}
use Rattle.fk_tree.proofs.Begins.{length-root}
use Rattle.fk_tree.proofs.Shapes.{members-node_of, kind-node_of, has_some, some-given}
use Rattle.fk_meaning_operation.specs.declared.operation.Operation.{Operation}
use Rattle.fk_meaning_operation.specs.declared.operation.Operation.TheVariants.{Begin}
use Rattle.fk_meaning.specs.Processor.{Processor, Setting, values, last}
use Rattle.fk_meaning.specs.Group.{not_negative, is_taken, does, goes_onward}
use Rattle.fk_meaning.specs.Round.{Step, lowest, agreed}
use Rattle.fk_core.specs.declared.op.CoreOp.{CoreOp}
use Rattle.fk_core.specs.Next.{Position, follows}
use Rattle.fk_image.specs.declared.Image.{Image}
use Rattle.fk_machine.specs.Hart.{Hart, Setting as MachineSetting}
use Rattle.fk_sim_nodes.specs.Node.{Member, numbered, add, of_node, AreAsMany, Has}
use Rattle.fk_sim_nodes.specs.Alone.{later, in_cycles, RunsPrivately, AllRunPrivately, with_harts}
use Rattle.fk_sim_nodes.specs.Together.{Together}
use Rattle.fk_sim_nodes.specs.OnePlace.{last_or}
use Rattle.fk_sim_nodes.proofs.Runs.{private_run}
use Rattle.fk_sim_match.specs.Stage.{Stage, Acts}
use Rattle.fk_sim_match.specs.Plan.{Plan, Blocks, IsOpen, StandsAt, AllAct, InLockstep, IsBound}
use Rattle.fk_sim_match.specs.Cycle.{AllHaveCommitted, IsLeft}
use Rattle.fk_sim_match.specs.Change.{IsFresh, AllChange, MeetingStays, MeetingOpens, TreeChanges}
use Rattle.fk_sim_match.proofs.Changes.{plan_goes_on}
use Rattle.fk_sim_block.specs.Owner.{Owner, Doing, number_of, core_source}
use Rattle.fk_sim_block.specs.Stands as law
use Rattle.fk_sim_block.specs.Stands.{Places}
use Rattle.fk_sim_block.specs.Next.{step_at}
use Rattle.fk_sim_block.specs.Block.{IsRunning}
use Rattle.fk_sim_block.proofs.Standing.{next_here}
use Rattle.fk_sim_block.specs.Node.{Nestings, StandsInNode, IsAtRest}
use Rattle.fk_sim_block.specs.Lockstep.{is_due, stepped, highest_value, AreMembers, ComesByWay, AllComeByWay}
use Rattle.fk_sim_block.specs.Start.{size_of_start, runs_behind_start}
use Rattle.fk_sim_block.specs.Law.{Cycles, GroupLaw}
use Rattle.fk_sim_match.specs.Nodes.{first_of, is_arrival, is_lockstep, body_at, meeters_at, plan_of, united}
use Rattle.fk_sim_match.specs.Behind.{runs_of, HaveBegun, blocks_of, moves_apart}
use Rattle.fk_sim_match.specs.Rounds.{IsDueAt, AllDue}
use Rattle.fk_sim_match.proofs.Nodes.{tells, open_at}
use Rattle.fk_sim_match.proofs.Rounds.{not_none, leaf_place, lockstep_kind}
use Rattle.fk_lockstep_nodes.specs.Steps.{only}
use Rattle.fk_sim_rounds.specs.Next.{JumpsLead, landed, all_landed, HasRange, IsHome, HasNext, HaveNext}
use Rattle.fk_sim_rounds.specs.Comes.{most_between, IsSoon, AllHave, AllBelow, IsNode, ComesTo}
use Rattle.fk_sim_rounds.specs.After.{actings, runners_of, tree_after, owner_after, owners_after, halts, is_halt, DoesStep, StepsAt, ArePlaces, AllGoOn, GroupsGoOn, AllSoon}
use Rattle.fk_sim_rounds.specs.Rounds.{IsTree, AreBoundAgain}
use Rattle.fk_sim_rounds.specs.Start.{IsBeforeStart, RoundsStart}
use Rattle.fk_sim_rounds.proofs.Cycles.{runs_later}
use Rattle.fk_sim_rounds.proofs.Lists.{of_map, map_map}
use Rattle.fk_sim_rounds.proofs.Begun as tree_behind
use Rattle.fk_sim_rounds.proofs.Agreed.{agreed_at}
use Rattle.fk_sim_rounds.proofs.Comes.{comes, groups_come_to_commits}
use Rattle.fk_sim_rounds.proofs.Same.{same_node, own_there, opened_before, member_still, size_still}
use Rattle.fk_sim_rounds.proofs.Groups.{many_length}
use Rattle.fk_sim_rounds.proofs.Trees.{many_become, many_landed, some_there}
use Rattle.fk_sim_rounds.proofs.Moved.{kind_there, many_moved}
use Rattle.fk_sim_rounds.proofs.Steps.{step_is_brought}
use Rattle.fk_sim_rounds.proofs.Close.{AllDo, all_do}
use Rattle.fk_sim_rounds.proofs.Acted.{Both, Acted, acted}
use Rattle.fk_sim_rounds.proofs.Counts.{count_is, phases_count, all_new, all_fine}

-- ---- lists

-- all stand in one node
pub of_all : {A B : Type 0} (old : Tree) (number : ℕ) (ns : List ℕ) (hs : List B) (xs : List A) → ((h : ℕ) → number ≤ h → h < number + length ns → old.places h ≡ 0) → ArePlaces old number ns → AreAsMany ns hs xs
    → of_node 0 ns xs ≡ xs
of_all old number [] [] [] root here many = refl
of_all old number (n ∷ ns) (h ∷ hs) (x ∷ xs) root here many =
    ap (λ b. add b x (of_node 0 ns xs)) (eq-eqb n 0 (here.0 ∙ root number (omega arith) (omega arith)))
    ∙ ap (λ l. x ∷ l) (of_all old (suc number) ns hs xs (λ k le lt. root k (omega (arith, le)) (omega (arith, lt))) here.1 many)
of_all old number ns hs xs root here many = absurd (assumption many)

pub many_numbered : {A : Type 0} (number : ℕ) (ns : List ℕ) (hs : List Hart) (xs : List A) → AreAsMany ns hs xs → AreAsMany ns hs (numbered number hs)
many_numbered number [] [] [] many = tt
many_numbered number (n ∷ ns) (h ∷ hs) (x ∷ xs) many = many_numbered (suc number) ns hs xs many
many_numbered number ns hs xs many = absurd (assumption many)

-- those below a count are as many
taken_all : (f : ℕ → Bool) (p : ℕ) (more : List ℕ) → ((h : ℕ) → h < p → f h ≡ true) → filter f (below p more) ≡ below p (filter f more)
taken_all f zero more all = refl
taken_all f (suc p) more all =
    taken_all f p (p ∷ more) (λ h lt. all h (omega (arith, lt))) ∙ ap (below p) (let e = all p (omega arith) in let is : filter f (p ∷ more) ≡ p ∷ filter f more = rw e refl in is)

taken_some : (f : ℕ → Bool) (count k : ℕ) (more : List ℕ) → filter f more ≡ [] → ((h : ℕ) → h < count → f h ≡ true) → ((h : ℕ) → count ≤ h → f h ≡ false)
    → filter f (below (k + count) more) ≡ below count []
taken_some f count zero more none low high =
    let e : zero + count ≡ count = omega arith in ap (λ p. filter f (below p more)) e ∙ taken_all f count more low ∙ ap (below count) none
taken_some f count (suc k) more none low high =
    let e : suc k + count ≡ suc (k + count) = omega arith in
    ap (λ p. filter f (below p more)) e
    ∙ taken_some f count k ((k + count) ∷ more) (let no = high (k + count) (omega arith) in let is : filter f ((k + count) ∷ more) ≡ filter f more = rw no refl in is ∙ none) low high

pub as_many_taken : (f : ℕ → Bool) (count p : ℕ) → count ≤ p → ((h : ℕ) → h < count → f h ≡ true) → ((h : ℕ) → count ≤ h → f h ≡ false) → length (filter f (below p [])) ≡ count
as_many_taken f count p le low high =
    let e : p - count + count ≡ p = omega (arith, le) in
    ap (λ q. length (filter f (below q []))) (sym e) ∙ ap (λ l. length l) (taken_some f count (p - count) [] refl low high) ∙ length-below count [] ∙ omega arith

committed_add : (b : Bool) (a : Option Stage) (afters : List (Option Stage)) → a ≡ None → AllHaveCommitted afters → AllHaveCommitted (add b a afters)
committed_add true a afters e all = (e, all)
committed_add false a afters e all = all

pub node_committed : (g : ℕ) (ns : List ℕ) (afters : List (Option Stage)) → AllHaveCommitted afters → AllHaveCommitted (of_node g ns afters)
node_committed g [] afters all = tt
node_committed g (n ∷ ns) [] all = tt
node_committed g (n ∷ ns) (a ∷ afters) all = committed_add (n == g) a (of_node g ns afters) all.0 (node_committed g ns afters all.1)

does_taken : (p : Processor) (value size size' : ℕ) → (is_taken value p ≡ true → size ≡ size') → does Begin value size p ≡ does Begin value size' p
does_taken p value size size' same = by (is_taken value p) refl
  where
    by : (b : Bool) → is_taken value p ≡ b → does Begin value size p ≡ does Begin value size' p
    by true e = ap (λ s. does Begin value s p) (same e)
    by false e = rw e refl

-- where all stand in the root there is no group
pub no_groups : (p : ℕ) (old : Tree) → IsSound p old → ((h : ℕ) → h < p → old.places h ≡ 0) → (k : ℕ) → k ≢ 0 → trees.kind old k ≡ Some Lockstep → (ms : List ℕ) → trees.members old k ≡ ms → ⊥
no_groups p old sound root k ne kind [] empty = not_none (old.nodes k) (kind_there (old.nodes k) Lockstep kind) (sound.living k empty)
no_groups p old sound root k ne kind (m ∷ ms) are =
    let member : is_member m (trees.members old k) ≡ true = subst (λ l. is_member m l ≡ true) (sym are) (ap (λ b. b || is_member m ms) (eq-eqb m m refl)) in
    ne (sym (leaf_place p old sound k m kind member) ∙ root m (sound.within k m member))

not_begin : (operation : Operation) → moves_apart operation ≡ true → operation ≡ Begin → ⊥
not_begin operation moves e = let x = subst (λ o. moves_apart o ≡ true) e moves in false≢true x

module _ (core : List CoreOp) (image : Image) (places : Places) (nestings : Nestings) (cycles : Cycles) (firsts : List ℕ) (main : ℕ) (setting : Setting) (old : Tree) (spaces : ℕ → Space) (nodes nodes' : List ℕ)
    (t : MachineSetting) (stages : List Stage) (hs : List Hart) (ps : List Owner) (ds : List Doing) (own own' : ℕ → Memory) (control : Memory)
    (the_law : GroupLaw core image places nestings cycles firsts main) (leads : JumpsLead core) (before : IsBeforeStart image setting old spaces nodes t hs ps)
    (left : IsLeft (core_source core setting) image (united (plan_of old spaces nodes)) (blocks_of core image places nestings setting (united (plan_of old spaces nodes)) (first_of spaces)) t stages hs ps ds own own')
    (has : (g : ℕ) → Has ((plan_of old spaces nodes).words g) control (own' g)) (steps : StepsAt old 0 0 Begin ds) (count value : ℕ)
    (value_is : value ≡ agreed (actings ds) (trees.members old 0)) (count_is_min : count ≡ min (not_negative value) (length (trees.members old 0)))
    (rest : IsAtRest (first_of spaces old.given) control)
    (behind : IsTree setting (trees.begin count old) spaces) (there : ArePlaces (trees.begin count old) 0 nodes') (many' : length nodes' ≡ length nodes)
    (on : AllGoOn core nestings setting (trees.begin count old) spaces 0 left.afters ds (owners_after old (trees.begin count old) ds))
    (next : GroupsGoOn core nestings (trees.begin count old) nodes' left.afters (owners_after old (trees.begin count old) ds)) where
  abbrev new : Tree
  new = trees.begin count old

  abbrev plan : Plan
  plan = united (plan_of old spaces nodes)

  abbrev blocks : Blocks Owner Doing
  blocks = blocks_of core image places nestings setting (united (plan_of old spaces nodes)) (first_of spaces)

  abbrev plan' : Plan
  plan' = plan_of (trees.begin count old) spaces nodes'

  abbrev blocks' : Blocks Owner Doing
  blocks' = blocks_of core image places nestings setting (plan_of (trees.begin count old) spaces nodes') (first_of spaces)

  abbrev settle : Doing → Owner
  settle d = owner_after (actings ds) old (trees.begin count old) d

  abbrev becomes : Doing → Owner
  becomes d = landed core (owner_after (actings ds) old (trees.begin count old) d)

  abbrev u : MachineSetting
  u = later t

  running : IsRunning image setting (later t)
  running = runs_later image setting 1 t before.running

  -- ---- the tree

  abbrev group : ℕ
  group = old.given

  abbrev taken : List ℕ
  taken = tree_behind.taken setting.processors old before.sound count

  some_root : old.nodes 0 ≢ None
  some_root = tree_behind.some_root setting.processors old before.sound count

  positive : 0 < old.given
  positive = tree_behind.positive setting.processors old before.sound count

  group_node : (trees.begin count old).nodes old.given ≡ node_of taken 0 Lockstep
  group_node = tree_behind.group_node setting.processors old before.sound count

  other_node : (k : ℕ) → k ≢ 0 → k ≢ old.given → (trees.begin count old).nodes k ≡ old.nodes k
  other_node k ne ne' = tree_behind.other_node setting.processors old before.sound count k ne ne'

  kind_root : trees.kind (trees.begin count old) 0 ≡ Some (Waiting old.given 1)
  kind_root = tree_behind.kind_root setting.processors old before.sound count

  members_root : trees.members (trees.begin count old) 0 ≡ trees.members old 0
  members_root = tree_behind.members_root setting.processors old before.sound count

  there_root : is_some ((trees.begin count old).nodes 0) ≡ true
  there_root = kind_there ((trees.begin count old).nodes 0) (Waiting old.given 1) kind_root

  free_root : plan'.in_lockstep 0 ≡ false
  free_root = ap is_lockstep kind_root

  given_root : 0 < new.given
  given_root = some-given setting.processors new behind.sound 0 (not_none (new.nodes 0) there_root)

  all_members : (h : ℕ) → h < setting.processors → is_member h (trees.members old 0) ≡ true
  all_members h lt = tree_behind.all_members setting.processors old before.sound count before.in_root h lt

  goes_in : (h : ℕ) → h < setting.processors → nat_lt h count ≡ true → (trees.begin count old).places h ≡ old.given
  goes_in h lt is = tree_behind.goes_in setting.processors old before.sound count before.in_root h lt is

  goes_back : (h : ℕ) → h < setting.processors → nat_lt h count ≡ false → (trees.begin count old).places h ≡ 0
  goes_back h lt is = tree_behind.goes_back setting.processors old before.sound count before.in_root h lt is

  -- who is there has been taken
  is_taken_there : (h : ℕ) → h < setting.processors → (trees.begin count old).places h ≡ old.given → nat_lt h count ≡ true
  is_taken_there h lt at = ⊎_elim (λ is. is) (λ off. absurd (let e = sym (goes_back h lt off) ∙ at in let pos = positive in omega (arith, e, pos))) (cases_Bool (nat_lt h count))

  there_is : (h : ℕ) → h < setting.processors → is_some ((trees.begin count old).nodes ((trees.begin count old).places h)) ≡ true
  there_is h lt = some_there (new.nodes (new.places h)) (has_some new (new.places h) h (behind.sound.placed h lt).member)

  node_at : (h : ℕ) → h < setting.processors → IsNode (trees.begin count old) spaces ((trees.begin count old).places h)
  node_at h lt = record {
    spaced = behind.spaced;
    there = there_is h lt;
    given = some-given setting.processors new behind.sound (new.places h) (not_none (new.nodes (new.places h)) (there_is h lt));
  }

  -- a node of the group is one in lockstep
  group_locks : is_some ((trees.begin count old).nodes old.given) ≡ true → plan'.in_lockstep old.given ≡ true
  group_locks is =
      ap (λ x. is_lockstep (kind_of x)) group_node
      ∙ ap is_lockstep (kind-node_of taken 0 Lockstep (not_none (node_of taken 0 Lockstep) (sym (ap (λ x. is_some x) group_node) ∙ is)))

  -- no other group is there
  only_group : (k : ℕ) → plan'.in_lockstep k ≡ true → k ≡ old.given
  only_group k lock =
      ⊎_elim (λ e. e)
      (λ ne.
      ⊎_elim (λ root. absurd (false≢true (sym (ap (λ j. plan'.in_lockstep j) root ∙ free_root) ∙ lock)))
      (λ ne0.
      let was = ap kind_of (sym (other_node k ne0 ne)) ∙ lockstep_kind (trees.kind new k) lock in
      absurd (no_groups setting.processors old before.sound before.in_root k ne0 was (trees.members old k) refl))
      (cases_eq k 0))
      (cases_eq k old.given)

  -- ---- what their commit has left

  in_root : (h : ℕ) → 0 ≤ h → h < 0 + length nodes → old.places h ≡ 0
  in_root h le lt = let many = before.many in before.in_root h (omega (arith, lt, many))

  all_harts : of_node 0 nodes (numbered 0 hs) ≡ numbered 0 hs
  all_harts = of_all old 0 nodes hs (numbered 0 hs) in_root before.stand (many_numbered 0 nodes hs ps before.as_many)

  all_doings : of_node 0 nodes ds ≡ ds
  all_doings = of_all old 0 nodes hs ds in_root before.stand left.done_as_many

  all_afters : of_node 0 nodes left.afters ≡ left.afters
  all_afters = of_all old 0 nodes hs left.afters in_root before.stand left.as_many

  lengths : (length nodes ≡ length hs) × (length nodes ≡ length ds)
  lengths = many_length nodes hs ds left.done_as_many

  some_doings : length (of_node 0 nodes ds) ≡ 0 → ⊥
  some_doings none =
      let many = before.many in
      let long = lengths.1 in
      let some = before.sound.some in
      let are = sym (ap (λ l. length l) all_doings) ∙ none in
      omega (arith, many, long, some, are)

  all_step : AllDo Begin (of_node 0 nodes ds)
  all_step = all_do old (only 0 Begin) 0 0 Begin nodes ds refl before.stand steps

  has_acted : Acted core image places nestings setting plan (first_of spaces) (later t) 0 (of_node 0 nodes left.afters) (of_node 0 nodes (numbered 0 hs)) (of_node 0 nodes ps) (of_node 0 nodes ds) (own' 0) Begin all_step some_doings refl
  has_acted =
      acted core image places nestings setting plan (first_of spaces) (later t) 0 (of_node 0 nodes left.afters) (of_node 0 nodes (numbered 0 hs)) (of_node 0 nodes ps) (of_node 0 nodes ds) (own' 0) Begin
      all_step some_doings refl (left.nodes 0)

  begun : HaveBegun core image places nestings setting (later t) ds (numbered 0 hs) (own' 0)
  begun =
      ⊎_elim (λ moved. absurd (not_begin moved.0.operation moved.0.moves moved.1))
      (λ x.
      subst (λ l. HaveBegun core image places nestings setting (later t) l (numbered 0 hs) (own' 0)) all_doings
      (subst (λ l. HaveBegun core image places nestings setting (later t) (of_node 0 nodes ds) l (own' 0)) all_harts x.0))
      has_acted.how

  committed : AllHaveCommitted left.afters
  committed = subst AllHaveCommitted all_afters has_acted.committed

  abbrev fact : HaveBegun core image places nestings setting (later t) ds (numbered 0 hs) (own' 0)
  fact = begun

  highest_is : highest_value fact.ps ≡ value
  highest_is =
      let many = before.many in
      let long = lengths.1 in
      let stand : (m : ℕ) → is_member m (trees.members old 0) ≡ true → old.places m ≡ 0 = λ m is. before.in_root m (before.sound.within 0 m is) in
      sym
      (value_is
      ∙ agreed_at setting.processors old before.sound nodes before.stand before.many 0 ds (λ empty. some_root (before.sound.living 0 empty)) stand (omega (arith, many, long))
      ∙ ap (λ l. last_or 0 (map (λ d. last (values d.acting.runner.has)) l)) (all_doings ∙ fact.due)
      ∙ ap (last_or 0) (map_map (is_due core fact.i fact.op Begin) (λ d. last (values d.acting.runner.has)) fact.ps))

  -- ---- each hart

  size_root : length (trees.members old 0) ≡ setting.processors
  size_root = length-root setting.processors old before.sound

  count_min : count ≡ size_of_start setting value
  count_min = count_is_min ∙ ap (λ n. min (not_negative value) n) size_root

  taken_by_number : (h : ℕ) → h < setting.processors → nat_lt h (not_negative value) ≡ nat_lt h count
  taken_by_number h lt = tree_behind.taken_below setting.processors old before.sound count (not_negative value) count_min h lt

  group_size : length (trees.members (trees.begin count old) old.given) ≡ count
  group_size =
      let le : count ≤ setting.processors = subst (λ n. n ≤ setting.processors) (sym count_min) (min-le_right (not_negative value) setting.processors) in
      let same : old.given - old.given ≡ 0 = omega arith in
      ap (λ x. length (members_of x)) group_node ∙ ap (λ l. length l) (members-node_of taken 0 Lockstep)
      ∙ ap (λ l. length (filter (λ h. is_in (old.given - old.given) (first_part count h)) l)) before.sound.root
      ∙ as_many_taken (λ h. is_in (old.given - old.given) (first_part count h)) count setting.processors le
      (λ h lt. ap (λ b. is_in (old.given - old.given) (if b then Some 0 else None)) (lt-ltb h count lt) ∙ eq-eqb (old.given - old.given) 0 same)
      (λ h ge. ap (λ b. is_in (old.given - old.given) (if b then Some 0 else None)) (le-ltb h count ge))

  -- what the step makes of one is what it has become
  settles : (p : Owner) (number : ℕ) → number_of p ≡ number → number < setting.processors
      → settle (is_due core fact.i fact.op Begin p) ≡ stepped core fact.i fact.op Begin value 0 (size_of_start setting value) p
  settles p number e lt =
      let h = number_of p in
      let below_p : number_of p < setting.processors = subst (λ k. k < setting.processors) (sym e) lt in
      let size = length (trees.members new (new.places (number_of p))) in
      ap
      (λ k.
      let q : Owner = record {
        runner = record {
          left = follows core Begin fact.i fact.op.target p.runner.left.callers (goes_onward Begin (agreed (actings ds) (trees.members old k)) (lowest (trees.members old k)) p.runner.has);
          has = does Begin (agreed (actings ds) (trees.members old k)) size p.runner.has;
        };
        heap = p.heap;
      } in q) (before.in_root (number_of p) below_p)
      ∙ ap
      (λ v.
      let q : Owner = record {
        runner = record { left = follows core Begin fact.i fact.op.target p.runner.left.callers (is_taken v p.runner.has); has = does Begin v size p.runner.has };
        heap = p.heap;
      } in q) (sym value_is)
      ∙ ap
      (λ has.
      let q : Owner = record { runner = record { left = follows core Begin fact.i fact.op.target p.runner.left.callers (is_taken value p.runner.has); has = has }; heap = p.heap } in q)
      (does_taken p.runner.has value size (size_of_start setting value)
      (λ is.
      ap (λ k. length (trees.members new k)) (goes_in (number_of p) below_p (sym (taken_by_number (number_of p) below_p) ∙ is)) ∙ group_size ∙ count_min))

  -- private instructions lead it to its part
  record Comes (m : Member) (d : Doing) : Type 0 where
    hart : Hart
    private : RunsPrivately image (later t) m.number (fact.behind (nat_lt m.number count)) m.hart hart
    at : law.StandsAt places (settle d) hart
    node : StandsInNode places nestings setting (runs_behind_start setting (nat_lt m.number count)) (settle d) hart
    does_begin : DoesStep Begin d.acting.due

  abbrev ByWay : Member → Owner → Type 0
  ByWay m p =
      ComesByWay core image places nestings fact.i fact.op Begin setting (later t) fact.behind (λ q. runs_behind_start setting (is_taken value q.runner.has)) value 0
      (λ q. size_of_start setting value) m p

  abbrev AllByWay : ℕ → List Member → List Owner → Type 0
  AllByWay v ms qs =
      AllComeByWay core image places nestings fact.i fact.op Begin setting (later t) fact.behind (λ q. runs_behind_start setting (is_taken v q.runner.has)) v 0
      (λ q. size_of_start setting v) ms qs

  comes_one : (m : Member) (p : Owner) → number_of p ≡ m.number → m.number < setting.processors
      → ByWay m p → Comes m (is_due core fact.i fact.op Begin p)
  comes_one m p e lt come =
      let way : is_taken value p.runner.has ≡ nat_lt m.number count = ap (λ n. nat_lt n (not_negative value)) e ∙ taken_by_number m.number lt in
      let same = sym (settles p m.number e lt) in
      record {
        hart = come.hart;
        private = subst (λ b. RunsPrivately image (later t) m.number (fact.behind b) m.hart come.hart) way come.runs;
        at = subst (λ q. law.StandsAt places q come.hart) same come.member.at;
        node = subst (λ b. StandsInNode places nestings setting (runs_behind_start setting b) (settle (is_due core fact.i fact.op Begin p)) come.hart) way
            (subst (λ q. StandsInNode places nestings setting (runs_behind_start setting (is_taken value p.runner.has)) q come.hart) same come.member.node);
        does_begin = refl;
      }

  all_come : (number : ℕ) (gs : List Hart) (qs : List Owner) (xs : List Doing) → number + length gs ≡ setting.processors → xs ≡ map (is_due core fact.i fact.op Begin) qs → StepsAt old 0 number Begin xs
      → AllByWay value (numbered number gs) qs → Both Comes (numbered number gs) (map (is_due core fact.i fact.op Begin) qs)
  all_come number [] [] xs many e steps' come = tt
  all_come number (h ∷ gs) (q ∷ qs) (x ∷ xs) many e steps' come =
      let first : x ≡ is_due core fact.i fact.op Begin q = cc in
      let others : xs ≡ map (is_due core fact.i fact.op Begin) qs = cc in
      let number_is : number_of q ≡ number = sym (ap (λ y. y.acting.runner.has.number) first) ∙ steps'.0 in
      (comes_one (record { number = number; hart = h }) q number_is (omega (arith, many)) come.0, all_come (suc number) gs qs xs (omega (arith, many)) others steps'.2 come.1)
  all_come number (h ∷ gs) (q ∷ qs) [] many e steps' come = absurd (cc)
  all_come number gs qs xs many e steps' come = absurd (assumption come)

  all_hart_come : Both Comes (numbered 0 hs) ds
  all_hart_come =
      let many = before.many in
      let long = lengths.0 in
      subst (Both Comes (numbered 0 hs)) (sym fact.due)
      (all_come 0 hs fact.ps ds (omega (arith, many, long)) fact.due steps
      (subst (λ v. AllByWay v (numbered 0 hs) fact.ps) highest_is fact.parts))

  no_halt : (due : Option (Step Position)) → DoesStep Begin due → halts due ≡ false
  no_halt None does' = absurd does'
  no_halt (Some step) does' = ap is_halt does'

  -- ---- the group

  record GroupRuns (ns' : List ℕ) (ms : List Member) (xs : List Doing) : Type 0 where
    harts : List Hart
    runs : AllRunPrivately image (later t) (fact.behind true) ms harts
    members : AreMembers places nestings setting (λ p. None) (first_of spaces old.given) (with_harts ms harts) (map settle xs)
    below_all : AllBelow setting.processors (map settle xs)
    ranges : AllHave (spaces old.given) (map settle xs)

  one_more : (b : Bool) (m : Member) (ms : List Member) (d : Doing) (xs : List Doing) (ns' : List ℕ) → (b ≡ true → ((trees.begin count old).places m.number ≡ old.given) × (m.number < setting.processors))
      → IsHome (trees.begin count old) spaces m.number (settle d) → Comes m d → GroupRuns ns' ms xs → GroupRuns ns' (add b m ms) (add b d xs)
  one_more false m ms d xs ns' at home come more = more
  one_more true m ms d xs ns' at home come more =
      let here = at refl in
      let is = is_taken_there m.number here.1 here.0 in
      record {
        harts = come.hart ∷ more.harts;
        runs = (subst (λ b. RunsPrivately image (later t) m.number (fact.behind b) m.hart come.hart) is come.private, more.runs);
        members = (
          record {
            number = sym home.number_is;
            at = come.at;
            node = subst (λ b. StandsInNode places nestings setting (runs_behind_start setting b) (settle d) come.hart) is come.node;
            words = home.words ∙ ap (first_of spaces) here.0;
          },
          more.members,
        );
        below_all = (subst (λ k. k < setting.processors) (sym home.number_is) here.1, more.below_all);
        ranges = (
          subst (λ k. HasRange (spaces k) (settle d).runner.has.level.space) here.0 (home.range (λ e. let at = here.0 in let pos = positive in omega (arith, e, at, pos))),
          more.ranges,
        );
      }

  group_runs : (number : ℕ) (gs : List Hart) (ns' : List ℕ) (afters : List (Option Stage)) (xs : List Doing) → number + length gs ≡ setting.processors → ArePlaces (trees.begin count old) number ns' → AreAsMany ns' gs afters → AreAsMany ns' gs xs
      → AllGoOn core nestings setting (trees.begin count old) spaces number afters xs (map settle xs) → Both Comes (numbered number gs) xs
      → GroupRuns ns' (of_node old.given ns' (numbered number gs)) (of_node old.given ns' xs)
  group_runs number [] [] [] [] many here as_a as_d on' come = record { harts = []; runs = tt; members = tt; below_all = tt; ranges = tt }
  group_runs number (h ∷ gs) (n' ∷ ns') (a ∷ afters) (d ∷ xs) many here as_a as_d on' come =
      let more = group_runs (suc number) gs ns' afters xs (omega (arith, many)) here.1 as_a as_d on'.2 come.1 in
      one_more (n' == old.given) (record { number = number; hart = h }) (of_node old.given ns' (numbered (suc number) gs)) d (of_node old.given ns' xs) (n' ∷ ns')
      (λ e. (sym here.0 ∙ eqb-true n' old.given e, omega (arith, many))) on'.0 come.0
      (record { harts = more.harts; runs = more.runs; members = more.members; below_all = more.below_all; ranges = more.ranges })
  group_runs number gs ns' afters xs many here as_a as_d on' come = absurd (assumption (as_a, as_d))

  abbrev all_become : List Doing → List Owner
  all_become xs = all_landed core (map settle xs)

  -- its distance from the next commit, where it is there
  record Near : Type 0 where
    distance : ℕ
    soon : distance ≤ most_between
    at : plan'.in_lockstep old.given ≡ true → Together (core_source core setting) image (plan'.words old.given) (later t) 1 distance (of_node old.given nodes' (numbered 0 hs)) (of_node old.given nodes' (all_become ds)) control
        (blocks'.AfterAll (later (in_cycles distance (later t))) old.given)

  new_afters : AreAsMany nodes' hs left.afters
  new_afters = many_moved nodes nodes' hs left.afters many' left.as_many

  as_many_new : AreAsMany nodes' hs ds
  as_many_new = many_moved nodes nodes' hs ds many' left.done_as_many

  near_by : ((plan'.in_lockstep old.given ≡ true) ⊎ (plan'.in_lockstep old.given ≡ false)) → Near
  near_by (inr off) = record { distance = 0; soon = omega arith; at = λ lock. absurd (false≢true (sym off ∙ lock)) }
  near_by (inl lock) =
      let many = before.many in
      let long = lengths.0 in
      let runs = group_runs 0 hs nodes' left.afters ds (omega (arith, many, long)) there new_afters as_many_new on all_hart_come in
      let is = kind_there (new.nodes old.given) Lockstep (lockstep_kind (trees.kind new old.given) lock) in
      let node : IsNode new spaces old.given = record { spaced = behind.spaced; there = is; given = some-given setting.processors new behind.sound old.given (not_none (new.nodes old.given) is) } in
      let are = of_map settle old.given nodes' ds in
      let ms = of_node old.given nodes' (numbered 0 hs) in
      let come = groups_come_to_commits core image places nestings cycles firsts main setting new spaces nodes' (later t) (fact.behind true) old.given ms (map settle (of_node old.given nodes' ds)) control
      the_law leads node (record { kind = lockstep_kind (trees.kind new old.given) lock; space = runs.ranges }) running runs.below_all (fact.few true)
      (private_run image (plan'.words old.given) (later t) (fact.behind true) ms runs.harts control
      (λ ms' own''. IsAtRest (first_of spaces old.given) own'' × AreMembers places nestings setting (λ p. None) (first_of spaces old.given) ms' (map settle (of_node old.given nodes' ds)))
      runs.runs (rest, runs.members))
      (subst (HaveNext core nestings) are (next old.given lock (node_committed old.given nodes' left.afters committed))) in
      record {
        distance = come.distance;
        soon = come.soon;
        at = λ lock'.
            subst
            (λ l.
            Together (core_source core setting) image (plan'.words old.given) (later t) 1 come.distance ms l control (blocks'.AfterAll (later (in_cycles come.distance (later t))) old.given))
            (sym (of_map (landed core) old.given nodes' (map settle ds) ∙ ap (all_landed core) are)) come.together;
      }

  near : Near
  near = near_by (cases_Bool (plan'.in_lockstep old.given))

  -- ---- all harts

  record One (m : Member) (d : Doing) : Type 0 where
    stage : Stage
    fresh : IsFresh (later t) stage
    stands : plan'.in_lockstep ((trees.begin count old).places m.number) ≡ false
        → StandsAt (core_source core setting) image plan' blocks' (later t) ((trees.begin count old).places m.number) stage m (becomes d)
    due : IsDueAt core (trees.begin count old) spaces ((trees.begin count old).places m.number) stage (becomes d).runner
    soon : IsSoon stage
    alike : plan'.in_lockstep ((trees.begin count old).places m.number) ≡ true → stage ≡ Acts near.distance 0

  -- one who waits in the root runs its body with all others
  runs_root : (h : ℕ) → h < setting.processors → runs_of plan' (first_of spaces 0) h ≡ Some setting.processors
  runs_root h lt =
      let tell = tells new spaces behind.spaced nodes' 0 0 there_root given_root (omega arith) in
      let body : meeters_at new 0 0 ≡ trees.members old 0 = ap (λ k. body_at k 0 (trees.members new 0)) kind_root ∙ members_root in
      let w = first_of spaces 0 + 0 in
      ap (λ b. if b then Some (plan'.size w) else None) (tell.member h ∙ ap (λ l. is_member h l) body ∙ all_members h lt)
      ∙ ap (λ n. Some n) (tell.size ∙ ap (λ l. length l) body ∙ size_root)

  one : (m : Member) (d : Doing) → m.number < setting.processors → IsHome (trees.begin count old) spaces m.number (settle d) → HasNext core nestings setting (trees.begin count old) m.number (becomes d) → Comes m d → One m d
  one m d lt home has_next come =
      ⊎_elim
      (λ is.
      let place = goes_in m.number lt is in
      let lock = ap (λ k. plan'.in_lockstep k) place ∙ group_locks (subst (λ k. is_some (new.nodes k) ≡ true) place (there_is m.number lt)) in
      let q = becomes d in
      record {
        stage = Acts near.distance 0;
        fresh = tt;
        stands = λ off. absurd (false≢true (sym off ∙ lock));
        due = record {
          single = refl;
          step = step_at core q.runner.left.at has_next.op has_next.operation q.runner.left.callers;
          next_is = next_here core q.runner.left.at has_next.op has_next.operation q.runner.left.callers has_next.stands;
          joint = λ off. absurd (false≢true (sym off ∙ lock));
        };
        soon = near.soon;
        alike = λ lock'. refl;
      })
      (λ off.
      let place = goes_back m.number lt off in
      let free = ap (λ k. plan'.in_lockstep k) place ∙ free_root in
      let c : ComesTo core image places nestings setting new spaces nodes' (later t) (new.places m.number) m (becomes d)
      = comes core image places nestings cycles firsts main setting new spaces nodes' the_law leads (later t) (fact.behind (nat_lt m.number count)) m come.hart (settle d) (node_at m.number lt) free running
      lt (fact.few (nat_lt m.number count)) come.private come.at
      (subst (λ k. StandsInNode places nestings setting (runs_of plan' (first_of spaces k) m.number) (settle d) come.hart) (sym place)
      (subst (λ r. StandsInNode places nestings setting r (settle d) come.hart) (sym (runs_root m.number lt))
      (subst (λ b. StandsInNode places nestings setting (runs_behind_start setting b) (settle d) come.hart) off come.node)))
      home has_next in
      record {
        stage = c.stage;
        fresh = c.fresh;
        stands = λ free'. c.stands;
        due = c.due;
        soon = c.soon;
        alike = λ lock. absurd (false≢true (sym free ∙ lock));
      })
      (cases_Bool (nat_lt m.number count))

  record Starts (number : ℕ) (ns ns' : List ℕ) (afters : List (Option Stage)) (gs : List Hart) (qs : List Owner) (xs : List Doing) : Type 0 where
    stages' : List Stage
    many : AreAsMany ns' gs stages'
    changes : AllChange (core_source core setting) image plan blocks plan' blocks' (later t) (numbered number gs) ns ns' afters stages' qs (all_become xs)
    due : AllDue core (trees.begin count old) spaces number stages' (runners_of (all_become xs))
    soon : AllSoon afters stages'
    alike : plan'.in_lockstep old.given ≡ true
        → AllAct (core_source core setting) image plan' blocks' near.distance 0 (of_node old.given ns' stages') (of_node old.given ns' (numbered number gs)) (of_node old.given ns' (all_become xs))

  act_first : (b : Bool) (s : Stage) (ss : List Stage) (m : Member) (ms : List Member) (p : Owner) (qs : List Owner) → (b ≡ true → s ≡ Acts near.distance 0)
      → AllAct (core_source core setting) image plan' blocks' near.distance 0 ss ms qs → AllAct (core_source core setting) image plan' blocks' near.distance 0 (add b s ss) (add b m ms) (add b p qs)
  act_first true s ss m ms p qs is all = (is refl, all)
  act_first false s ss m ms p qs is all = all

  start_all : (number : ℕ) (gs : List Hart) (ns ns' : List ℕ) (afters : List (Option Stage)) (qs : List Owner) (xs : List Doing) → number + length gs ≡ setting.processors → AreAsMany ns gs qs → AreAsMany ns gs xs
      → AreAsMany ns' gs xs → AreAsMany ns' gs afters → ArePlaces (trees.begin count old) number ns' → AllHaveCommitted afters → AllGoOn core nestings setting (trees.begin count old) spaces number afters xs (map settle xs) → Both Comes (numbered number gs) xs
      → Starts number ns ns' afters gs qs xs
  start_all number [] [] [] [] [] [] many as_p as_d as_n as_a here gone on' come = record { stages' = []; many = tt; changes = tt; due = tt; soon = tt; alike = λ lock. tt }
  start_all number (h ∷ gs) (n ∷ ns) (n' ∷ ns') (None ∷ afters) (q ∷ qs) (d ∷ xs) many as_p as_d as_n as_a here gone on' come =
      let m : Member = record { number = number; hart = h } in
      let x = one m d (omega (arith, many)) on'.0 (on'.1 refl (no_halt d.acting.due come.0.does_begin)) come.0 in
      let more = start_all (suc number) gs ns ns' afters qs xs (omega (arith, many)) as_p as_d as_n as_a here.1 gone.1 on'.2 come.1 in
      record {
        stages' = x.stage ∷ more.stages';
        many = more.many;
        changes = (
          (
            x.fresh,
            λ free.
                subst (λ k. StandsAt (core_source core setting) image plan' blocks' (later t) k x.stage m (becomes d)) (sym here.0)
                (x.stands (ap (λ k. plan'.in_lockstep k) (sym here.0) ∙ free)),
          ),
          more.changes,
        );
        due = (on'.0.number_is, x.due, more.due);
        soon = (λ e. x.soon, more.soon);
        alike = λ lock.
            act_first (n' == old.given) x.stage (of_node old.given ns' more.stages') m (of_node old.given ns' (numbered (suc number) gs)) (becomes d) (of_node old.given ns' (all_become xs))
            (λ e. x.alike (ap (λ k. plan'.in_lockstep k) (sym here.0 ∙ eqb-true n' old.given e) ∙ lock)) (more.alike lock);
      }
  start_all number (h ∷ gs) (n ∷ ns) (n' ∷ ns') (Some a ∷ afters) (q ∷ qs) (d ∷ xs) many as_p as_d as_n as_a here gone on' come = absurd (let e = gone.0 in cc)
  start_all number gs ns ns' afters qs xs many as_p as_d as_n as_a here gone on' come = absurd (assumption (as_p, as_d, as_n, as_a))

  everybody : Starts 0 nodes nodes' left.afters hs ps ds
  everybody =
      let many = before.many in
      let long = lengths.0 in
      start_all 0 hs nodes nodes' left.afters ps ds (omega (arith, many, long)) before.as_many left.done_as_many as_many_new new_afters there committed on all_hart_come

  -- ---- words by which members meet

  abbrev Opens : ℕ → Type 0
  Opens w = MeetingOpens (core_source core setting) image plan blocks plan' blocks' 0 w left.afters everybody.stages' control

  root_committed : AllHaveCommitted (of_node 0 nodes' left.afters)
  root_committed = node_committed 0 nodes' left.afters committed

  nobody_there : (offset : ℕ) → offset < 8 → is_arrival offset ≡ true → control (first_of spaces 0 + offset) ≡ 0
  nobody_there offset lt arrival =
      let was = tells old spaces before.spaced nodes 0 offset (some_there (old.nodes 0) some_root) positive lt in has 0 (first_of spaces 0 + offset) was.own ∙ empty offset arrival
    where
      empty : (offset : ℕ) → is_arrival offset ≡ true → own' 0 (first_of spaces 0 + offset) ≡ 0
      empty zero arrival = fact.rest.barrier
      empty (suc zero) arrival = fact.rest.closing
      empty (suc (suc o)) arrival = absurd (false≢true arrival)

  meeters_are : (offset : ℕ) → is_arrival offset ≡ true → meeters_at (trees.begin count old) 0 offset ≡ trees.members old 0
  meeters_are zero arrival = ap (λ k. body_at k 0 (trees.members new 0)) kind_root ∙ members_root
  meeters_are (suc zero) arrival = members_root
  meeters_are (suc (suc o)) arrival = absurd (false≢true arrival)

  opens_at : (offset : ℕ) → offset < 8 → is_arrival offset ≡ true → Opens (first_of spaces 0 + offset)
  opens_at offset lt arrival =
      let w = first_of spaces 0 + offset in
      let tell = tells new spaces behind.spaced nodes' 0 offset there_root given_root lt in
      let many = before.many in
      let is = meeters_are offset arrival in
      let same = many' in
      record {
        empty = nobody_there offset lt arrival;
        size =
            phases_count plan' 0 w 0 nodes' everybody.stages' (meeters_at new 0 offset) tell.member
            (all_fine (core_source core setting) image plan blocks plan' blocks' (later t) 0 0 hs nodes nodes' left.afters everybody.stages' ps (all_become ds) free_root root_committed everybody.changes)
            ∙ count_is 0 nodes' (meeters_at new 0 offset) (ap is_ascending is ∙ before.sound.ascending 0)
            (λ h member. let below_p = before.sound.within 0 h (subst (λ l. is_member h l ≡ true) is member) in (omega arith, omega (arith, below_p, many, same)))
            ∙ sym tell.size;
        new = all_new 0 nodes' hs left.afters new_afters root_committed;
      }

  opens : (w : ℕ) → IsOpen plan' 0 w → Opens w
  opens w is_open =
      let x = open_at new spaces behind.spaced nodes' 0 w given_root is_open in
      subst Opens x.word (opens_at x.offset x.few x.arrival)

  -- a node in which nobody stands is as it was
  abbrev Meetings : ℕ → ℕ → Type 0
  Meetings g w =
      MeetingStays (core_source core setting) image plan blocks plan' blocks' g w ⊎ MeetingOpens (core_source core setting) image plan blocks plan' blocks' g w left.afters everybody.stages' control

  meeting_stays : (g w : ℕ) → g ≢ 0 → plan'.in_lockstep g ≡ false → IsOpen plan' g w → Meetings g w
  meeting_stays g w ne free is_open =
      let here = own_there new spaces g w is_open.0 in
      let ne' : g ≢ old.given = λ e. false≢true (sym free ∙ ap (λ k. plan'.in_lockstep k) e ∙ group_locks (subst (λ k. is_some (new.nodes k) ≡ true) e here)) in
      let node = other_node g ne ne' in
      let was = sym (ap (λ x. is_some x) node) ∙ here in
      let same = same_node old new spaces g before.spaced behind.spaced was (some-given setting.processors old before.sound g (not_none (old.nodes g) was))
      (some-given setting.processors new behind.sound g (not_none (new.nodes g) here)) node in
      let opened = opened_before old new spaces nodes nodes' g same.words w is_open in
      inl (record {
        alone = ap (λ b. b || is_lockstep (trees.kind old g)) (ne_eqb g 0 ne) ∙ ap is_lockstep (sym same.kind) ∙ free;
        was = opened;
        size = sym (size_still old new spaces nodes nodes' g same.words w is_open);
        same = λ number. member_still old new spaces nodes nodes' g same.words w number opened;
      })

  -- ---- all of it

  changed : TreeChanges (core_source core setting) image plan blocks plan' blocks' t hs left.afters everybody.stages' ps (all_landed core (owners_after old (trees.begin count old) ds)) control
  changed = record {
    as_many = many_moved nodes nodes' hs (all_become ds) many' (many_landed core nodes hs (map settle ds) (many_become settle nodes hs ds left.done_as_many));
    stages_as_many = everybody.many;
    harts = everybody.changes;
    groups = λ g lock.
        let e = only_group g lock in
        let lock' = ap (λ k. plan'.in_lockstep k) (sym e) ∙ lock in
        let here : InLockstep (core_source core setting) image plan' blocks' (later t) old.given (of_node old.given nodes' everybody.stages') (of_node old.given nodes' (numbered 0 hs))
        (of_node old.given nodes' (all_become ds)) control = record { distance = near.distance; inner = 0; alike = everybody.alike lock'; together = near.at lock' } in
        inr
        (subst
        (λ k. InLockstep (core_source core setting) image plan' blocks' (later t) k (of_node k nodes' everybody.stages') (of_node k nodes' (numbered 0 hs)) (of_node k nodes' (all_become ds)) control)
        (sym e) here);
    meetings = λ g w free is_open.
        ⊎_elim (λ e. subst (λ k. Meetings k w) (sym e) (inr (opens w (subst (λ k. IsOpen plan' k w) e is_open)))) (λ ne. meeting_stays g w ne free is_open) (cases_eq g 0);
  }

  pub again : (earlier : List Hart) → length earlier < 2 ^ 31 → IsBound (core_source core setting) image plan blocks t stages earlier ps own
      → AreBoundAgain core image places nestings setting plan (trees.begin count old) spaces nodes' t stages hs left.afters ps (all_landed core (owners_after old (trees.begin count old) ds)) own control
  again earlier few binds =
      let goes_on = plan_goes_on (core_source core setting) image plan blocks plan' blocks' t stages everybody.stages' earlier hs ps (all_become ds) ds own own' control few binds left has changed in
      record { stages' = everybody.stages'; on = record { changes = changed; goes = goes_on }; due = everybody.due; soon = everybody.soon }

pub rounds_start : RoundsStart
rounds_start core image places nestings cycles firsts main setting tree spaces nodes nodes' t stages earlier hs ps ds own own' control the_law leads before few binds left has steps rest behind there many' on next =
    let many = before.many in
    let long = (many_length nodes hs ds left.done_as_many).1 in
    let value = agreed (actings ds) (trees.members tree 0) in
    let count = min (not_negative value) (length (trees.members tree 0)) in
    let stand : (h : ℕ) → is_member h (trees.members tree 0) ≡ true → tree.places h ≡ 0 = λ h is. before.in_root h (before.sound.within 0 h is) in
    let same : tree_after tree ds ≡ trees.begin count tree
    = step_is_brought setting.processors tree before.sound 0 (Asynchronous before.alone) Begin ds before.kind stand (omega (arith, many, long)) steps in
    subst
    (λ x.
    IsTree setting x spaces → ArePlaces x 0 nodes' → AllGoOn core nestings setting x spaces 0 left.afters ds (owners_after tree x ds) → GroupsGoOn core nestings x nodes' left.afters (owners_after tree x ds)
    → AreBoundAgain core image places nestings setting (united (plan_of tree spaces nodes)) x spaces nodes' t stages hs left.afters ps (all_landed core (owners_after tree x ds)) own control) (sym same)
    (λ behind' there' on' next'.
    again core image places nestings cycles firsts main setting tree spaces nodes nodes' t stages hs ps ds own own' control the_law leads before left has steps count value refl refl rest behind' there' many'
    on' next' earlier few binds)
    behind there on next
