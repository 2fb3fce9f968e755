-- Behind a round in which groups divide, shrink and end: how each of their members goes on by itself, and which groups are in lockstep then.
use Rattle.std.proofs.Common.{◌≡◌, ◌≢◌, ℕ, zero, suc, ◌+◌, ◌≤◌, ◌<◌, List, [], ◌∷◌, length, Option, Some, None, Bool, true, false, sym, ap, subst, ◌∙◌, refl, arith, ◌⊎◌, inl, inr, ⊎_elim, eq-eqb, filter}
use Rattle.std.specs.Prelude.{◌==◌, ◌&&◌, map, is_some, if◌then◌else◌}
use Rattle.std.proofs.lemmas.Bool.{cases_Bool, cases_eq, ne_eqb, eqb-true, false≢true, and_parts, and_from}
use Rattle.fk_num.specs.Word.{Memory}
use Rattle.fk_space.specs.Space.{Space}
use Rattle.fk_tree.specs.declared.node.Kind.{Kind}
use Rattle.fk_tree.specs.declared.node.Kind.TheVariants.{Lockstep, Waiting}
use Rattle.fk_tree.specs.Tree as trees
use Rattle.fk_tree.specs.Tree.{Tree, kind_of, is_in, is_member, is_waiting}
use Rattle.fk_tree.specs.Sound.{awaits, is_ascending}
use Rattle.fk_tree.proofs.Begins.{length-root}
use Rattle.fk_tree.proofs.Lists.{member_kept, kept_member}
use Rattle.fk_tree.proofs.Shapes.{has_some, some-given}
use Rattle.fk_meaning_operation.specs.declared.operation.SplitKind.{SplitKind}
use Rattle.fk_meaning_operation.specs.declared.operation.Operation.{Operation}
use Rattle.fk_meaning_operation.specs.declared.operation.Operation.TheVariants as o
use Rattle.fk_meaning.specs.Processor.{Processor, Setting, values, drop_last, leave_level, to_outer}
use Rattle.fk_meaning.specs.Group.{part, stays, divided, with_size, enters, goes_onward}
use Rattle.fk_meaning.specs.Round.{Step, lowest, who}
use Rattle.fk_core.specs.declared.op.CoreOp.{CoreOp}
use Rattle.fk_core.specs.Next.{Position}
use Rattle.fk_image.specs.declared.Image.{Image}
use Rattle.fk_machine.specs.Hart.{Hart, Setting as MachineSetting}
use Rattle.fk_sim_nodes.specs.Node.{Member, numbered, add, of_node, AreAsMany, Has as HasWords}
use Rattle.fk_sim_nodes.specs.Alone.{later, in_cycles, RunsPrivately}
use Rattle.fk_sim_nodes.specs.Together.{Together}
use Rattle.fk_sim_nodes.proofs.Runs.{private_run}
use Rattle.fk_sim_match.specs.Stage.{Stage}
use Rattle.fk_sim_match.specs.Plan.{Plan, Blocks, IsOpen}
use Rattle.fk_sim_match.specs.Cycle.{AllHaveCommitted, NodeIsLeft, IsLeft}
use Rattle.fk_sim_match.specs.Change.{AllChange, MeetingOpens}
use Rattle.fk_lockstep.specs.Untouched.{changes_tree}
use Rattle.fk_sim_block.specs.Owner.{Owner, Doing, number_of, core_source}
use Rattle.fk_sim_block.specs.Stands as law
use Rattle.fk_sim_block.specs.Stands.{Places}
use Rattle.fk_sim_block.specs.Block.{most_behind, IsRunning}
use Rattle.fk_sim_block.specs.Node.{Nestings, StandsInNode, IsAtRest, first_word, root_words, barrier_word, closing_word}
use Rattle.fk_sim_block.specs.Lockstep.{is_due, highest_value, AreMembers, AllComeByWay, IsInStart, AreInStart}
use Rattle.fk_sim_block.specs.Parts.{part_of, size_of_part, size_behind, AllMove, AllRest, AreInPart, IsInPart, moved}
use Rattle.fk_sim_block.specs.Law.{Cycles, GroupLaw}
use Rattle.fk_sim_match.specs.Nodes.{first_of, LiesIn, is_arrival, is_lockstep, body_at, meeters_at, plan_of}
use Rattle.fk_sim_match.specs.Behind.{runs_of, HaveMoved, blocks_of, IsAskedToMove, bodies_around, bodies_behind, PartsRest}
use Rattle.fk_sim_match.proofs.Nodes.{tells}
use Rattle.fk_sim_match.proofs.Rounds.{not_none, leaf_place, lockstep_kind}
use Rattle.fk_sim_rounds.specs.Next.{JumpsLead, landed, all_landed, IsHome, HaveNext}
use Rattle.fk_sim_rounds.specs.Comes.{most_between, IsNode}
use Rattle.fk_lockstep_nodes.specs.Steps.{StepsBy}
use Rattle.fk_sim_rounds.specs.After.{actings, tree_after, owner_after, owners_after, halts, is_halt, DoesStep, ArePlaces, AllGoOn, GroupsGoOn}
use Rattle.fk_sim_rounds.specs.Rounds.{IsBefore, IsTree, StepIsKnown, IsKnownRound}
use Rattle.fk_sim_rounds.proofs.Same.{own_there}
use Rattle.fk_sim_rounds.proofs.Lists.{of_map, committed_parts}
use Rattle.fk_sim_rounds.proofs.Comes.{groups_come_to_commits, owns_space}
use Rattle.fk_sim_rounds.proofs.Keep.{AllOn}
use Rattle.fk_sim_rounds.proofs.Harts.{AllAre, LockLeft, steps_apart, steps_to_group}
use Rattle.fk_sim_rounds.proofs.Groups.{somebody, there_are, many_length}
use Rattle.fk_sim_rounds.proofs.Trees.{some_there}
use Rattle.fk_sim_rounds.proofs.Moved.{kind_there, lowest_there, is_busy, many_moved, AreWho, are_who, TreeMoves}
use Rattle.fk_lockstep.proofs.Changes.{few}
use Rattle.fk_sim_rounds.proofs.TreeAfter as after
use Rattle.fk_sim_rounds.proofs.TreeAfter.{moves_some}
use Rattle.fk_sim_rounds.proofs.Counts.{mark, count_from, count_is}
use Rattle.fk_sim_rounds.proofs.Close.{AllDo, all_do}
use Rattle.fk_sim_rounds.proofs.Changed.{running, At, near, AtNode}
use Rattle.fk_sim_rounds.proofs.Acted.{Both, both_are, acted}
use Rattle.fk_sim_rounds.proofs.Apart.{GoesApart}
use Rattle.fk_sim_rounds.proofs.Gathers.{GoesInto, gathered}
use Rattle.fk_sim_rounds.proofs.Opens.{opens as node_opens}

-- ---- lists

-- those of a list who pass a test
member_filter : (test : ℕ → Bool) (xs : List ℕ) (h : ℕ) → is_member h (filter test xs) ≡ (is_member h xs && test h)
member_filter test xs h =
    ⊎_elim (λ yes. let two = kept_member test xs h yes in yes ∙ sym (and_from (is_member h xs) (test h) two.0 two.1))
    (λ no.
    no
    ∙ sym
    (⊎_elim (λ both. let two = and_parts (is_member h xs) (test h) both in absurd (false≢true (sym no ∙ member_kept test xs h two.0 two.1))) (λ off. off)
    (cases_Bool (is_member h xs && test h))))
    (cases_Bool (is_member h (filter test xs)))

filter_more : {A : Type 0} (test : A → Bool) (x : A) (xs : List A) (b : Bool) → test x ≡ b → length (filter test (x ∷ xs)) ≡ mark b (length (filter test xs))
filter_more test x xs true e = let is : filter test (x ∷ xs) ≡ x ∷ filter test xs = rw e refl in ap (λ l. length l) is
filter_more test x xs false e = let is : filter test (x ∷ xs) ≡ filter test xs = rw e refl in ap (λ l. length l) is

filter_add : {A : Type 0} (test : A → Bool) (b : Bool) (x : A) (xs : List A) → length (filter test (add b x xs)) ≡ mark (b && test x) (length (filter test xs))
filter_add test true x xs = filter_more test x xs (test x) refl
filter_add test false x xs = refl

filter_map : {A B : Type 0} (f : A → B) (test : B → Bool) (xs : List A) → length (filter test (map f xs)) ≡ length (filter (λ x. test (f x)) xs)
filter_map f test [] = refl
filter_map f test (x ∷ xs) =
    filter_more test (f x) (map f xs) (test (f x)) refl ∙ ap (mark (test (f x))) (filter_map f test xs) ∙ sym (filter_more (λ y. test (f y)) x xs (test (f x)) refl)

-- the numbers of a list are those of the harts of a node that pass a test
abbrev AllTell : {A : Type 0} → (test : A → Bool) → (g number : ℕ) → List ℕ → List A → List ℕ → Type 0
AllTell test g number (n ∷ ns) (x ∷ xs) ms = (is_member number ms ≡ ((n == g) && test x)) × AllTell test g (suc number) ns xs ms
AllTell test g number ns xs ms = Unit {0}

counted : {A : Type 0} (test : A → Bool) (g number : ℕ) (ns : List ℕ) (xs : List A) (ms : List ℕ) → length ns ≡ length xs → AllTell test g number ns xs ms
    → count_from number ns ms ≡ length (filter test (of_node g ns xs))
counted test g number [] xs ms long tell = refl
counted test g number (n ∷ ns) [] ms long tell = absurd (omega (arith, long))
counted test g number (n ∷ ns) (x ∷ xs) ms long tell =
    ap (λ b. mark b (count_from (suc number) ns ms)) tell.0
    ∙ ap (mark ((n == g) && test x)) (counted test g (suc number) ns xs ms (omega (arith, long)) tell.1)
    ∙ sym (filter_add test (n == g) x (of_node g ns xs))

both_add : (Own : Member → Doing → Type 0) (b : Bool) (m : Member) (ms : List Member) (d : Doing) (ds : List Doing) → (b ≡ true → Own m d) → Both Own ms ds
    → Both Own (add b m ms) (add b d ds)
both_add Own true m ms d ds one rest = (one refl, rest)
both_add Own false m ms d ds one rest = rest

both_first : (Own : Member → Doing → Type 0) (b : Bool) (m : Member) (ms : List Member) (d : Doing) (ds : List Doing) → Both Own (add b m ms) (add b d ds)
    → (b ≡ true → Own m d) × Both Own ms ds
both_first Own true m ms d ds all = (λ e. all.0, all.1)
both_first Own false m ms d ds all = (λ e. absurd (false≢true e), all)

-- what is so of those of one node is so of each hart that stands there
spread_node : (old : Tree) (Own : Member → Doing → Type 0) (g number : ℕ) (ns : List ℕ) (hs : List Hart) (ds : List Doing) → ArePlaces old number ns → AreAsMany ns hs ds
    → Both Own (of_node g ns (numbered number hs)) (of_node g ns ds) → AllAre (λ m d. old.places m.number ≡ g → Own m d) number hs ds
spread_node old Own g number [] [] [] stand many all = tt
spread_node old Own g number (n ∷ ns) (h ∷ hs) (d ∷ ds) stand many all =
    let m : Member = record { number = number; hart = h } in
    let parts = both_first Own (n == g) m (of_node g ns (numbered (suc number) hs)) d (of_node g ns ds) all in
    (λ at. parts.0 (eq-eqb n g (stand.0 ∙ at)), spread_node old Own g (suc number) ns hs ds stand.1 many parts.1)
spread_node old Own g number ns hs ds stand many all = absurd (assumption many)

-- what follows of each hart, by its number
all_are : (A B : Member → Doing → Type 0) (p number : ℕ) (hs : List Hart) (ds : List Doing) → number + length hs ≡ p → ((m : Member) (d : Doing) → m.number < p → A m d → B m d)
    → AllAre A number hs ds → AllAre B number hs ds
all_are A B p number [] ds many each all = tt
all_are A B p number (h ∷ hs) [] many each all = tt
all_are A B p number (h ∷ hs) (d ∷ ds) many each all =
    (each (record { number = number; hart = h }) d (omega (arith, many)) all.0, all_are A B p (suc number) hs ds (omega (arith, many)) each all.1)

-- what is so of one of them
record AtNumber (Own : Member → Doing → Type 0) (number : ℕ) : Type 0 where
  member : Member
  doing : Doing
  number_is : member.number ≡ number
  own : Own member doing

at_number : (Own : Member → Doing → Type 0) (number h : ℕ) (hs : List Hart) (ds : List Doing) → h < length hs → length ds ≡ length hs → AllAre Own number hs ds → AtNumber Own (number + h)
at_number Own number h [] ds lt long all = absurd (omega (arith, lt))
at_number Own number h (x ∷ hs) [] lt long all = absurd (omega (arith, long))
at_number Own number zero (x ∷ hs) (d ∷ ds) lt long all = record { member = record { number = number; hart = x }; doing = d; number_is = omega arith; own = all.0 }
at_number Own number (suc h) (x ∷ hs) (d ∷ ds) lt long all =
    let rest = at_number Own (suc number) h hs ds (omega (arith, lt)) (omega (arith, long)) all.1 in
    let number_is = rest.number_is in
    record { member = rest.member; doing = rest.doing; number_is = omega (arith, number_is); own = rest.own }

committed_add : (b : Bool) (a : Option Stage) (afters : List (Option Stage)) → (b ≡ true → a ≡ None) → AllHaveCommitted afters → AllHaveCommitted (add b a afters)
committed_add true a afters one all = (one refl, all)
committed_add false a afters one all = all

-- who is in a node was in one whose members have all committed
committed_there : (old new : Tree) (g k number : ℕ) (ns ns' : List ℕ) (hs : List Hart) (afters : List (Option Stage)) → ArePlaces old number ns → ArePlaces new number ns' → AreAsMany ns hs afters
    → AreAsMany ns' hs afters → ((h : ℕ) → number ≤ h → h < number + length ns → new.places h ≡ k → old.places h ≡ g) → AllHaveCommitted (of_node g ns afters)
    → AllHaveCommitted (of_node k ns' afters)
committed_there old new g k number [] [] [] [] here there many many' from all = tt
committed_there old new g k number (n ∷ ns) (n' ∷ ns') (h ∷ hs) (a ∷ afters) here there many many' from all =
    let parts = committed_parts (n == g) a (of_node g ns afters) all in
    committed_add (n' == k) a (of_node k ns' afters)
    (λ e. parts.0 (eq-eqb n g (here.0 ∙ from number (omega arith) (omega arith) (sym there.0 ∙ eqb-true n' k e))))
    (committed_there old new g k (suc number) ns ns' hs afters here.1 there.1 many many' (λ i le lt at. from i (omega (arith, le)) (omega (arith, lt)) at) parts.1)
committed_there old new g k number [] (n' ∷ ns') [] afters here there many many' from all = absurd many'
committed_there old new g k number [] (n' ∷ ns') (h ∷ hs) afters here there many many' from all = absurd many
committed_there old new g k number (n ∷ ns) [] [] afters here there many many' from all = absurd many
committed_there old new g k number (n ∷ ns) [] (h ∷ hs) afters here there many many' from all = absurd many'
committed_there old new g k number ns ns' hs afters here there many many' from all = absurd (assumption (many, many'))

-- ---- what a step makes of a processor, whatever the size where it isn't in a group of that size

same_divided : (by : SplitKind) (s s' : ℕ) (p : Processor) (x : Option ℕ) → ((i : ℕ) → x ≡ Some i → s ≡ s') → divided by s p x ≡ divided by s' p x
same_divided by s s' p None same = refl
same_divided by s s' p (Some i) same = ap (λ n. divided by n p (Some i)) (same i refl)

same_shrunk : (s s' : ℕ) (p : Processor) (b : Bool) → (b ≡ true → s ≡ s')
    → (if b then with_size s (drop_last 1 p) else leave_level (drop_last 1 p)) ≡ (if b then with_size s' (drop_last 1 p) else leave_level (drop_last 1 p))
same_shrunk s s' p true same = ap (λ n. with_size n (drop_last 1 p)) (same refl)
same_shrunk s s' p false same = refl

begin_stays : (operation : Operation) → moves_some operation ≡ true → o.Begin ≡ operation → ⊥
begin_stays operation moves e = false≢true (ap moves_some e ∙ moves)

moves_change : (operation : Operation) → moves_some operation ≡ true → changes_tree operation ≡ true
moves_change o.End moves = refl
moves_change o.Shrink moves = refl
moves_change (o.Split by) moves = refl
moves_change operation moves = absurd (cc)

moves_on : (operation : Operation) → moves_some operation ≡ true → is_halt operation ≡ false
moves_on o.End moves = refl
moves_on o.Shrink moves = refl
moves_on (o.Split by) moves = refl
moves_on operation moves = absurd (cc)

module _ (core : List CoreOp) (image : Image) (places : Places) (nestings : Nestings) (cycles : Cycles) (firsts : List ℕ) (main : ℕ) (setting : Setting) (old : Tree) (spaces : ℕ → Space) (nodes nodes' : List ℕ)
    (t : MachineSetting) (stages : List Stage) (hs : List Hart) (ps : List Owner) (ds : List Doing) (own own' : ℕ → Memory) (control : Memory)
    (the_law : GroupLaw core image places nestings cycles firsts main) (leads : JumpsLead core) (before : IsBefore core image setting old spaces nodes t stages hs ps)
    (left : IsLeft (core_source core setting) image (plan_of old spaces nodes) (blocks_of core image places nestings setting (plan_of old spaces nodes) (first_of spaces)) t stages hs ps ds own own')
    (has : (g : ℕ) → HasWords ((plan_of old spaces nodes).words g) control (own' g)) (round : IsKnownRound old ds) (behind : IsTree setting (tree_after old ds) spaces)
    (there : ArePlaces (tree_after old ds) 0 nodes') (many' : length nodes' ≡ length nodes)
    (on : AllGoOn core nestings setting (tree_after old ds) spaces 0 left.afters ds (owners_after old (tree_after old ds) ds))
    (next : GroupsGoOn core nestings (tree_after old ds) nodes' left.afters (owners_after old (tree_after old ds) ds))
    (long : length ds ≡ setting.processors) (changed : ℕ → Bool) (move : TreeMoves old (tree_after old ds) setting.processors round.does nodes nodes' changed) where
  abbrev new : Tree
  new = tree_after old ds

  abbrev plan : Plan
  plan = plan_of old spaces nodes

  abbrev blocks : Blocks Owner Doing
  blocks = blocks_of core image places nestings setting (plan_of old spaces nodes) (first_of spaces)

  abbrev plan' : Plan
  plan' = plan_of (tree_after old ds) spaces nodes'

  abbrev blocks' : Blocks Owner Doing
  blocks' = blocks_of core image places nestings setting (plan_of (tree_after old ds) spaces nodes') (first_of spaces)

  abbrev settle : Doing → Owner
  settle d = owner_after (actings ds) old (tree_after old ds) d

  abbrev run : IsRunning image setting (later t)
  run =
      running core image places nestings cycles firsts main setting old (tree_after old ds) spaces nodes nodes' t stages hs ps ds own own' control the_law leads before left has behind.sound
      behind.spaced round.does round.steps changed move on next

  all_new : length nodes' ≡ setting.processors
  all_new = many' ∙ before.many

  new_afters : AreAsMany nodes' hs left.afters
  new_afters = many_moved nodes nodes' hs left.afters many' left.as_many

  new_doings : AreAsMany nodes' hs ds
  new_doings = many_moved nodes nodes' hs ds many' left.done_as_many

  there_is : (h : ℕ) → h < setting.processors → is_some ((tree_after old ds).nodes ((tree_after old ds).places h)) ≡ true
  there_is h lt = some_there (new.nodes (new.places h)) (has_some new (new.places h) h (behind.sound.placed h lt).member)

  -- ---- a node that waits, where nobody runs a body but in the root

  runs_waiting : (k h : ℕ) → k ≢ 0 → is_waiting (trees.kind (tree_after old ds) k) ≡ true → is_some ((tree_after old ds).nodes k) ≡ true → runs_of plan' (first_of spaces k) h ≡ None
  runs_waiting zero h ne waits is = absurd (ne refl)
  runs_waiting (suc k) h ne waits is =
      let tell = tells new spaces behind.spaced nodes' (suc k) 0 is (some-given setting.processors new behind.sound (suc k) (not_none (new.nodes (suc k)) is)) (omega arith) in
      let nobody : meeters_at new (suc k) 0 ≡ [] = no_body (trees.kind new (suc k)) waits in
      ap (λ b. if b then Some (plan'.size (first_of spaces (suc k) + 0)) else None) (tell.member h ∙ ap (λ l. is_member h l) nobody)
    where
      no_body : (x : Option Kind) → is_waiting x ≡ true → body_at x (suc k) (trees.members (tree_after old ds) (suc k)) ≡ []
      no_body (Some (Waiting first parts)) e = refl
      no_body x e = absurd (false≢true e)

  runs_root : (h : ℕ) → h < setting.processors → (tree_after old ds).places h ≡ 0 → is_waiting (trees.kind (tree_after old ds) 0) ≡ true → runs_of plan' (first_of spaces 0) h ≡ Some setting.processors
  runs_root h lt at waits =
      let is = subst (λ k. is_some (new.nodes k) ≡ true) at (there_is h lt) in
      let tell = tells new spaces behind.spaced nodes' 0 0 is (some-given setting.processors new behind.sound 0 (not_none (new.nodes 0) is)) (omega arith) in
      let body : meeters_at new 0 0 ≡ trees.members new 0 = all_run (trees.kind new 0) waits in
      let member = subst (λ k. is_member h (trees.members new k) ≡ true) at (behind.sound.placed h lt).member in
      let w = first_of spaces 0 + 0 in
      ap (λ b. if b then Some (plan'.size w) else None) (tell.member h ∙ ap (λ l. is_member h l) body ∙ member)
      ∙ ap (λ n. Some n) (tell.size ∙ ap (λ l. length l) body ∙ length-root setting.processors new behind.sound)
    where
      all_run : (x : Option Kind) → is_waiting x ≡ true → body_at x 0 (trees.members (tree_after old ds) 0) ≡ trees.members (tree_after old ds) 0
      all_run (Some (Waiting first parts)) e = refl
      all_run x e = absurd (false≢true e)

  -- only the root has words behind those of shared data
  root_place : (k : ℕ) → is_some ((tree_after old ds).nodes k) ≡ true → first_of spaces k ≡ root_words → k ≡ 0
  root_place zero is e = refl
  root_place (suc k) is e =
      let header = behind.spaced.header (suc k) (λ z. absurd (cc)) is in
      let within = behind.spaced.within (suc k) (λ z. absurd (cc)) is in
      absurd (omega (arith, header, within, e))

  waits_for : (k m : ℕ) → awaits (trees.kind old k) m ≡ true → (tree_after old ds).nodes k ≡ old.nodes k → is_waiting (trees.kind (tree_after old ds) k) ≡ true
  waits_for k m waits same = by_kind (trees.kind new k) (ap (λ x. awaits (kind_of x) m) same ∙ waits)
    where
      by_kind : (x : Option Kind) → awaits x m ≡ true → is_waiting x ≡ true
      by_kind (Some (Waiting first parts)) e = refl
      by_kind x e = absurd (false≢true e)

  -- where its node isn't in lockstep one is there by itself
  abbrev pub Own : Member → Doing → Type 0
  Own m d =
      plan'.in_lockstep ((tree_after old ds).places m.number) ≡ false
      → GoesApart image places nestings setting (later t) plan' (first_of spaces ((tree_after old ds).places m.number)) settle m d

  -- ---- one group

  module _ (g : ℕ) (operation : Operation) (moves : moves_some operation ≡ true) (is : round.does g ≡ Some operation) where
    known : StepIsKnown old g operation
    known = round.known g operation is

    kind : trees.kind old g ≡ Some Lockstep
    kind = after.moving_group setting.processors old before.sound g operation moves known

    lock : plan.in_lockstep g ≡ true
    lock = ap is_lockstep kind

    here_was : is_some (old.nodes g) ≡ true
    here_was = kind_there (old.nodes g) Lockstep kind

    given : g < old.given
    given = some-given setting.processors old before.sound g (not_none (old.nodes g) here_was)

    not_root : g ≢ 0
    not_root = after.not_root setting.processors old before.sound g kind

    abbrev the_members : List Member
    the_members = of_node g nodes (numbered 0 hs)

    abbrev doings : List Doing
    doings = of_node g nodes ds

    all_step : AllDo operation doings
    all_step = all_do old round.does g 0 operation nodes ds is before.stand round.steps

    some_doings : length doings ≡ 0 → ⊥
    some_doings = there_are nodes g ds (somebody setting.processors old before.sound nodes before.stand before.many g kind) (many_length nodes hs ds left.done_as_many).1

    pub record HasMoved : Type 0 where
      pub committed : AllHaveCommitted (of_node g nodes left.afters)
      pub fact : HaveMoved core image places nestings setting (first_of spaces g) (later t) (of_node g nodes ds) (of_node g nodes (numbered 0 hs)) (own' g)
      pub same : fact.operation ≡ operation

    pub has_moved : HasMoved
    has_moved =
        let x = acted core image places nestings setting plan (first_of spaces) (later t) g (of_node g nodes left.afters) the_members (of_node g nodes ps) doings (own' g) operation all_step some_doings
        (moves_change operation moves)
        (subst (λ b. NodeIsLeft (core_source core setting) image plan blocks b (later t) g (of_node g nodes left.afters) the_members (of_node g nodes ps) doings (own' g)) lock (left.nodes g)) in
        ⊎_elim (λ moved'. record { committed = x.committed; fact = moved'.0; same = moved'.1 }) (λ begun. absurd (begin_stays operation moves begun.1)) x.how

    abbrev fact : HaveMoved core image places nestings setting (first_of spaces g) (later t) doings the_members (own' g)
    fact = has_moved.fact

    due : doings ≡ map (is_due core fact.i fact.op operation) fact.ps
    due = fact.due ∙ ap (λ x. map (is_due core fact.i fact.op x) fact.ps) has_moved.same

    asked : IsAskedToMove nestings operation fact.lowest fact.ps
    asked = subst (λ x. IsAskedToMove nestings x fact.lowest fact.ps) has_moved.same fact.asked

    parts_rest : PartsRest operation (own' g) (map (moved core fact.i fact.op operation fact.lowest fact.ps) fact.ps)
    parts_rest = subst (λ x. PartsRest x (own' g) (map (moved core fact.i fact.op x fact.lowest fact.ps) fact.ps)) has_moved.same fact.parts

    move_on : AllMove core image places nestings fact.i fact.op operation setting (later t) fact.behind (λ p. bodies_behind setting operation fact.lowest p) fact.lowest the_members fact.ps
    move_on =
        subst (λ x. AllMove core image places nestings fact.i fact.op x setting (later t) fact.behind (λ p. bodies_behind setting x fact.lowest p) fact.lowest the_members fact.ps) has_moved.same fact.move

    -- ---- who stands there

    pub record Here (m : Member) (d : Doing) : Type 0 where
      pub at : old.places m.number ≡ g
      pub lt : m.number < setting.processors
      pub home : IsHome (tree_after old ds) spaces m.number (settle d)
      pub number_is : d.acting.runner.has.number ≡ m.number
      pub who_is : who (actings ds) m.number ≡ d.acting.runner.has

    all_here : (number : ℕ) (ns : List ℕ) (gs : List Hart) (afters : List (Option Stage)) (xs : List Doing) → ArePlaces old number ns → number + length ns ≡ setting.processors
        → AreAsMany ns gs afters → AreAsMany ns gs xs → AllGoOn core nestings setting (tree_after old ds) spaces number afters xs (map settle xs) → StepsBy old round.does number (actings xs)
        → AreWho (actings ds) number xs → Both Here (of_node g ns (numbered number gs)) (of_node g ns xs)
    all_here number [] [] [] [] stand many as_a as_d on' steps who_are = tt
    all_here number (n ∷ ns) (h ∷ gs) (a ∷ afters) (d ∷ xs) stand many as_a as_d on' steps who_are =
        both_add Here (n == g) (record { number = number; hart = h }) (of_node g ns (numbered (suc number) gs)) d (of_node g ns xs)
        (λ e. record { at = sym stand.0 ∙ eqb-true n g e; lt = omega (arith, many); home = on'.0; number_is = steps.0; who_is = who_are.0 })
        (all_here (suc number) ns gs afters xs stand.1 (omega (arith, many)) as_a as_d on'.2 steps.2 who_are.1)
    all_here number ns gs afters xs stand many as_a as_d on' steps who_are = absurd (assumption (as_a, as_d))

    here : Both Here the_members doings
    here =
        let many = before.many in
        all_here 0 nodes hs left.afters ds before.stand (omega (arith, many)) left.as_many left.done_as_many on round.steps (are_who ds)

    -- ---- sizes

    -- its members are those who stand there
    is_member_here : (h : ℕ) → h < setting.processors → is_member h (trees.members old g) ≡ (old.places h == g)
    is_member_here h lt =
        ⊎_elim (λ e. subst (λ k. is_member h (trees.members old k) ≡ true) e (before.sound.placed h lt).member ∙ sym (eq-eqb (old.places h) g e))
        (λ ne.
        ⊎_elim (λ yes. absurd (ne (leaf_place setting.processors old before.sound g h kind yes))) (λ no. no ∙ sym (ne_eqb (old.places h) g ne)) (cases_Bool (is_member h (trees.members old g))))
        (cases_eq (old.places h) g)

    all_tell : (test : Processor → Bool) (ms : List ℕ) → ms ≡ filter (λ h. test (who (actings ds) h)) (trees.members old g) → (number : ℕ) (ns : List ℕ) (xs : List Doing) → ArePlaces old number ns
        → number + length ns ≡ setting.processors → AreWho (actings ds) number xs → AllTell (λ (d : Doing). test d.acting.runner.has) g number ns xs ms
    all_tell test ms are number [] xs stand many who_are = tt
    all_tell test ms are number (n ∷ ns) [] stand many who_are = tt
    all_tell test ms are number (n ∷ ns) (d ∷ xs) stand many who_are = (
      ap (is_member number) are ∙ member_filter (λ h. test (who (actings ds) h)) (trees.members old g) number
          ∙ ap (λ b. b && test (who (actings ds) number)) (is_member_here number (omega (arith, many)) ∙ ap (λ k. k == g) (sym stand.0))
          ∙ ap (λ q. (n == g) && test q) who_are.0,
      all_tell test ms are (suc number) ns xs stand.1 (omega (arith, many)) who_are.1,
    )

    -- of a node whose members are those who pass a test
    sized : (k : ℕ) (test : Processor → Bool) → trees.members (tree_after old ds) k ≡ filter (λ h. test (who (actings ds) h)) (trees.members old g)
        → length (trees.members (tree_after old ds) k) ≡ length (filter (λ (p : Owner). test p.runner.has) fact.ps)
    sized k test are =
        let many = before.many in
        let long' = (many_length nodes hs ds left.done_as_many).1 in
        let test_of : Doing → Bool = λ d. test d.acting.runner.has in
        sym (count_is 0 nodes (trees.members new k) (behind.sound.ascending k) (λ h member. let lt = behind.sound.within k h member in (omega arith, omega (arith, lt, many))))
        ∙ counted test_of g 0 nodes ds (trees.members new k) long' (all_tell test (trees.members new k) are 0 nodes ds before.stand (omega (arith, many)) (are_who ds))
        ∙ ap (λ l. length (filter test_of l)) due ∙ filter_map (is_due core fact.i fact.op operation) test_of fact.ps

    -- ---- what the step makes of each

    abbrev size_in : ℕ → ℕ
    size_in h = length (trees.members (tree_after old ds) ((tree_after old ds).places h))

    split_size : (by : SplitKind) → round.does g ≡ Some (o.Split by) → (m : Member) (p : Owner) → Here m (is_due core fact.i fact.op operation p) → (i : ℕ) → part by (values p.runner.has) ≡ Some i
        → size_in (number_of p) ≡ size_of_part by fact.ps (Some i)
    split_size by divides m p h i e =
        let first = after.first_of_parts setting.processors old before.sound ds round long g in
        let member = subst (λ k. trees.is_member m.number (trees.members old k) ≡ true) h.at (before.sound.placed m.number h.lt).member in
        let below =
        few by (values (who (actings ds) m.number)) (values (who (actings ds) (lowest (trees.members old g)))) i (round.divide g m.number by divides member)
        (ap (λ q. part by (values q)) h.who_is ∙ e) in
        let at : new.places m.number ≡ first + i = after.part_place setting.processors old before.sound ds round long m.number g by i h.lt h.at divides (ap (λ q. part by (values q)) h.who_is ∙ e) in
        ap size_in h.number_is ∙ ap (λ k. length (trees.members new k)) at
        ∙ sized (first + i) (λ q. is_in i (part by (values q))) (after.split_members setting.processors old before.sound ds round long g by i divides below)

    shrink_size : round.does g ≡ Some o.Shrink → (m : Member) (p : Owner) → Here m (is_due core fact.i fact.op operation p) → stays p.runner.has ≡ true
        → size_in (number_of p) ≡ length (filter (λ (q : Owner). stays q.runner.has) fact.ps)
    shrink_size shrinks m p h e =
        let at : new.places m.number ≡ g = after.stay_place setting.processors old before.sound ds round long m.number g h.lt h.at shrinks (ap stays h.who_is ∙ e) in
        ap size_in h.number_is ∙ ap (λ k. length (trees.members new k)) at ∙ sized g stays (after.loop_members setting.processors old before.sound ds round long g shrinks)

    settles : (done : Operation) → operation ≡ done → (m : Member) (p : Owner) → Here m (is_due core fact.i fact.op operation p)
        → settle (is_due core fact.i fact.op done p) ≡ moved core fact.i fact.op done fact.lowest fact.ps p
    settles o.End same m p h = refl
    settles (o.Split by) same m p h =
        ap
        (λ x.
        let q : Owner = record { runner = record { left = (settle (is_due core fact.i fact.op (o.Split by) p)).runner.left; has = x }; heap = p.heap } in q)
        (same_divided by (size_in (number_of p)) (size_of_part by fact.ps (part_of by p)) p.runner.has (part by (values p.runner.has))
        (λ i e. split_size by (is ∙ ap (λ x. Some x) same) m p h i e ∙ ap (size_of_part by fact.ps) (sym e)))
    settles o.Shrink same m p h =
        ap
        (λ x. let q : Owner = record { runner = record { left = (settle (is_due core fact.i fact.op o.Shrink p)).runner.left; has = x }; heap = p.heap } in q)
        (same_shrunk (size_in (number_of p)) (length (filter (λ (q : Owner). stays q.runner.has) fact.ps)) p.runner.has (stays p.runner.has)
        (λ e. shrink_size (is ∙ ap (λ x. Some x) same) m p h e))
    settles done same m p h = absurd (let x = sym moves ∙ ap moves_some same in cc)

    -- so many private instructions lead each to where its processor goes on
    pub record Goes (m : Member) (d : Doing) : Type 0 where
      pub owner : Owner
      pub due_is : d ≡ is_due core fact.i fact.op operation owner
      pub here_is : Here m (is_due core fact.i fact.op operation owner)
      pub asked_is : operation ≡ o.End → IsInStart nestings owner ⊎ IsInPart nestings owner
      pub rests : (by : SplitKind) → operation ≡ o.Split by → IsAtRest (first_word (settle d).runner.has.level (settle d).runner.has.outer) (own' g)
      pub hart : Hart
      pub private : RunsPrivately image (later t) m.number (fact.behind (goes_onward operation (highest_value fact.ps) fact.lowest owner.runner.has)) m.hart hart
      pub at : law.StandsAt places (settle d) hart
      pub node : StandsInNode places nestings setting (bodies_behind setting operation fact.lowest owner) (settle d) hart
      pub words : first_word (settle d).runner.has.level (settle d).runner.has.outer ≡ first_of spaces ((tree_after old ds).places m.number)

    all_go : (ms : List Member) (xs : List Owner) → Both Here ms (map (is_due core fact.i fact.op operation) xs)
        → AllComeByWay core image places nestings fact.i fact.op operation setting (later t) fact.behind (λ p. bodies_behind setting operation fact.lowest p) (highest_value fact.ps) fact.lowest
        (λ p. size_behind operation fact.ps p) ms xs
        → (operation ≡ o.End → AreInStart nestings xs ⊎ AreInPart nestings xs)
        → ((by : SplitKind) → operation ≡ o.Split by → AllRest (own' g) (map (moved core fact.i fact.op operation fact.lowest fact.ps) xs))
        → Both Goes ms (map (is_due core fact.i fact.op operation) xs)
    all_go [] [] here' come ask rests = tt
    all_go (m ∷ ms) (p ∷ xs) here' come ask rests =
        let d = is_due core fact.i fact.op operation p in
        let same = sym (settles operation refl m p here'.0) in (
          record {
            owner = p;
            due_is = refl;
            here_is = here'.0;
            asked_is = λ e. ⊎_elim (λ a. inl a.0) (λ a. inr a.0) (ask e);
            rests = λ by e. subst (λ q. IsAtRest (first_word q.runner.has.level q.runner.has.outer) (own' g)) same (rests by e).0;
            hart = come.0.hart;
            private = come.0.runs;
            at = subst (λ q. law.StandsAt places q come.0.hart) same come.0.member.at;
            node = subst (λ q. StandsInNode places nestings setting (bodies_behind setting operation fact.lowest p) q come.0.hart) same come.0.member.node;
            words = here'.0.home.words;
          },
          all_go ms xs here'.1 come.1 (λ e. ⊎_elim (λ a. inl a.1) (λ a. inr a.1) (ask e)) (λ by e. (rests by e).1),
        )
    all_go ms xs here' come ask rests = absurd (assumption come)

    goes : Both Goes the_members doings
    goes =
        subst (Both Goes the_members) (sym due)
        (all_go the_members fact.ps (subst (Both Here the_members) due here) move_on (λ e. subst (λ x. IsAskedToMove nestings x fact.lowest fact.ps) e asked)
        (λ by e. subst (λ x. PartsRest x (own' g) (map (moved core fact.i fact.op operation fact.lowest fact.ps) fact.ps)) e parts_rest))

    pub each_goes : AllAre (λ m d. old.places m.number ≡ g → Goes m d) 0 hs ds
    each_goes = spread_node old Goes g 0 nodes hs ds before.stand left.done_as_many goes

    -- ---- its own words

    word_is_zero : (offset : ℕ) → offset < 8 → is_arrival offset ≡ true → control (first_of spaces g + offset) ≡ 0
    word_is_zero offset lt arrival = has g (first_of spaces g + offset) (tells old spaces before.spaced nodes g offset here_was given lt).own ∙ nobody offset arrival
      where
        nobody : (offset : ℕ) → is_arrival offset ≡ true → own' g (first_of spaces g + offset) ≡ 0
        nobody zero arrival = fact.rest.barrier
        nobody (suc zero) arrival = fact.rest.closing
        nobody (suc (suc k)) arrival = absurd (false≢true arrival)

    -- who is in it was in it
    was_here : (h : ℕ) → h < setting.processors → (tree_after old ds).places h ≡ g → old.places h ≡ g
    was_here h lt at =
        after.was_there setting.processors old before.sound ds round long g h given lt (λ j loses. after.no_child setting.processors old before.sound ds round long g j kind loses) at

    gone_here : AllHaveCommitted (of_node g nodes' left.afters)
    gone_here =
        let many = before.many in
        committed_there old new g g 0 nodes nodes' hs left.afters before.stand there left.as_many new_afters (λ h le lt at. was_here h (omega (arith, lt, many)) at) has_moved.committed

    -- ---- who comes to a node that isn't in lockstep

    -- how many run the body there
    ends_there : operation ≡ o.End → (m : Member) (d : Doing) (x : Goes m d) → runs_of plan' (first_of spaces ((tree_after old ds).places m.number)) m.number ≡ bodies_around setting x.owner.runner.has.outer
    ends_there e m d x =
        let h = x.here_is in
        let k = new.places m.number in
        let up : k ≡ trees.parent old g
        = after.leaves setting.processors old before.sound ds round long m.number h.lt (ap round.does h.at ∙ is ∙ ap (λ y. Some y) e) ∙ ap (trees.parent old) h.at in
        let waits : is_waiting (trees.kind new k) ≡ true
        = ap (λ j. is_waiting (trees.kind new j)) up
        ∙ waits_for (trees.parent old g) g (after.parent_waits setting.processors old before.sound g kind) (after.parent_same setting.processors old before.sound ds round long g operation is moves) in
        let p = x.owner.runner.has in
        let ended : settle d ≡ moved core fact.i fact.op o.End fact.lowest fact.ps x.owner
        = ap settle x.due_is ∙ ap (λ y. settle (is_due core fact.i fact.op y x.owner)) e in
        let words : first_word (to_outer p p.outer).level (to_outer p p.outer).outer ≡ first_of spaces k
        = ap (λ q. first_word q.runner.has.level q.runner.has.outer) (sym ended) ∙ x.words in
        ⊎_elim
        (λ start.
        let to_root : root_words ≡ first_of spaces k = subst (λ ls. first_word (to_outer p ls).level (to_outer p ls).outer ≡ first_of spaces k) start.outer words in
        let root = root_place k (there_is m.number h.lt) (sym to_root) in
        ap (λ j. runs_of plan' (first_of spaces j) m.number) root ∙ runs_root m.number h.lt root (subst (λ j. is_waiting (trees.kind new j) ≡ true) root waits)
        ∙ sym (ap (bodies_around setting) start.outer))
        (λ in_part.
        let low : in_part.around.space.low ≡ first_of spaces k = subst (λ ls. first_word (to_outer p ls).level (to_outer p ls).outer ≡ first_of spaces k) in_part.outer words in
        let header = in_part.is_space.header in
        let ordered = in_part.is_space.ordered in
        let within = in_part.is_space.within in
        let shared = in_part.is_space.shared in
        let in_group : k ≢ 0 = λ z. let at_root = low ∙ ap (first_of spaces) z in omega (arith, at_root, header, ordered, within, shared) in
        runs_waiting k m.number in_group waits (there_is m.number h.lt) ∙ sym (ap (bodies_around setting) in_part.outer))
        (x.asked_is e)

    -- one who waits stands in the group that divides
    splits_there : (by : SplitKind) → operation ≡ o.Split by → (m : Member) (d : Doing) (x : Goes m d) → plan'.in_lockstep ((tree_after old ds).places m.number) ≡ false
        → runs_of plan' (first_of spaces ((tree_after old ds).places m.number)) m.number ≡ None
    splits_there by e m d x free = by_part (part by (values (who (actings ds) m.number))) refl
      where
        divides : round.does g ≡ Some (o.Split by)
        divides = is ∙ ap (λ y. Some y) e

        by_part : (y : Option ℕ) → part by (values (who (actings ds) m.number)) ≡ y → runs_of plan' (first_of spaces ((tree_after old ds).places m.number)) m.number ≡ None
        by_part None none =
            let at = after.wait_place setting.processors old before.sound ds round long m.number g by x.here_is.lt x.here_is.at divides none in
            let waits : is_waiting (trees.kind new (new.places m.number)) ≡ true
            = ap (λ k. is_waiting (trees.kind new k)) at ∙ ap is_waiting (after.split_kind setting.processors old before.sound ds round long g by divides) in
            runs_waiting (new.places m.number) m.number (λ z. not_root (sym at ∙ z)) waits (there_is m.number x.here_is.lt)
        by_part (Some i) some =
            let at = after.part_place setting.processors old before.sound ds round long m.number g by i x.here_is.lt x.here_is.at divides some in
            let one = after.part_or_none setting.processors old before.sound ds round long (new.places m.number)
            (let above = after.parts_above setting.processors old before.sound ds round long g in omega (arith, at, above)) in
            let is_there = not_none (new.nodes (new.places m.number)) (there_is m.number x.here_is.lt) in
            ⊎_elim (λ y. absurd (false≢true (sym free ∙ ap is_lockstep (after.part_kind setting.processors old before.sound ds round long (new.places m.number) y is_there)))) (λ none. absurd (is_there none)) one

    -- one who leaves a loop stands in the group around it
    shrinks_there : operation ≡ o.Shrink → (m : Member) (d : Doing) (x : Goes m d) → plan'.in_lockstep ((tree_after old ds).places m.number) ≡ false
        → runs_of plan' (first_of spaces ((tree_after old ds).places m.number)) m.number ≡ None
    shrinks_there e m d x free = by_stay (stays (who (actings ds) m.number)) refl
      where
        shrinks : round.does g ≡ Some o.Shrink
        shrinks = is ∙ ap (λ y. Some y) e

        by_stay : (b : Bool) → stays (who (actings ds) m.number) ≡ b → runs_of plan' (first_of spaces ((tree_after old ds).places m.number)) m.number ≡ None
        by_stay true stay =
            let at = after.stay_place setting.processors old before.sound ds round long m.number g x.here_is.lt x.here_is.at shrinks stay in
            let is_there = not_none (new.nodes g) (subst (λ k. is_some (new.nodes k) ≡ true) at (there_is m.number x.here_is.lt)) in
            let locked : plan'.in_lockstep g ≡ true = ap is_lockstep (after.loop_kind setting.processors old before.sound ds round long g shrinks is_there ∙ kind) in
            absurd (false≢true (sym free ∙ ap (λ k. plan'.in_lockstep k) at ∙ locked))
        by_stay false leave =
            let at = after.leave_place setting.processors old before.sound ds round long m.number g x.here_is.lt x.here_is.at shrinks leave in
            let waits : is_waiting (trees.kind new (new.places m.number)) ≡ true
            = ap (λ k. is_waiting (trees.kind new k)) at
            ∙ waits_for (trees.parent old g) g (after.parent_waits setting.processors old before.sound g kind) (after.parent_same setting.processors old before.sound ds round long g operation is moves) in
            let in_group : new.places m.number ≢ 0 = λ z. (round.known g o.Shrink shrinks).1 (sym at ∙ z) in
            runs_waiting (new.places m.number) m.number in_group waits (there_is m.number x.here_is.lt)

    runs_there : (done : Operation) → operation ≡ done → (m : Member) (d : Doing) (x : Goes m d) → plan'.in_lockstep ((tree_after old ds).places m.number) ≡ false
        → runs_of plan' (first_of spaces ((tree_after old ds).places m.number)) m.number ≡ bodies_behind setting done fact.lowest x.owner
    runs_there o.End e m d x free = ends_there e m d x
    runs_there (o.Split by) e m d x free = splits_there by e m d x free
    runs_there o.Shrink e m d x free = shrinks_there e m d x free
    runs_there done e m d x free = absurd (let y = sym moves ∙ ap moves_some e in cc)

    own_one : (m : Member) (d : Doing) → Goes m d → Own m d
    own_one m d x free = record {
      cycles_behind = fact.behind (goes_onward operation (highest_value fact.ps) fact.lowest x.owner.runner.has);
      few = fact.few (goes_onward operation (highest_value fact.ps) fact.lowest x.owner.runner.has);
      hart = x.hart;
      private = x.private;
      at = x.at;
      node = subst (λ r. StandsInNode places nestings setting r (settle d) x.hart) (sym (runs_there operation refl m d x free)) x.node;
    }

    pub own_moved : Both Own the_members doings
    own_moved = both_are Goes Own own_one the_members doings goes

    on_by : (step : Option (Step Position)) → DoesStep operation step → halts step ≡ false
    on_by None does' = absurd does'
    on_by (Some step) does' = ap is_halt does' ∙ moves_on operation moves

    on_all : (xs : List Doing) → AllDo operation xs → AllOn xs
    on_all [] do' = tt
    on_all (d ∷ xs) do' = (on_by d.acting.due do'.0, on_all xs do'.1)

    pub moved_left : LockLeft (of_node g nodes left.afters) (of_node g nodes ps) (of_node g nodes ds)
    moved_left = inr (has_moved.committed, on_all doings all_step)

    module _ (at_changed : (k : ℕ) → changed k ≡ true → plan'.in_lockstep k ≡ true
        → At core image places nestings cycles firsts main setting old (tree_after old ds) spaces nodes nodes' t stages hs ps ds own own' control the_law leads before left has behind.sound
        behind.spaced round.does round.steps changed move on next k)
        (lock_changed : (k : ℕ) → changed k ≡ true → plan.in_lockstep k ≡ true → LockLeft (of_node k nodes left.afters) (of_node k nodes ps) (of_node k nodes ds)) where
      abbrev distance_of : ℕ → ℕ
      distance_of k =
          (near core image places nestings cycles firsts main setting old (tree_after old ds) spaces nodes nodes' t stages hs ps ds own own' control the_law leads before left has behind.sound
          behind.spaced round.does round.steps changed move on next at_changed lock_changed k).distance

      pub moved_each : AtNode core image places nestings cycles firsts main setting old (tree_after old ds) spaces nodes nodes' t stages hs ps ds own own' control the_law leads before left has
          behind.sound behind.spaced round.does round.steps changed move on next at_changed lock_changed g operation Own
      moved_each m p d known' lt land home s0 a locks alone due' remains on' =
          let one = locks (ap (λ k. plan.in_lockstep k) known'.0 ∙ lock) in
          let soon : (k : ℕ) → distance_of k ≤ most_between = λ k. (near core image places nestings cycles firsts main setting old (tree_after old ds) spaces nodes nodes' t stages hs ps ds own own' control the_law leads before left has behind.sound
          behind.spaced round.does round.steps changed move on next at_changed lock_changed k).soon in
          ⊎_elim
          (λ locked.
          steps_to_group core image places nestings cycles firsts main setting old (tree_after old ds) spaces nodes nodes' the_law leads behind.spaced behind.sound (later t) run (actings ds)
          distance_of soon m p d (is_busy operation d p known'.1) a locked one on')
          (λ free.
          let x = known'.2 free in
          steps_apart core image places nestings cycles firsts main setting old (tree_after old ds) spaces nodes nodes' the_law leads behind.spaced behind.sound (later t) run (actings ds) distance_of
          soon m p d lt home (is_busy operation d p known'.1) a free one x.cycles_behind x.hart x.few x.private x.at x.node on')
          (cases_Bool (plan'.in_lockstep (new.places m.number)))

  -- ---- groups in lockstep to which they have come

  abbrev pub AtStep : ℕ → Type 0
  AtStep k =
      At core image places nestings cycles firsts main setting old (tree_after old ds) spaces nodes nodes' t stages hs ps ds own own' control the_law leads before left has behind.sound behind.spaced
      round.does round.steps changed move on next k

  at_new : (k b : ℕ) → b ≤ most_behind → k ≢ 0 → plan'.in_lockstep k ≡ true → IsAtRest (first_of spaces k) control → AllHaveCommitted (of_node k nodes' left.afters)
      → AllAre (λ m d. (tree_after old ds).places m.number ≡ k → GoesInto image places nestings setting (later t) b settle m d) 0 hs ds → AtStep k
  at_new k b few ne locked rest committed all =
      let kind' = lockstep_kind (trees.kind new k) locked in
      let is_there = kind_there (new.nodes k) Lockstep kind' in
      let node : IsNode new spaces k = record { spaced = behind.spaced; there = is_there; given = some-given setting.processors new behind.sound k (not_none (new.nodes k) is_there) } in
      let many = all_new in
      let x = gathered core image places nestings setting new spaces (later t) settle k b ne 0 nodes' hs left.afters ds (omega (arith, many)) there new_afters new_doings on all in
      let are = of_map settle k nodes' ds in
      let ms = of_node k nodes' (numbered 0 hs) in
      let come = groups_come_to_commits core image places nestings cycles firsts main setting new spaces nodes' (later t) b k ms (map settle (of_node k nodes' ds)) control the_law leads node
      (record { kind = kind'; space = x.ranges }) run x.below few
      (private_run image (plan'.words k) (later t) b ms x.harts control
      (λ ms' own''. IsAtRest (first_of spaces k) own'' × AreMembers places nestings setting (λ p. None) (first_of spaces k) ms' (map settle (of_node k nodes' ds))) x.runs (rest, x.members))
      (subst (HaveNext core nestings) are (next k locked committed)) in
      record {
        distance = come.distance;
        soon = come.soon;
        goes = inr (
          committed,
          subst
              (λ l.
              Together (core_source core setting) image (plan'.words k) (later t) 1 come.distance ms l control (blocks'.AfterAll (later (in_cycles come.distance (later t))) k))
              (sym (of_map (landed core) k nodes' (map settle ds) ∙ ap (all_landed core) are)) come.together,
        );
      }

  low_first : (k : ℕ) → k ≢ 0 → first_of spaces k ≡ (spaces k).low
  low_first zero ne = absurd (ne refl)
  low_first (suc k) ne = refl

  -- ---- a part that begins

  abbrev IsPart : ℕ → Type 0
  IsPart m = after.IsPart setting.processors old before.sound ds round long m

  module _ (m : ℕ) (x : IsPart m) (locked : plan'.in_lockstep m ≡ true) where
    abbrev by : SplitKind
    by = x.kind

    abbrev GoesBy : Member → Doing → Type 0
    GoesBy n d = Goes x.group (o.Split x.kind) refl x.does n d

    abbrev its_fact : HaveMoved core image places nestings setting (first_of spaces x.group) (later t) (of_node x.group nodes ds) (of_node x.group nodes (numbered 0 hs)) (own' x.group)
    its_fact = fact x.group (o.Split x.kind) refl x.does

    abbrev cycles_to : ℕ
    cycles_to = (fact x.group (o.Split x.kind) refl x.does).behind (enters x.kind (Some x.number))

    above : old.given ≤ m
    above = let is_part = x.is in let from = after.parts_above setting.processors old before.sound ds round long x.group in omega (arith, is_part, from)

    group_given : x.group < old.given
    group_given = given x.group (o.Split x.kind) refl x.does

    group_not_root : x.group ≢ 0
    group_not_root = not_root x.group (o.Split x.kind) refl x.does

    part_not_root : m ≢ 0
    part_not_root e = let le = above in let lt = group_given in omega (arith, e, le, lt)

    part_locks : trees.kind (tree_after old ds) m ≡ Some Lockstep
    part_locks = lockstep_kind (trees.kind new m) locked

    part_there : is_some ((tree_after old ds).nodes m) ≡ true
    part_there = kind_there (new.nodes m) Lockstep part_locks

    -- who is there has entered it
    entered : (h : ℕ) → h < setting.processors → (tree_after old ds).places h ≡ m → (old.places h ≡ x.group) × (part x.kind (values (who (actings ds) h)) ≡ Some x.number)
    entered h lt at = after.entered setting.processors old before.sound ds round long m h x lt at

    into : (n : Member) (d : Doing) → n.number < setting.processors → (old.places n.number ≡ x.group → GoesBy n d) → (tree_after old ds).places n.number ≡ m
        → GoesInto image places nestings setting (later t) cycles_to settle n d
    into n d lt goes' at =
        let from = entered n.number lt at in
        let y = goes' from.0 in
        let chosen : part x.kind (values y.owner.runner.has) ≡ Some x.number = ap (λ q. part x.kind (values q)) (sym y.here_is.who_is) ∙ from.1 in
        record {
          hart = y.hart;
          private = subst (λ z. RunsPrivately image (later t) n.number (its_fact.behind (enters x.kind z)) n.hart y.hart) chosen y.private;
          at = y.at;
          node = y.node;
        }

    -- nobody has arrived at its words
    part_rest : IsAtRest (first_of spaces m) (own' x.group)
    part_rest =
        let h = lowest (trees.members new m) in
        let member = lowest_there (trees.members new m) (λ empty. not_none (new.nodes m) part_there (behind.sound.living m empty)) in
        let lt = behind.sound.within m h member in
        let at : new.places h ≡ m = leaf_place setting.processors new behind.sound m h part_locks member in
        let harts = (many_length nodes hs ds left.done_as_many) in
        let many = before.many in
        let few = harts.0 in
        let did = harts.1 in
        let one = at_number (λ n d. old.places n.number ≡ x.group → GoesBy n d) 0 h hs ds (omega (arith, lt, many, few)) (omega (arith, few, did)) (each_goes x.group (o.Split x.kind) refl x.does) in
        let none : 0 + h ≡ h = omega arith in
        let number : one.member.number ≡ h = one.number_is ∙ none in
        let at_one : new.places one.member.number ≡ m = ap new.places number ∙ at in
        let y = one.own (entered one.member.number (subst (λ k. k < setting.processors) (sym number) lt) at_one).0 in
        subst (λ w. IsAtRest w (own' x.group)) (y.words ∙ ap (first_of spaces) at_one) (y.rests x.kind refl)

    -- they were its group's
    part_owned : (word : ℕ) → first_of spaces m ≤ word → word < first_of spaces m + 8 → control word ≡ own' x.group word
    part_owned word from below =
        let up = after.part_parent setting.processors old before.sound ds round long m x (not_none (new.nodes m) part_there) in
        let inside = subst (λ k. LiesIn (spaces m) (spaces k)) up (behind.spaced.nested m part_not_root part_there (λ z. group_not_root (sym up ∙ z))) in
        let header = behind.spaced.header m part_not_root part_there in
        let low = low_first m part_not_root in
        let above' = inside.above in
        let below' = inside.below in
        has x.group word
        ((owns_space old spaces nodes x.group (spaces x.group) group_not_root (here_was x.group (o.Split x.kind) refl x.does) (kind x.group (o.Split x.kind) refl x.does) (refl, refl)).own word
        (omega (arith, from, low, above')) (omega (arith, below, low, header, below')))

    part_at_rest : IsAtRest (first_of spaces m) control
    part_at_rest = record {
      barrier = part_owned (first_of spaces m + barrier_word) (omega arith) (omega arith) ∙ part_rest.barrier;
      closing = part_owned (first_of spaces m + closing_word) (omega arith) (omega arith) ∙ part_rest.closing;
    }

    part_committed : AllHaveCommitted (of_node m nodes' left.afters)
    part_committed =
        let many = before.many in
        committed_there old new x.group m 0 nodes nodes' hs left.afters before.stand there left.as_many new_afters (λ h le lt at. (entered h (omega (arith, lt, many)) at).0)
        (has_moved x.group (o.Split x.kind) refl x.does).committed

    pub part_begins : AtStep m
    part_begins =
        let many = before.many in
        let few = (many_length nodes hs ds left.done_as_many).0 in
        at_new m cycles_to (its_fact.few (enters x.kind (Some x.number))) part_not_root locked part_at_rest part_committed
        (all_are (λ n d. old.places n.number ≡ x.group → GoesBy n d) (λ n d. new.places n.number ≡ m → GoesInto image places nestings setting (later t) cycles_to settle n d) setting.processors 0 hs ds
        (omega (arith, many, few)) into (each_goes x.group (o.Split x.kind) refl x.does))

  -- ---- a part that some have left

  module _ (g : ℕ) (is : round.does g ≡ Some o.Shrink) (locked : plan'.in_lockstep g ≡ true) where
    abbrev Stays : Member → Doing → Type 0
    Stays n d = Goes g o.Shrink refl is n d

    abbrev loop_fact : HaveMoved core image places nestings setting (first_of spaces g) (later t) (of_node g nodes ds) (of_node g nodes (numbered 0 hs)) (own' g)
    loop_fact = fact g o.Shrink refl is

    loop_group : trees.kind old g ≡ Some Lockstep
    loop_group = kind g o.Shrink refl is

    has_stayed : (h : ℕ) → h < setting.processors → (tree_after old ds).places h ≡ g → (b : Bool) → stays (who (actings ds) h) ≡ b → b ≡ true
    has_stayed h lt at true e = refl
    has_stayed h lt at false e =
        absurd
        (after.no_group_waits setting.processors old before.sound g loop_group g loop_group
        (sym (after.leave_place setting.processors old before.sound ds round long h g lt (was_here g o.Shrink refl is h lt at) is e) ∙ at))

    into_loop : (n : Member) (d : Doing) → n.number < setting.processors → (old.places n.number ≡ g → Stays n d) → (tree_after old ds).places n.number ≡ g
        → GoesInto image places nestings setting (later t) (loop_fact.behind true) settle n d
    into_loop n d lt goes' at =
        let y = goes' (was_here g o.Shrink refl is n.number lt at) in
        let stayed : stays y.owner.runner.has ≡ true = ap stays (sym y.here_is.who_is) ∙ has_stayed n.number lt at (stays (who (actings ds) n.number)) refl in
        record {
          hart = y.hart;
          private = subst (λ b. RunsPrivately image (later t) n.number (loop_fact.behind b) n.hart y.hart) stayed y.private;
          at = y.at;
          node = y.node;
        }

    pub loop_goes_on : AtStep g
    loop_goes_on =
        let many = before.many in
        let few = (many_length nodes hs ds left.done_as_many).0 in
        at_new g (loop_fact.behind true) (loop_fact.few true) (not_root g o.Shrink refl is) locked
        (record { barrier = word_is_zero g o.Shrink refl is 0 (omega arith) refl; closing = word_is_zero g o.Shrink refl is 1 (omega arith) refl }) (gone_here g o.Shrink refl is)
        (all_are (λ n d. old.places n.number ≡ g → Stays n d) (λ n d. new.places n.number ≡ g → GoesInto image places nestings setting (later t) (loop_fact.behind true) settle n d) setting.processors 0 hs ds
        (omega (arith, many, few)) into_loop (each_goes g o.Shrink refl is))

  -- ---- words by which members meet

  -- those of a group that waits for its parts
  module _ (g : ℕ) (by : SplitKind) (is : round.does g ≡ Some (o.Split by)) (stages' : List Stage)
      (change : AllChange (core_source core setting) image plan blocks plan' blocks' (later t) (numbered 0 hs) nodes nodes' left.afters stages' ps
      (all_landed core (owners_after old (tree_after old ds) ds))) where
    abbrev waits_by : Kind
    waits_by = Waiting (after.first_of_parts setting.processors old before.sound ds round long g) (after.count_at setting.processors old before.sound ds round long g by)

    kind_now : trees.kind (tree_after old ds) g ≡ Some waits_by
    kind_now = after.split_kind setting.processors old before.sound ds round long g by is

    -- nobody runs a body there
    no_meeters : (k : ℕ) → k ≢ 0 → trees.kind (tree_after old ds) k ≡ Some waits_by → meeters_at (tree_after old ds) k 0 ≡ []
    no_meeters zero ne e = absurd (ne refl)
    no_meeters (suc k) ne e = ap (λ y. body_at y (suc k) (trees.members new (suc k))) e

    abbrev its_not_root : g ≢ 0
    its_not_root = not_root g (o.Split by) refl is

    meeters_up : (offset : ℕ) → is_ascending (meeters_at (tree_after old ds) g offset) ≡ true
    meeters_up zero = ap is_ascending (no_meeters g its_not_root kind_now)
    meeters_up (suc zero) = behind.sound.ascending g
    meeters_up (suc (suc i)) = refl

    meeters_among : (offset h : ℕ) → is_member h (meeters_at (tree_after old ds) g offset) ≡ true → is_member h (trees.members (tree_after old ds) g) ≡ true
    meeters_among zero h member = absurd (false≢true (sym (ap (λ l. is_member h l) (no_meeters g its_not_root kind_now)) ∙ member))
    meeters_among (suc zero) h member = member
    meeters_among (suc (suc i)) h member = absurd (false≢true member)

    pub split_opens : (w : ℕ) → IsOpen plan' g w → MeetingOpens (core_source core setting) image plan blocks plan' blocks' g w left.afters stages' control
    split_opens w is_open =
        node_opens core image places nestings setting old new spaces nodes nodes' (later t) hs left.afters ps (all_landed core (owners_after old new ds)) control behind all_new new_afters g
        (kind_there (new.nodes g) waits_by kind_now) (ap is_lockstep kind_now) (gone_here g (o.Split by) refl is) (word_is_zero g (o.Split by) refl is) meeters_up meeters_among stages' change w is_open

  -- a group that has ended has none, and neither has one that isn't in lockstep because all have left it
  pub end_has_none : (g : ℕ) → round.does g ≡ Some o.End → (w : ℕ) → IsOpen plan' g w → ⊥
  end_has_none g is w is_open =
      false≢true (sym (ap (λ x. is_some x) (after.ends setting.processors old before.sound ds round long g is)) ∙ own_there new spaces g w is_open.0)

  pub loop_has_none : (g : ℕ) → round.does g ≡ Some o.Shrink → plan'.in_lockstep g ≡ false → (w : ℕ) → IsOpen plan' g w → ⊥
  loop_has_none g is free w is_open =
      let some = not_none (new.nodes g) (own_there new spaces g w is_open.0) in
      false≢true (sym free ∙ ap is_lockstep (after.loop_kind setting.processors old before.sound ds round long g is some ∙ kind g o.Shrink refl is))
