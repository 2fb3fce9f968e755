-- Behind the round in which a group comes to a body each of its members is by itself.
use Rattle.std.proofs.Common.{◌≡◌, ℕ, zero, suc, ◌+◌, ◌≤◌, ◌<◌, List, [], ◌∷◌, length, Option, Some, None, Bool, true, false, sym, ap, subst, ◌∙◌, refl, arith, inr, ⊎_elim, eq-eqb}
use Rattle.std.specs.Prelude.{◌==◌, ◌||◌, map, is_some, slice_get, if◌then◌else◌}
use Rattle.std.proofs.lemmas.Bool.{ne_eqb, eqb-true, false≢true, and_parts, or_cases, or_left}
use Rattle.std.proofs.lemmas.List.{length-map}
use Rattle.fk_num.specs.Word.{Memory}
use Rattle.fk_space.specs.Space.{Space}
use Rattle.fk_tree.specs.declared.node.Kind.TheVariants.{Lockstep, Asynchronous}
use Rattle.fk_tree.specs.Tree as trees
use Rattle.fk_tree.specs.Tree.{Tree, kind_of, members_of, turned, is_member}
use Rattle.fk_tree.specs.Sound.{is_below_all, is_ascending}
use Rattle.fk_tree.proofs.Lists.{below_all-member}
use Rattle.fk_tree.proofs.Shapes.{members-turned, kind-turned, some-given}
use Rattle.fk_meaning_operation.specs.declared.operation.Operation.{Operation}
use Rattle.fk_meaning_operation.specs.declared.operation.Operation.TheVariants.{Begin, Farm, Seq}
use Rattle.fk_meaning.specs.Processor.{Setting}
use Rattle.fk_meaning.specs.Round.{Step, lowest}
use Rattle.fk_core.specs.declared.op.CoreOp.{CoreOp}
use Rattle.fk_core.specs.Next.{Position}
use Rattle.fk_image.specs.declared.Image.{Image}
use Rattle.fk_machine.specs.Hart.{Hart, Setting as MachineSetting}
use Rattle.fk_sim_nodes.specs.Node.{Member, numbered, add, of_node, Has}
use Rattle.fk_sim_nodes.specs.Alone.{later, RunsPrivately}
use Rattle.fk_sim_match.specs.Stage.{Stage}
use Rattle.fk_sim_match.specs.Plan.{Plan, Blocks, IsOpen}
use Rattle.fk_sim_match.specs.Cycle.{AllHaveCommitted, NodeIsLeft, GroupIsLeft, IsLeft}
use Rattle.fk_sim_match.specs.Change.{HasSame, AllChange, MeetingOpens}
use Rattle.fk_sim_match.proofs.Changes.{same_of}
use Rattle.fk_lockstep.specs.Untouched.{changes_tree}
use Rattle.fk_sim_block.specs.Owner.{Owner, Doing, number_of, core_source}
use Rattle.fk_sim_block.specs.Stands as law
use Rattle.fk_sim_block.specs.Stands.{Places}
use Rattle.fk_sim_block.specs.Block.{most_behind, IsRunning}
use Rattle.fk_sim_block.specs.Node.{Nestings, StandsInNode, first_word}
use Rattle.fk_sim_block.specs.Lockstep.{is_due, stepped, highest_value, IsMember, AllComeByWay, IsLowest, one_runs}
use Rattle.fk_sim_block.specs.Parts.{size_behind, AllMove}
use Rattle.fk_sim_block.specs.Law.{Cycles, GroupLaw}
use Rattle.fk_sim_match.specs.Nodes.{first_of, is_arrival, is_lockstep, body_at, meeters_at, plan_of}
use Rattle.fk_sim_match.specs.Behind.{runs_of, HaveMoved, blocks_of, IsAskedToMove, bodies_behind}
use Rattle.fk_sim_match.proofs.Nodes.{tells}
use Rattle.fk_sim_match.proofs.Rounds.{not_none}
use Rattle.fk_sim_rounds.specs.Next.{JumpsLead, all_landed}
use Rattle.fk_lockstep_nodes.specs.Steps.{StepsBy}
use Rattle.fk_sim_rounds.specs.After.{actings, owner_after, owners_after, halts, is_halt, DoesStep, AllGoOn, GroupsGoOn}
use Rattle.fk_sim_rounds.specs.Rounds.{IsBefore, IsTree}
use Rattle.fk_sim_rounds.proofs.Agreed.{member_place, place_member}
use Rattle.fk_sim_rounds.proofs.Keep.{AllOn, AllAtHome}
use Rattle.fk_sim_rounds.proofs.Harts.{LockLeft, steps_apart}
use Rattle.fk_sim_rounds.proofs.Groups.{Stands, somebody, there_are, at_home, many_length}
use Rattle.fk_sim_rounds.proofs.Changed.{running, At, near, AtNode}
use Rattle.fk_sim_rounds.proofs.Moved.{kind_there, lowest_there, is_busy, many_moved, TreeMoves}
use Rattle.fk_sim_rounds.proofs.Close.{AllDo, all_do}
use Rattle.fk_sim_rounds.proofs.Acted.{Both, acted}
use Rattle.fk_sim_rounds.proofs.Opens.{opens as node_opens}

-- ---- the lowest of a node

lowest_below : (i : ℕ) (ms : List ℕ) → is_ascending ms ≡ true → is_member i ms ≡ true → lowest ms ≤ i
lowest_below i [] up is = absurd (false≢true is)
lowest_below i (m ∷ ms) up is =
    let parts = and_parts (is_below_all m ms) (is_ascending ms) up in
    ⊎_elim (λ e. let same = eqb-true i m e in omega (arith, same)) (λ rest. let lt = below_all-member m ms i parts.0 rest in omega (arith, lt)) (or_cases (i == m) (is_member i ms) is)

abbrev first_number : (other : ℕ) → List Member → ℕ
first_number other [] = other
first_number other (m ∷ ms) = m.number

-- stands first among those who stand there
first_stands : (g number k : ℕ) (ns : List ℕ) (hs : List Hart) (other : ℕ) → length ns ≡ length hs → slice_get ns k ≡ Some g → ((i : ℕ) → i < k → slice_get ns i ≡ Some g → ⊥)
    → first_number other (of_node g ns (numbered number hs)) ≡ number + k
first_stands g number zero (n ∷ ns) (h ∷ hs) other many at away =
    let same : n ≡ g = cc in
    ap (λ b. first_number other (add b (record { number = number; hart = h }) (of_node g ns (numbered (suc number) hs)))) (eq-eqb n g same) ∙ omega arith
first_stands g number (suc k) (n ∷ ns) (h ∷ hs) other many at away =
    ap (λ b. first_number other (add b (record { number = number; hart = h }) (of_node g ns (numbered (suc number) hs)))) (ne_eqb n g (λ e. away 0 (omega arith) (ap (λ x. Some x) e)))
    ∙ first_stands g (suc number) k ns hs other (omega (arith, many)) at (λ i lt there. away (suc i) (omega (arith, lt)) there) ∙ omega arith
first_stands g number k [] hs other many at away = absurd (cc)
first_stands g number k (n ∷ ns) [] other many at away = absurd (omega (arith, many))

-- ---- who runs a body

-- the body of a step runs by all members, or by the lowest alone
abbrev pub runs_alone : Operation → Option Bool
runs_alone Farm = Some false
runs_alone Seq = Some true
runs_alone operation = None

body_one : (ms : List ℕ) → (ms ≡ [] → ⊥) → trees.runs (Asynchronous true) ms ≡ lowest ms ∷ []
body_one [] some = absurd (some refl)
body_one (m ∷ ms) some = refl

body_up : (alone : Bool) (ms : List ℕ) → is_ascending ms ≡ true → is_ascending (trees.runs (Asynchronous alone) ms) ≡ true
body_up true [] up = refl
body_up true (m ∷ ms) up = refl
body_up false ms up = up

body_among : (alone : Bool) (h : ℕ) (ms : List ℕ) → is_member h (trees.runs (Asynchronous alone) ms) ≡ true → is_member h ms ≡ true
body_among true h [] is = is
body_among true h (m ∷ ms) is = ⊎_elim (λ e. or_left (h == m) (is_member h ms) e) (λ no. absurd (false≢true no)) (or_cases (h == m) false is)
body_among false h ms is = is

or_none : (b : Bool) → (b || false) ≡ b
or_none true = refl
or_none false = refl

-- how a member of a node that is a body now goes on by itself: so many private instructions lead it to where its processor goes on
pub record GoesApart (image : Image) (places : Places) (nestings : Nestings) (setting : Setting) (t : MachineSetting) (plan' : Plan) (first : ℕ) (settle : Doing → Owner) (m : Member) (d : Doing) : Type 0 where
  pub cycles_behind : ℕ
  pub few : cycles_behind ≤ most_behind
  pub hart : Hart
  pub private : RunsPrivately image t m.number cycles_behind m.hart hart
  pub at : law.StandsAt places (settle d) hart
  pub node : StandsInNode places nestings setting (runs_of plan' first m.number) (settle d) hart

module _ (core : List CoreOp) (image : Image) (places : Places) (nestings : Nestings) (cycles : Cycles) (firsts : List ℕ) (main : ℕ) (setting : Setting) (old new : Tree) (spaces : ℕ → Space) (nodes nodes' : List ℕ)
    (t : MachineSetting) (stages : List Stage) (hs : List Hart) (ps : List Owner) (ds : List Doing) (own own' : ℕ → Memory) (control : Memory)
    (the_law : GroupLaw core image places nestings cycles firsts main) (leads : JumpsLead core) (before : IsBefore core image setting old spaces nodes t stages hs ps)
    (left : IsLeft (core_source core setting) image (plan_of old spaces nodes) (blocks_of core image places nestings setting (plan_of old spaces nodes) (first_of spaces)) t stages hs ps ds own own')
    (has : (g : ℕ) → Has ((plan_of old spaces nodes).words g) control (own' g)) (behind : IsTree setting new spaces)
    (does : ℕ → Option Operation) (steps : StepsBy old does 0 (actings ds)) (changed : ℕ → Bool) (move : TreeMoves old new setting.processors does nodes nodes' changed)
    (on : AllGoOn core nestings setting new spaces 0 left.afters ds (owners_after old new ds)) (next : GroupsGoOn core nestings new nodes' left.afters (owners_after old new ds))
    (g : ℕ) (alone : Bool) (operation : Operation) (is : runs_alone operation ≡ Some alone) (here : does g ≡ Some operation) (kind : trees.kind old g ≡ Some Lockstep)
    (turns : new.nodes g ≡ turned (Asynchronous alone) (old.nodes g)) (stay : (h : ℕ) → h < setting.processors → old.places h ≡ g → new.places h ≡ g) (alike : HasSame g nodes nodes') where
  abbrev plan : Plan
  plan = plan_of old spaces nodes

  abbrev blocks : Blocks Owner Doing
  blocks = blocks_of core image places nestings setting (plan_of old spaces nodes) (first_of spaces)

  abbrev plan' : Plan
  plan' = plan_of new spaces nodes'

  abbrev blocks' : Blocks Owner Doing
  blocks' = blocks_of core image places nestings setting (plan_of new spaces nodes') (first_of spaces)

  abbrev settle : Doing → Owner
  settle d = owner_after (actings ds) old new d

  there : is_some (old.nodes g) ≡ true
  there = kind_there (old.nodes g) Lockstep kind

  kind' : trees.kind new g ≡ Some (Asynchronous alone)
  kind' = ap kind_of turns ∙ kind-turned (Asynchronous alone) (old.nodes g) (not_none (old.nodes g) there)

  there' : is_some (new.nodes g) ≡ true
  there' = kind_there (new.nodes g) (Asynchronous alone) kind'

  same_members : trees.members new g ≡ trees.members old g
  same_members = ap members_of turns ∙ members-turned (Asynchronous alone) (old.nodes g)

  given : g < old.given
  given = some-given setting.processors old before.sound g (not_none (old.nodes g) there)

  given' : g < new.given
  given' = some-given setting.processors new behind.sound g (not_none (new.nodes g) there')

  lock : plan.in_lockstep g ≡ true
  lock = ap is_lockstep kind

  free : plan'.in_lockstep g ≡ false
  free = ap is_lockstep kind'

  abbrev run : IsRunning image setting (later t)
  run =
      running core image places nestings cycles firsts main setting old new spaces nodes nodes' t stages hs ps ds own own' control the_law leads before left has behind.sound
      behind.spaced does steps changed move on next

  -- ---- its members

  abbrev the_members : List Member
  the_members = of_node g nodes (numbered 0 hs)

  abbrev doings : List Doing
  doings = of_node g nodes ds

  abbrev Home : List Member → List Doing → Type 0
  Home ms xs =
      AllAtHome core image places nestings cycles firsts main setting old new spaces nodes nodes' the_law leads behind.spaced behind.sound (later t) run (actings ds) g ms xs

  home : Home the_members doings
  home =
      let many = before.many in
      at_home core image places nestings cycles firsts main setting old new spaces nodes nodes' the_law leads behind.spaced behind.sound (later t) run ds g 0 nodes hs left.afters
      ds before.stand stay (omega (arith, many)) left.as_many left.done_as_many on

  stands : Stands nodes g
  stands = somebody setting.processors old before.sound nodes before.stand before.many g kind

  some_doings : length doings ≡ 0 → ⊥
  some_doings = there_are nodes g ds stands (many_length nodes hs ds left.done_as_many).1

  all_step : AllDo operation doings
  all_step = all_do old does g 0 operation nodes ds here before.stand steps

  -- what its commit has left
  record Parted : Type 0 where
    committed : AllHaveCommitted (of_node g nodes left.afters)
    parted : HaveMoved core image places nestings setting (first_of spaces g) (later t) doings the_members (own' g)
    same : parted.operation ≡ operation

  no_begin : Begin ≡ operation → ⊥
  no_begin e = let f : None ≡ Some alone = ap runs_alone e ∙ is in absurd (cc)

  changes_by : (operation : Operation) → runs_alone operation ≡ Some alone → changes_tree operation ≡ true
  changes_by Farm is' = refl
  changes_by Seq is' = refl
  changes_by operation is' = absurd (cc)

  as_group : GroupIsLeft (core_source core setting) image plan blocks (later t) g (of_node g nodes left.afters) the_members (of_node g nodes ps) doings (own' g)
  as_group =
      subst (λ b. NodeIsLeft (core_source core setting) image plan blocks b (later t) g (of_node g nodes left.afters) the_members (of_node g nodes ps) doings (own' g)) lock (left.nodes g)

  all_parted : Parted
  all_parted =
      let x = acted core image places nestings setting plan (first_of spaces) (later t) g (of_node g nodes left.afters) the_members (of_node g nodes ps) doings (own' g) operation all_step some_doings
      (changes_by operation is) as_group in
      ⊎_elim (λ moved. record { committed = x.committed; parted = moved.0; same = moved.1 }) (λ begun. absurd (no_begin begun.1)) x.how

  -- ---- each by itself

  abbrev Apart : Member → Doing → Type 0
  Apart m d = GoesApart image places nestings setting (later t) plan' (first_of spaces g) settle m d

  goes_apart : (b : ℕ) (runs : Option ℕ) (begin : ℕ) (m : Member) (hart : Hart) (d : Doing) (p : Owner) → b ≤ most_behind → RunsPrivately image (later t) m.number b m.hart hart
      → IsMember places nestings setting runs begin (record m { hart = hart }) p → settle d ≡ p → runs ≡ runs_of plan' (first_of spaces g) m.number → Apart m d
  goes_apart b runs begin m hart d p few private member settles same_runs = record {
    cycles_behind = b;
    few = few;
    hart = hart;
    private = private;
    at = subst (λ q. law.StandsAt places q hart) (sym settles) member.at;
    node = subst (λ r. StandsInNode places nestings setting r (settle d) hart) same_runs (subst (λ q. StandsInNode places nestings setting runs q hart) (sym settles) member.node);
  }

  body_is : meeters_at new g 0 ≡ trees.runs (Asynchronous alone) (trees.members new g)
  body_is = ap (λ k. body_at k g (trees.members new g)) kind'

  runs_by : (number : ℕ) (body : List ℕ) → trees.runs (Asynchronous alone) (trees.members new g) ≡ body
      → runs_of plan' (first_of spaces g) number ≡ (if is_member number body then Some (length body) else None)
  runs_by number body e =
      let tell = tells new spaces behind.spaced nodes' g 0 there' given' (omega arith) in
      let w = first_of spaces g + 0 in
      ap (λ b. if b then Some (plan'.size w) else None) (tell.member number ∙ ap (λ l. is_member number l) (body_is ∙ e))
      ∙ ap (λ n. if is_member number body then Some n else None) (tell.size ∙ ap (λ l. length l) (body_is ∙ e))

  is_there : (number : ℕ) → number < setting.processors → old.places number ≡ g → is_member number (trees.members new g) ≡ true
  is_there number lt at =
      ap (λ l. is_member number l) same_members ∙ subst (λ k. is_member number (trees.members old k) ≡ true) at (before.sound.placed number lt).member

  -- a `farm`
  all_free : (i : ℕ) (op : CoreOp) (behind_way : Bool → ℕ) (value least : ℕ) (size : Owner → ℕ) (ms : List Member) (xs : List Owner) → alone ≡ false
      → ((onward : Bool) → behind_way onward ≤ most_behind) → Home ms (map (is_due core i op Farm) xs)
      → AllComeByWay core image places nestings i op Farm setting (later t) behind_way (λ p. bodies_behind setting Farm least p) value least size ms xs
      → Both Apart ms (map (is_due core i op Farm) xs)
  all_free i op behind_way value least size [] [] every few home come = tt
  all_free i op behind_way value least size (m ∷ ms) (p ∷ xs) every few home come =
      let here = home.0 in
      let member = is_there m.number here.2 here.0 in
      let size_is : p.runner.has.level.size ≡ length (trees.members new g) = here.3.size ∙ ap (λ k. length (trees.members new k)) here.1 in
      let body = runs_by m.number (trees.members new g) (ap (λ a. trees.runs (Asynchronous a) (trees.members new g)) every) in
      let q = stepped core i op Farm value least (size p) p in (
        goes_apart (behind_way true) (Some p.runner.has.level.size) (first_word q.runner.has.level q.runner.has.outer) m come.0.hart (is_due core i op Farm p) q (few true) come.0.runs come.0.member refl
            (ap (λ n. Some n) size_is ∙ sym (body ∙ ap (λ x. if x then Some (length (trees.members new g)) else None) member)),
        all_free i op behind_way value least size ms xs every few home.1 come.1,
      )
  all_free i op behind_way value least size ms xs every few home come = absurd (assumption come)

  -- a `seq`
  abbrev low : ℕ
  low = lowest (trees.members old g)

  abbrev low_at : ℕ → ℕ
  low_at k = lowest (trees.members old k)

  some_members : trees.members old g ≡ [] → ⊥
  some_members empty = not_none (old.nodes g) there (before.sound.living g empty)

  first_low : (other : ℕ) → first_number other the_members ≡ low
  first_low other =
      let at = member_place setting.processors old before.sound nodes before.stand before.many g low kind (lowest_there (trees.members old g) some_members) in
      let zero_is : 0 + low ≡ low = omega arith in
      first_stands g 0 low nodes hs other (many_length nodes hs ds left.done_as_many).0 at
      (λ i lt here.
      let le = lowest_below i (trees.members old g) (before.sound.ascending g) (place_member setting.processors old before.sound nodes before.stand before.many g i here) in
      omega (arith, le, lt))
      ∙ zero_is

  lowest_is : (i : ℕ) (op : CoreOp) (least : ℕ) (ms : List Member) (xs : List Owner) → (length xs ≡ 0 → ⊥) → first_number 0 ms ≡ low → Home ms (map (is_due core i op Seq) xs)
      → IsLowest least xs → least ≡ low
  lowest_is i op least (m ∷ ms) (p ∷ xs) some first home one = sym (eqb-true (number_of p) least one.0) ∙ home.0.3.number_is ∙ first
  lowest_is i op least ms [] some first home one = absurd (some refl)
  lowest_is i op least [] (p ∷ xs) some first home one = absurd (assumption home)

  all_sent : (i : ℕ) (op : CoreOp) (behind_way : Bool → ℕ) (value least : ℕ) (size : Owner → ℕ) (ms : List Member) (xs : List Owner) → alone ≡ true
      → ((onward : Bool) → behind_way onward ≤ most_behind) → Home ms (map (is_due core i op Seq) xs) → least ≡ low
      → AllComeByWay core image places nestings i op Seq setting (later t) behind_way (λ p. bodies_behind setting Seq least p) value least size ms xs
      → Both Apart ms (map (is_due core i op Seq) xs)
  all_sent i op behind_way value least size [] [] one few home e come = tt
  all_sent i op behind_way value least size (m ∷ ms) (p ∷ xs) one few home e come =
      let here = home.0 in
      let number : number_of p ≡ m.number = here.3.number_is in
      let by = runs_by m.number (low ∷ [])
      (ap (λ a. trees.runs (Asynchronous a) (trees.members new g)) one ∙ ap (λ l. trees.runs (Asynchronous true) l) same_members ∙ body_one (trees.members old g) some_members) in
      let q = stepped core i op Seq value least (size p) p in
      let settles : settle (is_due core i op Seq p) ≡ q
      = ap (λ l. stepped core i op Seq value l (size p) p)
      (ap (λ h. low_at (old.places h)) number ∙ ap low_at here.0 ∙ sym e) in
      let same : one_runs least p ≡ runs_of plan' (first_of spaces g) m.number
      = ap (λ k. if k == least then Some 1 else None) number ∙ ap (λ l. if m.number == l then Some 1 else None) e
      ∙ sym (by ∙ ap (λ x. if x then Some 1 else None) (or_none (m.number == low))) in (
        goes_apart (behind_way (number_of p == least)) (one_runs least p) (first_word q.runner.has.level q.runner.has.outer) m come.0.hart (is_due core i op Seq p) q (few (number_of p == least)) come.0.runs
            come.0.member settles same,
        all_sent i op behind_way value least size ms xs one few home.1 e come.1,
      )
  all_sent i op behind_way value least size ms xs one few home e come = absurd (assumption come)

  all_apart : (done : Operation) → runs_alone done ≡ Some alone → (x : Parted) → x.parted.operation ≡ done → Both Apart the_members doings
  all_apart Farm e x same =
      let y = x.parted in
      let due : doings ≡ map (is_due core y.i y.op Farm) y.ps = y.due ∙ ap (λ o. map (is_due core y.i y.op o) y.ps) same in
      let come = subst (λ o. AllMove core image places nestings y.i y.op o setting (later t) y.behind (λ p. bodies_behind setting o y.lowest p) y.lowest the_members y.ps) same y.move in
      subst (Both Apart the_members) (sym due)
      (all_free y.i y.op y.behind (highest_value y.ps) y.lowest (λ p. size_behind Farm y.ps p) the_members y.ps (cc) y.few (subst (Home the_members) due home) come)
  all_apart Seq e x same =
      let y = x.parted in
      let due : doings ≡ map (is_due core y.i y.op Seq) y.ps = y.due ∙ ap (λ o. map (is_due core y.i y.op o) y.ps) same in
      let asked : IsLowest y.lowest y.ps = subst (λ o. IsAskedToMove nestings o y.lowest y.ps) same y.asked in
      let come = subst (λ o. AllMove core image places nestings y.i y.op o setting (later t) y.behind (λ p. bodies_behind setting o y.lowest p) y.lowest the_members y.ps) same y.move in
      let home' = subst (Home the_members) due home in
      let some : length y.ps ≡ 0 → ⊥ = λ none. some_doings (ap (λ l. length l) due ∙ length-map y.ps (is_due core y.i y.op Seq) ∙ none) in
      subst (Both Apart the_members) (sym due)
      (all_sent y.i y.op y.behind (highest_value y.ps) y.lowest (λ p. size_behind Seq y.ps p) the_members y.ps (cc) y.few home' (lowest_is y.i y.op y.lowest the_members y.ps some (first_low 0) home' asked) come)
  all_apart done e x same = absurd (cc)

  -- ---- its words

  -- nobody has arrived at one
  word_is_zero : (offset : ℕ) → offset < 8 → is_arrival offset ≡ true → control (first_of spaces g + offset) ≡ 0
  word_is_zero offset lt arrival =
      has g (first_of spaces g + offset) (tells old spaces before.spaced nodes g offset there given lt).own ∙ nobody offset arrival
    where
      nobody : (offset : ℕ) → is_arrival offset ≡ true → own' g (first_of spaces g + offset) ≡ 0
      nobody zero arrival = all_parted.parted.rest.barrier
      nobody (suc zero) arrival = all_parted.parted.rest.closing
      nobody (suc (suc o)) arrival = absurd (false≢true arrival)

  -- those who meet there are so many, and go up
  meeters_up : (offset : ℕ) → is_ascending (meeters_at new g offset) ≡ true
  meeters_up zero = ap is_ascending body_is ∙ body_up alone (trees.members new g) (behind.sound.ascending g)
  meeters_up (suc zero) = behind.sound.ascending g
  meeters_up (suc (suc o)) = refl

  meeters_among : (offset h : ℕ) → is_member h (meeters_at new g offset) ≡ true → is_member h (trees.members new g) ≡ true
  meeters_among zero h is = body_among alone h (trees.members new g) (subst (λ l. is_member h l ≡ true) body_is is)
  meeters_among (suc zero) h is = is
  meeters_among (suc (suc o)) h is = absurd (false≢true is)

  -- ---- all of it

  pub own_apart : Both (GoesApart image places nestings setting (later t) plan' (first_of spaces g) settle) (of_node g nodes (numbered 0 hs)) (of_node g nodes ds)
  own_apart = all_apart operation is all_parted all_parted.same

  on_by : (operation : Operation) (due : Option (Step Position)) → runs_alone operation ≡ Some alone → DoesStep operation due → halts due ≡ false
  on_by operation None is' does' = absurd does'
  on_by operation (Some step) is' does' = ap is_halt does' ∙ no_halt operation is'
    where
      no_halt : (operation : Operation) → runs_alone operation ≡ Some alone → is_halt operation ≡ false
      no_halt Farm is' = refl
      no_halt Seq is' = refl
      no_halt operation is' = absurd (cc)

  on_all : (xs : List Doing) → AllDo operation xs → AllOn xs
  on_all [] do' = tt
  on_all (d ∷ xs) do' = (on_by operation d.acting.due is do'.0, on_all xs do'.1)

  pub apart_left : LockLeft (of_node g nodes left.afters) (of_node g nodes ps) (of_node g nodes ds)
  apart_left = inr (all_parted.committed, on_all doings all_step)

  module _ (at_changed : (k : ℕ) → changed k ≡ true → plan'.in_lockstep k ≡ true
      → At core image places nestings cycles firsts main setting old new spaces nodes nodes' t stages hs ps ds own own' control the_law leads before left has behind.sound behind.spaced does steps changed move on next k)
      (lock_changed : (k : ℕ) → changed k ≡ true → plan.in_lockstep k ≡ true → LockLeft (of_node k nodes left.afters) (of_node k nodes ps) (of_node k nodes ds)) where
    pub apart_each : AtNode core image places nestings cycles firsts main setting old new spaces nodes nodes' t stages hs ps ds own own' control the_law leads before left has behind.sound
        behind.spaced does steps changed move on next at_changed lock_changed g operation (GoesApart image places nestings setting (later t) plan' (first_of spaces g) settle)
    apart_each m p d known lt land home' s0 a locks alone' due remains on' =
        let x = known.2 in
        let now = stay m.number lt known.0 in
        steps_apart core image places nestings cycles firsts main setting old new spaces nodes nodes' the_law leads behind.spaced behind.sound (later t) run (actings ds)
        (λ k. (near core image places nestings cycles firsts main setting old new spaces nodes nodes' t stages hs ps ds own own' control the_law leads before left has behind.sound behind.spaced
        does steps changed move on next at_changed lock_changed k).distance)
        (λ k. (near core image places nestings cycles firsts main setting old new spaces nodes nodes' t stages hs ps ds own own' control the_law leads before left has behind.sound behind.spaced
        does steps changed move on next at_changed lock_changed k).soon)
        m p d lt home' (is_busy operation d p known.1) a (ap (λ k. plan'.in_lockstep k) now ∙ free) (locks (ap (λ k. plan.in_lockstep k) known.0 ∙ lock)) x.cycles_behind x.hart x.few x.private
        x.at (subst (λ k. StandsInNode places nestings setting (runs_of plan' (first_of spaces k) m.number) (settle d) x.hart) (sym now) x.node) on'

  -- all harts have stages
  module _ (stages' : List Stage)
      (change : AllChange (core_source core setting) image plan blocks plan' blocks' (later t) (numbered 0 hs) nodes nodes' left.afters stages' ps (all_landed core (owners_after old new ds))) where
    gone : AllHaveCommitted (of_node g nodes' left.afters)
    gone = subst AllHaveCommitted (sym (same_of g nodes nodes' left.afters alike)) all_parted.committed

    pub opens : (w : ℕ) → IsOpen plan' g w → MeetingOpens (core_source core setting) image plan blocks plan' blocks' g w left.afters stages' control
    opens w is_open =
        node_opens core image places nestings setting old new spaces nodes nodes' (later t) hs left.afters ps (all_landed core (owners_after old new ds)) control behind (move.many ∙ before.many)
        (many_moved nodes nodes' hs left.afters move.many left.as_many) g there' free gone word_is_zero meeters_up meeters_among stages' change w is_open
