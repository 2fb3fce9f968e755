-- The assumptions, met by a loop of two instructions, the second of which commits: by two harts that are free in one node
-- without words, and by two groups in lockstep, one at its commit and one a cycle before it.
use Rattle.std.proofs.Common.{◌≡◌, ℕ, zero, suc, List, [], ◌∷◌, length, Option, Some, None, Bool, true, false, sym, ap, subst, ◌∙◌, refl, arith, ◌⊎◌, inl, inr}
use Rattle.std.proofs.lemmas.Bool.{ne_eqb, eqb-true}
use Rattle.std.specs.Prelude.{◌==◌}
use Rattle.fk_num.specs.Word.{Memory}
use Rattle.fk_image.specs.declared.Image.{Image}
use Rattle.fk_isa.specs.declared.instruction.Instruction.TheVariants.{Addi, Jal}
use Rattle.fk_machine.specs.Hart.{Hart, Shared, Setting, Goes}
use Rattle.fk_machine.specs.Step.{step}
use Rattle.fk_sim_nodes.specs.Node.{Member, numbered, of_node, AreAsMany, OwnApart, Has}
use Rattle.fk_sim_nodes.specs.Source.{Source, Part, Passes}
use Rattle.fk_sim_nodes.specs.Alone.{Holds, IsAt, later, in_cycles, IsPrivateIn, RunsPrivately}
use Rattle.fk_sim_nodes.specs.OneHart.{OneCommits, OneDoes, EachDoes, AllReach}
use Rattle.fk_sim_nodes.specs.Together.{Together}
use Rattle.fk_sim_nodes.proofs.Members.{together_map}
use Rattle.fk_sim_nodes.proofs.InPlace.{step_at}
use Rattle.fk_sim_nodes.proofs.OneHart.{each_does}
use Rattle.fk_sim_match.specs.Stage.{Stage, Ended, Acts, Meets}
use Rattle.fk_sim_match.specs.Plan.{Plan, Blocks, IsIdle, StandsAt, AllStandAt, InLockstep, Binds, IsBound, JointBlocksTurn}
use Rattle.fk_sim_match.specs.Cycle.{AllHaveCommitted, Went, AllAreLeft, GroupIsLeft, IsLeft}
use Rattle.fk_sim_match.specs.Change.{StaysMember, Changes, GroupStays, TreeChanges, GoesOn}
use Rattle.fk_sim_match.proofs.Changes.{plan_goes_on}

-- a processor counts its commits
pub record Stored : Type 0 where
  pub words : Memory
  pub output : List ℕ

abbrev pub part_of : ℕ → Stored → ℕ → Part Stored ℕ
part_of zero s p = Passes s p
part_of (suc c) s p = Passes s (suc p)

abbrev pub counting : Source Stored ℕ ℕ
counting = record { words = λ s. s.words; output = λ s. s.output; common = λ i. false; control = λ s i. 0; part = part_of }

record HasLoop (image : Image) : Type 0 where
  at0 : IsAt image 0 (Addi 0 0 0) 0
  at1 : IsAt image 1 (Jal 0 0xfffffffc) 1

abbrev hart_at : (pc : ℕ) → Hart
hart_at pc = record { registers = λ r. 0; pc = pc; local = λ i. 0; ended = false }

abbrev AllBegin : List Member → Type 0
AllBegin [] = Unit {0}
AllBegin (m ∷ ms) = (m.hart ≡ hart_at 0) × AllBegin ms

-- who has committed stands at the beginning of the loop, and nobody waits
abbrev blocks : Blocks ℕ ℕ
blocks = record {
  lead = 1;
  idle = λ p. p;
  AfterAll = λ t g ms ds own. AllBegin ms;
  AfterOne = λ g behind m p d. m.hart ≡ hart_at 0;
  StandsIn = λ g t e w f m p. ⊥;
  Joins = λ t g m p. ⊥;
}

idle : IsIdle counting blocks.idle
idle s p = refl

pub lengths : {A B : Type 0} (ns : List ℕ) (xs : List A) (ys : List B) → AreAsMany ns xs ys → (length xs ≡ length ns) × (length ys ≡ length ns)
lengths [] [] [] many = (refl, refl)
lengths (n ∷ ns) (x ∷ xs) (y ∷ ys) many = let r = lengths ns xs ys many in (ap suc r.0, ap suc r.1)
lengths ns xs ys many = absurd (assumption many)

module _ (image : Image) (code : HasLoop image) where
  -- ---- one hart

  begins : (t : Setting) (number : ℕ) → Holds image t → IsPrivateIn image t number (hart_at 0) (hart_at 4)
  begins t number holds = record {
    live = refl;
    counted = code.at0.counted;
    goes = λ s. (s.reserved, step_at image 0 0 (Addi 0 0 0) code.at0 t holds number (hart_at 0) s refl);
  }

  returns : (t : Setting) (number : ℕ) (s : Shared) → Holds image t → step t number (hart_at 4) s ≡ Goes (hart_at 0) s
  returns t number s holds = step_at image 1 1 (Jal 0 0xfffffffc) code.at1 t holds number (hart_at 4) s refl

  commits : (t : Setting) (number p : ℕ) (Then : Hart → ℕ → Type 0) → Holds image t → Then (hart_at 0) (suc p)
      → OneCommits counting image t 1 (record { number = number; hart = hart_at 4 }) p Then
  commits t number p Then holds then = record {
    live = refl;
    counted = code.at1.counted;
    does = λ s. inl (record {
      hart = hart_at 0;
      store = s;
      done = suc p;
      part = refl;
      goes = λ earlier sh shows. (sh, returns t number sh holds, shows, λ i e. refl);
      follows = then;
    });
  }

  holds_in : (n : ℕ) (t : Setting) → Holds image t → Holds image (in_cycles n t)
  holds_in zero t holds = holds
  holds_in (suc n) t holds = holds_in n (later t) holds

  one_more : (t : Setting) (number n : ℕ) (h : Hart) → Holds image t → RunsPrivately image t number n h (hart_at 0) → RunsPrivately image t number (suc n) h (hart_at 4)
  one_more t number zero h holds runs = subst (λ x. RunsPrivately image t number 1 x (hart_at 4)) (sym runs) (hart_at 4, begins t number holds, refl)
  one_more t number (suc n) h holds runs = (runs.0, runs.1, one_more (later t) number n runs.0 holds runs.2)

  abbrev Back : Hart → ℕ → Type 0
  Back h d = h ≡ hart_at 0

  does_at : (t : Setting) (number p n : ℕ) (h : Hart) → Holds image t → RunsPrivately image t number n h (hart_at 4)
      → OneDoes counting image t 1 n 0 (record { number = number; hart = h }) p Back
  does_at t number p n h holds runs = record {
    committing = hart_at 4;
    runs = runs;
    commits = commits (in_cycles n t) number p (λ h' d. (h2 : Hart) × RunsPrivately image (later (in_cycles n t)) number 0 h' h2 × Back h2 d) (holds_in n t holds) (hart_at 0, refl, refl);
  }

  -- ---- free harts

  abbrev two : List ℕ
  two = 0 ∷ 0 ∷ []

  abbrev free : Plan
  free = record {
    nodes = two;
    words = λ g i. false;
    in_lockstep = λ g. false;
    arrivals = λ i. false;
    size = λ w. 0;
    member = λ w number. false;
  }

  nobody_meets : (plan : Plan) → JointBlocksTurn counting image plan blocks
  nobody_meets plan t g e w f m p own inside is_open stands = absurd stands

  free_at : (t : Setting) (p q g : ℕ) → Holds image t
      → AllStandAt counting image free blocks t g (of_node g two (Acts 1 0 ∷ Acts 0 0 ∷ [])) (of_node g two (numbered 0 (hart_at 0 ∷ hart_at 4 ∷ []))) (of_node g two (p ∷ q ∷ []))
  free_at t p q zero holds =
      ((0, does_at t 0 p 1 (hart_at 0) holds (hart_at 4, begins t 0 holds, refl)), ((0, does_at t 1 q 0 (hart_at 4) holds refl), tt))
  free_at t p q (suc g) holds = rw (ne_eqb 0 (suc g) (λ e. omega arith)) tt

  free_bound : (t : Setting) (p q : ℕ) (own : ℕ → Memory) → Holds image t
      → IsBound counting image free blocks t (Acts 1 0 ∷ Acts 0 0 ∷ []) (hart_at 0 ∷ hart_at 4 ∷ []) (p ∷ q ∷ []) own
  free_bound t p q own holds =
      record { as_many = tt; stages_as_many = tt; binds = λ g. free_at t p q g holds; counts = λ g w alone is_open. absurd (let e = is_open.1 in cc) }

  next_stage : (t : Setting) (a : Option Stage) (m : Member) (p d : ℕ) → Went counting image free blocks t 0 a m p d → Stage
  next_stage t (Some s) m p d went = s
  next_stage t None m p d (inl went) = Acts (suc went.0) 0
  next_stage t None m p d (inr went) = absurd went.1

  still_member : (t : Setting) (s : Stage) (m : Member) (p : ℕ) → StandsAt counting image free blocks t 0 s m p → StaysMember free 0 m.number s
  still_member t Ended m p stands = tt
  still_member t (Acts d inner) m p stands = tt
  still_member t (Meets e w f) m p stands = (stands.1, stands.2)

  free_changes : (t : Setting) (a : Option Stage) (m : Member) (p d : ℕ) → Holds image t → (went : Went counting image free blocks t 0 a m p d)
      → Changes counting image free blocks free blocks t m 0 0 a (next_stage t a m p d went) p d
  unfolding next_stage
  free_changes t (Some s) m p d holds went = (
    refl,
    refl,
    went.0,
    still_member t s m p went.1,
    λ e. record { alone = refl; after = λ behind m p d x. x; stands = λ t e w f m p is_open x. x },
  )
  free_changes t None m p d holds (inr went) = absurd went.1
  free_changes t None m p d holds (inl went) =
      let runs = subst (RunsPrivately image t m.number went.0 m.hart) went.3 went.2 in
      (tt, λ e. (0, does_at t m.number d (suc went.0) m.hart holds (one_more t m.number went.0 m.hart holds runs)))

  -- a tree that never changes: processors are what they have become
  free_tree : (t : Setting) (p q : ℕ) (hs : List Hart) (afters : List (Option Stage)) (ds : List ℕ) (control : Memory) → Holds image t → length hs ≡ 2 → length afters ≡ 2 → length ds ≡ 2
      → AllAreLeft counting image free blocks (later t) 0 (of_node 0 two afters) (of_node 0 two (numbered 0 hs)) (p ∷ q ∷ []) (of_node 0 two ds)
      → (stages' : List Stage) × TreeChanges counting image free blocks free blocks t hs afters stages' (p ∷ q ∷ []) ds control
  free_tree t p q (h ∷ k ∷ []) (a ∷ b ∷ []) (d ∷ e ∷ []) control holds l0 l1 l2 left =
      let m : Member = record { number = 0; hart = h } in
      let n : Member = record { number = 1; hart = k } in (
        next_stage (later t) a m p d left.0 ∷ next_stage (later t) b n q e left.1.0 ∷ [],
        record {
          as_many = tt;
          stages_as_many = tt;
          harts = (free_changes (later t) a m p d holds left.0, (free_changes (later t) b n q e holds left.1.0, tt));
          groups = λ g e. absurd (cc);
          meetings = λ g w alone is_open. absurd (let e = is_open.1 in cc);
        },
      )
  free_tree t p q hs afters ds control holds l0 l1 l2 left = absurd (omega arith)

  -- whatever a cycle leaves of them, they are bound again
  free_go_on : (t : Setting) (p q : ℕ) (hs' : List Hart) (ds : List ℕ) (own own' : ℕ → Memory) (control : Memory) → Holds image t
      → IsLeft counting image free blocks t (Acts 1 0 ∷ Acts 0 0 ∷ []) hs' (p ∷ q ∷ []) ds own own'
      → (stages' : List Stage) × GoesOn counting image free blocks free blocks t (Acts 1 0 ∷ Acts 0 0 ∷ []) stages' hs' ds own control
  free_go_on t p q hs' ds own own' control holds left =
      let tree = free_tree t p q hs' left.afters ds control holds (lengths two hs' left.afters left.as_many).0 (lengths two hs' left.afters left.as_many).1 (lengths two hs' ds left.done_as_many).1 (left.nodes 0) in (
        tree.0,
        plan_goes_on counting image free blocks free blocks t (Acts 1 0 ∷ Acts 0 0 ∷ []) tree.0 (hart_at 0 ∷ hart_at 4 ∷ []) hs' (p ∷ q ∷ []) ds ds own own' control (omega arith)
            (free_bound t p q own holds) left (λ g i owns. absurd (cc)) tree.1,
      )

  -- ---- two groups in lockstep, of two harts each

  abbrev four : List ℕ
  four = 1 ∷ 1 ∷ 2 ∷ 2 ∷ []

  abbrev is_group : ℕ → Bool
  is_group zero = false
  is_group (suc zero) = true
  is_group (suc (suc zero)) = true
  is_group (suc (suc (suc g))) = false

  abbrev groups : Plan
  groups = record {
    nodes = four;
    words = λ g i. i == g;
    in_lockstep = is_group;
    arrivals = λ i. false;
    size = λ w. 0;
    member = λ w number. false;
  }

  groups_apart : OwnApart groups.words counting.common
  groups_apart = record { nodes = λ g k differ i e. ne_eqb i k (λ f. differ (sym (eqb-true i g e) ∙ f)); from_common = λ g i e. refl }

  all_begin : (ps : List ℕ) (ms : List Member) (ds : List ℕ) → AllReach (λ number p h d. h ≡ hart_at 0) ps ms ds → AllBegin ms
  all_begin [] [] [] all = tt
  all_begin (p ∷ ps) (m ∷ ms) (d ∷ ds) all = (all.0, all_begin ps ms ds all.1)
  all_begin ps ms ds all = absurd (assumption all)

  group_does : (t : Setting) (g n : ℕ) (ms : List Member) (ps : List ℕ) (own : Memory) → EachDoes counting image t 1 n 0 (λ number p h d. h ≡ hart_at 0) ms ps
      → Together counting image (groups.words g) t 1 n ms ps own (blocks.AfterAll (later (in_cycles n t)) g)
  group_does t g n ms ps own each =
      together_map counting image (groups.words g) t 1 n ms ps own (λ ms' ds own'. (own' ≡ own) × AllReach (λ number p h d. h ≡ hart_at 0) ps ms' ds) (blocks.AfterAll (later (in_cycles n t)) g)
      (λ ms' ds own' x. all_begin ps ms' ds x.1)
      (each_does counting image (groups.words g) t 1 n 0 (λ number p h d. h ≡ hart_at 0) ms ps own (groups_apart.from_common g) each)

  abbrev first_stages : List Stage
  first_stages = Acts 1 0 ∷ Acts 1 0 ∷ Acts 0 0 ∷ Acts 0 0 ∷ []

  abbrev first_harts : List Hart
  first_harts = hart_at 0 ∷ hart_at 0 ∷ hart_at 4 ∷ hart_at 4 ∷ []

  groups_at : (t : Setting) (p q r u g : ℕ) (own : Memory) → Holds image t
      → Binds counting image groups blocks (is_group g) t g (of_node g four first_stages) (of_node g four (numbered 0 first_harts)) (of_node g four (p ∷ q ∷ r ∷ u ∷ [])) own
  groups_at t p q r u zero own holds = tt
  groups_at t p q r u (suc zero) own holds = record {
    distance = 1;
    inner = 0;
    alike = (refl, (refl, tt));
    together = group_does t 1 1 (record { number = 0; hart = hart_at 0 } ∷ record { number = 1; hart = hart_at 0 } ∷ []) (p ∷ q ∷ []) own
        (does_at t 0 p 1 (hart_at 0) holds (hart_at 4, begins t 0 holds, refl), (does_at t 1 q 1 (hart_at 0) holds (hart_at 4, begins t 1 holds, refl), tt));
  }
  groups_at t p q r u (suc (suc zero)) own holds = record {
    distance = 0;
    inner = 0;
    alike = (refl, (refl, tt));
    together = group_does t 2 0 (record { number = 2; hart = hart_at 4 } ∷ record { number = 3; hart = hart_at 4 } ∷ []) (r ∷ u ∷ []) own
        (does_at t 2 r 0 (hart_at 4) holds refl, (does_at t 3 u 0 (hart_at 4) holds refl, tt));
  }
  groups_at t p q r u (suc (suc (suc g))) own holds = rw (ne_eqb 1 (suc (suc (suc g))) (λ e. omega arith), ne_eqb 2 (suc (suc (suc g))) (λ e. omega arith)) tt

  groups_bound : (t : Setting) (p q r u : ℕ) (own : ℕ → Memory) → Holds image t → IsBound counting image groups blocks t first_stages first_harts (p ∷ q ∷ r ∷ u ∷ []) own
  groups_bound t p q r u own holds =
      record { as_many = tt; stages_as_many = tt; binds = λ g. groups_at t p q r u g (own g) holds; counts = λ g w alone is_open. absurd (let e = is_open.1 in cc) }

  -- what a cycle leaves of a group goes on, or begins again
  record GroupNext (t : Setting) (g : ℕ) (afters : List (Option Stage)) (a b : Option Stage) (m n : Member) (p q d e : ℕ) (control : Memory) : Type 0 where
    stage : Stage
    one : Changes counting image groups blocks groups blocks t m g g a stage p d
    other : Changes counting image groups blocks groups blocks t n g g b stage q e
    goes : GroupStays counting image groups blocks groups blocks g afters
        ⊎ InLockstep counting image groups blocks t g (stage ∷ stage ∷ []) (m ∷ n ∷ []) (d ∷ e ∷ []) control

  never_alone : {A : Type 0} (b : Bool) → b ≡ true → b ≡ false → A
  never_alone true e f = absurd (cc)
  never_alone false e f = absurd (cc)

  begins_again : (t : Setting) (m : Member) (p : ℕ) → Holds image t → m.hart ≡ hart_at 0 → OneDoes counting image t 1 1 0 m p Back
  begins_again t m p holds at =
      does_at t m.number p 1 m.hart holds (subst (λ h. RunsPrivately image t m.number 1 h (hart_at 4)) (sym at) (hart_at 4, begins t m.number holds, refl))

  has_committed : (t : Setting) (g : ℕ) (a : Option Stage) (m : Member) (p d : ℕ) → is_group g ≡ true → a ≡ None → Changes counting image groups blocks groups blocks t m g g a (Acts 1 0) p d
  has_committed t g None m p d group e = (tt, λ alone. never_alone (is_group g) group alone)
  has_committed t g (Some s) m p d group e = absurd (cc)

  keeps_on : (t : Setting) (g k inner : ℕ) (a : Option Stage) (m : Member) (p d : ℕ) → is_group g ≡ true → a ≡ Some (Acts k inner) → d ≡ p
      → Changes counting image groups blocks groups blocks t m g g a (Acts k inner) p d
  keeps_on t g k inner (Some s) m p d group e f = let same : Acts k inner ≡ s = cc in (refl, same, f, subst (StaysMember groups g m.number) same tt, λ alone. never_alone (is_group g) group alone)
  keeps_on t g k inner None m p d group e f = absurd (cc)

  group_next : (t : Setting) (g : ℕ) (afters : List (Option Stage)) (a b : Option Stage) (m n : Member) (p q d e : ℕ) (own control : Memory) → Holds image t → is_group g ≡ true
      → (AllHaveCommitted (of_node g four afters) → a ≡ None)
      → GroupIsLeft counting image groups blocks t g (a ∷ b ∷ []) (m ∷ n ∷ []) (p ∷ q ∷ []) (d ∷ e ∷ []) own → GroupNext t g afters a b m n p q d e control
  group_next t g afters a b m n p q d e own control holds group here (inl (committed, all)) = record {
    stage = Acts 1 0;
    one = has_committed t g a m p d group committed.0;
    other = has_committed t g b n q e group committed.1.0;
    goes = inr (record {
      distance = 1;
      inner = 0;
      alike = (refl, (refl, tt));
      together = group_does t g 1 (m ∷ n ∷ []) (d ∷ e ∷ []) control (begins_again t m d holds all.0, (begins_again t n e holds all.1.0, tt));
    });
  }
  group_next t g afters a b m n p q d e own control holds group here (inr (k, inner, keep, same, together)) =
      let f : d ≡ p = cc in
      let f' : e ≡ q = cc in
      record {
        stage = Acts k inner;
        one = keeps_on t g k inner a m p d group keep.0 f;
        other = keeps_on t g k inner b n q e group keep.1.0 f';
        goes = inl (record {
          grouped = group;
          busy = λ committed. let none = here committed in let some = keep.0 in absurd (cc);
          same = (refl, (refl, (refl, (refl, tt))));
          words = refl;
          after = λ t ms ds own' x. x;
        });
      }

  -- the two groups, by number
  abbrev GroupGoes : Setting → ℕ → List (Option Stage) → List Stage → List Hart → List ℕ → Memory → Type 0
  GroupGoes t g afters stages' hs ps' control =
      GroupStays counting image groups blocks groups blocks g afters
      ⊎ InLockstep counting image groups blocks t g (of_node g four stages') (of_node g four (numbered 0 hs)) (of_node g four ps') control

  by_number : (t : Setting) (afters : List (Option Stage)) (stages' : List Stage) (hs : List Hart) (ps' : List ℕ) (control : Memory) → GroupGoes t 1 afters stages' hs ps' control
      → GroupGoes t 2 afters stages' hs ps' control → (g : ℕ) → is_group g ≡ true → GroupGoes t g afters stages' hs ps' control
  by_number t afters stages' hs ps' control one other zero group = absurd (cc)
  by_number t afters stages' hs ps' control one other (suc zero) group = one
  by_number t afters stages' hs ps' control one other (suc (suc zero)) group = other
  by_number t afters stages' hs ps' control one other (suc (suc (suc g))) group = absurd (cc)

  groups_tree : (t : Setting) (p q r u : ℕ) (hs : List Hart) (afters : List (Option Stage)) (ds : List ℕ) (own own2 control : Memory) → Holds image t → length hs ≡ 4 → length afters ≡ 4 → length ds ≡ 4
      → GroupIsLeft counting image groups blocks (later t) 1 (of_node 1 four afters) (of_node 1 four (numbered 0 hs)) (p ∷ q ∷ []) (of_node 1 four ds) own
      → GroupIsLeft counting image groups blocks (later t) 2 (of_node 2 four afters) (of_node 2 four (numbered 0 hs)) (r ∷ u ∷ []) (of_node 2 four ds) own2
      → (stages' : List Stage) × TreeChanges counting image groups blocks groups blocks t hs afters stages' (p ∷ q ∷ r ∷ u ∷ []) ds control
  groups_tree t p q r u (h0 ∷ h1 ∷ h2 ∷ h3 ∷ []) (a0 ∷ a1 ∷ a2 ∷ a3 ∷ []) (d0 ∷ d1 ∷ d2 ∷ d3 ∷ []) own own2 control holds l0 l1 l2 left left2 =
      let afters : List (Option Stage) = a0 ∷ a1 ∷ a2 ∷ a3 ∷ [] in
      let x = group_next (later t) 1 afters a0 a1 (record { number = 0; hart = h0 }) (record { number = 1; hart = h1 }) p q d0 d1 own control holds refl (λ c. c.0) left in
      let y = group_next (later t) 2 afters a2 a3 (record { number = 2; hart = h2 }) (record { number = 3; hart = h3 }) r u d2 d3 own2 control holds refl (λ c. c.0) left2 in
      let stages' : List Stage = x.stage ∷ x.stage ∷ y.stage ∷ y.stage ∷ [] in (
        stages',
        record {
          as_many = tt;
          stages_as_many = tt;
          harts = (x.one, (x.other, (y.one, (y.other, tt))));
          groups = by_number (later t) afters stages' (h0 ∷ h1 ∷ h2 ∷ h3 ∷ []) (d0 ∷ d1 ∷ d2 ∷ d3 ∷ []) control x.goes y.goes;
          meetings = λ g w alone is_open. absurd (let e = is_open.1 in cc);
        },
      )
  groups_tree t p q r u hs afters ds own own2 control holds l0 l1 l2 left left2 = absurd (omega arith)

  -- whatever a cycle leaves of them, they are bound again
  groups_go_on : (t : Setting) (p q r u : ℕ) (hs' : List Hart) (ds : List ℕ) (own own' : ℕ → Memory) (control : Memory) → Holds image t
      → IsLeft counting image groups blocks t first_stages hs' (p ∷ q ∷ r ∷ u ∷ []) ds own own' → ((g : ℕ) → Has (groups.words g) control (own' g))
      → (stages' : List Stage) × GoesOn counting image groups blocks groups blocks t first_stages stages' hs' ds own control
  groups_go_on t p q r u hs' ds own own' control holds left has =
      let tree = groups_tree t p q r u hs' left.afters ds (own' 1) (own' 2) control holds (lengths four hs' left.afters left.as_many).0 (lengths four hs' left.afters left.as_many).1 (lengths four hs' ds left.done_as_many).1 (left.nodes 1) (left.nodes 2) in (
        tree.0,
        plan_goes_on counting image groups blocks groups blocks t first_stages tree.0 first_harts hs' (p ∷ q ∷ r ∷ u ∷ []) ds ds own own' control (omega arith)
            (groups_bound t p q r u own holds) left has tree.1,
      )
