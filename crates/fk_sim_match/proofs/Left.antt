-- What a whole cycle leaves, by hart.
use Rattle.std.proofs.Common.{◌≡◌, ℕ, zero, suc, ◌^◌, ◌<◌, List, [], ◌∷◌, length, Option, Some, None, Bool, true, false, sym, ap, subst, ◌∙◌, refl, arith, inl, inr, eq-eqb}
use Rattle.std.proofs.lemmas.Bool.{eqb-true}
use Rattle.std.specs.Prelude.{◌==◌, map}
use Rattle.fk_num.specs.Word.{Memory}
use Rattle.fk_image.specs.declared.Image.{Image}
use Rattle.fk_machine.specs.Hart.{Hart, Setting}
use Rattle.fk_sim_nodes.specs.Node.{Member, numbered, add, of_node, AreAsMany}
use Rattle.fk_sim_nodes.specs.Source.{Source}
use Rattle.fk_sim_nodes.specs.Alone.{later}
use Rattle.fk_sim_nodes.specs.Phase.{Phase, word_after, AllMove}
use Rattle.fk_sim_nodes.specs.Meeting.{IsKept}
use Rattle.fk_sim_nodes.proofs.Leaving.{cycles_keep_arrivals}
use Rattle.fk_sim_match.specs.Stage.{Stage, Acts, distance, count_of_stage, IsOver, is_over, Nears, Pairwise, SameKind, Remains, kept, phase_of}
use Rattle.fk_sim_match.specs.Plan.{Plan, IsOpen, phase_at, phases_from, phases, phases_of, Blocks, told_by, IsBound}
use Rattle.fk_sim_match.specs.Cycle.{AllLeave, AllHaveCommitted, AllKeep, AllWent, AllActIn, GroupDone, Done, DoneIn, AllAreLeft, NodeIsLeft, IsLeft, CyclesLeave, MeetingsAreKept}

-- ---- lists by hart, and by node

-- as many elements as numbers of nodes
abbrev pub Alike : {A : Type 0} → List ℕ → List A → Type 0
Alike [] [] = Unit {0}
Alike (n ∷ ns) (x ∷ xs) = Alike ns xs
Alike ns xs = ⊥

pub first_alike : {A B : Type 0} (ns : List ℕ) (xs : List A) (ys : List B) → AreAsMany ns xs ys → Alike ns xs
first_alike [] [] [] many = tt
first_alike (n ∷ ns) (x ∷ xs) (y ∷ ys) many = first_alike ns xs ys many
first_alike ns xs ys many = absurd (assumption many)

pub second_alike : {A B : Type 0} (ns : List ℕ) (xs : List A) (ys : List B) → AreAsMany ns xs ys → Alike ns ys
second_alike [] [] [] many = tt
second_alike (n ∷ ns) (x ∷ xs) (y ∷ ys) many = second_alike ns xs ys many
second_alike ns xs ys many = absurd (assumption many)

pub both_alike : {A B : Type 0} (ns : List ℕ) (xs : List A) (ys : List B) → Alike ns xs → Alike ns ys → AreAsMany ns xs ys
both_alike [] [] [] a b = tt
both_alike (n ∷ ns) (x ∷ xs) (y ∷ ys) a b = both_alike ns xs ys a b
both_alike ns xs ys a b = absurd (assumption (a, b))

-- a list by hart whose parts by node are these
pub record Merged {A : Type 0} (ns : List ℕ) (lists : ℕ → List A) : Type 0 where
  pub all : List A
  pub alike : Alike ns all
  pub are : (g : ℕ) → of_node g ns all ≡ lists g

abbrev rest_of : {A : Type 0} → Bool → List A → List A
rest_of true [] = []
rest_of true (x ∷ xs) = xs
rest_of false xs = xs

length_rest : {A B : Type 0} (b : Bool) (xs : List A) (y : B) (ys : List B) → length xs ≡ length (add b y ys) → length (rest_of b xs) ≡ length ys
length_rest true [] y ys e = absurd (omega arith)
length_rest true (x ∷ xs) y ys e = omega arith
length_rest false xs y ys e = e

put_first : {A : Type 0} (b : Bool) (x : A) (xs ys : List A) → ys ≡ rest_of b xs → (b ≡ true → xs ≡ x ∷ rest_of true xs) → add b x ys ≡ xs
put_first true x xs ys e first = ap (λ l. x ∷ l) e ∙ sym (first refl)
put_first false x xs ys e first = e

record Parts {A : Type 0} (xs : List A) : Type 0 where
  first : A
  is : xs ≡ first ∷ rest_of true xs

parts : {A : Type 0} (xs : List A) (k : ℕ) → length xs ≡ suc k → Parts xs
parts [] k e = absurd (omega arith)
parts (x ∷ xs) k e = record { first = x; is = refl }

-- lists by node, each as long as the node has members, are the parts of one list
pub merged : {A B : Type 0} (ns : List ℕ) (ys : List B) (lists : ℕ → List A) → Alike ns ys → ((g : ℕ) → length (lists g) ≡ length (of_node g ns ys)) → Merged ns lists
merged [] [] lists alike lengths = record { all = []; alike = tt; are = λ g. empty (lists g) (lengths g) }
  where
    empty : {A : Type 0} (xs : List A) → length xs ≡ 0 → [] ≡ xs
    empty [] e = refl
    empty (x ∷ xs) e = absurd (omega arith)
merged (n ∷ ns) (y ∷ ys) lists alike lengths =
    let here = lengths n ∙ ap (λ b. length (add b y (of_node n ns ys))) (eq-eqb n n refl) in
    let p = parts (lists n) (length (of_node n ns ys)) here in
    let r = merged ns ys (λ g. rest_of (n == g) (lists g)) alike (λ g. length_rest (n == g) (lists g) y (of_node g ns ys) (lengths g)) in
    record {
      all = p.first ∷ r.all;
      alike = r.alike;
      are = λ g. put_first (n == g) p.first (lists g) (of_node g ns r.all) (r.are g)
          (λ e. subst (λ j. lists j ≡ p.first ∷ rest_of true (lists j)) (eqb-true n g e) p.is);
    }
merged ns ys lists alike lengths = absurd (assumption alike)

pair_tail : {A B : Type 0} (R : A → B → Type 0) (b : Bool) (x : A) (y : B) (xs : List A) (ys : List B) → Pairwise R (add b x xs) (add b y ys) → Pairwise R xs ys
pair_tail R true x y xs ys pairs = pairs.1
pair_tail R false x y xs ys pairs = pairs

-- what is so of each node's elements is so of all
pub pairs_by_node : {A B : Type 0} (R : A → B → Type 0) (ns : List ℕ) (xs : List A) (ys : List B) → Alike ns xs → Alike ns ys
    → ((g : ℕ) → Pairwise R (of_node g ns xs) (of_node g ns ys)) → Pairwise R xs ys
pairs_by_node R [] [] [] a b pairs = tt
pairs_by_node R (n ∷ ns) (x ∷ xs) (y ∷ ys) a b pairs =
    let here = subst (λ c. Pairwise R (add c x (of_node n ns xs)) (add c y (of_node n ns ys))) (eq-eqb n n refl) (pairs n) in
    (here.0, pairs_by_node R ns xs ys a b (λ g. pair_tail R (n == g) x y (of_node g ns xs) (of_node g ns ys) (pairs g)))
pairs_by_node R ns xs ys a b pairs = absurd (assumption (a, b))

-- ---- phases of all harts

toward_one : (t n lead v v' w : ℕ) (here member : Bool) (a a' : Option Stage) (fs fs' rest rest' : List Phase)
    → ((v1 : ℕ) → AllMove t n lead rest v1 rest' v' → AllMove t n lead fs v1 fs' v')
    → AllMove t n lead (add here (phase_of w member a) rest) v (add here (phase_of w member a') rest') v'
    → AllMove t n lead (phase_at here member (phase_of w member a) ∷ fs) v (phase_at here member (phase_of w member a') ∷ fs') v'
toward_one t n lead v v' w true member a a' fs fs' rest rest' more moves = (moves.0, more (word_after (phase_of w member a) v) moves.1)
toward_one t n lead v v' w false true a a' fs fs' rest rest' more moves = (tt, more v moves)
toward_one t n lead v v' w false false a a' fs fs' rest rest' more moves = (refl, more v moves)

phases-add : (plan : Plan) (w : ℕ) (b : Bool) (m : Member) (ms : List Member) (a : Option Stage) (afters : List (Option Stage))
    → phases_of plan w (add b m ms) (add b a afters) ≡ add b (phase_of w (plan.member w m.number) a) (phases_of plan w ms afters)
phases-add plan w true m ms a afters = refl
phases-add plan w false m ms a afters = refl

-- who stands elsewhere leaves the word as it is
pub toward : (plan : Plan) (g w t n lead number v v' : ℕ) (ns : List ℕ) (hs : List Hart) (afters afters' : List (Option Stage)) → AreAsMany ns hs afters → AreAsMany ns hs afters'
    → AllMove t n lead (phases_of plan w (of_node g ns (numbered number hs)) (of_node g ns afters)) v (phases_of plan w (of_node g ns (numbered number hs)) (of_node g ns afters')) v'
    → AllMove t n lead (phases_from plan g w number ns afters) v (phases_from plan g w number ns afters') v'
toward plan g w t n lead number v v' [] [] [] [] many many' moves = moves
toward plan g w t n lead number v v' (k ∷ ns) (h ∷ hs) (a ∷ afters) (a' ∷ afters') many many' moves =
    let m : Member = record { number = number; hart = h } in
    let ms = of_node g ns (numbered (suc number) hs) in
    toward_one t n lead v v' w (k == g) (plan.member w number) a a' (phases_from plan g w (suc number) ns afters) (phases_from plan g w (suc number) ns afters')
    (phases_of plan w ms (of_node g ns afters)) (phases_of plan w ms (of_node g ns afters'))
    (λ v1 rest. toward plan g w t n lead (suc number) v1 v' ns hs afters afters' many many' rest)
    (subst (λ fs. AllMove t n lead fs v (add (k == g) (phase_of w (plan.member w number) a') (phases_of plan w ms (of_node g ns afters'))) v') (phases-add plan w (k == g) m ms a (of_node g ns afters))
    (subst (λ fs. AllMove t n lead (phases_of plan w (add (k == g) m ms) (add (k == g) a (of_node g ns afters))) v fs v') (phases-add plan w (k == g) m ms a' (of_node g ns afters')) moves))
toward plan g w t n lead number v v' ns hs afters afters' many many' moves = absurd (assumption (many, many'))

pub length-phases : (plan : Plan) (g w number : ℕ) (ns : List ℕ) (hs : List Hart) (stages : List Stage) → AreAsMany ns hs stages
    → length (phases_from plan g w number ns (kept stages)) ≡ length hs
length-phases plan g w number [] [] [] many = refl
length-phases plan g w number (n ∷ ns) (h ∷ hs) (s ∷ stages) many = ap suc (length-phases plan g w (suc number) ns hs stages many)
length-phases plan g w number ns hs stages many = absurd (assumption many)

-- the stages of a node's harts, all kept
pub kept-add : (b : Bool) (s : Stage) (stages : List Stage) (afters : List (Option Stage)) → kept stages ≡ afters → kept (add b s stages) ≡ add b (Some s) afters
kept-add true s stages afters e = ap (λ l. Some s ∷ l) e
kept-add false s stages afters e = e

pub kept_of : (g : ℕ) (ns : List ℕ) (stages : List Stage) → kept (of_node g ns stages) ≡ of_node g ns (kept stages)
kept_of g [] stages = refl
kept_of g (n ∷ ns) [] = refl
kept_of g (n ∷ ns) (s ∷ stages) = kept-add (n == g) s (of_node g ns stages) (of_node g ns (kept stages)) (kept_of g ns stages)

many_kept : (ns : List ℕ) (hs : List Hart) (stages : List Stage) → Alike ns hs → Alike ns stages → AreAsMany ns hs (kept stages)
many_kept [] [] [] a b = tt
many_kept (n ∷ ns) (h ∷ hs) (s ∷ stages) a b = many_kept ns hs stages a b
many_kept ns hs stages a b = absurd (assumption (a, b))

module _ {S P D : Type 0} (source : Source S P D) (image : Image) (plan : Plan) (blocks : Blocks P D) where
  -- ---- one node

  record Afters (b : Bool) (t : Setting) (g : ℕ) (stages : List Stage) (ps : List P) (own : Memory) (ms' : List Member) (ds : List D) (own' : Memory) : Type 0 where
    afters : List (Option Stage)
    size : length afters ≡ length stages
    stay : Pairwise Remains stages afters
    is_left : NodeIsLeft source image plan blocks b (later t) g afters ms' ps ds own'
    leave : b ≡ false → AllLeave source image plan blocks (later t) g stages ms' ps ds
    moved : b ≡ false → (w : ℕ) → IsOpen plan g w
        → AllMove t.finished (plan.size w) blocks.lead (phases_of plan w ms' (kept stages)) (own w) (phases_of plan w ms' afters) (own' w)
    others : b ≡ false → (i : ℕ) → plan.arrivals i ≡ false → own' i ≡ own i

  -- a group
  abbrev all_are : Option Stage → List Stage → List (Option Stage)
  all_are a stages = map (λ s. a) stages

  length_are : (a : Option Stage) (stages : List Stage) → length (all_are a stages) ≡ length stages
  length_are a [] = refl
  length_are a (s ∷ stages) = ap suc (length_are a stages)

  committed : (stages : List Stage) → AllHaveCommitted (all_are None stages)
  committed [] = tt
  committed (s ∷ stages) = (refl, committed stages)

  keep : (d inner : ℕ) (stages : List Stage) → AllKeep (Acts d inner) (all_are (Some (Acts d inner)) stages)
  keep d inner [] = tt
  keep d inner (s ∷ stages) = (refl, keep d inner stages)

  stay_none : (inner : ℕ) (stages : List Stage) → AllActIn source image plan blocks 0 inner stages → Pairwise Remains stages (all_are None stages)
  stay_none inner [] all = tt
  stay_none inner (s ∷ stages) all = (subst IsOver (sym all.0) refl, stay_none inner stages all.1)

  stay_some : (d inner : ℕ) (stages : List Stage) → AllActIn source image plan blocks (suc d) inner stages → Pairwise Remains stages (all_are (Some (Acts d inner)) stages)
  stay_some d inner [] all = tt
  stay_some d inner (s ∷ stages) all = (
    (ap count_of_stage all.0, subst (λ x. Nears (distance x) (Some d)) (sym all.0) refl, subst (λ x. SameKind x (Acts d inner)) (sym all.0) refl, ap is_over all.0),
    stay_some d inner stages all.1,
  )

  group_afters : (t : Setting) (g d inner : ℕ) (stages : List Stage) (ps : List P) (own : Memory) (ms' : List Member) (ds : List D) (own' : Memory)
      → AllActIn source image plan blocks d inner stages → GroupDone source image plan blocks (later t) g inner d ps ms' ds own' → Afters true t g stages ps own ms' ds own'
  group_afters t g zero inner stages ps own ms' ds own' all done = record {
    afters = all_are None stages;
    size = length_are None stages;
    stay = stay_none inner stages all;
    is_left = inl (committed stages, done);
    leave = λ e. absurd (cc);
    moved = λ e. absurd (cc);
    others = λ e. absurd (cc);
  }
  group_afters t g (suc d) inner stages ps own ms' ds own' all done = record {
    afters = all_are (Some (Acts d inner)) stages;
    size = length_are (Some (Acts d inner)) stages;
    stay = stay_some d inner stages all;
    is_left = inr (d, inner, keep d inner stages, done.0, done.1);
    leave = λ e. absurd (cc);
    moved = λ e. absurd (cc);
    others = λ e. absurd (cc);
  }

  -- members by themselves
  length_went : (t : Setting) (g : ℕ) (stages : List Stage) (afters : List (Option Stage)) (ms : List Member) (ps : List P) (ds : List D)
      → AllWent source image plan blocks t g stages afters ms ps ds → length afters ≡ length stages
  length_went t g [] [] [] [] [] went = refl
  length_went t g (s ∷ stages) (a ∷ afters) (m ∷ ms) (p ∷ ps) (d ∷ ds) went = ap suc (length_went t g stages afters ms ps ds went.2)
  length_went t g stages afters ms ps ds went = absurd (assumption went)

  stay_went : (t : Setting) (g : ℕ) (stages : List Stage) (afters : List (Option Stage)) (ms : List Member) (ps : List P) (ds : List D)
      → AllWent source image plan blocks t g stages afters ms ps ds → Pairwise Remains stages afters
  stay_went t g [] [] [] [] [] went = tt
  stay_went t g (s ∷ stages) (a ∷ afters) (m ∷ ms) (p ∷ ps) (d ∷ ds) went = (went.0, stay_went t g stages afters ms ps ds went.2)
  stay_went t g stages afters ms ps ds went = absurd (assumption went)

  left_went : (t : Setting) (g : ℕ) (stages : List Stage) (afters : List (Option Stage)) (ms : List Member) (ps : List P) (ds : List D)
      → AllWent source image plan blocks t g stages afters ms ps ds → AllAreLeft source image plan blocks t g afters ms ps ds
  left_went t g [] [] [] [] [] went = tt
  left_went t g (s ∷ stages) (a ∷ afters) (m ∷ ms) (p ∷ ps) (d ∷ ds) went = (went.1, left_went t g stages afters ms ps ds went.2)
  left_went t g stages afters ms ps ds went = absurd (assumption went)

  afters_of : (b : Bool) (t : Setting) (g : ℕ) (stages : List Stage) (ps : List P) (own : Memory) (ms' : List Member) (ds : List D) (own' : Memory)
      → Done source image plan blocks b t g stages ps own ms' ds own' → Afters b t g stages ps own ms' ds own'
  afters_of true t g stages ps own ms' ds own' x = group_afters t g x.0 x.1 stages ps own ms' ds own' x.2 x.3
  afters_of false t g stages ps own ms' ds own' x = record {
    afters = x.afters;
    size = length_went (later t) g stages x.afters ms' ps ds x.went;
    stay = stay_went (later t) g stages x.afters ms' ps ds x.went;
    is_left = left_went (later t) g stages x.afters ms' ps ds x.went;
    leave = λ e. x.leave;
    moved = λ e. x.moves;
    others = λ e. x.others;
  }

  -- ---- all of them

  pub what_is_left : (t : Setting) (stages : List Stage) (hs hs' : List Hart) (ps : List P) (ds : List D) (own own' : ℕ → Memory)
      → IsBound source image plan blocks t stages hs ps own → AreAsMany plan.nodes hs' ds
      → ((g : ℕ) → DoneIn source image plan blocks t stages ps own g (of_node g plan.nodes (numbered 0 hs')) (of_node g plan.nodes ds) (own' g))
      → IsLeft source image plan blocks t stages hs' ps ds own own'
  what_is_left t stages hs hs' ps ds own own' bound many done =
      let ns = plan.nodes in
      let every : (g : ℕ) → Afters (plan.in_lockstep g) t g (of_node g ns stages) (of_node g ns ps) (own g) (of_node g ns (numbered 0 hs')) (of_node g ns ds) (own' g) =
      λ g. afters_of (plan.in_lockstep g) t g (of_node g ns stages) (of_node g ns ps) (own g) (of_node g ns (numbered 0 hs')) (of_node g ns ds) (own' g) (done g) in
      let alike = second_alike ns hs stages bound.stages_as_many in
      let r = merged ns stages (λ g. (every g).afters) alike (λ g. (every g).size) in
      record {
        afters = r.all;
        as_many = both_alike ns hs' r.all (first_alike ns hs' ds many) r.alike;
        done_as_many = many;
        stay = pairs_by_node Remains ns stages r.all alike r.alike (λ g. subst (Pairwise Remains (of_node g ns stages)) (sym (r.are g)) (every g).stay);
        nodes = λ g.
            subst (λ l. NodeIsLeft source image plan blocks (plan.in_lockstep g) (later t) g l (of_node g ns (numbered 0 hs')) (of_node g ns ps) (of_node g ns ds) (own' g))
            (sym (r.are g)) (every g).is_left;
        leave = λ g e. (every g).leave e;
        moved = λ g w e is_open.
            let ms = of_node g ns (numbered 0 hs') in
            let alike' = first_alike ns hs' ds many in
            let moves = subst (λ l. AllMove t.finished (plan.size w) blocks.lead (phases_of plan w ms (kept (of_node g ns stages))) (own g w) (phases_of plan w ms l) (own' g w)) (sym (r.are g))
            ((every g).moved e w is_open) in
            toward plan g w t.finished (plan.size w) blocks.lead 0 (own g w) (own' g w) ns hs' (kept stages) r.all (many_kept ns hs' stages alike' alike) (both_alike ns hs' r.all alike' r.alike)
            (subst (λ l. AllMove t.finished (plan.size w) blocks.lead (phases_of plan w ms l) (own g w) (phases_of plan w ms (of_node g ns r.all)) (own' g w)) (kept_of g ns stages) moves);
        others = λ g i e no_arrival. (every g).others e i no_arrival;
      }

  pub meeting_is_kept : (t : Setting) (stages : List Stage) (hs hs' : List Hart) (ps : List P) (ds : List D) (own own' : ℕ → Memory)
      → length hs < 2 ^ 31 → IsBound source image plan blocks t stages hs ps own
      → (left : IsLeft source image plan blocks t stages hs' ps ds own own')
      → (g w : ℕ) → plan.in_lockstep g ≡ false → IsOpen plan g w
      → IsKept t.finished (plan.size w) blocks.lead (own g w) (own' g w) (phases plan g w (kept stages)) (phases plan g w left.afters)
  meeting_is_kept t stages hs hs' ps ds own own' few bound left g w alone is_open =
      cycles_keep_arrivals t.finished (plan.size w) blocks.lead (own g w) (own' g w) (phases plan g w (kept stages)) (phases plan g w left.afters)
      (subst (λ k. k < 2 ^ 31) (sym (length-phases plan g w 0 plan.nodes hs stages bound.stages_as_many)) few)
      (bound.counts g w alone is_open) (left.moved g w alone is_open)

pub cycles_leave : (S P D : Type 0) → CyclesLeave S P D
cycles_leave S P D source image plan tests t stages hs hs' ps ds own own' bound many done =
    what_is_left source image plan (told_by tests) t stages hs hs' ps ds own own' bound many done

pub meetings_are_kept : (S P D : Type 0) → MeetingsAreKept S P D
meetings_are_kept S P D source image plan tests t stages hs hs' ps ds own own' few bound left g w alone is_open =
    meeting_is_kept source image plan (told_by tests) t stages hs hs' ps ds own own' few bound left g w alone is_open
