-- What a machine follows stays so where only spaces of nodes that are not there are others.
use Rattle.std.proofs.Common.{◌≡◌, ◌≢◌, ℕ, zero, suc, ◌+◌, ◌-◌, ◌<◌, ◌≤◌, List, [], ◌∷◌, length, Option, Some, None, Bool, true, false, sym, ap, subst, ◌∙◌, refl, arith, ◌⊎◌}
use Rattle.std.specs.Prelude.{◌==◌, ◌&&◌, ◌||◌, is_some, if◌then◌else◌}
use Rattle.std.proofs.lemmas.Bool.{ne_eqb, false≢true, and_parts}
use Rattle.std.proofs.lemmas.List.{length-map}
use Rattle.fk_num.specs.Word.{Memory}
use Rattle.fk_space.specs.Space.{Space}
use Rattle.fk_tree.specs.declared.node.Kind.{Kind}
use Rattle.fk_tree.specs.Tree as trees
use Rattle.fk_tree.specs.Tree.{Tree, Node, kind_of, is_from, is_member, is_waiting}
use Rattle.fk_tree.specs.Sound.{awaits, IsSound}
use Rattle.fk_tree.proofs.Shapes.{has_some, awaits-some}
use Rattle.fk_tree.proofs.Begins.{root_some}
use Rattle.fk_meaning.specs.Processor.{Level, Setting}
use Rattle.fk_meaning.specs.Round.{Runner}
use Rattle.fk_core.specs.declared.op.CoreOp.{CoreOp}
use Rattle.fk_core.specs.Next.{Position}
use Rattle.fk_image.specs.declared.Image.{Image}
use Rattle.fk_machine.specs.Hart.{Hart, Setting as MachineSetting}
use Rattle.fk_machine.specs.Cycle.{setting_of, unprinted}
use Rattle.fk_sim_nodes.specs.Node.{Member, numbered, add, of_node}
use Rattle.fk_sim_nodes.specs.Alone.{later, in_cycles}
use Rattle.fk_sim_nodes.specs.Together.{Together}
use Rattle.fk_sim_match.specs.Stage.{Stage, Ended, Acts, Meets}
use Rattle.fk_sim_match.specs.Plan.{Plan, AllStandAt, AllAct, Binds, IsBound}
use Rattle.fk_sim_match.specs.Rounds.{IsDueAt, AllDue}
use Rattle.fk_sim_block.specs.Owner.{Owner, core_source}
use Rattle.fk_sim_block.specs.Stands.{Places}
use Rattle.fk_sim_block.specs.Node.{Nestings}
use Rattle.fk_sim_match.specs.Nodes.{first_of, own_words, owns, LiesIn, HaveSpaces, meeters_at, is_arrival, owner_among, meeters_by, is_arrival_by, meeters, is_lockstep, plan_of}
use Rattle.fk_sim_match.specs.Behind.{blocks_of}
use Rattle.fk_sim_match.proofs.Rounds.{not_none}
use Rattle.fk_sim_rounds.specs.After.{runners_of, ArePlaces}
use Rattle.fk_sim_rounds.specs.Next.{HasRange}
use Rattle.fk_sim_rounds.specs.Homes.{IsLevelOf, AllHome}
use Rattle.fk_sim_rounds.specs.Transport.{HaveSameSpaces, OtherSpacesDontMatter, UnitedSpacesDontMatter}
use Rattle.fk_sim_rounds.proofs.Trees.{some_there}
use Rattle.fk_sim_rounds.proofs.Groups.{many_length}

waits_there : (x : Option Node) → is_waiting (kind_of x) ≡ true → is_some x ≡ true
waits_there None waits = waits
waits_there (Some node) waits = refl

no_lockstep : (x : Option Node) → is_some x ≡ false → is_lockstep (kind_of x) ≡ false
no_lockstep None none = refl
no_lockstep (Some node) none = absurd (false≢true (sym none))

module _ (tree : Tree) (spaces spaces' : ℕ → Space) (same : HaveSameSpaces tree spaces spaces') where
  first_same : (g : ℕ) → is_some (tree.nodes g) ≡ true → first_of spaces g ≡ first_of spaces' g
  first_same zero is = refl
  first_same (suc g) is = ap (λ s. s.low) (same (suc g) is)

  own_same : (g : ℕ) (kind : Option Kind) → is_some (tree.nodes g) ≡ true → own_words spaces g kind ≡ own_words spaces' g kind
  own_same zero kind is = refl
  own_same (suc g) kind is = ap (λ s. if is_waiting kind then 8 else s.high - s.low) (same (suc g) is)

  -- ---- the plan

  owns_same : (g i : ℕ) → owns tree spaces g i ≡ owns tree spaces' g i
  owns_same g i = by (is_some (tree.nodes g)) refl
    where
      by : (b : Bool) → is_some (tree.nodes g) ≡ b → owns tree spaces g i ≡ owns tree spaces' g i
      by true is =
          ap (λ f. is_some (tree.nodes g) && is_from f (own_words spaces g (trees.kind tree g)) i) (first_same g is)
          ∙ ap (λ n. is_some (tree.nodes g) && is_from (first_of spaces' g) n i) (own_same g (trees.kind tree g) is)
      by false none =
          ap (λ b. b && is_from (first_of spaces g) (own_words spaces g (trees.kind tree g)) i) none
          ∙ sym (ap (λ b. b && is_from (first_of spaces' g) (own_words spaces' g (trees.kind tree g)) i) none)

  owner_same : (count i : ℕ) → owner_among tree spaces count i ≡ owner_among tree spaces' count i
  owner_same zero i = refl
  owner_same (suc g) i =
      ap (λ b. if b then Some g else owner_among tree spaces g i) (owns_same g i) ∙ ap (λ x. if owns tree spaces' g i then Some g else x) (owner_same g i)

  owner_there : (count i g : ℕ) → owner_among tree spaces' count i ≡ Some g → is_some (tree.nodes g) ≡ true
  owner_there zero i g e = absurd (cc)
  owner_there (suc n) i g e = by (owns tree spaces' n i) refl (owner_there n i g) e
    where
      by : (b : Bool) → owns tree spaces' n i ≡ b → (owner_among tree spaces' n i ≡ Some g → is_some (tree.nodes g) ≡ true) → (if b then Some n else owner_among tree spaces' n i) ≡ Some g
          → is_some (tree.nodes g) ≡ true
      by true own more e =
          let at : n ≡ g = cc in
          subst (λ k. is_some (tree.nodes k) ≡ true) at (and_parts (is_some (tree.nodes n)) (is_from (first_of spaces' n) (own_words spaces' n (trees.kind tree n)) i) own).0
      by false own more e = more e

  meeters_same : (i : ℕ) → meeters tree spaces i ≡ meeters tree spaces' i
  meeters_same i = ap (meeters_by tree spaces i) (owner_same tree.given i) ∙ by (owner_among tree spaces' tree.given i) refl
    where
      by : (x : Option ℕ) → owner_among tree spaces' tree.given i ≡ x → meeters_by tree spaces i x ≡ meeters_by tree spaces' i x
      by None e = refl
      by (Some g) e = ap (λ f. meeters_at tree g (i - f)) (first_same g (owner_there tree.given i g e))

  arrival_same : (i : ℕ) → is_arrival_by spaces i (owner_among tree spaces tree.given i) ≡ is_arrival_by spaces' i (owner_among tree spaces' tree.given i)
  arrival_same i = ap (is_arrival_by spaces i) (owner_same tree.given i) ∙ by (owner_among tree spaces' tree.given i) refl
    where
      by : (x : Option ℕ) → owner_among tree spaces' tree.given i ≡ x → is_arrival_by spaces i x ≡ is_arrival_by spaces' i x
      by None e = refl
      by (Some g) e = ap (λ f. is_arrival (i - f)) (first_same g (owner_there tree.given i g e))

  pub plan_same : (nodes : List ℕ) → plan_of tree spaces nodes ≡ plan_of tree spaces' nodes
  plan_same nodes = λ j.
      record {
        nodes = nodes;
        words = λ g i. owns_same g i j;
        in_lockstep = λ g. is_lockstep (trees.kind tree g);
        arrivals = λ w. arrival_same w j;
        size = λ w. length (meeters_same w j);
        member = λ w h. is_member h (meeters_same w j);
      }

  -- ---- what holds of the tree

  pub spaced_same : HaveSpaces tree spaces → HaveSpaces tree spaces'
  spaced_same x = record {
    header = λ g ne is. subst (λ s. s.low + 8 ≤ s.high) (same g is) (x.header g ne is);
    within = λ g ne is. subst (λ s. s.high ≤ (first_of spaces' 0)) (same g is) (x.within g ne is);
    waits = x.waits;
    nested = λ g ne is up.
        let there = waits_there (tree.nodes (trees.parent tree g)) (x.waits g ne is) in
        subst (λ s. LiesIn (spaces' g) s) (same (trees.parent tree g) there) (subst (λ s. LiesIn s (spaces (trees.parent tree g))) (same g is) (x.nested g ne is up));
    apart = λ g k ne ne' other is is' up.
        subst (λ s. (s.high ≤ (spaces' k).low) ⊎ ((spaces' k).high ≤ s.low)) (same g is)
        (subst (λ s. ((spaces g).high ≤ s.low) ⊎ (s.high ≤ (spaces g).low)) (same k is') (x.apart g k ne ne' other is is' up));
  }

  due_same : (core : List CoreOp) (g : ℕ) (x : Stage) (r : Runner Position) → is_some (tree.nodes g) ≡ true → IsDueAt core tree spaces g x r → IsDueAt core tree spaces' g x r
  due_same core g Ended r is due = due
  due_same core g (Acts d inner) r is due = record { single = due.single; step = due.step; next_is = due.next_is; joint = due.joint }
  due_same core g (Meets e w f) r is due = (
    due.0,
    record {
      offset = due.1.offset;
      step = due.1.step;
      next_is = due.1.next_is;
      word_is = due.1.word_is ∙ ap (λ k. k + due.1.offset) (first_same g is);
      arrival = due.1.arrival;
      joint = due.1.joint;
      ends = due.1.ends;
    },
  )

  module _ (p : ℕ) (sound : IsSound p tree) where
    place_there : (h : ℕ) → h < p → is_some (tree.nodes (tree.places h)) ≡ true
    place_there h lt = some_there (tree.nodes (tree.places h)) (has_some tree (tree.places h) h (sound.placed h lt).member)

    all_due_same : (core : List CoreOp) (number : ℕ) (stages : List Stage) (rs : List (Runner Position)) → number + length rs ≡ p → AllDue core tree spaces number stages rs → AllDue core tree spaces' number stages rs
    all_due_same core number [] [] many due = tt
    all_due_same core number (x ∷ stages) (r ∷ rs) many due =
        (due.0, due_same core (tree.places number) x r (place_there number (omega (arith, many))) due.1, all_due_same core (suc number) stages rs (omega (arith, many)) due.2)
    all_due_same core number stages rs many due = absurd (assumption due)

    level_same : (n : ℕ) (l : Level) (outer : List Level) → is_some (tree.nodes n) ≡ true → IsLevelOf tree spaces n l outer → IsLevelOf tree spaces' n l outer
    level_same n l [] is level = level
    level_same n l (k ∷ outer) is level =
        let waits : awaits (trees.kind tree (trees.parent tree n)) n ≡ true = sound.awaited n level.0 (not_none (tree.nodes n) is) in
        let there = some_there (tree.nodes (trees.parent tree n)) (awaits-some tree (trees.parent tree n) n waits) in
        (level.0, subst (λ s. HasRange s l.space) (same n is) level.1, level.2, level_same (trees.parent tree n) k outer there level.3)

    homes_same : (number : ℕ) (ps : List Owner) → number + length ps ≡ p → AllHome tree spaces number ps → AllHome tree spaces' number ps
    homes_same number [] many home = tt
    homes_same number (q ∷ ps) many home =
        (home.0, level_same (tree.places number) q.runner.has.level q.runner.has.outer (place_there number (omega (arith, many))) home.1, homes_same (suc number) ps (omega (arith, many)) home.2)

    -- nobody stands at a node that is not there
    none_stand : {A : Type 0} (g number : ℕ) (ns : List ℕ) (xs : List A) → is_some (tree.nodes g) ≡ false → number + length ns ≡ p → ArePlaces tree number ns → of_node g ns xs ≡ []
    none_stand g number [] xs none many here = refl
    none_stand g number (n ∷ ns) [] none many here = refl
    none_stand g number (n ∷ ns) (x ∷ xs) none many here =
        let other : n ≢ g = λ e. false≢true (sym none ∙ ap (λ k. is_some (tree.nodes k)) (sym e ∙ here.0) ∙ place_there number (omega (arith, many))) in
        ap (λ b. add b x (of_node g ns xs)) (ne_eqb n g other) ∙ none_stand g (suc number) ns xs none (omega (arith, many)) here.1

-- ---- who is bound

module _ (core : List CoreOp) (image : Image) (places : Places) (nestings : Nestings) (setting : Setting) (plan : Plan) (f f' : ℕ → ℕ) (t : MachineSetting) (g : ℕ) where
  all_act : (d inner : ℕ) (stages : List Stage) (ms : List Member) (ps : List Owner) → AllAct (core_source core setting) image plan (blocks_of core image places nestings setting plan f) d inner stages ms ps
      → AllAct (core_source core setting) image plan (blocks_of core image places nestings setting plan f') d inner stages ms ps
  all_act d inner [] [] [] all = tt
  all_act d inner (x ∷ stages) (m ∷ ms) (p ∷ ps) all = (all.0, all_act d inner stages ms ps all.1)
  all_act d inner stages ms ps all = absurd (assumption all)

  module _ (e : f g ≡ f' g) where
    stand_same : (x : Stage) (m : Member) (p : Owner) → AllStandAt (core_source core setting) image plan (blocks_of core image places nestings setting plan f) t g (x ∷ []) (m ∷ []) (p ∷ [])
        → AllStandAt (core_source core setting) image plan (blocks_of core image places nestings setting plan f') t g (x ∷ []) (m ∷ []) (p ∷ [])
    stand_same Ended m p stands = stands
    stand_same (Acts d inner) m p stands =
        subst (λ k. AllStandAt (core_source core setting) image plan (blocks_of core image places nestings setting plan (λ n. k)) t g (Acts d inner ∷ []) (m ∷ []) (p ∷ [])) e stands
    stand_same (Meets en w ph) m p stands =
        subst (λ k. AllStandAt (core_source core setting) image plan (blocks_of core image places nestings setting plan (λ n. k)) t g (Meets en w ph ∷ []) (m ∷ []) (p ∷ [])) e stands

    all_stand : (stages : List Stage) (ms : List Member) (ps : List Owner) → AllStandAt (core_source core setting) image plan (blocks_of core image places nestings setting plan f) t g stages ms ps
        → AllStandAt (core_source core setting) image plan (blocks_of core image places nestings setting plan f') t g stages ms ps
    all_stand [] [] [] all = tt
    all_stand (x ∷ stages) (m ∷ ms) (p ∷ ps) all = ((stand_same x m p (all.0, tt)).0, all_stand stages ms ps all.1)
    all_stand stages ms ps all = absurd (assumption all)

    binds_same : (b : Bool) (stages : List Stage) (ms : List Member) (ps : List Owner) (own : Memory) → Binds (core_source core setting) image plan (blocks_of core image places nestings setting plan f) b t g stages ms ps own
        → Binds (core_source core setting) image plan (blocks_of core image places nestings setting plan f') b t g stages ms ps own
    binds_same true stages ms ps own x = record {
      distance = x.distance;
      inner = x.inner;
      alike = all_act x.distance x.inner stages ms ps x.alike;
      together =
          subst
          (λ k.
          Together (core_source core setting) image (plan.words g) t (suc x.inner) x.distance ms ps own
          ((blocks_of core image places nestings setting plan (λ n. k)).AfterAll (later (in_cycles x.distance t)) g)) e x.together;
    }
    binds_same false stages ms ps own x = all_stand stages ms ps x

  none_binds : (stages : List Stage) (ms : List Member) (ps : List Owner) → stages ≡ [] → ms ≡ [] → ps ≡ []
      → AllStandAt (core_source core setting) image plan (blocks_of core image places nestings setting plan f') t g stages ms ps
  none_binds stages ms ps a b c =
      subst (λ l. AllStandAt (core_source core setting) image plan (blocks_of core image places nestings setting plan f') t g l ms ps) (sym a)
      (subst (λ l. AllStandAt (core_source core setting) image plan (blocks_of core image places nestings setting plan f') t g [] l ps) (sym b)
      (subst (λ l. AllStandAt (core_source core setting) image plan (blocks_of core image places nestings setting plan f') t g [] [] l) (sym c) tt))

module _ (core : List CoreOp) (image : Image) (places : Places) (nestings : Nestings) (setting : Setting) (tree : Tree) (spaces spaces' : ℕ → Space) (same : HaveSameSpaces tree spaces spaces')
    (sound : IsSound setting.processors tree) (nodes : List ℕ) (stand : ArePlaces tree 0 nodes) (many : length nodes ≡ setting.processors)
    (t : MachineSetting) (stages : List Stage) (hs : List Hart) (ps : List Owner) (own : ℕ → Memory)
    (lock : ℕ → Bool) (free : (g : ℕ) → is_some (tree.nodes g) ≡ false → lock g ≡ false) where
  -- the plan in which these nodes are in lockstep
  abbrev locked : (ℕ → Space) → Plan
  locked words = record (plan_of tree words nodes) { in_lockstep = lock }

  abbrev plan : Plan
  plan = locked spaces'

  bound_same : IsBound (core_source core setting) image (locked spaces) (blocks_of core image places nestings setting (locked spaces) (first_of spaces)) t stages hs ps own
      → IsBound (core_source core setting) image (locked spaces') (blocks_of core image places nestings setting (locked spaces') (first_of spaces')) t stages hs ps own
  bound_same x =
      let y = subst
      (λ p. IsBound (core_source core setting) image (record p { in_lockstep = lock }) (blocks_of core image places nestings setting (record p { in_lockstep = lock }) (first_of spaces)) t stages hs ps own)
      (plan_same tree spaces spaces' same nodes) x in
      record { as_many = y.as_many; stages_as_many = y.stages_as_many; binds = λ g. by g (is_some (tree.nodes g)) refl (y.binds g); counts = λ g w. y.counts g w }
    where
      by : (g : ℕ) (b : Bool) → is_some (tree.nodes g) ≡ b
          → Binds (core_source core setting) image plan (blocks_of core image places nestings setting plan (first_of spaces)) (lock g) t g (of_node g nodes stages) (of_node g nodes (numbered 0 hs))
          (of_node g nodes ps) (own g)
          → Binds (core_source core setting) image plan (blocks_of core image places nestings setting plan (first_of spaces')) (lock g) t g (of_node g nodes stages) (of_node g nodes (numbered 0 hs))
          (of_node g nodes ps) (own g)
      by g true is z =
          binds_same core image places nestings setting plan (first_of spaces) (first_of spaces') t g (first_same tree spaces spaces' same g is) (lock g) (of_node g nodes stages)
          (of_node g nodes (numbered 0 hs)) (of_node g nodes ps) (own g) z
      by g false none z =
          let size : 0 + length nodes ≡ setting.processors = omega (arith, many) in
          subst
          (λ b. Binds (core_source core setting) image plan (blocks_of core image places nestings setting plan (first_of spaces')) b t g (of_node g nodes stages) (of_node g nodes (numbered 0 hs)) (of_node g nodes ps) (own g))
          (sym (free g none))
          (none_binds core image places nestings setting plan (first_of spaces) (first_of spaces') t g (of_node g nodes stages) (of_node g nodes (numbered 0 hs)) (of_node g nodes ps)
          (none_stand tree spaces spaces' same setting.processors sound g 0 nodes stages none size stand) (none_stand tree spaces spaces' same setting.processors sound g 0 nodes (numbered 0 hs) none size stand)
          (none_stand tree spaces spaces' same setting.processors sound g 0 nodes ps none size stand))

pub other_spaces_dont_matter : OtherSpacesDontMatter
other_spaces_dont_matter core image places nestings setting spaces spaces' s nodes printed stages m same goes =
    let f = goes.followed in
    let b = f.before in
    let many = b.many in
    let long = (many_length nodes m.harts f.ps b.as_many).1 in
    let runners = length-map f.ps (λ p. p.runner) in
    record {
      followed = record {
        ps = f.ps;
        shared = f.shared;
        before = record {
          running = b.running;
          sound = b.sound;
          spaced = spaced_same s.tree spaces spaces' same b.spaced;
          stand = b.stand;
          many = b.many;
          as_many = b.as_many;
          landed = b.landed;
          due = all_due_same s.tree spaces spaces' same setting.processors b.sound core 0 stages (runners_of f.ps) (omega (arith, many, long, runners)) b.due;
        };
        order = f.order;
        beside = f.beside;
        homes = homes_same s.tree spaces spaces' same setting.processors b.sound 0 f.ps (omega (arith, many, long)) f.homes;
        shows = f.shows;
        bound = bound_same core image places nestings setting s.tree spaces spaces' same b.sound nodes b.stand b.many (setting_of m) stages m.harts f.ps (λ g. (unprinted m.shared).control)
            (λ g. is_lockstep (trees.kind s.tree g)) (λ g none. no_lockstep (s.tree.nodes g) none) f.bound;
      };
      stand = goes.stand;
    }

-- with all in lockstep at the root, which is there
no_root : (p : ℕ) (tree : Tree) → IsSound p tree → (g : ℕ) → is_some (tree.nodes g) ≡ false → ((g == 0) || is_lockstep (trees.kind tree g)) ≡ false
no_root p tree sound g none =
    let ne : g ≢ 0 = λ zero_is. false≢true (sym none ∙ ap (λ k. is_some (tree.nodes k)) zero_is ∙ some_there (tree.nodes 0) (root_some p tree sound)) in
    ap (λ b. b || is_lockstep (trees.kind tree g)) (ne_eqb g 0 ne) ∙ no_lockstep (tree.nodes g) none

pub united_spaces_dont_matter : UnitedSpacesDontMatter
united_spaces_dont_matter core image places nestings setting spaces spaces' s nodes printed stages m same goes =
    let f = goes.followed in
    let b = f.before in
    let many = b.many in
    let long = (many_length nodes m.harts f.ps b.as_many).1 in
    record {
      followed = record {
        ps = f.ps;
        shared = f.shared;
        before = record {
          running = b.running;
          sound = b.sound;
          spaced = spaced_same s.tree spaces spaces' same b.spaced;
          stand = b.stand;
          many = b.many;
          as_many = b.as_many;
          alone = b.alone;
          kind = b.kind;
          in_root = b.in_root;
        };
        landed = f.landed;
        i = f.i;
        op = f.op;
        stands = f.stands;
        about = f.about;
        order = f.order;
        beside = f.beside;
        near = f.near;
        roots = f.roots;
        homes = homes_same s.tree spaces spaces' same setting.processors b.sound 0 f.ps (omega (arith, many, long)) f.homes;
        shows = f.shows;
        bound =
            bound_same core image places nestings setting s.tree spaces spaces' same b.sound nodes b.stand b.many (setting_of m) stages m.harts f.ps (λ g. (unprinted m.shared).control)
            (λ g. (g == 0) || is_lockstep (trees.kind s.tree g)) (no_root setting.processors s.tree b.sound) f.bound;
      };
      stand = goes.stand;
    }
