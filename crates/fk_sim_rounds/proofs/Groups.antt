-- A group in lockstep whose node a round leaves as it was.
use Rattle.std.proofs.Common.{◌≡◌, ℕ, suc, ◌+◌, ◌≤◌, ◌<◌, List, [], ◌∷◌, length, Option, Some, None, Bool, true, false, sym, ap, subst, ◌∙◌, refl, arith, ◌⊎◌, inl, inr, ⊎_elim, eq-eqb}
use Rattle.std.specs.Prelude.{◌==◌, ◌&&◌, map, is_some, slice_get}
use Rattle.std.proofs.lemmas.Bool.{eqb-true, or_left}
use Rattle.fk_num.specs.Word.{Memory}
use Rattle.fk_space.specs.Space.{Space}
use Rattle.fk_tree.specs.declared.node.Kind.TheVariants.{Lockstep}
use Rattle.fk_tree.specs.Tree as trees
use Rattle.fk_tree.specs.Tree.{Tree, Node, kind_of, is_member, is_from}
use Rattle.fk_tree.specs.Sound.{IsSound}
use Rattle.fk_meaning.specs.Processor.{Setting, values, last}
use Rattle.fk_meaning.specs.Round.{agreed}
use Rattle.fk_core.specs.declared.op.CoreOp.{CoreOp}
use Rattle.fk_image.specs.declared.Image.{Image}
use Rattle.fk_machine.specs.Hart.{Hart, Setting as MachineSetting}
use Rattle.fk_sim_nodes.specs.Node.{Member, numbered, add, of_node, AreAsMany, Has}
use Rattle.fk_sim_nodes.specs.Alone.{later, in_cycles}
use Rattle.fk_sim_nodes.specs.OnePlace.{last_or}
use Rattle.fk_sim_nodes.specs.Together.{Together}
use Rattle.fk_sim_match.specs.Stage.{Stage, Acts}
use Rattle.fk_sim_match.specs.Plan.{Plan, Blocks}
use Rattle.fk_sim_match.specs.Cycle.{AllHaveCommitted, AllKeep as AllStay, NodeIsLeft, GroupIsLeft}
use Rattle.fk_sim_match.specs.Change.{HasSame, GroupStays}
use Rattle.fk_sim_match.proofs.Changes.{same_of, together_on}
use Rattle.fk_sim_block.specs.Owner.{Owner, Doing, core_source}
use Rattle.fk_sim_block.specs.Stands.{Places}
use Rattle.fk_sim_block.specs.Block.{IsRunning}
use Rattle.fk_sim_block.specs.Node.{Nestings}
use Rattle.fk_sim_block.specs.Law.{Cycles, GroupLaw}
use Rattle.fk_sim_match.specs.Nodes.{first_of, own_words, HaveSpaces, plan_of}
use Rattle.fk_sim_match.specs.Behind.{HaveActed, blocks_of}
use Rattle.fk_sim_match.proofs.Rounds.{lockstep_kind}
use Rattle.fk_sim_rounds.specs.Next.{JumpsLead, landed, all_landed, HaveNext}
use Rattle.fk_sim_rounds.specs.Comes.{most_between, IsNode}
use Rattle.fk_sim_rounds.specs.After.{actings, owner_after, AllKeep, ArePlaces, AllGoOn}
use Rattle.fk_sim_rounds.proofs.Lists.{of_map, some_of}
use Rattle.fk_sim_rounds.proofs.Agreed.{some_elem, member_place, agreed_is}
use Rattle.fk_sim_rounds.proofs.Same.{SameNode}
use Rattle.fk_sim_rounds.proofs.Keep.{AllAtHome, group_comes, nobody_halts}
use Rattle.fk_sim_rounds.proofs.Harts.{LockLeft}

pub same_all : (g : ℕ) (ns : List ℕ) → HasSame g ns ns
same_all g [] = tt
same_all g (n ∷ ns) = (refl, same_all g ns)

pub many_length : {A B : Type 0} (ns : List ℕ) (xs : List A) (ys : List B) → AreAsMany ns xs ys → (length ns ≡ length xs) × (length ns ≡ length ys)
many_length [] [] [] many = (refl, refl)
many_length (n ∷ ns) (x ∷ xs) (y ∷ ys) many = let r = many_length ns xs ys many in (ap suc r.0, ap suc r.1)
many_length ns xs ys many = absurd (assumption many)

numbered_length : (number : ℕ) (hs : List Hart) → length (numbered number hs) ≡ length hs
numbered_length number [] = refl
numbered_length number (h ∷ hs) = ap suc (numbered_length (suc number) hs)

empty_or : (ms : List ℕ) → (ms ≡ []) ⊎ ((m : ℕ) × (is_member m ms ≡ true))
empty_or [] = inl refl
empty_or (m ∷ ms) = inr (m, or_left (m == m) (is_member m ms) (eq-eqb m m refl))

none_kind : (x : Option Node) → x ≡ None → kind_of x ≡ Some Lockstep → ⊥
none_kind x e kind = let f = sym (ap kind_of e) ∙ kind in absurd (cc)

-- all of some have kept a stage, and all have committed: then there are none
none_both : (s : Stage) (afters : List (Option Stage)) → AllStay s afters → AllHaveCommitted afters → length afters ≡ 0
none_both s [] stay gone = refl
none_both s (a ∷ afters) stay gone = let e = sym stay.0 ∙ gone.0 in absurd (cc)

-- somebody stands in the node of a group
pub record Stands (nodes : List ℕ) (g : ℕ) : Type 0 where
  pub hart : ℕ
  pub at : slice_get nodes hart ≡ Some g
  pub below : hart < length nodes

pub somebody : (p : ℕ) (tree : Tree) → IsSound p tree → (nodes : List ℕ) → ArePlaces tree 0 nodes → length nodes ≡ p → (g : ℕ) → trees.kind tree g ≡ Some Lockstep → Stands nodes g
somebody p tree sound nodes places many g kind =
    ⊎_elim (λ empty. absurd (none_kind (tree.nodes g) (sound.living g empty) kind))
    (λ one. let lt = sound.within g one.0 one.1 in record { hart = one.0; at = member_place p tree sound nodes places many g one.0 kind one.1; below = omega (arith, lt, many) })
    (empty_or (trees.members tree g))

pub there_are : {A : Type 0} (nodes : List ℕ) (g : ℕ) (xs : List A) → Stands nodes g → length nodes ≡ length xs → length (of_node g nodes xs) ≡ 0 → ⊥
there_are nodes g xs stands many =
    let below = stands.below in
    let x = some_elem xs stands.hart (omega (arith, below, many)) in
    some_of g nodes xs stands.hart x.is stands.at x.at

module _ (core : List CoreOp) (image : Image) (places : Places) (nestings : Nestings) (cycles : Cycles) (firsts : List ℕ) (main : ℕ) (setting : Setting) (old tree : Tree) (spaces : ℕ → Space) (nodes nodes' : List ℕ)
    (the_law : GroupLaw core image places nestings cycles firsts main) (leads : JumpsLead core) (spaced : HaveSpaces tree spaces) (sound : IsSound setting.processors tree)
    (t : MachineSetting) (running : IsRunning image setting t) (ds : List Doing) where
  abbrev plan : Plan
  plan = plan_of old spaces nodes

  abbrev blocks : Blocks Owner Doing
  blocks = blocks_of core image places nestings setting (plan_of old spaces nodes) (first_of spaces)

  abbrev plan' : Plan
  plan' = plan_of tree spaces nodes'

  abbrev blocks' : Blocks Owner Doing
  blocks' = blocks_of core image places nestings setting (plan_of tree spaces nodes') (first_of spaces)

  abbrev settle : Doing → Owner
  settle d = owner_after (actings ds) old tree d

  home_add : (g : ℕ) (b : Bool) (m : Member) (ms : List Member) (d : Doing) (xs : List Doing)
      → (b ≡ true → AllAtHome core image places nestings cycles firsts main setting old tree spaces nodes nodes' the_law leads spaced sound t running (actings ds) g (m ∷ []) (d ∷ []))
      → AllAtHome core image places nestings cycles firsts main setting old tree spaces nodes nodes' the_law leads spaced sound t running (actings ds) g ms xs
      → AllAtHome core image places nestings cycles firsts main setting old tree spaces nodes nodes' the_law leads spaced sound t running (actings ds) g (add b m ms) (add b d xs)
  home_add g true m ms d xs one rest = ((one refl).0, rest)
  home_add g false m ms d xs one rest = rest

  pub at_home : (g number : ℕ) (ns : List ℕ) (hs : List Hart) (afters : List (Option Stage)) (xs : List Doing) → ArePlaces old number ns → ((h : ℕ) → h < setting.processors → old.places h ≡ g → tree.places h ≡ g) → number + length ns ≡ setting.processors
      → AreAsMany ns hs afters → AreAsMany ns hs xs → AllGoOn core nestings setting tree spaces number afters xs (map settle xs)
      → AllAtHome core image places nestings cycles firsts main setting old tree spaces nodes nodes' the_law leads spaced sound t running (actings ds) g (of_node g ns (numbered number hs)) (of_node g ns xs)
  at_home g number [] [] [] [] here stay many as_a as_d on = tt
  at_home g number (n ∷ ns) (h ∷ hs) (a ∷ afters) (d ∷ xs) here stay many as_a as_d on =
      home_add g (n == g) (record { number = number; hart = h }) (of_node g ns (numbered (suc number) hs)) d (of_node g ns xs)
      (λ e. let at = sym here.0 ∙ eqb-true n g e in let lt : number < setting.processors = omega (arith, many) in ((at, stay number lt at, lt, on.0), tt))
      (at_home g (suc number) ns hs afters xs here.1 stay (omega (arith, many)) as_a as_d on.2)
  at_home g number ns hs afters xs here stay many as_a as_d on = absurd (assumption (as_a, as_d))

  module _ (hs : List Hart) (ps : List Owner) (afters : List (Option Stage)) (own' : ℕ → Memory) (control : Memory)
      (here : ArePlaces old 0 nodes) (many : length nodes ≡ setting.processors) (as_a : AreAsMany nodes hs afters) (as_d : AreAsMany nodes hs ds)
      (on : AllGoOn core nestings setting tree spaces 0 afters ds (map settle ds)) (has : (g : ℕ) → Has (plan.words g) control (own' g))
      (sound_old : IsSound setting.processors old)
      (is_left : (g : ℕ) → NodeIsLeft (core_source core setting) image plan blocks (plan.in_lockstep g) t g (of_node g nodes afters) (of_node g nodes (numbered 0 hs)) (of_node g nodes ps)
      (of_node g nodes ds) (own' g)) where
    -- it has done nothing, or stands so far from its next commit
    pub record GroupAt (g : ℕ) : Type 0 where
      pub distance : ℕ
      pub soon : distance ≤ most_between
      pub goes : GroupStays (core_source core setting) image plan blocks plan' blocks' g afters
          ⊎ (AllHaveCommitted (of_node g nodes' afters)
          × Together (core_source core setting) image (plan'.words g) t 1 distance (of_node g nodes' (numbered 0 hs)) (of_node g nodes' (all_landed core (map settle ds))) control
          (blocks'.AfterAll (later (in_cycles distance t)) g))

    as_group : (g : ℕ) → plan.in_lockstep g ≡ true → GroupIsLeft (core_source core setting) image plan blocks t g (of_node g nodes afters) (of_node g nodes (numbered 0 hs)) (of_node g nodes ps)
        (of_node g nodes ds) (own' g)
    as_group g e =
        subst
        (λ b. NodeIsLeft (core_source core setting) image plan blocks b t g (of_node g nodes afters) (of_node g nodes (numbered 0 hs)) (of_node g nodes ps) (of_node g nodes ds) (own' g)) e
        (is_left g)

    pub lengths : (length nodes ≡ length hs) × (length nodes ≡ length ds)
    lengths = many_length nodes hs ds as_d

    members_there : (g : ℕ) → Stands nodes g → length (of_node g nodes (numbered 0 hs)) ≡ 0 → ⊥
    members_there g stands = there_are nodes g (numbered 0 hs) stands (lengths.0 ∙ sym (numbered_length 0 hs))

    agrees : (g : ℕ) → trees.kind old g ≡ Some Lockstep
        → agreed (actings ds) (trees.members old g) ≡ last_or 0 (map (λ d. last (values d.acting.runner.has)) (of_node g nodes ds))
    agrees g kind =
        agreed_is setting.processors old sound_old nodes here many g ds
        (λ empty. none_kind (old.nodes g) (sound_old.living g empty) kind) kind (sym lengths.1 ∙ many)

    -- whose steps keep the tree
    module _ (g : ℕ) (same : SameNode old tree spaces g) (lock : plan.in_lockstep g ≡ true) (keep : AllKeep (of_node g nodes ds))
        (stay : (h : ℕ) → h < setting.processors → old.places h ≡ g → tree.places h ≡ g) (alike : HasSame g nodes nodes') where
      kind : trees.kind old g ≡ Some Lockstep
      kind = lockstep_kind (trees.kind old g) lock

      stands : Stands nodes g
      stands = somebody setting.processors old sound_old nodes here many g kind

      home : AllAtHome core image places nestings cycles firsts main setting old tree spaces nodes nodes' the_law leads spaced sound t running (actings ds) g (of_node g nodes (numbered 0 hs)) (of_node g nodes ds)
      home = at_home g 0 nodes hs afters ds here stay (omega (arith, many)) as_a as_d on

      node : IsNode tree spaces g
      node = record { spaced = spaced; there = same.words.there'; given = same.words.given' }

      words : plan.words g ≡ plan'.words g
      words = ap (λ n i. is_some n && is_from (first_of spaces g) (own_words spaces g (kind_of n)) i) (sym same.node)

      after_same : (u : MachineSetting) (ms : List Member) (xs : List Doing) (own : Memory) → blocks.AfterAll u g ms xs own → blocks'.AfterAll u g ms xs own
      after_same u ms xs own x =
          (x.0, x.1, subst (λ w. HaveActed core image places nestings setting w (first_of spaces g) u x.0 xs ms own) words x.2)

      -- its members are the same in both trees
      now : {A : Type 0} (xs : List A) → of_node g nodes xs ≡ of_node g nodes' xs
      now xs = sym (same_of g nodes nodes' xs alike)

      pub group_at : (AllHaveCommitted (of_node g nodes' afters) → HaveNext core nestings (of_node g nodes' (map settle ds))) → GroupAt g
      group_at next =
          ⊎_elim
          (λ x.
          let are = of_map settle g nodes ds in
          let come = group_comes core image places nestings cycles firsts main setting old tree spaces nodes nodes' the_law leads spaced sound t running (actings ds) g (of_node g nodes (numbered 0 hs))
          (of_node g nodes ds) home keep (members_there g stands) (agrees g kind) (own' g) node (same.kind ∙ kind) words
          (subst (HaveNext core nestings) (sym (now (map settle ds)) ∙ are) (next (subst AllHaveCommitted (now afters) x.0))) x.1 in
          let qs = all_landed core (map settle ds) in
          record {
            distance = come.distance;
            soon = come.soon;
            goes = inr (
              subst AllHaveCommitted (now afters) x.0,
              subst
                  (λ l. Together (core_source core setting) image (plan'.words g) t 1 come.distance l (of_node g nodes' qs) control (blocks'.AfterAll (later (in_cycles come.distance t)) g))
                  (now (numbered 0 hs))
                  (subst
                  (λ l. Together (core_source core setting) image (plan'.words g) t 1 come.distance (of_node g nodes (numbered 0 hs)) l control (blocks'.AfterAll (later (in_cycles come.distance t)) g))
                  (sym (of_map (landed core) g nodes (map settle ds) ∙ ap (all_landed core) are) ∙ now qs)
                  (together_on (core_source core setting) image (plan'.words g) t 1 come.distance (of_node g nodes (numbered 0 hs)) (all_landed core (map settle (of_node g nodes ds))) (own' g) control
                  (blocks'.AfterAll (later (in_cycles come.distance t)) g) (members_there g stands) (λ i mine. sym (has g i (ap (λ w. w i) words ∙ mine))) come.together)),
            );
          })
          (λ x.
          record {
            distance = 0;
            soon = omega arith;
            goes = inl (record {
              grouped = lock;
              busy = λ gone. let none = none_both (Acts x.0 x.1) (of_node g nodes afters) x.2 gone in there_are nodes g afters stands ((many_length nodes hs afters as_a).1) none;
              same = alike;
              words = sym words;
              after = λ u ms xs own y. after_same u ms xs own y;
            });
          })
          (as_group g lock)

      -- what each of its harts has done
      pub lock_left : LockLeft (of_node g nodes afters) (of_node g nodes ps) (of_node g nodes ds)
      lock_left =
          ⊎_elim
          (λ x. inr (
            x.0,
            nobody_halts core image places nestings cycles firsts main setting old tree spaces nodes nodes' the_law leads spaced sound t running (actings ds) g (of_node g nodes (numbered 0 hs))
                (of_node g nodes ds) home keep (members_there g stands) (agrees g kind) (own' g) x.1,
          ))
          (λ x. inl (x.0, x.1, x.2, x.3)) (as_group g lock)
