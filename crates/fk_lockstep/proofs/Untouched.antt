-- What steps of the tree leave of it.
use Rattle.std.proofs.Common.{◌≡◌, ◌≢◌, ℕ, suc, ◌+◌, ◌<◌, ◌≤◌, Bool, true, false, true≢false, min, List, [], ◌∷◌, length, filter, Option, Some, None, ap, ◌∙◌, sym, refl, subst, arith, slice_get}
use Rattle.std.specs.Prelude.{◌==◌, ◌-◌, not, ◌&&◌, if◌then◌else◌}
use Rattle.std.proofs.lemmas.Bool.{eqb-true}
use Rattle.fk_meaning_operation.specs.declared.operation.Operation.{Operation}
use Rattle.fk_meaning_operation.specs.declared.operation.Operation.TheVariants as o
use Rattle.fk_tree.specs.declared.node.Kind.{Kind}
use Rattle.fk_tree.specs.declared.node.Kind.TheVariants.{Lockstep, Waiting, Asynchronous}
use Rattle.fk_tree.specs.Tree as t
use Rattle.fk_tree.specs.Tree.{Node, Tree, members_of, members, parent, is_member, node_of, with_kind, is_in, place_in, split, first_part, left_by, shrink, kind_after}
use Rattle.fk_tree.proofs.Lists.{kept_member}
use Rattle.fk_tree.proofs.Shapes.{with_other, kind_members, from_below}
use Rattle.fk_meaning.specs.Processor.{Processor, Setting, values}
use Rattle.fk_meaning.specs.Group.{not_negative, parts, part, stays, changes}
use Rattle.fk_meaning.specs.Round.{Step, Fault, State, Round, Acting, Phases, who, lowest, agreed, change_by, all_changes, tree_phase, all_requests, asking}
use Rattle.fk_lockstep.specs.Untouched.{changes_tree, tree_after, OthersStay, UntouchedNodesStay}

-- a split
split_members : (n k : ℕ) (f : ℕ → Option ℕ) (tree : Tree) (i h : ℕ) → i < tree.given → is_member h (members (split n k f tree) i) ≡ true → is_member h (members tree i) ≡ true
split_members n k f tree i h lt is =
    let kind : Kind = Waiting tree.given k in
    let same : members (split n k f tree) i ≡ members tree i
    = ap (λ b. members_of (if b then node_of (filter (λ g. is_in (i - tree.given) (f g)) (members tree n)) n Lockstep else (with_kind n kind tree).nodes i)) (from_below tree.given k i lt)
    ∙ kind_members n kind tree i in
    subst (λ ms. is_member h ms ≡ true) same is

split_nodes : (n k : ℕ) (f : ℕ → Option ℕ) (tree : Tree) (i : ℕ) → i < tree.given → i ≢ n → (split n k f tree).nodes i ≡ tree.nodes i
split_nodes n k f tree i lt isnt =
    let kind : Kind = Waiting tree.given k in
    ap (λ b. if b then node_of (filter (λ g. is_in (i - tree.given) (f g)) (members tree n)) n Lockstep else (with_kind n kind tree).nodes i) (from_below tree.given k i lt)
    ∙ with_other n (t.turned kind (tree.nodes n)) tree.nodes i isnt

split_places : (n k : ℕ) (f : ℕ → Option ℕ) (tree : Tree) (h : ℕ) → is_member h (members tree n) ≡ false → (split n k f tree).places h ≡ tree.places h
split_places n k f tree h isnt = ap (λ b. if b then place_in (tree.places h) tree.given (f h) else tree.places h) isnt

-- a shrink
node_members : (xs : List ℕ) (parent' : ℕ) (kind : Kind) → members_of (node_of xs parent' kind) ≡ xs
node_members [] parent' kind = refl
node_members (x ∷ xs) parent' kind = refl

left_kept : (keep : ℕ → Bool) (node : Option Node) (h : ℕ) → is_member h (members_of (left_by keep node)) ≡ true → is_member h (members_of node) ≡ true
left_kept keep None h is = is
left_kept keep (Some node) h is =
    (kept_member keep node.members h (subst (λ ms. is_member h ms ≡ true) (node_members (filter keep node.members) node.parent node.kind) is)).0

shrink_members : (n : ℕ) (keep : ℕ → Bool) (tree : Tree) (i h : ℕ) → is_member h (members (shrink n keep tree) i) ≡ true → is_member h (members tree i) ≡ true
shrink_members n keep tree i h is = by (i == n) refl is
  where
    by : (b : Bool) → (i == n) ≡ b → is_member h (members_of (if b then left_by keep (tree.nodes n) else tree.nodes i)) ≡ true → is_member h (members tree i) ≡ true
    by true e is' = subst (λ j. is_member h (members tree j) ≡ true) (sym (eqb-true i n e)) (left_kept keep (tree.nodes n) h is')
    by false e is' = is'

shrink_places : (n : ℕ) (keep : ℕ → Bool) (tree : Tree) (h : ℕ) → is_member h (members tree n) ≡ false → (shrink n keep tree).places h ≡ tree.places h
shrink_places n keep tree h isnt = ap (λ b. if b && not (keep h) then parent tree n else tree.places h) isnt

kind_kept : (n : ℕ) (kind : Kind) (tree : Tree) (i h : ℕ) → is_member h (members (with_kind n kind tree) i) ≡ true → is_member h (members tree i) ≡ true
kind_kept n kind tree i h is = subst (λ ms. is_member h ms ≡ true) (kind_members n kind tree i) is

-- one step at node n
module _ (n : ℕ) (whose : ℕ → Processor) (highest low : ℕ) (tree : Tree) where
  abbrev changed : Operation → Tree
  changed op = changes op n whose highest low tree

  split_given : (k : ℕ) → tree.given ≤ tree.given + k
  split_given k = let g = tree.given in let le : g ≤ g + k = omega arith in le

  le_same : (g : ℕ) → g ≤ g
  le_same g = omega arith

  step_given : (op : Operation) → tree.given ≤ (changed op).given
  step_given o.Begin = split_given 1
  step_given (o.Split by) = split_given (parts by (values (whose low)))
  step_given (o.Meet true) = le_same tree.given
  step_given op = le_same tree.given

  step_members : (op : Operation) (i h : ℕ) → i < tree.given → is_member h (members (changed op) i) ≡ true → is_member h (members tree i) ≡ true
  step_members o.Begin i h lt is = split_members 0 1 (first_part (min (not_negative highest) (length (members tree n)))) tree i h lt is
  step_members (o.Split by) i h lt is = split_members n (parts by (values (whose low))) (λ g. part by (values (whose g))) tree i h lt is
  step_members o.Shrink i h lt is = shrink_members n (λ g. stays (whose g)) tree i h is
  step_members o.End i h lt is = shrink_members n (λ g. false) tree i h is
  step_members o.Farm i h lt is = kind_kept n (Asynchronous false) tree i h is
  step_members o.Seq i h lt is = kind_kept n (Asynchronous true) tree i h is
  step_members (o.Meet true) i h lt is = kind_kept n Lockstep tree i h is
  step_members o.Resume i h lt is = kind_kept n (kind_after n) tree i h is
  step_members op i h lt is = is

  step_nodes : (op : Operation) (i : ℕ) → i ≢ 0 → i < tree.given → i ≢ n → (changed op).nodes i ≡ tree.nodes i
  step_nodes o.Begin i root lt isnt = split_nodes 0 1 (first_part (min (not_negative highest) (length (members tree n)))) tree i lt root
  step_nodes (o.Split by) i root lt isnt = split_nodes n (parts by (values (whose low))) (λ g. part by (values (whose g))) tree i lt isnt
  step_nodes o.Shrink i root lt isnt = with_other n (left_by (λ g. stays (whose g)) (tree.nodes n)) tree.nodes i isnt
  step_nodes o.End i root lt isnt = with_other n (left_by (λ g. false) (tree.nodes n)) tree.nodes i isnt
  step_nodes o.Farm i root lt isnt = with_other n (t.turned (Asynchronous false) (tree.nodes n)) tree.nodes i isnt
  step_nodes o.Seq i root lt isnt = with_other n (t.turned (Asynchronous true) (tree.nodes n)) tree.nodes i isnt
  step_nodes (o.Meet true) i root lt isnt = with_other n (t.turned Lockstep (tree.nodes n)) tree.nodes i isnt
  step_nodes o.Resume i root lt isnt = with_other n (t.turned (kind_after n) (tree.nodes n)) tree.nodes i isnt
  step_nodes op i root lt isnt = refl

  step_places : (op : Operation) (h : ℕ) → op ≢ o.Begin → is_member h (members tree n) ≡ false → (changed op).places h ≡ tree.places h
  step_places o.Begin h no_start isnt = absurd (no_start refl)
  step_places (o.Split by) h no_start isnt = split_places n (parts by (values (whose low))) (λ g. part by (values (whose g))) tree h isnt
  step_places o.Shrink h no_start isnt = shrink_places n (λ g. stays (whose g)) tree h isnt
  step_places o.End h no_start isnt = shrink_places n (λ g. false) tree h isnt
  step_places (o.Meet true) h no_start isnt = refl
  step_places op h no_start isnt = refl

  pub step_of_none : (op : Operation) → changes_tree op ≡ false → changed op ≡ tree
  step_of_none o.Begin e = absurd (true≢false e)
  step_of_none (o.Split by) e = absurd (true≢false e)
  step_of_none o.Shrink e = absurd (true≢false e)
  step_of_none o.End e = absurd (true≢false e)
  step_of_none o.Farm e = absurd (true≢false e)
  step_of_none o.Seq e = absurd (true≢false e)
  step_of_none (o.Meet true) e = absurd (true≢false e)
  step_of_none o.Resume e = absurd (true≢false e)
  step_of_none (o.Meet false) e = refl
  step_of_none op e = refl

not_there : (b : Bool) → (b ≡ true → ⊥) → b ≡ false
not_there true f = absurd (f refl)
not_there false f = refl

-- all of them
module _ {W : Type 0} (actings : List (Acting W)) (old : Tree) where
  record Grows (tree : Tree) : Type 0 where
    given : old.given ≤ tree.given
    members_kept : (n h : ℕ) → n < old.given → is_member h (members tree n) ≡ true → is_member h (members old n) ≡ true

  -- what holds of a tree holds after a step that its lowest member brings
  brought : (P : Tree → Type 0) (h : ℕ) (due : Option (Step W)) (tree : Tree) → P tree
      → ((step : Step W) → due ≡ Some step → P (changes step.operation (old.places h) (who actings) (agreed actings (members old (old.places h))) h tree))
      → P (change_by actings old h due tree)
  brought P h None tree p f = p
  brought P h (Some step) tree p f = by (h == lowest (members old (old.places h)))
    where
      by : (b : Bool) → P (if b then changes step.operation (old.places h) (who actings) (agreed actings (members old (old.places h))) h tree else tree)
      by true = f step refl
      by false = p

  grows_by : (h : ℕ) (due : Option (Step W)) (tree : Tree) → Grows tree → Grows (change_by actings old h due tree)
  grows_by h due tree g =
      brought Grows h due tree g
      (λ step e.
      let n = old.places h in
      let highest = agreed actings (members old n) in
      let more : tree.given ≤ (changes step.operation n (who actings) highest h tree).given = step_given n (who actings) highest h tree step.operation in
      let before : old.given ≤ tree.given = g.given in
      record {
        given = omega arith;
        members_kept = λ i j lt is.
            let lt' : i < tree.given = omega arith in
            g.members_kept i j lt (step_members n (who actings) highest h tree step.operation i j lt' is);
      })

  -- a step that changes nothing, or one that does
  by_change : (P : Tree → Type 0) (n low highest : ℕ) (tree : Tree) (op : Operation) (is : Bool) → changes_tree op ≡ is → P tree
      → (changes_tree op ≡ true → P (changes op n (who actings) highest low tree)) → P (changes op n (who actings) highest low tree)
  by_change P n low highest tree op true e p f = f e
  by_change P n low highest tree op false e p f = subst P (sym (step_of_none n (who actings) highest low tree op e)) p

  -- somebody of a list steps at a node
  abbrev NobodyAt : List (Acting W) → ℕ → Type 0
  NobodyAt others n = (i : ℕ) (a : Acting W) (step : Step W) → slice_get others i ≡ Some a → a.due ≡ Some step → changes_tree step.operation ≡ true → old.places a.runner.has.number ≡ n → ⊥

  abbrev Apart : List (Acting W) → ℕ → Type 0
  Apart others h =
      (i : ℕ) (a : Acting W) (step : Step W) → slice_get others i ≡ Some a → a.due ≡ Some step → changes_tree step.operation ≡ true
      → (step.operation ≢ o.Begin) × (old.places a.runner.has.number < old.given) × (is_member h (members old (old.places a.runner.has.number)) ≡ false)

  all_grow : (others : List (Acting W)) (tree : Tree) → Grows tree → Grows (all_changes actings old others tree)
  all_grow [] tree g = g
  all_grow (a ∷ others) tree g = all_grow others (change_by actings old a.runner.has.number a.due tree) (grows_by a.runner.has.number a.due tree g)

  all_nodes : (others : List (Acting W)) (tree : Tree) → Grows tree → (n : ℕ) → n ≢ 0 → n < old.given → NobodyAt others n → tree.nodes n ≡ old.nodes n
      → (all_changes actings old others tree).nodes n ≡ old.nodes n
  all_nodes [] tree g n root lt nobody e = e
  all_nodes (a ∷ others) tree g n root lt nobody e =
      all_nodes others (change_by actings old a.runner.has.number a.due tree) (grows_by a.runner.has.number a.due tree g) n root lt (λ i b step at due is. nobody (suc i) b step at due is)
      (brought (λ (u : Tree). u.nodes n ≡ old.nodes n) a.runner.has.number a.due tree e
      (λ step due.
      let m = old.places a.runner.has.number in
      let before : old.given ≤ tree.given = g.given in
      let lt' : n < tree.given = omega arith in
      by_change (λ (u : Tree). u.nodes n ≡ old.nodes n) m a.runner.has.number (agreed actings (members old m)) tree step.operation (changes_tree step.operation) refl e
      (λ is. step_nodes m (who actings) (agreed actings (members old m)) a.runner.has.number tree step.operation n root lt' (λ same. nobody 0 a step refl due is (sym same)) ∙ e)))

  all_places : (others : List (Acting W)) (tree : Tree) → Grows tree → (h : ℕ) → Apart others h → tree.places h ≡ old.places h
      → (all_changes actings old others tree).places h ≡ old.places h
  all_places [] tree g h apart e = e
  all_places (a ∷ others) tree g h apart e =
      all_places others (change_by actings old a.runner.has.number a.due tree) (grows_by a.runner.has.number a.due tree g) h (λ i b step at due is. apart (suc i) b step at due is)
      (brought (λ (u : Tree). u.places h ≡ old.places h) a.runner.has.number a.due tree e
      (λ step due.
      let m = old.places a.runner.has.number in
      by_change (λ (u : Tree). u.places h ≡ old.places h) m a.runner.has.number (agreed actings (members old m)) tree step.operation (changes_tree step.operation) refl e
      (λ is.
      let at = apart 0 a step refl due is in
      let isnt : is_member h (members tree m) ≡ false
      = not_there (is_member h (members tree m)) (λ there. true≢false (sym (g.members_kept m h at.1 there) ∙ at.2)) in
      step_places m (who actings) (agreed actings (members old m)) a.runner.has.number tree step.operation h at.0 isnt ∙ e)))

module _ {W : Type 0} (next : W → Option (Step W)) (set : Setting) (round : Round) (s : State W) where
  abbrev phases : Phases W
  phases = all_requests 0 (asking next set round s.runners) s.store

  by_fault : (P : Tree → Type 0) (fault : Option Fault) → P s.tree → P (all_changes phases.acting s.tree phases.acting s.tree)
      → P (tree_phase s.tree phases.store phases.acting fault).tree
  by_fault P None p q = q
  by_fault P (Some fault) p q = p

  of_round : (P : Tree → Type 0) → P s.tree → P (all_changes phases.acting s.tree phases.acting s.tree) → P (tree_after next set round s)
  of_round P p q = by_fault P phases.fault p q

  first : Grows phases.acting s.tree s.tree
  first = let g = s.tree.given in let le : g ≤ g = omega arith in record { given = le; members_kept = λ n h lt is. is }

  others_stay : OthersStay next set round s
  others_stay =
      let grown : Grows phases.acting s.tree (tree_after next set round s)
      = of_round (Grows phases.acting s.tree) first (all_grow phases.acting s.tree phases.acting s.tree first) in
      record {
        given = grown.given;
        members = grown.members_kept;
        nodes = λ n root lt nobody.
            of_round (λ (u : Tree). u.nodes n ≡ s.tree.nodes n) refl
            (all_nodes phases.acting s.tree phases.acting s.tree first n root lt
            (λ i a step at due is there. nobody (record { index = i; acting = a; step = step; does = (at, due); changes = is; there = there })) refl);
        places = λ h apart.
            of_round (λ (u : Tree). u.places h ≡ s.tree.places h) refl
            (all_places phases.acting s.tree phases.acting s.tree first h
            (λ i a step at due is. apart (s.tree.places a.runner.has.number) (record { index = i; acting = a; step = step; does = (at, due); changes = is; there = refl })) refl);
      }

pub untouched_nodes_stay : (W : Type 0) → UntouchedNodesStay W
untouched_nodes_stay W next set round s = others_stay next set round s
