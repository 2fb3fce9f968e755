-- One node steps beside those that have.
use Rattle.std.proofs.Common.{◌≡◌, ◌≢◌, ◌⊎◌, inl, inr, ⊎_elim, ℕ, ◌<◌, ◌≤◌, ◌==◌, true, false, Option, Some, None, refl, sym, ap, ◌∙◌, subst, arith, eq-eqb, if◌then◌else◌}
use Rattle.std.proofs.lemmas.Bool.{cases_Bool, cases_eq, cases_lt, cond-true, cond-false, ne_eqb}
use Rattle.fk_tree.specs.Tree as t
use Rattle.fk_tree.specs.Tree.{Tree, is_member}
use Rattle.fk_tree.specs.Sound.{IsSound}
use Rattle.fk_tree.proofs.Shapes.{some-given}
use Rattle.fk_meaning_operation.specs.declared.operation.Operation.{Operation}
use Rattle.fk_meaning_operation.specs.declared.operation.Operation.TheVariants as o
use Rattle.fk_meaning.specs.Processor.{Processor, values, last}
use Rattle.fk_meaning.specs.Group.{changes}
use Rattle.fk_meaning.specs.Round.{lowest, highest}
use Rattle.fk_lockstep_nodes.specs.Steps.{MayStep, tree_by, NodesStep}
use Rattle.fk_lockstep_nodes.proofs.Local.{same_node, same_given, same_part, same_place, step_frame, step_beyond}

-- what one node does, and all others as before
abbrev pub and_one : (n : ℕ) → Operation → (ℕ → Option Operation) → ℕ → Option Operation
and_one n operation does g = if g == n then Some operation else does g

module _ (old tree : Tree) (p : ℕ) (sound : IsSound p old) (whose : ℕ → Processor) (does : ℕ → Option Operation) (so_far : NodesStep old tree whose does) (n : ℕ) (operation : Operation)
    (none : does n ≡ None) (may : MayStep old n operation) where
  abbrev ms : ℕ → Option Operation
  ms = and_one n operation does

  abbrev low : ℕ
  low = lowest (t.members old n)

  abbrev value : ℕ
  value = last (values (whose (highest (t.members old n))))

  abbrev new : Tree
  new = changes operation n whose value low tree

  -- the tree where it steps by itself, with these numbers for its parts
  abbrev begun : Tree
  begun = record old { given = tree.given }

  abbrev by_itself : Tree
  by_itself = changes operation n whose value low begun

  here : (g : ℕ) → g ≡ n → and_one n operation does g ≡ Some operation
  here g e = cond-true (g == n) (Some operation) (does g) (eq-eqb g n e)

  elsewhere : (g : ℕ) → g ≢ n → and_one n operation does g ≡ does g
  elsewhere g ne = cond-false (g == n) (Some operation) (does g) (ne_eqb g n ne)

  known : n < old.given
  known = some-given p old sound n may.there

  -- ---- what it finds

  node : tree.nodes n ≡ old.nodes n
  node = so_far.nodes n known ∙ ap (λ d. (tree_by old whose (so_far.first n) n d).nodes n) none

  place : (h : ℕ) → old.places h ≡ n → tree.places h ≡ old.places h
  place h at = so_far.places h ∙ ap (λ d. (tree_by old whose (so_far.first (old.places h)) (old.places h) d).places h) (ap does at ∙ none)

  root : operation ≡ o.Begin → n ≡ 0
  root = may.root

  given : new.given ≡ by_itself.given
  given = same_given n whose value low tree begun node refl operation root

  -- ---- numbers

  abbrev first : ℕ → ℕ
  first g = if g == n then tree.given else so_far.first g

  first_here : (g : ℕ) → g ≡ n → first g ≡ tree.given
  first_here g e = cond-true (g == n) tree.given (so_far.first g) (eq-eqb g n e)

  first_elsewhere : (g : ℕ) → g ≢ n → first g ≡ so_far.first g
  first_elsewhere g ne = cond-false (g == n) tree.given (so_far.first g) (ne_eqb g n ne)

  -- a node's own tree, now and before
  abbrev own : ℕ → Tree
  own g = tree_by old whose (first g) g (and_one n operation does g)

  abbrev was : ℕ → Tree
  was g = tree_by old whose (so_far.first g) g (does g)

  own_here : own n ≡ by_itself
  own_here = ap (λ d. tree_by old whose (first n) n d) (here n refl) ∙ ap (λ k. tree_by old whose k n (Some operation)) (first_here n refl)

  own_elsewhere : (g : ℕ) → g ≢ n → own g ≡ was g
  own_elsewhere g ne = ap (λ d. tree_by old whose (first g) g d) (elsewhere g ne) ∙ ap (λ k. tree_by old whose k g (does g)) (first_elsewhere g ne)

  more : tree.given ≤ new.given
  more = (step_frame n whose value low operation root tree).given

  within_here : (old.given ≤ first n) × ((own n).given ≤ new.given)
  within_here =
      let a = first_here n refl in
      let b = ap (λ (x : Tree). x.given) own_here in
      let from = so_far.given in
      let same = given in
      (omega (arith, a, from), omega (arith, b, same))

  within_elsewhere : (g : ℕ) → g ≢ n → (old.given ≤ first g) × ((own g).given ≤ new.given)
  within_elsewhere g ne =
      let a = first_elsewhere g ne in
      let b = ap (λ (x : Tree). x.given) (own_elsewhere g ne) in
      let from = (so_far.within g).0 in
      let to = (so_far.within g).1 in
      let on = more in
      (omega (arith, a, from), omega (arith, b, to, on))

  -- all numbers of others come before those of this one
  before : (g : ℕ) → g ≢ n → (own g).given ≤ first n
  before g ne =
      let a = first_here n refl in
      let b = ap (λ (x : Tree). x.given) (own_elsewhere g ne) in
      let to = (so_far.within g).1 in
      omega (arith, a, b, to)

  abbrev Apart : ℕ → ℕ → Type 0
  Apart g k = ((own g).given ≤ first k) ⊎ ((own k).given ≤ first g)

  apart : (g k : ℕ) → g ≢ k → Apart g k
  apart g k differ =
      ⊎_elim
      (λ e. let ne : k ≢ n = λ f. differ (e ∙ sym f) in inr (subst (λ j. (own k).given ≤ first j) (sym e) (before k ne)))
      (λ ne.
      ⊎_elim
      (λ f. inl (subst (λ j. (own g).given ≤ first j) (sym f) (before g ne)))
      (λ ne'.
      let a = first_elsewhere g ne in
      let a' = first_elsewhere k ne' in
      let b = ap (λ (x : Tree). x.given) (own_elsewhere g ne) in
      let b' = ap (λ (x : Tree). x.given) (own_elsewhere k ne') in
      ⊎_elim (λ le. inl (omega (arith, a', b, le))) (λ le. inr (omega (arith, a, b', le))) (so_far.apart g k differ))
      (cases_eq k n))
      (cases_eq g n)

  -- ---- nodes

  nodes : (g : ℕ) → g < old.given → new.nodes g ≡ (own g).nodes g
  nodes g lt =
      let from = so_far.given in
      ⊎_elim
      (λ e. subst (λ j. new.nodes j ≡ (own j).nodes j) (sym e) (same_node n whose value low tree begun node refl operation root ∙ sym (ap (λ (x : Tree). x.nodes n) own_here)))
      (λ ne.
      (step_frame n whose value low operation root tree).nodes g (omega (arith, lt, from)) ne
      ∙ so_far.nodes g lt ∙ sym (ap (λ (x : Tree). x.nodes g) (own_elsewhere g ne)))
      (cases_eq g n)

  parts : (g m : ℕ) → first g ≤ m → m < (own g).given → new.nodes m ≡ (own g).nodes m
  parts g m low' high' =
      ⊎_elim
      (λ e.
      let a = first_here g e in
      let b : (own g).given ≡ by_itself.given = ap (λ j. (own j).given) e ∙ ap (λ (x : Tree). x.given) own_here in
      let same = given in
      same_part n whose value low tree begun node refl operation root m (omega (arith, a, low')) (omega (arith, b, same, high'))
      ∙ sym (ap (λ j. (own j).nodes m) e ∙ ap (λ (x : Tree). x.nodes m) own_here))
      (λ ne.
      let a = first_elsewhere g ne in
      let b = ap (λ (x : Tree). x.given) (own_elsewhere g ne) in
      let from = (so_far.within g).0 in
      let to = (so_far.within g).1 in
      let there = known in
      (step_frame n whose value low operation root tree).nodes m (omega (arith, b, to, high')) (λ e. omega (arith, a, from, low', there, e))
      ∙ so_far.parts g m (omega (arith, a, low')) (omega (arith, b, high')) ∙ sym (ap (λ (x : Tree). x.nodes m) (own_elsewhere g ne)))
      (cases_eq g n)

  abbrev NoPart : ℕ → Type 0
  NoPart m = (g : ℕ) → first g ≤ m → m < (own g).given → ⊥

  others : (m : ℕ) → old.given ≤ m → NoPart m → new.nodes m ≡ None
  others m from free =
      let there = known in
      let ne : m ≢ n = λ e. omega (arith, from, there, e) in
      let before' : tree.nodes m ≡ None = so_far.others m from (λ g low' high'. ⊎_elim (λ e. was_none g m e low' high') (λ other. was_other g m other free low' high') (cases_eq g n)) in
      ⊎_elim
      (λ lt. (step_frame n whose value low operation root tree).nodes m lt ne ∙ before')
      (λ ge. step_beyond n whose value low operation root tree m ne (beyond m free ge) ∙ before')
      (cases_lt m tree.given)
    where
      was_none : (g m : ℕ) → g ≡ n → so_far.first g ≤ m → m < (was g).given → ⊥
      was_none g m e low' high' =
          let same : (was g).given ≡ so_far.first g = ap (λ d. (tree_by old whose (so_far.first g) g d).given) (ap does e ∙ none) in
          omega (arith, same, low', high')

      was_other : (g m : ℕ) → g ≢ n → NoPart m → so_far.first g ≤ m → m < (was g).given → ⊥
      was_other g m ne free low' high' =
          let a = first_elsewhere g ne in
          let b = ap (λ (x : Tree). x.given) (own_elsewhere g ne) in
          free g (omega (arith, a, low')) (omega (arith, b, high'))

      beyond : (m : ℕ) → NoPart m → tree.given ≤ m → new.given ≤ m
      beyond m free ge =
          let a = first_here n refl in
          let b = ap (λ (x : Tree). x.given) own_here in
          let same = given in
          ⊎_elim (λ lt. absurd (free n (omega (arith, a, ge)) (omega (arith, b, same, lt)))) (λ le. le) (cases_lt m new.given)

  -- ---- places

  places : (h : ℕ) → let g = old.places h in new.places h ≡ (own g).places h
  places h =
      ⊎_elim
      (λ at.
      same_place n whose value low tree begun node refl operation root h (place h at)
      ∙ sym (ap (λ j. (own j).places h) at ∙ ap (λ (x : Tree). x.places h) own_here))
      (λ away.
      let out : is_member h (t.members tree n) ≡ false =
      ⊎_elim (λ is. absurd (away (may.stand h (subst (λ x. is_member h (t.members_of x) ≡ true) node is)))) (λ other. other) (cases_Bool (is_member h (t.members tree n))) in
      (step_frame n whose value low operation root tree).places h out ∙ so_far.places h ∙ sym (ap (λ (x : Tree). x.places h) (own_elsewhere (old.places h) away)))
      (cases_eq (old.places h) n)

  pub and_more : NodesStep old new whose (and_one n operation does)
  and_more = record {
    first = first;
    given = let from = so_far.given in let on = more in omega (arith, from, on);
    within = λ g.
        ⊎_elim (λ e. subst (λ j. (old.given ≤ first j) × ((own j).given ≤ new.given)) (sym e) within_here) (λ ne. within_elsewhere g ne) (cases_eq g n);
    apart = apart;
    nodes = nodes;
    parts = parts;
    others = others;
    places = places;
  }
