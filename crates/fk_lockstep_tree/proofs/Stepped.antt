-- What a round makes of the node of a processor, and of the nodes above it.
use Rattle.std.proofs.Common.{◌≡◌, ◌≢◌, ◌⊎◌, inl, inr, ⊎_elim, ℕ, zero, suc, ◌<◌, ◌≤◌, List, Option, Some, None, refl, sym, ap, ◌∙◌, subst, arith}
use Rattle.std.proofs.lemmas.Bool.{cases_eq, cases_lt}
use Rattle.fk_meaning_operation.specs.declared.operation.Operation.{Operation}
use Rattle.fk_tree.specs.Tree.{Tree, members}
use Rattle.fk_tree.specs.Sound.{Has}
use Rattle.fk_tree.proofs.Shapes.{has_some, some-given}
use Rattle.fk_meaning.specs.Processor.{Processor, Setting}
use Rattle.fk_meaning.specs.Group.{changes}
use Rattle.fk_meaning.specs.Round.{Step, State, Round, Acting, lowest, who, agreed, all_changes}
use Rattle.fk_lockstep_nodes.specs.Steps.{NodesStep, tree_by}
use Rattle.fk_lockstep_nodes.proofs.Nodes.{nodes_step}
use Rattle.fk_lockstep_tree.specs.Rounds.{IsRound}
use Rattle.fk_lockstep_tree.proofs.Known.{actors, many, does_of, Together, together_of, steps_known, may_of}

module _ {W : Type 0} (next : W → Option (Step W)) (set : Setting) (round : Round) (s : State W) (is : IsRound next set round s) where
  abbrev pub old : Tree
  old = s.tree

  abbrev pub acting : List (Acting W)
  acting = actors next set round s is

  abbrev pub whose : ℕ → Processor
  whose = who acting

  abbrev pub does : ℕ → Option Operation
  does = does_of next set round s is

  abbrev pub new : Tree
  new = all_changes acting old acting old

  pub stepped : NodesStep old new whose does
  stepped = nodes_step acting old set.processors is.sound does (may_of next set round s is) (many next set round s is) (steps_known next set round s is)

  -- the tree where a node steps by itself
  abbrev pub own : (g : ℕ) → Operation → Tree
  own g op = changes op g whose (agreed acting (members old g)) (lowest (members old g)) (record old { given = stepped.first g })

  abbrev pub AllDo : (g : ℕ) → Operation → Type 0
  AllDo g op = Together next set round s is g op

  pub all_do : (g : ℕ) (op : Operation) → does g ≡ Some op → AllDo g op
  all_do g op e = together_of next set round s is g op e

  own_is : (g : ℕ) (op : Operation) → does g ≡ Some op → tree_by old whose (stepped.first g) g (does g) ≡ own g op
  own_is g op e = ap (λ (d : Option Operation). tree_by old whose (stepped.first g) g d) e

  -- what was there has a number that was given
  pub given_of : (n : ℕ) → old.nodes n ≢ None → n < old.given
  given_of n there = some-given set.processors old is.sound n there

  pub first_given : (g : ℕ) → old.given ≤ stepped.first g
  first_given g = (stepped.within g).0

  -- ---- a node whose members step

  pub node_steps : (g : ℕ) (op : Operation) → does g ≡ Some op → new.nodes g ≡ (own g op).nodes g
  node_steps g op e =
      let all = all_do g op e in
      stepped.nodes g (given_of g (has_some old g all.one all.member)) ∙ ap (λ (x : Tree). x.nodes g) (own_is g op e)

  pub place_steps : (g : ℕ) (op : Operation) → does g ≡ Some op → (h : ℕ) → old.places h ≡ g → new.places h ≡ (own g op).places h
  place_steps g op e h at =
      stepped.places h ∙ ap (λ (j : ℕ). (tree_by old whose (stepped.first j) j (does j)).places h) at ∙ ap (λ (x : Tree). x.places h) (own_is g op e)

  pub part_steps : (g : ℕ) (op : Operation) → does g ≡ Some op → (m : ℕ) → stepped.first g ≤ m → m < (own g op).given → new.nodes m ≡ (own g op).nodes m
  part_steps g op e m low high =
      stepped.parts g m low (subst (λ (x : Tree). m < x.given) (sym (own_is g op e)) high) ∙ ap (λ (x : Tree). x.nodes m) (own_is g op e)

  -- ---- a node whose members keep the tree

  pub node_keeps : (g : ℕ) → does g ≡ None → old.nodes g ≢ None → new.nodes g ≡ old.nodes g
  node_keeps g none there = stepped.nodes g (given_of g there) ∙ ap (λ (d : Option Operation). (tree_by old whose (stepped.first g) g d).nodes g) none

  pub place_keeps : (h : ℕ) → does (old.places h) ≡ None → new.places h ≡ old.places h
  place_keeps h none = stepped.places h ∙ ap (λ (d : Option Operation). (tree_by old whose (stepped.first (old.places h)) (old.places h) d).places h) none

  -- ---- the nodes above one's own

  pub by_does : {A : Type 0} (d : Option Operation) → (d ≡ None → A) → ((op : Operation) → d ≡ Some op → A) → A
  by_does None none some = none refl
  by_does (Some op) none some = some op refl

  above_keeps : (h n : ℕ) → Has old n h → old.places h ≢ n → does n ≡ None
  above_keeps h n has away = by_does (does n) (λ none. none) (λ op e. absurd (away ((all_do n op e).stand h has)))

  pub above_same : (h n : ℕ) → Has old n h → old.places h ≢ n → new.nodes n ≡ old.nodes n
  above_same h n has away = node_keeps n (above_keeps h n has away) (has_some old n h has)

  -- a node that nobody was at stays none
  pub was_there : (n : ℕ) → n < old.given → new.nodes n ≢ None → old.nodes n ≢ None
  was_there n lt there none =
      by_does (does n)
      (λ keeps. there (stepped.nodes n lt ∙ ap (λ (d : Option Operation). (tree_by old whose (stepped.first n) n d).nodes n) keeps ∙ none))
      (λ op e. let all = all_do n op e in has_some old n all.one all.member none)

  -- ---- nodes that are new

  -- a number that a node gave in this round
  pub record IsGiven (m : ℕ) : Type 0 where
    pub node : ℕ
    pub operation : Operation
    pub does_is : does node ≡ Some operation
    pub low : stepped.first node ≤ m
    pub high : m < (own node operation).given

  abbrev Gives : (m g : ℕ) → Type 0
  Gives m g = (stepped.first g ≤ m) × (m < (tree_by old whose (stepped.first g) g (does g)).given)

  -- a node that keeps the tree gives none
  given_by : (m g : ℕ) → Gives m g → IsGiven m
  given_by m g gives =
      by_does (does g)
      (λ none.
      let same : (tree_by old whose (stepped.first g) g (does g)).given ≡ stepped.first g = ap (λ (d : Option Operation). (tree_by old whose (stepped.first g) g d).given) none in
      let low = gives.0 in
      let high = gives.1 in
      absurd (omega (arith, same, low, high)))
      (λ op e. record { node = g; operation = op; does_is = e; low = gives.0; high = subst (λ (x : Tree). m < x.given) (own_is g op e) gives.1 })

  -- one below a number gives it, or none of them does
  search : (m n : ℕ) → IsGiven m ⊎ ((g : ℕ) → g < n → Gives m g → ⊥)
  search m zero = inr (λ g lt gives. absurd (omega (arith, lt)))
  search m (suc n) =
      ⊎_elim (λ found. inl found)
      (λ none.
      ⊎_elim
      (λ before. inr (λ g lt gives. without g lt none gives (λ e. let low = subst (λ (j : ℕ). stepped.first j ≤ m) e gives.0 in omega (arith, before, low))))
      (λ low.
      ⊎_elim (λ high. inl (given_by m n (low, high)))
      (λ beyond.
      inr (λ g lt gives.
      without g lt none gives
      (λ e. let high = subst (λ (j : ℕ). m < (tree_by old whose (stepped.first j) j (does j)).given) e gives.1 in omega (arith, beyond, high))))
      (cases_lt m (tree_by old whose (stepped.first n) n (does n)).given))
      (cases_lt m (stepped.first n)))
      (search m n)
    where
      without : (g : ℕ) → g < suc n → ((k : ℕ) → k < n → Gives m k → ⊥) → Gives m g → (g ≡ n → ⊥) → ⊥
      without g lt none gives off =
          ⊎_elim (λ e. off e) (λ ne. none g (omega (arith, lt, ne)) gives) (cases_eq g n)

  -- a new node has been given its number by one that steps
  pub new_given : (m : ℕ) → old.given ≤ m → new.nodes m ≢ None → IsGiven m
  new_given m ge there =
      ⊎_elim (λ found. found)
      (λ none.
      absurd (there (stepped.others m ge (λ g low high.
      ⊎_elim (λ lt. none g lt (low, high))
      (λ beyond.
      let found = given_by m g (low, high) in
      let all = all_do found.node found.operation found.does_is in
      none found.node (given_of found.node (has_some old found.node all.one all.member))
      (found.low, subst (λ (x : Tree). m < x.given) (sym (own_is found.node found.operation found.does_is)) found.high))
      (cases_lt g old.given)))))
      (search m old.given)
