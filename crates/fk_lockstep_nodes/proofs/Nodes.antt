-- A round makes of each node what its own members made of it.
use Rattle.std.proofs.Common.{◌≡◌, ◌≢◌, inl, ⊎_elim, ℕ, suc, ◌+◌, ◌<◌, ◌≤◌, ◌==◌, nat_lt, Bool, true, false, List, [], ◌∷◌, length, Option, Some, None, refl, sym, ap, ◌∙◌, subst, arith, eq-eqb, if◌then◌else◌}
use Rattle.std.proofs.lemmas.Bool.{cases_eq, cases_lt, cond-true, cond-false, ne_eqb, or_left, lt-ltb, le-ltb}
use Rattle.fk_tree.specs.Tree as t
use Rattle.fk_tree.specs.Tree.{Tree, is_member}
use Rattle.fk_tree.specs.Sound.{IsSound}
use Rattle.fk_meaning_operation.specs.declared.operation.Operation.{Operation}
use Rattle.fk_meaning.specs.Processor.{Processor}
use Rattle.fk_meaning.specs.Group.{changes}
use Rattle.fk_meaning.specs.Round.{Step, Fault, Acting, Phases, lowest, who, agreed, change_by, all_changes, tree_phase, all_requests, asking}
use Rattle.fk_meaning.proofs.Stopped.{phase_fault}
use Rattle.fk_lockstep_nodes.specs.Steps.{Keeps, Does, KeepsOrDoes, StepsBy, MayStep, NodesStep, stepping, RoundsStepNodes}
use Rattle.fk_lockstep_nodes.proofs.Local.{step_keeps}
use Rattle.fk_lockstep_nodes.proofs.More.{and_one, and_more}

some_head : (ms : List ℕ) → ms ≢ [] → is_member (lowest ms) ms ≡ true
some_head [] ne = absurd (ne refl)
some_head (m ∷ ms) ne = or_left (m == m) (is_member m ms) (eq-eqb m m refl)

either_tree : (b : Bool) (x y : Tree) → x ≡ y → (if b then x else y) ≡ y
either_tree true x y e = e
either_tree false x y e = refl

module _ {W : Type 0} (actings : List (Acting W)) (old : Tree) (p : ℕ) (sound : IsSound p old) (does : ℕ → Option Operation)
    (may : (g : ℕ) (operation : Operation) → does g ≡ Some operation → MayStep old g operation) where
  abbrev whose : ℕ → Processor
  whose = who actings

  -- the steps of nodes whose lowest member comes before a number
  abbrev so_far : (number : ℕ) → ℕ → Option Operation
  so_far number g = if nat_lt (lowest (t.members old g)) number then does g else None

  abbrev Stage : ℕ → Tree → Type 0
  Stage number tree = NodesStep old tree whose (so_far number)

  -- those that step have a lowest member, which stands there
  low_of : (g : ℕ) (operation : Operation) → does g ≡ Some operation → is_member (lowest (t.members old g)) (t.members old g) ≡ true
  low_of g operation is = some_head (t.members old g) (λ none. (may g operation is).there (sound.living g none))

  low_at : (g : ℕ) (operation : Operation) → does g ≡ Some operation → old.places (lowest (t.members old g)) ≡ g
  low_at g operation is = (may g operation is).stand (lowest (t.members old g)) (low_of g operation is)

  -- ---- who is so far

  by_does : (d : Option Operation) (P : Option Operation → Type 0) → P None → ((operation : Operation) → d ≡ Some operation → P (Some operation)) → P d
  by_does None P none some = none
  by_does (Some operation) P none some = some operation refl

  -- a node whose lowest member has another number is as before
  same_at : (i g : ℕ) → lowest (t.members old g) ≢ i → so_far (suc i) g ≡ so_far i g
  same_at i g ne =
      ap (λ b. if b then does g else None)
      (⊎_elim
      (λ lt. let more : lowest (t.members old g) < suc i = omega (arith, lt) in lt-ltb (lowest (t.members old g)) (suc i) more ∙ sym (lt-ltb (lowest (t.members old g)) i lt))
      (λ le. let more : suc i ≤ lowest (t.members old g) = omega (arith, le, ne) in le-ltb (lowest (t.members old g)) (suc i) more ∙ sym (le-ltb (lowest (t.members old g)) i le))
      (cases_lt (lowest (t.members old g)) i))

  -- a node that does nothing is as before
  none_at : (number g : ℕ) → does g ≡ None → so_far number g ≡ None
  none_at number g none = by (nat_lt (lowest (t.members old g)) number)
    where
      by : (b : Bool) → (if b then does g else None) ≡ None
      by true = none
      by false = refl

  -- all nodes but the one where a processor stands
  same_but : (i g : ℕ) → old.places i ≢ g → so_far (suc i) g ≡ so_far i g
  same_but i g away =
      by_does (does g) (λ d. does g ≡ d → so_far (suc i) g ≡ so_far i g)
      (λ none. none_at (suc i) g none ∙ sym (none_at i g none))
      (λ operation is again. same_at i g (λ e. away (ap old.places (sym e) ∙ low_at g operation is))) refl

  -- ---- one processor more

  change_keeps : (h : ℕ) (due : Option (Step W)) (tree : Tree) → Keeps due → change_by actings old h due tree ≡ tree
  change_keeps h None tree keeps = refl
  change_keeps h (Some step) tree keeps =
      let n = old.places h in
      let ms = t.members old n in
      either_tree (h == lowest ms) (changes step.operation n whose (agreed actings ms) h tree) tree (step_keeps n whose (agreed actings ms) h step.operation tree keeps)

  -- one that isn't the lowest of its node changes nothing
  change_other : (h : ℕ) (due : Option (Step W)) (tree : Tree) → h ≢ lowest (t.members old (old.places h)) → change_by actings old h due tree ≡ tree
  change_other h None tree ne = refl
  change_other h (Some step) tree ne =
      let n = old.places h in
      let ms = t.members old n in
      cond-false (h == lowest ms) (changes step.operation n whose (agreed actings ms) h tree) tree (ne_eqb h (lowest ms) ne)

  -- the lowest one changes what its node does
  change_low : (h : ℕ) (operation : Operation) (due : Option (Step W)) (tree : Tree) → Does operation due → h ≡ lowest (t.members old (old.places h))
      → change_by actings old h due tree ≡ changes operation (old.places h) whose (agreed actings (t.members old (old.places h))) (lowest (t.members old (old.places h))) tree
  change_low h operation None tree does' e = absurd does'
  change_low h operation (Some step) tree does' e =
      let n = old.places h in
      let ms = t.members old n in
      cond-true (h == lowest ms) (changes step.operation n whose (agreed actings ms) h tree) tree (eq-eqb h (lowest ms) e)
      ∙ ap (λ x. changes x n whose (agreed actings ms) h tree) does'
      ∙ ap (λ k. changes operation n whose (agreed actings ms) k tree) e

  all_same : (i : ℕ) (tree : Tree) → ((g : ℕ) → so_far (suc i) g ≡ so_far i g) → Stage i tree → Stage (suc i) tree
  all_same i tree same stage = let all : so_far i ≡ so_far (suc i) = λ j g. sym (same g) j in subst (λ d. NodesStep old tree whose d) all stage

  stage_after : (i : ℕ) (due : Option (Step W)) (tree : Tree) → KeepsOrDoes (does (old.places i)) due → Stage i tree → Stage (suc i) (change_by actings old i due tree)
  stage_after i due tree does' stage = by (does (old.places i)) refl does'
    where
      n : ℕ
      n = old.places i

      by : (d : Option Operation) → does (old.places i) ≡ d → KeepsOrDoes d due → Stage (suc i) (change_by actings old i due tree)
      by None none keeps =
          let same : (g : ℕ) → so_far (suc i) g ≡ so_far i g =
          λ g. ⊎_elim (λ e. let no : does g ≡ None = ap does (sym e) ∙ none in none_at (suc i) g no ∙ sym (none_at i g no)) (λ away. same_but i g away) (cases_eq (old.places i) g) in
          subst (λ x. Stage (suc i) x) (sym (change_keeps i due tree keeps)) (all_same i tree same stage)
      by (Some operation) some does'' =
          ⊎_elim
          (λ e.
          let ms = t.members old n in
          let none : so_far i n ≡ None = cond-false (nat_lt (lowest ms) i) (does n) None (le-ltb (lowest ms) i (omega (arith, e))) in
          let one = and_more old tree p sound whose (so_far i) stage n operation none (may n operation some) in
          let same : (g : ℕ) → and_one n operation (so_far i) g ≡ so_far (suc i) g =
          λ g. ⊎_elim
          (λ at.
          cond-true (g == n) (Some operation) (so_far i g) (eq-eqb g n at)
          ∙ sym (ap (so_far (suc i)) at ∙ cond-true (nat_lt (lowest ms) (suc i)) (does n) None (lt-ltb (lowest ms) (suc i) (omega (arith, e))) ∙ some))
          (λ ne. cond-false (g == n) (Some operation) (so_far i g) (ne_eqb g n ne) ∙ sym (same_but i g (λ at. ne (sym at)))) (cases_eq g n) in
          let all : and_one n operation (so_far i) ≡ so_far (suc i) = λ j g. same g j in
          subst (λ x. Stage (suc i) x) (sym (change_low i operation due tree does'' e))
          (subst (λ d. NodesStep old (changes operation n whose (agreed actings ms) (lowest ms) tree) whose d) all one))
          (λ ne.
          let same : (g : ℕ) → so_far (suc i) g ≡ so_far i g =
          λ g. ⊎_elim (λ at. same_at i g (λ e. ne (sym e ∙ ap (λ k. lowest (t.members old k)) (sym at)))) (λ away. same_but i g away) (cases_eq (old.places i) g) in
          subst (λ x. Stage (suc i) x) (sym (change_other i due tree ne)) (all_same i tree same stage))
          (cases_eq i (lowest (t.members old n)))

  stages : (i : ℕ) (others : List (Acting W)) (tree : Tree) → StepsBy old does i others → Stage i tree → Stage (i + length others) (all_changes actings old others tree)
  stages i [] tree steps stage = let e : i ≡ i + 0 = omega arith in subst (λ k. Stage k tree) e stage
  stages i (a ∷ others) tree steps stage =
      let e : suc i + length others ≡ i + suc (length others) = omega arith in
      let after = subst (λ k. Stage (suc i) (change_by actings old k a.due tree)) (sym steps.0) (stage_after i a.due tree steps.1 stage) in
      subst (λ k. Stage k (all_changes actings old (a ∷ others) tree)) e (stages (suc i) others (change_by actings old a.runner.has.number a.due tree) steps.2 after)

  -- before the first processor
  beginning : Stage 0 old
  beginning =
      let none : (g : ℕ) → None ≡ so_far 0 g = λ g. sym (ap (λ b. if b then does g else None) (le-ltb (lowest (t.members old g)) 0 (omega arith))) in
      let all : (λ (g : ℕ). let d : Option Operation = None in d) ≡ so_far 0 = λ j g. none g j in
      subst (λ d. NodesStep old old whose d) all
      (record {
        first = λ g. old.given;
        given = let k = old.given in let le : k ≤ k = omega arith in le;
        within = λ g. let k = old.given in let le : k ≤ k = omega arith in (le, le);
        apart = λ g k ne. let j = old.given in let le : j ≤ j = omega arith in inl le;
        nodes = λ g lt. refl;
        parts = λ g m low high. absurd (omega (arith, low, high));
        others = λ m from no. sound.numbered m from;
        places = λ h. refl;
      })

  pub nodes_step : length actings ≡ p → StepsBy old does 0 actings → NodesStep old (all_changes actings old actings old) whose does
  nodes_step many steps =
      let e : 0 + length actings ≡ p = omega (arith, many) in
      let last = subst (λ k. Stage k (all_changes actings old actings old)) e (stages 0 actings old steps beginning) in
      let same : (g : ℕ) → so_far p g ≡ does g =
      λ g. by_does (does g) (λ d. does g ≡ d → so_far p g ≡ does g)
      (λ none. none_at p g none ∙ sym none)
      (λ operation is again.
      let lt = sound.within g (lowest (t.members old g)) (low_of g operation is) in
      cond-true (nat_lt (lowest (t.members old g)) p) (does g) None (lt-ltb (lowest (t.members old g)) p lt)) refl in
      let all : so_far p ≡ does = λ j g. same g j in
      subst (λ d. NodesStep old (all_changes actings old actings old) whose d) all last

pub rounds_step_nodes : (W : Type 0) → RoundsStepNodes W
rounds_step_nodes W next set round s does sound going many steps may =
    let phases : Phases W = all_requests 0 (asking next set round s.runners) s.store in
    let none : phases.fault ≡ None = sym (phase_fault s.tree phases.store phases.acting phases.fault) ∙ going in
    let is = ap (λ (f : Option Fault). (tree_phase s.tree phases.store phases.acting f).tree) none in
    subst (λ x. NodesStep s.tree x (who (stepping next set round s)) does) (sym is) (nodes_step (stepping next set round s) s.tree set.processors sound does may many steps)
