-- A round in which the members of some nodes do steps: what it leaves of the other nodes, and of who stands where.
use Rattle.std.proofs.Common.{◌≡◌, ℕ, suc, ◌+◌, ◌≤◌, ◌<◌, List, [], ◌∷◌, length, Option, Some, None, Bool, true, false, sym, ap, subst, ◌∙◌, refl, arith, eq-eqb}
use Rattle.std.specs.Prelude.{◌==◌, is_some}
use Rattle.std.proofs.lemmas.Bool.{or_left}
use Rattle.fk_tree.specs.declared.node.Kind.{Kind}
use Rattle.fk_tree.specs.Tree as trees
use Rattle.fk_tree.specs.Tree.{Tree, Node, kind_of, is_member}
use Rattle.fk_sim_nodes.specs.Node.{AreAsMany}
use Rattle.fk_sim_match.specs.Change.{HasSame}
use Rattle.fk_sim_match.specs.Nodes.{is_lockstep}
use Rattle.fk_meaning_operation.specs.declared.operation.Operation.{Operation}
use Rattle.fk_meaning.specs.Round.{Acting, lowest, who}
use Rattle.fk_core.specs.Next.{Position}
use Rattle.fk_sim_block.specs.Owner.{Owner, Doing, idle}
use Rattle.fk_sim_rounds.specs.After.{actings, DoesStep, ArePlaces}

pub kind_there : (x : Option Node) (k : Kind) → kind_of x ≡ Some k → is_some x ≡ true
kind_there None k e = absurd (cc)
kind_there (Some node) k e = refl

pub lowest_there : (ms : List ℕ) → (ms ≡ [] → ⊥) → is_member (lowest ms) ms ≡ true
lowest_there [] some = absurd (some refl)
lowest_there (m ∷ ms) some = or_left (m == m) (is_member m ms) (eq-eqb m m refl)

pub is_busy : (operation : Operation) (d : Doing) (p : Owner) → DoesStep operation d.acting.due → d ≡ idle p → ⊥
is_busy operation d p does e = subst (λ x. DoesStep operation x.acting.due) e does

-- some nodes change, among them those whose members do a step. All others stay, and so does who stands in none that changes;
-- a group among the others has the same members
pub record TreeMoves (old tree : Tree) (processors : ℕ) (does : ℕ → Option Operation) (nodes nodes' : List ℕ) (changed : ℕ → Bool) : Type 0 where
  pub here : (g : ℕ) (operation : Operation) → does g ≡ Some operation → changed g ≡ true
  pub others : (k : ℕ) → changed k ≡ false → tree.nodes k ≡ old.nodes k
  pub elsewhere : (h : ℕ) → h < processors → does (old.places h) ≡ None → changed (old.places h) ≡ false
  pub places : (h : ℕ) → h < processors → does (old.places h) ≡ None → tree.places h ≡ old.places h
  pub there : ArePlaces tree 0 nodes'
  pub many : length nodes' ≡ length nodes
  pub alike : (k : ℕ) → changed k ≡ false → is_lockstep (trees.kind old k) ≡ true → HasSame k nodes nodes'

-- ---- what each of those who act has

abbrev pub AreWho : List (Acting Position) → (number : ℕ) → List Doing → Type 0
AreWho acting number [] = Unit {0}
AreWho acting number (d ∷ ds) = (who acting number ≡ d.acting.runner.has) × AreWho acting (suc number) ds

are_who_later : (a : Acting Position) (acting : List (Acting Position)) (number : ℕ) (ds : List Doing) → AreWho acting number ds → AreWho (a ∷ acting) (suc number) ds
are_who_later a acting number [] are = tt
are_who_later a acting number (d ∷ ds) are = (are.0, are_who_later a acting (suc number) ds are.1)

pub are_who : (ds : List Doing) → AreWho (actings ds) 0 ds
are_who [] = tt
are_who (d ∷ ds) = (refl, are_who_later d.acting (actings ds) 0 ds (are_who ds))

-- ---- lists by hart

pub many_moved : {A B : Type 0} (ns ns' : List ℕ) (hs : List A) (xs : List B) → length ns' ≡ length ns → AreAsMany ns hs xs → AreAsMany ns' hs xs
many_moved [] [] [] [] e many = tt
many_moved (n ∷ ns) (n' ∷ ns') (h ∷ hs) (x ∷ xs) e many = many_moved ns ns' hs xs (omega (arith, e)) many
many_moved [] (n' ∷ ns') hs xs e many = absurd (omega (arith, e))
many_moved (n ∷ ns) [] hs xs e many = absurd (omega (arith, e))
many_moved ns ns' hs xs e many = absurd (assumption many)

pub many_nodes : {A B : Type 0} (ns ns' : List ℕ) (hs : List A) (xs : List B) → length ns' ≡ length ns → AreAsMany ns hs xs → AreAsMany ns hs ns'
many_nodes [] [] [] [] e many = tt
many_nodes (n ∷ ns) (n' ∷ ns') (h ∷ hs) (x ∷ xs) e many = many_nodes ns ns' hs xs (omega (arith, e)) many
many_nodes [] (n' ∷ ns') hs xs e many = absurd (omega (arith, e))
many_nodes (n ∷ ns) [] hs xs e many = absurd (omega (arith, e))
many_nodes ns ns' hs xs e many = absurd (assumption many)

-- a node in which as many stand before and after has the same members
pub has_same : (old tree : Tree) (g number : ℕ) (ns ns' : List ℕ) → ArePlaces old number ns → ArePlaces tree number ns' → length ns' ≡ length ns
    → ((h : ℕ) → number ≤ h → h < number + length ns → (old.places h == g) ≡ (tree.places h == g)) → HasSame g ns ns'
has_same old tree g number [] [] here there e same = tt
has_same old tree g number (n ∷ ns) (n' ∷ ns') here there e same = (
  ap (λ k. k == g) here.0 ∙ same number (omega arith) (omega arith) ∙ ap (λ k. k == g) (sym there.0),
  has_same old tree g (suc number) ns ns' here.1 there.1 (omega (arith, e)) (λ h le lt. same h (omega (arith, le)) (omega (arith, lt))),
)
has_same old tree g number [] (n' ∷ ns') here there e same = absurd (omega (arith, e))
has_same old tree g number (n ∷ ns) [] here there e same = absurd (omega (arith, e))
