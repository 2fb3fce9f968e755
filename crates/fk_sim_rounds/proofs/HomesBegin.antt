-- Behind the beginning of the group of `start` processors have of it what the tree has.
use Rattle.std.proofs.Common.{◌≡◌, ◌≢◌, ℕ, suc, ◌+◌, ◌<◌, List, [], ◌∷◌, length, Bool, None, true, false, sym, ap, subst, ◌∙◌, refl, arith}
use Rattle.std.specs.Prelude.{map, min, nat_lt, if◌then◌else◌}
use Rattle.fk_space.specs.Space.{Space}
use Rattle.fk_tree.specs.declared.node.Kind.TheVariants.{Asynchronous, Lockstep}
use Rattle.fk_tree.specs.Tree as trees
use Rattle.fk_tree.specs.Tree.{Tree, parent_of}
use Rattle.fk_tree.specs.Sound.{IsSound}
use Rattle.fk_tree.proofs.Begins.{length-root}
use Rattle.fk_tree.proofs.Shapes.{parent-node_of, has_some}
use Rattle.fk_meaning_operation.specs.declared.operation.Operation.TheVariants.{Begin}
use Rattle.fk_meaning.specs.Processor.{Level, Processor, Setting, drop_last, enter_level}
use Rattle.fk_meaning.specs.Group.{not_negative, is_taken, start_level, does}
use Rattle.fk_meaning.specs.Round.{Acting, agreed}
use Rattle.fk_core.specs.declared.op.CoreOp.{CoreOp}
use Rattle.fk_core.specs.Next.{Position}
use Rattle.fk_sim_block.specs.Owner.{Owner, number_of}
use Rattle.fk_sim_block.specs.Lockstep.{is_due}
use Rattle.fk_lockstep_nodes.specs.Steps.{KeepsOrDoes, only}
use Rattle.fk_sim_rounds.specs.After.{actings, tree_after, owner_after, owners_after, StepsAt}
use Rattle.fk_sim_rounds.proofs.Steps.{step_is_brought}
use Rattle.fk_sim_rounds.proofs.Begun as begun
use Rattle.fk_sim_rounds.specs.Next.{HasRange}
use Rattle.fk_sim_rounds.specs.Comes.{AllHave}
use Rattle.fk_sim_rounds.specs.Homes.{IsLevelOf, AllHome, HomesBegin}

length_due : (core : List CoreOp) (i : ℕ) (op : CoreOp) (ps : List Owner) → length (map (is_due core i op Begin) ps) ≡ length ps
length_due core i op [] = refl
length_due core i op (p ∷ ps) = ap suc (length_due core i op ps)

module _ (core : List CoreOp) (setting : Setting) (tree : Tree) (spaces : ℕ → Space) (i : ℕ) (op : CoreOp) (sound : IsSound setting.processors tree)
    (in_root : (h : ℕ) → h < setting.processors → tree.places h ≡ 0) where
  -- each begins it in the root
  pub steps_begin : (number : ℕ) (ps : List Owner) → number + length ps ≡ setting.processors → AllHome tree spaces number ps → StepsAt tree 0 number Begin (map (is_due core i op Begin) ps)
  steps_begin number [] many home = tt
  steps_begin number (p ∷ ps) many home = (
    home.0,
    subst (λ k. KeepsOrDoes (only 0 Begin k) (is_due core i op Begin p).acting.due) (sym (in_root number (omega (arith, many)))) refl,
    steps_begin (suc number) ps (omega (arith, many)) home.2,
  )

  module _ (acting : List (Acting Position)) (value count : ℕ) (value_is : agreed acting (trees.members tree 0) ≡ value) (count_is : count ≡ min (not_negative value) (length (trees.members tree 0)))
      (sound' : IsSound setting.processors (trees.begin count tree)) where
    abbrev new : Tree
    new = trees.begin count tree

    root_level : (n : ℕ) (l : Level) (outer : List Level) → n ≡ 0 → IsLevelOf tree spaces n l outer → IsLevelOf new spaces 0 l outer
    root_level n l [] e is =
        (refl, is.1 ∙ ap (λ k. length (trees.members tree k)) e ∙ ap (λ ms. length ms) (sym (begun.members_root setting.processors tree sound count)))
    root_level n l (o ∷ outer) e is = absurd (is.0 e)

    parent_group : new.nodes tree.given ≢ None → trees.parent new tree.given ≡ 0
    parent_group some =
        let e = begun.group_node setting.processors tree sound count in
        let ms = begun.taken setting.processors tree sound count in
        ap parent_of e ∙ parent-node_of ms 0 Lockstep (λ none. some (e ∙ none))

    module _ (number : ℕ) (p : Owner) (lt : number < setting.processors) (number_is : number_of p ≡ number) (is : IsLevelOf tree spaces (tree.places number) p.runner.has.level p.runner.has.outer)
        (range : HasRange (spaces tree.given) p.runner.has.level.space) where
      abbrev size : ℕ
      size = length (trees.members new (new.places number))

      abbrev goes : Bool → Processor
      goes b = if b then enter_level (start_level p.runner.has size) (drop_last 1 p.runner.has) else drop_last 1 p.runner.has

      way : is_taken value p.runner.has ≡ nat_lt number count
      way =
          let whole : length (trees.members tree 0) ≡ setting.processors = length-root setting.processors tree sound in
          ap (λ n. nat_lt n (not_negative value)) number_is
          ∙ begun.taken_below setting.processors tree sound count (not_negative value) (count_is ∙ ap (λ k. min (not_negative value) k) whole) number lt

      has_is : (owner_after acting tree new (is_due core i op Begin p)).runner.has ≡ goes (nat_lt number count)
      has_is =
          ap (λ k. does Begin (agreed acting (trees.members tree (tree.places k))) (length (trees.members new (new.places k))) p.runner.has) number_is
          ∙ ap (λ k. does Begin (agreed acting (trees.members tree k)) size p.runner.has) (in_root number lt)
          ∙ ap (λ v. does Begin v size p.runner.has) value_is
          ∙ ap (λ b. goes b) way

      by : (b : Bool) → nat_lt number count ≡ b → ((goes b).number ≡ number) × IsLevelOf new spaces (new.places number) (goes b).level (goes b).outer
      by true e =
          let here = begun.goes_in setting.processors tree sound count in_root number lt e in
          let positive = begun.positive setting.processors tree sound count in
          let some = has_some new tree.given number (subst (λ k. trees.is_member number (trees.members new k) ≡ true) here (sound'.placed number lt).member) in (
            number_is,
            (
              λ none. absurd (omega (arith, none, here, positive)),
              subst (λ k. HasRange (spaces k) p.runner.has.level.space) (sym here) range,
              refl,
              subst (λ k. IsLevelOf new spaces k p.runner.has.level p.runner.has.outer) (sym (ap (λ k. trees.parent new k) here ∙ parent_group some))
                  (root_level (tree.places number) p.runner.has.level p.runner.has.outer (in_root number lt) is),
            ),
          )
      by false e =
          let here = begun.goes_back setting.processors tree sound count in_root number lt e in (
            number_is,
            subst (λ k. IsLevelOf new spaces k p.runner.has.level p.runner.has.outer) (sym here)
                (root_level (tree.places number) p.runner.has.level p.runner.has.outer (in_root number lt) is),
          )

      one : (number_of (owner_after acting tree new (is_due core i op Begin p)) ≡ number)
          × IsLevelOf new spaces (new.places number) (owner_after acting tree new (is_due core i op Begin p)).runner.has.level (owner_after acting tree new (is_due core i op Begin p)).runner.has.outer
      one = subst (λ h. (h.number ≡ number) × IsLevelOf new spaces (new.places number) h.level h.outer) (sym has_is) (by (nat_lt number count) refl)

    all : (number : ℕ) (ps : List Owner) → number + length ps ≡ setting.processors → AllHome tree spaces number ps → AllHave (spaces tree.given) ps
        → AllHome new spaces number (map (owner_after acting tree new) (map (is_due core i op Begin) ps))
    all number [] many home ranges = tt
    all number (p ∷ ps) many home ranges =
        let x = one number p (omega (arith, many)) home.0 home.1 ranges.0 in
        (x.0, x.1, all (suc number) ps (omega (arith, many)) home.2 ranges.1)

pub homes_begin : HomesBegin
homes_begin core setting tree spaces alone i op ps did sound kind in_root many home ranges is sound' =
    let size : 0 + length ps ≡ setting.processors = omega (arith, many) in
    let steps : StepsAt tree 0 0 Begin did = subst (λ ds. StepsAt tree 0 0 Begin ds) (sym is) (steps_begin core setting tree spaces i op sound in_root 0 ps size home) in
    let long : length did ≡ setting.processors = ap (λ l. length l) is ∙ length_due core i op ps ∙ many in
    let value = agreed (actings did) (trees.members tree 0) in
    let count = min (not_negative value) (length (trees.members tree 0)) in
    let same : tree_after tree did ≡ trees.begin count tree
    = step_is_brought setting.processors tree sound 0 (Asynchronous alone) Begin did kind (λ h member. in_root h (sound.within 0 h member)) long steps in
    subst (λ new. IsSound setting.processors new → AllHome new spaces 0 (owners_after tree new did)) (sym same)
    (λ sound''.
    subst (λ ds. AllHome (trees.begin count tree) spaces 0 (map (owner_after (actings did) tree (trees.begin count tree)) ds)) (sym is)
    (all core setting tree spaces i op sound in_root (actings did) value count refl refl sound'' 0 ps size home ranges)) sound'
