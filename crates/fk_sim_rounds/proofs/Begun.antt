-- The tree behind the beginning of the group of `start`.
use Rattle.std.proofs.Common.{◌≡◌, ◌≢◌, ℕ, ◌-◌, ◌<◌, List, true, false, Some, None, sym, ap, subst, ◌∙◌, refl, arith, ⊎_elim, filter}
use Rattle.std.specs.Prelude.{min, nat_lt, if◌then◌else◌}
use Rattle.std.proofs.lemmas.Bool.{cases_lt, cond-true, cond-false}
use Rattle.fk_tree.specs.declared.node.Kind.TheVariants.{Lockstep, Waiting}
use Rattle.fk_tree.specs.Tree as trees
use Rattle.fk_tree.specs.Tree.{Tree, kind_of, members_of, node_of, with_kind, turned, is_member, is_in, is_from, place_in, first_part}
use Rattle.fk_tree.specs.Sound.{IsSound}
use Rattle.fk_tree.proofs.Begins.{root_some}
use Rattle.fk_tree.proofs.Shapes.{with_same, with_other, members-turned, kind-turned, some-given, from_within, from_below, from_above}
use Rattle.fk_lockstep.proofs.Changes.{first_same}

module _ (processors : ℕ) (old : Tree) (sound : IsSound processors old) (count : ℕ) where
  abbrev pub taken : List ℕ
  taken = filter (λ h. is_in (old.given - old.given) (first_part count h)) (trees.members old 0)

  pub some_root : old.nodes 0 ≢ None
  some_root = root_some processors old sound

  pub positive : 0 < old.given
  positive = some-given processors old sound 0 some_root

  pub root_node : (trees.begin count old).nodes 0 ≡ turned (Waiting old.given 1) (old.nodes 0)
  root_node =
      cond-false (is_from old.given 1 0) (node_of (filter (λ h. is_in (0 - old.given) (first_part count h)) (trees.members old 0)) 0 Lockstep) ((with_kind 0 (Waiting old.given 1) old).nodes 0)
      (from_below old.given 1 0 positive)
      ∙ with_same 0 (turned (Waiting old.given 1) (old.nodes 0)) old.nodes 0 refl

  pub group_node : (trees.begin count old).nodes old.given ≡ node_of taken 0 Lockstep
  group_node =
      cond-true (is_from old.given 1 old.given) (node_of taken 0 Lockstep) ((with_kind 0 (Waiting old.given 1) old).nodes old.given)
      (from_within old.given 1 old.given (omega arith) (omega arith))

  pub other_node : (k : ℕ) → k ≢ 0 → k ≢ old.given → (trees.begin count old).nodes k ≡ old.nodes k
  other_node k ne ne' =
      cond-false (is_from old.given 1 k) (node_of (filter (λ h. is_in (k - old.given) (first_part count h)) (trees.members old 0)) 0 Lockstep) ((with_kind 0 (Waiting old.given 1) old).nodes k)
      (⊎_elim (λ lt. from_below old.given 1 k lt) (λ le. from_above old.given 1 k (omega (arith, le, ne'))) (cases_lt k old.given))
      ∙ with_other 0 (turned (Waiting old.given 1) (old.nodes 0)) old.nodes k ne

  pub kind_root : trees.kind (trees.begin count old) 0 ≡ Some (Waiting old.given 1)
  kind_root = ap kind_of root_node ∙ kind-turned (Waiting old.given 1) (old.nodes 0) some_root

  pub members_root : trees.members (trees.begin count old) 0 ≡ trees.members old 0
  members_root = ap members_of root_node ∙ members-turned (Waiting old.given 1) (old.nodes 0)

  -- those below what is asked for
  pub taken_below : (asked : ℕ) → count ≡ min asked processors → (h : ℕ) → h < processors → nat_lt h asked ≡ nat_lt h count
  taken_below asked is h lt = sym (ap (λ n. nat_lt h n) is ∙ first_same h processors asked lt)

  -- where all stand in the root
  module _ (in_root : (h : ℕ) → h < processors → old.places h ≡ 0) where
    pub all_members : (h : ℕ) → h < processors → is_member h (trees.members old 0) ≡ true
    all_members h lt = subst (λ k. is_member h (trees.members old k) ≡ true) (in_root h lt) (sound.placed h lt).member

    goes : (h : ℕ) → h < processors → (trees.begin count old).places h ≡ place_in (old.places h) old.given (first_part count h)
    goes h lt = cond-true (is_member h (trees.members old 0)) (place_in (old.places h) old.given (first_part count h)) (old.places h) (all_members h lt)

    pub goes_in : (h : ℕ) → h < processors → nat_lt h count ≡ true → (trees.begin count old).places h ≡ old.given
    goes_in h lt is = goes h lt ∙ ap (λ b. place_in (old.places h) old.given (if b then Some 0 else None)) is ∙ omega arith

    pub goes_back : (h : ℕ) → h < processors → nat_lt h count ≡ false → (trees.begin count old).places h ≡ 0
    goes_back h lt is = goes h lt ∙ ap (λ b. place_in (old.places h) old.given (if b then Some 0 else None)) is ∙ in_root h lt
