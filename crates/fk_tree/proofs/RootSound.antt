-- The tree of the beginning.
use Rattle.std.proofs.Common.{◌≡◌, ◌≢◌, ⊎_elim, ℕ, ◌≤◌, ◌<◌, Bool, true, false, List, [], ◌∷◌, Option, Some, None, refl, sym, ap, ◌∙◌, arith}
use Rattle.std.proofs.lemmas.Bool.{cases_eq, false≢true}
use Rattle.fk_tree.specs.declared.node.Kind.TheVariants.{Lockstep, Asynchronous}
use Rattle.fk_tree.specs.Tree.{Node, members_of, kind_of, members, kind, is_member, node_of, below, root}
use Rattle.fk_tree.specs.Sound.{Has, awaits, is_ascending, IsSound}
use Rattle.fk_tree.proofs.Lists.{below-has, has-below, ascending-below}
use Rattle.fk_tree.proofs.Shapes.{with_same, with_other, members-node_of, none-node_of, has_some, has_along}

awaits-alone : (ms : List ℕ) (q m : ℕ) (alone : Bool) → awaits (kind_of (node_of ms q (Asynchronous alone))) m ≡ false
awaits-alone [] q m alone = refl
awaits-alone (h ∷ hs) q m alone = refl

not_lockstep : (ms : List ℕ) (q : ℕ) → kind_of (node_of ms q (Asynchronous false)) ≢ Some Lockstep
not_lockstep [] q e = cc
not_lockstep (h ∷ hs) q e = cc

module _ (p : ℕ) (some : 1 ≤ p) where
  abbrev first : Option Node
  first = node_of (below p []) 0 (Asynchronous false)

  only_root : (i : ℕ) → i ≢ 0 → (root p).nodes i ≡ None
  only_root i ne = with_other 0 first (λ j. None) i ne

  root_nodes : (i : ℕ) → i ≡ 0 → (root p).nodes i ≡ first
  root_nodes i e = with_same 0 first (λ j. None) i e

  root_members : (i : ℕ) → i ≡ 0 → members (root p) i ≡ below p []
  root_members i e = ap members_of (root_nodes i e) ∙ members-node_of (below p []) 0 (Asynchronous false)

  is_root : (i h : ℕ) → Has (root p) i h → i ≡ 0
  is_root i h has = ⊎_elim (λ e. e) (λ ne. absurd (has_some (root p) i h has (only_root i ne))) (cases_eq i 0)

  no_other : {P : Type 0} (m h : ℕ) → m ≢ 0 → Has (root p) m h → P
  no_other m h ne has = absurd (ne (is_root m h has))

  idle : (q m : ℕ) → awaits (kind (root p) q) m ≡ false
  idle q m =
      ⊎_elim
      (λ e. ap (λ (o : Option Node). awaits (kind_of o) m) (root_nodes q e) ∙ awaits-alone (below p []) 0 m false)
      (λ ne. ap (λ (o : Option Node). awaits (kind_of o) m) (only_root q ne))
      (cases_eq q 0)

  no_wait : {P : Type 0} (q m : ℕ) → awaits (kind (root p) q) m ≡ true → P
  no_wait q m w = absurd (false≢true (sym (idle q m) ∙ w))

  within : (h : ℕ) → is_member h (below p []) ≡ true → h < p
  within h is = ⊎_elim (λ lt. lt) (λ m. absurd (false≢true m)) (has-below p h [] is)

  ascending : (i : ℕ) → is_ascending (members (root p) i) ≡ true
  ascending i =
      ⊎_elim
      (λ e. ap is_ascending (root_members i e) ∙ ascending-below p [] refl (λ q lt. refl))
      (λ ne. ap (λ (o : Option Node). is_ascending (members_of o)) (only_root i ne))
      (cases_eq i 0)

  living : (i : ℕ) → members (root p) i ≡ [] → (root p).nodes i ≡ None
  living i empty =
      ⊎_elim
      (λ e. root_nodes i e ∙ none-node_of (below p []) 0 (Asynchronous false) (sym (root_members i e) ∙ empty))
      (λ ne. only_root i ne)
      (cases_eq i 0)

  pub root_sound : IsSound p (root p)
  root_sound = record {
    root = root_members 0 refl;
    some = some;
    free = λ e. not_lockstep (below p []) 0 (sym (ap kind_of (root_nodes 0 refl)) ∙ e);
    placed = λ h lt. record { member = has_along h (below p []) (members (root p) 0) (sym (root_members 0 refl)) (below-has p h [] lt); own = λ m ne up has. no_other m h ne has };
    only = λ h n at. is_root n h at.member;
    among = λ m h ne has. no_other m h ne has;
    apart = λ m n h ne ne' e has has'. no_other m h ne has;
    within = λ n h has. within h (has_along h (members (root p) n) (below p []) (root_members n (is_root n h has)) has);
    ascending = ascending;
    living = living;
    numbered = λ n le. only_root n (omega arith);
    awaited = λ m ne there. absurd (there (only_root m ne));
    children = λ n m w there. no_wait n m w;
    former = λ n m w. no_wait n m w;
    lower = λ n m w. no_wait n m w;
  }
