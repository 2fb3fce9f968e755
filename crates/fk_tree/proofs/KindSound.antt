-- A node without children may get any kind that waits for nobody.
use Rattle.std.proofs.Common.{◌≡◌, ◌≢◌, ⊎_elim, ℕ, true, false, Option, Some, None, refl, sym, ap, ◌∙◌, subst}
use Rattle.std.proofs.lemmas.Bool.{cases_eq}
use Rattle.fk_tree.specs.declared.node.Kind.{Kind}
use Rattle.fk_tree.specs.declared.node.Kind.TheVariants.{Lockstep}
use Rattle.fk_tree.specs.Tree.{Node, Tree, kind_of, members, parent, kind, turned, with_kind}
use Rattle.fk_tree.specs.Sound.{Has, IsAt, awaits, is_ascending, IsSound}
use Rattle.fk_tree.proofs.Lists.{impossible}
use Rattle.fk_tree.proofs.Shapes.{with_same, kind_members, kind_parent, kind_none, kind_some, kind_other, has_along}

awaits-turned : (k : Kind) (o : Option Node) (m : ℕ) → awaits (Some k) m ≡ false → awaits (kind_of (turned k o)) m ≡ false
awaits-turned k None m e = refl
awaits-turned k (Some a) m e = e

module _ (p n : ℕ) (k : Kind) (t : Tree) (s : IsSound p t) (leaf : (m : ℕ) → m ≢ 0 → t.nodes m ≢ None → parent t m ≡ n → ⊥) (idle : (m : ℕ) → awaits (Some k) m ≡ false) (free : n ≡ 0 → k ≢ Lockstep) where
  abbrev after : Tree
  after = with_kind n k t

  had : (i h : ℕ) → Has after i h → Has t i h
  had i h has = has_along h (members after i) (members t i) (kind_members n k t i) has

  has : (i h : ℕ) → Has t i h → Has after i h
  has i h has' = has_along h (members t i) (members after i) (sym (kind_members n k t i)) has'

  at_after : (h q : ℕ) → IsAt t h q → IsAt after h q
  at_after h q at = record { member = has q h at.member; own = λ m ne up has'. at.own m ne (sym (kind_parent n k t m) ∙ up) (had m h has') }

  at_before : (h q : ℕ) → IsAt after h q → IsAt t h q
  at_before h q at = record { member = had q h at.member; own = λ m ne up has'. at.own m ne (kind_parent n k t m ∙ up) (has m h has') }

  was_awaited : (q m : ℕ) → awaits (kind after q) m ≡ true → awaits (kind t q) m ≡ true
  was_awaited q m w =
      ⊎_elim
      (λ e.
      let no : awaits (kind after q) m ≡ false = ap (λ (o : Option Node). awaits (kind_of o) m) (with_same n (turned k (t.nodes n)) t.nodes q e) ∙ awaits-turned k (t.nodes n) m (idle m) in
      impossible (awaits (kind after q) m) w no)
      (λ ne. ap (λ (o : Option Kind). awaits o m) (sym (kind_other n k t q ne)) ∙ w)
      (cases_eq q n)

  awaited : (m : ℕ) → m ≢ 0 → after.nodes m ≢ None → awaits (kind after (parent after m)) m ≡ true
  awaited m ne some =
      let some' = kind_some n k t m some in
      ap (λ (i : ℕ). awaits (kind after i) m) (kind_parent n k t m)
      ∙ ap (λ (o : Option Kind). awaits o m) (kind_other n k t (parent t m) (leaf m ne some'))
      ∙ s.awaited m ne some'

  turned-free : (o : Option Node) → k ≢ Lockstep → kind_of (turned k o) ≢ Some Lockstep
  turned-free None ne e = cc
  turned-free (Some a) ne e = ne (cc)

  still_free : kind after 0 ≢ Some Lockstep
  still_free e =
      ⊎_elim
      (λ same. turned-free (t.nodes n) (free (sym same)) (sym (ap kind_of (with_same n (turned k (t.nodes n)) t.nodes 0 same)) ∙ e))
      (λ other. s.free (sym (kind_other n k t 0 other) ∙ e))
      (cases_eq 0 n)

  pub kind_sound : IsSound p (with_kind n k t)
  kind_sound = record {
    root = kind_members n k t 0 ∙ s.root;
    some = s.some;
    free = still_free;
    placed = λ h lt. at_after h (t.places h) (s.placed h lt);
    only = λ h q at. s.only h q (at_before h q at);
    among = λ m h ne has'. subst (λ (i : ℕ). Has after i h) (sym (kind_parent n k t m)) (has (parent t m) h (s.among m h ne (had m h has')));
    apart = λ m q h ne ne' e has' has''. s.apart m q h ne ne' (sym (kind_parent n k t m) ∙ e ∙ kind_parent n k t q) (had m h has') (had q h has'');
    within = λ i h has'. s.within i h (had i h has');
    ascending = λ i. ap is_ascending (kind_members n k t i) ∙ s.ascending i;
    living = λ i empty. kind_none n k t i (s.living i (sym (kind_members n k t i) ∙ empty));
    numbered = λ i le. kind_none n k t i (s.numbered i le);
    awaited = awaited;
    children = λ q m w some. kind_parent n k t m ∙ s.children q m (was_awaited q m w) (kind_some n k t m some);
    former = λ q m w. s.former q m (was_awaited q m w);
    lower = λ q m w. s.lower q m (was_awaited q m w);
  }
