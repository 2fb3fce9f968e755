-- A split keeps each processor at exactly one node.
use Rattle.std.proofs.Common.{◌≡◌, ◌≢◌, ◌⊎◌, inl, inr, ⊎_elim, ℕ, ◌+◌, ◌-◌, ◌≤◌, ◌<◌, Bool, true, false, List, [], Option, Some, None, refl, sym, ap, ◌∙◌, subst, arith, filter}
use Rattle.std.proofs.lemmas.Bool.{cases_Bool, cases_eq, cond-true, cond-false, eqb-true, eq-eqb, false≢true}
use Rattle.fk_tree.specs.declared.node.Kind.{Kind}
use Rattle.fk_tree.specs.declared.node.Kind.TheVariants.{Lockstep, Waiting}
use Rattle.fk_tree.specs.Tree.{Node, Tree, members_of, parent_of, kind_of, members, parent, kind, is_member, node_of, with_kind, is_from, is_in, place_in, split, below}
use Rattle.fk_tree.specs.Sound.{Has, IsAt, awaits, is_ascending, IsSound}
use Rattle.fk_tree.proofs.Lists.{impossible, member_kept, kept_member, ascending_kept, below-has}
use Rattle.fk_tree.proofs.Shapes.{members-node_of, parent-node_of, awaits-node_of, none-node_of, kind_members, kind_parent, kind_none, kind_same, kind_other, from_parts, from_within, from_below, from_above, has_some, has_along, some-given, awaits-some}

-- a node without children, and a choice of k parts for its members
pub record CanSplit (n k : ℕ) (part : ℕ → Option ℕ) (t : Tree) : Type 0 where
  pub there : t.nodes n ≢ None
  pub leaf : (m : ℕ) → m ≢ 0 → t.nodes m ≢ None → parent t m ≡ n → ⊥
  pub few : (h j : ℕ) → part h ≡ Some j → j < k

is_in-some : (i : ℕ) (o : Option ℕ) → is_in i o ≡ true → o ≡ Some i
is_in-some i None e = absurd (false≢true e)
is_in-some i (Some j) e = ap Some (sym (eqb-true i j e))

some-is_in : (i : ℕ) (o : Option ℕ) → o ≡ Some i → is_in i o ≡ true
some-is_in i o e = ap (is_in i) e ∙ eq-eqb i i refl

cases_part : (o : Option ℕ) → (o ≡ None) ⊎ ((j : ℕ) × (o ≡ Some j))
cases_part None = inl refl
cases_part (Some j) = inr (j, refl)

module _ (p n k : ℕ) (part : ℕ → Option ℕ) (t : Tree) (s : IsSound p t) (c : CanSplit n k part t) where
  abbrev after : Tree
  after = split n k part t

  abbrev group : ℕ → List ℕ
  group i = filter (λ h. is_in (i - t.given) (part h)) (members t n)

  abbrev is_new : ℕ → Bool
  is_new i = is_from t.given k i

  n-given : n < t.given
  n-given = some-given p t s n c.there

  -- of a new number
  new_nodes : (i : ℕ) → is_new i ≡ true → after.nodes i ≡ node_of (group i) n Lockstep
  new_nodes i e = cond-true (is_new i) (node_of (group i) n Lockstep) ((with_kind n (Waiting t.given k) t).nodes i) e

  old_nodes : (i : ℕ) → is_new i ≡ false → after.nodes i ≡ (with_kind n (Waiting t.given k) t).nodes i
  old_nodes i e = cond-false (is_new i) (node_of (group i) n Lockstep) ((with_kind n (Waiting t.given k) t).nodes i) e

  new_members : (i : ℕ) → is_new i ≡ true → members after i ≡ group i
  new_members i e = ap members_of (new_nodes i e) ∙ members-node_of (group i) n Lockstep

  new_parent : (i : ℕ) → is_new i ≡ true → after.nodes i ≢ None → parent after i ≡ n
  new_parent i e some =
      let some' : node_of (group i) n Lockstep ≢ None = λ none. some (new_nodes i e ∙ none) in
      ap parent_of (new_nodes i e) ∙ parent-node_of (group i) n Lockstep some'

  new_awaits : (i m : ℕ) → is_new i ≡ true → awaits (kind after i) m ≡ false
  new_awaits i m e = ap (λ (o : Option Node). awaits (kind_of o) m) (new_nodes i e) ∙ awaits-node_of (group i) n m

  new_fresh : (i : ℕ) → is_new i ≡ true → t.nodes i ≡ None
  new_fresh i e = s.numbered i (from_parts t.given k i e).0

  -- of an old one
  old_members : (i : ℕ) → is_new i ≡ false → members after i ≡ members t i
  old_members i e = ap members_of (old_nodes i e) ∙ kind_members n (Waiting t.given k) t i

  old_parent : (i : ℕ) → is_new i ≡ false → parent after i ≡ parent t i
  old_parent i e = ap parent_of (old_nodes i e) ∙ kind_parent n (Waiting t.given k) t i

  old_some : (i : ℕ) → is_new i ≡ false → after.nodes i ≢ None → t.nodes i ≢ None
  old_some i e some none = some (old_nodes i e ∙ kind_none n (Waiting t.given k) t i none)

  old_kind : (i : ℕ) → is_new i ≡ false → i ≢ n → kind after i ≡ kind t i
  old_kind i e ne = ap kind_of (old_nodes i e) ∙ kind_other n (Waiting t.given k) t i ne

  given_old : (i : ℕ) → t.nodes i ≢ None → is_new i ≡ false
  given_old i some = from_below t.given k i (some-given p t s i some)

  n-old : is_new n ≡ false
  n-old = given_old n c.there

  n-kind : kind after n ≡ Some (Waiting t.given k)
  n-kind = ap kind_of (old_nodes n n-old) ∙ kind_same n (Waiting t.given k) t c.there

  n-awaits : (m : ℕ) → awaits (kind after n) m ≡ is_new m
  n-awaits m = ap (λ (o : Option Kind). awaits o m) n-kind

  -- who is in a part is a member of the node that chose it
  new_has : (i h : ℕ) → is_new i ≡ true → Has after i h → Has t n h × (part h ≡ Some (i - t.given))
  new_has i h e has =
      let kept = kept_member (λ g. is_in (i - t.given) (part g)) (members t n) h (has_along h (members after i) (group i) (new_members i e) has) in
      (kept.0, is_in-some (i - t.given) (part h) kept.1)

  old_has : (i h : ℕ) → is_new i ≡ false → Has after i h → Has t i h
  old_has i h e has = has_along h (members after i) (members t i) (old_members i e) has

  has_old : (i h : ℕ) → Has t i h → Has after i h
  has_old i h has = has_along h (members t i) (members after i) (sym (old_members i (given_old i (has_some t i h has)))) has

  has_new : (h j : ℕ) → Has t n h → part h ≡ Some j → Has after (t.given + j) h
  has_new h j has e =
      let within : is_new (t.given + j) ≡ true = from_within t.given k (t.given + j) (omega arith) (omega (arith, c.few h j e)) in
      let which : t.given + j - t.given ≡ j = omega arith in
      let in_part : is_in (t.given + j - t.given) (part h) ≡ true = some-is_in (t.given + j - t.given) (part h) (e ∙ ap Some (sym which)) in
      has_along h (group (t.given + j)) (members after (t.given + j)) (sym (new_members (t.given + j) within))
      (member_kept (λ g. is_in (t.given + j - t.given) (part g)) (members t n) h has in_part)

  new_number : (h j : ℕ) → part h ≡ Some j → is_new (t.given + j) ≡ true
  new_number h j e = from_within t.given k (t.given + j) (omega arith) (omega (arith, c.few h j e))

  -- a child of an old number that was there before
  old_child : (m : ℕ) → m ≢ 0 → is_new m ≡ false → after.nodes m ≢ None → t.nodes (parent t m) ≢ None
  old_child m ne e some = awaits-some t (parent t m) m (s.awaited m ne (old_some m e some))

  -- the node is the place of its members
  at-n : (h : ℕ) → Has t n h → IsAt t h n
  at-n h has = record { member = has; own = λ m ne e has'. c.leaf m ne (has_some t m h has') e }

  place-n : (h : ℕ) → Has t n h → n ≡ t.places h
  place-n h has = s.only h n (at-n h has)

  places_of : (h : ℕ) → Has t n h → after.places h ≡ place_in (t.places h) t.given (part h)
  places_of h has = cond-true (is_member h (members t n)) (place_in (t.places h) t.given (part h)) (t.places h) has

  places_other : (h : ℕ) → is_member h (members t n) ≡ false → after.places h ≡ t.places h
  places_other h has = cond-false (is_member h (members t n)) (place_in (t.places h) t.given (part h)) (t.places h) has

  places_in : (h j : ℕ) → Has t n h → part h ≡ Some j → after.places h ≡ t.given + j
  places_in h j has e = places_of h has ∙ ap (place_in (t.places h) t.given) e

  places_out : (h : ℕ) → Has t n h → part h ≡ None → after.places h ≡ n
  places_out h has e = places_of h has ∙ ap (place_in (t.places h) t.given) e ∙ sym (place-n h has)

  part_apart : (h i j : ℕ) → part h ≡ Some i → part h ≡ Some j → i ≡ j
  part_apart h i j e e' = cc

  part_clash : {P : Type 0} (h i : ℕ) → part h ≡ Some i → part h ≡ None → P
  part_clash h i e e' = cc

  -- the facts after the split
  at_new : (h j : ℕ) → Has t n h → part h ≡ Some j → IsAt after h (t.given + j)
  at_new h j has e = record {
    member = has_new h j has e;
    own = λ m ne up has'.
        ⊎_elim
        (λ new. let same : n ≡ t.given + j = sym (new_parent m new (has_some after m h has')) ∙ up in absurd (omega (arith, n-given)))
        (λ old.
        let some = old_child m ne old (has_some after m h has') in
        let up' : parent t m ≡ t.given + j = sym (old_parent m old) ∙ up in
        some (ap t.nodes up' ∙ new_fresh (t.given + j) (new_number h j e)))
        (cases_Bool (is_new m));
  }

  at_waiting : (h : ℕ) → Has t n h → part h ≡ None → IsAt after h n
  at_waiting h has e = record {
    member = has_old n h has;
    own = λ m ne up has'.
        ⊎_elim
        (λ new. part_clash h (m - t.given) (new_has m h new has').1 e)
        (λ old. c.leaf m ne (old_some m old (has_some after m h has')) (sym (old_parent m old) ∙ up))
        (cases_Bool (is_new m));
  }

  at_other : (h q : ℕ) → is_member h (members t n) ≡ false → IsAt t h q → IsAt after h q
  at_other h q out at = record {
    member = has_old q h at.member;
    own = λ m ne up has'.
        ⊎_elim
        (λ new. impossible (is_member h (members t n)) (new_has m h new has').0 out)
        (λ old. at.own m ne (sym (old_parent m old) ∙ up) (old_has m h old has'))
        (cases_Bool (is_new m));
  }

  at_along : (h a b : ℕ) → a ≡ b → IsAt after h b → IsAt after h a
  at_along h a b e at = subst (λ (q : ℕ). IsAt after h q) (sym e) at

  placed : (h : ℕ) → h < p → IsAt after h (after.places h)
  placed h lt =
      ⊎_elim
      (λ has.
      ⊎_elim
      (λ out. at_along h (after.places h) n (places_out h has out) (at_waiting h has out))
      (λ some. at_along h (after.places h) (t.given + some.0) (places_in h some.0 has some.1) (at_new h some.0 has some.1))
      (cases_part (part h)))
      (λ out. at_along h (after.places h) (t.places h) (places_other h out) (at_other h (t.places h) out (s.placed h lt)))
      (cases_Bool (is_member h (members t n)))

  -- a member of the node that is in no part
  only-n : (h : ℕ) → IsAt after h n → n ≡ after.places h
  only-n h at =
      let has = old_has n h n-old at.member in
      ⊎_elim
      (λ out. sym (places_out h has out))
      (λ some.
      let j = some.0 in
      let has' = has_new h j has some.1 in
      absurd (at.own (t.given + j) (omega (arith, n-given)) (new_parent (t.given + j) (new_number h j some.1) (has_some after (t.given + j) h has')) has'))
      (cases_part (part h))

  only-new : (h q : ℕ) → is_new q ≡ true → IsAt after h q → q ≡ after.places h
  only-new h q new at =
      let is = new_has q h new at.member in
      let low = (from_parts t.given k q new).0 in
      let e : q ≡ t.given + (q - t.given) = omega (arith, low) in
      e ∙ sym (places_in h (q - t.given) is.0 is.1)

  only-other : (h q : ℕ) → is_new q ≡ false → q ≢ n → IsAt after h q → q ≡ after.places h
  only-other h q old ne at =
      let at' : IsAt t h q = record {
        member = old_has q h old at.member;
        own = λ m nz up has. at.own m nz (old_parent m (given_old m (has_some t m h has)) ∙ up) (has_old m h has);
      } in
      let e = s.only h q at' in
      ⊎_elim
      (λ has. absurd (ne (e ∙ sym (place-n h has))))
      (λ out. e ∙ sym (places_other h out))
      (cases_Bool (is_member h (members t n)))

  only : (h q : ℕ) → IsAt after h q → q ≡ after.places h
  only h q at =
      ⊎_elim
      (λ new. only-new h q new at)
      (λ old. ⊎_elim
      (λ e. e ∙ only-n h (subst (λ (i : ℕ). IsAt after h i) e at))
      (λ ne. only-other h q old ne at)
      (cases_eq q n))
      (cases_Bool (is_new q))

  among : (m h : ℕ) → m ≢ 0 → Has after m h → Has after (parent after m) h
  among m h ne has =
      ⊎_elim
      (λ new. subst (λ (i : ℕ). Has after i h) (sym (new_parent m new (has_some after m h has))) (has_old n h (new_has m h new has).0))
      (λ old. subst (λ (i : ℕ). Has after i h) (sym (old_parent m old)) (has_old (parent t m) h (s.among m h ne (old_has m h old has))))
      (cases_Bool (is_new m))

  -- a new child and an old one have other parents
  apart_mixed : {P : Type 0} (m q h : ℕ) → q ≢ 0 → is_new m ≡ true → is_new q ≡ false → parent after m ≡ parent after q → Has after m h → Has after q h → P
  apart_mixed m q h ne new old e has has' =
      absurd (c.leaf q ne (old_some q old (has_some after q h has')) (sym (old_parent q old) ∙ sym e ∙ new_parent m new (has_some after m h has)))

  apart : (m q h : ℕ) → m ≢ 0 → q ≢ 0 → parent after m ≡ parent after q → Has after m h → Has after q h → m ≡ q
  apart m q h ne ne' e has has' =
      ⊎_elim
      (λ new. ⊎_elim
      (λ new'.
      let same = part_apart h (m - t.given) (q - t.given) (new_has m h new has).1 (new_has q h new' has').1 in
      omega (arith, (from_parts t.given k m new).0, (from_parts t.given k q new').0))
      (λ old'. apart_mixed m q h ne' new old' e has has')
      (cases_Bool (is_new q)))
      (λ old. ⊎_elim
      (λ new'. apart_mixed q m h ne new' old (sym e) has' has)
      (λ old'. s.apart m q h ne ne' (sym (old_parent m old) ∙ e ∙ old_parent q old') (old_has m h old has) (old_has q h old' has'))
      (cases_Bool (is_new q)))
      (cases_Bool (is_new m))

  within : (i h : ℕ) → Has after i h → h < p
  within i h has =
      ⊎_elim
      (λ new. s.within n h (new_has i h new has).0)
      (λ old. s.within i h (old_has i h old has))
      (cases_Bool (is_new i))

  ascending : (i : ℕ) → is_ascending (members after i) ≡ true
  ascending i =
      ⊎_elim
      (λ new. ap is_ascending (new_members i new) ∙ ascending_kept (λ h. is_in (i - t.given) (part h)) (members t n) (s.ascending n))
      (λ old. ap is_ascending (old_members i old) ∙ s.ascending i)
      (cases_Bool (is_new i))

  living : (i : ℕ) → members after i ≡ [] → after.nodes i ≡ None
  living i e =
      ⊎_elim
      (λ new. new_nodes i new ∙ none-node_of (group i) n Lockstep (sym (new_members i new) ∙ e))
      (λ old. old_nodes i old ∙ kind_none n (Waiting t.given k) t i (s.living i (sym (old_members i old) ∙ e)))
      (cases_Bool (is_new i))

  numbered : (i : ℕ) → t.given + k ≤ i → after.nodes i ≡ None
  numbered i le =
      let old = from_above t.given k i le in
      old_nodes i old ∙ kind_none n (Waiting t.given k) t i (s.numbered i (omega arith))

  awaited : (m : ℕ) → m ≢ 0 → after.nodes m ≢ None → awaits (kind after (parent after m)) m ≡ true
  awaited m ne some =
      ⊎_elim
      (λ new. ap (λ (i : ℕ). awaits (kind after i) m) (new_parent m new some) ∙ n-awaits m ∙ new)
      (λ old.
      let was = s.awaited m ne (old_some m old some) in
      let up-old = given_old (parent t m) (awaits-some t (parent t m) m was) in
      let up-other : parent t m ≢ n = λ e. c.leaf m ne (old_some m old some) e in
      ap (λ (i : ℕ). awaits (kind after i) m) (old_parent m old) ∙ ap (λ (o : Option Kind). awaits o m) (old_kind (parent t m) up-old up-other) ∙ was)
      (cases_Bool (is_new m))

  -- what an old node other than the one that is split waits for
  was_awaited : (q m : ℕ) → q ≢ n → awaits (kind after q) m ≡ true → awaits (kind t q) m ≡ true
  was_awaited q m ne e =
      ⊎_elim
      (λ new. impossible (awaits (kind after q) m) e (new_awaits q m new))
      (λ old. ap (λ (o : Option Kind). awaits o m) (sym (old_kind q old ne)) ∙ e)
      (cases_Bool (is_new q))

  awaited-new : (q m : ℕ) → q ≡ n → awaits (kind after q) m ≡ true → is_new m ≡ true
  awaited-new q m e w = sym (n-awaits m) ∙ ap (λ (i : ℕ). awaits (kind after i) m) (sym e) ∙ w

  children : (q m : ℕ) → awaits (kind after q) m ≡ true → after.nodes m ≢ None → parent after m ≡ q
  children q m w some =
      ⊎_elim
      (λ e. new_parent m (awaited-new q m e w) some ∙ sym e)
      (λ ne.
      let was = was_awaited q m ne w in
      let old = from_below t.given k m (s.former q m was) in
      old_parent m old ∙ s.children q m was (old_some m old some))
      (cases_eq q n)

  former : (q m : ℕ) → awaits (kind after q) m ≡ true → m < t.given + k
  former q m w =
      ⊎_elim
      (λ e. (from_parts t.given k m (awaited-new q m e w)).1)
      (λ ne. omega (arith, s.former q m (was_awaited q m ne w)))
      (cases_eq q n)

  lower : (q m : ℕ) → awaits (kind after q) m ≡ true → m ≢ 0
  lower q m w =
      ⊎_elim
      (λ e. let low = (from_parts t.given k m (awaited-new q m e w)).0 in omega (arith, n-given))
      (λ ne. s.lower q m (was_awaited q m ne w))
      (cases_eq q n)

  root_there : t.nodes 0 ≢ None
  root_there = has_some t 0 0 (has_along 0 (below p []) (members t 0) (sym s.root) (below-has p 0 [] s.some))

  still_free : kind after 0 ≢ Some Lockstep
  still_free e =
      ⊎_elim
      (λ same. let waits : kind after 0 ≡ Some (Waiting t.given k) = ap (kind after) same ∙ n-kind in cc)
      (λ other. s.free (sym (old_kind 0 (given_old 0 root_there) other) ∙ e))
      (cases_eq 0 n)

  pub split_sound : IsSound p (split n k part t)
  split_sound = record {
    root = old_members 0 (given_old 0 root_there) ∙ s.root;
    some = s.some;
    free = still_free;
    placed = placed;
    only = only;
    among = among;
    apart = apart;
    within = within;
    ascending = ascending;
    living = living;
    numbered = numbered;
    awaited = awaited;
    children = children;
    former = former;
    lower = lower;
  }
