-- Members that leave a part, and a part that ends, keep each processor at exactly one node.
use Rattle.std.proofs.Common.{◌≡◌, ◌≢◌, ⊎_elim, ℕ, ◌≤◌, ◌<◌, Bool, true, false, not, ◌&&◌, List, [], ◌∷◌, Option, Some, None, refl, sym, ap, ◌∙◌, subst, filter}
use Rattle.std.proofs.lemmas.Bool.{cases_Bool, cases_eq, cond-true, cond-false, and_from, and_left, and_right, not_from_true, not_from_false, false≢true}
use Rattle.fk_tree.specs.declared.node.Kind.{Kind}
use Rattle.fk_tree.specs.Tree.{Node, Tree, members_of, parent_of, kind_of, members, parent, kind, is_member, node_of, left_by, shrink}
use Rattle.fk_tree.specs.Sound.{Has, IsAt, awaits, is_ascending, IsSound}
use Rattle.fk_tree.proofs.Lists.{impossible, member_kept, kept_member, ascending_kept}
use Rattle.fk_tree.proofs.Shapes.{with_same, with_other, members-node_of, parent-node_of, none-node_of, has_some, has_along}

-- a part without children
pub record CanShrink (n : ℕ) (t : Tree) : Type 0 where
  pub lower : n ≢ 0
  pub there : t.nodes n ≢ None
  pub leaf : (m : ℕ) → m ≢ 0 → t.nodes m ≢ None → parent t m ≡ n → ⊥

members-left_by : (stays : ℕ → Bool) (o : Option Node) → members_of (left_by stays o) ≡ filter stays (members_of o)
members-left_by stays None = refl
members-left_by stays (Some a) = members-node_of (filter stays a.members) a.parent a.kind

parent-left_by : (stays : ℕ → Bool) (o : Option Node) → left_by stays o ≢ None → parent_of (left_by stays o) ≡ parent_of o
parent-left_by stays None some = refl
parent-left_by stays (Some a) some = parent-node_of (filter stays a.members) a.parent a.kind some

awaits-node : (ms : List ℕ) (q : ℕ) (k : Kind) (m : ℕ) → awaits (kind_of (node_of ms q k)) m ≡ true → awaits (Some k) m ≡ true
awaits-node [] q k m e = absurd (false≢true e)
awaits-node (h ∷ hs) q k m e = e

awaits-left_by : (stays : ℕ → Bool) (o : Option Node) (m : ℕ) → awaits (kind_of (left_by stays o)) m ≡ true → awaits (kind_of o) m ≡ true
awaits-left_by stays None m e = e
awaits-left_by stays (Some a) m e = awaits-node (filter stays a.members) a.parent a.kind m e

pub left_by-none : (stays : ℕ → Bool) (o : Option Node) → filter stays (members_of o) ≡ [] → left_by stays o ≡ None
left_by-none stays None e = refl
left_by-none stays (Some a) e = none-node_of (filter stays a.members) a.parent a.kind e

none-left_by : (stays : ℕ → Bool) (o : Option Node) → o ≡ None → left_by stays o ≡ None
none-left_by stays None e = refl
none-left_by stays (Some a) e = cc

module _ (p n : ℕ) (stays : ℕ → Bool) (t : Tree) (s : IsSound p t) (c : CanShrink n t) where
  abbrev after : Tree
  after = shrink n stays t

  n_nodes : (i : ℕ) → i ≡ n → after.nodes i ≡ left_by stays (t.nodes n)
  n_nodes i e = with_same n (left_by stays (t.nodes n)) t.nodes i e

  other_nodes : (i : ℕ) → i ≢ n → after.nodes i ≡ t.nodes i
  other_nodes i ne = with_other n (left_by stays (t.nodes n)) t.nodes i ne

  n_members : (i : ℕ) → i ≡ n → members after i ≡ filter stays (members t n)
  n_members i e = ap members_of (n_nodes i e) ∙ members-left_by stays (t.nodes n)

  other_members : (i : ℕ) → i ≢ n → members after i ≡ members t i
  other_members i ne = ap members_of (other_nodes i ne)

  -- nobody joins, and only those leave who don't stay
  had : (i h : ℕ) → Has after i h → Has t i h
  had i h has =
      ⊎_elim
      (λ e. subst (λ (j : ℕ). Has t j h) (sym e) (kept_member stays (members t n) h (has_along h (members after i) (filter stays (members t n)) (n_members i e) has)).0)
      (λ ne. has_along h (members after i) (members t i) (other_members i ne) has)
      (cases_eq i n)

  stayed : (h : ℕ) → Has after n h → stays h ≡ true
  stayed h has = (kept_member stays (members t n) h (has_along h (members after n) (filter stays (members t n)) (n_members n refl) has)).1

  has_other : (i h : ℕ) → i ≢ n → Has t i h → Has after i h
  has_other i h ne has = has_along h (members t i) (members after i) (sym (other_members i ne)) has

  has_n : (h : ℕ) → Has t n h → stays h ≡ true → Has after n h
  has_n h has stay = has_along h (filter stays (members t n)) (members after n) (sym (n_members n refl)) (member_kept stays (members t n) h has stay)

  same_parent : (i : ℕ) → after.nodes i ≢ None → parent after i ≡ parent t i
  same_parent i some =
      ⊎_elim
      (λ e.
      let some' : left_by stays (t.nodes n) ≢ None = λ none. some (n_nodes i e ∙ none) in
      ap parent_of (n_nodes i e) ∙ parent-left_by stays (t.nodes n) some' ∙ ap (parent t) (sym e))
      (λ ne. ap parent_of (other_nodes i ne))
      (cases_eq i n)

  was_some : (i : ℕ) → after.nodes i ≢ None → t.nodes i ≢ None
  was_some i some none =
      ⊎_elim
      (λ e. some (n_nodes i e ∙ none-left_by stays (t.nodes n) (ap t.nodes (sym e) ∙ none)))
      (λ ne. some (other_nodes i ne ∙ none))
      (cases_eq i n)

  was_awaited : (q m : ℕ) → awaits (kind after q) m ≡ true → awaits (kind t q) m ≡ true
  was_awaited q m w =
      ⊎_elim
      (λ e. ap (λ (i : ℕ). awaits (kind t i) m) e ∙ awaits-left_by stays (t.nodes n) m (ap (λ (o : Option Node). awaits (kind_of o) m) (sym (n_nodes q e)) ∙ w))
      (λ ne. ap (λ (o : Option Node). awaits (kind_of o) m) (sym (other_nodes q ne)) ∙ w)
      (cases_eq q n)

  place-n : (h : ℕ) → Has t n h → n ≡ t.places h
  place-n h has = s.only h n (record { member = has; own = λ m ne e has'. c.leaf m ne (has_some t m h has') e })

  -- who leaves, and who doesn't
  abbrev leaves : ℕ → Bool
  leaves h = is_member h (members t n) && not (stays h)

  gone : (h : ℕ) → Has t n h → stays h ≡ false → after.places h ≡ parent t n
  gone h has stay = cond-true (leaves h) (parent t n) (t.places h) (and_from (is_member h (members t n)) (not (stays h)) has (not_from_false (stays h) stay))

  still : (h : ℕ) → stays h ≡ true → after.places h ≡ t.places h
  still h stay = cond-false (leaves h) (parent t n) (t.places h) (and_right (is_member h (members t n)) (not (stays h)) (not_from_true (stays h) stay))

  away : (h : ℕ) → is_member h (members t n) ≡ false → after.places h ≡ t.places h
  away h out = cond-false (leaves h) (parent t n) (t.places h) (and_left (is_member h (members t n)) (not (stays h)) out)

  up-other : parent t n ≢ n
  up-other e = c.leaf n c.lower c.there e

  at_gone : (h : ℕ) → Has t n h → stays h ≡ false → IsAt after h (parent t n)
  at_gone h has stay = record {
    member = has_other (parent t n) h up-other (s.among n h c.lower has);
    own = λ m ne up has'.
        let up' : parent t m ≡ parent t n = sym (same_parent m (has_some after m h has')) ∙ up in
        let e : m ≡ n = s.apart m n h ne c.lower up' (had m h has') has in
        impossible (stays h) (stayed h (subst (λ (i : ℕ). Has after i h) e has')) stay;
  }

  at_n : (h : ℕ) → Has t n h → stays h ≡ true → IsAt after h n
  at_n h has stay = record {
    member = has_n h has stay;
    own = λ m ne up has'. c.leaf m ne (has_some t m h (had m h has')) (sym (same_parent m (has_some after m h has')) ∙ up);
  }

  at_away : (h q : ℕ) → is_member h (members t n) ≡ false → IsAt t h q → IsAt after h q
  at_away h q out at =
      let other : q ≢ n = λ e. impossible (is_member h (members t n)) (subst (λ (i : ℕ). Has t i h) e at.member) out in
      record {
        member = has_other q h other at.member;
        own = λ m ne up has'. at.own m ne (sym (same_parent m (has_some after m h has')) ∙ up) (had m h has');
      }

  at_along : (h a b : ℕ) → a ≡ b → IsAt after h b → IsAt after h a
  at_along h a b e at = subst (λ (q : ℕ). IsAt after h q) (sym e) at

  placed : (h : ℕ) → h < p → IsAt after h (after.places h)
  placed h lt =
      ⊎_elim
      (λ has. ⊎_elim
      (λ stay. at_along h (after.places h) n (still h stay ∙ sym (place-n h has)) (at_n h has stay))
      (λ stay. at_along h (after.places h) (parent t n) (gone h has stay) (at_gone h has stay))
      (cases_Bool (stays h)))
      (λ out. at_along h (after.places h) (t.places h) (away h out) (at_away h (t.places h) out (s.placed h lt)))
      (cases_Bool (is_member h (members t n)))

  -- where no part of a node has the member, or the one that it leaves alone
  at_before : (h q : ℕ) → ((m : ℕ) → m ≡ n → parent t m ≡ q → Has t m h → ⊥) → IsAt after h q → IsAt t h q
  at_before h q none at = record {
    member = had q h at.member;
    own = λ m nz up has.
        ⊎_elim
        (λ e. none m e up has)
        (λ ne. at.own m nz (same_parent m (has_some after m h (has_other m h ne has)) ∙ up) (has_other m h ne has))
        (cases_eq m n);
  }

  only_gone : (h q : ℕ) → Has t n h → stays h ≡ false → q ≢ n → IsAt after h q → q ≡ after.places h
  only_gone h q has stay ne at =
      ⊎_elim
      (λ e. e ∙ sym (gone h has stay))
      (λ apart.
      let at' = at_before h q (λ m e up has'. apart (sym up ∙ ap (parent t) e)) at in
      absurd (ne (s.only h q at' ∙ sym (place-n h has))))
      (cases_eq q (parent t n))

  only_stayed : (h q : ℕ) → stays h ≡ true → q ≢ n → IsAt after h q → q ≡ after.places h
  only_stayed h q stay ne at =
      let at' = at_before h q
      (λ m e up has.
      let has' = has_n h (subst (λ (i : ℕ). Has t i h) e has) stay in
      at.own n c.lower (same_parent n (has_some after n h has') ∙ ap (parent t) (sym e) ∙ up) has')
      at in
      s.only h q at' ∙ sym (still h stay)

  only_away : (h q : ℕ) → is_member h (members t n) ≡ false → IsAt after h q → q ≡ after.places h
  only_away h q out at =
      let at' = at_before h q (λ m e up has. impossible (is_member h (members t n)) (subst (λ (i : ℕ). Has t i h) e has) out) at in
      s.only h q at' ∙ sym (away h out)

  only : (h q : ℕ) → IsAt after h q → q ≡ after.places h
  only h q at =
      ⊎_elim
      (λ has. ⊎_elim
      (λ stay. ⊎_elim
      (λ e. e ∙ place-n h has ∙ sym (still h stay))
      (λ ne. only_stayed h q stay ne at)
      (cases_eq q n))
      (λ stay. ⊎_elim
      (λ e. impossible (stays h) (stayed h (subst (λ (i : ℕ). Has after i h) e at.member)) stay)
      (λ ne. only_gone h q has stay ne at)
      (cases_eq q n))
      (cases_Bool (stays h)))
      (λ out. only_away h q out at)
      (cases_Bool (is_member h (members t n)))

  up_other : (m : ℕ) → m ≢ 0 → after.nodes m ≢ None → parent t m ≢ n
  up_other m ne some e = c.leaf m ne (was_some m some) e

  among : (m h : ℕ) → m ≢ 0 → Has after m h → Has after (parent after m) h
  among m h ne has =
      let some = has_some after m h has in
      subst (λ (i : ℕ). Has after i h) (sym (same_parent m some)) (has_other (parent t m) h (up_other m ne some) (s.among m h ne (had m h has)))

  apart : (m q h : ℕ) → m ≢ 0 → q ≢ 0 → parent after m ≡ parent after q → Has after m h → Has after q h → m ≡ q
  apart m q h ne ne' e has has' =
      s.apart m q h ne ne' (sym (same_parent m (has_some after m h has)) ∙ e ∙ same_parent q (has_some after q h has')) (had m h has) (had q h has')

  ascending : (i : ℕ) → is_ascending (members after i) ≡ true
  ascending i =
      ⊎_elim
      (λ e. ap is_ascending (n_members i e) ∙ ascending_kept stays (members t n) (s.ascending n))
      (λ ne. ap is_ascending (other_members i ne) ∙ s.ascending i)
      (cases_eq i n)

  living : (i : ℕ) → members after i ≡ [] → after.nodes i ≡ None
  living i empty =
      ⊎_elim
      (λ e. n_nodes i e ∙ left_by-none stays (t.nodes n) (sym (n_members i e) ∙ empty))
      (λ ne. other_nodes i ne ∙ s.living i (sym (other_members i ne) ∙ empty))
      (cases_eq i n)

  numbered : (i : ℕ) → t.given ≤ i → after.nodes i ≡ None
  numbered i le =
      ⊎_elim
      (λ e. n_nodes i e ∙ none-left_by stays (t.nodes n) (ap t.nodes (sym e) ∙ s.numbered i le))
      (λ ne. other_nodes i ne ∙ s.numbered i le)
      (cases_eq i n)

  awaited : (m : ℕ) → m ≢ 0 → after.nodes m ≢ None → awaits (kind after (parent after m)) m ≡ true
  awaited m ne some =
      ap (λ (i : ℕ). awaits (kind after i) m) (same_parent m some)
      ∙ ap (λ (o : Option Node). awaits (kind_of o) m) (other_nodes (parent t m) (up_other m ne some))
      ∙ s.awaited m ne (was_some m some)

  pub shrink_sound : IsSound p (shrink n stays t)
  shrink_sound = record {
    root = other_members 0 (λ e. c.lower (sym e)) ∙ s.root;
    some = s.some;
    free = λ e. s.free (sym (ap kind_of (other_nodes 0 (λ zero. c.lower (sym zero)))) ∙ e);
    placed = placed;
    only = only;
    among = among;
    apart = apart;
    within = λ i h has. s.within i h (had i h has);
    ascending = ascending;
    living = living;
    numbered = numbered;
    awaited = awaited;
    children = λ q m w some. same_parent m some ∙ s.children q m (was_awaited q m w) (was_some m some);
    former = λ q m w. s.former q m (was_awaited q m w);
    lower = λ q m w. s.lower q m (was_awaited q m w);
  }
