-- What one step of the tree makes of what the processors at its nodes have.
use Rattle.std.proofs.Common.{◌≡◌, ◌≢◌, ◌⊎◌, inl, inr, ⊎_elim, ℕ, ◌+◌, ◌-◌, ◌<◌, ◌==◌, Bool, true, false, List, [], ◌∷◌, Option, Some, None, refl, sym, ap, ap₂, ◌∙◌, subst, subst₂, arith, filter, if◌then◌else◌}
use Rattle.std.proofs.lemmas.Bool.{cases_Bool, cases_eq, cond-true, cond-false, eq-eqb, ne_eqb, false≢true}
use Rattle.fk_tree.specs.declared.node.Kind.{Kind}
use Rattle.fk_tree.specs.declared.node.Kind.TheVariants.{Lockstep, Waiting, Asynchronous}
use Rattle.fk_tree.specs.Tree.{Node, Tree, parent_of, kind_of, members, parent, kind, is_member, node_of, with_kind, is_from, is_in, place_in, split, left_by, shrink}
use Rattle.fk_tree.specs.Sound.{Has, awaits, IsSound}
use Rattle.fk_tree.proofs.Lists.{impossible}
use Rattle.fk_tree.proofs.Shapes.{kind_parent, kind_some, kind_same, kind_other, kind_none, from_within, from_below, has_some, some-given, awaits-some}
use Rattle.fk_lockstep.proofs.Nodes.{n_nodes, other_nodes, smaller_parent, gone, still, away, new_nodes, old_nodes, split_places, split_away, new_parent}
use Rattle.fk_tree.proofs.Turns.{IsLeaf, IsIdle}
use Rattle.fk_tree.proofs.KindSound.{kind_sound}
use Rattle.fk_tree.proofs.SplitSound.{CanSplit, split_sound}
use Rattle.fk_tree.proofs.ShrinkSound.{CanShrink, shrink_sound}

cases_part : (o : Option ℕ) → (o ≡ None) ⊎ ((j : ℕ) × (o ≡ Some j))
cases_part None = inl refl
cases_part (Some j) = inr (j, refl)

-- X is what a group has, Y what of it is told further in, and R what a processor has
module _ {R X Y : Type 0} (left : X → Y) (Grouped : List Y → X → Type 0) (Parted : ℕ → List Y → X → Type 0) (Apart : ℕ → List Y → X → R → Type 0) (Is : X → R → Type 0) (p : ℕ) where
  abbrev pub NodeIs : (n : ℕ) → Option Kind → List Y → X → Type 0
  NodeIs n None b x = Unit {0}
  NodeIs n (Some Lockstep) b x = Grouped b x
  NodeIs n (Some (Waiting first k)) b x = Parted n b x
  NodeIs n (Some (Asynchronous alone)) b x = Unit {0}

  abbrev pub IsThere : (n : ℕ) → Option Kind → List Y → X → R → Type 0
  IsThere n None b x r = Is x r
  IsThere n (Some Lockstep) b x r = Is x r
  IsThere n (Some (Waiting first k)) b x r = Is x r
  IsThere n (Some (Asynchronous alone)) b x r = Apart n b x r

  abbrev pub ThereAt : Tree → (here : ℕ → X) (behind : ℕ → List Y) → (n : ℕ) → R → Type 0
  ThereAt tree here behind n r = IsThere n (kind tree n) (behind n) (here n) r

  abbrev pub NodeAt : Tree → (here : ℕ → X) (behind : ℕ → List Y) → (n : ℕ) → Type 0
  NodeAt tree here behind n = NodeIs n (kind tree n) (behind n) (here n)

  pub record Inv (tree : Tree) (has : ℕ → Option R) (here : ℕ → X) (behind : ℕ → List Y) : Type 0 where
    pub sound : IsSound p tree
    pub chain : (m : ℕ) → m ≢ 0 → tree.nodes m ≢ None → behind m ≡ left (here (parent tree m)) ∷ behind (parent tree m)
    pub node : (n : ℕ) → NodeAt tree here behind n
    pub there : (h : ℕ) (r : R) → h < p → has h ≡ Some r → ThereAt tree here behind (tree.places h) r

  pub inv_same : (tree : Tree) (has now : ℕ → Option R) (here : ℕ → X) (behind : ℕ → List Y) → ((h : ℕ) → h < p → now h ≡ has h)
      → Inv tree has here behind → Inv tree now here behind
  inv_same tree has now here behind same inv =
      record { sound = inv.sound; chain = inv.chain; node = inv.node; there = λ h r lt e. inv.there h r lt (sym (same h lt) ∙ e) }

  node_of_is : (n : ℕ) (ms : List ℕ) (q : ℕ) (k : Kind) (b : List Y) (x : X) → k ≡ Lockstep → Grouped b x → NodeIs n (kind_of (node_of ms q k)) b x
  node_of_is n [] q k b x e g = tt
  node_of_is n (m ∷ ms) q k b x e g = subst (λ (k' : Kind). NodeIs n (Some k') b x) (sym e) g

  there_in : (n : ℕ) (ms : List ℕ) (q : ℕ) (k : Kind) (b : List Y) (x : X) (r : R) → k ≡ Lockstep → Is x r → IsThere n (kind_of (node_of ms q k)) b x r
  there_in n [] q k b x r e g = g
  there_in n (m ∷ ms) q k b x r e g = subst (λ (k' : Kind). IsThere n (Some k') b x r) (sym e) g

  left_is : (n : ℕ) (stays : ℕ → Bool) (o : Option Node) (b : List Y) (x : X) → kind_of o ≡ Some Lockstep → Grouped b x → NodeIs n (kind_of (left_by stays o)) b x
  left_is n stays None b x e g = tt
  left_is n stays (Some a) b x e g = node_of_is n (filter stays a.members) a.parent a.kind b x (cc) g

  there_left : (n : ℕ) (stays : ℕ → Bool) (o : Option Node) (b : List Y) (x : X) (r : R) → kind_of o ≡ Some Lockstep → Is x r → IsThere n (kind_of (left_by stays o)) b x r
  there_left n stays None b x r e g = g
  there_left n stays (Some a) b x r e g = there_in n (filter stays a.members) a.parent a.kind b x r (cc) g

  there_waiting : (n : ℕ) (o : Option Kind) (m : ℕ) (b : List Y) (x : X) (r : R) → awaits o m ≡ true → Is x r → IsThere n o b x r
  there_waiting n None m b x r e g = g
  there_waiting n (Some Lockstep) m b x r e g = g
  there_waiting n (Some (Waiting first k)) m b x r e g = g
  there_waiting n (Some (Asynchronous alone)) m b x r e g = absurd (false≢true e)

  module _ (tree : Tree) (has : ℕ → Option R) (here : ℕ → X) (behind : ℕ → List Y) (inv : Inv tree has here behind) where
    -- all members of a node without parts are there
    pub leaf_place : (n : ℕ) → IsLeaf tree n → (h : ℕ) → Has tree n h → tree.places h ≡ n
    leaf_place n leaf h has' =
        sym (inv.sound.only h n (record { member = has'; own = λ m ne up has''. leaf m ne (has_some tree m h has'') up }))

    at_place : (h n : ℕ) → h < p → tree.places h ≡ n → Has tree n h
    at_place h n lt e = subst (λ (q : ℕ). Has tree q h) e (inv.sound.placed h lt).member

    alive : (h : ℕ) → h < p → tree.nodes (tree.places h) ≢ None
    alive h lt = has_some tree (tree.places h) h (inv.sound.placed h lt).member

    elsewhere : (n h : ℕ) → IsLeaf tree n → tree.places h ≢ n → is_member h (members tree n) ≡ false
    elsewhere n h leaf ne = ⊎_elim (λ is. absurd (ne (leaf_place n leaf h is))) (λ isnt. isnt) (cases_Bool (is_member h (members tree n)))

    away_from : (n h : ℕ) → h < p → is_member h (members tree n) ≡ false → tree.places h ≢ n
    away_from n h lt out e = impossible (is_member h (members tree n)) (at_place h n lt e) out

    -- a node without parts gets another kind
    module _ (n : ℕ) (k : Kind) (new : X) (now : ℕ → Option R)
        (leaf : IsLeaf tree n) (idle : IsIdle k) (free : n ≡ 0 → k ≢ Lockstep) (some : tree.nodes n ≢ None)
        (fits : NodeIs n (Some k) (behind n) new)
        (inside : (h : ℕ) (r : R) → Has tree n h → now h ≡ Some r → IsThere n (Some k) (behind n) new r)
        (others : (h : ℕ) → h < p → is_member h (members tree n) ≡ false → now h ≡ has h) where
      abbrev turned : Tree
      turned = with_kind n k tree

      abbrev pub turned_here : ℕ → X
      turned_here i = if i == n then new else here i

      turned_same : (i : ℕ) → i ≡ n → turned_here i ≡ new
      turned_same i e = cond-true (i == n) new (here i) (eq-eqb i n e)

      turned_other : (i : ℕ) → i ≢ n → turned_here i ≡ here i
      turned_other i ne = cond-false (i == n) new (here i) (ne_eqb i n ne)

      turned_node : (i : ℕ) → NodeAt turned turned_here behind i
      turned_node i =
          ⊎_elim
          (λ e. subst (NodeAt turned turned_here behind) (sym e)
          (subst₂ (λ (o : Option Kind) (x : X). NodeIs n o (behind n) x) (sym (kind_same n k tree some)) (sym (turned_same n refl)) fits))
          (λ ne. subst₂ (λ (o : Option Kind) (x : X). NodeIs i o (behind i) x) (sym (kind_other n k tree i ne)) (sym (turned_other i ne)) (inv.node i))
          (cases_eq i n)

      turned_there : (h : ℕ) (r : R) → h < p → now h ≡ Some r → ThereAt turned turned_here behind (tree.places h) r
      turned_there h r lt e =
          ⊎_elim
          (λ same. subst (λ (q : ℕ). ThereAt turned turned_here behind q r) (sym same)
          (subst₂ (λ (o : Option Kind) (x : X). IsThere n o (behind n) x r) (sym (kind_same n k tree some)) (sym (turned_same n refl))
          (inside h r (at_place h n lt same) e)))
          (λ ne.
          let q = tree.places h in
          subst₂ (λ (o : Option Kind) (x : X). IsThere q o (behind q) x r) (sym (kind_other n k tree q ne)) (sym (turned_other q ne))
          (inv.there h r lt (sym (others h lt (elsewhere n h leaf ne)) ∙ e)))
          (cases_eq (tree.places h) n)

      turned_chain : (m : ℕ) → m ≢ 0 → turned.nodes m ≢ None → behind m ≡ left (turned_here (parent turned m)) ∷ behind (parent turned m)
      turned_chain m ne is =
          let was = kind_some n k tree m is in
          let up = parent tree m in
          subst (λ (q : ℕ). behind m ≡ left (turned_here q) ∷ behind q) (sym (kind_parent n k tree m))
          (inv.chain m ne was ∙ ap (λ (x : X). left x ∷ behind up) (sym (turned_other up (leaf m ne was))))

      pub turned_inv : Inv turned now turned_here behind
      turned_inv = record {
        sound = kind_sound p n k tree inv.sound leaf idle.awaits_none free;
        chain = turned_chain;
        node = turned_node;
        there = turned_there;
      }

    -- some of the members of a part leave it
    module _ (n : ℕ) (stays : ℕ → Bool) (can : CanShrink n tree) (new : X) (now : ℕ → Option R)
        (locked : kind tree n ≡ Some Lockstep) (fits : Grouped (behind n) new)
        (stayers : (h : ℕ) (r : R) → Has tree n h → stays h ≡ true → now h ≡ Some r → Is new r)
        (leavers : (h : ℕ) (r : R) → Has tree n h → stays h ≡ false → now h ≡ Some r → Is (here (parent tree n)) r)
        (others : (h : ℕ) → h < p → is_member h (members tree n) ≡ false → now h ≡ has h) where
      abbrev shrunk : Tree
      shrunk = shrink n stays tree

      abbrev pub shrunk_here : ℕ → X
      shrunk_here i = if i == n then new else here i

      shrunk_same : (i : ℕ) → i ≡ n → shrunk_here i ≡ new
      shrunk_same i e = cond-true (i == n) new (here i) (eq-eqb i n e)

      shrunk_other : (i : ℕ) → i ≢ n → shrunk_here i ≡ here i
      shrunk_other i ne = cond-false (i == n) new (here i) (ne_eqb i n ne)

      shrunk_node : (i : ℕ) → NodeAt shrunk shrunk_here behind i
      shrunk_node i =
          ⊎_elim
          (λ e. subst (NodeAt shrunk shrunk_here behind) (sym e)
          (subst₂ (λ (o : Option Node) (x : X). NodeIs n (kind_of o) (behind n) x) (sym (n_nodes n stays tree)) (sym (shrunk_same n refl))
          (left_is n stays (tree.nodes n) (behind n) new locked fits)))
          (λ ne. subst₂ (λ (o : Option Node) (x : X). NodeIs i (kind_of o) (behind i) x) (sym (other_nodes n stays tree i ne)) (sym (shrunk_other i ne)) (inv.node i))
          (cases_eq i n)

      abbrev up : ℕ
      up = parent tree n

      up_other : up ≢ n
      up_other e = can.leaf n can.lower can.there e

      there_along : (h q : ℕ) (r : R) → shrunk.places h ≡ q → ThereAt shrunk shrunk_here behind q r → ThereAt shrunk shrunk_here behind (shrunk.places h) r
      there_along h q r e t = subst (λ (i : ℕ). ThereAt shrunk shrunk_here behind i r) (sym e) t

      there_other : (q : ℕ) (r : R) → q ≢ n → ThereAt tree here behind q r → ThereAt shrunk shrunk_here behind q r
      there_other q r ne t =
          subst₂ (λ (o : Option Node) (x : X). IsThere q (kind_of o) (behind q) x r) (sym (other_nodes n stays tree q ne)) (sym (shrunk_other q ne)) t

      shrunk_there : (h : ℕ) (r : R) → h < p → now h ≡ Some r → ThereAt shrunk shrunk_here behind (shrunk.places h) r
      shrunk_there h r lt e =
          ⊎_elim
          (λ is. ⊎_elim
          (λ stay. there_along h n r (still n stays tree h stay ∙ leaf_place n can.leaf h is)
          (subst₂ (λ (o : Option Node) (x : X). IsThere n (kind_of o) (behind n) x r) (sym (n_nodes n stays tree)) (sym (shrunk_same n refl))
          (there_left n stays (tree.nodes n) (behind n) new r locked (stayers h r is stay e))))
          (λ stay. there_along h up r (gone n stays tree h is stay)
          (there_other up r up_other
          (there_waiting up (kind tree up) n (behind up) (here up) r (inv.sound.awaited n can.lower can.there) (leavers h r is stay e))))
          (cases_Bool (stays h)))
          (λ out. there_along h (tree.places h) r (away n stays tree h out)
          (there_other (tree.places h) r (away_from n h lt out) (inv.there h r lt (sym (others h lt out) ∙ e))))
          (cases_Bool (is_member h (members tree n)))

      shrunk_chain : (m : ℕ) → m ≢ 0 → shrunk.nodes m ≢ None → behind m ≡ left (shrunk_here (parent shrunk m)) ∷ behind (parent shrunk m)
      shrunk_chain m ne is =
          ⊎_elim
          (λ e.
          let is' : shrunk.nodes n ≢ None = subst (λ (i : ℕ). shrunk.nodes i ≢ None) e is in
          let same : parent shrunk n ≡ up = smaller_parent n stays tree is' in
          subst (λ (i : ℕ). behind i ≡ left (shrunk_here (parent shrunk i)) ∷ behind (parent shrunk i)) (sym e)
          (subst (λ (q : ℕ). behind n ≡ left (shrunk_here q) ∷ behind q) (sym same)
          (inv.chain n can.lower can.there ∙ ap (λ (x : X). left x ∷ behind up) (sym (shrunk_other up up_other)))))
          (λ other.
          let was : tree.nodes m ≢ None = λ none. is (other_nodes n stays tree m other ∙ none) in
          let same : parent shrunk m ≡ parent tree m = ap parent_of (other_nodes n stays tree m other) in
          let q' = parent tree m in
          subst (λ (q : ℕ). behind m ≡ left (shrunk_here q) ∷ behind q) (sym same)
          (inv.chain m ne was ∙ ap (λ (x : X). left x ∷ behind q') (sym (shrunk_other q' (λ e. can.leaf m ne was e)))))
          (cases_eq m n)

      pub shrunk_inv : Inv shrunk now shrunk_here behind
      shrunk_inv = record {
        sound = shrink_sound p n stays tree inv.sound can;
        chain = shrunk_chain;
        node = shrunk_node;
        there = shrunk_there;
      }

    -- a node is parted
    module _ (n k : ℕ) (part : ℕ → Option ℕ) (can : CanSplit n k part tree) (waiter : X) (further : List Y) (inside : ℕ → X) (now : ℕ → Option R)
        (keeps : n ≢ 0 → further ≡ behind n)
        (waits : Parted n further waiter)
        (parts_in : (j : ℕ) → Grouped (left waiter ∷ further) (inside j))
        (enters : (h j : ℕ) (r : R) → Has tree n h → part h ≡ Some j → now h ≡ Some r → Is (inside j) r)
        (stay : (h : ℕ) (r : R) → Has tree n h → part h ≡ None → now h ≡ Some r → Is waiter r)
        (others : (h : ℕ) → h < p → is_member h (members tree n) ≡ false → now h ≡ has h) where
      abbrev parted : Tree
      parted = split n k part tree

      abbrev is_new : ℕ → Bool
      is_new i = is_from tree.given k i

      abbrev pub parted_here : ℕ → X
      parted_here i = if is_new i then inside (i - tree.given) else if i == n then waiter else here i

      abbrev pub parted_behind : ℕ → List Y
      parted_behind i = if is_new i then left waiter ∷ further else if i == n then further else behind i

      abbrev group : ℕ → List ℕ
      group i = filter (λ h. is_in (i - tree.given) (part h)) (members tree n)

      n_given : n < tree.given
      n_given = some-given p tree inv.sound n can.there

      given_old : (i : ℕ) → tree.nodes i ≢ None → is_new i ≡ false
      given_old i some = from_below tree.given k i (some-given p tree inv.sound i some)

      n_old : is_new n ≡ false
      n_old = given_old n can.there

      here_new : (i : ℕ) → is_new i ≡ true → parted_here i ≡ inside (i - tree.given)
      here_new i e = cond-true (is_new i) (inside (i - tree.given)) (if i == n then waiter else here i) e

      behind_new : (i : ℕ) → is_new i ≡ true → parted_behind i ≡ left waiter ∷ further
      behind_new i e = cond-true (is_new i) (left waiter ∷ further) (if i == n then further else behind i) e

      here_n : parted_here n ≡ waiter
      here_n = cond-false (is_new n) (inside (n - tree.given)) (if n == n then waiter else here n) n_old ∙ cond-true (n == n) waiter (here n) (eq-eqb n n refl)

      behind_n : parted_behind n ≡ further
      behind_n = cond-false (is_new n) (left waiter ∷ further) (if n == n then further else behind n) n_old ∙ cond-true (n == n) further (behind n) (eq-eqb n n refl)

      here_old : (i : ℕ) → is_new i ≡ false → i ≢ n → parted_here i ≡ here i
      here_old i e ne = cond-false (is_new i) (inside (i - tree.given)) (if i == n then waiter else here i) e ∙ cond-false (i == n) waiter (here i) (ne_eqb i n ne)

      behind_old : (i : ℕ) → is_new i ≡ false → i ≢ n → parted_behind i ≡ behind i
      behind_old i e ne = cond-false (is_new i) (left waiter ∷ further) (if i == n then further else behind i) e ∙ cond-false (i == n) further (behind i) (ne_eqb i n ne)

      kind_n : kind parted n ≡ Some (Waiting tree.given k)
      kind_n = ap kind_of (old_nodes n k part tree n n_old) ∙ kind_same n (Waiting tree.given k) tree can.there

      kind_old : (i : ℕ) → is_new i ≡ false → i ≢ n → kind parted i ≡ kind tree i
      kind_old i e ne = ap kind_of (old_nodes n k part tree i e) ∙ kind_other n (Waiting tree.given k) tree i ne

      node_new : (i : ℕ) → is_new i ≡ true → NodeAt parted parted_here parted_behind i
      node_new i e =
          subst (λ (o : Option Node). NodeIs i (kind_of o) (parted_behind i) (parted_here i)) (sym (new_nodes n k part tree i e))
          (subst₂ (λ (b : List Y) (x : X). NodeIs i (kind_of (node_of (group i) n Lockstep)) b x) (sym (behind_new i e)) (sym (here_new i e))
          (node_of_is i (group i) n Lockstep (left waiter ∷ further) (inside (i - tree.given)) refl (parts_in (i - tree.given))))

      node_n : NodeAt parted parted_here parted_behind n
      node_n =
          subst (λ (o : Option Kind). NodeIs n o (parted_behind n) (parted_here n)) (sym kind_n)
          (subst₂ (λ (b : List Y) (x : X). Parted n b x) (sym behind_n) (sym here_n) waits)

      node_old : (i : ℕ) → is_new i ≡ false → i ≢ n → NodeAt parted parted_here parted_behind i
      node_old i e ne =
          subst (λ (o : Option Kind). NodeIs i o (parted_behind i) (parted_here i)) (sym (kind_old i e ne))
          (subst₂ (λ (b : List Y) (x : X). NodeIs i (kind tree i) b x) (sym (behind_old i e ne)) (sym (here_old i e ne)) (inv.node i))

      parted_node : (i : ℕ) → NodeAt parted parted_here parted_behind i
      parted_node i =
          ⊎_elim
          (λ e. node_new i e)
          (λ e. ⊎_elim (λ same. subst (NodeAt parted parted_here parted_behind) (sym same) node_n) (λ ne. node_old i e ne) (cases_eq i n))
          (cases_Bool (is_new i))

      there_moved : (h q : ℕ) (r : R) → parted.places h ≡ q → ThereAt parted parted_here parted_behind q r → ThereAt parted parted_here parted_behind (parted.places h) r
      there_moved h q r e t = subst (λ (i : ℕ). ThereAt parted parted_here parted_behind i r) (sym e) t

      there_new : (j : ℕ) (r : R) → j < k → Is (inside j) r → ThereAt parted parted_here parted_behind (tree.given + j) r
      there_new j r lt is =
          let i = tree.given + j in
          let new : is_new i ≡ true = from_within tree.given k i (omega arith) (omega arith) in
          let same : i - tree.given ≡ j = omega arith in
          subst (λ (o : Option Node). IsThere i (kind_of o) (parted_behind i) (parted_here i) r) (sym (new_nodes n k part tree i new))
          (there_in i (group i) n Lockstep (parted_behind i) (parted_here i) r refl
          (subst (λ (x : X). Is x r) (sym (here_new i new ∙ ap inside same)) is))

      there_n : (r : R) → Is waiter r → ThereAt parted parted_here parted_behind n r
      there_n r is =
          subst (λ (o : Option Kind). IsThere n o (parted_behind n) (parted_here n) r) (sym kind_n)
          (subst (λ (x : X). Is x r) (sym here_n) is)

      there_old : (q : ℕ) (r : R) → is_new q ≡ false → q ≢ n → ThereAt tree here behind q r → ThereAt parted parted_here parted_behind q r
      there_old q r e ne t =
          subst (λ (o : Option Kind). IsThere q o (parted_behind q) (parted_here q) r) (sym (kind_old q e ne))
          (subst₂ (λ (b : List Y) (x : X). IsThere q (kind tree q) b x r) (sym (behind_old q e ne)) (sym (here_old q e ne)) t)

      parted_there : (h : ℕ) (r : R) → h < p → now h ≡ Some r → ThereAt parted parted_here parted_behind (parted.places h) r
      parted_there h r lt e =
          ⊎_elim
          (λ is. ⊎_elim
          (λ out. there_moved h n r (split_places n k part tree h is ∙ ap (place_in (tree.places h) tree.given) out ∙ leaf_place n can.leaf h is) (there_n r (stay h r is out e)))
          (λ into.
          let j = into.0 in
          there_moved h (tree.given + j) r (split_places n k part tree h is ∙ ap (place_in (tree.places h) tree.given) into.1) (there_new j r (can.few h j into.1) (enters h j r is into.1 e)))
          (cases_part (part h)))
          (λ out. there_moved h (tree.places h) r (split_away n k part tree h out)
          (there_old (tree.places h) r (given_old (tree.places h) (alive h lt)) (away_from n h lt out) (inv.there h r lt (sym (others h lt out) ∙ e))))
          (cases_Bool (is_member h (members tree n)))

      abbrev Chained : ℕ → ℕ → Type 0
      Chained m q = parted_behind m ≡ left (parted_here q) ∷ parted_behind q

      chain_new : (m : ℕ) → is_new m ≡ true → Chained m n
      chain_new m e = behind_new m e ∙ ap₂ (λ (x : X) (b : List Y). left x ∷ b) (sym here_n) (sym behind_n)

      chain_old : (m : ℕ) → is_new m ≡ false → m ≢ 0 → tree.nodes m ≢ None → Chained m (parent tree m)
      chain_old m e ne some =
          let q = parent tree m in
          let q_some : tree.nodes q ≢ None = awaits-some tree q m (inv.sound.awaited m ne some) in
          let q_other : q ≢ n = can.leaf m ne some in
          let q_new = given_old q q_some in
          let first : parted_behind m ≡ behind m =
          ⊎_elim
          (λ same. subst (λ (i : ℕ). parted_behind i ≡ behind i) (sym same) (behind_n ∙ keeps (λ zero. ne (same ∙ zero))))
          (λ other. behind_old m e other)
          (cases_eq m n) in
          first ∙ inv.chain m ne some ∙ ap₂ (λ (x : X) (b : List Y). left x ∷ b) (sym (here_old q q_new q_other)) (sym (behind_old q q_new q_other))

      parted_chain : (m : ℕ) → m ≢ 0 → parted.nodes m ≢ None → Chained m (parent parted m)
      parted_chain m ne is =
          ⊎_elim
          (λ e.
          let up : parent parted m ≡ n = new_parent n k part tree m e is in
          subst (Chained m) (sym up) (chain_new m e))
          (λ e.
          let was : tree.nodes m ≢ None = λ none. is (old_nodes n k part tree m e ∙ kind_none n (Waiting tree.given k) tree m none) in
          let up : parent parted m ≡ parent tree m = ap parent_of (old_nodes n k part tree m e) ∙ kind_parent n (Waiting tree.given k) tree m in
          subst (Chained m) (sym up) (chain_old m e ne was))
          (cases_Bool (is_new m))

      pub parted_inv : Inv parted now parted_here parted_behind
      parted_inv = record {
        sound = split_sound p n k part tree inv.sound can;
        chain = parted_chain;
        node = parted_node;
        there = parted_there;
      }
