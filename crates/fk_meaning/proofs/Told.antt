-- A list tells of each member what is known of it.
use Rattle.std.proofs.Common.{◌≡◌, ℕ, ◌+◌, ◌-◌, Bool, true, false, List, [], ◌∷◌, map, filter, cond, Option, Some, None, ◌⊎◌, ap, ap₂, ◌∙◌, sym, refl, arith, inl, inr, ⊎_elim}
use Rattle.std.specs.Prelude.{◌==◌, ◌&&◌, not, nat_lt, if◌then◌else◌}
use Rattle.std.proofs.Math.Path.{fun_ext}
use Rattle.std.proofs.lemmas.Bool.{cases_Bool, cond-true, cond-false, eqb-true, eq-eqb, le-ltb, or_cases, or_left, or_right, false≢true}
use Rattle.fk_tree.specs.declared.node.Kind.TheVariants.{Lockstep, Waiting}
use Rattle.fk_tree.specs.Tree.{Node, Tree, members_of, members, parent, is_member, is_in, is_from, place_in, node_of, with_node, with_kind, left_by, split, shrink, told, part_of, parts_by, stays_by}
use Rattle.fk_meaning.specs.Told.{number_of, ListsTellMembers}

filter_same : (p q : ℕ → Bool) (ms : List ℕ) → ((h : ℕ) → is_member h ms ≡ true → p h ≡ q h) → filter p ms ≡ filter q ms
filter_same p q [] same = refl
filter_same p q (m ∷ ms) same =
    ap₂ (λ b more. cond b (m ∷ more) more)
    (same m (or_left (m == m) (is_member m ms) (eq-eqb m m refl)))
    (filter_same p q ms (λ h is. same h (or_right (h == m) (is_member h ms) is)))

told_is : {A : Type 0} (other : A) (f : ℕ → A) (ms : List ℕ) (h : ℕ) → is_member h ms ≡ true → told other ms (map f ms) h ≡ f h
told_is other f [] h is = absurd (false≢true is)
told_is other f (m ∷ ms) h is =
    ⊎_elim
    (λ here. cond-true (h == m) (f m) (told other ms (map f ms) h) here ∙ ap f (sym (eqb-true h m here)))
    (λ other_one. cond-false (h == m) (f m) (told other ms (map f ms) h) other_one ∙ told_is other f ms h (rest other_one (or_cases (h == m) (is_member h ms) is)))
    (cases_Bool (h == m))
  where
    rest : (h == m) ≡ false → ((h == m) ≡ true) ⊎ (is_member h ms ≡ true) → is_member h ms ≡ true
    rest isnt (inl it_is) = absurd (false≢true (sym isnt ∙ it_is))
    rest isnt (inr is') = is'

-- a split
placed_same : (b : Bool) (part part' : Option ℕ) (old first : ℕ) → (b ≡ true → part ≡ part')
    → (if b then place_in old first part else old) ≡ (if b then place_in old first part' else old)
placed_same true part part' old first same = ap (place_in old first) (same refl)
placed_same false part part' old first same = refl

split_same : (n k : ℕ) (part part' : ℕ → Option ℕ) (tree : Tree) → ((h : ℕ) → is_member h (members tree n) ≡ true → part h ≡ part' h)
    → split n k part tree ≡ split n k part' tree
split_same n k part part' tree same =
    ap₂ (λ nodes places. let t : Tree = record { nodes = nodes; given = tree.given + k; places = places } in t)
    (fun_ext (λ i. ap (λ ms. if is_from tree.given k i then node_of ms n Lockstep else (with_kind n (Waiting tree.given k) tree).nodes i)
    (filter_same (λ h. is_in (i - tree.given) (part h)) (λ h. is_in (i - tree.given) (part' h)) (members tree n) (λ h is. ap (is_in (i - tree.given)) (same h is)))))
    (fun_ext (λ h. placed_same (is_member h (members tree n)) (part h) (part' h) (tree.places h) tree.given (same h)))

part_told : (k : ℕ) (part : Option ℕ) → ((i : ℕ) → part ≡ Some i → nat_lt i k ≡ true) → part_of k (number_of k part) ≡ part
part_told k None small = cond-false (nat_lt k k) (Some k) None (le-ltb k k (omega arith))
part_told k (Some i) small = cond-true (nat_lt i k) (Some i) None (small i refl)

-- a shrink
left_same : (stays stays' : ℕ → Bool) (node : Option Node) → ((h : ℕ) → is_member h (members_of node) ≡ true → stays h ≡ stays' h)
    → left_by stays node ≡ left_by stays' node
left_same stays stays' None same = refl
left_same stays stays' (Some node) same = ap (λ ms. node_of ms node.parent node.kind) (filter_same stays stays' node.members same)

gone_same : (b stays stays' : Bool) (above here : ℕ) → (b ≡ true → stays ≡ stays') → (if b && not stays then above else here) ≡ (if b && not stays' then above else here)
gone_same true stays stays' above here same = ap (λ s. if not s then above else here) (same refl)
gone_same false stays stays' above here same = refl

shrink_same : (n : ℕ) (stays stays' : ℕ → Bool) (tree : Tree) → ((h : ℕ) → is_member h (members tree n) ≡ true → stays h ≡ stays' h)
    → shrink n stays tree ≡ shrink n stays' tree
shrink_same n stays stays' tree same =
    ap₂ (λ nodes places. let t : Tree = record { nodes = nodes; given = tree.given; places = places } in t)
    (ap (λ node. with_node n node tree.nodes) (left_same stays stays' (tree.nodes n) same))
    (fun_ext (λ h. gone_same (is_member h (members tree n)) (stays h) (stays' h) (parent tree n) (tree.places h) (same h)))

pub lists_tell_members : ListsTellMembers
lists_tell_members n tree = record {
  parts = λ k part small.
      split_same n k (parts_by k (members tree n) (map (λ h. number_of k (part h)) (members tree n))) part tree
      (λ h is. ap (part_of k) (told_is k (λ g. number_of k (part g)) (members tree n) h is) ∙ part_told k (part h) (λ i e. small h i is e));
  stays = λ stays.
      shrink_same n (stays_by (members tree n) (map stays (members tree n))) stays tree
      (λ h is. told_is false stays (members tree n) h is);
}
