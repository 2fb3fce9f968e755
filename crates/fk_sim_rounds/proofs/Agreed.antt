-- What a group agrees on is the last value of the highest of those who stand in its node.
use Rattle.std.proofs.Common.{◌≡◌, ℕ, zero, suc, ◌+◌, ◌<◌, ◌≤◌, ◌==◌, List, [], ◌∷◌, length, Some, true, false, sym, ap, subst, ◌∙◌, refl, arith, ⊎_elim}
use Rattle.std.specs.Prelude.{map, slice_get, nat_lt}
use Rattle.std.proofs.lemmas.Bool.{and_parts, or_cases, or_left, or_right, eq-eqb, eqb-true, false≢true, ltb-true}
use Rattle.fk_tree.specs.declared.node.Kind.TheVariants.{Lockstep}
use Rattle.fk_tree.specs.Tree as trees
use Rattle.fk_tree.specs.Tree.{Tree, is_member}
use Rattle.fk_tree.specs.Sound.{Has, is_below_all, is_ascending, IsSound}
use Rattle.fk_meaning.specs.Processor.{values, last}
use Rattle.fk_meaning.specs.Round.{highest, who, agreed}
use Rattle.fk_sim_nodes.specs.Node.{of_node}
use Rattle.fk_sim_nodes.specs.OnePlace.{last_or}
use Rattle.fk_sim_block.specs.Owner.{Doing}
use Rattle.fk_sim_match.proofs.Rounds.{leaf_place}
use Rattle.fk_sim_rounds.specs.After.{actings, ArePlaces}
use Rattle.fk_sim_rounds.proofs.Lists.{last_of}

-- ---- the highest of numbers that go up

highest_there : (h : ℕ) (hs : List ℕ) → is_member (highest (h ∷ hs)) (h ∷ hs) ≡ true
highest_there h [] = or_left (h == h) false (eq-eqb h h refl)
highest_there h (k ∷ hs) = or_right (highest (k ∷ hs) == h) (is_member (highest (k ∷ hs)) (k ∷ hs)) (highest_there k hs)

below_member : (h m : ℕ) (hs : List ℕ) → is_below_all h hs ≡ true → is_member m hs ≡ true → h < m
below_member h m [] below is = absurd (false≢true is)
below_member h m (k ∷ hs) below is =
    let parts = and_parts (nat_lt h k) (is_below_all h hs) below in
    ⊎_elim (λ e. let same = eqb-true m k e in let lt = ltb-true h k parts.0 in omega (arith, same, lt)) (λ rest. below_member h m hs parts.1 rest) (or_cases (m == k) (is_member m hs) is)

highest_above : (h m : ℕ) (hs : List ℕ) → is_ascending (h ∷ hs) ≡ true → is_member m (h ∷ hs) ≡ true → m ≤ highest (h ∷ hs)
highest_above h m [] up is = ⊎_elim (λ e. let same = eqb-true m h e in omega (arith, same)) (λ no. absurd (false≢true no)) (or_cases (m == h) false is)
highest_above h m (k ∷ hs) up is =
    let parts = and_parts (is_below_all h (k ∷ hs)) (is_ascending (k ∷ hs)) up in
    ⊎_elim
    (λ e.
    let same = eqb-true m h e in
    let lt = below_member h (highest (k ∷ hs)) (k ∷ hs) parts.0 (highest_there k hs) in
    omega (arith, same, lt))
    (λ rest. highest_above k m hs parts.1 rest) (or_cases (m == h) (is_member m (k ∷ hs)) is)

-- ---- places

pub place_at : (tree : Tree) (number h : ℕ) (ns : List ℕ) → ArePlaces tree number ns → h < length ns → slice_get ns h ≡ Some (tree.places (number + h))
place_at tree number h [] places lt = absurd (omega (arith, lt))
place_at tree number zero (n ∷ ns) places lt = let e : number ≡ number + 0 = omega arith in ap (λ k. Some k) places.0 ∙ ap (λ k. Some (tree.places k)) e
place_at tree number (suc h) (n ∷ ns) places lt =
    let e : suc number + h ≡ number + suc h = omega arith in place_at tree (suc number) h ns places.1 (omega (arith, lt)) ∙ ap (λ k. Some (tree.places k)) e

pub record Elem {A : Type 0} (xs : List A) (h : ℕ) : Type 0 where
  pub is : A
  pub at : slice_get xs h ≡ Some is

pub some_elem : {A : Type 0} (xs : List A) (h : ℕ) → h < length xs → Elem xs h
some_elem [] h lt = absurd (omega (arith, lt))
some_elem (x ∷ xs) zero lt = record { is = x; at = refl }
some_elem (x ∷ xs) (suc h) lt = let r = some_elem xs h (omega (arith, lt)) in record { is = r.is; at = r.at }

pub within : {A : Type 0} (xs : List A) (h : ℕ) (x : A) → slice_get xs h ≡ Some x → h < length xs
within [] h x at = absurd (cc)
within (y ∷ xs) zero x at = omega arith
within (y ∷ xs) (suc h) x at = let r = within xs h x at in omega (arith, r)

who_is : (ds : List Doing) (h : ℕ) (d : Doing) → slice_get ds h ≡ Some d → who (actings ds) h ≡ d.acting.runner.has
who_is [] h d at = absurd (cc)
who_is (x ∷ ds) zero d at = let e : x ≡ d = cc in ap (λ y. y.acting.runner.has) e
who_is (x ∷ ds) (suc h) d at = who_is ds h d at

module _ (p : ℕ) (tree : Tree) (sound : IsSound p tree) (ns : List ℕ) (places : ArePlaces tree 0 ns) (many : length ns ≡ p) where
  -- who stands in a group's node, and who is a member of it
  pub member_stands : (g h : ℕ) → ((m : ℕ) → Has tree g m → tree.places m ≡ g) → Has tree g h → slice_get ns h ≡ Some g
  member_stands g h stand has =
      let lt = sound.within g h has in
      place_at tree 0 h ns places (omega (arith, lt, many)) ∙ ap (λ k. Some k) (ap tree.places (let e : 0 + h ≡ h = omega arith in e) ∙ stand h has)

  pub member_place : (g h : ℕ) → trees.kind tree g ≡ Some Lockstep → Has tree g h → slice_get ns h ≡ Some g
  member_place g h kind has = member_stands g h (λ m is. leaf_place p tree sound g m kind is) has

  pub place_member : (g h : ℕ) → slice_get ns h ≡ Some g → Has tree g h
  place_member g h at =
      let lt = within ns h g at in
      let here = place_at tree 0 h ns places lt in
      let e : 0 + h ≡ h = omega arith in
      let same : tree.places (0 + h) ≡ g = cc in
      let same' : tree.places h ≡ g = ap tree.places (sym e) ∙ same in
      subst (λ k. Has tree k h) same' (sound.placed h (omega (arith, lt, many))).member

  agreed_by : (g : ℕ) (ds : List Doing) (ms : List ℕ) → trees.members tree g ≡ ms → (ms ≡ [] → ⊥) → ((m : ℕ) → Has tree g m → tree.places m ≡ g) → length ds ≡ p
      → agreed (actings ds) ms ≡ last_or 0 (map (λ d. last (values d.acting.runner.has)) (of_node g ns ds))
  agreed_by g ds [] e some stand as_many = absurd (some refl)
  agreed_by g ds (m ∷ ms) e some stand as_many =
      let h = highest (m ∷ ms) in
      let has : Has tree g h = subst (λ l. is_member h l ≡ true) (sym e) (highest_there m ms) in
      let here = member_stands g h stand has in
      let lt = sound.within g h has in
      let d = some_elem ds h (omega (arith, lt, as_many)) in
      let up : is_ascending (m ∷ ms) ≡ true = subst (λ l. is_ascending l ≡ true) e (sound.ascending g) in
      ap (λ q. last (values q)) (who_is ds h d.is d.at)
      ∙ sym (last_of (λ x. last (values x.acting.runner.has)) g ns ds h d.is 0 here d.at
      (λ i above there.
      let le = highest_above m i ms up (subst (λ l. is_member i l ≡ true) e (place_member g i there)) in
      omega (arith, le, above)))

  -- those of a node in which all its members stand
  pub agreed_at : (g : ℕ) (ds : List Doing) → (trees.members tree g ≡ [] → ⊥) → ((m : ℕ) → Has tree g m → tree.places m ≡ g) → length ds ≡ p
      → agreed (actings ds) (trees.members tree g) ≡ last_or 0 (map (λ d. last (values d.acting.runner.has)) (of_node g ns ds))
  agreed_at g ds some stand as_many = agreed_by g ds (trees.members tree g) refl some stand as_many

  pub agreed_is : (g : ℕ) (ds : List Doing) → (trees.members tree g ≡ [] → ⊥) → trees.kind tree g ≡ Some Lockstep → length ds ≡ p
      → agreed (actings ds) (trees.members tree g) ≡ last_or 0 (map (λ d. last (values d.acting.runner.has)) (of_node g ns ds))
  agreed_is g ds some kind as_many = agreed_at g ds some (λ m is. leaf_place p tree sound g m kind is) as_many
