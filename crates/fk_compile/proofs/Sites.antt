-- No two operations of the list of a text have one site.
use Rattle.std.proofs.Common.{◌≡◌, ℕ, zero, suc, ◌+◌, ◌<◌, ◌≤◌, true, List, [], ◌∷◌, length, Option, Some, None, slice_get, sym, ap, subst, ◌∙◌, arith, refl}
use Rattle.std.proofs.lemmas.Bool.{eqb-true}
use Rattle.std.proofs.lemmas.Option.{slice_get_within}
use Rattle.fk_meaning_operation.specs.declared.operation.Operation.{Operation}
use Rattle.fk_meaning_operation.specs.Kinds.{kind_of}
use Rattle.fk_meaning_forms.specs.Ranks.{ranked}
use Rattle.fk_syntax.specs.declared.place.Place.{Place}
use Rattle.fk_core.specs.declared.op.CoreOp.{CoreOp}
use Rattle.fk_core.specs.Numbers.{operation_of}
use Rattle.fk_core.specs.Next.{is_jump}
use Rattle.fk_core_flat.specs.Items.{Item, jump, act, IsItem, Has, acts}
use Rattle.fk_compile.specs.Trees.{SitesAreOwn}

-- the item at an index is an operation with this site
abbrev HasSite : (items : List Item) → (d s : ℕ) → Type 0
HasSite [] d s = ⊥
HasSite (jump target ∷ items) zero s = ⊥
HasSite (act n op target ∷ items) zero s = n ≡ s
HasSite (item ∷ items) (suc d) s = HasSite items d s

head_is : (x y : ℕ × ℕ) (xs ys : List (ℕ × ℕ)) → x ∷ xs ≡ y ∷ ys → x ≡ y
head_is x y xs ys e = cc

tail_is : (x y : ℕ × ℕ) (xs ys : List (ℕ × ℕ)) → x ∷ xs ≡ y ∷ ys → xs ≡ ys
tail_is x y xs ys e = cc

-- sites go up from a first one on, so each is one of these, and none comes twice
not_before : (items : List Item) (first : ℕ) (sites : List (ℕ × Place)) (d s : ℕ) → acts items ≡ ranked first sites → HasSite items d s → first ≤ s
not_before [] first sites d s e h = absurd h
not_before (jump target ∷ items) first sites zero s e h = absurd h
not_before (jump target ∷ items) first sites (suc d) s e h = not_before items first sites d s e h
not_before (act n op target ∷ items) first [] d s e h = absurd (cc)
not_before (act n op target ∷ items) first (site ∷ sites) zero s e h = let same = ap (λ (x : ℕ × ℕ). x.1) (head_is (kind_of op, n) (site.0, first) (acts items) (ranked (suc first) sites) e) in omega (arith, same, h)
not_before (act n op target ∷ items) first (site ∷ sites) (suc d) s e h =
    let rest = tail_is (kind_of op, n) (site.0, first) (acts items) (ranked (suc first) sites) e in
    let more = not_before items (suc first) sites d s rest h in
    omega (arith, more)

one_place : (items : List Item) (first : ℕ) (sites : List (ℕ × Place)) (d g s : ℕ) → acts items ≡ ranked first sites → HasSite items d s → HasSite items g s → d ≡ g
one_place [] first sites d g s e h k = absurd h
one_place (jump target ∷ items) first sites zero g s e h k = absurd h
one_place (jump target ∷ items) first sites (suc d) zero s e h k = absurd k
one_place (jump target ∷ items) first sites (suc d) (suc g) s e h k = ap suc (one_place items first sites d g s e h k)
one_place (act n op target ∷ items) first [] d g s e h k = absurd (cc)
one_place (act n op target ∷ items) first (site ∷ sites) zero zero s e h k = refl
one_place (act n op target ∷ items) first (site ∷ sites) zero (suc g) s e h k =
    let same = ap (λ (x : ℕ × ℕ). x.1) (head_is (kind_of op, n) (site.0, first) (acts items) (ranked (suc first) sites) e) in
    let rest = tail_is (kind_of op, n) (site.0, first) (acts items) (ranked (suc first) sites) e in
    let more = not_before items (suc first) sites g s rest k in
    absurd (let z : ⊥ = omega (arith, same, h, more) in z)
one_place (act n op target ∷ items) first (site ∷ sites) (suc d) zero s e h k =
    let same = ap (λ (x : ℕ × ℕ). x.1) (head_is (kind_of op, n) (site.0, first) (acts items) (ranked (suc first) sites) e) in
    let rest = tail_is (kind_of op, n) (site.0, first) (acts items) (ranked (suc first) sites) e in
    let more = not_before items (suc first) sites d s rest h in
    absurd (let z : ⊥ = omega (arith, same, k, more) in z)
one_place (act n op target ∷ items) first (site ∷ sites) (suc d) (suc g) s e h k =
    let rest = tail_is (kind_of op, n) (site.0, first) (acts items) (ranked (suc first) sites) e in
    ap suc (one_place items (suc first) sites d g s rest h k)

-- ---- of a list that has the items

jump_none : (op : CoreOp) → is_jump op ≡ true → operation_of op.kind op.number ≡ None
jump_none op is = ap (λ k. operation_of k op.number) (eqb-true op.kind 0 is)

none_read : (core : List CoreOp) (op : CoreOp) (operation : Operation) → is_jump op ≡ true → operation_of op.kind op.number ≡ Some operation → ⊥
none_read core op operation jumps read = let e = sym (jump_none op jumps) ∙ read in cc

same_op : (a b : CoreOp) (o : Option CoreOp) → o ≡ Some a → o ≡ Some b → a ≡ b
same_op a b o p q = cc

module _ (core : List CoreOp) (op : CoreOp) (operation : Operation) (is_read : operation_of op.kind op.number ≡ Some operation) where
  of_item : (item : Item) (found : CoreOp) → found ≡ op → IsItem item found → (items : List Item) → HasSite (item ∷ items) 0 op.site
  of_item (jump target) found e is items =
      absurd (none_read core op operation (subst (λ (o : CoreOp). is_jump o ≡ true) e is.0) is_read)
  of_item (act n own target) found e is items = sym is.1 ∙ ap (λ o. o.site) e

  has_site : (items : List Item) (j d : ℕ) → d < length items → Has core j items → slice_get core (j + d) ≡ Some op → HasSite items d op.site
  has_site [] j d lt h at = absurd (let z : ⊥ = omega arith in z)
  has_site (item ∷ items) j zero lt h at =
      let e : j + 0 ≡ j = omega arith in
      of_item item h.0.0 (same_op h.0.0 op (slice_get core j) h.0.1 (subst (λ i. slice_get core i ≡ Some op) e at)) h.0.2 items
  has_site (jump target ∷ items) j (suc d) lt h at =
      let e : j + suc d ≡ suc j + d = omega arith in
      has_site items (suc j) d (omega arith) h.1 (subst (λ i. slice_get core i ≡ Some op) e at)
  has_site (act n own target ∷ items) j (suc d) lt h at =
      let e : j + suc d ≡ suc j + d = omega arith in
      has_site items (suc j) d (omega arith) h.1 (subst (λ i. slice_get core i ≡ Some op) e at)

pub sites_are_own : SitesAreOwn
sites_are_own known core has i j op other x y at there read reads same =
    let near = slice_get_within core i op at in
    let far = slice_get_within core j other there in
    let long = has.are.1 in
    let from_here : i ≡ 0 + i = omega arith in
    let from_there : j ≡ 0 + j = omega arith in
    let here = has_site core op x read has.items 0 i (omega (arith, near, long)) has.are.0 (subst (λ k. slice_get core k ≡ Some op) from_here at) in
    let where_other =
    has_site core other y reads has.items 0 j (omega (arith, far, long)) has.are.0 (subst (λ k. slice_get core k ≡ Some other) from_there there) in
    one_place has.items 0 _ i j op.site has.sites here (subst (HasSite has.items j) (sym same) where_other)
