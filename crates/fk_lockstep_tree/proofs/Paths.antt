-- The levels of a processor, along the nodes above its own.
use Rattle.std.proofs.Common.{◌≡◌, ◌≢◌, ◌⊎◌, inl, inr, ℕ, zero, suc, ◌<◌, Bool, true, false, List, [], ◌∷◌, length, Option, Some, None, refl, sym, ap, ◌∙◌, subst, arith, if◌then◌else◌}
use Rattle.fk_space.specs.Space.{Space}
use Rattle.fk_tree.specs.declared.node.Kind.{Kind}
use Rattle.fk_tree.specs.declared.node.Kind.TheVariants.{Lockstep, Waiting, Asynchronous}
use Rattle.fk_tree.specs.Tree as t
use Rattle.fk_tree.specs.Tree.{Tree, members, parent, kind, is_member}
use Rattle.fk_tree.specs.Sound.{Has, IsSound}
use Rattle.fk_tree.proofs.Shapes.{has_some}
use Rattle.fk_meaning.specs.Processor.{Level, Setting}
use Rattle.fk_meaning.specs.Schedule.{first_level}
use Rattle.fk_meaning.specs.Round.{body_of}
use Rattle.fk_lockstep.proofs.Round.{first_is}
use Rattle.fk_lockstep_tree.specs.Where.{Where, InRoot, Waits, InGroup, InBody, BehindBody}
use Rattle.fk_lockstep_tree.specs.Ranges.{range_of}
use Rattle.fk_lockstep_tree.specs.Placed.{where_in, where_at, IsOfNode, AreLevels}

-- ---- the node and what is above it

module _ (set : Setting) (tree : Tree) (spaces : ℕ → Space) (h n : ℕ) (l : Level) where
  pub at_root : (outer : List Level) → AreLevels set tree spaces h n l outer → length outer ≡ 0 → n ≡ 0
  at_root [] has e = has.0
  at_root (o ∷ outer) has e = absurd (omega (arith, e))

  pub below_root : (outer : List Level) (m : ℕ) → AreLevels set tree spaces h n l outer → length outer ≡ suc m → n ≢ 0
  below_root [] m has e = absurd (omega (arith, e))
  below_root (o ∷ outer) m has e = has.0

  -- over two levels the node above isn't the root
  pub parent_below : (outer : List Level) (m : ℕ) → AreLevels set tree spaces h n l outer → length outer ≡ suc (suc m) → parent tree n ≢ 0
  parent_below [] m has e = absurd (omega (arith, e))
  parent_below (o ∷ []) m has e = absurd (omega (arith, e))
  parent_below (o ∷ o' ∷ outer) m has e = has.2.0

  pub root_outer : (outer : List Level) → AreLevels set tree spaces h n l outer → n ≡ 0 → length outer ≡ 0
  root_outer [] has e = refl
  root_outer (o ∷ outer) has e = absurd (has.0 e)

  pub root_first : (outer : List Level) → AreLevels set tree spaces h n l outer → n ≡ 0 → l ≡ first_level set h
  root_first [] has e = has.1
  root_first (o ∷ outer) has e = absurd (has.0 e)

  pub node_range : (outer : List Level) → AreLevels set tree spaces h n l outer → n ≢ 0 → range_of l.space ≡ spaces n
  node_range [] has ne = absurd (ne has.0)
  node_range (o ∷ outer) has ne = has.1.range

-- ---- the place at a node of a kind

pub at_node : (tree : Tree) (h above n : ℕ) (k : Kind) → tree.places h ≡ n → kind tree n ≡ Some k
    → where_at tree h above ≡ where_in above (Some k) (is_member h (body_of (Some k) (members tree n)))
at_node tree h above n k at e =
    ap (λ (m : ℕ). where_in above (kind tree m) (is_member h (body_of (kind tree m) (members tree m)))) at
    ∙ ap (λ (x : Option Kind). where_in above x (is_member h (body_of x (members tree n)))) e

pub waiting_place : (above first parts : ℕ) (runs : Bool) → where_in above (Some (Waiting first parts)) runs ≡ Some (Waits above)
waiting_place zero first parts runs = refl
waiting_place (suc n) first parts runs = refl

-- a member of a group in lockstep
pub record InLockstep (above : ℕ) (place : Where) : Type 0 where
  pub depth : ℕ
  pub above_is : above ≡ suc depth
  pub is : place ≡ InGroup depth

pub lockstep_place : (above : ℕ) (runs : Bool) (place : Where) → where_in above (Some Lockstep) runs ≡ Some place → InLockstep above place
lockstep_place zero runs place e = absurd (cc)
lockstep_place (suc n) runs place e = record { depth = n; above_is = refl; is = first_is place (InGroup n) (sym e) }

-- one in the root, and one at a node with a body
pub record IsAlone (above : ℕ) (alone : Bool) (place : Where) : Type 0 where
  pub above_is : above ≡ 0
  pub free : alone ≡ false
  pub is : place ≡ InRoot

pub record HasBodyThere (above : ℕ) (place : Where) : Type 0 where
  pub depth : ℕ
  pub above_is : above ≡ suc depth
  pub is : (place ≡ InBody depth) ⊎ (place ≡ BehindBody depth)

pub body_place : (above : ℕ) (alone runs : Bool) (place : Where) → where_in above (Some (Asynchronous alone)) runs ≡ Some place → IsAlone above alone place ⊎ HasBodyThere above place
body_place zero false runs place e = inl (record { above_is = refl; free = refl; is = first_is place InRoot (sym e) })
body_place zero true runs place e = absurd (cc)
body_place (suc n) alone true place e = inr (record { depth = n; above_is = refl; is = inl (first_is place (InBody n) (sym e)) })
body_place (suc n) alone false place e = inr (record { depth = n; above_is = refl; is = inr (first_is place (BehindBody n) (sym e)) })

-- who runs a body, and who waits behind it
pub in_body : (n : ℕ) (alone runs : Bool) → where_in (suc n) (Some (Asynchronous alone)) runs ≡ Some (if runs then InBody n else BehindBody n)
in_body n alone true = refl
in_body n alone false = refl

-- ---- in another tree

-- where the nodes of a processor are as before, so are its levels
module _ (set : Setting) (old new : Tree) (spaces spaces' : ℕ → Space) (p : ℕ) (sound : IsSound p old)
    (upward : (n : ℕ) → n ≢ 0 → old.nodes n ≢ None → parent old n < n) (h : ℕ) where
  -- below a number
  abbrev pub SameBelow : (bound : ℕ) → Type 0
  SameBelow bound = (m : ℕ) → m < bound → Has old m h → (new.nodes m ≡ old.nodes m) × (spaces' m ≡ spaces m)

  pub along : (bound : ℕ) → SameBelow bound → (n : ℕ) (l : Level) (outer : List Level) → n < bound → Has old n h → AreLevels set old spaces h n l outer → AreLevels set new spaces' h n l outer
  along bound same n l [] lt has levels = levels
  along bound same n l (o ∷ outer) lt has levels =
      let ne = levels.0 in
      let at = levels.1 in
      let both = same n lt has in
      let up = upward n ne (has_some old n h has) in (
        ne,
        record { range = at.range ∙ sym both.1; size = at.size ∙ ap (λ x. length (t.members_of x)) (sym both.0) },
        subst (λ (k : ℕ). AreLevels set new spaces' h k o outer) (ap t.parent_of (sym both.0))
            (along bound same (parent old n) o outer (omega (arith, up, lt)) (sound.among n h ne has) levels.2),
      )

  -- the levels above a node
  pub above : (n : ℕ) → SameBelow n → (o : Level) (outer : List Level) → n ≢ 0 → Has old n h → AreLevels set old spaces h (parent old n) o outer → AreLevels set new spaces' h (parent old n) o outer
  above n same o outer ne has levels = along n same (parent old n) o outer (upward n ne (has_some old n h has)) (sound.among n h ne has) levels

  -- and its own level is another one
  pub changed : (n : ℕ) (l m : Level) (outer : List Level) → AreLevels set old spaces h n l outer → Has old n h → SameBelow n
      → (n ≢ 0 → IsOfNode old spaces n l → IsOfNode new spaces' n m) → (n ≢ 0 → parent new n ≡ parent old n) → (n ≡ 0 → m ≡ l)
      → AreLevels set new spaces' h n m outer
  changed n l m [] levels has same node up root = (levels.0, root levels.0 ∙ levels.1)
  changed n l m (o ∷ outer) levels has same node up root =
      let ne = levels.0 in (
        ne,
        node ne levels.1,
        subst (λ (k : ℕ). AreLevels set new spaces' h k o outer) (sym (up ne)) (above n same o outer ne has levels.2),
      )
