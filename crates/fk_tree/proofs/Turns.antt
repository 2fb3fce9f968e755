-- A node without children gets a kind that waits for nobody.
use Rattle.std.proofs.Common.{◌≡◌, ◌≢◌, ⊎_elim, ℕ, zero, suc, ◌+◌, ◌≤◌, ◌<◌, ◌==◌, Bool, true, false, List, Option, Some, None, is_none, refl, sym, ap, ◌∙◌, subst, arith, if◌then◌else◌}
use Rattle.std.proofs.lemmas.Bool.{cases_eq, and_parts, false≢true}
use Rattle.fk_tree.specs.declared.node.Kind.{Kind}
use Rattle.fk_tree.specs.declared.node.Kind.TheVariants.{Lockstep, Waiting, Asynchronous}
use Rattle.fk_tree.specs.Tree.{Node, Tree, kind_of, kind, parent, with_node, turned, with_kind, is_waiting, is_ready, ready, have_ended, kind_after}
use Rattle.fk_tree.specs.Sound.{awaits, IsSound}
use Rattle.fk_tree.specs.Seen.{Held, nodes_seen, living_seen, tree_seen, count_of, AreCounted}
use Rattle.fk_tree.proofs.Shapes.{from_parts}
use Rattle.fk_tree.proofs.Trees.{tree_same}
use Rattle.fk_tree.proofs.KindSound.{kind_sound}
use Rattle.fk_tree.proofs.Counts.{kind_counted}

abbrev pub IsLeaf : Tree → ℕ → Type 0
IsLeaf t n = (m : ℕ) → m ≢ 0 → t.nodes m ≢ None → parent t m ≡ n → ⊥

-- a kind that waits for nobody
pub record IsIdle (k : Kind) : Type 0 where
  pub awaits_none : (m : ℕ) → awaits (Some k) m ≡ false
  pub counts_none : (nodes : ℕ → Option Node) → count_of nodes (Some k) ≡ 0

pub idle-lockstep : IsIdle Lockstep
idle-lockstep = record { awaits_none = λ m. refl; counts_none = λ nodes. refl }

pub idle-asynchronous : (alone : Bool) → IsIdle (Asynchronous alone)
idle-asynchronous alone = record { awaits_none = λ m. refl; counts_none = λ nodes. refl }

pub idle-after : (n : ℕ) → IsIdle (kind_after n)
idle-after zero = idle-asynchronous false
idle-after (suc n) = idle-lockstep

pub free-asynchronous : (alone : Bool) → Asynchronous alone ≢ Lockstep
free-asynchronous alone e = cc

pub free-after : (n : ℕ) → n ≡ 0 → kind_after n ≢ Lockstep
free-after zero e same = cc
free-after (suc n) e same = omega arith

pub leaf_of : (p n : ℕ) (t : Tree) → IsSound p t → ((m : ℕ) → awaits (kind t n) m ≡ false) → IsLeaf t n
leaf_of p n t s none m ne some up = false≢true (sym (none m) ∙ ap (λ (i : ℕ). awaits (kind t i) m) (sym up) ∙ s.awaited m ne some)

pub leaf_by : (p n : ℕ) (k : Kind) (t : Tree) → IsSound p t → IsIdle k → kind t n ≡ Some k → IsLeaf t n
leaf_by p n k t s idle e = leaf_of p n t s (λ m. ap (λ (o : Option Kind). awaits o m) e ∙ idle.awaits_none m)

awaits-waiting : (o : Option Kind) (m : ℕ) → is_waiting o ≡ false → awaits o m ≡ false
awaits-waiting None m e = refl
awaits-waiting (Some Lockstep) m e = refl
awaits-waiting (Some (Waiting first parts)) m e = absurd (false≢true (sym e))
awaits-waiting (Some (Asynchronous alone)) m e = refl

pub leaf_not_waiting : (p n : ℕ) (t : Tree) → IsSound p t → is_waiting (kind t n) ≡ false → IsLeaf t n
leaf_not_waiting p n t s e = leaf_of p n t s (λ m. awaits-waiting (kind t n) m e)

none_from : (o : Option Node) → is_none o ≡ true → o ≡ None
none_from None e = refl
none_from (Some a) e = absurd (false≢true e)

ended_at : (t : Tree) (first k m : ℕ) → have_ended t first k ≡ true → first ≤ m → m < first + k → t.nodes m ≡ None
ended_at t first zero m e low high = absurd (omega arith)
ended_at t first (suc k) m e low high =
    let parts = and_parts (is_none (t.nodes (first + k))) (have_ended t first k) e in
    ⊎_elim
    (λ here. ap t.nodes here ∙ none_from (t.nodes (first + k)) parts.0)
    (λ ne. ended_at t first k m parts.1 low (omega arith))
    (cases_eq m (first + k))

ended_awaited : (t : Tree) (o : Option Kind) (m : ℕ) → is_ready t o ≡ true → awaits o m ≡ true → t.nodes m ≡ None
ended_awaited t None m r w = absurd (false≢true r)
ended_awaited t (Some Lockstep) m r w = absurd (false≢true r)
ended_awaited t (Some (Waiting first k)) m r w = let parts = from_parts first k m w in ended_at t first k m r parts.0 parts.1
ended_awaited t (Some (Asynchronous alone)) m r w = absurd (false≢true r)

pub leaf_ready : (p n : ℕ) (t : Tree) → IsSound p t → ready t n ≡ true → IsLeaf t n
leaf_ready p n t s r m ne some up =
    some (ended_awaited t (kind t n) m r (ap (λ (i : ℕ). awaits (kind t i) m) (sym up) ∙ s.awaited m ne some))

ready_some : (t : Tree) (o : Option Node) → is_ready t (kind_of o) ≡ true → o ≢ None
ready_some t None r none = false≢true r
ready_some t (Some a) r none = cc

pub there_ready : (t : Tree) (n : ℕ) → ready t n ≡ true → t.nodes n ≢ None
there_ready t n r = ready_some t (t.nodes n) r

kind_there : (o : Option Node) (k : Kind) → kind_of o ≡ Some k → o ≢ None
kind_there None k e none = cc
kind_there (Some a) k e none = cc

pub there_by : (t : Tree) (n : ℕ) (k : Kind) → kind t n ≡ Some k → t.nodes n ≢ None
there_by t n k e = kind_there (t.nodes n) k e

module _ (given : ℕ) (places : List ℕ) (old new : Held) (n : ℕ) (k : Kind)
    (turn : (i : ℕ) → nodes_seen new i ≡ with_node n (turned k (nodes_seen old n)) (nodes_seen old) i) where
  abbrev before : Tree
  before = tree_seen given places old

  pub turn_tree : tree_seen given places new ≡ with_kind n k before
  turn_tree = tree_same (tree_seen given places new) (with_kind n k before) turn refl (λ h. refl)

  pub turn_sound : (p : ℕ) → IsSound p before → IsLeaf before n → IsIdle k → (n ≡ 0 → k ≢ Lockstep) → IsSound p (tree_seen given places new)
  turn_sound p s leaf idle free = subst (λ (t : Tree). IsSound p t) (sym turn_tree) (kind_sound p n k before s leaf idle.awaits_none free)

  pub turn_counted : (living : ℕ) → before.nodes n ≢ None → living ≡ count_of before.nodes (Some k) → AreCounted (nodes_seen old) (living_seen old)
      → ((i : ℕ) → living_seen new i ≡ (if i == n then living else living_seen old i)) → AreCounted (nodes_seen new) (living_seen new)
  turn_counted living some here counted changed =
      subst (λ (t : Tree). AreCounted t.nodes (living_seen new)) (sym turn_tree)
      (kind_counted n living k before (living_seen old) (living_seen new) some counted changed here)
