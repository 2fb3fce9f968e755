-- Code of a group that splits:
-- if ($) { if ($) ; } else ; while (1) ; in a `start`, and fork (3; @=$%3; $=$/3) 1; in one.
use Rattle.std.proofs.Common.{◌≡◌, ◌≢◌, ℕ, suc, ◌-◌, ◌^◌, ◌<◌, Bool, true, false, List, [], ◌∷◌, Option, Some, None, refl, ap, ◌∙◌, arith, if◌then◌else◌}
use Rattle.std.proofs.lemmas.Bool.{le-ltb}
use Rattle.fk_meaning_operation.specs.declared.operation.SplitKind.TheVariants.{IfAlone, IfElse, Loop, Fork}
use Rattle.fk_meaning_operation.specs.declared.operation.Operation.TheVariants as o
use Rattle.fk_meaning_operation.specs.declared.operation.OwnValue.TheVariants.{Rank}
use Rattle.fk_space.specs.Space.{Space, whole, share, child}
use Rattle.fk_tree.specs.declared.node.Kind.{Kind}
use Rattle.fk_tree.specs.declared.node.Kind.TheVariants.{Waiting}
use Rattle.fk_tree.specs.Tree.{Tree, kind_of, turned, split, is_ready, ready}
use Rattle.fk_tree.proofs.Shapes.{with_same, kind-turned, from_below}
use Rattle.fk_meaning.specs.Group.{parts, part, has_parts}
use Rattle.fk_lockstep.proofs.Nodes.{old_nodes}
use Rattle.fk_meaning_forms.specs.Code.{Code, done, perform, choose, while, quit}
use Rattle.fk_lockstep_tree.specs.Where.{InRoot, Waits, InGroup, goes}
use Rattle.fk_lockstep_tree.specs.Leads.{Leads}

abbrev may_call : (in_group : Bool) → (function : ℕ) → Bool
may_call in_group function = false

abbrev ending : Code ℕ
ending = perform 9 o.End done

-- a part that is an `if` again
abbrev inner : Code ℕ
inner = choose 1 (o.Split IfAlone) (perform 2 o.End done) done (perform 3 o.Resume (perform 4 o.End done))

abbrev turns : Code ℕ
turns = while (perform 5 (o.Push 1) (quit 6 o.Shrink done)) (perform 7 o.DropLast done) done done

abbrev from_loop : Code ℕ
from_loop = choose 8 (o.Split Loop) turns done (perform 10 o.Resume ending)

abbrev group : Code ℕ
group = choose 0 (o.Split IfElse) inner (perform 11 o.End done) (perform 12 o.Resume from_loop)

inner_leads : (n : ℕ) → Leads may_call InRoot None (InGroup (suc n)) inner (Waits (suc n))
inner_leads n = (
  InGroup (suc (suc n)),
  Waits (suc (suc n)),
  Waits (suc (suc n)),
  Waits (suc (suc n)),
  refl,
  refl,
  (Waits (suc (suc n)), (λ w. refl), refl),
  refl,
  (InGroup (suc n), (λ w. refl), (Waits (suc n), (λ w. refl), refl)),
  (InGroup (suc n), (λ w. refl), (Waits (suc n), (λ w. refl), refl)),
)

-- a private loop is left to where those wait who have left it
turns_lead : (n : ℕ) → Leads may_call InRoot None (InGroup (suc n)) turns (Waits (suc n))
turns_lead n = (
  Waits (suc n),
  (InGroup (suc n), (λ w. refl), (Waits (suc n), refl, (refl, refl), refl)),
  (InGroup (suc n), (λ w. refl), refl),
  refl,
  refl,
)

loop_leads : (n : ℕ) → Leads may_call InRoot None (InGroup n) from_loop (Waits n)
loop_leads n =
    (InGroup (suc n), Waits (suc n), Waits (suc n), Waits (suc n), refl, refl, turns_lead n, refl, behind, behind)
  where
    behind : Leads may_call InRoot None (Waits (suc n)) (perform 10 o.Resume ending) (Waits n)
    behind = (InGroup n, (λ w. refl), (Waits n, (λ w. refl), refl))

group_leads : (n : ℕ) → Leads may_call InRoot None (InGroup n) group (Waits n)
group_leads n = (
  InGroup (suc n),
  InGroup (suc n),
  Waits (suc n),
  Waits (suc n),
  refl,
  refl,
  inner_leads n,
  (Waits (suc n), (λ w. refl), refl),
  (InGroup n, (λ w. refl), loop_leads n),
  (InGroup n, (λ w. refl), loop_leads n),
)

-- ---- a `fork`

abbrev in_fork : Code ℕ
in_fork = perform 25 (o.Push 1) (perform 26 o.DropLast (perform 27 o.End done))

abbrev behind_fork : Code ℕ
behind_fork = perform 28 o.Resume ending

abbrev forked : Code ℕ
forked =
    perform 20 (o.Push 3) (perform 21 o.Agree (perform 22 (o.Get Rank) (perform 23 (o.Get Rank)
    (choose 24 (o.Split Fork) in_fork done behind_fork))))

-- whatever the number of parts is, each member enters one, or waits
forked_leads : (n : ℕ) → Leads may_call InRoot None (InGroup n) forked (Waits n)
forked_leads n = (
  InGroup n,
  (λ w. refl),
  (
    InGroup n,
    (λ w. refl),
    (
      InGroup n,
      (λ w. refl),
      (
        InGroup n,
        (λ w. refl),
        (InGroup (suc n), Waits (suc n), Waits (suc n), Waits (suc n), refl, refl, body, refl, behind, behind),
      ),
    ),
  ),
)
  where
    body : Leads may_call InRoot None (InGroup (suc n)) in_fork (Waits (suc n))
    body = (InGroup (suc n), (λ w. refl), (InGroup (suc n), (λ w. refl), (Waits (suc n), (λ w. refl), refl)))

    behind : Leads may_call InRoot None (Waits (suc n)) behind_fork (Waits n)
    behind = (InGroup n, (λ w. refl), (Waits n, (λ w. refl), refl))

-- 7 members in 3 parts: member h has `@` = h % 3 there, and `$` = h / 3
abbrev asks_for : (parts number rank : ℕ) → List ℕ
asks_for parts number rank = rank ∷ number ∷ parts ∷ []

into_three : (part Fork (asks_for 3 0 2) ≡ Some 0) × (part Fork (asks_for 3 1 1) ≡ Some 1) × (part Fork (asks_for 3 2 1) ≡ Some 2)
into_three = (refl, refl, refl)

-- with no part or with fewer than none all wait, and no words are needed; a member whose number is no part waits
none_enters : (number rank : ℕ) (s : Space) → (part Fork (asks_for 0 number rank) ≡ None) × (parts Fork (asks_for (2 ^ 32 - 1) number rank) ≡ 0) × (has_parts s 0 ≡ true)
none_enters number rank s = (ap (λ b. if b then Some number else None) (le-ltb number 0 (omega arith)), refl, refl)

others_wait : (part Fork (asks_for 2 2 0) ≡ None) × (part Fork (asks_for 2 (2 ^ 32 - 1) 0) ≡ None)
others_wait = (refl, refl)

-- then the node waits for no part, and is ready at once
nobody_in_parts : (tree : Tree) (n : ℕ) → n < tree.given → tree.nodes n ≢ None → ready (split n 0 (λ h. None) tree) n ≡ true
nobody_in_parts tree n given there =
    ap (λ (k : Option Kind). is_ready (split n 0 (λ h. None) tree) k)
    (ap kind_of (old_nodes n 0 (λ h. None) tree n (from_below tree.given 0 n given) ∙ with_same n (turned (Waiting tree.given 0) (tree.nodes n)) tree.nodes n refl)
    ∙ kind-turned (Waiting tree.given 0) (tree.nodes n) there)

-- a group space of 524,288 words has room for 26,214 parts with 16 words each, and for no more
abbrev group_words : Space
group_words = whole 0 524288

room_for_many : (share group_words 26214 ≡ Some 16) × (has_parts group_words 26215 ≡ false)
room_for_many = (refl, refl)

-- empty parts have their words too: of 5 parts the second begins where the first ends
parts_in_order : (child group_words 5 0).high ≡ (child group_words 5 1).low
parts_in_order = refl

-- the group of a `start` has no part that shrinks, and nobody splits in the root
none_there : (onward : Bool) → (goes (InGroup 0) o.Shrink onward ≡ None) × (goes InRoot (o.Split IfAlone) onward ≡ None)
none_there onward = (refl, refl)
