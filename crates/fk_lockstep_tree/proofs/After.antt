-- Behind a round each processor stands where its operations have led it, with the levels that the new tree has there.
use Rattle.std.proofs.Common.{◌≡◌, ◌≢◌, ⊎_elim, ℕ, zero, suc, ◌+◌, ◌-◌, ◌<◌, ◌≤◌, ◌==◌, ◌||◌, Bool, true, false, List, [], ◌∷◌, length, filter, Option, Some, None, refl, sym, ap, ◌∙◌, subst, arith, if◌then◌else◌}
use Rattle.std.specs.Prelude.{nat_lt, min, slice_get}
use Rattle.std.proofs.lemmas.Bool.{cases_lt, cond-true, cond-false, lt-ltb, le-ltb, false≢true}
use Rattle.fk_space.specs.Space.{Space, child}
use Rattle.fk_meaning_operation.specs.declared.operation.SplitKind.{SplitKind}
use Rattle.fk_meaning_operation.specs.declared.operation.SplitKind.TheVariants as split
use Rattle.fk_meaning_operation.specs.declared.operation.Operation.{Operation}
use Rattle.fk_meaning_operation.specs.declared.operation.Operation.TheVariants as o
use Rattle.fk_tree.specs.declared.node.Kind.{Kind}
use Rattle.fk_tree.specs.declared.node.Kind.TheVariants.{Lockstep, Waiting, Asynchronous}
use Rattle.fk_tree.specs.Tree as t
use Rattle.fk_tree.specs.Tree.{Node, Tree, members, parent, kind, is_member, node_of, is_in, place_in, first_part, left_by, runs, kind_after}
use Rattle.fk_tree.specs.Sound.{Has, awaits, IsSound}
use Rattle.fk_tree.proofs.Lists.{length-below}
use Rattle.fk_tree.proofs.Shapes.{with_same, members-turned, parent-turned, kind-turned, kind-node_of, parent-node_of, from_within, from_below, has_some}
use Rattle.fk_meaning.specs.Processor.{Level, Processor, Setting, values, last, drop_last, enter_level, to_outer, leave_level, group_space}
use Rattle.fk_meaning.specs.Schedule.{first_level}
use Rattle.fk_meaning.specs.Group.{not_negative, is_taken, start_level, parts, part, divided, with_size, stays, enters, does, goes_onward}
use Rattle.fk_meaning.specs.Round.{Step, Runner, State, Round, Acting, lowest, agreed, settled_by, settled, body_of, result}
use Rattle.fk_lockstep.specs.Untouched.{changes_tree}
use Rattle.fk_lockstep.proofs.Changes.{few}
use Rattle.fk_lockstep.proofs.Rounds.{gone, settled_as, settled_at}
use Rattle.fk_lockstep.proofs.Nodes.{gone as leaves, still, new_nodes, old_nodes, split_places}
use Rattle.fk_lockstep.proofs.Round.{first_is, lowest_member, at_below, settled_length, who_is}
use Rattle.fk_lockstep_nodes.specs.Steps.{Keeps, Does, KeepsOrDoes}
use Rattle.fk_lockstep_tree.specs.Where.{Where, InRoot, Waits, InGroup, InBody, BehindBody, behind_waiting, divides, shrinks, goes, Goes}
use Rattle.fk_lockstep_tree.specs.Ranges.{range_of, ranges_of}
use Rattle.fk_lockstep_tree.specs.Placed.{where_in, where_at, AreLevels, IsPlaced}
use Rattle.fk_lockstep_tree.specs.Steps.{StepFits}
use Rattle.fk_lockstep_tree.specs.Rounds.{IsRound, IsRoundInSpaces}
use Rattle.fk_lockstep_tree.proofs.Moves.{SameLevel, SameLevels, as_taken, keeps_place, keeps_tree, does_same, goes_on}
use Rattle.fk_lockstep_tree.proofs.Acts.{IsDue, result_is}
use Rattle.fk_lockstep_tree.proofs.Known.{Act, act, many, placed, member_at, each_steps, parts_as_many}
use Rattle.fk_lockstep_tree.proofs.Paths.{root_outer, root_first, at_root, at_node, waiting_place, InLockstep, lockstep_place, body_place, in_body, HasBodyThere, SameBelow, above, changed}
use Rattle.fk_lockstep_tree.proofs.Stepped as trees

-- ---- places

one_runs : (h : ℕ) (ms : List ℕ) → is_member h ms ≡ true → is_member h (runs (Asynchronous true) ms) ≡ (h == lowest ms)
one_runs h [] has = absurd (false≢true has)
one_runs h (m ∷ ms) has = by (h == m)
  where
    by : (b : Bool) → (b || false) ≡ b
    by true = refl
    by false = refl

few_of : (h n p : ℕ) → h < p → nat_lt h (min n p) ≡ nat_lt h n
few_of h n p lt =
    ⊎_elim (λ l. lt-ltb h (min n p) (omega (arith, l, lt)) ∙ sym (lt-ltb h n l)) (λ le. le-ltb h (min n p) (omega (arith, le)) ∙ sym (le-ltb h n le)) (cases_lt h n)

-- where those who waited go on
resumed_place : (n g : ℕ) (b : Bool) → (n ≡ 0 → g ≡ 0) → (g ≡ 0 → n ≡ 0) → where_in n (Some (kind_after g)) b ≡ Some (behind_waiting n)
resumed_place zero zero b down up = refl
resumed_place zero (suc g) b down up = let e = down refl in absurd (omega (arith, e))
resumed_place (suc n) zero b down up = let e = up refl in absurd (omega (arith, e))
resumed_place (suc n) (suc g) b down up = refl

-- who awaits a node waits
waits_for : (k : Option Kind) (m : ℕ) → awaits k m ≡ true → (first : ℕ) × (parts : ℕ) × (k ≡ Some (Waiting first parts))
waits_for None m e = absurd (false≢true e)
waits_for (Some Lockstep) m e = absurd (false≢true e)
waits_for (Some (Waiting first parts)) m e = (first, parts, refl)
waits_for (Some (Asynchronous alone)) m e = absurd (false≢true e)

-- where a member comes to by a split
never_none : (b : Bool) (x y : ℕ) → (if b then Some x else Some y) ≡ None → ⊥
never_none true x y e = absurd (cc)
never_none false x y e = absurd (cc)

waits_to : (by : SplitKind) (d : ℕ) (vs : List ℕ) (to : Where) → part by vs ≡ None → divides by d (enters by None) ≡ Some to → to ≡ Waits (suc d)
waits_to split.IfAlone d vs to none e = sym (first_is (Waits (suc d)) to e)
waits_to split.IfElse d vs to none e = absurd (never_none (last vs == 0) 1 0 none)
waits_to split.AndThen d vs to none e = sym (first_is (Waits (suc d)) to e)
waits_to split.OrElse d vs to none e = sym (first_is (Waits (suc d)) to e)
waits_to split.Loop d vs to none e = absurd (cc)
waits_to split.Fork d vs to none e = sym (first_is (Waits (suc d)) to e)

enters_to : (by : SplitKind) (d i : ℕ) (to : Where) → divides by d (enters by (Some i)) ≡ Some to → to ≡ InGroup (suc d)
enters_to split.IfAlone d i to e = sym (first_is (InGroup (suc d)) to e)
enters_to split.IfElse d i to e = sym (first_is (InGroup (suc d)) to e)
enters_to split.AndThen d i to e = sym (first_is (InGroup (suc d)) to e)
enters_to split.OrElse d i to e = sym (first_is (InGroup (suc d)) to e)
enters_to split.Loop d i to e = sym (first_is (InGroup (suc d)) to e)
enters_to split.Fork d i to e = sym (first_is (InGroup (suc d)) to e)

-- in the root no level changes
root_level : (k : Option Kind) (runs : Bool) (place : Where) (l m : Level) → where_in 0 k runs ≡ Some place → SameLevel place l m → m ≡ l
root_level None runs place l m e same = absurd (cc)
root_level (Some Lockstep) runs place l m e same = absurd (cc)
root_level (Some (Waiting first parts)) runs place l m e same = subst (λ (q : Where). SameLevel q l m) (sym (first_is (Waits 0) place e)) same
root_level (Some (Asynchronous false)) runs place l m e same = subst (λ (q : Where). SameLevel q l m) (sym (first_is InRoot place e)) same
root_level (Some (Asynchronous true)) runs place l m e same = absurd (cc)

-- a part that some members leave is of its kind, and has its parent
pub left_same : (keep : ℕ → Bool) (x : Option Node) → left_by keep x ≢ None → (t.kind_of (left_by keep x) ≡ t.kind_of x) × (t.parent_of (left_by keep x) ≡ t.parent_of x)
left_same keep None there = absurd (there refl)
left_same keep (Some node) there = (
  kind-node_of (filter keep node.members) node.parent node.kind there,
  parent-node_of (filter keep node.members) node.parent node.kind there,
)

-- the words of a part, by the processor that has divided its group
abbrev pub part_space : Option Operation → Processor → (i : ℕ) → Space
part_space (Some (o.Split by)) p i = range_of (child p.level.space (parts by (values p)) i)
part_space op p i = range_of p.level.space

module _ {W : Type 0} (next : W → Option (Step W)) (set : Setting) (round : Round) (s : State W) (is : IsRoundInSpaces next set round s) where
  abbrev pub base : IsRound next set round s
  base = is.base

  abbrev pub old : Tree
  old = s.tree

  abbrev pub new : Tree
  new = trees.new next set round s base

  abbrev pub acting : List (Acting W)
  acting = trees.acting next set round s base

  abbrev pub whose : ℕ → Processor
  whose = trees.whose next set round s base

  abbrev pub does_by : ℕ → Option Operation
  does_by = trees.does next set round s base

  abbrev pub first : ℕ → ℕ
  first = (trees.stepped next set round s base).first

  abbrev pub Actor : ℕ → Type 0
  Actor h = Act next set round s base h

  abbrev pub All : (g : ℕ) → Operation → Type 0
  All g op = trees.AllDo next set round s base g op

  pub tree_is : (result next set round s).tree ≡ new
  tree_is = ap (λ (u : State W). u.tree) (result_is next set round s base.single base.possible)

  pub sound' : IsSound set.processors new
  sound' = subst (IsSound set.processors) tree_is is.behind

  abbrev pub spaces : ℕ → Space
  spaces = ranges_of s

  -- the words of each node behind the round: those of before, or those of a part
  abbrev pub spaces' : ℕ → Space
  spaces' m =
      if nat_lt m old.given then spaces m
      else part_space (does_by (parent new m)) (whose (lowest (members old (parent new m)))) (m - first (parent new m))

  pub old_space : (m : ℕ) → m < old.given → spaces' m ≡ spaces m
  old_space m lt =
      cond-true (nat_lt m old.given) (spaces m) (part_space (does_by (parent new m)) (whose (lowest (members old (parent new m)))) (m - first (parent new m)))
      (lt-ltb m old.given lt)

  pub new_space : (m g : ℕ) (op : Operation) → old.given ≤ m → parent new m ≡ g → does_by g ≡ Some op → spaces' m ≡ part_space (Some op) (whose (lowest (members old g))) (m - first g)
  new_space m g op ge up e =
      cond-false (nat_lt m old.given) (spaces m) (part_space (does_by (parent new m)) (whose (lowest (members old (parent new m)))) (m - first (parent new m)))
      (le-ltb m old.given ge)
      ∙ ap (λ (k : ℕ). part_space (does_by k) (whose (lowest (members old k))) (m - first k)) up
      ∙ ap (λ (d : Option Operation). part_space d (whose (lowest (members old g))) (m - first g)) e

  abbrev pub is_placed : (h : ℕ) (a : Actor h) → IsPlaced next set spaces old h a.runner
  is_placed h a = placed next set round s base h a

  pub node_has : (h n : ℕ) → h < set.processors → old.places h ≡ n → Has old n h
  node_has h n lt at = member_at next set round s base h n lt at

  pub given_of : (n h : ℕ) → Has old n h → n < old.given
  given_of n h has = trees.given_of next set round s base n (has_some old n h has)

  abbrev pub upward : (n : ℕ) → n ≢ 0 → old.nodes n ≢ None → parent old n < n
  upward = base.tree.upward

  -- the nodes above a processor's own are as before
  pub same_below : (h g : ℕ) → old.places h ≡ g → SameBelow set old new spaces spaces' set.processors base.sound upward h g
  same_below h g at m lt has =
      let off : old.places h ≢ m = λ e. let same : m ≡ g = sym e ∙ at in omega (arith, lt, same) in
      (trees.above_same next set round s base h m has off, old_space m (given_of m h has))

  -- where a processor has come to
  pub record Arrives (h : ℕ) (to : Where) (q : Processor) : Type 0 where
    pub number : q.number ≡ h
    pub there : where_at new h (length q.outer) ≡ Some to
    pub levels : AreLevels set new spaces' h (new.places h) q.level q.outer

  -- what an actor is behind the round
  abbrev pub settle : (h : ℕ) → Actor h → Runner W
  settle h a = settled_by acting old new a.acting.runner a.acting.due

  abbrev pub Stands : (h : ℕ) → Runner W → Type 0
  Stands h r = IsPlaced next set spaces' new h r

  stands : (h : ℕ) (to : Where) (r : Runner W) → Arrives h to r.has → Goes next to r.left → Stands h r
  stands h to r arrives goes' = record { number_is = arrives.number; place = to; there = arrives.there; goes = goes'; levels = arrives.levels }

  -- ---- one processor

  module _ (h : ℕ) (a : Actor h) (lt : h < set.processors) where
    abbrev p : IsPlaced next set spaces old h a.runner
    p = is_placed h a

    abbrev q0 : Processor
    q0 = a.runner.has

    abbrev round_it : ℕ
    round_it = length q0.outer

    -- ---- at a node whose members keep the tree

    module _ (none : does_by (old.places h) ≡ None) where
      abbrev g0 : ℕ
      g0 = old.places h

      has0 : Has old g0 h
      has0 = node_has h g0 lt refl

      same_place : new.places h ≡ g0
      same_place = trees.place_keeps next set round s base h none

      same_node : new.nodes g0 ≡ old.nodes g0
      same_node = trees.node_keeps next set round s base g0 none (has_some old g0 h has0)

      same_there : (n : ℕ) → where_at new h n ≡ where_at old h n
      same_there n =
          ap (λ (x : Option Node). where_in n (t.kind_of x) (is_member h (body_of (t.kind_of x) (t.members_of x)))) (ap new.nodes same_place ∙ same_node)

      remains : (q : Processor) → SameLevels p.place q0 q → Arrives h p.place q
      remains q same =
          let taken = as_taken p.place q0.level q.level same.1 in
          let levels : AreLevels set new spaces' h g0 q.level q0.outer
          = changed set old new spaces spaces' set.processors base.sound upward h g0 q0.level q.level q0.outer p.levels has0 (same_below h g0 refl)
          (λ ne x. record {
            range = taken.range ∙ x.range ∙ sym (old_space g0 (given_of g0 h has0));
            size = taken.size ∙ x.size ∙ ap (λ (y : Option Node). length (t.members_of y)) (sym same_node);
          })
          (λ ne. ap t.parent_of same_node)
          (λ zero.
          let none_above = root_outer set old spaces h g0 q0.level q0.outer p.levels zero in
          root_level (kind old g0) (is_member h (body_of (kind old g0) (members old g0))) p.place q0.level q.level
          (ap (λ (n : ℕ). where_in n (kind old g0) (is_member h (body_of (kind old g0) (members old g0)))) (sym none_above) ∙ p.there) same.1) in
          record {
            number = same.0.0 ∙ p.number_is;
            there = ap (λ (ls : List Level). where_at new h (length ls)) same.0.1 ∙ same_there round_it ∙ p.there;
            levels =
                subst (λ (n : ℕ). AreLevels set new spaces' h n q.level q.outer) (sym same_place)
                (subst (λ (ls : List Level). AreLevels set new spaces' h g0 q.level ls) (sym same.0.1) levels);
          }

      quiet : Keeps a.acting.due → Stands h (settle h a)
      quiet keeps =
          ⊎_elim
          (λ idle.
          subst (λ (x : Acting W). Stands h (settled_by acting old new x.runner x.due)) (sym idle.0)
          (stands h p.place a.runner (remains q0 ((refl, refl), same_self p.place q0.level)) p.goes))
          (λ busy. ⊎_elim
          (λ moved.
          let to = goes_on next p.place a.runner.left moved.step p.goes moved.next_is moved.onward in
          let stays_there = keeps_place p.place moved.step.operation moved.onward to.0 (keeps_tree moved.step.operation moved.plain) to.1 in
          let levels = moved.levels p.place moved.onward to.0 to.1 in
          subst (λ (due : Option (Step W)). Stands h (settled_by acting old new a.acting.runner due)) (sym moved.due)
          (stands h p.place a.acting.runner (remains a.acting.runner.has levels)
          (subst (Goes next p.place) (sym moved.left) (subst (λ (q : Where). Goes next q (moved.step.rest moved.onward)) stays_there to.2))))
          (λ d.
          let keep : changes_tree d.step.operation ≡ false = subst (λ (x : Option (Step W)). Keeps x) (ap (λ (x : Acting W). x.due) d.is) keeps in
          let ms = members old (old.places q0.number) in
          let value = agreed acting ms in
          let onward = goes_onward d.step.operation value (lowest ms) q0 in
          let size = length (members new (new.places q0.number)) in
          let to = goes_on next p.place a.runner.left d.step p.goes d.next_is onward in
          let stays_there = keeps_place p.place d.step.operation onward to.0 keep to.1 in
          let levels = does_same p.place d.step.operation onward to.0 value size q0 keep to.1 in
          subst (λ (x : Acting W). Stands h (settled_by acting old new x.runner x.due)) (sym d.is)
          (stands h p.place (record { left = d.step.rest onward; has = does d.step.operation value size q0 }) (remains (does d.step.operation value size q0) levels)
          (subst (λ (q : Where). Goes next q (d.step.rest onward)) stays_there to.2)))
          busy.1)
          a.comes
        where
          same_self : (place : Where) (l : Level) → SameLevel place l l
          same_self InRoot l = refl
          same_self (Waits n) l = refl
          same_self (InGroup n) l = record { size = refl; range = refl }
          same_self (InBody n) l = refl
          same_self (BehindBody n) l = refl

    -- ---- at a node whose members step

    module _ (g : ℕ) (at : old.places h ≡ g) (op : Operation) (e : does_by g ≡ Some op) (all : All g op) where
      has : Has old g h
      has = node_has h g lt at

      below : SameBelow set old new spaces spaces' set.processors base.sound upward h g
      below = same_below h g at

      at_levels : AreLevels set old spaces h g q0.level q0.outer
      at_levels = subst (λ (n : ℕ). AreLevels set old spaces h n q0.level q0.outer) at p.levels

      abbrev value : ℕ
      value = agreed acting (members old g)

      abbrev low : ℕ
      low = lowest (members old g)

      abbrev onward : Bool
      onward = goes_onward op value low q0

      new_place : new.places h ≡ (trees.own next set round s base g op).places h
      new_place = trees.place_steps next set round s base g op e h at

      new_node : new.nodes g ≡ (trees.own next set round s base g op).nodes g
      new_node = trees.node_steps next set round s base g op e

      -- what it does
      pub due : IsDue next set a.runner a.acting × Does op a.acting.due
      due =
          let d = all.does h a has in
          ⊎_elim
          (λ idle. absurd (subst (λ (x : Option (Step W)). Does op x) (ap (λ (x : Acting W). x.due) idle.0) d))
          (λ busy. ⊎_elim (λ moved. absurd (subst (λ (x : Option (Step W)). Does op x) moved.due d)) (λ is'. (is', d)) busy.1)
          a.comes

      -- and what the tree knows of it
      pub known_has : whose h ≡ q0
      known_has = who_is acting h a.acting a.at ∙ ap (λ (x : Acting W). x.runner.has) due.0.is

      moves : ((to : Where) → goes p.place op onward ≡ Some to → (size : ℕ) → size ≡ length (members new (new.places h)) → Arrives h to (does op value size q0)) → Stands h (settle h a)
      moves arrives =
          let d = due.0 in
          let op_is : d.step.operation ≡ op = subst (λ (x : Option (Step W)). Does op x) (ap (λ (x : Acting W). x.due) d.is) due.1 in
          let size = length (members new (new.places q0.number)) in
          let way = goes_onward d.step.operation value low q0 in
          let to = goes_on next p.place a.runner.left d.step p.goes d.next_is way in
          let goes' : goes p.place op onward ≡ Some to.0 = ap (λ (x : Operation). goes p.place x (goes_onward x value low q0)) (sym op_is) ∙ to.1 in
          let there = arrives to.0 goes' size (ap (λ (n : ℕ). length (members new (new.places n))) p.number_is) in
          let has_is : does op value size q0 ≡ does d.step.operation value size q0 = ap (λ (x : Operation). does x value size q0) (sym op_is) in
          let gone_is : Stands h (gone d.step value low size a.runner) = stands h to.0 (gone d.step value low size a.runner) (subst (Arrives h to.0) has_is there) to.2 in
          subst (λ (x : Acting W). Stands h (settled_by acting old new x.runner x.due)) (sym d.is)
          (subst (Stands h) (sym (settled_as acting old new a.runner (Some d.step) g (new.places q0.number) (ap old.places p.number_is ∙ at) refl)) gone_is)

      -- ---- its node has another kind

      module _ (k : Kind) (node : new.nodes g ≡ t.turned k (old.nodes g)) where
        same_members : members new g ≡ members old g
        same_members = ap t.members_of node ∙ members-turned k (old.nodes g)

        turned_levels : (m : Level) → m ≡ q0.level → AreLevels set new spaces' h g m q0.outer
        turned_levels m same =
            changed set old new spaces spaces' set.processors base.sound upward h g q0.level m q0.outer at_levels has below
            (λ ne x. record {
              range = ap (λ (l : Level). range_of l.space) same ∙ x.range ∙ sym (old_space g (given_of g h has));
              size = ap (λ (l : Level). l.size) same ∙ x.size ∙ ap (λ (ms : List ℕ). length ms) (sym same_members);
            })
            (λ ne. ap t.parent_of node ∙ parent-turned k (old.nodes g)) (λ zero. same)

        turned_kind : kind new g ≡ Some k
        turned_kind = ap t.kind_of node ∙ kind-turned k (old.nodes g) (has_some old g h has)

        -- who stays there with its levels
        remains_there : (q : Processor) → new.places h ≡ g → q.number ≡ q0.number → q.level ≡ q0.level → q.outer ≡ q0.outer → (to : Where)
            → where_in round_it (Some k) (is_member h (body_of (Some k) (members old g))) ≡ Some to → Arrives h to q
        remains_there q place number level outer to is_there = record {
          number = number ∙ p.number_is;
          there =
              ap (λ (ls : List Level). where_at new h (length ls)) outer
              ∙ at_node new h round_it g k place turned_kind
              ∙ ap (λ (ms : List ℕ). where_in round_it (Some k) (is_member h (body_of (Some k) ms))) same_members
              ∙ is_there;
          levels =
              subst (λ (n : ℕ). AreLevels set new spaces' h n q.level q.outer) (sym place)
              (subst (λ (ls : List Level). AreLevels set new spaces' h g q.level ls) (sym outer) (turned_levels q.level level));
        }

      -- ---- it leaves its node

      leaves_for : (d : ℕ) (place : new.places h ≡ parent old g) (q : Processor) → q.number ≡ q0.number → (outer : List Level) → AreLevels set old spaces h g q0.level outer → length outer ≡ suc d
          → Arrives h (Waits d) (to_outer q outer)
      leaves_for d place q number [] levels long = absurd (omega (arith, long))
      leaves_for d place q number (l ∷ outer) levels long =
          let ne = levels.0 in
          let up = parent old g in
          let there = has_some old g h has in
          let lower = upward g ne there in
          let off : old.places h ≢ up = λ f. let same : g ≡ up = sym at ∙ f in omega (arith, lower, same) in
          let in_up : Has old up h = base.sound.among g h ne has in
          let waits = waits_for (kind old up) g (base.sound.awaited g ne there) in
          let kind_is : kind new up ≡ Some (Waiting waits.0 waits.1) = ap t.kind_of (trees.above_same next set round s base h up in_up off) ∙ waits.2 in
          let depth : length outer ≡ d = omega (arith, long) in
          record {
            number = number ∙ p.number_is;
            there =
                at_node new h (length outer) up (Waiting waits.0 waits.1) place kind_is
                ∙ waiting_place (length outer) waits.0 waits.1 (is_member h (body_of (Some (Waiting waits.0 waits.1)) (members new up)))
                ∙ ap (λ (n : ℕ). Some (Waits n)) depth;
            levels =
                subst (λ (n : ℕ). AreLevels set new spaces' h n l outer) (sym place)
                (above set old new spaces spaces' set.processors base.sound upward h g below l outer ne has levels.2);
          }

      -- ---- it comes to a part

      -- the parts of its node
      pub record Parting : Type 0 where
        pub many_parts : ℕ
        pub into : ℕ → Option ℕ
        pub tree_is : trees.own next set round s base g op ≡ t.split g many_parts into (record old { given = first g })

      module _ (d : Parting) where
        abbrev begun : Tree
        begun = record old { given = first g }

        first_ge : old.given ≤ first g
        first_ge = trees.first_given next set round s base g

        divided_node : new.nodes g ≡ t.turned (Waiting (first g) d.many_parts) (old.nodes g)
        divided_node =
            let ge = first_ge in
            let lt' = given_of g h has in
            new_node ∙ ap (λ (x : Tree). x.nodes g) d.tree_is
            ∙ old_nodes g d.many_parts d.into begun g (from_below (first g) d.many_parts g (omega (arith, ge, lt')))
            ∙ with_same g (t.turned (Waiting (first g) d.many_parts) (old.nodes g)) old.nodes g refl

        place_by : (i : Option ℕ) → d.into h ≡ i → new.places h ≡ place_in g (first g) i
        place_by i e' =
            new_place ∙ ap (λ (x : Tree). x.places h) d.tree_is ∙ split_places g d.many_parts d.into begun h has
            ∙ ap (λ (n : ℕ). place_in n (first g) (d.into h)) at ∙ ap (place_in g (first g)) e'

        part_node : (i : ℕ) → i < d.many_parts
            → new.nodes (first g + i) ≡ node_of (filter (λ j. is_in (first g + i - first g) (d.into j)) (members old g)) g Lockstep
        part_node i few =
            let given_is : (trees.own next set round s base g op).given ≡ first g + d.many_parts = ap (λ (x : Tree). x.given) d.tree_is in
            trees.part_steps next set round s base g op e (first g + i) (omega arith) (omega (arith, given_is, few))
            ∙ ap (λ (x : Tree). x.nodes (first g + i)) d.tree_is
            ∙ new_nodes g d.many_parts d.into begun (first g + i) (from_within (first g) d.many_parts (first g + i) (omega arith) (omega (arith, few)))

        -- who waits
        waits_there : (q : Processor) → d.into h ≡ None → q.number ≡ q0.number → q.level ≡ q0.level → q.outer ≡ q0.outer → Arrives h (Waits round_it) q
        waits_there q none number level outer =
            let k = Waiting (first g) d.many_parts in
            remains_there k divided_node q (place_by None none) number level outer (Waits round_it) (waiting_place round_it (first g) d.many_parts (is_member h (body_of (Some k) (members old g))))

        -- who enters a part
        enters_there : (i : ℕ) (q : Processor) → d.into h ≡ Some i → i < d.many_parts → q.number ≡ q0.number → q.outer ≡ q0.level ∷ q0.outer
            → range_of q.level.space ≡ part_space (Some op) (whose low) (first g + i - first g) → q.level.size ≡ length (members new (new.places h)) → Arrives h (InGroup round_it) q
        enters_there i q into few number outer range size =
            let m = first g + i in
            let place : new.places h ≡ m = place_by (Some i) into in
            let node = part_node i few in
            let ms = filter (λ j. is_in (m - first g) (d.into j)) (members old g) in
            let some : new.nodes m ≢ None = has_some new m h (subst (λ (n : ℕ). Has new n h) place (sound'.placed h lt).member) in
            let here : node_of ms g Lockstep ≢ None = λ none. some (node ∙ none) in
            let kind_is : kind new m ≡ Some Lockstep = ap t.kind_of node ∙ kind-node_of ms g Lockstep here in
            let up : parent new m ≡ g = ap t.parent_of node ∙ parent-node_of ms g Lockstep here in
            let ge = first_ge in
            let given = given_of g h has in
            let ne : m ≢ 0 = λ zero. omega (arith, ge, given, zero) in
            let space : spaces' m ≡ part_space (Some op) (whose low) (m - first g) = new_space m g op (omega (arith, ge)) up e in
            let levels : AreLevels set new spaces' h m q.level (q0.level ∷ q0.outer)
            = (
              ne,
              record { range = range ∙ sym space; size = size ∙ ap (λ (n : ℕ). length (members new n)) place },
              subst (λ (n : ℕ). AreLevels set new spaces' h n q0.level q0.outer) (sym up) (turned_levels (Waiting (first g) d.many_parts) divided_node q0.level refl),
            ) in
            record {
              number = number ∙ p.number_is;
              there =
                  ap (λ (ls : List Level). where_at new h (length ls)) outer
                  ∙ at_node new h (suc round_it) m Lockstep place kind_is;
              levels =
                  subst (λ (n : ℕ). AreLevels set new spaces' h n q.level q.outer) (sym place)
                  (subst (λ (ls : List Level). AreLevels set new spaces' h m q.level ls) (sym outer) levels);
            }

  -- ---- by what its node does

  abbrev around : (h : ℕ) → Actor h → ℕ
  around h a = length a.runner.has.outer

  not_zero : (g : ℕ) → kind old g ≡ Some Lockstep → g ≢ 0
  not_zero g e is_zero = base.sound.free (sym (ap (kind old) is_zero) ∙ e)

  abbrev begun_of : ℕ → Tree
  begun_of g = record old { given = first g }

  -- who stays in a loop
  abbrev keeps_in : ℕ → Bool
  keeps_in j = stays (whose j)

  -- how many processors the group of a start has
  abbrev count_of : (g : ℕ) → ℕ
  count_of g = min (not_negative (agreed acting (members old g))) (length (members old g))

  module _ (h : ℕ) (a : Actor h) (lt : h < set.processors) (g : ℕ) (at : old.places h ≡ g) where
    abbrev here : IsPlaced next set spaces old h a.runner
    here = is_placed h a

    abbrev it : Processor
    it = a.runner.has

    place_of : (k : Kind) → kind old g ≡ Some k → where_in (around h a) (Some k) (is_member h (body_of (Some k) (members old g))) ≡ Some here.place
    place_of k e = sym (at_node old h (around h a) g k at e) ∙ here.there

    in_node : Has old g h
    in_node = node_has h g lt at

    its_levels : AreLevels set old spaces h g it.level it.outer
    its_levels = subst (λ (n : ℕ). AreLevels set old spaces h n it.level it.outer) at here.levels

    -- its node has another kind, and all go on there
    turns : (op : Operation) (e : does_by g ≡ Some op) (all : All g op) (k : Kind) → new.nodes g ≡ t.turned k (old.nodes g) → new.places h ≡ g
        → ((highest size : ℕ) (q : Processor) → does op highest size q ≡ q)
        → ((to : Where) → goes here.place op (goes_onward op (agreed acting (members old g)) (lowest (members old g)) it) ≡ Some to
        → where_in (around h a) (Some k) (is_member h (body_of (Some k) (members old g))) ≡ Some to)
        → Stands h (settle h a)
    turns op e all k node place same there =
        moves h a lt g at op e all
        (λ to goes' size size_is.
        subst (Arrives h to) (sym (same (agreed acting (members old g)) size it))
        (remains_there h a lt g at op e all k node it place refl refl refl to (there to goes')))

    farms : (e : does_by g ≡ Some o.Farm) (all : All g o.Farm) → kind old g ≡ Some Lockstep → Stands h (settle h a)
    farms e all locked =
        let n = lockstep_place (around h a) (is_member h (body_of (Some Lockstep) (members old g))) here.place (place_of Lockstep locked) in
        turns o.Farm e all (Asynchronous false)
        (new_node h a lt g at o.Farm e all ∙ with_same g (t.turned (Asynchronous false) (old.nodes g)) old.nodes g refl)
        (new_place h a lt g at o.Farm e all ∙ at) (λ highest size q. refl)
        (λ to goes'.
        let to_is : InBody n.depth ≡ to = first_is (InBody n.depth) to (subst (λ (q : Where). goes q o.Farm true ≡ Some to) n.is goes') in
        ap (λ (m : ℕ). where_in m (Some (Asynchronous false)) (is_member h (members old g))) n.above_is
        ∙ in_body n.depth false (is_member h (members old g))
        ∙ ap (λ (b : Bool). Some (if b then InBody n.depth else BehindBody n.depth)) in_node ∙ ap (λ (q : Where). Some q) to_is)

    sends : (e : does_by g ≡ Some o.Seq) (all : All g o.Seq) → kind old g ≡ Some Lockstep → Stands h (settle h a)
    sends e all locked =
        let n = lockstep_place (around h a) (is_member h (body_of (Some Lockstep) (members old g))) here.place (place_of Lockstep locked) in
        let low = lowest (members old g) in
        let ms = runs (Asynchronous true) (members old g) in
        turns o.Seq e all (Asynchronous true)
        (new_node h a lt g at o.Seq e all ∙ with_same g (t.turned (Asynchronous true) (old.nodes g)) old.nodes g refl)
        (new_place h a lt g at o.Seq e all ∙ at) (λ highest size q. refl)
        (λ to goes'.
        let way : goes (InGroup n.depth) o.Seq (it.number == low) ≡ Some to = subst (λ (q : Where). goes q o.Seq (it.number == low) ≡ Some to) n.is goes' in
        let number : (h == low) ≡ (it.number == low) = ap (λ (m : ℕ). m == low) (sym here.number_is) in
        ap (λ (m : ℕ). where_in m (Some (Asynchronous true)) (is_member h ms)) n.above_is
        ∙ in_body n.depth true (is_member h ms)
        ∙ ap (λ (b : Bool). Some (if b then InBody n.depth else BehindBody n.depth)) (one_runs h (members old g) in_node ∙ number) ∙ way)

    meets : (e : does_by g ≡ Some (o.Meet true)) (all : All g (o.Meet true)) (alone : Bool) → kind old g ≡ Some (Asynchronous alone) → g ≢ 0 → Stands h (settle h a)
    meets e all alone kind_is ne =
        ⊎_elim
        (λ root. absurd (ne (at_root set old spaces h g it.level it.outer its_levels root.above_is)))
        (λ body. in_its_body body)
        (body_place (around h a) alone (is_member h (body_of (Some (Asynchronous alone)) (members old g))) here.place (place_of (Asynchronous alone) kind_is))
      where
        in_its_body : HasBodyThere (around h a) here.place → Stands h (settle h a)
        in_its_body body =
            turns (o.Meet true) e all Lockstep
            (new_node h a lt g at (o.Meet true) e all ∙ with_same g (t.turned Lockstep (old.nodes g)) old.nodes g refl)
            (new_place h a lt g at (o.Meet true) e all ∙ at) (λ highest size q. refl)
            (λ to goes'.
            let to_is : InGroup body.depth ≡ to
            = ⊎_elim (λ f. first_is (InGroup body.depth) to (subst (λ (q : Where). goes q (o.Meet true) true ≡ Some to) f goes'))
            (λ f. first_is (InGroup body.depth) to (subst (λ (q : Where). goes q (o.Meet true) true ≡ Some to) f goes')) body.is in
            ap (λ (m : ℕ). where_in m (Some Lockstep) (is_member h (body_of (Some Lockstep) (members old g)))) body.above_is ∙ ap (λ (q : Where). Some q) to_is)

    resumes : (e : does_by g ≡ Some o.Resume) (all : All g o.Resume) (f parts' : ℕ) → kind old g ≡ Some (Waiting f parts') → Stands h (settle h a)
    resumes e all f parts' kind_is =
        let n = around h a in
        let b = is_member h (body_of (Some (Waiting f parts')) (members old g)) in
        let place : here.place ≡ Waits n = first_is here.place (Waits n) (sym (place_of (Waiting f parts') kind_is) ∙ waiting_place n f parts' b) in
        turns o.Resume e all (kind_after g)
        (new_node h a lt g at o.Resume e all ∙ with_same g (t.turned (kind_after g) (old.nodes g)) old.nodes g refl)
        (new_place h a lt g at o.Resume e all ∙ at) (λ highest size q. refl)
        (λ to goes'.
        let to_is : behind_waiting n ≡ to = first_is (behind_waiting n) to (subst (λ (q : Where). goes q o.Resume true ≡ Some to) place goes') in
        resumed_place n g (is_member h (body_of (Some (kind_after g)) (members old g))) (at_root set old spaces h g it.level it.outer its_levels)
        (root_outer set old spaces h g it.level it.outer its_levels)
        ∙ ap (λ (q : Where). Some q) to_is)

    ends : (e : does_by g ≡ Some o.End) (all : All g o.End) → kind old g ≡ Some Lockstep → Stands h (settle h a)
    ends e all locked =
        let n = lockstep_place (around h a) (is_member h (body_of (Some Lockstep) (members old g))) here.place (place_of Lockstep locked) in
        moves h a lt g at o.End e all
        (λ to goes' size size_is.
        let to_is : Waits n.depth ≡ to = first_is (Waits n.depth) to (subst (λ (q : Where). goes q o.End true ≡ Some to) n.is goes') in
        subst (λ (q : Where). Arrives h q (leave_level it)) to_is
        (leaves_for h a lt g at o.End e all n.depth (new_place h a lt g at o.End e all ∙ leaves g (λ j. false) (begun_of g) h in_node refl) it refl it.outer its_levels n.above_is))

    -- ---- a loop goes on with those who stay

    shrunk_to : (d : ℕ) (b : Bool) (to : Where) → shrinks d b ≡ Some to → (if b then InGroup d else Waits d) ≡ to
    shrunk_to zero b to f = absurd (cc)
    shrunk_to (suc d) b to f = first_is (if b then InGroup (suc d) else Waits (suc d)) to f

    shrinks_so : (e : does_by g ≡ Some o.Shrink) (all : All g o.Shrink) → kind old g ≡ Some Lockstep → Stands h (settle h a)
    shrinks_so e all locked =
        moves h a lt g at o.Shrink e all
        (λ to goes' size size_is. by_stay to size size_is (stays it) refl (subst (λ (q : Where). goes q o.Shrink (stays it) ≡ Some to) n.is goes'))
      where
        n : InLockstep (around h a) here.place
        n = lockstep_place (around h a) (is_member h (body_of (Some Lockstep) (members old g))) here.place (place_of Lockstep locked)

        kept : keeps_in h ≡ stays it
        kept = ap stays (known_has h a lt g at o.Shrink e all)

        node : new.nodes g ≡ left_by keeps_in (old.nodes g)
        node = new_node h a lt g at o.Shrink e all ∙ with_same g (left_by keeps_in (old.nodes g)) old.nodes g refl

        remains_in : (size : ℕ) → size ≡ length (members new (new.places h)) → keeps_in h ≡ true → Arrives h (InGroup n.depth) (with_size size (drop_last 1 it))
        remains_in size size_is stay =
            let place : new.places h ≡ g = new_place h a lt g at o.Shrink e all ∙ still g keeps_in (begun_of g) h stay ∙ at in
            let some : new.nodes g ≢ None = has_some new g h (subst (λ (m : ℕ). Has new m h) place (sound'.placed h lt).member) in
            let both = left_same keeps_in (old.nodes g) (λ none. some (node ∙ none)) in
            let kind_is : kind new g ≡ Some Lockstep = ap t.kind_of node ∙ both.0 ∙ locked in
            let level = (with_size size (drop_last 1 it)).level in
            let levels : AreLevels set new spaces' h g level it.outer
            = changed set old new spaces spaces' set.processors base.sound upward h g it.level level it.outer its_levels in_node (same_below h g at)
            (λ ne x. record { range = x.range ∙ sym (old_space g (given_of g h in_node)); size = size_is ∙ ap (λ (m : ℕ). length (members new m)) place })
            (λ ne. ap t.parent_of node ∙ both.1) (λ zero. absurd (not_zero g locked zero)) in
            record {
              number = here.number_is;
              there =
                  at_node new h (around h a) g Lockstep place kind_is
                  ∙ ap (λ (m : ℕ). where_in m (Some Lockstep) (is_member h (body_of (Some Lockstep) (members new g)))) n.above_is;
              levels = subst (λ (m : ℕ). AreLevels set new spaces' h m level it.outer) (sym place) levels;
            }

        by_stay : (to : Where) (size : ℕ) → size ≡ length (members new (new.places h)) → (b : Bool) → stays it ≡ b → shrinks n.depth b ≡ Some to
            → Arrives h to (if b then with_size size (drop_last 1 it) else leave_level (drop_last 1 it))
        by_stay to size size_is true is' goes' =
            subst (λ (q : Where). Arrives h q (with_size size (drop_last 1 it))) (shrunk_to n.depth true to goes') (remains_in size size_is (kept ∙ is'))
        by_stay to size size_is false is' goes' =
            subst (λ (q : Where). Arrives h q (leave_level (drop_last 1 it))) (shrunk_to n.depth false to goes')
            (leaves_for h a lt g at o.Shrink e all n.depth (new_place h a lt g at o.Shrink e all ∙ leaves g keeps_in (begun_of g) h in_node (kept ∙ is')) (drop_last 1 it) refl it.outer its_levels
            n.above_is)

    -- ---- a group is divided

    -- the lowest member
    low_has : (op : Operation) (e : does_by g ≡ Some op) (all : All g op) → (b : Actor (lowest (members old g))) × Has old g (lowest (members old g)) × (whose (lowest (members old g)) ≡ b.runner.has)
    low_has op e all =
        let low = lowest (members old g) in
        let in_low = lowest_member all.one (members old g) all.member in
        let low_lt = base.sound.within g low in_low in
        let b = act next set round s base low low_lt in
        (b, in_low, known_has low b low_lt g (all.stand low in_low) op e all)

    child_same : (s' u : Space) (k m i j : ℕ) → s' ≡ u → k ≡ m → i ≡ j → range_of (child s' k i) ≡ range_of (child u m j)
    child_same s' u k m i j same parts_is index =
        ap (λ (x : Space). range_of (child x k i)) same ∙ ap (λ (x : ℕ). range_of (child u x i)) parts_is ∙ ap (λ (x : ℕ). range_of (child u m x)) index

    abbrev split_by : (by : SplitKind) (e : does_by g ≡ Some (o.Split by)) (all : All g (o.Split by)) → Parting h a lt g at (o.Split by) e all
    split_by by e all = record { many_parts = parts by (values (whose (lowest (members old g)))); into = λ j. part by (values (whose j)); tree_is = refl }

    splits : (by : SplitKind) (e : does_by g ≡ Some (o.Split by)) (all : All g (o.Split by)) → kind old g ≡ Some Lockstep → Stands h (settle h a)
    splits by e all locked =
        moves h a lt g at (o.Split by) e all (λ to goes' size size_is. by_part to size size_is (part by (values it)) refl (subst (λ (q : Where). goes q (o.Split by) (enters by (part by (values it))) ≡ Some to) n.is goes'))
      where
        n : InLockstep (around h a) here.place
        n = lockstep_place (around h a) (is_member h (body_of (Some Lockstep) (members old g))) here.place (place_of Lockstep locked)

        into_is : (x : Option ℕ) → part by (values it) ≡ x → part by (values (whose h)) ≡ x
        into_is x is' = ap (λ (q : Processor). part by (values q)) (known_has h a lt g at (o.Split by) e all) ∙ is'

        by_part : (to : Where) (size : ℕ) → size ≡ length (members new (new.places h)) → (x : Option ℕ) → part by (values it) ≡ x → divides by n.depth (enters by x) ≡ Some to
            → Arrives h to (divided by size it x)
        by_part to size size_is None is' goes' =
            subst (λ (q : Where). Arrives h q (divided by size it None)) (ap (λ (m : ℕ). Waits m) n.above_is ∙ sym (waits_to by n.depth (values it) to is' goes'))
            (waits_there h a lt g at (o.Split by) e all (split_by by e all) (divided by size it None) (into_is None is') refl refl refl)
        by_part to size size_is (Some i) is' goes' =
            let l = low_has (o.Split by) e all in
            let same_parts : parts by (values it) ≡ parts by (values (whose (lowest (members old g))))
            = ap (λ (q : Processor). parts by (values q)) (sym (known_has h a lt g at (o.Split by) e all)) ∙ parts_as_many next set round s base g h by e in_node in
            let space : it.level.space ≡ (whose (lowest (members old g))).level.space
            = (is.one_space g h (lowest (members old g)) a.runner l.0.runner locked in_node l.1 a.is l.0.is).0.space ∙ ap (λ (q : Processor). q.level.space) (sym l.2) in
            let index : i ≡ first g + i - first g = omega arith in
            subst (λ (q : Where). Arrives h q (divided by size it (Some i))) (ap (λ (m : ℕ). InGroup m) n.above_is ∙ sym (enters_to by n.depth i to goes'))
            (enters_there h a lt g at (o.Split by) e all (split_by by e all) i (divided by size it (Some i)) (into_is (Some i) is') (few by (values it) (values (whose (lowest (members old g)))) i same_parts is') refl refl
            (child_same it.level.space (whose (lowest (members old g))).level.space (parts by (values it)) (parts by (values (whose (lowest (members old g))))) i (first g + i - first g) space
            same_parts index)
            size_is)

    -- ---- the group of a start begins

    abbrev begun_by : (e : does_by g ≡ Some o.Begin) (all : All g o.Begin) → g ≡ 0 → Parting h a lt g at o.Begin e all
    begun_by e all is_zero = record { many_parts = 1; into = first_part (count_of g); tree_is = ap (λ (m : ℕ). t.split m 1 (first_part (count_of g)) (begun_of g)) (sym is_zero) }

    begins : (e : does_by g ≡ Some o.Begin) (all : All g o.Begin) → g ≡ 0 → kind old g ≡ Some (Asynchronous false) → Stands h (settle h a)
    begins e all is_zero kind_is =
        moves h a lt g at o.Begin e all (λ to goes' size size_is. by_taken to size size_is (is_taken (agreed acting (members old g)) it) refl (subst (λ (q : Where). goes q o.Begin (is_taken (agreed acting (members old g)) it) ≡ Some to) in_root goes'))
      where
        none_above : around h a ≡ 0
        none_above = root_outer set old spaces h g it.level it.outer its_levels is_zero

        in_root : here.place ≡ InRoot
        in_root =
            first_is here.place InRoot
            (sym (place_of (Asynchronous false) kind_is) ∙ ap (λ (m : ℕ). where_in m (Some (Asynchronous false)) (is_member h (body_of (Some (Asynchronous false)) (members old g)))) none_above)

        many_root : length (members old g) ≡ set.processors
        many_root =
            ap (λ (m : ℕ). length (members old m)) is_zero ∙ ap (λ (l : List ℕ). length l) base.sound.root ∙ length-below set.processors []
            ∙ (let none' : set.processors + 0 ≡ set.processors = omega arith in none')

        few' : nat_lt h (count_of g) ≡ is_taken (agreed acting (members old g)) it
        few' =
            ap (λ (m : ℕ). nat_lt h (min (not_negative (agreed acting (members old g))) m)) many_root ∙ few_of h (not_negative (agreed acting (members old g))) set.processors lt
            ∙ ap (λ (m : ℕ). nat_lt m (not_negative (agreed acting (members old g)))) (sym here.number_is)

        into_is : (b : Bool) → is_taken (agreed acting (members old g)) it ≡ b → first_part (count_of g) h ≡ (if b then Some 0 else None)
        into_is b is' = ap (λ (c : Bool). if c then Some 0 else None) (few' ∙ is')

        level_is : it.level ≡ first_level set h
        level_is = root_first set old spaces h g it.level it.outer its_levels is_zero

        low_level : (whose (lowest (members old g))).level.space ≡ group_space set
        low_level =
            let l = low_has o.Begin e all in
            let low = lowest (members old g) in
            let its = is_placed low l.0 in
            let levels = subst (λ (m : ℕ). AreLevels set old spaces low m l.0.runner.has.level l.0.runner.has.outer) (all.stand low l.1) its.levels in
            ap (λ (q : Processor). q.level.space) l.2 ∙ ap (λ (x : Level). x.space) (root_first set old spaces low g l.0.runner.has.level l.0.runner.has.outer levels is_zero)

        by_taken : (to : Where) (size : ℕ) → size ≡ length (members new (new.places h)) → (b : Bool) → is_taken (agreed acting (members old g)) it ≡ b → Some (if b then InGroup 0 else Waits 0) ≡ Some to
            → Arrives h to (if b then enter_level (start_level it size) (drop_last 1 it) else drop_last 1 it)
        by_taken to size size_is true is' goes' =
            subst (λ (q : Where). Arrives h q (enter_level (start_level it size) (drop_last 1 it))) (ap (λ (m : ℕ). InGroup m) none_above ∙ first_is (InGroup 0) to goes')
            (enters_there h a lt g at o.Begin e all (begun_by e all is_zero) 0 (enter_level (start_level it size) (drop_last 1 it)) (into_is true is') (omega arith) refl refl
            (ap (λ (x : Level). range_of x.space) level_is ∙ ap range_of (sym low_level)) size_is)
        by_taken to size size_is false is' goes' =
            subst (λ (q : Where). Arrives h q (drop_last 1 it)) (ap (λ (m : ℕ). Waits m) none_above ∙ first_is (Waits 0) to goes')
            (waits_there h a lt g at o.Begin e all (begun_by e all is_zero) (drop_last 1 it) (into_is false is') refl refl refl)

    steps : (op : Operation) (e : does_by g ≡ Some op) (all : All g op) → StepFits old g op → Stands h (settle h a)
    steps o.Begin e all fits = begins e all fits.0 fits.1
    steps o.Resume e all fits = resumes e all fits.0 fits.1 fits.2
    steps (o.Split by) e all fits = splits by e all fits
    steps o.Shrink e all fits = shrinks_so e all fits.0
    steps o.Farm e all fits = farms e all fits
    steps o.Seq e all fits = sends e all fits
    steps o.End e all fits = ends e all fits
    steps (o.Meet true) e all fits = meets e all fits.1.0 fits.1.1 fits.0
    steps (o.Meet false) e all fits = absurd fits
    steps op e all fits = absurd fits

  pub each_stands : (h : ℕ) (a : Actor h) → h < set.processors → Stands h (settle h a)
  each_stands h a lt =
      trees.by_does next set round s base (does_by (old.places h))
      (λ none. quiet h a lt none (subst (λ (d : Option Operation). KeepsOrDoes d a.acting.due) none (each_steps next set round s base h a lt)))
      (λ op e. let all = trees.all_do next set round s base (old.places h) op e in steps h a lt (old.places h) refl op e all all.fits)

  pub long : length (settled acting old new acting) ≡ set.processors
  long = settled_length acting old new acting ∙ many next set round s base

  -- each processor of the new state
  pub runner_stands : (h : ℕ) (r : Runner W) → slice_get (settled acting old new acting) h ≡ Some r → Stands h r
  runner_stands h r at =
      let below = at_below (settled acting old new acting) h r at in
      let size = long in
      let lt : h < set.processors = omega (arith, below, size) in
      let a = act next set round s base h lt in
      let same : r ≡ settle h a = first_is r (settle h a) (sym at ∙ settled_at acting old new acting h a.acting a.at) in
      subst (Stands h) (sym same) (each_stands h a lt)
