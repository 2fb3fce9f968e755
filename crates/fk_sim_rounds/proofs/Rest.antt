-- Known rounds keep groups but those that end, at whose words nobody is left.
use Rattle.std.proofs.Common.{◌≡◌, ◌≢◌, ◌⊎◌, ℕ, zero, suc, ◌+◌, ◌<◌, List, length, Option, None, Some, sym, ap, subst, ◌∙◌, refl, arith, inl, inr, ⊎_elim, true}
use Rattle.std.specs.Prelude.{is_some}
use Rattle.std.proofs.lemmas.Bool.{cases_eq, cases_lt}
use Rattle.fk_tree.specs.declared.node.Kind.TheVariants.{Lockstep}
use Rattle.fk_tree.specs.Tree as trees
use Rattle.fk_tree.specs.Tree.{Tree}
use Rattle.fk_tree.specs.Sound.{IsSound}
use Rattle.fk_tree.proofs.Shapes.{some-given, awaits-some}
use Rattle.fk_meaning_operation.specs.declared.operation.Operation.{Operation}
use Rattle.fk_meaning_operation.specs.declared.operation.Operation.TheVariants as o
use Rattle.fk_sim_nodes.specs.Node.{numbered, of_node}
use Rattle.fk_sim_nodes.specs.Alone.{later}
use Rattle.fk_sim_match.specs.Cycle.{NodeIsLeft}
use Rattle.fk_sim_block.specs.Owner.{Doing, core_source}
use Rattle.fk_sim_block.specs.Node.{IsAtRest, barrier_word, closing_word}
use Rattle.fk_sim_match.specs.Nodes.{first_of, is_lockstep, plan_of}
use Rattle.fk_sim_match.specs.Behind.{blocks_of}
use Rattle.fk_sim_match.proofs.Nodes.{tells}
use Rattle.fk_sim_match.proofs.Rounds.{not_none}
use Rattle.fk_sim_rounds.specs.After.{tree_after}
use Rattle.fk_sim_rounds.specs.Rounds.{IsKnownRound}
use Rattle.fk_sim_rounds.specs.Rest.{HasNoGroup, KnownRoundsKeepGroups, EndedGroupsRest}
use Rattle.fk_sim_rounds.proofs.Groups.{somebody, there_are, many_length}
use Rattle.fk_sim_rounds.proofs.Moved.{kind_there}
use Rattle.fk_sim_rounds.proofs.Close.{all_do}
use Rattle.fk_sim_rounds.proofs.Acted.{acted}
use Rattle.fk_sim_rounds.proofs.TreeAfter as after
use Rattle.fk_sim_rounds.proofs.TreeAfter.{Moving, ByEnd, ByShrink, BySplit, ByNone, moving, moves_some, some_leave, no_leave, ends_or}

-- ---- nodes that stay

-- a node ends, or none of those with lower numbers does
ends_below : (does : ℕ → Option Operation) (n : ℕ) → ((g : ℕ) × (does g ≡ Some o.End)) ⊎ ((g : ℕ) → g < n → does g ≢ Some o.End)
ends_below does zero = inr (λ g lt e. omega (arith, lt))
ends_below does (suc n) =
    ⊎_elim (λ ends. inl (n, ends))
    (λ other.
    ⊎_elim (λ one. inl one) (λ none. inr (λ g lt. ⊎_elim (λ e. subst (λ k. does k ≢ Some o.End) (sym e) other) (λ ne. none g (omega (arith, lt, ne))) (cases_eq g n))) (ends_below does n))
    (ends_or (does n))

module _ (p : ℕ) (tree : Tree) (ds : List Doing) (sound : IsSound p tree) (long : length ds ≡ p) (round : IsKnownRound tree ds) where
  -- the group around a node that moves some is there still
  pub around_stays : (g : ℕ) (operation : Operation) → round.does g ≡ Some operation → moves_some operation ≡ true → HasNoGroup (tree_after tree ds) → trees.parent tree g ≡ 0
  around_stays g operation is moves none =
      let kind = after.moving_group p tree sound g operation moves (round.known g operation is) in
      let there = awaits-some tree (trees.parent tree g) g (after.parent_waits p tree sound g kind) in
      ⊎_elim (λ e. e)
      (λ ne. absurd (there (sym (after.parent_same p tree sound ds round long g operation is moves) ∙ none (trees.parent tree g) ne))) (cases_eq (trees.parent tree g) 0)

  -- where none ends all nodes stay, but those whose group stays
  none_was : ((g : ℕ) → g < tree.given → round.does g ≢ Some o.End) → HasNoGroup (tree_after tree ds) → HasNoGroup tree
  none_was nobody none k ne = ⊎_elim (λ lt. by_move lt (moving (round.does k))) (λ le. sound.numbered k le) (cases_lt k tree.given)
    where
      by_move : k < tree.given → Moving (round.does k) → tree.nodes k ≡ None
      by_move lt (ByEnd is) = absurd (nobody k lt is)
      by_move lt (ByShrink is) = absurd ((round.known k o.Shrink is).1 (around_stays k o.Shrink is refl none))
      by_move lt (BySplit by is) = after.kept p tree sound ds round long k lt (ap some_leave is) (none k ne)
      by_move lt (ByNone e) = after.kept p tree sound ds round long k lt (no_leave (round.does k) e) (none k ne)

pub known_rounds_keep_groups : KnownRoundsKeepGroups
known_rounds_keep_groups p tree ds sound long known =
    ⊎_elim (λ ends. inl (record { round = known; group = ends.0; ends = ends.1 })) (λ nobody. inr (none_was p tree ds sound long known nobody)) (ends_below known.does tree.given)

begin_or_end : o.Begin ≡ o.End → ⊥
begin_or_end e = absurd (cc)

-- ---- the words of one that ends

pub ended_groups_rest : EndedGroupsRest
ended_groups_rest core image places nestings setting tree spaces nodes t stages hs ps ds own own' control does g spaced sound stand many left has kind steps is =
    let plan = plan_of tree spaces nodes in
    let blocks = blocks_of core image places nestings setting plan (first_of spaces) in
    let lock : plan.in_lockstep g ≡ true = ap is_lockstep kind in
    let afters = of_node g nodes left.afters in
    let ms = of_node g nodes (numbered 0 hs) in
    let qs = of_node g nodes ps in
    let doings = of_node g nodes ds in
    let a = acted core image places nestings setting plan (first_of spaces) (later t) g afters ms qs doings (own' g) o.End (all_do tree does g 0 o.End nodes ds is stand steps)
    (there_are nodes g ds (somebody setting.processors tree sound nodes stand many g kind) (many_length nodes hs ds left.done_as_many).1) refl
    (subst (λ b. NodeIsLeft (core_source core setting) image plan blocks b (later t) g afters ms qs doings (own' g)) lock (left.nodes g)) in
    let rest : IsAtRest (first_of spaces g) (own' g)
    = ⊎_elim (λ moved. moved.0.rest) (λ begun. absurd (begin_or_end begun.1)) a.how in
    let first = first_of spaces g in
    let there : is_some (tree.nodes g) ≡ true = kind_there (tree.nodes g) Lockstep kind in
    let given = some-given setting.processors tree sound g (not_none (tree.nodes g) there) in
    let owned : (offset : ℕ) → offset < 8 → control (first + offset) ≡ own' g (first + offset)
    = λ offset lt. has g (first + offset) (tells tree spaces spaced nodes g offset there given lt).own in
    record { barrier = owned barrier_word (omega arith) ∙ rest.barrier; closing = owned closing_word (omega arith) ∙ rest.closing }
