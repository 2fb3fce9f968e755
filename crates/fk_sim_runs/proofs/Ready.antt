-- The words of the group to come.
use Rattle.std.proofs.Common.{◌≡◌, ◌≢◌, ⊎_elim, inr, ℕ, zero, suc, ◌<◌, Bool, true, false, List, length, Option, Some, None, refl, sym, ap, subst, ◌∙◌, arith}
use Rattle.std.specs.Prelude.{nat_lt, is_some, if◌then◌else◌}
use Rattle.std.proofs.lemmas.Bool.{cases_eq, cond-true, cond-false, le-ltb, false≢true}
use Rattle.std.proofs.lemmas.List.{length-map}
use Rattle.fk_space.specs.Space.{Space}
use Rattle.fk_tree.specs.declared.node.Kind.{Kind}
use Rattle.fk_tree.specs.declared.node.Kind.TheVariants.{Asynchronous}
use Rattle.fk_tree.specs.Tree.{Node, Tree, parent, kind}
use Rattle.fk_tree.specs.Sound.{awaits, IsSound}
use Rattle.fk_tree.proofs.Shapes.{some-given, awaits-some}
use Rattle.fk_tree.proofs.Begins.{root_some}
use Rattle.fk_meaning.specs.Processor.{Setting, group_space}
use Rattle.fk_meaning.specs.Round.{Round, State, result, is_possible}
use Rattle.fk_core.specs.declared.op.CoreOp.{CoreOp}
use Rattle.fk_core.specs.Next.{Position, next}
use Rattle.fk_machine.specs.Cycle.{cycle}
use Rattle.fk_lockstep_tree.specs.Ranges.{range_of, ranges_of}
use Rattle.fk_lockstep_tree.proofs.Acts.{result_is}
use Rattle.fk_lockstep_tree.proofs.Stepped as trees
use Rattle.fk_sim_block.specs.Owner.{Doing}
use Rattle.fk_sim_block.specs.Node.{Nestings, IsAtRest}
use Rattle.fk_sim_match.specs.Stage.{Stage, counts_for, AllDoOne}
use Rattle.fk_sim_match.specs.Nodes.{first_of}
use Rattle.fk_sim_rounds.specs.After.{runners_of}
use Rattle.fk_sim_match.proofs.Rounds.{not_none}
use Rattle.fk_sim_rounds.specs.Rest.{HasNoGroup}
use Rattle.fk_sim_rounds.proofs.Results.{due_do_one}
use Rattle.fk_sim_rounds.proofs.StartsInRuns.{near_do_one}
use Rattle.fk_sim_rounds.proofs.Rest.{known_rounds_keep_groups}
use Rattle.fk_sim_rounds.specs.RestInRuns.{HaveOneHeader}
use Rattle.fk_sim_rounds.proofs.RestInRuns.{cycles_stay_ready, starts_stay_ready}
use Rattle.fk_sim_runs.specs.Reached.{IsReached}
use Rattle.fk_sim_runs.specs.Facts.{HasSpace, ranges_over}
use Rattle.fk_sim_runs.specs.Ready.{ReachedCyclesStayReady, ReachedStartsFindHeaders}
use Rattle.fk_sim_runs.proofs.Known.{counts_single, actings_many, reached_rounds_are_known}
use Rattle.fk_sim_runs.proofs.Over.{told_range, over_before, is_round}

-- ---- a root that doesn't wait is alone

module _ (p : ℕ) (tree : Tree) (sound : IsSound p tree) (lower : (n : ℕ) → n ≢ 0 → tree.nodes n ≢ None → parent tree n < n) (alone : Bool) (root : kind tree 0 ≡ Some (Asynchronous alone)) where
  none_below : (bound g : ℕ) → g < bound → g ≢ 0 → tree.nodes g ≢ None → ⊥
  none_below zero g lt ne there = absurd (omega (arith, lt))
  none_below (suc bound) g lt ne there =
      let up = parent tree g in
      let waits : awaits (kind tree up) g ≡ true = sound.awaited g ne there in
      let before = lower g ne there in
      ⊎_elim
      (λ zero_is. false≢true (sym (ap (λ (k : Option Kind). awaits k g) (ap (kind tree) zero_is ∙ root)) ∙ waits))
      (λ ne'. none_below bound up (omega (arith, before, lt)) ne' (awaits-some tree up g waits))
      (cases_eq up 0)

  alone_there : HasNoGroup tree
  alone_there g ne = by (tree.nodes g) refl
    where
      by : (x : Option Node) → tree.nodes g ≡ x → tree.nodes g ≡ None
      by None e = e
      by (Some node) e = absurd (none_below (suc g) g (omega arith) ne (λ none. let clash : None ≡ Some node = sym none ∙ e in absurd (cc)))

given_some : (p : ℕ) (tree : Tree) → IsSound p tree → tree.given ≢ 0
given_some p tree sound e = let lt = some-given p tree sound 0 (root_some p tree sound) in omega (arith, lt, e)

first_at : (spaces : ℕ → Space) (g : ℕ) → g ≢ 0 → first_of spaces g ≡ (spaces g).low
first_at spaces zero ne = absurd (ne refl)
first_at spaces (suc g) ne = refl

-- ---- the words of a group in the root

module _ (core : List CoreOp) (nestings : Nestings) (setting : Setting) (s : State Position) (stages : List Stage) (is : IsReached core nestings setting s) (small : HasSpace setting) where
  abbrev round : Round
  round = counts_for stages

  abbrev behind : State Position
  behind = result (next core) setting round s

  abbrev spaces : ℕ → Space
  spaces = ranges_over setting s behind

  one_header : HaveOneHeader s.tree spaces (group_space setting).low
  one_header = record {
    same = λ g ne some up.
        first_at spaces g ne
        ∙ ap (λ (x : Space). x.low) (sym (over_before setting s behind is.stands.sound g some) ∙ is.stands.tree.ranges.whole g ne (not_none (s.tree.nodes g) some) up);
    within = omega (arith, small);
  }

  -- the next group has all of the group space: it is in the root, where there is no other one
  module _ (is' : IsReached core nestings setting behind) (ones : AllDoOne stages) (possible : is_possible (next core) setting round s ≡ true) (none : HasNoGroup s.tree) where
    abbrev g : ℕ
    g = s.tree.given

    in_root : behind.tree.nodes g ≢ None → parent behind.tree g ≡ 0
    in_root there =
        let ne = given_some setting.processors s.tree is.stands.sound in
        let up = parent behind.tree g in
        let lives = awaits-some behind.tree up g (is'.stands.sound.awaited g ne there) in
        let it = is_round core nestings setting stages s is ones possible in
        let same : behind.tree ≡ trees.new (next core) setting round s it = ap (λ (u : State Position). u.tree) (result_is (next core) setting round s (counts_single stages ones) possible) in
        let was = trees.was_there (next core) setting round s it up (is'.stands.tree.upward g ne there) (subst (λ (t : Tree). t.nodes up ≢ None) same lives) in
        ⊎_elim (λ zero_is. zero_is) (λ ne'. absurd (was (none up ne'))) (cases_eq up 0)

    next_range : spaces g ≡ range_of (group_space setting)
    next_range =
        let new = if is_some (behind.tree.nodes g) then ranges_of behind g else range_of (group_space setting) in
        cond-false (nat_lt g s.tree.given) (ranges_of s g) new (le-ltb g s.tree.given (omega arith)) ∙ by (is_some (behind.tree.nodes g)) refl
      where
        by : (b : Bool) → is_some (behind.tree.nodes g) ≡ b → (if is_some (behind.tree.nodes g) then ranges_of behind g else range_of (group_space setting)) ≡ range_of (group_space setting)
        by true some =
            let there = not_none (behind.tree.nodes g) some in
            cond-true (is_some (behind.tree.nodes g)) (ranges_of behind g) (range_of (group_space setting)) some
            ∙ is'.stands.tree.ranges.whole g (given_some setting.processors s.tree is.stands.sound) there (in_root there)
        by false gone = cond-false (is_some (behind.tree.nodes g)) (ranges_of behind g) (range_of (group_space setting)) gone

pub reached_cycles_stay_ready : ReachedCyclesStayReady
reached_cycles_stay_ready core image places nestings cycles firsts main setting s nodes printed stages m the_law list is small few running with possible ready =
    let f = with.followed in
    let spaces' = ranges_over setting s (result (next core) setting (counts_for stages) s) in
    let ones = due_do_one core s.tree spaces' 0 stages (runners_of f.ps) f.before.due in
    cycles_stay_ready core image places nestings cycles firsts main setting spaces' s nodes printed stages m (group_space setting).low the_law list.jumps few running with possible
    (one_header core nestings setting s stages is small)
    (λ did shared all.
    let many : length did ≡ setting.processors
    = sym (length-map did (λ (d : Doing). d.acting)) ∙ actings_many core list.jumps setting stages s f.ps did f.shared shared f.order f.beside ones possible all ∙ is.stands.tree.many in
    ⊎_elim (λ known. known_rounds_keep_groups setting.processors s.tree did is.stands.sound many known)
    (λ begins. inr (λ none. alone_there setting.processors s.tree is.stands.sound is.stands.tree.upward false begins.kind))
    (reached_rounds_are_known core nestings main setting stages s f.ps did f.shared shared list is f.order f.beside ones possible all))
    ready

pub reached_starts_find_headers : ReachedStartsFindHeaders
reached_starts_find_headers core image places nestings main setting s nodes printed stages m list is is' small few running with possible ready =
    let spaces' = ranges_over setting s (result (next core) setting (counts_for stages) s) in
    let before = with.followed.before in
    let alone = alone_there setting.processors s.tree is.stands.sound is.stands.tree.upward before.alone before.kind in
    let rest = starts_stay_ready core image places nestings setting spaces' s nodes printed stages m (group_space setting).low list.jumps few running with possible
    (one_header core nestings setting s stages is small) alone ready in
    let range = next_range core nestings setting s stages is small is' (near_do_one stages with.followed.near) possible alone in
    let first : first_of spaces' s.tree.given ≡ (group_space setting).low
    = first_at spaces' s.tree.given (given_some setting.processors s.tree is.stands.sound) ∙ ap (λ (x : Space). x.low) range in (
      record {
        rest = subst (λ k. IsAtRest k (cycle m).shared.control) (sym first) rest;
        range = told_range (spaces' s.tree.given) (group_space setting) range;
      },
      λ none. rest,
    )
