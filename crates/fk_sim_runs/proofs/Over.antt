-- The words of nodes in one cycle, from a state to the one behind it.
use Rattle.std.proofs.Common.{◌≡◌, ⊎_elim, ℕ, ◌<◌, List, Some, sym, ap, ◌∙◌, subst}
use Rattle.std.specs.Prelude.{map, nat_lt, slice_get, is_some, true, if◌then◌else◌}
use Rattle.std.proofs.lemmas.Bool.{cases_eq, cases_lt, cond-true, cond-false, lt-ltb, le-ltb}
use Rattle.std.proofs.lemmas.List.Elements.{All-head}
use Rattle.fk_space.specs.Space.{Space, IsSpace}
use Rattle.fk_tree.specs.Sound.{Has, IsSound}
use Rattle.fk_tree.proofs.Shapes.{some-given}
use Rattle.fk_meaning.specs.Processor.{Level, Setting, group_space}
use Rattle.fk_meaning.specs.Round.{Runner, State, result, is_possible}
use Rattle.fk_core.specs.declared.op.CoreOp.{CoreOp}
use Rattle.fk_core.specs.Next.{Position, next}
use Rattle.fk_lockstep_tree.specs.Ranges.{range_of, ranges_of}
use Rattle.fk_lockstep_tree.specs.Rounds.{IsRound}
use Rattle.fk_lockstep_tree.proofs.Paths.{root_first, node_range}
use Rattle.fk_lockstep_tree.proofs.Ranges.{read_root, ranges_stay}
use Rattle.fk_sim_match.specs.Stage.{Stage, counts_for, AllDoOne}
use Rattle.fk_sim_match.proofs.Rounds.{not_none}
use Rattle.fk_sim_block.specs.Node.{Nestings}
use Rattle.fk_sim_rounds.specs.Next.{HasRange}
use Rattle.fk_sim_rounds.specs.Transport.{HaveSameSpaces}
use Rattle.fk_sim_runs.specs.Lists.{IsOfTree}
use Rattle.fk_sim_runs.specs.Reached.{IsReached}
use Rattle.fk_sim_runs.specs.Facts.{ranges_over, ReachedRangesStay}
use Rattle.fk_sim_runs.proofs.Known.{counts_single}

pub told_range : (whole s : Space) → whole ≡ range_of s → HasRange whole s
told_range whole s e = (sym (ap (λ (x : Space). x.low) e), sym (ap (λ (x : Space). x.high) e))

-- each processor has the words of its node
pub own_range : (core : List CoreOp) (nestings : Nestings) (setting : Setting) (s : State Position) (h : ℕ) (r : Runner Position) → IsReached core nestings setting s → slice_get s.runners h ≡ Some r
    → h < setting.processors → ranges_of s (s.tree.places h) ≡ range_of r.has.level.space
own_range core nestings setting s h r is at lt =
    let p = is.stands.tree.placed h r at in
    let n = s.tree.places h in
    let l = r.has.level in
    ⊎_elim
    (λ zero_is.
    ap (ranges_of s) zero_is
    ∙ read_root (next core) setting s is.stands.sound (ranges_of s) is.stands.tree h (subst (λ (k : ℕ). Has s.tree k h) zero_is (is.stands.sound.placed h lt).member)
    ∙ ap (λ (x : Level). range_of x.space) (sym (root_first setting s.tree (ranges_of s) h n l r.has.outer p.levels zero_is)))
    (λ ne. sym (node_range setting s.tree (ranges_of s) h n l r.has.outer p.levels ne))
    (cases_eq n 0)

pub over_before : (setting : Setting) (s behind : State Position) → IsSound setting.processors s.tree → HaveSameSpaces s.tree (ranges_of s) (ranges_over setting s behind)
over_before setting s behind sound g some =
    let lt = some-given setting.processors s.tree sound g (not_none (s.tree.nodes g) some) in
    sym
    (cond-true (nat_lt g s.tree.given) (ranges_of s g) (if is_some (behind.tree.nodes g) then ranges_of behind g else range_of (group_space setting)) (lt-ltb g s.tree.given lt))

-- the own space of a processor is the first one
own_space : (core : List CoreOp) (nestings : Nestings) (setting : Setting) (s : State Position) (h : ℕ) (r : Runner Position) → IsReached core nestings setting s → slice_get s.runners h ≡ Some r
    → IsSpace r.has.level.space
own_space core nestings setting s h r is at = All-head IsSpace r.has.level.space (map (λ (l : Level). l.space) r.has.outer) (is.spaces h r at)

-- a possible round of such a state
pub is_round : (core : List CoreOp) (nestings : Nestings) (setting : Setting) (stages : List Stage) (s : State Position) → IsReached core nestings setting s
    → AllDoOne stages → is_possible (next core) setting (counts_for stages) s ≡ true → IsRound (next core) setting (counts_for stages) s
is_round core nestings setting stages s is ones possible = record {
  sound = is.stands.sound;
  one_program = is.stands.one_program;
  tree = is.stands.tree;
  single = counts_single stages ones;
  possible = possible;
}

pub reached_ranges_stay : ReachedRangesStay
reached_ranges_stay core nestings main setting stages s g list is is' ones possible lt there =
    ranges_stay Position (next core) setting (counts_for stages) s g
    (record {
      base = is_round core nestings setting stages s is ones possible;
      one_space = is.stands.one_space.members;
      spaces = λ h r at. own_space core nestings setting s h r is at;
      behind = is'.stands.sound;
    })
    lt there

pub over_behind : (core : List CoreOp) (nestings : Nestings) (main : ℕ) (setting : Setting) (stages : List Stage) (s : State Position)
    → let behind = result (next core) setting (counts_for stages) s in
    IsOfTree core nestings main → IsReached core nestings setting s → IsReached core nestings setting behind → AllDoOne stages
    → is_possible (next core) setting (counts_for stages) s ≡ true → HaveSameSpaces behind.tree (ranges_over setting s behind) (ranges_of behind)
over_behind core nestings main setting stages s list is is' ones possible g some =
    let behind = result (next core) setting (counts_for stages) s in
    let new = if is_some (behind.tree.nodes g) then ranges_of behind g else range_of (group_space setting) in
    ⊎_elim
    (λ lt.
    cond-true (nat_lt g s.tree.given) (ranges_of s g) new (lt-ltb g s.tree.given lt)
    ∙ sym (reached_ranges_stay core nestings main setting stages s g list is is' ones possible lt (not_none (behind.tree.nodes g) some)))
    (λ ge.
    cond-false (nat_lt g s.tree.given) (ranges_of s g) new (le-ltb g s.tree.given ge)
    ∙ cond-true (is_some (behind.tree.nodes g)) (ranges_of behind g) (range_of (group_space setting)) some)
    (cases_lt g s.tree.given)
