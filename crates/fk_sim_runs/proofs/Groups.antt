-- What each group does next, in a state that a run has come to.
use Rattle.std.proofs.Common.{◌≡◌, ◌≢◌, ◌⊎◌, inl, inr, ℕ, zero, suc, ◌+◌, ◌≤◌, true, List, [], ◌∷◌, length, map, Some, refl, sym, ap, ◌∙◌, subst, arith}
use Rattle.std.specs.Prelude.{All, slice_get}
use Rattle.std.proofs.lemmas.List.Elements.{All-head, All-tail}
use Rattle.fk_space.specs.Space.{IsSpace}
use Rattle.fk_meaning_operation.specs.Kinds.{class_of}
use Rattle.fk_meaning_operation.specs.declared.operation.SplitKind.{SplitKind}
use Rattle.fk_meaning_operation.specs.declared.operation.SplitKind.TheVariants.{Fork}
use Rattle.fk_meaning_operation.specs.declared.operation.Operation.{Operation}
use Rattle.fk_meaning_operation.specs.declared.operation.Operation.TheVariants as o
use Rattle.fk_tree.specs.declared.node.Kind.TheVariants.{Lockstep}
use Rattle.fk_tree.specs.Tree as trees
use Rattle.fk_tree.proofs.Lists.{length-between}
use Rattle.fk_meaning.specs.Processor.{Level, Setting}
use Rattle.fk_meaning.specs.Round.{State, body_of}
use Rattle.fk_core.specs.declared.op.CoreOp.{CoreOp}
use Rattle.fk_core.specs.Next.{Position, landing, next}
use Rattle.fk_lockstep.proofs.Round.{first_is, at_below}
use Rattle.fk_lockstep_tree.specs.Where.{Where, InRoot, InGroup}
use Rattle.fk_lockstep_tree.specs.Ranges.{ranges_of}
use Rattle.fk_lockstep_tree.specs.Placed.{AreLevels}
use Rattle.fk_lockstep_tree.proofs.Paths.{at_node, lockstep_place}
use Rattle.fk_lockstep_tree.proofs.Moves.{ends_in_root}
use Rattle.fk_sim_block.specs.Owner.{Owner}
use Rattle.fk_sim_block.specs.Next.{OpAt}
use Rattle.fk_sim_block.specs.Ready.{is_no_step}
use Rattle.fk_sim_block.specs.Node.{Nestings}
use Rattle.fk_sim_block.specs.Lockstep.{IsInStart}
use Rattle.fk_sim_block.specs.Parts.{IsAskedToSplit, IsInPart}
use Rattle.fk_sim_rounds.specs.Next.{landed}
use Rattle.fk_sim_rounds.specs.After.{runners_of}
use Rattle.fk_sim_rounds.specs.Program.{MayMoveInStep, MayInStep, IsInStep, AllInStep}
use Rattle.fk_sim_rounds.proofs.Agreed.{place_at}
use Rattle.fk_sim_rounds.proofs.Program.{runner_at, groups_have_next}
use Rattle.fk_sim_rounds.proofs.Way.{ended_next}
use Rattle.fk_sim_runs.specs.Lists.{IsOfTree}
use Rattle.fk_sim_runs.specs.Reached.{the_end, IsReached}
use Rattle.fk_sim_runs.specs.Facts.{ReachedGroupsHaveNext}
use Rattle.fk_sim_runs.specs.Levels.{leaves_part}
use Rattle.fk_sim_runs.proofs.Ways.{MovesAt, StepOf, Leading}
use Rattle.fk_sim_runs.proofs.Nexts.{leads_to, ready, may_alone, does}

pub runners_length : (ps : List Owner) → length (runners_of ps) ≡ length ps
runners_length [] = refl
runners_length (p ∷ ps) = ap suc (runners_length ps)

all_in_step : (core : List CoreOp) (nestings : Nestings) (g number : ℕ) (ns : List ℕ) (ps : List Owner) → length ns ≡ length ps
    → ((i n : ℕ) (p : Owner) → slice_get ns i ≡ Some n → slice_get ps i ≡ Some p → n ≡ g → IsInStep core nestings (number + i) (landed core p)) → AllInStep core nestings g number ns ps
all_in_step core nestings g number [] [] many each = tt
all_in_step core nestings g number (n ∷ ns) (p ∷ ps) many each = (
  (λ e. let none : number + 0 ≡ number = omega arith in subst (λ j. IsInStep core nestings j (landed core p)) none (each 0 n p refl refl e)),
  all_in_step core nestings g (suc number) ns ps (omega (arith, many))
      (λ i m q at is e. let more : number + suc i ≡ suc number + i = omega arith in subst (λ j. IsInStep core nestings j (landed core q)) more (each (suc i) m q at is e)),
)
all_in_step core nestings g number [] (p ∷ ps) many each = absurd (omega (arith, many))
all_in_step core nestings g number (n ∷ ns) [] many each = absurd (omega (arith, many))

-- some levels around
around_of : (outer : List Level) (n : ℕ) → length outer ≡ suc n → (around : Level) × (further : List Level) × (outer ≡ around ∷ further)
around_of [] n e = absurd (omega (arith, e))
around_of (l ∷ outer) n e = (l, outer, refl)

beyond_of : (outer : List Level) (n : ℕ) → length outer ≡ suc (suc n) → (around : Level) × (beyond : Level) × (further : List Level) × (outer ≡ around ∷ beyond ∷ further)
beyond_of [] n e = absurd (omega (arith, e))
beyond_of (l ∷ []) n e = absurd (omega (arith, e))
beyond_of (l ∷ m ∷ outer) n e = (l, m, outer, refl)

one_of : (outer : List Level) → length outer ≡ 1 → (around : Level) × (outer ≡ around ∷ [])
one_of [] e = absurd (omega (arith, e))
one_of (l ∷ []) e = (l, refl)
one_of (l ∷ m ∷ outer) e = absurd (omega (arith, e))

module _ (core : List CoreOp) (nestings : Nestings) (main : ℕ) (setting : Setting) (s : State Position) (ps : List Owner) (g : ℕ) (list : IsOfTree core nestings main)
    (is : IsReached core nestings setting s) (few : setting.processors ≤ 1024) (runners : s.runners ≡ runners_of ps) (kind : trees.kind s.tree g ≡ Some Lockstep) where
  module _ (h : ℕ) (p : Owner) (at : slice_get s.runners h ≡ Some p.runner) (leads : Leading core p.runner.left) where
    spaces_are : All IsSpace (map (λ (l : Level). l.space) (p.runner.has.level ∷ p.runner.has.outer))
    spaces_are = is.spaces h p.runner at

    -- in a part, which it is about to leave
    in_part : (around beyond : Level) (further : List Level) → p.runner.has.outer ≡ around ∷ beyond ∷ further → leaves_part leads.operation ≡ true → IsInPart nestings (landed core p)
    in_part around beyond further e leaves =
        let spaces = subst (λ (ls : List Level). All IsSpace (map (λ (l : Level). l.space) (p.runner.has.level ∷ ls))) e spaces_are in
        let long : length p.runner.has.outer ≡ suc (suc (length further)) = ap (λ (ls : List Level). length ls) e in
        let saved = (is.saves h p.runner at).some leads.op leads.operation leads.at (omega (arith, long)) leaves in
        record {
          around = around;
          beyond = beyond;
          further = further;
          outer = e;
          is_space =
              All-head IsSpace around.space (map (λ (l : Level). l.space) (beyond ∷ further))
              (All-tail IsSpace p.runner.has.level.space (map (λ (l : Level). l.space) (around ∷ beyond ∷ further)) spaces);
          saved = saved;
          numbers = (is.numbers h p.runner at).around leads.op leads.operation around (beyond ∷ further) leads.at leaves e saved;
        }

    part_at : (n : ℕ) → length p.runner.has.outer ≡ suc (suc n) → leaves_part leads.operation ≡ true → IsInPart nestings (landed core p)
    part_at n e leaves = let b = beyond_of p.runner.has.outer n e in in_part b.0 b.1 b.2 b.3 leaves

    -- in the group of a `start`
    start_at : length p.runner.has.outer ≡ 1 → IsInStart nestings (landed core p)
    start_at e =
        let o' = one_of p.runner.has.outer e in
        record { root = o'.0; outer = o'.1; none = (is.saves h p.runner at).none leads.op leads.operation leads.at (omega (arith, e)) }

    shrinks_at : (n : ℕ) → n ≢ 0 → length p.runner.has.outer ≡ suc n → leaves_part leads.operation ≡ true → IsInPart nestings (landed core p)
    shrinks_at zero deep e leaves = absurd (deep refl)
    shrinks_at (suc n) deep e leaves = part_at n e leaves

    ends_at : (n : ℕ) → length p.runner.has.outer ≡ suc n → leaves_part leads.operation ≡ true → IsInStart nestings (landed core p) ⊎ IsInPart nestings (landed core p)
    ends_at zero e leaves = inl (start_at e)
    ends_at (suc n) e leaves = inr (part_at n e leaves)

    -- what a `fork` saves of its level
    few_there : p.runner.has.level.size ≤ 1024
    few_there = let size = level_size p.runner.has.outer (is.stands.tree.placed h p.runner at).levels in omega (arith, few, size)
      where
        level_size : (outer : List Level) → AreLevels setting s.tree (ranges_of s) h (s.tree.places h) p.runner.has.level outer → p.runner.has.level.size ≤ setting.processors
        level_size [] levels = let same = ap (λ (l : Level). l.size) levels.1 in omega (arith, same)
        level_size (l ∷ outer) levels =
            let n = s.tree.places h in
            let most = length-between 0 setting.processors (trees.members s.tree n) (is.stands.sound.ascending n) (λ k has. let lt = is.stands.sound.within n k has in (omega arith, lt)) in
            let same = levels.1.size in
            omega (arith, most, same)

    asked : (by : SplitKind) → leads.operation ≡ o.Split by → IsAskedToSplit by nestings (landed core p)
    asked Fork same =
        let numbers = is.numbers h p.runner at in
        record { number = numbers.small; size = few_there; frames = numbers.taken leads.op (subst (λ (op : Operation). OpAt core (landing core p.runner.left.at) leads.op op) same leads.at) }
    asked by same = tt

    may_move : (n : ℕ) → length p.runner.has.outer ≡ suc n → (op : Operation) → leads.operation ≡ op → MovesAt n op → MayMoveInStep nestings op (landed core p)
    may_move n e (o.Split by) same moves = (All-head IsSpace p.runner.has.level.space (map (λ (l : Level). l.space) p.runner.has.outer) spaces_are, asked by same)
    may_move n e o.Shrink same moves = shrinks_at n moves e (ap leaves_part same)
    may_move n e o.End same moves = ends_at n e (ap leaves_part same)
    may_move n e op same moves = absurd moves

    may_step : (n : ℕ) → length p.runner.has.outer ≡ suc n → (is_no_step (class_of leads.operation) ≡ true) ⊎ StepOf (InGroup n) leads.operation → MayInStep nestings leads.operation (landed core p)
    may_step n e (inl plain) = inl (may_alone core nestings main setting s list is h p.runner p.heap at leads plain)
    may_step n e (inr (inl shared)) = inr (inl shared)
    may_step n e (inr (inr moves)) = inr (inr (may_move n e leads.operation refl moves))

  one_in_step : (h : ℕ) (p : Owner) → slice_get ps h ≡ Some p → s.tree.places h ≡ g → IsInStep core nestings h (landed core p)
  one_in_step h p there place =
      let at : slice_get s.runners h ≡ Some p.runner = ap (λ l. slice_get l h) runners ∙ runner_at ps h p there in
      let placed = is.stands.tree.placed h p.runner at in
      let above = length p.runner.has.outer in
      let runs = trees.is_member h (body_of (Some Lockstep) (trees.members s.tree g)) in
      let lock = lockstep_place above runs placed.place (sym (at_node s.tree h above g Lockstep place kind) ∙ placed.there) in
      let going : p.runner.left ≢ the_end core
      = λ e.
      let ended = ends_in_root (next core) placed.place p.runner.left placed.goes (ap (next core) e ∙ ended_next core []) in
      let clash : InGroup lock.depth ≡ InRoot = sym lock.is ∙ ended in
      absurd (cc) in
      let leads = leads_to core nestings main setting s list is h p.runner at going in
      let around = around_of p.runner.has.outer lock.depth lock.above_is in
      record {
        number_is = placed.number_is;
        op = leads.op;
        operation = leads.operation;
        stands = leads.at;
        ready = ready core nestings main setting s list is h p.runner p.heap at leads;
        may =
            may_step h p at leads lock.depth lock.above_is
            (subst (λ (q : Where). (is_no_step (class_of leads.operation) ≡ true) ⊎ StepOf q leads.operation) lock.is (does core nestings main setting s list is h p.runner p.heap at leads));
        group = record { around = around.0; further = around.1; outer = around.2 };
      }

pub reached_groups_have_next : ReachedGroupsHaveNext
reached_groups_have_next core nestings main setting s nodes ps g list is few places many runners kind =
    let as_many : length s.runners ≡ setting.processors = is.stands.tree.many in
    let long : length ps ≡ setting.processors = sym (runners_length ps) ∙ ap (λ l. length l) (sym runners) ∙ as_many in
    groups_have_next core nestings setting.processors s nodes ps g few is.stands.sound places many runners is.stands.one_program is.stands.one_space.members kind
    (all_in_step core nestings g 0 nodes ps (many ∙ sym long)
    (λ i n p at there e.
    let lt = at_below nodes i n at in
    let here = place_at s.tree 0 i nodes places lt in
    let same : n ≡ s.tree.places (0 + i) = first_is n (s.tree.places (0 + i)) (sym at ∙ here) in
    let none : 0 + i ≡ i = omega arith in
    subst (λ j. IsInStep core nestings j (landed core p)) (sym none)
    (one_in_step core nestings main setting s ps g list is few runners kind i p there (ap s.tree.places (sym none) ∙ sym same ∙ e))))
