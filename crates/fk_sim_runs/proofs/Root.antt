-- Those in the root, in a reached state.
use Rattle.std.proofs.Common.{◌≡◌, ℕ, zero, suc, Bool, true, false, List, [], ◌∷◌, length, Option, Some, None, refl, sym, ap, ◌∙◌, arith}
use Rattle.std.specs.Prelude.{slice_get}
use Rattle.fk_tree.specs.declared.node.Kind.{Kind}
use Rattle.fk_tree.specs.declared.node.Kind.TheVariants.{Lockstep, Waiting, Asynchronous}
use Rattle.fk_tree.specs.Tree as trees
use Rattle.fk_meaning_operation.specs.declared.operation.Operation.{Operation}
use Rattle.fk_meaning.specs.Processor.{Level, Setting}
use Rattle.fk_meaning.specs.Round.{State, body_of}
use Rattle.fk_meaning.specs.Schedule.{first_level}
use Rattle.fk_core.specs.declared.op.CoreOp.{CoreOp}
use Rattle.fk_core.specs.Next.{Position, landing, next}
use Rattle.fk_lockstep_tree.specs.Where.{Where, InRoot}
use Rattle.fk_lockstep_tree.specs.Ranges.{ranges_of}
use Rattle.fk_lockstep_tree.specs.Placed.{where_in, IsPlaced}
use Rattle.fk_lockstep_tree.proofs.Paths.{at_root, root_outer, root_first}
use Rattle.fk_sim_block.specs.Owner.{Owner}
use Rattle.fk_sim_block.specs.Next.{OpAt}
use Rattle.fk_sim_block.specs.Node.{Nestings}
use Rattle.fk_sim_block.specs.Start.{IsInRoot}
use Rattle.fk_sim_rounds.specs.Next.{landed}
use Rattle.fk_sim_runs.specs.Reached.{IsReached}

no_levels : (outer : List Level) → length outer ≡ 0 → outer ≡ []
no_levels [] e = refl
no_levels (l ∷ outer) e = absurd (omega (arith, e))

root_above : (above : ℕ) (k : Option Kind) (runs : Bool) → where_in above k runs ≡ Some InRoot → above ≡ 0
root_above zero k runs e = refl
root_above (suc n) None runs e = absurd (cc)
root_above (suc n) (Some Lockstep) runs e = absurd (cc)
root_above (suc n) (Some (Waiting first parts)) runs e = absurd (cc)
root_above (suc n) (Some (Asynchronous alone)) true e = absurd (cc)
root_above (suc n) (Some (Asynchronous alone)) false e = absurd (cc)

module _ (core : List CoreOp) (nestings : Nestings) (setting : Setting) (s : State Position) (h : ℕ) (p : Owner) (is : IsReached core nestings setting s) (at : slice_get s.runners h ≡ Some p.runner) where
  abbrev g : ℕ
  g = s.tree.places h

  abbrev placed : IsPlaced (next core) setting (ranges_of s) s.tree h p.runner
  placed = is.stands.tree.placed h p.runner at

  abbrev outer : List Level
  outer = p.runner.has.outer

  pub at_node_0 : placed.place ≡ InRoot → s.tree.places h ≡ 0
  at_node_0 e =
      let kind = trees.kind s.tree g in
      let runs = trees.is_member h (body_of kind (trees.members s.tree g)) in
      at_root setting s.tree (ranges_of s) h g p.runner.has.level outer placed.levels (root_above (length outer) kind runs (placed.there ∙ ap (λ (w : Where). Some w) e))

  -- it has the root's level, and its calls save none
  pub in_root : (op : CoreOp) (operation : Operation) → OpAt core (landing core p.runner.left.at) op operation → s.tree.places h ≡ 0 → IsInRoot nestings setting (landed core p)
  in_root op operation stands zero_is =
      let long = root_outer setting s.tree (ranges_of s) h g p.runner.has.level outer placed.levels zero_is in
      let level : p.runner.has.level ≡ first_level setting h = root_first setting s.tree (ranges_of s) h g p.runner.has.level outer placed.levels zero_is in
      record {
        outer = no_levels outer long;
        level = record {
          number = ap (λ (l : Level). l.number) level;
          rank = ap (λ (l : Level). l.rank) level ∙ sym placed.number_is;
          size = ap (λ (l : Level). l.size) level;
        };
        space = ap (λ (l : Level). l.space) level;
        none = (is.saves h p.runner at).none op operation stands (omega (arith, long));
      }
