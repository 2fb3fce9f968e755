-- Those who wait for parts.
use Rattle.std.proofs.Common.{◌≡◌, Some, true, refl, sym, ◌∙◌, subst, length}
use Rattle.fk_tree.specs.declared.node.Kind.TheVariants.{Waiting}
use Rattle.fk_tree.specs.Tree as t
use Rattle.fk_tree.specs.Tree.{is_member}
use Rattle.fk_meaning.specs.Round.{body_of}
use Rattle.fk_lockstep.proofs.Round.{first_is}
use Rattle.fk_lockstep_tree.specs.Where.{Where, Waits, goes}
use Rattle.fk_lockstep_tree.specs.Placed.{WaitersResume}
use Rattle.fk_lockstep_tree.proofs.Moves as moves
use Rattle.fk_lockstep_tree.proofs.Paths.{at_node, waiting_place}

pub waiters_resume : (W : Type 0) → WaitersResume W
waiters_resume W next set spaces s h first parts r step has kind at e =
    let g = s.tree.places h in
    let p = has.placed h r at in
    let above = length r.has.outer in
    let runs = is_member h (body_of (Some (Waiting first parts)) (t.members s.tree g)) in
    let place : p.place ≡ Waits above
    = first_is p.place (Waits above) (sym p.there ∙ at_node s.tree h above g (Waiting first parts) refl kind ∙ waiting_place above first parts runs) in
    let to = moves.goes_on next p.place r.left step p.goes e true in
    moves.waiters_resume above step.operation true to.0 (subst (λ (q : Where). goes q step.operation true ≡ Some to.0) place to.1)
