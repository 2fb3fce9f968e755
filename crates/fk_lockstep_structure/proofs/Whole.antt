-- Whole runs of framed code.
use Rattle.std.proofs.Common.{true, false, [], inl, refl, ap, sym}
use Rattle.fk_meaning.specs.Next.{going}
use Rattle.fk_meaning.specs.Shape.{of_function}
use Rattle.fk_meaning.proofs.Spine.{past_none}
use Rattle.fk_meaning.proofs.Nested.{body_nested}
use Rattle.fk_lockstep_structure.specs.Placed.{OfMain}
use Rattle.fk_lockstep_structure.specs.Framed.{CodeIsFramed}
use Rattle.fk_lockstep_structure.proofs.Left.{who_behind, body_left}
use Rattle.fk_lockstep_structure.proofs.Steps.{is_alone, rounds, goes, framed_for}

pub code_is_framed : CodeIsFramed
code_is_framed may_call bodies main facts operations =
    let body = bodies main in
    let shape = facts.nested main in
    let nothing = past_none of_function body shape in
    framed_for may_call bodies main facts operations 0 true (going body [])
    (goes may_call 0 true body [] (body_nested body shape)
    (record {
      left = body_left may_call (OfMain false) of_function body refl shape facts.main_of;
      many = ap (λ cs. rounds cs []) (sym nothing);
      alone = inl (ap (λ cs. is_alone (who_behind (OfMain false) cs)) (sym nothing));
    }) tt tt)
