use Rattle.std.proofs.Common.{inr}
use Rattle.fk_top.proofs.Refusing.{refusing_image}
use Rattle.fk_top.proofs.bytes.list_bytes.Goals as goal

pub returns-in_ok-list_code-in-Ok : goal.returns-in_ok-list_code-in-Ok
returns-in_ok-list_code-in-Ok c =
    inr (record {
      image = c.in-Ok.image;
      spelled = c.in-Ok.ensures.image;
      is = let lines = c.in_ok-list_code-in-Ok.ensures in let words = c.len.ensures in let code = c.deref.ensures.value in cc;
    })

pub returns-in-Err : goal.returns-in-Err
returns-in-Err c =
    refusing_image c.args.bytes.now c.in-Err.fault c.image_report_of.result c.refused.result _ c.in-Err.ensures.fault c.image_report_of.ensures c.refused.ensures
