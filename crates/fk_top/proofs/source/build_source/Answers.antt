use Rattle.std.proofs.Common.{inr}
use Rattle.fk_top.proofs.Refusing.{refusing}
use Rattle.fk_top.proofs.source.build_source.Goals as goal

pub returns-in_ok-bytes-in-Ok : goal.returns-in_ok-bytes-in-Ok
returns-in_ok-bytes-in-Ok c =
    inr (record {
      image = c.in-Ok.compiled.image;
      compiled = c.in-Ok.ensures.faithful;
      events = c.in-Ok.ensures.events;
      bytes = c.in_ok-bytes-in-Ok.bytes.items;
      spelled = c.in_ok-bytes-in-Ok.ensures;
      is = let empty = c.new.ensures.items in let words = c.len.ensures in cc;
    })

pub returns-in-Err : goal.returns-in-Err
returns-in-Err c =
    refusing c.args.source.now c.in-Err.refusal c.last_line_of.result c.refused_source.result _ c.in-Err.ensures.refused c.last_line_of.ensures c.refused_source.ensures
