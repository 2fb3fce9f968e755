use Rattle.std.proofs.Common.{inr}
use Rattle.fk_top.proofs.Readable.{elf_short}
use Rattle.fk_top.proofs.Refusing.{refusing_image}
use Rattle.fk_top.proofs.elf.put_elf.Goals as goal

pub putting-requires : goal.putting-requires
putting-requires c = elf_short c.in_ok-file-in-Ok.file.items c.in-Ok.image c.in_ok-file-in-Ok.ensures

pub returns-in_ok-file-in-Ok : goal.returns-in_ok-file-in-Ok
returns-in_ok-file-in-Ok c =
    inr (record {
      image = c.in-Ok.image;
      spelled = c.in-Ok.ensures.image;
      file = c.in_ok-file-in-Ok.file.items;
      made = c.in_ok-file-in-Ok.ensures;
      is = c.putting.ensures;
    })

pub returns-in-Err : goal.returns-in-Err
returns-in-Err c =
    refusing_image c.args.bytes.now c.in-Err.fault c.image_report_of.result c.refused.result _ c.in-Err.ensures.fault c.image_report_of.ensures c.refused.ensures
