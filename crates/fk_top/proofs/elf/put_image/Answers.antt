use Rattle.std.proofs.Common.{arith, inr}
use Rattle.fk_top.proofs.Readable.{image_short}
use Rattle.fk_top.proofs.Refusing.{refusing_elf}
use Rattle.fk_top.proofs.elf.put_image.Goals as goal

pub putting-requires : goal.putting-requires
putting-requires c =
    let short = image_short c.in_ok-bytes-in-Ok.bytes.items c.in-Ok.image c.in_ok-bytes-in-Ok.ensures in
    omega (arith, short)

pub returns-in_ok-bytes-in-Ok : goal.returns-in_ok-bytes-in-Ok
returns-in_ok-bytes-in-Ok c =
    inr (record {
      image = c.in-Ok.image;
      made = c.in-Ok.ensures.image;
      bytes = c.in_ok-bytes-in-Ok.bytes.items;
      spelled = c.in_ok-bytes-in-Ok.ensures;
      is = c.putting.ensures;
    })

pub returns-in-Err : goal.returns-in-Err
returns-in-Err c =
    refusing_elf c.args.file.now c.in-Err.fault c.elf_report_of.result c.refused.result _ c.in-Err.ensures.fault c.elf_report_of.ensures c.refused.ensures
