use Rattle.std.proofs.Common.{◌∙◌, arith}
use Rattle.fk_types_names.proofs.ReadingLemmas.{read_at}
use Rattle.fk_types_names.proofs.scoped.ScopedMarks.depth.Goals as goal

pub index-requires : goal.index-requires
index-requires c = let n = c.requires.sound.depths.size in omega (arith, n)

pub returns : goal.returns
returns c =
    let known = c.requires.sound.depths in
    let n = known.size in
    read_at c.args.self.now.depths.items c.args.at c.index.result.now (omega (arith, n)) c.index.ensures ∙ known.each c.args.at c.requires.within
