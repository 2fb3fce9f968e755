use Rattle.std.proofs.Common.{◌≡◌, sym, subst}
use Rattle.fk_lower.specs.Spans.{span_in, StartsWithin}
use Rattle.fk_lower.specs.View.{part_of}
use Rattle.fk_lower.proofs.Room.{span_within}
use Rattle.fk_lower.proofs.block.Block.span.Goals as goal

pub returns-clause-within : goal.returns-clause-within
returns-clause-within c =
    let same : c.of.result ≡ span_in (part_of c.args.self.now).spans c.args.near = cc in
    subst StartsWithin (sym same) (span_within (part_of c.args.self.now) c.args.near c.requires)
