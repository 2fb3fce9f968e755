use Rattle.std.proofs.Common.{◌<◌, length, ap, sym, ◌∙◌, arith}
use Rattle.fk_layout.specs.Listing.{with_operation}
use Rattle.fk_layout.proofs.Written.{writes}
use Rattle.fk_layout.proofs.listed.ListingVisitor.meet.Goals as goal

pub returns-then-self-len : goal.returns-then-self-len
returns-then-self-len c =
    let l = c.args.self.now in
    let t = c.if-self-len.true in
    let e = c.len.ensures in
    let less : l.filled < length l.sites.items = omega (arith, t, e) in
    writes l c.in-Some.operation c.in-Some.place c.kind-kind.result c.kind-kind.ensures less ∙ ap (with_operation l) (sym c.in-Some.is ∙ c.operation.ensures)
