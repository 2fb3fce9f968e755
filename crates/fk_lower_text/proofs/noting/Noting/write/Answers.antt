use Rattle.std.proofs.Common.{◌<◌, length, arith}
use Rattle.fk_lower_text.proofs.Noted.{writes}
use Rattle.fk_lower_text.proofs.noting.Noting.write.Goals as goal

pub returns-then-self-len : goal.returns-then-self-len
returns-then-self-len c =
    let n = c.args.self.now in
    let t = c.if-self-len.true in
    let e = c.len.ensures in
    let less : n.filled < length n.events.items = omega (arith, t, e) in
    writes n c.args.event less
