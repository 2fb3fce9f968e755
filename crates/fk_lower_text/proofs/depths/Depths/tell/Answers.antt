use Rattle.std.proofs.Common.{◌<◌, ◌+◌, length, ap, ◌∙◌, arith}
use Rattle.std.specs.Vec.{with_item}
use Rattle.fk_lower_text.proofs.Deep.{tells}
use Rattle.fk_lower_text.proofs.depths.Depths.tell.Goals as goal

pub returns-then-self-len : goal.returns-then-self-len
returns-then-self-len c =
    let d = c.args.self.now in
    let t = c.if-self-len.true in
    let e = c.len.ensures in
    let less : d.filled < length d.told.items = omega (arith, t, e) in
    ap (λ n. record d { told = with_item d.told d.filled n; filled = d.filled + 1 }) c.depth-depth.ensures ∙ tells d less
