use Rattle.std.proofs.Common.{◌≡◌}
use Rattle.fk_ports.proofs.Taken.{HasMoved}
use Rattle.fk_ports.proofs.source.append_all.Given as goal

abbrev pub invariant-loop-missing : goal.invariant-loop-missing
invariant-loop-missing g l =
    HasMoved l.most l.missing (g.S.Source.left l.initial.source) (g.S.Source.left l.source) l.initial.into.items l.into.items
    × (g.S.Source.faults l.source ≡ g.S.Source.faults l.initial.source)

abbrev pub decreases-loop-missing : goal.decreases-loop-missing
decreases-loop-missing g l = l.missing
