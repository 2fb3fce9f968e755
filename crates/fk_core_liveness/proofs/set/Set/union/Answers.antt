use Rattle.std.proofs.lemmas.Nat.{le_or_l}
use Rattle.fk_core_liveness.proofs.Bits.{either_set}
use Rattle.fk_core_liveness.proofs.set.Set.union.Goals as goal

pub returns : goal.returns
returns c = record {
  both = either_set c.args.self.now.mask c.args.other.mask;
  more = le_or_l c.args.self.now.mask c.args.other.mask;
}
