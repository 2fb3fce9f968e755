-- The last of the equal parts ends within the free words.
use Rattle.std.proofs.Common.{ℕ, ◌<◌, IsSome, arith}
use Rattle.fk_space.specs.Space.{Space, share, child}
use Rattle.fk_space.specs.Laws.{IsSplit, IsPart}
use Rattle.fk_space.proofs.Parts.{roomy_of, equal_of, part_ends}
use Rattle.fk_space.proofs.laws.parts_are_inside.Goals as goal

inside : (s : Space) (k words i : ℕ) → IsSplit s k words → i < k → IsPart s k words (child s k i)
inside s k words i split h =
    let some : IsSome (share s k) = search (split.fits) in
    let roomy = roomy_of s k some in
    let equal = equal_of s k words split.fits in
    let ends = part_ends s k i some h in
    record {
      space = record { header = omega arith; ordered = omega arith; within = omega arith; shared = omega arith };
      size = omega arith;
      above = omega arith;
      below = omega arith;
    }

pub returns : goal.returns
returns c = inside
