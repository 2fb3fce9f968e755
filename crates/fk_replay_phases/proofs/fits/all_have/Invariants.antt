-- All have the count if the others do.
use Rattle.std.proofs.Common.{◌≡◌, drop}
use Rattle.fk_replay_rounds.specs.Fits.{all_have}
use Rattle.fk_replay_phases.proofs.fits.all_have.Given as goal

abbrev pub invariant-loop-member : goal.invariant-loop-member
invariant-loop-member l = all_have l.counts l.last l.count l.members ≡ all_have l.counts l.last l.count (drop l.member-index l.members)
