-- What the rest of the tokens makes of the notes is what all make of them.
use Rattle.std.proofs.Common.{◌≡◌, map, fold, drop}
use Rattle.fk_sharing.specs.Collected.{seen}
use Rattle.fk_sharing.specs.Marked.{cleared, after}
use Rattle.fk_sharing.proofs.marks.mark.Given as goal

abbrev pub invariant-loop-token : goal.invariant-loop-token
invariant-loop-token l = fold after l.notes (map seen (drop l.token-index l.tokens)) ≡ fold after (map cleared l.fn.notes) (map seen l.tokens)
