use Rattle.fk_image.proofs.Tables.{HasCommits}
use Rattle.fk_image.proofs.reading.read_commits.Given as goal

abbrev pub invariant-loop-i : goal.invariant-loop-i
invariant-loop-i l = HasCommits l.header.code l.table l.commits.items l.i
