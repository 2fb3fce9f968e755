use Rattle.std.proofs.Common.{◌≡◌, ◌≤◌, length, drop}
use Rattle.fk_machine.specs.Commit.{commits_of}
use Rattle.fk_machine.specs.View.{entry_at}
use Rattle.fk_machine.proofs.commits.commit_table.Given as goal

abbrev pub decreases-loop-left : goal.decreases-loop-left
decreases-loop-left l = l.left

-- the entries from `left` on are in the table
abbrev pub invariant-loop-left : goal.invariant-loop-left
invariant-loop-left l = record {
  few : l.left ≤ length l.entries;
  sized : length l.table.items ≡ l.code_words;
  so_far : entry_at l.table.items ≡ commits_of (drop l.left l.entries);
}
