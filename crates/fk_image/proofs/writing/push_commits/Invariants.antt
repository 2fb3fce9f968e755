use Rattle.std.proofs.Common.{◌≡◌, ◌++◌, All, flat_map, take}
use Rattle.fk_image.specs.Spelling.{IsWord, commit_words, word_bytes}
use Rattle.fk_image.proofs.writing.push_commits.Given as goal

-- the commits so far have been added
abbrev pub invariant-loop-commit : goal.invariant-loop-commit
invariant-loop-commit l = record {
  bytes : l.bytes.items ≡ l.fn.bytes.items ++ flat_map word_bytes (flat_map commit_words (take l.commit-index l.commits));
  words : All IsWord (flat_map commit_words (take l.commit-index l.commits));
}
