use Rattle.std.proofs.Common.{◌≡◌, ◌++◌, flat_map, take}
use Rattle.fk_image.specs.Spelling.{word_bytes}
use Rattle.fk_image.proofs.writing.push_words.Given as goal

-- the words so far have been added
abbrev pub invariant-loop-word : goal.invariant-loop-word
invariant-loop-word l = l.bytes.items ≡ l.fn.bytes.items ++ flat_map word_bytes (take l.word-index l.words)
