use Rattle.std.proofs.Common.{◌≡◌, ◌++◌, All, flat_map, take}
use Rattle.fk_image.specs.Spelling.{IsWord, site_words, word_bytes}
use Rattle.fk_image.proofs.writing.push_sites.Given as goal

-- the sites so far have been added
abbrev pub invariant-loop-site : goal.invariant-loop-site
invariant-loop-site l = record {
  bytes : l.bytes.items ≡ l.fn.bytes.items ++ flat_map word_bytes (flat_map site_words (take l.site-index l.sites));
  words : All IsWord (flat_map site_words (take l.site-index l.sites));
}
