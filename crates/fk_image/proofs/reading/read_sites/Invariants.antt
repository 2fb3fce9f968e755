use Rattle.std.proofs.Common.{ℕ, ◌*◌, ◌<◌, All, flat_map, take}
use Rattle.fk_image.specs.Limits.{IsSite}
use Rattle.fk_image.specs.Refusals.{site_at}
use Rattle.fk_image.specs.Spelling.{Spells, site_words}
use Rattle.fk_image.proofs.reading.read_sites.Given as goal

-- the sites so far spell the front of the table, and each of them is one
abbrev pub invariant-loop-i : goal.invariant-loop-i
invariant-loop-i l = record {
  spells : Spells (flat_map site_words l.sites.items) (take (12 * l.i) l.table);
  sites : All IsSite l.sites.items;
  good : (k : ℕ) → k < l.i → IsSite (site_at l.table (3 * k));
}
