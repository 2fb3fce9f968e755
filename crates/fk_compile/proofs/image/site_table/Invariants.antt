-- The sites so far.
use Rattle.std.proofs.Common.{◌≡◌, map, take}
use Rattle.fk_compile.specs.Faithful.{in_table}
use Rattle.fk_compile.proofs.image.site_table.Given as goal

abbrev pub invariant-loop-site : goal.invariant-loop-site
invariant-loop-site l = l.table.items ≡ map in_table (take l.site-index l.sites)
