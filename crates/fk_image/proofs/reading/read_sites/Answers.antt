use Rattle.std.proofs.Common.{◌≡◌, ◌*◌, ◌∷◌, ◌++◌, [], flat_map, subst, arith, rules, below_more}
use Rattle.std.proofs.lemmas.List.{take_all}
use Rattle.std.proofs.lemmas.List.Elements.{All-push, All-same}
use Rattle.fk_image.specs.Limits.{IsSite}
use Rattle.fk_image.specs.Refusals.{site_at}
use Rattle.fk_image.specs.Spelling.{Spells, site_words}
use Rattle.fk_image.proofs.Tables.{Spells-site}
use Rattle.fk_image.proofs.reading.read_sites.Goals as goal

pub loop-i-preserved : goal.loop-i-preserved
loop-i-preserved c =
    let table = c.args.table.now in
    let sites = c.loop-i.sites.items in
    let site = site_at table (3 * c.loop-i.i) in
    let pushed : c.push.new.self.items ≡ sites ++ site ∷ [] = search rules in
    let is_site : IsSite site = search rules in
    record {
      spells = rw pushed (Spells-site table c.loop-i.i sites (λ i. omega (arith, c.type_inv.table i)) (omega arith) c.loop-i.invariant.spells);
      sites = All-same IsSite c.push.new.self.items (sites ++ site ∷ []) pushed (All-push IsSite sites site c.loop-i.invariant.sites is_site);
      good = below_more _ _ c.loop-i.invariant.good is_site;
    }

pub returns-clause-spelling : goal.returns-clause-spelling
returns-clause-spelling c =
    subst (λ bytes. Spells (flat_map site_words c.loop-i.sites.items) bytes) (take_all (12 * c.loop-i.i) c.args.table.now (omega (arith, c.requires.whole, c.loop-i-test.false))) c.loop-i.invariant.spells

pub returns-clause-sites : goal.returns-clause-sites
returns-clause-sites c = c.loop-i.invariant.sites

pub returns-clause-entries : goal.returns-clause-entries
returns-clause-entries c = λ k less. c.loop-i.invariant.good k (omega (arith, c.requires.whole, c.loop-i-test.false, less))
