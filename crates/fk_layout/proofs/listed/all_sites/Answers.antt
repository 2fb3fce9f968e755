use Rattle.std.proofs.Common.{List, length, ap, ◌∙◌, arith}
use Rattle.std.proofs.lemmas.List.{length-map}
use Rattle.fk_layout_walk_statements.specs.Texts.{sites_of_text}
use Rattle.fk_layout.specs.declared.listed.Listing.{Listing}
use Rattle.fk_layout.specs.declared.listed.Site.{Site}
use Rattle.fk_layout.specs.Listing.{site}
use Rattle.fk_layout.proofs.Written.{text_listed}
use Rattle.fk_layout.proofs.listed.all_sites.Goals as goal

pub returns-clause-listed : goal.returns-clause-listed
returns-clause-listed c =
    let n = c.in-Ok.ensures.len in
    let m = c.in_ok-count.ensures.fits in
    ap (λ (l : Listing). l.sites.items) c.text.ensures
    ∙ text_listed c.args.known.now (record { sites = c.in-Ok.sites; filled = 0 }) (omega arith) (omega (arith, n, m))

pub returns-clause-few : goal.returns-clause-few
returns-clause-few c =
    let e = ap (λ (xs : List Site). length xs) (returns-clause-listed c) in
    let k = length-map (sites_of_text c.args.known.now) site in
    let m = c.in_ok-count.ensures.fits in
    let few = c.in_ok-count.ensures.few in
    omega (arith, e, k, m, few)
