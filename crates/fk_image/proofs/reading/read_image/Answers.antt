use Rattle.std.proofs.Common.{ℕ, ◌*◌, ◌<◌, ap, length, arith, rules}
use Rattle.std.proofs.lemmas.Result.{err_from_is_err_and}
use Rattle.fk_image.specs.Limits.{IsSite}
use Rattle.fk_image.specs.Refusals.{site_at}
use Rattle.fk_image.specs.Spelling.{Spells}
use Rattle.fk_image.specs.Tables.{site_table}
use Rattle.fk_image.proofs.Faults.{commit_fault-is, site_fault-is, sites-are}
use Rattle.fk_image.proofs.Images.{is_image}
use Rattle.fk_image.proofs.Parts.{length-code, length-commits_table, length-globals, length-sites_table}
use Rattle.fk_image.proofs.reading.read_image.Goals as goal

pub read_words-requires : goal.read_words-requires
read_words-requires c = omega (arith, ap length c.split_tables-tables.ensures.code, length-code c.args.bytes.now c.in_ok-check_length.ensures.length)

pub read_words-requires-2 : goal.read_words-requires-2
read_words-requires-2 c = omega (arith, ap length c.split_tables-tables.ensures.globals, length-globals c.args.bytes.now c.in_ok-check_length.ensures.length)

pub read_sites-requires-clause-whole : goal.read_sites-requires-clause-whole
read_sites-requires-clause-whole c = omega (arith, ap length c.split_tables-tables.ensures.sites, length-sites_table c.args.bytes.now c.in_ok-check_length.ensures.length)

pub read_sites-requires-clause-few : goal.read_sites-requires-clause-few
read_sites-requires-clause-few c =
    let few = (c.in_ok-header.ensures.header.holds.1 4 (omega arith) (omega arith)).1 in
    omega (arith, few, ap length c.split_tables-tables.ensures.sites, length-sites_table c.args.bytes.now c.in_ok-check_length.ensures.length)

pub read_commits-requires-clause-whole : goal.read_commits-requires-clause-whole
read_commits-requires-clause-whole c =
    omega (arith, ap length c.split_tables-tables.ensures.commits, length-commits_table c.args.bytes.now c.in_ok-check_length.ensures.length)

pub read_commits-requires-clause-few : goal.read_commits-requires-clause-few
read_commits-requires-clause-few c =
    let code = (c.in_ok-header.ensures.header.holds.1 2 (omega arith) (omega arith)).1 in
    let few = (c.in_ok-header.ensures.header.holds.1 5 (omega arith) (omega arith)).1 in
    omega (arith, code, few, ap length c.split_tables-tables.ensures.commits, length-commits_table c.args.bytes.now c.in_ok-check_length.ensures.length)

pub returns-in_err-read_sites-clause-fault : goal.returns-in_err-read_sites-clause-fault
returns-in_err-read_sites-clause-fault c =
    let p = err_from_is_err_and c.from_residual-in_err-read_sites.result c.from_residual-in_err-read_sites.ensures.1 in
    rw (p.1, p.2) (site_fault-is c.args.bytes.now c.in_err-read_sites.field-0.0 c.in_ok-check_length.ensures.length (rw c.split_tables-tables.ensures.sites at c.in_err-read_sites.ensures.fault))

pub returns-in_err-read_commits-clause-fault : goal.returns-in_err-read_commits-clause-fault
returns-in_err-read_commits-clause-fault c =
    let bytes = c.args.bytes.now in
    let p = err_from_is_err_and c.from_residual-in_err-read_commits.result c.from_residual-in_err-read_commits.ensures.1 in
    let entries : (k : ℕ) → 12 * k < length (site_table bytes) → IsSite (site_at (site_table bytes) (3 * k)) = rw c.split_tables-tables.ensures.sites at c.in_ok-read_sites.ensures.entries in
    let has = c.in_ok-check_length.ensures.length in
    rw (p.1, p.2) (commit_fault-is bytes c.in_ok-header.header c.in_err-read_commits.field-0.0 has c.in_ok-header.ensures.header (sites-are bytes has entries) (rw c.split_tables-tables.ensures.commits at c.in_err-read_commits.ensures.fault))

pub returns-clause-image : goal.returns-clause-image
returns-clause-image c =
    let tables = c.split_tables-tables.ensures in
    let code : Spells c.in_ok-map_err.field-0.items c.split_tables-tables.result.code.now = search rules in
    let globals : Spells c.in_ok-map_err-2.field-0.items c.split_tables-tables.result.globals.now = search rules in
    is_image c.args.bytes.now (record { code = c.in_ok-map_err.field-0; globals = c.in_ok-map_err-2.field-0; sites = c.in_ok-read_sites.field-0; commits = c.in_ok-read_commits.field-0 })
    (λ i. omega (arith, c.type_inv.bytes i)) c.in_ok-check_length.ensures.length
    (record { code = rw tables.code at code; globals = rw tables.globals at globals; sites = rw tables.sites at c.in_ok-read_sites.ensures.spelling; commits = rw tables.commits at c.in_ok-read_commits.ensures.spelling })
    c.in_ok-read_sites.ensures.sites (rw c.in_ok-header.ensures.header.code at c.in_ok-read_commits.ensures.commits) c.in_ok-read_commits.ensures.rise
