use Rattle.std.proofs.Common.{◌≡◌, ◌+◌, ◌*◌, drop, ◌∙◌, arith}
use Rattle.fk_image.specs.Refusals.{code_words, commits_place, global_words, site_count, sites_place}
use Rattle.fk_image.proofs.Parts.{drop-next, take-same}
use Rattle.fk_image.proofs.reading.split_tables.Goals as goal

pub returns-clause-globals : goal.returns-clause-globals
returns-clause-globals c =
    let bytes = c.args.bytes.now in
    let header = c.args.header in
    let place = 24 + 4 * code_words bytes in
    let rest : c.split_at-2.result.1.now ≡ drop place bytes = c.split_at-2.ensures.back ∙ drop-next bytes c.split_at.result.1.now 24 (4 * header.code) place c.split_at.ensures.back (omega (arith, c.requires.header.code)) in
    c.split_at-3.ensures.front
    ∙ take-same bytes c.split_at-2.result.1.now (4 * header.globals) (4 * global_words bytes) place rest (omega (arith, c.requires.header.globals))

pub returns-clause-sites : goal.returns-clause-sites
returns-clause-sites c =
    let bytes = c.args.bytes.now in
    let header = c.args.header in
    let of = c.requires.header in
    let place = 24 + 4 * header.code in
    let globals : c.split_at-2.result.1.now ≡ drop place bytes = c.split_at-2.ensures.back ∙ drop-next bytes c.split_at.result.1.now 24 (4 * header.code) place c.split_at.ensures.back (omega arith) in
    let rest : c.split_at-3.result.1.now ≡ drop (4 * sites_place bytes) bytes = c.split_at-3.ensures.back ∙ drop-next bytes c.split_at-2.result.1.now place (4 * header.globals) (4 * sites_place bytes) globals (omega (arith, of.code, of.globals)) in
    c.split_at-4.ensures.front
    ∙ take-same bytes c.split_at-3.result.1.now (12 * header.sites) (12 * site_count bytes) (4 * sites_place bytes) rest (omega (arith, of.sites))

pub returns-clause-commits : goal.returns-clause-commits
returns-clause-commits c =
    let bytes = c.args.bytes.now in
    let header = c.args.header in
    let of = c.requires.header in
    let place = 24 + 4 * header.code in
    let globals : c.split_at-2.result.1.now ≡ drop place bytes = c.split_at-2.ensures.back ∙ drop-next bytes c.split_at.result.1.now 24 (4 * header.code) place c.split_at.ensures.back (omega arith) in
    let rest : c.split_at-3.result.1.now ≡ drop (4 * sites_place bytes) bytes = c.split_at-3.ensures.back ∙ drop-next bytes c.split_at-2.result.1.now place (4 * header.globals) (4 * sites_place bytes) globals (omega (arith, of.code, of.globals)) in
    c.split_at-4.ensures.back
    ∙ drop-next bytes c.split_at-3.result.1.now (4 * sites_place bytes) (12 * header.sites) (4 * commits_place bytes) rest (omega (arith, of.sites))
