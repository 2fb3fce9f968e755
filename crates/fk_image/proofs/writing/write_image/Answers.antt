use Rattle.std.proofs.Common.{◌≡◌, All, [], ◌∷◌, ◌++◌, codes, flat_map, sym, ◌∙◌, arith, rules}
use Rattle.std.proofs.lemmas.List.Elements.{All-same}
use Rattle.fk_image.specs.Spelling.{IsWord, commit_words, header_words, site_words, word_bytes}
use Rattle.fk_image.proofs.Parts.{spelled-parts, words-parts}
use Rattle.fk_image.proofs.Commits.{few_of_image}
use Rattle.fk_image.proofs.writing.write_image.Goals as goal

pub overflow_mul-size-4 : goal.overflow_mul-size-4
overflow_mul-size-4 c = omega (arith, few_of_image c.args.image.now c.requires)

pub overflow_add-size-4 : goal.overflow_add-size-4
overflow_add-size-4 c = omega (arith, few_of_image c.args.image.now c.requires)

pub overflow_cast-counts-4 : goal.overflow_cast-counts-4
overflow_cast-counts-4 c = omega (arith, few_of_image c.args.image.now c.requires)

pub returns : goal.returns
returns c =
    let image = c.args.image.now in
    let header = header_words image in
    let code = image.code.items in
    let globals = image.globals.items in
    let sites = flat_map site_words image.sites.items in
    let commits = flat_map commit_words image.commits.items in
    let made : c.push_commits.new.bytes.items ≡ codes "FK95" ++ flat_map word_bytes header ++ flat_map word_bytes code ++ flat_map word_bytes globals ++ flat_map word_bytes sites ++ flat_map word_bytes commits = search rules in
    let counts = 1 ∷ c.len-code.result ∷ c.len-globals.result ∷ c.len-sites.result ∷ c.len-commits.result ∷ [] in
    let header_fits : All IsWord header = All-same IsWord header counts (cc) c.in_ok-push_words.ensures.words in
    let code_fits : All IsWord code = rw c.deref.ensures.value at c.in_ok-push_words-2.ensures.words in
    let globals_fit : All IsWord globals = rw c.deref-2.ensures.value at c.in_ok-push_words-3.ensures.words in
    let sites_fit : All IsWord sites = rw c.deref-3.ensures.value at c.in_ok-push_sites.ensures.words in
    let commits_fit : All IsWord commits = rw c.deref-4.ensures.value at c.in_ok-push_commits.ensures.words in
    record {
      limits = c.requires;
      words = words-parts header code globals sites commits header_fits code_fits globals_fit sites_fit commits_fit;
      spelling = made ∙ sym (spelled-parts (codes "FK95") header code globals sites commits);
    }
