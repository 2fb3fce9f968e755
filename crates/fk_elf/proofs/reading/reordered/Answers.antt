use Rattle.std.proofs.Common.{◌≡◌, ◌+◌, ◌++◌, ◌/◌, [], ◌∷◌, codes, drop, flat_map, take, ap, ◌∙◌, arith, rules}
use Rattle.fk_image.specs.Spelling.{word_bytes}
use Rattle.fk_image.proofs.Parts.{drop-next, take-same}
use Rattle.fk_elf.specs.Parts.{content_part, count_part, entry_part}
use Rattle.fk_elf.specs.Refusals.{code_size, global_size}
use Rattle.fk_elf.proofs.Headers.{entry-size}
use Rattle.fk_elf.proofs.Parts.{five-parts}
use Rattle.fk_elf.proofs.Words.{little-words}
use Rattle.fk_elf.proofs.reading.reordered.Goals as goal

pub split_at-requires-3 : goal.split_at-requires-3
split_at-requires-3 c =
    let size = entry-size c.args.bytes.now c.requires.length.0 in
    omega (arith, c.requires.length.1, size.least, c.requires.sizes.code, c.requires.sizes.globals, c.split_at.ensures.back_len, c.split_at-2.ensures.back_len)

pub returns : goal.returns
returns c =
    let bytes = c.args.bytes.now in
    let said = c.requires.sizes in
    let size = code_size bytes + global_size bytes in
    let long = c.args.sizes.code + c.args.sizes.globals in
    let same : long ≡ size = omega (arith, said.code, said.globals) in
    let rest = c.split_at.result.1.now in
    let tables = c.split_at-2.result.1.now in
    let contents : c.split_at-2.result.0.now ≡ content_part bytes = c.split_at-2.ensures.front ∙ take-same bytes rest long size 148 c.split_at.ensures.back same in
    let behind : tables ≡ drop (148 + size) bytes = c.split_at-2.ensures.back ∙ drop-next bytes rest 148 long (148 + size) c.split_at.ensures.back (omega (arith, same)) in
    let counts : c.split_at-3.result.0.now ≡ count_part bytes = c.split_at-3.ensures.front ∙ ap (take 8) behind in
    let entries : c.split_at-3.result.1.now ≡ entry_part bytes = c.split_at-3.ensures.back ∙ drop-next bytes tables (148 + size) 8 (156 + size) behind (omega arith) in
    let words : c.write_u32_into.new.dst ≡ flat_map word_bytes (1 ∷ c.args.sizes.code / 4 ∷ c.args.sizes.globals / 4 ∷ []) = c.write_u32_into.ensures ∙ little-words (1 ∷ c.args.sizes.code / 4 ∷ c.args.sizes.globals / 4 ∷ []) in
    let front : c.write_u32_into.new.dst ≡ flat_map word_bytes (1 ∷ code_size bytes / 4 ∷ global_size bytes / 4 ∷ []) = rw (said.code, said.globals) at words in
    let made : c.extend_from_slice-5.new.self.items ≡ codes "FK95" ++ c.write_u32_into.new.dst ++ c.split_at-3.result.0.now ++ c.split_at-2.result.0.now ++ c.split_at-3.result.1.now = search rules in
    made ∙ five-parts (codes "FK95") _ _ _ _ _ _ _ _ front counts contents entries
