use Rattle.std.proofs.Common.{◌≡◌, ◌+◌, ◌*◌, ◌++◌, ap, drop, length, take, vec_len, sym, ◌∙◌, arith, rules}
use Rattle.std.proofs.lemmas.List.{drop-take}
use Rattle.fk_image.specs.Spelling.{IsImageOf}
use Rattle.fk_image.proofs.Parts.{drop-next, take-same}
use Rattle.fk_elf.specs.Files.{entry_bytes, header_bytes}
use Rattle.fk_elf.proofs.Files.{image-cut, image-long}
use Rattle.fk_elf.proofs.Parts.{contents, counts, entries, file-parts, four-parts}
use Rattle.fk_elf.proofs.writing.write_elf.Goals as goal

pub split_at-requires : goal.split_at-requires
split_at-requires c =
    omega (arith, ap length c.deref.ensures.value, image-long c.in_ok-written.written.items c.args.image.now c.in_ok-written.ensures)

pub split_at-requires-3 : goal.split_at-requires-3
split_at-requires-3 c =
    omega (arith, ap length c.deref.ensures.value, image-long c.in_ok-written.written.items c.args.image.now c.in_ok-written.ensures, c.split_at.ensures.back_len, c.sizes_of-sizes.ensures.code, c.sizes_of-sizes.ensures.globals)

pub returns : goal.returns
returns c =
    let image = c.args.image.now in
    let bytes = c.in_ok-written.written.items in
    let is : IsImageOf bytes image = c.in_ok-written.ensures in
    let sizes = c.sizes_of-sizes.ensures in
    let code = 4 * vec_len image.code in
    let globals = 4 * vec_len image.globals in
    let long = c.sizes_of-sizes.result.code + c.sizes_of-sizes.result.globals in
    let same : long ≡ code + globals = omega (arith, sizes.code, sizes.globals) in
    let at = image-cut bytes image is in
    let front : c.split_at.result.0.now ≡ take 24 bytes = c.split_at.ensures.front ∙ ap (take 24) c.deref.ensures.value in
    let rest : c.split_at.result.1.now ≡ drop 24 bytes = c.split_at.ensures.back ∙ ap (drop 24) c.deref.ensures.value in
    let counted : c.split_at-2.result.1.now ≡ counts image = c.split_at-2.ensures.back ∙ ap (drop 16) front ∙ drop-take 16 8 bytes ∙ at.first in
    let filled : c.split_at-3.result.0.now ≡ contents image = c.split_at-3.ensures.front ∙ take-same bytes c.split_at.result.1.now long (code + globals) 24 rest same ∙ at.second in
    let last : c.split_at-3.result.1.now ≡ entries image = c.split_at-3.ensures.back ∙ drop-next bytes c.split_at.result.1.now 24 long (24 + (code + globals)) rest (omega (arith, same)) ∙ at.third in
    let header : c.header.result ≡ header_bytes code globals (entry_bytes image) = rw (sizes.code, sizes.globals, sizes.entries) at c.header.ensures in
    let made : c.extend_from_slice-4.new.self.items ≡ c.header.result ++ c.split_at-3.result.0.now ++ c.split_at-2.result.1.now ++ c.split_at-3.result.1.now = search rules in
    record {
      limits = c.requires;
      words = is.words;
      spelling = made ∙ four-parts _ _ _ _ _ _ _ _ header filled counted last ∙ sym (file-parts image);
    }
