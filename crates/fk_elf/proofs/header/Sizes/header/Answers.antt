use Rattle.std.proofs.Common.{◌≡◌, ◌+◌, ◌%◌, ◌^◌, ◌++◌, flat_map, refl, ◌∙◌}
use Rattle.byteorder.specs.Endian.{little_bytes}
use Rattle.fk_elf.specs.Files.{entries_kind, file_header, globals_address, program_header}
use Rattle.fk_elf.proofs.Headers.{header-wraps}
use Rattle.fk_elf.proofs.Words.{little-words}
use Rattle.fk_elf.proofs.header.Sizes.header.Goals as goal

pub returns : goal.returns
returns c =
    let code = c.args.self.code in
    let globals = c.args.self.globals in
    let entries = c.args.self.entries in
    let p = (148 + code) % 2 ^ 32 in
    let q = (p + globals) % 2 ^ 32 in
    let words = file_header ++ program_header 1 148 0 code code 5 ++ program_header 1 p globals_address globals 4194304 6 ++ program_header entries_kind q 0 entries 0 4 in
    let written : c.write_u32_into.new.dst ≡ flat_map (little_bytes 4) words = c.write_u32_into.ensures in
    written ∙ little-words words ∙ header-wraps code globals entries p q refl refl
