use Rattle.fk_elf.proofs.Headers.{is-header-byte, was-header-byte}
use Rattle.fk_elf.proofs.reading.is_header_byte.Goals as goal

pub returns-then-bytes-offset : goal.returns-then-bytes-offset
returns-then-bytes-offset c =
    let sizes = c.args.sizes in
    let said = c.requires.sizes in (
      λ e. is-header-byte c.args.bytes.now c.args.header.now sizes.code sizes.globals sizes.entries c.args.offset said.code said.globals said.entries c.requires.header c.if-bytes-offset.true (c.is_size_at.ensures.0 e),
      λ is. c.is_size_at.ensures.1 (was-header-byte c.args.bytes.now c.args.header.now sizes.code sizes.globals sizes.entries c.args.offset said.code said.globals said.entries c.requires.header is).1,
    )
