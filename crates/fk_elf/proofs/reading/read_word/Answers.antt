use Rattle.std.proofs.Common.{◌*◌, ◌∙◌, ap}
use Rattle.std.proofs.lemmas.List.{take_rest}
use Rattle.byteorder.specs.Endian.{little_number}
use Rattle.fk_image.proofs.Words.{little_number-word_at}
use Rattle.fk_elf.proofs.reading.read_word.Goals as goal

pub returns : goal.returns
returns c =
    let bytes = c.args.bytes.now in
    c.read_u32.ensures ∙ ap (little_number 4) (take_rest bytes (4 * c.args.place))
    ∙ little_number-word_at bytes c.args.place
