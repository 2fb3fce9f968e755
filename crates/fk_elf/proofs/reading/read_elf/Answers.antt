use Rattle.std.proofs.Common.{◌≡◌, List, ℕ, subst, ◌∙◌, rules}
use Rattle.fk_image.specs.Spelling.{IsImageOf}
use Rattle.fk_elf.specs.Parts.{image_bytes}
use Rattle.fk_elf.proofs.Files.{elf-of}
use Rattle.fk_elf.proofs.reading.read_elf.Goals as goal

pub returns-in-Ok-clause-image : goal.returns-in-Ok-clause-image
returns-in-Ok-clause-image c =
    let bytes = c.args.bytes.now in
    let made : c.in_ok-parts.parts.items ≡ image_bytes bytes = search rules in
    let same : c.deref.result.now ≡ image_bytes bytes = c.deref.ensures.value ∙ made in
    elf-of bytes c.in-Ok.image c.in_ok-check_length.ensures.length (subst (λ (bs : List ℕ). IsImageOf bs c.in-Ok.image) same c.in-Ok.ensures.image)
