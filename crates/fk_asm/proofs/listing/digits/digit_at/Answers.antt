use Rattle.std.proofs.Common.{◌/◌, ◌%◌, false, ℕ, ap, ◌∙◌}
use Rattle.std.specs.Fmt.{digit_glyph}
use Rattle.fk_asm.proofs.Hexadecimal.{pow-sixteen}
use Rattle.fk_asm.proofs.listing.digits.digit_at.Goals as goal

pub returns : goal.returns
returns c = c.digit.ensures ∙ ap (λ (power : ℕ). digit_glyph false (c.args.word / power % 16)) (pow-sixteen c.args.place)
