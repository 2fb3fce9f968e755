use Rattle.std.proofs.Common.{◌≡◌, ◌++◌, length}
use Rattle.fk_meaning_forms.specs.Texts.{up_to_quote, text_of}
use Rattle.fk_meaning_forms.proofs.texts.text_bytes.Given as goal

abbrev pub invariant-loop-left : goal.invariant-loop-left
invariant-loop-left l = l.bytes.items ++ up_to_quote l.left ≡ text_of l.token

abbrev pub decreases-loop-left : goal.decreases-loop-left
decreases-loop-left l = length l.left
