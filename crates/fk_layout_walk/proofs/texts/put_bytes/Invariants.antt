-- What is printed of the rest of the text still makes of the visitor what all of it makes of it.
use Rattle.std.proofs.Common.{◌≡◌, length}
use Rattle.fk_meaning_forms.specs.Expressions.{Coded, put_bytes}
use Rattle.fk_meaning_forms.specs.Texts.{text_of, up_to_quote}
use Rattle.fk_layout_walk.specs.Known.{functions_of}
use Rattle.fk_layout_walk.specs.Through.{through}
use Rattle.fk_layout_walk.proofs.texts.put_bytes.Given as goal

abbrev pub invariant-loop-left : goal.invariant-loop-left
invariant-loop-left g l = (rest : Coded) → through g.V.Visitor.after g.V.Visitor.counts (functions_of l.known) l.fn.visitor (put_bytes (text_of l.text) rest) ≡ through g.V.Visitor.after g.V.Visitor.counts (functions_of l.known) l.visitor (put_bytes (up_to_quote l.left) rest)

abbrev pub decreases-loop-left : goal.decreases-loop-left
decreases-loop-left g l = length l.left
