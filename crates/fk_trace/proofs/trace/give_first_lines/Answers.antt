use Rattle.std.proofs.Common.{ℕ, List, [], ◌∷◌, ◌++◌, codes, ap, ◌∙◌}
use Rattle.fk_ports.proofs.Pieces.{told}
use Rattle.fk_trace.specs.Text.{first_lines}
use Rattle.fk_trace.proofs.trace.give_first_lines.Goals as goal

pub returns-clause-all : goal.returns-clause-all
returns-clause-all g c =
    told c.give_pieces.result _ _ _ (first_lines c.args.harts)
    (ap (λ (digits : List ℕ). codes "fork95 trace 1" ++ (10 ∷ (codes "harts " ++ (digits ++ (10 ∷ []))))) (c.as_slice.ensures.value ∙ c.unsigned_text-number.ensures))
    c.give_pieces.ensures.all
