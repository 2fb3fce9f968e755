use Rattle.std.proofs.Common.{ℕ, List, [], ◌∷◌, ◌++◌, codes, sym, ap, ◌∙◌, append_assoc}
use Rattle.std.specs.Fmt.{decimal}
use Rattle.fk_top.specs.Report.{frame_line}
use Rattle.fk_ports.proofs.Pieces.{told}
use Rattle.fk_top.proofs.call.give_frame.Goals as goal

pub returns-clause-all : goal.returns-clause-all
returns-clause-all g c =
    let name = c.args.name.now in
    told c.give_pieces.result _ _ _ (frame_line name c.args.words)
    (ap (λ (digits : List ℕ). codes "refused 10 FrameTooLarge " ++ (name ++ (32 ∷ (digits ++ (10 ∷ []))))) (c.as_slice.ensures.value ∙ c.unsigned_text-number.ensures)
    ∙ ap (λ (bytes : List ℕ). codes "refused 10 FrameTooLarge " ++ bytes) (sym (append_assoc name (32 ∷ decimal c.args.words) (10 ∷ []))))
    c.give_pieces.ensures.all
