use Rattle.std.proofs.Common.{ℕ, List, sym, ap, ◌∙◌}
use Rattle.fk_top.specs.Report.{frame_line, no_global_line}
use Rattle.fk_top.specs.Ending.{last_line}
use Rattle.fk_ports.proofs.Pieces.{told}
use Rattle.fk_top.proofs.call.give_line.Goals as goal

pub returns-in-FrameTooLarge-clause-all : goal.returns-in-FrameTooLarge-clause-all
returns-in-FrameTooLarge-clause-all g c =
    told c.give_frame.result _ _ _ (last_line c.args.line.now)
    (ap (λ (name : List ℕ). frame_line name c.in-FrameTooLarge.words) c.as_slice-in-FrameTooLarge.ensures.value ∙ ap last_line (sym c.in-FrameTooLarge.is)) c.give_frame.ensures.all

pub returns-in-NoGlobal-clause-all : goal.returns-in-NoGlobal-clause-all
returns-in-NoGlobal-clause-all g c =
    told c.give_pieces.result _ _ _ (last_line c.args.line.now) (ap no_global_line c.as_bytes.ensures.value ∙ ap last_line (sym c.in-NoGlobal.is)) c.give_pieces.ensures.all
