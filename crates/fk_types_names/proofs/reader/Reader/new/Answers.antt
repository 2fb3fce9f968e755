use Rattle.std.proofs.Common.{map, sym, subst}
use Rattle.fk_types_names.specs.View.{mark_of}
use Rattle.fk_types_names.specs.Visible.{depth, DeclaresAt, IsVisible}
use Rattle.fk_types_names.specs.Locals.{Holds}
use Rattle.fk_types_names.specs.TableView.{shown}
use Rattle.fk_types_names.proofs.ReadingLemmas.{at_start}
use Rattle.fk_types_names.proofs.reader.Reader.new.Goals as goal

pub returns-clause-start : goal.returns-clause-start
returns-clause-start c =
    let marks = map mark_of c.args.marks.now in
    let file = shown c.in_ok-visible.visible in
    record {
      depths = c.in_ok-depths.ensures;
      file = file;
      first = c.in_ok-visible.ensures;
      holds = subst (λ ls. Holds (DeclaresAt marks) (depth marks) (λ i. IsVisible marks i 0) (λ i. IsVisible marks i 0) file file ls) (sym c.new.ensures.items) (at_start marks file);
    }
