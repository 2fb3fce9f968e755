use Rattle.std.proofs.Common.{sym, subst}
use Rattle.std.specs.Prelude.{MatchOption}
use Rattle.fk_types_names.specs.Visible.{IsHidden, IsInnermost}
use Rattle.fk_types_names.specs.Reading.{marks_of}
use Rattle.fk_types_names.proofs.ReadingLemmas.{innermost_at}
use Rattle.fk_types_names.proofs.reader.Reader.innermost.Goals as goal

pub returns : goal.returns
returns c = λ at known. subst (λ o. MatchOption o (IsHidden (marks_of c.args.self.now) c.args.name.now at) (IsInnermost (marks_of c.args.self.now) c.args.name.now at)) (sym c.get.ensures) (innermost_at c.args.self.now at known c.args.name.now)
