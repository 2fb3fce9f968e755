use Rattle.std.proofs.Common.{sym, subst}
use Rattle.fk_check_rules.specs.Least.{IsLeast}
use Rattle.fk_types_rules.specs.Pieces.{UsedBreaks}
use Rattle.fk_types_checker.proofs.values.role_fault.Goals as goal

pub returns-in-Condition : goal.returns-in-Condition
returns-in-Condition c = λ env term is. subst (λ role. IsLeast (UsedBreaks env role term) c.as_condition.result) (sym c.in-Condition.is) (c.as_condition.ensures env term is)

pub returns-in-Alone : goal.returns-in-Alone
returns-in-Alone c = λ env term is. subst (λ role. IsLeast (UsedBreaks env role term) c.as_statement.result) (sym c.in-Alone.is) (c.as_statement.ensures env term is)

pub returns-in-Word : goal.returns-in-Word
returns-in-Word c = λ env term is. subst (λ role. IsLeast (UsedBreaks env role term) c.as_value.result) (sym c.in-Word.is) (c.as_value.ensures env term is)
