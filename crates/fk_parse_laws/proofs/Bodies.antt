-- The variables and statements of a text have the properties that its tokens give them.
use Rattle.std.proofs.Common.{ℕ, zero, suc, ◌+◌, List, [], ◌∷◌, map, Option, Some, None}
use Rattle.std.specs.Prelude.{Bool}
use Rattle.fk_syntax.specs.Tree.{Tree, BaseType}
use Rattle.fk_syntax.specs.Program.{Statement, statements_of}
use Rattle.fk_parse_combinators.specs.Languages.{Language, maybe}
use Rattle.fk_expr.specs.Grammar.{Comma}
use Rattle.fk_parse_declarations.specs.Grammar.{separated, length_of, Declarator, variable, declared, variables}
use Rattle.fk_parse_statements.specs.Statements.{accepted, not_before, block, condition, if_statement, while_statement, do_statement, for_statement, start_statement, fork_statement, statement, statement_within}
use Rattle.fk_parse.specs.Items.{body}
use Rattle.fk_parse_laws.specs.Every.{Always, Parts, TreeHas, OptionHas, VariablesHave, StatementHas, StatementsHave, BodyHas}
use Rattle.fk_parse_laws.specs.Words.{IsWord, LengthIsWord}
use Rattle.fk_parse_laws.proofs.Holding.{Holds, always, of_nothing, of_making, of_then, of_or, Each, of_many, OfOption, of_maybe, of_number}
use Rattle.fk_parse_laws.proofs.Expressions.{AreRead, expression_has, assignment_of}

length_word : (x : Option ℕ) → OfOption IsWord x → LengthIsWord x
length_word None h = tt
length_word (Some n) h = h

pub separated_hold : {A : Type 0} {L : Language A} {P : A → Type 0} {l : ℕ} → Holds L P → Holds (separated l L) (Each P)
separated_hold h = of_making _ (of_then h (of_many (of_making _ (of_then always h) (λ x k. k.1)))) (λ x k. k)

pub length_has : (l : ℕ) → Holds (length_of l) IsWord
length_has l = of_making _ (of_then always (of_then of_number always)) (λ x h. h.1.0)

pub accepted_holds : {A : Type 0} {test : A → Bool} {L : Language A} {P : A → Type 0} → Holds L P → Holds (accepted test L) P
accepted_holds h = record { holds = λ s a is g. h.holds s a is.0 g }

pub not_before_holds : {A : Type 0} {k : _} {L : Language A} {P : A → Type 0} → Holds L P → Holds (not_before k L) P
not_before_holds h = record { holds = λ s a is g. h.holds s a is.0 g }

module _ (has : Parts) (read : AreRead has) where
  option_has : (x : Option Tree) → OfOption (TreeHas has) x → OptionHas has x
  option_has None h = tt
  option_has (Some e) h = h

  -- ---- declarations

  abbrev pub DeclaratorHas : Declarator → Type 0
  DeclaratorHas d = has.length d.length × OptionHas has d.first

  pub read_length : (x : Option ℕ) → OfOption IsWord x → has.length x
  read_length x h = read.length x (length_word x h)

  variable_has : (bound l : ℕ) → Holds (variable bound l) DeclaratorHas
  variable_has bound l =
      of_making _ (of_then always (of_then always (of_then (of_maybe (length_has l)) (of_maybe (of_making _ (of_then always (assignment_of has read bound l)) (λ x h. h.1))))))
      (λ x h. (read_length x.1.1.0 h.1.1.0, option_has x.1.1.1 h.1.1.1))

  pub declared_have : (shared : Bool) (base : BaseType) (xs : List Declarator) → Each DeclaratorHas xs → VariablesHave has (map (declared shared base) xs)
  declared_have shared base [] h = tt
  declared_have shared base (x ∷ xs) h = (h.0.0, h.0.1, declared_have shared base xs h.1)

  pub variables_have : (bound l : ℕ) → Holds (variables bound l) (VariablesHave has)
  variables_have bound l =
      of_making _ (of_then always (of_then always (of_then (separated_hold (variable_has bound l)) always))) (λ x h. declared_have _ x.1.0 x.1.1.0 h.1.1.0)

  -- ---- statements

  statements_have : (xs : List Statement) → Each (StatementHas has) xs → StatementsHave has (statements_of xs)
  statements_have [] h = tt
  statements_have (x ∷ xs) h = (h.0, statements_have xs h.1)

  module _ (bound : ℕ) (S : ℕ → Language Statement) (inner : (l : ℕ) → Holds (S l) (StatementHas has)) where
    block_has : (l : ℕ) → Holds (block S l) (StatementsHave has)
    block_has l = of_making _ (of_then always (of_then (of_many (inner (l + 1))) always)) (λ x h. statements_have x.1.0 h.1.0)

    condition_has : (l : ℕ) → Holds (condition bound l) (TreeHas has)
    condition_has l = of_making _ (of_then always (of_then (expression_has has read bound l) always)) (λ x h. h.1.0)

    part_has : (l : ℕ) → Holds (maybe (Comma l bound)) (OptionHas has)
    part_has l = record { holds = λ s x is g. option_has x ((of_maybe (expression_has has read bound l)).holds s x is g) }

    if_has : (l : ℕ) → Holds (if_statement bound S l) (StatementHas has)
    if_has l =
        of_or (of_making _ (of_then always (of_then (condition_has l) (inner (l + 1)))) (λ x h. (h.1.0, h.1.1)))
        (of_making _ (of_then always (of_then (condition_has l) (of_then (accepted_holds (inner (l + 1))) (of_then always (inner (l + 1)))))) (λ x h. (h.1.0, h.1.1.0, h.1.1.1.1)))

    while_has : (l : ℕ) → Holds (while_statement bound S l) (StatementHas has)
    while_has l = of_making _ (of_then always (of_then (condition_has l) (inner (l + 1)))) (λ x h. (h.1.0, h.1.1))

    do_has : (l : ℕ) → Holds (do_statement bound S l) (StatementHas has)
    do_has l = of_making _ (of_then always (of_then (inner (l + 1)) (of_then always (of_then (condition_has l) always)))) (λ x h. (h.1.0, h.1.1.1.0))

    for_has : (l : ℕ) → Holds (for_statement bound S l) (StatementHas has)
    for_has l =
        of_making _ (of_then always (of_then always (of_then (part_has l) (of_then always (of_then (part_has l) (of_then always (of_then (part_has l) (of_then always (inner (l + 1))))))))))
        (λ x h. (h.1.1.0, h.1.1.1.1.0, h.1.1.1.1.1.1.0, h.1.1.1.1.1.1.1.1))

    start_has : (l : ℕ) → Holds (start_statement bound S l) (StatementHas has)
    start_has l =
        of_or (of_making _ (of_then always (of_then (condition_has l) (inner (l + 1)))) (λ x h. (h.1.0, h.1.1)))
        (of_making _ (of_then always (not_before_holds (inner (l + 1)))) (λ x h. (tt, h.1)))

    fork_has : (l : ℕ) → Holds (fork_statement bound S l) (StatementHas has)
    fork_has l =
        of_making _ (of_then always (of_then always (of_then (expression_has has read bound l) (of_then always (of_then always (of_then always (of_then (expression_has has read bound l)
        (of_then (of_maybe (of_making _ (of_then always (of_then always (of_then always (expression_has has read bound l)))) (λ y k. k.1.1.1))) (of_then always (inner (l + 1)))))))))))
        (λ x h. (h.1.1.0, h.1.1.1.1.1.1.0, option_has x.1.1.1.1.1.1.1.0 h.1.1.1.1.1.1.1.0, h.1.1.1.1.1.1.1.1.1))

    statement_has : (l : ℕ) → Holds (statement bound S l) (StatementHas has)
    statement_has l =
        of_or (of_making _ (block_has l) (λ x h. h))
        (of_or (of_making Always always (λ x h. tt))
        (of_or (of_making _ (variables_have bound l) (λ x h. h))
        (of_or (if_has l)
        (of_or (while_has l)
        (of_or (do_has l)
        (of_or (for_has l)
        (of_or (start_has l)
        (of_or (of_making _ (of_then always (inner (l + 1))) (λ x h. h.1))
        (of_or (of_making _ (of_then always (inner (l + 1))) (λ x h. h.1))
        (of_or (fork_has l)
        (of_or (of_making Always always (λ x h. tt))
        (of_or (of_making Always always (λ x h. tt))
        (of_or (of_making Always always (λ x h. tt))
        (of_or (of_making _ (of_then always (of_then (part_has l) always)) (λ x h. h.1.0))
        (of_making _ (of_then (expression_has has read bound l) always) (λ x h. h.0))))))))))))))))

  within_has : (bound l : ℕ) → Holds (statement_within bound l) (StatementHas has)
  within_has zero l = of_nothing
  within_has (suc bound) l = statement_has bound (statement_within bound) (within_has bound) l

  pub body_has : (bound : ℕ) → Holds (body bound) (BodyHas has)
  body_has bound = of_or (of_making Always always (λ x h. tt)) (of_making _ (block_has bound (statement_within bound) (within_has bound) 1) (λ x h. h))
