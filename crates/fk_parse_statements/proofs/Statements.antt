-- Statements are read exactly, where no `else` comes behind them; those that are closed, whatever comes.
use Rattle.std.proofs.Common.{◌≡◌, ℕ, zero, suc, ◌+◌, ◌≤◌, Option, IsTrue, refl, arith}
use Rattle.fk_syntax.specs.Program.{Statement, Block, Declare, Return, Expression}
use Rattle.fk_lex.specs.declared.token.TokenKind.{TokenKind}
use Rattle.fk_lex.specs.declared.token.TokenKind.TheVariants as kind
use Rattle.fk_parse_combinators.specs.Languages.{Language, token, ◌then◌, making, maybe, spot}
use Rattle.fk_expr.specs.Grammar.{Comma}
use Rattle.fk_parse_combinators.specs.Readers.{Reader, ◌and◌, giving, expect}
use Rattle.fk_expr.specs.Reading.{begins_expression, inner}
use Rattle.fk_parse_combinators.proofs.Sets.{Kinds, none, ◌∪◌, none_apart}
use Rattle.fk_parse_combinators.proofs.EachKind.{apart_by, within_by}
use Rattle.fk_parse_combinators.proofs.Exact.{Example}
use Rattle.fk_parse_combinators.proofs.Productions.{IsRead, IsLooselyRead, reads_token, reads_making, reads_then, reads_loose_then, reads_maybe, reads_many, reads_lower, reads_in_parentheses}
use Rattle.fk_parse_statements.specs.Statements.{is_closed, not_before, block, condition, while_statement, do_statement, for_statement, fork_statement, plain, statement, statement_within}
use Rattle.fk_parse_statements.specs.Reading.{begins_statement, nested, read_block, read_if, read_while, read_do, read_for, read_start, read_fork, read_statement, statements_with}
use Rattle.fk_parse_declarations.specs.Reading.{begins_parameter}
use Rattle.fk_parse_headers.specs.Reading.{read_condition, read_some, read_rank, read_plain, read_return, read_expression}
use Rattle.fk_parse_statements.proofs.Closing.{IsClosing, closing_any, closing_making, closing_then, closing_loose_then, closing_or, closing_kinds, closing_room, closing_nothing, closing_bottom, closing_deeper, read_of}
use Rattle.fk_parse_declarations.proofs.Declarations.{Expressions, expressions, after_comma, reads_variables}
use Rattle.fk_parse_statements.proofs.Branches.{closing_if}
use Rattle.fk_parse_statements.proofs.Counted.{closing_start}
use Rattle.fk_parse_statements.proofs.StatementShapes.{from_return, from_start, from_if, from_block, example_past, shape_within}
use Rattle.fk_parse_combinators.specs.Kinds.{just}

-- what is made of a language all of whose values are closed
closing_made : {levels : ℕ} {room : Type 0} {A : Type 0} (f : A → Statement) {L : Language A} {P : Reader A} {level : ℕ} {first : Kinds}
    → ((a : A) → IsTrue (is_closed (f a))) → IsRead levels L P level first none room → IsClosing levels (making f L) is_closed (giving f P) level first room
closing_made f closed w = closing_making f closed (closing_any w)

-- what stands in a statement is read exactly: expressions at its level, where so many are left, and statements one level deeper
pub record Parts (levels : ℕ) (S : ℕ → Language Statement) (P : Option (Reader Statement)) (l left bound : ℕ) (room : Type 0) : Type 0 where
  pub shallow : l ≤ levels
  pub expressions : Expressions levels l left bound room
  pub statements : IsClosing levels (S (l + 1)) is_closed (nested P) (l + 1) begins_statement room
  pub past : room → Example (not_before kind.OpenParenthesis (S (l + 1)))

-- ---- what statements are made of

-- one token at the level of a statement
reads_word : {levels : ℕ} {room : Type 0} {S : ℕ → Language Statement} {P : Option (Reader Statement)} {l left bound : ℕ} → Parts levels S P l left bound room
    → (k : TokenKind) → IsRead levels (token l k) (expect k) l (just k) none room
reads_word {l = l} w k = reads_token l k w.shallow

-- a condition is read exactly
pub reads_condition : {levels : ℕ} {room : Type 0} {l left bound : ℕ} → Expressions levels l left bound room → l ≤ levels
    → IsRead levels (condition bound l) (read_condition (inner left)) l (just kind.OpenParenthesis) none room
unfolding read_condition just
reads_condition E h = reads_making _ (reads_in_parentheses h E.comma (apart_by after_comma (just kind.CloseParenthesis) refl (λ v u. refl)))

-- a block is read exactly, if its statements are
pub reads_block : {levels : ℕ} {room : Type 0} (S : ℕ → Language Statement) (P : Option (Reader Statement)) {l : ℕ} → l ≤ levels
    → IsClosing levels (S (l + 1)) is_closed (nested P) (l + 1) begins_statement room
    → IsRead levels (block S l) (read_block P) l (just kind.OpenBrace) none room
unfolding read_block just
reads_block S P {l} h w =
    reads_making _ (reads_then (reads_token l kind.OpenBrace h)
    (reads_loose_then (reads_many (reads_lower (omega arith) (read_of w)) (apart_by (just kind.Else) begins_statement refl (λ v u. refl)))
    (reads_token l kind.CloseBrace h) (apart_by (just kind.Else ∪ begins_statement) (just kind.CloseBrace) refl (λ v u. refl)))
    (none_apart (begins_statement ∪ just kind.CloseBrace)))

-- an expression, or none
abbrev after_some : Kinds
after_some = after_comma ∪ begins_expression

-- it is read exactly
reads_some : {levels : ℕ} {room : Type 0} {l left bound : ℕ} → Expressions levels l left bound room
    → IsLooselyRead levels (maybe (Comma l bound)) (read_some (inner left)) l begins_expression after_some room
reads_some E = reads_maybe E.comma

-- ---- the statements that end in one

-- `while`
closing_while : {levels : ℕ} {room : Type 0} {S : ℕ → Language Statement} {P : Option (Reader Statement)} {l left bound : ℕ} → Parts levels S P l left bound room
    → IsClosing levels (while_statement bound S l) is_closed (read_while (inner left) P) l (just kind.While) room
unfolding read_while
closing_while w =
    closing_making _ (λ a. refl) (closing_then (reads_word w kind.While)
    (closing_then (reads_condition w.expressions w.shallow) w.statements (none_apart begins_statement)) (none_apart (just kind.OpenParenthesis)))

-- the last of a `for`
closing_last : {levels : ℕ} {room : Type 0} {S : ℕ → Language Statement} {P : Option (Reader Statement)} {l left bound : ℕ} → Parts levels S P l left bound room
    → IsClosing levels (token l kind.CloseParenthesis then S (l + 1)) (λ x. is_closed x.1) (expect kind.CloseParenthesis and nested P) l (just kind.CloseParenthesis) room
closing_last w = closing_then (reads_word w kind.CloseParenthesis) w.statements (none_apart begins_statement)

-- `for`
closing_for : {levels : ℕ} {room : Type 0} {S : ℕ → Language Statement} {P : Option (Reader Statement)} {l left bound : ℕ} → Parts levels S P l left bound room
    → IsClosing levels (for_statement bound S l) is_closed (read_for (inner left) P) l (just kind.For) room
unfolding read_for just
closing_for w =
    let some = reads_some w.expressions in
    let step = reads_word w kind.Semicolon in
    closing_making _ (λ a. refl) (closing_then (reads_word w kind.For)
    (closing_then (reads_word w kind.OpenParenthesis)
    (closing_loose_then some (closing_then step
    (closing_loose_then some (closing_then step
    (closing_loose_then some (closing_last w)
    (apart_by after_some (just kind.CloseParenthesis) refl (λ v u. refl)))
    (none_apart (begins_expression ∪ just kind.CloseParenthesis)))
    (apart_by after_some (just kind.Semicolon) refl (λ v u. refl)))
    (none_apart (begins_expression ∪ just kind.Semicolon)))
    (apart_by after_some (just kind.Semicolon) refl (λ v u. refl)))
    (none_apart (begins_expression ∪ just kind.Semicolon)))
    (none_apart (just kind.OpenParenthesis)))

-- the rank of a `fork`
reads_rank : {levels : ℕ} {room : Type 0} {S : ℕ → Language Statement} {P : Option (Reader Statement)} {l left bound : ℕ} → Parts levels S P l left bound room
    → IsRead levels (making (λ x. x.1.1.1) (token l kind.Semicolon then token l kind.Dollar then token l kind.Assign then Comma l bound)) (read_rank (inner left)) l (just kind.Semicolon) after_comma room
unfolding read_rank
reads_rank w =
    reads_making _ (reads_then (reads_word w kind.Semicolon)
    (reads_then (reads_word w kind.Dollar)
    (reads_then (reads_word w kind.Assign) w.expressions.comma (none_apart begins_expression)) (none_apart (just kind.Assign))) (none_apart (just kind.Dollar)))

-- `fork`
closing_fork : {levels : ℕ} {room : Type 0} {S : ℕ → Language Statement} {P : Option (Reader Statement)} {l left bound : ℕ} → Parts levels S P l left bound room
    → IsClosing levels (fork_statement bound S l) is_closed (read_fork (inner left) P) l (just kind.Fork) room
unfolding read_fork just
closing_fork w =
    closing_making _ (λ a. refl) (closing_then (reads_word w kind.Fork)
    (closing_then (reads_word w kind.OpenParenthesis)
    (closing_then w.expressions.comma (closing_then (reads_word w kind.Semicolon)
    (closing_then (reads_word w kind.At) (closing_then (reads_word w kind.Assign)
    (closing_then w.expressions.comma (closing_loose_then (reads_maybe (reads_rank w)) (closing_last w)
    (apart_by (after_comma ∪ just kind.Semicolon) (just kind.CloseParenthesis) refl (λ v u. refl)))
    (apart_by after_comma (just kind.Semicolon ∪ just kind.CloseParenthesis) refl (λ v u. refl)))
    (none_apart begins_expression)) (none_apart (just kind.Assign))) (none_apart (just kind.At)))
    (apart_by after_comma (just kind.Semicolon) refl (λ v u. refl)))
    (none_apart begins_expression)) (none_apart (just kind.OpenParenthesis)))

-- ---- the statements that end in a token

-- `do`
closing_do : {levels : ℕ} {room : Type 0} {S : ℕ → Language Statement} {P : Option (Reader Statement)} {l left bound : ℕ} → Parts levels S P l left bound room
    → IsClosing levels (do_statement bound S l) is_closed (read_do (inner left) P) l (just kind.Do) room
unfolding read_do just
closing_do w =
    closing_made _ (λ a. refl) (reads_then (reads_word w kind.Do)
    (reads_then (read_of w.statements) (reads_then (reads_word w kind.While)
    (reads_then (reads_condition w.expressions w.shallow) (reads_word w kind.Semicolon) (none_apart (just kind.Semicolon)))
    (none_apart (just kind.OpenParenthesis))) (apart_by (just kind.Else) (just kind.While) refl (λ v u. refl))) (none_apart begins_statement))

-- a word and a semicolon
reads_plain : {levels : ℕ} {room : Type 0} {S : ℕ → Language Statement} {P : Option (Reader Statement)} {l left bound : ℕ} → Parts levels S P l left bound room
    → (k : TokenKind) → IsRead levels (plain l k) (read_plain k) l (just k) none room
reads_plain w k = reads_making _ (reads_then (reads_word w k) (reads_word w kind.Semicolon) (none_apart (just kind.Semicolon)))

-- `return`
closing_return : {levels : ℕ} {room : Type 0} {S : ℕ → Language Statement} {P : Option (Reader Statement)} {l left bound : ℕ} → Parts levels S P l left bound room
    → IsClosing levels (making (λ x. Return (spot x.0) x.1.0) (token l kind.Return then maybe (Comma l bound) then token l kind.Semicolon)) is_closed
    (read_return (inner left)) l (just kind.Return) room
unfolding read_return just
closing_return w =
    closing_made _ (λ a. refl) (reads_then (reads_word w kind.Return)
    (reads_loose_then (reads_some w.expressions) (reads_word w kind.Semicolon) (apart_by after_some (just kind.Semicolon) refl (λ v u. refl)))
    (none_apart (begins_expression ∪ just kind.Semicolon)))

-- an expression and a semicolon
closing_expression : {levels : ℕ} {room : Type 0} {S : ℕ → Language Statement} {P : Option (Reader Statement)} {l left bound : ℕ} → Parts levels S P l left bound room
    → IsClosing levels (making (λ x. Expression x.0) (Comma l bound then token l kind.Semicolon)) is_closed (read_expression (inner left)) l begins_expression room
unfolding read_expression just
closing_expression w =
    closing_made _ (λ a. refl) (reads_then w.expressions.comma (reads_word w kind.Semicolon) (apart_by after_comma (just kind.Semicolon) refl (λ v u. refl)))

-- ---- statements

-- a statement is read exactly, if what stands in it is
pub closing_statement : {levels : ℕ} {room : Type 0} {S : ℕ → Language Statement} {P : Option (Reader Statement)} {l left bound : ℕ} → Parts levels S P l left bound room
    → IsClosing levels (statement bound S l) is_closed (read_statement (inner left) P) l begins_statement room
unfolding read_statement read_if read_start just
closing_statement {S = S} {P = P} {l = l} {bound = bound} w =
    let condition = reads_condition w.expressions w.shallow in
    closing_kinds begins_statement (within_by from_block begins_statement refl (λ v u. refl)) (within_by begins_statement from_block refl (λ v u. refl))
    (closing_or (closing_made Block (λ a. refl) (reads_block S P w.shallow w.statements))
    (closing_or (closing_made _ (λ a. refl) (reads_word w kind.Semicolon))
    (closing_or (closing_made Declare (λ a. refl) (reads_variables w.expressions w.shallow))
    (closing_or (closing_if bound l S w.shallow condition w.statements)
    (closing_or (closing_while w)
    (closing_or (closing_do w)
    (closing_or (closing_for w)
    (closing_or (closing_start bound l S w.shallow condition w.statements w.past)
    (closing_or (closing_making _ (λ a. refl) (closing_then (reads_word w kind.Farm) w.statements (none_apart begins_statement)))
    (closing_or (closing_making _ (λ a. refl) (closing_then (reads_word w kind.Seq) w.statements (none_apart begins_statement)))
    (closing_or (closing_fork w)
    (closing_or (closing_made _ (λ a. refl) (reads_plain w kind.Barrier))
    (closing_or (closing_made _ (λ a. refl) (reads_plain w kind.Break))
    (closing_or (closing_made _ (λ a. refl) (reads_plain w kind.Continue))
    (closing_or (closing_return w)
    (closing_expression w)
    (apart_by (just kind.Return) begins_expression refl (λ v u. refl)))
    (apart_by (just kind.Continue) from_return refl (λ v u. refl)))
    (apart_by (just kind.Break) _ refl (λ v u. refl)))
    (apart_by (just kind.Barrier) _ refl (λ v u. refl)))
    (apart_by (just kind.Fork) _ refl (λ v u. refl)))
    (apart_by (just kind.Seq) _ refl (λ v u. refl)))
    (apart_by (just kind.Farm) _ refl (λ v u. refl)))
    (apart_by (just kind.Start) _ refl (λ v u. refl)))
    (apart_by (just kind.For) from_start refl (λ v u. refl)))
    (apart_by (just kind.Do) _ refl (λ v u. refl)))
    (apart_by (just kind.While) _ refl (λ v u. refl)))
    (apart_by (just kind.If) _ refl (λ v u. refl)))
    (apart_by begins_parameter from_if refl (λ v u. refl)))
    (apart_by (just kind.Semicolon) _ refl (λ v u. refl)))
    (apart_by (just kind.OpenBrace) _ refl (λ v u. refl)))

-- ---- so many levels deeper

-- those that stand in a statement where no level is left
nested_bottom : {levels : ℕ} (l bound : ℕ) → 0 + l ≡ levels
    → IsClosing levels (statement_within bound (l + 1)) is_closed (nested (statements_with 0)) (l + 1) begins_statement (0 + 2 ≤ bound)
nested_bottom l bound all = closing_bottom is_closed (omega arith) (shape_within bound (l + 1) (λ r. omega arith))

-- and where one is
pub nested_deeper : {levels : ℕ} (left l bound : ℕ)
    → IsClosing levels (statement_within bound (l + 1)) is_closed (read_statement (inner left) (statements_with left)) (l + 1) begins_statement (left + 3 ≤ bound)
    → IsClosing levels (statement_within bound (l + 1)) is_closed (nested (statements_with (suc left))) (l + 1) begins_statement (suc left + 2 ≤ bound)
nested_deeper left l bound w = closing_room (λ r. omega arith) (closing_deeper w)

-- statements whose parts are read are read
one_level : {levels : ℕ} (left l bound : ℕ) → left + l ≡ levels
    → IsClosing levels (statement_within bound (l + 1)) is_closed (nested (statements_with left)) (l + 1) begins_statement (left + 2 ≤ bound)
    → IsClosing levels (statement_within (suc bound) l) is_closed (read_statement (inner left) (statements_with left)) l begins_statement (left + 3 ≤ suc bound)
one_level left l bound all w = closing_room {large = left + 2 ≤ bound} (λ r. omega arith) (closing_statement {S = statement_within bound} (record {
  shallow = omega arith;
  expressions = expressions left l bound all (λ r. r);
  statements = w;
  past = λ r. example_past bound (l + 1) (omega arith);
}))

-- where the bound is zero there are none
no_levels : {levels : ℕ} (left l : ℕ) → IsClosing levels (statement_within 0 l) is_closed (read_statement (inner left) (statements_with left)) l begins_statement (left + 3 ≤ 0)
no_levels left l = closing_nothing is_closed _ l begins_statement (λ r. omega arith)

-- statements at a level where so many are left, for each bound on the levels that they open
pub closing_within : {levels : ℕ} (left l bound : ℕ) → left + l ≡ levels
    → IsClosing levels (statement_within bound l) is_closed (read_statement (inner left) (statements_with left)) l begins_statement (left + 3 ≤ bound)
closing_within zero l zero all = no_levels 0 l
closing_within zero l (suc bound) all = one_level 0 l bound all (nested_bottom l bound all)
closing_within (suc left) l zero all = no_levels (suc left) l
closing_within (suc left) l (suc bound) all =
    one_level (suc left) l bound all (nested_deeper left l bound (closing_within left (l + 1) bound (omega arith)))
