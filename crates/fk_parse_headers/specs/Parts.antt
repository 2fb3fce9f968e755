-- Parts of statements, as the functions read them.
use Rattle.std.specs.Prelude.{ℕ}
use Rattle.fk_syntax.specs.Tree.{Tree}
use Rattle.fk_syntax.specs.Program.{Statement, Barrier, Break, Continue}
use Rattle.fk_parse_combinators.specs.Languages.{Placed, spot}
use Rattle.fk_parse_combinators.specs.Readers.{Reader, giving, ◌and◌, expect, by_next}
use Rattle.fk_expr.specs.Reading.{inner}
use Rattle.fk_parse_headers.specs.Reading.{read_condition, read_plain, read_return, read_expression}
use Rattle.fk_parse_combinators.specs.Kinds.{just}
use Rattle.fk_lex.specs.declared.token.TokenKind.TheVariants as kind

-- a statement that begins with a word and has no others in it, or an expression
abbrev pub read_worded : ℕ → Reader Statement
read_worded left =
    by_next (just kind.Barrier) (giving (λ t. Barrier (spot t)) (read_plain kind.Barrier))
    (by_next (just kind.Break) (giving (λ t. Break (spot t)) (read_plain kind.Break))
    (by_next (just kind.Continue) (giving (λ t. Continue (spot t)) (read_plain kind.Continue))
    (by_next (just kind.Return) (read_return (inner left))
    (read_expression (inner left)))))

-- "while" "(" comma ")" ";", behind the body of a `do`
abbrev pub read_do_condition : ℕ → Reader (Placed × (Tree × Placed))
read_do_condition left = expect kind.While and read_condition (inner left) and expect kind.Semicolon
