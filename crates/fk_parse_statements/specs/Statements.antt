-- The grammar of statements. Each token of a stretch has the number of levels that are open at it.
use Rattle.std.specs.Prelude.{◌≡◌, ℕ, zero, suc, ◌+◌, [], ◌∷◌, Some, None, Bool, true, false}
use Rattle.std.specs.Prelude.{IsTrue}
use Rattle.fk_syntax.specs.Tree.{Tree}
use Rattle.fk_syntax.specs.Program.{Statement, Empty, Expression, Block, Declare, If, IfElse, While}
use Rattle.fk_syntax.specs.Program.{DoWhile, For, Start, Farm, Seq, Fork, Barrier, Break, Continue}
use Rattle.fk_syntax.specs.Program.{Return, Statements, statements_of}
use Rattle.fk_lex.specs.declared.token.TokenKind.{TokenKind}
use Rattle.fk_parse_combinators.specs.Languages.{Placed, Stretch, Language, nothing, token, ◌then◌}
use Rattle.fk_parse_combinators.specs.Languages.{◌or◌, making, many, maybe, spot}
use Rattle.fk_expr.specs.Grammar.{Comma}
use Rattle.fk_lex.specs.declared.token.TokenKind.TheVariants as kind
use Rattle.fk_parse_declarations.specs.Grammar.{variables}

-- inner statements are given by their level

-- whether an `else` after a statement can't belong to an `if` in it: the statement doesn't end in
-- an `if` without an `else`
abbrev pub is_closed : Statement → Bool
is_closed (If at c chosen) = false
is_closed (IfElse at c chosen otherwise) = is_closed otherwise
is_closed (While at c inside) = is_closed inside
is_closed (For at before c step inside) = is_closed inside
is_closed (Start at count inside) = is_closed inside
is_closed (Farm at inside) = is_closed inside
is_closed (Seq at inside) = is_closed inside
is_closed (Fork at parts part rank inside) = is_closed inside
is_closed other = true

-- the values of a language that satisfy a test
abbrev pub accepted : {A : Type 0} → (A → Bool) → Language A → Language A
accepted test L s a = L s a × IsTrue (test a)

-- a stretch begins with a token of a kind
abbrev pub Leads : TokenKind → Stretch → Type 0
Leads kind [] = ⊥
Leads kind (m ∷ s) = m.token.kind ≡ kind

-- the stretches of a language that don't begin with a token of this kind
abbrev pub not_before : {A : Type 0} → TokenKind → Language A → Language A
not_before kind L s a = L s a × (Leads kind s → ⊥)

-- block = "{" { stmt } "}"
abbrev pub block : (ℕ → Language Statement) → ℕ → Language Statements
block S l = making (λ (opening, (list, closing)). statements_of list)
    (token l kind.OpenBrace then many (S (l + 1)) then token l kind.CloseBrace)

-- "(" comma ")", which opens no level
abbrev pub condition : ℕ → ℕ → Language Tree
condition bound l = making (λ (opening, (tree, closing)). tree)
    (token l kind.OpenParenthesis then Comma l bound then token l kind.CloseParenthesis)

-- "if" "(" comma ")" stmt [ "else" stmt ], where an `else` belongs to the nearest `if`
abbrev pub if_statement : ℕ → (ℕ → Language Statement) → ℕ → Language Statement
if_statement bound S l =
    making (λ (word, (test, inside)). If (spot word) test inside)
    (token l kind.If then condition bound l then S (l + 1))
    or making
    (λ (word, (test, (inside, (mark, otherwise)))). IfElse (spot word) test inside otherwise)
    (token l kind.If then condition bound l then accepted is_closed (S (l + 1))
    then token l kind.Else then S (l + 1))

-- "while" "(" comma ")" stmt
abbrev pub while_statement : ℕ → (ℕ → Language Statement) → ℕ → Language Statement
while_statement bound S l = making (λ (word, (test, inside)). While (spot word) test inside)
    (token l kind.While then condition bound l then S (l + 1))

-- "do" stmt "while" "(" comma ")" ";"
abbrev pub do_statement : ℕ → (ℕ → Language Statement) → ℕ → Language Statement
do_statement bound S l =
    making (λ (word, (inside, (mark, (test, end)))). DoWhile (spot word) inside test)
    (token l kind.Do then S (l + 1) then token l kind.While then condition bound l
    then token l kind.Semicolon)

-- "for" "(" [ comma ] ";" [ comma ] ";" [ comma ] ")" stmt
abbrev pub for_statement : ℕ → (ℕ → Language Statement) → ℕ → Language Statement
for_statement bound S l =
    making (λ (word, (opening, (before, (first, (test, (second, (after, (closing, inside)))))))).
    For (spot word) before test after inside)
    (token l kind.For then token l kind.OpenParenthesis then maybe (Comma l bound)
    then token l kind.Semicolon
    then maybe (Comma l bound) then token l kind.Semicolon then maybe (Comma l bound)
    then token l kind.CloseParenthesis then S (l + 1))

-- "start" [ "(" comma ")" ] stmt: a parenthesis directly after `start` opens its count
abbrev pub start_statement : ℕ → (ℕ → Language Statement) → ℕ → Language Statement
start_statement bound S l =
    making (λ (word, (count, inside)). Start (spot word) (Some count) inside)
    (token l kind.Start then condition bound l then S (l + 1))
    or making (λ (word, inside). Start (spot word) None inside)
    (token l kind.Start then not_before kind.OpenParenthesis (S (l + 1)))

-- "fork" "(" comma ";" "@" "=" comma [ ";" "$" "=" comma ] ")" stmt
abbrev pub fork_statement : ℕ → (ℕ → Language Statement) → ℕ → Language Statement
fork_statement bound S l =
    making (λ (word, (opening, (parts, (end, (at, (equals, (part, (rank, (closing, inside))))))))).
    Fork (spot word) parts part rank inside)
    (token l kind.Fork then token l kind.OpenParenthesis then Comma l bound
    then token l kind.Semicolon then token l kind.At then token l kind.Assign
    then Comma l bound
    then maybe (making (λ (end, (dollar, (equals, rank))). rank)
    (token l kind.Semicolon then token l kind.Dollar then token l kind.Assign then Comma l bound))
    then token l kind.CloseParenthesis then S (l + 1))

-- a keyword and ";"
abbrev pub plain : ℕ → TokenKind → Language Placed
plain l is = making (λ (word, end). word) (token l is then token l kind.Semicolon)

abbrev pub statement : ℕ → (ℕ → Language Statement) → ℕ → Language Statement
statement bound S l =
    making Block (block S l)
    or making (λ t. Empty) (token l kind.Semicolon)
    or making Declare (variables bound l)
    or if_statement bound S l
    or while_statement bound S l
    or do_statement bound S l
    or for_statement bound S l
    or start_statement bound S l
    or making (λ (word, inside). Farm (spot word) inside) (token l kind.Farm then S (l + 1))
    or making (λ (word, inside). Seq (spot word) inside) (token l kind.Seq then S (l + 1))
    or fork_statement bound S l
    or making (λ t. Barrier (spot t)) (plain l kind.Barrier)
    or making (λ t. Break (spot t)) (plain l kind.Break)
    or making (λ t. Continue (spot t)) (plain l kind.Continue)
    or making (λ (word, (value, end)). Return (spot word) value)
    (token l kind.Return then maybe (Comma l bound) then token l kind.Semicolon)
    or making (λ (tree, end). Expression tree) (Comma l bound then token l kind.Semicolon)

-- statements that open at most `bound` levels
abbrev pub statement_within : ℕ → ℕ → Language Statement
statement_within zero l = nothing
statement_within (suc bound) l = statement bound (statement_within bound) l
