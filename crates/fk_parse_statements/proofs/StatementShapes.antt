-- What statements begin with, at each level and each bound on the levels that they open.
use Rattle.std.proofs.Common.{ℕ, zero, suc, ◌+◌, ◌≤◌, [], ◌∷◌, inl, inr, refl, arith}
use Rattle.fk_syntax.specs.Program.{Statement, Block, Empty, Declare}
use Rattle.fk_lex.specs.declared.token.TokenKind.{TokenKind}
use Rattle.fk_lex.specs.declared.token.TokenKind.TheVariants as kind
use Rattle.fk_parse_combinators.specs.Languages.{Stretch, Language, ◌or◌}
use Rattle.fk_expr.specs.Grammar.{deeper, Comma}
use Rattle.fk_parse_combinators.specs.Readers.{tells}
use Rattle.fk_expr.specs.Reading.{begins_type, begins_expression}
use Rattle.fk_parse_combinators.proofs.Sets.{Kinds, ◌∪◌}
use Rattle.fk_parse_combinators.proofs.EachKind.{within_by}
use Rattle.fk_parse_combinators.proofs.Exact.{Fronts, Starts, Example, Shape}
use Rattle.fk_parse_combinators.proofs.Token.{some_token, example_token, shape_token, shape_telling}
use Rattle.fk_parse_combinators.proofs.Shapes.{example_making, example_then, example_left, example_empty, empty_many, empty_maybe, shape_kinds, shape_nothing, shape_making, shape_then, shape_loose_then, shape_or, loose_maybe}
use Rattle.fk_expr.proofs.TypeNames.{shape_base}
use Rattle.fk_expr.proofs.Beginnings.{examples, example_comma, shape_comma}
use Rattle.fk_parse_declarations.specs.Kinds.{sharing_told}
use Rattle.fk_parse_declarations.specs.Grammar.{variable, variables}
use Rattle.fk_parse_statements.specs.Statements.{block, condition, if_statement, while_statement, do_statement, for_statement, start_statement, fork_statement, plain, statement, statement_within, not_before}
use Rattle.fk_parse_declarations.specs.Reading.{begins_parameter}
use Rattle.fk_parse_statements.specs.Reading.{begins_statement}
use Rattle.fk_parse_combinators.specs.Kinds.{just}

-- ---- what statements are made of

-- expressions with commas begin as all do
shape_expression : {room : Type 0} (bound l : ℕ) → (room → 1 ≤ bound) → Shape (Comma l bound) l begins_expression room
shape_expression bound l enough = shape_comma (deeper bound) l (λ r. examples bound (l + 1) (enough r))

-- there is one
example_expression : (bound l : ℕ) → Example (Comma l bound)
example_expression bound l = example_comma (deeper bound) l

-- there is a condition
example_condition : (bound l : ℕ) → Example (condition bound l)
example_condition bound l =
    example_making _ (example_then (example_token l kind.OpenParenthesis)
    (example_then (example_expression bound l) (example_token l kind.CloseParenthesis)))

-- there is a variable
example_variable : (bound l : ℕ) → Example (variable bound l)
example_variable bound l =
    example_making _ (example_then (example_empty (empty_many _))
    (example_then (example_token l kind.Word) (example_then (example_empty (empty_maybe _)) (example_empty (empty_maybe _)))))

-- the kinds that begin a declaration
abbrev declaring : Kinds
declaring = tells sharing_told ∪ begins_type

-- what declarations begin with
shape_variables : {room : Type 0} (bound l : ℕ) → Shape (variables bound l) l begins_parameter room
unfolding just
shape_variables bound l =
    shape_kinds begins_parameter (within_by declaring begins_parameter refl (λ v u. refl)) (within_by begins_parameter declaring refl (λ v u. refl))
    (shape_making _ (shape_loose_then (loose_maybe (shape_telling l sharing_told kind.Sh _ refl))
    (shape_then (shape_base l)
    (λ r. example_then (example_making _ (example_then (example_variable bound l) (example_empty (empty_many _)))) (example_token l kind.Semicolon)))))

-- ---- statements that begin with one word in two ways

-- more stretches that begin alike
shape_left : {room : Type 0} {A : Type 0} {L M : Language A} {level : ℕ} {first : Kinds} → Shape L level first room → Shape M level first ⊥ → Shape (L or M) level first room
shape_left {room} {A} {L} {M} {level} {first} v w = record {
  fronts = fronts;
  starts = λ r t h. let x : Starts L level t = v.starts r t h in
      record { at = x.at; deep = x.deep; others = x.others; value = x.value; spelled = inl x.spelled };
  example = λ r. example_left M (v.example r);
}
  where
    fronts : (s : Stretch) (a : A) → (L or M) s a → Fronts first level s
    fronts s a (inl l) = v.fronts s a l
    fronts s a (inr m) = w.fronts s a m

-- `if` begins one with `else` and one without
shape_if : {room : Type 0} (bound l : ℕ) (S : ℕ → Language Statement) → (room → Example (S (l + 1))) → Shape (if_statement bound S l) l (just kind.If) room
shape_if bound l S x =
    shape_left (shape_making _ (shape_then (shape_token l kind.If) (λ r. example_then (example_condition bound l) (x r))))
    (shape_making _ (shape_then (shape_token l kind.If) (λ r. absurd r)))

-- `start` begins one with a count and one without
shape_start : {room : Type 0} (bound l : ℕ) (S : ℕ → Language Statement) → (room → Example (S (l + 1))) → Shape (start_statement bound S l) l (just kind.Start) room
shape_start bound l S x =
    shape_left (shape_making _ (shape_then (shape_token l kind.Start) (λ r. example_then (example_condition bound l) (x r))))
    (shape_making _ (shape_then (shape_token l kind.Start) (λ r. absurd r)))

-- ---- the other statements

-- a block
shape_block : {room : Type 0} (l : ℕ) (S : ℕ → Language Statement) → Shape (block S l) l (just kind.OpenBrace) room
shape_block l S =
    shape_making _ (shape_then (shape_token l kind.OpenBrace)
    (λ r. example_then (example_empty (empty_many _)) (example_token l kind.CloseBrace)))

-- `while`
shape_while : {room : Type 0} (bound l : ℕ) (S : ℕ → Language Statement) → (room → Example (S (l + 1))) → Shape (while_statement bound S l) l (just kind.While) room
shape_while bound l S x = shape_making _ (shape_then (shape_token l kind.While) (λ r. example_then (example_condition bound l) (x r)))

-- `do`
shape_do : {room : Type 0} (bound l : ℕ) (S : ℕ → Language Statement) → (room → Example (S (l + 1))) → Shape (do_statement bound S l) l (just kind.Do) room
shape_do bound l S x =
    shape_making _ (shape_then (shape_token l kind.Do)
    (λ r. example_then (x r)
    (example_then (example_token l kind.While) (example_then (example_condition bound l) (example_token l kind.Semicolon)))))

-- `for`
shape_for : {room : Type 0} (bound l : ℕ) (S : ℕ → Language Statement) → (room → Example (S (l + 1))) → Shape (for_statement bound S l) l (just kind.For) room
shape_for bound l S x =
    shape_making _ (shape_then (shape_token l kind.For)
    (λ r. example_then (example_token l kind.OpenParenthesis)
    (example_then (example_empty (empty_maybe _)) (example_then (example_token l kind.Semicolon)
    (example_then (example_empty (empty_maybe _)) (example_then (example_token l kind.Semicolon)
    (example_then (example_empty (empty_maybe _)) (example_then (example_token l kind.CloseParenthesis) (x r)))))))))

-- `fork`
shape_fork : {room : Type 0} (bound l : ℕ) (S : ℕ → Language Statement) → (room → Example (S (l + 1))) → Shape (fork_statement bound S l) l (just kind.Fork) room
shape_fork bound l S x =
    shape_making _ (shape_then (shape_token l kind.Fork)
    (λ r. example_then (example_token l kind.OpenParenthesis)
    (example_then (example_expression bound l) (example_then (example_token l kind.Semicolon)
    (example_then (example_token l kind.At) (example_then (example_token l kind.Assign)
    (example_then (example_expression bound l) (example_then (example_empty (empty_maybe _))
    (example_then (example_token l kind.CloseParenthesis) (x r))))))))))

-- a word and a semicolon
shape_plain : {room : Type 0} (l : ℕ) (k : TokenKind) → Shape (plain l k) l (just k) room
shape_plain l k = shape_making _ (shape_then (shape_token l k) (λ r. example_token l kind.Semicolon))

-- all kinds that begin a statement, in the grammar's order
abbrev pub from_return : Kinds
from_return = just kind.Return ∪ begins_expression

-- those from `start` on
abbrev pub from_start : Kinds
from_start = just kind.Start ∪ (just kind.Farm ∪ (just kind.Seq ∪ (just kind.Fork ∪ (just kind.Barrier ∪ (just kind.Break ∪ (just kind.Continue ∪ from_return))))))

-- those from `if` on
abbrev pub from_if : Kinds
from_if = just kind.If ∪ (just kind.While ∪ (just kind.Do ∪ (just kind.For ∪ from_start)))

-- all of them
abbrev pub from_block : Kinds
from_block = just kind.OpenBrace ∪ (just kind.Semicolon ∪ (begins_parameter ∪ from_if))

-- a statement begins with one of these kinds, where those that stand in it have an example
pub shape_statement : {room : Type 0} (bound l : ℕ) (S : ℕ → Language Statement) → (room → 1 ≤ bound) → (room → Example (S (l + 1)))
    → Shape (statement bound S l) l begins_statement room
unfolding just
shape_statement bound l S enough x =
    shape_kinds begins_statement (within_by from_block begins_statement refl (λ v u. refl)) (within_by begins_statement from_block refl (λ v u. refl))
    (shape_or (shape_making Block (shape_block l S))
    (shape_or (shape_making _ (shape_token l kind.Semicolon))
    (shape_or (shape_making Declare (shape_variables bound l))
    (shape_or (shape_if bound l S x)
    (shape_or (shape_while bound l S x)
    (shape_or (shape_do bound l S x)
    (shape_or (shape_for bound l S x)
    (shape_or (shape_start bound l S x)
    (shape_or (shape_making _ (shape_then (shape_token l kind.Farm) x))
    (shape_or (shape_making _ (shape_then (shape_token l kind.Seq) x))
    (shape_or (shape_fork bound l S x)
    (shape_or (shape_making _ (shape_plain l kind.Barrier))
    (shape_or (shape_making _ (shape_plain l kind.Break))
    (shape_or (shape_making _ (shape_plain l kind.Continue))
    (shape_or (shape_making _ (shape_then (shape_token l kind.Return)
    (λ r. example_then (example_empty (empty_maybe _)) (example_token l kind.Semicolon))))
    (shape_making _ (shape_then (shape_expression bound l enough) (λ r. example_token l kind.Semicolon))))))))))))))))))

-- ---- statements within a bound

-- a semicolon alone
abbrev semicolon : ℕ → Stretch
semicolon l = record { token = some_token kind.Semicolon; level = l } ∷ []

-- it is a statement within each bound but zero
semicolon_within : (bound l : ℕ) → 1 ≤ bound → statement_within bound l (semicolon l) Empty
semicolon_within zero l h = absurd (omega arith)
semicolon_within (suc bound) l h = inr (inl (some_token kind.Semicolon, (refl, refl), refl))

-- there is a statement, and one that begins with no parenthesis
pub example_within : (bound l : ℕ) → 1 ≤ bound → Example (statement_within bound l)
example_within bound l h = record { stretch = semicolon l; value = Empty; spelled = semicolon_within bound l h }

-- one that begins with no parenthesis
pub example_past : (bound l : ℕ) → 1 ≤ bound → Example (not_before kind.OpenParenthesis (statement_within bound l))
example_past bound l h = record { stretch = semicolon l; value = Empty; spelled = (semicolon_within bound l h, λ e. cc) }

-- statements within a bound begin alike
pub shape_within : {room : Type 0} (bound l : ℕ) → (room → 2 ≤ bound) → Shape (statement_within bound l) l begins_statement room
shape_within {room} zero l enough = shape_nothing l begins_statement none
  where
    none : room → ⊥
    none r = let h : 2 ≤ 0 = enough r in omega arith
shape_within {room} (suc bound) l enough = shape_statement bound l (statement_within bound) more (λ r. example_within bound (l + 1) (more r))
  where
    more : room → 1 ≤ bound
    more r = let h : 2 ≤ suc bound = enough r in omega arith
