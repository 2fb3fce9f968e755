-- What stands behind the first name of an item: that of a function, or that of variables.
use Rattle.std.proofs.Common.{◌≡◌, ℕ, suc, ◌+◌, ◌≤◌, List, length, Option, Some, None, inl, inr, refl, arith}
use Rattle.fk_syntax.specs.declared.program.Mode.TheVariants as mode
use Rattle.fk_syntax.specs.Tree.{Tree}
use Rattle.fk_syntax.specs.Program.{DeclaredTree, Statements, ItemTree, FunctionItem}
use Rattle.fk_lex.specs.declared.token.TokenKind.TheVariants as kind
use Rattle.fk_parse_combinators.specs.Languages.{Placed, Language, token, telling, ◌then◌, ◌or◌, making, many, name}
use Rattle.fk_expr.specs.Grammar.{base}
use Rattle.fk_parse_combinators.specs.Readers.{Reader, ◌and◌, giving, expect, by_next, repeated, tells}
use Rattle.fk_expr.specs.Reading.{begins_type, inner}
use Rattle.fk_parse_combinators.proofs.Sets.{Kinds, none, ◌∪◌, none_apart}
use Rattle.fk_parse_combinators.proofs.EachKind.{apart_by}
use Rattle.fk_expr.proofs.TypeNames.{reads_base}
use Rattle.fk_parse_combinators.proofs.Or.{Includes}
use Rattle.fk_parse_combinators.proofs.Productions.{IsRead, reads_token, reads_telling, reads_making, reads_then, reads_loose_then, reads_or, reads_many, reads_lower, reads_wider}
use Rattle.fk_parse.specs.Kinds.{mode_told}
use Rattle.fk_parse_declarations.specs.Grammar.{variable, parameters, Declarator}
use Rattle.fk_parse_statements.specs.Statements.{block, statement_within}
use Rattle.fk_parse.specs.Items.{body}
use Rattle.fk_parse.specs.Reading.{read_function_tail, read_variables_tail, read_tail, read_bare, read_moded, Tail, OfFunction, OfVariables, made_of}
use Rattle.fk_parse_statements.specs.Reading.{read_block, statements_with}
use Rattle.fk_parse_declarations.proofs.Alike.{reads_same}
use Rattle.fk_parse_statements.proofs.Closing.{closing_room}
use Rattle.fk_parse_declarations.proofs.Declarations.{Expressions, expressions, after_variable, after_rest, starred, rest_of, reads_stars, reads_rest, reads_variable}
use Rattle.fk_parse_declarations.proofs.Parameters.{begins_parameters, reads_parameters}
use Rattle.fk_parse_statements.proofs.Statements.{reads_block, nested_deeper, closing_within}
use Rattle.fk_parse_combinators.specs.Kinds.{just}

-- the grammar's bound on levels leaves room for those that may be open in a text: a body is the first, and so many may be open in its statements
abbrev pub has_room : (left : ℕ) → ℕ → Type 0
has_room left bound = left + 4 ≤ bound

-- a body, where two levels more than so many may be open in a text
abbrev pub body_within : ℕ → Reader Statements
body_within left = read_block (statements_with (suc left))

-- expressions where no level is open
pub outer : (left : ℕ) (bound : ℕ) → Expressions (suc (suc left)) 0 (suc (suc left)) bound (has_room left bound)
outer left bound = expressions (suc (suc left)) 0 bound (omega arith) (λ r. omega arith)

-- ---- a function's body

-- a body is level 1, and the statements in it open level 2, where so many are left
body_at : {levels : ℕ} {room : Type 0} (left bound : ℕ) → left + 2 ≡ levels → (room → left + 3 ≤ bound)
    → IsRead levels (block (statement_within bound) 1) (read_block (statements_with (suc left))) 1 (just kind.OpenBrace) none room
body_at left bound all enough =
    reads_block (statement_within bound) (statements_with (suc left)) (omega arith)
    (closing_room (λ r. let h : left + 3 ≤ bound = enough r in omega arith) (nested_deeper left 1 bound (closing_within left 2 bound all)))

-- in a text, where all levels are left
reads_body_block : (left : ℕ) (bound : ℕ) → IsRead (suc (suc left)) (block (statement_within bound) 1) (body_within left) 0 (just kind.OpenBrace) none (has_room left bound)
reads_body_block left bound = reads_lower (omega arith) (body_at left bound (omega arith) (λ r. omega arith))

-- block | ";", in the order of the reader
body_there : (bound : ℕ) → Includes (making {B = Option Statements} Some (block (statement_within bound) 1) or making (λ t. None) (token 0 kind.Semicolon)) (body bound)
body_there bound s a (inl m) = inr m
body_there bound s a (inr m) = inl m

-- and back
body_back : (bound : ℕ) → Includes (body bound) (making {B = Option Statements} Some (block (statement_within bound) 1) or making (λ t. None) (token 0 kind.Semicolon))
body_back bound s a (inl m) = inr m
body_back bound s a (inr m) = inl m

-- the kinds that begin a body
abbrev begins_body : Kinds
begins_body = just kind.OpenBrace ∪ just kind.Semicolon

-- a body is read exactly
reads_body : (left : ℕ) (bound : ℕ) → IsRead (suc (suc left)) (body bound) (by_next (just kind.OpenBrace) (giving Some (body_within left)) (giving (λ t. None) (expect kind.Semicolon))) 0 begins_body none (has_room left bound)
unfolding just
reads_body left bound =
    reads_same (body bound) (body_there bound) (body_back bound)
    (reads_wider none (λ k h. h)
    (reads_or (reads_making Some (reads_body_block left bound)) (reads_making _ (reads_token 0 kind.Semicolon (omega arith)))
    (apart_by (just kind.OpenBrace) (just kind.Semicolon) refl (λ v u. refl))))

-- ---- "(" params ")" ( ";" | block )

-- parameters and a body
abbrev pub function_tail : ℕ → Language (List DeclaredTree × Option Statements)
function_tail bound =
    making (λ x. (x.1.0, x.1.1.1)) (token 0 kind.OpenParenthesis then parameters 0 then token 0 kind.CloseParenthesis then body bound)

-- it is read exactly
pub reads_function_tail : (left : ℕ) (bound : ℕ) → IsRead (suc (suc left)) (function_tail bound) (read_function_tail (body_within left)) 0 (just kind.OpenParenthesis) none (has_room left bound)
unfolding read_function_tail
reads_function_tail left bound =
    reads_making _ (reads_then (reads_token 0 kind.OpenParenthesis (omega arith))
    (reads_parameters (omega arith) (reads_then (reads_token 0 kind.CloseParenthesis (omega arith)) (reads_body left bound) (none_apart begins_body)))
    (none_apart begins_parameters))

-- ---- what belongs to the first variable, and the others

-- the other variables
abbrev pub others_of : ℕ → Language (List Declarator)
others_of bound = many (making (λ x. x.1) (token 0 kind.Comma then variable bound 0))

-- what stands behind the name of the first of several variables
abbrev pub variables_tail : ℕ → Language ((Option ℕ × Option Tree) × List Declarator)
variables_tail bound = making (λ x. (x.0, x.1.0)) (rest_of bound 0 then others_of bound then token 0 kind.Semicolon)

-- the kinds that begin the others, or the end
abbrev begins_others : Kinds
begins_others = just kind.Comma ∪ just kind.Semicolon

-- the kinds that may stand behind the name of a variable
abbrev begins_variables_tail : Kinds
begins_variables_tail = (just kind.OpenBracket ∪ just kind.Assign) ∪ begins_others

-- they are read exactly
pub reads_variables_tail : (left : ℕ) (bound : ℕ) → IsRead (suc (suc left)) (variables_tail bound) (read_variables_tail (inner (suc (suc left)))) 0 begins_variables_tail none (has_room left bound)
unfolding read_variables_tail just
reads_variables_tail left bound =
    reads_making _ (reads_loose_then (reads_rest (outer left bound) (omega arith))
    (reads_loose_then (reads_many (reads_making _ (reads_then (reads_token 0 kind.Comma (omega arith)) (reads_variable (outer left bound) (omega arith)) (none_apart starred)))
    (apart_by after_variable (just kind.Comma) refl (λ v u. refl)))
    (reads_token 0 kind.Semicolon (omega arith))
    (apart_by (after_variable ∪ just kind.Comma) (just kind.Semicolon) refl (λ v u. refl)))
    (apart_by after_rest begins_others refl (λ v u. refl)))

-- ---- the one or the other

-- behind the name of a function, or of a variable
abbrev pub tail : ℕ → Language Tail
tail bound = making (λ x. OfFunction x.0 x.1) (function_tail bound) or making (λ x. OfVariables x.0.0 x.0.1 x.1) (variables_tail bound)

-- the kinds that may stand behind either's name
abbrev begins_tail : Kinds
begins_tail = just kind.OpenParenthesis ∪ begins_variables_tail

-- a parenthesis tells them apart
pub reads_tail : (left : ℕ) (bound : ℕ) → IsRead (suc (suc left)) (tail bound) (read_tail (inner (suc (suc left))) (body_within left)) 0 begins_tail none (has_room left bound)
unfolding read_tail just
reads_tail left bound =
    reads_wider none (λ k h. h)
    (reads_or (reads_making _ (reads_function_tail left bound)) (reads_making _ (reads_variables_tail left bound)) (apart_by (just kind.OpenParenthesis) begins_variables_tail refl (λ v u. refl)))

-- stars, a name, and what stands behind it
abbrev pub named : {A : Type 0} → Language A → Language (List Placed × (Placed × A))
named L = many (token 0 kind.Star) then token 0 kind.Word then L

-- they are read exactly, if what stands behind the name is
pub reads_named : {levels : ℕ} {room : Type 0} {A : Type 0} {L : Language A} {P : Reader A} {level : ℕ} {first f : Kinds} → IsRead levels L P level first f room
    → IsRead levels (named L) (repeated (just kind.Star) (expect kind.Star) and expect kind.Word and P) 0 starred f room
unfolding just
reads_named {first = first} w =
    reads_loose_then (reads_stars 0 (omega arith)) (reads_then (reads_token 0 kind.Word (omega arith)) w (none_apart first))
    (apart_by (none ∪ just kind.Star) (just kind.Word) refl (λ v u. refl))

-- ---- items without a word before the type, and functions with one

-- an item without a word before its type
abbrev pub bare : ℕ → Language ItemTree
bare bound = making (λ x. made_of x.0 (length x.1.0) (name x.1.1.0) x.1.1.1) (base 0 then named (tail bound))

-- an item without a word before its type is read exactly
pub reads_bare : (left : ℕ) (bound : ℕ) → IsRead (suc (suc left)) (bare bound) (read_bare (inner (suc (suc left))) (body_within left)) 0 begins_type none (has_room left bound)
unfolding read_bare just
reads_bare left bound = reads_making _ (reads_then (reads_base 0 (omega arith)) (reads_named (reads_tail left bound)) (apart_by (just kind.Int) starred refl (λ v u. refl)))

-- a function with its mode
abbrev pub moded : ℕ → Language ItemTree
moded bound =
    making (λ x. FunctionItem (record {
      mode = x.0.1;
      result = record { base = x.1.0; stars = length x.1.1.0 };
      name = name x.1.1.1.0;
      parameters = x.1.1.1.1.0;
      body = x.1.1.1.1.1;
    }))
    (telling 0 mode_told then base 0 then named (function_tail bound))

-- a function with a word before its type is read exactly
pub reads_moded : (left : ℕ) (bound : ℕ) → IsRead (suc (suc left)) (moded bound) (read_moded (body_within left)) 0 (tells mode_told) none (has_room left bound)
unfolding read_moded just
reads_moded left bound =
    reads_making _ (reads_then (reads_telling 0 mode_told kind.Sync mode.Sync refl (omega arith))
    (reads_then (reads_base 0 (omega arith)) (reads_named (reads_function_tail left bound)) (apart_by (just kind.Int) starred refl (λ v u. refl)))
    (none_apart begins_type))
