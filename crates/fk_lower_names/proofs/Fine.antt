-- Code whose operations have numbers, and take only numbers that have room in a word.
use Rattle.std.proofs.Common.{◌≡◌, ℕ, ◌^◌, ◌<◌, List, [], ◌∷◌, refl, ap, ◌∙◌, arith}
use Rattle.fk_syntax.specs.Program.{FunctionTree}
use Rattle.fk_meaning_operation.specs.declared.operation.Operation.{Operation}
use Rattle.fk_meaning_operation.specs.declared.operation.Operation.TheVariants as o
use Rattle.fk_meaning_operation.specs.declared.operation.OwnValue.TheVariants as k
use Rattle.fk_meaning_operation.specs.declared.operation.Variable.{Variable}
use Rattle.fk_meaning_operation.specs.declared.operation.Variable.TheVariants as v
use Rattle.fk_meaning_forms.specs.Code.{Code, done, perform, choose, while, until, turn, again, quit, break, continue, call, ends}
use Rattle.fk_core.specs.Numbers.{IsNear, IsKnownNear, HasNumber}
use Rattle.fk_layout_walk.specs.declared.known.ProgramTables.{ProgramTables}
use Rattle.fk_layout_walk.specs.Shown.{as_word, shown_variable}
use Rattle.fk_layout_walk_statements.specs.Texts.{code_in}
use Rattle.fk_lower.specs.Faults.{HaveNumbers}
use Rattle.fk_lower_text.specs.Whole.{HasRoom, IsWhole, AreWhole, AreNumbered}

-- what has a number only where its numbers are small, or else has room for its numbers
abbrev pub IsFit : Operation → Type 0
IsFit (o.Get known) = IsKnownNear known
IsFit (o.Set variable) = IsNear variable
IsFit (o.Frame nesting words) = HasNumber (o.Frame nesting words)
IsFit op = HasRoom op

pub fits : (n : ℕ) → n < 2 ^ 32 → as_word n ≡ n
fits n h = omega (arith, h)

variable_shown : (variable : Variable) → IsNear variable → shown_variable variable ≡ variable
variable_shown (v.Private n) h = ap v.Private (fits n (omega (arith, h)))
variable_shown (v.OfFile n) h = ap v.OfFile (fits n (omega (arith, h)))

op_room : (op : Operation) → IsFit op → HasRoom op
op_room (o.Get (k.Value variable)) h = ap (λ x. o.Get (k.Value x)) (variable_shown variable h)
op_room (o.Get (k.FrameAddress nesting word)) h =
    let deep = h.1 in
    let low = h.0 in
    ap (λ n. o.Get (k.FrameAddress n (as_word word))) (fits nesting (omega (arith, deep))) ∙ ap (λ n. o.Get (k.FrameAddress nesting n)) (fits word (omega (arith, low)))
op_room (o.Get known) h = refl
op_room (o.Set variable) h = ap o.Set (variable_shown variable h)
op_room (o.Frame nesting words) h =
    let deep = h.1 in
    let few = h.0 in
    ap (λ n. o.Frame n (as_word words)) (fits nesting (omega (arith, deep))) ∙ ap (λ n. o.Frame nesting n) (fits words (omega (arith, few)))
op_room op h = h

op_number : (op : Operation) → IsFit op → HasNumber op
op_number (o.Get known) h = h
op_number (o.Set variable) h = h
op_number (o.Frame nesting words) h = h
op_number op h = tt

-- all operations of code, in which no loop is under way
abbrev pub AllFit : {A : Type 0} → Code A → Type 0
AllFit done = Unit {0}
AllFit (perform t op rest) = IsFit op × AllFit rest
AllFit (choose t op x y rest) = IsFit op × AllFit x × AllFit y × AllFit rest
AllFit (while test body step rest) = AllFit test × AllFit body × AllFit step × AllFit rest
AllFit (until body test rest) = AllFit body × AllFit test × AllFit rest
AllFit (quit t op rest) = IsFit op × AllFit rest
AllFit (break rest) = AllFit rest
AllFit (continue rest) = AllFit rest
AllFit (call t op f opening rest) = IsFit op × AllFit opening × AllFit rest
AllFit (ends t op rest) = IsFit op × AllFit rest
AllFit code = ⊥

code_whole : {A : Type 0} (code : Code A) → AllFit code → IsWhole code
code_whole done h = tt
code_whole (perform t op rest) h = (op_room op h.0, code_whole rest h.1)
code_whole (choose t op x y rest) h = (op_room op h.0, code_whole x h.1, code_whole y h.2, code_whole rest h.3)
code_whole (while test body step rest) h = (code_whole test h.0, code_whole body h.1, code_whole step h.2, code_whole rest h.3)
code_whole (until body test rest) h = (code_whole body h.0, code_whole test h.1, code_whole rest h.2)
code_whole (turn test body step rest) h = absurd h
code_whole (again test body step rest) h = absurd h
code_whole (quit t op rest) h = (op_room op h.0, code_whole rest h.1)
code_whole (break rest) h = code_whole rest h
code_whole (continue rest) h = code_whole rest h
code_whole (call t op f opening rest) h = (op_room op h.0, code_whole opening h.1, code_whole rest h.2)
code_whole (ends t op rest) h = (op_room op h.0, code_whole rest h.1)

have_numbers : {A : Type 0} (code : Code A) → AllFit code → HaveNumbers code
have_numbers done h = tt
have_numbers (perform t op rest) h = (op_number op h.0, have_numbers rest h.1)
have_numbers (choose t op x y rest) h = (op_number op h.0, have_numbers x h.1, have_numbers y h.2, have_numbers rest h.3)
have_numbers (while test body step rest) h = (have_numbers test h.0, have_numbers body h.1, have_numbers step h.2, have_numbers rest h.3)
have_numbers (until body test rest) h = (have_numbers body h.0, have_numbers test h.1, have_numbers rest h.2)
have_numbers (turn test body step rest) h = absurd h
have_numbers (again test body step rest) h = absurd h
have_numbers (quit t op rest) h = (op_number op h.0, have_numbers rest h.1)
have_numbers (break rest) h = have_numbers rest h
have_numbers (continue rest) h = have_numbers rest h
have_numbers (call t op f opening rest) h = (op_number op h.0, have_numbers opening h.1, have_numbers rest h.2)
have_numbers (ends t op rest) h = (op_number op h.0, have_numbers rest h.1)

-- the code of functions
abbrev pub AreFit : ProgramTables → List FunctionTree → Type 0
AreFit known [] = Unit {0}
AreFit known (f ∷ fs) = AllFit (code_in known f) × AreFit known fs

pub are_whole : (known : ProgramTables) (fs : List FunctionTree) → AreFit known fs → AreWhole known fs
are_whole known [] h = tt
are_whole known (f ∷ fs) h = (code_whole (code_in known f) h.0, are_whole known fs h.1)

pub are_numbered : (known : ProgramTables) (fs : List FunctionTree) → AreFit known fs → AreNumbered known fs
are_numbered known [] h = tt
are_numbered known (f ∷ fs) h = (have_numbers (code_in known f) h.0, are_numbered known fs h.1)
