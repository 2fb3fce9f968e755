-- Programs: the code of their functions, and their sites.
use Rattle.std.specs.Prelude.{ℕ, ◌+◌, ◌==◌, Bool, true, List, [], ◌∷◌, ◌++◌, codes, bytes_eq}
use Rattle.std.specs.Prelude.{Option, Some, None, is_some, if◌then◌else◌}
use Rattle.fk_syntax.specs.declared.place.Place.{Place}
use Rattle.fk_syntax.specs.Program.{Statements, FunctionTree, ItemTree, StructItem, VariablesItem}
use Rattle.fk_syntax.specs.Program.{FunctionItem, ProgramTree}
use Rattle.fk_meaning_forms.specs.Code.{Code, done, size, sites, numbered}
use Rattle.fk_meaning_forms.specs.Tables.{Tables, note, frame_at}
use Rattle.fk_meaning_forms.specs.Expressions.{Coded, Signature}
use Rattle.fk_meaning_forms.specs.Statements.{Inside, is_nothing, body_of}

-- the functions with a body, in the order of the text
abbrev pub with_body : FunctionTree → Option Statements → List FunctionTree → List FunctionTree
with_body f None fs = fs
with_body f (Some body) fs = f ∷ fs

abbrev pub functions_of : List ItemTree → List FunctionTree
functions_of [] = []
functions_of (StructItem name members ∷ items) = functions_of items
functions_of (VariablesItem variables ∷ items) = functions_of items
functions_of (FunctionItem f ∷ items) = with_body f f.body (functions_of items)

abbrev pub binding_of : Tables → FunctionTree → ℕ
binding_of tables f = (note tables f.name.at).binding

-- the signature of the function that a binding names
abbrev pub signature_of : FunctionTree → Signature
signature_of f = record { at = f.name.at; parameters = f.parameters; void = is_nothing f.result }

abbrev pub no_signature : Signature
no_signature = record { at = 0; parameters = []; void = true }

abbrev pub signature_in : Tables → List FunctionTree → (binding : ℕ) → Signature
signature_in tables [] b = no_signature
signature_in tables (f ∷ fs) b = if binding_of tables f == b then signature_of f
    else signature_in tables fs b

abbrev pub is_main : FunctionTree → Bool
is_main f = bytes_eq f.name.bytes (codes "main")

-- the code of one function, among all functions of the text
abbrev pub code_of : Tables → (all : List FunctionTree) → FunctionTree → Coded
code_of tables all f = code f.body
  where
    inside : Inside
    inside = record { main = is_main f; framed = is_some (frame_at tables f.name.at 0) }

    code : Option Statements → Coded
    code None = done
    code (Some statements) =
        body_of tables (signature_in tables all) inside (is_nothing f.result) statements

-- the sites of a text: all its operations, each by its kind and its place, function by function
abbrev pub sites_in : Tables → (all fs : List FunctionTree) → List (ℕ × Place)
sites_in tables all [] = []
sites_in tables all (f ∷ fs) = sites (code_of tables all f) ++ sites_in tables all fs

abbrev pub sites_of : Tables → ProgramTree → List (ℕ × Place)
sites_of tables program = let fs = functions_of program.items in sites_in tables fs fs

-- the code of the function that a binding names. Each operation has the number of its site
abbrev pub body_in : Tables → (all : List FunctionTree) → (first : ℕ) → List FunctionTree
    → (binding : ℕ) → Code ℕ
body_in tables all n [] b = done
body_in tables all n (f ∷ fs) b =
    let code = code_of tables all f in
    if binding_of tables f == b then numbered n code else body_in tables all (n + size code) fs b

abbrev pub bodies_of : Tables → ProgramTree → (binding : ℕ) → Code ℕ
bodies_of tables program b = let fs = functions_of program.items in body_in tables fs 0 fs b

-- the binding of `main`
abbrev pub main_in : Tables → List FunctionTree → ℕ
main_in tables [] = 0
main_in tables (f ∷ fs) = if is_main f then binding_of tables f else main_in tables fs

abbrev pub main_of : Tables → ProgramTree → ℕ
main_of tables program = main_in tables (functions_of program.items)
