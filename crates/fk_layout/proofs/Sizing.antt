-- Counts of variables and functions, one by one.
use Rattle.std.proofs.Common.{◌≡◌, ℕ, ◌+◌, ◌≤◌, ◌<◌, false, List, [], ◌∷◌, ◌++◌, length, map, drop, get_or, Option, Some, None, refl, ◌∙◌, sym, ap, arith, subst, length-append}
use Rattle.std.proofs.lemmas.List.{append-nil, length-map, get_or-map, drop_more}
use Rattle.std.proofs.lemmas.List.Elements.{filter-append}
use Rattle.std.specs.Prelude.{Result, Ok, Err, IfErr, IsErrAnd}
use denote.Ref.{Bor}
use Rattle.fk_syntax.specs.declared.program.Function.{Function}
use Rattle.fk_syntax.specs.Program as p
use Rattle.fk_syntax.specs.Program.{DeclaredTree, FunctionTree, ItemTree, Statements}
use Rattle.fk_syntax.specs.ProgramView.{function_of}
use Rattle.fk_meaning_forms.specs.Code.{size, sites}
use Rattle.fk_meaning_forms.specs.Tables.{Tables}
use Rattle.fk_meaning_forms.specs.Program.{functions_of, with_body, code_of, sites_in}
use Rattle.fk_meaning_forms.proofs.Ranks.{counted}
use Rattle.fk_layout_slots.specs.declared.tables.Own.{Own}
use Rattle.fk_layout_slots.specs.Told.{Told}
use Rattle.fk_layout_slots.specs.Slots.{own_of}
use Rattle.fk_layout_globals.specs.Variables.{is_kept, kept, variables_in, variables_of}
use Rattle.fk_layout.specs.declared.sites.LayoutFault.{LayoutFault}
use Rattle.fk_layout.specs.Frames.{file_privates, functions_behind}

pub kept_more : (x : DeclaredTree) (xs : List DeclaredTree) → length (kept false (x ∷ xs)) ≡ length (kept false (x ∷ [])) + length (kept false xs)
kept_more x xs = ap (λ (ys : List DeclaredTree). length ys) (filter-append (is_kept false) (x ∷ []) xs) ∙ length-append (kept false (x ∷ [])) (kept false xs)

pub file_privates_more : (x : ItemTree) (xs : List ItemTree) → file_privates (x ∷ xs) ≡ file_privates (x ∷ []) + file_privates xs
file_privates_more x xs =
    length-append (kept false (variables_in x)) (variables_of false xs)
    ∙ ap (λ (ys : List DeclaredTree). length ys + file_privates xs) (sym (append-nil (kept false (variables_in x))))

one_more : (f : FunctionTree) (body : Option Statements) (fs : List FunctionTree) → with_body f body fs ≡ with_body f body [] ++ fs
one_more f None fs = refl
one_more f (Some body) fs = refl

pub functions_of_more : (item : ItemTree) (items : List ItemTree) → functions_of (item ∷ items) ≡ functions_of (item ∷ []) ++ functions_of items
functions_of_more (p.StructItem name members) items = refl
functions_of_more (p.VariablesItem variables) items = refl
functions_of_more (p.FunctionItem f) items = one_more f f.body (functions_of items)

-- the functions from an index on
pub rest_at : (gs : List (Bor Function)) (i : ℕ) (g : Bor Function) → i < length gs → g ≡ get_or gs i g
    → functions_behind (drop i gs) ≡ function_of g.now ∷ functions_behind (drop (i + 1) gs)
rest_at gs i g less here =
    ap (λ (xs : List (Bor Function)). functions_behind xs) (drop_more gs i g less)
    ∙ ap (λ (b : Bor Function). function_of b.now ∷ functions_behind (drop (i + 1) gs)) (sym here)

-- what the function of an index takes by itself
pub own_at : (told : Told) (owns : List Own) (fs : List FunctionTree) (gs : List (Bor Function)) (i : ℕ) (other : Own) (g : Bor Function)
    → owns ≡ map (own_of told) fs → functions_behind gs ≡ fs → i < length gs → g ≡ get_or gs i g
    → get_or owns i other ≡ own_of told (function_of g.now)
own_at told owns fs gs i other g e h less here =
    let n = length-map gs (λ (b : Bor Function). function_of b.now) in
    let within : i < length (functions_behind gs) = omega (arith, n, less) in
    ap (λ (os : List Own). get_or os i other) (e ∙ ap (λ (xs : List FunctionTree). map (own_of told) xs) (sym h))
    ∙ get_or-map (own_of told) (functions_behind gs) i (function_of g.now) other within
    ∙ ap (λ (f : FunctionTree). own_of told f) (get_or-map (λ (b : Bor Function). function_of b.now) gs i g (function_of g.now) less)
    ∙ ap (λ (b : Bor Function). own_of told (function_of b.now)) (sym here)

-- how many operations there are from a function on
pub fewer : (tables : Tables) (all fs : List FunctionTree) (f : FunctionTree) → length (sites_in tables all (f ∷ fs)) ≤ 16000
    → (size (code_of tables all f) ≤ 16000) × (length (sites_in tables all fs) ≤ 16000)
fewer tables all fs f h =
    let n = length-append (sites (code_of tables all f)) (sites_in tables all fs) in
    let m = counted (code_of tables all f) in
    (omega (arith, n, m, h), omega (arith, n, h))

-- a fault that is passed on
pub passed_on : {A : Type 0} (r : Result A LayoutFault) (fault : LayoutFault) (P : LayoutFault → Type 0) → IsErrAnd r (λ z. z ≡ fault) → P fault → IfErr r P
passed_on (Ok a) fault P e h = absurd e
passed_on (Err z) fault P e h = subst P (sym e) h
