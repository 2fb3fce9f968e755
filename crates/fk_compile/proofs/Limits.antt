-- The image of a text is within the limits of images.
use Rattle.std.proofs.Common.{◌≡◌, ℕ, suc, ◌+◌, ◌<◌, ◌≤◌, List, [], ◌∷◌, ◌++◌, All, subst, arith}
use Rattle.std.specs.Prelude.{map, slice_index}
use Rattle.std.specs.List.Sorted.{IsStrictlyIncreasing}
use Rattle.std.proofs.lemmas.List.Elements.{All-nil, All-cons, All-append, All-map}
use Rattle.fk_syntax.specs.declared.place.Place.{Place}
use Rattle.fk_syntax.specs.Program.{FunctionTree}
use Rattle.fk_meaning_operation.specs.Kinds.{kind_of}
use Rattle.fk_meaning_operation.specs.declared.operation.Operation.{Operation}
use Rattle.fk_meaning_operation.specs.declared.operation.Operation.TheVariants.{Combine, Push}
use Rattle.fk_meaning_operation.specs.declared.operation.Multiprefix.TheVariants.{MpAdd, MpMax, MpAnd, MpOr}
use Rattle.fk_meaning_forms.specs.Code.{done, perform, choose, while, until, turn, again, quit, break, continue, call, ends, sites}
use Rattle.fk_meaning_forms.specs.Expressions.{Coded}
use Rattle.fk_meaning_forms.specs.Tables.{Tables}
use Rattle.fk_meaning_forms.specs.Program.{code_of, sites_in}
use Rattle.fk_image.specs.Limits.{IsSite, IsCommit, Rise}
use Rattle.fk_asm.specs.Commits.{IsCommitTable}
use Rattle.fk_compile.specs.Faithful.{in_image}

-- ---- sites

-- kinds go from 1 to 34
abbrev IsKind : ℕ → Type 0
IsKind kind = (1 ≤ kind) × (kind ≤ 34)

kind_fits : (op : Operation) → IsKind (kind_of op)
kind_fits (Combine MpAdd) = (omega arith, omega arith)
kind_fits (Combine MpMax) = (omega arith, omega arith)
kind_fits (Combine MpAnd) = (omega arith, omega arith)
kind_fits (Combine MpOr) = (omega arith, omega arith)
kind_fits (Push n) = (omega arith, omega arith)
kind_fits op = (omega arith, omega arith)

abbrev Fits : ℕ × Place → Type 0
Fits site = IsKind site.0

abbrev CodeFits : Coded → Type 0
CodeFits code = All Fits (sites code)

one : (op : Operation) (place : Place) (more : List (ℕ × Place)) → All Fits more → All Fits ((kind_of op, place) ∷ more)
one op place more h = All-cons Fits (kind_of op, place) more (kind_fits op) h

two : (a b : Coded) → CodeFits a → CodeFits b → All Fits (sites a ++ sites b)
two a b x y = All-append Fits (sites a) (sites b) x y

three : (a b c : Coded) → CodeFits a → CodeFits b → CodeFits c → All Fits (sites a ++ sites b ++ sites c)
three a b c x y z = All-append Fits (sites a ++ sites b) (sites c) (two a b x y) z

four : (a b c d : Coded) → CodeFits a → CodeFits b → CodeFits c → CodeFits d → All Fits (sites a ++ sites b ++ sites c ++ sites d)
four a b c d x y z w = All-append Fits (sites a ++ sites b ++ sites c) (sites d) (three a b c x y z) w

code_fits : (code : Coded) → CodeFits code
code_fits done = All-nil Fits
code_fits (perform t op rest) = one op t (sites rest) (code_fits rest)
code_fits (choose t op a b rest) = one op t (sites a ++ sites b ++ sites rest) (three a b rest (code_fits a) (code_fits b) (code_fits rest))
code_fits (while test body step rest) = four test body step rest (code_fits test) (code_fits body) (code_fits step) (code_fits rest)
code_fits (until body test rest) = three body test rest (code_fits body) (code_fits test) (code_fits rest)
code_fits (turn test body step rest) = four test body step rest (code_fits test) (code_fits body) (code_fits step) (code_fits rest)
code_fits (again test body step rest) = four test body step rest (code_fits test) (code_fits body) (code_fits step) (code_fits rest)
code_fits (quit t op rest) = one op t (sites rest) (code_fits rest)
code_fits (break rest) = code_fits rest
code_fits (continue rest) = code_fits rest
code_fits (call t op f opening rest) = one op t (sites opening ++ sites rest) (two opening rest (code_fits opening) (code_fits rest))
code_fits (ends t op rest) = one op t (sites rest) (code_fits rest)

functions_fit : (tables : Tables) (all fs : List FunctionTree) → All Fits (sites_in tables all fs)
functions_fit tables all [] = All-nil Fits
functions_fit tables all (f ∷ fs) = All-append Fits (sites (code_of tables all f)) (sites_in tables all fs) (code_fits (code_of tables all f)) (functions_fit tables all fs)

pub sites_fit : (tables : Tables) (all fs : List FunctionTree) → All IsSite (map in_image (sites_in tables all fs))
sites_fit tables all fs = All-map IsSite in_image (sites_in tables all fs) (functions_fit tables all fs)

-- ---- commits

pub commits_fit : (words : ℕ) (entries : List (ℕ × ℕ)) → IsCommitTable words entries → All (IsCommit words) entries
commits_fit words entries table = λ k d lt.
    let entry = table.entries k d lt in
    record { aligned = entry.aligned; within = table.within k d lt; counted = entry.counted; event = entry.event }

rise_later : (x : ℕ) (xs : List ℕ) → IsStrictlyIncreasing (x ∷ xs) → IsStrictlyIncreasing xs
rise_later x xs rise k lt =
    let e : suc k + 1 ≡ suc (k + 1) = omega arith in
    subst (λ j. slice_index (x ∷ xs) (suc k) < slice_index (x ∷ xs) j) e (rise (suc k) (omega arith))

pub commits_rise : (entries : List (ℕ × ℕ)) → IsStrictlyIncreasing (map (λ entry. entry.0) entries) → Rise entries
commits_rise [] rise = tt
commits_rise (c ∷ []) rise = tt
commits_rise (c ∷ d ∷ rest) rise = (rise 0 (omega arith), commits_rise (d ∷ rest) (rise_later c.0 (map (λ entry. entry.0) (d ∷ rest)) rise))
