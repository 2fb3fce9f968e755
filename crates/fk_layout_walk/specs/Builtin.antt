-- What calls of predeclared names do.
use Rattle.std.specs.Prelude.{ℕ, true, false, List, codes, bytes_eq, if◌then◌else◌}
use Rattle.fk_meaning_operation.specs.declared.operation.Operation.TheVariants as o
use Rattle.fk_meaning_operation.specs.declared.operation.Multiprefix.TheVariants.{MpAdd, MpMax}
use Rattle.fk_meaning_operation.specs.declared.operation.Multiprefix.TheVariants.{MpAnd, MpOr}
use Rattle.fk_layout_walk.specs.declared.builtin.Builtin.{Builtin}
use Rattle.fk_layout_walk.specs.declared.builtin.Builtin.TheVariants as b

abbrev pub multiprefix_or : (bytes : List ℕ) → (other : Builtin) → Builtin
multiprefix_or bytes other =
    if bytes_eq bytes (codes "mpadd") then b.Multiprefix MpAdd
    else if bytes_eq bytes (codes "mpmax") then b.Multiprefix MpMax
    else if bytes_eq bytes (codes "mpand") then b.Multiprefix MpAnd
    else if bytes_eq bytes (codes "mpor") then b.Multiprefix MpOr
    else other

abbrev pub printing_or : (bytes : List ℕ) → (other : Builtin) → Builtin
printing_or bytes other =
    if bytes_eq bytes (codes "putint") then b.OnOne false o.PrintNumber
    else if bytes_eq bytes (codes "putchar") then b.OnOne false o.PrintByte
    else other

-- every name but `malloc` and `shmalloc` counts as `shalloc`
abbrev pub request : (bytes : List ℕ) → Builtin
request bytes =
    if bytes_eq bytes (codes "malloc") then b.OnOne false o.Take
    else if bytes_eq bytes (codes "shmalloc") then b.OnOne false o.Heap
    else b.OnOne true o.Block

abbrev pub one_operation : (bytes : List ℕ) → Builtin
one_operation bytes =
    if bytes_eq bytes (codes "groupsize") then b.GroupSize
    else printing_or bytes (request bytes)

-- a name that isn't predeclared counts as `shalloc`
abbrev pub builtin_by : (bytes : List ℕ) → Builtin
builtin_by bytes = multiprefix_or bytes (one_operation bytes)
