-- Which called names denote `shalloc`.
use Rattle.std.specs.Prelude.{◌≡◌, ◌==◌, Bool, true, false, codes, if◌then◌else◌}
use Rattle.fk_syntax.specs.Tree.{Named}
use Rattle.fk_meaning_forms.specs.Tables.{Tables, no_binding, note}
use Rattle.fk_meaning_forms.specs.Expressions.{is_name}

-- the predeclared names of values, and those of functions other than the one that allots words of a
-- group's space
abbrev pub one_of : (a b c d : Bool) → Bool
one_of a b c d = if a then true else if b then true else if c then true else d

abbrev pub is_value_name : Named → Bool
is_value_name name =
    one_of (is_name name (codes "__PROC_NR__")) (is_name name (codes "__STARTED_PROCS__"))
    (is_name name (codes "__inputs")) (is_name name (codes "__input"))

abbrev pub is_other_call : Named → Bool
is_other_call name =
    if is_name name (codes "mpadd") then true
    else if is_name name (codes "mpmax") then true
    else if is_name name (codes "mpand") then true
    else if is_name name (codes "mpor") then true
    else if is_name name (codes "groupsize") then true
    else one_of (is_name name (codes "putint")) (is_name name (codes "putchar"))
    (is_name name (codes "malloc")) (is_name name (codes "shmalloc"))

-- a called name that denotes `shalloc`
pub record Allots (tables : Tables) (name : Named) : Type 0 where
  pub predeclared : ((note tables name.at).binding == no_binding) ≡ true
  pub no_value : is_value_name name ≡ false
  pub no_other : is_other_call name ≡ false
