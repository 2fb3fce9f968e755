-- The nesting of parts, bodies and loops in code, and what may lead out of them.
use Rattle.std.specs.Prelude.{◌≡◌, Bool, true, false, not, ◌||◌, if◌then◌else◌}
use Rattle.fk_meaning_operation.specs.declared.operation.Operation.{Operation}
use Rattle.fk_meaning_operation.specs.declared.operation.Operation.TheVariants as o
use Rattle.fk_meaning_operation.specs.declared.operation.SplitKind.TheVariants.{IfElse}
use Rattle.fk_meaning_forms.specs.Code.{Code, done, perform, choose, while, until, turn, again}
use Rattle.fk_meaning_forms.specs.Code.{quit, break, continue, call, ends}
use Rattle.fk_meaning.specs.Behind.{opens_body, is_shrink}

-- the ways in which code may lead out of what it is in: `break`, `continue` and `return`. The test
-- of a loop ends with what leaves the loop, a shrink or a branch
pub record Exits : Type 0 where
  pub breaks : Bool
  pub continues : Bool
  pub returns : Bool
  pub tests : Bool
  pub shrinking : Bool

abbrev pub none : Exits
none =
    record { breaks = false; continues = false; returns = false; tests = false; shrinking = false }

abbrev pub of_function : Exits
of_function = record none { returns = true }

-- a loop that members leave one by one is a part of its own, which `break` and `return` don't leave
abbrev pub of_test : (shrinking : Bool) → Exits
of_test shrinking = record none { tests = true; shrinking = shrinking }

abbrev pub of_turn : (shrinking : Bool) → Exits → Exits
of_turn shrinking x = record {
  breaks = not shrinking;
  continues = true;
  returns = if shrinking then false else x.returns;
  tests = false;
  shrinking = false;
}

abbrev pub of_arm : Exits → Exits
of_arm x = record x { tests = false; shrinking = false }

-- the operations that make parts, and how many
abbrev pub splits : Operation → Bool
splits o.Begin = true
splits (o.Split by) = true
splits op = false

abbrev pub has_two_parts : Operation → Bool
has_two_parts (o.Split IfElse) = true
has_two_parts op = false

abbrev pub confines : Operation → Bool
confines op = splits op || opens_body op

-- the operations for which the second branch does nothing
abbrev pub waits : Operation → Bool
waits (o.Split IfElse) = false
waits (o.Split by) = true
waits o.Begin = true
waits o.Farm = true
waits o.Seq = true
waits op = false

abbrev pub closes : Operation → Bool
closes (o.Meet true) = true
closes op = false

abbrev pub ends_part : Operation → Bool
ends_part o.End = true
ends_part op = false

-- where an operation may be: on its own; before a choice; at the end of a test; or at a call and at
-- the end of a function
abbrev pub is_performed : Operation → Bool
is_performed (o.Split by) = false
is_performed o.Begin = false
is_performed o.Shrink = false
is_performed o.Farm = false
is_performed o.Seq = false
is_performed op = true

abbrev pub is_chosen : Operation → Bool
is_chosen (o.Branch onward) = true
is_chosen (o.Split by) = true
is_chosen o.Begin = true
is_chosen o.Farm = true
is_chosen o.Seq = true
is_chosen op = false

abbrev pub is_quit : Operation → Bool
is_quit (o.Branch onward) = true
is_quit o.Shrink = true
is_quit op = false

abbrev pub is_of_call : Operation → Bool
is_of_call (o.Enter arguments) = true
is_of_call (o.Leave gives framed) = true
is_of_call o.Halt = true
is_of_call op = false

abbrev pub of_way : Operation → Exits → Exits
of_way op x = if confines op then none else of_arm x

abbrev pub begins : {A : Type 0} → Code A → Bool
begins (perform t op rest) = true
begins code = false

-- the code begins with a closing meet
abbrev pub meets : {A : Type 0} → Code A → Bool
meets (perform t op rest) = closes op
meets code = false

-- what holds at the end of a part, and what holds where the part goes on
abbrev pub Either : Bool → Type 0 → Type 0 → Type 0
Either true ended goes_on = ended
Either false ended goes_on = goes_on

-- code of a part ends with its part, and other code doesn't. Directly after a body comes the meet
-- that closes it. After parts comes an operation, at which the members wait that don't enter one
abbrev pub Shape : {A : Type 0} → (part closing : Bool) → Exits → Code A → Type 0
Shape part closing x done = (closing ≡ false) × (part ≡ false) × (x.tests ≡ false)
Shape part closing x (perform t op rest) =
    (closes op ≡ closing) × (is_performed op ≡ true) × Either (ends_part op)
    ((part ≡ true) × (x.tests ≡ false) × (rest ≡ done)) (Shape part false x rest)
Shape part closing x (choose t op a b rest) =
    (closing ≡ false) × (is_chosen op ≡ true) × Shape (splits op) false (of_way op x) a
    × Shape (has_two_parts op) false (of_way op x) b
    × (waits op ≡ true → b ≡ done) × (splits op ≡ true → begins rest ≡ true)
    × Shape part (opens_body op) x rest
Shape part closing x (while test body step rest) =
    (closing ≡ false) × (shrinking : Bool) × Shape false false (of_test shrinking) test
    × Shape false false (of_turn shrinking x) body × Shape false false none step
    × Either shrinking ((part ≡ true) × (x.tests ≡ false) × (rest ≡ done)) (Shape part false x rest)
Shape part closing x (until body test rest) =
    (closing ≡ false) × (shrinking : Bool) × Shape false false (of_test shrinking) test
    × Shape false false (of_turn shrinking x) body
    × Either shrinking ((part ≡ true) × (x.tests ≡ false) × (rest ≡ done)) (Shape part false x rest)
Shape part closing x (turn test body step rest) = ⊥
Shape part closing x (again test body step rest) = ⊥
Shape part closing x (quit t op rest) =
    (closing ≡ false) × (is_quit op ≡ true) × (part ≡ false) × (x.tests ≡ true)
    × (is_shrink op ≡ x.shrinking) × (rest ≡ done)
Shape part closing x (break rest) = (closing ≡ false) × (x.breaks ≡ true) × Shape part false x rest
Shape part closing x (continue rest) = (closing ≡ false) × (x.continues ≡ true)
    × Shape part false x rest
Shape part closing x (call t op f opening rest) =
    (closing ≡ false) × (is_of_call op ≡ true) × Shape false false none opening
    × Shape part false x rest
Shape part closing x (ends t op rest) =
    (closing ≡ false) × (is_of_call op ≡ true) × (x.returns ≡ true) × Shape part false x rest
