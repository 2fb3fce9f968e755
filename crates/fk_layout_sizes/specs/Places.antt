-- The room that the code of a function needs in its frame for values and nested parts.
use Rattle.std.specs.Prelude.{ℕ, ◌+◌, ◌-◌, max, List, [], ◌∷◌, ◌++◌, if◌then◌else◌}
use Rattle.fk_meaning_operation.specs.declared.operation.Operation.{Operation}
use Rattle.fk_syntax.specs.Program.{DeclaredTree, FunctionTree}
use Rattle.fk_layout_walk.specs.declared.known.ProgramTables.{ProgramTables}
use Rattle.fk_layout_walk.specs.Known.{functions_of}
use Rattle.fk_layout_walk_statements.specs.Texts.{code_in}
use Rattle.fk_meaning_forms.specs.Code.{done, perform, choose, while, until, turn, again, quit}
use Rattle.fk_meaning_forms.specs.Code.{break, continue, call, ends}
use Rattle.fk_meaning_forms.specs.Expressions.{Coded, Signature}
use Rattle.fk_layout_sizes.specs.Operations.{takes, pushes, nests, results}

-- a place in code: the number of values of the running call there, and the number of parts around
-- it
pub record At : Type 0 where
  pub values : ℕ
  pub nesting : ℕ

abbrev pub behind_operation : At → Operation → At
behind_operation p op =
    record { values = p.values - takes op + pushes op; nesting = p.nesting + nests op }

module _ (functions : (binding : ℕ) → Signature) where
  -- after a call its result is there, if the function returns one
  abbrev pub behind_call : At → Operation → (binding : ℕ) → At
  behind_call p op f = record (behind_operation p op)
      { values = (behind_operation p op).values + results (functions f).void }

  -- the place after code. Both branches of a choice end with the same number of values. They lie in
  -- the part that the operation of the choice begins, which ends after them. The opening of a call
  -- isn't counted, because the called function runs it
  abbrev pub behind : At → Coded → At
  behind p done = p
  behind p (perform t op rest) = behind (behind_operation p op) rest
  behind p (choose t op a b rest) = behind
      (record { values = (behind (behind_operation p op) a).values; nesting = p.nesting }) rest
  behind p (while test body step rest) = behind (behind (behind (behind p test) body) step) rest
  behind p (until body test rest) = behind (behind (behind p body) test) rest
  behind p (turn test body step rest) = behind (behind (behind (behind p test) body) step) rest
  behind p (again test body step rest) = behind (behind (behind (behind p test) body) step) rest
  behind p (quit t op rest) = behind (behind_operation p op) rest
  behind p (break rest) = behind p rest
  behind p (continue rest) = behind p rest
  behind p (call t op f opening rest) = behind (behind_call p op f) rest
  behind p (ends t op rest) = behind (behind_operation p op) rest

  -- all places of code, its beginning and its end among them
  abbrev pub places : At → Coded → List At
  places p done = p ∷ []
  places p (perform t op rest) = p ∷ places (behind_operation p op) rest
  places p (choose t op a b rest) =
      let first = behind_operation p op in
      p ∷ (places first a ++ places first b
      ++ places (record { values = (behind first a).values; nesting = p.nesting }) rest)
  places p (while test body step rest) =
      let b = behind p test in
      let s = behind b body in
      places p test ++ places b body ++ places s step ++ places (behind s step) rest
  places p (until body test rest) = let t = behind p body in
      places p body ++ places t test ++ places (behind t test) rest
  places p (turn test body step rest) =
      let b = behind p test in
      let s = behind b body in
      places p test ++ places b body ++ places s step ++ places (behind s step) rest
  places p (again test body step rest) =
      let b = behind p test in
      let s = behind b body in
      places p test ++ places b body ++ places s step ++ places (behind s step) rest
  places p (quit t op rest) = p ∷ places (behind_operation p op) rest
  places p (break rest) = places p rest
  places p (continue rest) = places p rest
  places p (call t op f opening rest) = p ∷ behind_operation p op ∷ places (behind_call p op f) rest
  places p (ends t op rest) = p ∷ places (behind_operation p op) rest

-- the greatest number of values at a place, and the deepest nesting
abbrev pub most_values : List At → ℕ
most_values [] = 0
most_values (p ∷ ps) = max p.values (most_values ps)

abbrev pub deepest : List At → ℕ
deepest [] = 0
deepest (p ∷ ps) = max p.nesting (deepest ps)

-- the beginning of a function's body: no values, and no part around it
abbrev pub beginning : At
beginning = record { values = 0; nesting = 0 }

-- a call needs two values more to write its `sh` parameters into the frame of the function
abbrev pub filling : List DeclaredTree → ℕ
filling [] = 0
filling (x ∷ xs) = if x.shared then 2 else filling xs

-- the places of a function, the most values of its call, and its deepest nesting
abbrev pub places_in : ProgramTables → FunctionTree → List At
places_in known f = places (functions_of known) beginning (code_in known f)

abbrev pub values_in : ProgramTables → FunctionTree → ℕ
values_in known f = max (filling f.parameters) (most_values (places_in known f))

abbrev pub nesting_in : ProgramTables → FunctionTree → ℕ
nesting_in known f = deepest (places_in known f)
