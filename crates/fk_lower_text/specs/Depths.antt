-- The number of values that the running call has before each operation of a text, in the order of
-- the text.
use Rattle.std.specs.Prelude.{ℕ, List, [], ◌∷◌, ◌++◌}
use Rattle.fk_syntax.specs.Program.{FunctionTree}
use Rattle.fk_meaning_forms.specs.Code.{Code, done, perform, choose, while, until, turn, again}
use Rattle.fk_meaning_forms.specs.Code.{quit, break, continue, call, ends}
use Rattle.fk_meaning_forms.specs.Expressions.{Coded, Signature}
use Rattle.fk_layout_walk.specs.declared.known.ProgramTables.{ProgramTables}
use Rattle.fk_layout_walk.specs.Known.{functions_of}
use Rattle.fk_layout_walk_statements.specs.Texts.{code_in}
use Rattle.fk_layout_sizes.specs.Places.{At, behind_operation, behind_call, behind, beginning}

module _ (functions : (binding : ℕ) → Signature) where
  -- The depths in code, from a place on. The operations in the opening of a call are done by the
  -- called function, which begins without values.
  abbrev pub depths_from : At → Coded → List ℕ
  depths_from p done = []
  depths_from p (perform t op rest) = p.values ∷ depths_from (behind_operation p op) rest
  depths_from p (choose t op x y rest) =
      let first = behind_operation p op in
      let together : At =
      record { values = (behind functions first x).values; nesting = p.nesting } in
      p.values ∷ depths_from first x ++ depths_from first y ++ depths_from together rest
  depths_from p (while test body step rest) =
      let b = behind functions p test in
      let s = behind functions b body in
      depths_from p test ++ depths_from b body ++ depths_from s step
      ++ depths_from (behind functions s step) rest
  depths_from p (until body test rest) =
      let t = behind functions p body in
      depths_from p body ++ depths_from t test ++ depths_from (behind functions t test) rest
  depths_from p (turn test body step rest) =
      let b = behind functions p test in
      let s = behind functions b body in
      depths_from p test ++ depths_from b body ++ depths_from s step
      ++ depths_from (behind functions s step) rest
  depths_from p (again test body step rest) =
      let b = behind functions p test in
      let s = behind functions b body in
      depths_from p test ++ depths_from b body ++ depths_from s step
      ++ depths_from (behind functions s step) rest
  depths_from p (quit t op rest) = p.values ∷ depths_from (behind_operation p op) rest
  depths_from p (break rest) = depths_from p rest
  depths_from p (continue rest) = depths_from p rest
  depths_from p (call t op f opening rest) =
      p.values ∷ depths_from beginning opening ++ depths_from (behind_call functions p op f) rest
  depths_from p (ends t op rest) = p.values ∷ depths_from (behind_operation p op) rest

-- The code is one operation after another.
abbrev pub IsStraight : {A : Type 0} → Code A → Type 0
IsStraight done = Unit {0}
IsStraight (perform t op rest) = IsStraight rest
IsStraight code = ⊥

-- The opening of each call is one operation after another.
abbrev pub HasOpenings : {A : Type 0} → Code A → Type 0
HasOpenings done = Unit {0}
HasOpenings (perform t op rest) = HasOpenings rest
HasOpenings (choose t op x y rest) = HasOpenings x × HasOpenings y × HasOpenings rest
HasOpenings (while test body step rest) = HasOpenings test × HasOpenings body × HasOpenings step
    × HasOpenings rest
HasOpenings (until body test rest) = HasOpenings body × HasOpenings test × HasOpenings rest
HasOpenings (quit t op rest) = HasOpenings rest
HasOpenings (break rest) = HasOpenings rest
HasOpenings (continue rest) = HasOpenings rest
HasOpenings (call t op f opening rest) = IsStraight opening × HasOpenings rest
HasOpenings (ends t op rest) = HasOpenings rest
HasOpenings code = ⊥

module _ (known : ProgramTables) where
  -- The depths in functions, each of which begins without values.
  abbrev pub depths_of : List FunctionTree → List ℕ
  depths_of [] = []
  depths_of (f ∷ fs) = depths_from (functions_of known) beginning (code_in known f) ++ depths_of fs

  abbrev pub HaveOpenings : List FunctionTree → Type 0
  HaveOpenings [] = Unit {0}
  HaveOpenings (f ∷ fs) = HasOpenings (code_in known f) × HaveOpenings fs
