-- Where the parts of code are nested, those who wait for a part do nothing.
use Rattle.std.proofs.Common.{◌≡◌, Bool, true, false, List, Option, Some, None, sym, subst}
use Rattle.std.specs.Prelude.{is_some}
use Rattle.fk_syntax.specs.declared.program.Mode.{Mode}
use Rattle.fk_syntax.specs.Tree.{Named, TypeTree}
use Rattle.fk_syntax.specs.Program.{DeclaredTree, Statements, FunctionTree}
use Rattle.fk_meaning_forms.specs.Code.{Code, done, perform, choose, while, until, turn, again, quit, break, continue, call, ends}
use Rattle.fk_meaning_forms.specs.Tables.{Tables, frame_at}
use Rattle.fk_meaning_forms.specs.Statements.{Inside, is_nothing}
use Rattle.fk_meaning_forms.specs.Program.{signature_in, is_main, code_of}
use Rattle.fk_meaning.specs.Behind.{opens_body}
use Rattle.fk_meaning.specs.Shape.{Exits, none, of_function, of_test, of_turn, of_way, splits, has_two_parts, waits, ends_part, Either, Shape}
use Rattle.fk_meaning.specs.Shaped.{BodyShaped}
use Rattle.fk_meaning.proofs.NestedPrograms.{body_shaped}

abbrev pub Waiting : {A : Type 0} → Code A → Type 0
Waiting done = Unit {0}
Waiting (perform t op rest) = Waiting rest
Waiting (choose t op a b rest) = (waits op ≡ true → b ≡ done) × Waiting a × Waiting b × Waiting rest
Waiting (while test body step rest) = Waiting test × Waiting body × Waiting step × Waiting rest
Waiting (until body test rest) = Waiting body × Waiting test × Waiting rest
Waiting (turn test body step rest) = ⊥
Waiting (again test body step rest) = ⊥
Waiting (quit t op rest) = Waiting rest
Waiting (break rest) = Waiting rest
Waiting (continue rest) = Waiting rest
Waiting (call t op f opening rest) = Waiting opening × Waiting rest
Waiting (ends t op rest) = Waiting rest

-- code that is behind an end, or goes on
either : {A : Type 0} (b : Bool) (rest : Code A) (P Q G : Type 0) → Either b (P × Q × (rest ≡ done)) G → (G → Waiting rest) → Waiting rest
either true rest P Q G h k = subst Waiting (sym h.2) tt
either false rest P Q G h k = k h

pub waiting : {A : Type 0} (code : Code A) (part closing : Bool) (x : Exits) → Shape part closing x code → Waiting code
waiting done part closing x h = tt
waiting (perform t op rest) part closing x h =
    either (ends_part op) rest (part ≡ true) (x.tests ≡ false) (Shape part false x rest) h.2 (λ k. waiting rest part false x k)
waiting (choose t op a b rest) part closing x h =
    (h.4, waiting a (splits op) false (of_way op x) h.2, waiting b (has_two_parts op) false (of_way op x) h.3, waiting rest part (opens_body op) x h.6)
waiting (while test body step rest) part closing x h = (
  waiting test false false (of_test h.1) h.2,
  waiting body false false (of_turn h.1 x) h.3,
  waiting step false false none h.4,
  either h.1 rest (part ≡ true) (x.tests ≡ false) (Shape part false x rest) h.5 (λ k. waiting rest part false x k),
)
waiting (until body test rest) part closing x h = (
  waiting body false false (of_turn h.1 x) h.3,
  waiting test false false (of_test h.1) h.2,
  either h.1 rest (part ≡ true) (x.tests ≡ false) (Shape part false x rest) h.4 (λ k. waiting rest part false x k),
)
waiting (turn test body step rest) part closing x h = h
waiting (again test body step rest) part closing x h = h
waiting (quit t op rest) part closing x h = subst Waiting (sym h.5) tt
waiting (break rest) part closing x h = waiting rest part false x h.2
waiting (continue rest) part closing x h = waiting rest part false x h.2
waiting (call t op f opening rest) part closing x h = (waiting opening false false none h.2, waiting rest part false x h.3)
waiting (ends t op rest) part closing x h = waiting rest part false x h.3

-- so it is in the functions of texts
module _ (tables : Tables) (everyone : List FunctionTree) where
  function_by : (mode : Mode) (result : TypeTree) (name : Named) (parameters : List DeclaredTree) (body : Option Statements)
      → BodyShaped tables (signature_in tables everyone) body
      → Waiting (code_of tables everyone (record { mode = mode; result = result; name = name; parameters = parameters; body = body }))
  function_by mode result name parameters None shaped = tt
  function_by mode result name parameters (Some statements) shaped =
      let f : FunctionTree = record { mode = mode; result = result; name = name; parameters = parameters; body = Some statements } in
      let inside : Inside = record { main = is_main f; framed = is_some (frame_at tables name.at 0) } in
      waiting (code_of tables everyone f) false false of_function (body_shaped tables (signature_in tables everyone) inside (is_nothing result) statements shaped)

  pub function_waiting : (f : FunctionTree) → BodyShaped tables (signature_in tables everyone) f.body → Waiting (code_of tables everyone f)
  function_waiting f shaped = function_by f.mode f.result f.name f.parameters f.body shaped
