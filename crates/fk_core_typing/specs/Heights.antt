-- The number of values that a call has before each operation of code, counted along the text.
use Rattle.std.specs.Prelude.{◌≡◌, ℕ, ◌+◌, ◌-◌, Bool, true, false}
use Rattle.fk_meaning_operation.specs.declared.operation.Operation.{Operation}
use Rattle.fk_layout_sizes.specs.Operations.{takes}
use Rattle.fk_meaning_forms.specs.Code.{Code, done, perform, choose, while, until, turn, again}
use Rattle.fk_meaning_forms.specs.Code.{quit, break, continue, call, ends}
use Rattle.fk_core_liveness.specs.declared.places.FunctionKind.{FunctionKind}
use Rattle.fk_core_liveness.specs.declared.places.FunctionKind.TheVariants.{Main, Called}
use Rattle.fk_core_typing.specs.LocalDepths.{results, leaves}

abbrev pub raised : (values : ℕ) → Operation → (onward : Bool) → ℕ
raised h op onward = h - takes op + leaves op onward

abbrev pub results_of : FunctionKind → ℕ
results_of Main = 0
results_of (Called gives) = results gives

module _ (place_of : (binding : ℕ) → FunctionKind) where
  -- The number of values after code. After a choice it is that at the end of its first branch.
  abbrev pub height : (values : ℕ) → Code ℕ → ℕ
  height h done = h
  height h (perform n op rest) = height (raised h op true) rest
  height h (choose n op x y rest) = height (height (raised h op true) x) rest
  height h (while test body step rest) = height (height (height (height h test) body) step) rest
  height h (until body test rest) = height (height (height h body) test) rest
  height h (turn test body step rest) = height (height (height (height h test) body) step) rest
  height h (again test body step rest) = height (height (height (height h test) body) step) rest
  height h (quit n op rest) = height (raised h op true) rest
  height h (break rest) = height h rest
  height h (continue rest) = height h rest
  height h (call n op f opening rest) = height (h - takes op + results_of (place_of f)) rest
  height h (ends n op rest) = height (raised h op true) rest

  -- The depth at the site of each operation is that number. The operations in the opening of a call
  -- are done by the called function, which begins without values.
  module _ (depth : (site : ℕ) → ℕ) where
    abbrev pub HasHeights : (values : ℕ) → Code ℕ → Type 0
    HasHeights h done = Unit {0}
    HasHeights h (perform n op rest) = (depth n ≡ h) × HasHeights (raised h op true) rest
    HasHeights h (choose n op x y rest) =
        (depth n ≡ h) × HasHeights (raised h op true) x × HasHeights (raised h op false) y
        × HasHeights (height (raised h op true) x) rest
    HasHeights h (while test body step rest) =
        let b = height h test in
        let s = height b body in
        HasHeights h test × HasHeights b body × HasHeights s step × HasHeights (height s step) rest
    HasHeights h (until body test rest) =
        let t = height h body in HasHeights h body × HasHeights t test
        × HasHeights (height t test) rest
    HasHeights h (quit n op rest) = (depth n ≡ h) × HasHeights (raised h op true) rest
    HasHeights h (break rest) = HasHeights h rest
    HasHeights h (continue rest) = HasHeights h rest
    HasHeights h (call n op f opening rest) =
        (depth n ≡ h) × HasHeights 0 opening
        × HasHeights (h - takes op + results_of (place_of f)) rest
    HasHeights h (ends n op rest) = (depth n ≡ h) × HasHeights (raised h op true) rest
    HasHeights h code = ⊥
