-- The code of functions, each at its binding.
use Rattle.std.specs.Prelude.{ℕ, suc, ◌+◌, ◌-◌, ◌*◌, ◌^◌, ◌<◌, ◌≤◌, List, [], ◌∷◌, ◌++◌, map}
use Rattle.std.specs.Prelude.{replicate}
use Rattle.fk_syntax.specs.Program.{FunctionTree}
use Rattle.fk_meaning_forms.specs.Code.{Code, done, size, numbered}
use Rattle.fk_meaning_forms.specs.Program.{binding_of}
use Rattle.fk_layout_walk.specs.declared.known.ProgramTables.{ProgramTables}
use Rattle.fk_layout_walk.specs.Known.{tables_of}
use Rattle.fk_layout_walk_statements.specs.Texts.{code_in}
use Rattle.fk_lower.specs.declared.block.Block.{Block}
use Rattle.fk_lower.specs.BuilderView.{block_code}
use Rattle.fk_lower_text.specs.Whole.{ArePlain}

abbrev pub codes_of : List Block → List (Code ℕ)
codes_of blocks = map block_code blocks

module _ (known : ProgramTables) where
  -- The code of functions, each at its binding, after `count` earlier bindings. The next operation
  -- has this site.
  abbrev pub laid : (count site : ℕ) → List FunctionTree → List (Code ℕ)
  laid count site [] = []
  laid count site (f ∷ fs) =
      replicate (binding_of (tables_of known) f - count) done
      ++ numbered site (code_in known f) ∷ laid (suc (binding_of (tables_of known) f))
      (site + size (code_in known f)) fs

  -- The bindings of functions go up, from `count` on.
  abbrev pub GoUp : (count : ℕ) → List FunctionTree → Type 0
  GoUp count [] = Unit {0}
  GoUp count (f ∷ fs) = (count ≤ binding_of (tables_of known) f)
      × GoUp (suc (binding_of (tables_of known) f)) fs

  -- The number of operations in the code of functions.
  abbrev pub sizes : List FunctionTree → ℕ
  sizes [] = 0
  sizes (f ∷ fs) = size (code_in known f) + sizes fs

  -- Functions whose code can be shown, each at its binding, after `count` bindings and `site`
  -- operations: their bindings go up, their code is plain, and three entries of a list for each of
  -- their operations have indices.
  pub record CanBeLaid (count site : ℕ) (fs : List FunctionTree) : Type 0 where
    pub up : GoUp count fs
    pub plain : ArePlain known fs
    pub few : 3 * (site + sizes fs) < 2 ^ 32
