-- The tables that the code has of the headers of functions.
use Rattle.std.specs.Prelude.{ℕ, List}
use Rattle.fk_syntax.specs.Program.{ItemTree}
use Rattle.fk_types_names.specs.Locals.{IsFirstOf}
use Rattle.fk_types_names.specs.TableView.{shown}
use Rattle.fk_types_name_rules.specs.declared.headers.Headers.{Headers}
use Rattle.fk_types_name_rules.specs.Headers.{HasHeaderAt, HasBodyAt, HasLaterAt}

-- for each name the first header, the second one, and the first one with a body
pub record AreHeaders (items : List ItemTree) (headers : Headers) : Type 0 where
  pub firsts : (name : List ℕ) → IsFirstOf (HasHeaderAt items name) (shown headers.firsts name)
  pub seconds : (name : List ℕ) → IsFirstOf (HasLaterAt items name) (shown headers.seconds name)
  pub bodies : (name : List ℕ) → IsFirstOf (HasBodyAt items name) (shown headers.bodies name)
