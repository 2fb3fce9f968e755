-- A function without a body has no code, and is none of those that have one.
use Rattle.std.proofs.Common.{◌≡◌, List, Option, Some, None, refl}
use Rattle.fk_syntax.specs.declared.program.Mode.{Mode}
use Rattle.fk_syntax.specs.Tree.{Named, TypeTree}
use Rattle.fk_syntax.specs.Program.{DeclaredTree, Statements, FunctionTree}
use Rattle.fk_meaning_forms.specs.Program.{with_body}
use Rattle.fk_meaning_forms.proofs.Short.{function}
use Rattle.fk_layout_walk.specs.declared.known.ProgramTables.{ProgramTables}
use Rattle.fk_layout_walk.specs.declared.visitor.Event.{Event}
use Rattle.fk_layout_walk.specs.declared.visitor.Mark.{Mark}
use Rattle.fk_layout_walk.specs.Known.{functions_of}
use Rattle.fk_layout_walk.specs.Through.{through}
use Rattle.fk_layout_walk_statements.specs.Texts.{code_in, through_all}

module _ {S : Type 0} (after : S → Event → S) (mark : S → Mark) (known : ProgramTables) where
  by_body : (s : S) (mode : Mode) (type : TypeTree) (name : Named) (parameters : List DeclaredTree) (body : Option Statements) (others : List FunctionTree)
      → through_all after mark known s (with_body (function mode type name parameters body) body others)
      ≡ through_all after mark known (through after mark (functions_of known) s (code_in known (function mode type name parameters body))) others
  by_body s mode type name parameters None others = refl
  by_body s mode type name parameters (Some body) others = refl

  pub shown_or_none : (s : S) (f : FunctionTree) (others : List FunctionTree)
      → through_all after mark known s (with_body f f.body others)
      ≡ through_all after mark known (through after mark (functions_of known) s (code_in known f)) others
  shown_or_none s f others = by_body s f.mode f.result f.name f.parameters f.body others
