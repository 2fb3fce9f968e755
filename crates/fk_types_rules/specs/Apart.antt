-- Tokens that belong to one declaration or reference each.
use Rattle.std.specs.Prelude.{◌≢◌, ◌≡◌, ℕ, ◌<◌, List, Some, Contains, slice_get}
use Rattle.fk_syntax.specs.Program.{ProgramTree}
use Rattle.fk_types_names.specs.Outline.{DeclarationTree, declarations, name_of}
use Rattle.fk_types_obligations.specs.Pieces.{pieces}
use Rattle.fk_types_references.specs.References.{ReferenceTree}
use Rattle.fk_types_rules.specs.Bound.{pieces_references, token_of}

-- no two declarations, and no two references, have the same token
abbrev pub AreDeclaredApart : List DeclarationTree → Type 0
AreDeclaredApart declared = (i j : ℕ) (d e : DeclarationTree) → i < j → slice_get declared i
    ≡ Some d → slice_get declared j ≡ Some e → (name_of d).at ≢ (name_of e).at

abbrev pub AreReferencesApart : List ReferenceTree → Type 0
AreReferencesApart references = (i j : ℕ) (r s : ReferenceTree) → i < j
    → slice_get references i ≡ Some r → slice_get references j ≡ Some s → token_of r ≢ token_of s

-- no token belongs to a declaration and to a reference
abbrev pub AreNeverBoth : List DeclarationTree → List ReferenceTree → Type 0
AreNeverBoth declared references = (d : DeclarationTree) (r : ReferenceTree) → Contains declared d
    → Contains references r → (name_of d).at ≢ token_of r

-- each token of a program belongs to at most one declaration or reference
pub record AreTokensApart (program : ProgramTree) : Type 0 where
  pub declared : AreDeclaredApart (declarations program)
  pub references : AreReferencesApart (pieces_references (pieces program))
  pub never_both : AreNeverBoth (declarations program) (pieces_references (pieces program))
