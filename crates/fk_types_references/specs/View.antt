-- The references of the code in the form of the definitions.
use Rattle.fk_syntax.specs.View.{named, type_of}
use Rattle.fk_types_references.specs.declared.references.Reference.{Reference}
use Rattle.fk_types_references.specs.declared.references.Reference.TheVariants as c
use Rattle.fk_types_references.specs.References as r
use Rattle.fk_types_references.specs.References.{ReferenceTree}

abbrev pub reference_of : Reference → ReferenceTree
reference_of (c.Name name) = r.Name (named name)
reference_of (c.Member whole is_arrow member) = r.Member whole is_arrow (named member)
reference_of (c.Size spot type) = r.Size spot (type_of type)
