-- The references that the code has collected.
use Rattle.std.specs.Prelude.{List, map}
use Rattle.fk_types_references.specs.declared.references.References.{References}
use Rattle.fk_types_references.specs.References.{ReferenceTree}
use Rattle.fk_types_references.specs.View.{reference_of}

abbrev pub found_in : References → List ReferenceTree
found_in kept = map reference_of kept.list.items
