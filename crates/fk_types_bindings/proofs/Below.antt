-- The tokens of what a well-formed program declares and refers to are tokens of it.
use Rattle.std.proofs.Common.{ℕ, ◌+◌, ◌<◌, ◌≤◌, ap, arith}
use Rattle.std.specs.Prelude.{Contains}
use Rattle.fk_syntax.specs.Program.{ProgramTree}
use Rattle.fk_syntax.specs.Nodes.{items_indices}
use Rattle.fk_syntax.specs.WellFormed.{IsWellFormed}
use Rattle.fk_types_names.specs.Outline.{DeclarationTree, declarations}
use Rattle.fk_types_obligations.specs.Pieces.{pieces}
use Rattle.fk_types_references.specs.References.{ReferenceTree}
use Rattle.fk_types_rules.specs.Bound.{pieces_references, token_of}
use Rattle.fk_types_rules.proofs.Counting.{times, node_times, contained, node-below}
use Rattle.fk_types_rules.proofs.Pieces.{pieces_named, of_items}
use Rattle.fk_types_bindings.specs.Bound.{name_token}

module _ (program : ProgramTree) where
  named_nodes : (at : ℕ) → times name_token at (declarations program) + times token_of at (pieces_references (pieces program)) ≤ node_times at (items_indices program.items)
  named_nodes at =
      let stands = of_items program.items in
      omega (arith, pieces_named (pieces program) at, ap (times name_token at) stands.declared, stands.within.count at)

  pub references_below : IsWellFormed program → (r : ReferenceTree) → Contains (pieces_references (pieces program)) r → token_of r < program.tokens
  references_below sound r there = node-below program.tokens (token_of r) (items_indices program.items) sound.below
      (omega (arith, named_nodes (token_of r), contained token_of (pieces_references (pieces program)) r there))

  pub declared_below : IsWellFormed program → (d : DeclarationTree) → Contains (declarations program) d → name_token d < program.tokens
  declared_below sound d there = node-below program.tokens (name_token d) (items_indices program.items) sound.below
      (omega (arith, named_nodes (name_token d), contained name_token (declarations program) d there))
