-- Programs whose nodes are identified by the indices of their tokens.
use Rattle.std.specs.Prelude.{ℕ, List, [], ◌∷◌, ◌<◌, ◌≢◌, All, AllPairs}
use Rattle.fk_syntax.specs.declared.nodes.Index.{Index}
use Rattle.fk_syntax.specs.declared.nodes.Index.TheVariants.{Node, StructName}
use Rattle.fk_syntax.specs.Program.{ProgramTree}
use Rattle.fk_syntax.specs.Nodes.{items_indices}

abbrev pub token : Index → ℕ
token (Node at) = at
token (StructName at) = at

-- the indices of the nodes only
abbrev pub nodes : List Index → List ℕ
nodes [] = []
nodes (Node at ∷ rest) = at ∷ nodes rest
nodes (StructName at ∷ rest) = nodes rest

-- all are indices of tokens, and no two nodes have the same index
pub record AreSound (tokens : ℕ) (indices : List Index) : Type 0 where
  pub below : All (λ index. token index < tokens) indices
  pub distinct : AllPairs (λ x y. x ≢ y) (nodes indices)

abbrev pub IsWellFormed : ProgramTree → Type 0
IsWellFormed program = AreSound program.tokens (items_indices program.items)
