-- The tokens that the code sees are those of the program, with what stands round them told shorter.
use Rattle.std.proofs.Common.{◌≡◌, ℕ, ◌&&◌, Bool, false, List, [], ◌∷◌, ◌++◌, map, Option, Some, None, refl, sym, ap, ◌∙◌}
use Rattle.std.proofs.lemmas.List.{map-append}
use Rattle.fk_syntax.specs.declared.place.Spot.{Spot}
use Rattle.fk_syntax.specs.declared.program.Mode.{Mode}
use Rattle.fk_syntax.specs.Tree as t
use Rattle.fk_syntax.specs.Tree.{Tree, Links, Trees, Suffixes}
use Rattle.fk_syntax.specs.Program as p
use Rattle.fk_syntax.specs.Program.{DeclaredTree, Statement, Statements, ItemTree, ProgramTree}
use Rattle.fk_sharing_class.specs.declared.thing.Thing.{Thing}
use Rattle.fk_sharing_class.specs.Class.{is_shared, is_call_shared, is_joined_shared}
use Rattle.fk_regions.specs.declared.around.Region.TheVariants.{Synchronous, Asynchronous}
use Rattle.fk_regions.specs.Around.{region_by}
use Rattle.fk_sharing.specs.declared.around.Holder.{Holder}
use Rattle.fk_sharing.specs.declared.around.Holder.TheVariants as h
use Rattle.fk_sharing.specs.declared.around.Around.{Around}
use Rattle.fk_sharing.specs.Tokens.{TokenIn, tree_tokens, links_tokens, trees_tokens, suffixes_tokens, optional_tokens, is_condition_shared, variables_tokens, variable_tokens, condition_tokens, head_tokens, parts_tokens, statement_tokens, statements_tokens, parameters_tokens, body_tokens, item_tokens, items_tokens, tokens}
use Rattle.fk_sharing.specs.Collected.{within, outside}
use Rattle.fk_sharing.specs.Retold.{around_of, retold}

abbrev Holders : Type 0
Holders = List Holder

-- one holder more
within-around : (holder : Holder) (holders : Holders) → within holder (around_of holders) ≡ around_of (holder ∷ holders)
within-around (h.Body region) holders = refl
within-around (h.Branch shared) holders = refl
within-around (h.Loop shared) holders = refl

-- two lists one after the other
both : (xs ys : List (TokenIn Holders)) (vs ws : List (TokenIn Around)) → map retold xs ≡ vs → map retold ys ≡ ws → map retold (xs ++ ys) ≡ vs ++ ws
both xs ys vs ws e f = map-append retold xs ys ∙ ap (λ a. a ++ map retold ys) e ∙ ap (λ b. vs ++ b) f

-- one token more
more : (y : TokenIn Around) (vs ws : List (TokenIn Around)) → vs ≡ ws → (y ∷ vs) ≡ (y ∷ ws)
more y vs ws e = ap (λ a. y ∷ a) e

-- a token after a list
then : (xs : List (TokenIn Holders)) (y : TokenIn Holders) (vs : List (TokenIn Around)) → map retold xs ≡ vs → map retold (xs ++ y ∷ []) ≡ vs ++ retold y ∷ []
then xs y vs e = both xs (y ∷ []) vs (retold y ∷ []) e refl

module _ (thing : ℕ → Option Thing) where
  mutual
    tree-retold : (around : Holders) (tree : Tree) → map retold (tree_tokens thing around tree) ≡ tree_tokens thing (around_of around) tree
    tree-retold around (t.Number spot value unsigned) = refl
    tree-retold around (t.Puts spot text) = refl
    tree-retold around (t.Sizeof spot type) = refl
    tree-retold around (t.Variable name) = refl
    tree-retold around (t.GroupNumber spot) = refl
    tree-retold around (t.GroupRank spot) = refl
    tree-retold around (t.Prefix spot sign operand) = then _ _ _ (tree-retold around operand)
    tree-retold around (t.Cast spot type operand) = then _ _ _ (tree-retold around operand)
    tree-retold around (t.Chain first links) = both _ _ _ _ (tree-retold around first) (links-retold around (is_shared thing first) links)
    tree-retold around (t.Postfix whole suffixes) = both _ _ _ _ (tree-retold around whole) (suffixes-retold around (is_shared thing whole) (is_call_shared thing whole) suffixes)
    tree-retold around (t.Assign spot sign target value) = then _ _ _ (both _ _ _ _ (tree-retold around target) (tree-retold around value))
    tree-retold around (t.Choose spot condition first second) = then _ _ _ (both _ _ _ _ (both _ _ _ _ (tree-retold around condition) (tree-retold around first)) (tree-retold around second))

    links-retold : (around : Holders) (before : Bool) (links : Links) → map retold (links_tokens thing around before links) ≡ links_tokens thing (around_of around) before links
    links-retold around before t.no_links = refl
    links-retold around before (t.link spot sign right others) = both _ _ _ _ (tree-retold around right) (more _ _ _ (links-retold around (is_joined_shared sign before (is_shared thing right)) others))

    trees-retold : (around : Holders) (trees : Trees) → map retold (trees_tokens thing around trees) ≡ trees_tokens thing (around_of around) trees
    trees-retold around t.no_trees = refl
    trees-retold around (t.tree first others) = both _ _ _ _ (tree-retold around first) (trees-retold around others)

    suffixes-retold : (around : Holders) (before called : Bool) (suffixes : Suffixes) → map retold (suffixes_tokens thing around before called suffixes) ≡ suffixes_tokens thing (around_of around) before called suffixes
    suffixes-retold around before called t.no_suffixes = refl
    suffixes-retold around before called (t.index spot by others) = both _ _ _ _ (tree-retold around by) (more _ _ _ (suffixes-retold around (before && is_shared thing by) false others))
    suffixes-retold around before called (t.call spot arguments others) = both _ _ _ _ (trees-retold around arguments) (more _ _ _ (suffixes-retold around called false others))
    suffixes-retold around before called (t.dot spot member others) = more _ _ _ (suffixes-retold around before false others)
    suffixes-retold around before called (t.arrow spot member others) = more _ _ _ (suffixes-retold around before false others)
    suffixes-retold around before called (t.up spot others) = more _ _ _ (suffixes-retold around before false others)
    suffixes-retold around before called (t.down spot others) = more _ _ _ (suffixes-retold around before false others)

  optional-retold : (around : Holders) (tree : Option Tree) → map retold (optional_tokens thing around tree) ≡ optional_tokens thing (around_of around) tree
  optional-retold around None = refl
  optional-retold around (Some tree) = tree-retold around tree

  variables-retold : (around : Holders) (variables : List DeclaredTree) → map retold (variables_tokens thing around variables) ≡ variables_tokens thing (around_of around) variables
  variables-retold around [] = refl
  variables-retold around (x ∷ xs) = both (variable_tokens thing around x) _ _ _ (then _ _ _ (optional-retold around x.first)) (variables-retold around xs)

  condition-retold : (around : Holders) (spot : Spot) (condition : Tree) → map retold (condition_tokens thing around spot condition) ≡ condition_tokens thing (around_of around) spot condition
  condition-retold around spot condition = then _ _ _ (tree-retold around condition)

  head-retold : (around : Holders) (spot : Spot) (before condition after : Option Tree) → map retold (head_tokens thing around spot before condition after) ≡ head_tokens thing (around_of around) spot before condition after
  head-retold around spot before condition after = then _ _ _ (both _ _ _ _ (both _ _ _ _ (optional-retold around before) (optional-retold around condition)) (optional-retold around after))

  parts-retold : (around : Holders) (parts part : Tree) (rank : Option Tree) → map retold (parts_tokens thing around parts part rank) ≡ parts_tokens thing (around_of around) parts part rank
  parts-retold around parts part rank = both _ _ _ _ (both _ _ _ _ (tree-retold around parts) (tree-retold around part)) (optional-retold around rank)

  mutual
    statement-retold : (around : Holders) (statement : Statement) → map retold (statement_tokens thing ◌∷◌ around statement) ≡ statement_tokens thing within (around_of around) statement
    statement-retold around p.Empty = refl
    statement-retold around (p.Expression value) = tree-retold around value
    statement-retold around (p.Block statements) = statements-retold around statements
    statement-retold around (p.Declare variables) = variables-retold around variables
    statement-retold around (p.If spot condition body) = both (condition_tokens thing around spot condition) _ _ _ (condition-retold around spot condition) (statement-retold (h.Branch (is_shared thing condition) ∷ around) body)
    statement-retold around (p.IfElse spot condition body otherwise) = both (condition_tokens thing around spot condition ++ statement_tokens thing ◌∷◌ (h.Branch (is_shared thing condition) ∷ around) body) _ _ _ (both (condition_tokens thing around spot condition) _ _ _ (condition-retold around spot condition) (statement-retold (h.Branch (is_shared thing condition) ∷ around) body)) (statement-retold (h.Branch (is_shared thing condition) ∷ around) otherwise)
    statement-retold around (p.While spot condition body) = both (condition_tokens thing around spot condition) _ _ _ (condition-retold around spot condition) (statement-retold (h.Loop (is_shared thing condition) ∷ around) body)
    statement-retold around (p.DoWhile spot body condition) = both (condition_tokens thing around spot condition) _ _ _ (condition-retold around spot condition) (statement-retold (h.Loop (is_shared thing condition) ∷ around) body)
    statement-retold around (p.For spot before condition after body) = both (head_tokens thing around spot before condition after) _ _ _ (head-retold around spot before condition after) (statement-retold (h.Loop (is_condition_shared thing condition) ∷ around) body)
    statement-retold around (p.Start spot count body) = both (optional_tokens thing around count) _ _ _ (optional-retold around count) (statement-retold (h.Body Synchronous ∷ around) body)
    statement-retold around (p.Farm spot body) = statement-retold (h.Body Asynchronous ∷ around) body
    statement-retold around (p.Seq spot body) = statement-retold (h.Body Asynchronous ∷ around) body
    statement-retold around (p.Fork spot parts part rank body) = both (parts_tokens thing around parts part rank) _ _ _ (parts-retold around parts part rank) (statement-retold (h.Body Synchronous ∷ around) body)
    statement-retold around (p.Barrier spot) = refl
    statement-retold around (p.Break spot) = refl
    statement-retold around (p.Continue spot) = refl
    statement-retold around (p.Return spot value) = then _ _ _ (optional-retold around value)

    statements-retold : (around : Holders) (statements : Statements) → map retold (statements_tokens thing ◌∷◌ around statements) ≡ statements_tokens thing within (around_of around) statements
    statements-retold around p.no_statements = refl
    statements-retold around (p.statement first others) = both _ _ _ _ (statement-retold around first) (statements-retold around others)

  parameters-retold : (around : Holders) (mode : Mode) (parameters : List DeclaredTree) → map retold (parameters_tokens around mode parameters) ≡ parameters_tokens (around_of around) mode parameters
  parameters-retold around mode [] = refl
  parameters-retold around mode (x ∷ xs) = more _ _ _ (parameters-retold around mode xs)

  body-retold : (holder : Holder) (around : Holders) (body : Option Statements) → map retold (body_tokens thing ◌∷◌ (holder ∷ around) body) ≡ body_tokens thing within (within holder (around_of around)) body
  body-retold holder around None = refl
  body-retold holder around (Some body) = statements-retold (holder ∷ around) body ∙ ap (λ a. statements_tokens thing within a body) (sym (within-around holder around))

  item-retold : (around : Holders) (item : ItemTree) → map retold (item_tokens thing ◌∷◌ around item) ≡ item_tokens thing within (around_of around) item
  item-retold around (p.StructItem name members) = refl
  item-retold around (p.VariablesItem variables) = variables-retold around variables
  item-retold around (p.FunctionItem function) = both (parameters_tokens around function.mode function.parameters) _ _ _ (parameters-retold around function.mode function.parameters) (body-retold (h.Body (region_by function.mode)) around function.body)

  items-retold : (around : Holders) (items : List ItemTree) → map retold (items_tokens thing ◌∷◌ around items) ≡ items_tokens thing within (around_of around) items
  items-retold around [] = refl
  items-retold around (x ∷ xs) = both _ _ _ _ (item-retold around x) (items-retold around xs)

  pub tokens-retold : (program : ProgramTree) → map retold (tokens thing program) ≡ items_tokens thing within outside program.items
  tokens-retold program = items-retold [] program.items
