-- The tokens that the code sees are those of the program, with what stands round them told shorter.
use Rattle.std.proofs.Common.{◌≡◌, List, [], ◌∷◌, ◌++◌, map, Option, Some, None, refl, sym, ap, ◌∙◌}
use Rattle.std.proofs.lemmas.List.{map-append}
use Rattle.fk_syntax.specs.Tree as t
use Rattle.fk_syntax.specs.Tree.{Tree, Links, Trees, Suffixes}
use Rattle.fk_syntax.specs.Program as p
use Rattle.fk_syntax.specs.Program.{DeclaredTree, Statement, Statements, ItemTree, ProgramTree}
use Rattle.fk_regions.specs.declared.around.Holder.{Holder}
use Rattle.fk_regions.specs.declared.around.Holder.TheVariants as h
use Rattle.fk_regions.specs.declared.around.Around.{Around}
use Rattle.fk_regions.specs.Tokens.{TokenIn, tree_tokens, links_tokens, trees_tokens, suffixes_tokens, optional_tokens, variables_tokens, variable_tokens, own_tokens, statement_tokens, statements_tokens, holder_of, body_tokens, item_tokens, items_tokens, tokens}
use Rattle.fk_regions.specs.Collected.{within, outside}
use Rattle.fk_regions.specs.Retold.{around_of, retold}

abbrev Holders : Type 0
Holders = List Holder

-- one holder more
within-around : (holder : Holder) (holders : Holders) → within holder (around_of holders) ≡ around_of (holder ∷ holders)
within-around (h.Main mode) holders = refl
within-around (h.Function mode) holders = refl
within-around h.Block holders = refl
within-around h.Branch holders = refl
within-around h.Loop holders = refl
within-around h.Start holders = refl
within-around h.Fork holders = refl
within-around h.Farm holders = refl
within-around h.Seq holders = refl

-- two lists one after the other
both : (xs ys : List (TokenIn Holders)) (vs ws : List (TokenIn Around)) → map retold xs ≡ vs → map retold ys ≡ ws → map retold (xs ++ ys) ≡ vs ++ ws
both xs ys vs ws e f = map-append retold xs ys ∙ ap (λ a. a ++ map retold ys) e ∙ ap (λ b. vs ++ b) f

-- one token more
more : (y : TokenIn Around) (vs ws : List (TokenIn Around)) → vs ≡ ws → (y ∷ vs) ≡ (y ∷ ws)
more y vs ws e = ap (λ a. y ∷ a) e

mutual
  tree-retold : (around : Holders) (tree : Tree) → map retold (tree_tokens around tree) ≡ tree_tokens (around_of around) tree
  tree-retold around (t.Number spot value unsigned) = refl
  tree-retold around (t.Puts spot text) = refl
  tree-retold around (t.Sizeof spot type) = refl
  tree-retold around (t.Variable name) = refl
  tree-retold around (t.GroupNumber spot) = refl
  tree-retold around (t.GroupRank spot) = refl
  tree-retold around (t.Prefix spot sign operand) = more _ _ _ (tree-retold around operand)
  tree-retold around (t.Cast spot type operand) = more _ _ _ (tree-retold around operand)
  tree-retold around (t.Chain first links) = both _ _ _ _ (tree-retold around first) (links-retold around links)
  tree-retold around (t.Postfix whole suffixes) = both _ _ _ _ (tree-retold around whole) (suffixes-retold around suffixes)
  tree-retold around (t.Assign spot sign target value) = more _ _ _ (both _ _ _ _ (tree-retold around target) (tree-retold around value))
  tree-retold around (t.Choose spot condition first second) = more _ _ _ (both _ _ _ _ (both _ _ _ _ (tree-retold around condition) (tree-retold around first)) (tree-retold around second))

  links-retold : (around : Holders) (links : Links) → map retold (links_tokens around links) ≡ links_tokens (around_of around) links
  links-retold around t.no_links = refl
  links-retold around (t.link spot sign right others) = more _ _ _ (both _ _ _ _ (tree-retold around right) (links-retold around others))

  trees-retold : (around : Holders) (trees : Trees) → map retold (trees_tokens around trees) ≡ trees_tokens (around_of around) trees
  trees-retold around t.no_trees = refl
  trees-retold around (t.tree first others) = both _ _ _ _ (tree-retold around first) (trees-retold around others)

  suffixes-retold : (around : Holders) (suffixes : Suffixes) → map retold (suffixes_tokens around suffixes) ≡ suffixes_tokens (around_of around) suffixes
  suffixes-retold around t.no_suffixes = refl
  suffixes-retold around (t.index spot by others) = more _ _ _ (both _ _ _ _ (tree-retold around by) (suffixes-retold around others))
  suffixes-retold around (t.call spot arguments others) = more _ _ _ (both _ _ _ _ (trees-retold around arguments) (suffixes-retold around others))
  suffixes-retold around (t.dot spot member others) = more _ _ _ (more _ _ _ (suffixes-retold around others))
  suffixes-retold around (t.arrow spot member others) = more _ _ _ (more _ _ _ (suffixes-retold around others))
  suffixes-retold around (t.up spot others) = more _ _ _ (suffixes-retold around others)
  suffixes-retold around (t.down spot others) = more _ _ _ (suffixes-retold around others)

optional-retold : (around : Holders) (tree : Option Tree) → map retold (optional_tokens around tree) ≡ optional_tokens (around_of around) tree
optional-retold around None = refl
optional-retold around (Some tree) = tree-retold around tree

variables-retold : (around : Holders) (variables : List DeclaredTree) → map retold (variables_tokens around variables) ≡ variables_tokens (around_of around) variables
variables-retold around [] = refl
variables-retold around (x ∷ xs) = both (variable_tokens around x) _ _ _ (more _ _ _ (optional-retold around x.first)) (variables-retold around xs)

own-retold : (around : Holders) (statement : Statement) → map retold (own_tokens around statement) ≡ own_tokens (around_of around) statement
own-retold around p.Empty = refl
own-retold around (p.Expression value) = tree-retold around value
own-retold around (p.Block _) = refl
own-retold around (p.Declare variables) = variables-retold around variables
own-retold around (p.If spot condition body) = more _ _ _ (tree-retold around condition)
own-retold around (p.IfElse spot condition body otherwise) = more _ _ _ (tree-retold around condition)
own-retold around (p.While spot condition body) = more _ _ _ (tree-retold around condition)
own-retold around (p.DoWhile spot body condition) = more _ _ _ (tree-retold around condition)
own-retold around (p.For spot before condition after body) = more _ _ _ (both _ _ _ _ (both _ _ _ _ (optional-retold around before) (optional-retold around condition)) (optional-retold around after))
own-retold around (p.Start spot count body) = more _ _ _ (optional-retold around count)
own-retold around (p.Farm spot body) = refl
own-retold around (p.Seq spot body) = refl
own-retold around (p.Fork spot parts part rank body) = more _ _ _ (both _ _ _ _ (both _ _ _ _ (tree-retold around parts) (tree-retold around part)) (optional-retold around rank))
own-retold around (p.Barrier spot) = refl
own-retold around (p.Break spot) = refl
own-retold around (p.Continue spot) = refl
own-retold around (p.Return spot value) = more _ _ _ (optional-retold around value)

-- the own tokens of a statement, and those of what it holds
held : (around : Holders) (statement : Statement) (ys : List (TokenIn Holders)) (ws : List (TokenIn Around)) → map retold ys ≡ ws → map retold (own_tokens around statement ++ ys) ≡ own_tokens (around_of around) statement ++ ws
held around statement ys ws e = both (own_tokens around statement) ys (own_tokens (around_of around) statement) ws (own-retold around statement) e

mutual
  statement-retold : (around : Holders) (statement : Statement) → map retold (statement_tokens ◌∷◌ around statement) ≡ statement_tokens within (around_of around) statement
  statement-retold around p.Empty = refl
  statement-retold around (p.Expression value) = own-retold around (p.Expression value)
  statement-retold around (p.Block statements) = statements-retold (h.Block ∷ around) statements
  statement-retold around (p.Declare variables) = own-retold around (p.Declare variables)
  statement-retold around (p.If spot condition body) = held around (p.If spot condition body) _ _ (statement-retold (h.Branch ∷ around) body)
  statement-retold around (p.IfElse spot condition body otherwise) = both (own_tokens around (p.IfElse spot condition body otherwise) ++ statement_tokens ◌∷◌ (h.Branch ∷ around) body) (statement_tokens ◌∷◌ (h.Branch ∷ around) otherwise) _ _ (held around (p.IfElse spot condition body otherwise) (statement_tokens ◌∷◌ (h.Branch ∷ around) body) _ (statement-retold (h.Branch ∷ around) body)) (statement-retold (h.Branch ∷ around) otherwise)
  statement-retold around (p.While spot condition body) = held around (p.While spot condition body) _ _ (statement-retold (h.Loop ∷ around) body)
  statement-retold around (p.DoWhile spot body condition) = held around (p.DoWhile spot body condition) _ _ (statement-retold (h.Loop ∷ around) body)
  statement-retold around (p.For spot before condition after body) = held around (p.For spot before condition after body) _ _ (statement-retold (h.Loop ∷ around) body)
  statement-retold around (p.Start spot count body) = held around (p.Start spot count body) _ _ (statement-retold (h.Start ∷ around) body)
  statement-retold around (p.Farm spot body) = held around (p.Farm spot body) _ _ (statement-retold (h.Farm ∷ around) body)
  statement-retold around (p.Seq spot body) = held around (p.Seq spot body) _ _ (statement-retold (h.Seq ∷ around) body)
  statement-retold around (p.Fork spot parts part rank body) = held around (p.Fork spot parts part rank body) _ _ (statement-retold (h.Fork ∷ around) body)
  statement-retold around (p.Barrier spot) = refl
  statement-retold around (p.Break spot) = refl
  statement-retold around (p.Continue spot) = refl
  statement-retold around (p.Return spot value) = own-retold around (p.Return spot value)

  statements-retold : (around : Holders) (statements : Statements) → map retold (statements_tokens ◌∷◌ around statements) ≡ statements_tokens within (around_of around) statements
  statements-retold around p.no_statements = refl
  statements-retold around (p.statement first others) = both _ _ _ _ (statement-retold around first) (statements-retold around others)

body-retold : (holder : Holder) (around : Holders) (body : Option Statements) → map retold (body_tokens ◌∷◌ (holder ∷ around) body) ≡ body_tokens within (within holder (around_of around)) body
body-retold holder around None = refl
body-retold holder around (Some body) = statements-retold (holder ∷ around) body ∙ ap (λ a. statements_tokens within a body) (sym (within-around holder around))

item-retold : (around : Holders) (item : ItemTree) → map retold (item_tokens ◌∷◌ around item) ≡ item_tokens within (around_of around) item
item-retold around (p.StructItem name members) = refl
item-retold around (p.VariablesItem variables) = variables-retold around variables
item-retold around (p.FunctionItem function) = body-retold (holder_of function) around function.body

items-retold : (around : Holders) (items : List ItemTree) → map retold (items_tokens ◌∷◌ around items) ≡ items_tokens within (around_of around) items
items-retold around [] = refl
items-retold around (x ∷ xs) = both _ _ _ _ (item-retold around x) (items-retold around xs)

pub tokens-retold : (program : ProgramTree) → map retold (tokens program) ≡ items_tokens within outside program.items
tokens-retold program = items-retold [] program.items
