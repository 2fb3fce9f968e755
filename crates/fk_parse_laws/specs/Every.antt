-- Properties that all parts of a tree have.
use Rattle.std.specs.Prelude.{ℕ, List, [], ◌∷◌, Option, Some, None}
use Rattle.fk_syntax.specs.Tree as t
use Rattle.fk_syntax.specs.Tree.{Named, Tree, Links, Trees, Suffixes}
use Rattle.fk_syntax.specs.Program as p
use Rattle.fk_syntax.specs.Program.{DeclaredTree, Statement, Statements}

-- nothing is asked
abbrev pub Always : {A : Type 0} → A → Type 0
Always a = Unit {0}

-- the properties of the parts of expressions, and of the lengths of variables
pub record Parts : Type 1 where
  pub number : (value : ℕ) → Type 0
  -- the bytes of a text that is printed
  pub text : List ℕ → Type 0
  -- all links of a chain, and all suffixes of an expression
  pub links : Links → Type 0
  pub suffixes : Suffixes → Type 0
  pub member : Named → Type 0
  pub length : Option ℕ → Type 0

module _ (has : Parts) where
  abbrev mutual
    pub TreeHas : Tree → Type 0
    TreeHas (t.Number spot value unsigned) = has.number value
    TreeHas (t.Puts spot text) = has.text text
    TreeHas (t.Sizeof spot type) = Unit {0}
    TreeHas (t.Variable name) = Unit {0}
    TreeHas (t.GroupNumber spot) = Unit {0}
    TreeHas (t.GroupRank spot) = Unit {0}
    TreeHas (t.Prefix spot sign operand) = TreeHas operand
    TreeHas (t.Cast spot type operand) = TreeHas operand
    TreeHas (t.Chain first links) = has.links links × TreeHas first × LinksHave links
    TreeHas (t.Postfix whole suffixes) = has.suffixes suffixes × TreeHas whole
        × SuffixesHave suffixes
    TreeHas (t.Assign spot sign target value) = TreeHas target × TreeHas value
    TreeHas (t.Choose spot condition first second) = TreeHas condition × TreeHas first
        × TreeHas second

    pub LinksHave : Links → Type 0
    LinksHave t.no_links = Unit {0}
    LinksHave (t.link spot sign right others) = TreeHas right × LinksHave others

    pub TreesHave : Trees → Type 0
    TreesHave t.no_trees = Unit {0}
    TreesHave (t.tree first others) = TreeHas first × TreesHave others

    pub SuffixesHave : Suffixes → Type 0
    SuffixesHave t.no_suffixes = Unit {0}
    SuffixesHave (t.index spot by others) = TreeHas by × SuffixesHave others
    SuffixesHave (t.call spot arguments others) = TreesHave arguments × SuffixesHave others
    SuffixesHave (t.dot spot member others) = has.member member × SuffixesHave others
    SuffixesHave (t.arrow spot member others) = has.member member × SuffixesHave others
    SuffixesHave (t.up spot others) = SuffixesHave others
    SuffixesHave (t.down spot others) = SuffixesHave others

  abbrev pub OptionHas : Option Tree → Type 0
  OptionHas None = Unit {0}
  OptionHas (Some e) = TreeHas e

  abbrev pub VariablesHave : List DeclaredTree → Type 0
  VariablesHave [] = Unit {0}
  VariablesHave (x ∷ xs) = has.length x.length × OptionHas x.first × VariablesHave xs

  abbrev mutual
    pub StatementHas : Statement → Type 0
    StatementHas p.Empty = Unit {0}
    StatementHas (p.Expression e) = TreeHas e
    StatementHas (p.Block statements) = StatementsHave statements
    StatementHas (p.Declare variables) = VariablesHave variables
    StatementHas (p.If spot condition first) = TreeHas condition × StatementHas first
    StatementHas (p.IfElse spot condition first second) = TreeHas condition × StatementHas first
        × StatementHas second
    StatementHas (p.While spot condition body) = TreeHas condition × StatementHas body
    StatementHas (p.DoWhile spot body condition) = StatementHas body × TreeHas condition
    StatementHas (p.For spot before condition after body) =
        OptionHas before × OptionHas condition × OptionHas after × StatementHas body
    StatementHas (p.Start spot count body) = OptionHas count × StatementHas body
    StatementHas (p.Farm spot body) = StatementHas body
    StatementHas (p.Seq spot body) = StatementHas body
    StatementHas (p.Fork spot parts part rank body) = TreeHas parts × TreeHas part
        × OptionHas rank × StatementHas body
    StatementHas (p.Barrier spot) = Unit {0}
    StatementHas (p.Break spot) = Unit {0}
    StatementHas (p.Continue spot) = Unit {0}
    StatementHas (p.Return spot e) = OptionHas e

    pub StatementsHave : Statements → Type 0
    StatementsHave p.no_statements = Unit {0}
    StatementsHave (p.statement first others) = StatementHas first × StatementsHave others

  abbrev pub BodyHas : Option Statements → Type 0
  BodyHas None = Unit {0}
  BodyHas (Some statements) = StatementsHave statements
