-- Expressions whose calls satisfy the rules of types: the called expression is directly the name of
-- a function, and the arguments are such as it takes.
use Rattle.std.specs.Prelude.{◌≡◌, ℕ, Bool, true, false, ◌||◌, List, [], ◌∷◌, Option, Some, None}
use Rattle.std.specs.Prelude.{codes}
use Rattle.fk_syntax.specs.Tree as t
use Rattle.fk_syntax.specs.Tree.{Named, Tree, Links, Trees, Suffixes}
use Rattle.fk_syntax.specs.Program.{DeclaredTree}
use Rattle.fk_meaning_forms.specs.Tables.{Tables}
use Rattle.fk_meaning_forms.specs.Expressions.{Coded, ResultLocation, ToCall, Signature, is_name}
use Rattle.fk_meaning_forms.specs.Expressions.{variable}

abbrev pub takes_two : Named → Bool
takes_two name =
    is_name name (codes "mpadd") || (is_name name (codes "mpmax")
    || (is_name name (codes "mpand") || is_name name (codes "mpor")))

-- a predeclared function has at least the arguments that it takes
abbrev pub TakesEnough : Named → Trees → Type 0
TakesEnough name t.no_trees = (takes_two name ≡ false) × (is_name name (codes "groupsize") ≡ true)
TakesEnough name (t.tree first t.no_trees) = takes_two name ≡ false
TakesEnough name (t.tree first (t.tree second others)) = Unit {0}

-- `Takes` tells which arguments a name takes
module _ (tables : Tables) (functions : (binding : ℕ) → Signature)
    (Takes : Named → Trees → Type 0) where
  -- the called expression is the name of a function. A chain without signs, and an expression
  -- without suffixes, are what they contain
  abbrev pub CallFits : Tree → Trees → Type 0
  CallFits (t.Variable name) arguments =
      ((k : ResultLocation → Coded) → variable tables functions name k ≡ k (ToCall name))
      × Takes name arguments
  CallFits (t.Chain first t.no_links) arguments = CallFits first arguments
  CallFits (t.Postfix whole t.no_suffixes) arguments = CallFits whole arguments
  CallFits e arguments = ⊥

  abbrev mutual
    pub Fits : Tree → Type 0
    Fits (t.Number spot value unsigned) = Unit {0}
    Fits (t.Puts spot text) = Unit {0}
    Fits (t.Sizeof spot type) = Unit {0}
    Fits (t.Variable name) = Unit {0}
    Fits (t.GroupNumber spot) = Unit {0}
    Fits (t.GroupRank spot) = Unit {0}
    Fits (t.Prefix spot sign operand) = Fits operand
    Fits (t.Cast spot type operand) = Fits operand
    Fits (t.Chain first links) = Fits first × LinksFit links
    Fits (t.Postfix whole suffixes) = Fits whole × FirstFits whole suffixes
    Fits (t.Assign spot sign target value) = Fits target × Fits value
    Fits (t.Choose spot condition first second) = Fits condition × Fits first × Fits second

    pub LinksFit : Links → Type 0
    LinksFit t.no_links = Unit {0}
    LinksFit (t.link spot sign right others) = Fits right × LinksFit others

    -- a call may only be the first suffix
    pub FirstFits : Tree → Suffixes → Type 0
    FirstFits whole t.no_suffixes = Unit {0}
    FirstFits whole (t.index spot by others) = Fits by × SuffixesFit others
    FirstFits whole (t.call spot arguments others) = CallFits whole arguments × AllFit arguments
        × SuffixesFit others
    FirstFits whole (t.dot spot member others) = SuffixesFit others
    FirstFits whole (t.arrow spot member others) = SuffixesFit others
    FirstFits whole (t.up spot others) = SuffixesFit others
    FirstFits whole (t.down spot others) = SuffixesFit others

    pub SuffixesFit : Suffixes → Type 0
    SuffixesFit t.no_suffixes = Unit {0}
    SuffixesFit (t.index spot by others) = Fits by × SuffixesFit others
    SuffixesFit (t.call spot arguments others) = ⊥
    SuffixesFit (t.dot spot member others) = SuffixesFit others
    SuffixesFit (t.arrow spot member others) = SuffixesFit others
    SuffixesFit (t.up spot others) = SuffixesFit others
    SuffixesFit (t.down spot others) = SuffixesFit others

    pub AllFit : Trees → Type 0
    AllFit t.no_trees = Unit {0}
    AllFit (t.tree first others) = Fits first × AllFit others

  abbrev pub OptionFits : Option Tree → Type 0
  OptionFits None = Unit {0}
  OptionFits (Some e) = Fits e

  abbrev pub VariablesFit : List DeclaredTree → Type 0
  VariablesFit [] = Unit {0}
  VariablesFit (x ∷ xs) = OptionFits x.first × VariablesFit xs
