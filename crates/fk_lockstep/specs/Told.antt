-- A property of an expression: one predicate holds for each of its tokens that decide what is run
-- next, and another one for each of its names.
use Rattle.std.specs.Prelude.{◌≡◌, ℕ, Bool, true, false, List, [], ◌∷◌, Option, Some, None}
use Rattle.fk_syntax.specs.declared.sign.Sign.{Sign}
use Rattle.fk_syntax.specs.declared.sign.Sign.TheVariants as g
use Rattle.fk_syntax.specs.Tree as t
use Rattle.fk_syntax.specs.Tree.{Named, Tree, Links, Trees, Suffixes}
use Rattle.fk_syntax.specs.Program.{DeclaredTree}

abbrev pub is_logical : Sign → Bool
is_logical g.AndAnd = true
is_logical g.OrOr = true
is_logical sign = false

module _ (Decides : (at : ℕ) → Type 0) (Means : Named → Type 0) where
  abbrev mutual
    pub Told : Tree → Type 0
    Told (t.Number spot value unsigned) = Unit {0}
    Told (t.Puts spot text) = Unit {0}
    Told (t.Sizeof spot type) = Unit {0}
    Told (t.Variable name) = Means name
    Told (t.GroupNumber spot) = Unit {0}
    Told (t.GroupRank spot) = Unit {0}
    Told (t.Prefix spot sign operand) = Told operand
    Told (t.Cast spot type operand) = Told operand
    Told (t.Chain first links) = Told first × LinksTold links
    Told (t.Postfix whole suffixes) = Told whole × SuffixesTold suffixes
    Told (t.Assign spot sign target value) = Told target × Told value
    Told (t.Choose spot condition first second) = Decides spot.at × Told condition
        × Told first × Told second

    pub LinksTold : Links → Type 0
    LinksTold t.no_links = Unit {0}
    LinksTold (t.link spot sign right others) = (is_logical sign ≡ true → Decides spot.at)
        × Told right × LinksTold others

    pub SuffixesTold : Suffixes → Type 0
    SuffixesTold t.no_suffixes = Unit {0}
    SuffixesTold (t.index spot by others) = Told by × SuffixesTold others
    SuffixesTold (t.call spot arguments others) = AllTold arguments × SuffixesTold others
    SuffixesTold (t.dot spot member others) = SuffixesTold others
    SuffixesTold (t.arrow spot member others) = SuffixesTold others
    SuffixesTold (t.up spot others) = SuffixesTold others
    SuffixesTold (t.down spot others) = SuffixesTold others

    pub AllTold : Trees → Type 0
    AllTold t.no_trees = Unit {0}
    AllTold (t.tree first others) = Told first × AllTold others

  abbrev pub OptionTold : Option Tree → Type 0
  OptionTold None = Unit {0}
  OptionTold (Some e) = Told e

  abbrev pub VariablesTold : List DeclaredTree → Type 0
  VariablesTold [] = Unit {0}
  VariablesTold (x ∷ xs) = Means x.name × OptionTold x.first × VariablesTold xs
