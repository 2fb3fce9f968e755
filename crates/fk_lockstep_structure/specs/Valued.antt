-- Expressions that give one value, whichever branches are taken in them. The tree of an expression
-- determines where its result is when its operations are done.
use Rattle.std.specs.Prelude.{◌≡◌, ℕ, ◌==◌, ◌||◌, Bool, true, false, not, List, [], ◌∷◌, codes}
use Rattle.std.specs.Prelude.{Option, Some, None, if◌then◌else◌}
use Rattle.fk_syntax.specs.declared.sign.Sign.{Sign}
use Rattle.fk_syntax.specs.declared.sign.Sign.TheVariants as g
use Rattle.fk_syntax.specs.Tree as t
use Rattle.fk_syntax.specs.Tree.{Named, Tree, Links, Trees, Suffixes}
use Rattle.fk_syntax.specs.Program.{DeclaredTree}
use Rattle.fk_meaning_forms.specs.declared.tables.Home.{Home}
use Rattle.fk_meaning_forms.specs.declared.tables.Home.TheVariants as h
use Rattle.fk_meaning_forms.specs.Tables.{Tables, no_binding, note, is_void, slot}
use Rattle.fk_meaning_forms.specs.Expressions.{Signature, is_name, token}
use Rattle.fk_meaning.specs.Calls.{takes_two, TakesEnough}

pub data Way : Type 0 where
  -- the result is a value, or there is none
  Valued : Way
  Absent : Way
  -- the result is at an address, in a private word, or is the name of a function
  Placed : Way
  Word : Way
  Function : (name : Named) → Way

-- whether there is a value
abbrev pub gives : Way → Bool
gives Absent = false
gives (Function name) = false
gives way = true

abbrev pub result : (gives : Bool) → Way
result true = Valued
result false = Absent

-- a predeclared function gives a value, unless it prints
abbrev pub predeclared_gives : Named → Bool
predeclared_gives name =
    takes_two name || (is_name name (codes "groupsize")
    || not (is_name name (codes "putint") || is_name name (codes "putchar")))

-- the result of predeclared names, and of variables by their homes
abbrev pub predeclared_way : Named → Way
predeclared_way name =
    if is_name name (codes "__PROC_NR__") then Valued
    else if is_name name (codes "__STARTED_PROCS__") then Valued
    else if is_name name (codes "__inputs") then Valued
    else if is_name name (codes "__input") then Placed
    else Function name

abbrev pub placed_way : Home → Named → Way
placed_way h.Global name = Placed
placed_way h.FilePrivate name = Word
placed_way h.Private name = Word
placed_way (h.Group r) name = Placed
placed_way h.NoWord name = Function name

-- a dereference is at its address, and the other signs make a value
abbrev pub prefix_way : Sign → Way
prefix_way g.Star = Placed
prefix_way sign = Valued

-- a chain has the result that its last sign makes of its right side
abbrev pub joined_way : Sign → (right : Way) → Way
joined_way g.Comma right = result (gives right)
joined_way sign right = Valued

-- the result has an address, or a place that can be assigned to
abbrev pub HasAddress : Way → Type 0
HasAddress Placed = Unit {0}
HasAddress way = ⊥

abbrev pub IsTarget : Way → Type 0
IsTarget Placed = Unit {0}
IsTarget Word = Unit {0}
IsTarget way = ⊥

-- a sign in front requires a value, a place or an address
abbrev pub PrefixNeeds : Sign → Way → Type 0
PrefixNeeds g.Ampersand way = HasAddress way
PrefixNeeds g.Increment way = IsTarget way
PrefixNeeds g.Decrement way = IsTarget way
PrefixNeeds sign way = gives way ≡ true

-- there are at least as many arguments as parameters
abbrev pub AreEnough : List DeclaredTree → Trees → Type 0
AreEnough [] es = Unit {0}
AreEnough (x ∷ xs) t.no_trees = ⊥
AreEnough (x ∷ xs) (t.tree e es) = AreEnough xs es

-- a function of the program gives a value if it has a result
abbrev pub gives_value : (functions : (binding : ℕ) → Signature) → (function : ℕ) → Bool
gives_value functions function = not (functions function).void

module _ (tables : Tables) (functions : (binding : ℕ) → Signature) where
  abbrev pub named_way : Named → Way
  named_way name =
      let b = (note tables name.at).binding in
      if b == no_binding then predeclared_way name else placed_way (slot tables b).home name

  abbrev pub call_gives : (predeclared : Bool) → Named → Bool
  call_gives true name = predeclared_gives name
  call_gives false name = gives_value functions (note tables name.at).binding

  abbrev pub called_way : Way → Way
  called_way (Function name) =
      result (call_gives ((note tables name.at).binding == no_binding) name)
  called_way way = Absent

  abbrev mutual
    pub way : Tree → Way
    way (t.Puts spot text) = Absent
    way (t.Variable name) = named_way name
    way (t.Prefix spot sign operand) = prefix_way sign
    way (t.Chain first links) = chain_way (way first) links
    way (t.Postfix whole suffixes) = suffixed_way (way whole) suffixes
    way (t.Choose spot condition first second) = result (gives (way first))
    way e = Valued

    pub chain_way : Way → Links → Way
    chain_way w t.no_links = w
    chain_way w (t.link spot sign right others) = chain_way (joined_way sign (way right)) others

    pub suffixed_way : Way → Suffixes → Way
    suffixed_way w t.no_suffixes = w
    suffixed_way w (t.index spot by others) = suffixed_way Placed others
    suffixed_way w (t.call spot arguments others) = suffixed_way (called_way w) others
    suffixed_way w (t.dot spot name others) = suffixed_way Placed others
    suffixed_way w (t.arrow spot name others) = suffixed_way Placed others
    suffixed_way w (t.up spot others) = suffixed_way Valued others
    suffixed_way w (t.down spot others) = suffixed_way Valued others

  -- a sign between two expressions requires the values of both. A comma drops the left one, if by
  -- its type there is one
  abbrev pub JoinNeeds : Sign → (left : Way) → (at : ℕ) → (right : Way) → Type 0
  JoinNeeds g.Comma l at r = gives l ≡ not (is_void tables at)
  JoinNeeds sign l at r = (gives l ≡ true) × (gives r ≡ true)

  -- a function is called, with enough arguments
  abbrev pub NameTakes : (predeclared : Bool) → Named → Trees → Type 0
  NameTakes true name arguments = TakesEnough name arguments
  NameTakes false name arguments =
      AreEnough (functions (note tables name.at).binding).parameters arguments

  abbrev pub CallNeeds : Way → Trees → Type 0
  CallNeeds (Function name) arguments =
      NameTakes ((note tables name.at).binding == no_binding) name arguments
  CallNeeds w arguments = ⊥

  abbrev mutual
    pub Evaluates : Tree → Type 0
    Evaluates (t.Prefix spot sign operand) = Evaluates operand × PrefixNeeds sign (way operand)
    Evaluates (t.Cast spot type operand) = Evaluates operand × (gives (way operand) ≡ true)
    Evaluates (t.Chain first links) = Evaluates first
        × LinksEvaluate (way first) (token first) links
    Evaluates (t.Postfix whole suffixes) = Evaluates whole × SuffixesEvaluate (way whole) suffixes
    Evaluates (t.Assign spot sign target value) =
        Evaluates target × IsTarget (way target) × Evaluates value × (gives (way value) ≡ true)
    Evaluates (t.Choose spot condition first second) =
        Evaluates condition × (gives (way condition) ≡ true) × Evaluates first × Evaluates second
        × (gives (way second) ≡ gives (way first))
    Evaluates e = Unit {0}

    pub LinksEvaluate : Way → (at : ℕ) → Links → Type 0
    LinksEvaluate w at t.no_links = Unit {0}
    LinksEvaluate w at (t.link spot sign right others) =
        Evaluates right × JoinNeeds sign w at (way right)
        × LinksEvaluate (joined_way sign (way right)) spot.at others

    pub SuffixesEvaluate : Way → Suffixes → Type 0
    SuffixesEvaluate w t.no_suffixes = Unit {0}
    SuffixesEvaluate w (t.index spot by others) =
        (gives w ≡ true) × Evaluates by × (gives (way by) ≡ true) × SuffixesEvaluate Placed others
    SuffixesEvaluate w (t.call spot arguments others) =
        CallNeeds w arguments × AllEvaluate arguments × SuffixesEvaluate (called_way w) others
    SuffixesEvaluate w (t.dot spot name others) = HasAddress w × SuffixesEvaluate Placed others
    SuffixesEvaluate w (t.arrow spot name others) = (gives w ≡ true)
        × SuffixesEvaluate Placed others
    SuffixesEvaluate w (t.up spot others) = IsTarget w × SuffixesEvaluate Valued others
    SuffixesEvaluate w (t.down spot others) = IsTarget w × SuffixesEvaluate Valued others

    -- all arguments have values
    pub AllEvaluate : Trees → Type 0
    AllEvaluate t.no_trees = Unit {0}
    AllEvaluate (t.tree first others) = Evaluates first × (gives (way first) ≡ true)
        × AllEvaluate others

  -- an expression that gives one value
  abbrev pub IsValued : Tree → Type 0
  IsValued e = Evaluates e × (gives (way e) ≡ true)

  abbrev pub OptionValued : Option Tree → Type 0
  OptionValued None = Unit {0}
  OptionValued (Some e) = IsValued e
