-- The operations of a constant leave its value, when a processor runs them by itself.
use Rattle.std.specs.Prelude.{◌≡◌, ℕ, ◌<◌, ◌^◌, false, if◌then◌else◌, ⊤}
use Rattle.fk_syntax.specs.declared.sign.Sign.{Sign}
use Rattle.fk_syntax.specs.declared.sign.Sign.TheVariants as g
use Rattle.fk_syntax.specs.Tree as t
use Rattle.fk_syntax.specs.Tree.{Tree, Links}
use Rattle.fk_meaning_forms.specs.Code.{perform, choose}
use Rattle.fk_meaning_forms.specs.Tables.{Tables, note, is_void}
use Rattle.fk_meaning_forms.specs.Expressions.{Coded, Signature, token, value}
use Rattle.fk_meaning.specs.Processor.{Processor, Setting, push}
use Rattle.fk_meaning.specs.Local.{local, is_onward}
use Rattle.fk_layout_globals.specs.Constants.{worth}

-- the processor after operations without loops and calls. A processor by itself is its own group,
-- and so an agree changes nothing
abbrev pub behind : Setting → Coded → Processor → Processor
behind set (perform place op rest) p = behind set rest (local set op p)
behind set (choose place op onward aside rest) p =
    behind set rest (if is_onward op p then behind set onward (local set op p)
    else behind set aside (local set op p))
behind set code p = p

abbrev pub StandsInConstants : Sign → Type 0
StandsInConstants g.Minus = ⊤
StandsInConstants g.Plus = ⊤
StandsInConstants g.Exclamation = ⊤
StandsInConstants g.Tilde = ⊤
StandsInConstants sign = ⊥

module _ (tables : Tables) where
  -- no group splits at a token
  abbrev pub IsWhole : (at : ℕ) → Type 0
  IsWhole at = (note tables at).splits ≡ false

  -- what the signs of a chain require of their tokens
  abbrev pub IsLink : Sign → (left at : ℕ) → Type 0
  IsLink g.Comma left at = is_void tables left ≡ false
  IsLink g.AndAnd left at = IsWhole at
  IsLink g.OrOr left at = IsWhole at
  IsLink sign left at = ⊤

  -- the constant expressions: numbers, `sizeof`, casts and signs
  abbrev mutual
    pub IsConstant : Tree → Type 0
    IsConstant (t.Number spot value unsigned) = value < 2 ^ 32
    IsConstant (t.Sizeof spot type) = (note tables spot.at).binding < 2 ^ 32
    IsConstant (t.Prefix spot sign operand) = StandsInConstants sign × IsConstant operand
    IsConstant (t.Cast spot type operand) = IsConstant operand
    IsConstant (t.Chain first links) = IsConstant first × AreConstant (token first) links
    IsConstant (t.Choose spot condition first second) = IsWhole spot.at × IsConstant condition
        × IsConstant first × IsConstant second
    IsConstant tree = ⊥

    pub AreConstant : (left : ℕ) → Links → Type 0
    AreConstant left t.no_links = ⊤
    AreConstant left (t.link spot sign right others) = IsLink sign left spot.at × IsConstant right
        × AreConstant spot.at others

-- the operations of a constant push its value, whatever operations follow
abbrev pub LeavesItsWorth : Type 0
LeavesItsWorth = (tables : Tables) (functions : (binding : ℕ) → Signature) (set : Setting)
    (p : Processor) (constant : Tree) (rest : Coded)
    → IsConstant tables constant
    → behind set (value tables functions constant rest) p
    ≡ behind set rest (push (worth tables constant) p)
