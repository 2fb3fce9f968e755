-- The value of a constant expression, which is the value that its operations leave.
use Rattle.std.specs.Prelude.{ℕ, ◌+◌, ◌*◌, ◌^◌, ◌-◌, ◌==◌, ◌||◌, not, List, [], if◌then◌else◌}
use Rattle.std.specs.Int.{from_bool}
use Rattle.fk_num.specs.Word.{word}
use Rattle.fk_num.specs.Op.{applied}
use Rattle.fk_num.specs.declared.operator.Op.TheVariants.{Sub, Xor, Eq}
use Rattle.fk_meaning_operation.specs.declared.operation.Operation.{Operation}
use Rattle.fk_meaning_operation.specs.declared.operation.Operation.TheVariants as o
use Rattle.fk_syntax.specs.declared.facts.Note.{Note}
use Rattle.fk_syntax.specs.declared.facts.Kind.{Kind}
use Rattle.fk_syntax.specs.declared.sign.Sign.{Sign}
use Rattle.fk_syntax.specs.declared.sign.Sign.TheVariants as g
use Rattle.fk_syntax.specs.Tree as t
use Rattle.fk_syntax.specs.Tree.{Tree, Links}
use Rattle.fk_meaning_forms.specs.declared.signs.Move.{Move}
use Rattle.fk_meaning_forms.specs.declared.signs.Move.TheVariants.{Forth, Back, NoMove}
use Rattle.fk_meaning_forms.specs.Tables.{Tables, note, kind_at, is_unsigned}
use Rattle.fk_meaning_forms.specs.Signs.{operator_of, is_shift, move_of}
use Rattle.fk_meaning_forms.specs.Expressions.{token}

-- the tables of a program that has only notes and types
abbrev pub told : List Note → List Kind → Tables
told notes kinds = record { notes = notes; kinds = kinds; slots = []; regions = [] }

-- signs in front of a value; those that don't occur in constants give 0
abbrev pub behind_sign : Sign → ℕ → ℕ
behind_sign g.Minus v = applied Sub 0 v
behind_sign g.Plus v = v
behind_sign g.Exclamation v = applied Eq v 0
behind_sign g.Tilde v = applied Xor v (2 ^ 32 - 1)
behind_sign sign v = 0

-- an operator on two words, which are swapped if `turned`
abbrev pub joined : Operation → (a b : ℕ) → ℕ
joined (o.Binary op turned) a b = if turned then applied op b a else applied op a b
joined operation a b = 0

-- a pointer moved forth or back by `b` steps; `NoMove` is the operator on two words
abbrev pub moved : Move → (step : ℕ) → Operation → (a b : ℕ) → ℕ
moved Forth step op a b = word (a + b * step)
moved Back step op a b = word (a + applied Sub 0 b * step)
moved NoMove step op a b = joined op a b

module _ (tables : Tables) where
  -- an operator between two values, chosen by the types of their tokens
  abbrev pub operated : Sign → (left right : ℕ) → (a b : ℕ) → ℕ
  operated sign left right a b =
      let unsigned = if is_shift sign then is_unsigned tables left
      else is_unsigned tables left || is_unsigned tables right in
      let step = (kind_at tables left).step in
      if step == 0 then joined (operator_of sign unsigned) a b
      else moved (move_of sign) step (operator_of sign unsigned) a b

  -- signs between two values; `&&` and `||` give 0 or 1
  abbrev pub linked_by : Sign → (left right : ℕ) → (a b : ℕ) → ℕ
  linked_by g.Comma left right a b = b
  linked_by g.AndAnd left right a b = if a == 0 then 0 else from_bool (not (b == 0))
  linked_by g.OrOr left right a b = if a == 0 then from_bool (not (b == 0)) else 1
  linked_by sign left right a b = operated sign left right a b

  -- numbers, `sizeof`, casts and signs. Other forms don't occur in constants, and count as 0
  abbrev mutual
    pub worth : Tree → ℕ
    worth (t.Number spot value unsigned) = value
    worth (t.Sizeof spot type) = (note tables spot.at).binding
    worth (t.Prefix spot sign operand) = behind_sign sign (worth operand)
    worth (t.Cast spot type operand) = worth operand
    worth (t.Chain first links) = worth_of_links (worth first) (token first) links
    worth (t.Choose spot condition first second) = if worth condition == 0 then worth second
        else worth first
    worth tree = 0

    pub worth_of_links : (so_far : ℕ) → (left : ℕ) → Links → ℕ
    worth_of_links a left t.no_links = a
    worth_of_links a left (t.link spot sign right others) =
        worth_of_links (linked_by sign left (token right) a (worth right)) spot.at others
