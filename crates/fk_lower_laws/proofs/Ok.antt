-- Code of places that names words that are there, whichever numbers it gets.
use Rattle.std.proofs.Common.{◌≡◌, ℕ, suc, ◌+◌, ◌<◌, ◌≤◌, Bool, true, false, true≢false, sym}
use Rattle.fk_syntax.specs.declared.place.Place.{Place}
use Rattle.fk_meaning_operation.specs.declared.operation.Operation.{Operation}
use Rattle.fk_meaning_operation.specs.declared.operation.Operation.TheVariants as o
use Rattle.fk_meaning_operation.specs.declared.operation.Variable.{Variable}
use Rattle.fk_meaning_operation.specs.declared.operation.Variable.TheVariants as v
use Rattle.fk_meaning_operation.specs.declared.operation.OwnValue.TheVariants as n
use Rattle.fk_layout_sizes.specs.Operations.{takes}
use Rattle.fk_meaning_forms.specs.Code.{done, perform, choose, while, until, quit, break, continue, call, ends, size, numbered}
use Rattle.fk_meaning_forms.specs.Expressions.{Coded}
use Rattle.fk_lower_laws.specs.Rooms.{HasWord, Opens, HasWords}

-- it names no variable and no word of a frame
abbrev pub names_none : Operation → Bool
names_none (o.Get (n.Value variable)) = false
names_none (o.Get (n.FrameAddress nesting word)) = false
names_none (o.Set variable) = false
names_none (o.Frame nesting frame) = false
names_none op = true

module _ (firsts words : ℕ) where
  pub freely : (op : Operation) → names_none op ≡ true → HasWord firsts words op
  freely (o.Get (n.Value variable)) e = absurd (true≢false (sym e))
  freely (o.Get (n.FrameAddress nesting word)) e = absurd (true≢false (sym e))
  freely (o.Set variable) e = absurd (true≢false (sym e))
  freely (o.Frame nesting frame) e = absurd (true≢false (sym e))
  freely op e = tt

  -- a variable has its word
  abbrev pub HasItsWord : Variable → Type 0
  HasItsWord (v.Private i) = i < words
  HasItsWord (v.OfFile i) = i < firsts

  pub gets : (variable : Variable) → HasItsWord variable → HasWord firsts words (o.Get (n.Value variable))
  gets (v.Private i) h = h
  gets (v.OfFile i) h = h

  pub sets : (variable : Variable) → HasItsWord variable → HasWord firsts words (o.Set variable)
  sets (v.Private i) h = h
  sets (v.OfFile i) h = h

-- the private words and the values of all functions, and the words of one
pub record Ok (firsts : ℕ) (all most : ℕ → ℕ) (words : ℕ) (code : Coded) : Type 0 where
  pub names : (n : ℕ) → HasWords firsts all most words (numbered n code)

module _ {firsts : ℕ} {all most : ℕ → ℕ} {words : ℕ} where
  pub ended : Ok firsts all most words done
  ended = record { names = λ n. tt }

  pub on : {tag : Place} {op : Operation} {rest : Coded} → HasWord firsts words op → Ok firsts all most words rest → Ok firsts all most words (perform tag op rest)
  on there p = record { names = λ n. (there, p.names (suc n)) }

  pub branch : {tag : Place} {op : Operation} {x z rest : Coded} → HasWord firsts words op → Ok firsts all most words x → Ok firsts all most words z → Ok firsts all most words rest
      → Ok firsts all most words (choose tag op x z rest)
  branch {x = x} {z = z} there p q r = record {
    names = λ n. (there, p.names (suc n), q.names (suc n + size x), r.names (suc n + size x + size z));
  }

  pub looped : {test body step rest : Coded} → Ok firsts all most words test → Ok firsts all most words body → Ok firsts all most words step → Ok firsts all most words rest
      → Ok firsts all most words (while test body step rest)
  looped {test = test} {body = body} {step = step} p q r rest = record {
    names = λ n. (p.names n, q.names (n + size test), r.names (n + size test + size body), rest.names (n + size test + size body + size step));
  }

  pub looped_first : {body test rest : Coded} → Ok firsts all most words body → Ok firsts all most words test → Ok firsts all most words rest → Ok firsts all most words (until body test rest)
  looped_first {body = body} {test = test} p q rest = record {
    names = λ n. (p.names n, q.names (n + size body), rest.names (n + size body + size test));
  }

  pub quits : {tag : Place} {op : Operation} → HasWord firsts words op → Ok firsts all most words (quit tag op done)
  quits there = record { names = λ n. (there, tt) }

  pub broken : {rest : Coded} → Ok firsts all most words rest → Ok firsts all most words (break rest)
  broken p = record { names = λ n. p.names n }

  pub continued : {rest : Coded} → Ok firsts all most words rest → Ok firsts all most words (continue rest)
  continued p = record { names = λ n. p.names n }

  pub left : {tag : Place} {op : Operation} {rest : Coded} → HasWord firsts words op → Ok firsts all most words rest → Ok firsts all most words (ends tag op rest)
  left there p = record { names = λ n. (there, p.names (suc n)) }

  pub enters : {tag : Place} {op : Operation} {f : ℕ} {opening rest : Coded} → ((n : ℕ) → Opens firsts (all f) (most f) 0 (numbered n opening)) → takes op ≤ 56
      → Ok firsts all most words rest → Ok firsts all most words (call tag op f opening rest)
  enters {opening = opening} opens few p = record { names = λ n. (opens (suc n), few, p.names (suc n + size opening)) }
