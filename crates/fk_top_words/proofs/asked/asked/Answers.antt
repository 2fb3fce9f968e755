use Rattle.std.proofs.Common.{◌≡◌, Option, Some, None, Result, IfOk, IfErr, IsNone, ok_or, refl, subst, sym}
use Rattle.std.specs.Prelude.{IfSome}
use Rattle.fk_top_words.specs.declared.command.CommandWords.{CommandWords}
use Rattle.fk_top_words.specs.declared.fault.WordsFault.{WordsFault}
use Rattle.fk_top_words.proofs.asked.asked.Goals as goal

if_some : (o : Option CommandWords) (r : Result CommandWords WordsFault) (fault : WordsFault) (P : CommandWords → Type 0) → r ≡ ok_or o fault → IfSome o P → IfOk r P
if_some (Some x) r fault P is h = subst (λ (r : Result CommandWords WordsFault). IfOk r P) (sym is) h
if_some None r fault P is h = subst (λ (r : Result CommandWords WordsFault). IfOk r P) (sym is) tt

if_none : (o : Option CommandWords) (r : Result CommandWords WordsFault) (fault : WordsFault) (P : WordsFault → Type 0) → r ≡ ok_or o fault → (IsNone o → P fault) → IfErr r P
if_none (Some x) r fault P is h = subst (λ (r : Result CommandWords WordsFault). IfErr r P) (sym is) tt
if_none None r fault P is h = subst (λ (r : Result CommandWords WordsFault). IfErr r P) (sym is) (h refl)

pub returns-clause-some : goal.returns-clause-some
returns-clause-some c = if_some c.asked_by.result c.ok_or.result _ _ c.ok_or.ensures.value c.asked_by.ensures.some

pub returns-clause-none : goal.returns-clause-none
returns-clause-none c = if_none c.asked_by.result c.ok_or.result _ _ c.ok_or.ensures.value c.asked_by.ensures.none

pub returns-clause-fault : goal.returns-clause-fault
returns-clause-fault c = if_none c.asked_by.result c.ok_or.result _ _ c.ok_or.ensures.value (λ _. refl)
