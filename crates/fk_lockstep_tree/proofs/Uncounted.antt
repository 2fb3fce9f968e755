-- Where no `fork` occurs, no number of parts is agreed on.
use Rattle.std.proofs.Common.{◌≡◌, ◌≢◌, ℕ, zero, suc, Bool, true, false, List, [], ◌∷◌, length, Option, Some, None, refl}
use Rattle.std.proofs.lemmas.Bool.{false≢true}
use Rattle.fk_meaning_operation.specs.Kinds.{class_of}
use Rattle.fk_meaning_operation.specs.declared.kinds.Class.{Class}
use Rattle.fk_meaning_operation.specs.declared.kinds.Class.TheVariants as class
use Rattle.fk_meaning_operation.specs.declared.operation.Operation.{Operation}
use Rattle.fk_meaning_operation.specs.declared.operation.Operation.TheVariants as o
use Rattle.fk_meaning_operation.specs.declared.operation.SplitKind.TheVariants.{IfElse, Fork}
use Rattle.fk_meaning.specs.Round.{Step}
use Rattle.fk_lockstep.specs.Counts.{Counts, AsMany, Leaves, CountsGoOn, CountedNext, CountedFor}

abbrev is_nil : List ℕ → Bool
is_nil [] = true
is_nil (n ∷ ns) = false

pub nil_length : (ns : List ℕ) → is_nil ns ≡ true → length ns ≡ 0
nil_length [] e = refl
nil_length (n ∷ ns) e = absurd (false≢true e)

abbrev pub no_counts : (W : Type 0) → Counts W
no_counts W = record { pending = λ work. 0; are_pending = λ work p ns. is_nil ns; many = λ work p ns e. nil_length ns e }

module _ {W : Type 0} (next : W → Option (Step W)) (outs : W → List W) where
  as_many : (met : List W) → AsMany next outs (no_counts W) 0 met
  as_many [] = tt
  as_many (m ∷ met) = refl

  leaves_by : (c : Class) (op : Operation) (here : W) (rest : Bool → W) → Leaves next outs (no_counts W) c op here rest
  leaves_by class.Local op here rest = λ set onward p ns h. h
  leaves_by class.Request op here rest = λ answer p ns h. h
  leaves_by class.Tree op here rest = λ highest lowest size p ns h. h

  counts_go : (op : Operation) (here : W) (rest : Bool → W) → op ≢ o.Split Fork → CountsGoOn next outs (no_counts W) op here rest
  counts_go o.Agree here rest other = λ value p ns h. h
  counts_go (o.Split Fork) here rest other = absurd (other refl)
  counts_go (o.Split IfElse) here rest other = ((λ size into p ns h. h), as_many (outs (rest true)))
  counts_go (o.Split by) here rest other = ((λ size into p ns h. h), tt)
  counts_go o.Farm here rest other = (leaves_by class.Tree o.Farm here rest, as_many (outs (rest true)))
  counts_go o.Begin here rest other = (leaves_by class.Tree o.Begin here rest, refl)
  counts_go op here rest other = leaves_by (class_of op) op here rest

  module _ (never : (work : W) (step : Step W) → next work ≡ Some step → step.operation ≢ o.Split Fork) where
    pub uncounted : (n : ℕ) (work : W) → CountedFor next outs (no_counts W) n work
    uncounted zero work = tt
    uncounted (suc n) work = by (λ w. uncounted n w) (next work) refl
      where
        by : ((w : W) → CountedFor next outs (no_counts W) n w) → (due : Option (Step W)) → next work ≡ due → CountedNext next outs (no_counts W) (CountedFor next outs (no_counts W) n) work due
        by more None e = tt
        by more (Some step) e = (counts_go step.operation work step.rest (never work step e), λ onward. more (step.rest onward))
