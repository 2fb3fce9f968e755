-- How far a processor follows: some operations on, from code that stands behind what a text has.
use Rattle.std.proofs.Common.{◌≡◌, ℕ, Bool, true, false, true≢false, List, ◌∷◌, ◌++◌, Option, Some, None, ap₂, sym, refl, subst}
use Rattle.fk_meaning_operation.specs.declared.operation.Operation.{Operation}
use Rattle.fk_meaning_operation.specs.declared.operation.Operation.TheVariants as o
use Rattle.fk_meaning_operation.specs.declared.operation.SplitKind.{SplitKind}
use Rattle.fk_meaning_operation.specs.declared.operation.SplitKind.TheVariants as s
use Rattle.fk_meaning.specs.Round.{Step}
use Rattle.fk_meaning_forms.specs.Code.{Code}
use Rattle.fk_meaning.specs.Next.{Work, next}
use Rattle.fk_meaning.specs.Behind.{outs, GoesOn}
use Rattle.fk_meaning.specs.Shape.{is_performed, closes, ends_part}
use Rattle.fk_meaning.proofs.Spine.{untrue}
use Rattle.fk_lockstep.specs.InStep.{is_agree, may_stand}
use Rattle.fk_lockstep.specs.Course.{Context, InGroup, Waits, ByItself, Parts, Does}
use Rattle.fk_lockstep_structure.specs.Placed.{Who, OfGroup, OfBody, OfMain, may_perform}
use Rattle.fk_lockstep_structure.specs.Ahead.{starts, all_outs}

-- the context of code of a text
abbrev pub context_of : Who → (agreed within : Bool) → Context
context_of OfGroup agreed within = InGroup agreed
context_of OfBody agreed within = ByItself within
context_of (OfMain outermost) agreed within = ByItself false

pub joined : (ws xs ys zs : List Work) → ws ≡ ys → xs ≡ zs → ws ++ xs ≡ ys ++ zs
joined ws xs ys zs e f = ap₂ (λ (a b : List Work). a ++ b) e f

-- how an operation goes on, of which is known how it does
abbrev pub Goes : (here : Work) → Option (Step Work) → Type 0
Goes here None = Unit {0}
Goes here (Some u) = GoesOn u.operation here (outs here) u.rest

module _ (P : Context → Work → Type 0) (bodies : ℕ → Code ℕ) where
  abbrev D : Context → Operation → (here : Work) → (rest : Bool → Work) → Type 0
  D = Does (next bodies) all_outs P

  -- an operation of its own
  pub performed : (who : Who) (agreed within : Bool) (op : Operation) (here w : Work) → may_perform false op ≡ true → is_performed op ≡ true → closes op ≡ false
      → (ends_part op ≡ true → who ≡ OfGroup) → (who ≡ OfGroup → may_stand agreed op ≡ true)
      → GoesOn op here (outs here) (λ onward. w) → starts w ≡ starts here → (ends_part op ≡ false → P (context_of who (is_agree op) within) w)
      → D (context_of who agreed within) op here (λ onward. w)
  performed OfGroup agreed within o.Resume here w may is closing part stands go even f = untrue may
  performed OfGroup agreed within o.Halt here w may is closing part stands go even f = untrue may
  performed OfGroup agreed within (o.Split by) here w may is closing part stands go even f = untrue is
  performed OfGroup agreed within o.Shrink here w may is closing part stands go even f = untrue is
  performed OfGroup agreed within o.Farm here w may is closing part stands go even f = untrue is
  performed OfGroup agreed within o.Seq here w may is closing part stands go even f = untrue is
  performed OfGroup agreed within o.Begin here w may is closing part stands go even f = untrue is
  performed OfGroup agreed within (o.Meet true) here w may is closing part stands go even f = absurd (true≢false closing)
  performed OfGroup agreed within o.End here w may is closing part stands go even f =
      joined (outs here) (starts here) (w ∷ outs w) (starts w) go (sym even)
  performed OfGroup agreed within (o.Branch on) here w may is closing part stands go even f =
      (stands refl, λ onward. (joined (outs w) (starts w) (outs here) (starts here) (go onward) even, f refl))
  performed OfGroup agreed within o.Block here w may is closing part stands go even f =
      (stands refl, λ onward. (joined (outs w) (starts w) (outs here) (starts here) (go onward) even, f refl))
  performed OfGroup agreed within op here w may is closing part stands go even f =
      λ onward. (joined (outs w) (starts w) (outs here) (starts here) (go onward) even, f refl)
  performed OfBody agreed within o.Resume here w may is closing part stands go even f = untrue may
  performed OfBody agreed within o.Halt here w may is closing part stands go even f = untrue may
  performed OfBody agreed within (o.Split by) here w may is closing part stands go even f = untrue is
  performed OfBody agreed within o.Shrink here w may is closing part stands go even f = untrue is
  performed OfBody agreed within o.Farm here w may is closing part stands go even f = untrue is
  performed OfBody agreed within o.Seq here w may is closing part stands go even f = untrue is
  performed OfBody agreed within o.Begin here w may is closing part stands go even f = untrue is
  performed OfBody agreed within (o.Meet true) here w may is closing part stands go even f = absurd (true≢false closing)
  performed OfBody agreed within o.End here w may is closing part stands go even f = absurd (cc (part refl))
  performed OfBody agreed true op here w may is closing part stands go even f =
      λ onward. (joined (outs w) (starts w) (outs here) (starts here) (go onward) even, f refl)
  performed OfBody agreed false op here w may is closing part stands go even f =
      λ onward. (joined (outs w) (starts w) (outs here) (starts here) (go onward) even, f refl)
  performed (OfMain b) agreed within o.Resume here w may is closing part stands go even f = untrue may
  performed (OfMain b) agreed within o.Halt here w may is closing part stands go even f = untrue may
  performed (OfMain b) agreed within (o.Split by) here w may is closing part stands go even f = untrue is
  performed (OfMain b) agreed within o.Shrink here w may is closing part stands go even f = untrue is
  performed (OfMain b) agreed within o.Farm here w may is closing part stands go even f = untrue is
  performed (OfMain b) agreed within o.Seq here w may is closing part stands go even f = untrue is
  performed (OfMain b) agreed within o.Begin here w may is closing part stands go even f = untrue is
  performed (OfMain b) agreed within (o.Meet true) here w may is closing part stands go even f = absurd (true≢false closing)
  performed (OfMain b) agreed within o.End here w may is closing part stands go even f = absurd (cc (part refl))
  performed (OfMain b) agreed within op here w may is closing part stands go even f =
      λ onward. (joined (outs w) (starts w) (outs here) (starts here) (go onward) even, f refl)

  -- a branch, or what leaves a loop
  pub branched : (who : Who) (agreed within on : Bool) (here : Work) (rest : Bool → Work) → (who ≡ OfGroup → agreed ≡ true)
      → ((onward : Bool) → outs (rest onward) ≡ outs here) → ((onward : Bool) → starts (rest onward) ≡ starts here)
      → ((onward : Bool) → P (context_of who false within) (rest onward))
      → D (context_of who agreed within) (o.Branch on) here rest
  branched OfGroup agreed within on here rest stands go even f =
      (stands refl, λ onward. (joined (outs (rest onward)) (starts (rest onward)) (outs here) (starts here) (go onward) (even onward), f onward))
  branched OfBody agreed true on here rest stands go even f =
      λ onward. (joined (outs (rest onward)) (starts (rest onward)) (outs here) (starts here) (go onward) (even onward), f onward)
  branched OfBody agreed false on here rest stands go even f =
      λ onward. (joined (outs (rest onward)) (starts (rest onward)) (outs here) (starts here) (go onward) (even onward), f onward)
  branched (OfMain b) agreed within on here rest stands go even f =
      λ onward. (joined (outs (rest onward)) (starts (rest onward)) (outs here) (starts here) (go onward) (even onward), f onward)

  -- parts of a group
  pub one_part : (split : SplitKind) → (split ≡ s.IfElse → ⊥) → (here : Work) (rest : Bool → Work) (outs_of_part : List Work)
      → outs_of_part ≡ rest false ∷ all_outs here → all_outs (rest false) ≡ all_outs here → P (Waits true) (rest false) → P (InGroup false) (rest true)
      → Parts (next bodies) all_outs P split here rest outs_of_part
  one_part s.IfElse a here rest xs e f p q = absurd (a refl)
  one_part split a here rest xs e f p q =
      subst (λ ys. Parts (next bodies) all_outs P split here rest ys) (sym e) (refl, f, p, q, refl)

  pub two_parts : (parent : Work) (here : Work) (rest : Bool → Work) (outs_of_part : List Work)
      → outs_of_part ≡ parent ∷ all_outs here → all_outs parent ≡ all_outs here → P (Waits true) parent → P (InGroup false) (rest true) → P (InGroup false) (rest false)
      → all_outs (rest false) ≡ parent ∷ all_outs here
      → Parts (next bodies) all_outs P s.IfElse here rest outs_of_part
  two_parts parent here rest xs e f p q r g =
      subst (λ ys. Parts (next bodies) all_outs P s.IfElse here rest ys) (sym e) (refl, f, p, q, r, g)
