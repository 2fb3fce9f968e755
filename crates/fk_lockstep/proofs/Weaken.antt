-- What is in step before an agree is so behind one, and an operation may stand there too.
use Rattle.std.proofs.Common.{◌≡◌, ℕ, Bool, true, false, true≢false, sym, refl}
use Rattle.fk_meaning_operation.specs.declared.operation.Operation.{Operation}
use Rattle.fk_meaning_operation.specs.declared.operation.Operation.TheVariants as o
use Rattle.fk_meaning_forms.specs.Code.{Code, done, perform, choose, while, until, turn, again, quit, break, continue, call, ends}
use Rattle.fk_lockstep.specs.InStep.{may_stand, Unless, InStep, Runs}

pub untrue : {A : Type 0} → false ≡ true → A
untrue e = absurd (true≢false (sym e))

pub may_stand_anyway : (agreed : Bool) (op : Operation) → may_stand false op ≡ true → may_stand agreed op ≡ true
may_stand_anyway agreed (o.Branch onward) e = untrue e
may_stand_anyway agreed o.Block e = untrue e
may_stand_anyway agreed op e = refl

-- a claim that holds where it is not left out
pub given : (b : Bool) (claim : Type 0) → claim → Unless b claim
given true claim h = tt
given false claim h = h

pub taken : (b : Bool) (claim : Type 0) → b ≡ false → Unless b claim → claim
taken true claim e h = absurd (true≢false e)
taken false claim e h = h

pub mapped : (b : Bool) (claim other : Type 0) → (claim → other) → Unless b claim → Unless b other
mapped true claim other f h = tt
mapped false claim other f h = f h

module _ {A : Type 0} (may_call : ℕ → Bool) where
  pub weaken : (agreed : Bool) (code : Code A) → InStep may_call false code → InStep may_call agreed code
  weaken agreed done h = tt
  weaken agreed (perform t op rest) h = (may_stand_anyway agreed op h.0, h.1)
  weaken agreed (choose t op a b rest) h = (may_stand_anyway agreed op h.0, h.1, h.2, h.3)
  weaken agreed (while test body step rest) h = h
  weaken agreed (until body test rest) h = h
  weaken agreed (turn test body step rest) h = h
  weaken agreed (again test body step rest) h = h
  weaken agreed (quit t op rest) h = (may_stand_anyway agreed op h.0, h.1)
  weaken agreed (break rest) h = h
  weaken agreed (continue rest) h = h
  weaken agreed (call t op f opening rest) h = (may_stand_anyway agreed op h.0, h.1, h.2, h.3)
  weaken agreed (ends t op rest) h = (may_stand_anyway agreed op h.0, h.1)

  pub weaken_run : (agreed : Bool) (code : Code A) → Runs may_call false code → Runs may_call agreed code
  weaken_run agreed done h = tt
  weaken_run agreed (perform t op rest) h = (may_stand_anyway agreed op h.0, h.1)
  weaken_run agreed (choose t op a b rest) h = (may_stand_anyway agreed op h.0, h.1, h.2, h.3)
  weaken_run agreed (while test body step rest) h = h
  weaken_run agreed (until body test rest) h = h
  weaken_run agreed (turn test body step rest) h = h
  weaken_run agreed (again test body step rest) h = h
  weaken_run agreed (quit t op rest) h = (may_stand_anyway agreed op h.0, h.1)
  weaken_run agreed (break rest) h = tt
  weaken_run agreed (continue rest) h = tt
  weaken_run agreed (call t op f opening rest) h = (may_stand_anyway agreed op h.0, h.1, h.2, h.3)
  weaken_run agreed (ends t op rest) h = may_stand_anyway agreed op h
