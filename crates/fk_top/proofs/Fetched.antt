-- Two files that are read one after the other.
use Rattle.std.proofs.Common.{◌≡◌, ℕ, List, Option, Result, Ok, Err, sym, subst, ◌∙◌}
use Rattle.std.specs.Prelude.{IsErrAnd, IsErrOf}
use Rattle.fk_ports.specs.Files.{Files}
use Rattle.fk_ports.specs.declared.faults.StoreFault.{StoreFault}
use Rattle.fk_top.specs.Call.{AreRead, OriginFaults}
use Rattle.fk_top.specs.Words.{Origin}

-- a fault that is passed on
pub passed : {A : Type 0} (r : Result A StoreFault) (fault other : StoreFault) → IsErrAnd r (λ z. z ≡ fault) → IsErrOf r other → fault ≡ other
passed (Ok a) fault other same is = absurd (cc)
passed (Err z) fault other same is = let e : z ≡ other = cc in sym same ∙ e

-- what was read or not of the store as it was
pub faulted : (known other : Option Files) (origin here : Origin) (before first after : ℕ) → known ≡ other → origin ≡ here → before ≡ first → OriginFaults known origin (record { before = before; after = after })
    → OriginFaults other here (record { before = first; after = after })
faulted known other origin here before first after files same count fault =
    subst (λ (n : ℕ). OriginFaults other here (record { before = n; after = after })) count
    (subst (λ (o : Origin). OriginFaults other o (record { before = before; after = after })) same
    (subst (λ (k : Option Files). OriginFaults k origin (record { before = before; after = after })) files fault))

pub read_of : (known other : Option Files) (origin here : Origin) (bytes : List ℕ) → known ≡ other → origin ≡ here → AreRead known origin bytes → AreRead other here bytes
read_of known other origin here bytes files same are =
    subst (λ (o : Origin). AreRead other o bytes) same (subst (λ (k : Option Files). AreRead k origin bytes) files are)
