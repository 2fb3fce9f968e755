-- Programs whose code leads each processor from place to place.
use Rattle.std.specs.Prelude.{◌≡◌, ℕ, Bool, true, false, [], None}
use Rattle.fk_meaning_forms.specs.Code.{Code}
use Rattle.fk_meaning.specs.Next.{going, next}
use Rattle.fk_core_flat.specs.Shape.{is_closed}
use Rattle.fk_core_flat.specs.Laws.{AreShaped}
use Rattle.fk_lockstep_tree.specs.Where.{InRoot, InGroup, InBody, Goes}
use Rattle.fk_lockstep_tree.specs.Leads.{Leads}

-- the functions of a program, and its `main`. A function with a body that may be called leads back
-- to the place where it is called. It ends before it comes to the end of its code
pub record AreLed (may_call : (in_group : Bool) → (function : ℕ) → Bool)
    (bodies : (binding : ℕ) → Code ℕ) (main : ℕ) : Type 0 where
  pub shaped : AreShaped bodies
  pub in_group : (depth function : ℕ) → is_closed (bodies function) ≡ true
      → may_call true function ≡ true
      → Leads may_call (InGroup depth) None (InGroup depth) (bodies function) (InGroup depth)
  pub in_root : (function : ℕ) → is_closed (bodies function) ≡ true → may_call false function ≡ true
      → Leads may_call InRoot None InRoot (bodies function) InRoot
  pub in_body : (depth function : ℕ) → is_closed (bodies function) ≡ true
      → may_call false function ≡ true
      → Leads may_call (InBody depth) None (InBody depth) (bodies function) (InBody depth)
  pub main_of : Leads may_call InRoot None InRoot (bodies main) InRoot

abbrev pub CodeGoes : Type 0
CodeGoes =
    (may_call : (in_group : Bool) → (function : ℕ) → Bool)
    (bodies : (binding : ℕ) → Code ℕ) (main : ℕ)
    → AreLed may_call bodies main
    → Goes (next bodies) InRoot (going (bodies main) [])
