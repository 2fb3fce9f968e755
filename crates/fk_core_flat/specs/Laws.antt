-- Laws of flat lists.
use Rattle.std.specs.Prelude.{◌≡◌, ℕ, ◌+◌, ◌<◌, ◌≤◌, ◌⊎◌, Bool, true, false, List, length}
use Rattle.std.specs.Prelude.{slice_get, Some, None}
use Rattle.fk_syntax.specs.Program.{ProgramTree}
use Rattle.fk_meaning_forms.specs.Code.{Code, sites, numbered}
use Rattle.fk_meaning_forms.specs.Ranks.{ranked}
use Rattle.fk_meaning_forms.specs.Tables.{Tables}
use Rattle.fk_meaning_forms.specs.Program.{bodies_of}
use Rattle.fk_core.specs.declared.op.CoreOp.{CoreOp}
use Rattle.fk_core.specs.Next.{is_jump}
use Rattle.fk_core.specs.CodeAt.{Around}
use Rattle.fk_core.specs.WellFormed.{IsOperation}
use Rattle.fk_core.specs.KeepsRuns.{HasCodeOf}
use Rattle.fk_core_flat.specs.Items.{Has, acts, jumps, calls}
use Rattle.fk_core_flat.specs.Flat.{extent, label, flat}
use Rattle.fk_core_flat.specs.Shape.{is_done, is_closed, IsShaped}

-- The code of all functions. A function has no code, or its code ends at an operation that ends the
-- function.
abbrev pub AreShaped : (bodies : (binding : ℕ) → Code ℕ) → Type 0
AreShaped bodies =
    (binding : ℕ)
    → IsShaped (λ function. is_closed (bodies function)) false (bodies binding)
    × ((is_done (bodies binding) ≡ true) ⊎ (is_closed (bodies binding) ≡ true))

-- A list that has the code of each function at a place of its own, and nothing else. The entry of a
-- function is the index where its code begins. That of a function without code is the end of the
-- list.
pub record IsFlat (bodies : (binding : ℕ) → Code ℕ) (core : List CoreOp)
    (entry : ℕ → ℕ) : Type 0 where
  pub place : (binding : ℕ) → ℕ
  pub has : (binding : ℕ) → Has core (place binding)
      (flat entry false None (place binding) (length core) (bodies binding))
  pub begins : (binding : ℕ)
      → entry binding ≡ label None (place binding) (length core) (bodies binding)
  pub covers :
      (i : ℕ) → i < length core
      → (binding : ℕ) × (place binding ≤ i) × (i < place binding + extent false (bodies binding))

-- A flat list of a program's functions has the code of the program.
abbrev pub FlatListsHaveCode : Type 0
FlatListsHaveCode =
    (tables : Tables) (program : ProgramTree) (core : List CoreOp) (entry : ℕ → ℕ)
    → AreShaped (bodies_of tables program)
    → IsFlat (bodies_of tables program) core entry
    → HasCodeOf tables program core entry

-- No jump leads to a jump.
abbrev pub JumpsLeadToOperations : Type 0
JumpsLeadToOperations =
    (bodies : (binding : ℕ) → Code ℕ) (core : List CoreOp) (entry : ℕ → ℕ)
    → AreShaped bodies → IsFlat bodies core entry
    → (i : ℕ) (op : CoreOp) → slice_get core i ≡ Some op → is_jump op ≡ true
    → IsOperation core op.target

-- The sites of the operations in the list of numbered code are their ranks: 0, 1, 2 and so on from
-- the first number on, each once and in this order. They are the operations of the code.
abbrev pub SitesGoUp : (A : Type 0) → Type 0
SitesGoUp A =
    (code : Code A) (first : ℕ) (has_body : ℕ → Bool) (in_loop : Bool)
    → IsShaped has_body in_loop (numbered first code)
    → (entry : ℕ → ℕ) (near : Bool) (around : Around) (i k : ℕ)
    → acts (flat entry near around i k (numbered first code)) ≡ ranked first (sites code)

-- Each operation has one jump at most after it, and a call has one more, to its function.
abbrev pub JumpsAreFew : Type 0
JumpsAreFew =
    (code : Code ℕ) (has_body : ℕ → Bool) (in_loop : Bool) → IsShaped has_body in_loop code
    → (entry : ℕ → ℕ) (near : Bool) (around : Around) (i k : ℕ)
    → let items = flat entry near around i k code in jumps items ≤ length (acts items) + calls items
