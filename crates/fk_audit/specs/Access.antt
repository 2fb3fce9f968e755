-- What an instruction accesses.
use Rattle.std.specs.Prelude.{ℕ, Bool, true, false, ◌==◌, if◌then◌else◌, Option, Some, None}
use Rattle.fk_isa.specs.declared.instruction.Instruction.{Instruction}
use Rattle.fk_isa.specs.Step.{HartState, Outcome, After, step}
use Rattle.fk_isa.specs.Tells.{Tells, Gives, GoesOn}
use Rattle.fk_audit.specs.declared.access.Access.{Access}
use Rattle.fk_audit.specs.declared.access.AccessKind.{AccessKind}
use Rattle.fk_audit.specs.declared.access.AccessKind.TheVariants.{Read, Write}

abbrev pub is_kind : AccessKind → AccessKind → Bool
is_kind Read Read = true
is_kind Read Write = false
is_kind Write Read = false
is_kind Write Write = true

abbrev pub accesses : AccessKind → ℕ → Option Access
accesses kind a = Some (record { address = a; kind = kind })

-- A bus that notes what it is asked for. Loads and `lr.w` read. All others write, `sc.w` too,
-- whether it stores or not.
abbrev pub notes : Tells (Option Access)
notes = record {
  loads = λ noted number a size. Gives 0 (accesses Read a);
  stores = λ noted number a size v. Gives GoesOn (accesses Write a);
  atomics = λ noted number a what v.
      Gives 0 (if what == 0b00010 then accesses Read a else accesses Write a);
}

abbrev pub noted : Outcome (Option Access) → Option Access
noted (After effect h access) = access

-- The access of an instruction of a hart, if it has one: what its step asks of the bus.
abbrev pub access_of : Instruction → HartState → Option Access
access_of i h = noted (step notes 0 i h None)

-- The access of the instruction of a hart, if there is one.
abbrev pub access_by : Option Instruction → HartState → Option Access
access_by None h = None
access_by (Some i) h = access_of i h
