-- A fault that isn't want of memory is that of the program.
use Rattle.std.proofs.Common.{◌≡◌, ◌≢◌, ◌⊎◌, ◌∙◌, ℕ, inl, inr, sym}
use Rattle.fk_syntax.specs.declared.place.Place.{Place}
use Rattle.fk_layout.specs.declared.sites.LayoutFault.{LayoutFault}
use Rattle.fk_layout.specs.declared.sites.LayoutFault.TheVariants as fault
use Rattle.fk_check_cases.proofs.rules.without_layout.Goals as goal

not_memory : (why : LayoutFault)
    → ((n : ℕ) × (why ≡ fault.TooManySites n)) ⊎ (((p : Place) × (n : ℕ) × (why ≡ fault.FrameTooLarge p n)) ⊎ ((n : ℕ) × (why ≡ fault.GlobalsTooLarge n)))
    → why ≢ fault.Memory
not_memory why (inl is) memory = let e : fault.TooManySites is.0 ≡ fault.Memory = sym is.1 ∙ memory in cc
not_memory why (inr (inl is)) memory = let e : fault.FrameTooLarge is.0 is.1 ≡ fault.Memory = sym is.2 ∙ memory in cc
not_memory why (inr (inr is)) memory = let e : fault.GlobalsTooLarge is.0 ≡ fault.Memory = sym is.1 ∙ memory in cc

pub returns-in-TooManySites : goal.returns-in-TooManySites
returns-in-TooManySites c = λ asked tokens asks. (
  asks,
  record { facts = c.args.facts.now; has = c.requires.facts; refused = c.requires.fault; told = not_memory c.args.fault c.in-TooManySites.is },
)
