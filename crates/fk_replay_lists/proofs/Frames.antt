-- A call that ends can give back its frames.
use Rattle.std.proofs.Common.{◌≡◌, ℕ, zero, suc, ◌+◌, ◌≤◌, Bool, true, false, true≢false, List, ◌∷◌, ◌++◌, length, slice_get, Option, Some, None, is_some, refl, sym, ap, ◌∙◌, subst, arith}
use Rattle.fk_meaning_operation.specs.declared.operation.Operation.{Operation}
use Rattle.fk_meaning_operation.specs.declared.operation.Operation.TheVariants as o
use Rattle.fk_meaning.specs.Processor.{Processor, Setting}
use Rattle.fk_meaning.specs.Round.{Step, Runner}
use Rattle.fk_core.specs.declared.op.CoreOp.{CoreOp}
use Rattle.fk_core.specs.Next.{Position, is_jump, through, led_by, landing_by, landing}
use Rattle.fk_lockstep_frames.specs.Nests.{Nest, OfFunction, taken}
use Rattle.fk_lockstep_frames.specs.Taken.{HasNests}
use Rattle.fk_lockstep_frames.specs.Lists.{nests_of, GoesOn, HasLocalFrames, HasToldFrames}
use Rattle.fk_lockstep_frames.proofs.Found.{Found}
use Rattle.fk_replay_steps.specs.Steps.{CanGiveBack, GivesBack}

-- a frame that is given back was the last one that was taken
gives : (words : ℕ) (more : List Nest) (p : Processor) → HasNests (OfFunction (Some words) ∷ more) p → CanGiveBack p
gives words more p has =
    let taken_here = has.spaces.0 in
    let s = p.level.space in
    let space = taken_here.space in
    let frames : s.frames ≡ s.low + 8 + (taken more + words) = taken_here.frames in
    let begins : p.call.frames 0 ≡ s.low + 8 + taken more = has.frames.0 in
    let first = p.call.frames 0 in
    let ordered : s.frames ≤ s.blocks = space.ordered in
    record {
      header = (let goal : s.low + 8 ≤ first = omega (arith, begins) in goal);
      ordered = (let goal : first ≤ s.blocks = omega (arith, begins, frames, ordered) in goal);
      within = space.within;
      shared = space.shared;
    }

-- one that was taken, as the function tells
gives_by : (frame : Option ℕ) (more : List Nest) (p : Processor) → is_some frame ≡ true → HasNests (OfFunction frame ∷ more) p → CanGiveBack p
gives_by None more p is has = absurd (true≢false (sym is))
gives_by (Some words) more p is has = gives words more p has

module _ (core : List CoreOp) (main : ℕ) (local : HasLocalFrames core main) where
  -- jumps lead to where the nests are the same
  same_by : (jumps i : ℕ) → local.nests (landing_by core jumps i) ≡ local.nests i
  same_by zero i = refl
  same_by (suc jumps) i = by (λ j. same_by jumps j) (slice_get core i) refl
    where
      jump : ((j : ℕ) → local.nests (landing_by core jumps j) ≡ local.nests j) → (op : CoreOp) → slice_get core i ≡ Some op → (b : Bool) → is_jump op ≡ b
          → local.nests (through b (landing_by core jumps) i op.target) ≡ local.nests i
      jump more op is true e = let leads = local.jumps i op is e in more op.target ∙ leads.nested
      jump more op is false e = refl

      by : ((j : ℕ) → local.nests (landing_by core jumps j) ≡ local.nests j) → (slot : Option CoreOp) → slice_get core i ≡ slot
          → local.nests (led_by slot (landing_by core jumps) i) ≡ local.nests i
      by more None is = refl
      by more (Some op) is = jump more op is (is_jump op) refl

  same_nests : (i : ℕ) → local.nests (landing core i) ≡ local.nests i
  same_nests i = same_by (length core) i

  leaves : (set : Setting) (r : Runner Position) (i target : ℕ) (operation : Operation) → landing core r.left.at ≡ i
      → HasToldFrames core main local set r → GoesOn core local.in_main local.nests operation i target → GivesBack operation r.has
  leaves set r i target (o.Leave gives' true) at has goes =
      let nests_are = sym (same_nests r.left.at) ∙ ap local.nests at ∙ goes.nested in
      gives_by goes.frame (nests_of core local.in_main local.nests r.left.callers) r.has goes.gives_back
      (subst (λ (ns : List Nest). HasNests (ns ++ nests_of core local.in_main local.nests r.left.callers) r.has) nests_are has.nests)
  leaves set r i target (o.Leave gives' false) at has goes = tt
  leaves set r i target operation at has goes = tt

  pub gives_back : (set : Setting) (r : Runner Position) (step : Step Position) → Found core r.left step → HasToldFrames core main local set r
      → GivesBack step.operation r.has
  gives_back set r step x has =
      let i = landing core r.left.at in
      let fits = local.fits i x.op x.operation x.stands x.reads in
      subst (λ (s : Step Position). GivesBack s.operation r.has) (sym x.is) (leaves set r i x.op.target x.operation refl has fits.goes_on)
