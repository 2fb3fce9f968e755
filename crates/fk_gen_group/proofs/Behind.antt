-- A hart behind a block that leaves its memory and what it has of its processor stands where that goes on.
use Rattle.std.proofs.Common.{◌≡◌, ◌≢◌, ℕ, ◌*◌, ◌<◌, List, ◌∷◌, length, false, Option, Some, None, sym, ap, subst, ◌∙◌, arith, refl}
use Rattle.std.specs.Prelude.{IfSome}
use Rattle.fk_meaning_operation.specs.declared.operation.Operation.{Operation}
use Rattle.fk_meaning.specs.Processor.{Setting, values}
use Rattle.fk_core.specs.declared.op.CoreOp.{CoreOp}
use Rattle.fk_image.specs.declared.Image.{Image}
use Rattle.fk_machine.specs.Hart.{Hart, Setting as MachineSetting}
use Rattle.fk_sim_nodes.specs.Node.{Member}
use Rattle.fk_sim_block.specs.Owner.{Owner, number_of}
use Rattle.fk_sim_block.specs.Stands.{Places, HasValues, StandsAt, top_register, value_in, zero_register, group_frame_register}
use Rattle.fk_sim_block.specs.Suits.{Flows, nothing}
use Rattle.fk_sim_block.specs.Block.{Enters, gone_to}
use Rattle.fk_gen.proofs.Standing.{InMemory, SameRegisters, in_memory, stands_with, with_list, nothing_written}
use Rattle.fk_sim_block.specs.Node.{Nestings, HasOuter, HasNestings}
use Rattle.fk_sim_block.specs.Lockstep.{IsMember, LevelsStay}
use Rattle.fk_gen_group.specs.Laws.{IsInPlace}
use Rattle.fk_gen_group.proofs.Levels.{below_values, lies_below, outer_on, many_callers}

-- a hart that has local memory and all registers of another but t0, t1 and t2
pub record KeepsMost (first h : Hart) : Type 0 where
  pub live : h.ended ≡ false
  pub local : h.local ≡ first.local
  pub others : (r : ℕ) → r ≢ 5 → r ≢ 6 → r ≢ 7 → h.registers r ≡ first.registers r

pub kept : (first h : Hart) (r : ℕ) → KeepsMost first h → 7 < r → h.registers r ≡ first.registers r
kept first h r k lt = k.others r (λ e. omega arith) (λ e. omega arith) (λ e. omega arith)

pub same_registers : (first h : Hart) → KeepsMost first h → SameRegisters first h
same_registers first h k = (
  k.others zero_register (λ e. omega arith) (λ e. omega arith) (λ e. omega arith),
  kept first h 8 k (omega arith),
  kept first h 9 k (omega arith),
  kept first h 18 k (omega arith),
  kept first h 19 k (omega arith),
  kept first h 20 k (omega arith),
  kept first h 22 k (omega arith),
  kept first h 23 k (omega arith),
  kept first h 24 k (omega arith),
  kept first h 25 k (omega arith),
  kept first h 26 k (omega arith),
  kept first h 27 k (omega arith),
  kept first h 14 k (omega arith),
)

-- what the register of a body tells
pub body_kept : (runs : Option ℕ) (a b : ℕ) → b ≡ a → IfSome runs (λ n. a ≡ n) → IfSome runs (λ n. b ≡ n)
body_kept None a b e x = tt
body_kept (Some n) a b e x = e ∙ x

module _ (core : List CoreOp) (image : Image) (bound : ℕ → ℕ) (places : Places) (nestings : Nestings) (i : ℕ) (op : CoreOp) (operation : Operation)
    (place : IsInPlace core image bound places nestings i op operation) (j : ℕ) (flows : Flows core places.frames nothing i j) (stay : LevelsStay nestings i j) where
  -- its processor may have other values, which stand in its frame
  pub goes_behind_with : (setting : Setting) (t : MachineSetting) (runs : Option ℕ) (begin : ℕ) (vs : List ℕ) (m : Member) (p : Owner) (h : Hart) → Enters core image places setting t i op operation p m.hart
      → IsMember places nestings setting runs begin m p → HasValues (value_in m.hart (length p.runner.has.callers)) vs → h.ended ≡ false → h.local ≡ m.hart.local → SameRegisters m.hart h
      → h.registers top_register ≡ m.hart.registers top_register → h.pc ≡ 4 * places.block j
      → StandsAt places (with_list core places j vs p) h
      × HasNestings places nestings setting.processors (number_of p) h.local j p.runner.left.callers p.runner.has.callers p.runner.has.outer
  goes_behind_with setting t runs begin vs m p h en member held live local same top pc =
      let first = m.hart in
      let stands = en.at.stands in
      let n = length p.runner.has.callers in
      let callers = p.runner.left.callers in
      let calls = en.ready.in_range.waiting in
      let here = en.index in
      let header = place.fits.room.header in
      let many = many_callers places nestings first.local callers p.runner.has.callers stands.waiting in
      let home = ap places.frames.is_main (sym here) ∙ stands.running.home in
      let below = lies_below places nestings n i op.depth home place.levels in
      let memory = nothing_written core places first.local (first.registers group_frame_register) p i j op.depth vs place.few calls here place.fits.room flows (in_memory places p first stands) held in
      let outer =
      outer_on places nestings setting.processors (number_of p) first.local first.local i j op.depth callers p.runner.has.outer place.few stay
      (subst (λ k. below_values places nestings k i op.depth) (sym many) below) (λ x lt. refl) (omega arith)
      (subst (λ a. HasOuter places nestings setting.processors (number_of p) first.local (a ∷ callers) p.runner.has.outer) here member.node.outer.0) in (
        record {
          live = live;
          at = pc;
          stands =
              stands_with places p (with_list core places j vs p) first h stands same refl refl (top ∙ stands.top)
              (subst (λ l. InMemory places l (first.registers group_frame_register) (with_list core places j vs p)) (sym local) memory);
        },
        (subst (λ l. HasOuter places nestings setting.processors (number_of p) l (j ∷ callers) p.runner.has.outer) (sym local) outer, member.node.outer.1),
      )

  pub goes_behind : (setting : Setting) (t : MachineSetting) (runs : Option ℕ) (begin : ℕ) (m : Member) (p : Owner) (h : Hart) → Enters core image places setting t i op operation p m.hart
      → IsMember places nestings setting runs begin m p → h.ended ≡ false → h.local ≡ m.hart.local → SameRegisters m.hart h → h.registers top_register ≡ m.hart.registers top_register
      → h.pc ≡ 4 * places.block j
      → StandsAt places (gone_to j p) h
      × HasNestings places nestings setting.processors (number_of p) h.local j p.runner.left.callers p.runner.has.callers p.runner.has.outer
  goes_behind setting t runs begin m p h en member live local same top pc =
      goes_behind_with setting t runs begin (values p.runner.has) m p h en member en.at.stands.running.values live local same top pc
