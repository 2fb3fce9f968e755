-- What the machine's loads, stores and atomic instructions do at addresses that may be used is what is read and written of
-- the store.
use Rattle.std.proofs.Common.{◌≡◌, ℕ, ◌+◌, ◌%◌, ◌<◌, true, false, ap, sym, ◌∙◌, arith, refl, eq-eqb, ◌⊎◌, inl, inr}
use Rattle.std.specs.Prelude.{if◌then◌else◌, ◌==◌}
use Rattle.std.proofs.lemmas.Bool.{cases_eq}
use Rattle.fk_num.specs.Word.{Memory, put, word_sum}
use Rattle.fk_num.specs.Op.{applied}
use Rattle.fk_isa.specs.declared.instruction.Instruction.TheVariants.{Lw}
use Rattle.fk_isa.specs.Atomic.{combined}
use Rattle.fk_machine.specs.declared.place.Location.TheVariants.{SharedWord}
use Rattle.fk_machine.specs.Place.{place_of}
use Rattle.fk_machine.specs.Hart.{Hart, Shared, Goes, Setting}
use Rattle.fk_machine.specs.Reach.{cleared}
use Rattle.fk_machine.specs.Step.{perform}
use Rattle.fk_machine.proofs.Performs.{writes, lw-shared, lw-local}
use Rattle.fk_meaning_operation.specs.declared.operation.Multiprefix.{Multiprefix}
use Rattle.fk_meaning_operation.specs.declared.operation.Multiprefix.TheVariants.{MpAdd, MpMax, MpAnd, MpOr}
use Rattle.fk_meaning_store.specs.Store.{Store}
use Rattle.fk_meaning_store.specs.Serve.{may_use, shared_index, private_index, read, write, operator_of}
use Rattle.fk_sim_block.specs.Owner.{Commons, Heaps, found}
use Rattle.fk_gen_access.specs.Blocks.{combining}
use Rattle.fk_gen_access.proofs.Addresses.{IsShared, IsPrivate, used, shared_is, not_shared, shared_place, private_place, private_few}
use Rattle.fk_gen.proofs.Values.{other_word}
use Rattle.fk_gen.specs.Registers.{t0, t1}
use Rattle.fk_gen_access.proofs.Found.{word_at}

-- ---- the store, by where an address lies

pub read_shared : (s : Store) (n a : ℕ) → IsShared a → read s n a ≡ s.words (shared_index a)
read_shared s n a at = ap (λ b. if b then s.words (shared_index a) else s.heaps n (private_index a)) (shared_is a at)

pub read_private : (s : Store) (n a : ℕ) → IsPrivate a → read s n a ≡ s.heaps n (private_index a)
read_private s n a at = ap (λ b. if b then s.words (shared_index a) else s.heaps n (private_index a)) (not_shared a at)

pub write_shared : (s : Store) (n a v : ℕ) → IsShared a → write s n a v ≡ record s { words = put s.words (shared_index a) v }
write_shared s n a v at =
    ap (λ b. if b then record s { words = put s.words (shared_index a) v } else record s { heaps = λ g. if g == n then put (s.heaps n) (private_index a) v else s.heaps g }) (shared_is a at)

pub write_private : (s : Store) (n a v : ℕ) → IsPrivate a → write s n a v ≡ record s { heaps = λ g. if g == n then put (s.heaps n) (private_index a) v else s.heaps g }
write_private s n a v at =
    ap (λ b. if b then record s { words = put s.words (shared_index a) v } else record s { heaps = λ g. if g == n then put (s.heaps n) (private_index a) v else s.heaps g }) (not_shared a at)

-- the local memory with a word of the private heap replaced has the private heap with it replaced
pub heap_put : (m heap : Memory) (i v : ℕ) → ((k : ℕ) → k < 16384 → m (16384 + k) ≡ heap k)
    → (k : ℕ) → k < 16384 → put m (16384 + i) v (16384 + k) ≡ put heap i v k
heap_put m heap i v has k lt = elim (cases_eq k i) [
  | inl e ↦ word_at m (16384 + i) v (16384 + k) (omega arith) ∙ sym (word_at heap i v k e)
  | inr ne ↦ other_word m (16384 + i) v (16384 + k) (λ e. ne (omega arith)) ∙ has k lt ∙ sym (other_word heap i v k ne)
]

-- ---- loads

load_at : (t : Setting) (number rs a : ℕ) (h : Hart) (sh : Shared) (s : Commons) (heap : Heaps) → h.registers rs ≡ a → sh.words ≡ s.words
    → ((k : ℕ) → k < 16384 → h.local (16384 + k) ≡ heap.words k) → (IsShared a ⊎ ((false ≡ false) × IsPrivate a))
    → perform t number (Lw t0 rs 0) h sh ≡ Goes (writes h t0 (read (found s heap) number a)) sh
load_at t number rs a h sh s heap e words has (inl at) =
    let aligned = at.aligned in
    let below = at.below in
    let same : word_sum (h.registers rs) 0 ≡ a = omega arith in
    lw-shared t number 5 rs 0 (shared_index a) h sh (omega arith) (ap place_of same ∙ shared_place a at)
    ∙ ap (λ w. Goes (writes h t0 (w (shared_index a))) sh) words
    ∙ ap (λ v. Goes (writes h t0 v) sh) (sym (read_shared (found s heap) number a at))
load_at t number rs a h sh s heap e words has (inr (_, at)) =
    let aligned = at.aligned in
    let below = at.below in
    let same : word_sum (h.registers rs) 0 ≡ a = omega arith in
    lw-local t number 5 rs 0 (16384 + private_index a) h sh (omega arith) (ap place_of same ∙ private_place a at)
    ∙ ap (λ v. Goes (writes h t0 v) sh) (has (private_index a) (private_few a at) ∙ sym (read_private (found s heap) number a at))

pub load : (t : Setting) (number rs a : ℕ) (h : Hart) (sh : Shared) (s : Commons) (heap : Heaps) → h.registers rs ≡ a → sh.words ≡ s.words
    → ((k : ℕ) → k < 16384 → h.local (16384 + k) ≡ heap.words k) → may_use false a ≡ true
    → perform t number (Lw t0 rs 0) h sh ≡ Goes (writes h t0 (read (found s heap) number a)) sh
load t number rs a h sh s heap e words has may = load_at t number rs a h sh s heap e words has (used false a may)

-- ---- atomic instructions give the former word

-- of a multiprefix, at a word of shared data
abbrev amo_word : Multiprefix → ℕ
amo_word MpAdd = 0b00000
amo_word MpMax = 0b10100
amo_word MpAnd = 0b01100
amo_word MpOr = 0b01000

amo_combines : (by : Multiprefix) (x y : ℕ) → combined (amo_word by) x y ≡ applied (operator_of by) x y
unfolding combined
amo_combines MpAdd x y = refl
amo_combines MpMax x y = refl
amo_combines MpAnd x y = refl
amo_combines MpOr x y = refl

amo_performs : (by : Multiprefix) (t : Setting) (number i : ℕ) (h : Hart) (sh : Shared) → h.registers t0 % 4 ≡ 0 → place_of (h.registers t0) ≡ SharedWord i
    → perform t number (combining by) h sh
    ≡ Goes (writes h t0 (sh.words i)) (record sh { words = put sh.words i (combined (amo_word by) (sh.words i) (h.registers t1)); reserved = cleared sh.reserved (h.registers t0) })
amo_performs MpAdd t number i h sh e f = let aligned = eq-eqb _ 0 e in rw (aligned, f) refl
amo_performs MpMax t number i h sh e f = let aligned = eq-eqb _ 0 e in rw (aligned, f) refl
amo_performs MpAnd t number i h sh e f = let aligned = eq-eqb _ 0 e in rw (aligned, f) refl
amo_performs MpOr t number i h sh e f = let aligned = eq-eqb _ 0 e in rw (aligned, f) refl

-- the shared state after it
abbrev pub after_amo : Multiprefix → Hart → Shared → (i : ℕ) → Shared
after_amo by h sh i = record sh { words = put sh.words i (applied (operator_of by) (sh.words i) (h.registers t1)); reserved = cleared sh.reserved (h.registers t0) }

pub amo : (by : Multiprefix) (t : Setting) (number a : ℕ) (h : Hart) (sh : Shared) → h.registers t0 ≡ a → IsShared a
    → perform t number (combining by) h sh ≡ Goes (writes h t0 (sh.words (shared_index a))) (after_amo by h sh (shared_index a))
amo by t number a h sh e at =
    let aligned = at.aligned in
    let i = shared_index a in
    amo_performs by t number i h sh (omega arith) (ap place_of e ∙ shared_place a at)
    ∙ ap (λ v. Goes (writes h t0 (sh.words i)) (record sh { words = put sh.words i v; reserved = cleared sh.reserved (h.registers t0) })) (amo_combines by (sh.words i) (h.registers t1))
