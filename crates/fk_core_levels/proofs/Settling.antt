-- The levels of a list, as far as they are found.
use Rattle.std.proofs.Common.{◌≡◌, ℕ, zero, suc, ◌<◌, ◌≤◌, Bool, true, false, List, [], ◌∷◌, length, slice_get, Some, None, map, ap, refl, ◌∙◌, arith, ◌⊎◌, inl, inr}
use Rattle.std.specs.Prelude.{if◌then◌else◌, Option}
use Rattle.fk_meaning_operation.specs.declared.operation.Operation.{Operation}
use Rattle.fk_meaning_operation.specs.declared.operation.Operation.TheVariants.{Get, Set}
use Rattle.fk_meaning_operation.specs.declared.operation.OwnValue.TheVariants.{Value}
use Rattle.fk_meaning_operation.specs.declared.operation.Variable.TheVariants.{Private}
use Rattle.std.proofs.lemmas.Bool.{cases_lt, lt-ltb, le-ltb}
use Rattle.fk_core.specs.declared.op.CoreOp.{CoreOp}
use Rattle.fk_gen.specs.declared.placed.Levels.{Levels}
use Rattle.fk_core_levels.specs.Count.{read, here, after, inside, opens, counts_from, nests_from}
use Rattle.fk_core_levels.specs.Forks.{OpenPart, Parts, no_part, come_to, fork_of, leave, open_from}
use Rattle.fk_core_levels.specs.Behind.{up_to, named, leads, IsBound}
use Rattle.fk_core_levels.specs.Levels.{behind_in, AreLevels, told_from, raised, joined, IsSettling, StaysThere}
use Rattle.fk_core_levels.proofs.Raised.{raised_long, raised_count, raised_nest, raised_fork, raised_above, raised_below}

-- ---- no call has more than 64 words

few_up_to : (word : ℕ) → up_to word ≤ 64
few_up_to word = by (cases_lt word 64)
  where
    by : (word < 64) ⊎ (64 ≤ word) → up_to word ≤ 64
    by (inl lt) = let e : up_to word ≡ suc word = ap (λ b. if b then suc word else 0) (lt-ltb word 64 lt) in omega (arith, e, lt)
    by (inr le) = let e : up_to word ≡ 0 = ap (λ b. if b then suc word else 0) (le-ltb word 64 le) in omega (arith, e)

few_named : (operation : Option Operation) → named operation ≤ 64
few_named (Some (Get (Value (Private word)))) = few_up_to word
few_named (Some (Set (Private word))) = few_up_to word
few_named operation = omega arith

most : (core : List CoreOp) → IsBound core (λ i. 64)
most core = record { holds = λ i op at. few_named (read op); stays = λ i onward lt there. refl }

pub few_behind : (core : List CoreOp) (saved : List Levels) → IsSettling core saved → (i : ℕ) → behind_in saved i ≤ 64
few_behind core saved s i = s.least (λ i. 64) (most core) i

-- ---- at the beginning

told_long : (parts around : ℕ) (held : Parts) (opening : Bool) (ops : List CoreOp) → length (told_from parts around held opening ops) ≡ length ops
told_long parts around held opening [] = refl
told_long parts around held opening (op ∷ ops) = ap suc (told_long (after (here parts (read op)) (read op)) (inside (here around (read op)) (read op)) (leave (read op) (come_to (read op) held)) (opens opening op) ops)

told_count : (parts around : ℕ) (held : Parts) (opening : Bool) (ops : List CoreOp) → map (λ (l : Levels). l.count) (told_from parts around held opening ops) ≡ counts_from parts opening ops
told_count parts around held opening [] = refl
told_count parts around held opening (op ∷ ops) =
    ap (λ ns. (if opening then 0 else here parts (read op)) ∷ ns) (told_count (after (here parts (read op)) (read op)) (inside (here around (read op)) (read op)) (leave (read op) (come_to (read op) held)) (opens opening op) ops)

told_nest : (parts around : ℕ) (held : Parts) (opening : Bool) (ops : List CoreOp) → map (λ (l : Levels). l.nest) (told_from parts around held opening ops) ≡ nests_from around opening ops
told_nest parts around held opening [] = refl
told_nest parts around held opening (op ∷ ops) =
    ap (λ ns. (if opening then 0 else here around (read op)) ∷ ns)
    (told_nest (after (here parts (read op)) (read op)) (inside (here around (read op)) (read op)) (leave (read op) (come_to (read op) held)) (opens opening op) ops)

fork_told : (opening : Bool) (held : List OpenPart) → (if opening then None else fork_of held) ≡ fork_of (if opening then [] else held)
fork_told true held = refl
fork_told false held = refl

told_fork : (parts around : ℕ) (held : Parts) (opening : Bool) (ops : List CoreOp) → map (λ (l : Levels). l.fork) (told_from parts around held opening ops) ≡ map fork_of (open_from held opening ops)
told_fork parts around held opening [] = refl
told_fork parts around held opening (op ∷ ops) =
    let there = come_to (read op) held in
    let rest = told_fork (after (here parts (read op)) (read op)) (inside (here around (read op)) (read op)) (leave (read op) there) (opens opening op) ops in
    ap (λ f. f ∷ map (λ (l : Levels). l.fork) (told_from (after (here parts (read op)) (read op)) (inside (here around (read op)) (read op)) (leave (read op) there) (opens opening op) ops)) (fork_told opening there.parts)
    ∙ ap (λ fs. fork_of (if opening then [] else there.parts) ∷ fs) rest

told_holds : (parts around : ℕ) (held : Parts) (opening : Bool) (ops : List CoreOp) (i : ℕ) (op : CoreOp) → slice_get ops i ≡ Some op → named (read op) ≤ behind_in (told_from parts around held opening ops) i
told_holds parts around held opening [] i op at = absurd (cc)
told_holds parts around held opening (o ∷ ops) zero op at =
    let same : o ≡ op = cc in
    let e : named (read o) ≡ named (read op) = ap (λ x. named (read x)) same in
    omega (arith, e)
told_holds parts around held opening (o ∷ ops) (suc i) op at = told_holds (after (here parts (read o)) (read o)) (inside (here around (read o)) (read o)) (leave (read o) (come_to (read o) held)) (opens opening o) ops i op at

told_least : (parts around : ℕ) (held : Parts) (opening : Bool) (ops : List CoreOp) (other : ℕ → ℕ) → ((i : ℕ) (op : CoreOp) → slice_get ops i ≡ Some op → named (read op) ≤ other i)
    → (i : ℕ) → behind_in (told_from parts around held opening ops) i ≤ other i
told_least parts around held opening [] other holds i = omega arith
told_least parts around held opening (o ∷ ops) other holds zero = holds 0 o refl
told_least parts around held opening (o ∷ ops) other holds (suc i) =
    told_least (after (here parts (read o)) (read o)) (inside (here around (read o)) (read o)) (leave (read o) (come_to (read o) held)) (opens opening o) ops (λ i. other (suc i)) (λ i op at. holds (suc i) op at) i

pub told_settles : (core : List CoreOp) → IsSettling core (told_from 0 0 no_part false core)
told_settles core = record {
  long = told_long 0 0 no_part false core;
  count = told_count 0 0 no_part false core;
  nest = told_nest 0 0 no_part false core;
  fork = told_fork 0 0 no_part false core;
  holds = told_holds 0 0 no_part false core;
  least = λ other bound i. told_least 0 0 no_part false core other bound.holds i;
}

-- ---- where two are joined

pub joined_settles : (core : List CoreOp) (saved : List Levels) (i : ℕ) (onward : Bool) → IsSettling core saved → i < length core → leads core i onward < length core
    → IsSettling core (joined saved i (leads core i onward))
joined_settles core saved i onward s lt there =
    let j = leads core i onward in
    let once = raised saved i (behind_in saved j) in
    let first = raised_below saved i (behind_in saved j) in
    record {
      long = raised_long once j (behind_in saved i) ∙ raised_long saved i (behind_in saved j) ∙ s.long;
      count = raised_count once j (behind_in saved i) ∙ raised_count saved i (behind_in saved j) ∙ s.count;
      nest = raised_nest once j (behind_in saved i) ∙ raised_nest saved i (behind_in saved j) ∙ s.nest;
      fork = raised_fork once j (behind_in saved i) ∙ raised_fork saved i (behind_in saved j) ∙ s.fork;
      holds = λ k op at.
          let held = s.holds k op at in
          let one = raised_above saved i (behind_in saved j) k in
          let two = raised_above once j (behind_in saved i) k in
          omega (arith, held, one, two);
      least = λ other bound k.
          let low = s.least other bound in
          let same : other j ≡ other i = bound.stays i onward lt there in
          let low_i = low i in
          let low_j = low j in
          raised_below once j (behind_in saved i) other (first other low (omega (arith, low_j, same))) (omega (arith, low_i, same)) k;
    }

-- ---- in the end

pub are_levels : (core : List CoreOp) (saved : List Levels) → IsSettling core saved → ((i : ℕ) → i < length core → StaysThere core saved i) → AreLevels core saved
are_levels core saved s stays = record {
  long = s.long;
  count = s.count;
  nest = s.nest;
  fork = s.fork;
  bound = record { holds = s.holds; stays = λ i onward lt there. stays i lt onward there };
  least = s.least;
}
