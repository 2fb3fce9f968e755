-- The premises, met by a list: three processors make a group, which ends at once, and all halt.
use Rattle.std.proofs.Common.{◌≡◌, ℕ, zero, suc, ◌^◌, ◌<◌, ◌≤◌, List, [], ◌∷◌, Some, true, false, IsSome, ap, subst, ◌∙◌, arith, refl, inl, inr, None}
use Rattle.std.specs.Prelude.{slice_get}
use Rattle.std.proofs.lemmas.List.Elements.{All-nil, All-from_recursion}
use Rattle.fk_meaning_operation.specs.declared.operation.Operation.{Operation}
use Rattle.fk_meaning_operation.specs.declared.operation.Operation.TheVariants.{Push, Begin, End, Resume, Halt, Enter}
use Rattle.fk_core.specs.declared.op.CoreOp.{CoreOp}
use Rattle.fk_core.specs.Next.{is_jump, behind_jump}
use Rattle.fk_core.specs.Numbers.{operation_of}
use Rattle.fk_sim_block.specs.Stands.{Frames, HasRoom}
use Rattle.fk_sim_block.specs.Suits.{Flows, Fits, Suits}
use Rattle.fk_gen_group.specs.Blocks.{is_group_step, HasLevelWords, HasSplitValues}
use Rattle.fk_sim_block.specs.Lockstep.{values_of_step}
use Rattle.fk_gen_list.specs.Generable.{HasOwnBlock, HasBlocks, has_target, IsGenerable}
use Rattle.fk_gen_list.specs.Laws.{StepsHaveValues}

abbrev pushes : CoreOp
pushes = record { kind = 1; site = 0; number = 3; target = 0; depth = 0 }

abbrev begins : CoreOp
begins = record { kind = 23; site = 0; number = 0; target = 3; depth = 1 }

abbrev ends : CoreOp
ends = record { kind = 29; site = 0; number = 0; target = 3; depth = 0 }

abbrev resumes : CoreOp
resumes = record { kind = 30; site = 0; number = 0; target = 0; depth = 0 }

abbrev halts : CoreOp
halts = record { kind = 34; site = 0; number = 0; target = 0; depth = 0 }

abbrev core : List CoreOp
core = pushes ∷ begins ∷ ends ∷ resumes ∷ halts ∷ []

-- no private words, and all of it is `main`
abbrev frames : Frames
frames = record { keeps = λ index word. false; is_main = λ index. true; group = λ index. false; of_file = 0 }

-- what is so of each operation is so of the one at an index
each : (P : ℕ → CoreOp → Operation → Type 0) → P 0 pushes (Push 3) → P 1 begins Begin → P 2 ends End → P 3 resumes Resume → P 4 halts Halt
    → (i : ℕ) (op : CoreOp) (operation : Operation) → slice_get core i ≡ Some op → operation_of op.kind op.number ≡ Some operation → P i op operation
each P a b c d e zero op operation stands reads =
    let same : pushes ≡ op = cc in
    let f : operation_of 1 3 ≡ Some operation = ap (λ o. operation_of o.kind o.number) same ∙ reads in
    let is : Push 3 ≡ operation = cc in
    subst (λ x. P 0 op x) is (subst (λ x. P 0 x (Push 3)) same a)
each P a b c d e (suc zero) op operation stands reads =
    let same : begins ≡ op = cc in
    let f : operation_of 23 0 ≡ Some operation = ap (λ o. operation_of o.kind o.number) same ∙ reads in
    let is : Begin ≡ operation = cc in
    subst (λ x. P 1 op x) is (subst (λ x. P 1 x Begin) same b)
each P a b c d e (suc (suc zero)) op operation stands reads =
    let same : ends ≡ op = cc in
    let f : operation_of 29 0 ≡ Some operation = ap (λ o. operation_of o.kind o.number) same ∙ reads in
    let is : End ≡ operation = cc in
    subst (λ x. P 2 op x) is (subst (λ x. P 2 x End) same c)
each P a b c d e (suc (suc (suc zero))) op operation stands reads =
    let same : resumes ≡ op = cc in
    let f : operation_of 30 0 ≡ Some operation = ap (λ o. operation_of o.kind o.number) same ∙ reads in
    let is : Resume ≡ operation = cc in
    subst (λ x. P 3 op x) is (subst (λ x. P 3 x Resume) same d)
each P a b c d e (suc (suc (suc (suc zero)))) op operation stands reads =
    let same : halts ≡ op = cc in
    let f : operation_of 34 0 ≡ Some operation = ap (λ o. operation_of o.kind o.number) same ∙ reads in
    let is : Halt ≡ operation = cc in
    subst (λ x. P 4 op x) is (subst (λ x. P 4 x Halt) same e)
each P a b c d e (suc (suc (suc (suc (suc i))))) op operation stands reads = absurd (cc)

flows : (i j : ℕ) → Flows core frames (λ word. false) i j
flows i j = record { main = refl; kept = λ word keeps written. keeps; group = refl }

room : (index values : ℕ) → values ≤ 56 → HasRoom frames index values
room index values few = record { header = omega arith; kept = λ word keeps. absurd (cc) }

suits : Suits core frames 0
suits = record {
  begins = refl;
  none = refl;
  few = omega arith;
  jumps = λ i op stands jump. flows i op.target;
  fits = λ i op operation stands.
      each (λ i op operation. Fits core frames i op operation)
      (record { values = omega arith; few = omega arith; room = room 0 0 (omega arith); place = room 0 1 (omega arith); goes_on = λ onward. flows 0 _ })
      (record { values = omega arith; few = omega arith; room = room 1 1 (omega arith); place = tt; goes_on = λ onward. flows 1 _ })
      (record { values = omega arith; few = omega arith; room = room 2 0 (omega arith); place = tt; goes_on = λ onward. flows 2 _ })
      (record { values = omega arith; few = omega arith; room = room 3 0 (omega arith); place = tt; goes_on = λ onward. flows 3 _ })
      (record { values = omega arith; few = omega arith; room = room 4 0 (omega arith); place = tt; goes_on = refl })
      i op operation stands.stands stands.is_read;
}

no_jumps : (i : ℕ) (op : CoreOp) → slice_get core i ≡ Some op → is_jump op ≡ true → ⊥
no_jumps zero op e f = let same : pushes ≡ op = cc in let g = ap is_jump same ∙ f in absurd (cc)
no_jumps (suc zero) op e f = let same : begins ≡ op = cc in let g = ap is_jump same ∙ f in absurd (cc)
no_jumps (suc (suc zero)) op e f = let same : ends ≡ op = cc in let g = ap is_jump same ∙ f in absurd (cc)
no_jumps (suc (suc (suc zero))) op e f = let same : resumes ≡ op = cc in let g = ap is_jump same ∙ f in absurd (cc)
no_jumps (suc (suc (suc (suc zero)))) op e f = let same : halts ≡ op = cc in let g = ap is_jump same ∙ f in absurd (cc)
no_jumps (suc (suc (suc (suc (suc i))))) op e f = absurd (cc)

are_operations : (i : ℕ) (op : CoreOp) → slice_get core i ≡ Some op → IsSome (operation_of op.kind op.number)
are_operations zero op e = let same : pushes ≡ op = cc in subst (λ (x : CoreOp). IsSome (operation_of x.kind x.number)) same refl
are_operations (suc zero) op e = let same : begins ≡ op = cc in subst (λ (x : CoreOp). IsSome (operation_of x.kind x.number)) same refl
are_operations (suc (suc zero)) op e = let same : ends ≡ op = cc in subst (λ (x : CoreOp). IsSome (operation_of x.kind x.number)) same refl
are_operations (suc (suc (suc zero))) op e = let same : resumes ≡ op = cc in subst (λ (x : CoreOp). IsSome (operation_of x.kind x.number)) same refl
are_operations (suc (suc (suc (suc zero)))) op e = let same : halts ≡ op = cc in subst (λ (x : CoreOp). IsSome (operation_of x.kind x.number)) same refl
are_operations (suc (suc (suc (suc (suc i))))) op e = absurd (cc)

blocks : HasBlocks core
blocks = record {
  jumps = λ i op at jump. absurd (no_jumps i op at jump);
  operations = λ i op operation stands.
      each (λ i op operation. HasOwnBlock operation) (inl refl) (inr (inr refl)) (inr (inr refl)) (inr (inr refl)) (inr (inl refl))
      i op operation stands.stands stands.is_read;
  targets = λ i op operation stands.
      each (λ i op operation. has_target operation ≡ true → op.target < 5)
      (λ e. omega arith) (λ e. omega arith) (λ e. omega arith) (λ e. omega arith) (λ e. omega arith)
      i op operation stands.stands stands.is_read;
  returns = λ i op n stands.
      each (λ i op operation. operation ≡ Enter n → behind_jump core (suc i) < 5)
      (λ e. absurd (cc)) (λ e. absurd (cc)) (λ e. absurd (cc)) (λ e. absurd (cc)) (λ e. absurd (cc))
      i op (Enter n) stands.stands stands.is_read refl;
}

pub is_generable : IsGenerable core [] [] 0 []
is_generable = record {
  blocks = blocks;
  operations = λ i op at jump. are_operations i op at;
  begins = omega arith;
  frames = frames;
  suits = suits;
  keeps = λ index word keeps. absurd (cc);
  of_file = refl;
  levels = λ i op operation stands.
      each (λ i op operation. HasLevelWords (Some operation) (record { count = 0; behind = 0; nest = 0; fork = None }))
      (omega arith) (omega arith) (omega arith) (omega arith) (omega arith)
      i op operation stands.stands stands.is_read;
  values = λ i op operation stands.
      each (λ i op operation. HasSplitValues (Some operation) op.depth) tt tt tt tt tt
      i op operation stands.stands stands.is_read;
  words = All-from_recursion (λ (op : CoreOp). (op.site < 2 ^ 32) × (op.number < 2 ^ 32)) core
      ((omega arith, omega arith), ((omega arith, omega arith), ((omega arith, omega arith), ((omega arith, omega arith), ((omega arith, omega arith), tt)))));
  first_words = All-nil (λ v. v < 2 ^ 32);
}

pub have_values : StepsHaveValues core
have_values i op operation stands =
    each (λ i op operation. is_group_step (Some operation) ≡ true → values_of_step operation ≤ op.depth)
    (λ e. omega arith) (λ e. omega arith) (λ e. omega arith) (λ e. omega arith) (λ e. omega arith)
    i op operation stands.stands stands.is_read
