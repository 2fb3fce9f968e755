-- What is told of one operation more.
use Rattle.std.proofs.Common.{◌≡◌, ℕ, suc, ◌+◌, ◌≤◌, Bool, List, [], ◌∷◌, ◌++◌, drop, Option, Some, None, ap, sym, ◌∙◌, arith}
use Rattle.std.specs.Prelude.{if◌then◌else◌}
use Rattle.std.proofs.lemmas.List.{append_assoc}
use Rattle.fk_meaning_operation.specs.declared.operation.Operation.{Operation}
use Rattle.fk_meaning_operation.specs.declared.operation.Operation.TheVariants.{Split, Resume, Begin}
use Rattle.fk_core.specs.declared.op.CoreOp.{CoreOp}
use Rattle.fk_gen.specs.declared.placed.Levels.{Levels}
use Rattle.fk_core_levels.specs.Count.{read, here, after, inside, opens}
use Rattle.fk_core_levels.specs.Forks.{Parts, come_to, fork_of, leave}
use Rattle.fk_core_levels.specs.Behind.{named}
use Rattle.fk_core_levels.specs.Levels.{told_from}

pub few_after : (parts : ℕ) (o : Option Operation) → after (here parts o) o ≤ suc parts
few_after parts (Some Resume) = omega arith
few_after parts (Some (Split by)) = omega arith
few_after parts o = omega arith

pub few_inside : (parts : ℕ) (o : Option Operation) → inside (here parts o) o ≤ suc parts
few_inside parts (Some Resume) = omega arith
few_inside parts (Some (Split by)) = omega arith
few_inside parts (Some Begin) = omega arith
few_inside parts o = omega arith

abbrev levels_of : (count behind nest : ℕ) (fork : Option ℕ) → Levels
levels_of count behind nest fork = record { count = count; behind = behind; nest = nest; fork = fork }

module _ (ops : List CoreOp) (i : ℕ) (op : CoreOp) (parts around : ℕ) (held : Parts) (opening : Bool) (done whole : List Levels) (split : drop i ops ≡ op ∷ drop (i + 1) ops)
    (e : done ++ told_from parts around held opening (drop i ops) ≡ whole) where
  abbrev count : ℕ
  count = here parts (read op)

  abbrev nest : ℕ
  nest = here around (read op)

  abbrev there : Parts
  there = come_to (read op) held

  abbrev rest : (parts around : ℕ) → Parts → Bool → List Levels
  rest p a q b = told_from p a q b (drop (i + 1) ops)

  abbrev one : Levels
  one = levels_of (if opening then 0 else count) (named (read op)) (if opening then 0 else nest) (if opening then None else fork_of there.parts)

  told_one : (done ++ one ∷ []) ++ rest (after count (read op)) (inside nest (read op)) (leave (read op) there) (opens opening op) ≡ whole
  told_one =
      append_assoc done (one ∷ []) (rest (after count (read op)) (inside nest (read op)) (leave (read op) there) (opens opening op))
      ∙ ap (λ xs. done ++ told_from parts around held opening xs) (sym split) ∙ e

  pub told_next : (new : List Levels) (c b n : ℕ) (f : Option ℕ) (p a : ℕ) (q : Parts) (o : Bool) → new ≡ done ++ levels_of c b n f ∷ [] → c ≡ (if opening then 0 else count) → b ≡ named (read op)
      → n ≡ (if opening then 0 else nest) → f ≡ (if opening then None else fork_of there.parts)
      → p ≡ after count (read op) → a ≡ inside nest (read op) → q ≡ leave (read op) there → o ≡ opens opening op → new ++ rest p a q o ≡ whole
  told_next new c b n f p a q o is of_count of_words of_nest of_fork of_parts of_around of_open of_opening =
      let first = if opening then 0 else count in
      let third = if opening then 0 else nest in
      ap (λ xs. xs ++ rest p a q o) is
      ∙ ap (λ x. (done ++ levels_of x b n f ∷ []) ++ rest p a q o) of_count
      ∙ ap (λ x. (done ++ levels_of first x n f ∷ []) ++ rest p a q o) of_words
      ∙ ap (λ x. (done ++ levels_of first (named (read op)) x f ∷ []) ++ rest p a q o) of_nest
      ∙ ap (λ x. (done ++ levels_of first (named (read op)) third x ∷ []) ++ rest p a q o) of_fork
      ∙ ap (λ x. (done ++ one ∷ []) ++ rest x a q o) of_parts
      ∙ ap (λ x. (done ++ one ∷ []) ++ rest (after count (read op)) x q o) of_around
      ∙ ap (λ x. (done ++ one ∷ []) ++ rest (after count (read op)) (inside nest (read op)) x o) of_open
      ∙ ap (λ x. (done ++ one ∷ []) ++ rest (after count (read op)) (inside nest (read op)) (leave (read op) there) x) of_opening ∙ told_one
