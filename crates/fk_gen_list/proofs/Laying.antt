-- What each step asks that adds a part of the code.
use Rattle.std.proofs.Common.{◌≡◌, ℕ, ◌<◌, ◌≤◌, List, [], ◌∷◌, length, Option, Some, None, All, IfSome, inl, inr, sym, ap, subst, ◌∙◌, arith}
use Rattle.std.specs.Prelude.{slice_index_or, replicate, sum_by, Bool, true, false, if◌then◌else◌}
use Rattle.std.proofs.lemmas.List.{length-replicate, get_or-replicate}
use Rattle.std.proofs.lemmas.List.Elements.{All-nil, All-weaker}
use Rattle.std.proofs.lemmas.List.Sums.{sum_by-cons}
use Rattle.fk_meaning_operation.specs.declared.operation.Operation.{Operation}
use Rattle.fk_meaning_operation.specs.declared.operation.Operation.TheVariants.{Enter}
use Rattle.fk_core.specs.declared.op.CoreOp.{CoreOp}
use Rattle.fk_core.specs.Next.{is_jump}
use Rattle.fk_core.specs.Numbers.{operation_of}
use Rattle.fk_asm.specs.Assembly.{Assembly, empty, AreFollowed}
use Rattle.fk_asm.specs.Block.{MarkedLine, GoesToMade, with_block}
use Rattle.fk_asm.proofs.Straight.{AreFollowed-with_block}
use Rattle.fk_gen.specs.Lines.{label_of}
use Rattle.fk_gen_list.specs.Generable.{most_words, words_by}
use Rattle.fk_gen_list.proofs.Blocks.{length-with_block}
use Rattle.fk_gen_list.proofs.Laid.{GoesTo, IsLabel}
use Rattle.fk_gen_list.proofs.Near.{IsFar}

-- each operation has a word at least
one_word : (op : CoreOp) → 1 ≤ most_words op
one_word op = by (is_jump op) (operation_of op.kind op.number)
  where
    by : (jump : Bool) (operation : Option Operation) → 1 ≤ (if jump then 1 else words_by operation)
    by true operation = omega arith
    by false (Some (Enter arguments)) = omega arith
    by false operation = omega arith

pub few_ops : (ops : List CoreOp) → length ops ≤ sum_by most_words ops
few_ops [] = omega arith
few_ops (op ∷ ops) =
    let rest = few_ops ops in
    let sum = sum_by-cons most_words op ops in
    let one = one_word op in
    omega arith

-- labels that lines go to are made
pub goes_to_made : (n : ℕ) (bound : List (Option ℕ)) (ms : List MarkedLine) → length bound ≡ label_of n → All (GoesTo n) ms → All (GoesToMade bound) ms
goes_to_made n bound ms count go = All-weaker (GoesTo n) (GoesToMade bound) (λ m goes. made (IsFar m.line.instruction) m.line.label goes) ms go
  where
    below : (label : ℕ) → IsLabel n label → label < length bound
    below label (inl low) = omega arith
    below label (inr (inl clear)) = let high = clear.1 in omega arith
    below label (inr (inr of_block)) = let high = of_block.1 in omega arith

    made : (P : Type 0) (label : Option ℕ) → IfSome label (λ l. IsLabel n l × P) → IfSome label (λ l. l < length bound)
    made P None goes = tt
    made P (Some l) goes = below l goes.0

module _ (n : ℕ) (opening : List MarkedLine) where
  -- an assembler with its labels alone
  abbrev pub labelled : Assembly
  labelled = record empty { bound = replicate (label_of n) None }

  pub followed_labelled : AreFollowed labelled
  followed_labelled = All-nil (λ entry. entry.0 < 0)

  module _ (opened : Assembly) (made : opened ≡ with_block labelled opening) where
    same_bound : opened.bound ≡ replicate (label_of n) None
    same_bound = ap (λ (a : Assembly). a.bound) made

    pub opened_words : length opened.lines ≡ length opening
    opened_words = ap (λ (a : Assembly). length a.lines) made ∙ length-with_block labelled opening ∙ omega arith

    pub opened_labels : length opened.bound ≡ label_of n
    opened_labels = ap length same_bound ∙ length-replicate (label_of n) None

    pub opened_free : (label : ℕ) → label < label_of n → slice_index_or opened.bound label None ≡ None
    opened_free label lt = ap (λ l. slice_index_or l label None) same_bound ∙ get_or-replicate (label_of n) label None None lt

    pub opened_followed : AreFollowed opened
    opened_followed = subst AreFollowed (sym made) (AreFollowed-with_block labelled opening followed_labelled)
