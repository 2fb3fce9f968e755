-- A text that isn't too long and keeps all rules has a correct program.
use Rattle.std.proofs.Common.{ℕ, ◌≤◌, None, List, [], ◌∷◌, ◌++◌, length, take, drop, ap, arith, length-append}
use Rattle.fk_lex.specs.declared.step.Step.{Step}
use Rattle.fk_lex.specs.declared.step.Step.TheVariants.{Gap, Token, Fault}
use Rattle.fk_lex.specs.Reading.{Cuts, spelled_by, tokens_in}
use Rattle.fk_lex.specs.Sizes.{size_of}
use Rattle.fk_lex.proofs.Reached.{reached_less}
use Rattle.fk_parse.proofs.Sound.{derives_well_formed}
use Rattle.fk_locks_text.specs.Texts.{TextsAreCorrect}

one_spelled : (step : Step) (before text : List ℕ) → length (spelled_by step before text) ≤ 1
one_spelled (Gap n) before text = omega arith
one_spelled (Token n kind) before text = omega arith
one_spelled (Fault n kind) before text = omega arith

-- a text has no more tokens than bytes
few_tokens : (pieces : List Step) (before text : List ℕ) → Cuts pieces before text None → length (tokens_in pieces before text) ≤ length text
few_tokens [] before text cuts = omega arith
few_tokens (p ∷ pieces) before text cuts =
    let less = reached_less before text p cuts.0 cuts.1 cuts.2 in
    let rest = few_tokens pieces (before ++ take (size_of p) text) (drop (size_of p) text) cuts.3 in
    omega (arith, less, rest, one_spelled p before text, length-append (spelled_by p before text) (tokens_in pieces (before ++ take (size_of p) text) (drop (size_of p) text)))

pub texts_are_correct : TextsAreCorrect
texts_are_correct source program facts short checked =
    let text = checked.parsed in
    let spelled = text.spelled in
    let long = ap length spelled.2 in
    let few = few_tokens spelled.0 [] source spelled.1 in
    record {
      well_formed = derives_well_formed text.tokens program text.derived;
      small = let count = text.derived.count in omega (arith, count, long, few, short);
      known = checked.known;
    }
