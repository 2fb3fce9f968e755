-- Something stands at every position of a text, and so the text has tokens or a fault.
use Rattle.std.proofs.Common.{◌≡◌, ℕ, zero, suc, ◌+◌, ◌<◌, ◌≤◌, ◌⊎◌, inl, inr, ⊎_elim, Option, Some, None, List, [], ◌∷◌, ◌++◌, length, take, drop, get_or, refl, sym, subst, arith}
use Rattle.std.proofs.lemmas.Bool.{cases_lt}
use Rattle.fk_lex.specs.declared.step.Beginning.{Beginning}
use Rattle.fk_lex.specs.declared.step.Beginning.TheVariants as begins
use Rattle.fk_lex.specs.declared.step.FaultKind.TheVariants.{BadByte, OpenComment}
use Rattle.fk_lex.specs.declared.step.Step.{Step}
use Rattle.fk_lex.specs.declared.step.Step.TheVariants.{Gap, Token, Fault}
use Rattle.fk_lex.specs.declared.token.TokenKind.{TokenKind}
use Rattle.fk_lex.specs.declared.token.LexFault.{LexFault}
use Rattle.fk_lex.specs.Kinds.{kind_of}
use Rattle.fk_lex.specs.Positions.{place_behind, only_blanks}
use Rattle.fk_lex.specs.Reading.{Spelled, fault_at, Cuts, tokens_in, Tokens, Faults}
use Rattle.fk_lex.specs.Steps.{EndsAt, CommentTo, CommentStep, TokenStep, token_or_fault, line_length, directive_step, character_step, StepBy, NextStep, beginning}
use Rattle.fk_lex.specs.Texts.{TextStep}
use Rattle.fk_lex.proofs.Extents.{byte_within}
use Rattle.fk_lex.proofs.Parts.{some_text, text_begins}
use Rattle.fk_lex.proofs.Reached.{reached_less, empty_list}

-- comments

same_or_not : (c d : ℕ) → (c ≡ d) ⊎ (c ≡ d → ⊥)
same_or_not c d =
    ⊎_elim (λ less. inr (λ same. absurd (omega arith))) (λ not_less. ⊎_elim (λ less. inr (λ same. absurd (omega arith))) (λ not_more. inl (omega arith)) (cases_lt d c)) (cases_lt c d)

both_or_not : {P Q : Type 0} → P ⊎ (P → ⊥) → Q ⊎ (Q → ⊥) → (P × Q) ⊎ (P × Q → ⊥)
both_or_not (inl p) (inl q) = inl (p, q)
both_or_not (inl p) (inr never) = inr (λ both. never both.1)
both_or_not (inr never) _ = inr (λ both. never both.0)

ends_or_not : (text : List ℕ) (k : ℕ) → EndsAt text k ⊎ (EndsAt text k → ⊥)
ends_or_not text k = both_or_not (same_or_not (get_or text k 0) 42) (same_or_not (get_or text (k + 1) 0) 47)

-- the first end of a comment, or none before this index
abbrev EndBefore : List ℕ → ℕ → Type 0
EndBefore text k = ((n : ℕ) × CommentTo text n) ⊎ ((m : ℕ) → 2 ≤ m → m < k → EndsAt text m → ⊥)

end_next : (text : List ℕ) (k : ℕ) → EndBefore text k → (k < 2) ⊎ (2 ≤ k) → EndsAt text k ⊎ (EndsAt text k → ⊥) → EndBefore text (suc k)
end_next text k (inl found) size here = inl found
end_next text k (inr none) (inl small) here = inr (λ m behind below ends. absurd (omega arith))
end_next text k (inr none) (inr large) (inl here) = inl (k, record { behind = large; ends = here; next = none })
end_next text k (inr none) (inr large) (inr other) =
    inr (λ m behind below ends. ⊎_elim (λ less. none m behind less ends) (λ past. let same : m ≡ k = omega arith in other (subst (EndsAt text) same ends)) (cases_lt m k))

end_before : (text : List ℕ) (k : ℕ) → EndBefore text k
end_before text zero = inr (λ m behind below ends. absurd (omega arith))
end_before text (suc k) = end_next text k (end_before text k) (cases_lt k 2) (ends_or_not text k)

comment_by : (text : List ℕ) → EndBefore text (length text) → (s : Step) × CommentStep text s
comment_by text (inl found) = (Gap (found.0 + 2), inl (found.0, found.1, refl))
comment_by text (inr none) =
    (Fault 0 OpenComment, inr (λ m behind ends. none m behind (byte_within text m 42 ends.0 (omega arith)) ends, refl))

-- tokens

-- the longest of the fronts below this length that spell a token, or none
abbrev LongestBelow : List ℕ → ℕ → Type 0
LongestBelow text k =
    ((n : ℕ) × (kind : TokenKind) × (n < k) × (kind_of (take n text) ≡ Some kind) × ((m : ℕ) → n < m → m < k → kind_of (take m text) ≡ None))
    ⊎ ((m : ℕ) → m < k → kind_of (take m text) ≡ None)

none_at : (text : List ℕ) (k m : ℕ) → kind_of (take k text) ≡ None → m ≡ k → kind_of (take m text) ≡ None
none_at text k m none same = let P : ℕ → Type 0 = λ i. kind_of (take i text) ≡ None in subst P (omega arith) none

longest_next : (text : List ℕ) (k : ℕ) → LongestBelow text k → (found : Option TokenKind) → kind_of (take k text) ≡ found → LongestBelow text (suc k)
longest_next text k before (Some kind) is = inl (k, kind, omega arith, is, λ m more below. absurd (omega arith))
longest_next text k (inl before) None is =
    let inside = before.2 in
    inl (before.0, before.1, omega arith, before.3, λ m more below. ⊎_elim (λ less. before.4 m more less) (λ past. none_at text k m is (omega arith)) (cases_lt m k))
longest_next text k (inr none) None is =
    inr (λ m below. ⊎_elim (λ less. none m less) (λ past. none_at text k m is (omega arith)) (cases_lt m k))

longest_below : (text : List ℕ) (k : ℕ) → LongestBelow text k
longest_below text zero = inr (λ m below. absurd (omega arith))
longest_below text (suc k) = longest_next text k (longest_below text k) (kind_of (take k text)) refl

token_by : (text : List ℕ) → LongestBelow text (suc (length text)) → (s : Step) × TokenStep text s
token_by text (inl found) =
    let inside = found.2 in (
      token_or_fault text found.0 found.1,
      inl (found.0, found.1, record { within = omega arith; spells = found.3; longest = λ m more within. found.4 m more (omega arith) }, refl),
    )
token_by text (inr none) = (Fault 0 BadByte, inr (λ m within. none m (omega arith), refl))

-- texts in quotes

quoted : (text : List ℕ) → 0 < length text → get_or text 0 0 ≡ 34 → (s : Step) × TextStep text s
quoted [] some quote = absurd (omega arith)
quoted (c ∷ cs) some quote = subst (λ c. (s : Step) × TextStep (c ∷ cs) s) (sym quote) (some_text cs)

-- whatever a text begins with

step_by : (b : Beginning) (before text : List ℕ) → 0 < length text → b ≡ beginning text → (s : Step) × StepBy b before text s
step_by begins.Blank before text some is = (Gap 1, refl)
step_by begins.Comment before text some is = comment_by text (end_before text (length text))
step_by begins.LineComment before text some is = (Gap (line_length text), refl)
step_by begins.Directive before text some is = (directive_step (only_blanks before) text, refl)
step_by begins.Character before text some is = (character_step text, refl)
step_by begins.Text before text some is = quoted text some (text_begins text is)
step_by begins.Other before text some is = token_by text (longest_below text (suc (length text)))

some_next_step : (before text : List ℕ) → 0 < length text → (s : Step) × NextStep before text s
some_next_step before text some = step_by (beginning text) before text some refl

-- a text is cut up to its end or up to a fault
abbrev IsCut : List ℕ → List ℕ → Type 0
IsCut before text = (pieces : List Step) × (end : Option LexFault) × Cuts pieces before text end

cut_on : (size : ℕ) (before text : List ℕ) → 0 < length text → length text ≤ suc size → (step : Step) → NextStep before text step → ((before text : List ℕ) → length text ≤ size → IsCut before text) → IsCut before text
cut_on size before text some small (Gap n) stands onward =
    let less = reached_less before text (Gap n) some stands tt in
    let rest = onward (before ++ take n text) (drop n text) (omega arith) in
    (Gap n ∷ rest.0, rest.1, (some, stands, tt, rest.2))
cut_on size before text some small (Token n kind) stands onward =
    let less = reached_less before text (Token n kind) some stands tt in
    let rest = onward (before ++ take n text) (drop n text) (omega arith) in
    (Token n kind ∷ rest.0, rest.1, (some, stands, tt, rest.2))
cut_on size before text some small (Fault n kind) stands onward =
    ([], Some (fault_at kind (place_behind (before ++ take n text))), (n, kind, some, stands, refl))

cut_more : (size : ℕ) (before text : List ℕ) → length text ≤ suc size → ((before text : List ℕ) → length text ≤ size → IsCut before text) → IsCut before text
cut_more size before [] small onward = ([], None, refl)
cut_more size before (c ∷ cs) small onward =
    let stands = some_next_step before (c ∷ cs) (omega arith) in
    cut_on size before (c ∷ cs) (omega arith) small stands.0 stands.1 onward

cut : (size : ℕ) (before text : List ℕ) → length text ≤ size → IsCut before text
cut zero before text small = ([], None, empty_list text (omega arith))
cut (suc size) before text small = cut_more size before text small (λ before text small. cut size before text small)

reading_of : (text : List ℕ) (pieces : List Step) (end : Option LexFault) → Cuts pieces [] text end → ((list : List Spelled) × Tokens text list) ⊎ ((found : LexFault) × Faults text found)
reading_of text pieces None cuts = inl (tokens_in pieces [] text, (pieces, cuts, refl))
reading_of text pieces (Some found) cuts = inr (found, (pieces, cuts))

-- a text has tokens or a fault
pub some_reading : (text : List ℕ) → ((list : List Spelled) × Tokens text list) ⊎ ((found : LexFault) × Faults text found)
some_reading text = let whole = cut (length text) [] text (omega arith) in reading_of text whole.0 whole.1 whole.2
