-- Every text has exactly one list of tokens or exactly one fault.
use Rattle.std.proofs.Common.{◌≡◌, ℕ, ◌+◌, ◌<◌, inl, inr, ⊎_elim, Option, Some, None, List, [], ◌∷◌, ◌++◌, length, take, drop, refl, sym, ap, subst, ◌∙◌, arith}
use Rattle.std.proofs.lemmas.Bool.{cases_lt}
use Rattle.fk_lex.specs.declared.step.Beginning.{Beginning}
use Rattle.fk_lex.specs.declared.step.Beginning.TheVariants as begins
use Rattle.fk_lex.specs.declared.step.FaultKind.{FaultKind}
use Rattle.fk_lex.specs.declared.step.Step.{Step}
use Rattle.fk_lex.specs.declared.step.Step.TheVariants.{Gap, Fault}
use Rattle.fk_lex.specs.declared.token.TokenKind.{TokenKind}
use Rattle.fk_lex.specs.declared.token.LexFault.{LexFault}
use Rattle.fk_lex.specs.Kinds.{kind_of, Longest}
use Rattle.fk_lex.specs.Positions.{place_behind}
use Rattle.fk_lex.specs.Reading.{Spelled, fault_at, IsPiece, Cuts, tokens_in, Tokens, Faults, OneReading}
use Rattle.fk_lex.specs.Sizes.{size_of}
use Rattle.fk_lex.specs.Steps.{CommentTo, CommentStep, TokenStep, token_or_fault, StepBy, NextStep, beginning}
use Rattle.fk_lex.proofs.Existence.{some_reading}
use Rattle.fk_lex.proofs.Parts.{text_once}

-- neither of two numbers is below the other
same_by : (m n : ℕ) → (m < n → ⊥) → (n < m → ⊥) → m ≡ n
same_by m n above below =
    ⊎_elim (λ less. absurd (above less)) (λ not_less. ⊎_elim (λ less. absurd (below less)) (λ not_more. omega arith) (cases_lt n m)) (cases_lt m n)

comment_end_once : (text : List ℕ) (m n : ℕ) → CommentTo text m → CommentTo text n → m ≡ n
comment_end_once text m n a b = same_by m n (λ less. b.next m a.behind less a.ends) (λ less. a.next n b.behind less b.ends)

comment_once : (text : List ℕ) (s t : Step) → CommentStep text s → CommentStep text t → s ≡ t
comment_once text s t (inl a) (inl b) = a.2 ∙ ap (λ n. Gap (n + 2)) (comment_end_once text a.0 b.0 a.1 b.1) ∙ sym b.2
comment_once text s t (inl a) (inr b) = absurd (b.0 a.0 a.1.behind a.1.ends)
comment_once text s t (inr a) (inl b) = absurd (a.0 b.0 b.1.behind b.1.ends)
comment_once text s t (inr a) (inr b) = a.1 ∙ sym b.1

not_both : (k : TokenKind) (found : Option TokenKind) → found ≡ Some k → found ≡ None → ⊥
not_both k found some none = cc

longest_size : (text : List ℕ) (m n : ℕ) (k l : TokenKind) → Longest text m k → Longest text n l → m ≡ n
longest_size text m n k l a b =
    same_by m n (λ less. not_both l _ b.spells (a.longest n less b.within)) (λ less. not_both k _ a.spells (b.longest m less a.within))

some_once : (k l : TokenKind) (found : Option TokenKind) → found ≡ Some k → found ≡ Some l → k ≡ l
some_once k l found a b = cc

longest_once : (text : List ℕ) (m n : ℕ) (k l : TokenKind) → Longest text m k → Longest text n l → token_or_fault text m k ≡ token_or_fault text n l
longest_once text m n k l a b =
    let size = longest_size text m n k l a b in
    let kind : k ≡ l = some_once k l _ a.spells (subst (λ i. kind_of (take i text) ≡ Some l) (sym size) b.spells) in
    ap (λ i. token_or_fault text i k) size ∙ ap (λ k. token_or_fault text n k) kind

token_once : (text : List ℕ) (s t : Step) → TokenStep text s → TokenStep text t → s ≡ t
token_once text s t (inl a) (inl b) = a.3 ∙ longest_once text a.0 b.0 a.1 b.1 a.2 b.2 ∙ sym b.3
token_once text s t (inl a) (inr b) = absurd (not_both a.1 _ a.2.spells (b.0 a.0 a.2.within))
token_once text s t (inr a) (inl b) = absurd (not_both b.1 _ b.2.spells (a.0 b.0 b.2.within))
token_once text s t (inr a) (inr b) = a.1 ∙ sym b.1

by_beginning : (b : Beginning) (before text : List ℕ) (s t : Step) → StepBy b before text s → StepBy b before text t → s ≡ t
by_beginning begins.Blank before text s t a b = a ∙ sym b
by_beginning begins.Comment before text s t a b = comment_once text s t a b
by_beginning begins.LineComment before text s t a b = a ∙ sym b
by_beginning begins.Directive before text s t a b = a ∙ sym b
by_beginning begins.Character before text s t a b = a ∙ sym b
by_beginning begins.Text before text s t a b = text_once text s t a b
by_beginning begins.Other before text s t a b = token_once text s t a b

-- one thing stands at a position
pub next_step_once : (before text : List ℕ) (s t : Step) → NextStep before text s → NextStep before text t → s ≡ t
next_step_once before text s t a b = by_beginning (beginning text) before text s t a b

not_empty : (text : List ℕ) → text ≡ [] → 0 < length text → ⊥
not_empty text is some = let none = ap length is in omega arith

fault_no_piece : (n : ℕ) (kind : FaultKind) (s : Step) → Fault n kind ≡ s → IsPiece s → ⊥
fault_no_piece n kind s same piece = subst IsPiece (sym same) piece

fault_sizes : (m n : ℕ) (k l : FaultKind) → Fault m k ≡ Fault n l → (m ≡ n) × (k ≡ l)
fault_sizes m n k l same = (cc, cc)

-- a text is cut in one way
cut_once : (ps qs : List Step) (before text : List ℕ) (e f : Option LexFault) → Cuts ps before text e → Cuts qs before text f → (ps ≡ qs) × (e ≡ f)
cut_once [] [] before text None None a b = (refl, refl)
cut_once [] [] before text None (Some y) a b = absurd (not_empty text a b.2)
cut_once [] [] before text (Some x) None a b = absurd (not_empty text b a.2)
cut_once [] [] before text (Some x) (Some y) a b =
    let same = fault_sizes a.0 b.0 a.1 b.1 (next_step_once before text (Fault a.0 a.1) (Fault b.0 b.1) a.3 b.3) in
    let found = a.4 ∙ ap (λ n. fault_at a.1 (place_behind (before ++ take n text))) same.0 ∙ ap (λ k. fault_at k (place_behind (before ++ take b.0 text))) same.1 ∙ sym b.4 in
    (refl, ap Some found)
cut_once [] (q ∷ qs) before text None f a b = absurd (not_empty text a b.0)
cut_once (p ∷ ps) [] before text e None a b = absurd (not_empty text b a.0)
cut_once [] (q ∷ qs) before text (Some x) f a b = absurd (fault_no_piece a.0 a.1 q (next_step_once before text (Fault a.0 a.1) q a.3 b.1) b.2)
cut_once (p ∷ ps) [] before text e (Some y) a b = absurd (fault_no_piece b.0 b.1 p (next_step_once before text (Fault b.0 b.1) p b.3 a.1) a.2)
cut_once (p ∷ ps) (q ∷ qs) before text e f a b =
    let same = next_step_once before text q p b.1 a.1 in
    let others = subst (λ s. Cuts qs (before ++ take (size_of s) text) (drop (size_of s) text) f) same b.3 in
    let rest = cut_once ps qs (before ++ take (size_of p) text) (drop (size_of p) text) e f a.3 others in
    (ap (λ l. p ∷ l) rest.0 ∙ ap (λ s. s ∷ qs) (sym same), rest.1)

tokens_once : (text : List ℕ) (list other : List Spelled) → Tokens text list → Tokens text other → list ≡ other
tokens_once text list other a b =
    let same = cut_once a.0 b.0 [] text None None a.1 b.1 in
    a.2 ∙ ap (λ pieces. tokens_in pieces [] text) same.0 ∙ sym b.2

found_once : (x y : LexFault) → Some x ≡ Some y → x ≡ y
found_once x y same = cc

faults_once : (text : List ℕ) (found other : LexFault) → Faults text found → Faults text other → found ≡ other
faults_once text found other a b =
    found_once found other (cut_once a.0 b.0 [] text (Some found) (Some other) a.1 b.1).1

none_found : (x : LexFault) → None ≡ Some x → ⊥
none_found x same = cc

tokens_or_fault : (text : List ℕ) (list : List Spelled) (found : LexFault) → Tokens text list → Faults text found → ⊥
tokens_or_fault text list found a b = none_found found (cut_once a.0 b.0 [] text None (Some found) a.1 b.1).1

pub one_reading : OneReading
one_reading = record { some = some_reading; tokens = tokens_once; faults = faults_once; apart = tokens_or_fault }
