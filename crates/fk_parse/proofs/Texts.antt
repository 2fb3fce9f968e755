-- A text is read as the grammar says, and tokens have one answer.
use Rattle.std.proofs.Common.{◌≡◌, ℕ, suc, ◌+◌, List, [], ◌∷◌, Option, Some, None, Result, Ok, Err, length, ◌⊎◌, inl, inr, refl, sym, ap, ◌∙◌, arith}
use Rattle.std.proofs.lemmas.List.{append-nil}
use Rattle.fk_syntax.specs.Program.{ItemTree, ProgramTree}
use Rattle.fk_lex.specs.Reading.{Spelled}
use Rattle.fk_parse_combinators.specs.declared.fault.SyntaxFault.{SyntaxFault}
use Rattle.fk_parse_combinators.specs.declared.fault.SyntaxFault.TheVariants as fault
use Rattle.fk_parse_combinators.specs.Languages.{Placed, Stretch, tokens_of, numbered}
use Rattle.fk_parse_combinators.specs.Reads.{Stop, Unexpected, EndOfText, Nesting, Answer, IsLongest, Reads}
use Rattle.fk_parse_combinators.specs.Faults.{IsMemory}
use Rattle.fk_parse_combinators.proofs.Longest.{reads, one_value}
use Rattle.fk_parse_combinators.proofs.Stretches.{sum_of_levels, within_sum}
use Rattle.fk_parse_combinators.proofs.Determined.{one_longest, longest_not_deep, one_answer}
use Rattle.fk_parse.specs.Items.{Items}
use Rattle.fk_parse.specs.Parses.{SpellsItems, ReadsText, SpellsProgram, end_of, beginning, OneText, OneTree, OneProgram}
use Rattle.fk_parse.specs.Refusals.{RefusesTokens, HasTree, HasFault, TreeOrFault, OneFault}
use Rattle.fk_parse.specs.Reading.{read_items, ended, read_text}
use Rattle.fk_parse.proofs.Items.{faithful_within, faithful_items}

-- what is answered of the items of a text says what is answered of the text
ended_reads : (tokens : List Placed) (answer : Answer (List ItemTree)) → Reads Items tokens answer → ReadsText tokens (ended answer)
ended_reads tokens (Ok (items, [])) w = record { stretch = w.stretch; is = w.longest.first ∙ append-nil (tokens_of w.stretch); spelled = w.spelled; shallow = w.shallow }
ended_reads tokens (Ok (items, t ∷ rest)) w = record { stretch = w.stretch; longest = w.longest; some = omega arith; shallow = w.shallow }
ended_reads tokens (Err (Unexpected rest)) w = record { stretch = w.0.stretch; longest = w.0.longest; some = w.1; shallow = w.0.shallow }
ended_reads tokens (Err EndOfText) w = w
ended_reads tokens (Err (Nesting rest)) w = w

-- a text is the longest stretch that begins one
whole_reads : (tokens : List Placed) (items : List ItemTree) → SpellsItems tokens items → Reads Items tokens (Ok (items, []))
whole_reads tokens items w = record {
  stretch = w.stretch;
  longest = record {
    first = w.is ∙ sym (append-nil (tokens_of w.stretch));
    begins = ([], items, rw (append-nil w.stretch) w.spelled);
    longest = λ t others e. cc;
  };
  spelled = w.spelled;
  shallow = w.shallow;
}

-- what is read of a text
pub reads_text : (tokens : List Placed) → ReadsText tokens (read_text tokens)
reads_text tokens = ended_reads tokens (read_items tokens) (reads faithful_items tokens)

-- ---- one answer

-- a text is read as its items are, and so are its tokens
matches : (tokens : List Placed) (answer : Answer (List ItemTree)) (text : Result (List ItemTree) Stop) → Reads Items tokens answer → ReadsText tokens text → ended answer ≡ text
matches tokens answer (Ok items) r w = ap ended (one_answer faithful_items tokens answer (Ok (items, [])) r (whole_reads tokens items w))
matches tokens answer (Err EndOfText) r w = ap ended (one_answer faithful_items tokens answer (Err EndOfText) r w)
matches tokens answer (Err (Nesting rest)) r w = ap ended (one_answer faithful_items tokens answer (Err (Nesting rest)) r w)
matches tokens answer (Err (Unexpected [])) r w = absurd (omega (arith, w.some))
matches tokens answer (Err (Unexpected (t ∷ rest))) r w = by answer r
  where
    left : (s : Stretch) (others : List Placed) → IsLongest Items tokens s others → others ≡ t ∷ rest
    left s others v = (one_longest Items tokens s w.stretch others (t ∷ rest) v w.longest).1

    by : (answer : Answer (List ItemTree)) → Reads Items tokens answer → ended answer ≡ Err (Unexpected (t ∷ rest))
    by (Ok (items, others)) v = rw (left v.stretch others v.longest) refl
    by (Err (Unexpected others)) v = ap (λ z. Err (Unexpected z)) (left v.0.stretch others v.0.longest)
    by (Err EndOfText) v = let none = left v.stretch [] v.longest in absurd (cc)
    by (Err (Nesting others)) v = absurd (longest_not_deep faithful_items tokens w.stretch (t ∷ rest) others w.longest w.shallow v)

-- tokens have one answer as a text
pub one_text : OneText
one_text tokens = (read_text tokens, reads_text tokens, λ other w. sym (matches tokens (read_items tokens) other (reads faithful_items tokens) w))

-- so two answers are one
same_text : (tokens : List Placed) (x y : Result (List ItemTree) Stop) → ReadsText tokens x → ReadsText tokens y → x ≡ y
same_text tokens x y v w = let one = one_text tokens in one.2 x v ∙ sym (one.2 y w)

-- ---- one tree

-- tokens spell one list of items, however deep they nest
pub one_list : OneTree
one_list tokens a b v w =
    let left : ℕ = sum_of_levels v.0 + sum_of_levels w.0 in
    one_value (faithful_within left) v.0 w.0 a b v.2 w.2 (v.1 ∙ sym w.1)
    (within_sum (suc (suc left)) v.0 (omega arith)) (within_sum (suc (suc left)) w.0 (omega arith))

-- ---- one program

-- two programs with the same parts
same_program : (p q : ProgramTree) → p.items ≡ q.items → p.end ≡ q.end → p.tokens ≡ q.tokens → p ≡ q
same_program p q i e t = λ k. record { items = i k; end = e k; tokens = t k }

-- the items that are answered
abbrev items_of : Result (List ItemTree) Stop → List ItemTree
items_of (Ok items) = items
items_of (Err stop) = []

-- a list of tokens is that of one program
pub one_tree : OneProgram
one_tree tokens p q v w =
    same_program p q (ap items_of (same_text (numbered 0 tokens) (Ok p.items) (Ok q.items) v.items w.items)) (v.end ∙ sym w.end) (v.count ∙ sym w.count)

-- ---- a program or a fault

-- tokens with an answer have no other
not_both : (tokens : List Placed) (items : List ItemTree) (stop : Stop) → ReadsText tokens (Ok items) → ReadsText tokens (Err stop) → ⊥
not_both tokens items stop v w = let e = same_text tokens (Ok items) (Err stop) v w in cc

-- tokens of a program are refused for want of memory alone
not_refused : (tokens : List Spelled) (items : List ItemTree) → ReadsText (numbered 0 tokens) (Ok items) → (fault : SyntaxFault) → RefusesTokens tokens fault → IsMemory fault
not_refused tokens items v (fault.Unexpected place) r = not_both (numbered 0 tokens) items (Unexpected (r.0 ∷ r.1)) v r.3
not_refused tokens items v fault.EndOfText r = not_both (numbered 0 tokens) items EndOfText v r
not_refused tokens items v (fault.Nesting place) r = not_both (numbered 0 tokens) items (Nesting (r.0 ∷ r.1)) v r.3
not_refused tokens items v (fault.Memory error) r = tt

-- tokens that are stopped at are refused, and those of no program
has_fault : (tokens : List Spelled) (stop : Stop) → ReadsText (numbered 0 tokens) (Err stop) → HasFault tokens
has_fault tokens (Unexpected []) r = absurd (omega (arith, r.some))
has_fault tokens (Unexpected (t ∷ rest)) r =
    (fault.Unexpected t.place, (t, rest, refl, r), λ h. h, λ program d. not_both (numbered 0 tokens) program.items (Unexpected (t ∷ rest)) d.items r)
has_fault tokens EndOfText r = (fault.EndOfText, r, λ h. h, λ program d. not_both (numbered 0 tokens) program.items EndOfText d.items r)
has_fault tokens (Nesting []) r = let e = r.next in absurd (cc)
has_fault tokens (Nesting (t ∷ rest)) r =
    (fault.Nesting t.place, (t, rest, refl, r), λ h. h, λ program d. not_both (numbered 0 tokens) program.items (Nesting (t ∷ rest)) d.items r)

-- and so are those that a program derives from
pub tree_or_fault : (tokens : List Spelled) (program : ProgramTree) (fault : SyntaxFault) → SpellsProgram tokens program → RefusesTokens tokens fault → IsMemory fault
tree_or_fault tokens program fault d r = not_refused tokens program.items d.items fault r

-- tokens are those of a program, or they are refused
pub has_tree_or_fault : TreeOrFault
has_tree_or_fault tokens = let one = one_text (numbered 0 tokens) in by one.0 one.1
  where
    by : (answer : Result (List ItemTree) Stop) → ReadsText (numbered 0 tokens) answer → HasTree tokens ⊎ HasFault tokens
    by (Ok items) v =
        let program : ProgramTree = record { items = items; end = end_of beginning tokens; tokens = length tokens } in
        inl (program, record { items = v; end = refl; count = refl }, not_refused tokens items v)
    by (Err stop) r = inr (has_fault tokens stop r)

-- ---- one fault

-- the fault of the token at which reading stops
abbrev fault_of : Stop → Option SyntaxFault
fault_of (Unexpected (t ∷ rest)) = Some (fault.Unexpected t.place)
fault_of EndOfText = Some fault.EndOfText
fault_of (Nesting (t ∷ rest)) = Some (fault.Nesting t.place)
fault_of stop = None

-- what is told, but for want of memory, is the fault of a token at which reading stops
stops_at : (tokens : List Spelled) (f : SyntaxFault) → RefusesTokens tokens f → ¬ IsMemory f → (stop : Stop) × ReadsText (numbered 0 tokens) (Err stop) × (fault_of stop ≡ Some f)
stops_at tokens (fault.Unexpected place) r m = (Unexpected (r.0 ∷ r.1), r.3, ap (λ p. Some (fault.Unexpected p)) r.2)
stops_at tokens fault.EndOfText r m = (EndOfText, r, refl)
stops_at tokens (fault.Nesting place) r m = (Nesting (r.0 ∷ r.1), r.3, ap (λ p. Some (fault.Nesting p)) r.2)
stops_at tokens (fault.Memory error) r m = absurd (m tt)

-- tokens are refused by one fault
pub one_fault : OneFault
one_fault tokens f g v w m n =
    let a = stops_at tokens f v m in
    let b = stops_at tokens g w n in
    let same : a.0 ≡ b.0 = let both = same_text (numbered 0 tokens) (Err a.0) (Err b.0) a.1 b.1 in cc in
    let both : Some f ≡ Some g = sym a.2 ∙ ap fault_of same ∙ b.2 in
    cc
