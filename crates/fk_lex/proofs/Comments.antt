-- Comments are made of what they should be.
use Rattle.std.proofs.Common.{◌≡◌, ℕ, zero, suc, ◌+◌, ◌<◌, ◌≤◌, inl, inr, ⊎_elim, Bool, true, false, List, [], ◌∷◌, ◌++◌, length, take, drop, get_or, refl, sym, ap, subst, ◌∙◌, arith, take-append-drop, drop-cons, codes}
use Rattle.std.proofs.lemmas.Bool.{cases_lt}
use Rattle.std.proofs.lemmas.Bool.Decides.{nat_tests}
use Rattle.std.proofs.lemmas.List.{get_or-take, get_or_append_left, get_or_at, get_or-append-add, length-take-le}
use Rattle.std.proofs.lemmas.List.Sums.{prefix_len-le-length}
use Rattle.std.specs.List.{prefix_len, list_all}
use Rattle.fk_lex.specs.declared.step.FaultKind.TheVariants.{OpenComment}
use Rattle.fk_lex.specs.declared.step.Step.TheVariants.{Gap, Fault}
use Rattle.fk_lex.specs.Positions.{in_line, EndsLine}
use Rattle.fk_lex.specs.Spellings.{HasCommentEnd, IsComment, AreInLine, IsLineComment}
use Rattle.fk_lex.specs.Steps.{EndsAt, CommentTo, CommentStep, line_length, NextStep}
use Rattle.fk_lex.proofs.Extents.{byte_within}
use Rattle.fk_lex.proofs.Fronts.{all_longest, length_more, length_none}
use Rattle.fk_lex.proofs.Tests.{both_true}

-- `*/` stands in these bytes at this index
abbrev EndAt : List ℕ → ℕ → Type 0
EndAt bytes k = (get_or bytes k 0 ≡ 42) × (get_or bytes (suc k) 0 ≡ 47)

-- what stands before and behind it
end_parts : (bytes : List ℕ) (k : ℕ) → EndAt bytes k → bytes ≡ take k bytes ++ (codes "*/" ++ drop (suc (suc k)) bytes)
end_parts bytes k at =
    let star = drop-cons bytes k 0 (byte_within bytes k 42 at.0 (omega arith)) in
    let slash = drop-cons bytes (suc k) 0 (byte_within bytes (suc k) 47 at.1 (omega arith)) in
    let behind = drop (suc (suc k)) bytes in
    sym (take-append-drop k bytes)
    ∙ ap (λ l. take k bytes ++ l) (star ∙ ap (λ l. get_or bytes k 0 ∷ l) slash ∙ ap (λ c. c ∷ get_or bytes (suc k) 0 ∷ behind) at.0 ∙ ap (λ c. 42 ∷ c ∷ behind) at.1)

end_in : (bytes : List ℕ) (k : ℕ) → EndAt bytes k → HasCommentEnd bytes
end_in bytes k at = (take k bytes, drop (suc (suc k)) bytes, end_parts bytes k at)

-- where it stands
end_index : (bytes before behind : List ℕ) → bytes ≡ before ++ (codes "*/" ++ behind) → EndAt bytes (length before)
end_index bytes before behind is =
    let next : suc (length before) ≡ length before + 1 = omega arith in (
      ap (λ l. get_or l (length before) 0) is ∙ get_or_at before 42 (47 ∷ behind) 0 (length before) refl,
      ap (λ l. get_or l (suc (length before)) 0) is ∙ ap (λ n. get_or (before ++ 42 ∷ 47 ∷ behind) n 0) next ∙ get_or-append-add before (42 ∷ 47 ∷ behind) 1 0,
    )

-- an end of a comment in the text is one in what follows its first two bytes
end_behind : (body : List ℕ) (k : ℕ) → EndsAt (47 ∷ 42 ∷ body) (suc (suc k)) → EndAt body k
end_behind body k ends =
    let next : suc (suc k) + 1 ≡ suc (suc (suc k)) = omega arith in
    (ends.0, ap (λ n. get_or (47 ∷ 42 ∷ body) n 0) (sym next) ∙ ends.1)

end_before_two : (body : List ℕ) (k : ℕ) → EndAt body k → EndsAt (47 ∷ 42 ∷ body) (suc (suc k))
end_before_two body k at =
    let next : suc (suc k) + 1 ≡ suc (suc (suc k)) = omega arith in
    (at.0, ap (λ n. get_or (47 ∷ 42 ∷ body) n 0) next ∙ at.1)

-- the end of a part of the bytes is one of the bytes
end_of_front : (body : List ℕ) (k i : ℕ) → suc i < k → EndAt (take k body) i → EndAt body i
end_of_front body k i inside at =
    (sym (get_or-take k body i 0 (omega arith)) ∙ at.0, sym (get_or-take k body (suc i) 0 inside) ∙ at.1)

front_small : (body : List ℕ) (k i : ℕ) → k ≤ length body → EndAt (take k body) i → suc i < k
front_small body k i within at =
    let last = byte_within (take k body) (suc i) 47 at.1 (omega arith) in
    let size = length-take-le k body within in
    omega arith

comment_parts : (body : List ℕ) (n k : ℕ) → CommentTo (47 ∷ 42 ∷ body) (suc (suc k)) → n ≡ suc (suc k) + 2 → IsComment (47 ∷ 42 ∷ body) n
comment_parts body n k comment is =
    let at = end_behind body k comment.ends in
    let inside = byte_within body k 42 at.0 (omega arith) in
    let size = length-take-le k body (omega arith) in (
      take k body,
      drop (suc (suc k)) body,
      λ has.
          let i = length has.0 in
          let there = end_index (take k body) has.0 has.1 has.2 in
          let small = front_small body k i (omega arith) there in
          comment.next (suc (suc i)) (omega arith) (omega arith) (end_before_two body i (end_of_front body k i small there)),
      ap (λ l. 47 ∷ 42 ∷ l) (end_parts body k at),
      omega arith,
    )

two_more : (m : ℕ) → 2 ≤ m → (k : ℕ) × (m ≡ suc (suc k))
two_more zero more = absurd (omega arith)
two_more (suc zero) more = absurd (omega arith)
two_more (suc (suc k)) more = (k, refl)

gap_size : (m n : ℕ) → Gap n ≡ Gap m → n ≡ m
gap_size m n is = cc

commented_by : (body : List ℕ) (n : ℕ) → CommentStep (47 ∷ 42 ∷ body) (Gap n) → IsComment (47 ∷ 42 ∷ body) n
commented_by body n (inl a) =
    let two = two_more a.0 a.1.behind in
    let size = gap_size (a.0 + 2) n a.2 in
    comment_parts body n two.0 (subst (CommentTo (47 ∷ 42 ∷ body)) two.1 a.1) (size ∙ ap (λ m. m + 2) two.1)
commented_by body n (inr a) = absurd cc

pub commented : (before body : List ℕ) (n : ℕ) → NextStep before (codes "/*" ++ body) (Gap n) → IsComment (codes "/*" ++ body) n
commented before body n stands = commented_by body n stands

-- an end in the bytes of a comment and its end is no earlier than its end
end_in_inside : (inside rest : List ℕ) (i : ℕ) → i < length inside → EndAt (inside ++ (42 ∷ 47 ∷ rest)) i → HasCommentEnd inside
end_in_inside inside rest i within at =
    ⊎_elim
    (λ less. end_in inside i (sym (get_or_append_left inside (42 ∷ 47 ∷ rest) 0 i within) ∙ at.0, sym (get_or_append_left inside (42 ∷ 47 ∷ rest) 0 (suc i) less) ∙ at.1))
    (λ past.
    let last : length inside ≡ suc i = omega arith in
    let star : get_or (inside ++ (42 ∷ 47 ∷ rest)) (suc i) 0 ≡ 42 = get_or_at inside 42 (47 ∷ rest) 0 (suc i) last in
    let slash = at.1 in
    absurd (omega arith))
    (cases_lt (suc i) (length inside))

comment_to : (inside rest : List ℕ) → (HasCommentEnd inside → ⊥) → CommentTo (47 ∷ 42 ∷ (inside ++ (42 ∷ 47 ∷ rest))) (suc (suc (length inside)))
comment_to inside rest none = record {
  behind = omega arith;
  ends = end_before_two (inside ++ (42 ∷ 47 ∷ rest)) (length inside) (end_index (inside ++ (42 ∷ 47 ∷ rest)) inside rest refl);
  next = λ m behind below ends.
      let two = two_more m behind in
      let same = two.1 in
      none (end_in_inside inside rest two.0 (omega arith) (end_behind (inside ++ (42 ∷ 47 ∷ rest)) two.0 (subst (EndsAt (47 ∷ 42 ∷ (inside ++ (42 ∷ 47 ∷ rest)))) same ends)));
}

pub comments : (before text : List ℕ) (n : ℕ) → IsComment text n → NextStep before text (Gap n)
comments before text n is =
    let size : n ≡ suc (suc (length is.0)) + 2 = let counted = is.4 in omega arith in
    let step : CommentStep (47 ∷ 42 ∷ (is.0 ++ (42 ∷ 47 ∷ is.1))) (Gap n) = inl (suc (suc (length is.0)), comment_to is.0 is.1 is.2, ap Gap size) in
    subst (λ text. NextStep before text (Gap n)) (sym is.3) step

-- comments that aren't closed

unclosed_by : (body : List ℕ) → CommentStep (47 ∷ 42 ∷ body) (Fault 0 OpenComment) → HasCommentEnd body → ⊥
unclosed_by body (inl a) has = absurd cc
unclosed_by body (inr a) has =
    a.0 (suc (suc (length has.0))) (omega arith) (end_before_two body (length has.0) (end_index body has.0 has.1 has.2))

pub unclosed : (before body : List ℕ) → NextStep before (codes "/*" ++ body) (Fault 0 OpenComment) → HasCommentEnd body → ⊥
unclosed before body stands has = unclosed_by body stands has

opened_by : (body : List ℕ) → (HasCommentEnd body → ⊥) → CommentStep (47 ∷ 42 ∷ body) (Fault 0 OpenComment)
opened_by body none =
    inr (λ m behind ends. let two = two_more m behind in none (end_in body two.0 (end_behind body two.0 (subst (EndsAt (47 ∷ 42 ∷ body)) two.1 ends))), refl)

pub opened : (before body : List ℕ) → (HasCommentEnd body → ⊥) → NextStep before (codes "/*" ++ body) (Fault 0 OpenComment)
opened before body none = opened_by body none

-- comments to the end of the line

newline : (c : ℕ) → in_line c ≡ false → c ≡ 10
newline c is = grind (arith, nat_tests)

no_newline : (c : ℕ) → c ≡ 10 → in_line c ≡ false
no_newline c is = grind (arith, nat_tests)

line_ends_by : (c : ℕ) (cs : List ℕ) (b : Bool) → in_line c ≡ b → EndsLine (drop (prefix_len in_line cs) cs) → EndsLine (drop (prefix_len in_line (c ∷ cs)) (c ∷ cs))
line_ends_by c cs true is behind = subst (λ n. EndsLine (drop n (c ∷ cs))) (sym (length_more in_line c cs is)) behind
line_ends_by c cs false is behind = subst (λ n. EndsLine (drop n (c ∷ cs))) (sym (length_none in_line c cs is)) (newline c is)

line_ends : (body : List ℕ) → EndsLine (drop (prefix_len in_line body) body)
line_ends [] = tt
line_ends (c ∷ cs) = line_ends_by c cs (in_line c) refl (line_ends cs)

line_size : (body : List ℕ) → line_length (47 ∷ 47 ∷ body) ≡ prefix_len in_line body + 2
line_size body = omega arith

pub line_commented : (before body : List ℕ) (n : ℕ) → NextStep before (codes "//" ++ body) (Gap n) → IsLineComment (codes "//" ++ body) n
line_commented before body n stands =
    let k = prefix_len in_line body in
    let counted = gap_size (line_length (47 ∷ 47 ∷ body)) n stands ∙ line_size body in
    let size = length-take-le k body (prefix_len-le-length in_line body) in
    (take k body, drop k body, (all_longest in_line body).passes, line_ends body, ap (λ l. 47 ∷ 47 ∷ l) (sym (take-append-drop k body)), omega arith)

line_end : (rest : List ℕ) → EndsLine rest → prefix_len in_line rest ≡ 0
line_end [] ends = refl
line_end (c ∷ cs) ends = length_none in_line c cs (no_newline c ends)

line_whole : (line rest : List ℕ) → AreInLine line → EndsLine rest → prefix_len in_line (line ++ rest) ≡ length line
line_whole [] rest all ends = line_end rest ends
line_whole (c ∷ line) rest all ends =
    let both = both_true (in_line c) (list_all in_line line) all in
    let more = length_more in_line c (line ++ rest) both.0 in
    let whole = line_whole line rest both.1 ends in
    omega arith

pub line_comments : (before text : List ℕ) (n : ℕ) → IsLineComment text n → NextStep before text (Gap n)
line_comments before text n is =
    let whole = line_whole is.0 is.1 is.2 is.3 in
    let counted = is.5 in
    let size : n ≡ line_length (47 ∷ 47 ∷ (is.0 ++ is.1)) = omega (arith, line_size (is.0 ++ is.1)) in
    subst (λ text. NextStep before text (Gap n)) (sym is.4) (ap Gap size)
