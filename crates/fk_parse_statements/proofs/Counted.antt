-- A statement with a count before it or without one: a parenthesis opens the count.
use Rattle.std.proofs.Common.{◌≡◌, ℕ, ◌+◌, ◌≤◌, List, [], ◌∷◌, ◌++◌, Option, Some, None, Bool, true, false, ◌||◌, IsTrue, Ok, Err, inl, inr, refl, ap, ◌∙◌, le_trans, arith}
use Rattle.std.proofs.lemmas.Bool.{or_left, or_right}
use Rattle.fk_syntax.specs.Tree.{Tree}
use Rattle.fk_syntax.specs.Program.{Statement, Start}
use Rattle.fk_lex.specs.declared.token.TokenKind.{TokenKind}
use Rattle.fk_lex.specs.declared.token.TokenKind.TheVariants as kind
use Rattle.fk_parse_combinators.specs.Languages.{Placed, Stretch, tokens_of, Language, token, ◌then◌, ◌or◌, making, maybe, spot}
use Rattle.fk_parse_combinators.specs.Reads.{Answer}
use Rattle.fk_parse_combinators.specs.Readers.{Reader, after, giving, ◌and◌, next_is, expect, optional}
use Rattle.fk_parse_combinators.proofs.SameKind.{just_same, just_other}
use Rattle.fk_parse_combinators.proofs.Sets.{Kinds, none, ◌∪◌, none_apart}
use Rattle.fk_parse_combinators.proofs.Exact.{Fronts, Starts, Example, Goes, Shape, Sound, IsSound, IsComplete, Exact, settled}
use Rattle.fk_parse_combinators.proofs.Stretches.{shallow-nil, settled_then}
use Rattle.fk_parse_combinators.proofs.Token.{example_goes}
use Rattle.fk_parse_combinators.proofs.Then.{stop_more, spends_any, leaves_by, then_sound_second, then_local, Leaves}
use Rattle.fk_parse_combinators.proofs.Many.{empty, stay, exact_maybe}
use Rattle.fk_parse_combinators.proofs.Or.{Includes, sound_more, by_next-yes, by_next-no}
use Rattle.fk_parse_combinators.proofs.Productions.{IsRead, reads_token, reads_making}
use Rattle.fk_parse_statements.specs.Statements.{accepted, is_closed, not_before, Leads, condition, start_statement}
use Rattle.fk_parse_statements.proofs.Closing.{IsClosing, closing_making, closing_then, closing_same, ends_then}
use Rattle.fk_parse_combinators.specs.Kinds.{just}

-- ---- what doesn't begin with a kind of token

-- the first token of a stretch is that of its tokens
front_next : (k : TokenKind) (s : Stretch) (rest : List Placed) → next_is (just k) (tokens_of s ++ rest) ≡ false → Leads k s → ⊥
front_next k [] rest e h = h
front_next k (m ∷ s) rest e h = let true_too = just_same k m.token.kind h in cc

-- and stays so, whatever is put behind it
goes_past : {A : Type 0} (k : TokenKind) (L : Language A) (s : Stretch) (rest : List Placed) → Example (not_before k L) → next_is (just k) (tokens_of s ++ rest) ≡ false
    → Goes L s → Goes (not_before k L) s
goes_past k L [] rest x e g = example_goes (not_before k L) x
goes_past k L (m ∷ s) rest x e g = record { more = g.more; value = g.value; spelled = (g.spelled, front_next k (m ∷ s) rest e) }

-- what is answered of the language where no such token comes first
sound_past : (levels : ℕ) {A : Type 0} (k : TokenKind) (L : Language A) (ts : List Placed) (answer : Answer A) → Example (not_before k L) → next_is (just k) ts ≡ false
    → Sound levels L ts answer → Sound levels (not_before k L) ts answer
sound_past levels k L ts (Ok (a, rest)) x e w = record { stretch = w.stretch; is = w.is; spelled = (w.spelled, front_next k w.stretch rest (rw w.is at e)); shallow = w.shallow }
sound_past levels k L ts (Err stop) x e w = stop_more levels (not_before k L) L ts (λ s rest is g. goes_past k L s rest x (rw is at e) g) stop w

-- ---- how it is read

-- [ count ] stmt
abbrev pub counted : Language Tree → Language Statement → Language (Option Tree × Statement)
counted C S = making Some C then S or empty None then not_before kind.OpenParenthesis S

-- a count, where a parenthesis comes next
abbrev read_count : Reader Tree → Reader (Option Tree)
read_count C = optional (just kind.OpenParenthesis) C

-- where no parenthesis comes no count is read
none_counted : (C : Reader Tree) (ts : List Placed) → next_is (just kind.OpenParenthesis) ts ≡ false → read_count C ts ≡ Ok (None, ts)
none_counted C ts e = by_next-no (just kind.OpenParenthesis) (giving Some C) (stay None) ts e

-- where one comes the count is
some_counted : (C : Reader Tree) (ts : List Placed) → IsTrue (next_is (just kind.OpenParenthesis) ts) → read_count C ts ≡ giving Some C ts
some_counted C ts e = by_next-yes (just kind.OpenParenthesis) (giving Some C) (stay None) ts e

-- a count, and a statement
closing_some : {levels : ℕ} {room : Type 0} {C : Language Tree} {S : Language Statement} {PC : Reader Tree} {P : Reader Statement} {l lower : ℕ} {first : Kinds}
    → IsRead levels C PC l (just kind.OpenParenthesis) none room → IsClosing levels S is_closed P lower first room
    → IsClosing levels (making Some C then S) (λ x. is_closed x.1) (giving Some PC and P) l (just kind.OpenParenthesis) room
closing_some {first = first} c w = closing_then (reads_making Some c) w (none_apart first)

-- a token that begins a count or a statement begins both
starts_counted : {levels : ℕ} {room : Type 0} {C : Language Tree} {S : Language Statement} {PC : Reader Tree} {P : Reader Statement} {l lower : ℕ} {first : Kinds} → l ≤ lower
    → IsRead levels C PC l (just kind.OpenParenthesis) none room → IsClosing levels S is_closed P lower first room
    → room → (t : Placed) → IsTrue ((just kind.OpenParenthesis ∪ first) t.kind) → Starts (counted C S) l t
starts_counted {C = C} {S = S} {l = l} {lower = lower} {first = first} below c w r t h = by (just kind.OpenParenthesis t.kind) refl h
  where
    by : (b : Bool) → just kind.OpenParenthesis t.kind ≡ b → IsTrue (b || first t.kind) → Starts (counted C S) l t
    by true e h = let v : Starts (making Some C then S) l t = (closing_some c w).shape.starts r t e in
        record { at = v.at; deep = v.deep; others = v.others; value = v.value; spelled = inl v.spelled }
    by false e h = let v : Starts S lower t = w.shape.starts r t h in
        record {
          at = v.at;
          deep = le_trans below v.deep;
          others = v.others;
          value = (None, v.value);
          spelled = inr ([], record { token = t; level = v.at } ∷ v.others, refl, (refl, refl), (v.spelled, λ d. let true_too = just_same kind.OpenParenthesis t.kind d in cc));
        }

-- it begins with a count or a statement
shape_counted : {levels : ℕ} {room : Type 0} {C : Language Tree} {S : Language Statement} {PC : Reader Tree} {P : Reader Statement} {l lower : ℕ} {first : Kinds} → l ≤ lower
    → IsRead levels C PC l (just kind.OpenParenthesis) none room → IsClosing levels S is_closed P lower first room → Shape (counted C S) l (just kind.OpenParenthesis ∪ first) room
shape_counted {room} {C} {S} {l = l} {lower = lower} {first = first} below c w = record {
  fronts = fronts;
  starts = starts_counted below c w;
  example = λ r. let x = (closing_some c w).shape.example r in record { stretch = x.stretch; value = x.value; spelled = inl x.spelled };
}
  where
    fronts : (s : Stretch) (x : Option Tree × Statement) → counted C S s x → Fronts (just kind.OpenParenthesis ∪ first) l s
    fronts s x (inl m) = let v = (closing_some c w).shape.fronts s x m in
        record { front = v.front; others = v.others; is = v.is; kind = or_left (just kind.OpenParenthesis v.front.token.kind) (first v.front.token.kind) v.kind; deep = v.deep }
    fronts s x (inr m) = let v : Fronts first lower m.1 = w.shape.fronts m.1 x.1 m.4.0 in
        record { front = v.front; others = v.others; is = rw (m.2, m.3.0) v.is; kind = or_right (just kind.OpenParenthesis v.front.token.kind) (first v.front.token.kind) v.kind; deep = le_trans below v.deep }

-- what is answered is so
sound_counted : {levels : ℕ} {room : Type 0} {C : Language Tree} {S : Language Statement} {PC : Reader Tree} {P : Reader Statement} {l lower : ℕ} {first : Kinds}
    → IsRead levels C PC l (just kind.OpenParenthesis) none room → IsClosing levels S is_closed P lower first room → (room → Example (not_before kind.OpenParenthesis S))
    → room → (most : ℕ) → IsSound levels most (counted C S) (read_count PC and P)
sound_counted {levels} {C = C} {S = S} {PC = PC} {P = P} c w x r most ts fits = by (next_is (just kind.OpenParenthesis) ts) refl
  where
    past : Language Statement
    past = not_before kind.OpenParenthesis S

    by : (b : Bool) → next_is (just kind.OpenParenthesis) ts ≡ b → Sound levels (counted C S) ts ((read_count PC and P) ts)
    by true e = rw (some_counted PC ts e)
        (sound_more levels (making Some C then S) (counted C S) (λ s v m. inl m) ts ((giving Some PC and P) ts) (((closing_some c w).exact.exact most).sound r ts fits))
    by false e = rw (none_counted PC ts e)
        (sound_more levels (empty None then past) (counted C S) (λ s v m. inr m) ts (after (P ts) (λ b others. Ok ((None, b), others)))
        (then_sound_second levels (empty None) past ts ts None (record { stretch = []; is = refl; spelled = (refl, refl); shallow = shallow-nil levels })
        (P ts) (sound_past levels kind.OpenParenthesis S ts (P ts) (x r) e ((w.exact.exact most).sound r ts fits))))

-- what is read where a parenthesis comes next, and where none does
counted_yes : (C : Reader Tree) (P : Reader Statement) (ts : List Placed) → IsTrue (next_is (just kind.OpenParenthesis) ts)
    → (read_count C and P) ts ≡ (giving Some C and P) ts
counted_yes C P ts e = rw (some_counted C ts e) refl

-- what comes first is no parenthesis
past_front : {first : Kinds} {lower : ℕ} (s : Stretch) (rest : List Placed) → Fronts first lower s → (Leads kind.OpenParenthesis s → ⊥)
    → next_is (just kind.OpenParenthesis) (tokens_of s ++ rest) ≡ false
past_front s rest w e = rw w.is (just_other kind.OpenParenthesis w.front.token.kind (rw w.is at e))

-- without a count it is read as the statement is
past_read : (levels : ℕ) (C : Reader Tree) (P : Reader Statement) (s back : Stretch) (o : Option Tree) (a : Statement) (rest : List Placed) → s ≡ back → o ≡ None
    → next_is (just kind.OpenParenthesis) (tokens_of back ++ rest) ≡ false → P (tokens_of back ++ rest) ≡ settled levels back a rest
    → (read_count C and P) (tokens_of s ++ rest) ≡ settled levels s (o, a) rest
past_read levels C P s back o a rest same d e read = rw (same, d, none_counted C (tokens_of back ++ rest) e) (settled_then levels [] back None a rest P read)

-- each stretch is read where no `else` comes behind it
complete_counted : {levels : ℕ} {room : Type 0} {C : Language Tree} {S : Language Statement} {PC : Reader Tree} {P : Reader Statement} {l lower : ℕ} {first : Kinds}
    → IsRead levels C PC l (just kind.OpenParenthesis) none room → IsClosing levels S is_closed P lower first room → (most : ℕ) → IsComplete levels most (counted C S) (read_count PC and P) (just kind.Else)
complete_counted {levels} {PC = PC} {P = P} {l = l} c w most s x rest (inl m) fits ends =
    let one = closing_some c w in
    let front : Fronts (just kind.OpenParenthesis) l s = one.shape.fronts s x m in
    counted_yes PC P (tokens_of s ++ rest) (rw front.is front.kind) ∙ (one.exact.exact most).complete s x rest m fits ends
complete_counted {levels} {PC = PC} {P = P} c w most s x rest (inr m) fits ends =
    let same : s ≡ m.1 = m.2 ∙ ap (λ z. z ++ m.1) m.3.0 in
    past_read levels PC P s m.1 x.0 x.1 rest same m.3.1 (past_front m.1 rest (w.shape.fronts m.1 x.1 m.4.0) m.4.1)
    ((w.exact.exact most).complete m.1 x.1 rest m.4.0 (rw same at fits) ends)

-- and whatever comes where the statement is closed
firm_counted : {levels : ℕ} {room : Type 0} {C : Language Tree} {S : Language Statement} {PC : Reader Tree} {P : Reader Statement} {l lower : ℕ} {first : Kinds}
    → IsRead levels C PC l (just kind.OpenParenthesis) none room → IsClosing levels S is_closed P lower first room → (most : ℕ)
    → IsComplete levels most (accepted (λ x. is_closed x.1) (counted C S)) (read_count PC and P) none
firm_counted {levels} {PC = PC} {P = P} {l = l} c w most s x rest (inl m, k) fits ends =
    let one = closing_some c w in
    let front : Fronts (just kind.OpenParenthesis) l s = one.shape.fronts s x m in
    counted_yes PC P (tokens_of s ++ rest) (rw front.is front.kind) ∙ one.firm most s x rest (m, k) fits ends
firm_counted {levels} {PC = PC} {P = P} c w most s x rest (inr m, k) fits ends =
    let same : s ≡ m.1 = m.2 ∙ ap (λ z. z ++ m.1) m.3.0 in
    past_read levels PC P s m.1 x.0 x.1 rest same m.3.1 (past_front m.1 rest (w.shape.fronts m.1 x.1 m.4.0) m.4.1)
    (w.firm most m.1 x.1 rest (m.4.0, k) (rw same at fits) ends)

-- a statement with or without a count is read exactly
pub closing_counted : {levels : ℕ} {room : Type 0} {C : Language Tree} {S : Language Statement} {PC : Reader Tree} {P : Reader Statement} {l lower : ℕ} {first : Kinds} → l ≤ lower
    → IsRead levels C PC l (just kind.OpenParenthesis) none room → IsClosing levels S is_closed P lower first room → (room → Example (not_before kind.OpenParenthesis S))
    → IsClosing levels (counted C S) (λ x. is_closed x.1) (read_count PC and P) l (just kind.OpenParenthesis ∪ first) room
closing_counted {levels} {room} {C} {S} {PC} {P} below c w x = record {
  shape = shape_counted below c w;
  exact = record {
    exact = λ most. record {
      sound = λ r. sound_counted c w x r most;
      complete = complete_counted c w most;
      local = λ r. then_local most most (read_count PC) P ((count.exact most).local r) ((w.exact.exact most).local r) (leaves r most);
    };
  };
  firm = firm_counted c w;
  ends = λ r. ends_then is_closed (read_count PC) P (w.ends r);
}
  where
    count : Exact levels (maybe C) (read_count PC) (none ∪ just kind.OpenParenthesis) room
    count = exact_maybe c.exact c.shape

    leaves : room → (most : ℕ) → Leaves most (read_count PC) most
    leaves r most = leaves_by levels most most (maybe C) (read_count PC) (spends_any (maybe C) most) ((count.exact most).sound r)

-- ---- "start" [ "(" comma ")" ] stmt

-- what is made of them
abbrev started : Placed × (Option Tree × Statement) → Statement
started x = Start (spot x.0) x.1.0 x.1.1

-- the grammar's two forms are a statement with or without a count behind the word
start_there : (bound : ℕ) (S : ℕ → Language Statement) (l : ℕ)
    → Includes (making started (token l kind.Start then counted (condition bound l) (S (l + 1)))) (start_statement bound S l)
start_there bound S l s a (x, m, e) = by m.4
  where
    by : counted (condition bound l) (S (l + 1)) m.1 x.1 → start_statement bound S l s a
    by (inl b) = inl ((x.0, (b.3.0, x.1.1)), (m.0, m.1, m.2, m.3, (b.0, b.1, b.2, b.3.1, b.4)), rw b.3.2 at e)
    by (inr b) =
        let alone : m.1 ≡ b.1 = b.2 ∙ ap (λ z. z ++ b.1) b.3.0 in
        inr ((x.0, x.1.1), (m.0, b.1, m.2 ∙ ap (λ z. m.0 ++ z) alone, m.3, b.4), rw b.3.1 at e)

-- and each such is of one of the two forms
start_back : (bound : ℕ) (S : ℕ → Language Statement) (l : ℕ)
    → Includes (start_statement bound S l) (making started (token l kind.Start then counted (condition bound l) (S (l + 1))))
start_back bound S l s a (inl (x, m, e)) =
    ((x.0, (Some x.1.0, x.1.1)), (m.0, m.1, m.2, m.3, inl (m.4.0, m.4.1, m.4.2, (x.1.0, m.4.3, refl), m.4.4)), e)
start_back bound S l s a (inr (x, m, e)) =
    ((x.0, (None, x.1)), (m.0, m.1, m.2, m.3, inr ([], m.1, refl, (refl, refl), m.4)), e)

-- it is read exactly, if its count and its statement are
pub closing_start : {levels : ℕ} {room : Type 0} (bound l : ℕ) (S : ℕ → Language Statement) {P : Reader Statement} {C : Reader Tree} {first : Kinds} → l ≤ levels
    → IsRead levels (condition bound l) C l (just kind.OpenParenthesis) none room → IsClosing levels (S (l + 1)) is_closed P (l + 1) first room → (room → Example (not_before kind.OpenParenthesis (S (l + 1))))
    → IsClosing levels (start_statement bound S l) is_closed (giving started (expect kind.Start and read_count C and P)) l (just kind.Start) room
closing_start bound l S {first = first} h c w x =
    closing_same (start_statement bound S l) (start_there bound S l) (start_back bound S l)
    (closing_making started (λ x. refl)
    (closing_then (reads_token l kind.Start h) (closing_counted (omega arith) c w x) (none_apart (just kind.OpenParenthesis ∪ first))))
