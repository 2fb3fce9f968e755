-- A statement and what may stand behind it by `else`, which belongs to the nearest `if`.
use Rattle.std.proofs.Common.{◌≡◌, ℕ, ◌+◌, ◌≤◌, List, [], ◌++◌, Option, Some, None, Bool, true, false, IsTrue, Ok, Err, length, inl, inr, refl, sym, ap, ◌∙◌, append-nil}
use Rattle.fk_syntax.specs.declared.place.Spot.{Spot}
use Rattle.fk_syntax.specs.Tree.{Tree}
use Rattle.fk_syntax.specs.Program.{Statement, branch}
use Rattle.fk_lex.specs.declared.token.TokenKind.TheVariants as kind
use Rattle.fk_parse_combinators.specs.Languages.{Placed, Stretch, tokens_of, Language, token, ◌then◌, ◌or◌, making, maybe, spot}
use Rattle.fk_parse_combinators.specs.Reads.{Answer}
use Rattle.fk_parse_combinators.specs.Readers.{Reader, after, giving, ◌and◌, next_is, expect, either, optional}
use Rattle.fk_parse_combinators.proofs.Sets.{Kinds, none, ◌∪◌, none_apart, within_itself}
use Rattle.fk_parse_combinators.proofs.Exact.{Fronts, Starts, Shape, Sound, SoundValue, IsComplete, Exact}
use Rattle.fk_parse_combinators.proofs.Shapes.{shape_then}
use Rattle.fk_parse_combinators.proofs.Then.{Leaves, spends_any, leaves_by, then_sound_second, then_complete, then_local, exact_then_loose}
use Rattle.fk_parse_combinators.proofs.Many.{empty, stay, exact_maybe}
use Rattle.fk_parse_combinators.proofs.Or.{Includes, sound_more, by_next-yes, by_next-no}
use Rattle.fk_parse_combinators.proofs.Productions.{IsRead, reads_token}
use Rattle.fk_parse_statements.specs.Statements.{accepted, is_closed, condition, if_statement}
use Rattle.fk_parse_statements.proofs.Closing.{Ends, IsClosing, ok_parts, closing_making, closing_then, closing_same, ends_then}
use Rattle.fk_parse_declarations.proofs.Parameters.{reads_nothing, next_none}
use Rattle.fk_parse_combinators.specs.Kinds.{just}

-- "else" stmt
abbrev pub otherwise : ℕ → Language Statement → Language (Option Statement)
otherwise l S = making Some (making (λ x. x.1) (token l kind.Else then S))

-- stmt [ "else" stmt ], where a statement before `else` is closed
abbrev pub branches : ℕ → Language Statement → Language (Statement × Option Statement)
branches l S = S then empty None or accepted is_closed S then otherwise l S

-- whether what stands last is closed: an `else` could stand where there is none
abbrev pub last : Option Statement → Bool
last None = false
last (Some s) = is_closed s

-- it is closed where the statement is
closing_otherwise : {levels : ℕ} {room : Type 0} {S : Language Statement} {P : Reader Statement} {lower : ℕ} {first : Kinds} (l : ℕ) → l ≤ levels
    → IsClosing levels S is_closed P lower first room
    → IsClosing levels (otherwise l S) last (giving Some (giving (λ x. x.1) (expect kind.Else and P))) l (just kind.Else) room
closing_otherwise {first = first} l h w =
    closing_making Some (λ a. refl) (closing_making (λ x. x.1) {closed = is_closed} (λ a. refl) (closing_then (reads_token l kind.Else h) w (none_apart first)))

-- ---- how they are read

-- what stands behind a statement by `else`, where one comes next
abbrev pub read_otherwise : Reader Statement → Reader (Option Statement)
read_otherwise P = optional (just kind.Else) (giving (λ x. x.1) (expect kind.Else and P))

-- where one does
abbrev read_else : Reader Statement → Reader (Option Statement)
read_else P = giving Some (giving (λ x. x.1) (expect kind.Else and P))

-- they begin as statements do
shape_branches : {levels : ℕ} {room : Type 0} {S : Language Statement} {P : Reader Statement} {lower : ℕ} {first : Kinds} (l : ℕ) → l ≤ levels
    → IsClosing levels S is_closed P lower first room → Shape (branches l S) lower first room
shape_branches {room} {S} {P} {lower} {first} l h w = record { fronts = fronts; starts = starts; example = λ r. let x = alone.example r in record { stretch = x.stretch; value = x.value; spelled = inl x.spelled } }
  where
    alone : Shape (S then empty {A = Option Statement} None) lower first room
    alone = shape_then w.shape (λ r. record { stretch = []; value = None; spelled = (refl, refl) })

    both : Shape (S then otherwise l S) lower first room
    both = shape_then w.shape (closing_otherwise l h w).shape.example

    fronts : (s : Stretch) (x : Statement × Option Statement) → branches l S s x → Fronts first lower s
    fronts s x (inl m) = alone.fronts s x m
    fronts s x (inr m) = both.fronts s x (m.0, m.1, m.2, m.3.0, m.4)

    starts : room → (t : Placed) → IsTrue (first t.kind) → Starts (branches l S) lower t
    starts r t k = let v : Starts (S then empty {A = Option Statement} None) lower t = alone.starts r t k in
        record { at = v.at; deep = v.deep; others = v.others; value = v.value; spelled = inl v.spelled }

-- without an `else` nothing is read
none_read : (P : Reader Statement) (ts : List Placed) → next_is (just kind.Else) ts ≡ false → read_otherwise P ts ≡ Ok (None, ts)
none_read P ts e = by_next-no (just kind.Else) (read_else P) (stay None) ts e

-- with one a statement is
some_read : (P : Reader Statement) (ts : List Placed) → IsTrue (next_is (just kind.Else) ts) → read_otherwise P ts ≡ read_else P ts
some_read P ts e = by_next-yes (just kind.Else) (read_else P) (stay None) ts e

-- what is answered is so: a statement before an `else` is closed
sound_branches : {levels : ℕ} {room : Type 0} {S : Language Statement} {P : Reader Statement} {lower : ℕ} {first : Kinds} (l : ℕ) → l ≤ levels
    → IsClosing levels S is_closed P lower first room → room → (most : ℕ) (ts : List Placed) → length ts ≤ most
    → Sound levels (branches l S) ts ((P and read_otherwise P) ts)
sound_branches {levels} {room} {S} {P} {lower} {first} l h w r most ts fits = by (P ts) refl (sound ts fits)
  where
    sound : (us : List Placed) → length us ≤ most → Sound levels S us (P us)
    sound = (w.exact.exact most).sound r

    alone : Sound levels (S then empty {A = Option Statement} None) ts ((P and stay None) ts)
    alone = ((exact_then_loose w.exact (reads_nothing None lower).exact (reads_nothing {levels = levels} {room = room} None lower).shape (λ k i j. cc)).exact most).sound r ts fits

    -- what stands behind a statement
    behind : (a : Statement) (rest : List Placed) → P ts ≡ Ok (a, rest) → SoundValue levels S ts a rest → (b : Bool) → next_is (just kind.Else) rest ≡ b
        → Sound levels (branches l S) ts (after (read_otherwise P rest) (λ o others. Ok ((a, o), others)))
    behind a rest e v false k = rw (none_read P rest k) (record {
      stretch = v.stretch ++ [];
      is = rw (append-nil v.stretch) v.is;
      spelled = inl (v.stretch, [], refl, v.spelled, (refl, refl));
      shallow = rw (append-nil v.stretch) v.shallow;
    })
    behind a rest e v true k =
        let closed : IsTrue (is_closed a) = w.ends r ts a rest e k in
        let less : length rest ≤ most = leaves_by levels most most S P (spends_any S most) sound ts fits a rest e in
        rw (some_read P rest k)
        (sound_more levels (accepted is_closed S then otherwise l S) (branches l S) (λ s x m. inr m) ts (after (read_else P rest) (λ o others. Ok ((a, o), others)))
        (then_sound_second levels (accepted is_closed S) (otherwise l S) ts rest a
        (record { stretch = v.stretch; is = v.is; spelled = (v.spelled, closed); shallow = v.shallow })
        (read_else P rest) (((closing_otherwise l h w).exact.exact most).sound r rest less)))

    by : (answer : Answer Statement) → P ts ≡ answer → Sound levels S ts answer
        → Sound levels (branches l S) ts (after answer (λ a rest. after (read_otherwise P rest) (λ o others. Ok ((a, o), others))))
    by (Ok (a, rest)) e v = behind a rest e v (next_is (just kind.Else) rest) refl
    by (Err stop) e v = sound_more levels (S then empty {A = Option Statement} None) (branches l S) (λ s x m. inl m) ts (Err stop) (rw e at alone)

-- each stretch is read where no `else` comes behind it
complete_branches : {levels : ℕ} {room : Type 0} {S : Language Statement} {P : Reader Statement} {lower : ℕ} {first : Kinds} (l : ℕ) → l ≤ levels
    → IsClosing levels S is_closed P lower first room → (most : ℕ) → IsComplete levels most (branches l S) (P and read_otherwise P) (just kind.Else)
complete_branches {levels} {room} {S} {P} l h w most s x rest (inl m) fits ends =
    then_complete levels most most S (empty None) P (read_otherwise P) (just kind.Else) (just kind.Else) (just kind.Else) (w.exact.exact most).complete
    (λ s o rest e fits ends. rw (e.0, e.1) (none_read P rest ends))
    (spends_any S most) (λ s o rest e ends. rw e.0 ends) (within_itself (just kind.Else)) s x rest m fits ends
complete_branches {levels} {room} {S} {P} l h w most s x rest (inr m) fits ends =
    let o = closing_otherwise l h w in
    then_complete levels most most (accepted is_closed S) (otherwise l S) P (read_otherwise P) none (just kind.Else) (just kind.Else) (w.firm most)
    (λ s v rest e fits ends.
    let front : Fronts (just kind.Else) l s = o.shape.fronts s v e in
    some_read P (tokens_of s ++ rest) (rw front.is front.kind) ∙ (o.exact.exact most).complete s v rest e fits ends)
    (spends_any (accepted is_closed S) most) (λ s v rest e ends. next_none (tokens_of s ++ rest)) (within_itself (just kind.Else)) s x rest m fits ends

-- and whatever comes where what stands last is closed
firm_branches : {levels : ℕ} {room : Type 0} {S : Language Statement} {P : Reader Statement} {lower : ℕ} {first : Kinds} (l : ℕ) → l ≤ levels
    → IsClosing levels S is_closed P lower first room → (most : ℕ) → IsComplete levels most (accepted (λ x. last x.1) (branches l S)) (P and read_otherwise P) none
firm_branches {levels} l h w most s x rest (inl m, k) fits ends = let open_end : IsTrue (last None) = rw m.4.1 at k in absurd (cc)
firm_branches {levels} {room} {S} {P} l h w most s x rest (inr m, k) fits ends =
    let o = closing_otherwise l h w in
    then_complete levels most most (accepted is_closed S) (accepted last (otherwise l S)) P (read_otherwise P) none none none (w.firm most)
    (λ s v rest e fits ends.
    let front : Fronts (just kind.Else) l s = o.shape.fronts s v e.0 in
    some_read P (tokens_of s ++ rest) (rw front.is front.kind) ∙ o.firm most s v rest e fits ends)
    (spends_any (accepted is_closed S) most) (λ s v rest e ends. next_none (tokens_of s ++ rest)) (within_itself none)
    s x rest (m.0, m.1, m.2, m.3, (m.4, k)) fits ends

-- what is left before an `else` has one of its own
ends_otherwise : {levels : ℕ} {room : Type 0} {S : Language Statement} {P : Reader Statement} {lower : ℕ} {first : Kinds} (l : ℕ) → l ≤ levels
    → IsClosing levels S is_closed P lower first room → room → Ends last (read_otherwise P)
ends_otherwise {P = P} l h w r ts o rest e k = by (next_is (just kind.Else) ts) refl e
  where
    by : (b : Bool) → next_is (just kind.Else) ts ≡ b → either b (read_else P) (stay None) ts ≡ Ok (o, rest) → IsTrue (last o)
    by true d e = (closing_otherwise l h w).ends r ts o rest e k
    by false d e =
        let parts = ok_parts None o ts rest e in
        let still : next_is (just kind.Else) ts ≡ true = rw (← parts.1) at k in
        absurd (cc)

-- a statement with or without an `else` is read exactly
pub closing_branches : {levels : ℕ} {room : Type 0} {S : Language Statement} {P : Reader Statement} {lower : ℕ} {first : Kinds} (l : ℕ) → l ≤ levels
    → IsClosing levels S is_closed P lower first room
    → IsClosing levels (branches l S) (λ x. last x.1) (P and read_otherwise P) lower first room
closing_branches {levels} {room} {S} {P} {lower} {first} l h w = record {
  shape = shape_branches l h w;
  exact = record {
    exact = λ most. record {
      sound = λ r. sound_branches l h w r most;
      complete = complete_branches l h w most;
      local = λ r. then_local most most P (read_otherwise P) ((w.exact.exact most).local r) ((tail.exact most).local r) (leaves r most);
    };
  };
  firm = firm_branches l h w;
  ends = λ r. ends_then last P (read_otherwise P) (ends_otherwise l h w r);
}
  where
    one : IsClosing levels (making (λ x. x.1) (token l kind.Else then S)) is_closed (giving (λ x. x.1) (expect kind.Else and P)) l (just kind.Else) room
    one = closing_making (λ x. x.1) (λ a. refl) (closing_then (reads_token l kind.Else h) w (none_apart first))

    tail : Exact levels (maybe (making (λ x. x.1) (token l kind.Else then S))) (read_otherwise P) (just kind.Else ∪ just kind.Else) room
    tail = exact_maybe one.exact one.shape

    leaves : room → (most : ℕ) → Leaves most P most
    leaves r most = leaves_by levels most most S P (spends_any S most) ((w.exact.exact most).sound r)

-- ---- "if" "(" comma ")" stmt [ "else" stmt ]

-- what is made of them
abbrev chosen_by : Placed × (Tree × (Statement × Option Statement)) → Statement
chosen_by x = branch (spot x.0) x.1.0 x.1.1.0 x.1.1.1

-- the grammar's two forms are a statement with or without an `else` behind the condition
if_there : (bound : ℕ) (S : ℕ → Language Statement) (l : ℕ)
    → Includes (making chosen_by (token l kind.If then condition bound l then branches l (S (l + 1)))) (if_statement bound S l)
if_there bound S l s a (x, m, e) = by m.4.4
  where
    by : branches l (S (l + 1)) m.4.1 x.1.1 → if_statement bound S l s a
    by (inl b) =
        let alone : m.4.1 ≡ b.0 = b.2 ∙ ap (λ z. b.0 ++ z) b.4.0 ∙ append-nil b.0 in
        inl ((x.0, (x.1.0, x.1.1.0)), (m.0, m.1, m.2, m.3, (m.4.0, m.4.1, m.4.2, m.4.3, rw alone b.3)), rw b.4.1 at e)
    by (inr b) =
        inr ((x.0, (x.1.0, (x.1.1.0, b.4.1.0))), (m.0, m.1, m.2, m.3, (m.4.0, m.4.1, m.4.2, m.4.3, (b.0, b.1, b.2, b.3, b.4.1.1))), rw (b.4.2, b.4.1.2) at e)

-- and each such is of one of the two forms
if_back : (bound : ℕ) (S : ℕ → Language Statement) (l : ℕ)
    → Includes (if_statement bound S l) (making chosen_by (token l kind.If then condition bound l then branches l (S (l + 1))))
if_back bound S l s a (inl (x, m, e)) = (
  (x.0, (x.1.0, (x.1.1, None))),
  (m.0, m.1, m.2, m.3, (m.4.0, m.4.1, m.4.2, m.4.3, inl (m.4.1, [], sym (append-nil m.4.1), m.4.4, (refl, refl)))),
  e,
)
if_back bound S l s a (inr (x, m, e)) = (
  (x.0, (x.1.0, (x.1.1.0, Some x.1.1.1.1))),
  (m.0, m.1, m.2, m.3, (m.4.0, m.4.1, m.4.2, m.4.3, inr (m.4.4.0, m.4.4.1, m.4.4.2, m.4.4.3, (x.1.1.1.1, (x.1.1.1, m.4.4.4, refl), refl)))),
  e,
)

-- an `if` is closed where what stands last is
branch_closed : (at : Spot) (c : Tree) (s : Statement) (o : Option Statement) → is_closed (branch at c s o) ≡ last o
branch_closed at c s None = refl
branch_closed at c s (Some t) = refl

-- it is read exactly, if its condition and its statements are
pub closing_if : {levels : ℕ} {room : Type 0} (bound l : ℕ) (S : ℕ → Language Statement) {P : Reader Statement} {C : Reader Tree} {first : Kinds} → l ≤ levels
    → IsRead levels (condition bound l) C l (just kind.OpenParenthesis) none room → IsClosing levels (S (l + 1)) is_closed P (l + 1) first room
    → IsClosing levels (if_statement bound S l) is_closed (giving chosen_by (expect kind.If and C and P and read_otherwise P)) l (just kind.If) room
closing_if bound l S {first = first} h c w =
    closing_same (if_statement bound S l) (if_there bound S l) (if_back bound S l)
    (closing_making chosen_by (λ x. branch_closed (spot x.0) x.1.0 x.1.1.0 x.1.1.1)
    (closing_then (reads_token l kind.If h) (closing_then c (closing_branches l h w) (none_apart first)) (none_apart (just kind.OpenParenthesis))))
