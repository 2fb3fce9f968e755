-- Languages of statements that an `else` may go on with. Those that are closed are read whatever comes behind them, and
-- what is read before an `else` is closed.
use Rattle.std.proofs.Common.{◌≡◌, ℕ, ◌<◌, List, [], ◌∷◌, ◌++◌, Some, None, Bool, true, false, IsTrue, Ok, Err, inl, inr, refl, sym, ap, ◌∙◌}
use Rattle.fk_parse_combinators.specs.Languages.{Placed, tokens_of, Language, nothing, ◌then◌, ◌or◌, making}
use Rattle.fk_parse_combinators.specs.Reads.{Answer, Nesting}
use Rattle.fk_parse_combinators.specs.Readers.{Reader, after, giving, ◌and◌, next_is, either, by_next, unexpected, opened}
use Rattle.fk_parse_combinators.proofs.Sets.{Kinds, none, ◌∪◌, Apart, Within, within_itself}
use Rattle.fk_parse_combinators.proofs.Exact.{Fronts, Shape, IsComplete, Exact}
use Rattle.fk_parse_combinators.proofs.Stretches.{settled_giving}
use Rattle.fk_parse_combinators.proofs.Shapes.{shape_kinds, shape_room, shape_nothing, shape_making, shape_then, shape_loose_then, shape_or}
use Rattle.fk_parse_combinators.proofs.Then.{spends_any, follows_shape, then_complete, exact_making, exact_then, exact_wider, exact_room}
use Rattle.fk_parse_combinators.proofs.Or.{Includes, exact_same, by_next-yes, by_next-no, exact_or_by}
use Rattle.fk_parse_combinators.proofs.Opened.{exact_too_deep, exact_expected}
use Rattle.fk_parse_combinators.proofs.Productions.{IsRead, IsLooselyRead, exact_nothing}
use Rattle.fk_parse_statements.specs.Statements.{accepted}
use Rattle.fk_parse_declarations.proofs.Alike.{shape_same}
use Rattle.fk_parse_combinators.specs.Kinds.{just}
use Rattle.fk_lex.specs.declared.token.TokenKind.TheVariants as kind

-- what is read before an `else` is closed
abbrev pub Ends : {A : Type 0} → (A → Bool) → Reader A → Type 0
Ends {A} closed P = (ts : List Placed) (a : A) (rest : List Placed) → P ts ≡ Ok (a, rest) → IsTrue (next_is (just kind.Else) rest) → IsTrue (closed a)

-- a language is read exactly where no `else` comes behind it, and its closed values whatever comes
pub record IsClosing (levels : ℕ) {A : Type 0} (L : Language A) (closed : A → Bool) (P : Reader A) (level : ℕ) (first : Kinds) (room : Type 0) : Type 0 where
  pub shape : Shape L level first room
  pub exact : Exact levels L P (just kind.Else) room
  pub firm : (most : ℕ) → IsComplete levels most (accepted closed L) P none
  pub ends : room → Ends closed P

-- a language all of whose values are closed
pub closing_any : {levels : ℕ} {room : Type 0} {A : Type 0} {L : Language A} {P : Reader A} {level : ℕ} {first : Kinds}
    → IsRead levels L P level first none room → IsClosing levels L (λ a. true) P level first room
closing_any w = record {
  shape = w.shape;
  exact = exact_wider (just kind.Else) (λ k h. cc) w.exact;
  firm = λ most s a rest l fits ends. (w.exact.exact most).complete s a rest l.0 fits ends;
  ends = λ r ts a rest e h. refl;
}

-- two answers that are one
pub ok_parts : {A : Type 0} (a b : A) (r s : List Placed) → ◌≡◌ {A = Answer A} (Ok (a, r)) (Ok (b, s)) → (a ≡ b) × (r ≡ s)
ok_parts {A} a b r s e = let p : ◌≡◌ {A = A × List Placed} (a, r) (b, s) = cc in (ap (λ x. x.0) p, ap (λ x. x.1) p)

-- ---- what is made of a language

-- what is made of it ends as it does
ends_making : {A B : Type 0} (f : A → B) (closed : B → Bool) (c : A → Bool) → ((a : A) → closed (f a) ≡ c a)
    → (P : Reader A) → Ends c P → Ends closed (giving f P)
ends_making {A} {B} f closed c same P p ts b rest e h = by (P ts) refl e
  where
    by : (answer : Answer A) → P ts ≡ answer → after {B = B} answer (λ a others. Ok (f a, others)) ≡ Ok (b, rest) → IsTrue (closed b)
    by (Ok (a, others)) d e =
        let parts = ok_parts (f a) b others rest e in
        rw (← parts.0) (same a ∙ p ts a others d (rw parts.1 h))
    by (Err stop) d e = absurd (cc)

-- and is read whatever comes where it is closed
firm_making : (levels : ℕ) {A B : Type 0} (f : A → B) (closed : B → Bool) (c : A → Bool) → ((a : A) → closed (f a) ≡ c a)
    → (most : ℕ) (L : Language A) (P : Reader A) → IsComplete levels most (accepted c L) P none → IsComplete levels most (accepted closed (making f L)) (giving f P) none
firm_making levels f closed c same most L P p s b rest l fits ends =
    let a = l.0.0 in
    let is : IsTrue (closed (f a)) = rw l.0.2 at l.1 in
    rw l.0.2 (settled_giving levels f s a rest (P (tokens_of s ++ rest)) (p s a rest (l.0.1, sym (same a) ∙ is) fits ends))

-- what is made of a language is closed where its value is
pub closing_making : {levels : ℕ} {room : Type 0} {A B : Type 0} (f : A → B) {closed : B → Bool} {c : A → Bool} {L : Language A} {P : Reader A} {level : ℕ} {first : Kinds}
    → ((a : A) → closed (f a) ≡ c a) → IsClosing levels L c P level first room → IsClosing levels (making f L) closed (giving f P) level first room
closing_making {levels} f {closed} {c} {L} {P} same w = record {
  shape = shape_making f w.shape;
  exact = exact_making f w.exact;
  firm = λ most. firm_making levels f closed c same most L P (w.firm most);
  ends = λ r. ends_making f closed c same P (w.ends r);
}

-- ---- one after another: the second is what may be open

-- two readers end as the second does
pub ends_then : {A B : Type 0} (c : B → Bool) (P : Reader A) (Q : Reader B) → Ends c Q → Ends {A = A × B} (λ x. c x.1) (P and Q)
ends_then {A} {B} c P Q q ts x rest e h = by (P ts) e
  where
    second : (a : A) (answer : Answer B) (others : List Placed) → Q others ≡ answer
        → after {B = A × B} answer (λ b more. Ok ((a, b), more)) ≡ Ok (x, rest) → IsTrue (c x.1)
    second a (Ok (b, more)) others d e =
        let parts = ok_parts (a, b) x more rest e in
        rw (← parts.0) (q others b more d (rw parts.1 h))
    second a (Err stop) others d e = absurd (cc)

    by : (answer : Answer A) → after {B = A × B} answer (λ a others. after (Q others) (λ b more. Ok ((a, b), more))) ≡ Ok (x, rest) → IsTrue (c x.1)
    by (Ok (a, others)) e = second a (Q others) others refl e
    by (Err stop) e = absurd (cc)

-- what is closed by its second part is read whatever comes
firm_then : (levels : ℕ) {room : Type 0} {A B : Type 0} (c : B → Bool) (most : ℕ) (L : Language A) (M : Language B) (P : Reader A) (Q : Reader B) (f : Kinds) {lower : ℕ} {second : Kinds}
    → IsComplete levels most L P f → IsComplete levels most (accepted c M) Q none → Shape M lower second room → Apart f second
    → IsComplete levels most (accepted (λ x. c x.1) (L then M)) (P and Q) none
firm_then levels c most L M P Q f p q shape apart s x rest l fits ends =
    then_complete levels most most L (accepted c M) P Q f none none p q (spends_any L most)
    (λ s b rest m ends. follows_shape f none shape apart s b rest m.0 ends) (within_itself none)
    s x rest (l.0.0, l.0.1, l.0.2, l.0.3, (l.0.4, l.1)) fits ends

-- two languages are closed where the second is
pub closing_then : {levels : ℕ} {room : Type 0} {A B : Type 0} {c : B → Bool} {L : Language A} {M : Language B} {P : Reader A} {Q : Reader B} {level lower : ℕ} {first second f : Kinds}
    → IsRead levels L P level first f room → IsClosing levels M c Q lower second room → Apart f second
    → IsClosing levels (L then M) (λ x. c x.1) (P and Q) level first room
closing_then {levels} {c} {L} {M} {P} {Q} {f} v w apart = record {
  shape = shape_then v.shape w.shape.example;
  exact = exact_then v.exact w.exact w.shape apart;
  firm = λ most. firm_then levels c most L M P Q f (v.exact.exact most).complete (w.firm most) w.shape apart;
  ends = λ r. ends_then c P Q (w.ends r);
}

-- the first may be empty
pub closing_loose_then : {levels : ℕ} {room : Type 0} {A B : Type 0} {c : B → Bool} {L : Language A} {M : Language B} {P : Reader A} {Q : Reader B} {level : ℕ} {first second f : Kinds}
    → IsLooselyRead levels L P level first f room → IsClosing levels M c Q level second room → Apart f second
    → IsClosing levels (L then M) (λ x. c x.1) (P and Q) level (first ∪ second) room
closing_loose_then {levels} {c} {L} {M} {P} {Q} {f} v w apart = record {
  shape = shape_loose_then v.shape w.shape;
  exact = exact_then v.exact w.exact w.shape apart;
  firm = λ most. firm_then levels c most L M P Q f (v.exact.exact most).complete (w.firm most) w.shape apart;
  ends = λ r. ends_then c P Q (w.ends r);
}

-- ---- one or another

-- either reader ends so
pub ends_either : {A : Type 0} (closed : A → Bool) (is : Kinds) (P Q : Reader A) → Ends closed P → Ends closed Q → Ends closed (by_next is P Q)
ends_either {A} closed is P Q p q ts a rest e h = by (next_is is ts) e
  where
    by : (b : Bool) → either b P Q ts ≡ Ok (a, rest) → IsTrue (closed a)
    by true e = p ts a rest e h
    by false e = q ts a rest e h

-- either language is read whatever comes where it is closed
firm_or : (levels : ℕ) {room : Type 0} {A : Type 0} (closed : A → Bool) (most : ℕ) (L M : Language A) (level lower : ℕ) (is second : Kinds) (P Q : Reader A)
    → IsComplete levels most (accepted closed L) P none → IsComplete levels most (accepted closed M) Q none → Shape L level is room → Shape M lower second room → Apart is second
    → IsComplete levels most (accepted closed (L or M)) (by_next is P Q) none
firm_or levels closed most L M level lower is second P Q p q shape other apart s a rest (inl l, h) fits ends =
    let w : Fronts is level s = shape.fronts s a l in
    by_next-yes is P Q (tokens_of s ++ rest) (rw w.is w.kind) ∙ p s a rest (l, h) fits ends
firm_or levels closed most L M level lower is second P Q p q shape other apart s a rest (inr m, h) fits ends =
    by_next-no is P Q (tokens_of s ++ rest) (follows_shape is none other apart s a rest m ends) ∙ q s a rest (m, h) fits ends

-- one language or another, told apart by the next token
pub closing_or : {levels : ℕ} {room : Type 0} {A : Type 0} {closed : A → Bool} {L M : Language A} {P Q : Reader A} {level : ℕ} {first second : Kinds}
    → IsClosing levels L closed P level first room → IsClosing levels M closed Q level second room → Apart first second
    → IsClosing levels (L or M) closed (by_next first P Q) level (first ∪ second) room
closing_or {levels} {closed} {L} {M} {P} {Q} {level} {first} {second} v w apart = record {
  shape = shape_or v.shape w.shape;
  exact = exact_or_by (just kind.Else) v.exact w.exact v.shape (follows_shape first (just kind.Else) w.shape apart) (within_itself (just kind.Else)) (within_itself (just kind.Else));
  firm = λ most. firm_or levels closed most L M level level first second P Q (v.firm most) (w.firm most) v.shape w.shape apart;
  ends = λ r. ends_either closed first P Q (v.ends r) (w.ends r);
}

-- two sets of the same first kinds
pub closing_kinds : {levels : ℕ} {room : Type 0} {A : Type 0} {closed : A → Bool} {L : Language A} {P : Reader A} {level : ℕ} {first : Kinds} (other : Kinds) → Within first other → Within other first
    → IsClosing levels L closed P level first room → IsClosing levels L closed P level other room
closing_kinds other there back w = record { shape = shape_kinds other there back w.shape; exact = w.exact; firm = w.firm; ends = w.ends }

-- the same stretches
pub closing_same : {levels : ℕ} {room : Type 0} {A : Type 0} {closed : A → Bool} {L : Language A} (M : Language A) {P : Reader A} {level : ℕ} {first : Kinds} → Includes L M → Includes M L
    → IsClosing levels L closed P level first room → IsClosing levels M closed P level first room
closing_same M includes included w = record {
  shape = shape_same M includes included w.shape;
  exact = exact_same M includes included w.exact;
  firm = λ most s a rest m fits ends. w.firm most s a rest (included s a m.0, m.1) fits ends;
  ends = w.ends;
}

-- less room
pub closing_room : {levels : ℕ} {small large : Type 0} {A : Type 0} {closed : A → Bool} {L : Language A} {P : Reader A} {level : ℕ} {first : Kinds} → (small → large)
    → IsClosing levels L closed P level first large → IsClosing levels L closed P level first small
closing_room enough w = record { shape = shape_room enough w.shape; exact = exact_room enough w.exact; firm = w.firm; ends = λ r. w.ends (enough r) }

-- no stretch, where there is no room
pub closing_nothing : {levels : ℕ} {room : Type 0} {A : Type 0} (closed : A → Bool) (P : Reader A) (level : ℕ) (first : Kinds) → (room → ⊥)
    → IsClosing levels nothing closed P level first room
closing_nothing closed P level first no_room = record {
  shape = shape_nothing level first no_room;
  exact = exact_nothing no_room;
  firm = λ most s a rest l fits ends. absurd l.0;
  ends = λ r. absurd (no_room r);
}

-- as a language that something goes on with
pub read_of : {levels : ℕ} {room : Type 0} {A : Type 0} {closed : A → Bool} {L : Language A} {P : Reader A} {level : ℕ} {first : Kinds}
    → IsClosing levels L closed P level first room → IsRead levels L P level first (just kind.Else) room
read_of w = record { shape = w.shape; exact = w.exact }

-- ---- one level deeper

-- where no level is left
pub closing_bottom : {levels : ℕ} {room : Type 0} {A : Type 0} (closed : A → Bool) {L : Language A} {level : ℕ} {first : Kinds} → levels < level → Shape L level first room
    → IsClosing levels L closed (opened {R = Reader A} first None (λ P. P)) level first room
closing_bottom {room} {A} closed {L} {level} {first} past shape = record {
  shape = shape;
  exact = exact_too_deep (just kind.Else) past shape;
  firm = λ most s a rest l fits ends. ((exact_too_deep none past shape).exact most).complete s a rest l.0 fits ends;
  ends = λ r ts a rest e h. by ts (next_is first ts) e;
}
  where
    by : (ts : List Placed) (b : Bool) {a : A} {rest : List Placed} {C : Type 0} → either b (λ others. Err (Nesting others)) unexpected ts ≡ Ok (a, rest) → C
    by ts true e = absurd (cc)
    by [] false e = absurd (cc)
    by (t ∷ ts) false e = absurd (cc)

-- where one is left
pub closing_deeper : {levels : ℕ} {room : Type 0} {A : Type 0} {closed : A → Bool} {L : Language A} {P : Reader A} {level : ℕ} {first : Kinds}
    → IsClosing levels L closed P level first room → IsClosing levels L closed (opened first (Some P) (λ P. P)) level first room
closing_deeper {room} {A} {closed} {L} {P} {level} {first} w = record {
  shape = w.shape;
  exact = exact_expected w.exact w.shape;
  firm = λ most s a rest l fits ends.
      let front : Fronts first level s = w.shape.fronts s a l.0 in
      by_next-yes first P unexpected (tokens_of s ++ rest) (rw front.is front.kind) ∙ w.firm most s a rest l fits ends;
  ends = λ r. ends_either closed first P unexpected (w.ends r) not_read;
}
  where
    not_read : Ends closed (unexpected {A = A})
    not_read [] a rest e h = absurd (cc)
    not_read (t ∷ ts) a rest e h = absurd (cc)
