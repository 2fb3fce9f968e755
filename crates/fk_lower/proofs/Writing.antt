-- What is written of measured pieces is the flat list of their code.
use Rattle.std.proofs.Common.{◌≡◌, ℕ, suc, ◌+◌, Bool, true, false, List, ◌∷◌, ◌++◌, map, Option, Some, None, ap, ap₂, ◌∙◌, sym, refl, arith}
use Rattle.std.specs.Prelude.{◌==◌, ◌&&◌, ◌||◌, if◌then◌else◌}
use Rattle.std.proofs.lemmas.List.{map-append}
use Rattle.fk_meaning_forms.specs.Code.{Code}
use Rattle.fk_core.specs.CodeAt.{Loop, Around}
use Rattle.fk_core_flat.specs.Items.{Item, jump, act, way_of, goes_away, aim}
use Rattle.fk_core_flat.specs.Flat.{begins_here, skip, gap, extent, behind, label, flat}
use Rattle.fk_lower.specs.declared.block.Act.{Act}
use Rattle.fk_lower.specs.declared.span.Span.{Span}
use Rattle.fk_lower.specs.declared.span.Spans.{Spans}
use Rattle.fk_lower.specs.Spans.{place, start_of, span_of, spans_of, span_in}
use Rattle.fk_lower.specs.Tree.{PieceTree, Perform, Choose, While, Until, Quit, Break, Continue, Call, Ends, Pieces, no_pieces, piece, code_of, code_before, IsMeasured, IsPieceMeasured}
use Rattle.fk_lower.specs.Measures.{is_beside}
use Rattle.fk_lower.specs.Written.{an_act, a_skip, past, behind_of, written, piece_written}
use Rattle.fk_lower.proofs.Starts.{starts}
use Rattle.fk_lower.proofs.Measuring.{span_at, besides, measures}

abbrev pub known : List Item → List (Option Item)
known items = map (λ item. Some item) items

two : (xs ys : List Item) → known xs ++ known ys ≡ known (xs ++ ys)
two xs ys = sym (map-append (λ item. Some item) xs ys)

three : (xs ys zs : List Item) → known xs ++ known ys ++ known zs ≡ known (xs ++ ys ++ zs)
three xs ys zs = ap (λ l. l ++ known zs) (two xs ys) ∙ two (xs ++ ys) zs

four : (xs ys zs ws : List Item) → known xs ++ known ys ++ known zs ++ known ws ≡ known (xs ++ ys ++ zs ++ ws)
four xs ys zs ws = ap (λ l. l ++ known ws) (three xs ys zs) ∙ two (xs ++ ys ++ zs) ws

skips : (here : Bool) (target : ℕ) → a_skip here target ≡ known (skip here target)
skips true target = refl
skips false target = refl

ap3 : {A B C D : Type 0} (f : A → B → C → D) {a d : A} {b e : B} {c g : C} → a ≡ d → b ≡ e → c ≡ g → f a b c ≡ f d e g
ap3 f {d = d} {b = b} {c = c} p q r = ap (λ a. f a b c) p ∙ ap₂ (f d) q r

past_is : (here : Bool) (i : ℕ) → past here i ≡ suc i + gap here
past_is here i = omega arith

module _ (entry : ℕ → ℕ) where
  -- a jump and the rest behind it
  tail : (rest : Code ℕ) (near : Bool) (c : Around) (k : ℕ) (here : Bool) (r s : ℕ) → r ≡ s
      → a_skip here (place (start_of rest) c r k) ++ known (flat entry near c r k rest) ≡ known (skip here (label c s k rest) ++ flat entry near c s k rest)
  tail rest near c k here r s e =
      ap (λ r. a_skip here (place (start_of rest) c r k) ++ known (flat entry near c r k rest)) e
      ∙ ap (λ l. a_skip here l ++ known (flat entry near c s k rest)) (starts rest c s k)
      ∙ ap (λ l. l ++ known (flat entry near c s k rest)) (skips here (label c s k rest))
      ∙ two (skip here (label c s k rest)) (flat entry near c s k rest)

  -- pieces and the rest, by measures at hand
  abbrev chosen : Act → (x y : Pieces) (rest : Code ℕ) (near : Bool) → Around → (k : ℕ) (beside : Bool) (s t : Span) (n e : ℕ) → List (Option Item)
  chosen a x y rest near c k beside s t n e =
      an_act a (place t.start c (n + s.extent) e) ++ a_skip s.here (place s.start c n e)
      ++ written entry beside c n e x ++ written entry (begins_here near rest) c (n + s.extent) e y ++ known (flat entry near c (n + s.extent + t.extent) k rest)

  abbrev choice : Act → (x y : Pieces) (rest : Code ℕ) (near : Bool) → Around → (i k : ℕ) (beside : Bool) (s t : Span) (n : ℕ) → List (Option Item)
  choice a x y rest near c i k beside s t n = chosen a x y rest near c k beside s t n (place (start_of rest) c (n + s.extent + t.extent) k)

  abbrev turned : (test body step : Pieces) (rest : Code ℕ) (near : Bool) → Around → (i k : ℕ) (f t s : Span) (behind : ℕ) → List (Option Item)
  turned test body step rest near c i k f t s behind =
      let b = i + f.extent in
      let e = b + t.extent in
      let o : ℕ = if s.here then e else i in
      let loop : Loop = record { behind = behind; onward = o } in
      written entry t.here (Some loop) i (place t.start (Some loop) b o) test
      ++ written entry s.here (Some loop) b o body ++ written entry false (Some loop) e i step ++ known (flat entry near c (e + s.extent) k rest)

  abbrev rounded : (body test : Pieces) (rest : Code ℕ) (near : Bool) → Around → (i k : ℕ) (s u : Span) (behind : ℕ) → List (Option Item)
  rounded body test rest near c i k s u behind =
      let t = i + s.extent in
      let loop : Loop = record { behind = behind; onward = t } in
      written entry true (Some loop) i t body ++ written entry false (Some loop) t (place s.start (Some loop) i t) test
      ++ known (flat entry near c (t + u.extent) k rest)

  abbrev called : Act → (function : ℕ) (opening : Pieces) (rest : Code ℕ) (near : Bool) → Around → (i k : ℕ) → Spans → (n : ℕ) → List (Option Item)
  called a function opening rest near c i k spans n =
      let e = n + spans.near.extent in
      let here = begins_here near rest in
      an_act a (entry function) ++ written entry true None n e opening
      ++ Some (jump (entry function)) ∷ a_skip here (place (start_of rest) c (past here e) k)
      ++ known (flat entry near c (past here e) k rest)

  mutual
    pub lists : (pieces : Pieces) → IsMeasured pieces → (near : Bool) (c : Around) (i k : ℕ)
        → written entry near c i k pieces ≡ known (flat entry near c i k (code_of pieces))
    lists no_pieces m near c i k = refl
    lists (piece first others) m near c i k =
        let rest = code_of others in
        let s = span_of near rest in
        ap (λ s. piece_written entry first s c i k ++ written entry near c (behind_of first s i) k others) (measures others m.1 near)
        ∙ ap (λ l. piece_written entry first s c i k ++ l) (lists others m.1 near c (behind_of first s i) k)
        ∙ piece_lists first m.0 rest near c i k

    piece_lists : (p : PieceTree) → IsPieceMeasured p → (rest : Code ℕ) (near : Bool) (c : Around) (i k : ℕ)
        → piece_written entry p (span_of near rest) c i k ++ known (flat entry near c (behind_of p (span_of near rest) i) k rest)
        ≡ known (flat entry near c i k (code_before p rest))
    piece_lists (Perform a) m rest near c i k =
        let here = goes_away (way_of a.operation) || begins_here near rest in
        ap (λ l. Some (act a.site a.operation (aim (way_of a.operation) k)) ∷ l) (tail rest near c k here (past here i) (suc i + gap here) (past_is here i))
    piece_lists (Choose a x of_x y of_y) m rest near c i k =
        let X = code_of x in
        let Y = code_of y in
        let after = begins_here near rest in
        let beside = after && (extent after Y == 0) in
        let second = span_at of_y Y m.2 after after refl in
        let beside_is = besides of_y Y rest m.2 near in
        let first = span_at of_x X m.0 (is_beside of_y (span_of near rest)) beside beside_is in
        let here = begins_here beside X in
        let a1 = suc i + gap here in
        let b = a1 + extent beside X in
        let r = b + extent after Y in
        let m1 = label c r k rest in
        ap3 (λ (b : Bool) (s t : Span). choice a x y rest near c i k b s t (past s.here i)) beside_is first second
        ∙ ap (λ n. choice a x y rest near c i k beside (span_of beside X) (span_of after Y) n) (past_is here i)
        ∙ ap (λ e. chosen a x y rest near c k beside (span_of beside X) (span_of after Y) a1 e) (starts rest c r k)
        ∙ ap₂ (λ (t : ℕ) (l : List (Option Item)). Some (act a.site a.operation t) ∷ l) (starts Y c b m1)
        (ap (λ t. a_skip here t ++ written entry beside c a1 m1 x ++ written entry after c b m1 y ++ known (flat entry near c r k rest)) (starts X c a1 m1)
        ∙ ap3 (λ (s t u : List (Option Item)). s ++ t ++ u ++ known (flat entry near c r k rest)) (skips here (label c a1 m1 X)) (lists x m.1 beside c a1 m1) (lists y m.3 after c b m1)
        ∙ four (skip here (label c a1 m1 X)) (flat entry beside c a1 m1 X) (flat entry after c b m1 Y) (flat entry near c r k rest))
    piece_lists (While test of_test body of_body step of_step) m rest near c i k =
        let T = code_of test in
        let B = code_of body in
        let S = code_of step in
        let steps = begins_here false S in
        let enters = begins_here steps B in
        let stepping = ap (λ (s : Spans). s.far) m.4 in
        let turn = span_at of_body B m.2 of_step.far.here steps (ap (λ (s : Span). s.here) stepping) in
        let first = span_at of_test T m.0 (span_in of_body of_step.far.here).here enters (ap (λ (s : Span). s.here) turn) in
        let b = i + extent enters T in
        let t = b + extent steps B in
        let r = t + extent false S in
        let o : ℕ = if steps then t else i in
        let loop : Loop = record { behind = label c r k rest; onward = o } in
        ap3 (λ (f t s : Span). turned test body step rest near c i k f t s (place (start_of rest) c (i + f.extent + t.extent + s.extent) k)) first turn stepping
        ∙ ap (λ n. turned test body step rest near c i k (span_of enters T) (span_of steps B) (span_of false S) n) (starts rest c r k)
        ∙ ap (λ n. written entry enters (Some loop) i n test ++ written entry steps (Some loop) b o body ++ written entry false (Some loop) t i step ++ known (flat entry near c r k rest)) (starts B (Some loop) b o)
        ∙ ap3 (λ (x y z : List (Option Item)). x ++ y ++ z ++ known (flat entry near c r k rest))
        (lists test m.1 enters (Some loop) i (label (Some loop) b o B)) (lists body m.3 steps (Some loop) b o) (lists step m.5 false (Some loop) t i)
        ∙ four (flat entry enters (Some loop) i (label (Some loop) b o B) T) (flat entry steps (Some loop) b o B) (flat entry false (Some loop) t i S) (flat entry near c r k rest)
    piece_lists (Until body of_body test of_test) m rest near c i k =
        let T = code_of test in
        let B = code_of body in
        let t = i + extent true B in
        let r = t + extent false T in
        let loop : Loop = record { behind = label c r k rest; onward = t } in
        ap₂ (λ (s u : Span). rounded body test rest near c i k s u (place (start_of rest) c (i + s.extent + u.extent) k)) (ap (λ (s : Spans). s.near) m.0) (ap (λ (s : Spans). s.far) m.2)
        ∙ ap (λ n. rounded body test rest near c i k (span_of true B) (span_of false T) n) (starts rest c r k)
        ∙ ap (λ n. written entry true (Some loop) i t body ++ written entry false (Some loop) t n test ++ known (flat entry near c r k rest)) (starts B (Some loop) i t)
        ∙ ap₂ (λ (x y : List (Option Item)). x ++ y ++ known (flat entry near c r k rest))
        (lists body m.1 true (Some loop) i t) (lists test m.3 false (Some loop) t (label (Some loop) i t B))
        ∙ three (flat entry true (Some loop) i t B) (flat entry false (Some loop) t (label (Some loop) i t B) T) (flat entry near c r k rest)
    piece_lists (Quit a) m rest near c i k =
        let here = begins_here near rest in
        ap (λ l. Some (act a.site a.operation (behind c)) ∷ l) (tail rest near c k here (past here i) (suc i + gap here) (past_is here i))
    piece_lists Break m rest near c i k = refl
    piece_lists Continue m rest near c i k = refl
    piece_lists (Call a function opening of_opening) m rest near c i k =
        let O = code_of opening in
        let here = begins_here near rest in
        let e = suc i + extent true O in
        let r = suc e + gap here in
        let n : i + 1 ≡ suc i = omega arith in
        ap (λ (s : Spans). called a function opening rest near c i k s (i + 1)) m.0
        ∙ ap (λ n. called a function opening rest near c i k (spans_of O) n) n
        ∙ ap (λ l. Some (act a.site a.operation (entry function)) ∷ l)
        (ap3 (λ (x y : List (Option Item)) (r : ℕ). x ++ (Some (jump (entry function)) ∷ y) ++ known (flat entry near c r k rest))
        (lists opening m.1 true None (suc i) e) (ap (λ r. a_skip here (place (start_of rest) c r k)) (past_is here e)) (past_is here e)
        ∙ ap (λ t. known (flat entry true None (suc i) e O) ++ (Some (jump (entry function)) ∷ a_skip here t) ++ known (flat entry near c r k rest)) (starts rest c r k)
        ∙ ap (λ l. known (flat entry true None (suc i) e O) ++ (Some (jump (entry function)) ∷ l) ++ known (flat entry near c r k rest)) (skips here (label c r k rest))
        ∙ three (flat entry true None (suc i) e O) (jump (entry function) ∷ skip here (label c r k rest)) (flat entry near c r k rest))
    piece_lists (Ends a) m rest near c i k =
        let n : i + 1 ≡ suc i = omega arith in
        ap (λ n. Some (act a.site a.operation 0) ∷ known (flat entry near c n k rest)) n
