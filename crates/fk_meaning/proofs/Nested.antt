-- What is left in a run, with its loops under way: what stands behind the parts and bodies round it stays the same.
use Rattle.std.proofs.Common.{◌≡◌, ℕ, Bool, true, false, true≢false, not, List, [], ◌∷◌, ap, ap₂, ◌∙◌, sym, refl, subst}
use Rattle.std.specs.Prelude.{if◌then◌else◌}
use Rattle.fk_meaning_operation.specs.declared.operation.Operation.{Operation}
use Rattle.fk_meaning_operation.specs.declared.operation.Operation.TheVariants as o
use Rattle.fk_meaning_forms.specs.Code.{Code, done, perform, choose, while, until, turn, again, quit, break, continue, call, ends, append}
use Rattle.fk_meaning.specs.Left.{broken, continued, settled_turn, opened, settled}
use Rattle.fk_meaning.specs.Behind.{opens_body, is_shrink, shrinks, grown, past}
use Rattle.fk_meaning.specs.Shape.{Exits, none, of_function, of_test, of_turn, of_arm, of_way, splits, has_two_parts, confines, waits, is_performed, is_chosen, is_quit, is_of_call, ends_part, begins, meets, Either, Shape}
use Rattle.fk_meaning.proofs.Spine.{untrue, by_either, test_is, past_append, broken_append, continued_append, append_done, meets_append, begins_settled}

-- what leaves a loop by its test leads behind the same parts, or behind the one that the loop is
abbrev pub QuitFits : (shrinking : Bool) → Code ℕ → Type 0
QuitFits true rest = (past rest ≡ broken rest ∷ past (broken rest)) × (begins (broken rest) ≡ true)
QuitFits false rest = past (broken rest) ≡ past rest

-- what stands behind code takes its exits
pub record Allows (x : Exits) (rest : Code ℕ) : Type 0 where
  pub breaks : x.breaks ≡ true → past (broken rest) ≡ past rest
  pub continues : x.continues ≡ true → past (continued rest) ≡ past rest
  pub returns : x.returns ≡ true → past rest ≡ []
  pub tests : x.tests ≡ true → QuitFits x.shrinking rest

pub record Loop (test body step rest : Code ℕ) : Type 0 where
  pub exits : Exits
  pub shrinking : Bool
  pub test_in : Shape false false (of_test shrinking) test
  pub body_in : Shape false false (of_turn shrinking exits) body
  pub step_in : Shape false false none step
  pub begins_behind : shrinking ≡ true → begins rest ≡ true
  pub returns : shrinking ≡ false → exits.returns ≡ true → past rest ≡ []

abbrev pub Nested : Code ℕ → Type 0
Nested done = Unit {0}
Nested (perform t op rest) = (is_performed op ≡ true) × Nested rest
Nested (choose t op a b rest) =
    (is_chosen op ≡ true) × (x : Exits) × Shape (splits op) false (of_way op x) a × Shape (has_two_parts op) false (of_way op x) b
    × (waits op ≡ true → b ≡ done) × (splits op ≡ true → begins rest ≡ true) × (opens_body op ≡ true → meets rest ≡ true)
    × (confines op ≡ false → Allows x rest) × Nested rest
Nested (while test body step rest) = Loop test body step rest × Nested rest
Nested (until body test rest) = Loop test body done rest × Nested rest
Nested (turn test body step rest) = Loop test body step rest × Nested rest
Nested (again test body step rest) = Loop test body step rest × Nested rest
Nested (quit t op rest) = (is_quit op ≡ true) × QuitFits (is_shrink op) rest × Nested rest
Nested (break rest) = (past (broken rest) ≡ past rest) × Nested rest
Nested (continue rest) = (past (continued rest) ≡ past rest) × Nested rest
Nested (call t op f opening rest) = (is_of_call op ≡ true) × Shape false false none opening × Nested rest
Nested (ends t op rest) = (is_of_call op ≡ true) × (past rest ≡ []) × Nested rest

pub no_exits : (d : Code ℕ) → Allows none d
no_exits d = record { breaks = λ e. untrue e; continues = λ e. untrue e; returns = λ e. untrue e; tests = λ e. untrue e }

arm_allows : (x : Exits) (d : Code ℕ) → Allows x d → Allows (of_arm x) d
arm_allows x d h = record { breaks = h.breaks; continues = h.continues; returns = h.returns; tests = λ e. untrue e }

pub way_allows : (b : Bool) (x : Exits) (d : Code ℕ) → (b ≡ false → Allows x d) → Allows (if b then none else of_arm x) d
way_allows true x d h = no_exits d
way_allows false x d h = arm_allows x d (h refl)

quit_append : (shrinking : Bool) (c d : Code ℕ) → past c ≡ past d → broken c ≡ broken d → QuitFits shrinking d → QuitFits shrinking c
quit_append true c d e f h = (
  e ∙ h.0 ∙ ap (λ (r : Code ℕ). r ∷ past r) (sym f),
  ap begins f ∙ h.1,
)
quit_append false c d e f h = ap past f ∙ h ∙ sym e

-- the exits of code that is no part, behind more of it
behind_more : (x : Exits) (c d : Code ℕ) → past c ≡ past d → broken c ≡ broken d → continued c ≡ continued d → Allows x d → Allows x c
behind_more x c d e f g h = record {
  breaks = λ is. ap past f ∙ h.breaks is ∙ sym e;
  continues = λ is. ap past g ∙ h.continues is ∙ sym e;
  returns = λ is. e ∙ h.returns is;
  tests = λ is. quit_append x.shrinking c d e f (h.tests is);
}

pub allows_append : (part : Bool) (x : Exits) (code d : Code ℕ) → Shape part false x code → (part ≡ true → x ≡ none) → Allows x d → Allows x (append code d)
allows_append true x code d s quiet h = subst (λ (y : Exits). Allows y (append code d)) (sym (quiet refl)) (no_exits (append code d))
allows_append false x code d s quiet h =
    behind_more x (append code d) d (past_append false false x code d s) (broken_append false false x code d s) (continued_append false false x code d s) h

confines_opens : (op : Operation) → confines op ≡ false → opens_body op ≡ false
confines_opens o.Farm e = absurd (true≢false e)
confines_opens o.Seq e = absurd (true≢false e)
confines_opens op e = refl

opens_meets : (b part : Bool) (x : Exits) (code d : Code ℕ) → Shape part b x code → b ≡ true → meets (append code d) ≡ true
opens_meets true part x code d h e = meets_append part x code d h
opens_meets false part x code d h e = untrue e

splits_begin : (rest d : Code ℕ) → begins rest ≡ true → begins (append rest d) ≡ true
splits_begin (perform t op rest) d e = refl
splits_begin done d e = untrue e
splits_begin (choose t op a b rest) d e = untrue e
splits_begin (while test body step rest) d e = untrue e
splits_begin (until body test rest) d e = untrue e
splits_begin (turn test body step rest) d e = untrue e
splits_begin (again test body step rest) d e = untrue e
splits_begin (quit t op rest) d e = untrue e
splits_begin (break rest) d e = untrue e
splits_begin (continue rest) d e = untrue e
splits_begin (call t op f opening rest) d e = untrue e
splits_begin (ends t op rest) d e = untrue e

-- a loop before more
loop_append : (part shrinking : Bool) (x : Exits) (test body step rest d : Code ℕ)
    → Shape false false (of_test shrinking) test → Shape false false (of_turn shrinking x) body → Shape false false none step
    → Either shrinking ((part ≡ true) × (x.tests ≡ false) × (rest ≡ done)) (Shape part false x rest)
    → (part ≡ true → begins d ≡ true) → (Shape part false x rest → Allows x (append rest d))
    → Loop test body step (append rest d)
loop_append part true x test body step rest d t b s h begin allows = record {
  exits = x;
  shrinking = true;
  test_in = t;
  body_in = b;
  step_in = s;
  begins_behind = λ e. subst (λ (r : Code ℕ). begins (append r d) ≡ true) (sym h.2) (begin h.0);
  returns = λ e is. absurd (true≢false e);
}
loop_append part false x test body step rest d t b s h begin allows = record {
  exits = x;
  shrinking = false;
  test_in = t;
  body_in = b;
  step_in = s;
  begins_behind = λ e. untrue e;
  returns = λ e is. (allows h).returns is;
}

done_nested : (d rest : Code ℕ) → rest ≡ done → Nested d → Nested (append rest d)
done_nested d rest e h = subst (λ (r : Code ℕ). Nested (append r d)) (sym e) h

pub nested_append : (part closing : Bool) (x : Exits) (code d : Code ℕ) → Shape part closing x code → Nested d → Allows x d
    → (part ≡ true → x ≡ none) → (part ≡ true → begins d ≡ true) → Nested (append code d)
nested_append part closing x done d s h a quiet begin = h
nested_append part closing x (perform t op rest) d s h a quiet begin = (
  s.1,
  by_either (ends_part op) _ _ _ s.2 (λ e. done_nested d rest e.2 h) (λ g. nested_append part false x rest d g h a quiet begin),
)
nested_append part closing x (choose t op y z rest) d s h a quiet begin = (
  s.1,
  x,
  s.2,
  s.3,
  s.4,
  (λ e. splits_begin rest d (s.5 e)),
  opens_meets (opens_body op) part x rest d s.6,
  (λ e. allows_append part x rest d (subst (λ b. Shape part b x rest) (confines_opens op e) s.6) quiet a),
  nested_append part (opens_body op) x rest d s.6 h a quiet begin,
)
nested_append part closing x (while test body step rest) d s h a quiet begin = (
  loop_append part s.1 x test body step rest d s.2 s.3 s.4 s.5 begin (λ g. allows_append part x rest d g quiet a),
  by_either s.1 _ _ _ s.5 (λ e. done_nested d rest e.2 h) (λ g. nested_append part false x rest d g h a quiet begin),
)
nested_append part closing x (until body test rest) d s h a quiet begin = (
  loop_append part s.1 x test body done rest d s.2 s.3 (refl, refl, refl) s.4 begin (λ g. allows_append part x rest d g quiet a),
  by_either s.1 _ _ _ s.4 (λ e. done_nested d rest e.2 h) (λ g. nested_append part false x rest d g h a quiet begin),
)
nested_append part closing x (turn test body step rest) d s h a quiet begin = absurd s
nested_append part closing x (again test body step rest) d s h a quiet begin = absurd s
nested_append part closing x (quit t op rest) d s h a quiet begin = (
  s.1,
  subst (λ (r : Code ℕ). QuitFits (is_shrink op) (append r d)) (sym s.5) (subst (λ b. QuitFits b d) (sym s.4) (a.tests s.3)),
  done_nested d rest s.5 h,
)
nested_append part closing x (break rest) d s h a quiet begin =
    ((allows_append part x rest d s.2 quiet a).breaks s.1, nested_append part false x rest d s.2 h a quiet begin)
nested_append part closing x (continue rest) d s h a quiet begin =
    ((allows_append part x rest d s.2 quiet a).continues s.1, nested_append part false x rest d s.2 h a quiet begin)
nested_append part closing x (call t op f opening rest) d s h a quiet begin =
    (s.1, s.2, nested_append part false x rest d s.3 h a quiet begin)
nested_append part closing x (ends t op rest) d s h a quiet begin =
    (s.1, (allows_append part x rest d s.3 quiet a).returns s.2, nested_append part false x rest d s.3 h a quiet begin)

-- code that is no part
pub nested_before : (x : Exits) (code d : Code ℕ) → Shape false false x code → Nested d → Allows x d → Nested (append code d)
nested_before x code d s h a = nested_append false false x code d s h a (λ e. untrue e) (λ e. untrue e)

pub body_nested : (code : Code ℕ) → Shape false false of_function code → Nested code
body_nested code s =
    subst Nested (append_done code)
    (nested_before of_function code done s tt
    (record { breaks = λ e. untrue e; continues = λ e. untrue e; returns = λ e. refl; tests = λ e. untrue e }))

-- loops
module _ (test body step rest : Code ℕ) (l : Loop test body step rest) where
  shrinks_as : shrinks test ≡ l.shrinking
  shrinks_as = test_is l.shrinking test l.test_in

  plain_past : l.shrinking ≡ false → past rest ≡ grown (shrinks test) (settled rest) (past rest)
  plain_past e = ap (λ b. grown b (settled rest) (past rest)) (sym (shrinks_as ∙ e))

  part_past : l.shrinking ≡ true → grown (shrinks test) (settled rest) (past rest) ≡ rest ∷ past rest
  part_past e =
      ap (λ b. grown b (settled rest) (past rest)) (shrinks_as ∙ e)
      ∙ ap (λ (r : Code ℕ). r ∷ past rest) (begins_settled rest (l.begins_behind e))

  next_past : past (append step (again test body step rest)) ≡ grown (shrinks test) (settled rest) (past rest)
  next_past = past_append false false none step (again test body step rest) l.step_in

  next_nested : Nested rest → Nested (append step (again test body step rest))
  next_nested h = nested_before none step (again test body step rest) l.step_in (l, h) (no_exits (again test body step rest))

  returns_by : (shrinking : Bool) → shrinking ≡ l.shrinking → (if shrinking then false else l.exits.returns) ≡ true
      → grown (shrinks test) (settled rest) (past rest) ≡ []
  returns_by true e is = untrue is
  returns_by false e is = sym (plain_past (sym e)) ∙ l.returns (sym e) is

  breaks_by : (shrinking : Bool) → shrinking ≡ l.shrinking → not shrinking ≡ true → past rest ≡ grown (shrinks test) (settled rest) (past rest)
  breaks_by true e is = untrue is
  breaks_by false e is = plain_past (sym e)

  -- the end of a turn takes the exits of the turn
  pub turn_allows : Allows (of_turn l.shrinking l.exits) (turn test body step rest)
  turn_allows = record {
    breaks = breaks_by l.shrinking refl;
    continues = λ is. next_past;
    returns = returns_by l.shrinking refl;
    tests = λ is. untrue is;
  }

  -- and a turn those of the test
  abbrev this_turn : Code ℕ
  this_turn = append body (turn test body step rest)

  pub turn_past : past this_turn ≡ grown (shrinks test) (settled rest) (past rest)
  turn_past = past_append false false (of_turn l.shrinking l.exits) body (turn test body step rest) l.body_in

  turn_broken : broken this_turn ≡ rest
  turn_broken = broken_append false false (of_turn l.shrinking l.exits) body (turn test body step rest) l.body_in

  quits_by : (shrinking : Bool) → shrinking ≡ l.shrinking → QuitFits shrinking this_turn
  quits_by true e = (
    turn_past ∙ part_past (sym e) ∙ ap (λ (r : Code ℕ). r ∷ past r) (sym turn_broken),
    ap begins turn_broken ∙ l.begins_behind (sym e),
  )
  quits_by false e = ap past turn_broken ∙ plain_past (sym e) ∙ sym turn_past

  pub test_allows : Allows (of_test l.shrinking) this_turn
  test_allows = record {
    breaks = λ is. untrue is;
    continues = λ is. untrue is;
    returns = λ is. untrue is;
    tests = λ is. quits_by l.shrinking refl;
  }

  pub turn_nested : Nested rest → Nested this_turn
  turn_nested h = nested_before (of_turn l.shrinking l.exits) body (turn test body step rest) l.body_in (l, h) turn_allows

  -- the whole of a turn, with its test
  pub whole_past : past (append test this_turn) ≡ grown (shrinks test) (settled rest) (past rest)
  whole_past = past_append false false (of_test l.shrinking) test this_turn l.test_in ∙ turn_past

  pub whole_nested : Nested rest → Nested (append test this_turn)
  whole_nested h = nested_before (of_test l.shrinking) test this_turn l.test_in (turn_nested h) test_allows

-- the same loop before other code that leads on alike
same_loop : (test body step rest other : Code ℕ) → Loop test body step rest → past other ≡ past rest → (begins rest ≡ true → begins other ≡ true)
    → Loop test body step other
same_loop test body step rest other l e f = record {
  exits = l.exits;
  shrinking = l.shrinking;
  test_in = l.test_in;
  body_in = l.body_in;
  step_in = l.step_in;
  begins_behind = λ is. f (l.begins_behind is);
  returns = λ is r. e ∙ l.returns is r;
}

pub nested_broken : (code : Code ℕ) → Nested code → Nested (broken code)
nested_broken done h = tt
nested_broken (perform t op rest) h = nested_broken rest h.1
nested_broken (choose t op a b rest) h = nested_broken rest h.8
nested_broken (while test body step rest) h = nested_broken rest h.1
nested_broken (until body test rest) h = nested_broken rest h.1
nested_broken (turn test body step rest) h = h.1
nested_broken (again test body step rest) h = h.1
nested_broken (quit t op rest) h = nested_broken rest h.2
nested_broken (break rest) h = nested_broken rest h.1
nested_broken (continue rest) h = nested_broken rest h.1
nested_broken (call t op f opening rest) h = nested_broken rest h.2
nested_broken (ends t op rest) h = nested_broken rest h.2

nested_continued : (code : Code ℕ) → Nested code → Nested (continued code)
nested_continued done h = tt
nested_continued (perform t op rest) h = nested_continued rest h.1
nested_continued (choose t op a b rest) h = nested_continued rest h.8
nested_continued (while test body step rest) h = nested_continued rest h.1
nested_continued (until body test rest) h = nested_continued rest h.1
nested_continued (turn test body step rest) h = next_nested test body step rest h.0 h.1
nested_continued (again test body step rest) h = next_nested test body step rest h.0 h.1
nested_continued (quit t op rest) h = nested_continued rest h.2
nested_continued (break rest) h = nested_continued rest h.1
nested_continued (continue rest) h = nested_continued rest h.1
nested_continued (call t op f opening rest) h = nested_continued rest h.2
nested_continued (ends t op rest) h = nested_continued rest h.2

-- code that leads on as other code does
pub record LeadsAs (code other : Code ℕ) : Type 0 where
  pub same : past code ≡ past other
  pub nested : Nested code

turned : (d : Code ℕ) → Nested d → LeadsAs (settled_turn d) d
turned (turn test body step rest) h = record { same = next_past test body step rest h.0; nested = next_nested test body step rest h.0 h.1 }
turned d h = record { same = refl; nested = h }

grown_same : {X : Type 0} (b : Bool) (x y : X) (xs ys : List X) → (b ≡ true → x ≡ y) → xs ≡ ys → grown b x xs ≡ grown b y ys
grown_same true x y xs ys e f = ap₂ (λ z zs. z ∷ zs) (e refl) f
grown_same false x y xs ys e f = f

before_more : (x : Exits) (code d : Code ℕ) → Shape false false x code → Nested d → Allows x d → LeadsAs (append code d) d
before_more x code d s h a = record { same = past_append false false x code d s; nested = nested_before x code d s h a }

pub opens : (x : Exits) (code d : Code ℕ) → Shape false false x code → Nested d → Allows x d → LeadsAs (opened code d) d
opens x done d s h a = turned d h
opens x (perform t op rest) d s h a = before_more x (perform t op rest) d s h a
opens x (choose t op y z rest) d s h a = before_more x (choose t op y z rest) d s h a
opens x (while test body step rest) d s h a = by (λ g. opens x rest d g h a) s.1 s.2 s.3 s.5
  where
    by : (Shape false false x rest → LeadsAs (opened rest d) d) → (shrinking : Bool) → Shape false false (of_test shrinking) test → Shape false false (of_turn shrinking x) body
        → Either shrinking ((false ≡ true) × (x.tests ≡ false) × (rest ≡ done)) (Shape false false x rest)
        → LeadsAs (again test body step (opened rest d)) d
    by more true t b g = untrue g.0
    by more false t b g =
        let r = more g in
        let l : Loop test body step (opened rest d) = record {
          exits = x;
          shrinking = false;
          test_in = t;
          body_in = b;
          step_in = s.4;
          begins_behind = λ e. untrue e;
          returns = λ e is. r.same ∙ a.returns is;
        } in
        record { same = sym (plain_past test body step (opened rest d) l refl) ∙ r.same; nested = (l, r.nested) }
opens x (until body test rest) d s h a =
    by (λ g. opens x rest d g h a) (λ d' g h' a'. opens (of_turn false x) body d' g h' a') s.1 s.2 s.3 s.4
  where
    by : (Shape false false x rest → LeadsAs (opened rest d) d)
        → ((d' : Code ℕ) → Shape false false (of_turn false x) body → Nested d' → Allows (of_turn false x) d' → LeadsAs (opened body d') d')
        → (shrinking : Bool) → Shape false false (of_test shrinking) test → Shape false false (of_turn shrinking x) body
        → Either shrinking ((false ≡ true) × (x.tests ≡ false) × (rest ≡ done)) (Shape false false x rest)
        → LeadsAs (opened body (turn test body done (opened rest d))) d
    by more first true t b g = untrue g.0
    by more first false t b g =
        let r = more g in
        let l : Loop test body done (opened rest d) = record {
          exits = x;
          shrinking = false;
          test_in = t;
          body_in = b;
          step_in = (refl, refl, refl);
          begins_behind = λ e. untrue e;
          returns = λ e is. r.same ∙ a.returns is;
        } in
        let inner = first (turn test body done (opened rest d)) b (l, r.nested) (turn_allows test body done (opened rest d) l) in
        record { same = inner.same ∙ sym (plain_past test body done (opened rest d) l refl) ∙ r.same; nested = inner.nested }
opens x (turn test body step rest) d s h a = absurd s
opens x (again test body step rest) d s h a = absurd s
opens x (quit t op rest) d s h a = before_more x (quit t op rest) d s h a
opens x (break rest) d s h a =
    let e = broken_append false false x rest d s.2 in
    record { same = ap past e ∙ a.breaks s.1; nested = subst Nested (sym e) (nested_broken d h) }
opens x (continue rest) d s h a =
    let e = continued_append false false x rest d s.2 in
    record { same = ap past e ∙ a.continues s.1; nested = subst Nested (sym e) (nested_continued d h) }
opens x (call t op f opening rest) d s h a = before_more x (call t op f opening rest) d s h a
opens x (ends t op rest) d s h a = before_more x (ends t op rest) d s h a

begins_on : (rest : Code ℕ) → begins rest ≡ true → begins (settled rest) ≡ true
begins_on rest e = ap begins (begins_settled rest e) ∙ e

-- a loop that is settled before what is settled
loop_past : (test body step rest : Code ℕ) → Loop test body step rest → past (settled rest) ≡ past rest
    → grown (shrinks test) (settled (settled rest)) (past (settled rest)) ≡ grown (shrinks test) (settled rest) (past rest)
loop_past test body step rest l e =
    grown_same (shrinks test) (settled (settled rest)) (settled rest) (past (settled rest)) (past rest)
    (λ is. ap settled (begins_settled rest (l.begins_behind (sym (shrinks_as test body step rest l) ∙ is)))) e

pub settles : (code : Code ℕ) → Nested code → LeadsAs (settled code) code
settles (while test body step rest) h =
    let r = settles rest h.1 in
    record {
      same = loop_past test body step rest h.0 r.same;
      nested = (same_loop test body step rest (settled rest) h.0 r.same (begins_on rest), r.nested);
    }
settles (until body test rest) h =
    let r = settles rest h.1 in
    let l = same_loop test body done rest (settled rest) h.0 r.same (begins_on rest) in
    let inner = opens (of_turn l.shrinking l.exits) body (turn test body done (settled rest)) l.body_in (l, r.nested) (turn_allows test body done (settled rest) l) in
    record { same = inner.same ∙ loop_past test body done rest h.0 r.same; nested = inner.nested }
settles (turn test body step rest) h = record { same = next_past test body step rest h.0; nested = next_nested test body step rest h.0 h.1 }
settles (break rest) h = record { same = h.0; nested = nested_broken rest h.1 }
settles (continue rest) h = record { same = h.0; nested = nested_continued rest h.1 }
settles code h = record { same = refl; nested = h }
