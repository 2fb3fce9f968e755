-- An operation goes on as its parts and bodies are nested.
use Rattle.std.proofs.Common.{◌≡◌, ℕ, Bool, true, false, true≢false, List, [], ◌∷◌, ◌++◌, Option, Some, None, ap, ap₂, ◌∙◌, sym, refl, subst}
use Rattle.std.specs.Prelude.{if◌then◌else◌}
use Rattle.fk_meaning_operation.specs.declared.operation.Operation.{Operation}
use Rattle.fk_meaning_operation.specs.declared.operation.Operation.TheVariants as o
use Rattle.fk_meaning_operation.specs.declared.operation.SplitKind.TheVariants.{IfElse}
use Rattle.fk_meaning.specs.Round.{Step}
use Rattle.fk_meaning_forms.specs.Code.{Code, done, perform, choose, while, until, turn, again, quit, break, continue, call, ends, append}
use Rattle.fk_meaning.specs.Left.{broken, settled}
use Rattle.fk_meaning.specs.Next.{Work, going, returned, step, step_of, next}
use Rattle.fk_meaning.specs.Sites.{rest_of, after_ways}
use Rattle.fk_meaning.specs.Behind.{opens_body, is_shrink, tail, past, works, waiting, outs, GoesOn, GoesOnFrom}
use Rattle.fk_meaning.specs.Shape.{Exits, none, of_function, of_test, of_way, splits, has_two_parts, confines, waits, is_performed, is_chosen, is_quit, is_of_call, begins, meets, Shape}
use Rattle.fk_meaning.proofs.Spine.{untrue, past_append, past_none, test_meets, begins_settled}
use Rattle.fk_meaning.proofs.Nested.{QuitFits, Allows, Nested, no_exits, way_allows, nested_append, nested_before, body_nested, whole_past, whole_nested, nested_broken, settles}

-- what stands behind code and callers
abbrev all_behind : List (Code ℕ) → List (Code ℕ) → List Work
all_behind codes callers = works callers codes ++ waiting callers

abbrev at : Code ℕ → List (Code ℕ) → Work
at code callers = record { left = code; callers = callers }

going_outs : (code : Code ℕ) (callers codes : List (Code ℕ)) → Nested code → past code ≡ codes → outs (going code callers) ≡ all_behind codes callers
going_outs code callers codes h e = ap (λ cs. all_behind cs callers) ((settles code h).same ∙ e)

meets_past : (rest : Code ℕ) → meets rest ≡ true → past rest ≡ settled rest ∷ tail (past rest)
meets_past (perform t (o.Meet true) rest) e = refl
meets_past (perform t op rest) e = untrue e
meets_past done e = untrue e
meets_past (choose t op a b rest) e = untrue e
meets_past (while test body after rest) e = untrue e
meets_past (until body test rest) e = untrue e
meets_past (turn test body after rest) e = untrue e
meets_past (again test body after rest) e = untrue e
meets_past (quit t op rest) e = untrue e
meets_past (break rest) e = untrue e
meets_past (continue rest) e = untrue e
meets_past (call t op f opening rest) e = untrue e
meets_past (ends t op rest) e = untrue e

-- an operation of its own
performs : (t : ℕ) (op : Operation) (rest : Code ℕ) (callers : List (Code ℕ)) (here : Work) → is_performed op ≡ true → Nested rest
    → (meets (perform t op rest) ≡ true → here ≡ at (perform t op rest) callers)
    → GoesOn op here (all_behind (past (perform t op rest)) callers) (λ onward. going rest callers)
performs t (o.Split by) rest callers here is h e = untrue is
performs t o.Begin rest callers here is h e = untrue is
performs t o.Shrink rest callers here is h e = untrue is
performs t o.Farm rest callers here is h e = untrue is
performs t o.Seq rest callers here is h e = untrue is
performs t o.End rest callers here is h e =
    ap (λ (ws : List Work). going rest callers ∷ ws) (sym (going_outs rest callers (past rest) h refl))
performs t (o.Meet true) rest callers here is h e =
    ap₂ (λ (w : Work) (ws : List Work). w ∷ ws) (sym (e refl)) (sym (going_outs rest callers (past rest) h refl))
performs t op rest callers here is h e = λ onward. going_outs rest callers (past rest) h refl

-- a choice. Where nothing is done on the second way, what stands behind it is left at once
aside : (b rest : Code ℕ) (callers : List (Code ℕ)) → b ≡ done → going (append b rest) callers ≡ going rest callers
aside b rest callers e = ap (λ (c : Code ℕ). going (append c rest) callers) e

-- code before what stands behind a choice
in_way : (op : Operation) (x : Exits) (part : Bool) (a rest : Code ℕ) → Shape part false (of_way op x) a → Nested rest → (confines op ≡ false → Allows x rest)
    → (part ≡ true → confines op ≡ true) → (part ≡ true → begins rest ≡ true) → Nested (append a rest)
in_way op x part a rest s h allows quiet begin =
    nested_append part false (of_way op x) a rest s h (way_allows (confines op) x rest allows)
    (λ e. ap (λ b. if b then none else record x { tests = false; shrinking = false }) (quiet e)) begin

splits_confine : (op : Operation) → splits op ≡ true → confines op ≡ true
splits_confine o.Begin e = refl
splits_confine (o.Split by) e = refl
splits_confine op e = untrue e

two_confine : (op : Operation) → has_two_parts op ≡ true → splits op ≡ true
two_confine (o.Split IfElse) e = refl
two_confine (o.Split by) e = untrue e
two_confine op e = untrue e

module _ (t : ℕ) (op' : Operation) (a b rest : Code ℕ) (callers : List (Code ℕ)) (here : Work) where
  abbrev ways : Bool → Work
  ways onward = going (append (if onward then a else b) rest) callers

  -- both ways lead on behind what is in neither
  branches : (x y : Exits) → Shape false false x a → Shape false false y b → Nested (append a rest) → Nested (append b rest)
      → (onward : Bool) → outs (ways onward) ≡ all_behind (past rest) callers
  branches x y s u h g true = going_outs (append a rest) callers (past rest) h (past_append false false x a rest s)
  branches x y s u h g false = going_outs (append b rest) callers (past rest) g (past_append false false y b rest u)

  -- one part
  parts : (x : Exits) → Shape true false x a → Nested (append a rest) → Nested rest → b ≡ done
      → (outs (ways false) ≡ all_behind (past rest) callers) × (outs (ways true) ≡ ways false ∷ all_behind (past rest) callers)
  parts x s h g e =
      let other : ways false ≡ going rest callers = aside b rest callers e in (
        ap outs other ∙ going_outs rest callers (past rest) g refl,
        going_outs (append a rest) callers (settled rest ∷ past rest) h (past_append true false x a rest s)
            ∙ ap (λ (w : Work). w ∷ all_behind (past rest) callers) (sym other),
      )

  -- two of them
  two_parts : (x y : Exits) → Shape true false x a → Shape true false y b → Nested (append a rest) → Nested (append b rest) → Nested rest
      → (parent : Work) × (outs parent ≡ all_behind (past rest) callers)
      × (outs (ways true) ≡ parent ∷ all_behind (past rest) callers) × (outs (ways false) ≡ parent ∷ all_behind (past rest) callers)
  two_parts x y s u h k g = (
    going rest callers,
    going_outs rest callers (past rest) g refl,
    going_outs (append a rest) callers (settled rest ∷ past rest) h (past_append true false x a rest s),
    going_outs (append b rest) callers (settled rest ∷ past rest) k (past_append true false y b rest u),
  )

  -- a body
  opens_one : (x : Exits) → Shape false false x a → Nested (append a rest) → Nested rest → b ≡ done → meets rest ≡ true
      → (outs (ways false) ≡ ways false ∷ all_behind (tail (past rest)) callers) × (outs (ways true) ≡ ways false ∷ all_behind (tail (past rest)) callers)
  opens_one x s h g e meet =
      let other : ways false ≡ going rest callers = aside b rest callers e in
      let first = ap (λ (w : Work). w ∷ all_behind (tail (past rest)) callers) (sym other) in (
        ap outs other ∙ going_outs rest callers (settled rest ∷ tail (past rest)) g (meets_past rest meet) ∙ first,
        going_outs (append a rest) callers (settled rest ∷ tail (past rest)) h (past_append false false x a rest s ∙ meets_past rest meet) ∙ first,
      )

chooses : (t : ℕ) (op : Operation) (a b rest : Code ℕ) (callers : List (Code ℕ)) (here : Work) → is_chosen op ≡ true → (x : Exits)
    → Shape (splits op) false (of_way op x) a → Shape (has_two_parts op) false (of_way op x) b
    → (waits op ≡ true → b ≡ done) → (opens_body op ≡ true → meets rest ≡ true) → Nested (append a rest) → Nested (append b rest) → Nested rest
    → GoesOn op here (all_behind (past (choose t op a b rest)) callers) (ways t op a b rest callers here)
chooses t (o.Branch onward) a b rest callers here is x s u w m h k g = branches t (o.Branch onward) a b rest callers here (of_way (o.Branch onward) x) (of_way (o.Branch onward) x) s u h k
chooses t (o.Split IfElse) a b rest callers here is x s u w m h k g = two_parts t (o.Split IfElse) a b rest callers here none none s u h k g
chooses t (o.Split by) a b rest callers here is x s u w m h k g = parts t (o.Split by) a b rest callers here none s h g (w refl)
chooses t o.Begin a b rest callers here is x s u w m h k g = parts t o.Begin a b rest callers here none s h g (w refl)
chooses t o.Farm a b rest callers here is x s u w m h k g = opens_one t o.Farm a b rest callers here none s h g (w refl) (m refl)
chooses t o.Seq a b rest callers here is x s u w m h k g = opens_one t o.Seq a b rest callers here none s h g (w refl) (m refl)
chooses t op a b rest callers here is x s u w m h k g = untrue is

-- what leaves a loop by its test
quits : (op : Operation) (rest : Code ℕ) (callers : List (Code ℕ)) (here : Work) → is_quit op ≡ true → QuitFits (is_shrink op) rest → Nested rest
    → GoesOn op here (all_behind (past rest) callers) (λ onward. going (if onward then rest else broken rest) callers)
quits (o.Branch onward) rest callers here is fits h = by
  where
    by : (on : Bool) → outs (going (if on then rest else broken rest) callers) ≡ all_behind (past rest) callers
    by true = going_outs rest callers (past rest) h refl
    by false = going_outs (broken rest) callers (past rest) (nested_broken rest h) fits
quits o.Shrink rest callers here is fits h = (
  going_outs rest callers (past rest) h refl,
  ap (λ cs. all_behind cs callers) fits.0
      ∙ ap₂ (λ (c : Code ℕ) (ws : List Work). at c callers ∷ ws) (sym (begins_settled (broken rest) fits.1))
      (sym (going_outs (broken rest) callers (past (broken rest)) (nested_broken rest h) refl)),
)
quits op rest callers here is fits h = untrue is

-- where no part or body is entered or left
plainly : (op : Operation) (here : Work) (behind : List Work) (rest : Bool → Work) → is_of_call op ≡ true → ((onward : Bool) → outs (rest onward) ≡ behind) → GoesOn op here behind rest
plainly (o.Enter n) here behind rest is e = e
plainly (o.Leave gives framed) here behind rest is e = e
plainly o.Halt here behind rest is e = e
plainly op here behind rest is e = untrue is

-- of a processor
abbrev AllNested : List (Code ℕ) → Type 0
AllNested [] = Unit {0}
AllNested (code ∷ codes) = Nested code × AllNested codes

pub record WorkNested (work : Work) : Type 0 where
  pub left : Nested work.left
  pub callers : AllNested work.callers

goes : (code : Code ℕ) (callers : List (Code ℕ)) → Nested code → AllNested callers → WorkNested (going code callers)
goes code callers h g = record { left = (settles code h).nested; callers = g }

returns : (callers : List (Code ℕ)) → AllNested callers → WorkNested (returned callers)
returns [] g = record { left = tt; callers = tt }
returns (code ∷ callers) g = goes code callers g.0 g.1

returned_outs : (callers : List (Code ℕ)) → AllNested callers → outs (returned callers) ≡ waiting callers
returned_outs [] g = refl
returned_outs (code ∷ callers) g = going_outs code callers (past code) g.0 refl

pub record Stepped (here : Work) (behind : List Work) (s : Step Work) : Type 0 where
  pub goes_on : GoesOn s.operation here behind s.rest
  pub nested : (onward : Bool) → WorkNested (s.rest onward)

abbrev OptionStepped : (here : Work) (behind : List Work) → Option (Step Work) → Type 0
OptionStepped here behind None = Unit {0}
OptionStepped here behind (Some s) = Stepped here behind s

module _ (bodies : ℕ → Code ℕ) (all_bodies : (f : ℕ) → Shape false false of_function (bodies f)) where
  chosen_nested : (a b rest : Code ℕ) (callers : List (Code ℕ)) → Nested (append a rest) → Nested (append b rest) → AllNested callers
      → (onward : Bool) → WorkNested (going (append (if onward then a else b) rest) callers)
  chosen_nested a b rest callers h g k true = goes (append a rest) callers h k
  chosen_nested a b rest callers h g k false = goes (append b rest) callers g k

  quit_nested : (rest : Code ℕ) (callers : List (Code ℕ)) → Nested rest → AllNested callers
      → (onward : Bool) → WorkNested (going (if onward then rest else broken rest) callers)
  quit_nested rest callers h k true = goes rest callers h k
  quit_nested rest callers h k false = goes (broken rest) callers (nested_broken rest h) k

  steps : (code : Code ℕ) (callers : List (Code ℕ)) (here : Work) → Nested code → AllNested callers → (meets code ≡ true → here ≡ at code callers)
      → OptionStepped here (all_behind (past code) callers) (step bodies code callers)
  steps done callers here h k e = tt
  steps (perform t op rest) callers here h k e =
      record { goes_on = performs t op rest callers here h.0 h.1 e; nested = λ onward. goes rest callers h.1 k }
  steps (choose t op a b rest) callers here h k e =
      let first = in_way op h.1 (splits op) a rest h.2 h.8 h.7 (splits_confine op) h.5 in
      let second = in_way op h.1 (has_two_parts op) b rest h.3 h.8 h.7 (λ is. splits_confine op (two_confine op is)) (λ is. h.5 (two_confine op is)) in
      record {
        goes_on = chooses t op a b rest callers here h.0 h.1 h.2 h.3 h.4 h.6 first second h.8;
        nested = chosen_nested a b rest callers first second k;
      }
  steps (while test body after rest) callers here h k e = tt
  steps (until body test rest) callers here h k e = tt
  steps (turn test body after rest) callers here h k e = tt
  steps (again test body after rest) callers here h k e = tt
  steps (quit t op rest) callers here h k e =
      record { goes_on = quits op rest callers here h.0 h.1 h.2; nested = quit_nested rest callers h.2 k }
  steps (break rest) callers here h k e = tt
  steps (continue rest) callers here h k e = tt
  steps (call t op f opening rest) callers here h k e =
      let body = bodies f in
      let whole = nested_before none opening body h.1 (body_nested body (all_bodies f)) (no_exits body) in
      let nothing : past (append opening body) ≡ [] = past_append false false none opening body h.1 ∙ past_none of_function body (all_bodies f) in
      record {
        goes_on = plainly op here (all_behind (past rest) callers) (λ onward. going (append opening body) (rest ∷ callers)) h.0
            (λ onward. going_outs (append opening body) (rest ∷ callers) [] whole nothing);
        nested = λ onward. goes (append opening body) (rest ∷ callers) whole (h.2, k);
      }
  steps (ends t op rest) callers here h k e =
      record {
        goes_on = plainly op here (all_behind (past rest) callers) (λ onward. returned callers) h.0
            (λ onward. returned_outs callers k ∙ ap (λ cs. all_behind cs callers) (sym h.1));
        nested = λ onward. returns callers k;
      }

  steps_of : (code : Code ℕ) (callers : List (Code ℕ)) (here : Work) → Nested code → AllNested callers → here ≡ at code callers
      → OptionStepped here (all_behind (past code) callers) (step_of bodies code callers)
  steps_of (again test body after rest) callers here h k e =
      let l = h.0 in
      let code = append test (append body (turn test body after rest)) in
      subst (λ cs. OptionStepped here (all_behind cs callers) (step bodies code callers)) (whole_past test body after rest l)
      (steps code callers here (whole_nested test body after rest l h.1) k
      (λ meet. absurd (true≢false (sym meet ∙ test_meets (of_test l.shrinking) test (append body (turn test body after rest)) l.test_in refl))))
  steps_of code callers here h k e = steps code callers here h k (λ meet. e)

  pub is_stepped : (work : Work) → WorkNested work → OptionStepped work (outs work) (next bodies work)
  is_stepped work h = steps_of work.left work.callers work h.left h.callers refl

  nested_rest : (work : Work) (onward : Bool) → WorkNested work → (s : Option (Step Work)) → OptionStepped work (outs work) s → WorkNested (rest_of work onward s)
  nested_rest work onward h None g = h
  nested_rest work onward h (Some s) g = g.nested onward

  stays : (ways' : List Bool) (work : Work) → WorkNested work → WorkNested (after_ways (next bodies) ways' work)
  stays [] work h = h
  stays (onward ∷ ways') work h =
      stays ways' (rest_of work onward (next bodies work)) (nested_rest work onward h (next bodies work) (is_stepped work h))

  of_step : (work : Work) (s : Option (Step Work)) (u : Step Work) → s ≡ Some u → OptionStepped work (outs work) s → GoesOnFrom work u
  of_step work None u e h = absurd (cc)
  of_step work (Some s) u e h = let same : s ≡ u = cc in subst (λ (v : Step Work). GoesOnFrom work v) same h.goes_on

  pub all_go_on : (code : Code ℕ) → Shape false false of_function code → (ways' : List Bool) (u : Step Work)
      → next bodies (after_ways (next bodies) ways' (going code [])) ≡ Some u → GoesOnFrom (after_ways (next bodies) ways' (going code [])) u
  all_go_on code s ways' u e =
      let work = after_ways (next bodies) ways' (going code []) in
      of_step work (next bodies work) u e (is_stepped work (stays ways' (going code []) (goes code [] (body_nested code s) tt)))
