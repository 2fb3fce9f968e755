-- The frames of a valid program: those of its parts are no functions' own, and functions that run by themselves have none. So
-- the members of its groups have one space.
use Rattle.std.proofs.Common.{◌≡◌, inl, inr, ℕ, zero, suc, ◌+◌, ◌≤◌, Bool, true, false, true≢false, List, [], ◌∷◌, ◌++◌, Option, Some, None, slice_get, slice_index, refl, sym, ap, subst, ◌∙◌, arith}
use Rattle.std.specs.Prelude.{if◌then◌else◌}
use Rattle.std.proofs.lemmas.Bool.{false≢true, false_from_ne_true, eq-eqb}
use Rattle.std.proofs.lemmas.Option.{same_Some, slice_get_within, get_or_from_slice_get}
use Rattle.fk_syntax.specs.declared.facts.Facts.{Facts}
use Rattle.fk_syntax.specs.declared.program.Mode.{Mode}
use Rattle.fk_syntax.specs.declared.program.Mode.TheVariants.{Sync, Async, Straight}
use Rattle.fk_syntax.specs.Nodes.{tree_indices, optional_indices, statement_indices, statements_indices, body_indices, items_indices}
use Rattle.fk_syntax.specs.Program as p
use Rattle.fk_syntax.specs.Program.{DeclaredTree, Statement, Statements, FunctionTree, ItemTree, ProgramTree}
use Rattle.fk_check_rules.specs.declared.rule.Rule.TheVariants as rules
use Rattle.fk_sharing_class.specs.declared.thing.Thing.{Thing}
use Rattle.fk_sharing_class.specs.Class as class
use Rattle.fk_regions.specs.declared.around.Region.TheVariants.{Synchronous, Asynchronous}
use Rattle.fk_regions.specs.Around.{region_by}
use Rattle.fk_regions.specs.Tokens.{spot_of}
use Rattle.fk_sharing.specs.declared.around.Holder.{Holder}
use Rattle.fk_sharing.specs.declared.around.Holder.TheVariants as h
use Rattle.fk_sharing.specs.declared.token.Word.TheVariants as sw
use Rattle.fk_sharing.specs.Around.{region, is_in_function}
use Rattle.fk_sharing.specs.Broken as sb
use Rattle.fk_sharing.specs.Tokens as s
use Rattle.fk_meaning_forms.specs.Tables.{frame_at}
use Rattle.fk_meaning_forms.specs.Program.{functions_of, bodies_of, main_of}
use Rattle.fk_layout_slots.specs.Told.{Told, more, words_at}
use Rattle.fk_layout_slots.specs.Words.{variables_words, statement_words, statements_words, own_words}
use Rattle.fk_layout_slots.specs.Frames.{regions_of}
use Rattle.fk_layout.specs.Layout.{told_by, tables_by}
use Rattle.fk_meaning.specs.Next.{Work}
use Rattle.fk_meaning.specs.Program.{next_in, main_work}
use Rattle.fk_types_rules.proofs.Counting.{times, node_times, contained, node-once}
use Rattle.fk_lockstep_structure.specs.Ahead.{all_outs}
use Rattle.fk_lockstep_structure.specs.Pending.{fork_counts}
use Rattle.fk_lockstep_structure.specs.InPlace.{NoneShared}
use Rattle.fk_lockstep_structure.proofs.Programs.{programs_follow, gives_of, none_pending, programs_are_counted}
use Rattle.fk_lockstep.proofs.SpaceRuns.{groups_have_one_space}
use Rattle.fk_lockstep_structure.specs.Framed.{depth}
use Rattle.fk_lockstep_structure.specs.Inner.{Inner, StatementInner, StatementsInner, BodyInner, FunctionsInner}
use Rattle.fk_lockstep_structure.proofs.Whole.{code_is_framed}
use Rattle.fk_lockstep_structure.proofs.FramePrograms.{programs_are_framed}
use Rattle.fk_check_laws.proofs.Each.{Each, front_of, rest_of, same_at}
use Rattle.fk_check_laws.proofs.Things.{thing, thing_tells}
use Rattle.fk_check_laws.specs.Correct.{IsCorrect}
use Rattle.fk_check_laws.specs.Valid.{IsValid, may_run, may_call, ValidProgramsHaveOneSpace}
use Rattle.fk_check_laws.proofs.PlacedNotes.{Ours, IsOurs}
use Rattle.fk_check_laws.proofs.Frames.{Covers, here, under, right, left, IsDeep, OfText, all_functions, bodies, name_at, counts, of_text, found_deep, found_none}
use Rattle.fk_check_laws.proofs.PlacedPrograms.{IsFine, fine, called, none_shared, correct, valid_programs_are_in_place}

module _ (program : ProgramTree) (facts : Facts) (valid : IsCorrect program facts) where
  abbrev told : Told
  told = told_by facts

  abbrev items : List ItemTree
  items = program.items

  once : (at : ℕ) → times name_at at (all_functions items) + node_times at (bodies items) ≤ 1
  once at = omega (arith, counts at items, node-once at (items_indices items) valid.well_formed.distinct)

  named : (f : FunctionTree) (i : ℕ) → slice_get (all_functions items) i ≡ Some f → 1 ≤ times name_at f.name.at (all_functions items)
  named f i is =
      contained name_at (all_functions items) f (i, slice_get_within (all_functions items) i f is, get_or_from_slice_get (all_functions items) i f f is)

  -- the frames of parts
  inner_at : (at : ℕ) → Covers at (bodies items) → Inner (tables_by program facts) at
  inner_at at covers part = found_deep (tables_by program facts) (OfText told items) at part deep (regions_of told items) (of_text told items)
    where
      deep : (r : _) → OfText told items r → r.at ≡ at → IsDeep r
      deep r (inl w) e = w.0
      deep r (inr o) e =
          let there = named o.function o.index o.there in
          let same : o.function.name.at ≡ at = sym o.same ∙ e in
          let there' = subst (λ k. 1 ≤ times name_at k (all_functions items)) same there in
          absurd (omega (arith, there', covers, once at))

  mutual
    statement_inner : (x : Statement) → ((at : ℕ) → Covers at (statement_indices x) → Inner (tables_by program facts) at) → StatementInner (tables_by program facts) x
    statement_inner (p.Block list) f = statements_inner list f
    statement_inner (p.If spot condition first) f =
        let more = tree_indices condition ++ statement_indices first in
        (f spot.at (here spot.at more), statement_inner first (λ at c. f at (under spot.at at more (right at (tree_indices condition) (statement_indices first) c))))
    statement_inner (p.IfElse spot condition first second) f =
        let i = tree_indices condition in
        let j = statement_indices first in
        let k = statement_indices second in
        let more = i ++ j ++ k in (
          f spot.at (here spot.at more),
          statement_inner first (λ at c. f at (under spot.at at more (left at (i ++ j) k (right at i j c)))),
          statement_inner second (λ at c. f at (under spot.at at more (right at (i ++ j) k c))),
        )
    statement_inner (p.While spot condition body) f =
        let more = tree_indices condition ++ statement_indices body in
        (f spot.at (here spot.at more), statement_inner body (λ at c. f at (under spot.at at more (right at (tree_indices condition) (statement_indices body) c))))
    statement_inner (p.DoWhile spot body condition) f =
        let more = statement_indices body ++ tree_indices condition in
        (f spot.at (here spot.at more), statement_inner body (λ at c. f at (under spot.at at more (left at (statement_indices body) (tree_indices condition) c))))
    statement_inner (p.For spot before condition after body) f =
        let head = optional_indices before ++ optional_indices condition ++ optional_indices after in
        let more = head ++ statement_indices body in
        (f spot.at (here spot.at more), statement_inner body (λ at c. f at (under spot.at at more (right at head (statement_indices body) c))))
    statement_inner (p.Start spot count body) f =
        let more = optional_indices count ++ statement_indices body in
        (f spot.at (here spot.at more), statement_inner body (λ at c. f at (under spot.at at more (right at (optional_indices count) (statement_indices body) c))))
    statement_inner (p.Farm spot body) f = statement_inner body (λ at c. f at (under spot.at at (statement_indices body) c))
    statement_inner (p.Seq spot body) f = statement_inner body (λ at c. f at (under spot.at at (statement_indices body) c))
    statement_inner (p.Fork spot parts part rank body) f =
        let head = tree_indices parts ++ tree_indices part ++ optional_indices rank in
        let more = head ++ statement_indices body in
        (f spot.at (here spot.at more), statement_inner body (λ at c. f at (under spot.at at more (right at head (statement_indices body) c))))
    statement_inner p.Empty f = tt
    statement_inner (p.Expression value) f = tt
    statement_inner (p.Declare variables) f = tt
    statement_inner (p.Barrier spot) f = tt
    statement_inner (p.Break spot) f = tt
    statement_inner (p.Continue spot) f = tt
    statement_inner (p.Return spot value) f = tt

    statements_inner : (xs : Statements) → ((at : ℕ) → Covers at (statements_indices xs) → Inner (tables_by program facts) at) → StatementsInner (tables_by program facts) xs
    statements_inner p.no_statements f = tt
    statements_inner (p.statement first others) f =
        let i = statement_indices first in
        let j = statements_indices others in
        (statement_inner first (λ at c. f at (left at i j c)), statements_inner others (λ at c. f at (right at i j c)))

  body_covers : (xs : List ItemTree) (i : ℕ) (f : FunctionTree) → slice_get xs i ≡ Some (p.FunctionItem f) → (at : ℕ) → Covers at (body_indices f.body) → Covers at (bodies xs)
  body_covers [] i f is at c = absurd (cc)
  body_covers (p.FunctionItem g ∷ xs) zero f is at c =
      let same = same_function g f (same_Some (p.FunctionItem g) (p.FunctionItem f) is) in
      left at (body_indices g.body) (bodies xs) (subst (λ (k : FunctionTree). Covers at (body_indices k.body)) (sym same) c)
    where
      same_function : (g f : FunctionTree) → p.FunctionItem g ≡ p.FunctionItem f → g ≡ f
      same_function g f e = cc
  body_covers (p.StructItem name members ∷ xs) zero f is at c = absurd (cc)
  body_covers (p.VariablesItem variables ∷ xs) zero f is at c = absurd (cc)
  body_covers (p.StructItem name members ∷ xs) (suc i) f is at c = body_covers xs i f is at c
  body_covers (p.VariablesItem variables ∷ xs) (suc i) f is at c = body_covers xs i f is at c
  body_covers (p.FunctionItem g ∷ xs) (suc i) f is at c = right at (body_indices g.body) (bodies xs) (body_covers xs i f is at c)

  function_index : (xs : List ItemTree) (i : ℕ) (f : FunctionTree) → slice_get xs i ≡ Some (p.FunctionItem f) → (j : ℕ) × (slice_get (all_functions xs) j ≡ Some f)
  function_index [] i f is = absurd (cc)
  function_index (p.FunctionItem g ∷ xs) zero f is = (0, same_function g f is)
    where
      same_function : (g f : FunctionTree) → Some (p.FunctionItem g) ≡ Some (p.FunctionItem f) → Some g ≡ Some f
      same_function g f e = cc
  function_index (p.StructItem name members ∷ xs) zero f is = absurd (cc)
  function_index (p.VariablesItem variables ∷ xs) zero f is = absurd (cc)
  function_index (p.StructItem name members ∷ xs) (suc i) f is = function_index xs i f is
  function_index (p.VariablesItem variables ∷ xs) (suc i) f is = function_index xs i f is
  function_index (p.FunctionItem g ∷ xs) (suc i) f is = let k = function_index xs i f is in (suc k.0, k.1)

  -- ---- a function that runs by itself has no `sh` variables

  abbrev thing' : ℕ → Option Thing
  thing' = thing program valid.well_formed

  abbrev Mine : Ours program facts valid → Type 0
  Mine x = IsOurs program facts valid thing' x

  variables_none : (around : List Holder) → (region around ≡ Synchronous → ⊥) → is_in_function around ≡ true → (xs : List DeclaredTree) → Each Mine (s.variables_tokens thing' around xs) → (taken : ℕ) → variables_words told taken xs ≡ taken
  variables_none around apart within [] a taken = refl
  variables_none around apart within (x ∷ xs) a taken =
      let own = front_of Mine (s.variable_tokens thing' around x) (s.variables_tokens thing' around xs) a in
      let token = rest_of Mine (s.optional_tokens thing' around x.first) (s.bare around (spot_of x.name) (sw.Variable x.shared (s.form_of x)) ∷ []) own in
      let alone : x.shared ≡ false = false_from_ne_true x.shared (λ e.
      token.0.unbroken (thing_tells program valid.well_formed) rules.SharedOutside
      (subst (λ b. sb.BreaksRule around (sw.Variable b (s.form_of x)) rules.SharedOutside) (sym e) (sb.shared_outside (s.form_of x) within apart))) in
      ap (λ n. variables_words told n xs) (ap (λ b. if b then more taken (words_at told x.name.at) else taken) alone)
      ∙ variables_none around apart within xs (rest_of Mine (s.variable_tokens thing' around x) (s.variables_tokens thing' around xs) a) taken

  apart_body : Asynchronous ≡ Synchronous → ⊥
  apart_body e = cc

  by_split : (b : Bool) (taken words : ℕ) → words ≡ taken → (if b then taken else words) ≡ taken
  by_split true taken words e = refl
  by_split false taken words e = e

  mutual
    none_in : (around : List Holder) → (region around ≡ Synchronous → ⊥) → is_in_function around ≡ true → (x : Statement) → Each Mine (s.statement_tokens thing' ◌∷◌ around x)
        → (taken : ℕ) → statement_words told taken x ≡ taken
    none_in around apart within (p.Block list) a taken = none_in_all around apart within list a taken
    none_in around apart within (p.Declare variables) a taken = variables_none around apart within variables a taken
    none_in around apart within (p.If spot condition first) a taken =
        by_split _ taken (statement_words told taken first) (none_in (h.Branch _ ∷ around) apart within first (rest_of Mine (s.condition_tokens thing' around spot condition) _ a) taken)
    none_in around apart within (p.IfElse spot condition first second) a taken =
        let ts = s.condition_tokens thing' around spot condition in
        let us = s.statement_tokens thing' ◌∷◌ (h.Branch (class.is_shared thing' condition) ∷ around) first in
        let vs = s.statement_tokens thing' ◌∷◌ (h.Branch (class.is_shared thing' condition) ∷ around) second in
        let one = none_in (h.Branch (class.is_shared thing' condition) ∷ around) apart within first (rest_of Mine ts us (front_of Mine (ts ++ us) vs a)) taken in
        by_split _ taken (statement_words told (statement_words told taken first) second)
        (ap (λ n. statement_words told n second) one ∙ none_in (h.Branch (class.is_shared thing' condition) ∷ around) apart within second (rest_of Mine (ts ++ us) vs a) taken)
    none_in around apart within (p.While spot condition body) a taken =
        by_split _ taken (statement_words told taken body) (none_in (h.Loop _ ∷ around) apart within body (rest_of Mine (s.condition_tokens thing' around spot condition) _ a) taken)
    none_in around apart within (p.DoWhile spot body condition) a taken =
        by_split _ taken (statement_words told taken body) (none_in (h.Loop _ ∷ around) apart within body (rest_of Mine (s.condition_tokens thing' around spot condition) _ a) taken)
    none_in around apart within (p.For spot before condition after body) a taken =
        by_split _ taken (statement_words told taken body) (none_in (h.Loop _ ∷ around) apart within body (rest_of Mine (s.head_tokens thing' around spot before condition after) _ a) taken)
    none_in around apart within (p.Farm spot body) a taken = none_in (h.Body Asynchronous ∷ around) apart_body refl body a taken
    none_in around apart within (p.Seq spot body) a taken = none_in (h.Body Asynchronous ∷ around) apart_body refl body a taken
    none_in around apart within (p.Start spot count body) a taken = refl
    none_in around apart within (p.Fork spot parts part rank body) a taken = refl
    none_in around apart within p.Empty a taken = refl
    none_in around apart within (p.Expression value) a taken = refl
    none_in around apart within (p.Barrier spot) a taken = refl
    none_in around apart within (p.Break spot) a taken = refl
    none_in around apart within (p.Continue spot) a taken = refl
    none_in around apart within (p.Return spot value) a taken = refl

    none_in_all : (around : List Holder) → (region around ≡ Synchronous → ⊥) → is_in_function around ≡ true → (xs : Statements) → Each Mine (s.statements_tokens thing' ◌∷◌ around xs)
        → (taken : ℕ) → statements_words told taken xs ≡ taken
    none_in_all around apart within p.no_statements a taken = refl
    none_in_all around apart within (p.statement first others) a taken =
        let ts = s.statement_tokens thing' ◌∷◌ around first in
        let us = s.statements_tokens thing' ◌∷◌ around others in
        ap (λ n. statements_words told n others) (none_in around apart within first (front_of Mine ts us a) taken)
        ∙ none_in_all around apart within others (rest_of Mine ts us a) taken

  parameters_none : (xs : List DeclaredTree) → NoneShared xs → (taken : ℕ) → variables_words told taken xs ≡ taken
  parameters_none [] a taken = refl
  parameters_none (x ∷ xs) a taken =
      ap (λ n. variables_words told n xs) (ap (λ b. if b then more taken (words_at told x.name.at) else taken) a.0) ∙ parameters_none xs a.1 taken

  not_synchronous : (mode : Mode) → may_run false mode ≡ true → region_by mode ≡ Synchronous → ⊥
  not_synchronous Sync may sync = false≢true may
  not_synchronous Async may sync = cc
  not_synchronous Straight may sync = cc

  wordless : (f : FunctionTree) (k : IsFine program facts valid f) → may_run false f.mode ≡ true → own_words told f.parameters k.body ≡ 0
  wordless f k may =
      let alone = none_shared program facts valid f.mode may f.parameters (k.parameters thing') in
      ap (λ n. statements_words told n k.body) (parameters_none f.parameters alone 0)
      ∙ none_in_all (h.Body (region_by f.mode) ∷ []) (not_synchronous f.mode may) refl k.body (k.ours thing') 0

  frameless : (f : FunctionTree) (k : IsFine program facts valid f) → may_run false f.mode ≡ true → frame_at (tables_by program facts) f.name.at 0 ≡ None
  frameless f k may = found_none (tables_by program facts) (OfText told items) f.name.at 0 never (regions_of told items) (of_text told items)
    where
      own : (j : ℕ) × (slice_get (all_functions items) j ≡ Some f)
      own = function_index items k.index f k.there

      names_once : (at : ℕ) → times name_at at (all_functions items) ≤ 1
      names_once at = omega (arith, once at)

      same_body : (a b : Statements) → Some a ≡ Some b → a ≡ b
      same_body a b e = same_Some a b e

      never : (r : _) → OfText told items r → r.at ≡ f.name.at → ⊥
      never r (inl w) e =
          let covers = subst (λ at. Covers at (bodies items)) e w.1 in
          omega (arith, covers, named f own.0 own.1, once f.name.at)
      never r (inr o) e =
          let same : o.function ≡ f = same_at name_at (all_functions items) names_once o.index own.0 o.function f o.there own.1 (sym o.same ∙ e) in
          let bodies_same : o.body ≡ k.body = same_body o.body k.body (sym o.has ∙ ap (λ (g : FunctionTree). g.body) same ∙ k.has) in
          let none : own_words told o.function.parameters o.body ≡ 0 =
          ap (λ (g : FunctionTree). own_words told g.parameters o.body) same ∙ ap (own_words told f.parameters) bodies_same ∙ wordless f k may in
          true≢false (sym (eq-eqb (own_words told o.function.parameters o.body) 0 none) ∙ o.words)

  functions_inner : (gs : List FunctionTree) → Each (IsFine program facts valid) gs → FunctionsInner (tables_by program facts) (may_call program) gs
  functions_inner [] a = tt
  functions_inner (f ∷ gs) a = (
    subst (BodyInner (tables_by program facts)) (sym a.0.has)
        (statements_inner a.0.body (λ at c. inner_at at (body_covers items a.0.index f a.0.there at (subst (λ o. Covers at (body_indices o)) (sym a.0.has) c)))),
    (λ may. frameless f a.0 (called program facts valid false f a.0 may).1),
    functions_inner gs a.1,
  )

pub valid_programs_are_inner : (program : ProgramTree) (facts : Facts) → IsValid program facts → FunctionsInner (tables_by program facts) (may_call program) (functions_of program.items)
valid_programs_are_inner program facts valid =
    let right = correct program facts valid in
    functions_inner program facts right (functions_of program.items) (fine program facts right)

pub valid_programs_have_one_space : ValidProgramsHaveOneSpace
valid_programs_have_one_space program facts valid none setting schedule words firsts input processors some possible right' =
    let tables' = tables_by program facts in
    let placed = valid_programs_are_in_place program facts valid in
    let framed = programs_are_framed tables' program (may_call program) placed (valid_programs_are_inner program facts valid) none in
    groups_have_one_space Work (next_in tables' program) all_outs (main_work tables' program) (programs_follow tables' program (may_call program) placed)
    (fork_counts (gives_of tables' program (may_call program) placed)) (none_pending tables' program (may_call program) placed) (programs_are_counted tables' program (may_call program) placed)
    depth refl (code_is_framed (may_call program) (bodies_of tables' program) (main_of tables' program) framed)
    setting schedule processors words input (slice_index firsts) some possible right'
