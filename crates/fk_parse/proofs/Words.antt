-- Items other than structs are read exactly. Without a word before its type one is told apart behind its name: a parenthesis says that
-- it is a function.
use Rattle.std.proofs.Common.{◌≡◌, ℕ, suc, List, [], ◌∷◌, ◌++◌, map, Option, Some, None, Bool, false, IsTrue, length, ◌⊎◌, inl, inr, refl, sym, ap, ◌∙◌, arith, append_assoc}
use Rattle.fk_syntax.specs.declared.program.Mode.{Mode}
use Rattle.fk_syntax.specs.Tree.{BaseType, Tree}
use Rattle.fk_syntax.specs.Program.{DeclaredTree, Statements, ItemTree, VariablesItem, FunctionItem}
use Rattle.fk_parse_combinators.specs.Languages.{Placed, Stretch, tokens_of, Language, token, telling, ◌then◌, ◌or◌, making, maybe, name}
use Rattle.fk_expr.specs.Grammar.{base}
use Rattle.fk_parse_combinators.specs.Readers.{Reader, giving, next_is, by_next, tells}
use Rattle.fk_expr.specs.Reading.{begins_type, inner}
use Rattle.fk_parse_combinators.proofs.Sets.{Kinds, none, ◌∪◌}
use Rattle.fk_parse_combinators.proofs.EachKind.{apart_by, within_by}
use Rattle.fk_parse_combinators.proofs.Shapes.{shape_or}
use Rattle.fk_parse_combinators.proofs.Then.{follows_shape}
use Rattle.fk_parse_combinators.proofs.Or.{Includes}
use Rattle.fk_parse_combinators.proofs.Productions.{IsRead, reads_making, reads_or, reads_kinds, reads_wider}
use Rattle.fk_parse_declarations.specs.Kinds.{sharing_told}
use Rattle.fk_parse.specs.Kinds.{mode_told}
use Rattle.fk_parse_declarations.specs.Grammar.{separated, Declarator, variable, variables, declared, is_shared, parameters}
use Rattle.fk_parse.specs.Items.{body, mode_of, function_item}
use Rattle.fk_parse_declarations.specs.Reading.{read_variables, begins_parameter}
use Rattle.fk_parse.specs.Reading.{read_moded, read_bare, begins_item, OfFunction, OfVariables}
use Rattle.fk_parse_declarations.proofs.Alike.{shape_same}
use Rattle.fk_parse_declarations.proofs.Declarations.{rest_of, reads_variables}
use Rattle.fk_parse_declarations.proofs.Parameters.{next_none}
use Rattle.fk_parse.proofs.Choices.{TellsApart, exact_choice}
use Rattle.fk_parse.proofs.Tails.{has_room, body_within, outer, others_of, named, bare, reads_bare, moded, reads_moded, tail}
use Rattle.fk_parse_combinators.specs.Kinds.{just}
use Rattle.fk_lex.specs.declared.token.TokenKind.TheVariants as kind

-- ---- variables, by what stands before their commas and by what stands behind the first name

-- the first words of the type, variables, a semicolon
abbrev grouped : ℕ → Language (BaseType × (List Declarator × Placed))
grouped bound = base 0 then separated 0 (variable bound 0) then token 0 kind.Semicolon

-- the same, with the first variable's name apart
abbrev Spread : Type 0
Spread = BaseType × (List Placed × (Placed × ((Option ℕ × Option Tree) × (List Declarator × Placed))))

-- the first words of the type, stars, a name, and what stands behind it
abbrev spread : ℕ → Language Spread
spread bound = base 0 then named (rest_of bound 0 then others_of bound then token 0 kind.Semicolon)

-- the first variable
abbrev first_of : Spread → Declarator
first_of x = record { stars = length x.1.0; name = name x.1.1.0; length = x.1.1.1.0.0; first = x.1.1.1.0.1 }

-- the one as the other
abbrev gather : Spread → BaseType × (List Declarator × Placed)
gather x = (x.0, (first_of x ∷ x.1.1.1.1.0, x.1.1.1.1.1))

-- five stretches, grouped in two ways
regroup : (a b c d e : Stretch) → a ++ (b ++ (c ++ (d ++ e))) ≡ ((a ++ (b ++ c)) ++ d) ++ e
regroup a b c d e = simp append_assoc refl

-- what is spread is grouped
spread_there : (bound : ℕ) → Includes (making gather (spread bound)) (grouped bound)
spread_there bound s y (x, m, e) =
    let stars = m.4 in
    let names = stars.4 in
    let rest = names.4 in
    let others = rest.4 in
    let whole : m.1 ≡ ((stars.0 ++ (names.0 ++ rest.0)) ++ others.0) ++ others.1 =
    stars.2 ∙ ap (λ z. stars.0 ++ z) (names.2 ∙ ap (λ z. names.0 ++ z) (rest.2 ∙ ap (λ z. rest.0 ++ z) others.2)) ∙ regroup stars.0 names.0 rest.0 others.0 others.1 in
    rw e (
      m.0,
      m.1,
      m.2,
      m.3,
      (
        (stars.0 ++ (names.0 ++ rest.0)) ++ others.0,
        others.1,
        whole,
        (
          (first_of x, x.1.1.1.1.0),
          (
            stars.0 ++ (names.0 ++ rest.0),
            others.0,
            refl,
            ((x.1.0, (x.1.1.0, x.1.1.1.0)), (stars.0, names.0 ++ rest.0, refl, stars.3, (names.0, rest.0, refl, names.3, rest.3)), refl),
            others.3,
          ),
          refl,
        ),
        others.4,
      ),
    )

-- what is grouped is spread
spread_back : (bound : ℕ) → Includes (grouped bound) (making gather (spread bound))
spread_back bound s y m =
    let list = m.4.3 in
    let first = list.1.3 in
    let stars = first.1 in
    let names = stars.4 in
    let whole : m.1 ≡ stars.0 ++ (names.0 ++ (names.1 ++ (list.1.1 ++ m.4.1))) =
    m.4.2 ∙ ap (λ z. z ++ m.4.1) (list.1.2 ∙ ap (λ z. z ++ list.1.1) (stars.2 ∙ ap (λ z. stars.0 ++ z) names.2)) ∙ sym (regroup stars.0 names.0 names.1 list.1.1 m.4.1) in (
      (y.0, (first.0.0, (first.0.1.0, (first.0.1.1, (list.0.1, y.1.1))))),
      (
        m.0,
        m.1,
        m.2,
        m.3,
        (
          stars.0,
          names.0 ++ (names.1 ++ (list.1.1 ++ m.4.1)),
          whole,
          stars.3,
          (names.0, names.1 ++ (list.1.1 ++ m.4.1), refl, names.3, (names.1, list.1.1 ++ m.4.1, refl, names.4, (list.1.1, m.4.1, refl, list.1.4, m.4.4))),
        ),
      ),
      ap (λ l. (y.0, (l, y.1.1))) (list.2 ∙ ap (λ d. d ∷ list.0.1) first.2),
    )

-- ---- items other than structs, by their first words

-- variables and functions
abbrev pub words : ℕ → Language ItemTree
words bound = making VariablesItem (variables bound 0) or function_item bound

-- the variables that a stretch without a word before it spells
bare_variables : (bound : ℕ) (s : Stretch) (x : Spread) → spread bound s x → variables bound 0 s (map (declared false x.0) (first_of x ∷ x.1.1.1.1.0))
bare_variables bound s x m = ((None, gather x), ([], s, refl, refl, spread_there bound s (gather x) (x, m, refl)), refl)

-- what has no word before it is an item
bare_there : (bound : ℕ) → Includes (bare bound) (words bound)
bare_there bound s a (x, m, e) = by m.4.4.4
  where
    by : tail bound m.4.4.1 x.1.1.1 → words bound s a
    by (inl w) =
        let z = w.1.0 in
        inr ((None, (x.0, (x.1.0, (x.1.1.0, z)))), ([], s, refl, refl, (m.0, m.1, m.2, m.3, (m.4.0, m.4.1, m.4.2, m.4.3, (m.4.4.0, m.4.4.1, m.4.4.2, m.4.4.3, w.1.1)))), rw (w.2, w.1.2) at e)
    by (inr w) =
        let y : Spread = (x.0, (x.1.0, (x.1.1.0, w.1.0))) in
        inl (
          map (declared false y.0) (first_of y ∷ y.1.1.1.1.0),
          bare_variables bound s y (m.0, m.1, m.2, m.3, (m.4.0, m.4.1, m.4.2, m.4.3, (m.4.4.0, m.4.4.1, m.4.4.2, m.4.4.3, w.1.1))),
          rw (w.2, w.1.2) at e,
        )

-- what has one is too
moded_there : (bound : ℕ) → Includes (moded bound) (words bound)
moded_there bound s a (x, m, e) =
    let types = m.4 in
    let stars = types.4 in
    let names = stars.4 in
    let rest = names.4 in
    inr (
      (Some x.0, (x.1.0, (x.1.1.0, (x.1.1.1.0, rest.0)))),
      (m.0, m.1, m.2, m.3, (types.0, types.1, types.2, types.3, (stars.0, stars.1, stars.2, stars.3, (names.0, names.1, names.2, names.3, rest.1)))),
      rw rest.2 at e,
    )

-- variables without a word before them
bare_of_variables : (bound : ℕ) (s : Stretch) (a : ItemTree) (y : BaseType × (List Declarator × Placed)) → grouped bound s y
    → a ≡ VariablesItem (map (declared false y.0) y.1.0) → bare bound s a
bare_of_variables bound s a y m e =
    let back = spread_back bound s y m in
    let x = back.0 in
    let w = back.1 in
    let z = x.1.1.1 in (
      (x.0, (x.1.0, (x.1.1.0, OfVariables z.0.0 z.0.1 z.1.0))),
      (w.0, w.1, w.2, w.3, (w.4.0, w.4.1, w.4.2, w.4.3, (w.4.4.0, w.4.4.1, w.4.4.2, w.4.4.3, inr ((z.0, z.1.0), (z, w.4.4.4, refl), refl)))),
      e ∙ ap (λ y. VariablesItem (map (declared false y.0) y.1.0)) back.2,
    )

-- what stands behind a function's mode
abbrev Headed : Type 0
Headed = BaseType × (List Placed × (Placed × (Placed × (List DeclaredTree × (Placed × Option Statements)))))

-- a function from its type on
abbrev headed : ℕ → Language Headed
headed bound = base 0 then named (token 0 kind.OpenParenthesis then parameters 0 then token 0 kind.CloseParenthesis then body bound)

-- what is made of it
abbrev function_of : Mode → Headed → ItemTree
function_of mode x =
    FunctionItem (record {
      mode = mode;
      result = record { base = x.0; stars = length x.1.0 };
      name = name x.1.1.0;
      parameters = x.1.1.1.1.0;
      body = x.1.1.1.1.1.1;
    })

-- a function without a word before it
bare_of_function : (bound : ℕ) (s : Stretch) (a : ItemTree) (x : Headed) → headed bound s x → a ≡ function_of (mode_of None) x → bare bound s a
bare_of_function bound s a x m e =
    let z = x.1.1.1 in (
      (x.0, (x.1.0, (x.1.1.0, OfFunction z.1.0 z.1.1.1))),
      (m.0, m.1, m.2, m.3, (m.4.0, m.4.1, m.4.2, m.4.3, (m.4.4.0, m.4.4.1, m.4.4.2, m.4.4.3, inl ((z.1.0, z.1.1.1), (z, m.4.4.4, refl), refl)))),
      e,
    )

-- a function with a word before it
moded_of_function : (bound : ℕ) (s front back : Stretch) (a : ItemTree) (o : Placed × Mode) (x : Headed) → s ≡ front ++ back → telling 0 mode_told front o → headed bound back x
    → a ≡ function_of o.1 x → moded bound s a
moded_of_function bound s front back a o x is t m e =
    let z = x.1.1.1 in (
      (o, (x.0, (x.1.0, (x.1.1.0, (z.1.0, z.1.1.1))))),
      (front, back, is, t, (m.0, m.1, m.2, m.3, (m.4.0, m.4.1, m.4.2, m.4.3, (m.4.4.0, m.4.4.1, m.4.4.2, m.4.4.3, (z, m.4.4.4, refl))))),
      e,
    )

-- variables with a word before them, functions with one, and the others
pub words_cases : (bound : ℕ) (s : Stretch) (a : ItemTree) → words bound s a
    → (making VariablesItem (variables bound 0) s a × ((rest : List Placed) → IsTrue (next_is (tells sharing_told) (tokens_of s ++ rest)))) ⊎ ((moded bound or bare bound) s a)
words_cases bound s a (inl (v, m, e)) = by m.0.0 m.1.0 m.1.2 m.1.3 m.2
  where
    by : (o : Option (Placed × Bool)) (front : Stretch) → s ≡ front ++ m.1.1 → maybe (telling 0 sharing_told) front o → v ≡ map (declared (is_shared o) m.0.1.0) m.0.1.1.0
        → (making VariablesItem (variables bound 0) s a × ((rest : List Placed) → IsTrue (next_is (tells sharing_told) (tokens_of s ++ rest)))) ⊎ ((moded bound or bare bound) s a)
    by None front is none d =
        let same : s ≡ m.1.1 = is ∙ ap (λ z. z ++ m.1.1) none in
        inr (inr (bare_of_variables bound s a m.0.1 (rw same m.1.4) (e ∙ ap (λ l. VariablesItem l) d)))
    by (Some x) front is t d = inl ((v, m, e), λ rest. rw (is, t.0, t.1) refl)
words_cases bound s a (inr (x, m, e)) = by x.0 m.0 m.2 m.3 e
  where
    by : (o : Option (Placed × Mode)) (front : Stretch) → s ≡ front ++ m.1 → maybe (telling 0 mode_told) front o → a ≡ function_of (mode_of o) x.1
        → (making VariablesItem (variables bound 0) s a × ((rest : List Placed) → IsTrue (next_is (tells sharing_told) (tokens_of s ++ rest)))) ⊎ ((moded bound or bare bound) s a)
    by None front is none d =
        let same : s ≡ m.1 = is ∙ ap (λ z. z ++ m.1) none in
        inr (inr (bare_of_function bound s a x.1 (rw same m.4) d))
    by (Some o) front is t d = inr (inl (moded_of_function bound s front m.1 a o x.1 is t m.4 d))

-- ---- they are read exactly

-- the kinds that begin a function with its mode, or an item without a word
abbrev begins_typed : Kinds
begins_typed = tells mode_told ∪ begins_type

-- either of them
abbrev pub read_typed : (left : ℕ) → Reader ItemTree
read_typed left = by_next (tells mode_told) (read_moded (body_within left)) (read_bare (inner (suc (suc left))) (body_within left))

-- variables with a word of sharing, or either of them
abbrev pub read_words : (left : ℕ) → Reader ItemTree
read_words left = by_next (tells sharing_told) (giving VariablesItem (read_variables (inner (suc (suc left))))) (read_typed left)

-- the word tells them apart
reads_typed : (left : ℕ) (bound : ℕ) → IsRead (suc (suc left)) (moded bound or bare bound) (read_typed left) 0 begins_typed none (has_room left bound)
unfolding just
reads_typed left bound =
    reads_wider none (λ k h. h) (reads_or (reads_moded left bound) (reads_bare left bound) (apart_by (tells mode_told) begins_type refl (λ v u. refl)))

-- variables as an item
reads_variables_item : (left : ℕ) (bound : ℕ) → IsRead (suc (suc left)) (making VariablesItem (variables bound 0)) (giving VariablesItem (read_variables (inner (suc (suc left))))) 0 begins_parameter none (has_room left bound)
reads_variables_item left bound = reads_making VariablesItem (reads_variables (outer left bound) (omega arith))

-- both are items
typed_there : (bound : ℕ) → Includes (moded bound or bare bound) (words bound)
typed_there bound s a (inl m) = moded_there bound s a m
typed_there bound s a (inr m) = bare_there bound s a m

-- a word of sharing tells the variables apart
words_tell : (left : ℕ) (bound : ℕ) → TellsApart (tells sharing_told) (making VariablesItem (variables bound 0)) (moded bound or bare bound) (words bound)
unfolding just
words_tell left bound s a n = elim (words_cases bound s a n) [
  | inl w ↦ inl w
  | inr m ↦ inr (m, λ rest. follows_shape (tells sharing_told) none (reads_typed left bound).shape (apart_by (tells sharing_told) begins_typed refl (λ v u. refl)) s a rest m (next_none rest))
]

-- each item is one of them
words_back : (bound : ℕ) → Includes (words bound) (making VariablesItem (variables bound 0) or (moded bound or bare bound))
words_back bound s a n = elim (words_cases bound s a n) [ inl w ↦ inl w.0 | inr m ↦ inr m ]

-- and each of them is an item
words_there : (bound : ℕ) → Includes (making VariablesItem (variables bound 0) or (moded bound or bare bound)) (words bound)
words_there bound s a (inl m) = inl m
words_there bound s a (inr m) = typed_there bound s a m

-- items other than structs are read exactly
pub reads_words : (left : ℕ) (bound : ℕ) → IsRead (suc (suc left)) (words bound) (read_words left) 0 begins_item none (has_room left bound)
unfolding just
reads_words left bound =
    let v = reads_variables_item left bound in
    let w = reads_typed left bound in
    reads_kinds begins_item (within_by (begins_parameter ∪ begins_typed) begins_item refl (λ v u. refl)) (within_by begins_item (begins_parameter ∪ begins_typed) refl (λ v u. refl))
    (reads_wider none (λ k h. h)
    (record {
      shape = shape_same (words bound) (words_there bound) (words_back bound) (shape_or v.shape w.shape);
      exact = exact_choice (words bound) (tells sharing_told) v.exact w.exact v.shape (within_by (tells sharing_told) begins_parameter refl (λ v u. refl))
          (λ s a m. inl m) (typed_there bound) (words_tell left bound);
    }))
