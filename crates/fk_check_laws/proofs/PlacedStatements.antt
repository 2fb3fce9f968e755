-- A statement of a valid program is shaped, noted and in place as it stands.
use Rattle.std.proofs.Common.{◌≡◌, ◌⊎◌, inl, inr, ℕ, Bool, true, false, not, List, [], ◌∷◌, ◌++◌, codes, Option, Some, None, slice_get, refl, sym, ap, subst, ◌∙◌, arith}
use Rattle.std.specs.Prelude.{if◌then◌else◌}
use Rattle.std.proofs.lemmas.Bool.{false≢true, true_from_ne_false, false_from_ne_true, and_cases, or_left, or_right, not-false, eqb-true}
use Rattle.fk_syntax.specs.declared.facts.Facts.{Facts}
use Rattle.fk_syntax.specs.declared.place.Spot.{Spot}
use Rattle.fk_syntax.specs.declared.program.Mode.{Mode}
use Rattle.fk_syntax.specs.declared.program.Mode.TheVariants as mode
use Rattle.fk_syntax.specs.Tree as t
use Rattle.fk_syntax.specs.Tree.{Named, TypeTree, Tree, Links, Trees, Suffixes}
use Rattle.fk_syntax.specs.Program as p
use Rattle.fk_syntax.specs.Program.{DeclaredTree, Statement, Statements, FunctionTree, ProgramTree}
use Rattle.fk_check_rules.specs.declared.rule.Rule.TheVariants as rules
use Rattle.fk_sharing_class.specs.declared.thing.Thing.{Thing}
use Rattle.fk_sharing_class.specs.Things.{Tells}
use Rattle.fk_sharing_class.specs.Class.{is_shared}
use Rattle.fk_types_names.specs.declared.names.Meaning.{Meaning}
use Rattle.fk_types_names.specs.declared.names.Meaning.TheVariants as m
use Rattle.fk_types_names.specs.Outline as n
use Rattle.fk_types_names.specs.Outline.{DeclarationTree, MarkTree, Declares, Uses, declarations, outline, tree_marks, optional_marks, variables_marks, statement_marks, statements_marks}
use Rattle.fk_types_names.specs.Means.{binding, MeansAt}
use Rattle.fk_types_judgments.specs.Term.{term_of}
use Rattle.fk_types_judgments.specs.Names.{Meant, Main, is_text, IsDeclared}
use Rattle.fk_types_judgments.specs.Broken.{Broken, is_main as is_main_meant}
use Rattle.fk_types_structs.specs.Types.{structs_of}
use Rattle.fk_types_obligations.specs.declared.piece.Role.{Role}
use Rattle.fk_types_obligations.specs.declared.piece.Role.TheVariants as role
use Rattle.fk_types_obligations.specs.Pieces as q
use Rattle.fk_types_obligations.specs.Pieces.{PieceTree, optional_pieces, variables_pieces, statement_pieces, statements_pieces}
use Rattle.fk_types_references.specs.References.{ReferenceTree, Name, tree_references, optional_references}
use Rattle.fk_types_rules.specs.Pieces.{if_there, InitialBreaks, UsedBreaks}
use Rattle.fk_types_rules.specs.Bound as b
use Rattle.fk_types_bindings.proofs.Below.{declared_below}
use Rattle.fk_types_bindings.proofs.BodyLemmas.{declared_here}
use Rattle.fk_regions.specs.declared.around.Holder as gh
use Rattle.fk_regions.specs.declared.around.Holder.TheVariants as g
use Rattle.fk_regions.specs.declared.around.Loops.TheVariants.{Inside}
use Rattle.fk_regions.specs.declared.around.Region.TheVariants.{Synchronous, Asynchronous}
use Rattle.fk_regions.specs.declared.callee.Callee.TheVariants as callee
use Rattle.fk_regions.specs.declared.token.Word.{Word}
use Rattle.fk_regions.specs.declared.token.Word.TheVariants as w
use Rattle.fk_regions.specs.declared.token.Spelling.{Spelling}
use Rattle.fk_regions.specs.Around as ra
use Rattle.fk_regions.specs.Around.{loops, beyond, is_straight, is_in_main, is_in_body}
use Rattle.fk_regions.specs.Called.{Calls}
use Rattle.fk_regions.specs.Misplaced as mis
use Rattle.fk_regions.specs.Tokens as r
use Rattle.fk_regions.specs.Tokens.{token_in, spot_of, spelling_of}
use Rattle.fk_sharing.specs.declared.around.Holder as hh
use Rattle.fk_sharing.specs.declared.around.Holder.TheVariants as h
use Rattle.fk_sharing.specs.declared.token.Word.TheVariants as sw
use Rattle.fk_sharing.specs.Around as sa
use Rattle.fk_sharing.specs.Around.{is_in_split, is_split_to_loop, is_split_in_loop}
use Rattle.fk_sharing.specs.Broken as sb
use Rattle.fk_sharing.specs.Tokens as s
use Rattle.fk_meaning_forms.specs.Tables.{no_binding, note}
use Rattle.fk_lockstep.specs.Allots.{Allots}
use Rattle.fk_meaning_forms.specs.Program.{is_main}
use Rattle.fk_meaning_forms.specs.Expressions.{Signature}
use Rattle.fk_meaning.specs.Calls as c
use Rattle.fk_meaning.specs.Shape.{Exits, none, of_turn}
use Rattle.fk_meaning.specs.Shaped.{Takes, of_branch, StatementShaped, StatementsShaped}
use Rattle.fk_lockstep.specs.Told.{Told, LinksTold, SuffixesTold, AllTold, OptionTold, VariablesTold}
use Rattle.fk_lockstep.specs.Noted.{Decides, Means, StatementNoted, StatementsNoted}
use Rattle.fk_lockstep_structure.specs.Placed as pl
use Rattle.fk_lockstep_structure.specs.Placed.{Who, OfGroup, OfBody, OfMain, is_group, is_outermost, inner}
use Rattle.fk_lockstep_structure.specs.InPlace as ip
use Rattle.fk_lockstep_structure.specs.InPlace.{Splits, StatementInPlace, StatementsInPlace}
use Rattle.fk_lockstep_structure.proofs.Forms.{inner_group}
use Rattle.fk_check_laws.specs.Correct.{IsCorrect}
use Rattle.fk_check_laws.specs.Valid.{may_run, callable, may_call}
use Rattle.fk_check_laws.proofs.Each.{Each, front_of, rest_of, two_of, three_of, four_of}
use Rattle.fk_check_laws.proofs.Typed.{Unbroken}
use Rattle.fk_check_laws.proofs.Notes.{among, binding_is, Theirs}
use Rattle.fk_check_laws.proofs.Statements as fit
use Rattle.fk_check_laws.proofs.Statements.{inside, never_inside}
use Rattle.fk_check_laws.proofs.Spelled.{spelled}
use Rattle.fk_check_laws.proofs.PlacedNotes.{tables, splits_from, IsRight, Ours, IsOurs}
use Rattle.fk_check_laws.proofs.Named.{env, Known, IsKnown, known, meant_at, declared_low, takes}
use Rattle.fk_check_laws.proofs.Expressions.{told}
use Rattle.fk_check_laws.proofs.Read.{NoMain, Any, IsNamed, read}

-- what is so of a name where something else is, and that is
module _ (D : (at : ℕ) → Type 0) (A B : Named → Type 0) where
  mutual
    both_told : (x : Tree) → Told D (λ name. A name → B name) x → Told (λ at. Unit {0}) A x → Told D B x
    both_told (t.Number spot value unsigned) a b = tt
    both_told (t.Puts spot text) a b = tt
    both_told (t.Sizeof spot type) a b = tt
    both_told (t.Variable name) a b = a b
    both_told (t.GroupNumber spot) a b = tt
    both_told (t.GroupRank spot) a b = tt
    both_told (t.Prefix spot sign operand) a b = both_told operand a b
    both_told (t.Cast spot type operand) a b = both_told operand a b
    both_told (t.Chain first links) a b = (both_told first a.0 b.0, both_links links a.1 b.1)
    both_told (t.Postfix whole suffixes) a b = (both_told whole a.0 b.0, both_suffixes suffixes a.1 b.1)
    both_told (t.Assign spot sign target value) a b = (both_told target a.0 b.0, both_told value a.1 b.1)
    both_told (t.Choose spot condition first second) a b = (a.0, both_told condition a.1 b.1, both_told first a.2 b.2, both_told second a.3 b.3)

    both_links : (x : Links) → LinksTold D (λ name. A name → B name) x → LinksTold (λ at. Unit {0}) A x → LinksTold D B x
    both_links t.no_links a b = tt
    both_links (t.link spot sign right others) a b = (a.0, both_told right a.1 b.1, both_links others a.2 b.2)

    both_suffixes : (x : Suffixes) → SuffixesTold D (λ name. A name → B name) x → SuffixesTold (λ at. Unit {0}) A x → SuffixesTold D B x
    both_suffixes t.no_suffixes a b = tt
    both_suffixes (t.index spot by others) a b = (both_told by a.0 b.0, both_suffixes others a.1 b.1)
    both_suffixes (t.call spot arguments others) a b = (both_all arguments a.0 b.0, both_suffixes others a.1 b.1)
    both_suffixes (t.dot spot member others) a b = both_suffixes others a b
    both_suffixes (t.arrow spot member others) a b = both_suffixes others a b
    both_suffixes (t.up spot others) a b = both_suffixes others a b
    both_suffixes (t.down spot others) a b = both_suffixes others a b

    both_all : (x : Trees) → AllTold D (λ name. A name → B name) x → AllTold (λ at. Unit {0}) A x → AllTold D B x
    both_all t.no_trees a b = tt
    both_all (t.tree first others) a b = (both_told first a.0 b.0, both_all others a.1 b.1)

main_by : (main : Bool) (x other : Meant) → main ≡ true → x ≡ (if main then Main else other) → is_main_meant x ≡ true
main_by true x other e is = ap is_main_meant is
main_by false x other e is = absurd (false≢true e)

module _ (program : ProgramTree) (facts : Facts) (valid : IsCorrect program facts) (functions : (binding : ℕ) → Signature) where
  abbrev pub Right : Theirs program facts valid → Type 0
  Right x = IsRight program facts valid x

  abbrev pub Mine : (ℕ → Option Thing) → Ours program facts valid → Type 0
  Mine thing x = IsOurs program facts valid thing x

  abbrev pub Stands : MarkTree → Type 0
  Stands mark = fit.Stands program facts valid functions mark

  abbrev pub Refers : ReferenceTree → Type 0
  Refers x = fit.Refers program facts valid functions x

  abbrev pub Fine : PieceTree → Type 0
  Fine x = fit.Fine program facts valid functions x

  -- ---- expressions where a group runs them, or processors by themselves

  pub record Runs (in_group : Bool) (outer : List gh.Holder) : Type 0 where
    pub group : in_group ≡ true → (ra.region outer ≡ Synchronous) ⊎ (is_straight outer ≡ true)
    pub alone : in_group ≡ false → ra.region outer ≡ Synchronous → ⊥

  pub record IsGood (in_group : Bool) (x : Tree) : Type 0 where
    pub fits : c.Fits (tables program facts valid) functions (Takes (tables program facts valid)) x
    pub in_place : Told (Splits (tables program facts valid) (may_call program) in_group) (ip.Calls (tables program facts valid) (may_call program) in_group) x
    pub noted : in_group ≡ true → Told (Decides (tables program facts valid) (may_call program true)) (Means (tables program facts valid) (may_call program true)) x

  abbrev pub OptionGood : (in_group : Bool) → Option Tree → Type 0
  OptionGood in_group None = Unit {0}
  OptionGood in_group (Some x) = IsGood in_group x

  module _ (in_group : Bool) (outer : List gh.Holder) (runs : Runs in_group outer) where
    pub splits_in_group : (spot : Spot) (word : Word) → Right (token_in outer spot word) → Splits (tables program facts valid) (may_call program) in_group spot.at
    splits_in_group spot word x =
        (λ e. true_from_ne_false in_group (λ no. runs.alone no (x.alone e)), λ e. true_from_ne_false in_group (λ no. runs.alone no (x.agrees e)))

    pub decides : in_group ≡ true → (spot : Spot) (word : Word) → mis.Decides (Calls program spot.at) word → Right (token_in outer spot word) → Decides (tables program facts valid) (may_call program true) spot.at
    decides within spot word deciding x = elim (runs.group within) [
      | inl sync ↦ x.sync sync
      | inr straight ↦ absurd (x.unbroken rules.NotStraight (inr (refl, straight, deciding)))
    ]

    -- a function that may not run here is not called here
    wrong_mode : (spot : Spot) (spelling : Spelling) → Right (token_in outer spot (w.Name spelling)) → (f : FunctionTree) → Calls program spot.at (callee.Function f.mode)
        → may_run in_group f.mode ≡ false → ⊥
    wrong_mode spot spelling x f calls wrong = by in_group runs f.mode calls wrong
      where
        by : (g : Bool) → Runs g outer → (mode' : Mode) → Calls program spot.at (callee.Function mode') → may_run g mode' ≡ false → ⊥
        by true runs' mode.Sync calls wrong = false≢true (sym wrong)
        by false runs' mode.Sync calls wrong = x.unbroken rules.SyncCalledOutside (inl (mis.sync_called_outside spelling calls (runs'.alone refl)))
        by true runs' mode.Async calls wrong = elim (runs'.group refl) [
          | inl sync ↦ x.unbroken rules.AsyncCalledInside (inl (mis.async_called_inside spelling calls sync))
          | inr straight ↦ x.unbroken rules.NotStraight (inr (refl, straight, mis.call_decides spelling mode.Async calls (λ e. cc)))
        ]
        by false runs' mode.Async calls wrong = false≢true (sym wrong)
        by g runs' mode.Straight calls wrong = false≢true (sym wrong)

    -- nor does one that runs by itself call `shalloc`
    allots : (name : Named) (from : ℕ) → Right (token_in outer (spot_of name) (w.Name (spelling_of name.bytes)))
        → (meaning : Meaning) → MeansAt (outline program) name.bytes from meaning → IsKnown program facts valid name meaning
        → Allots (tables program facts valid) name → in_group ≡ true
    allots name from x (m.Declared number) means k a =
        let low = declared_low program facts valid number k.meant.0 k.meant.1 in
        let same = eqb-true (note (tables program facts valid) name.at).binding no_binding a.predeclared in
        absurd (omega (arith, same, k.binds, low))
    allots name from x m.Predeclared means k a = true_from_ne_false in_group (λ no.
        x.unbroken rules.ShallocOutside
        (inl (subst (λ (s' : Spelling). mis.Misplaced outer (Calls program name.at) (w.Name s') rules.ShallocOutside)
        (sym (spelled name means.1 a.no_value a.no_other)) (mis.shalloc_outside k.means (λ e. runs.alone no e)))))
    allots name from x m.Undeclared means k a = absurd k.binds

    may : (name : Named) → Right (token_in outer (spot_of name) (w.Name (spelling_of name.bytes))) → Known program facts valid name
        → NoMain program facts valid functions name → may_call program in_group (note (tables program facts valid) name.at).binding ≡ true
    may name x is_known no_main = true_from_ne_false _ (λ wrong. is_known (by wrong))
      where
        at : ℕ
        at = (note (tables program facts valid) name.at).binding

        declared : (number : ℕ) (d : DeclarationTree) → slice_get (declarations program) number ≡ Some d → IsKnown program facts valid name (m.Declared number)
            → IsDeclared (structs_of program.items) d ((env program facts valid).meant name) → callable in_group (Some d) ≡ false → ⊥
        declared number (n.Variable v) is k meant wrong = false≢true (sym wrong)
        declared number (n.Header f) is k meant wrong = elim (and_cases (not (is_main f)) (may_run in_group f.mode) wrong) [
          | inl main ↦ no_main (main_by (is_text f.name.bytes (codes "main")) _ _ (not-false (is_main f) main) meant.3)
          | inr mode' ↦ wrong_mode (spot_of name) (spelling_of name.bytes) x f (number, f, k.means, is, refl) mode'
        ]

        by : callable in_group (slice_get (declarations program) at) ≡ false → (meaning : Meaning) → IsKnown program facts valid name meaning → ⊥
        by wrong (m.Declared number) k = declared number k.meant.0 k.meant.1 k k.meant.2
            (subst (λ o. callable in_group o ≡ false) k.meant.1 (subst (λ i. callable in_group (slice_get (declarations program) i) ≡ false) k.binds wrong))
        by wrong m.Predeclared k = none_there (slice_get (declarations program) at) refl wrong
          where
            none_there : (o : Option DeclarationTree) → slice_get (declarations program) at ≡ o → callable in_group o ≡ false → ⊥
            none_there None is wrong = false≢true (sym wrong)
            none_there (Some d) is wrong = omega (arith, k.binds, declared_low program facts valid at d is)
        by wrong m.Undeclared k = k.binds

    good : (x : Tree) → Unbroken (Broken (env program facts valid) (term_of x)) → Each Right (r.tree_tokens outer x) → Each Stands (tree_marks x) → Each Refers (tree_references x) → IsGood in_group x
    good x un a b' c' =
        let named = told Right Stands Refers outer Any (IsNamed program facts valid functions) (λ spot y. tt)
        (λ name y used referred. known program facts valid name used.0 used.1 referred) x a b' c' in
        let is_read = read program facts valid functions (Takes (tables program facts valid)) (takes program facts valid) x un named in
        let each_may : (name : Named) → Right (token_in outer (spot_of name) (w.Name (spelling_of name.bytes))) → Stands (Uses name) → Refers (Name name)
        → NoMain program facts valid functions name → ip.Calls (tables program facts valid) (may_call program) in_group name =
        λ name y used referred no_main.
        let m' = meant_at program facts valid name used.0 used.1 referred in
        (may name y (known program facts valid name used.0 used.1 referred) no_main, allots name used.0 y m'.0 m'.1 m'.2) in
        record {
          fits = is_read.fits;
          in_place = both_told (Splits (tables program facts valid) (may_call program) in_group) (NoMain program facts valid functions) (ip.Calls (tables program facts valid) (may_call program) in_group) x
              (told Right Stands Refers outer (Splits (tables program facts valid) (may_call program) in_group)
              (λ name. NoMain program facts valid functions name → ip.Calls (tables program facts valid) (may_call program) in_group name) (λ spot y. splits_in_group spot w.Branching y) each_may x a b' c')
              is_read.plain;
          noted = λ within. both_told (Decides (tables program facts valid) (may_call program true)) (NoMain program facts valid functions) (Means (tables program facts valid) (may_call program true)) x
              (told Right Stands Refers outer (Decides (tables program facts valid) (may_call program true))
              (λ name. NoMain program facts valid functions name → Means (tables program facts valid) (may_call program true) name) (λ spot y. decides within spot w.Branching mis.sign_decides y)
              (λ name y used referred no_main. subst (λ g'. may_call program g' (note (tables program facts valid) name.at).binding ≡ true) within (each_may name y used referred no_main).0) x a b' c')
              is_read.plain;
        }

    -- as a piece of the text
    used_whole : (r' : Role) (x : Tree) → Unbroken (UsedBreaks (env program facts valid) r' (term_of x)) → Unbroken (Broken (env program facts valid) (term_of x))
    used_whole role.Condition x un place rule broken = un place rule (inl broken)
    used_whole role.Alone x un place rule broken = un place rule (inl broken)
    used_whole role.Word x un place rule broken = un place rule (inl broken)

    pub used : (r' : Role) (x : Tree) → Each Right (r.tree_tokens outer x) → Each Stands (tree_marks x) → Fine (q.Used r' x) → IsGood in_group x
    used r' x a b' f = good x (used_whole r' x f.0) a b' f.1

    pub used_or : (r' : Role) (x : Option Tree) → Each Right (r.optional_tokens outer x) → Each Stands (optional_marks x) → Each Fine (optional_pieces r' x) → OptionGood in_group x
    used_or r' None a b' f = tt
    used_or r' (Some x) a b' f = used r' x a b' f.0

    pub returned : (result : TypeTree) (spot : Spot) (x : Option Tree) → Each Right (r.optional_tokens outer x) → Each Stands (optional_marks x) → Fine (q.Return result spot x) → OptionGood in_group x
    returned result spot None a b' f = tt
    returned result spot (Some x) a b' f = good x (λ place rule broken. f.0 place rule (inl (inl broken))) a b' f.1

    -- variables
    declared_may : (g' : Bool) (x : DeclaredTree) → Stands (Declares (n.Variable x)) → ip.Calls (tables program facts valid) (may_call program) g' x.name
    declared_may g' x there =
        let number = declared_here (outline program) there.0 (n.Variable x) there.1 in
        let low = declared_below program valid.well_formed (n.Variable x) (among (declarations program) (binding (outline program) there.0) (n.Variable x) number) in
        let is = binding_is program facts valid x.name.at (binding (outline program) there.0) low (b.declares (n.Variable x) there.0 there.0 there.1 refl refl) in (
          ap (λ i. callable g' (slice_get (declarations program) i)) is ∙ ap (callable g') number,
          (λ a.
              let same = eqb-true (note (tables program facts valid) x.name.at).binding no_binding a.predeclared in
              let below = declared_low program facts valid (binding (outline program) there.0) (n.Variable x) number in
              absurd (omega (arith, same, is, below))),
        )

    pub record AreGood (xs : List DeclaredTree) : Type 0 where
      pub fits : c.VariablesFit (tables program facts valid) functions (Takes (tables program facts valid)) xs
      pub in_place : VariablesTold (Splits (tables program facts valid) (may_call program) in_group) (ip.Calls (tables program facts valid) (may_call program) in_group) xs
      pub noted : in_group ≡ true → VariablesTold (Decides (tables program facts valid) (may_call program true)) (Means (tables program facts valid) (may_call program true)) xs

    first_good : (x : DeclaredTree) → Each Right (r.optional_tokens outer x.first) → Each Stands (optional_marks x.first) → Fine (q.Variable x) → OptionGood in_group x.first
    first_good x a b' f = by x.first a b' (λ place rule broken. f.0 place rule (inr broken)) f.1
      where
        by : (first : Option Tree) → Each Right (r.optional_tokens outer first) → Each Stands (optional_marks first)
            → Unbroken (if_there (InitialBreaks (env program facts valid) x) first) → Each Refers (optional_references first) → OptionGood in_group first
        by None a b' un c' = tt
        by (Some first) a b' un c' = good first (λ place rule broken. un place rule (inl (inl broken))) a b' c'

    pub option_fits : (x : Option Tree) → OptionGood in_group x → c.OptionFits (tables program facts valid) functions (Takes (tables program facts valid)) x
    option_fits None h = tt
    option_fits (Some x) h = h.fits

    pub option_in_place : (x : Option Tree) → OptionGood in_group x → OptionTold (Splits (tables program facts valid) (may_call program) in_group) (ip.Calls (tables program facts valid) (may_call program) in_group) x
    option_in_place None h = tt
    option_in_place (Some x) h = h.in_place

    pub option_noted : (x : Option Tree) → OptionGood in_group x → in_group ≡ true → OptionTold (Decides (tables program facts valid) (may_call program true)) (Means (tables program facts valid) (may_call program true)) x
    option_noted None h within = tt
    option_noted (Some x) h within = h.noted within

    pub declared_good : (xs : List DeclaredTree) → Each Right (r.variables_tokens outer xs) → Each Stands (variables_marks xs) → Each Fine (variables_pieces xs) → AreGood xs
    declared_good [] a b' f = record { fits = tt; in_place = tt; noted = λ within. tt }
    declared_good (x ∷ xs) a b' f =
        let first = first_good x (front_of Right (r.optional_tokens outer x.first) (r.variables_tokens outer xs) a.1)
        (front_of Stands (optional_marks x.first) (variables_marks xs) b'.1) f.0 in
        let others = declared_good xs (rest_of Right (r.optional_tokens outer x.first) (r.variables_tokens outer xs) a.1)
        (rest_of Stands (optional_marks x.first) (variables_marks xs) b'.1) f.1 in
        record {
          fits = (option_fits x.first first, others.fits);
          in_place = (declared_may in_group x b'.0, option_in_place x.first first, others.in_place);
          noted = λ within. ((declared_may true x b'.0).0, option_noted x.first first within, others.noted within);
        }

  -- ---- statements

  -- where a statement stands: who runs it, what may lead out of it, and what holds it
  pub record Where (who : Who) (main : Bool) (x : Exits) (outer : List gh.Holder) (held : (ℕ → Option Thing) → List hh.Holder) : Type 0 where
    pub runs : Runs (is_group who) outer
    pub region : (thing : ℕ → Option Thing) → sa.region (held thing) ≡ ra.region outer
    pub outermost : is_in_main outer ≡ true → is_outermost who ≡ true
    pub function : is_in_body outer ≡ false → pl.is_main who ≡ main
    pub breaks : loops outer ≡ Inside → x.breaks ≡ false → (thing : ℕ → Option Thing) × Tells program thing × (is_split_to_loop (held thing) ≡ true)
    pub continues : loops outer ≡ Inside → x.continues ≡ false → (thing : ℕ → Option Thing) × Tells program thing × (is_split_in_loop (held thing) ≡ true)
    pub returns : is_in_body outer ≡ false → x.returns ≡ false → (thing : ℕ → Option Thing) × Tells program thing × (is_in_split (held thing) ≡ true)

  -- where a keyword decides by a condition, the group splits as its note says
  abbrev Decider : (held : (ℕ → Option Thing) → List hh.Holder) → (shared : (ℕ → Option Thing) → Bool) → Spot → Type 0
  Decider held shared spot = (thing : ℕ → Option Thing) → Mine thing (s.bare (held thing) spot (sw.Decides (shared thing)))

  abbrev is_split : Spot → Bool
  is_split spot = (note (tables program facts valid) spot.at).splits

  splits_here : (held : (ℕ → Option Thing) → List hh.Holder) (shared : (ℕ → Option Thing) → Bool) (spot : Spot) → Decider held shared spot → is_split spot ≡ true
      → (thing : ℕ → Option Thing) × Tells program thing × (sa.splits (sa.region (held thing)) (shared thing) ≡ true)
  splits_here held shared spot decider e =
      let h' = splits_from program facts valid spot.at e in
      let one = decider h'.0 in
      (h'.0, h'.1, subst (λ (y : Ours program facts valid). sb.is_splitting (sa.region y.around) y.word ≡ true) (one.same h'.2 h'.3 h'.4 h'.5) h'.6)

  inner_main : (who : Who) → pl.is_main (inner who) ≡ pl.is_main who
  inner_main OfGroup = refl
  inner_main OfBody = refl
  inner_main (OfMain outermost) = refl

  inner_runs : (who : Who) (outer : List gh.Holder) (holder : gh.Holder) → ra.region (holder ∷ outer) ≡ ra.region outer → is_straight (holder ∷ outer) ≡ is_straight outer → Runs (is_group who) outer → Runs (is_group (inner who)) (holder ∷ outer)
  inner_runs who outer holder same straight runs = record {
    group = λ e. elim (runs.group (sym (inner_group who) ∙ e)) [ inl sync ↦ inl (same ∙ sync) | inr is ↦ inr (straight ∙ is) ];
    alone = λ e sync. runs.alone (sym (inner_group who) ∙ e) (sym same ∙ sync);
  }

  -- in a block, an arm, a loop and a body
  in_block : {who : Who} {main : Bool} {x : Exits} {outer : List gh.Holder} {held : (ℕ → Option Thing) → List hh.Holder} → Where who main x outer held → Where who main x (g.Block ∷ outer) held
  in_block at = record {
    runs = record { group = at.runs.group; alone = at.runs.alone };
    region = at.region;
    outermost = λ e. absurd (false≢true e);
    function = at.function;
    breaks = at.breaks;
    continues = at.continues;
    returns = at.returns;
  }

  in_arm : {who : Who} {main : Bool} {x : Exits} {outer : List gh.Holder} {held : (ℕ → Option Thing) → List hh.Holder} (shared : (ℕ → Option Thing) → Bool) (spot : Spot)
      → Decider held shared spot → Where who main x outer held
      → Where (inner who) main (of_branch (tables program facts valid) functions (is_split spot) x) (g.Branch ∷ outer) (λ thing. h.Branch (shared thing) ∷ held thing)
  in_arm {who} {main} {x} {outer} {held} shared spot decider at = by (is_split spot) refl
    where
      by : (b' : Bool) → is_split spot ≡ b' → Where (inner who) main (of_branch (tables program facts valid) functions b' x) (g.Branch ∷ outer) (λ thing. h.Branch (shared thing) ∷ held thing)
      by true is = let here = splits_here held shared spot decider is in record {
        runs = inner_runs who outer g.Branch refl refl at.runs;
        region = at.region;
        outermost = λ e. absurd (false≢true e);
        function = λ e. inner_main who ∙ at.function e;
        breaks = λ l e. (here.0, here.1, or_left _ _ here.2);
        continues = λ l e. (here.0, here.1, or_left _ _ here.2);
        returns = λ l e. (here.0, here.1, or_left _ _ here.2);
      }
      by false is = record {
        runs = inner_runs who outer g.Branch refl refl at.runs;
        region = at.region;
        outermost = λ e. absurd (false≢true e);
        function = λ e. inner_main who ∙ at.function e;
        breaks = λ l e. let k = at.breaks l e in (k.0, k.1, or_right _ _ k.2);
        continues = λ l e. let k = at.continues l e in (k.0, k.1, or_right _ _ k.2);
        returns = λ l e. let k = at.returns l e in (k.0, k.1, or_right _ _ k.2);
      }

  in_loop : {who : Who} {main : Bool} {x : Exits} {outer : List gh.Holder} {held : (ℕ → Option Thing) → List hh.Holder} (shared : (ℕ → Option Thing) → Bool) (spot : Spot)
      → Decider held shared spot → Where who main x outer held
      → Where (inner who) main (of_turn (is_split spot) x) (g.Loop ∷ outer) (λ thing. h.Loop (shared thing) ∷ held thing)
  in_loop {who} {main} {x} {outer} {held} shared spot decider at = by (is_split spot) refl
    where
      by : (b' : Bool) → is_split spot ≡ b' → Where (inner who) main (of_turn b' x) (g.Loop ∷ outer) (λ thing. h.Loop (shared thing) ∷ held thing)
      by true is = let here = splits_here held shared spot decider is in record {
        runs = inner_runs who outer g.Loop refl refl at.runs;
        region = at.region;
        outermost = λ e. absurd (false≢true e);
        function = λ e. inner_main who ∙ at.function e;
        breaks = λ l e. here;
        continues = λ l e. absurd (false≢true (sym e));
        returns = λ l e. (here.0, here.1, or_left _ _ here.2);
      }
      by false is = record {
        runs = inner_runs who outer g.Loop refl refl at.runs;
        region = at.region;
        outermost = λ e. absurd (false≢true e);
        function = λ e. inner_main who ∙ at.function e;
        breaks = λ l e. absurd (false≢true (sym e));
        continues = λ l e. absurd (false≢true (sym e));
        returns = λ l e. let k = at.returns l e in (k.0, k.1, or_right _ _ k.2);
      }

  in_group_body : {main : Bool} {outer : List gh.Holder} {held : (ℕ → Option Thing) → List hh.Holder} → Where OfGroup main none (g.Start ∷ outer) (λ thing. h.Body Synchronous ∷ held thing)
  in_group_body {main} {outer} {held} = record {
    runs = record { group = λ e. inl refl; alone = λ e sync. false≢true (sym e) };
    region = λ thing. refl;
    outermost = λ e. absurd (false≢true e);
    function = λ e. absurd (false≢true (sym e));
    breaks = λ l e. absurd (never_inside (loops outer) l);
    continues = λ l e. absurd (never_inside (loops outer) l);
    returns = λ l e. absurd (false≢true (sym l));
  }

  in_fork_body : {main : Bool} {outer : List gh.Holder} {held : (ℕ → Option Thing) → List hh.Holder} → Where OfGroup main none (g.Fork ∷ outer) (λ thing. h.Body Synchronous ∷ held thing)
  in_fork_body {main} {outer} {held} = record {
    runs = record { group = λ e. inl refl; alone = λ e sync. false≢true (sym e) };
    region = λ thing. refl;
    outermost = λ e. absurd (false≢true e);
    function = λ e. absurd (false≢true (sym e));
    breaks = λ l e. absurd (never_inside (loops outer) l);
    continues = λ l e. absurd (never_inside (loops outer) l);
    returns = λ l e. absurd (false≢true (sym l));
  }

  in_own_body : {main : Bool} {outer : List gh.Holder} {held : (ℕ → Option Thing) → List hh.Holder} (holder : gh.Holder) → ra.region (holder ∷ outer) ≡ Asynchronous
      → is_in_main (holder ∷ outer) ≡ false → is_in_body (holder ∷ outer) ≡ true → loops (holder ∷ outer) ≡ beyond (loops outer)
      → Where OfBody main none (holder ∷ outer) (λ thing. h.Body Asynchronous ∷ held thing)
  in_own_body {main} {outer} {held} holder region' main' body loops' = record {
    runs = record { group = λ e. absurd (false≢true e); alone = λ e sync. apart (sym region' ∙ sync) };
    region = λ thing. sym region';
    outermost = λ e. absurd (false≢true (sym main' ∙ e));
    function = λ e. absurd (false≢true (sym e ∙ body));
    breaks = λ l e. absurd (never_inside (loops outer) (sym loops' ∙ l));
    continues = λ l e. absurd (never_inside (loops outer) (sym loops' ∙ l));
    returns = λ l e. absurd (false≢true (sym l ∙ body));
  }
    where
      apart : Asynchronous ≡ Synchronous → ⊥
      apart e = cc

  pub record IsGoodStatement (who : Who) (main : Bool) (x : Exits) (statement : Statement) : Type 0 where
    pub shaped : StatementShaped (tables program facts valid) functions x statement
    pub in_place : StatementInPlace (tables program facts valid) (may_call program) main who statement
    pub noted : is_group who ≡ true → StatementNoted (tables program facts valid) (may_call program true) statement

  pub record AreGoodStatements (who : Who) (main : Bool) (x : Exits) (statements : Statements) : Type 0 where
    pub shaped : StatementsShaped (tables program facts valid) functions x statements
    pub in_place : StatementsInPlace (tables program facts valid) (may_call program) main who statements
    pub noted : is_group who ≡ true → StatementsNoted (tables program facts valid) (may_call program true) statements

  -- the keyword that decides stands behind its condition
  condition_is : (held : (ℕ → Option Thing) → List hh.Holder) (condition : Tree) (spot : Spot) (more : List (Ours program facts valid)) (thing : ℕ → Option Thing)
      → Each (Mine thing) (s.condition_tokens thing (held thing) spot condition ++ more) → Mine thing (s.bare (held thing) spot (sw.Decides (is_shared thing condition)))
  condition_is held condition spot more thing o =
      (rest_of (Mine thing) (s.tree_tokens thing (held thing) condition) (s.bare (held thing) spot (sw.Decides (is_shared thing condition)) ∷ [])
      (front_of (Mine thing) (s.condition_tokens thing (held thing) spot condition) more o)).0

  head_is : (held : (ℕ → Option Thing) → List hh.Holder) (spot : Spot) (first condition after : Option Tree) (more : List (Ours program facts valid)) (thing : ℕ → Option Thing)
      → Each (Mine thing) (s.head_tokens thing (held thing) spot first condition after ++ more) → Mine thing (s.bare (held thing) spot (sw.Decides (s.is_condition_shared thing condition)))
  head_is held spot first condition after more thing o =
      (rest_of (Mine thing) (s.optional_tokens thing (held thing) first ++ s.optional_tokens thing (held thing) condition ++ s.optional_tokens thing (held thing) after)
      (s.bare (held thing) spot (sw.Decides (s.is_condition_shared thing condition)) ∷ []) (front_of (Mine thing) (s.head_tokens thing (held thing) spot first condition after) more o)).0

  pub scope_of : (ms : List MarkTree) → Each Stands (n.scope ms) → Each Stands ms
  scope_of ms h' = front_of Stands ms (n.Closes ∷ []) h'.1

  mutual
    pub statement_good : (result : TypeTree) (who : Who) (main : Bool) (x : Exits) (outer : List gh.Holder) (held : (ℕ → Option Thing) → List hh.Holder) → Where who main x outer held
        → (st : Statement) → Each Right (r.statement_tokens ◌∷◌ outer st) → ((thing : ℕ → Option Thing) → Each (Mine thing) (s.statement_tokens thing ◌∷◌ (held thing) st))
        → Each Stands (statement_marks st) → Each Fine (statement_pieces result st) → IsGoodStatement who main x st
    statement_good result who main x outer held at p.Empty a o b' f = record { shaped = tt; in_place = tt; noted = λ e. tt }
    statement_good result who main x outer held at (p.Expression value) a o b' f =
        let v = used (is_group who) outer at.runs role.Alone value a b' f.0 in
        record { shaped = v.fits; in_place = v.in_place; noted = v.noted }
    statement_good result who main x outer held at (p.Block statements) a o b' f =
        let v = statements_good result who main x (g.Block ∷ outer) held (in_block at) statements a o (scope_of (statements_marks statements) b') f in
        record { shaped = v.shaped; in_place = v.in_place; noted = v.noted }
    statement_good result who main x outer held at (p.Declare variables) a o b' f =
        let v = declared_good (is_group who) outer at.runs variables a b' f in
        record { shaped = v.fits; in_place = v.in_place; noted = v.noted }
    statement_good result who main x outer held at (p.If spot condition body) a o b' f =
        let shared = λ (thing : ℕ → Option Thing). is_shared thing condition in
        let ts = r.statement_tokens ◌∷◌ (g.Branch ∷ outer) body in
        let v = used (is_group who) outer at.runs role.Condition condition (front_of Right (r.tree_tokens outer condition) ts a.1)
        (front_of Stands (tree_marks condition) (n.scope (statement_marks body)) b') f.0 in
        let s' = statement_good result (inner who) main _ (g.Branch ∷ outer) (λ thing. h.Branch (shared thing) ∷ held thing)
        (in_arm shared spot (λ thing. condition_is held condition spot _ thing (o thing)) at) body
        (rest_of Right (r.tree_tokens outer condition) ts a.1)
        (λ thing. rest_of (Mine thing) (s.condition_tokens thing (held thing) spot condition) _ (o thing))
        (scope_of (statement_marks body) (rest_of Stands (tree_marks condition) (n.scope (statement_marks body)) b')) f.1 in
        record {
          shaped = (v.fits, s'.shaped);
          in_place = (splits_in_group (is_group who) outer at.runs spot w.If a.0, v.in_place, s'.in_place);
          noted = λ e. (decides (is_group who) outer at.runs e spot w.If mis.if_decides a.0, v.noted e, s'.noted (inner_group who ∙ e));
        }
    statement_good result who main x outer held at (p.IfElse spot condition body otherwise) a o b' f =
        let shared = λ (thing : ℕ → Option Thing). is_shared thing condition in
        let rs = three_of Right (r.tree_tokens outer condition) (r.statement_tokens ◌∷◌ (g.Branch ∷ outer) body) (r.statement_tokens ◌∷◌ (g.Branch ∷ outer) otherwise) a.1 in
        let ms = three_of Stands (tree_marks condition) (n.scope (statement_marks body)) (n.scope (statement_marks otherwise)) b' in
        let fs = two_of Fine (statement_pieces result body) (statement_pieces result otherwise) f.1 in
        let o' = λ (thing : ℕ → Option Thing). front_of (Mine thing) (s.condition_tokens thing (held thing) spot condition ++ s.statement_tokens thing ◌∷◌ (h.Branch (shared thing) ∷ held thing) body)
        (s.statement_tokens thing ◌∷◌ (h.Branch (shared thing) ∷ held thing) otherwise) (o thing) in
        let v = used (is_group who) outer at.runs role.Condition condition rs.0 ms.0 f.0 in
        let arm = in_arm shared spot (λ thing. condition_is held condition spot _ thing (o' thing)) at in
        let s' = statement_good result (inner who) main _ (g.Branch ∷ outer) (λ thing. h.Branch (shared thing) ∷ held thing) arm body rs.1
        (λ thing. rest_of (Mine thing) (s.condition_tokens thing (held thing) spot condition) _ (o' thing)) (scope_of (statement_marks body) ms.1) fs.0 in
        let t' = statement_good result (inner who) main _ (g.Branch ∷ outer) (λ thing. h.Branch (shared thing) ∷ held thing) arm otherwise rs.2
        (λ thing. rest_of (Mine thing) (s.condition_tokens thing (held thing) spot condition ++ s.statement_tokens thing ◌∷◌ (h.Branch (shared thing) ∷ held thing) body) _ (o thing))
        (scope_of (statement_marks otherwise) ms.2) fs.1 in
        record {
          shaped = (v.fits, s'.shaped, t'.shaped);
          in_place = (splits_in_group (is_group who) outer at.runs spot w.If a.0, v.in_place, s'.in_place, t'.in_place);
          noted = λ e. (decides (is_group who) outer at.runs e spot w.If mis.if_decides a.0, v.noted e, s'.noted (inner_group who ∙ e), t'.noted (inner_group who ∙ e));
        }
    statement_good result who main x outer held at (p.While spot condition body) a o b' f =
        let shared = λ (thing : ℕ → Option Thing). is_shared thing condition in
        let ts = r.statement_tokens ◌∷◌ (g.Loop ∷ outer) body in
        let v = used (is_group who) outer at.runs role.Condition condition (front_of Right (r.tree_tokens outer condition) ts a.1)
        (front_of Stands (tree_marks condition) (n.scope (statement_marks body)) b') f.0 in
        let s' = statement_good result (inner who) main _ (g.Loop ∷ outer) (λ thing. h.Loop (shared thing) ∷ held thing)
        (in_loop shared spot (λ thing. condition_is held condition spot _ thing (o thing)) at) body
        (rest_of Right (r.tree_tokens outer condition) ts a.1)
        (λ thing. rest_of (Mine thing) (s.condition_tokens thing (held thing) spot condition) _ (o thing))
        (scope_of (statement_marks body) (rest_of Stands (tree_marks condition) (n.scope (statement_marks body)) b')) f.1 in
        record {
          shaped = (v.fits, s'.shaped);
          in_place = (splits_in_group (is_group who) outer at.runs spot w.Loop a.0, v.in_place, s'.in_place);
          noted = λ e. (decides (is_group who) outer at.runs e spot w.Loop mis.loop_decides a.0, v.noted e, s'.noted (inner_group who ∙ e));
        }
    statement_good result who main x outer held at (p.DoWhile spot body condition) a o b' f =
        let shared = λ (thing : ℕ → Option Thing). is_shared thing condition in
        let ts = r.statement_tokens ◌∷◌ (g.Loop ∷ outer) body in
        let v = used (is_group who) outer at.runs role.Condition condition (front_of Right (r.tree_tokens outer condition) ts a.1)
        (rest_of Stands (n.scope (statement_marks body)) (tree_marks condition) b') (rest_of Fine (statement_pieces result body) (q.Used role.Condition condition ∷ []) f).0 in
        let s' = statement_good result (inner who) main _ (g.Loop ∷ outer) (λ thing. h.Loop (shared thing) ∷ held thing)
        (in_loop shared spot (λ thing. condition_is held condition spot _ thing (o thing)) at) body
        (rest_of Right (r.tree_tokens outer condition) ts a.1)
        (λ thing. rest_of (Mine thing) (s.condition_tokens thing (held thing) spot condition) _ (o thing))
        (scope_of (statement_marks body) (front_of Stands (n.scope (statement_marks body)) (tree_marks condition) b'))
        (front_of Fine (statement_pieces result body) (q.Used role.Condition condition ∷ []) f) in
        record {
          shaped = (v.fits, s'.shaped);
          in_place = (splits_in_group (is_group who) outer at.runs spot w.Loop a.0, v.in_place, s'.in_place);
          noted = λ e. (decides (is_group who) outer at.runs e spot w.Loop mis.loop_decides a.0, v.noted e, s'.noted (inner_group who ∙ e));
        }
    statement_good result who main x outer held at (p.For spot first condition after body) a o b' f =
        let shared = λ (thing : ℕ → Option Thing). s.is_condition_shared thing condition in
        let rs = four_of Right (r.optional_tokens outer first) (r.optional_tokens outer condition) (r.optional_tokens outer after) (r.statement_tokens ◌∷◌ (g.Loop ∷ outer) body) a.1 in
        let ms = four_of Stands (optional_marks first) (optional_marks condition) (optional_marks after) (n.scope (statement_marks body)) b' in
        let fs = four_of Fine (optional_pieces role.Alone first) (optional_pieces role.Condition condition) (optional_pieces role.Alone after) (statement_pieces result body) f in
        let v1 = used_or (is_group who) outer at.runs role.Alone first rs.0 ms.0 fs.0 in
        let v2 = used_or (is_group who) outer at.runs role.Condition condition rs.1 ms.1 fs.1 in
        let v3 = used_or (is_group who) outer at.runs role.Alone after rs.2 ms.2 fs.2 in
        let s' = statement_good result (inner who) main _ (g.Loop ∷ outer) (λ thing. h.Loop (shared thing) ∷ held thing)
        (in_loop shared spot (λ thing. head_is held spot first condition after _ thing (o thing)) at) body rs.3
        (λ thing. rest_of (Mine thing) (s.head_tokens thing (held thing) spot first condition after) _ (o thing))
        (scope_of (statement_marks body) ms.3) fs.3 in
        record {
          shaped = (option_fits (is_group who) outer at.runs first v1, option_fits (is_group who) outer at.runs condition v2, option_fits (is_group who) outer at.runs after v3, s'.shaped);
          in_place = (
            splits_in_group (is_group who) outer at.runs spot w.Loop a.0,
            option_in_place (is_group who) outer at.runs first v1,
            option_in_place (is_group who) outer at.runs condition v2,
            option_in_place (is_group who) outer at.runs after v3,
            s'.in_place,
          );
          noted = λ e. (
            decides (is_group who) outer at.runs e spot w.Loop mis.loop_decides a.0,
            option_noted (is_group who) outer at.runs first v1 e,
            option_noted (is_group who) outer at.runs condition v2 e,
            option_noted (is_group who) outer at.runs after v3 e,
            s'.noted (inner_group who ∙ e),
          );
        }
    statement_good result who main x outer held at (p.Start spot count body) a o b' f =
        let ts = r.statement_tokens ◌∷◌ (g.Start ∷ outer) body in
        let ms = n.scope (statement_marks body) in
        let v = used_or (is_group who) outer at.runs role.Word count (front_of Right (r.optional_tokens outer count) ts a.1) (front_of Stands (optional_marks count) ms b')
        (front_of Fine (optional_pieces role.Word count) (statement_pieces result body) f) in
        let s' = statement_good result OfGroup main none (g.Start ∷ outer) (λ thing. h.Body Synchronous ∷ held thing) in_group_body body
        (rest_of Right (r.optional_tokens outer count) ts a.1) (λ thing. rest_of (Mine thing) (s.optional_tokens thing (held thing) count) _ (o thing))
        (scope_of (statement_marks body) (rest_of Stands (optional_marks count) ms b')) (rest_of Fine (optional_pieces role.Word count) (statement_pieces result body) f) in
        record {
          shaped = (option_fits (is_group who) outer at.runs count v, s'.shaped);
          in_place = (
            at.outermost (true_from_ne_false (is_in_main outer) (λ e. a.0.unbroken rules.StartNotInMain (inl (mis.start_elsewhere e)))),
            option_in_place (is_group who) outer at.runs count v,
            s'.in_place,
            s'.noted refl,
          );
          noted = λ e. (option_noted (is_group who) outer at.runs count v e, s'.noted refl);
        }
    statement_good result who main x outer held at (p.Farm spot body) a o b' f =
        let s' = statement_good result OfBody main none (g.Farm ∷ outer) (λ thing. h.Body Asynchronous ∷ held thing) (in_own_body g.Farm refl refl refl refl) body a.1 o (scope_of (statement_marks body) b') f in
        record {
          shaped = s'.shaped;
          in_place = (true_from_ne_false (is_group who) (λ e. a.0.unbroken rules.FarmOutside (inl (mis.farm_outside (at.runs.alone e)))), s'.in_place);
          noted = λ e. tt;
        }
    statement_good result who main x outer held at (p.Seq spot body) a o b' f =
        let s' = statement_good result OfBody main none (g.Seq ∷ outer) (λ thing. h.Body Asynchronous ∷ held thing) (in_own_body g.Seq refl refl refl refl) body a.1 o (scope_of (statement_marks body) b') f in
        record {
          shaped = s'.shaped;
          in_place = (true_from_ne_false (is_group who) (λ e. a.0.unbroken rules.SeqOutside (inl (mis.seq_outside (at.runs.alone e)))), s'.in_place);
          noted = λ e. tt;
        }
    statement_good result who main x outer held at (p.Fork spot parts part rank body) a o b' f =
        let rs = four_of Right (r.tree_tokens outer parts) (r.tree_tokens outer part) (r.optional_tokens outer rank) (r.statement_tokens ◌∷◌ (g.Fork ∷ outer) body) a.1 in
        let ms = four_of Stands (tree_marks parts) (tree_marks part) (optional_marks rank) (n.scope (statement_marks body)) b' in
        let fs = two_of Fine (optional_pieces role.Word rank) (statement_pieces result body) f.1.1 in
        let v1 = used (is_group who) outer at.runs role.Word parts rs.0 ms.0 f.0 in
        let v2 = used (is_group who) outer at.runs role.Word part rs.1 ms.1 f.1.0 in
        let v3 = used_or (is_group who) outer at.runs role.Word rank rs.2 ms.2 fs.0 in
        let s' = statement_good result OfGroup main none (g.Fork ∷ outer) (λ thing. h.Body Synchronous ∷ held thing) in_fork_body body rs.3
        (λ thing. rest_of (Mine thing) (s.parts_tokens thing (held thing) parts part rank) _ (o thing))
        (scope_of (statement_marks body) ms.3) fs.1 in
        record {
          shaped = (v1.fits, v2.fits, option_fits (is_group who) outer at.runs rank v3, s'.shaped);
          in_place = (
            true_from_ne_false (is_group who) (λ e. a.0.unbroken rules.ForkOutside (inl (mis.fork_outside (at.runs.alone e)))),
            v1.in_place,
            v2.in_place,
            option_in_place (is_group who) outer at.runs rank v3,
            s'.in_place,
          );
          noted = λ e. (v1.noted e, v2.noted e, option_noted (is_group who) outer at.runs rank v3 e, s'.noted refl);
        }
    statement_good result who main x outer held at (p.Barrier spot) a o b' f = record {
      shaped = tt;
      in_place = false_from_ne_true (is_group who) (λ e. elim (at.runs.group e) [
        | inl sync ↦ a.0.unbroken rules.BarrierInside (inl (mis.barrier_inside sync))
        | inr straight ↦ a.0.unbroken rules.NotStraight (inr (refl, straight, mis.barrier_waits))
      ]);
      noted = λ e. tt;
    }
    statement_good result who main x outer held at (p.Break spot) a o b' f = record {
      shaped = true_from_ne_false x.breaks (λ e.
          let k = at.breaks (inside (loops outer) (λ is. a.0.unbroken rules.NoLoop (inl (mis.break_outside is))) (λ is. a.0.unbroken rules.LoopLeavesBody (inl (mis.break_leaves is)))) e in
          (o k.0).0.unbroken k.1 rules.BreakFromSplit (sb.break_leaves k.2));
      in_place = tt;
      noted = λ e. tt;
    }
    statement_good result who main x outer held at (p.Continue spot) a o b' f = record {
      shaped = true_from_ne_false x.continues (λ e.
          let k = at.continues (inside (loops outer) (λ is. a.0.unbroken rules.NoLoop (inl (mis.continue_outside is))) (λ is. a.0.unbroken rules.LoopLeavesBody (inl (mis.continue_leaves is)))) e in
          (o k.0).0.unbroken k.1 rules.ContinueFromSplit (sb.continue_leaves k.2));
      in_place = tt;
      noted = λ e. tt;
    }
    statement_good result who main x outer held at (p.Return spot value) a o b' f =
        let v = returned (is_group who) outer at.runs result spot value a.1 b' f.0 in
        let free = false_from_ne_true (is_in_body outer) (λ e. a.0.unbroken rules.ReturnFromBody (inl (mis.return_inside e))) in
        record {
          shaped = (
            true_from_ne_false x.returns (λ e.
                let k = at.returns free e in
                (rest_of (Mine k.0) (s.optional_tokens k.0 (held k.0) value) (s.bare (held k.0) spot sw.Return ∷ []) (o k.0)).0.unbroken k.1 rules.ReturnFromSplit (sb.return_leaves k.2)),
            option_fits (is_group who) outer at.runs value v,
          );
          in_place = (at.function free, option_in_place (is_group who) outer at.runs value v);
          noted = λ e. option_noted (is_group who) outer at.runs value v e;
        }

    pub statements_good : (result : TypeTree) (who : Who) (main : Bool) (x : Exits) (outer : List gh.Holder) (held : (ℕ → Option Thing) → List hh.Holder) → Where who main x outer held
        → (st : Statements) → Each Right (r.statements_tokens ◌∷◌ outer st) → ((thing : ℕ → Option Thing) → Each (Mine thing) (s.statements_tokens thing ◌∷◌ (held thing) st))
        → Each Stands (statements_marks st) → Each Fine (statements_pieces result st) → AreGoodStatements who main x st
    statements_good result who main x outer held at p.no_statements a o b' f = record { shaped = tt; in_place = tt; noted = λ e. tt }
    statements_good result who main x outer held at (p.statement first others) a o b' f =
        let ts = r.statement_tokens ◌∷◌ outer first in
        let us = r.statements_tokens ◌∷◌ outer others in
        let s' = statement_good result who main x outer held at first (front_of Right ts us a)
        (λ thing. front_of (Mine thing) (s.statement_tokens thing ◌∷◌ (held thing) first) (s.statements_tokens thing ◌∷◌ (held thing) others) (o thing))
        (front_of Stands (statement_marks first) (statements_marks others) b') (front_of Fine (statement_pieces result first) (statements_pieces result others) f) in
        let t' = statements_good result who main x outer held at others (rest_of Right ts us a)
        (λ thing. rest_of (Mine thing) (s.statement_tokens thing ◌∷◌ (held thing) first) (s.statements_tokens thing ◌∷◌ (held thing) others) (o thing))
        (rest_of Stands (statement_marks first) (statements_marks others) b') (rest_of Fine (statement_pieces result first) (statements_pieces result others) f) in
        record { shaped = (s'.shaped, t'.shaped); in_place = (s'.in_place, t'.in_place); noted = λ e. (s'.noted e, t'.noted e) }
