-- A text that begins with the lock has its functions first.
use Rattle.std.proofs.Common.{◌≡◌, ◌⊎◌, inl, inr, ℕ, suc, ◌<◌, Bool, true, false, List, [], ◌∷◌, ◌++◌, Option, Some, None, slice_get, length, refl, sym, ap, subst, ◌∙◌, arith, length-append, if◌then◌else◌}
use Rattle.std.specs.Prelude.{IsSome}
use Rattle.std.proofs.lemmas.Bool.{false≢true, false_from_ne_true}
use Rattle.fk_syntax.specs.declared.facts.Facts.{Facts}
use Rattle.fk_syntax.specs.declared.place.Place.{Place}
use Rattle.fk_syntax.specs.declared.program.Mode.TheVariants.{Async}
use Rattle.fk_syntax.specs.Program.{Statements, FunctionTree, ItemTree, ProgramTree, StructItem, VariablesItem, FunctionItem}
use Rattle.fk_lex.specs.Reading.{Spelled, Tokens}
use Rattle.fk_parse.specs.Parses.{SpellsProgram}
use Rattle.fk_parse_laws.specs.Order.{Ascend, frame_tokens}
use Rattle.fk_parse_laws.proofs.FramesInPrograms.{all_ascend}
use Rattle.fk_meaning_forms.specs.Expressions.{framed}
use Rattle.fk_meaning_forms.specs.Code.{done}
use Rattle.fk_meaning_forms.specs.Tables.{Tables, note, kind_at}
use Rattle.fk_meaning_forms.specs.Program.{binding_of, functions_of, with_body, is_main, main_in, main_of, signature_in}
use Rattle.fk_types_names.specs.Outline.{DeclarationTree, Variable, Header, declarations}
use Rattle.fk_types_operators.specs.declared.values.Value.TheVariants.{Unsigned}
use Rattle.fk_types_operators.specs.declared.values.ExpressionType.TheVariants.{Stored, Computed}
use Rattle.fk_regions.specs.declared.around.Holder.TheVariants as h
use Rattle.fk_regions.specs.declared.around.Region.TheVariants.{Synchronous, Asynchronous}
use Rattle.fk_regions.specs.declared.token.Word.TheVariants as w
use Rattle.fk_regions.specs.Tokens as r
use Rattle.fk_layout.specs.Layout.{tables_by}
use Rattle.fk_check_laws.specs.Correct.{IsCorrect}
use Rattle.fk_check_laws.proofs.Each.{Each, one_of}
use Rattle.fk_check_laws.proofs.Declared.{function_number}
use Rattle.fk_check_laws.proofs.Main.{there_is_main}
use Rattle.fk_check_laws.proofs.Notes.{Theirs}
use Rattle.fk_check_laws.proofs.PlacedNotes.{IsRight, all_right}
use Rattle.fk_lower_names.proofs.NotedTypes.{kind_is}
use Rattle.fk_locks_calls.specs.Code.{HasLock}
use Rattle.fk_locks_tokens.specs.Text.{lock_bytes}
use Rattle.fk_locks_tokens.specs.Tokens.{lock_tokens}
use Rattle.fk_locks_tokens.proofs.Scanned.{lock_tokens_first}
use Rattle.fk_locks_tree.specs.Items.{spot_at, lock_struct, lock_take, lock_give}
use Rattle.fk_locks_tree.proofs.Items.{lock_items_first}
use Rattle.fk_locks_text.specs.Texts.{TextsHaveLocks}
use Rattle.fk_locks_text.proofs.Known as known
use Rattle.fk_locks_text.proofs.Known.{lock_program, word}
use Rattle.fk_locks_text.proofs.Slots.{take_parameter_slot, ticket_slot, give_parameter_slot, take_unframed, give_unframed}
use Rattle.fk_locks_text.proofs.Codes.{take_is, give_is}

-- ---- the header of `main` among items

module _ (T : Tables) where
  record IsMainAt (xs : List ItemTree) (number : ℕ) : Type 0 where
    index : ℕ
    main : FunctionTree
    there : slice_get xs index ≡ Some (FunctionItem main)
    some : IsSome main.body
    named : is_main main ≡ true
    numbered : number ≡ binding_of T main

  abbrev NoMain : List ItemTree → Type 0
  NoMain xs = Each (λ f. is_main f ≡ false) (functions_of xs)

  behind : (x : ItemTree) (xs : List ItemTree) (number : ℕ) → IsMainAt xs number → IsMainAt (x ∷ xs) number
  behind x xs number m = record { index = suc m.index; main = m.main; there = m.there; some = m.some; named = m.named; numbered = m.numbered }

  abbrev Finds : List ItemTree → Type 0
  Finds xs = NoMain xs ⊎ IsMainAt xs (main_in T (functions_of xs))

  find_main : (xs : List ItemTree) → Finds xs
  find_main [] = inl tt
  find_main (StructItem name members ∷ xs) = elim (find_main xs) [ inl none ↦ inl none | inr m ↦ inr (behind (StructItem name members) xs (main_in T (functions_of xs)) m) ]
  find_main (VariablesItem variables ∷ xs) = elim (find_main xs) [ inl none ↦ inl none | inr m ↦ inr (behind (VariablesItem variables) xs (main_in T (functions_of xs)) m) ]
  find_main (FunctionItem f ∷ xs) = by f.body refl (find_main xs) (is_main f) refl
    where
      by : (body : Option Statements) → f.body ≡ body → Finds xs → (main : Bool) → is_main f ≡ main
          → Each (λ g. is_main g ≡ false) (with_body f body (functions_of xs)) ⊎ IsMainAt (FunctionItem f ∷ xs) (main_in T (with_body f body (functions_of xs)))
      by None has (inl none) main is = inl none
      by None has (inr m) main is = inr (behind (FunctionItem f) xs (main_in T (functions_of xs)) m)
      by (Some body) has (inl none) false is = inl (is, none)
      by (Some body) has (inr m) false is =
          inr (subst (IsMainAt (FunctionItem f ∷ xs)) (sym (ap (λ b. if b then binding_of T f else main_in T (functions_of xs)) is)) (behind (FunctionItem f) xs (main_in T (functions_of xs)) m))
      by (Some body) has found true is = inr (record {
        index = 0;
        main = f;
        there = refl;
        some = subst IsSome (sym has) refl;
        named = is;
        numbered = ap (λ b. if b then binding_of T f else main_in T (functions_of xs)) is;
      })

abbrev is_main_header : Option DeclarationTree → Bool
is_main_header None = false
is_main_header (Some (Variable x)) = false
is_main_header (Some (Header f)) = is_main f

no_region : Asynchronous ≡ Synchronous → ⊥
no_region same = cc

module _ (others : List ItemTree) (end : Place) (count : ℕ) (facts : Facts) (valid : IsCorrect (lock_program others end count) facts) (low : 63 < count)
    (ascend : Ascend (0 ∷ frame_tokens (lock_program others end count).items)) where
  abbrev program : ProgramTree
  program = lock_program others end count

  abbrev T : Tables
  T = tables_by program facts

  abbrev all : List FunctionTree
  all = functions_of program.items

  -- the loop isn't in a group
  abbrev loop_token : Theirs program facts valid
  loop_token = record { around = h.Function Async ∷ []; spot = spot_at 34 2 74; word = w.Loop }

  loop_right : IsRight program facts valid loop_token
  loop_right = one_of (IsRight program facts valid) (r.tokens program) (all_right program facts valid) 8 loop_token refl

  unsplit : (note T 34).splits ≡ false
  unsplit = false_from_ne_true (note T 34).splits (λ is. no_region (loop_right.alone is))

  unsynchronous : (note T 34).sync ≡ false
  unsynchronous = false_from_ne_true (note T 34).sync (λ is. no_region (loop_right.agrees is))

  test_kind : kind_at T 37 ≡ record { words = 1; unsigned = true; array = false; step = 0 }
  test_kind = kind_is program facts valid 37 (Stored word) (known.test_typed others end count facts valid low)

  give_kind : kind_at T 54 ≡ record { words = 1; unsigned = true; array = false; step = 0 }
  give_kind = kind_is program facts valid 54 (Computed Unsigned) (known.give_typed others end count facts valid low)

  take_number : binding_of T lock_take ≡ 0
  take_number = known.take_bound others end count facts valid low

  give_number : binding_of T lock_give ≡ 3
  give_number = known.give_bound others end count facts valid low

  -- `main` is another function
  main_header : is_main_header (slice_get (declarations program) (main_of T program)) ≡ true
  main_header = elim (find_main T program.items) [
    | inl none ↦ absurd (there_is_main program facts valid none)
    | inr m ↦ ap (λ number. is_main_header (slice_get (declarations program) number)) m.numbered
        ∙ ap is_main_header (function_number program facts valid m.index m.main m.there m.some) ∙ m.named
  ]

  other_main : (number : ℕ) → is_main_header (slice_get (declarations program) number) ≡ false → main_of T program ≡ number → ⊥
  other_main number other same = false≢true (sym other ∙ ap (λ k. is_main_header (slice_get (declarations program) k)) (sym same) ∙ main_header)

  apart : binding_of T lock_take ≡ binding_of T lock_give → ⊥
  apart same = let zero_three : 0 ≡ 3 = sym take_number ∙ same ∙ give_number in omega (arith, zero_three)

  has_lock : HasLock T program
  has_lock = record {
    takes = lock_take;
    gives = lock_give;
    others = functions_of others;
    are = refl;
    take_name = refl;
    give_name = refl;
    take_code = take_is T all (known.take_mpadd_bound others end count facts valid low) (known.take_l_bound others end count facts valid low) (known.take_next_bound others end count facts valid low)
        (known.ticket_bound others end count facts valid low) (known.test_l_bound others end count facts valid low) (known.test_now_bound others end count facts valid low) (known.test_t_bound others end count facts valid low)
        (take_parameter_slot others end count facts) (ticket_slot others end count facts) test_kind unsplit unsynchronous (take_unframed others end count facts ascend);
    give_code = give_is T all (known.give_mpadd_bound others end count facts valid low) (known.give_l_bound others end count facts valid low) (known.give_now_bound others end count facts valid low)
        (give_parameter_slot others end count facts) give_kind (give_unframed others end count facts ascend);
    take_called = record { one = refl; opens = λ place. ap (λ frame. framed T (signature_in T all) frame place done) (take_unframed others end count facts ascend) };
    give_called = record { one = refl; opens = λ place. ap (λ frame. framed T (signature_in T all) frame place done) (give_unframed others end count facts ascend) };
    apart = apart;
    main_is_not_take = λ same. other_main 0 refl (same ∙ take_number);
    main_is_not_give = λ same. other_main 3 refl (same ∙ give_number);
  }

-- ---- texts

abbrev HasLockFor : Facts → ProgramTree → Type 0
HasLockFor facts program = HasLock (tables_by program facts) program

program_is : (program : ProgramTree) (others : List ItemTree) → program.items ≡ lock_struct ∷ FunctionItem lock_take ∷ FunctionItem lock_give ∷ others → program ≡ lock_program others program.end program.tokens
program_is program others are = ap (λ items. record { items = items; end = program.end; tokens = program.tokens }) are

by_program : (facts : Facts) (program : ProgramTree) (others : List ItemTree) → IsCorrect program facts → Ascend (0 ∷ frame_tokens program.items) → 63 < program.tokens
    → program ≡ lock_program others program.end program.tokens → HasLockFor facts program
by_program facts program others valid ascend low is =
    subst (HasLockFor facts) (sym is)
    (has_lock others program.end program.tokens facts (subst (λ p. IsCorrect p facts) is valid) low (subst (λ (p : ProgramTree). Ascend (0 ∷ frame_tokens p.items)) is ascend))

enough : (program : ProgramTree) (tokens more : List Spelled) → program.tokens ≡ length tokens → tokens ≡ lock_tokens ++ more → 63 < program.tokens
enough program tokens more count is = let long : length tokens ≡ length (lock_tokens ++ more) = ap length is in let sum = length-append lock_tokens more in let first : length lock_tokens ≡ 64 = refl in omega (arith, count, long, sum, first)

pub texts_have_locks : TextsHaveLocks
texts_have_locks source user program facts is parsed valid =
    let spelled : Tokens (lock_bytes ++ user) parsed.tokens = subst (λ text. Tokens text parsed.tokens) is parsed.spelled in
    let first = lock_tokens_first user parsed.tokens spelled in
    let derived : SpellsProgram (lock_tokens ++ first.0) program = subst (λ tokens. SpellsProgram tokens program) first.1 parsed.derived in
    let items = lock_items_first first.0 program derived in
    by_program facts program items.0 valid (all_ascend parsed.tokens program parsed.derived) (enough program parsed.tokens first.0 parsed.derived.count first.1) (program_is program items.0 items.1)
