-- A command line is taken by `clap`, with the values that a command asks for, exactly where its words are that command.
use Rattle.std.proofs.Common.{◌≡◌, ℕ, ◌≤◌, Bool, true, false, List, [], ◌∷◌, length, map, Option, Some, None, codes, refl, sym, ap, ◌∙◌, subst, arith, inl, inr, String, Global, string_bytes}
use Rattle.std.specs.Prelude.{option_and_then, slice_get}
use Rattle.std.specs.Str.{bytes_eq}
use Rattle.std.proofs.lemmas.Slice.Eq.{bytes_eq-Decides}
use Rattle.fk_num.specs.Numeral.{read_word}
use Rattle.clap.specs.Walk.{Row, first_of}
use Rattle.clap.specs.Faults.{fault_of, is_simple_and_free}
use Rattle.clap.specs.Kinds.{HasKind}
use Rattle.clap.specs.Values.{kind_of}
use Rattle.clap.specs.declared.error.Error.{Error}
use Rattle.clap.specs.declared.error.kind.ErrorKind.TheVariants.{OutOfMemory}
use Rattle.std.proofs.lemmas.Str.{IsUtf8-string_bytes}
use Rattle.clap.specs.Simple.{App, is_simple, subcommand_of}
use Rattle.fk_top_words.specs.Arguments.{Text, Part, File, Harts, Cycles, Show, Image, Argument, Values, Gives, Spells, all_values, values_of}
use Rattle.fk_top_words.specs.Asked.{AsksFor, AsksOf, RunsBy, StatementsBy, number_of}
use Rattle.fk_top_words.specs.Command.{Command, Run, Build, Exec, ListCode, Elf, Unelf, Audit, Trace, Replay, Selftest, Locks, Reads, ReadsStatements, ReadsRun, ReadsBehind, once_or_never, only_file, only_files, two_files}
use Rattle.fk_top_words.specs.Written.{id_of, run_parts, put_parts, exec_parts, list_parts, written_app}
use Rattle.fk_top_words.proofs.Rules.{IsCommand, exec_command, is_in, list_command, put_command, replay, run_command}
use Rattle.fk_top_words.proofs.Given.{IsOnce, at, first-rows, given, lacks, no_values, rows, some_values}
use Rattle.fk_top_words.proofs.Taken.{Adds, AreIn, AreTexts, rows_at_end, sound}
use Rattle.fk_top_words.proofs.Spelled.{gets}
use Rattle.fk_top_words.proofs.Bare.{Bare, bare_fine, gives_none, spelled_bare, taken_bare}
use Rattle.fk_top_words.proofs.Files.{AreTwo, both, gets_two, gives_files, none, shape_rows, spelled_files, took_two}
use Rattle.fk_top_words.proofs.Lines.{Behind, Named, is_run, is_build, is_exec, is_list, is_elf, is_unelf, is_audit, is_trace, is_replay, is_selftest, is_locks, other, named, behind_run, behind_build, behind_exec, behind_list, behind_elf, behind_unelf, behind_audit, behind_trace, behind_replay, behind_selftest, behind_locks, no_words, other_word}

pub differ : (a b : Text) → bytes_eq a b ≡ false → a ≡ b → ⊥
differ a b e same = let t = (bytes_eq-Decides a b).1 same in let bad : true ≡ false = sym t ∙ e in cc

-- a list of at most one value
listed : (xs : List Text) (o : Option Text) → slice_get xs 0 ≡ o → length xs ≤ 1 → xs ≡ once_or_never o
listed [] o e few = ap once_or_never e
listed (x ∷ []) o e few = ap once_or_never e
listed (x ∷ y ∷ ys) o e few = absurd (omega arith)

-- ---- words that are taken

-- the values of one part, by the rows at the end
value-is : (ps : List Part) (words : List Text) (end : List Row) (adds : Adds ps [] false words end) (p : Part) (o : Option Text)
    → first_of (id_of p) end ≡ o → values_of p adds.arguments ≡ once_or_never o
value-is ps words end adds p o e =
    listed (values_of p adds.arguments) o (sym (first-rows p adds.arguments) ∙ ap (first_of (id_of p)) (sym adds.rows_are) ∙ e) (adds.once p)

outside-is : (ps : List Part) (words : List Text) (end : List Row) (adds : Adds ps [] false words end) (p : Part) → is_in p ps ≡ false → values_of p adds.arguments ≡ []
outside-is ps words end adds p outside = no_values p adds.arguments (adds.within p outside)

-- the text of a number that is found
record ReadText (id : Text) (end : List Row) (n : ℕ) : Type 0 where
  text : Text
  found : first_of id end ≡ Some text
  number : read_word text ≡ Some n

read_text : (id : Text) (end : List Row) (n : ℕ) → number_of id end ≡ Some n → ReadText id end n
read_text id end n e = by (first_of id end) refl
  where
    by : (o : Option Text) → first_of id end ≡ o → ReadText id end n
    by None f = let bad : None ≡ Some n = sym (ap (option_and_then read_word) f) ∙ e in cc
    by (Some text) f = record { text = text; found = f; number = sym (ap (option_and_then read_word) f) ∙ e }

reads_run : (words : List Text) (end : List Row) (adds : Adds run_parts [] false words end) (file : Text) (harts cycles : ℕ) (show : Option Text)
    → first_of (codes "file") end ≡ Some file → RunsBy end harts cycles → first_of (codes "show") end ≡ show → ReadsRun words file harts cycles show
reads_run words end adds file harts cycles show file_is asks shows =
    let f = value-is run_parts words end adds File (Some file) file_is in
    let ht = read_text (codes "harts") end harts asks.harts_are in
    let ct = read_text (codes "cycles") end cycles asks.cycles_are in
    let h = value-is run_parts words end adds Harts (Some ht.text) ht.found in
    let c = value-is run_parts words end adds Cycles (Some ct.text) ct.found in
    let s = value-is run_parts words end adds Show show shows in
    let i = outside-is run_parts words end adds Image refl in
    record {
      harts_text = ht.text;
      cycles_text = ct.text;
      given = record { arguments = adds.arguments; spelled = adds.spelled; values_are = rw (f, h, c, s, i) refl };
      harts_are = ht.number;
      cycles_are = ct.number;
      some_harts = asks.some_harts;
      few_harts = asks.few_harts;
    }

reads_exec : (words : List Text) (end : List Row) (adds : Adds exec_parts [] false words end) (file : Text) (harts cycles : ℕ)
    → first_of (codes "file") end ≡ Some file → RunsBy end harts cycles → ReadsRun words file harts cycles None
reads_exec words end adds file harts cycles file_is asks =
    let f = value-is exec_parts words end adds File (Some file) file_is in
    let ht = read_text (codes "harts") end harts asks.harts_are in
    let ct = read_text (codes "cycles") end cycles asks.cycles_are in
    let h = value-is exec_parts words end adds Harts (Some ht.text) ht.found in
    let c = value-is exec_parts words end adds Cycles (Some ct.text) ct.found in
    let s = outside-is exec_parts words end adds Show refl in
    let i = outside-is exec_parts words end adds Image refl in
    record {
      harts_text = ht.text;
      cycles_text = ct.text;
      given = record { arguments = adds.arguments; spelled = adds.spelled; values_are = rw (f, h, c, s, i) refl };
      harts_are = ht.number;
      cycles_are = ct.number;
      some_harts = asks.some_harts;
      few_harts = asks.few_harts;
    }

reads_put : (words : List Text) (end : List Row) (adds : Adds put_parts [] false words end) (file image : Text)
    → first_of (codes "file") end ≡ Some file → first_of (codes "image") end ≡ Some image → Gives words (two_files file image)
reads_put words end adds file image file_is image_is =
    let f = value-is put_parts words end adds File (Some file) file_is in
    let h = outside-is put_parts words end adds Harts refl in
    let c = outside-is put_parts words end adds Cycles refl in
    let s = outside-is put_parts words end adds Show refl in
    let i = value-is put_parts words end adds Image (Some image) image_is in
    record { arguments = adds.arguments; spelled = adds.spelled; values_are = rw (f, h, c, s, i) refl }

reads_list : (words : List Text) (end : List Row) (adds : Adds list_parts [] false words end) (image : Text)
    → first_of (codes "file") end ≡ Some image → Gives words (only_file image)
reads_list words end adds image file_is =
    let f = value-is list_parts words end adds File (Some image) file_is in
    let h = outside-is list_parts words end adds Harts refl in
    let c = outside-is list_parts words end adds Cycles refl in
    let s = outside-is list_parts words end adds Show refl in
    let i = outside-is list_parts words end adds Image refl in
    record { arguments = adds.arguments; spelled = adds.spelled; values_are = rw (f, h, c, s, i) refl }

reads_selftest : (words : List Text) (end : List Row) (adds : Adds list_parts [] false words end) (statements : ℕ) → StatementsBy end statements → ReadsStatements words statements
reads_selftest words end adds statements asks =
    let t = read_text (codes "file") end statements asks.statements_are in
    record {
      text = t.text;
      given = reads_list words end adds t.text t.found;
      statements_are = t.number;
      some = asks.some;
      few = asks.few;
    }

-- what is taken: the name of a command and its values, and each command that they ask for is that of the words
pub record IsTaken (words : List Text) : Type 0 where
  pub name : Text
  pub found : List Row
  pub matches : subcommand_of written_app words ≡ Some (name, found)
  pub reads : (command : Command) → AsksFor name found command → Reads words command

nothing_twice : IsOnce []
nothing_twice p = omega arith

asked_run : (words : List Text) (end : List Row) → Adds run_parts [] false words end → (command : Command) → AsksFor (codes "run") end command → ReadsBehind (codes "run") words command
asked_run words end adds (Run file harts cycles show) asks = (refl, reads_run words end adds file harts cycles show asks.1 asks.2 asks.3)
asked_run words end adds (Build file image) asks = absurd (differ (codes "run") (codes "build") refl asks.0)
asked_run words end adds (Exec image harts cycles) asks = absurd (differ (codes "run") (codes "exec") refl asks.0)
asked_run words end adds (ListCode image) asks = absurd (differ (codes "run") (codes "list") refl asks.0)
asked_run words end adds (Elf image file) asks = absurd (differ (codes "run") (codes "elf") refl asks.0)
asked_run words end adds (Unelf file image) asks = absurd (differ (codes "run") (codes "unelf") refl asks.0)
asked_run words end adds (Audit file harts cycles) asks = absurd (differ (codes "run") (codes "audit") refl asks.0)
asked_run words end adds (Trace file harts cycles) asks = absurd (differ (codes "run") (codes "trace") refl asks.0)
asked_run words end adds (Replay file trace) asks = absurd (differ (codes "run") (codes "replay") refl asks.0)
asked_run words end adds (Selftest statements) asks = absurd (differ (codes "run") (codes "selftest") refl asks.0)
asked_run words end adds Locks asks = absurd (differ (codes "run") (codes "locks") refl asks)

asked_build : (words : List Text) (end : List Row) → Adds put_parts [] false words end → (command : Command) → AsksFor (codes "build") end command → ReadsBehind (codes "build") words command
asked_build words end adds (Run file harts cycles show) asks = absurd (differ (codes "build") (codes "run") refl asks.0)
asked_build words end adds (Build file image) asks = (refl, reads_put words end adds file image asks.1 asks.2)
asked_build words end adds (Exec image harts cycles) asks = absurd (differ (codes "build") (codes "exec") refl asks.0)
asked_build words end adds (ListCode image) asks = absurd (differ (codes "build") (codes "list") refl asks.0)
asked_build words end adds (Elf image file) asks = absurd (differ (codes "build") (codes "elf") refl asks.0)
asked_build words end adds (Unelf file image) asks = absurd (differ (codes "build") (codes "unelf") refl asks.0)
asked_build words end adds (Audit file harts cycles) asks = absurd (differ (codes "build") (codes "audit") refl asks.0)
asked_build words end adds (Trace file harts cycles) asks = absurd (differ (codes "build") (codes "trace") refl asks.0)
asked_build words end adds (Replay file trace) asks = absurd (differ (codes "build") (codes "replay") refl asks.0)
asked_build words end adds (Selftest statements) asks = absurd (differ (codes "build") (codes "selftest") refl asks.0)
asked_build words end adds Locks asks = absurd (differ (codes "build") (codes "locks") refl asks)

asked_exec : (words : List Text) (end : List Row) → Adds exec_parts [] false words end → (command : Command) → AsksFor (codes "exec") end command → ReadsBehind (codes "exec") words command
asked_exec words end adds (Run file harts cycles show) asks = absurd (differ (codes "exec") (codes "run") refl asks.0)
asked_exec words end adds (Build file image) asks = absurd (differ (codes "exec") (codes "build") refl asks.0)
asked_exec words end adds (Exec image harts cycles) asks = (refl, reads_exec words end adds image harts cycles asks.1 asks.2)
asked_exec words end adds (ListCode image) asks = absurd (differ (codes "exec") (codes "list") refl asks.0)
asked_exec words end adds (Elf image file) asks = absurd (differ (codes "exec") (codes "elf") refl asks.0)
asked_exec words end adds (Unelf file image) asks = absurd (differ (codes "exec") (codes "unelf") refl asks.0)
asked_exec words end adds (Audit file harts cycles) asks = absurd (differ (codes "exec") (codes "audit") refl asks.0)
asked_exec words end adds (Trace file harts cycles) asks = absurd (differ (codes "exec") (codes "trace") refl asks.0)
asked_exec words end adds (Replay file trace) asks = absurd (differ (codes "exec") (codes "replay") refl asks.0)
asked_exec words end adds (Selftest statements) asks = absurd (differ (codes "exec") (codes "selftest") refl asks.0)
asked_exec words end adds Locks asks = absurd (differ (codes "exec") (codes "locks") refl asks)

asked_list : (words : List Text) (end : List Row) → Adds list_parts [] false words end → (command : Command) → AsksFor (codes "list") end command → ReadsBehind (codes "list") words command
asked_list words end adds (Run file harts cycles show) asks = absurd (differ (codes "list") (codes "run") refl asks.0)
asked_list words end adds (Build file image) asks = absurd (differ (codes "list") (codes "build") refl asks.0)
asked_list words end adds (Exec image harts cycles) asks = absurd (differ (codes "list") (codes "exec") refl asks.0)
asked_list words end adds (ListCode image) asks = (refl, reads_list words end adds image asks.1)
asked_list words end adds (Elf image file) asks = absurd (differ (codes "list") (codes "elf") refl asks.0)
asked_list words end adds (Unelf file image) asks = absurd (differ (codes "list") (codes "unelf") refl asks.0)
asked_list words end adds (Audit file harts cycles) asks = absurd (differ (codes "list") (codes "audit") refl asks.0)
asked_list words end adds (Trace file harts cycles) asks = absurd (differ (codes "list") (codes "trace") refl asks.0)
asked_list words end adds (Replay file trace) asks = absurd (differ (codes "list") (codes "replay") refl asks.0)
asked_list words end adds (Selftest statements) asks = absurd (differ (codes "list") (codes "selftest") refl asks.0)
asked_list words end adds Locks asks = absurd (differ (codes "list") (codes "locks") refl asks)

asked_elf : (words : List Text) (end : List Row) → Adds put_parts [] false words end → (command : Command) → AsksFor (codes "elf") end command → ReadsBehind (codes "elf") words command
asked_elf words end adds (Run file harts cycles show) asks = absurd (differ (codes "elf") (codes "run") refl asks.0)
asked_elf words end adds (Build file image) asks = absurd (differ (codes "elf") (codes "build") refl asks.0)
asked_elf words end adds (Exec image harts cycles) asks = absurd (differ (codes "elf") (codes "exec") refl asks.0)
asked_elf words end adds (ListCode image) asks = absurd (differ (codes "elf") (codes "list") refl asks.0)
asked_elf words end adds (Elf image file) asks = (refl, reads_put words end adds image file asks.1 asks.2)
asked_elf words end adds (Unelf file image) asks = absurd (differ (codes "elf") (codes "unelf") refl asks.0)
asked_elf words end adds (Audit file harts cycles) asks = absurd (differ (codes "elf") (codes "audit") refl asks.0)
asked_elf words end adds (Trace file harts cycles) asks = absurd (differ (codes "elf") (codes "trace") refl asks.0)
asked_elf words end adds (Replay file trace) asks = absurd (differ (codes "elf") (codes "replay") refl asks.0)
asked_elf words end adds (Selftest statements) asks = absurd (differ (codes "elf") (codes "selftest") refl asks.0)
asked_elf words end adds Locks asks = absurd (differ (codes "elf") (codes "locks") refl asks)

asked_unelf : (words : List Text) (end : List Row) → Adds put_parts [] false words end → (command : Command) → AsksFor (codes "unelf") end command → ReadsBehind (codes "unelf") words command
asked_unelf words end adds (Run file harts cycles show) asks = absurd (differ (codes "unelf") (codes "run") refl asks.0)
asked_unelf words end adds (Build file image) asks = absurd (differ (codes "unelf") (codes "build") refl asks.0)
asked_unelf words end adds (Exec image harts cycles) asks = absurd (differ (codes "unelf") (codes "exec") refl asks.0)
asked_unelf words end adds (ListCode image) asks = absurd (differ (codes "unelf") (codes "list") refl asks.0)
asked_unelf words end adds (Elf image file) asks = absurd (differ (codes "unelf") (codes "elf") refl asks.0)
asked_unelf words end adds (Unelf file image) asks = (refl, reads_put words end adds file image asks.1 asks.2)
asked_unelf words end adds (Audit file harts cycles) asks = absurd (differ (codes "unelf") (codes "audit") refl asks.0)
asked_unelf words end adds (Trace file harts cycles) asks = absurd (differ (codes "unelf") (codes "trace") refl asks.0)
asked_unelf words end adds (Replay file trace) asks = absurd (differ (codes "unelf") (codes "replay") refl asks.0)
asked_unelf words end adds (Selftest statements) asks = absurd (differ (codes "unelf") (codes "selftest") refl asks.0)
asked_unelf words end adds Locks asks = absurd (differ (codes "unelf") (codes "locks") refl asks)

asked_audit : (words : List Text) (end : List Row) → Adds exec_parts [] false words end → (command : Command) → AsksFor (codes "audit") end command → ReadsBehind (codes "audit") words command
asked_audit words end adds (Run file harts cycles show) asks = absurd (differ (codes "audit") (codes "run") refl asks.0)
asked_audit words end adds (Build file image) asks = absurd (differ (codes "audit") (codes "build") refl asks.0)
asked_audit words end adds (Exec image harts cycles) asks = absurd (differ (codes "audit") (codes "exec") refl asks.0)
asked_audit words end adds (ListCode image) asks = absurd (differ (codes "audit") (codes "list") refl asks.0)
asked_audit words end adds (Elf image file) asks = absurd (differ (codes "audit") (codes "elf") refl asks.0)
asked_audit words end adds (Unelf file image) asks = absurd (differ (codes "audit") (codes "unelf") refl asks.0)
asked_audit words end adds (Audit file harts cycles) asks = (refl, reads_exec words end adds file harts cycles asks.1 asks.2)
asked_audit words end adds (Trace file harts cycles) asks = absurd (differ (codes "audit") (codes "trace") refl asks.0)
asked_audit words end adds (Replay file trace) asks = absurd (differ (codes "audit") (codes "replay") refl asks.0)
asked_audit words end adds (Selftest statements) asks = absurd (differ (codes "audit") (codes "selftest") refl asks.0)
asked_audit words end adds Locks asks = absurd (differ (codes "audit") (codes "locks") refl asks)

asked_trace : (words : List Text) (end : List Row) → Adds exec_parts [] false words end → (command : Command) → AsksFor (codes "trace") end command → ReadsBehind (codes "trace") words command
asked_trace words end adds (Run file harts cycles show) asks = absurd (differ (codes "trace") (codes "run") refl asks.0)
asked_trace words end adds (Build file image) asks = absurd (differ (codes "trace") (codes "build") refl asks.0)
asked_trace words end adds (Exec image harts cycles) asks = absurd (differ (codes "trace") (codes "exec") refl asks.0)
asked_trace words end adds (ListCode image) asks = absurd (differ (codes "trace") (codes "list") refl asks.0)
asked_trace words end adds (Elf image file) asks = absurd (differ (codes "trace") (codes "elf") refl asks.0)
asked_trace words end adds (Unelf file image) asks = absurd (differ (codes "trace") (codes "unelf") refl asks.0)
asked_trace words end adds (Audit file harts cycles) asks = absurd (differ (codes "trace") (codes "audit") refl asks.0)
asked_trace words end adds (Trace file harts cycles) asks = (refl, reads_exec words end adds file harts cycles asks.1 asks.2)
asked_trace words end adds (Replay file trace) asks = absurd (differ (codes "trace") (codes "replay") refl asks.0)
asked_trace words end adds (Selftest statements) asks = absurd (differ (codes "trace") (codes "selftest") refl asks.0)
asked_trace words end adds Locks asks = absurd (differ (codes "trace") (codes "locks") refl asks)

asked_selftest : (words : List Text) (end : List Row) → Adds list_parts [] false words end → (command : Command) → AsksFor (codes "selftest") end command → ReadsBehind (codes "selftest") words command
asked_selftest words end adds (Run file harts cycles show) asks = absurd (differ (codes "selftest") (codes "run") refl asks.0)
asked_selftest words end adds (Build file image) asks = absurd (differ (codes "selftest") (codes "build") refl asks.0)
asked_selftest words end adds (Exec image harts cycles) asks = absurd (differ (codes "selftest") (codes "exec") refl asks.0)
asked_selftest words end adds (ListCode image) asks = absurd (differ (codes "selftest") (codes "list") refl asks.0)
asked_selftest words end adds (Elf image file) asks = absurd (differ (codes "selftest") (codes "elf") refl asks.0)
asked_selftest words end adds (Unelf file image) asks = absurd (differ (codes "selftest") (codes "unelf") refl asks.0)
asked_selftest words end adds (Audit file harts cycles) asks = absurd (differ (codes "selftest") (codes "audit") refl asks.0)
asked_selftest words end adds (Trace file harts cycles) asks = absurd (differ (codes "selftest") (codes "trace") refl asks.0)
asked_selftest words end adds (Replay file trace) asks = absurd (differ (codes "selftest") (codes "replay") refl asks.0)
asked_selftest words end adds (Selftest statements) asks = (refl, reads_selftest words end adds statements asks.1)
asked_selftest words end adds Locks asks = absurd (differ (codes "selftest") (codes "locks") refl asks)

asked_replay : (words : List Text) (end : List Row) (are : AreTwo words) → end ≡ both are.file are.other → (command : Command) → AsksFor (codes "replay") end command → ReadsBehind (codes "replay") words command
asked_replay words end are is (Run file harts cycles show) asks = absurd (differ (codes "replay") (codes "run") refl asks.0)
asked_replay words end are is (Build file image) asks = absurd (differ (codes "replay") (codes "build") refl asks.0)
asked_replay words end are is (Exec image harts cycles) asks = absurd (differ (codes "replay") (codes "exec") refl asks.0)
asked_replay words end are is (ListCode image) asks = absurd (differ (codes "replay") (codes "list") refl asks.0)
asked_replay words end are is (Elf image file) asks = absurd (differ (codes "replay") (codes "elf") refl asks.0)
asked_replay words end are is (Unelf file image) asks = absurd (differ (codes "replay") (codes "unelf") refl asks.0)
asked_replay words end are is (Audit file harts cycles) asks = absurd (differ (codes "replay") (codes "audit") refl asks.0)
asked_replay words end are is (Trace file harts cycles) asks = absurd (differ (codes "replay") (codes "trace") refl asks.0)
asked_replay words end are is (Replay file trace) asks =
    let f : Some are.file ≡ Some file = ap (first_of (codes "file")) (sym is) ∙ asks.1 in
    let t : Some are.other ≡ Some trace = ap (first_of (codes "trace")) (sym is) ∙ asks.2 in
    let same_file : are.file ≡ file = cc in
    let same_trace : are.other ≡ trace = cc in
    (refl, subst (λ t. Gives words (only_files (file ∷ t ∷ []))) same_trace (subst (λ f. Gives words (only_files (f ∷ are.other ∷ []))) same_file (gives_files are.are)))
asked_replay words end are is (Selftest statements) asks = absurd (differ (codes "replay") (codes "selftest") refl asks.0)
asked_replay words end are is Locks asks = absurd (differ (codes "replay") (codes "locks") refl asks)

asked_locks : (words : List Text) (end : List Row) → Bare words → (command : Command) → AsksFor (codes "locks") end command → ReadsBehind (codes "locks") words command
asked_locks words end is (Run file harts cycles show) asks = absurd (differ (codes "locks") (codes "run") refl asks.0)
asked_locks words end is (Build file image) asks = absurd (differ (codes "locks") (codes "build") refl asks.0)
asked_locks words end is (Exec image harts cycles) asks = absurd (differ (codes "locks") (codes "exec") refl asks.0)
asked_locks words end is (ListCode image) asks = absurd (differ (codes "locks") (codes "list") refl asks.0)
asked_locks words end is (Elf image file) asks = absurd (differ (codes "locks") (codes "elf") refl asks.0)
asked_locks words end is (Unelf file image) asks = absurd (differ (codes "locks") (codes "unelf") refl asks.0)
asked_locks words end is (Audit file harts cycles) asks = absurd (differ (codes "locks") (codes "audit") refl asks.0)
asked_locks words end is (Trace file harts cycles) asks = absurd (differ (codes "locks") (codes "trace") refl asks.0)
asked_locks words end is (Replay file trace) asks = absurd (differ (codes "locks") (codes "replay") refl asks.0)
asked_locks words end is (Selftest statements) asks = absurd (differ (codes "locks") (codes "selftest") refl asks.0)
asked_locks words end is Locks asks = (refl, gives_none words is)

taken_named : (name : Text) (ps : List Part) (known : IsCommand ps) (words : List Text) → Behind name ps words → AreTexts words
    → ((end : List Row) → Adds ps [] false words end → (command : Command) → AsksFor name end command → ReadsBehind name words command)
    → fault_of written_app (name ∷ words) ≡ [] → IsTaken (name ∷ words)
taken_named name ps known words behind texts asked fine =
    let adds = (sound name ps known words texts).before [] None false tt nothing_twice (sym behind.fault ∙ fine) in
    record { name = name; found = rows_at_end ps (at [] None false false) words; matches = behind.rows_are; reads = asked _ adds }

taken_word : (word : Text) (words : List Text) → AreTexts words → Named word → fault_of written_app (word ∷ words) ≡ [] → IsTaken (word ∷ words)
taken_word word words texts (is_run e) fine =
    subst (λ w. IsTaken (w ∷ words)) (sym e) (taken_named (codes "run") run_parts run_command words (behind_run words) texts (asked_run words) (subst (λ w. fault_of written_app (w ∷ words) ≡ []) e fine))
taken_word word words texts (is_build e) fine =
    subst (λ w. IsTaken (w ∷ words)) (sym e) (taken_named (codes "build") put_parts put_command words (behind_build words) texts (asked_build words) (subst (λ w. fault_of written_app (w ∷ words) ≡ []) e fine))
taken_word word words texts (is_exec e) fine =
    subst (λ w. IsTaken (w ∷ words)) (sym e) (taken_named (codes "exec") exec_parts exec_command words (behind_exec words) texts (asked_exec words) (subst (λ w. fault_of written_app (w ∷ words) ≡ []) e fine))
taken_word word words texts (is_list e) fine =
    subst (λ w. IsTaken (w ∷ words)) (sym e) (taken_named (codes "list") list_parts list_command words (behind_list words) texts (asked_list words) (subst (λ w. fault_of written_app (w ∷ words) ≡ []) e fine))
taken_word word words texts (is_elf e) fine =
    subst (λ w. IsTaken (w ∷ words)) (sym e) (taken_named (codes "elf") put_parts put_command words (behind_elf words) texts (asked_elf words) (subst (λ w. fault_of written_app (w ∷ words) ≡ []) e fine))
taken_word word words texts (is_unelf e) fine =
    subst (λ w. IsTaken (w ∷ words)) (sym e) (taken_named (codes "unelf") put_parts put_command words (behind_unelf words) texts (asked_unelf words) (subst (λ w. fault_of written_app (w ∷ words) ≡ []) e fine))
taken_word word words texts (is_audit e) fine =
    subst (λ w. IsTaken (w ∷ words)) (sym e) (taken_named (codes "audit") exec_parts exec_command words (behind_audit words) texts (asked_audit words) (subst (λ w. fault_of written_app (w ∷ words) ≡ []) e fine))
taken_word word words texts (is_trace e) fine =
    subst (λ w. IsTaken (w ∷ words)) (sym e) (taken_named (codes "trace") exec_parts exec_command words (behind_trace words) texts (asked_trace words) (subst (λ w. fault_of written_app (w ∷ words) ≡ []) e fine))
taken_word word words texts (is_replay e) fine =
    let are = took_two words texts (sym (behind_replay words).fault ∙ subst (λ w. fault_of written_app (w ∷ words) ≡ []) e fine) in
    let got = gets_two are.are are.file are.other refl in
    subst (λ w. IsTaken (w ∷ words)) (sym e)
    (record { name = codes "replay"; found = shape_rows replay (none false) words; matches = (behind_replay words).rows_are; reads = asked_replay words (shape_rows replay (none false) words) are got.rows_are })
taken_word word words texts (is_selftest e) fine =
    subst (λ w. IsTaken (w ∷ words)) (sym e) (taken_named (codes "selftest") list_parts list_command words (behind_selftest words) texts (asked_selftest words) (subst (λ w. fault_of written_app (w ∷ words) ≡ []) e fine))
taken_word word words texts (is_locks e) fine =
    let is = taken_bare words texts (sym (behind_locks words).fault ∙ subst (λ w. fault_of written_app (w ∷ words) ≡ []) e fine) in
    subst (λ w. IsTaken (w ∷ words)) (sym e)
    (record { name = codes "locks"; found = rows_at_end [] (at [] None false false) words; matches = (behind_locks words).rows_are; reads = asked_locks words (rows_at_end [] (at [] None false false) words) is })
taken_word word words texts (other none) fine = absurd (other_word word words none fine)

pub taken : (words : List Text) → AreTexts words → fault_of written_app words ≡ [] → IsTaken words
taken [] texts fine = absurd (no_words fine)
taken (word ∷ words) texts fine = taken_word word words texts.1 (named word) fine

-- ---- words that are a command

-- the words are taken, and ask for the command
pub record IsAsked (words : List Text) (command : Command) : Type 0 where
  pub fault : fault_of written_app words ≡ []
  pub name : Text
  pub found : List Row
  pub matches : subcommand_of written_app words ≡ Some (name, found)
  pub asks : AsksFor name found command

given_by : (p : Part) (us : List Argument) (x : Text) (xs : List Text) → values_of p us ≡ x ∷ xs → given p us ≡ true
given_by p us x xs e = by (given p us) refl
  where
    by : (b : Bool) → given p us ≡ b → given p us ≡ true
    by true g = g
    by false g = let none = no_values p us g in let bad : [] ≡ x ∷ xs = sym none ∙ e in cc

not_given : (p : Part) (us : List Argument) → values_of p us ≡ [] → given p us ≡ false
not_given p us e = by (given p us) refl
  where
    by : (b : Bool) → given p us ≡ b → given p us ≡ false
    by false g = g
    by true g = let some = some_values p us g in let none : length (values_of p us) ≡ 0 = ap length e in absurd (omega arith)

-- the values of each part, at most one
pub record Each (us : List Argument) (f h c s i : Option Text) : Type 0 where
  pub file : values_of File us ≡ once_or_never f
  pub harts : values_of Harts us ≡ once_or_never h
  pub cycles : values_of Cycles us ≡ once_or_never c
  pub show : values_of Show us ≡ once_or_never s
  pub image : values_of Image us ≡ once_or_never i

few : (o : Option Text) → length (once_or_never o) ≤ 1
few None = omega arith
few (Some x) = omega arith

each_once : (us : List Argument) (f h c s i : Option Text) → Each us f h c s i → IsOnce us
each_once us f h c s i each File = let e = each.file in rw e (few f)
each_once us f h c s i each Harts = let e = each.harts in rw e (few h)
each_once us f h c s i each Cycles = let e = each.cycles in rw e (few c)
each_once us f h c s i each Show = let e = each.show in rw e (few s)
each_once us f h c s i each Image = let e = each.image in rw e (few i)

first-is : (p : Part) (us : List Argument) (o : Option Text) (end : List Row) → end ≡ rows us → values_of p us ≡ once_or_never o → first_of (id_of p) end ≡ o
first-is p us o end e v = ap (first_of (id_of p)) e ∙ first-rows p us ∙ ap (λ xs. slice_get xs 0) v ∙ by o
  where
    by : (o : Option Text) → slice_get (once_or_never o) 0 ≡ o
    by None = refl
    by (Some x) = refl

run_in : (us : List Argument) → values_of Image us ≡ [] → AreIn run_parts us
run_in us none File e = cc
run_in us none Harts e = cc
run_in us none Cycles e = cc
run_in us none Show e = cc
run_in us none Image e = not_given Image us none

exec_in : (us : List Argument) → values_of Show us ≡ [] → values_of Image us ≡ [] → AreIn exec_parts us
exec_in us shows none File e = cc
exec_in us shows none Harts e = cc
exec_in us shows none Cycles e = cc
exec_in us shows none Show e = not_given Show us shows
exec_in us shows none Image e = not_given Image us none

put_in : (us : List Argument) → values_of Harts us ≡ [] → values_of Cycles us ≡ [] → values_of Show us ≡ [] → AreIn put_parts us
put_in us harts cycles shows File e = cc
put_in us harts cycles shows Harts e = not_given Harts us harts
put_in us harts cycles shows Cycles e = not_given Cycles us cycles
put_in us harts cycles shows Show e = not_given Show us shows
put_in us harts cycles shows Image e = cc

list_in : (us : List Argument) → values_of Harts us ≡ [] → values_of Cycles us ≡ [] → values_of Show us ≡ [] → values_of Image us ≡ [] → AreIn list_parts us
list_in us harts cycles shows none File e = cc
list_in us harts cycles shows none Harts e = not_given Harts us harts
list_in us harts cycles shows none Cycles e = not_given Cycles us cycles
list_in us harts cycles shows none Show e = not_given Show us shows
list_in us harts cycles shows none Image e = not_given Image us none

asked_named : (name : Text) (ps : List Part) (known : IsCommand ps) (words : List Text) (command : Command) (arguments : List Argument) (f h c s i : Option Text)
    → Behind name ps words → Spells words arguments → Each arguments f h c s i → AreIn ps arguments → lacks ps arguments ≡ false
    → ((end : List Row) → end ≡ rows arguments → AsksFor name end command) → IsAsked (name ∷ words) command
asked_named name ps known words command arguments f h c s i behind spelled each within has_all asks =
    let got = gets name ps known spelled [] None false tt refl (record { within = within; once = each_once arguments f h c s i each; has_all = has_all }) in
    record {
      fault = behind.fault ∙ got.fault;
      name = name;
      found = rows_at_end ps (at [] None false false) words;
      matches = behind.rows_are;
      asks = asks _ got.rows_are;
    }

each_of : (us : List Argument) (values : Values) (f h c s i : Option Text) → all_values us ≡ values
    → once_or_never f ≡ values.file → once_or_never h ≡ values.harts → once_or_never c ≡ values.cycles → once_or_never s ≡ values.show → once_or_never i ≡ values.image
    → Each us f h c s i
each_of us values f h c s i e ef eh ec es ei = record {
  file = ap (λ (v : Values). v.file) e ∙ sym ef;
  harts = ap (λ (v : Values). v.harts) e ∙ sym eh;
  cycles = ap (λ (v : Values). v.cycles) e ∙ sym ec;
  show = ap (λ (v : Values). v.show) e ∙ sym es;
  image = ap (λ (v : Values). v.image) e ∙ sym ei;
}

asks_run : (us : List Argument) (f h c : Text) (s i : Option Text) (end : List Row) (harts cycles : ℕ) → Each us (Some f) (Some h) (Some c) s i → end ≡ rows us
    → read_word h ≡ Some harts → read_word c ≡ Some cycles → 1 ≤ harts → harts ≤ 1024 → RunsBy end harts cycles
asks_run us f h c s i end harts cycles each e hs cs some few_enough = record {
  harts_are = ap (option_and_then read_word) (first-is Harts us (Some h) end e each.harts) ∙ hs;
  cycles_are = ap (option_and_then read_word) (first-is Cycles us (Some c) end e each.cycles) ∙ cs;
  some_harts = some;
  few_harts = few_enough;
}

-- the words of a command that runs a file, without a variable to show
runs_asked : (name : Text) (words : List Text) (command : Command) (file : Text) (harts cycles : ℕ) → Behind name exec_parts words
    → ReadsRun words file harts cycles None
    → ((end : List Row) → first_of (codes "file") end ≡ Some file → RunsBy end harts cycles → AsksFor name end command)
    → IsAsked (name ∷ words) command
runs_asked name words command file harts cycles behind r asks =
    let us = r.given.arguments in
    let each = each_of us _ (Some file) (Some r.harts_text) (Some r.cycles_text) None None r.given.values_are refl refl refl refl refl in
    let gf = given_by File us file [] each.file in
    let gh = given_by Harts us r.harts_text [] each.harts in
    let gc = given_by Cycles us r.cycles_text [] each.cycles in
    asked_named name exec_parts exec_command words command us (Some file) (Some r.harts_text) (Some r.cycles_text) None None behind r.given.spelled each
    (exec_in us each.show each.image) (rw (gf, gh, gc) refl)
    (λ end e. asks end (first-is File us (Some file) end e each.file)
    (asks_run us file r.harts_text r.cycles_text None None end harts cycles each e r.harts_are r.cycles_are r.some_harts r.few_harts))

-- the words of a command that reads a file and puts another
puts_asked : (name : Text) (words : List Text) (command : Command) (file image : Text) → Behind name put_parts words
    → Gives words (two_files file image)
    → ((end : List Row) → first_of (codes "file") end ≡ Some file → first_of (codes "image") end ≡ Some image → AsksFor name end command)
    → IsAsked (name ∷ words) command
puts_asked name words command file image behind r asks =
    let us = r.arguments in
    let each = each_of us _ (Some file) None None None (Some image) r.values_are refl refl refl refl refl in
    let gf = given_by File us file [] each.file in
    let gi = given_by Image us image [] each.image in
    asked_named name put_parts put_command words command us (Some file) None None None (Some image) behind r.spelled each
    (put_in us each.harts each.cycles each.show) (rw (gf, gi) refl)
    (λ end e. asks end (first-is File us (Some file) end e each.file) (first-is Image us (Some image) end e each.image))

asked_as : (word : Text) (words : List Text) (command : Command) → ReadsBehind word words command → IsAsked (word ∷ words) command
asked_as word words (Run file harts cycles show) reads =
    let r = reads.1 in
    let us = r.given.arguments in
    let each = each_of us _ (Some file) (Some r.harts_text) (Some r.cycles_text) show None r.given.values_are refl refl refl refl refl in
    let gf = given_by File us file [] each.file in
    let gh = given_by Harts us r.harts_text [] each.harts in
    let gc = given_by Cycles us r.cycles_text [] each.cycles in
    subst (λ w. IsAsked (w ∷ words) (Run file harts cycles show)) (sym reads.0)
    (asked_named (codes "run") run_parts run_command words (Run file harts cycles show) us (Some file) (Some r.harts_text) (Some r.cycles_text) show None (behind_run words) r.given.spelled each
    (run_in us each.image) (rw (gf, gh, gc) refl)
    (λ end e. (refl, first-is File us (Some file) end e each.file, asks_run us file r.harts_text r.cycles_text show None end harts cycles each e r.harts_are r.cycles_are r.some_harts r.few_harts, first-is Show us show end e each.show)))
asked_as word words (Exec file harts cycles) reads =
    subst (λ w. IsAsked (w ∷ words) (Exec file harts cycles)) (sym reads.0)
    (runs_asked (codes "exec") words (Exec file harts cycles) file harts cycles (behind_exec words) reads.1 (λ end first runs. (refl, first, runs)))
asked_as word words (Audit file harts cycles) reads =
    subst (λ w. IsAsked (w ∷ words) (Audit file harts cycles)) (sym reads.0)
    (runs_asked (codes "audit") words (Audit file harts cycles) file harts cycles (behind_audit words) reads.1 (λ end first runs. (refl, first, runs)))
asked_as word words (Trace file harts cycles) reads =
    subst (λ w. IsAsked (w ∷ words) (Trace file harts cycles)) (sym reads.0)
    (runs_asked (codes "trace") words (Trace file harts cycles) file harts cycles (behind_trace words) reads.1 (λ end first runs. (refl, first, runs)))
asked_as word words (Build file image) reads =
    subst (λ w. IsAsked (w ∷ words) (Build file image)) (sym reads.0)
    (puts_asked (codes "build") words (Build file image) file image (behind_build words) reads.1 (λ end first second. (refl, first, second)))
asked_as word words (Elf image file) reads =
    subst (λ w. IsAsked (w ∷ words) (Elf image file)) (sym reads.0)
    (puts_asked (codes "elf") words (Elf image file) image file (behind_elf words) reads.1 (λ end first second. (refl, first, second)))
asked_as word words (Unelf file image) reads =
    subst (λ w. IsAsked (w ∷ words) (Unelf file image)) (sym reads.0)
    (puts_asked (codes "unelf") words (Unelf file image) file image (behind_unelf words) reads.1 (λ end first second. (refl, first, second)))
asked_as word words (ListCode image) reads =
    let r = reads.1 in
    let us = r.arguments in
    let each = each_of us _ (Some image) None None None None r.values_are refl refl refl refl refl in
    let gf = given_by File us image [] each.file in
    subst (λ w. IsAsked (w ∷ words) (ListCode image)) (sym reads.0)
    (asked_named (codes "list") list_parts list_command words (ListCode image) us (Some image) None None None None (behind_list words) r.spelled each
    (list_in us each.harts each.cycles each.show each.image) (rw gf refl)
    (λ end e. (refl, first-is File us (Some image) end e each.file)))
asked_as word words (Selftest statements) reads =
    let r = reads.1 in
    let us = r.given.arguments in
    let each = each_of us _ (Some r.text) None None None None r.given.values_are refl refl refl refl refl in
    let gf = given_by File us r.text [] each.file in
    subst (λ w. IsAsked (w ∷ words) (Selftest statements)) (sym reads.0)
    (asked_named (codes "selftest") list_parts list_command words (Selftest statements) us (Some r.text) None None None None (behind_selftest words) r.given.spelled each
    (list_in us each.harts each.cycles each.show each.image) (rw gf refl)
    (λ end e. (refl, record { statements_are = ap (option_and_then read_word) (first-is File us (Some r.text) end e each.file) ∙ r.statements_are; some = r.some; few = r.few })))
asked_as word words (Replay file trace) reads =
    let b = behind_replay words in
    let got = gets_two (spelled_files reads.1.spelled (file ∷ trace ∷ []) reads.1.values_are) file trace refl in
    subst (λ w. IsAsked (w ∷ words) (Replay file trace)) (sym reads.0)
    (record {
      fault = b.fault ∙ got.fault;
      name = codes "replay";
      found = shape_rows replay (none false) words;
      matches = b.rows_are;
      asks = (refl, ap (first_of (codes "file")) got.rows_are, ap (first_of (codes "trace")) got.rows_are);
    })
asked_as word words Locks reads =
    let b = behind_locks words in
    subst (λ w. IsAsked (w ∷ words) Locks) (sym reads.0)
    (record { fault = b.fault ∙ bare_fine words (spelled_bare reads.1.spelled reads.1.values_are); name = codes "locks"; found = rows_at_end [] (at [] None false false) words; matches = b.rows_are; asks = refl })

pub asked : (words : List Text) (command : Command) → Reads words command → IsAsked words command
asked [] command reads = absurd reads
asked (word ∷ words) command reads = asked_as word words command reads

-- ---- what the caller has of `clap`

pub is_free : is_simple_and_free written_app ≡ true
is_free = refl

pub simple : is_simple written_app ≡ true
simple = refl

-- words of a command fail for want of memory alone
pub only_memory : (words : List Text) (command : Command) (app : App) (e : Error) → app ≡ written_app
    → (is_simple_and_free app ≡ true → HasKind (fault_of app words) e) → Reads words command → kind_of e ≡ OutOfMemory
only_memory words command app e is fails reads =
    let asked_all = asked words command reads in
    let none : fault_of app words ≡ [] = ap (λ a. fault_of a words) is ∙ asked_all.fault in
    by (subst (λ kinds. HasKind kinds e) none (fails (ap is_simple_and_free is ∙ is_free)))
  where
    by : HasKind [] e → kind_of e ≡ OutOfMemory
    by (inl memory) = memory
    by (inr more) = absurd more

-- a command that the matches ask for is that of the words, and the other way round
pub reads_asked : (words : List Text) (command : Command) (app : App) (found : Option (Text × List Row)) → AreTexts words → app ≡ written_app
    → (is_simple_and_free app ≡ true → fault_of app words ≡ []) → (is_simple app ≡ true → found ≡ subcommand_of app words) → AsksOf found command → Reads words command
reads_asked words command app found texts is fine matches asks =
    let t = taken words texts (sym (ap (λ a. fault_of a words) is) ∙ fine (ap is_simple_and_free is ∙ is_free)) in
    let same : found ≡ Some (t.name, t.found) = matches (ap is_simple is ∙ simple) ∙ ap (λ a. subcommand_of a words) is ∙ t.matches in
    t.reads command (subst (λ o. AsksOf o command) same asks)

pub asks_read : (words : List Text) (command : Command) (app : App) (found : Option (Text × List Row)) → app ≡ written_app
    → (is_simple app ≡ true → found ≡ subcommand_of app words) → Reads words command → AsksOf found command
asks_read words command app found is matches reads =
    let a = asked words command reads in
    let same : found ≡ Some (a.name, a.found) = matches (ap is_simple is ∙ simple) ∙ ap (λ a. subcommand_of a words) is ∙ a.matches in
    subst (λ o. AsksOf o command) (sym same) a.asks

pub are_texts : (words : List (String Global)) → AreTexts (map string_bytes words)
are_texts [] = tt
are_texts (word ∷ words) = (IsUtf8-string_bytes word, are_texts words)
