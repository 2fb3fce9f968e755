-- Whole command lines: the fault that `clap` finds in them, and the values that it gives.
use Rattle.std.proofs.Common.{◌≡◌, ℕ, Bool, true, false, List, [], ◌∷◌, ◌++◌, Option, Some, None, codes, refl, sym, ap, ap₂, ◌∙◌, subst, append_assoc, append-nil}
use Rattle.std.specs.Prelude.{◌&&◌, find, fold, is_some, slice_get}
use Rattle.std.specs.Str.{bytes_eq, chars}
use Rattle.clap.specs.declared.error.kind.ErrorKind.TheVariants.{MissingSubcommand, UnknownArgument, InvalidSubcommand}
use Rattle.clap.specs.Walk.{finished, settled, Names, Rule, Walk, answers_to, bundle_met, nothing_held, walk, walk_from, walked}
use Rattle.clap.specs.Kinds.{Kinds, or_else}
use Rattle.clap.specs.Faults.{check_fault, entered_fault, settle_fault, defaults_fault, fault_of, flags_fault, turn_fault, walk_fault}
use Rattle.clap.specs.Simple.{Shape, entered, label_of, names_of, subcommand_of}
use Rattle.fk_top_words.specs.Arguments.{Text, Part}
use Rattle.fk_top_words.specs.Written.{run_parts, put_parts, exec_parts, list_parts, written_app}
use Rattle.fk_top_words.proofs.Rules.{app, command, replay}
use Rattle.fk_top_words.proofs.Given.{at, first_empty}
use Rattle.fk_top_words.proofs.Forms.{Form, dashes, form, long, plain, short}
use Rattle.fk_top_words.proofs.Taken.{rest_fault, rows_at_end, same_text}
use Rattle.fk_top_words.proofs.Files.{shape_fault, shape_rows}

-- a walk that met a command goes over the words behind it
pub stopped-is : (c : List Rule) (names : Names) (w : Walk) (name : Text) (seen words : List Text)
    → fold (walked c names) (record w { stopped = Some (name, seen) }) words ≡ record w { stopped = Some (name, seen ++ words) }
unfolding walked
stopped-is c names w name seen [] = ap (λ ws. record w { stopped = Some (name, ws) }) (sym (append-nil seen))
stopped-is c names w name seen (word ∷ words) =
    stopped-is c names w name (seen ++ word ∷ []) words ∙ ap (λ ws. record w { stopped = Some (name, ws) }) (append_assoc seen (word ∷ []) words)

pub no_fault_behind : (s : Shape) (names : Names) (w : Walk) (p : Text × List Text) (words : List Text) → walk_fault s names (record w { stopped = Some p }) words ≡ []
unfolding walk_fault walked
no_fault_behind s names w p [] = refl
no_fault_behind s names w p (word ∷ words) = no_fault_behind s names w (p.0, p.1 ++ word ∷ []) words

or-nil : (x : Kinds) → or_else x [] ≡ x
or-nil [] = refl
or-nil (k ∷ ks) = refl

abbrev start : Walk
start = at [] None false false

-- the name is that of a command
record IsNamed (name : Text) (s : Shape) : Type 0 where
  labelled : find (answers_to name) (names_of app) ≡ Some (name, [])
  entered : find (λ s. answers_to name (label_of s)) app.subs ≡ Some s
  same_name : s.name ≡ name
  no_help : (bytes_eq name (codes "help") && false) ≡ false

-- what the words behind the name of a command come to
pub record BehindShape (name : Text) (s : Shape) (words : List Text) : Type 0 where
  pub fault : fault_of written_app (name ∷ words) ≡ shape_fault s start words
  pub rows_are : subcommand_of written_app (name ∷ words) ≡ Some (name, shape_rows s start words)

-- the same of a command with these arguments
pub record Behind (name : Text) (ps : List Part) (words : List Text) : Type 0 where
  pub fault : fault_of written_app (name ∷ words) ≡ rest_fault name ps start words
  pub rows_are : subcommand_of written_app (name ∷ words) ≡ Some (name, rows_at_end ps start words)

module _ (name : Text) (s : Shape) (is : IsNamed name s) (words : List Text) where
  met : walked app.top.rules (names_of app) (walk_from nothing_held) name ≡ record (walk_from nothing_held) { stopped = Some (name, []) }
  unfolding walked
  met = let labelled = is.labelled in rw labelled refl

  walk-is : walk app.top.rules (names_of app) nothing_held (name ∷ words) ≡ record (walk_from nothing_held) { stopped = Some (name, words) }
  walk-is =
      ap (λ w. fold (walked app.top.rules (names_of app)) w words) met ∙ stopped-is app.top.rules (names_of app) (walk_from nothing_held) name [] words

  turn-is : turn_fault app.top (names_of app) (walk_from nothing_held) name ≡ []
  turn-is = let labelled = is.labelled in let no_help = is.no_help in rw (labelled, no_help) refl

  walk_fault-is : walk_fault app.top (names_of app) (walk_from nothing_held) (name ∷ words) ≡ []
  unfolding walk_fault
  walk_fault-is =
      ap (λ t. or_else t (walk_fault app.top (names_of app) (walked app.top.rules (names_of app) (walk_from nothing_held) name) words)) turn-is
      ∙ ap (λ w. walk_fault app.top (names_of app) w words) met ∙ no_fault_behind app.top (names_of app) (walk_from nothing_held) (name, []) words

  -- the fault of a whole line from its walk
  abbrev fault_by : Kinds → Walk → Kinds
  fault_by faults end =
      or_else faults (or_else (entered_fault app end.stopped)
      (or_else (settle_fault app.top.rules false end.held) (or_else (defaults_fault (settled app.top.rules end.held).rows app.top.rules)
      (check_fault app.top (finished app.top.rules end.held) (is_some (entered app end.stopped))))))

  fault-behind : fault_of written_app (name ∷ words) ≡ shape_fault s start words
  unfolding defaults_fault
  fault-behind =
      let found = is.entered in
      ap₂ fault_by walk_fault-is walk-is ∙ rw found (or-nil _)

  rows-behind : subcommand_of written_app (name ∷ words) ≡ Some (name, shape_rows s start words)
  rows-behind =
      let found = is.entered in
      ap (λ (w : Walk). entered app w.stopped) walk-is ∙ rw found (ap (λ (n : Text). Some (n, shape_rows s start words)) is.same_name)

  shape_behind : BehindShape name s words
  shape_behind = record { fault = fault-behind; rows_are = rows-behind }

behind : (name : Text) (ps : List Part) → IsNamed name (command name ps) → (words : List Text) → Behind name ps words
behind name ps is words = let b = shape_behind name (command name ps) is words in record { fault = b.fault; rows_are = b.rows_are }

pub behind_run : (words : List Text) → Behind (codes "run") run_parts words
behind_run words = behind (codes "run") run_parts (record { labelled = refl; entered = refl; same_name = refl; no_help = refl }) words

pub behind_build : (words : List Text) → Behind (codes "build") put_parts words
behind_build words = behind (codes "build") put_parts (record { labelled = refl; entered = refl; same_name = refl; no_help = refl }) words

pub behind_exec : (words : List Text) → Behind (codes "exec") exec_parts words
behind_exec words = behind (codes "exec") exec_parts (record { labelled = refl; entered = refl; same_name = refl; no_help = refl }) words

pub behind_list : (words : List Text) → Behind (codes "list") list_parts words
behind_list words = behind (codes "list") list_parts (record { labelled = refl; entered = refl; same_name = refl; no_help = refl }) words

pub behind_elf : (words : List Text) → Behind (codes "elf") put_parts words
behind_elf words = behind (codes "elf") put_parts (record { labelled = refl; entered = refl; same_name = refl; no_help = refl }) words

pub behind_unelf : (words : List Text) → Behind (codes "unelf") put_parts words
behind_unelf words = behind (codes "unelf") put_parts (record { labelled = refl; entered = refl; same_name = refl; no_help = refl }) words

pub behind_audit : (words : List Text) → Behind (codes "audit") exec_parts words
behind_audit words = behind (codes "audit") exec_parts (record { labelled = refl; entered = refl; same_name = refl; no_help = refl }) words

pub behind_trace : (words : List Text) → Behind (codes "trace") exec_parts words
behind_trace words = behind (codes "trace") exec_parts (record { labelled = refl; entered = refl; same_name = refl; no_help = refl }) words

pub behind_replay : (words : List Text) → BehindShape (codes "replay") replay words
behind_replay words = shape_behind (codes "replay") replay (record { labelled = refl; entered = refl; same_name = refl; no_help = refl }) words

pub behind_selftest : (words : List Text) → Behind (codes "selftest") list_parts words
behind_selftest words = behind (codes "selftest") list_parts (record { labelled = refl; entered = refl; same_name = refl; no_help = refl }) words

pub behind_locks : (words : List Text) → Behind (codes "locks") [] words
behind_locks words = behind (codes "locks") [] (record { labelled = refl; entered = refl; same_name = refl; no_help = refl }) words

-- ---- other first words

pub no_words : fault_of written_app [] ≡ [] → ⊥
unfolding walk_fault defaults_fault
no_words fine = let bad : MissingSubcommand ∷ [] ≡ [] = fine in cc

-- whether a word is the name of a command
pub data Named (word : Text) : Type 0 where
  is_run : word ≡ codes "run" → Named word
  is_build : word ≡ codes "build" → Named word
  is_exec : word ≡ codes "exec" → Named word
  is_list : word ≡ codes "list" → Named word
  is_elf : word ≡ codes "elf" → Named word
  is_unelf : word ≡ codes "unelf" → Named word
  is_audit : word ≡ codes "audit" → Named word
  is_trace : word ≡ codes "trace" → Named word
  is_replay : word ≡ codes "replay" → Named word
  is_selftest : word ≡ codes "selftest" → Named word
  is_locks : word ≡ codes "locks" → Named word
  other : find (answers_to word) (names_of app) ≡ None → Named word

pub named : (word : Text) → Named word
named word =
    by (bytes_eq (codes "run") word) (bytes_eq (codes "build") word) (bytes_eq (codes "exec") word) (bytes_eq (codes "list") word) (bytes_eq (codes "elf") word) (bytes_eq (codes "unelf") word) (bytes_eq (codes "audit") word) (bytes_eq (codes "trace") word) (bytes_eq (codes "replay") word) (bytes_eq (codes "selftest") word) (bytes_eq (codes "locks") word) refl refl refl refl refl refl refl refl refl refl refl
  where
    by : (a b c d e f g h i j k : Bool) → bytes_eq (codes "run") word ≡ a → bytes_eq (codes "build") word ≡ b → bytes_eq (codes "exec") word ≡ c → bytes_eq (codes "list") word ≡ d → bytes_eq (codes "elf") word ≡ e → bytes_eq (codes "unelf") word ≡ f → bytes_eq (codes "audit") word ≡ g → bytes_eq (codes "trace") word ≡ h → bytes_eq (codes "replay") word ≡ i → bytes_eq (codes "selftest") word ≡ j → bytes_eq (codes "locks") word ≡ k → Named word
    by true b c d e f g h i j k p q r s t u v w x y z = is_run (sym (same_text (codes "run") word p))
    by false true c d e f g h i j k p q r s t u v w x y z = is_build (sym (same_text (codes "build") word q))
    by false false true d e f g h i j k p q r s t u v w x y z = is_exec (sym (same_text (codes "exec") word r))
    by false false false true e f g h i j k p q r s t u v w x y z = is_list (sym (same_text (codes "list") word s))
    by false false false false true f g h i j k p q r s t u v w x y z = is_elf (sym (same_text (codes "elf") word t))
    by false false false false false true g h i j k p q r s t u v w x y z = is_unelf (sym (same_text (codes "unelf") word u))
    by false false false false false false true h i j k p q r s t u v w x y z = is_audit (sym (same_text (codes "audit") word v))
    by false false false false false false false true i j k p q r s t u v w x y z = is_trace (sym (same_text (codes "trace") word w))
    by false false false false false false false false true j k p q r s t u v w x y z = is_replay (sym (same_text (codes "replay") word x))
    by false false false false false false false false false true k p q r s t u v w x y z = is_selftest (sym (same_text (codes "selftest") word y))
    by false false false false false false false false false false true p q r s t u v w x y z = is_locks (sym (same_text (codes "locks") word z))
    by false false false false false false false false false false false p q r s t u v w x y z = other (rw (p, q, r, s, t, u, v, w, x, y, z) refl)

module _ (word : Text) (words : List Text) (none : find (answers_to word) (names_of app) ≡ None) where
  turn_other : Form word → (word ≡ 45 ∷ 45 ∷ [] → ⊥) → turn_fault app.top (names_of app) (walk_from nothing_held) word ≡ [] → ⊥
  unfolding flags_fault bundle_met
  turn_other (dashes is) no_dashes fine = no_dashes is
  turn_other (long name value is) no_dashes fine =
      let some = is.some in
      let text = is.long in
      let bad : UnknownArgument ∷ [] ≡ [] = rw (none, some, text) at fine in cc
  turn_other (plain is) no_dashes fine =
      let some = is.some in
      let text = is.long in
      let letters = is.short in
      let bad : UnknownArgument ∷ InvalidSubcommand ∷ [] ≡ [] = rw (none, some, text, letters) at fine in cc
  turn_other (short first rest is) no_dashes fine = by (slice_get (chars (first ∷ rest)) 0) refl
    where
      by : (o : Option ℕ) → slice_get (chars (first ∷ rest)) 0 ≡ o → ⊥
      by None e =
          let some = is.some in
          let text = is.long in
          let letters = is.short in
          let bad : UnknownArgument ∷ InvalidSubcommand ∷ [] ≡ [] = rw (none, some, text, letters, e) at fine in cc
      by (Some x) e =
          let some = is.some in
          let text = is.long in
          let letters = is.short in
          let bad : UnknownArgument ∷ [] ≡ [] = rw (none, some, text, letters, e) at fine in cc

-- `--` is no name of a command, whatever follows it
only_dashes : (words : List Text) → fault_of written_app ((45 ∷ 45 ∷ []) ∷ words) ≡ [] → ⊥
unfolding walk_fault walked defaults_fault
only_dashes [] fine = let bad : MissingSubcommand ∷ [] ≡ [] = fine in cc
only_dashes (word ∷ words) fine = let bad : UnknownArgument ∷ InvalidSubcommand ∷ [] ≡ [] = fine in cc

pub other_word : (word : Text) (words : List Text) → find (answers_to word) (names_of app) ≡ None → fault_of written_app (word ∷ words) ≡ [] → ⊥
unfolding walk_fault
other_word word words none fine =
    turn_other word words none (form word) (λ is. only_dashes words (subst (λ w. fault_of written_app (w ∷ words) ≡ []) is fine))
    (first_empty _ _ (first_empty _ _ fine))
