-- The arguments of the commands, as `clap` has them.
use Rattle.std.proofs.Common.{◌≡◌, ℕ, Bool, true, false, List, [], ◌∷◌, map, Option, Some, None, codes, refl}
use Rattle.std.specs.Prelude.{◌||◌, IfSome, find}
use Rattle.std.specs.List.{list_any}
use Rattle.clap.specs.declared.builder.value_parser.ValueParser.TheVariants as parser
use Rattle.clap.specs.Walk.{Rule, arg_by_id, arg_by_index, arg_by_long, arg_by_short}
use Rattle.clap.specs.Simple.{App, Shape, new_shape, built}
use Rattle.fk_top_words.specs.Written.{id_of, long_of_part, written, run_parts, put_parts, exec_parts, list_parts, trace_rule, written_top, written_app}
use Rattle.fk_top_words.specs.Arguments.{Text, Part, File, Harts, Cycles, Show, Image, is_part}

abbrev pub index_of : Part → Option ℕ
index_of File = Some 1
index_of _ = None

-- an argument as `build` fills it in
abbrev pub rule : Part → Rule
rule p = record (written p) {
  index = index_of p;
  range = Some (record { start_inclusive = 1; end_inclusive = 1 });
  parser = Some parser.String;
}

abbrev pub rules : List Part → List Rule
rules ps = map rule ps

-- a command with these arguments, as it is built
abbrev pub command : Text → List Part → Shape
command name ps = record (new_shape name) {
  rules = rules ps;
  no_binary_name = true;
  disable_help_flag = true;
  disable_help_subcommand = true;
  is_built = true;
}

-- the name of a trace, and the command that reads one, as they are built
abbrev pub trace : Rule
trace = record trace_rule {
  index = Some 2;
  range = Some (record { start_inclusive = 1; end_inclusive = 1 });
  parser = Some parser.String;
}

abbrev pub replay : Shape
replay = record (new_shape (codes "replay")) {
  rules = rule File ∷ trace ∷ [];
  no_binary_name = true;
  disable_help_flag = true;
  disable_help_subcommand = true;
  is_built = true;
}

abbrev pub app : App
app = record {
  top = record written_top { is_leaf = false; is_built = true };
  subs = command (codes "run") run_parts ∷ command (codes "build") put_parts
      ∷ command (codes "exec") exec_parts ∷ command (codes "list") list_parts
      ∷ command (codes "elf") put_parts ∷ command (codes "unelf") put_parts
      ∷ command (codes "audit") exec_parts ∷ command (codes "trace") exec_parts
      ∷ replay ∷ command (codes "selftest") list_parts ∷ command (codes "locks") [] ∷ [];
}

pub built-written : built written_app ≡ app
built-written = refl

-- ---- looking an argument up

abbrev pub is_in : Part → List Part → Bool
is_in p ps = list_any (is_part p) ps

-- its long name, where it has one, finds a part
abbrev pub FindsLong : List Part → Part → Type 0
FindsLong ps p = IfSome (long_of_part p) (λ name. arg_by_long (rules ps) name ≡ Some (rule p))

pub record IsCommand (ps : List Part) : Type 0 where
  pub by_id : (p : Part) → is_in p ps ≡ true → arg_by_id (rules ps) (id_of p) ≡ Some (rule p)
  pub by_long : (p : Part) → is_in p ps ≡ true → FindsLong ps p
  pub by_short : is_in Image ps ≡ true → arg_by_short (rules ps) 111 ≡ Some (rule Image)
  pub first : arg_by_index (rules ps) 1 ≡ Some (rule File)
  pub second : arg_by_index (rules ps) 2 ≡ None
  pub file : is_in File ps ≡ true

run_by_id : (p : Part) → is_in p run_parts ≡ true → arg_by_id (rules run_parts) (id_of p) ≡ Some (rule p)
run_by_id File e = refl
run_by_id Harts e = refl
run_by_id Cycles e = refl
run_by_id Show e = refl
run_by_id Image e = cc

run_by_long : (p : Part) → is_in p run_parts ≡ true → FindsLong run_parts p
run_by_long File e = tt
run_by_long Harts e = refl
run_by_long Cycles e = refl
run_by_long Show e = refl
run_by_long Image e = cc

pub run_command : IsCommand run_parts
run_command = record { by_id = run_by_id; by_long = run_by_long; by_short = λ e. cc; first = refl; second = refl; file = refl }

put_by_id : (p : Part) → is_in p put_parts ≡ true → arg_by_id (rules put_parts) (id_of p) ≡ Some (rule p)
put_by_id File e = refl
put_by_id Harts e = cc
put_by_id Cycles e = cc
put_by_id Show e = cc
put_by_id Image e = refl

put_by_long : (p : Part) → is_in p put_parts ≡ true → FindsLong put_parts p
put_by_long File e = tt
put_by_long Harts e = cc
put_by_long Cycles e = cc
put_by_long Show e = cc
put_by_long Image e = tt

pub put_command : IsCommand put_parts
put_command = record { by_id = put_by_id; by_long = put_by_long; by_short = λ e. refl; first = refl; second = refl; file = refl }

exec_by_id : (p : Part) → is_in p exec_parts ≡ true → arg_by_id (rules exec_parts) (id_of p) ≡ Some (rule p)
exec_by_id File e = refl
exec_by_id Harts e = refl
exec_by_id Cycles e = refl
exec_by_id Show e = cc
exec_by_id Image e = cc

exec_by_long : (p : Part) → is_in p exec_parts ≡ true → FindsLong exec_parts p
exec_by_long File e = tt
exec_by_long Harts e = refl
exec_by_long Cycles e = refl
exec_by_long Show e = cc
exec_by_long Image e = cc

pub exec_command : IsCommand exec_parts
exec_command = record { by_id = exec_by_id; by_long = exec_by_long; by_short = λ e. cc; first = refl; second = refl; file = refl }

list_by_id : (p : Part) → is_in p list_parts ≡ true → arg_by_id (rules list_parts) (id_of p) ≡ Some (rule p)
list_by_id File e = refl
list_by_id Harts e = cc
list_by_id Cycles e = cc
list_by_id Show e = cc
list_by_id Image e = cc

list_by_long : (p : Part) → is_in p list_parts ≡ true → FindsLong list_parts p
list_by_long File e = tt
list_by_long Harts e = cc
list_by_long Cycles e = cc
list_by_long Show e = cc
list_by_long Image e = cc

pub list_command : IsCommand list_parts
list_command = record { by_id = list_by_id; by_long = list_by_long; by_short = λ e. cc; first = refl; second = refl; file = refl }

-- what a look-up finds is the argument of a part
pub record Finds (ps : List Part) (test : Rule → Bool) (a : Rule) : Type 0 where
  pub part : Part
  pub is : a ≡ rule part
  pub within : is_in part ps ≡ true
  pub passes : test (rule part) ≡ true

is_part-same : (p : Part) → is_part p p ≡ true
is_part-same File = refl
is_part-same Harts = refl
is_part-same Cycles = refl
is_part-same Show = refl
is_part-same Image = refl

or-true : (b : Bool) → (b || true) ≡ true
or-true true = refl
or-true false = refl

later : (p q : Part) (ps : List Part) → is_in p ps ≡ true → is_in p (q ∷ ps) ≡ true
later p q ps e = rw e (or-true (is_part p q))

find_cons : (ps : List Part) (test : Rule → Bool) (p : Part) (a : Rule) (b : Bool) → test (rule p) ≡ b
    → (find test (rules ps) ≡ Some a → Finds ps test a) → find test (rules (p ∷ ps)) ≡ Some a → Finds (p ∷ ps) test a
find_cons ps test p a true e rest found =
    let same : Some (rule p) ≡ Some a = rw e at found in
    record { part = p; is = cc; within = rw (is_part-same p) refl; passes = e }
find_cons ps test p a false e rest found =
    let behind : find test (rules ps) ≡ Some a = rw e at found in
    let finds = rest behind in
    record { part = finds.part; is = finds.is; within = later finds.part p ps finds.within; passes = finds.passes }

pub finds : (ps : List Part) (test : Rule → Bool) (a : Rule) → find test (rules ps) ≡ Some a → Finds ps test a
finds [] test a found = cc
finds (p ∷ ps) test a found = find_cons ps test p a (test (rule p)) refl (finds ps test a) found
