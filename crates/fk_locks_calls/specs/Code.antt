-- The code of the lock's functions, and programs that begin with these functions.
use Rattle.std.specs.Prelude.{◌≡◌, ◌≢◌, ℕ, ◌+◌, true, false, List, ◌∷◌, length, codes}
use Rattle.fk_num.specs.declared.operator.Op.TheVariants.{Add, Ne}
use Rattle.fk_syntax.specs.declared.place.Place.{Place}
use Rattle.fk_syntax.specs.Program.{FunctionTree, ProgramTree}
use Rattle.fk_meaning_operation.specs.declared.operation.Multiprefix.TheVariants.{MpAdd}
use Rattle.fk_meaning_operation.specs.declared.operation.Operation.TheVariants.{Push, Get, Set}
use Rattle.fk_meaning_operation.specs.declared.operation.Operation.TheVariants.{DropLast, Binary}
use Rattle.fk_meaning_operation.specs.declared.operation.Operation.TheVariants.{Branch, Leave, Check}
use Rattle.fk_meaning_operation.specs.declared.operation.Operation.TheVariants.{Read, Combine}
use Rattle.fk_meaning_operation.specs.declared.operation.OwnValue.TheVariants.{Value}
use Rattle.fk_meaning_operation.specs.declared.operation.Variable.TheVariants.{Private}
use Rattle.fk_meaning_forms.specs.Code.{Code, done, perform, while, quit, ends, numbered}
use Rattle.fk_meaning_forms.specs.Expressions.{framed, parameters}
use Rattle.fk_meaning_forms.specs.Tables.{Tables, frame_at}
use Rattle.fk_meaning_forms.specs.Program.{binding_of, code_of, functions_of, main_of, signature_in}

-- The address of the word at an offset of the lock, which is the first private word of the call. A
-- site is the number of the first operation.
abbrev pub word_at : (site offset : ℕ) → Code ℕ → Code ℕ
word_at site offset rest =
    perform site (Get (Value (Private 0)))
    (perform (site + 1) (Push offset)
    (perform (site + 2) (Binary Add false) (perform (site + 3) (Check false) rest)))

-- `mpadd` of 1 on that word
abbrev pub add_one : (site offset : ℕ) → Code ℕ → Code ℕ
add_one site offset rest =
    word_at site offset
    (perform (site + 4) (Check true)
    (perform (site + 5) (Push 1) (perform (site + 6) (Combine MpAdd) rest)))

-- `fair_take` draws a ticket, which is the second private word of the call, and reads until it reads
-- the ticket
abbrev pub reads : Code ℕ
reads =
    word_at 9 4
    (perform 13 Read
    (perform 14 (Get (Value (Private 1)))
    (perform 15 (Binary Ne false) (quit 16 (Branch true) done))))

abbrev pub code_of_take : Code ℕ
code_of_take =
    add_one 0 0
    (perform 7 (Set (Private 1))
    (perform 8 DropLast (while reads done done (ends 17 (Leave false false) done))))

abbrev pub code_of_give : Code ℕ
code_of_give = add_one 18 4 (perform 25 DropLast (ends 26 (Leave false false) done))

-- Calls of the function pass one value, and do nothing more at their beginning.
pub record IsCalledWithOne (tables : Tables) (all : List FunctionTree) (f : FunctionTree)
    : Type 0 where
  pub one : length f.parameters ≡ 1
  pub opens : (place : Place) → framed tables (signature_in tables all)
      (frame_at tables f.name.at 0) place (parameters tables (signature_in tables all) 0 f.parameters)
      ≡ done

-- The first two functions of the program are those of the lock. Their operations have the first
-- sites.
pub record HasLock (tables : Tables) (program : ProgramTree) : Type 0 where
  pub takes : FunctionTree
  pub gives : FunctionTree
  pub others : List FunctionTree
  pub are : functions_of program.items ≡ takes ∷ gives ∷ others
  pub take_name : takes.name.bytes ≡ codes "fair_take"
  pub give_name : gives.name.bytes ≡ codes "fair_give"
  pub take_code : numbered 0 (code_of tables (functions_of program.items) takes) ≡ code_of_take
  pub give_code : numbered 18 (code_of tables (functions_of program.items) gives) ≡ code_of_give
  pub take_called : IsCalledWithOne tables (functions_of program.items) takes
  pub give_called : IsCalledWithOne tables (functions_of program.items) gives
  pub apart : binding_of tables takes ≢ binding_of tables gives
  pub main_is_not_take : main_of tables program ≢ binding_of tables takes
  pub main_is_not_give : main_of tables program ≢ binding_of tables gives
