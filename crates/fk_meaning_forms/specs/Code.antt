-- Code: what is left to do, as a list of operations with choices, loops and calls. The forms of a
-- program are translated to it. Each operation has a tag: first its place, and its site once all of
-- them are numbered.
use Rattle.std.specs.Prelude.{ℕ, suc, ◌+◌, List, [], ◌∷◌, ◌++◌}
use Rattle.fk_meaning_operation.specs.Kinds.{kind_of}
use Rattle.fk_meaning_operation.specs.declared.operation.Operation.{Operation}

pub data Code (A : Type 0) : Type 0 where
  -- nothing more to do
  done : Code A
  -- an operation, and what is left after it
  perform : (tag : A) (op : Operation) (rest : Code A) → Code A
  -- an operation that takes one of two branches, and what is left after both
  choose : (tag : A) (op : Operation) (onward aside rest : Code A) → Code A
  -- loops: the test, then the body, then the step to the next turn; an `until` begins with its body
  while : (test body step rest : Code A) → Code A
  until : (body test rest : Code A) → Code A
  -- a loop that is under way, at the end of its turn and at the beginning of its test
  turn : (test body step rest : Code A) → Code A
  again : (test body step rest : Code A) → Code A
  -- an operation that goes on in the loop, or leaves it
  quit : (tag : A) (op : Operation) (rest : Code A) → Code A
  break : (rest : Code A) → Code A
  continue : (rest : Code A) → Code A
  -- enters a function: the operations at its beginning for this call, then its body
  call : (tag : A) (op : Operation) (function : ℕ) (opening rest : Code A) → Code A
  -- ends the function: `leave` or `halt`
  ends : (tag : A) (op : Operation) (rest : Code A) → Code A

-- one code after the other
abbrev pub append : {A : Type 0} → Code A → Code A → Code A
append done more = more
append (perform t op rest) more = perform t op (append rest more)
append (choose t op a b rest) more = choose t op a b (append rest more)
append (while test body step rest) more = while test body step (append rest more)
append (until body test rest) more = until body test (append rest more)
append (turn test body step rest) more = turn test body step (append rest more)
append (again test body step rest) more = again test body step (append rest more)
append (quit t op rest) more = quit t op (append rest more)
append (break rest) more = break (append rest more)
append (continue rest) more = continue (append rest more)
append (call t op f opening rest) more = call t op f opening (append rest more)
append (ends t op rest) more = ends t op (append rest more)

-- the number of operations in code
abbrev pub size : {A : Type 0} → Code A → ℕ
size done = 0
size (perform t op rest) = suc (size rest)
size (choose t op a b rest) = suc (size a + size b + size rest)
size (while test body step rest) = size test + size body + size step + size rest
size (until body test rest) = size body + size test + size rest
size (turn test body step rest) = size test + size body + size step + size rest
size (again test body step rest) = size test + size body + size step + size rest
size (quit t op rest) = suc (size rest)
size (break rest) = size rest
size (continue rest) = size rest
size (call t op f opening rest) = suc (size opening + size rest)
size (ends t op rest) = suc (size rest)

-- all operations in the order of the text, each by its kind and its tag
abbrev pub sites : {A : Type 0} → Code A → List (ℕ × A)
sites done = []
sites (perform t op rest) = (kind_of op, t) ∷ sites rest
sites (choose t op a b rest) = (kind_of op, t) ∷ sites a ++ sites b ++ sites rest
sites (while test body step rest) = sites test ++ sites body ++ sites step ++ sites rest
sites (until body test rest) = sites body ++ sites test ++ sites rest
sites (turn test body step rest) = sites test ++ sites body ++ sites step ++ sites rest
sites (again test body step rest) = sites test ++ sites body ++ sites step ++ sites rest
sites (quit t op rest) = (kind_of op, t) ∷ sites rest
sites (break rest) = sites rest
sites (continue rest) = sites rest
sites (call t op f opening rest) = (kind_of op, t) ∷ sites opening ++ sites rest
sites (ends t op rest) = (kind_of op, t) ∷ sites rest

-- code with its operations numbered in that order, from a first number on
abbrev pub numbered : {A : Type 0} → ℕ → Code A → Code ℕ
numbered n done = done
numbered n (perform t op rest) = perform n op (numbered (suc n) rest)
numbered n (choose t op a b rest) =
    choose n op (numbered (suc n) a) (numbered (suc n + size a) b)
    (numbered (suc n + size a + size b) rest)
numbered n (while test body step rest) =
    while (numbered n test) (numbered (n + size test) body)
    (numbered (n + size test + size body) step)
    (numbered (n + size test + size body + size step) rest)
numbered n (until body test rest) =
    until (numbered n body) (numbered (n + size body) test)
    (numbered (n + size body + size test) rest)
numbered n (turn test body step rest) =
    turn (numbered n test) (numbered (n + size test) body)
    (numbered (n + size test + size body) step)
    (numbered (n + size test + size body + size step) rest)
numbered n (again test body step rest) =
    again (numbered n test) (numbered (n + size test) body)
    (numbered (n + size test + size body) step)
    (numbered (n + size test + size body + size step) rest)
numbered n (quit t op rest) = quit n op (numbered (suc n) rest)
numbered n (break rest) = break (numbered n rest)
numbered n (continue rest) = continue (numbered n rest)
numbered n (call t op f opening rest) =
    call n op f (numbered (suc n) opening) (numbered (suc n + size opening) rest)
numbered n (ends t op rest) = ends n op (numbered (suc n) rest)
