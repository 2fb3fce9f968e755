-- Loops under way: the code that is left at the end of a turn, or at a `break` or `continue`.
use Rattle.fk_meaning_forms.specs.Code.{Code, done, perform, choose, while, until, turn, again}
use Rattle.fk_meaning_forms.specs.Code.{quit, break, continue, call, ends, append}

-- the code after the innermost loop that is under way
abbrev pub broken : {A : Type 0} → Code A → Code A
broken done = done
broken (perform t op rest) = broken rest
broken (choose t op a b rest) = broken rest
broken (while test body step rest) = broken rest
broken (until body test rest) = broken rest
broken (turn test body step rest) = rest
broken (again test body step rest) = rest
broken (quit t op rest) = broken rest
broken (break rest) = broken rest
broken (continue rest) = broken rest
broken (call t op f opening rest) = broken rest
broken (ends t op rest) = broken rest

-- the code after the rest of the turn of that loop
abbrev pub continued : {A : Type 0} → Code A → Code A
continued done = done
continued (perform t op rest) = continued rest
continued (choose t op a b rest) = continued rest
continued (while test body step rest) = continued rest
continued (until body test rest) = continued rest
continued (turn test body step rest) = append step (again test body step rest)
continued (again test body step rest) = append step (again test body step rest)
continued (quit t op rest) = continued rest
continued (break rest) = continued rest
continued (continue rest) = continued rest
continued (call t op f opening rest) = continued rest
continued (ends t op rest) = continued rest

-- code before a loop that is under way, without anything at its beginning that isn't an operation
abbrev pub settled_turn : {A : Type 0} → Code A → Code A
settled_turn (turn test body step rest) = append step (again test body step rest)
settled_turn code = code

abbrev pub opened : {A : Type 0} → Code A → Code A → Code A
opened done more = settled_turn more
opened (perform t op rest) more = perform t op (append rest more)
opened (choose t op a b rest) more = choose t op a b (append rest more)
opened (while test body step rest) more = again test body step (opened rest more)
opened (until body test rest) more = opened body (turn test body done (opened rest more))
opened (turn test body step rest) more = append step (again test body step (append rest more))
opened (again test body step rest) more = again test body step (append rest more)
opened (quit t op rest) more = quit t op (append rest more)
opened (break rest) more = broken (append rest more)
opened (continue rest) more = continued (append rest more)
opened (call t op f opening rest) more = call t op f opening (append rest more)
opened (ends t op rest) more = ends t op (append rest more)

-- code that begins with an operation, or with a loop whose test begins with one
abbrev pub settled : {A : Type 0} → Code A → Code A
settled (while test body step rest) = again test body step (settled rest)
settled (until body test rest) = opened body (turn test body done (settled rest))
settled (turn test body step rest) = append step (again test body step rest)
settled (break rest) = broken rest
settled (continue rest) = continued rest
settled code = code
