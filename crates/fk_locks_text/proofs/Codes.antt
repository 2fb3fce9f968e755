-- The code of the lock's functions, by what the tables say of their tokens.
use Rattle.std.proofs.Common.{◌≡◌, ℕ, ◌*◌, ◌==◌, ◌||◌, Bool, true, false, List, [], ◌∷◌, Option, Some, None, codes, refl, ap, ◌∙◌, if◌then◌else◌}
use Rattle.std.specs.Prelude.{is_some}
use Rattle.std.proofs.lemmas.Bool.{eq-eqb}
use Rattle.fk_num.specs.declared.operator.Op.TheVariants.{Add, Ne}
use Rattle.fk_syntax.specs.declared.place.Place.{Place}
use Rattle.fk_syntax.specs.declared.place.Spot.{Spot}
use Rattle.fk_syntax.specs.declared.facts.Kind.{Kind}
use Rattle.fk_syntax.specs.declared.sign.Sign.TheVariants.{Ampersand, NotEqualTo}
use Rattle.fk_syntax.specs.Tree.{Named, Prefix, Number}
use Rattle.fk_syntax.specs.Program.{FunctionTree, While, Empty}
use Rattle.fk_meaning_operation.specs.declared.operation.Operation.TheVariants as o
use Rattle.fk_meaning_operation.specs.declared.operation.Multiprefix.TheVariants.{MpAdd}
use Rattle.fk_meaning_operation.specs.declared.operation.OwnValue.TheVariants as n
use Rattle.fk_meaning_operation.specs.declared.operation.SplitKind.TheVariants.{Loop}
use Rattle.fk_meaning_operation.specs.declared.operation.Variable.TheVariants as v
use Rattle.fk_meaning_forms.specs.declared.tables.Region.{Region}
use Rattle.fk_meaning_forms.specs.declared.tables.Slot.{Slot}
use Rattle.fk_meaning_forms.specs.Signs.{operator_of, move_of}
use Rattle.fk_meaning_forms.specs.Code.{done, perform, choose, while, quit, ends, numbered}
use Rattle.fk_meaning_forms.specs.Expressions.{Coded, Evaluation, ResultLocation, OnList, AtAddress, InWord, Signature, nowhere, plain, agreed, checked, valued, addressed, assigned, dropped, moved, operate, member, variable, predeclared, placed, calling, called, called_predeclared, multiprefix, evaluated, value}
use Rattle.fk_meaning_forms.specs.Statements.{Inside, leaving, tested, part_frame, executed, body_of}
use Rattle.fk_meaning_forms.specs.Tables.{Tables, no_binding, note, kind_at, is_unsigned, slot, frame_at}
use Rattle.fk_meaning_forms.specs.Program.{code_of, signature_in}
use Rattle.fk_locks_calls.specs.Code.{code_of_take, code_of_give}
use Rattle.fk_locks_tree.specs.Items.{name_at, spot_at, pointed, one_added, take_draw, take_test, take_body, lock_take, give_body, lock_give}
use Rattle.fk_locks_text.proofs.Slots.{private_word}

-- the code of the functions, with the places of its operations
abbrev at : (line column : ℕ) → Place
at line column = record { line = line; column = column }

abbrev word_coded : (offset : ℕ) → Place → Coded → Coded
word_coded offset place rest = plain (o.Get (n.Value (v.Private 0))) (plain (o.Push (4 * offset)) (plain (o.Binary Add false) (perform place (o.Check false) rest)))

abbrev add_coded : (offset : ℕ) → (arrow call : Place) → Coded → Coded
add_coded offset arrow call rest = word_coded offset arrow (perform call (o.Check true) (plain (o.Push 1) (plain (o.Combine MpAdd) rest)))

abbrev test_coded : Coded
test_coded = word_coded 1 (at 2 82) (plain o.Read (plain (o.Get (n.Value (v.Private 1))) (plain (o.Binary Ne false) (quit nowhere (o.Branch true) done))))

abbrev end_coded : Coded
end_coded = ends nowhere (o.Leave false false) done

abbrev take_coded : Coded
take_coded = add_coded 0 (at 2 62) (at 2 54) (plain (o.Set (v.Private 1)) (plain o.DropLast (while test_coded done done end_coded)))

abbrev give_coded : Coded
give_coded = add_coded 1 (at 3 46) (at 3 38) (plain o.DropLast end_coded)

take_numbered : numbered 0 take_coded ≡ code_of_take
take_numbered = refl

give_numbered : numbered 18 give_coded ≡ code_of_give
give_numbered = refl

-- ---- expressions

module _ (T : Tables) (functions : (binding : ℕ) → Signature) where
  -- a variable that is a private word
  private_is : (name : Named) (b i : ℕ) → (note T name.at).binding ≡ b → (b == no_binding) ≡ false → slot T b ≡ private_word i → (k : ResultLocation → Coded) → variable T functions name k ≡ k (InWord (v.Private i))
  private_is name b i bound low home k =
      ap (λ m. if m == no_binding then predeclared T functions name k else placed T functions (slot T m).home (slot T m).index name k) bound
      ∙ ap (λ c. if c then predeclared T functions name k else placed T functions (slot T b).home (slot T b).index name k) low
      ∙ ap (λ (s : Slot). placed T functions s.home s.index name k) home

  -- a call of the predeclared `mpadd`
  mpadd_is : (i line column : ℕ) → (note T i).binding ≡ no_binding → (es : List Evaluation) (k : ResultLocation → Coded)
      → variable T functions (name_at i line column (codes "mpadd")) (calling T functions es k) ≡ multiprefix T functions (name_at i line column (codes "mpadd")) MpAdd es k
  mpadd_is i line column bound es k =
      let name : Named = name_at i line column (codes "mpadd") in
      let test : ((note T i).binding == no_binding) ≡ true = eq-eqb (note T i).binding no_binding bound in
      let on : ResultLocation → Coded = calling T functions es k in
      ap (λ c. if c then predeclared T functions name on else placed T functions (slot T (note T i).binding).home (slot T (note T i).binding).index name on) test
      ∙ ap (λ c. if c then called_predeclared T functions name es k else called T functions name es k) test

  module _ (i line column : ℕ) (l : Named) (b offset : ℕ) (opening address spot number : Spot) (name : Named) (k : ResultLocation → Coded)
      (mpadd_bound : (note T i).binding ≡ no_binding) (l_bound : (note T l.at).binding ≡ b) (low : (b == no_binding) ≡ false) (home : slot T b ≡ private_word 0) (name_bound : (note T name.at).binding ≡ offset) where
    abbrev mpadd : Named
    mpadd = name_at i line column (codes "mpadd")

    -- what follows the address
    abbrev onward : Coded
    onward = perform spot.place (o.Check false) (perform mpadd.place (o.Check true) (plain (o.Push 1) (plain (o.Combine MpAdd) (k OnList))))

    added_is : evaluated T functions (one_added mpadd opening address (pointed l spot name) number) k ≡ add_coded offset spot.place mpadd.place (k OnList)
    added_is =
        mpadd_is i line column mpadd_bound (evaluated T functions (Prefix address Ampersand (pointed l spot name)) ∷ evaluated T functions (Number number 1 false) ∷ []) k
        ∙ private_is l b 0 l_bound low home (λ location. valued T functions location (member T functions name.at onward))
        ∙ ap (λ m. plain (o.Get (n.Value (v.Private 0))) (plain (o.Push (4 * m)) (plain (o.Binary Add false) onward))) name_bound

  -- the test of the loop
  module _ (l_bound : (note T 36).binding ≡ 1) (now_bound : (note T 38).binding ≡ 1) (t_bound : (note T 40).binding ≡ 2) (l_home : slot T 1 ≡ private_word 0) (t_home : slot T 2 ≡ private_word 1)
      (kind : kind_at T 37 ≡ record { words = 1; unsigned = true; array = false; step = 0 }) (split : (note T 34).splits ≡ false) (agree : (note T 34).sync ≡ false) where
    abbrev l : Named
    l = name_at 36 2 81 (codes "l")

    abbrev t : Named
    t = name_at 40 2 91 (codes "t")

    abbrev compared : Coded
    compared = operate T functions NotEqualTo 37 40 (leaving T functions (note T 34))

    abbrev ticket : Coded
    ticket = variable T functions t (λ location. valued T functions location compared)

    abbrev read : Coded → Coded
    read rest = plain (o.Get (n.Value (v.Private 0))) (plain (o.Push (4 * 1)) (plain (o.Binary Add false) (perform (at 2 82) (o.Check false) (plain o.Read rest))))

    abbrev until_read : Coded → Coded
    until_read rest = read (plain (o.Get (n.Value (v.Private 1))) rest)

    leaving_is : leaving T functions (note T 34) ≡ quit nowhere (o.Branch true) done
    leaving_is =
        ap (λ c. if c then quit nowhere o.Shrink done else agreed (note T 34).sync (quit nowhere (o.Branch true) done)) split
        ∙ ap (λ c. agreed c (quit nowhere (o.Branch true) done)) agree

    compared_is : compared ≡ plain (o.Binary Ne false) (quit nowhere (o.Branch true) done)
    compared_is =
        ap (λ (k : Kind). if k.step == 0 then plain (operator_of NotEqualTo (is_unsigned T 37 || is_unsigned T 40)) (leaving T functions (note T 34)) else moved (move_of NotEqualTo) k.step (operator_of NotEqualTo (is_unsigned T 37 || is_unsigned T 40)) (leaving T functions (note T 34))) kind
        ∙ ap (plain (o.Binary Ne false)) leaving_is

    test_is : tested T functions (spot_at 34 2 74) (Some take_test) ≡ test_coded
    test_is =
        private_is l 1 0 l_bound refl l_home (λ location. valued T functions location (member T functions 38 (valued T functions (AtAddress true (spot_at 37 2 82)) ticket)))
        ∙ ap (λ m. plain (o.Get (n.Value (v.Private 0))) (plain (o.Push (4 * m)) (plain (o.Binary Add false) (valued T functions (AtAddress true (spot_at 37 2 82)) ticket)))) now_bound
        ∙ ap (λ (k : Kind). plain (o.Get (n.Value (v.Private 0))) (plain (o.Push (4 * 1)) (plain (o.Binary Add false) (if k.array then ticket else checked T functions true (spot_at 37 2 82) (plain o.Read ticket))))) kind
        ∙ ap read (private_is t 2 1 t_bound refl t_home (λ location. valued T functions location compared))
        ∙ ap until_read compared_is

    -- the loop
    loop_is : (inside : Inside) (rest : Coded) → executed T functions inside (While (spot_at 34 2 74) take_test Empty) rest ≡ while test_coded done done rest
    loop_is inside rest =
        ap (λ c. if c then choose (at 2 74) (o.Split Loop) (part_frame T functions (spot_at 34 2 74) 0 (while (tested T functions (spot_at 34 2 74) (Some take_test)) done done done)) done (plain o.Resume rest)
        else while (tested T functions (spot_at 34 2 74) (Some take_test)) done done rest) split
        ∙ ap (λ test. while test done done rest) test_is

-- ---- functions

module _ (T : Tables) (all : List FunctionTree) (mpadd_bound : (note T 24).binding ≡ no_binding) (l_bound : (note T 27).binding ≡ 1) (next_bound : (note T 29).binding ≡ 0) (ticket_bound : (note T 22).binding ≡ 2)
    (test_l : (note T 36).binding ≡ 1) (test_now : (note T 38).binding ≡ 1) (test_t : (note T 40).binding ≡ 2) (l_home : slot T 1 ≡ private_word 0) (t_home : slot T 2 ≡ private_word 1)
    (kind : kind_at T 37 ≡ record { words = 1; unsigned = true; array = false; step = 0 }) (split : (note T 34).splits ≡ false) (agree : (note T 34).sync ≡ false) (unframed : frame_at T 12 0 ≡ None) where
  abbrev functions : (binding : ℕ) → Signature
  functions = signature_in T all

  abbrev inside : Bool → Inside
  inside framed = record { main = false; framed = framed }

  abbrev ended : Bool → Coded
  ended framed = ends nowhere (o.Leave false framed) done

  abbrev loop : Bool → Coded
  loop framed = executed T functions (inside framed) (While (spot_at 34 2 74) take_test Empty) (ended framed)

  abbrev kept : Coded → Coded
  kept rest = plain (o.Set (v.Private 1)) (plain o.DropLast rest)

  pub take_is : numbered 0 (code_of T all lock_take) ≡ code_of_take
  take_is =
      ap (λ (framed : Option Region). numbered 0 (body_of T functions (inside (is_some framed)) true take_body)) unframed
      ∙ ap (λ code. numbered 0 code) (private_is T functions (name_at 22 2 50 (codes "t")) 2 1 ticket_bound refl t_home
      (λ location. addressed T functions location (value T functions take_draw (assigned T functions location (plain o.DropLast (loop false))))))
      ∙ ap (λ code. numbered 0 code) (added_is T functions 24 2 54 (name_at 27 2 61 (codes "l")) 1 0 (spot_at 25 2 59) (spot_at 26 2 60) (spot_at 28 2 62) (spot_at 31 2 70) (name_at 29 2 64 (codes "next"))
      (λ location. valued T functions location (kept (loop false))) mpadd_bound l_bound refl l_home next_bound)
      ∙ ap (λ rest. numbered 0 (add_coded 0 (at 2 62) (at 2 54) (kept rest))) (loop_is T functions test_l test_now test_t l_home t_home kind split agree (inside false) (ended false))
      ∙ take_numbered

module _ (T : Tables) (all : List FunctionTree) (mpadd_bound : (note T 53).binding ≡ no_binding) (l_bound : (note T 56).binding ≡ 4) (now_bound : (note T 58).binding ≡ 1) (l_home : slot T 4 ≡ private_word 0)
    (kind : kind_at T 54 ≡ record { words = 1; unsigned = true; array = false; step = 0 }) (unframed : frame_at T 45 0 ≡ None) where
  abbrev give_functions : (binding : ℕ) → Signature
  give_functions = signature_in T all

  abbrev give_inside : Bool → Inside
  give_inside framed = record { main = false; framed = framed }

  pub give_is : numbered 18 (code_of T all lock_give) ≡ code_of_give
  give_is =
      ap (λ (framed : Option Region). numbered 18 (body_of T give_functions (give_inside (is_some framed)) true give_body)) unframed
      ∙ ap (λ code. numbered 18 code) (added_is T give_functions 53 3 38 (name_at 56 3 45 (codes "l")) 4 1 (spot_at 54 3 43) (spot_at 55 3 44) (spot_at 57 3 46) (spot_at 60 3 53) (name_at 58 3 48 (codes "now"))
      (λ location. valued T give_functions location (dropped T give_functions 54 end_coded)) mpadd_bound l_bound refl l_home now_bound)
      ∙ ap (λ (k : Kind). numbered 18 (add_coded 1 (at 3 46) (at 3 38) (if k.words == 0 then end_coded else plain o.DropLast end_coded))) kind
      ∙ give_numbered
