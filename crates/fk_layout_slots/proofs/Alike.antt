-- How many private places are taken is told by those before, whatever words and frames are taken.
use Rattle.std.proofs.Common.{◌≡◌, ℕ, ◌==◌, ◌++◌, Bool, true, false, List, [], ◌∷◌, Some, None, Option, map, refl, ap, sym, ◌∙◌, if◌then◌else◌}
use Rattle.fk_syntax.specs.Program as p
use Rattle.fk_syntax.specs.Program.{DeclaredTree, FunctionTree, ItemTree, Statement, Statements}
use Rattle.fk_meaning_forms.specs.Program.{functions_of, with_body}
use Rattle.fk_layout_slots.specs.declared.taken.Taken.{Taken}
use Rattle.fk_layout_slots.specs.Told.{Told, more, splits_at}
use Rattle.fk_layout_slots.specs.Words.{statement_words}
use Rattle.fk_layout_slots.specs.Places.{none_taken, behind_frame, within, outside, behind_private, behind_words, behind_variable, behind_variables, behind_parameter, behind_parameters}
use Rattle.fk_layout_slots.specs.Slots.{begun, begun_two, behind, behind_all, taken_first, at_end, own_of, owns_of}

abbrev Alike : Taken → Taken → Type 0
Alike a b = a.privates ≡ b.privates

-- in both cases
either : (c : Bool) (x y : Taken) (n : ℕ) → x.privates ≡ n → y.privates ≡ n → (if c then x else y).privates ≡ n
either true x y n e f = e
either false x y n e f = f

both : (c : Bool) (x y z w : Taken) → Alike x z → Alike y w → Alike (if c then x else y) (if c then z else w)
both true x y z w e f = e
both false x y z w e f = f

private_alike : (a b : Taken) → Alike a b → Alike (behind_private a) (behind_private b)
unfolding behind_private
private_alike a b e = ap (λ (n : ℕ). more n 1) e

kept_by_frame : (a : Taken) (words : ℕ) → Alike (behind_frame a words) a
unfolding behind_frame
kept_by_frame a words = either (words == 0) a (record a { frames = more a.frames 1 }) a.privates refl refl

begun_alike : (a b : Taken) (words : ℕ) → Alike a b → Alike (within (behind_frame a words)) (within (behind_frame b words))
unfolding within
begun_alike a b words e = kept_by_frame a words ∙ e ∙ sym (kept_by_frame b words)

begun_two_alike : (a b : Taken) (one two : ℕ) → Alike a b
    → Alike (within (behind_frame (behind_frame a one) two)) (within (behind_frame (behind_frame b one) two))
begun_two_alike a b one two e =
    begun_alike (behind_frame a one) (behind_frame b one) two (kept_by_frame a one ∙ e ∙ sym (kept_by_frame b one))

within_alike : (a b : Taken) → Alike a b → Alike (within a) (within b)
unfolding within
within_alike a b e = e

outside_alike : (p q a b : Taken) → Alike a b → Alike (outside p a) (outside q b)
unfolding outside
outside_alike p q a b e = e

module _ (told : Told) where
  variable_alike : (a b : Taken) (x : DeclaredTree) → Alike a b → Alike (behind_variable told a x) (behind_variable told b x)
  unfolding behind_variable behind_words
  variable_alike a b x e = both x.shared (behind_words told a x) (behind_private a) (behind_words told b x) (behind_private b) e (private_alike a b e)

  parameter_alike : (a b : Taken) (x : DeclaredTree) → Alike a b → Alike (behind_parameter told a x) (behind_parameter told b x)
  unfolding behind_parameter behind_words
  parameter_alike a b x e =
      private_alike (if x.shared then behind_words told a x else a) (if x.shared then behind_words told b x else b)
      (both x.shared (behind_words told a x) a (behind_words told b x) b e e)

  variables_alike : (xs : List DeclaredTree) (a b : Taken) → Alike a b → Alike (behind_variables told a xs) (behind_variables told b xs)
  variables_alike [] a b e = e
  variables_alike (x ∷ xs) a b e = variables_alike xs (behind_variable told a x) (behind_variable told b x) (variable_alike a b x e)

  parameters_alike : (xs : List DeclaredTree) (a b : Taken) → Alike a b → Alike (behind_parameters told a xs) (behind_parameters told b xs)
  parameters_alike [] a b e = e
  parameters_alike (x ∷ xs) a b e = parameters_alike xs (behind_parameter told a x) (behind_parameter told b x) (parameter_alike a b x e)

  abbrev IsAlike : Statement → Type 0
  IsAlike s = (a b : Taken) → Alike a b → Alike (behind told a s) (behind told b s)

  -- a body that has a frame, and one that has it where the group splits
  framed_alike : (body : Statement) → IsAlike body → (a b : Taken) → Alike a b
      → Alike (outside a (behind told (begun told a body) body)) (outside b (behind told (begun told b body) body))
  framed_alike body h a b e =
      outside_alike a b (behind told (begun told a body) body) (behind told (begun told b body) body)
      (h (begun told a body) (begun told b body) (begun_alike a b (statement_words told 0 body) e))

  split_alike : (c : Bool) (body : Statement) → IsAlike body → (a b : Taken) → Alike a b
      → Alike (if c then outside a (behind told (begun told a body) body) else behind told a body) (if c then outside b (behind told (begun told b body) body) else behind told b body)
  split_alike true body h a b e = framed_alike body h a b e
  split_alike false body h a b e = h a b e

  two_alike : (c : Bool) (first second : Statement) → IsAlike first → IsAlike second → (a b : Taken) → Alike a b
      → Alike (if c then outside a (behind told (within (behind told (begun_two told a first second) first)) second) else behind told (behind told a first) second)
      (if c then outside b (behind told (within (behind told (begun_two told b first second) first)) second) else behind told (behind told b first) second)
  two_alike true first second h k a b e =
      let begun_a : Taken = begun_two told a first second in
      let begun_b : Taken = begun_two told b first second in
      let one = h begun_a begun_b (begun_two_alike a b (statement_words told 0 first) (statement_words told 0 second) e) in
      let in_a : Taken = within (behind told begun_a first) in
      let in_b : Taken = within (behind told begun_b first) in
      outside_alike a b (behind told in_a second) (behind told in_b second)
      (k in_a in_b (within_alike (behind told begun_a first) (behind told begun_b first) one))
  two_alike false first second h k a b e = k (behind told a first) (behind told b first) (h a b e)

  mutual
    alike : (s : Statement) → IsAlike s
    alike p.Empty a b e = e
    alike (p.Expression value) a b e = e
    alike (p.Block list) a b e = all_alike list a b e
    alike (p.Declare variables) a b e = variables_alike variables a b e
    alike (p.If spot condition first) a b e = split_alike (splits_at told spot.at) first (alike first) a b e
    alike (p.IfElse spot condition first second) a b e = two_alike (splits_at told spot.at) first second (alike first) (alike second) a b e
    alike (p.While spot condition body) a b e = split_alike (splits_at told spot.at) body (alike body) a b e
    alike (p.DoWhile spot body condition) a b e = split_alike (splits_at told spot.at) body (alike body) a b e
    alike (p.For spot before condition after body) a b e = split_alike (splits_at told spot.at) body (alike body) a b e
    alike (p.Start spot count body) a b e = framed_alike body (alike body) a b e
    alike (p.Farm spot body) a b e = alike body a b e
    alike (p.Seq spot body) a b e = alike body a b e
    alike (p.Fork spot parts part rank body) a b e = framed_alike body (alike body) a b e
    alike (p.Barrier spot) a b e = e
    alike (p.Break spot) a b e = e
    alike (p.Continue spot) a b e = e
    alike (p.Return spot value) a b e = e

    all_alike : (list : Statements) (a b : Taken) → Alike a b → Alike (behind_all told a list) (behind_all told b list)
    all_alike p.no_statements a b e = e
    all_alike (p.statement first others) a b e = all_alike others (behind told a first) (behind told b first) (alike first a b e)

  -- a function's private places are its own, whatever stands before it
  pub same_privates : (file : Taken) (parameters : List DeclaredTree) (body : Statements)
      → (at_end told file parameters body).privates ≡ (at_end told none_taken parameters body).privates
  same_privates file parameters body =
      all_alike body (behind_parameters told (taken_first told file parameters body) parameters) (behind_parameters told (taken_first told none_taken parameters body) parameters)
      (parameters_alike parameters (taken_first told file parameters body) (taken_first told none_taken parameters body) refl)

  -- what the function of one item takes, and those of the others
  one_more : (f : FunctionTree) (body : Option Statements) (fs : List FunctionTree)
      → map (own_of told) (with_body f body fs) ≡ map (own_of told) (with_body f body []) ++ map (own_of told) fs
  one_more f None fs = refl
  one_more f (Some body) fs = refl

  pub owns_of_more : (item : ItemTree) (items : List ItemTree) → owns_of told (item ∷ items) ≡ owns_of told (item ∷ []) ++ owns_of told items
  owns_of_more (p.StructItem name members) items = refl
  owns_of_more (p.VariablesItem variables) items = refl
  owns_of_more (p.FunctionItem f) items = one_more f f.body (functions_of items)
