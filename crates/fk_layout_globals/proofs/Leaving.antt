-- A constant's operations leave what it is worth.
use Rattle.std.proofs.Common.{◌≡◌, ℕ, ◌<◌, ◌^◌, ◌==◌, Bool, true, false, not, ◌||◌, refl, ap, ◌∙◌, true≢false}
use Rattle.std.specs.Prelude.{if◌then◌else◌}
use Rattle.std.specs.Int.{from_bool}
use Rattle.std.proofs.Math.Nat.{mod-eq_of_lt}
use Rattle.fk_num.specs.declared.operator.Op.TheVariants as n
use Rattle.fk_syntax.specs.declared.sign.Sign.{Sign}
use Rattle.fk_syntax.specs.declared.sign.Sign.TheVariants as g
use Rattle.fk_syntax.specs.declared.place.Spot.{Spot}
use Rattle.fk_syntax.specs.Tree as t
use Rattle.fk_syntax.specs.Tree.{Tree, Links}
use Rattle.fk_meaning_forms.specs.declared.signs.Move.{Move}
use Rattle.fk_meaning_forms.specs.declared.signs.Move.TheVariants.{Forth, Back, NoMove}
use Rattle.fk_meaning_operation.specs.declared.operation.Operation.TheVariants as o
use Rattle.fk_meaning_operation.specs.declared.operation.Unary.TheVariants as u
use Rattle.fk_meaning_operation.specs.declared.operation.SplitKind.TheVariants.{IfElse, AndThen, OrElse}
use Rattle.fk_syntax.specs.declared.facts.Note.{Note}
use Rattle.fk_meaning_forms.specs.Code.{done, choose}
use Rattle.fk_meaning_forms.specs.Tables.{Tables, note, kind_at, is_unsigned, is_void}
use Rattle.fk_meaning_forms.specs.Signs.{operator_of, is_shift, move_of}
use Rattle.fk_meaning_forms.specs.Expressions.{Coded, Evaluation, ResultLocation, OnList, Signature, token, valued, value_of, plain, nowhere, prefixed, joined, operate, moved, agreed, logical, truth, chosen, evaluated, linked, dropped}
use Rattle.fk_meaning.specs.Processor.{Processor, Setting, push}
use Rattle.fk_layout_globals.specs.Constants as c
use Rattle.fk_layout_globals.specs.Constants.{worth, worth_of_links, behind_sign, operated, linked_by}
use Rattle.fk_layout_globals.specs.Leaves.{behind, StandsInConstants, IsWhole, IsLink, IsConstant, AreConstant, LeavesItsWorth}

module _ (set : Setting) where
  operator-joins : (sign : Sign) (unsigned : Bool) (a b : ℕ) (p : Processor) (rest : Coded) → behind set (plain (operator_of sign unsigned) rest) (push b (push a p)) ≡ behind set rest (push (c.joined (operator_of sign unsigned) a b) p)
  operator-joins g.Plus unsigned a b p rest = refl
  operator-joins g.Minus unsigned a b p rest = refl
  operator-joins g.Star unsigned a b p rest = refl
  operator-joins g.Slash unsigned a b p rest = refl
  operator-joins g.Percent unsigned a b p rest = refl
  operator-joins g.Ampersand unsigned a b p rest = refl
  operator-joins g.Bar unsigned a b p rest = refl
  operator-joins g.Caret unsigned a b p rest = refl
  operator-joins g.Tilde unsigned a b p rest = refl
  operator-joins g.Exclamation unsigned a b p rest = refl
  operator-joins g.ShiftLeft unsigned a b p rest = refl
  operator-joins g.ShiftRight unsigned a b p rest = refl
  operator-joins g.LessThan unsigned a b p rest = refl
  operator-joins g.LessOrEqual unsigned a b p rest = refl
  operator-joins g.GreaterThan unsigned a b p rest = refl
  operator-joins g.GreaterOrEqual unsigned a b p rest = refl
  operator-joins g.EqualTo unsigned a b p rest = refl
  operator-joins g.NotEqualTo unsigned a b p rest = refl
  operator-joins g.AndAnd unsigned a b p rest = refl
  operator-joins g.OrOr unsigned a b p rest = refl
  operator-joins g.Assign unsigned a b p rest = refl
  operator-joins g.PlusAssign unsigned a b p rest = refl
  operator-joins g.MinusAssign unsigned a b p rest = refl
  operator-joins g.StarAssign unsigned a b p rest = refl
  operator-joins g.SlashAssign unsigned a b p rest = refl
  operator-joins g.PercentAssign unsigned a b p rest = refl
  operator-joins g.AmpersandAssign unsigned a b p rest = refl
  operator-joins g.BarAssign unsigned a b p rest = refl
  operator-joins g.CaretAssign unsigned a b p rest = refl
  operator-joins g.ShiftLeftAssign unsigned a b p rest = refl
  operator-joins g.ShiftRightAssign unsigned a b p rest = refl
  operator-joins g.Increment unsigned a b p rest = refl
  operator-joins g.Decrement unsigned a b p rest = refl
  operator-joins g.Comma unsigned a b p rest = refl

  move-moves : (by : Move) (step : ℕ) (sign : Sign) (unsigned : Bool) (a b : ℕ) (p : Processor) (rest : Coded) → behind set (moved by step (operator_of sign unsigned) rest) (push b (push a p)) ≡ behind set rest (push (c.moved by step (operator_of sign unsigned) a b) p)
  move-moves Forth step sign unsigned a b p rest = refl
  move-moves Back step sign unsigned a b p rest = refl
  move-moves NoMove step sign unsigned a b p rest = operator-joins sign unsigned a b p rest

  by-step : (plain? : Bool) (by : Move) (step : ℕ) (sign : Sign) (unsigned : Bool) (a b : ℕ) (p : Processor) (rest : Coded)
      → behind set (if plain? then plain (operator_of sign unsigned) rest else moved by step (operator_of sign unsigned) rest) (push b (push a p))
      ≡ behind set rest (push (if plain? then c.joined (operator_of sign unsigned) a b else c.moved by step (operator_of sign unsigned) a b) p)
  by-step true by step sign unsigned a b p rest = operator-joins sign unsigned a b p rest
  by-step false by step sign unsigned a b p rest = move-moves by step sign unsigned a b p rest

  agree-changes-nothing : (sync : Bool) (rest : Coded) (p : Processor) → behind set (agreed sync rest) p ≡ behind set rest p
  agree-changes-nothing true rest p = refl
  agree-changes-nothing false rest p = refl

  -- one way, where no group splits
  goes-on : (splits sync : Bool) → splits ≡ false → (aside onward : Coded) (p : Processor) → behind set (if splits then aside else agreed sync onward) p ≡ behind set onward p
  goes-on true sync h aside onward p = absurd (true≢false h)
  goes-on false sync h aside onward p = agree-changes-nothing sync onward p

  one-of : (is_zero : Bool) (first second : Processor) (v w : ℕ) (p : Processor) → first ≡ push v p → second ≡ push w p → (if not is_zero then first else second) ≡ push (if is_zero then w else v) p
  one-of true first second v w p x y = y
  one-of false first second v w p x y = x

  other-of : (is_zero : Bool) (first second : Processor) (v w : ℕ) (p : Processor) → first ≡ push v p → second ≡ push w p → (if is_zero then first else second) ≡ push (if is_zero then v else w) p
  other-of true first second v w p x y = x
  other-of false first second v w p x y = y

  not-dropped : (void : Bool) → void ≡ false → (a : ℕ) (rest : Coded) (p : Processor) → behind set (if void then rest else plain o.DropLast rest) (push a p) ≡ behind set rest p
  not-dropped true h a rest p = absurd (true≢false h)
  not-dropped false h a rest p = refl

module _ (tables : Tables) (functions : (binding : ℕ) → Signature) (set : Setting) where
  -- whatever comes behind an expression finds its value
  abbrev Leaves : Evaluation → ℕ → Type 0
  Leaves e v = (k : ResultLocation → Coded) (p : Processor) → behind set (e k) p ≡ behind set (k OnList) (push v p)

  as-value : (e : Evaluation) (v : ℕ) → Leaves e v → (rest : Coded) (p : Processor) → behind set (value_of tables functions e rest) p ≡ behind set rest (push v p)
  as-value e v x rest p = x (λ s. valued tables functions s rest) p

  pushed : (n : ℕ) → n < 2 ^ 32 → Leaves (λ k. plain (o.Push n) (k OnList)) n
  pushed n h k p = ap (λ (m : ℕ). behind set (k OnList) (push m p)) (mod-eq_of_lt h)

  operated-leaves : (sign : Sign) (e : Evaluation) (a left : ℕ) (f : Evaluation) (b right : ℕ) → Leaves e a → Leaves f b
      → Leaves (λ k. value_of tables functions e (value_of tables functions f (operate tables functions sign left right (k OnList)))) (operated tables sign left right a b)
  operated-leaves sign e a left f b right x y k p =
      let unsigned : Bool = if is_shift sign then is_unsigned tables left else is_unsigned tables left || is_unsigned tables right in
      as-value e a x (value_of tables functions f (operate tables functions sign left right (k OnList))) p
      ∙ as-value f b y (operate tables functions sign left right (k OnList)) (push a p)
      ∙ by-step set ((kind_at tables left).step == 0) (move_of sign) (kind_at tables left).step sign unsigned a b p (k OnList)

  truth-leaves : (f : Evaluation) (b : ℕ) → Leaves f b → (p : Processor) → behind set (truth tables functions f done) p ≡ push (from_bool (not (b == 0))) p
  truth-leaves f b y p = as-value f b y (plain (o.Push 0) (plain (o.Binary n.Ne false) done)) p

  and-leaves : (spot : Spot) (e : Evaluation) (a : ℕ) (f : Evaluation) (b : ℕ) → IsWhole tables spot.at → Leaves e a → Leaves f b
      → Leaves (logical tables functions spot AndThen true 0 e f) (if a == 0 then 0 else from_bool (not (b == 0)))
  and-leaves spot e a f b whole x y k p =
      let here : Note = note tables spot.at in
      let aside : Coded = choose spot.place (o.Split AndThen) (truth tables functions f (plain o.End done)) done (plain o.Resume (k OnList)) in
      let onward : Coded = choose nowhere (o.Branch true) (truth tables functions f done) (plain (o.Push 0) done) (k OnList) in
      as-value e a x (if here.splits then aside else agreed here.sync onward) p
      ∙ goes-on set here.splits here.sync whole aside onward (push a p)
      ∙ ap (behind set (k OnList)) (one-of set (a == 0) (behind set (truth tables functions f done) p) (push 0 p) (from_bool (not (b == 0))) 0 p (truth-leaves f b y p) refl)

  or-leaves : (spot : Spot) (e : Evaluation) (a : ℕ) (f : Evaluation) (b : ℕ) → IsWhole tables spot.at → Leaves e a → Leaves f b
      → Leaves (logical tables functions spot OrElse false 1 e f) (if a == 0 then from_bool (not (b == 0)) else 1)
  or-leaves spot e a f b whole x y k p =
      let here : Note = note tables spot.at in
      let aside : Coded = choose spot.place (o.Split OrElse) (truth tables functions f (plain o.End done)) done (plain o.Resume (k OnList)) in
      let onward : Coded = choose nowhere (o.Branch false) (truth tables functions f done) (plain (o.Push 1) done) (k OnList) in
      as-value e a x (if here.splits then aside else agreed here.sync onward) p
      ∙ goes-on set here.splits here.sync whole aside onward (push a p)
      ∙ ap (behind set (k OnList)) (other-of set (a == 0) (behind set (truth tables functions f done) p) (push 1 p) (from_bool (not (b == 0))) 1 p (truth-leaves f b y p) refl)

  chosen-leaves : (spot : Spot) (e : Evaluation) (a : ℕ) (f : Evaluation) (b : ℕ) (g : Evaluation) (d : ℕ) → IsWhole tables spot.at → Leaves e a → Leaves f b → Leaves g d
      → Leaves (chosen tables functions spot e f g) (if a == 0 then d else b)
  chosen-leaves spot e a f b g d whole x y z k p =
      let here : Note = note tables spot.at in
      let aside : Coded = choose spot.place (o.Split IfElse) (value_of tables functions f (plain o.End done)) (value_of tables functions g (plain o.End done)) (plain o.Resume (k OnList)) in
      let onward : Coded = choose nowhere (o.Branch true) (value_of tables functions f done) (value_of tables functions g done) (k OnList) in
      as-value e a x (if here.splits then aside else agreed here.sync onward) p
      ∙ goes-on set here.splits here.sync whole aside onward (push a p)
      ∙ ap (behind set (k OnList)) (one-of set (a == 0) (behind set (value_of tables functions f done) p) (behind set (value_of tables functions g done) p) b d p (as-value f b y done p) (as-value g d z done p))

  comma-leaves : (e : Evaluation) (a left : ℕ) (f : Evaluation) (b : ℕ) → is_void tables left ≡ false → Leaves e a → Leaves f b
      → Leaves (λ k. value_of tables functions e (dropped tables functions left (value_of tables functions f (k OnList)))) b
  comma-leaves e a left f b h x y k p =
      as-value e a x (dropped tables functions left (value_of tables functions f (k OnList))) p
      ∙ not-dropped set (is_void tables left) h a (value_of tables functions f (k OnList)) p
      ∙ as-value f b y (k OnList) p

  joined-leaves : (spot : Spot) (sign : Sign) (e : Evaluation) (a left : ℕ) (f : Evaluation) (b right : ℕ) → IsLink tables sign left spot.at → Leaves e a → Leaves f b
      → Leaves (joined tables functions spot sign e left f right) (linked_by tables sign left right a b)
  joined-leaves spot g.Plus e a left f b right h x y = operated-leaves g.Plus e a left f b right x y
  joined-leaves spot g.Minus e a left f b right h x y = operated-leaves g.Minus e a left f b right x y
  joined-leaves spot g.Star e a left f b right h x y = operated-leaves g.Star e a left f b right x y
  joined-leaves spot g.Slash e a left f b right h x y = operated-leaves g.Slash e a left f b right x y
  joined-leaves spot g.Percent e a left f b right h x y = operated-leaves g.Percent e a left f b right x y
  joined-leaves spot g.Ampersand e a left f b right h x y = operated-leaves g.Ampersand e a left f b right x y
  joined-leaves spot g.Bar e a left f b right h x y = operated-leaves g.Bar e a left f b right x y
  joined-leaves spot g.Caret e a left f b right h x y = operated-leaves g.Caret e a left f b right x y
  joined-leaves spot g.Tilde e a left f b right h x y = operated-leaves g.Tilde e a left f b right x y
  joined-leaves spot g.Exclamation e a left f b right h x y = operated-leaves g.Exclamation e a left f b right x y
  joined-leaves spot g.ShiftLeft e a left f b right h x y = operated-leaves g.ShiftLeft e a left f b right x y
  joined-leaves spot g.ShiftRight e a left f b right h x y = operated-leaves g.ShiftRight e a left f b right x y
  joined-leaves spot g.LessThan e a left f b right h x y = operated-leaves g.LessThan e a left f b right x y
  joined-leaves spot g.LessOrEqual e a left f b right h x y = operated-leaves g.LessOrEqual e a left f b right x y
  joined-leaves spot g.GreaterThan e a left f b right h x y = operated-leaves g.GreaterThan e a left f b right x y
  joined-leaves spot g.GreaterOrEqual e a left f b right h x y = operated-leaves g.GreaterOrEqual e a left f b right x y
  joined-leaves spot g.EqualTo e a left f b right h x y = operated-leaves g.EqualTo e a left f b right x y
  joined-leaves spot g.NotEqualTo e a left f b right h x y = operated-leaves g.NotEqualTo e a left f b right x y
  joined-leaves spot g.AndAnd e a left f b right h x y = and-leaves spot e a f b h x y
  joined-leaves spot g.OrOr e a left f b right h x y = or-leaves spot e a f b h x y
  joined-leaves spot g.Assign e a left f b right h x y = operated-leaves g.Assign e a left f b right x y
  joined-leaves spot g.PlusAssign e a left f b right h x y = operated-leaves g.PlusAssign e a left f b right x y
  joined-leaves spot g.MinusAssign e a left f b right h x y = operated-leaves g.MinusAssign e a left f b right x y
  joined-leaves spot g.StarAssign e a left f b right h x y = operated-leaves g.StarAssign e a left f b right x y
  joined-leaves spot g.SlashAssign e a left f b right h x y = operated-leaves g.SlashAssign e a left f b right x y
  joined-leaves spot g.PercentAssign e a left f b right h x y = operated-leaves g.PercentAssign e a left f b right x y
  joined-leaves spot g.AmpersandAssign e a left f b right h x y = operated-leaves g.AmpersandAssign e a left f b right x y
  joined-leaves spot g.BarAssign e a left f b right h x y = operated-leaves g.BarAssign e a left f b right x y
  joined-leaves spot g.CaretAssign e a left f b right h x y = operated-leaves g.CaretAssign e a left f b right x y
  joined-leaves spot g.ShiftLeftAssign e a left f b right h x y = operated-leaves g.ShiftLeftAssign e a left f b right x y
  joined-leaves spot g.ShiftRightAssign e a left f b right h x y = operated-leaves g.ShiftRightAssign e a left f b right x y
  joined-leaves spot g.Increment e a left f b right h x y = operated-leaves g.Increment e a left f b right x y
  joined-leaves spot g.Decrement e a left f b right h x y = operated-leaves g.Decrement e a left f b right x y
  joined-leaves spot g.Comma e a left f b right h x y = comma-leaves e a left f b h x y

  sign-leaves : (spot : Spot) (sign : Sign) (e : Evaluation) (a at : ℕ) → StandsInConstants sign → Leaves e a → Leaves (prefixed tables functions spot sign e at) (behind_sign sign a)
  sign-leaves spot g.Plus e a at h x = λ k p. as-value e a x (k OnList) p
  sign-leaves spot g.Minus e a at h x = λ k p. as-value e a x (plain (o.Apply u.Negate) (k OnList)) p
  sign-leaves spot g.Star e a at h x = absurd h
  sign-leaves spot g.Slash e a at h x = absurd h
  sign-leaves spot g.Percent e a at h x = absurd h
  sign-leaves spot g.Ampersand e a at h x = absurd h
  sign-leaves spot g.Bar e a at h x = absurd h
  sign-leaves spot g.Caret e a at h x = absurd h
  sign-leaves spot g.Tilde e a at h x = λ k p. as-value e a x (plain (o.Apply u.Complement) (k OnList)) p
  sign-leaves spot g.Exclamation e a at h x = λ k p. as-value e a x (plain (o.Apply u.Not) (k OnList)) p
  sign-leaves spot g.ShiftLeft e a at h x = absurd h
  sign-leaves spot g.ShiftRight e a at h x = absurd h
  sign-leaves spot g.LessThan e a at h x = absurd h
  sign-leaves spot g.LessOrEqual e a at h x = absurd h
  sign-leaves spot g.GreaterThan e a at h x = absurd h
  sign-leaves spot g.GreaterOrEqual e a at h x = absurd h
  sign-leaves spot g.EqualTo e a at h x = absurd h
  sign-leaves spot g.NotEqualTo e a at h x = absurd h
  sign-leaves spot g.AndAnd e a at h x = absurd h
  sign-leaves spot g.OrOr e a at h x = absurd h
  sign-leaves spot g.Assign e a at h x = absurd h
  sign-leaves spot g.PlusAssign e a at h x = absurd h
  sign-leaves spot g.MinusAssign e a at h x = absurd h
  sign-leaves spot g.StarAssign e a at h x = absurd h
  sign-leaves spot g.SlashAssign e a at h x = absurd h
  sign-leaves spot g.PercentAssign e a at h x = absurd h
  sign-leaves spot g.AmpersandAssign e a at h x = absurd h
  sign-leaves spot g.BarAssign e a at h x = absurd h
  sign-leaves spot g.CaretAssign e a at h x = absurd h
  sign-leaves spot g.ShiftLeftAssign e a at h x = absurd h
  sign-leaves spot g.ShiftRightAssign e a at h x = absurd h
  sign-leaves spot g.Increment e a at h x = absurd h
  sign-leaves spot g.Decrement e a at h x = absurd h
  sign-leaves spot g.Comma e a at h x = absurd h

  mutual
    pub leaves : (tree : Tree) → IsConstant tables tree → Leaves (evaluated tables functions tree) (worth tables tree)
    leaves (t.Number spot value unsigned) h = pushed value h
    leaves (t.Puts spot text) h = absurd h
    leaves (t.Sizeof spot type) h = pushed (note tables spot.at).binding h
    leaves (t.Variable name) h = absurd h
    leaves (t.GroupNumber spot) h = absurd h
    leaves (t.GroupRank spot) h = absurd h
    leaves (t.Prefix spot sign operand) h = sign-leaves spot sign (evaluated tables functions operand) (worth tables operand) (token operand) h.0 (leaves operand h.1)
    leaves (t.Cast spot type operand) h = λ k p. as-value (evaluated tables functions operand) (worth tables operand) (leaves operand h) (k OnList) p
    leaves (t.Chain first links) h = links-leave (evaluated tables functions first) (worth tables first) (token first) links (leaves first h.0) h.1
    leaves (t.Postfix whole others) h = absurd h
    leaves (t.Assign spot sign target value) h = absurd h
    leaves (t.Choose spot condition first second) h =
        chosen-leaves spot (evaluated tables functions condition) (worth tables condition) (evaluated tables functions first) (worth tables first)
        (evaluated tables functions second) (worth tables second) h.0 (leaves condition h.1) (leaves first h.2) (leaves second h.3)

    links-leave : (e : Evaluation) (a left : ℕ) (links : Links) → Leaves e a → AreConstant tables left links → Leaves (linked tables functions e left links) (worth_of_links tables a left links)
    links-leave e a left t.no_links x h = x
    links-leave e a left (t.link spot sign right others) x h =
        links-leave (joined tables functions spot sign e left (evaluated tables functions right) (token right)) (linked_by tables sign left (token right) a (worth tables right)) spot.at others
        (joined-leaves spot sign e a left (evaluated tables functions right) (worth tables right) (token right) h.0 x (leaves right h.1)) h.2

pub leaves_its_worth : LeavesItsWorth
leaves_its_worth tables functions set p constant rest h =
    as-value tables functions set (evaluated tables functions constant) (worth tables constant) (leaves tables functions set constant h) rest p
