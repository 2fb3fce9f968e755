-- A block behind others, and the sites of what is shown.
use Rattle.std.proofs.Common.{◌≡◌, ℕ, suc, ◌+◌, ◌-◌, ◌*◌, ◌^◌, ◌<◌, true, false, cond, List, [], ◌∷◌, ◌++◌, length, get_or, map, drop, replicate, Option, Some, None, refl, ◌∙◌, sym, ap, ap₂, subst, arith}
use Rattle.std.specs.List.{count_by}
use Rattle.std.proofs.Math.Seq.{drop-cons}
use Rattle.std.proofs.lemmas.List.{append_assoc, map-append, replicate_more}
use Rattle.std.proofs.lemmas.List.Sums.{sum_by-append}
use Rattle.fk_syntax.specs.declared.place.Place.{Place}
use Rattle.fk_syntax.specs.declared.program.Item.{Item}
use Rattle.fk_syntax.specs.Program.{Statements, FunctionTree, ItemTree, StructItem, VariablesItem, FunctionItem}
use Rattle.fk_syntax.specs.ProgramView.{item_of}
use Rattle.fk_meaning_forms.specs.Code as c
use Rattle.fk_meaning_forms.specs.Code.{Code, size, numbered}
use Rattle.fk_meaning_forms.specs.Program.{with_body, functions_of, binding_of}
use Rattle.fk_layout_walk.specs.declared.known.ProgramTables.{ProgramTables}
use Rattle.fk_layout_walk.specs.Known.{tables_of}
use Rattle.fk_layout_walk_statements.specs.Texts.{code_in}
use Rattle.fk_lower.specs.Building as b
use Rattle.fk_lower.specs.Building.{Event, has_site, events_of, IsUnbegun}
use Rattle.fk_lower.specs.declared.block.Block.{Block}
use Rattle.fk_lower.specs.declared.fault.LowerFault.{LowerFault}
use Rattle.fk_lower.specs.declared.fault.LowerFault.TheVariants as v
use Rattle.fk_lower.specs.View.{part_of}
use Rattle.fk_lower.specs.BuilderView.{block_code, IsBlockMeasured}
use Rattle.fk_lower.specs.Lowered.{AreMeasured}
use Rattle.fk_lower.specs.Faults.{IsBuildFault}
use Rattle.fk_lower_text.specs.Laid.{codes_of, laid, GoUp, CanBeLaid}

pub codes_more : (blocks : List Block) (block : Block) → codes_of (blocks ++ block ∷ []) ≡ codes_of blocks ++ block_code block ∷ []
codes_more blocks block = map-append block_code blocks (block ∷ [])

pub measured_more : (blocks : List Block) (block : Block) → AreMeasured (map part_of blocks) → IsBlockMeasured block → AreMeasured (map part_of (blocks ++ block ∷ []))
measured_more [] block m h = (h, tt)
measured_more (x ∷ xs) block m h = (m.0, measured_more xs block m.1 h)

-- one binding more without code
pub one_skipped : (old now new : List (Code ℕ)) (k j : ℕ) → now ≡ old ++ replicate k c.done → new ≡ now ++ c.done ∷ [] → k + 1 ≡ j → new ≡ old ++ replicate j c.done
one_skipped old now new k j e f n =
    f ∙ ap (λ (l : List (Code ℕ)). l ++ c.done ∷ []) e ∙ append_assoc old (replicate k c.done) (c.done ∷ [])
    ∙ ap (λ (l : List (Code ℕ)). old ++ l) (replicate_more k c.done ∙ ap (λ m. replicate m c.done) n)

-- a function behind bindings without code
pub one_laid : (known : ProgramTables) (f : FunctionTree) (fs : List FunctionTree) (old mid new : List (Code ℕ)) (count site mid_site binding last behind : ℕ)
    → binding ≡ binding_of (tables_of known) f → mid ≡ old ++ replicate (binding - count) c.done → mid_site ≡ site
    → new ≡ mid ++ numbered mid_site (code_in known f) ∷ [] → last ≡ binding + 1 → behind ≡ mid_site + size (code_in known f)
    → old ++ laid known count site (f ∷ fs) ≡ new ++ laid known last behind fs
one_laid known f fs old mid new count site mid_site binding last behind h e s g n m =
    let own_binding = binding_of (tables_of known) f in
    let none = replicate (own_binding - count) c.done in
    let own = numbered site (code_in known f) in
    let rest = laid known (suc own_binding) (site + size (code_in known f)) fs in
    let k : suc own_binding ≡ last = omega (arith, h, n) in
    let i = ap (λ z. z + size (code_in known f)) (sym s) ∙ sym m in
    let before = ap (λ b. old ++ replicate (b - count) c.done) (sym h) ∙ sym e in
    let whole = ap (λ z. mid ++ numbered z (code_in known f) ∷ []) (sym s) ∙ sym g in
    sym (append_assoc old none (own ∷ rest))
    ∙ ap (λ (l : List (Code ℕ)). l ++ own ∷ rest) before
    ∙ sym (append_assoc mid (own ∷ []) rest)
    ∙ ap₂ (λ (l r : List (Code ℕ)). l ++ r) whole (ap₂ (λ a z. laid known a z fs) k i)

-- where functions can be laid, so can the first one alone, and those behind it
module _ (known : ProgramTables) where
  pub first_laid : (f : FunctionTree) (fs : List FunctionTree) (count site : ℕ) → CanBeLaid known count site (f ∷ fs) → CanBeLaid known count site (f ∷ [])
  first_laid f fs count site can = let few = can.few in record { up = (can.up.0, tt); plain = (can.plain.0, tt); few = omega (arith, few) }

  pub rest_laid : (f : FunctionTree) (fs : List FunctionTree) (count site last behind : ℕ) → last ≡ suc (binding_of (tables_of known) f)
      → behind ≡ site + size (code_in known f) → CanBeLaid known count site (f ∷ fs) → CanBeLaid known last behind fs
  rest_laid f fs count site last behind e s can =
      let few = can.few in
      record { up = subst (λ k. GoUp known k fs) (sym e) can.up.1; plain = can.plain.1; few = omega (arith, few, s) }

  none_laid : (fs : List FunctionTree) (count site : ℕ) → CanBeLaid known count site fs → CanBeLaid known count site []
  none_laid fs count site can = let few = can.few in record { up = tt; plain = tt; few = omega (arith, few) }

  pub item_laid : (x : ItemTree) (others : List ItemTree) (count site : ℕ) → CanBeLaid known count site (functions_of (x ∷ others))
      → CanBeLaid known count site (functions_of (x ∷ []))
  item_laid (StructItem name members) others count site can = none_laid (functions_of others) count site can
  item_laid (VariablesItem variables) others count site can = none_laid (functions_of others) count site can
  item_laid (FunctionItem f) others count site can = by f.body can
    where
      by : (body : Option Statements) → CanBeLaid known count site (with_body f body (functions_of others)) → CanBeLaid known count site (with_body f body [])
      by None can' = none_laid (functions_of others) count site can'
      by (Some body) can' = first_laid f (functions_of others) count site can'

-- the items that are left, one after the other
pub one_left : (items : List Item) (i : ℕ) (x : Item) → i < length items → x ≡ get_or items i x
    → map item_of (drop i items) ≡ item_of x ∷ map item_of (drop (i + 1) items)
one_left items i x less is =
    let n : suc i ≡ i + 1 = omega arith in
    ap (λ (l : List Item). map item_of l) (drop-cons items i x less)
    ∙ ap (λ n. item_of (get_or items i x) ∷ map item_of (drop n items)) n
    ∙ ap (λ (y : Item). item_of y ∷ map item_of (drop (i + 1) items)) (sym is)

-- as many sites as the code has operations
abbrev many : List Event → ℕ
many events = count_by has_site events

two : (xs ys : List Event) → many (xs ++ ys) ≡ many xs + many ys
two xs ys = sum_by-append _ xs ys

one : (op : Event) (events : List Event) (n : ℕ) → has_site op ≡ true → many events ≡ n → many (op ∷ events) ≡ suc n
one op events n is e =
    let first : many (op ∷ []) ≡ 1 = ap (λ b. 0 + cond b 1 0) is in
    let more = two (op ∷ []) events in
    omega (arith, first, more, e)

none : (x : Event) (events : List Event) (n : ℕ) → has_site x ≡ false → many events ≡ n → many (x ∷ events) ≡ n
none x events n is e =
    let first : many (x ∷ []) ≡ 0 = ap (λ b. 0 + cond b 1 0) is in
    let more = two (x ∷ []) events in
    omega (arith, first, more, e)

both : (xs ys : List Event) (n m k : ℕ) → many xs ≡ n → many ys ≡ m → n + m ≡ k → many (xs ++ ys) ≡ k
both xs ys n m k e f h = let all = two xs ys in omega (arith, all, e, f, h)

pub sized : {A : Type 0} (code : Code A) → IsUnbegun code → many (events_of code) ≡ size code
sized c.done u = refl
sized (c.perform t op rest) u = one (b.Perform op) (events_of rest) (size rest) refl (sized rest u)
sized (c.choose t op x y rest) u =
    let ex = b.Choose op ∷ events_of x in
    let ey = b.Aside ∷ events_of y in
    let er = b.Joined ∷ events_of rest in
    both (ex ++ ey) er (suc (size x) + size y) (size rest) (suc (size x + size y + size rest))
    (both ex ey (suc (size x)) (size y) (suc (size x) + size y) (one (b.Choose op) (events_of x) (size x) refl (sized x u.0)) (none b.Aside (events_of y) (size y) refl (sized y u.1)) refl)
    (none b.Joined (events_of rest) (size rest) refl (sized rest u.2)) (omega arith)
sized (c.while test body step rest) u =
    let et = b.While ∷ events_of test in
    let eb = b.Part ∷ events_of body in
    let es = b.Part ∷ events_of step in
    let er = b.Behind ∷ events_of rest in
    both (et ++ eb ++ es) er (size test + size body + size step) (size rest) (size test + size body + size step + size rest)
    (both (et ++ eb) es (size test + size body) (size step) (size test + size body + size step)
    (both et eb (size test) (size body) (size test + size body) (none b.While (events_of test) (size test) refl (sized test u.0)) (none b.Part (events_of body) (size body) refl (sized body u.1)) refl)
    (none b.Part (events_of step) (size step) refl (sized step u.2)) refl)
    (none b.Behind (events_of rest) (size rest) refl (sized rest u.3)) refl
sized (c.until body test rest) u =
    let eb = b.Until ∷ events_of body in
    let et = b.Part ∷ events_of test in
    let er = b.Behind ∷ events_of rest in
    both (eb ++ et) er (size body + size test) (size rest) (size body + size test + size rest)
    (both eb et (size body) (size test) (size body + size test) (none b.Until (events_of body) (size body) refl (sized body u.0)) (none b.Part (events_of test) (size test) refl (sized test u.1)) refl)
    (none b.Behind (events_of rest) (size rest) refl (sized rest u.2)) refl
sized (c.turn test body step rest) u = absurd u
sized (c.again test body step rest) u = absurd u
sized (c.quit t op rest) u = one (b.Quit op) (events_of rest) (size rest) refl (sized rest u)
sized (c.break rest) u = none b.Break (events_of rest) (size rest) refl (sized rest u)
sized (c.continue rest) u = none b.Continue (events_of rest) (size rest) refl (sized rest u)
sized (c.call t op f opening rest) u =
    both (b.Call op f ∷ events_of opening) (b.Returned ∷ events_of rest) (suc (size opening)) (size rest) (suc (size opening + size rest))
    (one (b.Call op f) (events_of opening) (size opening) refl (sized opening u.0)) (none b.Returned (events_of rest) (size rest) refl (sized rest u.1)) (omega arith)
sized (c.ends t op rest) u = one (b.Ends op) (events_of rest) (size rest) refl (sized rest u)

-- what is shown of code that is so short is built, or memory is refused
pub only_memory : (code : Code Place) → IsUnbegun code → (site : ℕ) (events : List Event) → events ≡ events_of code → 3 * (site + size code) < 2 ^ 32
    → (fault : LowerFault) → IsBuildFault site events fault → fault ≡ v.Memory
only_memory code u site events are few v.TooLong long = absurd (omega (arith, few, long, ap many are, sized code u))
only_memory code u site events are few v.Misplaced none = absurd (none code u (sym are))
only_memory code u site events are few v.OutOfRange none = absurd none
only_memory code u site events are few v.Memory is = refl
