-- An expression that breaks no rule of types has a type, calls functions alone, each with the arguments that it takes, and doesn't name `main`.
use Rattle.std.proofs.Common.{◌≡◌, ◌⊎◌, inl, inr, ℕ, Bool, true, false, List, Option, Some, None, refl, sym, subst}
use Rattle.std.specs.Prelude.{is_some}
use Rattle.std.specs.Option.{option_and_then}
use Rattle.std.proofs.lemmas.Bool.{false≢true, and_from}
use Rattle.fk_syntax.specs.declared.facts.Facts.{Facts}
use Rattle.fk_syntax.specs.declared.place.Spot.{Spot}
use Rattle.fk_syntax.specs.declared.sign.Sign.{Sign}
use Rattle.fk_syntax.specs.declared.sign.Sign.TheVariants as s
use Rattle.fk_syntax.specs.Tree as t
use Rattle.fk_syntax.specs.Tree.{Named, Tree, Links, Trees, Suffixes}
use Rattle.fk_syntax.specs.Program.{ProgramTree}
use Rattle.fk_check_rules.specs.declared.rule.Rule.TheVariants as rules
use Rattle.fk_check_rules.specs.Least.{Breaks, either}
use Rattle.fk_types_operators.specs.declared.values.ExpressionType.{ExpressionType}
use Rattle.fk_types_operators.specs.Signs.{binary}
use Rattle.fk_types_judgments.specs.Term as e
use Rattle.fk_types_judgments.specs.Term.{Term, Terms, no_terms, also, count_of, term_of, with_links, with_arguments, with_suffixes, prefix_term, joined_term, first_place}
use Rattle.fk_types_judgments.specs.Names.{Env, Meant, Parameter, Kept, Constant, Called, Main, Undeclared}
use Rattle.fk_types_judgments.specs.Typing.{type_of, value_in, operand_in, is_zero, is_no_target, called_as, parameters_of, struct_of, struct_at}
use Rattle.fk_types_judgments.specs.Broken.{Broken, ArgumentsBreak, as_value, as_called, is_function, is_main, is_undeclared, is_no_function, is_wrong_count, assign_rule}
use Rattle.fk_meaning_forms.specs.Expressions.{Signature}
use Rattle.fk_meaning.specs.Calls as c
use Rattle.fk_lockstep.specs.Told.{Told, LinksTold, SuffixesTold, AllTold}
use Rattle.fk_check_laws.specs.Correct.{IsCorrect}
use Rattle.fk_check_laws.proofs.Typed as y
use Rattle.fk_check_laws.proofs.Typed.{Unbroken, There, Not, so_not, value_there, operand_there}
use Rattle.fk_check_laws.proofs.Notes.{tables}
use Rattle.fk_check_laws.proofs.Named.{env, Known, members_typed, stands_called}

left : {P Q : Breaks} → Unbroken (either P Q) → Unbroken P
left un place rule b = un place rule (inl b)

right : {P Q : Breaks} → Unbroken (either P Q) → Unbroken Q
right un place rule b = un place rule (inr b)

some_true : {X : Type 0} (o : Option X) → There o → is_some o ≡ true
some_true None some = absurd (some refl)
some_true (Some x) some = refl

abbrev pub Any : (at : ℕ) → Type 0
Any at = Unit {0}

-- an expression is no name
abbrev is_compound : Term → Bool
is_compound (e.Use name) = false
is_compound term = true

joined_compound : (spot : Spot) (sign : Sign) (l r : Term) → is_compound (joined_term spot sign l r) ≡ true
joined_compound spot s.Comma l r = refl
joined_compound spot sign l r = refl

links_compound : (before : Term) (x : Links) → is_compound before ≡ true → is_compound (with_links before x) ≡ true
links_compound before t.no_links h = h
links_compound before (t.link spot sign right' others) h = links_compound (joined_term spot sign before (term_of right')) others (joined_compound spot sign before (term_of right'))

suffixes_compound : (before : Term) (x : Suffixes) → is_compound before ≡ true → is_compound (with_suffixes before x) ≡ true
suffixes_compound before t.no_suffixes h = h
suffixes_compound before (t.index spot by others) h = suffixes_compound (e.Index spot before (term_of by)) others refl
suffixes_compound before (t.call spot arguments others) h = suffixes_compound (e.Call spot before (with_arguments no_terms arguments)) others refl
suffixes_compound before (t.dot spot member others) h = suffixes_compound (e.Member spot before member) others refl
suffixes_compound before (t.arrow spot member others) h = suffixes_compound (e.Through spot before member) others refl
suffixes_compound before (t.up spot others) h = suffixes_compound (e.Count spot false before) others refl
suffixes_compound before (t.down spot others) h = suffixes_compound (e.Count spot false before) others refl

prefix_compound : (spot : Spot) (sign : Sign) (u : Term) → is_compound (prefix_term spot sign u) ≡ true
prefix_compound spot s.Star u = refl
prefix_compound spot s.Ampersand u = refl
prefix_compound spot s.Increment u = refl
prefix_compound spot s.Decrement u = refl
prefix_compound spot sign u = refl

no_main : (m : Meant) → Not (is_function m) → Not (is_main m)
no_main Main un is = un refl
no_main (Kept type) un is = false≢true is
no_main (Constant value) un is = false≢true is
no_main (Called parameters result) un is = false≢true is
no_main Undeclared un is = false≢true is

module _ (program : ProgramTree) (facts : Facts) (valid : IsCorrect program facts) (functions : (binding : ℕ) → Signature) where
  abbrev E : Env
  E = env program facts valid

  abbrev pub NoMain : Named → Type 0
  NoMain name = Not (is_main (E.meant name))

  abbrev pub Whole : Term → Type 0
  Whole term = Unbroken (Broken E term)

  abbrev pub Typed : Term → Type 0
  Typed term = y.Typed E term

  abbrev pub IsNamed : Named → Type 0
  IsNamed name = Known program facts valid name

  -- ---- what each form is by its parts

  as_v : (u : Term) → Unbroken (as_value E u (Broken E u)) → Typed u → There (value_in (type_of E u))
  as_v u un ty = value_there (type_of E u) ty (so_not rules.NoValue (first_place u) _ (right un))

  counts : (spot : Spot) (is_before : Bool) (u : Term) → Whole (e.Count spot is_before u) → Typed u → Typed (e.Count spot is_before u)
  counts spot is_before u un ty = y.counted_there (is_no_target E u) (type_of E u) (so_not rules.NoTarget spot.place _ (left (right un))) ty
      (so_not rules.WholeAssigned spot.place _ (left (right (right un)))) (so_not rules.WrongOperands spot.place _ (right (right (right un))))

  prefixed : (spot : Spot) (sign : Sign) (u : Term) → Whole (prefix_term spot sign u) → Whole u × (Typed u → Typed (prefix_term spot sign u))
  prefixed spot s.Star u un = (
    left (left un),
    (λ ty. y.pointed_there (value_in (type_of E u)) (as_v u (left un) ty) (so_not rules.NoPointer spot.place _ (right un))),
  )
  prefixed spot s.Ampersand u un = (left un, (λ ty. y.addressed E spot u (so_not rules.NoTarget spot.place _ (right un)) ty))
  prefixed spot s.Increment u un = (left un, counts spot true u un)
  prefixed spot s.Decrement u un = (left un, counts spot true u un)
  prefixed spot sign u un = (
    left (left un),
    (λ ty. y.prefix_there sign (value_in (type_of E u)) (as_v u (left un) ty) (so_not rules.WrongOperands spot.place _ (right un))),
  )

  joins : (spot : Spot) (sign : Sign) (l r : Term) → Whole (joined_term spot sign l r) → (Whole l × Whole r) × (Typed l → Typed r → Typed (joined_term spot sign l r))
  joins spot s.Comma l r un = (
    (left (left un), left (right un)),
    (λ tl tr. y.comma_there (type_of E l) (type_of E r) tl tr (so_not rules.NoValue (first_place l) _ (right (left un))) (so_not rules.NoValue (first_place r) _ (right (right un)))),
  )
  joins spot sign l r un = (
    (left (left (left un)), left (right (left un))),
    (λ tl tr. y.both_there (binary sign) (operand_in (is_zero l) (type_of E l)) (operand_in (is_zero r) (type_of E r))
        (operand_there (is_zero l) (type_of E l) (as_v l (left (left un)) tl)) (operand_there (is_zero r) (type_of E r) (as_v r (right (left un)) tr))
        (so_not rules.WrongOperands spot.place _ (right un))),
  )

  indexes : (spot : Spot) (l r : Term) → Whole (e.Index spot l r) → Typed l → Typed r → Typed (e.Index spot l r)
  indexes spot l r un tl tr = y.element_there (value_in (type_of E l)) (value_in (type_of E r)) (as_v l (left (left un)) tl) (as_v r (right (left un)) tr)
      (so_not rules.NoPointer spot.place _ (left (right un))) (so_not rules.WrongOperands spot.place _ (right (right un)))

  dots : (spot : Spot) (u : Term) (member : Named) → Whole (e.Member spot u member) → Typed u → Typed (e.Member spot u member)
  dots spot u member un ty = y.member_there E (members_typed program facts valid) (option_and_then struct_of (type_of E u)) member
      (λ h. so_not rules.NoMember spot.place _ (right un) (and_from _ _ (some_true (type_of E u) ty) h))

  points : (spot : Spot) (u : Term) (member : Named) → Whole (e.Through spot u member) → Typed u → Typed (e.Through spot u member)
  points spot u member un ty = y.member_there E (members_typed program facts valid) (option_and_then struct_at (value_in (type_of E u))) member
      (λ h. so_not rules.NoMember spot.place _ (right un) (and_from _ _ (some_true (value_in (type_of E u)) (as_v u (left un) ty)) h))

  assigns : (spot : Spot) (sign : Sign) (l r : Term) → Whole (e.Assign spot sign l r) → Typed l → Typed r → Typed (e.Assign spot sign l r)
  assigns spot sign l r un tl tr = y.assigned_there (is_no_target E l) sign (type_of E l) (operand_in (is_zero r) (type_of E r))
      (so_not rules.NoTarget spot.place _ (left (right un))) tl (operand_there (is_zero r) (type_of E r) (as_v r (right (left un)) tr))
      (so_not rules.WholeAssigned spot.place _ (left (right (right un)))) (so_not (assign_rule sign) spot.place _ (right (right (right un))))

  chooses : (spot : Spot) (u l r : Term) → Whole (e.Choose spot u l r) → Typed u → Typed l → Typed r → Typed (e.Choose spot u l r)
  chooses spot u l r un tu tl tr = y.chosen_there (value_in (type_of E u)) (operand_in (is_zero l) (type_of E l)) (operand_in (is_zero r) (type_of E r))
      (value_there (type_of E u) tu (so_not rules.NoCondition (first_place u) _ (right (left (left un)))))
      (operand_there (is_zero l) (type_of E l) (as_v l (left (right (left un))) tl)) (operand_there (is_zero r) (type_of E r) (as_v r (right (right (left un))) tr))
      (so_not rules.WrongOperands spot.place _ (right un))

  -- what is no name is no function
  called_whole : (u : Term) → is_compound u ≡ true → Unbroken (as_called E u (Broken E u)) → Whole u
  called_whole (e.Use name) h un = absurd (false≢true h)
  called_whole u h un = un

  never_called : (u : Term) (T : Option ExpressionType) → is_compound u ≡ true → There T → Not (is_no_function (called_as E u T)) → ⊥
  never_called u None h some un = some refl
  never_called (e.Use name) (Some x) h some un = false≢true h
  never_called u (Some x) h some un = un refl

  -- by which arguments a name takes
  module _ (T : Named → Trees → Type 0)
      (takes_of : (name : Named) → Known program facts valid name → (arguments : Trees) → Not (is_no_function (E.meant name)) → Not (is_wrong_count (E.meant name) (count_of (with_arguments no_terms arguments))) → T name arguments) where
    abbrev pub Fits : Tree → Type 0
    Fits x = c.Fits (tables program facts valid) functions T x

    -- what is called is a name, through chains without signs and what has no suffix, or no name at all
    pub record IsCallee (whole : Tree) (name : Named) : Type 0 where
      pub term : term_of whole ≡ e.Use name
      pub fits : Fits whole
      pub calls : (arguments : Trees) → c.CallFits (tables program facts valid) functions T (t.Variable name) arguments
          → c.CallFits (tables program facts valid) functions T whole arguments
      pub named : Told Any IsNamed whole → IsNamed name
      pub plain : NoMain name → Told Any NoMain whole

    callee : (whole : Tree) → ((name : Named) × IsCallee whole name) ⊎ (is_compound (term_of whole) ≡ true)
    callee (t.Variable name) = inl (name, record { term = refl; fits = tt; calls = λ arguments h. h; named = λ h. h; plain = λ h. h })
    callee (t.Chain first t.no_links) = elim (callee first) [
      | inl h ↦ inl (h.0, record { term = h.1.term; fits = (h.1.fits, tt); calls = h.1.calls; named = λ n. h.1.named n.0; plain = λ n. (h.1.plain n, tt) })
      | inr h ↦ inr h
    ]
    callee (t.Chain first (t.link spot sign right' others)) =
        inr (links_compound (joined_term spot sign (term_of first) (term_of right')) others (joined_compound spot sign (term_of first) (term_of right')))
    callee (t.Postfix whole t.no_suffixes) = elim (callee whole) [
      | inl h ↦ inl (h.0, record { term = h.1.term; fits = (h.1.fits, tt); calls = h.1.calls; named = λ n. h.1.named n.0; plain = λ n. (h.1.plain n, tt) })
      | inr h ↦ inr h
    ]
    callee (t.Postfix whole (t.index spot by others)) = inr (suffixes_compound (e.Index spot (term_of whole) (term_of by)) others refl)
    callee (t.Postfix whole (t.call spot arguments others)) = inr (suffixes_compound (e.Call spot (term_of whole) (with_arguments no_terms arguments)) others refl)
    callee (t.Postfix whole (t.dot spot member others)) = inr (suffixes_compound (e.Member spot (term_of whole) member) others refl)
    callee (t.Postfix whole (t.arrow spot member others)) = inr (suffixes_compound (e.Through spot (term_of whole) member) others refl)
    callee (t.Postfix whole (t.up spot others)) = inr (suffixes_compound (e.Count spot false (term_of whole)) others refl)
    callee (t.Postfix whole (t.down spot others)) = inr (suffixes_compound (e.Count spot false (term_of whole)) others refl)
    callee (t.Number spot value unsigned) = inr refl
    callee (t.Puts spot text) = inr refl
    callee (t.Sizeof spot type) = inr refl
    callee (t.GroupNumber spot) = inr refl
    callee (t.GroupRank spot) = inr refl
    callee (t.Prefix spot sign operand) = inr (prefix_compound spot sign (term_of operand))
    callee (t.Cast spot type operand) = inr refl
    callee (t.Assign spot sign target value) = inr refl
    callee (t.Choose spot condition first second) = inr refl

    -- ---- expressions

    pub record IsRead (x : Tree) : Type 0 where
      pub fits : Fits x
      pub plain : Told Any NoMain x
      pub typed : Typed (term_of x)

    mutual
      pub read : (x : Tree) → Whole (term_of x) → Told Any IsNamed x → IsRead x
      read (t.Number spot value unsigned) un n = record { fits = tt; plain = tt; typed = λ h. cc }
      read (t.Puts spot text) un n = record { fits = tt; plain = tt; typed = λ h. cc }
      read (t.Sizeof spot type) un n = record { fits = tt; plain = tt; typed = y.sizeof_there E.structs type.base type.stars spot.place un }
      read (t.Variable name) un n =
          let f = so_not rules.NoFunction name.place (is_function (E.meant name)) (right un) in
          record {
            fits = tt;
            plain = no_main (E.meant name) f;
            typed = λ h. n (λ meaning k. y.name_there (E.meant name) k.good (so_not rules.Undeclared name.place (is_undeclared (E.meant name)) (left un)) f h);
          }
      read (t.GroupNumber spot) un n = record { fits = tt; plain = tt; typed = λ h. cc }
      read (t.GroupRank spot) un n = record { fits = tt; plain = tt; typed = λ h. cc }
      read (t.Prefix spot sign operand) un n =
          let p = prefixed spot sign (term_of operand) un in
          let r = read operand p.0 n in
          record { fits = r.fits; plain = r.plain; typed = p.1 r.typed }
      read (t.Cast spot type operand) un n =
          let r = read operand (left (left un)) n in
          record {
            fits = r.fits;
            plain = r.plain;
            typed = y.cast_there E.structs type.base type.stars (value_in (type_of E (term_of operand))) (as_v (term_of operand) (left un) r.typed)
                (left (right un)) (so_not rules.WrongOperands spot.place _ (right (right un)));
          }
      read (t.Chain first links) un n =
          let h = chain (term_of first) links un n.1 in
          let r = read first h.0 n.0 in
          record { fits = (r.fits, h.1); plain = (r.plain, h.2); typed = h.3 r.typed }
      read (t.Postfix whole suffixes) un n = let h = postfix whole (λ un'. read whole un' n.0) suffixes un n.0 n.1 in record { fits = h.0; plain = h.1; typed = h.2 }
      read (t.Assign spot sign target value) un n =
          let a = read target (left (left un)) n.0 in
          let b = read value (left (right (left un))) n.1 in
          record { fits = (a.fits, b.fits); plain = (a.plain, b.plain); typed = assigns spot sign (term_of target) (term_of value) un a.typed b.typed }
      read (t.Choose spot condition first second) un n =
          let a = read condition (left (left (left un))) n.1 in
          let b = read first (left (left (right (left un)))) n.2 in
          let d = read second (left (right (right (left un)))) n.3 in
          record {
            fits = (a.fits, b.fits, d.fits);
            plain = (tt, a.plain, b.plain, d.plain);
            typed = chooses spot (term_of condition) (term_of first) (term_of second) un a.typed b.typed d.typed;
          }

      -- signs behind an expression
      chain : (before : Term) (x : Links) → Whole (with_links before x) → LinksTold Any IsNamed x
          → Whole before × c.LinksFit (tables program facts valid) functions T x × LinksTold Any NoMain x × (Typed before → Typed (with_links before x))
      chain before t.no_links un n = (un, tt, tt, (λ h. h))
      chain before (t.link spot sign right' others) un n =
          let h = chain (joined_term spot sign before (term_of right')) others un n.2 in
          let j = joins spot sign before (term_of right') h.0 in
          let r = read right' j.0.1 n.1 in
          (j.0.0, (r.fits, h.1), ((λ is. tt), r.plain, h.2), (λ ty. h.3 (j.1 ty r.typed)))

      arguments_read : (ps : List Parameter) (before : Terms) (x : Trees) → Unbroken (ArgumentsBreak E ps (with_arguments before x)) → AllTold Any IsNamed x
          → Unbroken (ArgumentsBreak E ps before) × c.AllFit (tables program facts valid) functions T x × AllTold Any NoMain x
          × (y.AllTyped E before → y.AllTyped E (with_arguments before x))
      arguments_read ps before t.no_trees un n = (un, tt, tt, (λ h. h))
      arguments_read ps before (t.tree first others) un n =
          let h = arguments_read ps (also before (term_of first)) others un n.1 in
          let r = read first (left (left (right h.0))) n.0 in
          (left h.0, (r.fits, h.1), (r.plain, h.2), (λ ty. h.3 (ty, as_v (term_of first) (left (right h.0)) r.typed)))

      -- suffixes behind what is no name
      later : (before : Term) (x : Suffixes) → is_compound before ≡ true → Whole (with_suffixes before x) → SuffixesTold Any IsNamed x
          → Whole before × (Typed before → c.SuffixesFit (tables program facts valid) functions T x × SuffixesTold Any NoMain x × Typed (with_suffixes before x))
      later before t.no_suffixes compound un n = (un, (λ ty. (tt, tt, ty)))
      later before (t.index spot by others) compound un n =
          let h = later (e.Index spot before (term_of by)) others refl un n.1 in
          let r = read by (left (right (left h.0))) n.0 in (
            left (left (left h.0)),
            (λ ty. let more = h.1 (indexes spot before (term_of by) h.0 ty r.typed) in ((r.fits, more.0), (r.plain, more.1), more.2)),
          )
      later before (t.call spot arguments others) compound un n =
          let h = later (e.Call spot before (with_arguments no_terms arguments)) others refl un n.1 in (
            called_whole before compound (left (left h.0)),
            (λ ty. absurd (never_called before (type_of E before) compound ty (so_not rules.NoFunction spot.place _ (left (right h.0))))),
          )
      later before (t.dot spot member others) compound un n =
          let h = later (e.Member spot before member) others refl un n in (left h.0, (λ ty. h.1 (dots spot before member h.0 ty)))
      later before (t.arrow spot member others) compound un n =
          let h = later (e.Through spot before member) others refl un n in (left (left h.0), (λ ty. h.1 (points spot before member h.0 ty)))
      later before (t.up spot others) compound un n =
          let h = later (e.Count spot false before) others refl un n in (left h.0, (λ ty. h.1 (counts spot false before h.0 ty)))
      later before (t.down spot others) compound un n =
          let h = later (e.Count spot false before) others refl un n in (left h.0, (λ ty. h.1 (counts spot false before h.0 ty)))

      -- suffixes behind an expression, the first of which may be a call
      postfix : (whole : Tree) → (Whole (term_of whole) → IsRead whole) → (x : Suffixes) → Whole (with_suffixes (term_of whole) x) → Told Any IsNamed whole → SuffixesTold Any IsNamed x
          → (Fits whole × c.FirstFits (tables program facts valid) functions T whole x) × (Told Any NoMain whole × SuffixesTold Any NoMain x)
          × Typed (with_suffixes (term_of whole) x)
      postfix whole go t.no_suffixes un w n = let r = go un in ((r.fits, tt), (r.plain, tt), r.typed)
      postfix whole go (t.index spot by others) un w n =
          let h = later (e.Index spot (term_of whole) (term_of by)) others refl un n.1 in
          let a = go (left (left (left h.0))) in
          let b = read by (left (right (left h.0))) n.0 in
          let more = h.1 (indexes spot (term_of whole) (term_of by) h.0 a.typed b.typed) in
          ((a.fits, (b.fits, more.0)), (a.plain, (b.plain, more.1)), more.2)
      postfix whole go (t.call spot arguments others) un w n =
          let h = later (e.Call spot (term_of whole) (with_arguments no_terms arguments)) others refl un n.1 in
          elim (callee whole) [
            | inl k ↦
                let un' : Whole (e.Call spot (e.Use k.0) (with_arguments no_terms arguments)) = subst (λ (u : Term). Whole (e.Call spot u (with_arguments no_terms arguments))) k.1.term h.0 in
                let known = k.1.named w in
                let m = E.meant k.0 in
                let undeclared = so_not rules.Undeclared k.0.place (is_undeclared m) (left (left (left un'))) in
                let main = so_not rules.MainCalled k.0.place (is_main m) (right (left (left un'))) in
                let callable = so_not rules.NoFunction spot.place (is_no_function m) (left (right un')) in
                let counted = so_not rules.WrongCount spot.place _ (right (right un')) in
                let given = arguments_read (parameters_of m) no_terms arguments (right (left un')) n.0 in
                let ty : Typed (e.Call spot (e.Use k.0) (with_arguments no_terms arguments)) =
                λ none. known (λ meaning is. y.call_there E m is.good (with_arguments no_terms arguments) undeclared main callable counted (right (left un')) (given.3 tt) none) in
                let more = h.1 (subst (λ (u : Term). Typed (e.Call spot u (with_arguments no_terms arguments))) (sym k.1.term) ty) in
                ((k.1.fits, (k.1.calls arguments (stands_called program facts valid k.0 known (count_of (with_arguments no_terms arguments)) callable counted functions, takes_of k.0 known arguments callable counted), given.1, more.0)), (k.1.plain main, (given.2, more.1)), more.2)
            | inr compound ↦
                let r = go (called_whole (term_of whole) compound (left (left h.0))) in
                absurd (never_called (term_of whole) (type_of E (term_of whole)) compound r.typed (so_not rules.NoFunction spot.place _ (left (right h.0))))
          ]
      postfix whole go (t.dot spot member others) un w n =
          let h = later (e.Member spot (term_of whole) member) others refl un n in
          let r = go (left h.0) in
          let more = h.1 (dots spot (term_of whole) member h.0 r.typed) in
          ((r.fits, more.0), (r.plain, more.1), more.2)
      postfix whole go (t.arrow spot member others) un w n =
          let h = later (e.Through spot (term_of whole) member) others refl un n in
          let r = go (left (left h.0)) in
          let more = h.1 (points spot (term_of whole) member h.0 r.typed) in
          ((r.fits, more.0), (r.plain, more.1), more.2)
      postfix whole go (t.up spot others) un w n =
          let h = later (e.Count spot false (term_of whole)) others refl un n in
          let r = go (left h.0) in
          let more = h.1 (counts spot false (term_of whole) h.0 r.typed) in
          ((r.fits, more.0), (r.plain, more.1), more.2)
      postfix whole go (t.down spot others) un w n =
          let h = later (e.Count spot false (term_of whole)) others refl un n in
          let r = go (left h.0) in
          let more = h.1 (counts spot false (term_of whole) h.0 r.typed) in
          ((r.fits, more.0), (r.plain, more.1), more.2)
