-- An expression that has a value by its type has one by its code, where its names do.
use Rattle.std.proofs.Common.{◌≡◌, ℕ, Bool, true, false, Option, Some, None, refl, sym, ap, ◌∙◌}
use Rattle.std.specs.Prelude.{is_some, if◌then◌else◌}
use Rattle.std.specs.Option.{option_map, option_and_then}
use Rattle.std.proofs.lemmas.Bool.{false≢true}
use Rattle.fk_syntax.specs.declared.place.Spot.{Spot}
use Rattle.fk_syntax.specs.declared.sign.Sign.{Sign}
use Rattle.fk_syntax.specs.declared.sign.Sign.TheVariants as g
use Rattle.fk_syntax.specs.Tree as t
use Rattle.fk_syntax.specs.Tree.{Named, Tree, Links, Trees, Suffixes}
use Rattle.fk_types_structs.specs.declared.types.DataType.{DataType}
use Rattle.fk_types_structs.specs.Types.{type_spelled}
use Rattle.fk_types_operators.specs.declared.values.Value.{Value}
use Rattle.fk_types_operators.specs.declared.values.Operand.{Operand}
use Rattle.fk_types_operators.specs.declared.values.ExpressionType.{ExpressionType}
use Rattle.fk_types_operators.specs.declared.values.ExpressionType.TheVariants.{Stored, Computed, Nothing}
use Rattle.fk_types_operators.specs.Values.{address_of}
use Rattle.fk_types_operators.specs.Signs.{prefixed}
use Rattle.fk_types_judgments.specs.Term.{Term, term_of, with_links, joined_term}
use Rattle.fk_types_judgments.specs.Names.{Env}
use Rattle.fk_types_judgments.specs.Typing.{type_of, value_in, operand_in, is_zero, computed, pointed, left_of, last_of, cast_type, assigned, is_no_target, name_type}
use Rattle.fk_meaning_forms.specs.Tables.{Tables}
use Rattle.fk_meaning_forms.specs.Expressions as x
use Rattle.fk_meaning_forms.specs.Expressions.{Signature}
use Rattle.fk_lockstep.specs.Told.{Told, LinksTold}
use Rattle.fk_check_laws.proofs.Typed.{There}
use Rattle.fk_check_laws.proofs.Read.{Any}
use Rattle.fk_check_laws.proofs.Begins as b
use Rattle.fk_check_laws.proofs.Begins.{Begins, Performs}

-- ---- what has a value where a part has none has none itself

pointed_has : (V : Option Value) → There (value_in (option_and_then pointed V)) → There V
pointed_has None h is = h refl
pointed_has (Some v) h is = cc

there_has : (V : Option Value) → There (option_and_then pointed V) → There V
there_has None h is = h refl
there_has (Some v) h is = cc

prefix_has : (sign : Sign) (V : Option Value) → There (value_in (computed (option_and_then (prefixed sign) V))) → There V
prefix_has sign None h is = h refl
prefix_has sign (Some v) h is = cc

cast_has : (D : Option DataType) (V : Option Value) → There (value_in (cast_type D V)) → There V
cast_has None None h is = h refl
cast_has (Some d) None h is = h refl
cast_has D (Some v) h is = cc

last_has : (L R : Option ExpressionType) → There (value_in (last_of L R)) → There (value_in R)
last_has None R h is = h refl
last_has (Some l) None h is = h refl
last_has (Some l) (Some r) h is = by (is_some (left_of l)) r h is
  where
    by : (b : Bool) (r : ExpressionType) → There (value_in (if b then left_of r else None)) → value_in (Some r) ≡ None → ⊥
    by false r h is = h refl
    by true (Stored type) h is = h (ap (λ V. value_in (computed V)) is)
    by true (Computed v) h is = cc
    by true Nothing h is = h refl

assigned_has : (sign : Sign) (T : Option ExpressionType) (A : Option Operand) → There (value_in (assigned sign T A)) → There A
assigned_has sign None A h is = absurd (h refl)
assigned_has sign (Some target) None h is = h refl
assigned_has sign (Some target) (Some a) h is = cc

operand_has : (zero : Bool) (T : Option ExpressionType) → There (operand_in zero T) → There (value_in T)
operand_has zero T h is = by (value_in T) h is
  where
    by : (V : Option Value) → There (option_map (λ (v : Value). let o : Operand = record { value = v; is_zero = zero } in o) V) → There V
    by None h is = h refl
    by (Some v) h is = cc

if_has : (b : Bool) (T : Option ExpressionType) → There (value_in (if b then None else T)) → There (value_in T)
if_has true T h is = h refl
if_has false T h is = h is

address_target : (b : Bool) (T : Option ExpressionType) → There (value_in (if b then None else T)) → b ≡ false
address_target true T h = absurd (h refl)
address_target false T h = refl

address_has : (T : Option ExpressionType) → There (value_in (computed (option_and_then address_of T))) → There T
address_has None h is = h refl
address_has (Some type) h is = cc

abbrev is_some_link : Links → Bool
is_some_link t.no_links = false
is_some_link (t.link spot sign right others) = true

module _ (env : Env) (tables : Tables) (functions : (binding : ℕ) → Signature) where
  abbrev Has : Term → Type 0
  Has term = There (value_in (type_of env term))

  -- a name that has a value begins; and one whose address is taken performs, where it has a type
  abbrev pub NameFact : Named → Type 0
  NameFact name = There (value_in (name_type (env.meant name))) → Begins (x.variable tables functions name)

  abbrev pub AddressFact : Named → Type 0
  AddressFact name = There (name_type (env.meant name)) → Performs (x.variable tables functions name)

  abbrev pub OperandTold : Tree → Type 0
  OperandTold (t.Variable name) = AddressFact name
  OperandTold (t.Chain first t.no_links) = ⊥
  OperandTold (t.Postfix whole t.no_suffixes) = ⊥
  OperandTold other = Unit {0}

  abbrev pub by_sign : Sign → Type 0 → Type 0
  by_sign g.Ampersand V = V
  by_sign sign V = Unit {0}

  abbrev mutual
    pub AddressesTold : Tree → Type 0
    AddressesTold (t.Number spot value unsigned) = Unit {0}
    AddressesTold (t.Puts spot text) = Unit {0}
    AddressesTold (t.Sizeof spot type) = Unit {0}
    AddressesTold (t.Variable name) = Unit {0}
    AddressesTold (t.GroupNumber spot) = Unit {0}
    AddressesTold (t.GroupRank spot) = Unit {0}
    AddressesTold (t.Prefix spot sign operand) = by_sign sign (OperandTold operand) × AddressesTold operand
    AddressesTold (t.Cast spot type operand) = AddressesTold operand
    AddressesTold (t.Chain first links) = AddressesTold first × LinksAddressesTold links
    AddressesTold (t.Postfix whole suffixes) = AddressesTold whole
    AddressesTold (t.Assign spot sign target value) = AddressesTold target × AddressesTold value
    AddressesTold (t.Choose spot condition first second) = Unit {0}

    pub LinksAddressesTold : Links → Type 0
    LinksAddressesTold t.no_links = Unit {0}
    LinksAddressesTold (t.link spot sign right others) = AddressesTold right × LinksAddressesTold others

  joined_no_target : (spot : Spot) (sign : Sign) (l r : Term) → is_no_target env (joined_term spot sign l r) ≡ true
  joined_no_target spot g.Comma l r = refl
  joined_no_target spot sign l r = refl

  links_no_target : (before : Term) (links : Links) → is_no_target env before ≡ true → is_no_target env (with_links before links) ≡ true
  links_no_target before t.no_links h = h
  links_no_target before (t.link spot sign right others) h = links_no_target (joined_term spot sign before (term_of right)) others (joined_no_target spot sign before (term_of right))

  mutual
    pub valued : (e : Tree) → Told Any NameFact e → AddressesTold e → Has (term_of e) → b.Valued tables functions e
    valued (t.Number spot value unsigned) n a h = tt
    valued (t.Puts spot text) n a h = absurd (h refl)
    valued (t.Sizeof spot type) n a h = tt
    valued (t.Variable name) n a h = n h
    valued (t.GroupNumber spot) n a h = tt
    valued (t.GroupRank spot) n a h = tt
    valued (t.Prefix spot g.Star operand) n a h = valued operand n a.1 (pointed_has (value_in (type_of env (term_of operand))) h)
    valued (t.Prefix spot g.Ampersand operand) n a h =
        addressed operand n a.1 a.0 (address_target (is_no_target env (term_of operand)) _ h)
        (address_has (type_of env (term_of operand)) (if_has (is_no_target env (term_of operand)) _ h))
    valued (t.Prefix spot g.Minus operand) n a h = tt
    valued (t.Prefix spot g.Tilde operand) n a h = tt
    valued (t.Prefix spot g.Exclamation operand) n a h = tt
    valued (t.Prefix spot g.Increment operand) n a h = tt
    valued (t.Prefix spot g.Decrement operand) n a h = tt
    valued (t.Prefix spot sign operand) n a h = valued operand n a.1 (prefix_has sign (value_in (type_of env (term_of operand))) h)
    valued (t.Cast spot type operand) n a h = valued operand n a (cast_has (type_spelled env.structs type None) (value_in (type_of env (term_of operand))) h)
    valued (t.Chain first t.no_links) n a h = valued first n.0 a.0 h
    valued (t.Chain first links) n a h = links_valued (term_of first) links refl n.1 a.1 h
    valued (t.Postfix whole t.no_suffixes) n a h = valued whole n.0 a h
    valued (t.Postfix whole others) n a h = tt
    valued (t.Assign spot g.Assign target value) n a h = valued value n.1 a.1
        (operand_has (is_zero (term_of value)) (type_of env (term_of value))
        (assigned_has g.Assign (type_of env (term_of target)) (operand_in (is_zero (term_of value)) (type_of env (term_of value))) (if_has (is_no_target env (term_of target)) _ h)))
    valued (t.Assign spot sign target value) n a h = tt
    valued (t.Choose spot condition first second) n a h = tt

    links_valued : (before : Term) (links : Links) → is_some_link links ≡ true → LinksTold Any NameFact links → LinksAddressesTold links → Has (with_links before links) → b.LastValued tables functions links
    links_valued before t.no_links some n a h = absurd (false≢true some)
    links_valued before (t.link spot g.Comma right t.no_links) some n a h = valued right n.1 a.0 (last_has (type_of env before) (type_of env (term_of right)) h)
    links_valued before (t.link spot sign right t.no_links) some n a h = tt
    links_valued before (t.link spot sign right others) some n a h = links_valued (joined_term spot sign before (term_of right)) others refl n.2 a.1 h

    addressed : (e : Tree) → Told Any NameFact e → AddressesTold e → OperandTold e → is_no_target env (term_of e) ≡ false → There (type_of env (term_of e)) → b.Addressed tables functions e
    addressed (t.Variable name) n a o target h = o h
    addressed (t.Prefix spot g.Star operand) n a o target h = valued operand n a.1 (there_has (value_in (type_of env (term_of operand))) h)
    addressed (t.Prefix spot g.Ampersand operand) n a o target h = absurd (false≢true (sym target))
    addressed (t.Prefix spot sign operand) n a o target h = absurd (false≢true (sym target))
    addressed (t.Chain first t.no_links) n a o target h = absurd o
    addressed (t.Chain first (t.link spot sign right others)) n a o target h =
        absurd (false≢true (sym target ∙ links_no_target (joined_term spot sign (term_of first) (term_of right)) others (joined_no_target spot sign (term_of first) (term_of right))))
    addressed (t.Postfix whole t.no_suffixes) n a o target h = absurd o
    addressed (t.Postfix whole others) n a o target h = tt
    addressed other n a o target h = absurd (false≢true (sym target))
