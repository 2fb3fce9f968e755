-- What is asked of the names, members and calls of an expression is so in a program that keeps all rules.
use Rattle.std.proofs.Common.{◌≡◌, ℕ, Bool, true, false, List, [], ◌∷◌, ◌++◌, Option, Some, None, refl, sym, ap, subst, ◌∙◌}
use Rattle.std.specs.Prelude.{is_some, if◌then◌else◌}
use Rattle.std.specs.Option.{option_and_then}
use Rattle.std.proofs.lemmas.Bool.{false≢true}
use Rattle.std.proofs.lemmas.Option.{same_Some}
use Rattle.fk_syntax.specs.declared.facts.Facts.{Facts}
use Rattle.fk_syntax.specs.declared.place.Spot.{Spot}
use Rattle.fk_syntax.specs.declared.sign.Sign.{Sign}
use Rattle.fk_syntax.specs.declared.sign.Sign.TheVariants as g
use Rattle.fk_syntax.specs.Tree as t
use Rattle.fk_syntax.specs.Tree.{Named, Tree, Links, Trees, Suffixes}
use Rattle.fk_syntax.specs.Program.{ProgramTree}
use Rattle.fk_check_rules.specs.declared.rule.Rule.TheVariants as rules
use Rattle.fk_types_structs.specs.declared.types.DataType.{DataType}
use Rattle.fk_types_structs.specs.Types.{StructTree, type_spelled}
use Rattle.fk_types_references.specs.References.{main_token, after_links, after_suffixes, tree_references, links_references, trees_references, suffixes_references}
use Rattle.fk_types_operators.specs.declared.values.Value.{Value}
use Rattle.fk_types_operators.specs.declared.values.Value.TheVariants.{Int, Unsigned, Pointer}
use Rattle.fk_types_operators.specs.declared.values.ExpressionType.{ExpressionType}
use Rattle.fk_types_operators.specs.declared.values.ExpressionType.TheVariants.{Stored, Computed, Nothing}
use Rattle.fk_types_operators.specs.Values.{value_of, value_stored, is_array, target}
use Rattle.fk_types_operators.specs.Signs.{is_void as is_void_target, is_integer, counted}
use Rattle.fk_types_judgments.specs.Term as e
use Rattle.fk_types_judgments.specs.Term.{Term, Terms, no_terms, also, count_of, term_of, with_links, with_suffixes, with_arguments, joined_term, prefix_term}
use Rattle.fk_types_judgments.specs.Typing.{Noted, noted, all_noted, type_of, value_in, computed, number_type, sizeof_type, cast_type, pointed, element, counted_type, last_of, left_of, assigned, branched, is_no_target, struct_of, struct_at, called_as, parameters_of, do_all_fit, first_value}
use Rattle.fk_types_expressions.proofs.ReadLemmas.{noted-prefix, noted-joined}
use Rattle.fk_sharing_class.specs.Class.{is_shared, is_call_shared, is_joined_shared}
use Rattle.fk_sharing_class.specs.declared.thing.Thing.TheVariants.{PrivateVariable}
use Rattle.fk_sharing.specs.declared.around.Holder.{Holder}
use Rattle.fk_sharing.specs.declared.token.Word.TheVariants as w
use Rattle.fk_sharing.specs.Tokens as s
use Rattle.fk_sharing.specs.Broken as sb
use Rattle.fk_meaning_forms.specs.Expressions.{token, last_link, last_suffix}
use Rattle.fk_lockstep.specs.Told.{Told, LinksTold, SuffixesTold, AllTold}
use Rattle.fk_parse_laws.specs.Every.{TreeHas, LinksHave, TreesHave, SuffixesHave}
use Rattle.fk_parse_laws.specs.Trim.{nonempty_lists}
use Rattle.fk_check_laws.proofs.Each.{Each, front_of, rest_of}
use Rattle.fk_check_laws.proofs.Read.{Any}
use Rattle.fk_meaning_forms.specs.Tables.{note}
use Rattle.fk_lockstep_frames.specs.Nests.{Nest}
use Rattle.fk_lower_names.proofs.Given.{IsGiven, words_of}
use Rattle.fk_lower_names.specs.OpenFrames.{BindsOpen}
use Rattle.fk_lower_laws.specs.Ways.{Way, Valued, Unchecked, Constant, Function, gives, result, prefix_way, joined_way, call_gives, called_way, dotted_way, way, chain_way, suffixed_way}
use Rattle.fk_lower_laws.specs.Asked.{CallAsks, Asked}
use Rattle.fk_lower_laws.specs.Typed.{IsWayOf, CommaIs, IsNoWord, PrefixIs, Known, LinksKnown, SuffixesKnown, AllKnown}
use Rattle.fk_lower_laws.proofs.Typing.{is_use, uncalled}
use Rattle.fk_lower_laws.proofs.Tokens.{IsSoundType, void_is}
use Rattle.fk_lower_laws.proofs.Valid.{about}
use Rattle.fk_lower_laws.proofs.AskedNames.{name_stands, name_sound, no_word}
use Rattle.fk_lower_laws.proofs.Members.{member_sound, member_room}
use Rattle.fk_lower_laws.proofs.Calls.{call_stands}

-- ---- the token of an expression

links_token : (at : ℕ) (x : Links) → after_links at x ≡ last_link at x
links_token at t.no_links = refl
links_token at (t.link spot sign right others) = links_token spot.at others

suffixes_token : (at : ℕ) (x : Suffixes) → after_suffixes at x ≡ last_suffix at x
suffixes_token at t.no_suffixes = refl
suffixes_token at (t.index spot by others) = suffixes_token spot.at others
suffixes_token at (t.call spot arguments others) = suffixes_token spot.at others
suffixes_token at (t.dot spot member others) = suffixes_token spot.at others
suffixes_token at (t.arrow spot member others) = suffixes_token spot.at others
suffixes_token at (t.up spot others) = suffixes_token spot.at others
suffixes_token at (t.down spot others) = suffixes_token spot.at others

pub same_token : (x : Tree) → main_token x ≡ token x
same_token (t.Number spot value unsigned) = refl
same_token (t.Puts spot text) = refl
same_token (t.Sizeof spot type) = refl
same_token (t.Variable name) = refl
same_token (t.GroupNumber spot) = refl
same_token (t.GroupRank spot) = refl
same_token (t.Prefix spot sign operand) = refl
same_token (t.Cast spot type operand) = refl
same_token (t.Chain first links) = links_token (main_token first) links ∙ ap (λ at. last_link at links) (same_token first)
same_token (t.Postfix whole suffixes) = suffixes_token (main_token whole) suffixes ∙ ap (λ at. last_suffix at suffixes) (same_token whole)
same_token (t.Assign spot sign target value) = refl
same_token (t.Choose spot condition first second) = refl

-- ---- what is no name

joined_use : (spot : Spot) (sign : Sign) (l r : Term) → is_use (joined_term spot sign l r) ≡ false
joined_use spot g.Comma l r = refl
joined_use spot sign l r = refl

prefix_use : (spot : Spot) (sign : Sign) (u : Term) → is_use (prefix_term spot sign u) ≡ false
prefix_use spot g.Star u = refl
prefix_use spot g.Ampersand u = refl
prefix_use spot g.Increment u = refl
prefix_use spot g.Decrement u = refl
prefix_use spot sign u = refl

links_use : (before : Term) (x : Links) → is_use before ≡ false → is_use (with_links before x) ≡ false
links_use before t.no_links h = h
links_use before (t.link spot sign right others) h = links_use (joined_term spot sign before (term_of right)) others (joined_use spot sign before (term_of right))

suffixes_use : (before : Term) (x : Suffixes) → is_use before ≡ false → is_use (with_suffixes before x) ≡ false
suffixes_use before t.no_suffixes h = h
suffixes_use before (t.index spot by others) h = suffixes_use (e.Index spot before (term_of by)) others refl
suffixes_use before (t.call spot arguments others) h = suffixes_use (e.Call spot before (with_arguments no_terms arguments)) others refl
suffixes_use before (t.dot spot member others) h = suffixes_use (e.Member spot before member) others refl
suffixes_use before (t.arrow spot member others) h = suffixes_use (e.Through spot before member) others refl
suffixes_use before (t.up spot others) h = suffixes_use (e.Count spot false before) others refl
suffixes_use before (t.down spot others) h = suffixes_use (e.Count spot false before) others refl

-- neither a name nor a call
abbrev IsOther : Term → Type 0
IsOther (e.Use name) = ⊥
IsOther (e.Call spot callee arguments) = ⊥
IsOther term = Unit {0}

joined_other : (spot : Spot) (sign : Sign) (l r : Term) → IsOther (joined_term spot sign l r)
joined_other spot g.Comma l r = tt
joined_other spot sign l r = tt

prefix_other : (spot : Spot) (sign : Sign) (u : Term) → IsOther (prefix_term spot sign u)
prefix_other spot g.Star u = tt
prefix_other spot g.Ampersand u = tt
prefix_other spot g.Increment u = tt
prefix_other spot g.Decrement u = tt
prefix_other spot sign u = tt

-- ---- types that may be declared, where they are those of arrays

module _ (structs : List StructTree) where
  abbrev Sound : Option ExpressionType → Type 0
  Sound o = (type : ExpressionType) → o ≡ Some type → IsSoundType structs type

  of_value : (v : Value) (type : ExpressionType) → Computed v ≡ type → IsSoundType structs type
  of_value v type h = subst (IsSoundType structs) h tt

  of_map : (o : Option Value) → Sound (computed o)
  of_map None type h = absurd (cc)
  of_map (Some v) type h = of_value v type (same_Some _ type h)

  of_if : (b : Bool) (o : Option ExpressionType) → Sound o → Sound (if b then None else o)
  of_if true o go type h = absurd (cc)
  of_if false o go type h = go type h

  of_pointed : (o : Option Value) → Sound (option_and_then pointed o)
  of_pointed None type h = absurd (cc)
  of_pointed (Some Int) type h = absurd (cc)
  of_pointed (Some Unsigned) type h = absurd (cc)
  of_pointed (Some (Pointer x)) type h = by (is_void_target x) h
    where
      by : (b : Bool) → (if b then None else Some (Stored (record { root = x.root; stars = x.stars; length = None }))) ≡ Some type → IsSoundType structs type
      by true h' = absurd (cc)
      by false h' = subst (IsSoundType structs) (same_Some _ type h') (λ some. absurd (false≢true some))

  of_element : (a b : Option Value) → Sound (element a b)
  of_element None b type h = absurd (cc)
  of_element (Some v) None type h = absurd (cc)
  of_element (Some v) (Some u) type h = by (is_integer u) h
    where
      by : (b : Bool) → (if b then pointed v else None) ≡ Some type → IsSoundType structs type
      by true h' = of_pointed (Some v) type h'
      by false h' = absurd (cc)

  of_counted : (o : Option ExpressionType) → Sound (option_and_then counted_type o)
  of_counted None type h = absurd (cc)
  of_counted (Some x) type h = of_if (is_array x) (computed (option_and_then counted (value_of x))) (of_map _) type h

  of_sizeof : (o : Option DataType) → Sound (sizeof_type o)
  of_sizeof None type h = absurd (cc)
  of_sizeof (Some x) type h = of_if (is_void_target (target x.root x.stars)) (Some (Computed Unsigned)) (λ type' h'. of_value Unsigned type' (same_Some _ type' h')) type h

  of_cast : (o : Option DataType) (v : Option Value) → Sound (cast_type o v)
  of_cast None v type h = absurd (cc)
  of_cast (Some x) None type h = absurd (cc)
  of_cast (Some x) (Some v) type h = of_map (value_stored x) type h

  of_left : (x : ExpressionType) → Sound (left_of x)
  of_left Nothing type h = subst (IsSoundType structs) (same_Some _ type h) tt
  of_left (Computed v) type h = of_value v type (same_Some _ type h)
  of_left (Stored x) type h = of_map (value_stored x) type h

  of_last : (l r : Option ExpressionType) → Sound (last_of l r)
  of_last None r type h = absurd (cc)
  of_last (Some l) None type h = absurd (cc)
  of_last (Some l) (Some r) type h = by (is_some (left_of l)) h
    where
      by : (b : Bool) → (if b then left_of r else None) ≡ Some type → IsSoundType structs type
      by true h' = of_left r type h'
      by false h' = absurd (cc)

  of_assigned : (sign : Sign) (l : Option ExpressionType) (v : Option _) → Sound (assigned sign l v)
  of_assigned sign None v type h = absurd (cc)
  of_assigned sign (Some x) None type h = absurd (cc)
  of_assigned sign (Some x) (Some v) type h = by _ h
    where
      by : (b : Bool) → (if b then computed (value_of x) else None) ≡ Some type → IsSoundType structs type
      by true h' = of_map (value_of x) type h'
      by false h' = absurd (cc)

  of_branched : (c : Option Value) (a b : Option _) → Sound (branched c a b)
  of_branched None a b type h = absurd (cc)
  of_branched (Some c) a b type h = of_map _ type h

  of_number : (unsigned : Bool) (type : ExpressionType) → Some (number_type unsigned) ≡ Some type → IsSoundType structs type
  of_number true type h = of_value Unsigned type (same_Some _ type h)
  of_number false type h = of_value Int type (same_Some _ type h)

module _ (program : ProgramTree) (facts : Facts) (given : IsGiven program facts) (nests : List Nest) where
  open about program facts given use {env, tables, functions, places, thing, Room, Kept as K, Referred as R, Noting as N, IsUsed}

  -- a name is used, and is open in the nests
  abbrev pub Used : Named → Type 0
  Used name = IsUsed name × BindsOpen program tables nests (note tables name.at).binding

  abbrev pub SoundOf : Term → Type 0
  SoundOf term = Sound env.structs (type_of env term)

  sound_term : (term : Term) → IsOther term → SoundOf term
  sound_term (e.Number spot value unsigned) o type h = of_number env.structs unsigned type h
  sound_term (e.Puts spot) o type h = subst (IsSoundType env.structs) (same_Some _ type h) tt
  sound_term (e.Sizeof spot kind) o type h = of_sizeof env.structs (type_spelled env.structs kind None) type h
  sound_term (e.Use name) o type h = absurd o
  sound_term (e.GroupNumber spot) o type h = of_value env.structs Int type (same_Some _ type h)
  sound_term (e.GroupRank spot) o type h = of_value env.structs Int type (same_Some _ type h)
  sound_term (e.Prefix spot sign operand) o type h = of_map env.structs _ type h
  sound_term (e.Dereference spot pointer) o type h = of_pointed env.structs (value_in (type_of env pointer)) type h
  sound_term (e.Address spot place) o type h = of_if env.structs (is_no_target env place) _ (of_map env.structs _) type h
  sound_term (e.Count spot is_before place) o type h = of_if env.structs (is_no_target env place) _ (of_counted env.structs (type_of env place)) type h
  sound_term (e.Cast spot kind operand) o type h = of_cast env.structs (type_spelled env.structs kind None) (value_in (type_of env operand)) type h
  sound_term (e.Binary spot sign left right) o type h = of_map env.structs _ type h
  sound_term (e.Comma spot left right) o type h = of_last env.structs (type_of env left) (type_of env right) type h
  sound_term (e.Index spot whole by) o type h = of_element env.structs (value_in (type_of env whole)) (value_in (type_of env by)) type h
  sound_term (e.Call spot callee arguments) o type h = absurd o
  sound_term (e.Member spot whole member) o type h = member_sound program facts given (option_and_then struct_of (type_of env whole)) member type h
  sound_term (e.Through spot pointer member) o type h = member_sound program facts given (option_and_then struct_at (value_in (type_of env pointer))) member type h
  sound_term (e.Assign spot sign place value) o type h = of_if env.structs (is_no_target env place) _ (of_assigned env.structs sign (type_of env place) _) type h
  sound_term (e.Choose spot condition first second) o type h = of_branched env.structs (value_in (type_of env condition)) _ _ type h

  -- a call gives a value or nothing
  sound_called : (x : Way) (type : ExpressionType) → IsWayOf (Room nests) (called_way tables places x) type → IsSoundType env.structs type
  sound_called (Function name) type stands = by (call_gives tables places name) type stands
    where
      by : (b : Bool) (type' : ExpressionType) → IsWayOf (Room nests) (result b) type' → IsSoundType env.structs type'
      by true (Computed v) h = tt
      by true (Stored x) h = absurd h
      by true Nothing h = tt
      by false (Computed v) h = tt
      by false (Stored x) h = absurd h
      by false Nothing h = tt
  sound_called x (Computed v) h = tt
  sound_called x Nothing h = tt
  sound_called x (Stored y) h = absurd h

  -- ---- the note of an expression

  abbrev Own : Term → (at : ℕ) → Type 0
  Own before at = Each N (noted env before) → N (record { at = at; type = type_of env before })

  last_own : (xs : List Noted) (y : Noted) → Each N (xs ++ y ∷ []) → N y
  last_own xs y h = (rest_of N xs (y ∷ []) h).0

  own_joined : (spot : Spot) (sign : Sign) (l r : Term) → Own (joined_term spot sign l r) spot.at
  own_joined spot sign l r h = last_own (noted env l ++ noted env r) _ (subst (Each N) (sym (noted-joined env spot sign l r)) h)

  own_links : (before : Term) (at : ℕ) → Own before at → (x : Links) → Own (with_links before x) (last_link at x)
  own_links before at own t.no_links h = own h
  own_links before at own (t.link spot sign right others) h =
      own_links (joined_term spot sign before (term_of right)) spot.at (own_joined spot sign before (term_of right)) others h

  own_suffixes : (before : Term) (at : ℕ) → Own before at → (x : Suffixes) → Own (with_suffixes before x) (last_suffix at x)
  own_suffixes before at own t.no_suffixes h = own h
  own_suffixes before at own (t.index spot by others) h =
      own_suffixes (e.Index spot before (term_of by)) spot.at (λ k. last_own (noted env before ++ noted env (term_of by)) _ k) others h
  own_suffixes before at own (t.call spot arguments others) h =
      own_suffixes (e.Call spot before (with_arguments no_terms arguments)) spot.at (λ k. last_own (noted env before ++ all_noted env (with_arguments no_terms arguments)) _ k) others h
  own_suffixes before at own (t.dot spot member others) h = own_suffixes (e.Member spot before member) spot.at (λ k. last_own (noted env before) _ k) others h
  own_suffixes before at own (t.arrow spot member others) h = own_suffixes (e.Through spot before member) spot.at (λ k. last_own (noted env before) _ k) others h
  own_suffixes before at own (t.up spot others) h = own_suffixes (e.Count spot false before) spot.at (λ k. last_own (noted env before) _ k) others h
  own_suffixes before at own (t.down spot others) h = own_suffixes (e.Count spot false before) spot.at (λ k. last_own (noted env before) _ k) others h

  pub own_tree : (x : Tree) → Own (term_of x) (token x)
  own_tree (t.Number spot value unsigned) h = h.0
  own_tree (t.Puts spot text) h = h.0
  own_tree (t.Sizeof spot type) h = h.0
  own_tree (t.Variable name) h = h.0
  own_tree (t.GroupNumber spot) h = h.0
  own_tree (t.GroupRank spot) h = h.0
  own_tree (t.Prefix spot sign operand) h = last_own (noted env (term_of operand)) _ (subst (Each N) (sym (noted-prefix env spot sign (term_of operand))) h)
  own_tree (t.Cast spot type operand) h = last_own (noted env (term_of operand)) _ h
  own_tree (t.Chain first links) h = own_links (term_of first) (token first) (own_tree first) links h
  own_tree (t.Postfix whole suffixes) h = own_suffixes (term_of whole) (token whole) (own_tree whole) suffixes h
  own_tree (t.Assign spot sign target' value) h = last_own (noted env (term_of target') ++ noted env (term_of value)) _ h
  own_tree (t.Choose spot condition first second) h = last_own (noted env (term_of condition) ++ noted env (term_of first) ++ noted env (term_of second)) _ h

  -- ---- commas and addresses

  comma_is : (sign : Sign) (before : Term) (at : ℕ) → N (record { at = at; type = type_of env before }) → SoundOf before → CommaIs (Room nests) env tables functions places nests sign before at
  comma_is g.Comma before at noted' sound = λ type typed some.
      void_is program facts given.correct (words_of program facts given) at type (subst (λ o. N (record { at = at; type = o })) typed noted') (sound type typed) some
  comma_is sign before at noted' sound = tt

  no_word_result : (b : Bool) → IsNoWord (result b)
  no_word_result true = tt
  no_word_result false = tt

  no_word_joined : (sign : Sign) (x : Way) → IsNoWord (joined_way sign x)
  no_word_joined g.Comma x = no_word_result (gives x)
  no_word_joined sign x = tt

  no_word_links : (x : Way) (links : Links) → IsNoWord x → IsNoWord (chain_way tables places x links)
  no_word_links x t.no_links h = h
  no_word_links x (t.link spot sign right others) h = no_word_links (joined_way sign (way tables places right)) others (no_word_joined sign (way tables places right))

  no_word_called : (x : Way) → IsNoWord (called_way tables places x)
  no_word_called (Function name) = no_word_result (call_gives tables places name)
  no_word_called x = tt

  no_word_dotted : (at : ℕ) (x : Way) → IsNoWord (dotted_way tables places at x)
  no_word_dotted at (Constant address) = tt
  no_word_dotted at x = tt

  no_word_suffixes : (x : Way) (suffixes : Suffixes) → IsNoWord x → IsNoWord (suffixed_way tables places x suffixes)
  no_word_suffixes x t.no_suffixes h = h
  no_word_suffixes x (t.index spot by others) h = no_word_suffixes Unchecked others tt
  no_word_suffixes x (t.call spot arguments others) h = no_word_suffixes (called_way tables places x) others (no_word_called x)
  no_word_suffixes x (t.dot spot name others) h = no_word_suffixes (dotted_way tables places name.at x) others (no_word_dotted name.at x)
  no_word_suffixes x (t.arrow spot name others) h = no_word_suffixes Unchecked others tt
  no_word_suffixes x (t.up spot others) h = no_word_suffixes Valued others tt
  no_word_suffixes x (t.down spot others) h = no_word_suffixes Valued others tt

  no_word_prefix : (sign : Sign) → IsNoWord (prefix_way sign)
  no_word_prefix g.Star = tt
  no_word_prefix sign = tt

  -- an expression whose address is taken is no private variable
  no_word_tree : (x : Tree) → TreeHas nonempty_lists x → Told Any Used x → (s.named_thing thing x ≡ Some PrivateVariable → ⊥) → IsNoWord (way tables places x)
  no_word_tree (t.Variable name) trim told h = no_word program facts given name told.0 h
  no_word_tree (t.Prefix spot sign operand) trim told h = no_word_prefix sign
  no_word_tree (t.Chain first t.no_links) trim told h = absurd trim.0
  no_word_tree (t.Chain first (t.link spot sign right others)) trim told h =
      no_word_links (joined_way sign (way tables places right)) others (no_word_joined sign (way tables places right))
  no_word_tree (t.Postfix whole t.no_suffixes) trim told h = absurd trim.0
  no_word_tree (t.Postfix whole (t.index spot by others)) trim told h = no_word_suffixes Unchecked others tt
  no_word_tree (t.Postfix whole (t.call spot arguments others)) trim told h =
      no_word_suffixes (called_way tables places (way tables places whole)) others (no_word_called (way tables places whole))
  no_word_tree (t.Postfix whole (t.dot spot name others)) trim told h =
      no_word_suffixes (dotted_way tables places name.at (way tables places whole)) others (no_word_dotted name.at (way tables places whole))
  no_word_tree (t.Postfix whole (t.arrow spot name others)) trim told h = no_word_suffixes Unchecked others tt
  no_word_tree (t.Postfix whole (t.up spot others)) trim told h = no_word_suffixes Valued others tt
  no_word_tree (t.Postfix whole (t.down spot others)) trim told h = no_word_suffixes Valued others tt
  no_word_tree (t.Number spot value unsigned) trim told h = tt
  no_word_tree (t.Puts spot text) trim told h = tt
  no_word_tree (t.Sizeof spot type) trim told h = tt
  no_word_tree (t.GroupNumber spot) trim told h = tt
  no_word_tree (t.GroupRank spot) trim told h = tt
  no_word_tree (t.Cast spot type operand) trim told h = tt
  no_word_tree (t.Assign spot sign target' value) trim told h = tt
  no_word_tree (t.Choose spot condition first second) trim told h = no_word_result (gives (way tables places first))

  prefix_is : (around : List Holder) (spot : Spot) (shared : Bool) (sign : Sign) (x : Tree) → TreeHas nonempty_lists x → Told Any Used x
      → K (s.token_in around spot shared (w.Prefix sign (s.named_thing thing x))) → PrefixIs sign (way tables places x)
  prefix_is around spot shared g.Ampersand x trim told kept =
      no_word_tree x trim told (λ is. kept rules.PrivateAddress (subst (λ o. sb.BreaksRule around (w.Prefix g.Ampersand o) rules.PrivateAddress) (sym is) sb.private_address))
  prefix_is around spot shared sign x trim told kept = tt

  -- ---- calls

  abbrev Callable : (asked : Type 0) → Term → Way → Type 0
  Callable A before x =
      (spot : Spot) (es : Trees) (type : ExpressionType) → type_of env (e.Call spot before (with_arguments no_terms es)) ≡ Some type
      → A × CallAsks tables functions places nests x es × IsWayOf (Room nests) (called_way tables places x) type

  uncallable : (A : Type 0) (before : Term) (x : Way) → is_use before ≡ false → Callable A before x
  uncallable A before x unused spot es type h =
      let args = with_arguments no_terms es in
      absurd (uncalled env before (type_of env before) (count_of args) (do_all_fit env (parameters_of (called_as env before (type_of env before))) args) (first_value env args) type unused h)

  uncallable_tree : (x : Tree) → is_use (term_of x) ≡ false → Callable (Asked tables functions places nests x) (term_of x) (way tables places x)
  uncallable_tree x unused = uncallable (Asked tables functions places nests x) (term_of x) (way tables places x) unused

  callable : (x : Tree) → TreeHas nonempty_lists x → Told Any Used x → Callable (Asked tables functions places nests x) (term_of x) (way tables places x)
  callable (t.Variable name) trim told = λ spot es type h. call_stands program facts given nests spot name told.0 es type h
  callable (t.Prefix spot sign operand) trim told = uncallable_tree (t.Prefix spot sign operand) (prefix_use spot sign (term_of operand))
  callable (t.Chain first t.no_links) trim told = absurd trim.0
  callable (t.Chain first (t.link spot sign right others)) trim told = uncallable_tree (t.Chain first (t.link spot sign right others)) (links_use (joined_term spot sign (term_of first) (term_of right)) others (joined_use spot sign (term_of first) (term_of right)))
  callable (t.Postfix whole t.no_suffixes) trim told = absurd trim.0
  callable (t.Postfix whole (t.index spot by others)) trim told = uncallable_tree (t.Postfix whole (t.index spot by others)) (suffixes_use (e.Index spot (term_of whole) (term_of by)) others refl)
  callable (t.Postfix whole (t.call spot arguments others)) trim told = uncallable_tree (t.Postfix whole (t.call spot arguments others)) (suffixes_use (e.Call spot (term_of whole) (with_arguments no_terms arguments)) others refl)
  callable (t.Postfix whole (t.dot spot member others)) trim told = uncallable_tree (t.Postfix whole (t.dot spot member others)) (suffixes_use (e.Member spot (term_of whole) member) others refl)
  callable (t.Postfix whole (t.arrow spot member others)) trim told = uncallable_tree (t.Postfix whole (t.arrow spot member others)) (suffixes_use (e.Through spot (term_of whole) member) others refl)
  callable (t.Postfix whole (t.up spot others)) trim told = uncallable_tree (t.Postfix whole (t.up spot others)) (suffixes_use (e.Count spot false (term_of whole)) others refl)
  callable (t.Postfix whole (t.down spot others)) trim told = uncallable_tree (t.Postfix whole (t.down spot others)) (suffixes_use (e.Count spot false (term_of whole)) others refl)
  callable (t.Number spot value unsigned) trim told = uncallable_tree (t.Number spot value unsigned) refl
  callable (t.Puts spot text) trim told = uncallable_tree (t.Puts spot text) refl
  callable (t.Sizeof spot type) trim told = uncallable_tree (t.Sizeof spot type) refl
  callable (t.GroupNumber spot) trim told = uncallable_tree (t.GroupNumber spot) refl
  callable (t.GroupRank spot) trim told = uncallable_tree (t.GroupRank spot) refl
  callable (t.Cast spot type operand) trim told = uncallable_tree (t.Cast spot type operand) refl
  callable (t.Assign spot sign target' value) trim told = uncallable_tree (t.Assign spot sign target' value) refl
  callable (t.Choose spot condition first second) trim told = uncallable_tree (t.Choose spot condition first second) refl

  -- ---- expressions

  abbrev KnownTree : Tree → Type 0
  KnownTree x = Known (Room nests) env tables functions places nests x

  -- all of the block are over what else there is, as suffixes are over what stands before them
  module _ (around : List Holder) where
    mutual
      pub known : (x : Tree) (other : Type 0) → TreeHas nonempty_lists x → Told Any Used x → Each K (s.tree_tokens thing around x) → Each R (tree_references x) → Each N (noted env (term_of x))
          → KnownTree x × SoundOf (term_of x)
      known (t.Number spot value unsigned) other trim told k c h = (tt, sound_term (e.Number spot value unsigned) tt)
      known (t.Puts spot text) other trim told k c h = (tt, sound_term (e.Puts spot) tt)
      known (t.Sizeof spot type) other trim told k c h = (tt, sound_term (e.Sizeof spot type) tt)
      known (t.Variable name) other trim told k c h = (
        (λ type typed. name_stands program facts given nests name told.0 told.1 h.0 type typed),
        (λ type typed. name_sound program facts given name told.0 type typed),
      )
      known (t.GroupNumber spot) other trim told k c h = (tt, sound_term (e.GroupNumber spot) tt)
      known (t.GroupRank spot) other trim told k c h = (tt, sound_term (e.GroupRank spot) tt)
      known (t.Prefix spot sign x) other trim told k c h =
          let h' = subst (Each N) (sym (noted-prefix env spot sign (term_of x))) h in
          let r = known x (Unit {0}) trim told (front_of K (s.tree_tokens thing around x) _ k) c (front_of N (noted env (term_of x)) _ h') in (
            (r.0, prefix_is around spot (is_shared thing (t.Prefix spot sign x)) sign x trim told (rest_of K (s.tree_tokens thing around x) _ k).0),
            sound_term (prefix_term spot sign (term_of x)) (prefix_other spot sign (term_of x)),
          )
      known (t.Cast spot type x) other trim told k c h =
          let r = known x (Unit {0}) trim told (front_of K (s.tree_tokens thing around x) _ k) c (front_of N (noted env (term_of x)) _ h) in
          (r.0, sound_term (e.Cast spot type (term_of x)) tt)
      known (t.Chain first links) other trim told k c h =
          let all = links_known (Unit {0}) (term_of first) (token first) (own_tree first) links trim.2 told.1 (is_shared thing first)
          (rest_of K (s.tree_tokens thing around first) _ k) (rest_of R (tree_references first) (links_references links) c) h in
          let r = known first (Unit {0}) trim.1 told.0 (front_of K (s.tree_tokens thing around first) _ k) (front_of R (tree_references first) (links_references links) c) all.0 in
          let rest = all.1 r.1 in
          ((r.0, rest.0), rest.1)
      known (t.Postfix x suffixes) other trim told k c h =
          let A = Asked tables functions places nests x in
          let c' = subst (λ at. Each R (suffixes_references at suffixes)) (same_token x) (rest_of R (tree_references x) (suffixes_references (main_token x) suffixes) c) in
          let all = suffixes_known A (term_of x) (way tables places x) (token x) (own_tree x) suffixes trim.2 told.1 (is_shared thing x) (is_call_shared thing x)
          (rest_of K (s.tree_tokens thing around x) _ k) c' h in
          let r = known x (Unit {0}) trim.1 told.0 (front_of K (s.tree_tokens thing around x) _ k) (front_of R (tree_references x) (suffixes_references (main_token x) suffixes) c) all.0 in
          let rest = all.1 r.1 (callable x trim.1 told.0) in
          ((r.0, rest.0), rest.1)
      known (t.Assign spot sign x y) other trim told k c h =
          let k' = front_of K (s.tree_tokens thing around x ++ s.tree_tokens thing around y) _ k in
          let h' = front_of N (noted env (term_of x) ++ noted env (term_of y)) _ h in
          let a = known x (Unit {0}) trim.0 told.0 (front_of K (s.tree_tokens thing around x) _ k') (front_of R (tree_references x) (tree_references y) c) (front_of N (noted env (term_of x)) _ h') in
          let b = known y (Unit {0}) trim.1 told.1 (rest_of K (s.tree_tokens thing around x) _ k') (rest_of R (tree_references x) (tree_references y) c) (rest_of N (noted env (term_of x)) _ h') in
          ((a.0, b.0), sound_term (e.Assign spot sign (term_of x) (term_of y)) tt)
      known (t.Choose spot x y z) other trim told k c h =
          let kx = s.tree_tokens thing around x in
          let ky = s.tree_tokens thing around y in
          let kz = s.tree_tokens thing around z in
          let k' = front_of K (kx ++ ky ++ kz) _ k in
          let h' = front_of N (noted env (term_of x) ++ noted env (term_of y) ++ noted env (term_of z)) _ h in
          let k2 = front_of K (kx ++ ky) kz k' in
          let c2 = front_of R (tree_references x ++ tree_references y) (tree_references z) c in
          let h2 = front_of N (noted env (term_of x) ++ noted env (term_of y)) (noted env (term_of z)) h' in
          let a = known x (Unit {0}) trim.0 told.1 (front_of K kx ky k2) (front_of R (tree_references x) (tree_references y) c2) (front_of N (noted env (term_of x)) (noted env (term_of y)) h2) in
          let b = known y (Unit {0}) trim.1 told.2 (rest_of K kx ky k2) (rest_of R (tree_references x) (tree_references y) c2) (rest_of N (noted env (term_of x)) (noted env (term_of y)) h2) in
          let d = known z (Unit {0}) trim.2 told.3 (rest_of K (kx ++ ky) kz k') (rest_of R (tree_references x ++ tree_references y) (tree_references z) c)
          (rest_of N (noted env (term_of x) ++ noted env (term_of y)) (noted env (term_of z)) h') in
          ((a.0, b.0, d.0), sound_term (e.Choose spot (term_of x) (term_of y) (term_of z)) tt)

      links_known : (other : Type 0) (before : Term) (at : ℕ) → Own before at → (x : Links) → LinksHave nonempty_lists x → LinksTold Any Used x → (shared : Bool)
          → Each K (s.links_tokens thing around shared x) → Each R (links_references x) → Each N (noted env (with_links before x))
          → Each N (noted env before) × (SoundOf before → LinksKnown (Room nests) env tables functions places nests before at x × SoundOf (with_links before x))
      links_known other before at own t.no_links trim told shared k c h = (h, (λ sound. (tt, sound)))
      links_known other before at own (t.link spot sign right others) trim told shared k c h =
          let j = joined_term spot sign before (term_of right) in
          let ks = s.tree_tokens thing around right in
          let rest = links_known (Unit {0}) j spot.at (own_joined spot sign before (term_of right)) others trim.1 told.2 (is_joined_shared sign shared (is_shared thing right))
          (rest_of K ks _ k).1 (rest_of R (tree_references right) (links_references others) c) h in
          let h' = subst (Each N) (sym (noted-joined env spot sign before (term_of right))) rest.0 in
          let h2 = front_of N (noted env before ++ noted env (term_of right)) _ h' in
          let hb = front_of N (noted env before) (noted env (term_of right)) h2 in
          let r = known right (Unit {0}) trim.0 told.1 (front_of K ks _ k) (front_of R (tree_references right) (links_references others) c) (rest_of N (noted env before) (noted env (term_of right)) h2) in
          let more = rest.1 (sound_term j (joined_other spot sign before (term_of right))) in
          (hb, (λ sound. ((r.0, comma_is sign before at (own hb) sound, more.0), more.1)))

      arguments_known : (x : Trees) (other : Type 0) (before : Terms) → TreesHave nonempty_lists x → AllTold Any Used x → Each K (s.trees_tokens thing around x) → Each R (trees_references x)
          → Each N (all_noted env (with_arguments before x)) → Each N (all_noted env before) × AllKnown (Room nests) env tables functions places nests x
      arguments_known t.no_trees other before trim told k c h = (h, tt)
      arguments_known (t.tree first others) other before trim told k c h =
          let ks = s.tree_tokens thing around first in
          let rest = arguments_known others (Unit {0}) (also before (term_of first)) trim.1 told.1 (rest_of K ks _ k) (rest_of R (tree_references first) (trees_references others) c) h in
          let r = known first (Unit {0}) trim.0 told.0 (front_of K ks _ k) (front_of R (tree_references first) (trees_references others) c) (rest_of N (all_noted env before) (noted env (term_of first)) rest.0) in
          (front_of N (all_noted env before) (noted env (term_of first)) rest.0, (r.0, rest.1))

      suffixes_known : (A : Type 0) (before : Term) (y : Way) (at : ℕ) → Own before at → (x : Suffixes) → SuffixesHave nonempty_lists x → SuffixesTold Any Used x → (shared called : Bool)
          → Each K (s.suffixes_tokens thing around shared called x) → Each R (suffixes_references at x) → Each N (noted env (with_suffixes before x))
          → Each N (noted env before)
          × (SoundOf before → Callable A before y → SuffixesKnown (Room nests) env tables functions places nests A before y x × SoundOf (with_suffixes before x))
      suffixes_known A before y at own t.no_suffixes trim told shared called k c h = (h, (λ sound calls. (tt, sound)))
      suffixes_known A before y at own (t.index spot by others) trim told shared called k c h =
          let j = e.Index spot before (term_of by) in
          let ks = s.tree_tokens thing around by in
          let rest = suffixes_known A j Unchecked spot.at (λ i. last_own (noted env before ++ noted env (term_of by)) _ i) others trim.1 told.1 _ _
          (rest_of K ks _ k).1 (rest_of R (tree_references by) (suffixes_references spot.at others) c) h in
          let h2 = front_of N (noted env before ++ noted env (term_of by)) _ rest.0 in
          let r = known by (Unit {0}) trim.0 told.0 (front_of K ks _ k) (front_of R (tree_references by) (suffixes_references spot.at others) c) (rest_of N (noted env before) (noted env (term_of by)) h2) in
          let more = rest.1 (sound_term j tt) (uncallable A j Unchecked refl) in
          (front_of N (noted env before) (noted env (term_of by)) h2, (λ sound calls. ((r.0, more.0), more.1)))
      suffixes_known A before y at own (t.call spot es others) trim told shared called k c h =
          let args = with_arguments no_terms es in
          let j = e.Call spot before args in
          let ks = s.trees_tokens thing around es in
          let rest = suffixes_known A j (called_way tables places y) spot.at (λ i. last_own (noted env before ++ all_noted env args) _ i) others trim.1 told.1 _ _
          (rest_of K ks _ k).1 (rest_of R (trees_references es) (suffixes_references spot.at others) c) h in
          let h2 = front_of N (noted env before ++ all_noted env args) _ rest.0 in
          let all = arguments_known es (Unit {0}) no_terms trim.0 told.0 (front_of K ks _ k) (front_of R (trees_references es) (suffixes_references spot.at others) c) (rest_of N (noted env before) (all_noted env args) h2) in (
            front_of N (noted env before) (all_noted env args) h2,
            (λ sound calls.
                let more = rest.1 (λ type typed. sound_called y type (calls spot es type typed).2) (uncallable A j (called_way tables places y) refl) in
                ((all.1, (λ type typed. calls spot es type typed), more.0), more.1)),
          )
      suffixes_known A before y at own (t.dot spot name others) trim told shared called k c h =
          let j = e.Member spot before name in
          let rest = suffixes_known A j (dotted_way tables places name.at y) spot.at (λ i. last_own (noted env before) _ i) others trim.1 told _ _ k.1 c.1 h in
          let hb = front_of N (noted env before) _ rest.0 in
          let more = rest.1 (sound_term j tt) (uncallable A j (dotted_way tables places name.at y) refl) in
          (hb, (λ sound calls. ((member_room program facts given nests at spot before name c.0 (own hb), more.0), more.1)))
      suffixes_known A before y at own (t.arrow spot name others) trim told shared called k c h =
          let j = e.Through spot before name in
          let rest = suffixes_known A j Unchecked spot.at (λ i. last_own (noted env before) _ i) others trim.1 told _ _ k.1 c.1 h in
          let more = rest.1 (sound_term j tt) (uncallable A j Unchecked refl) in
          (front_of N (noted env before) _ rest.0, (λ sound calls. (more.0, more.1)))
      suffixes_known A before y at own (t.up spot others) trim told shared called k c h =
          let j = e.Count spot false before in
          let rest = suffixes_known A j Valued spot.at (λ i. last_own (noted env before) _ i) others trim told _ _ k.1 c h in
          let more = rest.1 (sound_term j tt) (uncallable A j Valued refl) in
          (front_of N (noted env before) _ rest.0, (λ sound calls. (more.0, more.1)))
      suffixes_known A before y at own (t.down spot others) trim told shared called k c h =
          let j = e.Count spot false before in
          let rest = suffixes_known A j Valued spot.at (λ i. last_own (noted env before) _ i) others trim told _ _ k.1 c h in
          let more = rest.1 (sound_term j tt) (uncallable A j Valued refl) in
          (front_of N (noted env before) _ rest.0, (λ sound calls. (more.0, more.1)))
