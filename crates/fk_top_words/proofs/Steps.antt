-- What each word does to the walk over a command's words: its fault, and where the walk then stands.
use Rattle.std.proofs.Common.{◌≡◌, ℕ, Bool, true, false, List, [], ◌∷◌, ◌++◌, length, drop, Option, Some, None, refl, sym, ap, ◌∙◌}
use Rattle.std.specs.Prelude.{◌&&◌, if◌then◌else◌, encode_utf8, option_map, slice_get}
use Rattle.std.specs.Str.{chars}
use Rattle.clap.specs.declared.error.kind.ErrorKind.TheVariants.{InvalidValue, UnknownArgument}
use Rattle.clap.specs.Walk.{Held, Walk, arg_by_long, arg_by_short, attached_value, bundle_met, settled_rows, walked}
use Rattle.clap.specs.Kinds.{Kinds, or_else}
use Rattle.clap.specs.Faults.{flags_fault, settle_fault, short_fault, turn_fault, use_fault}
use Rattle.fk_top_words.specs.Arguments.{Text, Part, File, Argument, argument}
use Rattle.fk_top_words.proofs.Rules.{IsCommand, command, is_in, rule, rules}
use Rattle.fk_top_words.proofs.Given.{IsKnown, IsNew, at, awaiting, conflict, first_empty, given, held, is_part-same, joined, no_conflict, pending_of, rows, same_id, second_empty, settle_fine, settle_new, settled-is, use-is, used-new}
use Rattle.fk_top_words.proofs.Forms.{IsLong, IsShort, IsPlain}

or-nil : (x : Kinds) → or_else x [] ≡ x
or-nil [] = refl
or-nil (k ∷ ks) = refl

and_none : {X : Type 0} (b : Bool) (x y : X) → (if b && false then x else y) ≡ y
and_none true x y = refl
and_none false x y = refl

-- a word that is fine exactly where something is allowed, with where the walk then stands
pub record Turn (name : Text) (ps : List Part) (w : Walk) (word : Text) (Allowed : Type 0) (after : Walk) : Type 0 where
  pub fine : Allowed → turn_fault (command name ps) [] w word ≡ []
  pub then_allowed : turn_fault (command name ps) [] w word ≡ [] → Allowed
  pub stands : Allowed → walked (rules ps) [] w word ≡ after

module _ (name : Text) (ps : List Part) (known : IsCommand ps) where
  -- ---- an option with its value

  react_fault_of : List Argument → Option Argument → Part → Text → Kinds
  react_fault_of us last p v =
      or_else (settle_fault (rules ps) false (held us last)) (use_fault false (rule p) (v ∷ []) (settled_rows (rules ps) (pending_of last) (rows us)))

  abbrev IsNewOne : List Argument → Option Argument → Part → Type 0
  IsNewOne us last p = IsNew us last × (given p (joined us last) ≡ false)

  react_fine : (us : List Argument) (last : Option Argument) (p : Part) (v : Text) → IsKnown ps last → IsNewOne us last p → react_fault_of us last p v ≡ []
  unfolding react_fault_of
  react_fine us last p v within new =
      rw (settle_fine ps known us last within new.0, settled-is ps known us last within new.0) (use-is p v (joined us last) ∙ ap conflict new.1)

  react_new : (us : List Argument) (last : Option Argument) (p : Part) (v : Text) → IsKnown ps last → react_fault_of us last p v ≡ [] → IsNewOne us last p
  unfolding react_fault_of
  react_new us last p v within fine =
      let new = settle_new ps known us last within (first_empty _ _ fine) in
      let repeated : use_fault false (rule p) (v ∷ []) (settled_rows (rules ps) (pending_of last) (rows us)) ≡ [] = second_empty _ _ fine in
      let at_rows : use_fault false (rule p) (v ∷ []) (rows (joined us last)) ≡ [] = rw (settled-is ps known us last within new) at repeated in
      (new, no_conflict _ (sym (use-is p v (joined us last)) ∙ at_rows))

  module _ (us : List Argument) (last : Option Argument) (within : IsKnown ps last) (has_file : Bool) (p : Part) (word : Text) where
    pub turn_joined : (option_name v : Text) → IsLong word option_name (Some v) → arg_by_long (rules ps) option_name ≡ Some (rule p)
        → Turn name ps (at us last has_file false) word (IsNew us last × (given p (joined us last) ≡ false)) (at (joined us last ++ argument p v ∷ []) None has_file false)
    unfolding walked react_fault_of
    turn_joined option_name v is found =
        let some = is.some in
        let long = is.long in
        let fault : turn_fault (command name ps) [] (at us last has_file false) word ≡ react_fault_of us last p v = rw (some, long, found) (or-nil _) in
        record {
          fine = λ new. fault ∙ react_fine us last p v within new;
          then_allowed = λ fine. react_new us last p v within (sym fault ∙ fine);
          stands = λ new. rw (some, long, found, settled-is ps known us last within new.0, used-new p v (joined us last) new.1) refl;
        }

    pub turn_apart : (option_name : Text) → IsLong word option_name None → arg_by_long (rules ps) option_name ≡ Some (rule p)
        → Turn name ps (at us last has_file false) word (IsNew us last) (awaiting (joined us last) p has_file false)
    unfolding walked
    turn_apart option_name is found =
        let some = is.some in
        let long = is.long in
        let fault : turn_fault (command name ps) [] (at us last has_file false) word ≡ settle_fault (rules ps) false (held us last) = rw (some, long, found) (or-nil _) in
        record {
          fine = λ new. fault ∙ settle_fine ps known us last within new;
          then_allowed = λ fine. settle_new ps known us last within (sym fault ∙ fine);
          stands = λ new. rw (some, long, found, settled-is ps known us last within new) refl;
        }

    pub turn_unknown : (option_name : Text) (value : Option Text) → IsLong word option_name value → arg_by_long (rules ps) option_name ≡ None
        → turn_fault (command name ps) [] (at us last has_file false) word ≡ [] → ⊥
    turn_unknown option_name value is found fine =
        let some = is.some in
        let long = is.long in
        let bad : UnknownArgument ∷ [] ≡ [] = rw (some, long, found) at fine in cc

    pub turn_short : (first x : ℕ) (rest v : Text) → IsShort word first rest → slice_get (chars (first ∷ rest)) 0 ≡ Some x → arg_by_short (rules ps) x ≡ Some (rule p)
        → attached_value (drop (length (encode_utf8 x)) (first ∷ rest)) ≡ Some v
        → Turn name ps (at us last has_file false) word (IsNew us last × (given p (joined us last) ≡ false)) (at (joined us last ++ argument p v ∷ []) None has_file false)
    unfolding walked react_fault_of bundle_met flags_fault
    turn_short first x rest v is char found value =
        let some = is.some in
        let long = is.long in
        let flags = is.short in
        let fault : turn_fault (command name ps) [] (at us last has_file false) word ≡ react_fault_of us last p v = rw (some, long, flags, char, found, value) (or-nil _) in
        record {
          fine = λ new. fault ∙ react_fine us last p v within new;
          then_allowed = λ fine. react_new us last p v within (sym fault ∙ fine);
          stands = λ new. rw (some, long, flags, char, found, value, settled-is ps known us last within new.0, used-new p v (joined us last) new.1) refl;
        }

    pub turn_short_apart : (first x : ℕ) (rest : Text) → IsShort word first rest → slice_get (chars (first ∷ rest)) 0 ≡ Some x → arg_by_short (rules ps) x ≡ Some (rule p)
        → attached_value (drop (length (encode_utf8 x)) (first ∷ rest)) ≡ None
        → Turn name ps (at us last has_file false) word (IsNew us last) (awaiting (joined us last) p has_file false)
    unfolding walked bundle_met flags_fault
    turn_short_apart first x rest is char found value =
        let some = is.some in
        let long = is.long in
        let flags = is.short in
        let fault : turn_fault (command name ps) [] (at us last has_file false) word ≡ settle_fault (rules ps) false (held us last) = rw (some, long, flags, char, found, value) (or-nil _) in
        record {
          fine = λ new. fault ∙ settle_fine ps known us last within new;
          then_allowed = λ fine. settle_new ps known us last within (sym fault ∙ fine);
          stands = λ new. rw (some, long, flags, char, found, value, settled-is ps known us last within new) refl;
        }

    pub turn_short_unknown : (first x : ℕ) (rest : Text) → IsShort word first rest → slice_get (chars (first ∷ rest)) 0 ≡ Some x → arg_by_short (rules ps) x ≡ None
        → turn_fault (command name ps) [] (at us last has_file false) word ≡ [] → ⊥
    unfolding flags_fault
    turn_short_unknown first x rest is char found fine =
        let some = is.some in
        let long = is.long in
        let flags = is.short in
        let bad : UnknownArgument ∷ [] ≡ [] = rw (some, long, flags, char, found) at fine in cc

  -- ---- a file

  module _ (us : List Argument) (last : Option Argument) (within : IsKnown ps last) (word : Text) where
    pub turn_plain : IsPlain word → Turn name ps (at us last false false) word (IsNew us last) (at (joined us last) (Some (argument File word)) true false)
    unfolding walked
    turn_plain is =
        let some = is.some in
        let long = is.long in
        let short = is.short in
        let first = known.first in
        let fault : turn_fault (command name ps) [] (at us last false false) word ≡ settle_fault (rules ps) false (held us last) = rw (some, long, short, first, and_none) refl in
        record {
          fine = λ new. fault ∙ settle_fine ps known us last within new;
          then_allowed = λ fine. settle_new ps known us last within (sym fault ∙ fine);
          stands = λ new. rw (some, long, short, first, and_none, settled-is ps known us last within new) refl;
        }

    pub turn_behind : Turn name ps (at us last false true) word (IsNew us last) (at (joined us last) (Some (argument File word)) true true)
    unfolding walked
    turn_behind =
        let first = known.first in
        let fault : turn_fault (command name ps) [] (at us last false true) word ≡ settle_fault (rules ps) false (held us last) = rw (first, and_none) refl in
        record {
          fine = λ new. fault ∙ settle_fine ps known us last within new;
          then_allowed = λ fine. settle_new ps known us last within (sym fault ∙ fine);
          stands = λ new. rw (first, and_none, settled-is ps known us last within new) refl;
        }

    -- there is one file only
    pub turn_second : IsPlain word → turn_fault (command name ps) [] (at us last true false) word ≡ [] → ⊥
    turn_second is fine =
        let some = is.some in
        let long = is.long in
        let short = is.short in
        let second = known.second in
        let bad : UnknownArgument ∷ [] ≡ [] = rw (some, long, short, second) at fine in cc

    pub turn_second_behind : turn_fault (command name ps) [] (at us last true true) word ≡ [] → ⊥
    turn_second_behind fine =
        let second = known.second in
        let bad : UnknownArgument ∷ [] ≡ [] = rw second at fine in cc

  pub turn_dashes : (us : List Argument) (last : Option Argument) (has_file : Bool)
      → Turn name ps (at us last has_file false) (45 ∷ 45 ∷ []) (Unit {0}) (at us last has_file true)
  unfolding walked
  turn_dashes us last has_file = record { fine = λ _. refl; then_allowed = λ _. tt; stands = λ _. refl }

  -- ---- an option that waits for its value

  module _ (us : List Argument) (p : Part) (within : is_in p ps ≡ true) (has_file : Bool) where
    pub settle_awaiting : settle_fault (rules ps) false (awaiting us p has_file false).held ≡ InvalidValue ∷ []
    settle_awaiting = let found = known.by_id p within in rw found refl

    pub turn_value : (word : Text) → IsPlain word → Turn name ps (awaiting us p has_file false) word (Unit {0}) (at us (Some (argument p word)) has_file false)
    unfolding walked
    turn_value word is =
        let some = is.some in
        let long = is.long in
        let short = is.short in
        let found = known.by_id p within in
        let same = same_id p p ∙ is_part-same p in
        record {
          fine = λ _. rw (some, long, short) refl;
          then_allowed = λ _. tt;
          stands = λ _. rw (some, long, short, found, same) refl;
        }

    pub turn_no_value : (word option_name : Text) (value : Option Text) → IsLong word option_name value → (found : Option Part)
        → arg_by_long (rules ps) option_name ≡ option_map rule found
        → turn_fault (command name ps) [] (awaiting us p has_file false) word ≡ [] → ⊥
    turn_no_value word option_name value is None found fine =
        let some = is.some in
        let long = is.long in
        let bad : UnknownArgument ∷ [] ≡ [] = rw (some, long, found) at fine in cc
    turn_no_value word option_name None is (Some q) found fine =
        let some = is.some in
        let long = is.long in
        let own = known.by_id p within in
        let bad : InvalidValue ∷ [] ≡ [] = rw (some, long, found, own) at fine in cc
    turn_no_value word option_name (Some v) is (Some q) found fine =
        let some = is.some in
        let long = is.long in
        let own = known.by_id p within in
        let bad : InvalidValue ∷ [] ≡ [] = rw (some, long, found, own) at fine in cc

    short_refused : (x : ℕ) (rest : Text) (v : Option Text) (found : Option Part)
        → arg_by_short (rules ps) x ≡ option_map rule found → attached_value rest ≡ v
        → (next : Held → Kinds) → short_fault (rules ps) false (arg_by_short (rules ps) x) rest (awaiting us p has_file false).held next ≡ [] → ⊥
    short_refused x rest v None found value next fine =
        let bad : UnknownArgument ∷ [] ≡ [] = rw found at fine in cc
    short_refused x rest None (Some q) found value next fine =
        let own = known.by_id p within in
        let bad : InvalidValue ∷ [] ≡ [] = rw (found, value, own) at fine in cc
    short_refused x rest (Some v) (Some q) found value next fine =
        let own = known.by_id p within in
        let bad : InvalidValue ∷ [] ≡ [] = rw (found, value, own) at fine in cc

    pub turn_no_short : (word : Text) (first x : ℕ) (rest : Text) → IsShort word first rest → slice_get (chars (first ∷ rest)) 0 ≡ Some x → (found : Option Part)
        → arg_by_short (rules ps) x ≡ option_map rule found
        → turn_fault (command name ps) [] (awaiting us p has_file false) word ≡ [] → ⊥
    unfolding flags_fault
    turn_no_short word first x rest is char found by fine =
        let some = is.some in
        let long = is.long in
        let flags = is.short in
        short_refused x (drop (length (encode_utf8 x)) (first ∷ rest)) _ found by refl (flags_fault (rules ps) false (length rest) (drop (length (encode_utf8 x)) (first ∷ rest)) 0)
        (first_empty _ _ (rw (some, long, flags, char) at fine))

    pub turn_end_of_options : Turn name ps (awaiting us p has_file false) (45 ∷ 45 ∷ []) (Unit {0}) (awaiting us p has_file true)
    unfolding walked
    turn_end_of_options = record { fine = λ _. refl; then_allowed = λ _. tt; stands = λ _. refl }

  pub turn_awaiting_behind : (us : List Argument) (p : Part) (has_file : Bool) (word : Text) → is_in p ps ≡ true
      → turn_fault (command name ps) [] (awaiting us p has_file true) word ≡ [] → ⊥
  turn_awaiting_behind us p false word within fine =
      let first = known.first in
      let own = known.by_id p within in
      let bad : InvalidValue ∷ [] ≡ [] = rw (first, and_none, own) at fine in cc
  turn_awaiting_behind us p true word within fine =
      let second = known.second in
      let bad : UnknownArgument ∷ [] ≡ [] = rw second at fine in cc
