-- A command's words are taken by `clap` exactly where they spell its arguments, each once.
use Rattle.std.proofs.Common.{◌≡◌, ℕ, Bool, true, false, not, List, [], ◌∷◌, ◌++◌, length, map, drop, Option, Some, None, codes, refl, sym, ap, ap₂, ◌∙◌, subst, append_assoc, append-nil, arith}
use Rattle.std.specs.Prelude.{◌&&◌, ◌||◌, ◌==◌, is_some, encode_utf8, fold, option_map, slice_get}
use Rattle.std.specs.Str.{IsUtf8, bytes_eq, chars}
use Rattle.std.proofs.lemmas.Bool.{eq-eqb, eqb-true}
use Rattle.std.proofs.lemmas.Slice.Eq.{bytes_eq-Decides}
use Rattle.std.proofs.lemmas.Str.{encode_ascii}
use Rattle.clap.specs.Walk.{Row, Rule, Walk, arg_by_long, arg_by_short, attached_value, finished, has_long, has_short, walked}
use Rattle.clap.specs.Kinds.{Kinds, or_else}
use Rattle.clap.specs.Faults.{turn_fault, walk_fault}
use Rattle.fk_top_words.specs.Arguments.{Text, Part, File, Harts, Cycles, Show, Image, Argument, argument, is_dashed, is_part, option_word, Spells, Nothing, Plain, Apart, Joined, Attached, Ended}
use Rattle.fk_top_words.specs.Written.{long_of_part}
use Rattle.fk_top_words.proofs.Rules.{IsCommand, command, finds, index_of, is_in, rule, rules}
use Rattle.fk_top_words.proofs.Given.{IsKnown, IsNew, IsOnce, at, awaiting, end_fault, end_then, first_empty, given, joined, lacks, once-more, rows, rows-end, same_part}
use Rattle.fk_top_words.proofs.Forms.{FirstChar, Form, IsLong, IsPlain, IsShort, dashes, first_char, form, long, plain, short}
use Rattle.fk_top_words.proofs.Steps.{Turn, settle_awaiting, turn_apart, turn_awaiting_behind, turn_behind, turn_dashes, turn_end_of_options, turn_joined, turn_no_short, turn_no_value, turn_plain, turn_second, turn_second_behind, turn_short, turn_short_apart, turn_short_unknown, turn_unknown, turn_value}

-- ---- options by their names

or-false : (b : Bool) → (b || false) ≡ b
or-false true = refl
or-false false = refl

pub same_text : (a b : Text) → bytes_eq a b ≡ true → a ≡ b
same_text a b e = (bytes_eq-Decides a b).0 e

named_long : (p : Part) (name : Text) → (not (is_some (index_of p)) && has_long (rule p) name) ≡ true → long_of_part p ≡ Some name
named_long File name e = cc
named_long Harts name e = ap (λ n. Some n) (same_text (codes "harts") name (sym (or-false _) ∙ e))
named_long Cycles name e = ap (λ n. Some n) (same_text (codes "cycles") name (sym (or-false _) ∙ e))
named_long Show name e = ap (λ n. Some n) (same_text (codes "show") name (sym (or-false _) ∙ e))
named_long Image name e = cc

named_short : (p : Part) (x : ℕ) → (not (is_some (index_of p)) && has_short (rule p) x) ≡ true → (p ≡ Image) × (x ≡ 111)
named_short File x e = cc
named_short Harts x e = cc
named_short Cycles x e = cc
named_short Show x e = cc
named_short Image x e = (refl, sym (eqb-true 111 x (sym (or-false _) ∙ e)))

-- the option of a long name, or of a short one
data LongOption (ps : List Part) (name : Text) : Type 0 where
  is_long : (p : Part) → arg_by_long (rules ps) name ≡ Some (rule p) → is_in p ps ≡ true → long_of_part p ≡ Some name → LongOption ps name
  no_long : arg_by_long (rules ps) name ≡ None → LongOption ps name

data ShortOption (ps : List Part) (x : ℕ) : Type 0 where
  is_image : arg_by_short (rules ps) x ≡ Some (rule Image) → is_in Image ps ≡ true → x ≡ 111 → ShortOption ps x
  no_short : arg_by_short (rules ps) x ≡ None → ShortOption ps x

long_option : (ps : List Part) (name : Text) → LongOption ps name
long_option ps name = by (arg_by_long (rules ps) name) refl
  where
    by : (o : Option Rule) → arg_by_long (rules ps) name ≡ o → LongOption ps name
    by None e = no_long e
    by (Some a) e =
        let f = finds ps (λ a. not (is_some a.index) && has_long a name) a e in
        is_long f.part (e ∙ ap (λ a. Some a) f.is) f.within (named_long f.part name f.passes)

short_option : (ps : List Part) (x : ℕ) → ShortOption ps x
short_option ps x = by (arg_by_short (rules ps) x) refl
  where
    image_of : (p : Part) (a : Rule) → p ≡ Image → a ≡ rule p → is_in p ps ≡ true → arg_by_short (rules ps) x ≡ Some a → x ≡ 111 → ShortOption ps x
    image_of p a e is within found o =
        is_image (found ∙ ap (λ a. Some a) (is ∙ ap rule e)) (ap (λ q. is_in q ps) (sym e) ∙ within) o

    by : (o : Option Rule) → arg_by_short (rules ps) x ≡ o → ShortOption ps x
    by None e = no_short e
    by (Some a) e =
        let f = finds ps (λ a. not (is_some a.index) && has_short a x) a e in
        let named = named_short f.part x f.passes in
        image_of f.part a named.0 f.is f.within e named.1

-- ---- the faults of the words from a place on, and the rows at their end

abbrev pub rest_fault : Text → List Part → Walk → List Text → Kinds
rest_fault name ps w words = or_else (walk_fault (command name ps) [] w words) (end_fault name ps (fold (walked (rules ps) []) w words).held)

abbrev pub rows_at_end : List Part → Walk → List Text → List Row
rows_at_end ps w words = finished (rules ps) (fold (walked (rules ps) []) w words).held

pub turn_of : (name : Text) (ps : List Part) (w : Walk) (word : Text) (words : List Text) → rest_fault name ps w (word ∷ words) ≡ []
    → turn_fault (command name ps) [] w word ≡ []
unfolding walk_fault
turn_of name ps w word words fine = first_empty _ _ (first_empty _ _ fine)

rest-is : (name : Text) (ps : List Part) (w after : Walk) (word : Text) (words : List Text) → turn_fault (command name ps) [] w word ≡ []
    → walked (rules ps) [] w word ≡ after → rest_fault name ps w (word ∷ words) ≡ rest_fault name ps after words
unfolding walk_fault
rest-is name ps w after word words fine stands =
    ap (λ t. or_else (or_else t (walk_fault (command name ps) [] (walked (rules ps) [] w word) words)) (end_fault name ps (fold (walked (rules ps) []) (walked (rules ps) [] w word) words).held)) fine
    ∙ ap (λ v. rest_fault name ps v words) stands

rows-is : (ps : List Part) (w after : Walk) (word : Text) (words : List Text) → walked (rules ps) [] w word ≡ after
    → rows_at_end ps w (word ∷ words) ≡ rows_at_end ps after words
rows-is ps w after word words stands = ap (λ v. rows_at_end ps v words) stands

-- the rest of the words, after a turn that is allowed
pub record Goes (name : Text) (ps : List Part) (w after : Walk) (word : Text) (words : List Text) (Allowed : Type 0) : Type 0 where
  pub allowed : Allowed
  pub fault : rest_fault name ps w (word ∷ words) ≡ rest_fault name ps after words
  pub rows_same : rows_at_end ps w (word ∷ words) ≡ rows_at_end ps after words

pub goes : {Allowed : Type 0} (name : Text) (ps : List Part) (w after : Walk) (word : Text) (words : List Text) → Turn name ps w word Allowed after
    → Allowed → Goes name ps w after word words Allowed
goes name ps w after word words turn allowed = record {
  allowed = allowed;
  fault = rest-is name ps w after word words (turn.fine allowed) (turn.stands allowed);
  rows_same = rows-is ps w after word words (turn.stands allowed);
}

pub goes_fine : {Allowed : Type 0} (name : Text) (ps : List Part) (w after : Walk) (word : Text) (words : List Text) → Turn name ps w word Allowed after
    → rest_fault name ps w (word ∷ words) ≡ [] → Goes name ps w after word words Allowed
goes_fine name ps w after word words turn fine =
    goes name ps w after word words turn (turn.then_allowed (turn_of name ps w word words fine))

-- ---- words that are taken spell arguments

-- each part that was given is one of the command's
abbrev pub AreIn : List Part → List Argument → Type 0
AreIn ps us = (p : Part) → is_in p ps ≡ false → given p us ≡ false

abbrev SpellsFrom : Bool → List Text → List Argument → Type 0
SpellsFrom false words arguments = Spells words arguments
SpellsFrom true words arguments = arguments ≡ map (argument File) words

-- what the words add to what was given before them
pub record Adds (ps : List Part) (us : List Argument) (is_trailing : Bool) (words : List Text) (end : List Row) : Type 0 where
  pub arguments : List Argument
  pub spelled : SpellsFrom is_trailing words arguments
  pub within : AreIn ps arguments
  pub once : IsOnce (us ++ arguments)
  pub has_all : lacks ps (us ++ arguments) ≡ false
  pub rows_are : end ≡ rows (us ++ arguments)

in_cons : (ps : List Part) (a : Argument) (us : List Argument) → is_in a.part ps ≡ true → AreIn ps us → AreIn ps (a ∷ us)
in_cons ps a us within rest p outside = by (is_part p a.part) refl
  where
    by : (b : Bool) → is_part p a.part ≡ b → given p (a ∷ us) ≡ false
    by true e = let bad : true ≡ false = sym within ∙ ap (λ q. is_in q ps) (sym (same_part p a.part e)) ∙ outside in cc
    by false e = rw e (rest p outside)

-- one more argument in front
extend : (ps : List Part) (us : List Argument) (a : Argument) (t s : Bool) (words more : List Text) (end : List Row)
    → Adds ps (us ++ a ∷ []) t words end → is_in a.part ps ≡ true
    → ((arguments : List Argument) → SpellsFrom t words arguments → SpellsFrom s more (a ∷ arguments))
    → Adds ps us s more end
extend ps us a t s words more end adds within spell =
    let join : (us ++ a ∷ []) ++ adds.arguments ≡ us ++ a ∷ adds.arguments = append_assoc us (a ∷ []) adds.arguments in
    record {
      arguments = a ∷ adds.arguments;
      spelled = spell adds.arguments adds.spelled;
      within = in_cons ps a adds.arguments within adds.within;
      once = subst IsOnce join adds.once;
      has_all = ap (λ all. lacks ps all) (sym join) ∙ adds.has_all;
      rows_are = adds.rows_are ∙ ap (λ all. rows all) join;
    }

once-joined : (us : List Argument) (last : Option Argument) → IsOnce us → IsNew us last → IsOnce (joined us last)
once-joined us None once new = once
once-joined us (Some a) once new = once-more a.part a.value us once new

known-file : (ps : List Part) → IsCommand ps → (word : Text) → IsKnown ps (Some (argument File word))
known-file ps known word = known.file

moved : (ps : List Part) (us : List Argument) (t : Bool) (words : List Text) (end other : List Row) → other ≡ end → Adds ps us t words end → Adds ps us t words other
moved ps us t words end other same adds = record {
  arguments = adds.arguments;
  spelled = adds.spelled;
  within = adds.within;
  once = adds.once;
  has_all = adds.has_all;
  rows_are = same ∙ adds.rows_are;
}

-- the value that an option waits for, and what the words behind it add
pub record AddsValue (ps : List Part) (us : List Argument) (p : Part) (words : List Text) (end : List Row) : Type 0 where
  pub value : Text
  pub behind : List Text
  pub words_are : words ≡ value ∷ behind
  pub undashed : is_dashed value ≡ false
  pub adds : Adds ps (us ++ argument p value ∷ []) false behind end

-- each word is text
abbrev pub AreTexts : List Text → Type 0
AreTexts [] = Unit {0}
AreTexts (word ∷ words) = IsUtf8 word × AreTexts words

-- what words add where nothing is at fault
pub record Sound (name : Text) (ps : List Part) (words : List Text) : Type 0 where
  pub before : (us : List Argument) (last : Option Argument) (f : Bool) → IsKnown ps last → IsOnce us → rest_fault name ps (at us last f false) words ≡ []
      → Adds ps (joined us last) false words (rows_at_end ps (at us last f false) words)
  pub behind : (us : List Argument) (last : Option Argument) (f : Bool) → IsKnown ps last → IsOnce us → rest_fault name ps (at us last f true) words ≡ []
      → Adds ps (joined us last) true words (rows_at_end ps (at us last f true) words)
  pub awaited : (us : List Argument) (p : Part) (f : Bool) → is_in p ps ≡ true → IsOnce us → rest_fault name ps (awaiting us p f false) words ≡ []
      → AddsValue ps us p words (rows_at_end ps (awaiting us p f false) words)

option_of_long : (p : Part) (name : Text) → long_of_part p ≡ Some name → option_word p ≡ Some (45 ∷ 45 ∷ name)
option_of_long File name e = cc
option_of_long Harts name e = ap (option_map (λ n. 45 ∷ 45 ∷ n)) e
option_of_long Cycles name e = ap (option_map (λ n. 45 ∷ 45 ∷ n)) e
option_of_long Show name e = ap (option_map (λ n. 45 ∷ 45 ∷ n)) e
option_of_long Image name e = cc

apart : (p : Part) (option value word : Text) (words behind : List Text) (arguments : List Argument) → option_word p ≡ Some option → word ≡ option → words ≡ value ∷ behind
    → is_dashed value ≡ false → Spells behind arguments → Spells (word ∷ words) (argument p value ∷ arguments)
apart p option value word words behind arguments names word_is words_are undashed spelled =
    subst (λ ws. Spells ws (argument p value ∷ arguments)) (sym (ap₂ (λ (x : Text) (xs : List Text). x ∷ xs) word_is words_are)) (Apart p option value names undashed spelled)

module _ (name : Text) (ps : List Part) (known : IsCommand ps) where
  pub ends : (w : Walk) → rest_fault name ps w [] ≡ end_fault name ps w.held
  unfolding walk_fault
  ends w = refl

  nothing : (t : Bool) → SpellsFrom t [] []
  nothing true = refl
  nothing false = Nothing

  adds_nothing : (us : List Argument) (last : Option Argument) (f t : Bool) → IsKnown ps last → IsOnce us → rest_fault name ps (at us last f t) [] ≡ []
      → Adds ps (joined us last) t [] (rows_at_end ps (at us last f t) [])
  adds_nothing us last f t within once fine =
      let end = end_then name ps known us last within (sym (ends (at us last f t)) ∙ fine) in
      let here = once-joined us last once end.0 in
      let same : joined us last ++ [] ≡ joined us last = append-nil (joined us last) in
      record {
        arguments = [];
        spelled = nothing t;
        within = λ p _. refl;
        once = subst IsOnce (sym same) here;
        has_all = ap (λ all. lacks ps all) same ∙ end.1;
        rows_are = rows-end name ps known us last within end.0 ∙ ap (λ all. rows all) (sym same);
      }

  never_awaits : (us : List Argument) (p : Part) (f t : Bool) → is_in p ps ≡ true → rest_fault name ps (awaiting us p f t) [] ≡ [] → ⊥
  never_awaits us p f t within fine =
      let settled = settle_awaiting name ps known us p within f in
      let bad = sym settled ∙ first_empty _ _ (sym (ends (awaiting us p f t)) ∙ fine) in cc

  module _ (word : Text) (words : List Text) (rest : Sound name ps words) where
    module _ (us : List Argument) (last : Option Argument) (f : Bool) (within : IsKnown ps last) (once : IsOnce us) (fine : rest_fault name ps (at us last f false) (word ∷ words) ≡ []) where
      given_joined : (p : Part) (v : Text) → is_in p ps ≡ true
          → Turn name ps (at us last f false) word (IsNew us last × (given p (joined us last) ≡ false)) (at (joined us last ++ argument p v ∷ []) None f false)
          → ((arguments : List Argument) → Spells words arguments → Spells (word ∷ words) (argument p v ∷ arguments))
          → Adds ps (joined us last) false (word ∷ words) (rows_at_end ps (at us last f false) (word ∷ words))
      given_joined p v known_p turn spell =
          let g = goes_fine name ps (at us last f false) (at (joined us last ++ argument p v ∷ []) None f false) word words turn fine in
          let here = once-joined us last once g.allowed.0 in
          let adds = rest.before (joined us last ++ argument p v ∷ []) None f tt (once-more p v (joined us last) here g.allowed.1) (sym g.fault ∙ fine) in
          extend ps (joined us last) (argument p v) false false words (word ∷ words) _ (moved ps _ false words _ _ g.rows_same adds) known_p spell

      given_apart : (p : Part) (option : Text) → is_in p ps ≡ true → option_word p ≡ Some option → word ≡ option
          → Turn name ps (at us last f false) word (IsNew us last) (awaiting (joined us last) p f false)
          → Adds ps (joined us last) false (word ∷ words) (rows_at_end ps (at us last f false) (word ∷ words))
      given_apart p option known_p names word_is turn =
          let g = goes_fine name ps (at us last f false) (awaiting (joined us last) p f false) word words turn fine in
          let here = once-joined us last once g.allowed in
          let awaited = rest.awaited (joined us last) p f known_p here (sym g.fault ∙ fine) in
          extend ps (joined us last) (argument p awaited.value) false false awaited.behind (word ∷ words) _ (moved ps _ false awaited.behind _ _ g.rows_same awaited.adds) known_p
          (λ arguments spelled. apart p option awaited.value word words awaited.behind arguments names word_is awaited.words_are awaited.undashed spelled)

      sound_long : (option_name : Text) (value : Option Text) → IsLong word option_name value → LongOption ps option_name
          → Adds ps (joined us last) false (word ∷ words) (rows_at_end ps (at us last f false) (word ∷ words))
      sound_long option_name value is (no_long found) =
          absurd (turn_unknown name ps known us last within f File word option_name value is found (turn_of name ps _ word words fine))
      sound_long option_name None is (is_long p found known_p named) =
          given_apart p (45 ∷ 45 ∷ option_name) known_p (option_of_long p option_name named) is.text (turn_apart name ps known us last within f p word option_name is found)
      sound_long option_name (Some v) is (is_long p found known_p named) =
          given_joined p v known_p (turn_joined name ps known us last within f p word option_name v is found)
          (λ arguments spelled. Joined p (45 ∷ 45 ∷ option_name) v word (option_of_long p option_name named) (is.text ∙ sym (append_assoc (45 ∷ 45 ∷ option_name) (61 ∷ []) v)) spelled)

      value_of_letter : (first x : ℕ) (letters : Text) → x ≡ 111 → drop (length (encode_utf8 x)) (first ∷ letters) ≡ letters
      value_of_letter first x letters e =
          let one : length (encode_utf8 x) ≡ 1 = ap (λ y. length (encode_utf8 y)) e ∙ ap length (encode_ascii 111 (omega arith)) in rw one refl

      sound_letter : (first x : ℕ) (letters : Text) → IsShort word first letters → slice_get (chars (first ∷ letters)) 0 ≡ Some x → arg_by_short (rules ps) x ≡ Some (rule Image)
          → is_in Image ps ≡ true → x ≡ 111 → first ≡ 111
          → Adds ps (joined us last) false (word ∷ words) (rows_at_end ps (at us last f false) (word ∷ words))
      sound_letter first x [] is char found known_p e o =
          given_apart Image (codes "-o") known_p refl (is.text ∙ ap (λ c. 45 ∷ c ∷ []) o)
          (turn_short_apart name ps known us last within f Image word first x [] is char found (ap attached_value (value_of_letter first x [] e)))
      sound_letter first x (y ∷ ys) is char found known_p e o = by (y == 61) refl
        where
          by : (b : Bool) → (y == 61) ≡ b → Adds ps (joined us last) false (word ∷ words) (rows_at_end ps (at us last f false) (word ∷ words))
          by true equals =
              let value : attached_value (y ∷ ys) ≡ Some ys = rw equals refl in
              given_joined Image ys known_p
              (turn_short name ps known us last within f Image word first x (y ∷ ys) ys is char found (ap attached_value (value_of_letter first x (y ∷ ys) e) ∙ value))
              (λ arguments spelled. Joined Image (codes "-o") ys word refl (is.text ∙ ap₂ (λ c z. 45 ∷ c ∷ z ∷ ys) o (eqb-true y 61 equals)) spelled)
          by false other =
              let value : attached_value (y ∷ ys) ≡ Some (y ∷ ys) = rw other refl in
              given_joined Image (y ∷ ys) known_p
              (turn_short name ps known us last within f Image word first x (y ∷ ys) (y ∷ ys) is char found (ap attached_value (value_of_letter first x (y ∷ ys) e) ∙ value))
              (λ arguments spelled. Attached y ys word (λ same. let bad : true ≡ false = sym (eq-eqb y 61 same) ∙ other in cc) (is.text ∙ ap (λ c. 45 ∷ c ∷ y ∷ ys) o) spelled)

      sound_short : (first : ℕ) (letters : Text) → IsShort word first letters → (c : FirstChar first letters) → ShortOption ps c.character
          → Adds ps (joined us last) false (word ∷ words) (rows_at_end ps (at us last f false) (word ∷ words))
      sound_short first letters is c (no_short found) =
          absurd (turn_short_unknown name ps known us last within f File word first c.character letters is c.is_first found (turn_of name ps _ word words fine))
      sound_short first letters is c (is_image found known_p e) = sound_letter first c.character letters is c.is_first found known_p e (c.ascii e)

      sound_plain : (g : Bool) → f ≡ g → IsPlain word → Adds ps (joined us last) false (word ∷ words) (rows_at_end ps (at us last f false) (word ∷ words))
      sound_plain true e is =
          absurd (turn_second name ps known us last within word is (subst (λ b. turn_fault (command name ps) [] (at us last b false) word ≡ []) e (turn_of name ps _ word words fine)))
      sound_plain false e is =
          let turn : Turn name ps (at us last f false) word (IsNew us last) (at (joined us last) (Some (argument File word)) true false)
          = subst (λ b. Turn name ps (at us last b false) word (IsNew us last) (at (joined us last) (Some (argument File word)) true false)) (sym e) (turn_plain name ps known us last within word is) in
          let g = goes_fine name ps (at us last f false) (at (joined us last) (Some (argument File word)) true false) word words turn fine in
          let adds = rest.before (joined us last) (Some (argument File word)) true known.file (once-joined us last once g.allowed) (sym g.fault ∙ fine) in
          extend ps (joined us last) (argument File word) false false words (word ∷ words) _ (moved ps _ false words _ _ g.rows_same adds) known.file
          (λ arguments spelled. Plain word is.dashed spelled)

      in_map : (texts : List Text) → AreIn ps (map (argument File) texts)
      in_map [] = λ p outside. refl
      in_map (t ∷ texts) = in_cons ps (argument File t) (map (argument File) texts) known.file (in_map texts)

      sound_dashes : word ≡ 45 ∷ 45 ∷ [] → Adds ps (joined us last) false (word ∷ words) (rows_at_end ps (at us last f false) (word ∷ words))
      sound_dashes is =
          let turn : Turn name ps (at us last f false) word (Unit {0}) (at us last f true)
          = subst (λ w. Turn name ps (at us last f false) w (Unit {0}) (at us last f true)) (sym is) (turn_dashes name ps known us last f) in
          let g = goes_fine name ps (at us last f false) (at us last f true) word words turn fine in
          let adds = rest.behind us last f within once (sym g.fault ∙ fine) in
          record {
            arguments = adds.arguments;
            spelled = Ended words word adds.arguments is adds.spelled;
            within = adds.within;
            once = adds.once;
            has_all = adds.has_all;
            rows_are = g.rows_same ∙ adds.rows_are;
          }

    sound_behind : (us : List Argument) (last : Option Argument) (f : Bool) → IsKnown ps last → IsOnce us → rest_fault name ps (at us last f true) (word ∷ words) ≡ []
        → Adds ps (joined us last) true (word ∷ words) (rows_at_end ps (at us last f true) (word ∷ words))
    sound_behind us last true within once fine =
        absurd (turn_second_behind name ps known us last within word (turn_of name ps _ word words fine))
    sound_behind us last false within once fine =
        let g = goes_fine name ps (at us last false true) (at (joined us last) (Some (argument File word)) true true) word words (turn_behind name ps known us last within word) fine in
        let adds = rest.behind (joined us last) (Some (argument File word)) true known.file (once-joined us last once g.allowed) (sym g.fault ∙ fine) in
        extend ps (joined us last) (argument File word) true true words (word ∷ words) _ (moved ps _ true words _ _ g.rows_same adds) known.file
        (λ arguments spelled. ap (λ more. argument File word ∷ more) spelled)

    module _ (us : List Argument) (p : Part) (f : Bool) (known_p : is_in p ps ≡ true) (once : IsOnce us) (fine : rest_fault name ps (awaiting us p f false) (word ∷ words) ≡ []) where
      turn_is_fine : turn_fault (command name ps) [] (awaiting us p f false) word ≡ []
      turn_is_fine = turn_of name ps _ word words fine

      awaited_long : (option_name : Text) (value : Option Text) → IsLong word option_name value → LongOption ps option_name → ⊥
      awaited_long option_name value is (no_long found) = turn_no_value name ps known us p known_p f word option_name value is None found turn_is_fine
      awaited_long option_name value is (is_long q found known_q named) = turn_no_value name ps known us p known_p f word option_name value is (Some q) found turn_is_fine

      awaited_short : (first : ℕ) (letters : Text) → IsShort word first letters → (c : FirstChar first letters) → ShortOption ps c.character → ⊥
      awaited_short first letters is c (no_short found) = turn_no_short name ps known us p known_p f word first c.character letters is c.is_first None found turn_is_fine
      awaited_short first letters is c (is_image found within e) = turn_no_short name ps known us p known_p f word first c.character letters is c.is_first (Some Image) found turn_is_fine

      awaited_plain : IsPlain word → AddsValue ps us p (word ∷ words) (rows_at_end ps (awaiting us p f false) (word ∷ words))
      awaited_plain is =
          let g = goes_fine name ps (awaiting us p f false) (at us (Some (argument p word)) f false) word words (turn_value name ps known us p known_p f word is) fine in
          let adds = rest.before us (Some (argument p word)) f known_p once (sym g.fault ∙ fine) in
          record {
            value = word;
            behind = words;
            words_are = refl;
            undashed = is.dashed;
            adds = moved ps _ false words _ _ g.rows_same adds;
          }

      awaiting_behind : (ws : List Text) → rest_fault name ps (awaiting us p f true) ws ≡ [] → ⊥
      awaiting_behind [] end = never_awaits us p f true known_p end
      awaiting_behind (w ∷ ws) end = turn_awaiting_behind name ps known us p f w known_p (turn_of name ps _ w ws end)

      awaited_dashes : word ≡ 45 ∷ 45 ∷ [] → ⊥
      awaited_dashes is =
          let turn : Turn name ps (awaiting us p f false) word (Unit {0}) (awaiting us p f true)
          = subst (λ w. Turn name ps (awaiting us p f false) w (Unit {0}) (awaiting us p f true)) (sym is) (turn_end_of_options name ps known us p known_p f) in
          let g = goes_fine name ps (awaiting us p f false) (awaiting us p f true) word words turn fine in
          awaiting_behind words (sym g.fault ∙ fine)

    sound_cons : IsUtf8 word → Sound name ps (word ∷ words)
    sound_cons utf8 = record {
      before = λ us last f within once fine. before us last f within once fine (form word);
      behind = sound_behind;
      awaited = λ us p f known_p once fine. awaited us p f known_p once fine (form word);
    }
      where
        before : (us : List Argument) (last : Option Argument) (f : Bool) → IsKnown ps last → IsOnce us → rest_fault name ps (at us last f false) (word ∷ words) ≡ []
            → Form word → Adds ps (joined us last) false (word ∷ words) (rows_at_end ps (at us last f false) (word ∷ words))
        before us last f within once fine (dashes is) = sound_dashes us last f within once fine is
        before us last f within once fine (long option_name value is) = sound_long us last f within once fine option_name value is (long_option ps option_name)
        before us last f within once fine (short first letters is) =
            let c = first_char first letters (subst IsUtf8 is.text utf8) in sound_short us last f within once fine first letters is c (short_option ps c.character)
        before us last f within once fine (plain is) = sound_plain us last f within once fine f refl is

        awaited : (us : List Argument) (p : Part) (f : Bool) → is_in p ps ≡ true → IsOnce us → rest_fault name ps (awaiting us p f false) (word ∷ words) ≡ []
            → Form word → AddsValue ps us p (word ∷ words) (rows_at_end ps (awaiting us p f false) (word ∷ words))
        awaited us p f known_p once fine (dashes is) = absurd (awaited_dashes us p f known_p once fine is)
        awaited us p f known_p once fine (long option_name value is) = absurd (awaited_long us p f known_p once fine option_name value is (long_option ps option_name))
        awaited us p f known_p once fine (short first letters is) =
            let c = first_char first letters (subst IsUtf8 is.text utf8) in absurd (awaited_short us p f known_p once fine first letters is c (short_option ps c.character))
        awaited us p f known_p once fine (plain is) = awaited_plain us p f known_p once fine is

  pub sound : (words : List Text) → AreTexts words → Sound name ps words
  sound [] texts = record {
    before = λ us last f. adds_nothing us last f false;
    behind = λ us last f. adds_nothing us last f true;
    awaited = λ us p f known_p once fine. absurd (never_awaits us p f false known_p fine);
  }
  sound (word ∷ words) texts = sound_cons word words (sound words texts.1) texts.0
