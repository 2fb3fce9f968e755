-- Words that spell a command's arguments, each once, are taken by `clap`.
use Rattle.std.proofs.Common.{◌≡◌, ◌≢◌, ℕ, Bool, true, false, List, [], ◌∷◌, ◌++◌, length, map, drop, Option, Some, None, codes, refl, sym, ap, ◌∙◌, subst, append_assoc, append-nil, arith}
use Rattle.std.specs.Prelude.{◌||◌, ◌==◌, encode_utf8}
use Rattle.std.proofs.lemmas.Bool.{ne_eqb}
use Rattle.std.proofs.lemmas.Str.{encode_ascii}
use Rattle.clap.specs.Walk.{Walk, arg_by_long, arg_by_short, attached_value}
use Rattle.fk_top_words.specs.Arguments.{Text, Part, File, Harts, Cycles, Show, Image, Argument, argument, is_dashed, is_part, option_word, Spells, Nothing, Plain, Apart, Joined, Attached, Ended}
use Rattle.fk_top_words.proofs.Rules.{IsCommand, is_in, rule, rules}
use Rattle.fk_top_words.proofs.Given.{IsKnown, IsNew, IsOnce, at, awaiting, end_fine, given, is_part-same, joined, lacks, new-in, rows, rows-end}
use Rattle.fk_top_words.proofs.Forms.{IsLong, o_first, plain_word}
use Rattle.fk_top_words.proofs.Steps.{Turn, turn_apart, turn_behind, turn_dashes, turn_joined, turn_plain, turn_short, turn_short_apart, turn_value}
use Rattle.fk_top_words.proofs.Taken.{AreIn, ends, goes, rest_fault, rows_at_end}

-- ---- how an option is spelled

-- `clap` finds the option by its long name, or by its letter
data OptionOf (ps : List Part) (p : Part) (option : Text) : Type 0 where
  by_name : (name : Text) → arg_by_long (rules ps) name ≡ Some (rule p) → ((word v : Text) → word ≡ option ++ codes "=" ++ v → IsLong word name (Some v))
      → IsLong option name None → OptionOf ps p option
  by_letter : p ≡ Image → option ≡ codes "-o" → arg_by_short (rules ps) 111 ≡ Some (rule Image) → OptionOf ps p option

option_of : (ps : List Part) → IsCommand ps → (p : Part) (option : Text) → is_in p ps ≡ true → option_word p ≡ Some option → OptionOf ps p option
option_of ps known File option within names = cc
option_of ps known Harts option within names =
    let is : codes "--harts" ≡ option = cc in
    subst (λ o. OptionOf ps Harts o) is (by_name (codes "harts") (known.by_long Harts within)
    (λ word v text. record { text = text; some = rw text refl; long = rw text refl }) (record { text = refl; some = refl; long = refl }))
option_of ps known Cycles option within names =
    let is : codes "--cycles" ≡ option = cc in
    subst (λ o. OptionOf ps Cycles o) is (by_name (codes "cycles") (known.by_long Cycles within)
    (λ word v text. record { text = text; some = rw text refl; long = rw text refl }) (record { text = refl; some = refl; long = refl }))
option_of ps known Show option within names =
    let is : codes "--show" ≡ option = cc in
    subst (λ o. OptionOf ps Show o) is (by_name (codes "show") (known.by_long Show within)
    (λ word v text. record { text = text; some = rw text refl; long = rw text refl }) (record { text = refl; some = refl; long = refl }))
option_of ps known Image option within names = let is : codes "-o" ≡ option = cc in by_letter refl (sym is) (known.by_short within)

attached-is : (first : ℕ) (rest : Text) → first ≢ 61 → attached_value (first ∷ rest) ≡ Some (first ∷ rest)
attached-is first rest other = let e : (first == 61) ≡ false = ne_eqb first 61 other in rw e refl

attached-equals : (value : Text) → attached_value (61 ∷ value) ≡ Some value
attached-equals value = refl

behind_o : (rest : Text) → drop (length (encode_utf8 111)) (111 ∷ rest) ≡ rest
behind_o rest = let one : length (encode_utf8 111) ≡ 1 = ap length (encode_ascii 111 (omega arith)) in rw one refl

-- ---- the parts of arguments

pub given-append : (p : Part) (us vs : List Argument) → given p (us ++ vs) ≡ (given p us || given p vs)
given-append p [] vs = refl
given-append p (u ∷ us) vs =
    ap (λ b. is_part p u.part || b) (given-append p us vs) ∙ sym (or_assoc (is_part p u.part) (given p us) (given p vs))
  where
    or_assoc : (a b c : Bool) → ((a || b) || c) ≡ (a || (b || c))
    or_assoc true b c = refl
    or_assoc false b c = refl

in_head : (ps : List Part) (a : Argument) (us : List Argument) → AreIn ps (a ∷ us) → is_in a.part ps ≡ true
in_head ps a us within = by (is_in a.part ps) refl
  where
    by : (b : Bool) → is_in a.part ps ≡ b → is_in a.part ps ≡ true
    by true e = e
    by false e =
        let none = within a.part e in
        let here : is_part a.part a.part ≡ true = is_part-same a.part in
        let bad : true ≡ false = rw here at none in cc

in_tail : (ps : List Part) (a : Argument) (us : List Argument) → AreIn ps (a ∷ us) → AreIn ps us
in_tail ps a us within p outside = by (is_part p a.part) refl
  where
    by : (b : Bool) → is_part p a.part ≡ b → given p us ≡ false
    by true e = let none = within p outside in let bad : true ≡ false = rw e at none in cc
    by false e = let none = within p outside in rw e at none

new-last : (us : List Argument) (last : Option Argument) (more : List Argument) → IsOnce (joined us last ++ more) → IsNew us last
new-last us None more once = tt
new-last us (Some a) more once = new-in a us more (subst IsOnce (append_assoc us (a ∷ []) more) once)

-- ---- the words are taken, and give their arguments

pub record Gets (name : Text) (ps : List Part) (us : List Argument) (w : Walk) (words : List Text) (arguments : List Argument) : Type 0 where
  pub fault : rest_fault name ps w words ≡ []
  pub rows_are : rows_at_end ps w words ≡ rows (us ++ arguments)

-- what holds of the arguments behind those that were given
pub record Remain (ps : List Part) (us : List Argument) (arguments : List Argument) : Type 0 where
  pub within : AreIn ps arguments
  pub once : IsOnce (us ++ arguments)
  pub has_all : lacks ps (us ++ arguments) ≡ false

remain_tail : (ps : List Part) (us : List Argument) (a : Argument) (arguments : List Argument) → Remain ps us (a ∷ arguments) → Remain ps (us ++ a ∷ []) arguments
remain_tail ps us a arguments remain =
    let join : us ++ a ∷ arguments ≡ (us ++ a ∷ []) ++ arguments = sym (append_assoc us (a ∷ []) arguments) in
    record {
      within = in_tail ps a arguments remain.within;
      once = subst IsOnce join remain.once;
      has_all = ap (λ all. lacks ps all) (sym join) ∙ remain.has_all;
    }

gets_cons : (name : Text) (ps : List Part) (us : List Argument) (a : Argument) (w after : Walk) (words more : List Text) (arguments : List Argument)
    → rest_fault name ps w more ≡ rest_fault name ps after words → rows_at_end ps w more ≡ rows_at_end ps after words
    → Gets name ps (us ++ a ∷ []) after words arguments → Gets name ps us w more (a ∷ arguments)
gets_cons name ps us a w after words more arguments fault same gets = record {
  fault = fault ∙ gets.fault;
  rows_are = same ∙ gets.rows_are ∙ ap rows (append_assoc us (a ∷ []) arguments);
}

is_file_given : Bool → List Argument → Type 0
is_file_given f us = f ≡ given File us

file_stays : (f : Bool) (us : List Argument) (p : Part) (v : Text) → is_part File p ≡ false → f ≡ given File us → f ≡ given File (us ++ argument p v ∷ [])
file_stays f us p v other is =
    is ∙ sym (given-append File us (argument p v ∷ []) ∙ rw other (or-none (given File us)))
  where
    or-none : (b : Bool) → (b || (false || false)) ≡ b
    or-none true = refl
    or-none false = refl

file_comes : (us : List Argument) (v : Text) → true ≡ given File (us ++ argument File v ∷ [])
file_comes us v = sym (given-append File us (argument File v ∷ []) ∙ or-some (given File us))
  where
    or-some : (b : Bool) → (b || (true || false)) ≡ true
    or-some true = refl
    or-some false = refl

no_file_option : (p : Part) (option : Text) → option_word p ≡ Some option → is_part File p ≡ false
no_file_option File option names = cc
no_file_option Harts option names = refl
no_file_option Cycles option names = refl
no_file_option Show option names = refl
no_file_option Image option names = refl

module _ (name : Text) (ps : List Part) (known : IsCommand ps) where
  gets_nothing : (us : List Argument) (last : Option Argument) (f t : Bool) → IsKnown ps last → Remain ps (joined us last) []
      → Gets name ps (joined us last) (at us last f t) [] []
  gets_nothing us last f t within remain =
      let new = new-last us last [] remain.once in
      let same : joined us last ++ [] ≡ joined us last = append-nil (joined us last) in
      record {
        fault = ends name ps known (at us last f t) ∙ end_fine name ps known us last within new (ap (λ all. lacks ps all) (sym same) ∙ remain.has_all);
        rows_are = rows-end name ps known us last within new ∙ ap (λ all. rows all) (sym same);
      }

  gets_behind : (words : List Text) (us : List Argument) (last : Option Argument) (f : Bool) → IsKnown ps last → f ≡ given File (joined us last)
      → Remain ps (joined us last) (map (argument File) words) → Gets name ps (joined us last) (at us last f true) words (map (argument File) words)
  gets_behind [] us last f within file remain = gets_nothing us last f true within remain
  gets_behind (word ∷ words) us last f within file remain =
      let new = new-last us last (argument File word ∷ map (argument File) words) remain.once in
      let none : f ≡ false = file ∙ new-in (argument File word) (joined us last) (map (argument File) words) remain.once in
      let turn : Turn name ps (at us last f true) word (IsNew us last) (at (joined us last) (Some (argument File word)) true true)
      = subst (λ b. Turn name ps (at us last b true) word (IsNew us last) (at (joined us last) (Some (argument File word)) true true)) (sym none) (turn_behind name ps known us last within word) in
      let g = goes name ps (at us last f true) (at (joined us last) (Some (argument File word)) true true) word words turn new in
      gets_cons name ps (joined us last) (argument File word) _ _ words (word ∷ words) (map (argument File) words) g.fault g.rows_same
      (gets_behind words (joined us last) (Some (argument File word)) true known.file (file_comes (joined us last) word) (remain_tail ps (joined us last) (argument File word) (map (argument File) words) remain))

  module _ (us : List Argument) (last : Option Argument) (f : Bool) (within : IsKnown ps last) (file : f ≡ given File (joined us last)) where
    -- what the words behind an option and its value give
    abbrev Behind : Part → Text → List Text → List Argument → Type 0
    Behind p v words arguments = Gets name ps (joined us last ++ argument p v ∷ []) (at (joined us last ++ argument p v ∷ []) None f false) words arguments

    gets_joined : (p : Part) (v word : Text) (words : List Text) (arguments : List Argument) → Remain ps (joined us last) (argument p v ∷ arguments)
        → Turn name ps (at us last f false) word (IsNew us last × (given p (joined us last) ≡ false)) (at (joined us last ++ argument p v ∷ []) None f false)
        → Behind p v words arguments → Gets name ps (joined us last) (at us last f false) (word ∷ words) (argument p v ∷ arguments)
    gets_joined p v word words arguments remain turn behind =
        let new : IsNew us last × (given p (joined us last) ≡ false) = (new-last us last (argument p v ∷ arguments) remain.once, new-in (argument p v) (joined us last) arguments remain.once) in
        let g = goes name ps (at us last f false) (at (joined us last ++ argument p v ∷ []) None f false) word words turn new in
        gets_cons name ps (joined us last) (argument p v) _ _ words (word ∷ words) arguments g.fault g.rows_same behind

    gets_by_letter : (v word letters : Text) (words : List Text) (arguments : List Argument) → word ≡ 45 ∷ 111 ∷ letters → attached_value letters ≡ Some v
        → arg_by_short (rules ps) 111 ≡ Some (rule Image) → Remain ps (joined us last) (argument Image v ∷ arguments) → Behind Image v words arguments
        → Gets name ps (joined us last) (at us last f false) (word ∷ words) (argument Image v ∷ arguments)
    gets_by_letter v word letters words arguments text value found remain behind =
        gets_joined Image v word words arguments remain
        (turn_short name ps known us last within f Image word 111 111 letters v (record { text = text; some = rw text refl; long = rw text refl; short = rw text refl })
        (o_first letters) found (ap attached_value (behind_o letters) ∙ value)) behind

    gets_option : (p : Part) (option v word : Text) (words : List Text) (arguments : List Argument) → OptionOf ps p option → word ≡ option ++ codes "=" ++ v
        → Remain ps (joined us last) (argument p v ∷ arguments) → Behind p v words arguments
        → Gets name ps (joined us last) (at us last f false) (word ∷ words) (argument p v ∷ arguments)
    gets_option p option v word words arguments (by_name option_name found joins alone) text remain behind =
        gets_joined p v word words arguments remain (turn_joined name ps known us last within f p word option_name v (joins word v text) found) behind
    gets_option p option v word words arguments (by_letter e letter found) text remain behind =
        subst (λ q. Remain ps (joined us last) (argument q v ∷ arguments) → Behind q v words arguments → Gets name ps (joined us last) (at us last f false) (word ∷ words) (argument q v ∷ arguments)) (sym e)
        (λ remain behind. gets_by_letter v word (61 ∷ v) words arguments (text ∙ ap (λ o. (o ++ codes "=") ++ v) letter) (attached-equals v) found remain behind) remain behind

    -- an option and its value as two words
    gets_apart : (p : Part) (option v : Text) (words : List Text) (arguments : List Argument) → is_in p ps ≡ true → is_dashed v ≡ false
        → Turn name ps (at us last f false) option (IsNew us last) (awaiting (joined us last) p f false)
        → Remain ps (joined us last) (argument p v ∷ arguments)
        → Gets name ps (joined us last ++ argument p v ∷ []) (at (joined us last) (Some (argument p v)) f false) words arguments
        → Gets name ps (joined us last) (at us last f false) (option ∷ v ∷ words) (argument p v ∷ arguments)
    gets_apart p option v words arguments known_p undashed turn remain behind =
        let new = new-last us last (argument p v ∷ arguments) remain.once in
        let g = goes name ps (at us last f false) (awaiting (joined us last) p f false) option (v ∷ words) turn new in
        let h = goes name ps (awaiting (joined us last) p f false) (at (joined us last) (Some (argument p v)) f false) v words (turn_value name ps known (joined us last) p known_p f v (plain_word v undashed)) tt in
        gets_cons name ps (joined us last) (argument p v) _ _ words (option ∷ v ∷ words) arguments (g.fault ∙ h.fault) (g.rows_same ∙ h.rows_same) behind

    turn_option : (p : Part) (option : Text) → OptionOf ps p option → Turn name ps (at us last f false) option (IsNew us last) (awaiting (joined us last) p f false)
    turn_option p option (by_name option_name found joins alone) = turn_apart name ps known us last within f p option option_name alone found
    turn_option p option (by_letter e letter found) =
        subst (λ q. Turn name ps (at us last f false) option (IsNew us last) (awaiting (joined us last) q f false)) (sym e)
        (turn_short_apart name ps known us last within f Image option 111 111 [] (record { text = letter; some = rw letter refl; long = rw letter refl; short = rw letter refl })
        (o_first []) found (ap attached_value (behind_o [])))

    gets_file : (word : Text) (words : List Text) (arguments : List Argument) → is_dashed word ≡ false → Remain ps (joined us last) (argument File word ∷ arguments)
        → Gets name ps (joined us last ++ argument File word ∷ []) (at (joined us last) (Some (argument File word)) true false) words arguments
        → Gets name ps (joined us last) (at us last f false) (word ∷ words) (argument File word ∷ arguments)
    gets_file word words arguments undashed remain behind =
        let new = new-last us last (argument File word ∷ arguments) remain.once in
        let none : f ≡ false = file ∙ new-in (argument File word) (joined us last) arguments remain.once in
        let turn : Turn name ps (at us last f false) word (IsNew us last) (at (joined us last) (Some (argument File word)) true false)
        = subst (λ b. Turn name ps (at us last b false) word (IsNew us last) (at (joined us last) (Some (argument File word)) true false)) (sym none) (turn_plain name ps known us last within word (plain_word word undashed)) in
        let g = goes name ps (at us last f false) (at (joined us last) (Some (argument File word)) true false) word words turn new in
        gets_cons name ps (joined us last) (argument File word) _ _ words (word ∷ words) arguments g.fault g.rows_same behind

    gets_dashes : (word : Text) (words : List Text) (arguments : List Argument) → word ≡ codes "--" → arguments ≡ map (argument File) words
        → Remain ps (joined us last) arguments → Gets name ps (joined us last) (at us last f false) (word ∷ words) arguments
    gets_dashes word words arguments is are remain =
        let turn : Turn name ps (at us last f false) word (Unit {0}) (at us last f true)
        = subst (λ w. Turn name ps (at us last f false) w (Unit {0}) (at us last f true)) (sym is) (turn_dashes name ps known us last f) in
        let g = goes name ps (at us last f false) (at us last f true) word words turn tt in
        let behind = gets_behind words us last f within file (subst (Remain ps (joined us last)) are remain) in
        record {
          fault = g.fault ∙ behind.fault;
          rows_are = g.rows_same ∙ behind.rows_are ∙ ap (λ more. rows (joined us last ++ more)) (sym are);
        }

  -- words that spell arguments, each new and each of the command's, are taken
  pub gets : {words : List Text} {arguments : List Argument} → Spells words arguments → (us : List Argument) (last : Option Argument) (f : Bool) → IsKnown ps last
      → f ≡ given File (joined us last) → Remain ps (joined us last) arguments → Gets name ps (joined us last) (at us last f false) words arguments
  gets Nothing us last f within file remain = gets_nothing us last f false within remain
  gets (Plain {words} {arguments} word undashed spelled) us last f within file remain =
      gets_file us last f within file word words arguments undashed remain
      (gets spelled (joined us last) (Some (argument File word)) true known.file (file_comes (joined us last) word) (remain_tail ps (joined us last) (argument File word) arguments remain))
  gets (Apart {words} {arguments} p option v names undashed spelled) us last f within file remain =
      let known_p = in_head ps (argument p v) arguments remain.within in
      gets_apart us last f within file p option v words arguments known_p undashed (turn_option us last f within file p option (option_of ps known p option known_p names)) remain
      (gets spelled (joined us last) (Some (argument p v)) f known_p (file_stays f (joined us last) p v (no_file_option p option names) file) (remain_tail ps (joined us last) (argument p v) arguments remain))
  gets (Joined {words} {arguments} p option v word names text spelled) us last f within file remain =
      let known_p = in_head ps (argument p v) arguments remain.within in
      gets_option us last f within file p option v word words arguments (option_of ps known p option known_p names) text remain
      (gets spelled (joined us last ++ argument p v ∷ []) None f tt (file_stays f (joined us last) p v (no_file_option p option names) file) (remain_tail ps (joined us last) (argument p v) arguments remain))
  gets (Attached {words} {arguments} first rest word other text spelled) us last f within file remain =
      gets_by_letter us last f within file (first ∷ rest) word (first ∷ rest) words arguments text (attached-is first rest other)
      (known.by_short (in_head ps (argument Image (first ∷ rest)) arguments remain.within)) remain
      (gets spelled (joined us last ++ argument Image (first ∷ rest) ∷ []) None f tt (file_stays f (joined us last) Image (first ∷ rest) refl file) (remain_tail ps (joined us last) (argument Image (first ∷ rest)) arguments remain))
  gets (Ended words word arguments is are) us last f within file remain = gets_dashes us last f within file word words arguments is are remain
