-- The words behind `replay`: the names of a source and of a trace, with or without `--`.
use Rattle.std.proofs.Common.{◌≡◌, ℕ, Bool, true, false, List, [], ◌∷◌, map, Option, Some, None, codes, refl, sym, ap, ◌∙◌, subst}
use Rattle.std.specs.Prelude.{fold}
use Rattle.std.specs.Str.{IsUtf8}
use Rattle.clap.specs.declared.error.kind.ErrorKind.TheVariants.{MissingRequiredArgument, UnknownArgument}
use Rattle.clap.specs.Kinds.{Kinds, or_else}
use Rattle.clap.specs.Faults.{check_fault, defaults_fault, flags_fault, settle_fault, turn_fault, walk_fault}
use Rattle.clap.specs.Simple.{Shape}
use Rattle.clap.specs.Walk.{Held, Row, Walk, finished, idle, nothing_held, settled, walked}
use Rattle.fk_top_words.specs.Arguments.{Text, Part, File, Harts, Cycles, Show, Image, Argument, Values, Gives, Spells, Nothing, Plain, Apart, Joined, Attached, Ended, all_values, argument, is_dashed, option_word, values_of}
use Rattle.fk_top_words.specs.Command.{only_files}
use Rattle.fk_top_words.proofs.Rules.{replay}
use Rattle.fk_top_words.proofs.Given.{first_empty, row}
use Rattle.fk_top_words.proofs.Forms.{Form, IsPlain, dashes, first_char, form, long, plain, plain_word, short}
use Rattle.fk_top_words.proofs.Taken.{AreTexts}

-- names of files, with `--` before the last ones, or not
pub data FileWords : List Text → List Text → Type 0 where
  no_more : FileWords [] []
  one_more : {words files : List Text} (file : Text) → is_dashed file ≡ false → FileWords words files → FileWords (file ∷ words) (file ∷ files)
  behind_dashes : (files : List Text) → FileWords ((45 ∷ 45 ∷ []) ∷ files) files

-- ---- what spells files alone

no_option : (p : Part) (option v : Text) (us : List Argument) (files : List Text) → option_word p ≡ Some option → all_values (argument p v ∷ us) ≡ only_files files → ⊥
no_option File option v us files names e = let bad : None ≡ Some option = names in cc
no_option Harts option v us files names e = let bad : v ∷ values_of Harts us ≡ [] = ap (λ (x : Values). x.harts) e in cc
no_option Cycles option v us files names e = let bad : v ∷ values_of Cycles us ≡ [] = ap (λ (x : Values). x.cycles) e in cc
no_option Show option v us files names e = let bad : v ∷ values_of Show us ≡ [] = ap (λ (x : Values). x.show) e in cc
no_option Image option v us files names e = let bad : v ∷ values_of Image us ≡ [] = ap (λ (x : Values). x.image) e in cc

rest_values : (word : Text) (us : List Argument) (file : Text) (files : List Text) → all_values (argument File word ∷ us) ≡ only_files (file ∷ files) → all_values us ≡ only_files files
rest_values word us file files e =
    let all : word ∷ values_of File us ≡ file ∷ files = ap (λ (x : Values). x.file) e in
    let f : values_of File us ≡ files = cc in
    let h : values_of Harts us ≡ [] = ap (λ (x : Values). x.harts) e in
    let c : values_of Cycles us ≡ [] = ap (λ (x : Values). x.cycles) e in
    let s : values_of Show us ≡ [] = ap (λ (x : Values). x.show) e in
    let i : values_of Image us ≡ [] = ap (λ (x : Values). x.image) e in
    rw (f, h, c, s, i) refl

first_value : (word : Text) (us : List Argument) (file : Text) (files : List Text) → all_values (argument File word ∷ us) ≡ only_files (file ∷ files) → word ≡ file
first_value word us file files e =
    let all : word ∷ values_of File us ≡ file ∷ files = ap (λ (x : Values). x.file) e in cc

values_behind : (words : List Text) → all_values (map (argument File) words) ≡ only_files words
values_behind [] = refl
values_behind (word ∷ words) =
    let e = values_behind words in
    let f : values_of File (map (argument File) words) ≡ words = ap (λ (x : Values). x.file) e in
    let h : values_of Harts (map (argument File) words) ≡ [] = ap (λ (x : Values). x.harts) e in
    let c : values_of Cycles (map (argument File) words) ≡ [] = ap (λ (x : Values). x.cycles) e in
    let s : values_of Show (map (argument File) words) ≡ [] = ap (λ (x : Values). x.show) e in
    let i : values_of Image (map (argument File) words) ≡ [] = ap (λ (x : Values). x.image) e in
    rw (f, h, c, s, i) refl

pub spelled_files : {words : List Text} {us : List Argument} → Spells words us → (files : List Text) → all_values us ≡ only_files files → FileWords words files
spelled_files Nothing [] e = no_more
spelled_files Nothing (file ∷ files) e = let bad : [] ≡ file ∷ files = ap (λ (x : Values). x.file) e in cc
spelled_files (Plain {words} {arguments} word undashed rest) [] e = let bad : word ∷ values_of File arguments ≡ [] = ap (λ (x : Values). x.file) e in cc
spelled_files (Plain {words} {arguments} word undashed rest) (file ∷ files) e =
    subst (λ w. FileWords (word ∷ words) (w ∷ files)) (first_value word arguments file files e)
    (one_more word undashed (spelled_files rest files (rest_values word arguments file files e)))
spelled_files (Apart {words} {arguments} p option value names undashed rest) files e = absurd (no_option p option value arguments files names e)
spelled_files (Joined {words} {arguments} p option value word names text rest) files e = absurd (no_option p option value arguments files names e)
spelled_files (Attached {words} {arguments} first rest word other text spelled) files e = absurd (no_option Image (codes "-o") (first ∷ rest) arguments files refl e)
spelled_files (Ended words word arguments is are) files e =
    let same : words ≡ files = ap (λ (x : Values). x.file) (sym (values_behind words) ∙ ap all_values (sym are) ∙ e) in
    subst (λ fs. FileWords (word ∷ words) fs) same (subst (λ w. FileWords (w ∷ words) words) (sym is) (behind_dashes words))

-- the words spell the arguments of their files
spells : {words files : List Text} → FileWords words files → Spells words (map (argument File) files)
spells no_more = Nothing
spells (one_more {words} {files} file undashed rest) = Plain file undashed (spells rest)
spells (behind_dashes files) = Ended files (45 ∷ 45 ∷ []) (map (argument File) files) refl refl

pub gives_files : {words files : List Text} → FileWords words files → Gives words (only_files files)
gives_files {words} {files} are = record { arguments = map (argument File) files; spelled = spells are; values_are = values_behind files }

-- ---- the walk of `clap` over such words

-- the fault of a command at words that behind a place are the last ones, and the rows at their end
abbrev pub shape_fault : Shape → Walk → List Text → Kinds
shape_fault s w words =
    let end = (fold (walked s.rules []) w words).held in
    or_else (walk_fault s [] w words)
    (or_else (settle_fault s.rules s.args_override_self end) (or_else (defaults_fault (settled s.rules end).rows s.rules) (check_fault s (finished s.rules end) false)))

abbrev pub shape_rows : Shape → Walk → List Text → List Row
shape_rows s w words = finished s.rules (fold (walked s.rules []) w words).held

abbrev state : Held → (position : ℕ) → (is_trailing : Bool) → Walk
state h position is_trailing = record { held = h; waiting = idle; position = position; is_trailing = is_trailing; stopped = None }

-- where no file was given, where the first was, and where both were
abbrev pub none : (is_trailing : Bool) → Walk
none t = state nothing_held 1 t

abbrev one : Text → (is_trailing : Bool) → Walk
one file t = state (record { rows = []; pending = Some (codes "file", file ∷ []); skip = 0 }) 2 t

abbrev two : Text → Text → (is_trailing : Bool) → Walk
two file other t = state (record { rows = row (argument File file) ∷ []; pending = Some (codes "trace", other ∷ []); skip = 0 }) 3 t

-- the rows of both
abbrev pub both : Text → Text → List Row
both file other = row (argument File file) ∷ record (row (argument File other)) { id = codes "trace" } ∷ []

record Turn (w : Walk) (word : Text) (after : Walk) : Type 0 where
  fine : turn_fault replay [] w word ≡ []
  stands : walked replay.rules [] w word ≡ after

-- what remains of the words
record Goes (w after : Walk) (word : Text) (words : List Text) : Type 0 where
  fault : shape_fault replay w (word ∷ words) ≡ shape_fault replay after words
  rows_same : shape_rows replay w (word ∷ words) ≡ shape_rows replay after words

goes : (w after : Walk) (word : Text) (words : List Text) → Turn w word after → Goes w after word words
unfolding walk_fault
goes w after word words turn =
    let end = λ (v : Walk). (fold (walked replay.rules []) v words).held in
    let at_end = λ (h : Held). or_else (settle_fault replay.rules false h) (or_else (defaults_fault (settled replay.rules h).rows replay.rules) (check_fault replay (finished replay.rules h) false)) in
    record {
      fault =
          ap (λ k. or_else (or_else k (walk_fault replay [] (walked replay.rules [] w word) words)) (at_end (end (walked replay.rules [] w word)))) turn.fine
          ∙ ap (λ v. shape_fault replay v words) turn.stands;
      rows_same = ap (λ v. shape_rows replay v words) turn.stands;
    }

turn_of : (w : Walk) (word : Text) (words : List Text) → shape_fault replay w (word ∷ words) ≡ [] → turn_fault replay [] w word ≡ []
unfolding walk_fault
turn_of w word words fine = first_empty _ _ (first_empty _ _ fine)

-- a file that is named, before `--` and behind it
first_plain : (word : Text) → IsPlain word → Turn (none false) word (one word false)
unfolding walked
first_plain word is =
    let some = is.some in
    let long = is.long in
    let short = is.short in
    record { fine = rw (some, long, short) refl; stands = rw (some, long, short) refl }

first_behind : (word : Text) → Turn (none true) word (one word true)
unfolding walked
first_behind word = record { fine = refl; stands = refl }

second_plain : (file word : Text) → IsPlain word → Turn (one file false) word (two file word false)
unfolding walked
second_plain file word is =
    let some = is.some in
    let long = is.long in
    let short = is.short in
    record { fine = rw (some, long, short) refl; stands = rw (some, long, short) refl }

second_behind : (file word : Text) → Turn (one file true) word (two file word true)
unfolding walked
second_behind file word = record { fine = refl; stands = refl }

dashes_none : Turn (none false) (45 ∷ 45 ∷ []) (none true)
unfolding walked
dashes_none = record { fine = refl; stands = refl }

dashes_one : (file : Text) → Turn (one file false) (45 ∷ 45 ∷ []) (one file true)
unfolding walked
dashes_one file = record { fine = refl; stands = refl }

dashes_two : (file other : Text) → Turn (two file other false) (45 ∷ 45 ∷ []) (two file other true)
unfolding walked
dashes_two file other = record { fine = refl; stands = refl }

-- a third file, and an option
third : (file other word : Text) → IsPlain word → turn_fault replay [] (two file other false) word ≡ [] → ⊥
third file other word is fine =
    let some = is.some in
    let long = is.long in
    let short = is.short in
    let bad : UnknownArgument ∷ [] ≡ [] = rw (some, long, short) at fine in cc

third_behind : (file other word : Text) → turn_fault replay [] (two file other true) word ≡ [] → ⊥
third_behind file other word fine = let bad : UnknownArgument ∷ [] ≡ [] = fine in cc

-- a word that is none of the options, which are none, is `--` or the name of a file
data Given (word : Text) : Type 0 where
  is_dashes : word ≡ 45 ∷ 45 ∷ [] → Given word
  is_file : IsPlain word → Given word

given : (rows : List Row) (pending : Option (Text × List Text)) (position : ℕ) (word : Text) → IsUtf8 word → turn_fault replay [] (state (record { rows = rows; pending = pending; skip = 0 }) position false) word ≡ [] → Form word → Given word
unfolding flags_fault
given rows pending position word utf8 fine (dashes is) = is_dashes is
given rows pending position word utf8 fine (plain is) = is_file is
given rows pending position word utf8 fine (long name value is) =
    let some = is.some in
    let text = is.long in
    let bad : UnknownArgument ∷ [] ≡ [] = rw (some, text) at fine in cc
given rows pending position word utf8 fine (short first rest is) =
    let some = is.some in
    let text = is.long in
    let letters = is.short in
    let c = first_char first rest (subst IsUtf8 is.text utf8) in
    let char = c.is_first in
    let bad : UnknownArgument ∷ [] ≡ [] = rw (some, text, letters, char) at fine in cc

-- ---- the ends

no_file : (t : Bool) → shape_fault replay (none t) [] ≡ [] → ⊥
unfolding walk_fault defaults_fault
no_file t fine = let bad : MissingRequiredArgument ∷ [] ≡ [] = fine in cc

no_trace : (file : Text) (t : Bool) → shape_fault replay (one file t) [] ≡ [] → ⊥
unfolding walk_fault defaults_fault
no_trace file t fine = let bad : MissingRequiredArgument ∷ [] ≡ [] = fine in cc

pub record Gets (w : Walk) (words : List Text) (end : List Row) : Type 0 where
  pub fault : shape_fault replay w words ≡ []
  pub rows_are : shape_rows replay w words ≡ end

ends : (file other : Text) (t : Bool) → Gets (two file other t) [] (both file other)
unfolding walk_fault defaults_fault
ends file other t = record { fault = refl; rows_are = refl }

gets : (w after : Walk) (word : Text) (words : List Text) (end : List Row) → Turn w word after → Gets after words end → Gets w (word ∷ words) end
gets w after word words end turn behind =
    let g = goes w after word words turn in
    record { fault = g.fault ∙ behind.fault; rows_are = g.rows_same ∙ behind.rows_are }

-- ---- words of two files are taken

gets_none : {words files : List Text} → FileWords words files → files ≡ [] → (file other : Text) → Gets (two file other false) words (both file other)
gets_none no_more e file other = ends file other false
gets_none (one_more {words} {files} next undashed rest) e file other = let bad : next ∷ files ≡ [] = e in cc
gets_none (behind_dashes files) e file other =
    gets (two file other false) (two file other true) (45 ∷ 45 ∷ []) files (both file other) (dashes_two file other)
    (subst (λ ws. Gets (two file other true) ws (both file other)) (sym e) (ends file other true))

gets_one : {words files : List Text} → FileWords words files → (file other : Text) → files ≡ other ∷ [] → Gets (one file false) words (both file other)
gets_one no_more file other e = let bad : [] ≡ other ∷ [] = e in cc
gets_one (one_more {words} {files} next undashed rest) file other e =
    let same : next ≡ other = cc in
    let last : files ≡ [] = cc in
    subst (λ o. Gets (one file false) (next ∷ words) (both file o)) same
    (gets (one file false) (two file next false) next words (both file next) (second_plain file next (plain_word next undashed)) (gets_none rest last file next))
gets_one (behind_dashes files) file other e =
    gets (one file false) (one file true) (45 ∷ 45 ∷ []) files (both file other) (dashes_one file)
    (subst (λ ws. Gets (one file true) ws (both file other)) (sym e)
    (gets (one file true) (two file other true) other [] (both file other) (second_behind file other) (ends file other true)))

pub gets_two : {words files : List Text} → FileWords words files → (file other : Text) → files ≡ file ∷ other ∷ [] → Gets (none false) words (both file other)
gets_two no_more file other e = let bad : [] ≡ file ∷ other ∷ [] = e in cc
gets_two (one_more {words} {files} next undashed rest) file other e =
    let same : next ≡ file = cc in
    let last : files ≡ other ∷ [] = cc in
    subst (λ f. Gets (none false) (next ∷ words) (both f other)) same
    (gets (none false) (one next false) next words (both next other) (first_plain next (plain_word next undashed)) (gets_one rest next other last))
gets_two (behind_dashes files) file other e =
    gets (none false) (none true) (45 ∷ 45 ∷ []) files (both file other) dashes_none
    (subst (λ ws. Gets (none true) ws (both file other)) (sym e)
    (gets (none true) (one file true) file (other ∷ []) (both file other) (first_behind file)
    (gets (one file true) (two file other true) other [] (both file other) (second_behind file other) (ends file other true))))

-- ---- words that are taken are of two files

last_behind : (file other : Text) (words : List Text) → shape_fault replay (two file other true) words ≡ [] → words ≡ []
last_behind file other [] fine = refl
last_behind file other (word ∷ words) fine = absurd (third_behind file other word (turn_of (two file other true) word words fine))

took_none : (file other : Text) (words : List Text) → AreTexts words → shape_fault replay (two file other false) words ≡ [] → FileWords words []
took_none file other [] texts fine = no_more
took_none file other (word ∷ words) texts fine =
    by (given _ _ 3 word texts.0 (turn_of (two file other false) word words fine) (form word))
  where
    by : Given word → FileWords (word ∷ words) []
    by (is_file is) = absurd (third file other word is (turn_of (two file other false) word words fine))
    by (is_dashes is) =
        let at : shape_fault replay (two file other false) ((45 ∷ 45 ∷ []) ∷ words) ≡ [] = subst (λ w. shape_fault replay (two file other false) (w ∷ words) ≡ []) is fine in
        let none_left = last_behind file other words (sym (goes (two file other false) (two file other true) (45 ∷ 45 ∷ []) words (dashes_two file other)).fault ∙ at) in
        subst (λ w. FileWords (w ∷ words) []) (sym is) (subst (λ ws. FileWords ((45 ∷ 45 ∷ []) ∷ ws) []) (sym none_left) (behind_dashes []))

-- the words end with the name of one file
record EndsWith (words : List Text) : Type 0 where
  other : Text
  are : FileWords words (other ∷ [])

one_behind : (file : Text) (words : List Text) → shape_fault replay (one file true) words ≡ [] → (other : Text) × (words ≡ other ∷ [])
one_behind file [] fine = absurd (no_trace file true fine)
one_behind file (word ∷ words) fine =
    let none_left = last_behind file word words (sym (goes (one file true) (two file word true) word words (second_behind file word)).fault ∙ fine) in
    (word, ap (λ ws. word ∷ ws) none_left)

took_one : (file : Text) (words : List Text) → AreTexts words → shape_fault replay (one file false) words ≡ [] → EndsWith words
took_one file [] texts fine = absurd (no_trace file false fine)
took_one file (word ∷ words) texts fine =
    by (given _ _ 2 word texts.0 (turn_of (one file false) word words fine) (form word))
  where
    by : Given word → EndsWith (word ∷ words)
    by (is_file is) =
        let g = goes (one file false) (two file word false) word words (second_plain file word is) in
        record { other = word; are = one_more word is.dashed (took_none file word words texts.1 (sym g.fault ∙ fine)) }
    by (is_dashes is) =
        let at : shape_fault replay (one file false) ((45 ∷ 45 ∷ []) ∷ words) ≡ [] = subst (λ w. shape_fault replay (one file false) (w ∷ words) ≡ []) is fine in
        let left = one_behind file words (sym (goes (one file false) (one file true) (45 ∷ 45 ∷ []) words (dashes_one file)).fault ∙ at) in
        subst (λ w. EndsWith (w ∷ words)) (sym is)
        (subst (λ ws. EndsWith ((45 ∷ 45 ∷ []) ∷ ws)) (sym left.1) (record { other = left.0; are = behind_dashes (left.0 ∷ []) }))

-- the words are the names of two files
pub record AreTwo (words : List Text) : Type 0 where
  pub file : Text
  pub other : Text
  pub are : FileWords words (file ∷ other ∷ [])

two_behind : (words : List Text) → shape_fault replay (none true) words ≡ [] → (file : Text) × (other : Text) × (words ≡ file ∷ other ∷ [])
two_behind [] fine = absurd (no_file true fine)
two_behind (word ∷ words) fine =
    let left = one_behind word words (sym (goes (none true) (one word true) word words (first_behind word)).fault ∙ fine) in
    (word, left.0, ap (λ ws. word ∷ ws) left.1)

pub took_two : (words : List Text) → AreTexts words → shape_fault replay (none false) words ≡ [] → AreTwo words
took_two [] texts fine = absurd (no_file false fine)
took_two (word ∷ words) texts fine =
    by (given _ _ 1 word texts.0 (turn_of (none false) word words fine) (form word))
  where
    by : Given word → AreTwo (word ∷ words)
    by (is_file is) =
        let g = goes (none false) (one word false) word words (first_plain word is) in
        let behind = took_one word words texts.1 (sym g.fault ∙ fine) in
        record { file = word; other = behind.other; are = one_more word is.dashed behind.are }
    by (is_dashes is) =
        let at : shape_fault replay (none false) ((45 ∷ 45 ∷ []) ∷ words) ≡ [] = subst (λ w. shape_fault replay (none false) (w ∷ words) ≡ []) is fine in
        let left = two_behind words (sym (goes (none false) (none true) (45 ∷ 45 ∷ []) words dashes_none).fault ∙ at) in
        subst (λ w. AreTwo (w ∷ words)) (sym is)
        (subst (λ ws. AreTwo ((45 ∷ 45 ∷ []) ∷ ws)) (sym left.2) (record { file = left.0; other = left.1; are = behind_dashes (left.0 ∷ left.1 ∷ []) }))
