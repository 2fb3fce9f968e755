-- The words behind the name of a command without arguments: there are none, or `--` alone.
use Rattle.std.proofs.Common.{◌≡◌, true, false, List, [], ◌∷◌, None, codes, refl, sym, ap, ◌∙◌, subst, map}
use Rattle.std.specs.Str.{IsUtf8}
use Rattle.clap.specs.declared.error.kind.ErrorKind.TheVariants.{UnknownArgument}
use Rattle.clap.specs.Walk.{walked}
use Rattle.clap.specs.Faults.{defaults_fault, flags_fault, walk_fault}
use Rattle.fk_top_words.specs.Arguments.{Text, Part, File, Harts, Cycles, Show, Image, Argument, Values, Gives, Spells, Nothing, Plain, Apart, Joined, Attached, Ended, all_values, argument, values_of}
use Rattle.fk_top_words.specs.Command.{no_values}
use Rattle.fk_top_words.proofs.Given.{at}
use Rattle.fk_top_words.proofs.Forms.{Form, dashes, first_char, form, long, plain, short}
use Rattle.fk_top_words.proofs.Steps.{Turn}
use Rattle.fk_top_words.proofs.Taken.{AreTexts, goes_fine, rest_fault, turn_of}

pub data Bare (words : List Text) : Type 0 where
  none : words ≡ [] → Bare words
  ended : words ≡ (45 ∷ 45 ∷ []) ∷ [] → Bare words

-- ---- the words spell no argument

no_argument : (p : Part) (v : Text) (us : List Argument) → all_values (argument p v ∷ us) ≡ no_values → ⊥
no_argument File v us e = let bad : v ∷ values_of File us ≡ [] = ap (λ (x : Values). x.file) e in cc
no_argument Harts v us e = let bad : v ∷ values_of Harts us ≡ [] = ap (λ (x : Values). x.harts) e in cc
no_argument Cycles v us e = let bad : v ∷ values_of Cycles us ≡ [] = ap (λ (x : Values). x.cycles) e in cc
no_argument Show v us e = let bad : v ∷ values_of Show us ≡ [] = ap (λ (x : Values). x.show) e in cc
no_argument Image v us e = let bad : v ∷ values_of Image us ≡ [] = ap (λ (x : Values). x.image) e in cc

no_file : (words : List Text) (us : List Argument) → us ≡ map (argument File) words → all_values us ≡ no_values → words ≡ []
no_file [] us are e = refl
no_file (word ∷ words) us are e = absurd (no_argument File word (map (argument File) words) (sym (ap all_values are) ∙ e))

pub spelled_bare : {words : List Text} {us : List Argument} → Spells words us → all_values us ≡ no_values → Bare words
spelled_bare Nothing e = none refl
spelled_bare (Plain {words} {arguments} word undashed rest) e = absurd (no_argument File word arguments e)
spelled_bare (Apart {words} {arguments} p option value is undashed rest) e = absurd (no_argument p value arguments e)
spelled_bare (Joined {words} {arguments} p option value word is text rest) e = absurd (no_argument p value arguments e)
spelled_bare (Attached {words} {arguments} first rest word other text spelled) e = absurd (no_argument Image (first ∷ rest) arguments e)
spelled_bare (Ended words word arguments is are) e =
    ended (ap (λ w. w ∷ words) is ∙ ap (λ ws. (45 ∷ 45 ∷ []) ∷ ws) (no_file words arguments are e))

pub gives_none : (words : List Text) → Bare words → Gives words no_values
gives_none words (none is) = subst (λ ws. Gives ws no_values) (sym is) (record { arguments = []; spelled = Nothing; values_are = refl })
gives_none words (ended is) =
    subst (λ ws. Gives ws no_values) (sym is) (record { arguments = []; spelled = Ended [] (45 ∷ 45 ∷ []) [] refl refl; values_are = refl })

-- ---- the words are taken by `clap`

abbrev name : Text
name = codes "locks"

pub bare_fine : (words : List Text) → Bare words → rest_fault name [] (at [] None false false) words ≡ []
unfolding walk_fault walked defaults_fault
bare_fine words (none is) = subst (λ ws. rest_fault name [] (at [] None false false) ws ≡ []) (sym is) refl
bare_fine words (ended is) = subst (λ ws. rest_fault name [] (at [] None false false) ws ≡ []) (sym is) refl

turn_dashes : Turn name [] (at [] None false false) (45 ∷ 45 ∷ []) (Unit {0}) (at [] None false true)
unfolding walked
turn_dashes = record { fine = λ _. refl; then_allowed = λ _. tt; stands = λ _. refl }

behind_dashes : (words : List Text) → rest_fault name [] (at [] None false true) words ≡ [] → words ≡ []
behind_dashes [] fine = refl
behind_dashes (word ∷ words) fine =
    let turn = turn_of name [] (at [] None false true) word words fine in
    let bad : UnknownArgument ∷ [] ≡ [] = turn in cc

taken_form : (word : Text) (words : List Text) → AreTexts (word ∷ words) → Form word → rest_fault name [] (at [] None false false) (word ∷ words) ≡ [] → Bare (word ∷ words)
unfolding flags_fault
taken_form word words texts (dashes is) fine =
    let there : rest_fault name [] (at [] None false false) ((45 ∷ 45 ∷ []) ∷ words) ≡ [] = subst (λ w. rest_fault name [] (at [] None false false) (w ∷ words) ≡ []) is fine in
    let goes = goes_fine name [] (at [] None false false) (at [] None false true) (45 ∷ 45 ∷ []) words turn_dashes there in
    let behind = behind_dashes words (sym goes.fault ∙ there) in
    ended (ap (λ w. w ∷ words) is ∙ ap (λ ws. (45 ∷ 45 ∷ []) ∷ ws) behind)
taken_form word words texts (long option value is) fine =
    let turn = turn_of name [] (at [] None false false) word words fine in
    let some = is.some in
    let text = is.long in
    let bad : UnknownArgument ∷ [] ≡ [] = rw (some, text) at turn in cc
taken_form word words texts (short first rest is) fine =
    let turn = turn_of name [] (at [] None false false) word words fine in
    let some = is.some in
    let text = is.long in
    let letters = is.short in
    let c = first_char first rest (subst IsUtf8 is.text texts.0) in
    let char = c.is_first in
    let bad : UnknownArgument ∷ [] ≡ [] = rw (some, text, letters, char) at turn in cc
taken_form word words texts (plain is) fine =
    let turn = turn_of name [] (at [] None false false) word words fine in
    let some = is.some in
    let text = is.long in
    let letters = is.short in
    let bad : UnknownArgument ∷ [] ≡ [] = rw (some, text, letters) at turn in cc

pub taken_bare : (words : List Text) → AreTexts words → rest_fault name [] (at [] None false false) words ≡ [] → Bare words
taken_bare [] texts fine = none refl
taken_bare (word ∷ words) texts fine = taken_form word words texts (form word) fine
