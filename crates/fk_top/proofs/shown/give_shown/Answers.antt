use Rattle.std.proofs.Common.{◌≡◌, ℕ, Bool, List, [], ◌∷◌, ◌++◌, Option, codes, sym, ap, subst, ◌∙◌, refl, append_assoc, append-nil}
use Rattle.std.specs.Io.KnownBytes.{append_known}
use Rattle.fk_ports.specs.Known.{IsGiven}
use Rattle.fk_ports.proofs.Given.{all_given, none_given, part_of_given, piece_given}
use Rattle.fk_ports.proofs.Pieces.{on_err, err_then, ok_then, part_of_same}
use Rattle.fk_machine.specs.View.{machine_of}
use Rattle.fk_top.specs.Ending.{variable_of}
use Rattle.fk_top.specs.Outcome.{words_in}
use Rattle.fk_top.specs.Report.{words_text, show_line}
use Rattle.fk_top.proofs.shown.give_shown.Goals as goal

-- the name and the sign of the line, as they are given
abbrev begin : List ℕ → List ℕ
begin name = name ++ (codes " =" ++ [])

-- the whole line is still to be given
whole : (name : List ℕ) (are_signed : Bool) (words : List ℕ) (before : Option (List ℕ))
    → IsGiven (show_line name are_signed words) (begin name ++ (words_text are_signed words ++ (10 ∷ []))) before before
whole name are_signed words before =
    subst (λ line. IsGiven (show_line name are_signed words) line before before)
    (append_assoc (name ++ codes " =") (words_text are_signed words) (10 ∷ []))
    (none_given (show_line name are_signed words) before)

-- the name and the sign are given
named : (name shown : List ℕ) (are_signed : Bool) (words : List ℕ) (before after : Option (List ℕ)) → after ≡ append_known before (begin shown) → shown ≡ name
    → IsGiven (show_line name are_signed words) (words_text are_signed words ++ (10 ∷ [])) before after
named name shown are_signed words before after given same =
    piece_given _ (begin name) _ before before _ (whole name are_signed words before) (given ∙ ap (λ n. append_known before (begin n)) same)

-- and then the words
ended : (name shown : List ℕ) (are_signed : Bool) (words : List ℕ) (before middle after : Option (List ℕ)) → middle ≡ append_known before (begin shown) → shown ≡ name
    → after ≡ append_known middle (words_text are_signed words) → IsGiven (show_line name are_signed words) ((10 ∷ []) ++ []) before after
ended name shown are_signed words before middle after given same told =
    subst (λ rest. IsGiven (show_line name are_signed words) rest before after) (sym (append-nil (10 ∷ [])))
    (piece_given _ (words_text are_signed words) _ before _ _ (named name shown are_signed words before middle given same) told)

pub returns-in_err-give_pieces-clause-prefix : goal.returns-in_err-give_pieces-clause-prefix
returns-in_err-give_pieces-clause-prefix g c =
    let v = c.args.variable in
    let words = words_in (machine_of c.args.machine.now) (variable_of v) in
    let before = g.K.Sink.taken c.args.out.now in
    on_err c.from_residual.result _
    (part_of_given _ (begin v.name.now) _ before before _ (whole v.name.now v.signed words before)
    (part_of_same before _ (begin c.as_bytes.result.now) (begin v.name.now) (ap begin c.as_bytes.ensures.value) c.in_err-give_pieces.ensures.prefix))

pub returns-in_err-give_words-clause-prefix : goal.returns-in_err-give_words-clause-prefix
returns-in_err-give_words-clause-prefix g c =
    let v = c.args.variable in
    let words = words_in (machine_of c.args.machine.now) (variable_of v) in
    let before = g.K.Sink.taken c.args.out.now in
    let begun = named v.name.now _ v.signed words before _ c.in_ok-give_pieces.ensures.all c.as_bytes.ensures.value in
    on_err c.from_residual-in_err-give_words.result _ (part_of_given _ (words_text v.signed words) _ before _ _ begun c.in_err-give_words.ensures.prefix)

pub returns-clause-all : goal.returns-clause-all
returns-clause-all g c =
    let v = c.args.variable in
    let words = words_in (machine_of c.args.machine.now) (variable_of v) in
    let before = g.K.Sink.taken c.args.out.now in
    let told = ended v.name.now _ v.signed words before _ _ c.in_ok-give_pieces.ensures.all c.as_bytes.ensures.value c.in_ok-give_words.ensures.all in
    ok_then c.give_all.result _ _ (λ all. all_given _ [] before _ refl (piece_given _ (10 ∷ []) [] before _ _ told all)) c.give_all.ensures.all

pub returns-clause-prefix : goal.returns-clause-prefix
returns-clause-prefix g c =
    let v = c.args.variable in
    let words = words_in (machine_of c.args.machine.now) (variable_of v) in
    let before = g.K.Sink.taken c.args.out.now in
    let told = ended v.name.now _ v.signed words before _ _ c.in_ok-give_pieces.ensures.all c.as_bytes.ensures.value c.in_ok-give_words.ensures.all in
    err_then c.give_all.result _ _ (part_of_given _ (10 ∷ []) [] before _ _ told) c.give_all.ensures.prefix
