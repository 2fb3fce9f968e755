use Rattle.std.proofs.Common.{◌≡◌, ℕ, suc, ◌+◌, ◌-◌, ◌<◌, ◌++◌, Bool, map, ap, subst, ◌∙◌, refl, arith}
use Rattle.std.specs.List.{range_with_len}
use Rattle.fk_num.specs.Word.{Memory}
use Rattle.std.specs.Io.KnownBytes.{append_known}
use Rattle.fk_ports.specs.Known.{IsGiven, TakesPrefix}
use Rattle.fk_ports.proofs.Given.{all_given, none_given, part_of_given, piece_given}
use Rattle.fk_ports.proofs.Pieces.{on_err}
use Rattle.fk_machine.specs.View.{machine_of}
use Rattle.fk_top.specs.Ending.{variable_of}
use Rattle.fk_top.specs.Outcome.{words_in}
use Rattle.fk_top.specs.Report.{word_text, words_text}
use Rattle.fk_top.proofs.shown.give_words.Goals as goal

-- the next word and those above it
next_word : (are_signed : Bool) (words : Memory) (first count index : ℕ) → index < count
    → words_text are_signed (map words (range_with_len (first + index) (count - index)))
    ≡ word_text are_signed (words (first + index)) ++ words_text are_signed (map words (range_with_len (first + (index + 1)) (count - (index + 1))))
next_word are_signed words first count index lt =
    let more : count - index ≡ suc (count - (index + 1)) = omega (arith, lt) in
    let above : first + index + 1 ≡ first + (index + 1) = omega arith in
    ap (λ n. words_text are_signed (map words (range_with_len (first + index) n))) more
    ∙ ap (λ a. word_text are_signed (words (first + index)) ++ words_text are_signed (map words (range_with_len a (count - (index + 1))))) above

pub loop-index-init : goal.loop-index-init
loop-index-init g c =
    let m = machine_of c.args.machine.now in
    let v = c.args.variable in
    let before = g.K.Sink.taken c.args.out.now in
    let whole = words_text v.signed (words_in m (variable_of v)) in
    let first : v.first ≡ v.first + 0 = omega arith in
    let count : v.words ≡ v.words - 0 = omega arith in
    record {
      given =
          subst (λ n. IsGiven whole (words_text v.signed (map m.shared.words (range_with_len (v.first + 0) n))) before before) count
          (subst (λ a. IsGiven whole (words_text v.signed (map m.shared.words (range_with_len a v.words))) before before) first (none_given whole before));
      steady = refl;
    }

pub loop-index-preserved : goal.loop-index-preserved
loop-index-preserved g c =
    let m = machine_of c.args.machine.now in
    let v = c.args.variable in
    let index = c.loop-index.index in
    let before = g.K.Sink.taken c.args.out.now in
    let now = g.K.Sink.taken c.loop-index.out in
    let whole = words_text v.signed (words_in m (variable_of v)) in
    let parts = subst (λ rest. IsGiven whole rest before now) (next_word v.signed m.shared.words v.first v.words index c.loop-index-test.true) c.loop-index.invariant.given in
    let told = c.in_ok-give_word.ensures.all ∙ ap (λ word. append_known now (word_text v.signed word)) c.word.ensures in
    record {
      given = piece_given whole (word_text v.signed (m.shared.words (v.first + index))) _ before now _ parts told;
      steady = c.in_ok-give_word.ensures.steady ∙ c.loop-index.invariant.steady;
    }

pub returns-in_err-give_word-clause-prefix : goal.returns-in_err-give_word-clause-prefix
returns-in_err-give_word-clause-prefix g c =
    let m = machine_of c.args.machine.now in
    let v = c.args.variable in
    let index = c.loop-index.index in
    let before = g.K.Sink.taken c.args.out.now in
    let now = g.K.Sink.taken c.loop-index.out in
    let whole = words_text v.signed (words_in m (variable_of v)) in
    let parts = subst (λ rest. IsGiven whole rest before now) (next_word v.signed m.shared.words v.first v.words index c.loop-index-test.true) c.loop-index.invariant.given in
    let part = subst (λ word. TakesPrefix now (g.K.Sink.taken c.give_word.new.out) (word_text v.signed word)) c.word.ensures c.in_err-give_word.ensures.prefix in
    on_err c.from_residual.result _ (part_of_given whole (word_text v.signed (m.shared.words (v.first + index))) _ before now _ parts part)

pub returns-clause-all : goal.returns-clause-all
returns-clause-all g c =
    let m = machine_of c.args.machine.now in
    let v = c.args.variable in
    let before = g.K.Sink.taken c.args.out.now in
    let whole = words_text v.signed (words_in m (variable_of v)) in
    let none : v.words - c.loop-index.index ≡ 0 = omega (arith, c.loop-index-test.false) in
    let given = subst (λ n. IsGiven whole (words_text v.signed (map m.shared.words (range_with_len (v.first + c.loop-index.index) n))) before (g.K.Sink.taken c.loop-index.out)) none c.loop-index.invariant.given in
    all_given whole _ before _ refl given
