use Rattle.std.proofs.Common.{IsTrue, ◌≡◌, ◌<◌, List, [], ◌∷◌, ◌++◌, length, map, option_map, ap, refl, ◌∙◌, arith, rules}
use Rattle.std.proofs.lemmas.List.{length-map, map-append}
use Rattle.fk_replay_text.specs.ColumnView.{column_of}
use Rattle.fk_replay_text.specs.View.{range_of}
use Rattle.fk_replay_text.specs.declared.trace.Acts.{Acts}
use Rattle.fk_replay_text.proofs.Ranges.{all_read, none_read, other_range, reads_on, refuses}
use Rattle.fk_replay_text.proofs.range.read_ranges.Goals as goal

pub returns-in_default-read_range : goal.returns-in_default-read_range
returns-in_default-read_range c =
    let l = c.loop-behind in
    refuses (column_of c.args.column) c.args.harts c.args.text.now l.rest.now c.in-Some.behind.now c.first_word.result.0.now c.first_word.result.1.now (map range_of l.ranges.items) (option_map range_of l.last)
    c.ranges.harts.fits l.invariant c.in-Some.ensures c.first_word.ensures (λ r s is comes. c.in_default-read_range.ensures r s)

pub returns-then-not-comes_next : goal.returns-then-not-comes_next
returns-then-not-comes_next c =
    let l = c.loop-behind in
    refuses (column_of c.args.column) c.args.harts c.args.text.now l.rest.now c.in-Some.behind.now c.first_word.result.0.now c.first_word.result.1.now (map range_of l.ranges.items) (option_map range_of l.last)
    c.ranges.harts.fits l.invariant c.in-Some.ensures c.first_word.ensures
    (other_range (column_of c.args.column) c.args.harts (option_map range_of l.last) c.first_word.result.0.now (range_of c.in-Some-read_range.acts) c.in-Some-read_range.ensures
    (λ is comes. let yes = c.comes_next.ensures.1 (is, comes) in let other = c.if-not-comes_next.true in first_of (cc, grind arith, search rules)))

pub loop-behind-preserved : goal.loop-behind-preserved
loop-behind-preserved c =
    let l = c.loop-behind in
    let yes : IsTrue c.comes_next.result = first_of (search (rules, c.if-not-comes_next.false), grind (arith, c.if-not-comes_next.false), search rules) in
    let both = c.comes_next.ensures.0 yes in
    let items : map range_of c.push.new.self.items ≡ map range_of l.ranges.items ++ (range_of c.in-Some-read_range.acts ∷ []) =
    ap (map range_of) c.in_ok-push.ensures.ok ∙ map-append range_of l.ranges.items (c.in-Some-read_range.acts ∷ []) in
    rw items (reads_on (column_of c.args.column) c.args.harts c.args.text.now l.rest.now c.in-Some.behind.now c.first_word.result.0.now c.first_word.result.1.now (map range_of l.ranges.items)
    (option_map range_of l.last) (range_of c.in-Some-read_range.acts) c.ranges.harts.fits l.invariant c.in-Some.ensures c.first_word.ensures c.in-Some-read_range.ensures both.0 both.1)

empty_of : (acts : List Acts) → length acts ≡ 0 → map range_of acts ≡ []
empty_of [] e = refl
empty_of (a ∷ acts) e = absurd (omega arith)

pub returns-then-is_empty : goal.returns-then-is_empty
returns-then-is_empty c =
    let l = c.loop-behind in
    let none : length l.ranges.items ≡ 0 = first_of (omega arith, grind arith) in
    none_read (column_of c.args.column) c.args.harts c.args.text.now l.rest.now (map range_of l.ranges.items) (option_map range_of l.last) l.invariant c.in_default.ensures (empty_of l.ranges.items none)

pub returns : goal.returns
returns c =
    let l = c.loop-behind in
    let some : 0 < length l.ranges.items = first_of (omega arith, grind arith) in
    let longer : 0 < length (map range_of l.ranges.items) = omega (arith, length-map l.ranges.items range_of) in
    all_read (column_of c.args.column) c.args.harts c.args.text.now l.rest.now (map range_of l.ranges.items) (option_map range_of l.last) l.invariant c.in_default.ensures longer
