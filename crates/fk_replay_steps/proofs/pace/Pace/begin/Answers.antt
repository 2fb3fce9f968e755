use Rattle.std.proofs.Common.{◌≡◌, ℕ, ◌+◌, List, Option, Some, None, length, is_some, true, false, set, slice_get, slice_index, ap, subst, sym, ◌∙◌, arith}
use Rattle.std.proofs.lemmas.Option.{slice_get_read}
use Rattle.fk_replay_steps.specs.Pace.{IsCounted, begun, remainder}
use Rattle.fk_replay_steps.proofs.Counted.{begun_past, begun_able, begun_absent, is_none, one_more, read_part}
use Rattle.fk_replay_steps.proofs.pace.Pace.begin.Goals.{then-len-at-via-then-len-at, then-len-at-via-else-len-at+then-is_some}
use Rattle.fk_replay_steps.proofs.pace.Pace.begin.Goals as goal

pub returns-then-len-at : goal.returns-then-len-at
returns-then-len-at c =
    let items = c.self.inside.since.items in
    let p = c.args.processor in
    let round = c.args.round in
    let ok = c.self.inside.since.ok in
    let len = c.len.ensures in
    let all : c.len.result ≡ length items = omega arith in
    let same : items ≡ begun items p round = elim c.then-len-at.branch [
      | then-len-at-via-then-len-at w ↦
          let past = w.if-len-at.true in
          begun_past items p round (omega arith)
      | then-len-at-via-else-len-at+then-is_some w ↦
          let x = w.index.result.now in
          let some : is_some x ≡ true = cc in
          begun_able items p round x (slice_get_read items c.len.result p x all w.if-len-at.false w.index.ensures) some
    ] in
    subst (λ (a : List (Option ℕ)). a ≡ begun a p round) c.self.view_is same

pub overflow_add-index_mut : goal.overflow_add-index_mut
overflow_add-index_mut c =
    let items = c.self.inside.since.items in
    let parts = c.self.inside.counts.items in
    let able = c.self.inside.able in
    let p = c.args.processor in
    let round = c.args.round in
    let x = c.index.result.now in
    let n = c.index_mut-2.result.now in
    let ok = c.self.inside.since.ok in
    let len = c.len.ensures in
    let all : c.len.result ≡ length items = omega arith in
    let there : slice_get items p ≡ Some x = slice_get_read items c.len.result p x all c.if-len-at.false c.index.ensures in
    let none : is_some x ≡ false = cc in
    let absent : slice_get items p ≡ Some None = there ∙ ap (λ (o : Option ℕ). Some o) (is_none x none) in
    let was : n ≡ slice_index parts (remainder round) = read_part parts c.place.result round n c.self.invariant.parted c.place.ensures c.index_mut-2.ensures.value in
    let more = one_more items parts able p round n c.self.invariant absent was in
    omega (arith, more.part_fits)

pub overflow_add-self : goal.overflow_add-self
overflow_add-self c =
    let items = c.self.inside.since.items in
    let parts = c.self.inside.counts.items in
    let able = c.self.inside.able in
    let p = c.args.processor in
    let round = c.args.round in
    let x = c.index.result.now in
    let n = c.index_mut-2.result.now in
    let ok = c.self.inside.since.ok in
    let len = c.len.ensures in
    let all : c.len.result ≡ length items = omega arith in
    let there : slice_get items p ≡ Some x = slice_get_read items c.len.result p x all c.if-len-at.false c.index.ensures in
    let none : is_some x ≡ false = cc in
    let absent : slice_get items p ≡ Some None = there ∙ ap (λ (o : Option ℕ). Some o) (is_none x none) in
    let was : n ≡ slice_index parts (remainder round) = read_part parts c.place.result round n c.self.invariant.parted c.place.ensures c.index_mut-2.ensures.value in
    let more = one_more items parts able p round n c.self.invariant absent was in
    omega (arith, more.able_fits)

pub invariant_of-self : goal.invariant_of-self
invariant_of-self c =
    let items = c.self.inside.since.items in
    let parts = c.self.inside.counts.items in
    let able = c.self.inside.able in
    let p = c.args.processor in
    let round = c.args.round in
    let x = c.index.result.now in
    let n = c.index_mut-2.result.now in
    let ok = c.self.inside.since.ok in
    let len = c.len.ensures in
    let all : c.len.result ≡ length items = omega arith in
    let there : slice_get items p ≡ Some x = slice_get_read items c.len.result p x all c.if-len-at.false c.index.ensures in
    let none : is_some x ≡ false = cc in
    let absent : slice_get items p ≡ Some None = there ∙ ap (λ (o : Option ℕ). Some o) (is_none x none) in
    let was : n ≡ slice_index parts (remainder round) = read_part parts c.place.result round n c.self.invariant.parted c.place.ensures c.index_mut-2.ensures.value in
    let more = one_more items parts able p round n c.self.invariant absent was in
    subst (λ (k : ℕ). IsCounted (set items p (Some round)) (set parts k (n + 1)) (able + 1)) (sym c.place.ensures) more.counted

pub returns : goal.returns
returns c =
    let items = c.self.inside.since.items in
    let p = c.args.processor in
    let round = c.args.round in
    let x = c.index.result.now in
    let ok = c.self.inside.since.ok in
    let len = c.len.ensures in
    let all : c.len.result ≡ length items = omega arith in
    let there : slice_get items p ≡ Some x = slice_get_read items c.len.result p x all c.if-len-at.false c.index.ensures in
    let none : is_some x ≡ false = cc in
    begun_absent items p round x there none ∙ ap (λ (a : List (Option ℕ)). begun a p round) c.self.view_is
