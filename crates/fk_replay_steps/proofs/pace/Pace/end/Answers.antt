use Rattle.std.proofs.Common.{◌≡◌, ℕ, ◌-◌, Option, Some, None, length, set, slice_get, slice_index, ap, subst, sym, ◌∙◌, arith}
use Rattle.std.proofs.lemmas.Option.{slice_get_read}
use Rattle.fk_replay_steps.specs.Pace.{IsCounted, remainder}
use Rattle.fk_replay_steps.proofs.Counted.{one_less, read_part}
use Rattle.fk_replay_steps.proofs.pace.Pace.end.Goals as goal

pub overflow_sub-index_mut : goal.overflow_sub-index_mut
overflow_sub-index_mut c =
    let items = c.self.inside.since.items in
    let parts = c.self.inside.counts.items in
    let able = c.self.inside.able in
    let p = c.args.processor in
    let round = c.in-Some.round in
    let x = c.index.result.now in
    let n = c.index_mut-in-Some.result.now in
    let ok = c.self.inside.since.ok in
    let len = c.len.ensures in
    let all : c.len.result ≡ length items = omega arith in
    let there : slice_get items p ≡ Some (Some round) =
    slice_get_read items c.len.result p x all c.if-len-at.false c.index.ensures ∙ ap (λ (o : Option ℕ). Some o) c.in-Some.is in
    let was : n ≡ slice_index parts (remainder round) = read_part parts c.place.result round n c.self.invariant.parted c.place.ensures c.index_mut-in-Some.ensures.value in
    let less = one_less items parts able p round n c.self.invariant there was in
    less.part_some

pub invariant_of-self : goal.invariant_of-self
invariant_of-self c =
    let items = c.self.inside.since.items in
    let parts = c.self.inside.counts.items in
    let able = c.self.inside.able in
    let p = c.args.processor in
    let round = c.in-Some.round in
    let x = c.index.result.now in
    let n = c.index_mut-in-Some.result.now in
    let ok = c.self.inside.since.ok in
    let len = c.len.ensures in
    let all : c.len.result ≡ length items = omega arith in
    let there : slice_get items p ≡ Some (Some round) =
    slice_get_read items c.len.result p x all c.if-len-at.false c.index.ensures ∙ ap (λ (o : Option ℕ). Some o) c.in-Some.is in
    let was : n ≡ slice_index parts (remainder round) = read_part parts c.place.result round n c.self.invariant.parted c.place.ensures c.index_mut-in-Some.ensures.value in
    let less = one_less items parts able p round n c.self.invariant there was in
    subst (λ (k : ℕ). IsCounted (set items p None) (set parts k (n - 1)) (able - 1)) (sym c.place.ensures) less.counted
