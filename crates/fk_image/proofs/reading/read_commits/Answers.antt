use Rattle.std.proofs.Common.{◌≡◌, ◌*◌, ◌∷◌, ◌++◌, [], flat_map, refl, subst, sym, ◌∙◌, arith, rules}
use Rattle.std.proofs.lemmas.Bool.{false≢true}
use Rattle.std.proofs.lemmas.List.{take_all}
use Rattle.fk_image.specs.Limits.{IsCommit}
use Rattle.fk_image.specs.Refusals.{commit_at}
use Rattle.fk_image.specs.Spelling.{Spells, commit_words}
use Rattle.fk_image.specs.Tables.{IsAboveLast}
use Rattle.fk_image.proofs.Tables.{HasCommits-bad, HasCommits-push}
use Rattle.fk_image.proofs.reading.read_commits.Goals as goal

pub returns-then-not-may_follow-clause-fault : goal.returns-then-not-may_follow-clause-fault
returns-then-not-may_follow-clause-fault c =
    let table = c.args.table.now in
    let i = c.loop-i.i in (
      i,
      refl,
      omega arith,
      HasCommits-bad c.loop-i.invariant (λ follows.
          let read : IsCommit c.args.header.code (c.read_word-address.result, c.read_word-word.result) × IsAboveLast c.deref.result.now c.read_word-address.result = rw (c.deref.ensures.value, c.read_word-address.ensures, c.read_word-word.ensures) follows in
          false≢true (sym c.if-not-may_follow.true ∙ c.may_follow.ensures.1 read)),
    )

pub loop-i-preserved : goal.loop-i-preserved
loop-i-preserved c =
    let table = c.args.table.now in
    let commits = c.loop-i.commits.items in
    let i = c.loop-i.i in
    let commit = commit_at table (2 * i) in
    let read : IsCommit c.args.header.code (c.read_word-address.result, c.read_word-word.result) × IsAboveLast c.deref.result.now c.read_word-address.result = c.may_follow.ensures.0 c.if-not-may_follow.false in
    let follows : IsCommit c.args.header.code commit × IsAboveLast commits commit.0 = rw (c.deref.ensures.value, c.read_word-address.ensures, c.read_word-word.ensures) at read in
    let pushed : c.push.new.self.items ≡ commits ++ commit ∷ [] = search rules in
    rw pushed (HasCommits-push (λ k. omega (arith, c.type_inv.table k)) (omega arith) c.loop-i.invariant follows.0 follows.1)

pub returns-clause-spelling : goal.returns-clause-spelling
returns-clause-spelling c =
    subst (λ bytes. Spells (flat_map commit_words c.loop-i.commits.items) bytes) (take_all (8 * c.loop-i.i) c.args.table.now (omega (arith, c.requires.whole, c.loop-i-test.false))) c.loop-i.invariant.spells

pub returns-clause-commits : goal.returns-clause-commits
returns-clause-commits c = c.loop-i.invariant.limits

pub returns-clause-rise : goal.returns-clause-rise
returns-clause-rise c = c.loop-i.invariant.rise
