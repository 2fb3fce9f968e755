-- Programs that go through their groups so, as code. The first is `start { if ($) 1; else ; farm barrier; }`: its groups have
-- one remaining program.
use Rattle.std.proofs.Common.{◌≡◌, ℕ, zero, suc, ◌≤◌, Bool, true, false, true≢false, List, [], ◌∷◌, ◌++◌, map, length, bytes_eq, Option, Some, None, is_some, refl, sym, ap, ◌∙◌, arith}
use Rattle.std.proofs.lemmas.Slice.Eq.{bytes_eq-Decides}
use Rattle.fk_meaning_operation.specs.Kinds.{class_of}
use Rattle.fk_meaning_operation.specs.declared.operation.Operation.{Operation}
use Rattle.fk_meaning_operation.specs.declared.kinds.Class.{Class}
use Rattle.fk_meaning_operation.specs.declared.kinds.Class.TheVariants as class
use Rattle.std.specs.Prelude.{if◌then◌else◌}
use Rattle.fk_num.specs.Word.{Memory}
use Rattle.fk_meaning_operation.specs.declared.operation.Operation.TheVariants as o
use Rattle.fk_meaning_operation.specs.declared.operation.OwnValue.TheVariants as n
use Rattle.fk_meaning_operation.specs.declared.operation.SplitKind.TheVariants.{IfElse, Loop, Fork}
use Rattle.fk_meaning.specs.Processor.{Processor, Setting, values, last, before}
use Rattle.fk_meaning.specs.Group.{divided, does, goes_onward}
use Rattle.fk_meaning.specs.Round.{Step}
use Rattle.fk_meaning.specs.Schedule.{Schedule, opening, run, ArePossible}
use Rattle.fk_meaning_forms.specs.Code.{Code, done, perform, choose, while, until, turn, again, quit, break, continue, call, ends, append}
use Rattle.fk_meaning.specs.Next.{Work, going, next}
use Rattle.fk_meaning.specs.Behind.{outs}
use Rattle.fk_lockstep.specs.Course.{Context, InGroup, Waits, ByItself, FollowsFor, Follows}
use Rattle.fk_lockstep.specs.Counts.{Counts, ArePending, AsMany, Leaves, IsTaken, CountsGoOn, CountedFor, IsCounted}
use Rattle.fk_lockstep.specs.OneProgram.{KeepOneProgram}
use Rattle.fk_lockstep.proofs.ProgramRuns.{groups_have_one_program}

-- each `start` ahead in code
abbrev starts : Code ℕ → List (Code ℕ)
starts done = []
starts (perform t op rest) = starts rest
starts (choose t o.Begin a b rest) = choose t o.Begin a b rest ∷ starts rest
starts (choose t op a b rest) = starts rest
starts (while test body step rest) = starts rest
starts (until body test rest) = starts rest
starts (turn test body step rest) = starts rest
starts (again test body step rest) = starts rest
starts (quit t op rest) = starts rest
starts (break rest) = starts rest
starts (continue rest) = starts rest
starts (call t op f opening' rest) = starts rest
starts (ends t op rest) = starts rest

-- where others are met: behind parts, at the ends of bodies, and at each `start` ahead, here without calls
abbrev all_outs : Work → List Work
all_outs work = outs work ++ map (λ code. let at : Work = record { left = code; callers = [] } in at) (starts work.left)

abbrev behind_all : Code ℕ
behind_all = perform 20 o.Resume (ends 21 o.Halt done)

abbrev body_end : Code ℕ
body_end = perform 11 (o.Meet true) (perform 12 o.End done)

abbrev behind_parts : Code ℕ
behind_parts = perform 8 o.Resume (choose 9 o.Farm (perform 10 (o.Meet false) done) done body_end)

abbrev first_part : Code ℕ
first_part = perform 4 (o.Push 1) (perform 5 o.DropLast (perform 6 o.End done))

abbrev second_part : Code ℕ
second_part = perform 7 o.End done

abbrev in_start : Code ℕ
in_start = perform 2 (o.Get n.Rank) (choose 3 (o.Split IfElse) first_part second_part behind_parts)

abbrev main : Code ℕ
main = perform 0 (o.Get n.Processors) (choose 1 o.Begin in_start done behind_all)

abbrev next_in_main : Work → Option (Step Work)
next_in_main = next (λ binding. main)

abbrev Goes : Context → Code ℕ → Type 0
Goes context code = Follows next_in_main all_outs context (going code [])

ends_all : Goes (ByItself false) (ends 21 o.Halt done)
ends_all zero = tt
ends_all (suc k) = λ onward. refl

others_wait : Goes (Waits false) behind_all
others_wait zero = tt
others_wait (suc k) = (refl, ends_all k)

group_ends : Goes (InGroup false) (append (perform 12 o.End done) behind_all)
group_ends zero = tt
group_ends (suc k) = refl

meeting : Goes (ByItself true) (append body_end behind_all)
meeting zero = tt
meeting (suc k) = (refl, group_ends k)

body : Goes (ByItself true) (append (perform 10 (o.Meet false) done) (append body_end behind_all))
body zero = tt
body (suc k) = λ onward. (refl, meeting k)

farming : Goes (InGroup false) (append (choose 9 o.Farm (perform 10 (o.Meet false) done) done body_end) behind_all)
farming zero = tt
farming (suc k) = (refl, refl, body k, meeting k)

parted : Goes (Waits true) (append behind_parts behind_all)
parted zero = tt
parted (suc k) = (refl, farming k)

first_ends : Goes (InGroup false) (append (perform 6 o.End done) (append behind_parts behind_all))
first_ends zero = tt
first_ends (suc k) = refl

first_drops : Goes (InGroup false) (append (perform 5 o.DropLast (perform 6 o.End done)) (append behind_parts behind_all))
first_drops zero = tt
first_drops (suc k) = λ onward. (refl, first_ends k)

first_goes : Goes (InGroup false) (append first_part (append behind_parts behind_all))
first_goes zero = tt
first_goes (suc k) = λ onward. (refl, first_drops k)

second_ends : Goes (InGroup false) (append second_part (append behind_parts behind_all))
second_ends zero = tt
second_ends (suc k) = refl

splitting : Goes (InGroup false) (append (choose 3 (o.Split IfElse) first_part second_part behind_parts) behind_all)
splitting zero = tt
splitting (suc k) = (refl, refl, parted k, first_goes k, second_ends k, refl)

starting : Goes (InGroup false) (append in_start behind_all)
starting zero = tt
starting (suc k) = λ onward. (refl, splitting k)

beginning : Goes (ByItself false) (choose 1 o.Begin in_start done behind_all)
beginning zero = tt
beginning (suc k) = (refl, others_wait k, refl, starting k)

whole : Goes (ByItself false) main
whole zero = tt
whole (suc k) = λ onward. (refl, beginning k)

-- without a `fork` no number of parts is pending
abbrev is_fork : Operation → Bool
is_fork (o.Split Fork) = true
is_fork op = false

abbrev are_none : List ℕ → Bool
are_none [] = true
are_none (n ∷ ns) = false

none_many : (ns : List ℕ) → are_none ns ≡ true → length ns ≡ 0
none_many [] h = refl
none_many (n ∷ ns) h = absurd (true≢false (sym h))

abbrev no_counts : Counts Work
no_counts = record { pending = λ work. 0; are_pending = λ work p ns. are_none ns; many = λ work p ns h. none_many ns h }

module _ (next' : Work → Option (Step Work)) where
  none_met : (ws : List Work) → AsMany next' all_outs no_counts 0 ws
  none_met [] = tt
  none_met (w ∷ ws) = refl

  none_left : (c : Class) (op : Operation) (here : Work) (rest : Bool → Work) → Leaves next' all_outs no_counts c op here rest
  none_left class.Local op here rest = λ set onward p ns h. h
  none_left class.Request op here rest = λ answer p ns h. h
  none_left class.Tree op here rest = λ highest lowest size p ns h. h

  none_pending : (op : Operation) → is_fork op ≡ false → (here : Work) (rest : Bool → Work) → CountsGoOn next' all_outs no_counts op here rest
  none_pending o.Agree e here rest = λ value p ns h. h
  none_pending (o.Split Fork) e here rest = absurd (true≢false e)
  none_pending (o.Split IfElse) e here rest = ((λ size part p ns h. h), none_met (all_outs (rest true)))
  none_pending (o.Split by) e here rest = ((λ size part p ns h. h), tt)
  none_pending o.Farm e here rest = (none_left class.Tree o.Farm here rest, none_met (all_outs (rest true)))
  none_pending o.Begin e here rest = (none_left class.Tree o.Begin here rest, refl)
  none_pending op e here rest = none_left (class_of op) op here rest

abbrev IsFree : Code ℕ → Type 0
IsFree code = IsCounted next_in_main all_outs no_counts (going code [])

-- an operation before code, and a choice
goes_free : (t : ℕ) (op : Operation) (rest : Code ℕ) → is_fork op ≡ false → IsFree rest → IsFree (perform t op rest)
goes_free t op rest e f zero = tt
goes_free t op rest e f (suc k) = (none_pending next_in_main op e (going (perform t op rest) []) (λ onward. going rest []), (λ onward. f k))

free_done : IsFree (ends 21 o.Halt done)
free_done zero = tt
free_done (suc k) = (none_pending next_in_main o.Halt refl (going (ends 21 o.Halt done) []) (λ onward. record { left = done; callers = [] }), (λ onward. stays_done k))
  where
    stays_done : IsFree done
    stays_done zero = tt
    stays_done (suc k') = tt

module _ (t : ℕ) (op : Operation) (a b rest : Code ℕ) (e : is_fork op ≡ false) (f : IsFree (append a rest)) (g : IsFree (append b rest)) where
  chosen_free : IsFree (choose t op a b rest)
  chosen_free zero = tt
  chosen_free (suc k) = (
    none_pending next_in_main op e (going (choose t op a b rest) []) (λ onward. going (append (if onward then a else b) rest) []),
    by,
  )
    where
      by : (onward : Bool) → CountedFor next_in_main all_outs no_counts k (going (append (if onward then a else b) rest) [])
      by true = f k
      by false = g k

free_behind : IsFree behind_all
free_behind = goes_free 20 o.Resume (ends 21 o.Halt done) refl free_done

free_meeting : IsFree (append body_end behind_all)
free_meeting = goes_free 11 (o.Meet true) (append (perform 12 o.End done) behind_all) refl (goes_free 12 o.End behind_all refl free_behind)

free_parts : IsFree (append behind_parts behind_all)
free_parts =
    let farm = append (choose 9 o.Farm (perform 10 (o.Meet false) done) done body_end) behind_all in
    goes_free 8 o.Resume farm refl
    (chosen_free 9 o.Farm (perform 10 (o.Meet false) done) done (append body_end behind_all) refl
    (goes_free 10 (o.Meet false) (append body_end behind_all) refl free_meeting) free_meeting)

free_split : IsFree (append (choose 3 (o.Split IfElse) first_part second_part behind_parts) behind_all)
free_split =
    let behind = append behind_parts behind_all in
    chosen_free 3 (o.Split IfElse) first_part second_part behind refl
    (goes_free 4 (o.Push 1) (perform 5 o.DropLast (perform 6 o.End behind)) refl
    (goes_free 5 o.DropLast (perform 6 o.End behind) refl (goes_free 6 o.End behind refl free_parts)))
    (goes_free 7 o.End behind refl free_parts)

free_main : IsFree main
free_main =
    let split = append (choose 3 (o.Split IfElse) first_part second_part behind_parts) behind_all in
    goes_free 0 (o.Get n.Processors) (choose 1 o.Begin in_start done behind_all) refl
    (chosen_free 1 o.Begin in_start done behind_all refl (goes_free 2 (o.Get n.Rank) split refl free_split) free_behind)

main_has_one_program : (setting : Setting) (schedule : Schedule) (processors : ℕ) (globals input : List ℕ) (firsts : Memory) → 1 ≤ processors
    → ArePossible next_in_main setting schedule (opening processors globals input firsts (going main []))
    → (run next_in_main setting schedule (opening processors globals input firsts (going main []))).fault ≡ None
    → KeepOneProgram next_in_main processors (run next_in_main setting schedule (opening processors globals input firsts (going main [])))
main_has_one_program = groups_have_one_program Work next_in_main all_outs (going main []) whole no_counts (λ p. refl) free_main

-- and one with a loop that its members leave one by one: `start while ($) 1;`
abbrev test : Code ℕ
test = perform 30 (o.Get n.Rank) (quit 31 o.Shrink done)

abbrev turn_body : Code ℕ
turn_body = perform 32 (o.Push 1) (perform 33 o.DropLast done)

abbrev behind_loop : Code ℕ
behind_loop = perform 34 o.Resume (perform 35 o.End done)

abbrev looping : Code ℕ
looping = choose 29 (o.Split Loop) (while test turn_body done done) done behind_loop

abbrev loop_main : Code ℕ
loop_main = perform 28 (o.Get n.Processors) (choose 29 o.Begin looping done behind_all)

abbrev next_in_loop : Work → Option (Step Work)
next_in_loop = next (λ binding. loop_main)

abbrev at : Code ℕ → Work
at code = record { left = code; callers = [] }

abbrev behind_it : Code ℕ
behind_it = append behind_loop behind_all

abbrev under_way : Code ℕ
under_way = turn test turn_body done behind_it

record Turns (k : ℕ) : Type 0 where
  tests : FollowsFor next_in_loop all_outs k (InGroup false) (at (again test turn_body done behind_it))
  leaves : FollowsFor next_in_loop all_outs k (InGroup false) (at (quit 31 o.Shrink (append turn_body under_way)))
  pushes : FollowsFor next_in_loop all_outs k (InGroup false) (at (append turn_body under_way))
  drops : FollowsFor next_in_loop all_outs k (InGroup false) (at (append (perform 33 o.DropLast done) under_way))

turns : (k : ℕ) → Turns k
turns zero = record { tests = tt; leaves = tt; pushes = tt; drops = tt }
turns (suc k) =
    let t = turns k in
    record {
      tests = λ onward. (refl, t.leaves);
      leaves = (refl, t.pushes, refl);
      pushes = λ onward. (refl, t.drops);
      drops = λ onward. (refl, t.tests);
    }

abbrev Loops : Context → Code ℕ → Type 0
Loops context code = Follows next_in_loop all_outs context (going code [])

loop_last : Loops (ByItself false) (ends 21 o.Halt done)
loop_last zero = tt
loop_last (suc k) = λ onward. refl

loop_others : Loops (Waits false) behind_all
loop_others zero = tt
loop_others (suc k) = (refl, loop_last k)

loop_ends : Loops (InGroup false) (append (perform 35 o.End done) behind_all)
loop_ends zero = tt
loop_ends (suc k) = refl

loop_waits : Loops (Waits true) behind_it
loop_waits zero = tt
loop_waits (suc k) = (refl, loop_ends k)

loop_splits : Loops (InGroup false) (append looping behind_all)
loop_splits zero = tt
loop_splits (suc k) = (refl, refl, loop_waits k, (turns k).tests, refl)

loop_begins : Loops (ByItself false) (choose 29 o.Begin looping done behind_all)
loop_begins zero = tt
loop_begins (suc k) = (refl, loop_others k, refl, loop_splits k)

loop_whole : Loops (ByItself false) loop_main
loop_whole zero = tt
loop_whole (suc k) = λ onward. (refl, loop_begins k)

-- and one with a `fork`: `start fork (2; @=$; $=$) ;`
abbrev behind_fork : Code ℕ
behind_fork = perform 45 o.Resume (perform 46 o.End behind_all)

abbrev forking : Code ℕ
forking = choose 43 (o.Split Fork) (perform 44 o.End done) done behind_fork

abbrev ranked : Code ℕ
ranked = perform 42 (o.Get n.Rank) forking

abbrev numbered : Code ℕ
numbered = perform 41 (o.Get n.Rank) ranked

abbrev fork_main : Code ℕ
fork_main = perform 37 (o.Get n.Processors) (choose 38 o.Begin (perform 39 (o.Push 2) (perform 40 o.Agree (perform 41 (o.Get n.Rank) (perform 42 (o.Get n.Rank)
    (choose 43 (o.Split Fork) (perform 44 o.End done) done (perform 45 o.Resume (perform 46 o.End done))))))) done behind_all)

abbrev next_in_fork : Work → Option (Step Work)
next_in_fork = next (λ binding. fork_main)

-- from the agree to the `fork` its number of parts is pending: two values stand above it at last
abbrev above : Code ℕ → Option ℕ
above (choose t (o.Split Fork) a b rest) = Some 2
above (perform t (o.Get k) (choose t' (o.Split Fork) a b rest)) = Some 1
above (perform t (o.Get k) (perform t' (o.Get k') (choose t'' (o.Split Fork) a b rest))) = Some 0
above code = None

abbrev numbers_at : Option ℕ → Processor → List ℕ
numbers_at None p = []
numbers_at (Some k) p = last (before k (values p)) ∷ []

abbrev many_at : Option ℕ → ℕ
many_at None = 0
many_at (Some k) = 1

as_many_at : (k : Option ℕ) (p : Processor) → length (numbers_at k p) ≡ many_at k
as_many_at None p = refl
as_many_at (Some k) p = refl

abbrev fork_counts : Counts Work
fork_counts = record {
  pending = λ work. many_at (above work.left);
  are_pending = λ work p ns. bytes_eq ns (numbers_at (above work.left) p);
  many = λ work p ns h. ap length ((bytes_eq-Decides ns (numbers_at (above work.left) p)).0 h) ∙ as_many_at (above work.left) p;
}

abbrev Forks : Context → Code ℕ → Type 0
Forks context code = Follows next_in_fork all_outs context (going code [])

abbrev IsCountedThere : Code ℕ → Type 0
IsCountedThere code = IsCounted next_in_fork all_outs fork_counts (going code [])

fork_last : Forks (ByItself false) (ends 21 o.Halt done)
fork_last zero = tt
fork_last (suc k) = λ onward. refl

fork_others : Forks (Waits false) behind_all
fork_others zero = tt
fork_others (suc k) = (refl, fork_last k)

fork_ends : Forks (InGroup false) (perform 46 o.End behind_all)
fork_ends zero = tt
fork_ends (suc k) = refl

fork_waits : Forks (Waits true) behind_fork
fork_waits zero = tt
fork_waits (suc k) = (refl, fork_ends k)

fork_part : Forks (InGroup false) (perform 44 o.End behind_fork)
fork_part zero = tt
fork_part (suc k) = refl

forks : Forks (InGroup false) forking
forks zero = tt
forks (suc k) = (refl, refl, fork_waits k, fork_part k, refl)

fork_ranked : Forks (InGroup false) ranked
fork_ranked zero = tt
fork_ranked (suc k) = λ onward. (refl, forks k)

fork_numbered : Forks (InGroup true) numbered
fork_numbered zero = tt
fork_numbered (suc k) = λ onward. (refl, fork_ranked k)

fork_agrees : Forks (InGroup false) (perform 40 o.Agree numbered)
fork_agrees zero = tt
fork_agrees (suc k) = λ onward. (refl, fork_numbered k)

fork_pushes : Forks (InGroup false) (perform 39 (o.Push 2) (perform 40 o.Agree numbered))
fork_pushes zero = tt
fork_pushes (suc k) = λ onward. (refl, fork_agrees k)

fork_begins : Forks (ByItself false) (choose 38 o.Begin (perform 39 (o.Push 2) (perform 40 o.Agree (perform 41 (o.Get n.Rank) (perform 42 (o.Get n.Rank)
    (choose 43 (o.Split Fork) (perform 44 o.End done) done (perform 45 o.Resume (perform 46 o.End done))))))) done behind_all)
fork_begins zero = tt
fork_begins (suc k) = (refl, fork_others k, refl, fork_pushes k)

fork_whole : Forks (ByItself false) fork_main
fork_whole zero = tt
fork_whole (suc k) = λ onward. (refl, fork_begins k)

-- the number of parts, operation by operation
count_last : IsCountedThere (ends 21 o.Halt done)
count_last zero = tt
count_last (suc k) = ((λ highest lowest size p ns h. h), (λ onward. count_done k))
  where
    count_done : IsCountedThere done
    count_done zero = tt
    count_done (suc k') = tt

count_others : IsCountedThere behind_all
count_others zero = tt
count_others (suc k) = ((λ highest lowest size p ns h. h), (λ onward. count_last k))

count_ends : IsCountedThere (perform 46 o.End behind_all)
count_ends zero = tt
count_ends (suc k) = ((λ highest lowest size p ns h. h), (λ onward. count_others k))

count_behind : IsCountedThere behind_fork
count_behind zero = tt
count_behind (suc k) = ((λ highest lowest size p ns h. h), (λ onward. count_ends k))

count_part : IsCountedThere (perform 44 o.End behind_fork)
count_part zero = tt
count_part (suc k) = ((λ highest lowest size p ns h. h), (λ onward. count_behind k))

count_forks : IsCountedThere forking
count_forks zero = tt
count_forks (suc k) = ((taken, omega arith), by)
  where
    taken : (size : ℕ) (part : Option ℕ) (p : Processor) (ns : List ℕ) → bytes_eq ns (last (before 2 (values p)) ∷ []) ≡ true
        → IsTaken next_in_fork all_outs fork_counts p (divided Fork size p part) (going (append (if is_some part then perform 44 o.End done else done) behind_fork) []) ns
    taken size None p ns h = ([], (bytes_eq-Decides ns (last (before 2 (values p)) ∷ [])).0 h, refl)
    taken size (Some j) p ns h = ([], (bytes_eq-Decides ns (last (before 2 (values p)) ∷ [])).0 h, refl)

    by : (onward : Bool) → CountedFor next_in_fork all_outs fork_counts k (going (append (if onward then perform 44 o.End done else done) behind_fork) [])
    by true = count_part k
    by false = count_behind k

count_ranked : IsCountedThere ranked
count_ranked zero = tt
count_ranked (suc k) = ((λ set onward p ns h. h), (λ onward. count_forks k))

count_numbered : IsCountedThere numbered
count_numbered zero = tt
count_numbered (suc k) = ((λ set onward p ns h. h), (λ onward. count_ranked k))

count_agrees : IsCountedThere (perform 40 o.Agree numbered)
count_agrees zero = tt
count_agrees (suc k) = ((λ value p ns h. (bytes_eq-Decides (value ∷ ns) (value ∷ [])).1 (ap (λ (ms : List ℕ). value ∷ ms) ((bytes_eq-Decides ns []).0 h))), (λ onward. count_numbered k))

count_pushes : IsCountedThere (perform 39 (o.Push 2) (perform 40 o.Agree numbered))
count_pushes zero = tt
count_pushes (suc k) = ((λ set onward p ns h. h), (λ onward. count_agrees k))

count_begins : IsCountedThere (choose 38 o.Begin (perform 39 (o.Push 2) (perform 40 o.Agree (perform 41 (o.Get n.Rank) (perform 42 (o.Get n.Rank)
    (choose 43 (o.Split Fork) (perform 44 o.End done) done (perform 45 o.Resume (perform 46 o.End done))))))) done behind_all)
count_begins zero = tt
count_begins (suc k) = ((taken, refl), by)
  where
    abbrev_part : Code ℕ
    abbrev_part = perform 39 (o.Push 2) (perform 40 o.Agree (perform 41 (o.Get n.Rank) (perform 42 (o.Get n.Rank)
        (choose 43 (o.Split Fork) (perform 44 o.End done) done (perform 45 o.Resume (perform 46 o.End done))))))

    either : (onward : Bool) (p : Processor) (ns : List ℕ) → bytes_eq ns [] ≡ true
        → ArePending next_in_fork all_outs fork_counts (going (append (if onward then abbrev_part else done) behind_all) []) p ns
    either true p ns h = h
    either false p ns h = h

    taken : (highest lowest size : ℕ) (p : Processor) (ns : List ℕ) → bytes_eq ns [] ≡ true
        → ArePending next_in_fork all_outs fork_counts (going (append (if goes_onward o.Begin highest lowest p then abbrev_part else done) behind_all) []) (does o.Begin highest size p) ns
    taken highest lowest size p ns h = either (goes_onward o.Begin highest lowest p) (does o.Begin highest size p) ns h

    by : (onward : Bool) → CountedFor next_in_fork all_outs fork_counts k (going (append (if onward then abbrev_part else done) behind_all) [])
    by true = count_pushes k
    by false = count_others k

count_whole : IsCountedThere fork_main
count_whole zero = tt
count_whole (suc k) = ((λ set onward p ns h. h), (λ onward. count_begins k))

fork_has_one_program : (setting : Setting) (schedule : Schedule) (processors : ℕ) (globals input : List ℕ) (firsts : Memory) → 1 ≤ processors
    → ArePossible next_in_fork setting schedule (opening processors globals input firsts (going fork_main []))
    → (run next_in_fork setting schedule (opening processors globals input firsts (going fork_main []))).fault ≡ None
    → KeepOneProgram next_in_fork processors (run next_in_fork setting schedule (opening processors globals input firsts (going fork_main [])))
fork_has_one_program = groups_have_one_program Work next_in_fork all_outs (going fork_main []) fork_whole fork_counts (λ p. refl) count_whole
