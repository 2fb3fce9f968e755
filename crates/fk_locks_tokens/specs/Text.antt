-- The text of the lock.
use Rattle.std.specs.Prelude.{ℕ, List, [], ◌∷◌, ◌++◌, codes, flat_map}

-- A ticket is drawn from `next`, and `now` is the ticket of the processor that has the lock.
abbrev pub lock_lines : List (List ℕ)
lock_lines =
    codes "struct FairLock { unsigned next; unsigned now; };"
    ∷ codes "void fair_take(struct FairLock *l) { pr unsigned t = mpadd(&l->next, 1); while (l->now != t) ; }"
    ∷ codes "void fair_give(struct FairLock *l) { mpadd(&l->now, 1); }" ∷ []

-- The text: each line ends with a newline.
abbrev pub lock_bytes : List ℕ
lock_bytes = flat_map (λ line. line ++ 10 ∷ []) lock_lines
