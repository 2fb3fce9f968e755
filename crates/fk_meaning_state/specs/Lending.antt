-- A `State` after its store was lent.
use Rattle.std.specs.Borrow.{Lends, MutBor, Fml}
use Rattle.fk_meaning_store.specs.declared.store.Store32.{Store32}
use Rattle.fk_meaning_store.specs.contracts.store.Store32 as store
use Rattle.fk_meaning_state.specs.declared.state.State.{State}
use Rattle.fk_meaning_state.specs.contracts.state.State.{the_row}
use Rattle.fk_meaning_state.specs.View.{with_store}

-- the state has the store that was left in the reference, and is otherwise as before
abbrev pub LendsStore : MutBor State → MutBor Store32 → Fml
LendsStore s r = Lends the_row store.the_row s r (with_store s.now)
