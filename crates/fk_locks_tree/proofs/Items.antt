-- The items of the lock come first in the tree.
use Rattle.std.proofs.Common.{◌≡◌, true, List, [], ◌∷◌, ◌++◌, Ok, Err, refl, sym, ap, ◌∙◌, arith}
use Rattle.fk_syntax.specs.Program.{ItemTree, FunctionItem}
use Rattle.fk_lex.specs.Reading.{Spelled}
use Rattle.fk_parse_combinators.specs.declared.limits.TheConstants.{LEVELS}
use Rattle.fk_parse_combinators.specs.Kinds.{just}
use Rattle.fk_parse_combinators.specs.Languages.{Placed, numbered}
use Rattle.fk_parse_combinators.specs.Reads.{Answer}
use Rattle.fk_parse_combinators.specs.Readers.{Reader, after, next_is, repeated, repeated_within}
use Rattle.fk_parse_combinators.proofs.Repeats.{Going, going_start, going_more}
use Rattle.fk_expr.specs.Reading.{inner}
use Rattle.fk_parse.specs.Parses.{ReadsText}
use Rattle.fk_parse.specs.Reading.{begins_item, read_item, read_body, read_items, ended, read_text}
use Rattle.fk_parse.proofs.Texts.{reads_text, one_text}
use Rattle.fk_locks_tokens.specs.Tokens.{lock_tokens}
use Rattle.fk_locks_tree.specs.Items.{lock_struct, lock_take, lock_give, LockItemsFirst}
use Rattle.fk_locks_tree.proofs.Placed.{struct_before, take_before, give_before}
use Rattle.fk_locks_tree.proofs.Struct.{struct_read}
use Rattle.fk_locks_tree.proofs.Take.{take_read, give_read}

abbrev item : Reader ItemTree
item = read_item (inner LEVELS) read_body

abbrev lock_items : List ItemTree
lock_items = lock_struct ∷ FunctionItem lock_take ∷ FunctionItem lock_give ∷ []

begins_struct : (rest : List Placed) → next_is begins_item (struct_before rest) ≡ true
unfolding just
begins_struct rest = refl

begins_take : (rest : List Placed) → next_is begins_item (take_before rest) ≡ true
unfolding just
begins_take rest = refl

begins_give : (rest : List Placed) → next_is begins_item (give_before rest) ≡ true
unfolding just
begins_give rest = refl

module _ (rest : List Placed) where
  abbrev text : List Placed
  text = struct_before (take_before (give_before rest))

  after_struct : Going begins_item item text (lock_struct ∷ []) (take_before (give_before rest))
  after_struct = going_more begins_item item text text (take_before (give_before rest)) [] lock_struct (begins_struct (take_before (give_before rest)))
      (struct_read (inner LEVELS) read_body (take_before (give_before rest))) (omega arith) (going_start begins_item item text)

  after_take : Going begins_item item text (lock_struct ∷ FunctionItem lock_take ∷ []) (give_before rest)
  after_take = going_more begins_item item text (take_before (give_before rest)) (give_before rest) (lock_struct ∷ []) (FunctionItem lock_take) (begins_take (give_before rest)) (take_read (give_before rest)) (omega arith) after_struct

  after_give : Going begins_item item text lock_items rest
  after_give = going_more begins_item item text (give_before rest) rest (lock_struct ∷ FunctionItem lock_take ∷ []) (FunctionItem lock_give) (begins_give rest) (give_read rest) (omega arith) after_take

abbrev Begins : List ItemTree → Type 0
Begins items = (others : List ItemTree) × (items ≡ lock_items ++ others)

-- what is read behind the items of the lock comes behind them in the tree
joined : (answer : Answer (List ItemTree)) (items : List ItemTree) → ended (after answer (λ xs rest. Ok (lock_items ++ xs, rest))) ≡ Ok items → Begins items
joined (Ok (xs, [])) items e = (xs, cc)
joined (Ok (xs, t ∷ rest)) items e = absurd cc
joined (Err stop) items e = absurd cc

whole : (tokens : List Placed) → read_text tokens ≡ ended (repeated begins_item item tokens)
unfolding read_items
whole tokens = refl

lock_numbered : (more : List Spelled) → numbered 0 (lock_tokens ++ more) ≡ struct_before (take_before (give_before (numbered 64 more)))
lock_numbered more = refl

read : (more : List Spelled) (items : List ItemTree) → ReadsText (numbered 0 (lock_tokens ++ more)) (Ok items) → Begins items
read more items reads =
    let rest = numbered 64 more in
    let going = after_give rest in
    let tokens = numbered 0 (lock_tokens ++ more) in
    let only = one_text tokens in
    let one : Ok items ≡ read_text tokens = only.2 (Ok items) reads ∙ sym (only.2 (read_text tokens) (reads_text tokens)) in
    let all : ended (after (repeated_within going.fuel begins_item item rest) (λ xs others. Ok (lock_items ++ xs, others))) ≡ Ok items =
    ap ended (sym going.goes) ∙ sym (whole (text rest)) ∙ ap read_text (sym (lock_numbered more)) ∙ sym one in
    joined (repeated_within going.fuel begins_item item rest) items all

pub lock_items_first : LockItemsFirst
lock_items_first more program spells = read more program.items spells.items
