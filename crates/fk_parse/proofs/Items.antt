-- Items are read exactly: a struct is told apart from the others by three tokens.
use Rattle.std.proofs.Common.{◌≡◌, ℕ, suc, ◌+◌, ◌-◌, List, [], ◌∷◌, ◌++◌, Bool, true, false, ◌&&◌, IsTrue, Ok, Err, length, ◌⊎◌, inl, inr, refl, sym, ◌∙◌, arith}
use Rattle.fk_syntax.specs.Tree.{BaseType, Struct}
use Rattle.fk_syntax.specs.Program.{DeclaredTree, ItemTree, StructItem, VariablesItem}
use Rattle.fk_lex.specs.declared.token.TokenKind.TheVariants as kind
use Rattle.fk_parse_combinators.specs.Languages.{Placed, Stretch, tokens_of, Language, token, ◌then◌, ◌or◌, making, many, name}
use Rattle.fk_parse_combinators.specs.Reads.{Answer}
use Rattle.fk_parse_combinators.specs.declared.limits.TheConstants.{LEVELS}
use Rattle.fk_expr.specs.Grammar.{base}
use Rattle.fk_parse_combinators.specs.Readers.{Reader, after, giving, ◌and◌, next_is, either, by_next, expect, repeated, tells}
use Rattle.fk_expr.specs.Reading.{read_base, begins_type, inner}
use Rattle.fk_parse_combinators.proofs.SameKind.{other_kind}
use Rattle.fk_parse_combinators.proofs.Sets.{Kinds, none, ◌∪◌, none_apart, Apart, apart-false}
use Rattle.fk_parse_combinators.proofs.EachKind.{apart_by, within_by}
use Rattle.fk_parse_combinators.proofs.Exact.{Local, IsLocal}
use Rattle.fk_parse_combinators.proofs.Stretches.{tokens_regroup}
use Rattle.fk_parse_combinators.proofs.Shapes.{shape_or}
use Rattle.fk_parse_combinators.proofs.Then.{follows_shape, exact_wider}
use Rattle.fk_parse_combinators.proofs.Or.{by_next-yes, by_next-no, local_like}
use Rattle.fk_parse_combinators.proofs.Productions.{IsRead, reads_token, reads_making, reads_then, reads_loose_then, reads_or, reads_many, reads_kinds, reads_wider}
use Rattle.fk_parse_combinators.proofs.Longest.{Faithful}
use Rattle.fk_parse_declarations.specs.Kinds.{sharing_told}
use Rattle.fk_parse.specs.Kinds.{mode_told}
use Rattle.fk_parse_declarations.specs.Grammar.{member, joined_lists}
use Rattle.fk_parse.specs.Items.{struct_item, item, Items}
use Rattle.fk_parse_declarations.specs.Reading.{read_member, read_variables}
use Rattle.fk_parse.specs.Reading.{read_struct, read_moded, read_bare, read_tail, read_item, read_items, begins_item, struct_is_next, made_of, Tail}
use Rattle.fk_parse_declarations.proofs.Declarations.{starred, reads_member}
use Rattle.fk_parse_declarations.proofs.Parameters.{next_none}
use Rattle.fk_parse_combinators.proofs.TwoTokens.{exact_test}
use Rattle.fk_parse.proofs.Choices.{local_behind}
use Rattle.fk_parse.proofs.Tails.{has_room, body_within, named, reads_named, tail, reads_tail, bare, moded}
use Rattle.fk_parse.proofs.Words.{words, words_cases, read_typed, read_words, reads_words}
use Rattle.fk_parse_combinators.specs.Kinds.{just}

-- ---- structs

-- "{" member { member } "}" ";"
abbrev Members : Type 0
Members = Placed × (List DeclaredTree × (List (List DeclaredTree) × (Placed × Placed)))

-- braces, members and a semicolon
abbrev members : Language Members
members = token 0 kind.OpenBrace then member 0 then many (member 0) then token 0 kind.CloseBrace then token 0 kind.Semicolon

-- how they are read
abbrev read_members : Reader Members
read_members =
    expect kind.OpenBrace and read_member and repeated begins_type read_member and expect kind.CloseBrace and expect kind.Semicolon

-- they are read exactly
reads_members : {levels : ℕ} {room : Type 0} → IsRead levels members read_members 0 (just kind.OpenBrace) none room
unfolding just
reads_members =
    reads_then (reads_token 0 kind.OpenBrace (omega arith))
    (reads_then (reads_member 0 (omega arith))
    (reads_loose_then (reads_many (reads_member 0 (omega arith)) (none_apart begins_type))
    (reads_then (reads_token 0 kind.CloseBrace (omega arith)) (reads_token 0 kind.Semicolon (omega arith)) (none_apart (just kind.Semicolon)))
    (apart_by (none ∪ begins_type) (just kind.CloseBrace) refl (λ v u. refl)))
    (none_apart (begins_type ∪ just kind.CloseBrace)))
    (none_apart begins_type)

-- a struct is read exactly
reads_struct : {levels : ℕ} {room : Type 0} → IsRead levels struct_item read_struct 0 (just kind.Struct) none room
unfolding read_struct
reads_struct =
    reads_making _ (reads_then (reads_token 0 kind.Struct (omega arith))
    (reads_then (reads_token 0 kind.Word (omega arith)) reads_members (none_apart (just kind.OpenBrace))) (none_apart (just kind.Word)))

-- ---- what the three tokens tell

-- where the first isn't `struct`
not_struct : (t : Placed) (ts : List Placed) → just kind.Struct t.kind ≡ false → struct_is_next (t ∷ ts) ≡ false
not_struct t [] e = refl
not_struct t (n ∷ []) e = refl
not_struct t (n ∷ u ∷ ts) e = rw e refl

-- where the third isn't a brace
third : (a b : Bool) → (a && b && false) ≡ false
third true true = refl
third true false = refl
third false b = refl

-- they tell no struct
not_brace : (t n : Placed) (ts : List Placed) → next_is (just kind.OpenBrace) ts ≡ false → struct_is_next (t ∷ n ∷ ts) ≡ false
not_brace t n [] e = refl
not_brace t n (u ∷ ts) e = rw e (third (just kind.Struct t.kind) (just kind.Word n.kind))

-- where the second isn't a name
second : (a b : Bool) → (a && false && b) ≡ false
second true b = refl
second false b = refl

-- they tell none
not_named : (t n : Placed) (ts : List Placed) → just kind.Word n.kind ≡ false → struct_is_next (t ∷ n ∷ ts) ≡ false
not_named t n [] e = refl
not_named t n (u ∷ ts) e = rw e (second (just kind.Struct t.kind) (just kind.OpenBrace u.kind))

-- where what comes next is of other kinds than `struct`
not_next : (is : Kinds) → Apart (just kind.Struct) is → (ts : List Placed) → IsTrue (next_is is ts) → struct_is_next ts ≡ false
not_next is apart [] h = refl
not_next is apart (t ∷ ts) h = not_struct t ts (apart-false (just kind.Struct) is apart t.kind h)

-- of a struct they tell that it comes
chooses : (s : Stretch) (a : ItemTree) (rest : List Placed) → struct_item s a → IsTrue (struct_is_next (tokens_of s ++ rest))
unfolding just
chooses s a rest (x, m, e) =
    rw (m.2, m.3.0, m.4.2, m.4.3.0, m.4.4.2, m.4.4.3.0, m.3.1, m.4.3.1, m.4.4.3.1) refl

-- the first words of a type, where no brace comes behind them
base_three : (s : Stretch) (b : BaseType) (rest : List Placed) → base 0 s b → next_is (just kind.OpenBrace) rest ≡ false → struct_is_next (tokens_of s ++ rest) ≡ false
unfolding just
base_three s b rest (inl x) ends = rw x.1.0 (not_struct x.0 rest (other_kind (just kind.Struct) kind.Int x.0.kind x.1.1 refl))
base_three s b rest (inr (inl x)) ends =
    rw (x.1.2, x.1.3.0) (not_struct x.0.0 (tokens_of x.1.1 ++ rest) (other_kind (just kind.Struct) kind.Unsigned x.0.0.kind x.1.3.1 refl))
base_three s b rest (inr (inr (inl x))) ends = rw x.1.0 (not_struct x.0 rest (other_kind (just kind.Struct) kind.Void x.0.kind x.1.1 refl))
base_three s b rest (inr (inr (inr x))) ends = rw (x.1.2, x.1.3.0, x.1.4.0) (not_brace x.0.0 x.0.1 rest ends)

-- of an item without a word before it they tell no struct
bare_three : (left : ℕ) (bound : ℕ) (s : Stretch) (a : ItemTree) (rest : List Placed) → bare bound s a → struct_is_next (tokens_of s ++ rest) ≡ false
unfolding just
bare_three left bound s a rest (x, m, e) =
    let ends = follows_shape (just kind.OpenBrace) none (reads_named (reads_tail left bound)).shape (apart_by (just kind.OpenBrace) starred refl (λ v u. refl)) m.1 x.1 rest m.4 (next_none rest) in
    rw (m.2, tokens_regroup m.0 m.1 rest) (base_three m.0 x.0 (tokens_of m.1 ++ rest) m.3 ends)

-- nor of a function with one
moded_three : (bound : ℕ) (s : Stretch) (a : ItemTree) (rest : List Placed) → moded bound s a → struct_is_next (tokens_of s ++ rest) ≡ false
unfolding just
moded_three bound s a rest (x, m, e) =
    rw (m.2, m.3.0) (not_struct x.0.0 (tokens_of m.1 ++ rest) (apart-false (just kind.Struct) (tells mode_told) (apart_by (just kind.Struct) (tells mode_told) refl (λ v u. refl)) x.0.0.kind (rw m.3.1 refl)))

-- of the others they tell none
clears : (left : ℕ) (bound : ℕ) (s : Stretch) (a : ItemTree) (rest : List Placed) → words bound s a → struct_is_next (tokens_of s ++ rest) ≡ false
unfolding just
clears left bound s a rest n = elim (words_cases bound s a n) [
  | inl w ↦ not_next (tells sharing_told) (apart_by (just kind.Struct) (tells sharing_told) refl (λ v u. refl)) (tokens_of s ++ rest) (w.1 rest)
  | inr (inl m) ↦ moded_three bound s a rest m
  | inr (inr m) ↦ bare_three left bound s a rest m
]

-- ---- behind `struct` and a name

-- stars, a name and what stands behind it
abbrev Behind : Type 0
Behind = List Placed × (Placed × Tail)

-- how that is read
abbrev read_behind : (left : ℕ) → Reader Behind
read_behind left = repeated (just kind.Star) (expect kind.Star) and expect kind.Word and read_tail (inner (suc (suc left))) (body_within left)

-- an item that begins with `struct` and a name
abbrev item_by : Placed → Members ⊎ Behind → ItemTree
item_by n (inl k) = StructItem (name n) (joined_lists (k.1.0 ∷ k.1.1.0))
item_by n (inr w) = made_of (Struct (name n)) (length w.0) (name w.1.0) w.1.1

-- what stands behind them
abbrev read_either : (left : ℕ) → Reader (Members ⊎ Behind)
read_either left = by_next (just kind.OpenBrace) (giving (λ k. inl k) read_members) (giving (λ w. inr w) (read_behind left))

-- from the name on
abbrev read_from_name : (left : ℕ) → Reader ItemTree
read_from_name left = giving (λ x. item_by x.0 x.1) (expect kind.Word and read_either left)

-- it is read exactly from the name on
reads_from_name : (left : ℕ) (bound : ℕ)
    → IsRead (suc (suc left)) (making (λ x. item_by x.0 x.1) (token 0 kind.Word then (making {B = Members ⊎ Behind} (λ k. inl k) members or making (λ w. inr w) (named (tail bound)))))
    (read_from_name left) 0 (just kind.Word) none (has_room left bound)
unfolding just
reads_from_name left bound =
    reads_making _ (reads_then (reads_token 0 kind.Word (omega arith))
    (reads_wider none (λ k h. h)
    (reads_or (reads_making _ reads_members) (reads_making _ (reads_named (reads_tail left bound))) (apart_by (just kind.OpenBrace) starred refl (λ v u. refl))))
    (none_apart (just kind.OpenBrace ∪ starred)))

-- a name, and what another reader reads behind it
abbrev name_then : {A C : Type 0} → Reader A → (Placed → A → C) → Reader C
name_then K f ts = after (expect kind.Word ts) (λ n rest. after (K rest) (λ k more. Ok (f n k, more)))

-- a struct is read by its name and what stands behind it
struct_then : {A C : Type 0} (K : Reader A) (f : Placed × (Placed × A) → C) (t : Placed) (ts : List Placed) → IsTrue (just kind.Struct t.kind)
    → giving f (expect kind.Struct and expect kind.Word and K) (t ∷ ts) ≡ name_then K (λ n k. f (t, (n, k))) ts
struct_then {A} {C} K f t ts h = rw (h, expect) (by (expect kind.Word ts))
  where
    -- what is left where `struct` was read
    whole : Answer Placed → Answer C
    whole name =
        let rest : Answer (Placed × A) = after name (λ n rest. after (K rest) (λ k more. Ok ((n, k), more))) in
        let both : Answer (Placed × (Placed × A)) = after rest (λ b more. Ok ((t, b), more)) in
        after both (λ x more. Ok (f x, more))

    made : (n : Placed) (rest : List Placed) (answer : Answer A) → K rest ≡ answer → whole (Ok (n, rest)) ≡ after (K rest) (λ k more. Ok (f (t, (n, k)), more))
    made n rest (Ok x) e = rw e refl
    made n rest (Err stop) e = rw e refl

    by : (answer : Answer Placed) → whole answer ≡ after answer (λ n rest. after (K rest) (λ k more. Ok (f (t, (n, k)), more)))
    by (Ok (n, rest)) = made n rest (K rest) refl
    by (Err stop) = refl

-- a kind that is `struct` is none of another set
no_other : (is : Kinds) → Apart (just kind.Struct) is → (t : Placed) → IsTrue (just kind.Struct t.kind) → is t.kind ≡ false
no_other is apart t h = apart-false is (just kind.Struct) (λ k i j. apart k j i) t.kind h

-- so is what begins with such a type
base_then : {A C : Type 0} (K : Reader A) (f : BaseType × A → C) (t : Placed) (ts : List Placed) → IsTrue (just kind.Struct t.kind)
    → giving f (read_base and K) (t ∷ ts) ≡ name_then K (λ n k. f (Struct (name n), k)) ts
unfolding just
base_then {A} {C} K f t ts h =
    rw (
      no_other (just kind.Int) (apart_by (just kind.Struct) (just kind.Int) refl (λ v u. refl)) t h,
      no_other (just kind.Unsigned) (apart_by (just kind.Struct) (just kind.Unsigned) refl (λ v u. refl)) t h,
      no_other (just kind.Void) (apart_by (just kind.Struct) (just kind.Void) refl (λ v u. refl)) t h,
      h,
      expect,
    ) (by (expect kind.Word ts))
  where
    -- what is left where `struct` was read
    whole : Answer Placed → Answer C
    whole name_read =
        let words : Answer (Placed × Placed) = after name_read (λ n more. Ok ((t, n), more)) in
        let type : Answer BaseType = after words (λ x more. Ok (Struct (name x.1), more)) in
        let both : Answer (BaseType × A) = after type (λ b rest. after (K rest) (λ k more. Ok ((b, k), more))) in
        after both (λ x more. Ok (f x, more))

    made : (n : Placed) (rest : List Placed) (answer : Answer A) → K rest ≡ answer → whole (Ok (n, rest)) ≡ after (K rest) (λ k more. Ok (f (Struct (name n), k), more))
    made n rest (Ok x) e = rw e refl
    made n rest (Err stop) e = rw e refl

    by : (answer : Answer Placed) → whole answer ≡ after answer (λ n rest. after (K rest) (λ k more. Ok (f (Struct (name n), k), more)))
    by (Ok (n, rest)) = made n rest (K rest) refl
    by (Err stop) = refl

-- what is read from `struct` on
struct_read : (t : Placed) (ts : List Placed) → IsTrue (just kind.Struct t.kind)
    → read_struct (t ∷ ts) ≡ name_then read_members (λ n k. item_by n (inl k)) ts
unfolding read_struct
struct_read t ts h = struct_then read_members (λ x. StructItem (name x.1.0) (joined_lists (x.1.1.1.0 ∷ x.1.1.1.1.0))) t ts h

-- an item that is no struct
words_read : (left : ℕ) (t : Placed) (ts : List Placed) → IsTrue (just kind.Struct t.kind)
    → read_words left (t ∷ ts) ≡ name_then (read_behind left) (λ n w. item_by n (inr w)) ts
unfolding read_bare just
words_read left t ts h =
    by_next-no (tells sharing_told) (giving VariablesItem (read_variables (inner (suc (suc left))))) (read_typed left) (t ∷ ts) (no_other (tells sharing_told) (apart_by (just kind.Struct) (tells sharing_told) refl (λ v u. refl)) t h)
    ∙ by_next-no (tells mode_told) (read_moded (body_within left)) (read_bare (inner (suc (suc left))) (body_within left)) (t ∷ ts) (no_other (tells mode_told) (apart_by (just kind.Struct) (tells mode_told) refl (λ v u. refl)) t h)
    ∙ base_then (read_behind left) (λ x. made_of x.0 (length x.1.0) (name x.1.1.0) x.1.1.1) t ts h

-- what is read from the name on, where what stands behind it is known
from_name : (left : ℕ) {A : Type 0} (K : Reader A) (f : A → Members ⊎ Behind) (n : Placed) (ts : List Placed) → IsTrue (just kind.Word n.kind)
    → read_either left ts ≡ giving f K ts → read_from_name left (n ∷ ts) ≡ name_then K (λ n k. item_by n (f k)) (n ∷ ts)
from_name left {A} K f n ts h e = rw (h, expect) (by (K ts) refl)
  where
    whole : Answer (Members ⊎ Behind) → Answer ItemTree
    whole answer =
        let both : Answer (Placed × (Members ⊎ Behind)) = after answer (λ k more. Ok ((n, k), more)) in
        after both (λ x more. Ok (item_by x.0 x.1, more))

    by : (answer : Answer A) → K ts ≡ answer → whole (read_either left ts) ≡ after (K ts) (λ k more. Ok (item_by n (f k), more))
    by (Ok x) d = rw (e, d) refl
    by (Err stop) d = rw (e, d) refl

-- a struct, or an item that is none
read_any : (left : ℕ) → Reader ItemTree
read_any left ts = either (struct_is_next ts) read_struct (read_words left) ts

-- where three tokens say that a struct comes
three_true : (t n : Placed) (ts : List Placed) → IsTrue (just kind.Struct t.kind) → IsTrue (just kind.Word n.kind) → IsTrue (next_is (just kind.OpenBrace) ts) → IsTrue (struct_is_next (t ∷ n ∷ ts))
three_true t n [] h i j = cc
three_true t n (u ∷ ts) h i j = rw (h, i, j) refl

-- from `struct` on items are read by what stands behind the name
from_struct : (left : ℕ) (t : Placed) → IsTrue (just kind.Struct t.kind) → (ts : List Placed) → read_any left (t ∷ ts) ≡ read_from_name left ts
unfolding read_any
from_struct left t h [] = words_read left t [] h
from_struct left t h (n ∷ ts) = by_name (just kind.Word n.kind) refl
  where
    by_brace : IsTrue (just kind.Word n.kind) → (b : Bool) → next_is (just kind.OpenBrace) ts ≡ b → read_any left (t ∷ n ∷ ts) ≡ read_from_name left (n ∷ ts)
    by_brace i true j =
        rw (three_true t n ts h i j) (struct_read t (n ∷ ts) h
        ∙ sym (from_name left read_members (λ k. inl k) n ts i (by_next-yes (just kind.OpenBrace) (giving (λ k. inl k) read_members) (giving (λ w. inr w) (read_behind left)) ts j)))
    by_brace i false j =
        rw (not_brace t n ts j) (words_read left t (n ∷ ts) h
        ∙ sym (from_name left (read_behind left) (λ w. inr w) n ts i (by_next-no (just kind.OpenBrace) (giving (λ k. inl k) read_members) (giving (λ w. inr w) (read_behind left)) ts j)))

    by_name : (b : Bool) → just kind.Word n.kind ≡ b → read_any left (t ∷ n ∷ ts) ≡ read_from_name left (n ∷ ts)
    by_name true i = by_brace i (next_is (just kind.OpenBrace) ts) refl
    by_name false i = rw (not_named t n ts i) (words_read left t (n ∷ ts) h ∙ rw (i, expect) refl)

-- each answer rests on the tokens up to the one that it names
any_local : (left : ℕ) (bound : ℕ) → has_room left bound → (most : ℕ) → IsLocal most (read_any left)
unfolding read_any read_bare
any_local left bound r most [] fits = tt
any_local left bound r most (t ∷ ts) fits = by (just kind.Struct t.kind) refl
  where
    by : (b : Bool) → just kind.Struct t.kind ≡ b → Local most (read_any left) (t ∷ ts) (read_any left (t ∷ ts))
    by true h = local_behind most (t ∷ []) (read_any left) (read_from_name left) (from_struct left t h) (((reads_from_name left bound).exact.exact most).local r) ts fits
    by false h =
        let other : (others : List Placed) → read_any left (t ∷ others) ≡ read_words left (t ∷ others) = λ others. rw (not_struct t others h) refl in
        rw (other ts) (local_like most (read_words left) (read_any left) t ts (read_words left (t ∷ ts)) other (((reads_words left bound).exact.exact most).local r (t ∷ ts) fits))

-- ---- items

-- the kinds that begin a struct or another item
abbrev begins_any : Kinds
begins_any = just kind.Struct ∪ begins_item

-- an item is read exactly
pub reads_item : (left : ℕ) (bound : ℕ) → IsRead (suc (suc left)) (item bound) (read_item (inner (suc (suc left))) (body_within left)) 0 begins_item none (has_room left bound)
unfolding read_item read_any just
reads_item left bound =
    let v = reads_struct in
    let w = reads_words left bound in
    reads_kinds begins_item (within_by begins_any begins_item refl (λ v u. refl)) (within_by begins_item begins_any refl (λ v u. refl))
    (reads_wider none (λ k h. h)
    (record {
      shape = shape_or v.shape w.shape;
      exact = exact_test struct_is_next v.exact w.exact chooses (clears left bound) (any_local left bound);
    }))

-- ---- any number of them

-- how items are read where so many levels and two more may be open
abbrev pub items_within : ℕ → Reader (List ItemTree)
items_within left = repeated begins_item (read_item (inner (suc (suc left))) (body_within left))

-- they are read exactly, however many that are
pub faithful_within : (left : ℕ) → Faithful (suc (suc left)) Items (items_within left) begins_item (has_room left)
faithful_within left = record {
  enough = left + 4;
  has_room = omega arith;
  exact = λ bound. exact_wider begins_item (λ k h. h) (reads_many (reads_item left bound) (none_apart begins_item)).exact;
}

-- in a text all levels may be
pub faithful_items : Faithful LEVELS Items read_items begins_item (has_room (LEVELS - 2))
unfolding read_items
faithful_items = faithful_within (LEVELS - 2)
