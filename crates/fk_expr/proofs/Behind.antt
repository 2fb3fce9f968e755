-- What is read of the parts that join operands.
use Rattle.std.proofs.Common.{◌≡◌, ℕ, zero, suc, ◌+◌, ◌-◌, ◌<◌, ◌≤◌, List, [], ◌∷◌, ◌++◌, Option, Some, None, true, Result, Ok, map, refl, sym, ap, subst, ◌∙◌, arith, append_assoc}
use Rattle.std.proofs.lemmas.List.{map-append}
use Rattle.fk_syntax.specs.declared.place.Spot.{Spot}
use Rattle.fk_syntax.specs.declared.sign.Sign.{Sign}
use Rattle.fk_syntax.specs.declared.sign.Sign.TheVariants as sign
use Rattle.fk_syntax.specs.declared.expression.Expr.{Expr}
use Rattle.fk_syntax.specs.Tree.{Tree, LinkTree}
use Rattle.fk_syntax.specs.View.{tree_of}
use Rattle.fk_parse_combinators.specs.Languages.{spot, Placed}
use Rattle.fk_expr.specs.Grammar.{operator_at, linked, comma_linked, chained, suffixed, chosen, assigned, listed}
use Rattle.fk_expr.specs.Kinds.{assignment_told}
use Rattle.fk_parse_combinators.specs.declared.fault.SyntaxFault.{SyntaxFault}
use Rattle.fk_parse_combinators.specs.Readers.{after, giving, ◌and◌, either, next_is, tells, expect, expect_told, repeated}
use Rattle.fk_expr.specs.Reading.{Readers, begins_expression, read_primary, read_suffixes, read_postfix, read_prefix, read_joined, read_branches, read_choice, read_assigned, read_assignment, read_comma_link, read_comma_links, read_comma, read_next_argument, read_arguments}
use Rattle.fk_expr.specs.Ahead.{read_link, read_links, NoOperator}
use Rattle.fk_parse_combinators.specs.Gives.{Gives, Makes, Halts}
use Rattle.fk_parse_combinators.proofs.Halting.{halts_after}
use Rattle.fk_parse_combinators.proofs.Repeats.{repeated_none}
use Rattle.fk_parse_combinators.specs.Kinds.{just}
use Rattle.fk_lex.specs.declared.token.TokenKind.TheVariants as kind
use Rattle.fk_parse_combinators.proofs.Behind.{behind_reads, behind_halts}
use Rattle.fk_expr.proofs.Completing.{behind_gives, optional_gives}

-- ---- links

link_made : (l : LinkTree) (s : Spot) (g : Sign) (r : Tree) → l.spot ≡ s → l.sign ≡ g → l.right ≡ r → record { spot = s; sign = g; right = r } ≡ l
link_made l s g r e f h = rw (← e, ← f, ← h) refl

pub comma_link_reads : (i : Option Readers) (ahead mid rest : List Placed) (s : Placed) (e : Tree) (l : LinkTree)
    → expect kind.Comma ahead ≡ Ok (s, mid) → read_assignment i mid ≡ Ok (e, rest) → l.spot ≡ spot s → l.sign ≡ sign.Comma → l.right ≡ e
    → read_comma_link i ahead ≡ Ok (l, rest)
comma_link_reads i ahead mid rest s e l g h a b c =
    behind_reads comma_linked (expect kind.Comma) (read_assignment i) ahead mid rest s e g h
    ∙ ap (λ l. Ok (l, rest)) (link_made l _ _ _ a b c)

pub comma_link_halts : (i : Option Readers) (ahead mid : List Placed) (s : Placed) (fault : SyntaxFault) (now : List Placed)
    → expect kind.Comma ahead ≡ Ok (s, mid) → Halts (read_assignment i mid) fault now → Halts (read_comma_link i ahead) fault now
comma_link_halts i ahead mid s fault now g h =
    behind_halts comma_linked (expect kind.Comma) (read_assignment i) ahead mid s fault now g h

pub link_reads : (i : Option Readers) (looseness tighter : ℕ) (ahead mid rest : List Placed) (s : Placed × Sign) (e : Tree) (l : LinkTree)
    → expect_told (operator_at looseness) ahead ≡ Ok (s, mid) → read_joined i tighter mid ≡ Ok (e, rest) → l.spot ≡ spot s.0 → l.sign ≡ s.1 → l.right ≡ e
    → read_link i looseness tighter ahead ≡ Ok (l, rest)
link_reads i looseness tighter ahead mid rest s e l g h a b c =
    behind_reads linked (expect_told (operator_at looseness)) (read_joined i tighter) ahead mid rest s e g h
    ∙ ap (λ l. Ok (l, rest)) (link_made l _ _ _ a b c)

-- ---- a first part, and what comes behind it

pub comma_gives : (i : Option Readers) (ts mid now : List Placed) (first : Tree) (r : Result Expr SyntaxFault)
    → read_assignment i ts ≡ Ok (first, mid) → Makes (chained first) tree_of r now (read_comma_links i mid) → Gives tree_of r now (read_comma i ts)
unfolding read_comma
comma_gives i ts mid now first r g h = behind_gives (λ x. chained x.0 x.1) (read_assignment i) (read_comma_links i) tree_of ts mid now first r g h

pub postfix_gives : (i : Option Readers) (ts mid now : List Placed) (whole : Tree) (r : Result Expr SyntaxFault)
    → read_primary i ts ≡ Ok (whole, mid) → Makes (suffixed whole) tree_of r now (read_suffixes i mid) → Gives tree_of r now (read_postfix i ts)
unfolding read_postfix
postfix_gives i ts mid now whole r g h = behind_gives (λ x. suffixed x.0 x.1) (read_primary i) (read_suffixes i) tree_of ts mid now whole r g h

pub assignment_gives : (i : Option Readers) (ts mid now : List Placed) (target : Tree) (r : Result Expr SyntaxFault)
    → read_choice i ts ≡ Ok (target, mid) → next_is (tells assignment_told) mid ≡ true → Makes (λ x. assigned target (Some x)) tree_of r now (read_assigned i mid)
    → Gives tree_of r now (read_assignment i ts)
unfolding read_assignment
assignment_gives i ts mid now target r g n h =
    optional_gives (λ x. assigned x.0 x.1) (read_choice i) (tells assignment_told) (read_assigned i) tree_of ts mid now target r g n h

pub choice_gives : (i : Option Readers) (ts mid now : List Placed) (condition : Tree) (r : Result Expr SyntaxFault)
    → read_joined i 10 ts ≡ Ok (condition, mid) → next_is (just kind.Question) mid ≡ true → Makes (λ x. chosen condition (Some x)) tree_of r now (read_branches i mid)
    → Gives tree_of r now (read_choice i ts)
unfolding read_choice
choice_gives i ts mid now condition r g n h =
    optional_gives (λ x. chosen x.0 x.1) (read_joined i 10) (just kind.Question) (read_branches i) tree_of ts mid now condition r g n h

pub arguments_reads : (R : Readers) (ts mid rest : List Placed) (first : Tree) (others all : List Tree)
    → next_is begins_expression ts ≡ true → R.assignment ts ≡ Ok (first, mid) → repeated (just kind.Comma) (read_next_argument R) mid ≡ Ok (others, rest)
    → all ≡ first ∷ others → read_arguments R ts ≡ Ok (all, rest)
unfolding read_arguments
arguments_reads R ts mid rest first others all n g h a =
    ap (λ b. giving listed (λ ts. either b (giving Some (R.assignment and repeated (just kind.Comma) (read_next_argument R))) (λ ts. Ok (None, ts)) ts) ts) n
    ∙ ap (λ r. after r (λ a rest. Ok (listed a, rest))) (behind_reads Some R.assignment (repeated (just kind.Comma) (read_next_argument R)) ts mid rest first others g h)
    ∙ ap (λ l. Ok (l, rest)) (sym a)

pub arguments_halts : (R : Readers) (ts mid : List Placed) (first : Tree) (fault : SyntaxFault) (now : List Placed)
    → next_is begins_expression ts ≡ true → R.assignment ts ≡ Ok (first, mid) → Halts (repeated (just kind.Comma) (read_next_argument R) mid) fault now
    → Halts (read_arguments R ts) fault now
unfolding read_arguments
arguments_halts R ts mid first fault now n g h =
    subst (λ b. Halts (giving listed (λ ts. either b (giving Some (R.assignment and repeated (just kind.Comma) (read_next_argument R))) (λ ts. Ok (None, ts)) ts) ts) fault now) (sym n)
    (halts_after (giving Some (R.assignment and repeated (just kind.Comma) (read_next_argument R)) ts) (λ a rest. Ok (listed a, rest)) fault now
    (behind_halts Some R.assignment (repeated (just kind.Comma) (read_next_argument R)) ts mid first fault now g h))

-- one more behind the first ones of a list
pub more_behind : {X A : Type 0} (view : X → A) (items more : List X) (x : X) (start others : List A)
    → more ≡ items ++ x ∷ [] → map view items ≡ start ++ others → map view more ≡ start ++ (others ++ view x ∷ [])
more_behind view items more x start others e h = ap (map view) e ∙ map-append view items (x ∷ []) ∙ ap (λ l. l ++ view x ∷ []) h ∙ append_assoc start others (view x ∷ [])

-- ---- operators, level by level

tightest : (i : Option Readers) (ts : List Placed) → read_joined i 0 ts ≡ read_prefix i ts
unfolding read_joined
tightest i ts = refl

pub joined_start : (i : Option Readers) (ts rest : List Placed) (e : Tree) → read_prefix i ts ≡ Ok (e, rest) → read_joined i 0 ts ≡ Ok (e, rest)
joined_start i ts rest e h = tightest i ts ∙ h

looser_reads : (i : Option Readers) (tighter : ℕ) (ts mid rest : List Placed) (e : Tree) (links : List LinkTree)
    → read_joined i tighter ts ≡ Ok (e, mid) → read_links i (suc tighter) tighter mid ≡ Ok (links, rest) → read_joined i (suc tighter) ts ≡ Ok (chained e links, rest)
unfolding read_joined
looser_reads i tighter ts mid rest e links g h =
    behind_reads (λ x. chained x.0 x.1) (read_joined i tighter) (read_links i (suc tighter) tighter) ts mid rest e links g h

looser_halts : (i : Option Readers) (tighter : ℕ) (ts mid : List Placed) (e : Tree) (fault : SyntaxFault) (now : List Placed)
    → read_joined i tighter ts ≡ Ok (e, mid) → Halts (read_links i (suc tighter) tighter mid) fault now → Halts (read_joined i (suc tighter) ts) fault now
unfolding read_joined
looser_halts i tighter ts mid e fault now g h =
    behind_halts (λ x. chained x.0 x.1) (read_joined i tighter) (read_links i (suc tighter) tighter) ts mid e fault now g h

halts_looser : (i : Option Readers) (tighter : ℕ) (ts : List Placed) (fault : SyntaxFault) (now : List Placed)
    → Halts (read_joined i tighter ts) fault now → Halts (read_joined i (suc tighter) ts) fault now
unfolding read_joined
halts_looser i tighter ts fault now h =
    halts_after ((read_joined i tighter and read_links i (suc tighter) tighter) ts) (λ x rest. Ok (chained x.0 x.1, rest)) fault now
    (halts_after (read_joined i tighter ts) (λ e mid. after (read_links i (suc tighter) tighter mid) (λ links rest. Ok ((e, links), rest))) fault now h)

passes_by : (i : Option Readers) (tighter more : ℕ) (ts mid : List Placed) (e : Tree)
    → NoOperator tighter (more + tighter + 1) mid → read_joined i tighter ts ≡ Ok (e, mid) → read_joined i (more + tighter) ts ≡ Ok (e, mid)
passes_by i tighter zero ts mid e none h = subst (λ n. read_joined i n ts ≡ Ok (e, mid)) (omega arith) h
passes_by i tighter (suc more) ts mid e none h =
    let before : read_joined i (more + tighter) ts ≡ Ok (e, mid) = passes_by i tighter more ts mid e (λ n g k. none n g (omega arith)) h in
    let next : suc (more + tighter) ≡ suc more + tighter = omega arith in
    subst (λ n. read_joined i n ts ≡ Ok (e, mid)) next
    (looser_reads i (more + tighter) ts mid mid e [] before (repeated_none (tells (operator_at (suc (more + tighter)))) (read_link i (suc (more + tighter)) (more + tighter)) mid (none (suc (more + tighter)) (omega arith) (omega arith))))

-- levels whose operators don't come next are passed over
pub joined_passes : (i : Option Readers) (tighter looseness : ℕ) (ts mid : List Placed) (e : Tree)
    → tighter ≤ looseness → NoOperator tighter (looseness + 1) mid → read_joined i tighter ts ≡ Ok (e, mid) → read_joined i looseness ts ≡ Ok (e, mid)
joined_passes i tighter looseness ts mid e le none h =
    let n : (looseness - tighter) + tighter ≡ looseness = omega arith in
    subst (λ n. read_joined i n ts ≡ Ok (e, mid)) n (passes_by i tighter (looseness - tighter) ts mid e (λ l g k. none l g (omega (arith, k, n))) h)

halts_by : (i : Option Readers) (tighter more : ℕ) (ts : List Placed) (fault : SyntaxFault) (now : List Placed)
    → Halts (read_joined i tighter ts) fault now → Halts (read_joined i (more + tighter) ts) fault now
halts_by i tighter zero ts fault now h = subst (λ n. Halts (read_joined i n ts) fault now) (omega arith) h
halts_by i tighter (suc more) ts fault now h =
    let next : suc (more + tighter) ≡ suc more + tighter = omega arith in
    subst (λ n. Halts (read_joined i n ts) fault now) next (halts_looser i (more + tighter) ts fault now (halts_by i tighter more ts fault now h))

-- where a tighter level stops, the looser ones do
pub joined_halts : (i : Option Readers) (tighter looseness : ℕ) (ts : List Placed) (fault : SyntaxFault) (now : List Placed)
    → tighter ≤ looseness → Halts (read_joined i tighter ts) fault now → Halts (read_joined i looseness ts) fault now
joined_halts i tighter looseness ts fault now le h =
    let n : (looseness - tighter) + tighter ≡ looseness = omega arith in
    subst (λ n. Halts (read_joined i n ts) fault now) n (halts_by i tighter (looseness - tighter) ts fault now h)

pub prefix_halts : (i : Option Readers) (looseness : ℕ) (ts : List Placed) (fault : SyntaxFault) (now : List Placed)
    → Halts (read_prefix i ts) fault now → Halts (read_joined i looseness ts) fault now
prefix_halts i looseness ts fault now h =
    joined_halts i 0 looseness ts fault now (omega arith) (subst (λ a. Halts a fault now) (sym (tightest i ts)) h)

-- the levels tighter than an operator that comes next are passed over, and those that it joins are read
pub level_reads : (i : Option Readers) (tighter next : ℕ) (ts mid rest : List Placed) (e : Tree) (links : List LinkTree)
    → tighter < next → NoOperator tighter next mid → read_joined i tighter ts ≡ Ok (e, mid) → read_links i next (next - 1) mid ≡ Ok (links, rest)
    → read_joined i next ts ≡ Ok (chained e links, rest)
level_reads i tighter next ts mid rest e links less none g h =
    let n : suc (next - 1) ≡ next = omega arith in
    let before : read_joined i (next - 1) ts ≡ Ok (e, mid) = joined_passes i tighter (next - 1) ts mid e (omega arith) (λ l a b. none l a (omega (arith, b, n))) g in
    subst (λ m. read_joined i m ts ≡ Ok (chained e links, rest)) n
    (looser_reads i (next - 1) ts mid rest e links before (subst (λ m. read_links i m (next - 1) mid ≡ Ok (links, rest)) (sym n) h))

pub level_halts : (i : Option Readers) (tighter next looseness : ℕ) (ts mid : List Placed) (e : Tree) (fault : SyntaxFault) (now : List Placed)
    → tighter < next → next ≤ looseness → NoOperator tighter next mid → read_joined i tighter ts ≡ Ok (e, mid) → Halts (read_links i next (next - 1) mid) fault now
    → Halts (read_joined i looseness ts) fault now
level_halts i tighter next looseness ts mid e fault now less le none g h =
    let n : suc (next - 1) ≡ next = omega arith in
    let before : read_joined i (next - 1) ts ≡ Ok (e, mid) = joined_passes i tighter (next - 1) ts mid e (omega arith) (λ l a b. none l a (omega (arith, b, n))) g in
    joined_halts i next looseness ts fault now le
    (subst (λ m. Halts (read_joined i m ts) fault now) n
    (looser_halts i (next - 1) ts mid e fault now before (subst (λ m. Halts (read_links i m (next - 1) mid) fault now) (sym n) h)))
