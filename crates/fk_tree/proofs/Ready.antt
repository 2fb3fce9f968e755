-- A node is ready where it waits and counts no part that has not ended.
use Rattle.std.proofs.Common.{◌≡◌, ◌≢◌, ℕ, ◌≤◌, ◌==◌, ◌&&◌, false, cond, List, [], ◌∷◌, length, Option, Some, None, refl, sym, ap, ◌∙◌, ⊎_elim, arith, nat_eq}
use Rattle.std.specs.HashMap.{get}
use Rattle.std.specs.Map.{lookup}
use Rattle.std.proofs.lemmas.Bool.{cases_eq, cond-true, cond-false, eq-eqb, ne_eqb}
use Rattle.fk_tree.specs.declared.node.Kind.{Kind}
use Rattle.fk_tree.specs.declared.node.Kind.TheVariants.{Lockstep, Waiting, Asynchronous}
use Rattle.fk_tree.specs.declared.node.LiveNode.{LiveNode}
use Rattle.fk_tree.specs.Tree.{Tree, kind_of, is_waiting, is_ready, node_of, with_node, below}
use Rattle.fk_tree.specs.Seen.{Held, node_seen, nodes_seen, count_seen, count_of, is_ready_node}
use Rattle.fk_tree.proofs.Lists.{length-below}
use Rattle.fk_tree.proofs.Counts.{have_ended-living}

ready_kind : (t : Tree) (k : Kind) (living : ℕ) → living ≡ count_of t.nodes (Some k) → (is_waiting (Some k) && (living == 0)) ≡ is_ready t (Some k)
ready_kind t Lockstep living e = refl
ready_kind t (Waiting first parts) living e = ap (λ (n : ℕ). n == 0) e ∙ sym (have_ended-living t first parts)
ready_kind t (Asynchronous alone) living e = refl

pub ready_node : (t : Tree) (node : LiveNode) (o : Option LiveNode) → Some node ≡ o → count_seen o ≡ count_of t.nodes (kind_of (node_seen o))
    → is_ready_node node ≡ is_ready t (kind_of (node_seen o))
ready_node t node o e counted =
    let counted' : node.living ≡ count_of t.nodes (Some node.kind) = ap count_seen e ∙ counted ∙ ap (λ (x : Option LiveNode). count_of t.nodes (kind_of (node_seen x))) (sym e) in
    ready_kind t node.kind node.living counted' ∙ ap (λ (x : Option LiveNode). is_ready t (kind_of (node_seen x))) e

node-some : (ms : List ℕ) (q : ℕ) (k : Kind) → 1 ≤ length ms → Some (record { members = ms; parent = q; kind = k }) ≡ node_of ms q k
node-some [] q k le = absurd (omega arith)
node-some (m ∷ ms) q k le = refl

pub root_seen : (count : ℕ) (node : LiveNode) → 1 ≤ count → node.members.items ≡ below count [] → node.parent ≡ 0 → node.kind ≡ Asynchronous false
    → node_seen (Some node) ≡ node_of (below count []) 0 (Asynchronous false)
root_seen count node le members parent kind =
    let same : node_seen (Some node) ≡ Some (record { members = below count []; parent = 0; kind = Asynchronous false }) = cc in
    same ∙ node-some (below count []) 0 (Asynchronous false) (omega (arith, length-below count []))

-- the nodes of the root alone
pub root_held : (count : ℕ) (m n : Held) (node : LiveNode) → 1 ≤ count → m.entries ≡ []
    → node_seen (Some node) ≡ node_of (below count []) 0 (Asynchronous false)
    → ((i : ℕ) → get nat_eq n i ≡ cond (nat_eq 0 i) (Some node) (get nat_eq m i))
    → (i : ℕ) → nodes_seen n i ≡ with_node 0 (node_of (below count []) 0 (Asynchronous false)) (λ j. None) i
root_held count m n node le empty seen changed i =
    ⊎_elim
    (λ e.
    ap node_seen (changed i ∙ cond-true (nat_eq 0 i) (Some node) (get nat_eq m i) (eq-eqb 0 i e)) ∙ seen
    ∙ sym (cond-true (i == 0) (node_of (below count []) 0 (Asynchronous false)) None (eq-eqb i 0 (sym e))))
    (λ ne.
    let none : get nat_eq m i ≡ None = ap (λ (es : List (ℕ × LiveNode)). lookup (nat_eq i) es) empty in
    let ne' : i ≢ 0 = λ e. ne (sym e) in
    ap node_seen (changed i ∙ cond-false (nat_eq 0 i) (Some node) (get nat_eq m i) (ne_eqb 0 i ne) ∙ none)
    ∙ sym (cond-false (i == 0) (node_of (below count []) 0 (Asynchronous false)) None (ne_eqb i 0 ne')))
    (cases_eq 0 i)
