use Rattle.std.proofs.Common.{◌≡◌, ◌∙◌, ap, rules, nat_eq, filter}
use Rattle.std.specs.Map.{lookup}
use Rattle.std.proofs.lemmas.Map.Made.{filter_same_pairs}
use Rattle.fk_tree.specs.Seen.{node_seen, count_seen}
use Rattle.fk_tree.proofs.Forget.{Entries, is_kept, lookup-kept, lookup-dropped}
use Rattle.fk_tree.proofs.nodes.forget.Goals as goal

kept : (c : goal.After-retain) → c.retain.new.self.entries ≡ filter (is_kept c.args.first) c.args.nodes.now.entries
kept c = filter_same_pairs _ (is_kept c.args.first) _ (λ k v b w f' t. search rules) _ _ c.retain.ensures.filtered

pub returns-clause-before : goal.returns-clause-before
returns-clause-before c = λ i lt.
    ap node_seen (ap (λ (es : Entries). lookup (nat_eq i) es) (kept c) ∙ lookup-kept c.args.first i c.args.nodes.now.entries lt)

pub returns-clause-living : goal.returns-clause-living
returns-clause-living c = λ i lt.
    ap count_seen (ap (λ (es : Entries). lookup (nat_eq i) es) (kept c) ∙ lookup-kept c.args.first i c.args.nodes.now.entries lt)

pub returns-clause-after : goal.returns-clause-after
returns-clause-after c = λ i le.
    ap node_seen (ap (λ (es : Entries). lookup (nat_eq i) es) (kept c) ∙ lookup-dropped c.args.first i c.args.nodes.now.entries le)

pub returns-clause-idle : goal.returns-clause-idle
returns-clause-idle c = λ i le.
    ap count_seen (ap (λ (es : Entries). lookup (nat_eq i) es) (kept c) ∙ lookup-dropped c.args.first i c.args.nodes.now.entries le)
