-- What is left, by what stands before it, is shared where the whole is.
use Rattle.std.proofs.Common.{◌≡◌, map, drop}
use Rattle.fk_syntax.specs.Tree.{links_of, suffixes_of}
use Rattle.fk_syntax.specs.View.{link_of, suffix_of}
use Rattle.fk_sharing_class.specs.Things.{thing_in}
use Rattle.fk_sharing_class.specs.Class.{is_chain_shared, is_postfix_shared}
use Rattle.fk_sharing_class.proofs.class.+expression.Given as goal

abbrev pub invariant-is_chain_shared-loop-link : goal.invariant-is_chain_shared-loop-link
invariant-is_chain_shared-loop-link l = is_chain_shared (thing_in l.names) l.shared (links_of (map link_of (drop l.link-index l.links))) ≡ is_chain_shared (thing_in l.names) l.first (links_of (map link_of l.links))

abbrev pub invariant-is_postfix_shared-loop-suffix : goal.invariant-is_postfix_shared-loop-suffix
invariant-is_postfix_shared-loop-suffix l = is_postfix_shared (thing_in l.names) l.shared l.call (suffixes_of (map suffix_of (drop l.suffix-index l.suffixes))) ≡ is_postfix_shared (thing_in l.names) l.whole l.called (suffixes_of (map suffix_of l.suffixes))
