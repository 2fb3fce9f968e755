-- The definitions at trees that are written out.
use Rattle.std.proofs.Common.{◌≡◌, true, false, [], ◌∷◌, Some, None, refl}
use Rattle.fk_tree.specs.declared.node.Kind.TheVariants.{Asynchronous}
use Rattle.fk_tree.specs.Tree.{Tree, root, begin, split, shrink, finish, farm, single, resume, members, kind, ready, runs, parts_by, stays_by}

-- seven processors in three parts, by their rest
abbrev thirds : Tree
thirds = split 1 3 (parts_by 3 (0 ∷ 1 ∷ 2 ∷ 3 ∷ 4 ∷ 5 ∷ 6 ∷ []) (0 ∷ 1 ∷ 2 ∷ 0 ∷ 1 ∷ 2 ∷ 0 ∷ [])) (begin 7 (root 7))

first_third : members thirds 2 ≡ 0 ∷ 3 ∷ 6 ∷ []
first_third = refl

second_third : members thirds 3 ≡ 1 ∷ 4 ∷ []
second_third = refl

last_third : members thirds 4 ≡ 2 ∷ 5 ∷ []
last_third = refl

whole_group : members thirds 1 ≡ 0 ∷ 1 ∷ 2 ∷ 3 ∷ 4 ∷ 5 ∷ 6 ∷ []
whole_group = refl

-- of three processors one waits, and the second of two parts is empty
abbrev halves : Tree
halves = split 1 2 (parts_by 2 (0 ∷ 1 ∷ 2 ∷ []) (0 ∷ 5 ∷ 0 ∷ [])) (begin 3 (root 3))

empty_part : halves.nodes 3 ≡ None
empty_part = refl

one_waits : halves.places 1 ≡ 1
one_waits = refl

one_is_in_a_part : halves.places 2 ≡ 2
one_is_in_a_part = refl

not_ready : ready halves 1 ≡ false
not_ready = refl

-- a body in a part is named by the part's number
body_of_part : kind (farm 2 halves) 2 ≡ Some (Asynchronous false)
body_of_part = refl

members_in_body : members (farm 2 halves) 2 ≡ 0 ∷ 2 ∷ []
members_in_body = refl

lowest_alone : runs (Asynchronous true) (members (single 2 halves) 2) ≡ 0 ∷ []
lowest_alone = refl

-- all leave the part
abbrev all_left : Tree
all_left = shrink 2 (stays_by (0 ∷ 2 ∷ []) (false ∷ false ∷ [])) halves

ended_part : all_left.nodes 2 ≡ None
ended_part = refl

waits_at_parent : all_left.places 2 ≡ 1
waits_at_parent = refl

ready_parent : ready all_left 1 ≡ true
ready_parent = refl

-- the group goes on and ends, and then the root goes on
ready_root : ready (finish 1 (resume 1 all_left)) 0 ≡ true
ready_root = refl

root_goes_on : kind (resume 0 (finish 1 (resume 1 all_left))) 0 ≡ Some (Asynchronous false)
root_goes_on = refl

-- a group of nobody has ended at once
nobody : ready (begin 0 (root 3)) 0 ≡ true
nobody = refl

number_of_nobody : (begin 0 (root 3)).nodes 1 ≡ None
number_of_nobody = refl
