-- The definitions, evaluated.
use Rattle.std.proofs.Common.{◌≡◌, ℕ, List, [], ◌∷◌, false, map, refl}
use Rattle.std.specs.Prelude.{◌==◌, if◌then◌else◌}
use Rattle.fk_sim_nodes.specs.Node.{Member, of_node}
use Rattle.fk_sim_nodes.specs.Whole.{first_of}
use Rattle.fk_sim_nodes.specs.OnePlace.{values_for, last_or, sum_from, each_finds}

of_the_second_node : of_node {A = ℕ} 2 (1 ∷ 2 ∷ 0 ∷ 2 ∷ []) (10 ∷ 20 ∷ 30 ∷ 40 ∷ []) ≡ 20 ∷ 40 ∷ []
of_the_second_node = refl

the_first_two : first_of 2 (1 ∷ 3 ∷ 5 ∷ []) ≡ 1 ∷ 3 ∷ 0 ∷ []
the_first_two = refl

-- members with a value in register 5. Number 5 has word 2, and the others have word 3
abbrev member : (number value : ℕ) → Member
member number value =
    record { number = number; hart = record { registers = λ r. if r == 5 then value else 0; pc = 400; local = λ i. 0; ended = false } }

abbrev three : List Member
three = member 4 7 ∷ member 5 8 ∷ member 9 6 ∷ []

abbrev word : Member → ℕ
word m = if m.number == 5 then 2 else 3

values_of_one_word : values_for word 5 3 three ≡ 7 ∷ 6 ∷ []
values_of_one_word = refl

the_last_stays : last_or 100 (values_for word 5 3 three) ≡ 6
the_last_stays = refl

nothing_is_stored : last_or 100 (values_for word 5 4 three) ≡ 100
nothing_is_stored = refl

the_sum : sum_from 100 (values_for word 5 3 three) ≡ 113
the_sum = refl

-- words 2 and 3 are 20 and 30
they_find : map (λ m. m.hart.registers 10) (each_finds word 10 5 (λ i. if i == 2 then 20 else 30) [] three) ≡ 30 ∷ 20 ∷ 37 ∷ []
they_find = refl
