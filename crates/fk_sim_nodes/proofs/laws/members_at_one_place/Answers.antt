use Rattle.fk_sim_nodes.proofs.OnePlace.{private_of_all, loads_of_all, stores_of_all, adds_of_all}
use Rattle.fk_sim_nodes.proofs.laws.members_at_one_place.Goals as goal

pub returns : goal.returns
returns c = record { private = private_of_all; loads = loads_of_all; stores = stores_of_all; adds = adds_of_all }
