-- The groups of Layer2 as the surplus product takes them, a row of records: of each group its power and its δ.
use Rattle.std.specs.Prelude.{ℕ, ◌^◌, ◌≤◌, ◌<◌, List, [], map}
use Rattle.meaning.specs.Layers.{Group}
use Rattle.layers.specs.declared.records.Record.{Record}

-- the group that a record stands for: where its term lies does not matter to the product, and δ is from 0 on
abbrev pub group_of : Record → Group
group_of r = record { power = r.power; term = []; low = 0; past = r.delta }

abbrev pub groups_in : List Record → List Group
groups_in rs = map group_of rs

-- a record of width p
pub record IsRecord (p : ℕ) (r : Record) : Type 0 where
  pub below : r.power < p
  pub most : r.delta ≤ 2 ^ p
