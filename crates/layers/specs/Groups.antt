-- The groups of Layer2 as code holds them, in a table by their power.
use Rattle.std.specs.Prelude.{ℕ, zero, suc, ◌^◌, ◌≤◌, ◌<◌, ◌≡◌, Bool, true, cond, ◌&&◌, List, [], ◌∷◌, Option, Some, None, IfSome}
use Rattle.std.specs.Prelude.{ltb, length, get_or}
use Rattle.meaning.specs.Lists.{all_of, same}
use Rattle.meaning.specs.Layers.{Bound, Group, delta, Groups}
use Rattle.layers.specs.declared.layer2.Bound.{Bound as HeldBound}
use Rattle.layers.specs.declared.layer2.Group.{Group as HeldGroup}

abbrev pub bound_of : HeldBound → Bound
bound_of b = record { term = b.term.now.w; other = b.other.now.w; above = b.above; strict = b.strict }

abbrev pub group_at : ℕ → HeldGroup → Group
group_at k g = record { power = k; term = g.term.now.w; low = g.low; past = g.past }

-- the group of power k, if there is one, in front of those of lesser powers
abbrev pub slot : ℕ → Option HeldGroup → List Group → List Group
slot k None gs = gs
slot k (Some g) gs = group_at k g ∷ gs

-- the groups of the powers below n, greatest first
unfoldable pub groups_below : List (Option HeldGroup) → ℕ → List Group
groups_below table zero = []
groups_below table (suc k) = slot k (get_or table k None) (groups_below table k)

abbrev pub groups_of : List (Option HeldGroup) → Groups
groups_of table = record { row = groups_below table 32; apart = true }

-- a group of width p: something lies between its ends
pub record IsGroup (p : ℕ) (g : HeldGroup) : Type 0 where
  pub between : g.low < g.past
  pub most : g.past ≤ 2 ^ p

-- a table of groups of the powers below p
pub record IsTable (p : ℕ) (table : List (Option HeldGroup)) : Type 0 where
  pub long : length table ≡ 32
  pub below : (k : ℕ) → p ≤ k → get_or table k None ≡ None
  pub groups : (k : ℕ) → IfSome (get_or table k None) (IsGroup p)

-- the group that a bound goes into: what stands at its power, if its term is the bound's, or a new one where nothing does
abbrev pub opened : ℕ → HeldBound → Option HeldGroup → Option HeldGroup
opened p b None = Some (record { term = b.term; low = 0; past = 2 ^ p })
opened p b (Some g) = cond (same b.term.now.w g.term.now.w) (Some g) None

-- the groups are apart, and no δ is 0: without that there is no surplus
abbrev pub positive : Group → Bool
positive g = ltb 0 (delta g)

unfoldable pub sound : Groups → Bool
sound g = g.apart && all_of positive g.row
