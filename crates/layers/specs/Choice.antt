-- The equality to go by, as code answers it.
use Rattle.std.specs.Prelude.{ℕ, Option, Some, None}
use Rattle.meaning.specs.Layers.{Chosen}
use Rattle.layers.specs.declared.layer1.Choice.{Choice}

-- the width where no equality has the word
abbrev pub choice_of : ℕ → Option Choice → Chosen
choice_of p None = record { power = p; at = 0 }
choice_of p (Some c) = record { power = c.power; at = c.at }
