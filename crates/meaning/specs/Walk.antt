-- Walks over the listed words: "Tidy the sheet. While a listed word is not hidden, walk the unhidden listed words in list
-- order and try each; tidy after each success. Stop after a walk that hides none." A walk goes over positions of the list in
-- an order, and list order is one.
use Rattle.std.specs.Prelude.{ℕ, zero, suc, ◌<◌, ◌≡◌, ◌↔◌, ◌≢◌, Bool, true, false, not, List, [], ◌∷◌, eqb, length, get_or, set, replicate}
use Rattle.meaning.specs.Lists.{all_of, same, Listed, EachPair}
use Rattle.meaning.specs.Sheet.{Sheet, Work}
use Rattle.meaning.specs.Tidy.{tidy, working}
use Rattle.meaning.specs.Layers.{try, Tried}

-- ---- one walk

-- "tidy after each success"
unfoldable pub settled : ℕ → ℕ → Work → Work
settled p zero w = w
settled p (suc fate) w = tidy p w

-- the sheet, and the fates "in list order", so far
pub record Walked : Type 0 where
  pub work : Work
  pub fates : List ℕ

-- the turn of the listed word at position i: it is tried, and its fate set there
unfoldable pub turned : ℕ → List ℕ → ℕ → Walked → Walked
turned p xs i s =
    let t : Tried = try p (get_or xs i 0) s.work in
    record { work = settled p t.fate t.work; fates = set s.fates i t.fate }

-- one walk over the positions js of the list xs
unfoldable pub walk : ℕ → List ℕ → List ℕ → Walked → Walked
walk p xs [] s = s
walk p xs (j ∷ js) s = walk p xs js (turned p xs j s)

-- ---- orders

-- the positions that a walk goes over, by the list, and by the sheet and the fates at the walk's start
abbrev pub Order : Type 0
Order = List ℕ → Walked → List ℕ

-- one walk in the order o
abbrev pub walk_in : Order → ℕ → List ℕ → Walked → Walked
walk_in o p xs s = walk p xs (o xs s) s

-- the positions of the words that are not hidden, of those from position i on, whose fates are fs
unfoldable pub unhidden_from : ℕ → List ℕ → List ℕ
unhidden_from i [] = []
unhidden_from i (zero ∷ fs) = i ∷ unhidden_from (suc i) fs
unhidden_from i (suc f ∷ fs) = unhidden_from (suc i) fs

-- "the unhidden listed words in list order"
unfoldable pub list_order : Order
list_order xs s = unhidden_from 0 s.fates

-- ---- all the walks

-- the sheet in the end, the fates "in list order", and the number of walks
pub record State : Type 0 where
  pub work : Work
  pub fates : List ℕ
  pub walks : ℕ

-- the end, where no walk is made
abbrev pub ended : Walked → State
ended s = record { work = s.work; fates = s.fates; walks = 0 }

-- the end r, one walk before it counted
abbrev pub one_more : State → State
one_more r = record { work = r.work; fates = r.fates; walks = suc r.walks }

abbrev pub all_hidden : List ℕ → Bool
all_hidden fs = all_of (λ f. not (eqb f 0)) fs

-- "the walk count of any call is at most the length of the list": t bounds the walks and never cuts one short
unfoldable pub walks_from : Order → ℕ → ℕ → List ℕ → Walked → State
walks_from o zero p xs s = ended s
walks_from o (suc t) p xs s =
    elim (all_hidden s.fates) [
      | true ↦ ended s
      | false ↦
          let w : Walked = walk_in o p xs s in
          elim (same w.fates s.fates) [ true ↦ one_more (ended w) | false ↦ one_more (walks_from o t p xs w) ]
    ]

-- "Tidy the sheet.": no word is hidden yet
abbrev pub start : List ℕ → Sheet → Walked
start xs s = record { work = tidy s.width (working s); fates = replicate (length xs) 0 }

-- what the walks in the order o come to: "An empty list makes 0 walks."
unfoldable pub hidden_in : Order → List ℕ → Sheet → State
hidden_in o xs s = walks_from o (length xs) s.width xs (start xs s)

-- "in list order"
abbrev pub hidden : List ℕ → Sheet → State
hidden xs s = hidden_in list_order xs s

-- ---- the same declared: the unhidden positions; an order; the walks of an order; what they end in

-- the positions js are those of the fates fs that are 0, each named once
pub record Unhidden (fs js : List ℕ) : Type 0 where
  pub once : EachPair ◌≢◌ js
  pub named : (i : ℕ) → Listed i js ↔ ((i < length fs) × (get_or fs i 0 ≡ 0))

-- an order names each unhidden position once, whatever the sheet and the fates
pub record IsOrder (o : Order) : Type 0 where
  pub names : (xs : List ℕ) (s : Walked) → length s.fates ≡ length xs → Unhidden s.fates (o xs s)

-- the walks in the order o over the list xs, from the sheet and the fates at their start to the end
pub data Walks (o : Order) (p : ℕ) (xs : List ℕ) : Walked → State → Type 0 where
  -- "While a listed word is not hidden, walk"
  over : {s : Walked} → all_hidden s.fates ≡ true → Walks o p xs s (ended s)
  -- "Stop after a walk that hides none."
  last : {s : Walked} → all_hidden s.fates ≡ false → (walk_in o p xs s).fates ≡ s.fates
      → Walks o p xs s (one_more (ended (walk_in o p xs s)))
  -- one that hides a word is not the last
  again : {s : Walked} {r : State} → all_hidden s.fates ≡ false → (walk_in o p xs s).fates ≢ s.fates
      → Walks o p xs (walk_in o p xs s) r → Walks o p xs s (one_more r)

-- the walks in an order over the list xs end in r: "Tidy the sheet.", and walk
pub record Ends (o : Order) (xs : List ℕ) (s : Sheet) (r : State) : Type 0 where
  pub order : IsOrder o
  pub walks : Walks o s.width xs (start xs s) r
