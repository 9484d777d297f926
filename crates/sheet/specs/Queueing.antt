-- The pairs of a sheet in the order in which steps take them. Only the type of a sheet and contracts of private functions
-- use these words.
use Rattle.std.specs.Prelude.{◌≡◌, ℕ, suc, ◌+◌, ◌-◌, ◌*◌, ◌<◌, min, Bool, true, false, not, ◌&&◌, ◌||◌, ◌⊎◌, List, [], ◌∷◌, map, length, ◌==◌, nat_le, slice_index, slice_index_or, slice_set}
use Rattle.std.specs.declared.cmp.Ordering.TheVariants.{Less, Equal, Greater}
use Rattle.std.specs.declared.cmp.Ordering.{Ordering}
use Rattle.monomial.specs.Monomial.{Wide}
use Rattle.monomial.specs.Order.{Compare}
use Rattle.monomial.specs.Division.{Within, member}
use Rattle.reduction.specs.declared.table.Row.{Row}
use Rattle.reduction.specs.declared.table.Lead.{Lead}
use Rattle.sheet.specs.declared.queue.Pick.{Pick}
use Rattle.sheet.specs.Marks.{marked}

-- the monomial times variable v, with 255 for an exponent that is larger
abbrev pub capped_raise : List ℕ → ℕ → List ℕ
capped_raise m v = slice_set m (v - 1) (min (slice_index m (v - 1) + 1) 255)

abbrev pub no_lead : Lead
no_lead = record { monomial = record { exponents = [] }; multiplicative = [] }

abbrev pub no_pick : Pick
no_pick = record { row = 0; variable = 0; height = record { exponents = [] } }

-- what stands beside row k, which counts from 1
abbrev pub lead_at : List Row → ℕ → Lead
lead_at rows k = slice_index_or (map (λ r. r.lead) rows) (k - 1) no_lead

-- pick i, which counts from 0
abbrev pub pick_at : List Pick → ℕ → Pick
pick_at picks i = slice_index_or picks i no_pick

-- variable v is not multiplicative and the pair is not marked
abbrev pub is_open : Lead → List (List Bool) → ℕ → ℕ → Bool
is_open l xs k v = not (slice_index_or l.multiplicative (v - 1) false) && not (marked xs k v)

abbrev pub opens : List Row → List (List Bool) → Pick → Bool
opens rows xs p = is_open (lead_at rows p.row) xs p.row p.variable

-- the first i pairs are not open
abbrev pub Passed : List Row → List (List Bool) → List Pick → ℕ → Type 0
Passed rows xs picks i = (j : ℕ) → j < i → opens rows xs (pick_at picks j) ≡ false

-- pick i is open
abbrev pub Waits : List Row → List (List Bool) → List Pick → ℕ → Type 0
Waits rows xs picks i = (i < length picks) × (opens rows xs (pick_at picks i) ≡ true)

-- from how two heights compare: whether a pick of row j may stand before one of row k
abbrev pub in_turn : Ordering → ℕ → ℕ → Bool
in_turn Less j k = true
in_turn Equal j k = nat_le j k
in_turn Greater j k = false

abbrev pub has : List Pick → ℕ → ℕ → Bool
has [] k v = false
has (p ∷ picks) k v = (p.row == k && p.variable == v) || has picks k v

-- the picks of rows with these leading monomials: all pairs of the first N rows, and of the next row those at variables below m
pub record Filled (O : Compare) (n : ℕ) (leads : List (List ℕ)) (N m : ℕ) (picks : List Pick) : Type 0 where
  pub wide : (k : ℕ) → Within k (length leads) → Wide (member leads k)
  pub rows : (i : ℕ) → i < length picks → Within (pick_at picks i).row (length leads)
  pub variables : (i : ℕ) → i < length picks → Within (pick_at picks i).variable n
  pub heights : (i : ℕ) → i < length picks → (pick_at picks i).height.exponents ≡ capped_raise (member leads (pick_at picks i).row) (pick_at picks i).variable
  pub rises : (i j : ℕ) → i < j → j < length picks → in_turn (O (pick_at picks i).height.exponents (pick_at picks j).height.exponents) (pick_at picks i).row (pick_at picks j).row ≡ true
  pub all : (k v : ℕ) → Within v n → Within k N ⊎ ((k ≡ suc N) × (v < m)) → has picks k v ≡ true
  pub few : length picks < N * 6 + m

-- all pairs of these rows
abbrev pub Queued : Compare → ℕ → List (List ℕ) → List Pick → Type 0
Queued O n leads picks = Filled O n leads (length leads) 1 picks
