-- The values of a line in an array: value j stands at j + 1; past 18 they are counted as 19 and not kept.
use Rattle.std.specs.Prelude.{◌≡◌, List, ℕ, ◌+◌, ◌≤◌, ◌<◌, length, get_or}
use Rattle.listing.specs.declared.entry.Values.{Values}

pub record Stored (v : Values) (vs : List ℕ) : Type 0 where
  pub long : length v.words ≡ 19
  pub count : length vs ≤ 18 → v.count ≡ length vs
  pub over : 18 < length vs → v.count ≡ 19
  pub here : (j : ℕ) → j < 18 → get_or v.words (j + 1) 0 ≡ get_or vs j 0
